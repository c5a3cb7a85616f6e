-- The trees of files: one more behind others, the first fault, and what the files are read to.
use Rattle.std.proofs.Common.{◌≡◌, ℕ, suc, ◌+◌, ◌<◌, inl, inr, List, [], ◌∷◌, ◌++◌, length, take, drop, get_or, map, refl, sym, ◌∙◌, ap, subst, arith, add-zero, append-nil, append_assoc, Result, Ok, Err}
use Rattle.std.proofs.lemmas.List.{length-map, length-take-le, take_more, take-append-drop}
use Rattle.std.proofs.Math.ListN.{get_or-map}
use Rattle.std.proofs.Math.Seq.{drop-cons}
use Rattle.std.specs.Prelude.{IsErrAnd}
use Rattle.asl_syn.specs.declared.place.Source.{Source}
use Rattle.asl_syn.specs.declared.token.Token.{Token}
use Rattle.asl_syn.specs.declared.read.ReadDecl.{ReadDecl}
use Rattle.asl_syn.specs.declared.code.Fault.{Fault}
use Rattle.asl_syn.specs.declared.code.Refused.{Refused}
use Rattle.asl_syn.specs.declared.code.Refused.TheVariants.{At}
use Rattle.asl_grammar.specs.grammar.Faults.{Parses, SyntaxFault}
use Rattle.asl_grammar.specs.lexemes.Refusals.{max_width}
use Rattle.asl_grammar.specs.Reading.{Text, File, text_of, file_of, HasTrees, FirstSyntaxFault, Parsed, Reads}

pub one_more : (texts : List Text) (tss : List (List Token)) (ds : List ReadDecl) (text : Text) (ts : List Token) (v : List ReadDecl) →
    HasTrees texts tss ds → Parses text ts v → HasTrees (texts ++ text ∷ []) (tss ++ ts ∷ []) (ds ++ v)
one_more [] [] ds text ts v none p = (v, [], p, refl, ap (λ z. z ++ v) none ∙ sym (append-nil v))
one_more [] (us ∷ tss) ds text ts v a p = absurd a
one_more (x ∷ texts) [] ds text ts v a p = absurd a
one_more (x ∷ texts) (us ∷ tss) ds text ts v (w, ws, q, r, e) p =
    (w, ws ++ v, q, one_more texts tss ws text ts v r p, ap (λ z. z ++ v) e ∙ append_assoc w ws v)

pub fault_behind : (n : ℕ) (texts others : List Text) (tss uss : List (List Token)) (ds : List ReadDecl) (text : Text) (ts : List Token) (f : Fault) →
    HasTrees texts tss ds → SyntaxFault (n + length texts) text ts f → FirstSyntaxFault n (texts ++ text ∷ others) (tss ++ ts ∷ uss) f
fault_behind n [] others [] uss ds text ts f a s = let e : n + 0 ≡ n = add-zero n in inl (subst (λ z. SyntaxFault z text ts f) e s)
fault_behind n [] others (us ∷ tss) uss ds text ts f a s = absurd a
fault_behind n (x ∷ texts) others [] uss ds text ts f a s = absurd a
fault_behind n (x ∷ texts) others (us ∷ tss) uss ds text ts f (w, ws, q, r, e) s =
    let count : n + suc (length texts) ≡ (n + 1) + length texts = omega arith in
    inr (w, q, fault_behind (n + 1) texts others tss uss ws text ts f r (subst (λ z. SyntaxFault z text ts f) count s))

-- a list by what stands before one of its items, the item, and what is behind
cut : {A : Type 0} (xs : List A) (i : ℕ) (x : A) → i < length xs → get_or xs i x ≡ x → take i xs ++ x ∷ drop (suc i) xs ≡ xs
cut xs i x within is =
    ap (λ b. take i xs ++ b ∷ drop (suc i) xs) (sym is) ∙ ap (λ d. take i xs ++ d) (sym (drop-cons xs i x within)) ∙ take-append-drop i xs

more : {A : Type 0} (xs : List A) (i : ℕ) (x : A) → i < length xs → get_or xs i x ≡ x → take (i + 1) xs ≡ take i xs ++ x ∷ []
more xs i x within is = take_more xs i x within ∙ ap (λ b. take i xs ++ b ∷ []) is

module _ (texts : List Text) (tss : List (List Token)) (i : ℕ) (text : Text) (ts : List Token) (ds : List ReadDecl)
    (within : i < length texts) (within_tokens : i < length tss) (is : get_or texts i text ≡ text) (are : get_or tss i ts ≡ ts)
    (before : HasTrees (take i texts) (take i tss) ds) where
  pub next : (v : List ReadDecl) → Parses text ts v → HasTrees (take (i + 1) texts) (take (i + 1) tss) (ds ++ v)
  next v p =
      subst (λ z. HasTrees z (take (i + 1) tss) (ds ++ v)) (sym (more texts i text within is))
      (subst (λ z. HasTrees (take i texts ++ text ∷ []) z (ds ++ v)) (sym (more tss i ts within_tokens are))
      (one_more (take i texts) (take i tss) ds text ts v before p))

  pub fault_here : (f : Fault) → SyntaxFault i text ts f → FirstSyntaxFault 0 texts tss f
  fault_here f s =
      let count : i ≡ 0 + length (take i texts) = (let e = length-take-le i texts (omega (arith, within)) in omega arith) in
      subst (λ z. FirstSyntaxFault 0 z tss f) (cut texts i text within is)
      (subst (λ z. FirstSyntaxFault 0 (take i texts ++ text ∷ drop (suc i) texts) z f) (cut tss i ts within_tokens are)
      (fault_behind 0 (take i texts) (drop (suc i) texts) (take i tss) (drop (suc i) tss) ds text ts f before (subst (λ n. SyntaxFault n text ts f) count s)))

-- what a map has at a place
pub mapped_at : {A B : Type 0} (f : A → B) (xs : List A) (i : ℕ) (x : A) → x ≡ get_or xs i x → get_or (map f xs) i (f x) ≡ f x
mapped_at f xs i x is = get_or-map f xs i x ∙ ap f (sym is)

pub map_within : {A B : Type 0} (f : A → B) (xs : List A) (i : ℕ) → i < length xs → i < length (map f xs)
map_within f xs i l = let e : length (map f xs) ≡ length xs = length-map xs f in omega (arith, l, e)

-- a refusal that is handed on by `?`
pub handed_on : {A : Type 0} (r : Result A Refused) (x : Refused) (f : Fault) → IsErrAnd r (λ e. e ≡ x) → r ≡ Err (At f) → x ≡ At f
handed_on (Ok a) x f same is = absurd same
handed_on (Err e) x f same is = let g : e ≡ At f = cc in sym same ∙ g

-- ---- what files are read to, by their texts

texts_are : (files : List Source) → map text_of files ≡ map (λ (f : File). f.1) (map file_of files)
texts_are [] = refl
texts_are (s ∷ files) = ap (λ ts. text_of s ∷ ts) (texts_are files)

pub read_to : (files : List Source) (r : Result (List ReadDecl) Fault) → Parsed max_width (map text_of files) r → Reads (map file_of files) r
read_to files r p = subst (λ texts. Parsed max_width texts r) (texts_are files) p
