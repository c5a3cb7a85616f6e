-- The step of `tokens_of_all`: one more file has its tokens, or the first fault.
use Rattle.std.proofs.Common.{◌≡◌, ℕ, suc, ◌+◌, ◌<◌, List, [], ◌∷◌, ◌++◌, length, take, drop, get_or, map, sym, ◌∙◌, ap, subst, arith, Result, Ok, Err}
use Rattle.std.proofs.lemmas.List.{length-map, length-take-le, take_more, take-append-drop}
use Rattle.std.proofs.Math.ListN.{get_or-map}
use Rattle.std.proofs.Math.Seq.{drop-cons}
use Rattle.asl_syn.specs.declared.place.Source.{Source}
use Rattle.asl_syn.specs.declared.token.Token.{Token}
use Rattle.std.specs.Prelude.{IsErrAnd}
use Rattle.asl_syn.specs.declared.code.Fault.{Fault}
use Rattle.asl_syn.specs.declared.code.Refused.{Refused}
use Rattle.asl_syn.specs.declared.code.Refused.TheVariants.{At}
use Rattle.asl_grammar.specs.lexemes.Refusals.{max_width}
use Rattle.asl_grammar.specs.lexemes.Tokens.{Tokens, LexFault}
use Rattle.asl_grammar.specs.lexemes.Files.{AllTokens, FirstLexFault}
use Rattle.asl_grammar.proofs.lexemes.Files.{AllTokens_more, fault_behind}

abbrev pub bytes_of : Source → List ℕ
bytes_of s = s.bytes.items

module _ (files : List Source) (i : ℕ) (s : Source) (tss : List (List Token)) (within : i < length files) (is : s ≡ get_or files i s)
    (before : AllTokens max_width 0 (take i (map bytes_of files)) tss) where
  inside : i < length (map bytes_of files)
  inside = let e : length (map bytes_of files) ≡ length files = length-map files bytes_of in omega arith

  here : get_or (map bytes_of files) i (bytes_of s) ≡ bytes_of s
  here = get_or-map bytes_of files i s ∙ ap bytes_of (sym is)

  count : i ≡ 0 + length (take i (map bytes_of files))
  count = let e = length-take-le i (map bytes_of files) (let l = inside in omega arith) in omega arith

  pub one_more : (ts : List Token) → Tokens max_width i (bytes_of s) ts → AllTokens max_width 0 (take (i + 1) (map bytes_of files)) (tss ++ ts ∷ [])
  one_more ts t =
      let e = take_more (map bytes_of files) i (bytes_of s) inside in
      let f : take (i + 1) (map bytes_of files) ≡ take i (map bytes_of files) ++ bytes_of s ∷ [] = e ∙ ap (λ b. take i (map bytes_of files) ++ b ∷ []) here in
      subst (λ z. AllTokens max_width 0 z (tss ++ ts ∷ [])) (sym f)
      (AllTokens_more max_width 0 (take i (map bytes_of files)) tss (bytes_of s) ts before (subst (λ n. Tokens max_width n (bytes_of s) ts) count t))

  pub fault_here : (f : Fault) → LexFault max_width i (bytes_of s) f → FirstLexFault max_width 0 (map bytes_of files) f
  fault_here f l =
      let xs = map bytes_of files in
      let e : drop i xs ≡ get_or xs i (bytes_of s) ∷ drop (suc i) xs = drop-cons xs i (bytes_of s) inside in
      let g : take i xs ++ bytes_of s ∷ drop (suc i) xs ≡ xs =
      ap (λ b. take i xs ++ b ∷ drop (suc i) xs) (sym here) ∙ ap (λ d. take i xs ++ d) (sym e) ∙ take-append-drop i xs in
      subst (λ z. FirstLexFault max_width 0 z f) g
      (fault_behind max_width 0 (take i xs) (drop (suc i) xs) tss (bytes_of s) f before (subst (λ n. LexFault max_width n (bytes_of s) f) count l))

-- a refusal that is handed on by `?`
pub handed_on : {A : Type 0} (r : Result A Refused) (x : Refused) (f : Fault) → IsErrAnd r (λ e. e ≡ x) → r ≡ Err (At f) → x ≡ At f
handed_on (Ok a) x f same is = absurd same
handed_on (Err e) x f same is = let g : e ≡ At f = cc in sym same ∙ g
