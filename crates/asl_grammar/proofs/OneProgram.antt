-- Files are read to one answer.
use Rattle.std.proofs.Common.{◌≡◌, ℕ, ◌+◌, ◌⊎◌, inl, inr, List, [], ◌∷◌, ◌++◌, map, Result, Ok, Err, refl, ap, sym, ◌∙◌, subst}
use Rattle.asl_syn.specs.declared.code.Fault.{Fault}
use Rattle.asl_syn.specs.declared.token.Token.{Token}
use Rattle.asl_syn.specs.declared.read.ReadDecl.{ReadDecl}
use Rattle.asl_grammar.specs.lexemes.Refusals.{max_width}
use Rattle.asl_grammar.specs.lexemes.Files.{AllTokens, FirstLexFault}
use Rattle.asl_grammar.specs.Reading.{Text, File, HasTrees, FirstSyntaxFault, AreParsed, AreRefused, Parsed, ReadsAt, Reads, Reader, IsReadingAt, IsReading}
use Rattle.asl_grammar.proofs.lexemes.OneReadingOfFiles.{one_all_tokens, one_first_fault, never_both_of_files, some_reading_of_files}
use Rattle.asl_grammar.proofs.grammar.OneFault.{one_parse, one_syntax_fault, no_tree_where_fault}
use Rattle.asl_grammar.proofs.grammar.Ends.{Known, tree_or_fault}

one_list : (texts : List Text) (tss : List (List Token)) (ds es : List ReadDecl) → HasTrees texts tss ds → HasTrees texts tss es → ds ≡ es
one_list [] [] ds es a b = a ∙ sym b
one_list [] (ts ∷ tss) ds es a b = absurd a
one_list (text ∷ texts) [] ds es a b = absurd a
one_list (text ∷ texts) (ts ∷ tss) ds es (v, vs, p, r, e) (w, ws, q, s, f) =
    let head : v ≡ w = one_parse text ts v w p q in
    let tail : vs ≡ ws = one_list texts tss vs ws r s in
    e ∙ ap (λ z. z ++ vs) head ∙ ap (λ z. w ++ z) tail ∙ sym f

one_fault : (n : ℕ) (texts : List Text) (tss : List (List Token)) (f g : Fault) → FirstSyntaxFault n texts tss f → FirstSyntaxFault n texts tss g → f ≡ g
one_fault n [] tss f g a b = absurd a
one_fault n (text ∷ texts) [] f g a b = absurd a
one_fault n (text ∷ texts) (ts ∷ tss) f g (inl a) (inl b) = one_syntax_fault n text ts f g a b
one_fault n (text ∷ texts) (ts ∷ tss) f g (inl a) (inr (v, p, b)) = absurd (no_tree_where_fault n text ts f v a p)
one_fault n (text ∷ texts) (ts ∷ tss) f g (inr (v, p, a)) (inl b) = absurd (no_tree_where_fault n text ts g v b p)
one_fault n (text ∷ texts) (ts ∷ tss) f g (inr (v, p, a)) (inr (w, q, b)) = one_fault (n + 1) texts tss f g a b

never_both : (n : ℕ) (texts : List Text) (tss : List (List Token)) (ds : List ReadDecl) (f : Fault) → HasTrees texts tss ds → FirstSyntaxFault n texts tss f → ⊥
never_both n [] tss ds f a b = b
never_both n (text ∷ texts) [] ds f a b = b
never_both n (text ∷ texts) (ts ∷ tss) ds f (v, vs, p, r, e) (inl b) = no_tree_where_fault n text ts f v b p
never_both n (text ∷ texts) (ts ∷ tss) ds f (v, vs, p, r, e) (inr (w, q, b)) = never_both (n + 1) texts tss vs f r b

abbrev Trees : ℕ → List Text → List (List Token) → Type 0
Trees n texts tss = ((ds : List ReadDecl) × HasTrees texts tss ds) ⊎ ((f : Fault) × FirstSyntaxFault n texts tss f)

with_text : (n : ℕ) (text : Text) (texts : List Text) (ts : List Token) (tss : List (List Token)) → Known n text ts → Trees (n + 1) texts tss → Trees n (text ∷ texts) (ts ∷ tss)
with_text n text texts ts tss (inl (v, p)) (inl (vs, r)) = inl (v ++ vs, (v, vs, p, r, refl))
with_text n text texts ts tss (inl (v, p)) (inr (f, b)) = inr (f, inr (v, p, b))
with_text n text texts ts tss (inr (f, b)) more = inr (f, inl b)

some_trees : (n limit m : ℕ) (texts : List Text) (tss : List (List Token)) → AllTokens limit m texts tss → Trees n texts tss
some_trees n limit m [] [] a = inl ([], refl)
some_trees n limit m [] (ts ∷ tss) a = absurd a
some_trees n limit m (text ∷ texts) [] a = absurd a
some_trees n limit m (text ∷ texts) (ts ∷ tss) a = with_text n text texts ts tss (tree_or_fault n text ts) (some_trees (n + 1) limit (m + 1) texts tss a.1)

-- ---- what the grammar says of texts, and what files are read to, under a width limit

module _ (limit : ℕ) where
  one_parsed_list : (texts : List Text) (ds es : List ReadDecl) → AreParsed limit texts ds → AreParsed limit texts es → ds ≡ es
  one_parsed_list texts ds es a b =
      let same : b.tokens ≡ a.tokens = one_all_tokens limit 0 texts b.tokens a.tokens b.lexemes a.lexemes in
      one_list texts a.tokens ds es a.trees (subst (λ tss. HasTrees texts tss es) same b.trees)

  never_refused : (texts : List Text) (ds : List ReadDecl) (f : Fault) → AreParsed limit texts ds → AreRefused limit texts f → ⊥
  never_refused texts ds f a b =
      let same : b.tokens ≡ a.tokens = one_all_tokens limit 0 texts b.tokens a.tokens b.lexemes a.lexemes in
      never_both 0 texts a.tokens ds f a.trees (subst (λ tss. FirstSyntaxFault 0 texts tss f) same b.fault)

  never_parsed : (texts : List Text) (ds : List ReadDecl) (f : Fault) → AreParsed limit texts ds → FirstLexFault limit 0 texts f ⊎ AreRefused limit texts f → ⊥
  never_parsed texts ds f a (inl b) = never_both_of_files limit 0 texts a.tokens f a.lexemes b
  never_parsed texts ds f a (inr b) = never_refused texts ds f a b

  one_parsed_fault : (texts : List Text) (f g : Fault) → FirstLexFault limit 0 texts f ⊎ AreRefused limit texts f → FirstLexFault limit 0 texts g ⊎ AreRefused limit texts g → f ≡ g
  one_parsed_fault texts f g (inl a) (inl b) = one_first_fault limit 0 texts f g a b
  one_parsed_fault texts f g (inl a) (inr b) = absurd (never_both_of_files limit 0 texts b.tokens f b.lexemes a)
  one_parsed_fault texts f g (inr a) (inl b) = absurd (never_both_of_files limit 0 texts a.tokens g a.lexemes b)
  one_parsed_fault texts f g (inr a) (inr b) =
      let same : b.tokens ≡ a.tokens = one_all_tokens limit 0 texts b.tokens a.tokens b.lexemes a.lexemes in
      one_fault 0 texts a.tokens f g a.fault (subst (λ tss. FirstSyntaxFault 0 texts tss g) same b.fault)

  one_parsed : (texts : List Text) (r s : Result (List ReadDecl) Fault) → Parsed limit texts r → Parsed limit texts s → r ≡ s
  one_parsed texts (Ok ds) (Ok es) a b = ap Ok (one_parsed_list texts ds es a b)
  one_parsed texts (Ok ds) (Err g) a b = absurd (never_parsed texts ds g a b)
  one_parsed texts (Err f) (Ok es) a b = absurd (never_parsed texts es f b a)
  one_parsed texts (Err f) (Err g) a b = ap Err (one_parsed_fault texts f g a b)

  abbrev SomeParsed : List Text → Type 0
  SomeParsed texts = (r : Result (List ReadDecl) Fault) × Parsed limit texts r

  from_trees : (texts : List Text) (tss : List (List Token)) → AllTokens limit 0 texts tss → Trees 0 texts tss → SomeParsed texts
  from_trees texts tss a (inl (ds, t)) = (Ok ds, record { tokens = tss; lexemes = a; trees = t })
  from_trees texts tss a (inr (f, b)) = (Err f, inr (record { tokens = tss; lexemes = a; fault = b }))

  from_tokens : (texts : List Text) → ((tss : List (List Token)) × AllTokens limit 0 texts tss) ⊎ ((f : Fault) × FirstLexFault limit 0 texts f) → SomeParsed texts
  from_tokens texts (inl (tss, a)) = from_trees texts tss a (some_trees 0 limit 0 texts tss a)
  from_tokens texts (inr (f, b)) = (Err f, inl b)

  pub one_answer_at : (files : List File) (r s : Result (List ReadDecl) Fault) → ReadsAt limit files r → ReadsAt limit files s → r ≡ s
  one_answer_at files r s a b = one_parsed (map (λ f. f.1) files) r s a b

  some_answer : (files : List File) → (r : Result (List ReadDecl) Fault) × ReadsAt limit files r
  some_answer files = let texts = map (λ (f : File). f.1) files in from_tokens texts (some_reading_of_files limit 0 texts)

  pub some_reader_at : (read : Reader) × IsReadingAt limit read
  some_reader_at = (λ files. (some_answer files).0, λ files. (some_answer files).1)

-- ---- under the limit of the program

pub one_answer : (files : List File) (r s : Result (List ReadDecl) Fault) → Reads files r → Reads files s → r ≡ s
one_answer = one_answer_at max_width

pub some_reader : (read : Reader) × IsReading read
some_reader = some_reader_at max_width
