-- The fault of files stands in one of them, where the spans of the trees do that the grammar reads.
use Rattle.std.proofs.Common.{◌≡◌, ℕ, ◌+◌, ◌≤◌, inl, inr, Bool, true, false, List, [], ◌∷◌, ◌++◌, map, length, refl, sym, subst, arith}
use Rattle.std.specs.List.{AllByRecursion}
use Rattle.asl_syn.specs.declared.token.Span.{Span}
use Rattle.asl_syn.specs.declared.token.Token.{Token}
use Rattle.asl_syn.specs.declared.code.Fault.{Fault}
use Rattle.asl_syn.specs.declared.tree.Decl.{Decl}
use Rattle.asl_syn.specs.declared.read.ReadDecl.{ReadDecl}
use Rattle.asl_syn.specs.declared.read.ReadDecl.TheVariants as rd
use Rattle.asl_grammar.specs.lexemes.Tokens.{Tokens}
use Rattle.asl_grammar.specs.lexemes.Texts.{HasText, LiesIn}
use Rattle.asl_grammar.specs.lexemes.Files.{AllTokens}
use Rattle.asl_grammar.specs.grammar.Cursor.{Lexeme, with_text}
use Rattle.asl_grammar.specs.grammar.Faults.{Parses, SyntaxFault, place_of, refusal, last_or, opener}
use Rattle.asl_grammar.specs.Reading.{Text, File, HasTrees, FirstSyntaxFault}
use Rattle.asl_grammar.proofs.lexemes.Placing.{tokens_stand}
use Rattle.asl_grammar.proofs.lexemes.Faults.{first_fault_stands}
use Rattle.asl_rules.specs.declared.entry.Entry.{Entry}
use Rattle.asl_rules.specs.Tests.{Tests}
use Rattle.asl_rules.specs.declarations.Programs.{origin, default_decls, final_decls}
use Rattle.asl_rules.specs.declarations.Replacing.{header_of}
use Rattle.asl_rules.specs.declarations.WrittenOut.{decl_written}
use Rattle.asl_laws.specs.Answers.{FaultOfFiles}
use Rattle.asl_laws.proofs.basics.Lists.{AllOf}
use Rattle.asl_laws.specs.Spans.{Mark, Each, Placed, all_of, decl_spans}
use Rattle.asl_laws.proofs.spans.EachSpan.{each_placed}
use Rattle.asl_laws.proofs.reading.Judged.{judged_each}
use Rattle.asl_laws.proofs.spans.KnownSpans.{fault_there}
use Rattle.asl_laws.proofs.verdict.ReadVerdict.{Faulty, HeaderSays, bodies_say, fault_of_steps}

-- the span lies in the file of this number and this text
abbrev pub Within : ℕ → Text → Span → Type 0
Within n text span = (span.file ≡ n) × (span.start + span.len ≤ length text)

-- ---- syntax faults

abbrev Lexed : ℕ → Text → Lexeme → Type 0
Lexed n text t = Within n text t.span

lexed : (limit n : ℕ) (text : Text) (ts : List Token) → AllByRecursion (HasText limit n text) ts → AllOf (Lexed n text) (map (with_text text) ts)
lexed limit n text [] h = tt
lexed limit n text (t ∷ ts) h = ((h.0.file_is, h.0.fits), lexed limit n text ts h.1)

front_of : (n : ℕ) (text : Text) (front rest : List Lexeme) → AllOf (Lexed n text) (front ++ rest) → AllOf (Lexed n text) front
front_of n text [] rest h = tt
front_of n text (t ∷ front) rest h = (h.0, front_of n text front rest h.1)

rest_of : (n : ℕ) (text : Text) (front rest : List Lexeme) → AllOf (Lexed n text) (front ++ rest) → AllOf (Lexed n text) rest
rest_of n text [] rest h = h
rest_of n text (t ∷ front) rest h = rest_of n text front rest h.1

place_within : (n : ℕ) (text : Text) (rest : List Lexeme) → AllOf (Lexed n text) rest → Within n text (place_of n (length text) rest)
place_within n text [] h = (refl, omega arith)
place_within n text (t ∷ rest) h = h.0

last_within : (n : ℕ) (text : Text) (t : Lexeme) (front : List Lexeme) → Lexed n text t → AllOf (Lexed n text) front → Lexed n text (last_or t front)
last_within n text t [] h k = h
last_within n text t (x ∷ xs) h k = last_within n text x xs k.0 k.1

opener_within : (n : ℕ) (text : Text) (front : List Lexeme) (t : Lexeme) (late : Bool) → Lexed n text t → AllOf (Lexed n text) front → Lexed n text (opener front t late)
opener_within n text front t false h k = h
opener_within n text front t true h k = last_within n text t front h k

at_fault : (n : ℕ) (text : Text) (f g : Fault) → f ≡ g → Within n text g.span → Within n text f.span
at_fault n text f g e h = subst (λ (x : Fault). Within n text x.span) (sym e) h

-- the syntax fault of a file stands in it
pub syntax_stands : (limit n : ℕ) (text : Text) (ts : List Token) (f : Fault) → Tokens limit n text ts → SyntaxFault n text ts f → Within n text f.span
syntax_stands limit n text ts f k (inl x) =
    let all = lexed limit n text ts (tokens_stand limit n text ts k) in
    at_fault n text f (refusal n (length text) x.rest) x.says (place_within n text x.rest (rest_of n text x.front x.rest (subst (AllOf (Lexed n text)) x.is all)))
syntax_stands limit n text ts f k (inr x) =
    let all = subst (AllOf (Lexed n text)) x.is (lexed limit n text ts (tokens_stand limit n text ts k)) in
    subst (λ (y : Fault). Within n text y.span) (sym x.says) (opener_within n text x.front x.token x.late (rest_of n text x.front (x.token ∷ x.rest) all).0 (front_of n text x.front (x.token ∷ x.rest) all))

first_syntax_stands : (limit n : ℕ) (texts : List Text) (tss : List (List Token)) (f : Fault) → AllTokens limit n texts tss → FirstSyntaxFault n texts tss f → LiesIn n texts f.span
first_syntax_stands limit n [] tss f k h = absurd h
first_syntax_stands limit n (text ∷ texts) [] f k h = absurd h
first_syntax_stands limit n (text ∷ texts) (ts ∷ tss) f k (inl h) = inl (syntax_stands limit n text ts f k.0 h)
first_syntax_stands limit n (text ∷ texts) (ts ∷ tss) f k (inr h) = inr (first_syntax_stands limit (n + 1) texts tss f k.1 h.2)

-- ---- all declarations

pub joined_decls : (P : Mark → Type 0) (ds es : List Decl) → Each P (all_of decl_spans ds) → Each P (all_of decl_spans es) → Each P (all_of decl_spans (ds ++ es))
joined_decls P [] es h k = k
joined_decls P (d ∷ ds) es h k = (h.0, joined_decls P ds es h.1 k)

-- the spans of what a declaration is written out as
abbrev DeclStands : (Span → Type 0) → ReadDecl → Type 0
DeclStands P d = Each (Placed P) (all_of decl_spans (decl_written d))

-- the spans of the trees that the grammar reads lie in the file
abbrev pub TreesStand : Type 0
TreesStand = (limit n : ℕ) (text : Text) (ts : List Token) (v : List ReadDecl) → Tokens limit n text ts → Parses text ts v → AllOf (DeclStands (Within n text)) v

each_decl : (P Q : Span → Type 0) → ((span : Span) → P span → Q span) → (ds : List ReadDecl) → AllOf (DeclStands P) ds → AllOf (DeclStands Q) ds
each_decl P Q k [] h = tt
each_decl P Q k (d ∷ ds) h = (each_placed P Q k (all_of decl_spans (decl_written d)) h.0, each_decl P Q k ds h.1)

append_decls : (P : Span → Type 0) (ds es : List ReadDecl) → AllOf (DeclStands P) ds → AllOf (DeclStands P) es → AllOf (DeclStands P) (ds ++ es)
append_decls P [] es h k = k
append_decls P (d ∷ ds) es h k = (h.0, append_decls P ds es h.1 k)

-- the name of a declaration with a body is among them
header_stands : (P : Span → Type 0) (d : ReadDecl) → DeclStands P d → HeaderSays (λ f. P f.span) (header_of d)
header_stands P (rd.Type d) h = tt
header_stands P (rd.Storage d) h = tt
header_stands P (rd.Func f) h = (h.0.1.0, h.0.1.0)
header_stands P (rd.Accessor a) h = (h.0.1.0, h.0.1.0)

headers_stand : (P : Span → Type 0) (ds : List ReadDecl) → AllOf (DeclStands P) ds → AllOf (λ d. HeaderSays (λ f. P f.span) (header_of d)) ds
headers_stand P [] h = tt
headers_stand P (d ∷ ds) h = (header_stands P d h.0, headers_stand P ds h.1)

module _ (trees : TreesStand) where
  all_trees : (limit n : ℕ) (texts : List Text) (tss : List (List Token)) (ds : List ReadDecl) → AllTokens limit n texts tss → HasTrees texts tss ds → AllOf (DeclStands (LiesIn n texts)) ds
  all_trees limit n [] [] ds k h = subst (AllOf (DeclStands (LiesIn n []))) (sym h) tt
  all_trees limit n [] (ts ∷ tss) ds k h = absurd h
  all_trees limit n (text ∷ texts) [] ds k h = absurd h
  all_trees limit n (text ∷ texts) (ts ∷ tss) ds k (v, vs, p, r, e) =
      subst (AllOf (DeclStands (LiesIn n (text ∷ texts)))) (sym e) (append_decls (LiesIn n (text ∷ texts)) v vs
      (each_decl (Within n text) (LiesIn n (text ∷ texts)) (λ span h. inl h) v (trees limit n text ts v k.0 p))
      (each_decl (LiesIn (n + 1) texts) (LiesIn n (text ∷ texts)) (λ span h. inr h) vs (all_trees limit (n + 1) texts tss vs k.1 r)))

  -- the fault of declarations that are read stands where these do
  read_fault_there : (P : Span → Type 0) (t : Tests) (e : Entry) (ds : List ReadDecl) (f : Fault) → P origin → AllOf (DeclStands P) ds → Faulty e ds t f → P f.span
  read_fault_there P t e ds f o h (inl m) = bodies_say (λ g. P g.span) f ds (headers_stand P ds h) m
  read_fault_there P t e ds f o h (inr (m, inl d)) = fault_there t P e (default_decls ds) f o (judged_each (λ es. Each (Placed P) (all_of decl_spans es)) tt (joined_decls (Placed P)) ds (default_decls ds) (inl refl) h) d
  read_fault_there P t e ds f o h (inr (m, inr (a, d, g))) = fault_there t P e (final_decls ds) f o (judged_each (λ es. Each (Placed P) (all_of decl_spans es)) tt (joined_decls (Placed P)) ds (final_decls ds) (inr refl) h) g

  -- the fault of files stands in one of them, where there is a file at all
  pub files_fault_stands : (limit : ℕ) (e : Entry) (file : File) (files : List File) (f : Fault) → FaultOfFiles limit e (file ∷ files) f → LiesIn 0 (map (λ g. g.1) (file ∷ files)) f.span
  files_fault_stands limit e file files f (inl (inl h)) = first_fault_stands limit 0 (map (λ g. g.1) (file ∷ files)) f h
  files_fault_stands limit e file files f (inl (inr h)) = first_syntax_stands limit 0 (map (λ g. g.1) (file ∷ files)) h.tokens f h.lexemes h.fault
  files_fault_stands limit e file files f (inr (ds, r, h)) =
      read_fault_there (LiesIn 0 (map (λ g. g.1) (file ∷ files))) h.tests e ds f (inl (refl, omega arith))
      (all_trees limit 0 (map (λ g. g.1) (file ∷ files)) r.tokens ds r.lexemes r.trees) (fault_of_steps e ds h.tests f h.is)
