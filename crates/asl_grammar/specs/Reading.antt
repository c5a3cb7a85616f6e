-- What files are read to: the declarations of all of them in order, or their one fault. First each text is read to its
-- tokens, then the tokens of each text to its tree. The fault is the first that is met on this way.
use Rattle.std.specs.Prelude.{◌≡◌, ℕ, ◌+◌, ◌⊎◌, List, [], ◌∷◌, ◌++◌, map, string_bytes, Result, Ok, Err}
use Rattle.asl_syn.specs.declared.code.Fault.{Fault}
use Rattle.asl_syn.specs.declared.place.Source.{Source}
use Rattle.asl_syn.specs.declared.token.Token.{Token}
use Rattle.asl_syn.specs.declared.read.ReadDecl.{ReadDecl}
use Rattle.asl_grammar.specs.lexemes.Refusals.{max_width}
use Rattle.asl_grammar.specs.lexemes.Files.{AllTokens, FirstLexFault}
use Rattle.asl_grammar.specs.grammar.Faults.{Parses, SyntaxFault}

abbrev pub Text : Type 0
Text = List ℕ

-- a file: its name as it was given, and its bytes
abbrev pub File : Type 0
File = Text × Text

-- the text of a source, and its file
abbrev pub text_of : Source → Text
text_of s = s.bytes.items

abbrev pub file_of : Source → File
file_of s = (string_bytes s.name, text_of s)

-- these declarations are those of the trees of the texts, one text behind the other
abbrev pub HasTrees : List Text → List (List Token) → List ReadDecl → Type 0
HasTrees [] [] ds = ds ≡ []
HasTrees [] (ts ∷ tss) ds = ⊥
HasTrees (text ∷ texts) [] ds = ⊥
HasTrees (text ∷ texts) (ts ∷ tss) ds = (v vs : List ReadDecl) × Parses text ts v × HasTrees texts tss vs × (ds ≡ v ++ vs)

-- the syntax fault of the first text that has one; the texts are numbered from n on
abbrev pub FirstSyntaxFault : ℕ → List Text → List (List Token) → Fault → Type 0
FirstSyntaxFault n [] tss f = ⊥
FirstSyntaxFault n (text ∷ texts) [] f = ⊥
FirstSyntaxFault n (text ∷ texts) (ts ∷ tss) f = SyntaxFault n text ts f ⊎ ((v : List ReadDecl) × Parses text ts v × FirstSyntaxFault (n + 1) texts tss f)

-- the texts have tokens, under this width limit, and trees, whose declarations are these
pub record AreParsed (limit : ℕ) (texts : List Text) (ds : List ReadDecl) : Type 0 where
  pub tokens : List (List Token)
  pub lexemes : AllTokens limit 0 texts tokens
  pub trees : HasTrees texts tokens ds

-- the texts have tokens, and one of them a syntax fault
pub record AreRefused (limit : ℕ) (texts : List Text) (f : Fault) : Type 0 where
  pub tokens : List (List Token)
  pub lexemes : AllTokens limit 0 texts tokens
  pub fault : FirstSyntaxFault 0 texts tokens f

-- what the grammar says of texts under a width limit
abbrev pub Parsed : ℕ → List Text → Result (List ReadDecl) Fault → Type 0
Parsed limit texts (Ok ds) = AreParsed limit texts ds
Parsed limit texts (Err f) = FirstLexFault limit 0 texts f ⊎ AreRefused limit texts f

-- the files are read to this under a width limit
abbrev pub ReadsAt : ℕ → List File → Result (List ReadDecl) Fault → Type 0
ReadsAt limit files r = Parsed limit (map (λ f. f.1) files) r

-- and under that of the program
abbrev pub Reads : List File → Result (List ReadDecl) Fault → Type 0
Reads files r = ReadsAt max_width files r

-- what each list of files is read to
abbrev pub Reader : Type 0
Reader = List File → Result (List ReadDecl) Fault

abbrev pub IsReadingAt : ℕ → Reader → Type 0
IsReadingAt limit read = (files : List File) → ReadsAt limit files (read files)

abbrev pub IsReading : Reader → Type 0
IsReading read = IsReadingAt max_width read
