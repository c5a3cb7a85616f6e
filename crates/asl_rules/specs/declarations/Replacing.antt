-- Bodies that replace others: which `implementation` matches which `impdef`, and the two programs that come of the declarations that
-- are read, the one with the bodies that may be replaced, and the other with those that replace them.
use Rattle.std.specs.Prelude.{Bool, true, false, ◌&&◌, if◌then◌else◌, not, List, [], ◌∷◌, ◌++◌, Option, Some, None, Result, Ok}
use Rattle.std.specs.Str.{bytes_eq}
use Rattle.asl_syn.specs.declared.token.Span.{Span}
use Rattle.asl_syn.specs.declared.code.Fault.{Fault}
use Rattle.asl_syn.specs.declared.code.StaticCode.TheVariants.{T26, T27}
use Rattle.asl_syn.specs.declared.read.BodyWord.{BodyWord}
use Rattle.asl_syn.specs.declared.read.BodyWord.TheVariants.{NoWord, ImpDef, Implementation}
use Rattle.asl_syn.specs.declared.read.ReadDecl.{ReadDecl}
use Rattle.asl_syn.specs.declared.read.ReadDecl.TheVariants as rd
use Rattle.asl_rules.specs.Faults.{◌>>◌, need}
use Rattle.asl_rules.specs.declarations.Keys.{Key, func_key, accessor_key}

-- ---- declarations with bodies

-- what is asked of one: its word, the key of its header, and where its name stands
pub record Header : Type 0 where
  pub word : BodyWord
  pub key : Key
  pub at : Span

abbrev pub header_of : ReadDecl → Option Header
header_of (rd.Type d) = None
header_of (rd.Storage d) = None
header_of (rd.Func f) = Some (record { word = f.word; key = func_key f; at = f.name.span })
header_of (rd.Accessor a) = Some (record { word = a.word; key = accessor_key a; at = a.name.span })

abbrev pub is_impdef : BodyWord → Bool
is_impdef NoWord = false
is_impdef ImpDef = true
is_impdef Implementation = false

abbrev pub is_implementation : BodyWord → Bool
is_implementation NoWord = false
is_implementation ImpDef = false
is_implementation Implementation = true

-- whether it has such a word
abbrev pub has_word : (BodyWord → Bool) → Option Header → Bool
has_word is None = false
has_word is (Some h) = is h.word

-- whether it has such a word and this key
abbrev pub has_header : (BodyWord → Bool) → Key → Option Header → Bool
has_header is k None = false
has_header is k (Some h) = is h.word && bytes_eq h.key k

-- the first that has
abbrev pub first_with : (BodyWord → Bool) → Key → List ReadDecl → Option ReadDecl
first_with is k [] = None
first_with is k (d ∷ ds) = if has_header is k (header_of d) then Some d else first_with is k ds

abbrev pub some_with : (BodyWord → Bool) → Key → List ReadDecl → Bool
some_with is k [] = false
some_with is k (d ∷ ds) = if has_header is k (header_of d) then true else some_with is k ds

-- ---- the faults

-- an `implementation`, among all declarations and behind these: T26 where no `impdef` matches it, T27 where one before it matches the same
abbrev pub header_matched : List ReadDecl → List ReadDecl → Option Header → Result (Unit {0}) Fault
header_matched all before None = Ok tt
header_matched all before (Some h) =
    if is_implementation h.word
    then (need (some_with is_impdef h.key all) T26 h.at >> need (not (some_with is_implementation h.key before)) T27 h.at)
    else Ok tt

abbrev pub headers_matched : List ReadDecl → List ReadDecl → List ReadDecl → Result (Unit {0}) Fault
headers_matched all before [] = Ok tt
headers_matched all before (d ∷ ds) = header_matched all before (header_of d) >> headers_matched all (before ++ d ∷ []) ds

-- the first fault of an `implementation`, in source order
unfoldable pub bodies_matched : List ReadDecl → Result (Unit {0}) Fault
bodies_matched ds = headers_matched ds [] ds

-- ---- the two programs

abbrev pub without_word : ReadDecl → ReadDecl
without_word (rd.Type d) = rd.Type d
without_word (rd.Storage d) = rd.Storage d
without_word (rd.Func f) = rd.Func (record f { word = NoWord })
without_word (rd.Accessor a) = rd.Accessor (record a { word = NoWord })

-- all but the `implementation`s, each as it is made here, and without its word
abbrev pub without_implementations : (ReadDecl → ReadDecl) → List ReadDecl → List ReadDecl
without_implementations make [] = []
without_implementations make (d ∷ ds) =
    if has_word is_implementation (header_of d) then without_implementations make ds else without_word (make d) ∷ without_implementations make ds

-- each as it is
unfoldable pub defaults : List ReadDecl → List ReadDecl
defaults ds = without_implementations (λ d. d) ds

abbrev pub or_itself : ReadDecl → Option ReadDecl → ReadDecl
or_itself d None = d
or_itself d (Some e) = e

-- an `impdef` as the `implementation` that matches it, where there is one, and all else as it is
abbrev pub in_place : List ReadDecl → ReadDecl → Option Header → ReadDecl
in_place all d None = d
in_place all d (Some h) = if is_impdef h.word then or_itself d (first_with is_implementation h.key all) else d

unfoldable pub replaced : List ReadDecl → List ReadDecl
replaced ds = without_implementations (λ d. in_place ds d (header_of d)) ds
