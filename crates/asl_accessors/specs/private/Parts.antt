-- What becomes of each declaration, by where the one stands that replaces it.
use Rattle.std.specs.Prelude.{◌≡◌, ℕ, suc, Bool, true, ◌==◌, not, if◌then◌else◌, List, [], ◌∷◌, map, Option, Some, None, is_some, option_map, Result, Ok, Err}
use Rattle.std.specs.Borrow.{Bor}
use Rattle.std.specs.Map.{lookup}
use Rattle.std.specs.Str.{bytes_eq}
use Rattle.asl_syn.specs.declared.code.Fault.{Fault}
use Rattle.asl_syn.specs.declared.code.Refused.{Refused}
use Rattle.asl_syn.specs.declared.code.Refused.TheVariants.{At, NoMemory}
use Rattle.asl_syn.specs.declared.code.StaticCode.TheVariants.{T26, T27}
use Rattle.asl_syn.specs.declared.read.BodyWord.{BodyWord}
use Rattle.asl_syn.specs.declared.read.BodyWord.TheVariants.{NoWord, ImpDef, Implementation}
use Rattle.asl_syn.specs.declared.read.ReadDecl.{ReadDecl}
use Rattle.asl_rules.specs.Faults.{◌>>◌, need}
use Rattle.asl_rules.specs.declarations.Keys.{Key}
use Rattle.asl_rules.specs.declarations.Replacing.{Header, header_of, has_header, is_impdef, is_implementation, some_with}
use Rattle.asl_accessors.specs.declared.matching.Header as code
use Rattle.asl_accessors.specs.declared.matching.Part.{Part}
use Rattle.asl_accessors.specs.declared.matching.Part.TheVariants.{Stays, Replaced, AlsoReplaced, Replaces}

-- where the first with this word and key stands, counted from n on
abbrev pub place_with : (BodyWord → Bool) → Key → ℕ → List ReadDecl → Option ℕ
place_with is k n [] = None
place_with is k n (d ∷ ds) = if has_header is k (header_of d) then Some n else place_with is k (suc n) ds

-- an `impdef` that is replaced by the declaration at this place, if by any: whether one behind it is, too
abbrev pub replaced_by : Bool → Option ℕ → Part
replaced_by also None = Stays
replaced_by also (Some p) = if also then AlsoReplaced p else Replaced p

-- a declaration among all, with these behind it
abbrev pub header_part : List ReadDecl → List ReadDecl → Option Header → Part
header_part all behind None = Stays
header_part all behind (Some h) =
    if is_implementation h.word then Replaces
    else (if is_impdef h.word then replaced_by (some_with is_impdef h.key behind) (place_with is_implementation h.key 0 all) else Stays)

abbrev pub parts_in : List ReadDecl → List ReadDecl → List Part
parts_in all [] = []
parts_in all (d ∷ ds) = header_part all ds (header_of d) ∷ parts_in all ds

-- ---- the headers of declarations that have a word

abbrev pub by_word : BodyWord → Header → Option Header
by_word NoWord h = None
by_word ImpDef h = Some h
by_word Implementation h = Some h

abbrev pub worded : Option Header → Option Header
worded None = None
worded (Some h) = by_word h.word h

abbrev pub heads : List ReadDecl → List (Option Header)
heads ds = map (λ d. worded (header_of d)) ds

-- as the rules see what the code keeps of a header
abbrev pub seen : code.Header → Header
seen h = record { word = h.word; key = h.key.items; at = h.at }

abbrev pub all_seen : List (Option code.Header) → List (Option Header)
all_seen hs = map (option_map seen) hs

-- ---- the places of keys

abbrev pub Places : Type 0
Places = List (Key × ℕ)

-- what a map holds
abbrev pub placed : List (Bor Key × ℕ) → Places
placed es = map (λ e. (e.0.now, e.1)) es

abbrev pub place_in : Places → Key → Option ℕ
place_in ps k = lookup (bytes_eq k) ps

abbrev pub has_place : Places → Key → Bool
has_place ps k = is_some (place_in ps k)

-- where the last header with this word and key stands, counted from n on, or before these
abbrev pub last_at : (BodyWord → Bool) → Key → ℕ → Option ℕ → List (Option Header) → Option ℕ
last_at is k n before [] = before
last_at is k n before (h ∷ hs) = last_at is k (suc n) (if has_header is k h then Some n else before) hs

abbrev pub or_place : Option ℕ → Option ℕ → Option ℕ
or_place None o = o
or_place (Some p) o = Some p

-- where the first stands
abbrev pub first_at : (BodyWord → Bool) → Key → ℕ → List (Option Header) → Option ℕ
first_at is k n [] = None
first_at is k n (h ∷ hs) = if has_header is k h then Some n else first_at is k (suc n) hs

-- the places of the last `impdef`s among these headers
abbrev pub AreLasts : List (Option Header) → Places → Type 0
AreLasts hs ps = (k : Key) → place_in ps k ≡ last_at is_impdef k 0 None hs

-- and those of the first `implementation`s
abbrev pub AreFirsts : List (Option Header) → Places → Type 0
AreFirsts hs ps = (k : Key) → place_in ps k ≡ first_at is_implementation k 0 hs

-- the places with that of a header, where it has this word
abbrev pub IsKept : (BodyWord → Bool) → Option Header → ℕ → Places → Places → Type 0
IsKept is h n old new = (k : Key) → place_in new k ≡ (if has_header is k h then Some n else place_in old k)

-- ---- the faults, by what is known of a key

-- what an answer says of what is judged; want of memory says nothing
abbrev pub Refuses : Refused → Result (Unit {0}) Fault → Type 0
Refuses (At f) r = r ≡ Err f
Refuses NoMemory r = Unit {0}

abbrev pub Answers : {A : Type 0} → Result A Refused → Result (Unit {0}) Fault → Type 0
Answers (Ok x) r = r ≡ Ok tt
Answers (Err e) r = Refuses e r

-- whether an `impdef` has the key of an `implementation`, and whether an `implementation` before it has
abbrev pub header_judged : (Key → Bool) → (Key → Bool) → Option Header → Result (Unit {0}) Fault
header_judged by before None = Ok tt
header_judged by before (Some h) =
    if is_implementation h.word then (need (by h.key) T26 h.at >> need (not (before h.key)) T27 h.at) else Ok tt

abbrev pub or_this : Option Header → (Key → Bool) → Key → Bool
or_this h before k = if has_header is_implementation k h then true else before k

abbrev pub headers_judged : (Key → Bool) → (Key → Bool) → List (Option Header) → Result (Unit {0}) Fault
headers_judged by before [] = Ok tt
headers_judged by before (h ∷ hs) = header_judged by before h >> headers_judged by (or_this h before) hs

-- ---- the parts, by the places of the first `implementation`s and the last `impdef`s

-- whether the last of a key stands at another place than this
abbrev pub is_elsewhere : ℕ → Option ℕ → Bool
is_elsewhere n None = true
is_elsewhere n (Some p) = not (p == n)

abbrev pub header_placed : (Key → Option ℕ) → (Key → Option ℕ) → ℕ → Option Header → Part
header_placed firsts lasts n None = Stays
header_placed firsts lasts n (Some h) =
    if is_implementation h.word then Replaces
    else (if is_impdef h.word then replaced_by (is_elsewhere n (lasts h.key)) (firsts h.key) else Stays)

abbrev pub headers_placed : (Key → Option ℕ) → (Key → Option ℕ) → ℕ → List (Option Header) → List Part
headers_placed firsts lasts n [] = []
headers_placed firsts lasts n (h ∷ hs) = header_placed firsts lasts n h ∷ headers_placed firsts lasts (suc n) hs
