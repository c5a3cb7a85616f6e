-- Turns: the order in which declarations of types and of storage are judged, each where all that it uses is well formed. In each turn all declared names are
-- visible in source order, those that wait by a stand-in: so no name ever changes its place, and none is free that is declared.
use Rattle.std.specs.Prelude.{ℕ, zero, suc, Bool, true, false, ◌&&◌, ◌||◌, not, if◌then◌else◌, List, [], ◌∷◌, ◌++◌, length, map, Option, Some, None, Result, Ok, Err}
use Rattle.asl_syn.specs.declared.code.Fault.{Fault}
use Rattle.asl_syn.specs.declared.tree.Ident.{Ident}
use Rattle.asl_syn.specs.declared.tree.Decl.{Decl}
use Rattle.asl_syn.specs.declared.tree.Decl.TheVariants as dc
use Rattle.asl_rules.specs.Faults.{◌>>◌}
use Rattle.asl_rules.specs.Tests.{Tests}
use Rattle.asl_rules.specs.types.Types.{boolean}
use Rattle.asl_rules.specs.values.Values.{bool}
use Rattle.asl_rules.specs.declarations.Names.{library, labels_of}
use Rattle.asl_rules.specs.declarations.Scopes.{Entry, global, subprogram, with_entries}
use Rattle.asl_rules.specs.declarations.Uses.{uses_one_of}
use Rattle.asl_rules.specs.declarations.Declarations.{in_names, is_var, decl_rule}

-- ---- what came of a declaration

-- it waits, or it is well formed and brings these names, or it has a fault
pub data Judged : Type 0 where
  Waiting : Judged
  Fine : List Entry → Judged
  Faulty : Fault → Judged

abbrev pub judged : Result (List Entry) Fault → Judged
judged (Ok es) = Fine es
judged (Err f) = Faulty f

abbrev pub is_waiting : Judged → Bool
is_waiting Waiting = true
is_waiting (Fine es) = false
is_waiting (Faulty f) = false

abbrev pub is_fine : Judged → Bool
is_fine Waiting = false
is_fine (Fine es) = true
is_fine (Faulty f) = false

-- what came of each declaration so far, in source order
abbrev pub SoFar : Type 0
SoFar = List Judged

-- ---- the names of a turn

-- what stands in the place of a declaration's names until it is well formed: nothing that is judged uses one of these
abbrev pub reserved : Decl → List Entry
reserved (dc.Type d) = subprogram d.name.text ∷ map (λ (i : Ident). subprogram i.text) (labels_of d.def)
reserved (dc.Storage d) = global d.name.text boolean (is_var d.kind) (bool false) ∷ []
reserved (dc.Func f) = subprogram f.name.text ∷ []

abbrev pub entries_or : Decl → Judged → List Entry
entries_or d Waiting = reserved d
entries_or d (Fine es) = es
entries_or d (Faulty f) = reserved d

-- the names of all declarations, each in its place whatever was judged so far
abbrev pub entries : List Decl → SoFar → List Entry
entries [] js = []
entries (d ∷ ds) [] = reserved d ++ entries ds []
entries (d ∷ ds) (j ∷ js) = entries_or d j ++ entries ds js

-- each name once: those of the library, and in source order those of the declarations
abbrev pub names_so_far : List Decl → SoFar → List Entry
names_so_far ds js = with_entries (entries ds js) (map subprogram library)

-- ---- whose turn it is

-- types and storage are judged in turns; subprograms wait, since their names say nothing that has to be judged
abbrev pub takes_turn : Decl → Bool
takes_turn (dc.Type d) = true
takes_turn (dc.Storage d) = true
takes_turn (dc.Func f) = false

-- all that a declaration uses is well formed
abbrev pub all_fine : Decl → List Decl → SoFar → Bool
all_fine d [] js = true
all_fine d (e ∷ es) [] = not (uses_one_of d e) && all_fine d es []
all_fine d (e ∷ es) (j ∷ js) = (not (uses_one_of d e) || is_fine j) && all_fine d es js

abbrev pub is_ready : List Decl → SoFar → Decl → Judged → Bool
is_ready all so_far d j = takes_turn d && (is_waiting j && all_fine d all so_far)

-- the place of the first of these that is ready, counted from n
abbrev pub first_ready : List Decl → SoFar → ℕ → List Decl → SoFar → Option ℕ
first_ready all so_far n [] js = None
first_ready all so_far n (d ∷ ds) [] = None
first_ready all so_far n (d ∷ ds) (j ∷ js) = if is_ready all so_far d j then Some n else first_ready all so_far (suc n) ds js

-- the place of the declaration whose turn it is
abbrev pub next_turn : List Decl → SoFar → Option ℕ
next_turn ds js = first_ready ds js 0 ds js

-- ---- turns

-- what comes of a declaration where these names are visible
abbrev pub decl_judged : Tests → Decl → List Entry → Judged
decl_judged t d names = judged (decl_rule t d (in_names names))

-- the declaration at this place is judged where these names are visible
abbrev pub judged_at : Tests → ℕ → List Decl → SoFar → List Entry → SoFar
judged_at t n [] js names = js
judged_at t n (d ∷ ds) [] names = []
judged_at t zero (d ∷ ds) (j ∷ js) names = decl_judged t d names ∷ js
judged_at t (suc n) (d ∷ ds) (j ∷ js) names = j ∷ judged_at t n ds js names

-- one turn, and what follows it; where none is ready it is the end
abbrev pub one_turn : Tests → List Decl → SoFar → (SoFar → SoFar) → Option ℕ → SoFar
one_turn t ds js rest None = js
one_turn t ds js rest (Some n) = rest (judged_at t n ds js (names_so_far ds js))

-- so many turns
abbrev pub turns : Tests → ℕ → List Decl → SoFar → SoFar
turns t zero ds js = js
turns t (suc k) ds js = one_turn t ds js (turns t k ds) (next_turn ds js)

abbrev pub all_waiting : List Decl → SoFar
all_waiting ds = map (λ (d : Decl). Waiting) ds

-- what comes of each declaration: as many turns as there are declarations
abbrev pub final : Tests → List Decl → SoFar
final t ds = turns t (length ds) ds (all_waiting ds)

-- ---- what comes of all

abbrev pub faulty : Judged → Result (Unit {0}) Fault
faulty Waiting = Ok tt
faulty (Fine es) = Ok tt
faulty (Faulty f) = Err f

-- the fault of the first, in source order, that has one
abbrev pub faults_rule : SoFar → Result (Unit {0}) Fault
faults_rule [] = Ok tt
faults_rule (j ∷ js) = faulty j >> faults_rule js

-- the names that are visible in all bodies
abbrev pub names_of_program : Tests → List Decl → List Entry
names_of_program t ds = names_so_far ds (final t ds)

abbrev pub globals_rule : Tests → List Decl → Result (List Entry) Fault
globals_rule t ds = faults_rule (final t ds) >> Ok (names_of_program t ds)
