-- What contracts see of a machine, and its calls. What is said of globals and of runs is said by right tests, whichever these are.
use Rattle.std.specs.Prelude.{◌≡◌, ℕ, Bool, false, List, [], ◌∷◌, Option, Some, None, Ok, refl, length, map, slice_get, if◌then◌else◌}
use Rattle.std.specs.Coded.{Coded, code_by, coded×, coded_ℕ, coded_bool, coded_list}
use Rattle.asl_rules.specs.private.Agreement.{types_in, no_atoms, GlobalsMatch}
use Rattle.asl_rules.specs.private.Belonging.{Belong}
use Rattle.asl_rules.specs.runs.Evaluation.{initial_globals}
use Rattle.asl_rules.specs.runs.Machines.{run_of, text_of_run}
use Rattle.asl_rules.specs.runs.Plans.{starting}
use Rattle.asl_rules.specs.runs.Plans as plans
use Rattle.asl_rules.specs.declarations.Programs.{Accepted, verdict, environment}
use Rattle.asl_rules.specs.declarations.Scopes.{Signature}
use Rattle.asl_rules.specs.runs.States.{Binding, Core}
use Rattle.asl_rules.specs.Tests.{Tests}
use Rattle.asl_rules.specs.values.Values as rules
use Rattle.asl_tree.specs.Sealed.{Sealed, sealed_code}
use Rattle.asl_types.specs.Suits.{Suits}
use Rattle.asl_value.specs.View.{value_of}
use Rattle.asl_value.specs.declared.value.Value.{Value}
use Rattle.asl_value.specs.contracts.value.Value as values
use Rattle.asl_machine.specs.Stages.{Ends}
use Rattle.asl_machine.specs.Storage.{with_values}
use Rattle.asl_machine.specs.declared.stage.Stage.{Stage}
use Rattle.asl_machine.specs.declared.stage.Stage.TheVariants as stage
use Rattle.asl_machine.specs.contracts.stage.Stage as stages
use Rattle.asl_machine.specs.declared.memory.GlobalVar.{GlobalVar}

-- the program, the values of its storage in source order, the steps left, whether what the last call printed is open, and where the machine stands
pub record Work : Type 0 where
  pub checked : Sealed
  pub storage : List Value
  pub steps : ℕ
  pub text_open : Bool
  pub stage : Stage

abbrev pub work_code : Coded Work
work_code = code_by (Sealed × (List Value × (ℕ × (Bool × Stage))))
    (coded× sealed_code (coded× (coded_list values.the_row.coded) (coded× coded_ℕ (coded× coded_bool stages.the_row.coded))))
    (λ w. (w.checked, (w.storage, (w.steps, (w.text_open, w.stage)))))
    (λ p. record { checked = p.0; storage = p.1.0; steps = p.1.1.0; text_open = p.1.1.1.0; stage = p.1.1.1.1 }) (λ _. refl)

-- ---- globals

-- the globals that a run of the program begins with
abbrev pub initial_of : Tests → Sealed → List Binding
initial_of t c = initial_globals (environment t c.decls)

-- those with these values
abbrev pub globals_with : Tests → Sealed → List Value → List Binding
globals_with t c xs = with_values (initial_of t c) (map value_of xs)

-- the globals of a machine
abbrev pub globals_of : Tests → Work → List Binding
globals_of t w = globals_with t w.checked w.storage

-- they are those that a run begins with
abbrev pub IsInitial : Sealed → List Value → Type 0
IsInitial c values = (t : Tests) → Suits t → globals_with t c values ≡ initial_of t c

-- a machine before its first call: the globals at their initial values, and nothing printed or returned
pub record IsNew (w : Work) (checked : Sealed) (steps : ℕ) : Type 0 where
  pub checked_is : w.checked ≡ checked
  pub globals_are : IsInitial checked w.storage
  pub steps_are : w.steps ≡ steps
  pub text_is_closed : w.text_open ≡ false
  pub stage_is : w.stage ≡ stage.Ready None

-- ---- what always holds

abbrev pub names_of_vars : List Binding → List (List ℕ)
names_of_vars [] = []
names_of_vars (b ∷ bs) = if b.is_mutable then b.name ∷ names_of_vars bs else names_of_vars bs

-- there is one for each global variable of the program, in source order
abbrev pub AreNamed : Sealed → List GlobalVar → Type 0
AreNamed c vars = (t : Tests) → Suits t → map (λ (v : GlobalVar). v.name) vars ≡ names_of_vars (initial_of t c)

-- the marks, the values and the variables are those of such bindings
pub record IsOf (init : List Binding) (marks : List Bool) (values : List Value) (vars : List GlobalVar) : Type 0 where
  pub marks_are : marks ≡ map (λ (b : Binding). b.is_mutable) init
  pub names_are : map (λ (v : GlobalVar). v.name) vars ≡ names_of_vars init
  pub room : length values ≡ length marks

abbrev pub Arranged : Sealed → List Bool → List Value → List GlobalVar → Type 0
Arranged c marks values vars = (t : Tests) → Suits t → ∥ IsOf (initial_of t c) marks values vars ∥₁

-- these values are storage as the program declares it
pub record IsHeld (t : Tests) (c : Sealed) (values : List Value) : Type 0 where
  pub accepted : Accepted
  pub is : verdict c.asked c.decls t ≡ Ok accepted
  pub match : GlobalsMatch accepted.names (globals_with t c values)

abbrev pub HoldStorage : Sealed → List Value → Type 0
HoldStorage c values = (t : Tests) → Suits t → ∥ IsHeld t c values ∥₁

-- ---- calls

-- a subprogram of the program that has no parameters, with arguments in the types of its formals
pub record IsCallable (t : Tests) (c : Sealed) (id : ℕ) (args : List rules.Value) : Type 0 where
  pub accepted : Accepted
  pub is : verdict c.asked c.decls t ≡ Ok accepted
  pub signature : Signature
  pub called : slice_get accepted.signatures id ≡ Some signature
  pub no_params : signature.params ≡ []
  pub args_belong : Belong (types_in accepted.names) no_atoms args signature.formals

-- what the call does over these values and what the sink held
abbrev pub run_over : Tests → Sealed → ℕ → List rules.Value → List Value → ℕ → Option (List ℕ) → plans.Outcome Core (Option rules.Value)
run_over t c id args values steps told = run_of (environment t c.decls) id args (globals_with t c values) (starting steps told)

-- the sink's text after it, had it this budget
abbrev pub text_over : Tests → Sealed → ℕ → List rules.Value → List Value → Option (List ℕ) → ℕ → Option (List ℕ)
text_over t c id args values told = text_of_run (environment t c.decls) id args (globals_with t c values) told

abbrev pub run_with : Tests → Work → ℕ → List rules.Value → Option (List ℕ) → plans.Outcome Core (Option rules.Value)
run_with t w id args told = run_over t w.checked id args w.storage w.steps told

abbrev pub text_with : Tests → Work → ℕ → List rules.Value → Option (List ℕ) → ℕ → Option (List ℕ)
text_with t w id args told = text_over t w.checked id args w.storage told

-- the run ended in this state, with this text told
abbrev pub EndsWith : Tests → Work → Option (List ℕ) → plans.Outcome Core (Option rules.Value) → Type 0
EndsWith t w told r = Ends w.stage (globals_of t w) (record { steps = w.steps; told = told; text_open = w.text_open }) r
