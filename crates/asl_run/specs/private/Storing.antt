-- Assignments as parts of a run.
use Rattle.std.specs.Prelude.{ℕ, Bool, List, [], ◌∷◌, ◌++◌, map, slice_get}
use Rattle.asl_bits.specs.declared.TheConstants.{WIDTH_LIMIT}
use Rattle.asl_syn.specs.declared.token.Span.{Span}
use Rattle.asl_rules.specs.private.ByPlace.{Step, updated, part_in}
use Rattle.asl_rules.specs.runs.Plans.{Ret, Pure, Good}
use Rattle.asl_rules.specs.runs.Pures.{◌>>=◌, known}
use Rattle.asl_rules.specs.runs.StatementForms as forms
use Rattle.asl_rules.specs.runs.StatementForms.{Store}
use Rattle.asl_rules.specs.runs.Trees.{Tree}
use Rattle.asl_rules.specs.private.TypedMeaning.{BareCore, Runs, set_at, step_ahead, stored}
use Rattle.asl_rules.specs.values.Values.{Value}
use Rattle.asl_tree.specs.Acts.{step_of, place_of}
use Rattle.asl_tree.specs.declared.act.TreePlace.{TreePlace}
use Rattle.asl_tree.specs.declared.act.TreeStep.{TreeStep}

-- ---- a store among values

-- these values with another at the end of the steps from one of them
abbrev pub stored_in : Bool → Span → ℕ → List Step → Value → List Value → Pure (List Value)
stored_in holds span i ss y xs = known span (slice_get xs i) >>= λ x. updated WIDTH_LIMIT holds ss y x >>= λ z. known span (set_at i z xs)

-- ---- steps

-- a step with the values of its operands
abbrev pub stepped : TreeStep → BareCore → Runs Step
stepped s c = forms.eval_step (step_ahead (step_of s)) c (λ xs c1. Ret xs c1)

abbrev pub all_ahead : List TreeStep → List (forms.Ahead Tree Step)
all_ahead ss = map step_ahead (map step_of ss)

-- the steps of a place, behind these
abbrev pub all_stepped : List TreeStep → List Step → BareCore → Runs (List Step)
all_stepped ts ss c = forms.eval_steps (all_ahead ts) ss c (λ xs c1. Ret xs c1)

-- ---- places

-- the parts of a value that places take, in order
abbrev pub parts_in : List TreePlace → Value → Pure (List Value)
parts_in [] x = Good []
parts_in (p ∷ ps) x = part_in p.span p.way x >>= λ y. parts_in ps x >>= λ ys. Good (y ∷ ys)

-- a place that takes its part
abbrev pub taking : Bool → TreePlace → Value → Store BareCore Tree Step
taking holds p y = record { steps = map step_ahead (place_of p).steps; put = stored WIDTH_LIMIT holds p.span p.slot y }

abbrev pub all_taking : Bool → List TreePlace → List Value → List (Store BareCore Tree Step)
all_taking holds [] ys = []
all_taking holds (p ∷ ps) [] = []
all_taking holds (p ∷ ps) (y ∷ ys) = taking holds p y ∷ all_taking holds ps ys

-- these parts, and behind them those that places take
abbrev pub parts_behind : List Value → List TreePlace → Value → Pure (List Value)
parts_behind xs ps x = parts_in ps x >>= λ ys. Good (xs ++ ys)
