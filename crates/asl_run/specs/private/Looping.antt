-- Loops as parts of a run.
use Rattle.std.specs.Prelude.{ℕ, Bool, true, false, List, Option}
use Rattle.asl_syn.specs.declared.token.Span.{Span}
use Rattle.asl_syn.specs.declared.tree.Direction.{Direction}
use Rattle.asl_rules.specs.runs.Plans.{Ret, lift}
use Rattle.asl_rules.specs.runs.StatementForms.{limited, whole_number, index_turns, while_turn, repeat_turn}
use Rattle.asl_rules.specs.runs.Trees.{Tree, Act}
use Rattle.asl_rules.specs.private.TypedMeaning.{BareCore, Runs, in_bare, indexed}
use Rattle.asl_rules.specs.values.Values.{Value, Exit}

-- how many turns the limit lets through
abbrev pub limit_asked : Span → Option Tree → BareCore → Runs ℕ
limit_asked span l c = limited span l c (λ n c1. Ret n c1)

-- the turns between these bounds
abbrev pub between : Span → Direction → Value → Value → List Act → ℕ → BareCore → Runs Exit
between span d x y ss n c = lift (whole_number span x) c (λ first. lift (whole_number span y) c (λ last. index_turns in_bare indexed span d last ss n first c))

-- the turns of a loop that ends where its condition is this after one
abbrev pub turn_until : Bool → Span → Tree → List Act → ℕ → BareCore → Runs Exit
turn_until true = repeat_turn in_bare
turn_until false = while_turn in_bare
