-- Conditions as parts of a run.
use Rattle.std.specs.Prelude.{Bool}
use Rattle.asl_syn.specs.declared.token.Span.{Span}
use Rattle.asl_rules.specs.runs.Plans.{Eval, Ret, lift}
use Rattle.asl_rules.specs.runs.Trees.{Tree}
use Rattle.asl_rules.specs.private.TypedMeaning.{BareCore, Runs}
use Rattle.asl_rules.specs.values.Operators.{truth}

-- an expression, and whether it holds
abbrev pub condition : Span → Tree → BareCore → Runs Bool
condition span e c = Eval e c (λ x c1. lift (truth span x) c1 (λ b. Ret b c1))
