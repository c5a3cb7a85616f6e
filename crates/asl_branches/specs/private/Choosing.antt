-- The choice of an alternative of a `case`, as a part of a run.
use Rattle.std.specs.Prelude.{Bool, true, false, [], Option, None, Some}
use Rattle.asl_bits.specs.declared.TheConstants.{WIDTH_LIMIT}
use Rattle.asl_syn.specs.declared.token.Span.{Span}
use Rattle.asl_rules.specs.runs.Forms.{eval_all}
use Rattle.asl_rules.specs.values.Matching.{is_matched}
use Rattle.asl_rules.specs.values.Operators.{truth}
use Rattle.asl_rules.specs.runs.Plans.{Ret, Eval, choose, lift}
use Rattle.asl_rules.specs.runs.Trees.{Tree, Trees}
use Rattle.asl_rules.specs.private.TypedMeaning.{BareCore, Runs, list_of}
use Rattle.asl_rules.specs.types.Shapes.{PatternShapes}
use Rattle.asl_rules.specs.values.Values.{Value}

-- the condition behind a match
abbrev pub guard : Span → Option Tree → BareCore → Runs Bool
guard span None c = Ret true c
guard span (Some e) c = Eval e c (λ x c1. lift (truth span x) c1 (λ b. Ret b c1))

-- whether a value is matched and the condition holds
abbrev pub chosen : Span → Value → PatternShapes → Trees → Option Tree → BareCore → Runs Bool
chosen span x ps es e c = eval_all (list_of es) [] c (λ zs c1. lift (is_matched WIDTH_LIMIT ps zs x) c1 (λ b. choose b (guard span e c1) (Ret false c1)))
