-- Calls of the rules that those of the code stand for.
use Rattle.std.specs.Prelude.{ℕ, List, [], ◌∷◌, ◌++◌, map, Option, Result, Ok}
use Rattle.std.specs.Borrow.{Bor}
use Rattle.asl_syn.specs.declared.token.Span.{Span}
use Rattle.asl_syn.specs.declared.code.Fault.{Fault}
use Rattle.asl_syn.specs.declared.code.StaticCode.TheVariants.{T12, T13}
use Rattle.asl_poly.specs.Terms.{Polynomial}
use Rattle.asl_rules.specs.declared.effect.Effect.{Effect}
use Rattle.asl_rules.specs.declared.effect.Effect.TheVariants.{Pure}
use Rattle.asl_rules.specs.expressions.Calls as calls
use Rattle.asl_rules.specs.expressions.Calls.{Given, Giving, Replacing, given, replacing}
use Rattle.asl_rules.specs.types.Effects.{greater, at_most, all_together, greatest}
use Rattle.asl_rules.specs.Faults.{◌>>=◌, ◌>>◌, need}
use Rattle.asl_rules.specs.runs.Trees as trees
use Rattle.asl_rules.specs.types.Types.{Ty, width_of}
use Rattle.asl_rules.specs.expressions.Typing.{Operand, effects_of, note}
use Rattle.asl_tree.specs.declared.tree.Tree.{Tree}
use Rattle.asl_tree.specs.View.{tree_of, typed_of, operand_of, callee_of, all_operands}
use Rattle.asl_expr.specs.declared.calls.Called.{Called}
use Rattle.asl_expr.specs.declared.params.GivenWidth.{GivenWidth}
use Rattle.asl_expr.specs.declared.params.Replaced.{Replaced}

abbrev pub called_of : Called → calls.Called
called_of c = record { effect = c.effect; callee = callee_of c.callee; places = c.places; params = map tree_of c.params; arguments = all_operands c.arguments }

-- ---- what stands for parameters

abbrev pub given_of : GivenWidth → Given
given_of g = given g.width g.span

abbrev pub all_given : List GivenWidth → List Given
all_given gs = map given_of gs

abbrev pub replacing_of : Replaced → Replacing
replacing_of r = replacing (all_given r.given) r.places (map tree_of r.trees)

abbrev pub none_replaced : Replacing
none_replaced = replacing [] [] []

-- one more, which is written in braces, or which the argument in this place gives
abbrev pub with_written : Replacing → Given → trees.Tree → Replacing
with_written r g t = replacing (r.given ++ g ∷ []) r.places (r.trees ++ t ∷ [])

abbrev pub with_argument : Replacing → Given → ℕ → Replacing
with_argument r g n = replacing (r.given ++ g ∷ []) (r.places ++ n ∷ []) r.trees

-- these behind those
abbrev pub with_rest : Replacing → Replacing → Replacing
with_rest r x = replacing (r.given ++ x.given) (r.places ++ x.places) (r.trees ++ x.trees)

abbrev pub behind_replaced : Replacing → Result Replacing Fault → Result Replacing Fault
behind_replaced r q = q >>= λ x. Ok (with_rest r x)

-- an argument by its place, which gives its width
abbrev pub giving_of : ℕ × Bor Tree → Giving
giving_of p = record { place = p.0; given = given (width_of (typed_of p.1.now).ty) (operand_of p.1.now).span }

-- ---- the note of a call with these arguments, which itself has an effect

abbrev pub call_note : Effect → Span → List Operand → Effect → Ty → Result trees.Note Fault
call_note class span os own T =
    need (all_together Pure (effects_of os)) T13 span >>
    need (at_most (greater (greatest Pure (effects_of os)) own) class) T12 span >>
    Ok (note span T (greater (greatest Pure (effects_of os)) own))

-- the effect of a call of a procedure, where it may stand there
abbrev pub effect_of : Effect → Span → List Operand → Effect → Result Effect Fault
effect_of class span os own =
    need (all_together Pure (effects_of os)) T13 span >>
    need (at_most (calls.procedure_effect os own) class) T12 span >>
    Ok (calls.procedure_effect os own)
