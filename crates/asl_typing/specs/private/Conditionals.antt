-- The note of a conditional expression, of operands that were typed.
use Rattle.std.specs.Prelude.{[], ◌∷◌, Result, Ok}
use Rattle.asl_syn.specs.declared.token.Span.{Span}
use Rattle.asl_syn.specs.declared.code.Fault.{Fault}
use Rattle.asl_syn.specs.declared.code.StaticCode.TheVariants.{T05, T12, T13}
use Rattle.asl_rules.specs.declared.effect.Effect.{Effect}
use Rattle.asl_rules.specs.declared.effect.Effect.TheVariants.{Pure}
use Rattle.asl_rules.specs.types.Effects.{at_most, all_together, greatest}
use Rattle.asl_rules.specs.expressions.Exprs.{apart}
use Rattle.asl_rules.specs.Faults.{◌>>=◌, ◌>>◌, need, found_or}
use Rattle.asl_rules.specs.Tests.{Tests}
use Rattle.asl_rules.specs.runs.Trees.{Note}
use Rattle.asl_rules.specs.types.Types.{is_boolean, join, bare}
use Rattle.asl_rules.specs.expressions.Typing.{Typed, note}

abbrev pub conditional_note : Tests → Effect → Span → Span → Typed → Typed → Typed → Result Note Fault
conditional_note t class span at C S T =
    need (is_boolean C.ty) T05 at >>
    found_or (join t S.ty T.ty) (apart S.ty T.ty) span >>= λ U.
    need (all_together Pure (C.effect ∷ S.effect ∷ T.effect ∷ [])) T13 span >>
    need (at_most (greatest Pure (C.effect ∷ S.effect ∷ T.effect ∷ [])) class) T12 span >>
    Ok (note span (bare U) (greatest Pure (C.effect ∷ S.effect ∷ T.effect ∷ [])))
