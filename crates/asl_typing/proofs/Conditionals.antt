-- A conditional expression by its note.
use Rattle.std.proofs.Common.{◌≡◌, [], ◌∷◌, Result, Ok, Err, refl}
use Rattle.asl_syn.specs.declared.token.Span.{Span}
use Rattle.asl_syn.specs.declared.code.Fault.{Fault}
use Rattle.asl_syn.specs.declared.code.StaticCode.TheVariants.{T05, T12, T13}
use Rattle.asl_rules.specs.declared.effect.Effect.{Effect}
use Rattle.asl_rules.specs.declared.effect.Effect.TheVariants.{Pure}
use Rattle.asl_rules.specs.types.Effects.{at_most, all_together, greatest}
use Rattle.asl_rules.specs.expressions.Exprs.{apart, conditional_of}
use Rattle.asl_rules.specs.Faults.{◌>>=◌, ◌>>◌, need, found_or}
use Rattle.asl_rules.specs.Tests.{Tests}
use Rattle.asl_rules.specs.runs.Trees as tree
use Rattle.asl_rules.specs.runs.Trees.{Note}
use Rattle.asl_rules.specs.types.Types.{Ty, is_boolean, join, bare}
use Rattle.asl_rules.specs.expressions.Typing.{Typed, note}
use Rattle.asl_typing.specs.private.Conditionals.{conditional_note}

steps : (u : Result (Unit {0}) Fault) (r : Result Ty Fault) (v w : Result (Unit {0}) Fault) (f : Ty → Note) (make : Note → Typed) →
    (u >> (r >>= λ U. v >> w >> Ok (make (f U)))) ≡ ((u >> (r >>= λ U. v >> w >> Ok (f U))) >>= λ n. Ok (make n))
steps (Err e) r v w f make = refl
steps (Ok x) (Err e) v w f make = refl
steps (Ok x) (Ok U) (Err e) w f make = refl
steps (Ok x) (Ok U) (Ok y) (Err e) f make = refl
steps (Ok x) (Ok U) (Ok y) (Ok z) f make = refl

abbrev pub conditional_as : Typed → Typed → Typed → Note → Typed
conditional_as C S T n = record { ty = n.ty; effect = n.effect; tree = tree.Conditional n C.tree S.tree T.tree }

pub conditional_by : (t : Tests) (class : Effect) (span at : Span) (C S T : Typed) →
    conditional_of t class span at C S T ≡ (conditional_note t class span at C S T >>= λ n. Ok (conditional_as C S T n))
conditional_by t class span at C S T =
    steps (need (is_boolean C.ty) T05 at) (found_or (join t S.ty T.ty) (apart S.ty T.ty) span)
    (need (all_together Pure (C.effect ∷ S.effect ∷ T.effect ∷ [])) T13 span)
    (need (at_most (greatest Pure (C.effect ∷ S.effect ∷ T.effect ∷ [])) class) T12 span)
    (λ U. note span (bare U) (greatest Pure (C.effect ∷ S.effect ∷ T.effect ∷ []))) (conditional_as C S T)
