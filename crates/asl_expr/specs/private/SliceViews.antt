-- The notes of slices of what was typed, and the sums of their widths.
use Rattle.std.specs.Prelude.{◌≡◌, List, [], ◌∷◌, Result, Ok, Err}
use Rattle.asl_syn.specs.declared.token.Span.{Span}
use Rattle.asl_syn.specs.declared.code.Fault.{Fault}
use Rattle.asl_syn.specs.declared.code.StaticCode.TheVariants.{T12, T13}
use Rattle.asl_poly.specs.Terms.{Polynomial}
use Rattle.asl_rules.specs.declared.effect.Effect.{Effect}
use Rattle.asl_rules.specs.declared.effect.Effect.TheVariants.{Pure}
use Rattle.asl_rules.specs.types.Effects.{at_most, all_together, greatest}
use Rattle.asl_syn.specs.declared.code.Refused.{Refused}
use Rattle.asl_syn.specs.declared.code.Refused.TheVariants.{At, NoMemory}
use Rattle.asl_rules.specs.Faults.{◌>>=◌, ◌>>◌, need}
use Rattle.asl_rules.specs.declarations.Scopes.{Scope}
use Rattle.asl_rules.specs.types.Widths as limits
use Rattle.asl_types.specs.private.Totals.{IsTotal}
use Rattle.asl_types.specs.declared.totals.Total.{Total}
use Rattle.asl_rules.specs.runs.Trees.{Note}
use Rattle.asl_rules.specs.types.Types.{bits_of}
use Rattle.asl_rules.specs.expressions.Typing.{Found, Typed, Operand, effects_of, note}

abbrev pub slices_note : Effect → Span → Typed → List Operand → Polynomial → Result Note Fault
slices_note class span S os w =
    need (all_together Pure (S.effect ∷ effects_of os)) T13 span >>
    need (at_most (greatest Pure (S.effect ∷ effects_of os)) class) T12 span >>
    Ok (note span (bits_of w []) (greatest Pure (S.effect ∷ effects_of os)))

-- ---- sums

-- the answer is a sum that the rule gives; want of memory says nothing
abbrev pub Sums : Result Total Refused → Result limits.Total Fault → Type 0
Sums (Ok s) r = (y : limits.Total) × ((r ≡ Ok y) × IsTotal s y)
Sums (Err (At f)) r = r ≡ Err f
Sums (Err NoMemory) r = Unit {0}

abbrev pub added_width : Found → limits.Total → Scope → Result limits.Total Fault
added_width e x G = e.width G >>= λ p. Ok (limits.plus x p.poly)
