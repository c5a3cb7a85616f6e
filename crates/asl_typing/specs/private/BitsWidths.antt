-- Sums of bits, and bits behind bits.
use Rattle.std.specs.Prelude.{◌&&◌, ◌||◌, [], Result, Ok}
use Rattle.asl_syn.specs.declared.token.Span.{Span}
use Rattle.asl_syn.specs.declared.code.Fault.{Fault}
use Rattle.asl_syn.specs.declared.code.StaticCode.TheVariants.{T06, T08}
use Rattle.asl_poly.specs.Terms.{Polynomial}
use Rattle.asl_rules.specs.Faults.{◌>>=◌, ◌>>◌, need}
use Rattle.asl_rules.specs.expressions.Operations.{same_widths}
use Rattle.asl_rules.specs.Tests.{Tests}
use Rattle.asl_rules.specs.types.Types.{Ty, is_bits, is_integer, width_of, bits_of}
use Rattle.asl_rules.specs.types.Widths.{width_sum}

-- bits whose width is the sum of these
abbrev pub joined_bits : Span → Polynomial → Polynomial → Result Ty Fault
joined_bits span p q = width_sum span p q >>= λ w. Ok (bits_of w [])

-- a sum or a difference of bits with bits or an integer
abbrev pub bits_sum : Tests → Span → Ty → Ty → Result Ty Fault
bits_sum t span S T = need (is_bits S && (is_bits T || is_integer T)) T08 span >> need (same_widths t S T) T06 span >> Ok (bits_of (width_of S) [])
