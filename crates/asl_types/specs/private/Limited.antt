-- Widths that operations give within their limits, T20 at this place past them.
use Rattle.std.specs.Prelude.{Result, Ok, Err}
use Rattle.asl_syn.specs.declared.token.Span.{Span}
use Rattle.asl_syn.specs.declared.code.Refused.{Refused}
use Rattle.asl_syn.specs.declared.code.Refused.TheVariants as refused
use Rattle.asl_syn.specs.declared.code.StaticCode.TheVariants.{T20}
use Rattle.asl_poly.specs.Terms.{Polynomial}
use Rattle.asl_poly.specs.declared.PolyRefused.{PolyRefused}
use Rattle.asl_poly.specs.declared.PolyRefused.TheVariants.{TooLarge, NoMemory}
use Rattle.asl_rules.specs.Faults.{fault_of}

abbrev pub limited : Span → Result Polynomial PolyRefused → Result Polynomial Refused
limited span (Ok p) = Ok p
limited span (Err TooLarge) = Err (refused.At (fault_of T20 span))
limited span (Err NoMemory) = Err refused.NoMemory
