-- What the answers of operations on integers stand for.
use Rattle.std.specs.Prelude.{ℤ, Result, Ok, Err}
use Rattle.asl_syn.specs.declared.token.Span.{Span}
use Rattle.asl_syn.specs.declared.code.DynCode.{DynCode}
use Rattle.asl_syn.specs.declared.code.DynCode.TheVariants.{D01, D02, D03, D04}
use Rattle.asl_num.specs.declared.NumFault.{NumFault}
use Rattle.asl_num.specs.declared.NumFault.TheVariants.{Overflow, Divisor, Inexact, Negative}
use Rattle.asl_rules.specs.values.Values.{Value, int}
use Rattle.asl_rules.specs.runs.Plans.{Faulted, Pure, Good, Bad}

abbrev pub fault_code : NumFault → DynCode
fault_code Overflow = D01
fault_code Divisor = D02
fault_code Inexact = D03
fault_code Negative = D04

abbrev pub answer_of : Span → Result ℤ NumFault → Pure Value
answer_of span (Ok z) = Good (int z)
answer_of span (Err fault) = Bad (Faulted (fault_code fault) span)
