-- A value that is known before any run counts as a width, or as a number, only if it is an integer.
use Rattle.std.proofs.Common.{◌≡◌, ℤ, Option, Some, None, Ok, refl, ap}
use Rattle.asl_syn.specs.declared.token.Span.{Span}
use Rattle.asl_syn.specs.declared.code.StaticCode.TheVariants.{T19}
use Rattle.asl_poly.specs.Terms.{Polynomial}
use Rattle.asl_rules.specs.Faults.{fault_of}
use Rattle.asl_rules.specs.types.Widths.{width_of_known, width_of_number, number_of_known}
use Rattle.asl_rules.specs.values.Values.{Value, int, bool, bits_with, label, record_with, exception_with, tuple_with, array_with}
use Rattle.asl_rules.proofs.basics.Inversions.{ok_ok, err_ok}

-- the integer, and the width that it makes
pub record IntegerOf (span : Span) (o : Option Value) (p : Polynomial) : Type 0 where
  pub number : ℤ
  pub is : o ≡ Some (int number)
  pub made : width_of_number span number ≡ Ok p

pub integer_of_width : (span : Span) (o : Option Value) (p : Polynomial) → width_of_known span o ≡ Ok p → IntegerOf span o p
integer_of_width span (Some (int y)) p h = record { number = y; is = refl; made = h }
integer_of_width span (Some (bool b)) p h = err_ok (fault_of T19 span) p h
integer_of_width span (Some (bits_with bs v)) p h = err_ok (fault_of T19 span) p h
integer_of_width span (Some (label n l)) p h = err_ok (fault_of T19 span) p h
integer_of_width span (Some (record_with n xs)) p h = err_ok (fault_of T19 span) p h
integer_of_width span (Some (exception_with own supers n xs)) p h = err_ok (fault_of T19 span) p h
integer_of_width span (Some (tuple_with xs)) p h = err_ok (fault_of T19 span) p h
integer_of_width span (Some (array_with k xs)) p h = err_ok (fault_of T19 span) p h
integer_of_width span None p h = err_ok (fault_of T19 span) p h

pub integer_of_number : (span : Span) (o : Option Value) (z : ℤ) → number_of_known span o ≡ Ok z → o ≡ Some (int z)
integer_of_number span (Some (int y)) z h = ap (λ x. Some (int x)) (ok_ok y z h)
integer_of_number span (Some (bool b)) z h = err_ok (fault_of T19 span) z h
integer_of_number span (Some (bits_with bs v)) z h = err_ok (fault_of T19 span) z h
integer_of_number span (Some (label n l)) z h = err_ok (fault_of T19 span) z h
integer_of_number span (Some (record_with n xs)) z h = err_ok (fault_of T19 span) z h
integer_of_number span (Some (exception_with own supers n xs)) z h = err_ok (fault_of T19 span) z h
integer_of_number span (Some (tuple_with xs)) z h = err_ok (fault_of T19 span) z h
integer_of_number span (Some (array_with k xs)) z h = err_ok (fault_of T19 span) z h
integer_of_number span None z h = err_ok (fault_of T19 span) z h
