-- Operators: the types of their operands, and of what they give.
use Rattle.std.specs.Prelude.{pos, Bool, true, false, ◌&&◌, ◌||◌, if◌then◌else◌, List, [], Result, Ok}
use Rattle.asl_syn.specs.declared.token.Span.{Span}
use Rattle.asl_syn.specs.declared.code.Fault.{Fault}
use Rattle.asl_syn.specs.declared.code.StaticCode.{StaticCode}
use Rattle.asl_syn.specs.declared.code.StaticCode.TheVariants.{T06, T08}
use Rattle.asl_syn.specs.declared.tree.UnaryOperator.{UnaryOperator}
use Rattle.asl_syn.specs.declared.tree.UnaryOperator.TheVariants as unary
use Rattle.asl_syn.specs.declared.tree.BinaryOperator.{BinaryOperator}
use Rattle.asl_syn.specs.declared.tree.BinaryOperator.TheVariants as binary
use Rattle.asl_cons.specs.declared.Part.{Part}
use Rattle.asl_cons.specs.Arithmetic as cons
use Rattle.asl_rules.specs.declared.effect.Effect.{Effect}
use Rattle.asl_rules.specs.Faults.{◌>>=◌, ◌>>◌, need}
use Rattle.asl_rules.specs.Tests.{Tests}
use Rattle.asl_rules.specs.types.Types.{Ty, integer_of, boolean, bits_of, enumeration_of, record_of, exception_of, tuple_of, array_of, named, is_integer, is_boolean, is_bits, same_kind, constraint_of, width_of, only_number}
use Rattle.asl_rules.specs.runs.Trees as tree
use Rattle.asl_rules.specs.types.Effects.{greater, together}
use Rattle.asl_rules.specs.types.Widths.{width_sum}
use Rattle.asl_rules.specs.expressions.Typing.{Typed, in_class, finish}

-- both operands are integers, and so the result
abbrev pub of_integers : Span → Ty → Ty → Ty → Result Ty Fault
of_integers span S T U = need (is_integer S && is_integer T) T08 span >> Ok U

-- integers whose result has this constraint
abbrev pub arithmetic : Span → (List Part → List Part → List Part) → Ty → Ty → Result Ty Fault
arithmetic span op S T = of_integers span S T (integer_of (op (constraint_of S) (constraint_of T)))

abbrev pub any_parts : List Part → List Part → List Part
any_parts ps qs = []

abbrev pub of_booleans : Span → Ty → Ty → Result Ty Fault
of_booleans span S T = need (is_boolean S && is_boolean T) T08 span >> Ok boolean

-- where both are bits, they have the same width
abbrev pub same_widths : Tests → Ty → Ty → Bool
same_widths t S T = if is_bits S then (if is_bits T then t.same (width_of S) (width_of T) else true) else true

-- integers, or bits with bits or an integer
abbrev pub additive : Tests → Span → (List Part → List Part → List Part) → Ty → Ty → Result Ty Fault
additive t span op S T =
    if is_integer S && is_integer T then Ok (integer_of (op (constraint_of S) (constraint_of T)))
    else (need (is_bits S && (is_bits T || is_integer T)) T08 span >> need (same_widths t S T) T06 span >> Ok (bits_of (width_of S) []))

abbrev pub bitwise : Tests → Span → Ty → Ty → Result Ty Fault
bitwise t span S T = need (is_bits S && is_bits T) T08 span >> need (same_widths t S T) T06 span >> Ok (bits_of (width_of S) [])

abbrev pub concatenated : Span → Ty → Ty → Result Ty Fault
concatenated span S T = need (is_bits S && is_bits T) T08 span >> width_sum span (width_of S) (width_of T) >>= λ w. Ok (bits_of w [])

-- not a record, an exception, a tuple or an array
abbrev pub is_comparable : Ty → Bool
is_comparable (record_of name fs) = false
is_comparable (exception_of name fs) = false
is_comparable (tuple_of ts) = false
is_comparable (array_of n T) = false
is_comparable (named name supers T) = is_comparable T
is_comparable (integer_of ps) = true
is_comparable boolean = true
is_comparable (bits_of w view) = true
is_comparable (enumeration_of name labels) = true

-- of one kind and of one width, with these codes
abbrev pub comparable : Tests → StaticCode → Span → Ty → Ty → Result (Unit {0}) Fault
comparable t code span S T = need (same_kind S T && is_comparable S) code span >> need (same_widths t S T) T06 span

abbrev pub compared : Tests → Span → Ty → Ty → Result Ty Fault
compared t span S T = comparable t T08 span S T >> Ok boolean

-- the conditions of an operator with two operands, and its type
abbrev pub binary_rule : Tests → Span → BinaryOperator → Ty → Ty → Result Ty Fault
binary_rule t span binary.LogicalAnd S T = of_booleans span S T
binary_rule t span binary.LogicalOr S T = of_booleans span S T
binary_rule t span binary.Implies S T = of_booleans span S T
binary_rule t span binary.Equivalent S T = of_booleans span S T
binary_rule t span binary.Equal S T = compared t span S T
binary_rule t span binary.NotEqual S T = compared t span S T
binary_rule t span binary.Less S T = of_integers span S T boolean
binary_rule t span binary.LessEqual S T = of_integers span S T boolean
binary_rule t span binary.Greater S T = of_integers span S T boolean
binary_rule t span binary.GreaterEqual S T = of_integers span S T boolean
binary_rule t span binary.Add S T = additive t span cons.sum_parts S T
binary_rule t span binary.Subtract S T = additive t span cons.difference_parts S T
binary_rule t span binary.BitAnd S T = bitwise t span S T
binary_rule t span binary.BitOr S T = bitwise t span S T
binary_rule t span binary.BitXor S T = bitwise t span S T
binary_rule t span binary.Concatenate S T = concatenated span S T
binary_rule t span binary.Multiply S T = arithmetic span cons.product_parts S T
binary_rule t span binary.DivideExact S T = arithmetic span any_parts S T
binary_rule t span binary.DivideFloor S T = arithmetic span cons.quotient_parts S T
binary_rule t span binary.Modulo S T = arithmetic span cons.modulo_parts S T
binary_rule t span binary.ShiftLeft S T = arithmetic span cons.shifted_up_parts S T
binary_rule t span binary.ShiftRight S T = arithmetic span cons.shifted_down_parts S T
binary_rule t span binary.Power S T = arithmetic span any_parts S T

-- the condition of an operator with one operand, and its type; `-e` is as `0 - e`
abbrev pub unary_rule : Span → UnaryOperator → Ty → Result Ty Fault
unary_rule span unary.Negate S = need (is_integer S) T08 span >> Ok (integer_of (cons.difference_parts (only_number (pos 0)) (constraint_of S)))
unary_rule span unary.Not S = need (is_boolean S) T08 span >> Ok boolean
unary_rule span unary.Complement S = need (is_bits S) T08 span >> Ok (bits_of (width_of S) [])

-- ---- operations, of operands that were typed

abbrev pub operation : Effect → Span → UnaryOperator → Typed → Result Typed Fault
operation class span o S = unary_rule span o S.ty >>= λ U. in_class class span S.effect U (λ n. tree.Unary n o S.tree)

abbrev pub operation_of_two : Tests → Effect → Span → BinaryOperator → Typed → Typed → Result Typed Fault
operation_of_two t class span o S T =
    binary_rule t span o S.ty T.ty >>= λ U.
    finish class span (together S.effect T.effect) (greater S.effect T.effect) U (λ n. tree.Binary n o S.tree T.tree)
