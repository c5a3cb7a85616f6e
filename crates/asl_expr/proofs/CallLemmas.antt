-- The arguments that subprograms of the library take.
use Rattle.std.proofs.Common.{◌≡◌, Bool, true, false, ◌&&◌, length, get_or, List, [], ◌∷◌, refl, sym, ap, ◌∙◌, arith}
use Rattle.asl_rules.specs.expressions.Calls.{of_bits, of_integer}
use Rattle.asl_rules.specs.types.Types.{integers, bitvectors, no_kind, one_more, kind, kinds, kind_eq, kinds_eq, is_bits, is_integer}
use Rattle.asl_rules.specs.expressions.Typing.{types_of}
use Rattle.asl_tree.specs.declared.tree.Tree.{Tree}
use Rattle.asl_tree.specs.View.{typed_of, all_operands}
use Rattle.asl_rules.proofs.values.SameKind.{tests_turned}

and_true : (b : Bool) → b ≡ (b && true)
and_true true = refl
and_true false = refl

and_false : (b : Bool) → false ≡ (b && false)
and_false true = refl
and_false false = refl

pub bits_not : (os : List Tree) → (length os ≡ 1 → ⊥) → false ≡ kinds_eq of_bits (kinds (types_of (all_operands os)))
bits_not [] h = refl
bits_not (o ∷ []) h = absurd (h refl)
bits_not (o ∷ p ∷ os) h = and_false (kind_eq bitvectors (kind (typed_of o).ty))

pub bits_is : (os : List Tree) (o : Tree) → length os ≡ 1 → o ≡ get_or os 0 o → is_bits (typed_of o).ty ≡ kinds_eq of_bits (kinds (types_of (all_operands os)))
bits_is [] o h e = absurd (omega (arith, h))
bits_is (p ∷ []) o h e = ap (λ x. is_bits (typed_of x).ty) e ∙ tests_turned (kind (typed_of p).ty) bitvectors ∙ and_true (kind_eq bitvectors (kind (typed_of p).ty))
bits_is (p ∷ q ∷ os) o h e = absurd (omega (arith, h))

pub integer_not : (os : List Tree) → (length os ≡ 1 → ⊥) → false ≡ kinds_eq of_integer (kinds (types_of (all_operands os)))
integer_not [] h = refl
integer_not (o ∷ []) h = absurd (h refl)
integer_not (o ∷ p ∷ os) h = and_false (kind_eq integers (kind (typed_of o).ty))

pub integer_is : (os : List Tree) (o : Tree) → length os ≡ 1 → o ≡ get_or os 0 o → is_integer (typed_of o).ty ≡ kinds_eq of_integer (kinds (types_of (all_operands os)))
integer_is [] o h e = absurd (omega (arith, h))
integer_is (p ∷ []) o h e = ap (λ x. is_integer (typed_of x).ty) e ∙ tests_turned (kind (typed_of p).ty) integers ∙ and_true (kind_eq integers (kind (typed_of p).ty))
integer_is (p ∷ q ∷ os) o h e = absurd (omega (arith, h))

pub integers_not : (os : List Tree) → (length os ≡ 2 → ⊥) → false ≡ kinds_eq (one_more integers of_integer) (kinds (types_of (all_operands os)))
integers_not [] h = refl
integers_not (o ∷ []) h = and_false (kind_eq integers (kind (typed_of o).ty))
integers_not (o ∷ p ∷ []) h = absurd (h refl)
integers_not (o ∷ p ∷ q ∷ os) h =
    and_false (kind_eq integers (kind (typed_of o).ty))
    ∙ ap (λ b. kind_eq integers (kind (typed_of o).ty) && b) (and_false (kind_eq integers (kind (typed_of p).ty)))

pub integers_are : (os : List Tree) (o p : Tree) (b c : Bool) → length os ≡ 2 → o ≡ get_or os 0 o → p ≡ get_or os 1 p → b ≡ is_integer (typed_of o).ty → c ≡ is_integer (typed_of p).ty →
    (b && c) ≡ kinds_eq (one_more integers of_integer) (kinds (types_of (all_operands os)))
integers_are [] o p b c h e f i j = absurd (omega (arith, h))
integers_are (x ∷ []) o p b c h e f i j = absurd (omega (arith, h))
integers_are (x ∷ y ∷ []) o p b c h e f i j =
    ap (λ z. z && c) (i ∙ ap (λ z. is_integer (typed_of z).ty) e ∙ tests_turned (kind (typed_of x).ty) integers)
    ∙ ap (λ z. kind_eq integers (kind (typed_of x).ty) && z) (j ∙ ap (λ z. is_integer (typed_of z).ty) f ∙ tests_turned (kind (typed_of y).ty) integers ∙ and_true (kind_eq integers (kind (typed_of y).ty)))
integers_are (x ∷ y ∷ z ∷ os) o p b c h e f i j = absurd (omega (arith, h))

pub nothing_not : (os : List Tree) → (length os ≡ 0 → ⊥) → false ≡ kinds_eq no_kind (kinds (types_of (all_operands os)))
nothing_not [] h = absurd (h refl)
nothing_not (o ∷ os) h = refl

pub nothing_is : (os : List Tree) → length os ≡ 0 → true ≡ kinds_eq no_kind (kinds (types_of (all_operands os)))
nothing_is [] h = refl
nothing_is (o ∷ os) h = absurd (omega (arith, h))
