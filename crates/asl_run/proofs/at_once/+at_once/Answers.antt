use Rattle.std.proofs.Common.{◌≡◌, ◌∙◌, [], ◌∷◌, None, ap, arith, length, refl, rules}
use Rattle.std.proofs.lemmas.Bool.Decides.{nat_tests}
use Rattle.asl_bits.specs.declared.TheConstants.{WIDTH_LIMIT}
use Rattle.asl_rules.specs.types.Views.{stripping}
use Rattle.asl_rules.specs.runs.Forms.{behind_left}
use Rattle.asl_rules.specs.private.HoldsBits.{holds_bits}
use Rattle.asl_rules.specs.values.Operators.{plain_bits, strictness}
use Rattle.asl_rules.specs.values.Values.{int}
use Rattle.asl_tree.specs.View.{note_view, tree_of}
use Rattle.asl_value.specs.declared.slices.SliceShape.TheVariants.{AtBit}
use Rattle.asl_run.specs.private.AtOnce.{Ends, decided_as, found}
use Rattle.asl_run.proofs.AtOnce.{begun, behind_found, called, cut_by_one, cut_by_two, cut_found, left_found, no_tree, one_shape, one_tree}
use Rattle.asl_run.proofs.AtOnce.{picked, read_found, right_found, right_truth, seen_there, settled, strict_bits, strict_integers}
use Rattle.asl_run.proofs.AtOnce.{strict_mixed, strips_nothing, taken, two_trees}
use Rattle.asl_run.proofs.Viewed.{binary_is, call_is, conditional_is, element_is, field_is, int_is, read_is, slices_is, unary_is}
use Rattle.asl_run.proofs.at_once.+at_once.Goals as goal

-- ---- operators

pub unary-returns-in-Integer : goal.unary-returns-in-Integer
unary-returns-in-Integer t c = λ fs at.
    let h = c.of_integer.ensures at in behind_found fs _ _ _ _ _ _ _ _ (c.in-Integer.ensures fs) (search rules)

pub unary-returns-in-Truth : goal.unary-returns-in-Truth
unary-returns-in-Truth t c = λ fs at. behind_found fs _ _ _ _ _ _ _ _ (c.in-Truth.ensures fs) (c.of_truth.ensures at)

pub unary-returns-in-Bits : goal.unary-returns-in-Bits
unary-returns-in-Bits t c = λ fs at. behind_found fs _ _ _ _ _ _ _ _ (c.in-Bits.ensures fs) (c.of_vector.ensures at)

pub operation-returns-in-Integer : goal.operation-returns-in-Integer
operation-returns-in-Integer t c = λ fs at.
    let h = c.behind_integer.ensures fs at in
    let e : Ends (found c.behind_integer.result) fs c.args.reach.depth
    (behind_left WIDTH_LIMIT at c.args.operator (tree_of c.args.b.now) (int c.in-Integer.x) (strictness c.args.operator))
    c.args.run.now c.operand.new.left c.behind_integer.new.left = search rules in
    left_found fs _ _ _ at _ _ _ _ _ _ _ (c.in-Integer.ensures fs) e

pub operation-returns-in-Truth : goal.operation-returns-in-Truth
operation-returns-in-Truth t c = λ fs at. left_found fs _ _ _ at _ _ _ _ _ _ _ (c.in-Truth.ensures fs) (c.behind_truth.ensures fs at)

pub operation-returns-in-Bits : goal.operation-returns-in-Bits
operation-returns-in-Bits t c = λ fs at. left_found fs _ _ _ at _ _ _ _ _ _ _ (c.in-Bits.ensures fs) (c.behind_bits.ensures fs at)

pub behind_integer-returns-in-Integer : goal.behind_integer-returns-in-Integer
behind_integer-returns-in-Integer t c = λ fs at.
    let h = c.of_integers.ensures at in
    right_found fs _ _ _ at _ _ (int c.args.x) (int c.in-Integer.y) _ _ (strict_integers at c.args.operator c.args.x c.in-Integer.y)
    (c.in-Integer.ensures fs) (search rules)

pub behind_truth-returns-in-Truth : goal.behind_truth-returns-in-Truth
behind_truth-returns-in-Truth t c = λ fs at.
    let none : c.decided.result ≡ None = search rules in
    right_truth fs _ _ _ at _ _ _ _ _ _ (c.decided.ensures ∙ ap decided_as none) (c.in-Truth.ensures fs) (c.of_truths.ensures at)

pub behind_bits-returns-in-Bits : goal.behind_bits-returns-in-Bits
behind_bits-returns-in-Bits t c = λ fs at.
    right_found fs _ _ _ at _ _ (plain_bits c.args.x.now) (plain_bits c.in-Bits.y) _ _
    (strict_bits at c.args.operator c.args.x.now c.in-Bits.y) (c.in-Bits.ensures fs) (c.of_bits.ensures at)

pub behind_bits-returns-in-Integer : goal.behind_bits-returns-in-Integer
behind_bits-returns-in-Integer t c = λ fs at.
    let h = c.of_bits_and_integer.ensures at in
    right_found fs _ _ _ at _ _ (plain_bits c.args.x.now) (int c.in-Integer.z) _ _
    (strict_mixed at c.args.operator c.args.x.now c.in-Integer.z) (c.in-Integer.ensures fs) (search rules)

-- ---- operands without nodes below

pub operand-returns-in-Int : goal.operand-returns-in-Int
operand-returns-in-Int t c = λ fs.
    c.leaf.ensures fs c.args.e.now c.args.run.now
    (rw (int_is c.args.e.now _ _ c.in-Int.is) (settled fs _ _ _ _ _ (c.literal.ensures c.in-Int.field-0.span)))

pub operand-returns-in-Read : goal.operand-returns-in-Read
operand-returns-in-Read t c = λ fs.
    let note = note_view c.in-Read.field-0 in
    c.leaf-in-Read.ensures fs c.args.e.now c.args.run.now
    (seen_there fs _ _ _ _ _ _ _ c.seen.ensures
    (rw (read_is c.args.e.now _ _ c.in-Read.is) (read_found fs _ _ _ note c.in-Read.slot _ c.value_at.ensures)))

-- ---- conditionals

pub conditional-returns-then-x : goal.conditional-returns-then-x
conditional-returns-then-x t c = λ fs at holds.
    rw (← strips_nothing c.evaluate-then-x.result holds)
    (taken fs _ _ _ (stripping holds) _ at _ _ _ _ _ _ (rw c.if-x.true at (c.in-Truth.ensures fs)) (c.evaluate-then-x.ensures fs))

pub conditional-returns-else-x : goal.conditional-returns-else-x
conditional-returns-else-x t c = λ fs at holds.
    rw (← strips_nothing c.evaluate-else-x.result holds)
    (taken fs _ _ _ (stripping holds) _ at _ _ _ _ _ _ (rw c.if-x.false at (c.in-Truth.ensures fs)) (c.evaluate-else-x.ensures fs))

-- ---- what is reached in a place

pub field-returns-in-Some : goal.field-returns-in-Some
field-returns-in-Some t c = λ fs at. behind_found fs _ _ _ _ _ _ _ _ (c.in-Some.ensures fs) (c.field_in.ensures at)

pub element-returns-in-Integer : goal.element-returns-in-Integer
element-returns-in-Integer t c = λ fs at.
    let h = c.element_in.ensures at in
    picked fs _ _ _ at _ _ _ c.in-Integer.z _ _ _ (c.in-Some.ensures fs) (c.in-Integer.ensures fs) (search rules)

-- ---- slices

pub bit_place-returns-in-Integer : goal.bit_place-returns-in-Integer
bit_place-returns-in-Integer t c = λ fs.
    let h = c.place_of.ensures in cut_by_one fs _ _ _ _ _ c.in-Integer.i _ _ (c.in-Integer.ensures fs) (search rules)

pub two_places-returns-in-Integer-evaluate : goal.two_places-returns-in-Integer-evaluate
two_places-returns-in-Integer-evaluate t c = λ fs.
    let h = c.places_of.ensures in
    cut_by_two fs _ _ _ _ _ _ c.in-Integer.i c.in-Integer-evaluate.j _ _ _ (c.in-Integer.ensures fs) (c.in-Integer-evaluate.ensures fs)
    (search rules)

pub cut_at-returns-then-es-eq1 : goal.cut_at-returns-then-es-eq1
cut_at-returns-then-es-eq1 t c = λ fs. rw (one_tree _ _ c.if-es-eq1.true c.index-es-0.is) (c.bit_place.ensures fs)

pub cut_at-returns-then-es-eq2 : goal.cut_at-returns-then-es-eq2
cut_at-returns-then-es-eq2 t c = λ fs.
    rw (two_trees _ _ _ c.if-es-eq2.true c.index-es-0-then-es-eq2.is c.index-es-1.is) (c.two_places.ensures fs)

pub sliced-returns-in-Some : goal.sliced-returns-in-Some
sliced-returns-in-Some t c = λ fs at.
    rw (one_shape c.args.shapes.now AtBit c.if-shapes-ne1.false)
    (cut_found fs _ _ _ at _ _ _ _ _ _ _ _ (c.in-Bits.ensures fs) (c.in-Some.ensures fs) (c.part.ensures at _))

pub sliced-returns-in-Some-cut_at : goal.sliced-returns-in-Some-cut_at
sliced-returns-in-Some-cut_at t c = λ fs at.
    let h = c.part_of_integer.ensures at in
    rw (one_shape c.args.shapes.now AtBit c.if-shapes-ne1.false)
    (cut_found fs _ _ _ at _ _ _ _ (int c.in-Integer.z) _ _ _ (c.in-Integer.ensures fs) (c.in-Some-cut_at.ensures fs) (search rules))

-- ---- the library

pub library-returns-then-args-eq1 : goal.library-returns-then-args-eq1
library-returns-then-args-eq1 t c = λ fs at.
    let none : length c.args.params.now ≡ 0 = grind (arith, nat_tests) in
    rw (no_tree c.args.params.now none, one_tree c.args.args.now _ c.if-args-eq1.true c.index-args-0.is) (c.on_bits.ensures fs at)

pub library-returns-then-is_empty-2 : goal.library-returns-then-is_empty-2
library-returns-then-is_empty-2 t c = λ fs at.
    let none : length c.args.args.now ≡ 0 = grind (arith, nat_tests) in
    rw (one_tree c.args.params.now _ c.if-params-eq1.true c.index-params-0.is, no_tree c.args.args.now none) (c.of_its_width.ensures fs at)

pub library-returns-then-args-eq1-2 : goal.library-returns-then-args-eq1-2
library-returns-then-args-eq1-2 t c = λ fs at.
    rw (one_tree c.args.params.now _ c.if-params-eq1-2.true c.index-params-0-then-args-eq1-2.is)
    (rw (one_tree c.args.args.now _ c.if-args-eq1-2.true c.index-args-0-then-args-eq1-2.is) (c.to_width.ensures fs at))

pub on_bits-returns-in-Bits : goal.on_bits-returns-in-Bits
on_bits-returns-in-Bits t c = λ fs at.
    called fs _ _ _ at _ [] (tree_of c.args.e.now ∷ []) [] (plain_bits c.in-Bits.x ∷ []) _ _ _ refl (_, (c.in-Bits.ensures fs, refl))
    (c.of_bits_alone.ensures at)

pub of_its_width-returns-in-Integer : goal.of_its_width-returns-in-Integer
of_its_width-returns-in-Integer t c = λ fs at.
    let h = c.of_width.ensures at in
    called fs _ _ _ at _ (tree_of c.args.width.now ∷ []) [] (int c.in-Integer.w ∷ []) [] _ _ _ (_, (c.in-Integer.ensures fs, refl)) refl
    (search rules)

pub to_width-returns-in-Bits-evaluate : goal.to_width-returns-in-Bits-evaluate
to_width-returns-in-Bits-evaluate t c = λ fs at.
    let h = c.of_width_and_bits.ensures at in
    called fs _ _ _ at _ (tree_of c.args.width.now ∷ []) (tree_of c.args.e.now ∷ []) (int c.in-Integer.w ∷ [])
    (plain_bits c.in-Bits-evaluate.x ∷ []) _ _ _
    (_, (c.in-Integer.ensures fs, refl)) (_, (c.in-Bits-evaluate.ensures fs, refl)) (search rules)

-- ---- nodes

pub part-returns-in-Read : goal.part-returns-in-Read
part-returns-in-Read t c = λ fs.
    rw (read_is c.args.e.now _ _ c.in-Read.is)
    (read_found fs _ _ _ (note_view c.in-Read.field-0) c.in-Read.slot _ c.value_at.ensures)

pub part-returns-in-Field : goal.part-returns-in-Field
part-returns-in-Field t c = λ fs.
    rw (field_is c.args.e.now _ _ _ _ c.in-Field.is c.get.ensures) (c.field.ensures fs c.in-Field.field-0.span)

pub part-returns-in-Element : goal.part-returns-in-Element
part-returns-in-Element t c = λ fs.
    rw (element_is c.args.e.now _ _ _ _ _ c.in-Element.is c.get-in-Element.ensures c.get-in-Element-2.ensures)
    (c.element.ensures fs c.in-Element.field-0.span)

pub node-returns-in-Read : goal.node-returns-in-Read
node-returns-in-Read t c = λ fs.
    seen_there fs _ _ _ _ _ _ _ c.seen.ensures
    (rw (read_is c.args.e.now _ _ c.in-Read.is)
    (read_found fs _ _ _ (note_view c.in-Read.field-0) c.in-Read.slot _ c.value_at.ensures))

pub node-returns-in-Field : goal.node-returns-in-Field
node-returns-in-Field t c = λ fs.
    seen_there fs _ _ _ _ _ _ _ c.seen-in-Field.ensures
    (rw (field_is c.args.e.now _ _ _ _ c.in-Field.is c.get-in-Field.ensures) (c.field.ensures fs c.in-Field.field-0.span))

pub node-returns-in-Element : goal.node-returns-in-Element
node-returns-in-Element t c = λ fs.
    seen_there fs _ _ _ _ _ _ _ c.seen-in-Element.ensures
    (rw (element_is c.args.e.now _ _ _ _ _ c.in-Element.is c.get-in-Element.ensures c.get-in-Element-2.ensures)
    (c.element.ensures fs c.in-Element.field-0.span))

pub node-returns-in-Unary : goal.node-returns-in-Unary
node-returns-in-Unary t c = λ fs.
    rw (unary_is c.args.e.now _ _ _ _ c.in-Unary.is c.get-in-Unary.ensures) (c.unary.ensures fs c.in-Unary.field-0.span)

pub node-returns-in-Binary : goal.node-returns-in-Binary
node-returns-in-Binary t c = λ fs.
    rw (binary_is c.args.e.now _ _ _ _ _ _ c.in-Binary.is c.get.ensures c.get-in-Binary.ensures)
    (c.operation.ensures fs c.in-Binary.field-0.span)

pub node-returns-in-Conditional : goal.node-returns-in-Conditional
node-returns-in-Conditional t c = λ fs.
    let n = c.in-Conditional.field-0 in
    rw (conditional_is c.args.e.now _ _ _ _ _ _ _ c.in-Conditional.is c.get-in-Conditional.ensures c.get-in-Conditional-2.ensures
    c.get-in-Conditional-3.ensures)
    (c.conditional.ensures fs n.span (holds_bits n.ty))

pub node-returns-in-Slices : goal.node-returns-in-Slices
node-returns-in-Slices t c = λ fs.
    rw (slices_is c.args.e.now _ _ _ _ _ _ _ c.in-Slices.is c.get-in-Slices.ensures c.as_slice.ensures c.as_slice-in-Slices.ensures)
    (c.sliced.ensures fs c.in-Slices.field-0.span)

pub node-returns-in-OfLibrary : goal.node-returns-in-OfLibrary
node-returns-in-OfLibrary t c = λ fs.
    let is = rw c.in-OfLibrary.is at c.in-Call.is in
    rw (call_is c.args.e.now _ _ _ _ _ _ _ _ is refl c.as_slice-in-OfLibrary.ensures c.as_slice-in-OfLibrary-2.ensures)
    (c.library.ensures fs c.in-Call.field-0.span)

-- ---- the entry

pub evaluate-returns : goal.evaluate-returns
evaluate-returns t c = λ fs. begun fs _ _ _ _ _ _ (omega arith) (omega arith) (c.node.ensures fs)

pub reached-returns : goal.reached-returns
reached-returns t c = λ fs. begun fs _ _ _ _ _ _ (omega arith) (omega arith) (c.part.ensures fs)
