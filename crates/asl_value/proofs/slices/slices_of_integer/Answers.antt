use Rattle.std.proofs.Common.{◌≡◌, ◌∙◌, None, map, sym, ap, to_z-of_z}
use Rattle.asl_bits.specs.declared.TheConstants.{WIDTH_LIMIT}
use Rattle.asl_rules.specs.values.Operators.{plain_bits}
use Rattle.asl_rules.specs.runs.Plans.{Good}
use Rattle.asl_rules.specs.values.Vectors.{tested, slicings, read_int}
use Rattle.asl_value.specs.View.{value_of, all_slices}
use Rattle.asl_value.proofs.NearPlaces.{integer_read}
use Rattle.asl_value.proofs.slices.slices_of_integer.Goals as goal

pub returns : goal.returns
returns c =
    let places : c.as_slice.result.now ≡ c.in_ok-places.places = c.as_slice.ensures in
    let read = simp (to_z-of_z, c.ranges.integer) at c.in_ok-read_integer.ensures in
    integer_read (tested WIDTH_LIMIT c.args.span None (slicings (all_slices c.args.shapes.now) (map value_of c.args.given.now))) c.in_ok-places.places c.args.integer c.ranges.integer c.in_ok-places.ensures.is ∙
    ap (λ l. Good (plain_bits (read_int l c.args.integer))) (sym places) ∙
    ap (λ b. Good (plain_bits b)) (sym read) ∙
    ap Good (sym c.plain_bits.ensures)
