-- Written types with numbers are what the rules make of them.
use Rattle.std.proofs.Common.{◌≡◌, ℕ, List, [], ◌∷◌, Option, Some, None, refl, sym, ap, ap₂, ◌∙◌}
use Rattle.std.specs.Prelude.{ℤ, pos, negsuc, option_map, option_and_then}
use Rattle.asl_syn.specs.declared.token.Span.{Span}
use Rattle.asl_cons.specs.declared.Part.{Part}
use Rattle.asl_poly.specs.Fractions.{whole}
use Rattle.asl_rules.specs.types.Closed.{range_in, ranges_at}
use Rattle.asl_rules.specs.types.Shapes as shapes
use Rattle.asl_rules.specs.types.Shapes.{PartShape, BitfieldShape, TypeShape, TypeShapes}
use Rattle.asl_rules.specs.types.Types.{View}
use Rattle.asl_rules.specs.values.Values.{Value, int, bool, bits_with, label, record_with, exception_with, tuple_with, array_with}
use Rattle.asl_rules.specs.types.Written as rules
use Rattle.asl_rules.specs.types.Written.{Sized, SizedRanges, SizedView, SizedParts, all_ranges, all_bitfields, filled, parts_filled, with_range, with_bitfield}
use Rattle.asl_shape.specs.private.Numbers.{range}
use Rattle.asl_shape.specs.private.Filled as f
use Rattle.asl_shape.specs.private.Filled.{Filled, Fills, sized_as, sized_parts}
use Rattle.asl_shape.specs.private.Filling.{Taken, taken, and_then, made_as, next_part, all_parts, part_from, all_fields, filling, all_fillings}
use Rattle.asl_shape.proofs.WholeEnds.{whole_floor, whole_ceiling}

-- ---- constraints

abbrev ranges_of : Taken (List Part) → SizedRanges
ranges_of t = record { ranges = ranges_at t.made (λ n. pos 0); left = t.left }

-- the ends are integers, so nothing is rounded
whole_range : (a b : ℤ) → range_in (whole a) (whole b) ≡ range a b
whole_range a b = ap₂ range (whole_ceiling a) (whole_floor b)

one_range : (a b : ℤ) (o : Option (Taken (List Part))) → with_range a b (option_map ranges_of o) ≡ option_map ranges_of (and_then (λ q qs. q ∷ qs) (taken (part_from a b) []) (λ _. o))
one_range a b None = refl
one_range a b (Some t) = ap (λ r. Some (record { ranges = r ∷ ranges_at t.made (λ n. pos 0); left = t.left })) (sym (whole_range a b))

ranges_are : (ps : List PartShape) (zs : List Value) → all_ranges ps zs ≡ option_map ranges_of (all_parts ps zs)
ranges_are [] zs = refl
ranges_are (shapes.only ∷ ps) [] = refl
ranges_are (shapes.only ∷ ps) (int a ∷ zs) = ap (with_range a a) (ranges_are ps zs) ∙ one_range a a (all_parts ps zs)
ranges_are (shapes.only ∷ ps) (bool b ∷ zs) = refl
ranges_are (shapes.only ∷ ps) (bits_with bs u ∷ zs) = refl
ranges_are (shapes.only ∷ ps) (label n l ∷ zs) = refl
ranges_are (shapes.only ∷ ps) (record_with n fs ∷ zs) = refl
ranges_are (shapes.only ∷ ps) (exception_with o s n fs ∷ zs) = refl
ranges_are (shapes.only ∷ ps) (tuple_with ys ∷ zs) = refl
ranges_are (shapes.only ∷ ps) (array_with k ys ∷ zs) = refl
ranges_are (shapes.from_to ∷ ps) [] = refl
ranges_are (shapes.from_to ∷ ps) (int a ∷ []) = refl
ranges_are (shapes.from_to ∷ ps) (int a ∷ int b ∷ zs) = ap (with_range a b) (ranges_are ps zs) ∙ one_range a b (all_parts ps zs)
ranges_are (shapes.from_to ∷ ps) (int a ∷ bool b ∷ zs) = refl
ranges_are (shapes.from_to ∷ ps) (int a ∷ bits_with bs u ∷ zs) = refl
ranges_are (shapes.from_to ∷ ps) (int a ∷ label n l ∷ zs) = refl
ranges_are (shapes.from_to ∷ ps) (int a ∷ record_with n fs ∷ zs) = refl
ranges_are (shapes.from_to ∷ ps) (int a ∷ exception_with o s n fs ∷ zs) = refl
ranges_are (shapes.from_to ∷ ps) (int a ∷ tuple_with ys ∷ zs) = refl
ranges_are (shapes.from_to ∷ ps) (int a ∷ array_with k ys ∷ zs) = refl
ranges_are (shapes.from_to ∷ ps) (bool b ∷ zs) = refl
ranges_are (shapes.from_to ∷ ps) (bits_with bs u ∷ zs) = refl
ranges_are (shapes.from_to ∷ ps) (label n l ∷ zs) = refl
ranges_are (shapes.from_to ∷ ps) (record_with n fs ∷ zs) = refl
ranges_are (shapes.from_to ∷ ps) (exception_with o s n fs ∷ zs) = refl
ranges_are (shapes.from_to ∷ ps) (tuple_with ys ∷ zs) = refl
ranges_are (shapes.from_to ∷ ps) (array_with k ys ∷ zs) = refl

-- ---- bitfields

abbrev view_of : Taken View → SizedView
view_of t = record { view = t.made; left = t.left }

one_view : (name : List ℕ) (h l : ℕ) (o : Option (Taken View)) → with_bitfield name h l (option_map view_of o) ≡ option_map view_of (and_then (λ f fs. f ∷ fs) (taken (record { name = name; high = h; low = l }) []) (λ _. o))
one_view name h l None = refl
one_view name h l (Some t) = refl

views_are : (ds : List BitfieldShape) (zs : List Value) → all_bitfields ds zs ≡ option_map view_of (all_fields ds zs)
views_are [] zs = refl
views_are (shapes.one_place name ∷ ds) [] = refl
views_are (shapes.one_place name ∷ ds) (int (pos n) ∷ zs) = ap (with_bitfield name n n) (views_are ds zs) ∙ one_view name n n (all_fields ds zs)
views_are (shapes.one_place name ∷ ds) (int (negsuc n) ∷ zs) = refl
views_are (shapes.one_place name ∷ ds) (bool b ∷ zs) = refl
views_are (shapes.one_place name ∷ ds) (bits_with bs u ∷ zs) = refl
views_are (shapes.one_place name ∷ ds) (label n l ∷ zs) = refl
views_are (shapes.one_place name ∷ ds) (record_with n fs ∷ zs) = refl
views_are (shapes.one_place name ∷ ds) (exception_with o s n fs ∷ zs) = refl
views_are (shapes.one_place name ∷ ds) (tuple_with ys ∷ zs) = refl
views_are (shapes.one_place name ∷ ds) (array_with k ys ∷ zs) = refl
views_are (shapes.many_places name ∷ ds) [] = refl
views_are (shapes.many_places name ∷ ds) (int (negsuc h) ∷ zs) = refl
views_are (shapes.many_places name ∷ ds) (int (pos h) ∷ []) = refl
views_are (shapes.many_places name ∷ ds) (int (pos h) ∷ int (pos l) ∷ zs) = ap (with_bitfield name h l) (views_are ds zs) ∙ one_view name h l (all_fields ds zs)
views_are (shapes.many_places name ∷ ds) (int (pos h) ∷ int (negsuc l) ∷ zs) = refl
views_are (shapes.many_places name ∷ ds) (int (pos h) ∷ bool b ∷ zs) = refl
views_are (shapes.many_places name ∷ ds) (int (pos h) ∷ bits_with bs u ∷ zs) = refl
views_are (shapes.many_places name ∷ ds) (int (pos h) ∷ label n l ∷ zs) = refl
views_are (shapes.many_places name ∷ ds) (int (pos h) ∷ record_with n fs ∷ zs) = refl
views_are (shapes.many_places name ∷ ds) (int (pos h) ∷ exception_with o s n fs ∷ zs) = refl
views_are (shapes.many_places name ∷ ds) (int (pos h) ∷ tuple_with ys ∷ zs) = refl
views_are (shapes.many_places name ∷ ds) (int (pos h) ∷ array_with k ys ∷ zs) = refl
views_are (shapes.many_places name ∷ ds) (bool b ∷ zs) = refl
views_are (shapes.many_places name ∷ ds) (bits_with bs u ∷ zs) = refl
views_are (shapes.many_places name ∷ ds) (label n l ∷ zs) = refl
views_are (shapes.many_places name ∷ ds) (record_with n fs ∷ zs) = refl
views_are (shapes.many_places name ∷ ds) (exception_with o s n fs ∷ zs) = refl
views_are (shapes.many_places name ∷ ds) (tuple_with ys ∷ zs) = refl
views_are (shapes.many_places name ∷ ds) (array_with k ys ∷ zs) = refl

-- ---- types

abbrev pub type_is : ℕ → Span → Taken Filled → Sized
type_is limit whole t = sized_as limit whole t.made t.left

abbrev pub parts_are : ℕ → Span → Taken Fills → SizedParts
parts_are limit whole t = sized_parts limit whole t.made t.left

integers_by : (limit : ℕ) (whole : Span) (n : Option (Taken Part)) (go : List Value → Option (Taken (List Part))) →
    option_and_then (λ (r : SizedRanges). rules.integer_filled whole (Some r.ranges) r.left) (option_map ranges_of (and_then (λ q qs. q ∷ qs) n go)) ≡ option_map (type_is limit whole) (made_as f.integer_of (and_then (λ q qs. q ∷ qs) n go))
integers_by limit whole None go = refl
integers_by limit whole (Some u) go = by (go u.left)
  where
    by : (o : Option (Taken (List Part))) → option_and_then (λ (r : SizedRanges). rules.integer_filled whole (Some r.ranges) r.left) (option_map ranges_of (option_map (λ (r : Taken (List Part)). record { made = u.made ∷ r.made; left = r.left }) o))
        ≡ option_map (type_is limit whole) (made_as f.integer_of (option_map (λ (r : Taken (List Part)). record { made = u.made ∷ r.made; left = r.left }) o))
    by None = refl
    by (Some r) = refl

bits_by : (limit : ℕ) (whole span : Span) (w : ℤ) (o : Option (Taken View)) →
    option_and_then (λ (v : SizedView). rules.bits_filled limit span w v.view v.left) (option_map view_of o) ≡ option_map (type_is limit whole) (option_map (λ (r : Taken View). record { made = f.bits_of span w r.made; left = r.left }) o)
bits_by limit whole span w None = refl
bits_by limit whole span w (Some r) = refl

bits_are : (limit : ℕ) (whole span : Span) (fs : List BitfieldShape) (zs : List Value) → rules.width_filled limit span fs zs ≡ option_map (type_is limit whole) (filling (shapes.bits_of span fs) zs)
bits_are limit whole span fs [] = refl
bits_are limit whole span fs (int w ∷ zs) = ap (option_and_then (λ (v : SizedView). rules.bits_filled limit span w v.view v.left)) (views_are fs zs) ∙ bits_by limit whole span w (all_fields fs zs)
bits_are limit whole span fs (bool b ∷ zs) = refl
bits_are limit whole span fs (bits_with bs u ∷ zs) = refl
bits_are limit whole span fs (label n l ∷ zs) = refl
bits_are limit whole span fs (record_with n gs ∷ zs) = refl
bits_are limit whole span fs (exception_with o s n gs ∷ zs) = refl
bits_are limit whole span fs (tuple_with ys ∷ zs) = refl
bits_are limit whole span fs (array_with k ys ∷ zs) = refl

tuple_by : (limit : ℕ) (whole : Span) (o : Option (Taken Fills)) → rules.tuple_filled (option_map (parts_are limit whole) o) ≡ option_map (type_is limit whole) (made_as f.tuple_of o)
tuple_by limit whole None = refl
tuple_by limit whole (Some r) = refl

array_by : (limit : ℕ) (whole : Span) (n : ℕ) (o : Option (Taken Filled)) → rules.array_filled n (option_map (type_is limit whole) o) ≡ option_map (type_is limit whole) (option_map (λ (r : Taken Filled). record { made = f.array_of n r.made; left = r.left }) o)
array_by limit whole n None = refl
array_by limit whole n (Some r) = refl

array_are : (limit : ℕ) (whole : Span) (t : TypeShape) (zs : List Value) → ((ys : List Value) → filled limit whole t ys ≡ option_map (type_is limit whole) (filling t ys))
    → rules.by_length zs (filled limit whole t) ≡ option_map (type_is limit whole) (filling (shapes.array_of t) zs)
array_are limit whole t [] h = refl
array_are limit whole t (int (pos n) ∷ zs) h = ap (rules.array_filled n) (h zs) ∙ array_by limit whole n (filling t zs)
array_are limit whole t (int (negsuc n) ∷ zs) h = refl
array_are limit whole t (bool b ∷ zs) h = refl
array_are limit whole t (bits_with bs u ∷ zs) h = refl
array_are limit whole t (label n l ∷ zs) h = refl
array_are limit whole t (record_with n fs ∷ zs) h = refl
array_are limit whole t (exception_with o s n fs ∷ zs) h = refl
array_are limit whole t (tuple_with ys ∷ zs) h = refl
array_are limit whole t (array_with k ys ∷ zs) h = refl

part_by : (limit : ℕ) (whole : Span) (u : Taken Filled) (o : Option (Taken Fills)) → rules.with_part (type_is limit whole u) (option_map (parts_are limit whole) o) ≡ option_map (parts_are limit whole) (option_map (λ (r : Taken Fills). record { made = f.fill_and u.made r.made; left = r.left }) o)
part_by limit whole u None = refl
part_by limit whole u (Some r) = refl

part_are : (limit : ℕ) (whole : Span) (o : Option (Taken Filled)) (g : List Value → Option SizedParts) (h : List Value → Option (Taken Fills)) → ((ys : List Value) → g ys ≡ option_map (parts_are limit whole) (h ys))
    → rules.first_part (option_map (type_is limit whole) o) g ≡ option_map (parts_are limit whole) (and_then f.fill_and o h)
part_are limit whole None g h k = refl
part_are limit whole (Some u) g h k = ap (rules.with_part (type_is limit whole u)) (k u.left) ∙ part_by limit whole u (h u.left)

mutual
  pub filled_is : (limit : ℕ) (whole : Span) (t : TypeShape) (zs : List Value) → filled limit whole t zs ≡ option_map (type_is limit whole) (filling t zs)
  filled_is limit whole (shapes.integer_of []) zs = refl
  filled_is limit whole (shapes.integer_of (p ∷ ps)) zs = ap (option_and_then (λ (r : SizedRanges). rules.integer_filled whole (Some r.ranges) r.left)) (ranges_are (p ∷ ps) zs) ∙ integers_by limit whole (next_part p zs) (all_parts ps)
  filled_is limit whole shapes.boolean zs = refl
  filled_is limit whole (shapes.one_bit span) zs = refl
  filled_is limit whole (shapes.bits_of span fs) zs = bits_are limit whole span fs zs
  filled_is limit whole (shapes.known T) zs = refl
  filled_is limit whole (shapes.tuple_of ts) zs = ap rules.tuple_filled (parts_is limit whole ts zs) ∙ tuple_by limit whole (all_fillings ts zs)
  filled_is limit whole (shapes.array_of t) zs = array_are limit whole t zs (filled_is limit whole t)

  pub parts_is : (limit : ℕ) (whole : Span) (ts : TypeShapes) (zs : List Value) → parts_filled limit whole ts zs ≡ option_map (parts_are limit whole) (all_fillings ts zs)
  parts_is limit whole shapes.no_shape zs = refl
  parts_is limit whole (shapes.shape_and t ts) zs = ap (λ o. rules.first_part o (parts_filled limit whole ts)) (filled_is limit whole t zs) ∙ part_are limit whole (filling t zs) (parts_filled limit whole ts) (all_fillings ts) (parts_is limit whole ts)
