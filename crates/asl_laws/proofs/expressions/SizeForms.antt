-- Written types with their typed trees: the expressions in them are the same, in order, and with their values the type is the one that was judged.
use Rattle.std.proofs.Common.{◌≡◌, ap₂, ℕ, ℤ, pos, negsuc, ◌&&◌, ◌||◌, cond, Bool, true, false, List, [], ◌∷◌, ◌++◌, length, Option, Some, None, option_map, Ok, refl, sym, ap, ◌∙◌, subst, map, append_assoc}
use Rattle.std.specs.Prelude.{nat_le, nat_lt, option_and_then}
use Rattle.asl_syn.specs.declared.token.Span.{Span}
use Rattle.asl_syn.specs.declared.code.StaticCode.TheVariants.{T02, T15, T16, T19, T20}
use Rattle.asl_syn.specs.declared.tree.Ident.{Ident}
use Rattle.asl_syn.specs.declared.tree.Bitfield.{Bitfield, out-Bitfield}
use Rattle.asl_syn.specs.declared.tree.ConstraintPart.{ConstraintPart, out-ConstraintPart}
use Rattle.asl_syn.specs.declared.tree.Expr.{Expr}
use Rattle.asl_syn.specs.declared.tree.FieldValue.{FieldValue}
use Rattle.asl_syn.specs.declared.tree.Pattern.{Pattern}
use Rattle.asl_syn.specs.declared.tree.Slice.{Slice}
use Rattle.asl_syn.specs.declared.tree.TypeExpr.{TypeExpr, roll-TypeExpr}
use Rattle.asl_syn.specs.declared.tree.Bitfield.TheOpen as ex
use Rattle.asl_syn.specs.declared.tree.Bitfield.TheFolds.{fold_out-Bitfield, fold_out-ConstraintPart, fold-roll-TypeExpr, para-roll-TypeExpr, map-TypeExpr, ind-TypeExpr}
use Rattle.asl_syn.specs.Layers.{TypeLayer}
use Rattle.asl_poly.specs.Terms.{Polynomial}
use Rattle.asl_poly.specs.Poly.{constant_value}
use Rattle.asl_poly.specs.Fractions.{Fraction}
use Rattle.asl_cons.specs.declared.Part.{Part}
use Rattle.asl_cons.specs.Arithmetic as cons
use Rattle.asl_rules.specs.Faults.{need, found_or, fault_of}
use Rattle.asl_rules.specs.runs.Plans.{Good}
use Rattle.asl_rules.specs.runs.Pures.{◌>>=◌}
use Rattle.asl_rules.specs.Tests.{Tests, IsRight}
use Rattle.asl_rules.specs.types.Types.{Ty, Parts, View, BitField, integer_of, boolean, bits_of, tuple_of, array_of, bits_wide}
use Rattle.asl_rules.specs.types.Closed as cl
use Rattle.asl_rules.specs.types.Closed.{Assignment, Closed, Range, floor, ceiling, range_in, width_in, width_at, end_at, ranges_at, constraint_at, type_with, parts_with, closed, kind_at, first_in}
use Rattle.asl_rules.specs.declarations.Scopes.{Entry, Signature, type_of_name}
use Rattle.asl_rules.specs.private.WellFormed.{Fixed}
use Rattle.asl_rules.specs.types.Widths.{bounded, length_of}
use Rattle.asl_rules.specs.types.Shapes as shapes
use Rattle.asl_rules.specs.types.Shapes.{PartShape, BitfieldShape, only, from_to}
use Rattle.asl_rules.specs.types.Shaped as shaped
use Rattle.asl_rules.specs.types.Shaped.{Shaped, TypeOver, Unread, part_layer, bitfield_layer, type_layer, itself, bitfield_parts, range_parts, type_parts, exprs_in, shapes_in, first_shape}
use Rattle.asl_rules.specs.runs.Trees.{Tree}
use Rattle.asl_rules.specs.types.Present.{made_into, taken, followed, in_order, part_by, constraint_by, natural, place_by, bitfield_by, bits_by, type_by, parts_by}
use Rattle.asl_rules.specs.expressions.Typing.{Found, Width, Number}
use Rattle.asl_rules.specs.expressions.Slicing.{FoundSlice}
use Rattle.asl_rules.specs.expressions.Patterns.{FoundPattern}
use Rattle.asl_cons.specs.declared.End.TheVariants.{Int}
use Rattle.asl_rules.specs.private.Agreement.{types_in}
use Rattle.asl_rules.specs.types.Writing.{WrittenEnd, end_rule, one_bit_rule, bit_range_rule, one_width, one_number, range_of_widths, range_of_numbers, WrittenPart, FoundPart, WrittenField, FoundBitfield, Written, FoundType, Numbered, written_as, all_parts, parts_written, part_shapes, part_trees, most_parts, all_fields, field_shapes, field_trees, all_numbered, placed, placed_from, all_placed, names_once, view_rule, within_limits, types_in_order, types_written, type_shapes, all_sizes}
use Rattle.asl_rules.specs.expressions.Exprs.{FoundField, found, found_type, width, written, written_rule, expr_rule, given_rule, slice_rule, part_rule, bitfield_rule, type_rule, pattern_rule}
use Rattle.asl_rules.specs.values.Values.{Value, int, bool, tuple_with, no_value, value}
use Rattle.asl_rules.specs.runs.ByNames.{types_among}
use Rattle.asl_rules.specs.types.Written.{Sized, SizedRanges, SizedView, SizedParts, with_range, part_range, all_ranges, with_bitfield, bitfield_at, all_bitfields, filled, parts_filled, first_part, with_part, first_integer, integer_filled, constraint_filled, first_bits, bits_filled, width_filled, tuple_filled, first_elements, array_filled, by_length, first_value}
use Rattle.asl_rules.proofs.basics.Inversions.{ok_ok, err_ok, bind_ok, then_ok, found_ok}
use Rattle.asl_rules.proofs.basics.Tests.{some_same, none_some}
use Rattle.asl_rules.proofs.values.Rounded.{constant_width, constant_at}
use Rattle.asl_cons.proofs.Results.{constant_is}
use Rattle.asl_rules.proofs.basics.Opening.{found_part, found_bitfield, part_opened, bitfield_opened, type_opened, bounded_ok}
use Rattle.asl_laws.proofs.expressions.Claims.{Here, Asked, of_type, of_pure, of_width, of_number, of_known, of_divisor, GivesAsked}
use Rattle.asl_laws.proofs.expressions.AskedFractions.{HasRatio, AllRatios, split_ratios, no_ratio, one_ratio, two_ratios, first_ratio, width_bounds, number_bounds, ratio_width}
use Rattle.asl_laws.proofs.widths.WholeWidths.{whole_floor, whole_ceiling, whole_ends}
use Rattle.asl_laws.proofs.expressions.TreePlans.{AllAsked, AllGive}
use Rattle.asl_laws.proofs.expressions.MatchForms.{split, asks_both, one_value, two_values, one_first}
use Rattle.asl_rules.proofs.values.KindOf.{kind_same}

abbrev own_expr : Expr × Unread → Expr
own_expr e = e.0

abbrev own_field : Bitfield × Unread → Shaped BitfieldShape Expr
own_field b = bitfield_parts b.0

abbrev own_part : ConstraintPart × Unread → Shaped PartShape Expr
own_part p = range_parts p.0

abbrev own_type : TypeExpr × Shaped TypeOver Expr → Shaped TypeOver Expr
own_type t = t.1

number_in : ℤ → ℕ
number_in (pos n) = n
number_in (negsuc n) = 0

pub same_pos : (m n : ℕ) → pos m ≡ pos n → m ≡ n
unfolding number_in
same_pos m n h = ap number_in h

-- widths and numbers, which a run takes from the integers of names
abbrev pub Numeric : Asked → Type 0
Numeric (of_width W) = Unit {0}
Numeric (of_number N) = Unit {0}
Numeric (of_type S) = ⊥
Numeric (of_pure S) = ⊥
Numeric (of_known S W) = ⊥
Numeric (of_divisor span k) = ⊥

abbrev pub AllNumeric : List Asked → Type 0
AllNumeric [] = Unit {0}
AllNumeric (q ∷ qs) = Numeric q × AllNumeric qs

numeric_both : (qs rs : List Asked) → AllNumeric qs → AllNumeric rs → AllNumeric (qs ++ rs)
numeric_both [] rs a b = b
numeric_both (q ∷ qs) rs a b = (a.0, numeric_both qs rs a.1 b)

module _ (tests : Tests) (right : IsRight tests) (base : List Entry) (subs : List Signature) (loose : Bool) (H : Here) (fixed : (name : List ℕ) (T : Ty) → type_of_name name H.scope.names ≡ Some T → Fixed T) (same : (name : List ℕ) → type_of_name name base ≡ type_of_name name H.scope.names) where
  abbrev av : Assignment
  av = H.present

  abbrev Asks : List Expr → List Tree → List Asked → Type 0
  Asks es ts qs = AllAsked tests right base subs loose H.scope es ts qs

  abbrev Give : List Asked → List Value → Type 0
  Give qs xs = AllGive tests right base subs loose H qs xs

  abbrev Ratios : List Asked → List Fraction → Type 0
  Ratios qs rs = AllRatios av qs rs

  -- ---- what is found at the pieces of a type

  -- a part of a constraint
  pub record PartSays (p : Shaped PartShape Expr) (W : WrittenPart) : Type 0 where
    pub asked : List Asked
    pub numeric : AllNumeric asked
    pub shape_is : p.shape ≡ W.shape
    pub asks : Asks p.exprs W.trees asked
    pub ranges : (xs rest : List Value) (k : List Value → Option SizedRanges) → Give asked xs →
        part_range W.shape (xs ++ rest) k ≡ with_range (ceiling (end_at W.part.low av)) (floor (end_at W.part.high av)) (k rest)
    pub present : (rs rest : List Fraction) → Ratios asked rs →
        part_by W.shape (rs ++ rest) ≡ Some (record { made = range_in (end_at W.part.low av) (end_at W.part.high av); left = rest })

  -- a bitfield whose ends are these numbers
  pub record FieldSays (p : Shaped BitfieldShape Expr) (W : WrittenField) : Type 0 where
    pub asked : List Asked
    pub numeric : AllNumeric asked
    pub shape_is : p.shape ≡ W.shape
    pub asks : Asks p.exprs W.trees asked
    pub places : (xs rest : List Value) (k : List Value → Option SizedView) (h l : ℕ) → width_at W.high.width av ≡ pos h → width_at W.low.width av ≡ pos l → Give asked xs → bitfield_at W.shape (xs ++ rest) k ≡ with_bitfield W.name h l (k rest)
    pub present : (rs rest : List Fraction) (h l : ℕ) → width_at W.high.width av ≡ pos h → width_at W.low.width av ≡ pos l →
        Ratios asked rs →
        bitfield_by W.shape (rs ++ rest) ≡ Some (record { made = record { name = W.name; high = h; low = l }; left = rest })

  -- what the values make of a shape: the type that was judged
  pub record Fills (T : Ty) (o : Option Sized) (rest : List Value) : Type 0 where
    pub one : Sized
    pub is : o ≡ Some one
    pub type_is : one.type_is ≡ type_with T av
    pub left : one.left ≡ rest

  pub record TypeSays (p : Shaped TypeOver Expr) (W : Written) : Type 0 where
    pub asked : List Asked
    pub numeric : AllNumeric asked
    pub shape_is : p.shape (types_among base) ≡ Some W.shape
    pub asks : Asks p.exprs W.sizes asked
    pub fills : (whole : Span) (xs rest : List Value) → Give asked xs → Fills W.ty (filled tests.limit whole W.shape (xs ++ rest)) rest
    pub present : (rs rest : List Fraction) → Ratios asked rs →
        type_by W.shape (rs ++ rest) ≡ Some (record { made = type_with W.ty av; left = rest })

  abbrev pub GoodPart : ConstraintPart → Type 0
  GoodPart p = (W : WrittenPart) → found_part tests p H.scope ≡ Ok W → PartSays (range_parts p) W

  abbrev pub GoodField : Bitfield → Type 0
  GoodField b = (W : WrittenField) → found_bitfield tests b H.scope ≡ Ok W → FieldSays (bitfield_parts b) W

  abbrev pub GoodType : TypeExpr → Type 0
  GoodType t = (outside : Bool) (W : Written) → written tests t outside H.scope ≡ Ok W → TypeSays (type_parts t) W

  abbrev Any : {A : Type 0} → A → Type 0
  Any x = Unit {0}

  -- ---- parts of a constraint

  -- the value is an integer between which and itself the end lies
  abbrev Ends : Asked → ℤ → Part → Type 0
  Ends q z P = (y : Value) → GivesAsked (types_in base) av q y → (y ≡ int z) × (ceiling (end_at P.low av) ≡ z) × (floor (end_at P.high av) ≡ z)

  one_range : (q : Asked) (z : ℤ) (P : Part) (xs rest : List Value) (k : List Value → Option SizedRanges) → Ends q z P → Give (q ∷ []) xs →
      part_range only (xs ++ rest) k ≡ with_range (ceiling (end_at P.low av)) (floor (end_at P.high av)) (k rest)
  one_range q z P xs rest k f h =
      one_value tests right base subs loose H (λ zs. part_range only zs k ≡ with_range (ceiling (end_at P.low av)) (floor (end_at P.high av)) (k rest)) q xs rest h
      (λ y i. let e = f y i in ap (λ v. part_range only (v ∷ rest) k) e.0 ∙ ap (λ v. with_range v z (k rest)) (sym e.1) ∙ ap (λ v. with_range (ceiling (end_at P.low av)) v (k rest)) (sym e.2))

  two_ranges : (q r : Asked) (y z : ℤ) (P Q : Part) (xs rest : List Value) (k : List Value → Option SizedRanges) → Ends q y P → Ends r z Q →
      Give (q ∷ r ∷ []) xs →
      part_range from_to (xs ++ rest) k ≡ with_range (ceiling (end_at P.low av)) (floor (end_at Q.high av)) (k rest)
  two_ranges q r y z P Q xs rest k f f2 h =
      two_values tests right base subs loose H (λ zs. part_range from_to zs k ≡ with_range (ceiling (end_at P.low av)) (floor (end_at Q.high av)) (k rest)) q r xs rest h
      (λ v u i j.
      let e = f v i in
      let g = f2 u j in
      ap (λ t. part_range from_to (t ∷ u ∷ rest) k) e.0 ∙ ap (λ t. part_range from_to (int y ∷ t ∷ rest) k) g.0 ∙
      ap (λ t. with_range t z (k rest)) (sym e.1) ∙ ap (λ t. with_range (ceiling (end_at P.low av)) t (k rest)) (sym g.2))

  abbrev wide : Width → Part
  wide W = cons.part (cons.shown W.poly) (cons.shown W.poly)

  abbrev known : Number → Part
  known N = cons.part (Int N.number) (Int N.number)

  width_ends : (W : Width) → Ends (of_width W) (width_at W.poly av) (wide W)
  width_ends W y i = let e = whole_ends av W.poly (width_at W.poly av) i.2 i.1 in (i.0, e.0, e.1)

  number_ends : (N : Number) → Ends (of_number N) N.number (known N)
  number_ends N y i = (i, whole_ceiling N.number, whole_floor N.number)

  -- with fractions
  bounds : ℤ → ℤ → Range
  bounds l h = record { low = l; high = h }

  one_present : (q : Asked) (P : Part) (rs rest : List Fraction) →
      ((r : Fraction) → HasRatio av q r → (ceiling r ≡ ceiling (end_at P.low av)) × (floor r ≡ floor (end_at P.high av))) →
      Ratios (q ∷ []) rs →
      part_by only (rs ++ rest) ≡ Some (record { made = range_in (end_at P.low av) (end_at P.high av); left = rest })
  unfolding bounds
  one_present q P rs rest f h =
      one_ratio av (λ ss. part_by only ss ≡ Some (record { made = range_in (end_at P.low av) (end_at P.high av); left = rest })) q rs rest h
      (λ r i. let e = f r i in ap₂ (λ l u. Some (record { made = bounds l u; left = rest })) e.0 e.1)

  two_present : (q r : Asked) (P Q : Part) (rs rest : List Fraction) →
      ((s : Fraction) → HasRatio av q s → (ceiling s ≡ ceiling (end_at P.low av)) × (floor s ≡ floor (end_at P.high av))) →
      ((s : Fraction) → HasRatio av r s → (ceiling s ≡ ceiling (end_at Q.low av)) × (floor s ≡ floor (end_at Q.high av))) → Ratios (q ∷ r ∷ []) rs →
      part_by from_to (rs ++ rest) ≡ Some (record { made = range_in (end_at P.low av) (end_at Q.high av); left = rest })
  unfolding bounds
  two_present q r P Q rs rest f g h =
      two_ratios av (λ ss. part_by from_to ss ≡ Some (record { made = range_in (end_at P.low av) (end_at Q.high av); left = rest })) q r rs rest h
      (λ s t i j. ap₂ (λ l u. Some (record { made = bounds l u; left = rest })) (f s i).0 (g t j).1)

  only_says : (b : Bool) (e : Expr) (W : WrittenPart) → cond b (one_width (found tests e) H.scope) (one_number (found tests e) H.scope) ≡ Ok W → PartSays (record { shape = only; exprs = e ∷ [] }) W
  only_says true e W h =
      let p = bind_ok (width tests e H.scope) _ W h in
      subst (PartSays (record { shape = only; exprs = e ∷ [] })) (ok_ok _ W p.then)
      (record {
        asked = of_width p.value ∷ [];
        numeric = (tt, tt);
        shape_is = refl;
        asks = (p.first, refl, tt);
        ranges = λ xs rest k g. one_range (of_width p.value) (width_at p.value.poly av) (wide p.value) xs rest k (width_ends p.value) g;
        present = λ rs rest g. one_present (of_width p.value) (wide p.value) rs rest (width_bounds av p.value) g;
      })
  only_says false e W h =
      let z = bind_ok ((found tests e).number H.scope) _ W h in
      subst (PartSays (record { shape = only; exprs = e ∷ [] })) (ok_ok _ W z.then)
      (record {
        asked = of_number z.value ∷ [];
        numeric = (tt, tt);
        shape_is = refl;
        asks = (z.first, refl, tt);
        ranges = λ xs rest k g. one_range (of_number z.value) z.value.number (known z.value) xs rest k (number_ends z.value) g;
        present = λ rs rest g. one_present (of_number z.value) (known z.value) rs rest (number_bounds av z.value) g;
      })

  range_says : (b : Bool) (e f : Expr) (W : WrittenPart) → cond b (range_of_widths (found tests e) (found tests f) H.scope) (range_of_numbers (found tests e) (found tests f) H.scope) ≡ Ok W → PartSays (record { shape = from_to; exprs = e ∷ f ∷ [] }) W
  range_says true e f W h =
      let p = bind_ok (width tests e H.scope) _ W h in
      let q = bind_ok (width tests f H.scope) _ W p.then in
      subst (PartSays (record { shape = from_to; exprs = e ∷ f ∷ [] })) (ok_ok _ W q.then)
      (record {
        asked = of_width p.value ∷ of_width q.value ∷ [];
        numeric = (tt, (tt, tt));
        shape_is = refl;
        asks = (p.first, refl, (q.first, refl, tt));
        ranges = λ xs rest k g. two_ranges (of_width p.value) (of_width q.value) (width_at p.value.poly av) (width_at q.value.poly av) (wide p.value) (wide q.value) xs rest k (width_ends p.value) (width_ends q.value) g;
        present = λ rs rest g. two_present (of_width p.value) (of_width q.value) (wide p.value) (wide q.value) rs rest (width_bounds av p.value) (width_bounds av q.value) g;
      })
  range_says false e f W h =
      let y = bind_ok ((found tests e).number H.scope) _ W h in
      let z = bind_ok ((found tests f).number H.scope) _ W y.then in
      subst (PartSays (record { shape = from_to; exprs = e ∷ f ∷ [] })) (ok_ok _ W z.then)
      (record {
        asked = of_number y.value ∷ of_number z.value ∷ [];
        numeric = (tt, (tt, tt));
        shape_is = refl;
        asks = (y.first, refl, (z.first, refl, tt));
        ranges = λ xs rest k g. two_ranges (of_number y.value) (of_number z.value) y.value.number z.value.number (known y.value) (known z.value) xs rest k (number_ends y.value) (number_ends z.value) g;
        present = λ rs rest g. two_present (of_number y.value) (of_number z.value) (known y.value) (known z.value) rs rest (number_bounds av y.value) (number_bounds av z.value) g;
      })

  -- ---- bitfields

  abbrev field_of : List ℕ → ℕ → ℕ → BitField
  field_of n h l = record { name = n; high = h; low = l }

  one_place_says : (e : Expr) (i : Ident) (W : WrittenField) → one_bit_rule (found tests e) i H.scope ≡ Ok W → FieldSays (record { shape = shapes.one_place i.text; exprs = e ∷ [] }) W
  one_place_says e i W h =
      let x = bind_ok (end_rule (found tests e) H.scope) _ W h in
      let p = bind_ok (width tests e H.scope) _ x.value x.first in
      let same_end = ok_ok (record { span = (found tests e).span; width = p.value.poly; tree = p.value.tree }) x.value p.then in
      subst (FieldSays (record { shape = shapes.one_place i.text; exprs = e ∷ [] })) (ok_ok _ W x.then)
      (subst (λ (z : WrittenEnd). FieldSays (record { shape = shapes.one_place i.text; exprs = e ∷ [] }) (record { name = i.text; high = z; low = z; shape = shapes.one_place i.text; trees = z.tree ∷ [] })) same_end
      (record {
        asked = of_width p.value ∷ [];
        numeric = (tt, tt);
        shape_is = refl;
        asks = (p.first, refl, tt);
        places = λ xs rest k hi lo e1 e2 g. one_value tests right base subs loose H (λ zs. bitfield_at (shapes.one_place i.text) zs k ≡ with_bitfield i.text hi lo (k rest)) (of_width p.value) xs rest g
            (λ y j. ap (λ v. bitfield_at (shapes.one_place i.text) (v ∷ rest) k) (j.0 ∙ ap int e1) ∙ ap (λ n. with_bitfield i.text hi n (k rest)) (same_pos hi lo (sym e1 ∙ e2)));
        present = λ rs rest hi lo e1 e2 g.
            one_ratio av (λ ss. bitfield_by (shapes.one_place i.text) ss ≡ Some (record { made = record { name = i.text; high = hi; low = lo }; left = rest })) (of_width p.value) rs rest g
            (λ r j.
            ap (λ z. made_into (λ n. field_of i.text n n) (option_and_then (λ n. taken n rest) (natural z))) (ratio_width av p.value r j ∙ e1) ∙
            ap (λ n. Some (record { made = field_of i.text hi n; left = rest })) (same_pos hi lo (sym e1 ∙ e2)));
      }))

  many_places_say : (e f : Expr) (i : Ident) (W : WrittenField) → bit_range_rule (found tests e) (found tests f) i H.scope ≡ Ok W → FieldSays (record { shape = shapes.many_places i.text; exprs = e ∷ f ∷ [] }) W
  many_places_say e f i W h =
      let x = bind_ok (end_rule (found tests e) H.scope) _ W h in
      let p = bind_ok (width tests e H.scope) _ x.value x.first in
      let y = bind_ok (end_rule (found tests f) H.scope) _ W x.then in
      let q = bind_ok (width tests f H.scope) _ y.value y.first in
      let first_end = ok_ok (record { span = (found tests e).span; width = p.value.poly; tree = p.value.tree }) x.value p.then in
      let second_end = ok_ok (record { span = (found tests f).span; width = q.value.poly; tree = q.value.tree }) y.value q.then in
      subst (FieldSays (record { shape = shapes.many_places i.text; exprs = e ∷ f ∷ [] })) (ok_ok _ W y.then)
      (subst (λ (z : WrittenEnd). FieldSays (record { shape = shapes.many_places i.text; exprs = e ∷ f ∷ [] }) (record { name = i.text; high = z; low = y.value; shape = shapes.many_places i.text; trees = z.tree ∷ y.value.tree ∷ [] })) first_end
      (subst (λ (z : WrittenEnd). FieldSays (record { shape = shapes.many_places i.text; exprs = e ∷ f ∷ [] }) (record { name = i.text; high = record { span = (found tests e).span; width = p.value.poly; tree = p.value.tree }; low = z; shape = shapes.many_places i.text; trees = p.value.tree ∷ z.tree ∷ [] })) second_end
      (record {
        asked = of_width p.value ∷ of_width q.value ∷ [];
        numeric = (tt, (tt, tt));
        shape_is = refl;
        asks = (p.first, refl, (q.first, refl, tt));
        places = λ xs rest k hi lo e1 e2 g. two_values tests right base subs loose H (λ zs. bitfield_at (shapes.many_places i.text) zs k ≡ with_bitfield i.text hi lo (k rest)) (of_width p.value) (of_width q.value) xs rest g
            (λ v u j l. ap (λ t. bitfield_at (shapes.many_places i.text) (t ∷ u ∷ rest) k) (j.0 ∙ ap int e1) ∙ ap (λ t. bitfield_at (shapes.many_places i.text) (int (pos hi) ∷ t ∷ rest) k) (l.0 ∙ ap int e2));
        present = λ rs rest hi lo e1 e2 g.
            two_ratios av (λ ss. bitfield_by (shapes.many_places i.text) ss ≡ Some (record { made = record { name = i.text; high = hi; low = lo }; left = rest })) (of_width p.value) (of_width q.value) rs rest g
            (λ r s j l.
            ap (λ z. followed (λ h l. field_of i.text h l) (option_and_then (λ n. taken n (s ∷ rest)) (natural z)) place_by) (ratio_width av p.value r j ∙ e1) ∙
            ap (λ z. made_into (field_of i.text hi) (option_and_then (λ n. taken n rest) (natural z))) (ratio_width av q.value s l ∙ e2));
      })))

  part_layer_says : (l : ex.ConstraintPart-F Bitfield ConstraintPart Expr FieldValue Pattern Slice TypeExpr) (W : WrittenPart) → part_rule (part_opened tests l) H.scope ≡ Ok W → PartSays (part_layer itself l) W
  part_layer_says (ex.Only e) W h = only_says ((found tests e).has_atom H.scope) e W h
  part_layer_says (ex.FromTo e f) W h = range_says ((found tests e).has_atom H.scope || (found tests f).has_atom H.scope) e f W h

  field_layer_says : (l : ex.Bitfield-F Bitfield ConstraintPart Expr FieldValue Pattern Slice TypeExpr) (W : WrittenField) → bitfield_rule (bitfield_opened tests l) H.scope ≡ Ok W → FieldSays (bitfield_layer itself l) W
  field_layer_says (ex.OneBit e i) W h = one_place_says e i W h
  field_layer_says (ex.BitRange e f i) W h = many_places_say e f i W h

  part_says : (p : ConstraintPart) → GoodPart p
  part_says p W h =
      part_layer_says (out-ConstraintPart p) W (sym (ap (λ (f : FoundPart). f H.scope) (fold_out-ConstraintPart FoundBitfield FoundPart Found FoundField FoundPattern FoundSlice FoundType bitfield_rule part_rule (expr_rule tests) given_rule (pattern_rule tests) slice_rule (type_rule tests) p)) ∙ h)

  field_says : (b : Bitfield) → GoodField b
  field_says b W h =
      field_layer_says (out-Bitfield b) W (sym (ap (λ (f : FoundBitfield). f H.scope) (fold_out-Bitfield FoundBitfield FoundPart Found FoundField FoundPattern FoundSlice FoundType bitfield_rule part_rule (expr_rule tests) given_rule (pattern_rule tests) slice_rule (type_rule tests) b)) ∙ h)

  -- ---- lists

  record RangesSay (ps : List ConstraintPart) (Ws : List WrittenPart) : Type 0 where
    pub asked : List Asked
    pub numeric : AllNumeric asked
    pub shapes_are : shapes_in range_parts ps ≡ part_shapes Ws
    pub asks : Asks (exprs_in range_parts ps) (part_trees Ws) asked
    pub ranges : (xs rest : List Value) → Give asked xs → all_ranges (part_shapes Ws) (xs ++ rest) ≡ Some (record { ranges = ranges_at (parts_written Ws) av; left = rest })
    pub present : (rs rest : List Fraction) → Ratios asked rs →
        in_order part_by (part_shapes Ws) (rs ++ rest) ≡ Some (record { made = ranges_at (parts_written Ws) av; left = rest })

  no_values : (xs rest : List Value) → Give [] xs → xs ++ rest ≡ rest
  no_values [] rest g = refl
  no_values (x ∷ xs) rest g = absurd g

  abbrev range_and : Range → List Range → List Range
  range_and r rs = r ∷ rs

  ranges_say : (ps : List ((p : ConstraintPart) × Any p)) (Ws : List WrittenPart) → all_parts (map (found_part tests) (map (λ p. p.0) ps)) H.scope ≡ Ok Ws → RangesSay (map (λ p. p.0) ps) Ws
  ranges_say [] Ws h = subst (RangesSay []) (ok_ok [] Ws h) (record { asked = []; numeric = tt; shapes_are = refl; asks = tt; ranges = λ xs rest g. ap (λ l. Some (record { ranges = []; left = l })) (no_values xs rest g); present = λ rs rest g. ap (λ l. taken [] l) (no_ratio av rs rest g) })
  ranges_say (p ∷ ps) Ws h =
      let s = bind_ok (found_part tests p.0 H.scope) _ Ws h in
      let r = bind_ok (all_parts (map (found_part tests) (map (λ p. p.0) ps)) H.scope) _ Ws s.then in
      let a = part_says p.0 s.value s.first in
      let b = ranges_say ps r.value r.first in
      subst (RangesSay (map (λ p. p.0) (p ∷ ps))) (ok_ok (s.value ∷ r.value) Ws r.then)
      (record {
        asked = a.asked ++ b.asked;
        numeric = numeric_both a.asked b.asked a.numeric b.numeric;
        shapes_are = ap (λ q. q ∷ shapes_in range_parts (map (λ p. p.0) ps)) a.shape_is ∙ ap (λ l. s.value.shape ∷ l) b.shapes_are;
        asks = asks_both tests right base subs loose H (range_parts p.0).exprs (exprs_in range_parts (map (λ p. p.0) ps)) s.value.trees (part_trees r.value) a.asked b.asked a.asks b.asks;
        ranges = λ xs rest g.
            let v = split tests right base subs loose H a.asked b.asked xs g in
            ap (λ l. part_range s.value.shape (l ++ rest) (all_ranges (part_shapes r.value))) v.are
            ∙ ap (λ l. part_range s.value.shape l (all_ranges (part_shapes r.value))) (append_assoc v.first v.second rest)
            ∙ a.ranges v.first (v.second ++ rest) (all_ranges (part_shapes r.value)) v.own
            ∙ ap (with_range (ceiling (end_at s.value.part.low av)) (floor (end_at s.value.part.high av))) (b.ranges v.second rest v.others);
        present = λ rs rest g.
            let v = split_ratios av a.asked b.asked rs g in
            ap (λ l. followed range_and (part_by s.value.shape (l ++ rest)) (in_order part_by (part_shapes r.value))) v.are
            ∙ ap (λ l. followed range_and (part_by s.value.shape l) (in_order part_by (part_shapes r.value))) (append_assoc v.first v.second rest)
            ∙ ap (λ o. followed range_and o (in_order part_by (part_shapes r.value))) (a.present v.first (v.second ++ rest) v.own)
            ∙ ap (made_into (range_and (range_in (end_at s.value.part.low av) (end_at s.value.part.high av)))) (b.present v.second rest v.others);
      })

  record FieldsSay (bs : List Bitfield) (Ws : List WrittenField) : Type 0 where
    pub asked : List Asked
    pub numeric : AllNumeric asked
    pub shapes_are : shapes_in bitfield_parts bs ≡ field_shapes Ws
    pub asks : Asks (exprs_in bitfield_parts bs) (field_trees Ws) asked
    pub view : (span : Span) (z : ℤ) (ns : List Numbered) (u : View) (xs rest : List Value) → all_numbered Ws ≡ Ok ns → all_placed span z ns ≡ Ok u → Give asked xs → all_bitfields (field_shapes Ws) (xs ++ rest) ≡ Some (record { view = u; left = rest })
    pub present : (span : Span) (z : ℤ) (ns : List Numbered) (u : View) (rs rest : List Fraction) → all_numbered Ws ≡ Ok ns →
        all_placed span z ns ≡ Ok u → Ratios asked rs →
        in_order bitfield_by (field_shapes Ws) (rs ++ rest) ≡ Some (record { made = u; left = rest })

  record Placing (z : ℤ) (n : Numbered) (x : BitField) : Type 0 where
    pub high_is : n.high ≡ pos x.high
    pub low_is : n.low ≡ pos x.low
    pub name_is : n.name ≡ x.name

  placed_by : (b : Bool) (w h l : ℕ) (n : Numbered) (x : BitField) → n.high ≡ pos h → n.low ≡ pos l → cond b (Some (record { name = n.name; high = h; low = l })) None ≡ Some x → Placing (pos w) n x
  placed_by true w h l n x e f k = subst (Placing (pos w) n) (some_same (record { name = n.name; high = h; low = l }) x k) (record { high_is = e; low_is = f; name_is = refl })
  placed_by false w h l n x e f k = none_some x k

  placing_of : (w : ℕ) (n : Numbered) (h l : ℤ) (x : BitField) → n.high ≡ h → n.low ≡ l → placed_from w n.name h l ≡ Some x → Placing (pos w) n x
  placing_of w n (pos h) (pos l) x e f k = placed_by (nat_le l h && nat_lt h w) w h l n x e f k
  placing_of w n (pos h) (negsuc l) x e f k = none_some x k
  placing_of w n (negsuc h) l x e f k = none_some x k

  placing : (z : ℤ) (n : Numbered) (x : BitField) → placed z n ≡ Some x → Placing z n x
  placing (pos w) n x k = placing_of w n n.high n.low x refl refl k
  placing (negsuc w) n x k = none_some x k

  -- the first bitfield at its places, and the others
  record FirstPlaced (W : WrittenField) (Ws : List WrittenField) (span : Span) (z : ℤ) (u : View) : Type 0 where
    pub own : BitField
    pub others : View
    pub numbers : List Numbered
    pub high_is : width_at W.high.width av ≡ pos own.high
    pub low_is : width_at W.low.width av ≡ pos own.low
    pub name_is : W.name ≡ own.name
    pub numbered : all_numbered Ws ≡ Ok numbers
    pub placed : all_placed span z numbers ≡ Ok others
    pub are : own ∷ others ≡ u

  first_placed : (W : WrittenField) (Ws : List WrittenField) (span : Span) (z : ℤ) (ns : List Numbered) (u : View) →
      all_numbered (W ∷ Ws) ≡ Ok ns → all_placed span z ns ≡ Ok u → FirstPlaced W Ws span z u
  first_placed W Ws span z ns u n p =
      let hi = bind_ok (found_or (constant_value W.high.width) T19 W.high.span) _ ns n in
      let lo = bind_ok (found_or (constant_value W.low.width) T19 W.low.span) _ ns hi.then in
      let ms = bind_ok (all_numbered Ws) _ ns lo.then in
      let one : Numbered = record { name = W.name; high = hi.value; low = lo.value } in
      let p2 = subst (λ l. all_placed span z l ≡ Ok u) (sym (ok_ok (one ∷ ms.value) ns ms.then)) p in
      let x = bind_ok (found_or (placed z one) T16 span) _ u p2 in
      let y = bind_ok (all_placed span z ms.value) _ u x.then in
      let q = placing z one x.value (found_ok (placed z one) T16 span x.value x.first) in
      record {
        own = x.value;
        others = y.value;
        numbers = ms.value;
        high_is = constant_width av W.high.width hi.value (constant_is av W.high.width hi.value (found_ok (constant_value W.high.width) T19 W.high.span hi.value hi.first)) ∙ q.high_is;
        low_is = constant_width av W.low.width lo.value (constant_is av W.low.width lo.value (found_ok (constant_value W.low.width) T19 W.low.span lo.value lo.first)) ∙ q.low_is;
        name_is = q.name_is;
        numbered = ms.first;
        placed = y.first;
        are = ok_ok (x.value ∷ y.value) u y.then;
      }

  abbrev field_and : BitField → View → View
  field_and b bs = b ∷ bs

  fields_say : (bs : List ((b : Bitfield) × Any b)) (Ws : List WrittenField) → all_fields (map (found_bitfield tests) (map (λ b. b.0) bs)) H.scope ≡ Ok Ws → FieldsSay (map (λ b. b.0) bs) Ws
  fields_say [] Ws h =
      subst (FieldsSay []) (ok_ok [] Ws h)
      (record { asked = []; numeric = tt; shapes_are = refl; asks = tt; view = λ span z ns u xs rest n p g. ap (λ l. Some (record { view = []; left = l })) (no_values xs rest g) ∙ ap (λ v. Some (record { view = v; left = rest })) (none_placed span z ns u n p); present = λ span z ns u rs rest n p g. ap (λ l. taken [] l) (no_ratio av rs rest g) ∙ ap (λ v. taken v rest) (none_placed span z ns u n p) })
    where
      none_placed : (span : Span) (z : ℤ) (ns : List Numbered) (u : View) → all_numbered [] ≡ Ok ns → all_placed span z ns ≡ Ok u → [] ≡ u
      none_placed span z ns u n p = ok_ok [] u (subst (λ ms. all_placed span z ms ≡ Ok u) (sym (ok_ok [] ns n)) p)
  fields_say (b ∷ bs) Ws h =
      let s = bind_ok (found_bitfield tests b.0 H.scope) _ Ws h in
      let r = bind_ok (all_fields (map (found_bitfield tests) (map (λ b. b.0) bs)) H.scope) _ Ws s.then in
      let a = field_says b.0 s.value s.first in
      let c = fields_say bs r.value r.first in
      subst (FieldsSay (map (λ b. b.0) (b ∷ bs))) (ok_ok (s.value ∷ r.value) Ws r.then)
      (record {
        asked = a.asked ++ c.asked;
        numeric = numeric_both a.asked c.asked a.numeric c.numeric;
        shapes_are = ap (λ q. q ∷ shapes_in bitfield_parts (map (λ b. b.0) bs)) a.shape_is ∙ ap (λ l. s.value.shape ∷ l) c.shapes_are;
        asks = asks_both tests right base subs loose H (bitfield_parts b.0).exprs (exprs_in bitfield_parts (map (λ b. b.0) bs)) s.value.trees (field_trees r.value) a.asked c.asked a.asks c.asks;
        view = λ span z ns u xs rest n p g.
            let v = split tests right base subs loose H a.asked c.asked xs g in
            let q = first_placed s.value r.value span z ns u n p in
            ap (λ l. bitfield_at s.value.shape (l ++ rest) (all_bitfields (field_shapes r.value))) v.are
            ∙ ap (λ l. bitfield_at s.value.shape l (all_bitfields (field_shapes r.value))) (append_assoc v.first v.second rest)
            ∙ a.places v.first (v.second ++ rest) (all_bitfields (field_shapes r.value)) q.own.high q.own.low q.high_is q.low_is v.own
            ∙ ap (with_bitfield s.value.name q.own.high q.own.low) (c.view span z q.numbers q.others v.second rest q.numbered q.placed v.others)
            ∙ ap (λ i. Some (record { view = record { name = i; high = q.own.high; low = q.own.low } ∷ q.others; left = rest })) q.name_is
            ∙ ap (λ l. Some (record { view = l; left = rest })) q.are;
        present = λ span z ns u rs rest n p g.
            let v = split_ratios av a.asked c.asked rs g in
            let q = first_placed s.value r.value span z ns u n p in
            ap (λ l. followed field_and (bitfield_by s.value.shape (l ++ rest)) (in_order bitfield_by (field_shapes r.value))) v.are
            ∙ ap (λ l. followed field_and (bitfield_by s.value.shape l) (in_order bitfield_by (field_shapes r.value))) (append_assoc v.first v.second rest)
            ∙ ap (λ o. followed field_and o (in_order bitfield_by (field_shapes r.value))) (a.present v.first (v.second ++ rest) q.own.high q.own.low q.high_is q.low_is v.own)
            ∙ ap (made_into (field_and (field_of s.value.name q.own.high q.own.low))) (c.present span z q.numbers q.others v.second rest q.numbered q.placed v.others)
            ∙ ap (λ i. taken (field_of i q.own.high q.own.low ∷ q.others) rest) q.name_is
            ∙ ap (λ l. taken l rest) q.are;
      })

  -- the parts of a tuple
  record PartsFill (Ts : Parts) (o : Option SizedParts) (rest : List Value) : Type 0 where
    pub one : SizedParts
    pub is : o ≡ Some one
    pub parts_are : one.parts ≡ parts_with Ts av
    pub left : one.left ≡ rest

  record TypesSay (ts : List TypeExpr) (Ws : List Written) : Type 0 where
    pub asked : List Asked
    pub numeric : AllNumeric asked
    pub shapes_are : shaped.type_shapes (types_among base) (shapes_in type_parts ts) ≡ Some (type_shapes Ws)
    pub asks : Asks (exprs_in type_parts ts) (all_sizes Ws) asked
    pub fills : (whole : Span) (xs rest : List Value) → Give asked xs → PartsFill (types_written Ws) (parts_filled tests.limit whole (type_shapes Ws) (xs ++ rest)) rest
    pub present : (rs rest : List Fraction) → Ratios asked rs →
        parts_by (type_shapes Ws) (rs ++ rest) ≡ Some (record { made = parts_with (types_written Ws) av; left = rest })

  types_say : (ts : List ((t : TypeExpr) × GoodType t)) (outside : Bool) (Ws : List Written) → types_in_order outside (map (found_type tests) (map (λ t. t.0) ts)) H.scope ≡ Ok Ws → TypesSay (map (λ t. t.0) ts) Ws
  types_say [] outside Ws h =
      subst (TypesSay []) (ok_ok [] Ws h)
      (record { asked = []; numeric = tt; shapes_are = refl; asks = tt; fills = λ whole xs rest g. record { one = record { parts = cl.no_part; first = Good no_value; left = xs ++ rest }; is = refl; parts_are = refl; left = no_values xs rest g }; present = λ rs rest g. ap (λ l. taken cl.no_part l) (no_ratio av rs rest g) })
  types_say (t ∷ ts) outside Ws h =
      let s = bind_ok (written tests t.0 outside H.scope) _ Ws h in
      let r = bind_ok (types_in_order outside (map (found_type tests) (map (λ t. t.0) ts)) H.scope) _ Ws s.then in
      let a = t.1 outside s.value s.first in
      let b = types_say ts outside r.value r.first in
      subst (TypesSay (map (λ t. t.0) (t ∷ ts))) (ok_ok (s.value ∷ r.value) Ws r.then)
      (record {
        asked = a.asked ++ b.asked;
        numeric = numeric_both a.asked b.asked a.numeric b.numeric;
        shapes_are = ap (λ o. first_shape o (shaped.type_shapes (types_among base) (shapes_in type_parts (map (λ t. t.0) ts)))) a.shape_is ∙ ap (first_shape (Some s.value.shape)) b.shapes_are;
        asks = asks_both tests right base subs loose H (type_parts t.0).exprs (exprs_in type_parts (map (λ t. t.0) ts)) s.value.sizes (all_sizes r.value) a.asked b.asked a.asks b.asks;
        fills = λ whole xs rest g.
            let v = split tests right base subs loose H a.asked b.asked xs g in
            let f = a.fills whole v.first (v.second ++ rest) v.own in
            let k = b.fills whole v.second rest v.others in
            record {
              one = record { parts = cl.part f.one.type_is k.one.parts; first = f.one.first >>= λ x. k.one.first >>= λ ys. Good (value x ys); left = k.one.left };
              is =
                  ap (λ l. first_part (filled tests.limit whole s.value.shape (l ++ rest)) (parts_filled tests.limit whole (type_shapes r.value))) v.are
                  ∙ ap (λ l. first_part (filled tests.limit whole s.value.shape l) (parts_filled tests.limit whole (type_shapes r.value))) (append_assoc v.first v.second rest)
                  ∙ ap (λ o. first_part o (parts_filled tests.limit whole (type_shapes r.value))) f.is
                  ∙ ap (λ l. with_part f.one (parts_filled tests.limit whole (type_shapes r.value) l)) f.left
                  ∙ ap (with_part f.one) k.is;
              parts_are = ap (λ T. cl.part T k.one.parts) f.type_is ∙ ap (cl.part (type_with s.value.ty av)) k.parts_are;
              left = k.left;
            };
        present = λ rs rest g.
            let v = split_ratios av a.asked b.asked rs g in
            ap (λ l. followed cl.part (type_by s.value.shape (l ++ rest)) (parts_by (type_shapes r.value))) v.are
            ∙ ap (λ l. followed cl.part (type_by s.value.shape l) (parts_by (type_shapes r.value))) (append_assoc v.first v.second rest)
            ∙ ap (λ o. followed cl.part o (parts_by (type_shapes r.value))) (a.present v.first (v.second ++ rest) v.own)
            ∙ ap (made_into (cl.part (type_with s.value.ty av))) (b.present v.second rest v.others);
      })

  -- ---- each written type

  parts_same : (ps : List ConstraintPart) → shapes_in own_part (map (λ p. (p, tt)) ps) ≡ shapes_in range_parts ps
  parts_same [] = refl
  parts_same (p ∷ ps) = ap (λ l. (range_parts p).shape ∷ l) (parts_same ps)

  part_exprs_same : (ps : List ConstraintPart) → exprs_in own_part (map (λ p. (p, tt)) ps) ≡ exprs_in range_parts ps
  part_exprs_same [] = refl
  part_exprs_same (p ∷ ps) = ap (λ l. (range_parts p).exprs ++ l) (part_exprs_same ps)

  fields_same : (bs : List Bitfield) → shapes_in own_field (map (λ b. (b, tt)) bs) ≡ shapes_in bitfield_parts bs
  fields_same [] = refl
  fields_same (b ∷ bs) = ap (λ l. (bitfield_parts b).shape ∷ l) (fields_same bs)

  field_exprs_same : (bs : List Bitfield) → exprs_in own_field (map (λ b. (b, tt)) bs) ≡ exprs_in bitfield_parts bs
  field_exprs_same [] = refl
  field_exprs_same (b ∷ bs) = ap (λ l. (bitfield_parts b).exprs ++ l) (field_exprs_same bs)

  types_same : (ts : List TypeExpr) → shapes_in own_type (map (λ t. (t, type_parts t)) ts) ≡ shapes_in type_parts ts
  types_same [] = refl
  types_same (t ∷ ts) = ap (λ l. (type_parts t).shape ∷ l) (types_same ts)

  type_exprs_same : (ts : List TypeExpr) → exprs_in own_type (map (λ t. (t, type_parts t)) ts) ≡ exprs_in type_parts ts
  type_exprs_same [] = refl
  type_exprs_same (t ∷ ts) = ap (λ l. (type_parts t).exprs ++ l) (type_exprs_same ts)

  integer_fills : (whole : Span) (Ws : List WrittenPart) (zs rest : List Value) → all_ranges (part_shapes Ws) zs ≡ Some (record { ranges = ranges_at (parts_written Ws) av; left = rest }) → Fills (integer_of (parts_written Ws)) (constraint_filled whole (part_shapes Ws) zs) rest
  integer_fills whole [] zs rest e =
      record { one = record { type_is = cl.integer_in None; first = first_integer whole (first_in None); left = zs }; is = refl; type_is = refl; left = ap (λ (r : SizedRanges). r.left) (some_same (record { ranges = []; left = zs }) (record { ranges = []; left = rest }) e) }
  integer_fills whole (W ∷ Ws) zs rest e =
      record { one = record { type_is = cl.integer_in (Some (ranges_at (parts_written (W ∷ Ws)) av)); first = first_integer whole (first_in (Some (ranges_at (parts_written (W ∷ Ws)) av))); left = rest }; is = ap (option_and_then (λ (r : SizedRanges). integer_filled whole (Some r.ranges) r.left)) e; type_is = refl; left = refl }

  integer_present : (Ws : List WrittenPart) (rs rest : List Fraction) →
      in_order part_by (part_shapes Ws) rs ≡ Some (record { made = ranges_at (parts_written Ws) av; left = rest }) →
      made_into (λ c. cl.integer_in c) (constraint_by (part_shapes Ws) rs) ≡ Some (record { made = cl.integer_in (constraint_at (parts_written Ws) av); left = rest })
  integer_present [] rs rest e = ap (made_into (λ (ranges : List Range). cl.integer_in None)) e
  integer_present (W ∷ Ws) rs rest e = ap (λ o. made_into (λ c. cl.integer_in c) (made_into (λ ranges. Some ranges) o)) e

  view_fills : (bs : List Bitfield) (Ws : List WrittenField) (s : FieldsSay bs Ws) (span : Span) (p : Polynomial) (u : View) (xs rest : List Value) → view_rule span p Ws ≡ Ok u → Give s.asked xs → all_bitfields (field_shapes Ws) (xs ++ rest) ≡ Some (record { view = u; left = rest })
  view_fills bs [] s span p u xs rest h g = s.view span (pos 0) [] u xs rest refl h g
  view_fills bs (W ∷ Ws) s span p u xs rest h g =
      let n = bind_ok (all_numbered (W ∷ Ws)) _ u h in
      let z = bind_ok (found_or (constant_value p) T16 span) _ u n.then in
      let v = bind_ok (all_placed span z.value n.value) _ u z.then in
      let o = then_ok (need (names_once v.value []) T15 span) (Ok v.value) u v.then in
      s.view span z.value n.value u xs rest n.first (v.first ∙ ap Ok (ok_ok v.value u o.then)) g

  view_present : (bs : List Bitfield) (Ws : List WrittenField) (s : FieldsSay bs Ws) (span : Span) (p : Polynomial) (u : View)
      (rs rest : List Fraction) → view_rule span p Ws ≡ Ok u → Ratios s.asked rs →
      in_order bitfield_by (field_shapes Ws) (rs ++ rest) ≡ Some (record { made = u; left = rest })
  view_present bs [] s span p u rs rest h g = s.present span (pos 0) [] u rs rest refl h g
  view_present bs (W ∷ Ws) s span p u rs rest h g =
      let n = bind_ok (all_numbered (W ∷ Ws)) _ u h in
      let z = bind_ok (found_or (constant_value p) T16 span) _ u n.then in
      let v = bind_ok (all_placed span z.value n.value) _ u z.then in
      let o = then_ok (need (names_once v.value []) T15 span) (Ok v.value) u v.then in
      s.present span z.value n.value u rs rest n.first (v.first ∙ ap Ok (ok_ok v.value u o.then)) g

  bits_fill : (span whole : Span) (limit : ℕ) (p : Polynomial) (u : View) (fs : List BitfieldShape) (x : Value) (zs rest : List Value) → x ≡ int (width_at p av) → all_bitfields fs zs ≡ Some (record { view = u; left = rest }) → Fills (bits_of p u) (width_filled limit span fs (x ∷ zs)) rest
  bits_fill span whole limit p u fs x zs rest e v =
      record {
        one = record { type_is = cl.bits_of (width_at p av) u; first = first_bits limit span (width_at p av) u; left = rest };
        is = ap (λ y. width_filled limit span fs (y ∷ zs)) e ∙ ap (option_and_then (λ (v : SizedView). bits_filled limit span (width_at p av) v.view v.left)) v;
        type_is = refl;
        left = refl;
      }

  tuple_fills : (Ts : Parts) (o : Option SizedParts) (rest : List Value) → PartsFill Ts o rest → Fills (tuple_of Ts) (tuple_filled o) rest
  tuple_fills Ts o rest f =
      record {
        one = record { type_is = cl.tuple_of f.one.parts; first = f.one.first >>= λ xs. Good (tuple_with xs); left = f.one.left };
        is = ap (λ q. tuple_filled q) f.is;
        type_is = ap cl.tuple_of f.parts_are;
        left = f.left;
      }

  array_fills : (n : ℕ) (T : Ty) (x : Value) (zs rest : List Value) (f : List Value → Option Sized) → x ≡ int (pos n) → Fills T (f zs) rest → Fills (array_of n T) (by_length (x ∷ zs) f) rest
  array_fills n T x zs rest f e k =
      record {
        one = record { type_is = cl.array_of n (kind_at k.one.type_is) k.one.type_is; first = first_elements n (kind_at k.one.type_is) k.one.first; left = k.one.left };
        is = ap (λ y. by_length (y ∷ zs) f) e ∙ ap (array_filled n) k.is;
        type_is = ap (λ U. cl.array_of n (kind_at U) U) k.type_is ∙ ap (λ m. cl.array_of n m (type_with T av)) (kind_same T av);
        left = k.left;
      }

  abbrev array_as : ℕ → Closed → Closed
  array_as n T = cl.array_of n (kind_at T) T

  says : (p : Shaped TypeOver Expr) (V W : Written) → V ≡ W → TypeSays p V → TypeSays p W
  says p V W e s = subst (TypeSays p) e s

  resized : (T U : Ty) (o : Option Sized) (rest : List Value) → T ≡ U → Fills T o rest → Fills U o rest
  resized T U o rest e f = subst (λ V. Fills V o rest) e f

  length_is : (span : Span) (z : ℤ) (n : ℕ) → length_of span z ≡ Ok n → z ≡ pos n
  length_is span (pos m) n h = let p = then_ok _ (Ok m) n h in ap pos (ok_ok m n p.then)
  length_is span (negsuc m) n h = err_ok (fault_of T20 span) n h

  abbrev Below : Type 0
  Below = ex.TypeExpr-F ((b : Bitfield) × Any b) ((p : ConstraintPart) × Any p) ((e : Expr) × Any e) ((f : FieldValue) × Any f) ((p : Pattern) × Any p) ((s : Slice) × Any s) ((t : TypeExpr) × GoodType t)

  abbrev trees : Below → TypeLayer
  trees = map-TypeExpr ((b : Bitfield) × Any b) ((p : ConstraintPart) × Any p) ((e : Expr) × Any e) ((f : FieldValue) × Any f) ((p : Pattern) × Any p) ((s : Slice) × Any s) ((t : TypeExpr) × GoodType t)
      Bitfield ConstraintPart Expr FieldValue Pattern Slice TypeExpr (λ x. x.0) (λ x. x.0) (λ x. x.0) (λ x. x.0) (λ x. x.0) (λ x. x.0) (λ x. x.0)

  abbrev apart : TypeLayer → Shaped TypeOver Expr
  apart z = type_layer own_expr own_field own_part own_type (map-TypeExpr Bitfield ConstraintPart Expr FieldValue Pattern Slice TypeExpr (Bitfield × Unread) (ConstraintPart × Unread) (Expr × Unread) (FieldValue × Unread) (Pattern × Unread) (Slice × Unread) (TypeExpr × Shaped TypeOver Expr)
      (λ b. (b, tt)) (λ p. (p, tt)) (λ e. (e, tt)) (λ f. (f, tt)) (λ p. (p, tt)) (λ s. (s, tt)) (λ t. (t, type_parts t)) z)

  layer_says : (y : Below) (outside : Bool) (W : Written) → written_rule tests (type_opened tests (trees y)) outside H.scope ≡ Ok W →
      TypeSays (apart (trees y)) W
  layer_says (ex.IntegerType span ps) outside W h =
      let p = bind_ok (all_parts (map (found_part tests) (map (λ p. p.0) ps)) H.scope) _ W h in
      let n = then_ok (need (nat_le (length p.value) most_parts) T20 span) _ W p.then in
      let a = ranges_say ps p.value p.first in
      says _ (written_as (integer_of (parts_written p.value)) (shapes.integer_of (part_shapes p.value)) (part_trees p.value)) W (ok_ok _ W n.then)
      (record {
        asked = a.asked;
        numeric = a.numeric;
        shape_is = ap (λ l. Some (shapes.integer_of l)) (parts_same (map (λ p. p.0) ps) ∙ a.shapes_are);
        asks = subst (λ l. Asks l (part_trees p.value) a.asked) (sym (part_exprs_same (map (λ p. p.0) ps))) a.asks;
        fills = λ whole xs rest g. integer_fills whole p.value (xs ++ rest) rest (a.ranges xs rest g);
        present = λ rs rest g. integer_present p.value (rs ++ rest) rest (a.present rs rest g);
      })
  layer_says (ex.BooleanType span) outside W h =
      says _ (written_as boolean shapes.boolean []) W (ok_ok _ W h)
      (record { asked = []; numeric = tt; shape_is = refl; asks = tt; fills = λ whole xs rest g. record { one = record { type_is = cl.boolean; first = Good (bool false); left = xs ++ rest }; is = refl; type_is = refl; left = no_values xs rest g }; present = λ rs rest g. ap (λ l. taken cl.boolean l) (no_ratio av rs rest g) })
  layer_says (ex.BitType span) outside W h =
      says _ (written_as (bits_wide 1) (shapes.one_bit span) []) W (ok_ok _ W h)
      (record {
        asked = [];
        numeric = tt;
        shape_is = refl;
        asks = tt;
        fills = λ whole xs rest g. record { one = record { type_is = cl.bits_of (pos 1) []; first = first_bits tests.limit span (pos 1) []; left = xs ++ rest }; is = refl; type_is = ap (λ z. cl.bits_of z []) (sym (constant_at av (pos 1))); left = no_values xs rest g };
        present = λ rs rest g. ap (λ l. taken (cl.bits_of (pos 1) []) l) (no_ratio av rs rest g) ∙ ap (λ z. taken (cl.bits_of z []) rest) (sym (constant_at av (pos 1)));
      })
  layer_says (ex.NamedType span name) outside W h =
      let t = bind_ok (found_or (type_of_name name H.scope.names) T02 span) _ W h in
      let e = found_ok (type_of_name name H.scope.names) T02 span t.value t.first in
      says _ (written_as t.value (shapes.known (closed t.value)) []) W (ok_ok _ W t.then)
      (record {
        asked = [];
        numeric = tt;
        shape_is = ap (λ o. option_map (λ T. shapes.known T) (option_map closed o)) (same name ∙ e);
        asks = tt;
        fills = λ whole xs rest g. record { one = record { type_is = closed t.value; first = first_value tests.limit whole (closed t.value); left = xs ++ rest }; is = refl; type_is = sym (fixed name t.value e av); left = no_values xs rest g };
        present = λ rs rest g. ap (λ l. taken (closed t.value) l) (no_ratio av rs rest g) ∙ ap (λ T. taken T rest) (sym (fixed name t.value e av));
      })
  layer_says (ex.BitsType span e bs) outside W h =
      let w = bind_ok (width tests e.0 H.scope) _ W h in
      let x = bind_ok (all_fields (map (found_bitfield tests) (map (λ b. b.0) bs)) H.scope) _ W w.then in
      let v = bind_ok (view_rule span w.value.poly x.value) _ W x.then in
      let n = then_ok (need (within_limits tests.limit outside w.value.poly) T20 span) _ W v.then in
      let a = fields_say bs x.value x.first in
      says _ (written_as (bits_of w.value.poly v.value) (shapes.bits_of span (field_shapes x.value)) (w.value.tree ∷ field_trees x.value)) W (ok_ok _ W n.then)
      (record {
        asked = of_width w.value ∷ a.asked;
        numeric = (tt, a.numeric);
        shape_is = ap (λ l. Some (shapes.bits_of span l)) (fields_same (map (λ b. b.0) bs) ∙ a.shapes_are);
        asks = (w.first, refl, subst (λ l. Asks l (field_trees x.value) a.asked) (sym (field_exprs_same (map (λ b. b.0) bs))) a.asks);
        fills = λ whole xs rest g. one_first tests right base subs loose H (λ zs. Fills (bits_of w.value.poly v.value) (width_filled tests.limit span (field_shapes x.value) (zs ++ rest)) rest) (of_width w.value) a.asked xs g
            (λ y ys i j. bits_fill span whole tests.limit w.value.poly v.value (field_shapes x.value) y (ys ++ rest) rest i.0 (view_fills (map (λ b. b.0) bs) x.value a span w.value.poly v.value ys rest v.first j));
        present = λ rs rest g.
            first_ratio av (λ ss. bits_by (field_shapes x.value) (ss ++ rest) ≡ Some (record { made = cl.bits_of (width_at w.value.poly av) v.value; left = rest })) (of_width w.value) a.asked rs g
            (λ r ss i j.
            ap (made_into (cl.bits_of (width_in r))) (view_present (map (λ b. b.0) bs) x.value a span w.value.poly v.value ss rest v.first j) ∙
            ap (λ z. taken (cl.bits_of z v.value) rest) (ratio_width av w.value r i));
      })
  layer_says (ex.TupleType span ts) outside W h =
      let s = bind_ok (types_in_order outside (map (found_type tests) (map (λ t. t.0) ts)) H.scope) _ W h in
      let t = bind_ok (bounded span (tuple_of (types_written s.value))) _ W s.then in
      let a = types_say ts outside s.value s.first in
      says _ (written_as t.value (shapes.tuple_of (type_shapes s.value)) (all_sizes s.value)) W (ok_ok _ W t.then)
      (record {
        asked = a.asked;
        numeric = a.numeric;
        shape_is = ap (λ l. option_map (λ ss. shapes.tuple_of ss) (shaped.type_shapes (types_among base) l)) (types_same (map (λ t. t.0) ts)) ∙ ap (option_map (λ ss. shapes.tuple_of ss)) a.shapes_are;
        asks = subst (λ l. Asks l (all_sizes s.value) a.asked) (sym (type_exprs_same (map (λ t. t.0) ts))) a.asks;
        fills = λ whole xs rest g. resized (tuple_of (types_written s.value)) t.value _ rest (bounded_ok span (tuple_of (types_written s.value)) t.value t.first) (tuple_fills (types_written s.value) (parts_filled tests.limit whole (type_shapes s.value) (xs ++ rest)) rest (a.fills whole xs rest g));
        present = λ rs rest g.
            subst (λ U. type_by (shapes.tuple_of (type_shapes s.value)) (rs ++ rest) ≡ Some (record { made = type_with U av; left = rest })) (bounded_ok span (tuple_of (types_written s.value)) t.value t.first)
            (ap (made_into (λ parts. cl.tuple_of parts)) (a.present rs rest g));
      })
  layer_says (ex.ArrayType span e t) outside W h =
      let w = bind_ok (width tests e.0 H.scope) _ W h in
      let u = bind_ok (written tests t.0 outside H.scope) _ W w.then in
      let z = bind_ok (found_or (constant_value w.value.poly) T19 span) _ W u.then in
      let n = bind_ok (length_of span z.value) _ W z.then in
      let b = bind_ok (bounded span (array_of n.value u.value.ty)) _ W n.then in
      let a = t.1 outside u.value u.first in
      let long : width_at w.value.poly av ≡ pos n.value =
      constant_width av w.value.poly z.value (constant_is av w.value.poly z.value (found_ok (constant_value w.value.poly) T19 span z.value z.first)) ∙ length_is span z.value n.value n.first in
      says _ (written_as b.value (shapes.array_of u.value.shape) (w.value.tree ∷ u.value.sizes)) W (ok_ok _ W b.then)
      (record {
        asked = of_width w.value ∷ a.asked;
        numeric = (tt, a.numeric);
        shape_is = ap (option_map (λ s. shapes.array_of s)) a.shape_is;
        asks = (w.first, refl, a.asks);
        fills = λ whole xs rest g. one_first tests right base subs loose H (λ zs. Fills b.value (by_length (zs ++ rest) (filled tests.limit whole u.value.shape)) rest) (of_width w.value) a.asked xs g
            (λ y ys i j. resized (array_of n.value u.value.ty) b.value _ rest (bounded_ok span (array_of n.value u.value.ty) b.value b.first) (array_fills n.value u.value.ty y (ys ++ rest) rest (filled tests.limit whole u.value.shape) (i.0 ∙ ap int long) (a.fills whole ys rest j)));
        present = λ rs rest g.
            subst (λ U. followed array_as (place_by (rs ++ rest)) (type_by u.value.shape) ≡ Some (record { made = type_with U av; left = rest })) (bounded_ok span (array_of n.value u.value.ty) b.value b.first)
            (first_ratio av (λ ss. followed array_as (place_by (ss ++ rest)) (type_by u.value.shape) ≡ Some (record { made = type_with (array_of n.value u.value.ty) av; left = rest })) (of_width w.value) a.asked rs g
            (λ r ss i j.
            ap (λ l. followed array_as (option_and_then (λ m. taken m (ss ++ rest)) (natural l)) (type_by u.value.shape)) (ratio_width av w.value r i ∙ long) ∙
            ap (made_into (array_as n.value)) (a.present ss rest j) ∙
            ap (λ k. taken (cl.array_of n.value k (type_with u.value.ty av)) rest) (kind_same u.value.ty av)));
      })

  type_step : (x : TypeLayer) (y : Below) → trees y ≡ x → GoodType (roll-TypeExpr x)
  type_step x y is outside W h =
      let k : written_rule tests (type_opened tests x) outside H.scope ≡ Ok W = sym (ap (λ (f : FoundType). f.ty outside H.scope) (fold-roll-TypeExpr FoundBitfield FoundPart Found FoundField FoundPattern FoundSlice FoundType bitfield_rule part_rule (expr_rule tests) given_rule (pattern_rule tests) slice_rule (type_rule tests) x)) ∙ h in
      let s = layer_says y outside W (ap (λ z. written_rule tests (type_opened tests z) outside H.scope) is ∙ k) in
      subst (λ p. TypeSays p W) (ap apart is ∙ sym (para-roll-TypeExpr Unread Unread Unread Unread Unread Unread (Shaped TypeOver Expr) (λ _. tt) (λ _. tt) (λ _. tt) (λ _. tt) (λ _. tt) (λ _. tt) (type_layer own_expr own_field own_part own_type) x)) s

  pub type_says : (t : TypeExpr) → GoodType t
  type_says = ind-TypeExpr Any Any Any Any Any Any GoodType (λ x y is. tt) (λ x y is. tt) (λ x y is. tt) (λ x y is. tt) (λ x y is. tt) (λ x y is. tt) type_step
