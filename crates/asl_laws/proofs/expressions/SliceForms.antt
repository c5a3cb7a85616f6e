-- Slices with their typed trees: the expressions in them are the same, in order, and their widths together are that of the result.
use Rattle.std.proofs.Common.{◌≡◌, ℤ, pos, ◌⊎◌, inl, inr, ◌&&◌, ◌||◌, Bool, true, false, List, [], ◌∷◌, ◌++◌, Some, Ok, refl, sym, ap, ◌∙◌, subst, map, arith}
use Rattle.std.specs.Prelude.{◌+ℤ◌, ◌-ℤ◌, ◌*ℤ◌}
use Rattle.std.proofs.lemmas.Int.{ints}
use Rattle.asl_syn.specs.declared.token.Span.{Span}
use Rattle.asl_syn.specs.declared.code.StaticCode.TheVariants.{T08}
use Rattle.asl_syn.specs.declared.tree.Bitfield.{Bitfield}
use Rattle.asl_syn.specs.declared.tree.ConstraintPart.{ConstraintPart}
use Rattle.asl_syn.specs.declared.tree.Expr.{Expr}
use Rattle.asl_syn.specs.declared.tree.FieldValue.{FieldValue}
use Rattle.asl_syn.specs.declared.tree.Pattern.{Pattern}
use Rattle.asl_syn.specs.declared.tree.Slice.{Slice, out-Slice}
use Rattle.asl_syn.specs.declared.tree.TypeExpr.{TypeExpr}
use Rattle.asl_syn.specs.declared.tree.Bitfield.TheOpen as ex
use Rattle.asl_syn.specs.declared.tree.Bitfield.TheFolds.{fold_out-Slice, map-Slice}
use Rattle.asl_syn.specs.declared.tree.Decl.{Decl}
use Rattle.asl_poly.specs.Terms.{Polynomial}
use Rattle.asl_poly.specs.Poly.{IsPolynomial, HasWidth, constant_map}
use Rattle.asl_cons.proofs.Covering.{int_end}
use Rattle.asl_rules.specs.declared.effect.Effect.TheVariants.{Pure}
use Rattle.asl_rules.specs.types.Effects.{all_together, greatest}
use Rattle.asl_rules.specs.Tests.{Tests, IsRight}
use Rattle.asl_rules.specs.types.Types.{Ty, bits_of, is_bits, is_integer}
use Rattle.asl_rules.specs.types.Closed.{Assignment, width_at}
use Rattle.asl_rules.specs.declarations.Scopes.{Entry, Signature}
use Rattle.asl_rules.specs.types.Shapes.{SliceShape, at_bit, high_low, low_width, factor_width}
use Rattle.asl_rules.specs.types.Shaped.{Shaped, slice_layer, slice_parts, exprs_in, shapes_in, itself}
use Rattle.asl_rules.specs.runs.Trees as tree
use Rattle.asl_rules.specs.runs.Trees.{Tree, Note, TreeFunc}
use Rattle.asl_rules.specs.types.Widths.{Total, plus, minus, plus_number, totalled}
use Rattle.asl_rules.specs.expressions.Typing.{Found, Typed, Operand, operand as operand_at, operands, effects_of, trees_in, trees_of}
use Rattle.asl_rules.specs.expressions.Slicing.{FoundSlice, all_operands, shapes_of, all_integers, no_width, all_add, sliced_width, sliceable, slices_rule}
use Rattle.asl_rules.specs.types.Writing.{FoundPart, FoundBitfield, FoundType}
use Rattle.asl_rules.specs.expressions.Patterns.{FoundPattern}
use Rattle.asl_rules.specs.expressions.Exprs.{FoundField, found, found_type, found_pattern, found_slice, typed, width, expr_rule, given_rule, slice_rule, part_rule, bitfield_rule, type_rule, pattern_rule}
use Rattle.asl_rules.specs.values.Values.{Value, int}
use Rattle.asl_rules.specs.runs.States.{Core}
use Rattle.asl_rules.specs.private.Belonging.{InType}
use Rattle.asl_rules.specs.private.Agreement.{types_in}
use Rattle.asl_rules.specs.values.Vectors.{Slicing, sliced, first_slicing, slicings, slices_of}
use Rattle.asl_rules.specs.runs.Plans.{Pure as PureOf}
use Rattle.asl_rules.specs.runs.Forms.{behind_more}
use Rattle.asl_rules.specs.private.Erasure.{erased}
use Rattle.asl_rules.proofs.basics.Inversions.{ok_ok, bind_ok, then_ok, need_ok}
use Rattle.asl_rules.proofs.basics.Tests.{both}
use Rattle.asl_rules.proofs.values.Rounded.{width_at_is}
use Rattle.asl_rules.proofs.widths.Totals.{Fits, Counts, step_plus, step_minus, step_number, begun, fits_of, sum_of_total}
use Rattle.asl_rules.proofs.widths.WidthsHeld.{CountsHeld, constant_held}
use Rattle.asl_rules.proofs.expressions.OperatorForms.{Gives, is_int}
use Rattle.asl_rules.proofs.scopes.Naming.{WellNamed}
use Rattle.asl_rules.proofs.basics.Opening.{found_field, found_bitfield, found_part, finish_is}
use Rattle.asl_laws.proofs.expressions.Claims.{Here, Asked, of_type, of_known, IsWidth, GivesAsked, At}
use Rattle.asl_laws.proofs.expressions.TreePlans.{Same, Out, AllAsked, AllGive, list_from, behind_more_same}
use Rattle.asl_laws.proofs.expressions.MatchForms.{asks_both, split}
use Rattle.asl_laws.proofs.expressions.ExprForms.{Formed, formed}
use Rattle.asl_laws.proofs.scopes.HeldRules.{slice_step, all_add_step, sliced_held}
use Rattle.asl_laws.proofs.widths.PresentNumbers.{counts_held}
use Rattle.asl_laws.proofs.widths.WholeWidths.{sum_width, difference_width}
use Rattle.asl_laws.proofs.values.Sliced.{all_widths, slices_give}

abbrev SliceLayer : Type 0
SliceLayer = ex.Slice-F Bitfield ConstraintPart Expr FieldValue Pattern Slice TypeExpr

abbrev own_parts : SliceLayer → Shaped SliceShape Expr
own_parts x = slice_layer itself x

one_less : (x y z : ℤ) → ((x +ℤ y) -ℤ z) +ℤ pos 1 ≡ x +ℤ ((y -ℤ z) +ℤ pos 1)
one_less x y z = omega (arith, ints)

further : (x y z : ℤ) → (x +ℤ y) +ℤ z ≡ x +ℤ (y +ℤ z)
further x y z = omega (arith, ints)

pub from_nothing : (x : ℤ) → x ≡ pos 0 +ℤ x
from_nothing x = omega (arith, ints)

at_end : (x : ℤ) → x ≡ x +ℤ pos 0
at_end x = omega (arith, ints)

trees_both : (os ps : List Operand) → trees_in (os ++ ps) ≡ trees_in os ++ trees_in ps
trees_both [] ps = refl
trees_both (o ∷ os) ps = ap (λ ts. o.typed.tree ∷ ts) (trees_both os ps)

integers_both : (os ps : List Operand) → all_integers (os ++ ps) ≡ true → (all_integers os ≡ true) × (all_integers ps ≡ true)
integers_both [] ps h = (refl, h)
integers_both (o ∷ os) ps h =
    let p = both (is_integer o.typed.ty) (all_integers (os ++ ps)) h in
    let q = integers_both os ps p.1 in
    (ap (λ b. b && all_integers os) p.0 ∙ q.0, q.1)

either : (a b : Bool) → (a || b) ≡ true → (a ≡ true) ⊎ (b ≡ true)
either true b h = inl refl
either false b h = inr h

module _ (tests : Tests) (right : IsRight tests) (base : List Entry) (subs : List Signature) (loose : Bool) (H : Here) where
  abbrev av : Assignment
  av = H.present

  abbrev Asks : List Expr → List Tree → List Asked → Type 0
  Asks es ts qs = AllAsked tests right base subs loose H.scope es ts qs

  abbrev Give : List Asked → List Value → Type 0
  Give qs xs = AllGive tests right base subs loose H qs xs

  abbrev opened : SliceLayer → ex.Slice-F FoundBitfield FoundPart Found FoundField FoundPattern FoundSlice FoundType
  opened = map-Slice Bitfield ConstraintPart Expr FieldValue Pattern Slice TypeExpr FoundBitfield FoundPart Found FoundField FoundPattern FoundSlice FoundType
      (found_bitfield tests) (found_part tests) (found tests) (found_field tests) (found_pattern tests) (found_slice tests) (found_type tests)

  -- one or two operands
  record Two (a b : Expr) (os : List Operand) : Type 0 where
    pub first : Typed
    pub second : Typed
    pub first_is : typed tests a H.scope ≡ Ok first
    pub second_is : typed tests b H.scope ≡ Ok second
    pub are : operand_at (found tests a).span first ∷ operand_at (found tests b).span second ∷ [] ≡ os

  two : (a b : Expr) (os : List Operand) → operands (found tests a ∷ found tests b ∷ []) H.scope ≡ Ok os → Two a b os
  two a b os h =
      let s = bind_ok (typed tests a H.scope) _ os h in
      let r = bind_ok (operands (found tests b ∷ []) H.scope) _ os s.then in
      let t = bind_ok (typed tests b H.scope) _ r.value r.first in
      record {
        first = s.value;
        second = t.value;
        first_is = s.first;
        second_is = t.first;
        are = ap (λ z. operand_at (found tests a).span s.value ∷ z) (ok_ok (operand_at (found tests b).span t.value ∷ []) r.value t.then) ∙ ok_ok (operand_at (found tests a).span s.value ∷ r.value) os r.then;
      }

  -- one value, and two
  one_value : (q : Asked) (P : List Value → Type 0) (xs : List Value) → Give (q ∷ []) xs → ((x : Value) → GivesAsked (types_in base) av q x → P (x ∷ [])) → P xs
  one_value q P [] g k = absurd g
  one_value q P (x ∷ []) g k = k x g.0
  one_value q P (x ∷ y ∷ ys) g k = absurd g.1

  two_values : (q r : Asked) (P : List Value → Type 0) (xs : List Value) → Give (q ∷ r ∷ []) xs → ((x y : Value) → GivesAsked (types_in base) av q x → GivesAsked (types_in base) av r y → P (x ∷ y ∷ [])) → P xs
  two_values q r P [] g k = absurd g
  two_values q r P (x ∷ []) g k = absurd g.1
  two_values q r P (x ∷ y ∷ []) g k = k x y g.0 g.1.0
  two_values q r P (x ∷ y ∷ z ∷ zs) g k = absurd g.1.1

  -- what the sum so far is grows by this integer, where all parts together are within the limits
  abbrev pub Adds : Total → Total → ℤ → Type 0
  Adds y z n = Counts y → Fits z → (m : ℤ) → HasWidth y.sum av m → HasWidth z.sum av (m +ℤ n)

  -- a slice with the values of its expressions
  record Cuts (shape : SliceShape) (xs rest : List Value) (y z : Total) : Type 0 where
    pub slicing : Slicing
    pub is : sliced shape (xs ++ rest) ≡ Some (record { slicing = slicing; left = rest })
    pub adds : Adds y z slicing.width

  record SliceSays (p : Shaped SliceShape Expr) (f : FoundSlice) (os : List Operand) (y z : Total) : Type 0 where
    pub asked : List Asked
    pub asks : Asks p.exprs (trees_in os) asked
    pub shape_is : p.shape ≡ f.shape
    pub cuts : (xs rest : List Value) → Give asked xs → Cuts f.shape xs rest y z

  is_number : (S : Typed) (x : Value) → is_integer S.ty ≡ true → InType (types_in base) av x S.ty → (z : ℤ) × (x ≡ int z)
  is_number S x h i = is_int (types_in base) av tests right S.ty x h i

  one_wide : IsPolynomial (constant_map (pos 1))
  one_wide = constant_held (pos 1) (omega arith)

  adds_number : (y : Total) → Adds y (plus_number y 1) (pos 1)
  adds_number y c f m h = sum_width av y.sum (constant_map (pos 1)) m (pos 1) c.held one_wide h (int_end (pos 1) av)

  adds_width : (y : Total) (q : Polynomial) → HasWidth q av (width_at q av) → IsPolynomial q → Adds y (plus y q) (width_at q av)
  adds_width y q e i c f m h = sum_width av y.sum q m (width_at q av) c.held i h e

  adds_range : (y : Total) (p q : Polynomial) → HasWidth p av (width_at p av) → IsPolynomial p → HasWidth q av (width_at q av) →
      IsPolynomial q →
      Adds y (plus_number (minus (plus y p) q) 1) (width_at p av -ℤ width_at q av +ℤ pos 1)
  adds_range y p q e i g j c f m h =
      let u = plus y p in
      let v = minus u q in
      let some_u = (step_plus y p i).some c.some in
      let some_v = (step_minus u q j).some some_u in
      let fit_v : Fits v = (step_number v 1).back some_v f in
      let fit_u : Fits u = (step_minus u q j).back some_u fit_v in
      let count_u : Counts u = (step_plus y p i).keeps c fit_u in
      let count_v : Counts v = (step_minus u q j).keeps count_u fit_v in
      let first = sum_width av y.sum p m (width_at p av) c.held i h e in
      let second = difference_width av u.sum q (m +ℤ width_at p av) (width_at q av) count_u.held j first g in
      subst (HasWidth (plus_number v 1).sum av) (one_less m (width_at p av) (width_at q av))
      (sum_width av v.sum (constant_map (pos 1)) ((m +ℤ width_at p av) -ℤ width_at q av) (pos 1) count_v.held one_wide second
      (int_end (pos 1) av))

  cut_bit : (x : Value) (rest : List Value) (y : Total) → (i : ℤ) × (x ≡ int i) → Cuts at_bit (x ∷ []) rest y (plus_number y 1)
  cut_bit x rest y n =
      subst (λ v. Cuts at_bit (v ∷ []) rest y (plus_number y 1)) (sym n.1)
      (record { slicing = record { low = n.0; width = pos 1 }; is = refl; adds = adds_number y })

  cut_high_low : (u v : Value) (rest : List Value) (y : Total) (p q : Polynomial) → IsWidth av p u → IsWidth av q v →
      Cuts high_low (u ∷ v ∷ []) rest y (plus_number (minus (plus y p) q) 1)
  cut_high_low u v rest y p q g h =
      subst (λ a. Cuts high_low (a ∷ v ∷ []) rest y (plus_number (minus (plus y p) q) 1)) (sym g.0)
      (subst (λ b. Cuts high_low (int (width_at p av) ∷ b ∷ []) rest y (plus_number (minus (plus y p) q) 1)) (sym h.0)
      (record { slicing = record { low = width_at q av; width = width_at p av -ℤ width_at q av +ℤ pos 1 }; is = refl; adds = adds_range y p q g.1 g.2 h.1 h.2 }))

  cut_low_width : (u v : Value) (rest : List Value) (y : Total) (q : Polynomial) → (i : ℤ) × (u ≡ int i) → IsWidth av q v →
      Cuts low_width (u ∷ v ∷ []) rest y (plus y q)
  cut_low_width u v rest y q n h =
      subst (λ a. Cuts low_width (a ∷ v ∷ []) rest y (plus y q)) (sym n.1)
      (subst (λ b. Cuts low_width (int n.0 ∷ b ∷ []) rest y (plus y q)) (sym h.0)
      (record { slicing = record { low = n.0; width = width_at q av }; is = refl; adds = adds_width y q h.1 h.2 }))

  cut_factor_width : (u v : Value) (rest : List Value) (y : Total) (q : Polynomial) → (i : ℤ) × (u ≡ int i) → IsWidth av q v →
      Cuts factor_width (u ∷ v ∷ []) rest y (plus y q)
  cut_factor_width u v rest y q n h =
      subst (λ a. Cuts factor_width (a ∷ v ∷ []) rest y (plus y q)) (sym n.1)
      (subst (λ b. Cuts factor_width (int n.0 ∷ b ∷ []) rest y (plus y q)) (sym h.0)
      (record { slicing = record { low = n.0 *ℤ width_at q av; width = width_at q av }; is = refl; adds = adds_width y q h.1 h.2 }))

  -- each form
  layer_says : (x : SliceLayer) (os : List Operand) (y z : Total) → (slice_rule (opened x)).operands H.scope ≡ Ok os → all_integers os ≡ true → (slice_rule (opened x)).adds y H.scope ≡ Ok z → SliceSays (own_parts x) (slice_rule (opened x)) os y z
  layer_says (ex.BitAt e) os y z h i k =
      let s = bind_ok (typed tests e H.scope) _ os h in
      let o = operand_at (found tests e).span s.value in
      let are : o ∷ [] ≡ os = ok_ok (o ∷ []) os s.then in
      let p = both (is_integer s.value.ty) true (subst (λ u. all_integers u ≡ true) (sym are) i) in
      subst (λ w. SliceSays (own_parts (ex.BitAt e)) (slice_rule (opened (ex.BitAt e))) os y w) (ok_ok (plus_number y 1) z k)
      (subst (λ w. SliceSays (own_parts (ex.BitAt e)) (slice_rule (opened (ex.BitAt e))) w y (plus_number y 1)) are
      (record {
        asked = of_type s.value ∷ [];
        asks = (s.first, refl, tt);
        shape_is = refl;
        cuts = λ xs rest g. one_value (of_type s.value) (λ w. Cuts at_bit w rest y (plus_number y 1)) xs g (λ x j. cut_bit x rest y (is_number s.value x p.0 j));
      }))
  layer_says (ex.HighLow a b) os y z h i k =
      let t = two a b os h in
      let p = bind_ok (width tests a H.scope) _ z k in
      let q = bind_ok (width tests b H.scope) _ z p.then in
      let sum = plus_number (minus (plus y p.value.poly) q.value.poly) 1 in
      subst (λ w. SliceSays (own_parts (ex.HighLow a b)) (slice_rule (opened (ex.HighLow a b))) os y w) (ok_ok sum z q.then)
      (subst (λ w. SliceSays (own_parts (ex.HighLow a b)) (slice_rule (opened (ex.HighLow a b))) w y sum) t.are
      (record {
        asked = of_known t.first p.value ∷ of_known t.second q.value ∷ [];
        asks = ((t.first_is, p.first), refl, ((t.second_is, q.first), refl, tt));
        shape_is = refl;
        cuts = λ xs rest g. two_values (of_known t.first p.value) (of_known t.second q.value) (λ w. Cuts high_low w rest y sum) xs g (λ u v m n. cut_high_low u v rest y p.value.poly q.value.poly m n);
      }))
  layer_says (ex.LowWidth a b) os y z h i k =
      let t = two a b os h in
      let q = bind_ok (width tests b H.scope) _ z k in
      let sum = plus y q.value.poly in
      let p = both (is_integer t.first.ty) (all_integers (operand_at (found tests b).span t.second ∷ [])) (subst (λ u. all_integers u ≡ true) (sym t.are) i) in
      subst (λ w. SliceSays (own_parts (ex.LowWidth a b)) (slice_rule (opened (ex.LowWidth a b))) os y w) (ok_ok sum z q.then)
      (subst (λ w. SliceSays (own_parts (ex.LowWidth a b)) (slice_rule (opened (ex.LowWidth a b))) w y sum) t.are
      (record {
        asked = of_type t.first ∷ of_known t.second q.value ∷ [];
        asks = (t.first_is, refl, ((t.second_is, q.first), refl, tt));
        shape_is = refl;
        cuts = λ xs rest g. two_values (of_type t.first) (of_known t.second q.value) (λ w. Cuts low_width w rest y sum) xs g (λ u v m n. cut_low_width u v rest y q.value.poly (is_number t.first u p.0 m) n);
      }))
  layer_says (ex.FactorWidth a b) os y z h i k =
      let t = two a b os h in
      let q = bind_ok (width tests b H.scope) _ z k in
      let sum = plus y q.value.poly in
      let p = both (is_integer t.first.ty) (all_integers (operand_at (found tests b).span t.second ∷ [])) (subst (λ u. all_integers u ≡ true) (sym t.are) i) in
      subst (λ w. SliceSays (own_parts (ex.FactorWidth a b)) (slice_rule (opened (ex.FactorWidth a b))) os y w) (ok_ok sum z q.then)
      (subst (λ w. SliceSays (own_parts (ex.FactorWidth a b)) (slice_rule (opened (ex.FactorWidth a b))) w y sum) t.are
      (record {
        asked = of_type t.first ∷ of_known t.second q.value ∷ [];
        asks = (t.first_is, refl, ((t.second_is, q.first), refl, tt));
        shape_is = refl;
        cuts = λ xs rest g. two_values (of_type t.first) (of_known t.second q.value) (λ w. Cuts factor_width w rest y sum) xs g (λ u v m n. cut_factor_width u v rest y q.value.poly (is_number t.first u p.0 m) n);
      }))

  slice_says : (s : Slice) (os : List Operand) (y z : Total) → (found_slice tests s).operands H.scope ≡ Ok os → all_integers os ≡ true → (found_slice tests s).adds y H.scope ≡ Ok z → SliceSays (slice_parts s) (found_slice tests s) os y z
  slice_says s os y z h i k =
      let u : found_slice tests s ≡ slice_rule (opened (out-Slice s)) = fold_out-Slice FoundBitfield FoundPart Found FoundField FoundPattern FoundSlice FoundType bitfield_rule part_rule (expr_rule tests) given_rule (pattern_rule tests) slice_rule (type_rule tests) s in
      subst (λ f. SliceSays (slice_parts s) f os y z) (sym u)
      (layer_says (out-Slice s) os y z (sym (ap (λ (f : FoundSlice). f.operands H.scope) u) ∙ h) i (sym (ap (λ (f : FoundSlice). f.adds y H.scope) u) ∙ k))

  -- all of them, in order
  pub record AllCut (shapes : List SliceShape) (xs : List Value) (y z : Total) : Type 0 where
    pub list : List Slicing
    pub are : slicings shapes xs ≡ Some list
    pub adds : Adds y z (all_widths list)

  pub record AllSay (ss : List Slice) (os : List Operand) (y z : Total) : Type 0 where
    pub asked : List Asked
    pub asks : Asks (exprs_in slice_parts ss) (trees_in os) asked
    pub shapes_are : shapes_in slice_parts ss ≡ shapes_of (map (found_slice tests) ss)
    pub cuts : (xs : List Value) → Give asked xs → AllCut (shapes_of (map (found_slice tests) ss)) xs y z

  pub all_say : CountsHeld H.scope.names → (ss : List Slice) (os : List Operand) (y z : Total) →
      all_operands (map (found_slice tests) ss) H.scope ≡ Ok os → all_integers os ≡ true →
      all_add (map (found_slice tests) ss) y H.scope ≡ Ok z → AllSay ss os y z
  all_say held [] os y z h i k =
      subst (λ w. AllSay [] os y w) (ok_ok y z k)
      (subst (λ w. AllSay [] w y y) (ok_ok [] os h)
      (record { asked = []; asks = tt; shapes_are = refl; cuts = λ xs g. record { list = []; are = refl; adds = λ c f m e. subst (HasWidth y.sum av) (at_end m) e } }))
  all_say held (s ∷ ss) os y z h i k =
      let m = bind_ok ((found_slice tests s).operands H.scope) _ os h in
      let n = bind_ok (all_operands (map (found_slice tests) ss) H.scope) _ os m.then in
      let are : m.value ++ n.value ≡ os = ok_ok (m.value ++ n.value) os n.then in
      let j = integers_both m.value n.value (subst (λ u. all_integers u ≡ true) (sym are) i) in
      let u = bind_ok ((found_slice tests s).adds y H.scope) _ z k in
      let p = slice_says s m.value y u.value m.first j.0 u.first in
      let q = all_say held ss n.value u.value z n.first j.1 u.then in
      let one = slice_step tests s H.scope y u.value held u.first in
      let more = all_add_step tests ss H.scope u.value z held u.then in
      let shapes = shapes_of (map (found_slice tests) ss) in
      let shape = (found_slice tests s).shape in
      subst (λ w. AllSay (s ∷ ss) w y z) are
      (record {
        asked = p.asked ++ q.asked;
        asks = subst (λ ts. Asks ((slice_parts s).exprs ++ exprs_in slice_parts ss) ts (p.asked ++ q.asked)) (sym (trees_both m.value n.value)) (asks_both tests right base subs loose H (slice_parts s).exprs (exprs_in slice_parts ss) (trees_in m.value) (trees_in n.value) p.asked q.asked p.asks q.asks);
        shapes_are = ap (λ w. w ∷ shapes_in slice_parts ss) p.shape_is ∙ ap (λ ws. shape ∷ ws) q.shapes_are;
        cuts = λ xs g.
            let d = split tests right base subs loose H p.asked q.asked xs g in
            let c = p.cuts d.first d.second d.own in
            let r = q.cuts d.second d.others in
            record {
              list = c.slicing ∷ r.list;
              are = ap (λ w. first_slicing (sliced shape w) (slicings shapes)) d.are ∙ ap (λ w. first_slicing w (slicings shapes)) c.is ∙ ap (λ w. first_slicing (Some (record { slicing = c.slicing; left = d.second })) (λ l. w)) r.are;
              adds = λ counts fits m e.
                  let middle = more.back (one.some counts.some) fits in
                  subst (HasWidth z.sum av) (further m c.slicing.width (all_widths r.list))
                  (r.adds (one.keeps counts middle) fits (m +ℤ c.slicing.width) (c.adds counts middle m e));
            };
      })

-- how many bits all slices have
pub sums_to : (a : Assignment) (span : Span) (z : Total) (w : Polynomial) (n : ℤ) → totalled span z ≡ Ok w → IsPolynomial w →
    HasWidth z.sum a (pos 0 +ℤ n) → width_at w a ≡ n
sums_to a span z w n h i e =
    width_at_is a w n i (subst (HasWidth w a) (sym (from_nothing n)) (subst (λ p. HasWidth p a (pos 0 +ℤ n)) (sum_of_total span z w h) e))

module _ (tests : Tests) (right : IsRight tests) (ds : List Decl) (base : List Entry) (subs : List Signature) (loose : Bool) (funcs : List TreeFunc) (w : WellNamed base) where
  pub slices_formed : (H : Here) (S : Typed) (span : Span) (e : Expr) (ss : List Slice) (c : Core) → slices_rule span (found tests e) (map (found_slice tests) ss) H.scope ≡ Ok S → At tests base subs loose H c → Formed tests right ds base subs loose funcs w H S (ex.Slices span e ss) c
  slices_formed H S span e ss c h a =
      let t = bind_ok (typed tests e H.scope) _ S h in
      let fs = map (found_slice tests) ss in
      let o = bind_ok (all_operands fs H.scope) _ S t.then in
      let g = then_ok (sliceable span t.value.ty o.value) _ S o.then in
      let v = bind_ok (sliced_width span fs H.scope) _ S g.then in
      let z = bind_ok (all_add fs no_width H.scope) _ v.value v.first in
      let held = counts_held H.present base H.scope.names c a.agrees in
      let fits = fits_of span z.value v.value z.then in
      let k = both (is_bits t.value.ty || is_integer t.value.ty) (all_integers o.value) (need_ok ((is_bits t.value.ty || is_integer t.value.ty) && all_integers o.value) T08 span tt g.first) in
      let b = either (is_bits t.value.ty) (is_integer t.value.ty) k.0 in
      let s = all_say tests right base subs loose H held ss o.value no_width z.value o.first k.1 z.first in
      let shapes = shapes_of fs in
      let U : Ty = bits_of v.value [] in
      let ks = t.value.effect ∷ effects_of o.value in
      let make : Note → Tree = λ j. tree.Slices j t.value.tree shapes (trees_of o.value) in
      let f : Value → List Value → PureOf Value = λ x zs. slices_of tests.limit span (shapes_in slice_parts ss) zs x in
      let l : Value → List Value → PureOf Value = λ x zs. slices_of tests.limit span shapes zs x in
      formed tests right ds base subs loose funcs w H S (ex.Slices span e ss) c span U (greatest Pure ks) make (finish_is H.scope.class span (all_together Pure ks) (greatest Pure ks) U make S v.then) refl
      (subst (λ ts. Same tests right base subs loose H (Out tests right base subs loose H U) (behind_more e (exprs_in slice_parts ss) c f) (behind_more t.value.tree ts (erased c) l)) (sym (list_from (trees_in o.value)))
      (behind_more_same tests right base subs loose H U e t.value (exprs_in slice_parts ss) (trees_in o.value) s.asked c f l t.first s.asks a
      (λ x xs i j.
      let r = s.cuts xs j in
      let same : f x xs ≡ l x xs = ap (λ u. slices_of tests.limit span u xs x) s.shapes_are in
      let wide =
      sums_to H.present span z.value v.value (all_widths r.list) z.then (sliced_held tests span ss H.scope v.value held v.first)
      (r.adds begun fits (pos 0) (int_end (pos 0) H.present)) in
      (same, subst (Gives (types_in base) H.present U) (sym same) (slices_give (types_in base) H.present tests right tests.limit span shapes xs r.list v.value t.value.ty x r.are wide b i)))))
