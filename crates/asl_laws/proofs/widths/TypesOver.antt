-- Types over some atoms: their widths and ends have no others. What types are made of keeps this: arithmetic, joins, bare types, and atoms replaced by widths.
use Rattle.std.proofs.Common.{◌≡◌, ℕ, ◌*◌, Bool, true, false, ℤ, pos, List, [], ◌∷◌, ◌++◌, length, Option, Some, None, refl, subst}
use Rattle.std.specs.Prelude.{◌+ℤ◌, ◌-ℤ◌, ◌*ℤ◌, nat_le, unsigned_abs, if◌then◌else◌}
use Rattle.asl_num.specs.Exact.{floor_div}
use Rattle.asl_syn.specs.declared.code.StaticCode.{StaticCode}
use Rattle.asl_poly.specs.Terms.{Summand, Polynomial}
use Rattle.asl_poly.specs.Operations.{gather, product_terms, constant_term}
use Rattle.asl_poly.specs.Substitute.{map_at, times_maps, replaced, raised_terms, common_denominator, with_common_denominator}
use Rattle.asl_poly.specs.Poly.{constant_value, sum_map, difference_map, product_map, substitute_map}
use Rattle.asl_cons.specs.declared.End.{End}
use Rattle.asl_cons.specs.declared.End.TheVariants.{Int, Width}
use Rattle.asl_cons.specs.declared.Part.{Part}
use Rattle.asl_cons.specs.Constraint.{poly_of}
use Rattle.asl_cons.specs.Arithmetic as cons
use Rattle.asl_rules.specs.Tests.{Tests}
use Rattle.asl_rules.specs.types.Types.{Ty, Parts, Widths, integer_of, boolean, bits_of, enumeration_of, record_of, exception_of, tuple_of, array_of, named, no_part, part, constraint_of, width_of, only_width, misfit, join, joined, either, bare, bare_parts, is_bare_by_structure, widened, widened_parts, substitute, substitute_parts, substituted, substituted_end, substituted_ranges, substitute_fits, with_type}
use Rattle.asl_rules.specs.private.Worth.{AllOf, AtomsOf}
pub use Rattle.asl_laws.specs.ScopeRules.{EndOver, PartOver, PartsOver, Never, Over, FieldsOver, AllOver}
use Rattle.asl_rules.proofs.basics.Tests.{some_same, none_some, mapped}
use Rattle.asl_rules.proofs.widths.WidthAtoms.{Good, gather_in, multiply_in, lowest_good, constant_good, sum_good, difference_good, product_good}

-- ---- over more atoms

module _ (A B : ℕ → Type 0) (more : (n : ℕ) → A n → B n) where
  factors_more : (xs : List ℕ) → AllOf A xs → AllOf B xs
  factors_more [] h = tt
  factors_more (x ∷ xs) h = (more x h.0, factors_more xs h.1)

  pub atoms_more : (ts : List Summand) → AtomsOf A ts → AtomsOf B ts
  atoms_more [] h = tt
  atoms_more (t ∷ ts) h = (factors_more t.factors h.0, atoms_more ts h.1)

  end_more : (e : End) → EndOver A e → EndOver B e
  end_more (Int z) h = tt
  end_more (Width p) h = atoms_more p.terms h

  parts_more : (ps : List Part) → PartsOver A ps → PartsOver B ps
  parts_more [] h = tt
  parts_more (p ∷ ps) h = (record { low = end_more p.low h.0.low; high = end_more p.high h.0.high }, parts_more ps h.1)

  mutual
    pub over_more : (T : Ty) → Over A T → Over B T
    over_more (integer_of ps) h = parts_more ps h
    over_more boolean h = tt
    over_more (bits_of w view) h = atoms_more w.terms h
    over_more (enumeration_of name labels) h = tt
    over_more (record_of name fs) h = h
    over_more (exception_of name fs) h = h
    over_more (tuple_of ts) h = all_more ts h
    over_more (array_of n T) h = over_more T h
    over_more (named name supers T) h = h

    pub all_more : (ts : Parts) → AllOver A ts → AllOver B ts
    all_more no_part h = tt
    all_more (part T ts) h = (over_more T h.0, all_more ts h.1)

pub over_any : (A : ℕ → Type 0) (T : Ty) → Over Never T → Over A T
over_any A T h = over_more Never A (λ n k. absurd k) T h

-- ---- options in order

pub record Got {X Y : Type 0} (o : Option X) (f : X → Option Y) (y : Y) : Type 0 where
  pub value : X
  pub is : o ≡ Some value
  pub next : f value ≡ Some y

pub got : {X Y : Type 0} (o : Option X) (f : X → Option Y) (y : Y) → cons.bind o f ≡ Some y → Got o f y
got None f y h = none_some y h
got (Some x) f y h = record { value = x; is = refl; next = h }

module _ (A : ℕ → Type 0) where
  -- ---- ends

  shown_by_over : (o : Option ℤ) (p : Polynomial) → Good A p → EndOver A (cons.shown_by o p)
  shown_by_over None p h = h
  shown_by_over (Some z) p h = tt

  pub shown_over : (p : Polynomial) → Good A p → EndOver A (cons.shown p)
  shown_over p h = shown_by_over (constant_value p) p h

  poly_over : (e : End) → EndOver A e → Good A (poly_of e)
  poly_over (Int z) h = constant_good A z
  poly_over (Width p) h = h

  width_end_over : (b : Bool) (p : Polynomial) (g : End) → Good A p → cons.width_end b p ≡ Some g → EndOver A g
  width_end_over true p g h k = subst (EndOver A) (some_same (cons.shown p) g k) (shown_over p h)
  width_end_over false p g h k = none_some g k

  integer_end_over : (o : Option ℤ) (g : End) → cons.integer_end o ≡ Some g → EndOver A g
  integer_end_over None g k = none_some g k
  integer_end_over (Some z) g k = subst (EndOver A) (some_same (Int z) g k) tt

  ends_with_over : (o p : Option ℤ) (op : ℤ → ℤ → ℤ) (other : Option End) (g : End) → (other ≡ Some g → EndOver A g) → cons.ends_with o p op other ≡ Some g → EndOver A g
  ends_with_over (Some x) (Some y) op other g f k = integer_end_over (cons.exact (op x y)) g k
  ends_with_over (Some x) None op other g f k = f k
  ends_with_over None p op other g f k = f k

  sum_end_over : (e f g : End) → EndOver A e → EndOver A f → cons.sum_end e f ≡ Some g → EndOver A g
  sum_end_over e f g h k l =
      ends_with_over (cons.number_of e) (cons.number_of f) (λ x y. x +ℤ y) (cons.widths cons.sum_fits sum_map e f) g
      (λ m. width_end_over _ (sum_map (poly_of e) (poly_of f)) g (sum_good A (poly_of e) (poly_of f) (poly_over e h) (poly_over f k)) m) l

  difference_end_over : (e f g : End) → EndOver A e → EndOver A f → cons.difference_end e f ≡ Some g → EndOver A g
  difference_end_over e f g h k l =
      ends_with_over (cons.number_of e) (cons.number_of f) (λ x y. x -ℤ y) (cons.widths cons.sum_fits difference_map e f) g
      (λ m. width_end_over _ (difference_map (poly_of e) (poly_of f)) g (difference_good A (poly_of e) (poly_of f) (poly_over e h) (poly_over f k)) m) l

  product_end_over : (e f g : End) → EndOver A e → EndOver A f → cons.product_end e f ≡ Some g → EndOver A g
  product_end_over e f g h k l =
      ends_with_over (cons.number_of e) (cons.number_of f) (λ x y. x *ℤ y) (cons.widths cons.product_fits product_map e f) g
      (λ m. width_end_over _ (product_map (poly_of e) (poly_of f)) g (product_good A (poly_of e) (poly_of f) (poly_over e h) (poly_over f k)) m) l

  -- ---- parts

  pub numbers_over : (y z : ℤ) → PartOver A (cons.part (Int y) (Int z))
  numbers_over y z = record { low = tt; high = tt }

  part_of_over : (l h : Option End) (p : Part) → ((e : End) → l ≡ Some e → EndOver A e) → ((e : End) → h ≡ Some e → EndOver A e) → cons.part_of l h ≡ Some p → PartOver A p
  part_of_over l h p f g k =
      let u = got l _ p k in
      let v = got h _ p u.next in
      subst (PartOver A) (some_same (cons.part u.value v.value) p v.next) (record { low = f u.value u.is; high = g v.value v.is })

  sum_part_over : (p q r : Part) → PartOver A p → PartOver A q → cons.sum_part p q ≡ Some r → PartOver A r
  sum_part_over p q r a b k =
      part_of_over (cons.sum_end p.low q.low) (cons.sum_end p.high q.high) r (λ e h. sum_end_over p.low q.low e a.low b.low h) (λ e h. sum_end_over p.high q.high e a.high b.high h) k

  difference_part_over : (p q r : Part) → PartOver A p → PartOver A q → cons.difference_part p q ≡ Some r → PartOver A r
  difference_part_over p q r a b k =
      part_of_over (cons.difference_end p.low q.high) (cons.difference_end p.high q.low) r (λ e h. difference_end_over p.low q.high e a.low b.high h) (λ e h. difference_end_over p.high q.low e a.high b.low h) k

  range_over : (o p : Option ℤ) (r : Part) → cons.part_of (cons.integer_end o) (cons.integer_end p) ≡ Some r → PartOver A r
  range_over o p r k = part_of_over (cons.integer_end o) (cons.integer_end p) r (λ e h. integer_end_over o e h) (λ e h. integer_end_over p e h) k

  scaled_over : (s : ℤ × ℤ) (q r : Part) → PartOver A q → cons.scaled_part s q ≡ Some r → PartOver A r
  scaled_over s q r b k =
      let u = got (cons.point_in 0 s.0 s.1) _ r k in
      part_of_over (cons.product_end (Int u.value) q.low) (cons.product_end (Int u.value) q.high) r
      (λ e h. product_end_over (Int u.value) q.low e tt b.low h) (λ e h. product_end_over (Int u.value) q.high e tt b.high h) u.next

  product_with_over : (o s : Option (ℤ × ℤ)) (p q r : Part) → PartOver A p → PartOver A q → cons.product_with o s p q ≡ Some r → PartOver A r
  product_with_over (Some x) (Some y) p q r a b k = range_over _ _ r k
  product_with_over (Some x) None p q r a b k = scaled_over x q r b k
  product_with_over None (Some y) p q r a b k = scaled_over y p r a k
  product_with_over None None p q r a b k = none_some r k

  product_part_over : (p q r : Part) → PartOver A p → PartOver A q → cons.product_part p q ≡ Some r → PartOver A r
  product_part_over p q r a b k = product_with_over (cons.range_of p) (cons.range_of q) p q r a b k

  quotient_part_over : (p q r : Part) → PartOver A p → PartOver A q → cons.quotient_part p q ≡ Some r → PartOver A r
  quotient_part_over p q r a b k =
      let u = got (cons.range_of p) _ r k in
      let v = got (cons.point_of 1 q) _ r u.next in
      subst (PartOver A) (some_same _ r v.next) (numbers_over (floor_div u.value.0 (unsigned_abs v.value)) (floor_div u.value.1 (unsigned_abs v.value)))

  shifted_up_part_over : (p q r : Part) → PartOver A p → PartOver A q → cons.shifted_up_part p q ≡ Some r → PartOver A r
  shifted_up_part_over p q r a b k =
      let u = got (cons.range_of p) _ r k in
      let v = got (cons.point_of 0 q) _ r u.next in
      range_over (cons.exact (u.value.0 *ℤ cons.power_of_two v.value)) (cons.exact (u.value.1 *ℤ cons.power_of_two v.value)) r v.next

  shifted_down_part_over : (p q r : Part) → PartOver A p → PartOver A q → cons.shifted_down_part p q ≡ Some r → PartOver A r
  shifted_down_part_over p q r a b k =
      let u = got (cons.range_of p) _ r k in
      let v = got (cons.point_of 0 q) _ r u.next in
      subst (PartOver A) (some_same _ r v.next) (numbers_over _ _)

  -- ---- constraints

  pub more_parts : (ps qs : List Part) → PartsOver A ps → PartsOver A qs → PartsOver A (ps ++ qs)
  more_parts [] qs h k = k
  more_parts (p ∷ ps) qs h k = (h.0, more_parts ps qs h.1 k)

  if_over : (b : Bool) (ps : List Part) → PartsOver A ps → PartsOver A (if b then ps else [])
  if_over true ps h = h
  if_over false ps h = tt

  limited_over : (o : Option (List Part)) → ((ps : List Part) → o ≡ Some ps → PartsOver A ps) → PartsOver A (cons.limited o)
  limited_over None f = tt
  limited_over (Some ps) f = if_over (nat_le (length ps) 64) ps (f ps refl)

  abbrev OpOver : (Part → Part → Option Part) → Type 0
  OpOver op = (p q r : Part) → PartOver A p → PartOver A q → op p q ≡ Some r → PartOver A r

  each_over : (op : Part → Part → Option Part) → OpOver op → (p : Part) (qs rs : List Part) → PartOver A p → PartsOver A qs → cons.with_each op p qs ≡ Some rs → PartsOver A rs
  each_over op f p [] rs a b k = subst (PartsOver A) (some_same [] rs k) tt
  each_over op f p (q ∷ qs) rs a b k =
      let u = got (op p q) _ rs k in
      let v = got (cons.with_each op p qs) _ rs u.next in
      subst (PartsOver A) (some_same (u.value ∷ v.value) rs v.next) (f p q u.value a b.0 u.is, each_over op f p qs v.value a b.1 v.is)

  pairs_over : (op : Part → Part → Option Part) → OpOver op → (ps qs rs : List Part) → PartsOver A ps → PartsOver A qs → cons.all_pairs op ps qs ≡ Some rs → PartsOver A rs
  pairs_over op f [] qs rs a b k = subst (PartsOver A) (some_same [] rs k) tt
  pairs_over op f (p ∷ ps) qs rs a b k =
      let u = got (cons.with_each op p qs) _ rs k in
      let v = got (cons.all_pairs op ps qs) _ rs u.next in
      subst (PartsOver A) (some_same (u.value ++ v.value) rs v.next) (more_parts u.value v.value (each_over op f p qs u.value a.0 b u.is) (pairs_over op f ps qs v.value a.1 b v.is))

  by_pairs_over : (op : Part → Part → Option Part) → OpOver op → (ps qs : List Part) → PartsOver A ps → PartsOver A qs → PartsOver A (cons.by_pairs op ps qs)
  by_pairs_over op f ps qs a b = limited_over (cons.all_pairs op ps qs) (λ rs k. pairs_over op f ps qs rs a b k)

  -- an operation on constraints
  abbrev pub ArithmeticOver : (List Part → List Part → List Part) → Type 0
  ArithmeticOver op = (ps qs : List Part) → PartsOver A ps → PartsOver A qs → PartsOver A (op ps qs)

  pub sum_over : ArithmeticOver cons.sum_parts
  unfolding cons.sum_parts
  sum_over ps qs a b = by_pairs_over cons.sum_part sum_part_over ps qs a b

  pub difference_over : ArithmeticOver cons.difference_parts
  unfolding cons.difference_parts
  difference_over ps qs a b = by_pairs_over cons.difference_part difference_part_over ps qs a b

  pub product_over : ArithmeticOver cons.product_parts
  unfolding cons.product_parts
  product_over ps qs a b = by_pairs_over cons.product_part product_part_over ps qs a b

  pub quotient_over : ArithmeticOver cons.quotient_parts
  unfolding cons.quotient_parts
  quotient_over ps qs a b = by_pairs_over cons.quotient_part quotient_part_over ps qs a b

  pub shifted_up_over : ArithmeticOver cons.shifted_up_parts
  unfolding cons.shifted_up_parts
  shifted_up_over ps qs a b = by_pairs_over cons.shifted_up_part shifted_up_part_over ps qs a b

  pub shifted_down_over : ArithmeticOver cons.shifted_down_parts
  unfolding cons.shifted_down_parts
  shifted_down_over ps qs a b = by_pairs_over cons.shifted_down_part shifted_down_part_over ps qs a b

  modulo_each : (qs rs : List Part) → cons.each_part cons.modulo_part qs ≡ Some rs → PartsOver A rs
  modulo_each [] rs k = subst (PartsOver A) (some_same [] rs k) tt
  modulo_each (q ∷ qs) rs k =
      let u = got (cons.modulo_part q) _ rs k in
      let v = got (cons.each_part cons.modulo_part qs) _ rs u.next in
      let m = got (cons.point_of 1 q) _ u.value u.is in
      subst (PartsOver A) (some_same (u.value ∷ v.value) rs v.next) (subst (PartOver A) (some_same _ u.value m.next) (numbers_over (pos 0) (m.value -ℤ pos 1)), modulo_each qs v.value v.is)

  pub modulo_over : ArithmeticOver cons.modulo_parts
  unfolding cons.modulo_parts
  modulo_over ps qs a b = limited_over (cons.each_part cons.modulo_part qs) (λ rs k. modulo_each qs rs k)

  pub union_over : (ps qs : List Part) → PartsOver A ps → PartsOver A qs → PartsOver A (cons.union_parts ps qs)
  union_over [] qs a b = tt
  union_over (p ∷ ps) [] a b = tt
  union_over (p ∷ ps) (q ∷ qs) a b = if_over (nat_le (length ((p ∷ ps) ++ q ∷ qs)) 64) ((p ∷ ps) ++ q ∷ qs) (more_parts (p ∷ ps) (q ∷ qs) a b)

  -- ---- parts of types

  pub constraint_over : (T : Ty) → Over A T → PartsOver A (constraint_of T)
  constraint_over (integer_of ps) h = h
  constraint_over (named name supers T) h = constraint_over T (over_any A T h)
  constraint_over boolean h = tt
  constraint_over (bits_of w view) h = tt
  constraint_over (enumeration_of name labels) h = tt
  constraint_over (record_of name fs) h = tt
  constraint_over (exception_of name fs) h = tt
  constraint_over (tuple_of ts) h = tt
  constraint_over (array_of n T) h = tt

  pub width_over : (T : Ty) → Over A T → Good A (width_of T)
  width_over (bits_of w view) h = h
  width_over (named name supers T) h = width_over T (over_any A T h)
  width_over (integer_of ps) h = constant_good A (pos 0)
  width_over boolean h = constant_good A (pos 0)
  width_over (enumeration_of name labels) h = constant_good A (pos 0)
  width_over (record_of name fs) h = constant_good A (pos 0)
  width_over (exception_of name fs) h = constant_good A (pos 0)
  width_over (tuple_of ts) h = constant_good A (pos 0)
  width_over (array_of n T) h = constant_good A (pos 0)

  pub only_width_over : (p : Polynomial) → Good A p → PartsOver A (only_width p)
  only_width_over p h = (record { low = shown_over p h; high = shown_over p h }, tt)

  -- ---- either of two types

  either_over : (S T U : Ty) → Over A S → Over A T → either S T ≡ Some U → Over A U
  either_over (integer_of ps) (integer_of qs) U a b k = subst (Over A) (some_same (integer_of (cons.union_parts ps qs)) U k) (union_over ps qs a b)
  either_over S T U a b k = none_some U k

  joined_over : (o p : Option StaticCode) (S T U : Ty) → Over A S → Over A T → joined o p S T ≡ Some U → Over A U
  joined_over None p S T U a b k = subst (Over A) (some_same T U k) b
  joined_over (Some c) None S T U a b k = subst (Over A) (some_same S U k) a
  joined_over (Some c) (Some d) S T U a b k = either_over S T U a b k

  pub join_over : (t : Tests) (S T U : Ty) → Over A S → Over A T → join t S T ≡ Some U → Over A U
  join_over t S T U a b k = joined_over (misfit t S T) (misfit t T S) S T U a b k

  mutual
    pub bare_over : (T : Ty) → Over A T → Over A (bare T)
    bare_over (bits_of w view) h = h
    bare_over (tuple_of ts) h = bare_parts_over ts h
    bare_over (array_of n T) h = bare_over T h
    bare_over (named name supers T) h = bare_by (is_bare_by_structure T) name T h (bare_over T (over_any A T h))
      where
        bare_by : (b : Bool) (name : List ℕ) (T : Ty) → Over Never T → Over A (bare T) → Over A (if b then bare T else named name supers T)
        bare_by true name T h k = k
        bare_by false name T h k = h
    bare_over (integer_of ps) h = h
    bare_over boolean h = tt
    bare_over (enumeration_of name labels) h = tt
    bare_over (record_of name fs) h = h
    bare_over (exception_of name fs) h = h

    bare_parts_over : (ts : Parts) → AllOver A ts → AllOver A (bare_parts ts)
    bare_parts_over no_part h = tt
    bare_parts_over (part T ts) h = (bare_over T h.0, bare_parts_over ts h.1)

  mutual
    pub widened_over : (T : Ty) → Over A T → Over A (widened T)
    widened_over (integer_of ps) h = tt
    widened_over (tuple_of ts) h = widened_parts_over ts h
    widened_over boolean h = tt
    widened_over (bits_of w view) h = h
    widened_over (enumeration_of name labels) h = tt
    widened_over (record_of name fs) h = h
    widened_over (exception_of name fs) h = h
    widened_over (array_of n T) h = h
    widened_over (named name supers T) h = h

    widened_parts_over : (ts : Parts) → AllOver A ts → AllOver A (widened_parts ts)
    widened_parts_over no_part h = tt
    widened_parts_over (part T ts) h = (widened_over T h.0, widened_parts_over ts h.1)

  -- ---- atoms replaced by widths

  module _ (by : Widths) where
    -- an atom for which something over these atoms stands
    abbrev pub Replaced : ℕ → Type 0
    Replaced n = AtomsOf A (map_at by n)

    times_over : (product : List Summand) (xs : List ℕ) → AtomsOf A product → AllOf Replaced xs → AtomsOf A (times_maps by product xs)
    times_over product [] h k = h
    times_over product (x ∷ xs) h k = times_over (product_terms product (map_at by x)) xs (multiply_in A [] product (map_at by x) tt h k.0) k.1

    replaced_over : (sum ts : List Summand) → AtomsOf A sum → AtomsOf Replaced ts → AtomsOf A (replaced by sum ts)
    replaced_over sum [] h k = h
    replaced_over sum (t ∷ ts) h k =
        let one : List Summand = constant_term t.coefficient ∷ [] in
        replaced_over (gather sum (times_maps by one t.factors)) ts (gather_in A sum (times_maps by one t.factors) h (times_over one t.factors (tt, tt) k.0)) k.1

    raised_over : (n : ℕ) (ts : List Summand) → AtomsOf Replaced ts → AtomsOf Replaced (raised_terms by n ts)
    raised_over n [] h = tt
    raised_over n (t ∷ ts) h = (h.0, raised_over n ts h.1)

    substitute_map_over : (p : Polynomial) → Good Replaced p → Good A (substitute_map by p)
    unfolding substitute_map
    substitute_map_over p h =
        let n = common_denominator by p.terms in
        lowest_good A (replaced by [] (with_common_denominator by p.terms)) (n * p.denominator)
        (replaced_over [] (with_common_denominator by p.terms) tt (raised_over n p.terms h))

    if_substituted : (b : Bool) (p q : Polynomial) → Good Replaced p → (if b then Some (substitute_map by p) else None) ≡ Some q → Good A q
    if_substituted true p q h k = subst (Good A) (some_same (substitute_map by p) q k) (substitute_map_over p h)
    if_substituted false p q h k = none_some q k

    substituted_over : (p q : Polynomial) → Good Replaced p → substituted by p ≡ Some q → Good A q
    substituted_over p q h k = if_substituted (substitute_fits by p) p q h k

    end_over : (e f : End) → EndOver Replaced e → substituted_end by e ≡ Some f → EndOver A f
    end_over (Int z) f h k = subst (EndOver A) (some_same (Int z) f k) tt
    end_over (Width p) f h k =
        let m = mapped (λ q. cons.shown q) (substituted by p) f k in
        subst (EndOver A) m.gives (shown_over m.one (substituted_over p m.one h m.is))

    ranges_over : (ps qs : List Part) → PartsOver Replaced ps → substituted_ranges by ps ≡ Some qs → PartsOver A qs
    ranges_over [] qs h k = subst (PartsOver A) (some_same [] qs k) tt
    ranges_over (p ∷ ps) qs h k =
        let u = got (cons.part_of (substituted_end by p.low) (substituted_end by p.high)) _ qs k in
        let v = got (substituted_ranges by ps) _ qs u.next in
        subst (PartsOver A) (some_same (u.value ∷ v.value) qs v.next)
        (part_of_over (substituted_end by p.low) (substituted_end by p.high) u.value (λ e l. end_over p.low e h.0.low l) (λ e l. end_over p.high e h.0.high l) u.is, ranges_over ps v.value h.1 v.is)

    parts_by : (o : Option Ty) (q : Option Parts) (us : Parts) → ((V : Ty) → o ≡ Some V → Over A V) → ((vs : Parts) → q ≡ Some vs → AllOver A vs) → with_type o q ≡ Some us → AllOver A us
    parts_by None q us f g k = none_some us k
    parts_by (Some V) None us f g k = none_some us k
    parts_by (Some V) (Some vs) us f g k = subst (AllOver A) (some_same (part V vs) us k) (f V refl, g vs refl)

    mutual
      pub substitute_over : (T U : Ty) → Over Replaced T → substitute by T ≡ Some U → Over A U
      substitute_over (integer_of ps) U h k =
          let m = mapped (λ qs. integer_of qs) (substituted_ranges by ps) U k in subst (Over A) m.gives (ranges_over ps m.one h m.is)
      substitute_over (bits_of w view) U h k =
          let m = mapped (λ v. bits_of v view) (substituted by w) U k in subst (Over A) m.gives (substituted_over w m.one h m.is)
      substitute_over (tuple_of ts) U h k =
          let m = mapped (λ us. tuple_of us) (substitute_parts by ts) U k in subst (Over A) m.gives (substitute_parts_over ts m.one h m.is)
      substitute_over (array_of n T) U h k =
          let m = mapped (λ V. array_of n V) (substitute by T) U k in subst (Over A) m.gives (substitute_over T m.one h m.is)
      substitute_over boolean U h k = subst (Over A) (some_same boolean U k) tt
      substitute_over (enumeration_of name labels) U h k = subst (Over A) (some_same (enumeration_of name labels) U k) tt
      substitute_over (record_of name fs) U h k = subst (Over A) (some_same (record_of name fs) U k) h
      substitute_over (exception_of name fs) U h k = subst (Over A) (some_same (exception_of name fs) U k) h
      substitute_over (named name supers T) U h k = subst (Over A) (some_same (named name supers T) U k) h

      substitute_parts_over : (ts us : Parts) → AllOver Replaced ts → substitute_parts by ts ≡ Some us → AllOver A us
      substitute_parts_over no_part us h k = subst (AllOver A) (some_same no_part us k) tt
      substitute_parts_over (part T ts) us h k =
          parts_by (substitute by T) (substitute_parts by ts) us (λ V l. substitute_over T V h.0 l) (λ vs l. substitute_parts_over ts vs h.1 l) k
