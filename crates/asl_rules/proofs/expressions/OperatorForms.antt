-- Operators on values of the types that their rules ask for give a value of the rule's type, or a fault.
use Rattle.std.proofs.Common.{◌≡◌, ℕ, suc, ◌+◌, ◌^◌, ◌<◌, ◌++◌, ◌==◌, inl, inr, ℤ, pos, negsuc, ◌&&◌, ◌||◌, Bool, true, false, not, cond, map, length, List, [], ◌∷◌, Option, Ok, Result, refl, sym, ap, ◌∙◌, subst, arith}
use Rattle.std.specs.Prelude.{nat_lt, nat_le, unsigned_abs, ◌+ℤ◌, ◌-ℤ◌, ◌*ℤ◌}
use Rattle.std.specs.Int.{int_pow}
use Rattle.std.specs.Str.{bytes_eq}
use Rattle.asl_syn.specs.declared.token.Span.{Span}
use Rattle.asl_syn.specs.declared.code.Fault.{Fault}
use Rattle.asl_syn.specs.declared.code.StaticCode.TheVariants.{T06, T08}
use Rattle.asl_syn.specs.declared.code.DynCode.TheVariants.{D01, D02, D03, D14}
use Rattle.asl_syn.specs.declared.tree.UnaryOperator.{UnaryOperator}
use Rattle.asl_syn.specs.declared.tree.UnaryOperator.TheVariants as unary
use Rattle.asl_syn.specs.declared.tree.BinaryOperator.{BinaryOperator}
use Rattle.asl_syn.specs.declared.tree.BinaryOperator.TheVariants as binary
use Rattle.asl_num.specs.Exact.{floor_div, floor_mod}
use Rattle.asl_bits.specs.Lists.{int_bits, bits_value, both as zipped, and_bit, or_bit, xor_bit}
use Rattle.asl_bits.proofs.Lists.{length-bits_of}
use Rattle.asl_cons.specs.declared.Part.{Part}
use Rattle.asl_poly.specs.Terms.{Polynomial}
use Rattle.asl_poly.specs.Fractions.{SameFraction, whole, plus, fraction_at}
use Rattle.asl_poly.specs.Poly.{IsPolynomial}
use Rattle.asl_poly.proofs.Ring.{mul-one}
use Rattle.asl_cons.specs.Constraint.{In, AllEnds}
use Rattle.asl_cons.proofs.Covering.{int_end}
use Rattle.asl_cons.proofs.KeptEnds.{sum_keeps, difference_keeps, product_keeps, quotient_keeps, modulo_keeps, shifted_up_keeps, shifted_down_keeps}
use Rattle.asl_rules.specs.declared.joining.Combination.TheVariants.{Sum}
use Rattle.asl_cons.specs.Arithmetic.{fits, sum_parts, difference_parts, product_parts, quotient_parts, modulo_parts, shifted_up_parts, shifted_down_parts}
use Rattle.asl_cons.specs.Arithmetic as cons
use Rattle.asl_rules.specs.Faults.{◌>>◌, need}
use Rattle.asl_rules.specs.Tests.{Tests, IsRight}
use Rattle.asl_rules.specs.types.Types.{Ty, Kind, integer_of, boolean, bits_of, record_of, exception_of, tuple_of, array_of, named, integers, booleans, bitvectors, kind, kind_eq, is_integer, is_boolean, is_bits, same_kind, constraint_of, width_of, only_number}
use Rattle.asl_rules.specs.types.Closed.{Assignment, width_at}
use Rattle.asl_rules.specs.expressions.Operations as operations
use Rattle.asl_rules.specs.values.Values.{Value, Values, FieldValues, int, bool, bits_with, label, record_with, exception_with, tuple_with, array_with, kind_of, is_width}
use Rattle.asl_rules.specs.private.WellFormed.{Shaped}
use Rattle.asl_rules.specs.private.Belonging.{has_type, InType}
use Rattle.asl_rules.specs.runs.Plans.{Faulted, Stuck, Pure, Good, Bad}
use Rattle.asl_rules.specs.values.Operators.{in_range, integer_of as integer_value, quotient, divided, raised, plain_bits, of_integers, of_booleans, of_labels, of_one_enumeration, of_one_width, of_bits, of_bits_and_integer, binary_value, unary_value}
use Rattle.asl_rules.proofs.basics.Inversions.{ok_ok, bind_ok, then_ok, need_ok}
use Rattle.std.proofs.lemmas.Int.{ints}
use Rattle.asl_rules.proofs.basics.Tests.{no, both, either, name_is}
use Rattle.asl_rules.proofs.values.SameKind.{equal_kinds, same_number, number_is}
use Rattle.asl_rules.proofs.values.KindOf.{has_kind}
use Rattle.asl_rules.proofs.values.Viewing.{same_width, width_is}
use Rattle.asl_rules.proofs.values.Shapes.{named_parts, integer_is, boolean_is, bits_is, label_is}
use Rattle.asl_rules.proofs.values.Constrained.{is_in_in, in_is_in}
use Rattle.asl_rules.proofs.values.Rounded.{same_width_at, is_width_at, width_at_is}
use Rattle.asl_rules.proofs.widths.Ratios.{same_trans, width_whole, whole_width}
use Rattle.asl_rules.proofs.widths.WidthsHeld.{combined_held, zero_held}
use Rattle.std.proofs.lemmas.List.{length-append}
use Rattle.std.proofs.lemmas.Bool.Decides.{nat_tests}
use Rattle.asl_rules.specs.Faults.{◌>>=◌}
use Rattle.asl_rules.specs.types.Widths.{width_sum}
use Rattle.asl_rules.proofs.widths.WidthsWorth.{sum_is}
use Rattle.asl_cons.proofs.Results.{sum_in, difference_in}
use Rattle.asl_cons.proofs.Products.{product_in, quotient_in, modulo_in, shifted_up_in, shifted_down_in}
use Rattle.asl_rules.specs.expressions.Exprs.{literal_type}
use Rattle.asl_rules.specs.expressions.Operations.{is_comparable, same_widths, binary_rule, unary_rule}

-- a value of the type, or a fault
abbrev pub Gives : (List ℕ → Option Ty) → Assignment → Ty → Pure Value → Type 0
Gives d a T (Good x) = InType d a x T
Gives d a T (Bad (Faulted code span)) = Unit {0}
Gives d a T (Bad (Stuck mistake span)) = ⊥

-- types that are found to be of one kind are
abbrev pub OneKind : Ty → Ty → Type 0
OneKind S T = same_kind S T ≡ true → kind_eq (kind S) (kind T) ≡ true

-- ---- widths

zipped_length : (f : Bool → Bool → Bool) (xs ys : List Bool) → length xs ≡ length ys → length (zipped f xs ys) ≡ length xs
unfolding zipped
zipped_length f [] ys h = refl
zipped_length f (x ∷ xs) [] h = absurd cc
zipped_length f (x ∷ xs) (y ∷ ys) h = let k : length xs ≡ length ys = cc in ap suc (zipped_length f xs ys k)

map_length : (f : Bool → Bool) (xs : List Bool) → length (map f xs) ≡ length xs
map_length f [] = refl
map_length f (x ∷ xs) = ap suc (map_length f xs)

-- the constraint and the width of a well-formed type are within the limits
pub within_ends : (d : List ℕ → Option Ty) (T : Ty) → Shaped d T → AllEnds (constraint_of T)
within_ends d (integer_of ps) s = s
within_ends d (named n supers T) s = within_ends d T s.2
within_ends d T s = tt

pub within_width : (d : List ℕ → Option Ty) (T : Ty) → Shaped d T → IsPolynomial (width_of T)
within_width d (bits_of p u) s = s.0
within_width d (named n supers T) s = within_width d T s.2
within_width d T s = zero_held

module _ (d : List ℕ → Option Ty) (av : Assignment) (tests : Tests) (right : IsRight tests) where
  pub is_int : (T : Ty) (x : Value) → is_integer T ≡ true → InType d av x T → (z : ℤ) × (x ≡ int z)
  is_int T x h i = integer_is x (has_kind av T x i.0 ∙ equal_kinds (kind T) integers h)

  pub is_bool : (T : Ty) (x : Value) → is_boolean T ≡ true → InType d av x T → (b : Bool) × (x ≡ bool b)
  is_bool T x h i = boolean_is x (has_kind av T x i.0 ∙ equal_kinds (kind T) booleans h)

  -- the constraint and the width behind names
  pub int_in : (T : Ty) (z : ℤ) → Shaped d T → has_type av (int z) T ≡ true → In av z (constraint_of T)
  int_in (integer_of ps) z w h = is_in_in ps av z w h
  int_in (named n supers T) z w h = int_in T z w.2 (named_parts av (int z) n supers T h).1
  int_in T z w h = no h

  pub bits_in : (T : Ty) (bs : List Bool) (v : _) → has_type av (bits_with bs v) T ≡ true → is_width (length bs) (width_at (width_of T) av) ≡ true
  bits_in (bits_of w u) bs v h = h
  bits_in (named n supers T) bs v h = bits_in T bs v (named_parts av (bits_with bs v) n supers T h).1
  bits_in T bs v h = no h

  -- ---- integers

  integer_if : (b : Bool) (ps : List Part) (z : ℤ) (span : Span) → AllEnds ps → In av z ps →
      Gives d av (integer_of ps) (cond b (Good (int z)) (Bad (Faulted D01 span)))
  integer_if true ps z span e k = (in_is_in ps av z e k, tt, refl)
  integer_if false ps z span e k = tt

  pub integer_gives : (ps : List Part) (span : Span) (z : ℤ) → AllEnds ps → In av z ps → Gives d av (integer_of ps) (integer_value span z)
  integer_gives ps span z e k = integer_if (in_range z) ps z span e k

  -- a value of a type within the limits
  abbrev pub Lies : Value → Ty → Type 0
  Lies x T = InType d av x T × Shaped d T

  above : (n : ℕ) → nat_lt 0 n ≡ true → 0 < n
  above n h = grind (arith, nat_tests)

  exact_if : (b : Bool) (z : ℤ) (span : Span) → Gives d av (integer_of []) (cond b (Good (int z)) (Bad (Faulted D03 span)))
  exact_if true z span = (refl, tt, refl)
  exact_if false z span = tt

  positive_if : (b : Bool) (T : Ty) (n : ℕ) (r : Pure Value) (span : Span) → nat_lt 0 n ≡ b → (nat_lt 0 n ≡ true → Gives d av T r) → Gives d av T (cond b r (Bad (Faulted D02 span)))
  positive_if true T n r span e g = g e
  positive_if false T n r span e g = tt

  divided_gives : (T : Ty) (span : Span) (z : ℤ) (f : ℕ → Pure Value) → ((n : ℕ) → z ≡ pos n → nat_lt 0 n ≡ true → Gives d av T (f n)) → Gives d av T (divided span z f)
  divided_gives T span (pos n) f g = positive_if (nat_lt 0 n) T n (f n) span refl (g n refl)
  divided_gives T span (negsuc n) f g = tt

  raised_gives : (T : Ty) (span : Span) (z : ℤ) (f : ℕ → Pure Value) → ((n : ℕ) → z ≡ pos n → Gives d av T (f n)) → Gives d av T (raised span z f)
  raised_gives T span (pos n) f g = g n refl
  raised_gives T span (negsuc n) f g = tt

  -- ---- operands of the kinds that a rule asks for

  both_integers : (span : Span) (o : BinaryOperator) (S T V : Ty) (x y : Value) → is_integer S ≡ true → is_integer T ≡ true → Lies x S →
      Lies y T → ((a b : ℤ) → In av a (constraint_of S) → In av b (constraint_of T) → Gives d av V (of_integers span o a b)) →
      Gives d av V (binary_value tests.limit span o x y)
  both_integers span o S T V x y p q i j f =
      let a = is_int S x p i.0 in
      let b = is_int T y q j.0 in
      subst (λ z. Gives d av V (binary_value tests.limit span o z y)) (sym a.1) (subst (λ z. Gives d av V (binary_value tests.limit span o (int a.0) z)) (sym b.1)
      (f a.0 b.0 (int_in S a.0 i.1 (subst (λ z. has_type av z S ≡ true) a.1 i.0.0))
      (int_in T b.0 j.1 (subst (λ z. has_type av z T ≡ true) b.1 j.0.0))))

  on_integers : (span : Span) (o : BinaryOperator) (S T V U : Ty) (x y : Value) → operations.of_integers span S T V ≡ Ok U → Lies x S →
      Lies y T → ((a b : ℤ) → In av a (constraint_of S) → In av b (constraint_of T) → Gives d av V (of_integers span o a b)) →
      Gives d av U (binary_value tests.limit span o x y)
  on_integers span o S T V U x y h i j f =
      let p = then_ok (need (is_integer S && is_integer T) T08 span) (Ok V) U h in
      let q = both (is_integer S) (is_integer T) (need_ok (is_integer S && is_integer T) T08 span tt p.first) in
      subst (λ W. Gives d av W (binary_value tests.limit span o x y)) (ok_ok V U p.then) (both_integers span o S T V x y q.0 q.1 i j f)

  on_booleans : (span : Span) (o : BinaryOperator) (S T U : Ty) (x y : Value) → operations.of_booleans span S T ≡ Ok U → InType d av x S → InType d av y T → ((a b : Bool) → Gives d av boolean (of_booleans span o a b)) → Gives d av U (binary_value tests.limit span o x y)
  on_booleans span o S T U x y h i j f =
      let p = then_ok (need (is_boolean S && is_boolean T) T08 span) (Ok boolean) U h in
      let q = both (is_boolean S) (is_boolean T) (need_ok (is_boolean S && is_boolean T) T08 span tt p.first) in
      let a = is_bool S x q.0 i in
      let b = is_bool T y q.1 j in
      subst (λ W. Gives d av W (binary_value tests.limit span o x y)) (ok_ok boolean U p.then)
      (subst (λ z. Gives d av boolean (binary_value tests.limit span o z y)) (sym a.1) (subst (λ z. Gives d av boolean (binary_value tests.limit span o (bool a.0) z)) (sym b.1) (f a.0 b.0)))

  -- ---- bits

  pub is_bitvector : (T : Ty) (x : Value) → is_bits T ≡ true → InType d av x T → (bs : List Bool) × (v : _) × (x ≡ bits_with bs v) × (is_width (length bs) (width_at (width_of T) av) ≡ true)
  is_bitvector T x h i =
      let b = bits_is x (has_kind av T x i.0 ∙ equal_kinds (kind T) bitvectors h) in
      (b.0, b.1, b.2, bits_in T b.0 b.1 (subst (λ z. has_type av z T ≡ true) b.2 i.0))

  -- plain bits of so many places
  plain_gives : (T : Ty) (bs cs : List Bool) → is_width (length bs) (width_at (width_of T) av) ≡ true → length cs ≡ length bs → Gives d av (bits_of (width_of T) []) (Good (plain_bits cs))
  plain_gives T bs cs h e = (subst (λ n. is_width n (width_at (width_of T) av) ≡ true) (sym e) h, tt, refl)

  by_length : (b : Bool) (T : Ty) (r s : Pure Value) → b ≡ true → Gives d av T r → Gives d av T (cond b r s)
  by_length true T r s e g = g
  by_length false T r s e g = no e

  same_both : (S T : Ty) → is_bits S ≡ true → is_bits T ≡ true → same_widths tests S T ≡ true → tests.same (width_of S) (width_of T) ≡ true
  same_both S T p q h = peel (is_bits S) (is_bits T) (tests.same (width_of S) (width_of T)) p q h
    where
      peel : (b c s : Bool) → b ≡ true → c ≡ true → cond b (cond c s true) true ≡ true → s ≡ true
      peel true true s p q h = h
      peel true false s p q h = no q
      peel false c s p q h = no p

  -- two bit vectors of one width
  equal_lengths : (S T : Ty) (bs cs : List Bool) → tests.same (width_of S) (width_of T) ≡ true → is_width (length bs) (width_at (width_of S) av) ≡ true → is_width (length cs) (width_at (width_of T) av) ≡ true → (length bs == length cs) ≡ true
  equal_lengths S T bs cs e h k =
      let i = right.same_yes (width_of S) (width_of T) e in
      same_width (length bs) (length cs) (width_at (width_of T) av)
      (subst (λ z. is_width (length bs) z ≡ true) (same_width_at av (width_of S) (width_of T) i.left i.right (i.same av)) h) k

  -- ---- values that can be compared

  record_not : {A : Type 0} (S : Ty) (n : List ℕ) (xs : FieldValues) → has_type av (record_with n xs) S ≡ true → is_comparable S ≡ true → A
  record_not (record_of m fs) n xs h c = no c
  record_not (named m supers S) n xs h c = record_not S n xs h c
  record_not S n xs h c = no h

  exception_not : {A : Type 0} (S : Ty) (own : List ℕ) (supers : List (List ℕ)) (n : List ℕ) (xs : FieldValues) → has_type av (exception_with own supers n xs) S ≡ true → is_comparable S ≡ true → A
  exception_not (exception_of m fs) own supers n xs h c = no c
  exception_not (named m others S) own supers n xs h c = exception_not S own supers n xs (named_parts av (exception_with own supers n xs) m others S h).1 c
  exception_not S own supers n xs h c = no h

  tuple_not : {A : Type 0} (S : Ty) (xs : Values) → has_type av (tuple_with xs) S ≡ true → is_comparable S ≡ true → A
  tuple_not (tuple_of ts) xs h c = no c
  tuple_not (named m others S) xs h c = tuple_not S xs h c
  tuple_not S xs h c = no h

  array_not : {A : Type 0} (S : Ty) (k : Kind) (xs : Values) → has_type av (array_with k xs) S ≡ true → is_comparable S ≡ true → A
  array_not (array_of n T) k xs h c = no c
  array_not (named m others S) k xs h c = array_not S k xs h c
  array_not S k xs h c = no h

  -- what `==` and `!=` do, kind by kind
  record Compares (span : Span) (o : BinaryOperator) : Type 0 where
    pub integers : (a b : ℤ) → Gives d av boolean (of_integers span o a b)
    pub booleans : (a b : Bool) → Gives d av boolean (of_booleans span o a b)
    pub labels : (b : Bool) → Gives d av boolean (of_labels span o b)
    pub bits : (a b : List Bool) → (length a == length b) ≡ true → Gives d av boolean (of_bits tests.limit span o a b)

  compare : (span : Span) (o : BinaryOperator) (S T : Ty) (x y : Value) → Compares span o → is_comparable S ≡ true → has_type av x S ≡ true → has_type av y T ≡ true → same_widths tests S T ≡ true → kind_of y ≡ kind_of x → Gives d av boolean (binary_value tests.limit span o x y)
  compare span o S T (int a) y w c h l s k = let b = integer_is y k in subst (λ z. Gives d av boolean (binary_value tests.limit span o (int a) z)) (sym b.1) (w.integers a b.0)
  compare span o S T (bool a) y w c h l s k = let b = boolean_is y k in subst (λ z. Gives d av boolean (binary_value tests.limit span o (bool a) z)) (sym b.1) (w.booleans a b.0)
  compare span o S T (bits_with bs v) y w c h l s k =
      let b = bits_is y k in
      let q : has_type av (bits_with b.0 b.1) T ≡ true = subst (λ z. has_type av z T ≡ true) b.2 l in
      let e = same_both S T (bits_kind S (bits_with bs v) h refl) (bits_kind T (bits_with b.0 b.1) q refl) s in
      subst (λ z. Gives d av boolean (binary_value tests.limit span o (bits_with bs v) z)) (sym b.2) (w.bits bs b.0 (equal_lengths S T bs b.0 e (bits_in S bs v h) (bits_in T b.0 b.1 q)))
    where
      bits_kind : (S : Ty) (x : Value) → has_type av x S ≡ true → kind_of x ≡ bitvectors → is_bits S ≡ true
      bits_kind S x h e = subst (λ m. kind_eq m bitvectors ≡ true) (sym e ∙ has_kind av S x h) refl
  compare span o S T (label n a) y w c h l s k =
      let b = label_is n y k in
      subst (λ z. Gives d av boolean (binary_value tests.limit span o (label n a) z)) (sym b.1)
      (subst (λ t. Gives d av boolean (of_one_enumeration span o t (bytes_eq a b.0))) (sym (name_is n)) (w.labels (bytes_eq a b.0)))
  compare span o S T (record_with n xs) y w c h l s k = record_not S n xs h c
  compare span o S T (exception_with own supers n xs) y w c h l s k = exception_not S own supers n xs h c
  compare span o S T (tuple_with xs) y w c h l s k = tuple_not S xs h c
  compare span o S T (array_with j xs) y w c h l s k = array_not S j xs h c

  compares : (span : Span) (o : BinaryOperator) (S T U : Ty) (x y : Value) → OneKind S T → operations.compared tests span S T ≡ Ok U → InType d av x S → InType d av y T → Compares span o → Gives d av U (binary_value tests.limit span o x y)
  compares span o S T U x y e h i j w =
      let p = then_ok (operations.comparable tests T08 span S T) (Ok boolean) U h in
      let r = then_ok (need (same_kind S T && is_comparable S) T08 span) (need (same_widths tests S T) T06 span) tt p.first in
      let q = both (same_kind S T) (is_comparable S) (need_ok (same_kind S T && is_comparable S) T08 span tt r.first) in
      subst (λ W. Gives d av W (binary_value tests.limit span o x y)) (ok_ok boolean U p.then)
      (compare span o S T x y w q.1 i.0 j.0 (need_ok (same_widths tests S T) T06 span tt r.then) (has_kind av T y j.0 ∙ sym (equal_kinds (kind S) (kind T) (e q.0)) ∙ sym (has_kind av S x i.0)))

  equal_bits : (span : Span) (a b : List Bool) → (length a == length b) ≡ true → Gives d av boolean (of_bits tests.limit span binary.Equal a b)
  equal_bits span a b e = by_length (length a == length b) boolean (of_one_width span binary.Equal a b) _ e (refl, tt, refl)

  unequal_bits : (span : Span) (a b : List Bool) → (length a == length b) ≡ true → Gives d av boolean (of_bits tests.limit span binary.NotEqual a b)
  unequal_bits span a b e = by_length (length a == length b) boolean (of_one_width span binary.NotEqual a b) _ e (refl, tt, refl)

  -- ---- addition and subtraction

  number_of_lengths : (a b : List Bool) → (length a == length b) ≡ true → length a ≡ length b
  number_of_lengths a b e = same_number (length a) (length b) e

  -- a rule's two cases
  if_ok : {A : Type 0} (b : Bool) (V U : Ty) (r : Result Ty Fault) → cond b (Ok V) r ≡ Ok U → (b ≡ true → V ≡ U → A) → (b ≡ false → r ≡ Ok U → A) → A
  if_ok true V U r h f g = f refl (ok_ok V U h)
  if_ok false V U r h f g = g refl h

  record Adds (span : Span) (o : BinaryOperator) (op : List Part → List Part → List Part) : Type 0 where
    pub integers : (ps qs : List Part) (a b : ℤ) → AllEnds ps → AllEnds qs → In av a ps → In av b qs →
        Gives d av (integer_of (op ps qs)) (of_integers span o a b)
    pub bits : (T : Ty) (a b : List Bool) → is_width (length a) (width_at (width_of T) av) ≡ true → (length a == length b) ≡ true → Gives d av (bits_of (width_of T) []) (of_bits tests.limit span o a b)
    pub mixed : (T : Ty) (a : List Bool) (z : ℤ) → is_width (length a) (width_at (width_of T) av) ≡ true → Gives d av (bits_of (width_of T) []) (of_bits_and_integer span o a z)

  add_bits : (span : Span) (o : BinaryOperator) (op : List Part → List Part → List Part) (S T : Ty) (x y : Value) → Adds span o op → is_bits S ≡ true → (is_bits T || is_integer T) ≡ true → same_widths tests S T ≡ true → InType d av x S → InType d av y T → Gives d av (bits_of (width_of S) []) (binary_value tests.limit span o x y)
  add_bits span o op S T x y w p q s i j =
      let a = is_bitvector S x p i in
      subst (λ z. Gives d av (bits_of (width_of S) []) (binary_value tests.limit span o z y)) (sym a.2) (
      either (is_bits T) (is_integer T) q
      (λ e.
      let b = is_bitvector T y e j in
      subst (λ z. Gives d av (bits_of (width_of S) []) (binary_value tests.limit span o (bits_with a.0 a.1) z)) (sym b.2) (w.bits S a.0 b.0 a.3 (equal_lengths S T a.0 b.0 (same_both S T p e s) a.3 b.3)))
      (λ e.
      let b = is_int T y e j in
      subst (λ z. Gives d av (bits_of (width_of S) []) (binary_value tests.limit span o (bits_with a.0 a.1) z)) (sym b.1) (w.mixed S a.0 b.0 a.3))
      )

  adds : (span : Span) (o : BinaryOperator) (op : List Part → List Part → List Part) (S T U : Ty) (x y : Value) →
      operations.additive tests span op S T ≡ Ok U → Lies x S → Lies y T → Adds span o op →
      Gives d av U (binary_value tests.limit span o x y)
  adds span o op S T U x y h i j w =
      if_ok (is_integer S && is_integer T) (integer_of (op (constraint_of S) (constraint_of T))) U _ h
      (λ e v.
      let q = both (is_integer S) (is_integer T) e in
      subst (λ W. Gives d av W (binary_value tests.limit span o x y)) v
      (both_integers span o S T (integer_of (op (constraint_of S) (constraint_of T))) x y q.0 q.1 i j
      (λ a b k l. w.integers (constraint_of S) (constraint_of T) a b (within_ends d S i.1) (within_ends d T j.1) k l)))
      (λ e r.
      let m = then_ok (need (is_bits S && (is_bits T || is_integer T)) T08 span) (need (same_widths tests S T) T06 span >> Ok (bits_of (width_of S) [])) U r in
      let n = then_ok (need (same_widths tests S T) T06 span) (Ok (bits_of (width_of S) [])) U m.then in
      let q = both (is_bits S) (is_bits T || is_integer T) (need_ok (is_bits S && (is_bits T || is_integer T)) T08 span tt m.first) in
      subst (λ W. Gives d av W (binary_value tests.limit span o x y)) (ok_ok (bits_of (width_of S) []) U n.then)
      (add_bits span o op S T x y w q.0 q.1 (need_ok (same_widths tests S T) T06 span tt n.first) i.0 j.0))

  -- ---- bit by bit

  bitwise : (span : Span) (o : BinaryOperator) (S T U : Ty) (x y : Value) → operations.bitwise tests span S T ≡ Ok U → InType d av x S → InType d av y T → ((R : Ty) (a b : List Bool) → is_width (length a) (width_at (width_of R) av) ≡ true → (length a == length b) ≡ true → Gives d av (bits_of (width_of R) []) (of_bits tests.limit span o a b)) → Gives d av U (binary_value tests.limit span o x y)
  bitwise span o S T U x y h i j f =
      let m = then_ok (need (is_bits S && is_bits T) T08 span) (need (same_widths tests S T) T06 span >> Ok (bits_of (width_of S) [])) U h in
      let n = then_ok (need (same_widths tests S T) T06 span) (Ok (bits_of (width_of S) [])) U m.then in
      let q = both (is_bits S) (is_bits T) (need_ok (is_bits S && is_bits T) T08 span tt m.first) in
      let a = is_bitvector S x q.0 i in
      let b = is_bitvector T y q.1 j in
      subst (λ W. Gives d av W (binary_value tests.limit span o x y)) (ok_ok (bits_of (width_of S) []) U n.then)
      (subst (λ z. Gives d av (bits_of (width_of S) []) (binary_value tests.limit span o z y)) (sym a.2) (subst (λ z. Gives d av (bits_of (width_of S) []) (binary_value tests.limit span o (bits_with a.0 a.1) z)) (sym b.2)
      (f S a.0 b.0 a.3 (equal_lengths S T a.0 b.0 (same_both S T q.0 q.1 (need_ok (same_widths tests S T) T06 span tt n.first)) a.3 b.3))))

  one_width : (span : Span) (o : BinaryOperator) (R : Ty) (a b cs : List Bool) → of_one_width span o a b ≡ Good (plain_bits cs) → is_width (length a) (width_at (width_of R) av) ≡ true → length cs ≡ length a → Gives d av (bits_of (width_of R) []) (of_one_width span o a b)
  one_width span o R a b cs e h k = subst (Gives d av (bits_of (width_of R) [])) (sym e) (plain_gives R a cs h k)

  -- ---- concatenation

  fits_if : (b : Bool) (T : Ty) (r : Pure Value) (span : Span) → Gives d av T r → Gives d av T (cond b r (Bad (Faulted D14 span)))
  fits_if true T r span g = g
  fits_if false T r span g = tt

  sum_width : (a b : List Bool) (w : ℤ) → w ≡ pos (length a) +ℤ pos (length b) → is_width (length (b ++ a)) w ≡ true
  sum_width a b w e = subst (λ z. is_width (length (b ++ a)) z ≡ true) (sym (e ∙ ap pos (turn (length a) (length b) (length (b ++ a)) (length-append b a)))) (number_is (length (b ++ a)))
    where
      turn : (m n k : ℕ) → k ≡ n + m → m + n ≡ k
      turn m n k h = omega arith

  whole_plus : (x y : ℤ) → SameFraction (plus (whole x) (whole y)) (whole (x +ℤ y))
  whole_plus x y = rw (mul-one x, mul-one y) refl

  -- the sum of two widths is as many bits as both
  sum_wide : (span : Span) (p q r : Polynomial) (m n : ℕ) → IsPolynomial p → IsPolynomial q → width_at p av ≡ pos m →
      width_at q av ≡ pos n → width_sum span p q ≡ Ok r →
      width_at r av ≡ pos m +ℤ pos n
  sum_wide span p q r m n h k e f s =
      let x : SameFraction (whole (pos m)) (fraction_at av p) = sym (width_whole av p (pos m) (is_width_at av p m h e)) in
      let y : SameFraction (whole (pos n)) (fraction_at av q) = sym (width_whole av q (pos n) (is_width_at av q n k f)) in
      let z : SameFraction (plus (whole (pos m)) (whole (pos n))) (fraction_at av r) =
      sum_is av span p q r (whole (pos m)) (whole (pos n)) h k x y s in
      let w : SameFraction (fraction_at av r) (whole (pos m +ℤ pos n)) =
      same_trans (fraction_at av r) (plus (whole (pos m)) (whole (pos n))) (whole (pos m +ℤ pos n)) (omega arith) (sym z)
      (whole_plus (pos m) (pos n)) in
      width_at_is av r (pos m +ℤ pos n) (combined_held span Sum p q r h k s) (whole_width av r (pos m +ℤ pos n) w)

  concatenates : (span : Span) (S T U : Ty) (x y : Value) → operations.concatenated span S T ≡ Ok U → Lies x S → Lies y T →
      Gives d av U (binary_value tests.limit span binary.Concatenate x y)
  concatenates span S T U x y h i j =
      let m = then_ok (need (is_bits S && is_bits T) T08 span) (width_sum span (width_of S) (width_of T) >>= λ w. Ok (bits_of w [])) U h in
      let n = bind_ok (width_sum span (width_of S) (width_of T)) (λ w. Ok (bits_of w [])) U m.then in
      let q = both (is_bits S) (is_bits T) (need_ok (is_bits S && is_bits T) T08 span tt m.first) in
      let a = is_bitvector S x q.0 i.0 in
      let b = is_bitvector T y q.1 j.0 in
      let V : Ty = bits_of n.value [] in
      let e = sum_wide span (width_of S) (width_of T) n.value (length a.0) (length b.0) (within_width d S i.1) (within_width d T j.1)
      (width_is (length a.0) (width_at (width_of S) av) a.3) (width_is (length b.0) (width_at (width_of T) av) b.3) n.first in
      subst (λ W. Gives d av W (binary_value tests.limit span binary.Concatenate x y)) (ok_ok V U n.then)
      (subst (λ z. Gives d av V (binary_value tests.limit span binary.Concatenate z y)) (sym a.2) (subst (λ z. Gives d av V (binary_value tests.limit span binary.Concatenate (bits_with a.0 a.1) z)) (sym b.2)
      (fits_if (nat_le (length a.0 + length b.0) tests.limit) V (Good (plain_bits (b.0 ++ a.0))) span (sum_width a.0 b.0 (width_at n.value av) e, tt, refl))))

  -- ---- operators

  pub binary_gives : (span : Span) (o : BinaryOperator) (S T U : Ty) (x y : Value) → OneKind S T → binary_rule tests span o S T ≡ Ok U →
      Lies x S → Lies y T → Gives d av U (binary_value tests.limit span o x y)
  binary_gives span binary.LogicalAnd S T U x y e h i j = on_booleans span binary.LogicalAnd S T U x y h i.0 j.0 (λ a b. (refl, tt, refl))
  binary_gives span binary.LogicalOr S T U x y e h i j = on_booleans span binary.LogicalOr S T U x y h i.0 j.0 (λ a b. (refl, tt, refl))
  binary_gives span binary.Implies S T U x y e h i j = on_booleans span binary.Implies S T U x y h i.0 j.0 (λ a b. (refl, tt, refl))
  binary_gives span binary.Equivalent S T U x y e h i j = on_booleans span binary.Equivalent S T U x y h i.0 j.0 (λ a b. (refl, tt, refl))
  binary_gives span binary.Equal S T U x y e h i j =
      compares span binary.Equal S T U x y e h i.0 j.0
      (record { integers = λ a b. (refl, tt, refl); booleans = λ a b. (refl, tt, refl); labels = λ b. (refl, tt, refl); bits = equal_bits span })
  binary_gives span binary.NotEqual S T U x y e h i j =
      compares span binary.NotEqual S T U x y e h i.0 j.0
      (record { integers = λ a b. (refl, tt, refl); booleans = λ a b. (refl, tt, refl); labels = λ b. (refl, tt, refl); bits = unequal_bits span })
  binary_gives span binary.Less S T U x y e h i j = on_integers span binary.Less S T boolean U x y h i j (λ a b k l. (refl, tt, refl))
  binary_gives span binary.LessEqual S T U x y e h i j = on_integers span binary.LessEqual S T boolean U x y h i j (λ a b k l. (refl, tt, refl))
  binary_gives span binary.Greater S T U x y e h i j = on_integers span binary.Greater S T boolean U x y h i j (λ a b k l. (refl, tt, refl))
  binary_gives span binary.GreaterEqual S T U x y e h i j = on_integers span binary.GreaterEqual S T boolean U x y h i j (λ a b k l. (refl, tt, refl))
  binary_gives span binary.Add S T U x y e h i j = adds span binary.Add cons.sum_parts S T U x y h i j (record {
    integers = λ ps qs a b m n k l. integer_gives (sum_parts ps qs) span (a +ℤ b) (sum_keeps ps qs m n) (sum_in av ps qs a b k l);
    bits = λ R a b k e. by_length (length a == length b) (bits_of (width_of R) []) _ _ e (plain_gives R a (int_bits (length a) (pos (bits_value a) +ℤ pos (bits_value b))) k (length-bits_of (length a) _));
    mixed = λ R a z k. plain_gives R a (int_bits (length a) (pos (bits_value a) +ℤ z)) k (length-bits_of (length a) _);
  })
  binary_gives span binary.Subtract S T U x y e h i j = adds span binary.Subtract cons.difference_parts S T U x y h i j (record {
    integers =
        λ ps qs a b m n k l. integer_gives (difference_parts ps qs) span (a -ℤ b) (difference_keeps ps qs m n)
        (difference_in av ps qs a b k l);
    bits = λ R a b k e. by_length (length a == length b) (bits_of (width_of R) []) _ _ e (plain_gives R a (int_bits (length a) (pos (bits_value a) -ℤ pos (bits_value b))) k (length-bits_of (length a) _));
    mixed = λ R a z k. plain_gives R a (int_bits (length a) (pos (bits_value a) -ℤ z)) k (length-bits_of (length a) _);
  })
  binary_gives span binary.BitAnd S T U x y e h i j =
      bitwise span binary.BitAnd S T U x y h i.0 j.0
      (λ R a b k e. by_length (length a == length b) (bits_of (width_of R) []) _ _ e
      (plain_gives R a (zipped and_bit a b) k (zipped_length and_bit a b (number_of_lengths a b e))))
  binary_gives span binary.BitOr S T U x y e h i j =
      bitwise span binary.BitOr S T U x y h i.0 j.0
      (λ R a b k e. by_length (length a == length b) (bits_of (width_of R) []) _ _ e
      (plain_gives R a (zipped or_bit a b) k (zipped_length or_bit a b (number_of_lengths a b e))))
  binary_gives span binary.BitXor S T U x y e h i j =
      bitwise span binary.BitXor S T U x y h i.0 j.0
      (λ R a b k e. by_length (length a == length b) (bits_of (width_of R) []) _ _ e
      (plain_gives R a (zipped xor_bit a b) k (zipped_length xor_bit a b (number_of_lengths a b e))))
  binary_gives span binary.DivideExact S T U x y e h i j = on_integers span binary.DivideExact S T (integer_of []) U x y h i j (λ a b k l. divided_gives (integer_of []) span b (quotient span a) (λ n e p. exact_if (floor_mod a n == 0) (floor_div a n) span))
  binary_gives span binary.Power S T U x y e h i j =
      on_integers span binary.Power S T (integer_of []) U x y h i j
      (λ a b k l. raised_gives (integer_of []) span b (λ n. integer_value span (int_pow a n))
      (λ n e. integer_gives [] span (int_pow a n) tt (inl refl)))
  binary_gives span binary.Multiply S T U x y e h i j =
      on_integers span binary.Multiply S T (integer_of (product_parts (constraint_of S) (constraint_of T))) U x y h i j
      (λ a b k l. integer_gives (product_parts (constraint_of S) (constraint_of T)) span (a *ℤ b)
      (product_keeps (constraint_of S) (constraint_of T) (within_ends d S i.1) (within_ends d T j.1))
      (product_in av (constraint_of S) (constraint_of T) a b k l))
  binary_gives span binary.DivideFloor S T U x y e h i j =
      on_integers span binary.DivideFloor S T (integer_of (quotient_parts (constraint_of S) (constraint_of T))) U x y h i j
      (λ a b k l. divided_gives (integer_of (quotient_parts (constraint_of S) (constraint_of T))) span b (λ n. Good (int (floor_div a n)))
      (λ n e p. (in_is_in (quotient_parts (constraint_of S) (constraint_of T)) av (floor_div a n) (quotient_keeps (constraint_of S) (constraint_of T) (within_ends d S i.1) (within_ends d T j.1)) (subst (λ z. In av (floor_div a z) (quotient_parts (constraint_of S) (constraint_of T))) (ap unsigned_abs e) (quotient_in av (constraint_of S) (constraint_of T) a b k l)), tt, refl)))
  binary_gives span binary.Modulo S T U x y e h i j =
      on_integers span binary.Modulo S T (integer_of (modulo_parts (constraint_of S) (constraint_of T))) U x y h i j
      (λ a b k l. divided_gives (integer_of (modulo_parts (constraint_of S) (constraint_of T))) span b
      (λ n. Good (int (pos (floor_mod a n)))) (λ n e p.
      (in_is_in (modulo_parts (constraint_of S) (constraint_of T)) av (pos (floor_mod a n)) (modulo_keeps (constraint_of S) (constraint_of T)) (modulo_in av (constraint_of S) (constraint_of T) a n (above n p) (subst (λ z. In av z (constraint_of T)) e l)), tt, refl)))
  binary_gives span binary.ShiftLeft S T U x y e h i j =
      on_integers span binary.ShiftLeft S T (integer_of (shifted_up_parts (constraint_of S) (constraint_of T))) U x y h i j
      (λ a b k l. raised_gives (integer_of (shifted_up_parts (constraint_of S) (constraint_of T))) span b
      (λ n. integer_value span (a *ℤ pos (2 ^ n))) (λ n e. integer_gives (shifted_up_parts (constraint_of S) (constraint_of T)) span
      (a *ℤ pos (2 ^ n)) (shifted_up_keeps (constraint_of S) (constraint_of T) (within_ends d S i.1) (within_ends d T j.1))
      (subst (λ z. In av (a *ℤ pos (2 ^ z)) (shifted_up_parts (constraint_of S) (constraint_of T))) (ap unsigned_abs e)
      (shifted_up_in av (constraint_of S) (constraint_of T) a b k l))))
  binary_gives span binary.ShiftRight S T U x y e h i j =
      on_integers span binary.ShiftRight S T (integer_of (shifted_down_parts (constraint_of S) (constraint_of T))) U x y h i j
      (λ a b k l. raised_gives (integer_of (shifted_down_parts (constraint_of S) (constraint_of T))) span b
      (λ n. Good (int (floor_div a (2 ^ n)))) (λ n e.
      (in_is_in (shifted_down_parts (constraint_of S) (constraint_of T)) av (floor_div a (2 ^ n)) (shifted_down_keeps (constraint_of S) (constraint_of T) (within_ends d S i.1) (within_ends d T j.1)) (subst (λ z. In av (floor_div a (2 ^ z)) (shifted_down_parts (constraint_of S) (constraint_of T))) (ap unsigned_abs e) (shifted_down_in av (constraint_of S) (constraint_of T) a b k l)), tt, refl)))
  binary_gives span binary.Concatenate S T U x y e h i j = concatenates span S T U x y h i j

  number_ends : (z : ℤ) → AllEnds (only_number z)
  number_ends z = ((tt, tt), tt)

  only_in : (z : ℤ) → In av z (only_number z)
  only_in z = let e = int_end z av in inr (inl (grind (arith, ints, e), grind (arith, ints, e)))

  pub literal_gives : (span : Span) (n : ℕ) → Gives d av (literal_type n) (integer_value span (pos n))
  literal_gives span n = by (fits (pos n))
    where
      by : (b : Bool) → Gives d av (integer_of (cond b (only_number (pos n)) [])) (integer_value span (pos n))
      by true = integer_gives (only_number (pos n)) span (pos n) (number_ends (pos n)) (only_in (pos n))
      by false = integer_gives [] span (pos n) tt (inl refl)

  pub unary_gives : (span : Span) (o : UnaryOperator) (S U : Ty) (x : Value) → unary_rule span o S ≡ Ok U → Lies x S →
      Gives d av U (unary_value span o x)
  unary_gives span unary.Negate S U x h i =
      let V : Ty = integer_of (difference_parts (only_number (pos 0)) (constraint_of S)) in
      let p = then_ok (need (is_integer S) T08 span) (Ok V) U h in
      let a = is_int S x (need_ok (is_integer S) T08 span tt p.first) i.0 in
      subst (λ W. Gives d av W (unary_value span unary.Negate x)) (ok_ok V U p.then)
      (subst (λ z. Gives d av V (unary_value span unary.Negate z)) (sym a.1) (integer_gives (difference_parts (only_number (pos 0)) (constraint_of S)) span (pos 0 -ℤ a.0)
      (difference_keeps (only_number (pos 0)) (constraint_of S) (number_ends (pos 0)) (within_ends d S i.1))
      (difference_in av (only_number (pos 0)) (constraint_of S) (pos 0) a.0 (only_in (pos 0))
      (int_in S a.0 i.1 (subst (λ z. has_type av z S ≡ true) a.1 i.0.0)))))
  unary_gives span unary.Not S U x h i =
      let p = then_ok (need (is_boolean S) T08 span) (Ok boolean) U h in
      let a = is_bool S x (need_ok (is_boolean S) T08 span tt p.first) i.0 in
      subst (λ W. Gives d av W (unary_value span unary.Not x)) (ok_ok boolean U p.then) (subst (λ z. Gives d av boolean (unary_value span unary.Not z)) (sym a.1) (refl, tt, refl))
  unary_gives span unary.Complement S U x h i =
      let p = then_ok (need (is_bits S) T08 span) (Ok (bits_of (width_of S) [])) U h in
      let a = is_bitvector S x (need_ok (is_bits S) T08 span tt p.first) i.0 in
      subst (λ W. Gives d av W (unary_value span unary.Complement x)) (ok_ok (bits_of (width_of S) []) U p.then) (subst (λ z. Gives d av (bits_of (width_of S) []) (unary_value span unary.Complement z)) (sym a.2) (plain_gives S a.0 (map not a.0) a.3 (map_length not a.0)))
