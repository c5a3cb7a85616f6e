-- What the subprograms of the library give belongs to their types, where their parameters are widths and their arguments have types of the kinds that they take.
use Rattle.std.proofs.Common.{◌≡◌, ℕ, suc, ◌+◌, ◌-◌, ◌^◌, ◌≤◌, ℤ, pos, negsuc, inl, ◌&&◌, cond, Bool, true, false, List, [], ◌∷◌, length, replicate, Option, Some, None, refl, sym, ap, ◌∙◌, subst, arith}
use Rattle.std.specs.Prelude.{◌==◌, ◌≤ℤ◌, neg_ℤ, nat_le}
use Rattle.std.proofs.lemmas.List.{length-append, length-replicate}
use Rattle.std.proofs.lemmas.Int.{ints}
use Rattle.std.proofs.lemmas.Bool.Decides.{nat_tests}
use Rattle.asl_syn.specs.declared.token.Span.{Span}
use Rattle.asl_syn.specs.declared.code.DynCode.TheVariants.{D08}
use Rattle.asl_bits.specs.Lists.{bits_value, signed_value, extension_of, top_bit}
use Rattle.asl_poly.specs.Terms.{Polynomial}
use Rattle.asl_poly.specs.Fractions.{whole}
use Rattle.asl_poly.specs.Poly.{IsPolynomial, HasWidth, constant_value}
use Rattle.asl_cons.specs.Arithmetic.{shown}
use Rattle.asl_rules.specs.declarations.Routines.{Routine, UInt, SInt, Zeros, Ones, ZeroExtend, SignExtend, IsZero, IsOnes, Len, Abs, Min, Max}
use Rattle.asl_rules.specs.Tests.{Tests, IsRight}
use Rattle.asl_rules.specs.types.Types.{Ty, Parts, kind, kinds, kind_eq, kinds_eq, integers, bitvectors, no_kind, one_more, integer_of, bits_of, no_part, part, is_bits, is_integer, width_of, only_width, from_to}
use Rattle.asl_rules.specs.types.Closed.{Assignment, floor, ceiling, range_in, width_at, not_above, in_one, end_at, constraint_at, is_in}
use Rattle.asl_rules.specs.expressions.Calls.{routine_params, routine_formals, routine_type, unsigned, signed, of_bits, of_integer}
use Rattle.asl_rules.specs.values.Values.{Value, int, bits_with}
use Rattle.asl_rules.specs.private.WellFormed.{ShapedParts}
use Rattle.asl_rules.specs.private.Belonging.{InType}
use Rattle.asl_rules.specs.runs.Plans.{Faulted, Good, Bad}
use Rattle.asl_rules.specs.values.Operators.{plain_bits, integer_of as integer_value}
use Rattle.asl_rules.specs.values.Vectors.{width_of as tested_width}
use Rattle.asl_rules.specs.values.Library.{copies, extended, absolute, lesser, greater, routine_value}
use Rattle.asl_rules.proofs.basics.Tests.{no, both, and_true, or_first}
use Rattle.asl_cons.proofs.Results.{constant_is}
use Rattle.asl_rules.proofs.values.SameKind.{equal_kinds}
use Rattle.asl_rules.proofs.values.Viewing.{width_is}
use Rattle.asl_rules.proofs.values.Constrained.{is_not_above, in_is_in, is_in_in}
use Rattle.asl_rules.proofs.values.Rounded.{constant_width, is_width_at}
use Rattle.asl_rules.proofs.expressions.OperatorForms.{Gives, is_int, is_bitvector, integer_gives, within_width}
use Rattle.asl_laws.proofs.expressions.Claims.{IsWidth}
use Rattle.asl_laws.proofs.widths.WholeWidths.{whole_floor, whole_ceiling, whole_ends}
use Rattle.asl_laws.proofs.values.Sliced.{Holds, holds_then, width_is_given, bits_given, holds_gives}
use Rattle.asl_laws.proofs.values.Signed.{unsigned_within, signed_within}

-- values in these types
abbrev pub AllIn : (List ℕ → Option Ty) → Assignment → Parts → List Value → Type 0
AllIn d a no_part [] = Unit {0}
AllIn d a (part T Ts) (x ∷ xs) = InType d a x T × AllIn d a Ts xs
AllIn d a Ts xs = ⊥

-- the integers of these widths, which are whole there
abbrev pub AllWide : Assignment → List Polynomial → List Value → Type 0
AllWide a [] [] = Unit {0}
AllWide a (p ∷ ps) (y ∷ ys) = IsWidth a p y × AllWide a ps ys
AllWide a ps ys = ⊥

number_in : ℤ → ℕ
number_in (pos n) = n
number_in (negsuc n) = 0

same_number : (m n : ℕ) → pos m ≡ pos n → m ≡ n
unfolding number_in
same_number m n h = ap number_in h

le_is : (m n : ℕ) → nat_le m n ≡ true → m ≤ n
le_is m n h = grind (arith, nat_tests)

equal_is : (m n : ℕ) → (m == n) ≡ true → m ≡ n
equal_is m n h = grind (arith, nat_tests)

never_none : (n : ℕ) → (suc n == 0) ≡ true → ⊥
never_none n h = let e : suc n ≡ 0 = equal_is (suc n) 0 h in omega arith

never_one : (n : ℕ) → (suc (suc n) == 1) ≡ true → ⊥
never_one n h = let e : suc (suc n) ≡ 1 = equal_is (suc (suc n)) 1 h in omega arith

module _ (d : List ℕ → Option Ty) (av : Assignment) (tests : Tests) (right : IsRight tests) where
  -- ---- parameters and arguments by their numbers and kinds

  no_params : (P : List Polynomial → List Value → Type 0) (ps : List Polynomial) (ys : List Value) → AllWide av ps ys → (length ps == 0) ≡ true → P [] [] → P ps ys
  no_params P [] [] w h k = k
  no_params P [] (y ∷ ys) w h k = absurd w
  no_params P (p ∷ ps) ys w h k = absurd (never_none (length ps) h)

  one_param : (P : List Polynomial → List Value → Type 0) (ps : List Polynomial) (ys : List Value) → AllWide av ps ys → (length ps == 1) ≡ true → ((p : Polynomial) → P (p ∷ []) (int (width_at p av) ∷ [])) → P ps ys
  one_param P [] ys w h k = no h
  one_param P (p ∷ []) [] w h k = absurd w
  one_param P (p ∷ []) (y ∷ []) w h k = subst (λ v. P (p ∷ []) (v ∷ [])) (sym w.0.0) (k p)
  one_param P (p ∷ []) (y ∷ z ∷ ys) w h k = absurd w.1
  one_param P (p ∷ q ∷ ps) ys w h k = absurd (never_one (length ps) h)

  bits_kind : (T : Ty) → kind_eq bitvectors (kind T) ≡ true → is_bits T ≡ true
  bits_kind T h = subst (λ k. kind_eq k bitvectors ≡ true) (equal_kinds bitvectors (kind T) h) refl

  integer_kind : (T : Ty) → kind_eq integers (kind T) ≡ true → is_integer T ≡ true
  integer_kind T h = subst (λ k. kind_eq k integers ≡ true) (equal_kinds integers (kind T) h) refl

  no_arguments : (P : Parts → List Value → Type 0) (Ts : Parts) (xs : List Value) → AllIn d av Ts xs → kinds_eq no_kind (kinds Ts) ≡ true → P no_part [] → P Ts xs
  no_arguments P no_part [] i h k = k
  no_arguments P no_part (x ∷ xs) i h k = absurd i
  no_arguments P (part T Ts) xs i h k = no h

  one_bits : (P : Parts → List Value → Type 0) (Ts : Parts) (xs : List Value) → AllIn d av Ts xs → ShapedParts d Ts →
      kinds_eq of_bits (kinds Ts) ≡ true →
      ((T : Ty) (bs : List Bool) (v : _) → IsPolynomial (width_of T) → width_at (width_of T) av ≡ pos (length bs) → P (part T no_part)
      (bits_with bs v ∷ [])) → P Ts xs
  one_bits P no_part xs i s h k = no h
  one_bits P (part T Ts) [] i s h k = absurd i
  one_bits P (part T Ts) (x ∷ xs) i s h k =
      let p = both (kind_eq bitvectors (kind T)) (kinds_eq no_kind (kinds Ts)) h in
      let b = is_bitvector d av tests right T x (bits_kind T p.0) i.0 in
      no_arguments (λ Us zs. P (part T Us) (x ∷ zs)) Ts xs i.1 p.1
      (subst (λ y. P (part T no_part) (y ∷ [])) (sym b.2)
      (k T b.0 b.1 (within_width d T s.1) (width_is (length b.0) (width_at (width_of T) av) b.3)))

  one_integer : (P : Parts → List Value → Type 0) (Ts : Parts) (xs : List Value) → AllIn d av Ts xs → kinds_eq of_integer (kinds Ts) ≡ true → ((T : Ty) (z : ℤ) → P (part T no_part) (int z ∷ [])) → P Ts xs
  one_integer P no_part xs i h k = no h
  one_integer P (part T Ts) [] i h k = absurd i
  one_integer P (part T Ts) (x ∷ xs) i h k =
      let p = both (kind_eq integers (kind T)) (kinds_eq no_kind (kinds Ts)) h in
      let b = is_int d av tests right T x (integer_kind T p.0) i.0 in
      no_arguments (λ Us zs. P (part T Us) (x ∷ zs)) Ts xs i.1 p.1 (subst (λ y. P (part T no_part) (y ∷ [])) (sym b.1) (k T b.0))

  two_integers : (P : Parts → List Value → Type 0) (Ts : Parts) (xs : List Value) → AllIn d av Ts xs → kinds_eq (one_more integers of_integer) (kinds Ts) ≡ true → ((T U : Ty) (y z : ℤ) → P (part T (part U no_part)) (int y ∷ int z ∷ [])) → P Ts xs
  two_integers P no_part xs i h k = no h
  two_integers P (part T Ts) [] i h k = absurd i
  two_integers P (part T Ts) (x ∷ xs) i h k =
      let p = both (kind_eq integers (kind T)) (kinds_eq of_integer (kinds Ts)) h in
      let b = is_int d av tests right T x (integer_kind T p.0) i.0 in
      one_integer (λ Us zs. P (part T Us) (x ∷ zs)) Ts xs i.1 p.1 (λ U z. subst (λ y. P (part T (part U no_part)) (y ∷ int z ∷ [])) (sym b.1) (k T U b.0 z))

  -- ---- results

  within : (l h z : ℤ) → (l ≤ℤ z) × (z ≤ℤ h) → is_in z (constraint_at (from_to l h) av) ≡ true
  within l h z k =
      or_first (in_one z (range_in (whole l) (whole h))) false
      (and_true (not_above (ceiling (whole l)) z) (not_above z (floor (whole h)))
      (subst (λ y. not_above y z ≡ true) (sym (whole_ceiling l)) (is_not_above l z k.0))
      (subst (λ y. not_above z y ≡ true) (sym (whole_floor h)) (is_not_above z h k.1)))

  in_range_of : (l h : ℤ) (span : Span) (z : ℤ) → (l ≤ℤ z) × (z ≤ℤ h) → Gives d av (integer_of (from_to l h)) (integer_value span z)
  in_range_of l h span z k =
      integer_gives d av tests right (from_to l h) span z ((tt, tt), tt) (is_in_in (from_to l h) av z ((tt, tt), tt) (within l h z k))

  any_integer : (span : Span) (z : ℤ) → Gives d av (integer_of []) (integer_value span z)
  any_integer span z = integer_gives d av tests right [] span z tt (inl refl)

  self : (z : ℤ) → z ≤ℤ z
  self z = omega (arith, ints)

  unsigned_gives : (o : Option ℤ) (p : Polynomial) (span : Span) (bs : List Bool) → constant_value p ≡ o → width_at p av ≡ pos (length bs) → Gives d av (integer_of (unsigned o)) (routine_value tests.limit span UInt [] (bits_with bs [] ∷ []))
  unsigned_gives None p span bs e w = any_integer span (pos (bits_value bs))
  unsigned_gives (Some (negsuc k)) p span bs e w = any_integer span (pos (bits_value bs))
  unsigned_gives (Some (pos k)) p span bs e w = by (nat_le k 127)
    where
      is : length bs ≡ k
      is = same_number (length bs) k (sym w ∙ constant_width av p (pos k) (constant_is av p (pos k) e))

      by : (b : Bool) → Gives d av (integer_of (cond b (from_to (pos 0) (pos (2 ^ k - 1))) [])) (routine_value tests.limit span UInt [] (bits_with bs [] ∷ []))
      by true = in_range_of (pos 0) (pos (2 ^ k - 1)) span (pos (bits_value bs)) (unsigned_within bs k is)
      by false = any_integer span (pos (bits_value bs))

  signed_gives : (o : Option ℤ) (p : Polynomial) (span : Span) (bs : List Bool) → constant_value p ≡ o → width_at p av ≡ pos (length bs) → Gives d av (integer_of (signed o)) (routine_value tests.limit span SInt [] (bits_with bs [] ∷ []))
  signed_gives None p span bs e w = any_integer span (signed_value bs)
  signed_gives (Some (negsuc k)) p span bs e w = any_integer span (signed_value bs)
  signed_gives (Some (pos k)) p span bs e w = by (nat_le 1 k && nat_le k 128) refl
    where
      is : length bs ≡ k
      is = same_number (length bs) k (sym w ∙ constant_width av p (pos k) (constant_is av p (pos k) e))

      by : (b : Bool) → (nat_le 1 k && nat_le k 128) ≡ b → Gives d av (integer_of (cond b (from_to (neg_ℤ (pos (2 ^ (k - 1)))) (pos (2 ^ (k - 1) - 1))) [])) (routine_value tests.limit span SInt [] (bits_with bs [] ∷ []))
      by true h =
          in_range_of (neg_ℤ (pos (2 ^ (k - 1)))) (pos (2 ^ (k - 1) - 1)) span (signed_value bs)
          (signed_within bs k is (le_is 1 k (both (nat_le 1 k) (nat_le k 128) h).0))
      by false h = any_integer span (signed_value bs)

  copies_give : (span : Span) (b : Bool) (p : Polynomial) → Gives d av (bits_of p []) (copies tests.limit span b (width_at p av))
  copies_give span b p =
      holds_gives d av tests right (bits_of p []) (copies tests.limit span b (width_at p av))
      (holds_then (λ n. width_at p av ≡ pos n) (λ x. InType d av x (bits_of p [])) (tested_width tests.limit span (width_at p av)) (λ n. Good (plain_bits (replicate n b))) (width_is_given tests.limit span (width_at p av))
      (λ n e. bits_given d av tests right p (replicate n b) n (width_at p av) refl e (length-replicate n b)))

  extended_gives : (span : Span) (signed : Bool) (p : Polynomial) (bs : List Bool) → Gives d av (bits_of p []) (extended tests.limit span signed (width_at p av) bs)
  extended_gives span signed p bs =
      holds_gives d av tests right (bits_of p []) (extended tests.limit span signed (width_at p av) bs)
      (holds_then (λ n. width_at p av ≡ pos n) (λ x. InType d av x (bits_of p [])) (tested_width tests.limit span (width_at p av)) (λ n. cond (nat_le (length bs) n) (Good (plain_bits (extension_of bs n signed))) (Bad (Faulted D08 span))) (width_is_given tests.limit span (width_at p av))
      (λ n e. by n e (nat_le (length bs) n) refl))
    where
      long : (n : ℕ) → nat_le (length bs) n ≡ true → length (extension_of bs n signed) ≡ n
      long n h = length-append bs (replicate (n - length bs) (signed && top_bit bs)) ∙ ap (λ m. length bs + m) (length-replicate (n - length bs) (signed && top_bit bs)) ∙ rest (length bs) n (le_is (length bs) n h)
        where
          rest : (m n : ℕ) → m ≤ n → m + (n - m) ≡ n
          rest m n h = omega arith

      by : (n : ℕ) → width_at p av ≡ pos n → (b : Bool) → nat_le (length bs) n ≡ b → Holds (λ x. InType d av x (bits_of p [])) (cond b (Good (plain_bits (extension_of bs n signed))) (Bad (Faulted D08 span)))
      by n e true h = bits_given d av tests right p (extension_of bs n signed) n (width_at p av) refl e (long n h)
      by n e false h = tt

  pub length_gives : (p : Polynomial) (n : ℤ) → IsPolynomial p → HasWidth p av n → is_in n (constraint_at (only_width p) av) ≡ true
  length_gives p n i h =
      let e = whole_ends av p n i h in
      or_first (in_one n (range_in (end_at (shown p) av) (end_at (shown p) av))) false
      (and_true (not_above (ceiling (end_at (shown p) av)) n) (not_above n (floor (end_at (shown p) av)))
      (subst (λ y. not_above y n ≡ true) (sym e.0) (is_not_above n n (self n)))
      (subst (λ y. not_above n y ≡ true) (sym e.1) (is_not_above n n (self n))))

  -- each subprogram
  pub routine_in : (span : Span) (r : Routine) (ps : List Polynomial) (Ts : Parts) (ys xs : List Value) → AllWide av ps ys →
      (length ps == routine_params r) ≡ true → AllIn d av Ts xs → ShapedParts d Ts → kinds_eq (routine_formals r) (kinds Ts) ≡ true →
      Gives d av (routine_type r ps Ts) (routine_value tests.limit span r ys xs)
  routine_in span UInt ps Ts ys xs w n i s k =
      no_params (λ qs zs. Gives d av (routine_type UInt qs Ts) (routine_value tests.limit span UInt zs xs)) ps ys w n
      (one_bits (λ Us zs. Gives d av (routine_type UInt [] Us) (routine_value tests.limit span UInt [] zs)) Ts xs i s k
      (λ T bs v m e. unsigned_gives (constant_value (width_of T)) (width_of T) span bs refl e))
  routine_in span SInt ps Ts ys xs w n i s k =
      no_params (λ qs zs. Gives d av (routine_type SInt qs Ts) (routine_value tests.limit span SInt zs xs)) ps ys w n
      (one_bits (λ Us zs. Gives d av (routine_type SInt [] Us) (routine_value tests.limit span SInt [] zs)) Ts xs i s k
      (λ T bs v m e. signed_gives (constant_value (width_of T)) (width_of T) span bs refl e))
  routine_in span Zeros ps Ts ys xs w n i s k =
      one_param (λ qs zs. Gives d av (routine_type Zeros qs Ts) (routine_value tests.limit span Zeros zs xs)) ps ys w n
      (λ p. no_arguments (λ Us zs. Gives d av (routine_type Zeros (p ∷ []) Us)
      (routine_value tests.limit span Zeros (int (width_at p av) ∷ []) zs)) Ts xs i k (copies_give span false p))
  routine_in span Ones ps Ts ys xs w n i s k =
      one_param (λ qs zs. Gives d av (routine_type Ones qs Ts) (routine_value tests.limit span Ones zs xs)) ps ys w n
      (λ p. no_arguments (λ Us zs. Gives d av (routine_type Ones (p ∷ []) Us)
      (routine_value tests.limit span Ones (int (width_at p av) ∷ []) zs)) Ts xs i k (copies_give span true p))
  routine_in span ZeroExtend ps Ts ys xs w n i s k =
      one_param (λ qs zs. Gives d av (routine_type ZeroExtend qs Ts) (routine_value tests.limit span ZeroExtend zs xs)) ps ys w n
      (λ p. one_bits (λ Us zs. Gives d av (routine_type ZeroExtend (p ∷ []) Us)
      (routine_value tests.limit span ZeroExtend (int (width_at p av) ∷ []) zs)) Ts xs i s k (λ T bs v m e. extended_gives span false p bs))
  routine_in span SignExtend ps Ts ys xs w n i s k =
      one_param (λ qs zs. Gives d av (routine_type SignExtend qs Ts) (routine_value tests.limit span SignExtend zs xs)) ps ys w n
      (λ p. one_bits (λ Us zs. Gives d av (routine_type SignExtend (p ∷ []) Us)
      (routine_value tests.limit span SignExtend (int (width_at p av) ∷ []) zs)) Ts xs i s k (λ T bs v m e. extended_gives span true p bs))
  routine_in span IsZero ps Ts ys xs w n i s k =
      no_params (λ qs zs. Gives d av (routine_type IsZero qs Ts) (routine_value tests.limit span IsZero zs xs)) ps ys w n
      (one_bits (λ Us zs. Gives d av (routine_type IsZero [] Us) (routine_value tests.limit span IsZero [] zs)) Ts xs i s k
      (λ T bs v m e. (refl, tt, refl)))
  routine_in span IsOnes ps Ts ys xs w n i s k =
      no_params (λ qs zs. Gives d av (routine_type IsOnes qs Ts) (routine_value tests.limit span IsOnes zs xs)) ps ys w n
      (one_bits (λ Us zs. Gives d av (routine_type IsOnes [] Us) (routine_value tests.limit span IsOnes [] zs)) Ts xs i s k
      (λ T bs v m e. (refl, tt, refl)))
  routine_in span Len ps Ts ys xs w n i s k =
      no_params (λ qs zs. Gives d av (routine_type Len qs Ts) (routine_value tests.limit span Len zs xs)) ps ys w n
      (one_bits (λ Us zs. Gives d av (routine_type Len [] Us) (routine_value tests.limit span Len [] zs)) Ts xs i s k
      (λ T bs v m e. (length_gives (width_of T) (pos (length bs)) m (is_width_at av (width_of T) (length bs) m e), tt, refl)))
  routine_in span Abs ps Ts ys xs w n i s k =
      no_params (λ qs zs. Gives d av (routine_type Abs qs Ts) (routine_value tests.limit span Abs zs xs)) ps ys w n
      (one_integer (λ Us zs. Gives d av (routine_type Abs [] Us) (routine_value tests.limit span Abs [] zs)) Ts xs i k
      (λ T z. any_integer span (absolute z)))
  routine_in span Min ps Ts ys xs w n i s k =
      no_params (λ qs zs. Gives d av (routine_type Min qs Ts) (routine_value tests.limit span Min zs xs)) ps ys w n
      (two_integers (λ Us zs. Gives d av (routine_type Min [] Us) (routine_value tests.limit span Min [] zs)) Ts xs i k
      (λ T U y z. (in_is_in [] av (lesser y z) tt (inl refl), tt, refl)))
  routine_in span Max ps Ts ys xs w n i s k =
      no_params (λ qs zs. Gives d av (routine_type Max qs Ts) (routine_value tests.limit span Max zs xs)) ps ys w n
      (two_integers (λ Us zs. Gives d av (routine_type Max [] Us) (routine_value tests.limit span Max [] zs)) Ts xs i k
      (λ T U y z. (in_is_in [] av (greater y z) tt (inl refl), tt, refl)))
