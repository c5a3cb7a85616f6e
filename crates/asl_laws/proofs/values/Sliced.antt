-- Slices of values: as many bits as the widths of the slices say together, or a fault.
use Rattle.std.proofs.Common.{◌≡◌, ℕ, ◌+◌, ◌-◌, ◌≤◌, min, ℤ, pos, negsuc, ◌⊎◌, inl, inr, cond, Bool, true, false, List, [], ◌∷◌, length, drop, Option, Some, None, refl, sym, ap, ◌∙◌, subst, arith}
use Rattle.std.specs.Prelude.{◌+ℤ◌, nat_le}
use Rattle.std.proofs.lemmas.List.{length-take, length-drop, length-append}
use Rattle.std.proofs.lemmas.Bool.Decides.{nat_tests}
use Rattle.asl_syn.specs.declared.token.Span.{Span}
use Rattle.asl_syn.specs.declared.code.DynCode.TheVariants.{D01, D05, D14}
use Rattle.asl_num.specs.Exact.{floor_div, floor_mod}
use Rattle.asl_bits.specs.Lists.{int_bits, slice_of}
use Rattle.asl_bits.proofs.Lists.{length-bits_of}
use Rattle.std.specs.Prelude.{◌^◌}
use Rattle.asl_poly.specs.Terms.{Polynomial}
use Rattle.asl_rules.specs.types.Types.{Ty, bits_of, is_bits, is_integer}
use Rattle.asl_rules.specs.types.Closed.{Assignment, width_at}
use Rattle.asl_rules.specs.Tests.{Tests, IsRight}
use Rattle.asl_rules.specs.types.Shapes.{SliceShape}
use Rattle.asl_rules.specs.values.Values.{Value, is_width}
use Rattle.asl_rules.specs.private.Belonging.{InType}
use Rattle.asl_rules.specs.runs.Plans.{Faulted, Stuck, Pure, Good, Bad}
use Rattle.asl_rules.specs.runs.Pures.{◌>>=◌}
use Rattle.asl_rules.specs.values.Operators.{in_range, plain_bits}
use Rattle.asl_rules.specs.values.Vectors.{Slicing, Wide, Places, slicings, width_of, ranged_width, widths_of, ends_within, low_of, places_of, total_width, tested, read_bits, read_int, slices_of}
use Rattle.asl_rules.proofs.values.SameKind.{number_is}
use Rattle.asl_rules.proofs.expressions.OperatorForms.{Gives, is_int, is_bitvector}

-- something that holds of what is given, where nothing is stuck
abbrev pub Holds : {A : Type 0} → (A → Type 0) → Pure A → Type 0
Holds P (Good x) = P x
Holds P (Bad (Faulted code span)) = Unit {0}
Holds P (Bad (Stuck mistake span)) = ⊥

pub holds_then : {A B : Type 0} (P : A → Type 0) (Q : B → Type 0) (r : Pure A) (f : A → Pure B) → Holds P r → ((x : A) → P x → Holds Q (f x)) → Holds Q (r >>= f)
holds_then P Q (Good x) f h k = k x h
holds_then P Q (Bad (Faulted code span)) f h k = tt
holds_then P Q (Bad (Stuck mistake span)) f h k = absurd h

holds_if : {A : Type 0} (P : A → Type 0) (b : Bool) (r : Pure A) (code : _) (span : Span) → (b ≡ true → Holds P r) → Holds P (cond b r (Bad (Faulted code span)))
holds_if P true r code span h = h refl
holds_if P false r code span h = tt

abbrev pub all_widths : List Slicing → ℤ
all_widths [] = pos 0
all_widths (s ∷ ss) = s.width +ℤ all_widths ss

abbrev wide_total : List Wide → ℕ
wide_total [] = 0
wide_total (s ∷ ss) = s.width + wide_total ss

-- ---- widths

pub width_is_given : (limit : ℕ) (span : Span) (z : ℤ) → Holds (λ n. z ≡ pos n) (width_of limit span z)
width_is_given limit span (pos w) = holds_if (λ n. pos w ≡ pos n) (nat_le w limit) (Good w) D14 span (λ h. refl)
width_is_given limit span (negsuc w) = tt

widths_given : (limit : ℕ) (span : Span) (ss : List Slicing) → Holds (λ ws. all_widths ss ≡ pos (wide_total ws)) (widths_of limit span ss)
widths_given limit span [] = refl
widths_given limit span (s ∷ ss) =
    holds_then (λ n. s.width ≡ pos n) (λ ws. s.width +ℤ all_widths ss ≡ pos (wide_total ws)) (ranged_width limit span s.width) _
    (holds_if (λ n. s.width ≡ pos n) (in_range s.width) (width_of limit span s.width) D01 span (λ h. width_is_given limit span s.width)) (λ n e.
    holds_then (λ ws. all_widths ss ≡ pos (wide_total ws)) (λ ws. s.width +ℤ all_widths ss ≡ pos (wide_total ws)) (widths_of limit span ss) _ (widths_given limit span ss) (λ ws f.
    ap (λ z. z +ℤ all_widths ss) e ∙ ap (λ z. pos n +ℤ z) f))

-- ---- places

-- each place ends within this
abbrev pub AllWithin : Option ℕ → List Places → Type 0
AllWithin top [] = Unit {0}
AllWithin top (p ∷ ps) = (ends_within top (p.low + p.width) ≡ true) × AllWithin top ps

low_given : (span : Span) (top : Option ℕ) (z : ℤ) (w : ℕ) → Holds (λ l. ends_within top (l + w) ≡ true) (low_of span top z w)
low_given span top (pos l) w = holds_if (λ m. ends_within top (m + w) ≡ true) (ends_within top (l + w)) (Good l) D05 span (λ h. h)
low_given span top (negsuc l) w = tt

places_given : (span : Span) (top : Option ℕ) (ws : List Wide) → Holds (λ ps. (total_width ps ≡ wide_total ws) × AllWithin top ps) (places_of span top ws)
places_given span top [] = (refl, tt)
places_given span top (s ∷ ss) =
    holds_then (λ l. ends_within top (l + s.width) ≡ true) (λ ps. (total_width ps ≡ s.width + wide_total ss) × AllWithin top ps) (low_of span top s.low s.width) _ (low_given span top s.low s.width) (λ l e.
    holds_then (λ ps. (total_width ps ≡ wide_total ss) × AllWithin top ps) (λ ps. (total_width ps ≡ s.width + wide_total ss) × AllWithin top ps) (places_of span top ss) _ (places_given span top ss) (λ ps f.
    (ap (λ n. s.width + n) f.0, (e, f.1))))

-- places of slices that were tested
pub tested_places : (limit : ℕ) (span : Span) (top : Option ℕ) (ss : List Slicing) → Holds (λ ps. (all_widths ss ≡ pos (total_width ps)) × AllWithin top ps) (tested limit span top (Some ss))
tested_places limit span top ss =
    holds_then (λ ws. all_widths ss ≡ pos (wide_total ws)) (λ ps. (all_widths ss ≡ pos (total_width ps)) × AllWithin top ps) (widths_of limit span ss) _ (widths_given limit span ss) (λ ws e.
    holds_then (λ ps. (total_width ps ≡ wide_total ws) × AllWithin top ps) (λ ps. (all_widths ss ≡ pos (total_width ps)) × AllWithin top ps) (places_of span top ws) _ (places_given span top ws) (λ ps f.
    holds_if (λ qs. (all_widths ss ≡ pos (total_width qs)) × AllWithin top qs) (nat_le (total_width ps) limit) (Good ps) D14 span (λ h. (e ∙ ap pos (sym f.0), f.1))))

-- ---- reading

le_is : (m n : ℕ) → nat_le m n ≡ true → m ≤ n
le_is m n h = grind (arith, nat_tests)

slice_long : (bs : List Bool) (l w : ℕ) → ends_within (Some (length bs)) (l + w) ≡ true → length (slice_of bs l w) ≡ w
slice_long bs l w h = length-take w (drop l bs) ∙ room l w (length bs) (length (drop l bs)) (le_is (l + w) (length bs) h) (length-drop l bs)
  where
    room : (l w n m : ℕ) → l + w ≤ n → m ≡ n - l → min w m ≡ w
    room l w n m h e = omega arith

turned : (a b c d : ℕ) → a ≡ c → b ≡ d → a + b ≡ d + c
turned a b c d h k = omega arith

pub bits_read : (bs : List Bool) (ps : List Places) → AllWithin (Some (length bs)) ps → length (read_bits ps bs) ≡ total_width ps
bits_read bs [] a = refl
bits_read bs (p ∷ ps) a =
    length-append (read_bits ps bs) (slice_of bs p.low p.width) ∙ turned (length (read_bits ps bs)) (length (slice_of bs p.low p.width)) (total_width ps) p.width (bits_read bs ps a.1) (slice_long bs p.low p.width a.0)

int_read : (z : ℤ) (ps : List Places) → length (read_int ps z) ≡ total_width ps
int_read z [] = refl
int_read z (p ∷ ps) =
    let y = floor_div z (2 ^ p.low) in
    length-append (read_int ps z) (int_bits p.width y) ∙ turned (length (read_int ps z)) (length (int_bits p.width y)) (total_width ps) p.width (int_read z ps) (length-bits_of p.width (floor_mod y (2 ^ p.width)))

module _ (d : List ℕ → Option Ty) (av : Assignment) (tests : Tests) (right : IsRight tests) where
  -- plain bits, as many as a width says
  pub bits_given : (w : Polynomial) (cs : List Bool) (n : ℕ) (z : ℤ) → width_at w av ≡ z → z ≡ pos n → length cs ≡ n → InType d av (plain_bits cs) (bits_of w [])
  bits_given w cs n z e f g = (subst (λ y. is_width (length cs) y ≡ true) (sym (e ∙ f ∙ ap pos (sym g))) (number_is (length cs)), tt, refl)

  pub holds_gives : (T : Ty) (r : Pure Value) → Holds (λ x. InType d av x T) r → Gives d av T r
  holds_gives T (Good x) h = h
  holds_gives T (Bad (Faulted code span)) h = h
  holds_gives T (Bad (Stuck mistake span)) h = h

  of_bits_give : (limit : ℕ) (span : Span) (bs : List Bool) (ss : List Slicing) (w : Polynomial) → width_at w av ≡ all_widths ss → Gives d av (bits_of w []) (tested limit span (Some (length bs)) (Some ss) >>= λ ps. Good (plain_bits (read_bits ps bs)))
  of_bits_give limit span bs ss w e =
      holds_gives (bits_of w []) _
      (holds_then (λ ps. (all_widths ss ≡ pos (total_width ps)) × AllWithin (Some (length bs)) ps) (λ x. InType d av x (bits_of w [])) (tested limit span (Some (length bs)) (Some ss)) (λ ps. Good (plain_bits (read_bits ps bs))) (tested_places limit span (Some (length bs)) ss)
      (λ ps h. bits_given w (read_bits ps bs) (total_width ps) (all_widths ss) e h.0 (bits_read bs ps h.1)))

  of_int_gives : (limit : ℕ) (span : Span) (z : ℤ) (ss : List Slicing) (w : Polynomial) → width_at w av ≡ all_widths ss → Gives d av (bits_of w []) (tested limit span None (Some ss) >>= λ ps. Good (plain_bits (read_int ps z)))
  of_int_gives limit span z ss w e =
      holds_gives (bits_of w []) _
      (holds_then (λ ps. (all_widths ss ≡ pos (total_width ps)) × AllWithin None ps) (λ x. InType d av x (bits_of w [])) (tested limit span None (Some ss)) (λ ps. Good (plain_bits (read_int ps z))) (tested_places limit span None ss)
      (λ ps h. bits_given w (read_int ps z) (total_width ps) (all_widths ss) e h.0 (int_read z ps)))

  -- slices of a value of a type that has them
  pub slices_give : (limit : ℕ) (span : Span) (shapes : List SliceShape) (xs : List Value) (ss : List Slicing) (w : Polynomial) (T : Ty) (x : Value) → slicings shapes xs ≡ Some ss → width_at w av ≡ all_widths ss → (is_bits T ≡ true) ⊎ (is_integer T ≡ true) → InType d av x T → Gives d av (bits_of w []) (slices_of limit span shapes xs x)
  slices_give limit span shapes xs ss w T x q e (inl k) i =
      let b = is_bitvector d av tests right T x k i in
      subst (λ y. Gives d av (bits_of w []) (slices_of limit span shapes xs y)) (sym b.2)
      (subst (λ o. Gives d av (bits_of w []) (tested limit span (Some (length b.0)) o >>= λ ps. Good (plain_bits (read_bits ps b.0)))) (sym q) (of_bits_give limit span b.0 ss w e))
  slices_give limit span shapes xs ss w T x q e (inr k) i =
      let z = is_int d av tests right T x k i in
      subst (λ y. Gives d av (bits_of w []) (slices_of limit span shapes xs y)) (sym z.1)
      (subst (λ o. Gives d av (bits_of w []) (tested limit span None o >>= λ ps. Good (plain_bits (read_int ps z.0)))) (sym q) (of_int_gives limit span z.0 ss w e))
