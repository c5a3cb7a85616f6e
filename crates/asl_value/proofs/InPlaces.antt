-- Places among bits, and the bits there, one behind another.
use Rattle.std.proofs.Common.{◌≡◌, ℕ, zero, suc, ◌+◌, ◌-◌, ◌^◌, ◌<◌, ◌≤◌, min, Bool, true, false, List, [], ◌∷◌, ◌++◌, length, get_or, take, drop, refl, sym, ap, ◌∙◌, subst, arith, append_assoc, append-nil, length-append}
use Rattle.std.proofs.Math.Nat.{div-eq_of_lt, pow-le-pow_right}
use Rattle.std.specs.Prelude.{Result, Ok, Err, ℤ, pos, negsuc, ◌/◌, nat_le, ◌==◌, ◌&&◌}
use Rattle.asl_bits.specs.declared.TheConstants.{WIDTH_LIMIT}
use Rattle.asl_bits.specs.Lists.{slice_of, with_slice, int_bits}
use Rattle.asl_bits.proofs.Lists.{length-bits_of}
use Rattle.asl_num.specs.Exact.{Fits, floor_div, floor_mod}
use Rattle.std.proofs.lemmas.Int.{ints}
use Rattle.std.proofs.lemmas.List.{length-take, length-drop}
use Rattle.std.proofs.lemmas.Bool.Decides.{nat_tests}
use Rattle.asl_rules.specs.types.Types.{BitField}
use Rattle.asl_rules.specs.values.Vectors.{Places, places_of_field, places_of_fields, total_width, read_bits, read_int, write_bits, all_within, fill}
use Rattle.asl_value.proofs.Among.{at_front, none_after}

-- ---- a slice as far as there are bits

no_more : (bs : List Bool) (n : ℕ) → length bs ≤ n → take n bs ≡ bs
no_more [] zero h = refl
no_more [] (suc n) h = refl
no_more (b ∷ bs) zero h = absurd (omega (arith, h))
no_more (b ∷ bs) (suc n) h = ap (λ l. b ∷ l) (no_more bs n (omega (arith, h)))

of_none : (n : ℕ) → take {A = Bool} n [] ≡ []
of_none zero = refl
of_none (suc n) = refl

pub cut_past : (bs : List Bool) (low width m : ℕ) → m ≡ length bs → m ≤ low → slice_of bs 0 0 ≡ slice_of bs low width
cut_past bs low width m is h = sym (ap (take width) (none_after bs low (subst (λ k. k ≤ low) is h)) ∙ of_none width)

pub cut_short : (bs : List Bool) (low width m rest : ℕ) → m ≡ length bs → low < m → rest ≡ m - low → rest < width → slice_of bs low rest ≡ slice_of bs low width
cut_short bs low width m rest is h e long =
    let all : length (drop low bs) ≡ rest = length-drop low bs ∙ (let f : length bs - low ≡ rest = omega arith in f) in
    no_more (drop low bs) rest (omega arith) ∙ sym (no_more (drop low bs) width (omega arith))

pub same_ok : {A E : Type 0} {r : Result A E} {a b : A} → r ≡ Ok a → r ≡ Ok b → b ≡ a
same_ok {A = A} {E = E} {a = a} {b = b} h k = ok_is (sym k ∙ h)
  where
    inner : Result A E → A
    inner (Ok x) = x
    inner (Err e) = a

    ok_is : ◌≡◌ {A = Result A E} (Ok b) (Ok a) → b ≡ a
    ok_is e = ap inner e

-- ---- whether places are so many

places_from : (fs : List Places) (i : ℕ) (f : Places) → i < length fs → f ≡ get_or fs i f → total_width (drop i fs) ≡ f.width + total_width (drop (i + 1) fs)
places_from fs i f within here = ap total_width (at_front fs i f within here)

no_places : (fs : List Places) (i : ℕ) → length fs ≤ i → total_width (drop i fs) ≡ 0
no_places fs i past = ap total_width (none_after fs i past)

-- of so many, these are left
pub record Within (m : ℕ) (fs : List Places) (i left : ℕ) : Type 0 where
  pub is : total_width fs + left ≡ m + total_width (drop i fs)
  pub few : left ≤ m

pub within_none : (m : ℕ) (fs : List Places) → Within m fs 0 m
within_none m fs = record { is = omega arith; few = omega arith }

pub within_more : (m : ℕ) (fs : List Places) (i left less w : ℕ) (f : Places) → i < length fs → f ≡ get_or fs i f → w ≡ f.width → w ≤ left → less ≡ left - w → Within m fs i left → Within m fs (i + 1) less
within_more m fs i left less w f within here is fits new h = record {
  is = let a = places_from fs i f within here in let b = h.is in omega arith;
  few = let c = h.few in omega arith;
}

pub within_all : (m : ℕ) (fs : List Places) (i left : ℕ) → length fs ≤ i → Within m fs i left → true ≡ nat_le (total_width fs) m
within_all m fs i left past h =
    let none = no_places fs i past in
    let b = h.is in
    let fits : total_width fs ≤ m = omega arith in
    grind (arith, nat_tests)

pub not_within : (m : ℕ) (fs : List Places) (i left : ℕ) (f : Places) → i < length fs → f ≡ get_or fs i f → left < f.width → Within m fs i left → false ≡ nat_le (total_width fs) m
not_within m fs i left f within here long h =
    let a = places_from fs i f within here in
    let b = h.is in
    let past : m < total_width fs = omega arith in
    grind (arith, nat_tests)

pub as_many : (m : ℕ) (fs : List Places) (i left : ℕ) → length fs ≤ i → Within m fs i left → (left == 0) ≡ (m == total_width fs)
as_many m fs i left past h =
    let none = no_places fs i past in
    let b = h.is in
    let sum : total_width fs + left ≡ m = omega arith in
    grind (arith, nat_tests)

pub more_places : (m : ℕ) (fs : List Places) (i left : ℕ) (f : Places) → i < length fs → f ≡ get_or fs i f → left < f.width → Within m fs i left → false ≡ (m == total_width fs)
more_places m fs i left f within here long h =
    let a = places_from fs i f within here in
    let b = h.is in
    let past : m < total_width fs = omega arith in
    grind (arith, nat_tests)

-- ---- whether so many places hold them

pub inside_none : (n : ℕ) (fs : List Places) → all_within fs n ≡ all_within (drop 0 fs) n
inside_none n fs = refl

pub inside_more : (n : ℕ) (fs : List Places) (i : ℕ) (f : Places) → i < length fs → f ≡ get_or fs i f → true ≡ nat_le (f.low + f.width) n → all_within fs n ≡ all_within (drop i fs) n → all_within fs n ≡ all_within (drop (i + 1) fs) n
inside_more n fs i f within here is h = h ∙ ap (λ l. all_within l n) (at_front fs i f within here) ∙ ap (λ b. b && all_within (drop (i + 1) fs) n) (sym is)

pub not_inside : (n : ℕ) (fs : List Places) (i : ℕ) (f : Places) → i < length fs → f ≡ get_or fs i f → false ≡ nat_le (f.low + f.width) n → all_within fs n ≡ all_within (drop i fs) n → false ≡ all_within fs n
not_inside n fs i f within here is h = sym (h ∙ ap (λ l. all_within l n) (at_front fs i f within here) ∙ ap (λ b. b && all_within (drop (i + 1) fs) n) (sym is))

pub inside_all : (n : ℕ) (fs : List Places) (i : ℕ) → length fs ≤ i → all_within fs n ≡ all_within (drop i fs) n → true ≡ all_within fs n
inside_all n fs i past h = sym (h ∙ ap (λ l. all_within l n) (none_after fs i past))

-- ---- the bits in places

shorter : (bs : List Bool) (n : ℕ) → length (take n bs) ≤ n
shorter [] zero = omega arith
shorter [] (suc n) = omega arith
shorter (b ∷ bs) zero = omega arith
shorter (b ∷ bs) (suc n) = let h = shorter bs n in omega arith

-- those read so far stand below those left
pub record Read (read : List Places → List Bool) (fs : List Places) (i : ℕ) (made : List Bool) : Type 0 where
  pub is : read fs ≡ read (drop i fs) ++ made
  pub room : length made + total_width (drop i fs) ≤ WIDTH_LIMIT

none_yet : (read : List Places → List Bool) (fs : List Places) → total_width fs ≤ WIDTH_LIMIT → Read read fs 0 []
none_yet read fs h = record { is = sym (append-nil (read fs)); room = omega arith }

one_more : (read : List Places → List Bool) (fs : List Places) (i : ℕ) (f : Places) (made part after : List Bool) → i < length fs → f ≡ get_or fs i f → read (f ∷ drop (i + 1) fs) ≡ read (drop (i + 1) fs) ++ part → length part ≤ f.width → after ≡ part ++ made → Read read fs i made → Read read fs (i + 1) after
one_more read fs i f made part after within here is few grown h = record {
  is = h.is ∙ ap (λ l. read l ++ made) (at_front fs i f within here) ∙ ap (λ l. l ++ made) is ∙ append_assoc (read (drop (i + 1) fs)) part made ∙ ap (λ l. read (drop (i + 1) fs) ++ l) (sym grown);
  room =
      let a = places_from fs i f within here in
      let b = h.room in
      let e : length after ≡ length part + length made = ap (λ l. length l) grown ∙ length-append part made in
      omega arith;
}

room_for : (read : List Places → List Bool) (fs : List Places) (i : ℕ) (f : Places) (made part : List Bool) → i < length fs → f ≡ get_or fs i f → length part ≤ f.width → Read read fs i made → length made + length part ≤ WIDTH_LIMIT
room_for read fs i f made part within here few h =
    let a = places_from fs i f within here in
    let b = h.room in
    omega arith

all_there : (read : List Places → List Bool) (fs : List Places) (i : ℕ) (made : List Bool) → read [] ≡ [] → length fs ≤ i → Read read fs i made → made ≡ read fs
all_there read fs i made none past h = sym (h.is ∙ ap (λ l. read l ++ made) (none_after fs i past) ∙ ap (λ l. l ++ made) none)

-- of bits
abbrev pub in_bits : List Bool → List Places → List Bool
in_bits bs ps = read_bits ps bs

few_bits : (bs part : List Bool) (f : Places) → part ≡ slice_of bs f.low f.width → length part ≤ f.width
few_bits bs part f is = subst (λ l. length l ≤ f.width) (sym is) (shorter (drop f.low bs) f.width)

pub none_read : (bs : List Bool) (fs : List Places) → total_width fs ≤ WIDTH_LIMIT → Read (in_bits bs) fs 0 []
none_read bs fs h = none_yet (in_bits bs) fs h

pub one_read : (bs : List Bool) (fs : List Places) (i : ℕ) (f : Places) (made part after : List Bool) → i < length fs → f ≡ get_or fs i f → part ≡ slice_of bs f.low f.width → after ≡ part ++ made → Read (in_bits bs) fs i made → Read (in_bits bs) fs (i + 1) after
one_read bs fs i f made part after within here is grown h = one_more (in_bits bs) fs i f made part after within here (ap (λ l. in_bits bs (drop (i + 1) fs) ++ l) (sym is)) (few_bits bs part f is) grown h

pub room_left : (bs : List Bool) (fs : List Places) (i : ℕ) (f : Places) (made part : List Bool) → i < length fs → f ≡ get_or fs i f → part ≡ slice_of bs f.low f.width → Read (in_bits bs) fs i made → length made + length part ≤ WIDTH_LIMIT
room_left bs fs i f made part within here is h = room_for (in_bits bs) fs i f made part within here (few_bits bs part f is) h

pub all_read : (bs : List Bool) (fs : List Places) (i : ℕ) (made : List Bool) → length fs ≤ i → Read (in_bits bs) fs i made → made ≡ read_bits fs bs
all_read bs fs i made past h = all_there (in_bits bs) fs i made refl past h

-- from -2^127 to 2^127 - 1
abbrev pub InRange : ℤ → Type 0
InRange (pos a) = a < 2 ^ 127
InRange (negsuc a) = a < 2 ^ 127

in_range : (z : ℤ) → Fits z → InRange z
in_range (pos n) h = grind (arith, ints)
in_range (negsuc n) h = grind (arith, ints)

-- an integer has the same bits at all places from 127 on
small_none : (a m : ℕ) → a < m → a / m ≡ 0
small_none a m h = div-eq_of_lt h

below_power : (a n : ℕ) → 127 ≤ n → a < 2 ^ 127 → a < 2 ^ n
below_power a n h k = let m : 2 ^ 127 ≤ 2 ^ n = pow-le-pow_right (omega arith) h in omega (arith, m, k)

same_div : (z : ℤ) (m n : ℕ) → InRange z → 127 ≤ m → 127 ≤ n → floor_div z (2 ^ m) ≡ floor_div z (2 ^ n)
same_div (pos a) m n h k l = ap pos (small_none a (2 ^ m) (below_power a m k h) ∙ sym (small_none a (2 ^ n) (below_power a n l h)))
same_div (negsuc a) m n h k l = ap negsuc (small_none a (2 ^ m) (below_power a m k h) ∙ sym (small_none a (2 ^ n) (below_power a n l h)))

pub same_above : (z : ℤ) (w low : ℕ) (r : List Bool) → Fits z → 127 ≤ low → r ≡ int_bits w (floor_div z (2 ^ 127)) → r ≡ int_bits w (floor_div z (2 ^ low))
same_above z w low r f h e = e ∙ ap (int_bits w) (same_div z 127 low (in_range z f) (omega arith) h)

-- of an integer
abbrev pub in_integer : ℤ → List Places → List Bool
in_integer z ps = read_int ps z

as_long : (z : ℤ) (part : List Bool) (f : Places) → part ≡ int_bits f.width (floor_div z (2 ^ f.low)) → length part ≤ f.width
as_long z part f is = subst (λ l. length l ≤ f.width) (sym is) (let e = length-bits_of f.width (floor_mod (floor_div z (2 ^ f.low)) (2 ^ f.width)) in omega arith)

pub none_cut : (z : ℤ) (fs : List Places) → total_width fs ≤ WIDTH_LIMIT → Read (in_integer z) fs 0 []
none_cut z fs h = none_yet (in_integer z) fs h

pub one_cut : (z : ℤ) (fs : List Places) (i : ℕ) (f : Places) (made part after : List Bool) → i < length fs → f ≡ get_or fs i f → part ≡ int_bits f.width (floor_div z (2 ^ f.low)) → after ≡ part ++ made → Read (in_integer z) fs i made → Read (in_integer z) fs (i + 1) after
one_cut z fs i f made part after within here is grown h = one_more (in_integer z) fs i f made part after within here (ap (λ l. in_integer z (drop (i + 1) fs) ++ l) (sym is)) (as_long z part f is) grown h

pub room_cut : (z : ℤ) (fs : List Places) (i : ℕ) (f : Places) (made part : List Bool) → i < length fs → f ≡ get_or fs i f → part ≡ int_bits f.width (floor_div z (2 ^ f.low)) → Read (in_integer z) fs i made → length made + length part ≤ WIDTH_LIMIT
room_cut z fs i f made part within here is h = room_for (in_integer z) fs i f made part within here (as_long z part f is) h

pub width_cut : (z : ℤ) (fs : List Places) (i : ℕ) (f : Places) (made : List Bool) → i < length fs → f ≡ get_or fs i f → Read (in_integer z) fs i made → f.width ≤ WIDTH_LIMIT
width_cut z fs i f made within here h = let a = places_from fs i f within here in let b = h.room in omega arith

pub all_cut : (z : ℤ) (fs : List Places) (i : ℕ) (made : List Bool) → length fs ≤ i → Read (in_integer z) fs i made → made ≡ read_int fs z
all_cut z fs i made past h = all_there (in_integer z) fs i made refl past h

-- ---- bits put in places

min_is : (t l w m : ℕ) → l ≡ w + t → m ≡ min t l → m ≡ t
min_is t l w m e f = omega arith

slice_long : (r : List Bool) (low w : ℕ) → low + w ≤ length r → length (slice_of r low w) ≡ w
slice_long r low w h =
    let a = length-take w (drop low r) in
    let b = length-drop low r in
    omega arith

put_long : (bs part : List Bool) (low : ℕ) → low + length part ≤ length bs → length (with_slice bs low part) ≡ length bs
put_long bs part low h =
    let a = length-append (take low bs ++ part) (drop (low + length part) bs) in
    let b = length-append (take low bs) part in
    let c = length-take low bs in
    let d = length-drop (low + length part) bs in
    omega arith

take_all : (r : List Bool) → take (length r) r ≡ r
take_all [] = refl
take_all (b ∷ r) = ap (λ l. b ∷ l) (take_all r)

take_less : (r : List Bool) (m n : ℕ) → m ≤ n → take m (take n r) ≡ take m r
take_less [] zero n h = refl
take_less [] (suc m) zero h = refl
take_less [] (suc m) (suc n) h = refl
take_less (b ∷ r) zero n h = refl
take_less (b ∷ r) (suc m) zero h = absurd (omega (arith, h))
take_less (b ∷ r) (suc m) (suc n) h = ap (λ l. b ∷ l) (take_less r m n (omega (arith, h)))

drop_taken : (r : List Bool) (m w : ℕ) → drop m (take (w + m) r) ≡ take w (drop m r)
drop_taken r zero w = ap (λ n. take n r) (omega arith)
drop_taken [] (suc m) w = ap (drop (suc m)) (of_none (w + suc m)) ∙ sym (of_none w)
drop_taken (b ∷ r) (suc m) w = ap (λ n. drop (suc m) (take n (b ∷ r))) (let e : w + suc m ≡ suc (w + m) = omega arith in e) ∙ drop_taken r m w

-- those that are put so far are in place of those that were there
pub record Put (bs r : List Bool) (fs : List Places) (i left : ℕ) (made : List Bool) : Type 0 where
  pub is : write_bits fs r bs ≡ write_bits (drop i fs) (take left r) made
  pub width : left ≡ total_width (drop i fs)
  pub room : all_within (drop i fs) (length bs) ≡ true
  pub long : length made ≡ length bs
  pub few : left ≤ length r

filled : (m : ℕ) (fs : List Places) (n : ℕ) → fill m fs n ≡ true → (m ≡ total_width fs) × (all_within fs n ≡ true)
filled m fs n h = by (m == total_width fs) refl h
  where
    by : (b : Bool) → (m == total_width fs) ≡ b → (b && all_within fs n) ≡ true → (m ≡ total_width fs) × (all_within fs n ≡ true)
    by true e k = (grind (arith, nat_tests), k)
    by false e k = cc

pub none_put : (bs r : List Bool) (fs : List Places) (left : ℕ) → left ≡ length r → fill (length r) fs (length bs) ≡ true → Put bs r fs 0 left bs
none_put bs r fs left e h =
    let f = filled (length r) fs (length bs) h in
    record {
      is = ap (λ l. write_bits fs l bs) (sym (ap (λ n. take n r) e ∙ take_all r));
      width = e ∙ f.0;
      room = f.1;
      long = refl;
      few = omega arith;
    }

first_inside : (f : Places) (fs : List Places) (n : ℕ) → all_within (f ∷ fs) n ≡ true → (f.low + f.width ≤ n) × (all_within fs n ≡ true)
first_inside f fs n h = by (nat_le (f.low + f.width) n) refl h
  where
    by : (b : Bool) → nat_le (f.low + f.width) n ≡ b → (b && all_within fs n) ≡ true → (f.low + f.width ≤ n) × (all_within fs n ≡ true)
    by true e k = (grind (arith, nat_tests), k)
    by false e k = cc

pub place_inside : (bs r : List Bool) (fs : List Places) (i left : ℕ) (made : List Bool) (f : Places) → i < length fs → f ≡ get_or fs i f → Put bs r fs i left made → f.low + f.width ≤ length made
place_inside bs r fs i left made f within here h = subst (λ n. f.low + f.width ≤ n) (sym h.long) (first_inside f (drop (i + 1) fs) (length bs) (sym (ap (λ l. all_within l (length bs)) (at_front fs i f within here)) ∙ h.room)).0

pub room_inside : (bs r : List Bool) (fs : List Places) (i left less w : ℕ) (made : List Bool) (f : Places) → w ≡ f.width → w ≤ left → less ≡ left - w → Put bs r fs i left made → less + f.width ≤ length r
room_inside bs r fs i left less w made f same fits e h = let b = h.few in omega arith

pub width_inside : (bs r : List Bool) (fs : List Places) (i left : ℕ) (made : List Bool) (f : Places) → i < length fs → f ≡ get_or fs i f → Put bs r fs i left made → f.width ≤ left
width_inside bs r fs i left made f within here h = let a = places_from fs i f within here in let b = h.width in omega arith

pub one_put : (bs r : List Bool) (fs : List Places) (i left less w : ℕ) (made after : List Bool) (f : Places) → i < length fs → f ≡ get_or fs i f → w ≡ f.width → less ≡ left - w → after ≡ with_slice made f.low (slice_of r less f.width) → Put bs r fs i left made → Put bs r fs (i + 1) less after
one_put bs r fs i left less w made after f within here same e grown h =
    let part = slice_of r less f.width in
    let rest = drop (i + 1) fs in
    let front = at_front fs i f within here in
    let a = places_from fs i f within here in
    let wide = h.width in
    let few = h.few in
    let less_is : less ≡ total_width rest = omega arith in
    let sum : left ≡ f.width + less = omega arith in
    let inside = first_inside f rest (length bs) (sym (ap (λ l. all_within l (length bs)) front) ∙ h.room) in
    let part_long : length part ≡ f.width = slice_long r less f.width (omega arith) in
    let made_long = h.long in
    record {
      is = h.is ∙ ap (λ l. write_bits l (take left r) made) front ∙
          ap (λ n. write_bits rest (take n (take left r)) (with_slice made f.low (drop n (take left r)))) (sym less_is) ∙
          ap (λ l. write_bits rest l (with_slice made f.low (drop less (take left r)))) (take_less r less left (omega arith)) ∙
          ap (λ l. write_bits rest (take less r) (with_slice made f.low l)) (ap (λ n. drop less (take n r)) sum ∙ drop_taken r less f.width) ∙
          ap (λ l. write_bits rest (take less r) l) (sym grown);
      width = less_is;
      room = inside.1;
      long = ap (λ l. length l) grown ∙ put_long made part f.low (let k = inside.0 in omega arith) ∙ made_long;
      few = omega arith;
    }

pub part_inside : (r part : List Bool) (low w : ℕ) → part ≡ slice_of r low w → low + w ≤ length r → length part ≡ w
part_inside r part low w is h = ap (λ l. length l) is ∙ slice_long r low w h

pub all_put : (bs r : List Bool) (fs : List Places) (i left : ℕ) (made : List Bool) → length fs ≤ i → Put bs r fs i left made → made ≡ write_bits fs r bs
all_put bs r fs i left made past h = sym (h.is ∙ ap (λ l. write_bits l (take left r) made) (none_after fs i past))

-- ---- the places of bitfields

-- those made stand in front of those left
abbrev pub FieldsMade : List BitField → ℕ → List Places → Type 0
FieldsMade fs i made = places_of_fields fs ≡ made ++ places_of_fields (drop i fs)

pub fields_none : (fs : List BitField) → FieldsMade fs 0 []
fields_none fs = refl

pub fields_more : (fs : List BitField) (i : ℕ) (f : BitField) (made after : List Places) → i < length fs → f ≡ get_or fs i f → after ≡ made ++ places_of_field f ∷ [] → FieldsMade fs i made → FieldsMade fs (i + 1) after
fields_more fs i f made after within here grown h =
    h ∙ ap (λ l. made ++ places_of_fields l) (at_front fs i f within here) ∙ sym (append_assoc made (places_of_field f ∷ []) (places_of_fields (drop (i + 1) fs))) ∙ ap (λ l. l ++ places_of_fields (drop (i + 1) fs)) (sym grown)

pub fields_all : (fs : List BitField) (i : ℕ) (made : List Places) → length fs ≤ i → FieldsMade fs i made → made ≡ places_of_fields fs
fields_all fs i made past h = sym (h ∙ ap (λ l. made ++ places_of_fields l) (none_after fs i past) ∙ append-nil made)
