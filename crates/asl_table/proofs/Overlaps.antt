-- The least word that two masks match, digit by digit from the lowest, and from the two bitvectors of each mask.
use Rattle.std.proofs.Common.{◌≡◌, ℕ, zero, suc, List, [], ◌∷◌, length, Bool, true, false, cond, replicate, refl, sym, ◌∙◌, ap, arith}
use Rattle.std.specs.Prelude.{Option, Some, None, ◌&&◌, option_map, is_some, unwrap_or, IsTrue, ◌↔◌}
use Rattle.std.proofs.lemmas.List.{length-replicate}
use Rattle.asl_bits.specs.Lists.{both, and_bit, or_bit, xor_bit}
use Rattle.asl_mask.specs.Digits.{mask_matches, digit_matches}
use Rattle.asl_mask.specs.Least.{or_else, on_top, least, overlap_of}
use Rattle.asl_mask.specs.Covers.{Digits}
use Rattle.asl_table.specs.Pairs.{fixed_of, digits_of}
use Rattle.asl_table.proofs.Free.{least_cong}

-- ---- a property of the lowest digit and of those above it

abbrev split : (Bool → Bool) → (List Bool → Bool) → List Bool → Bool
split q r [] = false
split q r (b ∷ v) = q b && r v

abbrev first_digit : Bool → Bool → Option Bool
first_digit true t = Some false
first_digit false true = Some true
first_digit false false = None

abbrev below : Option Bool → Option (List Bool) → Option (List Bool)
below (Some b) (Some v) = Some (b ∷ v)
below (Some b) None = None
below None o = None

below_each : (d : Option Bool) (o p : Option (List Bool)) →
    or_else (option_map (on_top false) (below d o)) (option_map (on_top true) (below d p)) ≡ below d (or_else (option_map (on_top false) o) (option_map (on_top true) p))
below_each None o p = refl
below_each (Some b) None None = refl
below_each (Some b) None (Some v) = refl
below_each (Some b) (Some u) p = refl

split_top : (q : Bool → Bool) (r : List Bool → Bool) (t : Bool) (w : ℕ) (v : List Bool) → length v ≡ suc w →
    split q r (on_top t v) ≡ split q (λ u. r (on_top t u)) v
split_top q r t w [] h = absurd (omega (arith, h))
split_top q r t w (b ∷ v) h = refl

one_digit : (x y e : Bool) →
    or_else (option_map (on_top false) (cond (x && e) (Some []) None)) (option_map (on_top true) (cond (y && e) (Some []) None)) ≡ below (first_digit x y) (cond e (Some []) None)
one_digit true y true = refl
one_digit true true false = refl
one_digit true false false = refl
one_digit false true true = refl
one_digit false true false = refl
one_digit false false true = refl
one_digit false false false = refl

least_low : (w : ℕ) (q : Bool → Bool) (r : List Bool → Bool) →
    least (suc w) (split q r) ≡ below (first_digit (q false) (q true)) (least w r)
unfolding least
least_low zero q r = one_digit (q false) (q true) (r [])
least_low (suc w) q r =
    let low : least (suc w) (λ v. split q r (on_top false v)) ≡ below (first_digit (q false) (q true)) (least w (λ v. r (on_top false v))) =
    least_cong (suc w) (λ v. split q r (on_top false v)) (split q (λ v. r (on_top false v))) (λ v h. split_top q r false w v h)
    ∙ least_low w q (λ v. r (on_top false v)) in
    let high : least (suc w) (λ v. split q r (on_top true v)) ≡ below (first_digit (q false) (q true)) (least w (λ v. r (on_top true v))) =
    least_cong (suc w) (λ v. split q r (on_top true v)) (split q (λ v. r (on_top true v))) (λ v h. split_top q r true w v h)
    ∙ least_low w q (λ v. r (on_top true v)) in
    ap (λ (o : Option (List Bool)). or_else (option_map (on_top false) o) (option_map (on_top true) (least (suc w) (λ v. split q r (on_top true v))))) low
    ∙ ap (λ (o : Option (List Bool)). or_else (option_map (on_top false) (below (first_digit (q false) (q true)) (least w (λ v. r (on_top false v))))) (option_map (on_top true) o)) high
    ∙ below_each (first_digit (q false) (q true)) (least w (λ v. r (on_top false v))) (least w (λ v. r (on_top true v)))

-- ---- two masks

and_pairs : (a b c d : Bool) → ((a && b) && (c && d)) ≡ ((a && c) && (b && d))
and_pairs true true c d = refl
and_pairs true false true d = refl
and_pairs true false false d = refl
and_pairs false b c d = refl

match_pairs : (x y : Option Bool) (m n : Digits) (w : ℕ) (v : List Bool) → length v ≡ suc w →
    (mask_matches (x ∷ m) v && mask_matches (y ∷ n) v) ≡ split (λ b. digit_matches x b && digit_matches y b) (λ u. mask_matches m u && mask_matches n u) v
unfolding mask_matches
match_pairs x y m n w [] h = absurd (omega (arith, h))
match_pairs x y m n w (b ∷ v) h = and_pairs (digit_matches x b) (mask_matches m v) (digit_matches y b) (mask_matches n v)

overlap_low : (w : ℕ) (x y : Option Bool) (m n : Digits) →
    overlap_of (suc w) (x ∷ m) (y ∷ n) ≡ below (first_digit (digit_matches x false && digit_matches y false) (digit_matches x true && digit_matches y true)) (overlap_of w m n)
overlap_low w x y m n =
    least_cong (suc w) (λ v. mask_matches (x ∷ m) v && mask_matches (y ∷ n) v) (split (λ b. digit_matches x b && digit_matches y b) (λ u. mask_matches m u && mask_matches n u))
    (λ v h. match_pairs x y m n w v h)
    ∙ least_low w (λ b. digit_matches x b && digit_matches y b) (λ u. mask_matches m u && mask_matches n u)

-- ---- the places where both are fixed and differ

abbrev pub apart : Digits → Digits → List Bool
apart m n = both and_bit (both xor_bit (digits_of m) (digits_of n)) (both and_bit (fixed_of m) (fixed_of n))

abbrev apart_at : Option Bool → Option Bool → Bool
apart_at x y = and_bit (xor_bit (unwrap_or x false) (unwrap_or y false)) (and_bit (is_some x) (is_some y))

digit_is : (x y : Option Bool) →
    first_digit (digit_matches x false && digit_matches y false) (digit_matches x true && digit_matches y true) ≡ cond (apart_at x y) None (Some (or_bit (unwrap_or x false) (unwrap_or y false)))
digit_is None None = refl
digit_is None (Some true) = refl
digit_is None (Some false) = refl
digit_is (Some true) None = refl
digit_is (Some false) None = refl
digit_is (Some true) (Some true) = refl
digit_is (Some true) (Some false) = refl
digit_is (Some false) (Some true) = refl
digit_is (Some false) (Some false) = refl

overlap_none : overlap_of 0 [] [] ≡ Some []
unfolding least mask_matches
overlap_none = refl

at_apart : (a d : Bool) (o : Option (List Bool)) → a ≡ true → below (cond a None (Some d)) o ≡ None
at_apart true d o h = refl
at_apart false d o h = absurd cc

at_same : (a d : Bool) (v : List Bool) → a ≡ false → below (cond a None (Some d)) (Some v) ≡ Some (d ∷ v)
at_same true d v h = absurd cc
at_same false d v h = refl

above_apart : (e : Option Bool) → below e None ≡ None
above_apart None = refl
above_apart (Some b) = refl

-- nowhere apart: the digits of both
pub overlap_some : (m n : Digits) → length m ≡ length n → apart m n ≡ replicate (length m) false →
    overlap_of (length m) m n ≡ Some (both or_bit (digits_of m) (digits_of n))
unfolding both
overlap_some [] [] l h = overlap_none
overlap_some [] (y ∷ n) l h = absurd (omega (arith, l))
overlap_some (x ∷ m) [] l h = absurd (omega (arith, l))
overlap_some (x ∷ m) (y ∷ n) l h =
    let here : apart_at x y ≡ false = cc in
    let rest : apart m n ≡ replicate (length m) false = cc in
    overlap_low (length m) x y m n
    ∙ ap (λ (e : Option Bool). below e (overlap_of (length m) m n)) (digit_is x y)
    ∙ ap (λ (o : Option (List Bool)). below (cond (apart_at x y) None (Some (or_bit (unwrap_or x false) (unwrap_or y false)))) o) (overlap_some m n (omega (arith, l)) rest)
    ∙ at_same (apart_at x y) (or_bit (unwrap_or x false) (unwrap_or y false)) (both or_bit (digits_of m) (digits_of n)) here

by_place : (a : Bool) (x y : Option Bool) (m n : Digits) → apart_at x y ≡ a →
    ((apart m n ≡ replicate (length m) false → ⊥) → overlap_of (length m) m n ≡ None) →
    ((apart_at x y ∷ apart m n) ≡ (false ∷ replicate (length m) false) → ⊥) → overlap_of (suc (length m)) (x ∷ m) (y ∷ n) ≡ None
by_place true x y m n a more h =
    overlap_low (length m) x y m n
    ∙ ap (λ (e : Option Bool). below e (overlap_of (length m) m n)) (digit_is x y)
    ∙ at_apart (apart_at x y) (or_bit (unwrap_or x false) (unwrap_or y false)) (overlap_of (length m) m n) a
by_place false x y m n a more h =
    let none : overlap_of (length m) m n ≡ None = more (λ e. h (ap (λ (b : Bool). b ∷ apart m n) a ∙ ap (λ (bs : List Bool). false ∷ bs) e)) in
    overlap_low (length m) x y m n
    ∙ ap (λ (o : Option (List Bool)). below (first_digit (digit_matches x false && digit_matches y false) (digit_matches x true && digit_matches y true)) o) none
    ∙ above_apart (first_digit (digit_matches x false && digit_matches y false) (digit_matches x true && digit_matches y true))

-- somewhere apart: no word
pub overlap_apart : (m n : Digits) → length m ≡ length n → (apart m n ≡ replicate (length m) false → ⊥) → overlap_of (length m) m n ≡ None
unfolding both
overlap_apart [] [] l h = absurd (h refl)
overlap_apart [] (y ∷ n) l h = absurd (omega (arith, l))
overlap_apart (x ∷ m) [] l h = absurd (omega (arith, l))
overlap_apart (x ∷ m) (y ∷ n) l h = by_place (apart_at x y) x y m n refl (overlap_apart m n (omega (arith, l))) h

-- ---- as the code goes about it

pub length-both : (f : Bool → Bool → Bool) (xs ys : List Bool) → length xs ≡ length ys → length (both f xs ys) ≡ length xs
unfolding both
length-both f [] ys h = refl
length-both f (x ∷ xs) [] h = absurd (omega (arith, h))
length-both f (x ∷ xs) (y ∷ ys) h = omega (arith, length-both f xs ys (omega (arith, h)))

pub length-fixed : (m : Digits) → length (fixed_of m) ≡ length m
length-fixed [] = refl
length-fixed (x ∷ m) = omega (arith, length-fixed m)

pub length-digits : (m : Digits) → length (digits_of m) ≡ length m
length-digits [] = refl
length-digits (x ∷ m) = omega (arith, length-digits m)

pub apart_length : (m n : Digits) → length m ≡ length n →
    length (both xor_bit (digits_of m) (digits_of n)) ≡ length (both and_bit (fixed_of m) (fixed_of n))
apart_length m n h =
    omega (
      arith,
      h,
      length-digits m,
      length-digits n,
      length-fixed m,
      length-fixed n,
      length-both xor_bit (digits_of m) (digits_of n) (omega (arith, h, length-digits m, length-digits n)),
      length-both and_bit (fixed_of m) (fixed_of n) (omega (arith, h, length-fixed m, length-fixed n)),
    )

-- the two bitvectors of each mask
pub record Words (m n : Digits) (fa fb da db : List Bool) : Type 0 where
  pub same : length m ≡ length n
  pub fixed_a : fa ≡ fixed_of m
  pub fixed_b : fb ≡ fixed_of n
  pub digits_a : da ≡ digits_of m
  pub digits_b : db ≡ digits_of n

pub fixed_same : (m n : Digits) (fa fb da db : List Bool) → Words m n fa fb da db → length fa ≡ length fb
fixed_same m n fa fb da db w = omega (arith, ap length w.fixed_a, ap length w.fixed_b, length-fixed m, length-fixed n, w.same)

pub digits_same : (m n : Digits) (fa fb da db : List Bool) → Words m n fa fb da db → length da ≡ length db
digits_same m n fa fb da db w = omega (arith, ap length w.digits_a, ap length w.digits_b, length-digits m, length-digits n, w.same)

pub apart_same : (m n : Digits) (fa fb da db f x : List Bool) → Words m n fa fb da db → f ≡ both and_bit fa fb →
    x ≡ both xor_bit da db → length x ≡ length f
apart_same m n fa fb da db f x w e g =
    omega (
      arith,
      ap length e,
      ap length g,
      length-both and_bit fa fb (fixed_same m n fa fb da db w),
      length-both xor_bit da db (digits_same m n fa fb da db w),
      ap length w.fixed_a,
      ap length w.digits_a,
      length-fixed m,
      length-digits m,
    )

apart_is : (m n : Digits) (fa fb da db f x p : List Bool) → Words m n fa fb da db → f ≡ both and_bit fa fb → x ≡ both xor_bit da db →
    p ≡ both and_bit x f → p ≡ apart m n
apart_is m n fa fb da db f x p w e g h = rw (h, e, g, w.fixed_a, w.fixed_b, w.digits_a, w.digits_b) refl

pub zeros_same : (p z : List Bool) (k : ℕ) → k ≡ length p → z ≡ replicate k false → length p ≡ length z
zeros_same p z k h e = omega (arith, h, ap length e, length-replicate k false)

zeros_are : (m n : Digits) (fa fb da db f x p z : List Bool) (k : ℕ) → Words m n fa fb da db → f ≡ both and_bit fa fb →
    x ≡ both xor_bit da db → p ≡ both and_bit x f → k ≡ length p →
    z ≡ replicate k false → z ≡ replicate (length m) false
zeros_are m n fa fb da db f x p z k w e g h s t =
    let size : k ≡ length m = omega (
      arith,
      s,
      ap length h,
      length-both and_bit x f (apart_same m n fa fb da db f x w e g),
      ap length g,
      length-both xor_bit da db (digits_same m n fa fb da db w),
      ap length w.digits_a,
      length-digits m,
    ) in
    t ∙ ap (λ (j : ℕ). replicate j false) size

pub overlap_then : (m n : Digits) (fa fb da db f x p z o dc dd : List Bool) (k : ℕ) (b : Bool) → Words m n fa fb da db →
    f ≡ both and_bit fa fb → x ≡ both xor_bit da db → p ≡ both and_bit x f → k ≡ length p →
    z ≡ replicate k false → IsTrue b ↔ (p ≡ z) → b ≡ true → o ≡ both or_bit dc dd → dc ≡ digits_of m → dd ≡ digits_of n → Some o ≡ overlap_of (length m) m n
overlap_then m n fa fb da db f x p z o dc dd k b w e g h s t i y u c d =
    let none : apart m n ≡ replicate (length m) false = sym (apart_is m n fa fb da db f x p w e g h) ∙ i.0 y ∙ zeros_are m n fa fb da db f x p z k w e g h s t in
    let digits : o ≡ both or_bit (digits_of m) (digits_of n) = rw (u, c, d) refl in
    ap Some digits ∙ sym (overlap_some m n w.same none)

pub overlap_else : (m n : Digits) (fa fb da db f x p z : List Bool) (k : ℕ) (b : Bool) → Words m n fa fb da db →
    f ≡ both and_bit fa fb → x ≡ both xor_bit da db → p ≡ both and_bit x f → k ≡ length p →
    z ≡ replicate k false → IsTrue b ↔ (p ≡ z) → b ≡ false → None ≡ overlap_of (length m) m n
overlap_else m n fa fb da db f x p z k b w e g h s t i y =
    sym (overlap_apart m n w.same (λ none.
    let yes : b ≡ true = i.1 (apart_is m n fa fb da db f x p w e g h ∙ none ∙ sym (zeros_are m n fa fb da db f x p z k w e g h s t)) in
    let no : true ≡ false = sym yes ∙ y in cc))
