-- The least word that no mask matches, digit by digit from the top.
use Rattle.std.proofs.Common.{◌≡◌, ℕ, zero, suc, ◌+◌, ◌<◌, ◌≤◌, List, [], ◌∷◌, length, take, get_or, Bool, true, false, cond, replicate, refl, sym, ◌∙◌, ap, arith}
use Rattle.std.specs.Prelude.{Option, Some, None, ◌&&◌, ◌||◌, not, option_map, is_none}
use Rattle.std.proofs.lemmas.List.{length-append, replicate_more}
use Rattle.std.proofs.Math.Bool.{and_assoc}
use Rattle.asl_mask.specs.Digits.{mask_matches, digit_matches}
use Rattle.asl_mask.specs.Least.{or_else, on_top, least}
use Rattle.asl_mask.specs.Covers.{Digits, some_match, least_free, allows, allowing, is_free_at, is_free, one_is_free, all_free_at}

length-on_top : (b : Bool) (v : List Bool) (w : ℕ) → length v ≡ w → length (on_top b v) ≡ suc w
length-on_top b v w h = omega (arith, length-append v (b ∷ []), h)

-- ---- `least`

pub least_cong : (w : ℕ) (p q : List Bool → Bool) → ((v : List Bool) → length v ≡ w → p v ≡ q v) → least w p ≡ least w q
unfolding least
least_cong zero p q h = rw (h [] refl) refl
least_cong (suc w) p q h =
    let low : least w (λ v. p (on_top false v)) ≡ least w (λ v. q (on_top false v)) = least_cong w (λ v. p (on_top false v)) (λ v. q (on_top false v)) (λ v l. h (on_top false v) (length-on_top false v w l)) in
    let high : least w (λ v. p (on_top true v)) ≡ least w (λ v. q (on_top true v)) = least_cong w (λ v. p (on_top true v)) (λ v. q (on_top true v)) (λ v l. h (on_top true v) (length-on_top true v w l)) in
    ap (λ (o : Option (List Bool)). or_else (option_map (on_top false) o) (option_map (on_top true) (least w (λ v. p (on_top true v))))) low
    ∙ ap (λ (o : Option (List Bool)). or_else (option_map (on_top false) (least w (λ v. q (on_top false v)))) (option_map (on_top true) o)) high

snoc : (w : ℕ) → on_top false (replicate w false) ≡ replicate (suc w) false
snoc w = replicate_more w false ∙ ap (λ (n : ℕ). replicate n false) (let e : w + 1 ≡ suc w = omega arith in e)

pub least_all : (w : ℕ) → least w (λ v. true) ≡ Some (replicate w false)
unfolding least
least_all zero = refl
least_all (suc w) =
    ap (λ (o : Option (List Bool)). or_else (option_map (on_top false) o) (option_map (on_top true) o)) (least_all w)
    ∙ ap Some (snoc w)

-- ---- masks

and_true : (b : Bool) → (b && true) ≡ b
and_true true = refl
and_true false = refl

-- the highest digit of a word by itself
match_top : (w : ℕ) (m : Digits) (v : List Bool) (b : Bool) → length v ≡ w → w < length m →
    mask_matches (take (suc w) m) (on_top b v) ≡ (mask_matches (take w m) v && digit_matches (get_or m w None) b)
unfolding mask_matches
match_top w [] v b h k = absurd (omega arith)
match_top zero (m ∷ ms) [] b h k = and_true (digit_matches m b)
match_top zero (m ∷ ms) (x ∷ v) b h k = absurd (omega arith)
match_top (suc w) (m ∷ ms) [] b h k = absurd (omega arith)
match_top (suc w) (m ∷ ms) (x ∷ v) b h k =
    ap (λ (c : Bool). digit_matches m x && c) (match_top w ms v b (omega arith) (omega arith))
    ∙ sym (and_assoc (digit_matches m x) (mask_matches (take w ms) v) (digit_matches (get_or ms w None) b))

-- masks that all have at least so many digits
unfoldable pub AreLong : ℕ → List Digits → Type 0
AreLong w [] = Unit {0}
AreLong w (m ∷ ms) = (w ≤ length m) × AreLong w ms

one_more_match : (a d r : Bool) (b : Bool) → ((a && d) || r) ≡ cond d (a || r) r
one_more_match true true r b = refl
one_more_match true false r b = refl
one_more_match false true r b = refl
one_more_match false false r b = refl

some_match_if : (w : ℕ) (d : Bool) (m : Digits) (ms : List Digits) (v : List Bool) →
    some_match w (cond d (m ∷ ms) ms) v ≡ cond d (mask_matches (take w m) v || some_match w ms v) (some_match w ms v)
some_match_if w true m ms v = refl
some_match_if w false m ms v = refl

pub some_match_top : (w : ℕ) (ms : List Digits) (v : List Bool) (b : Bool) → length v ≡ w → AreLong (suc w) ms →
    some_match (suc w) ms (on_top b v) ≡ some_match w (allowing w b ms) v
unfolding AreLong
some_match_top w [] v b h l = refl
some_match_top w (m ∷ ms) v b h l =
    ap (λ (c : Bool). c || some_match (suc w) ms (on_top b v)) (match_top w m v b h (omega (arith, l.0)))
    ∙ ap (λ (r : Bool). (mask_matches (take w m) v && allows w b m) || r) (some_match_top w ms v b h l.1)
    ∙ one_more_match (mask_matches (take w m) v) (allows w b m) (some_match w (allowing w b ms) v) b
    ∙ sym (some_match_if w (allows w b m) m (allowing w b ms) v)

-- the least free word by its highest digit
pub least_free_top : (w : ℕ) (ms : List Digits) → AreLong (suc w) ms →
    least_free (suc w) ms ≡ or_else (option_map (on_top false) (least_free w (allowing w false ms))) (option_map (on_top true) (least_free w (allowing w true ms)))
unfolding least
least_free_top w ms l =
    let low : least w (λ v. not (some_match (suc w) ms (on_top false v))) ≡ least_free w (allowing w false ms) =
    least_cong w (λ v. not (some_match (suc w) ms (on_top false v))) (λ v. not (some_match w (allowing w false ms) v)) (λ v h. ap not (some_match_top w ms v false h l)) in
    let high : least w (λ v. not (some_match (suc w) ms (on_top true v))) ≡ least_free w (allowing w true ms) =
    least_cong w (λ v. not (some_match (suc w) ms (on_top true v))) (λ v. not (some_match w (allowing w true ms) v)) (λ v h. ap not (some_match_top w ms v true h l)) in
    ap (λ (o : Option (List Bool)). or_else (option_map (on_top false) o) (option_map (on_top true) (least w (λ v. not (some_match (suc w) ms (on_top true v)))))) low
    ∙ ap (λ (o : Option (List Bool)). or_else (option_map (on_top false) (least_free w (allowing w false ms))) (option_map (on_top true) o)) high

-- no mask: the least word of all
pub least_free_none : (w : ℕ) → least_free w [] ≡ Some (replicate w false)
least_free_none w = least_all w

-- ---- places where all masks are free

or_else_same : (o : Option (List Bool)) → or_else (option_map (on_top false) o) (option_map (on_top true) o) ≡ option_map (on_top false) o
or_else_same None = refl
or_else_same (Some v) = refl

pub free_allows : (o : Option Bool) (b : Bool) → is_none o ≡ true → digit_matches o b ≡ true
free_allows None b h = refl
free_allows (Some d) b h = absurd cc

and_left : (a b : Bool) → (a && b) ≡ true → a ≡ true
and_left true b h = refl
and_left false b h = absurd cc

and_right : (a b : Bool) → (a && b) ≡ true → b ≡ true
and_right true b h = h
and_right false b h = absurd cc

pub allowing_all : (w : ℕ) (b : Bool) (ms : List Digits) → all_free_at w ms ≡ true → allowing w b ms ≡ ms
allowing_all w b [] h = refl
allowing_all w b (m ∷ ms) h =
    let here : allows w b m ≡ true = free_allows (get_or m w None) b (and_left (is_free_at w m) (all_free_at w ms) h) in
    let rest : allowing w b ms ≡ ms = allowing_all w b ms (and_right (is_free_at w m) (all_free_at w ms) h) in
    ap (λ (c : Bool). cond c (m ∷ allowing w b ms) (allowing w b ms)) here ∙ ap (λ (xs : List Digits). m ∷ xs) rest

pub least_free_skip : (w : ℕ) (ms : List Digits) → AreLong (suc w) ms → all_free_at w ms ≡ true →
    least_free (suc w) ms ≡ option_map (on_top false) (least_free w ms)
least_free_skip w ms l h =
    least_free_top w ms l
    ∙ ap (λ (xs : List Digits). or_else (option_map (on_top false) (least_free w xs)) (option_map (on_top true) (least_free w (allowing w true ms)))) (allowing_all w false ms h)
    ∙ ap (λ (xs : List Digits). or_else (option_map (on_top false) (least_free w ms)) (option_map (on_top true) (least_free w xs))) (allowing_all w true ms h)
    ∙ or_else_same (least_free w ms)

-- ---- a mask without fixed digits

long_less : (w : ℕ) (ms : List Digits) → AreLong (suc w) ms → AreLong w ms
unfolding AreLong
long_less w [] l = tt
long_less w (m ∷ ms) l = (omega (arith, l.0), long_less w ms l.1)

long_if : (w : ℕ) (c : Bool) (m : Digits) (ms : List Digits) → w ≤ length m → AreLong w ms → AreLong w (cond c (m ∷ ms) ms)
unfolding AreLong
long_if w true m ms h l = (h, l)
long_if w false m ms h l = l

pub allowing_long : (w n : ℕ) (b : Bool) (ms : List Digits) → AreLong w ms → AreLong w (allowing n b ms)
unfolding AreLong
allowing_long w n b [] l = tt
allowing_long w n b (m ∷ ms) l = long_if w (allows n b m) m (allowing n b ms) l.0 (allowing_long w n b ms l.1)

or_right : (a : Bool) → (a || true) ≡ true
or_right true = refl
or_right false = refl

one_free_if : (w : ℕ) (c : Bool) (m : Digits) (ms : List Digits) → one_is_free w ms ≡ true → one_is_free w (cond c (m ∷ ms) ms) ≡ true
one_free_if w true m ms h = ap (λ (b : Bool). is_free w m || b) h ∙ or_right (is_free w m)
one_free_if w false m ms h = h

free_first : (w : ℕ) (c : Bool) (m : Digits) (ms : List Digits) → c ≡ true → is_free w m ≡ true → one_is_free w (cond c (m ∷ ms) ms) ≡ true
free_first w true m ms h k = ap (λ (b : Bool). b || one_is_free w ms) k
free_first w false m ms h k = absurd cc

free_cases : (w : ℕ) (b f : Bool) (m : Digits) (ms : List Digits) → f ≡ is_free (suc w) m →
    (one_is_free (suc w) ms ≡ true → one_is_free w (allowing w b ms) ≡ true) →
    (f || one_is_free (suc w) ms) ≡ true → one_is_free w (allowing w b (m ∷ ms)) ≡ true
free_cases w b true m ms e more h =
    let both : (is_free_at w m && is_free w m) ≡ true = sym e in
    free_first w (allows w b m) m (allowing w b ms) (free_allows (get_or m w None) b (and_left (is_free_at w m) (is_free w m) both)) (and_right (is_free_at w m) (is_free w m) both)
free_cases w b false m ms e more h = one_free_if w (allows w b m) m (allowing w b ms) (more h)

pub free_stays : (w : ℕ) (b : Bool) (ms : List Digits) → one_is_free (suc w) ms ≡ true → one_is_free w (allowing w b ms) ≡ true
free_stays w b [] h = absurd cc
free_stays w b (m ∷ ms) h = free_cases w b (is_free (suc w) m) m ms refl (free_stays w b ms) h

pub least_free_total : (w : ℕ) (ms : List Digits) → AreLong w ms → one_is_free w ms ≡ true → least_free w ms ≡ None
unfolding least mask_matches
least_free_total zero [] l h = absurd cc
least_free_total zero (m ∷ ms) l h = refl
least_free_total (suc w) ms l h =
    least_free_top w ms l
    ∙ ap (λ (o : Option (List Bool)). or_else (option_map (on_top false) o) (option_map (on_top true) (least_free w (allowing w true ms))))
    (least_free_total w (allowing w false ms) (allowing_long w w false ms (long_less w ms l)) (free_stays w false ms h))
    ∙ ap (λ (o : Option (List Bool)). or_else None (option_map (on_top true) o))
    (least_free_total w (allowing w true ms) (allowing_long w w true ms (long_less w ms l)) (free_stays w true ms h))
