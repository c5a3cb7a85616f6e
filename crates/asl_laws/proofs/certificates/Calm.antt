-- Texts that are split at bytes, and at the commas outside brackets: those between commas stay in one part.
use Rattle.std.proofs.Common.{◌≡◌, ℕ, suc, ◌-◌, ◌==◌, Bool, true, false, ◌&&◌, ◌||◌, not, List, [], ◌∷◌, ◌++◌, map, drop, refl, sym, ap}
use Rattle.std.proofs.Common.{◌∙◌, subst, append_assoc, arith}
use Rattle.std.specs.Prelude.{if◌then◌else◌, codes}
use Rattle.std.specs.Str.{bytes_eq}
use Rattle.std.specs.List.{list_all, slice_split, onto_first}
use Rattle.std.proofs.lemmas.Bool.Decides.{nat_tests}
use Rattle.asl_grammar.specs.lexemes.Bytes.{is_name_start, is_name_byte}
use Rattle.asl_rules.specs.report.Texts.{Text}
use Rattle.asl_rules.proofs.basics.Tests.{both, and_true, or_first, or_second}
use Rattle.asl_laws.specs.certificates.Texts.{with_commas}
use Rattle.asl_laws.specs.certificates.Format.{begins, byte_first, is_opening, is_closing, level, outer_parts, is_digit, is_number, is_word, is_name}
use Rattle.asl_laws.specs.certificates.Format.{is_star, in_order, is_term_of, is_term, term_in, terms_rise, is_sign, without_minus}
use Rattle.asl_laws.specs.certificates.Format.{is_sum}
use Rattle.asl_laws.proofs.certificates.Lines.{same_nat, nat_same}
use Rattle.asl_laws.proofs.certificates.Spellings.{no_way, begins_is}

-- ---- bytes

-- bytes of numbers, names and sums
unfoldable pub quiet : ℕ → Bool
quiet b = is_digit b || (is_name_byte b || ((b == 42) || ((b == 43) || (b == 45))))

pub quiet_isnt : (c : ℕ) → quiet c ≡ false → (b : ℕ) → quiet b ≡ true → (b == c) ≡ false
quiet_isnt c n b q = by (b == c) refl
  where
    true_is : true ≡ false → ⊥
    true_is h = cc

    by : (x : Bool) → (b == c) ≡ x → x ≡ false
    by true e = absurd (true_is (sym q ∙ (ap quiet (same_nat b c e) ∙ n)))
    by false e = refl

unfoldable pub All : (ℕ → Bool) → Text → Type 0
All p [] = Unit {0}
All p (b ∷ bs) = (p b ≡ true) × All p bs

all_weaker : (p q : ℕ → Bool) → ((b : ℕ) → p b ≡ true → q b ≡ true) → (t : Text) → All p t → All q t
unfolding All
all_weaker p q f [] h = tt
all_weaker p q f (b ∷ t) h = (f b h.0, all_weaker p q f t h.1)

pub all_of : (p : ℕ → Bool) (t : Text) → list_all p t ≡ true → All p t
unfolding All
all_of p [] h = tt
all_of p (b ∷ t) h = let k = both (p b) (list_all p t) h in (k.0, all_of p t k.1)

abbrev pub Quiet : Text → Type 0
Quiet t = All quiet t

digit_quiet : (b : ℕ) → is_digit b ≡ true → quiet b ≡ true
unfolding quiet
digit_quiet b h = or_first (is_digit b) _ h

name_quiet : (b : ℕ) → is_name_byte b ≡ true → quiet b ≡ true
unfolding quiet
name_quiet b h = or_second (is_digit b) _ (or_first (is_name_byte b) _ h)

pub number_quiet : (t : Text) → is_number t ≡ true → Quiet t
unfolding All
number_quiet [] h = no_way h
number_quiet (b ∷ []) h = (digit_quiet b h, tt)
number_quiet (b ∷ c ∷ bs) h = let k = both (not (b == 48)) (list_all is_digit (b ∷ c ∷ bs)) h in
    all_weaker is_digit quiet digit_quiet (b ∷ c ∷ bs) (all_of is_digit (b ∷ c ∷ bs) k.1)

pub names_quiet : (t : Text) → is_name t ≡ true → Quiet t
unfolding All
names_quiet [] h = no_way h
names_quiet (b ∷ bs) h =
    let a = both (is_name_start b) (list_all is_name_byte bs && not (is_word (b ∷ bs))) h in
    let c = both (list_all is_name_byte bs) (not (is_word (b ∷ bs))) a.1 in
    (name_quiet b (or_first (is_name_start b) _ a.0), all_weaker is_name_byte quiet name_quiet bs (all_of is_name_byte bs c.0))

-- ---- split texts

unfoldable pub Parts : (Text → Type 0) → List Text → Type 0
Parts P [] = Unit {0}
Parts P (t ∷ ts) = P t × Parts P ts

parts_of : (p : Text → Bool) (P : Text → Type 0) → ((t : Text) → p t ≡ true → P t) → (ts : List Text) → list_all p ts ≡ true → Parts P ts
unfolding Parts
parts_of p P f [] h = tt
parts_of p P f (t ∷ ts) h = let k = both (p t) (list_all p ts) h in (f t k.0, parts_of p P f ts k.1)

onto_quiet : (x : ℕ) (ps : List Text) → Parts Quiet (onto_first x ps) → (quiet x ≡ true) × Parts Quiet ps
unfolding Parts All
onto_quiet x [] h = (h.0.0, tt)
onto_quiet x (t ∷ ts) h = (h.0.0, (h.0.1, h.1))

split_quiet : (p : ℕ → Bool) → ((b : ℕ) → p b ≡ true → quiet b ≡ true) → (t : Text) → Parts Quiet (slice_split p t) → Quiet t
unfolding Parts All
split_quiet p f [] h = tt
split_quiet p f (x ∷ xs) h = by (p x) refl (split_quiet p f xs) h
  where
    by : (b : Bool) → p x ≡ b → (Parts Quiet (slice_split p xs) → Quiet xs) →
        Parts Quiet (if b then [] ∷ slice_split p xs else onto_first x (slice_split p xs)) → Quiet (x ∷ xs)
    by true e again k = (f x e, again k.1)
    by false e again k = let q = onto_quiet x (slice_split p xs) k in (q.0, again q.1)

star_quiet : (b : ℕ) → is_star b ≡ true → quiet b ≡ true
unfolding quiet
star_quiet b h = or_second (is_digit b) _ (or_second (is_name_byte b) _ (or_first (b == 42) _ h))

sign_quiet : (b : ℕ) → is_sign b ≡ true → quiet b ≡ true
unfolding quiet
sign_quiet b h = or_second (is_digit b) _ (or_second (is_name_byte b) _ (or_second (b == 42) _ h))

term_by : (ps : List Text) → is_term_of ps ≡ true → Parts Quiet ps
unfolding Parts
term_by [] h = no_way h
term_by (c ∷ ns) h =
    let a = both (is_number c) (not (bytes_eq c (codes "0")) && (list_all is_name ns && in_order ns)) h in
    let b = both (not (bytes_eq c (codes "0"))) (list_all is_name ns && in_order ns) a.1 in
    let d = both (list_all is_name ns) (in_order ns) b.1 in
    (number_quiet c a.0, parts_of is_name Quiet names_quiet ns d.0)

term_quiet : (t : Text) → is_term t ≡ true → Quiet t
term_quiet t h = split_quiet is_star star_quiet t (term_by (slice_split is_star t) h)

minus_quiet : (t : Text) (x : Bool) → begins (codes "-") t ≡ x → Quiet (if x then drop 1 t else t) → Quiet t
unfolding All quiet
minus_quiet t true e h = subst Quiet (sym (begins_is (codes "-") t e)) (refl, h)
minus_quiet t false e h = h

pub sum_quiet : (t : Text) → is_sum t ≡ true → Quiet t
sum_quiet t h =
    let a = both (list_all is_term (slice_split is_sign (without_minus t)))
    (terms_rise (map term_in (slice_split is_sign (without_minus t)))) h in
    minus_quiet t (begins (codes "-") t) refl
    (split_quiet is_sign sign_quiet (without_minus t) (parts_of is_term Quiet term_quiet (slice_split is_sign (without_minus t)) a.0))

-- ---- texts without a byte

unfoldable pub Free : ℕ → Text → Type 0
Free c [] = Unit {0}
Free c (b ∷ bs) = ((b == c) ≡ false) × Free c bs

pub free_append : (c : ℕ) (s t : Text) → Free c s → Free c t → Free c (s ++ t)
unfolding Free
free_append c [] t h k = k
free_append c (b ∷ s) t h k = (h.0, free_append c s t h.1 k)

pub quiet_free : (c : ℕ) → quiet c ≡ false → (t : Text) → Quiet t → Free c t
unfolding Free All
quiet_free c n [] h = tt
quiet_free c n (b ∷ t) h = (quiet_isnt c n b h.0, quiet_free c n t h.1)

pub free_by : (c : ℕ) (t : Text) → list_all (λ b. not (b == c)) t ≡ true → Free c t
unfolding Free
free_by c [] h = tt
free_by c (b ∷ t) h = let k = both (not (b == c)) (list_all (λ b. not (b == c)) t) h in (not_false (b == c) k.0, free_by c t k.1)
  where
    not_false : (x : Bool) → not x ≡ true → x ≡ false
    not_false true h = no_way h
    not_false false h = refl

pub split_at : (c : ℕ) (a rest : Text) → Free c a → slice_split (λ b. b == c) (a ++ (c ∷ rest)) ≡ a ∷ slice_split (λ b. b == c) rest
unfolding Free
split_at c [] rest f = ap (λ x. if x then [] ∷ slice_split (λ b. b == c) rest else onto_first c (slice_split (λ b. b == c) rest))
    (nat_same c)
split_at c (b ∷ a) rest f =
    ap (λ x. if x then [] ∷ slice_split (λ b. b == c) (a ++ (c ∷ rest)) else onto_first b (slice_split (λ b. b == c) (a ++ (c ∷ rest)))) f.0
    ∙ ap (onto_first b) (split_at c a rest f.1)

pub split_none : (c : ℕ) (a : Text) → Free c a → slice_split (λ b. b == c) a ≡ a ∷ []
unfolding Free
split_none c [] f = refl
split_none c (b ∷ a) f = ap (λ x. if x then [] ∷ slice_split (λ b. b == c) a else onto_first b (slice_split (λ b. b == c) a)) f.0
    ∙ ap (onto_first b) (split_none c a f.1)

-- ---- brackets and commas

unfoldable pub bytes_first : Text → List Text → List Text
bytes_first [] ts = ts
bytes_first (b ∷ bs) ts = byte_first b (bytes_first bs ts)

bytes_first_append : (s t : Text) (ts : List Text) → bytes_first (s ++ t) ts ≡ bytes_first s (bytes_first t ts)
unfolding bytes_first
bytes_first_append [] t ts = refl
bytes_first_append (b ∷ s) t ts = ap (byte_first b) (bytes_first_append s t ts)

bytes_first_alone : (t : Text) (u : Text) (ts : List Text) → bytes_first t (u ∷ ts) ≡ (t ++ u) ∷ ts
unfolding bytes_first
bytes_first_alone [] u ts = refl
bytes_first_alone (b ∷ t) u ts = ap (byte_first b) (bytes_first_alone t u ts)

-- a text that begins with so many brackets open and ends with so many, and is in one part
unfoldable pub Calm : ℕ → Text → ℕ → Type 0
Calm m t n = (rest : Text) → outer_parts m (t ++ rest) ≡ bytes_first t (outer_parts n rest)

pub calm_append : (m n k : ℕ) (s t : Text) → Calm m s n → Calm n t k → Calm m (s ++ t) k
unfolding Calm
calm_append m n k s t p q rest =
    ap (outer_parts m) (append_assoc s t rest)
    ∙ (p (t ++ rest) ∙ (ap (bytes_first s) (q rest) ∙ sym (bytes_first_append s t (outer_parts k rest))))

unfoldable pub still : ℕ → Bool
still b = not (b == 44) && (not (is_opening b) && not (is_closing b))

pub not_false : (x : Bool) → not x ≡ true → x ≡ false
not_false true h = no_way h
not_false false h = refl

pub calm_still : (n : ℕ) (t : Text) → All still t → Calm n t n
unfolding All still Calm bytes_first
calm_still n [] h rest = refl
calm_still n (b ∷ t) h rest =
    let a = both (not (b == 44)) (not (is_opening b) && not (is_closing b)) h.0 in
    let c = both (not (is_opening b)) (not (is_closing b)) a.1 in
    ap (λ x. if x && (n == 0) then [] ∷ outer_parts n (t ++ rest) else byte_first b (outer_parts (level n b) (t ++ rest)))
    (not_false (b == 44) a.0) ∙
    (ap (λ x. byte_first b (outer_parts (if x then suc n else (if is_closing b then n - 1 else n)) (t ++ rest)))
    (not_false (is_opening b) c.0) ∙
    (ap (λ x. byte_first b (outer_parts (if x then n - 1 else n) (t ++ rest))) (not_false (is_closing b) c.1)
    ∙ ap (byte_first b) (calm_still n t h.1 rest)))

pub and_all : (a b c : Bool) → a ≡ true → b ≡ true → c ≡ true → (a && (b && c)) ≡ true
and_all a b c h k l = and_true a (b && c) h (and_true b c k l)

is_not : (x : Bool) → x ≡ false → not x ≡ true
is_not true h = sym h
is_not false h = refl

or_false : (a b : Bool) → a ≡ false → b ≡ false → (a || b) ≡ false
or_false true b h k = h
or_false false b h k = k

pub quiet_still : (b : ℕ) → quiet b ≡ true → still b ≡ true
unfolding still quiet
quiet_still b q =
    and_all (not (b == 44)) (not (is_opening b)) (not (is_closing b)) (is_not (b == 44) (quiet_isnt 44 refl b q))
    (is_not (is_opening b) (or_false (b == 40) _ (quiet_isnt 40 refl b q)
    (or_false (b == 91) (b == 123) (quiet_isnt 91 refl b q) (quiet_isnt 123 refl b q))))
    (is_not (is_closing b) (or_false (b == 41) _ (quiet_isnt 41 refl b q)
    (or_false (b == 93) (b == 125) (quiet_isnt 93 refl b q) (quiet_isnt 125 refl b q))))

pub quiet_calm : (n : ℕ) (t : Text) → Quiet t → Calm n t n
quiet_calm n t h = calm_still n t (all_weaker quiet still quiet_still t h)

pub suc_less : (n : ℕ) → suc n - 1 ≡ n
suc_less n = omega arith

suc_isnt : (n : ℕ) → (suc n == 0) ≡ false
suc_isnt n = grind (arith, nat_tests)

-- inside brackets a comma doesn't part
calm_comma : (n : ℕ) → Calm (suc n) (codes ",") (suc n)
unfolding Calm bytes_first
calm_comma n rest = ap (λ x. if x then [] ∷ outer_parts (suc n) rest else byte_first 44 (outer_parts (suc n) rest)) (suc_isnt n)

pub calm_commas : (n : ℕ) (ts : List Text) → Parts (λ t. (k : ℕ) → Calm k t k) ts → Calm (suc n) (with_commas ts) (suc n)
unfolding Parts Calm bytes_first
calm_commas n [] h = λ rest. refl
calm_commas n (t ∷ []) h = h.0 (suc n)
calm_commas n (t ∷ u ∷ ts) h = calm_append (suc n) (suc n) (suc n) t (codes "," ++ with_commas (u ∷ ts)) (h.0 (suc n))
    (calm_append (suc n) (suc n) (suc n) (codes ",") (with_commas (u ∷ ts)) (calm_comma n) (calm_commas n (u ∷ ts) h.1))

pub append_none : (t : Text) → t ++ [] ≡ t
append_none [] = refl
append_none (b ∷ t) = ap (λ z. b ∷ z) (append_none t)

-- outside of them it parts
pub parted : (t : Text) (ts : List Text) → Parts (λ t. (k : ℕ) → Calm k t k) (t ∷ ts) → outer_parts 0 (with_commas (t ∷ ts)) ≡ t ∷ ts
unfolding Parts Calm bytes_first
parted t [] h = ap (outer_parts 0) (sym (append_none t)) ∙ (h.0 0 [] ∙ (bytes_first_alone t [] [] ∙ ap (λ z. z ∷ []) (append_none t)))
parted t (u ∷ ts) h =
    h.0 0 (codes "," ++ with_commas (u ∷ ts))
    ∙ (bytes_first_alone t [] (outer_parts 0 (with_commas (u ∷ ts)))
    ∙ (ap (λ z. z ∷ outer_parts 0 (with_commas (u ∷ ts))) (append_none t) ∙ ap (λ z. t ∷ z) (parted u ts h.1)))
