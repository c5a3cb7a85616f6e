-- Widths are recognised exactly where they are put together from terms.
use Rattle.std.proofs.Common.{◌≡◌, ◌⊎◌, inl, inr, length, ℕ, ◌==◌, Bool, true, false, ◌&&◌, ◌||◌, not, List, [], ◌∷◌, ◌++◌, map, drop, refl, sym, ap}
use Rattle.std.proofs.Common.{◌∙◌, subst, append_assoc}
use Rattle.std.specs.Prelude.{if◌then◌else◌, codes}
use Rattle.std.specs.Str.{bytes_eq}
use Rattle.std.specs.List.{list_all, slice_split, onto_first, join_with_byte}
use Rattle.std.proofs.lemmas.Slice.Eq.{bytes_eq-Decides}
use Rattle.std.proofs.Math.Seq.{drop-append_seam}
use Rattle.asl_grammar.specs.lexemes.Bytes.{is_name_start, is_name_byte}
use Rattle.asl_rules.specs.report.Texts.{Text}
use Rattle.asl_rules.proofs.basics.Tests.{both, and_true, or_first, or_second}
use Rattle.asl_laws.specs.certificates.Texts.{factors_text}
use Rattle.asl_laws.specs.certificates.Format.{begins, is_digit, is_number, is_word, is_name, is_star, in_order, is_term_of, is_term, term_in}
use Rattle.asl_laws.specs.certificates.Format.{terms_rise, is_sign, are_terms, without_minus, before_close}
use Rattle.asl_laws.specs.certificates.Format.{is_sum, is_denominator, is_quotient}
use Rattle.asl_laws.specs.certificates.Spellings.{IsName, IsWidth, Each, TermSpelled, signed, terms_in, TermsSpelled, QuotientSpelled, WidthSpelled}
use Rattle.asl_laws.specs.certificates.Spellings.{WidthLaw}
use Rattle.asl_laws.proofs.certificates.Lines.{same_nat}
use Rattle.asl_laws.proofs.certificates.Spellings.{no_way, either_is, begins_is, rejoined}
use Rattle.asl_laws.proofs.certificates.Calm.{sum_quiet}
use Rattle.asl_laws.proofs.certificates.Steady.{Quotient, quotient_parts, close_past, begins_so}

append_none : (t : Text) → t ++ [] ≡ t
append_none [] = refl
append_none (b ∷ t) = ap (λ z. b ∷ z) (append_none t)

true_false : {A : Type 0} (x : Bool) → x ≡ true → x ≡ false → A
true_false x h k = absurd (true_is (sym h ∙ k))
  where
    true_is : true ≡ false → ⊥
    true_is h = cc

not_so : (x : Bool) → not x ≡ true → x ≡ false
not_so true h = no_way h
not_so false h = refl

is_not : (x : Bool) → x ≡ false → not x ≡ true
is_not true h = sym h
is_not false h = refl

each_of : (p : Text → Bool) (P : Text → Type 0) → ((t : Text) → p t ≡ true → P t) → (ts : List Text) → list_all p ts ≡ true → Each P ts
each_of p P f [] h = tt
each_of p P f (t ∷ ts) h = let k = both (p t) (list_all p ts) h in (f t k.0, each_of p P f ts k.1)

all_so : (p : Text → Bool) (P : Text → Type 0) → ((t : Text) → P t → p t ≡ true) → (ts : List Text) → Each P ts → list_all p ts ≡ true
all_so p P f [] h = refl
all_so p P f (t ∷ ts) h = and_true (p t) (list_all p ts) (f t h.0) (all_so p P f ts h.1)

-- ---- what is recognised is put together so

factors_joined : (c : Text) (ns : List Text) → join_with_byte 42 (c ∷ ns) ≡ c ++ factors_text ns
factors_joined c [] = sym (append_none c)
factors_joined c (n ∷ ns) = ap (λ z. c ++ (42 ∷ z)) (factors_joined n ns)

term_by : (t : Text) (ps : List Text) → join_with_byte 42 ps ≡ t → is_term_of ps ≡ true → TermSpelled t
term_by t [] e h = no_way h
term_by t (c ∷ ns) e h =
    let a = both (is_number c) (not (bytes_eq c (codes "0")) && (list_all is_name ns && in_order ns)) h in
    let b = both (not (bytes_eq c (codes "0"))) (list_all is_name ns && in_order ns) a.1 in
    let d = both (list_all is_name ns) (in_order ns) b.1 in
    record {
      coefficient = c;
      names = ns;
      is = sym e ∙ factors_joined c ns;
      coefficient_is = a.0;
      above_0 = λ z. true_false (bytes_eq c (codes "0")) ((bytes_eq-Decides c (codes "0")).1 z) (not_so (bytes_eq c (codes "0")) b.0);
      names_are = each_of is_name IsName (λ t k. k) ns d.0;
      sorted = d.1;
    }

term_spelled : (t : Text) → is_term t ≡ true → TermSpelled t
term_spelled t h = term_by t (slice_split is_star t) (rejoined 42 t) h

-- a text as it is split at signs
record Signs (t : Text) : Type 0 where
  first : Text
  more : List (Bool × Text)
  is : t ≡ first ++ signed more
  parts : slice_split is_sign t ≡ first ∷ terms_in more

signs_of : (t : Text) → Signs t
signs_of [] = record { first = []; more = []; is = refl; parts = refl }
signs_of (b ∷ t) = by (b == 43) (b == 45) refl refl (signs_of t)
  where
    by : (p m : Bool) → (b == 43) ≡ p → (b == 45) ≡ m → Signs t → Signs (b ∷ t)
    by true m h k r = record {
      first = [];
      more = (false, r.first) ∷ r.more;
      is = ap (λ z. z ∷ t) (same_nat b 43 h) ∙ ap (λ z. 43 ∷ z) r.is;
      parts = ap (λ x. if x || (b == 45) then [] ∷ slice_split is_sign t else onto_first b (slice_split is_sign t)) h
          ∙ ap (λ z. [] ∷ z) r.parts;
    }
    by false true h k r = record {
      first = [];
      more = (true, r.first) ∷ r.more;
      is = ap (λ z. z ∷ t) (same_nat b 45 k) ∙ ap (λ z. 45 ∷ z) r.is;
      parts = ap (λ x. if x || (b == 45) then [] ∷ slice_split is_sign t else onto_first b (slice_split is_sign t)) h ∙
          (ap (λ x. if x then [] ∷ slice_split is_sign t else onto_first b (slice_split is_sign t)) k ∙ ap (λ z. [] ∷ z) r.parts);
    }
    by false false h k r = record {
      first = b ∷ r.first;
      more = r.more;
      is = ap (λ z. b ∷ z) r.is;
      parts = ap (λ x. if x || (b == 45) then [] ∷ slice_split is_sign t else onto_first b (slice_split is_sign t)) h ∙
          (ap (λ x. if x then [] ∷ slice_split is_sign t else onto_first b (slice_split is_sign t)) k ∙ ap (onto_first b) r.parts);
    }

terms_by : (t u : Text) (minus : Bool) → t ≡ (if minus then codes "-" else []) ++ u → are_terms (slice_split is_sign u) ≡ true →
    TermsSpelled t
terms_by t u minus e h =
    let s = signs_of u in
    let a = both (list_all is_term (slice_split is_sign u)) (terms_rise (map term_in (slice_split is_sign u))) h in
    record {
      minus = minus;
      first = s.first;
      more = s.more;
      is = e ∙ ap (λ z. (if minus then codes "-" else []) ++ z) s.is;
      terms_are = each_of is_term TermSpelled term_spelled (s.first ∷ terms_in s.more) (ap (list_all is_term) (sym s.parts) ∙ a.0);
      rise = ap (λ z. terms_rise (map term_in z)) (sym s.parts) ∙ a.1;
    }

minus_by : (t : Text) (x : Bool) → begins (codes "-") t ≡ x → are_terms (slice_split is_sign (if x then drop 1 t else t)) ≡ true →
    TermsSpelled t
minus_by t true e h = terms_by t (drop 1 t) true (begins_is (codes "-") t e) h
minus_by t false e h = terms_by t t false refl h

sum_spelled : (t : Text) → is_sum t ≡ true → TermsSpelled t
sum_spelled t h = minus_by t (begins (codes "-") t) refl h

-- a denominator above 1
denominator_above : (n : Text) → is_denominator n ≡ true → ((n ≡ codes "0") ⊎ (n ≡ codes "1")) → ⊥
denominator_above n h z =
    let b = both (is_number n) (not (bytes_eq n (codes "0") || bytes_eq n (codes "1"))) h in
    true_false (bytes_eq n (codes "0") || bytes_eq n (codes "1")) (one_of z) (not_so (bytes_eq n (codes "0") || bytes_eq n (codes "1")) b.1)
  where
    one_of : ((n ≡ codes "0") ⊎ (n ≡ codes "1")) → (bytes_eq n (codes "0") || bytes_eq n (codes "1")) ≡ true
    one_of (inl e) = or_first (bytes_eq n (codes "0")) _ ((bytes_eq-Decides n (codes "0")).1 e)
    one_of (inr e) = or_second (bytes_eq n (codes "0")) _ ((bytes_eq-Decides n (codes "1")).1 e)

quotient_spelled : (t : Text) → Quotient t → QuotientSpelled t
quotient_spelled t r = record {
  terms = r.terms;
  denominator = r.denominator;
  is = r.is;
  terms_are = sum_spelled r.terms r.terms_are;
  denominator_is =
      (both (is_number r.denominator) (not (bytes_eq r.denominator (codes "0") || bytes_eq r.denominator (codes "1"))) r.denominator_is).0;
  above_1 = denominator_above r.denominator r.denominator_is;
}

width_spelled : (t : Text) → IsWidth t → WidthSpelled t
width_spelled t h = either_is (bytes_eq t (codes "0")) _ h (λ k. inl ((bytes_eq-Decides t (codes "0")).0 k))
    (λ k. inr (either_is (is_sum t) _ k (λ s. inl (sum_spelled t s)) (λ q. inr (quotient_spelled t (quotient_parts t q)))))

-- ---- and what is put together so is recognised

All : (ℕ → Bool) → Text → Type 0
All p [] = Unit {0}
All p (b ∷ bs) = (p b ≡ true) × All p bs

all_append : (p : ℕ → Bool) (s t : Text) → All p s → All p t → All p (s ++ t)
unfolding All
all_append p [] t h k = k
all_append p (b ∷ s) t h k = (h.0, all_append p s t h.1 k)

all_of : (p : ℕ → Bool) (t : Text) → list_all p t ≡ true → All p t
unfolding All
all_of p [] h = tt
all_of p (b ∷ t) h = let k = both (p b) (list_all p t) h in (k.0, all_of p t k.1)

all_weaker : (p q : ℕ → Bool) → ((b : ℕ) → p b ≡ true → q b ≡ true) → (t : Text) → All p t → All q t
unfolding All
all_weaker p q f [] h = tt
all_weaker p q f (b ∷ t) h = (f b h.0, all_weaker p q f t h.1)

number_digits : (t : Text) → is_number t ≡ true → All is_digit t
unfolding All
number_digits [] h = no_way h
number_digits (b ∷ []) h = (h, tt)
number_digits (b ∷ c ∷ bs) h = let k = both (not (b == 48)) (list_all is_digit (b ∷ c ∷ bs)) h in all_of is_digit (b ∷ c ∷ bs) k.1

name_bytes : (t : Text) → is_name t ≡ true → All is_name_byte t
unfolding All
name_bytes [] h = no_way h
name_bytes (b ∷ bs) h =
    let a = both (is_name_start b) (list_all is_name_byte bs && not (is_word (b ∷ bs))) h in
    let c = both (list_all is_name_byte bs) (not (is_word (b ∷ bs))) a.1 in
    (or_first (is_name_start b) _ a.0, all_of is_name_byte bs c.0)

-- a byte of a class that another isn't of
isnt : (p : ℕ → Bool) (c : ℕ) → p c ≡ false → (b : ℕ) → p b ≡ true → (b == c) ≡ false
isnt p c n b h = by (b == c) refl
  where
    by : (x : Bool) → (b == c) ≡ x → x ≡ false
    by true e = true_false (p c) (sym (ap p (same_nat b c e)) ∙ h) n
    by false e = refl

split_at : (p : ℕ → Bool) (a : Text) (c : ℕ) (rest : Text) → All (λ b. not (p b)) a → p c ≡ true →
    slice_split p (a ++ (c ∷ rest)) ≡ a ∷ slice_split p rest
unfolding All
split_at p [] c rest f h = ap (λ x. if x then [] ∷ slice_split p rest else onto_first c (slice_split p rest)) h
split_at p (b ∷ a) c rest f h =
    ap (λ x. if x then [] ∷ slice_split p (a ++ (c ∷ rest)) else onto_first b (slice_split p (a ++ (c ∷ rest)))) (not_so (p b) f.0)
    ∙ ap (onto_first b) (split_at p a c rest f.1 h)

split_none : (p : ℕ → Bool) (a : Text) → All (λ b. not (p b)) a → slice_split p a ≡ a ∷ []
unfolding All
split_none p [] f = refl
split_none p (b ∷ a) f = ap (λ x. if x then [] ∷ slice_split p a else onto_first b (slice_split p a)) (not_so (p b) f.0)
    ∙ ap (onto_first b) (split_none p a f.1)

star_split : (c : Text) (ns : List Text) → All (λ b. not (is_star b)) c → Each (All (λ b. not (is_star b))) ns →
    slice_split is_star (c ++ factors_text ns) ≡ c ∷ ns
star_split c [] f g = ap (slice_split is_star) (append_none c) ∙ split_none is_star c f
star_split c (n ∷ ns) f g = split_at is_star c 42 (n ++ factors_text ns) f refl ∙ ap (λ z. c ∷ z) (star_split n ns g.0 g.1)

each_weaker : (P Q : Text → Type 0) → ((t : Text) → P t → Q t) → (ts : List Text) → Each P ts → Each Q ts
each_weaker P Q f [] h = tt
each_weaker P Q f (t ∷ ts) h = (f t h.0, each_weaker P Q f ts h.1)

no_star : (p : ℕ → Bool) → p 42 ≡ false → (t : Text) → All p t → All (λ b. not (is_star b)) t
no_star p n = all_weaker p (λ b. not (is_star b)) (λ b h. is_not (b == 42) (isnt p 42 n b h))

other : (s c : Text) → (c ≡ s → ⊥) → bytes_eq c s ≡ false
other s c n = by (bytes_eq c s) refl
  where
    by : (x : Bool) → bytes_eq c s ≡ x → x ≡ false
    by true e = absurd (n ((bytes_eq-Decides c s).0 e))
    by false e = refl

differ : (c : Text) → (c ≡ codes "0" → ⊥) → not (bytes_eq c (codes "0")) ≡ true
differ c n = is_not (bytes_eq c (codes "0")) (other (codes "0") c n)

term_so : (t : Text) → TermSpelled t → is_term t ≡ true
term_so t s =
    let e : slice_split is_star t ≡ s.coefficient ∷ s.names =
    ap (slice_split is_star) s.is ∙
    star_split s.coefficient s.names (no_star is_digit refl s.coefficient (number_digits s.coefficient s.coefficient_is))
    (each_weaker IsName (All (λ b. not (is_star b))) (λ n h. no_star is_name_byte refl n (name_bytes n h)) s.names s.names_are) in
    ap is_term_of e ∙
    and_true (is_number s.coefficient) _ s.coefficient_is
    (and_true (not (bytes_eq s.coefficient (codes "0"))) (list_all is_name s.names && in_order s.names) (differ s.coefficient s.above_0)
    (and_true (list_all is_name s.names) (in_order s.names) (all_so is_name IsName (λ t h. h) s.names s.names_are) s.sorted))

-- bytes of a term
of_term : ℕ → Bool
of_term b = is_digit b || (is_name_byte b || (b == 42))

factors_bytes : (ns : List Text) → Each IsName ns → All of_term (factors_text ns)
unfolding All of_term
factors_bytes [] h = tt
factors_bytes (n ∷ ns) h = (
  refl,
  all_append of_term n (factors_text ns)
      (all_weaker is_name_byte of_term (λ b k. or_second (is_digit b) _ (or_first (is_name_byte b) _ k)) n (name_bytes n h.0))
      (factors_bytes ns h.1),
)

term_bytes : (t : Text) → TermSpelled t → All of_term t
unfolding All of_term
term_bytes t s =
    subst (All of_term) (sym s.is) (all_append of_term s.coefficient (factors_text s.names)
    (all_weaker is_digit of_term (λ b h. or_first (is_digit b) _ h) s.coefficient (number_digits s.coefficient s.coefficient_is))
    (factors_bytes s.names s.names_are))

neither : (x y : Bool) → x ≡ false → y ≡ false → (x || y) ≡ false
neither true y h k = h
neither false y h k = k

no_sign : (t : Text) → TermSpelled t → All (λ b. not (is_sign b)) t
unfolding of_term
no_sign t s = all_weaker of_term (λ b. not (is_sign b))
    (λ b h. is_not (is_sign b) (neither (b == 43) (b == 45) (isnt of_term 43 refl b h) (isnt of_term 45 refl b h))) t (term_bytes t s)

sign_split : (first : Text) (more : List (Bool × Text)) → Each TermSpelled (first ∷ terms_in more) →
    slice_split is_sign (first ++ signed more) ≡ first ∷ terms_in more
sign_split first [] h = ap (slice_split is_sign) (append_none first) ∙ split_none is_sign first (no_sign first h.0)
sign_split first ((true, t) ∷ more) h = split_at is_sign first 45 (t ++ signed more) (no_sign first h.0) refl
    ∙ ap (λ z. first ∷ z) (sign_split t more h.1)
sign_split first ((false, t) ∷ more) h = split_at is_sign first 43 (t ++ signed more) (no_sign first h.0) refl
    ∙ ap (λ z. first ∷ z) (sign_split t more h.1)

first_byte : Text → ℕ
first_byte [] = 0
first_byte (b ∷ bs) = b

-- a number doesn't begin with a minus
digit_first : (c : Text) (rest : Text) → is_number c ≡ true → begins (codes "-") (c ++ rest) ≡ false
unfolding All first_byte
digit_first [] rest h = no_way h
digit_first (b ∷ c) rest h = by (begins (codes "-") (b ∷ (c ++ rest))) refl
  where
    by : (x : Bool) → begins (codes "-") (b ∷ (c ++ rest)) ≡ x → x ≡ false
    by true e = true_false (is_digit 45)
        (ap is_digit (sym (ap first_byte (begins_is (codes "-") (b ∷ (c ++ rest)) e))) ∙ (number_digits (b ∷ c) h).0) refl
    by false e = refl

terms_so : (s : Text) (first : Text) (more : List (Bool × Text)) → s ≡ first ++ signed more → Each TermSpelled (first ∷ terms_in more) →
    terms_rise (map term_in (first ∷ terms_in more)) ≡ true → are_terms (slice_split is_sign s) ≡ true
terms_so s first more e h r =
    ap (λ z. are_terms (slice_split is_sign z)) e ∙
    (ap are_terms (sign_split first more h) ∙ and_true (list_all is_term (first ∷ terms_in more))
    (terms_rise (map term_in (first ∷ terms_in more))) (all_so is_term TermSpelled term_so (first ∷ terms_in more) h) r)

bare_so : (first : Text) (rest : Text) → TermSpelled first → begins (codes "-") (first ++ rest) ≡ false
bare_so first rest f =
    ap (λ z. begins (codes "-") (z ++ rest)) f.is
    ∙ (ap (begins (codes "-")) (append_assoc f.coefficient (factors_text f.names) rest)
    ∙ digit_first f.coefficient (factors_text f.names ++ rest) f.coefficient_is)

minus_so : (t : Text) (minus : Bool) (first : Text) (more : List (Bool × Text)) →
    t ≡ (if minus then codes "-" else []) ++ (first ++ signed more) → Each TermSpelled (first ∷ terms_in more) →
    terms_rise (map term_in (first ∷ terms_in more)) ≡ true → are_terms (slice_split is_sign (without_minus t)) ≡ true
minus_so t true first more e h r = ap (λ z. are_terms (slice_split is_sign (without_minus z))) e
    ∙ terms_so (first ++ signed more) first more refl h r
minus_so t false first more e h r =
    ap (λ z. are_terms (slice_split is_sign (without_minus z))) e ∙
    (ap (λ x. are_terms (slice_split is_sign (if x then drop 1 (first ++ signed more) else (first ++ signed more))))
    (bare_so first (signed more) h.0) ∙ terms_so (first ++ signed more) first more refl h r)

sum_so : (t : Text) → TermsSpelled t → is_sum t ≡ true
sum_so t s = minus_so t s.minus s.first s.more s.is s.terms_are s.rise

denominator_so : (n : Text) → is_number n ≡ true → (((n ≡ codes "0") ⊎ (n ≡ codes "1")) → ⊥) → is_denominator n ≡ true
denominator_so n i a =
    and_true (is_number n) (not (bytes_eq n (codes "0") || bytes_eq n (codes "1"))) i
    (is_not (bytes_eq n (codes "0") || bytes_eq n (codes "1"))
    (neither (bytes_eq n (codes "0")) (bytes_eq n (codes "1")) (other (codes "0") n (λ e. a (inl e)))
    (other (codes "1") n (λ e. a (inr e)))))

quotient_so : (t : Text) → QuotientSpelled t → (begins (codes "(") t && is_quotient (drop 1 t)) ≡ true
quotient_so t q =
    let w = q.terms in
    let n = q.denominator in
    let d = w ++ (codes ")/" ++ n) in
    let s : is_sum w ≡ true = sum_so w q.terms_are in
    let c : before_close 0 d ≡ w = close_past 0 w (codes ")/" ++ n) (sum_quiet w s) ∙ append_none w in
    let e : d ≡ (w ++ codes ")/") ++ n = sym (append_assoc w (codes ")/") n) in
    let b : begins (w ++ codes ")/") d ≡ true = ap (begins (w ++ codes ")/")) e ∙ begins_so (w ++ codes ")/") n in
    let r : drop (length (w ++ codes ")/")) d ≡ n = ap (drop (length (w ++ codes ")/"))) e ∙ drop-append_seam (w ++ codes ")/") n in
    ap (λ z. begins (codes "(") z && is_quotient (drop 1 z)) q.is ∙
    and_true (begins (codes "(") (codes "(" ++ d)) (is_quotient d) (begins_so (codes "(") d)
    (ap (λ v. is_sum v && (begins (v ++ codes ")/") d && is_denominator (drop (length (v ++ codes ")/")) d))) c ∙
    and_true (is_sum w) _ s
    (and_true (begins (w ++ codes ")/") d) (is_denominator (drop (length (w ++ codes ")/")) d)) b
    (ap is_denominator r ∙ denominator_so n q.denominator_is q.above_1)))

width_so : (t : Text) → WidthSpelled t → IsWidth t
width_so t (inl e) = or_first (bytes_eq t (codes "0")) _ ((bytes_eq-Decides t (codes "0")).1 e)
width_so t (inr (inl s)) = or_second (bytes_eq t (codes "0")) _ (or_first (is_sum t) _ (sum_so t s))
width_so t (inr (inr q)) = or_second (bytes_eq t (codes "0")) _ (or_second (is_sum t) _ (quotient_so t q))

pub width_law : (t : Text) → WidthLaw t
width_law t = record { spelled = width_spelled t; recognised = width_so t }
