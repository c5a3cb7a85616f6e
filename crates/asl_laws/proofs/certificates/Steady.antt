-- Widths as they stand in longer texts: they have no space and no point, stay in one part, and the bracket behind them is the first that
-- closes.
use Rattle.std.proofs.Common.{◌≡◌, ℕ, suc, ◌-◌, ◌==◌, true, false, ◌&&◌, ◌||◌, not, [], ◌∷◌, ◌++◌, length, take, drop, refl, sym, ap, ◌∙◌, subst, append_assoc}
use Rattle.std.specs.Prelude.{if◌then◌else◌, codes}
use Rattle.std.specs.Str.{bytes_eq}
use Rattle.std.proofs.lemmas.Slice.Eq.{bytes_eq-Decides}
use Rattle.std.proofs.Math.Seq.{take-append_seam}
use Rattle.asl_rules.specs.report.Texts.{Text}
use Rattle.asl_rules.proofs.basics.Tests.{both}
use Rattle.asl_laws.specs.certificates.Format.{begins, byte_first, is_opening, is_closing, level, outer_parts, before_close}
use Rattle.asl_laws.specs.certificates.Format.{is_number, is_sum, is_denominator, is_quotient, is_width}
use Rattle.asl_laws.proofs.certificates.Spellings.{either_is, begins_is}
use Rattle.asl_laws.proofs.certificates.Calm.{quiet, quiet_isnt, All, Quiet, number_quiet, sum_quiet, Free, free_append, quiet_free}
use Rattle.asl_laws.proofs.certificates.Calm.{bytes_first, Calm, calm_append, calm_still, quiet_calm, still, not_false, quiet_still, suc_less, append_none}

pub begins_so : (front t : Text) → begins front (front ++ t) ≡ true
begins_so front t = (bytes_eq-Decides front (take (length front) (front ++ t))).1 (sym (take-append_seam front t))

pub opens : (k b : ℕ) → (b == 44) ≡ false → is_opening b ≡ true → Calm k (b ∷ []) (suc k)
unfolding Calm bytes_first
opens k b n o rest =
    ap (λ x. if x && (k == 0) then [] ∷ outer_parts k rest else byte_first b (outer_parts (level k b) rest)) n
    ∙ ap (λ x. byte_first b (outer_parts (if x then suc k else (if is_closing b then k - 1 else k)) rest)) o

pub closes_at : (k b : ℕ) → (b == 44) ≡ false → is_opening b ≡ false → is_closing b ≡ true → Calm (suc k) (b ∷ []) k
unfolding Calm bytes_first
closes_at k b n o c rest =
    ap (λ x. if x && (suc k == 0) then [] ∷ outer_parts (suc k) rest else byte_first b (outer_parts (level (suc k) b) rest)) n ∙
    (ap (λ x. byte_first b (outer_parts (if x then suc (suc k) else (if is_closing b then suc k - 1 else suc k)) rest)) o ∙
    (ap (λ x. byte_first b (outer_parts (if x then suc k - 1 else suc k) rest)) c
    ∙ ap (λ j. byte_first b (outer_parts j rest)) (suc_less k)))

-- ---- quotients

-- a sum in brackets, and what it is divided by
pub record Quotient (t : Text) : Type 0 where
  pub terms : Text
  pub denominator : Text
  pub is : t ≡ codes "(" ++ (terms ++ (codes ")/" ++ denominator))
  pub terms_are : is_sum terms ≡ true
  pub denominator_is : is_denominator denominator ≡ true

pub quotient_parts : (t : Text) → (begins (codes "(") t && is_quotient (drop 1 t)) ≡ true → Quotient t
quotient_parts t h =
    let d = drop 1 t in
    let w = before_close 0 d in
    let n = drop (length (w ++ codes ")/")) d in
    let a = both (begins (codes "(") t) (is_quotient d) h in
    let b = both (is_sum w) (begins (w ++ codes ")/") d && is_denominator n) a.1 in
    let c = both (begins (w ++ codes ")/") d) (is_denominator n) b.1 in
    record {
      terms = w;
      denominator = n;
      is = begins_is (codes "(") t a.0 ∙ ap (λ z. codes "(" ++ z) (begins_is (w ++ codes ")/") d c.0 ∙ append_assoc w (codes ")/") n);
      terms_are = b.0;
      denominator_is = c.1;
    }

-- ---- texts that stand so

pub record Steady (t : Text) : Type 0 where
  pub space : Free 32 t
  pub dot : Free 46 t
  pub calm : (k : ℕ) → Calm k t k
  pub closed : (rest : Text) → before_close 0 (t ++ (41 ∷ rest)) ≡ t

pub close_past : (n : ℕ) (w rest : Text) → Quiet w → before_close n (w ++ rest) ≡ w ++ before_close n rest
unfolding All quiet still
close_past n [] rest h = refl
close_past n (b ∷ w) rest h =
    let s = quiet_still b h.0 in
    let a = both (not (b == 44)) (not (is_opening b) && not (is_closing b)) s in
    let c = both (not (is_opening b)) (not (is_closing b)) a.1 in
    ap (λ x. if x && (n == 0) then [] else b ∷ before_close (level n b) (w ++ rest)) (quiet_isnt 41 refl b h.0) ∙
    (ap (λ x. b ∷ before_close (if x then suc n else (if is_closing b then n - 1 else n)) (w ++ rest)) (not_false (is_opening b) c.0) ∙
    (ap (λ x. b ∷ before_close (if x then n - 1 else n) (w ++ rest)) (not_false (is_closing b) c.1) ∙ ap (λ z. b ∷ z)
    (close_past n w rest h.1)))

quiet_steady : (t : Text) → Quiet t → Steady t
unfolding quiet
quiet_steady t q = record {
  space = quiet_free 32 refl t q;
  dot = quiet_free 46 refl t q;
  calm = λ k. quiet_calm k t q;
  closed = λ rest. close_past 0 t (41 ∷ rest) q ∙ append_none t;
}

bracketed : (w n : Text) → Quiet w → Quiet n → Steady (codes "(" ++ (w ++ (codes ")/" ++ n)))
unfolding quiet All still Free
bracketed w n q m = record {
  space = (refl, free_append 32 w (codes ")/" ++ n) (quiet_free 32 refl w q) (refl, (refl, quiet_free 32 refl n m)));
  dot = (refl, free_append 46 w (codes ")/" ++ n) (quiet_free 46 refl w q) (refl, (refl, quiet_free 46 refl n m)));
  calm = λ k.
      calm_append k (suc k) k (codes "(") (w ++ (codes ")/" ++ n)) (opens k 40 refl refl)
      (calm_append (suc k) (suc k) k w (codes ")/" ++ n) (quiet_calm (suc k) w q)
      (calm_append (suc k) k k (codes ")") (codes "/" ++ n) (closes_at k 41 refl refl refl)
      (calm_append k k k (codes "/") n (calm_still k (codes "/") (refl, tt)) (quiet_calm k n m))));
  closed = λ rest.
      ap (λ z. 40 ∷ before_close 1 z) (append_assoc w (codes ")/" ++ n) (41 ∷ rest)) ∙
      (ap (λ z. 40 ∷ z) (close_past 1 w (41 ∷ 47 ∷ (n ++ (41 ∷ rest))) q) ∙
      ap (λ z. 40 ∷ (w ++ (41 ∷ 47 ∷ z))) (close_past 0 n (41 ∷ rest) m ∙ append_none n));
}

quotient_steady : (t : Text) → Quotient t → Steady t
quotient_steady t r =
    subst Steady (sym r.is) (bracketed r.terms r.denominator (sum_quiet r.terms r.terms_are)
    (number_quiet r.denominator (both (is_number r.denominator)
    (not (bytes_eq r.denominator (codes "0") || bytes_eq r.denominator (codes "1"))) r.denominator_is).0))

nothing_quiet : Quiet (codes "0")
unfolding All quiet
nothing_quiet = (refl, tt)

pub width_steady : (t : Text) → is_width t ≡ true → Steady t
width_steady t h =
    either_is (bytes_eq t (codes "0")) _ h (λ k. subst Steady (sym ((bytes_eq-Decides t (codes "0")).0 k))
    (quiet_steady (codes "0") nothing_quiet))
    (λ k. either_is (is_sum t) _ k (λ s. quiet_steady t (sum_quiet t s)) (λ q. quotient_steady t (quotient_parts t q)))
