-- Answers in two scopes that are one answer over the names of each.
use Rattle.std.proofs.Common.{◌≡◌, Ok, Err, refl, sym, ap, ◌∙◌}
use Rattle.std.specs.Prelude.{Result}
use Rattle.asl_syn.specs.declared.code.Fault.{Fault}
use Rattle.asl_rules.specs.Faults.{◌>>=◌, ◌>>◌}
use Rattle.asl_rules.proofs.basics.Answering.{OfAnswer}

pub record Over {D Z : Type 0} (f g : D → Z) (x y : Result Z Fault) : Type 0 where
  pub one : Result D Fault
  pub first : x ≡ (one >>= λ d. Ok (f d))
  pub second : y ≡ (one >>= λ d. Ok (g d))

pub over_ok : {D Z : Type 0} (f g : D → Z) (d : D) → Over f g (Ok (f d)) (Ok (g d))
over_ok f g d = record { one = Ok d; first = refl; second = refl }

pub over_err : {D Z : Type 0} (f g : D → Z) (e : Fault) → Over f g (Err e) (Err e)
over_err f g e = record { one = Err e; first = refl; second = refl }

-- answers that are equal to such
pub over_by : {D Z : Type 0} {f g : D → Z} {x y u v : Result Z Fault} → x ≡ u → y ≡ v → Over f g u v → Over f g x y
over_by h k o = record { one = o.one; first = h ∙ o.first; second = k ∙ o.second }

-- a condition before both
pub over_after : {D Z : Type 0} {f g : D → Z} {x y : Result Z Fault} (r : Result (Unit {0}) Fault) → Over f g x y →
    Over f g (r >> x) (r >> y)
over_after (Ok u) o = o
over_after {f = f} {g = g} (Err e) o = over_err f g e

-- such answers, and what follows each
pub over_then : {D Z C W : Type 0} {f g : D → Z} {p q : C → W} {x y : Result Z Fault} (k l : Z → Result W Fault) → Over f g x y →
    ((d : D) → Over p q (k (f d)) (l (g d))) → Over p q (x >>= k) (y >>= l)
over_then {D = D} {f = f} {g = g} {p = p} {q = q} k l o h = over_by (ap (λ z. z >>= k) o.first) (ap (λ z. z >>= l) o.second) (by o.one)
  where
    by : (r : Result D Fault) → Over p q ((r >>= λ d. Ok (f d)) >>= k) ((r >>= λ d. Ok (g d)) >>= l)
    by (Ok d) = h d
    by (Err e) = over_err p q e

-- the same answer of both, and what follows each
pub over_same : {Z C W : Type 0} {p q : C → W} {x y : Result Z Fault} (k l : Z → Result W Fault) → x ≡ y →
    ((z : Z) → Over p q (k z) (l z)) → Over p q (x >>= k) (y >>= l)
over_same {Z = Z} {p = p} {q = q} {x = x} k l e h = over_by refl (ap (λ z. z >>= l) (sym e)) (by x)
  where
    by : (r : Result Z Fault) → Over p q (r >>= k) (r >>= l)
    by (Ok z) = h z
    by (Err e) = over_err p q e

pub over_known : {Z C W : Type 0} {p q : C → W} {x y : Result Z Fault} (P : Z → Type 0) (k l : Z → Result W Fault) → x ≡ y → OfAnswer P x →
    ((z : Z) → P z → Over p q (k z) (l z)) → Over p q (x >>= k) (y >>= l)
over_known {Z = Z} {p = p} {q = q} {x = x} P k l e a h = over_by refl (ap (λ z. z >>= l) (sym e)) (by x a)
  where
    by : (r : Result Z Fault) → OfAnswer P r → Over p q (r >>= k) (r >>= l)
    by (Ok z) b = h z b
    by (Err e) b = over_err p q e

-- what follows such answers gives the same, where it doesn't ask for the names
pub same_then : {D Z W : Type 0} {f g : D → Z} {x y : Result Z Fault} (k l : Z → Result W Fault) → Over f g x y →
    ((d : D) → k (f d) ≡ l (g d)) → (x >>= k) ≡ (y >>= l)
same_then {D = D} {f = f} {g = g} k l o h = ap (λ z. z >>= k) o.first ∙ by o.one ∙ sym (ap (λ z. z >>= l) o.second)
  where
    by : (r : Result D Fault) → ((r >>= λ d. Ok (f d)) >>= k) ≡ ((r >>= λ d. Ok (g d)) >>= l)
    by (Ok d) = h d
    by (Err e) = refl
