-- What is gathered of several answers, and then taken as one.
use Rattle.std.proofs.Common.{◌≡◌, Result, Ok, Err, refl, sym, ap, ◌∙◌, subst}
use Rattle.asl_syn.specs.declared.code.Fault.{Fault}
use Rattle.asl_rules.specs.Faults.{◌>>=◌}

ok_ok : {A : Type 0} (x y : A) → (let o : Result A Fault = Ok x in o) ≡ Ok y → x ≡ y
ok_ok x y e = cc e

err_err : {A : Type 0} (d e : Fault) → (let o : Result A Fault = Err d in o) ≡ Err e → d ≡ e
err_err d e is = cc is

abbrev pub failure : {A : Type 0} → Fault → Result A Fault
failure e = Err e

pub collected : {A B C : Type 0} (r : Result A Fault) (f : A → B) (b : B) (h : A → Result C Fault) (k : B → Result C Fault) →
    ((a : A) → k (f a) ≡ h a) → (r >>= λ a. Ok (f a)) ≡ Ok b → (r >>= h) ≡ k b
collected (Err e) f b h k same is = absurd (cc is)
collected (Ok a) f b h k same is = sym (same a) ∙ ap k (ok_ok (f a) b is)

pub failed : {A B C : Type 0} (r : Result A Fault) (f : A → B) (e : Fault) (h : A → Result C Fault) →
    (r >>= λ a. Ok (f a)) ≡ failure {A = B} e → (r >>= h) ≡ Err e
failed (Ok a) f e h is = absurd (cc is)
failed {B = B} {C = C} (Err d) f e h is = ap (failure {A = C}) (err_err {A = B} d e is)
