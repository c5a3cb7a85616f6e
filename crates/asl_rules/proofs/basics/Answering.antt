-- What holds of each answer of a sequence of steps, where it is no fault: it is shown from the end of the sequence.
use Rattle.std.proofs.Common.{◌≡◌, Result, Ok, Err, refl, subst}
use Rattle.asl_syn.specs.declared.code.Fault.{Fault}
use Rattle.asl_rules.specs.Faults.{◌>>=◌, ◌>>◌}

abbrev pub OfAnswer : {A : Type 0} → (A → Type 0) → Result A Fault → Type 0
OfAnswer P (Ok x) = P x
OfAnswer P (Err e) = Unit {0}

pub behind : {A B : Type 0} (P : B → Type 0) (r : Result A Fault) (f : A → Result B Fault) → ((x : A) → OfAnswer P (f x)) → OfAnswer P (r >>= f)
behind P (Ok x) f h = h x
behind P (Err e) f h = tt

pub after : {B : Type 0} (P : B → Type 0) (r : Result (Unit {0}) Fault) (s : Result B Fault) → OfAnswer P s → OfAnswer P (r >> s)
after P (Ok x) s h = h
after P (Err e) s h = tt

-- steps before the end
pub ruleset steps_before = (behind, after)

pub of_each : {B : Type 0} (P : B → Type 0) (r : Result B Fault) → ((y : B) → r ≡ Ok y → P y) → OfAnswer P r
of_each P (Ok y) h = h y refl
of_each P (Err e) h = tt

pub of_this : {B : Type 0} (P : B → Type 0) (r : Result B Fault) (y : B) → r ≡ Ok y → OfAnswer P r → P y
of_this P r y e h = subst (OfAnswer P) e h
