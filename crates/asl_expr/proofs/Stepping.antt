-- Answers one behind another: an answer that is met behind what goes well, and refusals of what doesn't.
use Rattle.std.proofs.Common.{◌≡◌, Result, Ok, Err, sym, ap, subst}
use Rattle.asl_syn.specs.declared.code.Fault.{Fault}
use Rattle.asl_syn.specs.declared.code.Refused.{Refused}
use Rattle.asl_syn.specs.declared.code.Refused.TheVariants.{At, NoMemory}
use Rattle.asl_rules.specs.Faults.{◌>>=◌, ◌>>◌}
use Rattle.asl_types.specs.private.Answers.{Met}

pub went : {A B C : Type 0} (v : C → B) (p : Result A Fault) (k : A → Result B Fault) (a : A) (r : Result C Refused) → p ≡ Ok a → Met v r (k a) → Met v r (p >>= k)
went v p k a r is h = subst (λ q. Met v r (q >>= k)) (sym is) h

pub stops : {A B C D : Type 0} (u : D → A) (v : C → B) (p : Result A Fault) (k : A → Result B Fault) (e : Refused) (r : Result C Refused) → r ≡ Err e → Met u (Err e) p → Met v r (p >>= k)
stops u v p k (At f) r is h = subst (λ q. Met v q (p >>= k)) (sym is) (ap (λ q. q >>= k) h)
stops u v p k NoMemory r is h = subst (λ q. Met v q (p >>= k)) (sym is) tt

pub then_went : {B C : Type 0} (v : C → B) (p : Result (Unit {0}) Fault) (q : Result B Fault) (a : Unit {0}) (r : Result C Refused) → p ≡ Ok a → Met v r q → Met v r (p >> q)
then_went v p q a r is h = subst (λ z. Met v r (z >> q)) (sym is) h

-- what is met by two steps, where a third follows
pub both_went : {A B C : Type 0} (v : C → B) (p : Result (Unit {0}) Fault) (q : Result A Fault) (k : A → Result B Fault) (a : A) (r : Result C Refused) → (p >> q) ≡ Ok a → Met v r (k a) → Met v r (p >> q >>= k)
both_went v (Ok u) q k a r is h = went v q k a r is h
both_went v (Err e) q k a r is h = absurd (cc is)

pub both_stop : {A B C D : Type 0} (u : D → A) (v : C → B) (p : Result (Unit {0}) Fault) (q : Result A Fault) (k : A → Result B Fault) (e : Refused) (r : Result C Refused) → r ≡ Err e → Met u (Err e) (p >> q) → Met v r (p >> q >>= k)
both_stop u v (Ok x) q k e r is h = stops u v q k e r is h
both_stop {A = A} {B = B} u v (Err d) q k (At f) r is h =
    subst (λ (z : Result _ Refused). Met v z (let o : Result B Fault = Err d in o)) (sym is) (ap (λ x. let o : Result B Fault = Err x in o) (let s : d ≡ f = cc h in s))
both_stop u v (Err d) q k NoMemory r is h = subst (λ z. Met v z (Err d)) (sym is) tt
