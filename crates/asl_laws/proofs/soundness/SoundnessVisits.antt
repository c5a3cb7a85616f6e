-- The nodes that a run enters, by pairs of plans: what holds wherever a claim about a node does holds of each visit. No form of the language is named.
use Rattle.std.proofs.Common.{◌≡◌, ℕ, zero, suc, ◌-◌, ◌==◌, Bool, true, false, List, [], ◌∷◌, ◌++◌}
use Rattle.asl_rules.specs.values.Values.{Value}
use Rattle.asl_rules.specs.runs.Plans.{Meter, Outcome, Done, Thrown, Halt, Plan, Ret, Raise, Stop, Eval, Exec, Put, Within, Meaning, run, wrote, Nodes, meanings}
use Rattle.asl_rules.specs.runs.Visits.{Entered, AtExpr, AtStmt, Visit, Trail, after, visits, entered_at, trails}
use Rattle.asl_laws.proofs.expressions.Twins.{Claims, Twins, SameEnd, Meets, twins_run, Forms, twins}

-- each visit has this
abbrev pub AllHold : {C E S : Type 0} → (Entered E S → C → Type 0) → List (Visit C E S) → Type 0
AllHold P [] = Unit {0}
AllHold P (v ∷ vs) = P v.node v.state × AllHold P vs

both_hold : {C E S : Type 0} (P : Entered E S → C → Type 0) (vs ws : List (Visit C E S)) → AllHold P vs → AllHold P ws → AllHold P (vs ++ ws)
both_hold P [] ws h k = k
both_hold P (v ∷ vs) ws h k = (h.0, both_hold P vs ws h.1 k)

hold_entered : {C E S : Type 0} (P : Entered E S → C → Type 0) (b : Bool) (v : Visit C E S) (rest : List (Visit C E S)) → P v.node v.state → AllHold P rest → AllHold P (entered_at b v rest)
hold_entered P true v rest h k = tt
hold_entered P false v rest h k = (h, k)

visited : {C D A B E S : Type 0} (P : Entered E S → C → Type 0) (seen : C → D) (K : C → Type 0) (Q : A → B → C → Type 0) (R : Value → C → Type 0) (r : Outcome C A) (t : Outcome D B) (f : A → C → Meter → List (Visit C E S)) (g : Value → C → Meter → List (Visit C E S)) →
    SameEnd seen K Q R r t → ((x : A) (y : B) (c : C) (h : Meter) → Q x y c → AllHold P (f x c h)) → ((x : Value) (c : C) (h : Meter) → R x c → AllHold P (g x c h)) → AllHold P (after r f g)
visited P seen K Q R (Done x c h) (Done y d k) f g w go out = go x y c h w.2
visited P seen K Q R (Thrown x c h) (Thrown y d k) f g w go out = out x c h w.3
visited P seen K Q R (Halt e c h) t f g w go out = tt
visited P seen K Q R r t f g w go out = absurd w

-- the visits below nodes of which something is claimed
pub record VisitsHold {C D E F S T : Type 0} (w : Claims C D E F S T) (t : Trail C E S) (P : Entered E S → C → Type 0) : Type 0 where
  pub expr : (i : w.I) (e : E) (f : F) (c : C) (h : Meter) → w.expr_in i e f c → AllHold P (t.expr e c h)
  pub stmt : (j : w.J) (s : S) (a : T) (c : C) (h : Meter) → w.stmt_in j s a c → AllHold P (t.stmt s c h)

module _ {C D E F S T : Type 0} (w : Claims C D E F S T) (m : Meaning C E S) (n : Meaning D F T) (t : Trail C E S) (P : Entered E S → C → Type 0) (v : Meets w m n) (u : VisitsHold w t P) where
  pub twins_visits : {A B : Type 0} (Q : A → B → C → Type 0) (R : Value → C → Type 0) (p : Plan C E S A) (q : Plan D F T B) (h : Meter) → Twins w Q R p q → AllHold P (visits m t p h)
  twins_visits Q R (Ret x c) q h s = tt
  twins_visits Q R (Raise x c) q h s = tt
  twins_visits Q R (Stop e c) q h s = tt
  twins_visits Q R (Eval e c k) (Eval f d l) h s =
      both_hold P (t.expr e c h) _ (u.expr s.0 e f c h s.1)
      (visited P w.seen w.halted (λ x y c1. (x ≡ y) × w.expr_out s.0 x c1) (w.expr_thrown s.0) (m.expr e c h) (n.expr f (w.seen c) h) (λ x c1 h1. visits m t (k x c1) h1) (λ x c1 h1. []) (v.expr s.0 e f c h s.1)
      (λ x y c1 h1 o. twins_visits Q R (k x c1) (l x (w.seen c1)) h1 (s.3 x c1 o.1)) (λ x c1 h1 o. tt))
  twins_visits Q R (Exec e c k) (Exec f d l) h s =
      both_hold P (t.stmt e c h) _ (u.stmt s.0 e f c h s.1)
      (visited P w.seen w.halted (λ x y c1. (x ≡ y) × w.stmt_out s.0 x c1) (w.stmt_thrown s.0) (m.stmt e c h) (n.stmt f (w.seen c) h) (λ x c1 h1. visits m t (k x c1) h1) (λ x c1 h1. []) (v.stmt s.0 e f c h s.1)
      (λ x y c1 h1 o. twins_visits Q R (k x c1) (l x (w.seen c1)) h1 (s.3 x c1 o.1)) (λ x c1 h1 o. tt))
  twins_visits Q R (Put bytes p) (Put others q) h s = twins_visits Q R p q (wrote h bytes) s.1
  twins_visits Q R (Within p f g) (Within q k l) h s =
      both_hold P (visits m t p h) _ (twins_visits (λ x y c. Twins w Q R (f x c) (k y (w.seen c))) (λ x c. Twins w Q R (g x c) (l x (w.seen c))) p q h s)
      (visited P w.seen w.halted (λ x y c. Twins w Q R (f x c) (k y (w.seen c))) (λ x c. Twins w Q R (g x c) (l x (w.seen c))) (run m p h) (run n q h) (λ x c1 h1. visits m t (f x c1) h1) (λ x c1 h1. visits m t (g x c1) h1)
      (twins_run w m n v (λ x y c. Twins w Q R (f x c) (k y (w.seen c))) (λ x c. Twins w Q R (g x c) (l x (w.seen c))) p q h s)
      (λ x y c1 h1 o. twins_visits Q R (f x c1) (k y (w.seen c1)) h1 o) (λ x c1 h1 o. twins_visits Q R (g x c1) (l x (w.seen c1)) h1 o))
  twins_visits Q R p q h s = absurd s

-- where each pair of forms does the same
pub visits_hold : {C D E F S T : Type 0} (n : Nodes C E S) (m : Nodes D F T) (w : Claims C D E F S T) (P : Entered E S → C → Type 0) → Forms n m w →
    ((i : w.I) (e : E) (f : F) (c : C) → w.expr_in i e f c → P (AtExpr e) c) → ((j : w.J) (s : S) (t : T) (c : C) → w.stmt_in j s t c → P (AtStmt s) c) → (d k : ℕ) → VisitsHold w (trails n d k) P
visits_hold n m w P f a b zero k = record { expr = λ i e g c h p. tt; stmt = λ j s t c h p. tt }
visits_hold n m w P f a b (suc d) k = record {
  expr = λ i e g c h p. hold_entered P (h.steps == 0) (record { node = AtExpr e; state = c; steps = h.steps - 1; nodes_open = suc k }) _ (a i e g c p)
      (twins_visits w (meanings n d) (meanings m d) (trails n d (suc k)) P (twins n m w f d) (visits_hold n m w P f a b d (suc k)) (λ x y c1. (x ≡ y) × w.expr_out i x c1) (w.expr_thrown i) (n.expr e c) (m.expr g (w.seen c)) (record h { steps = h.steps - 1 }) (f.expr i e g c p));
  stmt = λ j s t c h p. hold_entered P (h.steps == 0) (record { node = AtStmt s; state = c; steps = h.steps - 1; nodes_open = suc k }) _ (b j s t c p)
      (twins_visits w (meanings n d) (meanings m d) (trails n d (suc k)) P (twins n m w f d) (visits_hold n m w P f a b d (suc k)) (λ x y c1. (x ≡ y) × w.stmt_out j x c1) (w.stmt_thrown j) (n.stmt s c) (m.stmt t (w.seen c)) (record h { steps = h.steps - 1 }) (f.stmt j s t c p));
}
