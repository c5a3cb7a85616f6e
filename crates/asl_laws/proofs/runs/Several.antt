-- Several claims of one node at once: where each of them holds at its entry, all of them hold of what it gives and throws; the others may speak of other typed
-- trees of the same node.
use Rattle.std.proofs.Common.{◌≡◌}
use Rattle.asl_rules.specs.values.Values.{Value, Exit}
use Rattle.asl_rules.specs.runs.Plans.{Faulted, Plan, Ret, Raise, Stop, Eval, Exec, Put, Within, Nodes}
use Rattle.asl_laws.proofs.expressions.Twins.{Claims, Twins, Forms, twins_weaker}

pub data Several (I : Type 0) : Type 0 where
  one : I → Several I
  two : Several I → Several I → Several I

module _ {C D E F S T : Type 0} (w : Claims C D E F S T) where
  abbrev pub expr_enters : Several w.I → E → F → C → Type 0
  expr_enters (one i) e f c = w.expr_in i e f c
  expr_enters (two i j) e f c = expr_enters i e f c × ((g : F) × expr_enters j e g c)

  abbrev pub expr_gives : Several w.I → Value → C → Type 0
  expr_gives (one i) x c = w.expr_out i x c
  expr_gives (two i j) x c = expr_gives i x c × expr_gives j x c

  abbrev pub expr_throws : Several w.I → Value → C → Type 0
  expr_throws (one i) x c = w.expr_thrown i x c
  expr_throws (two i j) x c = expr_throws i x c × expr_throws j x c

  abbrev pub stmt_enters : Several w.J → S → T → C → Type 0
  stmt_enters (one j) s t c = w.stmt_in j s t c
  stmt_enters (two i j) s t c = stmt_enters i s t c × ((u : T) × stmt_enters j s u c)

  abbrev pub stmt_gives : Several w.J → Exit → C → Type 0
  stmt_gives (one j) x c = w.stmt_out j x c
  stmt_gives (two i j) x c = stmt_gives i x c × stmt_gives j x c

  abbrev pub stmt_throws : Several w.J → Value → C → Type 0
  stmt_throws (one j) x c = w.stmt_thrown j x c
  stmt_throws (two i j) x c = stmt_throws i x c × stmt_throws j x c

  abbrev pub several : Claims C D E F S T
  several = record {
    seen = w.seen;
    I = Several w.I;
    J = Several w.J;
    expr_in = expr_enters;
    expr_out = expr_gives;
    stmt_in = stmt_enters;
    stmt_out = stmt_gives;
    expr_thrown = expr_throws;
    stmt_thrown = stmt_throws;
    halted = w.halted;
  }

  abbrev pub BothGive : {A B G : Type 0} → (A → B → C → Type 0) → (A → G → C → Type 0) → A → B → C → Type 0
  BothGive {A} {B} {G} Q P x y c = Q x y c × ((z : G) × P x z c)

  abbrev pub BothThrow : (Value → C → Type 0) → (Value → C → Type 0) → Value → C → Type 0
  BothThrow R Z x c = R x c × Z x c

  -- a plan with two others
  pub twins_both : {A B G : Type 0} (Q : A → B → C → Type 0) (P : A → G → C → Type 0) (R Z : Value → C → Type 0) (p : Plan C E S A) (q : Plan D F T B) (r : Plan D F T G) → Twins several Q R p q → Twins several P Z p r → Twins several (BothGive Q P) (BothThrow R Z) p q
  twins_both Q P R Z (Ret x c) (Ret y d) (Ret z d2) t u = (t.0, (t.1, (z, u.1)))
  twins_both Q P R Z (Ret x c) (Ret y d) r t u = absurd u
  twins_both Q P R Z (Raise x c) (Raise y d) (Raise z d2) t u = (t.0, t.1, (t.2, u.2))
  twins_both Q P R Z (Raise x c) (Raise y d) r t u = absurd u
  twins_both Q P R Z (Stop (Faulted code span) c) (Stop e d) r t u = t
  twins_both Q P R Z (Eval e c k) (Eval f d l) (Eval g d2 m) t u =
      (two t.0 u.0, (t.1, (g, u.1)), t.2, λ x c1 o. twins_both Q P R Z (k x c1) (l x (w.seen c1)) (m x (w.seen c1)) (t.3 x c1 o.0) (u.3 x c1 o.1), λ x c1 o. (t.4 x c1 o.0, u.4 x c1 o.1))
  twins_both Q P R Z (Eval e c k) (Eval f d l) r t u = absurd u
  twins_both Q P R Z (Exec e c k) (Exec f d l) (Exec g d2 m) t u =
      (two t.0 u.0, (t.1, (g, u.1)), t.2, λ x c1 o. twins_both Q P R Z (k x c1) (l x (w.seen c1)) (m x (w.seen c1)) (t.3 x c1 o.0) (u.3 x c1 o.1), λ x c1 o. (t.4 x c1 o.0, u.4 x c1 o.1))
  twins_both Q P R Z (Exec e c k) (Exec f d l) r t u = absurd u
  twins_both Q P R Z (Put bytes p) (Put others q) (Put more r) t u = (t.0, twins_both Q P R Z p q r t.1 u.1)
  twins_both Q P R Z (Put bytes p) (Put others q) r t u = absurd u
  twins_both Q P R Z (Within p f g) (Within q h k) (Within r l m) t u =
      twins_weaker several
      (BothGive (λ x y c. Twins several Q R (f x c) (h y (w.seen c))) (λ x z c. Twins several P Z (f x c) (l z (w.seen c)))) (λ x y c. Twins several (BothGive Q P) (BothThrow R Z) (f x c) (h y (w.seen c)))
      (BothThrow (λ x c. Twins several Q R (g x c) (k x (w.seen c))) (λ x c. Twins several P Z (g x c) (m x (w.seen c)))) (λ x c. Twins several (BothGive Q P) (BothThrow R Z) (g x c) (k x (w.seen c)))
      (λ x y c o. twins_both Q P R Z (f x c) (h y (w.seen c)) (l o.1.0 (w.seen c)) o.0 o.1.1)
      (λ x c o. twins_both Q P R Z (g x c) (k x (w.seen c)) (m x (w.seen c)) o.0 o.1)
      p q
      (twins_both (λ x y c. Twins several Q R (f x c) (h y (w.seen c))) (λ x z c. Twins several P Z (f x c) (l z (w.seen c))) (λ x c. Twins several Q R (g x c) (k x (w.seen c))) (λ x c. Twins several P Z (g x c) (m x (w.seen c))) p q r t u)
  twins_both Q P R Z (Within p f g) (Within q h k) r t u = absurd u
  twins_both Q P R Z p q r t u = absurd t

  -- each pair of forms with one claim
  pub record Singles (n : Nodes C E S) (m : Nodes D F T) : Type 0 where
    pub expr : (i : w.I) (e : E) (f : F) (c : C) → w.expr_in i e f c → Twins several (λ x y c1. (x ≡ y) × w.expr_out i x c1) (w.expr_thrown i) (n.expr e c) (m.expr f (w.seen c))
    pub stmt : (j : w.J) (s : S) (t : T) (c : C) → w.stmt_in j s t c → Twins several (λ x y c1. (x ≡ y) × w.stmt_out j x c1) (w.stmt_thrown j) (n.stmt s c) (m.stmt t (w.seen c))
    pub expr_at : (i : w.I) (e : E) (f : F) (c : C) → w.expr_in i e f c → n.expr_at e ≡ m.expr_at f
    pub stmt_at : (j : w.J) (s : S) (t : T) (c : C) → w.stmt_in j s t c → n.stmt_at s ≡ m.stmt_at t
    pub expr_halts : (i : w.I) (e : E) (f : F) (c : C) → w.expr_in i e f c → w.halted c
    pub stmt_halts : (j : w.J) (s : S) (t : T) (c : C) → w.stmt_in j s t c → w.halted c

  module _ (n : Nodes C E S) (m : Nodes D F T) (s : Singles n m) where
    expr_several : (i : Several w.I) (e : E) (f : F) (c : C) → expr_enters i e f c → Twins several (λ x y c1. (x ≡ y) × expr_gives i x c1) (expr_throws i) (n.expr e c) (m.expr f (w.seen c))
    expr_several (one i) e f c p = s.expr i e f c p
    expr_several (two i j) e f c p =
        twins_weaker several (BothGive (λ x y c1. (x ≡ y) × expr_gives i x c1) (λ x y c1. (x ≡ y) × expr_gives j x c1)) (λ x y c1. (x ≡ y) × (expr_gives i x c1 × expr_gives j x c1)) (BothThrow (expr_throws i) (expr_throws j)) (expr_throws (two i j))
        (λ x y c1 o. (o.0.0, (o.0.1, o.1.1.1))) (λ x c1 o. o) (n.expr e c) (m.expr f (w.seen c))
        (twins_both (λ x y c1. (x ≡ y) × expr_gives i x c1) (λ x y c1. (x ≡ y) × expr_gives j x c1) (expr_throws i) (expr_throws j) (n.expr e c) (m.expr f (w.seen c)) (m.expr p.1.0 (w.seen c)) (expr_several i e f c p.0) (expr_several j e p.1.0 c p.1.1))

    stmt_several : (j : Several w.J) (x : S) (t : T) (c : C) → stmt_enters j x t c → Twins several (λ y z c1. (y ≡ z) × stmt_gives j y c1) (stmt_throws j) (n.stmt x c) (m.stmt t (w.seen c))
    stmt_several (one j) x t c p = s.stmt j x t c p
    stmt_several (two i j) x t c p =
        twins_weaker several (BothGive (λ y z c1. (y ≡ z) × stmt_gives i y c1) (λ y z c1. (y ≡ z) × stmt_gives j y c1)) (λ y z c1. (y ≡ z) × (stmt_gives i y c1 × stmt_gives j y c1)) (BothThrow (stmt_throws i) (stmt_throws j)) (stmt_throws (two i j))
        (λ y z c1 o. (o.0.0, (o.0.1, o.1.1.1))) (λ y c1 o. o) (n.stmt x c) (m.stmt t (w.seen c))
        (twins_both (λ y z c1. (y ≡ z) × stmt_gives i y c1) (λ y z c1. (y ≡ z) × stmt_gives j y c1) (stmt_throws i) (stmt_throws j) (n.stmt x c) (m.stmt t (w.seen c)) (m.stmt p.1.0 (w.seen c)) (stmt_several i x t c p.0) (stmt_several j x p.1.0 c p.1.1))

    expr_placed : (i : Several w.I) (e : E) (f : F) (c : C) → expr_enters i e f c → n.expr_at e ≡ m.expr_at f
    expr_placed (one i) e f c p = s.expr_at i e f c p
    expr_placed (two i j) e f c p = expr_placed i e f c p.0

    stmt_placed : (j : Several w.J) (x : S) (t : T) (c : C) → stmt_enters j x t c → n.stmt_at x ≡ m.stmt_at t
    stmt_placed (one j) x t c p = s.stmt_at j x t c p
    stmt_placed (two i j) x t c p = stmt_placed i x t c p.0

    expr_halting : (i : Several w.I) (e : E) (f : F) (c : C) → expr_enters i e f c → w.halted c
    expr_halting (one i) e f c p = s.expr_halts i e f c p
    expr_halting (two i j) e f c p = expr_halting i e f c p.0

    stmt_halting : (j : Several w.J) (x : S) (t : T) (c : C) → stmt_enters j x t c → w.halted c
    stmt_halting (one j) x t c p = s.stmt_halts j x t c p
    stmt_halting (two i j) x t c p = stmt_halting i x t c p.0

    -- so with several
    pub several_forms : Forms n m several
    several_forms = record { expr = expr_several; stmt = stmt_several; expr_at = expr_placed; stmt_at = stmt_placed; expr_halts = expr_halting; stmt_halts = stmt_halting }
