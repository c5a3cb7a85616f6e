-- Two kinds of trees by the shape of plans: where each pair of forms hands on the same, and what is claimed of it, two runs give
-- the same, and what is claimed of whole runs follows. No form of the language is named.
use Rattle.std.proofs.Common.{◌≡◌, ℕ, zero, suc, ◌-◌, ◌==◌, Bool, true, false, cond, refl, ap, subst}
use Rattle.asl_syn.specs.declared.token.Span.{Span}
use Rattle.asl_syn.specs.declared.code.DynCode.TheVariants.{D12, D13}
use Rattle.asl_rules.specs.values.Values.{Value, Exit}
use Rattle.asl_rules.specs.runs.Plans.{Meter, Faulted, Stuck, Outcome, Done, Thrown, Halt, Plan, Ret, Raise, Stop, Eval, Exec, Put, Within, Meaning, handle, run, enter, wrote, Nodes, meanings}

-- the state of the second that belongs to one of the first; what must hold at the entry of a pair of nodes, what then holds of
-- what they give and throw, and what holds of the state where a run halts
pub record Claims (C D E F S T : Type 0) : Type 1 where
  pub seen : C → D
  pub I : Type 0
  pub J : Type 0
  pub expr_in : I → E → F → C → Type 0
  pub expr_out : I → Value → C → Type 0
  pub stmt_in : J → S → T → C → Type 0
  pub stmt_out : J → Exit → C → Type 0
  pub expr_thrown : I → Value → C → Type 0
  pub stmt_thrown : J → Value → C → Type 0
  pub halted : C → Type 0

-- two plans that do the same where the nodes in them do
abbrev pub Twins : {C D E F S T A B : Type 0} → Claims C D E F S T → (A → B → C → Type 0) → (Value → C → Type 0) → Plan C E S A → Plan D F T B → Type 0
Twins w Q R (Ret x c) (Ret y d) = (w.seen c ≡ d) × Q x y c
Twins w Q R (Raise x c) (Raise y d) = (w.seen c ≡ d) × (x ≡ y) × R x c
Twins w Q R (Stop (Faulted code span) c) (Stop e d) = (w.seen c ≡ d) × (Faulted code span ≡ e) × w.halted c
Twins w Q R (Eval e c k) (Eval f d l) = (i : w.I) × w.expr_in i e f c × (w.seen c ≡ d) × ((x : Value) (c1 : _) → w.expr_out i x c1 → Twins w Q R (k x c1) (l x (w.seen c1))) × ((x : Value) (c1 : _) → w.expr_thrown i x c1 → R x c1)
Twins w Q R (Exec s c k) (Exec t d l) = (j : w.J) × w.stmt_in j s t c × (w.seen c ≡ d) × ((x : Exit) (c1 : _) → w.stmt_out j x c1 → Twins w Q R (k x c1) (l x (w.seen c1))) × ((x : Value) (c1 : _) → w.stmt_thrown j x c1 → R x c1)
Twins w Q R (Put bytes p) (Put others q) = (bytes ≡ others) × Twins w Q R p q
Twins w Q R (Within p f g) (Within q h l) = Twins w (λ x y c. Twins w Q R (f x c) (h y (w.seen c))) (λ x c. Twins w Q R (g x c) (l x (w.seen c))) p q
Twins w Q R p q = ⊥

-- two ends that are the same
abbrev pub SameEnd : {C D A B : Type 0} → (C → D) → (C → Type 0) → (A → B → C → Type 0) → (Value → C → Type 0) → Outcome C A → Outcome D B → Type 0
SameEnd seen K Q R (Done x c h) (Done y d k) = (seen c ≡ d) × (h ≡ k) × Q x y c
SameEnd seen K Q R (Thrown x c h) (Thrown y d k) = (seen c ≡ d) × (h ≡ k) × (x ≡ y) × R x c
SameEnd seen K Q R (Halt (Faulted code span) c h) (Halt e d k) = (seen c ≡ d) × (h ≡ k) × (Faulted code span ≡ e) × K c
SameEnd seen K Q R r t = ⊥

pub record Meets {C D E F S T : Type 0} (w : Claims C D E F S T) (m : Meaning C E S) (n : Meaning D F T) : Type 0 where
  pub expr : (i : w.I) (e : E) (f : F) (c : C) (h : Meter) → w.expr_in i e f c → SameEnd w.seen w.halted (λ x y c1. (x ≡ y) × w.expr_out i x c1) (w.expr_thrown i) (m.expr e c h) (n.expr f (w.seen c) h)
  pub stmt : (j : w.J) (s : S) (t : T) (c : C) (h : Meter) → w.stmt_in j s t c → SameEnd w.seen w.halted (λ x y c1. (x ≡ y) × w.stmt_out j x c1) (w.stmt_thrown j) (m.stmt s c h) (n.stmt t (w.seen c) h)

handled : {C D A B A1 B1 : Type 0} (seen : C → D) (K : C → Type 0) (Q1 : A1 → B1 → C → Type 0) (R1 : Value → C → Type 0) (Q : A → B → C → Type 0) (R : Value → C → Type 0)
    (r : Outcome C A1) (t : Outcome D B1) (f : A1 → C → Meter → Outcome C A) (g : Value → C → Meter → Outcome C A) (k : B1 → D → Meter → Outcome D B) (l : Value → D → Meter → Outcome D B) →
    SameEnd seen K Q1 R1 r t → ((x : A1) (y : B1) (c : C) (h : Meter) → Q1 x y c → SameEnd seen K Q R (f x c h) (k y (seen c) h)) → ((x : Value) (c : C) (h : Meter) → R1 x c → SameEnd seen K Q R (g x c h) (l x (seen c) h)) →
    SameEnd seen K Q R (handle r f g) (handle t k l)
handled seen K Q1 R1 Q R (Done x c h) (Done y d j) f g k l w go out =
    subst (λ c1. SameEnd seen K Q R (f x c h) (k y c1 j)) w.0 (subst (λ h1. SameEnd seen K Q R (f x c h) (k y (seen c) h1)) w.1 (go x y c h w.2))
handled seen K Q1 R1 Q R (Thrown x c h) (Thrown y d j) f g k l w go out =
    subst (λ c1. SameEnd seen K Q R (g x c h) (l y c1 j)) w.0 (subst (λ h1. SameEnd seen K Q R (g x c h) (l y (seen c) h1)) w.1 (subst (λ y1. SameEnd seen K Q R (g x c h) (l y1 (seen c) h)) w.2 (out x c h w.3)))
handled seen K Q1 R1 Q R (Halt (Faulted code span) c h) (Halt e d j) f g k l w go out = w
handled seen K Q1 R1 Q R (Halt (Stuck mistake span) c h) t f g k l w go out = absurd w
handled seen K Q1 R1 Q R (Done x c h) (Thrown y d j) f g k l w go out = absurd w
handled seen K Q1 R1 Q R (Done x c h) (Halt e d j) f g k l w go out = absurd w
handled seen K Q1 R1 Q R (Thrown x c h) (Done y d j) f g k l w go out = absurd w
handled seen K Q1 R1 Q R (Thrown x c h) (Halt e d j) f g k l w go out = absurd w
handled seen K Q1 R1 Q R (Halt (Faulted code span) c h) (Done y d j) f g k l w go out = absurd w
handled seen K Q1 R1 Q R (Halt (Faulted code span) c h) (Thrown y d j) f g k l w go out = absurd w

module _ {C D E F S T : Type 0} (w : Claims C D E F S T) (m : Meaning C E S) (n : Meaning D F T) (v : Meets w m n) where
  pub twins_run : {A B : Type 0} (Q : A → B → C → Type 0) (R : Value → C → Type 0) (p : Plan C E S A) (q : Plan D F T B) (h : Meter) → Twins w Q R p q → SameEnd w.seen w.halted Q R (run m p h) (run n q h)
  twins_run Q R (Ret x c) (Ret y d) h t = (t.0, refl, t.1)
  twins_run Q R (Raise x c) (Raise y d) h t = (t.0, refl, t.1, t.2)
  twins_run Q R (Stop (Faulted code span) c) (Stop e d) h t = (t.0, refl, t.1, t.2)
  twins_run Q R (Eval e c k) (Eval f d l) h t =
      subst (λ c1. SameEnd w.seen w.halted Q R (run m (Eval e c k) h) (run n (Eval f c1 l) h)) t.2
      (handled w.seen w.halted (λ x y c1. (x ≡ y) × w.expr_out t.0 x c1) (w.expr_thrown t.0) Q R (m.expr e c h) (n.expr f (w.seen c) h) (λ x c1 h1. run m (k x c1) h1) Thrown (λ x c1 h1. run n (l x c1) h1) Thrown (v.expr t.0 e f c h t.1)
      (λ x y c1 h1 o. subst (λ z. SameEnd w.seen w.halted Q R (run m (k x c1) h1) (run n (l z (w.seen c1)) h1)) o.0 (twins_run Q R (k x c1) (l x (w.seen c1)) h1 (t.3 x c1 o.1)))
      (λ x c1 h1 o. (refl, refl, refl, t.4 x c1 o)))
  twins_run Q R (Exec e c k) (Exec f d l) h t =
      subst (λ c1. SameEnd w.seen w.halted Q R (run m (Exec e c k) h) (run n (Exec f c1 l) h)) t.2
      (handled w.seen w.halted (λ x y c1. (x ≡ y) × w.stmt_out t.0 x c1) (w.stmt_thrown t.0) Q R (m.stmt e c h) (n.stmt f (w.seen c) h) (λ x c1 h1. run m (k x c1) h1) Thrown (λ x c1 h1. run n (l x c1) h1) Thrown (v.stmt t.0 e f c h t.1)
      (λ x y c1 h1 o. subst (λ z. SameEnd w.seen w.halted Q R (run m (k x c1) h1) (run n (l z (w.seen c1)) h1)) o.0 (twins_run Q R (k x c1) (l x (w.seen c1)) h1 (t.3 x c1 o.1)))
      (λ x c1 h1 o. (refl, refl, refl, t.4 x c1 o)))
  twins_run Q R (Put bytes p) (Put others q) h t = subst (λ b. SameEnd w.seen w.halted Q R (run m p (wrote h bytes)) (run n q (wrote h b))) t.0 (twins_run Q R p q (wrote h bytes) t.1)
  twins_run Q R (Within p f g) (Within q k l) h t =
      handled w.seen w.halted (λ x y c. Twins w Q R (f x c) (k y (w.seen c))) (λ x c. Twins w Q R (g x c) (l x (w.seen c))) Q R (run m p h) (run n q h) (λ x c1 h1. run m (f x c1) h1) (λ x c1 h1. run m (g x c1) h1) (λ x c1 h1. run n (k x c1) h1) (λ x c1 h1. run n (l x c1) h1)
      (twins_run (λ x y c. Twins w Q R (f x c) (k y (w.seen c))) (λ x c. Twins w Q R (g x c) (l x (w.seen c))) p q h t)
      (λ x y c1 h1 o. twins_run Q R (f x c1) (k y (w.seen c1)) h1 o) (λ x c1 h1 o. twins_run Q R (g x c1) (l x (w.seen c1)) h1 o)
  twins_run Q R p q h t = absurd t

entered : {C D A B : Type 0} (seen : C → D) (K : C → Type 0) (Q : A → B → C → Type 0) (R : Value → C → Type 0) (span : Span) (deep : Bool) (c : C) (h : Meter) (go : Meter → Outcome C A) (run_on : Meter → Outcome D B) → K c → ((h1 : Meter) → SameEnd seen K Q R (go h1) (run_on h1)) → (b : Bool) →
    SameEnd seen K Q R (cond b (Halt (Faulted D13 span) c h) (cond deep (Halt (Faulted D12 span) c h) (go (record h { steps = h.steps - 1 }))))
    (cond b (Halt (Faulted D13 span) (seen c) h) (cond deep (Halt (Faulted D12 span) (seen c) h) (run_on (record h { steps = h.steps - 1 }))))
entered seen K Q R span deep c h go run_on i k true = (refl, refl, refl, i)
entered seen K Q R span true c h go run_on i k false = (refl, refl, refl, i)
entered seen K Q R span false c h go run_on i k false = k (record h { steps = h.steps - 1 })

-- the entry into a pair of nodes
entered_both : {C D A B : Type 0} (seen : C → D) (K : C → Type 0) (Q : A → B → C → Type 0) (R : Value → C → Type 0) (here there : Span) (deep : Bool) (c : C) (h : Meter) (go : Meter → Outcome C A) (run_on : Meter → Outcome D B) → here ≡ there → K c → ((h1 : Meter) → SameEnd seen K Q R (go h1) (run_on h1)) →
    SameEnd seen K Q R (enter here deep c h go) (enter there deep (seen c) h run_on)
entered_both seen K Q R here there deep c h go run_on e i k = subst (λ at. SameEnd seen K Q R (enter here deep c h go) (enter at deep (seen c) h run_on)) e (entered seen K Q R here deep c h go run_on i k (h.steps == 0))

-- where each pair of forms does the same, and a run may halt at its entry, all nodes do the same, however many may be open
pub record Forms {C D E F S T : Type 0} (n : Nodes C E S) (m : Nodes D F T) (w : Claims C D E F S T) : Type 0 where
  pub expr : (i : w.I) (e : E) (f : F) (c : C) → w.expr_in i e f c → Twins w (λ x y c1. (x ≡ y) × w.expr_out i x c1) (w.expr_thrown i) (n.expr e c) (m.expr f (w.seen c))
  pub stmt : (j : w.J) (s : S) (t : T) (c : C) → w.stmt_in j s t c → Twins w (λ x y c1. (x ≡ y) × w.stmt_out j x c1) (w.stmt_thrown j) (n.stmt s c) (m.stmt t (w.seen c))
  pub expr_at : (i : w.I) (e : E) (f : F) (c : C) → w.expr_in i e f c → n.expr_at e ≡ m.expr_at f
  pub stmt_at : (j : w.J) (s : S) (t : T) (c : C) → w.stmt_in j s t c → n.stmt_at s ≡ m.stmt_at t
  pub expr_halts : (i : w.I) (e : E) (f : F) (c : C) → w.expr_in i e f c → w.halted c
  pub stmt_halts : (j : w.J) (s : S) (t : T) (c : C) → w.stmt_in j s t c → w.halted c

pub twins : {C D E F S T : Type 0} (n : Nodes C E S) (m : Nodes D F T) (w : Claims C D E F S T) → Forms n m w → (d : ℕ) → Meets w (meanings n d) (meanings m d)
twins n m w f zero = record {
  expr = λ i e g c h p. entered_both w.seen w.halted (λ x y c1. (x ≡ y) × w.expr_out i x c1) (w.expr_thrown i) (n.expr_at e) (m.expr_at g) true c h (λ h1. Halt (Faulted D12 (n.expr_at e)) c h1) (λ h1. Halt (Faulted D12 (m.expr_at g)) (w.seen c) h1) (f.expr_at i e g c p) (f.expr_halts i e g c p) (λ h1. (refl, refl, ap (Faulted D12) (f.expr_at i e g c p), f.expr_halts i e g c p));
  stmt = λ j s t c h p. entered_both w.seen w.halted (λ x y c1. (x ≡ y) × w.stmt_out j x c1) (w.stmt_thrown j) (n.stmt_at s) (m.stmt_at t) true c h (λ h1. Halt (Faulted D12 (n.stmt_at s)) c h1) (λ h1. Halt (Faulted D12 (m.stmt_at t)) (w.seen c) h1) (f.stmt_at j s t c p) (f.stmt_halts j s t c p) (λ h1. (refl, refl, ap (Faulted D12) (f.stmt_at j s t c p), f.stmt_halts j s t c p));
}
twins n m w f (suc d) = record {
  expr = λ i e g c h p. entered_both w.seen w.halted (λ x y c1. (x ≡ y) × w.expr_out i x c1) (w.expr_thrown i) (n.expr_at e) (m.expr_at g) false c h (run (meanings n d) (n.expr e c)) (run (meanings m d) (m.expr g (w.seen c))) (f.expr_at i e g c p) (f.expr_halts i e g c p)
      (λ h1. twins_run w (meanings n d) (meanings m d) (twins n m w f d) (λ x y c1. (x ≡ y) × w.expr_out i x c1) (w.expr_thrown i) (n.expr e c) (m.expr g (w.seen c)) h1 (f.expr i e g c p));
  stmt = λ j s t c h p. entered_both w.seen w.halted (λ x y c1. (x ≡ y) × w.stmt_out j x c1) (w.stmt_thrown j) (n.stmt_at s) (m.stmt_at t) false c h (run (meanings n d) (n.stmt s c)) (run (meanings m d) (m.stmt t (w.seen c))) (f.stmt_at j s t c p) (f.stmt_halts j s t c p)
      (λ h1. twins_run w (meanings n d) (meanings m d) (twins n m w f d) (λ x y c1. (x ≡ y) × w.stmt_out j x c1) (w.stmt_thrown j) (n.stmt s c) (m.stmt t (w.seen c)) h1 (f.stmt j s t c p));
}

-- what two plans hand on may be said more weakly
pub twins_weaker : {C D E F S T A B : Type 0} (w : Claims C D E F S T) (Q P : A → B → C → Type 0) (R Z : Value → C → Type 0) → ((x : A) (y : B) (c : C) → Q x y c → P x y c) → ((x : Value) (c : C) → R x c → Z x c) → (p : Plan C E S A) (q : Plan D F T B) → Twins w Q R p q → Twins w P Z p q
twins_weaker w Q P R Z f g (Ret x c) (Ret y d) t = (t.0, f x y c t.1)
twins_weaker w Q P R Z f g (Raise x c) (Raise y d) t = (t.0, t.1, g x c t.2)
twins_weaker w Q P R Z f g (Stop (Faulted code span) c) (Stop e d) t = t
twins_weaker w Q P R Z f g (Eval e c k) (Eval h d l) t = (t.0, t.1, t.2, λ x c1 o. twins_weaker w Q P R Z f g (k x c1) (l x (w.seen c1)) (t.3 x c1 o), λ x c1 o. g x c1 (t.4 x c1 o))
twins_weaker w Q P R Z f g (Exec e c k) (Exec h d l) t = (t.0, t.1, t.2, λ x c1 o. twins_weaker w Q P R Z f g (k x c1) (l x (w.seen c1)) (t.3 x c1 o), λ x c1 o. g x c1 (t.4 x c1 o))
twins_weaker w Q P R Z f g (Put bytes p) (Put others q) t = (t.0, twins_weaker w Q P R Z f g p q t.1)
twins_weaker w Q P R Z f g (Within p h k) (Within q l m) t =
    twins_weaker w (λ x y c. Twins w Q R (h x c) (l y (w.seen c))) (λ x y c. Twins w P Z (h x c) (l y (w.seen c))) (λ x c. Twins w Q R (k x c) (m x (w.seen c))) (λ x c. Twins w P Z (k x c) (m x (w.seen c)))
    (λ x y c. twins_weaker w Q P R Z f g (h x c) (l y (w.seen c))) (λ x c. twins_weaker w Q P R Z f g (k x c) (m x (w.seen c))) p q t
twins_weaker w Q P R Z f g p q t = absurd t
