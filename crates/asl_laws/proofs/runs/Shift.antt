-- Runs that differ only in the text that stood before them: they have one outcome, one state and the same steps, and each
-- adds the same text of its own. By the shape of plans alone.
use Rattle.std.proofs.Common.{◌≡◌, ℕ, zero, suc, ◌-◌, ◌==◌, Bool, true, false, cond, not, List, [], ◌∷◌, ◌++◌, Option, Some, None, refl, sym, ap, ◌∙◌, append_assoc}
use Rattle.std.specs.Prelude.{option_map}
use Rattle.asl_syn.specs.declared.token.Span.{Span}
use Rattle.asl_syn.specs.declared.code.DynCode.TheVariants.{D12, D13}
use Rattle.asl_rules.specs.runs.Told.{appended, open_after}
use Rattle.asl_rules.specs.values.Values.{Value}
use Rattle.asl_rules.specs.runs.States.{Binding, resting}
use Rattle.asl_rules.specs.runs.Plans.{Meter, starting, wrote, Faulted, Outcome, Done, Thrown, Halt, final, Plan, Ret, Raise, Stop, Eval, Exec, Put, Within, Meaning, handle, run, Nodes, meanings}
use Rattle.asl_rules.specs.declarations.Programs.{Environment}
use Rattle.asl_rules.specs.runs.Evaluation.{nodes, call_of}
use Rattle.asl_rules.specs.runs.Machines.{most_open, run_of}
use Rattle.asl_laws.proofs.runs.Budget.{append_nil}

-- with another text
abbrev pub retold : (Option (List ℕ) → Option (List ℕ)) → Meter → Meter
retold F h = record h { told = F h.told }

abbrev pub retold_end : {C A : Type 0} → (Option (List ℕ) → Option (List ℕ)) → Outcome C A → Outcome C A
retold_end F (Done x c h) = Done x c (retold F h)
retold_end F (Thrown x c h) = Thrown x c (retold F h)
retold_end F (Halt e c h) = Halt e c (retold F h)

-- the change of the text doesn't touch what is written behind it
abbrev pub Commutes : (Option (List ℕ) → Option (List ℕ)) → Type 0
Commutes F = (t : Option (List ℕ)) (bytes : List ℕ) → F (appended t bytes) ≡ appended (F t) bytes

pub record Shifts {C E S : Type 0} (F : Option (List ℕ) → Option (List ℕ)) (m : Meaning C E S) : Type 0 where
  pub expr : (e : E) (c : C) (h : Meter) → m.expr e c (retold F h) ≡ retold_end F (m.expr e c h)
  pub stmt : (s : S) (c : C) (h : Meter) → m.stmt s c (retold F h) ≡ retold_end F (m.stmt s c h)

handle_shift : {C A B : Type 0} (F : Option (List ℕ) → Option (List ℕ)) (r : Outcome C B) (f : B → C → Meter → Outcome C A) (g : Value → C → Meter → Outcome C A) → ((x : B) (c : C) (h : Meter) → f x c (retold F h) ≡ retold_end F (f x c h)) → ((x : Value) (c : C) (h : Meter) → g x c (retold F h) ≡ retold_end F (g x c h)) → handle (retold_end F r) f g ≡ retold_end F (handle r f g)
handle_shift F (Done x c h) f g kf kg = kf x c h
handle_shift F (Thrown x c h) f g kf kg = kg x c h
handle_shift F (Halt e c h) f g kf kg = refl

module _ {C E S : Type 0} (F : Option (List ℕ) → Option (List ℕ)) (commutes : Commutes F) (m : Meaning C E S) (v : Shifts F m) where
  pub run_shift : {A : Type 0} (q : Plan C E S A) (h : Meter) → run m q (retold F h) ≡ retold_end F (run m q h)
  run_shift (Ret x c) h = refl
  run_shift (Raise x c) h = refl
  run_shift (Stop e c) h = refl
  run_shift (Eval e c k) h = ap (λ r. handle r (λ x c1 h1. run m (k x c1) h1) Thrown) (v.expr e c h) ∙ handle_shift F (m.expr e c h) (λ x c1 h1. run m (k x c1) h1) Thrown (λ x c1 h1. run_shift (k x c1) h1) (λ x c1 h1. refl)
  run_shift (Exec s c k) h = ap (λ r. handle r (λ x c1 h1. run m (k x c1) h1) Thrown) (v.stmt s c h) ∙ handle_shift F (m.stmt s c h) (λ x c1 h1. run m (k x c1) h1) Thrown (λ x c1 h1. run_shift (k x c1) h1) (λ x c1 h1. refl)
  run_shift (Put bytes q) h = ap (λ t. run m q (record (wrote h bytes) { told = t })) (sym (commutes h.told bytes)) ∙ run_shift q (wrote h bytes)
  run_shift (Within q f g) h = ap (λ r. handle r (λ x c1 h1. run m (f x c1) h1) (λ x c1 h1. run m (g x c1) h1)) (run_shift q h) ∙ handle_shift F (run m q h) (λ x c1 h1. run m (f x c1) h1) (λ x c1 h1. run m (g x c1) h1) (λ x c1 h1. run_shift (f x c1) h1) (λ x c1 h1. run_shift (g x c1) h1)

enter_shift : {C A : Type 0} (F : Option (List ℕ) → Option (List ℕ)) (span : Span) (deep : Bool) (c : C) (h : Meter) (go : Meter → Outcome C A) → ((h1 : Meter) → go (retold F h1) ≡ retold_end F (go h1)) → (b : Bool) →
    cond b (Halt (Faulted D13 span) c (retold F h)) (cond deep (Halt (Faulted D12 span) c (retold F h)) (go (record (retold F h) { steps = h.steps - 1 })))
    ≡ retold_end F (cond b (Halt (Faulted D13 span) c h) (cond deep (Halt (Faulted D12 span) c h) (go (record h { steps = h.steps - 1 }))))
enter_shift F span deep c h go k true = refl
enter_shift F span true c h go k false = refl
enter_shift F span false c h go k false = k (record h { steps = h.steps - 1 })

pub shifts : {C E S : Type 0} (F : Option (List ℕ) → Option (List ℕ)) → Commutes F → (n : Nodes C E S) (d : ℕ) → Shifts F (meanings n d)
shifts F k n zero = record {
  expr = λ e c h. enter_shift F (n.expr_at e) true c h (λ h1. Halt (Faulted D12 (n.expr_at e)) c h1) (λ h1. refl) (h.steps == 0);
  stmt = λ s c h. enter_shift F (n.stmt_at s) true c h (λ h1. Halt (Faulted D12 (n.stmt_at s)) c h1) (λ h1. refl) (h.steps == 0);
}
shifts F k n (suc d) = record {
  expr = λ e c h. enter_shift F (n.expr_at e) false c h (run (meanings n d) (n.expr e c)) (run_shift F k (meanings n d) (shifts F k n d) (n.expr e c)) (h.steps == 0);
  stmt = λ s c h. enter_shift F (n.stmt_at s) false c h (run (meanings n d) (n.stmt s c)) (run_shift F k (meanings n d) (shifts F k n d) (n.stmt s c)) (h.steps == 0);
}

-- a text behind another, where both are told
abbrev pub behind : Option (List ℕ) → Option (List ℕ) → Option (List ℕ)
behind None t = None
behind (Some old) t = option_map (λ own. old ++ own) t

pub behind_commutes : (old : Option (List ℕ)) → Commutes (behind old)
behind_commutes None t bytes = refl
behind_commutes (Some old) None bytes = refl
behind_commutes (Some old) (Some own) bytes = ap Some (sym (append_assoc old own bytes))

pub behind_nothing : (old : Option (List ℕ)) → behind old (Some []) ≡ old
behind_nothing None = refl
behind_nothing (Some old) = ap Some (append_nil old)

-- what the text that stood before becomes
pub behind_own : (old : Option (List ℕ)) (own : List ℕ) → behind old (Some own) ≡ appended old own
behind_own None own = refl
behind_own (Some old) own = refl

-- a call from outside over a text is the call over no text, with its own text behind the other
pub run_behind : (env : Environment) (id : ℕ) (args : List Value) (globals : List Binding) (steps : ℕ) (old : Option (List ℕ)) →
    run_of env id args globals (starting steps old) ≡ retold_end (behind old) (run_of env id args globals (starting steps (Some [])))
unfolding run_of
run_behind env id args globals steps old =
    ap (λ t. run (meanings (nodes env) most_open) (call_of env id args (resting globals)) (starting steps t)) (sym (behind_nothing old)) ∙
    run_shift (behind old) (behind_commutes old) (meanings (nodes env) most_open) (shifts (behind old) (behind_commutes old) (nodes env) most_open) (call_of env id args (resting globals)) (starting steps (Some []))

-- what holds of a meter, and is kept by steps and by what is written, holds as a run ends
pub record IsKept (P : Meter → Type 0) : Type 0 where
  pub steps : (h : Meter) (n : ℕ) → P h → P (record h { steps = n })
  pub wrote : (h : Meter) (bytes : List ℕ) → P h → P (wrote h bytes)

pub record Keeps {C E S : Type 0} (P : Meter → Type 0) (m : Meaning C E S) : Type 0 where
  pub expr : (e : E) (c : C) (h : Meter) → P h → P (final (m.expr e c h))
  pub stmt : (s : S) (c : C) (h : Meter) → P h → P (final (m.stmt s c h))

handle_keeps : {C A B : Type 0} (P : Meter → Type 0) (r : Outcome C B) (f : B → C → Meter → Outcome C A) (g : Value → C → Meter → Outcome C A) → P (final r) → ((x : B) (c : C) (h : Meter) → P h → P (final (f x c h))) → ((x : Value) (c : C) (h : Meter) → P h → P (final (g x c h))) → P (final (handle r f g))
handle_keeps P (Done x c h) f g p kf kg = kf x c h p
handle_keeps P (Thrown x c h) f g p kf kg = kg x c h p
handle_keeps P (Halt e c h) f g p kf kg = p

module _ {C E S : Type 0} (P : Meter → Type 0) (kept : IsKept P) (m : Meaning C E S) (v : Keeps P m) where
  pub run_keeps : {A : Type 0} (q : Plan C E S A) (h : Meter) → P h → P (final (run m q h))
  run_keeps (Ret x c) h p = p
  run_keeps (Raise x c) h p = p
  run_keeps (Stop e c) h p = p
  run_keeps (Eval e c k) h p = handle_keeps P (m.expr e c h) (λ x c1 h1. run m (k x c1) h1) Thrown (v.expr e c h p) (λ x c1 h1. run_keeps (k x c1) h1) (λ x c1 h1 p1. p1)
  run_keeps (Exec s c k) h p = handle_keeps P (m.stmt s c h) (λ x c1 h1. run m (k x c1) h1) Thrown (v.stmt s c h p) (λ x c1 h1. run_keeps (k x c1) h1) (λ x c1 h1 p1. p1)
  run_keeps (Put bytes q) h p = run_keeps q (wrote h bytes) (kept.wrote h bytes p)
  run_keeps (Within q f g) h p = handle_keeps P (run m q h) (λ x c1 h1. run m (f x c1) h1) (λ x c1 h1. run m (g x c1) h1) (run_keeps q h p) (λ x c1 h1. run_keeps (f x c1) h1) (λ x c1 h1. run_keeps (g x c1) h1)

enter_keeps : {C A : Type 0} (P : Meter → Type 0) → IsKept P → (span : Span) (deep : Bool) (c : C) (h : Meter) (go : Meter → Outcome C A) → P h → ((h1 : Meter) → P h1 → P (final (go h1))) → (b : Bool) → P (final (cond b (Halt (Faulted D13 span) c h) (cond deep (Halt (Faulted D12 span) c h) (go (record h { steps = h.steps - 1 })))))
enter_keeps P kept span deep c h go p k true = p
enter_keeps P kept span true c h go p k false = p
enter_keeps P kept span false c h go p k false = k (record h { steps = h.steps - 1 }) (kept.steps h (h.steps - 1) p)

pub keeps : {C E S : Type 0} (P : Meter → Type 0) → IsKept P → (n : Nodes C E S) (d : ℕ) → Keeps P (meanings n d)
keeps P kept n zero = record {
  expr = λ e c h p. enter_keeps P kept (n.expr_at e) true c h (λ h1. Halt (Faulted D12 (n.expr_at e)) c h1) p (λ h1 p1. p1) (h.steps == 0);
  stmt = λ s c h p. enter_keeps P kept (n.stmt_at s) true c h (λ h1. Halt (Faulted D12 (n.stmt_at s)) c h1) p (λ h1 p1. p1) (h.steps == 0);
}
keeps P kept n (suc d) = record {
  expr = λ e c h p. enter_keeps P kept (n.expr_at e) false c h (run (meanings n d) (n.expr e c)) p (run_keeps P kept (meanings n d) (keeps P kept n d) (n.expr e c)) (h.steps == 0);
  stmt = λ s c h p. enter_keeps P kept (n.stmt_at s) false c h (run (meanings n d) (n.stmt s c)) p (run_keeps P kept (meanings n d) (keeps P kept n d) (n.stmt s c)) (h.steps == 0);
}

-- the text of a run is told, and the run says whether it is open
pub record OwnText (h : Meter) : Type 0 where
  pub text : List ℕ
  pub told : h.told ≡ Some text
  pub text_open : h.text_open ≡ open_after false text

open_after_twice : (b : Bool) (xs ys : List ℕ) → open_after (open_after b xs) ys ≡ open_after b (xs ++ ys)
open_after_twice b [] ys = refl
open_after_twice b (x ∷ xs) ys = open_after_twice (not (x == 10)) xs ys

pub own_text_kept : IsKept OwnText
own_text_kept = record {
  steps = λ h n p. record { text = p.text; told = p.told; text_open = p.text_open };
  wrote = λ h bytes p. record {
    text = p.text ++ bytes;
    told = ap (λ t. appended t bytes) p.told;
    text_open = ap (λ b. open_after b bytes) p.text_open ∙ open_after_twice false p.text bytes;
  };
}

-- a call from outside over no text has a text of its own
pub own_text : (env : Environment) (id : ℕ) (args : List Value) (globals : List Binding) (steps : ℕ) → OwnText (final (run_of env id args globals (starting steps (Some []))))
unfolding run_of
own_text env id args globals steps =
    run_keeps OwnText own_text_kept (meanings (nodes env) most_open) (keeps OwnText own_text_kept (nodes env) most_open) (call_of env id args (resting globals)) (starting steps (Some [])) (record { text = []; told = refl; text_open = refl })
