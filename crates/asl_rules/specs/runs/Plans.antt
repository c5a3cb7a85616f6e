-- What a node does is a plan: a tree of steps over a state C, whose steps may be other nodes. One run of plans serves every
-- form of node, over every kind of state and of trees.
use Rattle.std.specs.Prelude.{ℕ, zero, suc, ◌-◌, ◌==◌, Bool, true, false, if◌then◌else◌, List, Option}
use Rattle.asl_syn.specs.declared.token.Span.{Span}
use Rattle.asl_syn.specs.declared.code.DynCode.{DynCode}
use Rattle.asl_syn.specs.declared.code.DynCode.TheVariants.{D12, D13}
use Rattle.asl_rules.specs.runs.Told.{appended, open_after}
use Rattle.asl_rules.specs.values.Values.{Value, Exit}

-- what no node reads: the steps that are left, the text so far where it is told, and whether what the run wrote is open
pub record Meter : Type 0 where
  pub steps : ℕ
  pub told : Option (List ℕ)
  pub text_open : Bool

-- as a run begins
abbrev pub starting : ℕ → Option (List ℕ) → Meter
starting steps told = record { steps = steps; told = told; text_open = false }

-- as bytes were written
abbrev pub wrote : Meter → List ℕ → Meter
wrote h bytes = record h { told = appended h.told bytes; text_open = open_after h.text_open bytes }

-- why the rules give a node no outcome
pub data Mistake : Type 0 where
  UnknownName : Mistake
  WrongKind : Mistake
  Immutable : Mistake
  EndReached : Mistake
  NothingCaught : Mistake
  UnknownType : Mistake
  CallBarred : Mistake

-- why a run stops: a fault of the rules, or a place where they give no outcome
pub data End : Type 0 where
  Faulted : DynCode → Span → End
  Stuck : Mistake → Span → End

-- what a part of a run gives, with the state and the meter after it
pub data Outcome (C A : Type 0) : Type 0 where
  Done : A → C → Meter → Outcome C A
  Thrown : Value → C → Meter → Outcome C A
  Halt : End → C → Meter → Outcome C A

abbrev pub final : {C A : Type 0} → Outcome C A → Meter
final (Done x c h) = h
final (Thrown x c h) = h
final (Halt e c h) = h

-- a plan over expressions E and statements S: it gives a value, throws, stops, evaluates an expression, executes a
-- statement, writes, or does a part and goes on with what the part gives or throws
pub data Plan (C E S : Type 0) : Type 0 → Type 1 where
  Ret : {A : Type 0} → A → C → Plan C E S A
  Raise : {A : Type 0} → Value → C → Plan C E S A
  Stop : {A : Type 0} → End → C → Plan C E S A
  Eval : {A : Type 0} → E → C → (Value → C → Plan C E S A) → Plan C E S A
  Exec : {A : Type 0} → S → C → (Exit → C → Plan C E S A) → Plan C E S A
  Put : {A : Type 0} → List ℕ → Plan C E S A → Plan C E S A
  Within : {A B : Type 0} → Plan C E S B → (B → C → Plan C E S A) → (Value → C → Plan C E S A) → Plan C E S A

abbrev pub choose : {C E S A : Type 0} → Bool → Plan C E S A → Plan C E S A → Plan C E S A
choose true p q = p
choose false p q = q

-- a part, whose throws are those of the whole
abbrev pub follow : {C E S A B : Type 0} → Plan C E S B → (B → C → Plan C E S A) → Plan C E S A
follow p k = Within p k Raise

-- what the nodes below mean
pub record Meaning (C E S : Type 0) : Type 0 where
  pub expr : E → C → Meter → Outcome C Value
  pub stmt : S → C → Meter → Outcome C Exit

abbrev pub handle : {C A B : Type 0} → Outcome C B → (B → C → Meter → Outcome C A) → (Value → C → Meter → Outcome C A) → Outcome C A
handle (Done x c h) f g = f x c h
handle (Thrown x c h) f g = g x c h
handle (Halt e c h) f g = Halt e c h

infixl 10 ◌>>=◌
abbrev pub ◌>>=◌ : {C A B : Type 0} → Outcome C B → (B → C → Meter → Outcome C A) → Outcome C A
r >>= f = handle r f Thrown

abbrev pub run : {C E S A : Type 0} → Meaning C E S → Plan C E S A → Meter → Outcome C A
run m (Ret x c) h = Done x c h
run m (Raise x c) h = Thrown x c h
run m (Stop e c) h = Halt e c h
run m (Eval e c k) h = m.expr e c h >>= λ x c1 h1. run m (k x c1) h1
run m (Exec t c k) h = m.stmt t c h >>= λ x c1 h1. run m (k x c1) h1
run m (Put bytes q) h = run m q (wrote h bytes)
run m (Within q f g) h = handle (run m q h) (λ x c1 h1. run m (f x c1) h1) (λ x c1 h1. run m (g x c1) h1)

-- the entry into a node takes a step: D13 where none is left, then D12 where no node more may be open
abbrev pub enter : {C A : Type 0} → Span → Bool → C → Meter → (Meter → Outcome C A) → Outcome C A
enter span deep c h go = if h.steps == 0 then Halt (Faulted D13 span) c h else (if deep then Halt (Faulted D12 span) c h else go (record h { steps = h.steps - 1 }))

-- what the nodes of a kind of tree do
pub record Nodes (C E S : Type 0) : Type 1 where
  pub expr_at : E → Span
  pub stmt_at : S → Span
  pub expr : E → C → Plan C E S Value
  pub stmt : S → C → Plan C E S Exit

-- the meaning of nodes where at most d more may be open
abbrev pub meanings : {C E S : Type 0} → Nodes C E S → ℕ → Meaning C E S
meanings n zero = record {
  expr = λ e c h. enter (n.expr_at e) true c h (λ h1. Halt (Faulted D12 (n.expr_at e)) c h1);
  stmt = λ t c h. enter (n.stmt_at t) true c h (λ h1. Halt (Faulted D12 (n.stmt_at t)) c h1);
}
meanings n (suc d) = record {
  expr = λ e c h. enter (n.expr_at e) false c h (run (meanings n d) (n.expr e c));
  stmt = λ t c h. enter (n.stmt_at t) false c h (run (meanings n d) (n.stmt t c));
}

-- what an operator gives of its values
pub data Pure (A : Type 0) : Type 0 where
  Good : A → Pure A
  Bad : End → Pure A

abbrev pub lift : {C E S A B : Type 0} → Pure A → C → (A → Plan C E S B) → Plan C E S B
lift (Good x) c k = k x
lift (Bad e) c k = Stop e c
