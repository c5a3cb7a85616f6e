-- The nodes that a run enters, in order.
use Rattle.std.specs.Prelude.{◌≡◌, ◌≤◌, ℕ, zero, suc, ◌-◌, ◌==◌, Bool, true, false, List, [], ◌∷◌, ◌++◌}
use Rattle.asl_rules.specs.values.Values.{Value}
use Rattle.asl_rules.specs.runs.Plans.{Meter, Outcome, Done, Thrown, Halt, Plan, Ret, Raise, Stop, Eval, Exec, Put, Within, Meaning, run, wrote, Nodes, meanings}

-- a node that is entered
pub data Entered (E S : Type 0) : Type 0 where
  AtExpr : E → Entered E S
  AtStmt : S → Entered E S

-- a visit: the node, the state at its entry, the steps that are left behind it, and how many nodes are open with it
pub record Visit (C E S : Type 0) : Type 0 where
  pub node : Entered E S
  pub state : C
  pub steps : ℕ
  pub nodes_open : ℕ

-- the visits of the nodes below
pub record Trail (C E S : Type 0) : Type 0 where
  pub expr : E → C → Meter → List (Visit C E S)
  pub stmt : S → C → Meter → List (Visit C E S)

abbrev pub after : {C A V : Type 0} → Outcome C A → (A → C → Meter → List V) → (Value → C → Meter → List V) → List V
after (Done x c h) f g = f x c h
after (Thrown x c h) f g = g x c h
after (Halt e c h) f g = []

abbrev pub visits : {C E S A : Type 0} → Meaning C E S → Trail C E S → Plan C E S A → Meter → List (Visit C E S)
visits m t (Ret x c) h = []
visits m t (Raise x c) h = []
visits m t (Stop e c) h = []
visits m t (Eval e c k) h = t.expr e c h ++ after (m.expr e c h) (λ x c1 h1. visits m t (k x c1) h1) (λ x c1 h1. [])
visits m t (Exec s c k) h = t.stmt s c h ++ after (m.stmt s c h) (λ x c1 h1. visits m t (k x c1) h1) (λ x c1 h1. [])
visits m t (Put bytes q) h = visits m t q (wrote h bytes)
visits m t (Within q f g) h = visits m t q h ++ after (run m q h) (λ x c1 h1. visits m t (f x c1) h1) (λ x c1 h1. visits m t (g x c1) h1)

-- a node is entered where a step is left
abbrev pub entered_at : {V : Type 0} → Bool → V → List V → List V
entered_at true v rest = []
entered_at false v rest = v ∷ rest

-- the visits of nodes, where d more may be open and k are
abbrev pub trails : {C E S : Type 0} → Nodes C E S → ℕ → ℕ → Trail C E S
trails n zero k = record { expr = λ e c h. []; stmt = λ s c h. [] }
trails n (suc d) k = record {
  expr = λ e c h. entered_at (h.steps == 0) (record { node = AtExpr e; state = c; steps = h.steps - 1; nodes_open = suc k }) (visits (meanings n d) (trails n d (suc k)) (n.expr e c) (record h { steps = h.steps - 1 }));
  stmt = λ s c h. entered_at (h.steps == 0) (record { node = AtStmt s; state = c; steps = h.steps - 1; nodes_open = suc k }) (visits (meanings n d) (trails n d (suc k)) (n.stmt s c) (record h { steps = h.steps - 1 }));
}

-- ---- what is said of all visits of a run

-- each takes one step: the steps fall from n to m by one at each visit
abbrev pub Falls : {C E S : Type 0} → ℕ → List (Visit C E S) → ℕ → Type 0
Falls n [] m = n ≡ m
Falls n (v ∷ vs) m = (n ≡ suc v.steps) × Falls v.steps vs m

-- no more than these nodes are open
abbrev pub NoMoreOpen : {C E S : Type 0} → ℕ → List (Visit C E S) → Type 0
NoMoreOpen most [] = Unit {0}
NoMoreOpen most (v ∷ vs) = (v.nodes_open ≤ most) × NoMoreOpen most vs
