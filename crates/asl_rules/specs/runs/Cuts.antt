-- Where a run may be given up: at each moment, and within what is written.
use Rattle.std.specs.Prelude.{◌≡◌, ℕ, zero, suc, ◌-◌, ◌==◌, Bool, true, false, ◌⊎◌}
use Rattle.asl_rules.specs.runs.Told.{Part}
use Rattle.asl_rules.specs.runs.Plans.{Meter, Outcome, Done, Thrown, Halt, Plan, Ret, Raise, Stop, Eval, Exec, Put, Within, Meaning, Nodes, meanings, run, wrote}
use Rattle.asl_rules.specs.values.Values.{Value}

-- the meters at which the nodes below may be given up
pub record Cutting (C E S : Type 0) : Type 1 where
  pub expr : E → C → Meter → Meter → Type 0
  pub stmt : S → C → Meter → Meter → Type 0

abbrev pub rest : {C A : Type 0} → Outcome C A → (A → C → Meter → Type 0) → (Value → C → Meter → Type 0) → Type 0
rest (Done x c h) f g = f x c h
rest (Thrown x c h) f g = g x c h
rest (Halt e c h) f g = ⊥

abbrev pub within : {C E S A : Type 0} → Meaning C E S → Cutting C E S → Plan C E S A → Meter → Meter → Type 0
within m z (Ret x c) h u = ⊥
within m z (Raise x c) h u = ⊥
within m z (Stop e c) h u = ⊥
within m z (Eval e c k) h u = z.expr e c h u ⊎ rest (m.expr e c h) (λ x c1 h1. (u ≡ h1) ⊎ within m z (k x c1) h1 u) (λ x c1 h1. ⊥)
within m z (Exec t c k) h u = z.stmt t c h u ⊎ rest (m.stmt t c h) (λ x c1 h1. (u ≡ h1) ⊎ within m z (k x c1) h1 u) (λ x c1 h1. ⊥)
within m z (Put bytes q) h u = ((u.steps ≡ h.steps) × Part h.told u.told bytes) ⊎ within m z q (wrote h bytes) u
within m z (Within q f g) h u = within m z q h u ⊎ rest (run m q h) (λ x c1 h1. (u ≡ h1) ⊎ within m z (f x c1) h1 u) (λ x c1 h1. (u ≡ h1) ⊎ within m z (g x c1) h1 u)

abbrev pub cuts : {C E S A : Type 0} → Meaning C E S → Cutting C E S → Plan C E S A → Meter → Meter → Type 0
cuts m z q h u = (u ≡ h) ⊎ within m z q h u

-- a node is given up only after its entry
abbrev pub entered : Bool → Type 0 → Type 0
entered true P = ⊥
entered false P = P

abbrev pub cuttings : {C E S : Type 0} → Nodes C E S → ℕ → Cutting C E S
cuttings n zero = record { expr = λ e c h u. ⊥; stmt = λ t c h u. ⊥ }
cuttings n (suc d) = record {
  expr = λ e c h u. entered (h.steps == 0) (cuts (meanings n d) (cuttings n d) (n.expr e c) (record h { steps = h.steps - 1 }) u);
  stmt = λ t c h u. entered (h.steps == 0) (cuts (meanings n d) (cuttings n d) (n.stmt t c) (record h { steps = h.steps - 1 }) u);
}
