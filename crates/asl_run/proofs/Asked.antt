-- Conditions, and what comes behind them.
use Rattle.std.proofs.Common.{◌≡◌, ℕ, Bool, List, Option, Some, Ok, Err, ap, subst}
use Rattle.asl_syn.specs.declared.token.Span.{Span}
use Rattle.asl_rules.specs.runs.Plans.{Outcome, Done, Thrown, Ret, choose, handle, lift, run}
use Rattle.asl_rules.specs.runs.StatementForms.{asked}
use Rattle.asl_rules.specs.runs.Trees.{Tree}
use Rattle.asl_rules.specs.private.TypedMeaning.{BareCore, Runs, itself}
use Rattle.asl_rules.specs.values.Operators.{truth}
use Rattle.asl_rules.specs.values.Values.{Value, Exit, bool}
use Rattle.asl_tree.specs.View.{tree_of}
use Rattle.asl_tree.specs.declared.act.TreeFunc.{TreeFunc}
use Rattle.asl_tree.specs.declared.tree.Tree.{Tree as TypedTree}
use Rattle.asl_branches.specs.Meets.{At, Ran, Underway}
use Rattle.asl_branches.specs.View.{core_of, exit_of, meaning_of, meter_of}
use Rattle.asl_branches.specs.declared.run.Run.{Run}
use Rattle.asl_branches.specs.declared.setting.Setting.{Setting}
use Rattle.asl_branches.specs.declared.stop.Stop.{Stop as Stopped}
use Rattle.asl_branches.proofs.Answered.{turn_failed, turned}
use Rattle.asl_branches.proofs.Turns.{Goes, goes_eval, goes_lift, goes_ret}
use Rattle.asl_run.specs.private.Asking.{condition}
use Rattle.asl_run.specs.private.AtOnce.{Finds, meter_at}

-- one that was found at once
pub asked_at_once : (o : Option Value) (b : Bool) (fs : List TreeFunc) (d : ℕ) (span : Span) (e : TypedTree) (s : Run) (n : ℕ)
    (told : Option (List ℕ)) → o ≡ Some (bool b) → Finds o fs d e s s.steps n →
    run (meaning_of fs d) (condition span (tree_of e) (core_of s)) (meter_of s told) ≡ Done b (core_of s) (meter_at n told s)
asked_at_once o b fs d span e s n told is f =
    ap (λ (t : Outcome BareCore Value). handle t (λ x c h. run (meaning_of fs d) (lift (truth span x) c (λ p. Ret p c)) h) Thrown)
    (subst (λ (v : Option Value). Finds v fs d e s s.steps n) is f told)

-- one of two plans comes behind it
pub asked_goes : {A : Type 0} (fs : List TreeFunc) (d : ℕ) (span : Span) (e : Tree) (c : BareCore) (first second : BareCore → Runs A) →
    Goes fs d (condition span e c) (asked span e c first second) (λ b c1. choose b (first c1) (second c1))
asked_goes fs d span e c first second =
    goes_eval fs d e c _ (λ x c1. lift (truth span x) c1 (λ b. choose b (first c1) (second c1))) _
    (λ x c1. goes_lift fs d (truth span x) c1 _ (λ b. choose b (first c1) (second c1)) _
    (λ b. goes_ret fs d b c1 (λ p c2. choose p (first c2) (second c2))))

-- ---- in a loop

pub asked_next : (h : Setting) (span : Span) (e : Tree) (f g : BareCore → Runs Exit) (b : Bool) (q : BareCore → Runs Exit)
    (a0 a1 a2 : At) →
    Ran itself (Ok b) h (condition span e) a1 a2 → Underway h (λ c. asked span e c f g) a1 q a0 →
    Underway h (λ c. choose b (f c) (g c)) a2 q a0
asked_next h span e f g b q a0 a1 a2 n u =
    turned itself h (condition span e) (λ c. asked span e c f g) q (λ t c. choose t (f c) (g c)) a0 a1 a2 b
    (asked_goes h.funcs.now h.depth span e (core_of a1.run) f g) n u

-- it stops the run
pub asking_failed : (h : Setting) (span : Span) (e : Tree) (f g : BareCore → Runs Exit) (r : Stopped) (q : BareCore → Runs Exit)
    (a0 a1 a2 : At) →
    Ran itself (Err r) h (condition span e) a1 a2 → Underway h (λ c. asked span e c f g) a1 q a0 → Ran exit_of (Err r) h q a0 a2
asking_failed h span e f g r q a0 a1 a2 n u =
    turn_failed itself exit_of h (condition span e) (λ c. asked span e c f g) q (λ t c. choose t (f c) (g c)) a0 a1 a2 r
    (asked_goes h.funcs.now h.depth span e (core_of a1.run) f g) n u
