-- The branches of an `if`, one by one.
use Rattle.std.proofs.Common.{◌≡◌, ℕ, ◌+◌, ◌<◌, ◌≤◌, Bool, List, ◌∷◌, length, get_or, drop, Ok, Err, sym, ap, ◌∙◌, subst}
use Rattle.std.proofs.lemmas.List.{at_drop_all}
use Rattle.asl_syn.specs.declared.token.Span.{Span}
use Rattle.asl_rules.specs.runs.Plans.{choose}
use Rattle.asl_rules.specs.runs.StatementForms.{branch, branches, scope}
use Rattle.asl_rules.specs.runs.Trees as rules
use Rattle.asl_rules.specs.runs.Trees.{Act}
use Rattle.asl_rules.specs.private.TypedMeaning.{BareCore, Runs, acts_of, branches_of, in_bare, itself}
use Rattle.asl_rules.specs.values.Values.{Exit}
use Rattle.asl_tree.specs.Acts.{AlternativeFirst, BranchFirst, CatcherFirst, act_rule, alternative_rule, branch_rule, catcher_rule, last_rule, branch_of, all_acts, all_branches}
use Rattle.asl_tree.specs.View.{tree_of}
use Rattle.asl_tree.specs.private.Room.{FitsBranches, FitsList}
use Rattle.asl_tree.specs.declared.act.Act.{Act as Doing}
use Rattle.asl_tree.specs.declared.act.Act.TheFolds.{fold-roll-Branch}
use Rattle.asl_tree.specs.declared.act.Act.TheOpen as layers
use Rattle.asl_tree.specs.declared.act.Branch.{Branch}
use Rattle.asl_tree.specs.declared.act.Branch.TheVariants as when
use Rattle.asl_tree.specs.declared.tree.Tree.{Tree as Asked}
use Rattle.asl_branches.specs.declared.setting.Setting.{Setting}
use Rattle.asl_branches.specs.declared.stop.Stop.{Stop as Stopped}
use Rattle.asl_branches.specs.Meets.{At, Ran, Underway}
use Rattle.asl_branches.specs.View.{exit_of}
use Rattle.asl_branches.proofs.Fronts.{at_front}
use Rattle.asl_run.specs.private.Asking.{condition}
use Rattle.asl_run.proofs.Asked.{asked_next, asking_failed}

first_branch : (e : Asked) (ss : List Doing) (bs : List Branch) → all_branches (when.Elsif e ss ∷ bs) ≡
    rules.branch_and (tree_of e) (all_acts ss) (all_branches bs)
first_branch e ss bs = ap (λ (f : BranchFirst). f (all_branches bs))
    (ap branch_of (sym (when.rolls-Elsif e ss)) ∙
    fold-roll-Branch rules.Act AlternativeFirst BranchFirst CatcherFirst rules.Last act_rule alternative_rule branch_rule catcher_rule
    last_rule (layers.Elsif e ss))

branch_when : (e : Asked) (ss : List Doing) (bs : List Branch) → branches_of (all_branches (when.Elsif e ss ∷ bs)) ≡
    record { condition = tree_of e; body = acts_of (all_acts ss) } ∷ branches_of (all_branches bs)
branch_when e ss bs = ap branches_of (first_branch e ss bs)

-- a branch's list fits, and so do the branches behind it
pub branch_fits : (r : ℕ) (bs : List Branch) (k : ℕ) (b : Branch) (e : Asked) (ss : List Doing) → k < length bs → b ≡ get_or bs k b →
    b ≡ when.Elsif e ss → FitsBranches r (all_branches (drop k bs)) →
    FitsList r (all_acts ss) × FitsBranches r (all_branches (drop (k + 1) bs))
branch_fits r bs k b e ss within here is fits =
    subst (λ us. FitsBranches r us)
    (ap all_branches (at_front bs k b within here ∙ ap (λ a. a ∷ drop (k + 1) bs) is) ∙ first_branch e ss (drop (k + 1) bs)) fits

-- what these branches and the last do
abbrev pub all_from : Span → List Branch → List Act → BareCore → Runs Exit
all_from span bs last c = branches in_bare itself span (branches_of (all_branches bs)) last c

-- what a branch and those behind it do
abbrev from_branch : Span → Asked → List Doing → List Branch → List Act → BareCore → Runs Exit
from_branch span e ss bs last c = branch in_bare span (tree_of e) (acts_of (all_acts ss)) (all_from span bs last) c

at_branch : (h : Setting) (span : Span) (bs : List Branch) (k : ℕ) (b : Branch) (e : Asked) (ss : List Doing) (last : List Act)
    (q : BareCore → Runs Exit) (a0 a1 : At) → k < length bs → b ≡ get_or bs k b → b ≡ when.Elsif e ss →
    Underway h (all_from span (drop k bs) last) a1 q a0 → Underway h (from_branch span e ss (drop (k + 1) bs) last) a1 q a0
at_branch h span bs k b e ss last q a0 a1 within here is u =
    subst (λ us. Underway h (branches in_bare itself span us last) a1 q a0)
    (ap (λ us. branches_of (all_branches us)) (at_front bs k b within here ∙ ap (λ a. a ∷ drop (k + 1) bs) is) ∙ branch_when e
    ss (drop (k + 1) bs)) u

-- its condition was asked: where it holds, the list is left, and where it doesn't, the branches behind it
pub branch_asked : (h : Setting) (span : Span) (bs : List Branch) (k : ℕ) (b : Branch) (e : Asked) (ss : List Doing) (last : List Act)
    (y : Bool) (q : BareCore → Runs Exit) (a0 a1 a2 : At) → k < length bs → b ≡ get_or bs k b → b ≡ when.Elsif e ss →
    Ran itself (Ok y) h (condition span (tree_of e)) a1 a2 → Underway h (all_from span (drop k bs) last) a1 q a0 →
    Underway h (λ c. choose y (scope in_bare (acts_of (all_acts ss)) c) (all_from span (drop (k + 1) bs) last c)) a2 q a0
branch_asked h span bs k b e ss last y q a0 a1 a2 within here is n u =
    asked_next h span (tree_of e) (scope in_bare (acts_of (all_acts ss))) (all_from span (drop (k + 1) bs) last) y q a0 a1 a2 n
    (at_branch h span bs k b e ss last q a0 a1 within here is u)

-- where it stops the run
pub branch_failed : (h : Setting) (span : Span) (bs : List Branch) (k : ℕ) (b : Branch) (e : Asked) (ss : List Doing) (last : List Act)
    (r : Stopped) (q : BareCore → Runs Exit) (a0 a1 a2 : At) → k < length bs → b ≡ get_or bs k b → b ≡ when.Elsif e ss →
    Ran itself (Err r) h (condition span (tree_of e)) a1 a2 → Underway h (all_from span (drop k bs) last) a1 q a0 →
    Ran exit_of (Err r) h q a0 a2
branch_failed h span bs k b e ss last r q a0 a1 a2 within here is n u =
    asking_failed h span (tree_of e) (scope in_bare (acts_of (all_acts ss))) (all_from span (drop (k + 1) bs) last) r q a0 a1 a2 n
    (at_branch h span bs k b e ss last q a0 a1 within here is u)

-- no branch is left
pub branches_ended : (h : Setting) (span : Span) (bs : List Branch) (k : ℕ) (last : List Act) (q : BareCore → Runs Exit) (a0 a1 : At) →
    length bs ≤ k → Underway h (all_from span (drop k bs) last) a1 q a0 → Underway h (scope in_bare last) a1 q a0
branches_ended h span bs k last q a0 a1 e u = subst (λ us. Underway h (all_from span us last) a1 q a0) (at_drop_all (λ us. us) bs k e) u
