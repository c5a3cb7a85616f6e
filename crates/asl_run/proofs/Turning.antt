-- Loops, turn by turn: what is left after a turn, and where a turn stops the whole.
use Rattle.std.proofs.Common.{◌≡◌, ℕ, ◌-◌, ◌<◌, Bool, true, false, Option, None, Some, Ok, Err, refl, sym, ap, ◌∙◌, subst}
use Rattle.std.specs.Prelude.{ℤ, List}
use mathlib.Core.Bool.{beq}
use Rattle.asl_syn.specs.declared.token.Span.{Span}
use Rattle.asl_syn.specs.declared.tree.Direction.{Direction}
use Rattle.asl_rules.specs.runs.Plans.{Ret, choose, follow, lift}
use Rattle.asl_rules.specs.runs.Limits.{most_turns}
use Rattle.asl_rules.specs.runs.StatementForms.{asked, go_on, index_turn, is_past, limited, next_index, scope, scope_with, turns_in, whole_number}
use Rattle.asl_rules.specs.runs.Trees.{Tree, Act}
use Rattle.asl_rules.specs.private.TypedMeaning.{BareCore, Runs, in_bare, indexed, itself}
use Rattle.asl_rules.specs.values.Values.{Value, Exit, Normal, int}
use Rattle.asl_tree.specs.declared.act.TreeFunc.{TreeFunc}
use Rattle.asl_value.specs.declared.value.FieldValue.TheFolds.{fold-roll-Value}
use Rattle.asl_value.specs.declared.value.FieldValue.TheOpen as layers
use Rattle.asl_value.specs.declared.value.Value.{Value as Stored}
use Rattle.asl_value.specs.declared.value.Value.TheVariants as variants
use Rattle.asl_value.specs.View as view
use Rattle.asl_value.specs.View.{value_of}
use Rattle.asl_branches.specs.declared.setting.Setting.{Setting}
use Rattle.asl_branches.specs.declared.stop.Exit.{Exit as Ending}
use Rattle.asl_branches.specs.declared.stop.Exit.TheVariants as exit
use Rattle.asl_branches.specs.declared.stop.Stop.{Stop as Stopped}
use Rattle.asl_branches.specs.Meets.{At, Ran, Underway}
use Rattle.asl_branches.specs.View.{core_of, exit_of}
use Rattle.asl_branches.proofs.Answered.{all_done, same_plan, turn_failed, turned}
use Rattle.asl_branches.proofs.Turns.{Goes, goes_eval, goes_lift, goes_ret}
use Rattle.asl_run.specs.private.Asking.{condition}
use Rattle.asl_run.specs.private.Looping.{limit_asked, turn_until}
use Rattle.asl_run.proofs.Asked.{asked_next, asking_failed}
use Rattle.asl_run.proofs.Lefts.{goes_follow}
use Rattle.asl_run.proofs.Rounds.{index_more, turn_after, until_more}

-- ---- `while` and `repeat`

abbrev until_behind : Bool → Span → Tree → List Act → ℕ → Exit → BareCore → Runs Exit
until_behind b span e ss n x c1 = go_on x c1 (λ c2. asked span e c2 (turn_after b true span e ss (n - 1)) (turn_after b false span e ss (n - 1)))

abbrev until_first : Bool → Span → Tree → List Act → ℕ → BareCore → Runs Exit
until_first b span e ss n c = follow (scope in_bare ss c) (until_behind b span e ss n)

at_until : (h : Setting) (b : Bool) (span : Span) (e : Tree) (ss : List Act) (n : ℕ) (q : BareCore → Runs Exit) (a0 a1 : At) → 0 < n →
    Underway h (turn_until b span e ss n) a1 q a0 → Underway h (until_first b span e ss n) a1 q a0
at_until h b span e ss n q a0 a1 has u =
    same_plan h (turn_until b span e ss n) (until_first b span e ss n) q a0 a1 (until_more b span e ss n (core_of a1.run) has) u

-- the list of a turn stopped the run
pub until_list_failed : (h : Setting) (b : Bool) (span : Span) (e : Tree) (ss : List Act) (n : ℕ) (r : Stopped) (q : BareCore → Runs Exit)
    (a0 a1 a2 : At) → 0 < n → Ran exit_of (Err r) h (scope in_bare ss) a1 a2 → Underway h (turn_until b span e ss n) a1 q a0 →
    Ran exit_of (Err r) h q a0 a2
until_list_failed h b span e ss n r q a0 a1 a2 has m u =
    turn_failed exit_of exit_of h (scope in_bare ss) (until_first b span e ss n) q (until_behind b span e ss n) a0 a1 a2 r
    (goes_follow h.funcs.now h.depth (scope in_bare ss (core_of a1.run)) (until_behind b span e ss n)) m
    (at_until h b span e ss n q a0 a1 has u)

until_asks : (h : Setting) (b : Bool) (span : Span) (e : Tree) (ss : List Act) (n : ℕ) (q : BareCore → Runs Exit) (a0 a1 a2 : At) →
    0 < n → Ran exit_of (Ok exit.Normal) h (scope in_bare ss) a1 a2 → Underway h (turn_until b span e ss n) a1 q a0 →
    Underway h (λ c. asked span e c (turn_after b true span e ss (n - 1)) (turn_after b false span e ss (n - 1))) a2 q a0
until_asks h b span e ss n q a0 a1 a2 has m u =
    turned exit_of h (scope in_bare ss) (until_first b span e ss n) q (until_behind b span e ss n) a0 a1 a2 exit.Normal
    (goes_follow h.funcs.now h.depth (scope in_bare ss (core_of a1.run)) (until_behind b span e ss n)) m
    (at_until h b span e ss n q a0 a1 has u)

-- its condition did
pub until_asking_failed : (h : Setting) (b : Bool) (span : Span) (e : Tree) (ss : List Act) (n : ℕ) (r : Stopped)
    (q : BareCore → Runs Exit) (a0 a1 a2 a3 : At) → 0 < n → Ran exit_of (Ok exit.Normal) h (scope in_bare ss) a1 a2 →
    Ran itself (Err r) h (condition span e) a2 a3 → Underway h (turn_until b span e ss n) a1 q a0 → Ran exit_of (Err r) h q a0 a3
until_asking_failed h b span e ss n r q a0 a1 a2 a3 has m fails u =
    asking_failed h span e (turn_after b true span e ss (n - 1)) (turn_after b false span e ss (n - 1)) r q a0 a2 a3 fails
    (until_asks h b span e ss n q a0 a1 a2 has m u)

-- what comes after a turn, by what its condition is
after_is : (b t : Bool) (span : Span) (e : Tree) (ss : List Act) (n : ℕ) (c : BareCore) → choose t (turn_after b true span e ss n c) (turn_after b false span e ss n c) ≡ turn_after b t span e ss n c
after_is b true span e ss n c = refl
after_is b false span e ss n c = refl

until_answered : (h : Setting) (b : Bool) (span : Span) (e : Tree) (ss : List Act) (n : ℕ) (t : Bool) (q : BareCore → Runs Exit)
    (a0 a1 a2 a3 : At) → 0 < n → Ran exit_of (Ok exit.Normal) h (scope in_bare ss) a1 a2 → Ran itself (Ok t) h (condition span e) a2 a3 →
    Underway h (turn_until b span e ss n) a1 q a0 → Underway h (turn_after b t span e ss (n - 1)) a3 q a0
until_answered h b span e ss n t q a0 a1 a2 a3 has m answers u =
    let yes = turn_after b true span e ss (n - 1) in
    let no = turn_after b false span e ss (n - 1) in
    same_plan h (λ c. choose t (yes c) (no c)) (turn_after b t span e ss (n - 1)) q a0 a3 (after_is b t span e ss (n - 1) (core_of a3.run))
    (asked_next h span e yes no t q a0 a2 a3 answers (until_asks h b span e ss n q a0 a1 a2 has m u))

-- the condition ends the loop
ends : (b t : Bool) (span : Span) (e : Tree) (ss : List Act) (n : ℕ) (c : BareCore) → beq t b ≡ true → turn_after b t span e ss n c ≡ Ret Normal c
ends true true span e ss n c is = refl
ends true false span e ss n c is = cc
ends false true span e ss n c is = cc
ends false false span e ss n c is = refl

pub until_ended : (h : Setting) (b : Bool) (span : Span) (e : Tree) (ss : List Act) (n : ℕ) (t : Bool) (q : BareCore → Runs Exit)
    (a0 a1 a2 a3 : At) → 0 < n → Ran exit_of (Ok exit.Normal) h (scope in_bare ss) a1 a2 → Ran itself (Ok t) h (condition span e) a2 a3 →
    beq t b ≡ true → Underway h (turn_until b span e ss n) a1 q a0 → Ran exit_of (Ok exit.Normal) h q a0 a3
until_ended h b span e ss n t q a0 a1 a2 a3 has m answers is u =
    all_done exit_of h exit.Normal q a0 a3 (same_plan h (turn_after b t span e ss (n - 1)) (λ c. Ret Normal c) q a0 a3
    (ends b t span e ss (n - 1) (core_of a3.run) is) (until_answered h b span e ss n t q a0 a1 a2 a3 has m answers u))

-- it doesn't
goes_round : (b t : Bool) (span : Span) (e : Tree) (ss : List Act) (n : ℕ) (c : BareCore) → beq t b ≡ false → turn_after b t span e ss n c ≡ turn_until b span e ss n c
goes_round true true span e ss n c isnt = cc
goes_round true false span e ss n c isnt = refl
goes_round false true span e ss n c isnt = refl
goes_round false false span e ss n c isnt = cc

pub until_turned : (h : Setting) (b : Bool) (span : Span) (e : Tree) (ss : List Act) (n : ℕ) (t : Bool) (q : BareCore → Runs Exit)
    (a0 a1 a2 a3 : At) → 0 < n → Ran exit_of (Ok exit.Normal) h (scope in_bare ss) a1 a2 → Ran itself (Ok t) h (condition span e) a2 a3 →
    beq t b ≡ false → Underway h (turn_until b span e ss n) a1 q a0 → Underway h (turn_until b span e ss (n - 1)) a3 q a0
until_turned h b span e ss n t q a0 a1 a2 a3 has m answers isnt u =
    same_plan h (turn_after b t span e ss (n - 1)) (turn_until b span e ss (n - 1)) q a0 a3
    (goes_round b t span e ss (n - 1) (core_of a3.run) isnt) (until_answered h b span e ss n t q a0 a1 a2 a3 has m answers u)

-- ---- a limit

-- a limit, and what comes with the count of turns that it lets through
pub limit_evaluated : {B : Type 0} (fs : List TreeFunc) (d : ℕ) (span : Span) (l : Option Tree) (c : BareCore) (k : ℕ → BareCore → Runs B) → Goes fs d (limit_asked span l c) (limited span l c k) k
limit_evaluated fs d span None c k = goes_ret fs d most_turns c k
limit_evaluated fs d span (Some e) c k =
    goes_eval fs d e c (λ x c1. lift (whole_number span x) c1 (λ z. Ret (turns_in z) c1)) (λ x c1. lift (whole_number span x) c1 (λ z. k (turns_in z) c1)) k
    (λ x c1. goes_lift fs d (whole_number span x) c1 (λ z. Ret (turns_in z) c1) (λ z. k (turns_in z) c1) k (λ z. goes_ret fs d (turns_in z) c1 k))

-- ---- `for`

abbrev for_behind : Span → Direction → ℤ → List Act → ℕ → ℤ → Exit → BareCore → Runs Exit
for_behind span d last ss n i x c1 = go_on x c1 (λ c2. choose (is_past d last (next_index d i)) (Ret Normal c2) (index_turn in_bare indexed span d last ss (n - 1) (next_index d i) c2))

abbrev for_first : Span → Direction → ℤ → List Act → ℕ → ℤ → BareCore → Runs Exit
for_first span d last ss n i c = follow (scope_with in_bare (indexed (int i)) ss c) (for_behind span d last ss n i)

-- the turns from an index on
abbrev pub turns_from : Span → Direction → ℤ → List Act → ℕ → ℤ → BareCore → Runs Exit
turns_from span d last ss n i c = index_turn in_bare indexed span d last ss n i c

-- the list of a turn with its index
abbrev pub turn_at : ℤ → List Act → BareCore → Runs Exit
turn_at i ss c = scope_with in_bare (indexed (int i)) ss c

at_index : (h : Setting) (span : Span) (dir : Direction) (last : ℤ) (ss : List Act) (n : ℕ) (i : ℤ) (q : BareCore → Runs Exit)
    (a0 a1 : At) → 0 < n →
    Underway h (turns_from span dir last ss n i) a1 q a0 → Underway h (for_first span dir last ss n i) a1 q a0
at_index h span dir last ss n i q a0 a1 has u =
    same_plan h (turns_from span dir last ss n i) (for_first span dir last ss n i) q a0 a1
    (index_more span dir last ss n i (core_of a1.run) has) u

pub index_list_failed : (h : Setting) (span : Span) (dir : Direction) (last : ℤ) (ss : List Act) (n : ℕ) (i : ℤ) (r : Stopped)
    (q : BareCore → Runs Exit)
    (a0 a1 a2 : At) → 0 < n → Ran exit_of (Err r) h (turn_at i ss) a1 a2 → Underway h (turns_from span dir last ss n i) a1 q a0 →
    Ran exit_of (Err r) h q a0 a2
index_list_failed h span dir last ss n i r q a0 a1 a2 has m u =
    turn_failed exit_of exit_of h (turn_at i ss) (for_first span dir last ss n i) q (for_behind span dir last ss n i) a0 a1 a2 r
    (goes_follow h.funcs.now h.depth (turn_at i ss (core_of a1.run)) (for_behind span dir last ss n i)) m
    (at_index h span dir last ss n i q a0 a1 has u)

-- the list of a turn was executed
index_next : (h : Setting) (span : Span) (dir : Direction) (last : ℤ) (ss : List Act) (n : ℕ) (i : ℤ) (x : Ending)
    (q : BareCore → Runs Exit)
    (a0 a1 a2 : At) → 0 < n → Ran exit_of (Ok x) h (turn_at i ss) a1 a2 → Underway h (turns_from span dir last ss n i) a1 q a0 →
    Underway h (for_behind span dir last ss n i (exit_of x)) a2 q a0
index_next h span dir last ss n i x q a0 a1 a2 has m u =
    turned exit_of h (turn_at i ss) (for_first span dir last ss n i) q (for_behind span dir last ss n i) a0 a1 a2 x
    (goes_follow h.funcs.now h.depth (turn_at i ss (core_of a1.run)) (for_behind span dir last ss n i)) m
    (at_index h span dir last ss n i q a0 a1 has u)

pub index_turned : (h : Setting) (span : Span) (dir : Direction) (last : ℤ) (ss : List Act) (n : ℕ) (i j : ℤ) (q : BareCore → Runs Exit)
    (a0 a1 a2 : At) → 0 < n → Ran exit_of (Ok exit.Normal) h (turn_at i ss) a1 a2 → is_past dir last (next_index dir i) ≡ false →
    j ≡ next_index dir i → Underway h (turns_from span dir last ss n i) a1 q a0 → Underway h
    (turns_from span dir last ss (n - 1) j) a2 q a0
index_turned h span dir last ss n i j q a0 a1 a2 has m fails next u =
    subst (λ (k : ℤ). Underway h (turns_from span dir last ss (n - 1) k) a2 q a0) (sym next)
    (subst (λ (b : Bool). Underway h (λ c. choose b (Ret Normal c) (turns_from span dir last ss (n - 1) (next_index dir i) c))
    a2 q a0) fails
    (index_next h span dir last ss n i exit.Normal q a0 a1 a2 has m u))

-- a turn that returned
pub index_returned : (h : Setting) (span : Span) (dir : Direction) (last : ℤ) (ss : List Act) (n : ℕ) (i : ℤ) (o : Option Stored)
    (q : BareCore → Runs Exit) (a0 a1 a2 : At) → 0 < n → Ran exit_of (Ok (exit.Returned o)) h (turn_at i ss) a1 a2 →
    Underway h (turns_from span dir last ss n i) a1 q a0 → Ran exit_of (Ok (exit.Returned o)) h q a0 a2
index_returned h span dir last ss n i o q a0 a1 a2 has m u =
    all_done exit_of h (exit.Returned o) q a0 a2 (index_next h span dir last ss n i (exit.Returned o) q a0 a1 a2 has m u)

-- the last turn
pub index_ended : (h : Setting) (span : Span) (dir : Direction) (last : ℤ) (ss : List Act) (n : ℕ) (i : ℤ) (q : BareCore → Runs Exit)
    (a0 a1 a2 : At) → 0 < n → Ran exit_of (Ok exit.Normal) h (turn_at i ss) a1 a2 → is_past dir last (next_index dir i) ≡ true →
    Underway h (turns_from span dir last ss n i) a1 q a0 → Ran exit_of (Ok exit.Normal) h q a0 a2
index_ended h span dir last ss n i q a0 a1 a2 has m past u =
    all_done exit_of h exit.Normal q a0 a2
    (subst (λ (b : Bool). Underway h (λ c. choose b (Ret Normal c) (turns_from span dir last ss (n - 1) (next_index dir i) c))
    a2 q a0) past
    (index_next h span dir last ss n i exit.Normal q a0 a1 a2 has m u))

-- the value of an index
pub int_there : (i : ℤ) → value_of (variants.Int i) ≡ int i
int_there i = ap value_of (sym (variants.rolls-Int i)) ∙ fold-roll-Value view.Of Value view.field_rule view.value_rule (layers.Int i)
