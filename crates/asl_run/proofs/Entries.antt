-- The entry into a node.
use Rattle.std.proofs.Common.{◌≡◌, ℕ, zero, suc, ◌+◌, ◌-◌, ◌<◌, ◌==◌, Bool, true, false, if◌then◌else◌, List, Result, Ok, Err, length, get_or, drop, sym, ap, ◌∙◌, subst, arith}
use Rattle.asl_syn.specs.declared.token.Span.{Span}
use Rattle.asl_syn.specs.declared.code.DynCode.TheVariants.{D12, D13}
use Rattle.asl_rules.specs.runs.Cuts as cut
use Rattle.asl_rules.specs.runs.Cuts.{cuts}
use Rattle.asl_rules.specs.runs.Plans.{Meter, Outcome, Done, Halt, Faulted, enter, run}
use Rattle.asl_rules.specs.declared.slot.Slot.{Slot}
use Rattle.asl_rules.specs.runs.Pures.{known}
use Rattle.asl_rules.specs.runs.Trees.{Tree, Act, Note, Read, tree_at, act_at}
use Rattle.asl_rules.specs.private.TypedMeaning.{BareCore, tree_node, act_node, value_at}
use Rattle.asl_rules.specs.values.Values as rules
use Rattle.asl_tree.specs.Acts.{act_of, all_acts}
use Rattle.asl_tree.specs.private.Room.{FitsAct, FitsList, declared}
use Rattle.asl_tree.specs.declared.act.Act.{Act as Doing}
use Rattle.asl_tree.specs.declared.act.TreeFunc.{TreeFunc}
use Rattle.asl_tree.proofs.Room.{fits_more}
use Rattle.asl_value.specs.declared.value.Value.{Value}
use Rattle.asl_value.specs.View.{value_of}
use Rattle.asl_branches.specs.declared.stop.Exit.{Exit}
use Rattle.asl_branches.specs.declared.stop.Stop.{Stop as Stopped}
use Rattle.asl_branches.specs.declared.stop.Stop.TheVariants as stop
use Rattle.asl_branches.specs.declared.setting.Setting.{Setting}
use Rattle.asl_branches.specs.Meets.{At, Executes, Is, Meets}
use Rattle.asl_branches.specs.View.{exit_of, program_of, meaning_of, cutting_of, room_of}
use Rattle.asl_branches.proofs.Fronts.{at_front}
use Rattle.asl_branches.proofs.Turns.{at_once_meets}

-- an answer that one part has, another has that gives the same
meets_same : {A B : Type 0} (w : A → B) (r : Result A Stopped) (c : BareCore) (h : Meter) (p q : Outcome BareCore B) (C D : Meter → Type 0) → p ≡ q → ((u : Meter) → C u → D u) → Meets w r c h p C → Meets w r c h q D
meets_same w (Ok x) c h p q C D e k m = sym e ∙ m
meets_same w (Err stop.NoMemory) c h p q C D e k m = k h m
meets_same w (Err stop.SinkFault) c h p q C D e k m = k h m
meets_same w (Err (stop.Thrown x)) c h p q C D e k m = sym e ∙ m
meets_same w (Err (stop.Fault code span)) c h p q C D e k m = sym e ∙ m
meets_same w (Err (stop.Stuck mistake span)) c h p q C D e k m = sym e ∙ m

-- ---- any node

-- no step is left
stepless : {A : Type 0} (span : Span) (deep : Bool) (c : BareCore) (h : Meter) (go : Meter → Outcome BareCore A) → h.steps ≡ 0 → enter span deep c h go ≡ Halt (Faulted D13 span) c h
stepless span deep c h go spent = ap (λ n. if n == 0 then Halt (Faulted D13 span) c h else (if deep then Halt (Faulted D12 span) c h else go (record h { steps = h.steps - 1 }))) spent

-- one is left
above : (n : ℕ) → 0 < n → (n == 0) ≡ false
above n h = grind arith

some : {A : Type 0} (n : ℕ) (a b : A) → 0 < n → (if n == 0 then a else b) ≡ b
some n a b h = ap (λ (t : Bool). if t then a else b) (above n h)

stepped : {A : Type 0} (span : Span) (deep : Bool) (c : BareCore) (h : Meter) (go : Meter → Outcome BareCore A) → 0 < h.steps → enter span deep c h go ≡ (if deep then Halt (Faulted D12 span) c h else go (record h { steps = h.steps - 1 }))
stepped span deep c h go has = some h.steps (Halt (Faulted D13 span) c h) (if deep then Halt (Faulted D12 span) c h else go (record h { steps = h.steps - 1 })) has

cut_later : (n : ℕ) (P : Type 0) → 0 < n → P → cut.entered (n == 0) P
cut_later n P h p = subst (λ t. cut.entered t P) (sym (above n h)) p

-- ---- expressions

pub expr_stepless : (fs : List TreeFunc) (d : ℕ) (e : Tree) (c : BareCore) (h : Meter) → h.steps ≡ 0 → (meaning_of fs d).expr e c h ≡ Halt (Faulted D13 (tree_at e)) c h
expr_stepless fs zero e c h spent = stepless (tree_at e) true c h (λ h1. Halt (Faulted D12 (tree_at e)) c h1) spent
expr_stepless fs (suc d) e c h spent = stepless (tree_at e) false c h (run (meaning_of fs d) (tree_node (program_of fs) e c)) spent

pub expr_deep : (fs : List TreeFunc) (d : ℕ) (e : Tree) (c : BareCore) (h : Meter) → d ≡ 0 → 0 < h.steps → (meaning_of fs d).expr e c h ≡ Halt (Faulted D12 (tree_at e)) c h
expr_deep fs zero e c h none has = stepped (tree_at e) true c h (λ h1. Halt (Faulted D12 (tree_at e)) c h1) has
expr_deep fs (suc d) e c h none has = absurd (omega (arith, none))

pub expr_entered : (fs : List TreeFunc) (d : ℕ) (e : Tree) (r : Result Value Stopped) (c c1 : BareCore) (h h1 : Meter) → 0 < d → 0 < h.steps →
    Meets value_of r c1 h1 (run (meaning_of fs (d - 1)) (tree_node (program_of fs) e c) (record h { steps = h.steps - 1 })) (cuts (meaning_of fs (d - 1)) (cutting_of fs (d - 1)) (tree_node (program_of fs) e c) (record h { steps = h.steps - 1 })) →
    Meets value_of r c1 h1 ((meaning_of fs d).expr e c h) ((cutting_of fs d).expr e c h)
expr_entered fs zero e r c c1 h h1 deep has m = absurd (omega (arith, deep))
expr_entered fs (suc d) e r c c1 h h1 deep has m =
    let one : suc d - 1 ≡ d = omega arith in
    meets_same value_of r c1 h1 _ ((meaning_of fs (suc d)).expr e c h) _ ((cutting_of fs (suc d)).expr e c h)
    (ap (λ n. run (meaning_of fs n) (tree_node (program_of fs) e c) (record h { steps = h.steps - 1 })) one ∙ sym (stepped (tree_at e) false c h (run (meaning_of fs d) (tree_node (program_of fs) e c)) has))
    (λ u w. cut_later h.steps (cuts (meaning_of fs d) (cutting_of fs d) (tree_node (program_of fs) e c) (record h { steps = h.steps - 1 }) u) has
    (subst (λ n. cuts (meaning_of fs n) (cutting_of fs n) (tree_node (program_of fs) e c) (record h { steps = h.steps - 1 }) u) one w)) m

-- a name gives what its place holds
pub read_entered : (fs : List TreeFunc) (d : ℕ) (n : Note) (slot : Slot) (r : Result Value Stopped) (c : BareCore) (h h1 : Meter) → 0 < d → 0 < h.steps → h1 ≡ record h { steps = h.steps - 1 } → Is value_of r (known n.span (value_at slot c)) →
    Meets value_of r c h1 ((meaning_of fs d).expr (Read n slot) c h) ((cutting_of fs d).expr (Read n slot) c h)
read_entered fs d n slot r c h h1 deep has is given =
    expr_entered fs d (Read n slot) r c c h h1 deep has
    (subst (λ m. Meets value_of r c m (run (meaning_of fs (d - 1)) (tree_node (program_of fs) (Read n slot) c) (record h { steps = h.steps - 1 })) (cuts (meaning_of fs (d - 1)) (cutting_of fs (d - 1)) (tree_node (program_of fs) (Read n slot) c) (record h { steps = h.steps - 1 })))
    (sym is) (at_once_meets value_of fs (d - 1) r (known n.span (value_at slot c)) c (record h { steps = h.steps - 1 }) given))

-- what an expression gives once it is entered
pub expr_done : (fs : List TreeFunc) (d : ℕ) (e : Tree) (x : rules.Value) (c c1 : BareCore) (h h1 : Meter) → 0 < d → 0 < h.steps →
    run (meaning_of fs (d - 1)) (tree_node (program_of fs) e c) (record h { steps = h.steps - 1 }) ≡ Done x c1 h1 → (meaning_of fs d).expr e c h ≡ Done x c1 h1
expr_done fs zero e x c c1 h h1 deep has m = absurd (omega (arith, deep))
expr_done fs (suc d) e x c c1 h h1 deep has m =
    let one : d ≡ suc d - 1 = omega arith in
    stepped (tree_at e) false c h (run (meaning_of fs d) (tree_node (program_of fs) e c)) has ∙
    ap (λ n. run (meaning_of fs n) (tree_node (program_of fs) e c) (record h { steps = h.steps - 1 })) one ∙ m

-- ---- statements

pub stmt_stepless : (fs : List TreeFunc) (d : ℕ) (t : Act) (c : BareCore) (h : Meter) → h.steps ≡ 0 → (meaning_of fs d).stmt t c h ≡ Halt (Faulted D13 (act_at t)) c h
stmt_stepless fs zero t c h spent = stepless (act_at t) true c h (λ h1. Halt (Faulted D12 (act_at t)) c h1) spent
stmt_stepless fs (suc d) t c h spent = stepless (act_at t) false c h (run (meaning_of fs d) (act_node (program_of fs) t c)) spent

pub stmt_deep : (fs : List TreeFunc) (d : ℕ) (t : Act) (c : BareCore) (h : Meter) → d ≡ 0 → 0 < h.steps → (meaning_of fs d).stmt t c h ≡ Halt (Faulted D12 (act_at t)) c h
stmt_deep fs zero t c h none has = stepped (act_at t) true c h (λ h1. Halt (Faulted D12 (act_at t)) c h1) has
stmt_deep fs (suc d) t c h none has = absurd (omega (arith, none))

pub stmt_entered : (fs : List TreeFunc) (d : ℕ) (t : Act) (r : Result Exit Stopped) (c c1 : BareCore) (h h1 : Meter) → 0 < d → 0 < h.steps →
    Meets exit_of r c1 h1 (run (meaning_of fs (d - 1)) (act_node (program_of fs) t c) (record h { steps = h.steps - 1 })) (cuts (meaning_of fs (d - 1)) (cutting_of fs (d - 1)) (act_node (program_of fs) t c) (record h { steps = h.steps - 1 })) →
    Meets exit_of r c1 h1 ((meaning_of fs d).stmt t c h) ((cutting_of fs d).stmt t c h)
stmt_entered fs zero t r c c1 h h1 deep has m = absurd (omega (arith, deep))
stmt_entered fs (suc d) t r c c1 h h1 deep has m =
    let one : suc d - 1 ≡ d = omega arith in
    meets_same exit_of r c1 h1 _ ((meaning_of fs (suc d)).stmt t c h) _ ((cutting_of fs (suc d)).stmt t c h)
    (ap (λ n. run (meaning_of fs n) (act_node (program_of fs) t c) (record h { steps = h.steps - 1 })) one ∙ sym (stepped (act_at t) false c h (run (meaning_of fs d) (act_node (program_of fs) t c)) has))
    (λ u w. cut_later h.steps (cuts (meaning_of fs d) (cutting_of fs d) (act_node (program_of fs) t c) (record h { steps = h.steps - 1 }) u) has
    (subst (λ n. cuts (meaning_of fs n) (cutting_of fs n) (act_node (program_of fs) t c) (record h { steps = h.steps - 1 }) u) one w)) m

-- how a statement ends once it is entered
pub stmt_done : (fs : List TreeFunc) (d : ℕ) (t : Act) (x : rules.Exit) (c c1 : BareCore) (h h1 : Meter) → 0 < d → 0 < h.steps →
    run (meaning_of fs (d - 1)) (act_node (program_of fs) t c) (record h { steps = h.steps - 1 }) ≡ Done x c1 h1 → (meaning_of fs d).stmt t c h ≡ Done x c1 h1
stmt_done fs zero t x c c1 h h1 deep has m = absurd (omega (arith, deep))
stmt_done fs (suc d) t x c c1 h h1 deep has m =
    let one : d ≡ suc d - 1 = omega arith in
    stepped (act_at t) false c h (run (meaning_of fs d) (act_node (program_of fs) t c)) has ∙
    ap (λ n. run (meaning_of fs n) (act_node (program_of fs) t c) (record h { steps = h.steps - 1 })) one ∙ m

-- ---- lists

-- the statement in front fits, and those behind it fit behind its names
pub act_fits : (r : ℕ) (ts : List Doing) (k : ℕ) (t : Doing) → k < length ts → t ≡ get_or ts k t → FitsList r (all_acts (drop k ts)) →
    FitsAct r (act_of t) × FitsList (r - declared (act_of t)) (all_acts (drop (k + 1) ts))
act_fits r ts k t within here fits = subst (λ us. FitsList r (all_acts us)) (at_front ts k t within here) fits

-- once it is executed, they fit the frame
pub acts_fit : (h : Setting) (ts : List Doing) (k : ℕ) (t : Doing) (x : Exit) (a a1 : At) → k < length ts → t ≡ get_or ts k t →
    Executes (Ok x) h t a a1 → FitsList (room_of a.run) (all_acts (drop k ts)) → FitsList (room_of a1.run) (all_acts (drop (k + 1) ts))
acts_fit h ts k t x a a1 within here n fits =
    fits_more (room_of a.run - declared (act_of t)) (room_of a1.run) (all_acts (drop (k + 1) ts)) (omega (arith, n.keeps.slots, n.grows))
    (act_fits (room_of a.run) ts k t within here fits).1
