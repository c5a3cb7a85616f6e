-- Statements and expressions in order, one by one.
use Rattle.std.proofs.Common.{◌≡◌, ℕ, ◌+◌, ◌<◌, inr, List, [], ◌∷◌, ◌++◌, Option, None, Result, Ok, length, get_or, drop, map, sym, ap, ◌∙◌, subst}
use Rattle.std.proofs.lemmas.List.{map-append}
use Rattle.asl_rules.specs.runs.Cuts.{rest, cuts}
use Rattle.asl_rules.specs.runs.Forms.{eval_all}
use Rattle.asl_rules.specs.runs.Plans.{Ret, Exec, run, ◌>>=◌}
use Rattle.asl_rules.specs.runs.StatementForms.{go_on, in_order}
use Rattle.asl_rules.specs.private.TypedMeaning.{BareCore, Runs, acts_of, list_of}
use Rattle.asl_rules.specs.values.Values.{Value, Exit}
use Rattle.asl_tree.specs.Acts.{act_of, all_acts}
use Rattle.asl_tree.specs.declared.act.Act.{Act}
use Rattle.asl_tree.specs.View.{tree_of, all_trees}
use Rattle.asl_tree.specs.declared.tree.Tree.{Tree}
use Rattle.asl_value.specs.declared.value.Value.{Value as Stored}
use Rattle.asl_value.specs.View.{value_of}
use Rattle.asl_branches.specs.declared.setting.Setting.{Setting}
use Rattle.asl_branches.specs.declared.stop.Exit.TheVariants as exit
use Rattle.asl_branches.specs.Meets.{At, Counts, Evaluates, Executes, InTurn, Left, RanBy, Underway}
use Rattle.asl_branches.specs.View.{core_of, meter_of, meaning_of, cutting_of}
use Rattle.asl_branches.proofs.Answered.{keeps_behind, rounds, turned_eval}
use Rattle.asl_branches.proofs.Turns.{meets_left}
use Rattle.asl_branches.specs.declared.stop.Stop.{Stop as Stopped}
use Rattle.asl_branches.proofs.Fronts.{at_front}

-- ---- statements

abbrev pub all_acted : List Act → BareCore → Runs Exit
all_acted ts c = in_order (acts_of (all_acts ts)) c

-- a statement ended normally, and those behind it are left
pub act_next : (h : Setting) (ts : List Act) (k : ℕ) (t : Act) (q : BareCore → Runs Exit) (a0 a1 a2 : At) → k < length ts →
    t ≡ get_or ts k t → Executes (Ok exit.Normal) h t a1 a2 → InTurn h (all_acted (drop k ts)) a1 q a0 →
    InTurn h (all_acted (drop (k + 1) ts)) a2 q a0
act_next h ts k t q a0 a1 a2 within here n u =
    let fs = h.funcs.now in
    let d = h.depth in
    let c1 = core_of a1.run in
    let h1 = meter_of a1.run a1.told in
    let later = acts_of (all_acts (drop (k + 1) ts)) in
    let m : Left fs d (Exec (act_of t) c1 (λ x c2. go_on x c2 (in_order later))) h1 (q (core_of a0.run)) (meter_of a0.run a0.told) =
    subst (λ us. Left fs d (all_acted us c1) h1 (q (core_of a0.run)) (meter_of a0.run a0.told)) (at_front ts k t within here) u.left in
    record {
      left = record {
        same = sym (ap (λ r. r >>= λ x c2 h2. run (meaning_of fs d) (go_on x c2 (in_order later)) h2) n.meets) ∙ m.same;
        given_up = λ v w. m.given_up v (inr (inr (subst
            (λ r. rest r (λ x c2 h2. cuts (meaning_of fs d) (cutting_of fs d) (go_on x c2 (in_order later)) h2 v) (λ x c2 h2. ⊥))
            (sym n.meets) w)));
      };
      count = n.counts ∙ u.count;
      full = n.same_full ∙ u.full;
      round = rounds a0.run a1.run a2.run u.round n.keeps;
    }

-- a list stops where a statement does, or returns
pub list_ended : {A : Type 0} (w : A → Exit) (h : Setting) (p q : BareCore → Runs Exit) (a0 a1 a2 : At) (r : Result A Stopped) (n : Option ℕ) →
    InTurn h p a1 q a0 → RanBy n w r h p a1 a2 → RanBy None w r h q a0 a2
list_ended w h p q a0 a1 a2 r n u m = record {
  meets = meets_left w h.funcs.now h.depth (p (core_of a1.run)) (q (core_of a0.run)) (meter_of a0.run a0.told)
      (meter_of a1.run a1.told) u.left r (core_of a2.run) (meter_of a2.run a2.told) m.meets;
  counts = subst (λ k. Counts r k a2.faults) u.count m.counts;
  same_full = m.same_full ∙ u.full;
  keeps = keeps_behind r a0.run a1.run a2.run u.round m.keeps;
  grows = tt;
}

-- ---- expressions

-- the values of expressions, behind these
abbrev pub all_behind : List Tree → List Value → BareCore → Runs (List Value)
all_behind es xs c = eval_all (list_of (all_trees es)) xs c (λ ys c1. Ret ys c1)

-- an expression was evaluated, and those behind it are left
pub tree_next : (h : Setting) (es : List Tree) (k : ℕ) (e : Tree) (xs ys : List Stored) (x : Stored) (q : BareCore → Runs (List Value))
    (a0 a1 a2 : At) → k < length es → e ≡ get_or es k e → Evaluates (Ok x) h e a1 a2 → ys ≡ xs ++ x ∷ [] →
    Underway h (all_behind (drop k es) (map value_of xs)) a1 q a0 → Underway h (all_behind (drop (k + 1) es) (map value_of ys)) a2 q a0
tree_next h es k e xs ys x q a0 a1 a2 within here n more u =
    let later = drop (k + 1) es in
    let go : Value → BareCore → Runs (List Value) = λ v c2. all_behind later (map value_of xs ++ v ∷ []) c2 in
    let behind : map value_of xs ++ value_of x ∷ [] ≡ map value_of ys = sym (ap (map value_of) more ∙ map-append value_of xs (x ∷ [])) in
    subst (λ vs. Underway h (all_behind later vs) a2 q a0) behind (turned_eval h (tree_of e) go q a0 a1 a2 x n
    (subst (λ us. Underway h (all_behind us (map value_of xs)) a1 q a0) (at_front es k e within here) u))
