-- An alternative of a `case`: whether it is chosen, and then its list or the alternatives behind it.
use Rattle.std.proofs.Common.{
  ◌≡◌,
  ℕ,
  ◌+◌,
  ◌<◌,
  ◌≤◌,
  Bool,
  true,
  false,
  List,
  [],
  ◌∷◌,
  length,
  get_or,
  drop,
  Option,
  None,
  Some,
  Ok,
  Err,
  sym,
  ap,
  ◌∙◌,
  subst,
}
use Rattle.std.proofs.lemmas.List.{at_drop_all}
use Rattle.asl_bits.specs.declared.TheConstants.{WIDTH_LIMIT}
use Rattle.asl_syn.specs.declared.token.Span.{Span}
use Rattle.asl_rules.specs.values.Matching.{is_matched}
use Rattle.asl_rules.specs.values.Operators.{truth}
use Rattle.asl_rules.specs.runs.Plans.{Ret, choose, lift}
use Rattle.asl_rules.specs.types.Shapes.{PatternShapes}
use Rattle.asl_rules.specs.runs.StatementForms.{alternative, alternatives, guarded, no_match, scope}
use Rattle.asl_rules.specs.runs.Trees as rules
use Rattle.asl_rules.specs.runs.Trees.{Tree, Trees, Act}
use Rattle.asl_rules.specs.private.TypedMeaning.{BareCore, Runs, acts_of, choices_of, in_bare, itself, list_of}
use Rattle.asl_rules.specs.values.Values.{Value, Exit}
use Rattle.asl_shape.specs.View.{all_patterns}
use Rattle.asl_tree.specs.Acts.{AlternativeFirst, BranchFirst, CatcherFirst, act_rule, alternative_rule, branch_rule, catcher_rule, last_rule, alternative_of, all_acts, all_alternatives, maybe_tree}
use Rattle.asl_tree.specs.View.{all_trees}
use Rattle.asl_tree.specs.declared.act.Act.{Act as Doing}
use Rattle.asl_tree.specs.declared.act.Act.TheFolds.{fold-roll-Alternative}
use Rattle.asl_tree.specs.declared.act.Act.TheOpen as layers
use Rattle.asl_tree.specs.declared.act.Alternative.{Alternative}
use Rattle.asl_tree.specs.declared.act.Alternative.TheVariants as when
use Rattle.asl_tree.specs.declared.act.Choice.{Choice as Wanted}
use Rattle.asl_tree.specs.declared.act.TreeFunc.{TreeFunc}
use Rattle.asl_branches.specs.declared.setting.Setting.{Setting}
use Rattle.asl_branches.specs.declared.stop.Stop.{Stop as Stopped}
use Rattle.asl_branches.specs.private.Choosing.{chosen, guard}
use Rattle.asl_branches.specs.Meets.{At, Ran, Underway}
use Rattle.asl_branches.specs.View.{core_of, exit_of}
use Rattle.asl_branches.proofs.Answered.{turn_failed, turned}
use Rattle.asl_branches.proofs.Fronts.{at_front}
use Rattle.asl_branches.proofs.Turns.{Goes, all_goes, goes_eval, goes_lift, goes_ret}

-- what comes behind the choice
abbrev pub behind_choice : List Act → (BareCore → Runs Exit) → Bool → BareCore → Runs Exit
behind_choice ss go b c = choose b (scope in_bare ss c) (go c)

condition_goes : (fs : List TreeFunc) (d : ℕ) (span : Span) (e : Option Tree) (ss : List Act) (go : BareCore → Runs Exit) (c : BareCore) →
    Goes fs d (guard span e c) (guarded in_bare span e ss go c) (behind_choice ss go)
condition_goes fs d span None ss go c = goes_ret fs d true c (behind_choice ss go)
condition_goes fs d span (Some e) ss go c = goes_eval fs d e c (λ x c1. lift (truth span x) c1 (λ b. Ret b c1)) (λ x c1. lift (truth span x) c1 (λ b. behind_choice ss go b c1)) (behind_choice ss go)
    (λ x c1. goes_lift fs d (truth span x) c1 (λ b. Ret b c1) (λ b. behind_choice ss go b c1) (behind_choice ss go) (λ b. goes_ret fs d b c1 (behind_choice ss go)))

matched_goes : (fs : List TreeFunc) (d : ℕ) (span : Span) (e : Option Tree) (ss : List Act) (go : BareCore → Runs Exit) (c : BareCore) (b : Bool) →
    Goes fs d (choose b (guard span e c) (Ret false c)) (choose b (guarded in_bare span e ss go c) (go c)) (behind_choice ss go)
matched_goes fs d span e ss go c true = condition_goes fs d span e ss go c
matched_goes fs d span e ss go c false = goes_ret fs d false c (behind_choice ss go)

pub chosen_goes : (fs : List TreeFunc) (d : ℕ) (span : Span) (x : Value) (ps : PatternShapes) (es : Trees) (e : Option Tree) (ss : List Act) (go : BareCore → Runs Exit) (c : BareCore) →
    Goes fs d (chosen span x ps es e c) (alternative in_bare span x (record { exprs = list_of es; matches = is_matched WIDTH_LIMIT ps; condition = e; body = ss }) go c) (behind_choice ss go)
chosen_goes fs d span x ps es e ss go c =
    all_goes fs d (list_of es) [] c (λ zs c1. lift (is_matched WIDTH_LIMIT ps zs x) c1 (λ b. choose b (guard span e c1) (Ret false c1)))
    (λ zs c1. lift (is_matched WIDTH_LIMIT ps zs x) c1 (λ b. choose b (guarded in_bare span e ss go c1) (go c1))) (behind_choice ss go)
    (λ zs c1. goes_lift fs d (is_matched WIDTH_LIMIT ps zs x) c1 (λ b. choose b (guard span e c1) (Ret false c1)) (λ b. choose b (guarded in_bare span e ss go c1) (go c1)) (behind_choice ss go)
    (λ b. matched_goes fs d span e ss go c1 b))

-- ---- one by one

alternative_when : (c : Wanted) (ss : List Doing) (others : List Alternative) → choices_of WIDTH_LIMIT (all_alternatives (when.When c ss ∷ others)) ≡
    record { exprs = list_of (all_trees c.trees); matches = is_matched WIDTH_LIMIT (all_patterns c.patterns); condition = maybe_tree c.condition; body = acts_of (all_acts ss) } ∷ choices_of WIDTH_LIMIT (all_alternatives others)
alternative_when c ss others = ap (λ (f : AlternativeFirst). choices_of WIDTH_LIMIT (f (all_alternatives others)))
    (ap alternative_of (sym (when.rolls-When c ss)) ∙ fold-roll-Alternative rules.Act AlternativeFirst BranchFirst CatcherFirst rules.Last act_rule alternative_rule branch_rule catcher_rule last_rule (layers.When c ss))

-- what an alternative and those behind it do
abbrev from_front : Span → Value → Wanted → List Doing → List Alternative → Option (List Act) → BareCore → Runs Exit
from_front span x w ss others last c = alternative in_bare span x (record { exprs = list_of (all_trees w.trees); matches = is_matched WIDTH_LIMIT (all_patterns w.patterns); condition = maybe_tree w.condition; body = acts_of (all_acts ss) }) (alternatives in_bare itself span x (choices_of WIDTH_LIMIT (all_alternatives others)) last) c

abbrev pub all_from : Span → Value → List Alternative → Option (List Act) → BareCore → Runs Exit
all_from span x others last c = alternatives in_bare itself span x (choices_of WIDTH_LIMIT (all_alternatives others)) last c

at_choice : (h : Setting) (span : Span) (x : Value) (others : List Alternative) (k : ℕ) (a : Alternative) (w : Wanted) (ss : List Doing)
    (last : Option (List Act)) (q : BareCore → Runs Exit) (a0 a1 : At) → k < length others → a ≡ get_or others k a → a ≡ when.When w ss →
    Underway h (all_from span x (drop k others) last) a1 q a0 → Underway h (from_front span x w ss (drop (k + 1) others) last) a1 q a0
at_choice h span x others k a w ss last q a0 a1 within here is u =
    subst (λ cs. Underway h (alternatives in_bare itself span x cs last) a1 q a0)
    (ap (λ us. choices_of WIDTH_LIMIT (all_alternatives us)) (at_front others k a within here ∙ ap (λ b. b ∷ drop (k + 1) others) is)
    ∙ alternative_when w ss (drop (k + 1) others)) u

-- the choice of an alternative
abbrev pub choice_of : Span → Value → Wanted → BareCore → Runs Bool
choice_of span x w c = chosen span x (all_patterns w.patterns) (all_trees w.trees) (maybe_tree w.condition) c

-- it was asked for, and what comes behind it is left
pub choice_asked : (h : Setting) (span : Span) (x : Value) (others : List Alternative) (k : ℕ) (a : Alternative) (w : Wanted)
    (ss : List Doing) (last : Option (List Act)) (b : Bool) (q : BareCore → Runs Exit) (a0 a1 a2 : At) → k < length others →
    a ≡ get_or others k a → a ≡ when.When w ss → Ran itself (Ok b) h (choice_of span x w) a1 a2 →
    Underway h (all_from span x (drop k others) last) a1 q a0 →
    Underway h (behind_choice (acts_of (all_acts ss)) (all_from span x (drop (k + 1) others) last) b) a2 q a0
choice_asked h span x others k a w ss last b q a0 a1 a2 within here is n u =
    let go = all_from span x (drop (k + 1) others) last in
    turned itself h (choice_of span x w) (from_front span x w ss (drop (k + 1) others) last) q
    (behind_choice (acts_of (all_acts ss)) go) a0 a1 a2 b
    (chosen_goes h.funcs.now h.depth span x (all_patterns w.patterns) (all_trees w.trees) (maybe_tree w.condition)
    (acts_of (all_acts ss)) go (core_of a1.run)) n (at_choice h span x others k a w ss last q a0 a1 within here is u)

-- it stopped the run
pub choice_failed : (h : Setting) (span : Span) (x : Value) (others : List Alternative) (k : ℕ) (a : Alternative) (w : Wanted)
    (ss : List Doing) (last : Option (List Act)) (e : Stopped) (q : BareCore → Runs Exit) (a0 a1 a2 : At) → k < length others →
    a ≡ get_or others k a → a ≡ when.When w ss → Ran itself (Err e) h (choice_of span x w) a1 a2 →
    Underway h (all_from span x (drop k others) last) a1 q a0 → Ran exit_of (Err e) h q a0 a2
choice_failed h span x others k a w ss last e q a0 a1 a2 within here is n u =
    let go = all_from span x (drop (k + 1) others) last in
    turn_failed itself exit_of h (choice_of span x w) (from_front span x w ss (drop (k + 1) others) last) q
    (behind_choice (acts_of (all_acts ss)) go) a0 a1 a2 e
    (chosen_goes h.funcs.now h.depth span x (all_patterns w.patterns) (all_trees w.trees) (maybe_tree w.condition)
    (acts_of (all_acts ss)) go (core_of a1.run)) n (at_choice h span x others k a w ss last q a0 a1 within here is u)

-- none is left
pub choices_ended : (h : Setting) (span : Span) (x : Value) (others : List Alternative) (k : ℕ) (last : Option (List Act))
    (q : BareCore → Runs Exit) (a0 a1 : At) → length others ≤ k → Underway h (all_from span x (drop k others) last) a1 q a0 →
    Underway h (no_match in_bare span last) a1 q a0
choices_ended h span x others k last q a0 a1 e u =
    subst (λ us. Underway h (all_from span x us last) a1 q a0) (at_drop_all (λ us. us) others k e) u
