-- What statements stand for that have several parts.
use Rattle.std.proofs.Common.{◌≡◌, ℕ, List, [], ◌∷◌, length, get_or, map, Some, Result, sym, ap, ◌∙◌, subst, arith}
use Rattle.asl_syn.specs.declared.token.Span.{Span}
use Rattle.asl_rules.specs.runs.Trees as rules
use Rattle.asl_rules.specs.private.TypedMeaning.{act_node}
use Rattle.asl_tree.specs.Acts.{AlternativeFirst, BranchFirst, CatcherFirst, act_of, act_rule, all_acts, all_alternatives, all_branches, all_catchers, all_places, alternative_rule, branch_rule, catcher_rule, last_of, last_rule, maybe_tree, simple_of, step_of}
use Rattle.asl_tree.specs.View.{callee_of, tree_of, all_trees}
use Rattle.asl_tree.specs.private.Room.{declared}
use Rattle.asl_tree.specs.declared.act.Act.{Act}
use Rattle.asl_tree.specs.declared.act.Act.TheFolds.{fold-roll-Act}
use Rattle.asl_tree.specs.declared.act.Act.TheOpen as layers
use Rattle.asl_tree.specs.declared.act.Act.TheVariants as node
use Rattle.asl_tree.specs.declared.act.Alternative.{Alternative}
use Rattle.asl_tree.specs.declared.act.Bounds.{Bounds}
use Rattle.asl_tree.specs.declared.act.Branch.{Branch}
use Rattle.asl_tree.specs.declared.act.Catcher.{Catcher}
use Rattle.asl_tree.specs.declared.act.Guard.{Guard}
use Rattle.asl_tree.specs.declared.act.Last.{Last}
use Rattle.asl_tree.specs.declared.act.Simple.{Simple}
use Rattle.asl_tree.specs.declared.act.Simple.TheVariants as simple
use Rattle.asl_tree.specs.declared.act.TreePlace.{TreePlace}
use Rattle.asl_tree.specs.declared.act.TreeStep.{TreeStep}
use Rattle.asl_tree.specs.declared.act.TreeStep.TheVariants as step
use Rattle.asl_tree.specs.declared.tree.Callee.{Callee}
use Rattle.asl_tree.specs.declared.tree.Tree.{Tree}
use Rattle.asl_value.specs.View.{slice_of}
use Rattle.asl_value.specs.declared.slices.SliceShape.{SliceShape}
use Rattle.asl_value.specs.declared.slices.SliceShape.TheVariants as shapes
use Rattle.asl_branches.specs.declared.setting.Setting.{Setting}
use Rattle.asl_branches.specs.declared.stop.Exit.{Exit}
use Rattle.asl_branches.specs.declared.stop.Stop.{Stop}
use Rattle.asl_branches.specs.Meets.{At, RanBy}
use Rattle.asl_branches.specs.View.{exit_of, program_of}

pub simple_is : (t : Act) (s : Simple) → t ≡ node.Simple s → act_of t ≡ simple_of s
simple_is t s is = ap act_of (is ∙ sym (node.rolls-Simple s)) ∙ fold-roll-Act rules.Act AlternativeFirst BranchFirst CatcherFirst rules.Last act_rule alternative_rule branch_rule catcher_rule last_rule (layers.Simple s)

pub assign_is : (s : Simple) (span : Span) (ps ps1 : List TreePlace) (e : Tree) → s ≡ simple.Assign span ps e → ps1 ≡ ps → simple_of s ≡ rules.Assign span (all_places ps1) (tree_of e)
assign_is s span ps ps1 e at p = ap simple_of at ∙ ap (λ us. rules.Assign span (all_places us) (tree_of e)) (sym p)

pub invoke_is : (s : Simple) (span : Span) (f : Callee) (is is1 : List ℕ) (ps ps1 es es1 : List Tree) → s ≡ simple.Invoke span f is ps es → is1 ≡ is → ps1 ≡ ps → es1 ≡ es → simple_of s ≡ rules.Invoke span (callee_of f) is1 (all_trees ps1) (all_trees es1)
invoke_is s span f is is1 ps ps1 es es1 at i p h =
    ap simple_of at ∙ ap (λ us. rules.Invoke span (callee_of f) us (all_trees ps) (all_trees es)) (sym i) ∙ ap (λ us. rules.Invoke span (callee_of f) is1 (all_trees us) (all_trees es)) (sym p)
    ∙ ap (λ us. rules.Invoke span (callee_of f) is1 (all_trees ps1) (all_trees us)) (sym h)

-- ---- lists of one

pub one_alone : {A B : Type 0} (f : A → B) (xs : List A) (x y : A) → length xs ≡ 1 → x ≡ get_or xs 0 y → map f xs ≡ f x ∷ []
one_alone f [] x y one here = absurd (omega (arith, one))
one_alone f (z ∷ []) x y one here = ap (λ v. f v ∷ []) (sym here)
one_alone f (z ∷ w ∷ xs) x y one here = absurd (omega (arith, one))

-- one slice of a place
pub slice_is : (t : TreeStep) (span : Span) (ss ss1 : List SliceShape) (es es1 : List Tree) (shape : SliceShape) →
    t ≡ step.Slices span ss es → ss1 ≡ ss → es1 ≡ es → length ss ≡ 1 → shape ≡ get_or ss1 0 shapes.AtBit →
    step_of t ≡ rules.into_slices span (slice_of shape ∷ []) (all_trees es1)
slice_is t span ss ss1 es es1 shape is s e one here =
    ap step_of is
    ∙ ap (λ l. rules.into_slices span l (all_trees es))
    (one_alone slice_of ss shape shapes.AtBit one (here ∙ ap (λ l. get_or l 0 shapes.AtBit) s))
    ∙ ap (λ l. rules.into_slices span (slice_of shape ∷ []) (all_trees l)) (sym e)

-- ---- statements with lists

pub if_is : (t : Act) (span : Span) (e : Tree) (first : List Act) (others : List Branch) (last : List Act) →
    t ≡ node.If span e first others last → act_of t ≡ rules.If span (tree_of e) (all_acts first) (all_branches others) (all_acts last)
if_is t span e first others last is = ap act_of (is ∙ sym (node.rolls-If span e first others last)) ∙
    fold-roll-Act rules.Act AlternativeFirst BranchFirst CatcherFirst rules.Last act_rule alternative_rule branch_rule catcher_rule
    last_rule (layers.If span e first others last)

pub case_is : (t : Act) (span : Span) (e : Tree) (others : List Alternative) (last : Last) → t ≡ node.Case span e others last →
    act_of t ≡ rules.Case span (tree_of e) (all_alternatives others) (last_of last)
case_is t span e others last is = ap act_of (is ∙ sym (node.rolls-Case span e others last)) ∙
    fold-roll-Act rules.Act AlternativeFirst BranchFirst CatcherFirst rules.Last act_rule alternative_rule branch_rule catcher_rule
    last_rule (layers.Case span e others last)

pub for_is : (t : Act) (span : Span) (b : Bounds) (body : List Act) → t ≡ node.For span b body →
    act_of t ≡ rules.For span (tree_of b.from) b.direction (tree_of b.to) (maybe_tree b.limit) (all_acts body)
for_is t span b body is = ap act_of (is ∙ sym (node.rolls-For span b body)) ∙
    fold-roll-Act rules.Act AlternativeFirst BranchFirst CatcherFirst rules.Last act_rule alternative_rule branch_rule catcher_rule
    last_rule (layers.For span b body)

pub while_is : (t : Act) (span : Span) (g : Guard) (body : List Act) → t ≡ node.While span g body →
    act_of t ≡ rules.While span (tree_of g.condition) (maybe_tree g.limit) (all_acts body)
while_is t span g body is = ap act_of (is ∙ sym (node.rolls-While span g body)) ∙
    fold-roll-Act rules.Act AlternativeFirst BranchFirst CatcherFirst rules.Last act_rule alternative_rule branch_rule catcher_rule
    last_rule (layers.While span g body)

pub repeat_is : (t : Act) (span : Span) (body : List Act) (g : Guard) → t ≡ node.Repeat span body g →
    act_of t ≡ rules.Repeat span (all_acts body) (tree_of g.condition) (maybe_tree g.limit)
repeat_is t span body g is = ap act_of (is ∙ sym (node.rolls-Repeat span body g)) ∙
    fold-roll-Act rules.Act AlternativeFirst BranchFirst CatcherFirst rules.Last act_rule alternative_rule branch_rule catcher_rule
    last_rule (layers.Repeat span body g)

pub try_is : (t : Act) (span : Span) (body : List Act) (hs : List Catcher) (last : Last) → t ≡ node.Try span body hs last →
    act_of t ≡ rules.Try span (all_acts body) (all_catchers hs) (last_of last)
try_is t span body hs last is = ap act_of (is ∙ sym (node.rolls-Try span body hs last)) ∙
    fold-roll-Act rules.Act AlternativeFirst BranchFirst CatcherFirst rules.Last act_rule alternative_rule branch_rule catcher_rule
    last_rule (layers.Try span body hs last)

-- ---- answers

-- what is answered for the statement that another is, is answered for it
pub as_stated : (h : Setting) (r : Result Exit Stop) (t u : rules.Act) (a a1 : At) → t ≡ u →
    RanBy (Some (declared u)) exit_of r h (act_node (program_of h.funcs.now) u) a a1 →
    RanBy (Some (declared t)) exit_of r h (act_node (program_of h.funcs.now) t) a a1
as_stated h r t u a a1 is n = subst (λ v. RanBy (Some (declared v)) exit_of r h (act_node (program_of h.funcs.now) v) a a1) (sym is) n
