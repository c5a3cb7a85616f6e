-- The typed trees of statements of the rules that those of the code stand for.
use Rattle.std.specs.Prelude.{List, [], ◌∷◌, map, Option, Some, None}
use Rattle.std.specs.Option.{option_map}
use Rattle.asl_rules.specs.runs.Trees as rules
use Rattle.asl_value.specs.View.{all_slices}
use Rattle.asl_shape.specs.View.{type_of, all_patterns}
use Rattle.asl_tree.specs.View.{callee_of, tree_of, all_trees}
use Rattle.asl_tree.specs.declared.tree.Tree.{Tree}
use Rattle.asl_tree.specs.declared.act.TreeStep.{TreeStep}
use Rattle.asl_tree.specs.declared.act.TreeStep.TheVariants as step
use Rattle.asl_tree.specs.declared.act.TreePlace.{TreePlace}
use Rattle.asl_tree.specs.declared.act.Taken.{Taken}
use Rattle.asl_tree.specs.declared.act.Taken.TheVariants as taken
use Rattle.asl_tree.specs.declared.act.TreeItem.{TreeItem}
use Rattle.asl_tree.specs.declared.act.TreeItem.TheVariants as item
use Rattle.asl_tree.specs.declared.act.Simple.{Simple}
use Rattle.asl_tree.specs.declared.act.Simple.TheVariants as a
use Rattle.asl_tree.specs.declared.act.Act.{Act}
use Rattle.asl_tree.specs.declared.act.Alternative.{Alternative}
use Rattle.asl_tree.specs.declared.act.Branch.{Branch}
use Rattle.asl_tree.specs.declared.act.Catcher.{Catcher}
use Rattle.asl_tree.specs.declared.act.Last.{Last}
use Rattle.asl_tree.specs.declared.act.Act.TheOpen as s
use Rattle.asl_tree.specs.declared.act.Act.TheFolds.{fold-Act, fold-Alternative, fold-Branch, fold-Catcher, fold-Last}

-- ---- places

abbrev pub step_of : TreeStep → rules.TreeStep
step_of (step.Field span i) = rules.into_field span i
step_of (step.Bitfield span f) = rules.into_bitfield span f
step_of (step.Bitfields span fs) = rules.into_bitfields span fs
step_of (step.Slices span ss es) = rules.into_slices span (all_slices ss) (all_trees es)
step_of (step.Element span e) = rules.into_element span (tree_of e)

abbrev pub place_of : TreePlace → rules.TreePlace
place_of p = record { span = p.span; way = p.way; slot = p.slot; steps = map step_of p.steps }

abbrev pub all_places : List TreePlace → List rules.TreePlace
all_places ps = map place_of ps

abbrev pub taken_of : Taken → rules.Taken
taken_of taken.Nothing = rules.nothing
taken_of taken.Whole = rules.whole
taken_of (taken.InParts bs) = rules.in_parts bs

abbrev pub item_of : TreeItem → rules.TreeItem
item_of (item.Verbatim t) = rules.Verbatim t
item_of (item.Shown e) = rules.Shown (tree_of e)

abbrev pub all_items : List TreeItem → List rules.TreeItem
all_items is = map item_of is

abbrev pub maybe_tree : Option Tree → Option rules.Tree
maybe_tree o = option_map tree_of o

-- ---- statements

abbrev pub acts_from : List rules.Act → rules.Acts
acts_from [] = rules.no_act
acts_from (a ∷ more) = rules.act_and a (acts_from more)

-- `elsif`, `when` and `when` of a `try`, each as it stands in front of those behind it
abbrev pub BranchFirst : Type 0
BranchFirst = rules.Branches → rules.Branches

abbrev pub AlternativeFirst : Type 0
AlternativeFirst = rules.Alternatives → rules.Alternatives

abbrev pub CatcherFirst : Type 0
CatcherFirst = rules.Catchers → rules.Catchers

abbrev pub branches_from : List BranchFirst → rules.Branches
branches_from [] = rules.no_branch
branches_from (b ∷ bs) = b (branches_from bs)

abbrev pub alternatives_from : List AlternativeFirst → rules.Alternatives
alternatives_from [] = rules.no_alternative
alternatives_from (a ∷ more) = a (alternatives_from more)

abbrev pub catchers_from : List CatcherFirst → rules.Catchers
catchers_from [] = rules.no_catcher
catchers_from (c ∷ cs) = c (catchers_from cs)

abbrev pub simple_of : Simple → rules.Act
simple_of (a.Pass span) = rules.Pass span
simple_of (a.Unreachable span) = rules.Unreachable span
simple_of (a.Assert span e) = rules.Assert span (tree_of e)
simple_of (a.Declare span T b e) = rules.Declare span T (taken_of b) (tree_of e)
simple_of (a.DeclareFirst span n at T es) = rules.DeclareFirst span n at (type_of T) (all_trees es)
simple_of (a.Assign span ps e) = rules.Assign span (all_places ps) (tree_of e)
simple_of (a.Invoke span f is ps es) = rules.Invoke span (callee_of f) is (all_trees ps) (all_trees es)
simple_of (a.Return span e) = rules.Return span (maybe_tree e)
simple_of (a.Throw span e) = rules.Throw span (maybe_tree e)
simple_of (a.Print span kind is) = rules.Print span kind (all_items is)

abbrev pub act_rule : s.Act-F rules.Act AlternativeFirst BranchFirst CatcherFirst rules.Last → rules.Act
act_rule (s.Simple x) = simple_of x
act_rule (s.If span e first others last) = rules.If span (tree_of e) (acts_from first) (branches_from others) (acts_from last)
act_rule (s.Case span e others last) = rules.Case span (tree_of e) (alternatives_from others) last
act_rule (s.For span b body) = rules.For span (tree_of b.from) b.direction (tree_of b.to) (maybe_tree b.limit) (acts_from body)
act_rule (s.While span g body) = rules.While span (tree_of g.condition) (maybe_tree g.limit) (acts_from body)
act_rule (s.Repeat span body g) = rules.Repeat span (acts_from body) (tree_of g.condition) (maybe_tree g.limit)
act_rule (s.Try span body cs last) = rules.Try span (acts_from body) (catchers_from cs) last

abbrev pub branch_rule : s.Branch-F rules.Act AlternativeFirst BranchFirst CatcherFirst rules.Last → BranchFirst
branch_rule (s.Elsif e body) bs = rules.branch_and (tree_of e) (acts_from body) bs

abbrev pub alternative_rule : s.Alternative-F rules.Act AlternativeFirst BranchFirst CatcherFirst rules.Last → AlternativeFirst
alternative_rule (s.When c body) more = rules.alternative_and (all_patterns c.patterns) (all_trees c.trees) (maybe_tree c.condition) (acts_from body) more

abbrev pub catcher_rule : s.Catcher-F rules.Act AlternativeFirst BranchFirst CatcherFirst rules.Last → CatcherFirst
catcher_rule (s.Catch is_named name body) cs = rules.catcher_and is_named name (acts_from body) cs

abbrev pub last_rule : s.Last-F rules.Act AlternativeFirst BranchFirst CatcherFirst rules.Last → rules.Last
last_rule s.None = rules.none_last
last_rule (s.Otherwise body) = rules.otherwise (acts_from body)

abbrev pub act_of : Act → rules.Act
act_of = fold-Act rules.Act AlternativeFirst BranchFirst CatcherFirst rules.Last act_rule alternative_rule branch_rule catcher_rule last_rule

abbrev pub branch_of : Branch → BranchFirst
branch_of = fold-Branch rules.Act AlternativeFirst BranchFirst CatcherFirst rules.Last act_rule alternative_rule branch_rule catcher_rule last_rule

abbrev pub alternative_of : Alternative → AlternativeFirst
alternative_of = fold-Alternative rules.Act AlternativeFirst BranchFirst CatcherFirst rules.Last act_rule alternative_rule branch_rule catcher_rule last_rule

abbrev pub catcher_of : Catcher → CatcherFirst
catcher_of = fold-Catcher rules.Act AlternativeFirst BranchFirst CatcherFirst rules.Last act_rule alternative_rule branch_rule catcher_rule last_rule

abbrev pub last_of : Last → rules.Last
last_of = fold-Last rules.Act AlternativeFirst BranchFirst CatcherFirst rules.Last act_rule alternative_rule branch_rule catcher_rule last_rule

abbrev pub all_acts : List Act → rules.Acts
all_acts ss = acts_from (map act_of ss)

abbrev pub all_branches : List Branch → rules.Branches
all_branches bs = branches_from (map branch_of bs)

abbrev pub all_alternatives : List Alternative → rules.Alternatives
all_alternatives more = alternatives_from (map alternative_of more)

abbrev pub all_catchers : List Catcher → rules.Catchers
all_catchers cs = catchers_from (map catcher_of cs)
