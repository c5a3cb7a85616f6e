-- Statements that fit a frame: their lists do.
use Rattle.std.proofs.Common.{◌≡◌, ℕ, true, List, subst}
use Rattle.asl_syn.specs.declared.token.Span.{Span}
use Rattle.asl_tree.specs.Acts.{act_of, all_acts, all_alternatives, all_branches, all_catchers, last_of, simple_of}
use Rattle.asl_tree.specs.private.Room.{FitsAct, FitsAlternatives, FitsBranches, FitsCatchers, FitsLast, FitsList}
use Rattle.asl_tree.specs.declared.act.Act.{Act}
use Rattle.asl_tree.specs.declared.act.Act.TheVariants as node
use Rattle.asl_tree.specs.declared.act.Alternative.{Alternative}
use Rattle.asl_tree.specs.declared.act.Bounds.{Bounds}
use Rattle.asl_tree.specs.declared.act.Branch.{Branch}
use Rattle.asl_tree.specs.declared.act.Catcher.{Catcher}
use Rattle.asl_tree.specs.declared.act.Guard.{Guard}
use Rattle.asl_tree.specs.declared.act.Last.{Last}
use Rattle.asl_tree.specs.declared.act.Simple.{Simple}
use Rattle.asl_tree.specs.declared.tree.Tree.{Tree}
use Rattle.asl_branches.specs.View.{FitsNamed}
use Rattle.asl_run.proofs.Stated.{case_is, for_is, if_is, repeat_is, simple_is, try_is, while_is}

pub simple_fits : (r : ℕ) (t : Act) (s : Simple) → t ≡ node.Simple s → FitsAct r (act_of t) → FitsAct r (simple_of s)
simple_fits r t s is fits = subst (λ a. FitsAct r a) (simple_is t s is) fits

pub if_fits : (r : ℕ) (t : Act) (span : Span) (e : Tree) (first : List Act) (others : List Branch) (last : List Act) →
    t ≡ node.If span e first others last → FitsAct r (act_of t) →
    FitsList r (all_acts first) × (FitsBranches r (all_branches others) × FitsList r (all_acts last))
if_fits r t span e first others last is fits = subst (λ a. FitsAct r a) (if_is t span e first others last is) fits

pub case_fits : (r : ℕ) (t : Act) (span : Span) (e : Tree) (others : List Alternative) (last : Last) → t ≡ node.Case span e others last →
    FitsAct r (act_of t) → FitsAlternatives r (all_alternatives others) × FitsLast r (last_of last)
case_fits r t span e others last is fits = subst (λ a. FitsAct r a) (case_is t span e others last is) fits

pub for_fits : (r : ℕ) (t : Act) (span : Span) (b : Bounds) (body : List Act) → t ≡ node.For span b body → FitsAct r (act_of t) →
    FitsNamed true r (all_acts body)
for_fits r t span b body is fits = subst (λ a. FitsAct r a) (for_is t span b body is) fits

pub while_fits : (r : ℕ) (t : Act) (span : Span) (g : Guard) (body : List Act) → t ≡ node.While span g body → FitsAct r (act_of t) →
    FitsList r (all_acts body)
while_fits r t span g body is fits = subst (λ a. FitsAct r a) (while_is t span g body is) fits

pub repeat_fits : (r : ℕ) (t : Act) (span : Span) (body : List Act) (g : Guard) → t ≡ node.Repeat span body g → FitsAct r (act_of t) →
    FitsList r (all_acts body)
repeat_fits r t span body g is fits = subst (λ a. FitsAct r a) (repeat_is t span body g is) fits

pub try_fits : (r : ℕ) (t : Act) (span : Span) (body : List Act) (hs : List Catcher) (last : Last) → t ≡ node.Try span body hs last →
    FitsAct r (act_of t) → FitsList r (all_acts body) × (FitsCatchers r (all_catchers hs) × FitsLast r (last_of last))
try_fits r t span body hs last is fits = subst (λ a. FitsAct r a) (try_is t span body hs last is) fits
