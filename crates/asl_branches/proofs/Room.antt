-- Room that is left for what was to be declared.
use Rattle.std.proofs.Common.{◌≡◌, ℕ, ◌+◌, ◌-◌, ◌<◌, ◌≤◌, Bool, true, false, List, ◌∷◌, length, get_or, take, drop, Ok, sym, ap, ◌∙◌, subst, arith}
use Rattle.asl_rules.specs.runs.Trees as rules
use Rattle.asl_rules.specs.runs.Trees.{Acts, Alternatives, Catchers, Last, alternative_and, catcher_and, otherwise}
use Rattle.asl_rules.specs.private.TypedMeaning.{BareCore, Runs}
use Rattle.asl_shape.specs.View.{all_patterns}
use Rattle.asl_tree.specs.Acts.{AlternativeFirst, BranchFirst, CatcherFirst, act_rule, alternative_rule, branch_rule, catcher_rule, last_rule, alternative_of, catcher_of, last_of, all_acts, all_alternatives, all_catchers, maybe_tree}
use Rattle.asl_tree.specs.View.{all_trees}
use Rattle.asl_tree.specs.declared.tree.Tree.{Tree}
use Rattle.asl_value.specs.declared.value.Value.{Value as Stored}
use Rattle.asl_tree.specs.declared.act.Act.{Act as Doing}
use Rattle.asl_tree.specs.declared.act.Act.TheFolds.{fold-roll-Alternative, fold-roll-Catcher, fold-roll-Last}
use Rattle.asl_tree.specs.declared.act.Act.TheOpen as layers
use Rattle.asl_tree.specs.declared.act.Alternative.{Alternative}
use Rattle.asl_tree.specs.declared.act.Alternative.TheVariants as when
use Rattle.asl_tree.specs.declared.act.Catcher.{Catcher}
use Rattle.asl_tree.specs.declared.act.Catcher.TheVariants as catching
use Rattle.asl_tree.specs.declared.act.Choice.{Choice as Wanted}
use Rattle.asl_tree.specs.declared.act.Last.{Last as Behind}
use Rattle.asl_tree.specs.declared.act.Last.TheVariants as behind
use Rattle.asl_tree.specs.private.Room.{FitsAlternatives, FitsCatchers, FitsLast, FitsList}
use Rattle.asl_tree.proofs.Room.{fits_more}
use Rattle.asl_branches.specs.Framed.{Framed}
use Rattle.asl_branches.specs.declared.run.Run.{Run}
use Rattle.asl_branches.specs.declared.setting.Setting.{Setting}
use Rattle.asl_branches.specs.Meets.{At, Evaluates, Ran, SameBut, SameRound, Underway}
use Rattle.asl_branches.specs.View.{FitsNamed, height_of, room_of}
use Rattle.asl_branches.proofs.Fronts.{at_front}
use Rattle.asl_branches.proofs.Stacks.{cut_height}

-- ---- a frame has no less room

-- it has as many slots, and no more values
pub no_less : (s s1 : Run) → s1.frames.slots ≡ s.frames.slots → height_of s1 ≤ height_of s → room_of s ≤ room_of s1
no_less s s1 e p = omega (arith, e, p)

-- the value of an expression leaves it so
pub no_less_eval : (h : Setting) (e : Tree) (a a1 : At) (x : Stored) → Evaluates (Ok x) h e a a1 → room_of a.run ≤ room_of a1.run
no_less_eval h e a a1 x n = no_less a.run a1.run n.keeps.slots (omega (arith, n.grows))

-- an answer does
pub no_less_after : {A B : Type 0} (v : A → B) (h : Setting) (q : BareCore → Runs B) (a a1 : At) (x : A) → Ran v (Ok x) h q a a1 →
    room_of a.run ≤ room_of a1.run
no_less_after v h q a a1 x n = no_less a.run a1.run n.keeps.slots (omega (arith, n.grows))

-- a loop does
pub no_less_left : {A : Type 0} (h : Setting) (p q : BareCore → Runs A) (a0 a : At) → Underway h p a q a0 → room_of a0.run ≤ room_of a.run
no_less_left h p q a0 a u = no_less a0.run a.run u.round.slots u.height

-- what is bound was cut to what was bound before
pub no_less_cut : (s s1 : Run) (f : Framed) (n : ℕ) → SameRound s s1 → n ≡ height_of s → f ≡ record s1.frames { values = take n s1.frames.values } →
    room_of s ≤ f.slots - length f.values
no_less_cut s s1 f n round here is =
    let slots : f.slots ≡ s1.frames.slots = ap (λ (g : Framed). g.slots) is in
    let cut : length f.values ≤ n = omega (arith, ap (λ (g : Framed). length g.values) is, cut_height n s1.frames.values) in
    omega (arith, slots, round.slots, cut, here)

pub fits_more_named : (b : Bool) (r q : ℕ) (ss : Acts) → r ≤ q → FitsNamed b r ss → FitsNamed b q ss
fits_more_named true r q ss up fits = (omega (arith, up, fits.0), fits_more (r - 1) (q - 1) ss (omega (arith, up)) fits.1)
fits_more_named false r q ss up fits = fits_more r q ss up fits

-- what fits behind a name fits where that is bound
pub behind_name : (s s1 : Run) (ss : Acts) → SameBut s s1 → height_of s1 ≡ 1 + height_of s → FitsNamed true (room_of s) ss → FitsList (room_of s1) ss
behind_name s s1 ss same up fits = fits_more (room_of s - 1) (room_of s1) ss (omega (arith, same.slots, up)) fits.1

-- ---- the parts of what fits

first_alternative : (c : Wanted) (ss : List Doing) (others : List Alternative) → all_alternatives (when.When c ss ∷ others) ≡
    alternative_and (all_patterns c.patterns) (all_trees c.trees) (maybe_tree c.condition) (all_acts ss) (all_alternatives others)
first_alternative c ss others = ap (λ (f : AlternativeFirst). f (all_alternatives others))
    (ap alternative_of (sym (when.rolls-When c ss)) ∙ fold-roll-Alternative rules.Act AlternativeFirst BranchFirst CatcherFirst rules.Last act_rule alternative_rule branch_rule catcher_rule last_rule (layers.When c ss))

-- an alternative's list, and the alternatives behind it
pub alternative_fits : (r : ℕ) (others : List Alternative) (k : ℕ) (a : Alternative) (w : Wanted) (ss : List Doing) → k < length others →
    a ≡ get_or others k a → a ≡ when.When w ss → FitsAlternatives r (all_alternatives (drop k others)) →
    FitsList r (all_acts ss) × FitsAlternatives r (all_alternatives (drop (k + 1) others))
alternative_fits r others k a w ss within here is fits =
    subst (λ us. FitsAlternatives r us)
    (ap all_alternatives (at_front others k a within here ∙ ap (λ b. b ∷ drop (k + 1) others) is) ∙ first_alternative w ss (drop (k + 1) others)) fits

first_catcher : (is_named : Bool) (name : List ℕ) (ss : List Doing) (hs : List Catcher) → all_catchers (catching.Catch is_named name ss ∷ hs) ≡
    catcher_and is_named name (all_acts ss) (all_catchers hs)
first_catcher is_named name ss hs = ap (λ (f : CatcherFirst). f (all_catchers hs))
    (ap catcher_of (sym (catching.rolls-Catch is_named name ss)) ∙ fold-roll-Catcher rules.Act AlternativeFirst BranchFirst CatcherFirst rules.Last act_rule alternative_rule branch_rule catcher_rule last_rule (layers.Catch is_named name ss))

list_of_catcher : (b : Bool) (r : ℕ) (ss : Acts) (hs : Catchers) (name : List ℕ) → FitsCatchers r (catcher_and b name ss hs) → FitsNamed b r ss × FitsCatchers r hs
list_of_catcher true r ss hs name fits = ((fits.0, fits.1.0), fits.1.1)
list_of_catcher false r ss hs name fits =
    let whole : r - 0 ≡ r = omega arith in
    (subst (λ (n : ℕ). FitsList n ss) whole fits.1.0, fits.1.1)

-- a catcher's list, in front of which the exception may have a name, and the catchers behind it
pub catcher_fits : (r : ℕ) (hs : List Catcher) (k : ℕ) (a : Catcher) (is_named : Bool) (name : List ℕ) (ss : List Doing) → k < length hs →
    a ≡ get_or hs k a → a ≡ catching.Catch is_named name ss → FitsCatchers r (all_catchers (drop k hs)) →
    FitsNamed is_named r (all_acts ss) × FitsCatchers r (all_catchers (drop (k + 1) hs))
catcher_fits r hs k a is_named name ss within here is fits =
    list_of_catcher is_named r (all_acts ss) (all_catchers (drop (k + 1) hs)) name
    (subst (λ us. FitsCatchers r us)
    (ap all_catchers (at_front hs k a within here ∙ ap (λ b. b ∷ drop (k + 1) hs) is) ∙ first_catcher is_named name ss (drop (k + 1) hs)) fits)

-- the list of an `otherwise`
pub last_fits : (r : ℕ) (last : Behind) (ss : List Doing) → last ≡ behind.Otherwise ss → FitsLast r (last_of last) → FitsList r (all_acts ss)
last_fits r last ss is fits =
    subst (λ l. FitsLast r l)
    (ap last_of (is ∙ sym (behind.rolls-Otherwise ss)) ∙ fold-roll-Last rules.Act AlternativeFirst BranchFirst CatcherFirst rules.Last act_rule alternative_rule branch_rule catcher_rule last_rule (layers.Otherwise ss)) fits
