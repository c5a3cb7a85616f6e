-- Catchers, one by one.
use Rattle.std.proofs.Common.{◌≡◌, ℕ, ◌+◌, ◌<◌, ◌≤◌, Bool, true, false, List, ◌∷◌, length, get_or, drop, Option, sym, ap, ◌∙◌}
use Rattle.std.proofs.lemmas.List.{at_drop_all}
use Rattle.asl_rules.specs.runs.Plans.{choose}
use Rattle.asl_rules.specs.runs.StatementForms.{catch_list, catchers, handling, is_caught, uncaught}
use Rattle.asl_rules.specs.runs.Trees as rules
use Rattle.asl_rules.specs.runs.Trees.{Act}
use Rattle.asl_rules.specs.private.TypedMeaning.{BareCore, Runs, acts_of, catches_of, caught_as, in_bare, itself}
use Rattle.asl_rules.specs.values.Values.{Value, Exit}
use Rattle.asl_tree.specs.Acts.{AlternativeFirst, BranchFirst, CatcherFirst, act_rule, alternative_rule, branch_rule, catcher_rule, last_rule, catcher_of, all_acts, all_catchers}
use Rattle.asl_tree.specs.declared.act.Act.{Act as Doing}
use Rattle.asl_tree.specs.declared.act.Act.TheFolds.{fold-roll-Catcher}
use Rattle.asl_tree.specs.declared.act.Act.TheOpen as layers
use Rattle.asl_tree.specs.declared.act.Catcher.{Catcher}
use Rattle.asl_tree.specs.declared.act.Catcher.TheVariants as when
use Rattle.asl_branches.proofs.Fronts.{at_front}

abbrev pub all_from : Value → List Catcher → Option (List Act) → BareCore → Runs Exit
all_from x hs last c = catchers in_bare itself x (catches_of (all_catchers hs)) last c

catcher_when : (is_named : Bool) (name : List ℕ) (ss : List Doing) (hs : List Catcher) → catches_of (all_catchers (when.Catch is_named name ss ∷ hs)) ≡ record { caught = name; named = caught_as is_named; body = acts_of (all_acts ss) } ∷ catches_of (all_catchers hs)
catcher_when is_named name ss hs = ap (λ (f : CatcherFirst). catches_of (f (all_catchers hs)))
    (ap catcher_of (sym (when.rolls-Catch is_named name ss)) ∙ fold-roll-Catcher rules.Act AlternativeFirst BranchFirst CatcherFirst rules.Last act_rule alternative_rule branch_rule catcher_rule last_rule (layers.Catch is_named name ss))

at_catcher : (x : Value) (hs : List Catcher) (k : ℕ) (a : Catcher) (is_named : Bool) (name : List ℕ) (ss : List Doing) (last : Option (List Act)) (c : BareCore) → k < length hs → a ≡ get_or hs k a → a ≡ when.Catch is_named name ss →
    all_from x (drop k hs) last c ≡ choose (is_caught name x) (handling in_bare x (catch_list in_bare (caught_as is_named) x (acts_of (all_acts ss))) c) (all_from x (drop (k + 1) hs) last c)
at_catcher x hs k a is_named name ss last c within here is =
    ap (λ cs. catchers in_bare itself x cs last c) (ap (λ us. catches_of (all_catchers us)) (at_front hs k a within here ∙ ap (λ b. b ∷ drop (k + 1) hs) is) ∙ catcher_when is_named name ss (drop (k + 1) hs))

-- it takes the exception
pub catcher_takes : (x : Value) (hs : List Catcher) (k : ℕ) (a : Catcher) (is_named : Bool) (name : List ℕ) (ss : List Doing) (last : Option (List Act)) (c : BareCore) → k < length hs → a ≡ get_or hs k a → a ≡ when.Catch is_named name ss → is_caught name x ≡ true →
    all_from x (drop k hs) last c ≡ handling in_bare x (catch_list in_bare (caught_as is_named) x (acts_of (all_acts ss))) c
catcher_takes x hs k a is_named name ss last c within here is e =
    at_catcher x hs k a is_named name ss last c within here is ∙ ap (λ b. choose b (handling in_bare x (catch_list in_bare (caught_as is_named) x (acts_of (all_acts ss))) c) (all_from x (drop (k + 1) hs) last c)) e

-- it doesn't
pub catcher_leaves : (x : Value) (hs : List Catcher) (k : ℕ) (a : Catcher) (is_named : Bool) (name : List ℕ) (ss : List Doing) (last : Option (List Act)) (c : BareCore) → k < length hs → a ≡ get_or hs k a → a ≡ when.Catch is_named name ss → is_caught name x ≡ false →
    all_from x (drop k hs) last c ≡ all_from x (drop (k + 1) hs) last c
catcher_leaves x hs k a is_named name ss last c within here is e =
    at_catcher x hs k a is_named name ss last c within here is ∙ ap (λ b. choose b (handling in_bare x (catch_list in_bare (caught_as is_named) x (acts_of (all_acts ss))) c) (all_from x (drop (k + 1) hs) last c)) e

-- none is left
pub catchers_ended : (x : Value) (hs : List Catcher) (k : ℕ) (last : Option (List Act)) (c : BareCore) → length hs ≤ k → all_from x (drop k hs) last c ≡ uncaught in_bare x last c
catchers_ended x hs k last c e = ap (λ us. all_from x us last c) (at_drop_all (λ us. us) hs k e)
