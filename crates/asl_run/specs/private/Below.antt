-- What functions that run the nodes below a node do, in the setting of those nodes.
use Rattle.std.specs.Prelude.{List, None, Result}
use denote.Ref.{Bor, MutBor}
use Rattle.asl_io.specs.declared.sink.Sink.{Ghosts}
use Rattle.asl_rules.specs.runs.StatementForms.{in_order}
use Rattle.asl_rules.specs.private.TypedMeaning.{acts_of}
use Rattle.asl_tree.specs.Acts.{all_acts}
use Rattle.asl_tree.specs.private.Room.{FitsList}
use Rattle.asl_tree.specs.declared.act.Act.{Act}
use Rattle.asl_tree.specs.declared.tree.Tree.{Tree}
use Rattle.asl_value.specs.declared.value.Value.{Value}
use Rattle.asl_branches.specs.declared.run.Run.{Run}
use Rattle.asl_branches.specs.declared.setting.Setting.{Setting}
use Rattle.asl_branches.specs.declared.stop.Exit.{Exit}
use Rattle.asl_branches.specs.declared.stop.Stop.{Stop}
use Rattle.asl_branches.specs.Meets.{Evaluates, RanBy, at}
use Rattle.asl_branches.specs.View.{exit_of, room_of}

-- it evaluates expressions
pub record Evals {K : Type 0} (sink : Ghosts K) (h : Setting)
    (pre : MutBor Run → MutBor K → Bor Tree → Type 0)
    (post : MutBor Run → MutBor K → Bor Tree → Result Value Stop → MutBor Run → MutBor K → Type 0) : Type 0 where
  pub callable : (s : MutBor Run) (k : MutBor K) (e : Bor Tree) → pre s k e
  pub evaluates : (s s1 : MutBor Run) (k k1 : MutBor K) (e : Bor Tree) (r : Result Value Stop) → post s k e r s1 k1 →
      Evaluates r h e.now (at sink s.now k.now) (at sink s1.now k1.now)

-- it executes lists
pub record Execs {K : Type 0} (sink : Ghosts K) (h : Setting)
    (pre : MutBor Run → MutBor K → Bor (List Act) → Type 0)
    (post : MutBor Run → MutBor K → Bor (List Act) → Result Exit Stop → MutBor Run → MutBor K → Type 0) : Type 0 where
  pub callable : (s : MutBor Run) (k : MutBor K) (t : Bor (List Act)) → FitsList (room_of s.now) (all_acts t.now) → pre s k t
  pub executes : (s s1 : MutBor Run) (k k1 : MutBor K) (t : Bor (List Act)) (r : Result Exit Stop) → post s k t r s1 k1 →
      RanBy None exit_of r h (in_order (acts_of (all_acts t.now))) (at sink s.now k.now) (at sink s1.now k1.now)
