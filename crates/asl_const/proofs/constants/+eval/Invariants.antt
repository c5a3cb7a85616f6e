use Rattle.std.proofs.Common.{◌≡◌, ◌≤◌, ◌+◌, ◌*◌, [], drop, map}
use Rattle.asl_syn.specs.declared.tree.Expr.{size-Expr}
use Rattle.asl_value.specs.View.{value_of}
use Rattle.asl_const.specs.private.Finds.{known_after}
use Rattle.asl_const.specs.private.Gathered.{constants, deepest}
use Rattle.asl_const.proofs.constants.+eval.Given as goal

abbrev pub decreases-eval : goal.decreases-eval
decreases-eval l = 2 * size-Expr l.e.now

-- a list stands above its expressions
abbrev pub decreases-eval_all : goal.decreases-eval_all
decreases-eval_all l = 2 * deepest l.es.now + 1

abbrev pub invariant-eval_all-loop-e : goal.invariant-eval_all-loop-e
invariant-eval_all-loop-e l = record {
  values : known_after (map value_of l.values) (constants (drop l.e-index l.es)) l.names ≡ known_after [] (constants l.es) l.names;
  depth : deepest (drop l.e-index l.es) ≤ deepest l.es;
}
