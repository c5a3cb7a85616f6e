use Rattle.asl_rules.specs.private.HoldsBits.{holds_bits}
use Rattle.asl_rules.specs.runs.Trees.{tree_type}
use Rattle.asl_tree.specs.Acts.{place_of}
use Rattle.asl_tree.specs.View.{tree_of}
use Rattle.asl_run.proofs.Stated.{one_alone}
use Rattle.asl_run.proofs.acts_at_once.assign_one.Goals as goal

pub returns-then-targets-eq1-clause-meets : goal.returns-then-targets-eq1-clause-meets
returns-then-targets-eq1-clause-meets c = λ fs.
    rw (one_alone place_of c.args.targets.now c.index-targets-0.result _ c.if-targets-eq1.true c.index-targets-0.is)
    (c.assign.ensures.meets fs (holds_bits (tree_type (tree_of c.args.e.now))))
