use Rattle.std.proofs.Common.{rules}
use Rattle.asl_run.proofs.ActsAtOnce.{declared}
use Rattle.asl_run.proofs.acts_at_once.declare.Goals as goal

pub returns-in-Some-clause-meets : goal.returns-in-Some-clause-meets
returns-in-Some-clause-meets c = λ fs at.
    rw c.in-Whole.is (declared fs _ _ _ at c.args.ty.now _ c.args.run.now c.push.new.run _ _ c.in-Some.ensures
    (c.gives_fields.ensures (search rules)) (c.evaluated.ensures fs) c.push.ensures.core c.push.ensures.round.text_open)
