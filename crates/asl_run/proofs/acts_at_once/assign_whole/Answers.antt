use Rattle.asl_run.proofs.ActsAtOnce.{assigned}
use Rattle.asl_run.proofs.acts_at_once.assign_whole.Goals as goal

pub returns-then-put-clause-meets : goal.returns-then-put-clause-meets
returns-then-put-clause-meets c = λ fs holds at.
    assigned fs _ _ holds at _ _ _ _ _ _ (c.evaluated-it.ensures fs) c.if-put.ensures.puts c.put.ensures.same.text_open
