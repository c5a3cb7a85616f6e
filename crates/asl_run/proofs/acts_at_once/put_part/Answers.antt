use Rattle.asl_run.proofs.ActsAtOnce.{part_put}
use Rattle.asl_run.proofs.acts_at_once.put_part.Goals as goal

pub returns-in-Some-clause-puts : goal.returns-in-Some-clause-puts
returns-in-Some-clause-puts c = part_put _ _ _ _ _ _ _ _ c.value_at.ensures c.in-Some.ensures c.put_at.ensures.puts
