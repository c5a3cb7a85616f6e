use Rattle.asl_run.proofs.ActsAtOnce.{returns_found}
use Rattle.asl_run.proofs.acts_at_once.returned.Goals as goal

pub returns-in-Some-clause-meets : goal.returns-in-Some-clause-meets
returns-in-Some-clause-meets c = λ fs. returns_found fs _ _ _ _ _ _ _ c.in-Some.ensures (c.evaluated.ensures fs)
