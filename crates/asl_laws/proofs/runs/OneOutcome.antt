-- Each node has exactly one outcome, since its meaning is a function; and a call takes one step for each node that it enters, and what
-- is known before any run is what a run gives.
use Rattle.std.proofs.Common.{◌≡◌, refl}
use Rattle.asl_rules.specs.declarations.Programs.{Environment}
use Rattle.asl_rules.specs.runs.Evaluation.{meaning}
use Rattle.asl_rules.specs.runs.Machines.{run_of}
use Rattle.asl_laws.specs.OneRun.{ExactlyOne, OneRun}
use Rattle.asl_laws.proofs.runs.Visited.{measured}
use Rattle.asl_laws.proofs.constants.KnownEnough.{one_evaluation}

the_value : {A : Type 0} (x : A) → ExactlyOne A (λ r. r ≡ x)
the_value x = record { one = x; holds = refl; only = λ other h. h }

pub one_run : (env : Environment) → OneRun env
one_run env = record {
  expr = λ d e c h. the_value ((meaning env d).expr e c h);
  stmt = λ d s c h. the_value ((meaning env d).stmt s c h);
  call = λ id args globals h. the_value (run_of env id args globals h);
  measured = measured env;
  evaluation = one_evaluation env;
}
