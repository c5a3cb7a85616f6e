use Rattle.std.proofs.Common.{ap, arith}
use Rattle.asl_rules.specs.runs.Plans.{Ret, lift, run}
use Rattle.asl_rules.specs.values.Values.{Normal}
use Rattle.asl_branches.specs.View.{core_of, meter_of, meaning_of}
use Rattle.asl_run.proofs.Taking.{parts_uneven}
use Rattle.asl_run.proofs.finishes.declare_parts.Goals as goal

pub returns-then-named-parts-clause-acts : goal.returns-then-named-parts-clause-acts
returns-then-named-parts-clause-acts c = λ fs d told.
    ap (λ r. run (meaning_of fs d) (lift r (core_of c.args.run.now) (λ c1. Ret Normal c1)) (meter_of c.args.run.now told))
    (parts_uneven c.args.span c.args.named.now c.args.parts.now (core_of c.args.run.now) (λ e. omega (arith, e)))
