use Rattle.std.proofs.Common.{◌≡◌, rules, subst, sym}
use Rattle.asl_rules.specs.runs.Cuts.{cuts}
use Rattle.asl_rules.specs.runs.Plans.{Ret, lift, run}
use Rattle.asl_rules.specs.values.Values.{Normal}
use Rattle.asl_branches.specs.Meets.{Meets}
use Rattle.asl_branches.specs.View.{core_of, exit_of, meter_of, meaning_of, cutting_of}
use Rattle.asl_run.proofs.Taking.{tuple_parts}
use Rattle.asl_run.proofs.finishes.declare_tuple.Goals as goal

pub returns-in-Tuple-clause-acts : goal.returns-in-Tuple-clause-acts
returns-in-Tuple-clause-acts c = λ fs d told.
    let c0 = core_of c.args.run.now in
    let h0 = meter_of c.args.run.now told in
    let here : c.as_slice.result.now ≡ c.in-Tuple.parts = search rules in
    subst (λ r. Meets exit_of c.declare_parts.result (core_of c.declare_parts.new.run) (meter_of c.declare_parts.new.run told)
    (run (meaning_of fs d) (lift r c0 (λ c1. Ret Normal c1)) h0) (cuts (meaning_of fs d) (cutting_of fs d) (lift r c0 (λ c1. Ret Normal c1)) h0))
    (sym (tuple_parts c.args.span c.args.named.now c.args.x.now c.in-Tuple.parts c.as_slice.result.now c0 c.in-Tuple.is here)) (c.declare_parts.ensures.acts fs d told)
