use Rattle.std.proofs.Common.{◌≡◌, rules, subst, sym, ap, ◌∙◌}
use Rattle.asl_rules.specs.private.ByPlace.{seen_where}
use Rattle.asl_rules.specs.runs.Cuts.{cuts}
use Rattle.asl_rules.specs.runs.Plans.{Ret, lift, run}
use Rattle.asl_rules.specs.private.TypedMeaning.{declared}
use Rattle.asl_rules.specs.values.Values.{Normal}
use Rattle.asl_tree.specs.Acts.{taken_of}
use Rattle.asl_value.specs.View.{value_of}
use Rattle.asl_branches.specs.Meets.{Meets}
use Rattle.asl_branches.specs.View.{core_of, exit_of, meter_of, meaning_of, cutting_of}
use Rattle.asl_run.specs.private.Finishes.{tuple_pushed}
use Rattle.asl_run.proofs.finishes.declare.Goals as goal

pub returns-in-InParts-clause-acts : goal.returns-in-InParts-clause-acts
returns-in-InParts-clause-acts c = λ fs d told.
    let c0 = core_of c.args.run.now in
    let h0 = meter_of c.args.run.now told in
    let ty = c.args.ty.now in
    let x = value_of c.args.x in
    let seen : value_of c.get.result.now ≡ seen_where ty x = search rules in
    let same : declared c.args.span ty (taken_of c.args.taken.now) x c0 ≡ tuple_pushed c.args.span c.as_slice.result.now (value_of c.get.result.now) c0 =
    ap (λ b. declared c.args.span ty (taken_of b) x c0) c.in-InParts.is ∙ ap (λ v. tuple_pushed c.args.span c.in-InParts.names v c0) (sym seen) ∙ ap (λ bs. tuple_pushed c.args.span bs (value_of c.get.result.now) c0) (sym c.as_slice.ensures) in
    subst (λ r. Meets exit_of c.declare_tuple.result (core_of c.declare_tuple.new.run) (meter_of c.declare_tuple.new.run told)
    (run (meaning_of fs d) (lift r c0 (λ c1. Ret Normal c1)) h0) (cuts (meaning_of fs d) (cutting_of fs d) (lift r c0 (λ c1. Ret Normal c1)) h0))
    (sym same) (c.declare_tuple.ensures.acts fs d told)
