use Rattle.std.proofs.Common.{rules, arith, List, Result, sym, subst}
use Rattle.asl_syn.specs.declared.code.Fault.{Fault}
use Rattle.asl_rules.specs.types.Types.{Ty}
use Rattle.asl_types.specs.private.Answers.{Met}
use Rattle.asl_types.specs.View.{fields_of}
use Rattle.asl_typing.proofs.GivenTypes.{types_next, types_opened}
use Rattle.asl_typing.proofs.constructs.types_given.Goals as goal

pub returns-in_err-ty : goal.returns-in_err-ty
returns-in_err-ty c =
    let gives = types_opened _ c.args.given.now c.loop-place.place c.index-given-place.result c.name_given.result.now c.loop-place.types (fields_of c.args.fields.now)
    (omega (arith, c.loop-place-test.true)) c.index-given-place.is c.name_given.ensures c.loop-place.invariant in
    subst (λ (z : Result (List Ty) Fault). Met (λ tys. tys) c.from_residual.result z) (sym gives) (search rules)

pub loop-place-preserved : goal.loop-place-preserved
loop-place-preserved c = types_next _ c.args.given.now c.loop-place.place c.index-given-place.result c.name_given.result.now c.loop-place.types c.push.new.self c.in_ok-ty.ty (fields_of c.args.fields.now)
    (omega (arith, c.loop-place-test.true)) c.index-given-place.is c.name_given.ensures c.in_ok-ty.ensures c.in_ok-push.ensures.ok c.loop-place.invariant
