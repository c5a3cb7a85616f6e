use Rattle.std.proofs.Common.{◌≡◌, Ok, Result, rules}
use Rattle.asl_syn.specs.declared.code.Fault.{Fault}
use Rattle.asl_rules.specs.expressions.Slicing.{sliceable}
use Rattle.asl_tree.specs.View.{typed_of, all_operands}
use Rattle.asl_expr.proofs.Stepping.{then_went}
use Rattle.asl_expr.proofs.slices.type_slices.Goals as goal

pub returns : goal.returns
returns c t s =
    let so : sliceable c.args.span (typed_of c.args.sliced).ty (all_operands c.args.operands) ≡ (let o : Result (Unit {0}) Fault = Ok tt in o) = search rules in
    then_went typed_of _ _ tt c.slices_wide.result so (c.slices_wide.ensures t)
