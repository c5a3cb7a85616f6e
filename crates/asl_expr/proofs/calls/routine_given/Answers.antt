use Rattle.std.proofs.Common.{◌≡◌, Err, rules}
use Rattle.asl_tree.specs.View.{typed_of}
use Rattle.asl_expr.specs.CallViews.{replacing_of}
use Rattle.asl_expr.proofs.Stepping.{went, stops}
use Rattle.asl_expr.proofs.calls.routine_given.Goals as goal

pub returns : goal.returns
returns c t = went typed_of _ _ (replacing_of c.in_ok-given.given) c.routine_called.result (c.in_ok-given.ensures t) c.routine_called.ensures

pub returns-in_err-given : goal.returns-in_err-given
returns-in_err-given c t =
    let is : c.from_residual.result ≡ Err c.in_err-given.field-0.0 = search rules in
    stops replacing_of typed_of _ _ c.in_err-given.field-0.0 c.from_residual.result is (c.in_err-given.ensures t)
