use Rattle.std.proofs.Common.{◌≡◌, Err, rules}
use Rattle.asl_poly.specs.Terms.{Polynomial}
use Rattle.asl_tree.specs.View.{typed_of}
use Rattle.asl_expr.proofs.Stepping.{went, stops}
use Rattle.asl_expr.proofs.slices.slices_wide.Goals as goal

pub returns : goal.returns
returns c t = went typed_of _ _ c.in_ok-width.width c.slices_sized.result (c.in_ok-width.ensures t) (c.slices_sized.ensures t)

pub returns-in_err-width : goal.returns-in_err-width
returns-in_err-width c t =
    let is : c.from_residual.result ≡ Err c.in_err-width.field-0.0 = search rules in
    stops (λ (p : Polynomial). p) typed_of _ _ c.in_err-width.field-0.0 c.from_residual.result is (c.in_err-width.ensures t)
