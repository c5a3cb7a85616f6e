use Rattle.std.proofs.Common.{◌≡◌, List, Err, rules}
use Rattle.std.specs.Borrow.{Bor}
use Rattle.asl_types.specs.declared.ty.Ty.{Ty}
use Rattle.asl_subprograms.specs.private.ContextView.{scope_of}
use Rattle.asl_types.specs.View.{parts_of}
use Rattle.asl_expr.specs.PatternViews.{found_patterns}
use Rattle.asl_expr.proofs.PatternArms.{tuple_is, tuple_refused, tuple_stopped}
use Rattle.asl_expr.proofs.pattern_nodes.tuple_pattern.Goals as goal

pub returns : goal.returns
returns g c t s =
    tuple_is c.args.span (found_patterns t c.args.patterns.now) (parts_of c.in_ok-parts.parts.now) _ _ c.args.ty.now (scope_of c.args.here.now.context) (c.in_ok-parts.ensures.rule t) (c.in_ok-made.ensures t s) c.tuple_matched.ensures

pub returns-in_err-parts : goal.returns-in_err-parts
returns-in_err-parts g c t s =
    let is : c.from_residual.result ≡ Err c.in_err-parts.field-0.0 = search rules in
    tuple_refused (λ (ts : Bor (List Ty)). parts_of ts.now) c.args.span (found_patterns t c.args.patterns.now) c.args.ty.now (scope_of c.args.here.now.context) c.in_err-parts.field-0.0 c.from_residual.result is (c.in_err-parts.ensures.rule t)

pub returns-in_err-made : goal.returns-in_err-made
returns-in_err-made g c t s =
    let is : c.from_residual-in_err-made.result ≡ Err c.in_err-made.field-0.0 = search rules in
    tuple_stopped c.args.span (found_patterns t c.args.patterns.now) (parts_of c.in_ok-parts.parts.now) c.args.ty.now (scope_of c.args.here.now.context) c.in_err-made.field-0.0 c.from_residual-in_err-made.result is
    (c.in_ok-parts.ensures.rule t) (c.in_err-made.ensures t s)
