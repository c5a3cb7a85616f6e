use Rattle.asl_expr.specs.PatternViews.{found_patterns, parts_for}
use Rattle.asl_expr.proofs.PatternArms.{parts_refused}
use Rattle.asl_expr.proofs.PatternLemmas.{parts_fit, parts_apart}
use Rattle.asl_expr.proofs.patterns.parts_of_tuple.Goals as goal

pub returns-then-parts-patterns-clause-rule : goal.returns-then-parts-patterns-clause-rule
returns-then-parts-patterns-clause-rule c t =
    parts_refused _ _ (parts_for c.args.span (found_patterns t c.args.patterns.now) c.args.ty.now) _ c.fault-then-parts-patterns.ensures
    (parts_apart t c.args.span c.args.patterns.now c.args.ty.now c.tuple_parts.result c.in-Some.parts c.tuple_parts.ensures c.in-Some.is c.if-parts-patterns.true)

pub returns-clause-rule : goal.returns-clause-rule
returns-clause-rule c t =
    parts_fit t c.args.span c.args.patterns.now c.args.ty.now c.tuple_parts.result c.in-Some.parts c.tuple_parts.ensures c.in-Some.is c.if-parts-patterns.false
