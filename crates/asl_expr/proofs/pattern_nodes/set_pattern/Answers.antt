use Rattle.asl_subprograms.specs.private.ContextView.{scope_of}
use Rattle.asl_expr.specs.PatternViews.{found_patterns}
use Rattle.asl_expr.proofs.PatternArms.{set_is}
use Rattle.asl_expr.proofs.pattern_nodes.set_pattern.Goals as goal

pub returns : goal.returns
returns g c t s =
    set_is (found_patterns t c.args.patterns.now) c.args.negated _ _ c.args.ty.now (scope_of c.args.here.now.context) (c.in_ok-made.ensures t s) c.set_matched.ensures
