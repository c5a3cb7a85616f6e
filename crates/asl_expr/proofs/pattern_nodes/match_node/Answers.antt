use Rattle.asl_subprograms.specs.private.ContextView.{scope_of}
use Rattle.asl_expr.proofs.PatternArms.{range_met}
use Rattle.asl_expr.proofs.Falling.{set_matching, tuple_matching}
use Rattle.asl_expr.proofs.pattern_nodes.match_node.Goals as goal

pub set_pattern-requires : goal.set_pattern-requires
set_pattern-requires g c = record { matching = set_matching _ _ _ _ _ _ _ c.in-SetPattern.is c.as_slice.ensures c.requires.matching }

pub tuple_pattern-requires : goal.tuple_pattern-requires
tuple_pattern-requires g c = record { matching = tuple_matching _ _ _ _ _ _ c.in-TuplePattern.is c.as_slice-in-TuplePattern.ensures c.requires.matching }

pub returns-in-RangePattern : goal.returns-in-RangePattern
returns-in-RangePattern g c t s =
    range_met t c.args.pattern.now _ _ _ c.args.ty.now (scope_of c.args.here.now.context) c.range_pattern.result c.in-RangePattern.is (c.range_pattern.ensures t s)
