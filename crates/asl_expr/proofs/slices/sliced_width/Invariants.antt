use Rattle.std.proofs.Common.{◌≡◌, drop}
use Rattle.asl_rules.specs.expressions.Slicing as rules
use Rattle.asl_rules.specs.statements.Targets.{found_slices}
use Rattle.asl_rules.specs.Tests.{Tests}
use Rattle.asl_rules.specs.types.Widths.{Total}
use Rattle.asl_subprograms.specs.private.ContextView.{scope_of}
use Rattle.asl_types.specs.private.Totals.{IsTotal}
use Rattle.asl_expr.proofs.slices.sliced_width.Given as goal

abbrev pub invariant-loop-s : goal.invariant-loop-s
invariant-loop-s l = (t : Tests) →
    (y : Total) × ((rules.all_add (found_slices t l.slices) rules.no_width (scope_of l.fn.context) ≡ rules.all_add (found_slices t (drop l.s-index l.slices)) y (scope_of l.fn.context)) × IsTotal l.total y)
