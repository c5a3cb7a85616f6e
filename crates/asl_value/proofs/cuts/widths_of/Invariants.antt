use Rattle.std.proofs.Common.{◌≡◌, drop, map}
use Rattle.asl_bits.specs.declared.TheConstants.{WIDTH_LIMIT}
use Rattle.asl_rules.specs.values.Vectors.{widths_of}
use Rattle.asl_value.specs.private.Cutting.{slicing_of, wide_of}
use Rattle.asl_value.proofs.SlicesRead.{behind}
use Rattle.asl_value.proofs.cuts.widths_of.Given as goal

-- those that were tested stand in front of those left
abbrev pub invariant-loop-slicing : goal.invariant-loop-slicing
invariant-loop-slicing l = widths_of WIDTH_LIMIT l.span (map slicing_of l.slicings) ≡ behind wide_of l.made (widths_of WIDTH_LIMIT l.span (map slicing_of (drop l.slicing-index l.slicings)))
