-- The bounds of a `for`, as the rules see them.
use Rattle.asl_tree.specs.View.{operand_of}
use Rattle.asl_blocks.specs.private.Views.{maybe_operand}
use Rattle.asl_loops.specs.declared.loops.Bounds.{Bounds}
use Rattle.asl_blocks.specs.private.Walks as walks

abbrev pub bounds_of : Bounds → walks.Bounds
bounds_of b = record { from = operand_of b.from; to = operand_of b.to; limit = maybe_operand b.limit }
