-- Patterns in order, as the rules see them.
use Rattle.std.specs.Prelude.{map}
use Rattle.asl_shape.specs.View.{pattern_of}
use Rattle.asl_tree.specs.View.{tree_of}
use Rattle.asl_choices.specs.declared.cases.Patterns.{Patterns}
use Rattle.asl_blocks.specs.private.Walks.{Patterned, patterned}

abbrev pub patterns_of : Patterns → Patterned
patterns_of p = patterned (map pattern_of p.shapes) (map tree_of p.trees)
