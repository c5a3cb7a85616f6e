-- Written types of the rules that those of the code stand for.
use Rattle.std.specs.Prelude.{map}
use Rattle.asl_rules.specs.types.Writing as writing
use Rattle.asl_shape.specs.View.{type_of}
use Rattle.asl_tree.specs.View.{tree_of}
use Rattle.asl_written.specs.declared.written.Written.{Written}

abbrev pub written_of : Written → writing.Written
written_of w = record { ty = w.ty; shape = type_of w.shape; sizes = map tree_of w.sizes }
