-- Widths and numbers of the rules that those of the code stand for.
use Rattle.asl_rules.specs.expressions.Typing as typing
use Rattle.asl_tree.specs.View.{tree_of}
use Rattle.asl_widths.specs.declared.widths.Width.{Width}
use Rattle.asl_widths.specs.declared.widths.Number.{Number}

abbrev pub width_of : Width → typing.Width
width_of w = record { poly = w.poly; tree = tree_of w.tree }

abbrev pub number_of : Number → typing.Number
number_of n = record { number = n.number; tree = tree_of n.tree }
