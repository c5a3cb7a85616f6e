-- The types of operands and operands themselves, of which some stand in front.
use Rattle.std.specs.Prelude.{List, [], ◌∷◌, ◌++◌, Result, Ok}
use Rattle.asl_syn.specs.declared.code.Fault.{Fault}
use Rattle.asl_rules.specs.Faults.{◌>>=◌}
use Rattle.asl_rules.specs.types.Types.{Ty, Parts, part}
use Rattle.asl_rules.specs.expressions.Typing.{Operand}
use Rattle.asl_tree.specs.declared.tree.Tree.{Tree}
use Rattle.asl_tree.specs.View.{all_operands}

abbrev pub parts_before : List Ty → Parts → Parts
parts_before [] Ts = Ts
parts_before (T ∷ Us) Ts = part T (parts_before Us Ts)

-- the operands that come after these, where they are well formed
abbrev pub behind_operands : List Tree → Result (List Operand) Fault → Result (List Operand) Fault
behind_operands ts r = r >>= λ os. Ok (all_operands ts ++ os)
