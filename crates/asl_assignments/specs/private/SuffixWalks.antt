-- Slices of a target, behind the condition that they can be taken.
use Rattle.std.specs.Prelude.{List, [], Result, Ok}
use Rattle.asl_syn.specs.declared.token.Span.{Span}
use Rattle.asl_syn.specs.declared.code.Fault.{Fault}
use Rattle.asl_rules.specs.Faults.{◌>>=◌}
use Rattle.asl_rules.specs.declarations.Scopes.{Scope}
use Rattle.asl_rules.specs.expressions.Slicing.{FoundSlice, sliced_width, shapes_of}
use Rattle.asl_rules.specs.statements.Targets.{Behind, behind}
use Rattle.asl_rules.specs.runs.Trees.{into_slices}
use Rattle.asl_rules.specs.types.Types.{bits_of}
use Rattle.asl_rules.specs.expressions.Typing.{Operand, trees_of}

-- what lies behind slices of bits whose operands are integers
abbrev pub bits_behind : Span → List FoundSlice → List Operand → Scope → Result Behind Fault
bits_behind at ss os G = sliced_width at ss G >>= λ w. Ok (behind (bits_of w []) (into_slices at (shapes_of ss) (trees_of os)))
