-- The parts of constraints in order: what the code gathers of them.
use Rattle.std.specs.Prelude.{nat_le, length, List, [], ◌∷◌, ◌++◌, map, Result, Ok}
use Rattle.asl_syn.specs.declared.token.Span.{Span}
use Rattle.asl_syn.specs.declared.code.Fault.{Fault}
use Rattle.asl_syn.specs.declared.code.StaticCode.TheVariants.{T20}
use Rattle.asl_syn.specs.declared.tree.ConstraintPart.{ConstraintPart}
use Rattle.asl_syn.specs.declared.tree.Bitfield.TheFolds.{fold-ConstraintPart}
use Rattle.asl_cons.specs.declared.Part.{Part}
use Rattle.asl_rules.specs.Faults.{◌>>=◌, ◌>>◌, need}
use Rattle.asl_rules.specs.Tests.{Tests}
use Rattle.asl_rules.specs.types.Types.{integer_of}
use Rattle.asl_rules.specs.types.Shapes as shape
use Rattle.asl_rules.specs.runs.Trees.{Tree}
use Rattle.asl_rules.specs.expressions.Typing.{Found}
use Rattle.asl_rules.specs.expressions.Slicing.{FoundSlice}
use Rattle.asl_rules.specs.expressions.Patterns.{FoundPattern}
use Rattle.asl_rules.specs.types.Writing.{FoundPart, FoundBitfield, FoundType, Written, WrittenPart, written_as, most_parts, parts_written, part_shapes, part_trees}
use Rattle.asl_rules.specs.expressions.Exprs.{FoundField, bitfield_rule, part_rule, expr_rule, given_rule, pattern_rule, slice_rule, type_rule}
use Rattle.asl_shape.specs.View.{part_of, all_parts}
use Rattle.asl_tree.specs.View.{tree_of}
use Rattle.asl_written.specs.declared.constraints.PartWritten.{PartWritten}
use Rattle.asl_written.specs.declared.constraints.PartsWritten.{PartsWritten}

abbrev pub found_part : Tests → ConstraintPart → FoundPart
found_part t = fold-ConstraintPart FoundBitfield FoundPart Found FoundField FoundPattern FoundSlice FoundType bitfield_rule part_rule (expr_rule t) given_rule (pattern_rule t) slice_rule (type_rule t)

abbrev pub found_parts : Tests → List ConstraintPart → List FoundPart
found_parts t ps = map (found_part t) ps

abbrev pub part_view : PartWritten → WrittenPart
part_view p = record { part = p.part; shape = part_of p.shape; trees = map tree_of p.trees }

-- several: their parts, their shapes and their trees
pub record Gathered : Type 0 where
  pub parts : List Part
  pub shapes : List shape.PartShape
  pub trees : List Tree

abbrev pub gathered_view : PartsWritten → Gathered
gathered_view g = record { parts = g.parts.items; shapes = all_parts g.shapes; trees = map tree_of g.trees }

-- these behind those
abbrev pub with_parts : Gathered → List WrittenPart → Gathered
with_parts g qs = record { parts = g.parts ++ parts_written qs; shapes = g.shapes ++ part_shapes qs; trees = g.trees ++ part_trees qs }

abbrev pub none_gathered : Gathered
none_gathered = record { parts = []; shapes = []; trees = [] }

abbrev pub gathered : List WrittenPart → Gathered
gathered qs = record { parts = parts_written qs; shapes = part_shapes qs; trees = part_trees qs }

abbrev pub behind_parts : Gathered → Result (List WrittenPart) Fault → Result Gathered Fault
behind_parts g r = r >>= λ qs. Ok (with_parts g qs)

-- integers in a constraint of parts that were gathered
abbrev pub integer_from : Span → Gathered → Result Written Fault
integer_from span g = need (nat_le (length g.parts) most_parts) T20 span >> Ok (written_as (integer_of g.parts) (shape.integer_of g.shapes) g.trees)
