-- The shapes and the subprograms of the library that those of the code stand for.
use Rattle.std.specs.Prelude.{List, [], ◌∷◌, map}
use Rattle.asl_rules.specs.types.Closed.{closed}
use Rattle.asl_rules.specs.types.Shapes as rules
use Rattle.asl_rules.specs.declarations.Routines as routines
use Rattle.asl_rules.specs.runs.Trees as trees
use Rattle.asl_value.specs.View.{digits_of}
use Rattle.asl_shape.specs.declared.routines.Routine.{Routine}
use Rattle.asl_shape.specs.declared.routines.Routine.TheVariants as r
use Rattle.asl_shape.specs.declared.shapes.FieldGiven.{FieldGiven}
use Rattle.asl_shape.specs.declared.shapes.PartShape.{PartShape}
use Rattle.asl_shape.specs.declared.shapes.PartShape.TheVariants as part
use Rattle.asl_shape.specs.declared.shapes.BitfieldShape.{BitfieldShape}
use Rattle.asl_shape.specs.declared.shapes.BitfieldShape.TheVariants as b
use Rattle.asl_shape.specs.declared.shapes.PatternShape.{PatternShape}
use Rattle.asl_shape.specs.declared.shapes.PatternShape.TheOpen as p
use Rattle.asl_shape.specs.declared.shapes.PatternShape.TheFolds.{fold-PatternShape}
use Rattle.asl_shape.specs.declared.shapes.TypeShape.{TypeShape}
use Rattle.asl_shape.specs.declared.shapes.TypeShape.TheOpen as t
use Rattle.asl_shape.specs.declared.shapes.TypeShape.TheFolds.{fold-TypeShape}

abbrev pub routine_of : Routine → routines.Routine
routine_of r.UInt = routines.UInt
routine_of r.SInt = routines.SInt
routine_of r.Zeros = routines.Zeros
routine_of r.Ones = routines.Ones
routine_of r.ZeroExtend = routines.ZeroExtend
routine_of r.SignExtend = routines.SignExtend
routine_of r.IsZero = routines.IsZero
routine_of r.IsOnes = routines.IsOnes
routine_of r.Len = routines.Len
routine_of r.Abs = routines.Abs
routine_of r.Min = routines.Min
routine_of r.Max = routines.Max

-- ---- constructions

abbrev pub given_view : FieldGiven → trees.FieldGiven
given_view g = record { name = g.name; ty = g.ty; place = g.place }

abbrev pub all_given : List FieldGiven → List trees.FieldGiven
all_given gs = map given_view gs

-- ---- patterns

abbrev pub patterns_from : List rules.PatternShape → rules.PatternShapes
patterns_from [] = rules.no_pattern
patterns_from (p ∷ ps) = rules.pattern_and p (patterns_from ps)

abbrev pub pattern_rule : p.PatternShape-F rules.PatternShape → rules.PatternShape
pattern_rule p.Anything = rules.anything
pattern_rule (p.OneOf negated ps) = rules.one_of negated (patterns_from ps)
pattern_rule (p.Masked span ms) = rules.masked span (digits_of ms)
pattern_rule (p.AtMost span) = rules.at_most span
pattern_rule (p.AtLeast span) = rules.at_least span
pattern_rule (p.InParts span ps) = rules.in_parts span (patterns_from ps)
pattern_rule (p.EqualTo span) = rules.equal_to span
pattern_rule (p.Between span) = rules.between span

abbrev pub pattern_of : PatternShape → rules.PatternShape
pattern_of = fold-PatternShape rules.PatternShape pattern_rule

abbrev pub all_patterns : List PatternShape → rules.PatternShapes
all_patterns ps = patterns_from (map pattern_of ps)

-- ---- written types

abbrev pub part_of : PartShape → rules.PartShape
part_of part.Only = rules.only
part_of part.FromTo = rules.from_to

abbrev pub all_parts : List PartShape → List rules.PartShape
all_parts ps = map part_of ps

abbrev pub bitfield_of : BitfieldShape → rules.BitfieldShape
bitfield_of (b.OnePlace name) = rules.one_place name
bitfield_of (b.ManyPlaces name) = rules.many_places name

abbrev pub all_bitfields : List BitfieldShape → List rules.BitfieldShape
all_bitfields fs = map bitfield_of fs

abbrev pub types_from : List rules.TypeShape → rules.TypeShapes
types_from [] = rules.no_shape
types_from (t ∷ ts) = rules.shape_and t (types_from ts)

abbrev pub type_rule : t.TypeShape-F rules.TypeShape → rules.TypeShape
type_rule (t.IntegerOf ps) = rules.integer_of (all_parts ps)
type_rule t.Boolean = rules.boolean
type_rule (t.OneBit span) = rules.one_bit span
type_rule (t.BitsOf span fs) = rules.bits_of span (all_bitfields fs)
type_rule (t.Known T) = rules.known (closed T)
type_rule (t.TupleOf ts) = rules.tuple_of (types_from ts)
type_rule (t.ArrayOf e) = rules.array_of e

abbrev pub type_of : TypeShape → rules.TypeShape
type_of = fold-TypeShape rules.TypeShape type_rule

abbrev pub all_types : List TypeShape → rules.TypeShapes
all_types ts = types_from (map type_of ts)
