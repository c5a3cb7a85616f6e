-- Slices, patterns and written types without the expressions in them: what is done with the values of these, which are evaluated in order before.
use Rattle.std.specs.Prelude.{ℕ, Bool, List, Option}
use Rattle.asl_syn.specs.declared.token.Span.{Span}
use Rattle.asl_rules.specs.types.Closed.{Closed}

-- a slice: `i` has one expression, the others have two
pub data SliceShape : Type 0 where
  at_bit : SliceShape
  high_low : SliceShape
  low_width : SliceShape
  factor_width : SliceShape

-- a pattern: a set may be negated; a mask has its digits, lowest first, none where it takes both
mutual
  pub data PatternShape : Type 0 where
    anything : PatternShape
    one_of : Bool → PatternShapes → PatternShape
    masked : Span → List (Option Bool) → PatternShape
    at_most : Span → PatternShape
    at_least : Span → PatternShape
    in_parts : Span → PatternShapes → PatternShape
    equal_to : Span → PatternShape
    between : Span → PatternShape

  pub data PatternShapes : Type 0 where
    no_pattern : PatternShapes
    pattern_and : PatternShape → PatternShapes → PatternShapes

-- a part of a constraint: `e`, or `e..e`
pub data PartShape : Type 0 where
  only : PartShape
  from_to : PartShape

-- a bitfield with its name: `[e]`, or `[e:e]`
pub data BitfieldShape : Type 0 where
  one_place : List ℕ → BitfieldShape
  many_places : List ℕ → BitfieldShape

-- a written type: an integer's constraint is whole where it has no parts; a declared name is what it stands for
mutual
  pub data TypeShape : Type 0 where
    integer_of : List PartShape → TypeShape
    boolean : TypeShape
    one_bit : Span → TypeShape
    bits_of : Span → List BitfieldShape → TypeShape
    known : Closed → TypeShape
    tuple_of : TypeShapes → TypeShape
    array_of : TypeShape → TypeShape

  pub data TypeShapes : Type 0 where
    no_shape : TypeShapes
    shape_and : TypeShape → TypeShapes → TypeShapes
