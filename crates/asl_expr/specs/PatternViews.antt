-- Patterns of the rules that those of the code stand for, and what the code gathers of several.
use Rattle.std.specs.Prelude.{Bool, List, [], ◌∷◌, ◌++◌, map, Result, Ok}
use Rattle.asl_syn.specs.declared.token.Span.{Span}
use Rattle.asl_syn.specs.declared.code.Fault.{Fault}
use Rattle.asl_syn.specs.declared.code.StaticCode.TheVariants.{T23}
use Rattle.asl_syn.specs.declared.tree.Pattern.{Pattern}
use Rattle.asl_rules.specs.expressions.Exprs.{found_pattern}
use Rattle.asl_rules.specs.Faults.{◌>>=◌, ◌>>◌, need, found_or}
use Rattle.asl_rules.specs.expressions.Patterns as patterns
use Rattle.asl_rules.specs.expressions.Patterns.{FoundPattern, matched, as_many}
use Rattle.asl_rules.specs.types.Shapes as shapes
use Rattle.asl_rules.specs.Tests.{Tests}
use Rattle.asl_rules.specs.runs.Trees.{Tree}
use Rattle.asl_rules.specs.types.Types.{Ty, Parts, tuple_parts}
use Rattle.asl_shape.specs.View.{pattern_of, patterns_from}
use Rattle.asl_tree.specs.View.{tree_of}
use Rattle.asl_expr.specs.declared.patterns.Matched.{Matched}
use Rattle.asl_expr.specs.declared.patterns.Matches.{Matches}

abbrev pub matched_of : Matched → patterns.Matched
matched_of m = record { shape = pattern_of m.shape; trees = map tree_of m.trees }

abbrev pub found_patterns : Tests → List Pattern → List FoundPattern
found_patterns t ps = map (found_pattern t) ps

-- several: their shapes, and the trees of their expressions
pub record Seen : Type 0 where
  pub shapes : List shapes.PatternShape
  pub trees : List Tree

abbrev pub matches_view : Matches → Seen
matches_view m = record { shapes = map pattern_of m.shapes; trees = map tree_of m.trees }

abbrev pub no_matches : Seen
no_matches = record { shapes = []; trees = [] }

-- one more
abbrev pub with_match : Seen → patterns.Matched → Seen
with_match s m = record { shapes = s.shapes ++ m.shape ∷ []; trees = s.trees ++ m.trees }

abbrev pub all_shapes : List patterns.Matched → List shapes.PatternShape
all_shapes [] = []
all_shapes (m ∷ ms) = m.shape ∷ all_shapes ms

-- these behind those
abbrev pub with_matches : Seen → List patterns.Matched → Seen
with_matches s ms = record { shapes = s.shapes ++ all_shapes ms; trees = s.trees ++ patterns.pattern_trees ms }

abbrev pub behind_matches : Seen → Result (List patterns.Matched) Fault → Result Seen Fault
behind_matches s r = r >>= λ ms. Ok (with_matches s ms)

abbrev pub set_from : Bool → Seen → patterns.Matched
set_from negated s = matched (shapes.one_of negated (patterns_from s.shapes)) s.trees

abbrev pub tuple_from : Span → Seen → patterns.Matched
tuple_from span s = matched (shapes.in_parts span (patterns_from s.shapes)) s.trees

-- the parts of a tuple where there are as many as of these patterns
abbrev pub parts_for : Span → List FoundPattern → Ty → Result Parts Fault
parts_for span ps T = found_or (tuple_parts T) T23 span >>= λ Ts. need (as_many ps Ts) T23 span >> Ok Ts
