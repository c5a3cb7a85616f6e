-- Written types in order: what the code gathers of them.
use Rattle.std.specs.Prelude.{List, [], ◌∷◌, ◌++◌, map, Result, Ok}
use Rattle.asl_syn.specs.declared.token.Span.{Span}
use Rattle.asl_syn.specs.declared.code.Fault.{Fault}
use Rattle.asl_syn.specs.declared.tree.TypeExpr.{TypeExpr}
use Rattle.asl_rules.specs.Faults.{◌>>=◌}
use Rattle.asl_rules.specs.expressions.Exprs.{found_type}
use Rattle.asl_rules.specs.Tests.{Tests}
use Rattle.asl_rules.specs.types.Types.{Ty, tuple_of}
use Rattle.asl_rules.specs.types.Shapes as shape
use Rattle.asl_rules.specs.runs.Trees.{Tree}
use Rattle.asl_rules.specs.types.Widths.{bounded}
use Rattle.asl_rules.specs.types.Writing.{FoundType, Written, written_as, all_sizes}
use Rattle.asl_types.specs.View.{parts_of}
use Rattle.asl_shape.specs.View.{type_of, types_from}
use Rattle.asl_tree.specs.View.{tree_of}
use Rattle.asl_written.specs.declared.written.TypesWritten.{TypesWritten}

abbrev pub found_types : Tests → List TypeExpr → List FoundType
found_types t ts = map (found_type t) ts

-- several types, their shapes and the trees of their expressions
pub record TypesSeen : Type 0 where
  pub types : List Ty
  pub shapes : List shape.TypeShape
  pub sizes : List Tree

abbrev pub types_view : TypesWritten → TypesSeen
types_view g = record { types = g.types; shapes = map type_of g.shapes; sizes = map tree_of g.sizes }

abbrev pub no_types : TypesSeen
no_types = record { types = []; shapes = []; sizes = [] }

-- one more
abbrev pub with_type : TypesSeen → Written → TypesSeen
with_type g W = record { types = g.types ++ W.ty ∷ []; shapes = g.shapes ++ W.shape ∷ []; sizes = g.sizes ++ W.sizes }

abbrev pub all_ty : List Written → List Ty
all_ty [] = []
all_ty (W ∷ Ws) = W.ty ∷ all_ty Ws

abbrev pub all_shapes : List Written → List shape.TypeShape
all_shapes [] = []
all_shapes (W ∷ Ws) = W.shape ∷ all_shapes Ws

-- these behind those
abbrev pub with_types : TypesSeen → List Written → TypesSeen
with_types g Ws = record { types = g.types ++ all_ty Ws; shapes = g.shapes ++ all_shapes Ws; sizes = g.sizes ++ all_sizes Ws }

abbrev pub behind_types : TypesSeen → Result (List Written) Fault → Result TypesSeen Fault
behind_types g r = r >>= λ Ws. Ok (with_types g Ws)

abbrev pub tuple_from : Span → TypesSeen → Result Written Fault
tuple_from span g = bounded span (tuple_of (parts_of g.types)) >>= λ T. Ok (written_as T (shape.tuple_of (types_from g.shapes)) g.sizes)
