-- Written types in order, one by one.
use Rattle.std.proofs.Common.{◌≡◌, ℕ, ◌+◌, ◌<◌, ◌≤◌, Bool, length, get_or, drop, List, [], ◌∷◌, ◌++◌, Result, Ok, Err, refl, sym, ap, ◌∙◌, append_assoc}
use Rattle.std.proofs.lemmas.List.{drop_all}
use Rattle.asl_syn.specs.declared.token.Span.{Span}
use Rattle.asl_syn.specs.declared.code.Fault.{Fault}
use Rattle.asl_syn.specs.declared.tree.TypeExpr.{TypeExpr}
use Rattle.asl_rules.specs.Faults.{◌>>=◌}
use Rattle.asl_rules.specs.declarations.Scopes.{Scope}
use Rattle.asl_rules.specs.types.Shapes as shape
use Rattle.asl_rules.specs.Tests.{Tests}
use Rattle.asl_rules.specs.runs.Trees.{Tree}
use Rattle.asl_rules.specs.types.Types.{Ty, Parts, part, tuple_of}
use Rattle.asl_rules.specs.types.Widths.{bounded}
use Rattle.asl_rules.specs.types.Writing.{Written, types_in_order, types_written, type_shapes, all_sizes, tuple_written, written_as}
use Rattle.asl_rules.specs.expressions.Exprs.{found_type}
use Rattle.asl_types.proofs.Rest.{at_next}
use Rattle.asl_types.specs.View.{parts_of}
use Rattle.asl_shape.specs.View.{types_from}
use Rattle.asl_written.proofs.ConstraintLemmas.{append_none}
use Rattle.asl_written.specs.private.WrittenTypes.{found_types, TypesSeen, no_types, with_type, all_ty, all_shapes, with_types, behind_types, tuple_from}

abbrev Types : Type 0
Types = Result (List Written) Fault

one_more : (g h : TypesSeen) (W : Written) (r : Types) → h ≡ with_type g W → behind_types g (r >>= λ Ws. Ok (W ∷ Ws)) ≡ behind_types h r
one_more g h W (Err e) more = refl
one_more g h W (Ok Ws) more =
    ap (λ (x : TypesSeen). let a : Result TypesSeen Fault = Ok x in a) joined
    ∙ ap (λ (x : TypesSeen). behind_types x (Ok Ws)) (sym more)
  where
    joined : with_types g (W ∷ Ws) ≡ with_types (with_type g W) Ws
    joined i = record {
      types = sym (append_assoc g.types (W.ty ∷ []) (all_ty Ws)) i;
      shapes = sym (append_assoc g.shapes (W.shape ∷ []) (all_shapes Ws)) i;
      sizes = sym (append_assoc g.sizes W.sizes (all_sizes Ws)) i;
    }

pub types_next : (t : Tests) (outside : Bool) (all : Result TypesSeen Fault) (ts : List TypeExpr) (i : ℕ) (ty : TypeExpr) (g h : TypesSeen) (W : Written) (G : Scope) →
    i < length ts → ty ≡ get_or ts i ty → (found_type t ty).ty outside G ≡ Ok W → h ≡ with_type g W →
    all ≡ behind_types g (types_in_order outside (found_types t (drop i ts)) G) → all ≡ behind_types h (types_in_order outside (found_types t (drop (i + 1) ts)) G)
types_next t outside all ts i ty g h W G within here w more before =
    before
    ∙ ap (λ xs. behind_types g (types_in_order outside (found_types t xs) G)) (at_next ts i ty within here)
    ∙ ap (λ r. behind_types g (r >>= λ x. types_in_order outside (found_types t (drop (i + 1) ts)) G >>= λ xs. Ok (x ∷ xs))) w
    ∙ one_more g h W (types_in_order outside (found_types t (drop (i + 1) ts)) G) more

pub types_stop : (t : Tests) (outside : Bool) (all : Result TypesSeen Fault) (ts : List TypeExpr) (i : ℕ) (ty : TypeExpr) (g : TypesSeen) (f : Fault) (G : Scope) →
    i < length ts → ty ≡ get_or ts i ty → (found_type t ty).ty outside G ≡ Err f →
    all ≡ behind_types g (types_in_order outside (found_types t (drop i ts)) G) → all ≡ Err f
types_stop t outside all ts i ty g f G within here w before =
    before
    ∙ ap (λ xs. behind_types g (types_in_order outside (found_types t xs) G)) (at_next ts i ty within here)
    ∙ ap (λ r. behind_types g (r >>= λ x. types_in_order outside (found_types t (drop (i + 1) ts)) G >>= λ xs. Ok (x ∷ xs))) w

pub types_last : (t : Tests) (outside : Bool) (all : Result TypesSeen Fault) (ts : List TypeExpr) (i : ℕ) (g : TypesSeen) (G : Scope) → length ts ≤ i →
    all ≡ behind_types g (types_in_order outside (found_types t (drop i ts)) G) → all ≡ Ok g
types_last t outside all ts i g G past before =
    before
    ∙ ap (λ xs. behind_types g (types_in_order outside (found_types t xs) G)) (drop_all i ts past)
    ∙ ap (λ (x : TypesSeen). let a : Result TypesSeen Fault = Ok x in a) whole
  where
    whole : with_types g [] ≡ g
    whole j = record { types = append_none g.types j; shapes = append_none g.shapes j; sizes = append_none g.sizes j }

-- ---- tuples

same_parts : (Ws : List Written) → parts_of (all_ty Ws) ≡ types_written Ws
same_parts [] = refl
same_parts (W ∷ Ws) = ap (λ Ts. part W.ty Ts) (same_parts Ws)

same_shapes : (Ws : List Written) → types_from (all_shapes Ws) ≡ type_shapes Ws
same_shapes [] = refl
same_shapes (W ∷ Ws) = ap (λ ss. shape.shape_and W.shape ss) (same_shapes Ws)

pub tuple_gathered : (span : Span) (Ws : List Written) → tuple_from span (with_types no_types Ws) ≡ tuple_written span Ws
tuple_gathered span Ws =
    ap (λ Ts. bounded span (tuple_of Ts) >>= λ T. Ok (written_as T (shape.tuple_of (types_from (all_shapes Ws))) (all_sizes Ws))) (same_parts Ws)
    ∙ ap (λ ss. bounded span (tuple_of (types_written Ws)) >>= λ T. Ok (written_as T (shape.tuple_of ss) (all_sizes Ws))) (same_shapes Ws)
