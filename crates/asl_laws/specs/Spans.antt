-- The spans that stand in a tree: those of its nodes and of the names in it, and those of a target up to each of its suffixes. A literal of bits
-- stands with its text.
use Rattle.std.specs.Prelude.{◌≡◌, ℕ, ◌-◌, ◌⊎◌, List, [], ◌∷◌, map, Option, Some, None}
use Rattle.asl_syn.specs.declared.token.Span.{Span}
use Rattle.asl_syn.specs.declared.tree.Ident.{Ident}
use Rattle.asl_syn.specs.declared.tree.Bitfield.{Bitfield}
use Rattle.asl_syn.specs.declared.tree.ConstraintPart.{ConstraintPart}
use Rattle.asl_syn.specs.declared.tree.Expr.{Expr}
use Rattle.asl_syn.specs.declared.tree.FieldValue.{FieldValue}
use Rattle.asl_syn.specs.declared.tree.Pattern.{Pattern}
use Rattle.asl_syn.specs.declared.tree.Slice.{Slice}
use Rattle.asl_syn.specs.declared.tree.TypeExpr.{TypeExpr}
use Rattle.asl_syn.specs.declared.tree.PlacedSuffix.{PlacedSuffix}
use Rattle.asl_syn.specs.declared.tree.Suffix.{Suffix}
use Rattle.asl_syn.specs.declared.tree.Suffix.TheVariants.{FieldOf, FieldsOf, SlicesOf, ElementOf}
use Rattle.asl_syn.specs.declared.tree.Target.{Target, fold-Target}
use Rattle.asl_syn.specs.declared.tree.Target.TheOpen as tg
use Rattle.asl_syn.specs.declared.tree.Binder.{Binder}
use Rattle.asl_syn.specs.declared.tree.Binder.TheVariants.{Bound, Unbound}
use Rattle.asl_syn.specs.declared.tree.Bind.{Bind}
use Rattle.asl_syn.specs.declared.tree.Bind.TheVariants.{Single, Several}
use Rattle.asl_syn.specs.declared.tree.PrintItem.{PrintItem}
use Rattle.asl_syn.specs.declared.tree.PrintItem.TheVariants.{Verbatim, Shown}
use Rattle.asl_syn.specs.declared.tree.Alternative.{Alternative}
use Rattle.asl_syn.specs.declared.tree.Catcher.{Catcher}
use Rattle.asl_syn.specs.declared.tree.ElseIf.{ElseIf}
use Rattle.asl_syn.specs.declared.tree.Otherwise.{Otherwise}
use Rattle.asl_syn.specs.declared.tree.Stmt.{Stmt}
use Rattle.asl_syn.specs.declared.tree.Alternative.TheOpen as st
use Rattle.asl_syn.specs.declared.tree.Alternative.TheFolds.{fold-Alternative, fold-Catcher, fold-ElseIf, fold-Otherwise, fold-Stmt}
use Rattle.asl_syn.specs.declared.tree.Formal.{Formal}
use Rattle.asl_syn.specs.declared.tree.Param.{Param}
use Rattle.asl_syn.specs.declared.tree.TypeDef.{TypeDef}
use Rattle.asl_syn.specs.declared.tree.TypeDef.TheVariants as td
use Rattle.asl_syn.specs.declared.tree.Decl.{Decl}
use Rattle.asl_syn.specs.declared.tree.Decl.TheVariants as dc
use Rattle.asl_syn.specs.declared.tree.Bitfield.TheOpen as ex
use Rattle.asl_syn.specs.declared.tree.Bitfield.TheFolds.{fold-Bitfield, fold-ConstraintPart, fold-Expr, fold-FieldValue, fold-Pattern, fold-Slice, fold-TypeExpr}

-- a span, or a literal of bits with its span and its text
pub data Mark : Type 0 where
  place : Span → Mark
  literal : Span → List ℕ → Mark

-- these, as they stand in a tree
pub data Spans : Type 0 where
  no_span : Spans
  one : Mark → Spans
  both : Spans → Spans → Spans

-- this holds of each
abbrev pub Each : (Mark → Type 0) → Spans → Type 0
Each P no_span = Unit {0}
Each P (one mark) = P mark
Each P (both a b) = Each P a × Each P b

-- what holds of spans, of a literal too
abbrev pub Placed : (Span → Type 0) → Mark → Type 0
Placed P (place span) = P span
Placed P (literal span text) = P span

-- the span is one of these
abbrev pub IsAmong : Span → Spans → Type 0
IsAmong span no_span = ⊥
IsAmong span (one (place at)) = at ≡ span
IsAmong span (one (literal at text)) = at ≡ span
IsAmong span (both a b) = IsAmong span a ⊎ IsAmong span b

abbrev pub joined : List Spans → Spans
joined [] = no_span
joined (a ∷ more) = both a (joined more)

abbrev pub of_names : List Ident → Spans
of_names [] = no_span
of_names (i ∷ is) = both (one (place i.span)) (of_names is)

abbrev pub all_of : {A : Type 0} → (A → Spans) → List A → Spans
all_of f xs = joined (map f xs)

abbrev pub maybe : {A : Type 0} → (A → Spans) → Option A → Spans
maybe f None = no_span
maybe f (Some x) = f x

abbrev pub of_name : Ident → Spans
of_name i = one (place i.span)

-- ---- expressions, written types, slices and patterns

abbrev pub in_bitfield : ex.Bitfield-F Spans Spans Spans Spans Spans Spans Spans → Spans
in_bitfield (ex.OneBit e i) = both e (one (place i.span))
in_bitfield (ex.BitRange a b i) = both a (both b (one (place i.span)))

abbrev pub in_part : ex.ConstraintPart-F Spans Spans Spans Spans Spans Spans Spans → Spans
in_part (ex.Only e) = e
in_part (ex.FromTo a b) = both a b

abbrev pub in_expr : ex.Expr-F Spans Spans Spans Spans Spans Spans Spans → Spans
in_expr (ex.Int span n) = one (place span)
in_expr (ex.Bits span text) = one (literal span text)
in_expr (ex.Bool span b) = one (place span)
in_expr (ex.Name span name) = one (place span)
in_expr (ex.Unary span o a) = both (one (place span)) a
in_expr (ex.Binary span o a b) = both (one (place span)) (both a b)
in_expr (ex.Conditional span c a b) = both (one (place span)) (both c (both a b))
in_expr (ex.Tuple span es) = both (one (place span)) (joined es)
in_expr (ex.Construct span i fs) = both (one (place span)) (both (one (place i.span)) (joined fs))
in_expr (ex.Call span i ps es) = both (one (place span)) (both (one (place i.span)) (both (joined ps) (joined es)))
in_expr (ex.Field span a i) = both (one (place span)) (both a (one (place i.span)))
in_expr (ex.Fields span a is) = both (one (place span)) (both a (of_names is))
in_expr (ex.Slices span a ss) = both (one (place span)) (both a (joined ss))
in_expr (ex.Element span a i) = both (one (place span)) (both a i)
in_expr (ex.As span a t) = both (one (place span)) (both a t)
in_expr (ex.In span a p) = both (one (place span)) (both a p)

abbrev pub in_field : ex.FieldValue-F Spans Spans Spans Spans Spans Spans Spans → Spans
in_field (ex.Given i e) = both (one (place i.span)) e

abbrev pub in_pattern : ex.Pattern-F Spans Spans Spans Spans Spans Spans Spans → Spans
in_pattern (ex.AnyPattern span) = one (place span)
in_pattern (ex.SetPattern span b ps) = both (one (place span)) (joined ps)
in_pattern (ex.MaskPattern span text) = one (place span)
in_pattern (ex.AtMost span e) = both (one (place span)) e
in_pattern (ex.AtLeast span e) = both (one (place span)) e
in_pattern (ex.TuplePattern span ps) = both (one (place span)) (joined ps)
in_pattern (ex.ValuePattern span e) = both (one (place span)) e
in_pattern (ex.RangePattern span a b) = both (one (place span)) (both a b)

abbrev pub in_slice : ex.Slice-F Spans Spans Spans Spans Spans Spans Spans → Spans
in_slice (ex.BitAt e) = e
in_slice (ex.HighLow a b) = both a b
in_slice (ex.LowWidth a b) = both a b
in_slice (ex.FactorWidth a b) = both a b

abbrev pub in_type : ex.TypeExpr-F Spans Spans Spans Spans Spans Spans Spans → Spans
in_type (ex.IntegerType span ps) = both (one (place span)) (joined ps)
in_type (ex.BooleanType span) = one (place span)
in_type (ex.BitType span) = one (place span)
in_type (ex.NamedType span name) = one (place span)
in_type (ex.BitsType span e fs) = both (one (place span)) (both e (joined fs))
in_type (ex.TupleType span ts) = both (one (place span)) (joined ts)
in_type (ex.ArrayType span e t) = both (one (place span)) (both e t)

abbrev pub expr_spans : Expr → Spans
expr_spans = fold-Expr Spans Spans Spans Spans Spans Spans Spans in_bitfield in_part in_expr in_field in_pattern in_slice in_type

abbrev pub pattern_spans : Pattern → Spans
pattern_spans = fold-Pattern Spans Spans Spans Spans Spans Spans Spans in_bitfield in_part in_expr in_field in_pattern in_slice in_type

abbrev pub slice_spans : Slice → Spans
slice_spans = fold-Slice Spans Spans Spans Spans Spans Spans Spans in_bitfield in_part in_expr in_field in_pattern in_slice in_type

abbrev pub type_spans : TypeExpr → Spans
type_spans = fold-TypeExpr Spans Spans Spans Spans Spans Spans Spans in_bitfield in_part in_expr in_field in_pattern in_slice in_type

abbrev pub bitfield_spans : Bitfield → Spans
bitfield_spans = fold-Bitfield Spans Spans Spans Spans Spans Spans Spans in_bitfield in_part in_expr in_field in_pattern in_slice in_type

abbrev pub part_spans : ConstraintPart → Spans
part_spans = fold-ConstraintPart Spans Spans Spans Spans Spans Spans Spans in_bitfield in_part in_expr in_field in_pattern in_slice in_type

abbrev pub given_spans : FieldValue → Spans
given_spans = fold-FieldValue Spans Spans Spans Spans Spans Spans Spans in_bitfield in_part in_expr in_field in_pattern in_slice in_type

-- ---- targets

-- the span of a target up to this place
abbrev pub up_to : Ident → ℕ → Span
up_to i end = record { file = i.span.file; start = i.span.start; len = end - i.span.start }

abbrev pub suffix_spans : Suffix → Spans
suffix_spans (FieldOf f) = one (place f.span)
suffix_spans (FieldsOf fs) = of_names fs
suffix_spans (SlicesOf ss) = all_of slice_spans ss
suffix_spans (ElementOf e) = expr_spans e

abbrev pub placed_spans : Ident → PlacedSuffix → Spans
placed_spans i x = both (one (place (up_to i x.end))) (suffix_spans x.suffix)

abbrev pub in_target : tg.Target-F Spans → Spans
in_target (tg.Discarded at) = one (place at)
in_target (tg.Place at i xs) = both (one (place at)) (both (one (place i.span)) (all_of (placed_spans i) xs))
in_target (tg.Targets at ts) = both (one (place at)) (joined ts)

abbrev pub target_spans : Target → Spans
target_spans = fold-Target Spans in_target

-- ---- statements

abbrev pub binder_spans : Binder → Spans
binder_spans (Bound i) = one (place i.span)
binder_spans (Unbound at) = one (place at)

abbrev pub bind_spans : Bind → Spans
bind_spans (Single b) = binder_spans b
bind_spans (Several at bs) = both (one (place at)) (all_of binder_spans bs)

abbrev pub item_spans : PrintItem → Spans
item_spans (Verbatim span text) = one (place span)
item_spans (Shown e) = expr_spans e

abbrev pub in_alternative : st.Alternative-F Spans Spans Spans Spans Spans → Spans
in_alternative (st.When ps e ss) = both (all_of pattern_spans ps) (both (maybe expr_spans e) (joined ss))

abbrev pub in_catcher : st.Catcher-F Spans Spans Spans Spans Spans → Spans
in_catcher (st.Catch i ty ss) = both (maybe of_name i) (both (one (place ty.span)) (joined ss))

abbrev pub in_branch : st.ElseIf-F Spans Spans Spans Spans Spans → Spans
in_branch (st.ElseIf c ss) = both (expr_spans c) (joined ss)

abbrev pub in_otherwise : st.Otherwise-F Spans Spans Spans Spans Spans → Spans
in_otherwise st.NoOtherwise = no_span
in_otherwise (st.Otherwise ss) = joined ss

abbrev pub in_stmt : st.Stmt-F Spans Spans Spans Spans Spans → Spans
in_stmt (st.Pass span) = one (place span)
in_stmt (st.Unreachable span) = one (place span)
in_stmt (st.Assert span e) = both (one (place span)) (expr_spans e)
in_stmt (st.Print span kind is) = both (one (place span)) (all_of item_spans is)
in_stmt (st.Local span kind b ty e) = both (one (place span)) (both (bind_spans b) (both (maybe type_spans ty) (expr_spans e)))
in_stmt (st.LocalVars span is ty) = both (one (place span)) (both (of_names is) (type_spans ty))
in_stmt (st.Assign span target e) = both (one (place span)) (both (target_spans target) (expr_spans e))
in_stmt (st.Invoke span i ps es) = both (one (place span)) (both (one (place i.span)) (both (all_of expr_spans ps) (all_of expr_spans es)))
in_stmt (st.If span c first others last) = both (one (place span)) (both (expr_spans c) (both (joined first) (both (joined others) (joined last))))
in_stmt (st.Case span e first last) = both (one (place span)) (both (expr_spans e) (both (joined first) last))
in_stmt (st.For span i a d b limit ss) = both (one (place span)) (both (one (place i.span)) (both (expr_spans a) (both (expr_spans b) (both (maybe expr_spans limit) (joined ss)))))
in_stmt (st.While span c limit ss) = both (one (place span)) (both (expr_spans c) (both (maybe expr_spans limit) (joined ss)))
in_stmt (st.Repeat span ss c limit) = both (one (place span)) (both (joined ss) (both (expr_spans c) (maybe expr_spans limit)))
in_stmt (st.Return span e) = both (one (place span)) (maybe expr_spans e)
in_stmt (st.Throw span e) = both (one (place span)) (maybe expr_spans e)
in_stmt (st.Try span ss cs last) = both (one (place span)) (both (joined ss) (both (joined cs) last))

abbrev pub stmt_spans : Stmt → Spans
stmt_spans = fold-Stmt Spans Spans Spans Spans Spans in_alternative in_catcher in_branch in_otherwise in_stmt

abbrev pub alternative_spans : Alternative → Spans
alternative_spans = fold-Alternative Spans Spans Spans Spans Spans in_alternative in_catcher in_branch in_otherwise in_stmt

abbrev pub catcher_spans : Catcher → Spans
catcher_spans = fold-Catcher Spans Spans Spans Spans Spans in_alternative in_catcher in_branch in_otherwise in_stmt

abbrev pub branch_spans : ElseIf → Spans
branch_spans = fold-ElseIf Spans Spans Spans Spans Spans in_alternative in_catcher in_branch in_otherwise in_stmt

abbrev pub otherwise_spans : Otherwise → Spans
otherwise_spans = fold-Otherwise Spans Spans Spans Spans Spans in_alternative in_catcher in_branch in_otherwise in_stmt

-- ---- declarations

abbrev pub formal_spans : Formal → Spans
formal_spans f = both (one (place f.name.span)) (type_spans f.ty)

abbrev pub param_spans : Param → Spans
param_spans p = both (one (place p.name.span)) (maybe type_spans p.ty)

abbrev pub def_spans : TypeDef → Spans
def_spans (td.Alias ty) = type_spans ty
def_spans (td.Labels span is) = both (one (place span)) (of_names is)
def_spans (td.Record span fs) = both (one (place span)) (all_of formal_spans fs)
def_spans (td.Exception span fs) = both (one (place span)) (all_of formal_spans fs)

abbrev pub decl_spans : Decl → Spans
decl_spans (dc.Type d) = both (one (place d.span)) (both (one (place d.name.span)) (both (def_spans d.def) (maybe of_name d.supertype)))
decl_spans (dc.Storage d) = both (one (place d.span)) (both (one (place d.name.span)) (both (maybe type_spans d.ty) (maybe expr_spans d.init)))
decl_spans (dc.Func f) =
    both (one (place f.span)) (both (one (place f.name.span)) (both (all_of param_spans f.params) (both (all_of formal_spans f.formals) (both (maybe type_spans f.result) (both (maybe expr_spans f.limit) (all_of stmt_spans f.body))))))
