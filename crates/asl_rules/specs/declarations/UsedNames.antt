-- The names that a tree uses, in source order: of two that begin together the outer one comes first. Each form of the language says here which names it uses
-- itself, and in which order its parts stand; what depends on the names in a tree is a test of one use.
use Rattle.std.specs.Prelude.{ℕ, List, [], ◌∷◌, ◌++◌, Option, Some, None}
use Rattle.asl_syn.specs.declared.token.Span.{Span}
use Rattle.asl_syn.specs.declared.tree.Ident.{Ident}
use Rattle.asl_syn.specs.declared.tree.Bitfield.{Bitfield}
use Rattle.asl_syn.specs.declared.tree.ConstraintPart.{ConstraintPart}
use Rattle.asl_syn.specs.declared.tree.Expr.{Expr}
use Rattle.asl_syn.specs.declared.tree.FieldValue.{FieldValue}
use Rattle.asl_syn.specs.declared.tree.Pattern.{Pattern}
use Rattle.asl_syn.specs.declared.tree.Slice.{Slice}
use Rattle.asl_syn.specs.declared.tree.TypeExpr.{TypeExpr}
use Rattle.asl_syn.specs.declared.tree.Bitfield.TheOpen as ex
use Rattle.asl_syn.specs.declared.tree.Bitfield.TheFolds.{fold-Bitfield, fold-ConstraintPart, fold-Expr, fold-FieldValue, fold-Pattern, fold-Slice, fold-TypeExpr}
use Rattle.asl_syn.specs.declared.tree.Formal.{Formal}
use Rattle.asl_syn.specs.declared.tree.TypeDef.{TypeDef}
use Rattle.asl_syn.specs.declared.tree.TypeDef.TheVariants as td
use Rattle.asl_syn.specs.declared.tree.Decl.{Decl}
use Rattle.asl_syn.specs.declared.tree.Decl.TheVariants as dc

-- a use of a name: of storage or of a label, of a subprogram, or of a type
pub data Use : Type 0 where
  of_value : Span → List ℕ → Use
  of_subprogram : Span → List ℕ → Use
  of_type : List ℕ → Use

abbrev pub Uses : Type 0
Uses = List Use

abbrev pub name_of : Use → List ℕ
name_of (of_value span name) = name
name_of (of_subprogram span name) = name
name_of (of_type name) = name

-- ---- what uses say

abbrev pub or_else : {A : Type 0} → Option A → Option A → Option A
or_else None rest = rest
or_else (Some x) rest = Some x

-- what the first use says that says something
abbrev pub first_said : {A : Type 0} → (Use → Option A) → Uses → Option A
first_said says [] = None
first_said says (u ∷ us) = or_else (says u) (first_said says us)

-- this holds of each
abbrev pub Each : (Use → Type 0) → Uses → Type 0
Each P [] = Unit {0}
Each P (u ∷ us) = P u × Each P us

abbrev pub joined : List Uses → Uses
joined [] = []
joined (us ∷ rest) = us ++ joined rest

-- ---- expressions, written types, slices and patterns

abbrev pub in_bitfield : ex.Bitfield-F Uses Uses Uses Uses Uses Uses Uses → Uses
in_bitfield (ex.OneBit e i) = e
in_bitfield (ex.BitRange a b i) = a ++ b

abbrev pub in_part : ex.ConstraintPart-F Uses Uses Uses Uses Uses Uses Uses → Uses
in_part (ex.Only e) = e
in_part (ex.FromTo a b) = a ++ b

abbrev pub in_expr : ex.Expr-F Uses Uses Uses Uses Uses Uses Uses → Uses
in_expr (ex.Int span n) = []
in_expr (ex.Bits span text) = []
in_expr (ex.Bool span b) = []
in_expr (ex.Name span name) = of_value span name ∷ []
in_expr (ex.Unary span o a) = a
in_expr (ex.Binary span o a b) = a ++ b
in_expr (ex.Conditional span c a b) = c ++ (a ++ b)
in_expr (ex.Tuple span es) = joined es
in_expr (ex.Construct span i fs) = of_type i.text ∷ joined fs
in_expr (ex.Call span i ps es) = of_subprogram span i.text ∷ (joined ps ++ joined es)
in_expr (ex.Field span a i) = a
in_expr (ex.Fields span a is) = a
in_expr (ex.Slices span a ss) = a ++ joined ss
in_expr (ex.Element span a i) = a ++ i
in_expr (ex.As span a t) = a ++ t
in_expr (ex.In span a p) = a ++ p

abbrev pub in_field : ex.FieldValue-F Uses Uses Uses Uses Uses Uses Uses → Uses
in_field (ex.Given i e) = e

abbrev pub in_pattern : ex.Pattern-F Uses Uses Uses Uses Uses Uses Uses → Uses
in_pattern (ex.AnyPattern span) = []
in_pattern (ex.SetPattern span b ps) = joined ps
in_pattern (ex.MaskPattern span text) = []
in_pattern (ex.AtMost span e) = e
in_pattern (ex.AtLeast span e) = e
in_pattern (ex.TuplePattern span ps) = joined ps
in_pattern (ex.ValuePattern span e) = e
in_pattern (ex.RangePattern span a b) = a ++ b

abbrev pub in_slice : ex.Slice-F Uses Uses Uses Uses Uses Uses Uses → Uses
in_slice (ex.BitAt e) = e
in_slice (ex.HighLow a b) = a ++ b
in_slice (ex.LowWidth a b) = a ++ b
in_slice (ex.FactorWidth a b) = a ++ b

abbrev pub in_type : ex.TypeExpr-F Uses Uses Uses Uses Uses Uses Uses → Uses
in_type (ex.IntegerType span ps) = joined ps
in_type (ex.BooleanType span) = []
in_type (ex.BitType span) = []
in_type (ex.NamedType span name) = of_type name ∷ []
in_type (ex.BitsType span e fs) = e ++ joined fs
in_type (ex.TupleType span ts) = joined ts
in_type (ex.ArrayType span e t) = e ++ t

abbrev pub expr_uses : Expr → Uses
expr_uses = fold-Expr Uses Uses Uses Uses Uses Uses Uses in_bitfield in_part in_expr in_field in_pattern in_slice in_type

abbrev pub pattern_uses : Pattern → Uses
pattern_uses = fold-Pattern Uses Uses Uses Uses Uses Uses Uses in_bitfield in_part in_expr in_field in_pattern in_slice in_type

abbrev pub slice_uses : Slice → Uses
slice_uses = fold-Slice Uses Uses Uses Uses Uses Uses Uses in_bitfield in_part in_expr in_field in_pattern in_slice in_type

abbrev pub type_uses : TypeExpr → Uses
type_uses = fold-TypeExpr Uses Uses Uses Uses Uses Uses Uses in_bitfield in_part in_expr in_field in_pattern in_slice in_type

abbrev pub bitfield_uses : Bitfield → Uses
bitfield_uses = fold-Bitfield Uses Uses Uses Uses Uses Uses Uses in_bitfield in_part in_expr in_field in_pattern in_slice in_type

abbrev pub part_uses : ConstraintPart → Uses
part_uses = fold-ConstraintPart Uses Uses Uses Uses Uses Uses Uses in_bitfield in_part in_expr in_field in_pattern in_slice in_type

abbrev pub given_uses : FieldValue → Uses
given_uses = fold-FieldValue Uses Uses Uses Uses Uses Uses Uses in_bitfield in_part in_expr in_field in_pattern in_slice in_type

-- where an expression or a type may stand
abbrev pub maybe_expr_uses : Option Expr → Uses
maybe_expr_uses None = []
maybe_expr_uses (Some e) = expr_uses e

abbrev pub maybe_type_uses : Option TypeExpr → Uses
maybe_type_uses None = []
maybe_type_uses (Some t) = type_uses t

-- ---- declarations

abbrev pub formal_uses : List Formal → Uses
formal_uses [] = []
formal_uses (f ∷ fs) = type_uses f.ty ++ formal_uses fs

abbrev pub def_uses : TypeDef → Uses
def_uses (td.Alias t) = type_uses t
def_uses (td.Labels span is) = []
def_uses (td.Record span fs) = formal_uses fs
def_uses (td.Exception span fs) = formal_uses fs

abbrev pub supertype_uses : Option Ident → Uses
supertype_uses None = []
supertype_uses (Some i) = of_type i.text ∷ []

-- of a type or of storage; a subprogram stands in no cycle, so what it uses isn't asked for
abbrev pub decl_uses : Decl → Uses
decl_uses (dc.Type d) = def_uses d.def ++ supertype_uses d.supertype
decl_uses (dc.Storage d) = maybe_type_uses d.ty ++ maybe_expr_uses d.init
decl_uses (dc.Func f) = []
