-- The keys of headers. A header is all of a declaration with a body but the body and the word before it. Two headers are the same tree, spans aside, exactly if
-- their keys are the same list of numbers: a key has, for each node, the number of its form, and behind it the keys of its parts, and for a text and a list first
-- the length. So at most one tree, spans aside, has this key.
use Rattle.std.specs.Prelude.{ℕ, ◌-◌, ◌==◌, ◌||◌, Bool, true, false, if◌then◌else◌, List, [], ◌∷◌, ◌++◌, length, map, Option, Some, None}
use Rattle.asl_syn.specs.declared.tree.Ident.{Ident}
use Rattle.asl_syn.specs.declared.tree.UnaryOperator.{UnaryOperator}
use Rattle.asl_syn.specs.declared.tree.UnaryOperator.TheVariants as un
use Rattle.asl_syn.specs.declared.tree.BinaryOperator.{BinaryOperator}
use Rattle.asl_syn.specs.declared.tree.BinaryOperator.TheVariants as bin
use Rattle.asl_syn.specs.declared.tree.Expr.{Expr}
use Rattle.asl_syn.specs.declared.tree.TypeExpr.{TypeExpr}
use Rattle.asl_syn.specs.declared.tree.Bitfield.{Bitfield}
use Rattle.asl_syn.specs.declared.tree.ConstraintPart.{ConstraintPart}
use Rattle.asl_syn.specs.declared.tree.FieldValue.{FieldValue}
use Rattle.asl_syn.specs.declared.tree.Pattern.{Pattern}
use Rattle.asl_syn.specs.declared.tree.Slice.{Slice}
use Rattle.asl_syn.specs.declared.tree.Bitfield.TheOpen as ex
use Rattle.asl_syn.specs.declared.tree.Bitfield.TheFolds.{fold-Bitfield, fold-ConstraintPart, fold-Expr, fold-FieldValue, fold-Pattern, fold-Slice, fold-TypeExpr}
use Rattle.asl_syn.specs.declared.tree.Formal.{Formal}
use Rattle.asl_syn.specs.declared.tree.Param.{Param}
use Rattle.asl_syn.specs.declared.tree.Qualifier.{Qualifier}
use Rattle.asl_syn.specs.declared.tree.Qualifier.TheVariants as qualifier
use Rattle.asl_syn.specs.declared.read.ReadFunc.{ReadFunc}
use Rattle.asl_syn.specs.declared.read.Accessor.{Accessor}

abbrev pub Key : Type 0
Key = List ℕ

-- ---- texts, lists and options

abbrev pub text_key : List ℕ → Key
text_key t = length t ∷ t

abbrev pub name_key : Ident → Key
name_key i = text_key i.text

abbrev pub run_on : List Key → Key
run_on [] = []
run_on (k ∷ ks) = k ++ run_on ks

abbrev pub list_key : List Key → Key
list_key ks = length ks ∷ run_on ks

abbrev pub maybe_key : {A : Type 0} → (A → Key) → Option A → Key
maybe_key f None = 0 ∷ []
maybe_key f (Some x) = 1 ∷ f x

abbrev pub truth : Bool → ℕ
truth b = if b then 1 else 0

-- the digits of a literal of bits and of a mask, 2 where a digit is free: spaces, quotes and the way in which a free digit is written make no other tree
abbrev pub digits_in : Bool → List ℕ → Key
digits_in group [] = []
digits_in group (b ∷ bs) =
    if b == 40 then digits_in true bs else (if b == 41 then digits_in false bs else (if b == 120 then 2 ∷ digits_in group bs else
    (if b == 48 || b == 49 then (if group then 2 else b - 48) ∷ digits_in group bs else digits_in group bs)))

abbrev pub digits_key : List ℕ → Key
digits_key text = text_key (digits_in false text)

-- ---- operators

abbrev pub unary_key : UnaryOperator → ℕ
unary_key un.Negate = 0
unary_key un.Not = 1
unary_key un.Complement = 2

abbrev pub binary_key : BinaryOperator → ℕ
binary_key bin.LogicalAnd = 0
binary_key bin.LogicalOr = 1
binary_key bin.Implies = 2
binary_key bin.Equivalent = 3
binary_key bin.Equal = 4
binary_key bin.NotEqual = 5
binary_key bin.Less = 6
binary_key bin.LessEqual = 7
binary_key bin.Greater = 8
binary_key bin.GreaterEqual = 9
binary_key bin.Add = 10
binary_key bin.Subtract = 11
binary_key bin.BitAnd = 12
binary_key bin.BitOr = 13
binary_key bin.BitXor = 14
binary_key bin.Concatenate = 15
binary_key bin.Multiply = 16
binary_key bin.DivideExact = 17
binary_key bin.DivideFloor = 18
binary_key bin.Modulo = 19
binary_key bin.ShiftLeft = 20
binary_key bin.ShiftRight = 21
binary_key bin.Power = 22

-- ---- expressions, written types, slices and patterns

abbrev pub expr_layer_key : ex.Expr-F Key Key Key Key Key Key Key → Key
expr_layer_key (ex.Int span n) = 0 ∷ n ∷ []
expr_layer_key (ex.Bits span text) = 1 ∷ digits_key text
expr_layer_key (ex.Bool span b) = 2 ∷ truth b ∷ []
expr_layer_key (ex.Name span name) = 3 ∷ text_key name
expr_layer_key (ex.Unary span o a) = 4 ∷ unary_key o ∷ a
expr_layer_key (ex.Binary span o a b) = 5 ∷ binary_key o ∷ (a ++ b)
expr_layer_key (ex.Conditional span c a b) = 6 ∷ (c ++ (a ++ b))
expr_layer_key (ex.Tuple span es) = 7 ∷ list_key es
expr_layer_key (ex.Construct span i fs) = 8 ∷ (name_key i ++ list_key fs)
expr_layer_key (ex.Call span i ps es) = 9 ∷ (name_key i ++ (list_key ps ++ list_key es))
expr_layer_key (ex.Field span a i) = 10 ∷ (a ++ name_key i)
expr_layer_key (ex.Fields span a iss) = 11 ∷ (a ++ list_key (map name_key iss))
expr_layer_key (ex.Slices span a ss) = 12 ∷ (a ++ list_key ss)
expr_layer_key (ex.Element span a i) = 13 ∷ (a ++ i)
expr_layer_key (ex.As span a t) = 14 ∷ (a ++ t)
expr_layer_key (ex.In span a p) = 15 ∷ (a ++ p)

abbrev pub given_layer_key : ex.FieldValue-F Key Key Key Key Key Key Key → Key
given_layer_key (ex.Given i e) = name_key i ++ e

abbrev pub slice_layer_key : ex.Slice-F Key Key Key Key Key Key Key → Key
slice_layer_key (ex.BitAt e) = 0 ∷ e
slice_layer_key (ex.HighLow a b) = 1 ∷ (a ++ b)
slice_layer_key (ex.LowWidth a b) = 2 ∷ (a ++ b)
slice_layer_key (ex.FactorWidth a b) = 3 ∷ (a ++ b)

abbrev pub part_layer_key : ex.ConstraintPart-F Key Key Key Key Key Key Key → Key
part_layer_key (ex.Only e) = 0 ∷ e
part_layer_key (ex.FromTo a b) = 1 ∷ (a ++ b)

abbrev pub bitfield_layer_key : ex.Bitfield-F Key Key Key Key Key Key Key → Key
bitfield_layer_key (ex.OneBit e i) = 0 ∷ (e ++ name_key i)
bitfield_layer_key (ex.BitRange a b i) = 1 ∷ (a ++ (b ++ name_key i))

abbrev pub pattern_layer_key : ex.Pattern-F Key Key Key Key Key Key Key → Key
pattern_layer_key (ex.AnyPattern span) = 0 ∷ []
pattern_layer_key (ex.SetPattern span b ps) = 1 ∷ truth b ∷ list_key ps
pattern_layer_key (ex.MaskPattern span text) = 2 ∷ digits_key text
pattern_layer_key (ex.AtMost span e) = 3 ∷ e
pattern_layer_key (ex.AtLeast span e) = 4 ∷ e
pattern_layer_key (ex.TuplePattern span ps) = 5 ∷ list_key ps
pattern_layer_key (ex.ValuePattern span e) = 6 ∷ e
pattern_layer_key (ex.RangePattern span a b) = 7 ∷ (a ++ b)

abbrev pub type_layer_key : ex.TypeExpr-F Key Key Key Key Key Key Key → Key
type_layer_key (ex.IntegerType span ps) = 0 ∷ list_key ps
type_layer_key (ex.BooleanType span) = 1 ∷ []
type_layer_key (ex.BitType span) = 2 ∷ []
type_layer_key (ex.NamedType span name) = 3 ∷ text_key name
type_layer_key (ex.BitsType span e fs) = 4 ∷ (e ++ list_key fs)
type_layer_key (ex.TupleType span ts) = 5 ∷ list_key ts
type_layer_key (ex.ArrayType span e t) = 6 ∷ (e ++ t)

abbrev pub expr_key : Expr → Key
expr_key = fold-Expr Key Key Key Key Key Key Key bitfield_layer_key part_layer_key expr_layer_key given_layer_key pattern_layer_key slice_layer_key type_layer_key

abbrev pub type_key : TypeExpr → Key
type_key = fold-TypeExpr Key Key Key Key Key Key Key bitfield_layer_key part_layer_key expr_layer_key given_layer_key pattern_layer_key slice_layer_key type_layer_key

abbrev pub field_key : FieldValue → Key
field_key = fold-FieldValue Key Key Key Key Key Key Key bitfield_layer_key part_layer_key expr_layer_key given_layer_key pattern_layer_key slice_layer_key type_layer_key

abbrev pub slice_key : Slice → Key
slice_key = fold-Slice Key Key Key Key Key Key Key bitfield_layer_key part_layer_key expr_layer_key given_layer_key pattern_layer_key slice_layer_key type_layer_key

abbrev pub part_key : ConstraintPart → Key
part_key = fold-ConstraintPart Key Key Key Key Key Key Key bitfield_layer_key part_layer_key expr_layer_key given_layer_key pattern_layer_key slice_layer_key type_layer_key

abbrev pub bitfield_key : Bitfield → Key
bitfield_key = fold-Bitfield Key Key Key Key Key Key Key bitfield_layer_key part_layer_key expr_layer_key given_layer_key pattern_layer_key slice_layer_key type_layer_key

abbrev pub pattern_key : Pattern → Key
pattern_key = fold-Pattern Key Key Key Key Key Key Key bitfield_layer_key part_layer_key expr_layer_key given_layer_key pattern_layer_key slice_layer_key type_layer_key

-- ---- headers

abbrev pub qualifier_key : Qualifier → ℕ
qualifier_key qualifier.Unqualified = 0
qualifier_key qualifier.Pure = 1
qualifier_key qualifier.Readonly = 2

abbrev pub formal_key : Formal → Key
formal_key f = name_key f.name ++ type_key f.ty

abbrev pub param_key : Param → Key
param_key p = name_key p.name ++ maybe_key type_key p.ty

-- all of a subprogram but its word and its body
abbrev pub func_key : ReadFunc → Key
func_key f = 0 ∷ qualifier_key f.qualifier ∷ (name_key f.name ++ (list_key (map param_key f.params) ++ (list_key (map formal_key f.formals) ++ (maybe_key type_key f.result ++ maybe_key expr_key f.limit))))

-- and of an accessor but its word and its two bodies: the qualifier of the getter is part of the header
abbrev pub accessor_key : Accessor → Key
accessor_key a = 1 ∷ qualifier_key a.qualifier ∷ (name_key a.name ++ (list_key (map param_key a.params) ++ (list_key (map formal_key a.formals) ++ formal_key a.value)))
