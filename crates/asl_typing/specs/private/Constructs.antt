-- Constructions: what is built, the names that are given, and the conditions on the fields.
use Rattle.std.specs.Prelude.{ℕ, not, List, [], ◌∷◌, ◌++◌, map, Option, Some, None, option_map, Result, Ok}
use Rattle.asl_syn.specs.declared.token.Span.{Span}
use Rattle.asl_syn.specs.declared.code.Fault.{Fault}
use Rattle.asl_syn.specs.declared.code.StaticCode.TheVariants.{T05, T15}
use Rattle.asl_syn.specs.declared.tree.Bitfield.{Bitfield}
use Rattle.asl_syn.specs.declared.tree.ConstraintPart.{ConstraintPart}
use Rattle.asl_syn.specs.declared.tree.Expr.{Expr}
use Rattle.asl_syn.specs.declared.tree.FieldValue.{FieldValue, out-FieldValue}
use Rattle.asl_syn.specs.declared.tree.Pattern.{Pattern}
use Rattle.asl_syn.specs.declared.tree.Slice.{Slice}
use Rattle.asl_syn.specs.declared.tree.TypeExpr.{TypeExpr}
use Rattle.asl_syn.specs.declared.tree.Bitfield.TheOpen as ex
use Rattle.asl_syn.specs.declared.tree.Bitfield.TheFolds.{fold-FieldValue}
use Rattle.asl_syn.specs.declared.tree.Ident.{Ident}
use Rattle.asl_rules.specs.declared.effect.Effect.{Effect}
use Rattle.asl_rules.specs.declared.effect.Effect.TheVariants.{Pure}
use Rattle.asl_rules.specs.expressions.Exprs.{FoundField, expr_rule, given_rule, slice_rule, type_rule, part_rule, bitfield_rule, pattern_rule}
use Rattle.asl_rules.specs.Faults.{◌>>=◌, ◌>>◌, need, found_or}
use Rattle.asl_rules.specs.values.Members.{has_name, numbered, given_once, all_fit, texts_of, places_given}
use Rattle.asl_rules.specs.expressions.Patterns.{FoundPattern}
use Rattle.asl_rules.specs.declarations.Scopes.{Scope}
use Rattle.asl_rules.specs.expressions.Slicing.{FoundSlice}
use Rattle.asl_rules.specs.Tests.{Tests}
use Rattle.asl_rules.specs.runs.Trees as tree
use Rattle.asl_rules.specs.runs.Trees.{Shell, FieldGiven, record_shell, exception_shell}
use Rattle.asl_rules.specs.types.Types.{Ty, Fields, integer_of, boolean, bits_of, enumeration_of, record_of, exception_of, tuple_of, array_of, named}
use Rattle.asl_rules.specs.expressions.Typing.{Found, Typed, Operand, operand, finish_all, trees_of}
use Rattle.asl_rules.specs.types.Writing.{FoundPart, FoundBitfield, FoundType}
use Rattle.asl_types.specs.declared.ty.FieldType.{FieldType}
use Rattle.asl_types.specs.declared.ty.FieldType.TheVariants as f
use Rattle.asl_types.specs.View.{fields_of}
use Rattle.asl_value.specs.private.Forms.{shell_of}
use Rattle.asl_typing.specs.declared.constructs.Built.{Built}

-- ---- the fields that are given

-- what is found at a field of a construction
abbrev pub found_field : Tests → FieldValue → FoundField
found_field t = fold-FieldValue FoundBitfield FoundPart Found FoundField FoundPattern FoundSlice FoundType bitfield_rule part_rule (expr_rule t) given_rule (pattern_rule t) slice_rule (type_rule t)

abbrev pub found_fields : Tests → List FieldValue → List FoundField
found_fields t gs = map (found_field t) gs

-- what is found at the value of a field, with its place
abbrev pub value_of : Tests → FieldValue → Scope → Result Operand Fault
value_of t g G = (found_field t g).value.typed G >>= λ S. Ok (operand (found_field t g).value.span S)

abbrev pub name_layer : ex.FieldValue-F Bitfield ConstraintPart Expr FieldValue Pattern Slice TypeExpr → Ident
name_layer (ex.Given i e) = i

abbrev pub given_name : FieldValue → Ident
given_name g = name_layer (out-FieldValue g)

abbrev pub given_names : List FieldValue → List Ident
given_names gs = map given_name gs

abbrev pub given_texts : List FieldValue → List (List ℕ)
given_texts gs = texts_of (given_names gs)

-- ---- the fields of a type

abbrev pub field_name : FieldType → List ℕ
field_name (f.Field name T) = name

abbrev pub field_ty : FieldType → Ty
field_ty (f.Field name T) = T

abbrev pub field_names : List FieldType → List (List ℕ)
field_names fs = map field_name fs

-- ---- what is built

pub record Making : Type 0 where
  pub shell : Shell
  pub fields : Fields

abbrev pub making : Shell → Fields → Making
making s fs = record { shell = s; fields = fs }

abbrev pub built_view : Built → Making
built_view b = making (shell_of b.shell) (fields_of b.fields.now)

abbrev pub made_as : List ℕ → List (List ℕ) → Ty → Option Making
made_as own supers (record_of name fs) = Some (making (record_shell name) fs)
made_as own supers (exception_of name fs) = Some (making (exception_shell own supers name) fs)
made_as own supers (named name others T) = made_as own supers T
made_as own supers (integer_of ps) = None
made_as own supers boolean = None
made_as own supers (bits_of w view) = None
made_as own supers (enumeration_of name labels) = None
made_as own supers (tuple_of ts) = None
made_as own supers (array_of n T) = None

abbrev pub made_of : Ty → Option Making
made_of (named name supers T) = made_as name supers T
made_of T = made_as [] [] T

-- ---- the conditions, in order

-- the type of the field of a name that is given behind these names
abbrev pub given_type : Ident → List (List ℕ) → Fields → Result Ty Fault
given_type i before fs = need (not (has_name i.text before)) T15 i.span >> found_or (option_map (λ p. p.1) (numbered i.text fs)) T15 i.span

-- the types that come after these, where the fields are as they should
abbrev pub behind_types : List Ty → Result (List Ty) Fault → Result (List Ty) Fault
behind_types Ts r = r >>= λ Us. Ok (Ts ++ Us)

-- the fields that come after these, where none is missing
abbrev pub behind_given : List FieldGiven → Option (List FieldGiven) → Option (List FieldGiven)
behind_given gs o = option_map (λ hs. gs ++ hs) o

-- the fields of a type with the places of their values
abbrev pub given_fit : Tests → Span → List Ident → List Operand → Fields → Result (List FieldGiven) Fault
given_fit t span is os fs = given_once is [] fs >>= λ Ts. all_fit t os Ts >> found_or (places_given fs (texts_of is)) T15 span

-- a construction of a type
abbrev pub construction_of : Tests → Effect → Span → Ident → Ty → List Ident → List Operand → Result Typed Fault
construction_of t class span i T is os =
    found_or (made_of T) T05 i.span >>= λ m.
    given_fit t span is os m.fields >>= λ gs.
    finish_all class span os Pure T (λ n. tree.Construct n m.shell gs (trees_of os))
