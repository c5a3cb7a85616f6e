-- The grammar of the language: a rule for each production, such that one token is enough to choose by. The productions that begin
-- alike are joined, and a comment gives each rule's production.
-- Written by tools/grammar/generate.py from tools/grammar/table.py.
use Rattle.std.specs.Prelude.{◌⊎◌, true, false, List, [], ◌∷◌, ◌++◌, Option, Some, None}
use mathlib.Core.Logic.{inl, inr}
use Rattle.asl_syn.specs.declared.tree.Expr.{Expr}
use Rattle.asl_syn.specs.declared.tree.Expr.TheVariants as ex
use Rattle.asl_syn.specs.declared.tree.FieldValue.{FieldValue}
use Rattle.asl_syn.specs.declared.tree.FieldValue.TheVariants as fv
use Rattle.asl_syn.specs.declared.tree.Slice.{Slice}
use Rattle.asl_syn.specs.declared.tree.TypeExpr.{TypeExpr}
use Rattle.asl_syn.specs.declared.tree.TypeExpr.TheVariants as ty
use Rattle.asl_syn.specs.declared.tree.ConstraintPart.{ConstraintPart}
use Rattle.asl_syn.specs.declared.tree.Bitfield.{Bitfield}
use Rattle.asl_syn.specs.declared.tree.Pattern.{Pattern}
use Rattle.asl_syn.specs.declared.tree.Pattern.TheVariants as pa
use Rattle.asl_syn.specs.declared.tree.Suffix.{Suffix}
use Rattle.asl_syn.specs.declared.tree.Suffix.TheVariants as su
use Rattle.asl_syn.specs.declared.tree.PlacedSuffix.{PlacedSuffix}
use Rattle.asl_syn.specs.declared.tree.Target.{Target}
use Rattle.asl_syn.specs.declared.tree.Target.TheVariants as tg
use Rattle.asl_syn.specs.declared.tree.Binder.{Binder}
use Rattle.asl_syn.specs.declared.tree.Binder.TheVariants as bd
use Rattle.asl_syn.specs.declared.tree.Bind.{Bind}
use Rattle.asl_syn.specs.declared.tree.Bind.TheVariants as bi
use Rattle.asl_syn.specs.declared.tree.PrintItem.{PrintItem}
use Rattle.asl_syn.specs.declared.tree.PrintItem.TheVariants as pi
use Rattle.asl_syn.specs.declared.tree.Stmt.{Stmt}
use Rattle.asl_syn.specs.declared.tree.Stmt.TheVariants as stm
use Rattle.asl_syn.specs.declared.tree.Formal.{Formal}
use Rattle.asl_syn.specs.declared.tree.Param.{Param}
use Rattle.asl_syn.specs.declared.tree.TypeDef.{TypeDef}
use Rattle.asl_syn.specs.declared.tree.TypeDef.TheVariants as td
use Rattle.asl_syn.specs.declared.tree.StorageKind.{StorageKind}
use Rattle.asl_syn.specs.declared.tree.StorageKind.TheVariants as sk
use Rattle.asl_syn.specs.declared.tree.Qualifier.{Qualifier}
use Rattle.asl_syn.specs.declared.tree.Qualifier.TheVariants as ql
use Rattle.asl_syn.specs.declared.tree.Ident.{Ident}
use Rattle.asl_syn.specs.declared.tree.LocalKind.TheVariants as lk
use Rattle.asl_syn.specs.declared.tree.Direction.{Direction}
use Rattle.asl_syn.specs.declared.tree.Direction.TheVariants as dr
use Rattle.asl_syn.specs.declared.tree.PrintKind.{PrintKind}
use Rattle.asl_syn.specs.declared.tree.PrintKind.TheVariants as pk
use Rattle.asl_syn.specs.declared.read.ReadStmt.{ReadStmt}
use Rattle.asl_syn.specs.declared.read.ReadStmt.TheVariants as rs
use Rattle.asl_syn.specs.declared.read.ReadElseIf.{ReadElseIf}
use Rattle.asl_syn.specs.declared.read.ReadElseIf.TheVariants as re
use Rattle.asl_syn.specs.declared.read.ReadAlternative.{ReadAlternative}
use Rattle.asl_syn.specs.declared.read.ReadAlternative.TheVariants as ra
use Rattle.asl_syn.specs.declared.read.ReadOtherwise.{ReadOtherwise}
use Rattle.asl_syn.specs.declared.read.ReadOtherwise.TheVariants as ro
use Rattle.asl_syn.specs.declared.read.ReadCatcher.{ReadCatcher}
use Rattle.asl_syn.specs.declared.read.BodyWord.{BodyWord}
use Rattle.asl_syn.specs.declared.read.BodyWord.TheVariants as bw
use Rattle.asl_syn.specs.declared.read.ReadDecl.{ReadDecl}
use Rattle.asl_syn.specs.declared.read.ReadDecl.TheVariants as rd
use Rattle.asl_grammar.specs.declared.parts.AfterName.{AfterName}
use Rattle.asl_grammar.specs.declared.parts.AfterName.TheVariants as an
use Rattle.asl_grammar.specs.declared.parts.Braces.{Braces}
use Rattle.asl_grammar.specs.declared.parts.Braces.TheVariants as br
use Rattle.asl_grammar.specs.declared.parts.VarTail.{VarTail}
use Rattle.asl_grammar.specs.declared.parts.VarTail.TheVariants as vt
use Rattle.asl_grammar.specs.declared.parts.SliceForm.{SliceForm}
use Rattle.asl_grammar.specs.declared.parts.SliceForm.TheVariants as sf
use Rattle.asl_grammar.specs.declared.parts.Bodied.{Bodied}
use Rattle.asl_grammar.specs.declared.parts.Bodied.TheVariants as bo
use Rattle.asl_grammar.specs.declared.kinds.Kind.{Kind}
use Rattle.asl_grammar.specs.declared.kinds.Kind.TheVariants as kind
use Rattle.asl_grammar.specs.grammar.Kinds.{kind_of, same_kind}
use Rattle.asl_grammar.specs.grammar.Operators.{unary_of}
use Rattle.asl_grammar.specs.grammar.Cursor.{Extent, Kinds, whole}
use Rattle.asl_grammar.specs.grammar.Combinators.{G, tok, opens, into, seq, either, opt, many, by, spanned, scope, closed, trail, costs, follows}
use Rattle.asl_grammar.specs.grammar.Build.{seconds, or_nil, behind, int_of, ident, or_unqualified, Link, Links, AsLinks, chained, compared, as_chained, logically, joined, finished, Posts, posted, parens_of, named_of, parameters_or, empty_or, braced, LateTail, NameTail, minus_in_braces_of, name_in_braces_of, slice_of, constraint_part_of, bitfield_of, pattern_of, SumTail, LateRange, minus_pattern_of, bang_pattern_of, pattern_parens_of, place_of, var_tail_of, var_of, name_statement_of, or_no_otherwise, no_catchers, catch_of, untyped, or_no_word, bodied_of, VarRest, MoreNames, Typed, Untyped}

-- what stands behind a token that opens a level
pub data Sym : Type 0 where
  -- after `(` of an expression
  Parenthesized : Sym
  -- after `(` of a call
  Arguments : Sym
  -- after `{` behind a name
  Braced : Sym
  -- after a prefix operator
  Operand : Sym
  -- after `if` of an expression
  IfParts : Sym
  -- after `[` of a suffix
  Bracketed : Sym
  -- after `(` of `bits`
  Width : Sym
  -- after `{` of a set
  SetParts : Sym
  -- after `(` of a pattern
  PatternParts : Sym
  -- after `{` of a constraint
  ConstraintParts : Sym
  -- after `{` of a `bits` type
  Bitfields : Sym
  -- after `(` of a type
  TypeParts : Sym
  -- after `array`
  ArrayParts : Sym
  -- after `(` of a target
  TargetParts : Sym
  -- after `if` of a statement
  IfBody : Sym
  -- after `case`
  CaseBody : Sym
  -- after `for`
  ForBody : Sym
  -- after `while`
  WhileBody : Sym
  -- after `repeat`
  RepeatBody : Sym
  -- after `try`
  TryBody : Sym
  -- the whole text
  Program : Sym

-- what it is read to
abbrev pub Val : Sym → Type 0
Val Parenthesized = List Expr
Val Arguments = List Expr
Val Braced = Braces
Val Operand = Expr
Val IfParts = Expr × Expr × Expr
Val Bracketed = Suffix
Val Width = Expr
Val SetParts = List Pattern
Val PatternParts = List Pattern
Val ConstraintParts = List ConstraintPart
Val Bitfields = List Bitfield
Val TypeParts = List TypeExpr
Val ArrayParts = Expr × TypeExpr
Val TargetParts = List Target
Val IfBody = Expr × List ReadStmt × List ReadElseIf × List ReadStmt
Val CaseBody = Expr × List ReadAlternative × ReadOtherwise
Val ForBody = Ident × Expr × Direction × Expr × Option Expr × List ReadStmt
Val WhileBody = Expr × Option Expr × List ReadStmt
Val RepeatBody = List ReadStmt × Expr × Option Expr
Val TryBody = List ReadStmt × List ReadCatcher × ReadOtherwise
Val Program = List ReadDecl

abbrev pub Rule : Type 0 → Type 1
Rule A = G Sym Val A

-- ---- Names and literals

-- NAME
unfoldable pub name : Rule (Ident)
name = by ident (tok (kind.Name ∷ kind.Getter ∷ kind.Setter ∷ []))

-- NAME,..
unfoldable pub names : Rule (List Ident)
names = by (λ r. r.0 ∷ seconds r.1) (seq name (many (seq (tok (kind.Comma ∷ [])) name)))

-- INT
unfoldable pub integer_literal : Rule (Expr)
integer_literal = by (λ r. ex.Int r.span (int_of r.kind)) (tok (kind.IntegerLiteral ∷ []))

-- BITS
unfoldable pub bits_literal : Rule (Expr)
bits_literal = by (λ r. ex.Bits r.span r.text) (tok (kind.BitsLiteral ∷ []))

-- "TRUE" | "FALSE"
unfoldable pub boolean_literal : Rule (Expr)
boolean_literal = by (λ r. ex.Bool r.span (same_kind (kind_of r.kind) kind.True)) (tok (kind.True ∷ kind.False ∷ []))

-- INT | BITS | "TRUE" | "FALSE"
unfoldable pub literal : Rule (Expr)
literal = either integer_literal (either bits_literal boolean_literal)

-- ---- Primaries and suffixes

-- "(" expr,.. ")"
unfoldable pub parenthesized : Rule (Expr)
parenthesized = by (λ r. parens_of (whole r.1) r.0.1) (spanned (scope (into (kind.OpenParen ∷ []) Parenthesized)))

-- "(" (expr,..)? ")"
unfoldable pub arguments : Rule (List Expr)
arguments = by (λ r. r.1) (scope (into (kind.OpenParen ∷ []) Arguments))

-- "{" ("-" | (NAME "=" expr),..)? "}", or "{" (expr,..)? "}" as parameters
unfoldable pub braces : Rule (Braces)
braces = by (λ r. r.1) (scope (into (kind.OpenBrace ∷ []) Braced))

-- arguments follow parameters
unfoldable pub braces_called : Rule (Option (List FieldValue) ⊎ (List Expr × List Expr))
braces_called = follows (by parameters_or braces) arguments

-- arguments may follow empty braces, which are a construction without them
unfoldable pub after_braces : Rule (AfterName)
after_braces = by braced (follows (by empty_or braces_called) (opt arguments))

-- args, or the braces of a construction
unfoldable pub after_name : Rule (AfterName)
after_name = either (by (an.Called []) arguments) after_braces

unfoldable pub maybe_after_name : Rule (Option (AfterName × Extent))
maybe_after_name = opt (spanned after_name)

-- NAME | NAME args | NAME "{" ("-" | (NAME "=" expr),..)? "}"
unfoldable pub named : Rule (Expr)
named = by (λ r. named_of r.0 r.1) (seq name maybe_after_name)

-- "[" NAME,.. "]"
unfoldable pub field_list : Rule (Suffix)
field_list = by (λ r. su.FieldsOf r) (scope (by (λ r. r.1.0) (seq (opens (kind.OpenBracket ∷ [])) (seq names (tok (kind.CloseBracket ∷ []))))))

-- what follows `.`
unfoldable pub dotted : Rule (Suffix)
dotted = either (by su.FieldOf name) field_list

-- "." NAME | "." "[" NAME,.. "]"
unfoldable pub dot : Rule (Suffix)
dot = by (λ r. r.1) (seq (opens (kind.Dot ∷ [])) dotted)

-- "[" slice,.. "]" | "[" "[" expr "]" "]"; a level for the operator, and one for the bracket
unfoldable pub bracket : Rule (Suffix)
bracket = by (λ r. r.1) (costs false (scope (into (kind.OpenBracket ∷ []) Bracketed)))

unfoldable pub suffix_part : Rule (Suffix)
suffix_part = either dot bracket

-- suffix = "." NAME | "." "[" NAME,.. "]" | "[" slice,.. "]" | "[" "[" expr "]" "]"
unfoldable pub suffix : Rule (PlacedSuffix)
suffix = by (λ r. record { end = r.1.to; suffix = r.0 }) (spanned suffix_part)

-- suffix*
unfoldable pub suffixes : Rule (List PlacedSuffix)
suffixes = many suffix

-- BITS
unfoldable pub bits_pattern : Rule (Pattern)
bits_pattern = by (λ r. pa.ValuePattern r.span (ex.Bits r.span r.text)) (tok (kind.BitsLiteral ∷ []))

-- MASK
unfoldable pub mask_pattern : Rule (Pattern)
mask_pattern = by (λ r. pa.MaskPattern r.span r.text) (tok (kind.MaskLiteral ∷ []))

-- "{" pattern,.. "}"
unfoldable pub set_braces : Rule (List Pattern)
set_braces = by (λ r. r.1) (scope (into (kind.OpenBrace ∷ []) SetParts))

unfoldable pub set_pattern : Rule (Pattern)
set_pattern = by (λ r. pa.SetPattern (whole r.1) false r.0) (spanned set_braces)

unfoldable pub not_set_pattern : Rule (Pattern)
not_set_pattern = by (λ r. pa.SetPattern (whole r.1) true r.0.1) (spanned (seq (tok (kind.Bang ∷ [])) set_braces))

-- set | BITS | MASK
unfoldable pub in_pattern : Rule (Pattern)
in_pattern = either not_set_pattern (either set_pattern (either bits_pattern mask_pattern))

-- ("IN" (set | BITS | MASK))?
unfoldable pub in_clause : Rule (Option (Pattern × Extent))
in_clause = opt (by (λ r. r.1) (seq (opens (kind.In ∷ [])) (spanned in_pattern)))

-- suffix* ("IN" (set | BITS | MASK))?
unfoldable pub post_rest : Rule (Posts)
post_rest = seq suffixes in_clause

-- post = prim suffix*, with what may follow it
unfoldable pub post_literal : Rule (Expr)
post_literal = by (λ r. posted r.0.1.from r.0.0 r.1) (seq (spanned literal) post_rest)

unfoldable pub post_parenthesized : Rule (Expr)
post_parenthesized = by (λ r. posted r.0.1.from r.0.0 r.1) (seq (spanned parenthesized) post_rest)

unfoldable pub post_named : Rule (Expr)
post_named = by (λ r. posted r.0.1.from r.0.0 r.1) (seq (spanned named) post_rest)

-- ---- Operators

-- ("-" | "!" | "NOT") unary, for some of these operators
unfoldable pub prefixed_by : (operators : Kinds) → Rule (Expr)
prefixed_by operators = by (λ r. ex.Unary (whole r.1) (unary_of (kind_of r.0.0.kind)) r.0.1) (spanned (into operators Operand))

-- unary = ("-" | "!" | "NOT") unary | post ("IN" (set | BITS | MASK))?
unfoldable pub unary : Rule (Expr)
unary = either (prefixed_by (kind.Minus ∷ kind.Bang ∷ kind.Not ∷ [])) (either post_literal (either post_parenthesized post_named))

-- ("^" unary)*
unfoldable pub power_rest : Rule (Links)
power_rest = many (seq (opens (kind.Caret ∷ [])) (spanned unary))

-- pow = unary ("^" unary)*
unfoldable pub power : Rule (Expr)
power = by (λ r. chained r.0.1.from r.0.0 r.1) (seq (spanned unary) power_rest)

-- (("*" | "DIV" | "DIVRM" | "MOD" | "<<" | ">>") pow)*
unfoldable pub product_rest : Rule (Links)
product_rest = many (seq (opens (kind.Star ∷ kind.Div ∷ kind.DivRm ∷ kind.Mod ∷ kind.ShiftLeft ∷ kind.ShiftRight ∷ [])) (spanned power))

-- mul = pow (("*" | "DIV" | "DIVRM" | "MOD" | "<<" | ">>") pow)*
unfoldable pub product : Rule (Expr)
product = by (λ r. chained r.0.1.from r.0.0 r.1) (seq (spanned power) product_rest)

-- (("+" | "-" | "AND" | "OR" | "XOR" | "::") mul)*
unfoldable pub sum_rest : Rule (Links)
sum_rest = many (seq (opens (kind.Plus ∷ kind.Minus ∷ kind.BitAnd ∷ kind.BitOr ∷ kind.BitXor ∷ kind.ColonColon ∷ [])) (spanned product))

-- sum = mul (("+" | "-" | "AND" | "OR" | "XOR" | "::") mul)*
unfoldable pub sum : Rule (Expr)
sum = by (λ r. chained r.0.1.from r.0.0 r.1) (seq (spanned product) sum_rest)

-- (("<" | "<=" | ">" | ">=") sum)?
unfoldable pub comparison_rest : Rule (Option Link)
comparison_rest = opt (seq (opens (kind.Less ∷ kind.LessEqual ∷ kind.Greater ∷ kind.GreaterEqual ∷ [])) (spanned sum))

-- cmp = sum (("<" | "<=" | ">" | ">=") sum)?
unfoldable pub comparison : Rule (Expr)
comparison = by (λ r. compared r.0.1.from r.0.0 r.1) (seq (spanned sum) comparison_rest)

-- (("==" | "!=") cmp)*
unfoldable pub equality_rest : Rule (Links)
equality_rest = many (seq (opens (kind.Equal ∷ kind.NotEqual ∷ [])) (spanned comparison))

-- eq = cmp (("==" | "!=") cmp)*
unfoldable pub equality : Rule (Expr)
equality = by (λ r. chained r.0.1.from r.0.0 r.1) (seq (spanned comparison) equality_rest)

-- (operator eq)*
unfoldable pub links_by : (operator : Kind) → Rule (Links)
links_by operator = many (seq (opens (operator ∷ [])) (spanned equality))

-- (operator eq)+
unfoldable pub some_links_by : (operator : Kind) → Rule (Links)
some_links_by operator = by (λ r. (r.0, r.1.0) ∷ r.1.1) (seq (opens (operator ∷ [])) (seq (spanned equality) (links_by operator)))

unfoldable pub logic_links : Rule (Links)
logic_links = either (some_links_by kind.AndAnd) (either (some_links_by kind.OrOr) (either (some_links_by kind.Implies) (some_links_by kind.Iff)))

-- ("&&" eq)* | ("||" eq)* | ("-->" eq)* | ("<->" eq)*
unfoldable pub logic_rest : Rule (Option Links)
logic_rest = opt logic_links

-- logic = eq (("&&" eq)* | ("||" eq)* | ("-->" eq)* | ("<->" eq)*)
unfoldable pub logic : Rule (Expr)
logic = by (λ r. logically r.0.1.from r.0.0 r.1) (seq (spanned equality) logic_rest)

-- ---- Types

-- cons = "{" range,.. "}"
unfoldable pub constraint : Rule (List ConstraintPart)
constraint = by (λ r. r.1) (scope (into (kind.OpenBrace ∷ []) ConstraintParts))

-- cons?
unfoldable pub maybe_constraint : Rule (List ConstraintPart)
maybe_constraint = by or_nil (opt constraint)

-- "integer" cons?
unfoldable pub integer_type : Rule (TypeExpr)
integer_type = by (λ r. ty.IntegerType (whole r.1) r.0.1) (spanned (seq (tok (kind.Integer ∷ [])) maybe_constraint))

-- "boolean"
unfoldable pub boolean_type : Rule (TypeExpr)
boolean_type = by (λ r. ty.BooleanType r.span) (tok (kind.Boolean ∷ []))

-- "bit"
unfoldable pub bit_type : Rule (TypeExpr)
bit_type = by (λ r. ty.BitType r.span) (tok (kind.Bit ∷ []))

-- NAME
unfoldable pub named_type : Rule (TypeExpr)
named_type = by (λ r. ty.NamedType r.span r.text) (tok (kind.Name ∷ kind.Getter ∷ kind.Setter ∷ []))

-- "{" (bf,.. ","?)? "}"
unfoldable pub bitfields : Rule (List Bitfield)
bitfields = by (λ r. r.1) (scope (into (kind.OpenBrace ∷ []) Bitfields))

unfoldable pub maybe_bitfields : Rule (List Bitfield)
maybe_bitfields = by or_nil (opt bitfields)

-- "bits" "(" expr ")" ("{" (bf,.. ","?)? "}")?
unfoldable pub bits_type : Rule (TypeExpr)
bits_type = by (λ r. ty.BitsType (whole r.1) r.0.1.0.1 r.0.1.1) (spanned (seq (tok (kind.Bits ∷ [])) (seq (scope (into (kind.OpenParen ∷ []) Width)) maybe_bitfields)))

-- "(" type "," type,.. ")"
unfoldable pub tuple_type : Rule (TypeExpr)
tuple_type = by (λ r. ty.TupleType (whole r.1) r.0.1) (spanned (scope (into (kind.OpenParen ∷ []) TypeParts)))

-- "array" "[" "[" expr "]" "]" "of" type
unfoldable pub array_type : Rule (TypeExpr)
array_type = by (λ r. ty.ArrayType (whole r.1) r.0.1.0 r.0.1.1) (spanned (scope (into (kind.Array ∷ []) ArrayParts)))

-- type = "integer" cons? | "boolean" | "bit" | NAME | "bits" "(" expr ")" ("{" (bf,.. ","?)? "}")? | "(" type "," type,.. ")" | "array" "[" "[" expr "]" "]" "of" type
unfoldable pub type_expression : Rule (TypeExpr)
type_expression = either integer_type (either boolean_type (either bit_type (either named_type (either bits_type (either tuple_type array_type)))))

-- e as {..} means e as integer {..}
unfoldable pub constraint_type : Rule (TypeExpr)
constraint_type = by (λ r. ty.IntegerType (whole r.1) r.0) (spanned constraint)

-- type | cons
unfoldable pub as_type : Rule (TypeExpr)
as_type = either type_expression constraint_type

-- ---- Operators

-- ("as" (type | cons))*
unfoldable pub as_rest : Rule (AsLinks)
as_rest = many (by (λ r. r.1) (seq (opens (kind.As ∷ [])) (spanned as_type)))

-- logic ("as" (type | cons))*
unfoldable pub as_chain : Rule (Expr)
as_chain = by (λ r. as_chained r.0.1.from r.0.0 r.1) (seq (spanned logic) as_rest)

-- "if" expr "then" expr "else" expr: its level ends with it, and those of operators in it do not
unfoldable pub conditional : Rule (Expr)
conditional = by (λ r. ex.Conditional (whole r.1) r.0.1.0 r.0.1.1 r.0.1.2) (spanned (closed (kind.If ∷ []) IfParts))

-- expr = "if" expr "then" expr "else" expr | logic ("as" (type | cons))*, inside a greater one
unfoldable pub open_expression : Rule (Expr)
open_expression = either conditional as_chain

-- an outermost expression
unfoldable pub expression : Rule (Expr)
expression = scope open_expression

-- expr "then" expr "else" expr
unfoldable pub if_parts : Rule (Expr × Expr × Expr)
if_parts = by (λ r. (r.0, r.1.1.0, r.1.1.1.1)) (seq open_expression (seq (tok (kind.Then ∷ [])) (seq open_expression (seq (tok (kind.Else ∷ [])) open_expression))))

-- how an expression goes on behind its first unary
unfoldable pub rest : Rule (Links × AsLinks)
rest = by (λ r. (joined r.0 r.1.0 r.1.1.0 r.1.1.1.0 r.1.1.1.1.0 r.1.1.1.1.1.0, r.1.1.1.1.1.1)) (seq power_rest (seq product_rest (seq sum_rest (seq comparison_rest (seq equality_rest (seq logic_rest as_rest))))))

-- ("," expr)*
unfoldable pub more_expressions : Rule (List Expr)
more_expressions = by seconds (many (seq (tok (kind.Comma ∷ [])) expression))

-- expr,..
unfoldable pub expressions : Rule (List Expr)
expressions = by (λ r. behind (r.0 ∷ []) r.1) (seq expression more_expressions)

-- (expr,..)?
unfoldable pub maybe_expressions : Rule (List Expr)
maybe_expressions = by or_nil (opt expressions)

-- expr?
unfoldable pub maybe_expression : Rule (Option Expr)
maybe_expression = opt expression

unfoldable pub parenthesized_in : Rule (List Expr)
parenthesized_in = by (λ r. r.0) (seq expressions (tok (kind.CloseParen ∷ [])))

unfoldable pub arguments_in : Rule (List Expr)
arguments_in = by (λ r. r.0) (seq maybe_expressions (tok (kind.CloseParen ∷ [])))

unfoldable pub width_in : Rule (Expr)
width_in = by (λ r. r.0) (seq expression (tok (kind.CloseParen ∷ [])))

-- ---- Braces behind a name

-- an expression behind a prefix operator that was read, whose level is charged here
unfoldable pub late_expression : Rule (LateTail)
late_expression = scope (costs true (seq (spanned unary) rest))

-- an expression behind a name that was read
unfoldable pub expression_after_name : Rule (NameTail)
expression_after_name = scope (seq maybe_after_name (seq post_rest rest))

-- a unary that begins with neither a name nor `-`
unfoldable pub other_unary : Rule (Expr)
other_unary = either (prefixed_by (kind.Bang ∷ kind.Not ∷ [])) (either post_literal post_parenthesized)

unfoldable pub other_chain : Rule (Expr)
other_chain = by (λ r. finished r.0.1.from r.0.0 r.1) (seq (spanned other_unary) rest)

unfoldable pub other_open_expression : Rule (Expr)
other_open_expression = either conditional other_chain

-- an expression that begins with neither a name nor `-`
unfoldable pub other_expression : Rule (Expr)
other_expression = scope other_open_expression

-- NAME "=" expr
unfoldable pub field_value : Rule (FieldValue)
field_value = by (λ r. fv.Given r.0 r.1.1) (seq name (seq (tok (kind.Assign ∷ [])) expression))

-- ("," NAME "=" expr)*
unfoldable pub more_field_values : Rule (List FieldValue)
more_field_values = by seconds (many (seq (tok (kind.Comma ∷ [])) field_value))

-- "=" expr ("," NAME "=" expr)* "}"
unfoldable pub field_values_after_name : Rule (Expr × List FieldValue)
field_values_after_name = by (λ r. (r.1.0, r.1.1.0)) (seq (tok (kind.Assign ∷ [])) (seq expression (seq more_field_values (tok (kind.CloseBrace ∷ [])))))

-- ("," expr)* "}"
unfoldable pub more_parameters : Rule (List Expr)
more_parameters = by (λ r. r.0) (seq more_expressions (tok (kind.CloseBrace ∷ [])))

unfoldable pub parameters_after_minus : Rule (LateTail × List Expr)
parameters_after_minus = seq late_expression more_parameters

unfoldable pub parameters_after_name : Rule (NameTail × List Expr)
parameters_after_name = seq expression_after_name more_parameters

unfoldable pub minus_alone : Rule (Option (LateTail × List Expr))
minus_alone = by (λ r. None) (tok (kind.CloseBrace ∷ []))

unfoldable pub after_minus : Rule (Option (LateTail × List Expr))
after_minus = either minus_alone (by Some parameters_after_minus)

unfoldable pub after_first_name : Rule ((Expr × List FieldValue) ⊎ (NameTail × List Expr))
after_first_name = either (by inl field_values_after_name) (by inr parameters_after_name)

-- "-", or parameters of which the first begins with `-`
unfoldable pub minus_in_braces : Rule (Braces)
minus_in_braces = by (λ r. minus_in_braces_of r.0.span r.1) (seq (tok (kind.Minus ∷ [])) after_minus)

-- fields, or parameters of which the first begins with a name
unfoldable pub name_in_braces : Rule (Braces)
name_in_braces = by (λ r. name_in_braces_of r.0 r.1) (seq name after_first_name)

-- other parameters
unfoldable pub other_in_braces : Rule (Braces)
other_in_braces = by (λ r. br.Parameters (r.0 ∷ r.1)) (seq other_expression more_parameters)

unfoldable pub empty_braces : Rule (Braces)
empty_braces = by (λ r. br.Empty) (tok (kind.CloseBrace ∷ []))

unfoldable pub braced_in : Rule (Braces)
braced_in = either empty_braces (either minus_in_braces (either name_in_braces other_in_braces))

-- ---- Slices

-- ":" | "+:" | "*:"
unfoldable pub slice_form : Rule (SliceForm)
slice_form = either (by (λ r. sf.HighLow) (tok (kind.Colon ∷ []))) (either (by (λ r. sf.LowWidth) (tok (kind.PlusColon ∷ []))) (by (λ r. sf.FactorWidth) (tok (kind.StarColon ∷ []))))

unfoldable pub slice_rest : Rule (Option (SliceForm × Expr))
slice_rest = opt (seq slice_form expression)

-- slice = expr | expr ":" expr | expr "+:" expr | expr "*:" expr
unfoldable pub slice : Rule (Slice)
slice = by (λ r. slice_of r.0 r.1) (seq expression slice_rest)

-- slice,..
unfoldable pub slices : Rule (List Slice)
slices = by (λ r. r.0 ∷ seconds r.1) (seq slice (many (seq (tok (kind.Comma ∷ [])) slice)))

unfoldable pub slices_in : Rule (Suffix)
slices_in = by (λ r. su.SlicesOf r.0) (seq slices (tok (kind.CloseBracket ∷ [])))

unfoldable pub element : Rule (Suffix)
element = by (λ r. su.ElementOf r.0) (seq (scope (by (λ r. r.1.0) (seq (opens (kind.OpenBracket ∷ [])) (seq expression (tok (kind.CloseBracket ∷ [])))))) (tok (kind.CloseBracket ∷ [])))

unfoldable pub bracketed_in : Rule (Suffix)
bracketed_in = either element slices_in

-- ---- Patterns

-- how a sum goes on behind its first unary
unfoldable pub sum_rests : Rule (Links)
sum_rests = by (λ r. r.0 ++ (r.1.0 ++ r.1.1)) (seq power_rest (seq product_rest sum_rest))

-- an outermost sum
unfoldable pub scoped_sum : Rule (Expr)
scoped_sum = scope sum

-- (".." sum)?
unfoldable pub range_end : Rule (Option Expr)
range_end = opt (by (λ r. r.1) (seq (tok (kind.DotDot ∷ [])) scoped_sum))

-- a sum behind a prefix operator that was read, whose level is charged here
unfoldable pub late_sum : Rule (SumTail)
late_sum = scope (costs true (seq (spanned unary) sum_rests))

unfoldable pub late_range : Rule (LateRange)
late_range = seq late_sum range_end

unfoldable pub maybe_late_range : Rule (Option LateRange)
maybe_late_range = opt late_range

-- "-", and a sum that begins with `-`
unfoldable pub minus_pattern : Rule (Pattern)
minus_pattern = by (λ r. minus_pattern_of r.1.from (whole r.1) r.0.1) (spanned (seq (tok (kind.Minus ∷ [])) maybe_late_range))

unfoldable pub after_bang : Rule (List Pattern ⊎ LateRange)
after_bang = either (by inl set_braces) (by inr late_range)

-- a set with `!`, and a sum that begins with `!`
unfoldable pub bang_pattern : Rule (Pattern)
bang_pattern = by (λ r. bang_pattern_of r.1.from (whole r.1) r.0.1) (spanned (seq (tok (kind.Bang ∷ [])) after_bang))

-- "<=" sum
unfoldable pub at_most : Rule (Pattern)
at_most = by (λ r. pa.AtMost (whole r.1) r.0.1) (spanned (seq (tok (kind.LessEqual ∷ [])) scoped_sum))

-- ">=" sum
unfoldable pub at_least : Rule (Pattern)
at_least = by (λ r. pa.AtLeast (whole r.1) r.0.1) (spanned (seq (tok (kind.GreaterEqual ∷ [])) scoped_sum))

-- "(" pattern,.. ")"
unfoldable pub pattern_in_parens : Rule (Pattern)
pattern_in_parens = by (λ r. pattern_parens_of (whole r.1) r.0.1) (spanned (scope (into (kind.OpenParen ∷ []) PatternParts)))

-- a unary that begins with none of `-`, `!`, `(`
unfoldable pub plain_unary : Rule (Expr)
plain_unary = either (prefixed_by (kind.Not ∷ [])) (either post_literal post_named)

unfoldable pub plain_chain : Rule (Expr)
plain_chain = by (λ r. chained r.0.1.from r.0.0 r.1) (seq (spanned plain_unary) sum_rests)

unfoldable pub plain_sum : Rule (Expr)
plain_sum = scope plain_chain

-- sum (".." sum)?, where the sum begins with none of `-`, `!`, `(`
unfoldable pub sum_pattern : Rule (Pattern)
sum_pattern = by (λ r. pattern_of r.0.0 (whole r.1) r.0.1) (spanned (seq plain_sum range_end))

-- pattern = "-" | set | MASK | ("<=" | ">=") sum | "(" pattern,.. ")" | sum (".." sum)?
unfoldable pub pattern : Rule (Pattern)
pattern = either minus_pattern (either bang_pattern (either set_pattern (either mask_pattern (either at_most (either at_least (either pattern_in_parens sum_pattern))))))

-- pattern,..
unfoldable pub patterns : Rule (List Pattern)
patterns = by (λ r. r.0 ∷ seconds r.1) (seq pattern (many (seq (tok (kind.Comma ∷ [])) pattern)))

unfoldable pub set_parts : Rule (List Pattern)
set_parts = by (λ r. r.0) (seq patterns (tok (kind.CloseBrace ∷ [])))

unfoldable pub pattern_parts : Rule (List Pattern)
pattern_parts = by (λ r. r.0) (seq patterns (tok (kind.CloseParen ∷ [])))

-- ---- Types

-- (".." expr)?
unfoldable pub constraint_end : Rule (Option Expr)
constraint_end = opt (by (λ r. r.1) (seq (tok (kind.DotDot ∷ [])) expression))

-- range = expr (".." expr)?
unfoldable pub constraint_part : Rule (ConstraintPart)
constraint_part = by (λ r. constraint_part_of r.0 r.1) (seq expression constraint_end)

-- range,..
unfoldable pub constraint_list : Rule (List ConstraintPart)
constraint_list = by (λ r. r.0 ∷ seconds r.1) (seq constraint_part (many (seq (tok (kind.Comma ∷ [])) constraint_part)))

unfoldable pub constraint_parts : Rule (List ConstraintPart)
constraint_parts = by (λ r. r.0) (seq constraint_list (tok (kind.CloseBrace ∷ [])))

-- (":" expr)?
unfoldable pub low_end : Rule (Option Expr)
low_end = opt (by (λ r. r.1) (seq (tok (kind.Colon ∷ [])) expression))

-- "[" expr (":" expr)? "]"
unfoldable pub bit_ends : Rule (Expr × Option Expr)
bit_ends = scope (by (λ r. (r.1.0, r.1.1.0)) (seq (opens (kind.OpenBracket ∷ [])) (seq expression (seq low_end (tok (kind.CloseBracket ∷ []))))))

-- bf = "[" expr (":" expr)? "]" NAME
unfoldable pub bitfield : Rule (Bitfield)
bitfield = by (λ r. bitfield_of r.0.0 r.0.1 r.1) (seq bit_ends name)

-- bf,.. ","?
unfoldable pub bitfield_list : Rule (List Bitfield)
bitfield_list = by (λ r. r.0 ∷ seconds r.1.0) (seq bitfield (trail (kind.Comma ∷ []) bitfield))

-- (bf,.. ","?)?
unfoldable pub maybe_bitfield_list : Rule (List Bitfield)
maybe_bitfield_list = by or_nil (opt bitfield_list)

unfoldable pub bitfields_in : Rule (List Bitfield)
bitfields_in = by (λ r. r.0) (seq maybe_bitfield_list (tok (kind.CloseBrace ∷ [])))

-- ("," type)*
unfoldable pub more_types : Rule (List TypeExpr)
more_types = by seconds (many (seq (tok (kind.Comma ∷ [])) type_expression))

-- type "," type,..
unfoldable pub two_types : Rule (List TypeExpr)
two_types = by (λ r. behind (r.0 ∷ r.1.1.0 ∷ []) r.1.1.1) (seq type_expression (seq (tok (kind.Comma ∷ [])) (seq type_expression more_types)))

unfoldable pub type_parts : Rule (List TypeExpr)
type_parts = by (λ r. r.0) (seq two_types (tok (kind.CloseParen ∷ [])))

-- "[" "[" expr "]" "]"
unfoldable pub array_length : Rule (Expr)
array_length = scope (by (λ r. r.1.0) (seq (opens (kind.OpenBracket ∷ [])) (seq (scope (by (λ r. r.1.0) (seq (opens (kind.OpenBracket ∷ [])) (seq expression (tok (kind.CloseBracket ∷ [])))))) (tok (kind.CloseBracket ∷ [])))))

unfoldable pub array_parts : Rule (Expr × TypeExpr)
array_parts = by (λ r. (r.0, r.1.1)) (seq array_length (seq (tok (kind.Of ∷ [])) type_expression))

-- (":" type)?
unfoldable pub typed : Rule (Option TypeExpr)
typed = opt (by (λ r. r.1) (seq (tok (kind.Colon ∷ [])) type_expression))

-- ---- Statements

-- "pass" ";"
unfoldable pub pass : Rule (Stmt)
pass = by (λ r. stm.Pass (whole r.1)) (spanned (seq (tok (kind.Pass ∷ [])) (tok (kind.Semicolon ∷ []))))

-- "unreachable" ";"
unfoldable pub unreachable : Rule (Stmt)
unreachable = by (λ r. stm.Unreachable (whole r.1)) (spanned (seq (tok (kind.Unreachable ∷ [])) (tok (kind.Semicolon ∷ []))))

-- "assert" expr ";"
unfoldable pub assert : Rule (Stmt)
assert = by (λ r. stm.Assert (whole r.1) r.0.1.0) (spanned (seq (tok (kind.Assert ∷ [])) (seq expression (tok (kind.Semicolon ∷ [])))))

unfoldable pub bind_name : Rule (Bind)
bind_name = by (λ r. bi.Single (bd.Bound r)) name

-- "-"
unfoldable pub no_binder : Rule (Binder)
no_binder = by (λ r. bd.Unbound r.span) (tok (kind.Minus ∷ []))

-- one = NAME | "-"
unfoldable pub binder : Rule (Binder)
binder = either (by bd.Bound name) no_binder

-- ("," one)*
unfoldable pub more_binders : Rule (List Binder)
more_binders = by seconds (many (seq (tok (kind.Comma ∷ [])) binder))

-- one "," one,..
unfoldable pub two_binders : Rule (List Binder)
two_binders = by (λ r. behind (r.0 ∷ r.1.1.0 ∷ []) r.1.1.1) (seq binder (seq (tok (kind.Comma ∷ [])) (seq binder more_binders)))

-- "(" one "," one,.. ")"
unfoldable pub several : Rule (Bind)
several = by (λ r. bi.Several (whole r.1) r.0) (spanned (scope (by (λ r. r.1.0) (seq (opens (kind.OpenParen ∷ [])) (seq two_binders (tok (kind.CloseParen ∷ [])))))))

-- a bind that is no NAME
unfoldable pub other_bind : Rule (Bind)
other_bind = either (by bi.Single no_binder) several

-- bind = NAME | "-" | "(" one "," one,.. ")"
unfoldable pub local_bind : Rule (Bind)
local_bind = either bind_name other_bind

-- "=" expr ";"
unfoldable pub value : Rule (Expr)
value = by (λ r. r.1.0) (seq (tok (kind.Assign ∷ [])) (seq expression (tok (kind.Semicolon ∷ []))))

-- "let" bind (":" type)? "=" expr ";"
unfoldable pub let_statement : Rule (Stmt)
let_statement = by (λ r. stm.Local (whole r.1) lk.Let r.0.1.0 r.0.1.1.0 r.0.1.1.1) (spanned (seq (tok (kind.Let ∷ [])) (seq local_bind (seq typed value))))

-- "," NAME,.. ":" type ";"
unfoldable pub names_typed : Rule (VarRest)
names_typed = by (λ r. MoreNames r.1.0 r.1.1.1.0) (seq (tok (kind.Comma ∷ [])) (seq names (seq (tok (kind.Colon ∷ [])) (seq type_expression (tok (kind.Semicolon ∷ []))))))

-- ";"
unfoldable pub no_value : Rule (Option Expr)
no_value = by (λ r. None) (tok (kind.Semicolon ∷ []))

-- ";" | "=" expr ";"
unfoldable pub maybe_value : Rule (Option Expr)
maybe_value = either no_value (by Some value)

-- ":" type ";" | ":" type "=" expr ";"
unfoldable pub typed_value : Rule (VarRest)
typed_value = by (λ r. Typed r.1.0 r.1.1) (seq (tok (kind.Colon ∷ [])) (seq type_expression maybe_value))

-- behind `var NAME`: the rest of "var" bind (":" type)? "=" expr ";" or of "var" NAME,.. ":" type ";"
unfoldable pub var_rest : Rule (VarRest)
var_rest = either names_typed (either typed_value (by Untyped value))

unfoldable pub var_names : Rule (VarTail)
var_names = by (λ r. var_tail_of r.0 r.1) (seq name var_rest)

unfoldable pub var_other : Rule (VarTail)
var_other = by (λ r. vt.Initialised r.0 r.1.0 r.1.1) (seq other_bind (seq typed value))

unfoldable pub var_tail : Rule (VarTail)
var_tail = either var_names var_other

-- "var" bind (":" type)? "=" expr ";" | "var" NAME,.. ":" type ";"
unfoldable pub var_statement : Rule (Stmt)
var_statement = by (λ r. var_of (whole r.1) r.0.1) (spanned (seq (tok (kind.Var ∷ [])) var_tail))

-- "-"
unfoldable pub no_target : Rule (Target)
no_target = by (λ r. tg.Discarded r.span) (tok (kind.Minus ∷ []))

-- "(" lhs "," lhs,.. ")"
unfoldable pub targets : Rule (Target)
targets = by (λ r. tg.Targets (whole r.1) r.0.1) (spanned (scope (into (kind.OpenParen ∷ []) TargetParts)))

-- a target that begins with no name
unfoldable pub other_target : Rule (Target)
other_target = either no_target targets

-- lhs "=" expr ";" where lhs begins with no name
unfoldable pub assignment : Rule (Stmt)
assignment = by (λ r. stm.Assign (whole r.1) r.0.0 r.0.1) (spanned (seq other_target value))

-- "return" expr? ";"
unfoldable pub return_statement : Rule (Stmt)
return_statement = by (λ r. stm.Return (whole r.1) r.0.1.0) (spanned (seq (tok (kind.Return ∷ [])) (seq maybe_expression (tok (kind.Semicolon ∷ [])))))

-- "throw" expr? ";"
unfoldable pub throw_statement : Rule (Stmt)
throw_statement = by (λ r. stm.Throw (whole r.1) r.0.1.0) (spanned (seq (tok (kind.Throw ∷ [])) (seq maybe_expression (tok (kind.Semicolon ∷ [])))))

-- "print" | "println"
unfoldable pub print_kind : Rule (PrintKind)
print_kind = either (by (λ r. pk.Print) (tok (kind.Print ∷ []))) (by (λ r. pk.PrintLine) (tok (kind.PrintLine ∷ [])))

-- STRING
unfoldable pub verbatim : Rule (PrintItem)
verbatim = by (λ r. pi.Verbatim r.span r.text) (tok (kind.StringLiteral ∷ []))

-- item = STRING | expr
unfoldable pub print_item : Rule (PrintItem)
print_item = either verbatim (by pi.Shown expression)

-- item,..
unfoldable pub print_items : Rule (List PrintItem)
print_items = by (λ r. r.0 ∷ seconds r.1) (seq print_item (many (seq (tok (kind.Comma ∷ [])) print_item)))

-- (item,..)?
unfoldable pub maybe_print_items : Rule (List PrintItem)
maybe_print_items = by or_nil (opt print_items)

-- "(" (item,..)? ")"
unfoldable pub print_arguments : Rule (List PrintItem)
print_arguments = scope (by (λ r. r.1.0) (seq (opens (kind.OpenParen ∷ [])) (seq maybe_print_items (tok (kind.CloseParen ∷ [])))))

-- ("print" | "println") "(" (item,..)? ")" ";"
unfoldable pub print_statement : Rule (Stmt)
print_statement = by (λ r. stm.Print (whole r.1) r.0.0 r.0.1.0) (spanned (seq print_kind (seq print_arguments (tok (kind.Semicolon ∷ [])))))

-- stmt, a form that holds no other and begins with no name
unfoldable pub simple_statement : Rule (Stmt)
simple_statement = either pass (either unreachable (either assert (either let_statement (either var_statement (either assignment (either return_statement (either throw_statement print_statement)))))))

-- "{" (expr,..)? "}"
unfoldable pub parameters : Rule (List Expr)
parameters = scope (by (λ r. r.1.0) (seq (opens (kind.OpenBrace ∷ [])) (seq maybe_expressions (tok (kind.CloseBrace ∷ [])))))

-- ("{" (expr,..)? "}")?
unfoldable pub maybe_parameters : Rule (List Expr)
maybe_parameters = by or_nil (opt parameters)

-- args = ("{" (expr,..)? "}")? "(" (expr,..)? ")"
unfoldable pub call_arguments : Rule (List Expr × List Expr)
call_arguments = seq maybe_parameters arguments

-- ";"
unfoldable pub call_ends : Rule (Option (List PlacedSuffix × Expr))
call_ends = by (λ r. None) (tok (kind.Semicolon ∷ []))

-- suffix*, each opening a level until the end of the target
unfoldable pub target_suffixes : Rule (List PlacedSuffix)
target_suffixes = scope suffixes

-- suffix* "=" expr ";"
unfoldable pub assigned : Rule (List PlacedSuffix × Expr)
assigned = seq target_suffixes value

-- ";" | suffix* "=" expr ";"
unfoldable pub after_call : Rule (Option (List PlacedSuffix × Expr))
after_call = either call_ends (by Some assigned)

-- args ";" | args suffix* "=" expr ";"
unfoldable pub called : Rule ((List Expr × List Expr) × Option (List PlacedSuffix × Expr))
called = seq call_arguments after_call

unfoldable pub name_statement_rest : Rule (((List Expr × List Expr) × Option (List PlacedSuffix × Expr)) ⊎ (List PlacedSuffix × Expr))
name_statement_rest = either (by inl called) (by inr assigned)

-- NAME args ";" | NAME args suffix* "=" expr ";" | lhs "=" expr ";" where lhs begins with a name
unfoldable pub name_statement : Rule (ReadStmt)
name_statement = by (λ r. name_statement_of r.0.0 (whole r.1) r.0.1) (spanned (seq name name_statement_rest))

-- "if" expr "then" stmt* ("elsif" expr "then" stmt*)* ("else" stmt*)? "end" ";"
unfoldable pub if_statement : Rule (ReadStmt)
if_statement = by (λ r. rs.If (whole r.1) r.0.1.0 r.0.1.1 r.0.1.2 r.0.1.3) (spanned (scope (into (kind.If ∷ []) IfBody)))

-- "case" expr "of" alt* other? "end" ";"
unfoldable pub case_statement : Rule (ReadStmt)
case_statement = by (λ r. rs.Case (whole r.1) r.0.1.0 r.0.1.1 r.0.1.2) (spanned (scope (into (kind.Case ∷ []) CaseBody)))

-- "for" NAME "=" expr ("to" | "downto") expr limit? "do" stmt* "end" ";"
unfoldable pub for_statement : Rule (ReadStmt)
for_statement = by (λ r. rs.For (whole r.1) r.0.1.0 r.0.1.1 r.0.1.2 r.0.1.3 r.0.1.4 r.0.1.5) (spanned (scope (into (kind.For ∷ []) ForBody)))

-- "while" expr limit? "do" stmt* "end" ";"
unfoldable pub while_statement : Rule (ReadStmt)
while_statement = by (λ r. rs.While (whole r.1) r.0.1.0 r.0.1.1 r.0.1.2) (spanned (scope (into (kind.While ∷ []) WhileBody)))

-- "repeat" stmt* "until" expr limit? ";"
unfoldable pub repeat_statement : Rule (ReadStmt)
repeat_statement = by (λ r. rs.Repeat (whole r.1) r.0.1.0 r.0.1.1 r.0.1.2) (spanned (scope (into (kind.Repeat ∷ []) RepeatBody)))

-- "try" stmt* "catch" (catcher+ other? | other) "end" ";"
unfoldable pub try_statement : Rule (ReadStmt)
try_statement = by (λ r. rs.Try (whole r.1) r.0.1.0 r.0.1.1 r.0.1.2) (spanned (scope (into (kind.Try ∷ []) TryBody)))

-- stmt, one of the forms above
unfoldable pub statement : Rule (ReadStmt)
statement = either (by rs.Simple simple_statement) (either name_statement (either if_statement (either case_statement (either for_statement (either while_statement (either repeat_statement try_statement))))))

-- stmt*
unfoldable pub block : Rule (List ReadStmt)
block = many statement

-- limit? where limit = "looplimit" expr
unfoldable pub loop_limit : Rule (Option Expr)
loop_limit = opt (by (λ r. r.1) (seq (tok (kind.LoopLimit ∷ [])) expression))

-- other = "otherwise" "=>" stmt*
unfoldable pub otherwise : Rule (ReadOtherwise)
otherwise = by (λ r. ro.Otherwise r.1.1) (seq (tok (kind.Otherwise ∷ [])) (seq (tok (kind.FatArrow ∷ [])) block))

-- other?
unfoldable pub maybe_otherwise : Rule (ReadOtherwise)
maybe_otherwise = by or_no_otherwise (opt otherwise)

-- NAME suffix*
unfoldable pub place : Rule (Target)
place = by (λ r. place_of r.0 r.1) (seq name target_suffixes)

-- lhs = "-" | NAME suffix* | "(" lhs "," lhs,.. ")"
unfoldable pub target : Rule (Target)
target = either no_target (either place targets)

-- ("," lhs)*
unfoldable pub more_targets : Rule (List Target)
more_targets = by seconds (many (seq (tok (kind.Comma ∷ [])) target))

-- lhs "," lhs,..
unfoldable pub two_targets : Rule (List Target)
two_targets = by (λ r. behind (r.0 ∷ r.1.1.0 ∷ []) r.1.1.1) (seq target (seq (tok (kind.Comma ∷ [])) (seq target more_targets)))

unfoldable pub target_parts : Rule (List Target)
target_parts = by (λ r. r.0) (seq two_targets (tok (kind.CloseParen ∷ [])))

-- "elsif" expr "then" stmt*
unfoldable pub else_if : Rule (ReadElseIf)
else_if = by (λ r. re.ElseIf r.1.0 r.1.1.1) (seq (tok (kind.ElsIf ∷ [])) (seq expression (seq (tok (kind.Then ∷ [])) block)))

unfoldable pub else_ifs : Rule (List ReadElseIf)
else_ifs = many else_if

-- "else" stmt*
unfoldable pub else_block : Rule (List ReadStmt)
else_block = by (λ r. r.1) (seq (tok (kind.Else ∷ [])) block)

unfoldable pub maybe_else : Rule (List ReadStmt)
maybe_else = by or_nil (opt else_block)

-- expr "then" stmt* ("elsif" expr "then" stmt*)* ("else" stmt*)? "end" ";"
unfoldable pub if_body : Rule (Expr × List ReadStmt × List ReadElseIf × List ReadStmt)
if_body = by (λ r. (r.0, r.1.1.0, r.1.1.1.0, r.1.1.1.1.0)) (seq expression (seq (tok (kind.Then ∷ [])) (seq block (seq else_ifs (seq maybe_else (seq (tok (kind.End ∷ [])) (tok (kind.Semicolon ∷ []))))))))

-- ("where" expr)?
unfoldable pub where_clause : Rule (Option Expr)
where_clause = opt (by (λ r. r.1) (seq (tok (kind.Where ∷ [])) expression))

-- alt = "when" pattern,.. ("where" expr)? "=>" stmt*
unfoldable pub alternative : Rule (ReadAlternative)
alternative = by (λ r. ra.When r.1.0 r.1.1.0 r.1.1.1.1) (seq (tok (kind.When ∷ [])) (seq patterns (seq where_clause (seq (tok (kind.FatArrow ∷ [])) block))))

-- alt*
unfoldable pub alternatives : Rule (List ReadAlternative)
alternatives = many alternative

-- expr "of" alt* other? "end" ";"
unfoldable pub case_body : Rule (Expr × List ReadAlternative × ReadOtherwise)
case_body = by (λ r. (r.0, r.1.1.0, r.1.1.1.0)) (seq expression (seq (tok (kind.Of ∷ [])) (seq alternatives (seq maybe_otherwise (seq (tok (kind.End ∷ [])) (tok (kind.Semicolon ∷ [])))))))

-- "to" | "downto"
unfoldable pub direction : Rule (Direction)
direction = either (by (λ r. dr.Up) (tok (kind.To ∷ []))) (by (λ r. dr.Down) (tok (kind.DownTo ∷ [])))

-- NAME "=" expr ("to" | "downto") expr limit? "do" stmt* "end" ";"
unfoldable pub for_body : Rule (Ident × Expr × Direction × Expr × Option Expr × List ReadStmt)
for_body = by (λ r. (r.0, r.1.1.0, r.1.1.1.0, r.1.1.1.1.0, r.1.1.1.1.1.0, r.1.1.1.1.1.1.1.0)) (seq name (seq (tok (kind.Assign ∷ [])) (seq expression (seq direction (seq expression (seq loop_limit (seq (tok (kind.Do ∷ [])) (seq block (seq (tok (kind.End ∷ [])) (tok (kind.Semicolon ∷ [])))))))))))

-- expr limit? "do" stmt* "end" ";"
unfoldable pub while_body : Rule (Expr × Option Expr × List ReadStmt)
while_body = by (λ r. (r.0, r.1.0, r.1.1.1.0)) (seq expression (seq loop_limit (seq (tok (kind.Do ∷ [])) (seq block (seq (tok (kind.End ∷ [])) (tok (kind.Semicolon ∷ [])))))))

-- stmt* "until" expr limit? ";"
unfoldable pub repeat_body : Rule (List ReadStmt × Expr × Option Expr)
repeat_body = by (λ r. (r.0, r.1.1.0, r.1.1.1.0)) (seq block (seq (tok (kind.Until ∷ [])) (seq expression (seq loop_limit (tok (kind.Semicolon ∷ []))))))

-- (":" NAME)?
unfoldable pub caught_type : Rule (Option Ident)
caught_type = opt (by (λ r. r.1) (seq (tok (kind.Colon ∷ [])) name))

-- catcher = "when" (NAME ":")? NAME "=>" stmt*
unfoldable pub catcher : Rule (ReadCatcher)
catcher = by (λ r. catch_of r.1.0 r.1.1.0 r.1.1.1.1) (seq (tok (kind.When ∷ [])) (seq name (seq caught_type (seq (tok (kind.FatArrow ∷ [])) block))))

unfoldable pub catchers : Rule (List ReadCatcher)
catchers = many catcher

-- catcher+ other?
unfoldable pub some_catchers : Rule (List ReadCatcher × ReadOtherwise)
some_catchers = by (λ r. (r.0 ∷ r.1.0, r.1.1)) (seq catcher (seq catchers maybe_otherwise))

-- catcher+ other? | other
unfoldable pub handlers : Rule (List ReadCatcher × ReadOtherwise)
handlers = either some_catchers (by no_catchers otherwise)

-- stmt* "catch" (catcher+ other? | other) "end" ";"
unfoldable pub try_body : Rule (List ReadStmt × List ReadCatcher × ReadOtherwise)
try_body = by (λ r. (r.0, r.1.1.0.0, r.1.1.0.1)) (seq block (seq (tok (kind.Catch ∷ [])) (seq handlers (seq (tok (kind.End ∷ [])) (tok (kind.Semicolon ∷ []))))))

-- ---- Declarations

-- formal = NAME ":" type
unfoldable pub formal : Rule (Formal)
formal = by (λ r. record { name = r.0; ty = r.1.1 }) (seq name (seq (tok (kind.Colon ∷ [])) type_expression))

-- formal,..
unfoldable pub formal_list : Rule (List Formal)
formal_list = by (λ r. r.0 ∷ seconds r.1) (seq formal (many (seq (tok (kind.Comma ∷ [])) formal)))

-- (formal,..)?
unfoldable pub maybe_formals : Rule (List Formal)
maybe_formals = by or_nil (opt formal_list)

-- "(" (formal,..)? ")"
unfoldable pub formals : Rule (List Formal)
formals = scope (by (λ r. r.1.0) (seq (opens (kind.OpenParen ∷ [])) (seq maybe_formals (tok (kind.CloseParen ∷ [])))))

-- param = NAME (":" type)?
unfoldable pub param : Rule (Param)
param = by (λ r. record { name = r.0; ty = r.1 }) (seq name typed)

-- param,..
unfoldable pub param_list : Rule (List Param)
param_list = by (λ r. r.0 ∷ seconds r.1) (seq param (many (seq (tok (kind.Comma ∷ [])) param)))

-- (param,..)?
unfoldable pub maybe_param_list : Rule (List Param)
maybe_param_list = by or_nil (opt param_list)

-- "{" (param,..)? "}"
unfoldable pub params : Rule (List Param)
params = scope (by (λ r. r.1.0) (seq (opens (kind.OpenBrace ∷ [])) (seq maybe_param_list (tok (kind.CloseBrace ∷ [])))))

-- ("{" (param,..)? "}")?
unfoldable pub maybe_params : Rule (List Param)
maybe_params = by or_nil (opt params)

-- NAME,.. ","?
unfoldable pub label_list : Rule (List Ident)
label_list = by (λ r. r.0 ∷ seconds r.1.0) (seq name (trail (kind.Comma ∷ []) name))

-- "{" NAME,.. ","? "}"
unfoldable pub label_braces : Rule (List Ident)
label_braces = scope (by (λ r. r.1.0) (seq (opens (kind.OpenBrace ∷ [])) (seq label_list (tok (kind.CloseBrace ∷ [])))))

-- "enumeration" "{" NAME,.. ","? "}"
unfoldable pub labels : Rule (TypeDef)
labels = by (λ r. td.Labels (whole r.1) r.0.1) (spanned (seq (tok (kind.Enumeration ∷ [])) label_braces))

-- "-"
unfoldable pub no_members : Rule (List Formal)
no_members = by (λ r. []) (tok (kind.Minus ∷ []))

-- formal,.. ","?
unfoldable pub listed_members : Rule (List Formal)
listed_members = by (λ r. r.0 ∷ seconds r.1.0) (seq formal (trail (kind.Comma ∷ []) formal))

-- "-" | formal,.. ","?
unfoldable pub some_members : Rule (List Formal)
some_members = either no_members listed_members

unfoldable pub maybe_some_members : Rule (List Formal)
maybe_some_members = by or_nil (opt some_members)

-- "{" ("-" | formal,.. ","?)? "}"
unfoldable pub member_braces : Rule (List Formal)
member_braces = scope (by (λ r. r.1.0) (seq (opens (kind.OpenBrace ∷ [])) (seq maybe_some_members (tok (kind.CloseBrace ∷ [])))))

-- ("{" ("-" | formal,.. ","?)? "}")?
unfoldable pub members : Rule (List Formal)
members = by or_nil (opt member_braces)

unfoldable pub record_type : Rule (TypeDef)
record_type = by (λ r. td.Record (whole r.1) r.0.1) (spanned (seq (tok (kind.Record ∷ [])) members))

unfoldable pub exception_type : Rule (TypeDef)
exception_type = by (λ r. td.Exception (whole r.1) r.0.1) (spanned (seq (tok (kind.Exception ∷ [])) members))

-- tydef = type | "enumeration" "{" NAME,.. ","? "}" | ("record" | "exception") ("{" ("-" | formal,.. ","?)? "}")?
unfoldable pub type_definition : Rule (TypeDef)
type_definition = either (by td.Alias type_expression) (either labels (either record_type exception_type))

-- ("subtypes" NAME)?
unfoldable pub supertype : Rule (Option Ident)
supertype = opt (by (λ r. r.1) (seq (tok (kind.Subtypes ∷ [])) name))

-- "type" NAME "of" tydef ("subtypes" NAME)? ";"
unfoldable pub type_decl : Rule (ReadDecl)
type_decl = by (λ r. rd.Type (record { span = (whole r.1); name = r.0.1.0; def = r.0.1.1.1.0; supertype = r.0.1.1.1.1.0 })) (spanned (seq (tok (kind.TypeWord ∷ [])) (seq name (seq (tok (kind.Of ∷ [])) (seq type_definition (seq supertype (tok (kind.Semicolon ∷ []))))))))

-- "constant" | "let"
unfoldable pub fixed_kind : Rule (StorageKind)
fixed_kind = either (by (λ r. sk.Constant) (tok (kind.Constant ∷ []))) (by (λ r. sk.Let) (tok (kind.Let ∷ [])))

-- ("constant" | "let") NAME (":" type)? "=" expr ";"
unfoldable pub fixed_storage : Rule (ReadDecl)
fixed_storage = by (λ r. rd.Storage (record { span = (whole r.1); kind = r.0.0; name = r.0.1.0; ty = r.0.1.1.0; init = Some r.0.1.1.1 })) (spanned (seq fixed_kind (seq name (seq typed value))))

-- ":" type ";" | ":" type "=" expr ";"
unfoldable pub typed_var : Rule (Option TypeExpr × Option Expr)
typed_var = by (λ r. (Some r.1.0, r.1.1)) (seq (tok (kind.Colon ∷ [])) (seq type_expression maybe_value))

-- behind "var" NAME
unfoldable pub global_rest : Rule (Option TypeExpr × Option Expr)
global_rest = either typed_var (by untyped value)

-- "var" NAME (":" type)? "=" expr ";" | "var" NAME ":" type ";"
unfoldable pub global_var : Rule (ReadDecl)
global_var = by (λ r. rd.Storage (record { span = (whole r.1); kind = sk.Var; name = r.0.1.0; ty = r.0.1.1.0; init = r.0.1.1.1 })) (spanned (seq (tok (kind.Var ∷ [])) (seq name global_rest)))

-- ("=>" type)?
unfoldable pub result_type : Rule (Option TypeExpr)
result_type = opt (by (λ r. r.1) (seq (tok (kind.FatArrow ∷ [])) type_expression))

-- ("recurselimit" expr)?
unfoldable pub recursion_limit : Rule (Option Expr)
recursion_limit = opt (by (λ r. r.1) (seq (tok (kind.RecurseLimit ∷ [])) expression))

-- "pure" | "readonly"
unfoldable pub written_qualifier : Rule (Qualifier)
written_qualifier = either (by (λ r. ql.Pure) (tok (kind.Pure ∷ []))) (by (λ r. ql.Readonly) (tok (kind.ReadOnly ∷ [])))

-- ("pure" | "readonly")?
unfoldable pub qualifier : Rule (Qualifier)
qualifier = by or_unqualified (opt written_qualifier)

-- "impdef" | "implementation"
unfoldable pub body_word : Rule (BodyWord)
body_word = either (by (λ r. bw.ImpDef) (tok (kind.ImpDef ∷ []))) (by (λ r. bw.Implementation) (tok (kind.Implementation ∷ [])))

-- ("impdef" | "implementation")?
unfoldable pub maybe_body_word : Rule (BodyWord)
maybe_body_word = by or_no_word (opt body_word)

-- ("pure" | "readonly")? "func" NAME ("{" (param,..)? "}")? "(" (formal,..)? ")" ("=>" type)? ("recurselimit" expr)? "begin" stmt* "end" ";"
unfoldable pub function : Rule (Bodied)
function = by (λ r. bo.Subprogram r.0 r.1.1.0 r.1.1.1.0 r.1.1.1.1.0 r.1.1.1.1.1.0 r.1.1.1.1.1.1.0 r.1.1.1.1.1.1.1.1.0) (seq qualifier (seq (tok (kind.Func ∷ [])) (seq name (seq maybe_params (seq formals (seq result_type (seq recursion_limit (seq (tok (kind.Begin ∷ [])) (seq block (seq (tok (kind.End ∷ [])) (tok (kind.Semicolon ∷ []))))))))))))

-- ("pure" | "readonly")? "getter" stmt* "end" ";"
unfoldable pub getter : Rule (Qualifier × List ReadStmt)
getter = by (λ r. (r.0, r.1.1.0)) (seq qualifier (seq (tok (kind.Getter ∷ [])) (seq block (seq (tok (kind.End ∷ [])) (tok (kind.Semicolon ∷ []))))))

-- "setter" stmt* "end" ";"
unfoldable pub setter : Rule (List ReadStmt)
setter = by (λ r. r.1.0) (seq (tok (kind.Setter ∷ [])) (seq block (seq (tok (kind.End ∷ [])) (tok (kind.Semicolon ∷ [])))))

-- "accessor" NAME ("{" (param,..)? "}")? "(" (formal,..)? ")" "<=>" NAME ":" type "begin" ("pure" | "readonly")? "getter" stmt* "end" ";" "setter" stmt* "end" ";" "end" ";"
unfoldable pub accessor : Rule (Bodied)
accessor = by (λ r. bo.Accessor r.1.0 r.1.1.0 r.1.1.1.0 r.1.1.1.1.1.0 r.1.1.1.1.1.1.1.0.0 r.1.1.1.1.1.1.1.0.1 r.1.1.1.1.1.1.1.1.0) (seq (tok (kind.Accessor ∷ [])) (seq name (seq maybe_params (seq formals (seq (tok (kind.Access ∷ [])) (seq formal (seq (tok (kind.Begin ∷ [])) (seq getter (seq setter (seq (tok (kind.End ∷ [])) (tok (kind.Semicolon ∷ []))))))))))))

-- a subprogram or an accessor
unfoldable pub behind_word : Rule (Bodied)
behind_word = either function accessor

-- ("impdef" | "implementation")?, and a subprogram or an accessor
unfoldable pub bodied : Rule (ReadDecl)
bodied = by (λ r. bodied_of (whole r.1) r.0.0 r.0.1) (spanned (seq maybe_body_word behind_word))

-- decl, one of the forms above
unfoldable pub declaration : Rule (ReadDecl)
declaration = either type_decl (either fixed_storage (either global_var bodied))

-- program = decl*
unfoldable pub program : Rule (List ReadDecl)
program = many declaration

-- ---- Symbols

abbrev pub rule : (s : Sym) → Rule (Val s)
rule Parenthesized = parenthesized_in
rule Arguments = arguments_in
rule Braced = braced_in
rule Operand = unary
rule IfParts = if_parts
rule Bracketed = bracketed_in
rule Width = width_in
rule SetParts = set_parts
rule PatternParts = pattern_parts
rule ConstraintParts = constraint_parts
rule Bitfields = bitfields_in
rule TypeParts = type_parts
rule ArrayParts = array_parts
rule TargetParts = target_parts
rule IfBody = if_body
rule CaseBody = case_body
rule ForBody = for_body
rule WhileBody = while_body
rule RepeatBody = repeat_body
rule TryBody = try_body
rule Program = program

-- the tokens by which what a symbol stands for may go on
abbrev pub after : Sym → Kinds
after Parenthesized = []
after Arguments = []
after Braced = []
after Operand = (kind.OpenParen ∷ kind.OpenBracket ∷ kind.OpenBrace ∷ kind.Dot ∷ kind.In ∷ [])
after IfParts = (kind.OpenParen ∷ kind.OpenBracket ∷ kind.OpenBrace ∷ kind.Dot ∷ kind.ColonColon ∷ kind.Equal ∷ kind.NotEqual ∷ kind.AndAnd ∷ kind.OrOr ∷ kind.Implies ∷ kind.Iff ∷ kind.Less ∷ kind.LessEqual ∷ kind.ShiftLeft ∷ kind.Greater ∷ kind.GreaterEqual ∷ kind.ShiftRight ∷ kind.Plus ∷ kind.Minus ∷ kind.Star ∷ kind.Caret ∷ kind.BitAnd ∷ kind.Div ∷ kind.DivRm ∷ kind.In ∷ kind.Mod ∷ kind.BitOr ∷ kind.BitXor ∷ kind.As ∷ [])
after Bracketed = []
after Width = []
after SetParts = []
after PatternParts = []
after ConstraintParts = []
after Bitfields = []
after TypeParts = []
after ArrayParts = (kind.OpenBrace ∷ [])
after TargetParts = []
after IfBody = []
after CaseBody = []
after ForBody = []
after WhileBody = []
after RepeatBody = []
after TryBody = []
after Program = (kind.Constant ∷ kind.Func ∷ kind.Let ∷ kind.Pure ∷ kind.ReadOnly ∷ kind.TypeWord ∷ kind.Var ∷ kind.Accessor ∷ kind.ImpDef ∷ kind.Implementation ∷ [])
