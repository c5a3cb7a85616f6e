-- How the trees are put together from what was read.
use Rattle.std.specs.Prelude.{ℕ, ◌⊎◌, true, List, [], ◌∷◌, ◌++◌, Option, Some, None}
use mathlib.Core.Logic.{inl, inr}
use Rattle.asl_syn.specs.declared.token.TokenKind.{TokenKind}
use Rattle.asl_syn.specs.declared.token.TokenKind.TheVariants as tk
use Rattle.asl_syn.specs.declared.token.Span.{Span}
use Rattle.asl_syn.specs.declared.tree.Ident.{Ident}
use Rattle.asl_syn.specs.declared.tree.UnaryOperator.{UnaryOperator}
use Rattle.asl_syn.specs.declared.tree.UnaryOperator.TheVariants as un
use Rattle.asl_syn.specs.declared.tree.Expr.{Expr}
use Rattle.asl_syn.specs.declared.tree.Expr.TheVariants as ex
use Rattle.asl_syn.specs.declared.tree.FieldValue.{FieldValue}
use Rattle.asl_syn.specs.declared.tree.FieldValue.TheVariants as fv
use Rattle.asl_syn.specs.declared.tree.Slice.{Slice}
use Rattle.asl_syn.specs.declared.tree.Slice.TheVariants as sl
use Rattle.asl_syn.specs.declared.tree.TypeExpr.{TypeExpr}
use Rattle.asl_syn.specs.declared.tree.ConstraintPart.{ConstraintPart}
use Rattle.asl_syn.specs.declared.tree.ConstraintPart.TheVariants as cp
use Rattle.asl_syn.specs.declared.tree.Bitfield.{Bitfield}
use Rattle.asl_syn.specs.declared.tree.Bitfield.TheVariants as bf
use Rattle.asl_syn.specs.declared.tree.Pattern.{Pattern}
use Rattle.asl_syn.specs.declared.tree.Pattern.TheVariants as pa
use Rattle.asl_syn.specs.declared.tree.Suffix.{Suffix}
use Rattle.asl_syn.specs.declared.tree.Suffix.TheVariants as su
use Rattle.asl_syn.specs.declared.tree.PlacedSuffix.{PlacedSuffix}
use Rattle.asl_syn.specs.declared.tree.Target.{Target}
use Rattle.asl_syn.specs.declared.tree.Target.TheVariants as tg
use Rattle.asl_syn.specs.declared.tree.Binder.TheVariants as bd
use Rattle.asl_syn.specs.declared.tree.Bind.TheVariants as bi
use Rattle.asl_syn.specs.declared.tree.LocalKind.TheVariants as lk
use Rattle.asl_syn.specs.declared.tree.Stmt.{Stmt}
use Rattle.asl_syn.specs.declared.tree.Stmt.TheVariants as stm
use Rattle.asl_syn.specs.declared.read.ReadStmt.{ReadStmt}
use Rattle.asl_syn.specs.declared.read.ReadStmt.TheVariants as rs
use Rattle.asl_syn.specs.declared.read.ReadOtherwise.{ReadOtherwise}
use Rattle.asl_syn.specs.declared.read.ReadOtherwise.TheVariants as ro
use Rattle.asl_syn.specs.declared.read.ReadCatcher.{ReadCatcher}
use Rattle.asl_syn.specs.declared.read.ReadCatcher.TheVariants as rc
use Rattle.asl_syn.specs.declared.read.BodyWord.{BodyWord}
use Rattle.asl_syn.specs.declared.read.BodyWord.TheVariants as bw
use Rattle.asl_syn.specs.declared.read.ReadDecl.{ReadDecl}
use Rattle.asl_syn.specs.declared.read.ReadDecl.TheVariants as rd
use Rattle.asl_syn.specs.declared.tree.Qualifier.{Qualifier}
use Rattle.asl_syn.specs.declared.tree.Qualifier.TheVariants as ql
use Rattle.asl_grammar.specs.declared.parts.Braces.{Braces}
use Rattle.asl_grammar.specs.declared.parts.Braces.TheVariants as br
use Rattle.asl_grammar.specs.declared.parts.AfterName.{AfterName}
use Rattle.asl_grammar.specs.declared.parts.AfterName.TheVariants as an
use Rattle.asl_grammar.specs.declared.parts.SliceForm.{SliceForm}
use Rattle.asl_grammar.specs.declared.parts.SliceForm.TheVariants as sf
use Rattle.asl_grammar.specs.declared.parts.VarTail.{VarTail}
use Rattle.asl_grammar.specs.declared.parts.VarTail.TheVariants as vt
use Rattle.asl_grammar.specs.declared.parts.Bodied.{Bodied}
use Rattle.asl_grammar.specs.declared.parts.Bodied.TheVariants as bo
use Rattle.asl_grammar.specs.grammar.Cursor.{Lexeme, Extent, end_of, span_to}
use Rattle.asl_grammar.specs.grammar.Kinds.{kind_of}
use Rattle.asl_grammar.specs.grammar.Operators.{binary_of}

-- ---- lists

abbrev pub seconds : {A B : Type 0} → List (A × B) → List B
seconds [] = []
seconds (x ∷ xs) = x.1 ∷ seconds xs

abbrev pub or_nil : {A : Type 0} → Option (List A) → List A
or_nil None = []
or_nil (Some xs) = xs

-- more items behind those found so far
unfoldable pub behind : {A : Type 0} → List A → List A → List A
behind found xs = found ++ xs

-- ---- tokens

abbrev pub int_of : TokenKind → ℕ
int_of (tk.Int n) = n
int_of _ = 0

abbrev pub ident : Lexeme → Ident
ident t = record { span = t.span; text = t.text }

abbrev pub or_unqualified : Option Qualifier → Qualifier
or_unqualified None = ql.Unqualified
or_unqualified (Some q) = q

-- ---- expressions

-- an operator, and its right operand with its extent
abbrev pub Link : Type 0
Link = Lexeme × (Expr × Extent)

abbrev pub Links : Type 0
Links = List Link

abbrev pub AsLinks : Type 0
AsLinks = List (TypeExpr × Extent)

-- an operator on what was read so far, which begins at a token
abbrev pub linked : Span → Expr → Link → Expr
linked from left x = ex.Binary (span_to from x.1.1.to) (binary_of (kind_of x.0.kind)) left x.1.0

-- operands with operators between, which group to the left
abbrev pub chained : Span → Expr → Links → Expr
chained from left [] = left
chained from left (x ∷ xs) = chained from (linked from left x) xs

abbrev pub compared : Span → Expr → Option Link → Expr
compared from left None = left
compared from left (Some x) = linked from left x

abbrev pub as_chained : Span → Expr → AsLinks → Expr
as_chained from left [] = left
as_chained from left (x ∷ xs) = as_chained from (ex.As (span_to from x.1.to) left x.0) xs

-- one of four chains, or none
abbrev pub logically : Span → Expr → Option Links → Expr
logically from left None = left
logically from left (Some xs) = chained from left xs

abbrev pub one_link : Option Link → Links
one_link None = []
one_link (Some x) = x ∷ []

abbrev pub joined : Links → Links → Links → Option Link → Links → Option Links → Links
joined a b c d e f = a ++ (b ++ (c ++ (one_link d ++ (e ++ or_nil f))))

abbrev pub finished : Span → Expr → Links × AsLinks → Expr
finished from left r = as_chained from (chained from left r.0) r.1

abbrev pub suffix_on : Span → Expr → Suffix → Expr
suffix_on span e (su.FieldOf f) = ex.Field span e f
suffix_on span e (su.FieldsOf fs) = ex.Fields span e fs
suffix_on span e (su.SlicesOf xs) = ex.Slices span e xs
suffix_on span e (su.ElementOf i) = ex.Element span e i

abbrev pub suffixed : Span → Expr → List PlacedSuffix → Expr
suffixed from e [] = e
suffixed from e (x ∷ xs) = suffixed from (suffix_on (span_to from x.end) e x.suffix) xs

abbrev pub in_on : Span → Expr → Option (Pattern × Extent) → Expr
in_on from e None = e
in_on from e (Some x) = ex.In (span_to from x.1.to) e x.0

abbrev pub Posts : Type 0
Posts = List PlacedSuffix × Option (Pattern × Extent)

abbrev pub posted : Span → Expr → Posts → Expr
posted from e r = in_on from (suffixed from e r.0) r.1

-- parentheses round one expression are no node
abbrev pub parens_of : Span → List Expr → Expr
parens_of span [] = ex.Tuple span []
parens_of span (x ∷ []) = x
parens_of span (x ∷ y ∷ xs) = ex.Tuple span (x ∷ y ∷ xs)

-- ---- names and what stands behind them

abbrev pub after_of : Ident → Span → AfterName → Expr
after_of i span (an.Built fs) = ex.Construct span i fs
after_of i span (an.Called ps xs) = ex.Call span i ps xs

abbrev pub named_of : Ident → Option (AfterName × Extent) → Expr
named_of i None = ex.Name i.span i.text
named_of i (Some r) = after_of i (span_to i.span r.1.to) r.0

-- parameters must be followed by arguments
abbrev pub parameters_or : Braces → Option (List FieldValue) ⊎ List Expr
parameters_or br.Empty = inl None
parameters_or (br.Fields fs) = inl (Some fs)
parameters_or (br.Parameters ps) = inr ps

-- and empty braces may
abbrev pub empty_or : Option (List FieldValue) ⊎ (List Expr × List Expr) → AfterName ⊎ List FieldValue
empty_or (inl None) = inr []
empty_or (inl (Some fs)) = inl (an.Built fs)
empty_or (inr r) = inl (an.Called r.0 r.1)

abbrev pub braced : AfterName ⊎ (List FieldValue × Option (List Expr)) → AfterName
braced (inl a) = a
braced (inr (fs, None)) = an.Built fs
braced (inr (fs, Some xs)) = an.Called [] xs

-- behind a prefix operator that was read: its operand, and how the expression goes on
abbrev pub LateTail : Type 0
LateTail = (Expr × Extent) × (Links × AsLinks)

-- behind a name that was read
abbrev pub NameTail : Type 0
NameTail = Option (AfterName × Extent) × (Posts × (Links × AsLinks))

abbrev pub prefixed_at : Span → UnaryOperator → Expr × Extent → Expr
prefixed_at from operator x = ex.Unary (span_to from x.1.to) operator x.0

abbrev pub late_of : Span → UnaryOperator → LateTail → Expr
late_of from operator r = finished from (prefixed_at from operator r.0) r.1

abbrev pub after_name_of : Ident → NameTail → Expr
after_name_of i r = finished i.span (posted i.span (named_of i r.0) r.1.0) r.1.1

abbrev pub parameters_from_minus : Span → LateTail × List Expr → List Expr
parameters_from_minus minus r = late_of minus un.Negate r.0 ∷ r.1

abbrev pub parameters_from_name : Ident → NameTail × List Expr → List Expr
parameters_from_name i r = after_name_of i r.0 ∷ r.1

abbrev pub fields_from_name : Ident → Expr × List FieldValue → List FieldValue
fields_from_name i r = fv.Given i r.0 ∷ r.1

abbrev pub minus_in_braces_of : Span → Option (LateTail × List Expr) → Braces
minus_in_braces_of minus None = br.Fields []
minus_in_braces_of minus (Some r) = br.Parameters (parameters_from_minus minus r)

abbrev pub name_in_braces_of : Ident → (Expr × List FieldValue) ⊎ (NameTail × List Expr) → Braces
name_in_braces_of i (inl r) = br.Fields (fields_from_name i r)
name_in_braces_of i (inr r) = br.Parameters (parameters_from_name i r)

-- ---- slices, constraints, bitfields

abbrev pub slice_by : Expr → SliceForm → Expr → Slice
slice_by e sf.HighLow f = sl.HighLow e f
slice_by e sf.LowWidth f = sl.LowWidth e f
slice_by e sf.FactorWidth f = sl.FactorWidth e f

abbrev pub slice_of : Expr → Option (SliceForm × Expr) → Slice
slice_of e None = sl.BitAt e
slice_of e (Some x) = slice_by e x.0 x.1

abbrev pub constraint_part_of : Expr → Option Expr → ConstraintPart
constraint_part_of e None = cp.Only e
constraint_part_of e (Some f) = cp.FromTo e f

abbrev pub bitfield_of : Expr → Option Expr → Ident → Bitfield
bitfield_of e None i = bf.OneBit e i
bitfield_of e (Some f) i = bf.BitRange e f i

-- ---- patterns

abbrev pub pattern_of : Expr → Span → Option Expr → Pattern
pattern_of e span None = pa.ValuePattern span e
pattern_of e span (Some f) = pa.RangePattern span e f

abbrev pub SumTail : Type 0
SumTail = (Expr × Extent) × Links

abbrev pub LateRange : Type 0
LateRange = SumTail × Option Expr

abbrev pub late_sum_of : Span → UnaryOperator → SumTail → Expr
late_sum_of from operator r = chained from (prefixed_at from operator r.0) r.1

abbrev pub late_range_of : Span → UnaryOperator → Span → LateRange → Pattern
late_range_of from operator span r = pattern_of (late_sum_of from operator r.0) span r.1

abbrev pub minus_pattern_of : Span → Span → Option LateRange → Pattern
minus_pattern_of minus span None = pa.AnyPattern span
minus_pattern_of minus span (Some r) = late_range_of minus un.Negate span r

abbrev pub bang_pattern_of : Span → Span → List Pattern ⊎ LateRange → Pattern
bang_pattern_of bang span (inl ps) = pa.SetPattern span true ps
bang_pattern_of bang span (inr r) = late_range_of bang un.Not span r

-- parentheses round one pattern are no node
abbrev pub pattern_parens_of : Span → List Pattern → Pattern
pattern_parens_of span [] = pa.TuplePattern span []
pattern_parens_of span (x ∷ []) = x
pattern_parens_of span (x ∷ y ∷ xs) = pa.TuplePattern span (x ∷ y ∷ xs)

-- ---- statements and declarations

-- where a place ends: at its last suffix
abbrev pub last_end : ℕ → List PlacedSuffix → ℕ
last_end e [] = e
last_end e (x ∷ xs) = last_end x.end xs

abbrev pub place_of : Ident → List PlacedSuffix → Target
place_of i xs = tg.Place (span_to i.span (last_end (end_of i.span) xs)) i xs

-- what stands behind `var NAME`
pub data VarRest : Type 0 where
  MoreNames : List Ident → TypeExpr → VarRest
  Typed : TypeExpr → Option Expr → VarRest
  Untyped : Expr → VarRest

abbrev pub var_tail_of : Ident → VarRest → VarTail
var_tail_of i (MoreNames is ty) = vt.Declared (i ∷ is) ty
var_tail_of i (Typed ty None) = vt.Declared (i ∷ []) ty
var_tail_of i (Typed ty (Some e)) = vt.Initialised (bi.Single (bd.Bound i)) (Some ty) e
var_tail_of i (Untyped e) = vt.Initialised (bi.Single (bd.Bound i)) None e

abbrev pub var_of : Span → VarTail → Stmt
var_of span (vt.Declared is ty) = stm.LocalVars span is ty
var_of span (vt.Initialised b ty e) = stm.Local span lk.Var b ty e

-- a call, or a store through one
abbrev pub called_of : Ident → Span → List Expr × List Expr → Option (List PlacedSuffix × Expr) → ReadStmt
called_of i span r None = rs.Simple (stm.Invoke span i r.0 r.1)
called_of i span r (Some s) = rs.Store span i r.0 r.1 s.0 s.1

abbrev pub name_statement_of : Ident → Span → ((List Expr × List Expr) × Option (List PlacedSuffix × Expr)) ⊎ (List PlacedSuffix × Expr) → ReadStmt
name_statement_of i span (inl r) = called_of i span r.0 r.1
name_statement_of i span (inr r) = rs.Simple (stm.Assign span (place_of i r.0) r.1)

abbrev pub or_no_otherwise : Option ReadOtherwise → ReadOtherwise
or_no_otherwise None = ro.NoOtherwise
or_no_otherwise (Some o) = o

abbrev pub no_catchers : ReadOtherwise → List ReadCatcher × ReadOtherwise
no_catchers o = ([], o)

-- `when NAME =>` catches a type, `when NAME : NAME =>` names the exception first
abbrev pub catch_of : Ident → Option Ident → List ReadStmt → ReadCatcher
catch_of i None ss = rc.Catch None i ss
catch_of i (Some t) ss = rc.Catch (Some i) t ss

abbrev pub untyped : Expr → Option TypeExpr × Option Expr
untyped e = (None, Some e)

abbrev pub or_no_word : Option BodyWord → BodyWord
or_no_word None = bw.NoWord
or_no_word (Some w) = w

-- a declaration with a body, behind its word
abbrev pub bodied_of : Span → BodyWord → Bodied → ReadDecl
bodied_of span w (bo.Subprogram q i ps fs result limit ss) =
    rd.Func (record { span = span; word = w; qualifier = q; name = i; params = ps; formals = fs; result = result; limit = limit; body = ss })
bodied_of span w (bo.Accessor i ps fs value q getter setter) =
    rd.Accessor (record { span = span; word = w; name = i; params = ps; formals = fs; value = value; qualifier = q; getter = getter; setter = setter })
