-- What is asked of each value that a rule of the grammar may give: each span in it lies in the file of this number and size, and each literal of bits keeps
-- within the width limit.
use Rattle.std.proofs.Common.{◌≡◌, ℕ, ◌+◌, ◌≤◌, ◌⊎◌, inl, inr, List, [], ◌∷◌, ◌++◌, Option, Some, None, arith}
use Rattle.asl_syn.specs.declared.token.Span.{Span}
use Rattle.asl_syn.specs.declared.tree.Ident.{Ident}
use Rattle.asl_syn.specs.declared.tree.Expr.{Expr}
use Rattle.asl_syn.specs.declared.tree.FieldValue.{FieldValue}
use Rattle.asl_syn.specs.declared.tree.Slice.{Slice}
use Rattle.asl_syn.specs.declared.tree.TypeExpr.{TypeExpr}
use Rattle.asl_syn.specs.declared.tree.ConstraintPart.{ConstraintPart}
use Rattle.asl_syn.specs.declared.tree.Bitfield.{Bitfield}
use Rattle.asl_syn.specs.declared.tree.Pattern.{Pattern}
use Rattle.asl_syn.specs.declared.tree.Suffix.{Suffix}
use Rattle.asl_syn.specs.declared.tree.PlacedSuffix.{PlacedSuffix}
use Rattle.asl_syn.specs.declared.tree.Target.{Target}
use Rattle.asl_syn.specs.declared.tree.Binder.{Binder}
use Rattle.asl_syn.specs.declared.tree.Bind.{Bind}
use Rattle.asl_syn.specs.declared.tree.PrintItem.{PrintItem}
use Rattle.asl_syn.specs.declared.tree.PrintKind.{PrintKind}
use Rattle.asl_syn.specs.declared.tree.Direction.{Direction}
use Rattle.asl_syn.specs.declared.tree.StorageKind.{StorageKind}
use Rattle.asl_syn.specs.declared.tree.Qualifier.{Qualifier}
use Rattle.asl_syn.specs.declared.tree.Stmt.{Stmt}
use Rattle.asl_syn.specs.declared.tree.ElseIf.{ElseIf}
use Rattle.asl_syn.specs.declared.tree.Alternative.{Alternative}
use Rattle.asl_syn.specs.declared.tree.Otherwise.{Otherwise}
use Rattle.asl_syn.specs.declared.tree.Catcher.{Catcher}
use Rattle.asl_syn.specs.declared.tree.Formal.{Formal}
use Rattle.asl_syn.specs.declared.tree.Param.{Param}
use Rattle.asl_syn.specs.declared.tree.TypeDef.{TypeDef}
use Rattle.asl_syn.specs.declared.tree.Decl.{Decl}
use Rattle.asl_syn.specs.declared.read.ReadStmt.{ReadStmt}
use Rattle.asl_syn.specs.declared.read.ReadElseIf.{ReadElseIf}
use Rattle.asl_syn.specs.declared.read.ReadAlternative.{ReadAlternative}
use Rattle.asl_syn.specs.declared.read.ReadOtherwise.{ReadOtherwise}
use Rattle.asl_syn.specs.declared.read.ReadCatcher.{ReadCatcher}
use Rattle.asl_syn.specs.declared.read.BodyWord.{BodyWord}
use Rattle.asl_syn.specs.declared.read.ReadDecl.{ReadDecl}
use Rattle.asl_grammar.specs.declared.parts.Braces.{Braces}
use Rattle.asl_grammar.specs.declared.parts.Braces.TheVariants as br
use Rattle.asl_grammar.specs.declared.parts.AfterName.{AfterName}
use Rattle.asl_grammar.specs.declared.parts.AfterName.TheVariants as an
use Rattle.asl_grammar.specs.declared.parts.VarTail.{VarTail}
use Rattle.asl_grammar.specs.declared.parts.VarTail.TheVariants as vt
use Rattle.asl_grammar.specs.declared.parts.SliceForm.{SliceForm}
use Rattle.asl_grammar.specs.declared.parts.Bodied.{Bodied}
use Rattle.asl_grammar.specs.declared.parts.Bodied.TheVariants as bo
use Rattle.asl_grammar.specs.grammar.Cursor.{Lexeme, Extent}
use Rattle.asl_grammar.specs.grammar.Build.{seconds, or_nil, behind, ident, Link, Links, AsLinks, Posts, LateTail, NameTail, SumTail, LateRange, VarRest, MoreNames, Typed, Untyped}
use Rattle.asl_rules.specs.declarations.WrittenOut.{stmt_written, else_if_written, alternative_written, otherwise_written, catcher_written, decl_written}
use Rattle.asl_laws.proofs.basics.Lists.{AllOf}
use Rattle.asl_laws.specs.Spans.{Mark, place, literal, Spans, Each, all_of, of_names, maybe, expr_spans, given_spans, slice_spans, type_spans, part_spans, bitfield_spans, pattern_spans, suffix_spans, target_spans, binder_spans, bind_spans, item_spans, stmt_spans, branch_spans, alternative_spans, otherwise_spans, catcher_spans, formal_spans, param_spans, def_spans, decl_spans}
use Rattle.asl_laws.proofs.reading.Literals.{IsLiteral}
use Rattle.asl_laws.proofs.reading.Inside.{LexIn, ExtIn, in_opt}

-- ---- values of two types

abbrev pub in_pair : {A B : Type 0} → (A → Type 0) → (B → Type 0) → A × B → Type 0
in_pair S T x = S x.0 × T x.1

abbrev pub in_sum : {A B : Type 0} → (A → Type 0) → (B → Type 0) → A ⊎ B → Type 0
in_sum S T (inl a) = S a
in_sum S T (inr b) = T b

module _ (n size limit : ℕ) where
  -- ---- spans

  -- a span of this file, which lies in its text of so many bytes
  abbrev pub P : Span → Type 0
  P span = (span.file ≡ n) × (span.start + span.len ≤ size)

  -- so at a literal of bits, whose text is one under this width limit
  abbrev pub MarkIn : Mark → Type 0
  MarkIn (place span) = P span
  MarkIn (literal span text) = P span × IsLiteral limit text

  -- a span that is only begun with: where it ends is not asked
  abbrev pub FromIn : Span → Type 0
  FromIn from = (from.file ≡ n) × (from.start ≤ size)

  abbrev pub IdentIn : Ident → Type 0
  IdentIn i = P i.span

  -- ---- trees

  abbrev pub ExprIn : Expr → Type 0
  ExprIn e = Each MarkIn (expr_spans e)

  abbrev pub SliceIn : Slice → Type 0
  SliceIn x = Each MarkIn (slice_spans x)

  abbrev pub FieldValueIn : FieldValue → Type 0
  FieldValueIn x = Each MarkIn (given_spans x)

  abbrev pub TypeExprIn : TypeExpr → Type 0
  TypeExprIn ty = Each MarkIn (type_spans ty)

  abbrev pub ConstraintPartIn : ConstraintPart → Type 0
  ConstraintPartIn x = Each MarkIn (part_spans x)

  abbrev pub BitfieldIn : Bitfield → Type 0
  BitfieldIn x = Each MarkIn (bitfield_spans x)

  abbrev pub PatternIn : Pattern → Type 0
  PatternIn p = Each MarkIn (pattern_spans p)

  abbrev pub SuffixIn : Suffix → Type 0
  SuffixIn x = Each MarkIn (suffix_spans x)

  abbrev pub PlacedSuffixIn : PlacedSuffix → Type 0
  PlacedSuffixIn x = SuffixIn x.suffix × (x.end ≤ size)

  abbrev pub TargetIn : Target → Type 0
  TargetIn x = Each MarkIn (target_spans x)

  abbrev pub BinderIn : Binder → Type 0
  BinderIn x = Each MarkIn (binder_spans x)

  abbrev pub BindIn : Bind → Type 0
  BindIn x = Each MarkIn (bind_spans x)

  abbrev pub PrintItemIn : PrintItem → Type 0
  PrintItemIn x = Each MarkIn (item_spans x)

  abbrev pub StmtIn : Stmt → Type 0
  StmtIn s = Each MarkIn (stmt_spans s)

  abbrev pub ElseIfIn : ElseIf → Type 0
  ElseIfIn x = Each MarkIn (branch_spans x)

  abbrev pub AlternativeIn : Alternative → Type 0
  AlternativeIn x = Each MarkIn (alternative_spans x)

  abbrev pub OtherwiseIn : Otherwise → Type 0
  OtherwiseIn x = Each MarkIn (otherwise_spans x)

  abbrev pub CatcherIn : Catcher → Type 0
  CatcherIn x = Each MarkIn (catcher_spans x)

  abbrev pub FormalIn : Formal → Type 0
  FormalIn x = Each MarkIn (formal_spans x)

  abbrev pub ParamIn : Param → Type 0
  ParamIn x = Each MarkIn (param_spans x)

  abbrev pub TypeDefIn : TypeDef → Type 0
  TypeDefIn x = Each MarkIn (def_spans x)

  abbrev pub DeclIn : Decl → Type 0
  DeclIn d = Each MarkIn (decl_spans d)

  -- ---- trees as they are read: by what they are written out as

  abbrev pub ReadStmtIn : ReadStmt → Type 0
  ReadStmtIn s = AllOf StmtIn (stmt_written s)

  abbrev pub ReadElseIfIn : ReadElseIf → Type 0
  ReadElseIfIn x = ElseIfIn (else_if_written x)

  abbrev pub ReadAlternativeIn : ReadAlternative → Type 0
  ReadAlternativeIn x = AlternativeIn (alternative_written x)

  abbrev pub ReadOtherwiseIn : ReadOtherwise → Type 0
  ReadOtherwiseIn x = OtherwiseIn (otherwise_written x)

  abbrev pub ReadCatcherIn : ReadCatcher → Type 0
  ReadCatcherIn x = CatcherIn (catcher_written x)

  abbrev pub ReadDeclIn : ReadDecl → Type 0
  ReadDeclIn d = AllOf DeclIn (decl_written d)

  -- ---- what has no span

  abbrev pub SliceFormIn : SliceForm → Type 0
  SliceFormIn x = Unit {0}

  abbrev pub QualifierIn : Qualifier → Type 0
  QualifierIn x = Unit {0}

  abbrev pub DirectionIn : Direction → Type 0
  DirectionIn x = Unit {0}

  abbrev pub PrintKindIn : PrintKind → Type 0
  PrintKindIn x = Unit {0}

  abbrev pub StorageKindIn : StorageKind → Type 0
  StorageKindIn x = Unit {0}

  abbrev pub BodyWordIn : BodyWord → Type 0
  BodyWordIn x = Unit {0}

  -- ---- parts that only the grammar knows

  abbrev pub BracesIn : Braces → Type 0
  BracesIn br.Empty = Unit {0}
  BracesIn (br.Fields fs) = AllOf FieldValueIn fs
  BracesIn (br.Parameters ps) = AllOf ExprIn ps

  abbrev pub AfterNameIn : AfterName → Type 0
  AfterNameIn (an.Built fs) = AllOf FieldValueIn fs
  AfterNameIn (an.Called ps xs) = AllOf ExprIn ps × AllOf ExprIn xs

  abbrev pub VarTailIn : VarTail → Type 0
  VarTailIn (vt.Declared is ty) = AllOf IdentIn is × TypeExprIn ty
  VarTailIn (vt.Initialised b ty e) = BindIn b × (in_opt TypeExprIn ty × ExprIn e)

  abbrev pub VarRestIn : VarRest → Type 0
  VarRestIn (MoreNames is ty) = AllOf IdentIn is × TypeExprIn ty
  VarRestIn (Typed ty e) = TypeExprIn ty × in_opt ExprIn e
  VarRestIn (Untyped e) = ExprIn e

  abbrev pub BodiedIn : Bodied → Type 0
  BodiedIn (bo.Subprogram q i ps fs result most ss) =
      QualifierIn q × (IdentIn i × (AllOf ParamIn ps × (AllOf FormalIn fs × (in_opt TypeExprIn result × (in_opt ExprIn most × AllOf ReadStmtIn ss)))))
  BodiedIn (bo.Accessor i ps fs value q getter setter) =
      IdentIn i × (AllOf ParamIn ps × (AllOf FormalIn fs × (FormalIn value × (QualifierIn q × (AllOf ReadStmtIn getter × AllOf ReadStmtIn setter)))))

  abbrev pub LinkIn : Link → Type 0
  LinkIn x = LexIn n size x.0 × (ExprIn x.1.0 × ExtIn n size x.1.1)

  abbrev pub LinksIn : Links → Type 0
  LinksIn xs = AllOf LinkIn xs

  abbrev pub AsLinksIn : AsLinks → Type 0
  AsLinksIn xs = AllOf (in_pair TypeExprIn (ExtIn n size)) xs

  abbrev pub PostsIn : Posts → Type 0
  PostsIn r = AllOf PlacedSuffixIn r.0 × in_opt (in_pair PatternIn (ExtIn n size)) r.1

  abbrev pub LateTailIn : LateTail → Type 0
  LateTailIn r = (ExprIn r.0.0 × ExtIn n size r.0.1) × (LinksIn r.1.0 × AsLinksIn r.1.1)

  abbrev pub NameTailIn : NameTail → Type 0
  NameTailIn r = in_opt (in_pair AfterNameIn (ExtIn n size)) r.0 × (PostsIn r.1.0 × (LinksIn r.1.1.0 × AsLinksIn r.1.1.1))

  abbrev pub SumTailIn : SumTail → Type 0
  SumTailIn r = (ExprIn r.0.0 × ExtIn n size r.0.1) × LinksIn r.1

  abbrev pub LateRangeIn : LateRange → Type 0
  LateRangeIn r = SumTailIn r.0 × in_opt ExprIn r.1

  -- ---- lists and options of trees

  pub each_in : {A : Type 0} (f : A → Spans) (xs : List A) → AllOf (λ x. Each MarkIn (f x)) xs → Each MarkIn (all_of f xs)
  each_in f [] h = tt
  each_in f (x ∷ xs) h = (h.0, each_in f xs h.1)

  pub each_names_in : (is : List Ident) → AllOf IdentIn is → Each MarkIn (of_names is)
  each_names_in [] h = tt
  each_names_in (i ∷ is) h = (h.0, each_names_in is h.1)

  pub each_maybe_in : {A : Type 0} (f : A → Spans) (o : Option A) → in_opt (λ x. Each MarkIn (f x)) o → Each MarkIn (maybe f o)
  each_maybe_in f None h = tt
  each_maybe_in f (Some x) h = h

  -- and back
  pub of_each_in : {A : Type 0} (f : A → Spans) (xs : List A) → Each MarkIn (all_of f xs) → AllOf (λ x. Each MarkIn (f x)) xs
  of_each_in f [] h = tt
  of_each_in f (x ∷ xs) h = (h.0, of_each_in f xs h.1)

  pub of_each_names_in : (is : List Ident) → Each MarkIn (of_names is) → AllOf IdentIn is
  of_each_names_in [] h = tt
  of_each_names_in (i ∷ is) h = (h.0, of_each_names_in is h.1)

  -- ---- where something begins

  pub from_in : (e : Extent) → ExtIn n size e → FromIn e.from
  from_in e h = (h.file_is, h.begins)

  pub span_from : (span : Span) → P span → FromIn span
  span_from span h = (h.0, (let k = h.1 in omega (arith, k)))

  pub lex_from : (t : Lexeme) → LexIn n size t → FromIn t.span
  lex_from t h = span_from t.span h

  pub ident_in : (t : Lexeme) → LexIn n size t → IdentIn (ident t)
  ident_in t h = h

  -- ---- lists that are put together

  -- what stands behind separators
  pub seconds_in : {A : Type 0} (S : A → Type 0) (xs : List (Lexeme × A)) → AllOf (λ x. LexIn n size x.0 × S x.1) xs → AllOf S (seconds xs)
  seconds_in S [] h = tt
  seconds_in S (x ∷ xs) h = (h.0.1, seconds_in S xs h.1)

-- this holds of each of no items, of each of one list behind another
pub or_nil_in : {A : Type 0} (S : A → Type 0) (o : Option (List A)) → in_opt (AllOf S) o → AllOf S (or_nil o)
or_nil_in S None h = tt
or_nil_in S (Some xs) h = h

pub append_in : {A : Type 0} (S : A → Type 0) (xs ys : List A) → AllOf S xs → AllOf S ys → AllOf S (xs ++ ys)
append_in S [] ys h k = k
append_in S (x ∷ xs) ys h k = (h.0, append_in S xs ys h.1 k)

pub behind_in : {A : Type 0} (S : A → Type 0) (found xs : List A) → AllOf S found → AllOf S xs → AllOf S (behind found xs)
unfolding behind
behind_in S found xs h k = append_in S found xs h k
