-- What is read, written out in the language that the rules judge: an accessor is a function and a procedure of one name, and a
-- statement that stores through one is a call of the procedure. Where it stores into a part, it is the statements that take the
-- value, store into it, and give it back.
use Rattle.std.specs.Prelude.{ℕ, suc, List, [], ◌∷◌, ◌++◌, map, Some, None, codes}
use Rattle.std.specs.Fmt.{decimal}
use Rattle.asl_syn.specs.declared.token.Span.{Span}
use Rattle.asl_syn.specs.declared.tree.Ident.{Ident}
use Rattle.asl_syn.specs.declared.tree.Expr.{Expr}
use Rattle.asl_syn.specs.declared.tree.Expr.TheVariants as ex
use Rattle.asl_syn.specs.declared.tree.PlacedSuffix.{PlacedSuffix}
use Rattle.asl_syn.specs.declared.tree.Target.{Target}
use Rattle.asl_syn.specs.declared.tree.Target.TheVariants as tg
use Rattle.asl_syn.specs.declared.tree.Binder.TheVariants as bd
use Rattle.asl_syn.specs.declared.tree.Bind.TheVariants as bi
use Rattle.asl_syn.specs.declared.tree.LocalKind.{LocalKind}
use Rattle.asl_syn.specs.declared.tree.LocalKind.TheVariants as lk
use Rattle.asl_syn.specs.declared.tree.Stmt.{Stmt}
use Rattle.asl_syn.specs.declared.tree.Stmt.TheVariants as stm
use Rattle.asl_syn.specs.declared.tree.ElseIf.{ElseIf}
use Rattle.asl_syn.specs.declared.tree.ElseIf.TheVariants as ei
use Rattle.asl_syn.specs.declared.tree.Alternative.{Alternative}
use Rattle.asl_syn.specs.declared.tree.Alternative.TheVariants as al
use Rattle.asl_syn.specs.declared.tree.Otherwise.{Otherwise}
use Rattle.asl_syn.specs.declared.tree.Otherwise.TheVariants as ot
use Rattle.asl_syn.specs.declared.tree.Catcher.{Catcher}
use Rattle.asl_syn.specs.declared.tree.Catcher.TheVariants as ca
use Rattle.asl_syn.specs.declared.tree.Qualifier.TheVariants as qualifier
use Rattle.asl_syn.specs.declared.tree.Func.{Func}
use Rattle.asl_syn.specs.declared.tree.Decl.{Decl}
use Rattle.asl_syn.specs.declared.tree.Decl.TheVariants as dc
use Rattle.asl_syn.specs.declared.read.ReadStmt.{ReadStmt}
use Rattle.asl_syn.specs.declared.read.ReadAlternative.TheOpen as rs
use Rattle.asl_syn.specs.declared.read.ReadAlternative.TheFolds.{fold-ReadAlternative, fold-ReadCatcher, fold-ReadElseIf, fold-ReadOtherwise, fold-ReadStmt}
use Rattle.asl_syn.specs.declared.read.ReadAlternative.{ReadAlternative}
use Rattle.asl_syn.specs.declared.read.ReadCatcher.{ReadCatcher}
use Rattle.asl_syn.specs.declared.read.ReadElseIf.{ReadElseIf}
use Rattle.asl_syn.specs.declared.read.ReadOtherwise.{ReadOtherwise}
use Rattle.asl_syn.specs.declared.read.ReadFunc.{ReadFunc}
use Rattle.asl_syn.specs.declared.read.Accessor.{Accessor}
use Rattle.asl_syn.specs.declared.read.ReadDecl.{ReadDecl}
use Rattle.asl_syn.specs.declared.read.ReadDecl.TheVariants as rd
use Rattle.asl_rules.specs.expressions.Exprs.{expr_span}
use Rattle.asl_rules.specs.statements.Targets.{up_to}

-- ---- made names

-- The names that a statement is written out with: those of its values in order, what is stored being the first, and that of the place into which it is
-- stored. No text has such a name, since one that begins with two underscores is refused. The byte at which the statement begins is part of them, so no two
-- statements of a body share one, and it can't be seen that they stay visible to the end of the list in which the statement stands.
abbrev pub made_value : Span → ℕ → List ℕ
made_value at n = codes "__" ++ (decimal n ++ (codes "@" ++ decimal at.start))

abbrev pub made_place : Span → List ℕ
made_place at = codes "__t@" ++ decimal at.start

-- ---- a statement that stores through an accessor

abbrev pub ident : Span → List ℕ → Ident
ident span name = record { span = span; text = name }

-- `let NAME = e;` or `var NAME = e;`
abbrev pub bound : Span → LocalKind → Ident → Expr → Stmt
bound at kind i e = stm.Local at kind (bi.Single (bd.Bound i)) None e

-- `let __n = e;` for each of these, numbered from n on
abbrev pub values_bound : Span → ℕ → List Expr → List Stmt
values_bound at n [] = []
values_bound at n (e ∷ es) = bound at lk.Let (ident (expr_span e) (made_value at n)) e ∷ values_bound at (suc n) es

-- their names, each where that stands for which it stands
abbrev pub values_named : Span → ℕ → List Expr → List Expr
values_named at n [] = []
values_named at n (e ∷ es) = ex.Name (expr_span e) (made_value at n) ∷ values_named at (suc n) es

-- a target stands from the name of the accessor to its last suffix
abbrev pub stored_to : Ident → ℕ → List PlacedSuffix → Span
stored_to i end [] = up_to i end
stored_to i end (x ∷ xs) = stored_to i x.end xs

abbrev pub place_stored : Span → Ident → PlacedSuffix → List PlacedSuffix → Target
place_stored at i x xs = tg.Place (stored_to i x.end xs) (ident i.span (made_place at)) (x ∷ xs)

-- `let __0 = e; let __1 = a1; .. var __t = X{p}(__1, ..); __t suffixes = __0; X{p}(__t, __1, ..);`
abbrev pub stored_in_part : Span → Ident → List Expr → List Expr → Target → Expr → List Stmt
stored_in_part at i ps es target e =
    values_bound at 0 (e ∷ es) ++
    bound at lk.Var (ident at (made_place at)) (ex.Call at i ps (values_named at 1 es)) ∷
    stm.Assign at target (ex.Name (expr_span e) (made_value at 0)) ∷
    stm.Invoke at i ps (ex.Name at (made_place at) ∷ values_named at 1 es) ∷ []

-- `X{p}(a) = e;` is `X{p}(e, a);`
abbrev pub stored : Span → Ident → List Expr → List Expr → List PlacedSuffix → Expr → List Stmt
stored at i ps es [] e = stm.Invoke at i ps (e ∷ es) ∷ []
stored at i ps es (x ∷ xs) e = stored_in_part at i ps es (place_stored at i x xs) e

-- ---- statements

abbrev pub joined : {A : Type 0} → List (List A) → List A
joined [] = []
joined (xs ∷ xss) = xs ++ joined xss

abbrev pub stmt_layer_written : rs.ReadStmt-F Alternative Catcher ElseIf Otherwise (List Stmt) → List Stmt
stmt_layer_written (rs.Simple s) = s ∷ []
stmt_layer_written (rs.Store at i ps es xs e) = stored at i ps es xs e
stmt_layer_written (rs.If at c first others last) = stm.If at c (joined first) others (joined last) ∷ []
stmt_layer_written (rs.Case at e ass o) = stm.Case at e ass o ∷ []
stmt_layer_written (rs.For at i a d b l ss) = stm.For at i a d b l (joined ss) ∷ []
stmt_layer_written (rs.While at c l ss) = stm.While at c l (joined ss) ∷ []
stmt_layer_written (rs.Repeat at ss c l) = stm.Repeat at (joined ss) c l ∷ []
stmt_layer_written (rs.Try at ss cs o) = stm.Try at (joined ss) cs o ∷ []

abbrev pub else_if_layer_written : rs.ReadElseIf-F Alternative Catcher ElseIf Otherwise (List Stmt) → ElseIf
else_if_layer_written (rs.ElseIf c ss) = ei.ElseIf c (joined ss)

abbrev pub alternative_layer_written : rs.ReadAlternative-F Alternative Catcher ElseIf Otherwise (List Stmt) → Alternative
alternative_layer_written (rs.When ps e ss) = al.When ps e (joined ss)

abbrev pub catcher_layer_written : rs.ReadCatcher-F Alternative Catcher ElseIf Otherwise (List Stmt) → Catcher
catcher_layer_written (rs.Catch i t ss) = ca.Catch i t (joined ss)

abbrev pub otherwise_layer_written : rs.ReadOtherwise-F Alternative Catcher ElseIf Otherwise (List Stmt) → Otherwise
otherwise_layer_written rs.NoOtherwise = ot.NoOtherwise
otherwise_layer_written (rs.Otherwise ss) = ot.Otherwise (joined ss)

-- what a statement is written out as, and what stands in statements
abbrev pub stmt_written : ReadStmt → List Stmt
stmt_written =
    fold-ReadStmt Alternative Catcher ElseIf Otherwise (List Stmt)
    alternative_layer_written catcher_layer_written else_if_layer_written otherwise_layer_written stmt_layer_written

abbrev pub else_if_written : ReadElseIf → ElseIf
else_if_written =
    fold-ReadElseIf Alternative Catcher ElseIf Otherwise (List Stmt)
    alternative_layer_written catcher_layer_written else_if_layer_written otherwise_layer_written stmt_layer_written

abbrev pub alternative_written : ReadAlternative → Alternative
alternative_written =
    fold-ReadAlternative Alternative Catcher ElseIf Otherwise (List Stmt)
    alternative_layer_written catcher_layer_written else_if_layer_written otherwise_layer_written stmt_layer_written

abbrev pub catcher_written : ReadCatcher → Catcher
catcher_written =
    fold-ReadCatcher Alternative Catcher ElseIf Otherwise (List Stmt)
    alternative_layer_written catcher_layer_written else_if_layer_written otherwise_layer_written stmt_layer_written

abbrev pub otherwise_written : ReadOtherwise → Otherwise
otherwise_written =
    fold-ReadOtherwise Alternative Catcher ElseIf Otherwise (List Stmt)
    alternative_layer_written catcher_layer_written else_if_layer_written otherwise_layer_written stmt_layer_written

abbrev pub list_written : List ReadStmt → List Stmt
list_written ss = joined (map stmt_written ss)

-- ---- declarations

abbrev pub func_written : ReadFunc → Func
func_written f = record {
  span = f.span;
  qualifier = f.qualifier;
  name = f.name;
  params = f.params;
  formals = f.formals;
  result = f.result;
  limit = f.limit;
  body = list_written f.body;
}

-- the function that an accessor is, with the word and the body of the getter
abbrev pub getter_of : Accessor → Func
getter_of a = record {
  span = a.span;
  qualifier = a.qualifier;
  name = a.name;
  params = a.params;
  formals = a.formals;
  result = Some a.value.ty;
  limit = None;
  body = list_written a.getter;
}

-- and the procedure, whose formals are the value and those of the accessor, with the body of the setter
abbrev pub setter_of : Accessor → Func
setter_of a = record {
  span = a.span;
  qualifier = qualifier.Unqualified;
  name = a.name;
  params = a.params;
  formals = a.value ∷ a.formals;
  result = None;
  limit = None;
  body = list_written a.setter;
}

abbrev pub decl_written : ReadDecl → List Decl
decl_written (rd.Type d) = dc.Type d ∷ []
decl_written (rd.Storage d) = dc.Storage d ∷ []
decl_written (rd.Func f) = dc.Func (func_written f) ∷ []
decl_written (rd.Accessor a) = dc.Func (getter_of a) ∷ dc.Func (setter_of a) ∷ []

-- what declarations are written out as, each in its place
abbrev pub written_out : List ReadDecl → List Decl
written_out ds = joined (map decl_written ds)
