-- What is claimed of the nodes that a call visits: each was judged in a scope with which the state agrees, and the typed tree of that judgement does, in the
-- state without names and types, what the node does in the state, and has what the run finds by names and by values.
use Rattle.std.specs.Prelude.{◌≡◌, ℕ, ◌⊎◌, List, [], ◌∷◌, Ok}
use Rattle.asl_syn.specs.declared.tree.Decl.{Decl}
use Rattle.asl_syn.specs.declared.tree.Expr.{Expr, out-Expr}
use Rattle.asl_syn.specs.declared.tree.Stmt.{Stmt, out-Stmt}
use Rattle.asl_rules.specs.Tests.{Tests}
use Rattle.asl_rules.specs.types.Closed.{Assignment}
use Rattle.asl_rules.specs.declarations.Scopes.{Scope, Body}
use Rattle.asl_rules.specs.runs.Trees.{Tree, Act}
use Rattle.asl_rules.specs.expressions.Typing.{Typed, Width, Number}
use Rattle.asl_rules.specs.expressions.Exprs.{found, typed, width}
use Rattle.asl_rules.specs.statements.Acting.{Done}
use Rattle.asl_rules.specs.statements.Stmts.{found_stmt}
use Rattle.asl_rules.specs.declarations.Programs.{Accepted, Environment, environment}
use Rattle.asl_rules.specs.runs.States.{Core}
use Rattle.asl_rules.specs.private.Agreement.{Agrees}
use Rattle.asl_rules.specs.runs.Plans.{Meter}
use Rattle.asl_rules.specs.runs.Evaluation.{meaning}
use Rattle.asl_rules.specs.runs.Visits.{Entered, AtExpr, AtStmt, Visit}
use Rattle.asl_rules.specs.private.TypedMeaning.{tree_meaning}
use Rattle.asl_rules.specs.private.Erasure.{erased, erased_outcome}
use Rattle.asl_laws.specs.Soundness.{trees_of, StandsIn, IsBodyOf}
use Rattle.asl_laws.specs.Chosen.{ExprChosen, StmtChosen}

-- ---- a tree does the same, whatever number of nodes may be open and whatever the meter is

-- as the expression
abbrev pub TreeDoes : Tests → Environment → Accepted → Expr → Tree → Core → Type 0
TreeDoes t env a e tree c = (d : ℕ) (h : Meter) → (tree_meaning (trees_of t a) d).expr tree (erased c) h ≡ erased_outcome ((meaning env d).expr e c h)

-- as the statement
abbrev pub ActDoes : Tests → Environment → Accepted → Stmt → Act → Core → Type 0
ActDoes t env a s act c = (d : ℕ) (h : Meter) → (tree_meaning (trees_of t a) d).stmt act (erased c) h ≡ erased_outcome ((meaning env d).stmt s c h)

-- ---- the nodes that are visited

-- an expression has a type, or is a width or a number that is written in a type; the tree of that judgement does the same, and has what the run finds by names and
-- by values. A width and a number are of no form that finds something by values
abbrev pub IsJudgedSame : Tests → Environment → Accepted → Expr → Scope → Core → Type 0
IsJudgedSame t env a e G c =
    ((S : Typed) × (typed t e G ≡ Ok S) × TreeDoes t env a e S.tree c × ExprChosen env (out-Expr e) S.tree c) ⊎ (((W : Width) × (width t e G ≡ Ok W) × TreeDoes t env a e W.tree c) ⊎ ((N : Number) × ((found t e).number G ≡ Ok N) × TreeDoes t env a e N.tree c))

pub record ExprSame (t : Tests) (env : Environment) (a : Accepted) (e : Expr) (c : Core) : Type 0 where
  pub scope : Scope
  pub present : Assignment
  pub subs_are : scope.subs ≡ a.signatures
  pub stands : StandsIn a.signatures scope.class c.live
  pub judged : IsJudgedSame t env a e scope c
  pub agrees : Agrees a.names scope.names present c

pub record StmtSame (t : Tests) (env : Environment) (a : Accepted) (s : Stmt) (c : Core) : Type 0 where
  pub body : Body
  pub done : Done
  pub present : Assignment
  pub subs_are : body.scope.subs ≡ a.signatures
  pub stands : IsBodyOf a.signatures body c.live
  pub judged : found_stmt t s body ≡ Ok done
  pub agrees : Agrees a.names body.scope.names present c
  pub same : ActDoes t env a s done.act c
  pub chosen : StmtChosen env (Agrees a.names body.scope.names present) (out-Stmt s) done.act c

abbrev pub NodeSame : Tests → Environment → Accepted → Entered Expr Stmt → Core → Type 0
NodeSame t env a (AtExpr e) c = ExprSame t env a e c
NodeSame t env a (AtStmt s) c = StmtSame t env a s c

abbrev pub EachSame : Tests → Environment → Accepted → List (Visit Core Expr Stmt) → Type 0
EachSame t env a [] = Unit {0}
EachSame t env a (v ∷ vs) = NodeSame t env a v.node v.state × EachSame t env a vs

-- in a program
abbrev pub AllSame : Tests → List Decl → Accepted → List (Visit Core Expr Stmt) → Type 0
AllSame t ds a vs = EachSame t (environment t ds) a vs
