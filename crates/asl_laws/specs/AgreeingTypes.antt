-- The types that the rules compare agree with what is declared, in programs that are refused too: wherever declarations, signatures
-- and bodies are judged.
use Rattle.std.specs.Prelude.{◌≡◌, ℕ, Bool, List, [], ◌∷◌, Option, Some, None, Ok}
use Rattle.asl_syn.specs.declared.tree.Decl.{Decl}
use Rattle.asl_syn.specs.declared.tree.Direction.{Direction}
use Rattle.asl_syn.specs.declared.tree.Expr.{Expr}
use Rattle.asl_syn.specs.declared.tree.Ident.{Ident}
use Rattle.asl_syn.specs.declared.tree.Stmt.{Stmt}
use Rattle.asl_syn.specs.declared.tree.TypeExpr.{TypeExpr}
use Rattle.asl_rules.specs.Tests.{Tests}
use Rattle.asl_rules.specs.types.Types.{Ty}
use Rattle.asl_rules.specs.declarations.Scopes.{Entry, Standing, Stored, Subprogram, TypeName, Label, Param, Signature, Scope, Body, standing_of, type_of_name}
use Rattle.asl_rules.specs.expressions.Typing.{Typed}
use Rattle.asl_rules.specs.types.Writing.{Written}
use Rattle.asl_rules.specs.expressions.Exprs.{typed, written}
use Rattle.asl_rules.specs.statements.Acting.{Done}
use Rattle.asl_rules.specs.statements.Branches.{index_type, with_index, with_caught}
use Rattle.asl_rules.specs.statements.Stmts.{found_stmt}
use Rattle.asl_rules.specs.declarations.Turns.{names_of_program}
use Rattle.asl_rules.specs.declarations.Programs.{Head, funcs_of, signatures, signatures_rule}
use Rattle.asl_rules.specs.private.WellFormed.{WellFormed, WellDeclared, ShapedParts}
use Rattle.asl_rules.specs.private.Agreement.{types_in}
use Rattle.asl_rules.specs.private.Worth.{IsHeld}
use Rattle.asl_laws.specs.Evaluated.{names_after}

-- what a name stands for has a well-formed type, and counts as a width within the limits
abbrev pub StandsFormed : (List ℕ → Option Ty) → Standing → Type 0
StandsFormed declared (Stored s) = WellFormed declared s.ty × IsHeld s.counted
StandsFormed declared Subprogram = Unit {0}
StandsFormed declared (TypeName T) = WellFormed declared T
StandsFormed declared (Label T x) = WellFormed declared T

abbrev pub NamesFormed : (List ℕ → Option Ty) → List Entry → Type 0
NamesFormed declared names = (name : List ℕ) (st : Standing) → standing_of name names ≡ Some st → StandsFormed declared st

-- a type is well formed, where there is one
abbrev pub MaybeFormed : (List ℕ → Option Ty) → Option Ty → Type 0
MaybeFormed declared None = Unit {0}
MaybeFormed declared (Some T) = WellFormed declared T

abbrev pub ResultsFormed : (List ℕ → Option Ty) → List Signature → Type 0
ResultsFormed declared [] = Unit {0}
ResultsFormed declared (f ∷ fs) = MaybeFormed declared f.result × ResultsFormed declared fs

-- a scope in which what the names stand for, and the results of the subprograms, have well-formed types
pub record ScopeFormed (declared : List ℕ → Option Ty) (G : Scope) : Type 0 where
  pub names : NamesFormed declared G.names
  pub results : ResultsFormed declared G.subs

-- so have its expressions, and the types that are written there are well formed
pub record TypesFormed (t : Tests) (declared : List ℕ → Option Ty) (G : Scope) : Type 0 where
  pub typed : (e : Expr) (S : Typed) → typed t e G ≡ Ok S → WellFormed declared S.ty
  pub written : (ty : TypeExpr) (outside : Bool) (W : Written) → written t ty outside G ≡ Ok W → WellFormed declared W.ty

-- each statement leaves such a scope, and the lists of a loop and of a catcher are judged in such a scope, with the index and with
-- what was caught
pub record KeepsFormed (t : Tests) (declared : List ℕ → Option Ty) : Type 0 where
  pub stmt : (s : Stmt) (B : Body) (d : Done) → ScopeFormed declared B.scope → found_stmt t s B ≡ Ok d →
      ScopeFormed declared (record B.scope { names = d.names })
  pub index : (i : Ident) (d : Direction) (a b : Expr) (B : Body) → ScopeFormed declared B.scope →
      ScopeFormed declared (with_index i (index_type t d a b B.scope) B).scope
  pub caught : (i : Option Ident) (name : List ℕ) (T : Ty) (B C : Body) → ScopeFormed declared B.scope →
      type_of_name name B.scope.names ≡ Some T →
      with_caught i T B ≡ Ok C → ScopeFormed declared C.scope

-- ---- of declarations

-- the names stand for well-formed types, by what they themselves declare
pub record NamesAgree (names : List Entry) : Type 0 where
  pub declared : WellDeclared (types_in names)
  pub formed : NamesFormed (types_in names) names

abbrev pub ParamsFormed : (List ℕ → Option Ty) → List Param → Type 0
ParamsFormed declared [] = Unit {0}
ParamsFormed declared (p ∷ ps) = MaybeFormed declared p.ty × ParamsFormed declared ps

-- the types of a signature are well formed, and so are those of the names that its body begins with
pub record HeadFormed (declared : List ℕ → Option Ty) (h : Head) : Type 0 where
  pub params : ParamsFormed declared h.signature.params
  pub formals : ShapedParts declared h.signature.formals
  pub result : MaybeFormed declared h.signature.result
  pub names : NamesFormed declared h.names

abbrev pub HeadsFormed : (List ℕ → Option Ty) → List Head → Type 0
HeadsFormed declared [] = Unit {0}
HeadsFormed declared (h ∷ hs) = HeadFormed declared h × HeadsFormed declared hs

-- in each turn in which a declaration is judged, in the scope of all signatures, and in the signatures themselves
pub record DeclarationsAgree (t : Tests) (ds : List Decl) : Type 0 where
  pub each_turn : (n : ℕ) → NamesAgree (names_after t n ds)
  pub all : NamesAgree (names_of_program t ds)
  pub heads : (hs : List Head) → signatures_rule t (names_of_program t ds) (funcs_of ds) ≡ Ok hs →
      HeadsFormed (types_in (names_of_program t ds)) hs × ResultsFormed (types_in (names_of_program t ds)) (signatures hs)
