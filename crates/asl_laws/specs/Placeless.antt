-- What is judged doesn't depend on the places of names, which typed trees have: no condition asks for a slot. Of an expression and
-- of a written type there is the same fault, or the same type, effect and width, wherever the names have their places.
use Rattle.std.specs.Prelude.{◌≡◌, ℕ, Bool, List, Result, Ok, Err}
use Rattle.asl_syn.specs.declared.code.Fault.{Fault}
use Rattle.asl_syn.specs.declared.tree.Expr.{Expr}
use Rattle.asl_syn.specs.declared.tree.TypeExpr.{TypeExpr}
use Rattle.asl_rules.specs.Tests.{Tests}
use Rattle.asl_rules.specs.declarations.Scopes.{Entry, Scope, with_names, standing_of}
use Rattle.asl_rules.specs.expressions.Typing.{Typed, Width}
use Rattle.asl_rules.specs.types.Writing.{Written}
use Rattle.asl_rules.specs.expressions.Exprs.{typed, width, written}

-- each name stands for the same
abbrev pub StandSame : List Entry → List Entry → Type 0
StandSame A B = (name : List ℕ) → standing_of name A ≡ standing_of name B

-- one fault, or one type and effect
abbrev pub TypedAlike : Result Typed Fault → Result Typed Fault → Type 0
TypedAlike (Ok S) (Ok T) = (S.ty ≡ T.ty) × (S.effect ≡ T.effect)
TypedAlike (Ok S) (Err f) = ⊥
TypedAlike (Err f) (Ok T) = ⊥
TypedAlike (Err f) (Err g) = f ≡ g

-- one fault, or one width
abbrev pub WidthAlike : Result Width Fault → Result Width Fault → Type 0
WidthAlike (Ok v) (Ok w) = v.poly ≡ w.poly
WidthAlike (Ok v) (Err f) = ⊥
WidthAlike (Err f) (Ok w) = ⊥
WidthAlike (Err f) (Err g) = f ≡ g

-- one fault, or one written type
abbrev pub WrittenAlike : Result Written Fault → Result Written Fault → Type 0
WrittenAlike (Ok V) (Ok W) = V.ty ≡ W.ty
WrittenAlike (Ok V) (Err f) = ⊥
WrittenAlike (Err f) (Ok W) = ⊥
WrittenAlike (Err f) (Err g) = f ≡ g

-- with these names at other places everything is judged the same
pub record JudgesSame (t : Tests) (G : Scope) (names : List Entry) : Type 0 where
  pub typed : (e : Expr) → TypedAlike (typed t e G) (typed t e (with_names G names))
  pub width : (e : Expr) → WidthAlike (width t e G) (width t e (with_names G names))
  pub written : (ty : TypeExpr) (outside : Bool) → WrittenAlike (written t ty outside G) (written t ty outside (with_names G names))
