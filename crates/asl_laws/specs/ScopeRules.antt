-- Three rules that each scope keeps in which a body is judged. No name is shadowed. A type mentions names of its scope alone: the
-- atoms of its widths and ends are those of names of the body. And a result mentions parameters alone. The names outside bodies
-- mention none, since constants and global `let`s have values.
use Rattle.std.specs.Prelude.{◌≡◌, ℕ, ◌<◌, ◌⊎◌, Bool, false, List, [], ◌∷◌, Some, None, Ok}
use Rattle.asl_syn.specs.declared.tree.Expr.{Expr}
use Rattle.asl_syn.specs.declared.tree.TypeExpr.{TypeExpr}
use Rattle.asl_cons.specs.declared.End.{End}
use Rattle.asl_cons.specs.declared.End.TheVariants.{Int, Width}
use Rattle.asl_cons.specs.declared.Part.{Part}
use Rattle.asl_rules.specs.Tests.{Tests}
use Rattle.asl_rules.specs.types.Types.{Ty, Fields, Parts, integer_of, boolean, bits_of, enumeration_of, record_of, exception_of, tuple_of, array_of, named, no_field, field, no_part, part}
use Rattle.asl_rules.specs.declarations.Scopes.{Entry, Standing, Stored, Subprogram, TypeName, Label, Storage, Counted, Param, Signature, Scope, next_atom, standing_of}
use Rattle.asl_rules.specs.expressions.Typing.{Typed}
use Rattle.asl_rules.specs.types.Writing.{Written}
use Rattle.asl_rules.specs.expressions.Exprs.{typed, written}
use Rattle.asl_rules.specs.declarations.Programs.{Head, body_scope}
use Rattle.asl_rules.specs.private.Worth.{AtomsOf}

-- ---- no name is shadowed

-- no name stands for two things
abbrev pub NoneShadowed : List Entry → Type 0
NoneShadowed [] = Unit {0}
NoneShadowed (e ∷ es) = (standing_of e.name es ≡ None) × NoneShadowed es

-- ---- which atoms a type has

abbrev pub EndOver : (ℕ → Type 0) → End → Type 0
EndOver A (Int z) = Unit {0}
EndOver A (Width p) = AtomsOf A p.terms

pub record PartOver (A : ℕ → Type 0) (p : Part) : Type 0 where
  pub low : EndOver A p.low
  pub high : EndOver A p.high

abbrev pub PartsOver : (ℕ → Type 0) → List Part → Type 0
PartsOver A [] = Unit {0}
PartsOver A (p ∷ ps) = PartOver A p × PartsOver A ps

-- no atom at all
abbrev pub Never : ℕ → Type 0
Never n = ⊥

-- the widths and ends of a type have no atoms but these; what a declared name stands for has none
abbrev mutual
  pub Over : (ℕ → Type 0) → Ty → Type 0
  Over A (integer_of ps) = PartsOver A ps
  Over A boolean = Unit {0}
  Over A (bits_of w view) = AtomsOf A w.terms
  Over A (enumeration_of name labels) = Unit {0}
  Over A (record_of name fs) = FieldsOver fs
  Over A (exception_of name fs) = FieldsOver fs
  Over A (tuple_of ts) = AllOver A ts
  Over A (array_of n T) = Over A T
  Over A (named name supers T) = Over Never T

  pub FieldsOver : Fields → Type 0
  FieldsOver no_field = Unit {0}
  FieldsOver (field f T fs) = Over Never T × FieldsOver fs

  pub AllOver : (ℕ → Type 0) → Parts → Type 0
  AllOver A no_part = Unit {0}
  AllOver A (part T ts) = Over A T × AllOver A ts

-- ---- names and results

abbrev pub StandingOver : (ℕ → Type 0) → Standing → Type 0
StandingOver A (Stored s) = Over A s.ty
StandingOver A Subprogram = Unit {0}
StandingOver A (TypeName T) = Over A T
StandingOver A (Label T x) = Over A T

-- what storage counts as is over these atoms, and can't be assigned
abbrev pub CountedOver : (ℕ → Type 0) → Standing → Type 0
CountedOver A x = (s : Storage) (c : Counted) → x ≡ Stored s → s.counted ≡ Some c → AtomsOf A c.poly.terms × (s.is_mutable ≡ false)

-- each of these names is
abbrev pub EachOver : (ℕ → Type 0) → List Entry → Type 0
EachOver A [] = Unit {0}
EachOver A (e ∷ es) = StandingOver A e.standing × (CountedOver A e.standing × EachOver A es)

-- the atoms of these names
abbrev pub Below : List Entry → ℕ → Type 0
Below names n = n < next_atom names

-- a parameter's atom
abbrev pub IsAtomOf : List Param → ℕ → Type 0
IsAtomOf [] n = ⊥
IsAtomOf (p ∷ ps) n = (n ≡ p.atom) ⊎ IsAtomOf ps n

-- a result is over the parameters
abbrev pub ResultOver : Signature → Type 0
ResultOver f = (T : Ty) → f.result ≡ Some T → Over (IsAtomOf f.params) T

abbrev pub SubsOver : List Signature → Type 0
SubsOver [] = Unit {0}
SubsOver (f ∷ fs) = ResultOver f × SubsOver fs

-- ---- the three rules

pub record KeepsRules (G : Scope) : Type 0 where
  pub shadowed : NoneShadowed G.names
  pub types : EachOver (Below G.names) G.names
  pub results : SubsOver G.subs

-- names outside bodies, which mention none
pub record OutsideRules (names : List Entry) : Type 0 where
  pub shadowed : NoneShadowed names
  pub types : EachOver Never names

-- each body begins in such a scope
abbrev pub AllBegin : List Signature → List Head → Type 0
AllBegin subs [] = Unit {0}
AllBegin subs (h ∷ hs) = KeepsRules (body_scope subs h) × AllBegin subs hs

-- the types of expressions, and those that are written, mention names of the scope alone
pub record TypesOwn (t : Tests) (G : Scope) : Type 0 where
  pub typed : (e : Expr) (S : Typed) → typed t e G ≡ Ok S → Over (Below G.names) S.ty
  pub written : (ty : TypeExpr) (outside : Bool) (W : Written) → written t ty outside G ≡ Ok W → Over (Below G.names) W.ty
