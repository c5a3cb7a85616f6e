-- What declared types stand for, in code.
use Rattle.std.specs.Prelude.{ℕ, suc, Bool, true, ◌&&◌, List, [], ◌∷◌, ◌++◌, Result, Ok}
use Rattle.asl_syn.specs.declared.code.Fault.{Fault}
use Rattle.asl_syn.specs.declared.tree.Expr.{Expr}
use Rattle.asl_syn.specs.declared.tree.Formal.{Formal}
use Rattle.asl_syn.specs.declared.tree.Ident.{Ident}
use Rattle.asl_syn.specs.declared.tree.TypeExpr.{TypeExpr}
use Rattle.asl_syn.specs.declared.code.StaticCode.TheVariants.{T04}
use Rattle.asl_rules.specs.Faults.{◌>>=◌, ◌>>◌, none_at, fitted}
use Rattle.asl_rules.specs.Tests.{Tests}
use Rattle.asl_rules.specs.types.Types.{Ty, misfit}
use Rattle.asl_rules.specs.types.Closed.{closed}
use Rattle.asl_rules.specs.types.Views.{viewed}
use Rattle.asl_rules.specs.declarations.Scopes.{Scope, is_absent}
use Rattle.asl_rules.specs.expressions.Exprs.{found, written, typed}
use Rattle.asl_rules.specs.declarations.Barred.{barred}
use Rattle.asl_rules.specs.declarations.Declarations.{Initial, with_type, known}
use Rattle.asl_names.specs.private.Firsts.{Places, first_place, kept}
use Rattle.asl_types.specs.declared.ty.FieldType.{FieldType}
use Rattle.asl_types.specs.declared.ty.FieldType.TheVariants as field

-- the type that is written
abbrev pub type_written : Tests → TypeExpr → Bool → Scope → Result Ty Fault
type_written t ty outside G = written t ty outside G >>= λ W. Ok W.ty

-- the type of an expression
abbrev pub type_found : Tests → Expr → Scope → Result Ty Fault
type_found t e G = typed t e G >>= λ S. Ok S.ty

-- the written type of storage, which its initialiser fits
abbrev pub type_fitted : Tests → TypeExpr → Expr → Scope → Result Ty Fault
type_fitted t ty e G =
    none_at T04 (barred e G.names) >>
    type_written t ty true G >>= λ T.
    type_found t e G >>= λ S.
    fitted (misfit t S T) (found t e).span >> Ok T

-- and the value that it begins with
abbrev pub both_found : Tests → TypeExpr → Expr → Scope → Result Initial Fault
both_found t ty e G = type_fitted t ty e G >>= λ T. known t e G >>= λ x. Ok (with_type T (viewed (closed T) x))

-- the fields with the types that are written, behind those before
abbrev pub fields_after : Tests → List FieldType → List Formal → Scope → Result (List FieldType) Fault
fields_after t xs [] G = Ok xs
fields_after t xs (f ∷ fs) G = type_written t f.ty true G >>= λ T. fields_after t (xs ++ field.Field f.name.text T ∷ []) fs G

-- each field stands once, the first of them at this place, and none among the names with their places
abbrev pub once_beside : List Formal → ℕ → Places → Bool
once_beside [] n ps = true
once_beside (f ∷ fs) n ps = is_absent (first_place f.name.text ps) && once_beside fs (suc n) (kept f.name.text n ps)

-- the labels of an enumeration, behind those before
abbrev pub labels_after : List (List ℕ) → List Ident → List (List ℕ)
labels_after xs [] = xs
labels_after xs (i ∷ is) = labels_after (xs ++ i.text ∷ []) is
