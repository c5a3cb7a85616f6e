-- The types of parameters, formals and results, as the checker finds them.
use Rattle.std.specs.Prelude.{◌≡◌, false, List, [], ◌∷◌, ◌++◌, Option, None, Some, Result, Ok}
use Rattle.asl_syn.specs.declared.code.Fault.{Fault}
use Rattle.asl_syn.specs.declared.tree.Formal.{Formal}
use Rattle.asl_syn.specs.declared.tree.Func.{Func}
use Rattle.asl_syn.specs.declared.tree.Param.{Param as WrittenParam}
use Rattle.asl_syn.specs.declared.tree.TypeExpr.{TypeExpr}
use Rattle.asl_rules.specs.Faults.{◌>>=◌}
use Rattle.asl_rules.specs.Tests.{Tests}
use Rattle.asl_rules.specs.types.Types.{Ty}
use Rattle.asl_rules.specs.declarations.Scopes.{Scope, Entry, Param, next_atom, with_entry}
use Rattle.asl_rules.specs.declarations.Declarations.{in_names}
use Rattle.asl_rules.specs.declarations.Programs.{param_entry}
use Rattle.asl_judge.specs.private.Definitions.{type_written}

-- the type that is written, where one is
abbrev pub maybe_written : Tests → Option TypeExpr → Scope → Result (Option Ty) Fault
maybe_written t None G = Ok None
maybe_written t (Some ty) G = type_written t ty false G >>= λ T. Ok (Some T)

-- the parameters, behind those before, and the names with theirs, each where it isn't visible
abbrev pub params_after : Tests → List WrittenParam → List Param → List Entry → Result (List Param × List Entry) Fault
params_after t [] before names = Ok (before, names)
params_after t (p ∷ ps) before names =
    maybe_written t p.ty (in_names names) >>= λ T.
    params_after t ps (before ++ record { atom = next_atom names; ty = T } ∷ []) (with_entry (param_entry p.name.text T (next_atom names)) names)

-- the types of formals, behind those before
abbrev pub formals_after : Tests → List Ty → List Formal → Scope → Result (List Ty) Fault
formals_after t before [] G = Ok before
formals_after t before (f ∷ fs) G = type_written t f.ty false G >>= λ T. formals_after t (before ++ T ∷ []) fs G

-- the types of a subprogram's parameters, formals and result
pub record HeadTypes : Type 0 where
  pub params : List Param
  pub formals : List Ty
  pub result : Option Ty

abbrev pub types_with : List Param → List Ty → Option Ty → HeadTypes
types_with ps Ts T = record { params = ps; formals = Ts; result = T }

abbrev pub head_types : Tests → Func → List Entry → Result HeadTypes Fault
head_types t f names =
    params_after t f.params [] names >>= λ p.
    formals_after t [] f.formals (in_names p.1) >>= λ Ts.
    maybe_written t f.result (in_names p.1) >>= λ T.
    Ok (types_with p.0 Ts T)

-- ---- the names before

-- the second names are the first and then others
pub record IsFront (N K : List Entry) : Type 0 where
  pub more : List Entry
  pub is : K ≡ N ++ more
