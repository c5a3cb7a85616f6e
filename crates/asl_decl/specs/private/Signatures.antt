-- Signatures in source order, and the subprograms of a program, as the checker finds them.
use Rattle.std.specs.Prelude.{ℤ, List, [], ◌∷◌, ◌++◌, Result, Ok}
use Rattle.asl_syn.specs.declared.code.Fault.{Fault}
use Rattle.asl_syn.specs.declared.tree.Decl.{Decl}
use Rattle.asl_syn.specs.declared.tree.Decl.TheVariants as dc
use Rattle.asl_syn.specs.declared.tree.Func.{Func}
use Rattle.asl_rules.specs.Faults.{◌>>=◌, ◌>>◌}
use Rattle.asl_rules.specs.Tests.{Tests}
use Rattle.asl_rules.specs.declarations.Scopes.{Entry, Signature}
use Rattle.asl_rules.specs.declarations.Programs.{class_of}
use Rattle.asl_types.specs.View.{parts_of}
use Rattle.asl_subprograms.specs.private.Apart.{apart_rule}
use Rattle.asl_decl.specs.private.Free.{free_rule}
use Rattle.asl_decl.specs.Heads.{Declared, declared_with, heads_of}
use Rattle.asl_decl.specs.private.HeadTypes.{HeadTypes, head_types}
use Rattle.asl_decl.specs.private.Limits.{limit_after}

abbrev pub signature_with : Func → HeadTypes → ℤ → Signature
signature_with f H limit = record { name = f.name.text; class = class_of f.qualifier; params = H.params; formals = parts_of H.formals; result = H.result; limit = limit }

-- the signature of a subprogram, over the names outside bodies
abbrev pub signature_found : Tests → Func → List Entry → Result Signature Fault
signature_found t f names =
    free_rule f names >>
    head_types t f names >>= λ H.
    limit_after t f H.params names >>= λ limit.
    Ok (signature_with f H limit)

-- those of several, and behind those before
abbrev pub signatures_found : Tests → List Func → List Entry → Result (List Signature) Fault
signatures_found t [] names = Ok []
signatures_found t (f ∷ fs) names = signature_found t f names >>= λ s. signatures_found t fs names >>= λ ss. Ok (s ∷ ss)

abbrev pub signatures_after : Tests → List Signature → List Func → List Entry → Result (List Signature) Fault
signatures_after t before [] names = Ok before
signatures_after t before (f ∷ fs) names = signature_found t f names >>= λ s. signatures_after t (before ++ s ∷ []) fs names

-- ---- the subprograms of a program

-- the subprograms, behind those before
abbrev pub funcs_after : List Func → List Decl → List Func
funcs_after before [] = before
funcs_after before (dc.Type d ∷ ds) = funcs_after before ds
funcs_after before (dc.Storage d ∷ ds) = funcs_after before ds
funcs_after before (dc.Func f ∷ ds) = funcs_after (before ++ f ∷ []) ds

-- ---- what declarations bring

-- the subprograms with their signatures over these names outside bodies
abbrev pub declared_found : Tests → List Func → List Entry → Result Declared Fault
declared_found t fs names = signatures_after t [] fs names >>= λ ss. apart_rule fs ss >> Ok (declared_with names (heads_of names fs ss))
