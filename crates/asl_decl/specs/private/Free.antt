-- The names of parameters and formals, which stand once and aren't visible, as the checker keeps them.
use Rattle.std.specs.Prelude.{ℕ, suc, ◌&&◌, List, [], ◌∷◌, Result, Ok}
use Rattle.asl_syn.specs.declared.code.Fault.{Fault}
use Rattle.asl_syn.specs.declared.code.StaticCode.TheVariants.{T01}
use Rattle.asl_syn.specs.declared.tree.Formal.{Formal}
use Rattle.asl_syn.specs.declared.tree.Func.{Func}
use Rattle.asl_syn.specs.declared.tree.Param.{Param}
use Rattle.asl_rules.specs.Faults.{◌>>=◌, ◌>>◌, need}
use Rattle.asl_rules.specs.declarations.Programs.{params_free, formals_free}
use Rattle.asl_rules.specs.declarations.Scopes.{Entry, is_free, is_absent}
use Rattle.asl_names.specs.private.Firsts.{Places, first_place, kept}

-- the names of parameters with those before, or T01 at the first that is visible or stands twice
abbrev pub params_beside : List Param → ℕ → Places → List Entry → Result Places Fault
params_beside [] n before names = Ok before
params_beside (p ∷ ps) n before names =
    need (is_free p.name.text names && is_absent (first_place p.name.text before)) T01 p.name.span >> params_beside ps (suc n) (kept p.name.text n before) names

abbrev pub formals_beside : List Formal → ℕ → Places → List Entry → Result Places Fault
formals_beside [] n before names = Ok before
formals_beside (f ∷ fs) n before names =
    need (is_free f.name.text names && is_absent (first_place f.name.text before)) T01 f.name.span >> formals_beside fs (suc n) (kept f.name.text n before) names

-- the names of a subprogram's parameters and formals
abbrev pub free_beside : Func → List Entry → Result Places Fault
free_beside f names = params_beside f.params 0 [] names >>= λ before. formals_beside f.formals 0 before names

abbrev pub free_rule : Func → List Entry → Result (Unit {0}) Fault
free_rule f names = params_free f.params [] names >>= λ before. formals_free f.formals before names

-- whether there is a fault
abbrev pub ended : Result Places Fault → Result (Unit {0}) Fault
ended r = r >>= λ ps. Ok tt
