-- The subprograms of a program with the names that their bodies begin with, and what its declarations bring.
use Rattle.std.specs.Prelude.{ℕ, List, [], ◌∷◌, Result, Ok, map}
use Rattle.asl_syn.specs.declared.code.Fault.{Fault}
use Rattle.asl_syn.specs.declared.tree.Decl.{Decl}
use Rattle.asl_syn.specs.declared.tree.Formal.{Formal}
use Rattle.asl_syn.specs.declared.tree.Func.{Func}
use Rattle.asl_syn.specs.declared.tree.Param.{Param as WrittenParam}
use Rattle.asl_rules.specs.Faults.{◌>>=◌, ◌>>◌}
use Rattle.asl_rules.specs.Tests.{Tests}
use Rattle.asl_rules.specs.types.Types.{Parts, part}
use Rattle.asl_rules.specs.declarations.Names.{names_rule, all_declared}
use Rattle.asl_rules.specs.declarations.Uses.{cycles_rule}
use Rattle.asl_rules.specs.declarations.Turns.{globals_rule}
use Rattle.asl_rules.specs.declarations.Scopes.{Entry, Signature, Param, fixed, with_entry}
use Rattle.asl_rules.specs.statements.Locals.{itself}
use Rattle.asl_rules.specs.declarations.Programs.{Head, funcs_of, param_entry, signatures_rule, overloads_rule}
use Rattle.asl_decl.specs.declared.table.Table.{Table}

-- ---- the names of a body

-- the names with those of parameters, each where it isn't visible
abbrev pub params_declared : List WrittenParam → List Param → List Entry → List Entry
params_declared (p ∷ ps) (q ∷ qs) names = params_declared ps qs (with_entry (param_entry p.name.text q.ty q.atom) names)
params_declared ps qs names = names

-- and with those of formals, integers among them standing for themselves in widths
abbrev pub formals_declared : List Formal → Parts → List Entry → List Entry
formals_declared (f ∷ fs) (part T Ts) names = formals_declared fs Ts (with_entry (fixed f.name.text T (itself T names)) names)
formals_declared fs Ts names = names

-- the names that a body begins with, over those outside
abbrev pub names_of_body : Func → Signature → List Entry → List Entry
names_of_body f s names = formals_declared f.formals s.formals (params_declared f.params s.params names)

abbrev pub head_of : List Entry → Func → Signature → Head
head_of names f s = record { func = f; signature = s; names = names_of_body f s names }

abbrev pub heads_of : List Entry → List Func → List Signature → List Head
heads_of names (f ∷ fs) (s ∷ ss) = head_of names f s ∷ heads_of names fs ss
heads_of names fs ss = []

-- ---- what declarations bring

-- the names that are visible outside bodies, and the subprograms
pub record Declared : Type 0 where
  pub names : List Entry
  pub heads : List Head

abbrev pub declared_with : List Entry → List Head → Declared
declared_with names heads = record { names = names; heads = heads }

-- what declarations bring that are well formed, with the signatures of their subprograms: names, declarations that reach themselves, types and storage,
-- signatures, and subprograms of one name whose formals have the same kinds
abbrev pub declared_rule : Tests → List Decl → Result Declared Fault
declared_rule t ds =
    names_rule [] (all_declared ds) >>
    cycles_rule ds ds >>
    globals_rule t ds >>= λ names.
    signatures_rule t names (funcs_of ds) >>= λ hs.
    overloads_rule [] hs >>
    Ok (declared_with names hs)

abbrev pub declared_of : Table → Declared
declared_of x = declared_with x.names (heads_of x.names (map (λ f. f.now) x.funcs) x.subs)
