-- The global that a declaration brings, and those so far with one that was found.
use Rattle.std.specs.Prelude.{List, [], ◌∷◌, ◌++◌, Option, None, Some}
use Rattle.asl_syn.specs.declared.tree.Decl.{Decl}
use Rattle.asl_syn.specs.declared.tree.Decl.TheVariants as dc
use Rattle.asl_rules.specs.declarations.Scopes.{Entry, storage_of}
use Rattle.asl_rules.specs.runs.States.{Binding}
use Rattle.asl_rules.specs.runs.Evaluation.{global_in}

abbrev pub found_global : Decl → List Entry → Option Binding
found_global (dc.Type d) names = None
found_global (dc.Storage d) names = global_in d (storage_of d.name.text names)
found_global (dc.Func f) names = None

abbrev pub with_found : {A : Type 0} → List A → Option A → List A
with_found xs None = xs
with_found xs (Some x) = xs ++ x ∷ []
