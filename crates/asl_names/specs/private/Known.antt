-- The names that were declared so far, as the checker keeps them: each once, with whether its first declaration is a
-- subprogram's.
use Rattle.std.specs.Prelude.{ℕ, Bool, ◌&&◌, not, List, [], ◌∷◌, ◌++◌, Option, None, Some, Result, Ok}
use Rattle.std.specs.Str.{bytes_eq}
use Rattle.std.specs.Map.{lookup}
use Rattle.asl_syn.specs.declared.code.Fault.{Fault}
use Rattle.asl_syn.specs.declared.code.StaticCode.TheVariants.{T01}
use Rattle.asl_syn.specs.declared.tree.Decl.{Decl}
use Rattle.asl_syn.specs.declared.tree.Ident.{Ident}
use Rattle.asl_rules.specs.Faults.{◌>>=◌, ◌>>◌, need}
use Rattle.asl_rules.specs.declarations.Names.{Declared, library, is_listed, may_share, declared_by}

abbrev pub Known : Type 0
Known = List (List ℕ × Bool)

-- whether the first declaration of this name is a subprogram's, where there is one
abbrev pub known : Known → List ℕ → Option Bool
known names name = lookup (bytes_eq name) names

-- with a name, where it isn't there
abbrev pub with_first : Option Bool → List ℕ → Bool → Known → Known
with_first (Some a) name b names = names
with_first None name b names = names ++ (name, b) ∷ []

abbrev pub with_name : List ℕ → Bool → Known → Known
with_name name b names = with_first (known names name) name b names

abbrev pub is_free : Known → List ℕ → Bool → Bool
is_free names name b = not (is_listed library name) && may_share (known names name) b

-- the names after one more, or T01 at it
abbrev pub after_name : Known → Ident → Bool → Result Known Fault
after_name names i b = need (is_free names i.text b) T01 i.span >> Ok (with_name i.text b names)

abbrev pub after_names : Known → List Declared → Result Known Fault
after_names names [] = Ok names
after_names names (d ∷ ds) = after_name names d.name d.is_subprogram >>= λ more. after_names more ds

abbrev pub after_decls : Known → List Decl → Result Known Fault
after_decls names [] = Ok names
after_decls names (d ∷ ds) = after_names names (declared_by d) >>= λ more. after_decls more ds
