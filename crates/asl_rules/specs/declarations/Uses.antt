-- The names that declarations use, and declarations that reach themselves through them.
use Rattle.std.specs.Prelude.{ℕ, zero, suc, Bool, false, ◌&&◌, ◌||◌, not, List, [], ◌∷◌, length, map, Result, Ok}
use Rattle.std.specs.Str.{bytes_eq}
use Rattle.asl_syn.specs.declared.code.Fault.{Fault}
use Rattle.asl_syn.specs.declared.code.StaticCode.TheVariants.{T03}
use Rattle.asl_syn.specs.declared.tree.Decl.{Decl}
use Rattle.asl_syn.specs.declared.tree.Decl.TheVariants as dc
use Rattle.asl_rules.specs.Faults.{◌>>◌, need}
use Rattle.asl_rules.specs.declarations.Names.{Declared, declared_by}
use Rattle.asl_rules.specs.declarations.UsedNames.{name_of, decl_uses}

abbrev pub Used : Type 0
Used = List (List ℕ)

-- the names that a declaration uses
abbrev pub uses : Decl → Used
uses d = map name_of (decl_uses d)

abbrev pub is_declared : List ℕ → List Declared → Bool
is_declared name [] = false
is_declared name (d ∷ ds) = (bytes_eq d.name.text name && not d.is_subprogram) || is_declared name ds

-- a type or storage, or a label, of this name
abbrev pub declares : Decl → List ℕ → Bool
declares d name = is_declared name (declared_by d)

abbrev pub any_declared : Decl → Used → Bool
any_declared d [] = false
any_declared d (u ∷ us) = declares d u || any_declared d us

-- the first declaration uses a name of the second
abbrev pub uses_one_of : Decl → Decl → Bool
uses_one_of d e = any_declared e (uses d)

-- one of these that the first uses leads on
abbrev pub leads_by : (Decl → Bool) → Decl → List Decl → Bool
leads_by on d [] = false
leads_by on d (m ∷ ms) = (uses_one_of d m && on m) || leads_by on d ms

-- the first declaration reaches the second through the names that are used, by so many declarations between them at most
abbrev pub leads_to : ℕ → List Decl → Decl → Decl → Bool
leads_to zero ds d e = uses_one_of d e
leads_to (suc n) ds d e = uses_one_of d e || leads_by (λ m. leads_to n ds m e) d ds

abbrev pub reaches_itself : List Decl → Decl → Bool
reaches_itself ds d = leads_to (length ds) ds d d

-- T03 at the first name of a type or of storage that reaches itself
abbrev pub cycles_rule : List Decl → List Decl → Result (Unit {0}) Fault
cycles_rule all [] = Ok tt
cycles_rule all (dc.Type d ∷ ds) = need (not (reaches_itself all (dc.Type d))) T03 d.name.span >> cycles_rule all ds
cycles_rule all (dc.Storage d ∷ ds) = need (not (reaches_itself all (dc.Storage d))) T03 d.name.span >> cycles_rule all ds
cycles_rule all (dc.Func f ∷ ds) = cycles_rule all ds
