-- What is known of a program that was checked.
use Rattle.std.specs.Prelude.{◌≡◌, ℕ, Bool, List, map, Option, Some, Ok, refl}
use Rattle.std.specs.List.{All}
use Rattle.std.specs.Option.{option_map}
use Rattle.std.specs.Coded.{Coded, code_by, coded×, coded_ℕ, coded_list, coded_option}
use Rattle.asl_syn.specs.declared.tree.Decl.{Decl}
use Rattle.asl_syn.specs.contracts.tree.Decl.{the_row}
use Rattle.asl_rules.specs.declared.entry.Entry.{Entry}
use Rattle.asl_rules.specs.contracts.entry.Entry as entry
use Rattle.asl_rules.specs.private.Grown.{AreGrown}
use Rattle.asl_rules.specs.Tests.{Tests}
use Rattle.asl_rules.specs.declarations.Scopes.{Signature, Storage, storage_of}
use Rattle.asl_rules.specs.declarations.Scopes as scopes
use Rattle.asl_rules.specs.declarations.Programs.{Entries, entries, verdict, accepted, environment}
use Rattle.asl_rules.specs.values.Values as values
use Rattle.asl_rules.specs.runs.States.{Binding}
use Rattle.asl_rules.specs.runs.Evaluation.{initial_globals}
use Rattle.asl_value.specs.View.{value_of}
use Rattle.asl_types.specs.Suits.{Suits}
use Rattle.asl_tree.specs.Funcs.{all_funcs}
use Rattle.asl_tree.specs.declared.act.TreeFunc.{TreeFunc}
use Rattle.asl_tree.specs.declared.checked.Global.{Global}
use Rattle.asl_tree.specs.declared.checked.Parts.{Parts}

-- the declarations, the entries that were asked for, and the numbers of the subprograms that they are, where they were asked for
pub record Sealed : Type 0 where
  pub decls : List Decl
  pub asked : Entry
  pub entries : Entries

abbrev pub entries_code : Coded Entries
entries_code = code_by (Option ℕ × Option ℕ) (coded× (coded_option coded_ℕ) (coded_option coded_ℕ)) (λ n. (n.main, n.entry16)) (λ p. entries p.0 p.1) (λ _. refl)

abbrev pub sealed_code : Coded Sealed
sealed_code = code_by (List Decl × (Entry × Entries)) (coded× (coded_list the_row.coded) (coded× entry.the_row.coded entries_code))
    (λ s. (s.decls, (s.asked, s.entries))) (λ p. record { decls = p.0; asked = p.1.0; entries = p.1.1 }) (λ _. refl)

abbrev pub entries_of : Parts → Entries
entries_of p = entries p.entry p.entry16

-- what parts are sealed to
abbrev pub sealed_of : Parts → Sealed
sealed_of p = record { decls = p.program.decls; asked = p.asked; entries = entries_of p }

-- global storage: its name, its value, and whether it can be assigned
pub record Cell : Type 0 where
  pub name : List ℕ
  pub value : values.Value
  pub is_mutable : Bool

abbrev pub cell_in : Binding → Cell
cell_in b = record { name = b.name; value = b.value; is_mutable = b.is_mutable }

abbrev pub cells_in : List Binding → List Cell
cells_in bs = map cell_in bs

abbrev pub cell_of : Global → Cell
cell_of g = record { name = g.name; value = value_of g.value; is_mutable = g.is_mutable }

abbrev pub cells_of : List Global → List Cell
cells_of gs = map cell_of gs

-- a global has the type that its name has outside bodies
abbrev pub HasItsType : List scopes.Entry → Global → Type 0
HasItsType names g = option_map (λ (s : Storage). s.ty) (storage_of g.name names) ≡ Some g.ty

-- the declarations are such as texts give, and well formed with these entries, the trees are those of their subprograms, and the globals are those that a run
-- begins with, each in source order and with its type
pub record IsMade (t : Tests) (ds : List Decl) (asked : Entry) (found : Entries) (funcs : List TreeFunc) (globals : List Global) : Type 0 where
  pub signatures : List Signature
  pub names : List scopes.Entry
  pub grown : AreGrown ds
  pub accepts : verdict asked ds t ≡ Ok (accepted asked found signatures (all_funcs funcs) names)
  pub begins : cells_of globals ≡ cells_in (initial_globals (environment t ds))
  pub typed : All (HasItsType names) globals

-- by right tests
abbrev pub IsSealed : List Decl → Entry → Entries → List TreeFunc → List Global → Type 0
IsSealed ds asked found funcs globals = (t : Tests) → Suits t → ∥ IsMade t ds asked found funcs globals ∥₁
