-- The names that a program declares outside its bodies, and those of the library.
use Rattle.std.specs.Prelude.{ℕ, Bool, true, false, ◌&&◌, not, if◌then◌else◌, List, [], ◌∷◌, ◌++◌, map, Option, Some, None, Result, Ok}
use Rattle.std.specs.Str.{bytes_eq}
use Rattle.asl_syn.specs.declared.code.Fault.{Fault}
use Rattle.asl_syn.specs.declared.code.StaticCode.TheVariants.{T01}
use Rattle.asl_syn.specs.declared.tree.Ident.{Ident}
use Rattle.asl_syn.specs.declared.tree.Decl.{Decl}
use Rattle.asl_syn.specs.declared.tree.Decl.TheVariants as dc
use Rattle.asl_syn.specs.declared.tree.TypeDef.{TypeDef}
use Rattle.asl_syn.specs.declared.tree.TypeDef.TheVariants as td
use Rattle.asl_rules.specs.declarations.Routines.{table, names_in}
use Rattle.asl_rules.specs.Faults.{◌>>◌, need}

-- the subprograms of the library, whose names can't be declared again
abbrev pub library : List (List ℕ)
library = names_in table

abbrev pub is_listed : List (List ℕ) → List ℕ → Bool
is_listed [] name = false
is_listed (n ∷ ns) name = if bytes_eq n name then true else is_listed ns name

-- a declared name, and whether it is a subprogram's
pub record Declared : Type 0 where
  pub name : Ident
  pub is_subprogram : Bool

abbrev pub declared_as : Bool → Ident → Declared
declared_as b i = record { name = i; is_subprogram = b }

abbrev pub labels_of : TypeDef → List Ident
labels_of (td.Alias t) = []
labels_of (td.Labels span is) = is
labels_of (td.Record span fields) = []
labels_of (td.Exception span fields) = []

-- the names that a declaration declares, in source order
abbrev pub declared_by : Decl → List Declared
declared_by (dc.Type d) = declared_as false d.name ∷ map (declared_as false) (labels_of d.def)
declared_by (dc.Storage d) = declared_as false d.name ∷ []
declared_by (dc.Func f) = declared_as true f.name ∷ []

-- whether the first declaration of this name is a subprogram's, where there is one
abbrev pub standing : List Declared → List ℕ → Option Bool
standing [] name = None
standing (d ∷ ds) name = if bytes_eq d.name.text name then Some d.is_subprogram else standing ds name

-- only subprograms may share a name
abbrev pub may_share : Option Bool → Bool → Bool
may_share None b = true
may_share (Some a) b = a && b

abbrev pub is_new : List Declared → Declared → Bool
is_new before d = not (is_listed library d.name.text) && may_share (standing before d.name.text) d.is_subprogram

-- T01 at the first name that is taken by one before it or by the library
abbrev pub names_rule : List Declared → List Declared → Result (Unit {0}) Fault
names_rule before [] = Ok tt
names_rule before (d ∷ ds) = need (is_new before d) T01 d.name.span >> names_rule (before ++ d ∷ []) ds

abbrev pub all_declared : List Decl → List Declared
all_declared [] = []
all_declared (d ∷ ds) = declared_by d ++ all_declared ds
