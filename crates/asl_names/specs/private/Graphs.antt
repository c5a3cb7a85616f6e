-- Declarations by their places, and which of them use which.
use Rattle.std.specs.Prelude.{ℕ, ◌+◌, List, [], ◌∷◌, ◌++◌, map, Option, None, Some}
use Rattle.asl_syn.specs.declared.tree.Decl.{Decl}
use Rattle.asl_syn.specs.declared.tree.Decl.TheVariants as dc
use Rattle.asl_syn.specs.declared.tree.Ident.{Ident}
use Rattle.asl_rules.specs.declarations.Names.{labels_of}
use Rattle.asl_rules.specs.declarations.Uses.{Used, uses}
use Rattle.asl_names.specs.private.Firsts.{Places, first_place, kept}

-- with these names, each with its place, where they aren't there
abbrev pub all_kept : Places → Places → Places
all_kept [] table = table
all_kept (p ∷ ps) table = all_kept ps (kept p.0 p.1 table)

-- the names of a type, with its labels, or of storage
abbrev pub plain_names : Decl → List Ident
plain_names (dc.Type d) = d.name ∷ labels_of d.def
plain_names (dc.Storage d) = d.name ∷ []
plain_names (dc.Func f) = []

abbrev pub named_at : ℕ → List Ident → Places
named_at place [] = []
named_at place (i ∷ is) = (i.text, place) ∷ named_at place is

-- the names of these declarations, of which the first has this place
abbrev pub all_places : ℕ → List Decl → Places
all_places place [] = []
all_places place (d ∷ ds) = named_at place (plain_names d) ++ all_places (place + 1) ds

-- where each name is declared
abbrev pub declarers : List Decl → Places
declarers ds = all_kept (all_places 0 ds) []

abbrev pub with_used : Option ℕ → List ℕ → List ℕ
with_used None places = places
with_used (Some n) places = places ++ n ∷ []

-- and then the places of these names
abbrev pub added : Places → Used → List ℕ → List ℕ
added table [] places = places
added table (u ∷ us) places = added table us (with_used (first_place u table) places)

-- of each declaration the places of those that it uses
abbrev pub graph_by : Places → List Decl → List (List ℕ)
graph_by table ds = map (λ d. added table (uses d) []) ds

abbrev pub graph_of : List Decl → List (List ℕ)
graph_of ds = graph_by (declarers ds) ds
