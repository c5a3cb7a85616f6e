-- Names that are settled: what a well-formed declaration brings takes the places of its stand-ins.
use Rattle.std.specs.Prelude.{◌≡◌, Bool, true, List, [], ◌∷◌, Option, Some}
use Rattle.asl_syn.specs.declared.tree.Decl.{Decl}
use Rattle.asl_rules.specs.declarations.Scopes.{Entry, Standing, Stored, Subprogram, TypeName, Label, standing_of, is_subprogram}
use Rattle.asl_rules.specs.declarations.Scopes.{with_entries}
use Rattle.asl_rules.specs.declarations.Turns.{Judged, Waiting, Fine, Faulty, reserved}
use Rattle.asl_types.specs.private.Standings.{is_outside, settled}

-- what stands in for this: storage outside bodies for storage, a subprogram for all else
abbrev pub has_stand_in : Standing → Option Standing → Bool
has_stand_in (Stored s) o = is_outside o
has_stand_in Subprogram o = is_subprogram o
has_stand_in (TypeName T) o = is_subprogram o
has_stand_in (Label T x) o = is_subprogram o

-- the first of these entries stand in for the second, each for that of its name
abbrev pub StandFor : List Entry → List Entry → Type 0
StandFor [] [] = Unit {0}
StandFor [] (e ∷ es) = ⊥
StandFor (r ∷ rs) [] = ⊥
StandFor (r ∷ rs) (e ∷ es) = (e.name ≡ r.name) × (has_stand_in e.standing (Some r.standing) ≡ true) × StandFor rs es

-- the names in which these entries are settled in turn
abbrev pub all_settled : List Entry → List Entry → List Entry
all_settled [] names = names
all_settled (e ∷ es) names = all_settled es (settled e.name e.standing names)

-- each of these entries has a stand-in among the names where it is settled
abbrev pub HaveStandIns : List Entry → List Entry → Type 0
HaveStandIns [] names = Unit {0}
HaveStandIns (e ∷ es) names =
    (has_stand_in e.standing (standing_of e.name names) ≡ true) × HaveStandIns es (settled e.name e.standing names)

-- ---- declarations

-- what a declaration brings
abbrev pub brings : Judged → List Entry
brings Waiting = []
brings (Fine es) = es
brings (Faulty f) = []

-- it was judged, and what it brings takes the places of these stand-ins
abbrev pub CameBy : List Entry → Judged → Type 0
CameBy rs Waiting = ⊥
CameBy rs (Fine es) = StandFor rs es
CameBy rs (Faulty f) = Unit {0}

-- the names with the stand-ins of these declarations, each where it is free
abbrev pub all_reserved : List Decl → List Entry → List Entry
all_reserved [] names = names
all_reserved (d ∷ ds) names = all_reserved ds (with_entries (reserved d) names)
