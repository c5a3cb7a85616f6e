-- Bodies that are replaced, and the declarations that take their places.
use Rattle.std.specs.Prelude.{ℕ, ◌-◌, true, false, if◌then◌else◌, List, [], ◌∷◌, ◌++◌, Option, Some, None, length, map, replicate, slice_index_or, slice_set}
use Rattle.asl_syn.specs.declared.read.ReadDecl.{ReadDecl}
use Rattle.asl_syn.specs.declared.tree.Decl.{Decl}
use Rattle.asl_rules.specs.declarations.WrittenOut.{decl_written}
use Rattle.asl_accessors.specs.declared.holes.Hole.{Hole}
use Rattle.asl_accessors.specs.declared.matching.Part.{Part}
use Rattle.asl_accessors.specs.declared.matching.Part.TheVariants.{Stays, Replaced, AlsoReplaced, Replaces}

-- whether a declaration is one, where so many are written before it
abbrev pub holes_for : Part → ℕ → List Hole
holes_for Stays n = []
holes_for (Replaced p) n = record { from = n; by = p; is_last = true } ∷ []
holes_for (AlsoReplaced p) n = record { from = n; by = p; is_last = false } ∷ []
holes_for Replaces n = []

-- the declaration that takes its place, and the places without it, unless it is wanted again
abbrev pub other_of : Hole → List (Option ReadDecl) → Option ReadDecl
other_of h placed = slice_index_or placed h.by None

abbrev pub left_by : Hole → List (Option ReadDecl) → List (Option ReadDecl)
left_by h placed = if h.is_last then slice_set placed h.by None else placed

-- what is written of it, in the places that it takes
abbrev pub others_written : Option ReadDecl → List (Option Decl)
others_written None = []
others_written (Some d) = map (λ e. Some e) (decl_written d)

-- up to so many places in which none takes the place of another
abbrev pub filled : ℕ → List (Option Decl) → List (Option Decl)
filled n os = os ++ replicate (n - length os) None

-- what takes the places of these, behind what takes the places of those before them
abbrev pub others_from : List (Option Decl) → List Hole → List (Option ReadDecl) → List (Option Decl)
others_from os [] placed = os
others_from os (h ∷ hs) placed = others_from (filled h.from os ++ others_written (other_of h placed)) hs (left_by h placed)

-- what is written, with one that takes this place, if one does
abbrev pub with_other : List Decl → ℕ → Option Decl → List Decl
with_other ds n None = ds
with_other ds n (Some e) = slice_set ds n e
