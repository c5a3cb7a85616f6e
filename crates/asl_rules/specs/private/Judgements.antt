-- Declarations with what came of each of them.
use Rattle.std.specs.Prelude.{◌≡◌, ◌⊎◌, List, [], ◌∷◌}
use Rattle.asl_syn.specs.declared.tree.Decl.{Decl}
use Rattle.asl_rules.specs.declarations.Turns.{Judged, SoFar}

-- it holds of each declaration with what came of it, and something came of each
abbrev pub EachJudged : (Decl → Judged → Type 0) → List Decl → SoFar → Type 0
EachJudged P [] [] = Unit {0}
EachJudged P [] (j ∷ js) = ⊥
EachJudged P (d ∷ ds) [] = ⊥
EachJudged P (d ∷ ds) (j ∷ js) = P d j × EachJudged P ds js

-- this came of this declaration
abbrev pub CameOf : Decl → Judged → List Decl → SoFar → Type 0
CameOf d j [] js = ⊥
CameOf d j (e ∷ ds) [] = ⊥
CameOf d j (e ∷ ds) (k ∷ js) = ((e ≡ d) × (k ≡ j)) ⊎ CameOf d j ds js
