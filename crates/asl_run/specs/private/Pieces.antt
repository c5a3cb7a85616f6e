-- The pieces of a string's text.
use Rattle.std.specs.Prelude.{ℕ, ◌==◌, if◌then◌else◌, List, [], ◌∷◌}
use Rattle.asl_rules.specs.values.Strings.{escaped}

-- what is written of a piece, which is an escape or has none
abbrev pub piece_text : List ℕ → List ℕ
piece_text [] = []
piece_text (a ∷ []) = a ∷ []
piece_text (a ∷ b ∷ s) = if a == 92 then escaped b ∷ [] else a ∷ b ∷ s
