-- What holds of each member of a list.
use Rattle.std.proofs.Common.{List, [], ◌∷◌}

abbrev pub AllOf : {X : Type 0} → (X → Type 0) → List X → Type 0
AllOf P [] = Unit {0}
AllOf P (x ∷ xs) = P x × AllOf P xs
