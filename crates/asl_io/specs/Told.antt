-- Bytes that a device may tell or not tell. Here told bytes are `Some`, and what is told stays told.
use Rattle.std.specs.Prelude.{◌≡◌, ℕ, List, length, ◌++◌, Option, option_map}

-- the bytes begin with these, and lose them
abbrev pub Gives : Option (List ℕ) → Option (List ℕ) → List ℕ → Type 0
Gives old new bytes = old ≡ option_map (λ rest. bytes ++ rest) new

-- the bytes lose this many at their front
abbrev pub GivesMany : Option (List ℕ) → Option (List ℕ) → ℕ → Type 0
GivesMany old new n = (bytes : List ℕ) × (length bytes ≡ n) × Gives old new bytes

-- these are appended to the bytes
abbrev pub Takes : Option (List ℕ) → Option (List ℕ) → List ℕ → Type 0
Takes old new bytes = new ≡ option_map (λ before. before ++ bytes) old

-- a prefix of these is appended to the bytes
abbrev pub TakesPrefix : Option (List ℕ) → Option (List ℕ) → List ℕ → Type 0
TakesPrefix old new bytes = (taken : List ℕ) × (rest : List ℕ) × (bytes ≡ taken ++ rest) × Takes old new taken
