-- Which declarations are global storage, by their numbers in source order, from 0.
use Rattle.std.specs.Prelude.{ℕ, suc, List, [], ◌∷◌}
use Rattle.asl_syn.specs.declared.tree.Decl.{Decl}
use Rattle.asl_syn.specs.declared.tree.Decl.TheVariants as dc

-- the constants, `let`s and `var`s among declarations of which the first has this number
abbrev pub storage_from : ℕ → List Decl → List ℕ
storage_from n [] = []
storage_from n (dc.Type d ∷ ds) = storage_from (suc n) ds
storage_from n (dc.Storage d ∷ ds) = n ∷ storage_from (suc n) ds
storage_from n (dc.Func f ∷ ds) = storage_from (suc n) ds

abbrev pub storage_numbers : List Decl → List ℕ
storage_numbers ds = storage_from 0 ds
