-- The numbers of global storage, as a walk over the declarations finds them.
use Rattle.std.specs.Prelude.{ℕ, suc, List, [], ◌∷◌, ◌++◌}
use Rattle.asl_syn.specs.declared.tree.Decl.{Decl}
use Rattle.asl_syn.specs.declared.tree.Decl.TheVariants as dc

-- those among declarations of which the first has this number, behind those before
abbrev pub storage_after : List ℕ → ℕ → List Decl → List ℕ
storage_after before n [] = before
storage_after before n (dc.Type d ∷ ds) = storage_after before (suc n) ds
storage_after before n (dc.Storage d ∷ ds) = storage_after (before ++ n ∷ []) (suc n) ds
storage_after before n (dc.Func f ∷ ds) = storage_after before (suc n) ds
