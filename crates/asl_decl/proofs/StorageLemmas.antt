-- The numbers of global storage, found one by one, are all of them.
use Rattle.std.proofs.Common.{◌≡◌, ℕ, suc, List, [], ◌∷◌, ◌++◌, refl, sym, ◌∙◌, append_assoc}
use Rattle.std.proofs.lemmas.List.{append-nil}
use Rattle.asl_syn.specs.declared.tree.Decl.{Decl}
use Rattle.asl_syn.specs.declared.tree.Decl.TheVariants as dc
use Rattle.asl_decl.specs.Globals.{storage_from, storage_numbers}
use Rattle.asl_decl.specs.private.StorageOrder.{storage_after}

storage_behind : (ds : List Decl) (before : List ℕ) (n : ℕ) → storage_after before n ds ≡ before ++ storage_from n ds
storage_behind [] before n = sym (append-nil before)
storage_behind (dc.Type d ∷ ds) before n = storage_behind ds before (suc n)
storage_behind (dc.Storage d ∷ ds) before n = storage_behind ds (before ++ n ∷ []) (suc n) ∙ append_assoc before (n ∷ []) (storage_from (suc n) ds)
storage_behind (dc.Func f ∷ ds) before n = storage_behind ds before (suc n)

pub storage_all : (ids : List ℕ) (ds : List Decl) → ids ≡ storage_after [] 0 ds → ids ≡ storage_numbers ds
storage_all ids ds h = h ∙ storage_behind ds [] 0
