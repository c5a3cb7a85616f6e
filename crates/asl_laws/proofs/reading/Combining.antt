-- What a grammar reads is as asked, where its parts are.
use Rattle.std.proofs.Common.{◌⊎◌, inl, inr, List, [], ◌∷◌, Option, Some, None}
use Rattle.asl_laws.proofs.basics.Lists.{AllOf}
use Rattle.asl_laws.proofs.reading.Inside.{in_opt, in_follows}
use Rattle.asl_laws.proofs.reading.Predicates.{in_pair, in_sum}

pub all_inside : {A : Type 0} {P S : A → Type 0} → ((x : A) → P x → S x) → (xs : List A) → AllOf P xs → AllOf S xs
all_inside k [] h = tt
all_inside k (x ∷ xs) h = (k x h.0, all_inside k xs h.1)

pub opt_inside : {A : Type 0} {P S : A → Type 0} → ((x : A) → P x → S x) → (o : Option A) → in_opt P o → in_opt S o
opt_inside k None h = tt
opt_inside k (Some x) h = k x h

-- where what was read says whether more follows
pub follows_inside : {A B C : Type 0} {Q : C → Type 0} (P : A ⊎ B → Type 0) (S : A → Type 0) (T : B → Type 0) (U : C → Type 0) → ((x : A ⊎ B) → P x → in_sum S T x) → ((y : C) → Q y → U y) → (v : A ⊎ (B × C)) → in_follows P Q v → in_sum S (in_pair T U) v
follows_inside P S T U k l (inl a) h = k (inl a) h
follows_inside P S T U k l (inr r) h = (k (inr r.0) h.0, l r.1 h.1)
