-- The loops over parts, and how many parts they give.
use Rattle.std.proofs.Common.{◌≡◌, ℕ, ◌+◌, ◌*◌, ◌<◌, ◌≤◌, suc, List, [], ◌∷◌, ◌++◌, length, true, false, refl, sym, ◌∙◌, ap, arith, length-append}
use Rattle.std.specs.Prelude.{Option, Some, None, nat_le}
use Rattle.std.proofs.lemmas.Bool.Decides.{nat_tests}
use Rattle.asl_cons.specs.declared.Part.{Part}
use Rattle.asl_cons.specs.Arithmetic.{with_part, joined_parts, with_each, all_pairs, each_part, limited}
use Rattle.asl_cons.specs.Operator.{onto}

pub onto_nothing : (made : List Part) → onto made (Some []) ≡ Some made
onto_nothing [] = refl
onto_nothing (p ∷ made) = let i : onto made (Some []) ≡ Some made = onto_nothing made in let e : made ++ [] ≡ made = cc in ap (λ us. Some (p ∷ us)) e

-- ---- how many parts

joined_length : (w o : Option (List Part)) (m n : ℕ) → ((ws : List Part) → w ≡ Some ws → length ws ≡ m) → ((ps : List Part) → o ≡ Some ps → length ps ≡ n) → (us : List Part) → joined_parts w o ≡ Some us → length us ≡ m + n
joined_length None o m n f g us e = cc
joined_length (Some ws) None m n f g us e = cc
joined_length (Some ws) (Some ps) m n f g us e =
    let k : ws ++ ps ≡ us = cc in
    let a : length ws ≡ m = f ws refl in
    let b : length ps ≡ n = g ps refl in
    ap length (sym k) ∙ length-append ws ps ∙ omega arith

part_length : (r : Option Part) (o : Option (List Part)) (n : ℕ) → ((ps : List Part) → o ≡ Some ps → length ps ≡ n) → (us : List Part) → with_part r o ≡ Some us → length us ≡ suc n
part_length None o n g us e = cc
part_length (Some r) None n g us e = cc
part_length (Some r) (Some ps) n g us e = let k : r ∷ ps ≡ us = cc in let b : length ps ≡ n = g ps refl in ap length (sym k) ∙ ap suc b

each_length : (op : Part → Part → Option Part) (p : Part) (qs us : List Part) → with_each op p qs ≡ Some us → length us ≡ length qs
each_length op p [] us e = let k : [] ≡ us = cc in ap length (sym k)
each_length op p (q ∷ qs) us e = part_length (op p q) (with_each op p qs) (length qs) (each_length op p qs) us e

pub one_length : (op : Part → Option Part) (qs us : List Part) → each_part op qs ≡ Some us → length us ≡ length qs
one_length op [] us e = let k : [] ≡ us = cc in ap length (sym k)
one_length op (q ∷ qs) us e = part_length (op q) (each_part op qs) (length qs) (one_length op qs) us e

pub pairs_length : (op : Part → Part → Option Part) (ps qs us : List Part) → all_pairs op ps qs ≡ Some us → length us ≡ length ps * length qs
pairs_length op [] qs us e = let k : [] ≡ us = cc in ap length (sym k) ∙ omega arith
pairs_length op (p ∷ ps) qs us e =
    joined_length (with_each op p qs) (all_pairs op ps qs) (length qs) (length ps * length qs) (each_length op p qs) (pairs_length op ps qs) us e ∙ omega arith

le_64 : (n : ℕ) → n ≤ 64 → nat_le n 64 ≡ true
le_64 n h = grind (arith, nat_tests)

over_64 : (n : ℕ) → 64 < n → nat_le n 64 ≡ false
over_64 n h = grind (arith, nat_tests)

pub limited_all : (o : Option (List Part)) (us : List Part) → o ≡ Some us → length us ≤ 64 → us ≡ limited o
limited_all o us e l = rw (e, le_64 (length us) l) refl

pub limited_many : (o : Option (List Part)) → ((us : List Part) → o ≡ Some us → 64 < length us) → [] ≡ limited o
limited_many None f = refl
limited_many (Some us) f = rw (over_64 (length us) (f us refl)) refl
