-- The text that a run over words wrote, as a part of the text of its own.
use Rattle.std.proofs.Common.{◌≡◌, ◌∙◌, ℕ, List, [], ◌∷◌, ◌++◌, Option, Some, None, refl, sym, ap}
use Rattle.asl_rules.specs.runs.Told.{appended, Begins, Part}
use Rattle.asl_rules.proofs.basics.Pieces.{appended_twice}

same_behind : (xs ys zs : List ℕ) → xs ++ ys ≡ xs ++ zs → ys ≡ zs
same_behind [] ys zs e = e
same_behind (x ∷ xs) ys zs e = same_behind xs ys zs (cc)

-- what was written behind the old text is a part of the text of its own
pub part_of : (old new all : Option (List ℕ)) (own : List ℕ) → Begins old new → Begins new all → all ≡ appended old own → Part old new own
part_of None new all own b w e = record { taken = []; rest = own; is = b.is; whole = refl }
part_of (Some old) new all own b w e =
    let both : Some (old ++ (b.rest ++ w.rest)) ≡ Some (old ++ own) = sym (appended_twice (Some old) b.rest w.rest) ∙ ap (λ t. appended t w.rest) (sym b.is) ∙ sym w.is ∙ e in
    record { taken = b.rest; rest = w.rest; is = b.is; whole = same_behind old own (b.rest ++ w.rest) (cc) }
