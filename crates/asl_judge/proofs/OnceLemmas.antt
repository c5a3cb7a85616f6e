-- Fields that stand once, by the first places of their names.
use Rattle.std.proofs.Common.{◌≡◌, ℕ, suc, ◌+◌, Bool, true, false, ◌&&◌, not, List, [], ◌∷◌, ◌++◌, length, Option, Some, None, refl, sym, ap, ◌∙◌, arith}
use Rattle.std.specs.Prelude.{option_map, if◌then◌else◌}
use Rattle.std.specs.Str.{bytes_eq}
use Rattle.asl_syn.specs.declared.tree.Formal.{Formal}
use Rattle.asl_rules.specs.declarations.Declarations.{once}
use Rattle.asl_rules.specs.values.Members.{has_name}
use Rattle.asl_rules.specs.declarations.Scopes.{is_absent}
use Rattle.asl_names.specs.private.Firsts.{Places, first_place, kept, placed}
use Rattle.asl_rules.specs.declarations.Layouts.{place_of}
use Rattle.asl_names.proofs.FirstLemmas.{place_is}
use Rattle.asl_judge.specs.private.Definitions.{once_beside}

absent_by : (b c : Bool) (o : Option ℕ) → not c ≡ is_absent o → not (if b then true else c) ≡ is_absent (if b then Some 0 else option_map suc o)
absent_by true c o h = refl
absent_by false c None h = h
absent_by false c (Some i) h = h

absent_place : (n : List ℕ) (ns : List (List ℕ)) → not (has_name n ns) ≡ is_absent (place_of n ns)
absent_place n [] = refl
absent_place n (m ∷ ms) = absent_by (bytes_eq m n) (has_name n ms) (place_of n ms) (absent_place n ms)

absent_is : (n : List ℕ) (ns : List (List ℕ)) → not (has_name n ns) ≡ is_absent (first_place n (placed ns 0 []))
absent_is n ns = absent_place n ns ∙ ap is_absent (sym (place_is n ns))

zero_add : (i : ℕ) → i ≡ 0 + i
zero_add i = omega arith

placed_one : (ns : List (List ℕ)) (m : List ℕ) (i : ℕ) (ps : Places) → placed (ns ++ m ∷ []) i ps ≡ kept m (length ns + i) (placed ns i ps)
placed_one [] m i ps = ap (λ k. kept m k ps) (zero_add i)
placed_one (n ∷ ns) m i ps = placed_one ns m (suc i) (kept n i ps) ∙ ap (λ k. kept m k (placed ns (suc i) (kept n i ps))) (omega arith)

length_one : (ns : List (List ℕ)) (m : List ℕ) → length (ns ++ m ∷ []) ≡ suc (length ns)
length_one [] m = refl
length_one (n ∷ ns) m = ap suc (length_one ns m)

placed_next : (ns : List (List ℕ)) (m : List ℕ) → placed (ns ++ m ∷ []) 0 [] ≡ kept m (length ns) (placed ns 0 [])
placed_next ns m = placed_one ns m 0 [] ∙ ap (λ k. kept m k (placed ns 0 [])) (omega arith)

once_beside_is : (fs : List Formal) (ns : List (List ℕ)) → once fs ns ≡ once_beside fs (length ns) (placed ns 0 [])
once_beside_is [] ns = refl
once_beside_is (f ∷ fs) ns =
    ap (λ b. b && once fs (ns ++ f.name.text ∷ [])) (absent_is f.name.text ns)
    ∙ ap (λ b. is_absent (first_place f.name.text (placed ns 0 [])) && b)
    (once_beside_is fs (ns ++ f.name.text ∷ [])
    ∙ ap (λ k. once_beside fs k (placed (ns ++ f.name.text ∷ []) 0 [])) (length_one ns f.name.text)
    ∙ ap (once_beside fs (suc (length ns))) (placed_next ns f.name.text))

-- each stands once, where it does by the places
pub once_is : (fs : List Formal) (b : Bool) → b ≡ once_beside fs 0 [] → b ≡ once fs []
once_is fs b h = h ∙ sym (once_beside_is fs [])
