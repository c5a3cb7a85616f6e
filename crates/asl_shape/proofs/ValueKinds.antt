-- The kinds of values and of parts, one behind another.
use Rattle.std.proofs.Common.{◌≡◌, ℕ, suc, ◌+◌, ◌<◌, ◌≤◌, ◌==◌, Bool, true, false, List, [], ◌∷◌, ◌++◌, length, get_or, drop, refl, sym, ap, ◌∙◌, arith}
use Rattle.std.specs.Prelude.{map, ◌&&◌}
use Rattle.asl_rules.specs.types.Types.{Ty, Kind, Kinds, no_kind, one_more, kind, kinds, kind_eq, kinds_eq}
use Rattle.asl_rules.specs.values.Values as rules
use Rattle.asl_types.specs.View.{parts_of}
use Rattle.asl_value.specs.declared.value.Kind as code
use Rattle.asl_value.specs.declared.value.Value.{Value}
use Rattle.asl_value.specs.View.{kind_of, kinds_of, all_kinds, value_of, all_values}
use Rattle.asl_value.proofs.Among.{at_front, none_after}

pub count_is : (xs : List Value) → length xs ≡ rules.count (all_values xs)
count_is [] = refl
count_is (x ∷ xs) = ap suc (count_is xs)

-- ---- kinds that are made in front of those left

abbrev pub in_front : List Kind → Kinds → Kinds
in_front [] ks = ks
in_front (k ∷ ls) ks = one_more k (in_front ls ks)

pub front_more : (made : List code.Kind) (k : code.Kind) (ks : Kinds) → in_front (map kind_of (made ++ k ∷ [])) ks ≡ in_front (map kind_of made) (one_more (kind_of k) ks)
front_more [] k ks = refl
front_more (l ∷ made) k ks = ap (one_more (kind_of l)) (front_more made k ks)

pub front_end : (ks : List Kind) → in_front ks no_kind ≡ kinds_of ks
front_end [] = refl
front_end (k ∷ ks) = ap (one_more k) (front_end ks)

pub kind_more : (xs : List Value) (i : ℕ) (x : Value) (made after : List code.Kind) (k : code.Kind) (all : Kinds) → i < length xs → x ≡ get_or xs i x → kind_of k ≡ rules.kind_of (value_of x) → after ≡ made ++ k ∷ []
    → all ≡ in_front (map kind_of made) (rules.kinds_of (all_values (drop i xs))) → all ≡ in_front (map kind_of after) (rules.kinds_of (all_values (drop (i + 1) xs)))
kind_more xs i x made after k all within here own grown before =
    before ∙ ap (λ l. in_front (map kind_of made) (rules.kinds_of (all_values l))) (at_front xs i x within here) ∙
    ap (λ l. in_front (map kind_of made) (one_more l (rules.kinds_of (all_values (drop (i + 1) xs))))) (sym own) ∙
    sym (front_more made k (rules.kinds_of (all_values (drop (i + 1) xs)))) ∙ ap (λ l. in_front (map kind_of l) (rules.kinds_of (all_values (drop (i + 1) xs)))) (sym grown)

pub kinds_end : (xs : List Value) (i : ℕ) (made : List code.Kind) (all : Kinds) → length xs ≤ i → all ≡ in_front (map kind_of made) (rules.kinds_of (all_values (drop i xs))) → all_kinds made ≡ all
kinds_end xs i made all past before = sym (before ∙ ap (λ l. in_front (map kind_of made) (rules.kinds_of (all_values l))) (none_after xs i past) ∙ front_end (map kind_of made))

-- ---- kinds against parts

pub kinds_fewer : (rest : List code.Kind) (Ts : List Ty) (i : ℕ) (T : Ty) (all : Bool) → i < length Ts → T ≡ get_or Ts i T → rest ≡ [] → all ≡ kinds_eq (all_kinds rest) (kinds (parts_of (drop i Ts))) → false ≡ all
kinds_fewer rest Ts i T all within here none before =
    sym (before ∙ ap (λ l. kinds_eq (all_kinds l) (kinds (parts_of (drop i Ts)))) none ∙ ap (λ l. kinds_eq no_kind (kinds (parts_of l))) (at_front Ts i T within here))

together : (rest more : List code.Kind) (k : code.Kind) (Ts : List Ty) (i : ℕ) (T : Ty) → i < length Ts → T ≡ get_or Ts i T → rest ≡ k ∷ more →
    kinds_eq (all_kinds rest) (kinds (parts_of (drop i Ts))) ≡ (kind_eq (kind_of k) (kind T) && kinds_eq (all_kinds more) (kinds (parts_of (drop (i + 1) Ts))))
together rest more k Ts i T within here is = ap (λ l. kinds_eq (all_kinds l) (kinds (parts_of (drop i Ts)))) is ∙ ap (λ l. kinds_eq (all_kinds (k ∷ more)) (kinds (parts_of l))) (at_front Ts i T within here)

pub kinds_here : (rest more : List code.Kind) (k : code.Kind) (Ts : List Ty) (i : ℕ) (T : Ty) (all : Bool) → i < length Ts → T ≡ get_or Ts i T → rest ≡ k ∷ more → kind_eq (kind_of k) (kind T) ≡ true
    → all ≡ kinds_eq (all_kinds rest) (kinds (parts_of (drop i Ts))) → all ≡ kinds_eq (all_kinds more) (kinds (parts_of (drop (i + 1) Ts)))
kinds_here rest more k Ts i T all within here is same before = before ∙ together rest more k Ts i T within here is ∙ ap (λ b. b && kinds_eq (all_kinds more) (kinds (parts_of (drop (i + 1) Ts)))) same

pub kinds_apart : (rest more : List code.Kind) (k : code.Kind) (Ts : List Ty) (i : ℕ) (T : Ty) (all : Bool) → i < length Ts → T ≡ get_or Ts i T → rest ≡ k ∷ more → kind_eq (kind_of k) (kind T) ≡ false
    → all ≡ kinds_eq (all_kinds rest) (kinds (parts_of (drop i Ts))) → false ≡ all
kinds_apart rest more k Ts i T all within here is other before = sym (before ∙ together rest more k Ts i T within here is ∙ ap (λ b. b && kinds_eq (all_kinds more) (kinds (parts_of (drop (i + 1) Ts)))) other)

some_more : (n : ℕ) → false ≡ (suc n == 0)
some_more n = grind arith

none_equal : (rest : List code.Kind) → (length rest == 0) ≡ kinds_eq (all_kinds rest) no_kind
none_equal [] = refl
none_equal (k ∷ rest) = sym (some_more (length rest))

pub kinds_left : (b : Bool) (rest : List code.Kind) (Ts : List Ty) (i : ℕ) (all : Bool) → length Ts ≤ i → b ≡ (length rest == 0) → all ≡ kinds_eq (all_kinds rest) (kinds (parts_of (drop i Ts))) → b ≡ all
kinds_left b rest Ts i all past is before = is ∙ none_equal rest ∙ sym (before ∙ ap (λ l. kinds_eq (all_kinds rest) (kinds (parts_of l))) (none_after Ts i past))
