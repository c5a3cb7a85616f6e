-- Declarations, or those that take their places, over lists that grow and lists that are taken apart.
use Rattle.std.proofs.Common.{◌≡◌, ◌↔◌, Bool, true, false, true≢false, not, ℕ, zero, suc, ◌+◌, ◌-◌, ◌<◌, ◌≤◌, List, [], ◌∷◌, ◌++◌, length, map, replicate, set, Option, Some, None, refl, sym, ap, ◌∙◌, append_assoc, append-nil, length-append, arith}
use Rattle.std.specs.Prelude.{IsTrue}
use Rattle.std.proofs.lemmas.List.{length_push, length-replicate}
use Rattle.asl_syn.specs.declared.read.ReadDecl.{ReadDecl}
use Rattle.asl_syn.specs.declared.tree.Decl.{Decl}
use Rattle.asl_accessors.specs.Judged.{or_default, or_defaults}
use Rattle.asl_accessors.specs.declared.holes.Hole.{Hole}
use Rattle.asl_accessors.specs.private.Holes.{filled, others_from, with_other}

pub none_in_place : (ds : List Decl) → or_defaults ds [] ≡ ds
none_in_place [] = refl
none_in_place (d ∷ ds) = refl

-- where no body is replaced
pub none_without_holes : (ds : List Decl) (hs : List Hole) (placed : List (Option ReadDecl)) (b : Bool) → IsTrue b ↔ (hs ≡ []) → not b ≡ false →
    or_defaults ds (others_from [] hs placed) ≡ ds
none_without_holes ds hs placed true t h = ap (λ (hs : List Hole). or_defaults ds (others_from [] hs placed)) (t.0 refl) ∙ none_in_place ds
none_without_holes ds hs placed false t h = absurd (true≢false h)

all_in_place : (ds es : List Decl) → length es ≡ length ds → or_defaults ds (map (λ e. Some e) es) ≡ es
all_in_place [] [] h = refl
all_in_place [] (e ∷ es) h = absurd (omega (arith, h))
all_in_place (d ∷ ds) [] h = absurd (omega (arith, h))
all_in_place (d ∷ ds) (e ∷ es) h = ap (λ xs. e ∷ xs) (all_in_place ds es (omega (arith, h)))

over_joined : (ds es : List Decl) (os ps : List (Option Decl)) → length os ≡ length ds → or_defaults (ds ++ es) (os ++ ps) ≡ or_defaults ds os ++ or_defaults es ps
over_joined [] es [] ps h = refl
over_joined [] es (o ∷ os) ps h = absurd (omega (arith, h))
over_joined (d ∷ ds) es [] ps h = absurd (omega (arith, h))
over_joined (d ∷ ds) es (o ∷ os) ps h = ap (λ xs. or_default d o ∷ xs) (over_joined ds es os ps (omega (arith, h)))

filled_up : (ds : List Decl) (os : List (Option Decl)) (n : ℕ) → or_defaults ds (os ++ replicate n None) ≡ or_defaults ds os
filled_up [] os n = refl
filled_up (d ∷ ds) [] zero = refl
filled_up (d ∷ ds) [] (suc n) = ap (λ xs. d ∷ xs) (filled_up ds [] n ∙ none_in_place ds)
filled_up (d ∷ ds) (o ∷ os) n = ap (λ xs. or_default d o ∷ xs) (filled_up ds os n)

pub length_filled : (n : ℕ) (os : List (Option Decl)) → length os ≤ n → length (filled n os) ≡ n
length_filled n os h = omega (arith, length-append os (replicate {A = Option Decl} (n - length os) None), length-replicate {A = Option Decl} (n - length os) None)

-- one place more is filled
pub filled_more : (os : List (Option Decl)) (n : ℕ) → length os < n → filled n (os ++ None ∷ []) ≡ filled n os
filled_more os n h =
    let size : length (os ++ None ∷ []) ≡ length os + 1 = length_push os None in
    let more : n - length os ≡ suc (n - length (os ++ None ∷ [])) = omega (arith, h, size) in
    append_assoc os (None ∷ []) (replicate (n - length (os ++ None ∷ [])) None) ∙ ap (λ (m : ℕ). os ++ replicate m None) (sym more)

-- and none is where there are as many
pub filled_all : (os : List (Option Decl)) (n : ℕ) → n ≤ length os → filled n os ≡ os
filled_all os n h =
    let none : n - length os ≡ 0 = omega (arith, h) in
    ap (λ (m : ℕ). os ++ replicate m None) none ∙ append-nil os

-- a declaration that stays, behind the others
pub grown : (ds es : List Decl) (os : List (Option Decl)) → length os ≤ length ds → or_defaults (ds ++ es) os ≡ or_defaults ds os ++ es
grown [] es [] h = none_in_place es
grown [] es (o ∷ os) h = absurd (omega (arith, h))
grown (d ∷ ds) es [] h = refl
grown (d ∷ ds) es (o ∷ os) h = ap (λ xs. or_default d o ∷ xs) (grown ds es os (omega (arith, h)))

-- and one of which another takes the place
pub grown_by_other : (ds es fs : List Decl) (os : List (Option Decl)) → length os ≤ length ds → length fs ≡ length es →
    or_defaults (ds ++ es) (filled (length ds) os ++ map (λ e. Some e) fs) ≡ or_defaults ds os ++ fs
grown_by_other ds es fs os h k =
    over_joined ds es (filled (length ds) os) (map (λ e. Some e) fs) (length_filled (length ds) os h)
    ∙ ap (λ xs. xs ++ or_defaults es (map (λ e. Some e) fs)) (filled_up ds os (length ds - length os))
    ∙ ap (λ xs. or_defaults ds os ++ xs) (all_in_place es fs k)

last_in_place : (ds : List Decl) (os : List (Option Decl)) (e : Decl) → or_defaults ds (os ++ Some e ∷ []) ≡ or_defaults (set ds (length os) e) os
last_in_place [] os e = refl
last_in_place (d ∷ ds) [] e = ap (λ xs. e ∷ xs) (none_in_place ds)
last_in_place (d ∷ ds) (o ∷ os) e = ap (λ xs. or_default d o ∷ xs) (last_in_place ds os e)

-- the last of them put in its place
pub last_put : (ds : List Decl) (os : List (Option Decl)) (o : Option Decl) → or_defaults ds (os ++ o ∷ []) ≡ or_defaults (with_other ds (length os) o) os
last_put ds os None = filled_up ds os 1
last_put ds os (Some e) = last_in_place ds os e
