-- Names among those of trees.
use Rattle.std.proofs.Common.{◌≡◌, ℕ, zero, suc, ◌+◌, ◌<◌, ◌≤◌, Bool, true, false, List, [], ◌∷◌, ◌++◌, length, get_or, drop, refl, sym, ap, ◌∙◌, arith}
use Rattle.std.proofs.Math.Bool.{or_assoc, or-true}
use Rattle.std.specs.Prelude.{◌||◌}
use Rattle.std.specs.Str.{bytes_eq}
use Rattle.asl_rules.specs.types.Types.{is_among, reaches}
use Rattle.asl_value.proofs.Among.{at_front, none_after}
use Rattle.asl_value.specs.private.Supers.{joined}

pub among_both : (name : List ℕ) (xs ys : List (List ℕ)) → is_among name (xs ++ ys) ≡ is_among name xs || is_among name ys
among_both name [] ys = refl
among_both name (x ∷ xs) ys = ap (λ b. bytes_eq x name || b) (among_both name xs ys) ∙ sym (or_assoc (bytes_eq x name) (is_among name xs) (is_among name ys))

-- what is below a name on either side is among its names
pub among_left : (name x : List ℕ) (xs ys : List (List ℕ)) → is_among name xs ≡ true → is_among name (x ∷ xs ++ ys) ≡ true
among_left name x xs ys h = ap (λ b. bytes_eq x name || b) (among_both name xs ys ∙ ap (λ b. b || is_among name ys) h) ∙ or-true (bytes_eq x name)

pub among_right : (name x : List ℕ) (xs ys : List (List ℕ)) → is_among name ys ≡ true → is_among name (x ∷ xs ++ ys) ≡ true
among_right name x xs ys h = ap (λ b. bytes_eq x name || b) (among_both name xs ys ∙ ap (λ b. is_among name xs || b) h ∙ or-true (is_among name xs)) ∙ or-true (bytes_eq x name)

-- a tree among others, from one place on
pub reached_here : (name : List ℕ) (trees : List (List (List ℕ))) (i : ℕ) (t : List (List ℕ)) → i < length trees → t ≡ get_or trees i t → is_among name (joined trees) ≡ is_among name (joined (drop i trees)) → is_among name t ≡ true → is_among name (joined trees) ≡ true
reached_here name trees i t within here before same =
    before ∙ ap (λ ts. is_among name (joined ts)) (at_front trees i t within here) ∙ among_both name t (joined (drop (i + 1) trees)) ∙ ap (λ b. b || is_among name (joined (drop (i + 1) trees))) same

pub reached_later : (name : List ℕ) (trees : List (List (List ℕ))) (i : ℕ) (t : List (List ℕ)) → i < length trees → t ≡ get_or trees i t → is_among name (joined trees) ≡ is_among name (joined (drop i trees)) → is_among name t ≡ false → is_among name (joined trees) ≡ is_among name (joined (drop (i + 1) trees))
reached_later name trees i t within here before other =
    before ∙ ap (λ ts. is_among name (joined ts)) (at_front trees i t within here) ∙ among_both name t (joined (drop (i + 1) trees)) ∙ ap (λ b. b || is_among name (joined (drop (i + 1) trees))) other

pub reached_none : (name : List ℕ) (trees : List (List (List ℕ))) (i : ℕ) → length trees ≤ i → is_among name (joined trees) ≡ is_among name (joined (drop i trees)) → is_among name (joined trees) ≡ false
reached_none name trees i past before = before ∙ ap (λ ts. is_among name (joined ts)) (none_after trees i past)

-- a name in any tree is among all
pub reached_there : (name : List ℕ) (trees : List (List (List ℕ))) (i : ℕ) (t : List (List ℕ)) → i < length trees → t ≡ get_or trees i t → is_among name t ≡ true → is_among name (joined trees) ≡ true
reached_there name [] i t within here same = absurd (omega (arith, within))
reached_there name (x ∷ xs) zero t within here same = among_both name x (joined xs) ∙ ap (λ u. is_among name u || is_among name (joined xs)) (sym here) ∙ ap (λ b. b || is_among name (joined xs)) same
reached_there name (x ∷ xs) (suc i) t within here same = among_both name x (joined xs) ∙ ap (λ b. is_among name x || b) (reached_there name xs i t (omega (arith, within)) here same) ∙ or-true (is_among name x)

-- where the other was found at once, it is reached
pub reaches_at_once : (name target : List ℕ) (supers : List (List ℕ)) → is_among target supers ≡ true → reaches name supers target ≡ true
reaches_at_once name target supers h = ap (λ b. bytes_eq name target || b) h ∙ or-true (bytes_eq name target)
