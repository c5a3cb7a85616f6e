-- The least word with a property, and the least that two masks match. A word and a mask are lists, lowest digit first.
use Rattle.std.specs.Prelude.{ℕ, zero, suc, List, [], ◌∷◌, ◌++◌, Bool, true, false, ◌&&◌, Option, Some, None, option_map, if◌then◌else◌}
use Rattle.asl_mask.specs.Digits.{mask_matches}

abbrev pub or_else : Option (List Bool) → Option (List Bool) → Option (List Bool)
or_else None o = o
or_else (Some v) o = Some v

-- a word with one more digit above its own
abbrev pub on_top : Bool → List Bool → List Bool
on_top b v = v ++ b ∷ []

-- the least word of w digits with a property, where there is one: with 0 as its highest digit where such a one has the property, else with 1
unfoldable pub least : ℕ → (List Bool → Bool) → Option (List Bool)
least zero p = if p [] then Some [] else None
least (suc w) p =
    or_else (option_map (on_top false) (least w (λ v. p (on_top false v))))
    (option_map (on_top true) (least w (λ v. p (on_top true v))))

-- the least word of w digits that both masks match
abbrev pub overlap_of : ℕ → List (Option Bool) → List (Option Bool) → Option (List Bool)
overlap_of w m n = least w (λ v. mask_matches m v && mask_matches n v)
