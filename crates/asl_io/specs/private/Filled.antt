-- The two lemmas that prove the trait's `filled` for each sink: one in memory that has failed is full, and of one without a
-- number there is nothing to show.
use Rattle.std.specs.Prelude.{◌≡◌, ℕ, ◌<◌, ◌≤◌, List, [], ◌∷◌, length, Some, None, is_some, unwrap_or}
use Rattle.std.proofs.Common.{refl, ap, sym, subst, ◌∙◌, true≢false}
use Rattle.std.proofs.Math.Nat.{le_refl}
use Rattle.asl_io.specs.Faults.{room_where_none_fails}

-- of a number that is not there anything holds
pub no_room : (P : Type 0) (room : ℕ) → None ≡ Some room → P
no_room P room none = absurd (true≢false (sym (ap is_some none)))

-- the bytes of a sink that failed are as many as it has room for
pub filled_room : (fails : List ℕ) (stands room : ℕ) (items bytes : List ℕ) (faults len : ℕ) → len ≡ length items → (fails ≡ [] → 0 < faults → len ≡ stands) → room_where_none_fails fails stands ≡ Some room → Some items ≡ Some bytes → 0 < faults → room ≤ length bytes
filled_room [] stands room items bytes faults len counted filled full written failed =
    let here : len ≡ stands = filled refl failed in
    let there : stands ≡ room = ap (λ o. unwrap_or o 0) full in
    let same : items ≡ bytes = ap (λ o. unwrap_or o []) written in
    subst (λ n. room ≤ n) (sym there ∙ sym here ∙ counted ∙ ap length same) (le_refl room)
filled_room (x ∷ xs) stands room items bytes faults len counted filled full written failed = no_room _ room full
