-- A text to which pieces are added, one after another.
use Rattle.std.proofs.Common.{◌≡◌, ℕ, List, [], ◌++◌, Result, Ok, Err, cond, ap, refl, ◌∙◌}
use Rattle.std.specs.Prelude.{OnOk, is_ok}
use Rattle.std.proofs.lemmas.List.{append_assoc}

-- the text u is t with the piece a behind it
pub record Adds (t u a : List ℕ) : Type 0 where
  pub same : u ≡ t ++ a

pub one : (t u a : List ℕ) → u ≡ t ++ a → Adds t u a
one t u a e = record { same = e }

pub more : (t u v a b : List ℕ) → Adds t u a → v ≡ u ++ b → Adds t v (a ++ b)
more t u v a b h e = record { same = e ∙ ap (λ (x : List ℕ). x ++ b) h.same ∙ append_assoc t a b }

-- the last piece, whose answer is returned
pub last : {X E : Type 0} (r : Result X E) (t u v a b : List ℕ) → Adds t u a → v ≡ cond (is_ok r) (u ++ b) u → OnOk r (v ≡ t ++ (a ++ b))
last (Ok x) t u v a b h e = (more t u v a b h e).same
last (Err x) t u v a b h e = tt

-- a text of four pieces
pub four : (t u v x y a b d e : List ℕ) → t ≡ [] → u ≡ t ++ a → v ≡ u ++ b → x ≡ v ++ d → y ≡ x ++ e → y ≡ a ++ b ++ d ++ e
four t u v x y a b d e et eu ev ex ey = rw (ey, ex, ev, eu, et) refl
