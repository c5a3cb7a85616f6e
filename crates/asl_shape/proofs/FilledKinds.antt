-- The kinds of written types, one behind another.
use Rattle.std.proofs.Common.{◌≡◌, ℕ, ◌+◌, ◌<◌, ◌≤◌, List, [], ◌∷◌, ◌++◌, length, get_or, drop, sym, ap, ◌∙◌}
use Rattle.std.specs.Prelude.{pos, map}
use Rattle.asl_rules.specs.types.Closed.{closed, kind_at, kinds_at}
use Rattle.asl_rules.specs.types.Types.{Ty, Kind, Kinds, one_more, kind}
use Rattle.asl_rules.proofs.values.KindOf.{kind_same}
use Rattle.asl_value.specs.declared.value.Kind as code
use Rattle.asl_value.specs.View.{kind_of, all_kinds}
use Rattle.asl_value.proofs.Among.{at_front, none_after}
use Rattle.asl_shape.specs.declared.filled.Filled.{Filled}
use Rattle.asl_shape.specs.private.Filled.{closed_of, closed_parts}
use Rattle.asl_shape.specs.private.FilledView.{filled_of, all_fills}
use Rattle.asl_shape.proofs.ValueKinds.{in_front, front_more, front_end}

pub kind_known : (T : Ty) (k : Kind) → k ≡ kind T → k ≡ kind_at (closed T)
kind_known T k h = h ∙ sym (kind_same T (λ n. pos 0))

pub kind_more : (xs : List Filled) (i : ℕ) (x : Filled) (made after : List code.Kind) (k : code.Kind) (all : Kinds) → i < length xs → x ≡ get_or xs i x → kind_of k ≡ kind_at (closed_of (filled_of x)) → after ≡ made ++ k ∷ []
    → all ≡ in_front (map kind_of made) (kinds_at (closed_parts (all_fills (drop i xs)))) → all ≡ in_front (map kind_of after) (kinds_at (closed_parts (all_fills (drop (i + 1) xs))))
kind_more xs i x made after k all within here own grown before =
    before ∙ ap (λ l. in_front (map kind_of made) (kinds_at (closed_parts (all_fills l)))) (at_front xs i x within here) ∙
    ap (λ l. in_front (map kind_of made) (one_more l (kinds_at (closed_parts (all_fills (drop (i + 1) xs)))))) (sym own) ∙
    sym (front_more made k (kinds_at (closed_parts (all_fills (drop (i + 1) xs))))) ∙ ap (λ l. in_front (map kind_of l) (kinds_at (closed_parts (all_fills (drop (i + 1) xs))))) (sym grown)

pub kinds_end : (xs : List Filled) (i : ℕ) (made : List code.Kind) (all : Kinds) → length xs ≤ i → all ≡ in_front (map kind_of made) (kinds_at (closed_parts (all_fills (drop i xs)))) → all_kinds made ≡ all
kinds_end xs i made all past before = sym (before ∙ ap (λ l. in_front (map kind_of made) (kinds_at (closed_parts (all_fills l)))) (none_after xs i past) ∙ front_end (map kind_of made))
