-- The parts of a tuple are less high than the tuple.
use Rattle.std.proofs.Common.{◌≡◌, ℕ, suc, ◌*◌, ◌≤◌, List, [], ◌∷◌, sym, ap, ◌∙◌, arith}
use Rattle.std.specs.Prelude.{max}
use denote.Param.Weighed.{most}
use Rattle.asl_rules.specs.types.Types.{Ty}
use Rattle.asl_types.specs.declared.ty.Form.{Form}
use Rattle.asl_types.specs.declared.ty.Form.TheVariants as t
use Rattle.asl_types.specs.declared.ty.Ty.TheDeep.{size-Ty}
use Rattle.asl_types.specs.private.Heights.{height, heights_of_parts}
use Rattle.asl_types.specs.View.{form_view, parts_of}

-- a type is measured by three times its height and one more
size_is : (T : Ty) → size-Ty T ≡ 3 * suc (height T)
size_is T = omega arith

parts_below : (n m k h : ℕ) → n ≡ 3 * suc h → m ≤ 3 * k → max n m ≤ 3 * max (suc h) k
parts_below n m k h e f = omega arith

most_parts : (Ts : List Ty) → most size-Ty Ts ≤ 3 * heights_of_parts (parts_of Ts)
most_parts [] = omega arith
most_parts (T ∷ Ts) = parts_below (size-Ty T) (most size-Ty Ts) (heights_of_parts (parts_of Ts)) (height T) (size_is T) (most_parts Ts)

pub tuple_higher : (f : Form) (T : Ty) (Ts Us : List Ty) → form_view f ≡ T → f ≡ t.Tuple Ts → Us ≡ Ts → most size-Ty Us ≤ 3 * height T
tuple_higher f T Ts Us e h s =
    let higher : height T ≡ suc (heights_of_parts (parts_of Ts)) = ap height (sym e ∙ ap form_view h) in
    let same : most size-Ty Us ≡ most size-Ty Ts = ap (most size-Ty) s in
    omega (arith, most_parts Ts, higher, same)
