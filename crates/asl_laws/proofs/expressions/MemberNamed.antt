-- A part that is named is one of the type.
use Rattle.std.proofs.Common.{◌≡◌, true, Some, Ok, ap, ◌∙◌, subst}
use Rattle.asl_syn.specs.declared.code.StaticCode.TheVariants.{T15, T20}
use Rattle.asl_syn.specs.declared.tree.Ident.{Ident}
use Rattle.asl_rules.specs.Faults.{need, found_or}
use Rattle.asl_rules.specs.types.Types.{Ty}
use Rattle.asl_rules.specs.values.Members.{Member, member_of, member_named, has_room}
use Rattle.asl_rules.proofs.basics.Inversions.{ok_ok, bind_ok, then_ok, need_ok, found_ok}

pub member_ok : (i : Ident) (T : Ty) (m : Member) → member_named i T ≡ Ok m → member_of T i.text ≡ Some m
member_ok i T m h =
    let f = bind_ok (found_or (member_of T i.text) T15 i.span) _ m h in
    let n = then_ok (need (has_room f.value) T20 i.span) (Ok f.value) m f.then in
    found_ok (member_of T i.text) T15 i.span f.value f.first ∙ ap Some (ok_ok f.value m n.then)

-- and has room
pub member_room : (i : Ident) (T : Ty) (m : Member) → member_named i T ≡ Ok m → has_room m ≡ true
member_room i T m h =
    let f = bind_ok (found_or (member_of T i.text) T15 i.span) _ m h in
    let n = then_ok (need (has_room f.value) T20 i.span) (Ok f.value) m f.then in
    subst (λ z. has_room z ≡ true) (ok_ok f.value m n.then) (need_ok (has_room f.value) T20 i.span tt n.first)
