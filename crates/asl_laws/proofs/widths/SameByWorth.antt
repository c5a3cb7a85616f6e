-- Widths that have one fraction wherever the names agree with the scope are the same: so this is what "the same width" means.
use Rattle.std.proofs.Common.{◌≡◌, ℕ, ℤ, pos, true, List, [], ◌∷◌, Option, Some, None, Ok, refl, sym, ap, subst, ◌∙◌, arith}
use Rattle.std.specs.Prelude.{◌+ℤ◌, ◌*ℤ◌, ◌↔◌}
use Rattle.std.proofs.lemmas.Int.{ints}
use Rattle.asl_syn.specs.declared.tree.Expr.{Expr}
use Rattle.asl_poly.specs.Terms.{Summand, value, product}
use Rattle.asl_poly.specs.Fractions.{Fraction, SameFraction, fraction_at}
use Rattle.asl_poly.specs.Poly.{atom_map, Same}
use Rattle.asl_poly.proofs.Ring.{mul-one, one-mul}
use Rattle.asl_rules.specs.Tests.{Tests, SameWidth, IsRight}
use Rattle.asl_rules.specs.values.Values.{Value, int, bool, bits_with, label, record_with, exception_with, tuple_with, array_with}
use Rattle.asl_rules.specs.declarations.Scopes.{Counted, Scope, Entry, Storage, atom_at, name_at, storage_of, known_value}
use Rattle.asl_rules.specs.expressions.Typing.{Width}
use Rattle.asl_rules.specs.expressions.Exprs.{width}
use Rattle.asl_rules.specs.types.Numbers.{fraction}
use Rattle.asl_rules.specs.private.Worth.{Integers, standing_for, by_place, AreSame, Obeys, Alone, AllAlone, AtomsAlone, WellCounted}
use Rattle.asl_rules.proofs.widths.Ratios.{same_trans}
use Rattle.asl_rules.proofs.widths.WidthsWorth.{width_is_worth, same_is_worth_same}
use Rattle.asl_rules.proofs.widths.WidthAtoms.{width_is_alone}
use Rattle.asl_rules.proofs.widths.WidthsHeld.{width_is_held}
use Rattle.asl_laws.specs.WidthWorth.{CountsWithin, HasWorth, SameWorth, HasIntegers}

-- ---- the integers of names, where each name that stands for itself is given one by its place

counted_number : (ℕ → ℤ) → Option Counted → Option Value → ℤ
counted_number b (Some c) v = value b c.poly.terms
counted_number b None (Some (int z)) = z
counted_number b None (Some (bool x)) = pos 0
counted_number b None (Some (bits_with bs v)) = pos 0
counted_number b None (Some (label n l)) = pos 0
counted_number b None (Some (record_with n xs)) = pos 0
counted_number b None (Some (exception_with own supers n xs)) = pos 0
counted_number b None (Some (tuple_with xs)) = pos 0
counted_number b None (Some (array_with k xs)) = pos 0
counted_number b None None = pos 0

number_in : (ℕ → ℤ) → Option Storage → ℤ
number_in b None = pos 0
number_in b (Some s) = counted_number b s.counted (known_value s)

numbers_of : List Entry → (ℕ → ℤ) → Integers
numbers_of names b name = number_in b (storage_of name names)

pub value_atom : (b : ℕ → ℤ) (n : ℕ) → value b (atom_map n).terms ≡ b n
unfolding atom_map
value_atom b n = let e : b n *ℤ pos 1 ≡ b n = mul-one (b n) in let f : pos 1 *ℤ b n ≡ b n = one-mul (b n) in rw (e, f) (omega (arith, ints))

stored_number : (names : List Entry) (b : ℕ → ℤ) (name : List ℕ) (s : Storage) → storage_of name names ≡ Some s → numbers_of names b name ≡ counted_number b s.counted (known_value s)
unfolding numbers_of number_in
stored_number names b name s e = ap (number_in b) e

with_count : (names : List Entry) (b : ℕ → ℤ) (name : List ℕ) (s : Storage) (c : Counted) → storage_of name names ≡ Some s → s.counted ≡ Some c → numbers_of names b name ≡ value b c.poly.terms
unfolding counted_number
with_count names b name s c e q = stored_number names b name s e ∙ ap (λ o. counted_number b o (known_value s)) q

atom_is : (names : List Entry) (b : ℕ → ℤ) (n : ℕ) → Alone names n → by_place names (numbers_of names b) n ≡ b n
atom_is names b n h = with_count names b (name_at names n) h.0 (atom_at n) h.2 h.3 ∙ value_atom b n

product_is : (names : List Entry) (b : ℕ → ℤ) (xs : List ℕ) → AllAlone names xs → product (by_place names (numbers_of names b)) xs ≡ product b xs
product_is names b [] h = refl
product_is names b (x ∷ xs) h = ap (λ z. z *ℤ product (by_place names (numbers_of names b)) xs) (atom_is names b x h.0) ∙ ap (λ z. b x *ℤ z) (product_is names b xs h.1)

value_is : (names : List Entry) (b : ℕ → ℤ) (ts : List Summand) → AtomsAlone names ts → value (by_place names (numbers_of names b)) ts ≡ value b ts
value_is names b [] h = refl
value_is names b (t ∷ ts) h =
    ap (λ z. t.coefficient *ℤ z +ℤ value (by_place names (numbers_of names b)) ts) (product_is names b t.factors h.0)
    ∙ ap (λ z. t.coefficient *ℤ product b t.factors +ℤ z) (value_is names b ts h.1)

none_known : (v : Option Value) (z : ℤ) → v ≡ None → v ≡ Some (int z) → ⊥
none_known v z e f = let g : v ≡ None = e in cc

known_number : (names : List Entry) (w : WellCounted names) (b : ℕ → ℤ) (name : List ℕ) (s : Storage) (z : ℤ) → storage_of name names ≡ Some s → known_value s ≡ Some (int z) → (o : Option Counted) → s.counted ≡ o → counted_number b o (known_value s) ≡ z
unfolding counted_number
known_number names w b name s z e k None q = ap (counted_number b None) k
known_number names w b name s z e k (Some c) q = absurd (none_known (known_value s) z (w.unknown name s c e q) k)

obeys : (names : List Entry) → WellCounted names → (b : ℕ → ℤ) → Obeys names (numbers_of names b)
obeys names w b = record { known = λ name s z e k. stored_number names b name s e ∙ known_number names w b name s z e k s.counted refl }

both_some : (r s : Fraction) (o p : Option Fraction) → o ≡ Some r → p ≡ Some s → AreSame o p → SameFraction r s
both_some r s o p e f h = subst (λ q. AreSame (Some r) q) f (subst (λ q. AreSame q p) e h)

pub same_by_worth : (t : Tests) (e f : Expr) (G : Scope) → WellCounted G.names → (v w : Width) → width t e G ≡ Ok v → width t f G ≡ Ok w →
    AtomsAlone G.names v.poly.terms → AtomsAlone G.names w.poly.terms → SameWorth G.names e f → Same v.poly w.poly
same_by_worth t e f G g v w h k m n same b =
    let a : Integers = numbers_of G.names b in
    let o : Obeys G.names a = obeys G.names g b in
    let x = width_is_worth t e G a o g.within v h in
    let y = width_is_worth t f G a o g.within w k in
    let one : SameFraction x.number y.number =
    both_some x.number y.number (fraction e (standing_for G.names a)) (fraction f (standing_for G.names a)) x.is y.is (same a o) in
    let at : SameFraction (fraction_at (by_place G.names a) v.poly) (fraction_at (by_place G.names a) w.poly) =
    same_trans (fraction_at (by_place G.names a) v.poly) x.number (fraction_at (by_place G.names a) w.poly) x.proper (sym x.same)
    (same_trans x.number y.number (fraction_at (by_place G.names a) w.poly) y.proper one y.same) in
    sym (ap (λ z. z *ℤ pos w.poly.denominator) (value_is G.names b v.poly.terms m)) ∙ at
    ∙ ap (λ z. z *ℤ pos v.poly.denominator) (value_is G.names b w.poly.terms n)

-- so, in a scope whose `let`s count as names that stand for themselves, two widths are the same exactly where they have one fraction for
-- all integers that agree with the scope
pub same_is_the_words : (t : Tests) (e f : Expr) (G : Scope) → WellCounted G.names → (v w : Width) → width t e G ≡ Ok v → width t f G ≡ Ok w →
    Same v.poly w.poly ↔ SameWorth G.names e f
same_is_the_words t e f G g v w h k =
    (λ s a o. same_is_worth_same t e f G v w g.within h k s a o, same_by_worth t e f G g v w h k (width_is_alone t e G g v h) (width_is_alone t f G g w k))

-- so the test of two widths says yes exactly there
pub test_is_worth : (t : Tests) → IsRight t → (e f : Expr) (G : Scope) (v w : Width) → WellCounted G.names → width t e G ≡ Ok v →
    width t f G ≡ Ok w → (t.same v.poly w.poly ≡ true) ↔ SameWorth G.names e f
test_is_worth t r e f G v w g h k =
    let q = same_is_the_words t e f G g v w h k in
    let both : Same v.poly w.poly → SameWidth v.poly w.poly =
    λ s. record { left = width_is_held t e G g.within v h; right = width_is_held t f G g.within w k; same = s } in
    (λ s. q.0 (r.same_yes v.poly w.poly s).same, λ s. r.same_all v.poly w.poly (both (q.1 s)))

pub has_worth : (t : Tests) (e : Expr) (G : Scope) (w : Width) (a : Integers) → CountsWithin G.names → width t e G ≡ Ok w →
    Obeys G.names a →
    HasWorth e G.names a w.poly
has_worth t e G w a g h o = let x = width_is_worth t e G a o g w h in (x.number, x.is, x.same)

pub has_integers : (names : List Entry) → WellCounted names → (b : ℕ → ℤ) → HasIntegers names b
has_integers names w b = (numbers_of names b, obeys names w b, λ n h. atom_is names b n h)
