-- Atoms that are replaced by widths: the result is within the limits, and where the widths are whole, it is what the polynomial is at their
-- integers.
use Rattle.std.proofs.Common.{◌≡◌, ℕ, ◌*◌, ◌<◌, ◌==◌, inl, inr, ℤ, pos, Bool, true, false, List, [], ◌∷◌, length, Some, None, refl, sym, ap, ◌∙◌, subst, arith}
use Rattle.std.specs.Prelude.{◌*ℤ◌, nat_le, ◌&&◌, if◌then◌else◌}
use Rattle.std.proofs.Math.IntN.{*ℤ_comm, pos-*ℤ-pos}
use Rattle.std.proofs.lemmas.Int.{ints}
use Rattle.std.proofs.lemmas.Bool.{cases_Bool}
use Rattle.asl_poly.specs.WidthLimits.{heaviest, highest, most_atoms, finest}
use Rattle.asl_poly.specs.Terms.{Summand, Polynomial, value}
use Rattle.asl_poly.specs.Limits.{IsMap}
use Rattle.asl_poly.specs.Operations.{is_zero, constant_terms}
use Rattle.asl_poly.specs.Fractions.{Fraction, SameFraction, whole, fraction_at, sum_of, worth}
use Rattle.asl_poly.specs.Substitute.{map_at, denominator_at, replaced_at, AreMaps, AllMaps, AllFine, ReplacedFits, replaced, replaced_weight, replaced_degree, note_replaced, common_denominator, with_common_denominator}
use Rattle.asl_poly.specs.Poly.{IsPolynomial, HasWidth, IsConstant, substitute_map}
use Rattle.asl_poly.proofs.Ring.{mul-one, mul_assoc}
use Rattle.asl_poly.proofs.Values.{zero_is}
use Rattle.asl_poly.proofs.Maps.{constant_is, some_product}
use Rattle.asl_poly.proofs.LowestTerms.{lowest_polynomial}
use Rattle.asl_poly.proofs.Substitution.{fine_one, common_denominator_some, some_sum, substituted_whole}
use Rattle.asl_poly.proofs.Made.{made_map, substitute_is}
use Rattle.asl_cons.specs.declared.End.{End}
use Rattle.asl_cons.specs.declared.End.TheVariants.{Int, Width}
use Rattle.asl_cons.specs.declared.Part.{Part}
use Rattle.asl_cons.specs.Arithmetic as cons
use Rattle.asl_cons.specs.Constraint.{IsEnd, AllEnds}
use Rattle.asl_cons.proofs.EndsAsWidths.{true_le}
use Rattle.asl_cons.proofs.KeptEnds.{shown_end}
use Rattle.asl_rules.specs.types.Types.{Widths, substituted, substituted_end, substituted_ranges, substitute_fits, replaced_fits}
use Rattle.asl_rules.specs.types.Numbers.{IsWhole}
use Rattle.asl_rules.proofs.basics.Tests.{both, some_same, none_some, mapped}
use Rattle.asl_rules.proofs.widths.Ratios.{same_trans, whole_width}
use Rattle.asl_rules.proofs.widths.WidthsHeld.{atom_is_map}
use Rattle.asl_laws.proofs.widths.TypesOver.{got}

-- ---- the limits

-- what stands for the atoms is within the limits
abbrev pub AllWithin : Widths → Type 0
AllWithin [] = Unit {0}
AllWithin (e ∷ by) = IsPolynomial e.1 × AllWithin by

map_within : (by : Widths) → AllWithin by → (x : ℕ) → IsMap (map_at by x)
map_within [] h x = atom_is_map x
map_within (e ∷ by) h x = elim (cases_Bool (x == e.0)) [ inl z ↦ rw z h.0.map | inr z ↦ rw z (map_within by h.1 x) ]

maps_within : (by : Widths) → AllWithin by → (xs : List ℕ) → AreMaps by xs
maps_within by h [] = tt
maps_within by h (x ∷ xs) = (map_within by h x, maps_within by h xs)

all_within : (by : Widths) → AllWithin by → (ts : List Summand) → AllMaps by ts
all_within by h [] = tt
all_within by h (t ∷ ts) = (maps_within by h t.factors, all_within by h ts)

pub fine_within : (by : Widths) → AllWithin by → AllFine by
fine_within [] h = λ x. (omega arith, omega arith)
fine_within (e ∷ by) h = fine_one e by h.0 (fine_within by h.1)

replaced_back : (by : Widths) (ts : List Summand) → replaced_fits by ts ≡ true → ReplacedFits by ts
unfolding replaced_fits
replaced_back by ts h =
    let p =
    both (nat_le (replaced_weight by ts) heaviest)
    (nat_le (replaced_degree by ts) highest && nat_le (length (note_replaced by [] ts)) most_atoms) h in
    let q = both (nat_le (replaced_degree by ts) highest) (nat_le (length (note_replaced by [] ts)) most_atoms) p.1 in
    record { light = true_le (replaced_weight by ts) heaviest p.0; low = true_le (replaced_degree by ts) highest q.0; few = true_le (length (note_replaced by [] ts)) most_atoms q.1 }

map_held : (by : Widths) (p : Polynomial) → AllWithin by → IsPolynomial p → substitute_fits by p ≡ true → IsPolynomial (substitute_map by p)
unfolding substitute_map substitute_fits
map_held by p w i h =
    let es = with_common_denominator by p.terms in
    let n = common_denominator by p.terms in
    let f = fine_within by w in
    let q = both (replaced_fits by es) (nat_le (n * p.denominator) finest) h in
    let m = made_map by p f i n refl es refl (replaced by [] es) (all_within by w es) (replaced_back by es q.0) refl in
    lowest_polynomial (replaced by [] es) (n * p.denominator) m
    (some_product n p.denominator (common_denominator_some by f p.terms) i.lowest.positive) (true_le (n * p.denominator) finest q.1)

if_held : (b : Bool) (by : Widths) (p q : Polynomial) → substitute_fits by p ≡ b → AllWithin by → IsPolynomial p →
    (if b then Some (substitute_map by p) else None) ≡ Some q →
    (substitute_map by p ≡ q) × IsPolynomial q
if_held true by p q e w i h = let s = some_same (substitute_map by p) q h in (s, subst IsPolynomial s (map_held by p w i e))
if_held false by p q e w i h = none_some q h

pub substituted_is : (by : Widths) (p q : Polynomial) → AllWithin by → IsPolynomial p → substituted by p ≡ Some q →
    (substitute_map by p ≡ q) × IsPolynomial q
substituted_is by p q w i h = if_held (substitute_fits by p) by p q refl w i h

pub end_held : (by : Widths) (e f : End) → AllWithin by → IsEnd e → substituted_end by e ≡ Some f → IsEnd f
end_held by (Int z) f w i h = subst IsEnd (some_same (Int z) f h) tt
end_held by (Width p) f w i h =
    let m = mapped (λ q. cons.shown q) (substituted by p) f h in
    subst IsEnd m.gives (shown_end m.one (substituted_is by p m.one w i m.is).1)

pub ranges_held : (by : Widths) (ps qs : List Part) → AllWithin by → AllEnds ps → substituted_ranges by ps ≡ Some qs → AllEnds qs
ranges_held by [] qs w i h = subst AllEnds (some_same [] qs h) tt
ranges_held by (p ∷ ps) qs w i h =
    let u = got (cons.part_of (substituted_end by p.low) (substituted_end by p.high)) _ qs h in
    let v = got (substituted_ranges by ps) _ qs u.next in
    let l = got (substituted_end by p.low) _ u.value u.is in
    let k = got (substituted_end by p.high) _ u.value l.next in
    let e = some_same (cons.part l.value k.value) u.value k.next in
    subst AllEnds (some_same (u.value ∷ v.value) qs v.next)
    (subst (λ (r : Part). IsEnd r.low × IsEnd r.high) e (end_held by p.low l.value w i.0.0 l.is, end_held by p.high k.value w i.0.1 k.is), ranges_held by ps v.value w i.1 v.is)

-- ---- at integers

-- what stands for the atoms is whole at a, and these are the integers
abbrev pub AreWhole : Widths → (ℕ → ℤ) → (ℕ → ℤ) → Type 0
AreWhole by a b = (x : ℕ) → value a (map_at by x) ≡ b x *ℤ pos (denominator_at by x)

pub replaced_same : (by : Widths) (a b : ℕ → ℤ) (p q : Polynomial) → AllWithin by → AreWhole by a b → IsPolynomial p →
    substituted by p ≡ Some q →
    SameFraction (fraction_at a q) (fraction_at b p)
replaced_same by a b p q w h i k =
    let f = fine_within by w in
    subst (λ r. SameFraction (fraction_at a r) (fraction_at b p)) (substituted_is by p q w i k).0
    (substituted_whole a b by p f i.lowest.positive h (substitute_map by p) (substitute_is by p f i a))

-- a polynomial that is one integer everywhere stays so, whatever stands for the atoms
constant_sum : (f : ℕ → Fraction) (c : ℤ) → (sum_of f (constant_terms c)).number ≡ c *ℤ pos (sum_of f (constant_terms c)).denominator
constant_sum f c = elim (cases_Bool (is_zero c)) [
  | inl z ↦ rw z (let e : c ≡ pos 0 = zero_is c z in rw e refl)
  | inr z ↦ rw z (let e : c *ℤ pos 1 ≡ c = mul-one c in rw (e, e) (omega (arith, ints, e)))
]

constant_worth : (f : ℕ → Fraction) (p : Polynomial) (z : ℤ) → p.terms ≡ constant_terms (z *ℤ pos p.denominator) → IsWhole z (worth f p)
constant_worth f p z e =
    let n = z *ℤ pos p.denominator in
    let s : (sum_of f p.terms).number ≡ n *ℤ pos (sum_of f p.terms).denominator =
    subst (λ ts. (sum_of f ts).number ≡ n *ℤ pos (sum_of f ts).denominator) (sym e) (constant_sum f n) in
    mul-one (sum_of f p.terms).number ∙ s ∙ over z p.denominator (sum_of f p.terms).denominator
  where
    over : (z : ℤ) (d e : ℕ) → (z *ℤ pos d) *ℤ pos e ≡ z *ℤ pos (e * d)
    over z d e = mul_assoc z (pos d) (pos e) ∙ ap (λ y. z *ℤ y) (*ℤ_comm (pos d) (pos e) ∙ pos-*ℤ-pos e d)

pub constant_replaced : (by : Widths) (p q : Polynomial) (z : ℤ) → AllWithin by → IsPolynomial p → IsConstant p z →
    substituted by p ≡ Some q → IsConstant q z
constant_replaced by p q z w i c k a =
    let f = fine_within by w in
    let e : p.terms ≡ constant_terms (z *ℤ pos p.denominator) = constant_is p.terms (z *ℤ pos p.denominator) i.map c in
    let o : IsWhole z (worth (replaced_at a by) p) = constant_worth (replaced_at a by) p z e in
    let s : SameFraction (fraction_at a (substitute_map by p)) (worth (replaced_at a by) p) = substitute_is by p f i a in
    subst (λ r. HasWidth r a z) (substituted_is by p q w i k).0
    (whole_width a (substitute_map by p) z (same_trans (fraction_at a (substitute_map by p)) (worth (replaced_at a by) p) (whole z)
    (worth_some by p f i a) s o))
  where
    worth_some : (by : Widths) (p : Polynomial) → AllFine by → IsPolynomial p → (a : ℕ → ℤ) → 0 < (worth (replaced_at a by) p).denominator
    worth_some by p f i a =
        some_product (sum_of (replaced_at a by) p.terms).denominator p.denominator (some_sum (replaced_at a by) p.terms (λ x. (f x).0))
        i.lowest.positive
