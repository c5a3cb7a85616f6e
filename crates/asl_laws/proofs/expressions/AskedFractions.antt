-- The fractions that are found for widths and numbers of a written type, in order.
use Rattle.std.proofs.Common.{◌≡◌, List, [], ◌∷◌, ◌++◌, refl, sym, ap, ◌∙◌, arith}
use Rattle.asl_poly.specs.Fractions.{Fraction, SameFraction, whole, fraction_at}
use Rattle.asl_poly.specs.Poly.{IsPolynomial}
use Rattle.asl_cons.specs.Arithmetic as cons
use Rattle.asl_rules.specs.types.Closed.{Assignment, floor, ceiling, width_in, width_at, end_at}
use Rattle.asl_rules.specs.types.Numbers.{IsWhole}
use Rattle.asl_rules.specs.expressions.Typing.{Width, Number}
use Rattle.asl_rules.proofs.values.Constrained.{shown_is}
use Rattle.asl_rules.proofs.values.Rounded.{same_floor, same_ceiling, same_width_in}
use Rattle.asl_rules.proofs.widths.Ratios.{Proper}
use Rattle.asl_laws.proofs.expressions.Claims.{Asked, of_type, of_pure, of_width, of_number, of_known, of_divisor}

module _ (av : Assignment) where
  -- the fraction of a width or of a number
  abbrev pub HasRatio : Asked → Fraction → Type 0
  HasRatio (of_width W) r = IsPolynomial W.poly × Proper r × SameFraction r (fraction_at av W.poly)
  HasRatio (of_number N) r = Proper r × IsWhole N.number r
  HasRatio (of_type S) r = ⊥
  HasRatio (of_pure S) r = ⊥
  HasRatio (of_known S W) r = ⊥
  HasRatio (of_divisor span k) r = ⊥

  abbrev pub AllRatios : List Asked → List Fraction → Type 0
  AllRatios [] [] = Unit {0}
  AllRatios [] (r ∷ rs) = ⊥
  AllRatios (q ∷ qs) [] = ⊥
  AllRatios (q ∷ qs) (r ∷ rs) = HasRatio q r × AllRatios qs rs

  -- those of two lists
  pub record SplitRatios (ps qs : List Asked) (rs : List Fraction) : Type 0 where
    pub first : List Fraction
    pub second : List Fraction
    pub are : rs ≡ first ++ second
    pub own : AllRatios ps first
    pub others : AllRatios qs second

  pub split_ratios : (ps qs : List Asked) (rs : List Fraction) → AllRatios (ps ++ qs) rs → SplitRatios ps qs rs
  split_ratios [] qs rs g = record { first = []; second = rs; are = refl; own = tt; others = g }
  split_ratios (p ∷ ps) qs [] g = absurd g
  split_ratios (p ∷ ps) qs (r ∷ rs) g =
      let s = split_ratios ps qs rs g.1 in
      record { first = r ∷ s.first; second = s.second; are = ap (λ l. r ∷ l) s.are; own = (g.0, s.own); others = s.others }

  pub no_ratio : (rs rest : List Fraction) → AllRatios [] rs → rs ++ rest ≡ rest
  no_ratio [] rest g = refl
  no_ratio (r ∷ rs) rest g = absurd g

  pub one_ratio : (P : List Fraction → Type 0) (q : Asked) (rs rest : List Fraction) → AllRatios (q ∷ []) rs →
      ((r : Fraction) → HasRatio q r → P (r ∷ rest)) → P (rs ++ rest)
  one_ratio P q [] rest g k = absurd g
  one_ratio P q (r ∷ []) rest g k = k r g.0
  one_ratio P q (r ∷ s ∷ rs) rest g k = absurd g.1

  pub two_ratios : (P : List Fraction → Type 0) (p q : Asked) (rs rest : List Fraction) → AllRatios (p ∷ q ∷ []) rs →
      ((r s : Fraction) → HasRatio p r → HasRatio q s → P (r ∷ s ∷ rest)) → P (rs ++ rest)
  two_ratios P p q [] rest g k = absurd g
  two_ratios P p q (r ∷ []) rest g k = absurd g.1
  two_ratios P p q (r ∷ s ∷ []) rest g k = k r s g.0 g.1.0
  two_ratios P p q (r ∷ s ∷ t ∷ rs) rest g k = absurd g.1.1

  -- one and more behind it
  pub first_ratio : (P : List Fraction → Type 0) (q : Asked) (qs : List Asked) (rs : List Fraction) → AllRatios (q ∷ qs) rs →
      ((r : Fraction) (ss : List Fraction) → HasRatio q r → AllRatios qs ss → P (r ∷ ss)) → P rs
  first_ratio P q qs [] g k = absurd g
  first_ratio P q qs (r ∷ rs) g k = k r rs g.0 g.1

  -- ---- as ends of ranges, and as widths

  pub width_bounds : (W : Width) (r : Fraction) → HasRatio (of_width W) r →
      (ceiling r ≡ ceiling (end_at (cons.shown W.poly) av)) × (floor r ≡ floor (end_at (cons.shown W.poly) av))
  width_bounds W r h =
      let e = shown_is W.poly av in
      let s = fraction_at av W.poly in
      (same_ceiling r s h.1 h.0.lowest.positive h.2 ∙ sym (ap ceiling e), same_floor r s h.1 h.0.lowest.positive h.2 ∙ sym (ap floor e))

  pub number_bounds : (N : Number) (r : Fraction) → HasRatio (of_number N) r →
      (ceiling r ≡ ceiling (whole N.number)) × (floor r ≡ floor (whole N.number))
  number_bounds N r h = (same_ceiling r (whole N.number) h.0 (omega arith) h.1, same_floor r (whole N.number) h.0 (omega arith) h.1)

  pub ratio_width : (W : Width) (r : Fraction) → HasRatio (of_width W) r → width_in r ≡ width_at W.poly av
  ratio_width W r h = same_width_in r (fraction_at av W.poly) h.1 h.0.lowest.positive h.2
