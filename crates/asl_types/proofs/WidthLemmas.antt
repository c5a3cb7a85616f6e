-- Widths within the limits: the limits as facts and as tests, and what an operation's answer makes of a rule.
use Rattle.std.proofs.Common.{◌≡◌, ℕ, ◌^◌, ◌<◌, ℤ, pos, negsuc, nat_le, Bool, true, false, refl, sym, ap, subst, ◌∙◌, arith}
use Rattle.std.specs.Prelude.{Result, Ok, Err, unsigned_abs}
use Rattle.std.proofs.lemmas.Bool.Decides.{nat_tests}
use Rattle.asl_syn.specs.declared.token.Span.{Span}
use Rattle.asl_syn.specs.declared.code.Refused.{Refused}
use Rattle.asl_syn.specs.declared.code.StaticCode.TheVariants.{T19, T20}
use Rattle.asl_poly.specs.Terms.{Polynomial}
use Rattle.asl_poly.specs.Poly.{IsPolynomial, Gives, ConstantFits, SumFits, ProductFits, QuotientFits, constant_map, sum_map, difference_map, product_map, quotient_map, may_divide}
use Rattle.asl_poly.proofs.Made.{too_coarse}
use Rattle.asl_poly.specs.declared.PolyRefused.{PolyRefused}
use Rattle.asl_poly.specs.declared.PolyRefused.TheVariants.{TooLarge, NoMemory}
use Rattle.asl_cons.specs.Arithmetic.{sum_fits, product_fits, quotient_fits}
use Rattle.asl_rules.specs.Faults.{◌>>◌, need, fault_of}
use Rattle.asl_poly.specs.WidthLimits.{heaviest}
use Rattle.asl_rules.specs.types.Widths as rules
use Rattle.asl_types.specs.private.Answers.{Agrees}
use Rattle.asl_types.specs.private.Limited.{limited}

-- an operation's answer, against a rule that asks for its limits by a test
agreed : {Fits : Type 0} (fit : Bool) (span : Span) (m : Polynomial) (answer : Result Polynomial PolyRefused) (result : Result Polynomial Refused) →
    (Fits → fit ≡ true) → (fit ≡ true → Fits) → Gives Fits m answer → result ≡ limited span answer → Agrees result (need fit T20 span >> Ok m)
agreed fit span m (Ok r) result given back g is =
    subst (λ x. Agrees x (need fit T20 span >> Ok m)) (sym is) (ap (λ b. need b T20 span >> Ok m) (given g.0) ∙ ap Ok (sym g.1))
agreed fit span m (Err TooLarge) result given back g is =
    subst (λ x. Agrees x (need fit T20 span >> Ok m)) (sym is) (ap (λ b. need b T20 span >> Ok m) (by_test fit refl))
  where
    by_test : (b : Bool) → fit ≡ b → b ≡ false
    by_test false e = refl
    by_test true e = absurd (g (back e))
agreed fit span m (Err NoMemory) result given back g is = subst (λ x. Agrees x (need fit T20 span >> Ok m)) (sym is) tt

-- ---- numbers

abs_is : (z : ℤ) → rules.weight_of z ≡ unsigned_abs z
abs_is (pos n) = refl
abs_is (negsuc n) = refl

number_yes : (z : ℤ) → ConstantFits z → nat_le (rules.weight_of z) heaviest ≡ true
number_yes z h = let e = abs_is z in rw e (grind (arith, nat_tests, h.light))

number_no : (z : ℤ) → nat_le (rules.weight_of z) heaviest ≡ true → ConstantFits z
number_no z e = record { light = grind (arith, nat_tests, e, abs_is z) }

pub number : (span : Span) (z : ℤ) (answer : Result Polynomial PolyRefused) (result : Result Polynomial Refused) →
    Gives (ConstantFits z) (constant_map z) answer → result ≡ limited span answer → Agrees result (rules.width_of_number span z)
number span z answer result g is = agreed (nat_le (rules.weight_of z) heaviest) span (constant_map z) answer result (number_yes z) (number_no z) g is

-- ---- sums, differences and products

sum_yes : (p q : Polynomial) → SumFits p q → sum_fits p q ≡ true
unfolding sum_fits
sum_yes p q h = grind (arith, nat_tests, h.light, h.few, h.fine)

sum_no : (p q : Polynomial) → sum_fits p q ≡ true → SumFits p q
unfolding sum_fits
sum_no p q e = record { light = grind (arith, nat_tests, e); few = grind (arith, nat_tests, e); fine = grind (arith, nat_tests, e) }

product_yes : (p q : Polynomial) → ProductFits p q → product_fits p q ≡ true
unfolding product_fits
product_yes p q h = grind (arith, nat_tests, h.light, h.low, h.few, h.fine)

product_no : (p q : Polynomial) → product_fits p q ≡ true → ProductFits p q
unfolding product_fits
product_no p q e =
    record { light = grind (arith, nat_tests, e); low = grind (arith, nat_tests, e); few = grind (arith, nat_tests, e); fine = grind (arith, nat_tests, e) }

pub sum : (span : Span) (p q : Polynomial) (answer : Result Polynomial PolyRefused) (result : Result Polynomial Refused) →
    Gives (SumFits p q) (sum_map p q) answer → result ≡ limited span answer → Agrees result (rules.width_sum span p q)
sum span p q answer result g is = agreed (sum_fits p q) span (sum_map p q) answer result (sum_yes p q) (sum_no p q) g is

pub difference : (span : Span) (p q : Polynomial) (answer : Result Polynomial PolyRefused) (result : Result Polynomial Refused) →
    Gives (SumFits p q) (difference_map p q) answer → result ≡ limited span answer → Agrees result (rules.width_difference span p q)
difference span p q answer result g is = agreed (sum_fits p q) span (difference_map p q) answer result (sum_yes p q) (sum_no p q) g is

pub product : (span : Span) (p q : Polynomial) (answer : Result Polynomial PolyRefused) (result : Result Polynomial Refused) →
    Gives (ProductFits p q) (product_map p q) answer → result ≡ limited span answer → Agrees result (rules.width_product span p q)
product span p q answer result g is = agreed (product_fits p q) span (product_map p q) answer result (product_yes p q) (product_no p q) g is

-- ---- quotients

quotient_yes : (p : Polynomial) (k : ℕ) → QuotientFits p k → quotient_fits p k ≡ true
unfolding quotient_fits
quotient_yes p k h = grind (arith, nat_tests, h.fine)

quotient_no : (p : Polynomial) (k : ℕ) → quotient_fits p k ≡ true → QuotientFits p k
unfolding quotient_fits
quotient_no p k e = record { fine = grind (arith, nat_tests, e) }

pub quotient : (span : Span) (p : Polynomial) (k : ℕ) (b : Bool) (answer : Result Polynomial PolyRefused) (result : Result Polynomial Refused) → b ≡ may_divide k p → b ≡ true →
    Gives (QuotientFits p k) (quotient_map p k) answer → result ≡ limited span answer → Agrees result (rules.width_divided span p k)
quotient span p k b answer result e may g is =
    subst (λ c. Agrees result (need c T19 span >> (need (quotient_fits p k) T20 span >> Ok (quotient_map p k)))) (sym may ∙ e)
    (agreed (quotient_fits p k) span (quotient_map p k) answer result (quotient_yes p k) (quotient_no p k) g is)

pub not_divided : (span : Span) (p : Polynomial) (k : ℕ) (b : Bool) → b ≡ may_divide k p → b ≡ false → rules.width_divided span p k ≡ Err (fault_of T19 span)
not_divided span p k b e not = ap (λ c. need c T19 span >> (need (quotient_fits p k) T20 span >> Ok (quotient_map p k))) (sym e ∙ not)

no_fit : (b : Bool) → (b ≡ true → ⊥) → b ≡ false
no_fit false h = refl
no_fit true h = absurd (h refl)

pub too_fine : (span : Span) (p : Polynomial) (k : ℕ) (b : Bool) → b ≡ may_divide k p → b ≡ true → IsPolynomial p → 2 ^ 16 < k → rules.width_divided span p k ≡ Err (fault_of T20 span)
too_fine span p k b e may h l =
    ap (λ c. need c T19 span >> (need (quotient_fits p k) T20 span >> Ok (quotient_map p k))) (sym e ∙ may)
    ∙ ap (λ c. need c T20 span >> Ok (quotient_map p k)) (no_fit (quotient_fits p k) (λ f. too_coarse p k h l (quotient_no p k f)))
