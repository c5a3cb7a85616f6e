-- Denominators: common ones, and lowest terms.
use Rattle.std.specs.Prelude.{◌≡◌, ℕ, zero, suc, ◌*◌, ◌/◌, ◌%◌, ◌<◌, ◌==◌, ◌&&◌, if◌then◌else◌, Bool, true, pos, List, [], ◌∷◌, unsigned_abs, int_div}
use Rattle.asl_poly.specs.Terms.{Summand, Polynomial, over}
use Rattle.asl_poly.specs.Operations.{with_coefficient, constant_term, scaled}

-- ---- common divisors and common multiples

-- k divides n
abbrev pub Divides : ℕ → ℕ → Type 0
Divides k n = n % k ≡ 0

-- k divides each of the numbers
abbrev pub DivideEach : ℕ → List ℕ → Type 0
DivideEach k [] = Unit {0}
DivideEach k (n ∷ ns) = Divides k n × DivideEach k ns

abbrev pub divides_each : ℕ → List ℕ → Bool
divides_each k [] = true
divides_each k (n ∷ ns) = (n % k == 0) && divides_each k ns

-- the greatest number up to n that divides each
abbrev pub greatest_divisor_up_to : ℕ → List ℕ → ℕ
greatest_divisor_up_to zero ns = 1
greatest_divisor_up_to (suc n) ns = if divides_each (suc n) ns then suc n else greatest_divisor_up_to n ns

-- the greatest number that divides n, which is above 0, and each of the others
unfoldable pub greatest_common_divisor : ℕ → List ℕ → ℕ
greatest_common_divisor n ns = greatest_divisor_up_to n (n ∷ ns)

-- the least number that d and e, which are above 0, divide
unfoldable pub least_common_multiple : ℕ → ℕ → ℕ
least_common_multiple d e = d * (e / greatest_common_divisor d (e ∷ []))

-- ---- terms over another denominator

-- k times the terms
abbrev pub multiples : ℕ → List Summand → List Summand
multiples k ts = scaled (constant_term (pos k)) ts

-- the terms that p has over the denominator n, which is a multiple of its own
abbrev pub raised : ℕ → Polynomial → List Summand
raised n p = multiples (n / p.denominator) p.terms

-- the terms with each coefficient divided by k
abbrev pub divided : ℕ → List Summand → List Summand
divided k [] = []
divided k (t ∷ ts) = with_coefficient (int_div t.coefficient (pos k)) t ∷ divided k ts

-- the absolute coefficients
abbrev pub sizes : List Summand → List ℕ
sizes [] = []
sizes (t ∷ ts) = unsigned_abs t.coefficient ∷ sizes ts

abbrev pub lowered : ℕ → List Summand → ℕ → Polynomial
lowered k ts d = over (divided k ts) (d / k)

-- the terms over d in lowest terms: all are divided by the greatest number that divides d and all coefficients
unfoldable pub lowest : List Summand → ℕ → Polynomial
lowest ts d = lowered (greatest_common_divisor d (sizes ts)) ts d

-- p is in lowest terms: no number above 1 divides the denominator and all coefficients
pub record IsLowest (p : Polynomial) : Type 0 where
  pub positive : 0 < p.denominator
  pub lowest : (k : ℕ) → Divides k p.denominator → DivideEach k (sizes p.terms) → k ≡ 1
