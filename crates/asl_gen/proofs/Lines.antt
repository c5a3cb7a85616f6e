-- One more subprogram.
use Rattle.std.proofs.Common.{◌≡◌, ℕ, suc, ◌+◌, ◌-◌, ◌*◌, List, ◌++◌, refl, sym, ap, ◌∙◌, arith}
use Rattle.std.proofs.lemmas.List.{append_assoc, append-nil}
use Rattle.asl_rules.specs.report.Made.{call_line, declarations, drawn, function_line, global_line, next, statements, sum_line, value_in, widening_in}

-- two numbers are drawn for each
pub drawn_odd : (number i : ℕ) → drawn number (2 * suc i - 1) ≡ next (drawn number (2 * i))
unfolding drawn
drawn_odd number i =
    let e : 2 * suc i - 1 ≡ suc (2 * i) = omega arith in
    rw e refl

pub drawn_even : (number i : ℕ) → drawn number (2 * suc i) ≡ next (next (drawn number (2 * i)))
unfolding drawn
drawn_even number i =
    let e : 2 * suc i ≡ suc (suc (2 * i)) = omega arith in
    rw e refl

-- the next of a number that was drawn
pub drawn_more : (number i last w x : ℕ) → last ≡ drawn number (2 * i) → w ≡ next last → x ≡ next w → x ≡ drawn number (2 * (i + 1))
drawn_more number i last w x el ew ex =
    let e : i + 1 ≡ suc i = omega arith in
    rw (e, drawn_even number i, ← el, ← ew) ex

-- the declarations and the statements of none
pub declarations_none : (number : ℕ) (t : List ℕ) → t ≡ t ++ declarations number 0
unfolding declarations
declarations_none number t = sym (append-nil t)

pub statements_none : (number : ℕ) (t : List ℕ) → t ≡ t ++ statements number 0
unfolding statements
statements_none number t = sym (append-nil t)

-- the declarations of one more
pub declarations_more : (number i last w x a b : ℕ) (t u v y : List ℕ) → last ≡ drawn number (2 * i) → w ≡ next last → x ≡ next w → a ≡ widening_in w → b ≡ value_in x
    → u ≡ t ++ declarations number i → v ≡ u ++ function_line (i + 1) a → y ≡ v ++ global_line (i + 1) b
    → y ≡ t ++ declarations number (i + 1)
unfolding declarations
declarations_more number i last w x a b t u v y el ew ex ea eb eu ev ey =
    let e : i + 1 ≡ suc i = omega arith in
    let odd : drawn number (2 * suc i - 1) ≡ w = drawn_odd number i ∙ ap next (sym el) ∙ sym ew in
    let even : drawn number (2 * suc i) ≡ x = drawn_even number i ∙ ap (λ (z : ℕ). next (next z)) (sym el) ∙ ap next (sym ew) ∙ sym ex in
    let fe : v ≡ u ++ function_line (suc i) (widening_in w) = rw (← e, ← ea) ev in
    let ge : y ≡ v ++ global_line (suc i) (value_in x) = rw (← e, ← eb) ey in
    rw (e, odd, even, ge, fe, eu) (simp append_assoc)

-- the statements of one more
pub statements_more : (number i last w a : ℕ) (t u v y : List ℕ) → last ≡ drawn number (2 * i) → w ≡ next last → a ≡ widening_in w
    → u ≡ t ++ statements number i → v ≡ u ++ call_line (i + 1) a → y ≡ v ++ sum_line (i + 1)
    → y ≡ t ++ statements number (i + 1)
unfolding statements
statements_more number i last w a t u v y el ew ea eu ev ey =
    let e : i + 1 ≡ suc i = omega arith in
    let odd : drawn number (2 * suc i - 1) ≡ w = drawn_odd number i ∙ ap next (sym el) ∙ sym ew in
    let ce : v ≡ u ++ call_line (suc i) (widening_in w) = rw (← e, ← ea) ev in
    let se : y ≡ v ++ sum_line (suc i) = rw (← e) ey in
    rw (e, odd, se, ce, eu) (simp append_assoc)
