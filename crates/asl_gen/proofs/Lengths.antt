-- How long the text is at most.
use Rattle.std.proofs.Common.{ℕ, zero, suc, ◌*◌, ◌^◌, ◌<◌, ◌≤◌, length, decimal, arith, length-append}
use Rattle.std.proofs.lemmas.Fmt.{length-decimal-le}
use Rattle.asl_rules.specs.report.Made.{call_line, declarations, first_value, function_line, global_line, made_text, statements, sum_line, widening}

-- a small number has few digits
length-small : (n : ℕ) → n < 10 ^ 4 → length (decimal n) ≤ 4
length-small n h = length-decimal-le 4 n (omega arith) h (omega arith)

length-function_line : (i a : ℕ) → i < 10 ^ 4 → a < 10 ^ 4 → length (function_line i a) ≤ 100
unfolding function_line
length-function_line i a hi ha =
    let li = length-small i hi in
    let la = length-small a ha in
    simp length-append (omega (arith, li, la))

length-global_line : (i b : ℕ) → i < 10 ^ 4 → b < 10 ^ 4 → length (global_line i b) ≤ 100
unfolding global_line
length-global_line i b hi hb =
    let li = length-small i hi in
    let lb = length-small b hb in
    simp length-append (omega (arith, li, lb))

length-call_line : (i a : ℕ) → i < 10 ^ 4 → a < 10 ^ 4 → length (call_line i a) ≤ 100
unfolding call_line
length-call_line i a hi ha =
    let li = length-small i hi in
    let la = length-small a ha in
    simp length-append (omega (arith, li, la))

length-sum_line : (i : ℕ) → i < 10 ^ 4 → length (sum_line i) ≤ 100
unfolding sum_line
length-sum_line i hi =
    let li = length-small i hi in
    simp length-append (omega (arith, li))

length-declarations : (number n : ℕ) → n ≤ 2000 → length (declarations number n) ≤ 200 * n
unfolding declarations
length-declarations number zero h = omega arith
length-declarations number (suc n) h =
    let before = length-declarations number n (omega arith) in
    let one = length-function_line (suc n) (widening number (suc n)) (omega arith) (omega arith) in
    let two = length-global_line (suc n) (first_value number (suc n)) (omega arith) (omega arith) in
    simp length-append (omega (arith, before, one, two))

length-statements : (number n : ℕ) → n ≤ 2000 → length (statements number n) ≤ 200 * n
unfolding statements
length-statements number zero h = omega arith
length-statements number (suc n) h =
    let before = length-statements number n (omega arith) in
    let one = length-call_line (suc n) (widening number (suc n)) (omega arith) (omega arith) in
    let two = length-sum_line (suc n) (omega arith) in
    simp length-append (omega (arith, before, one, two))

-- the text is no longer than a file may be
pub length-program : (number size : ℕ) → size ≤ 2000 → length (made_text number size) ≤ 1048576
unfolding made_text
length-program number size h =
    let one = length-declarations number size h in
    let two = length-statements number size h in
    simp length-append (omega (arith, one, two))
