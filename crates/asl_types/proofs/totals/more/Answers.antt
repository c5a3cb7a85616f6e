use Rattle.std.proofs.Common.{◌+◌, Err, List, ℕ, length, inl, inr, ap, ap₂, ◌∙◌, arith}
use Rattle.asl_types.proofs.TotalLemmas.{fits, within, past, too_large, raised_as, common_as, common_some}
use Rattle.asl_types.proofs.totals.more.Goals as goal

pub returns-then-common-gt-FINEST : goal.returns-then-common-gt-FINEST
returns-then-common-gt-FINEST c x h =
    let e = common_as c.args.within c.args.p.now _ _ c.denominator_of-own.ensures.is c.least_common_multiple-common.ensures in
    past c.args.within x c.args.sign c.args.p.now h c.within_limits.ensures (inr (inr (omega (arith, c.if-common-gt-FINEST.true, e))))

pub returns-then-len-gt-MOST_ATOMS : goal.returns-then-len-gt-MOST_ATOMS
returns-then-len-gt-MOST_ATOMS c x h =
    let e = ap (λ (l : List ℕ). length l) c.in_ok-note_width.ensures in
    past c.args.within x c.args.sign c.args.p.now h c.within_limits.ensures
    (inr (inl (omega (arith, c.if-len-gt-MOST_ATOMS.true, c.len.ensures, e))))

pub returns-then-weight-gt-HEAVIEST : goal.returns-then-weight-gt-HEAVIEST
returns-then-weight-gt-HEAVIEST c x h =
    let own = c.denominator_of-own.ensures.is in
    let e = raised_as c.args.within c.args.p.now _ _ _ own c.least_common_multiple-common.ensures c.weight_of.ensures.is in
    past c.args.within x c.args.sign c.args.p.now h c.within_limits.ensures
    (inl (omega (arith, c.if-weight-gt-HEAVIEST.true, c.weight_over-before.ensures.is, c.weight_over-another.ensures.is, e)))

pub returns-in-Ok : goal.returns-in-Ok
returns-in-Ok c x h =
    let own = c.denominator_of-own.ensures.is in
    let weighs = raised_as c.args.within c.args.p.now _ _ _ own c.least_common_multiple-common.ensures c.weight_of.ensures.is in
    within c.args.within x c.args.p.now h _ c.args.sign c.within_limits.ensures c.in-Ok.ensures.1
    (ap₂ (λ m n. m + n) c.weight_over-before.ensures.is c.weight_over-another.ensures.is ∙ weighs)
    (common_as c.args.within c.args.p.now _ _ own c.least_common_multiple-common.ensures) c.in_ok-note_width.ensures
    (omega (arith, c.if-weight-gt-HEAVIEST.false)) (omega (arith, c.if-len-gt-MOST_ATOMS.false, c.len.ensures))
    (omega (arith, c.if-common-gt-FINEST.false))

pub returns-in-Err-TooLarge : goal.returns-in-Err-TooLarge
returns-in-Err-TooLarge c x h =
    let own = c.denominator_of-own.ensures.is in
    let weighs = raised_as c.args.within c.args.p.now _ _ _ own c.least_common_multiple-common.ensures c.weight_of.ensures.is in
    let noted = ap (λ (l : List ℕ). length l) c.in_ok-note_width.ensures in
    let common = common_as c.args.within c.args.p.now _ _ own c.least_common_multiple-common.ensures in
    let f = fits c.args.within x c.args.p.now h c.within_limits.ensures
    (omega (arith, c.if-weight-gt-HEAVIEST.false, c.weight_over-before.ensures.is, c.weight_over-another.ensures.is, weighs))
    (omega (arith, c.if-len-gt-MOST_ATOMS.false, c.len.ensures, noted)) (omega (arith, c.if-common-gt-FINEST.false, common)) in
    absurd (too_large _ c.added.result c.added.ensures (c.in-Err-TooLarge.is ∙ ap (λ w. Err w) c.in-Err-TooLarge.field-0-is) f)

pub invariant_of-result : goal.invariant_of-result
invariant_of-result c = record {
  light = omega (arith, c.if-weight-gt-HEAVIEST.false);
  some = common_some _ _ _ c.args.within.some c.denominator_of-own.ensures.some c.least_common_multiple-common.ensures;
  fine = omega (arith, c.if-common-gt-FINEST.false);
}
