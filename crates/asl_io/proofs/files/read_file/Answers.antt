use Rattle.std.proofs.Common.{◌++◌, ◌+◌, arith, inr, length, ap, refl}
use Rattle.asl_io.proofs.AtMost.{gives_both, many_more, by_answer}
use Rattle.asl_io.proofs.files.read_file.Goals as goal

pub returns-in_err-n-clause-at_most : goal.returns-in_err-n-clause-at_most
returns-in_err-n-clause-at_most g c =
    by_answer c.in_err-n.field-0.0 c.from_residual-in_err-n.result _ c.from_residual-in_err-n.ensures.0 c.from_residual-in_err-n.ensures.1 c.in_err-n.ensures.not_too_long
    (λ e. let k = c.in_err-n.ensures.lost e in (
      length c.loop-bytes.bytes.items + k.0,
      omega (arith, k.1, c.loop-bytes.invariant.within, c.loop-bytes-test.true, c.loop-bytes.bytes.ok, c.len.ensures),
      many_more _ _ _ c.loop-bytes.bytes.items k.0 c.loop-bytes.invariant.whole k.2,
    ))

pub returns-then-n-eq0-clause-at_most : goal.returns-then-n-eq0-clause-at_most
returns-then-n-eq0-clause-at_most g c =
    let p = c.in_ok-n.ensures.gives in
    inr (length (c.loop-bytes.bytes.items ++ p.0), omega (arith, ap length p.1, c.in_ok-n.ensures.bound, c.in_ok-n.ensures.grows, c.loop-bytes.invariant.within, c.loop-bytes-test.true, c.len.ensures, c.take_piece.new.bytes.ok), (c.loop-bytes.bytes.items ++ p.0, refl, gives_both _ _ _ c.loop-bytes.bytes.items p.0 c.loop-bytes.invariant.whole p.2))
