use Rattle.std.proofs.Common.{arith}
use Rattle.asl_words.proofs.Lines.{cut_at, cut_nowhere}
use Rattle.asl_words.proofs.first_line.Goals as goal

pub returns-then-byte-eq10-clause-line : goal.returns-then-byte-eq10-clause-line
returns-then-byte-eq10-clause-line c = (cut_at _ _ c.loop-i-test.true c.loop-i.invariant c.if-byte-eq10.true).0

pub returns-then-byte-eq10-clause-rest : goal.returns-then-byte-eq10-clause-rest
returns-then-byte-eq10-clause-rest c = (cut_at _ _ c.loop-i-test.true c.loop-i.invariant c.if-byte-eq10.true).1

pub returns-clause-line : goal.returns-clause-line
returns-clause-line c =
    (cut_nowhere c.args.text.now _ _ (λ k lt. c.loop-i.invariant k (omega arith)) c.split_at.ensures.front c.split_at.ensures.back).0

pub returns-clause-rest : goal.returns-clause-rest
returns-clause-rest c =
    (cut_nowhere c.args.text.now _ _ (λ k lt. c.loop-i.invariant k (omega arith)) c.split_at.ensures.front c.split_at.ensures.back).1
