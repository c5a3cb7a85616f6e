use Rattle.std.proofs.Common.{sym, arith}
use Rattle.asl_grammar.proofs.lexemes.Gapping.{piece_shorter, Gap_more}
use Rattle.asl_lex.proofs.gap.after_gap.Goals as goal

pub loop-next-smaller : goal.loop-next-smaller
loop-next-smaller c = piece_shorter c.loop-next.rest.now c.in-Some.next.now (sym c.in-Some.ensures)

pub loop-next-preserved : goal.loop-next-preserved
loop-next-preserved c = record {
  gap = λ end gap. c.loop-next.invariant.gap end (Gap_more c.loop-next.rest.now c.in-Some.next.now end (sym c.in-Some.ensures) gap);
  fits = let shorter = piece_shorter c.loop-next.rest.now c.in-Some.next.now (sym c.in-Some.ensures) in omega arith;
}
