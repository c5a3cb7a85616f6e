use Rattle.asl_gen.proofs.Lines.{drawn_more, statements_more, statements_none}
use Rattle.asl_gen.proofs.push_statements.Goals as goal

pub loop-before-init : goal.loop-before-init
loop-before-init c = record {
  drawn_so_far = c.first_drawn-last.ensures;
  added = statements_none _ _;
}

pub loop-before-preserved : goal.loop-before-preserved
loop-before-preserved c =
    let inv = c.loop-before.invariant in
    record {
      drawn_so_far = drawn_more c.args.number c.loop-before.before _ _ _ inv.drawn_so_far c.next-first.ensures c.next-last.ensures;
      added = statements_more c.args.number c.loop-before.before _ _ _ c.args.text.now.items _ _ _ inv.drawn_so_far c.next-first.ensures c.widening_in.ensures inv.added c.in_ok-push_call.ensures c.in_ok-push_sum.ensures;
    }
