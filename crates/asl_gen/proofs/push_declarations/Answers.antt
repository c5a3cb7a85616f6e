use Rattle.asl_gen.proofs.Lines.{declarations_more, declarations_none, drawn_more}
use Rattle.asl_gen.proofs.push_declarations.Goals as goal

pub loop-before-init : goal.loop-before-init
loop-before-init c = record {
  drawn_so_far = c.first_drawn-last.ensures;
  added = declarations_none _ _;
}

pub loop-before-preserved : goal.loop-before-preserved
loop-before-preserved c =
    let inv = c.loop-before.invariant in
    record {
      drawn_so_far = drawn_more c.args.number c.loop-before.before _ _ _ inv.drawn_so_far c.next-first.ensures c.next-second.ensures;
      added = declarations_more c.args.number c.loop-before.before _ _ _ _ _ c.args.text.now.items _ _ _ inv.drawn_so_far c.next-first.ensures c.next-second.ensures c.widening_in.ensures c.value_in.ensures inv.added c.in_ok-push_function.ensures c.in_ok-push_global.ensures;
    }
