use Rattle.std.proofs.Common.{◌∙◌, false, arith, rules}
use Rattle.asl_store.proofs.Slots.{added_all, added_one, push_done}
use Rattle.asl_store.proofs.store.add_marks.Goals as goal

pub loop-left-preserved : goal.loop-left-preserved
loop-left-preserved c = record {
  added =
      added_one c.loop-left.marks.items c.push.new.self.items c.loop-left.left false c.loop-left-test.true
      (push_done c.push.result c.unwrap.result c.loop-left.marks.items c.push.new.self.items false c.unwrap.ensures c.push.ensures.items)
      ∙ c.loop-left.invariant.added;
  room = search rules;
}

pub returns : goal.returns
returns c = added_all c.loop-left.marks.items _ c.loop-left.left false (omega (arith, c.loop-left-test.false)) c.loop-left.invariant.added
