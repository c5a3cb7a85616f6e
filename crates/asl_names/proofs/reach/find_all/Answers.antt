use Rattle.std.proofs.Common.{refl, ◌∙◌, arith}
use Rattle.asl_turns.proofs.Marks.{among_place}
use Rattle.asl_names.proofs.Ways.{goes_one, marked_to_next, more_trans, marked_to_end}
use Rattle.asl_names.proofs.reach.find_all.Goals as goal

pub find-requires-clause-within : goal.find-requires-clause-within
find-requires-clause-within c =
    let i = c.loop-node.invariant in
    let h = c.requires.within _ (among_place c.args.nodes.now c.loop-node.node-index (omega arith)) in
    omega (arith, h, i.count)

pub loop-node-preserved : goal.loop-node-preserved
loop-node-preserved c =
    let i = c.loop-node.invariant in
    let e = c.in_ok-find.ensures in
    let a = among_place c.args.nodes.now c.loop-node.node-index (omega arith) in
    record {
      listed = e.listed;
      count = e.count ∙ i.count;
      room = e.room ∙ i.room;
      more = more_trans _ _ _ i.more e.more;
      marked = marked_to_next _ _ _ _ _ i.marked e.more refl e.marked;
      nodes = goes_one _ _ _ _ _ i.nodes e.nodes a;
    }

pub returns-clause-marked : goal.returns-clause-marked
returns-clause-marked c = marked_to_end c.loop-node.found.marks c.args.nodes.now c.loop-node.node-index c.loop-node.invariant.marked (omega arith)
