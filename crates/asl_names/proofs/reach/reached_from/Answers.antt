use Rattle.std.proofs.Common.{◌≡◌, ◌+◌, true, get_or, sym, ap, ◌∙◌, subst, arith}
use Rattle.asl_turns.specs.Graphs.{row, all_marked, is_among}
use Rattle.asl_names.specs.private.Ways.{ClosedTo}
use Rattle.asl_turns.proofs.Marks.{among_place, marked_more}
use Rattle.asl_names.proofs.Ways.{goes_reached, closed_next, way_mark}
use Rattle.asl_names.proofs.reach.reached_from.Goals as goal

pub loop-at-preserved : goal.loop-at-preserved
loop-at-preserved c =
    let i = c.loop-at.invariant in
    let e = c.in_ok-find_all-2.ensures in
    let g = c.args.graph.now in
    let ns = c.loop-at.found.nodes in
    let at = c.loop-at.at in
    let a = among_place ns at (omega arith) in
    let r : c.row-in-loop-at.result.now ≡ row g (get_or ns at 0) = c.row-in-loop-at.ensures ∙ ap (λ l. row g (get_or l at 0)) c.as_slice.ensures in
    let m = subst (λ l. all_marked c.find_all-in-loop-at.new.found.marks l ≡ true) r e.marked in
    record {
      listed = e.listed;
      count = e.count ∙ i.count;
      start = marked_more _ _ e.more _ i.start;
      closed = subst (λ l. ClosedTo g c.find_all-in-loop-at.new.found.marks l (at + 1)) (sym e.nodes.1) (closed_next g c.loop-at.found.marks c.find_all-in-loop-at.new.found.marks ns e.nodes.0 at (omega arith) i.closed e.more m);
      reached = goes_reached g c.args.start (get_or ns at 0) ns c.find_all-in-loop-at.new.found.nodes i.reached (i.reached _ a) (e.nodes.0, e.nodes.1, λ k h. subst (λ l. is_among k l ≡ true) r (e.nodes.2 k h));
    }

pub returns-clause-mark : goal.returns-clause-mark
returns-clause-mark c =
    let i = c.loop-at.invariant in
    way_mark c.args.graph.now c.args.start c.loop-at.found.nodes c.loop-at.found.marks c.loop-at.at i.listed i.closed (omega arith) i.start
