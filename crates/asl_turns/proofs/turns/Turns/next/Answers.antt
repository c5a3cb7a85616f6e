use Rattle.std.proofs.Common.{◌+◌, Some, None, ap, ◌∙◌}
use Rattle.asl_turns.specs.Turns.{Marked, next_turn, waits}
use Rattle.asl_turns.proofs.FirstReady.{turn_is}
use Rattle.asl_turns.proofs.Marks.{one_waits_less}
use Rattle.asl_turns.proofs.turns.Turns.next.Goals as goal

pub returns-in_err-node-clause-turn : goal.returns-in_err-node-clause-turn
returns-in_err-node-clause-turn c =
    let i = c.self.inside in
    let turn = turn_is i.graph i.waiting i.settled i.queue c.pop.new.self None c.self.invariant c.in_err-node.ensures.gone in
    c.from_residual.ensures ∙ turn ∙ ap next_turn c.self.view_is

pub returns-clause-turn : goal.returns-clause-turn
returns-clause-turn c =
    let i = c.self.inside in
    turn_is i.graph i.waiting i.settled i.queue c.pop.new.self (Some c.in_ok-node.node) c.self.invariant c.in_ok-node.ensures.gone
    ∙ ap next_turn c.self.view_is

pub returns-clause-fewer : goal.returns-clause-fewer
returns-clause-fewer c =
    let i = c.self.inside in
    let n = c.in_ok-node.node in
    let o = c.self.invariant.only n c.in_ok-node.ensures.gone.0 in
    ap (λ ws. 1 + waits ws) c.put.ensures ∙ one_waits_less i.waiting n o.0.1 ∙ ap (λ (m : Marked). waits m.waiting) c.self.view_is
