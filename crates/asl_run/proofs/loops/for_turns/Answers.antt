use Rattle.std.proofs.Common.{true, Ok, rules, arith, subst}
use mir.Syntax.{w128}
use mir.Val.{to_z}
use Rattle.std.proofs.lemmas.Result.{err_from_is_err_and}
use Rattle.asl_rules.specs.private.TypedMeaning.{acts_of}
use Rattle.asl_tree.specs.Acts.{all_acts}
use Rattle.asl_branches.specs.declared.stop.Exit.TheVariants as exit
use Rattle.asl_branches.specs.Meets.{Ran, at}
use Rattle.asl_branches.specs.View.{exit_of, room_of}
use Rattle.asl_branches.proofs.Room.{fits_more_named, no_less_left}
use Rattle.asl_run.proofs.Turning.{index_ended, index_list_failed, index_returned, index_turned, turn_at}
use Rattle.asl_run.proofs.loops.for_turns.Goals as goal

pub exec_turn-requires-clause-room : goal.exec_turn-requires-clause-room
exec_turn-requires-clause-room g c =
    fits_more_named true (room_of c.args.run.now) (room_of c.loop-left.run) (all_acts c.args.body.now)
    (no_less_left (g.N.Nodes.setting c.args.here.now) _ _ _ _ c.loop-left.invariant.turns) c.requires.room

pub returns-in_err-exec_turn : goal.returns-in_err-exec_turn
returns-in_err-exec_turn g c =
    let p = err_from_is_err_and c.from_residual.result c.from_residual.ensures.1 in
    rw (p.1, p.2) (index_list_failed (g.N.Nodes.setting c.args.here.now) c.args.it.span c.args.it.direction c.args.it.last
    (acts_of (all_acts c.args.body.now)) c.loop-left.left (to_z w128 c.loop-left.i-bits) c.in_err-exec_turn.field-0.0 _ _ _ _
    (omega arith) c.in_err-exec_turn.ensures c.loop-left.invariant.turns)

pub returns-in-Returned : goal.returns-in-Returned
returns-in-Returned g c =
    let h = g.N.Nodes.setting c.args.here.now in
    let ss = acts_of (all_acts c.args.body.now) in
    let i = to_z w128 c.loop-left.i-bits in
    let done : Ran exit_of (Ok (exit.Returned c.in-Returned.x)) h (turn_at i ss) (at g.K.Sink c.loop-left.run c.loop-left.sink)
    (at g.K.Sink c.exec_turn.new.run c.exec_turn.new.sink) =
    subst (λ x. Ran exit_of (Ok x) h (turn_at i ss) (at g.K.Sink c.loop-left.run c.loop-left.sink)
    (at g.K.Sink c.exec_turn.new.run c.exec_turn.new.sink)) c.in-Returned.is c.in_ok-exec_turn.ensures in
    index_returned h c.args.it.span c.args.it.direction c.args.it.last ss c.loop-left.left i c.in-Returned.x _ _ _ _ (omega arith) done
    c.loop-left.invariant.turns

pub returns-in-None : goal.returns-in-None
returns-in-None g c =
    let h = g.N.Nodes.setting c.args.here.now in
    let ss = acts_of (all_acts c.args.body.now) in
    let i = to_z w128 c.loop-left.i-bits in
    let done : Ran exit_of (Ok exit.Normal) h (turn_at i ss) (at g.K.Sink c.loop-left.run c.loop-left.sink)
    (at g.K.Sink c.exec_turn.new.run c.exec_turn.new.sink) =
    subst (λ x. Ran exit_of (Ok x) h (turn_at i ss) (at g.K.Sink c.loop-left.run c.loop-left.sink)
    (at g.K.Sink c.exec_turn.new.run c.exec_turn.new.sink)) c.in-Normal.is c.in_ok-exec_turn.ensures in
    index_ended h c.args.it.span c.args.it.direction c.args.it.last ss c.loop-left.left i _ _ _ _ (omega arith) done (search rules)
    c.loop-left.invariant.turns

pub loop-left-preserved : goal.loop-left-preserved
loop-left-preserved g c =
    let h = g.N.Nodes.setting c.args.here.now in
    let ss = acts_of (all_acts c.args.body.now) in
    let i = to_z w128 c.loop-left.i-bits in
    let done : Ran exit_of (Ok exit.Normal) h (turn_at i ss) (at g.K.Sink c.loop-left.run c.loop-left.sink)
    (at g.K.Sink c.exec_turn.new.run c.exec_turn.new.sink) =
    subst (λ x. Ran exit_of (Ok x) h (turn_at i ss) (at g.K.Sink c.loop-left.run c.loop-left.sink)
    (at g.K.Sink c.exec_turn.new.run c.exec_turn.new.sink)) c.in-Normal.is c.in_ok-exec_turn.ensures in
    record {
      within = search rules;
      turns = index_turned h c.args.it.span c.args.it.direction c.args.it.last ss c.loop-left.left i _ _ _ _ _ (omega arith) done
          (search rules) (search rules) c.loop-left.invariant.turns;
    }
