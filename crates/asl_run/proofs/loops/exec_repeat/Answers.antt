use Rattle.std.proofs.Common.{ℕ, true}
use Rattle.std.proofs.lemmas.Result.{err_from_is_err_and}
use Rattle.asl_rules.specs.private.TypedMeaning.{acts_of}
use Rattle.asl_tree.specs.Acts.{all_acts, maybe_tree}
use Rattle.asl_tree.specs.View.{tree_of}
use Rattle.asl_tree.proofs.Room.{fits_more}
use Rattle.asl_branches.specs.View.{core_of, exit_of, room_of}
use Rattle.asl_branches.proofs.Answered.{failed, met}
use Rattle.asl_branches.proofs.Room.{no_less_after}
use Rattle.asl_run.specs.private.Looping.{limit_asked, turn_until}
use Rattle.asl_run.proofs.Turning.{limit_evaluated}
use Rattle.asl_run.proofs.loops.exec_repeat.Goals as goal

pub returns-in_err-count : goal.returns-in_err-count
returns-in_err-count g c =
    let h = g.N.Nodes.setting c.args.here.now in
    let p = err_from_is_err_and c.from_residual.result c.from_residual.ensures.1 in
    rw (p.1, p.2) (failed (λ n. n) exit_of h.funcs.now h.depth _ _ _
    (limit_evaluated h.funcs.now h.depth c.args.span (maybe_tree c.args.it.now.limit) (core_of c.args.run.now)
    (turn_until true c.args.span (tree_of c.args.it.now.condition) (acts_of (all_acts c.args.body.now)))) _
    c.in_err-count.field-0.0 _ _ c.in_err-count.ensures)

pub exec_turns-requires-clause-room : goal.exec_turns-requires-clause-room
exec_turns-requires-clause-room g c =
    fits_more (room_of c.args.run.now) (room_of c.turns_of.new.run) (all_acts c.args.body.now)
    (no_less_after (λ (n : ℕ). n) (g.N.Nodes.setting c.args.here.now) (limit_asked c.args.span (maybe_tree c.args.it.now.limit)) _ _ _
    c.in_ok-count.ensures) c.requires.room

pub returns : goal.returns
returns g c =
    let h = g.N.Nodes.setting c.args.here.now in
    met (λ n. n) exit_of h.funcs.now h.depth _ _ _ (limit_evaluated h.funcs.now h.depth c.args.span
    (maybe_tree c.args.it.now.limit) (core_of c.args.run.now)
    (turn_until true c.args.span (tree_of c.args.it.now.condition) (acts_of (all_acts c.args.body.now)))) _ c.in_ok-count.count
    c.exec_turns.result _ _ _ c.in_ok-count.ensures c.exec_turns.ensures
