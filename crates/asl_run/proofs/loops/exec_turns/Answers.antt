use Rattle.std.proofs.Common.{Ok, arith, subst}
use Rattle.std.proofs.lemmas.Result.{err_from_is_err_and}
use Rattle.asl_rules.specs.runs.StatementForms.{scope}
use Rattle.asl_rules.specs.private.TypedMeaning.{acts_of, in_bare}
use Rattle.asl_tree.specs.Acts.{all_acts}
use Rattle.asl_tree.specs.View.{tree_of}
use Rattle.asl_tree.proofs.Room.{fits_more}
use Rattle.asl_branches.specs.declared.stop.Exit.TheVariants as exit
use Rattle.asl_branches.specs.Meets.{Ran, at}
use Rattle.asl_branches.specs.View.{exit_of, room_of}
use Rattle.asl_branches.proofs.Room.{no_less_left}
use Rattle.asl_run.proofs.Turning.{until_asking_failed, until_ended, until_list_failed, until_turned}
use Rattle.asl_run.proofs.loops.exec_turns.Goals as goal

pub exec_scope-requires-clause-room : goal.exec_scope-requires-clause-room
exec_scope-requires-clause-room g c =
    fits_more (room_of c.args.run.now) (room_of c.loop-left.run) (all_acts c.args.body.now)
    (no_less_left (g.N.Nodes.setting c.args.here.now) _ _ _ _ c.loop-left.invariant) c.requires.room

pub returns-in_err-exec_scope : goal.returns-in_err-exec_scope
returns-in_err-exec_scope g c =
    let p = err_from_is_err_and c.from_residual.result c.from_residual.ensures.1 in
    rw (p.1, p.2) (until_list_failed (g.N.Nodes.setting c.args.here.now) c.args.it.until c.args.it.span (tree_of c.args.condition.now)
    (acts_of (all_acts c.args.body.now)) c.loop-left.left c.in_err-exec_scope.field-0.0 _ _ _ _ (omega arith)
    c.in_err-exec_scope.ensures c.loop-left.invariant)

pub returns-in_err-holds : goal.returns-in_err-holds
returns-in_err-holds g c =
    let h = g.N.Nodes.setting c.args.here.now in
    let ss = acts_of (all_acts c.args.body.now) in
    let done : Ran exit_of (Ok exit.Normal) h (scope in_bare ss) (at g.K.Sink c.loop-left.run c.loop-left.sink)
    (at g.K.Sink c.exec_scope.new.run c.exec_scope.new.sink) =
    subst (λ x. Ran exit_of (Ok x) h (scope in_bare ss) (at g.K.Sink c.loop-left.run c.loop-left.sink)
    (at g.K.Sink c.exec_scope.new.run c.exec_scope.new.sink)) c.in-Normal.is c.in_ok-exec_scope.ensures in
    let p = err_from_is_err_and c.from_residual-in_err-holds.result c.from_residual-in_err-holds.ensures.1 in
    rw (p.1, p.2) (until_asking_failed h c.args.it.until c.args.it.span (tree_of c.args.condition.now) ss c.loop-left.left
    c.in_err-holds.field-0.0 _ _ _ _ _ (omega arith) done c.in_err-holds.ensures c.loop-left.invariant)

pub returns-then-holds-it : goal.returns-then-holds-it
returns-then-holds-it g c =
    let h = g.N.Nodes.setting c.args.here.now in
    let ss = acts_of (all_acts c.args.body.now) in
    let done : Ran exit_of (Ok exit.Normal) h (scope in_bare ss) (at g.K.Sink c.loop-left.run c.loop-left.sink)
    (at g.K.Sink c.exec_scope.new.run c.exec_scope.new.sink) =
    subst (λ x. Ran exit_of (Ok x) h (scope in_bare ss) (at g.K.Sink c.loop-left.run c.loop-left.sink)
    (at g.K.Sink c.exec_scope.new.run c.exec_scope.new.sink)) c.in-Normal.is c.in_ok-exec_scope.ensures in
    until_ended h c.args.it.until c.args.it.span (tree_of c.args.condition.now) ss c.loop-left.left c.in_ok-holds.holds
    _ _ _ _ _ (omega arith) done c.in_ok-holds.ensures c.if-holds-it.true c.loop-left.invariant

pub loop-left-preserved : goal.loop-left-preserved
loop-left-preserved g c =
    let h = g.N.Nodes.setting c.args.here.now in
    let ss = acts_of (all_acts c.args.body.now) in
    let done : Ran exit_of (Ok exit.Normal) h (scope in_bare ss) (at g.K.Sink c.loop-left.run c.loop-left.sink)
    (at g.K.Sink c.exec_scope.new.run c.exec_scope.new.sink) =
    subst (λ x. Ran exit_of (Ok x) h (scope in_bare ss) (at g.K.Sink c.loop-left.run c.loop-left.sink)
    (at g.K.Sink c.exec_scope.new.run c.exec_scope.new.sink)) c.in-Normal.is c.in_ok-exec_scope.ensures in
    until_turned h c.args.it.until c.args.it.span (tree_of c.args.condition.now) ss c.loop-left.left c.in_ok-holds.holds
    _ _ _ _ _ (omega arith) done c.in_ok-holds.ensures c.if-holds-it.false c.loop-left.invariant
