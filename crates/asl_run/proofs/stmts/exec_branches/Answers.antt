use Rattle.std.proofs.Common.{true, false, Ok, arith, le_trans, subst}
use Rattle.std.proofs.lemmas.Result.{err_from_is_err_and}
use Rattle.asl_rules.specs.runs.StatementForms.{scope}
use Rattle.asl_rules.specs.private.TypedMeaning.{acts_of, in_bare, itself}
use Rattle.asl_tree.specs.Acts.{all_acts}
use Rattle.asl_tree.specs.View.{tree_of}
use Rattle.asl_branches.specs.Meets.{Ran, at}
use Rattle.asl_tree.proofs.Room.{fits_more}
use Rattle.asl_branches.specs.View.{exit_of, room_of}
use Rattle.asl_branches.proofs.Answered.{ended}
use Rattle.asl_branches.proofs.Room.{no_less_after, no_less_left}
use Rattle.asl_run.specs.private.Asking.{condition}
use Rattle.asl_run.proofs.Branching.{branch_asked, branch_failed, branch_fits, branches_ended}
use Rattle.asl_run.proofs.stmts.exec_branches.Goals as goal

pub returns-in_err-ask : goal.returns-in_err-ask
returns-in_err-ask g c =
    let p = err_from_is_err_and c.from_residual.result c.from_residual.ensures.1 in
    rw (p.1, p.2) (branch_failed (g.N.Nodes.setting c.args.here.now) c.args.span c.args.others.now c.loop-branch.branch-index
    c.branch-item.result c.branch_parts.result.0.now c.branch_parts.result.1.now (acts_of (all_acts c.args.last.now))
    c.in_err-ask.field-0.0 _ _ _ _ (omega (arith, c.loop-branch-test.true)) c.branch-item.is c.branch_parts.ensures
    c.in_err-ask.ensures c.loop-branch.invariant.left)

pub returns-then-branch : goal.returns-then-branch
returns-then-branch g c =
    let h = g.N.Nodes.setting c.args.here.now in
    let ss = c.branch_parts.result.1.now in
    let holds = subst (λ b. Ran itself (Ok b) h (condition c.args.span (tree_of c.branch_parts.result.0.now))
    (at g.K.Sink c.loop-branch.run c.loop-branch.sink) (at g.K.Sink c.ask.new.run c.ask.new.sink)) c.if-branch.true c.in_ok-ask.ensures in
    ended exit_of h (scope in_bare (acts_of (all_acts ss))) _ _ _ _ c.exec_scope.result
    (branch_asked h c.args.span c.args.others.now c.loop-branch.branch-index c.branch-item.result c.branch_parts.result.0.now ss
    (acts_of (all_acts c.args.last.now)) true _ _ _ _ (omega (arith, c.loop-branch-test.true)) c.branch-item.is
    c.branch_parts.ensures holds c.loop-branch.invariant.left) c.exec_scope.ensures

pub loop-branch-preserved : goal.loop-branch-preserved
loop-branch-preserved g c =
    let h = g.N.Nodes.setting c.args.here.now in
    let holds = subst (λ b. Ran itself (Ok b) h (condition c.args.span (tree_of c.branch_parts.result.0.now))
    (at g.K.Sink c.loop-branch.run c.loop-branch.sink) (at g.K.Sink c.ask.new.run c.ask.new.sink)) c.if-branch.false c.in_ok-ask.ensures in
    record {
      left = branch_asked h c.args.span c.args.others.now c.loop-branch.branch-index c.branch-item.result c.branch_parts.result.0.now
          c.branch_parts.result.1.now (acts_of (all_acts c.args.last.now)) false _ _ _ _
          (omega (arith, c.loop-branch-test.true)) c.branch-item.is c.branch_parts.ensures holds c.loop-branch.invariant.left;
      fits = (branch_fits (room_of c.args.run.now) c.args.others.now c.loop-branch.branch-index c.branch-item.result
          c.branch_parts.result.0.now c.branch_parts.result.1.now (omega (arith, c.loop-branch-test.true)) c.branch-item.is
          c.branch_parts.ensures c.loop-branch.invariant.fits).1;
    }

pub exec_scope-requires-clause-room : goal.exec_scope-requires-clause-room
exec_scope-requires-clause-room g c =
    let h = g.N.Nodes.setting c.args.here.now in
    let parts = branch_fits (room_of c.args.run.now) c.args.others.now c.loop-branch.branch-index c.branch-item.result
    c.branch_parts.result.0.now c.branch_parts.result.1.now (omega (arith, c.loop-branch-test.true)) c.branch-item.is
    c.branch_parts.ensures c.loop-branch.invariant.fits in
    let so_far = no_less_left h _ _ _ _ c.loop-branch.invariant.left in
    let here = no_less_after itself h (condition c.args.span (tree_of c.branch_parts.result.0.now)) _ _ _ c.in_ok-ask.ensures in
    fits_more (room_of c.args.run.now) (room_of c.ask.new.run) (all_acts c.branch_parts.result.1.now) (le_trans so_far here) parts.0

pub exec_scope-requires-2-clause-room : goal.exec_scope-requires-2-clause-room
exec_scope-requires-2-clause-room g c =
    fits_more (room_of c.args.run.now) (room_of c.loop-branch.run) (all_acts c.args.last.now)
    (no_less_left (g.N.Nodes.setting c.args.here.now) _ _ _ _ c.loop-branch.invariant.left) c.requires.last

pub returns : goal.returns
returns g c =
    let h = g.N.Nodes.setting c.args.here.now in
    let last = acts_of (all_acts c.args.last.now) in
    ended exit_of h (scope in_bare last) _ _ _ _ c.exec_scope-2.result
    (branches_ended h c.args.span c.args.others.now c.loop-branch.branch-index last _ _ _ (omega (arith, c.loop-branch-test.false))
    c.loop-branch.invariant.left) c.exec_scope-2.ensures
