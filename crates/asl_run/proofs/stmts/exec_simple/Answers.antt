use Rattle.std.proofs.Common.{◌≡◌, ℕ, None, Some, Result, Ok, Err, rules, subst, arith}
use Rattle.asl_rules.specs.runs.StatementForms.{throw}
use Rattle.asl_rules.specs.runs.Trees as trees
use Rattle.asl_rules.specs.private.TypedMeaning.{in_bare}
use Rattle.asl_tree.specs.Acts.{simple_of}
use Rattle.asl_tree.specs.private.Room.{FitsAct}
use Rattle.asl_branches.specs.declared.run.Run.{Run}
use Rattle.asl_branches.specs.declared.stop.Exit.{Exit}
use Rattle.asl_branches.specs.declared.stop.Stop.{Stop}
use Rattle.asl_branches.specs.Meets.{Grows, at}
use Rattle.asl_branches.specs.View.{room_of}
use Rattle.asl_branches.proofs.Answered.{acted}
use Rattle.asl_run.proofs.Stated.{as_stated, invoke_is}
use Rattle.asl_run.proofs.stmts.exec_simple.Goals as goal

-- a frame that is the same has not grown
same_frame : (n : ℕ) (r : Result Exit Stop) (s : Run) → Grows (Some n) r s s
same_frame n (Ok x) s = omega arith
same_frame n (Err e) s = tt

pub exec_after-requires-in-Declare-clause-room : goal.exec_after-requires-in-Declare-clause-room
exec_after-requires-in-Declare-clause-room g c =
    subst (λ s. FitsAct (room_of c.args.run.now) (simple_of s)) c.in-Declare.is c.requires.room

pub exec_declare_first-requires-clause-room : goal.exec_declare_first-requires-clause-room
exec_declare_first-requires-clause-room g c =
    subst (λ s. FitsAct (room_of c.args.run.now) (simple_of s)) c.in-DeclareFirst.is c.requires.room

pub returns-in-Invoke : goal.returns-in-Invoke
returns-in-Invoke g c =
    as_stated (g.N.Nodes.setting c.args.here.now) c.exec_invoke.result _ _ (at g.K.Sink c.args.run.now c.args.sink.now)
    (at g.K.Sink c.exec_invoke.new.run c.exec_invoke.new.sink)
    (invoke_is c.args.s.now c.in-Invoke.span c.in-Invoke.callee c.in-Invoke.widths c.as_slice-in-Invoke.result.now
    c.in-Invoke.params c.as_slice-in-Invoke-2.result.now c.in-Invoke.args c.as_slice-in-Invoke-3.result.now c.in-Invoke.is
    c.as_slice-in-Invoke.ensures c.as_slice-in-Invoke-2.ensures c.as_slice-in-Invoke-3.ensures) c.exec_invoke.ensures

pub returns-in-Throw-default-None : goal.returns-in-Throw-default-None
returns-in-Throw-default-None g c =
    let h = g.N.Nodes.setting c.args.here.now in
    let a = at g.K.Sink c.args.run.now c.args.sink.now in
    let is : simple_of c.args.s.now ≡ trees.Throw c.in-Throw-default-None.span None = search rules in
    as_stated h c.throw_again.result (simple_of c.args.s.now) (trees.Throw c.in-Throw-default-None.span None) a a is
    (acted h c.throw_again.result (throw in_bare c.in-Throw-default-None.span None) a c.args.run.now c.throw_again.ensures.acts
    c.throw_again.ensures.none_refused (search rules) (same_frame 0 c.throw_again.result c.args.run.now))
