use Rattle.std.proofs.Common.{true, false, Ok, arith, le_trans, subst}
use Rattle.std.proofs.lemmas.Result.{err_from_is_err_and}
use Rattle.asl_rules.specs.runs.StatementForms.{no_match, scope}
use Rattle.asl_rules.specs.private.TypedMeaning.{acts_of, in_bare, itself}
use Rattle.asl_rules.specs.private.TypedMeaning.{last_of as last_rule}
use Rattle.asl_tree.specs.Acts.{all_acts, last_of}
use Rattle.asl_value.specs.View.{value_of}
use Rattle.asl_branches.specs.Meets.{Ran, at}
use Rattle.asl_branches.specs.View.{exit_of, room_of}
use Rattle.asl_branches.proofs.Answered.{ended}
use Rattle.asl_branches.proofs.Choosing.{choice_asked, choice_failed, choice_of, choices_ended}
use Rattle.asl_tree.proofs.Room.{fits_more, fits_more_last}
use Rattle.asl_branches.proofs.Room.{alternative_fits, no_less_after, no_less_left}
use Rattle.asl_branches.proofs.choices.exec_alternatives.Goals as goal

pub returns-in_err-is_chosen : goal.returns-in_err-is_chosen
returns-in_err-is_chosen g c =
    let p = err_from_is_err_and c.from_residual.result c.from_residual.ensures.1 in
    rw (p.1, p.2) (choice_failed (g.N.Nodes.setting c.args.here.now) c.args.case.span (value_of c.args.x.now) c.args.case.others.now
    c.loop-other.other-index c.other-item.result c.alternative_parts.result.0.now c.alternative_parts.result.1.now
    (last_rule (last_of c.args.case.last.now)) c.in_err-is_chosen.field-0.0 _ _ _ _ (omega (arith, c.loop-other-test.true))
    c.other-item.is c.alternative_parts.ensures c.in_err-is_chosen.ensures c.loop-other.invariant.left)

pub returns-then-branch : goal.returns-then-branch
returns-then-branch g c =
    let h = g.N.Nodes.setting c.args.here.now in
    let w = c.alternative_parts.result.0.now in
    let ss = c.alternative_parts.result.1.now in
    ended exit_of h (scope in_bare (acts_of (all_acts ss))) _ _ _ _ c.exec_scope.result
    (choice_asked h c.args.case.span (value_of c.args.x.now) c.args.case.others.now c.loop-other.other-index c.other-item.result w ss
    (last_rule (last_of c.args.case.last.now)) true _ _ _ _ (omega (arith, c.loop-other-test.true)) c.other-item.is
    c.alternative_parts.ensures
    (subst (λ b. Ran itself (Ok b) h (choice_of c.args.case.span (value_of c.args.x.now) w)
    (at g.K.Sink c.loop-other.run c.loop-other.sink)
    (at g.K.Sink c.is_chosen.new.run c.is_chosen.new.sink)) c.if-branch.true c.in_ok-is_chosen.ensures) c.loop-other.invariant.left)
    c.exec_scope.ensures

pub loop-other-preserved : goal.loop-other-preserved
loop-other-preserved g c =
    let h = g.N.Nodes.setting c.args.here.now in
    let w = c.alternative_parts.result.0.now in
    let ss = c.alternative_parts.result.1.now in
    record {
      left = choice_asked h c.args.case.span (value_of c.args.x.now) c.args.case.others.now c.loop-other.other-index c.other-item.result w
          ss (last_rule (last_of c.args.case.last.now)) false _ _ _ _ (omega (arith, c.loop-other-test.true)) c.other-item.is
          c.alternative_parts.ensures
          (subst (λ b. Ran itself (Ok b) h (choice_of c.args.case.span (value_of c.args.x.now) w)
          (at g.K.Sink c.loop-other.run c.loop-other.sink)
          (at g.K.Sink c.is_chosen.new.run c.is_chosen.new.sink)) c.if-branch.false c.in_ok-is_chosen.ensures) c.loop-other.invariant.left;
      fits = (alternative_fits (room_of c.args.run.now) c.args.case.others.now c.loop-other.other-index c.other-item.result w ss
          (omega (arith, c.loop-other-test.true)) c.other-item.is c.alternative_parts.ensures c.loop-other.invariant.fits).1;
    }

pub exec_scope-requires-clause-room : goal.exec_scope-requires-clause-room
exec_scope-requires-clause-room g c =
    let h = g.N.Nodes.setting c.args.here.now in
    let w = c.alternative_parts.result.0.now in
    let ss = c.alternative_parts.result.1.now in
    let parts = alternative_fits (room_of c.args.run.now) c.args.case.others.now c.loop-other.other-index c.other-item.result w ss
    (omega (arith, c.loop-other-test.true)) c.other-item.is c.alternative_parts.ensures c.loop-other.invariant.fits in
    let so_far = no_less_left h _ _ _ _ c.loop-other.invariant.left in
    let here = no_less_after itself h (choice_of c.args.case.span (value_of c.args.x.now) w) _ _ _ c.in_ok-is_chosen.ensures in
    fits_more (room_of c.args.run.now) (room_of c.is_chosen.new.run) (all_acts ss) (le_trans so_far here) parts.0

pub exec_last-requires-clause-room : goal.exec_last-requires-clause-room
exec_last-requires-clause-room g c =
    fits_more_last (room_of c.args.run.now) (room_of c.loop-other.run) (last_of c.args.case.last.now)
    (no_less_left (g.N.Nodes.setting c.args.here.now) _ _ _ _ c.loop-other.invariant.left) c.requires.last

pub returns : goal.returns
returns g c =
    let h = g.N.Nodes.setting c.args.here.now in
    let last = last_rule (last_of c.args.case.last.now) in
    ended exit_of h (no_match in_bare c.args.case.span last) _ _ _ _ c.exec_last.result
    (choices_ended h c.args.case.span (value_of c.args.x.now) c.args.case.others.now c.loop-other.other-index last _ _ _
    (omega (arith, c.loop-other-test.false)) c.loop-other.invariant.left) c.exec_last.ensures
