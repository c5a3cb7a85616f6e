use Rattle.std.proofs.Common.{◌≡◌, true, false, drop, ◌+◌, rules, arith, subst, sym, ap, ◌∙◌}
use Rattle.asl_rules.specs.runs.StatementForms.{catch_list, handling, is_caught, uncaught}
use Rattle.asl_rules.specs.private.TypedMeaning.{acts_of, caught_as, in_bare}
use Rattle.asl_rules.specs.private.TypedMeaning.{last_of as last_rule}
use Rattle.asl_tree.specs.Acts.{all_acts, last_of}
use Rattle.asl_value.specs.View.{value_of}
use Rattle.asl_branches.specs.Meets.{Ran, at}
use Rattle.asl_branches.specs.View.{core_of, exit_of, room_of}
use Rattle.asl_branches.proofs.Answered.{ended, same_plan}
use Rattle.asl_branches.proofs.Catching.{all_from, catcher_leaves, catcher_takes, catchers_ended}
use Rattle.asl_tree.proofs.Room.{fits_more_last}
use Rattle.asl_branches.proofs.Room.{catcher_fits, fits_more_named, no_less_left}
use Rattle.asl_branches.proofs.catches.exec_catchers.Goals as goal

pub returns-then-is_caught : goal.returns-then-is_caught
returns-then-is_caught g c =
    let h = g.N.Nodes.setting c.args.here.now in
    let x = c.args.x in
    let hs = c.args.it.catchers.now in
    let last = last_rule (last_of c.args.it.last.now) in
    let parts = c.catcher_parts-is_named.result in
    let body = acts_of (all_acts parts.2.now) in
    let got : c.get.result.now ≡ x = search rules in
    let caught : is_caught parts.1.now (value_of x) ≡ true =
    ap (λ v. is_caught parts.1.now (value_of v)) (sym got) ∙ sym c.is_caught.ensures ∙ c.if-is_caught.true in
    let held : c.into_inner.result ≡ x = search rules in
    ended exit_of h (handling in_bare (value_of x) (catch_list in_bare (caught_as parts.0) (value_of x) body)) _ _ _ _ c.handle.result
    (same_plan h (all_from (value_of x) (drop c.loop-catcher.catcher-index hs) last)
    (handling in_bare (value_of x) (catch_list in_bare (caught_as parts.0) (value_of x) body)) _ _ _
    (catcher_takes (value_of x) hs c.loop-catcher.catcher-index c.catcher-item.result parts.0 parts.1.now parts.2.now last
    (core_of c.loop-catcher.run) (omega (arith, c.loop-catcher-test.true)) c.catcher-item.is c.catcher_parts-is_named.ensures caught)
    c.loop-catcher.invariant.left)
    (subst (λ v. Ran exit_of c.handle.result h (handling in_bare (value_of v) (catch_list in_bare (caught_as parts.0) (value_of v) body))
    (at g.K.Sink c.loop-catcher.run c.loop-catcher.sink) (at g.K.Sink c.handle.new.run c.handle.new.sink)) held c.handle.ensures)

pub loop-catcher-preserved : goal.loop-catcher-preserved
loop-catcher-preserved g c =
    let x = c.args.x in
    let hs = c.args.it.catchers.now in
    let last = last_rule (last_of c.args.it.last.now) in
    let parts = c.catcher_parts-is_named.result in
    let got : c.get.result.now ≡ x = search rules in
    let caught : is_caught parts.1.now (value_of x) ≡ false =
    ap (λ v. is_caught parts.1.now (value_of v)) (sym got) ∙ sym c.is_caught.ensures ∙ c.if-is_caught.false in
    record {
      left = same_plan (g.N.Nodes.setting c.args.here.now) (all_from (value_of x) (drop c.loop-catcher.catcher-index hs) last)
          (all_from (value_of x) (drop (c.loop-catcher.catcher-index + 1) hs) last) _ _ _
          (catcher_leaves (value_of x) hs c.loop-catcher.catcher-index c.catcher-item.result parts.0 parts.1.now parts.2.now last
          (core_of c.loop-catcher.run) (omega (arith, c.loop-catcher-test.true)) c.catcher-item.is c.catcher_parts-is_named.ensures caught)
          c.loop-catcher.invariant.left;
      fits = (catcher_fits (room_of c.args.run.now) hs c.loop-catcher.catcher-index c.catcher-item.result parts.0 parts.1.now parts.2.now
          (omega (arith, c.loop-catcher-test.true)) c.catcher-item.is c.catcher_parts-is_named.ensures c.loop-catcher.invariant.fits).1;
    }

pub handle-requires-clause-room : goal.handle-requires-clause-room
handle-requires-clause-room g c =
    let parts = catcher_fits (room_of c.args.run.now) c.args.it.catchers.now c.loop-catcher.catcher-index c.catcher-item.result
    c.catcher_parts-is_named.result.0 c.catcher_parts-is_named.result.1.now c.catcher_parts-is_named.result.2.now
    (omega (arith, c.loop-catcher-test.true)) c.catcher-item.is c.catcher_parts-is_named.ensures c.loop-catcher.invariant.fits in
    fits_more_named c.catcher_parts-is_named.result.0 (room_of c.args.run.now) (room_of c.loop-catcher.run)
    (all_acts c.catcher_parts-is_named.result.2.now)
    (no_less_left (g.N.Nodes.setting c.args.here.now) _ _ _ _ c.loop-catcher.invariant.left) parts.0

pub exec_uncaught-requires-clause-room : goal.exec_uncaught-requires-clause-room
exec_uncaught-requires-clause-room g c =
    fits_more_last (room_of c.args.run.now) (room_of c.loop-catcher.run) (last_of c.args.it.last.now)
    (no_less_left (g.N.Nodes.setting c.args.here.now) _ _ _ _ c.loop-catcher.invariant.left) c.requires.last

pub returns : goal.returns
returns g c =
    let h = g.N.Nodes.setting c.args.here.now in
    let x = c.args.x in
    let hs = c.args.it.catchers.now in
    let last = last_rule (last_of c.args.it.last.now) in
    let held : c.into_inner-2.result ≡ x = search rules in
    ended exit_of h (uncaught in_bare (value_of x) last) _ _ _ _ c.exec_uncaught.result
    (same_plan h (all_from (value_of x) (drop c.loop-catcher.catcher-index hs) last) (uncaught in_bare (value_of x) last) _ _ _
    (catchers_ended (value_of x) hs c.loop-catcher.catcher-index last (core_of c.loop-catcher.run)
    (omega (arith, c.loop-catcher-test.false))) c.loop-catcher.invariant.left)
    (subst (λ v. Ran exit_of c.exec_uncaught.result h (uncaught in_bare (value_of v) last)
    (at g.K.Sink c.loop-catcher.run c.loop-catcher.sink) (at g.K.Sink c.exec_uncaught.new.run c.exec_uncaught.new.sink)) held
    c.exec_uncaught.ensures)
