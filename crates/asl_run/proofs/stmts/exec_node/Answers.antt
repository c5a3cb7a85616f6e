use Rattle.std.proofs.Common.{subst, sym}
use Rattle.asl_rules.specs.private.TypedMeaning.{itself}
use Rattle.asl_tree.specs.View.{tree_of}
use Rattle.asl_tree.specs.Acts.{all_acts, all_alternatives, all_branches, all_catchers}
use Rattle.asl_tree.specs.private.Room.{FitsAlternatives, FitsBranches, FitsCatchers}
use Rattle.asl_tree.proofs.Room.{fits_more, fits_more_branches}
use Rattle.asl_branches.specs.View.{room_of}
use Rattle.asl_branches.proofs.Room.{no_less_after}
use Rattle.asl_run.specs.private.Asking.{condition}
use Rattle.asl_run.proofs.Fitting.{case_fits, for_fits, if_fits, repeat_fits, simple_fits, try_fits, while_fits}
use Rattle.asl_run.proofs.stmts.exec_node.Goals as goal

pub exec_simple-requires-clause-room : goal.exec_simple-requires-clause-room
exec_simple-requires-clause-room g c = simple_fits (room_of c.args.run.now) c.args.s.now c.in-Simple.s c.in-Simple.is c.requires.room

pub exec_scope-requires-clause-room : goal.exec_scope-requires-clause-room
exec_scope-requires-clause-room g c =
    let fits = if_fits (room_of c.args.run.now) c.args.s.now c.in-If.span c.in-If.e c.in-If.first c.in-If.others c.in-If.last c.in-If.is
    c.requires.room in
    fits_more (room_of c.args.run.now) (room_of c.ask.new.run) (all_acts c.in-If.first)
    (no_less_after itself (g.N.Nodes.setting c.args.here.now) (condition c.in-If.span (tree_of c.in-If.e)) _ _ _
    c.in_ok-ask-in-If.ensures) fits.0

pub exec_branches-requires-clause-others : goal.exec_branches-requires-clause-others
exec_branches-requires-clause-others g c =
    let fits = if_fits (room_of c.args.run.now) c.args.s.now c.in-If.span c.in-If.e c.in-If.first c.in-If.others c.in-If.last c.in-If.is
    c.requires.room in
    subst (λ bs. FitsBranches (room_of c.ask.new.run) (all_branches bs)) (sym c.as_slice.ensures)
    (fits_more_branches (room_of c.args.run.now) (room_of c.ask.new.run) (all_branches c.in-If.others)
    (no_less_after itself (g.N.Nodes.setting c.args.here.now) (condition c.in-If.span (tree_of c.in-If.e)) _ _ _
    c.in_ok-ask-in-If.ensures) fits.1.0)

pub exec_branches-requires-clause-last : goal.exec_branches-requires-clause-last
exec_branches-requires-clause-last g c =
    let fits = if_fits (room_of c.args.run.now) c.args.s.now c.in-If.span c.in-If.e c.in-If.first c.in-If.others c.in-If.last c.in-If.is
    c.requires.room in
    fits_more (room_of c.args.run.now) (room_of c.ask.new.run) (all_acts c.in-If.last)
    (no_less_after itself (g.N.Nodes.setting c.args.here.now) (condition c.in-If.span (tree_of c.in-If.e)) _ _ _
    c.in_ok-ask-in-If.ensures) fits.1.1

pub exec_case-requires-clause-alternatives : goal.exec_case-requires-clause-alternatives
exec_case-requires-clause-alternatives g c =
    let fits = case_fits (room_of c.args.run.now) c.args.s.now c.in-Case.span c.in-Case.e c.in-Case.others c.in-Case.last c.in-Case.is
    c.requires.room in
    subst (λ more. FitsAlternatives (room_of c.args.run.now) (all_alternatives more)) (sym c.as_slice-in-Case.ensures) fits.0

pub exec_case-requires-clause-last : goal.exec_case-requires-clause-last
exec_case-requires-clause-last g c =
    (case_fits (room_of c.args.run.now) c.args.s.now c.in-Case.span c.in-Case.e c.in-Case.others c.in-Case.last c.in-Case.is
    c.requires.room).1

pub exec_for-requires-clause-room : goal.exec_for-requires-clause-room
exec_for-requires-clause-room g c =
    for_fits (room_of c.args.run.now) c.args.s.now c.in-For.span c.in-For.bounds c.in-For.body c.in-For.is c.requires.room

pub exec_while-requires-clause-room : goal.exec_while-requires-clause-room
exec_while-requires-clause-room g c =
    while_fits (room_of c.args.run.now) c.args.s.now c.in-While.span c.in-While.guard c.in-While.body c.in-While.is c.requires.room

pub exec_repeat-requires-clause-room : goal.exec_repeat-requires-clause-room
exec_repeat-requires-clause-room g c =
    repeat_fits (room_of c.args.run.now) c.args.s.now c.in-Repeat.span c.in-Repeat.body c.in-Repeat.guard c.in-Repeat.is c.requires.room

pub exec_try-requires-clause-room : goal.exec_try-requires-clause-room
exec_try-requires-clause-room g c =
    (try_fits (room_of c.args.run.now) c.args.s.now _ c.in-Try.list c.in-Try.catchers c.in-Try.last c.in-Try.is c.requires.room).0

pub exec_try-requires-clause-catchers : goal.exec_try-requires-clause-catchers
exec_try-requires-clause-catchers g c =
    let fits = try_fits (room_of c.args.run.now) c.args.s.now _ c.in-Try.list c.in-Try.catchers c.in-Try.last c.in-Try.is c.requires.room in
    subst (λ hs. FitsCatchers (room_of c.args.run.now) (all_catchers hs)) (sym c.as_slice-in-Try.ensures) fits.1.0

pub exec_try-requires-clause-last : goal.exec_try-requires-clause-last
exec_try-requires-clause-last g c =
    (try_fits (room_of c.args.run.now) c.args.s.now _ c.in-Try.list c.in-Try.catchers c.in-Try.last c.in-Try.is c.requires.room).1.1
