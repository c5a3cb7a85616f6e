use Rattle.asl_tree.specs.Acts.{all_catchers, last_of}
use Rattle.asl_tree.proofs.Room.{fits_more_catchers, fits_more_last}
use Rattle.asl_branches.specs.View.{room_of}
use Rattle.asl_branches.proofs.Room.{no_less_cut}
use Rattle.asl_branches.proofs.catches.exec_try.Goals as goal

pub exec_catchers-requires-clause-catchers : goal.exec_catchers-requires-clause-catchers
exec_catchers-requires-clause-catchers g c =
    let round = rw c.in-Err-Thrown.field-0-is at c.in-Err-Thrown.ensures.keeps in
    fits_more_catchers (room_of c.args.run.now) _ (all_catchers c.args.it.catchers.now)
    (no_less_cut c.args.run.now c.exec_scope.new.run c.truncate.new.self c.height-height.result round c.height-height.ensures c.truncate.ensures)
    c.requires.catchers

pub exec_catchers-requires-clause-last : goal.exec_catchers-requires-clause-last
exec_catchers-requires-clause-last g c =
    let round = rw c.in-Err-Thrown.field-0-is at c.in-Err-Thrown.ensures.keeps in
    fits_more_last (room_of c.args.run.now) _ (last_of c.args.it.last.now)
    (no_less_cut c.args.run.now c.exec_scope.new.run c.truncate.new.self c.height-height.result round c.height-height.ensures c.truncate.ensures)
    c.requires.last
