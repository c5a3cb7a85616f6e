use Rattle.asl_tree.specs.Acts.{all_acts}
use Rattle.asl_tree.proofs.Room.{fits_more}
use Rattle.asl_branches.specs.View.{room_of}
use Rattle.asl_run.proofs.calls.run_body.Goals as goal

pub exec_all-requires-clause-room : goal.exec_all-requires-clause-room
exec_all-requires-clause-room g c =
    fits_more c.args.func.now.body.slots (room_of c.args.run.now) (all_acts c.list.result.now) c.requires.room c.list.ensures.fits
