use Rattle.asl_branches.specs.View.{room_of}
use Rattle.asl_branches.proofs.Room.{last_fits}
use Rattle.asl_branches.proofs.choices.exec_last.Goals as goal

pub exec_scope-requires-clause-room : goal.exec_scope-requires-clause-room
exec_scope-requires-clause-room g c =
    last_fits (room_of c.args.run.now) c.args.last.now c.in-Otherwise.list c.in-Otherwise.is c.requires.room
