use Rattle.asl_branches.specs.View.{room_of}
use Rattle.asl_branches.proofs.Room.{last_fits}
use Rattle.asl_branches.proofs.catches.exec_uncaught.Goals as goal

pub handle-requires-clause-room : goal.handle-requires-clause-room
handle-requires-clause-room g c =
    last_fits (room_of c.args.run.now) c.args.last.now c.in-Otherwise.list c.in-Otherwise.is c.requires.room
