use Rattle.std.proofs.Common.{arith}
use Rattle.asl_tree.specs.Acts.{all_acts}
use Rattle.asl_branches.proofs.Room.{behind_name}
use Rattle.asl_branches.proofs.lists.exec_scope_with.Goals as goal

pub push-requires : goal.push-requires
push-requires g c = omega (arith, c.requires.room.0)

pub exec_all-requires-clause-room : goal.exec_all-requires-clause-room
exec_all-requires-clause-room g c =
    behind_name c.args.run.now c.push.new.run (all_acts c.args.list.now) c.push.ensures.round c.push.ensures.height c.requires.room
