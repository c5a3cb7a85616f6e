use Rattle.asl_rules.specs.private.TypedMeaning.{itself}
use Rattle.asl_tree.specs.Acts.{all_acts}
use Rattle.asl_tree.specs.View.{tree_of}
use Rattle.asl_tree.proofs.Room.{fits_more}
use Rattle.asl_branches.specs.View.{room_of}
use Rattle.asl_branches.proofs.Room.{no_less_after}
use Rattle.asl_run.specs.private.Asking.{condition}
use Rattle.asl_run.proofs.loops.while_turns.Goals as goal

pub exec_turns-requires-clause-room : goal.exec_turns-requires-clause-room
exec_turns-requires-clause-room g c =
    fits_more (room_of c.args.run.now) (room_of c.ask.new.run) (all_acts c.args.body.now)
    (no_less_after itself (g.N.Nodes.setting c.args.here.now) (condition c.args.it.span (tree_of c.args.condition.now)) _ _ _
    c.in_ok-ask.ensures) c.requires.room
