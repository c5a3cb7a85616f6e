use Rattle.asl_tree.specs.Acts.{all_alternatives, last_of}
use Rattle.asl_tree.proofs.Room.{fits_more_alternatives, fits_more_last}
use Rattle.asl_branches.specs.View.{room_of}
use Rattle.asl_branches.proofs.Room.{no_less_eval}
use Rattle.asl_branches.proofs.choices.exec_case.Goals as goal

pub exec_alternatives-requires-clause-alternatives : goal.exec_alternatives-requires-clause-alternatives
exec_alternatives-requires-clause-alternatives g c =
    fits_more_alternatives (room_of c.args.run.now) (room_of c.eval.new.run) (all_alternatives c.args.case.others.now)
    (no_less_eval (g.N.Nodes.setting c.args.here.now) c.args.e.now _ _ _ c.in_ok-eval.ensures) c.requires.alternatives

pub exec_alternatives-requires-clause-last : goal.exec_alternatives-requires-clause-last
exec_alternatives-requires-clause-last g c =
    fits_more_last (room_of c.args.run.now) (room_of c.eval.new.run) (last_of c.args.case.last.now)
    (no_less_eval (g.N.Nodes.setting c.args.here.now) c.args.e.now _ _ _ c.in_ok-eval.ensures) c.requires.last
