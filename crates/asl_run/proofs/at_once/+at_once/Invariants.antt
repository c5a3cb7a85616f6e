use Rattle.std.proofs.Common.{◌+◌, ◌*◌}
use Rattle.asl_run.proofs.at_once.+at_once.Given as goal

-- a node is entered one level deeper, and each function stands above those that it calls

abbrev pub decreases-evaluate : goal.decreases-evaluate
decreases-evaluate l = 8 * l.reach.levels

abbrev pub decreases-reached : goal.decreases-reached
decreases-reached l = 8 * l.reach.levels

abbrev pub decreases-operand : goal.decreases-operand
decreases-operand l = 8 * l.reach.levels + 1

abbrev pub decreases-field : goal.decreases-field
decreases-field l = 8 * l.reach.levels + 1

abbrev pub decreases-bit_place : goal.decreases-bit_place
decreases-bit_place l = 8 * l.reach.levels + 1

abbrev pub decreases-two_places : goal.decreases-two_places
decreases-two_places l = 8 * l.reach.levels + 1

abbrev pub decreases-on_bits : goal.decreases-on_bits
decreases-on_bits l = 8 * l.reach.levels + 1

abbrev pub decreases-of_its_width : goal.decreases-of_its_width
decreases-of_its_width l = 8 * l.reach.levels + 1

abbrev pub decreases-to_width : goal.decreases-to_width
decreases-to_width l = 8 * l.reach.levels + 1

abbrev pub decreases-unary : goal.decreases-unary
decreases-unary l = 8 * l.reach.levels + 1

abbrev pub decreases-conditional : goal.decreases-conditional
decreases-conditional l = 8 * l.reach.levels + 1

abbrev pub decreases-element : goal.decreases-element
decreases-element l = 8 * l.reach.levels + 2

abbrev pub decreases-behind_integer : goal.decreases-behind_integer
decreases-behind_integer l = 8 * l.reach.levels + 2

abbrev pub decreases-behind_truth : goal.decreases-behind_truth
decreases-behind_truth l = 8 * l.reach.levels + 2

abbrev pub decreases-behind_bits : goal.decreases-behind_bits
decreases-behind_bits l = 8 * l.reach.levels + 2

abbrev pub decreases-cut_at : goal.decreases-cut_at
decreases-cut_at l = 8 * l.reach.levels + 2

abbrev pub decreases-library : goal.decreases-library
decreases-library l = 8 * l.reach.levels + 2

abbrev pub decreases-part : goal.decreases-part
decreases-part l = 8 * l.reach.levels + 3

abbrev pub decreases-operation : goal.decreases-operation
decreases-operation l = 8 * l.reach.levels + 3

abbrev pub decreases-sliced : goal.decreases-sliced
decreases-sliced l = 8 * l.reach.levels + 3

abbrev pub decreases-node : goal.decreases-node
decreases-node l = 8 * l.reach.levels + 4
