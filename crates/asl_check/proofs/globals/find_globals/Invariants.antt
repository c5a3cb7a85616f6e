use Rattle.std.proofs.Common.{◌≡◌, ◌++◌, drop}
use Rattle.std.specs.List.{All}
use Rattle.asl_rules.specs.runs.Evaluation.{globals_among}
use Rattle.asl_tree.specs.Sealed.{cells_in, cells_of, HasItsType}
use Rattle.asl_check.proofs.globals.find_globals.Given as goal

abbrev pub invariant-loop-d : goal.invariant-loop-d
invariant-loop-d l = record {
  typed : All (HasItsType l.names) l.globals.items;
  cells : cells_of l.globals.items ++ cells_in (globals_among (drop l.d-index l.decls) l.names) ≡ cells_in (globals_among l.decls l.names);
}
