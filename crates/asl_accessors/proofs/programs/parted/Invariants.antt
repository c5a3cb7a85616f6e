use Rattle.std.proofs.Common.{length}
use Rattle.asl_accessors.proofs.ProgramsParted.{IsParting}
use Rattle.asl_accessors.proofs.programs.parted.Given as goal

abbrev pub invariant-loop-decl : goal.invariant-loop-decl
invariant-loop-decl l = IsParting l.fn.program.decls l.rest l.decls l.holes l.placed.items

abbrev pub decreases-loop-decl : goal.decreases-loop-decl
decreases-loop-decl l = length l.rest
