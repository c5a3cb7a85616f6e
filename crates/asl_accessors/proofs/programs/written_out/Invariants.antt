use Rattle.std.proofs.Common.{◌≡◌, ◌++◌, length, map, reverse}
use Rattle.asl_rules.specs.declarations.WrittenOut.{joined, decl_written, written_out}
use Rattle.asl_accessors.proofs.programs.written_out.Given as goal

abbrev pub invariant-loop-decl : goal.invariant-loop-decl
invariant-loop-decl l = l.written ++ joined (map decl_written (reverse l.rest)) ≡ written_out l.program.decls

abbrev pub decreases-loop-decl : goal.decreases-loop-decl
decreases-loop-decl l = length l.rest
