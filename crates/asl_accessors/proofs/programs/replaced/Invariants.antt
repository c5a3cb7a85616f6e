use Rattle.asl_accessors.proofs.ProgramsCopied.{CopiedTo}
use Rattle.asl_accessors.proofs.ProgramsParted.{final_in}
use Rattle.asl_accessors.proofs.programs.replaced.Given as goal

abbrev pub invariant-loop-place : goal.invariant-loop-place
invariant-loop-place l = CopiedTo (final_in l.fn.program.decls) l.fn.program.decls l.place l.decls
