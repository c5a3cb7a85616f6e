use Rattle.asl_accessors.proofs.ProgramsCopied.{CopiedTo}
use Rattle.asl_accessors.proofs.programs.defaults.Given as goal

abbrev pub invariant-loop-place : goal.invariant-loop-place
invariant-loop-place l = CopiedTo (λ d. d) l.fn.program.decls l.place l.decls
