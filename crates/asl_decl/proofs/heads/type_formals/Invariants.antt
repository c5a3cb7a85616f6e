use Rattle.std.proofs.Common.{◌≡◌, [], drop}
use Rattle.asl_rules.specs.Tests.{Tests}
use Rattle.asl_subprograms.specs.private.ContextView.{scope_of}
use Rattle.asl_types.specs.Suits.{Suits}
use Rattle.asl_decl.specs.private.HeadTypes.{formals_after}
use Rattle.asl_decl.proofs.heads.type_formals.Given as goal

abbrev pub invariant-loop-f : goal.invariant-loop-f
invariant-loop-f l = (t : Tests) → Suits t → formals_after t l.types (drop l.f-index l.formals) (scope_of l.context) ≡ formals_after t [] l.formals (scope_of l.context)
