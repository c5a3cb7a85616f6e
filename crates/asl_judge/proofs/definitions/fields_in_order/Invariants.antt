use Rattle.std.proofs.Common.{◌≡◌, [], drop}
use Rattle.asl_rules.specs.Tests.{Tests}
use Rattle.asl_subprograms.specs.private.ContextView.{scope_of}
use Rattle.asl_types.specs.Suits.{Suits}
use Rattle.asl_judge.specs.private.Definitions.{fields_after}
use Rattle.asl_judge.proofs.definitions.fields_in_order.Given as goal

abbrev pub invariant-loop-field : goal.invariant-loop-field
invariant-loop-field l = (t : Tests) → Suits t → fields_after t l.types (drop l.field-index l.fields) (scope_of l.context) ≡ fields_after t [] l.fields (scope_of l.context)
