use Rattle.std.proofs.Common.{◌≡◌, [], drop}
use Rattle.asl_rules.specs.Tests.{Tests}
use Rattle.asl_types.specs.Suits.{Suits}
use Rattle.asl_decl.specs.private.HeadTypes.{params_after, IsFront}
use Rattle.asl_decl.proofs.heads.type_params.Given as goal

abbrev pub invariant-loop-p : goal.invariant-loop-p
invariant-loop-p l = record {
  rule : (t : Tests) → Suits t → params_after t (drop l.p-index l.params) l.typed l.names ≡ params_after t l.params [] l.fn.names;
  front : IsFront l.fn.names l.names;
}
