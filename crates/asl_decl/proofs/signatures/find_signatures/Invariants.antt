use Rattle.std.proofs.Common.{◌≡◌, [], drop, length, map}
use Rattle.asl_rules.specs.Tests.{Tests}
use Rattle.asl_types.specs.Suits.{Suits}
use Rattle.asl_decl.specs.private.Signatures.{signatures_after}
use Rattle.asl_decl.proofs.signatures.find_signatures.Given as goal

abbrev pub invariant-loop-f : goal.invariant-loop-f
invariant-loop-f l = record {
  rule : (t : Tests) → Suits t → signatures_after t l.subs (map (λ f. f.now) (drop l.f-index l.funcs)) l.names ≡ signatures_after t [] (map (λ f. f.now) l.funcs) l.fn.names;
  names : l.names ≡ l.fn.names;
  many : length l.subs ≡ l.f-index;
}
