use Rattle.std.proofs.Common.{◌≡◌, ◌++◌, drop}
use Rattle.asl_accessors.specs.private.Parts.{all_seen, heads}
use Rattle.asl_accessors.proofs.matching.headers_of.Given as goal

abbrev pub invariant-loop-decl : goal.invariant-loop-decl
invariant-loop-decl l = all_seen l.headers.items ++ heads (drop l.decl-index l.decls) ≡ heads l.decls
