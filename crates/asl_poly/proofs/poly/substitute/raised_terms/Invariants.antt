use Rattle.std.proofs.Common.{◌≡◌, ◌++◌, drop}
use Rattle.asl_poly.specs.Substitute.{raised_terms}
use Rattle.asl_poly.proofs.poly.substitute.raised_terms.Given as goal

abbrev pub invariant-loop-t : goal.invariant-loop-t
invariant-loop-t l = l.terms.items ++ raised_terms l.by l.fn.n (drop l.t-index l.ts) ≡ raised_terms l.by l.fn.n l.ts
