use Rattle.std.proofs.Common.{◌≡◌, ◌++◌, length, map, reverse, Some}
use Rattle.asl_accessors.proofs.holes.push_all.Given as goal

abbrev pub invariant-loop-decl : goal.invariant-loop-decl
invariant-loop-decl l = l.others ++ map (λ d. Some d) (reverse l.rest) ≡ l.fn.others ++ map (λ d. Some d) l.fn.decls

abbrev pub decreases-loop-decl : goal.decreases-loop-decl
decreases-loop-decl l = length l.rest
