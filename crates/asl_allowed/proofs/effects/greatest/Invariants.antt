use Rattle.std.proofs.Common.{◌≡◌, drop}
use Rattle.asl_rules.specs.types.Effects as rules
use Rattle.asl_allowed.proofs.effects.greatest.Given as goal

abbrev pub invariant-loop-l : goal.invariant-loop-l
invariant-loop-l l = rules.greatest l.most (drop l.l-index l.rest) ≡ rules.greatest l.fn.k l.rest
