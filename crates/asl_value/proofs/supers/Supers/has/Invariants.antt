use Rattle.std.proofs.Common.{◌≡◌, drop}
use Rattle.asl_rules.specs.types.Types as rules
use Rattle.asl_value.specs.private.Supers.{joined}
use Rattle.asl_value.proofs.supers.Supers.has.Given as goal

-- none so far
abbrev pub invariant-loop-tree : goal.invariant-loop-tree
invariant-loop-tree l = rules.is_among l.name (joined l.tree-items) ≡ rules.is_among l.name (joined (drop l.tree-index l.tree-items))
