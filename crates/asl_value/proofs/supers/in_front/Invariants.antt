use Rattle.std.proofs.Common.{◌≡◌, ◌∷◌, ◌++◌, drop}
use Rattle.asl_value.proofs.supers.in_front.Given as goal

-- those that are there, and those to come
abbrev pub invariant-loop-tree : goal.invariant-loop-tree
invariant-loop-tree l = l.trees ++ drop l.tree-index l.others ≡ l.fn.first ∷ l.others
