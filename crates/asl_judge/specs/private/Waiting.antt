-- Which declarations wait for turns, as a walk over them finds it.
use Rattle.std.specs.Prelude.{Bool, List, [], ◌∷◌, ◌++◌}
use Rattle.asl_syn.specs.declared.tree.Decl.{Decl}
use Rattle.asl_rules.specs.declarations.Turns.{takes_turn}

-- of each of these whether it takes a turn, behind those before
abbrev pub turns_after : List Bool → List Decl → List Bool
turns_after before [] = before
turns_after before (d ∷ ds) = turns_after (before ++ takes_turn d ∷ []) ds
