-- What is gathered of branches and alternatives, as the rules see it.
use Rattle.std.specs.Prelude.{map}
use Rattle.asl_rules.specs.runs.Trees as tree
use Rattle.asl_tree.specs.Acts.{branch_of, alternative_of}
use Rattle.asl_choices.specs.declared.branches.Branches.{Branches}
use Rattle.asl_choices.specs.declared.cases.Alternatives.{Alternatives}
use Rattle.asl_blocks.specs.private.Walks.{Gathered, gathered}

abbrev pub branches_of : Branches → Gathered tree.Branches
branches_of b = gathered b.misplaced b.effect (map branch_of b.trees)

abbrev pub alternatives_of : Alternatives → Gathered tree.Alternatives
alternatives_of a = gathered a.misplaced a.effect (map alternative_of a.trees)
