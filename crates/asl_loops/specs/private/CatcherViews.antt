-- What is gathered of catchers, as the rules see it.
use Rattle.std.specs.Prelude.{map, None}
use Rattle.asl_rules.specs.runs.Trees as tree
use Rattle.asl_tree.specs.Acts.{catcher_of}
use Rattle.asl_loops.specs.declared.catchers.Catchers.{Catchers}
use Rattle.asl_blocks.specs.private.Walks.{Gathered, gathered}

abbrev pub catchers_of : Catchers → Gathered tree.Catchers
catchers_of c = gathered None c.effect (map catcher_of c.trees)
