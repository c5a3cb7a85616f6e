use Rattle.std.proofs.Common.{◌≡◌, ◌++◌, drop}
use Rattle.asl_names.specs.private.Graphs.{graph_by}
use Rattle.asl_names.proofs.graph.uses_of.Given as goal

abbrev pub invariant-loop-d : goal.invariant-loop-d
invariant-loop-d l = l.graph ++ graph_by l.table (drop l.d-index l.decls) ≡ graph_by l.table l.decls
