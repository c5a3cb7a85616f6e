use Rattle.std.proofs.Common.{◌≡◌, drop, map}
use Rattle.asl_rules.specs.declarations.UsedNames.{name_of}
use Rattle.asl_names.specs.private.Graphs.{added}
use Rattle.asl_names.specs.private.UseView.{all_uses}
use Rattle.asl_names.proofs.graph.add_places.Given as goal

abbrev pub invariant-loop-one : goal.invariant-loop-one
invariant-loop-one l = added l.table (map name_of (all_uses (drop l.one-index l.uses))) l.places ≡ added l.table (map name_of (all_uses l.uses)) l.fn.places
