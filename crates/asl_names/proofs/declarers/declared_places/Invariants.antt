use Rattle.std.proofs.Common.{◌≡◌, drop, []}
use Rattle.asl_names.specs.private.Graphs.{all_places, all_kept}
use Rattle.asl_names.proofs.declarers.declared_places.Given as goal

abbrev pub invariant-loop-place : goal.invariant-loop-place
invariant-loop-place l = all_kept (all_places l.place (drop l.place l.decls)) l.table ≡ all_kept (all_places 0 l.decls) []
