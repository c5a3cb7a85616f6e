use Rattle.std.proofs.Common.{◌≡◌, drop, map}
use Rattle.asl_rules.specs.declarations.Scopes.{subprogram, with_entries}
use Rattle.asl_judge.proofs.visible.reserve_labels.Given as goal

abbrev pub invariant-loop-label : goal.invariant-loop-label
invariant-loop-label l = with_entries (map (λ i. subprogram i.text) (drop l.label-index l.labels)) l.names ≡ with_entries (map (λ i. subprogram i.text) l.labels) l.fn.names
