use Rattle.std.proofs.Common.{◌≡◌, drop, map}
use Rattle.asl_rules.specs.declarations.Scopes.{subprogram, with_entries}
use Rattle.asl_judge.proofs.visible.declare_subprograms.Given as goal

abbrev pub invariant-loop-name : goal.invariant-loop-name
invariant-loop-name l = with_entries (map subprogram (map (λ n. n.now) (drop l.name-index l.subprograms))) l.names ≡ with_entries (map subprogram (map (λ n. n.now) l.subprograms)) l.fn.names
