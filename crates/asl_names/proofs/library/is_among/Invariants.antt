use Rattle.std.proofs.Common.{◌≡◌, drop, map}
use Rattle.asl_rules.specs.declarations.Names.{is_listed}
use Rattle.asl_names.proofs.library.is_among.Given as goal

abbrev pub invariant-loop-n : goal.invariant-loop-n
invariant-loop-n l = is_listed (map (λ n. n.now) (drop l.n-index l.names)) l.name ≡ is_listed (map (λ n. n.now) l.names) l.name
