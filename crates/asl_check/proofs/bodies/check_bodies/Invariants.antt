use Rattle.std.proofs.Common.{◌≡◌, ◌++◌, drop, map, Ok}
use Rattle.asl_rules.specs.Faults.{◌>>=◌}
use Rattle.asl_rules.specs.declarations.Programs.{bodies_rule}
use Rattle.asl_rules.specs.Tests.{Tests}
use Rattle.asl_types.specs.Suits.{Suits}
use Rattle.asl_tree.specs.Funcs.{func_of}
use Rattle.asl_decl.specs.Heads.{heads_of}
use Rattle.asl_check.proofs.bodies.check_bodies.Given as goal

abbrev pub invariant-loop-f : goal.invariant-loop-f
invariant-loop-f l = record {
  same : l.names ≡ l.fn.names;
  rest : (t : Tests) → Suits t →
      (bodies_rule t l.subs (heads_of l.fn.names (map (λ f. f.now) (drop l.f-index l.funcs)) l.rest) >>= λ fs. Ok (map func_of l.trees ++ fs))
      ≡ bodies_rule t l.subs (heads_of l.fn.names (map (λ f. f.now) l.funcs) l.subs);
}
