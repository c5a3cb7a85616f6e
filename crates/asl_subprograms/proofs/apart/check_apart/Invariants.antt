use Rattle.std.proofs.Common.{◌≡◌, drop, map}
use Rattle.asl_subprograms.specs.private.Apart.{apart_from}
use Rattle.asl_subprograms.proofs.apart.check_apart.Given as goal

abbrev pub invariant-loop-number : goal.invariant-loop-number
invariant-loop-number l = apart_from l.number (map (λ f. f.now) (drop l.number l.funcs)) l.subs ≡ apart_from 0 (map (λ f. f.now) l.funcs) l.subs
