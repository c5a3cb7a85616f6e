use Rattle.std.proofs.Common.{◌≡◌, drop, map}
use Rattle.asl_rules.specs.statements.Falling as rules
use Rattle.asl_falling.specs.private.Falls as parts
use Rattle.asl_falling.proofs.falls.+falls.Given as goal

abbrev pub invariant-all_fall-loop-s : goal.invariant-all_fall-loop-s
invariant-all_fall-loop-s l = rules.all_fall (map rules.falls (drop l.s-index l.stmts)) ≡ rules.all_fall (map rules.falls l.stmts)

abbrev pub invariant-any_branch_falls-loop-b : goal.invariant-any_branch_falls-loop-b
invariant-any_branch_falls-loop-b l = rules.any_falls (map parts.branch_falls (drop l.b-index l.branches)) ≡ rules.any_falls (map parts.branch_falls l.branches)

abbrev pub invariant-any_alternative_falls-loop-a : goal.invariant-any_alternative_falls-loop-a
invariant-any_alternative_falls-loop-a l = rules.any_falls (map parts.alternative_falls (drop l.a-index l.alternatives)) ≡ rules.any_falls (map parts.alternative_falls l.alternatives)

abbrev pub invariant-any_catcher_falls-loop-c : goal.invariant-any_catcher_falls-loop-c
invariant-any_catcher_falls-loop-c l = rules.any_falls (map parts.catcher_falls (drop l.c-index l.catchers)) ≡ rules.any_falls (map parts.catcher_falls l.catchers)
