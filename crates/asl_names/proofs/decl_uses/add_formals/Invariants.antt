use Rattle.std.proofs.Common.{◌≡◌, ◌++◌, drop}
use Rattle.asl_rules.specs.declarations.UsedNames.{formal_uses}
use Rattle.asl_names.specs.private.UseView.{all_uses}
use Rattle.asl_names.proofs.decl_uses.add_formals.Given as goal

abbrev pub invariant-loop-f : goal.invariant-loop-f
invariant-loop-f l = all_uses l.uses ++ formal_uses (drop l.f-index l.formals) ≡ all_uses l.fn.uses ++ formal_uses l.formals
