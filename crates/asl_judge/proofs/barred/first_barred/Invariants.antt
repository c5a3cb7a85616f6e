use Rattle.std.proofs.Common.{◌≡◌, drop}
use Rattle.asl_rules.specs.declarations.Barred.{barred_at}
use Rattle.asl_rules.specs.declarations.UsedNames.{first_said}
use Rattle.asl_names.specs.private.UseView.{all_uses}
use Rattle.asl_judge.proofs.barred.first_barred.Given as goal

abbrev pub invariant-loop-one : goal.invariant-loop-one
invariant-loop-one l = first_said (barred_at l.names) (all_uses (drop l.one-index l.uses)) ≡ first_said (barred_at l.names) (all_uses l.uses)
