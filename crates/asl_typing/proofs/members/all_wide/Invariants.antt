use Rattle.std.proofs.Common.{◌≡◌, ◌+◌, ◌≤◌, ◌^◌, min, drop}
use Rattle.asl_rules.specs.values.Members as rules
use Rattle.asl_typing.proofs.members.all_wide.Given as goal

abbrev pub invariant-loop-field : goal.invariant-loop-field
invariant-loop-field l = record {
  within : l.wide ≤ 2 ^ 62 + 1;
  sum : min (l.wide + rules.all_wide (drop l.field-index l.fields)) (2 ^ 62 + 1) ≡ min (rules.all_wide l.fields) (2 ^ 62 + 1);
}
