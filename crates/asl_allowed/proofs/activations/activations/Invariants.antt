use Rattle.std.proofs.Common.{◌≡◌, ◌≤◌, ◌+◌, drop}
use Rattle.asl_rules.specs.runs.Forms as forms
use Rattle.asl_allowed.proofs.activations.activations.Given as goal

-- those that are left are still to be counted
abbrev pub invariant-loop-other : goal.invariant-loop-other
invariant-loop-other l = record {
  within : l.count ≤ l.other-index;
  counted : l.count + forms.activations l.id (drop l.other-index l.live) ≡ forms.activations l.id l.live;
}
