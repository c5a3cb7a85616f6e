use Rattle.std.proofs.Common.{◌≡◌, length, drop}
use Rattle.asl_rules.specs.types.Types.{kinds_eq}
use Rattle.asl_value.specs.View.{all_kinds}
use Rattle.asl_value.proofs.keeping.+equal_kinds.Given as goal

-- those so far are the same
abbrev pub invariant-all_equal-loop-i : goal.invariant-all_equal-loop-i
invariant-all_equal-loop-i l = record {
  lengths : length l.ks ≡ length l.ls;
  rest : kinds_eq (all_kinds l.ks) (all_kinds l.ls) ≡ kinds_eq (all_kinds (drop l.i l.ks)) (all_kinds (drop l.i l.ls));
}
