use Rattle.std.proofs.Common.{◌≡◌, drop}
use Rattle.asl_rules.specs.values.Vectors.{all_within}
use Rattle.asl_value.proofs.places.are_inside.Given as goal

-- those behind decide
abbrev pub invariant-loop-place : goal.invariant-loop-place
invariant-loop-place l = all_within l.places l.most ≡ all_within (drop l.place-index l.places) l.most
