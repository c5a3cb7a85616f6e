use Rattle.std.proofs.Common.{◌≡◌, [], drop}
use Rattle.asl_typing.specs.private.Constructs.{field_names}
use Rattle.asl_names.specs.private.Firsts.{placed}
use Rattle.asl_typing.proofs.constructs.firsts_of_fields.Given as goal

abbrev pub invariant-loop-place : goal.invariant-loop-place
invariant-loop-place l = placed (field_names (drop l.place l.fields)) l.place l.firsts ≡ placed (field_names l.fields) 0 []
