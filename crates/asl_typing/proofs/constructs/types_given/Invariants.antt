use Rattle.std.proofs.Common.{◌≡◌, [], drop, take}
use Rattle.asl_rules.specs.values.Members.{given_once}
use Rattle.asl_types.specs.View.{fields_of}
use Rattle.asl_typing.specs.private.Constructs.{given_names, given_texts, behind_types}
use Rattle.asl_typing.proofs.constructs.types_given.Given as goal

abbrev pub invariant-loop-place : goal.invariant-loop-place
invariant-loop-place l = given_once (given_names l.given) [] (fields_of l.fields) ≡ behind_types l.types (given_once (given_names (drop l.place l.given)) (given_texts (take l.place l.given)) (fields_of l.fields))
