use Rattle.std.proofs.Common.{◌≡◌, drop}
use Rattle.asl_rules.specs.values.Members as rules
use Rattle.asl_shape.specs.View.{all_given}
use Rattle.asl_types.specs.View.{fields_of}
use Rattle.asl_typing.specs.private.Constructs.{given_texts, behind_given}
use Rattle.asl_typing.proofs.constructs.places_given.Given as goal

abbrev pub invariant-loop-field : goal.invariant-loop-field
invariant-loop-field l = behind_given (all_given l.places) (rules.places_given (fields_of (drop l.field-index l.fields)) (given_texts l.given)) ≡ rules.places_given (fields_of l.fields) (given_texts l.given)
