use Rattle.asl_value.proofs.InPlaces.{FieldsMade}
use Rattle.asl_value.proofs.vectors.all_places.Given as goal

-- those made stand in front of those left
abbrev pub invariant-loop-field : goal.invariant-loop-field
invariant-loop-field l = FieldsMade l.fields l.field-index l.places
