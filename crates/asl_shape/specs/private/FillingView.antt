-- What the code takes of the values that are given in order.
use Rattle.std.specs.Prelude.{ℕ, List}
use Rattle.asl_value.specs.declared.value.Value.{Value}
use Rattle.asl_cons.specs.declared.Part.{Part}
use Rattle.asl_rules.specs.types.Types.{BitField, View}
use Rattle.asl_shape.specs.private.Filled as rules
use Rattle.asl_shape.specs.private.FilledView.{filled_of, all_fills}
use Rattle.asl_shape.specs.private.Filling.{Taken, part_from, field_from}
use Rattle.asl_shape.specs.private.Matched.{values_from}
use Rattle.asl_shape.specs.declared.filling.Ends.{Ends}
use Rattle.asl_shape.specs.declared.filling.Places.{Places}
use Rattle.asl_shape.specs.declared.filling.FilledParts.{FilledParts}
use Rattle.asl_shape.specs.declared.filling.FilledFields.{FilledFields}
use Rattle.asl_shape.specs.declared.filling.FilledType.{FilledType}
use Rattle.asl_shape.specs.declared.filling.FilledTypes.{FilledTypes}
use Rattle.asl_shape.specs.declared.shapes.BitfieldShape.{BitfieldShape}
use Rattle.asl_shape.specs.declared.shapes.BitfieldShape.TheVariants as b

abbrev pub part_taken : List Value → Ends → Taken Part
part_taken xs e = record { made = part_from e.low e.high; left = values_from xs e.next }

abbrev pub name_in : BitfieldShape → List ℕ
name_in (b.OnePlace name) = name
name_in (b.ManyPlaces name) = name

abbrev pub field_taken : List Value → BitfieldShape → Places → Taken BitField
field_taken xs s p = record { made = field_from (name_in s) p.high p.low; left = values_from xs p.next }

abbrev pub parts_taken : List Value → FilledParts → Taken (List Part)
parts_taken xs t = record { made = t.parts; left = values_from xs t.next }

abbrev pub fields_taken : List Value → FilledFields → Taken View
fields_taken xs t = record { made = t.fields; left = values_from xs t.next }

abbrev pub type_taken : List Value → FilledType → Taken rules.Filled
type_taken xs t = record { made = filled_of t.ty; left = values_from xs t.next }

abbrev pub types_taken : List Value → FilledTypes → Taken rules.Fills
types_taken xs t = record { made = all_fills t.types; left = values_from xs t.next }
