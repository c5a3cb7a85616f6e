-- Each type inside another is less high.
use Rattle.std.specs.Prelude.{◌≤◌, max, List, [], ◌∷◌}
use Rattle.std.proofs.Common.{arith}
use Rattle.asl_types.specs.declared.ty.FieldType.{FieldType}
use Rattle.asl_types.specs.declared.ty.FieldType.TheVariants as f
use Rattle.asl_types.specs.declared.ty.Form.{Form}
use Rattle.asl_types.specs.declared.ty.Form.TheVariants as t
use Rattle.asl_types.specs.declared.ty.Ty.TheDeep.{deep-Form}
use Rattle.asl_rules.specs.types.Types.{Ty}
use Rattle.asl_types.specs.private.Heights.{height, heights_of_fields, heights_of_parts}
use Rattle.asl_types.specs.View.{form_view, fields_of, parts_of}

pub fields_fall : (fs : List FieldType) → deep-Form (t.Record [] fs) ≤ heights_of_fields (fields_of fs)
fields_fall [] = omega arith
fields_fall (f.Field name T ∷ fs) = omega (arith, fields_fall fs)

pub parts_fall : (Ts : List Ty) → deep-Form (t.Tuple Ts) ≤ heights_of_parts (parts_of Ts)
parts_fall [] = omega arith
parts_fall (T ∷ Ts) = omega (arith, parts_fall Ts)

pub deep_le_height : (n : Form) → max (deep-Form n) 0 ≤ height (form_view n)
deep_le_height (t.Integer ps) = omega arith
deep_le_height t.Boolean = omega arith
deep_le_height (t.Bits _ _) = omega arith
deep_le_height (t.Enumeration _ _) = omega arith
deep_le_height (t.Record _ fs) = omega (arith, fields_fall fs)
deep_le_height (t.Exception _ fs) = omega (arith, fields_fall fs)
deep_le_height (t.Tuple Ts) = omega (arith, parts_fall Ts)
deep_le_height (t.Array _ T) = omega arith
deep_le_height (t.Named _ _ T) = omega arith
