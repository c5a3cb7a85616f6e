-- The fields of a record are less high than the record.
use Rattle.std.proofs.Common.{◌≡◌, ℕ, suc, ◌*◌, ◌≤◌, List, [], ◌∷◌, sym, ap, ◌∙◌, arith}
use Rattle.std.specs.Prelude.{max}
use denote.Param.Weighed.{most}
use Rattle.asl_rules.specs.types.Types.{Ty}
use Rattle.asl_types.specs.declared.ty.FieldType.{FieldType}
use Rattle.asl_types.specs.declared.ty.FieldType.TheVariants as f
use Rattle.asl_types.specs.declared.ty.Form.{Form}
use Rattle.asl_types.specs.declared.ty.Form.TheVariants as t
use Rattle.asl_types.specs.declared.ty.Ty.TheDeep.{size-FieldType}
use Rattle.asl_types.specs.private.Heights.{height, heights_of_fields}
use Rattle.asl_types.specs.View.{form_view, fields_of}

field_below : (name : List ℕ) (T : Ty) → size-FieldType (f.Field name T) ≤ 3 * suc (suc (height T))
field_below name T = omega arith

fields_below : (n m k h : ℕ) → n ≤ 3 * suc (suc h) → m ≤ 3 * suc k → max n m ≤ 3 * suc (max (suc h) k)
fields_below n m k h e g = omega arith

most_fields : (fs : List FieldType) → most size-FieldType fs ≤ 3 * suc (heights_of_fields (fields_of fs))
most_fields [] = omega arith
most_fields (f.Field name T ∷ fs) = fields_below (size-FieldType (f.Field name T)) (most size-FieldType fs) (heights_of_fields (fields_of fs)) (height T) (field_below name T) (most_fields fs)

pub record_higher : (g : Form) (T : Ty) (name : List ℕ) (fs us : List FieldType) → form_view g ≡ T → g ≡ t.Record name fs → us ≡ fs → most size-FieldType us ≤ 3 * height T
record_higher g T name fs us e h s =
    let higher : height T ≡ suc (heights_of_fields (fields_of fs)) = ap height (sym e ∙ ap form_view h) in
    let same : most size-FieldType us ≡ most size-FieldType fs = ap (most size-FieldType) s in
    omega (arith, most_fields fs, higher, same)

pub exception_higher : (g : Form) (T : Ty) (name : List ℕ) (fs us : List FieldType) → form_view g ≡ T → g ≡ t.Exception name fs → us ≡ fs → most size-FieldType us ≤ 3 * height T
exception_higher g T name fs us e h s =
    let higher : height T ≡ suc (heights_of_fields (fields_of fs)) = ap height (sym e ∙ ap form_view h) in
    let same : most size-FieldType us ≡ most size-FieldType fs = ap (most size-FieldType) s in
    omega (arith, most_fields fs, higher, same)
