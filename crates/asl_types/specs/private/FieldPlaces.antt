-- The fields of types, and their places by their names.
use Rattle.std.specs.Prelude.{ℕ, suc, List, [], ◌∷◌, Option, Some, None, option_map, slice_get}
use Rattle.asl_types.specs.declared.ty.FieldType.{FieldType}
use Rattle.asl_types.specs.declared.ty.FieldType.TheVariants as f
use Rattle.asl_types.specs.declared.ty.Form.{Form}
use Rattle.asl_types.specs.declared.ty.Form.TheVariants as t
use Rattle.asl_rules.specs.types.Types as rules
use Rattle.asl_types.specs.private.NamePlaces.{Places, put}

abbrev pub with_field : FieldType → ℕ → Places → Places
with_field (f.Field name T) n ps = put name n ps

-- the places of these fields, of which the first stands at this place: of each name that of the first field that has it
abbrev pub places_from : ℕ → List FieldType → Places
places_from n [] = []
places_from n (x ∷ fs) = with_field x n (places_from (suc n) fs)

abbrev pub type_of : FieldType → rules.Ty
type_of (f.Field name T) = T

-- the type of the field in this place, with the place
abbrev pub field_at : List FieldType → Option ℕ → Option (ℕ × rules.Ty)
field_at fs None = None
field_at fs (Some n) = option_map (λ x. (n, type_of x)) (slice_get fs n)

-- the places that are kept, where some are
abbrev pub places_in : Option Places → Places
places_in None = []
places_in (Some ps) = ps

-- the fields that stand in a form
abbrev pub fields_of_form : Form → List FieldType
fields_of_form (t.Record n fs) = fs
fields_of_form (t.Exception n fs) = fs
fields_of_form (t.Integer ps) = []
fields_of_form t.Boolean = []
fields_of_form (t.Bits w view) = []
fields_of_form (t.Enumeration n ls) = []
fields_of_form (t.Tuple Ts) = []
fields_of_form (t.Array n T) = []
fields_of_form (t.Named n ns T) = []

-- the fields of a record or an exception, and none of what a declared name stands for
abbrev pub own_fields : rules.Ty → rules.Fields
own_fields (rules.record_of n fs) = fs
own_fields (rules.exception_of n fs) = fs
own_fields (rules.integer_of ps) = rules.no_field
own_fields rules.boolean = rules.no_field
own_fields (rules.bits_of w view) = rules.no_field
own_fields (rules.enumeration_of n ls) = rules.no_field
own_fields (rules.tuple_of Ts) = rules.no_field
own_fields (rules.array_of n T) = rules.no_field
own_fields (rules.named n ns T) = rules.no_field
