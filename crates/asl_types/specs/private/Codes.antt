-- The types of the rules as plain data of the code, by which one can be told from another.
use Rattle.std.specs.Prelude.{◌≡◌, ℕ, List, [], ◌∷◌, map, refl}
use Rattle.std.specs.Coded.{Coded, code_by, coded_list}
use Rattle.std.proofs.Common.{ap, ◌∙◌}
use Rattle.asl_types.specs.declared.plain.Plain.{Plain, roll-Plain}
use Rattle.asl_types.specs.declared.plain.PlainField.{PlainField, roll-PlainField}
use Rattle.asl_types.specs.declared.plain.Plain.TheOpen as p
use Rattle.asl_types.specs.declared.plain.Plain.TheFolds.{fold-Plain, fold-PlainField, fold-roll-Plain, fold-roll-PlainField}
use Rattle.asl_types.specs.contracts.plain.Plain as plain_in_code
use Rattle.asl_rules.specs.types.Types as rules

abbrev mutual
  pub plain : rules.Ty → Plain
  plain (rules.integer_of ps) = roll-Plain (p.Integer ps)
  plain rules.boolean = roll-Plain p.Boolean
  plain (rules.bits_of w view) = roll-Plain (p.Bits w view)
  plain (rules.enumeration_of n ls) = roll-Plain (p.Enumeration n ls)
  plain (rules.record_of n fs) = roll-Plain (p.Record n (plain_fields fs))
  plain (rules.exception_of n fs) = roll-Plain (p.Exception n (plain_fields fs))
  plain (rules.tuple_of Ts) = roll-Plain (p.Tuple (plain_parts Ts))
  plain (rules.array_of n T) = roll-Plain (p.Array n (plain T))
  plain (rules.named n ns T) = roll-Plain (p.Named n ns (plain T))

  pub plain_fields : rules.Fields → List PlainField
  plain_fields rules.no_field = []
  plain_fields (rules.field f T fs) = roll-PlainField (p.Field f (plain T)) ∷ plain_fields fs

  pub plain_parts : rules.Parts → List Plain
  plain_parts rules.no_part = []
  plain_parts (rules.part T Ts) = plain T ∷ plain_parts Ts

-- a field with its type
pub record Of : Type 0 where
  pub name : List ℕ
  pub ty : rules.Ty

abbrev pub parts_of : List rules.Ty → rules.Parts
parts_of [] = rules.no_part
parts_of (T ∷ Ts) = rules.part T (parts_of Ts)

abbrev pub fields_of : List Of → rules.Fields
fields_of [] = rules.no_field
fields_of (f ∷ fs) = rules.field f.name f.ty (fields_of fs)

abbrev pub field_rule : p.PlainField-F rules.Ty Of → Of
field_rule (p.Field f T) = record { name = f; ty = T }

abbrev pub ty_rule : p.Plain-F rules.Ty Of → rules.Ty
ty_rule (p.Integer ps) = rules.integer_of ps
ty_rule p.Boolean = rules.boolean
ty_rule (p.Bits w view) = rules.bits_of w view
ty_rule (p.Enumeration n ls) = rules.enumeration_of n ls
ty_rule (p.Record n fs) = rules.record_of n (fields_of fs)
ty_rule (p.Exception n fs) = rules.exception_of n (fields_of fs)
ty_rule (p.Tuple Ts) = rules.tuple_of (parts_of Ts)
ty_rule (p.Array n T) = rules.array_of n T
ty_rule (p.Named n ns T) = rules.named n ns T

abbrev ty_of : Plain → rules.Ty
ty_of = fold-Plain rules.Ty Of ty_rule field_rule

abbrev field_of : PlainField → Of
field_of = fold-PlainField rules.Ty Of ty_rule field_rule

mutual
  pub again : (T : rules.Ty) → ty_of (plain T) ≡ T
  again (rules.integer_of ps) = fold-roll-Plain rules.Ty Of ty_rule field_rule (p.Integer ps)
  again rules.boolean = fold-roll-Plain rules.Ty Of ty_rule field_rule p.Boolean
  again (rules.bits_of w view) = fold-roll-Plain rules.Ty Of ty_rule field_rule (p.Bits w view)
  again (rules.enumeration_of n ls) = fold-roll-Plain rules.Ty Of ty_rule field_rule (p.Enumeration n ls)
  again (rules.record_of n fs) = fold-roll-Plain rules.Ty Of ty_rule field_rule (p.Record n (plain_fields fs)) ∙ ap (λ Ts. rules.record_of n Ts) (fields_again fs)
  again (rules.exception_of n fs) = fold-roll-Plain rules.Ty Of ty_rule field_rule (p.Exception n (plain_fields fs)) ∙ ap (λ Ts. rules.exception_of n Ts) (fields_again fs)
  again (rules.tuple_of Ts) = fold-roll-Plain rules.Ty Of ty_rule field_rule (p.Tuple (plain_parts Ts)) ∙ ap (λ Us. rules.tuple_of Us) (parts_again Ts)
  again (rules.array_of n T) = fold-roll-Plain rules.Ty Of ty_rule field_rule (p.Array n (plain T)) ∙ ap (λ U. rules.array_of n U) (again T)
  again (rules.named n ns T) = fold-roll-Plain rules.Ty Of ty_rule field_rule (p.Named n ns (plain T)) ∙ ap (λ U. rules.named n ns U) (again T)

  pub fields_again : (fs : rules.Fields) → fields_of (map field_of (plain_fields fs)) ≡ fs
  fields_again rules.no_field = refl
  fields_again (rules.field f T fs) =
      ap (λ (o : Of). rules.field o.name o.ty (fields_of (map field_of (plain_fields fs)))) (fold-roll-PlainField rules.Ty Of ty_rule field_rule (p.Field f (plain T)))
      ∙ λ i. rules.field f (again T i) (fields_again fs i)

  pub parts_again : (Ts : rules.Parts) → parts_of (map ty_of (plain_parts Ts)) ≡ Ts
  parts_again rules.no_part = refl
  parts_again (rules.part T Ts) = λ i. rules.part (again T i) (parts_again Ts i)

abbrev pub ty_code : Coded rules.Ty
ty_code = code_by Plain plain_in_code.the_row.coded plain ty_of again

abbrev pub parts_code : Coded rules.Parts
parts_code = code_by (List Plain) (coded_list plain_in_code.the_row.coded) plain_parts (λ ps. parts_of (map ty_of ps)) parts_again
