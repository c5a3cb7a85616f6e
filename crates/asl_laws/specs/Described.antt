-- What the names outside bodies stand for, by the declarations alone: no static rule is cited, so that what a run does doesn't hang on the verdict.
use Rattle.std.specs.Prelude.{◌≡◌, ℕ, ◌==◌, ℤ, List, [], ◌∷◌, if◌then◌else◌, Option, Some, None, option_map, option_and_then}
use Rattle.asl_syn.specs.declared.tree.Expr.{Expr}
use Rattle.asl_syn.specs.declared.tree.TypeExpr.{TypeExpr}
use Rattle.asl_syn.specs.declared.tree.Ident.{Ident}
use Rattle.asl_syn.specs.declared.tree.Formal.{Formal}
use Rattle.asl_syn.specs.declared.tree.TypeDef.{TypeDef}
use Rattle.asl_syn.specs.declared.tree.TypeDef.TheVariants as td
use Rattle.asl_syn.specs.declared.tree.TypeDecl.{TypeDecl}
use Rattle.asl_syn.specs.declared.tree.StorageDecl.{StorageDecl}
use Rattle.asl_syn.specs.declared.tree.Decl.{Decl}
use Rattle.asl_syn.specs.declared.tree.Decl.TheVariants as dc
use Rattle.asl_num.specs.Exact.{floor_mod}
use Rattle.asl_poly.specs.Fractions.{Fraction}
use Rattle.asl_rules.specs.types.Closed as cl
use Rattle.asl_rules.specs.types.Closed.{Closed, ClosedFields, closed, floor}
use Rattle.asl_rules.specs.values.Values.{Value, int, label}
use Rattle.asl_rules.specs.types.Views.{viewed}
use Rattle.asl_rules.specs.declarations.Scopes.{Storage, standing_of, storage_of}
use Rattle.asl_rules.specs.declarations.Declarations.{labels, is_var}
use Rattle.asl_rules.specs.runs.Plans.{Pure, Good}
use Rattle.asl_rules.specs.runs.Pures.{◌>>=◌, found_type}
use Rattle.asl_rules.specs.types.Numbers.{Numbers, integer_of_value, wholes, all_fractions}
use Rattle.asl_rules.specs.types.Shaped.{sizes_in}
use Rattle.asl_rules.specs.types.Written.{Sized, type_span}
use Rattle.asl_rules.specs.declarations.Constants.{constant}
use Rattle.asl_rules.specs.declarations.Programs.{Environment}
use Rattle.asl_rules.specs.runs.Evaluation.{types_of, type_at, sized_at, label_in}

-- the integers of the names that can't be assigned
abbrev pub fixed_storage : Storage → Option ℤ
fixed_storage s = if s.is_mutable then None else option_and_then integer_of_value s.initial

abbrev pub known_numbers : Environment → Numbers
known_numbers env name = option_and_then fixed_storage (storage_of name env.names)

abbrev pub written_type : Environment → TypeExpr → Option Closed
written_type env t = type_at env (known_numbers env) t

-- ---- types

-- a type without the names that it goes by
abbrev pub structure_at : Closed → Closed
structure_at (cl.integer_in c) = cl.integer_in c
structure_at cl.boolean = cl.boolean
structure_at (cl.bits_of w u) = cl.bits_of w u
structure_at (cl.enumeration_of name ls) = cl.enumeration_of name ls
structure_at (cl.record_of name fs) = cl.record_of name fs
structure_at (cl.exception_of name fs) = cl.exception_of name fs
structure_at (cl.tuple_of ts) = cl.tuple_of ts
structure_at (cl.array_of n k T) = cl.array_of n k T
structure_at (cl.named name supers T) = structure_at T

abbrev pub with_field : List ℕ → Option Closed → Option ClosedFields → Option ClosedFields
with_field f o rest = option_and_then (λ T. option_map (λ fs. cl.field f T fs) rest) o

abbrev pub written_fields : Environment → List Formal → Option ClosedFields
written_fields env [] = Some cl.no_field
written_fields env (f ∷ fs) = with_field f.name.text (written_type env f.ty) (written_fields env fs)

abbrev pub definition : Environment → List ℕ → TypeDef → Option Closed
definition env name (td.Alias t) = option_map structure_at (written_type env t)
definition env name (td.Labels span is) = Some (cl.enumeration_of name (labels is))
definition env name (td.Record span fs) = option_map (λ Fs. cl.record_of name Fs) (written_fields env fs)
definition env name (td.Exception span fs) = option_map (λ Fs. cl.exception_of name Fs) (written_fields env fs)

-- the names that a type reaches
abbrev pub names_at : Closed → List (List ℕ)
names_at (cl.named name supers T) = name ∷ supers
names_at T = []

abbrev pub supertypes : Environment → Option Ident → Option (List (List ℕ))
supertypes env None = Some []
supertypes env (Some u) = option_map names_at (types_of env u.text)

abbrev pub declared_type : Environment → TypeDecl → Option Closed
declared_type env d = option_and_then (λ T. option_map (λ supers. cl.named d.name.text supers T) (supertypes env d.supertype)) (definition env d.name.text d.def)

-- each label stands for its value
abbrev pub LabelsDescribed : Environment → List ℕ → List Ident → Type 0
LabelsDescribed env name [] = Unit {0}
LabelsDescribed env name (i ∷ is) = (label_in (standing_of i.text env.names) ≡ Some (label name i.text)) × LabelsDescribed env name is

abbrev pub DefinitionDescribed : Environment → List ℕ → TypeDef → Type 0
DefinitionDescribed env name (td.Alias t) = Unit {0}
DefinitionDescribed env name (td.Labels span is) = LabelsDescribed env name is
DefinitionDescribed env name (td.Record span fs) = Unit {0}
DefinitionDescribed env name (td.Exception span fs) = Unit {0}

pub record TypeDescribed (env : Environment) (d : TypeDecl) : Type 0 where
  pub stands_for : Closed
  pub is : declared_type env d ≡ Some stands_for
  pub stands : types_of env d.name.text ≡ Some stands_for
  pub def : DefinitionDescribed env d.name.text d.def

-- ---- storage

-- the integers that fractions are, where all are whole
abbrev pub whole_value : Fraction → Option Value
whole_value r = if floor_mod r.number r.denominator == 0 then Some (int (floor r)) else None

abbrev pub whole_values : List Fraction → Option (List Value)
whole_values [] = Some []
whole_values (r ∷ rs) = option_and_then (λ x. option_map (λ xs. x ∷ xs) (whole_values rs)) (whole_value r)

abbrev pub sized_known : Environment → TypeExpr → Option Sized
sized_known env t = option_and_then (sized_at env t) (option_and_then whole_values (all_fractions (wholes (known_numbers env)) (sizes_in t)))

-- storage begins with its initialiser, or with the first value of its type
abbrev pub begins_with : Environment → Option TypeExpr → Option Expr → Option (Pure Value)
begins_with env None None = None
begins_with env (Some t) None = Some (found_type (type_span t) (sized_known env t) >>= λ s. s.first)
begins_with env None (Some e) = Some (constant env.limit e env.names)
begins_with env (Some t) (Some e) = Some (found_type (type_span t) (written_type env t) >>= λ T. constant env.limit e env.names >>= λ x. Good (viewed T x))

abbrev pub HasWritten : Environment → Option TypeExpr → Storage → Type 0
HasWritten env None s = Unit {0}
HasWritten env (Some t) s = written_type env t ≡ Some (closed s.ty)

pub record StorageDescribed (env : Environment) (d : StorageDecl) : Type 0 where
  pub storage : Storage
  pub stands : storage_of d.name.text env.names ≡ Some storage
  pub mutable : storage.is_mutable ≡ is_var d.kind
  pub value : Value
  pub is : begins_with env d.ty d.init ≡ Some (Good value)
  pub begins : storage.initial ≡ Some value
  pub has : HasWritten env d.ty storage

-- ---- all declarations

abbrev pub Described : Environment → Decl → Type 0
Described env (dc.Type d) = TypeDescribed env d
Described env (dc.Storage d) = StorageDescribed env d
Described env (dc.Func f) = Unit {0}

abbrev pub AllDescribed : Environment → List Decl → Type 0
AllDescribed env [] = Unit {0}
AllDescribed env (d ∷ ds) = Described env d × AllDescribed env ds

-- the names of an environment are those of its declarations
abbrev pub Describes : Environment → Type 0
Describes env = AllDescribed env env.decls
