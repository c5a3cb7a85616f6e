-- Declarations of types and of storage, in any order: each is judged where all that it uses is well formed.
use Rattle.std.specs.Prelude.{ℕ, Bool, true, false, ◌&&◌, not, List, [], ◌∷◌, ◌++◌, map, Option, Some, None, Result, Ok, Err}
use Rattle.asl_syn.specs.declared.token.Span.{Span}
use Rattle.asl_syn.specs.declared.code.Fault.{Fault}
use Rattle.asl_syn.specs.declared.code.StaticCode.TheVariants.{S03, T02, T04, T15, T25}
use Rattle.asl_syn.specs.declared.tree.Expr.{Expr}
use Rattle.asl_syn.specs.declared.tree.TypeExpr.{TypeExpr}
use Rattle.asl_syn.specs.declared.tree.Ident.{Ident}
use Rattle.asl_syn.specs.declared.tree.Formal.{Formal}
use Rattle.asl_syn.specs.declared.tree.TypeDef.{TypeDef}
use Rattle.asl_syn.specs.declared.tree.TypeDef.TheVariants as td
use Rattle.asl_syn.specs.declared.tree.TypeDecl.{TypeDecl}
use Rattle.asl_syn.specs.declared.tree.StorageKind.{StorageKind}
use Rattle.asl_syn.specs.declared.tree.StorageKind.TheVariants as storage
use Rattle.asl_syn.specs.declared.tree.StorageDecl.{StorageDecl}
use Rattle.asl_syn.specs.declared.tree.Decl.{Decl}
use Rattle.asl_syn.specs.declared.tree.Decl.TheVariants as dc
use Rattle.asl_rules.specs.declared.effect.Effect.TheVariants.{Writes}
use Rattle.asl_rules.specs.Faults.{◌>>=◌, ◌>>◌, need, none_at, fault, found_or, fitted}
use Rattle.asl_rules.specs.Tests.{Tests}
use Rattle.asl_rules.specs.types.Types.{Ty, Fields, enumeration_of, record_of, exception_of, named, no_field, field, structure, misfit, widened}
use Rattle.asl_rules.specs.types.Closed.{closed}
use Rattle.asl_rules.specs.values.Values.{Value, label}
use Rattle.asl_rules.specs.types.Views.{viewed}
use Rattle.asl_rules.specs.types.Written.{first_value}
use Rattle.asl_rules.specs.declarations.Scopes.{Scope, Entry, global, subprogram, type_name, label_name, type_of_name}
use Rattle.asl_rules.specs.types.Widths.{bounded}
use Rattle.asl_rules.specs.values.Members.{has_name}
use Rattle.asl_rules.specs.expressions.Exprs.{typed, written, found, found_type}
use Rattle.asl_rules.specs.runs.Plans.{Faulted, Stuck, Pure, Good, Bad}
use Rattle.asl_rules.specs.declarations.Constants.{constant}
use Rattle.asl_rules.specs.declarations.Barred.{barred}

-- what a declaration is judged in
abbrev pub in_names : List Entry → Scope
in_names names = record { names = names; subs = []; class = Writes }

-- ---- types

-- the types of fields, in order
abbrev pub fields_written : Tests → List Formal → Scope → Result Fields Fault
fields_written t [] G = Ok no_field
fields_written t (f ∷ fs) G = written t f.ty true G >>= λ W. fields_written t fs G >>= λ Fs. Ok (field f.name.text W.ty Fs)

-- each field stands once
abbrev pub once : List Formal → List (List ℕ) → Bool
once [] before = true
once (f ∷ fs) before = not (has_name f.name.text before) && once fs (before ++ f.name.text ∷ [])

abbrev pub labels : List Ident → List (List ℕ)
labels [] = []
labels (i ∷ is) = i.text ∷ labels is

-- what a declared type stands for
abbrev pub def_rule : Tests → List ℕ → TypeDef → Scope → Result Ty Fault
def_rule t name (td.Alias ty) G = written t ty true G >>= λ W. Ok W.ty
def_rule t name (td.Labels span is) G = Ok (enumeration_of name (labels is))
def_rule t name (td.Record span fs) G = fields_written t fs G >>= λ Fs. need (once fs []) T15 span >> bounded span (record_of name Fs)
def_rule t name (td.Exception span fs) G = fields_written t fs G >>= λ Fs. need (once fs []) T15 span >> bounded span (exception_of name Fs)

-- the names that a declared type reaches
abbrev pub reached : List ℕ → Ty → List (List ℕ)
reached name (named n supers T) = n ∷ supers
reached name T = name ∷ []

abbrev pub is_none : {A : Type 0} → Option A → Bool
is_none None = true
is_none (Some x) = false

-- `subtypes U`: the structure fits that of U
abbrev pub supertype_rule : Tests → Option Ident → Ty → Scope → Result (List (List ℕ)) Fault
supertype_rule t None T G = Ok []
supertype_rule t (Some u) T G =
    found_or (type_of_name u.text G.names) T02 u.span >>= λ U.
    need (is_none (misfit t (structure T) (structure U))) T25 u.span >> Ok (reached u.text U)

abbrev pub label_entries : TypeDef → List ℕ → Ty → List Entry
label_entries (td.Labels span is) name T = map (λ (i : Ident). label_name i.text T (label name i.text)) is
label_entries (td.Alias ty) name T = []
label_entries (td.Record span fs) name T = []
label_entries (td.Exception span fs) name T = []

abbrev pub type_entries : TypeDecl → Ty → List Entry
type_entries d T = type_name d.name.text T ∷ label_entries d.def d.name.text T

-- a type declaration: the name with the structure that it stands for, and the labels of an enumeration
abbrev pub type_decl_rule : Tests → TypeDecl → Scope → Result (List Entry) Fault
type_decl_rule t d G =
    def_rule t d.name.text d.def G >>= λ T.
    supertype_rule t d.supertype T G >>= λ supers.
    Ok (type_entries d (named d.name.text supers (structure T)))

-- ---- storage

-- a constant that can't be evaluated: T04 at the faulting node, with the code of the evaluation
abbrev pub evaluated : Pure Value → Result Value Fault
evaluated (Good x) = Ok x
evaluated (Bad (Faulted code span)) = Err (record { code = T04; inner = Some code; span = span })
evaluated (Bad (Stuck mistake span)) = fault T04 span

-- the type and the initial value of global storage
pub record Initial : Type 0 where
  pub ty : Ty
  pub value : Value

abbrev pub with_type : Ty → Value → Initial
with_type T x = record { ty = T; value = x }

-- a place without a written type has that of what it begins with, a `var` without a constraint
abbrev pub unannotated : Bool → Ty → Ty
unannotated true T = widened T
unannotated false T = T

-- a constant, and what is evaluated where an initialiser stands
abbrev pub known : Tests → Expr → Scope → Result Value Fault
known t e G = evaluated (constant t.limit e G.names)

-- without an initialiser storage begins with the first value of its type, `T04 D16` at the type where that has none
abbrev pub first_in : Tests → Span → Ty → Result Initial Fault
first_in t at T = evaluated (first_value t.limit at (closed T)) >>= λ x. Ok (with_type T x)

-- an initialiser holds no call and no global `var`, before all else; then it has a type, fits, and is evaluated
abbrev pub storage_rule : Tests → StorageDecl → Bool → Option TypeExpr → Option Expr → Scope → Result Initial Fault
storage_rule t d is_var None None G = fault S03 d.span
storage_rule t d is_var (Some ty) None G = written t ty true G >>= λ W. first_in t (found_type t ty).span W.ty
storage_rule t d is_var None (Some e) G =
    none_at T04 (barred e G.names) >>
    typed t e G >>= λ S. known t e G >>= λ x. Ok (with_type (unannotated is_var S.ty) x)
storage_rule t d is_var (Some ty) (Some e) G =
    none_at T04 (barred e G.names) >>
    written t ty true G >>= λ W. typed t e G >>= λ S.
    fitted (misfit t S.ty W.ty) (found t e).span >>
    known t e G >>= λ x. Ok (with_type W.ty (viewed (closed W.ty) x))

abbrev pub is_var : StorageKind → Bool
is_var storage.Constant = false
is_var storage.Let = false
is_var storage.Var = true

abbrev pub storage_decl_rule : Tests → StorageDecl → Scope → Result (List Entry) Fault
storage_decl_rule t d G = storage_rule t d (is_var d.kind) d.ty d.init G >>= λ s. Ok (global d.name.text s.ty (is_var d.kind) s.value ∷ [])

-- ---- both

-- what a declaration brings into the scope of all bodies
abbrev pub decl_rule : Tests → Decl → Scope → Result (List Entry) Fault
decl_rule t (dc.Type d) G = type_decl_rule t d G
decl_rule t (dc.Storage d) G = storage_decl_rule t d G
decl_rule t (dc.Func f) G = Ok (subprogram f.name.text ∷ [])
