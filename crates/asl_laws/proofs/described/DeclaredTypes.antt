-- Each declared type stands for what evaluating its declaration gives, and each label for its value.
use Rattle.std.proofs.Common.{◌≡◌, ℕ, inl, inr, Bool, true, false, cond, List, [], ◌∷◌, ◌++◌, Option, Some, None, Ok, refl, sym, ap, ap₂, ◌∙◌, subst, map}
use Rattle.std.specs.Prelude.{option_map, option_and_then}
use Rattle.std.specs.Str.{bytes_eq}
use Rattle.asl_syn.specs.declared.code.StaticCode.TheVariants.{T02, T15, T25}
use Rattle.asl_syn.specs.declared.token.Span.{Span}
use Rattle.asl_syn.specs.declared.tree.Ident.{Ident}
use Rattle.asl_syn.specs.declared.tree.Formal.{Formal}
use Rattle.asl_syn.specs.declared.tree.TypeDef.{TypeDef}
use Rattle.asl_syn.specs.declared.tree.TypeDef.TheVariants as td
use Rattle.asl_syn.specs.declared.tree.TypeDecl.{TypeDecl}
use Rattle.asl_syn.specs.declared.tree.Decl.{Decl}
use Rattle.asl_syn.specs.declared.tree.Decl.TheVariants as dc
use Rattle.asl_rules.specs.Faults.{need, found_or}
use Rattle.asl_rules.specs.Tests.{Tests}
use Rattle.asl_rules.specs.types.Types as types
use Rattle.asl_rules.specs.types.Types.{Ty, Fields, field, record_of, exception_of, named, structure, misfit}
use Rattle.asl_rules.specs.types.Closed as cl
use Rattle.asl_rules.specs.types.Closed.{Closed, closed, fields_with}
use Rattle.asl_rules.specs.values.Values.{label}
use Rattle.asl_rules.specs.declarations.Names.{Declared, declared_as, declared_by, labels_of, all_declared}
use Rattle.asl_rules.specs.declarations.Scopes.{Entry, Standing, Stored, Subprogram, TypeName, Label, type_name, label_name, standing_of, type_in, type_of_name}
use Rattle.asl_rules.specs.types.Widths.{bounded}
use Rattle.asl_rules.specs.expressions.Exprs.{written}
use Rattle.asl_rules.specs.private.Agreement.{no_atoms}
use Rattle.asl_rules.specs.private.Judgements.{CameOf}
use Rattle.asl_rules.specs.declarations.Declarations.{in_names, fields_written, once, labels, def_rule, reached, is_none, supertype_rule, label_entries, type_entries}
use Rattle.asl_rules.specs.declarations.Turns.{Fine, final, names_of_program}
use Rattle.asl_rules.specs.declarations.Programs.{Environment, environment}
use Rattle.asl_rules.specs.runs.Evaluation.{label_in}
use Rattle.asl_laws.specs.Described.{structure_at, with_field, written_fields, definition, names_at, supertypes, LabelsDescribed, DefinitionDescribed, TypeDescribed}
use Rattle.asl_rules.proofs.basics.Inversions.{ok_ok, bind_ok, then_ok, found_ok}
use Rattle.asl_rules.proofs.basics.Tests.{no, some_same, none_some, same_name, name_is}
use Rattle.asl_rules.proofs.scopes.EachOnce.{turned}
use Rattle.asl_rules.proofs.verdict.Distinct.{ApartFrom, Distinct, NotIn, apart_later, rest_distinct, IsPlain, In}
use Rattle.asl_rules.proofs.verdict.Named.{final_stands, own_stands}
use Rattle.asl_laws.proofs.described.Forms.{GoesBy, formed}
use Rattle.asl_laws.proofs.described.WrittenTypes.{Outside, written_is}

-- ---- types without the names that they go by

structure_same : (T : Ty) → structure_at (closed T) ≡ closed (structure T)
structure_same (types.integer_of ps) = refl
structure_same types.boolean = refl
structure_same (types.bits_of w u) = refl
structure_same (types.enumeration_of name ls) = refl
structure_same (record_of name fs) = refl
structure_same (exception_of name fs) = refl
structure_same (types.tuple_of ts) = refl
structure_same (types.array_of n T) = refl
structure_same (named name supers T) = structure_same T

-- ---- names that are declared

first_apart : (x : Declared) (ys zs : List Declared) → ApartFrom x (ys ++ zs) → ApartFrom x ys
first_apart x [] zs a = tt
first_apart x (y ∷ ys) zs a = (a.0, first_apart x ys zs a.1)

first_distinct : (xs ys : List Declared) → Distinct (xs ++ ys) → Distinct xs
first_distinct [] ys d = tt
first_distinct (x ∷ xs) ys d = (d.0, first_apart x xs ys d.1, first_distinct xs ys d.2)

distinct_in : (ds : List Decl) (d : Decl) → In d ds → Distinct (all_declared ds) → Distinct (declared_by d)
distinct_in [] d i x = absurd i
distinct_in (e ∷ ds) d (inl q) x = subst (λ z. Distinct (declared_by z)) q (first_distinct (declared_by e) (all_declared ds) x)
distinct_in (e ∷ ds) d (inr i) x = distinct_in ds d i (rest_distinct (declared_by e) (all_declared ds) x)

abbrev label_entry : List ℕ → Ty → Ident → Entry
label_entry name T i = label_name i.text T (label name i.text)

-- a label among labels
label_found : (name : List ℕ) (T : Ty) (is : List Ident) (i : Ident) → In i is → standing_of i.text (map (label_entry name T) is) ≡ Some (Label T (label name i.text))
label_found name T [] i j = absurd j
label_found name T (k ∷ is) i j = by (bytes_eq k.text i.text) refl j (label_found name T is i)
  where
    by : (b : Bool) → bytes_eq k.text i.text ≡ b → In i (k ∷ is) → (In i is → standing_of i.text (map (label_entry name T) is) ≡ Some (Label T (label name i.text))) → cond b (Some (Label T (label name k.text))) (standing_of i.text (map (label_entry name T) is)) ≡ Some (Label T (label name i.text))
    by true q j next = ap (λ n. Some (Label T (label name n))) (same_name k.text i.text q)
    by false q (inr j) next = next j
    by false q (inl e) next = no (sym q ∙ ap (λ (z : Ident). bytes_eq z.text i.text) e ∙ name_is i.text)

type_standing : (o : Option Standing) (T : Ty) → type_in o ≡ Some T → o ≡ Some (TypeName T)
type_standing (Some (TypeName U)) T h = ap (λ V. Some (TypeName V)) (some_same U T h)
type_standing (Some (Stored s)) T h = none_some T h
type_standing (Some Subprogram) T h = none_some T h
type_standing (Some (Label U x)) T h = none_some T h
type_standing None T h = none_some T h

module _ (t : Tests) (ds : List Decl) (g : Outside t ds) where
  abbrev names : List Entry
  names = names_of_program t ds

  abbrev env : Environment
  env = environment t ds

  -- what a declaration brings is visible
  pub stands : (d : Decl) (es : List Entry) (name : List ℕ) (st : Standing) → CameOf d (Fine es) ds (final t ds) →
      standing_of name es ≡ Some st → IsPlain st → standing_of name names ≡ Some st
  stands d es name st c h p = own_stands ds (final t ds) d (Fine es) name st (final_stands t ds) g.distinct c h p

  -- ---- what a declared type stands for

  fields_are : (fs : List Formal) (Fs : Fields) → fields_written t fs (in_names names) ≡ Ok Fs → written_fields env fs ≡ Some (fields_with Fs no_atoms)
  fields_are [] Fs h = ap (λ z. Some (fields_with z no_atoms)) (ok_ok types.no_field Fs h)
  fields_are (f ∷ fs) Fs h =
      let w = bind_ok (written t f.ty true (in_names names)) _ Fs h in
      let r = bind_ok (fields_written t fs (in_names names)) _ Fs w.then in
      ap₂ (with_field f.name.text) (written_is t ds g f.ty true w.value w.first) (fields_are fs r.value r.first)
      ∙ ap (λ z. Some (fields_with z no_atoms)) (ok_ok (field f.name.text w.value.ty r.value) Fs r.then)

  bounded_is : (span : Span) (S T : Ty) → bounded span S ≡ Ok T → S ≡ T
  bounded_is span S T h = let u = then_ok _ (Ok S) T h in ok_ok S T u.then

  definition_is : (name : List ℕ) (def : TypeDef) (T : Ty) → def_rule t name def (in_names names) ≡ Ok T → definition env name def ≡ Some (closed (structure T))
  definition_is name (td.Alias ty) T h =
      let w = bind_ok (written t ty true (in_names names)) _ T h in
      ap (option_map structure_at) (written_is t ds g ty true w.value w.first) ∙ ap Some (structure_same w.value.ty) ∙ ap (λ z. Some (closed (structure z))) (ok_ok w.value.ty T w.then)
  definition_is name (td.Labels span is) T h = ap (λ z. Some (closed (structure z))) (ok_ok (types.enumeration_of name (labels is)) T h)
  definition_is name (td.Record span fs) T h =
      let r = bind_ok (fields_written t fs (in_names names)) _ T h in
      let n = then_ok (need (once fs []) T15 span) (bounded span (record_of name r.value)) T r.then in
      ap (option_map (λ Fs. cl.record_of name Fs)) (fields_are fs r.value r.first) ∙ ap (λ z. Some (closed (structure z))) (bounded_is span (record_of name r.value) T n.then)
  definition_is name (td.Exception span fs) T h =
      let r = bind_ok (fields_written t fs (in_names names)) _ T h in
      let n = then_ok (need (once fs []) T15 span) (bounded span (exception_of name r.value)) T r.then in
      ap (option_map (λ Fs. cl.exception_of name Fs)) (fields_are fs r.value r.first) ∙ ap (λ z. Some (closed (structure z))) (bounded_is span (exception_of name r.value) T n.then)

  reached_is : (name : List ℕ) (U : Ty) → GoesBy name U → names_at (closed U) ≡ reached name U
  reached_is name U b = subst (λ V. names_at (closed V) ≡ reached name V) b.is refl

  supertypes_are : (o : Option Ident) (T : Ty) (supers : List (List ℕ)) → supertype_rule t o T (in_names names) ≡ Ok supers → supertypes env o ≡ Some supers
  supertypes_are None T supers h = ap Some (ok_ok [] supers h)
  supertypes_are (Some u) T supers h =
      let f = bind_ok (found_or (type_of_name u.text names) T02 u.span) _ supers h in
      let U = f.value in
      let n = then_ok (need (is_none (misfit t (structure T) (structure U))) T25 u.span) (Ok (reached u.text U)) supers f.then in
      let k : type_of_name u.text names ≡ Some U = found_ok (type_of_name u.text names) T02 u.span U f.first in
      let b : GoesBy u.text U = formed t ds u.text (TypeName U) (type_standing (standing_of u.text names) U k) in
      ap (λ o. option_map names_at (option_map closed o)) k ∙ ap Some (reached_is u.text U b) ∙ ap Some (ok_ok (reached u.text U) supers n.then)

  -- ---- labels

  labels_are : (d : Decl) (es : List Entry) (name : List ℕ) (T : Ty) (own : Entry) (is js : List Ident) →
      CameOf d (Fine es) ds (final t ds) → es ≡ own ∷ map (label_entry name T) is → NotIn own.name (map (declared_as false) js) →
      ((i : Ident) → In i js → In i is) → LabelsDescribed env name js
  labels_are d es name T own is [] c e n f = tt
  labels_are d es name T own is (j ∷ js) c e n f =
      let here : standing_of j.text es ≡ Some (Label T (label name j.text)) =
      ap (standing_of j.text) e ∙ ap (λ b. cond b (Some own.standing) (standing_of j.text (map (label_entry name T) is))) (turned j.text own.name n.0) ∙ label_found name T is j (f j (inl refl)) in (
        ap label_in (stands d es j.text (Label T (label name j.text)) c here tt),
        labels_are d es name T own is js c e n.1 (λ k m. f k (inr m)),
      )

  def_described : (d : TypeDecl) (def : TypeDef) (es : List Entry) (T : Ty) → CameOf (dc.Type d) (Fine es) ds (final t ds) →
      es ≡ type_name d.name.text T ∷ label_entries def d.name.text T → NotIn d.name.text (map (declared_as false) (labels_of def)) →
      DefinitionDescribed env d.name.text def
  def_described d (td.Alias ty) es T c e n = tt
  def_described d (td.Labels span is) es T c e n = labels_are (dc.Type d) es d.name.text T (type_name d.name.text T) is is c e n (λ k m. m)
  def_described d (td.Record span fs) es T c e n = tt
  def_described d (td.Exception span fs) es T c e n = tt

  -- ---- a declaration

  pub type_described : (d : TypeDecl) → In (dc.Type d) ds → TypeDescribed env d
  type_described d i =
      let b = g.brings (dc.Type d) i refl in
      let name = d.name.text in
      let v = bind_ok (def_rule t name d.def (in_names names)) _ b.entries b.gives in
      let s = bind_ok (supertype_rule t d.supertype v.value (in_names names)) _ b.entries v.then in
      let T : Ty = named name s.value (structure v.value) in
      let e : b.entries ≡ type_entries d T = sym (ok_ok (type_entries d T) b.entries s.then) in
      let here : standing_of name b.entries ≡ Some (TypeName T) = ap (standing_of name) e ∙ ap (λ c. cond c (Some (TypeName T)) (standing_of name (label_entries d.def name T))) (name_is name) in
      let known : standing_of name names ≡ Some (TypeName T) = stands (dc.Type d) b.entries name (TypeName T) b.is_of here tt in
      let apart = (distinct_in ds (dc.Type d) i g.distinct).1 in
      record {
        stands_for = closed T;
        is = ap (option_and_then (λ C. option_map (λ supers. cl.named name supers C) (supertypes env d.supertype))) (definition_is name d.def v.value v.first)
            ∙ ap (option_map (λ supers. cl.named name supers (closed (structure v.value)))) (supertypes_are d.supertype v.value s.value s.first);
        stands = ap (λ o. option_map closed (type_in o)) known;
        def =
            def_described d d.def b.entries T b.is_of e
            (apart_later (declared_as false d.name) (map (declared_as false) (labels_of d.def)) refl apart);
      }
