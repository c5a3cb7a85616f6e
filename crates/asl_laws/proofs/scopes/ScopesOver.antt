-- The scopes of a program: the types of names outside bodies have no atoms, and the types of the names of a body have atoms of names of that body alone. So a
-- type is the same type for two assignments that agree on the atoms of its scope.
use Rattle.std.proofs.Common.{◌≡◌, ℕ, suc, Bool, true, false, pos, List, [], ◌∷◌, length, Option, Some, None, Ok, refl, sym, ap, ap₂, ◌∙◌, subst}
use Rattle.std.specs.Prelude.{if◌then◌else◌, ◌+ℤ◌, ◌*ℤ◌, not}
use Rattle.asl_syn.specs.declared.code.StaticCode.TheVariants.{S03, T04, T15}
use Rattle.asl_syn.specs.declared.tree.Expr.{Expr}
use Rattle.asl_syn.specs.declared.tree.TypeExpr.{TypeExpr}
use Rattle.asl_syn.specs.declared.tree.Ident.{Ident}
use Rattle.asl_syn.specs.declared.tree.Formal.{Formal}
use Rattle.asl_syn.specs.declared.tree.TypeDef.{TypeDef}
use Rattle.asl_syn.specs.declared.tree.TypeDef.TheVariants as td
use Rattle.asl_syn.specs.declared.tree.StorageDecl.{StorageDecl}
use Rattle.asl_syn.specs.declared.tree.Decl.{Decl}
use Rattle.asl_syn.specs.declared.tree.Decl.TheVariants as dc
use Rattle.asl_poly.specs.Terms.{Summand, Polynomial, value, product}
use Rattle.asl_poly.specs.Fractions.{fraction_at}
use Rattle.asl_cons.specs.declared.End.{End}
use Rattle.asl_cons.specs.declared.End.TheVariants.{Int, Width}
use Rattle.asl_cons.specs.declared.Part.{Part}
use Rattle.asl_rules.specs.Faults.{need, none_at, fault_of, fitted}
use Rattle.asl_rules.specs.Tests.{Tests}
use Rattle.asl_rules.specs.types.Types.{Ty, Fields, Parts, integer_of, boolean, bits_of, enumeration_of, record_of, exception_of, tuple_of, array_of, named, no_field, field, no_part, part, structure, kind, misfit}
use Rattle.asl_rules.specs.types.Closed.{Assignment, Range, width_in, range_in, width_at, end_at, ranges_at, constraint_at, type_with, fields_with, parts_with, closed}
use Rattle.asl_rules.specs.types.Closed as cl
use Rattle.asl_rules.specs.declarations.Scopes.{Entry, Standing, Stored, Subprogram, TypeName, Label, next_atom, subprogram, standing_of, is_local}
use Rattle.asl_rules.specs.expressions.Exprs.{found, found_type, typed, written}
use Rattle.asl_rules.specs.types.Written.{first_value}
use Rattle.asl_rules.specs.declarations.Barred.{barred}
use Rattle.asl_rules.specs.declarations.Declarations.{evaluated, with_type, Initial, fields_written, once, def_rule, supertype_rule, label_entries, storage_rule, unannotated, is_var, known, decl_rule, in_names}
use Rattle.asl_rules.specs.declarations.Turns.{names_of_program}
use Rattle.asl_rules.specs.private.Worth.{AllOf, AtomsOf}
use Rattle.asl_rules.specs.private.WellFormed.{Fixed}
use Rattle.asl_rules.specs.private.Agreement.{SameOn}
use Rattle.asl_rules.proofs.basics.Inversions.{ok_ok, err_ok, bind_ok, then_ok}
use Rattle.asl_rules.proofs.basics.Tests.{none_some}
use Rattle.asl_rules.proofs.basics.Opening.{bounded_ok}
use Rattle.asl_rules.proofs.widths.Counting.{stored_of}
pub use Rattle.asl_laws.specs.ScopeRules.{Below}
use Rattle.asl_laws.proofs.widths.TypesOver.{EndOver, PartsOver, Never, Over, FieldsOver, AllOver, over_any, widened_over}
use Rattle.asl_laws.proofs.scopes.OverScope.{StandingOver, CountedOver, EachOver, NamesOver, typed_over, written_over}
use Rattle.asl_rules.proofs.verdict.EachName.{EachName, name_has, visible_have}
use Rattle.asl_laws.specs.Evaluated.{names_after}

-- ---- a type for assignments that agree on its atoms

module _ (A : ℕ → Type 0) (a b : Assignment) (same : (n : ℕ) → A n → a n ≡ b n) where
  product_moved : (xs : List ℕ) → AllOf A xs → product a xs ≡ product b xs
  product_moved [] h = refl
  product_moved (x ∷ xs) h = ap₂ (λ y z. y *ℤ z) (same x h.0) (product_moved xs h.1)

  pub value_moved : (ts : List Summand) → AtomsOf A ts → value a ts ≡ value b ts
  value_moved [] h = refl
  value_moved (t ∷ ts) h = ap₂ (λ y z. y +ℤ z) (ap (λ y. t.coefficient *ℤ y) (product_moved t.factors h.0)) (value_moved ts h.1)

  -- a polynomial is the same fraction
  pub fraction_moved : (p : Polynomial) → AtomsOf A p.terms → fraction_at a p ≡ fraction_at b p
  fraction_moved p h = ap (λ z. record { number = z; denominator = p.denominator }) (value_moved p.terms h)

  pub width_moved : (p : Polynomial) → AtomsOf A p.terms → width_at p a ≡ width_at p b
  width_moved p h = ap width_in (fraction_moved p h)

  end_moved : (e : End) → EndOver A e → end_at e a ≡ end_at e b
  end_moved (Int z) h = refl
  end_moved (Width p) h = fraction_moved p h

  ranges_moved : (ps : List Part) → PartsOver A ps → ranges_at ps a ≡ ranges_at ps b
  ranges_moved [] h = refl
  ranges_moved (p ∷ ps) h =
      ap₂ (λ (r : Range) rs. r ∷ rs) (ap₂ range_in (end_moved p.low h.0.low) (end_moved p.high h.0.high)) (ranges_moved ps h.1)

  constraint_moved : (ps : List Part) → PartsOver A ps → constraint_at ps a ≡ constraint_at ps b
  constraint_moved [] h = refl
  constraint_moved (p ∷ ps) h = ap Some (ranges_moved (p ∷ ps) h)

module _ (a b : Assignment) where
  no_atom : (n : ℕ) → Never n → a n ≡ b n
  no_atom n k = absurd k

  mutual
    pub never_moved : (T : Ty) → Over Never T → type_with T a ≡ type_with T b
    never_moved (integer_of ps) h = ap cl.integer_in (constraint_moved Never a b no_atom ps h)
    never_moved boolean h = refl
    never_moved (bits_of w view) h = ap (λ z. cl.bits_of z view) (width_moved Never a b no_atom w h)
    never_moved (enumeration_of name labels) h = refl
    never_moved (record_of name fs) h = ap (cl.record_of name) (fields_moved fs h)
    never_moved (exception_of name fs) h = ap (cl.exception_of name) (fields_moved fs h)
    never_moved (tuple_of ts) h = ap cl.tuple_of (never_parts ts h)
    never_moved (array_of n T) h = ap (cl.array_of n (kind T)) (never_moved T h)
    never_moved (named name supers T) h = ap (cl.named name supers) (never_moved T h)

    pub fields_moved : (fs : Fields) → FieldsOver fs → fields_with fs a ≡ fields_with fs b
    fields_moved no_field h = refl
    fields_moved (field f T fs) h = ap₂ (cl.field f) (never_moved T h.0) (fields_moved fs h.1)

    never_parts : (ts : Parts) → AllOver Never ts → parts_with ts a ≡ parts_with ts b
    never_parts no_part h = refl
    never_parts (part T ts) h = ap₂ cl.part (never_moved T h.0) (never_parts ts h.1)

module _ (A : ℕ → Type 0) (a b : Assignment) (same : (n : ℕ) → A n → a n ≡ b n) where
  mutual
    pub type_moved : (T : Ty) → Over A T → type_with T a ≡ type_with T b
    type_moved (integer_of ps) h = ap cl.integer_in (constraint_moved A a b same ps h)
    type_moved boolean h = refl
    type_moved (bits_of w view) h = ap (λ z. cl.bits_of z view) (width_moved A a b same w h)
    type_moved (enumeration_of name labels) h = refl
    type_moved (record_of name fs) h = ap (cl.record_of name) (fields_moved a b fs h)
    type_moved (exception_of name fs) h = ap (cl.exception_of name) (fields_moved a b fs h)
    type_moved (tuple_of ts) h = ap cl.tuple_of (parts_moved ts h)
    type_moved (array_of n T) h = ap (cl.array_of n (kind T)) (type_moved T h)
    type_moved (named name supers T) h = ap (cl.named name supers) (never_moved a b T h)

    parts_moved : (ts : Parts) → AllOver A ts → parts_with ts a ≡ parts_with ts b
    parts_moved no_part h = refl
    parts_moved (part T ts) h = ap₂ cl.part (type_moved T h.0) (parts_moved ts h.1)

-- a type without atoms is fixed
pub fixed_never : (T : Ty) → Over Never T → Fixed T
fixed_never T h a = never_moved a (λ n. pos 0) T h

-- a type of a scope is the same type where the atoms of the scope are the same
pub type_same_on : (names : List Entry) (a b : Assignment) (T : Ty) → SameOn names a b → Over (Below names) T → type_with T a ≡ type_with T b
type_same_on names a b T s h = type_moved (Below names) a b s T h

-- ---- names outside bodies

abbrev Clean : Standing → Type 0
Clean (Stored s) = (s.counted ≡ None) × ((s.is_global ≡ true) × Over Never s.ty)
Clean Subprogram = Unit {0}
Clean (TypeName T) = Over Never T
Clean (Label T x) = Over Never T

abbrev IsClean : Entry → Type 0
IsClean e = Clean e.standing

abbrev pub AllClean : List Entry → Type 0
AllClean es = EachName IsClean es

pub clean_at : (name : List ℕ) (es : List Entry) (x : Standing) → AllClean es → standing_of name es ≡ Some x → Clean x
clean_at name es x c h = name_has (λ n st. Clean st) es name x c h

clean_standing : (A : ℕ → Type 0) (x : Standing) → Clean x → StandingOver A x
clean_standing A (Stored s) c = over_any A s.ty c.1.1
clean_standing A Subprogram c = tt
clean_standing A (TypeName T) c = over_any A T c
clean_standing A (Label T x) c = over_any A T c

clean_counted : (A : ℕ → Type 0) (x : Standing) → Clean x → CountedOver A x
clean_counted A x c s d h q = none_some d (sym (subst (λ z. Clean z) h c).0 ∙ q)

clean_each : (A : ℕ → Type 0) (es : List Entry) → AllClean es → EachOver A es
clean_each A [] c = tt
clean_each A (e ∷ es) c = (clean_standing A e.standing c.0, (clean_counted A e.standing c.0, clean_each A es c.1))

pub clean_over : (A : ℕ → Type 0) (es : List Entry) → AllClean es → NamesOver A es
clean_over A es c = record {
  each = clean_each A es c;
  standing = λ name x h. clean_standing A x (clean_at name es x c h);
  counts = λ name s d h q. none_some d (sym (clean_at name es (Stored s) c (stored_of (standing_of name es) s h)).0 ∙ q);
}

clean_local : (x : Standing) → Clean x → is_local x ≡ false
clean_local (Stored s) c = ap not c.1.0
clean_local Subprogram c = refl
clean_local (TypeName T) c = refl
clean_local (Label T x) c = refl

-- none of them is the name of a body
pub clean_atoms : (es : List Entry) → AllClean es → next_atom es ≡ 0
clean_atoms [] c = refl
clean_atoms (e ∷ es) c = ap (λ b. if b then suc (suc (next_atom es)) else next_atom es) (clean_local e.standing c.0) ∙ clean_atoms es c.1

structure_over : (T : Ty) → Over Never T → Over Never (structure T)
structure_over (named name supers T) h = structure_over T h
structure_over (integer_of ps) h = h
structure_over boolean h = tt
structure_over (bits_of w view) h = h
structure_over (enumeration_of name labels) h = tt
structure_over (record_of name fs) h = h
structure_over (exception_of name fs) h = h
structure_over (tuple_of ts) h = h
structure_over (array_of n T) h = h

module _ (t : Tests) where
  fields_clean : (fs : List Formal) (names : List Entry) (Fs : Fields) → AllClean names → fields_written t fs (in_names names) ≡ Ok Fs → FieldsOver Fs
  fields_clean [] names Fs c h = subst (λ z. FieldsOver z) (ok_ok no_field Fs h) tt
  fields_clean (f ∷ fs) names Fs c h =
      let u = bind_ok (written t f.ty true (in_names names)) _ Fs h in
      let v = bind_ok (fields_written t fs (in_names names)) _ Fs u.then in
      subst (λ z. FieldsOver z) (ok_ok (field f.name.text u.value.ty v.value) Fs v.then)
      (written_over Never t f.ty true (in_names names) u.value (clean_over Never names c) u.first, fields_clean fs names v.value c v.first)

  def_clean : (name : List ℕ) (def : TypeDef) (names : List Entry) (T : Ty) → AllClean names → def_rule t name def (in_names names) ≡ Ok T → Over Never T
  def_clean name (td.Alias ty) names T c h =
      let u = bind_ok (written t ty true (in_names names)) _ T h in
      subst (Over Never) (ok_ok u.value.ty T u.then) (written_over Never t ty true (in_names names) u.value (clean_over Never names c) u.first)
  def_clean name (td.Labels span is) names T c h = subst (Over Never) (ok_ok _ T h) tt
  def_clean name (td.Record span fs) names T c h =
      let u = bind_ok (fields_written t fs (in_names names)) _ T h in
      let v = then_ok (need (once fs []) T15 span) _ T u.then in
      subst (Over Never) (bounded_ok span (record_of name u.value) T v.then) (fields_clean fs names u.value c u.first)
  def_clean name (td.Exception span fs) names T c h =
      let u = bind_ok (fields_written t fs (in_names names)) _ T h in
      let v = then_ok (need (once fs []) T15 span) _ T u.then in
      subst (Over Never) (bounded_ok span (exception_of name u.value) T v.then) (fields_clean fs names u.value c u.first)

  labels_clean : (def : TypeDef) (name : List ℕ) (T : Ty) → Over Never T → AllClean (label_entries def name T)
  labels_clean (td.Alias ty) name T h = tt
  labels_clean (td.Labels span is) name T h = each is
    where
      each : (is : List Ident) → AllClean (label_entries (td.Labels span is) name T)
      each [] = tt
      each (i ∷ is) = (h, each is)
  labels_clean (td.Record span fs) name T h = tt
  labels_clean (td.Exception span fs) name T h = tt

  unannotated_over : (b : Bool) (T : Ty) → Over Never T → Over Never (unannotated b T)
  unannotated_over true T h = widened_over Never T h
  unannotated_over false T h = h

  storage_clean : (d : StorageDecl) (b : Bool) (o : Option TypeExpr) (p : Option Expr) (names : List Entry) (s : Initial) → AllClean names → storage_rule t d b o p (in_names names) ≡ Ok s → Over Never s.ty
  storage_clean d b None None names s c h = err_ok (fault_of S03 d.span) s h
  storage_clean d b (Some ty) None names s c h =
      let u = bind_ok (written t ty true (in_names names)) _ s h in
      let v = bind_ok (evaluated (first_value t.limit (found_type t ty).span (closed u.value.ty))) _ s u.then in
      subst (λ (z : Initial). Over Never z.ty) (ok_ok (with_type u.value.ty v.value) s v.then) (written_over Never t ty true (in_names names) u.value (clean_over Never names c) u.first)
  storage_clean d b None (Some e) names s c h =
      let n = then_ok (none_at T04 (barred e names)) _ s h in
      let u = bind_ok (typed t e (in_names names)) _ s n.then in
      let v = bind_ok (known t e (in_names names)) _ s u.then in
      subst (λ (z : Initial). Over Never z.ty) (ok_ok _ s v.then) (unannotated_over b u.value.ty (typed_over Never t e (in_names names) u.value (clean_over Never names c) tt u.first))
  storage_clean d b (Some ty) (Some e) names s c h =
      let n = then_ok (none_at T04 (barred e names)) _ s h in
      let w = bind_ok (written t ty true (in_names names)) _ s n.then in
      let u = bind_ok (typed t e (in_names names)) _ s w.then in
      let f = then_ok (fitted (misfit t u.value.ty w.value.ty) (found t e).span) _ s u.then in
      let v = bind_ok (known t e (in_names names)) _ s f.then in
      subst (λ (z : Initial). Over Never z.ty) (ok_ok _ s v.then) (written_over Never t ty true (in_names names) w.value (clean_over Never names c) w.first)

  decl_clean : (d : Decl) (names : List Entry) (es : List Entry) → AllClean names → decl_rule t d (in_names names) ≡ Ok es → AllClean es
  decl_clean (dc.Type d) names es c h =
      let u = bind_ok (def_rule t d.name.text d.def (in_names names)) _ es h in
      let v = bind_ok (supertype_rule t d.supertype u.value (in_names names)) _ es u.then in
      let k : Over Never (structure u.value) = structure_over u.value (def_clean d.name.text d.def names u.value c u.first) in
      subst (λ z. AllClean z) (ok_ok _ es v.then) (k, labels_clean d.def d.name.text (named d.name.text v.value (structure u.value)) k)
  decl_clean (dc.Storage d) names es c h =
      let u = bind_ok (storage_rule t d (is_var d.kind) d.ty d.init (in_names names)) _ es h in
      subst (λ z. AllClean z) (ok_ok _ es u.then) ((refl, (refl, storage_clean d (is_var d.kind) d.ty d.init names u.value c u.first)), tt)
  decl_clean (dc.Func f) names es c h = subst (λ z. AllClean z) (ok_ok (subprogram f.name.text ∷ []) es h) (tt, tt)

  pub names_clean : (n : ℕ) (ds : List Decl) → AllClean (names_after t n ds)
  names_clean n ds = visible_have IsClean (λ m. tt) t ds (λ d i. (refl, (refl, tt))) (λ d i names c es h. decl_clean d names es c h) n

  -- the names after so many turns have no atoms
  pub turns_over : (A : ℕ → Type 0) (n : ℕ) (ds : List Decl) → NamesOver A (names_after t n ds)
  turns_over A n ds = clean_over A (names_after t n ds) (names_clean n ds)

  -- so those that are visible in all bodies have none
  pub program_over : (A : ℕ → Type 0) (ds : List Decl) → NamesOver A (names_of_program t ds)
  program_over A ds = turns_over A (length ds) ds
