-- What a well-formed declaration brings is well formed, where all that stands before it is.
use Rattle.std.proofs.Common.{◌≡◌, ℕ, not, Bool, true, false, cond, List, [], ◌∷◌, ◌++◌, Option, Some, None, Ok, refl, sym, ap, ap₂, ◌∙◌, subst, map, length}
use Rattle.std.specs.Prelude.{if◌then◌else◌, nat_le, Result}
use Rattle.std.specs.Str.{bytes_eq}
use Rattle.asl_syn.specs.declared.code.Fault.{Fault}
use Rattle.asl_syn.specs.declared.code.StaticCode.TheVariants.{S03, T02, T04, T05, T15, T19, T20, T25}
use Rattle.asl_syn.specs.declared.tree.Expr.{Expr}
use Rattle.asl_syn.specs.declared.tree.TypeExpr.{TypeExpr, out-TypeExpr}
use Rattle.asl_syn.specs.declared.tree.Bitfield.TheOpen as ex
use Rattle.asl_syn.specs.declared.tree.Bitfield.TheFolds.{fold_out-TypeExpr}
use Rattle.asl_syn.specs.declared.tree.Ident.{Ident}
use Rattle.asl_syn.specs.declared.tree.Formal.{Formal}
use Rattle.asl_syn.specs.declared.tree.TypeDef.{TypeDef}
use Rattle.asl_syn.specs.declared.tree.TypeDef.TheVariants as td
use Rattle.asl_syn.specs.declared.tree.TypeDecl.{TypeDecl}
use Rattle.asl_syn.specs.declared.tree.StorageDecl.{StorageDecl}
use Rattle.asl_syn.specs.declared.tree.Decl.{Decl}
use Rattle.asl_syn.specs.declared.tree.Decl.TheVariants as dc
use Rattle.asl_syn.specs.Layers.{TypeLayer}
use Rattle.asl_rules.specs.Faults.{◌>>=◌, ◌>>◌, need, none_at, found_or, fitted, fault_of}
use Rattle.asl_rules.specs.Tests.{Tests, IsRight}
use Rattle.asl_rules.specs.types.Types.{Ty, Fields, Parts, integer_of, boolean, bits_of, enumeration_of, record_of, exception_of, tuple_of, array_of, named, no_field, field, no_part, part, structure, is_among, misfit, misfit_inside, misfit_of_parts, by_names, or_else, same_kind, parts_of, element_of, bits_wide, kind, kind_eq}
use Rattle.asl_rules.specs.types.Closed.{closed}
use Rattle.asl_rules.specs.values.Values.{Value, bool, label}
use Rattle.asl_rules.specs.types.Views.{viewed}
use Rattle.asl_rules.specs.private.WellFormed.{is_named, HasLabel, Fits, Nearest, Shaped, ShapedFields, WellFormed, WellDeclared, Extends}
use Rattle.asl_rules.specs.declarations.Scopes.{Scope, Entry, Standing, Stored, Subprogram, TypeName, Label, label_name, global, subprogram, standing_of, type_of_name}
use Rattle.asl_rules.specs.types.Widths.{bounded, length_of}
use Rattle.asl_poly.specs.Poly.{constant_value}
use Rattle.asl_rules.specs.runs.Trees.{Tree}
use Rattle.asl_rules.specs.types.Shapes.{TypeShape}
use Rattle.asl_rules.specs.expressions.Typing.{Typed, Found}
use Rattle.asl_rules.specs.expressions.Slicing.{FoundSlice}
use Rattle.asl_rules.specs.expressions.Patterns.{FoundPattern}
use Rattle.asl_rules.specs.types.Writing.{FoundPart, FoundBitfield, FoundType, Written, written_as, all_parts, all_fields, most_parts, parts_written, types_in_order, types_written, view_rule, within_limits}
use Rattle.asl_rules.specs.expressions.Exprs.{FoundField, found, found_type, typed, written, written_rule, expr_rule, given_rule, slice_rule, part_rule, bitfield_rule, type_rule, pattern_rule}
use Rattle.asl_rules.specs.values.Members.{fields_of, has_name, numbered, one_further}
use Rattle.asl_rules.specs.private.Belonging.{InType}
use Rattle.asl_rules.specs.private.Agreement.{no_atoms}
use Rattle.asl_rules.specs.runs.Plans.{Faulted, Stuck, Pure as PureOf, Good, Bad}
use Rattle.asl_rules.specs.declarations.Constants.{constant}
use Rattle.asl_rules.specs.types.Written.{first_value}
use Rattle.asl_rules.specs.declarations.Barred.{barred}
use Rattle.asl_rules.specs.declarations.Names.{labels_of}
use Rattle.asl_rules.specs.declarations.Turns.{reserved}
use Rattle.asl_rules.specs.declarations.Declarations.{in_names, fields_written, once, labels, def_rule, reached, supertype_rule, is_none, label_entries, type_entries, type_decl_rule, evaluated, Initial, with_type, unannotated, known, first_in, storage_rule, is_var, storage_decl_rule, decl_rule}
use Rattle.asl_laws.proofs.values.Widening.{widened_formed, widened_in}
use Rattle.asl_rules.proofs.basics.Inversions.{ok_ok, err_ok, bind_ok, then_ok, need_ok, found_ok, fitted_ok}
use Rattle.asl_rules.proofs.basics.Tests.{no, none_some, some_same, both, and_true, same_name, name_is, or_first, or_second}
use Rattle.asl_laws.proofs.values.Joining.{through_type}
use Rattle.asl_laws.proofs.verdict.OneVerdict.{one_test}
use Rattle.asl_rules.proofs.values.FirstValues.{first_in_type}
use Rattle.asl_laws.proofs.scopes.MoreNames.{well_formed_grows, shaped_grows, fields_grow, built_grows, structure_shaped}
use Rattle.asl_rules.proofs.scopes.Naming.{FieldsOnce, OnceIn, GoodNames, fields_once, type_formed}
use Rattle.asl_rules.proofs.basics.Opening.{bounded_ok, type_opened, found_bitfield, found_part}
use Rattle.asl_laws.proofs.scopes.WellTyped.{typed_formed, written_formed}
use Rattle.asl_rules.proofs.values.SameKind.{equal_kinds}
use Rattle.asl_rules.proofs.values.Satisfying.{fit_parts}
use Rattle.asl_rules.proofs.values.KindsByNames.{kinds_by_names}

-- ---- what names stand for

-- a declared type has the name that it stands under
abbrev pub NamedBy : List ℕ → Ty → Type 0
NamedBy n T = (supers : List (List ℕ)) × (V : Ty) × (T ≡ named n supers V)

abbrev pub StandsWell : (List ℕ → Option Ty) → List ℕ → Standing → Type 0
StandsWell D n (Stored s) = WellFormed D s.ty × (x : Value) × (s.initial ≡ Some x) × InType D no_atoms x s.ty × (s.counted ≡ None)
StandsWell D n Subprogram = Unit {0}
StandsWell D n (TypeName T) = WellFormed D T × OnceIn (fields_of T) × NamedBy n T
StandsWell D n (Label T x) = WellFormed D T × InType D no_atoms x T

abbrev pub AllWell : (List ℕ → Option Ty) → List Entry → Type 0
AllWell D [] = Unit {0}
AllWell D (e ∷ es) = StandsWell D e.name e.standing × AllWell D es

well_first : (D : List ℕ → Option Ty) (b : Bool) (e : Entry) (n : List ℕ) (st : Standing) (o : Option Standing) → bytes_eq e.name n ≡ b → StandsWell D e.name e.standing → cond b (Some e.standing) o ≡ Some st → (o ≡ Some st → StandsWell D n st) → StandsWell D n st
well_first D true e n st o q w h next = subst (λ m. StandsWell D m st) (same_name e.name n q) (subst (StandsWell D e.name) (some_same e.standing st h) w)
well_first D false e n st o q w h next = next h

pub well_at : (D : List ℕ → Option Ty) (es : List Entry) (n : List ℕ) (st : Standing) → AllWell D es → standing_of n es ≡ Some st → StandsWell D n st
well_at D [] n st w h = none_some st h
well_at D (e ∷ es) n st w h = well_first D (bytes_eq e.name n) e n st (standing_of n es) refl w.0 h (well_at D es n st w.1)

in_type_grows : (d D : List ℕ → Option Ty) → Extends d D → (x : Value) (T : Ty) → InType d no_atoms x T → InType D no_atoms x T
in_type_grows d D g x T i = (i.0, built_grows d D g x i.1, i.2)

stands_grows : (d D : List ℕ → Option Ty) → Extends d D → (n : List ℕ) (st : Standing) → StandsWell d n st → StandsWell D n st
stands_grows d D g n (Stored s) w = (well_formed_grows d D g s.ty w.0, w.1, w.2, in_type_grows d D g w.1 s.ty w.3, w.4)
stands_grows d D g n Subprogram w = tt
stands_grows d D g n (TypeName T) w = (well_formed_grows d D g T w.0, w.1, w.2)
stands_grows d D g n (Label T x) w = (well_formed_grows d D g T w.0, in_type_grows d D g x T w.1)

pub well_grows : (d D : List ℕ → Option Ty) → Extends d D → (es : List Entry) → AllWell d es → AllWell D es
well_grows d D g [] w = tt
well_grows d D g (e ∷ es) w = (stands_grows d D g e.name e.standing w.0, well_grows d D g es w.1)

-- what stands in for a declaration is well formed
pub reserved_well : (D : List ℕ → Option Ty) (d : Decl) → AllWell D (reserved d)
reserved_well D (dc.Type d) = (tt, each (labels_of d.def))
  where
    each : (is : List Ident) → AllWell D (map (λ (i : Ident). subprogram i.text) is)
    each [] = tt
    each (i ∷ is) = (tt, each is)
reserved_well D (dc.Storage d) = ((record { shaped = tt; has_name = refl }, bool false, refl, (refl, tt, refl), refl), tt)
reserved_well D (dc.Func f) = (tt, tt)

-- ---- structures

same_fields : (T : Ty) → fields_of (structure T) ≡ fields_of T
same_fields (named n supers T) = same_fields T
same_fields (integer_of ps) = refl
same_fields boolean = refl
same_fields (bits_of w u) = refl
same_fields (enumeration_of n ls) = refl
same_fields (record_of n fs) = refl
same_fields (exception_of n fs) = refl
same_fields (tuple_of ts) = refl
same_fields (array_of n T) = refl

structure_is : (T : Ty) → is_named T ≡ false → structure T ≡ T
structure_is (named n supers T) u = no (sym u)
structure_is (integer_of ps) u = refl
structure_is boolean u = refl
structure_is (bits_of w u) v = refl
structure_is (enumeration_of n ls) u = refl
structure_is (record_of n fs) u = refl
structure_is (exception_of n fs) u = refl
structure_is (tuple_of ts) u = refl
structure_is (array_of n T) u = refl

-- ---- fields

has_more : (b : Bool) (p q : Bool) → (p ≡ true → q ≡ true) → (if b then true else p) ≡ true → (if b then true else q) ≡ true
has_more true p q f h = refl
has_more false p q f h = f h

has_before : (before : List (List ℕ)) (m n : List ℕ) → has_name n before ≡ true → has_name n (before ++ m ∷ []) ≡ true
has_before [] m n h = no h
has_before (l ∷ before) m n h = has_more (bytes_eq l n) (has_name n before) (has_name n (before ++ m ∷ [])) (has_before before m n) h

has_here : (b q : Bool) → q ≡ true → (if b then true else q) ≡ true
has_here true q h = refl
has_here false q h = h

has_last : (before : List (List ℕ)) (n : List ℕ) → has_name n (before ++ n ∷ []) ≡ true
has_last [] n = ap (λ b. if b then true else false) (name_is n)
has_last (l ∷ before) n = has_here (bytes_eq l n) (has_name n (before ++ n ∷ [])) (has_last before n)

other_field : (b : Bool) (m n : List ℕ) (before : List (List ℕ)) → bytes_eq m n ≡ b → not (has_name m before) ≡ true → has_name n before ≡ true → bytes_eq m n ≡ false
other_field true m n before q h k = no (sym (ap not (ap (λ l. has_name l before) (same_name m n q) ∙ k)) ∙ h)
other_field false m n before q h k = q

module _ (tests : Tests) where
  no_such_field : (G : Scope) (fs : List Formal) (Fs : Fields) (before : List (List ℕ)) (n : List ℕ) → has_name n before ≡ true → once fs before ≡ true → fields_written tests fs G ≡ Ok Fs → numbered n Fs ≡ None
  no_such_field G [] Fs before n k o h = ap (numbered n) (sym (ok_ok no_field Fs h))
  no_such_field G (f ∷ fs) Fs before n k o h =
      let t = bind_ok (written tests f.ty true G) (λ W. fields_written tests fs G >>= λ Hs. Ok (field f.name.text W.ty Hs)) Fs h in
      let r = bind_ok (fields_written tests fs G) (λ Hs. Ok (field f.name.text t.value.ty Hs)) Fs t.then in
      let p = both (not (has_name f.name.text before)) (once fs (before ++ f.name.text ∷ [])) o in
      ap (numbered n) (sym (ok_ok (field f.name.text t.value.ty r.value) Fs r.then))
      ∙ ap (λ b. if b then Some (0, t.value.ty) else one_further (numbered n r.value)) (other_field (bytes_eq f.name.text n) f.name.text n before refl p.0 k)
      ∙ ap one_further (no_such_field G fs r.value (before ++ f.name.text ∷ []) n (has_before before f.name.text n k) p.1 r.first)

  fields_written_once : (G : Scope) (fs : List Formal) (Fs : Fields) (before : List (List ℕ)) → once fs before ≡ true → fields_written tests fs G ≡ Ok Fs → FieldsOnce Fs
  fields_written_once G [] Fs before o h = subst FieldsOnce (ok_ok no_field Fs h) tt
  fields_written_once G (f ∷ fs) Fs before o h =
      let t = bind_ok (written tests f.ty true G) (λ W. fields_written tests fs G >>= λ Hs. Ok (field f.name.text W.ty Hs)) Fs h in
      let r = bind_ok (fields_written tests fs G) (λ Hs. Ok (field f.name.text t.value.ty Hs)) Fs t.then in
      let p = both (not (has_name f.name.text before)) (once fs (before ++ f.name.text ∷ [])) o in
      subst FieldsOnce (ok_ok (field f.name.text t.value.ty r.value) Fs r.then)
      (no_such_field G fs r.value (before ++ f.name.text ∷ []) f.name.text (has_last before f.name.text) p.1 r.first, fields_written_once G fs r.value (before ++ f.name.text ∷ []) p.1 r.first)

evaluated_is : (r : PureOf Value) (x : Value) → evaluated r ≡ Ok x → r ≡ Good x
evaluated_is (Good y) x h = ap Good (ok_ok y x h)
evaluated_is (Bad (Faulted code span)) x h = err_ok _ x h
evaluated_is (Bad (Stuck mistake span)) x h = err_ok (fault_of T04 span) x h

-- what stands before: well formed, each type under its name, and constants belong to their types
pub record Ready (tests : Tests) (d : List ℕ → Option Ty) (names : List Entry) : Type 0 where
  pub good : GoodNames d names
  pub named_by : (n : List ℕ) (T : Ty) → type_of_name n names ≡ Some T → NamedBy n T
  pub declared : WellDeclared d
  pub is : (n : List ℕ) → d n ≡ type_of_name n names
  pub constants : (e : Expr) (S : Typed) (x : Value) → typed tests e (in_names names) ≡ Ok S → constant tests.limit e names ≡ Good x → InType d no_atoms x S.ty

-- an enumeration has a label
abbrev pub LabelsIn : TypeDef → Type 0
LabelsIn (td.Alias t) = Unit {0}
LabelsIn (td.Labels span is) = HasLabel (labels is)
LabelsIn (td.Record span fs) = Unit {0}
LabelsIn (td.Exception span fs) = Unit {0}

abbrev pub HasLabels : Decl → Type 0
HasLabels (dc.Type d) = LabelsIn d.def
HasLabels (dc.Storage d) = Unit {0}
HasLabels (dc.Func f) = Unit {0}

-- ---- an unannotated `var`

-- what is good of storage
abbrev Kept : (List ℕ → Option Ty) → Initial → Type 0
Kept d i = WellFormed d i.ty × InType d no_atoms i.value i.ty

unannotated_kept : (d : List ℕ → Option Ty) (b : Bool) (T : Ty) (x : Value) → WellFormed d T → InType d no_atoms x T → Kept d (with_type (unannotated b T) x)
unannotated_kept d true T x w i = (widened_formed d T w, widened_in d no_atoms T x i)
unannotated_kept d false T x w i = (w, i)

none_is : {A : Type 0} (o : Option A) → is_none o ≡ true → o ≡ None
none_is None h = refl
none_is (Some x) h = no h

-- whether a type satisfies another doesn't hang on the width limit
mutual
  any_limit : (t : Tests) (l : ℕ) (S T : Ty) → misfit_inside t S T ≡ misfit_inside (record t { limit = l }) S T
  any_limit t l (integer_of ps) T = refl
  any_limit t l boolean T = refl
  any_limit t l (bits_of w u) T = refl
  any_limit t l (enumeration_of n ls) T = refl
  any_limit t l (record_of n fs) T = refl
  any_limit t l (exception_of n fs) T = refl
  any_limit t l (tuple_of ss) T = any_limit_of_parts t l ss (parts_of T)
  any_limit t l (array_of n S) T = any_limit t l S (element_of T)
  any_limit t l (named n supers S) T = ap (by_names n supers T) (any_limit t l S T)

  any_limit_of_parts : (t : Tests) (l : ℕ) (ss ts : Parts) → misfit_of_parts t ss ts ≡ misfit_of_parts (record t { limit = l }) ss ts
  any_limit_of_parts t l no_part ts = refl
  any_limit_of_parts t l (part S ss) no_part = refl
  any_limit_of_parts t l (part S ss) (part T ts) = ap₂ or_else (any_limit t l S T) (any_limit_of_parts t l ss ts)

misfit_any : (t : Tests) (l : ℕ) (S T : Ty) → misfit t S T ≡ misfit (record t { limit = l }) S T
misfit_any t l S T = ap (λ o. cond (same_kind S T) o (Some T05)) (any_limit t l S T)

module _ (tests : Tests) (right : IsRight tests) (d D : List ℕ → Option Ty) (grow : Extends d D) (names : List Entry) (ready : Ready tests d names) where
  abbrev G : Scope
  G = in_names names

  once_is : (T : Ty) (s : TypeShape) (ts : List Tree) (W : Written) → OnceIn (fields_of T) → (let r : Result Written Fault = Ok (written_as T s ts) in r) ≡ Ok W → OnceIn (fields_of W.ty)
  once_is T s ts W o h = subst (λ (z : Written). OnceIn (fields_of z.ty)) (ok_ok (written_as T s ts) W h) o

  layer_once : (l : TypeLayer) (W : Written) → written_rule tests (type_opened tests l) true G ≡ Ok W → OnceIn (fields_of W.ty)
  layer_once (ex.IntegerType span ps) W h =
      let p = bind_ok (all_parts (map (found_part tests) ps) G) _ W h in
      let n = then_ok (need (nat_le (length p.value) most_parts) T20 span) _ W p.then in
      once_is (integer_of (parts_written p.value)) _ _ W tt n.then
  layer_once (ex.BooleanType span) W h = once_is boolean _ _ W tt h
  layer_once (ex.BitType span) W h = once_is (bits_wide 1) _ _ W tt h
  layer_once (ex.NamedType span name) W h =
      let t = bind_ok (found_or (type_of_name name names) T02 span) _ W h in
      once_is t.value _ _ W (fields_once d names name ready.good t.value (found_ok (type_of_name name names) T02 span t.value t.first)) t.then
  layer_once (ex.BitsType span e fs) W h =
      let w = bind_ok ((found tests e).width G) _ W h in
      let x = bind_ok (all_fields (map (found_bitfield tests) fs) G) _ W w.then in
      let v = bind_ok (view_rule span w.value.poly x.value) _ W x.then in
      let n = then_ok (need (within_limits tests.limit true w.value.poly) T20 span) _ W v.then in
      once_is (bits_of w.value.poly v.value) _ _ W tt n.then
  layer_once (ex.TupleType span ts) W h =
      let s = bind_ok (types_in_order true (map (found_type tests) ts) G) _ W h in
      let t = bind_ok (bounded span (tuple_of (types_written s.value))) _ W s.then in
      once_is t.value _ _ W (subst (λ U. OnceIn (fields_of U)) (bounded_ok span (tuple_of (types_written s.value)) t.value t.first) tt) t.then
  layer_once (ex.ArrayType span e t) W h =
      let w = bind_ok ((found tests e).width G) _ W h in
      let u = bind_ok (written tests t true G) _ W w.then in
      let z = bind_ok (found_or (constant_value w.value.poly) T19 span) _ W u.then in
      let n = bind_ok (length_of span z.value) _ W z.then in
      let b = bind_ok (bounded span (array_of n.value u.value.ty)) _ W n.then in
      once_is b.value _ _ W (subst (λ U. OnceIn (fields_of U)) (bounded_ok span (array_of n.value u.value.ty) b.value b.first) tt) b.then

  written_once : (t : TypeExpr) (W : Written) → written tests t true G ≡ Ok W → OnceIn (fields_of W.ty)
  written_once t W h = layer_once (out-TypeExpr t) W (sym (ap (λ (f : FoundType). f.ty true G) (fold_out-TypeExpr FoundBitfield FoundPart Found FoundField FoundPattern FoundSlice FoundType bitfield_rule part_rule (expr_rule tests) given_rule (pattern_rule tests) slice_rule (type_rule tests) t)) ∙ h)

  type_good : (t : TypeExpr) (W : Written) → written tests t true G ≡ Ok W → WellFormed d W.ty
  type_good t W h = written_formed tests right d ready.declared t true G W ready.good h

  fields_formed : (fs : List Formal) (Fs : Fields) → fields_written tests fs G ≡ Ok Fs → ShapedFields d Fs
  fields_formed [] Fs h = subst (ShapedFields d) (ok_ok no_field Fs h) tt
  fields_formed (f ∷ fs) Fs h =
      let t = bind_ok (written tests f.ty true G) (λ W. fields_written tests fs G >>= λ Hs. Ok (field f.name.text W.ty Hs)) Fs h in
      let r = bind_ok (fields_written tests fs G) (λ Hs. Ok (field f.name.text t.value.ty Hs)) Fs t.then in
      let w = type_good f.ty t.value t.first in
      subst (ShapedFields d) (ok_ok (field f.name.text t.value.ty r.value) Fs r.then) (w.has_name, w.shaped, fields_formed fs r.value r.first)

  -- it is of the kind of each type that it is found to be of one kind with
  abbrev OfKind : Ty → Type 0
  OfKind T = (U : Ty) → Shaped d U → same_kind T U ≡ kind_eq (kind T) (kind U)

  -- the structure of a declared type
  record Structure (T : Ty) : Type 0 where
    pub shaped : Shaped D (structure T)
    pub unnamed : is_named (structure T) ≡ false
    pub fields_are : OnceIn (fields_of (structure T))
    pub of_kind : OfKind (structure T)

  def_good : (name : List ℕ) (def : TypeDef) (T : Ty) (supers : List (List ℕ)) → def_rule tests name def G ≡ Ok T → LabelsIn def → D name ≡ Some (named name supers (structure T)) → Structure T
  def_good name (td.Alias t) T supers h u s =
      let v = bind_ok (written tests t true G) (λ W. Ok W.ty) T h in
      let w = type_good t v.value v.first in
      let e = ok_ok v.value.ty T v.then in
      let p = structure_shaped d v.value.ty w.shaped in
      subst Structure e (record { shaped = shaped_grows d D grow (structure v.value.ty) p.1; unnamed = p.0; fields_are = subst OnceIn (sym (same_fields v.value.ty)) (written_once t v.value v.first); of_kind = λ U q. kinds_by_names d ready.declared (structure v.value.ty) U p.1 q })
  def_good name (td.Labels span is) T supers h u s =
      let e = ok_ok (enumeration_of name (labels is)) T h in
      subst Structure e (record { shaped = (record { supers = supers; stands = s ∙ ap (λ U. Some (named name supers (structure U))) (sym e) }, u); unnamed = refl; fields_are = tt; of_kind = λ U q. refl })
  def_good name (td.Record span fs) T supers h u s =
      let f = bind_ok (fields_written tests fs G) _ T h in
      let n = then_ok (need (once fs []) T15 span) _ T f.then in
      let e = bounded_ok span (record_of name f.value) T n.then in
      subst Structure e (record {
        shaped = (record { supers = supers; stands = s ∙ ap (λ U. Some (named name supers (structure U))) (sym e) }, fields_grow d D grow f.value (fields_formed fs f.value f.first));
        unnamed = refl;
        fields_are = fields_written_once tests G fs f.value [] (need_ok (once fs []) T15 span tt n.first) f.first;
        of_kind = λ U q. refl;
      })
  def_good name (td.Exception span fs) T supers h u s =
      let f = bind_ok (fields_written tests fs G) _ T h in
      let n = then_ok (need (once fs []) T15 span) _ T f.then in
      let e = bounded_ok span (exception_of name f.value) T n.then in
      subst Structure e (record {
        shaped = (record { supers = supers; stands = s ∙ ap (λ U. Some (named name supers (structure U))) (sym e) }, fields_grow d D grow f.value (fields_formed fs f.value f.first));
        unnamed = refl;
        fields_are = fields_written_once tests G fs f.value [] (need_ok (once fs []) T15 span tt n.first) f.first;
        of_kind = λ U q. refl;
      })

  -- the tests of right tests are one
  fits : (S T : Ty) → misfit tests S T ≡ None → Fits S T
  fits S T h t r =
      misfit_any t tests.limit S T ∙ ap (λ (q : Tests). misfit q S T)
      (one_test (record t { limit = tests.limit }) tests
      (record { within = right.within; same_yes = r.same_yes; same_all = r.same_all; below_yes = r.below_yes; below_all = r.below_all })
      right refl) ∙ h

  supers_good : (o : Option Ident) (T : Ty) (supers : List (List ℕ)) → OfKind (structure T) → supertype_rule tests o T G ≡ Ok supers → Nearest D (structure T) supers
  supers_good None T supers of_kind h = subst (Nearest D (structure T)) (ok_ok [] supers h) tt
  supers_good (Some u) T supers of_kind h =
      let v = bind_ok (found_or (type_of_name u.text names) T02 u.span) (λ U. need (is_none (misfit tests (structure T) (structure U))) T25 u.span >> Ok (reached u.text U)) supers h in
      let n = then_ok (need (is_none (misfit tests (structure T) (structure v.value))) T25 u.span) (Ok (reached u.text v.value)) supers v.then in
      let stands = found_ok (type_of_name u.text names) T02 u.span v.value v.first in
      let by = ready.named_by u.text v.value stands in
      let m = none_is (misfit tests (structure T) (structure v.value)) (need_ok (is_none (misfit tests (structure T) (structure v.value))) T25 u.span tt n.first) in
      let w : WellFormed d (named u.text by.0 by.1) = subst (WellFormed d) by.2 (type_formed d names u.text ready.good v.value stands) in
      let f : misfit tests (structure T) by.1 ≡ None = sym (ap (λ V. misfit tests (structure T) V) (ap structure by.2 ∙ structure_is by.1 w.shaped.0)) ∙ m in
      let k : kind (structure T) ≡ kind by.1 = equal_kinds (kind (structure T)) (kind by.1) (sym (of_kind by.1 w.shaped.2) ∙ (fit_parts tests (structure T) by.1 f).0) in
      subst (Nearest D (structure T)) (sym (ap (reached u.text) by.2) ∙ ok_ok (reached u.text v.value) supers n.then)
      (by.1, grow.kept u.text (named u.text by.0 by.1) (ready.is u.text ∙ stands ∙ ap Some by.2), fits (structure T) by.1 f, k)

  labels_well : (name : List ℕ) (N : Ty) (is : List Ident) → WellFormed D N → ((l : List ℕ) → is_among l (labels is) ≡ true → InType D no_atoms (label name l) N) → AllWell D (map (λ (i : Ident). label_name i.text N (label name i.text)) is)
  labels_well name N [] w f = tt
  labels_well name N (i ∷ is) w f = ((w, f i.text (or_first (bytes_eq i.text i.text) (is_among i.text (labels is)) (name_is i.text))), labels_well name N is w (λ l h. f l (or_second (bytes_eq i.text l) (is_among l (labels is)) h)))

  def_well : (name : List ℕ) (def : TypeDef) (T : Ty) (supers : List (List ℕ)) → def_rule tests name def G ≡ Ok T → WellFormed D (named name supers (structure T)) → AllWell D (label_entries def name (named name supers (structure T)))
  def_well name (td.Alias t) T supers h w = tt
  def_well name (td.Labels span is) T supers h w =
      let e = ok_ok (enumeration_of name (labels is)) T h in
      labels_well name (named name supers (structure T)) is w (λ l k. subst (λ U. InType D no_atoms (label name l) (named name supers (structure U))) e (and_true (bytes_eq name name) (is_among l (labels is)) (name_is name) k, tt, refl))
  def_well name (td.Record span fs) T supers h w = tt
  def_well name (td.Exception span fs) T supers h w = tt

  type_well : (t : TypeDecl) (es : List Entry) → type_decl_rule tests t G ≡ Ok es → LabelsIn t.def → ((n : List ℕ) (T : Ty) → standing_of n es ≡ Some (TypeName T) → D n ≡ Some T) → AllWell D es
  type_well t es h u own =
      let v = bind_ok (def_rule tests t.name.text t.def G) (λ T. supertype_rule tests t.supertype T G >>= λ supers. Ok (type_entries t (named t.name.text supers (structure T)))) es h in
      let s = bind_ok (supertype_rule tests t.supertype v.value G) (λ supers. Ok (type_entries t (named t.name.text supers (structure v.value)))) es v.then in
      let N : Ty = named t.name.text s.value (structure v.value) in
      let e : type_entries t N ≡ es = ok_ok (type_entries t N) es s.then in
      let first : standing_of t.name.text (type_entries t N) ≡ Some (TypeName N) = ap (λ b. cond b (Some (TypeName N)) (standing_of t.name.text (label_entries t.def t.name.text N))) (name_is t.name.text) in
      let stands : D t.name.text ≡ Some N = own t.name.text N (sym (ap (standing_of t.name.text) e) ∙ first) in
      let g = def_good t.name.text t.def v.value s.value v.first u stands in
      let w : WellFormed D N = record { shaped = (g.unnamed, record { stands = stands; nearest = supers_good t.supertype v.value s.value g.of_kind s.first }, g.shaped); has_name = refl } in
      subst (AllWell D) e ((w, g.fields_are, (s.value, structure v.value, refl)), def_well t.name.text t.def v.value s.value v.first w)

  -- ---- storage

  known_is : (e : Expr) (S : Typed) (x : Value) → typed tests e G ≡ Ok S → known tests e G ≡ Ok x → InType d no_atoms x S.ty
  known_is e S x h k = ready.constants e S x h (evaluated_is (constant tests.limit e names) x k)

  storage_good : (s : StorageDecl) (b : Bool) (t : Option TypeExpr) (o : Option Expr) (i : Initial) → storage_rule tests s b t o G ≡ Ok i → Kept d i
  storage_good s b None None i h = err_ok (fault_of S03 s.span) i h
  storage_good s b (Some t) None i h =
      let v = bind_ok (written tests t true G) (λ W. first_in tests (found_type tests t).span W.ty) i h in
      let w = type_good t v.value v.first in
      let x = bind_ok (evaluated (first_value tests.limit (found_type tests t).span (closed v.value.ty))) (λ x. Ok (with_type v.value.ty x)) i v.then in
      subst (Kept d) (ok_ok (with_type v.value.ty x.value) i x.then)
      (w, first_in_type tests.limit (found_type tests t).span d v.value.ty w x.value (evaluated_is (first_value tests.limit (found_type tests t).span (closed v.value.ty)) x.value x.first))
  storage_good s b None (Some e) i h =
      let r = then_ok (none_at T04 (barred e names)) _ i h in
      let v = bind_ok (typed tests e G) _ i r.then in
      let x = bind_ok (known tests e G) (λ x. Ok (with_type (unannotated b v.value.ty) x)) i v.then in
      subst (Kept d) (ok_ok (with_type (unannotated b v.value.ty) x.value) i x.then)
      (unannotated_kept d b v.value.ty x.value (typed_formed tests right d ready.declared e G v.value ready.good tt v.first) (known_is e v.value x.value v.first x.first))
  storage_good s b (Some t) (Some e) i h =
      let r = then_ok (none_at T04 (barred e names)) _ i h in
      let u = bind_ok (written tests t true G) _ i r.then in
      let v = bind_ok (typed tests e G) _ i u.then in
      let f = then_ok (fitted (misfit tests v.value.ty u.value.ty) (found tests e).span) _ i v.then in
      let x = bind_ok (known tests e G) (λ x. Ok (with_type u.value.ty (viewed (closed u.value.ty) x))) i f.then in
      let w = type_good t u.value u.first in
      let k = typed_formed tests right d ready.declared e G v.value ready.good tt v.first in
      subst (Kept d) (ok_ok (with_type u.value.ty (viewed (closed u.value.ty) x.value)) i x.then)
      (w, through_type no_atoms tests right d ready.declared v.value.ty u.value.ty x.value k w (fitted_ok (misfit tests v.value.ty u.value.ty) (found tests e).span tt f.first) (known_is e v.value x.value v.first x.first))

  storage_well : (s : StorageDecl) (es : List Entry) → storage_decl_rule tests s G ≡ Ok es → AllWell D es
  storage_well s es h =
      let i = bind_ok (storage_rule tests s (is_var s.kind) s.ty s.init G) (λ i. Ok (global s.name.text i.ty (is_var s.kind) i.value ∷ [])) es h in
      let g = storage_good s (is_var s.kind) s.ty s.init i.value i.first in
      subst (AllWell D) (ok_ok (global s.name.text i.value.ty (is_var s.kind) i.value.value ∷ []) es i.then)
      ((well_formed_grows d D grow i.value.ty g.0, i.value.value, refl, in_type_grows d D grow i.value.value i.value.ty g.1, refl), tt)

  pub decl_well : (e : Decl) (es : List Entry) → decl_rule tests e G ≡ Ok es → HasLabels e → ((n : List ℕ) (T : Ty) → standing_of n es ≡ Some (TypeName T) → D n ≡ Some T) → AllWell D es
  decl_well (dc.Type t) es h u own = type_well t es h u own
  decl_well (dc.Storage s) es h u own = storage_well s es h
  decl_well (dc.Func f) es h u own = subst (AllWell D) (ok_ok _ es h) (tt, tt)
