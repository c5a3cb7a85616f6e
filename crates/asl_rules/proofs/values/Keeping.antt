-- A value of a type belongs to each type that its type satisfies.
use Rattle.std.proofs.Common.{◌≡◌, ℕ, ◌&&◌, Bool, true, false, List, [], ◌∷◌, Option, Some, None, ℤ, length, refl, sym, ap, ◌∙◌, subst}
use Rattle.std.specs.Prelude.{◌==◌}
use Rattle.std.specs.Str.{bytes_eq}
use Rattle.asl_rules.specs.types.Types.{Ty, Fields, Parts, Kind, Kinds, integer_of, boolean, bits_of, enumeration_of, record_of, exception_of, tuple_of, array_of, named, no_part, part, integers, booleans, bitvectors, enumerations, records, exceptions, tuples, arrays, kind, kinds, kind_eq, kinds_eq, constraint_of, width_of, is_among, reaches, by_names, parts_of, element_of, misfit_inside, misfit_of_parts, misfit}
use Rattle.asl_rules.specs.types.Types.{View}
use Rattle.asl_rules.specs.types.Closed.{is_in, width_at, constraint_at}
use Rattle.asl_rules.specs.Tests.{Tests, IsRight}
use Rattle.asl_syn.specs.declared.code.StaticCode.TheVariants.{T05, T06, T07}
use Rattle.asl_rules.proofs.values.Rounded.{same_width_at}
use Rattle.asl_rules.proofs.values.Constrained.{below_keeps}
use Rattle.asl_rules.specs.values.Values.{Value, Values, FieldValues, int, bool, bits_with, label, record_with, exception_with, tuple_with, array_with, no_value, value, count, kind_of, is_exception, is_width}
use Rattle.asl_rules.specs.types.Closed.{Assignment}
use Rattle.asl_rules.specs.private.Belonging.{has_type, parts_have, all_have}
use Rattle.asl_rules.specs.private.WellFormed.{Built, BuiltAll, Declared, Nearest, Shaped, ShapedParts, WellDeclared, WellFormed, Written, is_named, is_nameless_exception}
use Rattle.asl_rules.proofs.basics.Tests.{no, some_same, both, and_true, either, or_second, same_name}
use Rattle.asl_rules.proofs.values.SameKind.{equal_kinds, tests_equal, same_number}
use Rattle.asl_rules.proofs.values.Shapes.{named_parts, named_from}
use Rattle.asl_rules.proofs.values.KindOf.{has_kind}
use Rattle.asl_rules.proofs.values.KindsByNames.{one_type, one_structure, one_supers, declared_of, reached_kind, one_kind}
use Rattle.asl_rules.proofs.values.Satisfying.{or_both, it_holds, fit_parts}

module _ (av : Assignment) (tests : Tests) (right : IsRight tests) where
  -- ---- what declarations say

  pub written_once : (d : List ℕ → Option Ty) (n m : List ℕ) (S T : Ty) → n ≡ m → Written d n S → Written d m T → S ≡ T
  written_once d n m S T e v w = one_structure n v.supers w.supers m S T (one_type n v.supers w.supers m S T (d m) (ap d (sym e) ∙ v.stands) w.stands)

  -- ---- names that are reached

  -- a name among those above a structure is declared, and what it reaches is among them
  record Reached (d : List ℕ → Option Ty) (ns : List (List ℕ)) (c : List ℕ) : Type 0 where
    pub others : List (List ℕ)
    pub ty : Ty
    pub stands : d c ≡ Some (named c others ty)
    pub among : (e : List ℕ) → is_among e others ≡ true → is_among e ns ≡ true

  reached_at : (d : List ℕ → Option Ty) → WellDeclared d → (ns : List (List ℕ)) (T : Ty) (c : List ℕ) → Nearest d T ns → is_among c ns ≡ true → Reached d ns c
  reached_at d w [] T c r h = no h
  reached_at d w (n ∷ ns) T c r h =
      either (bytes_eq n c) (is_among c ns) h
      (λ e. subst (Reached d (n ∷ ns)) (same_name n c e) (record { others = ns; ty = r.0; stands = r.1; among = λ i. or_second (bytes_eq n i) (is_among i ns) }))
      (λ e.
      let q = reached_at d w ns r.0 c (declared_of d w n ns r.0 r.1).nearest e in
      record { others = q.others; ty = q.ty; stands = q.stands; among = λ i g. or_second (bytes_eq n i) (is_among i ns) (q.among i g) })

  -- what a reached name reaches is reached
  pub reaches_on : (d : List ℕ → Option Ty) → WellDeclared d → (own a c : List ℕ) (s supers : List (List ℕ)) (S T : Ty) → Declared d own s S → Declared d a supers T → reaches own s a ≡ true → is_among c supers ≡ true → is_among c s ≡ true
  reaches_on d i own a c s supers S T v w h k =
      either (bytes_eq own a) (is_among a s) h
      (λ e. subst (λ r. is_among c r ≡ true) (sym (one_supers own s supers a S T (one_type own s supers a S T (d a) (ap d (sym (same_name own a e)) ∙ v.stands) w.stands))) k)
      (λ e.
      let r = reached_at d i s S a v.nearest e in
      r.among c (subst (λ n. is_among c n ≡ true) (sym (one_supers a r.others supers a r.ty T (one_type a r.others supers a r.ty T (d a) r.stands w.stands))) k))

  -- ---- values without parts

  int_belongs : (T : Ty) (z : ℤ) → kind_eq integers (kind T) ≡ true → is_in z (constraint_at (constraint_of T) av) ≡ true → has_type av (int z) T ≡ true
  int_belongs (integer_of ps) z k h = h
  int_belongs (named n supers T) z k h = int_belongs T z k h
  int_belongs T z k h = no k

  bits_belong : (T : Ty) (bs : List Bool) (v : View) → kind_eq bitvectors (kind T) ≡ true → is_width (length bs) (width_at (width_of T) av) ≡ true → has_type av (bits_with bs v) T ≡ true
  bits_belong (bits_of w u) bs v k h = h
  bits_belong (named n supers T) bs v k h = bits_belong T bs v k h
  bits_belong T bs v k h = no k

  bool_belongs : (T : Ty) (z : Bool) → kind_eq booleans (kind T) ≡ true → has_type av (bool z) T ≡ true
  bool_belongs boolean z k = refl
  bool_belongs (named n supers T) z k = bool_belongs T z k
  bool_belongs T z k = no k

  label_belongs : (d : List ℕ → Option Ty) (T : Ty) (n : List ℕ) (labels : List (List ℕ)) (i l : List ℕ) → Written d n (enumeration_of n labels) → Shaped d T → kind_eq (enumerations n) (kind T) ≡ true → has_type av (label i l) (enumeration_of n labels) ≡ true → has_type av (label i l) T ≡ true
  label_belongs d (enumeration_of m others) n labels i l w t k h = subst (λ U. has_type av (label i l) U ≡ true) (written_once d n m (enumeration_of n labels) (enumeration_of m others) (same_name n m k) w t.0) h
  label_belongs d (named m supers T) n labels i l w t k h = label_belongs d T n labels i l w t.2 k h
  label_belongs d T n labels i l w t k h = no k

  record_belongs : (d : List ℕ → Option Ty) (T : Ty) (n : List ℕ) (fs : Fields) (i : List ℕ) (xs : FieldValues) → Written d n (record_of n fs) → Shaped d T → kind_eq (records n) (kind T) ≡ true → has_type av (record_with i xs) (record_of n fs) ≡ true → has_type av (record_with i xs) T ≡ true
  record_belongs d (record_of m gs) n fs i xs w t k h = subst (λ U. has_type av (record_with i xs) U ≡ true) (written_once d n m (record_of n fs) (record_of m gs) (same_name n m k) w t.0) h
  record_belongs d (named m supers T) n fs i xs w t k h = record_belongs d T n fs i xs w t.2 k h
  record_belongs d T n fs i xs w t k h = no k

  exception_belongs : (d : List ℕ → Option Ty) (T : Ty) (n : List ℕ) (fs : Fields) (x : Value) → Written d n (exception_of n fs) → Shaped d T → is_named T ≡ false → kind_eq (exceptions n) (kind T) ≡ true → has_type av x (exception_of n fs) ≡ true → has_type av x T ≡ true
  exception_belongs d (exception_of m gs) n fs x w t u k h = subst (λ U. has_type av x U ≡ true) (written_once d n m (exception_of n fs) (exception_of m gs) (same_name n m k) w t.0) h
  exception_belongs d (named m supers T) n fs x w t u k h = no (sym u)
  exception_belongs d T n fs x w t u k h = no k

  -- the structures of two names of one kind of exceptions are one
  pub exception_inside : (d : List ℕ → Option Ty) (S T : Ty) (own : List ℕ) (s : List (List ℕ)) (i : List ℕ) (xs : FieldValues) → Shaped d S → Shaped d T → is_named S ≡ false → is_named T ≡ false → kind_eq (kind S) (kind T) ≡ true → has_type av (exception_with own s i xs) S ≡ true → has_type av (exception_with own s i xs) T ≡ true
  exception_inside d (exception_of n fs) T own s i xs v t a u k h = exception_belongs d T n fs (exception_with own s i xs) v.0 t u k h
  exception_inside d (named n supers S) T own s i xs v t a u k h = no (sym a)
  exception_inside d S T own s i xs v t a u k h = no h

  -- ---- parts and elements, behind names

  pub parts_shaped : (d : List ℕ → Option Ty) (T : Ty) (ks : Kinds) → Shaped d T → kind_eq (tuples ks) (kind T) ≡ true → ShapedParts d (parts_of T)
  parts_shaped d (tuple_of ts) ks t k = t
  parts_shaped d (named n supers T) ks t k = parts_shaped d T ks t.2 k
  parts_shaped d T ks t k = no k

  pub parts_kinds : (T : Ty) (ks : Kinds) → kind_eq (tuples ks) (kind T) ≡ true → kinds_eq ks (kinds (parts_of T)) ≡ true
  parts_kinds (tuple_of ts) ks k = k
  parts_kinds (named n supers T) ks k = parts_kinds T ks k
  parts_kinds T ks k = no k

  tuple_belongs : (T : Ty) (ks : Kinds) (xs : Values) → kind_eq (tuples ks) (kind T) ≡ true → parts_have av xs (parts_of T) ≡ true → has_type av (tuple_with xs) T ≡ true
  tuple_belongs (tuple_of ts) ks xs k h = h
  tuple_belongs (named n supers T) ks xs k h = tuple_belongs T ks xs k h
  tuple_belongs T ks xs k h = no k

  pub element_shaped : (d : List ℕ → Option Ty) (T : Ty) (n : ℕ) (l : Kind) → Shaped d T → kind_eq (arrays n l) (kind T) ≡ true → (is_nameless_exception (element_of T) ≡ false) × Shaped d (element_of T)
  element_shaped d (array_of m T) n l t k = t
  element_shaped d (named i supers T) n l t k = element_shaped d T n l t.2 k
  element_shaped d T n l t k = no k

  pub element_kind : (T : Ty) (n : ℕ) (l : Kind) → kind_eq (arrays n l) (kind T) ≡ true → kind_eq l (kind (element_of T)) ≡ true
  element_kind (array_of m T) n l k = (both (n == m) (kind_eq l (kind T)) k).1
  element_kind (named i supers T) n l k = element_kind T n l k
  element_kind T n l k = no k

  array_belongs : (T : Ty) (n : ℕ) (j l : Kind) (xs : Values) → kind_eq (arrays n l) (kind T) ≡ true → kind_eq j l ≡ true → count xs ≡ n → all_have av xs (element_of T) ≡ true → has_type av (array_with j xs) T ≡ true
  array_belongs (array_of m T) n j l xs k e c h =
      let p = both (n == m) (kind_eq l (kind T)) k in
      and_true (kind_eq j (kind T) && (count xs == m)) (all_have av xs T)
      (and_true (kind_eq j (kind T)) (count xs == m)
      (tests_equal j (kind T) (equal_kinds j l e ∙ equal_kinds l (kind T) p.1))
      (subst (λ i. (i == m) ≡ true) (sym c) p.0))
      h
  array_belongs (named i supers T) n j l xs k e c h = array_belongs T n j l xs k e c h
  array_belongs T n j l xs k e c h = no k

  -- ---- labels, records and exceptions

  label_kept : (d : List ℕ → Option Ty) (S T : Ty) (i l : List ℕ) → Shaped d S → Shaped d T → kind_eq (kind S) (kind T) ≡ true → has_type av (label i l) S ≡ true → has_type av (label i l) T ≡ true
  label_kept d (enumeration_of n labels) T i l s t k h = label_belongs d T n labels i l s.0 t k h
  label_kept d (named a supers S) T i l s t k h = label_kept d S T i l s.2 t k h
  label_kept d S T i l s t k h = no h

  record_kept : (d : List ℕ → Option Ty) (S T : Ty) (i : List ℕ) (xs : FieldValues) → Shaped d S → Shaped d T → kind_eq (kind S) (kind T) ≡ true → has_type av (record_with i xs) S ≡ true → has_type av (record_with i xs) T ≡ true
  record_kept d (record_of n fs) T i xs s t k h = record_belongs d T n fs i xs s.0 t k h
  record_kept d (named a supers S) T i xs s t k h = record_kept d S T i xs s.2 t k h
  record_kept d S T i xs s t k h = no h

  pub reach_kept : (d : List ℕ → Option Ty) → WellDeclared d → (own a c : List ℕ) (s supers others : List (List ℕ)) (S : Ty) → ((T : Ty) × (d own ≡ Some (named own s T))) → Declared d a supers S → reaches own s a ≡ true → reaches a supers c ≡ true → reaches own s c ≡ true
  reach_kept d w own a c s supers others S b v h k =
      either (bytes_eq a c) (is_among c supers) k
      (λ e. subst (λ n. reaches own s n ≡ true) (same_name a c e) h)
      (λ e. or_second (bytes_eq own c) (is_among c s) (reaches_on d w own a c s supers b.0 S (declared_of d w own s b.0 b.1) v h e))

  exception_from : (d : List ℕ → Option Ty) → WellDeclared d → (a : List ℕ) (supers : List (List ℕ)) (S T : Ty) (own : List ℕ) (s : List (List ℕ)) (i : List ℕ) (xs : FieldValues) → Shaped d (named a supers S) → Shaped d T → ((V : Ty) × (d own ≡ Some (named own s V))) → is_nameless_exception T ≡ false → kind_eq (exceptions i) (kind T) ≡ true → kind_eq (kind S) (kind T) ≡ true → by_names a supers T (misfit_inside tests S T) ≡ None →
      has_type av (exception_with own s i xs) (named a supers S) ≡ true → has_type av (exception_with own s i xs) T ≡ true
  exception_from d w a supers S (named c others U) own s i xs v t b u j k m h =
      let x = exception_with own s i xs in
      let p = named_parts av x a supers S h in
      named_from av x c others U (reach_kept d w own a c s supers others S b v.1 p.0 (it_holds (reaches a supers c) T05 m)) (exception_inside d S U own s i xs v.2 t.2 v.0 t.0 k p.1)
  exception_from d w a supers S (exception_of n fs) own s i xs v t b u j k m h = no (sym u)
  exception_from d w a supers S T own s i xs v t b u j k m h = no j

  exception_kept : (d : List ℕ → Option Ty) → WellDeclared d → (S T : Ty) (own : List ℕ) (s : List (List ℕ)) (i : List ℕ) (xs : FieldValues) → Shaped d S → Shaped d T → ((V : Ty) × (d own ≡ Some (named own s V))) → is_nameless_exception S ≡ false → is_nameless_exception T ≡ false → kind_eq (exceptions i) (kind T) ≡ true → kind_eq (kind S) (kind T) ≡ true → misfit_inside tests S T ≡ None →
      has_type av (exception_with own s i xs) S ≡ true → has_type av (exception_with own s i xs) T ≡ true
  exception_kept d w (named a supers S) T own s i xs v t b u g j k m h = exception_from d w a supers S T own s i xs v t b g j k m h
  exception_kept d w (exception_of n fs) T own s i xs v t b u g j k m h = no (sym u)
  exception_kept d w S T own s i xs v t b u g j k m h = no h

  -- ---- tuples and arrays, behind names and from name to name

  -- a step from a structure to another that it fits
  abbrev Steps : (List ℕ → Option Ty) → Value → Type 0
  Steps d x = (S T : Ty) → is_named S ≡ false → Shaped d S → Shaped d T → kind_eq (kind S) (kind T) ≡ true → misfit_inside tests S T ≡ None → has_type av x S ≡ true → has_type av x T ≡ true

  climbs : (d : List ℕ → Option Ty) → WellDeclared d → (x : Value) → Steps d x → (ns : List (List ℕ)) (S : Ty) (c : List ℕ) (others : List (List ℕ)) (U : Ty) → is_named S ≡ false → Shaped d S → Nearest d S ns → is_among c ns ≡ true → d c ≡ Some (named c others U) → has_type av x S ≡ true → has_type av x U ≡ true
  climbs d w x step [] S c others U a s r e i h = no e
  climbs d w x step (n ∷ ns) S c others U a s r e i h =
      let f = (w.each n (named n ns r.0) r.1).shaped in
      let p = fit_parts tests S r.0 (r.2 tests right) in
      let g = step S r.0 a s f.2 (tests_equal (kind S) (kind r.0) r.3) p.1 h in
      either (bytes_eq n c) (is_among c ns) e
      (λ o. subst (λ V. has_type av x V ≡ true) (one_structure n ns others c r.0 U (one_type n ns others c r.0 U (d c) (ap d (sym (same_name n c o)) ∙ r.1) i)) g)
      (λ o. climbs d w x step ns r.0 c others U f.0 f.2 f.1.nearest o i g)

  through : (d : List ℕ → Option Ty) → WellDeclared d → (x : Value) → ((name : List ℕ) → is_exception name x ≡ true) → Steps d x → (S T : Ty) → Shaped d S → Shaped d T → kind_eq (kind S) (kind T) ≡ true → misfit_inside tests S T ≡ None → has_type av x S ≡ true → has_type av x T ≡ true
  through d w x o step (named a supers S) (named c others U) s t k m h =
      let p = (named_parts av x a supers S h).1 in
      named_from av x c others U (o c)
      (either (bytes_eq a c) (is_among c supers) (it_holds (reaches a supers c) T05 m)
      (λ e. subst (λ V. has_type av x V ≡ true) (one_structure a supers others c S U (one_type a supers others c S U (d c) (ap d (sym (same_name a c e)) ∙ s.1.stands) t.1.stands)) p)
      (λ e. climbs d w x step supers S c others U s.0 s.2 s.1.nearest e t.1.stands p))
  through d w x o step (named a supers S) T s t k m h = step S T s.0 s.2 t k m (named_parts av x a supers S h).1
  through d w x o step S T s t k m h = step S T refl s t k m h

  int_step : (d : List ℕ → Option Ty) (z : ℤ) → Steps d (int z)
  int_step d z (integer_of ps) T a s t k m h =
      let i = right.below_yes ps (constraint_of T) (it_holds (tests.below ps (constraint_of T)) T07 m) in
      int_belongs T z k (below_keeps ps (constraint_of T) av z i.left i.right i.below h)
  int_step d z (named n supers S) T a s t k m h = no (sym a)
  int_step d z S T a s t k m h = no h

  bits_step : (d : List ℕ → Option Ty) (bs : List Bool) (v : View) → Steps d (bits_with bs v)
  bits_step d bs v (bits_of w u) T a s t k m h =
      let i = right.same_yes w (width_of T) (it_holds (tests.same w (width_of T)) T06 m) in
      bits_belong T bs v k (subst (λ z. is_width (length bs) z ≡ true) (same_width_at av w (width_of T) i.left i.right (i.same av)) h)
  bits_step d bs v (named n supers S) T a s t k m h = no (sym a)
  bits_step d bs v S T a s t k m h = no h

  tuple_step : (d : List ℕ → Option Ty) (xs : Values) → ((ss ts : Parts) → ShapedParts d ss → ShapedParts d ts → kinds_eq (kinds ss) (kinds ts) ≡ true → misfit_of_parts tests ss ts ≡ None → parts_have av xs ss ≡ true → parts_have av xs ts ≡ true) → Steps d (tuple_with xs)
  tuple_step d xs f (tuple_of ss) T a s t k m h = tuple_belongs T (kinds ss) xs k (f ss (parts_of T) s (parts_shaped d T (kinds ss) t k) (parts_kinds T (kinds ss) k) m h)
  tuple_step d xs f (named n supers S) T a s t k m h = no (sym a)
  tuple_step d xs f S T a s t k m h = no h

  array_step : (d : List ℕ → Option Ty) (j : Kind) (xs : Values) → ((S T : Ty) → Shaped d S → Shaped d T → is_nameless_exception S ≡ false → is_nameless_exception T ≡ false → kind_eq (kind S) (kind T) ≡ true → misfit_inside tests S T ≡ None → all_have av xs S ≡ true → all_have av xs T ≡ true) → Steps d (array_with j xs)
  array_step d j xs f (array_of n S) T a s t k m h =
      let p = both (kind_eq j (kind S) && (count xs == n)) (all_have av xs S) h in
      let q = both (kind_eq j (kind S)) (count xs == n) p.0 in
      let e = element_shaped d T n (kind S) t k in
      array_belongs T n j (kind S) xs k q.0 (same_number (count xs) n q.1) (f S (element_of T) s.1 e.1 s.0 e.0 (element_kind T n (kind S) k) m p.1)
  array_step d j xs f (named n supers S) T a s t k m h = no (sym a)
  array_step d j xs f S T a s t k m h = no h

  -- ---- by value

  kind_first : (S T : Ty) (x : Value) → kind_eq (kind S) (kind T) ≡ true → has_type av x S ≡ true → kind_eq (kind_of x) (kind T) ≡ true
  kind_first S T x k h = subst (λ i. kind_eq i (kind T) ≡ true) (sym (has_kind av S x h)) k

  mutual
    keeps : (d : List ℕ → Option Ty) → WellDeclared d → (x : Value) (S T : Ty) → Shaped d S → Shaped d T → Built d x → is_nameless_exception S ≡ false → is_nameless_exception T ≡ false → kind_eq (kind S) (kind T) ≡ true → misfit_inside tests S T ≡ None → has_type av x S ≡ true → has_type av x T ≡ true
    keeps d w (int z) S T s t b u v k m h = through d w (int z) (λ n. refl) (int_step d z) S T s t k m h
    keeps d w (bool z) S T s t b u v k m h = bool_belongs T z (kind_first S T (bool z) k h)
    keeps d w (bits_with bs i) S T s t b u v k m h = through d w (bits_with bs i) (λ n. refl) (bits_step d bs i) S T s t k m h
    keeps d w (label i l) S T s t b u v k m h = label_kept d S T i l s t k h
    keeps d w (record_with i xs) S T s t b u v k m h = record_kept d S T i xs s t k h
    keeps d w (exception_with own supers i xs) S T s t b u v k m h = exception_kept d w S T own supers i xs s t b.0 u v (kind_first S T (exception_with own supers i xs) k h) k m h
    keeps d w (tuple_with xs) S T s t b u v k m h = through d w (tuple_with xs) (λ n. refl) (tuple_step d xs (λ ss ts i j. parts_keep d w xs ss ts i j b)) S T s t k m h
    keeps d w (array_with j xs) S T s t b u v k m h = through d w (array_with j xs) (λ n. refl) (array_step d j xs (λ V U i o. all_keep d w xs V U i o b)) S T s t k m h

    parts_keep : (d : List ℕ → Option Ty) → WellDeclared d → (xs : Values) (ss ts : Parts) → ShapedParts d ss → ShapedParts d ts → BuiltAll d xs → kinds_eq (kinds ss) (kinds ts) ≡ true → misfit_of_parts tests ss ts ≡ None → parts_have av xs ss ≡ true → parts_have av xs ts ≡ true
    parts_keep d w no_value no_part no_part s t b k m h = refl
    parts_keep d w no_value no_part (part T ts) s t b k m h = no k
    parts_keep d w no_value (part S ss) ts s t b k m h = no h
    parts_keep d w (value x xs) no_part ts s t b k m h = no h
    parts_keep d w (value x xs) (part S ss) no_part s t b k m h = no k
    parts_keep d w (value x xs) (part S ss) (part T ts) s t b k m h =
        let p = both (has_type av x S) (parts_have av xs ss) h in
        let q = both (kind_eq (kind S) (kind T)) (kinds_eq (kinds ss) (kinds ts)) k in
        let r = or_both (misfit_inside tests S T) (misfit_of_parts tests ss ts) m in
        and_true (has_type av x T) (parts_have av xs ts) (keeps d w x S T s.1 t.1 b.0 s.0 t.0 q.0 r.0 p.0) (parts_keep d w xs ss ts s.2 t.2 b.1 q.1 r.1 p.1)

    all_keep : (d : List ℕ → Option Ty) → WellDeclared d → (xs : Values) (S T : Ty) → Shaped d S → Shaped d T → BuiltAll d xs → is_nameless_exception S ≡ false → is_nameless_exception T ≡ false → kind_eq (kind S) (kind T) ≡ true → misfit_inside tests S T ≡ None → all_have av xs S ≡ true → all_have av xs T ≡ true
    all_keep d w no_value S T s t b u v k m h = refl
    all_keep d w (value x xs) S T s t b u v k m h =
        let p = both (has_type av x S) (all_have av xs S) h in
        and_true (has_type av x T) (all_have av xs T) (keeps d w x S T s t b.0 u v k m p.0) (all_keep d w xs S T s t b.1 u v k m p.1)

  pub satisfying_keeps : (d : List ℕ → Option Ty) → WellDeclared d → (S T : Ty) (x : Value) → WellFormed d S → WellFormed d T → Built d x → misfit tests S T ≡ None → has_type av x S ≡ true → has_type av x T ≡ true
  satisfying_keeps d w S T x s t b m h =
      let p = fit_parts tests S T m in
      keeps d w x S T s.shaped t.shaped b s.has_name t.has_name (one_kind d w S T s.shaped t.shaped p.0) p.1 h

  -- ---- exceptions that are caught

  -- an exception that reaches a name belongs to what that stands for
  pub caught_has : (d : List ℕ → Option Ty) → WellDeclared d → (a : List ℕ) (supers : List (List ℕ)) (V : Ty) (c : List ℕ) (others : List (List ℕ)) (U : Ty) (own : List ℕ) (s : List (List ℕ)) (n : List ℕ) (xs : FieldValues) →
      WellFormed d (named a supers V) → WellFormed d (named c others U) → ((T : Ty) × (d own ≡ Some (named own s T))) → has_type av (exception_with own s n xs) (named a supers V) ≡ true → reaches own s c ≡ true → has_type av (exception_with own s n xs) (named c others U) ≡ true
  caught_has d w a supers V c others U own s n xs v u b h r =
      let p = named_parts av (exception_with own s n xs) a supers V h in
      let k : kind V ≡ kind U = sym (reached_kind d w own s b.0 a supers V b.1 v.shaped.1.stands p.0) ∙ reached_kind d w own s b.0 c others U b.1 u.shaped.1.stands r in
      named_from av (exception_with own s n xs) c others U r (exception_inside d V U own s n xs v.shaped.2 u.shaped.2 v.shaped.0 u.shaped.0 (tests_equal (kind V) (kind U) k) p.1)

  -- a name that an exception reaches is declared
  record Named (d : List ℕ → Option Ty) (c : List ℕ) : Type 0 where
    pub others : List (List ℕ)
    pub ty : Ty
    pub stands : d c ≡ Some (named c others ty)

  caught_name : (d : List ℕ → Option Ty) → WellDeclared d → (own : List ℕ) (s : List (List ℕ)) (T : Ty) (c : List ℕ) → d own ≡ Some (named own s T) → reaches own s c ≡ true → Named d c
  caught_name d w own s T c e h =
      either (bytes_eq own c) (is_among c s) h
      (λ o. subst (Named d) (same_name own c o) (record { others = s; ty = T; stands = e }))
      (λ o. let r = reached_at d w s T c (declared_of d w own s T e).nearest o in record { others = r.others; ty = r.ty; stands = r.stands })

  -- an exception of a type that reaches a declared name belongs to what that stands for
  pub caught_of : (d : List ℕ → Option Ty) → WellDeclared d → (U T : Ty) (own : List ℕ) (s : List (List ℕ)) (n : List ℕ) (xs : FieldValues) (t : List ℕ) → WellFormed d U → ((V : Ty) × (d own ≡ Some (named own s V))) → d t ≡ Some T → has_type av (exception_with own s n xs) U ≡ true → reaches own s t ≡ true → has_type av (exception_with own s n xs) T ≡ true
  caught_of d w (named a supers S) T own s n xs t u b e h r =
      let q = caught_name d w own s b.0 t b.1 r in
      subst (λ V. has_type av (exception_with own s n xs) V ≡ true) (some_same (named t q.others q.ty) T (sym q.stands ∙ e))
      (caught_has d w a supers S t q.others q.ty own s n xs u (w.each t (named t q.others q.ty) q.stands) b h r)
  caught_of d w (exception_of m fs) T own s n xs t u b e h r = no (sym u.has_name)
  caught_of d w U T own s n xs t u b e h r = no h
