-- What a construction gives: the fields of the type with the values that were given, by the names and by the places alike.
use Rattle.std.proofs.Common.{◌≡◌, ℕ, suc, ◌⊎◌, inl, inr, ◌&&◌, cond, Bool, true, false, not, List, [], ◌∷◌, ◌++◌, Option, Some, None, option_map, Ok, refl, sym, ap, ◌∙◌, subst}
use Rattle.std.specs.Prelude.{slice_get, option_and_then}
use Rattle.std.specs.Str.{bytes_eq}
use Rattle.asl_syn.specs.declared.token.Span.{Span}
use Rattle.asl_syn.specs.declared.code.StaticCode.TheVariants.{T15}
use Rattle.asl_syn.specs.declared.tree.Ident.{Ident}
use Rattle.asl_rules.specs.Faults.{need, found_or, fitted}
use Rattle.asl_rules.specs.Tests.{Tests, IsRight}
use Rattle.asl_rules.specs.types.Types.{Ty, Fields, Parts, bits_of, record_of, exception_of, tuple_of, array_of, named, no_field, field, part, misfit, reaches, is_among}
use Rattle.asl_rules.specs.types.Closed as cl
use Rattle.asl_rules.specs.types.Closed.{Assignment, Closed, ClosedFields, type_with, fields_with, closed}
use Rattle.asl_rules.specs.runs.Trees.{FieldGiven, record_shell, exception_shell}
use Rattle.asl_rules.specs.declarations.Layouts.{place_of}
use Rattle.asl_rules.specs.expressions.Typing.{Operand}
use Rattle.asl_rules.specs.values.Members.{numbered, one_further, Constructed, constructed_of, given_once, all_fit, texts_of, with_place, places_given, has_name}
use Rattle.asl_rules.specs.values.Values.{Value, Values, FieldValues, bits_with, tuple_with, array_with, record_with, exception_with, no_value_of, value_of_field, no_value, value, has, fields_in}
use Rattle.asl_rules.specs.types.Views.{viewed, parts_viewed, all_viewed}
use Rattle.asl_rules.specs.private.WellFormed.{WellFormed, ShapedFields, Built, BuiltFields, FieldsSeen, Written, WellDeclared}
use Rattle.asl_rules.specs.private.Belonging.{InType}
use Rattle.asl_rules.specs.private.Agreement.{no_atoms}
use Rattle.asl_rules.specs.runs.States.{of_type, kept}
use Rattle.asl_rules.specs.runs.Pures.{there}
use Rattle.asl_rules.specs.values.Structures.{given_value, with_given, fields_given, construct}
use Rattle.asl_rules.specs.private.ByPlace as places
use Rattle.asl_rules.specs.private.ByPlace.{seen_as, parts_seen_as, all_seen_as, filled, fields_from, in_shell}
use Rattle.asl_rules.proofs.basics.Inversions.{ok_ok, bind_ok, then_ok, found_ok, fitted_ok}
use Rattle.asl_rules.proofs.basics.Tests.{no, and_true, or_first, some_same, none_some, same_name, name_is}
use Rattle.asl_rules.proofs.values.Keeping.{satisfying_keeps}
use Rattle.asl_rules.proofs.values.Viewing.{viewed_has, viewed_twice}
use Rattle.asl_rules.proofs.values.Bare.{viewed_built}
use Rattle.asl_rules.proofs.scopes.Naming.{FieldsOnce}
use Rattle.asl_rules.proofs.expressions.OperatorForms.{Gives}
use Rattle.asl_rules.proofs.expressions.MemberForms.{same_first, same_others, no_atoms_in, no_atoms_in_exception}

-- ---- a value as a type sees it, whatever the atoms stand for

mutual
  pub seen_is : (a : Assignment) (T : Ty) (x : Value) → seen_as T x ≡ viewed (type_with T a) x
  seen_is a (named n s T) x = seen_is a T x
  seen_is a (bits_of p u) (bits_with bs v) = refl
  seen_is a (tuple_of ts) (tuple_with xs) = ap tuple_with (parts_seen_is a ts xs)
  seen_is a (array_of n T) (array_with k xs) = ap (array_with k) (all_seen_is a T xs)
  seen_is a T x = refl

  parts_seen_is : (a : Assignment) (ts : Parts) (xs : Values) → parts_seen_as ts xs ≡ parts_viewed (cl.parts_with ts a) xs
  parts_seen_is a (part T ts) (value x xs) = ap (λ y. value y (parts_seen_as ts xs)) (seen_is a T x) ∙ ap (value (viewed (type_with T a) x)) (parts_seen_is a ts xs)
  parts_seen_is a ts xs = refl

  all_seen_is : (a : Assignment) (T : Ty) (xs : Values) → all_seen_as T xs ≡ all_viewed (type_with T a) xs
  all_seen_is a T no_value = refl
  all_seen_is a T (value x xs) = ap (λ y. value y (all_seen_as T xs)) (seen_is a T x) ∙ ap (value (viewed (type_with T a) x)) (all_seen_is a T xs)

-- ---- the fields of a type

abbrev pub InFields : List ℕ → Ty → Fields → Type 0
InFields f T no_field = ⊥
InFields f T (field g U fs) = ((g ≡ f) × (U ≡ T)) ⊎ InFields f T fs

-- a field that stands once is found by its name
pub record FoundOnce (f : List ℕ) (T : Ty) (fs : Fields) : Type 0 where
  pub place : ℕ
  pub is : numbered f fs ≡ Some (place, T)

passed_over : (b : Bool) (g f : List ℕ) (T U : Ty) (fs : Fields) → bytes_eq g f ≡ b → numbered g fs ≡ None → FoundOnce f T fs → FoundOnce f T (field g U fs)
passed_over true g f T U fs e n k = none_some (k.place, T) (sym (ap (λ j. numbered j fs) (sym (same_name g f e)) ∙ n) ∙ k.is)
passed_over false g f T U fs e n k =
    record { place = suc k.place; is = ap (λ b. cond b (Some (0, U)) (one_further (numbered f fs))) e ∙ ap one_further k.is }

pub once_found : (f : List ℕ) (T : Ty) (fs : Fields) → FieldsOnce fs → InFields f T fs → FoundOnce f T fs
once_found f T no_field o m = absurd m
once_found f T (field g U fs) o (inl e) = record { place = 0; is = ap (λ b. cond b (Some (0, U)) (one_further (numbered f fs))) (subst (λ j. bytes_eq j f ≡ true) (sym e.0) (name_is f)) ∙ ap (λ V. Some (0, V)) e.1 }
once_found f T (field g U fs) o (inr m) = passed_over (bytes_eq g f) g f T U fs refl o.0 (once_found f T fs o.1 m)

pub fields_shaped : (d : List ℕ → Option Ty) (f : List ℕ) (T : Ty) (fs : Fields) → ShapedFields d fs → InFields f T fs → WellFormed d T
fields_shaped d f T no_field s m = absurd m
fields_shaped d f T (field g U fs) s (inl e) = subst (WellFormed d) e.1 (record { shaped = s.1; has_name = s.0 })
fields_shaped d f T (field g U fs) s (inr m) = fields_shaped d f T fs s.2 m

pub fields_fixed : (a : Assignment) (f : List ℕ) (T : Ty) (fs : Fields) → fields_with fs a ≡ fields_with fs no_atoms → InFields f T fs → type_with T a ≡ closed T
fields_fixed a f T no_field e m = absurd m
fields_fixed a f T (field g U fs) e (inl k) = subst (λ V. type_with V a ≡ closed V) k.1 (same_first g g (type_with U a) (closed U) (fields_with fs a) (fields_with fs no_atoms) e)
fields_fixed a f T (field g U fs) e (inr m) = fields_fixed a f T fs (same_others g g (type_with U a) (closed U) (fields_with fs a) (fields_with fs no_atoms) e) m

module _ (d : List ℕ → Option Ty) where
  -- the value that is given for a field, by its name and by its place
  pub record ValueAt (f : List ℕ) (T : Ty) (names : List (List ℕ)) (xs : List Value) (i : ℕ) : Type 0 where
    pub one : Value
    pub by_name : given_value f names xs ≡ Some one
    pub by_place : slice_get xs i ≡ Some one
    pub have : has one (closed T) ≡ true
    pub built : Built d one

  -- the fields that are made of them
  pub record Made (fs : Fields) (names : List (List ℕ)) (xs : List Value) (gs : List FieldGiven) : Type 0 where
    pub fields : FieldValues
    pub by_name : fields_given (fields_with fs no_atoms) names xs ≡ Some fields
    pub by_place : fields_from gs xs ≡ Some fields
    pub have : fields_in fields (fields_with fs no_atoms) ≡ true
    pub seen : FieldsSeen fs fields
    pub built : BuiltFields d fields

  made_first : (f : List ℕ) (T : Ty) (fs : Fields) (names : List (List ℕ)) (xs : List Value) (o : Option ℕ) (q : Option (List FieldGiven)) (gs : List FieldGiven) → with_place f T o q ≡ Some gs → ((i : ℕ) → o ≡ Some i → ValueAt f T names xs i) → ((hs : List FieldGiven) → q ≡ Some hs → Made fs names xs hs) → Made (field f T fs) names xs gs
  made_first f T fs names xs None q gs h each rest = none_some gs h
  made_first f T fs names xs (Some i) None gs h each rest = none_some gs h
  made_first f T fs names xs (Some i) (Some hs) gs h each rest =
      let v = each i refl in
      let r = rest hs refl in
      let y = viewed (closed T) v.one in
      subst (Made (field f T fs) names xs) (some_same (record { name = f; ty = T; place = i } ∷ hs) gs h)
      (record {
        fields = value_of_field f y r.fields;
        by_name =
            ap (λ o. with_given f (option_and_then (kept (of_type (closed T))) o) (fields_given (fields_with fs no_atoms) names xs)) v.by_name
            ∙ ap (λ b. with_given f (cond b (Some y) None) (fields_given (fields_with fs no_atoms) names xs)) v.have ∙ ap (with_given f (Some y)) r.by_name;
        by_place = ap (λ o. filled T o f (fields_from hs xs)) v.by_place ∙ ap (filled T (Some v.one) f) r.by_place ∙ ap (λ z. Some (value_of_field f z r.fields)) (seen_is no_atoms T v.one);
        have = and_true (bytes_eq f f) (has y (closed T) && fields_in r.fields (fields_with fs no_atoms)) (name_is f) (and_true (has y (closed T)) (fields_in r.fields (fields_with fs no_atoms)) (viewed_has (closed T) v.one v.have) r.have);
        seen = (viewed_twice (closed T) v.one, r.seen);
        built = (viewed_built d (closed T) v.one v.built, r.built);
      })

  pub made : (fs : Fields) (names : List (List ℕ)) (xs : List Value) (gs : List FieldGiven) → places_given fs names ≡ Some gs → ((f : List ℕ) (T : Ty) (i : ℕ) → InFields f T fs → place_of f names ≡ Some i → ValueAt f T names xs i) → Made fs names xs gs
  made no_field names xs gs h each = subst (Made no_field names xs) (some_same [] gs h) (record { fields = no_value_of; by_name = refl; by_place = refl; have = refl; seen = tt; built = tt })
  made (field f T fs) names xs gs h each = made_first f T fs names xs (place_of f names) (places_given fs names) gs h (λ i e. each f T i (inl (refl, refl)) e) (λ hs e. made fs names xs hs e (λ g U j m k. each g U j (inr m) k))

module _ (d : List ℕ → Option Ty) (w : WellDeclared d) (av : Assignment) (tests : Tests) (right : IsRight tests) where
  -- values of the well-formed types of operands, one for each of these names
  abbrev pub AllBelong : List Ident → List Operand → List Value → Type 0
  AllBelong [] [] [] = Unit {0}
  AllBelong (i ∷ is) (o ∷ os) (x ∷ xs) = InType d av x o.typed.ty × WellFormed d o.typed.ty × AllBelong is os xs
  AllBelong is os xs = ⊥

  value_here : (b : Bool) (n f : List ℕ) (T : Ty) (names : List (List ℕ)) (x : Value) (xs : List Value) (i : ℕ) → bytes_eq n f ≡ b → cond b (Some 0) (option_map (λ j. suc j) (place_of f names)) ≡ Some i → (bytes_eq n f ≡ true → (has x (closed T) ≡ true) × Built d x) → ((j : ℕ) → place_of f names ≡ Some j → ValueAt d f T names xs j) → ValueAt d f T (n ∷ names) (x ∷ xs) i
  value_here true n f T names x xs i e h own rest =
      let k = own e in
      subst (ValueAt d f T (n ∷ names) (x ∷ xs)) (some_same 0 i h) (record { one = x; by_name = ap (λ c. cond c (Some x) (given_value f names xs)) e; by_place = refl; have = k.0; built = k.1 })
  value_here false n f T names x xs i e h own rest = further (place_of f names) h rest
    where
      further : (o : Option ℕ) → option_map (λ j. suc j) o ≡ Some i → ((j : ℕ) → o ≡ Some j → ValueAt d f T names xs j) → ValueAt d f T (n ∷ names) (x ∷ xs) i
      further None k r = none_some i k
      further (Some j) k r =
          let v = r j refl in
          subst (ValueAt d f T (n ∷ names) (x ∷ xs)) (some_same (suc j) i k) (record { one = v.one; by_name = ap (λ c. cond c (Some x) (given_value f names xs)) e ∙ v.by_name; by_place = v.by_place; have = v.have; built = v.built })

  -- the value in the place of a field fits it
  pub values_at : (is : List Ident) (before : List (List ℕ)) (os : List Operand) (Ts : List Ty) (xs : List Value) (fs : Fields) (f : List ℕ) (T : Ty) (p i : ℕ) → given_once is before fs ≡ Ok Ts → all_fit tests os Ts ≡ Ok tt → AllBelong is os xs → place_of f (texts_of is) ≡ Some i → numbered f fs ≡ Some (p, T) → WellFormed d T → type_with T av ≡ closed T → ValueAt d f T (texts_of is) xs i
  values_at [] before os Ts xs fs f T p i g a b e n t c = none_some i e
  values_at (j ∷ is) before os Ts xs fs f T p i g a b e n t c =
      let o = then_ok (need (not (has_name j.text before)) T15 j.span) _ Ts g in
      let q = bind_ok (found_or (numbered j.text fs) T15 j.span) _ Ts o.then in
      let r = bind_ok (given_once is (before ++ j.text ∷ []) fs) _ Ts q.then in
      let all = ok_ok (q.value.1 ∷ r.value) Ts r.then in
      first os xs r.value q.value (found_ok (numbered j.text fs) T15 j.span q.value q.first) r.first (subst (λ Us. all_fit tests os Us ≡ Ok tt) (sym all) a) b
      (λ os2 xs2 Us l g2 a2 b2 k. values_at is (before ++ j.text ∷ []) os2 Us xs2 fs f T p l g2 a2 b2 k n t c)
    where
      first : (os : List Operand) (xs : List Value) (Us : List Ty) (q : ℕ × Ty) → numbered j.text fs ≡ Some q → given_once is (before ++ j.text ∷ []) fs ≡ Ok Us → all_fit tests os (q.1 ∷ Us) ≡ Ok tt → AllBelong (j ∷ is) os xs →
          ((os : List Operand) (xs : List Value) (Us : List Ty) (l : ℕ) → given_once is (before ++ j.text ∷ []) fs ≡ Ok Us → all_fit tests os Us ≡ Ok tt → AllBelong is os xs → place_of f (texts_of is) ≡ Some l → ValueAt d f T (texts_of is) xs l) → ValueAt d f T (texts_of (j ∷ is)) xs i
      first [] xs Us q m r a b next = absurd b
      first (o ∷ os) [] Us q m r a b next = absurd b
      first (o ∷ os) (x ∷ xs) Us q m r a b next =
          let z = then_ok (fitted (misfit tests o.typed.ty q.1) o.span) (all_fit tests os Us) tt a in
          value_here (bytes_eq j.text f) j.text f T (texts_of is) x xs i refl e
          (λ k.
          let same : q.1 ≡ T = ap (λ (y : ℕ × Ty). y.1) (some_same q (p, T) (sym m ∙ ap (λ l. numbered l fs) (same_name j.text f k) ∙ n)) in
          (subst (λ V. has x V ≡ true) c (satisfying_keeps av tests right d w o.typed.ty T x b.1 t b.0.1 (subst (λ U. misfit tests o.typed.ty U ≡ None) same (fitted_ok (misfit tests o.typed.ty q.1) o.span tt z.first)) b.0.0), b.0.1))
          (λ l k. next os xs Us l r z.then b.2 k)

  -- ---- the whole value

  abbrev Given : Ty → Constructed → List (List ℕ) → List Value → List FieldGiven → Span → Type 0
  Given T c names xs gs span = (construct span (closed T) names xs ≡ places.constructed span c.shell gs xs) × Gives d av T (construct span (closed T) names xs)

  record_given : (span : Span) (own m : List ℕ) (supers : List (List ℕ)) (fs : Fields) (names : List (List ℕ)) (xs : List Value) (gs : List FieldGiven) → Written d m (record_of m fs) → Made d fs names xs gs →
      (there span (option_map (λ ys. record_with m ys) (fields_given (fields_with fs no_atoms) names xs)) ≡ places.constructed span (record_shell m) gs xs) × Gives d av (record_of m fs) (there span (option_map (λ ys. record_with m ys) (fields_given (fields_with fs no_atoms) names xs)))
  record_given span own m supers fs names xs gs v k =
      let e = ap (λ o. there span (option_map (λ ys. record_with m ys) o)) k.by_name in (
        e ∙ sym (ap (λ o. there span (option_map (in_shell (record_shell m)) o)) k.by_place),
        subst (Gives d av (record_of m fs)) (sym e) (
          and_true (bytes_eq m m) (fields_in k.fields (fields_with fs av)) (name_is m) (subst (λ gs. fields_in k.fields gs ≡ true) (sym (no_atoms_in d w av tests right m fs v)) k.have),
          ((fs, v, k.seen), k.built),
          refl,
        ),
      )

  exception_given : (span : Span) (own m : List ℕ) (supers : List (List ℕ)) (fs : Fields) (names : List (List ℕ)) (xs : List Value) (gs : List FieldGiven) → Written d m (exception_of m fs) → d own ≡ Some (named own supers (exception_of m fs)) → Made d fs names xs gs →
      (there span (option_map (λ ys. exception_with own supers m ys) (fields_given (fields_with fs no_atoms) names xs)) ≡ places.constructed span (exception_shell own supers m) gs xs) × Gives d av (named own supers (exception_of m fs)) (there span (option_map (λ ys. exception_with own supers m ys) (fields_given (fields_with fs no_atoms) names xs)))
  exception_given span own m supers fs names xs gs v o k =
      let e = ap (λ o. there span (option_map (λ ys. exception_with own supers m ys) o)) k.by_name in (
        e ∙ sym (ap (λ o. there span (option_map (in_shell (exception_shell own supers m)) o)) k.by_place),
        subst (Gives d av (named own supers (exception_of m fs))) (sym e) (
          and_true (reaches own supers own) (bytes_eq m m && fields_in k.fields (fields_with fs av)) (or_first (bytes_eq own own) (is_among own supers) (name_is own))
              (and_true (bytes_eq m m) (fields_in k.fields (fields_with fs av)) (name_is m) (subst (λ gs. fields_in k.fields gs ≡ true) (sym (no_atoms_in_exception d w av tests right m fs v)) k.have)),
          ((exception_of m fs, o), (fs, v, k.seen), k.built),
          refl,
        ),
      )

  -- a construction gives a value of its type, by the names and by the places alike
  pub construct_gives : (span : Span) (T : Ty) (c : Constructed) (names : List (List ℕ)) (xs : List Value) (gs : List FieldGiven) → WellFormed d T → constructed_of T ≡ Some c → Made d c.fields names xs gs → Given T c names xs gs span
  construct_gives span (record_of m fs) c names xs gs t h k = let e = some_same _ c h in subst (λ (z : Constructed). Made d z.fields names xs gs → Given (record_of m fs) z names xs gs span) e (λ l. record_given span [] m [] fs names xs gs t.shaped.0 l) k
  construct_gives span (named own supers (record_of m fs)) c names xs gs t h k =
      let e = some_same _ c h in
      subst (λ (z : Constructed). Made d z.fields names xs gs → Given (named own supers (record_of m fs)) z names xs gs span) e
      (λ l. let r = record_given span own m supers fs names xs gs t.shaped.2.0 l in (
        r.0,
        subst (Gives d av (named own supers (record_of m fs))) (sym (ap (λ o. there span (option_map (λ ys. record_with m ys) o)) l.by_name))
            (let g = subst (Gives d av (record_of m fs)) (ap (λ o. there span (option_map (λ ys. record_with m ys) o)) l.by_name) r.1 in (g.0, g.1, g.2)),
      )) k
  construct_gives span (named own supers (exception_of m fs)) c names xs gs t h k =
      let e = some_same _ c h in
      subst (λ (z : Constructed). Made d z.fields names xs gs → Given (named own supers (exception_of m fs)) z names xs gs span) e
      (λ l. exception_given span own m supers fs names xs gs t.shaped.2.0 t.shaped.1.stands l) k
  construct_gives span (exception_of m fs) c names xs gs t h k = no (sym t.has_name)
  construct_gives span (named own supers (named n others U)) c names xs gs t h k = no (sym t.shaped.0)
  construct_gives span (named own supers T) c names xs gs t h k = none_some c h
  construct_gives span T c names xs gs t h k = none_some c h
