-- What an assignment finds: in each state that agrees with its scope the tree's place holds the value of the name, the fields stand in the tree's places, and a view
-- has the tree's bitfields under their names.
use Rattle.std.proofs.Common.{◌≡◌, ◌&&◌, Bool, List, [], ◌∷◌, ◌++◌, Some, Ok, sym, ap, ◌∙◌, subst, map, ℕ, Option, true, inl, suc, inr, ◌⊎◌, refl}
use Rattle.asl_syn.specs.declared.token.Span.{Span}
use Rattle.asl_syn.specs.declared.code.StaticCode.TheVariants.{T08, T15, T20, T05, T02, T14}
use Rattle.asl_syn.specs.declared.tree.Ident.{Ident}
use Rattle.asl_syn.specs.declared.tree.PlacedSuffix.{PlacedSuffix}
use Rattle.asl_syn.specs.declared.tree.Suffix.{Suffix}
use Rattle.asl_syn.specs.declared.tree.Suffix.TheVariants.{FieldOf, FieldsOf, SlicesOf, ElementOf}
use Rattle.asl_syn.specs.declared.tree.Decl.{Decl}
use Rattle.std.specs.Prelude.{nat_le, pos, ℤ}
use Rattle.asl_rules.specs.Faults.{need, found_or}
use Rattle.asl_rules.specs.Tests.{Tests, IsRight}
use Rattle.asl_rules.specs.types.Types.{Ty, bits_of, is_bits, is_integer, view_of, bits_wide, BitField, integer_of, bitfield_width}
use Rattle.asl_rules.specs.types.Closed.{Assignment}
use Rattle.asl_rules.specs.declarations.Scopes.{Scope, Entry, Signature, Storage, standing_of, Stored, storage_of}
use Rattle.asl_rules.specs.private.WellFormed.{WellFormed, WellDeclared}
use Rattle.asl_rules.specs.runs.Trees.{TreeFunc, TreeStep, into_bitfields, into_slices, into_element}
use Rattle.asl_poly.specs.WidthLimits.{heaviest}
use Rattle.asl_rules.specs.expressions.Typing.{trees_of}
use Rattle.asl_rules.specs.values.Members.{Member, a_field, a_bitfield, member_type, member_step, member_of, member_named, bitfields_in, bitfields_named as named_in_type, all_wide, element_in, indexed}
use Rattle.asl_rules.specs.expressions.Slicing.{all_operands, all_integers, sliced_width, shapes_of}
use Rattle.asl_rules.specs.expressions.Exprs.{typed}
use Rattle.asl_rules.specs.statements.Targets.{TypedSuffix, by_field, by_bitfields, by_slices, by_element, up_to, found_slices, typed_suffix, typed_suffixes, Behind, behind, behind_suffix, Reached, reached, behind_suffixes, TypedPlace, found_target, all_places, target_layer, FoundTarget, assign_rule, inside, Placed, all_placed, all_parts_fit, tree_places, placed, assignable, place_effects, writings, placed_at}
use Rattle.asl_rules.specs.runs.States.{Core}
use Rattle.asl_rules.specs.private.Agreement.{types_in, Agrees}
use Rattle.asl_rules.specs.private.Erasure.{erased}
use Rattle.asl_rules.proofs.basics.Inversions.{ok_ok, bind_ok, then_ok, need_ok, found_ok}
use Rattle.asl_laws.proofs.expressions.MemberNamed.{member_ok}
use Rattle.asl_rules.proofs.basics.Tests.{none_some}
use Rattle.asl_rules.proofs.scopes.Naming.{WellNamed, well_declared, scope_good}
use Rattle.asl_laws.proofs.expressions.ExprForms.{found_at}
use Rattle.asl_syn.specs.declared.tree.Target.TheOpen as tg
use Rattle.asl_syn.specs.declared.tree.Alternative.TheOpen as st
use Rattle.asl_rules.specs.runs.Trees as tree
use Rattle.asl_rules.specs.values.Values.{Value, bits_with, int, bool, label, record_with, exception_with, tuple_with, array_with}
use Rattle.asl_rules.specs.values.Vectors.{Places, bits_at, read_bits, bitfields_named as named_in_value}
use Rattle.asl_rules.specs.declared.effect.Effect.TheVariants.{Pure}
use Rattle.asl_rules.specs.private.Belonging.{InType}
use Rattle.asl_poly.specs.Terms.{Polynomial}
use Rattle.asl_syn.specs.declared.tree.Target.{Target, map-Target, ind-Target, roll-Target, fold-roll-Target}
use Rattle.asl_rules.specs.runs.Plans.{Good, End, Bad, Stuck, WrongKind, Pure as PureOf}
use Rattle.asl_rules.specs.values.Structures.{element_of}
use Rattle.asl_rules.specs.runs.Pures.{known}
use Rattle.asl_syn.specs.declared.tree.Expr.{Expr}
use Rattle.asl_rules.specs.values.Operators.{plain_bits}
use Rattle.asl_laws.specs.Chosen.{StmtChosen, SuffixFinds, SuffixesFind, PlaceFinds, NamedPlaces, named_places, all_named, named_layer, PlacesFind}
use Rattle.asl_rules.specs.declarations.Layouts.{slot_of, layout_of}
use Rattle.asl_rules.specs.statements.Acting.{operand_of, Done}
use Rattle.asl_laws.proofs.visited.FoundMembers.{field_found, bitfield_found, bitfields_found}
use Rattle.asl_rules.proofs.expressions.OperatorForms.{Gives}
use Rattle.asl_rules.proofs.expressions.MemberForms.{member_gives, each_found}
use Rattle.asl_laws.proofs.expressions.ElementForms.{element_gives}
use Rattle.asl_rules.specs.runs.Evaluation.{or_value, value_of}
use Rattle.asl_laws.proofs.statements.StmtForms.{ended_is}
use Rattle.asl_rules.proofs.scopes.Lookups.{finds, storage_standing}
use Rattle.asl_rules.specs.types.Effects.{all_together, greatest, greater}
use Rattle.asl_rules.proofs.widths.WidthsHeld.{CountsHeld}
use Rattle.asl_laws.proofs.widths.PresentNumbers.{counts_held}
use Rattle.asl_laws.proofs.statements.AssignForms.{suffix_formed}
use Rattle.asl_rules.specs.private.TypedMeaning.{value_at}
use Rattle.asl_poly.specs.Poly.{constant_map}
use Rattle.asl_rules.proofs.scopes.Slots.{has_names, slot_is}
use Rattle.asl_laws.proofs.constants.KnownTypes.{over_names}

-- ---- what was given

given_or : Value → PureOf Value → Value
given_or x (Good y) = y
given_or x (Bad e) = x

same_good : (x y : Value) → (let p : PureOf Value = Good x in p) ≡ Good y → x ≡ y
unfolding given_or
same_good x y e = ap (given_or x) e

bad_good : {A : Type 0} (e : End) (y : Value) → (let p : PureOf Value = Bad e in p) ≡ Good y → A
bad_good e y h = absurd cc

-- what is read of bits carries no view
read_plain : (at : Span) (ps : List Places) (x y : Value) → bits_at at ps x ≡ Good y → (bs : List Bool) × (bits_with bs [] ≡ y)
read_plain at ps (bits_with bs v) y e = (read_bits ps bs, same_good (plain_bits (read_bits ps bs)) y e)
read_plain at ps (int z) y e = bad_good (Stuck WrongKind at) y e
read_plain at ps (bool b) y e = bad_good (Stuck WrongKind at) y e
read_plain at ps (label n l) y e = bad_good (Stuck WrongKind at) y e
read_plain at ps (record_with n xs) y e = bad_good (Stuck WrongKind at) y e
read_plain at ps (exception_with own supers n xs) y e = bad_good (Stuck WrongKind at) y e
read_plain at ps (tuple_with xs) y e = bad_good (Stuck WrongKind at) y e
read_plain at ps (array_with k xs) y e = bad_good (Stuck WrongKind at) y e

module _ (tests : Tests) (right : IsRight tests) (ds : List Decl) (base : List Entry) (subs : List Signature) (loose : Bool) (funcs : List TreeFunc) (w : WellNamed base) (av : Assignment) where
  abbrev d : List ℕ → Option Ty
  d = types_in base

  abbrev wd : WellDeclared d
  wd = well_declared base w

  -- a value of the type, or bits without a view that were read
  Fits : Ty → Value → Type 0
  Fits T x = InType d av x T ⊎ ((p : Polynomial) × (bs : List Bool) × (bits_of p [] ≡ T) × (bits_with bs [] ≡ x))

  -- ---- one suffix

  field_finds : (f : Ident) (at : Span) (T : Ty) (b : Behind) (m : Member) (more : List TreeStep) (x : Value) (next : List TreeStep → Value → Type 0) → WellFormed d T → behind (member_type m) (member_step at m) ≡ b → member_of T f.text ≡ Some m → InType d av x T → ((z : Value) → Fits b.ty z → next more z) →
      SuffixFinds (FieldOf f) (b.step ∷ more) x next
  unfolding Fits
  field_finds f at T b (a_field n V) more x next t e k i go =
      inl (
        at,
        n,
        more,
        ap (λ (z : Behind). z.step ∷ more) (sym e),
        field_found av T f.text n V x k i.0,
        λ y q. go y (subst (λ (z : Behind). Fits z.ty y) e (inl (subst (Gives d av V) q (member_gives d wd av tests right at f.text T (a_field n V) x t.shaped k i).gives))),
      )
  field_finds f at T b (a_bitfield g) more x next t e k i go =
      inr (
        at,
        g,
        more,
        ap (λ (z : Behind). z.step ∷ more) (sym e),
        bitfield_found av d T f.text g x k i,
        λ ps y q. let r = read_plain at ps x y q in go y (subst (λ (z : Behind). Fits z.ty y) e (inr (constant_map (pos (bitfield_width g)), r.0, refl, r.1))),
      )

  no_member : {A : Type 0} (p : Polynomial) (T : Ty) (f : List ℕ) (m : Member) → bits_of p [] ≡ T → member_of T f ≡ Some m → A
  no_member p T f m e k = none_some m (subst (λ z. member_of z f ≡ Some m) (sym e) k)

  view_finds : (at : Span) (is : List Ident) (T : Ty) (fs : List BitField) (x : Value) → bitfields_in is (view_of T) ≡ Ok fs → is_bits T ≡ true → Fits T x → named_in_value at is x ≡ Good fs
  unfolding Fits
  view_finds at is T fs x h k (inl i) = bitfields_found d wd av tests right at is T fs x h k i
  view_finds at is T fs x h k (inr r) = subst (λ z. named_in_value at is z ≡ Good fs) r.3 (each_found d wd av tests right at is [] fs (subst (λ z. bitfields_in is (view_of z) ≡ Ok fs) (sym r.2) h))

  element_fits : (at : Span) (T V : Ty) (x : Value) (z : ℤ) (y : Value) → element_in T ≡ Some V → Fits T x → element_of at x (int z) ≡ Good y → Fits V y
  unfolding Fits
  element_fits at T V x z y e (inl i) q = inl (subst (Gives d av V) q (element_gives d av tests right at T (integer_of []) V x (int z) e refl i (refl, tt, refl)))
  element_fits at T V x z y e (inr r) q = none_some V (subst (λ U. element_in U ≡ Some V) (sym r.2) e)

  suffix_finds : (G : Scope) (at : Span) (s : Suffix) (y : TypedSuffix) (T : Ty) (b : Behind) (more : List TreeStep) (x : Value) (next : List TreeStep → Value → Type 0) → WellFormed d T → typed_suffix tests at s G ≡ Ok y → behind_suffix y T G ≡ Ok b → Fits T x → ((z : Value) → Fits b.ty z → next more z) →
      SuffixFinds s (b.step ∷ more) x next
  unfolding Fits
  suffix_finds G at (FieldOf f) y T b more x next t h g (inl i) go =
      let g1 : behind_suffix (by_field at f) T G ≡ Ok b = subst (λ z. behind_suffix z T G ≡ Ok b) (sym (ok_ok (by_field at f) y h)) g in
      let m = bind_ok (member_named f T) _ b g1 in
      field_finds f at T b m.value more x next t (ok_ok (behind (member_type m.value) (member_step at m.value)) b m.then) (member_ok f T m.value m.first) i go
  suffix_finds G at (FieldOf f) y T b more x next t h g (inr r) go =
      let g1 : behind_suffix (by_field at f) T G ≡ Ok b = subst (λ z. behind_suffix z T G ≡ Ok b) (sym (ok_ok (by_field at f) y h)) g in
      let m = bind_ok (member_named f T) _ b g1 in
      no_member r.0 T f.text m.value r.2 (member_ok f T m.value m.first)
  suffix_finds G at (FieldsOf fs) y T b more x next t h g i go =
      let g1 : behind_suffix (by_bitfields at fs) T G ≡ Ok b = subst (λ z. behind_suffix z T G ≡ Ok b) (sym (ok_ok (by_bitfields at fs) y h)) g in
      let n = bind_ok (named_in_type at fs T) _ b g1 in
      let f = bind_ok (bitfields_in fs (view_of T)) _ n.value n.first in
      let j = then_ok (need (is_bits T) T15 at) _ n.value f.then in
      let m = then_ok (need (nat_le (all_wide f.value) heaviest) T20 at) (Ok f.value) n.value j.then in
      let e = ok_ok (behind (bits_wide (all_wide n.value)) (into_bitfields at n.value)) b n.then in (
        at,
        n.value,
        more,
        ap (λ (z : Behind). z.step ∷ more) (sym e),
        view_finds at fs T n.value x (f.first ∙ ap Ok (ok_ok f.value n.value m.then)) (need_ok (is_bits T) T15 at tt j.first) i,
        λ ps z q. let r = read_plain at ps x z q in go z (subst (λ (u : Behind). Fits u.ty z) e (inr (constant_map (pos (all_wide n.value)), r.0, refl, r.1))),
      )
  suffix_finds G at (SlicesOf sl) y T b more x next t h g i go =
      let o = bind_ok (all_operands (found_slices tests sl) G) _ y h in
      let g1 : behind_suffix (by_slices at (found_slices tests sl) o.value) T G ≡ Ok b = subst (λ z. behind_suffix z T G ≡ Ok b) (sym (ok_ok (by_slices at (found_slices tests sl) o.value) y o.then)) g in
      let n = then_ok (need (is_bits T && all_integers o.value) T08 at) _ b g1 in
      let v = bind_ok (sliced_width at (found_slices tests sl) G) _ b n.then in
      let e = ok_ok (behind (bits_of v.value []) (into_slices at (shapes_of (found_slices tests sl)) (trees_of o.value))) b v.then in (
        at,
        shapes_of (found_slices tests sl),
        trees_of o.value,
        more,
        ap (λ (z : Behind). z.step ∷ more) (sym e),
        λ ps z q. let r = read_plain at ps x z q in go z (subst (λ (u : Behind). Fits u.ty z) e (inr (v.value, r.0, refl, r.1))),
      )
  suffix_finds G at (ElementOf a) y T b more x next t h g i go =
      let I = bind_ok (typed tests a G) _ y h in
      let g1 : behind_suffix (by_element at I.value) T G ≡ Ok b = subst (λ z. behind_suffix z T G ≡ Ok b) (sym (ok_ok (by_element at I.value) y I.then)) g in
      let v = bind_ok (indexed at T I.value.ty) _ b g1 in
      let u = bind_ok (found_or (element_in T) T08 at) _ v.value v.first in
      let n = then_ok (need (is_integer I.value.ty) T08 at) (Ok u.value) v.value u.then in
      let el = found_ok (element_in T) T08 at u.value u.first ∙ ap Some (ok_ok u.value v.value n.then) in
      let e = ok_ok (behind v.value (into_element at I.value.tree)) b v.then in
      (at, I.value.tree, more, ap (λ (z : Behind). z.step ∷ more) (sym e), λ z k q. go k (subst (λ (r : Behind). Fits r.ty k) e (element_fits at T v.value x z k el i q)))

  suffixes_find : (G : Scope) (i : Ident) (xs : List PlacedSuffix) (ys : List TypedSuffix) (T : Ty) (r : Reached) (x : Value) →
      CountsHeld G.names → WellFormed d T → typed_suffixes tests i xs G ≡ Ok ys → behind_suffixes ys T G ≡ Ok r → Fits T x →
      SuffixesFind xs r.steps x
  suffixes_find G i [] ys T r x c t h g f =
      let g1 : behind_suffixes [] T G ≡ Ok r = subst (λ z. behind_suffixes z T G ≡ Ok r) (sym (ok_ok [] ys h)) g in
      ap (λ (z : Reached). z.steps) (sym (ok_ok (reached T []) r g1))
  suffixes_find G i (p ∷ xs) ys T r x c t h g f =
      let y = bind_ok (typed_suffix tests (up_to i p.end) p.suffix G) _ ys h in
      let zs = bind_ok (typed_suffixes tests i xs G) _ ys y.then in
      let g1 : behind_suffixes (y.value ∷ zs.value) T G ≡ Ok r = subst (λ z. behind_suffixes z T G ≡ Ok r) (sym (ok_ok (y.value ∷ zs.value) ys zs.then)) g in
      let b = bind_ok (behind_suffix y.value T G) _ r g1 in
      let q = bind_ok (behind_suffixes zs.value b.value.ty G) _ r b.then in
      let e = ok_ok (reached q.value.ty (b.value.step ∷ q.value.steps)) r q.then in
      subst (λ (z : Reached). SuffixesFind (p ∷ xs) z.steps x) e
      (suffix_finds G (up_to i p.end) p.suffix y.value T b.value q.value.steps x (SuffixesFind xs) t y.first b.first f
      (λ z k. suffixes_find G i xs zs.value b.value.ty q.value z c
      (suffix_formed tests right ds base subs loose funcs w G (up_to i p.end) p.suffix y.value T b.value c t y.first b.first)
      zs.first q.first k))

  -- ---- a place

  known_good : (at : Span) (o : Option Value) (x y : Value) → o ≡ Some x → known at o ≡ Good y → x ≡ y
  known_good at o x y e h = same_good x y (subst (λ z. known at z ≡ Good y) e h)

  place_finds : (G : Scope) (i : Ident) (xs : List PlacedSuffix) (ys : List TypedSuffix) (s : Storage) (r : Reached) (way : List ℕ) → typed_suffixes tests i xs G ≡ Ok ys → behind_suffixes ys s.ty G ≡ Ok r → standing_of i.text G.names ≡ Some (Stored s) →
      PlaceFinds (Agrees base G.names av) (i, xs) (record { span = i.span; way = way; slot = slot_of i.text (layout_of G.names); steps = r.steps })
  unfolding Fits
  place_finds G i xs ys s r way t g st c x a h =
      let o = or_value (value_of i.text c.frame) (value_of i.text c.globals) in
      let f = found_at av d s o (finds av base G.names c i.text s a st) in
      let e = known_good i.span o f.one x f.is h in (
        subst (λ z. value_at (slot_of i.text (layout_of G.names)) (erased c) ≡ Some z) e (slot_is f.one i.text G.names c (has_names av base G.names c w.outside a) f.is),
        subst (SuffixesFind xs r.steps) e (suffixes_find G i xs ys s.ty r f.one (counts_held av base G.names c a)
            (scope_good av base G.names c w a i.text (Stored s) st).0 t g (inl f.belongs)),
      )

  -- ---- the places of a target

  -- the typed places are those of the target, in order
  abbrev AllNamed : Scope → NamedPlaces → List TypedPlace → Type 0
  AllNamed G [] [] = Unit {0}
  AllNamed G [] (p ∷ ps) = ⊥
  AllNamed G (q ∷ qs) [] = ⊥
  AllNamed G (q ∷ qs) (p ∷ ps) = (q.0 ≡ p.name) × (typed_suffixes tests q.0 q.1 G ≡ Ok p.suffixes) × AllNamed G qs ps

  inside_named : (G : Scope) (n : ℕ) (qs : NamedPlaces) (ps : List TypedPlace) → AllNamed G qs ps → AllNamed G qs (inside n ps)
  inside_named G n [] [] h = tt
  inside_named G n [] (p ∷ ps) h = absurd h
  inside_named G n (q ∷ qs) [] h = absurd h
  inside_named G n (q ∷ qs) (p ∷ ps) h = (h.0, h.1, inside_named G n qs ps h.2)

  both_named : (G : Scope) (qs us : NamedPlaces) (ps vs : List TypedPlace) → AllNamed G qs ps → AllNamed G us vs → AllNamed G (qs ++ us) (ps ++ vs)
  both_named G [] us [] vs h k = k
  both_named G [] us (p ∷ ps) vs h k = absurd h
  both_named G (q ∷ qs) us [] vs h k = absurd h
  both_named G (q ∷ qs) us (p ∷ ps) vs h k = (h.0, h.1, both_named G qs us ps vs h.2 k)

  TargetNamed : Target → Type 0
  TargetNamed t = (G : Scope) (ps : List TypedPlace) → (found_target tests t).places G ≡ Ok ps → AllNamed G (named_places t) ps

  abbrev Below : Type 0
  Below = tg.Target-F ((t : Target) × TargetNamed t)

  abbrev firsts : List ((t : Target) × TargetNamed t) → List Target
  firsts ts = map (λ t. t.0) ts

  each_named : (ts : List ((t : Target) × TargetNamed t)) (n : ℕ) (G : Scope) (ps : List TypedPlace) → all_places n (map (found_target tests) (firsts ts)) G ≡ Ok ps → AllNamed G (all_named (map named_places (firsts ts))) ps
  unfolding TargetNamed
  each_named [] n G ps h = subst (AllNamed G []) (ok_ok [] ps h) tt
  each_named (t ∷ ts) n G ps h =
      let p = bind_ok ((found_target tests t.0).places G) _ ps h in
      let q = bind_ok (all_places (suc n) (map (found_target tests) (firsts ts)) G) _ ps p.then in
      subst (AllNamed G (named_places t.0 ++ all_named (map named_places (firsts ts)))) (ok_ok (inside n p.value ++ q.value) ps q.then)
      (both_named G (named_places t.0) (all_named (map named_places (firsts ts))) (inside n p.value) q.value (inside_named G n (named_places t.0) p.value (t.1 G p.value p.first)) (each_named ts (suc n) G q.value q.first))

  layer_named : (y : Below) (G : Scope) (ps : List TypedPlace) → (target_layer tests (map-Target Target FoundTarget (found_target tests) (map-Target ((t : Target) × TargetNamed t) Target (λ t. t.0) y))).places G ≡ Ok ps →
      AllNamed G (named_layer (map-Target Target NamedPlaces named_places (map-Target ((t : Target) × TargetNamed t) Target (λ t. t.0) y))) ps
  layer_named (tg.Discarded at) G ps h = subst (AllNamed G []) (ok_ok [] ps h) tt
  layer_named (tg.Place at i xs) G ps h =
      let y = bind_ok (typed_suffixes tests i xs G) _ ps h in
      subst (AllNamed G ((i, xs) ∷ [])) (ok_ok (record { way = []; name = i; suffixes = y.value } ∷ []) ps y.then) (refl, y.first, tt)
  layer_named (tg.Targets at ts) G ps h = each_named ts 0 G ps h

  target_step : (l : tg.Target-F Target) (y : Below) → map-Target ((t : Target) × TargetNamed t) Target (λ t. t.0) y ≡ l → TargetNamed (roll-Target l)
  unfolding TargetNamed
  target_step l y is G ps h =
      let e = fold-roll-Target FoundTarget (target_layer tests) l in
      let f = fold-roll-Target NamedPlaces named_layer l in
      subst (λ z. AllNamed G z ps) (sym f)
      (subst (λ z. AllNamed G (named_layer (map-Target Target NamedPlaces named_places z)) ps) is
      (layer_named y G ps (ap (λ z. (target_layer tests (map-Target Target FoundTarget (found_target tests) z)).places G) is ∙ sym (ap (λ (z : FoundTarget). z.places G) e) ∙ h)))

  target_named : (t : Target) → TargetNamed t
  target_named = ind-Target TargetNamed target_step

  -- ---- all places

  all_find : (G : Scope) (ns : NamedPlaces) (ps : List TypedPlace) (qs : List Placed) → AllNamed G ns ps → all_placed ps G ≡ Ok qs → PlacesFind (Agrees base G.names av) ns (tree_places qs)
  all_find G [] [] qs n h = subst (λ z. tree_places z ≡ []) (ok_ok [] qs h) refl
  all_find G [] (p ∷ ps) qs n h = absurd n
  all_find G (m ∷ ns) [] qs n h = absurd n
  all_find G (m ∷ ns) (p ∷ ps) qs n h =
      let q = bind_ok (placed p G) _ qs h in
      let l = bind_ok (all_placed ps G) _ qs q.then in
      let s = bind_ok (assignable p.name G) _ q.value q.first in
      let r = bind_ok (behind_suffixes p.suffixes s.value.ty G) _ q.value s.then in
      let z = bind_ok (found_or (storage_of p.name.text G.names) T02 p.name.span) _ s.value s.first in
      let k = then_ok (need z.value.is_mutable T14 p.name.span) (Ok z.value) s.value z.then in
      let same : z.value ≡ s.value = ok_ok z.value s.value k.then in
      let stands = storage_standing av (standing_of p.name.text G.names) s.value (found_ok (storage_of p.name.text G.names) T02 p.name.span z.value z.first ∙ ap Some same) in
      let at = placed_at p s.value r.value G.names in
      let are : at ∷ l.value ≡ qs = ap (λ v. v ∷ l.value) (ok_ok at q.value r.then) ∙ ok_ok (q.value ∷ l.value) qs l.then in
      let typed_so = subst (λ i. typed_suffixes tests i m.1 G ≡ Ok p.suffixes) n.0 n.1 in
      subst (λ v. PlacesFind (Agrees base G.names av) (m ∷ ns) (tree_places v)) are
      (subst (λ i. PlaceFinds (Agrees base G.names av) (i, m.1) at.place) (sym n.0) (place_finds G p.name m.1 p.suffixes s.value r.value p.way typed_so r.first stands), all_find G ns ps l.value n.2 l.first)

  pub assign_finds : (G : Scope) (span : Span) (t : Target) (e : Expr) (k : Done) (c : Core) → assign_rule tests span (found_target tests t) e G ≡ Ok k → StmtChosen (over_names tests ds base) (Agrees base G.names av) (st.Assign span t e) k.act c
  unfolding TargetNamed
  assign_finds G span t e k c h =
      let ps = bind_ok ((found_target tests t).places G) _ k h in
      let o = bind_ok (operand_of tests e G) _ k ps.then in
      let qs = bind_ok (all_placed ps.value G) _ k o.then in
      let f = then_ok (all_parts_fit tests qs.value o.value) _ k qs.then in
      let n = then_ok (need ((found_target tests t).counts o.value.typed.ty) T05 span) _ k f.then in
      (span, tree_places qs.value, o.value.typed.tree, ap (λ (z : Done). z.act) (sym (ended_is G.class span (all_together Pure (place_effects ps.value ++ o.value.typed.effect ∷ [])) (greater (greatest Pure (place_effects ps.value ++ o.value.typed.effect ∷ [])) (writings qs.value)) G.names (tree.Assign span (tree_places qs.value) o.value.typed.tree) k n.then)), all_find G (named_places t) ps.value qs.value (target_named t G ps.value ps.first) qs.first)
