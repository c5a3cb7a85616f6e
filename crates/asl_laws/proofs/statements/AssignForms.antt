-- Assignments with their typed trees: each place of the target takes a value that fits its type, by its name and in its place.
use Rattle.std.proofs.Common.{◌≡◌, ◌&&◌, Bool, List, [], ◌∷◌, ◌++◌, Some, Ok, sym, ap, ◌∙◌, subst, append_assoc, map}
use Rattle.asl_syn.specs.declared.token.Span.{Span}
use Rattle.asl_syn.specs.declared.code.StaticCode.TheVariants.{T08, T15, T20}
use Rattle.asl_syn.specs.declared.tree.Ident.{Ident}
use Rattle.asl_syn.specs.declared.tree.PlacedSuffix.{PlacedSuffix}
use Rattle.asl_syn.specs.declared.tree.Suffix.{Suffix}
use Rattle.asl_syn.specs.declared.tree.Suffix.TheVariants.{FieldOf, FieldsOf, SlicesOf, ElementOf}
use Rattle.asl_syn.specs.declared.tree.Decl.{Decl}
use Rattle.std.specs.Prelude.{nat_le, pos}
use Rattle.asl_rules.specs.Faults.{need, found_or}
use Rattle.asl_rules.specs.Tests.{Tests, IsRight}
use Rattle.asl_rules.specs.types.Types.{Ty, bits_of, is_bits, is_integer, view_of, bits_wide}
use Rattle.asl_rules.specs.declarations.Scopes.{Scope, Entry, Signature}
use Rattle.asl_rules.specs.private.WellFormed.{WellFormed}
use Rattle.asl_rules.specs.runs.Trees.{TreeFunc}
use Rattle.asl_poly.specs.WidthLimits.{heaviest}
use Rattle.asl_rules.specs.expressions.Typing.{trees_in}
use Rattle.asl_rules.specs.values.Members.{Member, a_field, a_bitfield, member_type, member_step, member_of, member_named, bitfields_in, bitfields_named as named_in_type, all_wide, element_in, indexed}
use Rattle.asl_rules.specs.expressions.Slicing.{all_operands, all_integers, no_width, all_add, sliced_width, shapes_of}
use Rattle.asl_rules.specs.types.Shaped.{slice_parts, exprs_in, shapes_in}
use Rattle.asl_rules.specs.expressions.Exprs.{typed}
use Rattle.asl_rules.specs.statements.Targets.{TypedSuffix, by_field, by_bitfields, by_slices, by_element, up_to, found_slices, typed_suffix, typed_suffixes, Behind, behind, behind_suffix, Reached, reached, behind_suffixes}
use Rattle.asl_rules.specs.runs.States.{Core}
use Rattle.asl_rules.specs.private.Agreement.{types_in}
use Rattle.asl_rules.specs.private.ByPlace as places
use Rattle.asl_rules.specs.runs.Forms.{eval_all}
use Rattle.asl_rules.specs.runs.StatementForms.{eval_step, eval_steps}
use Rattle.asl_rules.specs.runs.Evaluation.{Does, Step, into_field, into_fields, into_slices, into_element, step_of, steps_of}
use Rattle.asl_rules.specs.private.TypedMeaning.{BareCore, Runs, step_ahead}
use Rattle.asl_rules.specs.private.Erasure.{erased}
use Rattle.asl_cons.proofs.Covering.{int_end}
use Rattle.asl_rules.proofs.widths.Totals.{begun, fits_of}
use Rattle.asl_rules.proofs.widths.WidthsHeld.{CountsHeld}
use Rattle.asl_rules.proofs.basics.Inversions.{ok_ok, bind_ok, then_ok, need_ok, found_ok}
use Rattle.asl_laws.proofs.expressions.MemberNamed.{member_ok, member_room}
use Rattle.asl_rules.proofs.basics.Tests.{both}
use Rattle.asl_rules.proofs.scopes.Naming.{WellNamed, well_declared}
use Rattle.asl_laws.proofs.scopes.WellTyped.{member_formed, fields_wide, element_formed, bits_formed}
use Rattle.asl_laws.proofs.scopes.HeldRules.{sliced_held}
use Rattle.asl_laws.proofs.widths.PresentNumbers.{counts_held}
use Rattle.asl_laws.proofs.values.Sliced.{all_widths}
use Rattle.asl_laws.proofs.expressions.SliceForms.{all_say, sums_to}
use Rattle.asl_laws.proofs.expressions.Claims.{Here, At}
use Rattle.asl_laws.proofs.expressions.TreePlans.{Same, operand, append_nil, all_same, list_from}
use Rattle.asl_laws.proofs.expressions.ExprForms.{env}
use Rattle.asl_laws.proofs.statements.AssignSteps.{Updates, no_steps, place_step, field_step, bitfields_step, slices_step, element_step}

module _ (tests : Tests) (right : IsRight tests) (ds : List Decl) (base : List Entry) (subs : List Signature) (loose : Bool) (funcs : List TreeFunc) (w : WellNamed base) where
  abbrev pub Ways : Here → Ty → Ty → List Step → List places.Step → Type 0
  Ways H T U ss ps = Updates (env tests right ds base subs loose funcs w) (well_declared base w) H.present tests right T U ss ps

  -- a step by a name and one by a place: what follows them follows both
  abbrev pub Leads : Here → Ty → Ty → Step → places.Step → Type 0
  Leads H T V s q = (U : Ty) (ss : List Step) (ps : List places.Step) → Ways H V U ss ps → Ways H T U (s ∷ ss) (q ∷ ps)

  member_leads : (H : Here) (T : Ty) (span : Span) (f : Ident) (m : Member) → WellFormed (types_in base) T → member_of T f.text ≡ Some m → Leads H T (member_type m) (into_field span f.text) (place_step (env tests right ds base subs loose funcs w) (well_declared base w) H.present tests right span m)
  member_leads H T span f m t e U ss ps n = field_step (env tests right ds base subs loose funcs w) (well_declared base w) H.present tests right T U span f.text m ss ps t.shaped e n

  -- the type behind a suffix is well formed
  pub suffix_formed : (G : Scope) (span : Span) (s : Suffix) (y : TypedSuffix) (T : Ty) (b : Behind) → CountsHeld G.names →
      WellFormed (types_in base) T → typed_suffix tests span s G ≡ Ok y → behind_suffix y T G ≡ Ok b →
      WellFormed (types_in base) b.ty
  suffix_formed G span (FieldOf f) y T b c t h g =
      let g1 : behind_suffix (by_field span f) T G ≡ Ok b = subst (λ z. behind_suffix z T G ≡ Ok b) (sym (ok_ok (by_field span f) y h)) g in
      let m = bind_ok (member_named f T) _ b g1 in
      subst (λ (z : Behind). WellFormed (types_in base) z.ty) (ok_ok (behind (member_type m.value) (member_step span m.value)) b m.then)
      (member_formed tests right (types_in base) (well_declared base w) T f.text m.value t.shaped (member_room f T m.value m.first)
      (member_ok f T m.value m.first))
  suffix_formed G span (FieldsOf fs) y T b c t h g =
      let g1 : behind_suffix (by_bitfields span fs) T G ≡ Ok b =
      subst (λ z. behind_suffix z T G ≡ Ok b) (sym (ok_ok (by_bitfields span fs) y h)) g in
      let m = bind_ok (named_in_type span fs T) _ b g1 in
      subst (λ (z : Behind). WellFormed (types_in base) z.ty) (ok_ok (behind (bits_wide (all_wide m.value)) _) b m.then)
      (fields_wide tests right (types_in base) (well_declared base w) span fs T m.value m.first)
  suffix_formed G span (SlicesOf sl) y T b c t h g =
      let o = bind_ok (all_operands (found_slices tests sl) G) _ y h in
      let g1 : behind_suffix (by_slices span (found_slices tests sl) o.value) T G ≡ Ok b =
      subst (λ z. behind_suffix z T G ≡ Ok b) (sym (ok_ok (by_slices span (found_slices tests sl) o.value) y o.then)) g in
      let n = then_ok (need (is_bits T && all_integers o.value) T08 span) _ b g1 in
      let v = bind_ok (sliced_width span (found_slices tests sl) G) _ b n.then in
      subst (λ (z : Behind). WellFormed (types_in base) z.ty) (ok_ok (behind (bits_of v.value []) _) b v.then)
      (bits_formed tests right (types_in base) (well_declared base w) v.value (sliced_held tests span sl G v.value c v.first))
  suffix_formed G span (ElementOf e) y T b c t h g =
      let I = bind_ok (typed tests e G) _ y h in
      let g1 : behind_suffix (by_element span I.value) T G ≡ Ok b =
      subst (λ z. behind_suffix z T G ≡ Ok b) (sym (ok_ok (by_element span I.value) y I.then)) g in
      let v = bind_ok (indexed span T I.value.ty) _ b g1 in
      let x = bind_ok (found_or (element_in T) T08 span) _ v.value v.first in
      let n = then_ok (need (is_integer I.value.ty) T08 span) (Ok x.value) v.value x.then in
      subst (λ (z : Behind). WellFormed (types_in base) z.ty) (ok_ok (behind v.value _) b v.then)
      (element_formed tests right (types_in base) (well_declared base w) T v.value t.shaped
      (found_ok (element_in T) T08 span x.value x.first ∙ ap Some (ok_ok x.value v.value n.then)))

  pub suffixes_formed : (G : Scope) (i : Ident) (xs : List PlacedSuffix) (ys : List TypedSuffix) (T : Ty) (r : Reached) →
      CountsHeld G.names → WellFormed (types_in base) T → typed_suffixes tests i xs G ≡ Ok ys → behind_suffixes ys T G ≡ Ok r →
      WellFormed (types_in base) r.ty
  suffixes_formed G i [] ys T r c t h g =
      let g1 : behind_suffixes [] T G ≡ Ok r = subst (λ z. behind_suffixes z T G ≡ Ok r) (sym (ok_ok [] ys h)) g in
      subst (λ (z : Reached). WellFormed (types_in base) z.ty) (ok_ok (reached T []) r g1) t
  suffixes_formed G i (x ∷ xs) ys T r c t h g =
      let y = bind_ok (typed_suffix tests (up_to i x.end) x.suffix G) _ ys h in
      let zs = bind_ok (typed_suffixes tests i xs G) _ ys y.then in
      let g1 : behind_suffixes (y.value ∷ zs.value) T G ≡ Ok r =
      subst (λ z. behind_suffixes z T G ≡ Ok r) (sym (ok_ok (y.value ∷ zs.value) ys zs.then)) g in
      let b = bind_ok (behind_suffix y.value T G) _ r g1 in
      let q = bind_ok (behind_suffixes zs.value b.value.ty G) _ r b.then in
      subst (λ (z : Reached). WellFormed (types_in base) z.ty) (ok_ok (reached q.value.ty (b.value.step ∷ q.value.steps)) r q.then)
      (suffixes_formed G i xs zs.value b.value.ty q.value c (suffix_formed G (up_to i x.end) x.suffix y.value T b.value c t y.first b.first)
      zs.first q.first)

  -- ---- the operands of a suffix

  suffix_same : {A B : Type 0} (H : Here) (Q : A → B → Core → Type 0) (span : Span) (s : Suffix) (y : TypedSuffix) (T : Ty) (b : Behind) (c : Core) (k : Step → Core → Does A) (l : places.Step → BareCore → Runs B) → WellFormed (types_in base) T → typed_suffix tests span s H.scope ≡ Ok y → behind_suffix y T H.scope ≡ Ok b → At tests base subs loose H c →
      ((n : Step) (m : places.Step) (c1 : Core) → Leads H T b.ty n m → At tests base subs loose H c1 → Same tests right base subs loose H Q (k n c1) (l m (erased c1))) → Same tests right base subs loose H Q (eval_step (step_of span s) c k) (eval_step (step_ahead b.step) (erased c) l)
  suffix_same {A} {B} H Q span (FieldOf f) y T b c k l t h g a next =
      let g1 : behind_suffix (by_field span f) T H.scope ≡ Ok b = subst (λ z. behind_suffix z T H.scope ≡ Ok b) (sym (ok_ok (by_field span f) y h)) g in
      let m = bind_ok (member_named f T) _ b g1 in
      one m.value (ok_ok (behind (member_type m.value) (member_step span m.value)) b m.then) (member_ok f T m.value m.first)
    where
      one : (m : Member) → behind (member_type m) (member_step span m) ≡ b → member_of T f.text ≡ Some m → Same tests right base subs loose H Q (eval_step (step_of span (FieldOf f)) c k) (eval_step (step_ahead b.step) (erased c) l)
      one (a_field n V) e i = subst (λ (z : Behind). Same tests right base subs loose H Q (k (into_field span f.text) c) (eval_step (step_ahead z.step) (erased c) l)) e (next (into_field span f.text) (places.into_field span n) c (subst (λ (z : Behind). Leads H T z.ty (into_field span f.text) (places.into_field span n)) e (member_leads H T span f (a_field n V) t i)) a)
      one (a_bitfield n) e i = subst (λ (z : Behind). Same tests right base subs loose H Q (k (into_field span f.text) c) (eval_step (step_ahead z.step) (erased c) l)) e (next (into_field span f.text) (places.into_bitfield span n) c (subst (λ (z : Behind). Leads H T z.ty (into_field span f.text) (places.into_bitfield span n)) e (member_leads H T span f (a_bitfield n) t i)) a)
  suffix_same H Q span (FieldsOf fs) y T b c k l t h g a next =
      let g1 : behind_suffix (by_bitfields span fs) T H.scope ≡ Ok b = subst (λ z. behind_suffix z T H.scope ≡ Ok b) (sym (ok_ok (by_bitfields span fs) y h)) g in
      let n = bind_ok (named_in_type span fs T) _ b g1 in
      let f = bind_ok (bitfields_in fs (view_of T)) _ n.value n.first in
      let j = then_ok (need (is_bits T) T15 span) _ n.value f.then in
      let m = then_ok (need (nat_le (all_wide f.value) heaviest) T20 span) (Ok f.value) n.value j.then in
      let e = ok_ok (behind (bits_wide (all_wide n.value)) _) b n.then in
      subst (λ (z : Behind). Same tests right base subs loose H Q (k (into_fields span fs) c) (eval_step (step_ahead z.step) (erased c) l)) e
      (next (into_fields span fs) (places.into_bitfields span n.value) c
      (subst (λ (z : Behind). Leads H T z.ty (into_fields span fs) (places.into_bitfields span n.value)) e
      (λ U ss ps r. bitfields_step (env tests right ds base subs loose funcs w) (well_declared base w) H.present tests right T U span fs n.value ss ps t.shaped (need_ok (is_bits T) T15 span tt j.first) (f.first ∙ ap Ok (ok_ok f.value n.value m.then)) r)) a)
  suffix_same H Q span (SlicesOf sl) y T b c k l t h g a next =
      let o = bind_ok (all_operands (found_slices tests sl) H.scope) _ y h in
      let g1 : behind_suffix (by_slices span (found_slices tests sl) o.value) T H.scope ≡ Ok b = subst (λ z. behind_suffix z T H.scope ≡ Ok b) (sym (ok_ok (by_slices span (found_slices tests sl) o.value) y o.then)) g in
      let n = then_ok (need (is_bits T && all_integers o.value) T08 span) _ b g1 in
      let p = both (is_bits T) (all_integers o.value) (need_ok (is_bits T && all_integers o.value) T08 span tt n.first) in
      let v = bind_ok (sliced_width span (found_slices tests sl) H.scope) _ b n.then in
      let z = bind_ok (all_add (found_slices tests sl) no_width H.scope) _ v.value v.first in
      let held = counts_held H.present base H.scope.names c a.agrees in
      let fits = fits_of span z.value v.value z.then in
      let s = all_say tests right base subs loose H held sl o.value no_width z.value o.first p.1 z.first in
      let shapes = shapes_of (found_slices tests sl) in
      let e = ok_ok (behind (bits_of v.value []) _) b v.then in
      subst (λ (x : Behind). Same tests right base subs loose H Q (eval_step (step_of span (SlicesOf sl)) c k) (eval_step (step_ahead x.step) (erased c) l)) e
      (subst (λ ts. Same tests right base subs loose H Q (eval_step (step_of span (SlicesOf sl)) c k) (eval_all ts [] (erased c) (λ zs c1. l (places.into_slices span shapes zs) c1))) (sym (list_from (trees_in o.value)))
      (all_same tests right base subs loose H Q (exprs_in slice_parts sl) (trees_in o.value) s.asked [] c (λ zs c1. k (into_slices span (shapes_in slice_parts sl) zs) c1) (λ zs c1. l (places.into_slices span shapes zs) c1) s.asks a
      (λ xs c1 i a1.
      let r = s.cuts xs i in
      let wide =
      sums_to H.present span z.value v.value (all_widths r.list) z.then (sliced_held tests span sl H.scope v.value held v.first)
      (r.adds begun fits (pos 0) (int_end (pos 0) H.present)) in
      next (into_slices span (shapes_in slice_parts sl) xs) (places.into_slices span shapes xs) c1
      (subst (λ (x : Behind). Leads H T x.ty (into_slices span (shapes_in slice_parts sl) xs) (places.into_slices span shapes xs)) e
      (λ U ss ps q. slices_step (env tests right ds base subs loose funcs w) (well_declared base w) H.present tests right T U span (shapes_in slice_parts sl) shapes xs r.list v.value ss ps s.shapes_are t.shaped p.0 r.are wide q)) a1)))
  suffix_same H Q span (ElementOf e) y T b c k l t h g a next =
      let I = bind_ok (typed tests e H.scope) _ y h in
      let g1 : behind_suffix (by_element span I.value) T H.scope ≡ Ok b = subst (λ z. behind_suffix z T H.scope ≡ Ok b) (sym (ok_ok (by_element span I.value) y I.then)) g in
      let v = bind_ok (indexed span T I.value.ty) _ b g1 in
      let x = bind_ok (found_or (element_in T) T08 span) _ v.value v.first in
      let n = then_ok (need (is_integer I.value.ty) T08 span) (Ok x.value) v.value x.then in
      let el = found_ok (element_in T) T08 span x.value x.first ∙ ap Some (ok_ok x.value v.value n.then) in
      let q = ok_ok (behind v.value _) b v.then in
      subst (λ (z : Behind). Same tests right base subs loose H Q (eval_step (step_of span (ElementOf e)) c k) (eval_step (step_ahead z.step) (erased c) l)) q
      (operand tests right base subs loose H Q e I.value c (λ z c1. k (into_element span z) c1) (λ z c1. l (places.into_element span z) c1) I.first a
      (λ z c1 i a1. next (into_element span z) (places.into_element span z) c1
      (subst (λ (m : Behind). Leads H T m.ty (into_element span z) (places.into_element span z)) q
      (λ U ss ps r. element_step (env tests right ds base subs loose funcs w) (well_declared base w) H.present tests right T v.value I.value.ty U span z ss ps el (need_ok (is_integer I.value.ty) T08 span tt n.first) i r)) a1))

  -- those of all suffixes of a place
  pub suffixes_same : {A B : Type 0} (H : Here) (Q : A → B → Core → Type 0) (i : Ident) (xs : List PlacedSuffix) (ys : List TypedSuffix) (T : Ty) (r : Reached) (before : List Step) (placed : List places.Step) (c : Core) (k : List Step → Core → Does A) (l : List places.Step → BareCore → Runs B) → WellFormed (types_in base) T → typed_suffixes tests i xs H.scope ≡ Ok ys → behind_suffixes ys T H.scope ≡ Ok r → At tests base subs loose H c →
      ((ss : List Step) (ps : List places.Step) (c1 : Core) → Ways H T r.ty ss ps → At tests base subs loose H c1 → Same tests right base subs loose H Q (k (before ++ ss) c1) (l (placed ++ ps) (erased c1))) → Same tests right base subs loose H Q (eval_steps (steps_of i xs) before c k) (eval_steps (map step_ahead r.steps) placed (erased c) l)
  suffixes_same H Q i [] ys T r before placed c k l t h g a next =
      let g1 : behind_suffixes [] T H.scope ≡ Ok r = subst (λ z. behind_suffixes z T H.scope ≡ Ok r) (sym (ok_ok [] ys h)) g in
      let e = ok_ok (reached T []) r g1 in
      subst (λ (z : Reached). Same tests right base subs loose H Q (k before c) (eval_steps (map step_ahead z.steps) placed (erased c) l)) e
      (subst (λ ss. Same tests right base subs loose H Q (k ss c) (l placed (erased c))) (append_nil before) (subst (λ ps. Same tests right base subs loose H Q (k (before ++ []) c) (l ps (erased c))) (append_nil placed)
      (next [] [] c (subst (λ (z : Reached). Ways H T z.ty [] []) e (no_steps (env tests right ds base subs loose funcs w) (well_declared base w) H.present tests right T)) a)))
  suffixes_same H Q i (x ∷ xs) ys T r before placed c k l t h g a next =
      let y = bind_ok (typed_suffix tests (up_to i x.end) x.suffix H.scope) _ ys h in
      let zs = bind_ok (typed_suffixes tests i xs H.scope) _ ys y.then in
      let g1 : behind_suffixes (y.value ∷ zs.value) T H.scope ≡ Ok r = subst (λ z. behind_suffixes z T H.scope ≡ Ok r) (sym (ok_ok (y.value ∷ zs.value) ys zs.then)) g in
      let b = bind_ok (behind_suffix y.value T H.scope) _ r g1 in
      let q = bind_ok (behind_suffixes zs.value b.value.ty H.scope) _ r b.then in
      let e = ok_ok (reached q.value.ty (b.value.step ∷ q.value.steps)) r q.then in
      subst (λ (z : Reached). Same tests right base subs loose H Q (eval_steps (steps_of i (x ∷ xs)) before c k) (eval_steps (map step_ahead z.steps) placed (erased c) l)) e
      (suffix_same H Q (up_to i x.end) x.suffix y.value T b.value c (λ n c1. eval_steps (steps_of i xs) (before ++ n ∷ []) c1 k) (λ n c1. eval_steps (map step_ahead q.value.steps) (placed ++ n ∷ []) c1 l) t y.first b.first a
      (λ n m c1 lead a1. suffixes_same H Q i xs zs.value b.value.ty q.value (before ++ n ∷ []) (placed ++ m ∷ []) c1 k l (suffix_formed H.scope (up_to i x.end) x.suffix y.value T b.value (counts_held H.present base H.scope.names c1 a1.agrees) t y.first b.first) zs.first q.first a1
      (λ ss ps c2 ways a2.
      subst (λ us. Same tests right base subs loose H Q (k us c2) (l ((placed ++ m ∷ []) ++ ps) (erased c2))) (sym (append_assoc before (n ∷ []) ss))
      (subst (λ us. Same tests right base subs loose H Q (k (before ++ n ∷ ss) c2) (l us (erased c2))) (sym (append_assoc placed (m ∷ []) ps))
      (next (n ∷ ss) (m ∷ ps) c2 (subst (λ (z : Reached). Ways H T z.ty (n ∷ ss) (m ∷ ps)) e (lead q.value.ty ss ps ways)) a2)))))
