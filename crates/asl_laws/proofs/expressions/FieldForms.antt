-- Fields and bitfields with their typed trees: both do the same, and give a value of the type.
use Rattle.std.proofs.Common.{◌≡◌, Bool, List, Some, Ok, refl, ap, ◌∙◌}
use Rattle.asl_syn.specs.declared.token.Span.{Span}
use Rattle.asl_syn.specs.declared.code.StaticCode.TheVariants.{T15, T20}
use Rattle.asl_syn.specs.declared.tree.Ident.{Ident}
use Rattle.asl_syn.specs.declared.tree.Expr.{Expr}
use Rattle.asl_syn.specs.declared.tree.Bitfield.TheOpen as ex
use Rattle.asl_syn.specs.declared.tree.Decl.{Decl}
use Rattle.std.specs.Prelude.{nat_le}
use Rattle.asl_rules.specs.Faults.{need}
use Rattle.asl_rules.specs.Tests.{Tests, IsRight}
use Rattle.asl_rules.specs.types.Types.{is_bits, view_of, bits_wide}
use Rattle.asl_rules.specs.declarations.Scopes.{Entry, Signature}
use Rattle.asl_rules.specs.private.WellFormed.{WellFormed}
use Rattle.asl_rules.specs.runs.Trees as tree
use Rattle.asl_rules.specs.runs.Trees.{Note, Tree, TreeFunc}
use Rattle.asl_poly.specs.WidthLimits.{heaviest}
use Rattle.asl_rules.specs.expressions.Typing.{Typed, in_class}
use Rattle.asl_rules.specs.values.Members.{member_named, Member, a_field, a_bitfield, member_type, member_tree, member_of, bitfields_in, bitfields_named as named_in_type, all_wide}
use Rattle.asl_rules.specs.expressions.Exprs.{found, typed, field_rule, bitfields_rule}
use Rattle.asl_rules.specs.runs.States.{Core}
use Rattle.asl_rules.specs.private.Agreement.{types_in}
use Rattle.asl_rules.specs.values.Structures.{field_of}
use Rattle.asl_rules.specs.runs.Pures as pure
use Rattle.asl_rules.specs.values.Vectors.{bitfield_of, bitfields_of, bitfields_named}
use Rattle.asl_rules.specs.private.ByPlace as places
use Rattle.asl_rules.proofs.basics.Inversions.{bind_ok, then_ok, need_ok, ok_ok}
use Rattle.asl_laws.proofs.expressions.MemberNamed.{member_ok}
use Rattle.asl_rules.proofs.scopes.Naming.{WellNamed, well_declared}
use Rattle.asl_rules.proofs.basics.Opening.{in_class_is}
use Rattle.asl_laws.proofs.expressions.Claims.{Here, At}
use Rattle.asl_laws.proofs.expressions.TreePlans.{behind_same}
use Rattle.asl_rules.proofs.expressions.MemberForms.{member_gives, bitfields_give}
use Rattle.asl_laws.proofs.expressions.ExprForms.{Formed, formed}

module _ (tests : Tests) (right : IsRight tests) (ds : List Decl) (base : List Entry) (subs : List Signature) (loose : Bool) (funcs : List TreeFunc) (w : WellNamed base) where
  field_by : (H : Here) (S : Typed) (span : Span) (e : Expr) (i : Ident) (c : Core) (T : Typed) (m : Member) → WellFormed (types_in base) T.ty → typed tests e H.scope ≡ Ok T → member_of T.ty i.text ≡ Some m → in_class H.scope.class span T.effect (member_type m) (member_tree T.tree m) ≡ Ok S → At tests base subs loose H c → Formed tests right ds base subs loose funcs w H S (ex.Field span e i) c
  field_by H S span e i c T (a_field n U) good t q h a =
      formed tests right ds base subs loose funcs w H S (ex.Field span e i) c span U T.effect (λ k. tree.Field k T.tree n) (in_class_is H.scope.class span T.effect U (λ k. tree.Field k T.tree n) S h) refl
      (behind_same tests right base subs loose H U e T c (field_of span i.text) (places.field_in span n) t a (λ x j. let g = member_gives (types_in base) (well_declared base w) H.present tests right span i.text T.ty (a_field n U) x good.shaped q j in (g.same, g.gives)))
  field_by H S span e i c T (a_bitfield f) good t q h a =
      formed tests right ds base subs loose funcs w H S (ex.Field span e i) c span (member_type (a_bitfield f)) T.effect (λ k. tree.Bitfield k T.tree f) (in_class_is H.scope.class span T.effect (member_type (a_bitfield f)) (λ k. tree.Bitfield k T.tree f) S h) refl
      (behind_same tests right base subs loose H (member_type (a_bitfield f)) e T c (field_of span i.text) (bitfield_of span f) t a (λ x j. let g = member_gives (types_in base) (well_declared base w) H.present tests right span i.text T.ty (a_bitfield f) x good.shaped q j in (g.same, g.gives)))

  pub field_formed : (H : Here) (S : Typed) (span : Span) (e : Expr) (i : Ident) (c : Core) → ((T : Typed) → typed tests e H.scope ≡ Ok T → WellFormed (types_in base) T.ty) → field_rule span (found tests e) i H.scope ≡ Ok S → At tests base subs loose H c → Formed tests right ds base subs loose funcs w H S (ex.Field span e i) c
  field_formed H S span e i c good h a =
      let t = bind_ok (typed tests e H.scope) _ S h in
      let m = bind_ok (member_named i t.value.ty) _ S t.then in
      field_by H S span e i c t.value m.value (good t.value t.first) t.first (member_ok i t.value.ty m.value m.first) m.then a

  pub bitfields_formed : (H : Here) (S : Typed) (span : Span) (e : Expr) (is : List Ident) (c : Core) → ((T : Typed) → typed tests e H.scope ≡ Ok T → WellFormed (types_in base) T.ty) → bitfields_rule span (found tests e) is H.scope ≡ Ok S → At tests base subs loose H c → Formed tests right ds base subs loose funcs w H S (ex.Fields span e is) c
  bitfields_formed H S span e is c good h a =
      let t = bind_ok (typed tests e H.scope) _ S h in
      let n = bind_ok (named_in_type span is t.value.ty) _ S t.then in
      let f = bind_ok (bitfields_in is (view_of t.value.ty)) _ n.value n.first in
      let k = then_ok (need (is_bits t.value.ty) T15 span) _ n.value f.then in
      let l = then_ok (need (nat_le (all_wide f.value) heaviest) T20 span) (Ok f.value) n.value k.then in
      let same : f.value ≡ n.value = ok_ok f.value n.value l.then in
      let make : Note → Tree = λ j. tree.Bitfields j t.value.tree n.value in
      formed tests right ds base subs loose funcs w H S (ex.Fields span e is) c span (bits_wide (all_wide n.value)) t.value.effect make (in_class_is H.scope.class span t.value.effect (bits_wide (all_wide n.value)) make S n.then) refl
      (behind_same tests right base subs loose H (bits_wide (all_wide n.value)) e t.value c (λ x. pure.◌>>=◌ (bitfields_named span is x) (λ fs. bitfields_of tests.limit span fs x)) (bitfields_of tests.limit span n.value) t.first a
      (λ x j. bitfields_give (types_in base) (well_declared base w) H.present tests right tests.limit span is t.value.ty n.value x (good t.value t.first).shaped (f.first ∙ ap Ok same) (need_ok (is_bits t.value.ty) T15 span tt k.first) j))
