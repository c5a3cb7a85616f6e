-- Forms of expression with their typed trees: both do the same, and give a value of the type, in a state that agrees with the scope.
use Rattle.std.proofs.Common.{◌≡◌, ℕ, pos, inl, inr, ◌&&◌, Bool, true, false, not, List, [], ◌∷◌, length, Option, Some, None, option_map, Ok, refl, sym, ap, ◌∙◌, subst, map}
use Rattle.asl_syn.specs.declared.token.Span.{Span}
use Rattle.asl_syn.specs.declared.code.StaticCode.TheVariants.{S03, T02, T05, T08}
use Rattle.asl_syn.specs.declared.tree.Expr.{Expr}
use Rattle.asl_syn.specs.declared.tree.Bitfield.TheOpen as ex
use Rattle.asl_syn.specs.declared.tree.Decl.{Decl}
use Rattle.asl_syn.specs.declared.tree.UnaryOperator.{UnaryOperator}
use Rattle.asl_syn.specs.declared.tree.BinaryOperator.{BinaryOperator}
use Rattle.asl_syn.specs.declared.tree.BinaryOperator.TheVariants as binary
use Rattle.asl_syn.specs.Layers.{ExprLayer}
use Rattle.asl_rules.specs.declared.effect.Effect.{Effect}
use Rattle.asl_rules.specs.declared.effect.Effect.TheVariants.{Pure}
use Rattle.asl_rules.specs.Faults.{◌>>◌, need, found_or, fault_of}
use Rattle.asl_rules.specs.Tests.{Tests, IsRight}
use Rattle.asl_rules.specs.types.Types.{Ty, boolean, tuple_of, bits_wide, is_boolean, is_integer, join, bare}
use Rattle.asl_rules.specs.types.Closed.{Assignment, parts_with}
use Rattle.asl_rules.specs.declarations.Scopes.{Entry, Signature, Storage, Standing, Stored, Subprogram, TypeName, Label, standing_of, reading}
use Rattle.asl_rules.specs.private.WellFormed.{Shaped, WellFormed, BuiltAll}
use Rattle.asl_rules.specs.declarations.Layouts.{slot_of, layout_of}
use Rattle.asl_rules.specs.runs.Trees as tree
use Rattle.asl_rules.specs.runs.Trees.{Tree, TreeFunc, Note, tree_at}
use Rattle.asl_rules.specs.types.Widths.{bounded}
use Rattle.asl_rules.specs.declarations.Programs.{Environment}
use Rattle.asl_rules.specs.types.Effects.{greater, together, all_together, greatest}
use Rattle.asl_rules.specs.expressions.Typing.{Typed, typed_as, note, in_class, Operand, operands, effects_of, types_of, trees_in, trees_of}
use Rattle.asl_rules.specs.expressions.Operations.{of_booleans, binary_rule, unary_rule}
use Rattle.asl_rules.specs.values.Members.{element_in, indexed}
use Rattle.asl_rules.specs.expressions.Exprs.{literal_type, found, typed, apart, operation_rule, operation_rule_of_two, conditional_rule, tuple_rule, element_rule, name_of_standing, bits_rule_of, span_of}
use Rattle.asl_rules.specs.values.Values.{Value, bool, tuple_with, is_width, value}
use Rattle.asl_rules.specs.types.Views.{stripped, stripping, parts_viewed}
use Rattle.asl_rules.specs.private.HoldsBits.{holds_bits}
use Rattle.asl_rules.specs.runs.States.{Core}
use Rattle.asl_rules.specs.private.Belonging.{InType, has_type, parts_have}
use Rattle.asl_rules.specs.private.Agreement.{types_in}
use Rattle.asl_rules.specs.values.Vectors.{literal_of}
use Rattle.asl_rules.specs.values.Structures.{element_of, values_of}
use Rattle.asl_rules.specs.runs.Plans.{Ret, choose, Good, lift}
use Rattle.asl_rules.specs.runs.Pures.{known, there}
use Rattle.asl_rules.specs.values.Operators.{binary_value, unary_value, truth, plain_bits, Decided, Already, ByRight, decides, Lazy, strictness}
use Rattle.asl_rules.specs.runs.Forms.{at_once, literal, behind, behind_all, ask_right, unless_decided, behind_left, branch_value}
use Rattle.asl_rules.specs.runs.Evaluation.{Does, value_of, or_value, label_in, value_or_label, expr_node}
use Rattle.asl_rules.specs.private.TypedMeaning.{Runs, TreeProgram, value_at, tree_node}
use Rattle.asl_rules.specs.private.Erasure.{erased}
use Rattle.asl_rules.proofs.basics.Inversions.{ok_ok, err_ok, bind_ok, then_ok, need_ok, found_ok}
use Rattle.asl_rules.proofs.basics.Tests.{both, and_true}
use Rattle.asl_rules.proofs.values.SameKind.{number_is}
use Rattle.asl_rules.proofs.values.Bitless.{stripping_is}
use Rattle.asl_laws.proofs.values.Joining.{bare_join}
use Rattle.asl_rules.proofs.values.KindsByNames.{one_kind}
use Rattle.asl_rules.proofs.scopes.Lookups.{Finds, finds, label_value, label_outside}
use Rattle.asl_rules.proofs.scopes.Naming.{WellNamed, well_declared}
use Rattle.asl_rules.proofs.expressions.OperatorForms.{Gives, OneKind, literal_gives, binary_gives, unary_gives}
use Rattle.asl_laws.proofs.expressions.ElementForms.{element_gives}
use Rattle.asl_rules.proofs.values.Rounded.{constant_at}
use Rattle.asl_rules.proofs.scopes.Slots.{has_names, slot_is}
use Rattle.asl_rules.proofs.basics.Opening.{in_class_is, finish_is, bounded_ok}
use Rattle.asl_laws.proofs.expressions.Claims.{Here, At}
use Rattle.asl_laws.proofs.expressions.TreePlans.{Out, Same, operand, at_once_same, at_once_both, behind_same, truth_same, AllGive, asked_of, operands_asked, behind_all_same, list_from}

-- an operator that its left operand may decide is one on booleans
boolean_operands : (span : Span) (S T U : Ty) → of_booleans span S T ≡ Ok U → (is_boolean S ≡ true) × (boolean ≡ U)
boolean_operands span S T U h =
    let p = then_ok (need (is_boolean S && is_boolean T) T08 span) (Ok boolean) U h in
    ((both (is_boolean S) (is_boolean T) (need_ok (is_boolean S && is_boolean T) T08 span tt p.first)).0, ok_ok boolean U p.then)

-- a name's storage has its value among several sorts
pub or_further : (x : Value) (u v l : Option Value) → or_value u v ≡ Some x → or_value u (or_value v l) ≡ Some x
or_further x (Some y) v l h = h
or_further x None (Some y) l h = h
or_further x None None l h = absurd cc

-- the value that is found
pub record FoundAt (av : Assignment) (d : List ℕ → Option Ty) (s : Storage) (o : Option Value) : Type 0 where
  pub one : Value
  pub is : o ≡ Some one
  pub belongs : InType d av one s.ty

pub found_at : (av : Assignment) (d : List ℕ → Option Ty) (s : Storage) (o : Option Value) → Finds av d s o → FoundAt av d s o
found_at av d s (Some x) h = record { one = x; is = refl; belongs = h.0 }
found_at av d s None h = absurd h

module _ (tests : Tests) (right : IsRight tests) (ds : List Decl) (base : List Entry) (subs : List Signature) (loose : Bool) (funcs : List TreeFunc) (w : WellNamed base) where
  abbrev pub env : Environment
  env = record { decls = ds; names = base; limit = tests.limit }

  abbrev pub program : TreeProgram
  program = record { funcs = funcs; limit = tests.limit }

  -- one form: where it stands, and what it does
  pub record Formed (H : Here) (S : Typed) (layer : ExprLayer) (c : Core) : Type 0 where
    pub at : span_of layer ≡ tree_at S.tree
    pub does : Same tests right base subs loose H (Out tests right base subs loose H S.ty) (expr_node env layer c) (tree_node program S.tree (erased c))

  pub formed : (H : Here) (S : Typed) (layer : ExprLayer) (c : Core) (span : Span) (U : Ty) (k : Effect) (make : Note → Tree) → typed_as span U k make ≡ S → span_of layer ≡ tree_at (typed_as span U k make).tree →
      Same tests right base subs loose H (Out tests right base subs loose H U) (expr_node env layer c) (tree_node program (typed_as span U k make).tree (erased c)) → Formed H S layer c
  formed H S layer c span U k make e at d = subst (λ (z : Typed). Formed H z layer c) e (record { at = at; does = d })

  -- ---- literals and names

  pub int_formed : (H : Here) (S : Typed) (span : Span) (n : ℕ) (c : Core) → in_class H.scope.class span Pure (literal_type n) (λ m. tree.Int m n) ≡ Ok S → At tests base subs loose H c → Formed H S (ex.Int span n) c
  int_formed H S span n c h a =
      formed H S (ex.Int span n) c span (literal_type n) Pure (λ m. tree.Int m n) (in_class_is H.scope.class span Pure (literal_type n) (λ m. tree.Int m n) S h) refl
      (at_once_same tests right base subs loose H (literal_type n) (literal span n) c (literal_gives (types_in base) H.present tests right span n) a)

  pub bool_formed : (H : Here) (S : Typed) (span : Span) (b : Bool) (c : Core) → in_class H.scope.class span Pure boolean (λ n. tree.Constant n (bool b)) ≡ Ok S → At tests base subs loose H c → Formed H S (ex.Bool span b) c
  bool_formed H S span b c h a =
      formed H S (ex.Bool span b) c span boolean Pure (λ n. tree.Constant n (bool b)) (in_class_is H.scope.class span Pure boolean (λ n. tree.Constant n (bool b)) S h) refl (refl, (refl, ((refl, tt, refl), a)))

  bits_by : (H : Here) (S : Typed) (span : Span) (t : List ℕ) (o : Option (List Bool)) (c : Core) → literal_of tests.limit t ≡ o → bits_rule_of H.scope.class span o ≡ Ok S → At tests base subs loose H c → Formed H S (ex.Bits span t) c
  bits_by H S span t None c q h a = err_ok (fault_of S03 span) S h
  bits_by H S span t (Some bs) c q h a =
      formed H S (ex.Bits span t) c span (bits_wide (length bs)) Pure (λ n. tree.Constant n (plain_bits bs)) (in_class_is H.scope.class span Pure (bits_wide (length bs)) (λ n. tree.Constant n (plain_bits bs)) S h) refl
      (subst (λ o. Same tests right base subs loose H (Out tests right base subs loose H (bits_wide (length bs))) (at_once (there span (option_map plain_bits o)) c) (Ret (plain_bits bs) (erased c))) (sym q)
      (refl, (refl, ((subst (λ z. is_width (length bs) z ≡ true) (sym (constant_at H.present (pos (length bs)))) (number_is (length bs)), tt, refl), a))))

  pub bits_formed : (H : Here) (S : Typed) (span : Span) (t : List ℕ) (c : Core) → bits_rule_of H.scope.class span (literal_of tests.limit t) ≡ Ok S → At tests base subs loose H c → Formed H S (ex.Bits span t) c
  bits_formed H S span t c h a = bits_by H S span t (literal_of tests.limit t) c refl h a

  name_by : (H : Here) (S : Typed) (span : Span) (name : List ℕ) (o : Option Standing) (c : Core) → standing_of name H.scope.names ≡ o → name_of_standing span name o H.scope ≡ Ok S → At tests base subs loose H c → Formed H S (ex.Name span name) c
  name_by H S span name (Some (Stored s)) c q h a =
      let slot = slot_of name (layout_of H.scope.names) in
      let u = value_of name c.frame in
      let v = value_of name c.globals in
      let l = label_in (standing_of name base) in
      let f = found_at H.present (types_in base) s (or_value u v) (finds H.present base H.scope.names c name s a.agrees q) in
      let e : or_value u (or_value v l) ≡ Some f.one = or_further f.one u v l f.is in
      let r : value_at slot (erased c) ≡ Some f.one = slot_is f.one name H.scope.names c (has_names H.present base H.scope.names c w.outside a.agrees) f.is in
      formed H S (ex.Name span name) c span s.ty (reading s) (λ n. tree.Read n slot) (in_class_is H.scope.class span (reading s) s.ty (λ n. tree.Read n slot) S h) refl
      (at_once_both tests right base subs loose H s.ty (known span (or_value u (or_value v l))) (known span (value_at slot (erased c))) c (ap (known span) e ∙ sym (ap (known span) r)) (subst (λ o. Gives (types_in base) H.present s.ty (known span o)) (sym e) f.belongs) a)
  name_by H S span name (Some (Label U x)) c q h a =
      let v : value_or_label env span name c ≡ Good x = label_value H.present base H.scope.names c span name U x w.apart a.agrees q in
      formed H S (ex.Name span name) c span U Pure (λ n. tree.Constant n x) (in_class_is H.scope.class span Pure U (λ n. tree.Constant n x) S h) refl
      (subst (λ r. Same tests right base subs loose H (Out tests right base subs loose H U) (at_once r c) (Ret x (erased c))) (sym v) (refl, (refl, ((w.good name (Label U x) (label_outside H.present base H.scope.names c name U x a.agrees q)).1 H.present, a))))
  name_by H S span name (Some Subprogram) c q h a = err_ok (fault_of T02 span) S h
  name_by H S span name (Some (TypeName U)) c q h a = err_ok (fault_of T02 span) S h
  name_by H S span name None c q h a = err_ok (fault_of T02 span) S h

  pub name_formed : (H : Here) (S : Typed) (span : Span) (name : List ℕ) (c : Core) → name_of_standing span name (standing_of name H.scope.names) H.scope ≡ Ok S → At tests base subs loose H c → Formed H S (ex.Name span name) c
  name_formed H S span name c h a = name_by H S span name (standing_of name H.scope.names) c refl h a

  -- ---- operators

  -- an operand's value, and that its type is well formed
  abbrev Lies : Here → Value → Ty → Type 0
  Lies H x T = InType (types_in base) H.present x T × Shaped (types_in base) T

  pub operation_formed : (H : Here) (S : Typed) (span : Span) (o : UnaryOperator) (e : Expr) (c : Core) →
      ((T : Typed) → typed tests e H.scope ≡ Ok T → WellFormed (types_in base) T.ty) →
      operation_rule span o (found tests e) H.scope ≡ Ok S → At tests base subs loose H c → Formed H S (ex.Unary span o e) c
  operation_formed H S span o e c good h a =
      let t = bind_ok (typed tests e H.scope) _ S h in
      let u = bind_ok (unary_rule span o t.value.ty) _ S t.then in
      let make : Note → Tree = λ n. tree.Unary n o t.value.tree in
      formed H S (ex.Unary span o e) c span u.value t.value.effect make (in_class_is H.scope.class span t.value.effect u.value make S u.then) refl
      (behind_same tests right base subs loose H u.value e t.value c (unary_value span o) (unary_value span o) t.first a
      (λ x i. (refl, unary_gives (types_in base) H.present tests right span o t.value.ty u.value x u.first (i, (good t.value t.first).shaped))))

  right_same : (H : Here) (span : Span) (o : BinaryOperator) (b : Expr) (x : Value) (S U : Ty) (V : Typed) (c : Core) → OneKind S V.ty →
      Shaped (types_in base) V.ty → typed tests b H.scope ≡ Ok V → binary_rule tests span o S V.ty ≡ Ok U → Lies H x S →
      At tests base subs loose H c →
      Same tests right base subs loose H (Out tests right base subs loose H U) (ask_right tests.limit span o b x c) (ask_right tests.limit span o V.tree x (erased c))
  right_same H span o b x S U V c k s h r i a =
      behind_same tests right base subs loose H U b V c (binary_value tests.limit span o x) (binary_value tests.limit span o x) h a
      (λ y j. (refl, binary_gives (types_in base) H.present tests right span o S V.ty U x y k r i (j, s)))

  decided_same : (H : Here) (span : Span) (o : BinaryOperator) (b : Expr) (x : Value) (S : Ty) (V : Typed) (c : Core) (d : Decided) →
      OneKind S V.ty → Shaped (types_in base) V.ty → typed tests b H.scope ≡ Ok V → binary_rule tests span o S V.ty ≡ Ok boolean →
      Lies H x S → At tests base subs loose H c →
      Same tests right base subs loose H (Out tests right base subs loose H boolean) (unless_decided tests.limit span o b x c d) (unless_decided tests.limit span o V.tree x (erased c) d)
  decided_same H span o b x S V c (Already r) k s h q i a = (refl, (refl, ((refl, tt, refl), a)))
  decided_same H span o b x S V c ByRight k s h q i a = right_same H span o b x S boolean V c k s h q i a

  lazy_same : (H : Here) (span : Span) (o : BinaryOperator) (b : Expr) (x : Value) (S U : Ty) (V : Typed) (c : Core) (f : Bool → Decided) →
      OneKind S V.ty → Shaped (types_in base) V.ty → typed tests b H.scope ≡ Ok V → binary_rule tests span o S V.ty ≡ Ok U →
      (is_boolean S ≡ true) × (boolean ≡ U) → Lies H x S → At tests base subs loose H c →
      Same tests right base subs loose H (Out tests right base subs loose H U) (behind_left tests.limit span o b x (Lazy f) c) (behind_left tests.limit span o V.tree x (Lazy f) (erased c))
  lazy_same H span o b x S U V c f k s h q e i a =
      subst (λ W. Same tests right base subs loose H (Out tests right base subs loose H W) (behind_left tests.limit span o b x (Lazy f) c) (behind_left tests.limit span o V.tree x (Lazy f) (erased c))) e.1
      (truth_same tests right base subs loose H (Out tests right base subs loose H boolean) span x S c
      (λ p. unless_decided tests.limit span o b x c (f p)) (λ p. unless_decided tests.limit span o V.tree x (erased c) (f p)) e.0 i.0
      (λ p. decided_same H span o b x S V c (f p) k s h (q ∙ ap Ok (sym e.1)) i a))

  left_same : (H : Here) (span : Span) (o : BinaryOperator) (b : Expr) (x : Value) (S U : Ty) (V : Typed) (c : Core) → OneKind S V.ty →
      Shaped (types_in base) V.ty → typed tests b H.scope ≡ Ok V → binary_rule tests span o S V.ty ≡ Ok U → Lies H x S →
      At tests base subs loose H c →
      Same tests right base subs loose H (Out tests right base subs loose H U) (behind_left tests.limit span o b x (strictness o) c) (behind_left tests.limit span o V.tree x (strictness o) (erased c))
  left_same H span binary.LogicalAnd b x S U V c k s h r i a =
      lazy_same H span binary.LogicalAnd b x S U V c (λ p. decides (not p) false) k s h r (boolean_operands span S V.ty U r) i a
  left_same H span binary.LogicalOr b x S U V c k s h r i a =
      lazy_same H span binary.LogicalOr b x S U V c (λ p. decides p true) k s h r (boolean_operands span S V.ty U r) i a
  left_same H span binary.Implies b x S U V c k s h r i a =
      lazy_same H span binary.Implies b x S U V c (λ p. decides (not p) true) k s h r (boolean_operands span S V.ty U r) i a
  left_same H span o b x S U V c k s h r i a = right_same H span o b x S U V c k s h r i a

  pub two_formed : (H : Here) (S : Typed) (span : Span) (o : BinaryOperator) (e b : Expr) (c : Core) → ((e : Expr) (T : Typed) → typed tests e H.scope ≡ Ok T → WellFormed (types_in base) T.ty) → operation_rule_of_two tests span o (found tests e) (found tests b) H.scope ≡ Ok S → At tests base subs loose H c → Formed H S (ex.Binary span o e b) c
  two_formed H S span o e b c good h a =
      let t = bind_ok (typed tests e H.scope) _ S h in
      let v = bind_ok (typed tests b H.scope) _ S t.then in
      let u = bind_ok (binary_rule tests span o t.value.ty v.value.ty) _ S v.then in
      let k = greater t.value.effect v.value.effect in
      let make : Note → Tree = λ n. tree.Binary n o t.value.tree v.value.tree in
      formed H S (ex.Binary span o e b) c span u.value k make (finish_is H.scope.class span (together t.value.effect v.value.effect) k u.value make S u.then) refl
      (operand tests right base subs loose H (Out tests right base subs loose H u.value) e t.value c (λ x c1. behind_left tests.limit span o b x (strictness o) c1) (λ x c1. behind_left tests.limit span o v.value.tree x (strictness o) c1) t.first a
      (λ x c1 i a1. left_same H span o b x t.value.ty u.value v.value c1
      (one_kind (types_in base) (well_declared base w) t.value.ty v.value.ty (good e t.value t.first).shaped
      (good b v.value v.first).shaped) (good b v.value v.first).shaped v.first u.first (i, (good e t.value t.first).shaped) a1))

  -- ---- elements, tuples, conditionals

  indexed_in : (span : Span) (S I T : Ty) → indexed span S I ≡ Ok T → (element_in S ≡ Some T) × (is_integer I ≡ true)
  indexed_in span S I T h =
      let e = bind_ok (found_or (element_in S) T08 span) (λ U. need (is_integer I) T08 span >> Ok U) T h in
      let n = then_ok (need (is_integer I) T08 span) (Ok e.value) T e.then in
      (found_ok (element_in S) T08 span T (e.first ∙ n.then), need_ok (is_integer I) T08 span tt n.first)

  pub element_formed : (H : Here) (S : Typed) (span : Span) (e i : Expr) (c : Core) → element_rule span (found tests e) (found tests i) H.scope ≡ Ok S → At tests base subs loose H c → Formed H S (ex.Element span e i) c
  element_formed H S span e i c h a =
      let t = bind_ok (typed tests e H.scope) _ S h in
      let v = bind_ok (typed tests i H.scope) _ S t.then in
      let u = bind_ok (indexed span t.value.ty v.value.ty) _ S v.then in
      let q = indexed_in span t.value.ty v.value.ty u.value u.first in
      let k = greater t.value.effect v.value.effect in
      let make : Note → Tree = λ n. tree.Element n t.value.tree v.value.tree in
      formed H S (ex.Element span e i) c span u.value k make (finish_is H.scope.class span (together t.value.effect v.value.effect) k u.value make S u.then) refl
      (operand tests right base subs loose H (Out tests right base subs loose H u.value) e t.value c (λ x c1. behind i c1 (element_of span x)) (λ x c1. behind v.value.tree c1 (element_of span x)) t.first a
      (λ x c1 j a1. behind_same tests right base subs loose H u.value i v.value c1 (element_of span x) (element_of span x) v.first a1 (λ y l. (refl, element_gives (types_in base) H.present tests right span t.value.ty v.value.ty u.value x y q.0 q.1 j l))))

  -- values of the types of operands make a tuple of these types
  record PartsIn (a : Assignment) (os : List Operand) (xs : List Value) : Type 0 where
    pub have : parts_have a (values_of xs) (types_of os) ≡ true
    pub built : BuiltAll (types_in base) (values_of xs)
    pub seen : parts_viewed (parts_with (types_of os) a) (values_of xs) ≡ values_of xs

  parts_in : (H : Here) (os : List Operand) (xs : List Value) → AllGive tests right base subs loose H (asked_of tests right base subs loose os) xs → PartsIn H.present os xs
  parts_in H [] [] g = record { have = refl; built = tt; seen = refl }
  parts_in H [] (x ∷ xs) g = absurd g
  parts_in H (o ∷ os) [] g = absurd g
  parts_in H (o ∷ os) (x ∷ xs) g =
      let r = parts_in H os xs g.1 in
      record {
        have = and_true (has_type H.present x o.typed.ty) (parts_have H.present (values_of xs) (types_of os)) g.0.0 r.have;
        built = (g.0.1, r.built);
        seen = ap (λ y. value y (parts_viewed (parts_with (types_of os) H.present) (values_of xs))) g.0.2 ∙ ap (λ ys. value x ys) r.seen;
      }

  pub tuple_formed : (H : Here) (S : Typed) (span : Span) (es : List Expr) (c : Core) → tuple_rule span (map (found tests) es) H.scope ≡ Ok S → At tests base subs loose H c → Formed H S (ex.Tuple span es) c
  tuple_formed H S span es c h a =
      let s = bind_ok (operands (map (found tests) es) H.scope) _ S h in
      let U : Ty = tuple_of (types_of s.value) in
      let t = bind_ok (bounded span U) _ S s.then in
      let is = bounded_ok span U t.value t.first in
      let k = greater (greatest Pure (effects_of s.value)) Pure in
      let make : Note → Tree = λ n. tree.Tuple n (trees_of s.value) in
      formed H S (ex.Tuple span es) c span t.value k make (finish_is H.scope.class span (all_together Pure (effects_of s.value)) k t.value make S t.then) refl
      (subst (λ V. Same tests right base subs loose H (Out tests right base subs loose H V) (expr_node env (ex.Tuple span es) c) (tree_node program (tree.Tuple (note span t.value k) (trees_of s.value)) (erased c))) is
      (subst (λ ts. Same tests right base subs loose H (Out tests right base subs loose H U) (behind_all es c (λ xs. Good (tuple_with (values_of xs)))) (behind_all ts (erased c) (λ xs. Good (tuple_with (values_of xs))))) (sym (list_from (trees_in s.value)))
      (behind_all_same tests right base subs loose H U es (trees_in s.value) (asked_of tests right base subs loose s.value) c (λ xs. Good (tuple_with (values_of xs))) (λ xs. Good (tuple_with (values_of xs))) (operands_asked tests right base subs loose H.scope es s.value s.first) a
      (λ xs g. let p = parts_in H s.value xs g in (refl, (p.have, p.built, ap tuple_with p.seen))))))

  branch_same : (H : Here) (e : Expr) (S : Typed) (U : Ty) (c : Core) → typed tests e H.scope ≡ Ok S → At tests base subs loose H c → ((x : Value) → InType (types_in base) H.present x S.ty → InType (types_in base) H.present (stripped x) U) →
      Same tests right base subs loose H (Out tests right base subs loose H U) (branch_value stripped e c) (branch_value (stripping (holds_bits U)) S.tree (erased c))
  branch_same H e S U c h a k = operand tests right base subs loose H (Out tests right base subs loose H U) e S c (λ y c1. Ret (stripped y) c1) (λ y c1. Ret (stripping (holds_bits U) y) c1) h a (λ y c1 i a1. (refl, (stripping_is H.present U y (k y i).0, (k y i, a1))))

  chosen_same : {A B : Type 0} (H : Here) (Q : A → B → Core → Type 0) (b : Bool) (p q : Does A) (r s : Runs B) → Same tests right base subs loose H Q p r → Same tests right base subs loose H Q q s → Same tests right base subs loose H Q (choose b p q) (choose b r s)
  chosen_same H Q true p q r s k l = k
  chosen_same H Q false p q r s k l = l

  -- the types of both branches are well formed
  pub conditional_formed : (H : Here) (S : Typed) (span : Span) (e f g : Expr) (c : Core) → ((x : Expr) (T : Typed) → typed tests x H.scope ≡ Ok T → WellFormed (types_in base) T.ty) → conditional_rule tests span (found tests e) (found tests f) (found tests g) H.scope ≡ Ok S → At tests base subs loose H c → Formed H S (ex.Conditional span e f g) c
  conditional_formed H S span e f g c good h a =
      let C = bind_ok (typed tests e H.scope) _ S h in
      let F = bind_ok (typed tests f H.scope) _ S C.then in
      let G = bind_ok (typed tests g H.scope) _ S F.then in
      let b = then_ok (need (is_boolean C.value.ty) T05 (found tests e).span) _ S G.then in
      let u = bind_ok (found_or (join tests F.value.ty G.value.ty) (apart F.value.ty G.value.ty) span) _ S b.then in
      let j = found_ok (join tests F.value.ty G.value.ty) (apart F.value.ty G.value.ty) span u.value u.first in
      let s = good f F.value F.first in
      let t = good g G.value G.first in
      let ks = C.value.effect ∷ F.value.effect ∷ G.value.effect ∷ [] in
      let make : Note → Tree = λ n. tree.Conditional n C.value.tree F.value.tree G.value.tree in
      let U = bare u.value in
      let join_of = bare_join H.present tests right (types_in base) (well_declared base w) F.value.ty G.value.ty u.value in
      formed H S (ex.Conditional span e f g) c span U (greatest Pure ks) make (finish_is H.scope.class span (all_together Pure ks) (greatest Pure ks) U make S u.then) refl
      (operand tests right base subs loose H (Out tests right base subs loose H U) e C.value c (λ x c1. lift (truth span x) c1 (λ p. choose p (branch_value stripped f c1) (branch_value stripped g c1))) (λ x c1. lift (truth span x) c1 (λ p. choose p (branch_value (stripping (holds_bits U)) F.value.tree c1) (branch_value (stripping (holds_bits U)) G.value.tree c1))) C.first a
      (λ x c1 i a1. truth_same tests right base subs loose H (Out tests right base subs loose H U) span x C.value.ty c1 (λ p. choose p (branch_value stripped f c1) (branch_value stripped g c1)) (λ p. choose p (branch_value (stripping (holds_bits U)) F.value.tree (erased c1)) (branch_value (stripping (holds_bits U)) G.value.tree (erased c1))) (need_ok (is_boolean C.value.ty) T05 (found tests e).span tt b.first) i
      (λ p. chosen_same H (Out tests right base subs loose H U) p (branch_value stripped f c1) (branch_value stripped g c1) (branch_value (stripping (holds_bits U)) F.value.tree (erased c1)) (branch_value (stripping (holds_bits U)) G.value.tree (erased c1))
      (branch_same H f F.value U c1 F.first a1 (λ y v. join_of y s t v.1 j (inl v.0))) (branch_same H g G.value U c1 G.first a1 (λ y v. join_of y s t v.1 j (inr v.0))))))
