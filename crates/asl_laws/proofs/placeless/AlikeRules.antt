-- The rules of expressions and of written types give the same in two scopes, but for trees, where they do so for the parts and the
-- names that a node has stand for the same.
use Rattle.std.proofs.Common.{◌≡◌, ℕ, suc, Bool, false, cond, ◌&&◌, ◌||◌, List, [], ◌∷◌, ◌++◌, length, Option, Some, None, Ok, refl, sym, ap, ap₂, ◌∙◌, subst}
use Rattle.std.specs.Prelude.{Result, ◌==◌, nat_le, pos, ◌-ℤ◌}
use Rattle.asl_syn.specs.declared.token.Span.{Span}
use Rattle.asl_syn.specs.declared.code.Fault.{Fault}
use Rattle.asl_syn.specs.declared.code.StaticCode.TheVariants.{T02, T05, T08, T09, T11, T15, T16, T18, T19, T20, T23}
use Rattle.asl_syn.specs.declared.tree.Ident.{Ident}
use Rattle.asl_syn.specs.declared.tree.UnaryOperator.{UnaryOperator}
use Rattle.asl_syn.specs.declared.tree.UnaryOperator.TheVariants as unary
use Rattle.asl_syn.specs.declared.tree.BinaryOperator.{BinaryOperator}
use Rattle.asl_poly.specs.Terms.{Polynomial}
use Rattle.asl_poly.specs.Poly.{constant_value, constant_map}
use Rattle.asl_cons.specs.Arithmetic as cons
use Rattle.asl_rules.specs.declared.effect.Effect.{Effect}
use Rattle.asl_rules.specs.declared.effect.Effect.TheVariants.{Pure}
use Rattle.asl_rules.specs.Faults.{◌>>=◌, ◌>>◌, need, fault_of, found_or, fitted}
use Rattle.asl_rules.specs.Tests.{Tests}
use Rattle.asl_rules.specs.types.Types.{Ty, Parts, Widths, integer_of, boolean, no_part, part, tuple_of, kinds, misfit, substitute, tuple_parts, is_boolean, join, bits_wide, is_integer, is_bits, array_of, bits_of, width_of, same_kind, kinds_eq, bare}
use Rattle.asl_rules.specs.types.Effects.{together, greater, all_together, greatest}
use Rattle.asl_rules.specs.declarations.Routines.{Routine, routine_named}
use Rattle.asl_rules.specs.runs.Trees as tree
use Rattle.asl_rules.specs.runs.Trees.{Tree, Note, own}
use Rattle.asl_rules.specs.declarations.Scopes.{Entry, Scope, Signature, Param, Chosen, Standing, Stored, Subprogram, TypeName, Label, standing_of, storage_of, storage_in, type_of_name, type_in, is_subprogram, reading, choose}
use Rattle.asl_rules.specs.declarations.Layouts.{slot_of, layout_of}
use Rattle.asl_rules.specs.types.Widths.{Total, plus, minus, plus_number, totalled, width_of_standing, width_difference, width_combined, width_divided, number_of_standing, number_combined, number_divided, held, storage_has_atom, bounded, length_of}
use Rattle.asl_rules.specs.expressions.Typing.{Found, Typed, Width, Number, Operand, operand, operands, width_as, number_as, width_note, in_class, finish, finish_all, effects_of, types_of, trees_of, trees_from}
use Rattle.asl_rules.specs.expressions.Operations.{operation, operation_of_two, unary_rule, binary_rule, comparable}
use Rattle.asl_rules.specs.values.Members.{field_behind, bitfields_behind, bitfields_named, element_at, indexed, member_named, member_type, member_tree, construction, constructed, given_once, all_fit, places_given, texts_of, all_wide}
use Rattle.asl_rules.specs.expressions.Slicing.{FoundSlice, all_operands, all_integers, all_add, no_width, sliced_width, sliceable, slices_behind, slices_rule, shapes_of, bit_found, high_low_found, low_width_found, factor_width_found}
use Rattle.asl_rules.specs.types.Writing.{WrittenPart, FoundPart, WrittenEnd, WrittenField, FoundBitfield, Written, FoundType, written_as, range_of_widths, range_of_numbers, range_rule, one_width, one_number, only_rule, all_parts, parts_written, part_shapes, part_trees, field_shapes, field_trees, type_shapes, all_sizes, integer_written, integer_rule, most_parts, end_rule, one_bit_rule, bit_range_rule, all_fields, all_numbered, view_rule, within_limits, bits_written, bits_rule, name_written, named_written, types_in_order, types_written, tuple_written, array_written, array_rule, converted_to, as_rule, all_placed, names_once}
use Rattle.asl_rules.specs.expressions.Patterns.{FoundPattern, Matched, matched, all_match, as_many, parts_match, set_matched, mask_matched, end_matched, value_matched, range_matched, pure_typed, tuple_pattern_rule, matching, in_rule}
use Rattle.asl_rules.specs.expressions.Calls.{Giving, Replacing, given, replacing, written_first, argument_first, widths_given, polys, is_width_alone, given_by_argument, widths_omitted, widths_rule, replaced_by, fits_replaced, params_fit, arguments_fit, both_fit, call_begun, chosen, routine_taken, routine_called, function_called, function_of, function_rule, routine_params, routine_type, routine_formals, call_tree}
use Rattle.asl_rules.specs.expressions.Exprs.{FoundField, name_of_standing, name_rule, apart, conditional_of, conditional_rule, operation_rule, operation_rule_of_two, tuple_with, tuple_rule, values_given, names_given, construct_rule, field_rule, bitfields_rule, element_rule, name_read, width_of as width_read, number_of, combined_tree, divided_tree}
use Rattle.asl_rules.specs.declared.joining.Combination.{Combination}
use Rattle.asl_rules.specs.types.Arithmetic.{combined, divided}
use Rattle.asl_laws.proofs.basics.Lists.{AllOf}
use Rattle.asl_laws.proofs.placeless.Alike.{Alike, alike_ok, alike_err, alike_self, steps, step, after, alike_cond, Equal, Both, Same, in_class_alike, finish_alike, by_tree, SameOperands, operand_same, effects_same, types_same, finish_all_alike}
use Rattle.asl_rules.specs.types.Shapes as shape
use Rattle.asl_rules.specs.types.Shapes.{PatternShape, one_place, many_places, equal_to}
use Rattle.asl_cons.specs.declared.End.TheVariants.{Int}

-- ---- operands

integers_same : (os ps : List Operand) → SameOperands os ps → all_integers ps ≡ all_integers os
integers_same [] [] h = refl
integers_same [] (p ∷ ps) h = absurd h
integers_same (o ∷ os) [] h = absurd h
integers_same (o ∷ os) (p ∷ ps) h = ap₂ (λ a b. a && b) (ap (λ (z : Operand). is_integer z.typed.ty) h.0) (integers_same os ps h.1)

fit_same : (t : Tests) (os ps : List Operand) (Ts : List Ty) → SameOperands os ps → all_fit t ps Ts ≡ all_fit t os Ts
fit_same t [] [] Ts h = refl
fit_same t [] (p ∷ ps) Ts h = absurd h
fit_same t (o ∷ os) [] Ts h = absurd h
fit_same t (o ∷ os) (p ∷ ps) [] h = refl
fit_same t (o ∷ os) (p ∷ ps) (T ∷ Ts) h =
    ap₂ (λ (z : Operand) r. fitted (misfit t z.typed.ty T) z.span >> r) h.0 (fit_same t os ps Ts h.1)

append_same : (os ps qs rs : List Operand) → SameOperands os ps → SameOperands qs rs → SameOperands (os ++ qs) (ps ++ rs)
append_same [] [] qs rs h k = k
append_same [] (p ∷ ps) qs rs h k = absurd h
append_same (o ∷ os) [] qs rs h k = absurd h
append_same (o ∷ os) (p ∷ ps) qs rs h k = (h.0, append_same os ps qs rs h.1 k)

giving_same : (atom n : ℕ) (Ts : Parts) (os ps : List Operand) → SameOperands os ps → given_by_argument atom n Ts ps ≡ given_by_argument atom n Ts os
giving_same atom n no_part os ps h = refl
giving_same atom n (part T Ts) [] [] h = refl
giving_same atom n (part T Ts) [] (p ∷ ps) h = absurd h
giving_same atom n (part T Ts) (o ∷ os) [] h = absurd h
giving_same atom n (part T Ts) (o ∷ os) (p ∷ ps) h =
    ap (λ (z : Operand). given_by_argument atom n (part T Ts) (z ∷ ps)) h.0 ∙ ap (λ r. cond (is_width_alone atom T) (Some (record { place = n; given = given (width_of o.typed.ty) o.span })) r) (giving_same atom (suc n) Ts os ps h.1)

omitted_same : (span : Span) (qs : List Param) (Ts : Parts) (os ps : List Operand) → SameOperands os ps → widths_omitted span qs Ts ps ≡ widths_omitted span qs Ts os
omitted_same span [] Ts os ps h = refl
omitted_same span (q ∷ qs) Ts os ps h =
    ap₂ (λ o r. found_or o T11 span >>= λ (g : Giving). r >>= λ (s : Replacing). Ok (argument_first g.given g.place s)) (giving_same q.atom 0 Ts os ps h) (omitted_same span qs Ts os ps h)

arguments_same : (t : Tests) (span : Span) (by : Widths) (Ts : Parts) (os ps : List Operand) → SameOperands os ps → arguments_fit t span by Ts ps ≡ arguments_fit t span by Ts os
arguments_same t span by no_part os ps h = refl
arguments_same t span by (part T Ts) [] [] h = refl
arguments_same t span by (part T Ts) [] (p ∷ ps) h = absurd h
arguments_same t span by (part T Ts) (o ∷ os) [] h = absurd h
arguments_same t span by (part T Ts) (o ∷ os) (p ∷ ps) h =
    ap₂ (λ (z : Operand) r. fits_replaced t span by z.typed.ty T z.span >> r) h.0 (arguments_same t span by Ts os ps h.1)

-- ---- what else is the same but for trees

abbrev pub SameWidths : Width → Width → Type 0
SameWidths p q = q ≡ record p { tree = q.tree }

abbrev pub SameNumbers : Number → Number → Type 0
SameNumbers y z = z ≡ record y { tree = z.tree }

abbrev pub SameReplacing : Replacing → Replacing → Type 0
SameReplacing r s = s ≡ record r { trees = s.trees }

abbrev pub SameWritten : Written → Written → Type 0
SameWritten W V = V.ty ≡ W.ty

abbrev pub SamePart : WrittenPart → WrittenPart → Type 0
SamePart p q = q.part ≡ p.part

abbrev pub SameEnd : WrittenEnd → WrittenEnd → Type 0
SameEnd x y = y ≡ record x { tree = y.tree }

abbrev pub SameField : WrittenField → WrittenField → Type 0
SameField f g = g ≡ record f { high = record f.high { tree = g.high.tree }; low = record f.low { tree = g.low.tree }; shape = g.shape; trees = g.trees }

-- lists whose elements are in relation
abbrev pub Pairs : {X : Type 0} → (X → X → Type 0) → List X → List X → Type 0
Pairs R [] [] = Unit {0}
Pairs R [] (y ∷ ys) = ⊥
Pairs R (x ∷ xs) [] = ⊥
Pairs R (x ∷ xs) (y ∷ ys) = R x y × Pairs R xs ys

parts_same : (ps qs : List WrittenPart) → Pairs SamePart ps qs → parts_written qs ≡ parts_written ps
parts_same [] [] h = refl
parts_same [] (q ∷ qs) h = absurd h
parts_same (p ∷ ps) [] h = absurd h
parts_same (p ∷ ps) (q ∷ qs) h = ap₂ (λ x xs. x ∷ xs) h.0 (parts_same ps qs h.1)

lengths_same : (ps qs : List WrittenPart) → Pairs SamePart ps qs → length qs ≡ length ps
lengths_same [] [] h = refl
lengths_same [] (q ∷ qs) h = absurd h
lengths_same (p ∷ ps) [] h = absurd h
lengths_same (p ∷ ps) (q ∷ qs) h = ap suc (lengths_same ps qs h.1)

numbered_same : (fs gs : List WrittenField) → Pairs SameField fs gs → all_numbered gs ≡ all_numbered fs
numbered_same [] [] h = refl
numbered_same [] (g ∷ gs) h = absurd h
numbered_same (f ∷ fs) [] h = absurd h
numbered_same (f ∷ fs) (g ∷ gs) h =
    ap₂ (λ (z : WrittenField) r. found_or (constant_value z.high.width) T19 z.high.span >>= λ y. found_or (constant_value z.low.width) T19 z.low.span >>= λ l. r >>= λ rest. Ok (record { name = z.name; high = y; low = l } ∷ rest)) h.0 (numbered_same fs gs h.1)

view_same : (span : Span) (w : Polynomial) (fs gs : List WrittenField) → Pairs SameField fs gs → view_rule span w gs ≡ view_rule span w fs
view_same span w [] [] h = refl
view_same span w [] (g ∷ gs) h = absurd h
view_same span w (f ∷ fs) [] h = absurd h
view_same span w (f ∷ fs) (g ∷ gs) h = ap (λ r. r >>= λ ns. found_or (constant_value w) T16 span >>= λ z. all_placed span z ns >>= λ view. need (names_once view []) T15 span >> Ok view) (numbered_same (f ∷ fs) (g ∷ gs) h)

all_types_same : (Ws Vs : List Written) → Pairs SameWritten Ws Vs → types_written Vs ≡ types_written Ws
all_types_same [] [] h = refl
all_types_same [] (V ∷ Vs) h = absurd h
all_types_same (W ∷ Ws) [] h = absurd h
all_types_same (W ∷ Ws) (V ∷ Vs) h = ap₂ (λ T Ts. part T Ts) h.0 (all_types_same Ws Vs h.1)

-- ---- two scopes

module _ (t : Tests) (A B : List Entry) (subs : List Signature) where
  abbrev pub first : Effect → Scope
  first k = record { names = A; subs = subs; class = k }

  abbrev pub second : Effect → Scope
  second k = record { names = B; subs = subs; class = k }

  pub record TypedSame (e : Found) : Type 0 where
    pub typed_is : (k : Effect) → Alike Same (e.typed (first k)) (e.typed (second k))

  pub record WidthSame (e : Found) : Type 0 where
    pub width_is : (k : Effect) → Alike SameWidths (e.width (first k)) (e.width (second k))
    pub number_is : (k : Effect) → Alike SameNumbers (e.number (first k)) (e.number (second k))
    pub atom_is : (k : Effect) → e.has_atom (first k) ≡ e.has_atom (second k)

  pub record OperandsSame (s : FoundSlice) : Type 0 where
    pub operands_are : (k : Effect) → Alike SameOperands (s.operands (first k)) (s.operands (second k))

  pub record AddsSame (s : FoundSlice) : Type 0 where
    pub adds_is : (x : Total) (k : Effect) → Alike Equal (s.adds x (first k)) (s.adds x (second k))

  abbrev pub GivenSame : FoundField → Type 0
  GivenSame g = TypedSame g.value

  abbrev pub PartSame : FoundPart → Type 0
  PartSame p = (k : Effect) → Alike SamePart (p (first k)) (p (second k))

  abbrev pub BitfieldSame : FoundBitfield → Type 0
  BitfieldSame f = (k : Effect) → Alike SameField (f (first k)) (f (second k))

  pub record WrittenSame (w : FoundType) : Type 0 where
    pub ty_is : (outside : Bool) (k : Effect) → Alike SameWritten (w.ty outside (first k)) (w.ty outside (second k))

  abbrev pub PatternSame : FoundPattern → Type 0
  PatternSame p = (T : Ty) (k : Effect) → Alike Both (p T (first k)) (p T (second k))

  -- ---- several

  operands_alike : (es : List Found) → AllOf TypedSame es → (k : Effect) → Alike SameOperands (operands es (first k)) (operands es (second k))
  operands_alike [] h k = alike_ok SameOperands [] [] tt
  operands_alike (e ∷ es) h k =
      steps Same SameOperands (e.typed (first k)) (e.typed (second k)) _ _ (h.0.typed_is k) (λ S T i.
      steps SameOperands SameOperands (operands es (first k)) (operands es (second k)) _ _ (operands_alike es h.1 k) (λ os ps j.
      alike_ok SameOperands (operand e.span S ∷ os) (operand e.span T ∷ ps) (operand_same e.span S T i, j)))

  values_alike : (gs : List FoundField) → AllOf GivenSame gs → AllOf TypedSame (values_given gs)
  values_alike [] h = tt
  values_alike (g ∷ gs) h = (h.0, values_alike gs h.1)

  -- ---- names

  name_in : (span : Span) (name : List ℕ) (k : Effect) (o : Option Standing) → Alike Same (name_of_standing span name o (first k)) (name_of_standing span name o (second k))
  name_in span name k None = alike_err Same (fault_of T02 span)
  name_in span name k (Some (Stored s)) = in_class_alike k span (reading s) s.ty (λ n. tree.Read n (slot_of name (layout_of A))) (λ n. tree.Read n (slot_of name (layout_of B)))
  name_in span name k (Some Subprogram) = alike_err Same (fault_of T02 span)
  name_in span name k (Some (TypeName T)) = alike_err Same (fault_of T02 span)
  name_in span name k (Some (Label T x)) = in_class_alike k span Pure T (λ n. tree.Constant n x) (λ n. tree.Constant n x)

  pub name_alike : (span : Span) (name : List ℕ) (k : Effect) → standing_of name A ≡ standing_of name B → Alike Same (name_rule span name (first k)) (name_rule span name (second k))
  name_alike span name k e =
      subst (λ r. Alike Same (name_of_standing span name (standing_of name A) (first k)) r) (ap (λ o. name_of_standing span name o (second k)) e) (name_in span name k (standing_of name A))

  pub type_same : (n : List ℕ) → standing_of n A ≡ standing_of n B → type_of_name n A ≡ type_of_name n B
  type_same n e = ap type_in e

  -- ---- operations

  pub unary_alike : (span : Span) (o : UnaryOperator) (a : Found) (k : Effect) → TypedSame a → Alike Same (operation_rule span o a (first k)) (operation_rule span o a (second k))
  unary_alike span o a k h = steps Same Same (a.typed (first k)) (a.typed (second k)) (operation k span o) (operation k span o) (h.typed_is k) (by_tree Same (operation k span o) (operation k span o) (λ S u.
      step Same (unary_rule span o S.ty) _ _ (λ U. in_class_alike k span S.effect U (λ n. tree.Unary n o S.tree) (λ n. tree.Unary n o u))))

  pub binary_alike : (span : Span) (o : BinaryOperator) (a b : Found) (k : Effect) → TypedSame a → TypedSame b → Alike Same (operation_rule_of_two t span o a b (first k)) (operation_rule_of_two t span o a b (second k))
  binary_alike span o a b k h i =
      steps Same Same (a.typed (first k)) (a.typed (second k)) _ _ (h.typed_is k) (by_tree Same (λ S. b.typed (first k) >>= λ T. operation_of_two t k span o S T) (λ S. b.typed (second k) >>= λ T. operation_of_two t k span o S T) (λ S u.
      steps Same Same (b.typed (first k)) (b.typed (second k)) _ _ (i.typed_is k) (by_tree Same (λ T. operation_of_two t k span o S T) (λ T. operation_of_two t k span o (record S { tree = u }) T) (λ T v.
      step Same (binary_rule t span o S.ty T.ty) _ _ (λ U. finish_alike k span (together S.effect T.effect) (greater S.effect T.effect) U (λ n. tree.Binary n o S.tree T.tree) (λ n. tree.Binary n o u v))))))

  pub conditional_alike : (span : Span) (c a b : Found) (k : Effect) → TypedSame c → TypedSame a → TypedSame b → Alike Same (conditional_rule t span c a b (first k)) (conditional_rule t span c a b (second k))
  conditional_alike span c a b k h i j =
      steps Same Same (c.typed (first k)) (c.typed (second k)) _ _ (h.typed_is k) (by_tree Same (λ C. a.typed (first k) >>= λ S. b.typed (first k) >>= λ T. conditional_of t k span c.span C S T) (λ C. a.typed (second k) >>= λ S. b.typed (second k) >>= λ T. conditional_of t k span c.span C S T) (λ C u.
      steps Same Same (a.typed (first k)) (a.typed (second k)) _ _ (i.typed_is k) (by_tree Same (λ S. b.typed (first k) >>= λ T. conditional_of t k span c.span C S T) (λ S. b.typed (second k) >>= λ T. conditional_of t k span c.span (record C { tree = u }) S T) (λ S v.
      steps Same Same (b.typed (first k)) (b.typed (second k)) _ _ (j.typed_is k) (by_tree Same (λ T. conditional_of t k span c.span C S T) (λ T. conditional_of t k span c.span (record C { tree = u }) (record S { tree = v }) T) (λ T w.
      after Same (need (is_boolean C.ty) T05 c.span) _ _ (step Same (found_or (join t S.ty T.ty) (apart S.ty T.ty) span) _ _ (λ U.
      finish_alike k span (all_together Pure (C.effect ∷ S.effect ∷ T.effect ∷ [])) (greatest Pure (C.effect ∷ S.effect ∷ T.effect ∷ [])) (bare U) (λ n. tree.Conditional n C.tree S.tree T.tree) (λ n. tree.Conditional n u v w)))))))))

  -- ---- tuples, constructions

  pub tuple_alike : (span : Span) (es : List Found) (k : Effect) → AllOf TypedSame es → Alike Same (tuple_rule span es (first k)) (tuple_rule span es (second k))
  tuple_alike span es k h = steps SameOperands Same (operands es (first k)) (operands es (second k)) (tuple_with k span) (tuple_with k span) (operands_alike es h k) (λ os ps i.
      subst (λ Ts. Alike Same (tuple_with k span os) (bounded span (tuple_of Ts) >>= λ T. finish_all k span ps Pure T (λ n. tree.Tuple n (trees_of ps)))) (sym (types_same os ps i))
      (step Same (bounded span (tuple_of (types_of os))) _ _ (λ T. finish_all_alike k span os ps Pure T (λ n. tree.Tuple n (trees_of os)) (λ n. tree.Tuple n (trees_of ps)) i)))

  construction_alike : (span : Span) (i : Ident) (o : Option Ty) (is : List Ident) (k : Effect) (os ps : List Operand) → SameOperands os ps → Alike Same (construction t k span i o is os) (construction t k span i o is ps)
  construction_alike span i o is k os ps h =
      step Same (constructed i o) _ _ (λ c.
      step Same (given_once is [] c.fields) _ _ (λ Ts.
      subst (λ r. Alike Same (all_fit t os Ts >> (found_or (places_given c.fields (texts_of is)) T15 span >>= λ gs. finish_all k span os Pure c.ty (λ n. tree.Construct n c.shell gs (trees_of os)))) (r >> (found_or (places_given c.fields (texts_of is)) T15 span >>= λ gs. finish_all k span ps Pure c.ty (λ n. tree.Construct n c.shell gs (trees_of ps))))) (sym (fit_same t os ps Ts h))
      (after Same (all_fit t os Ts) _ _ (step Same (found_or (places_given c.fields (texts_of is)) T15 span) _ _ (λ gs.
      finish_all_alike k span os ps Pure c.ty (λ n. tree.Construct n c.shell gs (trees_of os)) (λ n. tree.Construct n c.shell gs (trees_of ps)) h)))))

  pub construct_alike : (span : Span) (i : Ident) (gs : List FoundField) (k : Effect) → standing_of i.text A ≡ standing_of i.text B → AllOf GivenSame gs → Alike Same (construct_rule t span i gs (first k)) (construct_rule t span i gs (second k))
  construct_alike span i gs k e h =
      steps SameOperands Same (operands (values_given gs) (first k)) (operands (values_given gs) (second k)) _ _ (operands_alike (values_given gs) (values_alike gs h) k) (λ os ps j.
      subst (λ o. Alike Same (construction t k span i (type_of_name i.text A) (names_given gs) os) (construction t k span i o (names_given gs) ps)) (type_same i.text e) (construction_alike span i (type_of_name i.text A) (names_given gs) k os ps j))

  -- ---- parts

  pub field_alike : (span : Span) (a : Found) (i : Ident) (k : Effect) → TypedSame a → Alike Same (field_rule span a i (first k)) (field_rule span a i (second k))
  field_alike span a i k h = steps Same Same (a.typed (first k)) (a.typed (second k)) (field_behind k span i) (field_behind k span i) (h.typed_is k) (by_tree Same (field_behind k span i) (field_behind k span i) (λ S u.
      step Same (member_named i S.ty) _ _ (λ m. in_class_alike k span S.effect (member_type m) (member_tree S.tree m) (member_tree u m))))

  pub bitfields_alike : (span : Span) (a : Found) (is : List Ident) (k : Effect) → TypedSame a → Alike Same (bitfields_rule span a is (first k)) (bitfields_rule span a is (second k))
  bitfields_alike span a is k h = steps Same Same (a.typed (first k)) (a.typed (second k)) (bitfields_behind k span is) (bitfields_behind k span is) (h.typed_is k) (by_tree Same (bitfields_behind k span is) (bitfields_behind k span is) (λ S u.
      step Same (bitfields_named span is S.ty) _ _ (λ fs. in_class_alike k span S.effect (bits_wide (all_wide fs)) (λ n. tree.Bitfields n S.tree fs) (λ n. tree.Bitfields n u fs))))

  pub element_alike : (span : Span) (a i : Found) (k : Effect) → TypedSame a → TypedSame i → Alike Same (element_rule span a i (first k)) (element_rule span a i (second k))
  element_alike span a i k h j =
      steps Same Same (a.typed (first k)) (a.typed (second k)) _ _ (h.typed_is k) (by_tree Same (λ S. i.typed (first k) >>= λ I. element_at k span S I) (λ S. i.typed (second k) >>= λ I. element_at k span S I) (λ S u.
      steps Same Same (i.typed (first k)) (i.typed (second k)) _ _ (j.typed_is k) (by_tree Same (λ I. element_at k span S I) (λ I. element_at k span (record S { tree = u }) I) (λ I v.
      step Same (indexed span S.ty I.ty) _ _ (λ T. finish_alike k span (together S.effect I.effect) (greater S.effect I.effect) T (λ n. tree.Element n S.tree I.tree) (λ n. tree.Element n u v))))))

  -- ---- widths

  with_poly : {Y : Type 0} (R : Y → Y → Type 0) (f g : Width → Result Y Fault) → ((p : Width) (u : Tree) → Alike R (f p) (g (record p { tree = u }))) → (p q : Width) → SameWidths p q → Alike R (f p) (g q)
  with_poly R f g h p q i = subst (λ z. Alike R (f p) (g z)) (sym i) (h p q.tree)

  with_number : {Y : Type 0} (R : Y → Y → Type 0) (f g : Number → Result Y Fault) → ((y : Number) (u : Tree) → Alike R (f y) (g (record y { tree = u }))) → (y z : Number) → SameNumbers y z → Alike R (f y) (g z)
  with_number R f g h y z i = subst (λ x. Alike R (f y) (g x)) (sym i) (h y z.tree)

  pub name_width : (span : Span) (name : List ℕ) (k : Effect) → standing_of name A ≡ standing_of name B →
      Alike SameWidths (width_of_standing span (standing_of name A) >>= λ p. Ok (width_as p (name_read span name (first k)))) (width_of_standing span (standing_of name B) >>= λ p. Ok (width_as p (name_read span name (second k))))
  name_width span name k e =
      subst (λ r. Alike SameWidths (width_of_standing span (standing_of name A) >>= λ p. Ok (width_as p (name_read span name (first k)))) (r >>= λ p. Ok (width_as p (name_read span name (second k))))) (ap (width_of_standing span) e)
      (step SameWidths (width_of_standing span (standing_of name A)) _ _ (λ p. alike_ok SameWidths (width_as p (name_read span name (first k))) (width_as p (name_read span name (second k))) refl))

  pub name_number : (span : Span) (name : List ℕ) (k : Effect) → standing_of name A ≡ standing_of name B →
      Alike SameNumbers (number_of_standing span (standing_of name A) >>= λ z. Ok (number_as z (name_read span name (first k)))) (number_of_standing span (standing_of name B) >>= λ z. Ok (number_as z (name_read span name (second k))))
  name_number span name k e =
      subst (λ r. Alike SameNumbers (number_of_standing span (standing_of name A) >>= λ z. Ok (number_as z (name_read span name (first k)))) (r >>= λ z. Ok (number_as z (name_read span name (second k))))) (ap (number_of_standing span) e)
      (step SameNumbers (number_of_standing span (standing_of name A)) _ _ (λ z. alike_ok SameNumbers (number_as z (name_read span name (first k))) (number_as z (name_read span name (second k))) refl))

  pub name_atom : (name : List ℕ) → standing_of name A ≡ standing_of name B → storage_has_atom (storage_of name A) ≡ storage_has_atom (storage_of name B)
  name_atom name e = ap (λ o. storage_has_atom (storage_in o)) e

  pub negated_width : (span : Span) (a : Found) (k : Effect) → WidthSame a →
      Alike SameWidths (a.width (first k) >>= λ p. width_difference span (constant_map (pos 0)) p.poly >>= λ r. Ok (width_as r (tree.Unary (width_note span) unary.Negate p.tree)))
      (a.width (second k) >>= λ p. width_difference span (constant_map (pos 0)) p.poly >>= λ r. Ok (width_as r (tree.Unary (width_note span) unary.Negate p.tree)))
  negated_width span a k h =
      steps SameWidths SameWidths (a.width (first k)) (a.width (second k)) _ _ (h.width_is k) (with_poly SameWidths
      (λ p. width_difference span (constant_map (pos 0)) p.poly >>= λ r. Ok (width_as r (tree.Unary (width_note span) unary.Negate p.tree)))
      (λ p. width_difference span (constant_map (pos 0)) p.poly >>= λ r. Ok (width_as r (tree.Unary (width_note span) unary.Negate p.tree)))
      (λ p u. step SameWidths (width_difference span (constant_map (pos 0)) p.poly) _ _ (λ r. alike_ok SameWidths (width_as r (tree.Unary (width_note span) unary.Negate p.tree)) (width_as r (tree.Unary (width_note span) unary.Negate u)) refl)))

  pub negated_number : (span : Span) (a : Found) (k : Effect) → WidthSame a →
      Alike SameNumbers (a.number (first k) >>= λ z. held span (pos 0 -ℤ z.number) >>= λ n. Ok (number_as n (tree.Unary (width_note span) unary.Negate z.tree)))
      (a.number (second k) >>= λ z. held span (pos 0 -ℤ z.number) >>= λ n. Ok (number_as n (tree.Unary (width_note span) unary.Negate z.tree)))
  negated_number span a k h =
      steps SameNumbers SameNumbers (a.number (first k)) (a.number (second k)) _ _ (h.number_is k) (with_number SameNumbers
      (λ z. held span (pos 0 -ℤ z.number) >>= λ n. Ok (number_as n (tree.Unary (width_note span) unary.Negate z.tree)))
      (λ z. held span (pos 0 -ℤ z.number) >>= λ n. Ok (number_as n (tree.Unary (width_note span) unary.Negate z.tree)))
      (λ z u. step SameNumbers (held span (pos 0 -ℤ z.number)) _ _ (λ n. alike_ok SameNumbers (number_as n (tree.Unary (width_note span) unary.Negate z.tree)) (number_as n (tree.Unary (width_note span) unary.Negate u)) refl)))

  pub combined_width : (span : Span) (o : Combination) (a b : Found) (k : Effect) → WidthSame a → WidthSame b →
      Alike SameWidths (width_read span (combined o a b) (first k)) (width_read span (combined o a b) (second k))
  combined_width span o a b k h i =
      let made : Width → Width → Result Width Fault =
      λ p q. width_combined span o p.poly q.poly >>= λ r. Ok (width_as r (combined_tree span o p.tree q.tree)) in
      steps SameWidths SameWidths (a.width (first k)) (a.width (second k)) _ _ (h.width_is k)
      (with_poly SameWidths (λ p. b.width (first k) >>= λ q. made p q) (λ p. b.width (second k) >>= λ q. made p q) (λ p u.
      steps SameWidths SameWidths (b.width (first k)) (b.width (second k)) _ _ (i.width_is k)
      (with_poly SameWidths (λ q. made p q) (λ q. made (record p { tree = u }) q) (λ q v.
      step SameWidths (width_combined span o p.poly q.poly) _ _
      (λ r. alike_ok SameWidths (width_as r (combined_tree span o p.tree q.tree)) (width_as r (combined_tree span o u v)) refl)))))

  pub combined_number : (span : Span) (o : Combination) (a b : Found) (k : Effect) → WidthSame a → WidthSame b →
      Alike SameNumbers (number_of span (combined o a b) (first k)) (number_of span (combined o a b) (second k))
  combined_number span o a b k h i =
      let made : Number → Number → Result Number Fault =
      λ y z. number_combined span o y.number z.number >>= λ n. Ok (number_as n (combined_tree span o y.tree z.tree)) in
      steps SameNumbers SameNumbers (a.number (first k)) (a.number (second k)) _ _ (h.number_is k)
      (with_number SameNumbers (λ y. b.number (first k) >>= λ z. made y z) (λ y. b.number (second k) >>= λ z. made y z) (λ y u.
      steps SameNumbers SameNumbers (b.number (first k)) (b.number (second k)) _ _ (i.number_is k)
      (with_number SameNumbers (λ z. made y z) (λ z. made (record y { tree = u }) z) (λ z v.
      step SameNumbers (number_combined span o y.number z.number) _ _
      (λ n. alike_ok SameNumbers (number_as n (combined_tree span o y.tree z.tree)) (number_as n (combined_tree span o u v)) refl)))))

  -- a divisor is the same in every scope
  pub divided_width : (span : Span) (a b : Found) (k : Effect) → WidthSame a →
      Alike SameWidths (width_read span (divided a b) (first k)) (width_read span (divided a b) (second k))
  divided_width span a b k h =
      let made : Width → Result Width Fault =
      λ p. found_or b.divisor T19 span >>= λ n. width_divided span p.poly n >>= λ r. Ok
      (width_as r (divided_tree span p.tree b.span n)) in
      steps SameWidths SameWidths (a.width (first k)) (a.width (second k)) _ _ (h.width_is k) (with_poly SameWidths made made (λ p u.
      step SameWidths (found_or b.divisor T19 span) _ _ (λ n.
      step SameWidths (width_divided span p.poly n) _ _
      (λ r. alike_ok SameWidths (width_as r (divided_tree span p.tree b.span n)) (width_as r (divided_tree span u b.span n)) refl))))

  pub divided_number : (span : Span) (a b : Found) (k : Effect) → WidthSame a →
      Alike SameNumbers (number_of span (divided a b) (first k)) (number_of span (divided a b) (second k))
  divided_number span a b k h =
      let made : Number → Result Number Fault =
      λ z. found_or b.divisor T19 span >>= λ n. number_divided span z.number n >>= λ m. Ok
      (number_as m (divided_tree span z.tree b.span n)) in
      steps SameNumbers SameNumbers (a.number (first k)) (a.number (second k)) _ _ (h.number_is k)
      (with_number SameNumbers made made (λ z u.
      step SameNumbers (found_or b.divisor T19 span) _ _ (λ n.
      step SameNumbers (number_divided span z.number n) _ _
      (λ m. alike_ok SameNumbers (number_as m (divided_tree span z.tree b.span n)) (number_as m (divided_tree span u b.span n)) refl))))

  -- ---- calls

  widths_alike : (es : List Found) → AllOf WidthSame es → (k : Effect) → Alike SameReplacing (widths_given es (first k)) (widths_given es (second k))
  widths_alike [] h k = alike_ok SameReplacing (replacing [] [] []) (replacing [] [] []) refl
  widths_alike (e ∷ es) h k =
      steps SameWidths SameReplacing (e.width (first k)) (e.width (second k)) _ _ (h.0.width_is k) (with_poly SameReplacing
      (λ w. widths_given es (first k) >>= λ r. Ok (written_first (given w.poly e.span) w.tree r))
      (λ w. widths_given es (second k) >>= λ r. Ok (written_first (given w.poly e.span) w.tree r))
      (λ w u. steps SameReplacing SameReplacing (widths_given es (first k)) (widths_given es (second k)) _ _ (widths_alike es h.1 k) (λ r s i.
      alike_ok SameReplacing (written_first (given w.poly e.span) w.tree r) (written_first (given w.poly e.span) u s) (ap (written_first (given w.poly e.span) u) i))))

  -- what follows what stands for parameters doesn't ask for its trees
  with_given : {Y : Type 0} (R : Y → Y → Type 0) (f g : Replacing → Result Y Fault) → ((r : Replacing) (us : List Tree) → Alike R (f r) (g (record r { trees = us }))) → (r s : Replacing) → SameReplacing r s → Alike R (f r) (g s)
  with_given R f g h r s i = subst (λ z. Alike R (f r) (g z)) (sym i) (h r s.trees)

  routine_alike : (span : Span) (r : Routine) (w : Replacing) (us : List Tree) (k : Effect) (os ps : List Operand) → SameOperands os ps → Alike Same (routine_called k span r w os) (routine_called k span r (record w { trees = us }) ps)
  routine_alike span r w us k os ps h =
      subst (λ Ts. Alike Same (routine_called k span r w os) (finish_all k span ps Pure (routine_type r (polys w.given) Ts) (call_tree (tree.of_library r) (record w { trees = us }) ps))) (sym (types_same os ps h))
      (finish_all_alike k span os ps Pure (routine_type r (polys w.given) (types_of os)) (call_tree (tree.of_library r) w os) (call_tree (tree.of_library r) (record w { trees = us }) ps) h)

  called_alike : (span : Span) (f : Chosen) (T : Ty) (w : Replacing) (us : List Tree) (k : Effect) (os ps : List Operand) → SameOperands os ps → Alike Same (function_called t k span f T w os) (function_called t k span f T (record w { trees = us }) ps)
  called_alike span f T w us k os ps h =
      let by = replaced_by f.signature.params w.given in
      subst (λ r. Alike Same (function_called t k span f T w os)
      ((params_fit t span by f.signature.params w.given >> r) >> (found_or (substitute by T) T20 span >>= λ U. finish_all k span ps f.signature.class U (call_tree (own f.number) (record w { trees = us }) ps))))
      (sym (arguments_same t span by f.signature.formals os ps h))
      (after Same (both_fit t span f.signature w.given os by) _ _ (step Same (found_or (substitute by T) T20 span) _ _ (λ U.
      finish_all_alike k span os ps f.signature.class U (call_tree (own f.number) w os) (call_tree (own f.number) (record w { trees = us }) ps) h)))

  replacing_self : (r : Replacing) → SameReplacing r r
  replacing_self r = refl

  rule_alike : (span : Span) (f : Signature) (ps : List Found) (os us : List Operand) (k : Effect) → AllOf WidthSame ps → SameOperands os us → Alike SameReplacing (widths_rule span f ps os (first k)) (widths_rule span f ps us (second k))
  rule_alike span f [] os us k h i =
      subst (λ r. Alike SameReplacing (widths_omitted span f.params f.formals os) r) (sym (omitted_same span f.params f.formals os us i)) (alike_self SameReplacing replacing_self (widths_omitted span f.params f.formals os))
  rule_alike span f (e ∷ es) os us k h i = after SameReplacing (need (length (e ∷ es) == length f.params) T11 span) _ _ (widths_alike (e ∷ es) h k)

  function_alike : (span : Span) (i : Ident) (ps : List Found) (os us : List Operand) (k : Effect) (o : Option Routine) → AllOf WidthSame ps → SameOperands os us → Alike Same (function_of t span i ps os (first k) o) (function_of t span i ps us (second k) o)
  function_alike span i ps os us k (Some r) h j =
      subst (λ Ts. Alike Same (function_of t span i ps os (first k) (Some r)) (need (kinds_eq (routine_formals r) (kinds Ts)) T09 span >> (need (length ps == routine_params r) T11 span >> (widths_given ps (second k) >>= λ w. routine_called k span r w us)))) (sym (types_same os us j))
      (after Same (routine_taken span r os) _ _ (after Same (need (length ps == routine_params r) T11 span) _ _
      (steps SameReplacing Same (widths_given ps (first k)) (widths_given ps (second k)) _ _ (widths_alike ps h k) (with_given Same (λ w. routine_called k span r w os) (λ w. routine_called k span r w us) (λ w vs. routine_alike span r w vs k os us j)))))
  function_alike span i ps os us k None h j =
      subst (λ Ts. Alike Same (function_of t span i ps os (first k) None) (found_or (choose i.text Ts subs) T09 span >>= λ f. found_or f.signature.result T18 span >>= λ T. widths_rule span f.signature ps us (second k) >>= λ w. function_called t k span f T w us)) (sym (types_same os us j))
      (step Same (chosen span i os subs) _ _ (λ f. step Same (found_or f.signature.result T18 span) _ _ (λ T.
      steps SameReplacing Same (widths_rule span f.signature ps os (first k)) (widths_rule span f.signature ps us (second k)) _ _ (rule_alike span f.signature ps os us k h j)
      (with_given Same (λ w. function_called t k span f T w os) (λ w. function_called t k span f T w us) (λ w vs. called_alike span f T w vs k os us j)))))

  pub call_alike : (span : Span) (i : Ident) (ps es : List Found) (k : Effect) → standing_of i.text A ≡ standing_of i.text B → AllOf WidthSame ps → AllOf TypedSame es → Alike Same (function_rule t span i ps es (first k)) (function_rule t span i ps es (second k))
  call_alike span i ps es k e h j =
      steps SameOperands Same (call_begun i es (first k)) (call_begun i es (second k)) _ _
      (steps SameOperands SameOperands (operands es (first k)) (operands es (second k)) _ _ (operands_alike es j k) (λ os us m.
      subst (λ o. Alike SameOperands (need (is_subprogram (standing_of i.text A)) T02 i.span >> Ok os) (need (is_subprogram o) T02 i.span >> Ok us)) e
      (after SameOperands (need (is_subprogram (standing_of i.text A)) T02 i.span) (Ok os) (Ok us) (alike_ok SameOperands os us m))))
      (λ os us m. function_alike span i ps os us k (routine_named i.text) h m)

  -- ---- slices

  pub bit_operands : (e : Found) → TypedSame e → OperandsSame (bit_found e)
  bit_operands e h = record { operands_are = operands_alike (e ∷ []) (h, tt) }

  pub bit_adds : (e : Found) → AddsSame (bit_found e)
  bit_adds e = record { adds_is = λ x k. alike_ok Equal (plus_number x 1) (plus_number x 1) refl }

  pub high_low_operands : (a b : Found) → TypedSame a → TypedSame b → OperandsSame (high_low_found a b)
  high_low_operands a b h i = record { operands_are = operands_alike (a ∷ b ∷ []) (h, (i, tt)) }

  pub high_low_adds : (a b : Found) → WidthSame a → WidthSame b → AddsSame (high_low_found a b)
  high_low_adds a b h i = record {
    adds_is = λ x k.
        steps SameWidths Equal (a.width (first k)) (a.width (second k)) _ _ (h.width_is k) (with_poly Equal (λ p. b.width (first k) >>= λ q. Ok (plus_number (minus (plus x p.poly) q.poly) 1)) (λ p. b.width (second k) >>= λ q. Ok (plus_number (minus (plus x p.poly) q.poly) 1)) (λ p u.
        steps SameWidths Equal (b.width (first k)) (b.width (second k)) _ _ (i.width_is k) (with_poly Equal (λ q. Ok (plus_number (minus (plus x p.poly) q.poly) 1)) (λ q. Ok (plus_number (minus (plus x p.poly) q.poly) 1)) (λ q v.
        alike_ok Equal (plus_number (minus (plus x p.poly) q.poly) 1) (plus_number (minus (plus x p.poly) q.poly) 1) refl))));
  }

  second_adds : (b : Found) → WidthSame b → (x : Total) (k : Effect) → Alike Equal (b.width (first k) >>= λ p. Ok (plus x p.poly)) (b.width (second k) >>= λ p. Ok (plus x p.poly))
  second_adds b i x k = steps SameWidths Equal (b.width (first k)) (b.width (second k)) _ _ (i.width_is k) (with_poly Equal (λ p. Ok (plus x p.poly)) (λ p. Ok (plus x p.poly)) (λ p u. alike_ok Equal (plus x p.poly) (plus x p.poly) refl))

  pub low_width_operands : (a b : Found) → TypedSame a → TypedSame b → OperandsSame (low_width_found a b)
  low_width_operands a b h i = record { operands_are = operands_alike (a ∷ b ∷ []) (h, (i, tt)) }

  pub low_width_adds : (a b : Found) → WidthSame b → AddsSame (low_width_found a b)
  low_width_adds a b i = record { adds_is = second_adds b i }

  pub factor_width_operands : (a b : Found) → TypedSame a → TypedSame b → OperandsSame (factor_width_found a b)
  factor_width_operands a b h i = record { operands_are = operands_alike (a ∷ b ∷ []) (h, (i, tt)) }

  pub factor_width_adds : (a b : Found) → WidthSame b → AddsSame (factor_width_found a b)
  factor_width_adds a b i = record { adds_is = second_adds b i }

  all_operands_alike : (ss : List FoundSlice) → AllOf OperandsSame ss → (k : Effect) → Alike SameOperands (all_operands ss (first k)) (all_operands ss (second k))
  all_operands_alike [] h k = alike_ok SameOperands [] [] tt
  all_operands_alike (s ∷ ss) h k =
      steps SameOperands SameOperands (s.operands (first k)) (s.operands (second k)) _ _ (h.0.operands_are k) (λ os ps i.
      steps SameOperands SameOperands (all_operands ss (first k)) (all_operands ss (second k)) _ _ (all_operands_alike ss h.1 k) (λ qs rs j.
      alike_ok SameOperands (os ++ qs) (ps ++ rs) (append_same os ps qs rs i j)))

  all_add_alike : (ss : List FoundSlice) → AllOf AddsSame ss → (x : Total) (k : Effect) → Alike Equal (all_add ss x (first k)) (all_add ss x (second k))
  all_add_alike [] h x k = alike_ok Equal x x refl
  all_add_alike (s ∷ ss) h x k =
      steps Equal Equal (s.adds x (first k)) (s.adds x (second k)) _ _ (h.0.adds_is x k) (λ y z e.
      subst (λ w. Alike Equal (all_add ss y (first k)) (all_add ss w (second k))) (sym e) (all_add_alike ss h.1 y k))

  sliced_alike : (span : Span) (ss : List FoundSlice) → AllOf AddsSame ss → (k : Effect) → Alike Equal (sliced_width span ss (first k)) (sliced_width span ss (second k))
  sliced_alike span ss h k =
      steps Equal Equal (all_add ss no_width (first k)) (all_add ss no_width (second k)) _ _ (all_add_alike ss h no_width k) (λ y z e.
      subst (λ w. Alike Equal (totalled span y) (totalled span w)) (sym e) (alike_self Equal (λ x. refl) (totalled span y)))

  slices_behind_alike : (span : Span) (ss : List FoundSlice) (k : Effect) (S : Typed) (u : Tree) (os ps : List Operand) (w : Polynomial) → SameOperands os ps → Alike Same (slices_behind k span S (shapes_of ss) os w) (slices_behind k span (record S { tree = u }) (shapes_of ss) ps w)
  slices_behind_alike span ss k S u os ps w h =
      subst (λ ks. Alike Same (slices_behind k span S (shapes_of ss) os w) (finish k span (all_together Pure (S.effect ∷ ks)) (greatest Pure (S.effect ∷ ks)) (bits_of w []) (λ n. tree.Slices n u (shapes_of ss) (trees_of ps)))) (sym (effects_same os ps h))
      (finish_alike k span (all_together Pure (S.effect ∷ effects_of os)) (greatest Pure (S.effect ∷ effects_of os)) (bits_of w []) (λ n. tree.Slices n S.tree (shapes_of ss) (trees_of os)) (λ n. tree.Slices n u (shapes_of ss) (trees_of ps)))

  pub slices_alike : (span : Span) (a : Found) (ss : List FoundSlice) (k : Effect) → TypedSame a → AllOf OperandsSame ss → AllOf AddsSame ss → Alike Same (slices_rule span a ss (first k)) (slices_rule span a ss (second k))
  slices_alike span a ss k h i l =
      steps Same Same (a.typed (first k)) (a.typed (second k)) _ _ (h.typed_is k) (by_tree Same
      (λ S. all_operands ss (first k) >>= λ os. sliceable span S.ty os >> (sliced_width span ss (first k) >>= λ w. slices_behind k span S (shapes_of ss) os w))
      (λ S. all_operands ss (second k) >>= λ os. sliceable span S.ty os >> (sliced_width span ss (second k) >>= λ w. slices_behind k span S (shapes_of ss) os w))
      (λ S u. steps SameOperands Same (all_operands ss (first k)) (all_operands ss (second k)) _ _ (all_operands_alike ss i k) (λ os ps j.
      subst (λ b. Alike Same (sliceable span S.ty os >> (sliced_width span ss (first k) >>= λ w. slices_behind k span S (shapes_of ss) os w)) (need ((is_bits S.ty || is_integer S.ty) && b) T08 span >> (sliced_width span ss (second k) >>= λ w. slices_behind k span (record S { tree = u }) (shapes_of ss) ps w))) (sym (integers_same os ps j))
      (after Same (sliceable span S.ty os) _ _ (steps Equal Same (sliced_width span ss (first k)) (sliced_width span ss (second k)) _ _ (sliced_alike span ss l k) (λ w v e.
      subst (λ z. Alike Same (slices_behind k span S (shapes_of ss) os w) (slices_behind k span (record S { tree = u }) (shapes_of ss) ps z)) (sym e) (slices_behind_alike span ss k S u os ps w j)))))))

  -- ---- patterns

  any_alike : (r : Result Matched Fault) → Alike Both r r
  any_alike r = alike_self Both (λ x. tt) r

  both_alike : (r : Result (Unit {0}) Fault) (m n : Matched) → Alike Both (r >> Ok m) (r >> Ok n)
  both_alike r m n = after Both r (Ok m) (Ok n) (alike_ok Both m n tt)

  pub all_match_alike : (ps : List FoundPattern) (T : Ty) (k : Effect) → AllOf PatternSame ps → Alike Both (all_match ps T (first k)) (all_match ps T (second k))
  all_match_alike [] T k h = alike_ok Both [] [] tt
  all_match_alike (p ∷ ps) T k h =
      steps Both Both (p T (first k)) (p T (second k)) _ _ (h.0 T k) (λ m n i. steps Both Both (all_match ps T (first k)) (all_match ps T (second k)) _ _ (all_match_alike ps T k h.1) (λ ms ns j. alike_ok Both (m ∷ ms) (n ∷ ns) tt))

  parts_match_alike : (ps : List FoundPattern) (Ts : Parts) (k : Effect) → AllOf PatternSame ps → Alike Both (parts_match ps Ts (first k)) (parts_match ps Ts (second k))
  parts_match_alike [] no_part k h = alike_ok Both [] [] tt
  parts_match_alike [] (part T Ts) k h = alike_ok Both [] [] tt
  parts_match_alike (p ∷ ps) no_part k h = alike_ok Both [] [] tt
  parts_match_alike (p ∷ ps) (part T Ts) k h =
      steps Both Both (p T (first k)) (p T (second k)) _ _ (h.0 T k) (λ m n i. steps Both Both (parts_match ps Ts (first k)) (parts_match ps Ts (second k)) _ _ (parts_match_alike ps Ts k h.1) (λ ms ns j. alike_ok Both (m ∷ ms) (n ∷ ns) tt))

  pub set_alike : (b : Bool) (ps : List FoundPattern) (T : Ty) (k : Effect) → AllOf PatternSame ps → Alike Both (all_match ps T (first k) >>= λ ms. Ok (set_matched b ms)) (all_match ps T (second k) >>= λ ms. Ok (set_matched b ms))
  set_alike b ps T k h = steps Both Both (all_match ps T (first k)) (all_match ps T (second k)) _ _ (all_match_alike ps T k h) (λ ms ns j. alike_ok Both (set_matched b ms) (set_matched b ns) tt)

  pub tuple_pattern_alike : (span : Span) (ps : List FoundPattern) (T : Ty) (k : Effect) → AllOf PatternSame ps → Alike Both (tuple_pattern_rule span ps T (first k)) (tuple_pattern_rule span ps T (second k))
  tuple_pattern_alike span ps T k h =
      step Both (found_or (tuple_parts T) T23 span) _ _ (λ Ts.
      after Both (need (as_many ps Ts) T23 span) _ _ (steps Both Both (parts_match ps Ts (first k)) (parts_match ps Ts (second k)) _ _ (parts_match_alike ps Ts k h) (λ ms ns j. alike_ok Both _ _ tt)))

  pub mask_alike : (span : Span) (digits : List (Option Bool)) (T : Ty) → Alike Both (mask_matched t span digits T) (mask_matched t span digits T)
  mask_alike span digits T = any_alike (mask_matched t span digits T)

  pub end_alike : (span : Span) (s : PatternShape) (T : Ty) (e : Found) (k : Effect) → TypedSame e → Alike Both (pure_typed e (first k) >>= λ S. end_matched span s T S) (pure_typed e (second k) >>= λ S. end_matched span s T S)
  end_alike span s T e k h =
      steps Same Both (e.typed (first Pure)) (e.typed (second Pure)) (end_matched span s T) (end_matched span s T) (h.typed_is Pure) (by_tree Both (end_matched span s T) (end_matched span s T) (λ S u.
      both_alike (need (is_integer T && is_integer S.ty) T23 span) (matched s (S.tree ∷ [])) (matched s (u ∷ []))))

  pub value_alike : (span : Span) (T : Ty) (e : Found) (k : Effect) → TypedSame e → Alike Both (pure_typed e (first k) >>= λ S. value_matched t span T S) (pure_typed e (second k) >>= λ S. value_matched t span T S)
  value_alike span T e k h =
      steps Same Both (e.typed (first Pure)) (e.typed (second Pure)) (value_matched t span T) (value_matched t span T) (h.typed_is Pure) (by_tree Both (value_matched t span T) (value_matched t span T) (λ S u.
      both_alike (comparable t T23 span T S.ty) (matched (equal_to span) (S.tree ∷ [])) (matched (equal_to span) (u ∷ []))))

  pub range_alike : (span : Span) (T : Ty) (a b : Found) (k : Effect) → TypedSame a → TypedSame b →
      Alike Both (pure_typed a (first k) >>= λ S. pure_typed b (first k) >>= λ U. range_matched span T S U) (pure_typed a (second k) >>= λ S. pure_typed b (second k) >>= λ U. range_matched span T S U)
  range_alike span T a b k h i =
      steps Same Both (a.typed (first Pure)) (a.typed (second Pure)) _ _ (h.typed_is Pure) (by_tree Both (λ S. b.typed (first Pure) >>= λ U. range_matched span T S U) (λ S. b.typed (second Pure) >>= λ U. range_matched span T S U) (λ S u.
      steps Same Both (b.typed (first Pure)) (b.typed (second Pure)) _ _ (i.typed_is Pure) (by_tree Both (λ U. range_matched span T S U) (λ U. range_matched span T (record S { tree = u }) U) (λ U v.
      both_alike (need (is_integer T && (is_integer S.ty && is_integer U.ty)) T23 span) _ _))))

  pub in_alike : (span : Span) (a : Found) (p : FoundPattern) (k : Effect) → TypedSame a → PatternSame p → Alike Same (in_rule span a p (first k)) (in_rule span a p (second k))
  in_alike span a p k h i =
      steps Same Same (a.typed (first k)) (a.typed (second k)) _ _ (h.typed_is k) (by_tree Same (λ S. p S.ty (first Pure) >>= λ m. matching k span S m) (λ S. p S.ty (second Pure) >>= λ m. matching k span S m) (λ S u.
      steps Both Same (p S.ty (first Pure)) (p S.ty (second Pure)) _ _ (i S.ty Pure) (λ m n j. in_class_alike k span S.effect boolean (λ x. tree.In x S.tree m.shape (trees_from m.trees)) (λ x. tree.In x u n.shape (trees_from n.trees)))))

  -- ---- written types

  range_of_widths_alike : (a b : Found) (k : Effect) → WidthSame a → WidthSame b → Alike SamePart (range_of_widths a b (first k)) (range_of_widths a b (second k))
  range_of_widths_alike a b k h i =
      steps SameWidths SamePart (a.width (first k)) (a.width (second k)) _ _ (h.width_is k) (λ p q e. steps SameWidths SamePart (b.width (first k)) (b.width (second k)) _ _ (i.width_is k) (λ r s f.
      alike_ok SamePart _ _ (ap₂ (λ (x y : Width). cons.part (cons.shown x.poly) (cons.shown y.poly)) e f)))

  range_of_numbers_alike : (a b : Found) (k : Effect) → WidthSame a → WidthSame b → Alike SamePart (range_of_numbers a b (first k)) (range_of_numbers a b (second k))
  range_of_numbers_alike a b k h i =
      steps SameNumbers SamePart (a.number (first k)) (a.number (second k)) _ _ (h.number_is k) (λ p q e. steps SameNumbers SamePart (b.number (first k)) (b.number (second k)) _ _ (i.number_is k) (λ r s f.
      alike_ok SamePart _ _ (ap₂ (λ (x y : Number). cons.part (Int x.number) (Int y.number)) e f)))

  pub range_part : (a b : Found) (k : Effect) → WidthSame a → WidthSame b → Alike SamePart (range_rule a b (first k)) (range_rule a b (second k))
  range_part a b k h i =
      alike_cond SamePart (a.has_atom (first k) || b.has_atom (first k)) (a.has_atom (second k) || b.has_atom (second k)) (range_of_widths a b (first k)) (range_of_widths a b (second k)) (range_of_numbers a b (first k)) (range_of_numbers a b (second k))
      (ap₂ (λ x y. x || y) (h.atom_is k) (i.atom_is k)) (range_of_widths_alike a b k h i) (range_of_numbers_alike a b k h i)

  one_width_alike : (e : Found) (k : Effect) → WidthSame e → Alike SamePart (one_width e (first k)) (one_width e (second k))
  one_width_alike e k h = steps SameWidths SamePart (e.width (first k)) (e.width (second k)) _ _ (h.width_is k) (λ p q i.
      alike_ok SamePart _ _ (ap (λ (x : Width). cons.part (cons.shown x.poly) (cons.shown x.poly)) i))

  one_number_alike : (e : Found) (k : Effect) → WidthSame e → Alike SamePart (one_number e (first k)) (one_number e (second k))
  one_number_alike e k h = steps SameNumbers SamePart (e.number (first k)) (e.number (second k)) _ _ (h.number_is k) (λ p q i.
      alike_ok SamePart _ _ (ap (λ (x : Number). cons.part (Int x.number) (Int x.number)) i))

  pub only_part : (e : Found) (k : Effect) → WidthSame e → Alike SamePart (only_rule e (first k)) (only_rule e (second k))
  only_part e k h =
      alike_cond SamePart (e.has_atom (first k)) (e.has_atom (second k)) (one_width e (first k)) (one_width e (second k)) (one_number e (first k)) (one_number e (second k)) (h.atom_is k) (one_width_alike e k h) (one_number_alike e k h)

  all_parts_alike : (ps : List FoundPart) (k : Effect) → AllOf PartSame ps → Alike (Pairs SamePart) (all_parts ps (first k)) (all_parts ps (second k))
  all_parts_alike [] k h = alike_ok (Pairs SamePart) [] [] tt
  all_parts_alike (p ∷ ps) k h =
      steps SamePart (Pairs SamePart) (p (first k)) (p (second k)) _ _ (h.0 k) (λ x y i. steps (Pairs SamePart) (Pairs SamePart) (all_parts ps (first k)) (all_parts ps (second k)) _ _ (all_parts_alike ps k h.1) (λ xs ys j.
      alike_ok (Pairs SamePart) (x ∷ xs) (y ∷ ys) (i, j)))

  pub integer_alike : (span : Span) (ps : List FoundPart) (k : Effect) → AllOf PartSame ps → Alike SameWritten (integer_rule span ps (first k)) (integer_rule span ps (second k))
  integer_alike span ps k h =
      steps (Pairs SamePart) SameWritten (all_parts ps (first k)) (all_parts ps (second k)) (integer_written span) (integer_written span) (all_parts_alike ps k h) (λ xs ys i.
      subst (λ n. Alike SameWritten (integer_written span xs) (need (nat_le n most_parts) T20 span >> Ok (written_as (integer_of (parts_written ys)) (shape.integer_of (part_shapes ys)) (part_trees ys)))) (sym (lengths_same xs ys i))
      (after SameWritten (need (nat_le (length xs) most_parts) T20 span) _ _ (alike_ok SameWritten _ _ (ap integer_of (parts_same xs ys i)))))

  end_rule_alike : (e : Found) (k : Effect) → WidthSame e → Alike SameEnd (end_rule e (first k)) (end_rule e (second k))
  end_rule_alike e k h = steps SameWidths SameEnd (e.width (first k)) (e.width (second k)) _ _ (h.width_is k) (λ p q i.
      alike_ok SameEnd (record { span = e.span; width = p.poly; tree = p.tree }) (record { span = e.span; width = q.poly; tree = q.tree }) (ap (λ (z : Width). record { span = e.span; width = z.poly; tree = q.tree }) i))

  pub one_bit_alike : (e : Found) (i : Ident) (k : Effect) → WidthSame e → Alike SameField (one_bit_rule e i (first k)) (one_bit_rule e i (second k))
  one_bit_alike e i k h = steps SameEnd SameField (end_rule e (first k)) (end_rule e (second k)) _ _ (end_rule_alike e k h) (λ x y j.
      alike_ok SameField _ _ (ap (λ z. record { name = i.text; high = z; low = z; shape = one_place i.text; trees = y.tree ∷ [] }) j))

  pub bit_range_alike : (a b : Found) (i : Ident) (k : Effect) → WidthSame a → WidthSame b → Alike SameField (bit_range_rule a b i (first k)) (bit_range_rule a b i (second k))
  bit_range_alike a b i k h m =
      steps SameEnd SameField (end_rule a (first k)) (end_rule a (second k)) _ _ (end_rule_alike a k h) (λ x y j. steps SameEnd SameField (end_rule b (first k)) (end_rule b (second k)) _ _ (end_rule_alike b k m) (λ v w l.
      alike_ok SameField _ _ (ap₂ (λ z u. record { name = i.text; high = z; low = u; shape = many_places i.text; trees = y.tree ∷ w.tree ∷ [] }) j l)))

  all_fields_alike : (fs : List FoundBitfield) (k : Effect) → AllOf BitfieldSame fs → Alike (Pairs SameField) (all_fields fs (first k)) (all_fields fs (second k))
  all_fields_alike [] k h = alike_ok (Pairs SameField) [] [] tt
  all_fields_alike (f ∷ fs) k h =
      steps SameField (Pairs SameField) (f (first k)) (f (second k)) _ _ (h.0 k) (λ x y i. steps (Pairs SameField) (Pairs SameField) (all_fields fs (first k)) (all_fields fs (second k)) _ _ (all_fields_alike fs k h.1) (λ xs ys j.
      alike_ok (Pairs SameField) (x ∷ xs) (y ∷ ys) (i, j)))

  bits_written_alike : (outside : Bool) (span : Span) (w : Polynomial) (u v : Tree) (xs ys : List WrittenField) → Pairs SameField xs ys → Alike SameWritten (bits_written t.limit outside span w u xs) (bits_written t.limit outside span w v ys)
  bits_written_alike outside span w u v xs ys h =
      subst (λ r. Alike SameWritten (bits_written t.limit outside span w u xs) (r >>= λ view. need (within_limits t.limit outside w) T20 span >> Ok (written_as (bits_of w view) (shape.bits_of span (field_shapes ys)) (v ∷ field_trees ys)))) (sym (view_same span w xs ys h))
      (step SameWritten (view_rule span w xs) _ _ (λ view. after SameWritten (need (within_limits t.limit outside w) T20 span) _ _ (alike_ok SameWritten _ _ refl)))

  pub bits_alike : (outside : Bool) (span : Span) (e : Found) (fs : List FoundBitfield) (k : Effect) → WidthSame e → AllOf BitfieldSame fs → Alike SameWritten (bits_rule t.limit outside span e fs (first k)) (bits_rule t.limit outside span e fs (second k))
  bits_alike outside span e fs k h i =
      steps SameWidths SameWritten (e.width (first k)) (e.width (second k)) _ _ (h.width_is k) (with_poly SameWritten (λ w. all_fields fs (first k) >>= λ xs. bits_written t.limit outside span w.poly w.tree xs) (λ w. all_fields fs (second k) >>= λ xs. bits_written t.limit outside span w.poly w.tree xs) (λ w u.
      steps (Pairs SameField) SameWritten (all_fields fs (first k)) (all_fields fs (second k)) _ _ (all_fields_alike fs k i) (λ xs ys j. bits_written_alike outside span w.poly w.tree u xs ys j)))

  pub named_alike : (span : Span) (name : List ℕ) (k : Effect) → standing_of name A ≡ standing_of name B → Alike SameWritten (name_written span name (first k)) (name_written span name (second k))
  named_alike span name k e =
      subst (λ o. Alike SameWritten (name_written span name (first k)) (found_or o T02 span >>= λ T. Ok (named_written T))) (type_same name e)
      (step SameWritten (found_or (type_of_name name A) T02 span) _ _ (λ T. alike_ok SameWritten (named_written T) (named_written T) refl))

  types_alike : (outside : Bool) (ts : List FoundType) (k : Effect) → AllOf WrittenSame ts → Alike (Pairs SameWritten) (types_in_order outside ts (first k)) (types_in_order outside ts (second k))
  types_alike outside [] k h = alike_ok (Pairs SameWritten) [] [] tt
  types_alike outside (w ∷ ws) k h =
      steps SameWritten (Pairs SameWritten) (w.ty outside (first k)) (w.ty outside (second k)) _ _ (h.0.ty_is outside k) (λ W V i. steps (Pairs SameWritten) (Pairs SameWritten) (types_in_order outside ws (first k)) (types_in_order outside ws (second k)) _ _ (types_alike outside ws k h.1) (λ Ws Vs j.
      alike_ok (Pairs SameWritten) (W ∷ Ws) (V ∷ Vs) (i, j)))

  pub tuple_written_alike : (outside : Bool) (span : Span) (ts : List FoundType) (k : Effect) → AllOf WrittenSame ts → Alike SameWritten (types_in_order outside ts (first k) >>= λ Ws. tuple_written span Ws) (types_in_order outside ts (second k) >>= λ Ws. tuple_written span Ws)
  tuple_written_alike outside span ts k h =
      steps (Pairs SameWritten) SameWritten (types_in_order outside ts (first k)) (types_in_order outside ts (second k)) (tuple_written span) (tuple_written span) (types_alike outside ts k h) (λ Ws Vs i.
      subst (λ Ts. Alike SameWritten (tuple_written span Ws) (bounded span (tuple_of Ts) >>= λ T. Ok (written_as T (shape.tuple_of (type_shapes Vs)) (all_sizes Vs)))) (sym (all_types_same Ws Vs i))
      (step SameWritten (bounded span (tuple_of (types_written Ws))) _ _ (λ T. alike_ok SameWritten _ _ refl)))

  pub array_alike : (outside : Bool) (span : Span) (e : Found) (w : FoundType) (k : Effect) → WidthSame e → WrittenSame w → Alike SameWritten (array_rule outside span e w (first k)) (array_rule outside span e w (second k))
  array_alike outside span e w k h i =
      steps SameWidths SameWritten (e.width (first k)) (e.width (second k)) _ _ (h.width_is k) (with_poly SameWritten (λ p. w.ty outside (first k) >>= λ W. array_written span p.poly p.tree W) (λ p. w.ty outside (second k) >>= λ W. array_written span p.poly p.tree W) (λ p u.
      steps SameWritten SameWritten (w.ty outside (first k)) (w.ty outside (second k)) _ _ (i.ty_is outside k) (λ W V j.
      step SameWritten (found_or (constant_value p.poly) T19 span) _ _ (λ z. step SameWritten (length_of span z) _ _ (λ n.
      subst (λ T. Alike SameWritten (bounded span (array_of n W.ty) >>= λ U. Ok (written_as U (shape.array_of W.shape) (p.tree ∷ W.sizes))) (bounded span (array_of n T) >>= λ U. Ok (written_as U (shape.array_of V.shape) (u ∷ V.sizes)))) (sym j)
      (step SameWritten (bounded span (array_of n W.ty)) _ _ (λ U. alike_ok SameWritten _ _ refl)))))))

  pub as_alike : (span : Span) (a : Found) (w : FoundType) (k : Effect) → TypedSame a → WrittenSame w → Alike Same (as_rule span a w (first k)) (as_rule span a w (second k))
  as_alike span a w k h i =
      steps Same Same (a.typed (first k)) (a.typed (second k)) _ _ (h.typed_is k) (by_tree Same (λ S. w.ty false (first k) >>= λ W. converted_to k span S W) (λ S. w.ty false (second k) >>= λ W. converted_to k span S W) (λ S u.
      steps SameWritten Same (w.ty false (first k)) (w.ty false (second k)) _ _ (i.ty_is false k) (λ W V j.
      subst (λ T. Alike Same (converted_to k span S W) (need (same_kind S.ty T) T05 span >> in_class k span S.effect T (λ n. tree.As n u V.shape (trees_from V.sizes)))) (sym j)
      (after Same (need (same_kind S.ty W.ty) T05 span) _ _ (in_class_alike k span S.effect W.ty (λ n. tree.As n S.tree W.shape (trees_from W.sizes)) (λ n. tree.As n u V.shape (trees_from V.sizes)))))))
