-- In each lesser class that its effect keeps to, an expression has the same type, effect and tree: a class refuses, and decides nothing
-- else. What is found in widths, and at written types, is the same in each class.
use Rattle.std.proofs.Common.{◌≡◌, ℕ, Bool, true, false, List, [], ◌∷◌, ◌++◌, map, length, Option, Some, None, Ok, Err}
use Rattle.std.proofs.Common.{refl, sym, ap, ◌∙◌, subst}
use Rattle.std.specs.Prelude.{Result, ◌==◌}
use Rattle.asl_syn.specs.declared.token.Span.{Span}
use Rattle.asl_syn.specs.declared.code.Fault.{Fault}
use Rattle.asl_syn.specs.declared.code.StaticCode.TheVariants.{S03, T02, T05, T11, T12, T13, T15, T18, T20}
use Rattle.asl_syn.specs.declared.tree.Ident.{Ident}
use Rattle.asl_syn.specs.declared.tree.UnaryOperator.{UnaryOperator}
use Rattle.asl_syn.specs.declared.tree.UnaryOperator.TheVariants as unary
use Rattle.asl_syn.specs.declared.tree.Expr.{Expr}
use Rattle.asl_syn.specs.declared.tree.Bitfield.TheOpen as ex
use Rattle.asl_syn.specs.declared.tree.Bitfield.TheFolds.{map-Bitfield, map-ConstraintPart, map-Expr, map-FieldValue}
use Rattle.asl_syn.specs.declared.tree.Bitfield.TheFolds.{map-Slice, map-TypeExpr}
use Rattle.asl_rules.specs.declared.effect.Effect.{Effect}
use Rattle.asl_rules.specs.declared.effect.Effect.TheVariants.{Pure}
use Rattle.asl_rules.specs.declared.joining.Joining.{Joining}
use Rattle.asl_rules.specs.declared.joining.Joining.TheVariants.{Combines, Divides, JoinsNothing}
use Rattle.asl_rules.specs.Faults.{◌>>=◌, ◌>>◌, need, found_or, fault_of}
use Rattle.asl_rules.specs.Tests.{Tests}
use Rattle.asl_rules.specs.types.Types.{Ty, join, substitute, is_boolean, same_kind, boolean, tuple_of, bits_of, bits_wide, bare}
use Rattle.asl_rules.specs.types.Effects.{at_most, greater, greatest, together, all_together}
use Rattle.asl_rules.specs.types.Widths.{Total, bounded, totalled}
use Rattle.asl_rules.specs.types.Arithmetic.{joining, reading_of_two}
use Rattle.asl_rules.specs.types.Writing.{FoundPart, FoundBitfield, FoundType, all_parts, all_fields, types_in_order}
use Rattle.asl_rules.specs.types.Writing.{integer_written, bits_written, tuple_written, converted_to}
use Rattle.asl_rules.specs.runs.Trees as tree
use Rattle.asl_rules.specs.runs.Trees.{Note, Tree, FieldGiven, own, of_library}
use Rattle.asl_rules.specs.declarations.Routines.{Routine, routine_named}
use Rattle.asl_rules.specs.declarations.Scopes.{Scope, Standing, Stored, Subprogram, TypeName, Label, Signature, Chosen}
use Rattle.asl_rules.specs.declarations.Scopes.{standing_of, type_of_name, is_subprogram, reading, with_class}
use Rattle.asl_rules.specs.declarations.Layouts.{slot_of, layout_of}
use Rattle.asl_rules.specs.declarations.UsedNames.{Use, Uses, Each, expr_uses}
use Rattle.asl_poly.specs.Terms.{Polynomial}
use Rattle.asl_rules.specs.values.Values.{bool, bits_with}
use Rattle.asl_rules.specs.values.Vectors.{literal_of}
use Rattle.asl_rules.specs.values.Members.{Constructed, construction, constructed, given_once, all_fit, places_given, texts_of}
use Rattle.asl_rules.specs.values.Members.{field_behind, member_named, member_type, member_tree}
use Rattle.asl_rules.specs.values.Members.{bitfields_behind, bitfields_named, all_wide}
use Rattle.asl_rules.specs.values.Members.{element_at, indexed}
use Rattle.asl_rules.specs.expressions.Typing.{Found, Typed, Operand, operand, operands, effects_of, types_of, trees_of, trees_from}
use Rattle.asl_rules.specs.expressions.Typing.{typed_as, in_class, finish, finish_all}
use Rattle.asl_rules.specs.expressions.Operations.{operation, operation_of_two, unary_rule, binary_rule}
use Rattle.asl_rules.specs.expressions.Slicing.{FoundSlice, all_operands, all_add, no_width, shapes_of, sliceable, sliced_width}
use Rattle.asl_rules.specs.expressions.Slicing.{slices_behind, slices_rule}
use Rattle.asl_rules.specs.expressions.Patterns.{FoundPattern, matching}
use Rattle.asl_rules.specs.expressions.Calls.{Replacing, both_fit, call_begun, call_tree, polys, replaced_by, routine_type}
use Rattle.asl_rules.specs.expressions.Calls.{chosen, function_of, function_called, given, routine_called}
use Rattle.asl_rules.specs.expressions.Calls.{routine_params, routine_taken, widths_given, widths_rule, written_first}
use Rattle.asl_rules.specs.expressions.Exprs.{FoundField, apart, bits_literal, conditional_of, expr_rule, given_rule}
use Rattle.asl_rules.specs.expressions.Exprs.{names_given, values_given}
use Rattle.asl_rules.specs.expressions.Exprs.{slice_rule, part_rule, bitfield_rule, type_rule, pattern_rule, found, typed, typed_rule}
use Rattle.asl_rules.specs.expressions.Exprs.{literal_type, name_of_standing, tuple_with, width_of, number_of, names_atom}
use Rattle.asl_rules.proofs.basics.Inversions.{ok_ok, err_ok, bind_ok, then_ok}
use Rattle.asl_rules.proofs.basics.Opening.{in_class_is}
use Rattle.asl_laws.proofs.expressions.Standing.{below_both, first_below, second_below}
use Rattle.asl_laws.proofs.names.ByUses as by_uses
use Rattle.asl_laws.proofs.names.ByUses.{OwnExpr, OwnType}
use Rattle.asl_laws.proofs.names.SameWidths.{InWidth, as_found}

-- ---- two steps, put together

bound : {A B : Type 0} (r : Result A Fault) (f : A → Result B Fault) (x : A) (y : B) → r ≡ Ok x → f x ≡ Ok y → (r >>= f) ≡ Ok y
bound r f x y h k = ap (λ z. z >>= f) h ∙ k

any_use : Use → Type 0
any_use u = Unit {0}

any_uses : (us : Uses) → Each any_use us
unfolding any_use
any_uses [] = tt
any_uses (u ∷ us) = (tt, any_uses us)

module _ (t : Tests) (k : Effect) where
  abbrev lesser : Scope → Scope
  lesser G = with_class G k

  -- ---- what is the same in each class

  abbrev width_in : Found → InWidth
  width_in f = record { width = λ G. f.width (lesser G); number = λ G. f.number (lesser G); has_atom = λ G. f.has_atom (lesser G) }

  abbrev own_width : Found → InWidth
  own_width f = record { width = f.width; number = f.number; has_atom = f.has_atom }

  abbrev InAnyClass : Found → Type 0
  InAnyClass f = width_in f ≡ own_width f

  abbrev PartAny : FoundPart → Type 0
  PartAny f = (let g : FoundPart = λ G. f (lesser G) in g) ≡ f

  abbrev BitfieldAny : FoundBitfield → Type 0
  BitfieldAny f = (let g : FoundBitfield = λ G. f (lesser G) in g) ≡ f

  abbrev TypeAny : FoundType → Type 0
  TypeAny f = (let g : FoundType = record { span = f.span; ty = λ o G. f.ty o (lesser G) } in g) ≡ f

  -- ---- what asks for the class alone

  abbrev Below : Effect → Type 0
  Below e = at_most e k ≡ true

  abbrev EachBelow : List Operand → Type 0
  EachBelow [] = Unit {0}
  EachBelow (o ∷ os) = Below o.typed.effect × EachBelow os

  abbrev TypedLesser : (Scope → Result Typed Fault) → Type 0
  TypedLesser r = (G : Scope) (S : Typed) → r G ≡ Ok S → Below S.effect → r (lesser G) ≡ Ok S

  abbrev OperandsLesser : (Scope → Result (List Operand) Fault) → Type 0
  OperandsLesser r = (G : Scope) (os : List Operand) → r G ≡ Ok os → EachBelow os → r (lesser G) ≡ Ok os

  record Lesser (f : Found) : Type 0 where
    in_width : InAnyClass f
    type_found : TypedLesser f.typed

  record SliceLesser (f : FoundSlice) : Type 0 where
    adds_any : (let g : Total → Scope → Result Total Fault = λ x G. f.adds x (lesser G) in g) ≡ f.adds
    operands_found : OperandsLesser f.operands

  -- the end of a rule: what keeps to this class is found in it too, and so do these operands
  abbrev Keeps : Type 0 → (Effect → Result Typed Fault) → Type 0
  Keeps B r = (c : Effect) (S : Typed) → r c ≡ Ok S → Below S.effect → B × (r k ≡ Ok S)

  keeps_class : (B : Type 0) (span : Span) (e : Effect) (T : Ty) (make : Note → Tree) → (Below e → B) →
      Keeps B (λ c. in_class c span e T make)
  keeps_class B span e T make f c S h b =
      let q = in_class_is c span e T make S h in
      let d : Below e = subst (λ (z : Typed). Below z.effect) (sym q) b in
      (f d, ap (λ x. need x T12 span >> Ok (typed_as span T e make)) d ∙ ap Ok q)

  keeps_then : (B : Type 0) (x : Result (Unit {0}) Fault) (r : Effect → Result Typed Fault) → Keeps B r → Keeps B (λ c. x >> r c)
  keeps_then B (Ok u) r h c S q b = h c S q b
  keeps_then B (Err f) r h c S q b = err_ok f S q

  keeps_bind : {A : Type 0} (B : Type 0) (x : Result A Fault) (r : A → Effect → Result Typed Fault) → ((u : A) → Keeps B (r u)) →
      Keeps B (λ c. x >>= λ u. r u c)
  keeps_bind B (Ok u) r h c S q b = h u c S q b
  keeps_bind B (Err f) r h c S q b = err_ok f S q

  keeps_finish : (B : Type 0) (span : Span) (ok : Bool) (e : Effect) (T : Ty) (make : Note → Tree) → (Below e → B) →
      Keeps B (λ c. finish c span ok e T make)
  keeps_finish B span ok e T make f = keeps_then B (need ok T13 span) (λ c. in_class c span e T make) (keeps_class B span e T make f)

  both_below : (e d : Effect) → Below (greater e d) → Below e × Below d
  both_below e d h = (below_both e (greater e d) k (first_below e d) h, below_both d (greater e d) k (second_below e d) h)

  all_below : (e : Effect) (os : List Operand) → Below (greatest e (effects_of os)) → Below e × EachBelow os
  all_below e [] h = (h, tt)
  all_below e (o ∷ os) h =
      let r = all_below (greater e o.typed.effect) os h in
      let b = both_below e o.typed.effect r.0 in (b.0, (b.1, r.1))

  keeps_all : (span : Span) (os : List Operand) (e : Effect) (T : Ty) (make : Note → Tree) →
      Keeps (EachBelow os) (λ c. finish_all c span os e T make)
  keeps_all span os e T make =
      keeps_finish (EachBelow os) span (all_together Pure (effects_of os)) (greater (greatest Pure (effects_of os)) e) T make
      (λ h. (all_below Pure os (both_below (greatest Pure (effects_of os)) e h).0).1)

  -- ---- behind operands

  abbrev CC : Type 0
  CC = (x : FoundPart) × PartAny x

  abbrev BB : Type 0
  BB = (x : FoundBitfield) × BitfieldAny x

  abbrev EE : Type 0
  EE = (x : Found) × Lesser x

  abbrev FF : Type 0
  FF = (x : FoundField) × Lesser x.value

  abbrev PP : Type 0
  PP = (x : FoundPattern) × Unit {0}

  abbrev SS : Type 0
  SS = (x : FoundSlice) × SliceLesser x

  abbrev TT : Type 0
  TT = (x : FoundType) × TypeAny x

  behind_one : (a : EE) (G : Scope) (r : Typed → Effect → Result Typed Fault) → ((v : Typed) → Keeps (Below v.effect) (r v)) → (S : Typed) →
      (a.0.typed G >>= λ v. r v G.class) ≡ Ok S → Below S.effect → (a.0.typed (lesser G) >>= λ v. r v k) ≡ Ok S
  behind_one a G r f S h b =
      let v = bind_ok (a.0.typed G) (λ v. r v G.class) S h in
      let g = f v.value G.class S v.then b in
      bound (a.0.typed (lesser G)) (λ v. r v k) v.value S (a.1.type_found G v.value v.first g.0) g.1

  behind_two : (a b : EE) (G : Scope) (r : Typed → Typed → Effect → Result Typed Fault) →
      ((v w : Typed) → Keeps (Below v.effect × Below w.effect) (r v w)) → (S : Typed) →
      (a.0.typed G >>= λ v. b.0.typed G >>= λ w. r v w G.class) ≡ Ok S → Below S.effect →
      (a.0.typed (lesser G) >>= λ v. b.0.typed (lesser G) >>= λ w. r v w k) ≡ Ok S
  behind_two a b G r f S h d =
      let v = bind_ok (a.0.typed G) (λ v. b.0.typed G >>= λ w. r v w G.class) S h in
      let w = bind_ok (b.0.typed G) (λ w. r v.value w G.class) S v.then in
      let g = f v.value w.value G.class S w.then d in
      bound (a.0.typed (lesser G)) (λ v. b.0.typed (lesser G) >>= λ w. r v w k) v.value S (a.1.type_found G v.value v.first g.0.0)
      (bound (b.0.typed (lesser G)) (λ w. r v.value w k) w.value S (b.1.type_found G w.value w.first g.0.1) g.1)

  behind_three : (a b c : EE) (G : Scope) (r : Typed → Typed → Typed → Effect → Result Typed Fault) →
      ((u v w : Typed) → Keeps (Below u.effect × Below v.effect × Below w.effect) (r u v w)) → (S : Typed) →
      (a.0.typed G >>= λ u. b.0.typed G >>= λ v. c.0.typed G >>= λ w. r u v w G.class) ≡ Ok S → Below S.effect →
      (a.0.typed (lesser G) >>= λ u. b.0.typed (lesser G) >>= λ v. c.0.typed (lesser G) >>= λ w. r u v w k) ≡ Ok S
  behind_three a b c G r f S h d =
      let u = bind_ok (a.0.typed G) (λ u. b.0.typed G >>= λ v. c.0.typed G >>= λ w. r u v w G.class) S h in
      let v = bind_ok (b.0.typed G) (λ v. c.0.typed G >>= λ w. r u.value v w G.class) S u.then in
      let w = bind_ok (c.0.typed G) (λ w. r u.value v.value w G.class) S v.then in
      let g = f u.value v.value w.value G.class S w.then d in
      bound (a.0.typed (lesser G)) (λ u. b.0.typed (lesser G) >>= λ v. c.0.typed (lesser G) >>= λ w. r u v w k) u.value S
      (a.1.type_found G u.value u.first g.0.0)
      (bound (b.0.typed (lesser G)) (λ v. c.0.typed (lesser G) >>= λ w. r u.value v w k) v.value S (b.1.type_found G v.value v.first g.0.1)
      (bound (c.0.typed (lesser G)) (λ w. r u.value v.value w k) w.value S (c.1.type_found G w.value w.first g.0.2) g.1))

  behind_all : (os : Scope → Result (List Operand) Fault) (G : Scope) (r : List Operand → Effect → Result Typed Fault) → OperandsLesser os →
      ((vs : List Operand) → Keeps (EachBelow vs) (r vs)) → (S : Typed) → (os G >>= λ vs. r vs G.class) ≡ Ok S → Below S.effect →
      (os (lesser G) >>= λ vs. r vs k) ≡ Ok S
  behind_all os G r l f S h b =
      let v = bind_ok (os G) (λ vs. r vs G.class) S h in
      let g = f v.value G.class S v.then b in
      bound (os (lesser G)) (λ vs. r vs k) v.value S (l G v.value v.first g.0) g.1

  operands_lesser : (es : List EE) → OperandsLesser (operands (map (λ e. e.0) es))
  operands_lesser [] G os h b = h
  operands_lesser (e ∷ es) G os h b =
      let rest = map (λ (x : EE). x.0) es in
      let u = bind_ok (e.0.typed G) _ os h in
      let v = bind_ok (operands rest G) _ os u.then in
      let d = subst EachBelow (sym (ok_ok (operand e.0.span u.value ∷ v.value) os v.then)) b in
      bound (e.0.typed (lesser G)) (λ S. operands rest (lesser G) >>= λ qs. Ok (operand e.0.span S ∷ qs)) u.value os
      (e.1.type_found G u.value u.first d.0)
      (bound (operands rest (lesser G)) (λ qs. Ok (operand e.0.span u.value ∷ qs)) v.value os
      (operands_lesser es G v.value v.first d.1) v.then)

  values_lesser : (fs : List FF) → OperandsLesser (operands (values_given (map (λ f. f.0) fs)))
  values_lesser [] G os h b = h
  values_lesser (f ∷ fs) G os h b =
      let rest = values_given (map (λ (x : FF). x.0) fs) in
      let at = f.0.value.span in
      let u = bind_ok (f.0.value.typed G) _ os h in
      let v = bind_ok (operands rest G) _ os u.then in
      let d = subst EachBelow (sym (ok_ok (operand at u.value ∷ v.value) os v.then)) b in
      bound (f.0.value.typed (lesser G)) (λ S. operands rest (lesser G) >>= λ qs. Ok (operand at S ∷ qs)) u.value os
      (f.1.type_found G u.value u.first d.0)
      (bound (operands rest (lesser G)) (λ qs. Ok (operand at u.value ∷ qs)) v.value os (values_lesser fs G v.value v.first d.1) v.then)

  parts_below : (os ps : List Operand) → EachBelow (os ++ ps) → EachBelow os × EachBelow ps
  parts_below [] ps b = (tt, b)
  parts_below (o ∷ os) ps b = let r = parts_below os ps b.1 in ((b.0, r.0), r.1)

  slices_lesser : (xs : List SS) → OperandsLesser (all_operands (map (λ x. x.0) xs))
  slices_lesser [] G os h b = h
  slices_lesser (x ∷ xs) G os h b =
      let rest = map (λ (x : SS). x.0) xs in
      let u = bind_ok (x.0.operands G) _ os h in
      let v = bind_ok (all_operands rest G) _ os u.then in
      let d = parts_below u.value v.value (subst EachBelow (sym (ok_ok (u.value ++ v.value) os v.then)) b) in
      bound (x.0.operands (lesser G)) (λ qs. all_operands rest (lesser G) >>= λ rs. Ok (qs ++ rs)) u.value os
      (x.1.operands_found G u.value u.first d.0)
      (bound (all_operands rest (lesser G)) (λ rs. Ok (u.value ++ rs)) v.value os (slices_lesser xs G v.value v.first d.1) v.then)

  begun_lesser : (i : Ident) (es : List EE) → OperandsLesser (call_begun i (map (λ e. e.0) es))
  begun_lesser i es G os h b =
      let list = map (λ (x : EE). x.0) es in
      let known = need (is_subprogram (standing_of i.text G.names)) T02 i.span in
      let u = bind_ok (operands list G) (λ vs. known >> Ok vs) os h in
      let v = then_ok known (Ok u.value) os u.then in
      let d = subst EachBelow (sym (ok_ok u.value os v.then)) b in
      bound (operands list (lesser G)) (λ vs. known >> Ok vs) u.value os (operands_lesser es G u.value u.first d) u.then

  -- ---- widths and written types

  widths_any : (es : List EE) (G : Scope) → widths_given (map (λ e. e.0) es) (lesser G) ≡ widths_given (map (λ e. e.0) es) G
  widths_any [] G = refl
  widths_any (e ∷ es) G = λ i.
      (e.1.in_width i).width G >>= λ w. widths_any es G i >>= λ r. Ok (written_first (given w.poly e.0.span) w.tree r)

  replacing_any : (span : Span) (f : Signature) (es : List EE) (os : List Operand) (G : Scope) →
      widths_rule span f (map (λ e. e.0) es) os (lesser G) ≡ widths_rule span f (map (λ e. e.0) es) os G
  replacing_any span f [] os G = refl
  replacing_any span f (e ∷ es) os G = λ i.
      need (length (e.0 ∷ map (λ (x : EE). x.0) es) == length f.params) T11 span >> widths_any (e ∷ es) G i

  sums_any : (xs : List SS) (G : Scope) (w : Total) → all_add (map (λ x. x.0) xs) w (lesser G) ≡ all_add (map (λ x. x.0) xs) w G
  sums_any [] G w = refl
  sums_any (x ∷ xs) G w = λ i. x.1.adds_any i w G >>= λ y. sums_any xs G y i

  ranges_any : (ps : List CC) (G : Scope) → all_parts (map (λ p. p.0) ps) (lesser G) ≡ all_parts (map (λ p. p.0) ps) G
  ranges_any [] G = refl
  ranges_any (p ∷ ps) G = λ i. p.1 i G >>= λ q. ranges_any ps G i >>= λ qs. Ok (q ∷ qs)

  bitfields_any : (fs : List BB) (G : Scope) → all_fields (map (λ f. f.0) fs) (lesser G) ≡ all_fields (map (λ f. f.0) fs) G
  bitfields_any [] G = refl
  bitfields_any (f ∷ fs) G = λ i. f.1 i G >>= λ x. bitfields_any fs G i >>= λ xs. Ok (x ∷ xs)

  types_any : (outside : Bool) (ws : List TT) (G : Scope) →
      types_in_order outside (map (λ w. w.0) ws) (lesser G) ≡ types_in_order outside (map (λ w. w.0) ws) G
  types_any outside [] G = refl
  types_any outside (w ∷ ws) G = λ i. (w.1 i).ty outside G >>= λ W. types_any outside ws G i >>= λ Ws. Ok (W ∷ Ws)

  -- ---- each sort

  bitfield_step : (y : ex.Bitfield-F BB CC EE FF PP SS TT) →
      BitfieldAny (bitfield_rule (map-Bitfield BB CC EE FF PP SS TT FoundBitfield FoundPart Found FoundField FoundPattern FoundSlice
      FoundType (λ x. x.0) (λ x. x.0) (λ x. x.0) (λ x. x.0) (λ x. x.0) (λ x. x.0) (λ x. x.0) y))
  bitfield_step (ex.OneBit e n) = λ i. bitfield_rule (ex.OneBit (as_found e.0 (e.1.in_width i)) n)
  bitfield_step (ex.BitRange a b n) = λ i. bitfield_rule (ex.BitRange (as_found a.0 (a.1.in_width i)) (as_found b.0 (b.1.in_width i)) n)

  part_step : (y : ex.ConstraintPart-F BB CC EE FF PP SS TT) →
      PartAny (part_rule (map-ConstraintPart BB CC EE FF PP SS TT FoundBitfield FoundPart Found FoundField FoundPattern FoundSlice FoundType
      (λ x. x.0) (λ x. x.0) (λ x. x.0) (λ x. x.0) (λ x. x.0) (λ x. x.0) (λ x. x.0) y))
  part_step (ex.Only e) = λ i. part_rule (ex.Only (as_found e.0 (e.1.in_width i)))
  part_step (ex.FromTo a b) = λ i. part_rule (ex.FromTo (as_found a.0 (a.1.in_width i)) (as_found b.0 (b.1.in_width i)))

  type_step : (y : ex.TypeExpr-F BB CC EE FF PP SS TT) →
      TypeAny (type_rule t (map-TypeExpr BB CC EE FF PP SS TT FoundBitfield FoundPart Found FoundField FoundPattern FoundSlice FoundType
      (λ x. x.0) (λ x. x.0) (λ x. x.0) (λ x. x.0) (λ x. x.0) (λ x. x.0) (λ x. x.0) y))
  type_step (ex.IntegerType span ps) = λ i. record { span = span; ty = λ o G. ranges_any ps G i >>= λ qs. integer_written span qs }
  type_step (ex.BooleanType span) = refl
  type_step (ex.BitType span) = refl
  type_step (ex.NamedType span name) = refl
  type_step (ex.BitsType span e fs) = λ i. record {
    span = span;
    ty = λ o G. (e.1.in_width i).width G >>= λ w. bitfields_any fs G i >>= λ xs. bits_written t.limit o span w.poly w.tree xs;
  }
  type_step (ex.TupleType span ts) = λ i. record { span = span; ty = λ o G. types_any o ts G i >>= λ Ws. tuple_written span Ws }
  type_step (ex.ArrayType span e w) = λ i. type_rule t (ex.ArrayType span (as_found e.0 (e.1.in_width i)) (w.1 i))

  given_step : (y : ex.FieldValue-F BB CC EE FF PP SS TT) →
      Lesser (given_rule (map-FieldValue BB CC EE FF PP SS TT FoundBitfield FoundPart Found FoundField FoundPattern FoundSlice FoundType
      (λ x. x.0) (λ x. x.0) (λ x. x.0) (λ x. x.0) (λ x. x.0) (λ x. x.0) (λ x. x.0) y)).value
  given_step (ex.Given n e) = e.1

  slice_step : (y : ex.Slice-F BB CC EE FF PP SS TT) →
      SliceLesser (slice_rule (map-Slice BB CC EE FF PP SS TT FoundBitfield FoundPart Found FoundField FoundPattern FoundSlice FoundType
      (λ x. x.0) (λ x. x.0) (λ x. x.0) (λ x. x.0) (λ x. x.0) (λ x. x.0) (λ x. x.0) y))
  slice_step (ex.BitAt e) = record { adds_any = refl; operands_found = operands_lesser (e ∷ []) }
  slice_step (ex.HighLow a b) = record {
    adds_any = λ i. (slice_rule (ex.HighLow (as_found a.0 (a.1.in_width i)) (as_found b.0 (b.1.in_width i)))).adds;
    operands_found = operands_lesser (a ∷ b ∷ []);
  }
  slice_step (ex.LowWidth a b) = record {
    adds_any = λ i. (slice_rule (ex.LowWidth a.0 (as_found b.0 (b.1.in_width i)))).adds;
    operands_found = operands_lesser (a ∷ b ∷ []);
  }
  slice_step (ex.FactorWidth a b) = record {
    adds_any = λ i. (slice_rule (ex.FactorWidth a.0 (as_found b.0 (b.1.in_width i)))).adds;
    operands_found = operands_lesser (a ∷ b ∷ []);
  }

  -- ---- expressions in widths

  unary_any : (span : Span) (o : UnaryOperator) (a : EE) → InAnyClass (expr_rule t (ex.Unary span o a.0))
  unary_any span unary.Negate a = λ i. own_width (expr_rule t (ex.Unary span unary.Negate (as_found a.0 (a.1.in_width i))))
  unary_any span unary.Not a = refl
  unary_any span unary.Complement a = refl

  abbrev joined : (Scope → Scope) → Span → Joining → Found → Found → InWidth
  joined at span j a b = record {
    width = λ G. width_of span (reading_of_two j a b) (at G);
    number = λ G. number_of span (reading_of_two j a b) (at G);
    has_atom = λ G. names_atom (reading_of_two j a b) (at G);
  }

  two_any : (span : Span) (j : Joining) (a b : EE) → joined lesser span j a.0 b.0 ≡ joined (λ G. G) span j a.0 b.0
  two_any span (Combines c) a b = λ i. joined (λ G. G) span (Combines c) (as_found a.0 (a.1.in_width i)) (as_found b.0 (b.1.in_width i))
  two_any span Divides a b = λ i. joined (λ G. G) span Divides (as_found a.0 (a.1.in_width i)) (as_found b.0 (b.1.in_width i))
  two_any span JoinsNothing a b = refl

  abbrev expr_below : ex.Expr-F BB CC EE FF PP SS TT → ex.Expr-F FoundBitfield FoundPart Found FoundField FoundPattern FoundSlice FoundType
  expr_below = map-Expr BB CC EE FF PP SS TT FoundBitfield FoundPart Found FoundField FoundPattern FoundSlice FoundType (λ x. x.0)
      (λ x. x.0) (λ x. x.0) (λ x. x.0) (λ x. x.0) (λ x. x.0) (λ x. x.0)

  width_step : (y : ex.Expr-F BB CC EE FF PP SS TT) → InAnyClass (expr_rule t (expr_below y))
  width_step (ex.Int span n) = refl
  width_step (ex.Bits span text) = refl
  width_step (ex.Bool span b) = refl
  width_step (ex.Name span name) = refl
  width_step (ex.Unary span o a) = unary_any span o a
  width_step (ex.Binary span o a b) = two_any span (joining o) a b
  width_step (ex.Conditional span c a b) = refl
  width_step (ex.Tuple span es) = refl
  width_step (ex.Construct span n fs) = refl
  width_step (ex.Call span n ps es) = refl
  width_step (ex.Field span a n) = refl
  width_step (ex.Fields span a ns) = refl
  width_step (ex.Slices span a xs) = refl
  width_step (ex.Element span a x) = refl
  width_step (ex.As span a w) = refl
  width_step (ex.In span a p) = refl

  -- ---- expressions with their types

  name_lesser : (span : Span) (name : List ℕ) (o : Option Standing) → TypedLesser (name_of_standing span name o)
  name_lesser span name None G S h b = err_ok (fault_of T02 span) S h
  name_lesser span name (Some (Stored s)) G S h b =
      (keeps_class (Unit {0}) span (reading s) s.ty (λ n. tree.Read n (slot_of name (layout_of G.names))) (λ d. tt) G.class S h b).1
  name_lesser span name (Some Subprogram) G S h b = err_ok (fault_of T02 span) S h
  name_lesser span name (Some (TypeName T)) G S h b = err_ok (fault_of T02 span) S h
  name_lesser span name (Some (Label T x)) G S h b = (keeps_class (Unit {0}) span Pure T (λ n. tree.Constant n x) (λ d. tt) G.class S h b).1

  conditional_keeps : (span at : Span) (C T U : Typed) →
      Keeps (Below C.effect × Below T.effect × Below U.effect) (λ c. conditional_of t c span at C T U)
  conditional_keeps span at C T U =
      let e = greatest Pure (C.effect ∷ T.effect ∷ U.effect ∷ []) in
      let all : Type 0 = Below C.effect × Below T.effect × Below U.effect in
      let make : Note → Tree = λ n. tree.Conditional n C.tree T.tree U.tree in
      let ok = all_together Pure (C.effect ∷ T.effect ∷ U.effect ∷ []) in
      let both = found_or (join t T.ty U.ty) (apart T.ty U.ty) span in
      keeps_then all (need (is_boolean C.ty) T05 at) (λ c. both >>= λ V. finish c span ok e (bare V) make)
      (keeps_bind all both (λ V c. finish c span ok e (bare V) make)
      (λ V. keeps_finish all span ok e (bare V) make
      (λ d. let p = both_below (greater C.effect T.effect) U.effect d in let q = both_below C.effect T.effect p.0 in (q.0, q.1, p.1))))

  construction_keeps : (span : Span) (n : Ident) (o : Option Ty) (is : List Ident) (os : List Operand) →
      Keeps (EachBelow os) (λ c. construction t c span n o is os)
  construction_keeps span n o is os =
      let all : Type 0 = EachBelow os in
      let last : Constructed → List FieldGiven → Effect → Result Typed Fault =
      λ m gs c. finish_all c span os Pure m.ty (λ x. tree.Construct x m.shell gs (trees_of os)) in
      let given_in : Constructed → Effect → Result Typed Fault =
      λ m c. found_or (places_given m.fields (texts_of is)) T15 span >>= λ gs. last m gs c in
      keeps_bind all (constructed n o) (λ m c. given_once is [] m.fields >>= λ Ts. all_fit t os Ts >> given_in m c)
      (λ m. keeps_bind all (given_once is [] m.fields) (λ Ts c. all_fit t os Ts >> given_in m c)
      (λ Ts. keeps_then all (all_fit t os Ts) (given_in m)
      (keeps_bind all (found_or (places_given m.fields (texts_of is)) T15 span) (last m)
      (λ gs. keeps_all span os Pure m.ty (λ x. tree.Construct x m.shell gs (trees_of os))))))

  called_keeps : (span : Span) (f : Chosen) (T : Ty) (w : Replacing) (os : List Operand) →
      Keeps (EachBelow os) (λ c. function_called t c span f T w os)
  called_keeps span f T w os =
      let by = replaced_by f.signature.params w.given in
      let make = call_tree (own f.number) w os in
      keeps_then (EachBelow os) (both_fit t span f.signature w.given os by)
      (λ c. found_or (substitute by T) T20 span >>= λ U. finish_all c span os f.signature.class U make)
      (keeps_bind (EachBelow os) (found_or (substitute by T) T20 span) (λ U c. finish_all c span os f.signature.class U make)
      (λ U. keeps_all span os f.signature.class U make))

  function_keeps : (span : Span) (i : Ident) (ps : List EE) (os : List Operand) (G : Scope) (o : Option Routine) →
      Keeps (EachBelow os) (λ c. function_of t span i (map (λ p. p.0) ps) os (with_class G c) o)
  function_keeps span i ps os G (Some r) c S h b =
      let qs = map (λ (x : EE). x.0) ps in
      let enough = need (length qs == routine_params r) T11 span in
      let behind : Result Replacing Fault → Effect → Result Typed Fault = λ x d. x >>= λ w. routine_called d span r w os in
      let x = widths_given qs (with_class G c) in
      let g = keeps_then (EachBelow os) (routine_taken span r os) (λ d. enough >> behind x d)
      (keeps_then (EachBelow os) enough (behind x)
      (keeps_bind (EachBelow os) x (λ w d. routine_called d span r w os)
      (λ w. keeps_all span os Pure (routine_type r (polys w.given) (types_of os)) (call_tree (of_library r) w os)))) c S h b in
      (g.0, (λ i. routine_taken span r os >> enough >> behind (widths_any ps (with_class G c) i) k) ∙ g.1)
  function_keeps span i ps os G None c S h b =
      let qs = map (λ (x : EE). x.0) ps in
      let behind : Chosen → Ty → Result Replacing Fault → Effect → Result Typed Fault =
      λ f T x d. x >>= λ w. function_called t d span f T w os in
      let result : Chosen → Result Ty Fault = λ f. found_or f.signature.result T18 span in
      let x : Chosen → Result Replacing Fault = λ f. widths_rule span f.signature qs os (with_class G c) in
      let g = keeps_bind (EachBelow os) (chosen span i os G.subs) (λ f d. result f >>= λ T. behind f T (x f) d)
      (λ f. keeps_bind (EachBelow os) (result f) (λ T d. behind f T (x f) d)
      (λ T. keeps_bind (EachBelow os) (x f) (λ w d. function_called t d span f T w os) (λ w. called_keeps span f T w os))) c S h b in (
        g.0,
        (λ j. chosen span i os G.subs >>= λ f. result f >>= λ T.
            behind f T (replacing_any span f.signature ps os (with_class G c) j) k) ∙ g.1,
      )

  -- slices behind what is sliced
  sliced_keeps : (span : Span) (S : Typed) (xs : List SS) (os : List Operand) (G : Scope) →
      Keeps (Below S.effect × EachBelow os) (λ c. sliceable span S.ty os >> sliced_width span (map (λ x. x.0) xs) G >>= λ w.
      slices_behind c span S (shapes_of (map (λ x. x.0) xs)) os w)
  sliced_keeps span S xs os G =
      let ys = map (λ (x : SS). x.0) xs in
      let both : Type 0 = Below S.effect × EachBelow os in
      let make : Note → Tree = λ n. tree.Slices n S.tree (shapes_of ys) (trees_of os) in
      keeps_then both (sliceable span S.ty os) (λ c. sliced_width span ys G >>= λ w. slices_behind c span S (shapes_of ys) os w)
      (keeps_bind both (sliced_width span ys G) (λ w c. slices_behind c span S (shapes_of ys) os w)
      (λ w. keeps_finish both span (all_together Pure (S.effect ∷ effects_of os)) (greatest Pure (S.effect ∷ effects_of os)) (bits_of w [])
      make (λ d. all_below S.effect os d)))

  slices_found : (span : Span) (a : EE) (xs : List SS) → TypedLesser (slices_rule span a.0 (map (λ x. x.0) xs))
  slices_found span a xs G S h b =
      let ys = map (λ (x : SS). x.0) xs in
      let last : Typed → List Operand → Result Polynomial Fault → Effect → Result Typed Fault =
      λ T os x c. sliceable span T.ty os >> x >>= λ w. slices_behind c span T (shapes_of ys) os w in
      let x = sliced_width span ys G in
      let T = bind_ok (a.0.typed G) (λ T. all_operands ys G >>= λ os. last T os x G.class) S h in
      let os = bind_ok (all_operands ys G) (λ os. last T.value os x G.class) S T.then in
      let g = sliced_keeps span T.value xs os.value G G.class S os.then b in
      bound (a.0.typed (lesser G)) (λ T. all_operands ys (lesser G) >>= λ os. last T os (sliced_width span ys (lesser G)) k) T.value S
      (a.1.type_found G T.value T.first g.0.0)
      (bound (all_operands ys (lesser G)) (λ os. last T.value os (sliced_width span ys (lesser G)) k) os.value S
      (slices_lesser xs G os.value os.first g.0.1)
      ((λ i. last T.value os.value (sums_any xs G no_width i >>= λ y. totalled span y) k) ∙ g.1))

  typed_step : (y : ex.Expr-F BB CC EE FF PP SS TT) → TypedLesser (typed_rule t (expr_below y))
  typed_step (ex.Int span n) G S h b = (keeps_class (Unit {0}) span Pure (literal_type n) (λ m. tree.Int m n) (λ d. tt) G.class S h b).1
  typed_step (ex.Bits span text) G S h b =
      (keeps_bind (Unit {0}) (found_or (literal_of t.limit text) S03 span) (λ bs c. bits_literal c span bs)
      (λ bs. keeps_class (Unit {0}) span Pure (bits_wide (length bs)) (λ n. tree.Constant n (bits_with bs [])) (λ d. tt)) G.class S h b).1
  typed_step (ex.Bool span x) G S h b = (keeps_class (Unit {0}) span Pure boolean (λ n. tree.Constant n (bool x)) (λ d. tt) G.class S h b).1
  typed_step (ex.Name span name) G S h b = name_lesser span name (standing_of name G.names) G S h b
  typed_step (ex.Unary span o a) G S h b =
      behind_one a G (λ v c. operation c span o v)
      (λ v. keeps_bind (Below v.effect) (unary_rule span o v.ty) (λ U c. in_class c span v.effect U (λ n. tree.Unary n o v.tree))
      (λ U. keeps_class (Below v.effect) span v.effect U (λ n. tree.Unary n o v.tree) (λ d. d))) S h b
  typed_step (ex.Binary span o a x) G S h b =
      behind_two a x G (λ v w c. operation_of_two t c span o v w)
      (λ v w. let both : Type 0 = Below v.effect × Below w.effect in
      let make : Note → Tree = λ n. tree.Binary n o v.tree w.tree in
      keeps_bind both (binary_rule t span o v.ty w.ty)
      (λ U c. finish c span (together v.effect w.effect) (greater v.effect w.effect) U make)
      (λ U. keeps_finish both span (together v.effect w.effect) (greater v.effect w.effect) U make (both_below v.effect w.effect))) S h b
  typed_step (ex.Conditional span c a x) G S h b =
      behind_three c a x G (λ u v w d. conditional_of t d span c.0.span u v w) (λ u v w. conditional_keeps span c.0.span u v w) S h b
  typed_step (ex.Tuple span es) G S h b =
      behind_all (operands (map (λ e. e.0) es)) G (λ os c. tuple_with c span os) (operands_lesser es)
      (λ os. keeps_bind (EachBelow os) (bounded span (tuple_of (types_of os)))
      (λ T c. finish_all c span os Pure T (λ n. tree.Tuple n (trees_of os)))
      (λ T. keeps_all span os Pure T (λ n. tree.Tuple n (trees_of os)))) S h b
  typed_step (ex.Construct span n fs) G S h b =
      let gs = map (λ (x : FF). x.0) fs in
      behind_all (operands (values_given gs)) G (λ os c. construction t c span n (type_of_name n.text G.names) (names_given gs) os)
      (values_lesser fs)
      (λ os. construction_keeps span n (type_of_name n.text G.names) (names_given gs) os) S h b
  typed_step (ex.Call span n ps es) G S h b =
      behind_all (call_begun n (map (λ e. e.0) es)) G
      (λ os c. function_of t span n (map (λ p. p.0) ps) os (with_class G c) (routine_named n.text))
      (begun_lesser n es) (λ os. function_keeps span n ps os G (routine_named n.text)) S h b
  typed_step (ex.Field span a n) G S h b =
      behind_one a G (λ v c. field_behind c span n v)
      (λ v. keeps_bind (Below v.effect) (member_named n v.ty) (λ m c. in_class c span v.effect (member_type m) (member_tree v.tree m))
      (λ m. keeps_class (Below v.effect) span v.effect (member_type m) (member_tree v.tree m) (λ d. d))) S h b
  typed_step (ex.Fields span a ns) G S h b =
      behind_one a G (λ v c. bitfields_behind c span ns v)
      (λ v. keeps_bind (Below v.effect) (bitfields_named span ns v.ty)
      (λ fs c. in_class c span v.effect (bits_wide (all_wide fs)) (λ n. tree.Bitfields n v.tree fs))
      (λ fs. keeps_class (Below v.effect) span v.effect (bits_wide (all_wide fs)) (λ n. tree.Bitfields n v.tree fs) (λ d. d))) S h b
  typed_step (ex.Slices span a xs) G S h b = slices_found span a xs G S h b
  typed_step (ex.Element span a x) G S h b =
      behind_two a x G (λ v w c. element_at c span v w)
      (λ v w. let both : Type 0 = Below v.effect × Below w.effect in
      let make : Note → Tree = λ n. tree.Element n v.tree w.tree in
      keeps_bind both (indexed span v.ty w.ty)
      (λ U c. finish c span (together v.effect w.effect) (greater v.effect w.effect) U make)
      (λ U. keeps_finish both span (together v.effect w.effect) (greater v.effect w.effect) U make (both_below v.effect w.effect))) S h b
  typed_step (ex.As span a w) G S h b =
      (λ i. a.0.typed (lesser G) >>= λ v. (w.1 i).ty false G >>= λ W. converted_to k span v W)
      ∙ behind_one a G (λ v c. w.0.ty false G >>= λ W. converted_to c span v W)
      (λ v. keeps_bind (Below v.effect) (w.0.ty false G) (λ W c. converted_to c span v W)
      (λ W. let make : Note → Tree = λ n. tree.As n v.tree W.shape (trees_from W.sizes) in
      keeps_then (Below v.effect) (need (same_kind v.ty W.ty) T05 span) (λ c. in_class c span v.effect W.ty make)
      (keeps_class (Below v.effect) span v.effect W.ty make (λ d. d)))) S h b
  typed_step (ex.In span a p) G S h b =
      behind_one a G (λ v c. p.0 v.ty (with_class G Pure) >>= λ m. matching c span v m)
      (λ v. keeps_bind (Below v.effect) (p.0 v.ty (with_class G Pure)) (λ m c. matching c span v m)
      (λ m. keeps_class (Below v.effect) span v.effect boolean (λ n. tree.In n v.tree m.shape (trees_from m.trees)) (λ d. d))) S h b

  expr_step : (y : ex.Expr-F BB CC EE FF PP SS TT) → OwnExpr any_use y → Lesser (expr_rule t (expr_below y))
  expr_step y used = record { in_width = width_step y; type_found = typed_step y }

  -- ---- trees

  all_lesser : (e : Expr) → Lesser (found t e)
  all_lesser e =
      by_uses.expr_holds any_use FoundBitfield FoundPart Found FoundField FoundPattern FoundSlice FoundType bitfield_rule part_rule
      (expr_rule t) given_rule (pattern_rule t) slice_rule (type_rule t) BitfieldAny PartAny Lesser (λ f. Lesser f.value) (λ p. Unit {0})
      SliceLesser TypeAny
      (record {
        bitfield = bitfield_step;
        part = part_step;
        expr = expr_step;
        given = given_step;
        pattern = λ y. tt;
        slice = slice_step;
        type = λ y used. type_step y;
      }) e (any_uses (expr_uses e))

  pub typed_lesser : (e : Expr) (G : Scope) (S : Typed) → typed t e G ≡ Ok S → at_most S.effect k ≡ true → typed t e (with_class G k) ≡ Ok S
  typed_lesser e = (all_lesser e).type_found
