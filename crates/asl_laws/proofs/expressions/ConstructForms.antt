-- Constructions with their typed trees: both do the same, and give a value of the type.
use Rattle.std.proofs.Common.{◌≡◌, ℕ, Bool, List, [], ◌∷◌, ◌++◌, Option, Some, None, option_map, Ok, refl, sym, ap, ◌∙◌, subst, map}
use Rattle.asl_syn.specs.declared.token.Span.{Span}
use Rattle.asl_syn.specs.declared.code.StaticCode.TheVariants.{T02, T05, T15}
use Rattle.asl_syn.specs.declared.tree.Ident.{Ident}
use Rattle.asl_syn.specs.declared.tree.Expr.{Expr}
use Rattle.asl_syn.specs.declared.tree.FieldValue.{FieldValue, out-FieldValue}
use Rattle.asl_syn.specs.declared.tree.Bitfield.{Bitfield}
use Rattle.asl_syn.specs.declared.tree.ConstraintPart.{ConstraintPart}
use Rattle.asl_syn.specs.declared.tree.Pattern.{Pattern}
use Rattle.asl_syn.specs.declared.tree.Slice.{Slice}
use Rattle.asl_syn.specs.declared.tree.TypeExpr.{TypeExpr}
use Rattle.asl_syn.specs.declared.tree.Bitfield.TheOpen as ex
use Rattle.asl_syn.specs.declared.tree.Bitfield.TheFolds.{fold_out-FieldValue}
use Rattle.asl_syn.specs.declared.tree.Decl.{Decl}
use Rattle.asl_rules.specs.declared.effect.Effect.TheVariants.{Pure}
use Rattle.asl_rules.specs.Faults.{found_or, fault_of}
use Rattle.asl_rules.specs.Tests.{Tests, IsRight}
use Rattle.asl_rules.specs.types.Types.{Ty, record_of, exception_of, named}
use Rattle.asl_rules.specs.types.Closed.{Assignment, closed, fields_with}
use Rattle.asl_rules.specs.types.Effects.{greater, all_together, greatest}
use Rattle.asl_rules.specs.declarations.Scopes.{Entry, Scope, Signature, type_of_name}
use Rattle.asl_rules.specs.private.WellFormed.{WellFormed, WellDeclared, ShapedFields}
use Rattle.asl_rules.specs.runs.Trees as tree
use Rattle.asl_rules.specs.runs.Trees.{Note, Tree, TreeFunc, FieldGiven}
use Rattle.asl_rules.specs.expressions.Typing.{Found, Typed, Operand, operand as operand_at, operands, effects_of, trees_in, trees_of, typed_as}
use Rattle.asl_rules.specs.expressions.Slicing.{FoundSlice}
use Rattle.asl_rules.specs.types.Writing.{FoundPart, FoundBitfield, FoundType}
use Rattle.asl_rules.specs.expressions.Patterns.{FoundPattern}
use Rattle.asl_rules.specs.values.Members.{fields_of, Constructed, constructed, constructed_of, given_once, all_fit, places_given, texts_of}
use Rattle.asl_rules.specs.expressions.Exprs.{FoundField, found, typed, values_given, names_given, construct_rule, expr_rule, given_rule, slice_rule, part_rule, bitfield_rule, type_rule, pattern_rule}
use Rattle.asl_rules.specs.values.Values.{Value}
use Rattle.asl_rules.specs.runs.States.{Core}
use Rattle.asl_rules.specs.private.Agreement.{types_in, no_atoms}
use Rattle.asl_rules.specs.values.Structures as runs
use Rattle.asl_rules.specs.types.Shaped.{exprs_in, shapes_in, given_parts, given_layer, itself}
use Rattle.asl_rules.specs.runs.Forms.{behind_all}
use Rattle.asl_rules.specs.runs.ByNames.{types_among}
use Rattle.asl_rules.specs.private.ByPlace as places
use Rattle.asl_rules.specs.private.Erasure.{erased}
use Rattle.asl_rules.proofs.basics.Inversions.{ok_ok, err_ok, bind_ok, then_ok, found_ok}
use Rattle.asl_rules.proofs.basics.Tests.{no, some_same, none_some}
use Rattle.asl_rules.proofs.scopes.Lookups.{same_types}
use Rattle.asl_rules.proofs.scopes.Naming.{FieldsOnce, OnceIn, WellNamed, well_declared, scope_good, type_formed, fields_once}
use Rattle.asl_rules.proofs.basics.Opening.{found_field, field_opened, finish_is}
use Rattle.asl_laws.proofs.scopes.WellTyped.{constructed_type}
use Rattle.asl_rules.proofs.expressions.OperatorForms.{Gives}
use Rattle.asl_rules.proofs.expressions.MemberForms.{no_atoms_in, no_atoms_in_exception}
use Rattle.asl_rules.proofs.values.Constructs.{AllBelong, once_found, fields_shaped, fields_fixed, made, values_at, construct_gives}
use Rattle.asl_laws.proofs.expressions.Claims.{Here, At}
use Rattle.asl_laws.proofs.expressions.TreePlans.{Out, Same, AllAsked, AllGive, asked_of, behind_all_same, list_from}
use Rattle.asl_laws.proofs.expressions.ExprForms.{Formed, formed}
use Rattle.asl_rules.specs.declared.effect.Effect.{Effect}

abbrev Layer : Type 0
Layer = ex.FieldValue-F Bitfield ConstraintPart Expr FieldValue Pattern Slice TypeExpr

abbrev own_name : Layer → Ident
own_name (ex.Given i e) = i

abbrev own_expr : Layer → Expr
own_expr (ex.Given i e) = e

shape_own : (f : FieldValue) → (given_parts f).shape ≡ (own_name (out-FieldValue f)).text
shape_own f = by (out-FieldValue f)
  where
    by : (l : Layer) → (given_layer itself l).shape ≡ (own_name l).text
    by (ex.Given i e) = refl

exprs_own : (f : FieldValue) → (given_parts f).exprs ≡ own_expr (out-FieldValue f) ∷ []
exprs_own f = by (out-FieldValue f)
  where
    by : (l : Layer) → (given_layer itself l).exprs ≡ own_expr l ∷ []
    by (ex.Given i e) = refl

constructed_is : (i : Ident) (o : Option Ty) (c : Constructed) → constructed i o ≡ Ok c → (T : Ty) × (o ≡ Some T) × (constructed_of T ≡ Some c)
constructed_is i None c h = err_ok (fault_of T02 i.span) c h
constructed_is i (Some T) c h = (T, refl, found_ok (constructed_of T) T05 i.span c h)

module _ (d : List ℕ → Option Ty) (w : WellDeclared d) (av : Assignment) (tests : Tests) (right : IsRight tests) where
  -- the fields of a type that is constructed
  record Facts (c : Constructed) : Type 0 where
    pub shaped : ShapedFields d c.fields
    pub once : FieldsOnce c.fields
    pub fixed : fields_with c.fields av ≡ fields_with c.fields no_atoms

  facts : (T : Ty) (c : Constructed) → WellFormed d T → OnceIn (fields_of T) → constructed_of T ≡ Some c → Facts c
  facts (record_of m fs) c t o h = subst Facts (some_same _ c h) (record { shaped = t.shaped.1; once = o; fixed = no_atoms_in d w av tests right m fs t.shaped.0 })
  facts (exception_of m fs) c t o h = no (sym t.has_name)
  facts (named own supers (record_of m fs)) c t o h = subst Facts (some_same _ c h) (record { shaped = t.shaped.2.1; once = o; fixed = no_atoms_in d w av tests right m fs t.shaped.2.0 })
  facts (named own supers (exception_of m fs)) c t o h = subst Facts (some_same _ c h) (record { shaped = t.shaped.2.1; once = o; fixed = no_atoms_in_exception d w av tests right m fs t.shaped.2.0 })
  facts (named own supers (named n others U)) c t o h = no (sym t.shaped.0)
  facts (named own supers T) c t o h = none_some c h
  facts T c t o h = none_some c h

module _ (tests : Tests) (right : IsRight tests) (ds : List Decl) (base : List Entry) (subs : List Signature) (loose : Bool) (funcs : List TreeFunc) (w : WellNamed base) where
  given_is : (f : FieldValue) → found_field tests f ≡ record { name = own_name (out-FieldValue f); value = found tests (own_expr (out-FieldValue f)) }
  given_is f = fold_out-FieldValue FoundBitfield FoundPart Found FoundField FoundPattern FoundSlice FoundType bitfield_rule part_rule (expr_rule tests) given_rule (pattern_rule tests) slice_rule (type_rule tests) f ∙ by (out-FieldValue f)
    where
      by : (l : Layer) → given_rule (field_opened tests l) ≡ record { name = own_name l; value = found tests (own_expr l) }
      by (ex.Given i e) = refl

  names_same : (fs : List FieldValue) → shapes_in given_parts fs ≡ texts_of (names_given (map (found_field tests) fs))
  names_same [] = refl
  names_same (f ∷ fs) =
      ap (λ n. n ∷ shapes_in given_parts fs) (shape_own f ∙ ap (λ (z : FoundField). z.name.text) (sym (given_is f))) ∙ ap (λ ns. (found_field tests f).name.text ∷ ns) (names_same fs)

  pub given_asked : (G : Scope) (fs : List FieldValue) (os : List Operand) → operands (values_given (map (found_field tests) fs)) G ≡ Ok os → AllAsked tests right base subs loose G (exprs_in given_parts fs) (trees_in os) (asked_of tests right base subs loose os)
  given_asked G [] os h = subst (λ z. AllAsked tests right base subs loose G [] (trees_in z) (asked_of tests right base subs loose z)) (ok_ok [] os h) tt
  given_asked G (f ∷ fs) os h =
      let v = (found_field tests f).value in
      let t = bind_ok (v.typed G) _ os h in
      let r = bind_ok (operands (values_given (map (found_field tests) fs)) G) _ os t.then in
      let e = own_expr (out-FieldValue f) in
      let k : typed tests e G ≡ Ok t.value = ap (λ (z : FoundField). z.value.typed G) (sym (given_is f)) ∙ t.first in
      subst (λ z. AllAsked tests right base subs loose G (exprs_in given_parts (f ∷ fs)) (trees_in z) (asked_of tests right base subs loose z)) (ok_ok (operand_at v.span t.value ∷ r.value) os r.then)
      (subst (λ es. AllAsked tests right base subs loose G (es ++ exprs_in given_parts fs) (t.value.tree ∷ trees_in r.value) (asked_of tests right base subs loose (operand_at v.span t.value ∷ r.value))) (sym (exprs_own f)) (k, refl, given_asked G fs r.value r.first))

  belong : (H : Here) (fs : List FieldValue) (os : List Operand) (xs : List Value) → ((e : Expr) (T : Typed) → typed tests e H.scope ≡ Ok T → WellFormed (types_in base) T.ty) → operands (values_given (map (found_field tests) fs)) H.scope ≡ Ok os → AllGive tests right base subs loose H (asked_of tests right base subs loose os) xs →
      AllBelong (types_in base) (well_declared base w) H.present tests right (names_given (map (found_field tests) fs)) os xs
  belong H [] os xs good h g = subst (λ z. AllGive tests right base subs loose H (asked_of tests right base subs loose z) xs → AllBelong (types_in base) (well_declared base w) H.present tests right [] z xs) (ok_ok [] os h) (none xs) g
    where
      none : (xs : List Value) → AllGive tests right base subs loose H [] xs → AllBelong (types_in base) (well_declared base w) H.present tests right [] [] xs
      none [] g = tt
      none (x ∷ xs) g = absurd g
  belong H (f ∷ fs) os xs good h g =
      let v = (found_field tests f).value in
      let t = bind_ok (v.typed H.scope) _ os h in
      let r = bind_ok (operands (values_given (map (found_field tests) fs)) H.scope) _ os t.then in
      let k : typed tests (own_expr (out-FieldValue f)) H.scope ≡ Ok t.value = ap (λ (z : FoundField). z.value.typed H.scope) (sym (given_is f)) ∙ t.first in
      subst (λ z. AllGive tests right base subs loose H (asked_of tests right base subs loose z) xs → AllBelong (types_in base) (well_declared base w) H.present tests right (names_given (map (found_field tests) (f ∷ fs))) z xs) (ok_ok (operand_at v.span t.value ∷ r.value) os r.then) (some t.value v.span r.value (good (own_expr (out-FieldValue f)) t.value k) (λ ys l. belong H fs r.value ys good r.first l) xs) g
    where
      some : (T : Typed) (span : Span) (ps : List Operand) → WellFormed (types_in base) T.ty → ((ys : List Value) → AllGive tests right base subs loose H (asked_of tests right base subs loose ps) ys → AllBelong (types_in base) (well_declared base w) H.present tests right (names_given (map (found_field tests) fs)) ps ys) → (xs : List Value) →
          AllGive tests right base subs loose H (asked_of tests right base subs loose (operand_at span T ∷ ps)) xs → AllBelong (types_in base) (well_declared base w) H.present tests right (names_given (map (found_field tests) (f ∷ fs))) (operand_at span T ∷ ps) xs
      some T span ps u next [] l = absurd l
      some T span ps u next (x ∷ ys) l = (l.0, u, next ys l.1)

  -- a construction that has a type: its operands, where each field finds its value, and that by the names and by the places the same is made
  pub record Constructs (H : Here) (S : Typed) (span : Span) (i : Ident) (fs : List FieldValue) : Type 0 where
    pub operands_are : List Operand
    pub ops : operands (values_given (map (found_field tests) fs)) H.scope ≡ Ok operands_are
    pub made_of : Constructed
    pub fields_given : List FieldGiven
    pub placed : places_given made_of.fields (shapes_in given_parts fs) ≡ Some fields_given
    pub class : Effect
    pub ends : typed_as span made_of.ty class (λ n. tree.Construct n made_of.shell fields_given (trees_of operands_are)) ≡ S
    pub both : (xs : List Value) → AllGive tests right base subs loose H (asked_of tests right base subs loose operands_are) xs →
        (runs.constructed span (types_among base i.text) (shapes_in given_parts fs) xs ≡ places.constructed span made_of.shell fields_given xs) × Gives (types_in base) H.present made_of.ty (runs.constructed span (types_among base i.text) (shapes_in given_parts fs) xs)

  pub constructs : (H : Here) (S : Typed) (span : Span) (i : Ident) (fs : List FieldValue) (c : Core) → ((e : Expr) (T : Typed) → typed tests e H.scope ≡ Ok T → WellFormed (types_in base) T.ty) → construct_rule tests span i (map (found_field tests) fs) H.scope ≡ Ok S → At tests base subs loose H c → Constructs H S span i fs
  constructs H S span i fs c good h a =
      let d = types_in base in
      let wd = well_declared base w in
      let av = H.present in
      let is = names_given (map (found_field tests) fs) in
      let o = bind_ok (operands (values_given (map (found_field tests) fs)) H.scope) _ S h in
      let p = bind_ok (constructed i (type_of_name i.text H.scope.names)) _ S o.then in
      let t = bind_ok (given_once is [] p.value.fields) _ S p.then in
      let f = then_ok (all_fit tests o.value t.value) _ S t.then in
      let g = bind_ok (found_or (places_given p.value.fields (texts_of is)) T15 span) _ S f.then in
      let gs = found_ok (places_given p.value.fields (texts_of is)) T15 span g.value g.first in
      let q = constructed_is i (type_of_name i.text H.scope.names) p.value p.first in
      let T = q.0 in
      let names_good = scope_good av base H.scope.names c w a.agrees in
      let tf : WellFormed d T = type_formed d H.scope.names i.text names_good T q.1 in
      let fx = facts d wd av tests right T p.value tf (fields_once d H.scope.names i.text names_good T q.1) q.2 in
      let here : types_among base i.text ≡ Some (closed T) = ap (option_map closed) (same_types av base H.scope.names c i.text a.agrees ∙ q.1) in
      let k = greater (greatest Pure (effects_of o.value)) Pure in
      let make : Note → Tree = λ n. tree.Construct n p.value.shell g.value (trees_of o.value) in
      let same_ty : T ≡ p.value.ty = constructed_type T p.value q.2 in
      record {
        operands_are = o.value;
        ops = o.first;
        made_of = p.value;
        fields_given = g.value;
        placed = ap (places_given p.value.fields) (names_same fs) ∙ gs;
        class = k;
        ends = finish_is H.scope.class span (all_together Pure (effects_of o.value)) k p.value.ty make S g.then;
        both = λ xs l.
            let b = belong H fs o.value xs good o.first l in
            let m = made d p.value.fields (texts_of is) xs g.value gs (λ n U j u v. let z = once_found n U p.value.fields fx.once u in values_at d wd av tests right is [] o.value t.value xs p.value.fields n U z.place j t.first f.first b v z.is (fields_shaped d n U p.value.fields fx.shaped u) (fields_fixed av n U p.value.fields fx.fixed u)) in
            let r = construct_gives d wd av tests right span T p.value (texts_of is) xs g.value tf q.2 m in
            let e : runs.constructed span (types_among base i.text) (shapes_in given_parts fs) xs ≡ runs.construct span (closed T) (texts_of is) xs = ap (λ o. runs.constructed span o (shapes_in given_parts fs) xs) here ∙ ap (λ ns. runs.construct span (closed T) ns xs) (names_same fs) in
            (e ∙ r.0, subst (Gives d av p.value.ty) (sym e) (subst (λ U. Gives d av U (runs.construct span (closed T) (texts_of is) xs)) same_ty r.1));
      }

  pub construct_formed : (H : Here) (S : Typed) (span : Span) (i : Ident) (fs : List FieldValue) (c : Core) → ((e : Expr) (T : Typed) → typed tests e H.scope ≡ Ok T → WellFormed (types_in base) T.ty) → construct_rule tests span i (map (found_field tests) fs) H.scope ≡ Ok S → At tests base subs loose H c → Formed tests right ds base subs loose funcs w H S (ex.Construct span i fs) c
  construct_formed H S span i fs c good h a =
      let k = constructs H S span i fs c good h a in
      let gives : Value → Value → Core → Type 0 = Out tests right base subs loose H k.made_of.ty in
      let by_name = runs.constructed span (types_among base i.text) (shapes_in given_parts fs) in
      let by_place = places.constructed span k.made_of.shell k.fields_given in
      formed tests right ds base subs loose funcs w H S (ex.Construct span i fs) c span k.made_of.ty k.class (λ n. tree.Construct n k.made_of.shell k.fields_given (trees_of k.operands_are)) k.ends refl
      (subst (λ ts. Same tests right base subs loose H gives (behind_all (exprs_in given_parts fs) c by_name) (behind_all ts (erased c) by_place)) (sym (list_from (trees_in k.operands_are)))
      (behind_all_same tests right base subs loose H k.made_of.ty (exprs_in given_parts fs) (trees_in k.operands_are) (asked_of tests right base subs loose k.operands_are) c by_name by_place (given_asked H.scope fs k.operands_are k.ops) a k.both))
