-- All forms of expression with their typed trees, where calls of the program's functions do the same.
use Rattle.std.proofs.Common.{◌≡◌, Bool, true, List, [], ◌∷◌, Option, Some, None, Ok, refl, sym, ap, ◌∙◌, subst, map}
use Rattle.asl_syn.specs.declared.token.Span.{Span}
use Rattle.asl_syn.specs.declared.tree.Ident.{Ident}
use Rattle.asl_syn.specs.declared.tree.Expr.{Expr, out-Expr}
use Rattle.asl_syn.specs.declared.tree.Bitfield.TheOpen as ex
use Rattle.asl_syn.specs.declared.tree.Decl.{Decl}
use Rattle.asl_syn.specs.Layers.{ExprLayer}
use Rattle.asl_rules.specs.declared.effect.Effect.TheVariants.{Pure}
use Rattle.asl_rules.specs.Tests.{Tests, IsRight}
use Rattle.asl_rules.specs.Faults.{need}
use Rattle.asl_rules.specs.declarations.Scopes.{Entry, Signature, with_class, standing_of, is_subprogram}
use Rattle.asl_rules.specs.private.WellFormed.{WellFormed, ShapedParts}
use Rattle.asl_rules.specs.runs.Trees.{TreeFunc, tree_at}
use Rattle.asl_rules.specs.expressions.Typing.{Found, Typed, Operand, operand, operands, types_of}
use Rattle.asl_rules.specs.expressions.Calls.{call_begun, function_of, function_rule}
use Rattle.asl_rules.specs.declarations.Routines.{Routine, routine_named}
use Rattle.asl_rules.specs.expressions.Exprs.{found, typed, typed_rule, span_of}
use Rattle.asl_rules.specs.runs.States.{Core}
use Rattle.asl_rules.specs.private.Agreement.{types_in}
use Rattle.asl_rules.specs.runs.Evaluation.{expr_node}
use Rattle.asl_rules.specs.private.TypedMeaning.{tree_node}
use Rattle.asl_rules.specs.private.Erasure.{erased}
use Rattle.asl_rules.proofs.scopes.Naming.{WellNamed, well_declared, scope_good}
use Rattle.asl_laws.proofs.scopes.WellTyped.{FormedSubs, typed_formed}
use Rattle.asl_rules.proofs.basics.Opening.{opened, unrolled}
use Rattle.asl_laws.proofs.expressions.Twins.{twins_weaker}
use Rattle.asl_laws.proofs.expressions.Claims.{Here, Asked, of_type, of_pure, of_width, of_number, of_known, of_divisor, tree_asked, Answers, GivesAsked, At, our}
use Rattle.asl_laws.proofs.expressions.Standing.{stands_lesser, thrown_lesser}
use Rattle.asl_laws.proofs.expressions.TreePlans.{Out, Throws, Same}
use Rattle.asl_laws.proofs.expressions.ExprForms.{env, program, Formed, int_formed, bool_formed, bits_formed, name_formed, operation_formed, two_formed, conditional_formed, tuple_formed, element_formed}
use Rattle.asl_laws.proofs.expressions.FieldForms.{field_formed, bitfields_formed}
use Rattle.asl_laws.proofs.expressions.ConstructForms.{construct_formed}
use Rattle.asl_laws.proofs.expressions.InForms.{in_formed}
use Rattle.asl_laws.proofs.expressions.AsForms.{as_formed}
use Rattle.asl_laws.proofs.expressions.SliceForms.{slices_formed}
use Rattle.asl_laws.proofs.expressions.CallForms.{library_formed}
use Rattle.asl_rules.proofs.basics.Inversions.{ok_ok, bind_ok, then_ok, need_ok}
use Rattle.asl_syn.specs.declared.code.StaticCode.TheVariants.{T02}
use Rattle.asl_laws.proofs.expressions.WidthTrees.{width_formed, number_formed, known_formed, divisor_formed}

module _ (tests : Tests) (right : IsRight tests) (ds : List Decl) (base : List Entry) (subs : List Signature) (loose : Bool) (funcs : List TreeFunc) (w : WellNamed base) (s : FormedSubs tests right (types_in base) (well_declared base w) subs) where
  -- calls of the program's functions, whose proof stands elsewhere
  pub record Others : Type 0 where
    pub own : (H : Here) (S : Typed) (e : Expr) (span : Span) (i : Ident) (ps es : List Expr) (os : List Operand) (c : Core) → typed tests e H.scope ≡ Ok S → routine_named i.text ≡ None → is_subprogram (standing_of i.text H.scope.names) ≡ true → operands (map (found tests) es) H.scope ≡ Ok os → function_of tests span i (map (found tests) ps) os H.scope None ≡ Ok S → At tests base subs loose H c → Formed tests right ds base subs loose funcs w H S (ex.Call span i ps es) c

  pub good : (H : Here) (c : Core) → At tests base subs loose H c → (e : Expr) (T : Typed) → typed tests e H.scope ≡ Ok T → WellFormed (types_in base) T.ty
  good H c a e T h =
      typed_formed tests right (types_in base) (well_declared base w) e H.scope T (scope_good H.present base H.scope.names c w a.agrees) (subst (FormedSubs tests right (types_in base) (well_declared base w)) (sym a.subs_are) s) h

  -- the types of operands are well formed
  all_good : (H : Here) (c : Core) → At tests base subs loose H c → (es : List Expr) (os : List Operand) →
      operands (map (found tests) es) H.scope ≡ Ok os → ShapedParts (types_in base) (types_of os)
  all_good H c a [] os h = subst (λ l. ShapedParts (types_in base) (types_of l)) (ok_ok [] os h) tt
  all_good H c a (e ∷ es) os h =
      let u = bind_ok (typed tests e H.scope) _ os h in
      let v = bind_ok (operands (map (found tests) es) H.scope) _ os u.then in
      let f = good H c a e u.value u.first in
      subst (λ l. ShapedParts (types_in base) (types_of l)) (ok_ok (operand (found tests e).span u.value ∷ v.value) os v.then)
      (f.has_name, f.shaped, all_good H c a es v.value v.first)

  call_by : Others → (H : Here) (S : Typed) (e : Expr) (span : Span) (i : Ident) (ps es : List Expr) (os : List Operand) (r : Option Routine) (c : Core) → typed tests e H.scope ≡ Ok S → routine_named i.text ≡ r → is_subprogram (standing_of i.text H.scope.names) ≡ true → operands (map (found tests) es) H.scope ≡ Ok os → function_of tests span i (map (found tests) ps) os H.scope r ≡ Ok S → At tests base subs loose H c → Formed tests right ds base subs loose funcs w H S (ex.Call span i ps es) c
  call_by o H S e span i ps es os (Some r) c t q p g h a =
      library_formed tests right ds base subs loose funcs w H S span i ps es os r c (all_good H c a es os g) q g h a
  call_by o H S e span i ps es os None c t q p g h a = o.own H S e span i ps es os c t q p g h a

  call_formed : Others → (H : Here) (S : Typed) (e : Expr) (span : Span) (i : Ident) (ps es : List Expr) (c : Core) → typed tests e H.scope ≡ Ok S → function_rule tests span i (map (found tests) ps) (map (found tests) es) H.scope ≡ Ok S → At tests base subs loose H c → Formed tests right ds base subs loose funcs w H S (ex.Call span i ps es) c
  call_formed o H S e span i ps es c t h a =
      let b = bind_ok (call_begun i (map (found tests) es) H.scope) _ S h in
      let g = bind_ok (operands (map (found tests) es) H.scope) _ b.value b.first in
      let n = then_ok (need (is_subprogram (standing_of i.text H.scope.names)) T02 i.span) (Ok g.value) b.value g.then in
      call_by o H S e span i ps es b.value (routine_named i.text) c t refl (need_ok (is_subprogram (standing_of i.text H.scope.names)) T02 i.span tt n.first) (g.first ∙ n.then) b.then a

  -- the class of a scope is nothing to a state
  abbrev in_pure : Here → Here
  in_pure H = record { scope = with_class H.scope Pure; present = H.present; around = H.around }

  into_pure : (H : Here) (c : Core) → At tests base subs loose H c → At tests base subs loose (in_pure H) c
  into_pure H c a = record { agrees = a.agrees; subs_are = a.subs_are; around_is = a.around_is; stands = stands_lesser tests base subs loose Pure H.scope.class H.around refl a.stands; counted = a.counted }

  from_pure : (H : Here) (c c1 : Core) → At tests base subs loose H c → At tests base subs loose (in_pure H) c1 → At tests base subs loose H c1
  from_pure H c c1 a b = record { agrees = b.agrees; subs_are = b.subs_are; around_is = b.around_is; stands = a.stands; counted = a.counted }

  layer_formed : Others → (H : Here) (S : Typed) (x : Expr) (layer : ExprLayer) (c : Core) → typed tests x H.scope ≡ Ok S → typed_rule tests (opened tests layer) H.scope ≡ Ok S → At tests base subs loose H c → Formed tests right ds base subs loose funcs w H S layer c
  layer_formed o H S x (ex.Int span n) c k h a = int_formed tests right ds base subs loose funcs w H S span n c h a
  layer_formed o H S x (ex.Bits span t) c k h a = bits_formed tests right ds base subs loose funcs w H S span t c h a
  layer_formed o H S x (ex.Bool span b) c k h a = bool_formed tests right ds base subs loose funcs w H S span b c h a
  layer_formed o H S x (ex.Name span name) c k h a = name_formed tests right ds base subs loose funcs w H S span name c h a
  layer_formed o H S x (ex.Unary span u e) c k h a =
      operation_formed tests right ds base subs loose funcs w H S span u e c (good H c a e) h a
  layer_formed o H S x (ex.Binary span b e f) c k h a = two_formed tests right ds base subs loose funcs w H S span b e f c (good H c a) h a
  layer_formed o H S x (ex.Conditional span e f g) c k h a = conditional_formed tests right ds base subs loose funcs w H S span e f g c (good H c a) h a
  layer_formed o H S x (ex.Tuple span es) c k h a = tuple_formed tests right ds base subs loose funcs w H S span es c h a
  layer_formed o H S x (ex.Construct span i fs) c k h a = construct_formed tests right ds base subs loose funcs w H S span i fs c (good H c a) h a
  layer_formed o H S x (ex.Call span i ps es) c k h a = call_formed o H S x span i ps es c k h a
  layer_formed o H S x (ex.Field span e i) c k h a = field_formed tests right ds base subs loose funcs w H S span e i c (good H c a e) h a
  layer_formed o H S x (ex.Fields span e is) c k h a = bitfields_formed tests right ds base subs loose funcs w H S span e is c (good H c a e) h a
  layer_formed o H S x (ex.Slices span e ss) c k h a = slices_formed tests right ds base subs loose funcs w H S span e ss c h a
  layer_formed o H S x (ex.Element span e i) c k h a = element_formed tests right ds base subs loose funcs w H S span e i c h a
  layer_formed o H S x (ex.As span e t) c k h a = as_formed tests right ds base subs loose funcs w H S span e t c (good H c a e) h a
  layer_formed o H S x (ex.In span e p) c k h a = in_formed tests right ds base subs loose funcs w H S span e p c (good H c a e) (good (in_pure H) c (into_pure H c a)) h a

  expr_formed : Others → (H : Here) (S : Typed) (e : Expr) (c : Core) → typed tests e H.scope ≡ Ok S → At tests base subs loose H c → Formed tests right ds base subs loose funcs w H S (out-Expr e) c
  expr_formed o H S e c h a = layer_formed o H S e (out-Expr e) c h (sym (ap (λ (f : Found). f.typed H.scope) (unrolled tests e)) ∙ h) a

  -- what is asked of an expression, where it stands and what it does
  pub record Does_asked (H : Here) (q : Asked) (e : Expr) (c : Core) : Type 0 where
    pub at : span_of (out-Expr e) ≡ tree_at (tree_asked q)
    pub does : Same tests right base subs loose H (λ x y c1. (x ≡ y) × (GivesAsked (types_in base) H.present q x × At tests base subs loose H c1)) (expr_node (env tests right ds base subs loose funcs w) (out-Expr e) c) (tree_node (program tests right ds base subs loose funcs w) (tree_asked q) (erased c))

  pub asked_formed : Others → (H : Here) (q : Asked) (e : Expr) (c : Core) → Answers tests q e H.scope → At tests base subs loose H c → Does_asked H q e c
  asked_formed o H (of_type S) e c h a = let f = expr_formed o H S e c h a in record { at = f.at; does = f.does }
  asked_formed o H (of_pure S) e c h a =
      let f = expr_formed o (in_pure H) S e c h (into_pure H c a) in
      record {
        at = f.at;
        does = twins_weaker (our tests base subs loose) (Out tests right base subs loose (in_pure H) S.ty) (λ x y c1. (x ≡ y) × (GivesAsked (types_in base) H.present (of_pure S) x × At tests base subs loose H c1)) (Throws tests right base subs loose (in_pure H)) (Throws tests right base subs loose H)
            (λ x y c1 k. (k.0, (k.1.0, from_pure H c c1 a k.1.1))) (λ x c1 k. thrown_lesser tests base subs loose Pure H.scope.class H.scope.names H.present H.around x c1 refl k) (expr_node (env tests right ds base subs loose funcs w) (out-Expr e) c) (tree_node (program tests right ds base subs loose funcs w) S.tree (erased c)) f.does;
      }
  asked_formed o H (of_width W) e c h a = let f = width_formed tests right ds base subs loose funcs w H W e c h a in record { at = f.at; does = f.does }
  asked_formed o H (of_number N) e c h a = let f = number_formed tests right ds base subs loose funcs w H N e c h a in record { at = f.at; does = f.does }
  asked_formed o H (of_known S W) e c h a = let f = known_formed tests right ds base subs loose funcs w H S W e c h.0 h.1 a in record { at = f.at; does = f.does }
  asked_formed o H (of_divisor span k) e c h a =
      let f = divisor_formed tests right ds base subs loose funcs w H span k e c h.0 h.1 a in record { at = f.at; does = f.does }
