-- Calls of the library with their typed trees: the parameters are the widths in braces, and both give the same value of the type.
use Rattle.std.proofs.Common.{◌≡◌, suc, Bool, true, List, [], ◌∷◌, length, Option, Some, Ok, refl, sym, ap, ◌∙◌, subst, map}
use Rattle.std.specs.Prelude.{◌==◌}
use Rattle.asl_syn.specs.declared.token.Span.{Span}
use Rattle.asl_syn.specs.declared.code.StaticCode.TheVariants.{T09, T11}
use Rattle.asl_syn.specs.declared.tree.Ident.{Ident}
use Rattle.asl_syn.specs.declared.tree.Expr.{Expr}
use Rattle.asl_syn.specs.declared.tree.Bitfield.TheOpen as ex
use Rattle.asl_syn.specs.declared.tree.Decl.{Decl}
use Rattle.asl_rules.specs.declared.effect.Effect.TheVariants.{Pure}
use Rattle.asl_rules.specs.types.Effects.{all_together, greatest, greater}
use Rattle.asl_rules.specs.Faults.{need}
use Rattle.asl_rules.specs.declarations.Routines.{Routine, routine_named}
use Rattle.asl_rules.specs.Tests.{Tests, IsRight}
use Rattle.asl_rules.specs.types.Types.{Ty, kinds, kinds_eq}
use Rattle.asl_rules.specs.declarations.Scopes.{Entry, Signature}
use Rattle.asl_rules.specs.runs.Trees.{Tree, Note, TreeFunc, of_library}
use Rattle.asl_rules.specs.expressions.Typing.{Typed, Operand, operands, effects_of, types_of, trees_in, trees_of}
use Rattle.asl_rules.specs.expressions.Calls.{routine_params, routine_formals, routine_type, Replacing, replacing, given, written_first, widths_given, polys, routine_taken, call_tree, function_of}
use Rattle.asl_rules.specs.expressions.Exprs.{found, width}
use Rattle.asl_rules.specs.values.Values.{Value}
use Rattle.asl_rules.specs.runs.States.{Core}
use Rattle.asl_rules.specs.private.Agreement.{types_in}
use Rattle.asl_rules.specs.private.WellFormed.{ShapedParts}
use Rattle.asl_rules.specs.runs.Plans.{Faulted, Stuck, Pure as PureOf, Good, Bad, follow}
use Rattle.asl_rules.specs.values.Library.{routine_value}
use Rattle.asl_rules.specs.runs.Forms.{eval_all, call, function_gives, routine_gives}
use Rattle.asl_rules.specs.runs.Evaluation.{Does, called, call_named}
use Rattle.asl_rules.specs.private.TypedMeaning.{BareCore, Runs, list_of, call_of}
use Rattle.asl_rules.specs.private.Erasure.{erased}
use Rattle.asl_rules.proofs.basics.Inversions.{ok_ok, bind_ok, then_ok, need_ok}
use Rattle.asl_rules.proofs.expressions.OperatorForms.{Gives}
use Rattle.asl_rules.proofs.scopes.Naming.{WellNamed}
use Rattle.asl_rules.proofs.basics.Opening.{finish_is}
use Rattle.asl_laws.proofs.expressions.Claims.{Here, Asked, of_width, At}
use Rattle.asl_laws.proofs.expressions.TreePlans.{Same, Out, AllAsked, AllGive, asked_of, operands_asked, all_same, list_from}
use Rattle.asl_laws.proofs.expressions.ExprForms.{env, program, Formed, formed}
use Rattle.asl_laws.proofs.values.Routines.{AllIn, AllWide, routine_in}

module _ (tests : Tests) (right : IsRight tests) (base : List Entry) (subs : List Signature) (loose : Bool) (H : Here) where
  -- expressions in braces, asked for as widths
  pub record WidthsAsked (es : List Expr) (r : Replacing) : Type 0 where
    pub asked : List Asked
    pub asks : AllAsked tests right base subs loose H.scope es r.trees asked
    pub wide : (ys : List Value) → AllGive tests right base subs loose H asked ys → AllWide H.present (polys r.given) ys
    pub no_places : r.places ≡ []
    pub as_many : length (polys r.given) ≡ length (map (found tests) es)

  none_wide : (ys : List Value) → AllGive tests right base subs loose H [] ys → AllWide H.present [] ys
  none_wide [] g = tt
  none_wide (y ∷ ys) g = absurd g

  pub widths_asked : (es : List Expr) (r : Replacing) → widths_given (map (found tests) es) H.scope ≡ Ok r → WidthsAsked es r
  widths_asked [] r h = subst (WidthsAsked []) (ok_ok (replacing [] [] []) r h) (record { asked = []; asks = tt; wide = none_wide; no_places = refl; as_many = refl })
  widths_asked (e ∷ es) r h =
      let u = bind_ok (width tests e H.scope) _ r h in
      let v = bind_ok (widths_given (map (found tests) es) H.scope) _ r u.then in
      let rest = widths_asked es v.value v.first in
      subst (WidthsAsked (e ∷ es)) (ok_ok (written_first (given u.value.poly (found tests e).span) u.value.tree v.value) r v.then)
      (record { asked = of_width u.value ∷ rest.asked; asks = (u.first, refl, rest.asks); wide = next rest.asked u.value (polys v.value.given) rest.wide; no_places = rest.no_places; as_many = ap suc rest.as_many })
    where
      next : (qs : List Asked) (W : _) (ps : List _) → ((ys : List Value) → AllGive tests right base subs loose H qs ys → AllWide H.present ps ys) → (ys : List Value) → AllGive tests right base subs loose H (of_width W ∷ qs) ys → AllWide H.present (W.poly ∷ ps) ys
      next qs W ps k [] g = absurd g
      next qs W ps k (y ∷ ys) g = (g.0, k ys g.1)

  -- values of operands
  pub all_in : (os : List Operand) (xs : List Value) → AllGive tests right base subs loose H (asked_of tests right base subs loose os) xs → AllIn (types_in base) H.present (types_of os) xs
  all_in [] [] g = tt
  all_in [] (x ∷ xs) g = absurd g
  all_in (o ∷ os) [] g = absurd g
  all_in (o ∷ os) (x ∷ xs) g = (g.0, all_in os xs g.1)

  -- parameters and then arguments, and what is called with them
  pub called_same : {A B : Type 0} (Q : A → B → Core → Type 0) (ps es : List Expr) (ts us : List Tree) (qs rs : List Asked) (c : Core) (f : List Value → List Value → Core → Does (Option Value)) (g : List Value → List Value → BareCore → Runs (Option Value)) (k : Option Value → Core → Does A) (l : Option Value → BareCore → Runs B) →
      AllAsked tests right base subs loose H.scope ps ts qs → AllAsked tests right base subs loose H.scope es us rs → At tests base subs loose H c →
      ((ys xs : List Value) (c2 : Core) → AllGive tests right base subs loose H qs ys → AllGive tests right base subs loose H rs xs → At tests base subs loose H c2 → Same tests right base subs loose H Q (follow (f ys xs c2) k) (follow (g ys xs (erased c2)) l)) →
      Same tests right base subs loose H Q (call ps es c f k) (call ts us (erased c) g l)
  called_same Q ps es ts us qs rs c f g k l h i a next =
      all_same tests right base subs loose H Q ps ts qs [] c (λ ys c1. eval_all es [] c1 (λ xs c2. follow (f ys xs c2) k)) (λ ys c1. eval_all us [] c1 (λ xs c2. follow (g ys xs c2) l)) h a (λ ys c1 v a1.
      all_same tests right base subs loose H Q es us rs [] c1 (λ xs c2. follow (f ys xs c2) k) (λ xs c2. follow (g ys xs c2) l) i a1 (λ xs c2 u a2. next ys xs c2 v u a2))

  routine_same : (U : Ty) (span : Span) (r : PureOf Value) (c : Core) → Gives (types_in base) H.present U r → At tests base subs loose H c → Same tests right base subs loose H (Out tests right base subs loose H U) (follow (routine_gives r c) (function_gives span)) (follow (routine_gives r (erased c)) (function_gives span))
  routine_same U span (Good x) c g a = (refl, (refl, (refl, (g, a))))
  routine_same U span (Bad (Faulted code at)) c g a = (refl, refl, a.agrees.globals)
  routine_same U span (Bad (Stuck mistake at)) c g a = absurd g

module _ (tests : Tests) (right : IsRight tests) (ds : List Decl) (base : List Entry) (subs : List Signature) (loose : Bool) (funcs : List TreeFunc) (w : WellNamed base) where
  pub library_formed : (H : Here) (S : Typed) (span : Span) (i : Ident) (ps es : List Expr) (os : List Operand) (r : Routine) (c : Core) →
      ShapedParts (types_in base) (types_of os) → routine_named i.text ≡ Some r → operands (map (found tests) es) H.scope ≡ Ok os →
      function_of tests span i (map (found tests) ps) os H.scope (Some r) ≡ Ok S → At tests base subs loose H c →
      Formed tests right ds base subs loose funcs w H S (ex.Call span i ps es) c
  library_formed H S span i ps es os r c shaped name o h a =
      let t = then_ok (routine_taken span r os) _ S h in
      let n = then_ok (need (length (map (found tests) ps) == routine_params r) T11 span) _ S t.then in
      let v = bind_ok (widths_given (map (found tests) ps) H.scope) _ S n.then in
      let q = widths_asked tests right base subs loose H ps v.value v.first in
      let taken : kinds_eq (routine_formals r) (kinds (types_of os)) ≡ true = need_ok (kinds_eq (routine_formals r) (kinds (types_of os))) T09 span tt t.first in
      let many : (length (polys v.value.given) == routine_params r) ≡ true = ap (λ m. m == routine_params r) q.as_many ∙ need_ok (length (map (found tests) ps) == routine_params r) T11 span tt n.first in
      let U : Ty = routine_type r (polys v.value.given) (types_of os) in
      let k = greater (greatest Pure (effects_of os)) Pure in
      let make : Note → Tree = call_tree (of_library r) v.value os in
      let f : List Value → List Value → Core → Does (Option Value) = called (env tests right ds base subs loose funcs w) span i.text in
      let g : List Value → List Value → BareCore → Runs (Option Value) = call_of (program tests right ds base subs loose funcs w) span (of_library r) v.value.places in
      formed tests right ds base subs loose funcs w H S (ex.Call span i ps es) c span U k make (finish_is H.scope.class span (all_together Pure (effects_of os)) k U make S v.then) refl
      (subst (λ ts. Same tests right base subs loose H (Out tests right base subs loose H U) (call ps es c f (function_gives span)) (call ts (list_of (trees_of os)) (erased c) g (function_gives span))) (sym (list_from v.value.trees))
      (subst (λ us. Same tests right base subs loose H (Out tests right base subs loose H U) (call ps es c f (function_gives span)) (call v.value.trees us (erased c) g (function_gives span))) (sym (list_from (trees_in os)))
      (called_same tests right base subs loose H (Out tests right base subs loose H U) ps es v.value.trees (trees_in os) q.asked (asked_of tests right base subs loose os) c f g (function_gives span) (function_gives span) q.asks (operands_asked tests right base subs loose H.scope es os o) a
      (λ ys xs c2 y x a2.
      subst (λ z. Same tests right base subs loose H (Out tests right base subs loose H U) (follow (call_named (env tests right ds base subs loose funcs w) span i.text ys xs c2 z) (function_gives span)) (follow (routine_gives (routine_value tests.limit span r ys xs) (erased c2)) (function_gives span))) (sym name)
      (routine_same tests right base subs loose H U span (routine_value tests.limit span r ys xs) c2
      (routine_in (types_in base) H.present tests right span r (polys v.value.given) (types_of os) ys xs (q.wide ys y) many
      (all_in tests right base subs loose H os xs x) shaped taken) a2)))))
