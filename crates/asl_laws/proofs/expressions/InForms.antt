-- `IN` with its typed tree: both do the same, and give a boolean.
use Rattle.std.proofs.Common.{◌≡◌, ◌||◌, Bool, false, List, [], Ok, refl, sym, ap, subst}
use Rattle.asl_syn.specs.declared.token.Span.{Span}
use Rattle.asl_syn.specs.declared.tree.Expr.{Expr}
use Rattle.asl_syn.specs.declared.tree.Pattern.{Pattern}
use Rattle.asl_syn.specs.declared.tree.Bitfield.TheOpen as ex
use Rattle.asl_syn.specs.declared.tree.Decl.{Decl}
use Rattle.asl_rules.specs.declared.effect.Effect.TheVariants.{Pure}
use Rattle.asl_rules.specs.Tests.{Tests, IsRight}
use Rattle.asl_rules.specs.types.Types.{boolean}
use Rattle.asl_rules.specs.declarations.Scopes.{Entry, Signature, with_class}
use Rattle.asl_rules.specs.types.Shaped.{pattern_parts}
use Rattle.asl_rules.specs.runs.Trees as tree
use Rattle.asl_rules.specs.runs.Trees.{Note, Tree, TreeFunc}
use Rattle.asl_rules.specs.expressions.Typing.{Typed, trees_from}
use Rattle.asl_rules.specs.expressions.Patterns.{in_rule}
use Rattle.asl_rules.specs.expressions.Exprs.{found, typed, found_pattern}
use Rattle.asl_rules.specs.values.Values.{Value, bool}
use Rattle.asl_rules.specs.runs.States.{Core}
use Rattle.asl_rules.specs.private.Agreement.{types_in}
use Rattle.asl_rules.specs.runs.Plans.{Faulted, Stuck, Pure as PureOf, Good, Bad}
use Rattle.asl_rules.specs.runs.Pures.{◌>>=◌}
use Rattle.asl_rules.specs.values.Matching.{Matched, matched, matches}
use Rattle.asl_rules.specs.runs.ByNames.{matched_in}
use Rattle.asl_rules.specs.runs.Forms.{behind_more}
use Rattle.asl_rules.specs.private.Erasure.{erased}
use Rattle.asl_rules.proofs.basics.Inversions.{bind_ok}
use Rattle.asl_rules.proofs.scopes.Naming.{WellNamed, well_declared}
use Rattle.asl_rules.proofs.expressions.OperatorForms.{Gives}
use Rattle.asl_rules.proofs.basics.Opening.{in_class_is}
use Rattle.asl_laws.proofs.expressions.Claims.{Here, At}
use Rattle.asl_laws.proofs.expressions.TreePlans.{Out, Same, behind_more_same, append_nil, list_from}
use Rattle.asl_laws.proofs.expressions.MatchForms.{Decided, pattern_says}
use Rattle.asl_laws.proofs.expressions.ExprForms.{Formed, formed}
use Rattle.asl_rules.specs.private.WellFormed.{WellFormed}

module _ (tests : Tests) (right : IsRight tests) (ds : List Decl) (base : List Entry) (subs : List Signature) (loose : Bool) (funcs : List TreeFunc) (w : WellNamed base) where
  decided_gives : (H : Here) (r : PureOf Matched) → Decided r [] → Gives (types_in base) H.present boolean (((r >>= λ m. matched false m.left >>= λ n. matched (m.holds || n.holds) n.left) >>= λ m. Good m.holds) >>= λ b. Good (bool b))
  decided_gives H (Good m) h = (refl, tt, refl)
  decided_gives H (Bad (Faulted code span)) h = tt
  decided_gives H (Bad (Stuck mistake span)) h = absurd h

  pub in_formed : (H : Here) (S : Typed) (span : Span) (e : Expr) (p : Pattern) (c : Core) → ((T : Typed) → typed tests e H.scope ≡ Ok T → WellFormed (types_in base) T.ty) → ((f : Expr) (T : Typed) → typed tests f (with_class H.scope Pure) ≡ Ok T → WellFormed (types_in base) T.ty) → in_rule span (found tests e) (found_pattern tests p) H.scope ≡ Ok S → At tests base subs loose H c → Formed tests right ds base subs loose funcs w H S (ex.In span e p) c
  in_formed H S span e p c good pure_good h a =
      let t = bind_ok (typed tests e H.scope) _ S h in
      let m = bind_ok (found_pattern tests p t.value.ty (with_class H.scope Pure)) _ S t.then in
      let q = pattern_says tests right base subs loose H p t.value.ty m.value (record { declared = well_declared base w; formed = pure_good }) (good t.value t.first).shaped m.first in
      let make : Note → Tree = λ n. tree.In n t.value.tree m.value.shape (trees_from m.value.trees) in
      let f : Value → List Value → PureOf Value = λ x zs. matched_in tests.limit (pattern_parts p).shape zs x in
      let g : Value → List Value → PureOf Value = λ x zs. matched_in tests.limit m.value.shape zs x in
      formed tests right ds base subs loose funcs w H S (ex.In span e p) c span boolean t.value.effect make (in_class_is H.scope.class span t.value.effect boolean make S m.then) refl
      (subst (λ ts. Same tests right base subs loose H (Out tests right base subs loose H boolean) (behind_more e (pattern_parts p).exprs c f) (behind_more t.value.tree ts (erased c) g)) (sym (list_from m.value.trees))
      (behind_more_same tests right base subs loose H boolean e t.value (pattern_parts p).exprs m.value.trees q.asked c f g t.first q.asks a
      (λ x xs i l.
      let e2 : f x xs ≡ g x xs = ap (λ s. matched_in tests.limit s xs x) q.shape_is in (
        e2,
        subst (Gives (types_in base) H.present boolean) (sym e2)
            (decided_gives H (matches tests.limit m.value.shape x xs) (subst (λ zs. Decided (matches tests.limit m.value.shape x zs) []) (append_nil xs) (q.decides x xs [] i l))),
      ))))
