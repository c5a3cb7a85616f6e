-- In a state that agrees with a scope, a type that is written at a place is the type that was judged, at the integers of the state.
use Rattle.std.proofs.Common.{◌≡◌, Bool, List, [], ◌∷◌, Some, option_map, Ok, refl, sym, ap, ◌∙◌}
use Rattle.std.specs.Prelude.{option_and_then}
use Rattle.asl_syn.specs.declared.tree.Expr.{Expr}
use Rattle.asl_syn.specs.declared.tree.TypeExpr.{TypeExpr}
use Rattle.asl_syn.specs.declared.tree.Decl.{Decl}
use Rattle.asl_poly.specs.Fractions.{Fraction}
use Rattle.asl_rules.specs.Tests.{Tests, IsRight}
use Rattle.asl_rules.specs.types.Closed.{Assignment, Closed, type_with}
use Rattle.asl_rules.specs.types.Present.{Taken, present_type}
use Rattle.asl_rules.specs.types.Present.{type_by as shape_by}
use Rattle.asl_rules.specs.declarations.Scopes.{Scope, Entry, Signature}
use Rattle.asl_rules.specs.runs.Trees.{Tree, TreeFunc}
use Rattle.asl_rules.specs.types.Writing.{Written}
use Rattle.asl_rules.specs.expressions.Exprs.{written}
use Rattle.asl_rules.specs.types.Numbers.{Numbers, fraction, wholes, all_fractions, present}
use Rattle.asl_rules.specs.types.Shaped.{type_parts, shape_of}
use Rattle.asl_rules.specs.runs.ByNames.{types_among}
use Rattle.asl_rules.specs.runs.States.{Core}
use Rattle.asl_rules.specs.private.Agreement.{types_in, Agrees}
use Rattle.asl_rules.specs.runs.Evaluation.{type_at}
use Rattle.asl_rules.proofs.scopes.Lookups.{same_types}
use Rattle.asl_rules.proofs.scopes.Naming.{WellNamed, scope_good, type_fixed}
use Rattle.asl_rules.proofs.widths.WidthsHeld.{CountsHeld}
use Rattle.asl_laws.proofs.expressions.Claims.{Here, Asked, of_type, of_pure, of_width, of_number, of_known, of_divisor, nothing_around}
use Rattle.asl_laws.proofs.expressions.TreePlans.{AllAsked, append_nil}
use Rattle.asl_laws.proofs.expressions.AskedFractions.{AllRatios}
use Rattle.asl_laws.proofs.expressions.ExprForms.{env}
use Rattle.asl_laws.proofs.expressions.SizeForms.{AllNumeric, type_says}
use Rattle.asl_laws.proofs.widths.PresentNumbers.{NumbersAgree, width_has, number_has, CountedFixed, counts_held, present_agree}

module _ (tests : Tests) (right : IsRight tests) (base : List Entry) (subs : List Signature) (loose : Bool) (H : Here) (f : Numbers)
    (g : NumbersAgree f H.present H.scope) (k : CountsHeld H.scope.names) where
  -- the fractions of expressions
  pub record Numbered (es : List Expr) (qs : List Asked) : Type 0 where
    pub values : List Fraction
    pub are : all_fractions (wholes f) es ≡ Some values
    pub ratios : AllRatios H.present qs values

  one_more : (e : Expr) (es : List Expr) (r : Fraction) (rs : List Fraction) → fraction e (wholes f) ≡ Some r →
      all_fractions (wholes f) es ≡ Some rs →
      all_fractions (wholes f) (e ∷ es) ≡ Some (r ∷ rs)
  one_more e es r rs h n =
      ap (option_and_then (λ x. option_map (λ xs. x ∷ xs) (all_fractions (wholes f) es))) h ∙ ap (option_map (λ l. r ∷ l)) n

  pub numbered : (es : List Expr) (ts : List Tree) (qs : List Asked) → AllAsked tests right base subs loose H.scope es ts qs →
      AllNumeric qs → Numbered es qs
  numbered [] [] [] h n = record { values = []; are = refl; ratios = tt }
  numbered (e ∷ es) (t ∷ ts) (of_width W ∷ qs) h n =
      let r = numbered es ts qs h.2 n.1 in
      let x = width_has f H.present tests e H.scope W g k h.0 in
      record { values = x.number ∷ r.values; are = one_more e es x.number r.values x.is r.are; ratios = ((x.held, x.proper, x.same), r.ratios) }
  numbered (e ∷ es) (t ∷ ts) (of_number N ∷ qs) h n =
      let r = numbered es ts qs h.2 n.1 in
      let x = number_has f H.present tests e H.scope N g h.0 in
      record { values = x.number ∷ r.values; are = one_more e es x.number r.values x.is r.are; ratios = ((x.proper, x.same), r.ratios) }
  numbered (e ∷ es) (t ∷ ts) (of_type S ∷ qs) h n = absurd n.0
  numbered (e ∷ es) (t ∷ ts) (of_pure S ∷ qs) h n = absurd n.0
  numbered (e ∷ es) (t ∷ ts) (of_known S W ∷ qs) h n = absurd n.0
  numbered (e ∷ es) (t ∷ ts) (of_divisor span m ∷ qs) h n = absurd n.0
  numbered [] [] (q ∷ qs) h n = absurd h
  numbered [] (t ∷ ts) qs h n = absurd h
  numbered (e ∷ es) [] qs h n = absurd h
  numbered (e ∷ es) (t ∷ ts) [] h n = absurd h

module _ (tests : Tests) (right : IsRight tests) (ds : List Decl) (base : List Entry) (subs : List Signature) (loose : Bool) (funcs : List TreeFunc) (w : WellNamed base) where
  -- the type that is written, where the names of its scope have their numbers
  pub type_by : (H : Here) (f : Numbers) (c : Core) (t : TypeExpr) (outside : Bool) (W : Written) → NumbersAgree f H.present H.scope → Agrees base H.scope.names H.present c → written tests t outside H.scope ≡ Ok W →
      type_at (env tests right ds base subs loose funcs w) f t ≡ Some (type_with W.ty H.present)
  type_by H f c t outside W g a h =
      let good = scope_good H.present base H.scope.names c w a in
      let q = type_says tests right base subs loose H (λ name T o. type_fixed (types_in base) H.scope.names name good T o) (λ name. same_types H.present base H.scope.names c name a) t outside W h in
      let v =
      numbered tests right base subs loose H f g (counts_held H.present base H.scope.names c a)
      (type_parts t).exprs W.sizes q.asked q.asks q.numeric in
      ap (option_and_then (λ rs. present_type rs (shape_of (types_among base) t))) v.are
      ∙ ap (present_type v.values) q.shape_is
      ∙ ap (λ l. option_map (λ (x : Taken Closed). x.made) (shape_by W.shape l)) (sym (append_nil v.values))
      ∙ ap (option_map (λ (x : Taken Closed). x.made)) (q.present v.values [] v.ratios)

  abbrev over : Scope → Assignment → Here
  over G av = record { scope = G; present = av; around = nothing_around }

  -- in a state
  pub type_present : (G : Scope) (av : Assignment) (c : Core) (t : TypeExpr) (outside : Bool) (W : Written) → CountedFixed G.names → Agrees base G.names av c → written tests t outside G ≡ Ok W → type_at (env tests right ds base subs loose funcs w) (present c) t ≡ Some (type_with W.ty av)
  type_present G av c t outside W k a h = type_by (over G av) (present c) c t outside W (present_agree av base G c k a) a h
