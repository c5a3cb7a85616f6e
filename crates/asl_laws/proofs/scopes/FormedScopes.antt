-- In scopes whose names have well-formed types, expressions have such types; statements, loops and catchers keep such scopes; and
-- so do declarations and signatures, in programs that are refused too.
use Rattle.std.specs.Prelude.{if◌then◌else◌, ◌||◌}
use Rattle.std.proofs.Common.{◌≡◌, ℕ, Bool, true, false, List, [], ◌∷◌, ◌++◌, Option, Some, None, Result, Ok, Err, inl, inr, refl, ap, subst}
use Rattle.asl_syn.specs.declared.token.Span.{Span}
use Rattle.asl_syn.specs.declared.code.Fault.{Fault}
use Rattle.asl_syn.specs.declared.code.StaticCode.TheVariants.{T01, T05}
use Rattle.asl_syn.specs.declared.tree.Bind.{Bind}
use Rattle.asl_syn.specs.declared.tree.Bind.TheVariants.{Single, Several}
use Rattle.asl_syn.specs.declared.tree.Binder.{Binder}
use Rattle.asl_syn.specs.declared.tree.Binder.TheVariants.{Bound, Unbound}
use Rattle.asl_syn.specs.declared.tree.Direction.{Direction}
use Rattle.asl_syn.specs.declared.tree.Direction.TheVariants.{Up, Down}
use Rattle.asl_syn.specs.declared.tree.Expr.{Expr}
use Rattle.asl_syn.specs.declared.tree.Ident.{Ident}
use Rattle.asl_syn.specs.declared.tree.LocalKind.{LocalKind}
use Rattle.asl_syn.specs.declared.tree.LocalKind.TheVariants as local
use Rattle.asl_syn.specs.declared.tree.TypeExpr.{TypeExpr}
use Rattle.asl_rules.specs.Faults.{need, found_or}
use Rattle.asl_rules.specs.Tests.{Tests, IsRight}
use Rattle.asl_rules.specs.types.Types.{Ty, Parts, tuple_of, named, no_part, part, tuple_parts, is_integer}
use Rattle.asl_rules.specs.runs.Trees as tree
use Rattle.asl_rules.specs.declarations.Scopes.{Scope, Body, Entry, Counted, atom_at, next_atom, fixed, variable, is_free, type_of_name, body_names}
use Rattle.asl_rules.specs.expressions.Typing.{Operand, Width}
use Rattle.asl_rules.specs.types.Writing.{WrittenPart, range_rule}
use Rattle.asl_rules.specs.expressions.Exprs.{found, typed, written, width}
use Rattle.asl_rules.specs.statements.Acting.{Done, operand_of, fits}
use Rattle.asl_rules.specs.statements.Locals.{Initialised, initialised_with, taken, itself, counted_as, initialised_as, declared, unannotated, type_declared, part_declared, written_or, initialised, binders_free, bound_parts, bound_in, bound, bind_rule, names_rule, vars_rule}
use Rattle.asl_rules.specs.statements.Branches.{of_range, index_type, with_caught}
use Rattle.asl_rules.specs.private.WellFormed.{WellFormed, WellDeclared, Shaped, ShapedParts}
use Rattle.asl_rules.specs.private.Worth.{IsHeld}
use Rattle.asl_rules.proofs.basics.Inversions.{ok_ok, bind_ok, then_ok, found_ok}
use Rattle.asl_rules.proofs.basics.Tests.{none_some, some_same}
use Rattle.asl_rules.proofs.widths.Counting.{standing_back}
use Rattle.asl_rules.proofs.widths.ScopesCounted.{ended_names}
use Rattle.asl_rules.proofs.widths.WidthsHeld.{atom_is_polynomial, width_is_held}
use Rattle.asl_rules.proofs.scopes.KeptNames.{DeclarationsKeep, stmt_keeps}
use Rattle.asl_laws.specs.AgreeingTypes.{StandsFormed, NamesFormed, ScopeFormed, TypesFormed, KeepsFormed}
use Rattle.asl_laws.proofs.values.Widening.{widened_formed}
use Rattle.asl_laws.proofs.scopes.HeldRules.{range_by}
use Rattle.asl_laws.proofs.scopes.WellTyped.{counts_formed, type_formed, typed_in_formed, written_in_formed}

-- ---- one name more

pub added : (d : List ℕ → Option Ty) (names : List Entry) (e : Entry) → NamesFormed d names → StandsFormed d e.standing →
    NamesFormed d (names ++ e ∷ [])
added d names e g s name st h = elim (standing_back name names e st h) [ inl k ↦ g name st k | inr k ↦ subst (StandsFormed d) k s ]

declared_formed : (d : List ℕ → Option Ty) (kind : LocalKind) (name : List ℕ) (T : Ty) (o : Option Counted) → WellFormed d T → IsHeld o →
    StandsFormed d (declared kind name T o).standing
declared_formed d local.Let name T o w c = (w, c)
declared_formed d local.Var name T o w c = (w, tt)

-- what counts as itself is within the limits
held_if : (b : Bool) (c : Counted) → IsHeld (Some c) → IsHeld (if b then Some c else None)
held_if true c h = h
held_if false c h = tt

pub itself_held : (T : Ty) (names : List Entry) → IsHeld (itself T names)
itself_held T names = held_if (is_integer T) (atom_at (next_atom names)) (atom_is_polynomial (next_atom names))

unannotated_formed : (d : List ℕ → Option Ty) (kind : LocalKind) (S : Ty) → WellFormed d S → WellFormed d (unannotated kind S)
unannotated_formed d local.Let S w = w
unannotated_formed d local.Var S w = widened_formed d S w

-- what is written is well formed, where something is
abbrev WrittenFormed : (List ℕ → Option Ty) → Option Ty → Type 0
WrittenFormed d o = (T : Ty) → o ≡ Some T → WellFormed d T

type_declared_formed : (d : List ℕ → Option Ty) (kind : LocalKind) (o : Option Ty) (S : Ty) → WellFormed d S → WrittenFormed d o →
    WellFormed d (type_declared kind o S)
type_declared_formed d kind None S w f = unannotated_formed d kind S w
type_declared_formed d kind (Some T) S w f = f T refl

written_or_formed : (d : List ℕ → Option Ty) (o : Option Ty) (S : Ty) → WellFormed d S → WrittenFormed d o → WellFormed d (written_or o S)
written_or_formed d None S w f = w
written_or_formed d (Some T) S w f = f T refl

part_declared_formed : (d : List ℕ → Option Ty) (kind : LocalKind) (o : Option Ty) (S : Ty) → WellFormed d S →
    WellFormed d (part_declared kind o S)
part_declared_formed d kind None S w = unannotated_formed d kind S w
part_declared_formed d kind (Some T) S w = w

tuple_shaped : (d : List ℕ → Option Ty) (T : Ty) (Ts : Parts) → Shaped d T → tuple_parts T ≡ Some Ts → ShapedParts d Ts
tuple_shaped d (tuple_of us) Ts w h = subst (ShapedParts d) (some_same us Ts h) w
tuple_shaped d (named n supers T) Ts w h = tuple_shaped d T Ts w.2 h
tuple_shaped d T Ts w h = none_some Ts h

-- ---- declarations in bodies

module _ (t : Tests) (right : IsRight t) (d : List ℕ → Option Ty) (known : WellDeclared d) where
  initialised_formed : (ty : Option TypeExpr) (e : Expr) (G : Scope) (i : Initialised) → ScopeFormed d G → initialised t ty e G ≡ Ok i →
      WellFormed d i.value.ty × WrittenFormed d i.written
  initialised_formed None e G i g h =
      let o = bind_ok (operand_of t e G) _ i h in
      let s = bind_ok (typed t e G) _ o.value o.first in
      let k : WellFormed d o.value.typed.ty = subst (λ (z : Operand). WellFormed d z.typed.ty) (ok_ok _ o.value s.then)
      (typed_in_formed t right d known e G s.value g.names g.results s.first) in
      subst (λ (z : Initialised). WellFormed d z.value.ty × WrittenFormed d z.written)
      (ok_ok (initialised_with None o.value.typed) i o.then) (k, λ T q. none_some T q)
  initialised_formed (Some ty) e G i g h =
      let w = bind_ok (written t ty false G) _ i h in
      let o = bind_ok (operand_of t e G) _ i w.then in
      let f = then_ok (fits t w.value.ty o.value) _ i o.then in
      let s = bind_ok (typed t e G) _ o.value o.first in
      let k : WellFormed d o.value.typed.ty = subst (λ (z : Operand). WellFormed d z.typed.ty) (ok_ok _ o.value s.then)
      (typed_in_formed t right d known e G s.value g.names g.results s.first) in
      let l : WellFormed d w.value.ty = written_in_formed t right d known ty false G w.value g.names w.first in
      subst (λ (z : Initialised). WellFormed d z.value.ty × WrittenFormed d z.written)
      (ok_ok (initialised_with (Some w.value.ty) o.value.typed) i f.then)
      (k, λ T q. subst (WellFormed d) (some_same w.value.ty T q) l)

  parts_added : (bs : List Binder) (kind : LocalKind) (o : Option Ty) (Ts : Parts) (names more : List Entry) → NamesFormed d names →
      ShapedParts d Ts → bound_parts bs kind o Ts names ≡ Some more → NamesFormed d more
  parts_added [] kind o no_part names more g h k = subst (NamesFormed d) (some_same names more k) g
  parts_added [] kind o (part T Ts) names more g h k = none_some more k
  parts_added (Bound i ∷ bs) kind o no_part names more g h k = none_some more k
  parts_added (Unbound at ∷ bs) kind o no_part names more g h k = none_some more k
  parts_added (Unbound at ∷ bs) kind o (part T Ts) names more g h k = parts_added bs kind o Ts names more g h.2 k
  parts_added (Bound i ∷ bs) kind o (part T Ts) names more g h k =
      let S : Ty = part_declared kind o T in
      parts_added bs kind o Ts (names ++ declared kind i.text S (itself S names) ∷ []) more
      (added d names (declared kind i.text S (itself S names)) g
      (declared_formed d kind i.text S (itself S names) (part_declared_formed d kind o T (record { shaped = h.1; has_name = h.0 }))
      (itself_held S names)))
      h.2 k

  bound_in_formed : (bs : List Binder) (kind : LocalKind) (o : Option Ty) (p : Option Parts) (names more : List Entry) →
      NamesFormed d names → ((Ts : Parts) → p ≡ Some Ts → ShapedParts d Ts) →
      bound_in bs kind o p names ≡ Some more → NamesFormed d more
  bound_in_formed bs kind o None names more g f k = none_some more k
  bound_in_formed bs kind o (Some Ts) names more g f k = parts_added bs kind o Ts names more g (f Ts refl) k

  -- and so is a width expression
  counted_held : (e : Expr) (G : Scope) (w : Result Width Fault) (b : Bool) (n : ℕ) → NamesFormed d G.names → width t e G ≡ w →
      IsHeld (Some (counted_as w b n))
  counted_held e G (Ok w) b n g q = width_is_held t e G (counts_formed d G.names g) w q
  counted_held e G (Err f) b n g q = atom_is_polynomial n

  initialised_held : (T : Ty) (e : Expr) (G : Scope) → NamesFormed d G.names → IsHeld (initialised_as t T e G)
  initialised_held T e G g =
      held_if (is_integer T) (counted_as ((found t e).width G) ((found t e).has_atom G) (next_atom G.names))
      (counted_held e G ((found t e).width G) ((found t e).has_atom G) (next_atom G.names) g refl)

  bound_formed : (span : Span) (kind : LocalKind) (b : Bind) (e : Expr) (i : Initialised) (G : Scope) (r : Done) →
      NamesFormed d G.names → WellFormed d i.value.ty → WrittenFormed d i.written →
      bound t span kind b e i G ≡ Ok r → NamesFormed d r.names
  bound_formed span kind (Single (Bound x)) e i G r g a f h =
      let T : Ty = type_declared kind i.written i.value.ty in
      let o : Option Counted = initialised_as t T e G in
      let names : List Entry = G.names ++ declared kind x.text T o ∷ [] in
      let u = then_ok (need (is_free x.text G.names) T01 x.span) _ r h in
      subst (NamesFormed d)
      (ended_names G.class span true i.value.effect names (tree.Declare span i.written tree.whole i.value.tree) r u.then)
      (added d G.names (declared kind x.text T o) g
      (declared_formed d kind x.text T o (type_declared_formed d kind i.written i.value.ty a f) (initialised_held T e G g)))
  bound_formed span kind (Single (Unbound at)) e i G r g a f h =
      subst (NamesFormed d) (ended_names G.class span true i.value.effect G.names
      (tree.Declare span i.written tree.nothing i.value.tree) r h) g
  bound_formed span kind (Several at bs) e i G r g a f h =
      let T : Ty = written_or i.written i.value.ty in
      let u = then_ok (binders_free bs [] G.names) _ r h in
      let v = bind_ok (found_or (bound_in bs kind i.written (tuple_parts T) G.names) T05 span) _ r u.then in
      subst (NamesFormed d) (ended_names G.class span true i.value.effect v.value
      (tree.Declare span i.written (tree.in_parts (taken bs)) i.value.tree) r v.then)
      (bound_in_formed bs kind i.written (tuple_parts T) G.names v.value g
      (λ Ts k. tuple_shaped d T Ts (written_or_formed d i.written i.value.ty a f).shaped k)
      (found_ok (bound_in bs kind i.written (tuple_parts T) G.names) T05 span v.value v.first))

  bind_formed : (span : Span) (kind : LocalKind) (b : Bind) (ty : Option TypeExpr) (e : Expr) (G : Scope) (r : Done) → ScopeFormed d G →
      bind_rule t span kind b ty e G ≡ Ok r → NamesFormed d r.names
  bind_formed span kind b ty e G r g h =
      let u = bind_ok (initialised t ty e G) _ r h in
      let k = initialised_formed ty e G u.value g u.first in
      bound_formed span kind b e u.value G r g.names k.0 k.1 u.then

  names_rule_formed : (is : List Ident) (T : Ty) (names more : List Entry) → NamesFormed d names → WellFormed d T →
      names_rule is T names ≡ Ok more → NamesFormed d more
  names_rule_formed [] T names more g w h = subst (NamesFormed d) (ok_ok names more h) g
  names_rule_formed (i ∷ is) T names more g w h =
      let u = then_ok (need (is_free i.text names) T01 i.span) (names_rule is T (names ++ variable i.text T ∷ [])) more h in
      names_rule_formed is T (names ++ variable i.text T ∷ []) more (added d names (variable i.text T) g (w, tt)) w u.then

  vars_formed : (span : Span) (is : List Ident) (ty : TypeExpr) (G : Scope) (r : Done) → ScopeFormed d G →
      vars_rule t span is ty G ≡ Ok r → NamesFormed d r.names
  vars_formed span is ty G r g h =
      let u = bind_ok (written t ty false G) _ r h in
      let v = bind_ok (names_rule is u.value.ty G.names) _ r u.then in
      subst (NamesFormed d) (ap (λ (z : Done). z.names) (ok_ok _ r v.then))
      (names_rule_formed is u.value.ty G.names v.value g.names
      (written_in_formed t right d known ty false G u.value g.names u.first) v.first)

  kept : DeclarationsKeep t (ScopeFormed d)
  kept = record {
    bind = λ span kind b ty e G r g h. record { names = bind_formed span kind b ty e G r g h; results = g.results };
    vars = λ span is ty G r g h. record { names = vars_formed span is ty G r g h; results = g.results };
  }

  -- ---- indices and caught exceptions

  range_formed : (a b : Expr) (G : Scope) (r : Result WrittenPart Fault) → NamesFormed d G.names →
      range_rule (found t a) (found t b) G ≡ r → WellFormed d (of_range r)
  range_formed a b G (Ok p) g q =
      let k = range_by t ((found t a).has_atom G || (found t b).has_atom G) a b G p (counts_formed d G.names g) q in
      record { shaped = (k, tt); has_name = refl }
  range_formed a b G (Err f) g q = record { shaped = tt; has_name = refl }

  index_formed : (x : Direction) (a b : Expr) (G : Scope) → NamesFormed d G.names → WellFormed d (index_type t x a b G)
  index_formed Up a b G g = range_formed a b G (range_rule (found t a) (found t b) G) g refl
  index_formed Down a b G g = range_formed b a G (range_rule (found t b) (found t a) G) g refl

  caught_formed : (i : Option Ident) (name : List ℕ) (T : Ty) (B C : Body) → ScopeFormed d B.scope →
      type_of_name name B.scope.names ≡ Some T → with_caught i T B ≡ Ok C → ScopeFormed d C.scope
  caught_formed None name T B C g h k = subst (λ (z : Body). ScopeFormed d z.scope) (ok_ok B C k) g
  caught_formed (Some i) name T B C g h k =
      let u = then_ok (need (is_free i.text B.scope.names) T01 i.span) _ C k in
      subst (λ (z : Body). ScopeFormed d z.scope) (ok_ok (body_names B (B.scope.names ++ fixed i.text T None ∷ [])) C u.then)
      (record {
        names =
            added d B.scope.names (fixed i.text T None) g.names (type_formed d B.scope.names name g.names T h, tt);
        results = g.results;
      })

-- ---- what the rules keep

pub types_formed : (t : Tests) → IsRight t → (declared : List ℕ → Option Ty) → WellDeclared declared → (G : Scope) →
    ScopeFormed declared G → TypesFormed t declared G
types_formed t right d known G g = record {
  typed = λ e S h. typed_in_formed t right d known e G S g.names g.results h;
  written = λ ty outside W h. written_in_formed t right d known ty outside G W g.names h;
}

pub keeps_formed : (t : Tests) → IsRight t → (declared : List ℕ → Option Ty) → WellDeclared declared → KeepsFormed t declared
keeps_formed t right d known = record {
  stmt = λ s B r g h. stmt_keeps t (ScopeFormed d) (kept t right d known) s B r g h;
  index = λ i x a b B g. record {
    names = added d B.scope.names (fixed i.text (index_type t x a b B.scope) (Some (atom_at (next_atom B.scope.names)))) g.names
        (index_formed t right d known x a b B.scope g.names, atom_is_polynomial (next_atom B.scope.names));
    results = g.results;
  };
  caught = caught_formed t right d known;
}
