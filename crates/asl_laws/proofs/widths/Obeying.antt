-- What names stand for, where one name more is declared: those before it stand for the same, and it stands for what it counts as.
use Rattle.std.proofs.Common.{◌≡◌, ◌⊎◌, inl, inr, ℕ, ℤ, Bool, true, false, cond, List, [], ◌∷◌, ◌++◌}
use Rattle.std.proofs.Common.{Option, Some, None, Result, Ok, Err, refl, sym, ap, ◌∙◌, subst}
use Rattle.std.specs.Prelude.{◌&&◌, not}
use Rattle.std.specs.Str.{bytes_eq}
use Rattle.std.proofs.lemmas.Slice.Eq.{bytes_eq-Decides}
use Rattle.asl_syn.specs.declared.token.Span.{Span}
use Rattle.asl_syn.specs.declared.code.Fault.{Fault}
use Rattle.asl_syn.specs.declared.code.StaticCode.TheVariants.{T01, T05}
use Rattle.asl_syn.specs.declared.tree.Expr.{Expr}
use Rattle.asl_syn.specs.declared.tree.Ident.{Ident}
use Rattle.asl_syn.specs.declared.tree.TypeExpr.{TypeExpr}
use Rattle.asl_syn.specs.declared.tree.LocalKind.{LocalKind}
use Rattle.asl_syn.specs.declared.tree.LocalKind.TheVariants as local
use Rattle.asl_syn.specs.declared.tree.Binder.{Binder}
use Rattle.asl_syn.specs.declared.tree.Binder.TheVariants.{Bound, Unbound}
use Rattle.asl_syn.specs.declared.tree.Bind.{Bind}
use Rattle.asl_syn.specs.declared.tree.Bind.TheVariants.{Single, Several}
use Rattle.asl_poly.specs.Terms.{Polynomial, value}
use Rattle.asl_poly.specs.Fractions.{SameFraction, fraction_at}
use Rattle.asl_rules.specs.Faults.{need, found_or}
use Rattle.asl_rules.specs.Tests.{Tests}
use Rattle.asl_rules.specs.types.Types.{Ty, Parts, no_part, part, is_integer, tuple_parts}
use Rattle.asl_rules.specs.types.Numbers.{fraction}
use Rattle.asl_rules.specs.runs.Trees as tree
use Rattle.asl_rules.specs.values.Values.{int}
use Rattle.asl_rules.specs.values.Members.{has_name}
use Rattle.asl_rules.specs.declarations.Scopes.{Counted, Entry, Scope, Storage, Standing, Stored, atom_at, next_atom}
use Rattle.asl_rules.specs.declarations.Scopes.{fixed, variable, standing_of, storage_of, storage_in, known_value, is_free}
use Rattle.asl_rules.specs.expressions.Typing.{Width}
use Rattle.asl_rules.specs.expressions.Exprs.{found, width}
use Rattle.asl_rules.specs.statements.Acting.{Done}
use Rattle.asl_rules.specs.statements.Locals.{Initialised, taken, itself, counted_as, initialised_as, declared}
use Rattle.asl_rules.specs.statements.Locals.{type_declared, part_declared}
use Rattle.asl_rules.specs.statements.Locals.{written_or, initialised, binders_free, bound_parts, bound_in, bound, bind_rule}
use Rattle.asl_rules.specs.private.Worth.{Integers, counted_for, stored_for, fraction_for, standing_for, by_place, AreSame, Obeys, Alone, AtomsAlone, WellCounted}
use Rattle.asl_laws.specs.WidthScopes.{IsIntegerName, Stands, Declares, StandsAsBefore}
use Rattle.asl_rules.proofs.basics.Inversions.{err_ok, bind_ok, then_ok, need_ok, found_ok}
use Rattle.asl_rules.proofs.basics.Tests.{some_same, none_some}
use Rattle.asl_rules.proofs.widths.Counting.{name_kept, storage_kept, stored_of, standing_new, absent_is}
use Rattle.asl_rules.proofs.widths.Counting.{NewCounted, well_kept, variable_counts, atom_counts}
use Rattle.asl_rules.proofs.widths.ScopesCounted.{Fresh, fresh_start, fresh_more, tested, ended_names, stored_is}
use Rattle.asl_rules.proofs.widths.ScopesCounted.{plain_counts, itself_counts, declared_counts}
use Rattle.asl_rules.proofs.widths.WidthAtoms.{width_is_alone}
use Rattle.asl_rules.proofs.widths.WidthsWorth.{width_is_worth}
use Rattle.asl_laws.proofs.scopes.ScopesOver.{value_moved}

-- ---- one name more

-- what stands under a name stood there before, or is what was added under this name
standing_split : (name : List ℕ) (names : List Entry) (e : Entry) (x : Standing) → standing_of name (names ++ e ∷ []) ≡ Some x →
    (standing_of name names ≡ Some x) ⊎ ((e.name ≡ name) × (e.standing ≡ x))
standing_split name [] e x h = by (bytes_eq e.name name) refl h
  where
    by : (b : Bool) → bytes_eq e.name name ≡ b → cond b (Some e.standing) None ≡ Some x →
        (standing_of name [] ≡ Some x) ⊎ ((e.name ≡ name) × (e.standing ≡ x))
    by true q k = inr ((bytes_eq-Decides e.name name).0 q, some_same e.standing x k)
    by false q k = none_some x k
standing_split name (d ∷ ds) e x h = by (bytes_eq d.name name) h (standing_split name ds e x)
  where
    by : (b : Bool) → cond b (Some d.standing) (standing_of name (ds ++ e ∷ [])) ≡ Some x →
        (standing_of name (ds ++ e ∷ []) ≡ Some x → (standing_of name ds ≡ Some x) ⊎ ((e.name ≡ name) × (e.standing ≡ x))) →
        (cond b (Some d.standing) (standing_of name ds) ≡ Some x) ⊎ ((e.name ≡ name) × (e.standing ≡ x))
    by true k next = inl k
    by false k next = next k

-- a new name has no value that is known before any run
abbrev Unknown : Entry → Type 0
Unknown e = (s : Storage) → e.standing ≡ Stored s → known_value s ≡ None

-- the widths of names that stand for themselves are the same where more names are visible
module _ (names more : List Entry) (a : Integers) where
  same_place : (n : ℕ) → Alone names n → by_place names a n ≡ by_place (names ++ more) a n
  same_place n h = ap a (sym (name_kept names more n h.1))

  same_value : (p : Polynomial) → AtomsAlone names p.terms → value (by_place names a) p.terms ≡ value (by_place (names ++ more) a) p.terms
  same_value p h = value_moved (Alone names) (by_place names a) (by_place (names ++ more) a) same_place p.terms h

module _ (names : List Entry) (w : WellCounted names) (e : Entry) (u : Unknown e) (a : Integers) where
  before : Obeys (names ++ e ∷ []) a → Obeys names a
  before o = record { known = λ name s z h k. o.known name s z (storage_kept name names (e ∷ []) s h) k }

  with_last : Obeys names a → Obeys (names ++ e ∷ []) a
  with_last o = record {
    known = λ name s z h k. elim (standing_split name names e (Stored s) (stored_of (standing_of name (names ++ e ∷ [])) s h)) [
      | inl i ↦ o.known name s z (ap storage_in i) k
      | inr i ↦ none_some (int z) (sym (u s i.1) ∙ k)
    ];
  }

  counted_kept : (z : ℤ) (o : Option Counted) → ((c : Counted) → o ≡ Some c → AtomsAlone names c.poly.terms) →
      counted_for (by_place (names ++ e ∷ []) a) z o ≡ counted_for (by_place names a) z o
  counted_kept z None h = refl
  counted_kept z (Some c) h =
      ap (λ n. record { number = n; denominator = c.poly.denominator }) (sym (same_value names (e ∷ []) a c.poly (h c refl)))

  kept : (name : List ℕ) (s : Storage) → storage_of name names ≡ Some s → fraction_for (names ++ e ∷ []) a name ≡ fraction_for names a name
  kept name s h =
      ap (stored_for (by_place (names ++ e ∷ []) a) (a name)) (storage_kept name names (e ∷ []) s h)
      ∙ counted_kept (a name) s.counted (λ c q. w.alone name s c h q)
      ∙ sym (ap (stored_for (by_place names a) (a name)) h)

-- what was added to the names
one_nothing : (names : List Entry) (w : WellCounted names) (e : Entry) → NewCounted names e → Unknown e →
    StandsAsBefore names (names ++ e ∷ [])
one_nothing names w e n u = record {
  counted = well_kept names e w n;
  same = λ a. (before names w e u a, with_last names w e u a);
  stands = λ name s h. storage_kept name names (e ∷ []) s h;
  kept = λ a name s h. kept names w e u a name s h;
}

fixed_unknown : (name : List ℕ) (T : Ty) (k : Option Counted) → Unknown (fixed name T k)
fixed_unknown name T k s q = ap known_value (sym (stored_is _ s q))

variable_unknown : (name : List ℕ) (T : Ty) → Unknown (variable name T)
variable_unknown name T s q = ap known_value (sym (stored_is _ s q))

-- ---- names of which nothing is said

pub nothing_more : (names : List Entry) → WellCounted names → StandsAsBefore names names
nothing_more names w = record { counted = w; same = λ a. ((λ o. o), (λ o. o)); stands = λ name s h. h; kept = λ a name s h. refl }

pub further : (x y z : List Entry) → StandsAsBefore x y → StandsAsBefore y z → StandsAsBefore x z
further x y z p q = record {
  counted = q.counted;
  same = λ a. (λ o. (p.same a).0 ((q.same a).0 o), λ o. (q.same a).1 ((p.same a).1 o));
  stands = λ name s h. q.stands name s (p.stands name s h);
  kept = λ a name s h. q.kept a name s (p.stands name s h) ∙ p.kept a name s h;
}

pub variable_nothing : (names : List Entry) (name : List ℕ) (T : Ty) → WellCounted names → is_free name names ≡ true →
    StandsAsBefore names (names ++ variable name T ∷ [])
variable_nothing names name T w f = one_nothing names w (variable name T) (variable_counts names name T) (variable_unknown name T)

pub atom_nothing : (names : List Entry) (name : List ℕ) (T : Ty) → WellCounted names → is_free name names ≡ true →
    StandsAsBefore names (names ++ fixed name T (Some (atom_at (next_atom names))) ∷ [])
atom_nothing names name T w f =
    one_nothing names w (fixed name T (Some (atom_at (next_atom names)))) (atom_counts names name T f)
    (fixed_unknown name T (Some (atom_at (next_atom names))))

pub plain_nothing : (names : List Entry) (name : List ℕ) (T : Ty) → WellCounted names → is_free name names ≡ true →
    StandsAsBefore names (names ++ fixed name T None ∷ [])
plain_nothing names name T w f = one_nothing names w (fixed name T None) (plain_counts names name T) (fixed_unknown name T None)

pub itself_nothing : (names : List Entry) (name : List ℕ) (T : Ty) → WellCounted names → is_free name names ≡ true →
    StandsAsBefore names (names ++ fixed name T (itself T names) ∷ [])
itself_nothing names name T w f =
    one_nothing names w (fixed name T (itself T names)) (itself_counts names name T f) (fixed_unknown name T (itself T names))

-- ---- declarations with an initialiser

module _ (t : Tests) (e : Expr) (G : Scope) (w : WellCounted G.names) (name : List ℕ) (free : is_free name G.names ≡ true) (T : Ty) where
  abbrev with_let : Option Counted → List Entry
  with_let k = G.names ++ fixed name T k ∷ []

  -- what the name stands for
  let_stands : (k : Option Counted) (a : Integers) → fraction_for (with_let k) a name ≡ counted_for (by_place (with_let k) a) (a name) k
  let_stands k a =
      ap (stored_for (by_place (with_let k) a) (a name))
      (ap storage_in (standing_new G.names (fixed name T k) (absent_is (standing_of name G.names) free)))

  -- the type of the name
  let_type : (k : Option Counted) → IsIntegerName name (with_let k) → is_integer T ≡ true
  let_type k h = by (standing_new G.names (fixed name T k) (absent_is (standing_of name G.names) free))
    where
      by : standing_of name (with_let k) ≡ Some ((fixed name T k).standing) → is_integer T ≡ true
      by q = ap is_integer (ap (λ (s : Storage). s.ty) (some_same _ h.0 (sym (ap storage_in q) ∙ h.1))) ∙ h.2

  let_says : (b : Bool) (r : Result Width Fault) → is_integer T ≡ b → width t e G ≡ r → (a : Integers) → Obeys G.names a →
      (let k = cond b (Some (counted_as r ((found t e).has_atom G) (next_atom G.names))) None in
      IsIntegerName name (with_let k) → (v : Width) → width t e G ≡ Ok v → AreSame (fraction e (standing_for G.names a))
      (standing_for (with_let k) a name))
  let_says true (Ok u) i q a o n v h =
      let c : Counted = record { poly = u.poly; has_atom = (found t e).has_atom G } in
      let x = width_is_worth t e G a o w.within u q in
      let at : fraction_for (with_let (Some c)) a name ≡ fraction_at (by_place G.names a) u.poly =
      let_stands (Some c) a ∙ ap (λ z. record { number = z; denominator = u.poly.denominator })
      (sym (same_value G.names (fixed name T (Some c) ∷ []) a u.poly (width_is_alone t e G w u q))) in
      subst (λ z. AreSame z (standing_for (with_let (Some c)) a name)) (sym x.is) (subst (λ r. SameFraction x.number r) (sym at) x.same)
  let_says true (Err f) i q a o n v h = err_ok f v (sym q ∙ h)
  let_says false r i q a o n v h = absurd (not_both (is_integer T) (let_type None n) i)
    where
      not_both : (b : Bool) → b ≡ true → b ≡ false → ⊥
      not_both b g h = cc

  declared_says : (kind : LocalKind) (a : Integers) → Obeys G.names a →
      (let after = G.names ++ declared kind name T (initialised_as t T e G) ∷ [] in
      (i : Ident) → i.text ≡ name → Declares t kind (Single (Bound i)) e G after a)
  declared_says local.Let a o i q =
      let after = with_let (initialised_as t T e G) in
      subst (λ n. Stands t e G n after a) (sym q) (let_says (is_integer T) (width t e G) refl refl a o)
  declared_says local.Var a o i q = tt

  let_unknown : (kind : LocalKind) (k : Option Counted) → Unknown (declared kind name T k)
  let_unknown local.Let k = fixed_unknown name T k
  let_unknown local.Var k = variable_unknown name T

-- ---- declarations with an initialiser: the parts of a tuple

fresh_declared : (kind : LocalKind) (base : List Entry) (before : List (List ℕ)) (names : List Entry) (name : List ℕ) (T : Ty)
    (c : Option Counted) → Fresh base before names → Fresh base (before ++ name ∷ []) (names ++ declared kind name T c ∷ [])
fresh_declared local.Let base before names name T c f = fresh_more base before names (fixed name T c) f
fresh_declared local.Var base before names name T c f = fresh_more base before names (variable name T) f

part_nothing : (kind : LocalKind) (names : List Entry) (name : List ℕ) (T : Ty) → WellCounted names → is_free name names ≡ true →
    StandsAsBefore names (names ++ declared kind name T (itself T names) ∷ [])
part_nothing local.Let names name T w f = itself_nothing names name T w f
part_nothing local.Var names name T w f = variable_nothing names name T w f

binders_nothing : (bs : List Binder) (kind : LocalKind) (o : Option Ty) (Ts : Parts) (base names more : List Entry)
    (before : List (List ℕ)) → WellCounted names → Fresh base before names → binders_free bs before base ≡ Ok tt → bound_parts bs kind o Ts names ≡ Some more →
    StandsAsBefore names more
binders_nothing [] kind o no_part base names more before w f h k =
    subst (StandsAsBefore names) (some_same names more k) (nothing_more names w)
binders_nothing [] kind o (part T Ts) base names more before w f h k = none_some more k
binders_nothing (Bound i ∷ bs) kind o no_part base names more before w f h k = none_some more k
binders_nothing (Unbound at ∷ bs) kind o no_part base names more before w f h k = none_some more k
binders_nothing (Bound i ∷ bs) kind o (part T Ts) base names more before w f h k =
    let rest = binders_free bs (before ++ i.text ∷ []) base in
    let u = then_ok (need (is_free i.text base && not (has_name i.text before)) T01 i.span) rest tt h in
    let S : Ty = part_declared kind o T in
    let e : Entry = declared kind i.text S (itself S names) in
    let first = part_nothing kind names i.text S w (tested base names before i f u.first) in
    further names (names ++ e ∷ []) more first
    (binders_nothing bs kind o Ts base (names ++ e ∷ []) more (before ++ i.text ∷ []) first.counted
    (fresh_declared kind base before names i.text S (itself S names) f) u.then k)
binders_nothing (Unbound at ∷ bs) kind o (part T Ts) base names more before w f h k =
    binders_nothing bs kind o Ts base names more before w f h k

bound_in_nothing : (bs : List Binder) (kind : LocalKind) (o : Option Ty) (p : Option Parts) (names more : List Entry) → WellCounted names →
    binders_free bs [] names ≡ Ok tt → bound_in bs kind o p names ≡ Some more → StandsAsBefore names more
bound_in_nothing bs kind o None names more w h k = none_some more k
bound_in_nothing bs kind o (Some Ts) names more w h k = binders_nothing bs kind o Ts names names more [] w (fresh_start names) h k

module _ (t : Tests) where
  -- what a declaration leaves: what stood before stands, and each name stands for what the declaration says
  abbrev Leaves : LocalKind → Bind → Expr → Scope → List Entry → Type 0
  Leaves kind b e G after = StandsAsBefore G.names after × ((a : Integers) → Obeys G.names a → Declares t kind b e G after a)

  several_says : (kind : LocalKind) (at : Span) (bs : List Binder) (e : Expr) (G : Scope) (after : List Entry) →
      StandsAsBefore G.names after →
      Leaves kind (Several at bs) e G after
  several_says local.Let at bs e G after s = (s, λ a o. tt)
  several_says local.Var at bs e G after s = (s, λ a o. tt)

  unbound_says : (kind : LocalKind) (at : Span) (e : Expr) (G : Scope) (after : List Entry) → StandsAsBefore G.names after →
      Leaves kind (Single (Unbound at)) e G after
  unbound_says local.Let at e G after s = (s, λ a o. tt)
  unbound_says local.Var at e G after s = (s, λ a o. tt)

  bound_says : (span : Span) (kind : LocalKind) (b : Bind) (e : Expr) (i : Initialised) (G : Scope) (d : Done) →
      WellCounted G.names → bound t span kind b e i G ≡ Ok d → Leaves kind b e G d.names
  bound_says span kind (Single (Bound x)) e i G d w h =
      let T : Ty = type_declared kind i.written i.value.ty in
      let u = then_ok (need (is_free x.text G.names) T01 x.span) _ d h in
      let free = need_ok (is_free x.text G.names) T01 x.span tt u.first in
      let names : List Entry = G.names ++ declared kind x.text T (initialised_as t T e G) ∷ [] in
      subst (λ z. Leaves kind (Single (Bound x)) e G z)
      (ended_names G.class span true i.value.effect names (tree.Declare span i.written tree.whole i.value.tree) d u.then) (
        one_nothing G.names w (declared kind x.text T (initialised_as t T e G)) (declared_counts t kind e G x.text T w free)
            (let_unknown t e G w x.text free T kind (initialised_as t T e G)),
        λ a o. declared_says t e G w x.text free T kind a o x refl,
      )
  bound_says span kind (Single (Unbound at)) e i G d w h =
      subst (λ z. Leaves kind (Single (Unbound at)) e G z)
      (ended_names G.class span true i.value.effect G.names (tree.Declare span i.written tree.nothing i.value.tree) d h)
      (unbound_says kind at e G G.names (nothing_more G.names w))
  bound_says span kind (Several at bs) e i G d w h =
      let u = then_ok (binders_free bs [] G.names) _ d h in
      let parts = tuple_parts (written_or i.written i.value.ty) in
      let v = bind_ok (found_or (bound_in bs kind i.written parts G.names) T05 span) _ d u.then in
      let k = found_ok (bound_in bs kind i.written parts G.names) T05 span v.value v.first in
      subst (λ z. Leaves kind (Several at bs) e G z)
      (ended_names G.class span true i.value.effect v.value (tree.Declare span i.written (tree.in_parts (taken bs)) i.value.tree) d v.then)
      (several_says kind at bs e G v.value (bound_in_nothing bs kind i.written parts G.names v.value w u.first k))

  -- what a declaration says of what names stand for
  pub bind_says : (span : Span) (kind : LocalKind) (b : Bind) (ty : Option TypeExpr) (e : Expr) (G : Scope) (d : Done) →
      WellCounted G.names → bind_rule t span kind b ty e G ≡ Ok d → Leaves kind b e G d.names
  bind_says span kind b ty e G d w h =
      let u = bind_ok (initialised t ty e G) _ d h in
      bound_says span kind b e u.value G d w u.then
