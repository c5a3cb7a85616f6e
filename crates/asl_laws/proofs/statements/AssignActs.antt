-- Assignments with their typed trees: each place of the target takes its part of the value, and the stores do the same.
use Rattle.std.proofs.Common.{◌≡◌, ℕ, suc, ◌+◌, Bool, true, false, List, [], ◌∷◌, ◌++◌, Option, Some, None, Ok, refl, sym, ap, ◌∙◌, subst, map, arith}
use Rattle.asl_syn.specs.declared.token.Span.{Span}
use Rattle.asl_syn.specs.declared.code.StaticCode.TheVariants.{T02, T05, T14}
use Rattle.asl_syn.specs.declared.tree.Expr.{Expr}
use Rattle.asl_syn.specs.declared.tree.Ident.{Ident}
use Rattle.asl_syn.specs.declared.tree.PlacedSuffix.{PlacedSuffix}
use Rattle.asl_syn.specs.declared.tree.Target.{Target, roll-Target, fold-roll-Target, map-Target, ind-Target}
use Rattle.asl_syn.specs.declared.tree.Target.TheOpen as tg
use Rattle.asl_syn.specs.declared.tree.Alternative.TheOpen as st
use Rattle.asl_syn.specs.declared.tree.Decl.{Decl}
use Rattle.asl_rules.specs.declared.effect.Effect.TheVariants.{Pure}
use Rattle.asl_rules.specs.Faults.{need, found_or}
use Rattle.asl_rules.specs.Tests.{Tests, IsRight}
use Rattle.asl_rules.specs.types.Types.{Ty, Parts, no_part, part, tuple_of, named, misfit, tuple_parts}
use Rattle.asl_rules.specs.types.Closed.{Assignment, type_with, parts_with}
use Rattle.asl_rules.specs.types.Effects.{greater, greatest, all_together}
use Rattle.asl_rules.specs.declarations.Scopes.{Scope, Entry, Signature, Storage, Stored, standing_of, storage_of}
use Rattle.asl_rules.specs.declarations.Layouts.{slot_of, layout_of}
use Rattle.asl_rules.specs.private.WellFormed.{WellFormed, Shaped, ShapedParts, Built, BuiltAll}
use Rattle.asl_rules.specs.runs.Trees as tree
use Rattle.asl_rules.specs.runs.Trees.{Tree, Act, TreeFunc, tree_type}
use Rattle.asl_rules.specs.expressions.Typing.{Operand}
use Rattle.asl_rules.specs.statements.Acting.{done, operand_of}
use Rattle.asl_rules.specs.statements.Targets.{TypedSuffix, typed_suffixes, Reached, behind_suffixes, TypedPlace, FoundTarget, inside, all_places, parts_count, all_count, target_layer, found_target, place_effects, Placed, assignable, placed_at, placed, all_placed, writings, tree_places, part_number, part_behind, part_of, part_fits, all_parts_fit, assign_rule}
use Rattle.asl_rules.specs.values.Values.{Value, Values, tuple_with, no_value, value, Exit, Normal}
use Rattle.asl_rules.specs.types.Views.{viewed, parts_viewed}
use Rattle.asl_rules.specs.private.HoldsBits.{holds_bits, has_bits}
use Rattle.asl_rules.specs.runs.States.{Core}
use Rattle.asl_rules.specs.private.Belonging.{has_type, parts_have, InType}
use Rattle.asl_rules.specs.private.Agreement.{types_in}
use Rattle.asl_rules.specs.private.ByPlace as places
use Rattle.asl_rules.specs.private.ByPlace.{part_in}
use Rattle.asl_rules.specs.values.Structures.{value_at, values_in, parts}
use Rattle.asl_rules.specs.runs.Plans.{Faulted, Stuck, Pure as PureOf, Good, Bad, lift}
use Rattle.asl_rules.specs.runs.Pures as pure
use Rattle.asl_rules.specs.runs.Pures.{there, known}
use Rattle.asl_rules.specs.runs.StatementForms.{Store, store_each, eval_steps}
use Rattle.asl_rules.specs.runs.Evaluation.{Does, Step, value_of, or_value, store, updated, store_at, steps_of, Stores, Assigning, assign_each, assigning_layer, assigned}
use Rattle.asl_rules.specs.private.TypedMeaning.{BareCore, Runs, step_ahead, stored, stores, put}
use Rattle.asl_rules.specs.private.Erasure.{erased}
use Rattle.asl_rules.proofs.basics.Inversions.{ok_ok, bind_ok, then_ok, need_ok, found_ok, fitted_ok}
use Rattle.asl_rules.proofs.basics.Tests.{no, both, some_same, none_some}
use Rattle.asl_rules.proofs.values.Shapes.{named_parts}
use Rattle.asl_rules.proofs.values.Viewing.{same_first, same_rest, tuple_same}
use Rattle.asl_rules.proofs.values.Keeping.{satisfying_keeps}
use Rattle.asl_rules.proofs.values.Bitless.{none_in, updated_is, part_without}
use Rattle.asl_rules.proofs.scopes.Lookups.{finds, storage_standing}
use Rattle.asl_rules.proofs.scopes.Naming.{WellNamed, well_declared, scope_good}
use Rattle.asl_laws.proofs.scopes.WellTyped.{FormedSubs, typed_formed}
use Rattle.asl_rules.proofs.expressions.OperatorForms.{Gives}
use Rattle.asl_rules.proofs.scopes.Slots.{has_names, slot_is}
use Rattle.asl_laws.proofs.expressions.Claims.{Here, StmtClaim, At}
use Rattle.asl_laws.proofs.expressions.TreePlans.{Same, operand}
use Rattle.asl_laws.proofs.expressions.ExprForms.{env, found_at}
use Rattle.asl_rules.proofs.expressions.Places.{tree_typed}
use Rattle.asl_laws.proofs.statements.StmtForms.{here, Held, OutAct, Acted, acted, operand_typed, ended_is, ends_here}
use Rattle.asl_laws.proofs.statements.AssignStores.{store_same}
use Rattle.asl_laws.proofs.widths.PresentNumbers.{counts_held}
use Rattle.asl_laws.proofs.statements.AssignForms.{Ways, suffixes_formed, suffixes_same}

shift : (m n : ℕ) → suc m + n ≡ m + suc n
shift m n = omega arith

none_before : (n : ℕ) → 0 + n ≡ n
none_before n = omega arith

module _ (tests : Tests) (right : IsRight tests) (ds : List Decl) (base : List Entry) (subs : List Signature) (loose : Bool) (funcs : List TreeFunc) (w : WellNamed base) (H : Here) where
  abbrev d : List ℕ → Option Ty
  d = types_in base

  abbrev av : Assignment
  av = H.present

  abbrev G : Scope
  G = H.scope

  abbrev StoreHere : Type 0
  StoreHere = Store Core Expr Step

  abbrev StoreThere : Type 0
  StoreThere = Store BareCore Tree places.Step

  -- ---- targets

  -- what a place takes of a value
  record Takes (S : Ty) (x : Value) (p : TypedPlace) (u : StoreHere) : Type 0 where
    pub ty : Ty
    pub one : Value
    pub suffixes : List PlacedSuffix
    pub ty_is : part_of p.way (Some S) ≡ Some ty
    pub formed : WellFormed d ty
    pub belongs : InType d av one ty
    pub part_is : (at : Span) → part_in at p.way x ≡ Good one
    pub typed_so : typed_suffixes tests p.name suffixes G ≡ Ok p.suffixes
    pub is : record { steps = steps_of p.name suffixes; put = store_at (env tests right ds base subs loose funcs w) p.name one } ≡ u

  abbrev AllTake : Ty → Value → List TypedPlace → List StoreHere → Type 0
  AllTake S x [] [] = Unit {0}
  AllTake S x [] (u ∷ us) = ⊥
  AllTake S x (p ∷ ps) [] = ⊥
  AllTake S x (p ∷ ps) (u ∷ us) = Takes S x p u × AllTake S x ps us

  both_take : (S : Ty) (x : Value) (ps qs : List TypedPlace) (us vs : List StoreHere) → AllTake S x ps us → AllTake S x qs vs → AllTake S x (ps ++ qs) (us ++ vs)
  both_take S x [] qs [] vs h k = k
  both_take S x [] qs (u ∷ us) vs h k = absurd h
  both_take S x (p ∷ ps) qs [] vs h k = absurd h
  both_take S x (p ∷ ps) qs (u ∷ us) vs h k = (h.0, both_take S x ps qs us vs h.1 k)

  -- a part of a tuple
  into_part : (S V : Ty) (ws : Values) (y : Value) (n : ℕ) (ps : List TypedPlace) (us : List StoreHere) → part_behind (tuple_parts S) n ≡ Some V → value_at n ws ≡ Some y → AllTake V y ps us → AllTake S (tuple_with ws) (inside n ps) us
  into_part S V ws y n [] [] e f h = tt
  into_part S V ws y n [] (u ∷ us) e f h = absurd h
  into_part S V ws y n (p ∷ ps) [] e f h = absurd h
  into_part S V ws y n (p ∷ ps) (u ∷ us) e f h = (
    record {
      ty = h.0.ty;
      one = h.0.one;
      suffixes = h.0.suffixes;
      ty_is = ap (part_of p.way) e ∙ h.0.ty_is;
      formed = h.0.formed;
      belongs = h.0.belongs;
      part_is = λ at. ap (λ o. pure.◌>>=◌ (there at o) (λ z. part_in at p.way z)) f ∙ h.0.part_is at;
      typed_so = h.0.typed_so;
      is = h.0.is;
    },
    into_part S V ws y n ps us e f h.1,
  )

  record Given (S : Ty) (x : Value) (ps : List TypedPlace) (r : PureOf Stores) : Type 0 where
    pub list : List StoreHere
    pub is : r ≡ Good list
    pub take : AllTake S x ps list

  abbrev TargetGood : Target → Type 0
  TargetGood t = (S : Ty) (x : Value) (ps : List TypedPlace) (span : Span) → (found_target tests t).places G ≡ Ok ps → (found_target tests t).counts S ≡ true → WellFormed d S → InType d av x S → Given S x ps (assigned t (env tests right ds base subs loose funcs w) span x)

  abbrev Below : Type 0
  Below = tg.Target-F ((t : Target) × TargetGood t)

  abbrev firsts : List ((t : Target) × TargetGood t) → List Target
  firsts ts = map (λ t. t.0) ts

  each_given : (ts : List ((t : Target) × TargetGood t)) (n : ℕ) (S : Ty) (Ss : Parts) (ws xs : Values) (ps : List TypedPlace) (span : Span) → ((m : ℕ) (V : Ty) → part_number m Ss ≡ Some V → part_behind (tuple_parts S) (m + n) ≡ Some V) → ((m : ℕ) (y : Value) → value_at m xs ≡ Some y → value_at (m + n) ws ≡ Some y) →
      ShapedParts d Ss → parts_have av xs Ss ≡ true → BuiltAll d xs → parts_viewed (parts_with Ss av) xs ≡ xs → all_places n (map (found_target tests) (firsts ts)) G ≡ Ok ps → parts_count (map (found_target tests) (firsts ts)) Ss ≡ true →
      Given S (tuple_with ws) ps (assign_each (map assigned (firsts ts)) (env tests right ds base subs loose funcs w) span (values_in xs))
  each_given [] n S no_part ws no_value ps span f g s i b v h k = subst (λ z. Given S (tuple_with ws) z (Good [])) (ok_ok [] ps h) (record { list = []; is = refl; take = tt })
  each_given [] n S no_part ws (value x xs) ps span f g s i b v h k = no i
  each_given [] n S (part V Ss) ws xs ps span f g s i b v h k = no k
  each_given (t ∷ ts) n S no_part ws xs ps span f g s i b v h k = no k
  each_given (t ∷ ts) n S (part V Ss) ws no_value ps span f g s i b v h k = no i
  each_given (t ∷ ts) n S (part V Ss) ws (value x xs) ps span f g s i b v h k =
      let e = env tests right ds base subs loose funcs w in
      let p = bind_ok ((found_target tests t.0).places G) _ ps h in
      let q = bind_ok (all_places (suc n) (map (found_target tests) (firsts ts)) G) _ ps p.then in
      let c = both ((found_target tests t.0).counts V) (parts_count (map (found_target tests) (firsts ts)) Ss) k in
      let j = both (has_type av x V) (parts_have av xs Ss) i in
      let one = t.1 V x p.value span p.first c.0 (record { shaped = s.1; has_name = s.0 }) (j.0, b.0, same_first (viewed (type_with V av) x) x (parts_viewed (parts_with Ss av) xs) xs v) in
      let rest = each_given ts (suc n) S Ss ws xs q.value span (λ m U z. subst (λ l. part_behind (tuple_parts S) l ≡ Some U) (shift m n) (f (suc m) U z)) (λ m y z. subst (λ l. value_at l ws ≡ Some y) (shift m n) (g (suc m) y z))
      s.2 j.1 b.1 (same_rest (viewed (type_with V av) x) x (parts_viewed (parts_with Ss av) xs) xs v) q.first c.1 in
      subst (λ z. Given S (tuple_with ws) z (assign_each (map assigned (firsts (t ∷ ts))) e span (values_in (value x xs)))) (ok_ok (inside n p.value ++ q.value) ps q.then)
      (record {
        list = one.list ++ rest.list;
        is = ap (λ r. pure.◌>>=◌ r (λ ls. pure.◌>>=◌ (assign_each (map assigned (firsts ts)) e span (values_in xs)) (λ ms. Good (ls ++ ms)))) one.is ∙ ap (λ r. pure.◌>>=◌ r (λ ms. Good (one.list ++ ms))) rest.is;
        take = both_take S (tuple_with ws) (inside n p.value) q.value one.list rest.list
            (into_part S V ws x n p.value one.list (subst (λ l. part_behind (tuple_parts S) l ≡ Some V) (none_before n) (f 0 V refl)) (subst (λ l. value_at l ws ≡ Some x) (none_before n) (g 0 x refl)) one.take) rest.take;
      })

  -- a tuple with its parts
  record Tuple (Ss : Parts) (x : Value) : Type 0 where
    pub values : Values
    pub is : x ≡ tuple_with values
    pub shaped : ShapedParts d Ss
    pub have : parts_have av values Ss ≡ true
    pub built : BuiltAll d values
    pub seen : parts_viewed (parts_with Ss av) values ≡ values

  tuple_in : (S : Ty) (Ss : Parts) (x : Value) → tuple_parts S ≡ Some Ss → Shaped d S → InType d av x S → Tuple Ss x
  tuple_in (tuple_of ts) Ss (tuple_with xs) e s i = subst (λ z. Tuple z (tuple_with xs)) (some_same ts Ss e) (record { values = xs; is = refl; shaped = s; have = i.0; built = i.1; seen = tuple_same (parts_viewed (parts_with ts av) xs) xs i.2 })
  tuple_in (tuple_of ts) Ss x e s i = no i.0
  tuple_in (named n supers S) Ss x e s i = tuple_in S Ss x e s.2 ((named_parts av x n supers S i.0).1, i.1, i.2)
  tuple_in S Ss x e s i = none_some Ss e

  targets_given : (ts : List ((t : Target) × TargetGood t)) (S : Ty) (o : Option Parts) (x : Value) (ps : List TypedPlace) (span : Span) → tuple_parts S ≡ o → all_places 0 (map (found_target tests) (firsts ts)) G ≡ Ok ps → all_count (map (found_target tests) (firsts ts)) o ≡ true → WellFormed d S → InType d av x S →
      Given S x ps (pure.◌>>=◌ (parts span x) (λ xs. assign_each (map assigned (firsts ts)) (env tests right ds base subs loose funcs w) span xs))
  targets_given ts S None x ps span e h k s i = no k
  targets_given ts S (Some Ss) x ps span e h k s i =
      let t = tuple_in S Ss x e s.shaped i in
      subst (λ y. Given S y ps (pure.◌>>=◌ (parts span y) (λ xs. assign_each (map assigned (firsts ts)) (env tests right ds base subs loose funcs w) span xs))) (sym t.is)
      (each_given ts 0 S Ss t.values t.values ps span (λ m V z. ap (λ q. part_behind q (m + 0)) e ∙ subst (λ l. part_number l Ss ≡ Some V) (none_after m) z) (λ m y z. subst (λ l. value_at l t.values ≡ Some y) (none_after m) z) t.shaped t.have t.built t.seen h k)
    where
      none_after : (m : ℕ) → m ≡ m + 0
      none_after m = omega arith

  layer_given : (y : Below) (S : Ty) (x : Value) (ps : List TypedPlace) (span : Span) → (target_layer tests (map-Target Target FoundTarget (found_target tests) (map-Target ((t : Target) × TargetGood t) Target (λ t. t.0) y))).places G ≡ Ok ps →
      (target_layer tests (map-Target Target FoundTarget (found_target tests) (map-Target ((t : Target) × TargetGood t) Target (λ t. t.0) y))).counts S ≡ true → WellFormed d S → InType d av x S →
      Given S x ps (assigning_layer (map-Target Target Assigning assigned (map-Target ((t : Target) × TargetGood t) Target (λ t. t.0) y)) (env tests right ds base subs loose funcs w) span x)
  layer_given (tg.Discarded at) S x ps span h k s i = subst (λ z. Given S x z (Good [])) (ok_ok [] ps h) (record { list = []; is = refl; take = tt })
  layer_given (tg.Place at l xs) S x ps span h k s i =
      let e = env tests right ds base subs loose funcs w in
      let y = bind_ok (typed_suffixes tests l xs G) _ ps h in
      let u : StoreHere = record { steps = steps_of l xs; put = store_at e l x } in
      subst (λ z. Given S x z (Good (u ∷ []))) (ok_ok (record { way = []; name = l; suffixes = y.value } ∷ []) ps y.then)
      (record { list = u ∷ []; is = refl; take = (record { ty = S; one = x; suffixes = xs; ty_is = refl; formed = s; belongs = i; part_is = λ at2. refl; typed_so = y.first; is = refl }, tt) })
  layer_given (tg.Targets at ts) S x ps span h k s i = targets_given ts S (tuple_parts S) x ps span refl h k s i

  target_step : (l : tg.Target-F Target) (y : Below) → map-Target ((t : Target) × TargetGood t) Target (λ t. t.0) y ≡ l → TargetGood (roll-Target l)
  target_step l y is S x ps span h k s i =
      let e = fold-roll-Target FoundTarget (target_layer tests) l in
      let f = fold-roll-Target Assigning assigning_layer l in
      subst (λ (z : Assigning). Given S x ps (z (env tests right ds base subs loose funcs w) span x)) (sym f)
      (subst (λ z. Given S x ps (assigning_layer (map-Target Target Assigning assigned z) (env tests right ds base subs loose funcs w) span x)) is
      (layer_given y S x ps span
      (ap (λ z. (target_layer tests (map-Target Target FoundTarget (found_target tests) z)).places G) is ∙ sym (ap (λ (z : FoundTarget). z.places G) e) ∙ h)
      (ap (λ z. (target_layer tests (map-Target Target FoundTarget (found_target tests) z)).counts S) is ∙ sym (ap (λ (z : FoundTarget). z.counts S) e) ∙ k) s i))

  target_good : (t : Target) → TargetGood t
  target_good = ind-Target TargetGood target_step

  -- ---- stores

  -- a store under a name, and the one in its place
  record Two (u : StoreHere) (v : StoreThere) : Type 0 where
    pub name : Ident
    pub suffixes : List PlacedSuffix
    pub typed_list : List TypedSuffix
    pub storage : Storage
    pub reached : Reached
    pub one : Value
    pub typed_so : typed_suffixes tests name suffixes G ≡ Ok typed_list
    pub behind_is : behind_suffixes typed_list storage.ty G ≡ Ok reached
    pub stands : standing_of name.text G.names ≡ Some (Stored storage)
    pub is_mutable : storage.is_mutable ≡ true
    pub has_it : has_type av one reached.ty ≡ true
    pub built : Built d one
    pub holds : Bool
    pub none : holds ≡ false → has_bits one ≡ false
    pub first_is : record { steps = steps_of name suffixes; put = store_at (env tests right ds base subs loose funcs w) name one } ≡ u
    pub second_is : record { steps = map step_ahead reached.steps; put = stored tests.limit holds name.span (slot_of name.text (layout_of G.names)) one } ≡ v

  abbrev AllTwo : List StoreHere → List StoreThere → Type 0
  AllTwo [] [] = Unit {0}
  AllTwo [] (v ∷ vs) = ⊥
  AllTwo (u ∷ us) [] = ⊥
  AllTwo (u ∷ us) (v ∷ vs) = Two u v × AllTwo us vs

  record Stored_all (us : List StoreHere) (r : PureOf (List StoreThere)) : Type 0 where
    pub list : List StoreThere
    pub is : r ≡ Good list
    pub two : AllTwo us list

  all_stored : (c : Core) (o : Operand) (x : Value) (holds : Bool) → (holds ≡ false → has_bits x ≡ false) → (ps : List TypedPlace) (qs : List Placed) (us : List StoreHere) → At tests base subs loose H c → AllTake o.typed.ty x ps us → all_placed ps G ≡ Ok qs → all_parts_fit tests qs o ≡ Ok tt → Stored_all us (stores tests.limit holds (tree_places qs) x)
  all_stored c o x holds none [] qs [] a t h k = subst (λ z. Stored_all [] (stores tests.limit holds (tree_places z) x)) (ok_ok [] qs h) (record { list = []; is = refl; two = tt })
  all_stored c o x holds none [] qs (u ∷ us) a t h k = absurd t
  all_stored c o x holds none (p ∷ ps) qs [] a t h k = absurd t
  all_stored c o x holds none (p ∷ ps) qs (u ∷ us) a t h k =
      let q = bind_ok (placed p G) _ qs h in
      let l = bind_ok (all_placed ps G) _ qs q.then in
      let s = bind_ok (assignable p.name G) _ q.value q.first in
      let r = bind_ok (behind_suffixes p.suffixes s.value.ty G) _ q.value s.then in
      let z = bind_ok (found_or (storage_of p.name.text G.names) T02 p.name.span) _ s.value s.first in
      let m = then_ok (need z.value.is_mutable T14 p.name.span) (Ok z.value) s.value z.then in
      let same : z.value ≡ s.value = ok_ok z.value s.value m.then in
      let stands = storage_standing av (standing_of p.name.text G.names) s.value (found_ok (storage_of p.name.text G.names) T02 p.name.span z.value z.first ∙ ap Some same) in
      let mutable : s.value.is_mutable ≡ true = sym (ap (λ (v : Storage). v.is_mutable) same) ∙ need_ok z.value.is_mutable T14 p.name.span tt m.first in
      let at = placed_at p s.value r.value G.names in
      let are : at ∷ l.value ≡ qs = ap (λ v. v ∷ l.value) (ok_ok at q.value r.then) ∙ ok_ok (q.value ∷ l.value) qs l.then in
      let k1 : all_parts_fit tests (at ∷ l.value) o ≡ Ok tt = subst (λ v. all_parts_fit tests v o ≡ Ok tt) (sym are) k in
      let f = then_ok (part_fits tests (part_of p.way (Some o.typed.ty)) r.value.ty o.span) _ tt k1 in
      let g : part_fits tests (Some t.0.ty) r.value.ty o.span ≡ Ok tt = subst (λ v. part_fits tests v r.value.ty o.span ≡ Ok tt) t.0.ty_is f.first in
      let good = scope_good av base G.names c w a.agrees p.name.text (Stored s.value) stands in
      let formed =
      suffixes_formed tests right ds base subs loose funcs w G p.name t.0.suffixes p.suffixes s.value.ty r.value
      (counts_held av base G.names c a.agrees) good.0 t.0.typed_so r.first in
      let rest = all_stored c o x holds none ps l.value us a t.1 l.first f.then in
      let v : StoreThere = record { steps = map step_ahead r.value.steps; put = stored tests.limit holds p.name.span (slot_of p.name.text (layout_of G.names)) t.0.one } in
      subst (λ e. Stored_all (u ∷ us) (stores tests.limit holds (tree_places e) x)) are
      (record {
        list = v ∷ rest.list;
        is = ap (λ e. pure.◌>>=◌ e (λ y. pure.◌>>=◌ (stores tests.limit holds (tree_places l.value) x) (λ ss. Good (record { steps = map step_ahead r.value.steps; put = stored tests.limit holds p.name.span (slot_of p.name.text (layout_of G.names)) y } ∷ ss)))) (t.0.part_is p.name.span)
            ∙ ap (λ e. pure.◌>>=◌ e (λ ss. Good (v ∷ ss))) rest.is;
        two = (
          record {
            name = p.name;
            suffixes = t.0.suffixes;
            typed_list = p.suffixes;
            storage = s.value;
            reached = r.value;
            one = t.0.one;
            typed_so = t.0.typed_so;
            behind_is = r.first;
            stands = stands;
            is_mutable = mutable;
            has_it = satisfying_keeps av tests right d (well_declared base w) t.0.ty r.value.ty t.0.one t.0.formed formed t.0.belongs.1 (fitted_ok (misfit tests t.0.ty r.value.ty) o.span tt g) t.0.belongs.0;
            built = t.0.belongs.1;
            holds = holds;
            none = λ e. part_without p.name.span p.way x t.0.one (none e) (t.0.part_is p.name.span);
            first_is = t.0.is;
            second_is = refl;
          },
          rest.two,
        );
      })

  stored_by : {A B : Type 0} (Q : A → B → Core → Type 0) (span : Span) (name : List ℕ) (s : Storage) (p q : PureOf Value) (c : Core) (k : Core → Does A) (l : BareCore → Runs B) → p ≡ q → Gives d av s.ty p → At tests base subs loose H c → standing_of name G.names ≡ Some (Stored s) → s.is_mutable ≡ true →
      ((c1 : Core) → At tests base subs loose H c1 → Same tests right base subs loose H Q (k c1) (l (erased c1))) →
      Same tests right base subs loose H Q (lift (pure.◌>>=◌ p (λ z. store span name z c)) c k) (lift (pure.◌>>=◌ q (λ z. put span (slot_of name (layout_of G.names)) z (erased c))) (erased c) l)
  stored_by Q span name s (Bad (Stuck mistake at)) q c k l e g a h m next = absurd g
  stored_by Q span name s (Bad (Faulted code at)) q c k l e g a h m next =
      subst (λ r. Same tests right base subs loose H Q (lift (pure.◌>>=◌ (Bad (Faulted code at)) (λ z. store span name z c)) c k) (lift (pure.◌>>=◌ r (λ z. put span (slot_of name (layout_of G.names)) z (erased c))) (erased c) l)) e (refl, refl, a.agrees.globals)
  stored_by Q span name s (Good z) q c k l e g a h m next =
      let r = store_same av base G.names c span name z s w.outside a.agrees h m g in
      subst (λ r1. Same tests right base subs loose H Q (lift (store span name z c) c k) (lift (pure.◌>>=◌ r1 (λ y. put span (slot_of name (layout_of G.names)) y (erased c))) (erased c) l)) e
      (subst (λ r1. Same tests right base subs loose H Q (lift r1 c k) (lift (put span (slot_of name (layout_of G.names)) z (erased c)) (erased c) l)) (sym r.is)
      (subst (λ r1. Same tests right base subs loose H Q (k r.after) (lift r1 (erased c) l)) (sym r.put_is)
      (next r.after (record { agrees = r.agrees; subs_are = a.subs_are; around_is = r.around_is ∙ a.around_is; stands = a.stands; counted = a.counted }))))

  -- one store, and what follows it
  store_then : {A B : Type 0} (Q : A → B → Core → Type 0) (u : StoreHere) (v : StoreThere) (t : Two u v) (ss : List Step) (ps : List places.Step) (c : Core) (k : Core → Does A) (l : BareCore → Runs B) → Ways tests right ds base subs loose funcs w H t.storage.ty t.reached.ty ss ps → At tests base subs loose H c →
      ((c1 : Core) → At tests base subs loose H c1 → Same tests right base subs loose H Q (k c1) (l (erased c1))) →
      Same tests right base subs loose H Q (lift (store_at (env tests right ds base subs loose funcs w) t.name t.one ss c) c k) (lift (stored tests.limit t.holds t.name.span (slot_of t.name.text (layout_of G.names)) t.one ps (erased c)) (erased c) l)
  store_then Q u v t ss ps c k l ways a next =
      let e = env tests right ds base subs loose funcs w in
      let span = t.name.span in
      let slot = slot_of t.name.text (layout_of G.names) in
      let f = found_at av d t.storage (or_value (value_of t.name.text c.frame) (value_of t.name.text c.globals)) (finds av base G.names c t.name.text t.storage a.agrees t.stands) in
      let r = slot_is f.one t.name.text G.names c (has_names av base G.names c w.outside a.agrees) f.is in
      let b = ways span t.one f.one t.has_it t.built f.belongs in
      subst (λ z. Same tests right base subs loose H Q (lift (pure.◌>>=◌ z (λ x. pure.◌>>=◌ (updated e span ss t.one x) (λ y. store span t.name.text y c))) c k) (lift (stored tests.limit t.holds span slot t.one ps (erased c)) (erased c) l)) (sym (ap (known span) f.is))
      (subst (λ z. Same tests right base subs loose H Q (lift (pure.◌>>=◌ (updated e span ss t.one f.one) (λ y. store span t.name.text y c)) c k) (lift (pure.◌>>=◌ z (λ x. pure.◌>>=◌ (places.updated tests.limit t.holds ps t.one x) (λ y. put span slot y (erased c)))) (erased c) l)) (sym (ap (known span) r))
      (stored_by Q span t.name.text t.storage (updated e span ss t.one f.one) (places.updated tests.limit t.holds ps t.one f.one) c k l (b.0 ∙ updated_is tests.limit t.holds ps t.one f.one t.none) b.1 a t.stands t.is_mutable next))

  one_same : {A B : Type 0} (Q : A → B → Core → Type 0) (u : StoreHere) (v : StoreThere) (c : Core) (k : Core → Does A) (l : BareCore → Runs B) → Two u v → At tests base subs loose H c → ((c1 : Core) → At tests base subs loose H c1 → Same tests right base subs loose H Q (k c1) (l (erased c1))) →
      Same tests right base subs loose H Q (eval_steps u.steps [] c (λ ns c1. lift (u.put ns c1) c1 k)) (eval_steps v.steps [] (erased c) (λ ns c1. lift (v.put ns c1) c1 l))
  one_same Q u v c k l t a next =
      let e = env tests right ds base subs loose funcs w in
      let slot = slot_of t.name.text (layout_of G.names) in
      subst (λ (z : StoreHere). Same tests right base subs loose H Q (eval_steps z.steps [] c (λ ns c1. lift (z.put ns c1) c1 k)) (eval_steps v.steps [] (erased c) (λ ns c1. lift (v.put ns c1) c1 l))) t.first_is
      (subst (λ (z : StoreThere). Same tests right base subs loose H Q (eval_steps (steps_of t.name t.suffixes) [] c (λ ns c1. lift (store_at e t.name t.one ns c1) c1 k)) (eval_steps z.steps [] (erased c) (λ ns c1. lift (z.put ns c1) c1 l))) t.second_is
      (suffixes_same tests right ds base subs loose funcs w H Q t.name t.suffixes t.typed_list t.storage.ty t.reached [] [] c (λ ns c1. lift (store_at e t.name t.one ns c1) c1 k) (λ ns c1. lift (stored tests.limit t.holds t.name.span slot t.one ns c1) c1 l)
      (scope_good av base G.names c w a.agrees t.name.text (Stored t.storage) t.stands).0 t.typed_so t.behind_is a
      (λ ss ps c1 ways a1. store_then Q u v t ss ps c1 k l ways a1 next)))

  stores_same : (Q : Exit → Exit → Core → Type 0) (us : List StoreHere) (vs : List StoreThere) (c : Core) → AllTwo us vs → At tests base subs loose H c → ((c1 : Core) → At tests base subs loose H c1 → Q Normal Normal c1) → Same tests right base subs loose H Q (store_each us c) (store_each vs (erased c))
  stores_same Q [] [] c t a next = (refl, next c a)
  stores_same Q [] (v ∷ vs) c t a next = absurd t
  stores_same Q (u ∷ us) [] c t a next = absurd t
  stores_same Q (u ∷ us) (v ∷ vs) c t a next = one_same Q u v c (store_each us) (store_each vs) t.0 a (λ c1 a1. stores_same Q us vs c1 t.1 a1 next)

module _ (tests : Tests) (right : IsRight tests) (ds : List Decl) (base : List Entry) (subs : List Signature) (loose : Bool) (funcs : List TreeFunc) (w : WellNamed base) where
  pub assign_acted : (j : StmtClaim) (span : Span) (t : Target) (e : Expr) (c : Core) → assign_rule tests span (found_target tests t) e j.body.scope ≡ Ok j.done → Held tests right ds base subs loose funcs w j c → Acted tests right ds base subs loose funcs w j true (st.Assign span t e) c
  assign_acted j span t e c h k =
      let G1 = j.body.scope in
      let H1 = here tests right ds base subs loose funcs w j in
      let ev = env tests right ds base subs loose funcs w in
      let p = bind_ok ((found_target tests t).places G1) _ j.done h in
      let o = bind_ok (operand_of tests e G1) _ j.done p.then in
      let q = bind_ok (all_placed p.value G1) _ j.done o.then in
      let f = then_ok (all_parts_fit tests q.value o.value) _ j.done q.then in
      let n = then_ok (need ((found_target tests t).counts o.value.typed.ty) T05 span) _ j.done f.then in
      let S = o.value.typed in
      let ks = place_effects p.value ++ S.effect ∷ [] in
      let kind = greater (greatest Pure ks) (writings q.value) in
      let act : Act = tree.Assign span (tree_places q.value) S.tree in
      let dn = done G1.names kind act in
      let ty = operand_typed tests e G1 o.value o.first in
      let holds = holds_bits (tree_type S.tree) in
      let formed = typed_formed tests right (types_in base) (well_declared base w) e G1 S (scope_good j.present base G1.names c w k.at.agrees) (subst (FormedSubs tests right (types_in base) (well_declared base w)) (sym k.at.subs_are) k.subs_formed) ty in
      acted tests right ds base subs loose funcs w j true (st.Assign span t e) c dn (ended_is G1.class span (all_together Pure ks) kind G1.names act j.done n.then) refl
      (λ i. operand tests right base subs loose H1 (OutAct tests right ds base subs loose funcs w j true) e S c (λ x c1. lift (assigned t ev span x) c1 (λ ss. store_each ss c1)) (λ x c1. lift (stores tests.limit holds (tree_places q.value) x) c1 (λ ss. store_each ss c1)) ty k.at
      (λ x c1 v a1.
      let g = target_good tests right ds base subs loose funcs w H1 t S.ty x p.value span p.first (need_ok ((found_target tests t).counts S.ty) T05 span tt n.first) formed v in
      let z = all_stored tests right ds base subs loose funcs w H1 c1 o.value x holds (λ n. none_in j.present S.ty x (sym (ap holds_bits (tree_typed tests e G1 S ty)) ∙ n) v.0) p.value q.value g.list a1 g.take q.first f.first in
      subst (λ r. Same tests right base subs loose H1 (OutAct tests right ds base subs loose funcs w j true) (lift r c1 (λ ss. store_each ss c1)) (lift (stores tests.limit holds (tree_places q.value) x) (erased c1) (λ ss. store_each ss (erased c1)))) (sym g.is)
      (subst (λ r. Same tests right base subs loose H1 (OutAct tests right ds base subs loose funcs w j true) (store_each g.list c1) (lift r (erased c1) (λ ss. store_each ss (erased c1)))) (sym z.is)
      (stores_same tests right ds base subs loose funcs w H1 (OutAct tests right ds base subs loose funcs w j true) g.list z.list c1 z.two a1
      (λ c2 a2. (refl, ends_here tests right ds base subs loose funcs w j c2 dn i refl a2))))))
