-- The graph of a program is of its declarations: an edge is a use, and a way a path.
use Rattle.std.proofs.Common.{◌≡◌, ℕ, zero, suc, ◌+◌, inl, inr, Bool, true, false, not, ◌&&◌, ◌||◌, cond, List, [], ◌∷◌, ◌++◌, length, map, get_or, Option, Some, None, refl, sym, ap, ◌∙◌, subst, arith}
use Rattle.std.specs.Prelude.{◌==◌}
use Rattle.std.specs.List.{slice_get}
use Rattle.std.specs.Str.{bytes_eq}
use Rattle.std.specs.Cmp.Lexicographic.{bytes_decides, nat_list_eq_equiv}
use Rattle.std.proofs.lemmas.Bool.{eq-eqb, eqb-true}
use Rattle.asl_syn.specs.declared.tree.Decl.{Decl}
use Rattle.asl_syn.specs.declared.tree.Decl.TheVariants as dc
use Rattle.asl_syn.specs.declared.tree.Ident.{Ident}
use Rattle.asl_rules.specs.declarations.Names.{Declared, declared_as, declared_by, all_declared}
use Rattle.asl_rules.specs.declarations.Uses.{Used, uses, is_declared, declares, any_declared, uses_one_of, leads_by, leads_to, reaches_itself}
use Rattle.asl_names.specs.private.Firsts.{Places, first_place, kept_by, kept}
use Rattle.asl_names.specs.private.Graphs.{all_kept, plain_names, named_at, all_places, declarers, with_used, added, graph_of}
use Rattle.asl_turns.specs.Graphs.{Graph, row, is_among}
use Rattle.asl_names.specs.private.Ways.{is_way, HasWay}
use Rattle.asl_rules.proofs.basics.Tests.{no, some_none, some_same, both, either, or_second, and_true, same_name, name_is}
use Rattle.asl_rules.proofs.basics.Tests.{none_some}
use Rattle.asl_rules.proofs.verdict.Distinct.{In, Distinct, Plain, NotIn, front_not_in, rest_distinct, plain_in}
use Rattle.asl_rules.proofs.verdict.Reaching.{step_of, leads_step, Reaches, short}

-- ---- places of declarations

abbrev pub At : {A : Type 0} → List A → ℕ → A → Type 0
At xs n x = slice_get xs n ≡ Some x

pub at_in : {A : Type 0} (xs : List A) (n : ℕ) (x : A) → At xs n x → In x xs
at_in [] n x h = none_some x h
at_in (y ∷ xs) zero x h = inl (some_same y x h)
at_in (y ∷ xs) (suc n) x h = inr (at_in xs n x h)

pub in_at : {A : Type 0} (xs : List A) (x : A) → In x xs → (n : ℕ) × At xs n x
in_at [] x i = absurd i
in_at (y ∷ xs) x (inl e) = (0, ap Some e)
in_at (y ∷ xs) x (inr i) = let r = in_at xs x i in (suc r.0, r.1)

-- ---- what the table answers

or_place : Option ℕ → Option ℕ → Option ℕ
or_place None p = p
or_place (Some n) p = Some n

or_none : (o : Option ℕ) → or_place o None ≡ o
unfolding or_place
or_none None = refl
or_none (Some n) = refl

or_in : (b : Bool) (x : ℕ) (o p q : Option ℕ) → o ≡ or_place p q → cond b (Some x) o ≡ or_place (cond b (Some x) p) q
unfolding or_place
or_in true x o p q h = refl
or_in false x o p q h = h

or_three : (o p q : Option ℕ) → or_place (or_place o p) q ≡ or_place o (or_place p q)
unfolding or_place
or_three None p q = refl
or_three (Some n) p q = refl

both_places : (t s : Places) (u : List ℕ) → first_place u (t ++ s) ≡ or_place (first_place u t) (first_place u s)
unfolding or_place
both_places [] s u = refl
both_places (e ∷ t) s u = or_in (bytes_eq u e.0) e.1 _ _ _ (both_places t s u)

stands : (t : Places) (name u : List ℕ) (a n : ℕ) → first_place name t ≡ Some a → or_place (first_place u t) (cond (bytes_eq u name) (Some n) None) ≡ first_place u t
unfolding or_place
stands t name u a n h = by (bytes_eq u name) refl
  where
    by : (b : Bool) → bytes_eq u name ≡ b → or_place (first_place u t) (cond b (Some n) None) ≡ first_place u t
    by false e = or_none (first_place u t)
    by true e =
        let there : first_place u t ≡ Some a = ap (λ m. first_place m t) ((bytes_decides u name).0 e) ∙ h in
        ap (λ o. or_place o (Some n)) there ∙ sym there

kept_one : (t : Places) (name u : List ℕ) (n : ℕ) → first_place u (kept name n t) ≡ or_place (first_place u t) (cond (bytes_eq u name) (Some n) None)
kept_one t name u n = by (first_place name t) refl
  where
    by : (o : Option ℕ) → first_place name t ≡ o → first_place u (kept_by o name n t) ≡ or_place (first_place u t) (cond (bytes_eq u name) (Some n) None)
    by None h = both_places t ((name, n) ∷ []) u
    by (Some a) h = sym (stands t name u a n h)

or_cond : (b : Bool) (n : ℕ) (o : Option ℕ) → or_place (cond b (Some n) None) o ≡ cond b (Some n) o
unfolding or_place
or_cond true n o = refl
or_cond false n o = refl

kept_all : (ps t : Places) (u : List ℕ) → first_place u (all_kept ps t) ≡ or_place (first_place u t) (first_place u ps)
kept_all [] t u = sym (or_none (first_place u t))
kept_all (p ∷ ps) t u =
    kept_all ps (kept p.0 p.1 t) u ∙ ap (λ o. or_place o (first_place u ps)) (kept_one t p.0 u p.1)
    ∙ or_three (first_place u t) (cond (bytes_eq u p.0) (Some p.1) None) (first_place u ps)
    ∙ ap (or_place (first_place u t)) (or_cond (bytes_eq u p.0) p.1 (first_place u ps))

in_table : (ds : List Decl) (u : List ℕ) → first_place u (declarers ds) ≡ first_place u (all_places 0 ds)
unfolding or_place
in_table ds u = kept_all (all_places 0 ds) [] u

-- ---- the names of one declaration

has_ident : List ℕ → List Ident → Bool
has_ident u [] = false
has_ident u (i ∷ is) = bytes_eq i.text u || has_ident u is

one_name : (b c : Bool) → ((b && true) || c) ≡ (b || c)
one_name true c = refl
one_name false c = refl

labels_has : (u : List ℕ) (is : List Ident) → is_declared u (map (declared_as false) is) ≡ has_ident u is
unfolding has_ident
labels_has u [] = refl
labels_has u (i ∷ is) = one_name (bytes_eq i.text u) (is_declared u (map (declared_as false) is)) ∙ ap (λ b. bytes_eq i.text u || b) (labels_has u is)

no_name : (b : Bool) → ((b && false) || false) ≡ false
no_name true = refl
no_name false = refl

declares_has : (d : Decl) (u : List ℕ) → declares d u ≡ has_ident u (plain_names d)
unfolding has_ident
declares_has (dc.Type d) u = one_name (bytes_eq d.name.text u) (is_declared u (map (declared_as false) _)) ∙ ap (λ b. bytes_eq d.name.text u || b) (labels_has u _)
declares_has (dc.Storage d) u = one_name (bytes_eq d.name.text u) false
declares_has (dc.Func f) u = no_name (bytes_eq f.name.text u)

or_cond_both : (a b : Bool) (n : ℕ) → cond a (Some n) (cond b (Some n) None) ≡ cond (a || b) (Some n) None
or_cond_both true b n = refl
or_cond_both false b n = refl

named_has : (n : ℕ) (is : List Ident) (u : List ℕ) → first_place u (named_at n is) ≡ cond (has_ident u is) (Some n) None
unfolding has_ident
named_has n [] u = refl
named_has n (i ∷ is) u =
    ap (λ b. cond b (Some n) (first_place u (named_at n is))) (nat_list_eq_equiv.symm u i.text)
    ∙ ap (cond (bytes_eq i.text u) (Some n)) (named_has n is u) ∙ or_cond_both (bytes_eq i.text u) (has_ident u is) n

-- the first declaration of a name, or one behind it
places_first : (n : ℕ) (d : Decl) (ds : List Decl) (u : List ℕ) → first_place u (all_places n (d ∷ ds)) ≡ cond (declares d u) (Some n) (first_place u (all_places (n + 1) ds))
places_first n d ds u =
    both_places (named_at n (plain_names d)) (all_places (n + 1) ds) u
    ∙ ap (λ o. or_place o (first_place u (all_places (n + 1) ds))) (named_has n (plain_names d) u ∙ ap (λ b. cond b (Some n) None) (sym (declares_has d u)))
    ∙ or_cond (declares d u) n (first_place u (all_places (n + 1) ds))

record Declarer (ds : List Decl) (u : List ℕ) (n k : ℕ) : Type 0 where
  pub place : ℕ
  pub is : k ≡ n + place
  pub decl : Decl
  pub at : At ds place decl
  pub declares_it : declares decl u ≡ true

declarer_of : (n : ℕ) (ds : List Decl) (u : List ℕ) (k : ℕ) → first_place u (all_places n ds) ≡ Some k → Declarer ds u n k
declarer_of n [] u k h = none_some k h
declarer_of n (d ∷ ds) u k h = by (declares d u) refl (sym (places_first n d ds u) ∙ h) (declarer_of (n + 1) ds u k)
  where
    by : (b : Bool) → declares d u ≡ b → cond b (Some n) (first_place u (all_places (n + 1) ds)) ≡ Some k → (first_place u (all_places (n + 1) ds) ≡ Some k → Declarer ds u (n + 1) k) → Declarer (d ∷ ds) u n k
    by true e q next = let s = some_same n k q in record { place = 0; is = omega (arith, s); decl = d; at = refl; declares_it = e }
    by false e q next = let r = next q in let i = r.is in record { place = suc r.place; is = omega (arith, i); decl = r.decl; at = r.at; declares_it = r.declares_it }

-- ---- distinct names have one declaration

plain_here : (x : Declared) (xs : List Declared) (u : List ℕ) → (bytes_eq x.name.text u && not x.is_subprogram) ≡ true → Plain u (x ∷ xs)
plain_here x xs u h = let p = both (bytes_eq x.name.text u) (not x.is_subprogram) h in inl (same_name x.name.text u p.0, not_sub x.is_subprogram p.1)
  where
    not_sub : (b : Bool) → not b ≡ true → b ≡ false
    not_sub true h = no h
    not_sub false h = refl

pub declared_plain : (u : List ℕ) (xs : List Declared) → is_declared u xs ≡ true → Plain u xs
declared_plain u [] h = no h
declared_plain u (x ∷ xs) h = either (bytes_eq x.name.text u && not x.is_subprogram) (is_declared u xs) h (plain_here x xs u) (λ k. inr (declared_plain u xs k))

not_plain : {A : Type 0} (u : List ℕ) (xs : List Declared) → NotIn u xs → Plain u xs → A
not_plain u [] h p = absurd p
not_plain u (x ∷ xs) h (inl e) = no (sym h.0 ∙ (ap (λ m. bytes_eq m u) e.0 ∙ name_is u))
not_plain u (x ∷ xs) h (inr p) = not_plain u xs h.1 p

one_declarer : {A : Type 0} (d : Decl) (ds : List Decl) (u : List ℕ) (e : Decl) → Distinct (all_declared (d ∷ ds)) → declares d u ≡ true → In e ds → declares e u ≡ true → A
one_declarer d ds u e x h i k =
    not_plain u (declared_by d) (front_not_in u (declared_by d) (all_declared ds) x (plain_in e ds u i (declared_plain u (declared_by e) k))) (declared_plain u (declared_by d) h)

place_is : (n : ℕ) (ds : List Decl) (u : List ℕ) (j : ℕ) (e : Decl) → Distinct (all_declared ds) → At ds j e → declares e u ≡ true → first_place u (all_places n ds) ≡ Some (n + j)
place_is n [] u j e x a h = none_some e a
place_is n (d ∷ ds) u zero e x a h =
    let q = some_same d e a in
    let z : n ≡ n + zero = omega arith in
    places_first n d ds u ∙ ap (λ b. cond b (Some n) (first_place u (all_places (n + 1) ds))) (subst (λ y. declares y u ≡ true) (sym q) h) ∙ ap Some z
place_is n (d ∷ ds) u (suc j) e x a h = by (declares d u) refl (place_is (n + 1) ds u j e (rest_distinct (declared_by d) (all_declared ds) x) a h)
  where
    by : (b : Bool) → declares d u ≡ b → first_place u (all_places (n + 1) ds) ≡ Some (n + 1 + j) → first_place u (all_places n (d ∷ ds)) ≡ Some (n + suc j)
    by true q k = one_declarer d ds u e x q (at_in ds j e a) h
    by false q k =
        let z : n + 1 + j ≡ n + suc j = omega arith in
        places_first n d ds u ∙ ap (λ b. cond b (Some n) (first_place u (all_places (n + 1) ds))) q ∙ k ∙ ap Some z

-- ---- the graph

is_place : ℕ → Option ℕ → Bool
is_place j None = false
is_place j (Some k) = k == j

hits : ℕ → Places → Used → Bool
hits j t [] = false
hits j t (u ∷ us) = is_place j (first_place u t) || hits j t us

or_nothing : (b : Bool) → (b || false) ≡ b
or_nothing true = refl
or_nothing false = refl

or_assoc : (a b c : Bool) → ((a || b) || c) ≡ (a || (b || c))
or_assoc true b c = refl
or_assoc false b c = refl

among_both : (j : ℕ) (ms ns : List ℕ) → is_among j (ms ++ ns) ≡ (is_among j ms || is_among j ns)
among_both j [] ns = refl
among_both j (m ∷ ms) ns = ap (λ b. (m == j) || b) (among_both j ms ns) ∙ sym (or_assoc (m == j) (is_among j ms) (is_among j ns))

among_used : (j : ℕ) (o : Option ℕ) (ps : List ℕ) → is_among j (with_used o ps) ≡ (is_among j ps || is_place j o)
unfolding is_place
among_used j None ps = sym (or_nothing (is_among j ps))
among_used j (Some k) ps = among_both j ps (k ∷ []) ∙ ap (λ b. is_among j ps || b) (or_nothing (k == j))

among_added : (j : ℕ) (t : Places) (us : Used) (ps : List ℕ) → is_among j (added t us ps) ≡ (is_among j ps || hits j t us)
unfolding hits
among_added j t [] ps = sym (or_nothing (is_among j ps))
among_added j t (u ∷ us) ps =
    among_added j t us (with_used (first_place u t) ps) ∙ ap (λ b. b || hits j t us) (among_used j (first_place u t) ps)
    ∙ or_assoc (is_among j ps) (is_place j (first_place u t)) (hits j t us)

map_get : {A B : Type 0} (f : A → B) (xs : List A) (n : ℕ) (x : A) (d : B) → At xs n x → get_or (map f xs) n d ≡ f x
map_get f [] n x d h = none_some x h
map_get f (y ∷ xs) zero x d h = ap f (some_same y x h)
map_get f (y ∷ xs) (suc n) x d h = map_get f xs n x d h

map_past : {A B : Type 0} (f : A → B) (xs : List A) (n : ℕ) (d : B) → slice_get xs n ≡ None → get_or (map f xs) n d ≡ d
map_past f [] n d h = refl
map_past f (y ∷ xs) zero d h = some_none y h
map_past f (y ∷ xs) (suc n) d h = map_past f xs n d h

module _ (ds : List Decl) (distinct : Distinct (all_declared ds)) where
  g : Graph
  g = graph_of ds

  row_is : (n : ℕ) (d : Decl) → At ds n d → row (graph_of ds) n ≡ added (declarers ds) (uses d) []
  row_is n d h = map_get (λ d. added (declarers ds) (uses d) []) ds n d [] h

  row_past : (n : ℕ) → slice_get ds n ≡ None → row (graph_of ds) n ≡ []
  row_past n h = map_past (λ d. added (declarers ds) (uses d) []) ds n [] h

  place_declares : (u : List ℕ) (j : ℕ) (e : Decl) → At ds j e → is_place j (first_place u (declarers ds)) ≡ declares e u
  unfolding is_place
  place_declares u j e a = ap (is_place j) (in_table ds u) ∙ by (declares e u) refl
    where
      miss : (o : Option ℕ) → first_place u (all_places 0 ds) ≡ o → declares e u ≡ false → is_place j o ≡ false
      miss None q h = refl
      miss (Some k) q h = by_eq (k == j) refl
        where
          by_eq : (b : Bool) → (k == j) ≡ b → b ≡ false
          by_eq false z = refl
          by_eq true z =
              let r = declarer_of 0 ds u k q in
              let i = r.is in
              let w = eqb-true k j z in
              let same : r.place ≡ j = omega (arith, i, w) in
              let one : decl_at r.place j r.decl e = (same, r.at, a) in
              no (sym h ∙ subst (λ y. declares y u ≡ true) (at_one one) r.declares_it)
            where
              decl_at : ℕ → ℕ → Decl → Decl → Type 0
              decl_at m n x y = (m ≡ n) × At ds m x × At ds n y

              at_one : {m n : ℕ} {x y : Decl} → decl_at m n x y → x ≡ y
              at_one z = some_same _ _ (sym z.1 ∙ ap (slice_get ds) z.0 ∙ z.2)

      by : (b : Bool) → declares e u ≡ b → is_place j (first_place u (all_places 0 ds)) ≡ b
      by true h = let z : 0 + j ≡ j = omega arith in ap (is_place j) (place_is 0 ds u j e distinct a h ∙ ap Some z) ∙ eq-eqb j j refl
      by false h = miss (first_place u (all_places 0 ds)) refl h

  hits_used : (us : Used) (j : ℕ) (e : Decl) → At ds j e → hits j (declarers ds) us ≡ any_declared e us
  unfolding hits
  hits_used [] j e a = refl
  hits_used (u ∷ us) j e a = ap (λ b. b || hits j (declarers ds) us) (place_declares u j e a) ∙ ap (λ b. declares e u || b) (hits_used us j e a)

  -- an edge is a use
  pub edge_is : (n j : ℕ) (d e : Decl) → At ds n d → At ds j e → is_among j (row (graph_of ds) n) ≡ uses_one_of d e
  edge_is n j d e a b = ap (is_among j) (row_is n d a) ∙ among_added j (declarers ds) (uses d) [] ∙ hits_used (uses d) j e b

  hit_at : (j : ℕ) (us : Used) → hits j (declarers ds) us ≡ true → (e : Decl) × At ds j e
  unfolding hits is_place
  hit_at j [] h = no h
  hit_at j (u ∷ us) h = either (is_place j (first_place u (declarers ds))) (hits j (declarers ds) us) h (λ k. by (first_place u (all_places 0 ds)) refl (sym (ap (is_place j) (in_table ds u)) ∙ k)) (hit_at j us)
    where
      by : (o : Option ℕ) → first_place u (all_places 0 ds) ≡ o → is_place j o ≡ true → (e : Decl) × At ds j e
      by None q k = no k
      by (Some m) q k =
          let r = declarer_of 0 ds u m q in
          let i = r.is in
          let w = eqb-true m j k in
          let same : r.place ≡ j = omega (arith, i, w) in
          (r.decl, sym (ap (slice_get ds) same) ∙ r.at)

  -- an edge leads to a declaration
  pub edge_at : (n j : ℕ) → is_among j (row (graph_of ds) n) ≡ true → (e : Decl) × At ds j e
  edge_at n j h = by (slice_get ds n) refl
    where
      by : (o : Option Decl) → slice_get ds n ≡ o → (e : Decl) × At ds j e
      by None q = no (sym (ap (is_among j) (row_past n q)) ∙ h)
      by (Some d) q = hit_at j (uses d) (sym (ap (is_among j) (row_is n d q) ∙ among_added j (declarers ds) (uses d) []) ∙ h)

  -- ---- ways are paths

  way_leads : (ks : List ℕ) (n j : ℕ) (d e : Decl) → At ds n d → At ds j e → is_way (graph_of ds) n ks j ≡ true → Reaches ds d e
  way_leads [] n j d e a b h = (0, sym (edge_is n j d e a b) ∙ h)
  way_leads (k ∷ ks) n j d e a b h =
      let p = both (is_among k (row (graph_of ds) n)) (is_way (graph_of ds) k ks j) h in
      let m = edge_at n k p.0 in
      let r = way_leads ks k j m.0 e m.1 b p.1 in
      (suc r.0, or_second (uses_one_of d e) (leads_by (λ x. leads_to r.0 ds x e) d ds) (leads_step (λ x. leads_to r.0 ds x e) d m.0 ds (at_in ds k m.0 m.1) (sym (edge_is n k d m.0 a m.1) ∙ p.0) r.1))

  leads_way : (l n j : ℕ) (d e : Decl) → At ds n d → At ds j e → leads_to l ds d e ≡ true → HasWay (graph_of ds) n j
  leads_way zero n j d e a b h = ([], edge_is n j d e a b ∙ h)
  leads_way (suc l) n j d e a b h =
      either (uses_one_of d e) (leads_by (λ x. leads_to l ds x e) d ds) h
      (λ u. ([], edge_is n j d e a b ∙ u))
      (λ k. let s = step_of (λ x. leads_to l ds x e) d ds k in
      let m = in_at ds s.by s.is_in in
      let w = leads_way l m.0 j s.by e m.1 b s.goes_on in
      (m.0 ∷ w.0, and_true (is_among m.0 (row (graph_of ds) n)) (is_way (graph_of ds) m.0 w.0 j) (edge_is n m.0 d s.by a m.1 ∙ s.is_used) w.1))

  -- a declaration reaches itself where there is a way back
  pub way_reaches : (n : ℕ) (d : Decl) → At ds n d → HasWay (graph_of ds) n n → reaches_itself ds d ≡ true
  way_reaches n d a w = short ds d d (at_in ds n d a) (way_leads w.0 n n d d a a w.1)

  pub reaches_way : (n : ℕ) (d : Decl) → At ds n d → reaches_itself ds d ≡ true → HasWay (graph_of ds) n n
  reaches_way n d a h = leads_way (length ds) n n d d a a h
