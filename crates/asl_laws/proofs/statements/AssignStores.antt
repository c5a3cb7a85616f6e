-- A store under a name whose storage can be assigned and has the type of the value: it is done, the state agrees again, and the store in the place of the name
-- does the same.
use Rattle.std.proofs.Common.{◌≡◌, ℕ, suc, Bool, true, false, cond, List, [], ◌∷◌, ◌++◌, Option, Some, None, option_map, refl, sym, ap, ◌∙◌, subst}
use Rattle.std.specs.Str.{bytes_eq}
use Rattle.asl_syn.specs.declared.token.Span.{Span}
use Rattle.asl_rules.specs.declared.slot.Slot.TheVariants.{Global}
use Rattle.asl_rules.specs.declarations.Layouts.{place_of, number_before, slot_among, slot_of, global_names, layout_of}
use Rattle.asl_rules.specs.types.Types.{Ty, kind_eq}
use Rattle.asl_rules.specs.types.Closed.{Assignment, type_with}
use Rattle.asl_rules.specs.declarations.Scopes.{Entry, Standing, Stored, Subprogram, TypeName, Label, Storage, standing_of}
use Rattle.asl_rules.specs.values.Values.{Value, has, kind_of}
use Rattle.asl_rules.specs.types.Views.{viewed, adopted, alike, same_widths}
use Rattle.asl_rules.specs.runs.States.{Under, of_type, of_value, Binding, Core, kept}
use Rattle.asl_rules.specs.private.Belonging.{has_type, InType}
use Rattle.asl_rules.specs.private.Agreement.{IsUnder, IsKnown, CountsAs, Holds, HoldsGlobal, no_atoms, types_in, AllMatch, global_matches, local_matches, FrameMatches, IsPlain, AllPlain, AllFresh, Agrees}
use Rattle.asl_rules.specs.runs.Plans.{Stuck, Immutable, Good, Bad}
use Rattle.asl_rules.specs.runs.Pures.{◌>>=◌, there, known}
use Rattle.asl_rules.specs.runs.Evaluation.{put_value, map_pure, stored_in, first_store, store}
use Rattle.asl_rules.specs.private.TypedMeaning.{set_at, put}
use Rattle.asl_rules.specs.private.Erasure.{values_of, erased}
use Rattle.asl_rules.proofs.basics.Tests.{and_true, some_same, none_some}
use Rattle.asl_rules.proofs.values.SameKind.{tests_equal}
use Rattle.asl_rules.proofs.values.KindOf.{has_kind}
use Rattle.asl_rules.proofs.values.Viewing.{closed_widths, adopted_viewed}
use Rattle.asl_rules.proofs.scopes.Lookups.{stored_same, not_here, skip_other, behind, before_is}
use Rattle.asl_rules.proofs.scopes.Slots.{binding_names, AllOutside, HasNames, has_names}
use Rattle.asl_laws.proofs.expressions.Claims.{around_of}

-- a value of a type is like each other one of the type
pub alike_types : (av : Assignment) (T : Ty) (x y : Value) → has_type av x T ≡ true → has_type av y T ≡ true → alike x y ≡ true
alike_types av T x y h k =
    and_true (kind_eq (kind_of x) (kind_of y)) (same_widths x y) (tests_equal (kind_of x) (kind_of y) (has_kind av T x h ∙ sym (has_kind av T y k))) (closed_widths (type_with T av) x y h k)

-- what belongs to a type is kept as it is where a place of the type is stored
pub kept_under : (d : List ℕ → Option Ty) (av : Assignment) (u : Under) (T : Ty) (x : Value) → IsUnder d av u T → InType d av x T → kept u x ≡ Some x
kept_under d av (of_type U) T x e i =
    subst (λ V. cond (has x V) (Some (viewed V x)) None ≡ Some x) (sym e)
    (ap (λ b. cond b (Some (viewed (type_with T av) x)) None) i.0 ∙ ap Some i.2)
kept_under d av (of_value y) T x j i =
    ap (λ b. cond b (Some (adopted y x)) None) (alike_types av T y x j.0 i.0) ∙ ap Some (adopted_viewed (type_with T av) y x j.0 i.0 j.2 ∙ i.2)

-- a binding takes a value that it keeps
put_good : (span : Span) (x : Value) (b : Binding) → b.is_mutable ≡ true → kept b.under x ≡ Some x → put_value span x b ≡ Good (record b { value = x })
put_good span x b m h =
    ap (λ t. cond t (there span (kept b.under x) >>= λ y. Good (record b { value = y })) (Bad (Stuck Immutable span))) m
    ∙ ap (λ o. there span o >>= λ y. Good (record b { value = y })) h

-- ---- among bindings

-- a store under a name, with the place of the name
record StoredIn (P : List Binding → Type 0) (span : Span) (name : List ℕ) (x : Value) (bs : List Binding) : Type 0 where
  pub after : List Binding
  pub is : stored_in span name x bs ≡ Some (Good after)
  pub holds : P after
  pub place : ℕ
  pub place_is : place_of name (binding_names bs) ≡ Some place
  pub number_is : number_before name (binding_names bs) ≡ place
  pub put_is : set_at place x (values_of bs) ≡ Some (values_of after)

stored_here : (P : List Binding → Type 0) (span : Span) (name : List ℕ) (x : Value) (b : Binding) (bs : List Binding) → bytes_eq b.name name ≡ true → put_value span x b ≡ Good (record b { value = x }) → P (record b { value = x } ∷ bs) → StoredIn P span name x (b ∷ bs)
unfolding binding_names
stored_here P span name x b bs e p h = record {
  after = record b { value = x } ∷ bs;
  is = ap (λ t. cond t (Some (map_pure (λ b1. b1 ∷ bs) (put_value span x b))) (option_map (map_pure (λ cs. b ∷ cs)) (stored_in span name x bs))) e ∙ ap (λ r. Some (map_pure (λ b1. b1 ∷ bs) r)) p;
  holds = h;
  place = 0;
  place_is = ap (λ t. cond t (Some 0) (option_map (λ i. suc i) (place_of name (binding_names bs)))) e;
  number_is = ap (λ t. cond t 0 (suc (number_before name (binding_names bs)))) e;
  put_is = refl;
}

stored_later : (P Q : List Binding → Type 0) (span : Span) (name : List ℕ) (x : Value) (b : Binding) (bs : List Binding) → bytes_eq b.name name ≡ false → ((cs : List Binding) → P cs → Q (b ∷ cs)) → StoredIn P span name x bs → StoredIn Q span name x (b ∷ bs)
unfolding binding_names
stored_later P Q span name x b bs e f r = record {
  after = b ∷ r.after;
  is = ap (λ t. cond t (Some (map_pure (λ b1. b1 ∷ bs) (put_value span x b))) (option_map (map_pure (λ cs. b ∷ cs)) (stored_in span name x bs))) e ∙ ap (option_map (map_pure (λ cs. b ∷ cs))) r.is;
  holds = f r.after r.holds;
  place = suc r.place;
  place_is = ap (λ t. cond t (Some 0) (option_map (λ i. suc i) (place_of name (binding_names bs)))) e ∙ ap (option_map (λ i. suc i)) r.place_is;
  number_is = ap (λ t. cond t 0 (suc (number_before name (binding_names bs)))) e ∙ ap (λ i. suc i) r.number_is;
  put_is = ap (option_map (λ zs. b.value ∷ zs)) r.put_is;
}

-- what is stored in a binding that holds the storage of this name
record Taken (d : List ℕ → Option Ty) (span : Span) (n : List ℕ) (u : Storage) (b : Binding) (x : Value) : Type 0 where
  pub name_is : b.name ≡ n
  pub put_is : put_value span x b ≡ Good (record b { value = x })

module _ (av : Assignment) where
  -- a value of the storage's type in a binding that holds it
  kept_holds : (d : List ℕ → Option Ty) (name : List ℕ) (s : Storage) (b : Binding) (x : Value) → Holds d av name s b → s.is_mutable ≡ true → s.counted ≡ None → InType d av x s.ty → Holds d av name s (record b { value = x })
  kept_holds d name s b x k m n h = record {
    name_is = k.name_is;
    under_is = k.under_is;
    mutable_is = k.mutable_is;
    well_formed = k.well_formed;
    belongs = h;
    known = subst (λ t. IsKnown (cond t None s.initial) x) (sym m) tt;
    counts = subst (λ o. CountsAs av o x) (sym n) tt;
  }

  held_takes : (d : List ℕ → Option Ty) (span : Span) (n : List ℕ) (u : Storage) (b : Binding) (x : Value) → Holds d av n u b → u.is_mutable ≡ true → InType d av x u.ty → Taken d span n u b x
  held_takes d span n u b x k m i = record { name_is = k.name_is; put_is = put_good span x b (k.mutable_is ∙ m) (kept_under d av b.under u.ty x k.under_is i) }

  step : (d : List ℕ → Option Ty) (P Q : List Binding → Type 0) (m : Bool) (span : Span) (name n : List ℕ) (x : Value) (s u : Storage) (b : Binding) (bs : List Binding) (o : Option Standing) → bytes_eq n name ≡ m → b.name ≡ n →
      cond m (Some (Stored u)) o ≡ Some (Stored s) → (u ≡ s → put_value span x b ≡ Good (record b { value = x })) → (u ≡ s → Q (record b { value = x } ∷ bs)) → ((cs : List Binding) → P cs → Q (b ∷ cs)) →
      (o ≡ Some (Stored s) → StoredIn P span name x bs) → StoredIn Q span name x (b ∷ bs)
  step d P Q true span name n x s u b bs o q e h put here later next =
      let f = stored_same u s (some_same (Stored u) (Stored s) h) in
      stored_here Q span name x b bs (ap (λ l. bytes_eq l name) e ∙ q) (put f) (here f)
  step d P Q false span name n x s u b bs o q e h put here later next = stored_later P Q span name x b bs (ap (λ l. bytes_eq l name) e ∙ q) later (next h)

  -- ---- in a frame

  frame_by : (d : List ℕ → Option Ty) (span : Span) (name n : List ℕ) (x : Value) (s : Storage) (st : Standing) (es : List Entry) (b : Binding) (bs : List Binding) → local_matches d av n st b → IsPlain st → FrameMatches d av es bs → cond (bytes_eq n name) (Some st) (standing_of name es) ≡ Some (Stored s) → s.is_mutable ≡ true → InType d av x s.ty →
      (standing_of name es ≡ Some (Stored s) → StoredIn (FrameMatches d av es) span name x bs) → StoredIn (FrameMatches d av (record { name = n; standing = st } ∷ es)) span name x (b ∷ bs)
  frame_by d span name n x s Subprogram es b bs k p r h m i next = absurd k
  frame_by d span name n x s (TypeName T) es b bs k p r h m i next = absurd k
  frame_by d span name n x s (Label T y) es b bs k p r h m i next = absurd k
  frame_by d span name n x s (Stored u) es b bs k p r h m i next =
      step d (FrameMatches d av es) (FrameMatches d av (record { name = n; standing = Stored u } ∷ es)) (bytes_eq n name) span name n x s u b bs (standing_of name es) refl k.name_is h
      (λ e. (held_takes d span n u b x k (ap (λ (t : Storage). t.is_mutable) e ∙ m) (subst (λ (t : Storage). InType d av x t.ty) (sym e) i)).put_is)
      (λ e. let j = ap (λ (t : Storage). t.is_mutable) e ∙ m in (kept_holds d n u b x k j (p.2 j) (subst (λ (t : Storage). InType d av x t.ty) (sym e) i), r))
      (λ cs w. (k, w)) next

  frame_store : (d : List ℕ → Option Ty) (span : Span) (name : List ℕ) (x : Value) (s : Storage) (es : List Entry) (bs : List Binding) → FrameMatches d av es bs → AllPlain es → standing_of name es ≡ Some (Stored s) → s.is_mutable ≡ true → InType d av x s.ty → StoredIn (FrameMatches d av es) span name x bs
  frame_store d span name x s [] bs k p h m i = none_some (Stored s) h
  frame_store d span name x s (e ∷ es) [] k p h m i = absurd k
  frame_store d span name x s (e ∷ es) (b ∷ bs) k p h m i = frame_by d span name e.name x s e.standing es b bs k.0 p.0 k.1 h m i (λ w. frame_store d span name x s es bs k.1 p.1 w m i)

  -- ---- among the globals

  outside_type : (d : List ℕ → Option Ty) (u : Storage) (x : Value) (n : List ℕ) (b : Binding) → HoldsGlobal d n u b → InType d av x u.ty → InType d no_atoms x u.ty
  outside_type d u x n b k i =
      let e : type_with u.ty av ≡ type_with u.ty no_atoms = k.fixed av ∙ sym (k.fixed no_atoms) in
      (subst (λ T. has x T ≡ true) e i.0, i.1, subst (λ T. viewed T x ≡ x) e i.2)

module _ (av : Assignment) where
  global_by : (d : List ℕ → Option Ty) (span : Span) (name n : List ℕ) (x : Value) (s : Storage) (st : Standing) (es : List Entry) (bs : List Binding) → global_matches d n st bs (AllMatch d es) → cond (bytes_eq n name) (Some st) (standing_of name es) ≡ Some (Stored s) → s.is_mutable ≡ true → InType d av x s.ty →
      ((cs : List Binding) → AllMatch d es cs → standing_of name es ≡ Some (Stored s) → StoredIn (AllMatch d es) span name x cs) → StoredIn (λ cs. global_matches d n st cs (AllMatch d es)) span name x bs
  global_by d span name n x s Subprogram es bs k h m i next = next bs k (skip_other av (bytes_eq n name) Subprogram (standing_of name es) s refl h)
  global_by d span name n x s (TypeName T) es bs k h m i next = next bs k (skip_other av (bytes_eq n name) (TypeName T) (standing_of name es) s refl h)
  global_by d span name n x s (Label T y) es bs k h m i next = next bs k (skip_other av (bytes_eq n name) (Label T y) (standing_of name es) s refl h)
  global_by d span name n x s (Stored u) es [] k h m i next = absurd k
  global_by d span name n x s (Stored u) es (b ∷ bs) k h m i next =
      step av d (AllMatch d es) (λ cs. global_matches d n (Stored u) cs (AllMatch d es)) (bytes_eq n name) span name n x s u b bs (standing_of name es) refl k.0.holds.name_is h
      (λ e. (held_takes no_atoms d span n u b x k.0.holds (ap (λ (t : Storage). t.is_mutable) e ∙ m) (outside_type av d u x n b k.0 (subst (λ (t : Storage). InType d av x t.ty) (sym e) i))).put_is)
      (λ e. (record { holds = kept_holds no_atoms d n u b x k.0.holds (ap (λ (t : Storage). t.is_mutable) e ∙ m) k.0.no_atom (outside_type av d u x n b k.0 (subst (λ (t : Storage). InType d av x t.ty) (sym e) i)); fixed = k.0.fixed; no_atom = k.0.no_atom }, k.1))
      (λ cs w. (k.0, w)) (next bs k.1)

  global_store : (d : List ℕ → Option Ty) (span : Span) (name : List ℕ) (x : Value) (s : Storage) (es : List Entry) (bs : List Binding) → AllMatch d es bs → standing_of name es ≡ Some (Stored s) → s.is_mutable ≡ true → InType d av x s.ty → StoredIn (AllMatch d es) span name x bs
  global_store d span name x s [] bs k h m i = none_some (Stored s) h
  global_store d span name x s (e ∷ es) bs k h m i = global_by d span name e.name x s e.standing es bs k h m i (λ cs w z. global_store d span name x s es cs w z m i)

  -- a name from outside is none of the frame
  record NotIn (span : Span) (name : List ℕ) (x : Value) (bs : List Binding) : Type 0 where
    pub is : stored_in span name x bs ≡ None
    pub place_is : place_of name (binding_names bs) ≡ None

  none_in : (span : Span) (name : List ℕ) (x : Value) → NotIn span name x []
  unfolding binding_names
  none_in span name x = record { is = refl; place_is = refl }

  not_in : (span : Span) (name : List ℕ) (x : Value) (b : Binding) (bs : List Binding) → bytes_eq b.name name ≡ false → NotIn span name x bs → NotIn span name x (b ∷ bs)
  unfolding binding_names
  not_in span name x b bs e r = record {
    is = ap (λ t. cond t (Some (map_pure (λ b1. b1 ∷ bs) (put_value span x b))) (option_map (map_pure (λ cs. b ∷ cs)) (stored_in span name x bs))) e ∙ ap (option_map (map_pure (λ cs. b ∷ cs))) r.is;
    place_is = ap (λ t. cond t (Some 0) (option_map (λ i. suc i) (place_of name (binding_names bs)))) e ∙ ap (option_map (λ i. suc i)) r.place_is;
  }

  absent_by : (d : List ℕ → Option Ty) (span : Span) (x : Value) (base : List Entry) (name n : List ℕ) (st own : Standing) (b : Binding) (bs : List Binding) → local_matches d av n own b → standing_of n base ≡ None → standing_of name base ≡ Some st → NotIn span name x bs → NotIn span name x (b ∷ bs)
  absent_by d span x base name n st Subprogram b bs m f h k = absurd m
  absent_by d span x base name n st (TypeName T) b bs m f h k = absurd m
  absent_by d span x base name n st (Label T y) b bs m f h k = absurd m
  absent_by d span x base name n st (Stored u) b bs m f h k = not_in span name x b bs (ap (λ l. bytes_eq l name) m.name_is ∙ not_here av (bytes_eq n name) base name n st refl f h) k

  absent_store : (d : List ℕ → Option Ty) (span : Span) (x : Value) (base es : List Entry) (name : List ℕ) (st : Standing) (bs : List Binding) → FrameMatches d av es bs → AllFresh base es → standing_of name base ≡ Some st → NotIn span name x bs
  absent_store d span x base [] name st [] m f h = none_in span name x
  absent_store d span x base [] name st (b ∷ bs) m f h = absurd m
  absent_store d span x base (e ∷ es) name st [] m f h = absurd m
  absent_store d span x base (e ∷ es) name st (b ∷ bs) m f h = absent_by d span x base name e.name st e.standing b bs m.0 f.0 h (absent_store d span x base es name st bs m.1 f.1 h)

  -- ---- in a state

  -- a store under a name, and in its place
  pub record StoreSame (base names : List Entry) (c : Core) (span : Span) (name : List ℕ) (x : Value) : Type 0 where
    pub after : Core
    pub is : store span name x c ≡ Good after
    pub put_is : put span (slot_of name (layout_of names)) x (erased c) ≡ Good (erased after)
    pub agrees : Agrees base names av after
    pub around_is : around_of after ≡ around_of c

  by_base : (base names : List Entry) (c : Core) (span : Span) (name : List ℕ) (x : Value) (s : Storage) (a : Agrees base names av c) → HasNames names c → (o : Option Standing) → standing_of name base ≡ o → standing_of name (base ++ a.locals) ≡ Some (Stored s) → s.is_mutable ≡ true → InType (types_in base) av x s.ty → StoreSame base names c span name x
  by_base base names c span name x s a n None q h m i =
      let r = frame_store av (types_in base) span name x s a.locals c.frame a.frame a.plain (sym (behind base a.locals name q) ∙ h) m i in
      record {
        after = record c { frame = r.after };
        is = ap (λ o. first_store span (λ bs. record c { frame = bs }) (λ bs. record c { globals = bs }) o (stored_in span name x c.globals)) r.is;
        put_is = ap (λ ns. put span (slot_among (place_of name ns) name (global_names names)) x (erased c)) n.frame
            ∙ ap (λ o. put span (slot_among o name (global_names names)) x (erased c)) r.place_is
            ∙ ap (λ o. known span (option_map (λ xs. record (erased c) { frame = xs }) o)) r.put_is;
        agrees = record { locals = a.locals; names_are = a.names_are; fresh = a.fresh; plain = a.plain; frame = r.holds; globals = a.globals; handled = a.handled; callers = a.callers };
        around_is = refl;
      }
  by_base base names c span name x s a n (Some st) q h m i =
      let z = absent_store (types_in base) span x base a.locals name st c.frame a.frame a.fresh q in
      let r = global_store (types_in base) span name x s base c.globals a.globals (q ∙ sym (before_is base a.locals name st q) ∙ h) m i in
      record {
        after = record c { globals = r.after };
        is = ap (λ o. first_store span (λ bs. record c { frame = bs }) (λ bs. record c { globals = bs }) o (stored_in span name x c.globals)) z.is
            ∙ ap (λ o. first_store span (λ bs. record c { frame = bs }) (λ bs. record c { globals = bs }) None o) r.is;
        put_is = ap (λ ns. put span (slot_among (place_of name ns) name (global_names names)) x (erased c)) n.frame
            ∙ ap (λ o. put span (slot_among o name (global_names names)) x (erased c)) z.place_is
            ∙ ap (λ ns. put span (slot_among None name ns) x (erased c)) n.globals
            ∙ ap (λ i. put span (Global i) x (erased c)) r.number_is
            ∙ ap (λ o. known span (option_map (λ xs. record (erased c) { globals = xs }) o)) r.put_is;
        agrees = record { locals = a.locals; names_are = a.names_are; fresh = a.fresh; plain = a.plain; frame = a.frame; globals = r.holds; handled = a.handled; callers = a.callers };
        around_is = refl;
      }

  pub store_same : (base names : List Entry) (c : Core) (span : Span) (name : List ℕ) (x : Value) (s : Storage) → AllOutside base → Agrees base names av c → standing_of name names ≡ Some (Stored s) → s.is_mutable ≡ true → InType (types_in base) av x s.ty → StoreSame base names c span name x
  store_same base names c span name x s o a h m i =
      by_base base names c span name x s a (has_names av base names c o a) (standing_of name base) refl (ap (standing_of name) (sym a.names_are) ∙ h) m i
