-- What the calls of the frames of a run do to them.
use Rattle.std.proofs.Common.{◌≡◌, ℕ, ◌+◌, ◌<◌, ◌≤◌, ◌^◌, List, [], ◌∷◌, ◌++◌, length, take, set, replicate, slice_get, Option, None, Some, IsSome, Result, refl, sym, ap, ◌∙◌, subst, arith, take_all}
use Rattle.std.proofs.lemmas.List.{length-replicate}
use Rattle.std.proofs.lemmas.Option.{slice_get_past}
use Rattle.asl_rules.specs.runs.Plans.{Pure}
use Rattle.asl_rules.specs.values.Values as rules
use Rattle.asl_value.specs.declared.failure.Failure.{Failure}
use Rattle.asl_value.specs.declared.value.Value.{Value}
use Rattle.asl_store.specs.Stored.{Replaced, Stored, bound_at, with_slot}
use Rattle.asl_branches.specs.Framed.{Changed, Framed, Kept}
use Rattle.asl_branches.specs.declared.frames.Caller.{Caller}
use Rattle.asl_branches.specs.declared.frames.Frames.TheInside.{Inside}
use Rattle.asl_branches.specs.private.Packing.{AreFilled, IsFrame, bound_in, kept, kept_in}
use Rattle.asl_branches.proofs.Packing.{as_many, as_many_kept, filled_pop, filled_push, frame_more, frame_new, frame_set, is_bound, kept_push, size_is, slot_within, slots_set, value_at, values_more, values_new, values_set}

abbrev pub framed : Stored → List Caller → Framed
framed s cs = record { globals = s.globals; values = bound_in s.newest; slots = length s.newest; callers = kept_in s.older cs }

abbrev pub view_of : Inside → Framed
view_of a = framed a.store a.callers.items

-- what holds of a store, the number of values, and the callers
abbrev pub AreKept : Stored → ℕ → List Caller → Type 0
AreKept s n cs = IsFrame n s.newest × AreFilled s.older cs

abbrev pub IsKept : Inside → Type 0
IsKept a = AreKept a.store a.height a.callers.items

same_framed : (gs gs1 vs vs1 : List Value) (n n1 : ℕ) (ks ks1 : List Kept) → gs ≡ gs1 → vs ≡ vs1 → n ≡ n1 → ks ≡ ks1 →
    ◌≡◌ {A = Framed} (record { globals = gs; values = vs; slots = n; callers = ks }) (record { globals = gs1; values = vs1; slots = n1; callers = ks1 })
same_framed gs gs1 vs vs1 n n1 ks ks1 globals values slots callers =
    λ k. record { globals = globals k; values = values k; slots = slots k; callers = callers k }

-- ---- reading

pub height_is : (a : Inside) (f : Framed) → IsKept a → view_of a ≡ f → length f.values ≡ a.height
height_is a f kept is = ap (λ (g : Framed). length g.values) (sym is) ∙ size_is a.height a.store.newest kept.0

pub value_is : (a : Inside) (f : Framed) (i : ℕ) (x : Value) → IsKept a → view_of a ≡ f → i < a.height → bound_at a.store.newest i ≡ Some x →
    slice_get f.values i ≡ Some x
value_is a f i x kept is h e =
    ap (λ (g : Framed). slice_get g.values i) (sym is) ∙ value_at a.height i a.store.newest kept.0 h ∙ e

pub no_value : (a : Inside) (f : Framed) (i : ℕ) → IsKept a → view_of a ≡ f → a.height ≤ i → slice_get f.values i ≡ None
no_value a f i kept is h = slice_get_past f.values i (omega (arith, height_is a f kept is, h))

-- a value has a slot that is bound, with a number of 32 bits
pub bound_here : (a : Inside) (i : ℕ) → IsKept a → i < a.height → IsSome (bound_at a.store.newest i)
bound_here a i kept h = is_bound a.height i a.store.newest kept.0 h

pub number_here : (a : Inside) (i : ℕ) → IsKept a → i < a.height → i < 2 ^ 32
number_here a i kept h = (slot_within a.height i a.store.newest kept.0 h).1

-- ---- the next slot

pub next_within : (a : Inside) (f : Framed) → IsKept a → view_of a ≡ f → length f.values < f.slots → (a.height < length a.store.newest) × (a.height < 2 ^ 32)
next_within a f kept is room =
    let slots : f.slots ≡ length a.store.newest = ap (λ (g : Framed). g.slots) (sym is) in
    let size = height_is a f kept is in
    (omega (arith, slots, size, room), omega (arith, slots, size, room, kept.0.1))

pub pushed_is : (a : Inside) (f : Framed) (s : Stored) (x : Value) → IsKept a → view_of a ≡ f → length f.values < f.slots →
    s ≡ with_slot a.store a.height (Some x) → framed s a.callers.items ≡ record f { values = f.values ++ x ∷ [] }
pushed_is a f s x kept is room e =
    let within = (next_within a f kept is room).0 in
    let os : List (Option Value) = a.store.newest in
    let os1 : List (Option Value) = set os a.height (Some x) in
    let values : bound_in os1 ≡ bound_in os ++ x ∷ [] = values_more a.height os os1 x kept.0 within refl in
    let slots : length os1 ≡ length os = slots_set a.height os os1 (Some x) refl in
    ap (λ (t : Stored). framed t a.callers.items) e
    ∙ same_framed _ _ _ _ _ _ (kept_in a.store.older a.callers.items) _ refl values slots refl
    ∙ ap (λ (g : Framed). record g { values = g.values ++ x ∷ [] }) is

pub pushed_kept : (a : Inside) (f : Framed) (s : Stored) (x : Value) → IsKept a → view_of a ≡ f → length f.values < f.slots →
    s ≡ with_slot a.store a.height (Some x) → AreKept s (a.height + 1) a.callers.items
pushed_kept a f s x kept is room e =
    let within = (next_within a f kept is room).0 in
    subst (λ (t : Stored). AreKept t (a.height + 1) a.callers.items) (sym e)
    (frame_more a.height a.store.newest (set a.store.newest a.height (Some x)) x kept.0 within refl, kept.1)

-- ---- fewer values

pub cut_is : (a : Inside) (f : Framed) (s : Stored) (n : ℕ) → view_of a ≡ f → bound_in s.newest ≡ take n (bound_in a.store.newest) →
    length s.newest ≡ length a.store.newest → s.globals ≡ a.store.globals → s.older ≡ a.store.older →
    framed s a.callers.items ≡ record f { values = take n f.values }
cut_is a f s n is values slots globals older =
    same_framed _ _ _ _ _ _ _ _ globals values slots (ap (λ (fs : List (List (Option Value))). kept_in fs a.callers.items) older)
    ∙ ap (λ (g : Framed). record g { values = take n g.values }) is

pub cut_kept : (a : Inside) (s : Stored) (n : ℕ) → IsKept a → IsFrame n s.newest → s.older ≡ a.store.older → AreKept s n a.callers.items
cut_kept a s n kept frame older = (frame, subst (λ (fs : List (List (Option Value))). AreFilled fs a.callers.items) (sym older) kept.1)

-- where there are no more
pub uncut_is : (a : Inside) (f : Framed) (n : ℕ) → IsKept a → view_of a ≡ f → a.height ≤ n → f ≡ record f { values = take n f.values }
uncut_is a f n kept is h =
    let all : take n f.values ≡ f.values = take_all n f.values (omega (arith, height_is a f kept is, h)) in
    ap (λ (vs : List Value). record f { values = vs }) (sym all)

-- ---- another value

pub set_is : (a : Inside) (f : Framed) (s : Stored) (i : ℕ) (x : Value) → IsKept a → view_of a ≡ f → i < length f.values →
    s ≡ with_slot a.store i (Some x) → framed s a.callers.items ≡ record f { values = set f.values i x }
set_is a f s i x kept is h e =
    let within : i < a.height = omega (arith, height_is a f kept is, h) in
    let os : List (Option Value) = a.store.newest in
    let os1 : List (Option Value) = set os i (Some x) in
    let values : bound_in os1 ≡ set (bound_in os) i x = values_set a.height i os os1 x kept.0 within refl in
    let slots : length os1 ≡ length os = slots_set i os os1 (Some x) refl in
    ap (λ (t : Stored). framed t a.callers.items) e
    ∙ same_framed _ _ _ _ _ _ (kept_in a.store.older a.callers.items) _ refl values slots refl
    ∙ ap (λ (g : Framed). record g { values = set g.values i x }) is

pub set_kept : (a : Inside) (f : Framed) (s : Stored) (i : ℕ) (x : Value) → IsKept a → view_of a ≡ f → i < length f.values →
    s ≡ with_slot a.store i (Some x) → AreKept s a.height a.callers.items
set_kept a f s i x kept is h e =
    let within : i < a.height = omega (arith, height_is a f kept is, h) in
    subst (λ (t : Stored). AreKept t a.height a.callers.items) (sym e)
    (frame_set a.height i a.store.newest (set a.store.newest i (Some x)) x kept.0 within refl, kept.1)

pub set_within : (a : Inside) (f : Framed) (i : ℕ) → IsKept a → view_of a ≡ f → i < length f.values → IsSome (bound_at a.store.newest i) × (i < 2 ^ 32)
set_within a f i kept is h =
    let within : i < a.height = omega (arith, height_is a f kept is, h) in
    (bound_here a i kept within, number_here a i kept within)

pub changed_is : (a : Inside) (f : Framed) (r : Result (Unit {0}) Failure) (g : rules.Value → Pure rules.Value) (i : ℕ) (s : Stored) →
    IsKept a → view_of a ≡ f → i < length f.values → Replaced r g i a.store s → Changed r g i f.values (bound_in s.newest)
changed_is a f r g i s kept is h t =
    let within : i < a.height = omega (arith, height_is a f kept is, h) in
    record {
      old = t.old;
      new = t.new;
      was = value_is a f i t.old kept is within t.was;
      now_is = ap (λ (w : Framed). w.values) (set_is a f s i t.new kept is h t.now_is);
      changes = t.changes;
    }

pub changed_same : (a : Inside) (f : Framed) (r : Result (Unit {0}) Failure) (g : rules.Value → Pure rules.Value) (i : ℕ) (s : Stored) →
    IsKept a → view_of a ≡ f → i < length f.values → Replaced r g i a.store s →
    framed s a.callers.items ≡ record f { values = bound_in s.newest }
changed_same a f r g i s kept is h t =
    let all = set_is a f s i t.new kept is h t.now_is in
    all ∙ ap (λ (vs : List Value). record f { values = vs }) (sym (ap (λ (w : Framed). w.values) all))

pub changed_kept : (a : Inside) (f : Framed) (r : Result (Unit {0}) Failure) (g : rules.Value → Pure rules.Value) (i : ℕ) (s : Stored) →
    IsKept a → view_of a ≡ f → i < length f.values → Replaced r g i a.store s → AreKept s a.height a.callers.items
changed_kept a f r g i s kept is h t = set_kept a f s i t.new kept is h t.now_is

-- ---- calls

pub entered_is : (a : Inside) (f : Framed) (s : Stored) (c : Caller) (cs : List Caller) (n : ℕ) → IsKept a → view_of a ≡ f →
    s ≡ record { globals = a.store.globals; newest = replicate n None; older = a.store.older ++ a.store.newest ∷ [] } →
    cs ≡ a.callers.items ++ c ∷ [] →
    framed s cs ≡ record { globals = f.globals; values = []; slots = n; callers = f.callers ++ record { values = f.values; slots = f.slots; handled = c.handled.items } ∷ [] }
entered_is a f s c cs n kept is e more =
    let values : bound_in (replicate n None) ≡ [] = values_new {A = Value} n (replicate n None) refl in
    let slots : length (replicate {A = Option Value} n None) ≡ n = length-replicate n None in
    let later : Stored = record { globals = a.store.globals; newest = replicate n None; older = a.store.older ++ a.store.newest ∷ [] } in
    ap (λ (t : Stored). framed t cs) e ∙ ap (framed later) more
    ∙ same_framed a.store.globals _ _ _ _ _ _ _ refl values slots (kept_push a.store.older a.callers.items a.store.newest c kept.1)
    ∙ ap {B = Framed} (λ (g : Framed). record { globals = g.globals; values = []; slots = n; callers = g.callers ++ record { values = g.values; slots = g.slots; handled = c.handled.items } ∷ [] }) is

pub entered_kept : (a : Inside) (s : Stored) (c : Caller) (cs : List Caller) (n : ℕ) → IsKept a → c.height ≡ a.height → n < 2 ^ 32 →
    s ≡ record { globals = a.store.globals; newest = replicate n None; older = a.store.older ++ a.store.newest ∷ [] } →
    cs ≡ a.callers.items ++ c ∷ [] → AreKept s 0 cs
entered_kept a s c cs n kept own small e more =
    let before : IsFrame c.height a.store.newest = subst (λ (m : ℕ). IsFrame m a.store.newest) (sym own) kept.0 in
    subst (λ (t : Stored). AreKept t 0 cs) (sym e) (
      frame_new n (replicate n None) small refl,
      subst (λ (ds : List Caller). AreFilled (a.store.older ++ a.store.newest ∷ []) ds) (sym more)
          (filled_push a.store.older a.callers.items a.store.newest c kept.1 before),
    )

-- a caller's frame stands behind those of its callers
pub some_caller : (a : Inside) (f : Framed) → IsKept a → view_of a ≡ f → 0 < length f.callers → (0 < length a.callers.items) × (0 < length a.store.older)
some_caller a f kept is h =
    let many : length f.callers ≡ length a.callers.items =
    ap (λ (g : Framed). length g.callers) (sym is) ∙ as_many_kept a.store.older a.callers.items kept.1 in
    let frames = as_many a.store.older a.callers.items kept.1 in
    (omega (arith, many, h), omega (arith, many, frames, h))

left_parts : (a : Inside) (s : Stored) (c : Caller) (cs : List Caller) → IsKept a → a.store.older ≡ s.older ++ s.newest ∷ [] →
    a.callers.items ≡ cs ++ c ∷ [] → AreFilled s.older cs × IsFrame c.height s.newest
left_parts a s c cs kept frames callers =
    filled_pop s.older cs s.newest c
    (subst (λ (fs : List (List (Option Value))). AreFilled fs (cs ++ c ∷ [])) frames
    (subst (λ (ds : List Caller). AreFilled a.store.older ds) callers kept.1))

pub left_kept : (a : Inside) (s : Stored) (c : Caller) (cs : List Caller) → IsKept a → a.store.older ≡ s.older ++ s.newest ∷ [] →
    a.callers.items ≡ cs ++ c ∷ [] → AreKept s c.height cs
left_kept a s c cs kept frames callers = let parts = left_parts a s c cs kept frames callers in (parts.1, parts.0)

pub left_is : (a : Inside) (f : Framed) (s : Stored) (c : Caller) (cs : List Caller) → IsKept a → view_of a ≡ f →
    a.store.older ≡ s.older ++ s.newest ∷ [] → a.callers.items ≡ cs ++ c ∷ [] →
    f.callers ≡ kept_in s.older cs ++ record { values = bound_in s.newest; slots = length s.newest; handled = c.handled.items } ∷ []
left_is a f s c cs kept is frames callers =
    sym (ap (λ (g : Framed). g.callers) is)
    ∙ ap (λ (fs : List (List (Option Value))). kept_in fs a.callers.items) frames ∙ ap (kept_in (s.older ++ s.newest ∷ [])) callers
    ∙ kept_push s.older cs s.newest c (left_parts a s c cs kept frames callers).0
