-- What the calls of a store do to its frames.
use Rattle.std.proofs.Common.{◌≡◌, ℕ, ◌+◌, ◌-◌, ◌<◌, ◌≤◌, Bool, false, List, [], ◌∷◌, ◌++◌, length, take, drop, set, replicate, slice_get, Option, None, Some, IsSome, sym, ap, ◌∙◌, subst, arith, length-append, length-drop, length-set, length-take-le, take_all}
use Rattle.std.proofs.Math.Seq.{drop-append_seam}
use Rattle.std.proofs.lemmas.List.{drop-append-le, drop-set-add, drop-take, length-replicate, take-append-le}
use Rattle.asl_value.specs.declared.value.Value.{Value}
use Rattle.asl_store.specs.declared.store.Store.TheInside.{Inside}
use Rattle.asl_store.specs.Stored.{Stored, all_of, bound_at, seen, seen_one, split, with_slot}
use Rattle.asl_store.proofs.Slots.{all_of-push, bound_at-drop, bound_within, held, length-seen, length-split, seen-append, seen-replicate, seen-set, seen-set_bound, seen-take, split-append, split-push, split-set, split-take}

-- what globals, marks, slots, the beginning of the newest frame and the sizes of the older ones stand for
abbrev pub stored : List Value → List Bool → List Value → ℕ → List ℕ → Stored
stored gs ms xs b ns = record { globals = gs; newest = drop b (seen ms xs); older = split ns (seen ms xs) }

-- what a store stands for, and what holds of its parts
abbrev pub view_of : Inside → Stored
view_of a = stored a.globals.items a.marks.items a.slots.items a.base a.sizes.items

abbrev pub IsKept : Inside → Type 0
IsKept a = (length a.marks.items ≡ length a.slots.items) × ((a.base ≡ all_of a.sizes.items) × (a.base ≤ length a.slots.items))

same_stored : (gs : List Value) (n n1 : List (Option Value)) (o o1 : List (List (Option Value))) → n ≡ n1 → o ≡ o1 →
    ◌≡◌ {A = Stored} (record { globals = gs; newest = n; older = o }) (record { globals = gs; newest = n1; older = o1 })
same_stored gs n n1 o o1 newest older = λ k. record { globals = gs; newest = newest k; older = older k }

seen_same : (ms ms1 : List Bool) (xs xs1 : List Value) → ms ≡ ms1 → xs ≡ xs1 → seen ms xs ≡ seen ms1 xs1
seen_same ms ms1 xs xs1 marks slots = λ k. seen (marks k) (slots k)

-- ---- frames

more_slots : {A : Type 0} (ms : List Bool) (xs : List A) (c : ℕ) (x : A) → length ms ≡ length xs →
    seen (ms ++ replicate c false) (xs ++ replicate c x) ≡ seen ms xs ++ replicate c None
more_slots ms xs c x e = seen-append ms (replicate c false) xs (replicate c x) e ∙ ap (λ os. seen ms xs ++ os) (seen-replicate c x)

-- the newest of these slots, which more stand behind, are a piece of them
last_piece : {A : Type 0} (ns : List ℕ) (b : ℕ) (os tail : List A) → b ≡ all_of ns → b ≤ length os →
    split (ns ++ (length os - b) ∷ []) (os ++ tail) ≡ split ns os ++ drop b os ∷ []
last_piece ns b os tail e le =
    let inside : all_of ns ≤ length os = omega arith in
    let size = length-drop b os in
    let begin : length os - b ≤ length (drop b os) = omega (arith, size) in
    let whole : length (drop b os) ≤ length os - b = omega (arith, size) in
    split-push ns (length os - b) (os ++ tail)
    ∙ ap (λ a. split ns (os ++ tail) ++ take (length os - b) (drop a (os ++ tail)) ∷ []) (sym e)
    ∙ ap (λ ps. ps ++ take (length os - b) (drop b (os ++ tail)) ∷ []) (split-append ns os tail inside)
    ∙ ap (λ ys. split ns os ++ take (length os - b) ys ∷ []) (drop-append-le b os tail le)
    ∙ ap (λ ys. split ns os ++ ys ∷ []) (take-append-le (length os - b) (drop b os) tail begin ∙ take_all (length os - b) (drop b os) whole)

-- so many slots more, behind those of the newest frame
pub pushed : (a : Inside) (s : Stored) (ms : List Bool) (xs : List Value) (b c : ℕ) (ns : List ℕ) (x : Value) → IsKept a → view_of a ≡ s →
    b ≡ length a.slots.items → ns ≡ a.sizes.items ++ (length a.slots.items - a.base) ∷ [] → ms ≡ a.marks.items ++ replicate c false →
    xs ≡ a.slots.items ++ replicate c x →
    stored a.globals.items ms xs b ns ≡ record { globals = s.globals; newest = replicate c None; older = s.older ++ s.newest ∷ [] }
pushed a s ms xs b c ns x kept is at sizes marks slots =
    let os : List (Option Value) = seen a.marks.items a.slots.items in
    let tail : List (Option Value) = replicate c None in
    let long : length os ≡ length a.slots.items = length-seen a.marks.items a.slots.items kept.0 in
    let now : seen ms xs ≡ os ++ tail =
    seen_same ms _ xs _ marks slots ∙ more_slots a.marks.items a.slots.items c x kept.0 in
    let end : b ≡ length os = at ∙ sym long in
    let newest : drop b (seen ms xs) ≡ tail = ap (drop b) now ∙ ap (λ n. drop n (os ++ tail)) end ∙ drop-append_seam os tail in
    let sizes_are : ns ≡ a.sizes.items ++ (length os - a.base) ∷ [] = sizes ∙ ap (λ n. a.sizes.items ++ (n - a.base) ∷ []) (sym long) in
    let older : split ns (seen ms xs) ≡ split a.sizes.items os ++ drop a.base os ∷ [] =
    ap (split ns) now ∙ ap (λ l. split l (os ++ tail)) sizes_are
    ∙ last_piece a.sizes.items a.base os tail kept.1.0 (omega (arith, long, kept.1.1)) in
    same_stored a.globals.items _ _ _ _ newest older
    ∙ ap {B = Stored} (λ (t : Stored). record { globals = t.globals; newest = tail; older = t.older ++ t.newest ∷ [] }) is

-- and what holds of the parts then
pub pushed_kept : (a : Inside) (ms : List Bool) (xs : List Value) (b c : ℕ) (ns : List ℕ) (x : Value) → IsKept a → b ≡ length a.slots.items →
    ns ≡ a.sizes.items ++ (length a.slots.items - a.base) ∷ [] → ms ≡ a.marks.items ++ replicate c false → xs ≡ a.slots.items ++ replicate c x →
    (length ms ≡ length xs) × ((b ≡ all_of ns) × (b ≤ length xs))
pushed_kept a ms xs b c ns x kept at sizes marks slots =
    let more_marks : length ms ≡ length a.marks.items + c =
    ap length marks ∙ length-append a.marks.items (replicate c false) ∙ ap (λ n. length a.marks.items + n) (length-replicate c false) in
    let more : length xs ≡ length a.slots.items + c =
    ap length slots ∙ length-append a.slots.items (replicate c x) ∙ ap (λ n. length a.slots.items + n) (length-replicate c x) in
    let all : all_of ns ≡ all_of a.sizes.items + (length a.slots.items - a.base) =
    ap all_of sizes ∙ all_of-push a.sizes.items (length a.slots.items - a.base) in
    (omega (arith, more_marks, more, kept.0), (omega (arith, all, at, kept.1.0, kept.1.1), omega (arith, more, at)))

-- the newest frame is cut off
pub popped : (a : Inside) (s : Stored) (ms : List Bool) (xs : List Value) (b n : ℕ) (ns : List ℕ) → IsKept a → view_of a ≡ s →
    a.sizes.items ≡ ns ++ n ∷ [] → b ≡ a.base - n → ms ≡ take a.base a.marks.items → xs ≡ take a.base a.slots.items →
    s.older ≡ split ns (seen ms xs) ++ drop b (seen ms xs) ∷ []
popped a s ms xs b n ns kept is sizes at marks slots =
    let os : List (Option Value) = seen a.marks.items a.slots.items in
    let sum : a.base ≡ all_of ns + n = kept.1.0 ∙ ap all_of sizes ∙ all_of-push ns n in
    let begins : b ≡ all_of ns = omega (arith, at, sum) in
    let inside : all_of ns ≤ all_of ns + n = omega arith in
    let now : seen ms xs ≡ take (all_of ns + n) os =
    seen_same ms _ xs _ marks slots ∙ seen-take a.base a.marks.items a.slots.items ∙ ap (λ k. take k os) sum in
    let older : split ns (seen ms xs) ≡ split ns os = ap (split ns) now ∙ split-take ns (all_of ns + n) os inside in
    let newest : drop b (seen ms xs) ≡ take n (drop (all_of ns) os) =
    ap (drop b) now ∙ ap (λ k. drop k (take (all_of ns + n) os)) begins ∙ drop-take (all_of ns) n os in
    sym (ap (λ (t : Stored). t.older) is) ∙ ap (λ us. split us os) sizes ∙ split-push ns n os
    ∙ sym (ap (λ ps. ps ++ drop b (seen ms xs) ∷ []) older ∙ ap (λ ys. split ns os ++ ys ∷ []) newest)

-- the frame before it begins where the slots of those before that end
pub begins_before : (a : Inside) (n : ℕ) (ns : List ℕ) → IsKept a → a.sizes.items ≡ ns ++ n ∷ [] → (n ≤ a.base) × (a.base - n ≡ all_of ns)
begins_before a n ns kept sizes =
    let sum : a.base ≡ all_of ns + n = kept.1.0 ∙ ap all_of sizes ∙ all_of-push ns n in
    (omega (arith, sum), omega (arith, sum))

pub popped_kept : (a : Inside) (ms : List Bool) (xs : List Value) (b n : ℕ) (ns : List ℕ) → IsKept a → a.sizes.items ≡ ns ++ n ∷ [] →
    b ≡ a.base - n → ms ≡ take a.base a.marks.items → xs ≡ take a.base a.slots.items →
    (length ms ≡ length xs) × ((b ≡ all_of ns) × (b ≤ length xs))
popped_kept a ms xs b n ns kept sizes at marks slots =
    let begins = begins_before a n ns kept sizes in
    let within : a.base ≤ length a.marks.items = omega (arith, kept.0, kept.1.1) in
    let cut_marks : length ms ≡ a.base = ap length marks ∙ length-take-le a.base a.marks.items within in
    let cut : length xs ≡ a.base = ap length slots ∙ length-take-le a.base a.slots.items kept.1.1 in
    (cut_marks ∙ sym cut, (at ∙ begins.1, omega (arith, at, cut)))

-- there is a frame before the newest
pub some_before : (a : Inside) (s : Stored) → view_of a ≡ s → 0 < length s.older → 0 < length a.sizes.items
some_before a s is h =
    let as_many : length s.older ≡ length a.sizes.items =
    ap (λ (t : Stored). length t.older) (sym is) ∙ length-split a.sizes.items (seen a.marks.items a.slots.items) in
    omega (arith, as_many, h)

-- ---- slots

-- a slot of the newest frame is one of all slots
pub within : (a : Inside) (s : Stored) (i : ℕ) → IsKept a → view_of a ≡ s → i < length s.newest → a.base + i < length a.slots.items
within a s i kept is h =
    let size : length s.newest ≡ length (seen a.marks.items a.slots.items) - a.base =
    ap (λ (t : Stored). length t.newest) (sym is) ∙ length-drop a.base (seen a.marks.items a.slots.items) in
    omega (arith, size, h, length-seen a.marks.items a.slots.items kept.0)

pub bound_is_within : (a : Inside) (s : Stored) (i : ℕ) → IsKept a → view_of a ≡ s → IsSome (bound_at s.newest i) → a.base + i < length a.slots.items
bound_is_within a s i kept is h = within a s i kept is (bound_within s.newest i h)

changed : (a : Inside) (s : Stored) (ms : List Bool) (xs : List Value) (i : ℕ) (o : Option Value) → IsKept a → view_of a ≡ s →
    seen ms xs ≡ set (seen a.marks.items a.slots.items) (a.base + i) o → stored a.globals.items ms xs a.base a.sizes.items ≡ with_slot s i o
changed a s ms xs i o kept is now =
    let os : List (Option Value) = seen a.marks.items a.slots.items in
    let behind : all_of a.sizes.items ≤ a.base + i = omega (arith, kept.1.0) in
    let newest : drop a.base (seen ms xs) ≡ set (drop a.base os) i o = ap (drop a.base) now ∙ drop-set-add a.base os i o in
    let older : split a.sizes.items (seen ms xs) ≡ split a.sizes.items os =
    ap (split a.sizes.items) now ∙ split-set a.sizes.items os (a.base + i) o behind in
    same_stored a.globals.items _ _ _ _ newest older ∙ ap (λ (t : Stored). with_slot t i o) is

pub marked : (a : Inside) (s : Stored) (ms : List Bool) (xs : List Value) (i : ℕ) (m : Bool) (x : Value) → IsKept a → view_of a ≡ s →
    ms ≡ set a.marks.items (a.base + i) m → xs ≡ set a.slots.items (a.base + i) x →
    stored a.globals.items ms xs a.base a.sizes.items ≡ with_slot s i (seen_one m x)
marked a s ms xs i m x kept is marks slots =
    changed a s ms xs i (seen_one m x) kept is (seen_same ms _ xs _ marks slots ∙ seen-set a.marks.items a.slots.items (a.base + i) m x)

pub marked_kept : (a : Inside) (ms : List Bool) (xs : List Value) (i : ℕ) (m : Bool) (x : Value) → IsKept a →
    ms ≡ set a.marks.items i m → xs ≡ set a.slots.items i x → (length ms ≡ length xs) × ((a.base ≡ all_of a.sizes.items) × (a.base ≤ length xs))
marked_kept a ms xs i m x kept marks slots =
    let one : length ms ≡ length a.marks.items = ap length marks ∙ length-set a.marks.items i m in
    let two : length xs ≡ length a.slots.items = ap length slots ∙ length-set a.slots.items i x in
    (one ∙ kept.0 ∙ sym two, (kept.1.0, omega (arith, two, kept.1.1)))

-- ---- slots that are bound

bound_in_all : (a : Inside) (s : Stored) (i : ℕ) → view_of a ≡ s → IsSome (bound_at s.newest i) →
    IsSome (bound_at (seen a.marks.items a.slots.items) (a.base + i))
bound_in_all a s i is h =
    subst (λ o. IsSome o) (ap (λ (t : Stored). bound_at t.newest i) (sym is) ∙ bound_at-drop a.base (seen a.marks.items a.slots.items) i) h

pub got : (a : Inside) (s : Stored) (i : ℕ) → view_of a ≡ s → IsSome (bound_at s.newest i) → bound_at s.newest i ≡ slice_get a.slots.items (a.base + i)
got a s i is h =
    ap (λ (t : Stored). bound_at t.newest i) (sym is) ∙ bound_at-drop a.base (seen a.marks.items a.slots.items) i
    ∙ held a.marks.items a.slots.items (a.base + i) (bound_in_all a s i is h)

pub replaced : (a : Inside) (s : Stored) (xs : List Value) (i : ℕ) (x : Value) → IsKept a → view_of a ≡ s → IsSome (bound_at s.newest i) →
    xs ≡ set a.slots.items (a.base + i) x → stored a.globals.items a.marks.items xs a.base a.sizes.items ≡ with_slot s i (Some x)
replaced a s xs i x kept is h slots =
    changed a s a.marks.items xs i (Some x) kept is
    (ap (seen a.marks.items) slots ∙ seen-set_bound a.marks.items a.slots.items (a.base + i) x (bound_in_all a s i is h))

pub replaced_kept : (a : Inside) (xs : List Value) (i : ℕ) (x : Value) → IsKept a → xs ≡ set a.slots.items i x →
    (length a.marks.items ≡ length xs) × ((a.base ≡ all_of a.sizes.items) × (a.base ≤ length xs))
replaced_kept a xs i x kept slots =
    let two : length xs ≡ length a.slots.items = ap length slots ∙ length-set a.slots.items i x in
    (kept.0 ∙ sym two, (kept.1.0, omega (arith, two, kept.1.1)))

-- ---- globals

pub global_within : (a : Inside) (s : Stored) (i : ℕ) → view_of a ≡ s → i < length s.globals → i < length a.globals.items
global_within a s i is h = omega (arith, ap (λ (t : Stored). length t.globals) is, h)
