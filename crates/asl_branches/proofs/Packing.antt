-- Frames whose slots are bound in order, and what is bound in them.
use Rattle.std.proofs.Common.{◌≡◌, ℕ, zero, suc, ◌+◌, ◌<◌, ◌≤◌, ◌^◌, List, [], ◌∷◌, ◌++◌, length, take, set, replicate, slice_get, Option, None, Some, IsSome, refl, sym, ap, ◌∙◌, subst, arith, length-set, take-take, take_all}
use Rattle.std.proofs.lemmas.List.{length-replicate}
use Rattle.asl_value.specs.declared.value.Value.{Value}
use Rattle.asl_store.specs.Stored.{bound_at}
use Rattle.asl_branches.specs.declared.frames.Caller.{Caller}
use Rattle.asl_branches.specs.private.Packing.{AreFilled, IsFilled, IsFrame, bound_in, kept, kept_in}

-- ---- what is bound in a frame

none_bound : {A : Type 0} (os : List (Option A)) → IsFilled zero os → bound_in os ≡ []
none_bound [] f = refl
none_bound (None ∷ os) f = none_bound os f
none_bound (Some x ∷ os) f = absurd f

filled_size : {A : Type 0} (n : ℕ) (os : List (Option A)) → IsFilled n os → length (bound_in os) ≡ n
filled_size zero os f = ap length (none_bound os f)
filled_size (suc n) [] f = absurd f
filled_size (suc n) (None ∷ os) f = absurd f
filled_size (suc n) (Some x ∷ os) f = ap suc (filled_size n os f)

filled_within : {A : Type 0} (n : ℕ) (os : List (Option A)) → IsFilled n os → n ≤ length os
filled_within zero os f = omega arith
filled_within (suc n) [] f = absurd f
filled_within (suc n) (None ∷ os) f = absurd f
filled_within (suc n) (Some x ∷ os) f = omega (arith, filled_within n os f)

-- as many as the frame says
pub size_is : {A : Type 0} (n : ℕ) (os : List (Option A)) → IsFrame n os → length (bound_in os) ≡ n
size_is n os f = filled_size n os f.0

-- each of them has a slot, whose number has 32 bits
pub slot_within : {A : Type 0} (n i : ℕ) (os : List (Option A)) → IsFrame n os → i < n → (i < length os) × (i < 2 ^ 32)
slot_within n i os f h = (omega (arith, h, filled_within n os f.0), omega (arith, h, filled_within n os f.0, f.1))

filled_bound : {A : Type 0} (n i : ℕ) (os : List (Option A)) → IsFilled n os → i < n → IsSome (bound_at os i)
filled_bound zero i os f h = absurd (omega arith)
filled_bound (suc n) i [] f h = absurd f
filled_bound (suc n) i (None ∷ os) f h = absurd f
filled_bound (suc n) zero (Some x ∷ os) f h = refl
filled_bound (suc n) (suc i) (Some x ∷ os) f h = filled_bound n i os f (omega arith)

pub is_bound : {A : Type 0} (n i : ℕ) (os : List (Option A)) → IsFrame n os → i < n → IsSome (bound_at os i)
is_bound n i os f h = filled_bound n i os f.0 h

filled_at : {A : Type 0} (n i : ℕ) (os : List (Option A)) → IsFilled n os → i < n → slice_get (bound_in os) i ≡ bound_at os i
filled_at zero i os f h = absurd (omega arith)
filled_at (suc n) i [] f h = absurd f
filled_at (suc n) i (None ∷ os) f h = absurd f
filled_at (suc n) zero (Some x ∷ os) f h = refl
filled_at (suc n) (suc i) (Some x ∷ os) f h = filled_at n i os f (omega arith)

-- what a slot holds is the value in that place
pub value_at : {A : Type 0} (n i : ℕ) (os : List (Option A)) → IsFrame n os → i < n → slice_get (bound_in os) i ≡ bound_at os i
value_at n i os f h = filled_at n i os f.0 h

-- ---- the next slot is bound

filled_more : {A : Type 0} (n : ℕ) (os : List (Option A)) (x : A) → IsFilled n os → n < length os → IsFilled (suc n) (set os n (Some x))
filled_more zero [] x f h = absurd (omega arith)
filled_more zero (None ∷ os) x f h = f
filled_more zero (Some y ∷ os) x f h = absurd f
filled_more (suc n) [] x f h = absurd f
filled_more (suc n) (None ∷ os) x f h = absurd f
filled_more (suc n) (Some y ∷ os) x f h = filled_more n os x f (omega arith)

bound_more : {A : Type 0} (n : ℕ) (os : List (Option A)) (x : A) → IsFilled n os → n < length os → bound_in (set os n (Some x)) ≡ bound_in os ++ x ∷ []
bound_more zero [] x f h = absurd (omega arith)
bound_more zero (None ∷ os) x f h = ap (λ l. x ∷ l) (none_bound os f) ∙ sym (ap (λ l. l ++ x ∷ []) (none_bound os f))
bound_more zero (Some y ∷ os) x f h = absurd f
bound_more (suc n) [] x f h = absurd f
bound_more (suc n) (None ∷ os) x f h = absurd f
bound_more (suc n) (Some y ∷ os) x f h = ap (λ l. y ∷ l) (bound_more n os x f (omega arith))

pub frame_more : {A : Type 0} (n : ℕ) (os os1 : List (Option A)) (x : A) → IsFrame n os → n < length os → os1 ≡ set os n (Some x) → IsFrame (n + 1) os1
frame_more {A} n os os1 x f h e =
    let up : suc n ≡ n + 1 = omega arith in
    let filled : IsFilled (n + 1) os1 =
    subst (λ (m : ℕ). IsFilled m os1) up (subst (λ (l : List (Option A)). IsFilled (suc n) l) (sym e) (filled_more n os x f.0 h)) in
    let size : length os1 ≡ length os = ap length e ∙ length-set os n (Some x) in
    (filled, omega (arith, size, f.1))

pub values_more : {A : Type 0} (n : ℕ) (os os1 : List (Option A)) (x : A) → IsFrame n os → n < length os → os1 ≡ set os n (Some x) → bound_in os1 ≡ bound_in os ++ x ∷ []
values_more n os os1 x f h e = ap bound_in e ∙ bound_more n os x f.0 h

-- ---- the last that is bound isn't any more

filled_less : {A : Type 0} (n : ℕ) (os : List (Option A)) → IsFilled (suc n) os → IsFilled n (set os n None)
filled_less zero [] f = absurd f
filled_less zero (None ∷ os) f = absurd f
filled_less zero (Some x ∷ os) f = f
filled_less (suc n) [] f = absurd f
filled_less (suc n) (None ∷ os) f = absurd f
filled_less (suc n) (Some x ∷ os) f = filled_less n os f

bound_less : {A : Type 0} (n : ℕ) (os : List (Option A)) → IsFilled (suc n) os → bound_in (set os n None) ≡ take n (bound_in os)
bound_less zero [] f = absurd f
bound_less zero (None ∷ os) f = absurd f
bound_less zero (Some x ∷ os) f = none_bound os f
bound_less (suc n) [] f = absurd f
bound_less (suc n) (None ∷ os) f = absurd f
bound_less (suc n) (Some x ∷ os) f = ap (λ l. x ∷ l) (bound_less n os f)

pub frame_less : {A : Type 0} (n n1 : ℕ) (os os1 : List (Option A)) → n ≡ n1 + 1 → IsFrame n os → os1 ≡ set os n1 None → IsFrame n1 os1
frame_less {A} n n1 os os1 up f e =
    let on : n ≡ suc n1 = omega arith in
    let filled : IsFilled n1 os1 =
    subst (λ (l : List (Option A)). IsFilled n1 l) (sym e) (filled_less n1 os (subst (λ (m : ℕ). IsFilled m os) on f.0)) in
    let size : length os1 ≡ length os = ap length e ∙ length-set os n1 None in
    (filled, omega (arith, size, f.1))

-- the values that are left of these
pub values_less : {A : Type 0} (n n1 : ℕ) (os os1 : List (Option A)) (xs : List A) → n ≡ n1 + 1 → IsFrame n os → os1 ≡ set os n1 None →
    bound_in os ≡ take n xs → bound_in os1 ≡ take n1 xs
values_less n n1 os os1 xs up f e is =
    let on : n ≡ suc n1 = omega arith in
    let less : n1 ≤ n = omega arith in
    ap bound_in e ∙ bound_less n1 os (subst (λ (m : ℕ). IsFilled m os) on f.0) ∙ ap (take n1) is ∙ take-take n1 n xs less

-- at first all are
pub values_all : {A : Type 0} (n : ℕ) (os : List (Option A)) → IsFrame n os → bound_in os ≡ take n (bound_in os)
values_all n os f = sym (take_all n (bound_in os) (omega (arith, size_is n os f)))

-- ---- one that is bound takes another value

filled_set : {A : Type 0} (n i : ℕ) (os : List (Option A)) (x : A) → IsFilled n os → i < n → IsFilled n (set os i (Some x))
filled_set zero i os x f h = absurd (omega arith)
filled_set (suc n) i [] x f h = absurd f
filled_set (suc n) i (None ∷ os) x f h = absurd f
filled_set (suc n) zero (Some y ∷ os) x f h = f
filled_set (suc n) (suc i) (Some y ∷ os) x f h = filled_set n i os x f (omega arith)

bound_set : {A : Type 0} (n i : ℕ) (os : List (Option A)) (x : A) → IsFilled n os → i < n → bound_in (set os i (Some x)) ≡ set (bound_in os) i x
bound_set zero i os x f h = absurd (omega arith)
bound_set (suc n) i [] x f h = absurd f
bound_set (suc n) i (None ∷ os) x f h = absurd f
bound_set (suc n) zero (Some y ∷ os) x f h = refl
bound_set (suc n) (suc i) (Some y ∷ os) x f h = ap (λ l. y ∷ l) (bound_set n i os x f (omega arith))

pub frame_set : {A : Type 0} (n i : ℕ) (os os1 : List (Option A)) (x : A) → IsFrame n os → i < n → os1 ≡ set os i (Some x) → IsFrame n os1
frame_set {A} n i os os1 x f h e =
    let size : length os1 ≡ length os = ap length e ∙ length-set os i (Some x) in
    (subst (λ (l : List (Option A)). IsFilled n l) (sym e) (filled_set n i os x f.0 h), omega (arith, size, f.1))

pub values_set : {A : Type 0} (n i : ℕ) (os os1 : List (Option A)) (x : A) → IsFrame n os → i < n → os1 ≡ set os i (Some x) → bound_in os1 ≡ set (bound_in os) i x
values_set n i os os1 x f h e = ap bound_in e ∙ bound_set n i os x f.0 h

pub slots_set : {A : Type 0} (i : ℕ) (os os1 : List (Option A)) (o : Option A) → os1 ≡ set os i o → length os1 ≡ length os
slots_set i os os1 o e = ap length e ∙ length-set os i o

-- ---- a frame in which none is bound

filled_new : (A : Type 0) (n : ℕ) → IsFilled {A = A} zero (replicate n None)
filled_new A zero = tt
filled_new A (suc n) = filled_new A n

pub frame_new : {A : Type 0} (n : ℕ) (os : List (Option A)) → n < 2 ^ 32 → os ≡ replicate n None → IsFrame zero os
frame_new {A} n os h e =
    let size : length os ≡ n = ap length e ∙ length-replicate n None in
    (subst (λ (l : List (Option A)). IsFilled zero l) (sym e) (filled_new A n), omega (arith, size, h))

pub values_new : {A : Type 0} (n : ℕ) (os : List (Option A)) → os ≡ replicate n None → bound_in os ≡ []
values_new {A} n os e = ap bound_in e ∙ none_bound (replicate n None) (filled_new A n)

-- ---- the frames of callers

pub filled_push : (fs : List (List (Option Value))) (cs : List Caller) (f : List (Option Value)) (c : Caller) → AreFilled fs cs → IsFrame c.height f →
    AreFilled (fs ++ f ∷ []) (cs ++ c ∷ [])
filled_push [] [] f c a i = (i, tt)
filled_push [] (d ∷ cs) f c a i = absurd a
filled_push (g ∷ fs) [] f c a i = absurd a
filled_push (g ∷ fs) (d ∷ cs) f c a i = (a.0, filled_push fs cs f c a.1 i)

pub kept_push : (fs : List (List (Option Value))) (cs : List Caller) (f : List (Option Value)) (c : Caller) → AreFilled fs cs →
    kept_in (fs ++ f ∷ []) (cs ++ c ∷ []) ≡ kept_in fs cs ++ kept f c ∷ []
kept_push [] [] f c a = refl
kept_push [] (d ∷ cs) f c a = absurd a
kept_push (g ∷ fs) [] f c a = absurd a
kept_push (g ∷ fs) (d ∷ cs) f c a = ap (λ ks. kept g d ∷ ks) (kept_push fs cs f c a.1)

no_frame : (cs : List Caller) (c : Caller) → ¬ AreFilled [] (cs ++ c ∷ [])
no_frame [] c a = a
no_frame (d ∷ cs) c a = a

no_caller : (fs : List (List (Option Value))) (f : List (Option Value)) → ¬ AreFilled (fs ++ f ∷ []) []
no_caller [] f a = a
no_caller (g ∷ fs) f a = a

pub filled_pop : (fs : List (List (Option Value))) (cs : List Caller) (f : List (Option Value)) (c : Caller) → AreFilled (fs ++ f ∷ []) (cs ++ c ∷ []) →
    AreFilled fs cs × IsFrame c.height f
filled_pop [] [] f c a = (tt, a.0)
filled_pop [] (d ∷ cs) f c a = absurd (no_frame cs c a.1)
filled_pop (g ∷ fs) [] f c a = absurd (no_caller fs f a.1)
filled_pop (g ∷ fs) (d ∷ cs) f c a = let r = filled_pop fs cs f c a.1 in ((a.0, r.0), r.1)

pub as_many : (fs : List (List (Option Value))) (cs : List Caller) → AreFilled fs cs → length fs ≡ length cs
as_many [] [] a = refl
as_many [] (c ∷ cs) a = absurd a
as_many (f ∷ fs) [] a = absurd a
as_many (f ∷ fs) (c ∷ cs) a = ap suc (as_many fs cs a.1)

pub as_many_kept : (fs : List (List (Option Value))) (cs : List Caller) → AreFilled fs cs → length (kept_in fs cs) ≡ length cs
as_many_kept [] [] a = refl
as_many_kept [] (c ∷ cs) a = absurd a
as_many_kept (f ∷ fs) [] a = absurd a
as_many_kept (f ∷ fs) (c ∷ cs) a = ap suc (as_many_kept fs cs a.1)
