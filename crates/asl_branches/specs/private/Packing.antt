-- Frames whose slots are bound in order, and the lists of values that they stand for.
use Rattle.std.specs.Prelude.{ℕ, zero, suc, ◌<◌, ◌^◌, List, [], ◌∷◌, Option, Some, None, length}
use Rattle.asl_value.specs.declared.value.Value.{Value}
use Rattle.asl_branches.specs.Framed.{Kept}
use Rattle.asl_branches.specs.declared.frames.Caller.{Caller}

-- the first n slots are bound, and no other
abbrev pub IsFilled : {A : Type 0} → ℕ → List (Option A) → Type 0
IsFilled zero [] = Unit {0}
IsFilled zero (None ∷ os) = IsFilled zero os
IsFilled zero (Some x ∷ os) = ⊥
IsFilled (suc n) [] = ⊥
IsFilled (suc n) (None ∷ os) = ⊥
IsFilled (suc n) (Some x ∷ os) = IsFilled n os

-- a frame in which so many are bound: its slots have numbers of 32 bits
abbrev pub IsFrame : {A : Type 0} → ℕ → List (Option A) → Type 0
IsFrame n os = IsFilled n os × (length os < 2 ^ 32)

-- what is bound, in order
abbrev pub bound_in : {A : Type 0} → List (Option A) → List A
bound_in [] = []
bound_in (None ∷ os) = bound_in os
bound_in (Some x ∷ os) = x ∷ bound_in os

-- each frame of a caller has as many bound as the caller says
abbrev pub AreFilled : List (List (Option Value)) → List Caller → Type 0
AreFilled [] [] = Unit {0}
AreFilled [] (c ∷ cs) = ⊥
AreFilled (f ∷ fs) [] = ⊥
AreFilled (f ∷ fs) (c ∷ cs) = IsFrame c.height f × AreFilled fs cs

abbrev pub kept : List (Option Value) → Caller → Kept
kept f c = record { values = bound_in f; slots = length f; handled = c.handled.items }

abbrev pub kept_in : List (List (Option Value)) → List Caller → List Kept
kept_in [] cs = []
kept_in (f ∷ fs) [] = []
kept_in (f ∷ fs) (c ∷ cs) = kept f c ∷ kept_in fs cs
