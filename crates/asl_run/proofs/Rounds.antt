-- The turns of loops, one by one.
use Rattle.std.proofs.Common.{◌≡◌, ℕ, zero, suc, ◌-◌, ◌<◌, ◌≤◌, Bool, true, false, List, refl, ap, arith}
use Rattle.std.specs.Prelude.{ℤ}
use Rattle.asl_syn.specs.declared.token.Span.{Span}
use Rattle.asl_syn.specs.declared.code.DynCode.TheVariants.{D10}
use Rattle.asl_syn.specs.declared.tree.Direction.{Direction}
use Rattle.asl_rules.specs.runs.Plans.{Faulted, Stop, Ret, choose, follow}
use Rattle.asl_rules.specs.runs.StatementForms.{go_on, asked, done_normal, scope, scope_with, is_past, next_index, index_turn, while_turn, repeat_turn}
use Rattle.asl_rules.specs.runs.Trees.{Tree, Act}
use Rattle.asl_rules.specs.private.TypedMeaning.{BareCore, Runs, in_bare, indexed}
use Rattle.asl_rules.specs.values.Values.{Exit, Normal, int}
use Rattle.asl_run.specs.private.Looping.{turn_until}

while_more : (span : Span) (e : Tree) (ss : List Act) (n : ℕ) (c : BareCore) → 0 < n →
    while_turn in_bare span e ss n c ≡ follow (scope in_bare ss c) (λ x c1. go_on x c1 (λ c2. asked span e c2 (while_turn in_bare span e ss (n - 1)) done_normal))
while_more span e ss zero c h = absurd (omega (arith, h))
while_more span e ss (suc n) c h = ap (λ k. follow (scope in_bare ss c) (λ x c1. go_on x c1 (λ c2. asked span e c2 (while_turn in_bare span e ss k) done_normal))) one
  where
    one : n ≡ suc n - 1
    one = omega arith

while_none : (span : Span) (e : Tree) (ss : List Act) (n : ℕ) (c : BareCore) → n ≤ 0 → while_turn in_bare span e ss n c ≡ Stop (Faulted D10 span) c
while_none span e ss zero c h = refl
while_none span e ss (suc n) c h = absurd (omega (arith, h))

repeat_more : (span : Span) (e : Tree) (ss : List Act) (n : ℕ) (c : BareCore) → 0 < n →
    repeat_turn in_bare span e ss n c ≡ follow (scope in_bare ss c) (λ x c1. go_on x c1 (λ c2. asked span e c2 done_normal (repeat_turn in_bare span e ss (n - 1))))
repeat_more span e ss zero c h = absurd (omega (arith, h))
repeat_more span e ss (suc n) c h = ap (λ k. follow (scope in_bare ss c) (λ x c1. go_on x c1 (λ c2. asked span e c2 done_normal (repeat_turn in_bare span e ss k)))) one
  where
    one : n ≡ suc n - 1
    one = omega arith

repeat_none : (span : Span) (e : Tree) (ss : List Act) (n : ℕ) (c : BareCore) → n ≤ 0 → repeat_turn in_bare span e ss n c ≡ Stop (Faulted D10 span) c
repeat_none span e ss zero c h = refl
repeat_none span e ss (suc n) c h = absurd (omega (arith, h))

-- what comes after a turn, where the loop ends at this condition and it is that
abbrev pub turn_after : Bool → Bool → Span → Tree → List Act → ℕ → BareCore → Runs Exit
turn_after true true span e ss n = done_normal
turn_after true false span e ss n = turn_until true span e ss n
turn_after false true span e ss n = turn_until false span e ss n
turn_after false false span e ss n = done_normal

pub until_more : (b : Bool) (span : Span) (e : Tree) (ss : List Act) (n : ℕ) (c : BareCore) → 0 < n →
    turn_until b span e ss n c ≡ follow (scope in_bare ss c) (λ x c1. go_on x c1 (λ c2. asked span e c2 (turn_after b true span e ss (n - 1)) (turn_after b false span e ss (n - 1))))
until_more true span e ss n c h = repeat_more span e ss n c h
until_more false span e ss n c h = while_more span e ss n c h

pub until_none : (b : Bool) (span : Span) (e : Tree) (ss : List Act) (n : ℕ) (c : BareCore) → n ≤ 0 → turn_until b span e ss n c ≡ Stop (Faulted D10 span) c
until_none true span e ss n c h = repeat_none span e ss n c h
until_none false span e ss n c h = while_none span e ss n c h

pub index_more : (span : Span) (d : Direction) (last : ℤ) (ss : List Act) (n : ℕ) (i : ℤ) (c : BareCore) → 0 < n →
    index_turn {E = Tree} in_bare indexed span d last ss n i c ≡ follow (scope_with in_bare (indexed (int i)) ss c) (λ x c1. go_on x c1 (λ c2.
    choose (is_past d last (next_index d i)) (Ret Normal c2) (index_turn in_bare indexed span d last ss (n - 1) (next_index d i) c2)))
index_more span d last ss zero i c h = absurd (omega (arith, h))
index_more span d last ss (suc n) i c h = ap (λ k. follow (scope_with in_bare (indexed (int i)) ss c) (λ x c1. go_on x c1 (λ c2.
    choose (is_past d last (next_index d i)) (Ret Normal c2) (index_turn in_bare indexed span d last ss k (next_index d i) c2)))) one
  where
    one : n ≡ suc n - 1
    one = omega arith

pub index_none : (span : Span) (d : Direction) (last : ℤ) (ss : List Act) (n : ℕ) (i : ℤ) (c : BareCore) → n ≤ 0 → index_turn {E = Tree} in_bare indexed span d last ss n i c ≡ Stop (Faulted D10 span) c
index_none span d last ss zero i c h = refl
index_none span d last ss (suc n) i c h = absurd (omega (arith, h))
