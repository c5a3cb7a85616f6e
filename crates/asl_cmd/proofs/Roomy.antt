-- A sink in memory with room for a text takes all of it.
use Rattle.std.proofs.Common.{◌≡◌, ℕ, ◌<◌, ◌≤◌, ◌+◌, ◌++◌, ◌⊎◌, inl, inr, List, [], length, Option, Some, option_map, refl, ap, ◌∙◌, arith, length-append}
use Rattle.asl_io.specs.Faults.{Rises, room_where_none_fails}
use Rattle.asl_io.specs.private.Filled.{filled_room}
use Rattle.asl_io.specs.Told.{Takes, TakesPrefix}
use Rattle.asl_answer.specs.declared.status.Status.{Status}
use Rattle.asl_answer.specs.declared.status.Status.TheVariants as status
use Rattle.asl_answer.specs.Statuses.{code_of}

pub risen : (before after : ℕ) → before ≡ 0 → Rises before after → 0 < after
risen before after none (inl more) = omega (arith, none, more)
risen before after none (inr greatest) = omega (arith, greatest)

-- a prefix of a text that is shorter than the room doesn't fill it
pub roomy : (text items fails : List ℕ) (own room faults len : ℕ) (old : Option (List ℕ)) → old ≡ Some [] → len ≡ length items → (fails ≡ [] → 0 < faults → len ≡ own) → room_where_none_fails fails own ≡ Some room → 0 < faults → length text < room → TakesPrefix old (Some items) text → ⊥
roomy text items fails own room faults len old empty is full where_none some short p =
    let taken : Some items ≡ Some p.0 = p.3 ∙ ap (λ o. option_map (λ before. before ++ p.0) o) empty in
    let q : room ≤ length p.0 = filled_room fails own room items p.0 faults len is full where_none taken some in
    let e : length text ≡ length (p.0 ++ p.1) = ap length p.2 in
    let k : length (p.0 ++ p.1) ≡ length p.0 + length p.1 = length-append p.0 p.1 in
    omega (arith, q, e, k, short)

taken_whole : (old written : Option (List ℕ)) (text : List ℕ) → old ≡ Some [] → Takes old written text → written ≡ Some text
taken_whole old written text empty t = t ∙ ap (λ o. option_map (λ before. before ++ text) o) empty

-- where neither device failed, the whole text was written, or memory was wanting
pub settled : (s : Status) (text : List ℕ) (code : ℕ) (old written : Option (List ℕ)) → old ≡ Some [] → (s ≡ status.ReadFault → ⊥) → (s ≡ status.WriteFault → ⊥)
    → ((s ≡ status.ReadFault → ⊥) → (s ≡ status.WriteFault → ⊥) → (s ≡ status.NoMemory → ⊥) → Takes old written text × (code_of s ≡ code))
    → (s ≡ status.NoMemory) ⊎ ((written ≡ Some text) × (code_of s ≡ code))
settled status.NoMemory text code old written empty r w h = inl refl
settled status.Done text code old written empty r w h = (let k = h r w (λ e. cc) in inr (taken_whole old written text empty k.0, k.1))
settled status.Refused text code old written empty r w h = (let k = h r w (λ e. cc) in inr (taken_whole old written text empty k.0, k.1))
settled status.Usage text code old written empty r w h = (let k = h r w (λ e. cc) in inr (taken_whole old written text empty k.0, k.1))
settled status.Uncaught text code old written empty r w h = (let k = h r w (λ e. cc) in inr (taken_whole old written text empty k.0, k.1))
settled status.Dynamic text code old written empty r w h = (let k = h r w (λ e. cc) in inr (taken_whole old written text empty k.0, k.1))
settled status.ReadFault text code old written empty r w h = absurd (r refl)
settled status.WriteFault text code old written empty r w h = absurd (w refl)
