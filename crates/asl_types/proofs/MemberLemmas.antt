-- Bitfields by their names, from one place on.
use Rattle.std.proofs.Common.{◌≡◌, ℕ, ◌+◌, ◌<◌, ◌≤◌, true, false, cond, Some, None, List, length, get_or, drop, sym, ap, ◌∙◌}
use Rattle.std.specs.Str.{bytes_eq}
use Rattle.asl_rules.specs.types.Types.{View, BitField}
use Rattle.asl_rules.specs.values.Members.{bitfield_in}
use Rattle.asl_types.proofs.Rest.{at_next, none_after}

at_bitfield : (name : List ℕ) (fs : View) (i : ℕ) (x : BitField) → i < length fs → x ≡ get_or fs i x → bitfield_in name (drop i fs) ≡ cond (bytes_eq x.name name) (Some x) (bitfield_in name (drop (i + 1) fs))
at_bitfield name fs i x within here = ap (bitfield_in name) (at_next fs i x within here)

pub bitfield_here : (name : List ℕ) (fs : View) (i : ℕ) (x : BitField) → i < length fs → x ≡ get_or fs i x → bytes_eq x.name name ≡ true →
    bitfield_in name (drop i fs) ≡ bitfield_in name fs → Some x ≡ bitfield_in name fs
bitfield_here name fs i x within here same before = sym (ap (λ b. cond b (Some x) (bitfield_in name (drop (i + 1) fs))) same) ∙ sym (at_bitfield name fs i x within here) ∙ before

pub bitfield_later : (name : List ℕ) (fs : View) (i : ℕ) (x : BitField) → i < length fs → x ≡ get_or fs i x → bytes_eq x.name name ≡ false →
    bitfield_in name (drop i fs) ≡ bitfield_in name fs → bitfield_in name (drop (i + 1) fs) ≡ bitfield_in name fs
bitfield_later name fs i x within here other before = sym (ap (λ b. cond b (Some x) (bitfield_in name (drop (i + 1) fs))) other) ∙ sym (at_bitfield name fs i x within here) ∙ before

pub bitfield_none : (name : List ℕ) (fs : View) (i : ℕ) → length fs ≤ i → bitfield_in name (drop i fs) ≡ bitfield_in name fs → None ≡ bitfield_in name fs
bitfield_none name fs i past before = ap (bitfield_in name) (sym (none_after fs i past)) ∙ before
