-- Bitfields by their names, one by one.
use Rattle.std.proofs.Common.{◌≡◌, ℕ, ◌+◌, ◌^◌, ◌<◌, ◌≤◌, min, length, get_or, drop, List, [], ◌∷◌, ◌++◌, Result, Ok, Err, refl, sym, ap, ◌∙◌, append_assoc, arith}
use Rattle.std.proofs.lemmas.List.{drop_all, append-nil}
use Rattle.asl_syn.specs.declared.code.Fault.{Fault}
use Rattle.asl_syn.specs.declared.code.StaticCode.TheVariants.{T15}
use Rattle.asl_syn.specs.declared.tree.Ident.{Ident}
use Rattle.asl_rules.specs.Faults.{◌>>=◌, found_or}
use Rattle.asl_rules.specs.types.Types.{BitField, View, bitfield_width}
use Rattle.asl_rules.specs.values.Members.{bitfield_in, bitfields_in, all_wide}
use Rattle.asl_types.proofs.Rest.{at_next}
use Rattle.asl_typing.specs.private.FoundMembers.{behind_bitfields}

abbrev Fields : Type 0
Fields = Result (List BitField) Fault

pub bitfields_first : (r : Fields) → r ≡ behind_bitfields [] r
bitfields_first (Ok fs) = refl
bitfields_first (Err e) = refl

behind_one : (fs : List BitField) (f : BitField) (r : Fields) → behind_bitfields fs (r >>= λ gs. Ok (f ∷ gs)) ≡ behind_bitfields (fs ++ f ∷ []) r
behind_one fs f (Ok gs) = ap (λ hs. let r : Fields = Ok hs in r) (sym (append_assoc fs (f ∷ []) gs))
behind_one fs f (Err e) = refl

pub bitfields_next : (all : Fields) (is : List Ident) (n : ℕ) (i : Ident) (fs gs : List BitField) (f : BitField) (view : View) → n < length is → i ≡ get_or is n i → found_or (bitfield_in i.text view) T15 i.span ≡ Ok f → gs ≡ fs ++ f ∷ [] →
    all ≡ behind_bitfields fs (bitfields_in (drop n is) view) → all ≡ behind_bitfields gs (bitfields_in (drop (n + 1) is) view)
bitfields_next all is n i fs gs f view within here w more before =
    before
    ∙ ap (λ js. behind_bitfields fs (bitfields_in js view)) (at_next is n i within here)
    ∙ ap (λ r. behind_bitfields fs (r >>= λ g. bitfields_in (drop (n + 1) is) view >>= λ hs. Ok (g ∷ hs))) w
    ∙ behind_one fs f (bitfields_in (drop (n + 1) is) view)
    ∙ ap (λ hs. behind_bitfields hs (bitfields_in (drop (n + 1) is) view)) (sym more)

pub bitfields_stop : (all : Fields) (is : List Ident) (n : ℕ) (i : Ident) (fs : List BitField) (e : Fault) (view : View) → n < length is → i ≡ get_or is n i → found_or (bitfield_in i.text view) T15 i.span ≡ Err e →
    all ≡ behind_bitfields fs (bitfields_in (drop n is) view) → all ≡ Err e
bitfields_stop all is n i fs e view within here w before =
    before
    ∙ ap (λ js. behind_bitfields fs (bitfields_in js view)) (at_next is n i within here)
    ∙ ap (λ r. behind_bitfields fs (r >>= λ g. bitfields_in (drop (n + 1) is) view >>= λ hs. Ok (g ∷ hs))) w

pub bitfields_last : (all : Fields) (is : List Ident) (n : ℕ) (fs : List BitField) (view : View) → length is ≤ n →
    all ≡ behind_bitfields fs (bitfields_in (drop n is) view) → all ≡ Ok fs
bitfields_last all is n fs view end before =
    before
    ∙ ap (λ js. behind_bitfields fs (bitfields_in js view)) (drop_all n is end)
    ∙ ap (λ hs. let r : Fields = Ok hs in r) (append-nil fs)

-- ---- how many places

pub wide_at : (fs : List BitField) (n : ℕ) (f : BitField) → n < length fs → f ≡ get_or fs n f → all_wide (drop n fs) ≡ bitfield_width f + all_wide (drop (n + 1) fs)
wide_at fs n f within here = ap all_wide (at_next fs n f within here)

pub wide_end : (fs : List BitField) (n : ℕ) → length fs ≤ n → all_wide (drop n fs) ≡ 0
wide_end fs n end = ap all_wide (drop_all n fs end)

pub wide_next : (fs : List BitField) (n : ℕ) (f : BitField) (w v m all : ℕ) → n < length fs → f ≡ get_or fs n f → v ≡ min (w + min (bitfield_width f) m) m →
    min (w + all_wide (drop n fs)) m ≡ all → min (v + all_wide (drop (n + 1) fs)) m ≡ all
wide_next fs n f w v m all within here is before =
    let e : min (v + all_wide (drop (n + 1) fs)) m ≡ min (w + (bitfield_width f + all_wide (drop (n + 1) fs))) m = omega (arith, is) in
    e ∙ ap (λ k. min (w + k) m) (sym (wide_at fs n f within here)) ∙ before
