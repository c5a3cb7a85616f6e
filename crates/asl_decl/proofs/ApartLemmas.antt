-- Subprograms of one name: as the checker finds them, and as the rule says.
use Rattle.std.proofs.Common.{◌≡◌, ◌≤◌, ◌+◌, ℕ, suc, Bool, true, false, ◌&&◌, ◌||◌, not, List, [], ◌∷◌, ◌++◌, length, Some, Ok, refl, sym, ap, ap₂, ◌∙◌, cond, slice_get, append_assoc, arith}
use Rattle.std.specs.Str.{bytes_eq}
use Rattle.std.proofs.lemmas.List.{append-nil, length-append}
use Rattle.std.proofs.lemmas.Option.{slice_get_past}
use Rattle.asl_syn.specs.declared.code.StaticCode.TheVariants.{T10}
use Rattle.asl_syn.specs.declared.tree.Func.{Func}
use Rattle.asl_rules.specs.Faults.{◌>>◌, need}
use Rattle.asl_rules.specs.types.Types.{Parts, same_kinds}
use Rattle.asl_rules.specs.declarations.Scopes.{Entry, Signature, choose_from}
use Rattle.asl_rules.specs.declarations.Programs.{clashes, overloads_rule}
use Rattle.asl_subprograms.specs.private.Apart.{is_before, is_apart, apart_from, apart_rule}
use Rattle.asl_decl.specs.Heads.{heads_of}

-- ---- the overload that is chosen

-- those from a number on have no number before it
none_before : (ss : List Signature) (name : List ℕ) (Ts : Parts) (m n : ℕ) → n ≤ m → is_before n (choose_from m name Ts ss) ≡ false
none_before [] name Ts m n h = refl
none_before (g ∷ ss) name Ts m n h = by (bytes_eq g.name name && same_kinds g.formals Ts) (none_before ss name Ts (suc m) n (omega (arith, h)))
  where
    by : (b : Bool) → is_before n (choose_from (suc m) name Ts ss) ≡ false → is_before n (cond b (Some (record { number = m; signature = g })) (choose_from (suc m) name Ts ss)) ≡ false
    by true k = grind (arith, h)
    by false k = k

-- a signature clashes with one of these where the overload of its name and kinds is among them
clash_found : (before rest : List Signature) (s : Signature) (m n : ℕ) → n ≡ m + length before → clashes before s ≡ is_before n (choose_from m s.name s.formals (before ++ rest))
clash_found [] rest s m n h = sym (none_before rest s.name s.formals m n (omega (arith, h)))
clash_found (g ∷ before) rest s m n h = by (bytes_eq g.name s.name && same_kinds g.formals s.formals) (clash_found before rest s (suc m) n (omega (arith, h)))
  where
    by : (b : Bool) → clashes before s ≡ is_before n (choose_from (suc m) s.name s.formals (before ++ rest)) →
        (b || clashes before s) ≡ is_before n (cond b (Some (record { number = m; signature = g })) (choose_from (suc m) s.name s.formals (before ++ rest)))
    by true k = grind (arith, h)
    by false k = k

-- ---- the rule

-- past the last signature nothing is asked
none_left : (fs : List Func) (ss : List Signature) (n : ℕ) → length ss ≤ n → apart_from n fs ss ≡ Ok tt
none_left [] ss n h = refl
none_left (f ∷ fs) ss n h =
    ap (λ o. need (is_apart n o ss) T10 f.name.span >> apart_from (suc n) fs ss) (slice_get_past ss n h)
    ∙ none_left fs ss (suc n) (omega (arith, h))

at_length : (before rest : List Signature) (s : Signature) → slice_get (before ++ s ∷ rest) (length before) ≡ Some s
at_length [] rest s = refl
at_length (g ∷ before) rest s = at_length before rest s

one_more : (fs : List Func) (s : Signature) (ss before : List Signature) → apart_from (length (before ++ s ∷ [])) fs ((before ++ s ∷ []) ++ ss) ≡ apart_from (suc (length before)) fs (before ++ s ∷ ss)
one_more fs s ss before =
    ap (λ n. apart_from n fs ((before ++ s ∷ []) ++ ss)) (let e : length (before ++ s ∷ []) ≡ length before + 1 = length-append before (s ∷ []) in omega (arith, e))
    ∙ ap (apart_from (suc (length before)) fs) (append_assoc before (s ∷ []) ss)

from_before : (N : List Entry) (fs : List Func) (ss before : List Signature) → overloads_rule before (heads_of N fs ss) ≡ apart_from (length before) fs (before ++ ss)
from_before N [] ss before = refl
from_before N (f ∷ fs) [] before = sym (none_left (f ∷ fs) (before ++ []) (length before) (let e = ap length (append-nil before) in omega (arith, e)))
from_before N (f ∷ fs) (s ∷ ss) before =
    ap₂ (λ b r. need (not b) T10 f.name.span >> r) (clash_found before (s ∷ ss) s 0 (length before) (omega arith)) (from_before N fs ss (before ++ s ∷ []) ∙ one_more fs s ss before)
    ∙ ap (λ o. need (is_apart (length before) o (before ++ s ∷ ss)) T10 f.name.span >> apart_from (suc (length before)) fs (before ++ s ∷ ss)) (sym (at_length before ss s))

-- the rule of subprograms of one name is what the checker finds
pub overloads_are : (N : List Entry) (fs : List Func) (ss : List Signature) → overloads_rule [] (heads_of N fs ss) ≡ apart_rule fs ss
overloads_are N fs ss = from_before N fs ss []
