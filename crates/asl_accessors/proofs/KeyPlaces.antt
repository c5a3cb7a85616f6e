-- The places of keys, as the map keeps them, and as the walks over headers keep them.
use Rattle.std.proofs.Common.{◌≡◌, ℕ, suc, ◌+◌, ◌<◌, Bool, true, false, cond, ◌&&◌, List, [], ◌∷◌, drop, drop-cons, get_or, length, Option, Some, None, is_some, not, Result, Ok, Bor, refl, sym, ap, ◌∙◌, arith}
use Rattle.std.specs.Prelude.{option_map}
use Rattle.std.specs.Cmp.Lexicographic.{nat_list_eq_equiv}
use Rattle.std.specs.Map.{lookup}
use Rattle.std.specs.Str.{bytes_eq}
use Rattle.asl_syn.specs.declared.code.Fault.{Fault}
use Rattle.asl_syn.specs.declared.code.StaticCode.TheVariants.{T26, T27}
use Rattle.asl_rules.specs.Faults.{◌>>◌, need}
use Rattle.asl_rules.specs.declarations.Keys.{Key}
use Rattle.asl_rules.specs.declarations.Replacing.{Header, has_header, is_implementation}
use Rattle.asl_rules.proofs.basics.Tests.{same_name}
use Rattle.indexmap.specs.IndexMap.{insert_entry}
use Rattle.asl_accessors.specs.declared.matching.Header as code
use Rattle.asl_accessors.specs.private.Parts.{IsKept, Places, all_seen, first_at, has_place, header_judged, headers_judged, or_place, or_this, place_in, placed, seen}

-- ---- the map

pub found_placed : (es : List (Bor Key × ℕ)) (k : Key) → place_in (placed es) k ≡ lookup (λ x. bytes_eq k x.now) es
found_placed [] k = refl
found_placed (e ∷ es) k = ap (cond (bytes_eq k e.0.now) (Some e.1)) (found_placed es k)

abbrev pub same_key : Bor Key → Bor Key → Bool
same_key x y = bytes_eq x.now y.now

written_here : {A : Type 0} (x y r : A) (b c : Bool) → b ≡ c → cond b x r ≡ cond c x (cond b y r)
written_here x y r true true h = refl
written_here x y r false false h = refl
written_here x y r true false h = cc h
written_here x y r false true h = cc h

written_later : {A : Type 0} (x y r : A) (b c : Bool) → (b ≡ true → c ≡ false) → cond b x (cond c y r) ≡ cond c y (cond b x r)
written_later x y r true true h = cc (h refl)
written_later x y r true false h = refl
written_later x y r false true h = refl
written_later x y r false false h = refl

inserted : (es : List (Bor Key × ℕ)) (key : Bor Key) (n : ℕ) (k : Key) →
    place_in (placed (insert_entry same_key es key n)) k ≡ cond (bytes_eq key.now k) (Some n) (place_in (placed es) k)
inserted [] key n k = ap (λ b. cond b (Some n) None) (nat_list_eq_equiv.symm k key.now)
inserted (e ∷ es) key n k = by (bytes_eq key.now e.0.now) refl (inserted es key n k)
  where
    by : (b : Bool) → bytes_eq key.now e.0.now ≡ b →
        place_in (placed (insert_entry same_key es key n)) k ≡ cond (bytes_eq key.now k) (Some n) (place_in (placed es) k) →
        place_in (placed (cond b ((e.0, n) ∷ es) (e ∷ insert_entry same_key es key n))) k
        ≡ cond (bytes_eq key.now k) (Some n) (place_in (placed (e ∷ es)) k)
    by true h rest =
        written_here (Some n) (Some e.1) (place_in (placed es) k) (bytes_eq k e.0.now) (bytes_eq key.now k)
        (ap (bytes_eq k) (sym (same_name key.now e.0.now h)) ∙ nat_list_eq_equiv.symm k key.now)
    by false h rest =
        ap (cond (bytes_eq k e.0.now) (Some e.1)) rest
        ∙ written_later (Some e.1) (Some n) (place_in (placed es) k) (bytes_eq k e.0.now) (bytes_eq key.now k)
        (λ s. ap (bytes_eq key.now) (same_name k e.0.now s) ∙ h)

-- a key that is written has this place, and each other that which it had
pub put_place : (es fs : List (Bor Key × ℕ)) (key : Bor Key) (n : ℕ) (k : Key) → fs ≡ insert_entry same_key es key n →
    place_in (placed fs) k ≡ cond (bytes_eq key.now k) (Some n) (place_in (placed es) k)
put_place es fs key n k h = ap (λ ds. place_in (placed ds) k) h ∙ inserted es key n k

-- ---- the walk over the `implementation`s

-- the header at a place, and those behind it
pub at_place : (hs : List (Option code.Header)) (n : ℕ) (h : Option code.Header) → n < length hs → h ≡ get_or hs n h →
    all_seen (drop n hs) ≡ option_map seen h ∷ all_seen (drop (n + 1) hs)
at_place hs n h within is =
    let up : suc n ≡ n + 1 = omega arith in
    ap all_seen (drop-cons hs n h within)
    ∙ ap (λ x. option_map seen x ∷ all_seen (drop (suc n) hs)) (sym is)
    ∙ ap (λ m. option_map seen h ∷ all_seen (drop m hs)) up

module _ (hs : List (Option code.Header)) (n : ℕ) (h : Option code.Header) (within : n < length hs) (is : h ≡ get_or hs n h) where
  -- where the first `implementation` stands
  pub first_step : (k : Key) (old new total : Option ℕ) → new ≡ cond (has_header is_implementation k (option_map seen h)) (Some n) old →
      (has_header is_implementation k (option_map seen h) ≡ true → is_some old ≡ false) →
      or_place old (first_at is_implementation k n (all_seen (drop n hs))) ≡ total →
      or_place new (first_at is_implementation k (n + 1) (all_seen (drop (n + 1) hs))) ≡ total
  first_step k old new total e absent before =
      let up : n + 1 ≡ suc n = omega arith in
      ap (λ o. or_place o (first_at is_implementation k (n + 1) (all_seen (drop (n + 1) hs)))) e
      ∙ ap (λ m. or_place (cond here (Some n) old) (first_at is_implementation k m (all_seen (drop (n + 1) hs)))) up
      ∙ by here old (first_at is_implementation k (suc n) (all_seen (drop (n + 1) hs))) absent
      ∙ ap (λ rest. or_place old (first_at is_implementation k n rest)) (sym (at_place hs n h within is))
      ∙ before
    where
      here : Bool
      here = has_header is_implementation k (option_map seen h)

      by : (b : Bool) (o rest : Option ℕ) → (b ≡ true → is_some o ≡ false) →
          or_place (cond b (Some n) o) rest ≡ or_place o (cond b (Some n) rest)
      by true None rest none = refl
      by true (Some p) rest none = cc (none refl)
      by false None rest none = refl
      by false (Some p) rest none = refl

  -- what is judged of the headers
  pub judged_step : (by : Key → Bool) (old new : Places) (total : Result (Unit {0}) Fault) →
      IsKept is_implementation (option_map seen h) n old new → header_judged by (has_place old) (option_map seen h) ≡ Ok tt →
      headers_judged by (has_place old) (all_seen (drop n hs)) ≡ total →
      headers_judged by (has_place new) (all_seen (drop (n + 1) hs)) ≡ total
  judged_step by old new total kept ok before =
      ap (λ s. headers_judged by s (all_seen (drop (n + 1) hs))) (λ i k. state k i)
      ∙ ap (λ r. r >> headers_judged by (or_this (option_map seen h) (has_place old)) (all_seen (drop (n + 1) hs))) (sym ok)
      ∙ ap (headers_judged by (has_place old)) (sym (at_place hs n h within is))
      ∙ before
    where
      place : (b : Bool) (o : Option ℕ) → is_some (cond b (Some n) o) ≡ cond b true (is_some o)
      place true o = refl
      place false o = refl

      state : (k : Key) → has_place new k ≡ or_this (option_map seen h) (has_place old) k
      state k = ap is_some (kept k) ∙ place (has_header is_implementation k (option_map seen h)) (place_in old k)

-- a header that is judged well has a new key
pub new_key : (by before : Key → Bool) (h : Option Header) (k : Key) → header_judged by before h ≡ Ok tt →
    has_header is_implementation k h ≡ true → before k ≡ false
new_key by before None k ok has = cc has
new_key by before (Some h) k ok has = word (is_implementation h.word) (bytes_eq h.key k) refl refl ok has
  where
    judged : (b c : Bool) → (need b T26 h.at >> need (not c) T27 h.at) ≡ Ok tt → c ≡ false
    judged true false e = refl
    judged true true e = cc e
    judged false c e = cc e

    word : (b c : Bool) → is_implementation h.word ≡ b → bytes_eq h.key k ≡ c →
        cond b (need (by h.key) T26 h.at >> need (not (before h.key)) T27 h.at) (Ok tt) ≡ Ok tt → b && c ≡ true → before k ≡ false
    word true true p q e t = ap before (sym (same_name h.key k q)) ∙ judged (by h.key) (before h.key) e
    word true false p q e t = cc t
    word false c p q e t = cc t
