-- What the map of names with their places answers and takes, as the list of them.
use Rattle.std.proofs.Common.{◌≡◌, ℕ, suc, ◌+◌, Bool, true, false, List, [], ◌∷◌, ◌++◌, cond, Option, Some, None, Bor, refl, sym, ap, ◌∙◌, arith}
use Rattle.std.proofs.lemmas.List.{map-append}
use Rattle.std.specs.Prelude.{option_map}
use Rattle.std.specs.Str.{bytes_eq}
use Rattle.std.specs.Map.{lookup}
use Rattle.indexmap.specs.IndexMap.{IndexMap, insert_entry}
use Rattle.indexmap.proofs.CallerLemmas.{insert_entry-new}
use Rattle.asl_rules.proofs.basics.Tests.{name_is, same_name as same_name_is, some_none}
use Rattle.asl_rules.specs.declarations.Layouts.{place_of}
use Rattle.asl_names.specs.private.Firsts.{Places, named, first_place, kept_by, kept, placed}

abbrev pub same_name : Bor (List ℕ) → Bor (List ℕ) → Bool
same_name x y = bytes_eq x.now y.now

pub first_named : (es : List (Bor (List ℕ) × ℕ)) (name : List ℕ) → first_place name (named es) ≡ lookup (λ k. bytes_eq name k.now) es
first_named [] name = refl
first_named (e ∷ es) name = ap (cond (bytes_eq name e.0.now) (Some e.1)) (first_named es name)

-- a new name goes last
pub kept_new : {S : Type 0} (m : IndexMap (Bor (List ℕ)) ℕ S) (k : Bor (List ℕ)) (n : ℕ) (es : List (Bor (List ℕ) × ℕ)) →
    first_place k.now (named m.entries) ≡ None → es ≡ insert_entry same_name m.entries k n → named es ≡ kept k.now n (named m.entries)
kept_new m k n es none h =
    ap named (h ∙ insert_entry-new same_name m k n (sym (first_named m.entries k.now) ∙ none)) ∙ map-append _ m.entries ((k, n) ∷ [])
    ∙ sym (ap (λ o. kept_by o k.now n (named m.entries)) none)

-- ---- names in order

pub same_test : (m n : List ℕ) → bytes_eq m n ≡ bytes_eq n m
same_test m n = by (bytes_eq m n) (bytes_eq n m) refl refl
  where
    by : (b c : Bool) → bytes_eq m n ≡ b → bytes_eq n m ≡ c → b ≡ c
    by true true h k = refl
    by false false h k = refl
    by true false h k = sym (name_is n) ∙ ap (bytes_eq n) (sym (same_name_is m n h)) ∙ k
    by false true h k = sym h ∙ ap (bytes_eq m) (same_name_is n m k) ∙ name_is m

abbrev pub or_place : Option ℕ → Option ℕ → Option ℕ
or_place None o = o
or_place (Some i) o = Some i

abbrev pub here : Bool → ℕ → Option ℕ
here true n = Some n
here false n = None

first_append : (name : List ℕ) (ps : Places) (m : List ℕ) (n : ℕ) → first_place name (ps ++ (m, n) ∷ []) ≡ or_place (first_place name ps) (here (bytes_eq name m) n)
first_append name [] m n = by (bytes_eq name m)
  where
    by : (b : Bool) → cond b (Some n) None ≡ here b n
    by true = refl
    by false = refl
first_append name (p ∷ ps) m n = by (first_append name ps m n) (bytes_eq name p.0)
  where
    by : first_place name (ps ++ (m, n) ∷ []) ≡ or_place (first_place name ps) (here (bytes_eq name m) n) → (b : Bool) →
        cond b (Some p.1) (first_place name (ps ++ (m, n) ∷ [])) ≡ or_place (cond b (Some p.1) (first_place name ps)) (here (bytes_eq name m) n)
    by h true = refl
    by h false = h

there_already : (o q : Option ℕ) (i : ℕ) → o ≡ Some i → o ≡ or_place o q
there_already (Some j) q i h = refl
there_already None q i h = some_none i (sym h)

or_none : (o : Option ℕ) → o ≡ or_place o None
or_none None = refl
or_none (Some i) = refl

pub first_kept : (name : List ℕ) (ps : Places) (m : List ℕ) (n : ℕ) → first_place name (kept m n ps) ≡ or_place (first_place name ps) (here (bytes_eq name m) n)
first_kept name ps m n = by (first_place m ps) refl
  where
    same : (i : ℕ) → first_place m ps ≡ Some i → (b : Bool) → bytes_eq name m ≡ b → first_place name ps ≡ or_place (first_place name ps) (here b n)
    same i h true e = there_already (first_place name ps) (Some n) i (ap (λ x. first_place x ps) (same_name_is name m e) ∙ h)
    same i h false e = or_none (first_place name ps)

    by : (o : Option ℕ) → first_place m ps ≡ o → first_place name (kept_by o m n ps) ≡ or_place (first_place name ps) (here (bytes_eq name m) n)
    by (Some i) h = same i h (bytes_eq name m) refl
    by None h = first_append name ps m n

abbrev from : ℕ → Option ℕ → Option ℕ
from n o = option_map (λ i. n + i) o

step : (n : ℕ) (x o : Option ℕ) (b : Bool) → or_place (or_place x (here b n)) (from (suc n) o) ≡ or_place x (from n (cond b (Some 0) (option_map suc o)))
step n (Some j) o b = refl
step n None o true = ap Some (omega arith)
step n None None false = refl
step n None (Some i) false = ap Some (omega arith)

placed_first : (name : List ℕ) (names : List (List ℕ)) (n : ℕ) (ps : Places) → first_place name (placed names n ps) ≡ or_place (first_place name ps) (from n (place_of name names))
placed_first name [] n ps = or_none (first_place name ps)
placed_first name (m ∷ ms) n ps =
    placed_first name ms (suc n) (kept m n ps)
    ∙ (ap (λ x. or_place x (from (suc n) (place_of name ms))) (first_kept name ps m n)
    ∙ (step n (first_place name ps) (place_of name ms) (bytes_eq name m)
    ∙ ap (λ b. or_place (first_place name ps) (from n (cond b (Some 0) (option_map suc (place_of name ms))))) (same_test name m)))

from_start : (o : Option ℕ) → from 0 o ≡ o
from_start None = refl
from_start (Some i) = ap Some (omega arith)

-- the first place of each name in a list of them
pub place_is : (name : List ℕ) (names : List (List ℕ)) → first_place name (placed names 0 []) ≡ place_of name names
place_is name names = placed_first name names 0 [] ∙ from_start (place_of name names)
