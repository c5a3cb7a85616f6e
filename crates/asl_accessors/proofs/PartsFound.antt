-- What becomes of each declaration, as the places of keys say it.
use Rattle.std.proofs.Common.{◌≡◌, ℕ, suc, ◌<◌, Bool, true, false, cond, ◌&&◌, List, [], ◌∷◌, ◌++◌, Option, Some, None, is_some, not, Result, Ok, Err, refl, sym, ap, subst, ◌∙◌, arith}
use Rattle.std.specs.Prelude.{◌==◌, IsErrAnd}
use Rattle.std.specs.Str.{bytes_eq}
use Rattle.asl_syn.specs.declared.code.Fault.{Fault}
use Rattle.asl_syn.specs.declared.code.Refused.{Refused}
use Rattle.asl_syn.specs.declared.code.Refused.TheVariants.{At, NoMemory}
use Rattle.asl_syn.specs.declared.code.StaticCode.TheVariants.{T26, T27}
use Rattle.asl_syn.specs.declared.read.BodyWord.{BodyWord}
use Rattle.asl_syn.specs.declared.read.BodyWord.TheVariants.{NoWord, ImpDef, Implementation}
use Rattle.asl_syn.specs.declared.read.ReadDecl.{ReadDecl}
use Rattle.asl_rules.specs.Faults.{◌>>◌, need}
use Rattle.asl_rules.specs.declarations.Keys.{Key}
use Rattle.asl_rules.specs.declarations.Replacing.{Header, header_of, has_header, header_matched, headers_matched, bodies_matched, is_impdef, is_implementation, some_with}
use Rattle.asl_rules.proofs.basics.Tests.{name_is}
use Rattle.asl_accessors.specs.Judged.{IsMatched}
use Rattle.asl_accessors.specs.declared.matching.Part.{Part}
use Rattle.asl_accessors.specs.declared.matching.Part.TheVariants.{Stays, Replaces}
use Rattle.asl_accessors.specs.private.Parts.{AreFirsts, AreLasts, Places, Refuses, by_word, first_at, has_place, header_judged, header_part, header_placed, headers_judged, headers_placed, heads, is_elsewhere, last_at, or_this, parts_in, place_in, place_with, replaced_by, worded}

-- ---- a declaration without a word is none

worded_has : (is : BodyWord → Bool) → is NoWord ≡ false → (k : Key) (o : Option Header) →
    has_header is k (worded o) ≡ has_header is k o
worded_has is none k None = refl
worded_has is none k (Some h) = by h.word refl
  where
    by : (w : BodyWord) → h.word ≡ w → has_header is k (by_word w h) ≡ is h.word && bytes_eq h.key k
    by NoWord e = ap (λ b. b && bytes_eq h.key k) (sym (ap is e ∙ none))
    by ImpDef e = refl
    by Implementation e = refl

worded_judged : (by before : Key → Bool) (o : Option Header) →
    header_judged by before (worded o) ≡ header_judged by before o
worded_judged by before None = refl
worded_judged by before (Some h) = word h.word refl
  where
    word : (w : BodyWord) → h.word ≡ w → header_judged by before (by_word w h) ≡ header_judged by before (Some h)
    word NoWord e = ap (λ w. cond (is_implementation w) (need (by h.key) T26 h.at >> need (not (before h.key)) T27 h.at) (Ok tt)) (sym e)
    word ImpDef e = refl
    word Implementation e = refl

worded_placed : (firsts lasts : Key → Option ℕ) (n : ℕ) (o : Option Header) →
    header_placed firsts lasts n (worded o) ≡ header_placed firsts lasts n o
worded_placed firsts lasts n None = refl
worded_placed firsts lasts n (Some h) = word h.word refl
  where
    impdef : Part
    impdef = replaced_by (is_elsewhere n (lasts h.key)) (firsts h.key)

    word : (w : BodyWord) → h.word ≡ w → header_placed firsts lasts n (by_word w h) ≡ header_placed firsts lasts n (Some h)
    word NoWord e = ap (λ w. cond (is_implementation w) Replaces (cond (is_impdef w) impdef Stays)) (sym e)
    word ImpDef e = refl
    word Implementation e = refl

-- ---- places, and whether there is one

or_here : (b c : Bool) (n : ℕ) (o : Option ℕ) → cond c true (is_some (cond b (Some n) o)) ≡ cond (cond b true c) true (is_some o)
or_here true true n o = refl
or_here true false n o = refl
or_here false true n o = refl
or_here false false n o = refl

last_some : (k : Key) (n : ℕ) (o : Option ℕ) (ds : List ReadDecl) →
    is_some (last_at is_impdef k n o (heads ds)) ≡ cond (some_with is_impdef k ds) true (is_some o)
last_some k n o [] = refl
last_some k n o (d ∷ ds) =
    last_some k (suc n) (cond (has_header is_impdef k (worded (header_of d))) (Some n) o) ds
    ∙ ap (λ b. cond (some_with is_impdef k ds) true (is_some (cond b (Some n) o))) (worded_has is_impdef refl k (header_of d))
    ∙ or_here (has_header is_impdef k (header_of d)) (some_with is_impdef k ds) n o

some_more : (is : BodyWord → Bool) (k : Key) (ds : List ReadDecl) (d : ReadDecl) →
    some_with is k (ds ++ d ∷ []) ≡ cond (has_header is k (header_of d)) true (some_with is k ds)
some_more is k [] d = refl
some_more is k (e ∷ ds) d =
    ap (cond (has_header is k (header_of e)) true) (some_more is k ds d)
    ∙ swap (has_header is k (header_of e)) (has_header is k (header_of d)) (some_with is k ds)
  where
    swap : (b c r : Bool) → cond b true (cond c true r) ≡ cond c true (cond b true r)
    swap true true r = refl
    swap true false r = refl
    swap false c r = refl

first_is : (k : Key) (n : ℕ) (ds : List ReadDecl) → first_at is_implementation k n (heads ds) ≡ place_with is_implementation k n ds
first_is k n [] = refl
first_is k n (d ∷ ds) =
    ap (λ b. cond b (Some n) (first_at is_implementation k (suc n) (heads ds))) (worded_has is_implementation refl k (header_of d))
    ∙ ap (cond (has_header is_implementation k (header_of d)) (Some n)) (first_is k (suc n) ds)

-- ---- the faults

judged_is : (all before ds : List ReadDecl) →
    headers_judged (λ k. some_with is_impdef k all) (λ k. some_with is_implementation k before) (heads ds) ≡ headers_matched all before ds
judged_is all before [] = refl
judged_is all before (d ∷ ds) =
    ap (λ r. r >> headers_judged by (or_this (worded (header_of d)) earlier) (heads ds))
    (worded_judged by earlier (header_of d) ∙ here (header_of d))
    ∙ ap (λ s. header_matched all before (header_of d) >> headers_judged by s (heads ds)) (λ i k. state k i)
    ∙ ap (λ r. header_matched all before (header_of d) >> r) (judged_is all (before ++ d ∷ []) ds)
  where
    by : Key → Bool
    by k = some_with is_impdef k all

    earlier : Key → Bool
    earlier k = some_with is_implementation k before

    here : (o : Option Header) → header_judged by earlier o ≡ header_matched all before o
    here None = refl
    here (Some h) = refl

    state : (k : Key) → or_this (worded (header_of d)) earlier k ≡ some_with is_implementation k (before ++ d ∷ [])
    state k =
        ap (λ b. cond b true (some_with is_implementation k before)) (worded_has is_implementation refl k (header_of d))
        ∙ sym (some_more is_implementation k before d)

-- what is judged by the places of the last `impdef`s is the fault of the bodies
pub judged_bodies : (ds : List ReadDecl) (lasts : Places) (gs hs : List (Option Header)) → gs ≡ heads ds → hs ≡ heads ds →
    AreLasts gs lasts →
    headers_judged (has_place lasts) (λ _. false) hs ≡ bodies_matched ds
unfolding bodies_matched
judged_bodies ds lasts gs hs e same last =
    ap (λ s. headers_judged s (λ _. false) hs) (λ i k. some k i)
    ∙ ap (headers_judged (λ k. some_with is_impdef k ds) (λ _. false)) same
    ∙ judged_is ds [] ds
  where
    or_false : (b : Bool) → cond b true false ≡ b
    or_false true = refl
    or_false false = refl

    some : (k : Key) → has_place lasts k ≡ some_with is_impdef k ds
    some k =
        ap is_some (last k)
        ∙ ap (λ xs. is_some (last_at is_impdef k 0 None xs)) e
        ∙ last_some k 0 None ds
        ∙ or_false (some_with is_impdef k ds)

-- ---- the parts

-- the last `impdef` of a key, of which one stands at p, isn't at n exactly where one is among these
-- declarations, which are counted from m on, or p isn't n
abbrev IsTold : Key → ℕ → ℕ → ℕ → List ReadDecl → Type 0
IsTold k n m p ds = is_elsewhere n (last_at is_impdef k m (Some p) (heads ds)) ≡ cond (some_with is_impdef k ds) true (is_elsewhere n (Some p))

elsewhere : (k : Key) (n m p : ℕ) (ds : List ReadDecl) → n < m → IsTold k n m p ds
elsewhere k n m p [] h = refl
elsewhere k n m p (d ∷ ds) h =
    ap (λ b. is_elsewhere n (last_at is_impdef k (suc m) (cond b (Some m) (Some p)) (heads ds))) (worded_has is_impdef refl k (header_of d))
    ∙ by (has_header is_impdef k (header_of d)) (λ q. elsewhere k n (suc m) q ds (omega (arith, h)))
  where
    other : (b : Bool) → (m == n) ≡ b → not b ≡ true
    other false e = refl
    other true e = absurd (grind (arith, h, e))

    or_true : (b : Bool) → cond b true true ≡ true
    or_true true = refl
    or_true false = refl

    by : (b : Bool) → ((q : ℕ) → IsTold k n (suc m) q ds) →
        is_elsewhere n (last_at is_impdef k (suc m) (cond b (Some m) (Some p)) (heads ds))
        ≡ cond (cond b true (some_with is_impdef k ds)) true (is_elsewhere n (Some p))
    by true rest = rest m ∙ ap (cond (some_with is_impdef k ds) true) (other (m == n) refl) ∙ or_true (some_with is_impdef k ds)
    by false rest = rest p

-- where the last `impdef` of a key stands, as far as these declarations tell, which are counted from n on
From : (Key → Option ℕ) → ℕ → List ReadDecl → Type 0
From lasts n ds = (k : Key) → (before : Option ℕ) × (lasts k ≡ last_at is_impdef k n before (heads ds))

own_place : (n : ℕ) (b : Bool) → cond b true (is_elsewhere n (Some n)) ≡ b
own_place n true = refl
own_place n false = by (n == n) refl
  where
    by : (b : Bool) → (n == n) ≡ b → not b ≡ false
    by true e = refl
    by false e = absurd (grind (arith, e))

placed_is : (all : List ReadDecl) (lasts : Key → Option ℕ) (n : ℕ) (ds : List ReadDecl) → From lasts n ds →
    headers_placed (λ k. place_with is_implementation k 0 all) lasts n (heads ds) ≡ parts_in all ds
unfolding From
placed_is all lasts n [] from = refl
placed_is all lasts n (d ∷ ds) from =
    ap (λ p. p ∷ headers_placed firsts lasts (suc n) (heads ds)) (worded_placed firsts lasts n (header_of d) ∙ here (header_of d) refl)
    ∙ ap (λ ps. header_part all ds (header_of d) ∷ ps) (placed_is all lasts (suc n) ds next)
  where
    firsts : Key → Option ℕ
    firsts k = place_with is_implementation k 0 all

    next : From lasts (suc n) ds
    next k = (cond (has_header is_impdef k (worded (header_of d))) (Some n) (from k).0, (from k).1)

    own : (h : Header) → is_impdef h.word ≡ true → is_impdef h.word && bytes_eq h.key h.key ≡ true
    own h q = ap (λ b. b && bytes_eq h.key h.key) q ∙ name_is h.key

    also : (h : Header) → header_of d ≡ Some h → is_impdef h.word ≡ true → is_elsewhere n (lasts h.key) ≡ some_with is_impdef h.key ds
    also h e q =
        ap (is_elsewhere n) (from h.key).1
        ∙ ap (λ b. is_elsewhere n (last_at is_impdef h.key (suc n) (cond b (Some n) (from h.key).0) (heads ds)))
        (worded_has is_impdef refl h.key (header_of d) ∙ ap (has_header is_impdef h.key) e ∙ own h q)
        ∙ elsewhere h.key n (suc n) n ds (omega arith)
        ∙ own_place n (some_with is_impdef h.key ds)

    word : (h : Header) → header_of d ≡ Some h → (b : Bool) → is_impdef h.word ≡ b →
        cond (is_implementation h.word) Replaces (cond b (replaced_by (is_elsewhere n (lasts h.key)) (firsts h.key)) Stays)
        ≡ cond (is_implementation h.word) Replaces (cond b (replaced_by (some_with is_impdef h.key ds) (firsts h.key)) Stays)
    word h e false q = refl
    word h e true q = ap (λ b. cond (is_implementation h.word) Replaces (replaced_by b (firsts h.key))) (also h e q)

    here : (o : Option Header) → header_of d ≡ o → header_placed firsts lasts n o ≡ header_part all ds o
    here None e = refl
    here (Some h) e = word h e (is_impdef h.word) refl

-- the parts by the places of the first `implementation`s and the last `impdef`s are those of the rules
pub parts_found : (ds : List ReadDecl) (firsts lasts : Places) (fs gs hs : List (Option Header)) →
    fs ≡ heads ds → gs ≡ heads ds → hs ≡ heads ds →
    AreFirsts fs firsts → AreLasts gs lasts →
    headers_placed (place_in firsts) (place_in lasts) 0 hs ≡ parts_in ds ds
unfolding From
parts_found ds firsts lasts fs gs hs e f g first last =
    ap (λ s. headers_placed s (place_in lasts) 0 hs) (λ i k. at k i)
    ∙ ap (headers_placed (λ k. place_with is_implementation k 0 ds) (place_in lasts) 0) g
    ∙ placed_is ds (place_in lasts) 0 ds (λ k. (None, last k ∙ ap (last_at is_impdef k 0 None) f))
  where
    at : (k : Key) → place_in firsts k ≡ place_with is_implementation k 0 ds
    at k = first k ∙ ap (first_at is_implementation k 0) e ∙ first_is k 0 ds

-- a fault of the `implementation`s that is handed on is that of the bodies
pub handed_on : {A : Type 0} (ds : List ReadDecl) (r : Result A Refused) (e : Refused) (judged : Result (Unit {0}) Fault) →
    judged ≡ bodies_matched ds →
    Refuses e judged → IsErrAnd r (λ x. x ≡ e) → IsMatched ds r
handed_on ds (Ok x) e judged is a h = absurd h
handed_on {A} ds (Err x) e judged is a h = subst (λ (y : Refused). IsMatched {A = A} ds (Err y)) (sym h) (by e a)
  where
    by : (y : Refused) → Refuses y judged → IsMatched {A = A} ds (Err y)
    by (At f) b = sym is ∙ b
    by NoMemory b = tt
