-- What becomes of a declaration, and what it says of the declaration and of the one that takes its place.
use Rattle.std.proofs.Common.{◌≡◌, ℕ, suc, ◌-◌, ◌≤◌, Bool, true, false, ◌&&◌, List, [], ◌∷◌, length, Option, Some, None, refl, sym, ap, ◌∙◌, subst, arith}
use Rattle.std.specs.Prelude.{if◌then◌else◌, slice_get}
use Rattle.std.specs.Str.{bytes_eq}
use Rattle.std.proofs.lemmas.Bool.{and_parts, false≢true}
use Rattle.std.proofs.lemmas.Option.{none-some, same_Some}
use Rattle.asl_syn.specs.declared.read.BodyWord.{BodyWord}
use Rattle.asl_syn.specs.declared.read.BodyWord.TheVariants.{NoWord, ImpDef, Implementation}
use Rattle.asl_syn.specs.declared.read.ReadDecl.{ReadDecl}
use Rattle.asl_syn.specs.declared.read.ReadDecl.TheVariants as rd
use Rattle.asl_rules.specs.declarations.Keys.{Key, accessor_key, func_key}
use Rattle.asl_rules.specs.declarations.WrittenOut.{decl_written}
use Rattle.asl_rules.specs.declarations.Replacing.{Header, first_with, has_header, has_word, header_of, in_place, is_impdef, is_implementation, or_itself, some_with, without_word}
use Rattle.asl_accessors.specs.declared.matching.Part.{Part}
use Rattle.asl_accessors.specs.declared.matching.Part.TheVariants.{Stays, Replaced, AlsoReplaced, Replaces}
use Rattle.asl_accessors.specs.private.Parts.{header_part, place_with, replaced_by}

-- ---- where the first with a word and a key stands

-- among these, of which the first has the number n
pub record IsFound (is : BodyWord → Bool) (k : Key) (n : ℕ) (ds : List ReadDecl) (p : ℕ) : Type 0 where
  pub decl : ReadDecl
  pub first : first_with is k ds ≡ Some decl
  pub from : n ≤ p
  pub stands : slice_get ds (p - n) ≡ Some decl
  pub has : has_header is k (header_of decl) ≡ true

pub found : (is : BodyWord → Bool) (k : Key) (n : ℕ) (ds : List ReadDecl) (p : ℕ) → place_with is k n ds ≡ Some p → IsFound is k n ds p
found is k n [] p h = absurd (none-some p h)
found is k n (d ∷ ds) p h = by (has_header is k (header_of d)) refl (found is k (suc n) ds p) h
  where
    by : (b : Bool) → has_header is k (header_of d) ≡ b → (place_with is k (suc n) ds ≡ Some p → IsFound is k (suc n) ds p) →
        (if b then Some n else place_with is k (suc n) ds) ≡ Some p → IsFound is k n (d ∷ ds) p
    by true q r h =
        let here : n ≡ p = same_Some n p h in
        let none : p - n ≡ 0 = omega (arith, here) in
        record {
          decl = d;
          first = ap (λ (b : Bool). if b then Some d else first_with is k ds) q;
          from = omega (arith, here);
          stands = ap (slice_get (d ∷ ds)) none;
          has = q;
        }
    by false q r h =
        let f = r h in
        let from : suc n ≤ p = f.from in
        let more : p - n ≡ suc (p - suc n) = omega (arith, from) in
        record {
          decl = f.decl;
          first = ap (λ (b : Bool). if b then Some d else first_with is k ds) q ∙ f.first;
          from = omega (arith, from);
          stands = ap (slice_get (d ∷ ds)) more ∙ f.stands;
          has = f.has;
        }

pub not_found : (is : BodyWord → Bool) (k : Key) (n : ℕ) (ds : List ReadDecl) → place_with is k n ds ≡ None → first_with is k ds ≡ None
not_found is k n [] h = refl
not_found is k n (d ∷ ds) h = by (has_header is k (header_of d)) (not_found is k (suc n) ds) h
  where
    by : (b : Bool) → (place_with is k (suc n) ds ≡ None → first_with is k ds ≡ None) →
        (if b then Some n else place_with is k (suc n) ds) ≡ None → (if b then Some d else first_with is k ds) ≡ None
    by true r h = absurd (none-some n (sym h))
    by false r h = r h

-- ---- what a part says of its declaration, among all and with these behind it

pub record IsReplaced (all behind : List ReadDecl) (d : ReadDecl) (also : Bool) (p : ℕ) : Type 0 where
  pub header : Header
  pub of_it : header_of d ≡ Some header
  pub word : is_impdef header.word ≡ true
  pub again : some_with is_impdef header.key behind ≡ also
  pub place : place_with is_implementation header.key 0 all ≡ Some p

abbrev pub IsPart : List ReadDecl → List ReadDecl → ReadDecl → Part → Type 0
IsPart all behind d Stays = (has_word is_implementation (header_of d) ≡ false) × (in_place all d (header_of d) ≡ d)
IsPart all behind d (Replaced p) = IsReplaced all behind d false p
IsPart all behind d (AlsoReplaced p) = IsReplaced all behind d true p
IsPart all behind d Replaces = has_word is_implementation (header_of d) ≡ true

pub part_is : (all behind : List ReadDecl) (d : ReadDecl) → IsPart all behind d (header_part all behind (header_of d))
part_is all behind d = by (header_of d) refl
  where
    itself : (h : Header) → header_of d ≡ Some h → (w : BodyWord) → h.word ≡ w → is_impdef w ≡ false → in_place all d (header_of d) ≡ d
    itself h q w e n = ap (in_place all d) q ∙ ap (λ (b : Bool). if b then or_itself d (first_with is_implementation h.key all) else d) (ap is_impdef e ∙ n)

    kept : (h : Header) → header_of d ≡ Some h → (w : BodyWord) → h.word ≡ w → has_word is_implementation (header_of d) ≡ is_implementation w
    kept h q w e = ap (has_word is_implementation) q ∙ ap is_implementation e

    unmatched : (h : Header) → header_of d ≡ Some h → h.word ≡ ImpDef → place_with is_implementation h.key 0 all ≡ None → in_place all d (header_of d) ≡ d
    unmatched h q e none =
        ap (in_place all d) q
        ∙ ap (λ (b : Bool). if b then or_itself d (first_with is_implementation h.key all) else d) (ap is_impdef e)
        ∙ ap (or_itself d) (not_found is_implementation h.key 0 all none)

    by_place : (h : Header) → header_of d ≡ Some h → h.word ≡ ImpDef →
        (o : Option ℕ) → place_with is_implementation h.key 0 all ≡ o →
        (b : Bool) → some_with is_impdef h.key behind ≡ b → IsPart all behind d (replaced_by b o)
    by_place h q e None p b a = (kept h q ImpDef e, unmatched h q e p)
    by_place h q e (Some n) p true a = record { header = h; of_it = q; word = ap is_impdef e; again = a; place = p }
    by_place h q e (Some n) p false a = record { header = h; of_it = q; word = ap is_impdef e; again = a; place = p }

    by_word : (h : Header) → header_of d ≡ Some h → (w : BodyWord) → h.word ≡ w →
        IsPart all behind d (if is_implementation w then Replaces
        else (if is_impdef w then replaced_by (some_with is_impdef h.key behind) (place_with is_implementation h.key 0 all) else Stays))
    by_word h q NoWord e = (kept h q NoWord e, itself h q NoWord e refl)
    by_word h q ImpDef e = by_place h q e (place_with is_implementation h.key 0 all) refl (some_with is_impdef h.key behind) refl
    by_word h q Implementation e = kept h q Implementation e

    by : (o : Option Header) → header_of d ≡ o → IsPart all behind d (header_part all behind o)
    by None q = (ap (has_word is_implementation) q, ap (in_place all d) q)
    by (Some h) q = by_word h q h.word refl

-- ---- the one that takes the place of a declaration

pub without_word_written : (d : ReadDecl) → decl_written (without_word d) ≡ decl_written d
without_word_written (rd.Type d) = refl
without_word_written (rd.Storage d) = refl
without_word_written (rd.Func f) = refl
without_word_written (rd.Accessor a) = refl

-- equal keys are those of two functions or of two accessors
alike : (is : BodyWord → Bool) (d e : ReadDecl) (h : Header) → header_of d ≡ Some h → has_header is h.key (header_of e) ≡ true →
    length (decl_written e) ≡ length (decl_written d)
alike is (rd.Type d) e h q t = absurd (none-some h q)
alike is (rd.Storage d) e h q t = absurd (none-some h q)
alike is (rd.Func d) (rd.Type e) h q t = absurd (false≢true t)
alike is (rd.Func d) (rd.Storage e) h q t = absurd (false≢true t)
alike is (rd.Func d) (rd.Func e) h q t = refl
alike is (rd.Func d) (rd.Accessor e) h q t =
    let key : h.key ≡ func_key d = ap (λ (o : Header). o.key) (sym (same_Some _ h q)) in
    absurd (false≢true ((and_parts (is e.word) (bytes_eq (accessor_key e) (func_key d)) (subst (λ (k : Key). (is e.word && bytes_eq (accessor_key e) k) ≡ true) key t)).1))
alike is (rd.Accessor d) (rd.Type e) h q t = absurd (false≢true t)
alike is (rd.Accessor d) (rd.Storage e) h q t = absurd (false≢true t)
alike is (rd.Accessor d) (rd.Func e) h q t =
    let key : h.key ≡ accessor_key d = ap (λ (o : Header). o.key) (sym (same_Some _ h q)) in
    absurd (false≢true ((and_parts (is e.word) (bytes_eq (func_key e) (accessor_key d)) (subst (λ (k : Key). (is e.word && bytes_eq (func_key e) k) ≡ true) key t)).1))
alike is (rd.Accessor d) (rd.Accessor e) h q t = refl

pub word_of : (is : BodyWord → Bool) (k : Key) (o : Option Header) → has_header is k o ≡ true → has_word is o ≡ true
word_of is k None t = t
word_of is k (Some h) t = (and_parts (is h.word) (bytes_eq h.key k) t).0

pub impdef_stays : (w : BodyWord) → is_impdef w ≡ true → is_implementation w ≡ false
impdef_stays NoWord t = refl
impdef_stays ImpDef t = refl
impdef_stays Implementation t = absurd (false≢true t)

pub record IsOther (all : List ReadDecl) (d : ReadDecl) (p : ℕ) : Type 0 where
  pub decl : ReadDecl
  pub stands : slice_get all p ≡ Some decl
  pub word : has_word is_implementation (header_of decl) ≡ true
  pub in_its_place : in_place all d (header_of d) ≡ decl
  pub kept : has_word is_implementation (header_of d) ≡ false
  pub alike : length (decl_written decl) ≡ length (decl_written d)

pub other_is : {all behind : List ReadDecl} {d : ReadDecl} {also : Bool} {p : ℕ} → IsReplaced all behind d also p → IsOther all d p
other_is {all = all} {d = d} {p = p} r =
    let f = found is_implementation r.header.key 0 all p r.place in
    let none : p - 0 ≡ p = omega arith in
    record {
      decl = f.decl;
      stands = ap (slice_get all) (sym none) ∙ f.stands;
      word = word_of is_implementation r.header.key (header_of f.decl) f.has;
      in_its_place = ap (in_place all d) r.of_it
          ∙ ap (λ (b : Bool). if b then or_itself d (first_with is_implementation r.header.key all) else d) r.word
          ∙ ap (or_itself d) f.first;
      kept = ap (has_word is_implementation) r.of_it ∙ impdef_stays r.header.word r.word;
      alike = alike is_implementation d f.decl r.header r.of_it f.has;
    }
