-- Bitfields of written types in order, one by one.
use Rattle.std.proofs.Common.{◌≡◌, ℕ, suc, ◌+◌, ◌<◌, ◌≤◌, ◌^◌, nat_le, Bool, length, get_or, drop, List, [], ◌∷◌, ◌++◌, map, Option, Some, None, Result, Ok, Err, refl, sym, ap, ◌∙◌, append_assoc, arith}
use Rattle.std.specs.Prelude.{ℤ, pos, negsuc}
use Rattle.std.proofs.lemmas.List.{drop_all}
use Rattle.asl_syn.specs.declared.token.Span.{Span}
use Rattle.asl_syn.specs.declared.code.Fault.{Fault}
use Rattle.asl_syn.specs.declared.code.StaticCode.TheVariants.{T15, T16, T19, T20}
use Rattle.asl_syn.specs.declared.tree.Bitfield.{Bitfield}
use Rattle.asl_poly.specs.Terms.{Polynomial, Summand}
use Rattle.asl_poly.specs.Poly.{IsPolynomial, constant_value}
use Rattle.asl_rules.specs.Faults.{◌>>=◌, ◌>>◌, need, found_or}
use Rattle.asl_rules.specs.declarations.Scopes.{Scope}
use Rattle.asl_rules.specs.types.Shapes as shape
use Rattle.asl_rules.specs.Tests.{Tests}
use Rattle.asl_rules.specs.runs.Trees.{Tree}
use Rattle.asl_rules.specs.types.Types.{View, BitField, bits_of}
use Rattle.asl_rules.specs.types.Widths.{weight_of}
use Rattle.asl_rules.specs.expressions.Typing.{Found, Width}
use Rattle.asl_rules.specs.types.Writing.{FoundBitfield, bits_rule, Written, WrittenField, Numbered, all_fields, field_shapes, field_trees, all_numbered, all_placed, placed, names_once, view_rule, bits_written, within_limits, written_as}
use Rattle.asl_types.proofs.Rest.{at_next}
use Rattle.asl_written.proofs.ConstraintLemmas.{append_none}
use Rattle.asl_written.specs.declared.written_fields.FieldEnds.{FieldEnds}
use Rattle.asl_written.specs.declared.written_fields.FieldNumbers.{FieldNumbers}
use Rattle.asl_written.specs.private.WrittenFields.{found_bitfield, found_bitfields, ends_seen, field_seen, FieldsSeen, no_fields, with_field, with_fields, fields_seen, FieldSeen, behind_fields, numbered_as, all_numbers, ends_numbered, numbered_from, behind_numbers, behind_places, placed_all, view_from, bits_from}

ok_ok : {A : Type 0} (x y : A) → (let o : Result A Fault = Ok x in o) ≡ Ok y → x ≡ y
ok_ok x y e = cc e

-- ---- what is written

abbrev Fields : Type 0
Fields = Result (List WrittenField) Fault

one_more : (g h : FieldsSeen) (f : WrittenField) (r : Fields) → h ≡ with_field g (field_seen f) → behind_fields g (r >>= λ fs. Ok (f ∷ fs)) ≡ behind_fields h r
one_more g h f (Err e) more = refl
one_more g h f (Ok fs) more =
    ap (λ (x : FieldsSeen). let a : Result FieldsSeen Fault = Ok x in a) joined
    ∙ ap (λ (x : FieldsSeen). behind_fields x (Ok fs)) (sym more)
  where
    joined : with_fields g (f ∷ fs) ≡ with_fields (with_field g (field_seen f)) fs
    joined i = record {
      ends = sym (append_assoc g.ends (ends_seen f ∷ []) (map ends_seen fs)) i;
      shapes = sym (append_assoc g.shapes (f.shape ∷ []) (field_shapes fs)) i;
      trees = sym (append_assoc g.trees f.trees (field_trees fs)) i;
    }

one_step : (g h : FieldsSeen) (s : FieldSeen) (w : Result WrittenField Fault) (r : Fields) → (w >>= λ x. Ok (field_seen x)) ≡ Ok s → h ≡ with_field g s →
    behind_fields g (w >>= λ f. r >>= λ fs. Ok (f ∷ fs)) ≡ behind_fields h r
one_step g h s (Err e) r is more = absurd (cc is)
one_step g h s (Ok f) r is more = one_more g h f r (more ∙ ap (λ x. with_field g x) (sym (ok_ok (field_seen f) s is)))

-- all of them, by the next
opened : (g : FieldsSeen) (w : Result WrittenField Fault) (r : Fields) → behind_fields g (w >>= λ f. r >>= λ fs. Ok (f ∷ fs)) ≡ ((w >>= λ x. Ok (field_seen x)) >>= λ s. behind_fields (with_field g s) r)
opened g (Err e) r = refl
opened g (Ok f) r = one_more g (with_field g (field_seen f)) f r refl

pub fields_opened : (t : Tests) (all : Result FieldsSeen Fault) (fs : List Bitfield) (i : ℕ) (f : Bitfield) (g : FieldsSeen) (G : Scope) →
    i < length fs → f ≡ get_or fs i f →
    all ≡ behind_fields g (all_fields (found_bitfields t (drop i fs)) G) →
    all ≡ ((found_bitfield t f G >>= λ x. Ok (field_seen x)) >>= λ s. behind_fields (with_field g s) (all_fields (found_bitfields t (drop (i + 1) fs)) G))
fields_opened t all fs i f g G within here before =
    before
    ∙ ap (λ xs. behind_fields g (all_fields (found_bitfields t xs) G)) (at_next fs i f within here)
    ∙ opened g (found_bitfield t f G) (all_fields (found_bitfields t (drop (i + 1) fs)) G)

pub fields_next : (t : Tests) (all : Result FieldsSeen Fault) (fs : List Bitfield) (i : ℕ) (f : Bitfield) (g h : FieldsSeen) (s : FieldSeen) (G : Scope) →
    i < length fs → f ≡ get_or fs i f → (found_bitfield t f G >>= λ x. Ok (field_seen x)) ≡ Ok s → h ≡ with_field g s →
    all ≡ behind_fields g (all_fields (found_bitfields t (drop i fs)) G) → all ≡ behind_fields h (all_fields (found_bitfields t (drop (i + 1) fs)) G)
fields_next t all fs i f g h s G within here w more before =
    before
    ∙ ap (λ xs. behind_fields g (all_fields (found_bitfields t xs) G)) (at_next fs i f within here)
    ∙ one_step g h s (found_bitfield t f G) (all_fields (found_bitfields t (drop (i + 1) fs)) G) w more

pub fields_last : (t : Tests) (all : Result FieldsSeen Fault) (fs : List Bitfield) (i : ℕ) (g : FieldsSeen) (G : Scope) → length fs ≤ i →
    all ≡ behind_fields g (all_fields (found_bitfields t (drop i fs)) G) → all ≡ Ok g
fields_last t all fs i g G past before =
    before
    ∙ ap (λ xs. behind_fields g (all_fields (found_bitfields t xs) G)) (drop_all i fs past)
    ∙ ap (λ (x : FieldsSeen). let a : Result FieldsSeen Fault = Ok x in a) whole
  where
    whole : with_fields g [] ≡ g
    whole j = record { ends = append_none g.ends j; shapes = append_none g.shapes j; trees = append_none g.trees j }

pub fields_first : (r : Fields) → (r >>= λ fs. Ok (fields_seen fs)) ≡ behind_fields no_fields r
fields_first (Ok fs) = refl
fields_first (Err e) = refl

-- ---- their numbers

more_numbers : (ms os : List Numbered) (n : Numbered) (r : Result (List Numbered) Fault) → os ≡ ms ++ n ∷ [] → behind_numbers ms (r >>= λ ns. Ok (n ∷ ns)) ≡ behind_numbers os r
more_numbers ms os n (Err e) more = refl
more_numbers ms os n (Ok ns) more = ap (λ (x : List Numbered). let a : Result (List Numbered) Fault = Ok x in a) (sym (append_assoc ms (n ∷ []) ns) ∙ ap (λ x. x ++ ns) (sym more))

push_numbers : (fs : List FieldNumbers) (f : FieldNumbers) → all_numbers (fs ++ f ∷ []) ≡ all_numbers fs ++ numbered_as f ∷ []
push_numbers [] f = refl
push_numbers (g ∷ fs) f = ap (λ ns. numbered_as g ∷ ns) (push_numbers fs f)

pub numbers_next : (all : Result (List Numbered) Fault) (fs : List FieldEnds) (i : ℕ) (f : FieldEnds) (ms os : List FieldNumbers) (n : FieldNumbers) →
    i < length fs → f ≡ get_or fs i f → ends_numbered f ≡ Ok (numbered_as n) → os ≡ ms ++ n ∷ [] →
    all ≡ behind_numbers (all_numbers ms) (numbered_from (drop i fs)) → all ≡ behind_numbers (all_numbers os) (numbered_from (drop (i + 1) fs))
numbers_next all fs i f ms os n within here w more before =
    before
    ∙ ap (λ xs. behind_numbers (all_numbers ms) (numbered_from xs)) (at_next fs i f within here)
    ∙ ap (λ r. behind_numbers (all_numbers ms) (r >>= λ x. numbered_from (drop (i + 1) fs) >>= λ xs. Ok (x ∷ xs))) w
    ∙ more_numbers (all_numbers ms) (all_numbers os) (numbered_as n) (numbered_from (drop (i + 1) fs)) (ap all_numbers more ∙ push_numbers ms n)

pub numbers_stop : (all : Result (List Numbered) Fault) (fs : List FieldEnds) (i : ℕ) (f : FieldEnds) (ms : List FieldNumbers) (e : Fault) →
    i < length fs → f ≡ get_or fs i f → ends_numbered f ≡ Err e →
    all ≡ behind_numbers (all_numbers ms) (numbered_from (drop i fs)) → all ≡ Err e
numbers_stop all fs i f ms e within here w before =
    before
    ∙ ap (λ xs. behind_numbers (all_numbers ms) (numbered_from xs)) (at_next fs i f within here)
    ∙ ap (λ r. behind_numbers (all_numbers ms) (r >>= λ x. numbered_from (drop (i + 1) fs) >>= λ xs. Ok (x ∷ xs))) w

pub numbers_last : (all : Result (List Numbered) Fault) (fs : List FieldEnds) (i : ℕ) (ms : List FieldNumbers) → length fs ≤ i →
    all ≡ behind_numbers (all_numbers ms) (numbered_from (drop i fs)) → all ≡ Ok (all_numbers ms)
numbers_last all fs i ms past before =
    before
    ∙ ap (λ xs. behind_numbers (all_numbers ms) (numbered_from xs)) (drop_all i fs past)
    ∙ ap (λ (x : List Numbered). let a : Result (List Numbered) Fault = Ok x in a) (append_none (all_numbers ms))

pub numbers_first : (r : Result (List Numbered) Fault) → r ≡ behind_numbers [] r
numbers_first (Ok ns) = refl
numbers_first (Err e) = refl

-- ---- their places

more_places : (ms os : View) (n : BitField) (r : Result View Fault) → os ≡ ms ++ n ∷ [] → behind_places ms (r >>= λ ns. Ok (n ∷ ns)) ≡ behind_places os r
more_places ms os n (Err e) more = refl
more_places ms os n (Ok ns) more = ap (λ (x : View). let a : Result View Fault = Ok x in a) (sym (append_assoc ms (n ∷ []) ns) ∙ ap (λ x. x ++ ns) (sym more))

pub places_next : (span : Span) (w : ℤ) (all : Result View Fault) (fs : List FieldNumbers) (i : ℕ) (f : FieldNumbers) (ms os : View) (n : BitField) →
    i < length fs → f ≡ get_or fs i f → found_or (placed w (numbered_as f)) T16 span ≡ Ok n → os ≡ ms ++ n ∷ [] →
    all ≡ behind_places ms (all_placed span w (all_numbers (drop i fs))) → all ≡ behind_places os (all_placed span w (all_numbers (drop (i + 1) fs)))
places_next span w all fs i f ms os n within here is more before =
    before
    ∙ ap (λ xs. behind_places ms (all_placed span w (all_numbers xs))) (at_next fs i f within here)
    ∙ ap (λ r. behind_places ms (r >>= λ x. all_placed span w (all_numbers (drop (i + 1) fs)) >>= λ xs. Ok (x ∷ xs))) is
    ∙ more_places ms os n (all_placed span w (all_numbers (drop (i + 1) fs))) more

pub places_stop : (span : Span) (w : ℤ) (all : Result View Fault) (fs : List FieldNumbers) (i : ℕ) (f : FieldNumbers) (ms : View) (e : Fault) →
    i < length fs → f ≡ get_or fs i f → found_or (placed w (numbered_as f)) T16 span ≡ Err e →
    all ≡ behind_places ms (all_placed span w (all_numbers (drop i fs))) → all ≡ Err e
places_stop span w all fs i f ms e within here is before =
    before
    ∙ ap (λ xs. behind_places ms (all_placed span w (all_numbers xs))) (at_next fs i f within here)
    ∙ ap (λ r. behind_places ms (r >>= λ x. all_placed span w (all_numbers (drop (i + 1) fs)) >>= λ xs. Ok (x ∷ xs))) is

pub places_last : (span : Span) (w : ℤ) (all : Result View Fault) (fs : List FieldNumbers) (i : ℕ) (ms : View) → length fs ≤ i →
    all ≡ behind_places ms (all_placed span w (all_numbers (drop i fs))) → all ≡ Ok ms
places_last span w all fs i ms past before =
    before
    ∙ ap (λ xs. behind_places ms (all_placed span w (all_numbers xs))) (drop_all i fs past)
    ∙ ap (λ (x : View). let a : Result View Fault = Ok x in a) (append_none ms)

pub places_first : (r : Result View Fault) → r ≡ behind_places [] r
places_first (Ok ns) = refl
places_first (Err e) = refl

-- ---- bits whose fields were gathered

same_numbers : (fs : List WrittenField) → numbered_from (map ends_seen fs) ≡ all_numbered fs
same_numbers [] = refl
same_numbers (f ∷ fs) = by_high (same_numbers fs) (constant_value f.high.width) (constant_value f.low.width)
  where
    by_high : numbered_from (map ends_seen fs) ≡ all_numbered fs → (h l : Option ℤ) →
        ((found_or h T19 f.high.span >>= λ y. found_or l T19 f.low.span >>= λ z. Ok (record { name = f.name; high = y; low = z })) >>= λ n. numbered_from (map ends_seen fs) >>= λ ns. Ok (n ∷ ns))
        ≡ (found_or h T19 f.high.span >>= λ y. found_or l T19 f.low.span >>= λ z. all_numbered fs >>= λ ns. Ok (record { name = f.name; high = y; low = z } ∷ ns))
    by_high same None l = refl
    by_high same (Some y) None = refl
    by_high same (Some y) (Some z) = ap (λ r. r >>= λ ns. Ok (record { name = f.name; high = y; low = z } ∷ ns)) same

same_view : (span : Span) (w : Polynomial) (fs : List WrittenField) → view_from span (constant_value w) (map ends_seen fs) ≡ view_rule span w fs
same_view span w [] = refl
same_view span w (f ∷ fs) = ap (λ r. r >>= λ ns. placed_all span (constant_value w) ns) (same_numbers (f ∷ fs))

pub bits_gathered : (limit : ℕ) (outside : Bool) (span : Span) (w : Polynomial) (width : Tree) (fs : List WrittenField) →
    bits_from limit outside span w width (fields_seen fs) ≡ bits_written limit outside span w width fs
bits_gathered limit outside span w width fs =
    ap (λ r. r >>= λ view. need (within_limits limit outside w) T20 span >> Ok (written_as (bits_of w view) (shape.bits_of span (field_shapes fs)) (width ∷ field_trees fs))) (same_view span w fs)

-- bits of a width with the bitfields that were gathered
pub bits_by : (t : Tests) (limit : ℕ) (outside : Bool) (span : Span) (e : Found) (w : Width) (fs : List FoundBitfield) (G : Scope) → t.limit ≡ limit → e.width G ≡ Ok w →
    bits_rule t.limit outside span e fs G ≡ ((all_fields fs G >>= λ xs. Ok (fields_seen xs)) >>= λ g. bits_from limit outside span w.poly w.tree g)
bits_by t limit outside span e w fs G same is =
    ap (λ n. bits_rule n outside span e fs G) same
    ∙ ap (λ r. r >>= λ v. all_fields fs G >>= λ xs. bits_written limit outside span v.poly v.tree xs) is
    ∙ by (all_fields fs G)
  where
    by : (r : Fields) → (r >>= λ xs. bits_written limit outside span w.poly w.tree xs) ≡ ((r >>= λ xs. Ok (fields_seen xs)) >>= λ g. bits_from limit outside span w.poly w.tree g)
    by (Ok xs) = sym (bits_gathered limit outside span w.poly w.tree xs)
    by (Err e) = refl
