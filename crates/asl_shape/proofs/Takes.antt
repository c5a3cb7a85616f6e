-- What written types take of the values that are given in order.
use Rattle.std.proofs.Common.{◌≡◌, ℕ, ◌+◌, ◌<◌, ◌≤◌, true, false, List, [], ◌∷◌, ◌++◌, length, get_or, drop, Option, Some, None, refl, sym, ap, ◌∙◌, arith, append_assoc}
use Rattle.std.specs.Prelude.{ℤ, pos, negsuc, option_map, option_and_then, unsigned_abs}
use Rattle.std.specs.Int.Signed.{lt_z}
use Rattle.std.proofs.lemmas.Int.{ints}
use Rattle.asl_syn.specs.declared.token.Span.{Span}
use Rattle.asl_cons.specs.declared.Part.{Part}
use Rattle.asl_rules.specs.types.Shapes as shapes
use Rattle.asl_rules.specs.types.Shapes.{TypeShape}
use Rattle.asl_rules.specs.types.Types.{View}
use Rattle.asl_rules.specs.values.Values as values
use Rattle.asl_rules.specs.values.Values.{int, bool}
use Rattle.asl_value.specs.declared.value.Value.{Value}
use Rattle.asl_value.proofs.Among.{at_front, none_after}
use Rattle.asl_shape.specs.declared.shapes.PartShape.{PartShape}
use Rattle.asl_shape.specs.declared.shapes.BitfieldShape.{BitfieldShape}
use Rattle.asl_shape.specs.declared.shapes.TypeShape as code
use Rattle.asl_shape.specs.declared.filled.Filled as filled
use Rattle.asl_shape.specs.declared.filling.Ends.{Ends}
use Rattle.asl_shape.specs.declared.filling.FilledType.{FilledType}
use Rattle.asl_shape.specs.declared.filling.Places.{Places}
use Rattle.asl_shape.specs.private.Filled.{Fills, no_fill, fill_and, bits_of, array_of}
use Rattle.asl_shape.specs.private.FilledView.{filled_of, all_fills}
use Rattle.asl_shape.specs.private.Filling as rules
use Rattle.asl_shape.specs.private.Filling.{Taken, taken, and_then, made_as, next_integer, next_natural, next_part, part_from, field_from, next_bitfield, filling, all_fillings}
use Rattle.asl_shape.specs.private.FillingView.{part_taken, name_in, field_taken, type_taken}
use Rattle.asl_shape.specs.private.Matched.{values_from, integer_in_front, natural, natural_in_front}
use Rattle.asl_shape.specs.View.{part_of, all_parts, bitfield_of, all_bitfields, type_of, all_types}
use Rattle.asl_shape.proofs.Patterns.{tail, tail_from}

-- ---- the value in front

in_front : (zs : List values.Value) → next_integer zs ≡ option_map (λ z. record { made = z; left = tail zs }) (integer_in_front zs)
in_front [] = refl
in_front (int z ∷ zs) = refl
in_front (bool b ∷ zs) = refl
in_front (values.bits_with bs u ∷ zs) = refl
in_front (values.label n l ∷ zs) = refl
in_front (values.record_with n fs ∷ zs) = refl
in_front (values.exception_with o s n fs ∷ zs) = refl
in_front (values.tuple_with ys ∷ zs) = refl
in_front (values.array_with k ys ∷ zs) = refl

integer_next : (xs : List Value) (i : ℕ) → next_integer (values_from xs i) ≡ option_map (λ z. record { made = z; left = values_from xs (i + 1) }) (integer_in_front (values_from xs i))
integer_next xs i = in_front (values_from xs i) ∙ ap (λ l. option_map (λ (z : ℤ). record { made = z; left = l }) (integer_in_front (values_from xs i))) (tail_from xs i)

integer_some : (xs : List Value) (i : ℕ) (z : ℤ) → Some z ≡ integer_in_front (values_from xs i) → next_integer (values_from xs i) ≡ taken z (values_from xs (i + 1))
integer_some xs i z h = integer_next xs i ∙ ap (option_map (λ (y : ℤ). record { made = y; left = values_from xs (i + 1) })) (sym h)

integer_no : (xs : List Value) (i : ℕ) → None ≡ integer_in_front (values_from xs i) → next_integer (values_from xs i) ≡ None
integer_no xs i h = integer_next xs i ∙ ap (option_map (λ (y : ℤ). record { made = y; left = values_from xs (i + 1) })) (sym h)

pub natural_is : (z : ℤ) → lt_z z (pos 0) ≡ false → Some (unsigned_abs z) ≡ natural z
natural_is (pos n) h = refl
natural_is (negsuc n) h = cc

pub natural_not : (z : ℤ) → lt_z z (pos 0) ≡ true → None ≡ natural z
natural_not (pos n) h = absurd (none_below n h)
  where
    none_below : (n : ℕ) → lt_z (pos n) (pos 0) ≡ true → ⊥
    none_below n e = grind (arith, ints)
natural_not (negsuc n) h = refl

number_from : (o : Option ℤ) (zs : List values.Value) → option_and_then (λ (t : Taken ℤ). rules.as_natural t.made t.left) (option_map (λ z. record { made = z; left = zs }) o) ≡ option_map (λ n. record { made = n; left = zs }) (option_and_then natural o)
number_from None zs = refl
number_from (Some (pos n)) zs = refl
number_from (Some (negsuc n)) zs = refl

natural_next : (xs : List Value) (i : ℕ) → next_natural (values_from xs i) ≡ option_map (λ n. record { made = n; left = values_from xs (i + 1) }) (natural_in_front (values_from xs i))
natural_next xs i = ap (option_and_then (λ (t : Taken ℤ). rules.as_natural t.made t.left)) (integer_next xs i) ∙ number_from (integer_in_front (values_from xs i)) (values_from xs (i + 1))

natural_some : (xs : List Value) (i n : ℕ) → Some n ≡ natural_in_front (values_from xs i) → next_natural (values_from xs i) ≡ taken n (values_from xs (i + 1))
natural_some xs i n h = natural_next xs i ∙ ap (option_map (λ (y : ℕ). record { made = y; left = values_from xs (i + 1) })) (sym h)

natural_no : (xs : List Value) (i : ℕ) → None ≡ natural_in_front (values_from xs i) → next_natural (values_from xs i) ≡ None
natural_no xs i h = natural_next xs i ∙ ap (option_map (λ (y : ℕ). record { made = y; left = values_from xs (i + 1) })) (sym h)

two_on : (xs : List Value) (i : ℕ) → values_from xs (i + 1 + 1) ≡ values_from xs (i + 2)
two_on xs i = let e : i + 1 + 1 ≡ i + 2 = omega arith in ap (values_from xs) e

-- ---- parts and bitfields

pub one_end : (xs : List Value) (i : ℕ) (a : ℤ) → Some a ≡ integer_in_front (values_from xs i) → next_part shapes.only (values_from xs i) ≡ taken (part_from a a) (values_from xs (i + 1))
one_end xs i a h = ap (made_as (λ y. part_from y y)) (integer_some xs i a h)

pub no_end : (xs : List Value) (i : ℕ) (s : shapes.PartShape) → None ≡ integer_in_front (values_from xs i) → next_part s (values_from xs i) ≡ None
no_end xs i shapes.only h = ap (made_as (λ y. part_from y y)) (integer_no xs i h)
no_end xs i shapes.from_to h = ap (λ o. and_then part_from o next_integer) (integer_no xs i h)

pub both_ends : (xs : List Value) (i : ℕ) (a b : ℤ) → Some a ≡ integer_in_front (values_from xs i) → Some b ≡ integer_in_front (values_from xs (i + 1)) → next_part shapes.from_to (values_from xs i) ≡ taken (part_from a b) (values_from xs (i + 2))
both_ends xs i a b h k =
    ap (λ o. and_then part_from o next_integer) (integer_some xs i a h) ∙ ap (option_map (λ (r : Taken ℤ). record { made = part_from a r.made; left = r.left })) (integer_some xs (i + 1) b k) ∙
    ap (taken (part_from a b)) (two_on xs i)

pub no_high : (xs : List Value) (i : ℕ) (a : ℤ) → Some a ≡ integer_in_front (values_from xs i) → None ≡ integer_in_front (values_from xs (i + 1)) → next_part shapes.from_to (values_from xs i) ≡ None
no_high xs i a h k = ap (λ o. and_then part_from o next_integer) (integer_some xs i a h) ∙ ap (option_map (λ (r : Taken ℤ). record { made = part_from a r.made; left = r.left })) (integer_no xs (i + 1) k)

pub one_place : (xs : List Value) (i n : ℕ) (name : List ℕ) → Some n ≡ natural_in_front (values_from xs i) → next_bitfield (shapes.one_place name) (values_from xs i) ≡ taken (field_from name n n) (values_from xs (i + 1))
one_place xs i n name h = ap (made_as (λ y. field_from name y y)) (natural_some xs i n h)

pub no_place : (xs : List Value) (i : ℕ) (s : shapes.BitfieldShape) → None ≡ natural_in_front (values_from xs i) → next_bitfield s (values_from xs i) ≡ None
no_place xs i (shapes.one_place name) h = ap (made_as (λ y. field_from name y y)) (natural_no xs i h)
no_place xs i (shapes.many_places name) h = ap (λ o. and_then (field_from name) o next_natural) (natural_no xs i h)

pub both_places : (xs : List Value) (i h l : ℕ) (name : List ℕ) → Some h ≡ natural_in_front (values_from xs i) → Some l ≡ natural_in_front (values_from xs (i + 1)) → next_bitfield (shapes.many_places name) (values_from xs i) ≡ taken (field_from name h l) (values_from xs (i + 2))
both_places xs i h l name p q =
    ap (λ o. and_then (field_from name) o next_natural) (natural_some xs i h p) ∙ ap (option_map (λ (r : Taken ℕ). record { made = field_from name h r.made; left = r.left })) (natural_some xs (i + 1) l q) ∙
    ap (taken (field_from name h l)) (two_on xs i)

pub no_low : (xs : List Value) (i h : ℕ) (name : List ℕ) → Some h ≡ natural_in_front (values_from xs i) → None ≡ natural_in_front (values_from xs (i + 1)) → next_bitfield (shapes.many_places name) (values_from xs i) ≡ None
no_low xs i h name p q = ap (λ o. and_then (field_from name) o next_natural) (natural_some xs i h p) ∙ ap (option_map (λ (r : Taken ℕ). record { made = field_from name h r.made; left = r.left })) (natural_no xs (i + 1) q)

-- ---- several, one behind another

abbrev pub behind : {A : Type 0} → List A → Option (Taken (List A)) → Option (Taken (List A))
behind made o = option_map (λ (r : Taken _). record { made = made ++ r.made; left = r.left }) o

begins : {A : Type 0} (o : Option (Taken (List A))) → o ≡ behind [] o
begins None = refl
begins (Some r) = refl

grows : {A : Type 0} (made : List A) (x : A) (o : Option (Taken (List A))) → behind made (option_map (λ (r : Taken (List A)). record { made = x ∷ r.made; left = r.left }) o) ≡ behind (made ++ x ∷ []) o
grows made x None = refl
grows made x (Some r) = ap (λ l. Some (record { made = l; left = r.left })) (sym (append_assoc made (x ∷ []) r.made))

no_more : {A : Type 0} (xs : List A) → xs ++ [] ≡ xs
no_more [] = refl
no_more (x ∷ xs) = ap (λ l. x ∷ l) (no_more xs)

pub parts_begin : (o : Option (Taken (List Part))) → o ≡ behind [] o
parts_begin o = begins o

pub part_more : (ss : List PartShape) (i : ℕ) (s : PartShape) (xs : List Value) (n : ℕ) (e : Ends) (made after : List Part) (all : Option (Taken (List Part))) → i < length ss → s ≡ get_or ss i s → Some (part_taken xs e) ≡ next_part (part_of s) (values_from xs n) → after ≡ made ++ part_from e.low e.high ∷ []
    → all ≡ behind made (rules.all_parts (all_parts (drop i ss)) (values_from xs n)) → all ≡ behind after (rules.all_parts (all_parts (drop (i + 1) ss)) (values_from xs e.next))
part_more ss i s xs n e made after all within here this grown old =
    old ∙ ap (λ l. behind made (rules.all_parts (all_parts l) (values_from xs n))) (at_front ss i s within here) ∙
    ap (λ o. behind made (and_then (λ q qs. q ∷ qs) o (rules.all_parts (all_parts (drop (i + 1) ss))))) (sym this) ∙
    grows made (part_from e.low e.high) (rules.all_parts (all_parts (drop (i + 1) ss)) (values_from xs e.next)) ∙ ap (λ l. behind l (rules.all_parts (all_parts (drop (i + 1) ss)) (values_from xs e.next))) (sym grown)

pub part_none : (ss : List PartShape) (i : ℕ) (s : PartShape) (xs : List Value) (n : ℕ) (made : List Part) (all : Option (Taken (List Part))) → i < length ss → s ≡ get_or ss i s → None ≡ next_part (part_of s) (values_from xs n)
    → all ≡ behind made (rules.all_parts (all_parts (drop i ss)) (values_from xs n)) → None ≡ all
part_none ss i s xs n made all within here this old =
    sym (old ∙ ap (λ l. behind made (rules.all_parts (all_parts l) (values_from xs n))) (at_front ss i s within here) ∙ ap (λ o. behind made (and_then (λ q qs. q ∷ qs) o (rules.all_parts (all_parts (drop (i + 1) ss))))) (sym this))

pub parts_end : (ss : List PartShape) (i : ℕ) (xs : List Value) (n : ℕ) (made : List Part) (all : Option (Taken (List Part))) → length ss ≤ i → all ≡ behind made (rules.all_parts (all_parts (drop i ss)) (values_from xs n)) → taken made (values_from xs n) ≡ all
parts_end ss i xs n made all past old = sym (old ∙ ap (λ l. behind made (rules.all_parts (all_parts l) (values_from xs n))) (none_after ss i past) ∙ ap (λ l. taken l (values_from xs n)) (no_more made))

pub fields_begin : (o : Option (Taken View)) → o ≡ behind [] o
fields_begin o = begins o

pub field_more : (ss : List BitfieldShape) (i : ℕ) (s : BitfieldShape) (xs : List Value) (n : ℕ) (e : Places) (made after : View) (all : Option (Taken View)) → i < length ss → s ≡ get_or ss i s → Some (field_taken xs s e) ≡ next_bitfield (bitfield_of s) (values_from xs n)
    → after ≡ made ++ field_from (name_in s) e.high e.low ∷ [] → all ≡ behind made (rules.all_fields (all_bitfields (drop i ss)) (values_from xs n)) → all ≡ behind after (rules.all_fields (all_bitfields (drop (i + 1) ss)) (values_from xs e.next))
field_more ss i s xs n e made after all within here this grown old =
    old ∙ ap (λ l. behind made (rules.all_fields (all_bitfields l) (values_from xs n))) (at_front ss i s within here) ∙
    ap (λ o. behind made (and_then (λ q qs. q ∷ qs) o (rules.all_fields (all_bitfields (drop (i + 1) ss))))) (sym this) ∙
    grows made (field_from (name_in s) e.high e.low) (rules.all_fields (all_bitfields (drop (i + 1) ss)) (values_from xs e.next)) ∙ ap (λ l. behind l (rules.all_fields (all_bitfields (drop (i + 1) ss)) (values_from xs e.next))) (sym grown)

pub field_none : (ss : List BitfieldShape) (i : ℕ) (s : BitfieldShape) (xs : List Value) (n : ℕ) (made : View) (all : Option (Taken View)) → i < length ss → s ≡ get_or ss i s → None ≡ next_bitfield (bitfield_of s) (values_from xs n)
    → all ≡ behind made (rules.all_fields (all_bitfields (drop i ss)) (values_from xs n)) → None ≡ all
field_none ss i s xs n made all within here this old =
    sym (old ∙ ap (λ l. behind made (rules.all_fields (all_bitfields l) (values_from xs n))) (at_front ss i s within here) ∙ ap (λ o. behind made (and_then (λ q qs. q ∷ qs) o (rules.all_fields (all_bitfields (drop (i + 1) ss))))) (sym this))

pub fields_end : (ss : List BitfieldShape) (i : ℕ) (xs : List Value) (n : ℕ) (made : View) (all : Option (Taken View)) → length ss ≤ i → all ≡ behind made (rules.all_fields (all_bitfields (drop i ss)) (values_from xs n)) → taken made (values_from xs n) ≡ all
fields_end ss i xs n made all past old = sym (old ∙ ap (λ l. behind made (rules.all_fields (all_bitfields l) (values_from xs n))) (none_after ss i past) ∙ ap (λ l. taken l (values_from xs n)) (no_more made))

-- ---- types

pub width_there : (xs : List Value) (i : ℕ) (w : ℤ) (span : Span) (fs : List shapes.BitfieldShape) → Some w ≡ integer_in_front (values_from xs i) → filling (shapes.bits_of span fs) (values_from xs i) ≡ made_as (bits_of span w) (rules.all_fields fs (values_from xs (i + 1)))
width_there xs i w span fs h = ap (λ o. and_then (bits_of span) o (rules.all_fields fs)) (integer_some xs i w h)

pub width_none : (xs : List Value) (i : ℕ) (span : Span) (fs : List shapes.BitfieldShape) → None ≡ integer_in_front (values_from xs i) → filling (shapes.bits_of span fs) (values_from xs i) ≡ None
width_none xs i span fs h = ap (λ o. and_then (bits_of span) o (rules.all_fields fs)) (integer_no xs i h)

pub length_there : (xs : List Value) (i n : ℕ) (t : TypeShape) → Some n ≡ natural_in_front (values_from xs i) → filling (shapes.array_of t) (values_from xs i) ≡ made_as (array_of n) (filling t (values_from xs (i + 1)))
length_there xs i n t h = ap (λ o. and_then array_of o (filling t)) (natural_some xs i n h)

pub length_none : (xs : List Value) (i : ℕ) (t : TypeShape) → None ≡ natural_in_front (values_from xs i) → filling (shapes.array_of t) (values_from xs i) ≡ None
length_none xs i t h = ap (λ o. and_then array_of o (filling t)) (natural_no xs i h)

-- the parts of a tuple in front of others
abbrev pub before : List filled.Filled → Fills → Fills
before [] us = us
before (t ∷ ts) us = fill_and (filled_of t) (before ts us)

abbrev pub types_behind : List filled.Filled → Option (Taken Fills) → Option (Taken Fills)
types_behind made o = option_map (λ (r : Taken Fills). record { made = before made r.made; left = r.left }) o

pub types_begin : (o : Option (Taken Fills)) → o ≡ types_behind [] o
types_begin None = refl
types_begin (Some r) = refl

before_more : (made : List filled.Filled) (t : filled.Filled) (us : Fills) → before made (fill_and (filled_of t) us) ≡ before (made ++ t ∷ []) us
before_more [] t us = refl
before_more (u ∷ made) t us = ap (fill_and (filled_of u)) (before_more made t us)

before_end : (made : List filled.Filled) → before made no_fill ≡ all_fills made
before_end [] = refl
before_end (t ∷ made) = ap (fill_and (filled_of t)) (before_end made)

type_grows : (made : List filled.Filled) (t : filled.Filled) (o : Option (Taken Fills)) → types_behind made (option_map (λ (r : Taken Fills). record { made = fill_and (filled_of t) r.made; left = r.left }) o) ≡ types_behind (made ++ t ∷ []) o
type_grows made t None = refl
type_grows made t (Some r) = ap (λ l. Some (record { made = l; left = r.left })) (before_more made t r.made)

pub type_more : (ss : List code.TypeShape) (i : ℕ) (s : code.TypeShape) (xs : List Value) (n : ℕ) (t : FilledType) (made after : List filled.Filled) (all : Option (Taken Fills)) → i < length ss → s ≡ get_or ss i s
    → Some (type_taken xs t) ≡ filling (type_of s) (values_from xs n) → after ≡ made ++ t.ty ∷ []
    → all ≡ types_behind made (all_fillings (all_types (drop i ss)) (values_from xs n)) → all ≡ types_behind after (all_fillings (all_types (drop (i + 1) ss)) (values_from xs t.next))
type_more ss i s xs n t made after all within here this grown old =
    old ∙ ap (λ l. types_behind made (all_fillings (all_types l) (values_from xs n))) (at_front ss i s within here) ∙
    ap (λ o. types_behind made (and_then fill_and o (all_fillings (all_types (drop (i + 1) ss))))) (sym this) ∙
    type_grows made t.ty (all_fillings (all_types (drop (i + 1) ss)) (values_from xs t.next)) ∙ ap (λ l. types_behind l (all_fillings (all_types (drop (i + 1) ss)) (values_from xs t.next))) (sym grown)

pub type_none : (ss : List code.TypeShape) (i : ℕ) (s : code.TypeShape) (xs : List Value) (n : ℕ) (made : List filled.Filled) (all : Option (Taken Fills)) → i < length ss → s ≡ get_or ss i s → None ≡ filling (type_of s) (values_from xs n)
    → all ≡ types_behind made (all_fillings (all_types (drop i ss)) (values_from xs n)) → None ≡ all
type_none ss i s xs n made all within here this old =
    sym (old ∙ ap (λ l. types_behind made (all_fillings (all_types l) (values_from xs n))) (at_front ss i s within here) ∙ ap (λ o. types_behind made (and_then fill_and o (all_fillings (all_types (drop (i + 1) ss))))) (sym this))

pub types_end : (ss : List code.TypeShape) (i : ℕ) (xs : List Value) (n : ℕ) (made : List filled.Filled) (all : Option (Taken Fills)) → length ss ≤ i → all ≡ types_behind made (all_fillings (all_types (drop i ss)) (values_from xs n))
    → Some (record { made = all_fills made; left = values_from xs n }) ≡ all
types_end ss i xs n made all past old = sym (old ∙ ap (λ l. types_behind made (all_fillings (all_types l) (values_from xs n))) (none_after ss i past) ∙ ap (λ l. taken l (values_from xs n)) (before_end made))
