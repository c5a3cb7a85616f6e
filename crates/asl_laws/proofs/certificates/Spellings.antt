-- What is recognised as a line is put together as the grammar of lines says.
use Rattle.std.proofs.Common.{◌≡◌, ◌⊎◌, inl, inr, ℕ, zero, suc, ◌+◌, ◌-◌, ◌==◌, ◌≤◌, Bool, true, false, ◌&&◌, ◌||◌, not, List, [], ◌∷◌}
use Rattle.std.proofs.Common.{◌++◌, length, take, drop, reverse, refl, sym, ap, ◌∙◌, subst, append_assoc, arith}
use Rattle.std.specs.Prelude.{if◌then◌else◌, codes, nat_le}
use Rattle.std.specs.Str.{bytes_eq}
use Rattle.std.specs.List.{list_all, slice_split, join_with_byte}
use Rattle.std.proofs.lemmas.Slice.Eq.{bytes_eq-Decides}
use Rattle.std.proofs.lemmas.List.{take-append-drop, drop-append-le, length-append, length-drop, reverse-append, reverse-reverse}
use Rattle.std.proofs.Math.Seq.{take-append_seam}
use Rattle.std.proofs.lemmas.Bool.Decides.{nat_tests}
use Rattle.std.proofs.lemmas.List.Splits.{join_with_byte-slice_split}
use Rattle.asl_rules.specs.report.Texts.{Text}
use Rattle.asl_rules.proofs.basics.Tests.{both}
use Rattle.asl_laws.specs.certificates.Texts.{with_commas, first_line}
use Rattle.asl_laws.specs.certificates.Format.{begins, closes, inside, framed, byte_first, level, outer_parts, is_number, is_name, is_width}
use Rattle.asl_laws.specs.certificates.Format.{ends_of, are_ends, is_range, is_colon, is_bracket, are_numbers, is_bitfield_of, is_bitfield}
use Rattle.asl_laws.specs.certificates.Format.{all_parts, before_close, is_view, is_bits, before_bracket, is_type, is_space, is_plus}
use Rattle.asl_laws.specs.certificates.Format.{is_length_of, is_span_of, is_span, is_effect, is_ending, is_call, is_line_of, is_line}
use Rattle.asl_laws.specs.certificates.Spellings.{IsNumber, IsWidth, Each, OneOrMore, Range, Integers, BitfieldSpelled, View, Bits, Tuple}
use Rattle.asl_laws.specs.certificates.Spellings.{Array, TypeSpelled, SpanSpelled, EffectSpelled, MaybeCall, NodeLine, EndingSpelled}
use Rattle.asl_laws.specs.certificates.Spellings.{LineSpelled}
use Rattle.asl_laws.proofs.certificates.Lines.{same_nat}

-- ---- tests

same_text : (s t : Text) → bytes_eq s t ≡ true → s ≡ t
same_text s t h = (bytes_eq-Decides s t).0 h

true_not_false : true ≡ false → ⊥
true_not_false h = cc

pub either_is : {C : Type 0} (a b : Bool) → (a || b) ≡ true → (a ≡ true → C) → (b ≡ true → C) → C
either_is true b h f g = f refl
either_is false b h f g = g h

not_is : (a : Bool) → not a ≡ true → a ≡ true → ⊥
not_is true h k = true_not_false (sym h)
not_is false h k = true_not_false (sym k)

differ_by : (s t : Text) → not (bytes_eq s t) ≡ true → s ≡ t → ⊥
differ_by s t h e = not_is (bytes_eq s t) h ((bytes_eq-Decides s t).1 e)

each_of : (p : Text → Bool) (P : Text → Type 0) → ((t : Text) → p t ≡ true → P t) → (ts : List Text) → list_all p ts ≡ true → Each P ts
each_of p P f [] h = tt
each_of p P f (t ∷ ts) h = let k = both (p t) (list_all p ts) h in (f t k.0, each_of p P f ts k.1)

some_of : (p : Text → Bool) (P : Text → Type 0) → ((t : Text) → p t ≡ true → P t) → (ts : List Text) → (ts ≡ [] → ⊥) →
    list_all p ts ≡ true → OneOrMore P ts
some_of p P f [] n h = absurd (n refl)
some_of p P f (t ∷ ts) n h = each_of p P f (t ∷ ts) h

-- ---- parts of texts

pub begins_is : (front t : Text) → begins front t ≡ true → t ≡ front ++ drop (length front) t
begins_is front t h =
    let e : front ≡ take (length front) t = same_text front (take (length front) t) h in
    sym (take-append-drop (length front) t) ∙ ap (λ z. z ++ drop (length front) t) (sym e)

byte_first_commas : (b : ℕ) (ts : List Text) → with_commas (byte_first b ts) ≡ b ∷ with_commas ts
byte_first_commas b [] = refl
byte_first_commas b (t ∷ []) = refl
byte_first_commas b (t ∷ u ∷ ts) = refl

comma_first : (ts : List Text) → (ts ≡ [] → ⊥) → with_commas ([] ∷ ts) ≡ 44 ∷ with_commas ts
comma_first [] n = absurd (n refl)
comma_first (t ∷ ts) n = refl

pub cons_isnt : {X : Type 0} (x : X) (xs : List X) → x ∷ xs ≡ [] → ⊥
cons_isnt x xs h = cc

outer_some : (n : ℕ) (t : Text) → outer_parts n t ≡ [] → ⊥
outer_some n [] h = cons_isnt [] [] h
outer_some n (b ∷ t) h = by ((b == 44) && (n == 0)) h
  where
    byte_first_isnt : (b : ℕ) (ts : List Text) → byte_first b ts ≡ [] → ⊥
    byte_first_isnt b [] h = cons_isnt (b ∷ []) [] h
    byte_first_isnt b (t ∷ ts) h = cons_isnt (b ∷ t) ts h

    by : (x : Bool) → (if x then [] ∷ outer_parts n t else byte_first b (outer_parts (level n b) t)) ≡ [] → ⊥
    by true h = cons_isnt [] (outer_parts n t) h
    by false h = byte_first_isnt b (outer_parts (level n b) t) h

-- the parts with commas between are the text
outer_joined : (n : ℕ) (t : Text) → with_commas (outer_parts n t) ≡ t
outer_joined n [] = refl
outer_joined n (b ∷ t) = by ((b == 44) && (n == 0)) refl (outer_joined n t) (outer_joined (level n b) t)
  where
    by : (x : Bool) → ((b == 44) && (n == 0)) ≡ x → with_commas (outer_parts n t) ≡ t → with_commas (outer_parts (level n b) t) ≡ t →
        with_commas (if x then [] ∷ outer_parts n t else byte_first b (outer_parts (level n b) t)) ≡ b ∷ t
    by true e p q =
        let k = both (b == 44) (n == 0) e in
        comma_first (outer_parts n t) (outer_some n t) ∙ (ap (λ z. 44 ∷ z) p ∙ ap (λ z. z ∷ t) (sym (same_nat b 44 k.0)))
    by false e p q = byte_first_commas b (outer_parts (level n b) t) ∙ ap (λ z. b ∷ z) q

nat_le_is : (m n : ℕ) → nat_le m n ≡ true → m ≤ n
nat_le_is m n h = grind (arith, nat_tests)

-- what stands between a front and an end
framed_is : (front end t : Text) → framed front end t ≡ true → t ≡ front ++ (inside front end t ++ end)
framed_is front end t h =
    let a = both (begins front t) (closes end t && nat_le (length front) (length t - length end)) h in
    let b = both (closes end t) (nat_le (length front) (length t - length end)) a.1 in
    let d = drop (length front) t in
    let t_is : t ≡ front ++ d = begins_is front t a.0 in
    let r = drop (length (reverse end)) (reverse t) in
    let back : reverse t ≡ reverse end ++ r = begins_is (reverse end) (reverse t) b.0 in
    let t_ends : t ≡ reverse r ++ end = sym (reverse-reverse t)
    ∙ (ap reverse back ∙ (reverse-append (reverse end) r ∙ ap (λ z. reverse r ++ z) (reverse-reverse end))) in
    let le : length front ≤ length t - length end = nat_le_is (length front) (length t - length end) b.1 in
    let n1 : length t ≡ length (reverse r) + length end = ap length t_ends ∙ length-append (reverse r) end in
    let le2 : length front ≤ length (reverse r) = omega arith in
    let d_is : d ≡ drop (length front) (reverse r) ++ end =
    ap (drop (length front)) t_ends ∙ drop-append-le (length front) (reverse r) end le2 in
    let m = drop (length front) (reverse r) in
    let n2 : length m ≡ length (reverse r) - length front = length-drop (length front) (reverse r) in
    let n3 : length t - length front - length end ≡ length m = omega arith in
    let in_is : inside front end t ≡ m = ap (λ k. take k d) n3 ∙ (ap (take (length m)) d_is ∙ take-append_seam m end) in
    t_is ∙ ap (λ z. front ++ z) (d_is ∙ ap (λ z. z ++ end) (sym in_is))

-- ---- ranges

dots_joined : List Text → Text
dots_joined [] = []
dots_joined (t ∷ []) = t
dots_joined (t ∷ u ∷ ts) = t ++ (codes ".." ++ dots_joined (u ∷ ts))

byte_first_dots : (b : ℕ) (ts : List Text) → dots_joined (byte_first b ts) ≡ b ∷ dots_joined ts
unfolding dots_joined
byte_first_dots b [] = refl
byte_first_dots b (t ∷ []) = refl
byte_first_dots b (t ∷ u ∷ ts) = refl

dots_first : (ts : List Text) → (ts ≡ [] → ⊥) → dots_joined ([] ∷ ts) ≡ codes ".." ++ dots_joined ts
unfolding dots_joined
dots_first [] n = absurd (n refl)
dots_first (t ∷ ts) n = refl

byte_first_some : (b : ℕ) (ts : List Text) → byte_first b ts ≡ [] → ⊥
byte_first_some b [] h = cons_isnt (b ∷ []) [] h
byte_first_some b (t ∷ ts) h = cons_isnt (b ∷ t) ts h

ends_some : (t : Text) → ends_of t ≡ [] → ⊥
ends_some [] h = cons_isnt [] [] h
ends_some (a ∷ []) h = cons_isnt (a ∷ []) [] h
ends_some (a ∷ b ∷ bs) h = by ((a == 46) && (b == 46)) h
  where
    by : (x : Bool) → (if x then [] ∷ ends_of bs else byte_first a (ends_of (b ∷ bs))) ≡ [] → ⊥
    by true h = cons_isnt [] (ends_of bs) h
    by false h = byte_first_some a (ends_of (b ∷ bs)) h

ends_joined : (t : Text) → dots_joined (ends_of t) ≡ t
unfolding dots_joined
ends_joined [] = refl
ends_joined (a ∷ []) = refl
ends_joined (a ∷ b ∷ bs) = by ((a == 46) && (b == 46)) refl (ends_joined bs) (ends_joined (b ∷ bs))
  where
    by : (x : Bool) → ((a == 46) && (b == 46)) ≡ x → dots_joined (ends_of bs) ≡ bs → dots_joined (ends_of (b ∷ bs)) ≡ b ∷ bs →
        dots_joined (if x then [] ∷ ends_of bs else byte_first a (ends_of (b ∷ bs))) ≡ a ∷ b ∷ bs
    by true e p q =
        let k = both (a == 46) (b == 46) e in
        dots_first (ends_of bs) (ends_some bs)
        ∙ (ap (λ z. 46 ∷ 46 ∷ z) p ∙ (ap (λ z. z ∷ 46 ∷ bs) (sym (same_nat a 46 k.0)) ∙ ap (λ z. a ∷ z ∷ bs) (sym (same_nat b 46 k.1))))
    by false e p q = byte_first_dots a (ends_of (b ∷ bs)) ∙ ap (λ z. a ∷ z) q

pub no_way : {A : Type 0} → false ≡ true → A
no_way h = absurd (true_not_false (sym h))

range_by : (t : Text) (es : List Text) → dots_joined es ≡ t → are_ends es ≡ true → Range t
unfolding dots_joined
range_by t [] e h = no_way h
range_by t (low ∷ []) e h = inl (subst IsWidth e h)
range_by t (low ∷ high ∷ []) e h =
    let a = both (is_width low) (is_width high && not (bytes_eq low high)) h in
    let b = both (is_width high) (not (bytes_eq low high)) a.1 in
    inr (record { low = low; high = high; is = sym e; low_is = a.0; high_is = b.0; differ = differ_by low high b.1 })
range_by t (low ∷ high ∷ more ∷ rest) e h = no_way h

range_spelled : (t : Text) → is_range t ≡ true → Range t
range_spelled t h = range_by t (ends_of t) (ends_joined t) h

-- ---- texts that are split at a byte

pub rejoined : (c : ℕ) (t : Text) → join_with_byte c (slice_split (λ b. b == c) t) ≡ t
rejoined c t = join_with_byte-slice_split c t

-- ---- bits

record Numbers (t : Text) : Type 0 where
  high : Text
  low : Text
  is : t ≡ high ++ (codes ":" ++ low)
  high_is : IsNumber high
  low_is : IsNumber low

numbers_by : (t : Text) (ps : List Text) → join_with_byte 58 ps ≡ t → are_numbers ps ≡ true → Numbers t
numbers_by t [] e h = no_way h
numbers_by t (a ∷ []) e h = no_way h
numbers_by t (a ∷ b ∷ []) e h = let k = both (is_number a) (is_number b) h in
    record { high = a; low = b; is = sym e; high_is = k.0; low_is = k.1 }
numbers_by t (a ∷ b ∷ c ∷ ps) e h = no_way h

bitfield_by : (t : Text) (ps : List Text) → join_with_byte 93 ps ≡ t → is_bitfield_of ps ≡ true → BitfieldSpelled t
bitfield_by t [] e h = no_way h
bitfield_by t (a ∷ []) e h = no_way h
bitfield_by t (places ∷ n ∷ []) e h =
    let a = both (begins (codes "[") places) (are_numbers (slice_split is_colon (drop 1 places)) && is_name n) h in
    let b = both (are_numbers (slice_split is_colon (drop 1 places))) (is_name n) a.1 in
    let k = numbers_by (drop 1 places) (slice_split is_colon (drop 1 places)) (rejoined 58 (drop 1 places)) b.0 in
    let p : places ≡ codes "[" ++ drop 1 places = begins_is (codes "[") places a.0 in
    record {
      high = k.high;
      low = k.low;
      name = n;
      is = sym e ∙ (ap (λ z. z ++ (codes "]" ++ n))
          (p ∙ ap (λ z. codes "[" ++ z) k.is) ∙ ap (λ z. codes "[" ++ z) (append_assoc k.high (codes ":" ++ k.low) (codes "]" ++ n)));
      high_is = k.high_is;
      low_is = k.low_is;
      name_is = b.1;
    }
bitfield_by t (a ∷ b ∷ c ∷ ps) e h = no_way h

bitfield_spelled : (t : Text) → is_bitfield t ≡ true → BitfieldSpelled t
bitfield_spelled t h = bitfield_by t (slice_split is_bracket t) (rejoined 93 t) h

view_spelled : (t : Text) → is_view t ≡ true → (t ≡ []) ⊎ View t
view_spelled [] h = inl refl
view_spelled (b ∷ bs) h =
    let t = b ∷ bs in
    let x = inside (codes "{") (codes "}") t in
    let a = both (framed (codes "{") (codes "}") t) (list_all is_bitfield (outer_parts 0 x)) h in
    inr (record {
      fields = outer_parts 0 x;
      is = framed_is (codes "{") (codes "}") t a.0 ∙ ap (λ z. codes "{" ++ (z ++ codes "}")) (sym (outer_joined 0 x));
      fields_are = some_of is_bitfield BitfieldSpelled bitfield_spelled (outer_parts 0 x) (outer_some 0 x) a.1;
    })

-- a text up to a byte, and what stands behind
cut_at : (w close t : Text) → length close ≡ 1 → begins (w ++ close) t ≡ true → t ≡ w ++ (close ++ drop (suc (length w)) t)
cut_at w close t l h =
    let n : length (w ++ close) ≡ suc (length w) = length-append w close ∙ (ap (λ z. length w + z) l ∙ omega arith) in
    begins_is (w ++ close) t h ∙ (ap (λ k. (w ++ close) ++ drop k t) n ∙ append_assoc w close (drop (suc (length w)) t))

bits_spelled : (t : Text) → begins (codes "bits(") t ≡ true → is_bits (drop 5 t) ≡ true → Bits t
bits_spelled t h k =
    let d = drop 5 t in
    let w = before_close 0 d in
    let a = both (is_width w) (begins (w ++ codes ")") d && is_view (drop (suc (length w)) d)) k in
    let b = both (begins (w ++ codes ")") d) (is_view (drop (suc (length w)) d)) a.1 in
    record {
      width = w;
      view = drop (suc (length w)) d;
      is = begins_is (codes "bits(") t h ∙ ap (λ z. codes "bits(" ++ z) (cut_at w (codes ")") d refl b.0);
      width_is = a.0;
      view_is = view_spelled (drop (suc (length w)) d) b.1;
    }

-- ---- types

integers_spelled : (t : Text) → (framed (codes "integer{") (codes "}") t && list_all is_range
    (outer_parts 0 (inside (codes "integer{") (codes "}") t))) ≡ true → Integers t
integers_spelled t h =
    let x = inside (codes "integer{") (codes "}") t in
    let a = both (framed (codes "integer{") (codes "}") t) (list_all is_range (outer_parts 0 x)) h in
    record {
      ranges = outer_parts 0 x;
      is = framed_is (codes "integer{") (codes "}") t a.0 ∙ ap (λ z. codes "integer{" ++ (z ++ codes "}")) (sym (outer_joined 0 x));
      ranges_are = some_of is_range Range range_spelled (outer_parts 0 x) (outer_some 0 x) a.1;
    }

tuple_by : (p : Text → Bool) (P : Text → Type 0) → ((t : Text) → p t ≡ true → P t) → (t : Text) (ts : List Text) →
    t ≡ codes "(" ++ (with_commas ts ++ codes ")") → all_parts p ts ≡ true → Tuple P t
tuple_by p P f t [] e h = no_way h
tuple_by p P f t (a ∷ []) e h = no_way h
tuple_by p P f t (a ∷ b ∷ ts) e h = record { first = a; second = b; more = ts; is = e; are = each_of p P f (a ∷ b ∷ ts) h }

tuple_spelled : (p : Text → Bool) (P : Text → Type 0) → ((t : Text) → p t ≡ true → P t) → (t : Text) →
    (framed (codes "(") (codes ")") t && all_parts p (outer_parts 0 (inside (codes "(") (codes ")") t))) ≡ true → Tuple P t
tuple_spelled p P f t h =
    let x = inside (codes "(") (codes ")") t in
    let a = both (framed (codes "(") (codes ")") t) (all_parts p (outer_parts 0 x)) h in
    tuple_by p P f t (outer_parts 0 x)
    (framed_is (codes "(") (codes ")") t a.0 ∙ ap (λ z. codes "(" ++ (z ++ codes ")")) (sym (outer_joined 0 x))) a.1

array_spelled : (p : Text → Bool) (P : Text → Type 0) → ((t : Text) → p t ≡ true → P t) → (t : Text)
    → (begins (codes "array[") t && (is_number (before_bracket (drop 6 t)) && (begins (before_bracket (drop 6 t) ++ codes "]") (drop 6 t) &&
    p (drop (suc (length (before_bracket (drop 6 t)))) (drop 6 t))))) ≡ true → Array P t
array_spelled p P f t h =
    let d = drop 6 t in
    let s = before_bracket d in
    let a = both (begins (codes "array[") t) (is_number s && (begins (s ++ codes "]") d && p (drop (suc (length s)) d))) h in
    let b = both (is_number s) (begins (s ++ codes "]") d && p (drop (suc (length s)) d)) a.1 in
    let c = both (begins (s ++ codes "]") d) (p (drop (suc (length s)) d)) b.1 in
    record {
      size = s;
      item = drop (suc (length s)) d;
      is = begins_is (codes "array[") t a.0 ∙ ap (λ z. codes "array[" ++ z) (cut_at s (codes "]") d refl c.0);
      size_is = b.0;
      item_is = f (drop (suc (length s)) d) c.1;
    }

type_spelled : (n : ℕ) (t : Text) → is_type n t ≡ true → TypeSpelled n t
unfolding is_type TypeSpelled
type_spelled zero t h = no_way h
type_spelled (suc n) t h =
    either_is (bytes_eq t (codes "integer")) _ h (λ k. inl (same_text t (codes "integer") k)) (λ h.
    either_is (bytes_eq t (codes "boolean")) _ h (λ k. inr (inl (same_text t (codes "boolean") k))) (λ h.
    either_is (is_name t) _ h (λ k. inr (inr (inl k))) (λ h.
    either_is (framed (codes "integer{") (codes "}") t && list_all is_range (outer_parts 0 (inside (codes "integer{") (codes "}") t))) _ h
    (λ k. inr (inr (inr (inl (integers_spelled t k))))) (λ h.
    either_is (begins (codes "bits(") t && is_bits (drop 5 t)) _ h
    (λ k. let a = both (begins (codes "bits(") t) (is_bits (drop 5 t)) k in inr (inr (inr (inr (inl (bits_spelled t a.0 a.1)))))) (λ h.
    either_is (framed (codes "(") (codes ")") t && all_parts (is_type n) (outer_parts 0 (inside (codes "(") (codes ")") t))) _ h
    (λ k. inr (inr (inr (inr (inr (inl (tuple_spelled (is_type n) (TypeSpelled n) (type_spelled n) t k))))))) (λ h.
    inr (inr (inr (inr (inr (inr (array_spelled (is_type n) (TypeSpelled n) (type_spelled n) t h))))))))))))

-- ---- lines

record Lengths (t : Text) : Type 0 where
  start : Text
  len : Text
  is : t ≡ start ++ (codes "+" ++ len)
  start_is : IsNumber start
  len_is : IsNumber len

lengths_by : (t : Text) (ps : List Text) → join_with_byte 43 ps ≡ t → is_length_of ps ≡ true → Lengths t
lengths_by t [] e h = no_way h
lengths_by t (a ∷ []) e h = no_way h
lengths_by t (a ∷ b ∷ []) e h = let k = both (is_number a) (is_number b) h in
    record { start = a; len = b; is = sym e; start_is = k.0; len_is = k.1 }
lengths_by t (a ∷ b ∷ c ∷ ps) e h = no_way h

span_by : (t : Text) (ps : List Text) → join_with_byte 58 ps ≡ t → is_span_of ps ≡ true → SpanSpelled t
span_by t [] e h = no_way h
span_by t (a ∷ []) e h = no_way h
span_by t (f ∷ rest ∷ []) e h =
    let a = both (is_number f) (is_length_of (slice_split is_plus rest)) h in
    let k = lengths_by rest (slice_split is_plus rest) (rejoined 43 rest) a.1 in
    record {
      file = f;
      start = k.start;
      len = k.len;
      is = sym e ∙ ap (λ z. f ++ (codes ":" ++ z)) k.is;
      file_is = a.0;
      start_is = k.start_is;
      len_is = k.len_is;
    }
span_by t (a ∷ b ∷ c ∷ ps) e h = no_way h

span_spelled : (t : Text) → is_span t ≡ true → SpanSpelled t
span_spelled t h = span_by t (slice_split is_colon t) (rejoined 58 t) h

effect_spelled : (t : Text) → is_effect t ≡ true → EffectSpelled t
effect_spelled t h =
    either_is (bytes_eq t (codes "P")) _ h (λ k. inl (same_text t (codes "P") k)) (λ h.
    either_is (bytes_eq t (codes "R")) _ h (λ k. inr (inl (same_text t (codes "R") k))) (λ k. inr (inr (same_text t (codes "W") k))))

ending_spelled : (t : Text) → is_ending t ≡ true → EndingSpelled t
ending_spelled t h = either_is (bytes_eq t (codes "falls")) _ h (λ k. inl (same_text t (codes "falls") k))
    (λ k. inr (same_text t (codes "ends") k))

append_none : (t : Text) → t ++ [] ≡ t
append_none [] = refl
append_none (b ∷ t) = ap (λ z. b ∷ z) (append_none t)

-- what stands behind a type, with the spaces
behind_type : List Text → Text
behind_type [] = []
behind_type (w ∷ ws) = 32 ∷ join_with_byte 32 (w ∷ ws)

joined_behind : (x : Text) (ws : List Text) → join_with_byte 32 (x ∷ ws) ≡ x ++ behind_type ws
unfolding behind_type
joined_behind x [] = sym (append_none x)
joined_behind x (w ∷ ws) = refl

call_by : (call : List Text) → is_call call ≡ true → MaybeCall (behind_type call)
unfolding behind_type
call_by [] h = inl refl
call_by (w ∷ []) h = no_way h
call_by (w ∷ i ∷ []) h =
    let a = both (bytes_eq w (codes "call")) (is_number i && not (bytes_eq i (codes "0"))) h in
    let b = both (is_number i) (not (bytes_eq i (codes "0"))) a.1 in
    inr (record {
      overload = i;
      widths = [];
      is =
          ap (λ z. 32 ∷ (z ++ (32 ∷ i))) (same_text w (codes "call") a.0) ∙ ap (λ z. codes " call " ++ z) (sym (append_none i));
      overload_is = b.0;
      above_0 = differ_by i (codes "0") b.1;
      widths_are = inl refl;
    })
call_by (w ∷ i ∷ ws ∷ []) h =
    let x = both (bytes_eq w (codes "call") && (is_number i && not (bytes_eq i (codes "0")))) (list_all is_width (outer_parts 0 ws)) h in
    let a = both (bytes_eq w (codes "call")) (is_number i && not (bytes_eq i (codes "0"))) x.0 in
    let b = both (is_number i) (not (bytes_eq i (codes "0"))) a.1 in
    inr (record {
      overload = i;
      widths = codes " " ++ ws;
      is = ap (λ z. 32 ∷ (z ++ (32 ∷ (i ++ (32 ∷ ws))))) (same_text w (codes "call") a.0);
      overload_is = b.0;
      above_0 = differ_by i (codes "0") b.1;
      widths_are = inr (
        outer_parts 0 ws,
        (ap (λ z. 32 ∷ z) (sym (outer_joined 0 ws)), some_of is_width IsWidth (λ t k. k) (outer_parts 0 ws) (outer_some 0 ws) x.1),
      );
    })
call_by (w ∷ i ∷ ws ∷ more ∷ rest) h = no_way h

node_line : (kind : Text) (P : Text → Type 0) (t k s e x : Text) (call : List Text) → join_with_byte 32 (k ∷ s ∷ e ∷ x ∷ call) ≡ t →
    k ≡ kind → SpanSpelled s → EffectSpelled e → P x → MaybeCall (behind_type call) → NodeLine kind P t
node_line kind P t k s e x call is kind_is a b c d = record {
  span = s;
  effect = e;
  what = x;
  call = behind_type call;
  is = sym is ∙ (ap (λ z. k ++ (32 ∷ (s ++ (32 ∷ (e ++ (32 ∷ z)))))) (joined_behind x call)
      ∙ ap (λ z. z ++ (32 ∷ (s ++ (32 ∷ (e ++ (32 ∷ (x ++ behind_type call))))))) kind_is);
  span_is = a;
  effect_is = b;
  what_is = c;
  call_is = d;
}

line_by : (t : Text) (ps : List Text) → join_with_byte 32 ps ≡ t → is_line_of ps ≡ true → LineSpelled t
line_by t [] e h = no_way h
line_by t (k ∷ []) e h = no_way h
line_by t (k ∷ n ∷ []) e h =
    either_is (bytes_eq k (codes "B") && is_name n) (bytes_eq k (codes "end") && is_number n) h
    (λ q. let a = both (bytes_eq k (codes "B")) (is_name n) q in
    inr (inr (inr (inl (record { what = n; is = sym e ∙ ap (λ z. z ++ (32 ∷ n)) (same_text k (codes "B") a.0); what_is = a.1 })))))
    (λ q. let a = both (bytes_eq k (codes "end")) (is_number n) q in
    inr (inr (inr (inr (record { what = n; is = sym e ∙ ap (λ z. z ++ (32 ∷ n)) (same_text k (codes "end") a.0); what_is = a.1 })))))
line_by t (k ∷ s ∷ e ∷ []) is h = no_way h
line_by t (k ∷ s ∷ e ∷ x ∷ call) is h =
    let a = both (is_span s) (is_effect e &&
    (is_call call && ((bytes_eq k (codes "E") && is_type 100 x) || (bytes_eq k (codes "S") && is_ending x)))) h in
    let b = both (is_effect e) (is_call call && ((bytes_eq k (codes "E") && is_type 100 x) || (bytes_eq k (codes "S") && is_ending x)))
    a.1 in
    let c = both (is_call call) ((bytes_eq k (codes "E") && is_type 100 x) || (bytes_eq k (codes "S") && is_ending x)) b.1 in
    either_is (bytes_eq k (codes "E") && is_type 100 x) (bytes_eq k (codes "S") && is_ending x) c.1
    (λ q. let d = both (bytes_eq k (codes "E")) (is_type 100 x) q in
    inr (inl (node_line (codes "E") (TypeSpelled 100) t k s e x call is (same_text k (codes "E") d.0) (span_spelled s a.0)
    (effect_spelled e b.0) (type_spelled 100 x d.1) (call_by call c.0))))
    (λ q. let d = both (bytes_eq k (codes "S")) (is_ending x) q in
    inr (inr (inl (node_line (codes "S") EndingSpelled t k s e x call is (same_text k (codes "S") d.0) (span_spelled s a.0)
    (effect_spelled e b.0) (ending_spelled x d.1) (call_by call c.0)))))

-- what is recognised as a line is one of the grammar
pub line_spelled : (t : Text) → is_line t ≡ true → LineSpelled t
line_spelled t h = either_is (bytes_eq t first_line) (is_line_of (slice_split is_space t)) h (λ k. inl (same_text t first_line k))
    (λ k. line_by t (slice_split is_space t) (rejoined 32 t) k)
