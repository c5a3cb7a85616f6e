-- What is put together as the grammar of lines says is recognised as a line.
use Rattle.std.proofs.Common.{◌≡◌, ◌⊎◌, inl, inr, ℕ, zero, suc, ◌+◌, ◌-◌, ◌==◌, ◌≤◌, Bool, true, false, ◌&&◌, ◌||◌, not, List, [], ◌∷◌}
use Rattle.std.proofs.Common.{◌++◌, length, take, drop, reverse, refl, sym, ap, ◌∙◌, subst, append_assoc, arith}
use Rattle.std.specs.Prelude.{if◌then◌else◌, codes, nat_le}
use Rattle.std.specs.Str.{bytes_eq}
use Rattle.std.specs.List.{list_all, slice_split}
use Rattle.std.proofs.lemmas.Slice.Eq.{bytes_eq-Decides}
use Rattle.std.proofs.lemmas.List.{length-append, reverse-append}
use Rattle.std.proofs.Math.Seq.{take-append_seam, drop-append_seam}
use Rattle.std.proofs.lemmas.Bool.Decides.{nat_tests}
use Rattle.asl_rules.specs.report.Texts.{Text}
use Rattle.asl_rules.proofs.basics.Tests.{both, and_true, or_first, or_second}
use Rattle.asl_laws.specs.certificates.Texts.{with_commas, first_line}
use Rattle.asl_laws.specs.certificates.Format.{begins, closes, inside, framed, byte_first, is_opening, outer_parts}
use Rattle.asl_laws.specs.certificates.Format.{is_digit, is_number, is_name, is_width, ends_of, are_ends, is_range, is_colon, is_bracket}
use Rattle.asl_laws.specs.certificates.Format.{are_numbers, is_bitfield_of, is_bitfield, all_parts, before_close, is_view, is_bits}
use Rattle.asl_laws.specs.certificates.Format.{before_bracket, is_type, is_space, is_plus, is_length_of, is_span_of, is_span, is_effect}
use Rattle.asl_laws.specs.certificates.Format.{is_ending, is_call, is_line_of, is_line}
use Rattle.asl_laws.specs.certificates.Spellings.{IsNumber, IsName, IsWidth, Each, OneOrMore, Range, BitfieldSpelled, View, Bits, Array}
use Rattle.asl_laws.specs.certificates.Spellings.{TypeSpelled, SpanSpelled, EffectSpelled, MaybeCall, NodeLine, EndingSpelled, ShortLine}
use Rattle.asl_laws.specs.certificates.Spellings.{LineSpelled}
use Rattle.asl_laws.proofs.certificates.Lines.{same_nat}
use Rattle.asl_laws.proofs.certificates.Spellings.{no_way}
use Rattle.asl_laws.proofs.certificates.Calm.{quiet, All, all_of, number_quiet, names_quiet, Parts, Free}
use Rattle.asl_laws.proofs.certificates.Calm.{free_append, quiet_free, free_by, split_at, split_none, bytes_first, Calm, calm_append, still}
use Rattle.asl_laws.proofs.certificates.Calm.{calm_still, and_all, quiet_calm, calm_commas, append_none}
use Rattle.asl_laws.proofs.certificates.Calm.{parted}
use Rattle.asl_laws.proofs.certificates.Steady.{begins_so, opens, closes_at, width_steady}

-- ---- fronts and ends

bytes_same : (t : Text) → bytes_eq t t ≡ true
bytes_same t = (bytes_eq-Decides t t).1 refl

nat_le_so : (m n : ℕ) → m ≤ n → nat_le m n ≡ true
nat_le_so m n h = grind (arith, nat_tests)

framed_so : (front end x : Text) → framed front end (front ++ (x ++ end)) ≡ true
framed_so front end x =
    let t = front ++ (x ++ end) in
    let back : reverse t ≡ reverse end ++ reverse (front ++ x) =
    ap reverse (sym (append_assoc front x end)) ∙ reverse-append (front ++ x) end in
    let c : closes end t ≡ true = ap (λ z. begins (reverse end) z) back ∙ begins_so (reverse end) (reverse (front ++ x)) in
    let n1 : length t ≡ length front + length (x ++ end) = length-append front (x ++ end) in
    let n2 : length (x ++ end) ≡ length x + length end = length-append x end in
    let le : length front ≤ length t - length end = omega arith in
    and_all (begins front t) (closes end t) (nat_le (length front) (length t - length end)) (begins_so front (x ++ end)) c
    (nat_le_so (length front) (length t - length end) le)

inside_so : (front end x : Text) → inside front end (front ++ (x ++ end)) ≡ x
inside_so front end x =
    let t = front ++ (x ++ end) in
    let n1 : length t ≡ length front + length (x ++ end) = length-append front (x ++ end) in
    let n2 : length (x ++ end) ≡ length x + length end = length-append x end in
    let n3 : length t - length front - length end ≡ length x = omega arith in
    ap (λ k. take k (drop (length front) t)) n3 ∙ (ap (take (length x)) (drop-append_seam front (x ++ end)) ∙ take-append_seam x end)

-- ---- ranges and bitfields

class_free : (p : ℕ → Bool) (c : ℕ) → p c ≡ false → (t : Text) → All p t → Free c t
unfolding All Free
class_free p c n [] h = tt
class_free p c n (b ∷ t) h = (isnt (b == c) refl, class_free p c n t h.1)
  where
    true_is : true ≡ false → ⊥
    true_is h = cc

    isnt : (x : Bool) → (b == c) ≡ x → x ≡ false
    isnt true e = absurd (true_is (sym h.0 ∙ (ap p (same_nat b c e) ∙ n)))
    isnt false e = refl

number_digits : (t : Text) → is_number t ≡ true → All is_digit t
unfolding All
number_digits [] h = no_way h
number_digits (b ∷ []) h = (h, tt)
number_digits (b ∷ c ∷ bs) h = let k = both (not (b == 48)) (list_all is_digit (b ∷ c ∷ bs)) h in all_of is_digit (b ∷ c ∷ bs) k.1

ends_none : (t : Text) → Free 46 t → ends_of t ≡ t ∷ []
unfolding Free
ends_none [] f = refl
ends_none (a ∷ []) f = refl
ends_none (a ∷ b ∷ bs) f =
    ap (λ x. if x && (b == 46) then [] ∷ ends_of bs else byte_first a (ends_of (b ∷ bs))) f.0 ∙ ap (byte_first a) (ends_none (b ∷ bs) f.1)

ends_at : (low high : Text) → Free 46 low → ends_of (low ++ (46 ∷ 46 ∷ high)) ≡ low ∷ ends_of high
unfolding Free
ends_at [] high f = refl
ends_at (a ∷ []) high f = ap (λ x. if x && true then [] ∷ ends_of (46 ∷ high) else byte_first a ([] ∷ ends_of high)) f.0
ends_at (a ∷ b ∷ bs) high f =
    ap (λ x. if x && (b == 46) then [] ∷ ends_of (bs ++ (46 ∷ 46 ∷ high)) else byte_first a (ends_of ((b ∷ bs) ++ (46 ∷ 46 ∷ high)))) f.0
    ∙ ap (byte_first a) (ends_at (b ∷ bs) high f.1)

-- a text that is recognised, has no space, and stays in one part
record Fine (p : Text → Bool) (t : Text) : Type 0 where
  is : p t ≡ true
  free : Free 32 t
  calm : (k : ℕ) → Calm k t k

differ_so : (s t : Text) → (s ≡ t → ⊥) → not (bytes_eq s t) ≡ true
differ_so s t n = by (bytes_eq s t) refl
  where
    by : (x : Bool) → bytes_eq s t ≡ x → not x ≡ true
    by true e = absurd (n ((bytes_eq-Decides s t).0 e))
    by false e = refl

width_fine : (t : Text) → IsWidth t → Fine is_width t
width_fine t h = let s = width_steady t h in record { is = h; free = s.space; calm = s.calm }

range_fine : (t : Text) → Range t → Fine is_range t
unfolding quiet All still Free
range_fine t (inl h) = let s = width_steady t h in record { is = ap are_ends (ends_none t s.dot) ∙ h; free = s.space; calm = s.calm }
range_fine t (inr r) =
    let l = width_steady r.low r.low_is in
    let h = width_steady r.high r.high_is in
    let e : ends_of t ≡ r.low ∷ r.high ∷ [] =
    ap ends_of r.is ∙ (ends_at r.low r.high l.dot ∙ ap (λ z. r.low ∷ z) (ends_none r.high h.dot)) in
    record {
      is = ap are_ends e ∙ and_all (is_width r.low) (is_width r.high) (not (bytes_eq r.low r.high)) r.low_is r.high_is
          (differ_so r.low r.high r.differ);
      free = subst (Free 32) (sym r.is) (free_append 32 r.low (codes ".." ++ r.high) l.space (refl, (refl, h.space)));
      calm = λ k. subst (λ z. Calm k z k) (sym r.is)
          (calm_append k k k r.low (codes ".." ++ r.high) (l.calm k)
          (calm_append k k k (codes "..") r.high (calm_still k (codes "..") (refl, (refl, tt))) (h.calm k)));
    }

bitfield_fine : (t : Text) → BitfieldSpelled t → Fine is_bitfield t
unfolding quiet All still Free
bitfield_fine t f =
    let h = number_quiet f.high f.high_is in
    let l = number_quiet f.low f.low_is in
    let n = names_quiet f.name f.name_is in
    let front = codes "[" ++ (f.high ++ (codes ":" ++ f.low)) in
    let e : t ≡ front ++ (93 ∷ f.name) = f.is ∙ ap (λ z. codes "[" ++ z) (sym (append_assoc f.high (codes ":" ++ f.low) (93 ∷ f.name))) in
    let front_free : Free 93 front = (
      refl,
      free_append 93 f.high (codes ":" ++ f.low) (quiet_free 93 refl f.high h)
          (refl, quiet_free 93 refl f.low l),
    ) in
    let s : slice_split is_bracket t ≡ front ∷ f.name ∷ [] =
    ap (slice_split is_bracket) e ∙ (split_at 93 front f.name front_free
    ∙ ap (λ z. front ∷ z) (split_none 93 f.name (quiet_free 93 refl f.name n))) in
    let c : slice_split is_colon (f.high ++ (58 ∷ f.low)) ≡ f.high ∷ f.low ∷ [] =
    split_at 58 f.high f.low (quiet_free 58 refl f.high h) ∙ ap (λ z. f.high ∷ z) (split_none 58 f.low (quiet_free 58 refl f.low l)) in
    record {
      is = ap is_bitfield_of s ∙ and_all (begins (codes "[") front) (are_numbers (slice_split is_colon (f.high ++ (58 ∷ f.low))))
          (is_name f.name) (begins_so (codes "[") (f.high ++ (codes ":" ++ f.low)))
          (ap are_numbers c ∙ and_true (is_number f.high) (is_number f.low) f.high_is f.low_is) f.name_is;
      free = subst (Free 32) (sym f.is) (
        refl,
        free_append 32 f.high _ (quiet_free 32 refl f.high h)
            (refl, free_append 32 f.low _ (quiet_free 32 refl f.low l) (refl, quiet_free 32 refl f.name n)),
      );
      calm = λ k. subst (λ z. Calm k z k) (sym f.is)
          (calm_append k (suc k) k (codes "[") _ (opens k 91 refl refl)
          (calm_append (suc k) (suc k) k f.high _ (quiet_calm (suc k) f.high h)
          (calm_append (suc k) (suc k) k (codes ":") _ (calm_still (suc k) (codes ":") (refl, tt))
          (calm_append (suc k) (suc k) k f.low _ (quiet_calm (suc k) f.low l)
          (calm_append (suc k) k k (codes "]") f.name (closes_at k 93 refl refl refl) (quiet_calm k f.name n))))));
    }

-- ---- lists

all_fine : (p : Text → Bool) (P : Text → Type 0) → ((t : Text) → P t → Fine p t) → (ts : List Text) → Each P ts → Parts (Fine p) ts
unfolding Parts
all_fine p P f [] h = tt
all_fine p P f (t ∷ ts) h = (f t h.0, all_fine p P f ts h.1)

all_recognised : (p : Text → Bool) (ts : List Text) → Parts (Fine p) ts → list_all p ts ≡ true
unfolding Parts
all_recognised p [] h = refl
all_recognised p (t ∷ ts) h = and_true (p t) (list_all p ts) h.0.is (all_recognised p ts h.1)

all_calm : (p : Text → Bool) (ts : List Text) → Parts (Fine p) ts → Parts (λ t. (k : ℕ) → Calm k t k) ts
unfolding Parts
all_calm p [] h = tt
all_calm p (t ∷ ts) h = (h.0.calm, all_calm p ts h.1)

commas_free : (p : Text → Bool) (ts : List Text) → Parts (Fine p) ts → Free 32 (with_commas ts)
unfolding Parts Free
commas_free p [] h = tt
commas_free p (t ∷ []) h = h.0.free
commas_free p (t ∷ u ∷ ts) h = free_append 32 t (codes "," ++ with_commas (u ∷ ts)) h.0.free (refl, commas_free p (u ∷ ts) h.1)

-- texts with commas between in brackets
listed : (p : Text → Bool) (front end t : Text) (u : Text) (ts : List Text) → t ≡ front ++ (with_commas (u ∷ ts) ++ end) →
    Parts (Fine p) (u ∷ ts) → (framed front end t ≡ true) × (outer_parts 0 (inside front end t) ≡ u ∷ ts)
listed p front end t u ts e h = (
  ap (framed front end) e ∙ framed_so front end (with_commas (u ∷ ts)),
  ap (λ z. outer_parts 0 (inside front end z)) e
      ∙ (ap (outer_parts 0) (inside_so front end (with_commas (u ∷ ts))) ∙ parted u ts (all_calm p (u ∷ ts) h)),
)

bracketed_free : (p : Text → Bool) (front end : Text) (ts : List Text) → Free 32 front → Free 32 end → Parts (Fine p) ts →
    Free 32 (front ++ (with_commas ts ++ end))
bracketed_free p front end ts f g h = free_append 32 front _ f (free_append 32 (with_commas ts) end (commas_free p ts h) g)

bracketed_calm : (p : Text → Bool) (front end : Text) (ts : List Text) → ((k : ℕ) → Calm k front (suc k)) → ((k : ℕ) → Calm (suc k) end k) →
    Parts (Fine p) ts → (k : ℕ) → Calm k (front ++ (with_commas ts ++ end)) k
bracketed_calm p front end ts f g h k = calm_append k (suc k) k front _ (f k)
    (calm_append (suc k) (suc k) k (with_commas ts) end (calm_commas k ts (all_calm p ts h)) (g k))

-- ---- types

view_by : (v : Text) (fields : List Text) → v ≡ codes "{" ++ (with_commas fields ++ codes "}") → OneOrMore BitfieldSpelled fields →
    (is_view v ≡ true) × (Free 32 v × ((k : ℕ) → Calm k v k))
unfolding Parts Free
view_by v [] e h = absurd h
view_by v (u ∷ ts) e h =
    let fs = all_fine is_bitfield BitfieldSpelled bitfield_fine (u ∷ ts) h in
    let w = codes "{" ++ (with_commas (u ∷ ts) ++ codes "}") in
    let l = listed is_bitfield (codes "{") (codes "}") w u ts refl fs in (
      ap is_view e ∙ and_true (framed (codes "{") (codes "}") w) (list_all is_bitfield (outer_parts 0 (inside (codes "{") (codes "}") w)))
          l.0 (ap (list_all is_bitfield) l.1 ∙ all_recognised is_bitfield (u ∷ ts) fs),
      (
        subst (Free 32) (sym e) (bracketed_free is_bitfield (codes "{") (codes "}") (u ∷ ts) (refl, tt) (refl, tt) fs),
        λ k. subst (λ z. Calm k z k) (sym e)
            (bracketed_calm is_bitfield (codes "{") (codes "}") (u ∷ ts) (λ j. opens j 123 refl refl) (λ j. closes_at j 125 refl refl refl)
            fs k),
      ),
    )

view_so : (v : Text) → (v ≡ []) ⊎ View v → (is_view v ≡ true) × (Free 32 v × ((k : ℕ) → Calm k v k))
unfolding Free Calm bytes_first
view_so v (inl e) = (ap is_view e, (subst (Free 32) (sym e) tt, λ k. subst (λ z. Calm k z k) (sym e) (λ rest. refl)))
view_so v (inr f) = view_by v f.fields f.is f.fields_are

bracket_at : (s rest : Text) → Free 93 s → before_bracket (s ++ (93 ∷ rest)) ≡ s
unfolding Free
bracket_at [] rest f = refl
bracket_at (b ∷ s) rest f = ap (λ x. if x then [] else b ∷ before_bracket (s ++ (93 ∷ rest))) f.0 ∙ ap (λ z. b ∷ z) (bracket_at s rest f.1)

-- behind a text and one byte
behind_byte : (w : Text) (c : ℕ) (rest : Text) →
    (begins (w ++ (c ∷ [])) (w ++ (c ∷ rest)) ≡ true) × (drop (suc (length w)) (w ++ (c ∷ rest)) ≡ rest)
behind_byte w c rest =
    let e : w ++ (c ∷ rest) ≡ (w ++ (c ∷ [])) ++ rest = sym (append_assoc w (c ∷ []) rest) in
    let one : length (c ∷ []) ≡ 1 = refl in
    let n : suc (length w) ≡ length (w ++ (c ∷ [])) = sym (length-append w (c ∷ []) ∙ omega arith) in (
      ap (begins (w ++ (c ∷ []))) e ∙ begins_so (w ++ (c ∷ [])) rest,
      ap (λ k. drop k (w ++ (c ∷ rest))) n ∙ (ap (drop (length (w ++ (c ∷ [])))) e ∙ drop-append_seam (w ++ (c ∷ [])) rest),
    )

bits_so : (t : Text) → Bits t → (begins (codes "bits(") t && is_bits (drop 5 t)) ≡ true
bits_so t b =
    let d = b.width ++ (41 ∷ b.view) in
    let c : before_close 0 d ≡ b.width = (width_steady b.width b.width_is).closed b.view in
    let k = behind_byte b.width 41 b.view in
    let v = view_so b.view b.view_is in
    ap (λ z. begins (codes "bits(") z && is_bits (drop 5 z)) b.is ∙
    and_true (begins (codes "bits(") (codes "bits(" ++ d)) (is_bits d) (begins_so (codes "bits(") d)
    (ap (λ w. is_width w && (begins (w ++ codes ")") d && is_view (drop (suc (length w)) d))) c ∙
    and_all (is_width b.width) (begins (b.width ++ codes ")") d) (is_view (drop (suc (length b.width)) d)) b.width_is k.0
    (ap is_view k.1 ∙ v.0))

array_so : (p : Text → Bool) (t : Text) (a : Array (λ x. p x ≡ true) t) →
    (begins (codes "array[") t && (is_number (before_bracket (drop 6 t)) && (begins (before_bracket (drop 6 t) ++ codes "]") (drop 6 t) && p
    (drop (suc (length (before_bracket (drop 6 t)))) (drop 6 t))))) ≡ true
unfolding quiet
array_so p t a =
    let d = a.size ++ (93 ∷ a.item) in
    let c : before_bracket d ≡ a.size = bracket_at a.size a.item (quiet_free 93 refl a.size (number_quiet a.size a.size_is)) in
    let k = behind_byte a.size 93 a.item in
    ap (λ z. begins (codes "array[") z &&
    (is_number (before_bracket (drop 6 z)) && (begins (before_bracket (drop 6 z) ++ codes "]") (drop 6 z) && p
    (drop (suc (length (before_bracket (drop 6 z)))) (drop 6 z))))) a.is ∙
    and_true (begins (codes "array[") (codes "array[" ++ d)) _ (begins_so (codes "array[") d)
    (ap (λ s. is_number s && (begins (s ++ codes "]") d && p (drop (suc (length s)) d))) c ∙
    and_all (is_number a.size) (begins (a.size ++ codes "]") d) (p (drop (suc (length a.size)) d)) a.size_is k.0 (ap p k.1 ∙ a.item_is))

integers_by : (t : Text) (rs : List Text) → t ≡ codes "integer{" ++ (with_commas rs ++ codes "}") → OneOrMore Range rs →
    ((framed (codes "integer{") (codes "}") t && list_all is_range (outer_parts 0 (inside (codes "integer{") (codes "}") t))) ≡ true) ×
    Parts (Fine is_range) rs
unfolding Parts
integers_by t [] e h = absurd h
integers_by t (u ∷ ts) e h =
    let fs = all_fine is_range Range range_fine (u ∷ ts) h in
    let l = listed is_range (codes "integer{") (codes "}") t u ts e fs in
    (and_true (framed (codes "integer{") (codes "}") t) _ l.0 (ap (list_all is_range) l.1 ∙ all_recognised is_range (u ∷ ts) fs), fs)

opens_behind : (front : Text) (b : ℕ) → All still front → (b == 44) ≡ false → is_opening b ≡ true → (k : ℕ) →
    Calm k (front ++ (b ∷ [])) (suc k)
opens_behind front b h n o k = calm_append k k (suc k) front (b ∷ []) (calm_still k front h) (opens k b n o)

seventh : (a b c d e f g : Bool) → g ≡ true → (a || (b || (c || (d || (e || (f || g)))))) ≡ true
seventh a b c d e f g h = or_second a _ (or_second b _ (or_second c _ (or_second d _ (or_second e _ (or_second f g h)))))

type_fine : (n : ℕ) (t : Text) → TypeSpelled n t → Fine (is_type n) t
unfolding is_type TypeSpelled quiet All still Free
type_fine zero t h = absurd h
type_fine (suc n) t (inl e) = record {
  is = or_first (bytes_eq t (codes "integer")) _ ((bytes_eq-Decides t (codes "integer")).1 e);
  free = subst (Free 32) (sym e) (free_by 32 (codes "integer") refl);
  calm = λ k. subst (λ z. Calm k z k) (sym e) (calm_still k (codes "integer") (all_of still (codes "integer") refl));
}
type_fine (suc n) t (inr (inl e)) = record {
  is = or_second (bytes_eq t (codes "integer")) _ (or_first (bytes_eq t (codes "boolean")) _ ((bytes_eq-Decides t (codes "boolean")).1 e));
  free = subst (Free 32) (sym e) (free_by 32 (codes "boolean") refl);
  calm = λ k. subst (λ z. Calm k z k) (sym e) (calm_still k (codes "boolean") (all_of still (codes "boolean") refl));
}
type_fine (suc n) t (inr (inr (inl h))) = record {
  is = or_second (bytes_eq t (codes "integer")) _ (or_second (bytes_eq t (codes "boolean")) _ (or_first (is_name t) _ h));
  free = quiet_free 32 refl t (names_quiet t h);
  calm = λ k. quiet_calm k t (names_quiet t h);
}
type_fine (suc n) t (inr (inr (inr (inl i)))) =
    let p = integers_by t i.ranges i.is i.ranges_are in
    record {
      is = or_second (bytes_eq t (codes "integer")) _
          (or_second (bytes_eq t (codes "boolean")) _ (or_second (is_name t) _ (or_first _ _ p.0)));
      free = subst (Free 32) (sym i.is)
          (bracketed_free is_range (codes "integer{") (codes "}") i.ranges (free_by 32 (codes "integer{") refl) (refl, tt) p.1);
      calm = λ k. subst (λ z. Calm k z k) (sym i.is)
          (bracketed_calm is_range (codes "integer{") (codes "}") i.ranges
          (opens_behind (codes "integer") 123 (all_of still (codes "integer") refl) refl refl) (λ j. closes_at j 125 refl refl refl) p.1 k);
    }
type_fine (suc n) t (inr (inr (inr (inr (inl b))))) =
    let q = width_steady b.width b.width_is in
    let v = view_so b.view b.view_is in
    record {
      is = or_second (bytes_eq t (codes "integer")) _
          (or_second (bytes_eq t (codes "boolean")) _ (or_second (is_name t) _ (or_second _ _ (or_first _ _ (bits_so t b)))));
      free = subst (Free 32) (sym b.is)
          (free_append 32 (codes "bits(") _
          (free_by 32 (codes "bits(") refl) (free_append 32 b.width _ q.space (refl, v.1.0)));
      calm = λ k. subst (λ z. Calm k z k) (sym b.is)
          (calm_append k (suc k) k (codes "bits(") _ (opens_behind (codes "bits") 40 (all_of still (codes "bits") refl) refl refl k)
          (calm_append (suc k) (suc k) k b.width _ (q.calm (suc k)) (calm_append (suc k) k k (codes ")") b.view
          (closes_at k 41 refl refl refl) (v.1.1 k))));
    }
type_fine (suc n) t (inr (inr (inr (inr (inr (inl u)))))) =
    let ts = u.first ∷ u.second ∷ u.more in
    let fs = all_fine (is_type n) (TypeSpelled n) (type_fine n) ts u.are in
    let l = listed (is_type n) (codes "(") (codes ")") t u.first (u.second ∷ u.more) u.is fs in
    record {
      is = or_second (bytes_eq t (codes "integer")) _
          (or_second (bytes_eq t (codes "boolean")) _ (or_second (is_name t) _ (or_second _ _ (or_second _ _ (or_first _ _
          (and_true (framed (codes "(") (codes ")") t) _ l.0 (ap (all_parts (is_type n)) l.1 ∙ all_recognised (is_type n) ts fs)))))));
      free = subst (Free 32) (sym u.is) (bracketed_free (is_type n) (codes "(") (codes ")") ts (refl, tt) (refl, tt) fs);
      calm = λ k. subst (λ z. Calm k z k) (sym u.is)
          (bracketed_calm (is_type n) (codes "(") (codes ")") ts (λ j. opens j 40 refl refl) (λ j. closes_at j 41 refl refl refl) fs k);
    }
type_fine (suc n) t (inr (inr (inr (inr (inr (inr a)))))) =
    let f = type_fine n a.item a.item_is in
    let q = number_quiet a.size a.size_is in
    record {
      is = seventh (bytes_eq t (codes "integer")) (bytes_eq t (codes "boolean")) (is_name t)
          (framed (codes "integer{") (codes "}") t && list_all is_range (outer_parts 0 (inside (codes "integer{") (codes "}") t)))
          (begins (codes "bits(") t && is_bits (drop 5 t))
          (framed (codes "(") (codes ")") t && all_parts (is_type n) (outer_parts 0 (inside (codes "(") (codes ")") t))) _
          (array_so (is_type n) t (record { size = a.size; item = a.item; is = a.is; size_is = a.size_is; item_is = f.is }));
      free = subst (Free 32) (sym a.is)
          (free_append 32 (codes "array[") _
          (free_by 32 (codes "array[") refl) (free_append 32 a.size _ (quiet_free 32 refl a.size q) (refl, f.free)));
      calm = λ k. subst (λ z. Calm k z k) (sym a.is)
          (calm_append k (suc k) k (codes "array[") _ (opens_behind (codes "array") 91 (all_of still (codes "array") refl) refl refl k)
          (calm_append (suc k) (suc k) k a.size _ (quiet_calm (suc k) a.size q) (calm_append (suc k) k k (codes "]") a.item
          (closes_at k 93 refl refl refl) (f.calm k))));
    }

-- ---- lines

span_so : (t : Text) → SpanSpelled t → (is_span t ≡ true) × Free 32 t
unfolding quiet Free
span_so t s =
    let f = number_quiet s.file s.file_is in
    let a = number_quiet s.start s.start_is in
    let b = number_quiet s.len s.len_is in
    let rest = s.start ++ (43 ∷ s.len) in
    let c : slice_split is_colon t ≡ s.file ∷ rest ∷ [] =
    ap (slice_split is_colon) s.is ∙ (split_at 58 s.file rest (quiet_free 58 refl s.file f)
    ∙ ap (λ z. s.file
    ∷ z) (split_none 58 rest (free_append 58 s.start _ (quiet_free 58 refl s.start a) (refl, quiet_free 58 refl s.len b)))) in
    let d : slice_split is_plus rest ≡ s.start ∷ s.len ∷ [] =
    split_at 43 s.start s.len (class_free is_digit 43 refl s.start (number_digits s.start s.start_is))
    ∙ ap (λ z. s.start ∷ z) (split_none 43 s.len (class_free is_digit 43 refl s.len (number_digits s.len s.len_is))) in (
      ap is_span_of c ∙ and_true (is_number s.file) (is_length_of (slice_split is_plus rest)) s.file_is
          (ap is_length_of d ∙ and_true (is_number s.start) (is_number s.len) s.start_is s.len_is),
      subst (Free 32) (sym s.is) (free_append 32 s.file _ (quiet_free 32 refl s.file f)
          (refl, free_append 32 s.start _ (quiet_free 32 refl s.start a) (refl, quiet_free 32 refl s.len b))),
    )

effect_so : (t : Text) → EffectSpelled t → (is_effect t ≡ true) × Free 32 t
unfolding Free
effect_so t (inl e) = (ap is_effect e, subst (Free 32) (sym e) (refl, tt))
effect_so t (inr (inl e)) = (ap is_effect e, subst (Free 32) (sym e) (refl, tt))
effect_so t (inr (inr e)) = (ap is_effect e, subst (Free 32) (sym e) (refl, tt))

pub ending_so : (t : Text) → EndingSpelled t → (is_ending t ≡ true) × Free 32 t
ending_so t (inl e) = (ap is_ending e, subst (Free 32) (sym e) (free_by 32 (codes "falls") refl))
ending_so t (inr e) = (ap is_ending e, subst (Free 32) (sym e) (free_by 32 (codes "ends") refl))

-- what stands behind a type is split to a call
pub record CallSplit (what call : Text) : Type 0 where
  pub parts : List Text
  pub split : slice_split is_space (what ++ call) ≡ what ∷ parts
  pub is : is_call parts ≡ true

overload_so : (i : Text) → IsNumber i → (i ≡ codes "0" → ⊥) →
    (bytes_eq (codes "call") (codes "call") && (is_number i && not (bytes_eq i (codes "0")))) ≡ true
overload_so i h n = and_all (bytes_eq (codes "call") (codes "call")) (is_number i) (not (bytes_eq i (codes "0")))
    (bytes_same (codes "call")) h (differ_so i (codes "0") n)

widths_by : (ws : List Text) → OneOrMore IsWidth ws →
    (outer_parts 0 (with_commas ws) ≡ ws) × (Free 32 (with_commas ws) × (list_all is_width ws ≡ true))
unfolding Parts
widths_by [] h = absurd h
widths_by (u ∷ ts) h = let fs = all_fine is_width IsWidth width_fine (u ∷ ts) h in
    (parted u ts (all_calm is_width (u ∷ ts) fs), (commas_free is_width (u ∷ ts) fs, all_recognised is_width (u ∷ ts) fs))

call_by : (what call i w : Text) → Free 32 what → Free 32 i → IsNumber i → (i ≡ codes "0" → ⊥) →
    (w ≡ []) ⊎ ((ws : List Text) × ((w ≡ codes " " ++ with_commas ws) × OneOrMore IsWidth ws)) → call ≡ codes " call " ++ (i ++ w) →
    CallSplit what call
call_by what call i w f i_free number above (inl e) is = record {
  parts = codes "call" ∷ i ∷ [];
  split = ap (λ z. slice_split is_space (what ++ z)) (is ∙ ap (λ z. codes " call " ++ z) (ap (λ z. i ++ z) e ∙ append_none i)) ∙
      (split_at 32 what (codes "call " ++ i) f ∙ ap (λ z. what ∷ z)
      (split_at 32 (codes "call") i (free_by 32 (codes "call") refl) ∙ ap (λ z. codes "call" ∷ z) (split_none 32 i i_free)));
  is = overload_so i number above;
}
call_by what call i w f i_free number above (inr h) is =
    let ws = h.0 in
    let p = widths_by ws h.1.1 in
    record {
      parts = codes "call" ∷ i ∷ with_commas ws ∷ [];
      split = ap (λ z. slice_split is_space (what ++ z)) (is ∙ ap (λ z. codes " call " ++ (i ++ z)) h.1.0) ∙
          (split_at 32 what (codes "call " ++ (i ++ (32 ∷ with_commas ws))) f
          ∙ ap (λ z. what ∷ z) (split_at 32 (codes "call") (i ++ (32 ∷ with_commas ws)) (free_by 32 (codes "call") refl) ∙
          ap (λ z. codes "call" ∷ z) (split_at 32 i (with_commas ws) i_free ∙ ap (λ z. i ∷ z) (split_none 32 (with_commas ws) p.1.0))));
      is = and_true _ _ (overload_so i number above) (ap (list_all is_width) p.0 ∙ p.1.1);
    }

call_so : (what call : Text) → Free 32 what → MaybeCall call → CallSplit what call
unfolding quiet
call_so what call f (inl e) = record {
  parts = [];
  split = ap (λ z. slice_split is_space (what ++ z)) e ∙ (ap (slice_split is_space) (append_none what) ∙ split_none 32 what f);
  is = refl;
}
call_so what call f (inr c) = call_by what call c.overload c.widths f
    (quiet_free 32 refl c.overload (number_quiet c.overload c.overload_is)) c.overload_is c.above_0 c.widths_are c.is

pub node_split : (kind : Text) (P : Text → Type 0) (t : Text) → Free 32 kind → ((x : Text) → P x → Free 32 x) → (l : NodeLine kind P t) →
    (c : CallSplit l.what l.call) × (slice_split is_space t ≡ kind ∷ l.span ∷ l.effect ∷ l.what ∷ c.parts)
node_split kind P t k g l =
    let s = span_so l.span l.span_is in
    let e = effect_so l.effect l.effect_is in
    let c = call_so l.what l.call (g l.what l.what_is) l.call_is in (
      c,
      ap (slice_split is_space) l.is
          ∙ (split_at 32 kind _ k ∙ ap (λ z. kind ∷ z)
          (split_at 32 l.span _ s.1 ∙ ap (λ z. l.span ∷ z) (split_at 32 l.effect _ e.1 ∙ ap (λ z. l.effect ∷ z) c.split))),
    )

node_so : (kind : Text) (P : Text → Type 0) (t : Text) → Free 32 kind →
    ((x : Text) → P x → ((bytes_eq kind (codes "E") && is_type 100 x) || (bytes_eq kind (codes "S") && is_ending x)) ≡ true) →
    ((x : Text) → P x → Free 32 x) → NodeLine kind P t → is_line_of (slice_split is_space t) ≡ true
node_so kind P t k f g l =
    let s = span_so l.span l.span_is in
    let e = effect_so l.effect l.effect_is in
    let c = node_split kind P t k g l in
    ap is_line_of c.1 ∙ and_true (is_span l.span) _ s.0 (and_all (is_effect l.effect) (is_call c.0.parts) _ e.0 c.0.is (f l.what l.what_is))

pub short_split : (kind : Text) (P : Text → Type 0) (t : Text) → Free 32 kind → ((x : Text) → P x → Free 32 x) → (l : ShortLine kind P t) →
    slice_split is_space t ≡ kind ∷ l.what ∷ []
short_split kind P t k g l = ap (slice_split is_space) l.is
    ∙ (split_at 32 kind l.what k ∙ ap (λ z. kind ∷ z) (split_none 32 l.what (g l.what l.what_is)))

short_so : (kind : Text) (P : Text → Type 0) (t : Text) → Free 32 kind →
    ((x : Text) → P x → ((bytes_eq kind (codes "B") && is_name x) || (bytes_eq kind (codes "end") && is_number x)) ≡ true) →
    ((x : Text) → P x → Free 32 x) → ShortLine kind P t → is_line_of (slice_split is_space t) ≡ true
short_so kind P t k f g l = ap is_line_of (short_split kind P t k g l) ∙ f l.what l.what_is

pub name_free : (t : Text) → IsName t → Free 32 t
unfolding quiet
name_free t h = quiet_free 32 refl t (names_quiet t h)

pub number_free : (t : Text) → IsNumber t → Free 32 t
unfolding quiet
number_free t h = quiet_free 32 refl t (number_quiet t h)

pub type_free : (n : ℕ) (t : Text) → TypeSpelled n t → Free 32 t
type_free n t h = (type_fine n t h).free

-- what is put together as the grammar says is recognised
pub line_recognised : (t : Text) → LineSpelled t → is_line t ≡ true
unfolding quiet
line_recognised t (inl e) = or_first (bytes_eq t first_line) _ ((bytes_eq-Decides t first_line).1 e)
line_recognised t (inr (inl l)) =
    or_second (bytes_eq t first_line) _
    (node_so (codes "E") (TypeSpelled 100) t (free_by 32 (codes "E") refl)
    (λ x h. or_first (bytes_eq (codes "E") (codes "E") && is_type 100 x) _
    (and_true (bytes_eq (codes "E") (codes "E")) (is_type 100 x) (bytes_same (codes "E")) (type_fine 100 x h).is))
    (λ x h. (type_fine 100 x h).free) l)
line_recognised t (inr (inr (inl l))) =
    or_second (bytes_eq t first_line) _
    (node_so (codes "S") EndingSpelled t (free_by 32 (codes "S") refl)
    (λ x h. or_second (bytes_eq (codes "S") (codes "E") && is_type 100 x) _
    (and_true (bytes_eq (codes "S") (codes "S")) (is_ending x) (bytes_same (codes "S")) (ending_so x h).0)) (λ x h. (ending_so x h).1) l)
line_recognised t (inr (inr (inr (inl l)))) =
    or_second (bytes_eq t first_line) _
    (short_so (codes "B") IsName t (free_by 32 (codes "B") refl)
    (λ x h. or_first (bytes_eq (codes "B") (codes "B") && is_name x) _
    (and_true (bytes_eq (codes "B") (codes "B")) (is_name x) (bytes_same (codes "B")) h))
    (λ x h. quiet_free 32 refl x (names_quiet x h)) l)
line_recognised t (inr (inr (inr (inr l)))) =
    or_second (bytes_eq t first_line) _
    (short_so (codes "end") IsNumber t (free_by 32 (codes "end") refl)
    (λ x h. or_second (bytes_eq (codes "end") (codes "B") && is_name x) _
    (and_true (bytes_eq (codes "end") (codes "end")) (is_number x) (bytes_same (codes "end")) h))
    (λ x h. quiet_free 32 refl x (number_quiet x h)) l)
