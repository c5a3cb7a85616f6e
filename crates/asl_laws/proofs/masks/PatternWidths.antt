-- Masks and literals of bits that are patterns of one value have one width: that of its type.
use Rattle.std.proofs.Common.{◌≡◌, ℕ, suc, ◌≤◌, zero-le, nat_le, Bool, true, false, ◌&&◌, if◌then◌else◌, List, [], ◌∷◌, length, Option, Some, None, option_map, option_and_then, Ok, pos, refl, sym, ◌∙◌, ap, subst}
use Rattle.std.specs.Prelude.{◌==◌}
use Rattle.std.proofs.lemmas.Bool.{leb-true}
use Rattle.asl_syn.specs.declared.token.Span.{Span}
use Rattle.asl_syn.specs.declared.code.StaticCode.TheVariants.{S03, T06, T20, T23}
use Rattle.asl_syn.specs.declared.tree.Bitfield.{Bitfield}
use Rattle.asl_syn.specs.declared.tree.ConstraintPart.{ConstraintPart}
use Rattle.asl_syn.specs.declared.tree.Expr.{Expr, out-Expr}
use Rattle.asl_syn.specs.declared.tree.FieldValue.{FieldValue}
use Rattle.asl_syn.specs.declared.tree.Pattern.{Pattern, out-Pattern}
use Rattle.asl_syn.specs.declared.tree.Slice.{Slice}
use Rattle.asl_syn.specs.declared.tree.TypeExpr.{TypeExpr}
use Rattle.asl_syn.specs.declared.tree.Bitfield.TheOpen as ex
use Rattle.asl_syn.specs.declared.tree.Bitfield.TheFolds.{fold_out-Pattern}
use Rattle.asl_syn.specs.Layers.{ExprLayer}
use Rattle.asl_poly.specs.Terms.{Polynomial}
use Rattle.asl_poly.specs.Poly.{constant_map}
use Rattle.asl_mask.specs.Digits.{fixed_bits}
use Rattle.asl_mask.specs.Covers.{Digits}
use Rattle.asl_rules.specs.declared.effect.Effect.TheVariants.{Pure}
use Rattle.asl_rules.specs.Faults.{need, found_or}
use Rattle.asl_rules.specs.Tests.{Tests, IsRight}
use Rattle.asl_rules.specs.types.Types.{Ty, View, integer_of, boolean, bits_of, enumeration_of, record_of, exception_of, tuple_of, array_of, named, is_bits, width_of, bits_wide, same_kind}
use Rattle.asl_rules.specs.runs.Trees as tree
use Rattle.asl_rules.specs.values.Values.{bits_with}
use Rattle.asl_rules.specs.values.Vectors.{literal_digits, literal_of as literal_bits}
use Rattle.asl_rules.specs.declarations.Scopes.{Scope, with_class}
use Rattle.asl_rules.specs.expressions.Typing.{Found, Typed}
use Rattle.asl_rules.specs.expressions.Operations.{comparable, is_comparable, same_widths}
use Rattle.asl_rules.specs.expressions.Slicing.{FoundSlice}
use Rattle.asl_rules.specs.expressions.Patterns.{Matched, FoundPattern, mask_matched, pure_typed, value_matched}
use Rattle.asl_rules.specs.expressions.Exprs.{FoundField, bits_literal, found, matches, typed_rule, expr_rule, given_rule, slice_rule, part_rule, bitfield_rule, type_rule, pattern_rule}
use Rattle.asl_rules.specs.types.Writing.{FoundPart, FoundBitfield, FoundType}
use Rattle.asl_rules.specs.statements.Branches.{all_patterns}
use Rattle.asl_rules.specs.report.MaskTables.{Masks, expr_literal, pattern_literal, literal_of, with_literal, literals, is_even, are_wide, width_in}
use Rattle.asl_rules.proofs.basics.Inversions.{bind_ok, then_ok, need_ok, found_ok}
use Rattle.asl_rules.proofs.basics.Tests.{no, both, and_true, some_same, none_some}
use Rattle.asl_rules.proofs.basics.Opening.{opened, pattern_opened, unrolled, in_class_is}
use Rattle.asl_rules.specs.types.Closed.{width_at}
use Rattle.asl_rules.proofs.values.SameKind.{number_is}
use Rattle.asl_rules.proofs.values.Rounded.{same_width_at, constant_at}
use Rattle.asl_laws.proofs.basics.Lists.{AllOf}

-- ---- literals of bits

put_on : (m : Option Bool) (o : Option (List Bool)) (bs : List Bool) (n : ℕ) → ((cs : List Bool) → o ≡ Some cs → length cs ≡ n) →
    option_and_then (λ b. option_map (λ cs. b ∷ cs) o) m ≡ Some bs → length bs ≡ suc n
put_on None o bs n h e = none_some bs e
put_on (Some b) None bs n h e = none_some bs e
put_on (Some b) (Some cs) bs n h e = ap length (sym (some_same (b ∷ cs) bs e)) ∙ ap suc (h cs refl)

fixed_length : (ms : Digits) (bs : List Bool) → fixed_bits ms ≡ Some bs → length bs ≡ length ms
unfolding fixed_bits
fixed_length [] bs e = ap length (sym (some_same [] bs e))
fixed_length (m ∷ ms) bs e = put_on m (fixed_bits ms) bs (length ms) (fixed_length ms) e

read_within : (within : Bool) (ms : Digits) (bs : List Bool) → (if within then fixed_bits ms else None) ≡ Some bs → within ≡ true
read_within true ms bs e = refl
read_within false ms bs e = none_some bs e

read_length : (within : Bool) (ms : Digits) (bs : List Bool) → (if within then fixed_bits ms else None) ≡ Some bs → length bs ≡ length ms
read_length true ms bs e = fixed_length ms bs e
read_length false ms bs e = none_some bs e

-- ---- types that bits are compared with

same_as_bits : (T : Ty) (w : Polynomial) (v : View) → same_kind T (bits_of w v) ≡ true → is_bits T ≡ true
same_as_bits (integer_of ps) w v h = no h
same_as_bits boolean w v h = no h
same_as_bits (bits_of p view) w v h = refl
same_as_bits (enumeration_of name labels) w v h = no h
same_as_bits (record_of name fs) w v h = no h
same_as_bits (exception_of name fs) w v h = no h
same_as_bits (tuple_of ts) w v h = no h
same_as_bits (array_of n S) w v h = no h
same_as_bits (named name supers S) w v h = same_as_bits S w v h

same_pos : (m n : ℕ) → pos m ≡ pos n → m ≡ n
same_pos m n h = cc

where_so : (b c : Bool) → b ≡ true → (if b then c else true) ≡ true → c ≡ true
where_so true c p h = h
where_so false c p h = no p

module _ (t : Tests) where
  -- bits of the type have as many digits as the mask, which are within the limit
  pub record FitsType (T : Ty) (m : Digits) : Type 0 where
    pub wide : t.same (width_of T) (constant_map (pos (length m))) ≡ true
    pub within : length m ≤ t.limit

  -- ---- one pattern

  -- a literal of bits with so many digits has a type
  record LiteralTyped (S : Typed) (m : Digits) : Type 0 where
    type_is : S.ty ≡ bits_wide (length m)
    within : length m ≤ t.limit

  bits_typed : (span : Span) (text : List ℕ) (G : Scope) (S : Typed) → typed_rule t (ex.Bits span text) G ≡ Ok S →
      LiteralTyped S (literal_digits text)
  bits_typed span text G S h =
      let ms = literal_digits text in
      let a = bind_ok (found_or (literal_bits t.limit text) S03 span) (λ bs. bits_literal G.class span bs) S h in
      let o = found_ok (literal_bits t.limit text) S03 span a.value a.first in
      let s = in_class_is G.class span Pure (bits_wide (length a.value)) (λ n. tree.Constant n (bits_with a.value [])) S a.then in
      record {
        type_is = sym (ap (λ (z : Typed). z.ty) s) ∙ ap bits_wide (read_length (nat_le (length ms) t.limit) ms a.value o);
        within = leb-true (length ms) t.limit (read_within (nat_le (length ms) t.limit) ms a.value o);
      }

  literal_typed : (x : ExprLayer) (G : Scope) (S : Typed) → typed_rule t (opened t x) G ≡ Ok S → (m : Digits) → expr_literal x ≡ Some m →
      LiteralTyped S m
  literal_typed (ex.Int span n) G S h m e = none_some m e
  literal_typed (ex.Bits span text) G S h m e = subst (LiteralTyped S) (some_same (literal_digits text) m e) (bits_typed span text G S h)
  literal_typed (ex.Bool span b) G S h m e = none_some m e
  literal_typed (ex.Name span name) G S h m e = none_some m e
  literal_typed (ex.Unary span o a) G S h m e = none_some m e
  literal_typed (ex.Binary span o a b) G S h m e = none_some m e
  literal_typed (ex.Conditional span c a b) G S h m e = none_some m e
  literal_typed (ex.Tuple span es) G S h m e = none_some m e
  literal_typed (ex.Construct span i gs) G S h m e = none_some m e
  literal_typed (ex.Call span i ps es) G S h m e = none_some m e
  literal_typed (ex.Field span a i) G S h m e = none_some m e
  literal_typed (ex.Fields span a is) G S h m e = none_some m e
  literal_typed (ex.Slices span a ss) G S h m e = none_some m e
  literal_typed (ex.Element span a i) G S h m e = none_some m e
  literal_typed (ex.As span a T) G S h m e = none_some m e
  literal_typed (ex.In span a p) G S h m e = none_some m e

  value_fits : (span : Span) (T : Ty) (S : Typed) (m : Digits) → LiteralTyped S m → comparable t T23 span T S.ty ≡ Ok tt → FitsType T m
  value_fits span T S m l h =
      let U = bits_wide (length m) in
      let k = subst (λ V. comparable t T23 span T V ≡ Ok tt) l.type_is h in
      let a = then_ok (need (same_kind T U && is_comparable T) T23 span) (need (same_widths t T U) T06 span) tt k in
      let b = both (same_kind T U) (is_comparable T) (need_ok (same_kind T U && is_comparable T) T23 span tt a.first) in
      record {
        wide =
            where_so (is_bits T) (t.same (width_of T) (width_of U)) (same_as_bits T (constant_map (pos (length m))) [] b.0)
            (need_ok (same_widths t T U) T06 span tt a.then);
        within = l.within;
      }

  mask_fits : (span : Span) (ms : Digits) (T : Ty) (M : Matched) → mask_matched t span ms T ≡ Ok M → FitsType T ms
  mask_fits span ms T M h =
      let a = then_ok (need (is_bits T) T23 span) _ M h in
      let b = then_ok (need (t.same (width_of T) (constant_map (pos (length ms)))) T06 span) _ M a.then in
      let c = then_ok (need (nat_le (length ms) t.limit) T20 span) _ M b.then in
      record {
        wide = need_ok (t.same (width_of T) (constant_map (pos (length ms)))) T06 span tt b.first;
        within = leb-true (length ms) t.limit (need_ok (nat_le (length ms) t.limit) T20 span tt c.first);
      }

  layer_fits : (x : ex.Pattern-F Bitfield ConstraintPart Expr FieldValue Pattern Slice TypeExpr) (T : Ty) (G : Scope) (M : Matched) →
      pattern_rule t (pattern_opened t x) T G ≡ Ok M → (m : Digits) → pattern_literal x ≡ Some m → FitsType T m
  layer_fits (ex.AnyPattern span) T G M h m e = none_some m e
  layer_fits (ex.SetPattern span b ps) T G M h m e = none_some m e
  layer_fits (ex.MaskPattern span text) T G M h m e =
      subst (FitsType T) (some_same (literal_digits text) m e) (mask_fits span (literal_digits text) T M h)
  layer_fits (ex.AtMost span a) T G M h m e = none_some m e
  layer_fits (ex.AtLeast span a) T G M h m e = none_some m e
  layer_fits (ex.TuplePattern span ps) T G M h m e = none_some m e
  layer_fits (ex.ValuePattern span a) T G M h m e =
      let s = bind_ok (pure_typed (found t a) G) (λ S. value_matched t span T S) M h in
      let c = then_ok (comparable t T23 span T s.value.ty) _ M s.then in
      let r = subst (λ (z : Found). z.typed (with_class G Pure) ≡ Ok s.value) (unrolled t a) s.first in
      value_fits span T s.value m (literal_typed (out-Expr a) (with_class G Pure) s.value r m e) c.first
  layer_fits (ex.RangePattern span a b) T G M h m e = none_some m e

  pattern_fits : (p : Pattern) (T : Ty) (G : Scope) (M : Matched) → matches t p T G ≡ Ok M → (m : Digits) → literal_of p ≡ Some m →
      FitsType T m
  pattern_fits p T G M h m e =
      layer_fits (out-Pattern p) T (with_class G Pure) M (subst (λ (r : FoundPattern). r T (with_class G Pure) ≡ Ok M)
      (fold_out-Pattern FoundBitfield FoundPart Found FoundField FoundPattern FoundSlice FoundType bitfield_rule part_rule (expr_rule t)
      given_rule (pattern_rule t) slice_rule (type_rule t) p) h) m e

  -- ---- all patterns of an alternative

  abbrev pub AllFit : Ty → Masks → Type 0
  AllFit T ls = AllOf (λ (x : ℕ × Digits). FitsType T x.1) ls

  one_more : (T : Ty) (n : ℕ) (o : Option Digits) (os : Option Masks) → ((m : Digits) → o ≡ Some m → FitsType T m) →
      ((ls : Masks) → os ≡ Some ls → AllFit T ls) → (ls : Masks) → with_literal n o os ≡ Some ls → AllFit T ls
  one_more T n None os h k ls e = none_some ls e
  one_more T n (Some m) None h k ls e = none_some ls e
  one_more T n (Some m) (Some ms) h k ls e = subst (AllFit T) (some_same ((n, m) ∷ ms) ls e) (h m refl, k ms refl)

  pub literals_fit : (T : Ty) (G : Scope) (ps : List Pattern) (Ms : List Matched) → all_patterns t ps T G ≡ Ok Ms → (n : ℕ) (ls : Masks) →
      literals n ps ≡ Some ls → AllFit T ls
  literals_fit T G [] Ms h n ls e = subst (AllFit T) (some_same [] ls e) tt
  literals_fit T G (p ∷ ps) Ms h n ls e =
      let a = bind_ok (matches t p T G) _ Ms h in
      let b = bind_ok (all_patterns t ps T G) _ Ms a.then in
      one_more T n (literal_of p) (literals n ps) (pattern_fits p T G a.value a.first) (literals_fit T G ps b.value b.first n) ls e

  -- ---- masks that fit one type have one width

  -- the masks have one width, which is within the limit
  pub record IsEven (ls : Masks) : Type 0 where
    pub even : is_even ls ≡ true
    pub within : width_in ls ≤ t.limit

  module _ (right : IsRight t) where
    -- that of the type, whatever integers the names stand for
    width_is : (T : Ty) (m : Digits) → FitsType T m → width_at (width_of T) (λ n. pos 0) ≡ pos (length m)
    width_is T m h =
        let e = right.same_yes (width_of T) (constant_map (pos (length m))) h.wide in
        same_width_at (λ n. pos 0) (width_of T) (constant_map (pos (length m))) e.left e.right (e.same (λ n. pos 0)) ∙
        constant_at (λ n. pos 0) (pos (length m))

    one_width : (T : Ty) (m n : Digits) → FitsType T m → FitsType T n → length m ≡ length n
    one_width T m n h k = same_pos (length m) (length n) (sym (width_is T m h) ∙ width_is T n k)

    are_even : (T : Ty) (m : Digits) (ls : Masks) → FitsType T m → AllFit T ls → are_wide (length m) ls ≡ true
    are_even T m [] h k = refl
    are_even T m ((n, l) ∷ ls) h k =
        and_true (length l == length m) (are_wide (length m) ls)
        (subst (λ w. (w == length m) ≡ true) (one_width T m l h k.0) (number_is (length m))) (are_even T m ls h k.1)

    pub fit_even : (T : Ty) (ls : Masks) → AllFit T ls → IsEven ls
    fit_even T [] h = record { even = refl; within = zero-le }
    fit_even T ((n, m) ∷ ls) h = record { even = are_even T m ((n, m) ∷ ls) h.0 h; within = h.0.within }
