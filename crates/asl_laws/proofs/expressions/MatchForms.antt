-- Patterns with their typed trees: the expressions in them are the same, in order, and a value of the type that they fit is decided with their values.
use Rattle.std.proofs.Common.{nat_le, ◌≡◌, ℕ, ℤ, pos, ◌&&◌, cond, Bool, true, false, List, [], ◌∷◌, ◌++◌, length, Option, Some, Ok, refl, sym, ap, ◌∙◌, subst, map, append_assoc}
use Rattle.std.specs.Prelude.{◌==◌}
use Rattle.asl_syn.specs.declared.token.Span.{Span}
use Rattle.asl_syn.specs.declared.code.StaticCode.TheVariants.{T06, T08, T20, T23}
use Rattle.asl_syn.specs.declared.tree.BinaryOperator.TheVariants as binary
use Rattle.asl_syn.specs.declared.tree.Bitfield.{Bitfield}
use Rattle.asl_syn.specs.declared.tree.ConstraintPart.{ConstraintPart}
use Rattle.asl_syn.specs.declared.tree.Expr.{Expr}
use Rattle.asl_syn.specs.declared.tree.FieldValue.{FieldValue}
use Rattle.asl_syn.specs.declared.tree.Pattern.{Pattern, roll-Pattern}
use Rattle.asl_syn.specs.declared.tree.Slice.{Slice}
use Rattle.asl_syn.specs.declared.tree.TypeExpr.{TypeExpr}
use Rattle.asl_syn.specs.declared.tree.Bitfield.TheOpen as ex
use Rattle.asl_syn.specs.declared.tree.Bitfield.TheFolds.{fold-roll-Pattern, para-roll-Pattern, map-Pattern, ind-Pattern}
use Rattle.asl_poly.specs.Poly.{constant_map}
use Rattle.asl_mask.specs.Digits.{mask_matches}
use Rattle.asl_rules.specs.declared.effect.Effect.TheVariants.{Pure}
use Rattle.asl_rules.specs.Faults.{◌>>◌, need, found_or}
use Rattle.asl_rules.specs.Tests.{Tests, IsRight, SameWidth}
use Rattle.asl_rules.specs.types.Types.{Ty, Parts, boolean, no_part, part, is_integer, is_bits, width_of, tuple_parts, tuple_of, named, same_kind}
use Rattle.asl_rules.specs.types.Closed.{Assignment, width_at}
use Rattle.asl_rules.specs.declarations.Scopes.{Entry, Signature, with_class}
use Rattle.asl_rules.specs.types.Shapes.{PatternShape, anything, one_of, masked, at_most, at_least, in_parts, equal_to, between, no_pattern, pattern_and}
use Rattle.asl_rules.specs.types.Shaped as shaped
use Rattle.asl_rules.specs.types.Shaped.{Shaped, Unread, pattern_layer, pattern_parts, exprs_in, shapes_in}
use Rattle.asl_rules.specs.runs.Trees.{Tree}
use Rattle.asl_rules.specs.expressions.Typing.{Found, Typed}
use Rattle.asl_rules.specs.expressions.Operations.{binary_rule, comparable, is_comparable, same_widths}
use Rattle.asl_rules.specs.expressions.Patterns.{Matched, FoundPattern, all_match, as_many, parts_match, pattern_shapes, pattern_trees, set_matched, matched}
use Rattle.asl_rules.specs.expressions.Slicing.{FoundSlice}
use Rattle.asl_rules.specs.types.Writing.{FoundPart, FoundBitfield, FoundType}
use Rattle.asl_rules.specs.values.Vectors.{literal_digits}
use Rattle.asl_rules.specs.expressions.Exprs.{FoundField, found_pattern, typed, expr_rule, given_rule, slice_rule, part_rule, bitfield_rule, type_rule, pattern_rule}
use Rattle.asl_rules.specs.values.Values.{Value, Values, int, tuple_with, no_value, value, is_width}
use Rattle.asl_rules.specs.private.Belonging.{InType, has_type, parts_have}
use Rattle.asl_rules.specs.private.Agreement.{types_in}
use Rattle.asl_rules.specs.runs.Plans.{Faulted, Stuck, WrongKind, Pure as PureOf, Good, Bad}
use Rattle.asl_rules.specs.runs.Pures.{◌>>=◌}
use Rattle.asl_rules.specs.values.Operators.{binary_value, truth}
use Rattle.asl_rules.specs.values.Structures.{parts, values_in}
use Rattle.asl_rules.specs.values.Matching as runs
use Rattle.asl_rules.specs.values.Matching.{matches, any_match, all_match as each_match, mask_match, value_match, negated_or}
use Rattle.asl_rules.proofs.basics.Inversions.{ok_ok, bind_ok, then_ok, need_ok, found_ok}
use Rattle.asl_rules.proofs.basics.Tests.{no, both, some_same, none_some}
use Rattle.asl_rules.proofs.values.Rounded.{same_width_at, constant_at}
use Rattle.asl_rules.proofs.values.Shapes.{named_parts}
use Rattle.asl_rules.proofs.values.SameKind.{same_number, number_is}
use Rattle.asl_rules.proofs.basics.Opening.{pattern_opened}
use Rattle.asl_rules.proofs.values.Viewing.{same_first, same_rest}
use Rattle.asl_rules.proofs.expressions.OperatorForms.{Gives, OneKind, is_int, is_bool, is_bitvector, binary_gives}
use Rattle.asl_rules.proofs.values.KindsByNames.{one_kind}
use Rattle.asl_laws.proofs.expressions.Claims.{Here, Asked, of_pure, GivesAsked}
use Rattle.asl_laws.proofs.expressions.TreePlans.{AllAsked, AllGive}
use Rattle.asl_rules.specs.private.WellFormed.{Shaped as TypeShaped, ShapedParts, WellDeclared, WellFormed}

-- the pattern is decided, and these values are left
abbrev pub Decided : PureOf runs.Matched → List Value → Type 0
Decided (Good m) rest = m.left ≡ rest
Decided (Bad (Faulted code span)) rest = Unit {0}
Decided (Bad (Stuck mistake span)) rest = ⊥

pub decided_then : (r : PureOf runs.Matched) (f : runs.Matched → PureOf runs.Matched) (mid rest : List Value) → Decided r mid → ((m : runs.Matched) → m.left ≡ mid → Decided (f m) rest) → Decided (r >>= f) rest
decided_then (Good m) f mid rest d k = k m d
decided_then (Bad (Faulted code span)) f mid rest d k = tt
decided_then (Bad (Stuck mistake span)) f mid rest d k = absurd d

-- the parts of a tuple's type
tuple_values : Value → Values
tuple_values (tuple_with xs) = xs
tuple_values x = no_value

same_tuple : (xs ys : Values) → tuple_with xs ≡ tuple_with ys → xs ≡ ys
unfolding tuple_values
same_tuple xs ys h = ap tuple_values h

module _ (tests : Tests) (right : IsRight tests) (base : List Entry) (subs : List Signature) (loose : Bool) (H : Here) where
  abbrev d : List ℕ → Option Ty
  d = types_in base

  abbrev av : Assignment
  av = H.present

  abbrev Asks : List Expr → List Tree → List Asked → Type 0
  Asks es ts qs = AllAsked tests right base subs loose H.scope es ts qs

  abbrev Give : List Asked → List Value → Type 0
  Give qs xs = AllGive tests right base subs loose H qs xs

  pub asks_both : (es fs : List Expr) (ts us : List Tree) (qs rs : List Asked) → Asks es ts qs → Asks fs us rs → Asks (es ++ fs) (ts ++ us) (qs ++ rs)
  asks_both [] fs [] us [] rs h k = k
  asks_both [] fs [] us (q ∷ qs) rs h k = absurd h
  asks_both [] fs (t ∷ ts) us qs rs h k = absurd h
  asks_both (e ∷ es) fs [] us qs rs h k = absurd h
  asks_both (e ∷ es) fs (t ∷ ts) us [] rs h k = absurd h
  asks_both (e ∷ es) fs (t ∷ ts) us (q ∷ qs) rs h k = (h.0, h.1, asks_both es fs ts us qs rs h.2 k)

  pub record Split (qs rs : List Asked) (xs : List Value) : Type 0 where
    pub first : List Value
    pub second : List Value
    pub are : xs ≡ first ++ second
    pub own : Give qs first
    pub others : Give rs second

  pub split : (qs rs : List Asked) (xs : List Value) → Give (qs ++ rs) xs → Split qs rs xs
  split [] rs xs g = record { first = []; second = xs; are = refl; own = tt; others = g }
  split (q ∷ qs) rs [] g = absurd g
  split (q ∷ qs) rs (x ∷ xs) g = let s = split qs rs xs g.1 in record { first = x ∷ s.first; second = s.second; are = ap (λ l. x ∷ l) s.are; own = (g.0, s.own); others = s.others }

  -- what is found at a pattern against a type
  pub record Says (p : Shaped PatternShape Expr) (T : Ty) (m : Matched) : Type 0 where
    pub asked : List Asked
    pub shape_is : p.shape ≡ m.shape
    pub asks : Asks p.exprs m.trees asked
    pub decides : (x : Value) (xs rest : List Value) → InType d av x T → Give asked xs → Decided (matches tests.limit m.shape x (xs ++ rest)) rest

  -- what is known of types where a pattern stands
  pub record Known : Type 0 where
    pub declared : WellDeclared (types_in base)
    pub formed : (e : Expr) (S : Typed) → typed tests e (with_class H.scope Pure) ≡ Ok S → WellFormed (types_in base) S.ty

  abbrev pub Good_pattern : Pattern → Type 0
  Good_pattern p = (T : Ty) (m : Matched) → Known → TypeShaped d T → found_pattern tests p T (with_class H.scope Pure) ≡ Ok m → Says (pattern_parts p) T m

  abbrev Any : {A : Type 0} → A → Type 0
  Any x = Unit {0}

  abbrev Below : Type 0
  Below = ex.Pattern-F ((b : Bitfield) × Any b) ((p : ConstraintPart) × Any p) ((e : Expr) × Any e) ((f : FieldValue) × Any f) ((p : Pattern) × Good_pattern p) ((s : Slice) × Any s) ((t : TypeExpr) × Any t)

  abbrev PatternLayer : Type 0
  PatternLayer = ex.Pattern-F Bitfield ConstraintPart Expr FieldValue Pattern Slice TypeExpr

  abbrev trees : Below → PatternLayer
  trees = map-Pattern ((b : Bitfield) × Any b) ((p : ConstraintPart) × Any p) ((e : Expr) × Any e) ((f : FieldValue) × Any f) ((p : Pattern) × Good_pattern p) ((s : Slice) × Any s) ((t : TypeExpr) × Any t)
      Bitfield ConstraintPart Expr FieldValue Pattern Slice TypeExpr (λ x. x.0) (λ x. x.0) (λ x. x.0) (λ x. x.0) (λ x. x.0) (λ x. x.0) (λ x. x.0)

  -- ---- expressions in patterns

  one_asked : (e : Expr) (S : Typed) → typed tests e (with_class H.scope Pure) ≡ Ok S → Asks (e ∷ []) (S.tree ∷ []) (of_pure S ∷ [])
  one_asked e S h = (h, refl, tt)

  -- ---- lists

  record AllSay (ps : List Pattern) (T : Ty) (ms : List Matched) : Type 0 where
    pub asked : List Asked
    pub shapes_are : shaped.pattern_shapes (shapes_in pattern_parts ps) ≡ pattern_shapes ms
    pub asks : Asks (exprs_in pattern_parts ps) (pattern_trees ms) asked
    pub decides : (x : Value) (xs rest : List Value) → InType d av x T → Give asked xs → Decided (any_match tests.limit (pattern_shapes ms) x (xs ++ rest)) rest

  all_say : (ps : List ((p : Pattern) × Good_pattern p)) (T : Ty) (ms : List Matched) → Known → TypeShaped d T → all_match (map (found_pattern tests) (map (λ p. p.0) ps)) T (with_class H.scope Pure) ≡ Ok ms → AllSay (map (λ p. p.0) ps) T ms
  all_say [] T ms known of_type h = subst (AllSay [] T) (ok_ok [] ms h) (record { asked = []; shapes_are = refl; asks = tt; decides = λ x xs rest i g. none_left xs rest g })
    where
      none_left : (xs rest : List Value) → Give [] xs → xs ++ rest ≡ rest
      none_left [] rest g = refl
      none_left (x ∷ xs) rest g = absurd g
  all_say (p ∷ ps) T ms known of_type h =
      let s = bind_ok (found_pattern tests p.0 T (with_class H.scope Pure)) _ ms h in
      let r = bind_ok (all_match (map (found_pattern tests) (map (λ p. p.0) ps)) T (with_class H.scope Pure)) _ ms s.then in
      let a = p.1 T s.value known of_type s.first in
      let b = all_say ps T r.value known of_type r.first in
      subst (AllSay (map (λ p. p.0) (p ∷ ps)) T) (ok_ok (s.value ∷ r.value) ms r.then)
      (record {
        asked = a.asked ++ b.asked;
        shapes_are = ap (λ q. pattern_and q (shaped.pattern_shapes (shapes_in pattern_parts (map (λ p. p.0) ps)))) a.shape_is ∙ ap (pattern_and s.value.shape) b.shapes_are;
        asks = asks_both (pattern_parts p.0).exprs (exprs_in pattern_parts (map (λ p. p.0) ps)) s.value.trees (pattern_trees r.value) a.asked b.asked a.asks b.asks;
        decides = λ x xs rest i g.
            let v = split a.asked b.asked xs g in
            subst (λ l. Decided (any_match tests.limit (pattern_and s.value.shape (pattern_shapes r.value)) x (l ++ rest)) rest) (sym v.are)
            (subst (λ l. Decided (any_match tests.limit (pattern_and s.value.shape (pattern_shapes r.value)) x l) rest) (sym (append_assoc v.first v.second rest))
            (decided_then (matches tests.limit s.value.shape x (v.first ++ (v.second ++ rest))) _ (v.second ++ rest) rest (a.decides x v.first (v.second ++ rest) i v.own) (λ m e.
            decided_then (any_match tests.limit (pattern_shapes r.value) x m.left) _ rest rest (subst (λ l. Decided (any_match tests.limit (pattern_shapes r.value) x l) rest) (sym e) (b.decides x v.second rest i v.others)) (λ n k. k))));
      })

  record PartsSay (ps : List Pattern) (Ts : Parts) (ms : List Matched) : Type 0 where
    pub asked : List Asked
    pub shapes_are : shaped.pattern_shapes (shapes_in pattern_parts ps) ≡ pattern_shapes ms
    pub asks : Asks (exprs_in pattern_parts ps) (pattern_trees ms) asked
    pub decides : (span : Span) (ys : Values) (xs rest : List Value) → InType d av (tuple_with ys) (tuple_of Ts) → Give asked xs → Decided (each_match tests.limit span (pattern_shapes ms) (values_in ys) (xs ++ rest)) rest

  parts_say : (ps : List ((p : Pattern) × Good_pattern p)) (Ts : Parts) (ms : List Matched) → Known → ShapedParts d Ts → as_many (map (found_pattern tests) (map (λ p. p.0) ps)) Ts ≡ true → parts_match (map (found_pattern tests) (map (λ p. p.0) ps)) Ts (with_class H.scope Pure) ≡ Ok ms → PartsSay (map (λ p. p.0) ps) Ts ms
  parts_say [] (part T Ts) ms known of_parts n h = no n
  parts_say (p ∷ ps) no_part ms known of_parts n h = no n
  parts_say [] no_part ms known of_parts n h = subst (PartsSay [] no_part) (ok_ok [] ms h) (record { asked = []; shapes_are = refl; asks = tt; decides = λ span ys xs rest i g. none_left span ys xs rest i.0 g })
    where
      none_left : (span : Span) (ys : Values) (xs rest : List Value) → parts_have av ys no_part ≡ true → Give [] xs → Decided (each_match tests.limit span no_pattern (values_in ys) (xs ++ rest)) rest
      none_left span no_value [] rest i g = refl
      none_left span no_value (x ∷ xs) rest i g = absurd g
      none_left span (value y ys) xs rest i g = no i
  parts_say (p ∷ ps) (part T Ts) ms known of_parts n h =
      let s = bind_ok (found_pattern tests p.0 T (with_class H.scope Pure)) _ ms h in
      let r = bind_ok (parts_match (map (found_pattern tests) (map (λ p. p.0) ps)) Ts (with_class H.scope Pure)) _ ms s.then in
      let a = p.1 T s.value known of_parts.1 s.first in
      let b = parts_say ps Ts r.value known of_parts.2 n r.first in
      subst (PartsSay (map (λ p. p.0) (p ∷ ps)) (part T Ts)) (ok_ok (s.value ∷ r.value) ms r.then)
      (record {
        asked = a.asked ++ b.asked;
        shapes_are = ap (λ q. pattern_and q (shaped.pattern_shapes (shapes_in pattern_parts (map (λ p. p.0) ps)))) a.shape_is ∙ ap (pattern_and s.value.shape) b.shapes_are;
        asks = asks_both (pattern_parts p.0).exprs (exprs_in pattern_parts (map (λ p. p.0) ps)) s.value.trees (pattern_trees r.value) a.asked b.asked a.asks b.asks;
        decides = λ span ys xs rest i g. each a.asked b.asked s.value r.value (λ x xs1 rest1 j k. a.decides x xs1 rest1 j k) (λ span1 ys1 xs1 rest1 j k. b.decides span1 ys1 xs1 rest1 j k) span ys xs rest i g;
      })
    where
      each : (qs rs : List Asked) (m0 : Matched) (ms0 : List Matched) → ((x : Value) (xs rest : List Value) → InType d av x T → Give qs xs → Decided (matches tests.limit m0.shape x (xs ++ rest)) rest) →
          ((span : Span) (ys : Values) (xs rest : List Value) → InType d av (tuple_with ys) (tuple_of Ts) → Give rs xs → Decided (each_match tests.limit span (pattern_shapes ms0) (values_in ys) (xs ++ rest)) rest) →
          (span : Span) (ys : Values) (xs rest : List Value) → InType d av (tuple_with ys) (tuple_of (part T Ts)) → Give (qs ++ rs) xs → Decided (each_match tests.limit span (pattern_and m0.shape (pattern_shapes ms0)) (values_in ys) (xs ++ rest)) rest
      each qs rs m0 ms0 f g span no_value xs rest i l = no i.0
      each qs rs m0 ms0 f g span (value y ys) xs rest i l =
          let v = split qs rs xs l in
          let h = both (has_type av y T) (parts_have av ys Ts) i.0 in
          let e = same_tuple _ _ i.2 in
          let j : InType d av y T = (h.0, i.1.0, same_first _ y _ ys e) in
          let k : InType d av (tuple_with ys) (tuple_of Ts) = (h.1, i.1.1, ap tuple_with (same_rest _ y _ ys e)) in
          subst (λ z. Decided (each_match tests.limit span (pattern_and m0.shape (pattern_shapes ms0)) (y ∷ values_in ys) (z ++ rest)) rest) (sym v.are)
          (subst (λ z. Decided (each_match tests.limit span (pattern_and m0.shape (pattern_shapes ms0)) (y ∷ values_in ys) z) rest) (sym (append_assoc v.first v.second rest))
          (decided_then (matches tests.limit m0.shape y (v.first ++ (v.second ++ rest))) _ (v.second ++ rest) rest (f y v.first (v.second ++ rest) j v.own) (λ m e2.
          decided_then (each_match tests.limit span (pattern_shapes ms0) (values_in ys) m.left) _ rest rest (subst (λ z. Decided (each_match tests.limit span (pattern_shapes ms0) (values_in ys) z) rest) (sym e2) (g span ys v.second rest k v.others)) (λ n e3. e3))))

  -- ---- each pattern

  said : (p : Shaped PatternShape Expr) (T : Ty) (m n : Matched) → m ≡ n → Says p T m → Says p T n
  said p T m n e s = subst (Says p T) e s

  no_asked : (xs rest : List Value) → Give [] xs → xs ++ rest ≡ rest
  no_asked [] rest g = refl
  no_asked (x ∷ xs) rest g = absurd g

  -- one expression, and two
  pub one_value : (P : List Value → Type 0) (q : Asked) (xs rest : List Value) → Give (q ∷ []) xs → ((y : Value) → GivesAsked d av q y → P (y ∷ rest)) → P (xs ++ rest)
  one_value P q [] rest g k = absurd g
  one_value P q (y ∷ []) rest g k = k y g.0
  one_value P q (y ∷ z ∷ xs) rest g k = absurd g.1

  -- one expression and more behind it
  pub one_first : (P : List Value → Type 0) (q : Asked) (qs : List Asked) (xs : List Value) → Give (q ∷ qs) xs → ((y : Value) (ys : List Value) → GivesAsked d av q y → Give qs ys → P (y ∷ ys)) → P xs
  one_first P q qs [] g k = absurd g
  one_first P q qs (y ∷ ys) g k = k y ys g.0 g.1

  pub two_values : (P : List Value → Type 0) (q r : Asked) (xs rest : List Value) → Give (q ∷ r ∷ []) xs → ((y z : Value) → GivesAsked d av q y → GivesAsked d av r z → P (y ∷ z ∷ rest)) → P (xs ++ rest)
  two_values P q r [] rest g k = absurd g
  two_values P q r (y ∷ []) rest g k = absurd g.1
  two_values P q r (y ∷ z ∷ []) rest g k = k y z g.0 g.1.0
  two_values P q r (y ∷ z ∷ v ∷ xs) rest g k = absurd g.1.1

  set_decided : (b : Bool) (r : PureOf runs.Matched) (rest : List Value) → Decided r rest → Decided (r >>= λ m. negated_or b m) rest
  set_decided true (Good m) rest h = h
  set_decided false (Good m) rest h = h
  set_decided b (Bad (Faulted code span)) rest h = tt
  set_decided b (Bad (Stuck mistake span)) rest h = absurd h

  mask_width : (ms : List (Option Bool)) (bs : List Bool) (T : Ty) → is_width (length bs) (width_at (width_of T) av) ≡ true → SameWidth (width_of T) (constant_map (pos (length ms))) → (length ms == length bs) ≡ true
  mask_width ms bs T h e =
      let k : (length bs == length ms) ≡ true =
      subst (λ z. is_width (length bs) z ≡ true)
      (same_width_at av (width_of T) (constant_map (pos (length ms))) e.left e.right (e.same av) ∙ constant_at av (pos (length ms)))
      h in
      subst (λ n. (n == length bs) ≡ true) (same_number (length bs) (length ms) k) (number_is (length bs))

  compared_ok : (span : Span) (T S : Ty) → comparable tests T23 span T S ≡ Ok tt → binary_rule tests span binary.Equal T S ≡ Ok boolean
  compared_ok span T S h =
      let p = then_ok (need (same_kind T S && is_comparable T) T23 span) (need (same_widths tests T S) T06 span) tt h in
      by (same_kind T S && is_comparable T) (same_widths tests T S) (need_ok (same_kind T S && is_comparable T) T23 span tt p.first) (need_ok (same_widths tests T S) T06 span tt p.then)
    where
      by : (b c : Bool) → b ≡ true → c ≡ true → ((need b T08 span >> need c T06 span) >> Ok boolean) ≡ Ok boolean
      by true true h k = refl
      by true false h k = no k
      by false c h k = no h

  -- the value is as wide as the mask
  mask_by : (b : Bool) (span : Span) (ms : List (Option Bool)) (bs : List Bool) (rest : List Value) → b ≡ true → Decided (cond b (runs.matched (mask_matches ms bs) rest) (Bad (Stuck WrongKind span))) rest
  mask_by true span ms bs rest h = refl
  mask_by false span ms bs rest h = no h

  mask_decided : (span : Span) (ms : List (Option Bool)) (T : Ty) (x : Value) (rest : List Value) → is_bits T ≡ true → tests.same (width_of T) (constant_map (pos (length ms))) ≡ true → InType d av x T → Decided (mask_match span ms x rest) rest
  mask_decided span ms T x rest k s i =
      let b = is_bitvector d av tests right T x k i in
      let e = (right.same_yes (width_of T) (constant_map (pos (length ms))) s) in
      subst (λ y. Decided (mask_match span ms y rest) rest) (sym b.2) (mask_by (length ms == length b.0) span ms b.0 rest (mask_width ms b.0 T b.3 e))

  -- integers
  ints_decide : (p : PatternShape) (x y : Value) (T S : Ty) (rest : List Value) → is_integer T ≡ true → is_integer S ≡ true → InType d av x T → InType d av y S → ((a b : ℤ) → Decided (matches tests.limit p (int a) (int b ∷ rest)) rest) → Decided (matches tests.limit p x (y ∷ rest)) rest
  ints_decide p x y T S rest k l i j f =
      let a = is_int d av tests right T x k i in
      let b = is_int d av tests right S y l j in
      subst (λ v. Decided (matches tests.limit p v (y ∷ rest)) rest) (sym a.1) (subst (λ v. Decided (matches tests.limit p (int a.0) (v ∷ rest)) rest) (sym b.1) (f a.0 b.0))

  three_decide : (span : Span) (x y z : Value) (T S U : Ty) (rest : List Value) → is_integer T ≡ true → is_integer S ≡ true → is_integer U ≡ true → InType d av x T → InType d av y S → InType d av z U → Decided (matches tests.limit (between span) x (y ∷ z ∷ rest)) rest
  three_decide span x y z T S U rest k l m i j n =
      let a = is_int d av tests right T x k i in
      let b = is_int d av tests right S y l j in
      let c = is_int d av tests right U z m n in
      subst (λ v. Decided (matches tests.limit (between span) v (y ∷ z ∷ rest)) rest) (sym a.1) (subst (λ v. Decided (matches tests.limit (between span) (int a.0) (v ∷ z ∷ rest)) rest) (sym b.1) (subst (λ v. Decided (matches tests.limit (between span) (int a.0) (int b.0 ∷ v ∷ rest)) rest) (sym c.1) refl))

  -- `==`
  equal_decided : (span : Span) (x y : Value) (T S : Ty) (rest : List Value) → OneKind T S → comparable tests T23 span T S ≡ Ok tt →
      TypeShaped d T → TypeShaped d S → InType d av x T → InType d av y S → Decided (value_match tests.limit span x (y ∷ rest)) rest
  equal_decided span x y T S rest e h l m i j =
      by (binary_value tests.limit span binary.Equal x y)
      (binary_gives d av tests right span binary.Equal T S boolean x y e (compared_ok span T S h) (i, l) (j, m))
    where
      by : (r : PureOf Value) → Gives d av boolean r → Decided (r >>= λ v. truth span v >>= λ b. runs.matched b rest) rest
      by (Good v) g = let b = is_bool d av tests right boolean v refl g in subst (λ z. Decided (truth span z >>= λ b. runs.matched b rest) rest) (sym b.1) refl
      by (Bad (Faulted code at)) g = tt
      by (Bad (Stuck mistake at)) g = absurd g

  tuple_decided : (span : Span) (T : Ty) (Ts : Parts) (ms : List Matched) (asked : List Asked) (x : Value) (xs rest : List Value) → tuple_parts T ≡ Some Ts → InType d av x T → Give asked xs →
      ((ys : Values) → InType d av (tuple_with ys) (tuple_of Ts) → Decided (each_match tests.limit span (pattern_shapes ms) (values_in ys) (xs ++ rest)) rest) → Decided (parts span x >>= λ vs. each_match tests.limit span (pattern_shapes ms) vs (xs ++ rest)) rest
  tuple_decided span (tuple_of Us) Ts ms asked (tuple_with ys) xs rest e i g k = subst (λ Vs. InType d av (tuple_with ys) (tuple_of Vs) → Decided (each_match tests.limit span (pattern_shapes ms) (values_in ys) (xs ++ rest)) rest) (sym (some_same Us Ts e)) (k ys) i
  tuple_decided span (named n supers T) Ts ms asked x xs rest e i g k = tuple_decided span T Ts ms asked x xs rest e ((named_parts av x n supers T i.0).1, i.1, i.2) g k
  tuple_decided span (tuple_of Us) Ts ms asked x xs rest e i g k = no i.0
  tuple_decided span T Ts ms asked x xs rest e i g k = none_some Ts e

  tuple_shaped : (T : Ty) (Ts : Parts) → TypeShaped d T → tuple_parts T ≡ Some Ts → ShapedParts d Ts
  tuple_shaped (tuple_of Us) Ts s e = subst (ShapedParts d) (some_same Us Ts e) s
  tuple_shaped (named n supers T) Ts s e = tuple_shaped T Ts s.2 e
  tuple_shaped T Ts s e = none_some Ts e

  abbrev shape_with : List ((p : Pattern) × Good_pattern p) → List (Pattern × Shaped PatternShape Expr)
  shape_with ps = map (λ p. (p, pattern_parts p)) (map (λ p. p.0) ps)

  exprs_same : (ps : List Pattern) → exprs_in (λ (p : Pattern × Shaped PatternShape Expr). p.1) (map (λ p. (p, pattern_parts p)) ps) ≡ exprs_in pattern_parts ps
  exprs_same [] = refl
  exprs_same (p ∷ ps) = ap (λ l. (pattern_parts p).exprs ++ l) (exprs_same ps)

  shapes_same : (ps : List Pattern) → shapes_in (λ (p : Pattern × Shaped PatternShape Expr). p.1) (map (λ p. (p, pattern_parts p)) ps) ≡ shapes_in pattern_parts ps
  shapes_same [] = refl
  shapes_same (p ∷ ps) = ap (λ l. (pattern_parts p).shape ∷ l) (shapes_same ps)

  abbrev own_expr : Expr × Unread → Expr
  own_expr e = e.0

  abbrev own_parts : Pattern × Shaped PatternShape Expr → Shaped PatternShape Expr
  own_parts p = p.1

  -- one layer, taken apart
  abbrev apart : Below → Shaped PatternShape Expr
  apart y = pattern_layer own_expr own_parts (map-Pattern Bitfield ConstraintPart Expr FieldValue Pattern Slice TypeExpr (Bitfield × Unread) (ConstraintPart × Unread) (Expr × Unread) (FieldValue × Unread) (Pattern × Shaped PatternShape Expr) (Slice × Unread) (TypeExpr × Unread)
      (λ b. (b, tt)) (λ p. (p, tt)) (λ e. (e, tt)) (λ f. (f, tt)) (λ p. (p, pattern_parts p)) (λ s. (s, tt)) (λ t. (t, tt)) (trees y))

  layer_says : (y : Below) (T : Ty) (m : Matched) → Known → TypeShaped d T → pattern_rule tests (pattern_opened tests (trees y)) T (with_class H.scope Pure) ≡ Ok m → Says (apart y) T m
  layer_says (ex.AnyPattern span) T m known of_type h = said _ T (matched anything []) m (ok_ok (matched anything []) m h) (record { asked = []; shape_is = refl; asks = tt; decides = λ x xs rest i g. no_asked xs rest g })
  layer_says (ex.SetPattern span b ps) T m known of_type h =
      let s = bind_ok (all_match (map (found_pattern tests) (map (λ p. p.0) ps)) T (with_class H.scope Pure)) _ m h in
      let a = all_say ps T s.value known of_type s.first in
      said _ T (set_matched b s.value) m (ok_ok (set_matched b s.value) m s.then)
      (record {
        asked = a.asked;
        shape_is = ap (λ l. one_of b (shaped.pattern_shapes l)) (shapes_same (map (λ p. p.0) ps)) ∙ ap (one_of b) a.shapes_are;
        asks = subst (λ l. Asks l (pattern_trees s.value) a.asked) (sym (exprs_same (map (λ p. p.0) ps))) a.asks;
        decides = λ x xs rest i g. set_decided b (any_match tests.limit (pattern_shapes s.value) x (xs ++ rest)) rest (a.decides x xs rest i g);
      })
  layer_says (ex.MaskPattern span t) T m known of_type h =
      let k = then_ok (need (is_bits T) T23 span) _ m h in
      let l = then_ok (need (tests.same (width_of T) (constant_map (pos (length (literal_digits t))))) T06 span) _ m k.then in
      let n = then_ok (need (nat_le (length (literal_digits t)) tests.limit) T20 span) (Ok (matched (masked span (literal_digits t)) [])) m l.then in
      said _ T (matched (masked span (literal_digits t)) []) m (ok_ok (matched (masked span (literal_digits t)) []) m n.then)
      (record {
        asked = [];
        shape_is = refl;
        asks = tt;
        decides = λ x xs rest i g. subst (λ z. Decided (mask_match span (literal_digits t) x z) rest) (sym (no_asked xs rest g))
            (mask_decided span (literal_digits t) T x rest (need_ok (is_bits T) T23 span tt k.first) (need_ok (tests.same (width_of T) (constant_map (pos (length (literal_digits t))))) T06 span tt l.first) i);
      })
  layer_says (ex.AtMost span e) T m known of_type h =
      let s = bind_ok (typed tests e.0 (with_class H.scope Pure)) _ m h in
      let k = then_ok (need (is_integer T && is_integer s.value.ty) T23 span) (Ok (matched (at_most span) (s.value.tree ∷ []))) m s.then in
      let q = both (is_integer T) (is_integer s.value.ty) (need_ok (is_integer T && is_integer s.value.ty) T23 span tt k.first) in
      said _ T (matched (at_most span) (s.value.tree ∷ [])) m (ok_ok (matched (at_most span) (s.value.tree ∷ [])) m k.then)
      (record {
        asked = of_pure s.value ∷ [];
        shape_is = refl;
        asks = one_asked e.0 s.value s.first;
        decides = λ x xs rest i g. one_value (λ zs. Decided (matches tests.limit (at_most span) x zs) rest) (of_pure s.value) xs rest g (λ y j. ints_decide (at_most span) x y T s.value.ty rest q.0 q.1 i j (λ a b. refl));
      })
  layer_says (ex.AtLeast span e) T m known of_type h =
      let s = bind_ok (typed tests e.0 (with_class H.scope Pure)) _ m h in
      let k = then_ok (need (is_integer T && is_integer s.value.ty) T23 span) (Ok (matched (at_least span) (s.value.tree ∷ []))) m s.then in
      let q = both (is_integer T) (is_integer s.value.ty) (need_ok (is_integer T && is_integer s.value.ty) T23 span tt k.first) in
      said _ T (matched (at_least span) (s.value.tree ∷ [])) m (ok_ok (matched (at_least span) (s.value.tree ∷ [])) m k.then)
      (record {
        asked = of_pure s.value ∷ [];
        shape_is = refl;
        asks = one_asked e.0 s.value s.first;
        decides = λ x xs rest i g. one_value (λ zs. Decided (matches tests.limit (at_least span) x zs) rest) (of_pure s.value) xs rest g (λ y j. ints_decide (at_least span) x y T s.value.ty rest q.0 q.1 i j (λ a b. refl));
      })
  layer_says (ex.TuplePattern span ps) T m known of_type h =
      let u = bind_ok (found_or (tuple_parts T) T23 span) _ m h in
      let k = then_ok (need (as_many (map (found_pattern tests) (map (λ p. p.0) ps)) u.value) T23 span) _ m u.then in
      let s = bind_ok (parts_match (map (found_pattern tests) (map (λ p. p.0) ps)) u.value (with_class H.scope Pure)) _ m k.then in
      let a = parts_say ps u.value s.value known (tuple_shaped T u.value of_type (found_ok (tuple_parts T) T23 span u.value u.first)) (need_ok (as_many (map (found_pattern tests) (map (λ p. p.0) ps)) u.value) T23 span tt k.first) s.first in
      said _ T (matched (in_parts span (pattern_shapes s.value)) (pattern_trees s.value)) m (ok_ok (matched (in_parts span (pattern_shapes s.value)) (pattern_trees s.value)) m s.then)
      (record {
        asked = a.asked;
        shape_is = ap (λ l. in_parts span (shaped.pattern_shapes l)) (shapes_same (map (λ p. p.0) ps)) ∙ ap (in_parts span) a.shapes_are;
        asks = subst (λ l. Asks l (pattern_trees s.value) a.asked) (sym (exprs_same (map (λ p. p.0) ps))) a.asks;
        decides = λ x xs rest i g. tuple_decided span T u.value s.value a.asked x xs rest (found_ok (tuple_parts T) T23 span u.value u.first) i g (λ ys j. a.decides span ys xs rest j g);
      })
  layer_says (ex.ValuePattern span e) T m known of_type h =
      let s = bind_ok (typed tests e.0 (with_class H.scope Pure)) _ m h in
      let k = then_ok (comparable tests T23 span T s.value.ty) (Ok (matched (equal_to span) (s.value.tree ∷ []))) m s.then in
      said _ T (matched (equal_to span) (s.value.tree ∷ [])) m (ok_ok (matched (equal_to span) (s.value.tree ∷ [])) m k.then)
      (record {
        asked = of_pure s.value ∷ [];
        shape_is = refl;
        asks = one_asked e.0 s.value s.first;
        decides =
            λ x xs rest i g. one_value (λ zs. Decided (matches tests.limit (equal_to span) x zs) rest) (of_pure s.value) xs rest g
            (λ y j. equal_decided span x y T s.value.ty rest
            (one_kind d known.declared T s.value.ty of_type (known.formed e.0 s.value s.first).shaped) k.first of_type
            (known.formed e.0 s.value s.first).shaped i j);
      })
  layer_says (ex.RangePattern span e f) T m known of_type h =
      let s = bind_ok (typed tests e.0 (with_class H.scope Pure)) _ m h in
      let u = bind_ok (typed tests f.0 (with_class H.scope Pure)) _ m s.then in
      let k = then_ok (need (is_integer T && (is_integer s.value.ty && is_integer u.value.ty)) T23 span) (Ok (matched (between span) (s.value.tree ∷ u.value.tree ∷ []))) m u.then in
      let q = both (is_integer T) (is_integer s.value.ty && is_integer u.value.ty) (need_ok (is_integer T && (is_integer s.value.ty && is_integer u.value.ty)) T23 span tt k.first) in
      let r = both (is_integer s.value.ty) (is_integer u.value.ty) q.1 in
      said _ T (matched (between span) (s.value.tree ∷ u.value.tree ∷ [])) m (ok_ok (matched (between span) (s.value.tree ∷ u.value.tree ∷ [])) m k.then)
      (record {
        asked = of_pure s.value ∷ of_pure u.value ∷ [];
        shape_is = refl;
        asks = (s.first, refl, (u.first, refl, tt));
        decides = λ x xs rest i g. two_values (λ zs. Decided (matches tests.limit (between span) x zs) rest) (of_pure s.value) (of_pure u.value) xs rest g
            (λ y z j l. three_decide span x y z T s.value.ty u.value.ty rest q.0 r.0 r.1 i j l);
      })

  pattern_step : (x : PatternLayer) (y : Below) → trees y ≡ x → Good_pattern (roll-Pattern x)
  pattern_step x y is T m known of_type h =
      let k : pattern_rule tests (pattern_opened tests x) T (with_class H.scope Pure) ≡ Ok m =
      sym (ap (λ (f : FoundPattern). f T (with_class H.scope Pure)) (fold-roll-Pattern FoundBitfield FoundPart Found FoundField FoundPattern FoundSlice FoundType bitfield_rule part_rule (expr_rule tests) given_rule (pattern_rule tests) slice_rule (type_rule tests) x)) ∙ h in
      let s = layer_says y T m known of_type (ap (λ z. pattern_rule tests (pattern_opened tests z) T (with_class H.scope Pure)) is ∙ k) in
      subst (λ p. Says p T m) (ap (λ z. pattern_layer own_expr own_parts (map-Pattern Bitfield ConstraintPart Expr FieldValue Pattern Slice TypeExpr (Bitfield × Unread) (ConstraintPart × Unread) (Expr × Unread) (FieldValue × Unread) (Pattern × Shaped PatternShape Expr) (Slice × Unread) (TypeExpr × Unread) (λ b. (b, tt)) (λ p. (p, tt)) (λ e. (e, tt)) (λ f. (f, tt)) (λ p. (p, pattern_parts p)) (λ s. (s, tt)) (λ t. (t, tt)) z)) is
      ∙ sym (para-roll-Pattern Unread Unread Unread Unread (Shaped PatternShape Expr) Unread Unread (λ _. tt) (λ _. tt) (λ _. tt) (λ _. tt) (pattern_layer own_expr own_parts) (λ _. tt) (λ _. tt) x)) s

  pub pattern_says : (p : Pattern) → Good_pattern p
  pattern_says = ind-Pattern Any Any Any Any Good_pattern Any Any (λ x y is. tt) (λ x y is. tt) (λ x y is. tt) (λ x y is. tt) pattern_step (λ x y is. tt) (λ x y is. tt)
