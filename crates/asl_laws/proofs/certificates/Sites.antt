-- Where an expression has a type, so has each expression in it that has a line, in its scope.
use Rattle.std.proofs.Common.{◌≡◌, Bool, true, false, List, [], ◌∷◌, ◌++◌, map, Ok, sym, ap, ◌∙◌, subst}
use Rattle.asl_syn.specs.declared.tree.Bitfield.{Bitfield}
use Rattle.asl_syn.specs.declared.tree.ConstraintPart.{ConstraintPart}
use Rattle.asl_syn.specs.declared.tree.Expr.{Expr}
use Rattle.asl_syn.specs.declared.tree.FieldValue.{FieldValue}
use Rattle.asl_syn.specs.declared.tree.Pattern.{Pattern}
use Rattle.asl_syn.specs.declared.tree.Slice.{Slice}
use Rattle.asl_syn.specs.declared.tree.TypeExpr.{TypeExpr}
use Rattle.asl_syn.specs.declared.tree.Bitfield.TheOpen as ex
use Rattle.asl_syn.specs.declared.tree.Bitfield.TheFolds.{fold-roll-Expr, fold-roll-FieldValue, fold-roll-Pattern, fold-roll-Slice}
use Rattle.asl_syn.specs.declared.tree.Bitfield.TheFolds.{para-FieldValue, para-roll-Expr, para-roll-FieldValue, para-roll-Pattern}
use Rattle.asl_syn.specs.declared.tree.Bitfield.TheFolds.{para-roll-Slice, map-Expr, map-FieldValue, map-Pattern, map-Slice}
use Rattle.asl_syn.specs.Layers.{ExprLayer}
use Rattle.asl_syn.specs.declared.code.StaticCode.TheVariants.{T23}
use Rattle.asl_rules.specs.declared.effect.Effect.TheVariants.{Pure}
use Rattle.asl_rules.specs.Faults.{need, found_or}
use Rattle.asl_rules.specs.Tests.{Tests}
use Rattle.asl_rules.specs.types.Types.{Ty, Parts, no_part, part, tuple_parts}
use Rattle.asl_rules.specs.declarations.Scopes.{Scope, with_class}
use Rattle.asl_rules.specs.expressions.Typing.{Found, Typed, Operand, operands}
use Rattle.asl_rules.specs.expressions.Slicing.{FoundSlice, all_operands}
use Rattle.asl_rules.specs.types.Writing.{FoundPart, FoundBitfield, FoundType}
use Rattle.asl_rules.specs.expressions.Patterns.{FoundPattern, Matched, all_match, as_many, parts_match}
use Rattle.asl_rules.specs.expressions.Calls.{call_begun}
use Rattle.asl_rules.specs.expressions.Exprs.{FoundField, typed_rule, found, found_type, found_slice, found_pattern, typed, values_given}
use Rattle.asl_rules.specs.expressions.Exprs.{expr_rule, given_rule, slice_rule, part_rule, bitfield_rule, type_rule, pattern_rule}
use Rattle.asl_rules.proofs.basics.Inversions.{bind_ok, then_ok, need_ok}
use Rattle.asl_rules.proofs.basics.Opening.{found_field, found_bitfield, found_part, opened, field_opened, pattern_opened}
use Rattle.asl_laws.proofs.basics.Lists.{AllOf}
use Rattle.asl_laws.proofs.spans.Inductions.{Shown, Exprs, Givens, Patterns, Slices, ExprNode, FieldValueNode, PatternNode, SliceNode}
use Rattle.asl_laws.proofs.spans.Inductions.{expr_trees, given_trees, pattern_trees, slice_trees, Steps, each_expr, each_pattern}
use Rattle.asl_laws.proofs.spans.Inductions.{each_slice}
use Rattle.asl_laws.specs.certificates.Lines as lines
use Rattle.asl_laws.specs.certificates.Lines.{Site, Sites, Unread, site, pure_site, site_scope, joined, whole, pure_whole, sites_in}
use Rattle.asl_laws.specs.certificates.Lines.{inside_expr, expr_sites, pattern_sites, slice_sites}

pub all_append : {X : Type 0} (P : X → Type 0) (xs ys : List X) → AllOf P xs → AllOf P ys → AllOf P (xs ++ ys)
all_append P [] ys h k = k
all_append P (x ∷ xs) ys h k = (h.0, all_append P xs ys h.1 k)

pub all_map : {X Y : Type 0} (P : X → Type 0) (Q : Y → Type 0) (f : X → Y) → ((x : X) → P x → Q (f x)) → (xs : List X) → AllOf P xs →
    AllOf Q (map f xs)
all_map P Q f k [] h = tt
all_map P Q f k (x ∷ xs) h = (k x h.0, all_map P Q f k xs h.1)

not_true : false ≡ true → ⊥
not_true h = cc

abbrev pub given_sites : FieldValue → Sites
given_sites = para-FieldValue Unread Unread Sites Sites Sites Sites Unread (λ _. tt) (λ _. tt) lines.expr_layer lines.given_layer
    lines.pattern_layer lines.slice_layer (λ _. tt)

-- a layer with the sites of its parts

abbrev pub expr_paired : ExprLayer → ex.Expr-F (Bitfield × Unread) (ConstraintPart × Unread) (Expr × Sites) (FieldValue × Sites)
    (Pattern × Sites) (Slice × Sites) (TypeExpr × Unread)
expr_paired = map-Expr Bitfield ConstraintPart Expr FieldValue Pattern Slice TypeExpr (Bitfield × Unread) (ConstraintPart × Unread)
    (Expr × Sites) (FieldValue × Sites) (Pattern × Sites) (Slice × Sites) (TypeExpr × Unread) (λ b. (b, tt)) (λ p. (p, tt))
    (λ e. (e, inside_expr e)) (λ f. (f, given_sites f)) (λ p. (p, pattern_sites p)) (λ s. (s, slice_sites s)) (λ t. (t, tt))

abbrev pub given_paired : ex.FieldValue-F Bitfield ConstraintPart Expr FieldValue Pattern Slice TypeExpr →
    ex.FieldValue-F (Bitfield × Unread) (ConstraintPart × Unread) (Expr × Sites) (FieldValue × Sites) (Pattern × Sites) (Slice × Sites)
    (TypeExpr × Unread)
given_paired = map-FieldValue Bitfield ConstraintPart Expr FieldValue Pattern Slice TypeExpr (Bitfield × Unread) (ConstraintPart × Unread)
    (Expr × Sites) (FieldValue × Sites) (Pattern × Sites) (Slice × Sites) (TypeExpr × Unread) (λ b. (b, tt)) (λ p. (p, tt))
    (λ e. (e, inside_expr e)) (λ f. (f, given_sites f)) (λ p. (p, pattern_sites p)) (λ s. (s, slice_sites s)) (λ t. (t, tt))

abbrev pub pattern_paired : ex.Pattern-F Bitfield ConstraintPart Expr FieldValue Pattern Slice TypeExpr →
    ex.Pattern-F (Bitfield × Unread) (ConstraintPart × Unread) (Expr × Sites) (FieldValue × Sites) (Pattern × Sites) (Slice × Sites)
    (TypeExpr × Unread)
pattern_paired = map-Pattern Bitfield ConstraintPart Expr FieldValue Pattern Slice TypeExpr (Bitfield × Unread) (ConstraintPart × Unread)
    (Expr × Sites) (FieldValue × Sites) (Pattern × Sites) (Slice × Sites) (TypeExpr × Unread) (λ b. (b, tt)) (λ p. (p, tt))
    (λ e. (e, inside_expr e)) (λ f. (f, given_sites f)) (λ p. (p, pattern_sites p)) (λ s. (s, slice_sites s)) (λ t. (t, tt))

abbrev pub slice_paired : ex.Slice-F Bitfield ConstraintPart Expr FieldValue Pattern Slice TypeExpr →
    ex.Slice-F (Bitfield × Unread) (ConstraintPart × Unread) (Expr × Sites) (FieldValue × Sites) (Pattern × Sites) (Slice × Sites)
    (TypeExpr × Unread)
slice_paired = map-Slice Bitfield ConstraintPart Expr FieldValue Pattern Slice TypeExpr (Bitfield × Unread) (ConstraintPart × Unread)
    (Expr × Sites) (FieldValue × Sites) (Pattern × Sites) (Slice × Sites) (TypeExpr × Unread) (λ b. (b, tt)) (λ p. (p, tt))
    (λ e. (e, inside_expr e)) (λ f. (f, given_sites f)) (λ p. (p, pattern_sites p)) (λ s. (s, slice_sites s)) (λ t. (t, tt))

module _ (t : Tests) where
  -- the rule gives something at a site
  pub record Goes (G : Scope) (s : Site) : Type 0 where
    pub gives : Typed
    pub is : typed t s.expr (site_scope s G) ≡ Ok gives

  abbrev pub AllGo : Scope → Sites → Type 0
  AllGo G ss = AllOf (Goes G) ss

  abbrev goes : Shown
  goes = record {
    of_bitfield = λ x. Unit {0};
    of_part = λ x. Unit {0};
    of_expr = λ x. (G : Scope) (S : Typed) → typed t x G ≡ Ok S → AllGo G (inside_expr x);
    of_given = λ x. (G : Scope) (S : Typed) → (found_field t x).value.typed G ≡ Ok S → AllGo G (given_sites x);
    of_pattern = λ x. (T : Ty) (G : Scope) (m : Matched) → found_pattern t x T (with_class G Pure) ≡ Ok m → AllGo G (pattern_sites x);
    of_slice = λ x. (G : Scope) (os : List Operand) → (found_slice t x).operands G ≡ Ok os → AllGo G (slice_sites x);
    of_type = λ x. Unit {0};
  }

  abbrev pub slice_opened : ex.Slice-F Bitfield ConstraintPart Expr FieldValue Pattern Slice TypeExpr →
      ex.Slice-F FoundBitfield FoundPart Found FoundField FoundPattern FoundSlice FoundType
  slice_opened = map-Slice Bitfield ConstraintPart Expr FieldValue Pattern Slice TypeExpr FoundBitfield FoundPart Found FoundField
      FoundPattern FoundSlice FoundType (found_bitfield t) (found_part t) (found t) (found_field t) (found_pattern t) (found_slice t)
      (found_type t)

  -- ---- an expression with what stands in it, and several

  of_whole : (e : Expr) (G : Scope) (S : Typed) → AllGo G (inside_expr e) → typed t e G ≡ Ok S → AllGo G (expr_sites e)
  of_whole e G S h k = all_append (Goes G) (inside_expr e) (site e ∷ []) h (record { gives = S; is = k }, tt)

  one : (a : Exprs goes) (G : Scope) (S : Typed) → typed t a.0 G ≡ Ok S → AllGo G (expr_sites a.0)
  one a G S h = of_whole a.0 G S (a.1 G S h) h

  several : (es : List (Exprs goes)) (G : Scope) (os : List Operand) → operands (map (found t) (map (λ x. x.0) es)) G ≡ Ok os →
      AllGo G (joined (map whole (map (λ e. (e, inside_expr e)) (map (λ x. x.0) es))))
  several [] G os h = tt
  several (e ∷ es) G os h =
      let a = bind_ok (typed t e.0 G) _ os h in
      let b = bind_ok (operands (map (found t) (map (λ x. x.0) es)) G) _ os a.then in
      all_append (Goes G) (expr_sites e.0) _ (one e G a.value a.first) (several es G b.value b.first)

  givens : (gs : List (Givens goes)) (G : Scope) (os : List Operand) →
      operands (values_given (map (found_field t) (map (λ x. x.0) gs))) G ≡ Ok os →
      AllGo G (sites_in (map (λ f. (f, given_sites f)) (map (λ x. x.0) gs)))
  givens [] G os h = tt
  givens (g ∷ gs) G os h =
      let a = bind_ok ((found_field t g.0).value.typed G) _ os h in
      let b = bind_ok (operands (values_given (map (found_field t) (map (λ x. x.0) gs))) G) _ os a.then in
      all_append (Goes G) (given_sites g.0) _ (g.1 G a.value a.first) (givens gs G b.value b.first)

  slices : (ss : List (Slices goes)) (G : Scope) (os : List Operand) → all_operands (map (found_slice t) (map (λ x. x.0) ss)) G ≡ Ok os →
      AllGo G (sites_in (map (λ s. (s, slice_sites s)) (map (λ x. x.0) ss)))
  slices [] G os h = tt
  slices (s ∷ ss) G os h =
      let a = bind_ok ((found_slice t s.0).operands G) _ os h in
      let b = bind_ok (all_operands (map (found_slice t) (map (λ x. x.0) ss)) G) _ os a.then in
      all_append (Goes G) (slice_sites s.0) _ (s.1 G a.value a.first) (slices ss G b.value b.first)

  all_patterns : (ps : List (Patterns goes)) (T : Ty) (G : Scope) (ms : List Matched) →
      all_match (map (found_pattern t) (map (λ x. x.0) ps)) T (with_class G Pure) ≡ Ok ms →
      AllGo G (sites_in (map (λ p. (p, pattern_sites p)) (map (λ x. x.0) ps)))
  all_patterns [] T G ms h = tt
  all_patterns (p ∷ ps) T G ms h =
      let a = bind_ok (found_pattern t p.0 T (with_class G Pure)) _ ms h in
      let b = bind_ok (all_match (map (found_pattern t) (map (λ x. x.0) ps)) T (with_class G Pure)) _ ms a.then in
      all_append (Goes G) (pattern_sites p.0) _ (p.1 T G a.value a.first) (all_patterns ps T G b.value b.first)

  tuple_patterns : (ps : List (Patterns goes)) (Ts : Parts) (G : Scope) (ms : List Matched) →
      as_many (map (found_pattern t) (map (λ x. x.0) ps)) Ts ≡ true →
      parts_match (map (found_pattern t) (map (λ x. x.0) ps)) Ts (with_class G Pure) ≡ Ok ms →
      AllGo G (sites_in (map (λ p. (p, pattern_sites p)) (map (λ x. x.0) ps)))
  tuple_patterns [] Ts G ms n h = tt
  tuple_patterns (p ∷ ps) no_part G ms n h = absurd (not_true n)
  tuple_patterns (p ∷ ps) (part T Ts) G ms n h =
      let a = bind_ok (found_pattern t p.0 T (with_class G Pure)) _ ms h in
      let b = bind_ok (parts_match (map (found_pattern t) (map (λ x. x.0) ps)) Ts (with_class G Pure)) _ ms a.then in
      all_append (Goes G) (pattern_sites p.0) _ (p.1 T G a.value a.first) (tuple_patterns ps Ts G b.value n b.first)

  -- in a pattern

  in_pure : (G : Scope) (b : Bool) (e : Expr) (S : Typed) →
      typed t e (site_scope (record { expr = e; is_pure = b }) (with_class G Pure)) ≡ Ok S → typed t e (with_class G Pure) ≡ Ok S
  in_pure G true e S h = h
  in_pure G false e S h = h

  pub goes_pure : (G : Scope) (s : Site) → Goes (with_class G Pure) s → Goes G (pure_site s)
  goes_pure G s g = record { gives = g.gives; is = in_pure G s.is_pure s.expr g.gives g.is }

  one_pure : (a : Exprs goes) (G : Scope) (S : Typed) → typed t a.0 (with_class G Pure) ≡ Ok S → AllGo G (pure_whole (a.0, inside_expr a.0))
  one_pure a G S h = all_map (Goes (with_class G Pure)) (Goes G) pure_site (goes_pure G) (expr_sites a.0) (one a (with_class G Pure) S h)

  -- ---- each layer

  expr_goes : (y : ExprNode goes) (G : Scope) (S : Typed) → typed_rule t (opened t (expr_trees goes y)) G ≡ Ok S →
      AllGo G (lines.expr_layer (expr_paired (expr_trees goes y)))
  expr_goes (ex.Int span n) G S h = tt
  expr_goes (ex.Bits span text) G S h = tt
  expr_goes (ex.Bool span b) G S h = tt
  expr_goes (ex.Name span name) G S h = tt
  expr_goes (ex.Unary span o a) G S h = let x = bind_ok (typed t a.0 G) _ S h in one a G x.value x.first
  expr_goes (ex.Binary span o a b) G S h =
      let x = bind_ok (typed t a.0 G) _ S h in
      let y = bind_ok (typed t b.0 G) _ S x.then in
      all_append (Goes G) (expr_sites a.0) _ (one a G x.value x.first) (one b G y.value y.first)
  expr_goes (ex.Conditional span c a b) G S h =
      let z = bind_ok (typed t c.0 G) _ S h in
      let x = bind_ok (typed t a.0 G) _ S z.then in
      let y = bind_ok (typed t b.0 G) _ S x.then in
      all_append (Goes G) (expr_sites c.0) _ (one c G z.value z.first)
      (all_append (Goes G) (expr_sites a.0) _ (one a G x.value x.first) (one b G y.value y.first))
  expr_goes (ex.Tuple span es) G S h = let x = bind_ok (operands (map (found t) (map (λ x. x.0) es)) G) _ S h in
      several es G x.value x.first
  expr_goes (ex.Construct span i gs) G S h = let x = bind_ok (operands (values_given (map (found_field t) (map (λ x. x.0) gs))) G) _ S h in
      givens gs G x.value x.first
  expr_goes (ex.Call span i ps es) G S h =
      let x = bind_ok (call_begun i (map (found t) (map (λ x. x.0) es)) G) _ S h in
      let y = bind_ok (operands (map (found t) (map (λ x. x.0) es)) G) _ x.value x.first in
      several es G y.value y.first
  expr_goes (ex.Field span a i) G S h = let x = bind_ok (typed t a.0 G) _ S h in one a G x.value x.first
  expr_goes (ex.Fields span a is) G S h = let x = bind_ok (typed t a.0 G) _ S h in one a G x.value x.first
  expr_goes (ex.Slices span a ss) G S h =
      let x = bind_ok (typed t a.0 G) _ S h in
      let y = bind_ok (all_operands (map (found_slice t) (map (λ x. x.0) ss)) G) _ S x.then in
      all_append (Goes G) (expr_sites a.0) _ (one a G x.value x.first) (slices ss G y.value y.first)
  expr_goes (ex.Element span a i) G S h =
      let x = bind_ok (typed t a.0 G) _ S h in
      let y = bind_ok (typed t i.0 G) _ S x.then in
      all_append (Goes G) (expr_sites a.0) _ (one a G x.value x.first) (one i G y.value y.first)
  expr_goes (ex.As span a T) G S h = let x = bind_ok (typed t a.0 G) _ S h in one a G x.value x.first
  expr_goes (ex.In span a p) G S h =
      let x = bind_ok (typed t a.0 G) _ S h in
      let y = bind_ok (found_pattern t p.0 x.value.ty (with_class G Pure)) _ S x.then in
      all_append (Goes G) (expr_sites a.0) _ (one a G x.value x.first) (p.1 x.value.ty G y.value y.first)

  given_goes : (y : FieldValueNode goes) (G : Scope) (S : Typed) → (given_rule (field_opened t (given_trees goes y))).value.typed G ≡ Ok S →
      AllGo G (lines.given_layer (given_paired (given_trees goes y)))
  given_goes (ex.Given i e) G S h = one e G S h

  two : (a b : Exprs goes) (G : Scope) (os : List Operand) → operands (found t a.0 ∷ found t b.0 ∷ []) G ≡ Ok os →
      AllGo G (expr_sites a.0 ++ expr_sites b.0)
  two a b G os h =
      let x = bind_ok (typed t a.0 G) _ os h in
      let z = bind_ok (operands (found t b.0 ∷ []) G) _ os x.then in
      let y = bind_ok (typed t b.0 G) _ z.value z.first in
      all_append (Goes G) (expr_sites a.0) _ (one a G x.value x.first) (one b G y.value y.first)

  slice_goes : (y : SliceNode goes) (G : Scope) (os : List Operand) → (slice_rule (slice_opened (slice_trees goes y))).operands G ≡ Ok os →
      AllGo G (lines.slice_layer (slice_paired (slice_trees goes y)))
  slice_goes (ex.BitAt e) G os h = let x = bind_ok (typed t e.0 G) _ os h in one e G x.value x.first
  slice_goes (ex.HighLow a b) G os h = two a b G os h
  slice_goes (ex.LowWidth a b) G os h = two a b G os h
  slice_goes (ex.FactorWidth a b) G os h = two a b G os h

  pattern_goes : (y : PatternNode goes) (T : Ty) (G : Scope) (m : Matched) →
      pattern_rule t (pattern_opened t (pattern_trees goes y)) T (with_class G Pure) ≡ Ok m →
      AllGo G (lines.pattern_layer (pattern_paired (pattern_trees goes y)))
  pattern_goes (ex.AnyPattern span) T G m h = tt
  pattern_goes (ex.SetPattern span b ps) T G m h = let x =
      bind_ok (all_match (map (found_pattern t) (map (λ x. x.0) ps)) T (with_class G Pure)) _ m h in all_patterns ps T G x.value x.first
  pattern_goes (ex.MaskPattern span text) T G m h = tt
  pattern_goes (ex.AtMost span e) T G m h = let x = bind_ok (typed t e.0 (with_class G Pure)) _ m h in one_pure e G x.value x.first
  pattern_goes (ex.AtLeast span e) T G m h = let x = bind_ok (typed t e.0 (with_class G Pure)) _ m h in one_pure e G x.value x.first
  pattern_goes (ex.TuplePattern span ps) T G m h =
      let x = bind_ok (found_or (tuple_parts T) T23 span) _ m h in
      let n = then_ok (need (as_many (map (found_pattern t) (map (λ x. x.0) ps)) x.value) T23 span) _ m x.then in
      let y = bind_ok (parts_match (map (found_pattern t) (map (λ x. x.0) ps)) x.value (with_class G Pure)) _ m n.then in
      tuple_patterns ps x.value G y.value (need_ok (as_many (map (found_pattern t) (map (λ x. x.0) ps)) x.value) T23 span tt n.first)
      y.first
  pattern_goes (ex.ValuePattern span e) T G m h = let x = bind_ok (typed t e.0 (with_class G Pure)) _ m h in one_pure e G x.value x.first
  pattern_goes (ex.RangePattern span a b) T G m h =
      let x = bind_ok (typed t a.0 (with_class G Pure)) _ m h in
      let y = bind_ok (typed t b.0 (with_class G Pure)) _ m x.then in
      all_append (Goes G) (pure_whole (a.0, inside_expr a.0)) _ (one_pure a G x.value x.first) (one_pure b G y.value y.first)

  -- ---- by induction over trees

  steps_all : Steps goes
  steps_all = record {
    bitfield_has = λ y. tt;
    part_has = λ y. tt;
    expr_has = λ y G S h.
        subst (AllGo G) (sym
        (para-roll-Expr Unread Unread Sites Sites Sites Sites Unread (λ _. tt) (λ _. tt) lines.expr_layer lines.given_layer
        lines.pattern_layer lines.slice_layer (λ _. tt) (expr_trees goes y)))
        (expr_goes y G S (sym
        (ap (λ (f : Found). f.typed G) (fold-roll-Expr FoundBitfield FoundPart Found FoundField FoundPattern FoundSlice FoundType
        bitfield_rule part_rule (expr_rule t) given_rule (pattern_rule t) slice_rule (type_rule t) (expr_trees goes y))) ∙ h));
    given_has = λ y G S h.
        subst (AllGo G) (sym
        (para-roll-FieldValue Unread Unread Sites Sites Sites Sites Unread (λ _. tt) (λ _. tt) lines.expr_layer lines.given_layer
        lines.pattern_layer lines.slice_layer (λ _. tt) (given_trees goes y)))
        (given_goes y G S (sym
        (ap (λ (f : FoundField). f.value.typed G)
        (fold-roll-FieldValue FoundBitfield FoundPart Found FoundField FoundPattern FoundSlice FoundType bitfield_rule part_rule
        (expr_rule t) given_rule (pattern_rule t) slice_rule (type_rule t) (given_trees goes y))) ∙ h));
    pattern_has = λ y T G m h.
        subst (AllGo G) (sym
        (para-roll-Pattern Unread Unread Sites Sites Sites Sites Unread (λ _. tt) (λ _. tt) lines.expr_layer lines.given_layer
        lines.pattern_layer lines.slice_layer (λ _. tt) (pattern_trees goes y)))
        (pattern_goes y T G m (sym
        (ap (λ (f : FoundPattern). f T (with_class G Pure))
        (fold-roll-Pattern FoundBitfield FoundPart Found FoundField FoundPattern FoundSlice FoundType bitfield_rule part_rule
        (expr_rule t) given_rule (pattern_rule t) slice_rule (type_rule t) (pattern_trees goes y))) ∙ h));
    slice_has = λ y G os h.
        subst (AllGo G) (sym
        (para-roll-Slice Unread Unread Sites Sites Sites Sites Unread (λ _. tt) (λ _. tt) lines.expr_layer lines.given_layer
        lines.pattern_layer lines.slice_layer (λ _. tt) (slice_trees goes y)))
        (slice_goes y G os (sym
        (ap (λ (f : FoundSlice). f.operands G)
        (fold-roll-Slice FoundBitfield FoundPart Found FoundField FoundPattern FoundSlice FoundType bitfield_rule part_rule (expr_rule t)
        given_rule (pattern_rule t) slice_rule (type_rule t) (slice_trees goes y))) ∙ h));
    type_has = λ y. tt;
  }

  pub expr_inside_goes : (e : Expr) (G : Scope) (S : Typed) → typed t e G ≡ Ok S → AllGo G (inside_expr e)
  expr_inside_goes = each_expr goes steps_all

  pub expr_sites_go : (e : Expr) (G : Scope) (S : Typed) → typed t e G ≡ Ok S → AllGo G (expr_sites e)
  expr_sites_go e G S h = of_whole e G S (expr_inside_goes e G S h) h

  pub pattern_sites_go : (p : Pattern) (T : Ty) (G : Scope) (m : Matched) → found_pattern t p T (with_class G Pure) ≡ Ok m →
      AllGo G (pattern_sites p)
  pattern_sites_go = each_pattern goes steps_all

  pub slice_sites_go : (s : Slice) (G : Scope) (os : List Operand) → (found_slice t s).operands G ≡ Ok os → AllGo G (slice_sites s)
  slice_sites_go = each_slice goes steps_all
