-- What two plans of the same parts give is shown of the expressions that hold no call by one induction over trees: where no name is called, none of the plans is one of a call.
use Rattle.std.proofs.Common.{◌≡◌, ℕ, ◌≤◌, inl, inr, List, [], ◌∷◌, ◌++◌, Option, Some, None, refl, sym, ap, subst, map, ◌∙◌, arith}
use Rattle.asl_syn.specs.declared.tree.Expr.{Expr, out-Expr, roll-Expr, out-roll-Expr}
use Rattle.asl_syn.specs.declared.tree.Bitfield.TheOpen as ex
use Rattle.asl_syn.specs.declared.tree.Bitfield.TheFolds.{fold-roll-Bitfield, fold-roll-ConstraintPart, fold-roll-Expr, fold-roll-FieldValue, fold-roll-Pattern, fold-roll-Slice, fold-roll-TypeExpr}
use Rattle.asl_rules.specs.declarations.Scopes.{Entry, storage_of}
use Rattle.asl_rules.specs.runs.States.{Core}
use Rattle.asl_rules.specs.runs.Plans.{Meter}
use Rattle.asl_rules.specs.declarations.Constants.{constant}
use Rattle.asl_rules.specs.runs.Evaluation.{meaning}
use Rattle.asl_rules.specs.declarations.Programs.{Environment}
use Rattle.asl_laws.specs.BeforeRuns.{HoldsInitial, EndsSo}
use Rattle.asl_rules.specs.declarations.UsedNames.{Use, Uses, of_value, of_subprogram, of_type, Each, or_else, first_said, joined, in_bitfield, in_part, in_expr, in_field, in_pattern, in_slice, in_type, bitfield_uses, part_uses, given_uses, expr_uses, pattern_uses, slice_uses, type_uses}
use Rattle.asl_rules.specs.declarations.Barred.{at_var, barred_at, barred}
use Rattle.asl_rules.proofs.basics.Tests.{none_some}
use Rattle.asl_laws.proofs.constants.KnownTwins.{OfBitfield, OfPart, OfField, OfPattern, OfSlice, OfType, BitfieldBelow, PartBelow, ExprBelow, FieldBelow, PatternBelow, SliceBelow, TypeBelow, bitfield_trees, part_trees, expr_trees, field_trees, pattern_trees, slice_trees, type_trees, MayCall, PlansTwin, layer_twin, bitfield_step, part_step, field_step, pattern_step, slice_step, type_step}
use Rattle.asl_laws.proofs.constants.KnownEnough.{Bounded, node_bound, ends_so}
use Rattle.asl_laws.proofs.spans.Inductions.{Shown, BitfieldNode, ConstraintPartNode, ExprNode, FieldValueNode, PatternNode, SliceNode, TypeExprNode, bitfield_trees as shown_bitfield, part_trees as shown_part, expr_trees as shown_expr, given_trees as shown_given, pattern_trees as shown_pattern, slice_trees as shown_slice, type_trees as shown_type, each_expr}
use Rattle.asl_laws.proofs.names.ByUses.{each_first, each_second}
use Rattle.asl_laws.proofs.names.LayerUses.{using_bitfield, using_part, using_expr, using_given, using_pattern, using_slice, using_type}

-- ---- no use is a call

abbrev pub IsNoCall : Use → Type 0
IsNoCall (of_value span name) = Unit {0}
IsNoCall (of_subprogram span name) = ⊥
IsNoCall (of_type name) = Unit {0}

abbrev pub NoCalls : Uses → Type 0
NoCalls us = Each IsNoCall us

said_later : {A : Type 0} (o rest : Option A) → or_else o rest ≡ None → rest ≡ None
said_later None rest h = h
said_later (Some x) rest h = none_some x (sym h)

-- where none is barred, none is a call
none_called : (names : List Entry) (us : Uses) → first_said (barred_at names) us ≡ None → NoCalls us
none_called names [] h = tt
none_called names (of_value span name ∷ us) h = (tt, none_called names us (said_later (at_var span (storage_of name names)) (first_said (barred_at names) us) h))
none_called names (of_subprogram span name ∷ us) h = none_some span (sym h)
none_called names (of_type name ∷ us) h = (tt, none_called names us h)

pub unbarred_calls : (e : Expr) (names : List Entry) → barred e names ≡ None → NoCalls (expr_uses e)
unbarred_calls e names h = none_called names (expr_uses e) h

-- ---- parts in a list

in_list : {X : Type 0} (uses : X → Uses) (Q : X → Type 0) (xs : List ((x : X) × (NoCalls (uses x) → Q x))) → NoCalls (joined (map uses (map (λ x. x.0) xs))) → (zs : List ((x : X) × Q x)) × (map (λ z. z.0) zs ≡ map (λ x. x.0) xs)
in_list uses Q [] g = ([], refl)
in_list uses Q (x ∷ xs) g =
    let us = uses x.0 in
    let ns = joined (map uses (map (λ x. x.0) xs)) in
    let r = in_list uses Q xs (each_second IsNoCall us ns g) in
    ((x.0, x.1 (each_first IsNoCall us ns g)) ∷ r.0, ap (λ l. x.0 ∷ l) r.1)

module _ (env : Environment) (c : Core) (P : Expr → Type 0) where
  first : (ms ns : Uses) → NoCalls (ms ++ ns) → NoCalls ms
  first ms ns g = each_first IsNoCall ms ns g

  second : (ms ns : Uses) → NoCalls (ms ++ ns) → NoCalls ns
  second ms ns g = each_second IsNoCall ms ns g

  -- ---- trees have it that hold no call

  abbrev shown : Shown
  shown = record {
    of_bitfield = λ x. NoCalls (bitfield_uses x) → OfBitfield env c P ⊥ x;
    of_part = λ x. NoCalls (part_uses x) → OfPart env c P ⊥ x;
    of_expr = λ x. NoCalls (expr_uses x) → P x;
    of_given = λ x. NoCalls (given_uses x) → OfField env c P ⊥ x;
    of_pattern = λ x. NoCalls (pattern_uses x) → OfPattern env c P ⊥ x;
    of_slice = λ x. NoCalls (slice_uses x) → OfSlice env c P ⊥ x;
    of_type = λ x. NoCalls (type_uses x) → OfType env c P ⊥ x;
  }

  -- ---- one layer, whose parts then have it

  bitfield_below : (y : BitfieldNode shown) → NoCalls (in_bitfield (using_bitfield (shown_bitfield shown y))) → (z : BitfieldBelow env c P ⊥) × (bitfield_trees env c P ⊥ z ≡ shown_bitfield shown y)
  bitfield_below (ex.OneBit e i) g = (ex.OneBit (e.0, e.1 g) i, refl)
  bitfield_below (ex.BitRange a b i) g = (ex.BitRange (a.0, a.1 (first (expr_uses a.0) (expr_uses b.0) g)) (b.0, b.1 (second (expr_uses a.0) (expr_uses b.0) g)) i, refl)

  part_below : (y : ConstraintPartNode shown) → NoCalls (in_part (using_part (shown_part shown y))) → (z : PartBelow env c P ⊥) × (part_trees env c P ⊥ z ≡ shown_part shown y)
  part_below (ex.Only e) g = (ex.Only (e.0, e.1 g), refl)
  part_below (ex.FromTo a b) g = (ex.FromTo (a.0, a.1 (first (expr_uses a.0) (expr_uses b.0) g)) (b.0, b.1 (second (expr_uses a.0) (expr_uses b.0) g)), refl)

  expr_below : (y : ExprNode shown) → NoCalls (in_expr (using_expr (shown_expr shown y))) → (z : ExprBelow env c P ⊥) × (MayCall env c P ⊥ z × (expr_trees env c P ⊥ z ≡ shown_expr shown y))
  expr_below (ex.Int span n) g = (ex.Int span n, (tt, refl))
  expr_below (ex.Bits span t) g = (ex.Bits span t, (tt, refl))
  expr_below (ex.Bool span b) g = (ex.Bool span b, (tt, refl))
  expr_below (ex.Name span name) g = (ex.Name span name, (tt, refl))
  expr_below (ex.Unary span o a) g = (ex.Unary span o (a.0, a.1 g), (tt, refl))
  expr_below (ex.Binary span o a b) g = (ex.Binary span o (a.0, a.1 (first (expr_uses a.0) (expr_uses b.0) g)) (b.0, b.1 (second (expr_uses a.0) (expr_uses b.0) g)), (tt, refl))
  expr_below (ex.Conditional span e a b) g =
      let h = second (expr_uses e.0) (expr_uses a.0 ++ expr_uses b.0) g in
      (ex.Conditional span (e.0, e.1 (first (expr_uses e.0) (expr_uses a.0 ++ expr_uses b.0) g)) (a.0, a.1 (first (expr_uses a.0) (expr_uses b.0) h)) (b.0, b.1 (second (expr_uses a.0) (expr_uses b.0) h)), (tt, refl))
  expr_below (ex.Tuple span es) g =
      let r = in_list expr_uses P es g in
      (ex.Tuple span r.0, (tt, ap (λ l. ex.Tuple span l) r.1))
  expr_below (ex.Construct span i fs) g =
      let r = in_list given_uses (OfField env c P ⊥) fs g.1 in
      (ex.Construct span i r.0, (tt, ap (λ l. ex.Construct span i l) r.1))
  expr_below (ex.Call span i ps es) g = absurd g.0
  expr_below (ex.Field span a i) g = (ex.Field span (a.0, a.1 g) i, (tt, refl))
  expr_below (ex.Fields span a is) g = (ex.Fields span (a.0, a.1 g) is, (tt, refl))
  expr_below (ex.Slices span a ss) g =
      let ns = joined (map slice_uses (map (λ s. s.0) ss)) in
      let r = in_list slice_uses (OfSlice env c P ⊥) ss (second (expr_uses a.0) ns g) in
      (ex.Slices span (a.0, a.1 (first (expr_uses a.0) ns g)) r.0, (tt, ap (λ l. ex.Slices span a.0 l) r.1))
  expr_below (ex.Element span a i) g = (ex.Element span (a.0, a.1 (first (expr_uses a.0) (expr_uses i.0) g)) (i.0, i.1 (second (expr_uses a.0) (expr_uses i.0) g)), (tt, refl))
  expr_below (ex.As span a t) g = (ex.As span (a.0, a.1 (first (expr_uses a.0) (type_uses t.0) g)) (t.0, t.1 (second (expr_uses a.0) (type_uses t.0) g)), (tt, refl))
  expr_below (ex.In span a p) g = (ex.In span (a.0, a.1 (first (expr_uses a.0) (pattern_uses p.0) g)) (p.0, p.1 (second (expr_uses a.0) (pattern_uses p.0) g)), (tt, refl))

  field_below : (y : FieldValueNode shown) → NoCalls (in_field (using_given (shown_given shown y))) → (z : FieldBelow env c P ⊥) × (field_trees env c P ⊥ z ≡ shown_given shown y)
  field_below (ex.Given i e) g = (ex.Given i (e.0, e.1 g), refl)

  pattern_below : (y : PatternNode shown) → NoCalls (in_pattern (using_pattern (shown_pattern shown y))) → (z : PatternBelow env c P ⊥) × (pattern_trees env c P ⊥ z ≡ shown_pattern shown y)
  pattern_below (ex.AnyPattern span) g = (ex.AnyPattern span, refl)
  pattern_below (ex.SetPattern span negated ps) g =
      let r = in_list pattern_uses (OfPattern env c P ⊥) ps g in
      (ex.SetPattern span negated r.0, ap (λ l. ex.SetPattern span negated l) r.1)
  pattern_below (ex.MaskPattern span t) g = (ex.MaskPattern span t, refl)
  pattern_below (ex.AtMost span e) g = (ex.AtMost span (e.0, e.1 g), refl)
  pattern_below (ex.AtLeast span e) g = (ex.AtLeast span (e.0, e.1 g), refl)
  pattern_below (ex.TuplePattern span ps) g =
      let r = in_list pattern_uses (OfPattern env c P ⊥) ps g in
      (ex.TuplePattern span r.0, ap (λ l. ex.TuplePattern span l) r.1)
  pattern_below (ex.ValuePattern span e) g = (ex.ValuePattern span (e.0, e.1 g), refl)
  pattern_below (ex.RangePattern span a b) g = (ex.RangePattern span (a.0, a.1 (first (expr_uses a.0) (expr_uses b.0) g)) (b.0, b.1 (second (expr_uses a.0) (expr_uses b.0) g)), refl)

  slice_below : (y : SliceNode shown) → NoCalls (in_slice (using_slice (shown_slice shown y))) → (z : SliceBelow env c P ⊥) × (slice_trees env c P ⊥ z ≡ shown_slice shown y)
  slice_below (ex.BitAt e) g = (ex.BitAt (e.0, e.1 g), refl)
  slice_below (ex.HighLow a b) g = (ex.HighLow (a.0, a.1 (first (expr_uses a.0) (expr_uses b.0) g)) (b.0, b.1 (second (expr_uses a.0) (expr_uses b.0) g)), refl)
  slice_below (ex.LowWidth a b) g = (ex.LowWidth (a.0, a.1 (first (expr_uses a.0) (expr_uses b.0) g)) (b.0, b.1 (second (expr_uses a.0) (expr_uses b.0) g)), refl)
  slice_below (ex.FactorWidth a b) g = (ex.FactorWidth (a.0, a.1 (first (expr_uses a.0) (expr_uses b.0) g)) (b.0, b.1 (second (expr_uses a.0) (expr_uses b.0) g)), refl)

  type_below : (y : TypeExprNode shown) → NoCalls (in_type (using_type (shown_type shown y))) → (z : TypeBelow env c P ⊥) × (type_trees env c P ⊥ z ≡ shown_type shown y)
  type_below (ex.IntegerType span ps) g =
      let r = in_list part_uses (OfPart env c P ⊥) ps g in
      (ex.IntegerType span r.0, ap (λ l. ex.IntegerType span l) r.1)
  type_below (ex.BooleanType span) g = (ex.BooleanType span, refl)
  type_below (ex.BitType span) g = (ex.BitType span, refl)
  type_below (ex.NamedType span name) g = (ex.NamedType span name, refl)
  type_below (ex.BitsType span e fs) g =
      let ns = joined (map bitfield_uses (map (λ f. f.0) fs)) in
      let r = in_list bitfield_uses (OfBitfield env c P ⊥) fs (second (expr_uses e.0) ns g) in
      (ex.BitsType span (e.0, e.1 (first (expr_uses e.0) ns g)) r.0, ap (λ l. ex.BitsType span e.0 l) r.1)
  type_below (ex.TupleType span ts) g =
      let r = in_list type_uses (OfType env c P ⊥) ts g in
      (ex.TupleType span r.0, ap (λ l. ex.TupleType span l) r.1)
  type_below (ex.ArrayType span e t) g = (ex.ArrayType span (e.0, e.1 (first (expr_uses e.0) (type_uses t.0) g)) (t.0, t.1 (second (expr_uses e.0) (type_uses t.0) g)), refl)

  -- ---- all trees

  -- each expression without a call has it, where it follows from the plans of an expression that is no call
  pub of_uncalled : HoldsInitial env c → ((e : Expr) → PlansTwin env c P ⊥ (out-Expr e) → P e) → (e : Expr) → NoCalls (expr_uses e) → P e
  of_uncalled holds follows = each_expr shown (record {
    bitfield_has = λ y g.
        let x = shown_bitfield shown y in
        let r = bitfield_below y (subst NoCalls (fold-roll-Bitfield Uses Uses Uses Uses Uses Uses Uses in_bitfield in_part in_expr in_field in_pattern in_slice in_type x) g) in
        bitfield_step env c P ⊥ x r.0 r.1;
    part_has = λ y g.
        let x = shown_part shown y in
        let r = part_below y (subst NoCalls (fold-roll-ConstraintPart Uses Uses Uses Uses Uses Uses Uses in_bitfield in_part in_expr in_field in_pattern in_slice in_type x) g) in
        part_step env c P ⊥ x r.0 r.1;
    expr_has = λ y g.
        let x = shown_expr shown y in
        let r = expr_below y (subst NoCalls (fold-roll-Expr Uses Uses Uses Uses Uses Uses Uses in_bitfield in_part in_expr in_field in_pattern in_slice in_type x) g) in
        follows (roll-Expr x) (subst (PlansTwin env c P ⊥) (r.1.1 ∙ sym (out-roll-Expr x)) (layer_twin env c P ⊥ holds r.0 r.1.0));
    given_has = λ y g.
        let x = shown_given shown y in
        let r = field_below y (subst NoCalls (fold-roll-FieldValue Uses Uses Uses Uses Uses Uses Uses in_bitfield in_part in_expr in_field in_pattern in_slice in_type x) g) in
        field_step env c P ⊥ x r.0 r.1;
    pattern_has = λ y g.
        let x = shown_pattern shown y in
        let r = pattern_below y (subst NoCalls (fold-roll-Pattern Uses Uses Uses Uses Uses Uses Uses in_bitfield in_part in_expr in_field in_pattern in_slice in_type x) g) in
        pattern_step env c P ⊥ x r.0 r.1;
    slice_has = λ y g.
        let x = shown_slice shown y in
        let r = slice_below y (subst NoCalls (fold-roll-Slice Uses Uses Uses Uses Uses Uses Uses in_bitfield in_part in_expr in_field in_pattern in_slice in_type x) g) in
        slice_step env c P ⊥ x r.0 r.1;
    type_has = λ y g.
        let x = shown_type shown y in
        let r = type_below y (subst NoCalls (fold-roll-TypeExpr Uses Uses Uses Uses Uses Uses Uses in_bitfield in_part in_expr in_field in_pattern in_slice in_type x) g) in
        type_step env c P ⊥ x r.0 r.1;
  })

-- ---- how such an expression ends

module _ (env : Environment) (c : Core) (holds : HoldsInitial env c) where
  -- where an expression holds no call, its run ends as was known
  uncalled : (e : Expr) → NoCalls (expr_uses e) → Bounded env c ⊥ e
  uncalled = of_uncalled env c (Bounded env c ⊥) holds (node_bound env c ⊥)

  pub record Ends (e : Expr) : Type 0 where
    pub nodes : ℕ
    pub so : (h : Meter) → nodes ≤ h.steps → EndsSo c (constant env.limit e env.names) ((meaning env nodes).expr e c h)

  pub ends_uncalled : (e : Expr) → barred e env.names ≡ None → Ends e
  ends_uncalled e b =
      let w = uncalled e (unbarred_calls e env.names b) in
      record {
        nodes = w.n;
        so = λ h j. elim (ends_so env c ⊥ e w w.n h (omega arith) j) [
          | inl s ↦ s
          | inr s ↦ absurd s.1
        ];
      }
