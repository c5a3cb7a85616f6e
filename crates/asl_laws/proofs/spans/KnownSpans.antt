-- Outside bodies: what an initialiser may not hold stands at its spans, and so does the end of its evaluation.
use Rattle.std.proofs.Common.{◌≡◌, ℕ, inl, inr, Bool, true, false, List, [], ◌∷◌, ◌++◌, map, Option, Some, None, cond, sym, subst}
use Rattle.asl_syn.specs.declared.token.Span.{Span}
use Rattle.asl_syn.specs.declared.code.Fault.{Fault}
use Rattle.asl_syn.specs.declared.code.StaticCode.{StaticCode}
use Rattle.asl_syn.specs.declared.code.StaticCode.TheVariants.{S03, T01, T04}
use Rattle.asl_syn.specs.declared.tree.Decl.{Decl}
use Rattle.asl_syn.specs.declared.tree.Decl.TheVariants as dc
use Rattle.std.specs.Prelude.{Err}
use Rattle.asl_syn.specs.declared.tree.BinaryOperator.{BinaryOperator}
use Rattle.asl_syn.specs.declared.tree.Bitfield.{Bitfield}
use Rattle.asl_syn.specs.declared.tree.ConstraintPart.{ConstraintPart}
use Rattle.asl_syn.specs.declared.tree.Expr.{Expr}
use Rattle.asl_syn.specs.declared.tree.FieldValue.{FieldValue}
use Rattle.asl_syn.specs.declared.tree.Pattern.{Pattern}
use Rattle.asl_syn.specs.declared.tree.Slice.{Slice}
use Rattle.asl_syn.specs.declared.tree.TypeExpr.{TypeExpr}
use Rattle.asl_syn.specs.declared.tree.Bitfield.TheOpen as ex
use Rattle.asl_syn.specs.declared.tree.Bitfield.TheFolds.{fold-roll-Bitfield, fold-roll-ConstraintPart, fold-roll-Expr, fold-roll-FieldValue, fold-roll-Pattern, fold-roll-Slice, fold-roll-TypeExpr}
use Rattle.asl_rules.specs.Tests.{Tests}
use Rattle.asl_rules.specs.expressions.Exprs.{found, found_type}
use Rattle.asl_rules.specs.types.Shapes.{SliceShape, PatternShape, PartShape, BitfieldShape}
use Rattle.asl_rules.specs.types.Shaped.{Shaped, TypeOver, itself, exprs_in, shapes_in, pattern_shapes, given_layer, slice_layer, pattern_layer, part_layer, bitfield_layer, type_layer}
use Rattle.asl_rules.specs.types.Closed.{closed}
use Rattle.asl_rules.specs.types.Views.{stripped}
use Rattle.asl_rules.specs.values.Values.{Value, int}
use Rattle.asl_rules.specs.types.Written.{first_value}
use Rattle.asl_rules.specs.values.Vectors.{literal_of}
use Rattle.asl_rules.specs.values.Operators.{Decided, Already, ByRight, Strictness, Strict, Lazy, truth}
use Rattle.asl_rules.specs.declarations.Scopes as scopes
use Rattle.asl_rules.specs.declarations.Scopes.{storage_of}
use Rattle.asl_rules.specs.Faults.{none_at, found_or}
use Rattle.asl_rules.specs.declarations.Programs.{as_number, origin, verdict}
use Rattle.asl_rules.specs.declared.entry.Entry.{Entry}
use Rattle.asl_rules.specs.declarations.UsedNames.{Use, Uses, or_else, of_value, of_subprogram, of_type, first_said, Each as EachUse, joined as joined_uses, in_bitfield as uses_in_bitfield, in_part as uses_in_part, in_expr as uses_in_expr, in_field as uses_in_field, in_pattern as uses_in_pattern, in_slice as uses_in_slice, in_type as uses_in_type, bitfield_uses, part_uses, given_uses, expr_uses, pattern_uses, slice_uses, type_uses}
use Rattle.asl_rules.specs.declarations.Barred.{is_global_var, barred_at, barred}
use Rattle.asl_rules.specs.runs.Plans.{Plan, Pure, Good, Bad, choose, lift}
use Rattle.asl_rules.specs.runs.Forms as forms
use Rattle.asl_rules.specs.runs.Forms.{at_once, behind, behind_all, behind_more, eval_all, unless_decided, behind_left}
use Rattle.asl_rules.specs.declarations.Constants.{Known, settled, constant_layer, constant}
use Rattle.asl_rules.proofs.constants.KnownParts.{known_bitfield, known_part, known_given, known_pattern, known_slice, known_type, known_layer, given_opened, slice_opened, range_opened, bitfield_opened, pattern_opened, type_opened}
use Rattle.asl_rules.proofs.basics.Tests.{some_same, none_some}
use Rattle.asl_laws.proofs.basics.Lists.{AllOf}
use Rattle.asl_laws.proofs.names.LayerUses.{using_bitfield, using_part, using_expr, using_given, using_pattern, using_slice, using_type}
use Rattle.asl_laws.specs.Evaluated.{expr_outside}
use Rattle.asl_laws.specs.Spans.{Mark, place, literal, Spans, Each, Placed, joined, all_of, maybe, decl_spans, in_bitfield, in_part, in_expr, in_field, in_pattern, in_slice, in_type, bitfield_spans, part_spans, expr_spans, given_spans, pattern_spans, slice_spans, type_spans}
use Rattle.asl_laws.proofs.spans.EachSpan.{each_so}
use Rattle.asl_laws.proofs.spans.Inductions.{Shown, Bitfields, Parts, Exprs, Givens, Patterns, Slices, Types, BitfieldNode, ConstraintPartNode, ExprNode, FieldValueNode, PatternNode, SliceNode, TypeExprNode, bitfield_trees, part_trees, expr_trees, given_trees, pattern_trees, slice_trees, type_trees, Steps, each_expr}
use Rattle.asl_laws.proofs.spans.SpanLayers.{spans_of_bitfield, spans_of_part, spans_of_expr, spans_of_given, spans_of_pattern, spans_of_slice, spans_of_type, inside_bitfield, inside_part, inside_expr, inside_given, inside_pattern, inside_slice, inside_type}
use Rattle.asl_laws.proofs.spans.Standing.{At, Stands, Marked}
use Rattle.asl_laws.proofs.spans.ExprSpans.{expr_there}
use Rattle.asl_laws.proofs.spans.ProgramSpans.{IsOutside, AsksOf, fault_stands}
use Rattle.asl_laws.proofs.spans.ValueEnds.{Ends, ends, step_ends, FaultAt, evaluated_stands, binary_ends, unary_ends, truth_ends, element_ends, field_ends, constructed_ends, slices_end, each_ends, bits_at_ends, converted_ends, first_ends, ShapeStands, ShapesStand, matched_ends}

module _ (P : Span → Type 0) where
  -- ---- uses of names

  abbrev pub UseAt : Use → Type 0
  UseAt (of_value span name) = P span
  UseAt (of_subprogram span name) = P span
  UseAt (of_type name) = Unit {0}

  abbrev pub UsesAt : Uses → Type 0
  UsesAt us = EachUse UseAt us

  both_uses : (us vs : Uses) → UsesAt us → UsesAt vs → UsesAt (us ++ vs)
  both_uses [] vs h k = k
  both_uses (u ∷ us) vs h k = (h.0, both_uses us vs h.1 k)

  all_uses : (xs : List Uses) → AllOf UsesAt xs → UsesAt (joined_uses xs)
  all_uses [] h = tt
  all_uses (x ∷ xs) h = both_uses x (joined_uses xs) h.0 (all_uses xs h.1)

  -- ---- plans before any run

  abbrev pub KnownEnds : Known → Type 0
  KnownEnds e = (names : List scopes.Entry) → Ends P (e names)

  module _ (limit : ℕ) (at : Span) (names : List scopes.Entry) where
    once_ends : {A : Type 0} (r : Pure A) → Ends P r → Ends P (settled at names (at_once r names))
    once_ends (Good x) h = tt
    once_ends (Bad e) h = h

    behind_ends : {A : Type 0} (a : Known) (f : Value → Pure A) → KnownEnds a → ((x : Value) → Ends P (f x)) → Ends P (settled at names (behind a names f))
    behind_ends a f h k = step_ends P (a names) _ (h names) (λ x. once_ends (f x) (k x))

    eval_ends : {A : Type 0} (es : List Known) (xs : List Value) (k : List Value → List scopes.Entry → Plan (List scopes.Entry) Known Known A) → AllOf KnownEnds es → ((ys : List Value) → Ends P (settled at names (k ys names))) → Ends P (settled at names (eval_all es xs names k))
    eval_ends [] xs k h l = l xs
    eval_ends (e ∷ es) xs k h l = step_ends P (e names) _ (h.0 names) (λ x. eval_ends es (xs ++ x ∷ []) k h.1 l)

    all_end : {A : Type 0} (es : List Known) (f : List Value → Pure A) → AllOf KnownEnds es → ((xs : List Value) → Ends P (f xs)) → Ends P (settled at names (behind_all es names f))
    all_end es f h k = eval_ends es [] _ h (λ xs. once_ends (f xs) (k xs))

    more_end : {A : Type 0} (a : Known) (es : List Known) (f : Value → List Value → Pure A) → KnownEnds a → AllOf KnownEnds es → ((x : Value) (xs : List Value) → Ends P (f x xs)) → Ends P (settled at names (behind_more a es names f))
    more_end a es f h k l = step_ends P (a names) _ (h names) (λ x. all_end es (f x) k (l x))

    decided_ends : (span : Span) (o : BinaryOperator) (b : Known) (x : Value) (d : Decided) → P span → KnownEnds b → Ends P (settled at names (unless_decided limit span o b x names d))
    decided_ends span o b x (Already r) p h = tt
    decided_ends span o b x ByRight p h = behind_ends b _ h (λ y. binary_ends P limit span o x y p)

    truly_ends : (span : Span) (o : BinaryOperator) (b : Known) (x : Value) (f : Bool → Decided) (r : Pure Bool) → P span → KnownEnds b → Ends P r → Ends P (settled at names (lift r names (λ q. unless_decided limit span o b x names (f q))))
    truly_ends span o b x f (Good q) p h k = decided_ends span o b x (f q) p h
    truly_ends span o b x f (Bad e) p h k = k

    left_ends : (span : Span) (o : BinaryOperator) (b : Known) (x : Value) (s : Strictness) → P span → KnownEnds b → Ends P (settled at names (behind_left limit span o b x s names))
    left_ends span o b x Strict p h = behind_ends b _ h (λ y. binary_ends P limit span o x y p)
    left_ends span o b x (Lazy f) p h = truly_ends span o b x f (truth span x) p h (truth_ends P span x p)

    branch_ends : (a b : Known) (q : Bool) → KnownEnds a → KnownEnds b → Ends P (settled at names (choose q (forms.branch_value stripped a names) (forms.branch_value stripped b names)))
    branch_ends a b true h k = step_ends P (a names) _ (h names) (λ y. tt)
    branch_ends a b false h k = step_ends P (b names) _ (k names) (λ y. tt)

    taken_ends : (a b : Known) (r : Pure Bool) → Ends P r → KnownEnds a → KnownEnds b → Ends P (settled at names (lift r names (λ q. choose q (forms.branch_value stripped a names) (forms.branch_value stripped b names))))
    taken_ends a b (Good q) l h k = branch_ends a b q h k
    taken_ends a b (Bad e) l h k = l

    conditional_ends : (span : Span) (e a b : Known) → P span → KnownEnds e → KnownEnds a → KnownEnds b → Ends P (settled at names (forms.conditional stripped span e a b names))
    conditional_ends span e a b p h k l = step_ends P (e names) _ (h names) (λ x. taken_ends a b (truth span x) (truth_ends P span x p) k l)

  -- ---- parts of parts

  both_end : (es fs : List Known) → AllOf KnownEnds es → AllOf KnownEnds fs → AllOf KnownEnds (es ++ fs)
  both_end [] fs h k = k
  both_end (e ∷ es) fs h k = (h.0, both_end es fs h.1 k)

  abbrev pub ExprsEnd : {X : Type 0} → Shaped X Known → Type 0
  ExprsEnd s = AllOf KnownEnds s.exprs

  exprs_end : {X : Type 0} (ss : List (Shaped X Known)) → AllOf ExprsEnd ss → AllOf KnownEnds (exprs_in itself ss)
  exprs_end [] h = tt
  exprs_end (s ∷ ss) h = both_end s.exprs (exprs_in itself ss) h.0 (exprs_end ss h.1)

  pattern_shapes_stand : (ss : List (Shaped PatternShape Known)) → AllOf (λ s. ShapeStands P s.shape) ss → ShapesStand P (pattern_shapes (shapes_in itself ss))
  pattern_shapes_stand [] h = tt
  pattern_shapes_stand (s ∷ ss) h = (h.0, pattern_shapes_stand ss h.1)

module _ (t : Tests) (P : Span → Type 0) where
  -- the names that it uses stand at such spans, and so does the end of its evaluation
  pub record ExprHas (e : Expr) : Type 0 where
    pub uses_at : UsesAt P (expr_uses e)
    pub known_at : KnownEnds P (constant t.limit e)

  pub record BitfieldHas (x : Bitfield) : Type 0 where
    pub uses_at : UsesAt P (bitfield_uses x)
    pub exprs_at : ExprsEnd P (known_bitfield t.limit x)

  pub record PartHas (x : ConstraintPart) : Type 0 where
    pub uses_at : UsesAt P (part_uses x)
    pub exprs_at : ExprsEnd P (known_part t.limit x)

  pub record GivenHas (x : FieldValue) : Type 0 where
    pub uses_at : UsesAt P (given_uses x)
    pub exprs_at : ExprsEnd P (known_given t.limit x)

  pub record PatternHas (x : Pattern) : Type 0 where
    pub uses_at : UsesAt P (pattern_uses x)
    pub exprs_at : ExprsEnd P (known_pattern t.limit x)
    pub shape_at : ShapeStands P (known_pattern t.limit x).shape

  pub record SliceHas (x : Slice) : Type 0 where
    pub uses_at : UsesAt P (slice_uses x)
    pub exprs_at : ExprsEnd P (known_slice t.limit x)

  pub record TypeHas (x : TypeExpr) : Type 0 where
    pub uses_at : UsesAt P (type_uses x)
    pub exprs_at : ExprsEnd P (known_type t.limit x)

  -- it is shown of trees whose spans are such
  abbrev shown : Shown
  shown = record {
    of_bitfield = λ x. Each (Placed P) (bitfield_spans x) → BitfieldHas x;
    of_part = λ x. Each (Placed P) (part_spans x) → PartHas x;
    of_expr = λ x. Each (Placed P) (expr_spans x) → ExprHas x;
    of_given = λ x. Each (Placed P) (given_spans x) → GivenHas x;
    of_pattern = λ x. Each (Placed P) (pattern_spans x) → PatternHas x;
    of_slice = λ x. Each (Placed P) (slice_spans x) → SliceHas x;
    of_type = λ x. Each (Placed P) (type_spans x) → TypeHas x;
  }

  -- ---- several

  -- what each has, where all their spans are such
  all_have : {X : Type 0} (spans : X → Spans) (Q : X → Type 0) (xs : List ((x : X) × (Each (Placed P) (spans x) → Q x))) → Each (Placed P) (joined (map spans (map (λ x. x.0) xs))) → AllOf Q (map (λ x. x.0) xs)
  all_have spans Q [] h = tt
  all_have spans Q (x ∷ xs) h = (x.1 h.0, all_have spans Q xs h.1)

  through : {X Y : Type 0} (f : X → Y) (Q : X → Type 0) (R : Y → Type 0) (xs : List X) → ((x : X) → Q x → R (f x)) → AllOf Q xs → AllOf R (map f xs)
  through f Q R [] k h = tt
  through f Q R (x ∷ xs) k h = (k x h.0, through f Q R xs k h.1)

  uses_there : {X : Type 0} (uses : X → Uses) (Q : X → Type 0) (xs : List X) → ((x : X) → Q x → UsesAt P (uses x)) → AllOf Q xs → UsesAt P (joined_uses (map uses xs))
  uses_there uses Q xs k h = all_uses P (map uses xs) (through uses Q (UsesAt P) xs k h)

  shaped_there : {X A : Type 0} (spans : X → Spans) (f : X → Shaped A Known) (Q : X → Type 0) (xs : List ((x : X) × (Each (Placed P) (spans x) → Q x))) → ((x : X) → Q x → ExprsEnd P (f x)) → Each (Placed P) (joined (map spans (map (λ x. x.0) xs))) → AllOf (KnownEnds P) (exprs_in itself (map f (map (λ x. x.0) xs)))
  shaped_there spans f Q xs k h = exprs_end P (map f (map (λ x. x.0) xs)) (through f Q (ExprsEnd P) (map (λ x. x.0) xs) k (all_have spans Q xs h))

  values_there : (es : List (Exprs shown)) → Each (Placed P) (joined (map expr_spans (map (λ x. x.0) es))) → AllOf (KnownEnds P) (map (constant t.limit) (map (λ x. x.0) es))
  values_there es h = through (constant t.limit) ExprHas (KnownEnds P) (map (λ x. x.0) es) (λ x k. k.known_at) (all_have expr_spans ExprHas es h)

  shapes_there : (ps : List (Patterns shown)) → Each (Placed P) (joined (map pattern_spans (map (λ x. x.0) ps))) → ShapesStand P (pattern_shapes (shapes_in itself (map (known_pattern t.limit) (map (λ x. x.0) ps))))
  shapes_there ps h = pattern_shapes_stand P (map (known_pattern t.limit) (map (λ x. x.0) ps)) (through (known_pattern t.limit) PatternHas (λ s. ShapeStands P s.shape) (map (λ x. x.0) ps) (λ x k. k.shape_at) (all_have pattern_spans PatternHas ps h))

  -- ---- the parts of a node; in the tables below the first clause names a form, so that the next is tried for each other one

  part_of_uses : {X : Type 0} (spans : X → Spans) (uses : X → Uses) (Q : X → Type 0) → ((x : X) → Q x → UsesAt P (uses x)) → (xs : List ((x : X) × (Each (Placed P) (spans x) → Q x))) → Each (Placed P) (joined (map spans (map (λ x. x.0) xs))) → UsesAt P (joined_uses (map uses (map (λ x. x.0) xs)))
  part_of_uses spans uses Q k xs h = uses_there uses Q (map (λ x. x.0) xs) k (all_have spans Q xs h)

  expr_used : (a : Exprs shown) → Each (Placed P) (expr_spans a.0) → UsesAt P (expr_uses a.0)
  expr_used a h = (a.1 h).uses_at

  pattern_used : (a : Patterns shown) → Each (Placed P) (pattern_spans a.0) → UsesAt P (pattern_uses a.0)
  pattern_used a h = (a.1 h).uses_at

  type_used : (a : Types shown) → Each (Placed P) (type_spans a.0) → UsesAt P (type_uses a.0)
  type_used a h = (a.1 h).uses_at

  bitfields_used : (xs : List (Bitfields shown)) → Each (Placed P) (joined (map bitfield_spans (map (λ x. x.0) xs))) → UsesAt P (joined_uses (map bitfield_uses (map (λ x. x.0) xs)))
  bitfields_used = part_of_uses bitfield_spans bitfield_uses BitfieldHas (λ x k. k.uses_at)

  parts_used : (xs : List (Parts shown)) → Each (Placed P) (joined (map part_spans (map (λ x. x.0) xs))) → UsesAt P (joined_uses (map part_uses (map (λ x. x.0) xs)))
  parts_used = part_of_uses part_spans part_uses PartHas (λ x k. k.uses_at)

  exprs_used : (xs : List (Exprs shown)) → Each (Placed P) (joined (map expr_spans (map (λ x. x.0) xs))) → UsesAt P (joined_uses (map expr_uses (map (λ x. x.0) xs)))
  exprs_used = part_of_uses expr_spans expr_uses ExprHas (λ x k. k.uses_at)

  given_used : (xs : List (Givens shown)) → Each (Placed P) (joined (map given_spans (map (λ x. x.0) xs))) → UsesAt P (joined_uses (map given_uses (map (λ x. x.0) xs)))
  given_used = part_of_uses given_spans given_uses GivenHas (λ x k. k.uses_at)

  patterns_used : (xs : List (Patterns shown)) → Each (Placed P) (joined (map pattern_spans (map (λ x. x.0) xs))) → UsesAt P (joined_uses (map pattern_uses (map (λ x. x.0) xs)))
  patterns_used = part_of_uses pattern_spans pattern_uses PatternHas (λ x k. k.uses_at)

  slices_used : (xs : List (Slices shown)) → Each (Placed P) (joined (map slice_spans (map (λ x. x.0) xs))) → UsesAt P (joined_uses (map slice_uses (map (λ x. x.0) xs)))
  slices_used = part_of_uses slice_spans slice_uses SliceHas (λ x k. k.uses_at)

  types_used : (xs : List (Types shown)) → Each (Placed P) (joined (map type_spans (map (λ x. x.0) xs))) → UsesAt P (joined_uses (map type_uses (map (λ x. x.0) xs)))
  types_used = part_of_uses type_spans type_uses TypeHas (λ x k. k.uses_at)

  ruleset used = (both_uses, expr_used, pattern_used, type_used, bitfields_used, parts_used, exprs_used, given_used, patterns_used, slices_used, types_used)

  expr_known : (a : Exprs shown) → Each (Placed P) (expr_spans a.0) → KnownEnds P (constant t.limit a.0)
  expr_known a h = (a.1 h).known_at

  expr_ends : (a : Exprs shown) (names : List scopes.Entry) → Each (Placed P) (expr_spans a.0) → Ends P (constant t.limit a.0 names)
  expr_ends a names h = (a.1 h).known_at names

  type_known : (a : Types shown) → Each (Placed P) (type_spans a.0) → AllOf (KnownEnds P) (known_type t.limit a.0).exprs
  type_known a h = (a.1 h).exprs_at

  pattern_known : (a : Patterns shown) → Each (Placed P) (pattern_spans a.0) → AllOf (KnownEnds P) (known_pattern t.limit a.0).exprs
  pattern_known a h = (a.1 h).exprs_at

  pattern_shape : (a : Patterns shown) → Each (Placed P) (pattern_spans a.0) → ShapeStands P (known_pattern t.limit a.0).shape
  pattern_shape a h = (a.1 h).shape_at

  bitfields_known : (xs : List (Bitfields shown)) → Each (Placed P) (joined (map bitfield_spans (map (λ x. x.0) xs))) → AllOf (KnownEnds P) (exprs_in itself (map (known_bitfield t.limit) (map (λ x. x.0) xs)))
  bitfields_known xs = shaped_there bitfield_spans (known_bitfield t.limit) BitfieldHas xs (λ x k. k.exprs_at)

  parts_known : (xs : List (Parts shown)) → Each (Placed P) (joined (map part_spans (map (λ x. x.0) xs))) → AllOf (KnownEnds P) (exprs_in itself (map (known_part t.limit) (map (λ x. x.0) xs)))
  parts_known xs = shaped_there part_spans (known_part t.limit) PartHas xs (λ x k. k.exprs_at)

  given_known : (xs : List (Givens shown)) → Each (Placed P) (joined (map given_spans (map (λ x. x.0) xs))) → AllOf (KnownEnds P) (exprs_in itself (map (known_given t.limit) (map (λ x. x.0) xs)))
  given_known xs = shaped_there given_spans (known_given t.limit) GivenHas xs (λ x k. k.exprs_at)

  patterns_known : (xs : List (Patterns shown)) → Each (Placed P) (joined (map pattern_spans (map (λ x. x.0) xs))) → AllOf (KnownEnds P) (exprs_in itself (map (known_pattern t.limit) (map (λ x. x.0) xs)))
  patterns_known xs = shaped_there pattern_spans (known_pattern t.limit) PatternHas xs (λ x k. k.exprs_at)

  slices_known : (xs : List (Slices shown)) → Each (Placed P) (joined (map slice_spans (map (λ x. x.0) xs))) → AllOf (KnownEnds P) (exprs_in itself (map (known_slice t.limit) (map (λ x. x.0) xs)))
  slices_known xs = shaped_there slice_spans (known_slice t.limit) SliceHas xs (λ x k. k.exprs_at)

  types_known : (xs : List (Types shown)) → Each (Placed P) (joined (map type_spans (map (λ x. x.0) xs))) → AllOf (KnownEnds P) (exprs_in itself (map (known_type t.limit) (map (λ x. x.0) xs)))
  types_known xs = shaped_there type_spans (known_type t.limit) TypeHas xs (λ x k. k.exprs_at)

  ruleset known = (ends, expr_known, expr_ends, type_known, pattern_known, pattern_shape, values_there, shapes_there, bitfields_known, parts_known, given_known, patterns_known, slices_known, types_known, once_ends, eval_ends, all_end, more_end, left_ends, conditional_ends, unary_ends, element_ends, field_ends, constructed_ends, slices_end, each_ends, bits_at_ends, converted_ends, matched_ends)

  -- ---- the names in each layer

  bitfield_layer_uses : (y : BitfieldNode shown) → Each (Placed P) (in_bitfield (spans_of_bitfield (bitfield_trees shown y))) → UsesAt P (uses_in_bitfield (using_bitfield (bitfield_trees shown y)))
  bitfield_layer_uses (ex.OneBit e i) h = search used
  bitfield_layer_uses y h = search used

  part_layer_uses : (y : ConstraintPartNode shown) → Each (Placed P) (in_part (spans_of_part (part_trees shown y))) → UsesAt P (uses_in_part (using_part (part_trees shown y)))
  part_layer_uses (ex.Only e) h = search used
  part_layer_uses y h = search used

  expr_layer_uses : (y : ExprNode shown) → Each (Placed P) (in_expr (spans_of_expr (expr_trees shown y))) → UsesAt P (uses_in_expr (using_expr (expr_trees shown y)))
  expr_layer_uses (ex.Call span i ps es) h = (h.0, both_uses P (joined_uses (map expr_uses (map (λ x. x.0) ps))) (joined_uses (map expr_uses (map (λ x. x.0) es))) (exprs_used ps h.1.1.0) (exprs_used es h.1.1.1))
  expr_layer_uses y h = search used

  given_layer_uses : (y : FieldValueNode shown) → Each (Placed P) (in_field (spans_of_given (given_trees shown y))) → UsesAt P (uses_in_field (using_given (given_trees shown y)))
  given_layer_uses (ex.Given i e) h = search used

  pattern_layer_uses : (y : PatternNode shown) → Each (Placed P) (in_pattern (spans_of_pattern (pattern_trees shown y))) → UsesAt P (uses_in_pattern (using_pattern (pattern_trees shown y)))
  pattern_layer_uses (ex.AnyPattern span) h = search used
  pattern_layer_uses y h = search used

  slice_layer_uses : (y : SliceNode shown) → Each (Placed P) (in_slice (spans_of_slice (slice_trees shown y))) → UsesAt P (uses_in_slice (using_slice (slice_trees shown y)))
  slice_layer_uses (ex.BitAt e) h = search used
  slice_layer_uses y h = search used

  type_layer_uses : (y : TypeExprNode shown) → Each (Placed P) (in_type (spans_of_type (type_trees shown y))) → UsesAt P (uses_in_type (using_type (type_trees shown y)))
  type_layer_uses (ex.BooleanType span) h = search used
  type_layer_uses y h = search used

  -- ---- the values of each layer

  bitfield_layer_ends : (y : BitfieldNode shown) → Each (Placed P) (in_bitfield (spans_of_bitfield (bitfield_trees shown y))) → ExprsEnd P (bitfield_opened t.limit (bitfield_trees shown y))
  bitfield_layer_ends (ex.OneBit e i) h = search known
  bitfield_layer_ends y h = search known

  part_layer_ends : (y : ConstraintPartNode shown) → Each (Placed P) (in_part (spans_of_part (part_trees shown y))) → ExprsEnd P (range_opened t.limit (part_trees shown y))
  part_layer_ends (ex.Only e) h = search known
  part_layer_ends y h = search known

  expr_layer_ends : (y : ExprNode shown) → Each (Placed P) (in_expr (spans_of_expr (expr_trees shown y))) → (names : List scopes.Entry) → Ends P (constant_layer t.limit (known_layer t.limit (expr_trees shown y)) names)
  expr_layer_ends (ex.Int span n) h names = search known
  expr_layer_ends y h names = search known depth 20

  given_layer_ends : (y : FieldValueNode shown) → Each (Placed P) (in_field (spans_of_given (given_trees shown y))) → ExprsEnd P (given_opened t.limit (given_trees shown y))
  given_layer_ends (ex.Given i e) h = search known

  pattern_layer_ends : (y : PatternNode shown) → Each (Placed P) (in_pattern (spans_of_pattern (pattern_trees shown y))) → ExprsEnd P (pattern_opened t.limit (pattern_trees shown y))
  pattern_layer_ends (ex.AnyPattern span) h = search known
  pattern_layer_ends y h = search known

  slice_layer_ends : (y : SliceNode shown) → Each (Placed P) (in_slice (spans_of_slice (slice_trees shown y))) → ExprsEnd P (slice_opened t.limit (slice_trees shown y))
  slice_layer_ends (ex.BitAt e) h = search known
  slice_layer_ends y h = search known

  type_layer_ends : (y : TypeExprNode shown) → Each (Placed P) (in_type (spans_of_type (type_trees shown y))) → ExprsEnd P (type_opened t.limit (type_trees shown y))
  type_layer_ends (ex.BooleanType span) h = search known
  type_layer_ends y h = search known

  pattern_layer_shape : (y : PatternNode shown) → Each (Placed P) (in_pattern (spans_of_pattern (pattern_trees shown y))) → ShapeStands P (pattern_opened t.limit (pattern_trees shown y)).shape
  pattern_layer_shape (ex.AnyPattern span) h = search known
  pattern_layer_shape y h = search known

  -- ---- by induction over trees

  steps_all : Steps shown
  steps_all = record {
    bitfield_has = λ y h.
        let x = bitfield_trees shown y in
        let g = inside_bitfield (Placed P) x h in
        record {
          uses_at = subst (UsesAt P) (sym {b = uses_in_bitfield (using_bitfield x)} (fold-roll-Bitfield Uses Uses Uses Uses Uses Uses Uses uses_in_bitfield uses_in_part uses_in_expr uses_in_field uses_in_pattern uses_in_slice uses_in_type x)) (bitfield_layer_uses y g);
          exprs_at = subst (ExprsEnd P) (sym {b = bitfield_opened t.limit x} (fold-roll-Bitfield (Shaped BitfieldShape Known) (Shaped PartShape Known) Known (Shaped (List ℕ) Known) (Shaped PatternShape Known) (Shaped SliceShape Known) (Shaped TypeOver Known) (bitfield_layer itself) (part_layer itself) (constant_layer t.limit) (given_layer itself) (pattern_layer itself itself) (slice_layer itself) (type_layer itself itself itself itself) x)) (bitfield_layer_ends y g);
        };
    part_has = λ y h.
        let x = part_trees shown y in
        let g = inside_part (Placed P) x h in
        record {
          uses_at = subst (UsesAt P) (sym {b = uses_in_part (using_part x)} (fold-roll-ConstraintPart Uses Uses Uses Uses Uses Uses Uses uses_in_bitfield uses_in_part uses_in_expr uses_in_field uses_in_pattern uses_in_slice uses_in_type x)) (part_layer_uses y g);
          exprs_at = subst (ExprsEnd P) (sym {b = range_opened t.limit x} (fold-roll-ConstraintPart (Shaped BitfieldShape Known) (Shaped PartShape Known) Known (Shaped (List ℕ) Known) (Shaped PatternShape Known) (Shaped SliceShape Known) (Shaped TypeOver Known) (bitfield_layer itself) (part_layer itself) (constant_layer t.limit) (given_layer itself) (pattern_layer itself itself) (slice_layer itself) (type_layer itself itself itself itself) x)) (part_layer_ends y g);
        };
    expr_has = λ y h.
        let x = expr_trees shown y in
        let g = inside_expr (Placed P) x h in
        let k = sym {b = constant_layer t.limit (known_layer t.limit x)} (fold-roll-Expr (Shaped BitfieldShape Known) (Shaped PartShape Known) Known (Shaped (List ℕ) Known) (Shaped PatternShape Known) (Shaped SliceShape Known) (Shaped TypeOver Known) (bitfield_layer itself) (part_layer itself) (constant_layer t.limit) (given_layer itself) (pattern_layer itself itself) (slice_layer itself) (type_layer itself itself itself itself) x) in
        record {
          uses_at = subst (UsesAt P) (sym {b = uses_in_expr (using_expr x)} (fold-roll-Expr Uses Uses Uses Uses Uses Uses Uses uses_in_bitfield uses_in_part uses_in_expr uses_in_field uses_in_pattern uses_in_slice uses_in_type x)) (expr_layer_uses y g);
          known_at = subst (KnownEnds P) k (expr_layer_ends y g);
        };
    given_has = λ y h.
        let x = given_trees shown y in
        let g = inside_given (Placed P) x h in
        record {
          uses_at = subst (UsesAt P) (sym {b = uses_in_field (using_given x)} (fold-roll-FieldValue Uses Uses Uses Uses Uses Uses Uses uses_in_bitfield uses_in_part uses_in_expr uses_in_field uses_in_pattern uses_in_slice uses_in_type x)) (given_layer_uses y g);
          exprs_at = subst (ExprsEnd P) (sym {b = given_opened t.limit x} (fold-roll-FieldValue (Shaped BitfieldShape Known) (Shaped PartShape Known) Known (Shaped (List ℕ) Known) (Shaped PatternShape Known) (Shaped SliceShape Known) (Shaped TypeOver Known) (bitfield_layer itself) (part_layer itself) (constant_layer t.limit) (given_layer itself) (pattern_layer itself itself) (slice_layer itself) (type_layer itself itself itself itself) x)) (given_layer_ends y g);
        };
    pattern_has = λ y h.
        let x = pattern_trees shown y in
        let g = inside_pattern (Placed P) x h in
        let k = sym {b = pattern_opened t.limit x} (fold-roll-Pattern (Shaped BitfieldShape Known) (Shaped PartShape Known) Known (Shaped (List ℕ) Known) (Shaped PatternShape Known) (Shaped SliceShape Known) (Shaped TypeOver Known) (bitfield_layer itself) (part_layer itself) (constant_layer t.limit) (given_layer itself) (pattern_layer itself itself) (slice_layer itself) (type_layer itself itself itself itself) x) in
        record {
          uses_at = subst (UsesAt P) (sym {b = uses_in_pattern (using_pattern x)} (fold-roll-Pattern Uses Uses Uses Uses Uses Uses Uses uses_in_bitfield uses_in_part uses_in_expr uses_in_field uses_in_pattern uses_in_slice uses_in_type x)) (pattern_layer_uses y g);
          exprs_at = subst (ExprsEnd P) k (pattern_layer_ends y g);
          shape_at = subst (λ (s : Shaped PatternShape Known). ShapeStands P s.shape) k (pattern_layer_shape y g);
        };
    slice_has = λ y h.
        let x = slice_trees shown y in
        let g = inside_slice (Placed P) x h in
        record {
          uses_at = subst (UsesAt P) (sym {b = uses_in_slice (using_slice x)} (fold-roll-Slice Uses Uses Uses Uses Uses Uses Uses uses_in_bitfield uses_in_part uses_in_expr uses_in_field uses_in_pattern uses_in_slice uses_in_type x)) (slice_layer_uses y g);
          exprs_at = subst (ExprsEnd P) (sym {b = slice_opened t.limit x} (fold-roll-Slice (Shaped BitfieldShape Known) (Shaped PartShape Known) Known (Shaped (List ℕ) Known) (Shaped PatternShape Known) (Shaped SliceShape Known) (Shaped TypeOver Known) (bitfield_layer itself) (part_layer itself) (constant_layer t.limit) (given_layer itself) (pattern_layer itself itself) (slice_layer itself) (type_layer itself itself itself itself) x)) (slice_layer_ends y g);
        };
    type_has = λ y h.
        let x = type_trees shown y in
        let g = inside_type (Placed P) x h in
        record {
          uses_at = subst (UsesAt P) (sym {b = uses_in_type (using_type x)} (fold-roll-TypeExpr Uses Uses Uses Uses Uses Uses Uses uses_in_bitfield uses_in_part uses_in_expr uses_in_field uses_in_pattern uses_in_slice uses_in_type x)) (type_layer_uses y g);
          exprs_at = subst (ExprsEnd P) (sym {b = type_opened t.limit x} (fold-roll-TypeExpr (Shaped BitfieldShape Known) (Shaped PartShape Known) Known (Shaped (List ℕ) Known) (Shaped PatternShape Known) (Shaped SliceShape Known) (Shaped TypeOver Known) (bitfield_layer itself) (part_layer itself) (constant_layer t.limit) (given_layer itself) (pattern_layer itself itself) (slice_layer itself) (type_layer itself itself itself itself) x)) (type_layer_ends y g);
        };
  }

  expr_has : (x : Expr) → Each (Placed P) (expr_spans x) → ExprHas x
  expr_has = each_expr shown steps_all

  -- the end of an evaluation stands at the spans of the expression
  pub known_there : (x : Expr) (names : List scopes.Entry) → Each (Placed P) (expr_spans x) → Ends P (constant t.limit x names)
  known_there x names h = (expr_has x h).known_at names

  -- ---- what is barred, and what is evaluated

  -- what an option holds stands at such a span
  abbrev pub MaybeAt : Option Span → Type 0
  MaybeAt None = Unit {0}
  MaybeAt (Some span) = P span

  or_at : (o q : Option Span) → MaybeAt o → MaybeAt q → MaybeAt (or_else o q)
  or_at None q h k = k
  or_at (Some span) q h k = h

  at_var_stands : (span : Span) (b : Bool) → P span → MaybeAt (cond b (Some span) None)
  at_var_stands span true p = p
  at_var_stands span false p = tt

  barred_use : (names : List scopes.Entry) (u : Use) → UseAt P u → MaybeAt (barred_at names u)
  barred_use names (of_value span name) h = at_var_stands span (is_global_var (storage_of name names)) h
  barred_use names (of_subprogram span name) h = h
  barred_use names (of_type name) h = tt

  said_at : (names : List scopes.Entry) (us : Uses) → UsesAt P us → MaybeAt (first_said (barred_at names) us)
  said_at names [] h = tt
  said_at names (u ∷ us) h = or_at (barred_at names u) (first_said (barred_at names) us) (barred_use names u h.0) (said_at names us h.1)

  -- what is barred stands at the spans of the expression
  pub barred_there : (x : Expr) (names : List scopes.Entry) → Each (Placed P) (expr_spans x) → MaybeAt (barred x names)
  barred_there x names h = said_at names (expr_uses x) (expr_has x h).uses_at

  -- ---- what is asked of evaluations outside bodies

  -- where faults may stand, there spans are such
  at_such : (span : Span) → At (FaultAt P) span → P span
  at_such span p = p.fault_has T01 tt

  at_there : (span : Span) → P span → At (FaultAt P) span
  at_there span p = record { fault_has = λ code o. p }

  none_literal : (span : Span) (o : Option (List Bool)) → P span → Stands (FaultAt P) (found_or o S03 span)
  none_literal span None p = record { has = p }
  none_literal span (Some bs) p = tt

  mark_there : (mark : Mark) → Placed P mark → Marked (FaultAt P) t mark
  mark_there (place span) p = at_there span p
  mark_there (literal span text) p = (at_there span p, none_literal span (literal_of t.limit text) p)

  all_there : (s : Spans) → Each (Placed P) s → Each (Marked (FaultAt P) t) s
  all_there = each_so (Placed P) (Marked (FaultAt P) t) mark_there

  none_stands : (code : StaticCode) (o : Option Span) → MaybeAt o → Stands (FaultAt P) (none_at code o)
  none_stands code None h = tt
  none_stands code (Some span) h = record { has = h }

  number_stands : (span : Span) (x : Value) → P span → Stands (FaultAt P) (as_number span x)
  number_stands span (int z) p = tt
  number_stands span x p = record { has = p }

  -- the spans of an expression outside bodies
  outside_there : (ds : List Decl) → Each (Placed P) (all_of decl_spans ds) → (e : Expr) → IsOutside ds e → Each (Placed P) (expr_spans e)
  outside_there (d ∷ ds) h e (c, (inl same, is)) = of_decl d h.0 (subst (λ x. expr_outside x ≡ Some e) (sym same) is)
    where
      given : (o : Option Expr) → Each (Placed P) (maybe expr_spans o) → o ≡ Some e → Each (Placed P) (expr_spans e)
      given (Some x) k q = subst (λ (z : Expr). Each (Placed P) (expr_spans z)) (some_same x e q) k
      given None k q = none_some e q

      of_decl : (x : Decl) → Each (Placed P) (decl_spans x) → expr_outside x ≡ Some e → Each (Placed P) (expr_spans e)
      of_decl (dc.Type x) k q = none_some e q
      of_decl (dc.Storage x) k q = given x.init k.1.1.1 q
      of_decl (dc.Func x) k q = given x.limit k.1.1.1.1.1.0 q
  outside_there (d ∷ ds) h e (c, (inr i, is)) = outside_there ds h.1 e (c, (i, is))
  outside_there [] h e (c, (i, is)) = absurd i

  asks : (ds : List Decl) → Each (Placed P) (all_of decl_spans ds) → AsksOf t ds (FaultAt P)
  asks ds h = record {
    barred_at = λ names v e o. none_stands T04 (barred e names) (said_at names (expr_uses e) (expr_has e (outside_there ds h e o)).uses_at);
    known_at = λ names v e o k S b so. evaluated_stands P (constant t.limit e names) ((expr_has e (outside_there ds h e o)).known_at names);
    number_at = λ names v e o k S b so i x g. number_stands (found t e).span x (at_such (found t e).span (expr_there t (FaultAt P) e (all_there (expr_spans e) (outside_there ds h e o))).at);
    bare_at = λ s i ty init p. record { has = at_such s.span p };
    first_at = λ names v s i init ty q W w p.
        evaluated_stands P (first_value t.limit (found_type t ty).span (closed W.ty)) (first_ends P t.limit (found_type t ty).span (closed W.ty) (at_such (found_type t ty).span p));
  }

  -- the fault of declarations stands at one of their spans, or, where no entry is found, at the beginning of the first file
  pub fault_there : (e : Entry) (ds : List Decl) (f : Fault) → P origin → Each (Placed P) (all_of decl_spans ds) → verdict e ds t ≡ Err f → P f.span
  fault_there e ds f p h is = fault_stands t (FaultAt P) ds (asks ds h) e f (at_there origin p) (all_there (all_of decl_spans ds) h) is
