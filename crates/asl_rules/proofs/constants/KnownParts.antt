-- Slices, patterns, fields given and written types before any run: their shapes are those of the trees, and their expressions stand for the values of these.
use Rattle.std.proofs.Common.{◌≡◌, ℕ, List, [], ◌∷◌, ◌++◌, Some, refl, sym, ap, ap₂, ◌∙◌, map}
use Rattle.std.specs.Prelude.{option_map}
use Rattle.asl_syn.specs.declared.tree.Bitfield.{Bitfield, out-Bitfield}
use Rattle.asl_syn.specs.declared.tree.ConstraintPart.{ConstraintPart, out-ConstraintPart}
use Rattle.asl_syn.specs.declared.tree.Expr.{Expr, out-Expr}
use Rattle.asl_syn.specs.declared.tree.FieldValue.{FieldValue, out-FieldValue}
use Rattle.asl_syn.specs.declared.tree.Pattern.{Pattern, roll-Pattern}
use Rattle.asl_syn.specs.declared.tree.Slice.{Slice, out-Slice}
use Rattle.asl_syn.specs.declared.tree.TypeExpr.{TypeExpr, roll-TypeExpr}
use Rattle.asl_syn.specs.declared.tree.Bitfield.TheOpen as ex
use Rattle.asl_syn.specs.declared.tree.Bitfield.TheFolds.{fold-Bitfield, fold-ConstraintPart, fold-FieldValue, fold-Pattern, fold-Slice, fold-TypeExpr, fold_out-Bitfield, fold_out-ConstraintPart, fold_out-Expr, fold_out-FieldValue, fold_out-Slice, fold-roll-Pattern, fold-roll-TypeExpr, para-roll-Pattern, para-roll-TypeExpr, map-Bitfield, map-ConstraintPart, map-Expr, map-FieldValue, map-Pattern, map-Slice, map-TypeExpr, ind-Pattern, ind-TypeExpr}
use Rattle.asl_syn.specs.Layers.{ExprLayer, TypeLayer}
use Rattle.asl_rules.specs.types.Shapes as shapes
use Rattle.asl_rules.specs.types.Shapes.{SliceShape, PatternShape, PartShape, BitfieldShape, TypeShape, TypeShapes}
use Rattle.asl_rules.specs.types.Shaped.{Shaped, Named, TypeOver, Unread, itself, exprs_in, shapes_in, pattern_shapes, type_shapes, first_shape, given_layer, slice_layer, pattern_layer, part_layer, bitfield_layer, type_layer, given_parts, slice_parts, bitfield_parts, range_parts, pattern_parts, type_parts}
use Rattle.asl_rules.specs.declarations.Constants.{Known, ConstantLayer, constant_layer, constant}

map_append : {A B : Type 0} (f : A → B) (xs ys : List A) → map f (xs ++ ys) ≡ map f xs ++ map f ys
map_append f [] ys = refl
map_append f (x ∷ xs) ys = ap (λ zs. f x ∷ zs) (map_append f xs ys)

abbrev Any : {A : Type 0} → A → Type 0
Any x = Unit {0}

abbrev pub PatternLayer : Type 0
PatternLayer = ex.Pattern-F Bitfield ConstraintPart Expr FieldValue Pattern Slice TypeExpr

module _ (limit : ℕ) where
  -- parts with what stands for their expressions
  abbrev pub with_known : {A : Type 0} → Shaped A Expr → Shaped A Known
  with_known s = record { shape = s.shape; exprs = map (constant limit) s.exprs }

  abbrev pub known_bitfield : Bitfield → Shaped BitfieldShape Known
  known_bitfield = fold-Bitfield (Shaped BitfieldShape Known) (Shaped PartShape Known) Known (Shaped (List ℕ) Known) (Shaped PatternShape Known) (Shaped SliceShape Known) (Shaped TypeOver Known)
      (bitfield_layer itself) (part_layer itself) (constant_layer limit) (given_layer itself) (pattern_layer itself itself) (slice_layer itself) (type_layer itself itself itself itself)

  abbrev pub known_part : ConstraintPart → Shaped PartShape Known
  known_part = fold-ConstraintPart (Shaped BitfieldShape Known) (Shaped PartShape Known) Known (Shaped (List ℕ) Known) (Shaped PatternShape Known) (Shaped SliceShape Known) (Shaped TypeOver Known)
      (bitfield_layer itself) (part_layer itself) (constant_layer limit) (given_layer itself) (pattern_layer itself itself) (slice_layer itself) (type_layer itself itself itself itself)

  abbrev pub known_given : FieldValue → Shaped (List ℕ) Known
  known_given = fold-FieldValue (Shaped BitfieldShape Known) (Shaped PartShape Known) Known (Shaped (List ℕ) Known) (Shaped PatternShape Known) (Shaped SliceShape Known) (Shaped TypeOver Known)
      (bitfield_layer itself) (part_layer itself) (constant_layer limit) (given_layer itself) (pattern_layer itself itself) (slice_layer itself) (type_layer itself itself itself itself)

  abbrev pub known_pattern : Pattern → Shaped PatternShape Known
  known_pattern = fold-Pattern (Shaped BitfieldShape Known) (Shaped PartShape Known) Known (Shaped (List ℕ) Known) (Shaped PatternShape Known) (Shaped SliceShape Known) (Shaped TypeOver Known)
      (bitfield_layer itself) (part_layer itself) (constant_layer limit) (given_layer itself) (pattern_layer itself itself) (slice_layer itself) (type_layer itself itself itself itself)

  abbrev pub known_slice : Slice → Shaped SliceShape Known
  known_slice = fold-Slice (Shaped BitfieldShape Known) (Shaped PartShape Known) Known (Shaped (List ℕ) Known) (Shaped PatternShape Known) (Shaped SliceShape Known) (Shaped TypeOver Known)
      (bitfield_layer itself) (part_layer itself) (constant_layer limit) (given_layer itself) (pattern_layer itself itself) (slice_layer itself) (type_layer itself itself itself itself)

  abbrev pub known_type : TypeExpr → Shaped TypeOver Known
  known_type = fold-TypeExpr (Shaped BitfieldShape Known) (Shaped PartShape Known) Known (Shaped (List ℕ) Known) (Shaped PatternShape Known) (Shaped SliceShape Known) (Shaped TypeOver Known)
      (bitfield_layer itself) (part_layer itself) (constant_layer limit) (given_layer itself) (pattern_layer itself itself) (slice_layer itself) (type_layer itself itself itself itself)

  -- ---- one layer

  abbrev pub known_layer : ExprLayer → ConstantLayer
  known_layer = map-Expr Bitfield ConstraintPart Expr FieldValue Pattern Slice TypeExpr (Shaped BitfieldShape Known) (Shaped PartShape Known) Known (Shaped (List ℕ) Known) (Shaped PatternShape Known) (Shaped SliceShape Known) (Shaped TypeOver Known)
      known_bitfield known_part (constant limit) known_given known_pattern known_slice known_type

  pub constant_out : (e : Expr) → constant limit e ≡ constant_layer limit (known_layer (out-Expr e))
  constant_out e = fold_out-Expr (Shaped BitfieldShape Known) (Shaped PartShape Known) Known (Shaped (List ℕ) Known) (Shaped PatternShape Known) (Shaped SliceShape Known) (Shaped TypeOver Known)
      (bitfield_layer itself) (part_layer itself) (constant_layer limit) (given_layer itself) (pattern_layer itself itself) (slice_layer itself) (type_layer itself itself itself itself) e

  -- ---- lists of parts

  pub parts_of : {A X : Type 0} (f : X → Shaped A Known) (g : X → Shaped A Expr) → ((x : X) → f x ≡ with_known (g x)) → (xs : List X) → exprs_in itself (map f xs) ≡ map (constant limit) (exprs_in g xs)
  parts_of f g h [] = refl
  parts_of f g h (x ∷ xs) = ap₂ (λ us vs. us ++ vs) (ap (λ s. s.exprs) (h x)) (parts_of f g h xs) ∙ sym (map_append (constant limit) ((g x).exprs) (exprs_in g xs))

  pub shapes_of : {A X : Type 0} (f : X → Shaped A Known) (g : X → Shaped A Expr) → ((x : X) → f x ≡ with_known (g x)) → (xs : List X) → shapes_in itself (map f xs) ≡ shapes_in g xs
  shapes_of f g h [] = refl
  shapes_of f g h (x ∷ xs) = ap₂ (λ u us. u ∷ us) (ap (λ s. s.shape) (h x)) (shapes_of f g h xs)

  -- the same, where each tree stands with nothing
  bare_exprs : {A X : Type 0} (g : X → Shaped A Expr) (xs : List X) → exprs_in g xs ≡ exprs_in (λ (x : X × Unread). g x.0) (map (λ x. (x, tt)) xs)
  bare_exprs g [] = refl
  bare_exprs g (x ∷ xs) = ap (λ zs. (g x).exprs ++ zs) (bare_exprs g xs)

  bare_shapes : {A X : Type 0} (g : X → Shaped A Expr) (xs : List X) → shapes_in g xs ≡ shapes_in (λ (x : X × Unread). g x.0) (map (λ x. (x, tt)) xs)
  bare_shapes g [] = refl
  bare_shapes g (x ∷ xs) = ap (λ zs. (g x).shape ∷ zs) (bare_shapes g xs)

  -- the same, where each tree stands with its parts
  below_exprs : {A X : Type 0} (f : X → Shaped A Known) (g : X → Shaped A Expr) (xs : List ((x : X) × (f x ≡ with_known (g x)))) → exprs_in itself (map f (map (λ x. x.0) xs)) ≡ map (constant limit) (exprs_in (λ (x : X × Shaped A Expr). x.1) (map (λ x. (x, g x)) (map (λ x. x.0) xs)))
  below_exprs f g [] = refl
  below_exprs f g (x ∷ xs) = ap₂ (λ us vs. us ++ vs) (ap (λ s. s.exprs) x.1) (below_exprs f g xs) ∙ sym (map_append (constant limit) ((g x.0).exprs) (exprs_in (λ y. y.1) (map (λ y. (y, g y)) (map (λ y. y.0) xs))))

  below_shapes : {A X : Type 0} (f : X → Shaped A Known) (g : X → Shaped A Expr) (xs : List ((x : X) × (f x ≡ with_known (g x)))) → shapes_in itself (map f (map (λ x. x.0) xs)) ≡ shapes_in (λ (x : X × Shaped A Expr). x.1) (map (λ x. (x, g x)) (map (λ x. x.0) xs))
  below_shapes f g [] = refl
  below_shapes f g (x ∷ xs) = ap₂ (λ u us. u ∷ us) (ap (λ s. s.shape) x.1) (below_shapes f g xs)

  -- ---- fields, slices, ranges and bitfields

  abbrev pub given_opened : ex.FieldValue-F Bitfield ConstraintPart Expr FieldValue Pattern Slice TypeExpr → Shaped (List ℕ) Known
  given_opened x = given_layer itself (map-FieldValue Bitfield ConstraintPart Expr FieldValue Pattern Slice TypeExpr (Shaped BitfieldShape Known) (Shaped PartShape Known) Known (Shaped (List ℕ) Known) (Shaped PatternShape Known) (Shaped SliceShape Known) (Shaped TypeOver Known)
      known_bitfield known_part (constant limit) known_given known_pattern known_slice known_type x)

  given_in : (x : ex.FieldValue-F Bitfield ConstraintPart Expr FieldValue Pattern Slice TypeExpr) → given_opened x ≡ with_known (given_layer itself x)
  given_in (ex.Given i e) = refl

  pub given_known : (f : FieldValue) → known_given f ≡ with_known (given_parts f)
  given_known f = fold_out-FieldValue (Shaped BitfieldShape Known) (Shaped PartShape Known) Known (Shaped (List ℕ) Known) (Shaped PatternShape Known) (Shaped SliceShape Known) (Shaped TypeOver Known)
      (bitfield_layer itself) (part_layer itself) (constant_layer limit) (given_layer itself) (pattern_layer itself itself) (slice_layer itself) (type_layer itself itself itself itself) f ∙ given_in (out-FieldValue f)

  abbrev pub slice_opened : ex.Slice-F Bitfield ConstraintPart Expr FieldValue Pattern Slice TypeExpr → Shaped SliceShape Known
  slice_opened x = slice_layer itself (map-Slice Bitfield ConstraintPart Expr FieldValue Pattern Slice TypeExpr (Shaped BitfieldShape Known) (Shaped PartShape Known) Known (Shaped (List ℕ) Known) (Shaped PatternShape Known) (Shaped SliceShape Known) (Shaped TypeOver Known)
      known_bitfield known_part (constant limit) known_given known_pattern known_slice known_type x)

  slice_in : (x : ex.Slice-F Bitfield ConstraintPart Expr FieldValue Pattern Slice TypeExpr) → slice_opened x ≡ with_known (slice_layer itself x)
  slice_in (ex.BitAt i) = refl
  slice_in (ex.HighLow h l) = refl
  slice_in (ex.LowWidth l w) = refl
  slice_in (ex.FactorWidth k w) = refl

  pub slice_known : (s : Slice) → known_slice s ≡ with_known (slice_parts s)
  slice_known s = fold_out-Slice (Shaped BitfieldShape Known) (Shaped PartShape Known) Known (Shaped (List ℕ) Known) (Shaped PatternShape Known) (Shaped SliceShape Known) (Shaped TypeOver Known)
      (bitfield_layer itself) (part_layer itself) (constant_layer limit) (given_layer itself) (pattern_layer itself itself) (slice_layer itself) (type_layer itself itself itself itself) s ∙ slice_in (out-Slice s)

  abbrev pub range_opened : ex.ConstraintPart-F Bitfield ConstraintPart Expr FieldValue Pattern Slice TypeExpr → Shaped PartShape Known
  range_opened x = part_layer itself (map-ConstraintPart Bitfield ConstraintPart Expr FieldValue Pattern Slice TypeExpr (Shaped BitfieldShape Known) (Shaped PartShape Known) Known (Shaped (List ℕ) Known) (Shaped PatternShape Known) (Shaped SliceShape Known) (Shaped TypeOver Known)
      known_bitfield known_part (constant limit) known_given known_pattern known_slice known_type x)

  range_in : (x : ex.ConstraintPart-F Bitfield ConstraintPart Expr FieldValue Pattern Slice TypeExpr) → range_opened x ≡ with_known (part_layer itself x)
  range_in (ex.Only e) = refl
  range_in (ex.FromTo a b) = refl

  range_known : (p : ConstraintPart) → known_part p ≡ with_known (range_parts p)
  range_known p = fold_out-ConstraintPart (Shaped BitfieldShape Known) (Shaped PartShape Known) Known (Shaped (List ℕ) Known) (Shaped PatternShape Known) (Shaped SliceShape Known) (Shaped TypeOver Known)
      (bitfield_layer itself) (part_layer itself) (constant_layer limit) (given_layer itself) (pattern_layer itself itself) (slice_layer itself) (type_layer itself itself itself itself) p ∙ range_in (out-ConstraintPart p)

  abbrev pub bitfield_opened : ex.Bitfield-F Bitfield ConstraintPart Expr FieldValue Pattern Slice TypeExpr → Shaped BitfieldShape Known
  bitfield_opened x = bitfield_layer itself (map-Bitfield Bitfield ConstraintPart Expr FieldValue Pattern Slice TypeExpr (Shaped BitfieldShape Known) (Shaped PartShape Known) Known (Shaped (List ℕ) Known) (Shaped PatternShape Known) (Shaped SliceShape Known) (Shaped TypeOver Known)
      known_bitfield known_part (constant limit) known_given known_pattern known_slice known_type x)

  bitfield_in : (x : ex.Bitfield-F Bitfield ConstraintPart Expr FieldValue Pattern Slice TypeExpr) → bitfield_opened x ≡ with_known (bitfield_layer itself x)
  bitfield_in (ex.OneBit e i) = refl
  bitfield_in (ex.BitRange h l i) = refl

  bitfield_known : (b : Bitfield) → known_bitfield b ≡ with_known (bitfield_parts b)
  bitfield_known b = fold_out-Bitfield (Shaped BitfieldShape Known) (Shaped PartShape Known) Known (Shaped (List ℕ) Known) (Shaped PatternShape Known) (Shaped SliceShape Known) (Shaped TypeOver Known)
      (bitfield_layer itself) (part_layer itself) (constant_layer limit) (given_layer itself) (pattern_layer itself itself) (slice_layer itself) (type_layer itself itself itself itself) b ∙ bitfield_in (out-Bitfield b)

  -- ---- patterns

  abbrev SamePattern : Pattern → Type 0
  SamePattern p = known_pattern p ≡ with_known (pattern_parts p)

  abbrev PatternBelow : Type 0
  PatternBelow = ex.Pattern-F ((b : Bitfield) × Any b) ((p : ConstraintPart) × Any p) ((e : Expr) × Any e) ((f : FieldValue) × Any f) ((p : Pattern) × SamePattern p) ((s : Slice) × Any s) ((t : TypeExpr) × Any t)

  abbrev pattern_trees : PatternBelow → PatternLayer
  pattern_trees = map-Pattern ((b : Bitfield) × Any b) ((p : ConstraintPart) × Any p) ((e : Expr) × Any e) ((f : FieldValue) × Any f) ((p : Pattern) × SamePattern p) ((s : Slice) × Any s) ((t : TypeExpr) × Any t)
      Bitfield ConstraintPart Expr FieldValue Pattern Slice TypeExpr (λ b. b.0) (λ p. p.0) (λ e. e.0) (λ f. f.0) (λ p. p.0) (λ s. s.0) (λ t. t.0)

  abbrev pub pattern_opened : PatternLayer → Shaped PatternShape Known
  pattern_opened x = pattern_layer itself itself (map-Pattern Bitfield ConstraintPart Expr FieldValue Pattern Slice TypeExpr (Shaped BitfieldShape Known) (Shaped PartShape Known) Known (Shaped (List ℕ) Known) (Shaped PatternShape Known) (Shaped SliceShape Known) (Shaped TypeOver Known)
      known_bitfield known_part (constant limit) known_given known_pattern known_slice known_type x)

  abbrev pub pattern_taken : PatternLayer → Shaped PatternShape Expr
  pattern_taken x = pattern_layer (λ (e : Expr × Unread). e.0) (λ (p : Pattern × Shaped PatternShape Expr). p.1) (map-Pattern Bitfield ConstraintPart Expr FieldValue Pattern Slice TypeExpr (Bitfield × Unread) (ConstraintPart × Unread) (Expr × Unread) (FieldValue × Unread) (Pattern × Shaped PatternShape Expr) (Slice × Unread) (TypeExpr × Unread)
      (λ b. (b, tt)) (λ p. (p, tt)) (λ e. (e, tt)) (λ f. (f, tt)) (λ p. (p, pattern_parts p)) (λ s. (s, tt)) (λ t. (t, tt)) x)

  pattern_same : (y : PatternBelow) → pattern_opened (pattern_trees y) ≡ with_known (pattern_taken (pattern_trees y))
  pattern_same (ex.AnyPattern span) = refl
  pattern_same (ex.SetPattern span negated ps) = ap₂ (λ a b. let s : Shaped PatternShape Known = record { shape = shapes.one_of negated (pattern_shapes a); exprs = b } in s) (below_shapes known_pattern pattern_parts ps) (below_exprs known_pattern pattern_parts ps)
  pattern_same (ex.MaskPattern span t) = refl
  pattern_same (ex.AtMost span e) = refl
  pattern_same (ex.AtLeast span e) = refl
  pattern_same (ex.TuplePattern span ps) = ap₂ (λ a b. let s : Shaped PatternShape Known = record { shape = shapes.in_parts span (pattern_shapes a); exprs = b } in s) (below_shapes known_pattern pattern_parts ps) (below_exprs known_pattern pattern_parts ps)
  pattern_same (ex.ValuePattern span e) = refl
  pattern_same (ex.RangePattern span a b) = refl

  pattern_step : (x : PatternLayer) (y : PatternBelow) → pattern_trees y ≡ x → SamePattern (roll-Pattern x)
  pattern_step x y is =
      fold-roll-Pattern (Shaped BitfieldShape Known) (Shaped PartShape Known) Known (Shaped (List ℕ) Known) (Shaped PatternShape Known) (Shaped SliceShape Known) (Shaped TypeOver Known)
      (bitfield_layer itself) (part_layer itself) (constant_layer limit) (given_layer itself) (pattern_layer itself itself) (slice_layer itself) (type_layer itself itself itself itself) x
      ∙ sym (ap pattern_opened is) ∙ pattern_same y ∙ ap (λ z. with_known (pattern_taken z)) is
      ∙ sym (ap with_known (para-roll-Pattern Unread Unread Unread Unread (Shaped PatternShape Expr) Unread Unread (λ _. tt) (λ _. tt) (λ _. tt) (λ _. tt) (pattern_layer (λ (e : Expr × Unread). e.0) (λ (p : Pattern × Shaped PatternShape Expr). p.1)) (λ _. tt) (λ _. tt) x))

  pub pattern_known : (p : Pattern) → known_pattern p ≡ with_known (pattern_parts p)
  pattern_known = ind-Pattern Any Any Any Any SamePattern Any Any (λ x y is. tt) (λ x y is. tt) (λ x y is. tt) (λ x y is. tt) pattern_step (λ x y is. tt) (λ x y is. tt)

  -- ---- written types

  -- one shape, whatever names stand for
  pub record Alike (a : Shaped TypeOver Known) (b : Shaped TypeOver Expr) : Type 0 where
    pub shape : (types : Named) → a.shape types ≡ b.shape types
    pub exprs : a.exprs ≡ map (constant limit) b.exprs

  abbrev SameType : TypeExpr → Type 0
  SameType t = Alike (known_type t) (type_parts t)

  abbrev TypeBelow : Type 0
  TypeBelow = ex.TypeExpr-F ((b : Bitfield) × Any b) ((p : ConstraintPart) × Any p) ((e : Expr) × Any e) ((f : FieldValue) × Any f) ((p : Pattern) × Any p) ((s : Slice) × Any s) ((t : TypeExpr) × SameType t)

  abbrev type_trees : TypeBelow → TypeLayer
  type_trees = map-TypeExpr ((b : Bitfield) × Any b) ((p : ConstraintPart) × Any p) ((e : Expr) × Any e) ((f : FieldValue) × Any f) ((p : Pattern) × Any p) ((s : Slice) × Any s) ((t : TypeExpr) × SameType t)
      Bitfield ConstraintPart Expr FieldValue Pattern Slice TypeExpr (λ b. b.0) (λ p. p.0) (λ e. e.0) (λ f. f.0) (λ p. p.0) (λ s. s.0) (λ t. t.0)

  abbrev pub type_opened : TypeLayer → Shaped TypeOver Known
  type_opened x = type_layer itself itself itself itself (map-TypeExpr Bitfield ConstraintPart Expr FieldValue Pattern Slice TypeExpr (Shaped BitfieldShape Known) (Shaped PartShape Known) Known (Shaped (List ℕ) Known) (Shaped PatternShape Known) (Shaped SliceShape Known) (Shaped TypeOver Known)
      known_bitfield known_part (constant limit) known_given known_pattern known_slice known_type x)

  abbrev pub type_taken : TypeLayer → Shaped TypeOver Expr
  type_taken x = type_layer (λ (e : Expr × Unread). e.0) (λ (b : Bitfield × Unread). bitfield_parts b.0) (λ (p : ConstraintPart × Unread). range_parts p.0) (λ (t : TypeExpr × Shaped TypeOver Expr). t.1) (map-TypeExpr Bitfield ConstraintPart Expr FieldValue Pattern Slice TypeExpr (Bitfield × Unread) (ConstraintPart × Unread) (Expr × Unread) (FieldValue × Unread) (Pattern × Unread) (Slice × Unread) (TypeExpr × Shaped TypeOver Expr)
      (λ b. (b, tt)) (λ p. (p, tt)) (λ e. (e, tt)) (λ f. (f, tt)) (λ p. (p, tt)) (λ s. (s, tt)) (λ t. (t, type_parts t)) x)

  tuple_shapes : (types : Named) (ts : List ((t : TypeExpr) × SameType t)) → type_shapes types (shapes_in itself (map known_type (map (λ t. t.0) ts))) ≡ type_shapes types (shapes_in (λ (t : TypeExpr × Shaped TypeOver Expr). t.1) (map (λ t. (t, type_parts t)) (map (λ t. t.0) ts)))
  tuple_shapes types [] = refl
  tuple_shapes types (t ∷ ts) = ap₂ first_shape (t.1.shape types) (tuple_shapes types ts)

  tuple_exprs : (ts : List ((t : TypeExpr) × SameType t)) → exprs_in itself (map known_type (map (λ t. t.0) ts)) ≡ map (constant limit) (exprs_in (λ (t : TypeExpr × Shaped TypeOver Expr). t.1) (map (λ t. (t, type_parts t)) (map (λ t. t.0) ts)))
  tuple_exprs [] = refl
  tuple_exprs (t ∷ ts) = ap₂ (λ us vs. us ++ vs) t.1.exprs (tuple_exprs ts) ∙ sym (map_append (constant limit) ((type_parts t.0).exprs) (exprs_in (λ u. u.1) (map (λ u. (u, type_parts u)) (map (λ u. u.0) ts))))

  type_same : (y : TypeBelow) → Alike (type_opened (type_trees y)) (type_taken (type_trees y))
  type_same (ex.IntegerType span ps) = record {
    shape = λ types. ap (λ a. Some (shapes.integer_of a)) (shapes_of known_part range_parts range_known (map (λ p. p.0) ps) ∙ bare_shapes range_parts (map (λ p. p.0) ps));
    exprs = parts_of known_part range_parts range_known (map (λ p. p.0) ps) ∙ ap (map (constant limit)) (bare_exprs range_parts (map (λ p. p.0) ps));
  }
  type_same (ex.BooleanType span) = record { shape = λ types. refl; exprs = refl }
  type_same (ex.BitType span) = record { shape = λ types. refl; exprs = refl }
  type_same (ex.NamedType span name) = record { shape = λ types. refl; exprs = refl }
  type_same (ex.BitsType span w fs) = record {
    shape = λ types. ap (λ a. Some (shapes.bits_of span a)) (shapes_of known_bitfield bitfield_parts bitfield_known (map (λ b. b.0) fs) ∙ bare_shapes bitfield_parts (map (λ b. b.0) fs));
    exprs = ap (λ zs. constant limit w.0 ∷ zs) (parts_of known_bitfield bitfield_parts bitfield_known (map (λ b. b.0) fs) ∙ ap (map (constant limit)) (bare_exprs bitfield_parts (map (λ b. b.0) fs)));
  }
  type_same (ex.TupleType span ts) = record { shape = λ types. ap (option_map (λ ss. shapes.tuple_of ss)) (tuple_shapes types ts); exprs = tuple_exprs ts }
  type_same (ex.ArrayType span n t) = record { shape = λ types. ap (option_map (λ s. shapes.array_of s)) (t.1.shape types); exprs = ap (λ zs. constant limit n.0 ∷ zs) t.1.exprs }

  alike : (a b : Shaped TypeOver Known) (c d : Shaped TypeOver Expr) → a ≡ b → c ≡ d → Alike b d → Alike a c
  alike a b c d p q h = record { shape = λ types. ap (λ s. s.shape types) p ∙ h.shape types ∙ sym (ap (λ s. s.shape types) q); exprs = ap (λ s. s.exprs) p ∙ h.exprs ∙ sym (ap (λ s. map (constant limit) s.exprs) q) }

  type_step : (x : TypeLayer) (y : TypeBelow) → type_trees y ≡ x → SameType (roll-TypeExpr x)
  type_step x y is = alike (known_type (roll-TypeExpr x)) (type_opened (type_trees y)) (type_parts (roll-TypeExpr x)) (type_taken (type_trees y))
      (fold-roll-TypeExpr (Shaped BitfieldShape Known) (Shaped PartShape Known) Known (Shaped (List ℕ) Known) (Shaped PatternShape Known) (Shaped SliceShape Known) (Shaped TypeOver Known)
      (bitfield_layer itself) (part_layer itself) (constant_layer limit) (given_layer itself) (pattern_layer itself itself) (slice_layer itself) (type_layer itself itself itself itself) x ∙ sym (ap type_opened is))
      (para-roll-TypeExpr Unread Unread Unread Unread Unread Unread (Shaped TypeOver Expr) (λ _. tt) (λ _. tt) (λ _. tt) (λ _. tt) (λ _. tt) (λ _. tt)
      (type_layer (λ (e : Expr × Unread). e.0) (λ (b : Bitfield × Unread). bitfield_parts b.0) (λ (p : ConstraintPart × Unread). range_parts p.0) (λ (t : TypeExpr × Shaped TypeOver Expr). t.1)) x ∙ sym (ap type_taken is))
      (type_same y)

  pub type_known : (t : TypeExpr) → Alike (known_type t) (type_parts t)
  type_known = ind-TypeExpr Any Any Any Any Any Any SameType (λ x y is. tt) (λ x y is. tt) (λ x y is. tt) (λ x y is. tt) (λ x y is. tt) (λ x y is. tt) type_step
