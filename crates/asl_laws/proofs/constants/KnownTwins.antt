-- The plans of an expression in a run and before any run are the same, step by step. So what two such plans give of the same parts is shown of all expressions by
-- one induction over trees.
use Rattle.std.proofs.Common.{◌≡◌, Bool, true, false, List, [], ◌∷◌, ◌++◌, refl, sym, ap, subst, map, ◌∙◌}
use Rattle.asl_syn.specs.declared.token.Span.{Span}
use Rattle.asl_syn.specs.declared.tree.BinaryOperator.{BinaryOperator}
use Rattle.asl_syn.specs.declared.tree.Expr.{Expr, out-Expr, roll-Expr, out-roll-Expr}
use Rattle.asl_syn.specs.declared.tree.Stmt.{Stmt}
use Rattle.asl_syn.specs.declared.tree.Bitfield.TheOpen as ex
use Rattle.asl_syn.specs.Layers.{ExprLayer, TypeLayer}
use Rattle.asl_rules.specs.values.Values.{Value}
use Rattle.asl_rules.specs.declarations.Scopes.{Entry, standing_of}
use Rattle.asl_rules.specs.runs.States.{Core}
use Rattle.asl_rules.specs.runs.Plans.{Plan, Ret, Stop, Eval, Within, choose, Pure, Good, Bad, lift}
use Rattle.asl_rules.specs.runs.Pures.{◌>>=◌, known}
use Rattle.asl_rules.specs.values.Operators.{binary_value, unary_value, truth, Decided, Already, ByRight, Strictness, Strict, Lazy, strictness}
use Rattle.asl_rules.specs.values.Structures.{element_of, field_of, constructed}
use Rattle.asl_rules.specs.values.Vectors.{literal_bits, slices_of, bitfields_of, bitfields_named}
use Rattle.asl_rules.specs.types.Written.{converted}
use Rattle.asl_rules.specs.types.Views.{stripped}
use Rattle.asl_rules.specs.runs.Forms.{at_once, literal, behind, behind_all, behind_more, eval_all, behind_left, unless_decided, branch_value}
use Rattle.asl_rules.specs.types.Shaped.{itself, exprs_in, shapes_in, given_parts, slice_parts, pattern_parts, type_parts, Shaped, TypeOver, Unread, given_layer, slice_layer, part_layer, bitfield_layer, pattern_layer, type_layer, range_parts, bitfield_parts}
use Rattle.asl_rules.specs.runs.ByNames.{matched_in, expr_plan}
use Rattle.asl_rules.specs.declarations.Constants.{Known, before_runs, known_parts, initial_value, constant}
use Rattle.asl_rules.specs.declarations.Programs.{Environment}
use Rattle.asl_rules.specs.runs.Evaluation.{value_here, types_of, in_state, tree_parts}
use Rattle.asl_laws.specs.BeforeRuns.{HoldsInitial, IsBarred}
use Rattle.asl_rules.proofs.constants.KnownParts.{known_given, known_slice, known_pattern, known_type, known_layer, parts_of, shapes_of, given_known, slice_known, pattern_known, type_known, PatternLayer, pattern_taken, type_taken}
use Rattle.asl_syn.specs.declared.tree.Bitfield.{Bitfield, roll-Bitfield, out-roll-Bitfield}
use Rattle.asl_syn.specs.declared.tree.ConstraintPart.{ConstraintPart, roll-ConstraintPart, out-roll-ConstraintPart}
use Rattle.asl_syn.specs.declared.tree.FieldValue.{FieldValue, roll-FieldValue, out-roll-FieldValue}
use Rattle.asl_syn.specs.declared.tree.Pattern.{Pattern, roll-Pattern}
use Rattle.asl_syn.specs.declared.tree.Slice.{Slice, roll-Slice, out-roll-Slice}
use Rattle.asl_syn.specs.declared.tree.TypeExpr.{TypeExpr, roll-TypeExpr}
use Rattle.asl_syn.specs.declared.tree.Bitfield.TheFolds.{para-roll-Pattern, para-roll-TypeExpr, map-Bitfield, map-ConstraintPart, map-Expr, map-FieldValue, map-Pattern, map-Slice, map-TypeExpr, ind-Expr}
use Rattle.asl_rules.specs.types.Shapes.{PatternShape}

-- a plan that stops at a call
abbrev pub IsCall : {A : Type 0} → Plan (List Entry) Known Known A → Type 0
IsCall (Stop e n) = IsBarred e
IsCall q = ⊥

-- all of these expressions have this
abbrev pub AllOf : (Expr → Type 0) → List Expr → Type 0
AllOf P [] = Unit {0}
AllOf P (e ∷ es) = P e × AllOf P es

all_append : (P : Expr → Type 0) (xs ys : List Expr) → AllOf P xs → AllOf P ys → AllOf P (xs ++ ys)
all_append P [] ys a b = b
all_append P (x ∷ xs) ys a b = (a.0, all_append P xs ys a.1 b)

-- the parts in a list
all_in : {A X : Type 0} (P : Expr → Type 0) (g : X → Shaped A Expr) (xs : List ((x : X) × AllOf P ((g x).exprs))) → AllOf P (exprs_in g (map (λ x. x.0) xs))
all_in P g [] = tt
all_in P g (x ∷ xs) = all_append P ((g x.0).exprs) (exprs_in g (map (λ y. y.0) xs)) x.1 (all_in P g xs)

all_bare : {A X : Type 0} (P : Expr → Type 0) (g : X → Shaped A Expr) (xs : List ((x : X) × AllOf P ((g x).exprs))) → AllOf P (exprs_in (λ (x : X × Unread). g x.0) (map (λ x. (x, tt)) (map (λ x. x.0) xs)))
all_bare P g [] = tt
all_bare P g (x ∷ xs) = all_append P ((g x.0).exprs) (exprs_in (λ y. g y.0) (map (λ y. (y, tt)) (map (λ y. y.0) xs))) x.1 (all_bare P g xs)

all_paired : {A X : Type 0} (P : Expr → Type 0) (g : X → Shaped A Expr) (xs : List ((x : X) × AllOf P ((g x).exprs))) → AllOf P (exprs_in (λ (x : X × Shaped A Expr). x.1) (map (λ x. (x, g x)) (map (λ x. x.0) xs)))
all_paired P g [] = tt
all_paired P g (x ∷ xs) = all_append P ((g x.0).exprs) (exprs_in (λ y. y.1) (map (λ y. (y, g y)) (map (λ y. y.0) xs))) x.1 (all_paired P g xs)

all_here : (P : Expr → Type 0) (es : List ((e : Expr) × P e)) → AllOf P (map (λ e. e.0) es)
all_here P [] = tt
all_here P (e ∷ es) = (e.1, all_here P es)

module _ (env : Environment) (c : Core) (P : Expr → Type 0) (K : Type 0) where
  -- the plan of a run, and one before any run, over the same expressions, each of which has P, where the state stays as it is; there are calls only where K holds
  abbrev pub Twin : {A : Type 0} → Plan Core Expr Stmt A → Plan (List Entry) Known Known A → Type 0
  Twin (Ret x d) (Ret y n) = (d ≡ c) × (x ≡ y)
  Twin (Stop e d) (Stop f n) = (d ≡ c) × (e ≡ f)
  Twin (Eval e d k) (Eval f n l) = (d ≡ c) × ((f ≡ constant env.limit e) × (P e × ((x : Value) → Twin (k x c) (l x env.names))))
  Twin (Within p f g) (Within q f1 g1) = IsCall q × K
  Twin p q = ⊥

  -- ---- the forms

  once_same : {A : Type 0} (r : Pure A) → Twin (at_once r c) (at_once r env.names)
  once_same (Good x) = (refl, refl)
  once_same (Bad e) = (refl, refl)

  once_twin : {A : Type 0} (r s : Pure A) → r ≡ s → Twin (at_once r c) (at_once s env.names)
  once_twin r s h = subst (λ t. Twin (at_once r c) (at_once t env.names)) h (once_same r)

  lift_twin : {A B : Type 0} (r : Pure B) (k : B → Plan Core Expr Stmt A) (l : B → Plan (List Entry) Known Known A) → ((x : B) → Twin (k x) (l x)) → Twin (lift r c k) (lift r env.names l)
  lift_twin (Good x) k l h = h x
  lift_twin (Bad e) k l h = (refl, refl)

  behind_twin : {A : Type 0} (a : Expr) (f : Value → Pure A) → P a → Twin (behind a c f) (behind (constant env.limit a) env.names f)
  behind_twin a f w = (refl, (refl, (w, λ x. once_same (f x))))

  all_twin : {A : Type 0} (es : List Expr) (xs : List Value) (k : List Value → Core → Plan Core Expr Stmt A) (l : List Value → List Entry → Plan (List Entry) Known Known A) → AllOf P es → ((zs : List Value) → Twin (k zs c) (l zs env.names)) → Twin (eval_all es xs c k) (eval_all (map (constant env.limit) es) xs env.names l)
  all_twin [] xs k l w h = h xs
  all_twin (e ∷ es) xs k l w h = (refl, (refl, (w.0, λ x. all_twin es (xs ++ x ∷ []) k l w.1 h)))

  behind_all_twin : {A : Type 0} (es : List Expr) (ks : List Known) (f g : List Value → Pure A) → AllOf P es → ks ≡ map (constant env.limit) es → ((zs : List Value) → f zs ≡ g zs) → Twin (behind_all es c f) (behind_all ks env.names g)
  behind_all_twin es ks f g w is h = subst (λ zs. Twin (behind_all es c f) (behind_all zs env.names g)) (sym is) (all_twin es [] (λ xs c1. at_once (f xs) c1) (λ xs c1. at_once (g xs) c1) w (λ zs. once_twin (f zs) (g zs) (h zs)))

  more_twin : {A : Type 0} (a : Expr) (es : List Expr) (ks : List Known) (f g : Value → List Value → Pure A) → P a → AllOf P es → ks ≡ map (constant env.limit) es → ((x : Value) (zs : List Value) → f x zs ≡ g x zs) → Twin (behind_more a es c f) (behind_more (constant env.limit a) ks env.names g)
  more_twin a es ks f g v w is h = (refl, (refl, (v, λ x. behind_all_twin es ks (f x) (g x) w is (h x))))

  decided_twin : (span : Span) (o : BinaryOperator) (b : Expr) (x : Value) → P b → (r : Decided) → Twin (unless_decided env.limit span o b x c r) (unless_decided env.limit span o (constant env.limit b) x env.names r)
  decided_twin span o b x w (Already r) = (refl, refl)
  decided_twin span o b x w ByRight = behind_twin b (binary_value env.limit span o x) w

  left_twin : (span : Span) (o : BinaryOperator) (b : Expr) (x : Value) → P b → (s : Strictness) → Twin (behind_left env.limit span o b x s c) (behind_left env.limit span o (constant env.limit b) x s env.names)
  left_twin span o b x w Strict = behind_twin b (binary_value env.limit span o x) w
  left_twin span o b x w (Lazy f) = lift_twin (truth span x) (λ p. unless_decided env.limit span o b x c (f p)) (λ p. unless_decided env.limit span o (constant env.limit b) x env.names (f p)) (λ p. decided_twin span o b x w (f p))

  branch_twin : (a b : Expr) → P a → P b → (p : Bool) → Twin (choose p (branch_value stripped a c) (branch_value stripped b c)) (choose p (branch_value stripped (constant env.limit a) env.names) (branch_value stripped (constant env.limit b) env.names))
  branch_twin a b v w true = (refl, (refl, (v, λ y. (refl, refl))))
  branch_twin a b v w false = (refl, (refl, (w, λ y. (refl, refl))))

  -- the two plans of a layer
  abbrev pub PlansTwin : ExprLayer → Type 0
  PlansTwin x = Twin (expr_plan (in_state env) tree_parts x c) (expr_plan (before_runs env.limit) known_parts (known_layer env.limit x) env.names)

  -- ---- the expressions in parts of trees have it

  abbrev pub OfBitfield : Bitfield → Type 0
  OfBitfield b = AllOf P ((bitfield_parts b).exprs)

  abbrev pub OfPart : ConstraintPart → Type 0
  OfPart p = AllOf P ((range_parts p).exprs)

  abbrev pub OfField : FieldValue → Type 0
  OfField f = AllOf P ((given_parts f).exprs)

  abbrev pub OfPattern : Pattern → Type 0
  OfPattern p = AllOf P ((pattern_parts p).exprs)

  abbrev pub OfSlice : Slice → Type 0
  OfSlice s = AllOf P ((slice_parts s).exprs)

  abbrev pub OfType : TypeExpr → Type 0
  OfType t = AllOf P ((type_parts t).exprs)

  abbrev BB : Type 0
  BB = (x : Bitfield) × OfBitfield x

  abbrev CC : Type 0
  CC = (x : ConstraintPart) × OfPart x

  abbrev EE : Type 0
  EE = (x : Expr) × P x

  abbrev FF : Type 0
  FF = (x : FieldValue) × OfField x

  abbrev PP : Type 0
  PP = (x : Pattern) × OfPattern x

  abbrev SS : Type 0
  SS = (x : Slice) × OfSlice x

  abbrev TT : Type 0
  TT = (x : TypeExpr) × OfType x

  abbrev pub BitfieldBelow : Type 0
  BitfieldBelow = ex.Bitfield-F BB CC EE FF PP SS TT

  abbrev pub bitfield_trees : BitfieldBelow → ex.Bitfield-F Bitfield ConstraintPart Expr FieldValue Pattern Slice TypeExpr
  bitfield_trees = map-Bitfield BB CC EE FF PP SS TT Bitfield ConstraintPart Expr FieldValue Pattern Slice TypeExpr (λ x. x.0) (λ x. x.0) (λ x. x.0) (λ x. x.0) (λ x. x.0) (λ x. x.0) (λ x. x.0)

  abbrev pub PartBelow : Type 0
  PartBelow = ex.ConstraintPart-F BB CC EE FF PP SS TT

  abbrev pub part_trees : PartBelow → ex.ConstraintPart-F Bitfield ConstraintPart Expr FieldValue Pattern Slice TypeExpr
  part_trees = map-ConstraintPart BB CC EE FF PP SS TT Bitfield ConstraintPart Expr FieldValue Pattern Slice TypeExpr (λ x. x.0) (λ x. x.0) (λ x. x.0) (λ x. x.0) (λ x. x.0) (λ x. x.0) (λ x. x.0)

  abbrev pub ExprBelow : Type 0
  ExprBelow = ex.Expr-F BB CC EE FF PP SS TT

  abbrev pub expr_trees : ExprBelow → ex.Expr-F Bitfield ConstraintPart Expr FieldValue Pattern Slice TypeExpr
  expr_trees = map-Expr BB CC EE FF PP SS TT Bitfield ConstraintPart Expr FieldValue Pattern Slice TypeExpr (λ x. x.0) (λ x. x.0) (λ x. x.0) (λ x. x.0) (λ x. x.0) (λ x. x.0) (λ x. x.0)

  abbrev pub FieldBelow : Type 0
  FieldBelow = ex.FieldValue-F BB CC EE FF PP SS TT

  abbrev pub field_trees : FieldBelow → ex.FieldValue-F Bitfield ConstraintPart Expr FieldValue Pattern Slice TypeExpr
  field_trees = map-FieldValue BB CC EE FF PP SS TT Bitfield ConstraintPart Expr FieldValue Pattern Slice TypeExpr (λ x. x.0) (λ x. x.0) (λ x. x.0) (λ x. x.0) (λ x. x.0) (λ x. x.0) (λ x. x.0)

  abbrev pub PatternBelow : Type 0
  PatternBelow = ex.Pattern-F BB CC EE FF PP SS TT

  abbrev pub pattern_trees : PatternBelow → ex.Pattern-F Bitfield ConstraintPart Expr FieldValue Pattern Slice TypeExpr
  pattern_trees = map-Pattern BB CC EE FF PP SS TT Bitfield ConstraintPart Expr FieldValue Pattern Slice TypeExpr (λ x. x.0) (λ x. x.0) (λ x. x.0) (λ x. x.0) (λ x. x.0) (λ x. x.0) (λ x. x.0)

  abbrev pub SliceBelow : Type 0
  SliceBelow = ex.Slice-F BB CC EE FF PP SS TT

  abbrev pub slice_trees : SliceBelow → ex.Slice-F Bitfield ConstraintPart Expr FieldValue Pattern Slice TypeExpr
  slice_trees = map-Slice BB CC EE FF PP SS TT Bitfield ConstraintPart Expr FieldValue Pattern Slice TypeExpr (λ x. x.0) (λ x. x.0) (λ x. x.0) (λ x. x.0) (λ x. x.0) (λ x. x.0) (λ x. x.0)

  abbrev pub TypeBelow : Type 0
  TypeBelow = ex.TypeExpr-F BB CC EE FF PP SS TT

  abbrev pub type_trees : TypeBelow → ex.TypeExpr-F Bitfield ConstraintPart Expr FieldValue Pattern Slice TypeExpr
  type_trees = map-TypeExpr BB CC EE FF PP SS TT Bitfield ConstraintPart Expr FieldValue Pattern Slice TypeExpr (λ x. x.0) (λ x. x.0) (λ x. x.0) (λ x. x.0) (λ x. x.0) (λ x. x.0) (λ x. x.0)

  abbrev pub MayCall : ExprBelow → Type 0
  MayCall (ex.Call span i ps es) = K
  MayCall y = Unit {0}

  pub layer_twin : HoldsInitial env c → (y : ExprBelow) → MayCall y → PlansTwin (expr_trees y)
  layer_twin holds (ex.Int span n) m = once_same (literal span n)
  layer_twin holds (ex.Bits span t) m = once_same (literal_bits env.limit span t)
  layer_twin holds (ex.Bool span b) m = (refl, refl)
  layer_twin holds (ex.Name span name) m = once_twin (known span (value_here env name c)) (known span (initial_value (standing_of name env.names))) (ap (known span) (holds name))
  layer_twin holds (ex.Unary span o a) m = behind_twin a.0 (unary_value span o) a.1
  layer_twin holds (ex.Binary span o a b) m = (refl, (refl, (a.1, λ x. left_twin span o b.0 x b.1 (strictness o))))
  layer_twin holds (ex.Conditional span e a b) m = (refl, (refl, (e.1, λ x. lift_twin (truth span x) (λ p. choose p (branch_value stripped a.0 c) (branch_value stripped b.0 c)) (λ p. choose p (branch_value stripped (constant env.limit a.0) env.names) (branch_value stripped (constant env.limit b.0) env.names)) (branch_twin a.0 b.0 a.1 b.1))))
  layer_twin holds (ex.Tuple span es) m = all_twin (map (λ e. e.0) es) [] _ _ (all_here P es) (λ xs. (refl, refl))
  layer_twin holds (ex.Construct span i fs) m =
      let gs = map (λ f. f.0) fs in
      let ks = map (known_given env.limit) gs in
      behind_all_twin (exprs_in given_parts gs) (exprs_in itself ks) (constructed span (types_of env i.text) (shapes_in given_parts gs)) (constructed span (types_of env i.text) (shapes_in itself ks))
      (all_in P given_parts fs) (parts_of env.limit (known_given env.limit) given_parts (given_known env.limit) gs) (λ xs. ap (λ hs. constructed span (types_of env i.text) hs xs) (sym (shapes_of env.limit (known_given env.limit) given_parts (given_known env.limit) gs)))
  layer_twin holds (ex.Call span i ps es) m = all_twin (map (λ e. e.0) ps) [] _ _ (all_here P ps) (λ ys. all_twin (map (λ e. e.0) es) [] _ _ (all_here P es) (λ xs. (tt, m)))
  layer_twin holds (ex.Field span a i) m = behind_twin a.0 (field_of span i.text) a.1
  layer_twin holds (ex.Fields span a iss) m = behind_twin a.0 (λ x. bitfields_named span iss x >>= λ fs. bitfields_of env.limit span fs x) a.1
  layer_twin holds (ex.Slices span a ss) m =
      let ts = map (λ s. s.0) ss in
      let ks = map (known_slice env.limit) ts in
      more_twin a.0 (exprs_in slice_parts ts) (exprs_in itself ks) (λ x zs. slices_of env.limit span (shapes_in slice_parts ts) zs x) (λ x zs. slices_of env.limit span (shapes_in itself ks) zs x)
      a.1 (all_in P slice_parts ss) (parts_of env.limit (known_slice env.limit) slice_parts (slice_known env.limit) ts) (λ x zs. ap (λ s. slices_of env.limit span s zs x) (sym (shapes_of env.limit (known_slice env.limit) slice_parts (slice_known env.limit) ts)))
  layer_twin holds (ex.Element span a i) m = (refl, (refl, (a.1, λ x. behind_twin i.0 (element_of span x) i.1)))
  layer_twin holds (ex.As span a t) m = more_twin a.0 ((type_parts t.0).exprs) ((known_type env.limit t.0).exprs)
      (λ x zs. converted env.limit span ((type_parts t.0).shape (types_of env)) zs x) (λ x zs. converted env.limit span ((known_type env.limit t.0).shape (types_of env)) zs x)
      a.1 t.1 (type_known env.limit t.0).exprs (λ x zs. ap (λ s. converted env.limit span s zs x) (sym ((type_known env.limit t.0).shape (types_of env))))
  layer_twin holds (ex.In span a p) m = more_twin a.0 ((pattern_parts p.0).exprs) ((known_pattern env.limit p.0).exprs)
      (λ x zs. matched_in env.limit ((pattern_parts p.0).shape) zs x) (λ x zs. matched_in env.limit ((known_pattern env.limit p.0).shape) zs x)
      a.1 p.1 (ap (λ s. s.exprs) (pattern_known env.limit p.0)) (λ x zs. ap (λ s. matched_in env.limit s zs x) (sym (ap (λ s. s.shape) (pattern_known env.limit p.0))))

  bitfield_has : (y : BitfieldBelow) → AllOf P ((bitfield_layer itself (bitfield_trees y)).exprs)
  bitfield_has (ex.OneBit e i) = (e.1, tt)
  bitfield_has (ex.BitRange h l i) = (h.1, (l.1, tt))

  pub bitfield_step : (x : ex.Bitfield-F Bitfield ConstraintPart Expr FieldValue Pattern Slice TypeExpr) (y : BitfieldBelow) → bitfield_trees y ≡ x → OfBitfield (roll-Bitfield x)
  bitfield_step x y is = subst (λ l. AllOf P ((bitfield_layer itself l).exprs)) (is ∙ sym (out-roll-Bitfield x)) (bitfield_has y)

  part_has : (y : PartBelow) → AllOf P ((part_layer itself (part_trees y)).exprs)
  part_has (ex.Only e) = (e.1, tt)
  part_has (ex.FromTo a b) = (a.1, (b.1, tt))

  pub part_step : (x : ex.ConstraintPart-F Bitfield ConstraintPart Expr FieldValue Pattern Slice TypeExpr) (y : PartBelow) → part_trees y ≡ x → OfPart (roll-ConstraintPart x)
  part_step x y is = subst (λ l. AllOf P ((part_layer itself l).exprs)) (is ∙ sym (out-roll-ConstraintPart x)) (part_has y)

  field_has : (y : FieldBelow) → AllOf P ((given_layer itself (field_trees y)).exprs)
  field_has (ex.Given i e) = (e.1, tt)

  pub field_step : (x : ex.FieldValue-F Bitfield ConstraintPart Expr FieldValue Pattern Slice TypeExpr) (y : FieldBelow) → field_trees y ≡ x → OfField (roll-FieldValue x)
  field_step x y is = subst (λ l. AllOf P ((given_layer itself l).exprs)) (is ∙ sym (out-roll-FieldValue x)) (field_has y)

  slice_has : (y : SliceBelow) → AllOf P ((slice_layer itself (slice_trees y)).exprs)
  slice_has (ex.BitAt i) = (i.1, tt)
  slice_has (ex.HighLow h l) = (h.1, (l.1, tt))
  slice_has (ex.LowWidth l w) = (l.1, (w.1, tt))
  slice_has (ex.FactorWidth k w) = (k.1, (w.1, tt))

  pub slice_step : (x : ex.Slice-F Bitfield ConstraintPart Expr FieldValue Pattern Slice TypeExpr) (y : SliceBelow) → slice_trees y ≡ x → OfSlice (roll-Slice x)
  slice_step x y is = subst (λ l. AllOf P ((slice_layer itself l).exprs)) (is ∙ sym (out-roll-Slice x)) (slice_has y)

  pattern_has : (y : PatternBelow) → AllOf P ((pattern_taken env.limit (pattern_trees y)).exprs)
  pattern_has (ex.AnyPattern span) = tt
  pattern_has (ex.SetPattern span negated ps) = all_paired P pattern_parts ps
  pattern_has (ex.MaskPattern span t) = tt
  pattern_has (ex.AtMost span e) = (e.1, tt)
  pattern_has (ex.AtLeast span e) = (e.1, tt)
  pattern_has (ex.TuplePattern span ps) = all_paired P pattern_parts ps
  pattern_has (ex.ValuePattern span e) = (e.1, tt)
  pattern_has (ex.RangePattern span a b) = (a.1, (b.1, tt))

  pub pattern_step : (x : PatternLayer) (y : PatternBelow) → pattern_trees y ≡ x → OfPattern (roll-Pattern x)
  pattern_step x y is = subst (λ (s : Shaped PatternShape Expr). AllOf P s.exprs)
      (ap (pattern_taken env.limit) is ∙ sym (para-roll-Pattern Unread Unread Unread Unread (Shaped PatternShape Expr) Unread Unread (λ _. tt) (λ _. tt) (λ _. tt) (λ _. tt) (pattern_layer (λ (e : Expr × Unread). e.0) (λ (p : Pattern × Shaped PatternShape Expr). p.1)) (λ _. tt) (λ _. tt) x))
      (pattern_has y)

  type_has : (y : TypeBelow) → AllOf P ((type_taken env.limit (type_trees y)).exprs)
  type_has (ex.IntegerType span ps) = all_bare P range_parts ps
  type_has (ex.BooleanType span) = tt
  type_has (ex.BitType span) = tt
  type_has (ex.NamedType span name) = tt
  type_has (ex.BitsType span w fs) = (w.1, all_bare P bitfield_parts fs)
  type_has (ex.TupleType span ts) = all_paired P type_parts ts
  type_has (ex.ArrayType span n t) = (n.1, t.1)

  pub type_step : (x : TypeLayer) (y : TypeBelow) → type_trees y ≡ x → OfType (roll-TypeExpr x)
  type_step x y is = subst (λ (s : Shaped TypeOver Expr). AllOf P s.exprs)
      (ap (type_taken env.limit) is ∙ sym (para-roll-TypeExpr Unread Unread Unread Unread Unread Unread (Shaped TypeOver Expr) (λ _. tt) (λ _. tt) (λ _. tt) (λ _. tt) (λ _. tt) (λ _. tt)
      (type_layer (λ (e : Expr × Unread). e.0) (λ (b : Bitfield × Unread). bitfield_parts b.0) (λ (p : ConstraintPart × Unread). range_parts p.0) (λ (t : TypeExpr × Shaped TypeOver Expr). t.1)) x))
      (type_has y)

  -- each expression has it, where it follows from the plans of an expression
  pub of_all : HoldsInitial env c → K → ((e : Expr) → PlansTwin (out-Expr e) → P e) → (e : Expr) → P e
  of_all holds all follows = ind-Expr OfBitfield OfPart P OfField OfPattern OfSlice OfType bitfield_step part_step expr_step field_step pattern_step slice_step type_step
    where
      may_call : (y : ExprBelow) → MayCall y
      may_call (ex.Call span i ps es) = all
      may_call y = tt

      expr_step : (x : ExprLayer) (y : ExprBelow) → expr_trees y ≡ x → P (roll-Expr x)
      expr_step x y is = follows (roll-Expr x) (subst PlansTwin (is ∙ sym (out-roll-Expr x)) (layer_twin holds y (may_call y)))
