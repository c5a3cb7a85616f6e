-- What is found at the nodes of a tree by a fold, where something holds of each name that the tree uses: a step for each sort of node,
-- which is given what holds of its parts and of the names that it uses itself, shows it of all trees.
use Rattle.std.proofs.Common.{◌≡◌, List, [], ◌∷◌, ◌++◌, map, refl, sym, ap, ap₂, subst}
use Rattle.asl_syn.specs.declared.tree.Bitfield.{Bitfield, roll-Bitfield}
use Rattle.asl_syn.specs.declared.tree.ConstraintPart.{ConstraintPart, roll-ConstraintPart}
use Rattle.asl_syn.specs.declared.tree.Expr.{Expr, roll-Expr}
use Rattle.asl_syn.specs.declared.tree.FieldValue.{FieldValue, roll-FieldValue}
use Rattle.asl_syn.specs.declared.tree.Pattern.{Pattern, roll-Pattern}
use Rattle.asl_syn.specs.declared.tree.Slice.{Slice, roll-Slice}
use Rattle.asl_syn.specs.declared.tree.TypeExpr.{TypeExpr, roll-TypeExpr}
use Rattle.asl_syn.specs.declared.tree.Bitfield.TheOpen as ex
use Rattle.asl_syn.specs.declared.tree.Bitfield.TheFolds.{fold-Bitfield, fold-ConstraintPart, fold-Expr, fold-FieldValue, fold-Pattern}
use Rattle.asl_syn.specs.declared.tree.Bitfield.TheFolds.{fold-Slice, fold-TypeExpr, fold-roll-Bitfield, fold-roll-ConstraintPart}
use Rattle.asl_syn.specs.declared.tree.Bitfield.TheFolds.{fold-roll-Expr, fold-roll-FieldValue, fold-roll-Pattern, fold-roll-Slice}
use Rattle.asl_syn.specs.declared.tree.Bitfield.TheFolds.{fold-roll-TypeExpr, map-Bitfield, map-ConstraintPart, map-Expr, map-FieldValue}
use Rattle.asl_syn.specs.declared.tree.Bitfield.TheFolds.{map-Pattern, map-Slice, map-TypeExpr}
use Rattle.asl_rules.specs.declarations.UsedNames.{Use, Uses, of_value, of_subprogram, of_type, Each, joined, in_bitfield, in_part, in_expr}
use Rattle.asl_rules.specs.declarations.UsedNames.{in_field, in_pattern, in_slice, in_type, bitfield_uses, part_uses, given_uses, expr_uses}
use Rattle.asl_rules.specs.declarations.UsedNames.{pattern_uses, slice_uses, type_uses}
use Rattle.asl_laws.proofs.names.Induction as induction

-- ---- lists of uses

pub each_first : (P : Use → Type 0) (ms ns : Uses) → Each P (ms ++ ns) → Each P ms
each_first P [] ns g = tt
each_first P (m ∷ ms) ns g = (g.0, each_first P ms ns g.1)

pub each_second : (P : Use → Type 0) (ms ns : Uses) → Each P (ms ++ ns) → Each P ns
each_second P [] ns g = g
each_second P (m ∷ ms) ns g = each_second P ms ns g.1

pub each_map : (P Q : Use → Type 0) → ((u : Use) → P u → Q u) → (us : Uses) → Each P us → Each Q us
each_map P Q f [] g = tt
each_map P Q f (u ∷ us) g = (f u g.0, each_map P Q f us g.1)

-- ---- one layer of a tree with what is found at its parts

-- it is made of this one, with what holds of the parts and of the names that the layer uses itself
pub record Kept {Z L : Type 0} (parts : Z → L) (Own : Z → Type 0) (l : L) : Type 0 where
  pub layer : Z
  pub is : parts layer ≡ l
  pub own : Own layer

pub record KeptList {Z X : Type 0} (part : Z → X) (xs : List X) : Type 0 where
  pub list : List Z
  pub is : map part list ≡ xs

-- what is found at the parts of a layer, with what holds of it
pub kept_list : (P : Use → Type 0) {A X : Type 0} (uses : A → Uses) (found : A → X) (Q : X → Type 0)
    (es : List ((x : A) × (Each P (uses x) → Q (found x)))) → Each P (joined (map uses (map (λ e. e.0) es))) →
    KeptList (λ (z : (x : X) × Q x). z.0) (map found (map (λ e. e.0) es))
kept_list P uses found Q [] g = record { list = []; is = refl }
kept_list P uses found Q (e ∷ es) g =
    let ms = uses e.0 in
    let ns = joined (map uses (map (λ e. e.0) es)) in
    let r = kept_list P uses found Q es (each_second P ms ns g) in
    record { list = (found e.0, e.1 (each_first P ms ns g)) ∷ r.list; is = ap (λ xs. found e.0 ∷ xs) r.is }

-- the same for trees of which all have it where they use such names alone
pub found_list : (P : Use → Type 0) {A X : Type 0} (uses : A → Uses) (found : A → X) (Q : X → Type 0) →
    ((x : A) → Each P (uses x) → Q (found x)) → (xs : List A) → Each P (joined (map uses xs)) →
    KeptList (λ (z : (x : X) × Q x). z.0) (map found xs)
found_list P uses found Q h [] g = record { list = []; is = refl }
found_list P uses found Q h (x ∷ xs) g =
    let r = found_list P uses found Q h xs (each_second P (uses x) (joined (map uses xs)) g) in
    record { list = (found x, h x (each_first P (uses x) (joined (map uses xs)) g)) ∷ r.list; is = ap (λ ys. found x ∷ ys) r.is }

module _ (P : Use → Type 0) {B C E F L S T : Type 0} where
  -- what holds of the names that a layer uses itself
  abbrev pub OwnExpr : ex.Expr-F B C E F L S T → Type 0
  OwnExpr (ex.Name span name) = P (of_value span name)
  OwnExpr (ex.Construct span i fs) = P (of_type i.text)
  OwnExpr (ex.Call span i ps es) = P (of_subprogram span i.text)
  OwnExpr y = Unit {0}

  abbrev pub OwnType : ex.TypeExpr-F B C E F L S T → Type 0
  OwnType (ex.NamedType span name) = P (of_type name)
  OwnType y = Unit {0}

module _ (P : Use → Type 0) (B C E F L S T : Type 0) (bitfield_rule : ex.Bitfield-F B C E F L S T → B)
    (part_rule : ex.ConstraintPart-F B C E F L S T → C) (expr_rule : ex.Expr-F B C E F L S T → E)
    (given_rule : ex.FieldValue-F B C E F L S T → F) (pattern_rule : ex.Pattern-F B C E F L S T → L)
    (slice_rule : ex.Slice-F B C E F L S T → S) (type_rule : ex.TypeExpr-F B C E F L S T → T) (QB : B → Type 0) (QC : C → Type 0)
    (QE : E → Type 0) (QF : F → Type 0) (QL : L → Type 0) (QS : S → Type 0) (QT : T → Type 0) where
  abbrev bitfield_found : Bitfield → B
  bitfield_found = fold-Bitfield B C E F L S T bitfield_rule part_rule expr_rule given_rule pattern_rule slice_rule type_rule

  abbrev part_found : ConstraintPart → C
  part_found = fold-ConstraintPart B C E F L S T bitfield_rule part_rule expr_rule given_rule pattern_rule slice_rule type_rule

  abbrev expr_found : Expr → E
  expr_found = fold-Expr B C E F L S T bitfield_rule part_rule expr_rule given_rule pattern_rule slice_rule type_rule

  abbrev given_found : FieldValue → F
  given_found = fold-FieldValue B C E F L S T bitfield_rule part_rule expr_rule given_rule pattern_rule slice_rule type_rule

  abbrev pattern_found : Pattern → L
  pattern_found = fold-Pattern B C E F L S T bitfield_rule part_rule expr_rule given_rule pattern_rule slice_rule type_rule

  abbrev slice_found : Slice → S
  slice_found = fold-Slice B C E F L S T bitfield_rule part_rule expr_rule given_rule pattern_rule slice_rule type_rule

  abbrev type_found : TypeExpr → T
  type_found = fold-TypeExpr B C E F L S T bitfield_rule part_rule expr_rule given_rule pattern_rule slice_rule type_rule

  abbrev pub GoodBitfield : Type 0
  GoodBitfield = (x : B) × QB x

  abbrev pub GoodConstraintPart : Type 0
  GoodConstraintPart = (x : C) × QC x

  abbrev pub GoodExpr : Type 0
  GoodExpr = (x : E) × QE x

  abbrev pub GoodFieldValue : Type 0
  GoodFieldValue = (x : F) × QF x

  abbrev pub GoodPattern : Type 0
  GoodPattern = (x : L) × QL x

  abbrev pub GoodSlice : Type 0
  GoodSlice = (x : S) × QS x

  abbrev pub GoodTypeExpr : Type 0
  GoodTypeExpr = (x : T) × QT x

  abbrev pub bitfield_below : ex.Bitfield-F GoodBitfield GoodConstraintPart GoodExpr GoodFieldValue GoodPattern GoodSlice GoodTypeExpr →
      ex.Bitfield-F B C E F L S T
  bitfield_below = map-Bitfield GoodBitfield GoodConstraintPart GoodExpr GoodFieldValue GoodPattern GoodSlice GoodTypeExpr B C E F L S T
      (λ x. x.0) (λ x. x.0) (λ x. x.0) (λ x. x.0) (λ x. x.0) (λ x. x.0) (λ x. x.0)

  abbrev pub part_below : ex.ConstraintPart-F GoodBitfield GoodConstraintPart GoodExpr GoodFieldValue GoodPattern GoodSlice GoodTypeExpr →
      ex.ConstraintPart-F B C E F L S T
  part_below = map-ConstraintPart GoodBitfield GoodConstraintPart GoodExpr GoodFieldValue GoodPattern GoodSlice GoodTypeExpr B C E F L S T
      (λ x. x.0) (λ x. x.0) (λ x. x.0) (λ x. x.0) (λ x. x.0) (λ x. x.0) (λ x. x.0)

  abbrev pub expr_below : ex.Expr-F GoodBitfield GoodConstraintPart GoodExpr GoodFieldValue GoodPattern GoodSlice GoodTypeExpr →
      ex.Expr-F B C E F L S T
  expr_below = map-Expr GoodBitfield GoodConstraintPart GoodExpr GoodFieldValue GoodPattern GoodSlice GoodTypeExpr B C E F L S T (λ x. x.0)
      (λ x. x.0) (λ x. x.0) (λ x. x.0) (λ x. x.0) (λ x. x.0) (λ x. x.0)

  abbrev pub given_below : ex.FieldValue-F GoodBitfield GoodConstraintPart GoodExpr GoodFieldValue GoodPattern GoodSlice GoodTypeExpr →
      ex.FieldValue-F B C E F L S T
  given_below = map-FieldValue GoodBitfield GoodConstraintPart GoodExpr GoodFieldValue GoodPattern GoodSlice GoodTypeExpr B C E F L S T
      (λ x. x.0) (λ x. x.0) (λ x. x.0) (λ x. x.0) (λ x. x.0) (λ x. x.0) (λ x. x.0)

  abbrev pub pattern_below : ex.Pattern-F GoodBitfield GoodConstraintPart GoodExpr GoodFieldValue GoodPattern GoodSlice GoodTypeExpr →
      ex.Pattern-F B C E F L S T
  pattern_below = map-Pattern GoodBitfield GoodConstraintPart GoodExpr GoodFieldValue GoodPattern GoodSlice GoodTypeExpr B C E F L S T
      (λ x. x.0) (λ x. x.0) (λ x. x.0) (λ x. x.0) (λ x. x.0) (λ x. x.0) (λ x. x.0)

  abbrev pub slice_below : ex.Slice-F GoodBitfield GoodConstraintPart GoodExpr GoodFieldValue GoodPattern GoodSlice GoodTypeExpr →
      ex.Slice-F B C E F L S T
  slice_below = map-Slice GoodBitfield GoodConstraintPart GoodExpr GoodFieldValue GoodPattern GoodSlice GoodTypeExpr B C E F L S T
      (λ x. x.0) (λ x. x.0) (λ x. x.0) (λ x. x.0) (λ x. x.0) (λ x. x.0) (λ x. x.0)

  abbrev pub type_below : ex.TypeExpr-F GoodBitfield GoodConstraintPart GoodExpr GoodFieldValue GoodPattern GoodSlice GoodTypeExpr →
      ex.TypeExpr-F B C E F L S T
  type_below = map-TypeExpr GoodBitfield GoodConstraintPart GoodExpr GoodFieldValue GoodPattern GoodSlice GoodTypeExpr B C E F L S T
      (λ x. x.0) (λ x. x.0) (λ x. x.0) (λ x. x.0) (λ x. x.0) (λ x. x.0) (λ x. x.0)

  -- of what is found at a node, where it holds of what is found at its parts
  pub record Steps : Type 0 where
    pub bitfield : (y : ex.Bitfield-F GoodBitfield GoodConstraintPart GoodExpr GoodFieldValue GoodPattern GoodSlice GoodTypeExpr) →
        QB (bitfield_rule (bitfield_below y))
    pub part : (y : ex.ConstraintPart-F GoodBitfield GoodConstraintPart GoodExpr GoodFieldValue GoodPattern GoodSlice GoodTypeExpr) →
        QC (part_rule (part_below y))
    pub expr : (y : ex.Expr-F GoodBitfield GoodConstraintPart GoodExpr GoodFieldValue GoodPattern GoodSlice GoodTypeExpr) → OwnExpr P y →
        QE (expr_rule (expr_below y))
    pub given : (y : ex.FieldValue-F GoodBitfield GoodConstraintPart GoodExpr GoodFieldValue GoodPattern GoodSlice GoodTypeExpr) →
        QF (given_rule (given_below y))
    pub pattern : (y : ex.Pattern-F GoodBitfield GoodConstraintPart GoodExpr GoodFieldValue GoodPattern GoodSlice GoodTypeExpr) →
        QL (pattern_rule (pattern_below y))
    pub slice : (y : ex.Slice-F GoodBitfield GoodConstraintPart GoodExpr GoodFieldValue GoodPattern GoodSlice GoodTypeExpr) →
        QS (slice_rule (slice_below y))
    pub type : (y : ex.TypeExpr-F GoodBitfield GoodConstraintPart GoodExpr GoodFieldValue GoodPattern GoodSlice GoodTypeExpr) →
        OwnType P y → QT (type_rule (type_below y))

  abbrev BitfieldHas : Bitfield → Type 0
  BitfieldHas x = Each P (bitfield_uses x) → QB (bitfield_found x)

  abbrev ConstraintPartHas : ConstraintPart → Type 0
  ConstraintPartHas x = Each P (part_uses x) → QC (part_found x)

  abbrev ExprHas : Expr → Type 0
  ExprHas x = Each P (expr_uses x) → QE (expr_found x)

  abbrev FieldValueHas : FieldValue → Type 0
  FieldValueHas x = Each P (given_uses x) → QF (given_found x)

  abbrev PatternHas : Pattern → Type 0
  PatternHas x = Each P (pattern_uses x) → QL (pattern_found x)

  abbrev SliceHas : Slice → Type 0
  SliceHas x = Each P (slice_uses x) → QS (slice_found x)

  abbrev TypeExprHas : TypeExpr → Type 0
  TypeExprHas x = Each P (type_uses x) → QT (type_found x)

  abbrev bitfield_opened : ex.Bitfield-F Bitfield ConstraintPart Expr FieldValue Pattern Slice TypeExpr → ex.Bitfield-F B C E F L S T
  bitfield_opened = map-Bitfield Bitfield ConstraintPart Expr FieldValue Pattern Slice TypeExpr B C E F L S T bitfield_found part_found
      expr_found given_found pattern_found slice_found type_found

  abbrev bitfield_using : ex.Bitfield-F Bitfield ConstraintPart Expr FieldValue Pattern Slice TypeExpr →
      ex.Bitfield-F Uses Uses Uses Uses Uses Uses Uses
  bitfield_using = map-Bitfield Bitfield ConstraintPart Expr FieldValue Pattern Slice TypeExpr Uses Uses Uses Uses Uses Uses Uses
      bitfield_uses part_uses expr_uses given_uses pattern_uses slice_uses type_uses

  abbrev BitfieldKept : ex.Bitfield-F Bitfield ConstraintPart Expr FieldValue Pattern Slice TypeExpr → Type 0
  BitfieldKept l = Each P (in_bitfield (bitfield_using l)) → Kept bitfield_below (λ y. Unit {0}) (bitfield_opened l)

  abbrev bitfield_trees : ex.Bitfield-F ((x : Bitfield) × BitfieldHas x) ((x : ConstraintPart) × ConstraintPartHas x)
      ((x : Expr) × ExprHas x) ((x : FieldValue) × FieldValueHas x) ((x : Pattern) × PatternHas x) ((x : Slice) × SliceHas x)
      ((x : TypeExpr) × TypeExprHas x) → ex.Bitfield-F Bitfield ConstraintPart Expr FieldValue Pattern Slice TypeExpr
  bitfield_trees = induction.bitfield_trees BitfieldHas ConstraintPartHas ExprHas FieldValueHas PatternHas SliceHas TypeExprHas

  abbrev part_opened : ex.ConstraintPart-F Bitfield ConstraintPart Expr FieldValue Pattern Slice TypeExpr →
      ex.ConstraintPart-F B C E F L S T
  part_opened = map-ConstraintPart Bitfield ConstraintPart Expr FieldValue Pattern Slice TypeExpr B C E F L S T bitfield_found part_found
      expr_found given_found pattern_found slice_found type_found

  abbrev part_using : ex.ConstraintPart-F Bitfield ConstraintPart Expr FieldValue Pattern Slice TypeExpr →
      ex.ConstraintPart-F Uses Uses Uses Uses Uses Uses Uses
  part_using = map-ConstraintPart Bitfield ConstraintPart Expr FieldValue Pattern Slice TypeExpr Uses Uses Uses Uses Uses Uses Uses
      bitfield_uses part_uses expr_uses given_uses pattern_uses slice_uses type_uses

  abbrev ConstraintPartKept : ex.ConstraintPart-F Bitfield ConstraintPart Expr FieldValue Pattern Slice TypeExpr → Type 0
  ConstraintPartKept l = Each P (in_part (part_using l)) → Kept part_below (λ y. Unit {0}) (part_opened l)

  abbrev part_trees : ex.ConstraintPart-F ((x : Bitfield) × BitfieldHas x) ((x : ConstraintPart) × ConstraintPartHas x)
      ((x : Expr) × ExprHas x) ((x : FieldValue) × FieldValueHas x) ((x : Pattern) × PatternHas x) ((x : Slice) × SliceHas x)
      ((x : TypeExpr) × TypeExprHas x) → ex.ConstraintPart-F Bitfield ConstraintPart Expr FieldValue Pattern Slice TypeExpr
  part_trees = induction.part_trees BitfieldHas ConstraintPartHas ExprHas FieldValueHas PatternHas SliceHas TypeExprHas

  abbrev expr_opened : ex.Expr-F Bitfield ConstraintPart Expr FieldValue Pattern Slice TypeExpr → ex.Expr-F B C E F L S T
  expr_opened = map-Expr Bitfield ConstraintPart Expr FieldValue Pattern Slice TypeExpr B C E F L S T bitfield_found part_found expr_found
      given_found pattern_found slice_found type_found

  abbrev expr_using : ex.Expr-F Bitfield ConstraintPart Expr FieldValue Pattern Slice TypeExpr →
      ex.Expr-F Uses Uses Uses Uses Uses Uses Uses
  expr_using = map-Expr Bitfield ConstraintPart Expr FieldValue Pattern Slice TypeExpr Uses Uses Uses Uses Uses Uses Uses bitfield_uses
      part_uses expr_uses given_uses pattern_uses slice_uses type_uses

  abbrev ExprKept : ex.Expr-F Bitfield ConstraintPart Expr FieldValue Pattern Slice TypeExpr → Type 0
  ExprKept l = Each P (in_expr (expr_using l)) → Kept expr_below (OwnExpr P) (expr_opened l)

  abbrev expr_trees : ex.Expr-F ((x : Bitfield) × BitfieldHas x) ((x : ConstraintPart) × ConstraintPartHas x) ((x : Expr) × ExprHas x)
      ((x : FieldValue) × FieldValueHas x) ((x : Pattern) × PatternHas x) ((x : Slice) × SliceHas x) ((x : TypeExpr) × TypeExprHas x) →
      ex.Expr-F Bitfield ConstraintPart Expr FieldValue Pattern Slice TypeExpr
  expr_trees = induction.expr_trees BitfieldHas ConstraintPartHas ExprHas FieldValueHas PatternHas SliceHas TypeExprHas

  abbrev given_opened : ex.FieldValue-F Bitfield ConstraintPart Expr FieldValue Pattern Slice TypeExpr → ex.FieldValue-F B C E F L S T
  given_opened = map-FieldValue Bitfield ConstraintPart Expr FieldValue Pattern Slice TypeExpr B C E F L S T bitfield_found part_found
      expr_found given_found pattern_found slice_found type_found

  abbrev given_using : ex.FieldValue-F Bitfield ConstraintPart Expr FieldValue Pattern Slice TypeExpr →
      ex.FieldValue-F Uses Uses Uses Uses Uses Uses Uses
  given_using = map-FieldValue Bitfield ConstraintPart Expr FieldValue Pattern Slice TypeExpr Uses Uses Uses Uses Uses Uses Uses
      bitfield_uses part_uses expr_uses given_uses pattern_uses slice_uses type_uses

  abbrev FieldValueKept : ex.FieldValue-F Bitfield ConstraintPart Expr FieldValue Pattern Slice TypeExpr → Type 0
  FieldValueKept l = Each P (in_field (given_using l)) → Kept given_below (λ y. Unit {0}) (given_opened l)

  abbrev given_trees : ex.FieldValue-F ((x : Bitfield) × BitfieldHas x) ((x : ConstraintPart) × ConstraintPartHas x)
      ((x : Expr) × ExprHas x) ((x : FieldValue) × FieldValueHas x) ((x : Pattern) × PatternHas x) ((x : Slice) × SliceHas x)
      ((x : TypeExpr) × TypeExprHas x) → ex.FieldValue-F Bitfield ConstraintPart Expr FieldValue Pattern Slice TypeExpr
  given_trees = induction.given_trees BitfieldHas ConstraintPartHas ExprHas FieldValueHas PatternHas SliceHas TypeExprHas

  abbrev pattern_opened : ex.Pattern-F Bitfield ConstraintPart Expr FieldValue Pattern Slice TypeExpr → ex.Pattern-F B C E F L S T
  pattern_opened = map-Pattern Bitfield ConstraintPart Expr FieldValue Pattern Slice TypeExpr B C E F L S T bitfield_found part_found
      expr_found given_found pattern_found slice_found type_found

  abbrev pattern_using : ex.Pattern-F Bitfield ConstraintPart Expr FieldValue Pattern Slice TypeExpr →
      ex.Pattern-F Uses Uses Uses Uses Uses Uses Uses
  pattern_using = map-Pattern Bitfield ConstraintPart Expr FieldValue Pattern Slice TypeExpr Uses Uses Uses Uses Uses Uses Uses
      bitfield_uses part_uses expr_uses given_uses pattern_uses slice_uses type_uses

  abbrev PatternKept : ex.Pattern-F Bitfield ConstraintPart Expr FieldValue Pattern Slice TypeExpr → Type 0
  PatternKept l = Each P (in_pattern (pattern_using l)) → Kept pattern_below (λ y. Unit {0}) (pattern_opened l)

  abbrev pattern_trees : ex.Pattern-F ((x : Bitfield) × BitfieldHas x) ((x : ConstraintPart) × ConstraintPartHas x) ((x : Expr) × ExprHas x)
      ((x : FieldValue) × FieldValueHas x) ((x : Pattern) × PatternHas x) ((x : Slice) × SliceHas x) ((x : TypeExpr) × TypeExprHas x) →
      ex.Pattern-F Bitfield ConstraintPart Expr FieldValue Pattern Slice TypeExpr
  pattern_trees = induction.pattern_trees BitfieldHas ConstraintPartHas ExprHas FieldValueHas PatternHas SliceHas TypeExprHas

  abbrev slice_opened : ex.Slice-F Bitfield ConstraintPart Expr FieldValue Pattern Slice TypeExpr → ex.Slice-F B C E F L S T
  slice_opened = map-Slice Bitfield ConstraintPart Expr FieldValue Pattern Slice TypeExpr B C E F L S T bitfield_found part_found expr_found
      given_found pattern_found slice_found type_found

  abbrev slice_using : ex.Slice-F Bitfield ConstraintPart Expr FieldValue Pattern Slice TypeExpr →
      ex.Slice-F Uses Uses Uses Uses Uses Uses Uses
  slice_using = map-Slice Bitfield ConstraintPart Expr FieldValue Pattern Slice TypeExpr Uses Uses Uses Uses Uses Uses Uses bitfield_uses
      part_uses expr_uses given_uses pattern_uses slice_uses type_uses

  abbrev SliceKept : ex.Slice-F Bitfield ConstraintPart Expr FieldValue Pattern Slice TypeExpr → Type 0
  SliceKept l = Each P (in_slice (slice_using l)) → Kept slice_below (λ y. Unit {0}) (slice_opened l)

  abbrev slice_trees : ex.Slice-F ((x : Bitfield) × BitfieldHas x) ((x : ConstraintPart) × ConstraintPartHas x) ((x : Expr) × ExprHas x)
      ((x : FieldValue) × FieldValueHas x) ((x : Pattern) × PatternHas x) ((x : Slice) × SliceHas x) ((x : TypeExpr) × TypeExprHas x) →
      ex.Slice-F Bitfield ConstraintPart Expr FieldValue Pattern Slice TypeExpr
  slice_trees = induction.slice_trees BitfieldHas ConstraintPartHas ExprHas FieldValueHas PatternHas SliceHas TypeExprHas

  abbrev type_opened : ex.TypeExpr-F Bitfield ConstraintPart Expr FieldValue Pattern Slice TypeExpr → ex.TypeExpr-F B C E F L S T
  type_opened = map-TypeExpr Bitfield ConstraintPart Expr FieldValue Pattern Slice TypeExpr B C E F L S T bitfield_found part_found
      expr_found given_found pattern_found slice_found type_found

  abbrev type_using : ex.TypeExpr-F Bitfield ConstraintPart Expr FieldValue Pattern Slice TypeExpr →
      ex.TypeExpr-F Uses Uses Uses Uses Uses Uses Uses
  type_using = map-TypeExpr Bitfield ConstraintPart Expr FieldValue Pattern Slice TypeExpr Uses Uses Uses Uses Uses Uses Uses bitfield_uses
      part_uses expr_uses given_uses pattern_uses slice_uses type_uses

  abbrev TypeExprKept : ex.TypeExpr-F Bitfield ConstraintPart Expr FieldValue Pattern Slice TypeExpr → Type 0
  TypeExprKept l = Each P (in_type (type_using l)) → Kept type_below (OwnType P) (type_opened l)

  abbrev type_trees : ex.TypeExpr-F ((x : Bitfield) × BitfieldHas x) ((x : ConstraintPart) × ConstraintPartHas x) ((x : Expr) × ExprHas x)
      ((x : FieldValue) × FieldValueHas x) ((x : Pattern) × PatternHas x) ((x : Slice) × SliceHas x) ((x : TypeExpr) × TypeExprHas x) →
      ex.TypeExpr-F Bitfield ConstraintPart Expr FieldValue Pattern Slice TypeExpr
  type_trees = induction.type_trees BitfieldHas ConstraintPartHas ExprHas FieldValueHas PatternHas SliceHas TypeExprHas

  kept_bitfield : (y : ex.Bitfield-F ((x : Bitfield) × BitfieldHas x) ((x : ConstraintPart) × ConstraintPartHas x) ((x : Expr) × ExprHas x)
      ((x : FieldValue) × FieldValueHas x) ((x : Pattern) × PatternHas x) ((x : Slice) × SliceHas x) ((x : TypeExpr) × TypeExprHas x)) →
      BitfieldKept (bitfield_trees y)
  kept_bitfield (ex.OneBit e i) g = record { layer = ex.OneBit (expr_found e.0, e.1 g) i; is = refl; own = tt }
  kept_bitfield (ex.BitRange a b i) g =
      record {
        layer = ex.BitRange (expr_found a.0, a.1 (each_first P (expr_uses a.0) (expr_uses b.0) g))
            (expr_found b.0, b.1 (each_second P (expr_uses a.0) (expr_uses b.0) g)) i;
        is = refl;
        own = tt;
      }

  kept_part : (y : ex.ConstraintPart-F ((x : Bitfield) × BitfieldHas x) ((x : ConstraintPart) × ConstraintPartHas x)
      ((x : Expr) × ExprHas x) ((x : FieldValue) × FieldValueHas x) ((x : Pattern) × PatternHas x) ((x : Slice) × SliceHas x)
      ((x : TypeExpr) × TypeExprHas x)) → ConstraintPartKept (part_trees y)
  kept_part (ex.Only e) g = record { layer = ex.Only (expr_found e.0, e.1 g); is = refl; own = tt }
  kept_part (ex.FromTo a b) g = record {
    layer =
        ex.FromTo (expr_found a.0, a.1 (each_first P (expr_uses a.0) (expr_uses b.0) g))
        (expr_found b.0, b.1 (each_second P (expr_uses a.0) (expr_uses b.0) g));
    is = refl;
    own = tt;
  }

  kept_expr : (y : ex.Expr-F ((x : Bitfield) × BitfieldHas x) ((x : ConstraintPart) × ConstraintPartHas x) ((x : Expr) × ExprHas x)
      ((x : FieldValue) × FieldValueHas x) ((x : Pattern) × PatternHas x) ((x : Slice) × SliceHas x) ((x : TypeExpr) × TypeExprHas x)) →
      ExprKept (expr_trees y)
  kept_expr (ex.Int span n) g = record { layer = ex.Int span n; is = refl; own = tt }
  kept_expr (ex.Bits span text) g = record { layer = ex.Bits span text; is = refl; own = tt }
  kept_expr (ex.Bool span b) g = record { layer = ex.Bool span b; is = refl; own = tt }
  kept_expr (ex.Name span name) g = record { layer = ex.Name span name; is = refl; own = g.0 }
  kept_expr (ex.Unary span o a) g = record { layer = ex.Unary span o (expr_found a.0, a.1 g); is = refl; own = tt }
  kept_expr (ex.Binary span o a b) g =
      record {
        layer = ex.Binary span o (expr_found a.0, a.1 (each_first P (expr_uses a.0) (expr_uses b.0) g))
            (expr_found b.0, b.1 (each_second P (expr_uses a.0) (expr_uses b.0) g));
        is = refl;
        own = tt;
      }
  kept_expr (ex.Conditional span c a b) g =
      record {
        layer = ex.Conditional span (expr_found c.0, c.1 (each_first P (expr_uses c.0) (expr_uses a.0 ++ expr_uses b.0) g)) (
          expr_found a.0,
          a.1 (each_first P (expr_uses a.0) (expr_uses b.0)
              (each_second P (expr_uses c.0) (expr_uses a.0 ++ expr_uses b.0) g)),
        ) (
          expr_found b.0,
          b.1 (each_second P (expr_uses a.0) (expr_uses b.0)
              (each_second P (expr_uses c.0) (expr_uses a.0 ++ expr_uses b.0) g)),
        );
        is = refl;
        own = tt;
      }
  kept_expr (ex.Tuple span es) g =
      let es_kept = kept_list P expr_uses expr_found QE es g in
      record { layer = ex.Tuple span es_kept.list; is = ap (λ xs. ex.Tuple span xs) es_kept.is; own = tt }
  kept_expr (ex.Construct span i fs) g =
      let fs_kept = kept_list P given_uses given_found QF fs g.1 in
      record { layer = ex.Construct span i fs_kept.list; is = ap (λ xs. ex.Construct span i xs) fs_kept.is; own = g.0 }
  kept_expr (ex.Call span i ps es) g =
      let ps_kept = kept_list P expr_uses expr_found QE ps
      (each_first P (joined (map expr_uses (map (λ e. e.0) ps))) (joined (map expr_uses (map (λ e. e.0) es))) g.1) in
      let es_kept = kept_list P expr_uses expr_found QE es
      (each_second P (joined (map expr_uses (map (λ e. e.0) ps))) (joined (map expr_uses (map (λ e. e.0) es))) g.1) in
      record { layer = ex.Call span i ps_kept.list es_kept.list; is = ap₂ (λ xs ys. ex.Call span i xs ys) ps_kept.is es_kept.is; own = g.0 }
  kept_expr (ex.Field span a i) g = record { layer = ex.Field span (expr_found a.0, a.1 g) i; is = refl; own = tt }
  kept_expr (ex.Fields span a is) g = record { layer = ex.Fields span (expr_found a.0, a.1 g) is; is = refl; own = tt }
  kept_expr (ex.Slices span a ss) g =
      let ss_kept = kept_list P slice_uses slice_found QS ss
      (each_second P (expr_uses a.0) (joined (map slice_uses (map (λ e. e.0) ss))) g) in
      record {
        layer = ex.Slices span (expr_found a.0, a.1 (each_first P (expr_uses a.0) (joined (map slice_uses (map (λ e. e.0) ss))) g))
            ss_kept.list;
        is = ap (λ xs. ex.Slices span (expr_found a.0) xs) ss_kept.is;
        own = tt;
      }
  kept_expr (ex.Element span a i) g =
      record {
        layer = ex.Element span (expr_found a.0, a.1 (each_first P (expr_uses a.0) (expr_uses i.0) g))
            (expr_found i.0, i.1 (each_second P (expr_uses a.0) (expr_uses i.0) g));
        is = refl;
        own = tt;
      }
  kept_expr (ex.As span a t) g = record {
    layer =
        ex.As span (expr_found a.0, a.1 (each_first P (expr_uses a.0) (type_uses t.0) g))
        (type_found t.0, t.1 (each_second P (expr_uses a.0) (type_uses t.0) g));
    is = refl;
    own = tt;
  }
  kept_expr (ex.In span a p) g = record {
    layer =
        ex.In span (expr_found a.0, a.1 (each_first P (expr_uses a.0) (pattern_uses p.0) g))
        (pattern_found p.0, p.1 (each_second P (expr_uses a.0) (pattern_uses p.0) g));
    is = refl;
    own = tt;
  }

  kept_given : (y : ex.FieldValue-F ((x : Bitfield) × BitfieldHas x) ((x : ConstraintPart) × ConstraintPartHas x) ((x : Expr) × ExprHas x)
      ((x : FieldValue) × FieldValueHas x) ((x : Pattern) × PatternHas x) ((x : Slice) × SliceHas x) ((x : TypeExpr) × TypeExprHas x)) →
      FieldValueKept (given_trees y)
  kept_given (ex.Given i e) g = record { layer = ex.Given i (expr_found e.0, e.1 g); is = refl; own = tt }

  kept_pattern : (y : ex.Pattern-F ((x : Bitfield) × BitfieldHas x) ((x : ConstraintPart) × ConstraintPartHas x) ((x : Expr) × ExprHas x)
      ((x : FieldValue) × FieldValueHas x) ((x : Pattern) × PatternHas x) ((x : Slice) × SliceHas x) ((x : TypeExpr) × TypeExprHas x)) →
      PatternKept (pattern_trees y)
  kept_pattern (ex.AnyPattern span) g = record { layer = ex.AnyPattern span; is = refl; own = tt }
  kept_pattern (ex.SetPattern span b ps) g =
      let ps_kept = kept_list P pattern_uses pattern_found QL ps g in
      record { layer = ex.SetPattern span b ps_kept.list; is = ap (λ xs. ex.SetPattern span b xs) ps_kept.is; own = tt }
  kept_pattern (ex.MaskPattern span text) g = record { layer = ex.MaskPattern span text; is = refl; own = tt }
  kept_pattern (ex.AtMost span e) g = record { layer = ex.AtMost span (expr_found e.0, e.1 g); is = refl; own = tt }
  kept_pattern (ex.AtLeast span e) g = record { layer = ex.AtLeast span (expr_found e.0, e.1 g); is = refl; own = tt }
  kept_pattern (ex.TuplePattern span ps) g =
      let ps_kept = kept_list P pattern_uses pattern_found QL ps g in
      record { layer = ex.TuplePattern span ps_kept.list; is = ap (λ xs. ex.TuplePattern span xs) ps_kept.is; own = tt }
  kept_pattern (ex.ValuePattern span e) g = record { layer = ex.ValuePattern span (expr_found e.0, e.1 g); is = refl; own = tt }
  kept_pattern (ex.RangePattern span a b) g =
      record {
        layer = ex.RangePattern span (expr_found a.0, a.1 (each_first P (expr_uses a.0) (expr_uses b.0) g))
            (expr_found b.0, b.1 (each_second P (expr_uses a.0) (expr_uses b.0) g));
        is = refl;
        own = tt;
      }

  kept_slice : (y : ex.Slice-F ((x : Bitfield) × BitfieldHas x) ((x : ConstraintPart) × ConstraintPartHas x) ((x : Expr) × ExprHas x)
      ((x : FieldValue) × FieldValueHas x) ((x : Pattern) × PatternHas x) ((x : Slice) × SliceHas x) ((x : TypeExpr) × TypeExprHas x)) →
      SliceKept (slice_trees y)
  kept_slice (ex.BitAt e) g = record { layer = ex.BitAt (expr_found e.0, e.1 g); is = refl; own = tt }
  kept_slice (ex.HighLow a b) g = record {
    layer =
        ex.HighLow (expr_found a.0, a.1 (each_first P (expr_uses a.0) (expr_uses b.0) g))
        (expr_found b.0, b.1 (each_second P (expr_uses a.0) (expr_uses b.0) g));
    is = refl;
    own = tt;
  }
  kept_slice (ex.LowWidth a b) g = record {
    layer =
        ex.LowWidth (expr_found a.0, a.1 (each_first P (expr_uses a.0) (expr_uses b.0) g))
        (expr_found b.0, b.1 (each_second P (expr_uses a.0) (expr_uses b.0) g));
    is = refl;
    own = tt;
  }
  kept_slice (ex.FactorWidth a b) g =
      record {
        layer = ex.FactorWidth (expr_found a.0, a.1 (each_first P (expr_uses a.0) (expr_uses b.0) g))
            (expr_found b.0, b.1 (each_second P (expr_uses a.0) (expr_uses b.0) g));
        is = refl;
        own = tt;
      }

  kept_type : (y : ex.TypeExpr-F ((x : Bitfield) × BitfieldHas x) ((x : ConstraintPart) × ConstraintPartHas x) ((x : Expr) × ExprHas x)
      ((x : FieldValue) × FieldValueHas x) ((x : Pattern) × PatternHas x) ((x : Slice) × SliceHas x) ((x : TypeExpr) × TypeExprHas x)) →
      TypeExprKept (type_trees y)
  kept_type (ex.IntegerType span ps) g =
      let ps_kept = kept_list P part_uses part_found QC ps g in
      record { layer = ex.IntegerType span ps_kept.list; is = ap (λ xs. ex.IntegerType span xs) ps_kept.is; own = tt }
  kept_type (ex.BooleanType span) g = record { layer = ex.BooleanType span; is = refl; own = tt }
  kept_type (ex.BitType span) g = record { layer = ex.BitType span; is = refl; own = tt }
  kept_type (ex.NamedType span name) g = record { layer = ex.NamedType span name; is = refl; own = g.0 }
  kept_type (ex.BitsType span e fs) g =
      let fs_kept = kept_list P bitfield_uses bitfield_found QB fs
      (each_second P (expr_uses e.0) (joined (map bitfield_uses (map (λ e. e.0) fs))) g) in
      record {
        layer = ex.BitsType span (
          expr_found e.0,
          e.1 (each_first P (expr_uses e.0) (joined (map bitfield_uses (map (λ e. e.0) fs))) g),
        ) fs_kept.list;
        is = ap (λ xs. ex.BitsType span (expr_found e.0) xs) fs_kept.is;
        own = tt;
      }
  kept_type (ex.TupleType span ts) g =
      let ts_kept = kept_list P type_uses type_found QT ts g in
      record { layer = ex.TupleType span ts_kept.list; is = ap (λ xs. ex.TupleType span xs) ts_kept.is; own = tt }
  kept_type (ex.ArrayType span e t) g =
      record {
        layer = ex.ArrayType span (expr_found e.0, e.1 (each_first P (expr_uses e.0) (type_uses t.0) g))
            (type_found t.0, t.1 (each_second P (expr_uses e.0) (type_uses t.0) g));
        is = refl;
        own = tt;
      }

  module _ (s : Steps) where
    bitfield_has : (y : ex.Bitfield-F ((x : Bitfield) × BitfieldHas x) ((x : ConstraintPart) × ConstraintPartHas x) ((x : Expr) × ExprHas x)
        ((x : FieldValue) × FieldValueHas x) ((x : Pattern) × PatternHas x) ((x : Slice) × SliceHas x) ((x : TypeExpr) × TypeExprHas x)) →
        BitfieldHas (roll-Bitfield (bitfield_trees y))
    bitfield_has y g =
        let k = kept_bitfield y (subst (Each P)
        (fold-roll-Bitfield Uses Uses Uses Uses Uses Uses Uses in_bitfield in_part in_expr in_field in_pattern in_slice in_type
        (bitfield_trees y)) g) in
        subst QB (sym (fold-roll-Bitfield B C E F L S T bitfield_rule part_rule expr_rule given_rule pattern_rule slice_rule type_rule
        (bitfield_trees y))) (subst (λ z. QB (bitfield_rule z)) k.is (s.bitfield k.layer))

    part_has : (y : ex.ConstraintPart-F ((x : Bitfield) × BitfieldHas x) ((x : ConstraintPart) × ConstraintPartHas x)
        ((x : Expr) × ExprHas x) ((x : FieldValue) × FieldValueHas x) ((x : Pattern) × PatternHas x) ((x : Slice) × SliceHas x)
        ((x : TypeExpr) × TypeExprHas x)) → ConstraintPartHas (roll-ConstraintPart (part_trees y))
    part_has y g =
        let k = kept_part y (subst (Each P)
        (fold-roll-ConstraintPart Uses Uses Uses Uses Uses Uses Uses in_bitfield in_part in_expr in_field in_pattern in_slice in_type
        (part_trees y)) g) in
        subst QC (sym (fold-roll-ConstraintPart B C E F L S T bitfield_rule part_rule expr_rule given_rule pattern_rule slice_rule type_rule
        (part_trees y))) (subst (λ z. QC (part_rule z)) k.is (s.part k.layer))

    expr_has : (y : ex.Expr-F ((x : Bitfield) × BitfieldHas x) ((x : ConstraintPart) × ConstraintPartHas x) ((x : Expr) × ExprHas x)
        ((x : FieldValue) × FieldValueHas x) ((x : Pattern) × PatternHas x) ((x : Slice) × SliceHas x) ((x : TypeExpr) × TypeExprHas x)) →
        ExprHas (roll-Expr (expr_trees y))
    expr_has y g =
        let k = kept_expr y (subst (Each P)
        (fold-roll-Expr Uses Uses Uses Uses Uses Uses Uses in_bitfield in_part in_expr in_field in_pattern in_slice in_type
        (expr_trees y)) g) in
        subst QE (sym (fold-roll-Expr B C E F L S T bitfield_rule part_rule expr_rule given_rule pattern_rule slice_rule type_rule
        (expr_trees y))) (subst (λ z. QE (expr_rule z)) k.is (s.expr k.layer k.own))

    given_has : (y : ex.FieldValue-F ((x : Bitfield) × BitfieldHas x) ((x : ConstraintPart) × ConstraintPartHas x) ((x : Expr) × ExprHas x)
        ((x : FieldValue) × FieldValueHas x) ((x : Pattern) × PatternHas x) ((x : Slice) × SliceHas x) ((x : TypeExpr) × TypeExprHas x)) →
        FieldValueHas (roll-FieldValue (given_trees y))
    given_has y g =
        let k = kept_given y (subst (Each P)
        (fold-roll-FieldValue Uses Uses Uses Uses Uses Uses Uses in_bitfield in_part in_expr in_field in_pattern in_slice in_type
        (given_trees y)) g) in
        subst QF (sym (fold-roll-FieldValue B C E F L S T bitfield_rule part_rule expr_rule given_rule pattern_rule slice_rule type_rule
        (given_trees y))) (subst (λ z. QF (given_rule z)) k.is (s.given k.layer))

    pattern_has : (y : ex.Pattern-F ((x : Bitfield) × BitfieldHas x) ((x : ConstraintPart) × ConstraintPartHas x) ((x : Expr) × ExprHas x)
        ((x : FieldValue) × FieldValueHas x) ((x : Pattern) × PatternHas x) ((x : Slice) × SliceHas x) ((x : TypeExpr) × TypeExprHas x)) →
        PatternHas (roll-Pattern (pattern_trees y))
    pattern_has y g =
        let k = kept_pattern y (subst (Each P)
        (fold-roll-Pattern Uses Uses Uses Uses Uses Uses Uses in_bitfield in_part in_expr in_field in_pattern in_slice in_type
        (pattern_trees y)) g) in
        subst QL (sym (fold-roll-Pattern B C E F L S T bitfield_rule part_rule expr_rule given_rule pattern_rule slice_rule type_rule
        (pattern_trees y))) (subst (λ z. QL (pattern_rule z)) k.is (s.pattern k.layer))

    slice_has : (y : ex.Slice-F ((x : Bitfield) × BitfieldHas x) ((x : ConstraintPart) × ConstraintPartHas x) ((x : Expr) × ExprHas x)
        ((x : FieldValue) × FieldValueHas x) ((x : Pattern) × PatternHas x) ((x : Slice) × SliceHas x) ((x : TypeExpr) × TypeExprHas x)) →
        SliceHas (roll-Slice (slice_trees y))
    slice_has y g =
        let k = kept_slice y (subst (Each P)
        (fold-roll-Slice Uses Uses Uses Uses Uses Uses Uses in_bitfield in_part in_expr in_field in_pattern in_slice in_type
        (slice_trees y)) g) in
        subst QS (sym (fold-roll-Slice B C E F L S T bitfield_rule part_rule expr_rule given_rule pattern_rule slice_rule type_rule
        (slice_trees y))) (subst (λ z. QS (slice_rule z)) k.is (s.slice k.layer))

    type_has : (y : ex.TypeExpr-F ((x : Bitfield) × BitfieldHas x) ((x : ConstraintPart) × ConstraintPartHas x) ((x : Expr) × ExprHas x)
        ((x : FieldValue) × FieldValueHas x) ((x : Pattern) × PatternHas x) ((x : Slice) × SliceHas x) ((x : TypeExpr) × TypeExprHas x)) →
        TypeExprHas (roll-TypeExpr (type_trees y))
    type_has y g =
        let k = kept_type y (subst (Each P)
        (fold-roll-TypeExpr Uses Uses Uses Uses Uses Uses Uses in_bitfield in_part in_expr in_field in_pattern in_slice in_type
        (type_trees y)) g) in
        subst QT (sym (fold-roll-TypeExpr B C E F L S T bitfield_rule part_rule expr_rule given_rule pattern_rule slice_rule type_rule
        (type_trees y))) (subst (λ z. QT (type_rule z)) k.is (s.type k.layer k.own))

    steps : induction.Steps BitfieldHas ConstraintPartHas ExprHas FieldValueHas PatternHas SliceHas TypeExprHas
    steps = record {
      bitfield = bitfield_has;
      part = part_has;
      expr = expr_has;
      given = given_has;
      pattern = pattern_has;
      slice = slice_has;
      type = type_has;
    }

    pub bitfield_holds : (x : Bitfield) → Each P (bitfield_uses x) → QB (bitfield_found x)
    bitfield_holds = induction.all_bitfields BitfieldHas ConstraintPartHas ExprHas FieldValueHas PatternHas SliceHas TypeExprHas steps

    pub part_holds : (x : ConstraintPart) → Each P (part_uses x) → QC (part_found x)
    part_holds = induction.all_parts BitfieldHas ConstraintPartHas ExprHas FieldValueHas PatternHas SliceHas TypeExprHas steps

    pub expr_holds : (x : Expr) → Each P (expr_uses x) → QE (expr_found x)
    expr_holds = induction.all_exprs BitfieldHas ConstraintPartHas ExprHas FieldValueHas PatternHas SliceHas TypeExprHas steps

    pub given_holds : (x : FieldValue) → Each P (given_uses x) → QF (given_found x)
    given_holds = induction.all_givens BitfieldHas ConstraintPartHas ExprHas FieldValueHas PatternHas SliceHas TypeExprHas steps

    pub pattern_holds : (x : Pattern) → Each P (pattern_uses x) → QL (pattern_found x)
    pattern_holds = induction.all_patterns BitfieldHas ConstraintPartHas ExprHas FieldValueHas PatternHas SliceHas TypeExprHas steps

    pub slice_holds : (x : Slice) → Each P (slice_uses x) → QS (slice_found x)
    slice_holds = induction.all_slices BitfieldHas ConstraintPartHas ExprHas FieldValueHas PatternHas SliceHas TypeExprHas steps

    pub type_holds : (x : TypeExpr) → Each P (type_uses x) → QT (type_found x)
    type_holds = induction.all_types BitfieldHas ConstraintPartHas ExprHas FieldValueHas PatternHas SliceHas TypeExprHas steps
