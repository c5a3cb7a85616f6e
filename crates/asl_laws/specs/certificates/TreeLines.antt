-- The lines of an expression as they are read off its typed tree: each node of the tree is read once, and no rule is asked again.
use Rattle.std.specs.Prelude.{◌≡◌, Bool, true, false, if◌then◌else◌, List, [], ◌∷◌, ◌++◌, map, Result, Ok, Err}
use Rattle.asl_syn.specs.declared.code.Fault.{Fault}
use Rattle.asl_syn.specs.declared.tree.Expr.{Expr, out-Expr}
use Rattle.asl_syn.specs.declared.tree.FieldValue.{FieldValue}
use Rattle.asl_syn.specs.declared.tree.Slice.{Slice}
use Rattle.asl_syn.specs.declared.tree.Pattern.{Pattern}
use Rattle.asl_syn.specs.declared.tree.TypeExpr.{TypeExpr}
use Rattle.asl_syn.specs.declared.tree.Bitfield.{Bitfield}
use Rattle.asl_syn.specs.declared.tree.ConstraintPart.{ConstraintPart}
use Rattle.asl_syn.specs.declared.tree.Bitfield.TheOpen as ex
use Rattle.asl_syn.specs.declared.tree.Bitfield.TheFolds.{para-Expr, para-FieldValue, para-Pattern, para-Slice}
use Rattle.asl_rules.specs.declared.effect.Effect.TheVariants.{Pure}
use Rattle.asl_rules.specs.Tests.{Tests}
use Rattle.asl_rules.specs.runs.Trees.{Tree, Trees, no_tree, tree_and, Int, Constant, Read, Unary, Binary, Conditional, Tuple, Construct}
use Rattle.asl_rules.specs.runs.Trees.{Call, Field, Bitfield as BitfieldTree, Bitfields, Slices, Element, As, In, note_of}
use Rattle.asl_rules.specs.declarations.Scopes.{Scope, with_class}
use Rattle.asl_rules.specs.expressions.Typing.{Typed}
use Rattle.asl_rules.specs.expressions.Exprs.{typed, expr_span}
use Rattle.asl_laws.specs.certificates.Texts.{Line, expr_line, of_expr}
use Rattle.asl_laws.specs.certificates.Lines.{Lined, lined, gives, fails, at_next, ◌into◌, Unread, call_in, expr_sites, site_lines}

-- the trees of the expressions in a tree that have lines, in order
abbrev pub trees_inside : Tree → Trees
trees_inside (Int n z) = no_tree
trees_inside (Constant n x) = no_tree
trees_inside (Read n s) = no_tree
trees_inside (Unary n o a) = tree_and a no_tree
trees_inside (Binary n o a b) = tree_and a (tree_and b no_tree)
trees_inside (Conditional n c a b) = tree_and c (tree_and a (tree_and b no_tree))
trees_inside (Tuple n es) = es
trees_inside (Construct n s gs es) = es
trees_inside (Call n f places ps es) = es
trees_inside (Field n a i) = tree_and a no_tree
trees_inside (BitfieldTree n a f) = tree_and a no_tree
trees_inside (Bitfields n a fs) = tree_and a no_tree
trees_inside (Slices n a ss es) = tree_and a es
trees_inside (Element n a i) = tree_and a (tree_and i no_tree)
trees_inside (As n a t es) = tree_and a no_tree
trees_inside (In n a p es) = tree_and a es

-- lines that are read off a tree, in a scope
abbrev pub Reading : Type 0
Reading = Tree → Scope → List Line

-- an expression in a node, whether it stands in a pattern, and how the lines in it are read
pub record Child : Type 0 where
  pub expr : Expr
  pub is_pure : Bool
  pub inside : Reading

abbrev pub Children : Type 0
Children = List Child

abbrev pub child : Expr × Reading → Child
child p = record { expr = p.0; is_pure = false; inside = p.1 }

abbrev pub pure_child : Expr × Reading → Child
pure_child p = record { expr = p.0; is_pure = true; inside = p.1 }

-- the line of an expression with this tree
abbrev pub line_of : Tests → Expr → Tree → Scope → Line
line_of t e s G = expr_line G.names (note_of s).span (note_of s).effect (note_of s).ty (call_in t (out-Expr e) s G)

abbrev pub child_scope : Child → Scope → Scope
child_scope c G = if c.is_pure then with_class G Pure else G

abbrev pub child_lines : Tests → Child → Reading
child_lines t c s G = c.inside s G ++ line_of t c.expr s G ∷ []

abbrev pub children_lines : Tests → Children → Trees → Scope → List Line
children_lines t [] ss G = []
children_lines t (c ∷ cs) no_tree G = []
children_lines t (c ∷ cs) (tree_and s ss) G = child_lines t c s (child_scope c G) ++ children_lines t cs ss G

abbrev pub joined : List Children → Children
joined [] = []
joined (cs ∷ more) = cs ++ joined more

abbrev pub children_in : {X : Type 0} → List (X × Children) → Children
children_in xs = joined (map (λ x. x.1) xs)

-- the expressions that stand in a node
abbrev pub expr_children : ex.Expr-F (Bitfield × Unread) (ConstraintPart × Unread) (Expr × Reading) (FieldValue × Children)
    (Pattern × Children) (Slice × Children) (TypeExpr × Unread) → Children
expr_children (ex.Int span n) = []
expr_children (ex.Bits span text) = []
expr_children (ex.Bool span b) = []
expr_children (ex.Name span name) = []
expr_children (ex.Unary span o a) = child a ∷ []
expr_children (ex.Binary span o a b) = child a ∷ child b ∷ []
expr_children (ex.Conditional span c a b) = child c ∷ child a ∷ child b ∷ []
expr_children (ex.Tuple span es) = map child es
expr_children (ex.Construct span i fs) = children_in fs
expr_children (ex.Call span i ps es) = map child es
expr_children (ex.Field span a i) = child a ∷ []
expr_children (ex.Fields span a is) = child a ∷ []
expr_children (ex.Slices span a ss) = child a ∷ children_in ss
expr_children (ex.Element span a i) = child a ∷ child i ∷ []
expr_children (ex.As span a T) = child a ∷ []
expr_children (ex.In span a p) = child a ∷ p.1

abbrev pub given_children : ex.FieldValue-F (Bitfield × Unread) (ConstraintPart × Unread) (Expr × Reading) (FieldValue × Children)
    (Pattern × Children) (Slice × Children) (TypeExpr × Unread) → Children
given_children (ex.Given i e) = child e ∷ []

abbrev pub slice_children : ex.Slice-F (Bitfield × Unread) (ConstraintPart × Unread) (Expr × Reading) (FieldValue × Children)
    (Pattern × Children) (Slice × Children) (TypeExpr × Unread) → Children
slice_children (ex.BitAt e) = child e ∷ []
slice_children (ex.HighLow a b) = child a ∷ child b ∷ []
slice_children (ex.LowWidth a b) = child a ∷ child b ∷ []
slice_children (ex.FactorWidth a b) = child a ∷ child b ∷ []

abbrev pub pattern_children : ex.Pattern-F (Bitfield × Unread) (ConstraintPart × Unread) (Expr × Reading) (FieldValue × Children)
    (Pattern × Children) (Slice × Children) (TypeExpr × Unread) → Children
pattern_children (ex.AnyPattern span) = []
pattern_children (ex.SetPattern span b ps) = children_in ps
pattern_children (ex.MaskPattern span text) = []
pattern_children (ex.AtMost span e) = pure_child e ∷ []
pattern_children (ex.AtLeast span e) = pure_child e ∷ []
pattern_children (ex.TuplePattern span ps) = children_in ps
pattern_children (ex.ValuePattern span e) = pure_child e ∷ []
pattern_children (ex.RangePattern span a b) = pure_child a ∷ pure_child b ∷ []

abbrev pub read_layer : Tests → ex.Expr-F (Bitfield × Unread) (ConstraintPart × Unread) (Expr × Reading) (FieldValue × Children)
    (Pattern × Children) (Slice × Children) (TypeExpr × Unread) → Reading
read_layer t layer s G = children_lines t (expr_children layer) (trees_inside s) G

-- the lines inside an expression
abbrev pub read_inside : Tests → Expr → Reading
read_inside t = para-Expr Unread Unread Reading Children Children Children Unread (λ _. tt) (λ _. tt) (read_layer t) given_children
    pattern_children slice_children (λ _. tt)

abbrev pub children_of_given : Tests → FieldValue → Children
children_of_given t = para-FieldValue Unread Unread Reading Children Children Children Unread (λ _. tt) (λ _. tt) (read_layer t)
    given_children pattern_children slice_children (λ _. tt)

abbrev pub children_of_pattern : Tests → Pattern → Children
children_of_pattern t = para-Pattern Unread Unread Reading Children Children Children Unread (λ _. tt) (λ _. tt) (read_layer t)
    given_children pattern_children slice_children (λ _. tt)

abbrev pub children_of_slice : Tests → Slice → Children
children_of_slice t = para-Slice Unread Unread Reading Children Children Children Unread (λ _. tt) (λ _. tt) (read_layer t) given_children
    pattern_children slice_children (λ _. tt)

-- all lines of an expression
abbrev pub expr_lines : Tests → Expr → Reading
expr_lines t e s G = read_inside t e s G ++ line_of t e s G ∷ []

-- the lines of an expression that is judged once as a whole, and only where that fails site by site
abbrev pub expr_by : Tests → Expr → Scope → Result Typed Fault → Lined Typed
expr_by t e G (Ok S) = lined (expr_lines t e S.tree G) (Ok S)
expr_by t e G (Err f) = site_lines t (expr_sites e) G into (λ u. fails (at_next (of_expr (expr_span e))))

abbrev pub expr_once : Tests → Expr → Scope → Lined Typed
expr_once t e G = expr_by t e G (typed t e G)

-- these are the lines of its sites, and what its rule gives
pub record OnceLaw (t : Tests) (e : Expr) (G : Scope) : Type 0 where
  pub lines_are : (expr_once t e G into (λ S. gives tt)) ≡ site_lines t (expr_sites e) G
  pub gives_are : (S : Typed) → ((expr_once t e G).outcome ≡ Ok S → typed t e G ≡ Ok S) ×
      (typed t e G ≡ Ok S → (expr_once t e G).outcome ≡ Ok S)
