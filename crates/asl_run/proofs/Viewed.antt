-- What the nodes of expressions stand for that have several parts.
use Rattle.std.proofs.Common.{◌≡◌, ℕ, List, sym, ap, ◌∙◌}
use Rattle.asl_syn.specs.declared.tree.BinaryOperator.{BinaryOperator}
use Rattle.asl_syn.specs.declared.tree.UnaryOperator.{UnaryOperator}
use Rattle.asl_rules.specs.runs.Trees as rules
use Rattle.asl_rules.specs.declared.slot.Slot.{Slot}
use Rattle.asl_shape.specs.View.{all_given, type_of, pattern_of}
use Rattle.asl_shape.specs.declared.shapes.PatternShape.{PatternShape}
use Rattle.asl_shape.specs.declared.shapes.TypeShape.{TypeShape}
use Rattle.asl_shape.specs.declared.shapes.FieldGiven.{FieldGiven}
use Rattle.asl_tree.specs.View.{note_view, callee_of, tree_of, tree_rule, all_trees}
use Rattle.asl_tree.specs.declared.tree.Callee.{Callee}
use Rattle.asl_tree.specs.declared.tree.Note.{Note}
use Rattle.asl_tree.specs.declared.tree.Tree.{Tree}
use Rattle.asl_tree.specs.declared.tree.Tree.TheFolds.{fold-roll-Tree}
use Rattle.asl_tree.specs.declared.tree.Tree.TheOpen as layers
use Rattle.asl_tree.specs.declared.tree.Tree.TheVariants as node
use Rattle.asl_value.specs.private.Forms.{shell_of}
use Rattle.asl_value.specs.View.{all_slices}
use Rattle.asl_value.specs.declared.parts.Shell.{Shell}
use Rattle.asl_value.specs.declared.slices.SliceShape.{SliceShape}

pub read_is : (e : Tree) (n : Note) (s : Slot) → e ≡ node.Read n s → tree_of e ≡ rules.Read (note_view n) s
read_is e n s is = ap tree_of (is ∙ sym (node.rolls-Read n s)) ∙ fold-roll-Tree rules.Tree tree_rule (layers.Read n s)

pub unary_is : (e : Tree) (n : Note) (o : UnaryOperator) (a a1 : Tree) → e ≡ node.Unary n o a → a1 ≡ a → tree_of e ≡ rules.Unary (note_view n) o (tree_of a1)
unary_is e n o a a1 is b =
    ap tree_of (is ∙ sym (node.rolls-Unary n o a)) ∙ fold-roll-Tree rules.Tree tree_rule (layers.Unary n o a)
    ∙ ap (λ u. rules.Unary (note_view n) o (tree_of u)) (sym b)

pub binary_is : (e : Tree) (n : Note) (o : BinaryOperator) (a a1 b b1 : Tree) → e ≡ node.Binary n o a b → a1 ≡ a → b1 ≡ b → tree_of e ≡ rules.Binary (note_view n) o (tree_of a1) (tree_of b1)
binary_is e n o a a1 b b1 is l r =
    ap tree_of (is ∙ sym (node.rolls-Binary n o a b)) ∙ fold-roll-Tree rules.Tree tree_rule (layers.Binary n o a b)
    ∙ ap (λ u. rules.Binary (note_view n) o (tree_of u) (tree_of b)) (sym l) ∙ ap (λ u. rules.Binary (note_view n) o (tree_of a1) (tree_of u)) (sym r)

pub int_is : (e : Tree) (n : Note) (z : ℕ) → e ≡ node.Int n z → tree_of e ≡ rules.Int (note_view n) z
int_is e n z is = ap tree_of (is ∙ sym (node.rolls-Int n z)) ∙ fold-roll-Tree rules.Tree tree_rule (layers.Int n z)

pub field_is : (e : Tree) (n : Note) (a a1 : Tree) (i : ℕ) → e ≡ node.Field n a i → a1 ≡ a → tree_of e ≡ rules.Field (note_view n) (tree_of a1) i
field_is e n a a1 i is l =
    ap tree_of (is ∙ sym (node.rolls-Field n a i)) ∙ fold-roll-Tree rules.Tree tree_rule (layers.Field n a i)
    ∙ ap (λ u. rules.Field (note_view n) (tree_of u) i) (sym l)

pub element_is : (e : Tree) (n : Note) (a a1 i i1 : Tree) → e ≡ node.Element n a i → a1 ≡ a → i1 ≡ i → tree_of e ≡ rules.Element (note_view n) (tree_of a1) (tree_of i1)
element_is e n a a1 i i1 is l r =
    ap tree_of (is ∙ sym (node.rolls-Element n a i)) ∙ fold-roll-Tree rules.Tree tree_rule (layers.Element n a i)
    ∙ ap (λ u. rules.Element (note_view n) (tree_of u) (tree_of i)) (sym l) ∙ ap (λ u. rules.Element (note_view n) (tree_of a1) (tree_of u)) (sym r)

pub conditional_is : (e : Tree) (n : Note) (p p1 a a1 b b1 : Tree) → e ≡ node.Conditional n p a b → p1 ≡ p → a1 ≡ a → b1 ≡ b → tree_of e ≡ rules.Conditional (note_view n) (tree_of p1) (tree_of a1) (tree_of b1)
conditional_is e n p p1 a a1 b b1 is q l r =
    ap tree_of (is ∙ sym (node.rolls-Conditional n p a b)) ∙ fold-roll-Tree rules.Tree tree_rule (layers.Conditional n p a b)
    ∙ ap (λ u. rules.Conditional (note_view n) (tree_of u) (tree_of a) (tree_of b)) (sym q) ∙ ap (λ u. rules.Conditional (note_view n) (tree_of p1) (tree_of u) (tree_of b)) (sym l)
    ∙ ap (λ u. rules.Conditional (note_view n) (tree_of p1) (tree_of a1) (tree_of u)) (sym r)

pub construct_is : (e : Tree) (n : Note) (s : Shell) (gs gs1 : List FieldGiven) (es es1 : List Tree) → e ≡ node.Construct n s gs es → gs1 ≡ gs → es1 ≡ es → tree_of e ≡ rules.Construct (note_view n) (shell_of s) (all_given gs1) (all_trees es1)
construct_is e n s gs gs1 es es1 is g h =
    ap tree_of (is ∙ sym (node.rolls-Construct n s gs es)) ∙ fold-roll-Tree rules.Tree tree_rule (layers.Construct n s gs es)
    ∙ ap (λ us. rules.Construct (note_view n) (shell_of s) (all_given us) (all_trees es)) (sym g) ∙ ap (λ us. rules.Construct (note_view n) (shell_of s) (all_given gs1) (all_trees us)) (sym h)

pub call_is : (e : Tree) (n : Note) (f : Callee) (is is1 : List ℕ) (ps ps1 es es1 : List Tree) → e ≡ node.Call n f is ps es → is1 ≡ is → ps1 ≡ ps → es1 ≡ es → tree_of e ≡ rules.Call (note_view n) (callee_of f) is1 (all_trees ps1) (all_trees es1)
call_is e n f is is1 ps ps1 es es1 at i p h =
    ap tree_of (at ∙ sym (node.rolls-Call n f is ps es)) ∙ fold-roll-Tree rules.Tree tree_rule (layers.Call n f is ps es)
    ∙ ap (λ us. rules.Call (note_view n) (callee_of f) us (all_trees ps) (all_trees es)) (sym i) ∙ ap (λ us. rules.Call (note_view n) (callee_of f) is1 (all_trees us) (all_trees es)) (sym p)
    ∙ ap (λ us. rules.Call (note_view n) (callee_of f) is1 (all_trees ps1) (all_trees us)) (sym h)

pub slices_is : (e : Tree) (n : Note) (a a1 : Tree) (ss ss1 : List SliceShape) (es es1 : List Tree) → e ≡ node.Slices n a ss es → a1 ≡ a → ss1 ≡ ss → es1 ≡ es → tree_of e ≡ rules.Slices (note_view n) (tree_of a1) (all_slices ss1) (all_trees es1)
slices_is e n a a1 ss ss1 es es1 is b s h =
    ap tree_of (is ∙ sym (node.rolls-Slices n a ss es)) ∙ fold-roll-Tree rules.Tree tree_rule (layers.Slices n a ss es)
    ∙ ap (λ u. rules.Slices (note_view n) (tree_of u) (all_slices ss) (all_trees es)) (sym b) ∙ ap (λ us. rules.Slices (note_view n) (tree_of a1) (all_slices us) (all_trees es)) (sym s)
    ∙ ap (λ us. rules.Slices (note_view n) (tree_of a1) (all_slices ss1) (all_trees us)) (sym h)

pub as_is : (e : Tree) (n : Note) (a a1 : Tree) (T : TypeShape) (es es1 : List Tree) → e ≡ node.As n a T es → a1 ≡ a → es1 ≡ es → tree_of e ≡ rules.As (note_view n) (tree_of a1) (type_of T) (all_trees es1)
as_is e n a a1 T es es1 is b h =
    ap tree_of (is ∙ sym (node.rolls-As n a T es)) ∙ fold-roll-Tree rules.Tree tree_rule (layers.As n a T es)
    ∙ ap (λ u. rules.As (note_view n) (tree_of u) (type_of T) (all_trees es)) (sym b) ∙ ap (λ us. rules.As (note_view n) (tree_of a1) (type_of T) (all_trees us)) (sym h)

pub in_is : (e : Tree) (n : Note) (a a1 : Tree) (p : PatternShape) (es es1 : List Tree) → e ≡ node.In n a p es → a1 ≡ a → es1 ≡ es → tree_of e ≡ rules.In (note_view n) (tree_of a1) (pattern_of p) (all_trees es1)
in_is e n a a1 p es es1 is b h =
    ap tree_of (is ∙ sym (node.rolls-In n a p es)) ∙ fold-roll-Tree rules.Tree tree_rule (layers.In n a p es)
    ∙ ap (λ u. rules.In (note_view n) (tree_of u) (pattern_of p) (all_trees es)) (sym b) ∙ ap (λ us. rules.In (note_view n) (tree_of a1) (pattern_of p) (all_trees us)) (sym h)
