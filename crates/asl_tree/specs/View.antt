-- The typed trees of expressions of the rules that those of the code stand for.
use Rattle.std.specs.Prelude.{List, [], ◌∷◌, map}
use Rattle.asl_rules.specs.runs.Trees as rules
use Rattle.asl_rules.specs.expressions.Typing as typing
use Rattle.asl_value.specs.View.{value_of, all_slices}
use Rattle.asl_value.specs.private.Forms.{shell_of}
use Rattle.asl_shape.specs.View.{routine_of, all_given, type_of, pattern_of}
use Rattle.asl_tree.specs.declared.tree.Note.{Note}
use Rattle.asl_tree.specs.declared.tree.Callee.{Callee}
use Rattle.asl_tree.specs.declared.tree.Callee.TheVariants as callee
use Rattle.asl_tree.specs.declared.tree.Tree.{Tree}
use Rattle.asl_tree.specs.declared.tree.Tree.TheOpen as t
use Rattle.asl_tree.specs.declared.tree.Tree.TheFolds.{fold-Tree}

abbrev pub note_view : Note → rules.Note
note_view n = record { span = n.span; ty = n.ty; effect = n.effect }

abbrev pub callee_of : Callee → rules.Callee
callee_of (callee.Own n) = rules.own n
callee_of (callee.OfLibrary r) = rules.of_library (routine_of r)

-- as those of the rules are made of a list
abbrev pub trees_from : List rules.Tree → rules.Trees
trees_from ts = typing.trees_from ts

abbrev pub tree_rule : t.Tree-F rules.Tree → rules.Tree
tree_rule (t.Int n z) = rules.Int (note_view n) z
tree_rule (t.Constant n x) = rules.Constant (note_view n) (value_of x)
tree_rule (t.Read n s) = rules.Read (note_view n) s
tree_rule (t.Unary n o a) = rules.Unary (note_view n) o a
tree_rule (t.Binary n o a b) = rules.Binary (note_view n) o a b
tree_rule (t.Conditional n e a b) = rules.Conditional (note_view n) e a b
tree_rule (t.Tuple n es) = rules.Tuple (note_view n) (trees_from es)
tree_rule (t.Construct n s gs es) = rules.Construct (note_view n) (shell_of s) (all_given gs) (trees_from es)
tree_rule (t.Call n f is ps es) = rules.Call (note_view n) (callee_of f) is (trees_from ps) (trees_from es)
tree_rule (t.Field n a i) = rules.Field (note_view n) a i
tree_rule (t.Bitfield n a f) = rules.Bitfield (note_view n) a f
tree_rule (t.Bitfields n a fs) = rules.Bitfields (note_view n) a fs
tree_rule (t.Slices n a ss es) = rules.Slices (note_view n) a (all_slices ss) (trees_from es)
tree_rule (t.Element n a i) = rules.Element (note_view n) a i
tree_rule (t.As n a T es) = rules.As (note_view n) a (type_of T) (trees_from es)
tree_rule (t.In n a p es) = rules.In (note_view n) a (pattern_of p) (trees_from es)

abbrev pub tree_of : Tree → rules.Tree
tree_of = fold-Tree rules.Tree tree_rule

abbrev pub all_trees : List Tree → rules.Trees
all_trees ts = trees_from (map tree_of ts)

-- what the checker finds at an expression: its tree has its type and its effect
abbrev pub typed_of : Tree → typing.Typed
typed_of t = record { ty = (rules.note_of (tree_of t)).ty; effect = (rules.note_of (tree_of t)).effect; tree = tree_of t }

-- and its place
abbrev pub operand_of : Tree → typing.Operand
operand_of t = typing.operand (rules.tree_at (tree_of t)) (typed_of t)

abbrev pub all_operands : List Tree → List typing.Operand
all_operands ts = map operand_of ts
