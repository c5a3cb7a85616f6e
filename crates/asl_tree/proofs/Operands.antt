-- Typed trees as operands: their effects, their types and their trees, one by one.
use Rattle.std.proofs.Common.{◌≡◌, ℕ, ◌+◌, ◌<◌, ◌≤◌, length, get_or, drop, List, [], ◌∷◌, ◌++◌, Bool, Result, Ok, Err, refl, sym, ap, ◌∙◌}
use Rattle.std.proofs.lemmas.List.{drop_all}
use Rattle.asl_syn.specs.declared.code.Fault.{Fault}
use Rattle.asl_rules.specs.declared.effect.Effect.{Effect}
use Rattle.asl_rules.specs.types.Effects.{greater, together, all_together, greatest}
use Rattle.asl_rules.specs.runs.Trees as rules
use Rattle.asl_rules.specs.types.Types.{Ty, Parts, part, no_part}
use Rattle.asl_rules.specs.expressions.Typing.{effects_of, types_of, trees_of}
use Rattle.asl_types.specs.View.{parts_of}
use Rattle.asl_types.proofs.Rest.{at_next}
use Rattle.asl_tree.specs.declared.tree.Tree.{Tree}
use Rattle.asl_tree.specs.View.{typed_of, tree_of, all_trees, all_operands}
use Rattle.asl_tree.specs.private.Ends.{parts_before}

-- ---- trees

pub trees_seen : (ts : List Tree) → trees_of (all_operands ts) ≡ all_trees ts
trees_seen [] = refl
trees_seen (t ∷ ts) = ap (λ us. rules.tree_and (tree_of t) us) (trees_seen ts)

-- ---- effects

pub effects_at : (ts : List Tree) (i : ℕ) (t : Tree) → i < length ts → t ≡ get_or ts i t → effects_of (all_operands (drop i ts)) ≡ (typed_of t).effect ∷ effects_of (all_operands (drop (i + 1) ts))
effects_at ts i t within here = ap (λ us. effects_of (all_operands us)) (at_next ts i t within here)

pub effects_end : (ts : List Tree) (i : ℕ) → length ts ≤ i → effects_of (all_operands (drop i ts)) ≡ []
effects_end ts i end = ap (λ us. effects_of (all_operands us)) (drop_all i ts end)

-- ---- types

one_more : (Ts : List Ty) (T : Ty) (Us : Parts) → parts_before (Ts ++ T ∷ []) Us ≡ parts_before Ts (part T Us)
one_more [] T Us = refl
one_more (S ∷ Ts) T Us = ap (part S) (one_more Ts T Us)

before_none : (Ts : List Ty) → parts_before Ts no_part ≡ parts_of Ts
before_none [] = refl
before_none (T ∷ Ts) = ap (part T) (before_none Ts)

pub types_next : (ts : List Tree) (i : ℕ) (t : Tree) (Ts Us : List Ty) (T : Ty) (all : Parts) → i < length ts → t ≡ get_or ts i t → T ≡ (typed_of t).ty → Us ≡ Ts ++ T ∷ [] →
    parts_before Ts (types_of (all_operands (drop i ts))) ≡ all → parts_before Us (types_of (all_operands (drop (i + 1) ts))) ≡ all
types_next ts i t Ts Us T all within here is more inv =
    ap (λ Vs. parts_before Vs (types_of (all_operands (drop (i + 1) ts)))) more
    ∙ one_more Ts T (types_of (all_operands (drop (i + 1) ts)))
    ∙ ap (λ V. parts_before Ts (part V (types_of (all_operands (drop (i + 1) ts))))) is
    ∙ ap (λ us. parts_before Ts (types_of (all_operands us))) (sym (at_next ts i t within here))
    ∙ inv

pub types_last : (ts : List Tree) (i : ℕ) (Ts : List Ty) (all : Parts) → length ts ≤ i → parts_before Ts (types_of (all_operands (drop i ts))) ≡ all → parts_of Ts ≡ all
types_last ts i Ts all end inv = sym (before_none Ts) ∙ ap (λ us. parts_before Ts (types_of (all_operands us))) (sym (drop_all i ts end)) ∙ inv
