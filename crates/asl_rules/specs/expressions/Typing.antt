-- What is found at an expression in a scope: its type, its effect and its typed tree, and what it is as a width. No condition asks for a tree.
use Rattle.std.specs.Prelude.{ℕ, ℤ, Bool, List, [], ◌∷◌, Option, Result, Ok}
use Rattle.asl_syn.specs.declared.token.Span.{Span}
use Rattle.asl_syn.specs.declared.code.Fault.{Fault}
use Rattle.asl_syn.specs.declared.code.StaticCode.TheVariants.{T12, T13}
use Rattle.asl_poly.specs.Terms.{Polynomial}
use Rattle.asl_rules.specs.declared.effect.Effect.{Effect}
use Rattle.asl_rules.specs.declared.effect.Effect.TheVariants.{Pure}
use Rattle.asl_rules.specs.Faults.{◌>>=◌, ◌>>◌, need}
use Rattle.asl_rules.specs.types.Types.{Ty, Parts, integer_of, no_part, part}
use Rattle.asl_rules.specs.runs.Trees.{Tree, Trees, Note, no_tree, tree_and}
use Rattle.asl_rules.specs.types.Effects.{greater, at_most, all_together, greatest}
use Rattle.asl_rules.specs.declarations.Scopes.{Scope}

-- ---- what is found at an expression

pub record Typed : Type 0 where
  pub ty : Ty
  pub effect : Effect
  pub tree : Tree

-- a width is a polynomial
pub record Width : Type 0 where
  pub poly : Polynomial
  pub tree : Tree

abbrev pub width_as : Polynomial → Tree → Width
width_as p t = record { poly = p; tree = t }

-- a width that names no atom is a number
pub record Number : Type 0 where
  pub number : ℤ
  pub tree : Tree

abbrev pub number_as : ℤ → Tree → Number
number_as z t = record { number = z; tree = t }

-- where it stands, and in each scope its type, its effect and its tree, and where a width is asked for the polynomial and the number that it stands for, and
-- whether it names an atom; and the number above 0 that it is written as
pub record Found : Type 0 where
  pub span : Span
  pub typed : Scope → Result Typed Fault
  pub width : Scope → Result Width Fault
  pub number : Scope → Result Number Fault
  pub has_atom : Scope → Bool
  pub divisor : Option ℕ

-- ---- the end of a row

abbrev pub note : Span → Ty → Effect → Note
note span T k = record { span = span; ty = T; effect = k }

abbrev pub typed_as : Span → Ty → Effect → (Note → Tree) → Typed
typed_as span T k make = record { ty = T; effect = k; tree = make (note span T k) }

-- each node ends so: it keeps to the class of its body (T12)
abbrev pub in_class : Effect → Span → Effect → Ty → (Note → Tree) → Result Typed Fault
in_class class span k T make = need (at_most k class) T12 span >> Ok (typed_as span T k make)

-- and one with several operands so: they may stand together (T13)
abbrev pub finish : Effect → Span → Bool → Effect → Ty → (Note → Tree) → Result Typed Fault
finish class span ok k T make = need ok T13 span >> in_class class span k T make

-- an expression in a width is an integer
abbrev pub width_note : Span → Note
width_note span = note span (integer_of []) Pure

-- ---- trees in order

abbrev pub trees_from : List Tree → Trees
trees_from [] = no_tree
trees_from (t ∷ ts) = tree_and t (trees_from ts)

-- ---- several expressions

-- an expression that was typed, with its place
pub record Operand : Type 0 where
  pub span : Span
  pub typed : Typed

abbrev pub operand : Span → Typed → Operand
operand span S = record { span = span; typed = S }

-- expressions in order
abbrev pub operands : List Found → Scope → Result (List Operand) Fault
operands [] G = Ok []
operands (e ∷ es) G = e.typed G >>= λ S. operands es G >>= λ os. Ok (operand e.span S ∷ os)

abbrev pub effects_of : List Operand → List Effect
effects_of [] = []
effects_of (o ∷ os) = o.typed.effect ∷ effects_of os

abbrev pub types_of : List Operand → Parts
types_of [] = no_part
types_of (o ∷ os) = part o.typed.ty (types_of os)

abbrev pub trees_in : List Operand → List Tree
trees_in [] = []
trees_in (o ∷ os) = o.typed.tree ∷ trees_in os

abbrev pub trees_of : List Operand → Trees
trees_of os = trees_from (trees_in os)

-- the end of an expression with these operands, which itself has an effect
abbrev pub finish_all : Effect → Span → List Operand → Effect → Ty → (Note → Tree) → Result Typed Fault
finish_all class span os own T make = finish class span (all_together Pure (effects_of os)) (greater (greatest Pure (effects_of os)) own) T make
