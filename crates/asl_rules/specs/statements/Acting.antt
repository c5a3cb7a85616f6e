-- What is found at a statement in a scope, its typed tree among it; and statements in order.
use Rattle.std.specs.Prelude.{Bool, List, [], ◌∷◌, Option, Some, None, Result, Ok}
use Rattle.asl_syn.specs.declared.token.Span.{Span}
use Rattle.asl_syn.specs.declared.code.Fault.{Fault}
use Rattle.asl_syn.specs.declared.code.StaticCode.TheVariants.{T05, T12, T13}
use Rattle.asl_syn.specs.declared.tree.Expr.{Expr}
use Rattle.asl_rules.specs.declared.effect.Effect.{Effect}
use Rattle.asl_rules.specs.declared.effect.Effect.TheVariants.{Pure, Readonly}
use Rattle.asl_rules.specs.Faults.{◌>>=◌, ◌>>◌, need, fitted}
use Rattle.asl_rules.specs.Tests.{Tests}
use Rattle.asl_rules.specs.types.Types.{Ty, is_boolean, misfit}
use Rattle.asl_rules.specs.runs.Trees.{Act, Acts, Last, no_act, act_and, none_last, otherwise}
use Rattle.asl_rules.specs.types.Effects.{greater, lesser, at_most}
use Rattle.asl_rules.specs.declarations.Scopes.{Scope, Body, Entry, body_names, with_class}
use Rattle.asl_rules.specs.expressions.Typing.{Operand, operand}
use Rattle.asl_rules.specs.expressions.Exprs.{found, typed}

-- the names that are visible after, the effect, and the tree
pub record Done : Type 0 where
  pub names : List Entry
  pub effect : Effect
  pub act : Act

abbrev pub done : List Entry → Effect → Act → Done
done names k act = record { names = names; effect = k; act = act }

abbrev pub FoundStmt : Type 0
FoundStmt = Body → Result Done Fault

-- each statement ends so, as an expression does
abbrev pub ended : Effect → Span → Bool → Effect → List Entry → Act → Result Done Fault
ended class span ok k names act = need ok T13 span >> need (at_most k class) T12 span >> Ok (done names k act)

-- a statement with lists ends so
abbrev pub ended_in : Body → Span → Bool → Effect → Act → Result Done Fault
ended_in B span ok k act = ended B.scope.class span ok k B.scope.names act

-- ---- lists

-- the names that are visible behind a list, the greatest effect, and the trees
pub record Listed : Type 0 where
  pub names : List Entry
  pub effect : Effect
  pub acts : Acts

abbrev pub listed : List Entry → Effect → Acts → Listed
listed names k acts = record { names = names; effect = k; acts = acts }

-- one more statement in front
abbrev pub act_first : Act → Listed → Listed
act_first act l = listed l.names l.effect (act_and act l.acts)

-- statements in order, the greatest effect so far
abbrev pub in_order : List FoundStmt → Effect → Body → Result Listed Fault
in_order [] k B = Ok (listed B.scope.names k no_act)
in_order (s ∷ ss) k B = s B >>= λ d. in_order ss (greater k d.effect) (body_names B d.names) >>= λ l. Ok (act_first d.act l)

-- a list with a scope of its own
abbrev pub block : List FoundStmt → Body → Result Listed Fault
block ss B = in_order ss Pure B

-- `otherwise`, where there is one
abbrev pub FoundOtherwise : Type 0
FoundOtherwise = Option (List FoundStmt)

pub record LastListed : Type 0 where
  pub effect : Effect
  pub last : Last

abbrev pub last_block : FoundOtherwise → Body → Result LastListed Fault
last_block None B = Ok (record { effect = Pure; last = none_last })
last_block (Some ss) B = block ss B >>= λ l. Ok (record { effect = l.effect; last = otherwise l.acts })

-- ---- expressions in statements

abbrev pub expr_at : Tests → Expr → Span
expr_at t e = (found t e).span

-- an expression with its place
abbrev pub operand_of : Tests → Expr → Scope → Result Operand Fault
operand_of t e G = typed t e G >>= λ S. Ok (operand (expr_at t e) S)

-- it fits a type
abbrev pub fits : Tests → Ty → Operand → Result (Unit {0}) Fault
fits t T o = fitted (misfit t o.typed.ty T) o.span

-- a condition is a boolean
abbrev pub condition : Operand → Result (Unit {0}) Fault
condition o = need (is_boolean o.typed.ty) T05 o.span

-- where expressions at most read
abbrev pub reading_scope : Scope → Scope
reading_scope G = with_class G (lesser G.class Readonly)
