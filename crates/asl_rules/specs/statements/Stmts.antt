-- Statements in a scope: the scope after one, its effect and its typed tree, or its one fault. No condition asks for a tree.
use Rattle.std.specs.Prelude.{ℕ, true, List, [], ◌∷◌, map, Option, Some, None, Result, Ok}
use Rattle.asl_syn.specs.declared.token.Span.{Span}
use Rattle.asl_syn.specs.declared.code.Fault.{Fault}
use Rattle.asl_syn.specs.declared.code.StaticCode.TheVariants.{T18, T21}
use Rattle.asl_syn.specs.declared.tree.Expr.{Expr}
use Rattle.asl_syn.specs.declared.tree.Ident.{Ident}
use Rattle.asl_syn.specs.declared.tree.PrintKind.{PrintKind}
use Rattle.asl_syn.specs.declared.tree.PrintItem.{PrintItem}
use Rattle.asl_syn.specs.declared.tree.PrintItem.TheVariants.{Verbatim, Shown}
use Rattle.asl_syn.specs.declared.tree.Stmt.{Stmt}
use Rattle.asl_syn.specs.declared.tree.Alternative.TheOpen as st
use Rattle.asl_syn.specs.declared.tree.Alternative.TheFolds.{fold-Stmt}
use Rattle.asl_rules.specs.declared.effect.Effect.{Effect}
use Rattle.asl_rules.specs.declared.effect.Effect.TheVariants.{Pure, Writes}
use Rattle.asl_rules.specs.Faults.{◌>>=◌, ◌>>◌, need, fault}
use Rattle.asl_rules.specs.Tests.{Tests}
use Rattle.asl_rules.specs.types.Types.{Ty}
use Rattle.asl_rules.specs.runs.Trees as tree
use Rattle.asl_rules.specs.runs.Trees.{TreeItem}
use Rattle.asl_rules.specs.types.Effects.{greater, all_together, greatest}
use Rattle.asl_rules.specs.declarations.Scopes.{Scope, Body, Entry}
use Rattle.asl_rules.specs.expressions.Typing.{Typed, Operand, trees_of, trees_from}
use Rattle.asl_rules.specs.expressions.Calls.{Called, procedure_rule}
use Rattle.asl_rules.specs.expressions.Exprs.{found, typed}
use Rattle.asl_rules.specs.statements.Acting.{Done, FoundStmt, FoundOtherwise, done, ended, ended_in, operand_of, fits, condition, reading_scope}
use Rattle.asl_rules.specs.statements.Locals.{bind_rule, vars_rule}
use Rattle.asl_rules.specs.statements.Targets.{found_target, assign_rule}
use Rattle.asl_rules.specs.statements.Branches.{FoundBranch, FoundAlternative, FoundCatcher, if_rule, case_rule, for_rule, while_rule, repeat_rule, try_rule, is_exception}

-- ---- `assert`

abbrev pub asserted : Effect → Span → Operand → List Entry → Result Done Fault
asserted class span o names = condition o >> ended class span true o.typed.effect names (tree.Assert span o.typed.tree)

-- a boolean that at most reads
abbrev pub assert_rule : Tests → Span → Expr → Scope → Result Done Fault
assert_rule t span e G = operand_of t e (reading_scope G) >>= λ o. asserted G.class span o G.names

-- ---- calls of procedures

abbrev pub invoked : Span → Called → List Entry → Done
invoked span c names = done names c.effect (tree.Invoke span c.callee c.places (trees_from c.params) (trees_of c.arguments))

abbrev pub invoke_rule : Tests → Span → Ident → List Expr → List Expr → Scope → Result Done Fault
invoke_rule t span i ps es G = procedure_rule t span i (map (found t) ps) (map (found t) es) G >>= λ c. Ok (invoked span c G.names)

-- ---- exits

abbrev pub returned : Tests → Effect → Span → Option Ty → Operand → List Entry → Result Done Fault
returned t class span None o names = fault T18 span
returned t class span (Some T) o names = fits t T o >> ended class span true o.typed.effect names (tree.Return span (Some o.typed.tree))

-- `return`: of the form that the body asks for, and what it gives fits the result
abbrev pub return_rule : Tests → Span → Option Expr → Scope → Option Ty → Result Done Fault
return_rule t span None G None = Ok (done G.names Pure (tree.Return span None))
return_rule t span None G (Some T) = fault T18 span
return_rule t span (Some e) G result = operand_of t e G >>= λ o. returned t G.class span result o G.names

abbrev pub thrown : Span → Operand → Body → Result Done Fault
thrown span o B = need (is_exception o.typed.ty) T21 o.span >> ended_in B span true (greater o.typed.effect Writes) (tree.Throw span (Some o.typed.tree))

-- `throw`: of an exception, or inside a catcher or an `otherwise` of a `try`
abbrev pub throw_rule : Tests → Span → Option Expr → Body → Result Done Fault
throw_rule t span None B = need B.handles T21 span >> ended_in B span true Writes (tree.Throw span None)
throw_rule t span (Some e) B = operand_of t e B.scope >>= λ o. thrown span o B

-- ---- `print` and `println`

-- what is printed: the effects of the expressions, and the trees
pub record Printed : Type 0 where
  pub effects : List Effect
  pub items : List TreeItem

abbrev pub printed : List Effect → List TreeItem → Printed
printed ks is = record { effects = ks; items = is }

abbrev pub text_first : List ℕ → Printed → Printed
text_first text p = printed p.effects (tree.Verbatim text ∷ p.items)

abbrev pub value_first : Typed → Printed → Printed
value_first S p = printed (S.effect ∷ p.effects) (tree.Shown S.tree ∷ p.items)

abbrev pub items_rule : Tests → List PrintItem → Scope → Result Printed Fault
items_rule t [] G = Ok (printed [] [])
items_rule t (Verbatim span text ∷ is) G = items_rule t is G >>= λ p. Ok (text_first text p)
items_rule t (Shown e ∷ is) G = typed t e G >>= λ S. items_rule t is G >>= λ p. Ok (value_first S p)

abbrev pub printing : Effect → Span → PrintKind → Printed → List Entry → Result Done Fault
printing class span kind p names = ended class span (all_together Pure p.effects) (greater (greatest Pure p.effects) Writes) names (tree.Print span kind p.items)

abbrev pub print_rule : Tests → Span → PrintKind → List PrintItem → Scope → Result Done Fault
print_rule t span kind is G = items_rule t is G >>= λ p. printing G.class span kind p G.names

-- ---- all statements

abbrev pub StmtOf : Type 0
StmtOf = st.Stmt-F FoundAlternative FoundCatcher FoundBranch FoundOtherwise FoundStmt

abbrev pub stmt_layer_rule : Tests → StmtOf → FoundStmt
stmt_layer_rule t (st.Pass span) B = Ok (done B.scope.names Pure (tree.Pass span))
stmt_layer_rule t (st.Unreachable span) B = Ok (done B.scope.names Pure (tree.Unreachable span))
stmt_layer_rule t (st.Assert span e) B = assert_rule t span e B.scope
stmt_layer_rule t (st.Local span kind b ty e) B = bind_rule t span kind b ty e B.scope
stmt_layer_rule t (st.LocalVars span iss ty) B = vars_rule t span iss ty B.scope
stmt_layer_rule t (st.Assign span target e) B = assign_rule t span (found_target t target) e B.scope
stmt_layer_rule t (st.Invoke span i ps es) B = invoke_rule t span i ps es B.scope
stmt_layer_rule t (st.If span c first others last) B = if_rule t span c first others last B
stmt_layer_rule t (st.Case span e ass last) B = case_rule t span e ass last B
stmt_layer_rule t (st.For span i a d b limit ss) B = for_rule t span i a d b limit ss B
stmt_layer_rule t (st.While span c limit ss) B = while_rule t span c limit ss B
stmt_layer_rule t (st.Repeat span ss c limit) B = repeat_rule t span ss c limit B
stmt_layer_rule t (st.Return span e) B = return_rule t span e B.scope B.result
stmt_layer_rule t (st.Throw span e) B = throw_rule t span e B
stmt_layer_rule t (st.Try span ss cs last) B = try_rule span ss cs last B
stmt_layer_rule t (st.Print span kind iss) B = print_rule t span kind iss B.scope

abbrev pub branch_found : st.ElseIf-F FoundAlternative FoundCatcher FoundBranch FoundOtherwise FoundStmt → FoundBranch
branch_found (st.ElseIf c ss) = record { condition = c; body = ss }

abbrev pub alternative_found : st.Alternative-F FoundAlternative FoundCatcher FoundBranch FoundOtherwise FoundStmt → FoundAlternative
alternative_found (st.When ps e ss) = record { patterns = ps; condition = e; body = ss }

abbrev pub catcher_found : st.Catcher-F FoundAlternative FoundCatcher FoundBranch FoundOtherwise FoundStmt → FoundCatcher
catcher_found (st.Catch i ty ss) = record { name = i; ty = ty; body = ss }

abbrev pub otherwise_found : st.Otherwise-F FoundAlternative FoundCatcher FoundBranch FoundOtherwise FoundStmt → FoundOtherwise
otherwise_found st.NoOtherwise = None
otherwise_found (st.Otherwise ss) = Some ss

abbrev pub found_stmt : Tests → Stmt → FoundStmt
found_stmt t = fold-Stmt FoundAlternative FoundCatcher FoundBranch FoundOtherwise FoundStmt alternative_found catcher_found branch_found otherwise_found (stmt_layer_rule t)
