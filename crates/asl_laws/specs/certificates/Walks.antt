-- The lines of statements, each list gone through once: the rule of a statement is asked behind its lists, with what these gave in place
-- of their statements.
use Rattle.std.specs.Prelude.{◌≡◌, List, [], ◌∷◌, ◌++◌, map, Some, None, Result, Ok, Err}
use Rattle.asl_syn.specs.declared.code.Fault.{Fault}
use Rattle.asl_syn.specs.declared.tree.Stmt.{Stmt, out-Stmt}
use Rattle.asl_syn.specs.declared.tree.ElseIf.{ElseIf}
use Rattle.asl_syn.specs.declared.tree.Alternative.{Alternative}
use Rattle.asl_syn.specs.declared.tree.Catcher.{Catcher}
use Rattle.asl_syn.specs.declared.tree.Otherwise.{Otherwise}
use Rattle.asl_syn.specs.declared.tree.Alternative.TheOpen as st
use Rattle.asl_syn.specs.declared.tree.Alternative.TheFolds.{para-Stmt}
use Rattle.asl_rules.specs.Tests.{Tests}
use Rattle.asl_rules.specs.declarations.Scopes.{Body, Signature, body_names, handling}
use Rattle.asl_rules.specs.runs.Evaluation.{stmt_span}
use Rattle.asl_rules.specs.declared.effect.Effect.{Effect}
use Rattle.asl_rules.specs.declared.effect.Effect.TheVariants.{Pure}
use Rattle.asl_rules.specs.Faults.{◌>>=◌}
use Rattle.asl_rules.specs.declarations.Programs.{Head, body_of, may_end, tree_func, body_rule}
use Rattle.asl_rules.specs.statements.Acting.{Done, FoundStmt, FoundOtherwise, in_order, reading_scope}
use Rattle.asl_rules.specs.statements.Branches.{FoundBranch, FoundAlternative, FoundCatcher, index_type, with_index}
use Rattle.asl_rules.specs.statements.Stmts.{stmt_layer_rule, found_stmt}
use Rattle.asl_rules.specs.statements.Falling.{falls}
use Rattle.asl_laws.specs.certificates.Texts.{Place, of_stmt, stmt_line, body_line}
use Rattle.asl_laws.specs.certificates.Lines.{Lined, gives, one_line, fails, at_next, ◌into◌, ◌and◌, invoked_in, joined, expr_sites}
use Rattle.asl_laws.specs.certificates.Lines.{maybe_sites, all_sites, patterns_sites, target_sites, item_sites, site_lines, sites_at}
use Rattle.asl_laws.specs.certificates.Lines.{limit_lines, Places, stmt_places, all_places, first_of, unless_fault, index_found, caught_in}
use Rattle.asl_laws.specs.certificates.Lines.{stmt_lines, list_lines, inside_stmt, with_inside, ends, body_lines}

-- ---- one statement

-- a statement that was judged, whatever it is asked in
abbrev pub known_as : Done → FoundStmt
known_as d B = Ok d

-- the lines inside a statement, and what its rule finds behind them
abbrev pub InsideWalk : Type 0
InsideWalk = Body → Lined (Result Done Fault)

abbrev pub Walked : Type 0
Walked = Stmt × InsideWalk

-- its own line
abbrev pub own_line : Tests → Stmt → Body → Result Done Fault → Lined Done
own_line t s B (Err f) = fails (at_next (of_stmt (stmt_span s)))
own_line t s B (Ok d) = one_line (stmt_line B.scope.names (stmt_span s) d.effect (falls s) (invoked_in t (out-Stmt s) d.act B.scope)) d

abbrev pub stmt_walk : Tests → Walked → Body → Lined Done
stmt_walk t p B = p.1 B into (λ r. own_line t p.0 B r)

-- ---- lists

-- the statements of a list, as they were judged
abbrev pub list_walk : Tests → List Walked → Body → Lined (List FoundStmt)
list_walk t [] B = gives []
list_walk t (p ∷ ps) B = stmt_walk t p B into (λ d. list_walk t ps (body_names B d.names) into (λ ss. gives (known_as d ∷ ss)))

abbrev pub walked_places : List Walked → Places
walked_places ps = all_places (map (λ (p : Walked). stmt_places p.0) ps)

abbrev pub all_walk : {A : Type 0} → List (Body → Lined A) → Body → Lined (List A)
all_walk [] B = gives []
all_walk (w ∷ ws) B = w B into (λ x. all_walk ws B into (λ xs. gives (x ∷ xs)))

abbrev pub Catching : Type 0
Catching = Place → Body → Lined FoundCatcher

abbrev pub catching_walk : List (Catcher × (Places × Catching)) → Place → Body → Lined (List FoundCatcher)
catching_walk [] behind B = gives []
catching_walk (c ∷ cs) behind B =
    c.1.1 (first_of (all_places (map (λ (d : Catcher × (Places × Catching)). d.1.0) cs)) behind) B
    into (λ x. catching_walk cs behind B into (λ xs. gives (x ∷ xs)))

-- ---- all statements

abbrev pub AlternativeWalk : Type 0
AlternativeWalk = Body → Lined FoundAlternative

abbrev pub BranchWalk : Type 0
BranchWalk = Body → Lined FoundBranch

abbrev pub LastWalk : Type 0
LastWalk = Places × (Body → Lined FoundOtherwise)

abbrev pub stmt_walk_layer : Tests → st.Stmt-F (Alternative × AlternativeWalk) (Catcher × (Places × Catching)) (ElseIf × BranchWalk)
    (Otherwise × LastWalk) Walked → InsideWalk
stmt_walk_layer t (st.Pass span) B = gives (stmt_layer_rule t (st.Pass span) B)
stmt_walk_layer t (st.Unreachable span) B = gives (stmt_layer_rule t (st.Unreachable span) B)
stmt_walk_layer t (st.Assert span e) B = site_lines t (expr_sites e) (reading_scope B.scope)
    and gives (stmt_layer_rule t (st.Assert span e) B)
stmt_walk_layer t (st.Local span kind b ty e) B = sites_at t (expr_sites e) B and gives (stmt_layer_rule t (st.Local span kind b ty e) B)
stmt_walk_layer t (st.LocalVars span is ty) B = gives (stmt_layer_rule t (st.LocalVars span is ty) B)
stmt_walk_layer t (st.Assign span target e) B =
    sites_at t (target_sites target ++ expr_sites e) B and gives (stmt_layer_rule t (st.Assign span target e) B)
stmt_walk_layer t (st.Invoke span i ps es) B = sites_at t (all_sites es) B and gives (stmt_layer_rule t (st.Invoke span i ps es) B)
stmt_walk_layer t (st.If span c first others last) B =
    sites_at t (expr_sites c) B and
    (list_walk t first B into (λ ss. all_walk (map (λ b. b.1) others) B
    into (λ bs. list_walk t last B into (λ ls. gives (stmt_layer_rule t (st.If span c ss bs ls) B)))))
stmt_walk_layer t (st.Case span e alternatives last) B =
    sites_at t (expr_sites e) B and (all_walk (map (λ a. a.1) alternatives) B
    into (λ xs. last.1.1 B into (λ o. gives (stmt_layer_rule t (st.Case span e xs o) B))))
stmt_walk_layer t (st.For span i a d b limit ss) B =
    sites_at t (expr_sites a ++ expr_sites b) B and (limit_lines t limit B and
    (unless_fault (index_found t i a b B) (first_of (walked_places ss) (of_stmt span)) and
    (list_walk t ss (with_index i (index_type t d a b B.scope) B) into (λ zs. gives (stmt_layer_rule t (st.For span i a d b limit zs) B)))))
stmt_walk_layer t (st.While span c limit ss) B =
    sites_at t (expr_sites c) B and (limit_lines t limit B
    and (list_walk t ss B into (λ zs. gives (stmt_layer_rule t (st.While span c limit zs) B))))
stmt_walk_layer t (st.Repeat span ss c limit) B =
    list_walk t ss B into (λ zs. sites_at t (expr_sites c) B
    and (limit_lines t limit B and gives (stmt_layer_rule t (st.Repeat span zs c limit) B)))
stmt_walk_layer t (st.Return span e) B = sites_at t (maybe_sites e) B and gives (stmt_layer_rule t (st.Return span e) B)
stmt_walk_layer t (st.Throw span e) B = sites_at t (maybe_sites e) B and gives (stmt_layer_rule t (st.Throw span e) B)
stmt_walk_layer t (st.Try span ss cs last) B =
    list_walk t ss B into (λ zs. catching_walk cs (first_of last.1.0 (of_stmt span)) B
    into (λ xs. last.1.1 (handling B) into (λ o. gives (stmt_layer_rule t (st.Try span zs xs o) B))))
stmt_walk_layer t (st.Print span kind is) B = sites_at t (joined (map item_sites is)) B
    and gives (stmt_layer_rule t (st.Print span kind is) B)

abbrev pub alternative_walk_layer : Tests → st.Alternative-F (Alternative × AlternativeWalk) (Catcher × (Places × Catching))
    (ElseIf × BranchWalk) (Otherwise × LastWalk) Walked → AlternativeWalk
alternative_walk_layer t (st.When ps e ss) B =
    sites_at t (patterns_sites ps) B and (site_lines t (maybe_sites e) (reading_scope B.scope)
    and (list_walk t ss B into (λ zs. gives (record { patterns = ps; condition = e; body = zs }))))

abbrev pub catcher_walk_layer : Tests → st.Catcher-F (Alternative × AlternativeWalk) (Catcher × (Places × Catching)) (ElseIf × BranchWalk)
    (Otherwise × LastWalk) Walked → Places × Catching
catcher_walk_layer t (st.Catch i ty ss) = (
  walked_places ss,
  λ behind B. unless_fault (caught_in i ty B) (first_of (walked_places ss) behind)
      into (λ C. list_walk t ss C into (λ zs. gives (record { name = i; ty = ty; body = zs }))),
)

abbrev pub branch_walk_layer : Tests → st.ElseIf-F (Alternative × AlternativeWalk) (Catcher × (Places × Catching)) (ElseIf × BranchWalk)
    (Otherwise × LastWalk) Walked → BranchWalk
branch_walk_layer t (st.ElseIf c ss) B = sites_at t (expr_sites c) B
    and (list_walk t ss B into (λ zs. gives (record { condition = c; body = zs })))

abbrev pub otherwise_walk_layer : Tests → st.Otherwise-F (Alternative × AlternativeWalk) (Catcher × (Places × Catching))
    (ElseIf × BranchWalk) (Otherwise × LastWalk) Walked → LastWalk
otherwise_walk_layer t st.NoOtherwise = ([], λ B. gives None)
otherwise_walk_layer t (st.Otherwise ss) = (walked_places ss, λ B. list_walk t ss B into (λ zs. gives (Some zs)))

abbrev pub inside_walk : Tests → Stmt → InsideWalk
inside_walk t =
    para-Stmt AlternativeWalk (Places × Catching) BranchWalk LastWalk InsideWalk (alternative_walk_layer t) (catcher_walk_layer t)
    (branch_walk_layer t) (otherwise_walk_layer t) (stmt_walk_layer t)

abbrev pub with_walk : Tests → List Stmt → List Walked
with_walk t ss = map (λ (s : Stmt). (s, inside_walk t s)) ss

-- ---- bodies

-- a body, and its statements as they were judged
abbrev pub body_walk : Tests → List Signature → Head → Lined (List FoundStmt)
body_walk t subs h =
    one_line (body_line h.func.name.text) tt
    and (list_walk t (with_walk t h.func.body) (body_of subs h) into (λ zs. ends (may_end h.signature.result h.func) and gives zs))

-- ---- what walks give

-- the lines of a statement, with the names that it leaves, and what its rule finds
pub record StmtWalkLaw (t : Tests) (s : Stmt) (B : Body) : Type 0 where
  pub lines_are : (stmt_walk t (s, inside_walk t s) B into (λ (d : Done). gives d.names)) ≡ stmt_lines t (s, inside_stmt t s) B
  pub finds : (d : Done) → (stmt_walk t (s, inside_walk t s) B).outcome ≡ Ok d → found_stmt t s B ≡ Ok d

-- the same of a list: behind it its statements are known
pub record ListWalkLaw (t : Tests) (ss : List Stmt) (B : Body) : Type 0 where
  pub lines_are : (list_walk t (with_walk t ss) B into (λ (zs : List FoundStmt). gives tt)) ≡ list_lines t (with_inside t ss) B
  pub finds : (zs : List FoundStmt) (k : Effect) → (list_walk t (with_walk t ss) B).outcome ≡ Ok zs →
      in_order zs k B ≡ in_order (map (found_stmt t) ss) k B

-- and of a body
pub record BodyWalkLaw (t : Tests) (subs : List Signature) (h : Head) : Type 0 where
  pub lines_are : (body_walk t subs h into (λ (zs : List FoundStmt). gives tt)) ≡ body_lines t subs h
  pub finds : (zs : List FoundStmt) → (body_walk t subs h).outcome ≡ Ok zs →
      body_rule t subs h ≡ (in_order zs Pure (body_of subs h) >>= λ l. Ok (tree_func h l.acts))
