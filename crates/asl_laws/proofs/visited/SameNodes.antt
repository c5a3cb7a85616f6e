-- Where each pair of forms does the same, the tree of each node that a call visits does what the node does. What calls from outside are is a premise.
use Rattle.std.proofs.Common.{◌≡◌, ℕ, inl, inr, Bool, List, [], ◌∷◌, refl, sym, ap, ◌∙◌, subst, false, true, Ok}
use Rattle.asl_syn.specs.declared.tree.Decl.{Decl}
use Rattle.asl_syn.specs.declared.tree.Expr.{Expr, out-Expr}
use Rattle.asl_syn.specs.declared.tree.Stmt.{Stmt, out-Stmt}
use Rattle.asl_rules.specs.declared.effect.Effect.TheVariants.{Pure}
use Rattle.asl_rules.specs.declared.entry.Entry.{Entry as Entered_by}
use Rattle.asl_rules.specs.Tests.{Tests, IsRight}
use Rattle.asl_rules.specs.values.Values.{Value}
use Rattle.asl_rules.specs.declarations.Scopes.{Entry, Signature, with_class}
use Rattle.asl_rules.specs.runs.Trees.{TreeFunc, Tree, Act}
use Rattle.asl_rules.specs.statements.Falling.{falls}
use Rattle.asl_rules.specs.declarations.Programs.{Environment, Entries, Accepted, accepted}
use Rattle.asl_rules.specs.runs.States.{Binding, Core, resting}
use Rattle.asl_rules.specs.private.Agreement.{types_in, GlobalsMatch, Agrees}
use Rattle.asl_rules.specs.runs.Plans.{Meter, Faulted, Outcome, Done, Thrown, Halt}
use Rattle.asl_rules.specs.runs.Evaluation.{nodes, meaning, call_of}
use Rattle.asl_rules.specs.runs.Machines.{most_open, visits_of}
use Rattle.asl_rules.specs.runs.Visits.{AtExpr, AtStmt, Visit, trails}
use Rattle.asl_rules.specs.private.TypedMeaning.{BareCore, tree_nodes, tree_meaning, tree_call}
use Rattle.asl_rules.specs.private.Erasure.{erased, erased_outcome}
use Rattle.asl_laws.specs.Soundness.{IsCall, trees_of}
use Rattle.asl_rules.proofs.scopes.Naming.{WellNamed, well_declared}
use Rattle.asl_laws.proofs.scopes.WellTyped.{FormedSubs}
use Rattle.asl_laws.proofs.expressions.Twins.{SameEnd}
use Rattle.asl_laws.proofs.soundness.SoundnessVisits.{AllHold, twins_visits, visits_hold}
use Rattle.asl_laws.proofs.soundness.SoundnessEnds.{CallSame}
use Rattle.asl_laws.proofs.runs.Several.{Several, one, two, expr_enters, stmt_enters}
use Rattle.asl_laws.proofs.expressions.Claims.{Here, Asked, of_type, of_pure, of_width, of_number, of_known, of_divisor, tree_asked, GivesAsked, StmtClaim, At, Over, Ends, ExprIn, StmtIn, our_each, our, around_of}
use Rattle.asl_rules.proofs.widths.WidthForms.{is_written}
use Rattle.asl_laws.proofs.expressions.WidthTrees.{divisor_as, divisor_typed}
use Rattle.asl_laws.proofs.expressions.AllExprs.{Others}
use Rattle.asl_laws.proofs.statements.AllStmts.{OtherStmts, all_forms, all_meet}
use Rattle.asl_laws.specs.Visited.{TreeDoes, ActDoes, ExprSame, StmtSame, NodeSame, EachSame}
use Rattle.asl_laws.proofs.constants.KnownTypes.{over_names}
use Rattle.asl_laws.proofs.soundness.SoundnessNodes.{expr_stands, body_stands, asked_in}
use Rattle.asl_laws.specs.Chosen.{ExprChosen, StmtChosen}
use Rattle.asl_rules.specs.expressions.Typing.{Typed}
use Rattle.asl_rules.specs.expressions.Exprs.{typed}
use Rattle.asl_rules.specs.statements.Stmts.{found_stmt}

-- two ends that are the same are one in the state without names and types
same_end : {A : Type 0} (K : Core → Type 0) (Z : A → Core → Type 0) (R : Value → Core → Type 0) (r : Outcome Core A) (t : Outcome BareCore A) → SameEnd erased K (λ x y c. (x ≡ y) × Z x c) R r t → t ≡ erased_outcome r
same_end K Z R (Done x c h) (Done y d k) w = ap (λ z. Done y z k) (sym w.0) ∙ ap (λ z. Done y (erased c) z) (sym w.1) ∙ ap (λ z. Done z (erased c) h) (sym w.2.0)
same_end K Z R (Thrown x c h) (Thrown y d k) w = ap (λ z. Thrown y z k) (sym w.0) ∙ ap (λ z. Thrown y (erased c) z) (sym w.1) ∙ ap (λ z. Thrown z (erased c) h) (sym w.2)
same_end K Z R (Halt (Faulted code span) c h) (Halt e d k) w = ap (λ z. Halt e z k) (sym w.0) ∙ ap (λ z. Halt e (erased c) z) (sym w.1) ∙ ap (λ z. Halt z (erased c) h) (sym w.2)
same_end K Z R r t w = absurd w

all_same : (t : Tests) (env : Environment) (a : Accepted) (vs : List (Visit Core Expr Stmt)) → AllHold (NodeSame t env a) vs → EachSame t env a vs
all_same t env a [] h = tt
all_same t env a (v ∷ vs) h = (h.0, all_same t env a vs h.1)

module _ (tests : Tests) (right : IsRight tests) (ds : List Decl) (base : List Entry) (asked : Entered_by) (main : Entries) (subs : List Signature) (funcs : List TreeFunc) (w : WellNamed base) (s : FormedSubs tests right (types_in base) (well_declared base w) subs) where
  abbrev whole : Accepted
  whole = accepted asked main subs funcs base

  -- what a run finds at an expression with a type, and at a statement
  abbrev ExprsFind : Type 0
  ExprsFind = (H : Here) (S : Typed) (e : Expr) (c : Core) → typed tests e H.scope ≡ Ok S → At tests base subs true H c → ExprChosen (over_names tests ds base) (out-Expr e) S.tree c

  abbrev StmtsFind : Type 0
  StmtsFind = (j : StmtClaim) (x : Stmt) (c : Core) → found_stmt tests x j.body ≡ Ok j.done → At tests base subs true (record { scope = j.body.scope; present = j.present; around = j.around }) c → StmtChosen (over_names tests ds base) (Agrees base j.body.scope.names j.present) (out-Stmt x) j.done.act c

  module _ (o : (loose : Bool) → Others tests right ds base subs loose funcs w s) (q : (loose : Bool) → OtherStmts tests right ds base subs loose funcs w) (find : ExprsFind) (find_stmt : StmtsFind) where
    anywhere : (H : Here) (c : Core) → Agrees base H.scope.names H.present c → H.scope.subs ≡ subs → around_of c ≡ H.around → At tests base subs true H c
    anywhere H c a i e = record { agrees = a; subs_are = i; around_is = e; stands = inl refl; counted = inl refl }

    -- ---- one node

    expr_does : (H : Here) (i : Asked) (e : Expr) (t : Tree) (c : Core) → ExprIn tests base subs false H i e t c → TreeDoes tests (over_names tests ds base) whole e (tree_asked i) c
    expr_does H i e t c p =
        subst (λ u. TreeDoes tests (over_names tests ds base) whole e u c) (sym p.is_tree)
        (λ d h. same_end (λ c1. GlobalsMatch base c1.globals) (λ x c1. GivesAsked (types_in base) H.present i x × At tests base subs false H c1) (λ x c1. Over tests base subs false H.scope.class H.scope.names H.present H.around x c1)
        ((meaning (over_names tests ds base) d).expr e c h) ((tree_meaning (trees_of tests whole) d).expr t (erased c) h) ((all_meet tests right ds base subs false funcs w s (o false) (q false) d).expr (one (H, i)) e t c h p))

    stmt_does : (j : StmtClaim) (x : Stmt) (t : Act) (c : Core) → StmtIn tests base subs false j x t c → ActDoes tests (over_names tests ds base) whole x j.done.act c
    stmt_does j x t c p =
        subst (λ u. ActDoes tests (over_names tests ds base) whole x u c) (sym p.is_tree)
        (λ d h. same_end (λ c1. GlobalsMatch base c1.globals) (λ y c1. Ends tests base subs false j (falls x) y c1) (λ y c1. Over tests base subs false j.body.scope.class j.body.scope.names j.present j.around y c1)
        ((meaning (over_names tests ds base) d).stmt x c h) ((tree_meaning (trees_of tests whole) d).stmt t (erased c) h) ((all_meet tests right ds base subs false funcs w s (o false) (q false) d).stmt (one (j, falls x)) x t c h (p, refl)))

    typed_same : (H : Here) (S : Typed) (e : Expr) (t : Tree) (c : Core) → ExprIn tests base subs false H (of_type S) e t c →
        ExprSame tests (over_names tests ds base) whole e c
    typed_same H S e t c p =
        record { scope = H.scope; present = H.present; subs_are = p.at.subs_are; stands = expr_stands tests right ds base asked main subs funcs w s (o true) (q true) H (of_type S) e t c p; judged = inl (S, p.answers, expr_does H (of_type S) e t c p, find (asked_in tests right ds base asked main subs funcs w s (o true) (q true) H (of_type S)) S e c p.answers (anywhere (asked_in tests right ds base asked main subs funcs w s (o true) (q true) H (of_type S)) c p.at.agrees p.at.subs_are p.at.around_is)); agrees = p.at.agrees }

    expr_same : (H : Here) (i : Asked) (e : Expr) (t : Tree) (c : Core) → ExprIn tests base subs false H i e t c → ExprSame tests (over_names tests ds base) whole e c
    expr_same H (of_type S) e t c p = typed_same H S e t c p
    expr_same H (of_pure S) e t c p = record { scope = with_class H.scope Pure; present = H.present; subs_are = p.at.subs_are; stands = expr_stands tests right ds base asked main subs funcs w s (o true) (q true) H (of_pure S) e t c p; judged = inl (S, p.answers, expr_does H (of_pure S) e t c p, find (asked_in tests right ds base asked main subs funcs w s (o true) (q true) H (of_pure S)) S e c p.answers (anywhere (asked_in tests right ds base asked main subs funcs w s (o true) (q true) H (of_pure S)) c p.at.agrees p.at.subs_are p.at.around_is)); agrees = p.at.agrees }
    expr_same H (of_width W) e t c p = record { scope = H.scope; present = H.present; subs_are = p.at.subs_are; stands = expr_stands tests right ds base asked main subs funcs w s (o true) (q true) H (of_width W) e t c p; judged = inr (inl (W, p.answers, expr_does H (of_width W) e t c p)); agrees = p.at.agrees }
    expr_same H (of_number N) e t c p = record { scope = H.scope; present = H.present; subs_are = p.at.subs_are; stands = expr_stands tests right ds base asked main subs funcs w s (o true) (q true) H (of_number N) e t c p; judged = inr (inr (N, p.answers, expr_does H (of_number N) e t c p)); agrees = p.at.agrees }
    expr_same H (of_known S W) e t c p = record { scope = H.scope; present = H.present; subs_are = p.at.subs_are; stands = expr_stands tests right ds base asked main subs funcs w s (o true) (q true) H (of_known S W) e t c p; judged = inl (S, p.answers.0, expr_does H (of_known S W) e t c p, find (asked_in tests right ds base asked main subs funcs w s (o true) (q true) H (of_known S W)) S e c p.answers.0 (anywhere (asked_in tests right ds base asked main subs funcs w s (o true) (q true) H (of_known S W)) c p.at.agrees p.at.subs_are p.at.around_is)); agrees = p.at.agrees }
    -- a divisor is an integer, as any literal
    expr_same H (of_divisor span k) e t c p =
        let i = is_written tests e k p.answers.0 in
        let S = divisor_as tests i.span k in
        typed_same H S e S.tree c (record { answers = divisor_typed tests e k i H.scope; is_tree = refl; at = p.at })

    stmt_same : (j : StmtClaim) (x : Stmt) (t : Act) (c : Core) → StmtIn tests base subs false j x t c → StmtSame tests (over_names tests ds base) whole x c
    stmt_same j x t c p = record { body = j.body; done = j.done; present = j.present; subs_are = p.at.subs_are; stands = body_stands tests right ds base asked main subs funcs w s (o true) (q true) j x t c p; judged = p.is_found; agrees = p.at.agrees; same = stmt_does j x t c p; chosen = find_stmt j x c p.is_found (anywhere (record { scope = j.body.scope; present = j.present; around = j.around }) c p.at.agrees p.at.subs_are p.at.around_is) }

    -- ---- of which several things are claimed

    exprs_same : (i : Several (Here × Asked)) (e : Expr) (t : Tree) (c : Core) → expr_enters (our_each tests base subs false) i e t c → NodeSame tests (over_names tests ds base) whole (AtExpr e) c
    exprs_same (one i) e t c p = expr_same i.0 i.1 e t c p
    exprs_same (two i j) e t c p = exprs_same i e t c p.0

    stmts_same : (j : Several (StmtClaim × Bool)) (x : Stmt) (t : Act) (c : Core) → stmt_enters (our_each tests base subs false) j x t c → NodeSame tests (over_names tests ds base) whole (AtStmt x) c
    stmts_same (one j) x t c p = stmt_same j.0 x t c p.0
    stmts_same (two i j) x t c p = stmts_same i x t c p.0

    -- ---- of a call

    pub visits_same : ((id : ℕ) (args : List Value) (globals : List Binding) → IsCall whole id args globals → CallSame tests right ds base asked main subs funcs w s false id args globals) → (id : ℕ) (args : List Value) (globals : List Binding) (h : Meter) → IsCall whole id args globals →
        EachSame tests (over_names tests ds base) whole (visits_of (over_names tests ds base) id args globals h)
    unfolding visits_of
    visits_same calls id args globals h k =
        all_same tests (over_names tests ds base) whole _
        (twins_visits (our tests base subs false) (meaning (over_names tests ds base) most_open) (tree_meaning (trees_of tests whole) most_open) (trails (nodes (over_names tests ds base)) most_open 0) (NodeSame tests (over_names tests ds base) whole) (all_meet tests right ds base subs false funcs w s (o false) (q false) most_open)
        (visits_hold (nodes (over_names tests ds base)) (tree_nodes (trees_of tests whole)) (our tests base subs false) (NodeSame tests (over_names tests ds base) whole) (all_forms tests right ds base subs false funcs w s (o false) (q false)) exprs_same stmts_same most_open 0)
        (λ x y c. (x ≡ y) × GlobalsMatch base c.globals) (λ x c. GlobalsMatch base c.globals) (call_of (over_names tests ds base) id args (resting globals)) (tree_call (trees_of tests whole) id args (erased (resting globals))) h (calls id args globals k))
