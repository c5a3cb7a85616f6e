-- Each node that a run enters, where each pair of forms does the same: the state agrees with the scope that the node was judged in, what the node gives is in its
-- type, and each caller's frame agrees with the scope of the call that it waits for.
use Rattle.std.proofs.Common.{◌≡◌, ℕ, inl, inr, Bool, true, List, [], ◌∷◌, Ok, refl, sym, ◌∙◌, subst, false, ◌⊎◌}
use Rattle.asl_syn.specs.declared.tree.Expr.{Expr}
use Rattle.asl_syn.specs.declared.tree.Stmt.{Stmt}
use Rattle.asl_syn.specs.declared.tree.Decl.{Decl}
use Rattle.asl_rules.specs.declared.effect.Effect.TheVariants.{Pure}
use Rattle.asl_rules.specs.declared.entry.Entry.{Entry as Entered_by}
use Rattle.asl_rules.specs.Tests.{Tests, IsRight}
use Rattle.asl_rules.specs.declarations.Scopes.{Entry, Signature, with_class}
use Rattle.asl_rules.specs.expressions.Typing.{Typed}
use Rattle.asl_rules.specs.runs.Trees.{TreeFunc, Tree, Act}
use Rattle.asl_rules.specs.expressions.Exprs.{typed}
use Rattle.asl_rules.specs.declarations.Programs.{Environment, Entries, Accepted, accepted}
use Rattle.asl_rules.specs.runs.States.{Binding, Core, resting, Frame}
use Rattle.asl_rules.specs.private.Belonging.{Sound}
use Rattle.asl_rules.specs.private.Agreement.{types_in, GlobalsMatch, Agrees}
use Rattle.asl_rules.specs.private.Worth.{WellCounted}
use Rattle.asl_laws.specs.ScopeRules.{KeepsRules}
use Rattle.asl_laws.proofs.scopes.ScopesKept.{Ruled, ruled, keeps_rules}
use Rattle.asl_rules.specs.runs.Visits.{Entered, AtExpr, AtStmt}
use Rattle.asl_laws.specs.Soundness.{ValuesIn, ExprVisited, NodeVisited, StandsIn, IsBodyOf, waiting, ExprWaits, StmtWaits, CallersWait, IsJudged}
use Rattle.asl_rules.proofs.basics.Tests.{no}
use Rattle.asl_rules.proofs.scopes.Naming.{WellNamed, well_declared}
use Rattle.asl_laws.proofs.scopes.WellTyped.{FormedSubs}
use Rattle.asl_laws.proofs.constants.KnownTypes.{over_names}
use Rattle.asl_laws.proofs.runs.Several.{Several, one, two, expr_enters, stmt_enters}
use Rattle.asl_laws.proofs.expressions.Claims.{Here, Asked, of_type, of_pure, of_width, of_number, of_known, of_divisor, StmtClaim, At, ExprIn, StmtIn, our_each, around_of, Around, Caller, caller_at, by_expr, by_stmt, IsOutermost, Bound, IsCaller, Waiting, StandsOver, Stands}
use Rattle.asl_rules.proofs.widths.WidthForms.{is_written}
use Rattle.asl_laws.proofs.expressions.WidthTrees.{divisor_as, divisor_typed}
use Rattle.asl_laws.proofs.expressions.AllExprs.{Others}
use Rattle.asl_laws.proofs.statements.AllStmts.{OtherStmts}
use Rattle.asl_laws.proofs.soundness.GivenTypes.{typed_run}
use Rattle.asl_laws.proofs.widths.WidthValues.{width_gives, number_gives}
use Rattle.asl_laws.proofs.soundness.SoundnessStates.{agrees_sound}
use Rattle.asl_laws.proofs.calls.OwnCalls.{restored_agrees}
use Rattle.asl_rules.specs.declared.effect.Effect.{Effect}
use Rattle.asl_laws.proofs.widths.WidthValues.{width_gives, number_gives}

abbrev HasFrame : List Frame → Type 0
HasFrame [] = ⊥
HasFrame (f ∷ fs) = Unit {0}

-- what holds at a node
abbrev pub AtNode : Tests → Environment → Accepted → Entered Expr Stmt → Core → Type 0
AtNode t env a n c = Sound c × NodeVisited t env a n c × CallersWait t env a c.globals c.callers c.live

module _ (tests : Tests) (right : IsRight tests) (ds : List Decl) (base : List Entry) (asked : Entered_by) (main : Entries) (subs : List Signature) (funcs : List TreeFunc) (w : WellNamed base) (s : FormedSubs tests right (types_in base) (well_declared base w) subs) where
  abbrev whole : Accepted
  whole = accepted asked main subs funcs base

  bound : {P : Type 0} → Bound tests base subs false P → P
  bound (inl e) = no e
  bound (inr p) = p

  module _ (o : Others tests right ds base subs true funcs w s) (q : OtherStmts tests right ds base subs true funcs w) where
    -- ---- values

    anywhere : (H : Here) (c : Core) → Agrees base H.scope.names H.present c → H.scope.subs ≡ subs → around_of c ≡ H.around → At tests base subs true H c
    anywhere H c a i e = record { agrees = a; subs_are = i; around_is = e; stands = inl refl; counted = inl refl }

    gives : (H : Here) (S : Typed) (e : Expr) (c : Core) → typed tests e H.scope ≡ Ok S → Agrees base H.scope.names H.present c → H.scope.subs ≡ subs → around_of c ≡ H.around → ValuesIn (over_names tests ds base) whole e H.scope H.present S.ty c
    gives H S e c t a i r d h = typed_run tests right ds base subs true funcs w s o q d e H S c h t (record { agrees = a; subs_are = i; around_is = r; stands = inl refl; counted = inl refl })

    -- ---- callers

    caller_waits : (globals : List Binding) (f : Frame) (fs : List Frame) (id : ℕ) (ids : List ℕ) (u : Caller) → IsCaller tests base subs false u id → Agrees base (caller_at u).scope.names (caller_at u).present (waiting globals f fs ids) → (caller_at u).scope.subs ≡ subs → around_of (waiting globals f fs ids) ≡ (caller_at u).around →
        StandsIn subs (caller_at u).scope.class ids → Ruled (caller_at u).scope.names (caller_at u).scope.subs → ExprWaits tests (over_names tests ds base) whole id (waiting globals f fs ids) ⊎ StmtWaits tests whole id (waiting globals f fs ids)
    caller_waits globals f fs id ids (by_expr H e S) k a i r n g = inl (record {
      node = e;
      visited = record { scope = H.scope; present = H.present; subs_are = i; stands = n; counted = g.counted; rules = keeps_rules H.scope g; judged = inl (S, k.0, gives H S e (waiting globals f fs ids) k.0 a i r); agrees = a };
      typing = S;
      is_typed = k.0;
      calls = k.1;
    })
    caller_waits globals f fs id ids (by_stmt j x) k a i r n g = inr (record {
      node = x;
      visited = record { body = j.body; done = j.done; present = j.present; subs_are = i; stands = subst (λ (z : Around). IsBodyOf subs j.body z.live) (sym r) (bound k.2); counted = g.counted; rules = keeps_rules j.body.scope g; judged = k.0; agrees = a };
      calls = k.1;
    })

    all_wait : (globals : List Binding) (k : Effect) (fs : List Frame) (ids : List ℕ) → GlobalsMatch base globals → StandsOver tests base subs false k fs ids → StandsIn subs k ids × CallersWait tests (over_names tests ds base) whole globals fs ids
    unfolding bound
    all_wait globals k [] ids m n = absurd n
    all_wait globals k (f ∷ fs) [] m n = absurd n
    all_wait globals k (f ∷ []) (id ∷ ids) m n = (n.0, by n.1)
      where
        by : IsOutermost f [] ids ⊎ ((q : Waiting tests base subs false f [] id ids) × Bound tests base subs false (StandsOver tests base subs false (caller_at q.caller).scope.class [] ids)) → (f ≡ record { names = []; handled = [] }) × (ids ≡ [])
        by (inl e) = (e.0, e.2)
        by (inr v) = absurd (bound v.1)
    all_wait globals k (f ∷ g ∷ fs) (id ∷ ids) m n = (n.0, by n.1 (λ l i. all_wait globals l (g ∷ fs) ids m i))
      where
        by : IsOutermost f (g ∷ fs) ids ⊎ ((q : Waiting tests base subs false f (g ∷ fs) id ids) × Bound tests base subs false (StandsOver tests base subs false (caller_at q.caller).scope.class (g ∷ fs) ids)) →
            ((l : Effect) → StandsOver tests base subs false l (g ∷ fs) ids → StandsIn subs l ids × CallersWait tests (over_names tests ds base) whole globals (g ∷ fs) ids) → CallersWait tests (over_names tests ds base) whole globals (f ∷ g ∷ fs) (id ∷ ids)
        by (inl e) next = absurd (subst HasFrame e.1 tt)
        by (inr v) next =
            let H = caller_at v.0.caller in
            let more = next H.scope.class (bound v.1) in
            (caller_waits globals f (g ∷ fs) id ids v.0.caller v.0.is_caller (restored_agrees base H.scope.names H.present (waiting v.0.globals f (g ∷ fs) ids) (resting globals) v.0.agrees m) v.0.subs_are v.0.around_is more.0 (bound v.0.counted), more.1)

    -- ---- nodes

    stands_at : (H : Here) (c : Core) → At tests base subs false H c → StandsIn subs H.scope.class c.live × CallersWait tests (over_names tests ds base) whole c.globals c.callers c.live
    stands_at H c a = all_wait c.globals H.scope.class c.callers c.live a.agrees.globals (bound (subst (λ (r : Around). Stands tests base subs false H.scope.class r) (sym a.around_is) a.stands))

    -- the scope in which it was judged
    abbrev pub asked_in : Here → Asked → Here
    asked_in H (of_type S) = H
    asked_in H (of_pure S) = record { scope = with_class H.scope Pure; present = H.present; around = H.around }
    asked_in H (of_width W) = H
    asked_in H (of_number N) = H
    asked_in H (of_known S W) = H
    asked_in H (of_divisor span k) = H

    lesser_stands : (H : Here) (ids : List ℕ) → StandsIn subs H.scope.class ids → StandsIn subs Pure ids
    lesser_stands H [] n = n
    lesser_stands H (id ∷ ids) n = (n.0, n.1, refl)

    pub expr_stands : (H : Here) (i : Asked) (e : Expr) (t : Tree) (c : Core) → ExprIn tests base subs false H i e t c → StandsIn subs (asked_in H i).scope.class c.live
    expr_stands H (of_type S) e t c p = (stands_at H c p.at).0
    expr_stands H (of_pure S) e t c p = lesser_stands H c.live (stands_at H c p.at).0
    expr_stands H (of_width W) e t c p = (stands_at H c p.at).0
    expr_stands H (of_number N) e t c p = (stands_at H c p.at).0
    expr_stands H (of_known S W) e t c p = (stands_at H c p.at).0
    expr_stands H (of_divisor span k) e t c p = (stands_at H c p.at).0

    pub body_stands : (j : StmtClaim) (x : Stmt) (t : Act) (c : Core) → StmtIn tests base subs false j x t c → IsBodyOf subs j.body c.live
    unfolding bound
    body_stands j x t c p = subst (λ (r : Around). IsBodyOf subs j.body r.live) (sym p.at.around_is) (bound p.body_is)

    expr_judged : (H : Here) (i : Asked) (e : Expr) (t : Tree) (c : Core) → ExprIn tests base subs false H i e t c → IsJudged tests (over_names tests ds base) whole e (asked_in H i).scope H.present c
    expr_judged H (of_type S) e t c p = inl (S, p.answers, gives H S e c p.answers p.at.agrees p.at.subs_are p.at.around_is)
    expr_judged H (of_pure S) e t c p = inl (S, p.answers, gives (asked_in H (of_pure S)) S e c p.answers p.at.agrees p.at.subs_are p.at.around_is)
    expr_judged H (of_width W) e t c p =
        inr (inl (W, p.answers, λ d h. width_gives tests right ds base subs funcs w d e H.scope W H.present c h p.answers p.at.agrees))
    expr_judged H (of_number N) e t c p =
        inr (inr (N, p.answers, λ d h. number_gives tests right ds base subs funcs w d e H.scope N H.present c h p.answers p.at.agrees))
    expr_judged H (of_known S W) e t c p = inl (S, p.answers.0, gives H S e c p.answers.0 p.at.agrees p.at.subs_are p.at.around_is)
    expr_judged H (of_divisor span k) e t c p =
        let i = is_written tests e k p.answers.0 in
        let h = divisor_typed tests e k i H.scope in
        let S = divisor_as tests i.span k in
        inl (S, h, gives H S e c h p.at.agrees p.at.subs_are p.at.around_is)

    asked_subs : (H : Here) (i : Asked) → (asked_in H i).scope.subs ≡ H.scope.subs
    asked_subs H (of_type S) = refl
    asked_subs H (of_pure S) = refl
    asked_subs H (of_width W) = refl
    asked_subs H (of_number N) = refl
    asked_subs H (of_known S W) = refl
    asked_subs H (of_divisor span k) = refl

    asked_names : (H : Here) (i : Asked) → (asked_in H i).scope.names ≡ H.scope.names
    asked_names H (of_type S) = refl
    asked_names H (of_pure S) = refl
    asked_names H (of_width W) = refl
    asked_names H (of_number N) = refl
    asked_names H (of_known S W) = refl
    asked_names H (of_divisor span k) = refl

    asked_rules : (H : Here) (i : Asked) → Ruled H.scope.names H.scope.subs → KeepsRules (asked_in H i).scope
    asked_rules H (of_type S) r = keeps_rules H.scope r
    asked_rules H (of_pure S) r = keeps_rules (with_class H.scope Pure) r
    asked_rules H (of_width W) r = keeps_rules H.scope r
    asked_rules H (of_number N) r = keeps_rules H.scope r
    asked_rules H (of_known S W) r = keeps_rules H.scope r
    asked_rules H (of_divisor span k) r = keeps_rules H.scope r

    expr_visited : (H : Here) (i : Asked) (e : Expr) (t : Tree) (c : Core) → ExprIn tests base subs false H i e t c → ExprVisited tests (over_names tests ds base) whole e c
    expr_visited H i e t c p = record {
      scope = (asked_in H i).scope;
      present = H.present;
      subs_are = asked_subs H i ∙ p.at.subs_are;
      stands = expr_stands H i e t c p;
      counted = subst WellCounted (sym (asked_names H i)) (bound p.at.counted).counted;
      rules = asked_rules H i (bound p.at.counted);
      judged = expr_judged H i e t c p;
      agrees = subst (λ ns. Agrees base ns H.present c) (sym (asked_names H i)) p.at.agrees;
    }

    at_expr : (H : Here) (i : Asked) (e : Expr) (t : Tree) (c : Core) → ExprIn tests base subs false H i e t c → AtNode tests (over_names tests ds base) whole (AtExpr e) c
    at_expr H i e t c p = (agrees_sound base H.scope.names H.present c p.at.agrees, expr_visited H i e t c p, (stands_at H c p.at).1)

    at_stmt : (j : StmtClaim) (x : Stmt) (t : Act) (c : Core) → StmtIn tests base subs false j x t c → AtNode tests (over_names tests ds base) whole (AtStmt x) c
    unfolding bound
    at_stmt j x t c p = (
      agrees_sound base j.body.scope.names j.present c p.at.agrees,
      record {
        body = j.body;
        done = j.done;
        present = j.present;
        subs_are = p.at.subs_are;
        stands = body_stands j x t c p;
        counted = p.scope_good.counted;
        rules = keeps_rules j.body.scope (ruled tests j.body.scope p.scope_good);
        judged = p.is_found;
        agrees = p.at.agrees;
      },
      (stands_at (record { scope = j.body.scope; present = j.present; around = j.around }) c p.at).1,
    )

    pub at_exprs : (i : Several (Here × Asked)) (e : Expr) (t : Tree) (c : Core) → expr_enters (our_each tests base subs false) i e t c → AtNode tests (over_names tests ds base) whole (AtExpr e) c
    at_exprs (one i) e t c p = at_expr i.0 i.1 e t c p
    at_exprs (two i j) e t c p = at_exprs i e t c p.0

    pub at_stmts : (j : Several (StmtClaim × Bool)) (x : Stmt) (t : Act) (c : Core) → stmt_enters (our_each tests base subs false) j x t c → AtNode tests (over_names tests ds base) whole (AtStmt x) c
    at_stmts (one j) x t c p = at_stmt j.0 x t c p.0
    at_stmts (two i j) x t c p = at_stmts i x t c p.0
