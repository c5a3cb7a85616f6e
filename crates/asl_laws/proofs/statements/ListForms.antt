-- Lists of statements with their typed trees, and lists with a scope of their own.
use Rattle.std.proofs.Common.{◌≡◌, inr, ℕ, zero, suc, Bool, true, false, ◌&&◌, List, [], ◌∷◌, ◌++◌, length, take, map, Option, Ok, refl, sym, ap, ◌∙◌, subst, append_assoc}
use Rattle.asl_syn.specs.declared.token.Span.{Span}
use Rattle.asl_syn.specs.declared.code.StaticCode.TheVariants.{T05}
use Rattle.asl_syn.specs.declared.tree.Expr.{Expr}
use Rattle.asl_syn.specs.declared.tree.Stmt.{Stmt}
use Rattle.asl_syn.specs.declared.tree.Decl.{Decl}
use Rattle.asl_rules.specs.declared.effect.Effect.{Effect}
use Rattle.asl_rules.specs.declared.effect.Effect.TheVariants.{Pure}
use Rattle.asl_rules.specs.Tests.{Tests, IsRight}
use Rattle.asl_rules.specs.types.Types.{Ty, is_boolean}
use Rattle.asl_rules.specs.types.Closed.{Assignment}
use Rattle.asl_rules.specs.types.Effects.{greater}
use Rattle.asl_rules.specs.declarations.Scopes.{Entry, Signature, body_names, with_names}
use Rattle.asl_rules.specs.runs.Trees.{TreeFunc}
use Rattle.asl_rules.specs.expressions.Typing.{Operand}
use Rattle.asl_rules.specs.statements.Acting.{Done, Listed, act_first, listed, in_order, block, operand_of, condition}
use Rattle.asl_rules.specs.statements.Stmts.{found_stmt}
use Rattle.asl_rules.specs.statements.Falling.{falls, falls_through, all_fall}
use Rattle.asl_rules.specs.values.Values.{Value, Exit, Normal, Returned}
use Rattle.asl_rules.specs.runs.States.{Binding, Core}
use Rattle.asl_rules.specs.private.Agreement.{types_in, Agrees, FrameMatches, SameOn}
use Rattle.asl_rules.specs.runs.Plans.{Raise, choose, lift}
use Rattle.asl_rules.specs.values.Operators.{truth}
use Rattle.asl_rules.specs.runs.StatementForms as plan
use Rattle.asl_rules.specs.runs.StatementForms.{go_on, leave, scope_from, scope, asked}
use Rattle.asl_rules.specs.runs.Evaluation.{Does, frames}
use Rattle.asl_rules.specs.private.TypedMeaning.{BareCore, Runs, in_bare, acts_of}
use Rattle.asl_rules.specs.private.Erasure.{erased, values_of}
use Rattle.asl_rules.proofs.basics.Inversions.{ok_ok, bind_ok, need_ok}
use Rattle.asl_rules.proofs.basics.Tests.{and_true}
use Rattle.asl_rules.proofs.scopes.Naming.{WellNamed}
use Rattle.asl_laws.proofs.expressions.Twins.{Twins}
use Rattle.asl_laws.proofs.runs.Several.{one}
use Rattle.asl_laws.proofs.expressions.Claims.{StmtClaim, At, Over, Ended, Left, Ends, our, around_of}
use Rattle.asl_laws.proofs.expressions.TreePlans.{Same, Throws, operand, truth_same, append_nil}
use Rattle.asl_laws.proofs.scopes.ScopesKept.{GoodScope, ruled, stmt_scope}
use Rattle.asl_rules.proofs.scopes.Longer.{Longer, stmt_longer, list_longer, same_on_fewer, same_on_both}
use Rattle.asl_laws.proofs.statements.StmtForms.{here, Held, OutAct, ActSame, operand_typed}

-- ---- the end of a scope

frame_length : (d : List ℕ → Option Ty) (a : Assignment) (es : List Entry) (bs : List Binding) → FrameMatches d a es bs → length bs ≡ length es
frame_length d a [] [] m = refl
frame_length d a [] (b ∷ bs) m = absurd m
frame_length d a (e ∷ es) [] m = absurd m
frame_length d a (e ∷ es) (b ∷ bs) m = ap suc (frame_length d a es bs m.1)

frame_cut : (d : List ℕ → Option Ty) (a : Assignment) (es fs : List Entry) (bs : List Binding) → FrameMatches d a (es ++ fs) bs → FrameMatches d a es (take (length es) bs)
frame_cut d a [] fs bs m = tt
frame_cut d a (e ∷ es) fs [] m = absurd m
frame_cut d a (e ∷ es) fs (b ∷ bs) m = (m.0, frame_cut d a es fs bs m.1)

rest_of : List Entry → List Entry
rest_of [] = []
rest_of (e ∷ es) = es

same_rest : (base xs ys : List Entry) → base ++ xs ≡ base ++ ys → xs ≡ ys
unfolding rest_of
same_rest [] xs ys h = h
same_rest (e ∷ base) xs ys h = same_rest base xs ys (ap rest_of h)

-- the names of a state that is cut again to the height of one before
pub cut_agrees : (base names more : List Entry) (a b : Assignment) (c c1 : Core) → Agrees base names a c → Agrees base (names ++ more) b c1 → Agrees base names b (frames.cut (length c.frame) c1)
cut_agrees base names more a b c c1 h k =
    let same : k.locals ≡ h.locals ++ more = same_rest base k.locals (h.locals ++ more) (sym k.names_are ∙ ap (λ ns. ns ++ more) h.names_are ∙ append_assoc base h.locals more) in
    record {
      locals = h.locals;
      names_are = h.names_are;
      fresh = h.fresh;
      plain = h.plain;
      frame = subst (λ n. FrameMatches (types_in base) b h.locals (take n c1.frame)) (sym (frame_length (types_in base) a h.locals c.frame h.frame)) (frame_cut (types_in base) b h.locals more c1.frame (subst (λ es. FrameMatches (types_in base) b es c1.frame) same k.frame));
      globals = k.globals;
      handled = k.handled;
      callers = k.callers;
    }

values_take : (n : ℕ) (bs : List Binding) → values_of (take n bs) ≡ take n (values_of bs)
values_take zero bs = refl
values_take (suc n) [] = refl
values_take (suc n) (b ∷ bs) = ap (λ xs. b.value ∷ xs) (values_take n bs)

pub values_length : (bs : List Binding) → length (values_of bs) ≡ length bs
values_length [] = refl
values_length (b ∷ bs) = ap suc (values_length bs)

pub erased_cut : (n : ℕ) (c : Core) → erased (frames.cut n c) ≡ in_bare.cut n (erased c)
erased_cut n c = ap (λ xs. record (erased c) { frame = xs }) (values_take n c.frame)

pub fall_same : (ss : List Stmt) → all_fall (map falls ss) ≡ falls_through ss
fall_same [] = refl
fall_same (s ∷ ss) = ap (λ b. falls s && b) (fall_same ss)

module _ (tests : Tests) (right : IsRight tests) (ds : List Decl) (base : List Entry) (subs : List Signature) (loose : Bool) (funcs : List TreeFunc) (w : WellNamed base) where
  abbrev HeldAt : StmtClaim → Core → Type 0
  HeldAt j c = Held tests right ds base subs loose funcs w j c

  abbrev At_here : StmtClaim → Core → Type 0
  At_here j c = At tests base subs loose (here tests right ds base subs loose funcs w j) c

  -- after something that keeps the names
  pub moved : (j : StmtClaim) (c c1 : Core) → HeldAt j c → At_here j c1 → HeldAt j c1
  moved j c c1 k a = record { at = a; subs_formed = k.subs_formed; formed = k.formed; result_is = k.result_is; handles = k.handles; scope_good = k.scope_good; body_is = k.body_is }

  abbrev with_done : StmtClaim → Done → StmtClaim
  with_done j d = record { body = j.body; done = d; present = j.present; params = j.params; around = j.around }

  abbrev pub onward : StmtClaim → List Entry → Assignment → StmtClaim
  onward j names later = record { body = body_names j.body names; done = j.done; present = later; params = j.params; around = j.around }

  -- what holds behind a statement, with the names that are visible there
  pub held_onward : (j : StmtClaim) (names : List Entry) (later : Assignment) (c c1 : Core) → HeldAt j c → Longer j.body.scope.names names → SameOn j.body.scope.names j.present later → Agrees base names later c1 → around_of c1 ≡ j.around → GoodScope tests (with_names j.body.scope names) → HeldAt (onward j names later) c1
  held_onward j names later c c1 k l s a h g = record {
    at = record { agrees = a; subs_are = k.at.subs_are; around_is = h; stands = k.at.stands; counted = inr (ruled tests (with_names j.body.scope names) g) };
    subs_formed = k.subs_formed;
    formed = k.formed;
    result_is = λ b e. k.result_is b (same_on_both j.body.scope.names j.present later b s (same_on_fewer j.body.scope.names names later b l e));
    handles = k.handles;
    scope_good = g;
    body_is = k.body_is;
  }

  -- the end of a list, with the names that are visible there
  pub record Ending (j : StmtClaim) (names : List Entry) (c : Core) : Type 0 where
    pub later : Assignment
    pub same : SameOn j.body.scope.names j.present later
    pub agrees : Agrees base names later c
    pub around_is : around_of c ≡ j.around

  pub over_back : (j : StmtClaim) (names : List Entry) (later : Assignment) (x : Value) (c : Core) → Longer j.body.scope.names names → SameOn j.body.scope.names j.present later → Over tests base subs loose j.body.scope.class names later j.around x c → Over tests base subs loose j.body.scope.class j.body.scope.names j.present j.around x c
  over_back j names later x c l s o = record {
    raised = o.raised;
    writes = o.writes;
    more = l.more ++ o.more;
    later = o.later;
    same = same_on_both j.body.scope.names j.present later o.later s (same_on_fewer j.body.scope.names names later o.later l o.same);
    agrees = subst (λ ns. Agrees base ns o.later c) (ap (λ ns. ns ++ o.more) l.is ∙ append_assoc j.body.scope.names l.more o.more) o.agrees;
    around_is = o.around_is;
  }

  left_back : (j : StmtClaim) (names : List Entry) (later : Assignment) (o : Option Value) (c : Core) → Longer j.body.scope.names names → Left tests base subs loose (onward j names later) o c → Left tests base subs loose j o c
  left_back j names later o c l e = record {
    gives = e.gives;
    more = l.more ++ e.more;
    later = e.later;
    agrees = subst (λ ns. Agrees base ns e.later c) (ap (λ ns. ns ++ e.more) l.is ∙ append_assoc j.body.scope.names l.more e.more) e.agrees;
    around_is = e.around_is;
  }

  next_same : (j : StmtClaim) (d : Done) (b : Bool) (ss : List Stmt) (m : Listed) (Q : Exit → Exit → Core → Type 0) (R : Value → Core → Type 0) →
      ((c1 : Core) → Ended tests base subs loose (with_done j d) b c1 → Twins (our tests base subs loose) Q R (plan.in_order ss c1) (plan.in_order (acts_of m.acts) (erased c1))) →
      ((o : Option Value) (c1 : Core) → Left tests base subs loose j o c1 → Q (Returned o) (Returned o) c1) →
      (x : Exit) (c1 : Core) → Ends tests base subs loose (with_done j d) b x c1 → Twins (our tests base subs loose) Q R (go_on x c1 (plan.in_order ss)) (go_on x (erased c1) (plan.in_order (acts_of m.acts)))
  next_same j d b ss m Q R again returned Normal c1 e = again c1 e
  next_same j d b ss m Q R again returned (Returned o) c1 e = (refl, returned o c1 (record { gives = e.gives; more = e.more; later = e.later; agrees = e.agrees; around_is = e.around_is }))

  pub list_same : (j : StmtClaim) (k : Effect) (l : Listed) (Q : Exit → Exit → Core → Type 0) (R : Value → Core → Type 0) (ss : List Stmt) (c : Core) → in_order (map (found_stmt tests) ss) k j.body ≡ Ok l → HeldAt j c →
      ((c1 : Core) → Ending j l.names c1 → falls_through ss ≡ true → Q Normal Normal c1) →
      ((o : Option Value) (c1 : Core) → Left tests base subs loose j o c1 → Q (Returned o) (Returned o) c1) →
      ((x : Value) (c1 : Core) → Over tests base subs loose j.body.scope.class j.body.scope.names j.present j.around x c1 → R x c1) →
      Twins (our tests base subs loose) Q R (plan.in_order ss c) (plan.in_order (acts_of l.acts) (erased c))
  list_same j k l Q R [] c h held normal returned thrown =
      let e : listed j.body.scope.names k _ ≡ l = ok_ok _ l h in
      subst (λ (z : Listed). ((c1 : Core) → Ending j z.names c1 → Q Normal Normal c1) → Twins (our tests base subs loose) Q R (plan.in_order [] c) (plan.in_order (acts_of z.acts) (erased c))) e
      (λ go. (refl, go c (record { later = j.present; same = λ n b. refl; agrees = held.at.agrees; around_is = held.at.around_is }))) (λ c1 n. normal c1 n refl)
  list_same j k l Q R (s ∷ ss) c h held normal returned thrown =
      let b = bind_ok (found_stmt tests s j.body) _ l h in
      let d = b.value in
      let r = bind_ok (in_order (map (found_stmt tests) ss) (greater k d.effect) (body_names j.body d.names)) _ l b.then in
      subst (λ (z : Listed). ((c1 : Core) → Ending j z.names c1 → falls_through (s ∷ ss) ≡ true → Q Normal Normal c1) → Twins (our tests base subs loose) Q R (plan.in_order (s ∷ ss) c) (plan.in_order (acts_of z.acts) (erased c))) (ok_ok (act_first d.act r.value) l r.then)
      (λ go. (
        one (with_done j d, falls s),
        (record { is_found = b.first; is_tree = refl; at = held.at; formed = held.formed; result_is = held.result_is; handles = held.handles; scope_good = held.scope_good; body_is = held.body_is }, refl),
        refl,
        next_same j d (falls s) ss r.value Q R
            (λ c1 e. let m = stmt_longer tests s j.body d b.first in
            list_same (onward j d.names e.later) (greater k d.effect) r.value Q R ss c1 r.first (held_onward j d.names e.later c c1 held m e.same e.agrees e.around_is (stmt_scope tests s j.body d held.scope_good b.first))
            (λ c2 n f. go c2 (record { later = n.later; same = same_on_both j.body.scope.names j.present e.later n.later e.same (same_on_fewer j.body.scope.names d.names e.later n.later m n.same); agrees = n.agrees; around_is = n.around_is }) (and_true (falls s) (falls_through ss) e.reached f))
            (λ o c2 n. returned o c2 (left_back j d.names e.later o c2 m n))
            (λ x c2 n. thrown x c2 (over_back j d.names e.later x c2 m e.same n)))
            returned,
        λ x c1 o. thrown x c1 o,
      )) normal

  -- a list with a scope of its own, in a statement that declares nothing
  pub block_same : (j : StmtClaim) (b : Bool) (l : Listed) (ss : List Stmt) (c : Core) → block (map (found_stmt tests) ss) j.body ≡ Ok l → HeldAt j c → j.body.scope.names ≡ j.done.names → (falls_through ss ≡ true → b ≡ true) →
      ActSame tests right ds base subs loose funcs w j b (scope frames ss c) (scope in_bare (acts_of l.acts) (erased c))
  block_same j b l ss c h held names f =
      subst (λ n. ActSame tests right ds base subs loose funcs w j b (scope_from frames (length c.frame) ss c) (scope_from in_bare n (acts_of l.acts) (erased c))) (sym (values_length c.frame))
      (list_same j Pure l (λ x y c1. Twins (our tests base subs loose) (OutAct tests right ds base subs loose funcs w j b) (Throws tests right base subs loose (here tests right ds base subs loose funcs w j)) (leave frames (length c.frame) x c1) (leave in_bare (length c.frame) y (erased c1)))
      (λ x c1. Twins (our tests base subs loose) (OutAct tests right ds base subs loose funcs w j b) (Throws tests right base subs loose (here tests right ds base subs loose funcs w j)) (Raise x c1) (Raise x (erased c1))) ss c h held
      (λ c1 n g. (erased_cut (length c.frame) c1, (refl, record { reached = f g; later = n.later; same = n.same; agrees = subst (λ ns. Agrees base ns n.later (frames.cut (length c.frame) c1)) names (cut_again c1 n.later (list_longer tests ss Pure j.body l h) n.agrees); around_is = n.around_is })))
      (λ o c1 n. (erased_cut (length c.frame) c1, (refl, record { gives = n.gives; more = []; later = n.later; agrees = subst (λ ns. Agrees base ns n.later (frames.cut (length c.frame) c1)) (sym (append_nil j.body.scope.names)) (cut_agrees base j.body.scope.names n.more j.present n.later c c1 held.at.agrees n.agrees); around_is = n.around_is })))
      (λ x c1 n. (refl, refl, n)))
    where
      cut_again : (c1 : Core) (later : Assignment) → Longer j.body.scope.names l.names → Agrees base l.names later c1 → Agrees base j.body.scope.names later (frames.cut (length c.frame) c1)
      cut_again c1 later m a = cut_agrees base j.body.scope.names m.more j.present later c c1 held.at.agrees (subst (λ ns. Agrees base ns later c1) m.is a)

  -- ---- conditions

  pub condition_same : (j : StmtClaim) (Q : Exit → Exit → Core → Type 0) (span : Span) (e : Expr) (o : Operand) (c : Core) (first second : Core → Does Exit) (third fourth : BareCore → Runs Exit) → operand_of tests e j.body.scope ≡ Ok o → condition o ≡ Ok tt → At_here j c →
      ((c1 : Core) → At_here j c1 → Same tests right base subs loose (here tests right ds base subs loose funcs w j) Q (first c1) (third (erased c1))) →
      ((c1 : Core) → At_here j c1 → Same tests right base subs loose (here tests right ds base subs loose funcs w j) Q (second c1) (fourth (erased c1))) →
      Same tests right base subs loose (here tests right ds base subs loose funcs w j) Q (asked span e c first second) (asked span o.typed.tree (erased c) third fourth)
  condition_same j Q span e o c first second third fourth h k a f g =
      operand tests right base subs loose (here tests right ds base subs loose funcs w j) Q e o.typed c (λ x c1. lift (truth span x) c1 (λ b. choose b (first c1) (second c1))) (λ x c1. lift (truth span x) c1 (λ b. choose b (third c1) (fourth c1))) (operand_typed tests e j.body.scope o h) a
      (λ x c1 i a1. truth_same tests right base subs loose (here tests right ds base subs loose funcs w j) Q span x o.typed.ty c1 (λ b. choose b (first c1) (second c1)) (λ b. choose b (third (erased c1)) (fourth (erased c1))) (need_ok (is_boolean o.typed.ty) T05 o.span tt k) i
      (λ b. chosen b c1 a1))
    where
      chosen : (b : Bool) (c1 : Core) → At_here j c1 → Same tests right base subs loose (here tests right ds base subs loose funcs w j) Q (choose b (first c1) (second c1)) (choose b (third (erased c1)) (fourth (erased c1)))
      chosen true c1 a1 = f c1 a1
      chosen false c1 a1 = g c1 a1
