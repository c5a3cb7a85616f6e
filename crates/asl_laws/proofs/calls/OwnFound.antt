-- Of the values that its operands give, a call of the program's own subprogram finds the one that its typed tree has, with the same parameters.
use Rattle.std.proofs.Common.{◌≡◌, ℕ, ◌+◌, Bool, List, [], Option, Some, None, Ok, refl, sym, ap, ◌∙◌, subst, arith, map}
use Rattle.std.specs.Prelude.{slice_get, length, ◌==◌}
use Rattle.asl_syn.specs.declared.token.Span.{Span}
use Rattle.asl_syn.specs.declared.code.StaticCode.TheVariants.{T02, T09, T12, T13, T18, T20, T11}
use Rattle.asl_syn.specs.declared.tree.Ident.{Ident}
use Rattle.asl_syn.specs.declared.tree.Expr.{Expr}
use Rattle.asl_syn.specs.declared.tree.Bitfield.TheOpen as ex
use Rattle.asl_syn.specs.declared.tree.Alternative.TheOpen as st
use Rattle.asl_syn.specs.declared.tree.Decl.{Decl}
use Rattle.asl_rules.specs.declared.effect.Effect.TheVariants.{Pure}
use Rattle.asl_rules.specs.types.Effects.{all_together, greatest, greater, at_most}
use Rattle.asl_rules.specs.Faults.{need, found_or}
use Rattle.asl_rules.specs.declarations.Routines.{Routine, routine_named}
use Rattle.asl_rules.specs.Tests.{Tests, IsRight}
use Rattle.asl_rules.specs.types.Types.{Ty, substitute}
use Rattle.asl_rules.specs.declarations.Scopes.{Entry, Signature, Chosen, choose, standing_of, is_subprogram, is_absent}
use Rattle.asl_rules.specs.runs.Trees.{Tree, Note, TreeFunc, own, of_library}
use Rattle.asl_rules.specs.expressions.Typing.{Typed, Operand, operands, effects_of, types_of, trees_in, trees_of, trees_from, note}
use Rattle.asl_rules.specs.expressions.Calls as rules
use Rattle.asl_rules.specs.expressions.Calls.{Replacing, Called, replaced_by, widths_rule, both_fit, procedure_effect, procedure_rule, procedure_of, routine_taken, call_begun, call_tree, function_of, function_rule, routine_params, widths_given, polys, routine_type}
use Rattle.asl_rules.specs.statements.Acting.{Done as StmtDone}
use Rattle.asl_rules.specs.statements.Stmts.{invoked, invoke_rule}
use Rattle.asl_rules.specs.expressions.Exprs.{found}
use Rattle.asl_rules.specs.declarations.Programs.{funcs_of, Head, signatures_rule, signatures, bodies_rule}
use Rattle.asl_rules.specs.values.Values.{Value}
use Rattle.asl_rules.specs.runs.States.{Core}
use Rattle.asl_rules.specs.private.Agreement.{types_in, Agrees}
use Rattle.asl_rules.specs.runs.Plans.{Outcome, Done, Thrown, Halt, Ret, run}
use Rattle.asl_rules.specs.runs.Forms.{eval_all}
use Rattle.asl_rules.specs.runs.Evaluation.{meaning}
use Rattle.asl_rules.specs.private.TypedMeaning.{BareCore, Runs, tree_meaning}
use Rattle.asl_rules.specs.private.Erasure.{erased}
use Rattle.asl_rules.proofs.basics.Inversions.{ok_ok, err_ok, bind_ok, then_ok, found_ok}
use Rattle.asl_rules.proofs.scopes.Naming.{WellNamed, well_declared, scope_good}
use Rattle.asl_laws.proofs.scopes.WellTyped.{FormedSubs}
use Rattle.asl_rules.proofs.basics.Opening.{finish_is}
use Rattle.asl_laws.proofs.expressions.Twins.{Meets, SameEnd, twins_run}
use Rattle.asl_laws.proofs.expressions.Claims.{Here, StmtClaim, At, our}
use Rattle.asl_laws.proofs.expressions.TreePlans.{Same, Throws, AllGive, asked_of, operands_asked, all_same}
use Rattle.asl_laws.proofs.expressions.ExprForms.{program}
use Rattle.asl_laws.proofs.statements.StmtForms.{here}
use Rattle.asl_laws.proofs.values.Routines.{AllIn}
use Rattle.asl_laws.proofs.expressions.CallForms.{all_in}
use Rattle.asl_laws.proofs.widths.TypesOver.{Never}
use Rattle.asl_laws.proofs.scopes.NamesOutside.{NamesOutside, outside_over, outside_atoms}
use Rattle.asl_laws.proofs.constants.KnownTypes.{over_names}
use Rattle.asl_laws.proofs.calls.OwnArguments.{AllFormed}
use Rattle.asl_laws.proofs.calls.OwnChosen.{head_is, chose}
use Rattle.asl_laws.proofs.calls.OwnBraces.{ParamsAsked, params_asked}
use Rattle.asl_laws.proofs.calls.OwnGiven.{operands_formed}
use Rattle.asl_laws.specs.Chosen.{Gave, FindsOwn, FindsCallee, CallFinds, both_given, ExprChosen, StmtChosen}
use Rattle.asl_laws.proofs.calls.OwnForms.{kinds_are, all_shaped, head_formals, chosen_kinds}

itself_more : (n : ℕ) → n ≡ n + 0
itself_more n = omega arith

-- what ends the same gave what is claimed
pub gave : {A B : Type 0} (K : Core → Type 0) (P : A → Core → Type 0) (Q : A → B → Core → Type 0) (R : Value → Core → Type 0) (r : Outcome Core A) (t : Outcome BareCore B) → ((x : A) (y : B) (c : Core) → Q x y c → P x c) → SameEnd erased K Q R r t → Gave P r
gave K P Q R (Done x c h) (Done y d k) f w = f x y c w.2
gave K P Q R (Thrown x c h) t f w = tt
gave K P Q R (Halt e c h) t f w = tt
gave K P Q R (Done x c h) (Thrown y d k) f w = absurd w
gave K P Q R (Done x c h) (Halt e d k) f w = absurd w

module _ (tests : Tests) (right : IsRight tests) (ds : List Decl) (base : List Entry) (out : NamesOutside base) (loose : Bool) (heads : List Head) (trees : List TreeFunc) (w : WellNamed base) (s : FormedSubs tests right (types_in base) (well_declared base w) (signatures heads))
    (heads_are : signatures_rule tests base (funcs_of ds) ≡ Ok heads) (bodies : bodies_rule tests (signatures heads) heads ≡ Ok trees) where
  abbrev subs : List Signature
  subs = signatures heads

  found_so : (H : Here) (span : Span) (name : List ℕ) (ps : List Expr) (os : List Operand) (r : Replacing) (ys xs : List Value) (c : Core) (q : Chosen) → choose name (types_of os) subs ≡ Some q → AllFormed tests right ds base subs loose trees w (types_of os) → AllIn (types_in base) H.present (types_of os) xs → At tests base subs loose H c →
      (k : ParamsAsked tests right base subs loose H span q.signature ps os r) → AllGive tests right base subs loose H k.asked ys → FindsOwn (over_names tests ds base) span name q.number r.places ys xs c
  found_so H span name ps os r ys xs c q is formed_os in_os at k gives =
      let m = chose tests right ds base subs loose trees w c 0 (funcs_of ds) heads trees name xs (types_of os) q at.agrees.globals (outside_atoms base out) heads_are bodies (λ n. ap (slice_get trees) (itself_more n))
      (kinds_are tests right ds base out loose heads trees w s heads_are bodies H.present os xs in_os) (all_shaped tests right ds base out loose heads trees w s heads_are bodies (types_of os) formed_os) (head_formals tests right ds base out loose heads trees w s heads_are bodies) is in
      let i = head_is tests base m.func m.head m.judged in
      let po = k.gives m.func m.head ys xs c i m.signature_is at.agrees.globals gives in_os in
      record { func = m.func; is_found = m.found_so; params = po.params; params_are = po.params_are; tree_has = po.widths_are }

  -- the parameters in braces and the arguments, by both trees
  abbrev Finds : Span → List ℕ → ℕ → List ℕ → List Value × List Value → List Value × List Value → Core → Type 0
  Finds span name id widths v z c = FindsOwn (over_names tests ds base) span name id widths v.0 v.1 c

  abbrev trees_given : List Tree → List Tree → BareCore → Runs (List Value × List Value)
  trees_given ts us d = eval_all ts [] d (λ ys d1. eval_all us [] d1 (λ xs d2. Ret (ys, xs) d2))

  both_found : (H : Here) (span : Span) (i : Ident) (ps es : List Expr) (os : List Operand) (c : Core) (q : Chosen) (r : Replacing) → operands (map (found tests) es) H.scope ≡ Ok os → choose i.text (types_of os) H.scope.subs ≡ Some q → widths_rule span q.signature (map (found tests) ps) os H.scope ≡ Ok r → At tests base subs loose H c →
      Same tests right base subs loose H (Finds span i.text q.number r.places) (both_given ps es c) (trees_given r.trees (trees_in os) (erased c))
  both_found H span i ps es os c q r ops is widths a =
      let is2 : choose i.text (types_of os) subs ≡ Some q = subst (λ z. choose i.text (types_of os) z ≡ Some q) a.subs_are is in
      let formed_os = operands_formed tests right ds base subs loose trees w es H.scope os (scope_good H.present base H.scope.names c w a.agrees) (subst (FormedSubs tests right (types_in base) (well_declared base w)) (sym a.subs_are) s) ops in
      let shaped = all_shaped tests right ds base out loose heads trees w s heads_are bodies (types_of os) formed_os in
      let asks = params_asked tests right base subs loose H span q.signature ps os r (outside_atoms base out) (outside_over base out Never)
      (chosen_kinds tests right ds base out loose heads trees w s heads_are bodies i.text (types_of os) q shaped is2) shaped widths in
      all_same tests right base subs loose H (Finds span i.text q.number r.places) ps r.trees asks.asked [] c (λ ys c1. eval_all es [] c1 (λ xs c2. Ret (ys, xs) c2)) (λ ys d1. eval_all (trees_in os) [] d1 (λ xs d2. Ret (ys, xs) d2)) asks.asks a
      (λ ys c1 y a1. all_same tests right base subs loose H (Finds span i.text q.number r.places) es (trees_in os) (asked_of tests right base subs loose os) [] c1 (λ xs c2. Ret (ys, xs) c2) (λ xs d2. Ret (ys, xs) d2) (operands_asked tests right base subs loose H.scope es os ops) a1
      (λ xs c2 x a2. (refl, found_so H span i.text ps os r ys xs c2 q is2 formed_os (all_in tests right base subs loose H os xs x) a2 asks y)))

  module _ (all : (d : ℕ) → Meets (our tests base subs loose) (meaning (over_names tests ds base) d) (tree_meaning (program tests right ds base subs loose trees w) d)) where
    call_finds : (H : Here) (span : Span) (i : Ident) (ps es : List Expr) (os : List Operand) (c : Core) (q : Chosen) (r : Replacing) → routine_named i.text ≡ None → operands (map (found tests) es) H.scope ≡ Ok os → choose i.text (types_of os) H.scope.subs ≡ Some q → widths_rule span q.signature (map (found tests) ps) os H.scope ≡ Ok r →
        At tests base subs loose H c → CallFinds (over_names tests ds base) span i.text ps es (own q.number) r.places c
    call_finds H span i ps es os c q r none ops is widths a d h =
        gave (our tests base subs loose).halted (λ v c1. FindsCallee (over_names tests ds base) span i.text (own q.number) r.places v.0 v.1 c1) (Finds span i.text q.number r.places) (Throws tests right base subs loose H)
        (run (meaning (over_names tests ds base) d) (both_given ps es c) h) (run (tree_meaning (program tests right ds base subs loose trees w) d) (trees_given r.trees (trees_in os) (erased c)) h) (λ v z c1 f. (none, f))
        (twins_run (our tests base subs loose) (meaning (over_names tests ds base) d) (tree_meaning (program tests right ds base subs loose trees w) d) (all d) (Finds span i.text q.number r.places) (Throws tests right base subs loose H) (both_given ps es c) (trees_given r.trees (trees_in os) (erased c)) h
        (both_found H span i ps es os c q r ops is widths a))

    -- the trees of functions and of procedures
    own_finds : (H : Here) (S : Typed) (span : Span) (i : Ident) (ps es : List Expr) (os : List Operand) (c : Core) → routine_named i.text ≡ None → operands (map (found tests) es) H.scope ≡ Ok os → function_of tests span i (map (found tests) ps) os H.scope None ≡ Ok S → At tests base subs loose H c →
        ExprChosen (over_names tests ds base) (ex.Call span i ps es) S.tree c
    own_finds H S span i ps es os c none ops h a =
        let f = bind_ok (rules.chosen span i os H.scope.subs) _ S h in
        let q = f.value.signature in
        let T = bind_ok (found_or q.result T18 span) _ S f.then in
        let r = bind_ok (widths_rule span q (map (found tests) ps) os H.scope) _ S T.then in
        let by = replaced_by q.params r.value.given in
        let fit = then_ok (both_fit tests span q r.value.given os by) _ S r.then in
        let U = bind_ok (found_or (substitute by T.value) T20 span) _ S fit.then in
        let k = greater (greatest Pure (effects_of os)) q.class in
        let make : Note → Tree = call_tree (own f.value.number) r.value os in
        let ends = finish_is H.scope.class span (all_together Pure (effects_of os)) k U.value make S U.then in (
          note span U.value k,
          own f.value.number,
          r.value.places,
          trees_from r.value.trees,
          trees_of os,
          ap (λ (z : Typed). z.tree) (sym ends),
          call_finds H span i ps es os c f.value r.value none ops (found_ok (choose i.text (types_of os) H.scope.subs) T09 span f.value f.first) r.first a,
        )

    library_finds : (H : Here) (S : Typed) (span : Span) (i : Ident) (ps es : List Expr) (os : List Operand) (r : Routine) (c : Core) → routine_named i.text ≡ Some r → function_of tests span i (map (found tests) ps) os H.scope (Some r) ≡ Ok S → ExprChosen (over_names tests ds base) (ex.Call span i ps es) S.tree c
    library_finds H S span i ps es os r c name h =
        let t = then_ok (routine_taken span r os) _ S h in
        let n = then_ok (need (length (map (found tests) ps) == routine_params r) T11 span) _ S t.then in
        let v = bind_ok (widths_given (map (found tests) ps) H.scope) _ S n.then in
        let U : Ty = routine_type r (polys v.value.given) (types_of os) in
        let k = greater (greatest Pure (effects_of os)) Pure in
        let make : Note → Tree = call_tree (of_library r) v.value os in
        let ends = finish_is H.scope.class span (all_together Pure (effects_of os)) k U make S v.then in
        (note span U k, of_library r, v.value.places, trees_from v.value.trees, trees_of os, ap (λ (z : Typed). z.tree) (sym ends), λ d m. named (run (meaning (over_names tests ds base) d) (both_given ps es c) m))
      where
        named : {A : Type 0} (o : Outcome Core A) → Gave (λ v c1. routine_named i.text ≡ Some r) o
        named (Done x c1 m) = name
        named (Thrown x c1 m) = tt
        named (Halt e c1 m) = tt

    by_routine : (H : Here) (S : Typed) (span : Span) (i : Ident) (ps es : List Expr) (os : List Operand) (o : Option Routine) (c : Core) → routine_named i.text ≡ o → operands (map (found tests) es) H.scope ≡ Ok os → function_of tests span i (map (found tests) ps) os H.scope o ≡ Ok S → At tests base subs loose H c →
        ExprChosen (over_names tests ds base) (ex.Call span i ps es) S.tree c
    by_routine H S span i ps es os (Some r) c name ops h a = library_finds H S span i ps es os r c name h
    by_routine H S span i ps es os None c name ops h a = own_finds H S span i ps es os c name ops h a

    pub function_finds : (H : Here) (S : Typed) (span : Span) (i : Ident) (ps es : List Expr) (c : Core) → function_rule tests span i (map (found tests) ps) (map (found tests) es) H.scope ≡ Ok S → At tests base subs loose H c → ExprChosen (over_names tests ds base) (ex.Call span i ps es) S.tree c
    function_finds H S span i ps es c h a =
        let b = bind_ok (call_begun i (map (found tests) es) H.scope) _ S h in
        let g = bind_ok (operands (map (found tests) es) H.scope) _ b.value b.first in
        let n = then_ok (need (is_subprogram (standing_of i.text H.scope.names)) T02 i.span) (Ok g.value) b.value g.then in
        by_routine H S span i ps es b.value (routine_named i.text) c refl (g.first ∙ n.then) b.then a

    by_procedure : (j : StmtClaim) (span : Span) (i : Ident) (ps es : List Expr) (os : List Operand) (c : Core) (o : Option Routine) (p : Called) → routine_named i.text ≡ o → operands (map (found tests) es) j.body.scope ≡ Ok os → procedure_of tests span i (map (found tests) ps) os j.body.scope o ≡ Ok p → invoked span p j.body.scope.names ≡ j.done →
        At tests base subs loose (here tests right ds base subs loose trees w j) c → StmtChosen (over_names tests ds base) (Agrees base j.body.scope.names j.present) (st.Invoke span i ps es) j.done.act c
    by_procedure j span i ps es os c (Some r) p name ops h e a = err_ok _ p (then_ok (routine_taken span r os) _ p h).then
    by_procedure j span i ps es os c None p name ops h e a =
        let G = j.body.scope in
        let f = bind_ok (rules.chosen span i os G.subs) _ p h in
        let q = f.value.signature in
        let n = then_ok (need (is_absent q.result) T18 span) _ p f.then in
        let r = bind_ok (widths_rule span q (map (found tests) ps) os G) _ p n.then in
        let fit = then_ok (both_fit tests span q r.value.given os (replaced_by q.params r.value.given)) _ p r.then in
        let u = then_ok (need (all_together Pure (effects_of os)) T13 span) _ p fit.then in
        let v = then_ok (need (at_most (procedure_effect os q.class) G.class) T12 span) _ p u.then in
        let m : Called = rules.called (own f.value.number) r.value os (procedure_effect os q.class) in
        let done_is : invoked span m G.names ≡ j.done = ap (λ z. invoked span z G.names) (ok_ok m p v.then) ∙ e in (
          span,
          own f.value.number,
          r.value.places,
          trees_from r.value.trees,
          trees_of os,
          ap (λ (z : StmtDone). z.act) (sym done_is),
          call_finds (here tests right ds base subs loose trees w j) span i ps es os c f.value r.value name ops (found_ok (choose i.text (types_of os) G.subs) T09 span f.value f.first) r.first a,
        )

    pub procedure_finds : (j : StmtClaim) (span : Span) (i : Ident) (ps es : List Expr) (c : Core) → invoke_rule tests span i ps es j.body.scope ≡ Ok j.done → At tests base subs loose (here tests right ds base subs loose trees w j) c → StmtChosen (over_names tests ds base) (Agrees base j.body.scope.names j.present) (st.Invoke span i ps es) j.done.act c
    procedure_finds j span i ps es c h a =
        let G = j.body.scope in
        let p = bind_ok (procedure_rule tests span i (map (found tests) ps) (map (found tests) es) G) _ j.done h in
        let b = bind_ok (call_begun i (map (found tests) es) G) _ p.value p.first in
        let o = bind_ok (operands (map (found tests) es) G) _ b.value b.first in
        let n = then_ok (need (is_subprogram (standing_of i.text G.names)) T02 i.span) (Ok o.value) b.value o.then in
        by_procedure j span i ps es b.value c (routine_named i.text) p.value refl (o.first ∙ ap Ok (ok_ok o.value b.value n.then)) b.then (ok_ok (invoked span p.value G.names) j.done p.then) a
