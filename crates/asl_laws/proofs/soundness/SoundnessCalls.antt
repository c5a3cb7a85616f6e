-- Calls from outside, of subprograms without parameters: the arguments are the formals, and both the body and its typed tree run in a frame of their own.
use Rattle.std.proofs.Common.{◌≡◌, ℕ, ◌+◌, Bool, true, false, List, [], ◌∷◌, ◌++◌, Option, Some, None, Ok, refl, sym, ap, ◌∙◌, subst, map, arith, inl, inr}
use Rattle.std.specs.Prelude.{slice_get}
use Rattle.asl_syn.specs.declared.token.Span.{Span}
use Rattle.asl_syn.specs.declared.code.StaticCode.TheVariants.{T17}
use Rattle.asl_syn.specs.declared.tree.Param.{Param as WrittenParam}
use Rattle.asl_syn.specs.declared.tree.TypeExpr.{TypeExpr}
use Rattle.asl_syn.specs.declared.tree.Func.{Func}
use Rattle.asl_syn.specs.declared.tree.Decl.{Decl}
use Rattle.asl_rules.specs.declared.effect.Effect.{Effect}
use Rattle.asl_rules.specs.declared.effect.Effect.TheVariants.{Pure, Readonly, Writes}
use Rattle.asl_rules.specs.types.Effects.{at_most}
use Rattle.asl_rules.specs.declared.entry.Entry.{Entry as Asked}
use Rattle.asl_rules.specs.Faults.{need}
use Rattle.asl_rules.specs.Tests.{Tests, IsRight}
use Rattle.asl_rules.specs.types.Types.{Ty, Parts, no_part, part}
use Rattle.asl_rules.specs.types.Closed.{Assignment}
use Rattle.asl_rules.specs.values.Values.{Value, has}
use Rattle.asl_rules.specs.declarations.Scopes.{Entry, Signature, Param, next_atom}
use Rattle.asl_rules.specs.runs.Trees.{TreeFunc}
use Rattle.asl_rules.specs.expressions.Exprs.{written}
use Rattle.asl_rules.specs.statements.Acting.{Listed, in_order}
use Rattle.asl_rules.specs.statements.Stmts.{found_stmt}
use Rattle.asl_rules.specs.declarations.Declarations.{in_names}
use Rattle.asl_rules.specs.declarations.Programs.{Entries, body_scope, funcs_of, Head, params_free, formals_free, param_written, params_rule, formals_rule, result_rule, limit_typed, params_are_integers, limit_rule, with_formals, signature_rule, signatures_rule, signatures, may_end, body_of, tree_func, bodies_rule, origin, accepted}
use Rattle.asl_rules.specs.private.Belonging.{Belong}
use Rattle.asl_rules.specs.private.Agreement.{types_in, no_atoms, GlobalsMatch, Agrees}
use Rattle.asl_rules.specs.runs.States.{Binding, Core, entered, restored, resting}
use Rattle.asl_rules.specs.runs.Plans.{Good, lift}
use Rattle.asl_rules.specs.runs.Pures as pures
use Rattle.asl_rules.specs.runs.Pures.{known}
use Rattle.asl_rules.specs.runs.Forms.{in_frame}
use Rattle.asl_rules.specs.runs.StatementForms as plan
use Rattle.asl_rules.specs.types.Numbers.{present}
use Rattle.asl_rules.specs.runs.Evaluation.{Entering, under_written, result_at as keeps_at, params_bound, formals_bound, entering, run_body, run_with, call_of}
use Rattle.asl_rules.specs.private.TypedMeaning as bare
use Rattle.asl_rules.specs.private.TypedMeaning.{BareCore, Runs, acts_of, result_seen, formals_seen, call_func, tree_call}
use Rattle.asl_rules.specs.private.Erasure.{erased}
use Rattle.asl_laws.specs.Soundness.{IsCall}
use Rattle.asl_rules.proofs.basics.Inversions.{ok_ok, bind_ok, then_ok, need_ok}
use Rattle.asl_rules.proofs.basics.Tests.{no}
use Rattle.asl_rules.proofs.scopes.Naming.{WellNamed, well_declared}
use Rattle.asl_laws.proofs.scopes.WellTyped.{FormedSubs}
use Rattle.asl_laws.proofs.scopes.WellTyped as typing
use Rattle.asl_laws.proofs.widths.TypesOver.{Never, Over, AllOver, over_more, all_more}
use Rattle.asl_laws.proofs.scopes.OverScope.{IsAtomOf}
use Rattle.asl_laws.proofs.scopes.ScopesOver.{never_moved}
use Rattle.asl_laws.proofs.scopes.NamesOutside.{NamesOutside, outside_over, outside_atoms}
use Rattle.asl_laws.proofs.scopes.BodiesOver.{signature_over, signatures_over}
use Rattle.asl_laws.proofs.scopes.ScopesKept.{ruled, head_scope}
use Rattle.asl_laws.proofs.expressions.Twins.{twins_weaker}
use Rattle.asl_laws.proofs.expressions.Claims.{Here, FormedResult, result_at, our, around_of}
use Rattle.asl_laws.proofs.expressions.TreePlans.{Same, Throws, append_nil}
use Rattle.asl_laws.proofs.expressions.ExprForms.{env, program}
use Rattle.asl_laws.proofs.scopes.Moved.{counted_fixed}
use Rattle.asl_laws.proofs.widths.PresentNumbers.{present_agree}
use Rattle.asl_laws.proofs.values.PresentTypes.{type_present}
use Rattle.asl_laws.proofs.calls.OwnCalls.{seen_by, BodyOk, body_same}
use Rattle.asl_laws.proofs.calls.OwnFrames.{integers_of, Follows, follows, HasAll, formals_good}
use Rattle.asl_laws.proofs.soundness.SoundnessFacts.{numbered}
use Rattle.asl_laws.proofs.soundness.SoundnessEnds.{CallSame}
use Rattle.asl_laws.proofs.soundness.SoundnessHeads.{head_formed}
use Rattle.asl_laws.proofs.calls.OwnStanding.{itself_below}

-- ---- without parameters

some_in : {A : Type 0} → List A → Bool
some_in [] = false
some_in (x ∷ xs) = true

some_snoc : {A : Type 0} (xs : List A) (x : A) → some_in (xs ++ x ∷ []) ≡ true
unfolding some_in
some_snoc [] x = refl
some_snoc (y ∷ xs) x = refl

none_in : {A B : Type 0} (xs : List A) → xs ≡ [] → some_in xs ≡ true → B
unfolding some_in
none_in xs e h = no (sym (ap some_in e) ∙ h)

module _ (t : Tests) where
  params_grow : (ps : List WrittenParam) (before : List Param) (names : List Entry) (r : List Param × List Entry) → params_rule t ps before names ≡ Ok r → some_in before ≡ true → some_in r.0 ≡ true
  params_grow [] before names r h k = subst (λ (z : List Param × List Entry). some_in z.0 ≡ true) (ok_ok (before, names) r h) k
  params_grow (p ∷ ps) before names r h k =
      let v = bind_ok (param_written t p.ty names) _ r h in
      params_grow ps (before ++ record { atom = next_atom names; ty = v.value } ∷ []) _ r v.then (some_snoc before (record { atom = next_atom names; ty = v.value }))

  params_none : (ps : List WrittenParam) (names : List Entry) (r : List Param × List Entry) → params_rule t ps [] names ≡ Ok r → r.0 ≡ [] → ps ≡ []
  params_none [] names r h e = refl
  params_none (p ∷ ps) names r h e =
      let v = bind_ok (param_written t p.ty names) _ r h in
      none_in r.0 e (params_grow ps (record { atom = next_atom names; ty = v.value } ∷ []) _ r v.then (some_snoc [] (record { atom = next_atom names; ty = v.value })))

  -- what the rules say of a subprogram without parameters
  record Alone (base : List Entry) (f : Func) (h : Head) : Type 0 where
    none : f.params ≡ []
    free : formals_free f.formals [] base ≡ Ok tt
    formals : formals_rule t f.formals base ≡ Ok h.signature.formals
    result : result_rule t f.result base ≡ Ok h.signature.result
    names : with_formals f.formals h.signature.formals base ≡ h.names

  alone : (base : List Entry) (f : Func) (h : Head) → signature_rule t base f ≡ Ok h → h.signature.params ≡ [] → Alone base f h
  alone base f h k p =
      let a = bind_ok (params_free f.params [] base) _ h k in
      let b = then_ok (formals_free f.formals a.value base) _ h a.then in
      let c = bind_ok (params_rule t f.params [] base) _ h b.then in
      let d = bind_ok (formals_rule t f.formals c.value.1) _ h c.then in
      let e = bind_ok (result_rule t f.result c.value.1) _ h d.then in
      let g = bind_ok (limit_typed t f.limit base) _ h e.then in
      let i = then_ok (params_are_integers t f.params c.value.0) _ h g.then in
      let l = bind_ok (limit_rule t f.limit g.value base) _ h i.then in
      let is = ok_ok _ h l.then in
      let none : f.params ≡ [] = params_none f.params base c.value c.first (ap (λ (z : Head). z.signature.params) is ∙ p) in
      let taken : [] ≡ a.value = ok_ok [] a.value (subst (λ ps. params_free ps [] base ≡ Ok a.value) none a.first) in
      let same : base ≡ c.value.1 = ap (λ (z : List Param × List Entry). z.1) (ok_ok ([], base) c.value (subst (λ ps. params_rule t ps [] base ≡ Ok c.value) none c.first)) in
      let formals : d.value ≡ h.signature.formals = ap (λ (z : Head). z.signature.formals) is in
      record {
        none = none;
        free = subst (λ z. formals_free f.formals z base ≡ Ok tt) (sym taken) b.first;
        formals = subst (λ z. formals_rule t f.formals z ≡ Ok d.value) (sym same) d.first ∙ ap (λ z. Ok z) formals;
        result = subst (λ z. result_rule t f.result z ≡ Ok e.value) (sym same) e.first ∙ ap (λ z. Ok z) (ap (λ (z : Head). z.signature.result) is);
        names = ap (λ z. with_formals f.formals z base) (sym formals) ∙ ap (λ z. with_formals f.formals d.value z) same ∙ ap (λ (z : Head). z.names) is;
      }

-- ---- types without atoms

formed_claim : (tests : Tests) (right : IsRight tests) (base : List Entry) (w : WellNamed base) (o : Option Ty) → typing.FormedResult tests right (types_in base) (well_declared base w) o → FormedResult (types_in base) o
formed_claim tests right base w None h = tt
formed_claim tests right base w (Some T) h = h

none_never : (ps : List Param) → ps ≡ [] → (n : ℕ) → IsAtomOf ps n → Never n
none_never ps e n h = absurd (subst (λ z. IsAtomOf z n) e h)

result_same : (a b : Assignment) (o : Option Ty) → ((T : Ty) → o ≡ Some T → Over Never T) → result_at a o ≡ result_at b o
result_same a b None h = refl
result_same a b (Some T) h = ap Some (never_moved a b T (h T refl))

has_all : (tests : Tests) (right : IsRight tests) (ds : List Decl) (base : List Entry) (subs : List Signature) (loose : Bool) (funcs : List TreeFunc) (w : WellNamed base) (a b : Assignment) (xs : List Value) (Ts : Parts) → AllOver Never Ts → Belong (types_in base) a xs Ts → HasAll tests right ds base subs loose funcs w b Ts xs
has_all tests right ds base subs loose funcs w a b [] no_part o h = tt
has_all tests right ds base subs loose funcs w a b [] (part T Ts) o h = absurd h
has_all tests right ds base subs loose funcs w a b (x ∷ xs) no_part o h = absurd h
has_all tests right ds base subs loose funcs w a b (x ∷ xs) (part T Ts) o h = (subst (λ C. has x C ≡ true) (never_moved a b T o.0) h.0.0, h.0.1, has_all tests right ds base subs loose funcs w a b xs Ts o.1 h.1)

writes_most : (k : Effect) → at_most k Writes ≡ true
writes_most Pure = refl
writes_most Readonly = refl
writes_most Writes = refl

zero_more : (n : ℕ) → n + 0 ≡ n
zero_more n = omega arith

abbrev states : Core → Core → Entering
states p i = record { params = p; inner = i }

module _ (tests : Tests) (right : IsRight tests) (ds : List Decl) (base : List Entry) (out : NamesOutside base) (asked : Asked) (main : Entries) (loose : Bool) (heads : List Head) (trees : List TreeFunc) (w : WellNamed base) (s : FormedSubs tests right (types_in base) (well_declared base w) (signatures heads))
    (heads_are : signatures_rule tests base (funcs_of ds) ≡ Ok heads) (bodies : bodies_rule tests (signatures heads) heads ≡ Ok trees) where
  abbrev subs : List Signature
  subs = signatures heads

  -- where a call from outside stands, of whatever class it is
  abbrev outer : Here
  outer = record { scope = record { names = base; subs = subs; class = Writes }; present = no_atoms; around = around_of (resting []) }

  abbrev Keeps : Option Value → Option Value → Core → Type 0
  Keeps x y c = (x ≡ y) × GlobalsMatch base c.globals

  resting_so : (globals : List Binding) → GlobalsMatch base globals → Agrees base base no_atoms (resting globals)
  resting_so globals m = record { locals = []; names_are = sym (append_nil base); fresh = tt; plain = tt; frame = tt; globals = m; handled = tt; callers = tt }

  entered_so : (a : Assignment) (id : ℕ) (globals : List Binding) → GlobalsMatch base globals → Agrees base base a (entered id (resting globals))
  entered_so a id globals m = record {
    locals = [];
    names_are = sym (append_nil base);
    fresh = tt;
    plain = tt;
    frame = tt;
    globals = m;
    handled = tt;
    callers = (record { locals = []; present = no_atoms; fresh = tt; plain = tt; frame = tt; handled = tt }, tt);
  }

  -- the result of a body as it is written
  keeps_so : (span : Span) (a : Assignment) (c : Core) (o : Option TypeExpr) (T : Option Ty) → result_rule tests o base ≡ Ok T → Agrees base base a c → keeps_at (env tests right ds base subs loose trees w) span (present c) o ≡ seen_by span a T
  keeps_so span a c None T h k = ap (seen_by span a) (ok_ok None T h)
  keeps_so span a c (Some t) T h k =
      let v = bind_ok (written tests t false (in_names base)) _ T h in
      ap (λ z. Some (under_written span z)) (type_present tests right ds base subs loose trees w (in_names base) a c t false v.value (counted_fixed Never base (outside_over base out Never).each) k v.first)
      ∙ ap (seen_by span a) (ok_ok (Some v.value.ty) T v.then)

  call_kept : (id : ℕ) (args : List Value) (globals : List Binding) (h : Head) (l : Listed) → slice_get subs id ≡ Some h.signature → signature_rule tests base h.func ≡ Ok h → h.signature.params ≡ [] → in_order (map (found_stmt tests) h.func.body) Pure (body_of subs h) ≡ Ok l → may_end h.signature.result h.func ≡ true →
      Belong (types_in base) no_atoms args h.signature.formals → GlobalsMatch base globals →
      Same tests right base subs loose outer Keeps (run_with (env tests right ds base subs loose trees w) h.func.name.span id h.func [] args (resting globals)) (bare.run_with h.func.name.span id (tree_func h l.acts) [] args (erased (resting globals)))
  call_kept id args globals h l is k p j e b m =
      let E = env tests right ds base subs loose trees w in
      let f = h.func in
      let span = f.name.span in
      let c0 = resting globals in
      let c1 = entered id c0 in
      let a : Assignment = integers_of args in
      let n = alone tests base f h k p in
      let over = signature_over tests base f h (outside_over base out Never) k in
      let formals_over : AllOver Never h.signature.formals = all_more (IsAtomOf h.signature.params) Never (none_never h.signature.params p) h.signature.formals over.formals in
      let result_over : (T : Ty) → h.signature.result ≡ Some T → Over Never T = λ T q. over_more (IsAtomOf h.signature.params) Never (none_never h.signature.params p) T (over.result T q) in
      let begun = entered_so a id globals m in
      let agree = present_agree a base (in_names base) c1 (counted_fixed Never base (outside_over base out Never).each) begun in
      let bound = formals_good tests right ds base subs loose trees w span base (present c1) a c1 agree begun f.formals h.signature.formals args base [] c1 n.formals n.free (λ name q r. q)
      (subst (λ z. Follows a z args) (sym (outside_atoms base out)) (follows a 0 args (λ i. ap a (zero_more i)))) (has_all tests right ds base subs loose trees w no_atoms a args h.signature.formals formals_over b) begun in
      let ok : BodyOk tests right ds base subs loose trees w h l a = record {
        judged = j;
        ends = e;
        formed = formed_claim tests right base w h.signature.result (head_formed tests right (types_in base) (well_declared base w) base f h w.good k);
        scope_good = head_scope tests base out f h _ refl (signatures_over tests base (funcs_of ds) heads (outside_over base out Never) heads_are) k;
        result_is = λ d q. result_same d a h.signature.result result_over;
      } in
      let states_are : entering E span id f [] args c0 ≡ Good (states c1 bound.state) =
      ap (λ ps. pures.◌>>=◌ (params_bound E span ps [] c1) (λ c2. pures.◌>>=◌ (formals_bound E span (present c2) f.formals args c2) (λ c3. Good (states c2 c3)))) n.none
      ∙ ap (λ r. pures.◌>>=◌ r (λ c3. Good (states c1 c3))) bound.is in
      let after : List Value → Runs (Option Value) = λ zs. in_frame span (result_seen h.signature.result) (bare.restored (erased c0)) (plan.in_order (acts_of l.acts) (bare.entered id zs (erased c0))) in
      subst (λ r. Same tests right base subs loose outer Keeps (lift r c0 (run_body E f c0)) (bare.run_with span id (tree_func h l.acts) [] args (erased c0))) (sym states_are)
      (subst (λ q. Same tests right base subs loose outer Keeps (in_frame span q (restored c0) (plan.in_order f.body bound.state)) (bare.run_with span id (tree_func h l.acts) [] args (erased c0))) (sym (keeps_so span a c1 f.result h.signature.result n.result begun))
      (subst (λ r. Same tests right base subs loose outer Keeps (in_frame span (seen_by span a h.signature.result) (restored c0) (plan.in_order f.body bound.state)) (lift r (erased c0) after)) (sym bound.seen_are)
      (subst (λ d. Same tests right base subs loose outer Keeps (in_frame span (seen_by span a h.signature.result) (restored c0) (plan.in_order f.body bound.state)) (in_frame span (result_seen h.signature.result) (bare.restored (erased c0)) (plan.in_order (acts_of l.acts) d))) bound.erased_so
      (body_same tests right ds base subs loose trees w true outer Keeps h l a (around_of c1) span c0 bound.state s ok (writes_most h.signature.class) (inr (h.signature, is, refl, refl))
      (record { agrees = subst (λ ns. Agrees base ns a bound.state) n.names bound.agrees; subs_are = refl; around_is = bound.around_is; stands = inr ((h.signature, is, itself_below h.signature.class), inl (refl, refl, refl)); counted = inr (ruled tests (body_scope (signatures heads) h) ok.scope_good) })
      (record { agrees = resting_so globals m; subs_are = refl; around_is = refl; stands = inl refl; counted = inl refl }) (λ r c g i. (refl, i.agrees.globals))))))

  -- a call from outside
  pub call_same : (id : ℕ) (args : List Value) (globals : List Binding) → IsCall (accepted asked main subs trees base) id args globals → CallSame tests right ds base asked main subs trees w s loose id args globals
  call_same id args globals k =
      let E = env tests right ds base subs loose trees w in
      let c0 = resting globals in
      let m = numbered tests base subs (funcs_of ds) heads trees id k.signature heads_are bodies k.is in
      let h = m.head in
      let l = bind_ok (in_order (map (found_stmt tests) h.func.body) Pure (body_of subs h)) _ m.tree m.body in
      let d = then_ok (need (may_end h.signature.result h.func) T17 h.func.name.span) (Ok (tree_func h l.value.acts)) m.tree l.then in
      let tree_is : slice_get trees id ≡ Some (tree_func h l.value.acts) = m.is_tree ∙ ap Some (sym (ok_ok (tree_func h l.value.acts) m.tree d.then)) in
      let same = call_kept id args globals h l.value (k.is ∙ ap Some (sym m.is_signature)) m.is_head (ap (λ (z : Signature). z.params) m.is_signature ∙ k.no_params) l.first (need_ok (may_end h.signature.result h.func) T17 h.func.name.span tt d.first)
      (subst (λ (z : Signature). Belong (types_in base) no_atoms args z.formals) (sym m.is_signature) k.args_belong) k.globals_match in
      twins_weaker (our tests base subs loose) Keeps Keeps (Throws tests right base subs loose outer) (λ x c. GlobalsMatch base c.globals) (λ x y c q. q) (λ x c q. q.agrees.globals) (call_of E id args c0) (tree_call (program tests right ds base subs loose trees w) id args (erased c0))
      (subst (λ o. Same tests right base subs loose outer Keeps (lift (known origin o) c0 (λ f. run_with E f.name.span id f [] args c0)) (tree_call (program tests right ds base subs loose trees w) id args (erased c0))) (sym m.is_func)
      (subst (λ o. Same tests right base subs loose outer Keeps (run_with E h.func.name.span id h.func [] args c0) (call_func id o args (erased c0))) (sym tree_is) same))
