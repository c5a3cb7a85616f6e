-- A run changes values alone: the globals keep their names, what they are stored under and whether they can be assigned, wherever it ends; and between two
-- calls there is no frame, and no subprogram is active.
use Rattle.std.proofs.Common.{◌≡◌, ℕ, Bool, true, false, cond, List, [], ◌∷◌, ◌++◌, Option, Some, None, option_map, refl, sym, ap, subst, map}
use Rattle.std.specs.Prelude.{pos, slice_get}
use Rattle.std.specs.Str.{bytes_eq}
use Rattle.asl_syn.specs.declared.token.Span.{Span}
use Rattle.asl_syn.specs.declared.tree.Expr.{Expr, out-Expr}
use Rattle.asl_syn.specs.declared.tree.Bitfield.TheOpen as ex
use Rattle.asl_syn.specs.declared.tree.Ident.{Ident}
use Rattle.asl_syn.specs.declared.tree.TypeExpr.{TypeExpr}
use Rattle.asl_syn.specs.declared.tree.Binder.{Binder}
use Rattle.asl_syn.specs.declared.tree.Binder.TheVariants.{Bound, Unbound}
use Rattle.asl_syn.specs.declared.tree.Bind.{Bind}
use Rattle.asl_syn.specs.declared.tree.Bind.TheVariants.{Single, Several}
use Rattle.asl_syn.specs.declared.tree.Target.{Target, roll-Target, fold-roll-Target, map-Target, ind-Target}
use Rattle.asl_syn.specs.declared.tree.Target.TheOpen as tg
use Rattle.asl_syn.specs.declared.tree.Alternative.{Alternative}
use Rattle.asl_syn.specs.declared.tree.Catcher.{Catcher, out-Catcher}
use Rattle.asl_syn.specs.declared.tree.Otherwise.{Otherwise}
use Rattle.asl_syn.specs.declared.tree.ElseIf.{ElseIf}
use Rattle.asl_syn.specs.declared.tree.Stmt.{Stmt, out-Stmt}
use Rattle.asl_syn.specs.declared.tree.Alternative.TheOpen as st
use Rattle.asl_syn.specs.declared.tree.Formal.{Formal}
use Rattle.asl_syn.specs.declared.tree.Param.{Param}
use Rattle.asl_syn.specs.declared.tree.Func.{Func}
use Rattle.asl_syn.specs.Layers.{ExprLayer, StmtLayer}
use Rattle.asl_rules.specs.types.Closed.{Closed}
use Rattle.asl_rules.specs.declarations.Programs.{Environment, funcs_of, origin}
use Rattle.asl_rules.specs.values.Values.{Value, Exit, Normal, Returned}
use Rattle.asl_rules.specs.runs.States.{Under, of_type, kept, Binding, Core, entered, restored, resting}
use Rattle.asl_rules.specs.types.Numbers.{Numbers, present, outside}
use Rattle.asl_rules.specs.declarations.Routines.{Routine, routine_named}
use Rattle.asl_rules.specs.values.Library.{routine_value}
use Rattle.asl_rules.specs.values.Structures.{parts}
use Rattle.asl_rules.specs.runs.Pures.{◌>>=◌, there, known, found_type}
use Rattle.asl_rules.specs.runs.Plans.{Meter, Stuck, Immutable, Outcome, Done, Thrown, Halt, Ret, Stop, Meaning, handle, run, Pure, Good, Bad, lift}
use Rattle.asl_rules.specs.runs.Forms.{Keeps as Returns, returned, at_end, call, unless_full, activations, function_gives, procedure_gives}
use Rattle.asl_rules.specs.values.Operators.{less}
use Rattle.asl_rules.specs.runs.StatementForms.{in_order, try_list}
use Rattle.asl_rules.specs.runs.Evaluation.{put_value, map_pure, stored_in, first_store, store, held, declared, declare, declare_each, bound_to, stored_under, unders_or, declare_all, declare_first, sized_at, param_value, param_under, type_under, type_at, types_of, params_bound, formals_bound, Entering, entering, run_body, run_with, result_at, limit_of, params_of, overload, Numbered, call_one, call_named, called, expr_node, frames, otherwise_in, catch_layer, catch_in, Step, updated, store_at, Stores, Assigning, assign_each, assigning_layer, assigned, stmt_node, nodes, meaning, call_of}
use Rattle.asl_rules.specs.runs.Machines.{most_open, run_of}
use Rattle.asl_laws.proofs.runs.PlansKeep.{EndsIn, Keeps, FormsKeep, run_keeps, nodes_keep, Makes, AllMake, AllMade, NamedMakes, lift_keeps, once_keeps, choose_keeps, behind_keeps, behind_all_keeps, behind_more_keeps, operation_keeps, conditional_keeps, element_keeps, tuple_keeps, call_keeps, function_keeps, procedure_keeps, routine_keeps, frame_keeps, list_keeps, branch_keeps, branches_keep, assertion_keeps, value_keeps, values_keep, assignment_keeps, return_keeps, items_keep, case_keeps, for_keeps, while_keeps, repeat_keeps, throw_keeps, try_keeps}

-- ---- the globals but for their values

-- one list differs from another in its values alone
abbrev pub SameBut : List Binding → List Binding → Type 0
SameBut [] [] = Unit {0}
SameBut [] (b ∷ bs) = ⊥
SameBut (a ∷ rest) [] = ⊥
SameBut (a ∷ rest) (b ∷ bs) = (b ≡ record a { value = b.value }) × SameBut rest bs

pub same_self : (bs : List Binding) → SameBut bs bs
same_self [] = tt
same_self (b ∷ bs) = (refl, same_self bs)

-- where it is stored
StoresSame : List Binding → Option (Pure (List Binding)) → Type 0
StoresSame old None = Unit {0}
StoresSame old (Some (Good cs)) = SameBut old cs
StoresSame old (Some (Bad e)) = Unit {0}

kept_same : (span : Span) (a b : Binding) (rest bs : List Binding) (o : Option Value) → b ≡ record a { value = b.value } → SameBut rest bs →
    StoresSame (a ∷ rest) (Some (map_pure (λ b1. b1 ∷ bs) (there span o >>= λ y. Good (record b { value = y }))))
unfolding StoresSame
kept_same span a b rest bs (Some y) e s = (ap (λ (z : Binding). record z { value = y }) e, s)
kept_same span a b rest bs None e s = tt

put_same : (m : Bool) (span : Span) (a b : Binding) (rest bs : List Binding) (o : Option Value) → b ≡ record a { value = b.value } → SameBut rest bs →
    StoresSame (a ∷ rest) (Some (map_pure (λ b1. b1 ∷ bs) (cond m (there span o >>= λ y. Good (record b { value = y })) (Bad (Stuck Immutable span)))))
unfolding StoresSame
put_same true span a b rest bs o e s = kept_same span a b rest bs o e s
put_same false span a b rest bs o e s = tt

later_same : (a b : Binding) (rest : List Binding) (r : Option (Pure (List Binding))) → b ≡ record a { value = b.value } → StoresSame rest r → StoresSame (a ∷ rest) (option_map (map_pure (λ cs. b ∷ cs)) r)
unfolding StoresSame
later_same a b rest None e s = tt
later_same a b rest (Some (Good cs)) e s = (e, s)
later_same a b rest (Some (Bad f)) e s = tt

one_same : (d : Bool) (span : Span) (x : Value) (a b : Binding) (rest bs : List Binding) (r : Option (Pure (List Binding))) → b ≡ record a { value = b.value } → SameBut rest bs → StoresSame rest r →
    StoresSame (a ∷ rest) (cond d (Some (map_pure (λ b1. b1 ∷ bs) (put_value span x b))) (option_map (map_pure (λ cs. b ∷ cs)) r))
one_same true span x a b rest bs r e s t = put_same b.is_mutable span a b rest bs (kept b.under x) e s
one_same false span x a b rest bs r e s t = later_same a b rest r e t

stored_same : (span : Span) (name : List ℕ) (x : Value) (old bs : List Binding) → SameBut old bs → StoresSame old (stored_in span name x bs)
unfolding StoresSame
stored_same span name x [] [] s = tt
stored_same span name x [] (b ∷ bs) s = absurd s
stored_same span name x (a ∷ rest) [] s = absurd s
stored_same span name x (a ∷ rest) (b ∷ bs) s = one_same (bytes_eq b.name name) span x a b rest bs (stored_in span name x bs) s.0 s.1 (stored_same span name x rest bs s.1)

module _ (old : List Binding) where
  -- the state has these globals but for their values
  abbrev pub Kept : Core → Type 0
  Kept c = SameBut old c.globals

  bind_makes : {A : Type 0} (r : Pure A) (g : A → Pure Core) → ((x : A) → Makes Kept (g x)) → Makes Kept (r >>= g)
  bind_makes (Good x) g k = k x
  bind_makes (Bad e) g k = tt

  made_makes : (r : Pure Core) (g : Core → Pure Core) → Makes Kept r → ((c : Core) → Kept c → Makes Kept (g c)) → Makes Kept (r >>= g)
  made_makes (Good c) g p k = k c p
  made_makes (Bad e) g p k = tt

  -- ---- declarations

  declare_makes : (span : Span) (name : List ℕ) (m : Bool) (o : Option Under) (x : Value) (c : Core) → Kept c → Makes Kept (declare span name m o x c)
  declare_makes span name m o x c p =
      bind_makes (found_type span o) (λ u. there span (kept u x) >>= λ y. Good (declared name y u m c)) (λ u. bind_makes (there span (kept u x)) (λ y. Good (declared name y u m c)) (λ y. p))

  each_makes : (span : Span) (bs : List Binder) (m : Bool) (us : List Under) (xs : List Value) (c : Core) → Kept c → Makes Kept (declare_each span bs m us xs c)
  each_makes span [] m [] [] c p = p
  each_makes span [] m [] (x ∷ xs) c p = tt
  each_makes span [] m (u ∷ us) xs c p = tt
  each_makes span (Bound i ∷ bs) m [] xs c p = tt
  each_makes span (Bound i ∷ bs) m (u ∷ us) [] c p = tt
  each_makes span (Bound i ∷ bs) m (u ∷ us) (x ∷ xs) c p = made_makes (declare span i.text m (Some u) x c) (λ c1. declare_each span bs m us xs c1) (declare_makes span i.text m (Some u) x c p) (λ c1 p1. each_makes span bs m us xs c1 p1)
  each_makes span (Unbound at ∷ bs) m [] xs c p = tt
  each_makes span (Unbound at ∷ bs) m (u ∷ us) [] c p = tt
  each_makes span (Unbound at ∷ bs) m (u ∷ us) (x ∷ xs) c p = each_makes span bs m us xs c p

  bound_makes : (env : Environment) (span : Span) (b : Bind) (m : Bool) (t : Option TypeExpr) (x : Value) (c : Core) → Kept c → Makes Kept (bound_to env span b m t x c)
  bound_makes env span (Single (Bound i)) m t x c p = declare_makes span i.text m (stored_under env c t x) x c p
  bound_makes env span (Single (Unbound at)) m t x c p = p
  bound_makes env span (Several at bs) m t x c p =
      bind_makes (unders_or span (stored_under env c t x)) (λ us. parts span x >>= λ xs. declare_each span bs m us xs c) (λ us. bind_makes (parts span x) (λ xs. declare_each span bs m us xs c) (λ xs. each_makes span bs m us xs c p))

  all_kept : (is : List Ident) (T : Closed) (x : Value) (c : Core) → Kept c → Kept (declare_all is T x c)
  all_kept [] T x c p = p
  all_kept (i ∷ is) T x c p = all_kept is T x (declared i.text x (of_type T) true c) p

  first_makes : (env : Environment) (span : Span) (is : List Ident) (t : TypeExpr) (zs : List Value) (c : Core) → Kept c → Makes Kept (declare_first env span is t zs c)
  first_makes env span is t zs c p = bind_makes (found_type span (sized_at env t zs)) (λ s. s.first >>= λ x. Good (declare_all is s.type_is x c)) (λ s. bind_makes s.first (λ x. Good (declare_all is s.type_is x c)) (λ x. all_kept is s.type_is x c p))

  -- ---- assignments

  place_makes : (span : Span) (c : Core) (r q : Option (Pure (List Binding))) → Kept c → StoresSame old q → Makes Kept (first_store span (λ bs. record c { frame = bs }) (λ bs. record c { globals = bs }) r q)
  unfolding StoresSame
  place_makes span c (Some (Good bs)) q p s = p
  place_makes span c (Some (Bad e)) q p s = tt
  place_makes span c None (Some (Good bs)) p s = s
  place_makes span c None (Some (Bad e)) p s = tt
  place_makes span c None None p s = tt

  store_makes : (env : Environment) (i : Ident) (y : Value) (ss : List Step) (c : Core) → Kept c → Makes Kept (store_at env i y ss c)
  store_makes env i y ss c p =
      bind_makes (held i.span i.text c) (λ x. updated env i.span ss y x >>= λ z. store i.span i.text z c) (λ x. bind_makes (updated env i.span ss y x) (λ z. store i.span i.text z c)
      (λ z. place_makes i.span c (stored_in i.span i.text z c.frame) (stored_in i.span i.text z c.globals) p (stored_same i.span i.text z old c.globals p)))

  abbrev AssignsWell : Assigning → Type 0
  AssignsWell t = (env : Environment) (span : Span) (x : Value) → AllMade Kept (t env span x)

  abbrev AllAssign : List Assigning → Type 0
  AllAssign [] = Unit {0}
  AllAssign (t ∷ ts) = AssignsWell t × AllAssign ts

  join_make : (ps qs : Stores) → AllMake Kept ps → AllMake Kept qs → AllMake Kept (ps ++ qs)
  join_make [] qs p q = q
  join_make (s ∷ ps) qs p q = (p.0, join_make ps qs p.1 q)

  then_made : (r q : Pure Stores) → AllMade Kept r → AllMade Kept q → AllMade Kept (r >>= λ ps. q >>= λ qs. Good (ps ++ qs))
  then_made (Good ps) (Good qs) p q = join_make ps qs p q
  then_made (Good ps) (Bad e) p q = tt
  then_made (Bad e) q p k = tt

  each_made : (ts : List Assigning) (env : Environment) (span : Span) (xs : List Value) → AllAssign ts → AllMade Kept (assign_each ts env span xs)
  each_made [] env span [] a = tt
  each_made [] env span (x ∷ xs) a = tt
  each_made (t ∷ ts) env span [] a = tt
  each_made (t ∷ ts) env span (x ∷ xs) a = then_made (t env span x) (assign_each ts env span xs) (a.0 env span x) (each_made ts env span xs a.1)

  parts_made : (r : Pure (List Value)) (g : List Value → Pure Stores) → ((xs : List Value) → AllMade Kept (g xs)) → AllMade Kept (r >>= g)
  parts_made (Good xs) g k = k xs
  parts_made (Bad e) g k = tt

  TargetGood : Target → Type 0
  TargetGood t = AssignsWell (assigned t)

  abbrev Below : Type 0
  Below = tg.Target-F ((t : Target) × TargetGood t)

  targets_assign : (ts : List ((t : Target) × TargetGood t)) → AllAssign (map assigned (map (λ t. t.0) ts))
  unfolding TargetGood
  targets_assign [] = tt
  targets_assign (t ∷ ts) = (t.1, targets_assign ts)

  layer_assigns : (y : Below) → AssignsWell (assigning_layer (map-Target Target Assigning assigned (map-Target ((t : Target) × TargetGood t) Target (λ t. t.0) y)))
  layer_assigns (tg.Discarded at) env span x = tt
  layer_assigns (tg.Place at i xs) env span x = ((λ ns c p. store_makes env i x ns c p), tt)
  layer_assigns (tg.Targets at ts) env span x =
      parts_made (parts span x) (λ xs. assign_each (map assigned (map (λ t. t.0) ts)) env span xs) (λ xs. each_made (map assigned (map (λ t. t.0) ts)) env span xs (targets_assign ts))

  target_step : (l : tg.Target-F Target) (y : Below) → map-Target ((t : Target) × TargetGood t) Target (λ t. t.0) y ≡ l → TargetGood (roll-Target l)
  unfolding TargetGood
  target_step l y is env span x =
      subst (λ (z : Assigning). AllMade Kept (z env span x)) (sym (fold-roll-Target Assigning assigning_layer l))
      (subst (λ z. AllMade Kept (assigning_layer (map-Target Target Assigning assigned z) env span x)) is (layer_assigns y env span x))

  target_good : (t : Target) → TargetGood t
  target_good = ind-Target TargetGood target_step

  -- ---- calls

  -- a body begins in a state that keeps the globals
  Enters : Pure Entering → Type 0
  Enters (Good e) = Kept e.inner
  Enters (Bad e) = Unit {0}

  params_make : (env : Environment) (span : Span) (ps : List Param) (xs : List Value) (c : Core) → Kept c → Makes Kept (params_bound env span ps xs c)
  params_make env span [] [] c p = p
  params_make env span [] (x ∷ xs) c p = tt
  params_make env span (q ∷ ps) [] c p = tt
  params_make env span (q ∷ ps) (x ∷ xs) c p = bind_makes (there span (param_value q.ty x)) (λ y. declare span q.name.text false (param_under env c q.ty y) y c >>= λ c1. params_bound env span ps xs c1)
      (λ y. made_makes (declare span q.name.text false (param_under env c q.ty y) y c) (λ c1. params_bound env span ps xs c1) (declare_makes span q.name.text false (param_under env c q.ty y) y c p) (λ c1 p1. params_make env span ps xs c1 p1))

  formals_make : (env : Environment) (span : Span) (f : Numbers) (gs : List Formal) (xs : List Value) (c : Core) → Kept c → Makes Kept (formals_bound env span f gs xs c)
  formals_make env span f [] [] c p = p
  formals_make env span f [] (x ∷ xs) c p = tt
  formals_make env span f (g ∷ gs) [] c p = tt
  formals_make env span f (g ∷ gs) (x ∷ xs) c p = made_makes (declare span g.name.text false (type_under (type_at env f g.ty)) x c) (λ c1. formals_bound env span f gs xs c1) (declare_makes span g.name.text false (type_under (type_at env f g.ty)) x c p) (λ c1 p1. formals_make env span f gs xs c1 p1)

  inner_enters : (c1 : Core) (r : Pure Core) → Makes Kept r → Enters (r >>= λ c2. Good (record { params = c1; inner = c2 }))
  unfolding Enters
  inner_enters c1 (Good c2) p = p
  inner_enters c1 (Bad e) p = tt

  outer_enters : (r : Pure Core) (g : Core → Pure Entering) → Makes Kept r → ((c : Core) → Kept c → Enters (g c)) → Enters (r >>= g)
  unfolding Enters
  outer_enters (Good c) g p k = k c p
  outer_enters (Bad e) g p k = tt

  entering_keeps : (env : Environment) (span : Span) (id : ℕ) (f : Func) (ps xs : List Value) (c : Core) → Kept c → Enters (entering env span id f ps xs c)
  entering_keeps env span id f ps xs c p =
      outer_enters (params_bound env span f.params ps (entered id c)) (λ c1. formals_bound env span (present c1) f.formals xs c1 >>= λ c2. Good (record { params = c1; inner = c2 })) (params_make env span f.params ps (entered id c) p)
      (λ c1 p1. inner_enters c1 (formals_bound env span (present c1) f.formals xs c1) (formals_make env span (present c1) f.formals xs c1 p1))

  entered_keeps : (env : Environment) (f : Func) (c : Core) (r : Pure Entering) → Kept c → Enters r → Keeps Kept (lift r c (run_body env f c))
  unfolding Enters
  entered_keeps env f c (Good e) p q = frame_keeps Core Expr Stmt Kept f.name.span (result_at env f.name.span (present e.params) f.result) (restored c) (in_order f.body e.inner) (λ c1 p1. p1) (list_keeps Core Expr Stmt Kept f.body e.inner q)
  entered_keeps env f c (Bad e) p q = p

  pub with_keeps : (env : Environment) (span : Span) (id : ℕ) (f : Func) (ps xs : List Value) (c : Core) → Kept c → Keeps Kept (run_with env span id f ps xs c)
  with_keeps env span id f ps xs c p = entered_keeps env f c (entering env span id f ps xs c) p (entering_keeps env span id f ps xs c p)

  one_keeps : (env : Environment) (span : Span) (ps xs : List Value) (s : Numbered) (c : Core) → Kept c → Keeps Kept (call_one env span ps xs s c)
  one_keeps env span ps xs s c p =
      lift_keeps Core Expr Stmt Kept (limit_of env span s.func.limit) c (λ limit. unless_full span s.id c.live limit (lift (params_of span (outside c) s.func ps xs) c (λ qs. run_with env span s.id s.func qs xs c)) c) p
      (λ limit. choose_keeps Core Expr Stmt Kept (less (pos (activations s.id c.live)) limit) (lift (params_of span (outside c) s.func ps xs) c (λ qs. run_with env span s.id s.func qs xs c)) (Stop _ c)
      (lift_keeps Core Expr Stmt Kept (params_of span (outside c) s.func ps xs) c (λ qs. run_with env span s.id s.func qs xs c) p (λ qs. with_keeps env span s.id s.func qs xs c p)) p)

  named_keeps : (env : Environment) (span : Span) (name : List ℕ) (ps xs : List Value) (c : Core) (r : Option Routine) → Kept c → Keeps Kept (call_named env span name ps xs c r)
  named_keeps env span name ps xs c (Some r) p = routine_keeps Core Expr Stmt Kept (routine_value env.limit span r ps xs) c p
  named_keeps env span name ps xs c None p =
      lift_keeps Core Expr Stmt Kept (known span (overload env (outside c) 0 (funcs_of env.decls) name xs)) c (λ s. call_one env span ps xs s c) p (λ s. one_keeps env span ps xs s c p)

  -- ---- all forms

  called_keeps : (env : Environment) (span : Span) (i : Ident) (ps es : List Expr) (c : Core) → Kept c → Keeps Kept (call ps es c (called env span i.text) (function_gives span))
  called_keeps env span i ps es c p = call_keeps Core Expr Stmt Kept ps es c (called env span i.text) (function_gives span) p (λ ys xs c1 p1. named_keeps env span i.text ys xs c1 (routine_named i.text) p1) (λ x c1 p1. function_keeps Core Expr Stmt Kept span x c1 p1)

  ruleset kept_values = (once_keeps, behind_keeps, behind_all_keeps, behind_more_keeps, operation_keeps, conditional_keeps, tuple_keeps, element_keeps, called_keeps)

  -- each expression does: it is one of the forms of plans
  expr_keeps : (env : Environment) (layer : ExprLayer) (c : Core) → Kept c → Keeps Kept (expr_node env layer c)
  expr_keeps env (ex.Bool span b) c p = p
  expr_keeps env layer c p = search (kept_values, p) depth 20

  -- the frame alone is cut, and what is being handled is changed
  frame_cut : (n : ℕ) (c : Core) → Kept c → Kept (frames.cut n c)
  frame_cut n c p = p

  handled_kept : (xs : List Value) (c : Core) → Kept c → Kept (frames.with_handled xs c)
  handled_kept xs c p = p

  caught_makes : (env : Environment) (h : st.Catcher-F Alternative Catcher ElseIf Otherwise Stmt) → NamedMakes Kept (catch_layer env h).named
  caught_makes env (st.Catch None t ss) = tt
  caught_makes env (st.Catch (Some i) t ss) = λ x c p. bind_makes (known i.span (types_of env t.text)) (λ T. declare i.span i.text false (Some (of_type T)) x c) (λ T. declare_makes i.span i.text false (Some (of_type T)) x c p)

  assigns : (t : Target) → AssignsWell (assigned t)
  unfolding TargetGood
  assigns t = target_good t

  invoke_keeps : (env : Environment) (span : Span) (i : Ident) (ps es : List Expr) (c : Core) → Kept c → Keeps Kept (call ps es c (called env span i.text) (procedure_gives span))
  invoke_keeps env span i ps es c p = call_keeps Core Expr Stmt Kept ps es c (called env span i.text) (procedure_gives span) p (λ ys xs c1 p1. named_keeps env span i.text ys xs c1 (routine_named i.text) p1) (λ x c1 p1. procedure_keeps Core Expr Stmt Kept span x c1 p1)

  try_list_keeps : (env : Environment) (ss : List Stmt) (hs : List Catcher) (o : Otherwise) (c : Core) → Kept c → Keeps {E = Expr} Kept (try_list frames (catch_in env) ss hs (otherwise_in o) c)
  try_list_keeps env ss hs o c p = try_keeps Core Expr Stmt Kept frames frame_cut handled_kept (catch_in env) ss hs (otherwise_in o) c p (λ h. caught_makes env (out-Catcher h))

  -- each statement does: it is one of the forms of plans, and what it makes of states are declarations and stores
  ruleset kept_forms = (assertion_keeps, value_keeps, values_keep, assignment_keeps, branch_keeps, branches_keep, case_keeps, for_keeps, while_keeps, repeat_keeps, return_keeps, throw_keeps, items_keep, bound_makes, first_makes, assigns, declare_makes, frame_cut, handled_kept, invoke_keeps, try_list_keeps)

  stmt_keeps : (env : Environment) (layer : StmtLayer) (c : Core) → Kept c → Keeps Kept (stmt_node env layer c)
  stmt_keeps env (st.Pass span) c p = p
  stmt_keeps env layer c p = search (kept_forms, p) depth 20

  forms_keep : (env : Environment) → FormsKeep Kept (nodes env)
  forms_keep env = record { expr = λ e c p. expr_keeps env (out-Expr e) c p; stmt = λ s c p. stmt_keeps env (out-Stmt s) c p }

  call_of_keeps : (env : Environment) (id : ℕ) (args : List Value) (c : Core) → Kept c → Keeps Kept (call_of env id args c)
  call_of_keeps env id args c p = lift_keeps Core Expr Stmt Kept (known origin (slice_get (funcs_of env.decls) id)) c (λ f. run_with env f.name.span id f [] args c) p (λ f. with_keeps env f.name.span id f [] args c p)

-- after a call from outside, however it ends, the globals differ in their values alone
pub run_of_keeps : (env : Environment) (id : ℕ) (args : List Value) (globals : List Binding) (h : Meter) → EndsIn (Kept globals) (run_of env id args globals h)
unfolding run_of
run_of_keeps env id args globals h =
    run_keeps (Kept globals) (meaning env most_open) (nodes_keep (Kept globals) (nodes env) (forms_keep globals env) most_open) (call_of env id args (resting globals)) h
    (call_of_keeps globals env id args (resting globals) (same_self globals))

-- ---- between two calls

-- where it returned or threw, there is no frame, and no subprogram is active
abbrev pub AtRest : {A : Type 0} → Outcome Core A → Type 0
AtRest (Done x c h) = c ≡ resting c.globals
AtRest (Thrown x c h) = c ≡ resting c.globals
AtRest (Halt e c h) = Unit {0}

module _ (env : Environment) (m : Meaning Core Expr Stmt) (globals : List Binding) where
  end_rests : (span : Span) (r : Returns) (x : Exit) (c1 : Core) (h : Meter) → AtRest (run m (at_end span r (restored (resting globals)) x c1) h)
  end_rests span r (Returned o) c1 h = by (returned span r o)
    where
      by : (q : Pure (Option Value)) → AtRest (run m (lift q c1 (λ x. Ret x (restored (resting globals) c1))) h)
      by (Good x) = refl
      by (Bad e) = tt
  end_rests span None Normal c1 h = refl
  end_rests span (Some f) Normal c1 h = tt

  body_rests : (span : Span) (r : Returns) (o : Outcome Core Exit) → AtRest {A = Option Value} (handle o (λ x c1 h1. run m (at_end span r (restored (resting globals)) x c1) h1) (λ x c1 h1. Thrown x (restored (resting globals) c1) h1))
  body_rests span r (Done x c1 h1) = end_rests span r x c1 h1
  body_rests span r (Thrown x c1 h1) = refl
  body_rests span r (Halt e c1 h1) = tt

  entered_rests : (f : Func) (r : Pure Entering) (h : Meter) → AtRest (run m (lift r (resting globals) (run_body env f (resting globals))) h)
  entered_rests f (Good e) h = body_rests f.name.span (result_at env f.name.span (present e.params) f.result) (run m (in_order f.body e.inner) h)
  entered_rests f (Bad e) h = tt

  func_rests : (id : ℕ) (args : List Value) (o : Option Func) (h : Meter) → AtRest (run m (lift (known origin o) (resting globals) (λ f. run_with env f.name.span id f [] args (resting globals))) h)
  func_rests id args None h = tt
  func_rests id args (Some f) h = entered_rests f (entering env f.name.span id f [] args (resting globals)) h

pub run_of_rests : (env : Environment) (id : ℕ) (args : List Value) (globals : List Binding) (h : Meter) → AtRest (run_of env id args globals h)
unfolding run_of
run_of_rests env id args globals h = func_rests env (meaning env most_open) globals id args (slice_get (funcs_of env.decls) id) h
