-- What holds of the state wherever a run ends: it holds of each state that a form makes, where the nodes below it keep it.
use Rattle.std.proofs.Common.{ℕ, zero, suc, ◌-◌, ◌==◌, ℤ, Bool, true, false, cond, List, [], ◌∷◌, ◌++◌, Option, Some, None}
use Rattle.asl_syn.specs.declared.token.Span.{Span}
use Rattle.asl_syn.specs.declared.code.DynCode.TheVariants.{D12, D13}
use Rattle.asl_syn.specs.declared.tree.BinaryOperator.{BinaryOperator}
use Rattle.asl_syn.specs.declared.tree.Direction.{Direction}
use Rattle.asl_syn.specs.declared.tree.PrintKind.{PrintKind}
use Rattle.asl_syn.specs.declared.tree.PrintKind.TheVariants.{Print, PrintLine}
use Rattle.asl_rules.specs.values.Values.{Value, int, exception_with, record_with, bool, bits_with, label, tuple_with, array_with, Exit, Normal, Returned}
use Rattle.asl_rules.specs.runs.Plans.{Meter, Faulted, Outcome, Done, Thrown, Halt, Plan, Ret, Raise, Stop, Eval, Exec, Put, Within, choose, follow, Meaning, handle, run, wrote, Nodes, meanings, Pure, Good, Bad, lift}
use Rattle.asl_rules.specs.values.Operators.{truth, binary_value, Decided, Already, ByRight, Strictness, Strict, Lazy, strictness}
use Rattle.asl_rules.specs.values.Structures.{element_of, values_of}
use Rattle.asl_rules.specs.runs.Forms.{at_once, behind, eval_all, behind_all, behind_more, unless_decided, behind_left, operation, branch_value, conditional, element, tuple, call, function_gives, procedure_gives, routine_gives, Keeps as Returns, returned, at_end, in_frame}
use Rattle.asl_rules.specs.runs.StatementForms as forms
use Rattle.asl_rules.specs.runs.StatementForms.{Frames, Ahead, ready, by_one, by_all, Store, Item, Written, Valued, Choice, Catch, Branch}
use Rattle.asl_rules.specs.runs.Limits.{most_turns}

-- ---- by the shape of plans

abbrev pub EndsIn : {C A : Type 0} → (C → Type 0) → Outcome C A → Type 0
EndsIn P (Done x c h) = P c
EndsIn P (Thrown x c h) = P c
EndsIn P (Halt e c h) = P c

-- a plan keeps it where the nodes in it do
abbrev pub Keeps : {C E S A : Type 0} → (C → Type 0) → Plan C E S A → Type 0
Keeps P (Ret x c) = P c
Keeps P (Raise x c) = P c
Keeps P (Stop e c) = P c
Keeps P (Eval e c k) = P c × ((x : Value) (c1 : _) → P c1 → Keeps P (k x c1))
Keeps P (Exec s c k) = P c × ((x : Exit) (c1 : _) → P c1 → Keeps P (k x c1))
Keeps P (Put bytes q) = Keeps P q
Keeps P (Within q f g) = Keeps P q × ((x : _) (c1 : _) → P c1 → Keeps P (f x c1)) × ((x : Value) (c1 : _) → P c1 → Keeps P (g x c1))

pub record NodesKeep {C E S : Type 0} (P : C → Type 0) (m : Meaning C E S) : Type 0 where
  pub expr : (e : E) (c : C) (h : Meter) → P c → EndsIn P (m.expr e c h)
  pub stmt : (s : S) (c : C) (h : Meter) → P c → EndsIn P (m.stmt s c h)

handled : {C A B : Type 0} (P : C → Type 0) (r : Outcome C B) (f : B → C → Meter → Outcome C A) (g : Value → C → Meter → Outcome C A) → EndsIn P r → ((x : B) (c : C) (h : Meter) → P c → EndsIn P (f x c h)) → ((x : Value) (c : C) (h : Meter) → P c → EndsIn P (g x c h)) → EndsIn P (handle r f g)
handled P (Done x c h) f g p kf kg = kf x c h p
handled P (Thrown x c h) f g p kf kg = kg x c h p
handled P (Halt e c h) f g p kf kg = p

module _ {C E S : Type 0} (P : C → Type 0) (m : Meaning C E S) (v : NodesKeep P m) where
  pub run_keeps : {A : Type 0} (q : Plan C E S A) (h : Meter) → Keeps P q → EndsIn P (run m q h)
  run_keeps (Ret x c) h k = k
  run_keeps (Raise x c) h k = k
  run_keeps (Stop e c) h k = k
  run_keeps (Eval e c k) h w = handled P (m.expr e c h) (λ x c1 h1. run m (k x c1) h1) Thrown (v.expr e c h w.0) (λ x c1 h1 p. run_keeps (k x c1) h1 (w.1 x c1 p)) (λ x c1 h1 p. p)
  run_keeps (Exec s c k) h w = handled P (m.stmt s c h) (λ x c1 h1. run m (k x c1) h1) Thrown (v.stmt s c h w.0) (λ x c1 h1 p. run_keeps (k x c1) h1 (w.1 x c1 p)) (λ x c1 h1 p. p)
  run_keeps (Put bytes q) h w = run_keeps q (wrote h bytes) w
  run_keeps (Within q f g) h w = handled P (run m q h) (λ x c1 h1. run m (f x c1) h1) (λ x c1 h1. run m (g x c1) h1) (run_keeps q h w.0) (λ x c1 h1 p. run_keeps (f x c1) h1 (w.1 x c1 p)) (λ x c1 h1 p. run_keeps (g x c1) h1 (w.2 x c1 p))

enter_keeps : {C A : Type 0} (P : C → Type 0) (span : Span) (deep : Bool) (c : C) (h : Meter) (go : Meter → Outcome C A) → P c → ((h1 : Meter) → EndsIn P (go h1)) → (b : Bool) → EndsIn P (cond b (Halt (Faulted D13 span) c h) (cond deep (Halt (Faulted D12 span) c h) (go (record h { steps = h.steps - 1 }))))
enter_keeps P span deep c h go p k true = p
enter_keeps P span true c h go p k false = p
enter_keeps P span false c h go p k false = k (record h { steps = h.steps - 1 })

pub record FormsKeep {C E S : Type 0} (P : C → Type 0) (n : Nodes C E S) : Type 0 where
  pub expr : (e : E) (c : C) → P c → Keeps P (n.expr e c)
  pub stmt : (s : S) (c : C) → P c → Keeps P (n.stmt s c)

pub nodes_keep : {C E S : Type 0} (P : C → Type 0) (n : Nodes C E S) → FormsKeep P n → (d : ℕ) → NodesKeep P (meanings n d)
nodes_keep P n f zero = record {
  expr = λ e c h p. enter_keeps P (n.expr_at e) true c h (λ h1. Halt (Faulted D12 (n.expr_at e)) c h1) p (λ h1. p) (h.steps == 0);
  stmt = λ s c h p. enter_keeps P (n.stmt_at s) true c h (λ h1. Halt (Faulted D12 (n.stmt_at s)) c h1) p (λ h1. p) (h.steps == 0);
}
nodes_keep P n f (suc d) = record {
  expr = λ e c h p. enter_keeps P (n.expr_at e) false c h (run (meanings n d) (n.expr e c)) p (λ h1. run_keeps P (meanings n d) (nodes_keep P n f d) (n.expr e c) h1 (f.expr e c p)) (h.steps == 0);
  stmt = λ s c h p. enter_keeps P (n.stmt_at s) false c h (run (meanings n d) (n.stmt s c)) p (λ h1. run_keeps P (meanings n d) (nodes_keep P n f d) (n.stmt s c) h1 (f.stmt s c p)) (h.steps == 0);
}

-- ---- what is made of states

-- a state that is made keeps it
abbrev pub Makes : {C : Type 0} → (C → Type 0) → Pure C → Type 0
Makes P (Good c) = P c
Makes P (Bad e) = Unit {0}

-- each of these stores makes states that keep it
abbrev pub AllMake : {C E N : Type 0} → (C → Type 0) → List (Store C E N) → Type 0
AllMake P [] = Unit {0}
AllMake P (s ∷ ss) = ((ns : List _) (c : _) → P c → Makes P (s.put ns c)) × AllMake P ss

abbrev pub AllMade : {C E N : Type 0} → (C → Type 0) → Pure (List (Store C E N)) → Type 0
AllMade P (Good ss) = AllMake P ss
AllMade P (Bad e) = Unit {0}

-- an exception gets its name in states that keep it
abbrev pub NamedMakes : {C : Type 0} → (C → Type 0) → Option (Value → C → Pure C) → Type 0
NamedMakes P None = Unit {0}
NamedMakes P (Some named) = (x : Value) (c : _) → P c → Makes P (named x c)

-- ---- the forms

module _ (C E S : Type 0) (P : C → Type 0) where
  pub lift_keeps : {A B : Type 0} (r : Pure A) (c : C) (k : A → Plan C E S B) → P c → ((x : A) → Keeps P (k x)) → Keeps P (lift r c k)
  lift_keeps (Good x) c k p q = q x
  lift_keeps (Bad e) c k p q = p

  pub lift_made : {B : Type 0} (r : Pure C) (c : C) (k : C → Plan C E S B) → P c → Makes P r → ((c1 : C) → P c1 → Keeps P (k c1)) → Keeps P (lift r c k)
  lift_made (Good c1) c k p m q = q c1 m
  lift_made (Bad e) c k p m q = p

  pub once_keeps : {A : Type 0} (r : Pure A) (c : C) → P c → Keeps {E = E} {S = S} P (at_once r c)
  once_keeps (Good x) c p = p
  once_keeps (Bad e) c p = p

  pub choose_keeps : {A : Type 0} (b : Bool) (q r : Plan C E S A) → Keeps P q → Keeps P r → Keeps P (choose b q r)
  choose_keeps true q r k l = k
  choose_keeps false q r k l = l

  -- ---- expressions

  pub behind_keeps : {A : Type 0} (a : E) (c : C) (f : Value → Pure A) → P c → Keeps {S = S} P (behind a c f)
  behind_keeps a c f p = (p, λ x c1 p1. once_keeps (f x) c1 p1)

  pub all_keeps : {A : Type 0} (es : List E) (xs : List Value) (c : C) (k : List Value → C → Plan C E S A) → P c → ((ys : List Value) (c1 : C) → P c1 → Keeps P (k ys c1)) → Keeps P (eval_all es xs c k)
  all_keeps [] xs c k p q = q xs c p
  all_keeps (e ∷ es) xs c k p q = (p, λ x c1 p1. all_keeps es (xs ++ x ∷ []) c1 k p1 q)

  pub behind_all_keeps : {A : Type 0} (es : List E) (c : C) (f : List Value → Pure A) → P c → Keeps {S = S} P (behind_all es c f)
  behind_all_keeps es c f p = all_keeps es [] c (λ xs c1. at_once (f xs) c1) p (λ xs c1 p1. once_keeps (f xs) c1 p1)

  pub behind_more_keeps : {A : Type 0} (a : E) (es : List E) (c : C) (f : Value → List Value → Pure A) → P c → Keeps {S = S} P (behind_more a es c f)
  behind_more_keeps a es c f p = (p, λ x c1 p1. behind_all_keeps es c1 (f x) p1)

  decided_keeps : (limit : ℕ) (span : Span) (o : BinaryOperator) (b : E) (x : Value) (c : C) (r : Decided) → P c → Keeps {S = S} P (unless_decided limit span o b x c r)
  decided_keeps limit span o b x c (Already r) p = p
  decided_keeps limit span o b x c ByRight p = behind_keeps b c (binary_value limit span o x) p

  left_keeps : (limit : ℕ) (span : Span) (o : BinaryOperator) (b : E) (x : Value) (s : Strictness) (c : C) → P c → Keeps {S = S} P (behind_left limit span o b x s c)
  left_keeps limit span o b x Strict c p = behind_keeps b c (binary_value limit span o x) p
  left_keeps limit span o b x (Lazy f) c p = lift_keeps (truth span x) c (λ q. unless_decided limit span o b x c (f q)) p (λ q. decided_keeps limit span o b x c (f q) p)

  pub operation_keeps : (limit : ℕ) (span : Span) (o : BinaryOperator) (a b : E) (c : C) → P c → Keeps {S = S} P (operation limit span o a b c)
  operation_keeps limit span o a b c p = (p, λ x c1 p1. left_keeps limit span o b x (strictness o) c1 p1)

  pub conditional_keeps : (strip : Value → Value) (span : Span) (e a b : E) (c : C) → P c → Keeps {S = S} P (conditional strip span e a b c)
  conditional_keeps strip span e a b c p =
      (p, λ x c1 p1. lift_keeps (truth span x) c1 (λ t. choose t (branch_value strip a c1) (branch_value strip b c1)) p1 (λ t. choose_keeps t (branch_value strip a c1) (branch_value strip b c1) (p1, λ y c2 p2. p2) (p1, λ y c2 p2. p2)))

  pub element_keeps : (span : Span) (a i : E) (c : C) → P c → Keeps {S = S} P (element span a i c)
  element_keeps span a i c p = (p, λ x c1 p1. behind_keeps i c1 (element_of span x) p1)

  pub tuple_keeps : (es : List E) (c : C) → P c → Keeps {S = S} P (tuple es c)
  tuple_keeps es c p = behind_all_keeps es c (λ xs. Good (tuple_with (values_of xs))) p

  -- ---- calls

  pub call_keeps : {A : Type 0} (ps es : List E) (c : C) (f : List Value → List Value → C → Plan C E S (Option Value)) (k : Option Value → C → Plan C E S A) → P c
      → ((ys xs : List Value) (c1 : C) → P c1 → Keeps P (f ys xs c1)) → ((x : Option Value) (c1 : C) → P c1 → Keeps P (k x c1)) → Keeps P (call ps es c f k)
  call_keeps ps es c f k p kf kk =
      all_keeps ps [] c (λ ys c1. eval_all es [] c1 (λ xs c2. follow (f ys xs c2) k)) p
      (λ ys c1 p1. all_keeps es [] c1 (λ xs c2. follow (f ys xs c2) k) p1 (λ xs c2 p2. (kf ys xs c2 p2, kk, λ x c3 p3. p3)))

  pub function_keeps : (span : Span) (x : Option Value) (c : C) → P c → Keeps {E = E} {S = S} P (function_gives span x c)
  function_keeps span None c p = p
  function_keeps span (Some x) c p = p

  pub procedure_keeps : (span : Span) (x : Option Value) (c : C) → P c → Keeps {E = E} {S = S} P (procedure_gives span x c)
  procedure_keeps span None c p = p
  procedure_keeps span (Some x) c p = p

  pub routine_keeps : (r : Pure Value) (c : C) → P c → Keeps {E = E} {S = S} P (routine_gives r c)
  routine_keeps (Good x) c p = p
  routine_keeps (Bad e) c p = p

  end_keeps : (span : Span) (r : Returns) (back : C → C) (x : Exit) (c : C) → P (back c) → P c → Keeps {E = E} {S = S} P (at_end span r back x c)
  end_keeps span r back (Returned o) c b p = lift_keeps (returned span r o) c (λ x. Ret x (back c)) p (λ x. b)
  end_keeps span None back Normal c b p = b
  end_keeps span (Some f) back Normal c b p = p

  pub frame_keeps : (span : Span) (r : Returns) (back : C → C) (body : Plan C E S Exit) → ((c : C) → P c → P (back c)) → Keeps P body → Keeps P (in_frame span r back body)
  frame_keeps span r back body b k = (k, λ x c p. end_keeps span r back x c (b c p) p, λ x c p. b c p)

  -- ---- lists of statements

  pub go_keeps : (x : Exit) (c : C) (k : C → Plan C E S Exit) → P c → ((c1 : C) → P c1 → Keeps P (k c1)) → Keeps P (forms.go_on x c k)
  go_keeps Normal c k p q = q c p
  go_keeps (Returned v) c k p q = p

  pub list_keeps : (ss : List S) (c : C) → P c → Keeps {E = E} P (forms.in_order ss c)
  list_keeps [] c p = p
  list_keeps (s ∷ ss) c p = (p, λ x c1 p1. go_keeps x c1 (forms.in_order ss) p1 (list_keeps ss))

  -- ---- conditions

  asked_keeps : {A : Type 0} (span : Span) (e : E) (c : C) (a b : C → Plan C E S A) → P c → ((c1 : C) → P c1 → Keeps P (a c1)) → ((c1 : C) → P c1 → Keeps P (b c1)) → Keeps P (forms.asked span e c a b)
  asked_keeps span e c a b p ka kb = (p, λ x c1 p1. lift_keeps (truth span x) c1 (λ t. choose t (a c1) (b c1)) p1 (λ t. choose_keeps t (a c1) (b c1) (ka c1 p1) (kb c1 p1)))

  pub assertion_keeps : (span : Span) (e : E) (c : C) → P c → Keeps {S = S} P (forms.assertion span e c)
  assertion_keeps span e c p = asked_keeps span e c forms.done_normal (forms.asserted span) p (λ c1 p1. p1) (λ c1 p1. p1)

  -- ---- declarations, assignments, printing

  pub value_keeps : (e : E) (g : Value → C → Pure C) (c : C) → P c → ((x : Value) (c1 : C) → P c1 → Makes P (g x c1)) → Keeps {S = S} P (forms.with_value e g c)
  value_keeps e g c p m = (p, λ x c1 p1. lift_made (g x c1) c1 forms.done_normal p1 (m x c1 p1) (λ c2 p2. p2))

  pub values_keep : (es : List E) (g : List Value → C → Pure C) (c : C) → P c → ((xs : List Value) (c1 : C) → P c1 → Makes P (g xs c1)) → Keeps {S = S} P (forms.with_values es g c)
  values_keep es g c p m = all_keeps es [] c (λ xs c1. lift (g xs c1) c1 forms.done_normal) p (λ xs c1 p1. lift_made (g xs c1) c1 forms.done_normal p1 (m xs c1 p1) (λ c2 p2. p2))

  step_keeps : {N A : Type 0} (s : Ahead E N) (c : C) (k : N → C → Plan C E S A) → P c → ((n : N) (c1 : C) → P c1 → Keeps P (k n c1)) → Keeps P (forms.eval_step s c k)
  step_keeps (ready n) c k p q = q n c p
  step_keeps (by_one e g) c k p q = (p, λ x c1 p1. q (g x) c1 p1)
  step_keeps (by_all es g) c k p q = all_keeps es [] c (λ xs c1. k (g xs) c1) p (λ xs c1 p1. q (g xs) c1 p1)

  steps_keep : {N A : Type 0} (ss : List (Ahead E N)) (ns : List N) (c : C) (k : List N → C → Plan C E S A) → P c → ((ms : List N) (c1 : C) → P c1 → Keeps P (k ms c1)) → Keeps P (forms.eval_steps ss ns c k)
  steps_keep [] ns c k p q = q ns c p
  steps_keep (s ∷ ss) ns c k p q = step_keeps s c (λ n c1. forms.eval_steps ss (ns ++ n ∷ []) c1 k) p (λ n c1 p1. steps_keep ss (ns ++ n ∷ []) c1 k p1 q)

  pub stores_keep : {N : Type 0} (ss : List (Store C E N)) (c : C) → P c → AllMake P ss → Keeps {S = S} P (forms.store_each ss c)
  stores_keep [] c p m = p
  stores_keep (s ∷ ss) c p m = steps_keep s.steps [] c (λ ns c1. lift (s.put ns c1) c1 (forms.store_each ss)) p (λ ns c1 p1. lift_made (s.put ns c1) c1 (forms.store_each ss) p1 (m.0 ns c1 p1) (λ c2 p2. stores_keep ss c2 p2 m.1))

  made_keep : {N : Type 0} (r : Pure (List (Store C E N))) (c : C) → P c → AllMade P r → Keeps {S = S} P (lift r c (λ ss. forms.store_each ss c))
  made_keep (Good ss) c p m = stores_keep ss c p m
  made_keep (Bad e) c p m = p

  pub assignment_keeps : {N : Type 0} (e : E) (g : Value → Pure (List (Store C E N))) (c : C) → P c → ((x : Value) → AllMade P (g x)) → Keeps {S = S} P (forms.assignment e g c)
  assignment_keeps e g c p m = (p, λ x c1 p1. made_keep (g x) c1 p1 (m x))

  pub return_keeps : (o : Option E) (c : C) → P c → Keeps {S = S} P (forms.return_value o c)
  return_keeps None c p = p
  return_keeps (Some e) c p = (p, λ x c1 p1. p1)

  item_keeps : (i : Item E) (c : C) (go : C → Plan C E S Exit) → P c → ((c1 : C) → P c1 → Keeps P (go c1)) → Keeps P (forms.print_item i c go)
  item_keeps (Written bytes) c go p k = k c p
  item_keeps (Valued e) c go p k = (p, λ x c1 p1. k c1 p1)

  pub items_keep : {I : Type 0} (view : I → Item E) (kind : PrintKind) (is : List I) (c : C) → P c → Keeps {S = S} P (forms.print_items view kind is c)
  items_keep view Print [] c p = p
  items_keep view PrintLine [] c p = p
  items_keep view kind (i ∷ is) c p = item_keeps (view i) c (forms.print_items view kind is) p (λ c1 p1. items_keep view kind is c1 p1)

  -- ---- the limit of a loop

  limited_keeps : {A : Type 0} (span : Span) (o : Option E) (c : C) (k : ℕ → C → Plan C E S A) → P c → ((n : ℕ) (c1 : C) → P c1 → Keeps P (k n c1)) → Keeps P (forms.limited span o c k)
  limited_keeps span None c k p q = q most_turns c p
  limited_keeps span (Some e) c k p q = (p, λ x c1 p1. lift_keeps (forms.whole_number span x) c1 (λ z. k (forms.turns_in z) c1) p1 (λ z. q (forms.turns_in z) c1 p1))

  -- ---- exceptions that are thrown

  thrown_keeps : (span : Span) (x : Value) (c : C) → P c → Keeps {E = E} {S = S} P (forms.thrown span x c)
  thrown_keeps span (exception_with own supers name xs) c p = p
  thrown_keeps span (int z) c p = p
  thrown_keeps span (bool b) c p = p
  thrown_keeps span (bits_with bs u) c p = p
  thrown_keeps span (label n l) c p = p
  thrown_keeps span (record_with n xs) c p = p
  thrown_keeps span (tuple_with xs) c p = p
  thrown_keeps span (array_with k xs) c p = p

  again_keeps : (span : Span) (xs : List Value) (c : C) → P c → Keeps {E = E} {S = S} P (forms.thrown_again span xs c)
  again_keeps span [] c p = p
  again_keeps span (x ∷ xs) c p = p

  -- ---- lists with a scope of their own

  module _ (f : Frames C) (cut : (n : ℕ) (c : C) → P c → P (f.cut n c)) (hold : (xs : List Value) (c : C) → P c → P (f.with_handled xs c)) where
    from_keeps : (n : ℕ) (ss : List S) (c : C) → P c → Keeps {E = E} P (forms.scope_from f n ss c)
    from_keeps n ss c p = (list_keeps ss c p, λ x c1 p1. cut n c1 p1, λ x c1 p1. p1)

    pub scope_keeps : (ss : List S) (c : C) → P c → Keeps {E = E} P (forms.scope f ss c)
    scope_keeps ss c p = from_keeps (f.height c) ss c p

    with_keeps : (named : C → Pure C) (ss : List S) (c : C) → P c → ((c1 : C) → P c1 → Makes P (named c1)) → Keeps {E = E} P (forms.scope_with f named ss c)
    with_keeps named ss c p m = lift_made (named c) c (λ c1. forms.scope_from f (f.height c) ss c1) p (m c p) (λ c1 p1. from_keeps (f.height c) ss c1 p1)

    pub branch_keeps : (span : Span) (e : E) (ss : List S) (rest : C → Plan C E S Exit) (c : C) → P c → ((c1 : C) → P c1 → Keeps P (rest c1)) → Keeps P (forms.branch f span e ss rest c)
    branch_keeps span e ss rest c p k = asked_keeps span e c (forms.scope f ss) rest p (scope_keeps ss) k

    pub branches_keep : {B : Type 0} (view : B → Branch E S) (span : Span) (bs : List B) (last : List S) (c : C) → P c → Keeps P (forms.branches f view span bs last c)
    branches_keep view span [] last c p = scope_keeps last c p
    branches_keep view span (b ∷ bs) last c p = branch_keeps span (view b).condition (view b).body (forms.branches f view span bs last) c p (branches_keep view span bs last)

    -- ---- `case`

    guarded_keeps : (span : Span) (o : Option E) (ss : List S) (rest : C → Plan C E S Exit) (c : C) → P c → ((c1 : C) → P c1 → Keeps P (rest c1)) → Keeps P (forms.guarded f span o ss rest c)
    guarded_keeps span None ss rest c p k = scope_keeps ss c p
    guarded_keeps span (Some e) ss rest c p k = branch_keeps span e ss rest c p k

    alternative_keeps : (span : Span) (x : Value) (a : Choice E S) (rest : C → Plan C E S Exit) (c : C) → P c → ((c1 : C) → P c1 → Keeps P (rest c1)) → Keeps P (forms.alternative f span x a rest c)
    alternative_keeps span x a rest c p k =
        all_keeps a.exprs [] c (λ zs c1. lift (a.matches zs x) c1 (λ b. choose b (forms.guarded f span a.condition a.body rest c1) (rest c1))) p
        (λ zs c1 p1. lift_keeps (a.matches zs x) c1 (λ b. choose b (forms.guarded f span a.condition a.body rest c1) (rest c1)) p1
        (λ b. choose_keeps b (forms.guarded f span a.condition a.body rest c1) (rest c1) (guarded_keeps span a.condition a.body rest c1 p1 k) (k c1 p1)))

    last_keeps : (span : Span) (o : Option (List S)) (c : C) → P c → Keeps {E = E} P (forms.no_match f span o c)
    last_keeps span None c p = p
    last_keeps span (Some ss) c p = scope_keeps ss c p

    alternatives_keep : {A : Type 0} (view : A → Choice E S) (span : Span) (x : Value) (os : List A) (last : Option (List S)) (c : C) → P c → Keeps P (forms.alternatives f view span x os last c)
    alternatives_keep view span x [] last c p = last_keeps span last c p
    alternatives_keep view span x (a ∷ os) last c p = alternative_keeps span x (view a) (forms.alternatives f view span x os last) c p (alternatives_keep view span x os last)

    pub case_keeps : {A : Type 0} (view : A → Choice E S) (span : Span) (e : E) (os : List A) (last : Option (List S)) (c : C) → P c → Keeps P (forms.case_of f view span e os last c)
    case_keeps view span e os last c p = (p, λ x c1 p1. alternatives_keep view span x os last c1 p1)

    -- ---- loops

    turn_keeps : (index : Value → C → Pure C) (span : Span) (d : Direction) (last : ℤ) (ss : List S) (n : ℕ) (i : ℤ) (c : C) → P c → ((x : Value) (c1 : C) → P c1 → Makes P (index x c1)) → Keeps {E = E} P (forms.index_turn f index span d last ss n i c)
    turn_keeps index span d last ss zero i c p m = p
    turn_keeps index span d last ss (suc n) i c p m = (
      with_keeps (index (int i)) ss c p (m (int i)),
      λ x c1 p1. go_keeps x c1 (λ c2. choose (forms.is_past d last (forms.next_index d i)) (Ret Normal c2) (forms.index_turn f index span d last ss n (forms.next_index d i) c2)) p1
          (λ c2 p2. choose_keeps (forms.is_past d last (forms.next_index d i)) (Ret Normal c2) (forms.index_turn f index span d last ss n (forms.next_index d i) c2) p2 (turn_keeps index span d last ss n (forms.next_index d i) c2 p2 m)),
      λ x c1 p1. p1,
    )

    turns_keep : (index : Value → C → Pure C) (span : Span) (d : Direction) (last : ℤ) (ss : List S) (n : ℕ) (i : ℤ) (c : C) → P c → ((x : Value) (c1 : C) → P c1 → Makes P (index x c1)) → Keeps {E = E} P (forms.index_turns f index span d last ss n i c)
    turns_keep index span d last ss n i c p m = choose_keeps (forms.is_past d last i) (Ret Normal c) (forms.index_turn f index span d last ss n i c) p (turn_keeps index span d last ss n i c p m)

    pub for_keeps : (index : Value → C → Pure C) (span : Span) (a : E) (d : Direction) (b : E) (l : Option E) (ss : List S) (c : C) → P c → ((x : Value) (c1 : C) → P c1 → Makes P (index x c1)) → Keeps P (forms.for_loop f index span a d b l ss c)
    for_keeps index span a d b l ss c p m = (
      p,
      λ x c1 p1. (
        p1,
        λ y c2 p2. limited_keeps span l c2 (λ n c3. lift (forms.whole_number span x) c3 (λ first. lift (forms.whole_number span y) c3 (λ last. forms.index_turns f index span d last ss n first c3))) p2
            (λ n c3 p3. lift_keeps (forms.whole_number span x) c3 (λ first. lift (forms.whole_number span y) c3 (λ last. forms.index_turns f index span d last ss n first c3)) p3
            (λ first. lift_keeps (forms.whole_number span y) c3 (λ last. forms.index_turns f index span d last ss n first c3) p3 (λ last. turns_keep index span d last ss n first c3 p3 m))),
      ),
    )

    while_turn_keeps : (span : Span) (e : E) (ss : List S) (n : ℕ) (c : C) → P c → Keeps P (forms.while_turn f span e ss n c)
    while_turn_keeps span e ss zero c p = p
    while_turn_keeps span e ss (suc n) c p =
        (scope_keeps ss c p, λ x c1 p1. go_keeps x c1 (λ c2. forms.asked span e c2 (forms.while_turn f span e ss n) forms.done_normal) p1 (λ c2 p2. asked_keeps span e c2 (forms.while_turn f span e ss n) forms.done_normal p2 (while_turn_keeps span e ss n) (λ c3 p3. p3)), λ x c1 p1. p1)

    pub while_keeps : (span : Span) (e : E) (l : Option E) (ss : List S) (c : C) → P c → Keeps P (forms.while_loop f span e l ss c)
    while_keeps span e l ss c p = limited_keeps span l c (λ n c1. forms.asked span e c1 (forms.while_turn f span e ss n) forms.done_normal) p (λ n c1 p1. asked_keeps span e c1 (forms.while_turn f span e ss n) forms.done_normal p1 (while_turn_keeps span e ss n) (λ c2 p2. p2))

    repeat_turn_keeps : (span : Span) (e : E) (ss : List S) (n : ℕ) (c : C) → P c → Keeps P (forms.repeat_turn f span e ss n c)
    repeat_turn_keeps span e ss zero c p = p
    repeat_turn_keeps span e ss (suc n) c p =
        (scope_keeps ss c p, λ x c1 p1. go_keeps x c1 (λ c2. forms.asked span e c2 forms.done_normal (forms.repeat_turn f span e ss n)) p1 (λ c2 p2. asked_keeps span e c2 forms.done_normal (forms.repeat_turn f span e ss n) p2 (λ c3 p3. p3) (repeat_turn_keeps span e ss n)), λ x c1 p1. p1)

    pub repeat_keeps : (span : Span) (ss : List S) (e : E) (l : Option E) (c : C) → P c → Keeps P (forms.repeat_loop f span ss e l c)
    repeat_keeps span ss e l c p = limited_keeps span l c (forms.repeat_turn f span e ss) p (λ n c1 p1. repeat_turn_keeps span e ss n c1 p1)

    -- ---- throwing and catching

    pub throw_keeps : (span : Span) (o : Option E) (c : C) → P c → Keeps {S = S} P (forms.throw f span o c)
    throw_keeps span None c p = again_keeps span (f.handled c) c p
    throw_keeps span (Some e) c p = (p, λ x c1 p1. thrown_keeps span x c1 p1)

    handling_keeps : (x : Value) (q : C → Plan C E S Exit) (c : C) → P c → ((c1 : C) → P c1 → Keeps P (q c1)) → Keeps P (forms.handling f x q c)
    handling_keeps x q c p k = (k (f.with_handled (x ∷ f.handled c) c) (hold (x ∷ f.handled c) c p), λ e c1 p1. hold (f.handled c) c1 p1, λ y c1 p1. hold (f.handled c) c1 p1)

    catch_keeps : (o : Option (Value → C → Pure C)) (x : Value) (ss : List S) (c : C) → P c → NamedMakes P o → Keeps {E = E} P (forms.catch_list f o x ss c)
    catch_keeps None x ss c p m = scope_keeps ss c p
    catch_keeps (Some named) x ss c p m = with_keeps (named x) ss c p (m x)

    uncaught_keeps : (x : Value) (o : Option (List S)) (c : C) → P c → Keeps {E = E} P (forms.uncaught f x o c)
    uncaught_keeps x None c p = p
    uncaught_keeps x (Some ss) c p = handling_keeps x (forms.scope f ss) c p (scope_keeps ss)

    catchers_keep : {H : Type 0} (view : H → Catch C S) (x : Value) (hs : List H) (last : Option (List S)) (c : C) → P c → ((h : H) → NamedMakes P (view h).named) → Keeps {E = E} P (forms.catchers f view x hs last c)
    catchers_keep view x [] last c p m = uncaught_keeps x last c p
    catchers_keep view x (h ∷ hs) last c p m =
        choose_keeps (forms.is_caught (view h).caught x) (forms.handling f x (forms.catch_list f (view h).named x (view h).body) c) (forms.catchers f view x hs last c)
        (handling_keeps x (forms.catch_list f (view h).named x (view h).body) c p (λ c1 p1. catch_keeps (view h).named x (view h).body c1 p1 (m h))) (catchers_keep view x hs last c p m)

    pub try_keeps : {H : Type 0} (view : H → Catch C S) (ss : List S) (hs : List H) (last : Option (List S)) (c : C) → P c → ((h : H) → NamedMakes P (view h).named) → Keeps {E = E} P (forms.try_list f view ss hs last c)
    try_keeps view ss hs last c p m = (scope_keeps ss c p, λ x c1 p1. p1, λ x c1 p1. catchers_keep view x hs last (f.cut (f.height c) c1) (cut (f.height c) c1 p1) m)
