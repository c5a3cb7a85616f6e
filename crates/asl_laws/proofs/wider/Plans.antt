-- Plans under a wider limit: by the shape of plans, and then by the forms that ask for the limit. The relation of two plans is given, since
-- runs and constants are uses of it.
use Rattle.std.proofs.Common.{◌≡◌, ℕ, ◌-◌, ◌==◌, ◌≤◌, Bool, true, false, cond, inl, inr, ◌⊎◌, List, [], ◌∷◌, ◌++◌, Option, Some, None, refl}
use Rattle.std.proofs.Common.{sym, subst}
use Rattle.asl_syn.specs.declared.token.Span.{Span}
use Rattle.asl_syn.specs.declared.code.DynCode.TheVariants.{D12, D13}
use Rattle.asl_syn.specs.declared.tree.BinaryOperator.{BinaryOperator}
use Rattle.asl_rules.specs.values.Values.{Value, bool, Exit, tuple_with}
use Rattle.asl_rules.specs.runs.Plans.{Meter, End, Faulted, Outcome, Done, Thrown, Halt, Plan, Ret, Raise, Stop, Eval, Exec, Put, Within}
use Rattle.asl_rules.specs.runs.Plans.{choose, follow, Meaning, handle, run, wrote, enter, Pure, Good, Bad, lift}
use Rattle.asl_rules.specs.values.Operators.{truth, binary_value, Decided, Already, ByRight, Strictness, Strict, Lazy, strictness}
use Rattle.asl_rules.specs.values.Structures.{element_of, values_of}
use Rattle.asl_rules.specs.runs.Forms.{at_once, behind, behind_all, behind_more, eval_all, unless_decided, behind_left, operation}
use Rattle.asl_rules.specs.runs.Forms.{branch_value, conditional, tuple, element, call}
use Rattle.asl_rules.specs.runs.StatementForms as forms
use Rattle.asl_rules.specs.runs.StatementForms.{Frames, Ahead, ready, by_one, by_all, Store, Choice, eval_step, eval_steps, store_each}
use Rattle.asl_rules.specs.runs.StatementForms.{assignment, with_value, with_values, alternatives, alternative, guarded, case_of, no_match}
use Rattle.asl_laws.specs.Wider.{IsNarrow, FitsLimit}
use Rattle.asl_laws.proofs.wider.Steps.{Wider, wider_same}
use Rattle.asl_laws.proofs.wider.Pures.{binary_wider}

-- ---- outcomes

abbrev pub NarrowEnd : {C A : Type 0} → Outcome C A → Type 0
NarrowEnd (Done x c h) = ⊥
NarrowEnd (Thrown x c h) = ⊥
NarrowEnd (Halt e c h) = IsNarrow e

-- the second is the first, or the first ended as a wider limit may change
unfoldable pub OutWider : {C A : Type 0} → Outcome C A → Outcome C A → Type 0
OutWider r s = (s ≡ r) ⊎ NarrowEnd r

pub out_same : {C A : Type 0} (r : Outcome C A) → OutWider r r
unfolding OutWider
out_same r = inl refl

pub out_narrow : {C A : Type 0} (e : End) (c : C) (h : Meter) (s : Outcome C A) → IsNarrow e → OutWider (Halt e c h) s
unfolding OutWider
out_narrow e c h s n = inr n

-- a run that fits the limit is the same
fits_not : {C A : Type 0} (r : Outcome C A) → FitsLimit r → NarrowEnd r → ⊥
fits_not (Done x c h) f n = n
fits_not (Thrown x c h) f n = n
fits_not (Halt e c h) f n = f n

pub out_fits : {C A : Type 0} (r s : Outcome C A) → OutWider r s → FitsLimit r → s ≡ r
unfolding OutWider
out_fits r s (inl e) f = e
out_fits r s (inr n) f = absurd (fits_not r f n)

-- what is handled, and what comes behind it
narrow_on : {C A B : Type 0} (r : Outcome C B) (f : B → C → Meter → Outcome C A) (g : Value → C → Meter → Outcome C A) → NarrowEnd r →
    NarrowEnd (handle r f g)
narrow_on (Done x c h) f g n = absurd n
narrow_on (Thrown x c h) f g n = absurd n
narrow_on (Halt e c h) f g n = n

one_handled : {C A B : Type 0} (r : Outcome C B) (f f2 : B → C → Meter → Outcome C A) (g g2 : Value → C → Meter → Outcome C A) →
    ((x : B) (c : C) (h : Meter) → OutWider (f x c h) (f2 x c h)) → ((x : Value) (c : C) (h : Meter) → OutWider (g x c h) (g2 x c h)) →
    OutWider (handle r f g) (handle r f2 g2)
one_handled (Done x c h) f f2 g g2 wf wg = wf x c h
one_handled (Thrown x c h) f f2 g g2 wf wg = wg x c h
one_handled (Halt e c h) f f2 g g2 wf wg = out_same (Halt e c h)

pub handle_wider : {C A B : Type 0} (r s : Outcome C B) (f f2 : B → C → Meter → Outcome C A) (g g2 : Value → C → Meter → Outcome C A) →
    OutWider r s → ((x : B) (c : C) (h : Meter) → OutWider (f x c h) (f2 x c h)) →
    ((x : Value) (c : C) (h : Meter) → OutWider (g x c h) (g2 x c h)) → OutWider (handle r f g) (handle s f2 g2)
unfolding OutWider
handle_wider r s f f2 g g2 (inl e) wf wg = subst (λ z. OutWider (handle r f g) (handle z f2 g2)) (sym e) (one_handled r f f2 g g2 wf wg)
handle_wider r s f f2 g g2 (inr n) wf wg = inr (narrow_on r f g n)

-- ---- the forms, over any relation of plans that is kept by the steps of plans

pub record Relates {C E S : Type 0} (R : E → E → Type 0) (W : (A : Type 0) → Plan C E S A → Plan C E S A → Type 0) : Type 1 where
  pub self : (e : E) → R e e
  pub same : {A : Type 0} (p : Plan C E S A) → W _ p p
  pub narrow : {A : Type 0} (e : End) (c : C) (q : Plan C E S A) → IsNarrow e → W _ (Stop e c) q
  pub eval : {A : Type 0} (a b : E) (c : C) (k k2 : Value → C → Plan C E S A) → R a b → ((x : Value) (c1 : C) → W _ (k x c1) (k2 x c1)) →
      W _ (Eval a c k) (Eval b c k2)
  pub follows : {A B : Type 0} (p q : Plan C E S B) (k k2 : B → C → Plan C E S A) → W _ p q → ((x : B) (c1 : C) → W _ (k x c1) (k2 x c1)) →
      W _ (follow p k) (follow q k2)

module _ {C E S : Type 0} (R : E → E → Type 0) (W : (A : Type 0) → Plan C E S A → Plan C E S A → Type 0) (w : Relates R W) where
  abbrev pub AllR : List E → List E → Type 0
  AllR [] [] = Unit {0}
  AllR [] (f ∷ fs) = ⊥
  AllR (e ∷ es) [] = ⊥
  AllR (e ∷ es) (f ∷ fs) = R e f × AllR es fs

  pub all_self : (es : List E) → AllR es es
  all_self [] = tt
  all_self (e ∷ es) = (w.self e, all_self es)

  pub lift_widens : {A B : Type 0} (r s : Pure A) (c : C) (k k2 : A → Plan C E S B) → Wider r s → ((x : A) → W _ (k x) (k2 x)) →
      W _ (lift r c k) (lift s c k2)
  unfolding Wider
  lift_widens (Good x) s c k k2 (inl e) h = subst (λ z. W _ (k x) (lift z c k2)) (sym e) (h x)
  lift_widens (Good x) s c k k2 (inr n) h = absurd n
  lift_widens (Bad d) s c k k2 (inl e) h = subst (λ z. W _ (Stop d c) (lift z c k2)) (sym e) (w.same (Stop d c))
  lift_widens (Bad d) s c k k2 (inr n) h = w.narrow d c (lift s c k2) n

  pub choose_widens : {A : Type 0} (b : Bool) (p q p2 q2 : Plan C E S A) → W _ p p2 → W _ q q2 → W _ (choose b p q) (choose b p2 q2)
  choose_widens true p q p2 q2 h i = h
  choose_widens false p q p2 q2 h i = i

  pub once_widens : {A : Type 0} (r s : Pure A) (c : C) → Wider r s → W _ (at_once r c) (at_once s c)
  once_widens r s c h = lift_widens r s c (λ x. Ret x c) (λ x. Ret x c) h (λ x. w.same (Ret x c))

  pub behind_widens : {A : Type 0} (a b : E) (c : C) (f g : Value → Pure A) → R a b → ((x : Value) → Wider (f x) (g x)) →
      W _ (behind a c f) (behind b c g)
  behind_widens a b c f g r h = w.eval a b c (λ x c1. at_once (f x) c1) (λ x c1. at_once (g x) c1) r
      (λ x c1. once_widens (f x) (g x) c1 (h x))

  pub all_widens : {A : Type 0} (es fs : List E) (xs : List Value) (c : C) (k k2 : List Value → C → Plan C E S A) → AllR es fs →
      ((ys : List Value) (c1 : C) → W _ (k ys c1) (k2 ys c1)) → W _ (eval_all es xs c k) (eval_all fs xs c k2)
  all_widens [] [] xs c k k2 r h = h xs c
  all_widens [] (f ∷ fs) xs c k k2 r h = absurd r
  all_widens (e ∷ es) [] xs c k k2 r h = absurd r
  all_widens (e ∷ es) (f ∷ fs) xs c k k2 r h = w.eval e f c (λ x c1. eval_all es (xs ++ x ∷ []) c1 k)
      (λ x c1. eval_all fs (xs ++ x ∷ []) c1 k2) r.0 (λ x c1. all_widens es fs (xs ++ x ∷ []) c1 k k2 r.1 h)

  pub behind_all_widens : {A : Type 0} (es fs : List E) (c : C) (f g : List Value → Pure A) → AllR es fs →
      ((xs : List Value) → Wider (f xs) (g xs)) → W _ (behind_all es c f) (behind_all fs c g)
  behind_all_widens es fs c f g r h = all_widens es fs [] c (λ xs c1. at_once (f xs) c1) (λ xs c1. at_once (g xs) c1) r
      (λ xs c1. once_widens (f xs) (g xs) c1 (h xs))

  pub behind_more_widens : {A : Type 0} (a b : E) (es fs : List E) (c : C) (f g : Value → List Value → Pure A) → R a b → AllR es fs →
      ((x : Value) (xs : List Value) → Wider (f x xs) (g x xs)) → W _ (behind_more a es c f) (behind_more b fs c g)
  behind_more_widens a b es fs c f g r rs h = w.eval a b c (λ x c1. behind_all es c1 (f x)) (λ x c1. behind_all fs c1 (g x)) r
      (λ x c1. behind_all_widens es fs c1 (f x) (g x) rs (h x))

  pub tuple_widens : (es fs : List E) (c : C) → AllR es fs → W _ (tuple es c) (tuple fs c)
  tuple_widens es fs c r = behind_all_widens es fs c (λ xs. Good (tuple_with (values_of xs))) (λ xs. Good (tuple_with (values_of xs))) r
      (λ xs. wider_same _)

  pub element_widens : (span : Span) (a b i j : E) (c : C) → R a b → R i j → W _ (element span a i c) (element span b j c)
  element_widens span a b i j c r s = w.eval a b c (λ x c1. behind i c1 (element_of span x)) (λ x c1. behind j c1 (element_of span x)) r
      (λ x c1. behind_widens i j c1 (element_of span x) (element_of span x) s (λ y. wider_same _))

  branch_widens : (strip : Value → Value) (a b : E) (c : C) → R a b → W _ (branch_value strip a c) (branch_value strip b c)
  branch_widens strip a b c r = w.eval a b c (λ y c1. Ret (strip y) c1) (λ y c1. Ret (strip y) c1) r (λ y c1. w.same (Ret (strip y) c1))

  pub conditional_widens : (strip : Value → Value) (span : Span) (e f a a2 b b2 : E) (c : C) → R e f → R a a2 → R b b2 →
      W _ (conditional strip span e a b c) (conditional strip span f a2 b2 c)
  conditional_widens strip span e f a a2 b b2 c r s t =
      w.eval e f c (λ x c1. lift (truth span x) c1 (λ p. choose p (branch_value strip a c1) (branch_value strip b c1)))
      (λ x c1. lift (truth span x) c1 (λ p. choose p (branch_value strip a2 c1) (branch_value strip b2 c1))) r
      (λ x c1. lift_widens (truth span x) (truth span x) c1 (λ p. choose p (branch_value strip a c1) (branch_value strip b c1))
      (λ p. choose p (branch_value strip a2 c1) (branch_value strip b2 c1)) (wider_same _)
      (λ p. choose_widens p (branch_value strip a c1) (branch_value strip b c1) (branch_value strip a2 c1) (branch_value strip b2 c1)
      (branch_widens strip a a2 c1 s) (branch_widens strip b b2 c1 t)))

  pub call_widens : {A : Type 0} (ps qs es fs : List E) (c : C) (f g : List Value → List Value → C → Plan C E S (Option Value))
      (k : Option Value → C → Plan C E S A) → AllR ps qs → AllR es fs → ((ys xs : List Value) (c1 : C) → W _ (f ys xs c1) (g ys xs c1)) →
      W _ (call ps es c f k) (call qs fs c g k)
  call_widens ps qs es fs c f g k r s h =
      all_widens ps qs [] c (λ ys c1. eval_all es [] c1 (λ xs c2. follow (f ys xs c2) k))
      (λ ys c1. eval_all fs [] c1 (λ xs c2. follow (g ys xs c2) k)) r
      (λ ys c1. all_widens es fs [] c1 (λ xs c2. follow (f ys xs c2) k) (λ xs c2. follow (g ys xs c2) k) s
      (λ xs c2. w.follows (f ys xs c2) (g ys xs c2) k k (h ys xs c2) (λ x c3. w.same (k x c3))))

  module _ (l m : ℕ) (le : l ≤ m) where
    right_widens : (span : Span) (o : BinaryOperator) (b d : E) (x : Value) (c : C) → R b d →
        W _ (behind b c (binary_value l span o x)) (behind d c (binary_value m span o x))
    right_widens span o b d x c r = behind_widens b d c (binary_value l span o x) (binary_value m span o x) r (binary_wider l m le span o x)

    decided_widens : (span : Span) (o : BinaryOperator) (b d : E) (x : Value) (c : C) (y : Decided) → R b d →
        W _ (unless_decided l span o b x c y) (unless_decided m span o d x c y)
    decided_widens span o b d x c (Already y) r = w.same (Ret (bool y) c)
    decided_widens span o b d x c ByRight r = right_widens span o b d x c r

    left_widens : (span : Span) (o : BinaryOperator) (b d : E) (x : Value) (s : Strictness) (c : C) → R b d →
        W _ (behind_left l span o b x s c) (behind_left m span o d x s c)
    left_widens span o b d x Strict c r = right_widens span o b d x c r
    left_widens span o b d x (Lazy f) c r = lift_widens (truth span x) (truth span x) c (λ p. unless_decided l span o b x c (f p))
        (λ p. unless_decided m span o d x c (f p)) (wider_same _) (λ p. decided_widens span o b d x c (f p) r)

    pub operation_widens : (span : Span) (o : BinaryOperator) (a a2 b b2 : E) (c : C) → R a a2 → R b b2 →
        W _ (operation l span o a b c) (operation m span o a2 b2 c)
    operation_widens span o a a2 b b2 c r s = w.eval a a2 c (λ x c1. behind_left l span o b x (strictness o) c1)
        (λ x c1. behind_left m span o b2 x (strictness o) c1) r (λ x c1. left_widens span o b b2 x (strictness o) c1 s)

  -- ---- statements

  pub value_widens : (e : E) (f g : Value → C → Pure C) (c : C) → ((x : Value) (c1 : C) → Wider (f x c1) (g x c1)) →
      W _ (with_value e f c) (with_value e g c)
  value_widens e f g c h = w.eval e e c (λ x c1. lift (f x c1) c1 forms.done_normal) (λ x c1. lift (g x c1) c1 forms.done_normal) (w.self e)
      (λ x c1. lift_widens (f x c1) (g x c1) c1 forms.done_normal forms.done_normal (h x c1) (λ c2. w.same (forms.done_normal c2)))

  pub values_widens : (es : List E) (f g : List Value → C → Pure C) (c : C) → ((xs : List Value) (c1 : C) → Wider (f xs c1) (g xs c1)) →
      W _ (with_values es f c) (with_values es g c)
  values_widens es f g c h = all_widens es es [] c (λ xs c1. lift (f xs c1) c1 forms.done_normal)
      (λ xs c1. lift (g xs c1) c1 forms.done_normal) (all_self es)
      (λ xs c1. lift_widens (f xs c1) (g xs c1) c1 forms.done_normal forms.done_normal (h xs c1) (λ c2. w.same (forms.done_normal c2)))

  -- stores with the same operands
  abbrev pub StoresWider : {N : Type 0} → List (Store C E N) → List (Store C E N) → Type 0
  StoresWider [] [] = Unit {0}
  StoresWider [] (t ∷ ts) = ⊥
  StoresWider (s ∷ ss) [] = ⊥
  StoresWider (s ∷ ss) (t ∷ ts) = (t.steps ≡ s.steps) × (((ns : List _) (c : C) → Wider (s.put ns c) (t.put ns c)) × StoresWider ss ts)

  abbrev pub AssignsWider : {N : Type 0} → Pure (List (Store C E N)) → Pure (List (Store C E N)) → Type 0
  AssignsWider (Good ss) (Good ts) = StoresWider ss ts
  AssignsWider (Good ss) (Bad e) = ⊥
  AssignsWider (Bad e) (Good ts) = ⊥
  AssignsWider (Bad e) (Bad d) = d ≡ e

  step_widens : {N A : Type 0} (s : Ahead E N) (c : C) (k k2 : N → C → Plan C E S A) → ((n : N) (c1 : C) → W _ (k n c1) (k2 n c1)) →
      W _ (eval_step s c k) (eval_step s c k2)
  step_widens (ready n) c k k2 h = h n c
  step_widens (by_one e f) c k k2 h = w.eval e e c (λ x c1. k (f x) c1) (λ x c1. k2 (f x) c1) (w.self e) (λ x c1. h (f x) c1)
  step_widens (by_all es f) c k k2 h = all_widens es es [] c (λ xs c1. k (f xs) c1) (λ xs c1. k2 (f xs) c1) (all_self es)
      (λ xs c1. h (f xs) c1)

  steps_widens : {N A : Type 0} (ss : List (Ahead E N)) (ns : List N) (c : C) (k k2 : List N → C → Plan C E S A) →
      ((ms : List N) (c1 : C) → W _ (k ms c1) (k2 ms c1)) → W _ (eval_steps ss ns c k) (eval_steps ss ns c k2)
  steps_widens [] ns c k k2 h = h ns c
  steps_widens (s ∷ ss) ns c k k2 h = step_widens s c (λ n c1. eval_steps ss (ns ++ n ∷ []) c1 k)
      (λ n c1. eval_steps ss (ns ++ n ∷ []) c1 k2) (λ n c1. steps_widens ss (ns ++ n ∷ []) c1 k k2 h)

  stores_widens : {N : Type 0} (ss ts : List (Store C E N)) (c : C) → StoresWider ss ts → W _ (store_each ss c) (store_each ts c)
  stores_widens [] [] c h = w.same (forms.done_normal c)
  stores_widens [] (t ∷ ts) c h = absurd h
  stores_widens (s ∷ ss) [] c h = absurd h
  stores_widens (s ∷ ss) (t ∷ ts) c h =
      subst (λ z. W _ (store_each (s ∷ ss) c) (eval_steps z [] c (λ ns c1. lift (t.put ns c1) c1 (store_each ts)))) (sym h.0)
      (steps_widens s.steps [] c (λ ns c1. lift (s.put ns c1) c1 (store_each ss)) (λ ns c1. lift (t.put ns c1) c1 (store_each ts))
      (λ ns c1. lift_widens (s.put ns c1) (t.put ns c1) c1 (store_each ss) (store_each ts) (h.1.0 ns c1)
      (λ c2. stores_widens ss ts c2 h.1.1)))

  made_widens : {N : Type 0} (r s : Pure (List (Store C E N))) (c : C) → AssignsWider r s →
      W _ (lift r c (λ ss. store_each ss c)) (lift s c (λ ss. store_each ss c))
  made_widens (Good ss) (Good ts) c h = stores_widens ss ts c h
  made_widens (Good ss) (Bad e) c h = absurd h
  made_widens (Bad e) (Good ts) c h = absurd h
  made_widens (Bad e) (Bad d) c h = subst (λ z. W Exit (Stop e c) (Stop z c)) (sym h) (w.same (Stop e c))

  pub assignment_widens : {N : Type 0} (e : E) (f g : Value → Pure (List (Store C E N))) (c : C) →
      ((x : Value) → AssignsWider (f x) (g x)) → W _ (assignment e f c) (assignment e g c)
  assignment_widens e f g c h = w.eval e e c (λ x c1. lift (f x) c1 (λ ss. store_each ss c1))
      (λ x c1. lift (g x) c1 (λ ss. store_each ss c1)) (w.self e) (λ x c1. made_widens (f x) (g x) c1 (h x))

  -- `case`
  pub record ChoiceWider (a b : Choice E S) : Type 0 where
    pub parts_same : b ≡ record a { matches = b.matches }
    pub matches_wider : (zs : List Value) (x : Value) → Wider (a.matches zs x) (b.matches zs x)

  guarded_widens : (f : Frames C) (span : Span) (o : Option E) (ss : List S) (rest rest2 : C → Plan C E S Exit) (c : C) →
      ((c1 : C) → W _ (rest c1) (rest2 c1)) → W _ (guarded f span o ss rest c) (guarded f span o ss rest2 c)
  guarded_widens f span None ss rest rest2 c h = w.same (forms.scope f ss c)
  guarded_widens f span (Some e) ss rest rest2 c h =
      w.eval e e c (λ x c1. lift (truth span x) c1 (λ b. choose b (forms.scope f ss c1) (rest c1)))
      (λ x c1. lift (truth span x) c1 (λ b. choose b (forms.scope f ss c1) (rest2 c1))) (w.self e)
      (λ x c1. lift_widens (truth span x) (truth span x) c1 (λ b. choose b (forms.scope f ss c1) (rest c1))
      (λ b. choose b (forms.scope f ss c1) (rest2 c1)) (wider_same _)
      (λ b. choose_widens b (forms.scope f ss c1) (rest c1) (forms.scope f ss c1) (rest2 c1) (w.same (forms.scope f ss c1)) (h c1)))

  alternative_widens : (f : Frames C) (span : Span) (x : Value) (a b : Choice E S) (rest rest2 : C → Plan C E S Exit) (c : C) →
      ChoiceWider a b → ((c1 : C) → W _ (rest c1) (rest2 c1)) → W _ (alternative f span x a rest c) (alternative f span x b rest2 c)
  alternative_widens f span x a b rest rest2 c h k =
      subst (λ z. W _ (alternative f span x a rest c) (alternative f span x z rest2 c)) (sym h.parts_same)
      (all_widens a.exprs a.exprs [] c (λ zs c1. lift (a.matches zs x) c1
      (λ y. choose y (guarded f span a.condition a.body rest c1) (rest c1)))
      (λ zs c1. lift (b.matches zs x) c1 (λ y. choose y (guarded f span a.condition a.body rest2 c1) (rest2 c1))) (all_self a.exprs)
      (λ zs c1. lift_widens (a.matches zs x) (b.matches zs x) c1 (λ y. choose y (guarded f span a.condition a.body rest c1) (rest c1))
      (λ y. choose y (guarded f span a.condition a.body rest2 c1) (rest2 c1)) (h.matches_wider zs x)
      (λ y. choose_widens y (guarded f span a.condition a.body rest c1) (rest c1) (guarded f span a.condition a.body rest2 c1) (rest2 c1)
      (guarded_widens f span a.condition a.body rest rest2 c1 k) (k c1))))

  alternatives_widens : {A : Type 0} (f : Frames C) (view view2 : A → Choice E S) (span : Span) (x : Value) (os : List A)
      (last : Option (List S)) (c : C) → ((a : A) → ChoiceWider (view a) (view2 a)) →
      W _ (alternatives f view span x os last c) (alternatives f view2 span x os last c)
  alternatives_widens f view view2 span x [] last c h = w.same (no_match f span last c)
  alternatives_widens f view view2 span x (a ∷ os) last c h =
      alternative_widens f span x (view a) (view2 a) (alternatives f view span x os last) (alternatives f view2 span x os last) c (h a)
      (λ c1. alternatives_widens f view view2 span x os last c1 h)

  pub case_widens : {A : Type 0} (f : Frames C) (view view2 : A → Choice E S) (span : Span) (e : E) (os : List A) (last : Option (List S))
      (c : C) → ((a : A) → ChoiceWider (view a) (view2 a)) → W _ (case_of f view span e os last c) (case_of f view2 span e os last c)
  case_widens f view view2 span e os last c h = w.eval e e c (λ x c1. alternatives f view span x os last c1)
      (λ x c1. alternatives f view2 span x os last c1) (w.self e) (λ x c1. alternatives_widens f view view2 span x os last c1 h)

-- ---- runs

-- what the nodes mean under the two limits
pub record WiderMeaning {C E S : Type 0} (m n : Meaning C E S) : Type 0 where
  pub expr : (e : E) (c : C) (h : Meter) → OutWider (m.expr e c h) (n.expr e c h)
  pub stmt : (t : S) (c : C) (h : Meter) → OutWider (m.stmt t c h) (n.stmt t c h)

module _ {C E S : Type 0} (m n : Meaning C E S) (v : WiderMeaning m n) where
  pub record Widens {A : Type 0} (p q : Plan C E S A) : Type 0 where
    pub runs : (h : Meter) → OutWider (run m p h) (run n q h)

  abbrev pub SameExpr : E → E → Type 0
  SameExpr e f = (c : C) (h : Meter) → OutWider (m.expr e c h) (n.expr f c h)

  thrown_same : (A : Type 0) (x : Value) (c : C) (h : Meter) → OutWider {A = A} (Thrown x c h) (Thrown x c h)
  thrown_same A x c h = out_same (Thrown x c h)

  one_run : {A : Type 0} (p : Plan C E S A) (h : Meter) → OutWider (run m p h) (run n p h)
  one_run (Ret x c) h = out_same (Done x c h)
  one_run (Raise x c) h = out_same (Thrown x c h)
  one_run (Stop e c) h = out_same (Halt e c h)
  one_run (Eval e c k) h = handle_wider (m.expr e c h) (n.expr e c h) (λ x c1 h1. run m (k x c1) h1) (λ x c1 h1. run n (k x c1) h1) Thrown
      Thrown (v.expr e c h) (λ x c1 h1. one_run (k x c1) h1) (thrown_same _)
  one_run (Exec t c k) h = handle_wider (m.stmt t c h) (n.stmt t c h) (λ x c1 h1. run m (k x c1) h1) (λ x c1 h1. run n (k x c1) h1) Thrown
      Thrown (v.stmt t c h) (λ x c1 h1. one_run (k x c1) h1) (thrown_same _)
  one_run (Put bytes q) h = one_run q (wrote h bytes)
  one_run (Within q f g) h = handle_wider (run m q h) (run n q h) (λ x c1 h1. run m (f x c1) h1) (λ x c1 h1. run n (f x c1) h1)
      (λ x c1 h1. run m (g x c1) h1) (λ x c1 h1. run n (g x c1) h1) (one_run q h) (λ x c1 h1. one_run (f x c1) h1)
      (λ x c1 h1. one_run (g x c1) h1)

  pub runs_relate : Relates SameExpr (λ A p q. Widens p q)
  runs_relate = record {
    self = λ e. v.expr e;
    same = λ p. record { runs = one_run p };
    narrow = λ e c q i. record { runs = λ h. out_narrow e c h (run n q h) i };
    eval = λ a b c k k2 r h. record {
      runs = λ h0.
          handle_wider (m.expr a c h0) (n.expr b c h0) (λ x c1 h1. run m (k x c1) h1) (λ x c1 h1. run n (k2 x c1) h1) Thrown Thrown (r c h0)
          (λ x c1 h1. (h x c1).runs h1) (thrown_same _);
    };
    follows = λ p q k k2 r h. record {
      runs = λ h0.
          handle_wider (run m p h0) (run n q h0) (λ x c1 h1. run m (k x c1) h1) (λ x c1 h1. run n (k2 x c1) h1) (λ x c1 h1. Thrown x c1 h1)
          (λ x c1 h1. Thrown x c1 h1) (r.runs h0) (λ x c1 h1. (h x c1).runs h1) (thrown_same _);
    };
  }

-- ---- the entry into a node

cond_wider : {C A : Type 0} (b : Bool) (r p q : Outcome C A) → OutWider p q → OutWider (cond b r p) (cond b r q)
cond_wider true r p q h = out_same r
cond_wider false r p q h = h

pub enter_wider : {C A : Type 0} (span : Span) (deep : Bool) (c : C) (h : Meter) (go go2 : Meter → Outcome C A) →
    ((h1 : Meter) → OutWider (go h1) (go2 h1)) → OutWider (enter span deep c h go) (enter span deep c h go2)
enter_wider span deep c h go go2 k =
    cond_wider (h.steps == 0) (Halt (Faulted D13 span) c h)
    (cond deep (Halt (Faulted D12 span) c h) (go (record h { steps = h.steps - 1 })))
    (cond deep (Halt (Faulted D12 span) c h) (go2 (record h { steps = h.steps - 1 })))
    (cond_wider deep (Halt (Faulted D12 span) c h) (go (record h { steps = h.steps - 1 })) (go2 (record h { steps = h.steps - 1 }))
    (k (record h { steps = h.steps - 1 })))
