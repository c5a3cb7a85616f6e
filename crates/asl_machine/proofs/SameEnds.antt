-- Where a run of typed trees ended, the run of the program's own trees ended so, in a state that differs in names and types alone; and where the first is
-- given up, what is promised of the second holds.
use Rattle.std.proofs.Common.{◌≡◌, ℕ, ◌-◌, ◌≤◌, List, [], ◌∷◌, Option, Some, None, refl, sym, ap, ◌∙◌, subst}
use Rattle.std.specs.Prelude.{slice_get}
use Rattle.asl_syn.specs.declared.token.Span.{Span}
use Rattle.asl_rules.specs.runs.Cuts.{cuts, cuttings}
use Rattle.asl_rules.specs.private.Erasure.{values_of, erased, erased_outcome}
use Rattle.asl_rules.specs.runs.Forms.{Keeps, returned, at_end}
use Rattle.asl_rules.specs.runs.Machines.{GivenUp, most_open, run_of, text_of_run}
use Rattle.asl_rules.specs.runs.Evaluation.{nodes, call_of}
use Rattle.asl_rules.specs.runs.Plans.{Meter, starting, Outcome, Done, Thrown, Halt, End, final, meanings, Pure, Good, Bad, Ret, lift}
use Rattle.asl_rules.specs.declarations.Programs.{Environment}
use Rattle.asl_laws.specs.Soundness.{tree_run}
use Rattle.asl_rules.specs.runs.StatementForms.{in_order}
use Rattle.asl_rules.specs.runs.States.{Binding, Core, resting}
use Rattle.asl_rules.specs.runs.Trees.{Tree, Act, TreeFunc}
use Rattle.asl_rules.specs.private.TypedMeaning.{BareCore, TreeProgram, Runs, acts_of, restored, formals_seen, result_seen, run_with, call_func, tree_call, tree_nodes, tree_meaning}
use Rattle.asl_rules.specs.values.Values.{Value, Exit, Normal, Returned}
use Rattle.asl_laws.proofs.runs.Budget.{run_after, grows}
use Rattle.asl_laws.proofs.runs.Given.{kept, cuts_after}
use Rattle.asl_laws.proofs.runs.GlobalsKept.{SameBut, Kept, AtRest}
use Rattle.asl_laws.proofs.runs.PlansKeep.{EndsIn}
use Rattle.asl_laws.proofs.runs.Quiet.{Quiet, given_up, carried}
use Rattle.asl_machine.specs.Storage.{with_values}
use Rattle.asl_machine.specs.Took.{Stepped}
use Rattle.asl_machine.proofs.Ahead.{cuts_ahead}

-- ---- a call from outside writes nothing before its first node

list_quiet : (ss : List Act) (c : BareCore) → Quiet {E = Tree} (in_order ss c)
list_quiet [] c = tt
list_quiet (s ∷ ss) c = tt

lift_quiet : {A B : Type 0} (r : Pure A) (c : BareCore) (k : A → Runs B) → ((x : A) → Quiet (k x)) → Quiet (lift r c k)
lift_quiet (Good x) c k q = q x
lift_quiet (Bad e) c k q = tt

end_quiet : (span : Span) (r : Keeps) (back : BareCore → BareCore) (x : Exit) (c : BareCore) → Quiet (at_end {E = Tree} {S = Act} span r back x c)
end_quiet span r back (Returned x) c = lift_quiet (returned span r x) c (λ y. Ret y (back c)) (λ y. tt)
end_quiet span None back Normal c = tt
end_quiet span (Some f) back Normal c = tt

with_quiet : (span : Span) (id : ℕ) (f : TreeFunc) (ps xs : List Value) (c : BareCore) → Quiet (run_with span id f ps xs c)
with_quiet span id f ps xs c = lift_quiet (formals_seen span f.formals xs) c _ (λ ys. (list_quiet (acts_of f.body) _, end_quiet f.span (result_seen f.result) (restored c), λ x c1. tt))

func_quiet : (id : ℕ) (o : Option TreeFunc) (args : List Value) (c : BareCore) → Quiet (call_func id o args c)
func_quiet id None args c = tt
func_quiet id (Some f) args c = with_quiet f.span id f [] args c

tree_call_quiet : (p : TreeProgram) (id : ℕ) (args : List Value) (c : BareCore) → Quiet (tree_call p id args c)
tree_call_quiet p id args c = func_quiet id (slice_get p.funcs id) args c

-- ---- the same text

pub final_same : {A : Type 0} (r : Outcome Core A) → final (erased_outcome r) ≡ final r
final_same (Done x c h) = refl
final_same (Thrown x c h) = refl
final_same (Halt e c h) = refl

-- the text after a call of typed trees, had it this budget
tree_text : TreeProgram → ℕ → List Value → BareCore → Option (List ℕ) → ℕ → Option (List ℕ)
tree_text p id args c told budget = (final (tree_run p id args c (starting budget told))).told

tree_gives_up : (p : TreeProgram) (id : ℕ) (args : List Value) (c : BareCore) (steps : ℕ) (told : Option (List ℕ)) (u : Meter) →
    cuts (tree_meaning p most_open) (cuttings (tree_nodes p) most_open) (tree_call p id args c) (starting steps told) u →
    GivenUp (tree_text p id args c told) told u.told steps (steps - u.steps)
unfolding tree_text
tree_gives_up p id args c steps told u w = given_up (tree_nodes p) most_open (tree_call p id args c) (starting steps told) u (tree_call_quiet p id args c) w

-- where a run of typed trees is given up, the promise of the program's own run holds
pub gives_up_same : (env : Environment) (p : TreeProgram) (id : ℕ) (args : List Value) (globals : List Binding) (steps : ℕ) (told : Option (List ℕ)) (u : Meter) →
    ((h : Meter) → tree_run p id args (erased (resting globals)) h ≡ erased_outcome (run_of env id args globals h)) →
    cuts (tree_meaning p most_open) (cuttings (tree_nodes p) most_open) (tree_call p id args (erased (resting globals))) (starting steps told) u →
    GivenUp (text_of_run env id args globals told) told u.told steps (steps - u.steps)
unfolding tree_text
gives_up_same env p id args globals steps told u same w =
    carried (tree_text p id args (erased (resting globals)) told) (text_of_run env id args globals told) told u.told steps (steps - u.steps)
    (λ k. ap (λ r. (final r).told) (same (starting k told)) ∙ ap (λ h. h.told) (final_same (run_of env id args globals (starting k told))))
    (tree_gives_up p id args (erased (resting globals)) steps told u w)

-- ---- the same steps

-- a call leaves no more steps than it had
pub fewer_left : (env : Environment) (id : ℕ) (args : List Value) (globals : List Binding) (steps : ℕ) (told : Option (List ℕ)) →
    (final (run_of env id args globals (starting steps told))).steps ≤ steps
unfolding run_of
fewer_left env id args globals steps told =
    (run_after (meanings (nodes env) most_open) (grows (nodes env) most_open) (call_of env id args (resting globals)) (starting steps told)).steps

-- where a run of typed trees is given up, no step was given back, and the program's own run leaves no more
pub stepped_same : (env : Environment) (p : TreeProgram) (id : ℕ) (args : List Value) (globals : List Binding) (steps : ℕ) (told : Option (List ℕ)) (u : Meter) →
    ((h : Meter) → tree_run p id args (erased (resting globals)) h ≡ erased_outcome (run_of env id args globals h)) →
    cuts (tree_meaning p most_open) (cuttings (tree_nodes p) most_open) (tree_call p id args (erased (resting globals))) (starting steps told) u →
    Stepped steps u.steps (final (run_of env id args globals (starting steps told)))
stepped_same env p id args globals steps told u same w =
    let n = tree_nodes p in
    let q = tree_call p id args (erased (resting globals)) in
    let a = cuts_after (tree_meaning p most_open) (cuttings n most_open) (kept n most_open) q (starting steps told) u w in
    record {
      fewer = a.steps;
      no_more =
          subst (λ (h : Meter). h.steps ≤ u.steps) (ap final (same (starting steps told)) ∙ final_same (run_of env id args globals (starting steps told)))
          (cuts_ahead n most_open q (starting steps told) u w);
    }

-- ---- how it ends

with_own : (old bs : List Binding) → SameBut old bs → bs ≡ with_values old (values_of bs)
with_own [] [] s = refl
with_own [] (b ∷ bs) s = absurd s
with_own (a ∷ rest) [] s = absurd s
with_own (a ∷ rest) (b ∷ bs) s = ap (λ z. z ∷ bs) s.0 ∙ ap (λ zs. record a { value = b.value } ∷ zs) (with_own rest bs s.1)

IsDone : {A : Type 0} → Outcome BareCore A → Type 0
IsDone (Done x c h) = Unit {0}
IsDone (Thrown x c h) = ⊥
IsDone (Halt e c h) = ⊥

IsThrown : {A : Type 0} → Outcome BareCore A → Type 0
IsThrown (Done x c h) = ⊥
IsThrown (Thrown x c h) = Unit {0}
IsThrown (Halt e c h) = ⊥

IsHalt : {A : Type 0} → Outcome BareCore A → Type 0
IsHalt (Done x c h) = ⊥
IsHalt (Thrown x c h) = ⊥
IsHalt (Halt e c h) = Unit {0}

given_in : {A : Type 0} → A → Outcome BareCore A → A
given_in d (Done x c h) = x
given_in d (Thrown x c h) = d
given_in d (Halt e c h) = d

thrown_in : {A : Type 0} → Value → Outcome BareCore A → Value
thrown_in d (Done x c h) = d
thrown_in d (Thrown x c h) = x
thrown_in d (Halt e c h) = d

end_in : {A : Type 0} → End → Outcome BareCore A → End
end_in d (Done x c h) = d
end_in d (Thrown x c h) = d
end_in d (Halt e c h) = e

core_in : {A : Type 0} → Outcome BareCore A → BareCore
core_in (Done x c h) = c
core_in (Thrown x c h) = c
core_in (Halt e c h) = c

core_is : (globals : List Binding) (c1 : Core) (c : BareCore) → Kept globals c1 → erased c1 ≡ c → c1.globals ≡ with_values globals c.globals
core_is globals c1 c k e = with_own globals c1.globals k ∙ ap (λ (b : BareCore). with_values globals b.globals) e

-- where the run of typed trees returned, the untyped run did, with these globals
pub done_same : {A : Type 0} (globals : List Binding) (r : Outcome Core A) (x : A) (c : BareCore) (h : Meter) → EndsIn (Kept globals) r → AtRest r → erased_outcome r ≡ Done x c h → r ≡ Done x (resting (with_values globals c.globals)) h
unfolding IsDone given_in core_in
done_same globals (Done y c1 h1) x c h k a e =
    ap (λ z. Done z c1 h1) (ap (given_in y) e) ∙ ap (λ z. Done x z h1) (a ∙ ap resting (core_is globals c1 c k (ap core_in e))) ∙ ap (λ z. Done x (resting (with_values globals c.globals)) z) (ap final e)
done_same globals (Thrown y c1 h1) x c h k a e = absurd (subst IsDone (sym e) tt)
done_same globals (Halt y c1 h1) x c h k a e = absurd (subst IsDone (sym e) tt)

pub thrown_same : {A : Type 0} (globals : List Binding) (r : Outcome Core A) (x : Value) (c : BareCore) (h : Meter) → EndsIn (Kept globals) r → AtRest r → erased_outcome r ≡ Thrown x c h → r ≡ Thrown x (resting (with_values globals c.globals)) h
unfolding IsThrown thrown_in core_in
thrown_same globals (Thrown y c1 h1) x c h k a e =
    ap (λ z. Thrown z c1 h1) (ap (thrown_in y) e) ∙ ap (λ z. Thrown x z h1) (a ∙ ap resting (core_is globals c1 c k (ap core_in e))) ∙ ap (λ z. Thrown x (resting (with_values globals c.globals)) z) (ap final e)
thrown_same globals (Done y c1 h1) x c h k a e = absurd (subst IsThrown (sym e) tt)
thrown_same globals (Halt y c1 h1) x c h k a e = absurd (subst IsThrown (sym e) tt)

-- where it halted, the untyped run did, in a state with these globals
pub record HaltsSame {A : Type 0} (globals : List Binding) (xs : List Value) (r : Outcome Core A) (end : End) (h : Meter) : Type 0 where
  pub core : Core
  pub globals_are : core.globals ≡ with_values globals xs
  pub is : r ≡ Halt end core h

pub halt_same : {A : Type 0} (globals : List Binding) (r : Outcome Core A) (end : End) (c : BareCore) (h : Meter) → EndsIn (Kept globals) r → erased_outcome r ≡ Halt end c h → HaltsSame globals c.globals r end h
unfolding IsHalt end_in core_in
halt_same globals (Halt y c1 h1) end c h k e = record { core = c1; globals_are = core_is globals c1 c k (ap core_in e); is = ap (λ z. Halt z c1 h1) (ap (end_in y) e) ∙ ap (λ z. Halt end c1 z) (ap final e) }
halt_same globals (Done y c1 h1) end c h k e = absurd (subst IsHalt (sym e) tt)
halt_same globals (Thrown y c1 h1) end c h k e = absurd (subst IsHalt (sym e) tt)
