-- A call of the typed trees of a sealed program says how the program's own call ends.
use mathlib.Core.HLevel.{⊥_prop}
use Rattle.std.proofs.Common.{◌≡◌, ℕ, ◌-◌, ◌≤◌, false, List, [], ◌∷◌, Option, Some, Result, Ok, Err, refl, sym, ap, ◌∙◌, subst, map, length, suc, arith}
use Rattle.std.proofs.Math.Logic.{∥∥₁_elim, ∥∥₁_map, ∥∥₁_prop}
use Rattle.std.specs.Prelude.{option_map, slice_get, OnOk}
use Rattle.asl_bits.specs.declared.TheConstants.{WIDTH_LIMIT}
use Rattle.asl_rules.specs.private.Agreement.{types_in, no_atoms, GlobalsMatch}
use Rattle.asl_rules.specs.private.Belonging.{Belong}
use Rattle.asl_rules.specs.runs.Cuts.{cuts}
use Rattle.asl_rules.specs.private.Erasure.{values_of, erased, erased_outcome}
use Rattle.asl_rules.specs.runs.Machines.{GivenUp, most_open, run_of}
use Rattle.asl_rules.specs.runs.Plans.{Meter, Mistake, starting, Outcome, Done, Thrown, Halt, Faulted, Stuck, final}
use Rattle.asl_rules.specs.declarations.Programs.{Accepted, accepted, verdict, environment}
use Rattle.asl_laws.specs.Soundness.{NotStuck, KeepsGlobals, IsCall, Soundness, SameMeaning, trees_of, tree_run}
use Rattle.asl_rules.specs.runs.States.{Binding, Core, resting}
use Rattle.asl_rules.specs.Tests.{Tests}
use Rattle.asl_rules.specs.private.TypedMeaning.{BareCore, tree_call}
use Rattle.asl_rules.specs.values.Values as rules
use Rattle.asl_laws.proofs.runs.GlobalsKept.{SameBut, Kept, AtRest, run_of_keeps, run_of_rests}
use Rattle.asl_rules.proofs.basics.Inversions.{ok_ok}
use Rattle.asl_laws.proofs.runs.PlansKeep.{EndsIn}
use Rattle.asl_laws.proofs.soundness.Soundness.{soundness}
use Rattle.asl_laws.proofs.soundness.SoundnessFacts.{facts_of}
use Rattle.asl_syn.specs.declared.token.Span.{Span}
use Rattle.asl_tree.specs.Funcs.{all_funcs}
use Rattle.asl_tree.specs.Sealed.{Sealed, IsMade, IsSealed}
use Rattle.asl_tree.specs.declared.act.TreeFunc.{TreeFunc}
use Rattle.asl_tree.specs.declared.checked.Global.{Global}
use Rattle.asl_types.specs.Suits.{Suits}
use Rattle.asl_value.specs.View.{value_of}
use Rattle.asl_value.specs.declared.value.Value.{Value}
use Rattle.asl_branches.specs.declared.run.Run.{Run}
use Rattle.asl_branches.specs.declared.stop.Stop.{Stop}
use Rattle.asl_branches.specs.declared.stop.Stop.TheVariants as stop
use Rattle.asl_branches.specs.Meets.{Meets, Runs}
use Rattle.asl_branches.specs.View.{mistake_of, core_of, meter_of, program_of, meaning_of, cutting_of}
use Rattle.asl_machine.specs.Stages.{CallMeets, Halted, IfRan}
use Rattle.asl_machine.specs.Storage.{with_values}
use Rattle.asl_machine.specs.Took.{Stepped}
use Rattle.asl_machine.specs.Work.{initial_of, globals_with, IsHeld, HoldStorage, IsCallable, run_over, text_over}
use Rattle.asl_machine.proofs.SameEnds.{final_same, fewer_left, stepped_same, done_same, thrown_same, halt_same, gives_up_same}
use Rattle.asl_machine.proofs.Sets.{outcome_set}

-- ---- what is known of a program and its call

-- the program was accepted, it is sound, and its typed trees do what its own trees do
record Known (t : Tests) (c : Sealed) (fs : List TreeFunc) (id : ℕ) (args : List rules.Value) (values : List Value) : Type 0 where
  accepted : Accepted
  sound : Soundness t c.decls accepted
  same : SameMeaning t c.decls accepted
  call : IsCall accepted id args (globals_with t c values)
  trees : accepted.funcs ≡ all_funcs fs
  is : verdict c.asked c.decls t ≡ Ok accepted

known : (t : Tests) (r : Suits t) (c : Sealed) (fs : List TreeFunc) (gs : List Global) (id : ℕ) (args : List rules.Value) (values : List Value) → IsMade t c.decls c.asked c.entries fs gs → IsHeld t c values → IsCallable t c id args → Known t c fs id args values
known t r c fs gs id args values m h k =
    let a : Accepted = accepted c.asked c.entries m.signatures (all_funcs fs) m.names in
    let both = soundness t r.right c.decls a (facts_of t c.asked c.decls a m.accepts) m.grown in
    let mine : h.accepted ≡ a = ok_ok h.accepted a (sym h.is ∙ m.accepts) in
    let its : k.accepted ≡ a = ok_ok k.accepted a (sym k.is ∙ m.accepts) in
    record {
      accepted = a;
      sound = both.0;
      same = both.1;
      call = record {
        signature = k.signature;
        is = subst (λ (z : Accepted). slice_get z.signatures id ≡ Some k.signature) its k.called;
        no_params = k.no_params;
        args_belong = subst (λ (z : Accepted). Belong (types_in z.names) no_atoms args k.signature.formals) its k.args_belong;
        globals_match = subst (λ (z : Accepted). GlobalsMatch z.names (globals_with t c values)) mine h.match;
      };
      trees = refl;
      is = m.accepts;
    }

-- ---- the same call

program_is : (t : Tests) → Suits t → (a : Accepted) (fs : List TreeFunc) → a.funcs ≡ all_funcs fs → trees_of t a ≡ program_of fs
program_is t r a fs e = ap (λ n. record { funcs = a.funcs; limit = n }) r.limit ∙ ap (λ zs. record { funcs = zs; limit = WIDTH_LIMIT }) e

abbrev Same : Tests → Sealed → List TreeFunc → ℕ → List rules.Value → List Value → Type 0
Same t c fs id args values = (h : Meter) → tree_run (program_of fs) id args (erased (resting (globals_with t c values))) h ≡ erased_outcome (run_of (environment t c.decls) id args (globals_with t c values) h)

same_run : (t : Tests) → Suits t → (c : Sealed) (fs : List TreeFunc) (gs : List Global) → IsSealed c.decls c.asked c.entries fs gs → (id : ℕ) (args : List rules.Value) (values : List Value) → HoldStorage c values → IsCallable t c id args → Same t c fs id args values
same_run t r c fs gs sealed id args values held call h =
    ∥∥₁_elim (sealed t r) (outcome_set _ _) (λ m. ∥∥₁_elim (held t r) (outcome_set _ _) (λ d.
    let k = known t r c fs gs id args values m d call in
    ap (λ p. tree_run p id args (erased (resting (globals_with t c values))) h) (sym (program_is t r k.accepted fs k.trees)) ∙ k.same.call id args (globals_with t c values) h k.call))

-- it isn't stuck
not_stuck : (r : Outcome Core (Option rules.Value)) (m : Mistake) (span : Span) (c : Core) (k : Meter) → NotStuck r → r ≡ Halt (Stuck m span) c k → ⊥
not_stuck r m span c k n e = subst NotStuck e n

stuck_never : (t : Tests) → Suits t → (c : Sealed) (fs : List TreeFunc) (gs : List Global) → IsSealed c.decls c.asked c.entries fs gs → (id : ℕ) (args : List rules.Value) (values : List Value) → HoldStorage c values → IsCallable t c id args →
    (h : Meter) (m : Mistake) (span : Span) (core : Core) (k : Meter) → run_of (environment t c.decls) id args (globals_with t c values) h ≡ Halt (Stuck m span) core k → ⊥
stuck_never t r c fs gs sealed id args values held call h m span core k e =
    ∥∥₁_elim (sealed t r) ⊥_prop (λ p. ∥∥₁_elim (held t r) ⊥_prop (λ d.
    let w = known t r c fs gs id args values p d call in
    not_stuck (run_of (environment t c.decls) id args (globals_with t c values) h) m span core k (w.sound.never_stuck id args (globals_with t c values) h w.call) e))

done_keeps : (names : _) (r : Outcome Core (Option rules.Value)) (x : Option rules.Value) (c : Core) (k : Meter) → KeepsGlobals names r → r ≡ Done x c k → GlobalsMatch names c.globals
done_keeps names r x c k n e = subst (KeepsGlobals names) e n

-- ---- the values of the globals

unvalued : (bs cs : List Binding) (xs : List rules.Value) → SameBut (with_values bs xs) cs → SameBut bs cs
unvalued [] [] xs s = tt
unvalued [] (c ∷ cs) xs s = absurd s
unvalued (b ∷ bs) [] [] s = absurd s
unvalued (b ∷ bs) [] (x ∷ xs) s = absurd s
unvalued (b ∷ bs) (c ∷ cs) [] s = s
unvalued (b ∷ bs) (c ∷ cs) (x ∷ xs) s = (s.0, unvalued bs cs xs s.1)

kept_under : (bs : List Binding) (xs : List rules.Value) (r : Outcome Core (Option rules.Value)) → EndsIn (Kept (with_values bs xs)) r → EndsIn (Kept bs) r
kept_under bs xs (Done x c h) k = unvalued bs c.globals xs k
kept_under bs xs (Thrown x c h) k = unvalued bs c.globals xs k
kept_under bs xs (Halt e c h) k = unvalued bs c.globals xs k

length_with : (bs : List Binding) (xs : List rules.Value) → length (with_values bs xs) ≡ length bs
length_with [] xs = refl
length_with (b ∷ bs) [] = refl
length_with (b ∷ bs) (x ∷ xs) = ap suc (length_with bs xs)

values_with : (bs : List Binding) (xs : List rules.Value) → length xs ≡ length bs → values_of (with_values bs xs) ≡ xs
values_with [] [] h = refl
values_with [] (x ∷ xs) h = absurd (omega (arith, h))
values_with (b ∷ bs) [] h = absurd (omega (arith, h))
values_with (b ∷ bs) (x ∷ xs) h = ap (λ z. x ∷ z) (values_with bs xs (omega (arith, h)))

same_length : (bs cs : List Binding) → SameBut bs cs → length (values_of cs) ≡ length bs
same_length [] [] s = refl
same_length [] (c ∷ cs) s = absurd s
same_length (b ∷ bs) [] s = absurd s
same_length (b ∷ bs) (c ∷ cs) s = ap suc (same_length bs cs s.1)

-- ---- how it ends

halted : (bs : List Binding) (r : Outcome Core (Option rules.Value)) (code : _) (span : _) (c : BareCore) (h : Meter) → EndsIn (Kept bs) r → erased_outcome r ≡ Halt (Faulted code span) c h → Halted (with_values bs c.globals) h r code span
halted bs r code span c h k e = let s = halt_same bs r (Faulted code span) c h k e in record { core = s.core; globals_are = s.globals_are; is = s.is }

stuck : (bs : List Binding) (r : Outcome Core (Option rules.Value)) (m : _) (span : _) (c : BareCore) (h : Meter) → EndsIn (Kept bs) r → erased_outcome r ≡ Halt (Stuck m span) c h → ((core : Core) → r ≡ Halt (Stuck m span) core h → ⊥) → ⊥
stuck bs r m span c h k e never = let s = halt_same bs r (Stuck m span) c h k e in never s.core s.is

-- the state of a run that begins over these values
pub record Begins (run : Run) (values : List Value) : Type 0 where
  pub globals : run.frames.globals ≡ values
  pub frame : run.frames.values ≡ []
  pub handled : run.handled.items ≡ []
  pub callers : run.frames.callers ≡ []
  pub live : run.live.items ≡ []
  pub text : run.text_open ≡ false

begun_core : (t : Tests) (c : Sealed) (run : Run) (values : List Value) → Begins run values → length (map value_of values) ≡ length (initial_of t c) → core_of run ≡ erased (resting (globals_with t c values))
begun_core t c run values b n =
    rw (b.frame, b.handled, b.callers, b.live, b.globals)
    (ap (λ (xs : List rules.Value). let z : BareCore = record { globals = xs; frame = []; handled = []; callers = []; live = [] } in z) (sym (values_with (initial_of t c) (map value_of values) n)))

begun_meter : (run : Run) (values : List Value) (told : Option (List ℕ)) → Begins run values → meter_of run told ≡ starting run.steps told
begun_meter run values told b = rw b.text refl

-- an answer of a call of the typed trees, with the run and the told text after it, over these values of storage
abbrev MetOver : Tests → Sealed → List TreeFunc → ℕ → List rules.Value → List Value → ℕ → Option (List ℕ) → Run → Option (List ℕ) →
    Result (Option Value) Stop → Type 0
MetOver t c fs id args values steps told ended told1 result =
    let start : BareCore = erased (resting (globals_with t c values)) in
    Meets (option_map value_of) result (core_of ended) (meter_of ended told1) (tree_run (program_of fs) id args start (starting steps told))
    (cuts (meaning_of fs most_open) (cutting_of fs most_open) (tree_call (program_of fs) id args start) (starting steps told))

met_over : (t : Tests) (c : Sealed) (fs : List TreeFunc) (id : ℕ) (args : List rules.Value) (values : List Value) →
    length (map value_of values) ≡ length (initial_of t c) → (begun ended : Run) → Begins begun values → (told told1 : Option (List ℕ)) (result : Result (Option Value) Stop) →
    Runs (option_map value_of) result fs most_open (tree_call (program_of fs) id args) begun told ended told1 →
    MetOver t c fs id args values begun.steps told ended told1 result
met_over t c fs id args values n begun ended b told told1 result met =
    let p = program_of fs in
    let met_at : BareCore → Meter → Type 0 =
    λ z h. Meets (option_map value_of) result (core_of ended) (meter_of ended told1) (tree_run p id args z h)
    (cuts (meaning_of fs most_open) (cutting_of fs most_open) (tree_call p id args z) h) in
    subst (met_at (erased (resting (globals_with t c values)))) (begun_meter begun values told b)
    (subst (λ z. met_at z (meter_of begun told)) (begun_core t c begun values b n) met)

-- over the values of storage, a call of the typed trees ends as the program's does
pub call_meets : (t : Tests) → Suits t → (c : Sealed) (fs : List TreeFunc) (gs : List Global) → IsSealed c.decls c.asked c.entries fs gs → (id : ℕ) (args : List rules.Value) (values : List Value) → HoldStorage c values → IsCallable t c id args →
    length (map value_of values) ≡ length (initial_of t c) → (begun ended : Run) → Begins begun values → (after : List Value) → after ≡ ended.frames.globals → (told told1 : Option (List ℕ)) (result : Result (Option Value) Stop) →
    Runs (option_map value_of) result fs most_open (tree_call (program_of fs) id args) begun told ended told1 →
    CallMeets result (globals_with t c after) (meter_of ended told1) (run_over t c id args values begun.steps told) (GivenUp (text_over t c id args values told) told told1 begun.steps (begun.steps - ended.steps))
call_meets t r c fs gs sealed id args values held call n begun ended b after same told told1 result met =
    ends result (met_over t c fs id args values n begun ended b told told1 result met)
  where
    start : BareCore
    start = erased (resting (globals_with t c values))

    bare : BareCore
    bare = core_of ended

    h1 : Meter
    h1 = meter_of ended told1

    o : Outcome Core (Option rules.Value)
    o = run_over t c id args values begun.steps told

    kept : EndsIn (Kept (initial_of t c)) o
    kept = kept_under (initial_of t c) (map value_of values) o (run_of_keeps (environment t c.decls) id args (globals_with t c values) (starting begun.steps told))

    rests : AtRest o
    rests = run_of_rests (environment t c.decls) id args (globals_with t c values) (starting begun.steps told)

    is_same : Same t c fs id args values
    is_same = same_run t r c fs gs sealed id args values held call

    globals_are : with_values (initial_of t c) bare.globals ≡ globals_with t c after
    globals_are = ap (λ xs. globals_with t c xs) (sym same)

    ends : (result : Result (Option Value) Stop) →
        Meets (option_map value_of) result bare h1 (tree_run (program_of fs) id args start (starting begun.steps told)) (cuts (meaning_of fs most_open) (cutting_of fs most_open) (tree_call (program_of fs) id args start) (starting begun.steps told)) →
        CallMeets result (globals_with t c after) h1 o (GivenUp (text_over t c id args values told) told told1 begun.steps (begun.steps - ended.steps))
    ends (Ok x) e = done_same (initial_of t c) o (option_map value_of x) bare h1 kept rests (sym (is_same (starting begun.steps told)) ∙ e) ∙ ap (λ bs. Done (option_map value_of x) (resting bs) h1) globals_are
    ends (Err stop.NoMemory) w = gives_up_same (environment t c.decls) (program_of fs) id args (globals_with t c values) begun.steps told h1 is_same w
    ends (Err stop.SinkFault) w = gives_up_same (environment t c.decls) (program_of fs) id args (globals_with t c values) begun.steps told h1 is_same w
    ends (Err (stop.Thrown x)) e = thrown_same (initial_of t c) o (value_of x) bare h1 kept rests (sym (is_same (starting begun.steps told)) ∙ e) ∙ ap (λ bs. Thrown (value_of x) (resting bs) h1) globals_are
    ends (Err (stop.Fault code span)) e = subst (λ bs. Halted bs h1 o code span) globals_are (halted (initial_of t c) o code span bare h1 kept (sym (is_same (starting begun.steps told)) ∙ e))
    ends (Err (stop.Stuck mistake span)) e =
        stuck (initial_of t c) o (mistake_of mistake) span bare h1 kept (sym (is_same (starting begun.steps told)) ∙ e) (λ core is. stuck_never t r c fs gs sealed id args values held call (starting begun.steps told) (mistake_of mistake) span core h1 is)

-- it gives no step back, nor takes more than the whole call of the program takes
pub call_steps : (t : Tests) → Suits t → (c : Sealed) (fs : List TreeFunc) (gs : List Global) → IsSealed c.decls c.asked c.entries fs gs →
    (id : ℕ) (args : List rules.Value) (values : List Value) → HoldStorage c values → IsCallable t c id args →
    length (map value_of values) ≡ length (initial_of t c) → (begun ended : Run) → Begins begun values → (told told1 : Option (List ℕ)) (result : Result (Option Value) Stop) →
    Runs (option_map value_of) result fs most_open (tree_call (program_of fs) id args) begun told ended told1 →
    Stepped begun.steps ended.steps (final (run_over t c id args values begun.steps told))
call_steps t r c fs gs sealed id args values held call n begun ended b told told1 result met =
    by result (met_over t c fs id args values n begun ended b told told1 result met)
  where
    o : Outcome Core (Option rules.Value)
    o = run_over t c id args values begun.steps told

    is_same : Same t c fs id args values
    is_same = same_run t r c fs gs sealed id args values held call

    ran : (z : Outcome BareCore (Option rules.Value)) → tree_run (program_of fs) id args (erased (resting (globals_with t c values))) (starting begun.steps told) ≡ z →
        (final z).steps ≡ ended.steps → Stepped begun.steps ended.steps (final o)
    ran z e same =
        let left : (final o).steps ≡ ended.steps =
        ap (λ h. h.steps) (sym (final_same o) ∙ ap final (sym (is_same (starting begun.steps told)) ∙ e)) ∙ same in
        let fewer : (final o).steps ≤ begun.steps = fewer_left (environment t c.decls) id args (globals_with t c values) begun.steps told in
        record { fewer = omega (arith, left, fewer); no_more = omega (arith, left) }

    by : (result : Result (Option Value) Stop) → MetOver t c fs id args values begun.steps told ended told1 result → Stepped begun.steps ended.steps (final o)
    by (Ok x) e = ran _ e refl
    by (Err stop.NoMemory) w = stepped_same (environment t c.decls) (program_of fs) id args (globals_with t c values) begun.steps told (meter_of ended told1) is_same w
    by (Err stop.SinkFault) w = stepped_same (environment t c.decls) (program_of fs) id args (globals_with t c values) begun.steps told (meter_of ended told1) is_same w
    by (Err (stop.Thrown x)) e = ran _ e refl
    by (Err (stop.Fault code span)) e = ran _ e refl
    by (Err (stop.Stuck mistake span)) e = ran _ e refl

-- ---- the storage after it

held_for : (t : Tests) (r : Suits t) (c : Sealed) (fs : List TreeFunc) (gs : List Global) (id : ℕ) (args : List rules.Value) (values after : List Value) → IsMade t c.decls c.asked c.entries fs gs → IsHeld t c values → IsCallable t c id args →
    (h h1 : Meter) (x : Option rules.Value) → run_of (environment t c.decls) id args (globals_with t c values) h ≡ Done x (resting (globals_with t c after)) h1 → IsHeld t c after
held_for t r c fs gs id args values after m d call h h1 x e =
    let k = known t r c fs gs id args values m d call in
    record { accepted = k.accepted; is = k.is; match = done_keeps k.accepted.names (run_of (environment t c.decls) id args (globals_with t c values) h) x (resting (globals_with t c after)) h1 (k.sound.keeps_globals id args (globals_with t c values) h k.call) e }

-- where it returned, the storage is as the program declares it
pub returned_held : (c : Sealed) (fs : List TreeFunc) (gs : List Global) → IsSealed c.decls c.asked c.entries fs gs → (id : ℕ) (args : List rules.Value) (values after : List Value) → HoldStorage c values → ((t : Tests) → Suits t → IsCallable t c id args) →
    (steps : ℕ) (told : Option (List ℕ)) (h1 : Meter) (P : Tests → Type 0) (result : Result (Option Value) Stop) →
    ((t : Tests) → Suits t → CallMeets result (globals_with t c after) h1 (run_over t c id args values steps told) (P t)) → OnOk result (HoldStorage c after)
returned_held c fs gs sealed id args values after held call steps told h1 P (Ok x) e =
    λ t r. ∥∥₁_elim (sealed t r) ∥∥₁_prop (λ m. ∥∥₁_map (held t r) (λ d. held_for t r c fs gs id args values after m d (call t r) (starting steps told) h1 (option_map value_of x) (e t r)))
returned_held c fs gs sealed id args values after held call steps told h1 P (Err x) e = tt

-- as many values as there is storage
room_in : (bs : List Binding) (r : Outcome Core (Option rules.Value)) → EndsIn (Kept bs) r → EndsIn (λ (z : BareCore). length z.globals ≡ length bs) (erased_outcome r)
room_in bs (Done x c h) k = same_length bs c.globals k
room_in bs (Thrown x c h) k = same_length bs c.globals k
room_in bs (Halt e c h) k = same_length bs c.globals k

pub room_after : (t : Tests) → Suits t → (c : Sealed) (fs : List TreeFunc) (gs : List Global) → IsSealed c.decls c.asked c.entries fs gs → (id : ℕ) (args : List rules.Value) (values : List Value) → HoldStorage c values → IsCallable t c id args →
    length (map value_of values) ≡ length (initial_of t c) → (begun ended : Run) → Begins begun values → (told told1 : Option (List ℕ)) (result : Result (Option Value) Stop) →
    Runs (option_map value_of) result fs most_open (tree_call (program_of fs) id args) begun told ended told1 → IfRan result (length (map value_of ended.frames.globals) ≡ length (initial_of t c))
room_after t r c fs gs sealed id args values held call n begun ended b told told1 result met = by result (met)
  where
    o : Outcome Core (Option rules.Value)
    o = run_of (environment t c.decls) id args (globals_with t c values) (meter_of begun told)

    same : tree_run (program_of fs) id args (core_of begun) (meter_of begun told) ≡ erased_outcome o
    same = ap (λ z. tree_run (program_of fs) id args z (meter_of begun told)) (begun_core t c begun values b n) ∙ same_run t r c fs gs sealed id args values held call (meter_of begun told)

    roomy : EndsIn (λ (z : BareCore). length z.globals ≡ length (initial_of t c)) (tree_run (program_of fs) id args (core_of begun) (meter_of begun told))
    roomy = subst (EndsIn (λ (z : BareCore). length z.globals ≡ length (initial_of t c))) (sym same)
        (room_in (initial_of t c) o (kept_under (initial_of t c) (map value_of values) o (run_of_keeps (environment t c.decls) id args (globals_with t c values) (meter_of begun told))))

    by : (result : Result (Option Value) Stop) → Runs (option_map value_of) result fs most_open (tree_call (program_of fs) id args) begun told ended told1 → IfRan result (length (map value_of ended.frames.globals) ≡ length (initial_of t c))
    by (Ok x) e = subst (EndsIn (λ (z : BareCore). length z.globals ≡ length (initial_of t c))) e roomy
    by (Err stop.NoMemory) w = tt
    by (Err stop.SinkFault) w = tt
    by (Err (stop.Thrown x)) e = subst (EndsIn (λ (z : BareCore). length z.globals ≡ length (initial_of t c))) e roomy
    by (Err (stop.Fault code span)) e = subst (EndsIn (λ (z : BareCore). length z.globals ≡ length (initial_of t c))) e roomy
    by (Err (stop.Stuck mistake span)) e = subst (EndsIn (λ (z : BareCore). length z.globals ≡ length (initial_of t c))) e roomy

-- no answer of a call is stuck
pub not_met : (result : Result (Option Value) Stop) (mistake : _) (span : Span) (globals : List Binding) (h : Meter) (o : Outcome Core (Option rules.Value)) (P : Type 0) → result ≡ Err (stop.Stuck mistake span) → CallMeets result globals h o P → ⊥
not_met result mistake span globals h o P e met = subst (λ r. CallMeets r globals h o P) e met
