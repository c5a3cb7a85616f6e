-- A call over the memory of a machine: its values are moved into a run and back.
use Rattle.std.proofs.Common.{◌≡◌, ℕ, ◌-◌, ◌≤◌, Bool, List, [], Option, Some, Result, Ok, Err, refl, sym, ap, ◌∙◌, subst, map, length}
use Rattle.std.specs.Prelude.{option_map, OnOk}
use Rattle.asl_rules.specs.runs.Machines.{GivenUp, most_open}
use Rattle.asl_rules.specs.declarations.Programs.{environment}
use Rattle.asl_rules.specs.runs.Plans.{final}
use Rattle.asl_rules.specs.Tests.{Tests}
use Rattle.asl_rules.specs.private.TypedMeaning.{tree_call}
use Rattle.asl_rules.specs.values.Values as rules
use Rattle.asl_tree.specs.Sealed.{Sealed, IsSealed}
use Rattle.asl_tree.specs.declared.act.TreeFunc.{TreeFunc}
use Rattle.asl_tree.specs.declared.checked.Global.{Global}
use Rattle.asl_types.specs.Suits.{Suits}
use Rattle.asl_value.specs.View.{value_of}
use Rattle.asl_value.specs.declared.value.Value.{Value}
use Rattle.asl_branches.specs.declared.run.Run.{Run}
use Rattle.asl_branches.specs.declared.stop.Stop.{Stop}
use Rattle.asl_branches.specs.declared.stop.Stop.TheVariants as stop
use Rattle.asl_branches.specs.Meets.{Runs}
use Rattle.asl_branches.specs.View.{meter_of, program_of}
use Rattle.asl_machine.specs.private.Calls.{RanNoted}
use Rattle.asl_machine.specs.private.Memory.{arranged, held, named, storage_of}
use Rattle.asl_machine.specs.Stages.{CallMeets, IfRan}
use Rattle.asl_machine.specs.Storage.{given, taken}
use Rattle.asl_machine.specs.Took.{Took, Stepped}
use Rattle.asl_machine.specs.Work.{initial_of, globals_with, Arranged, IsCallable, run_over, text_over}
use Rattle.asl_machine.specs.declared.memory.Memory.{Memory}
use Rattle.asl_machine.proofs.After.{room, arranged_after, arranged_named}
use Rattle.asl_machine.proofs.Behind.{given_up_behind, meets_behind, noted_behind, steps_behind, took}
use Rattle.asl_machine.proofs.Exchange.{back, names, same_names}
use Rattle.asl_machine.proofs.SameRuns.{Begins, call_meets, call_steps, returned_held, room_after}

-- values were moved from a memory into a run that begins, and from the run that ended back into it
pub record Moved (old between new : Memory) (begun ended : Run) : Type 0 where
  pub begins : Begins begun (storage_of old)
  pub steps : begun.steps ≡ old.steps
  pub marks : between.marks.items ≡ old.marks.items
  pub vars : between.vars.items ≡ taken old.marks.items old.values.items old.vars.items
  pub marks_back : new.marks.items ≡ between.marks.items
  pub values_back : new.values.items ≡ given between.marks.items ended.frames.globals between.vars.items
  pub vars_back : new.vars.items ≡ taken between.marks.items ended.frames.globals between.vars.items
  pub steps_back : new.steps ≡ ended.steps

-- the storage is what the run left
storage_is : (old between new : Memory) (begun ended : Run) → Moved old between new begun ended → storage_of new ≡ ended.frames.globals
storage_is old between new begun ended m =
    ap (λ ms. given ms new.values.items new.vars.items) m.marks_back ∙ ap (λ xs. given between.marks.items xs new.vars.items) m.values_back ∙
    ap (λ vs. given between.marks.items (given between.marks.items ended.frames.globals between.vars.items) vs) m.vars_back ∙ back between.marks.items ended.frames.globals between.vars.items

arranged_is : (c : Sealed) (old between new : Memory) (begun ended : Run) → Moved old between new begun ended → ((t : Tests) → Suits t → length (map value_of ended.frames.globals) ≡ length (initial_of t c)) → arranged c old → arranged c new
arranged_is c old between new begun ended m n a =
    let vars : new.vars.items ≡ taken old.marks.items ended.frames.globals (taken old.marks.items old.values.items old.vars.items) =
    m.vars_back ∙ ap (λ ms. taken ms ended.frames.globals between.vars.items) m.marks ∙ ap (λ vs. taken old.marks.items ended.frames.globals vs) m.vars in
    let values : new.values.items ≡ given old.marks.items ended.frames.globals (taken old.marks.items old.values.items old.vars.items) =
    m.values_back ∙ ap (λ ms. given ms ended.frames.globals between.vars.items) m.marks ∙ ap (λ vs. given old.marks.items ended.frames.globals vs) m.vars in
    subst (λ ms. Arranged c ms new.values.items new.vars.items) (sym (m.marks_back ∙ m.marks))
    (subst (λ xs. Arranged c old.marks.items xs new.vars.items) (sym values)
    (subst (λ vs. Arranged c old.marks.items (given old.marks.items ended.frames.globals (taken old.marks.items old.values.items old.vars.items)) vs) (sym vars)
    (arranged_after c old.marks.items old.values.items ended.frames.globals old.vars.items n a)))

-- the variables have the names that they had
named_is : (c : Sealed) (old between new : Memory) (begun ended : Run) → Moved old between new begun ended → named c old → named c new
named_is c old between new begun ended m n t u =
    ap names m.vars_back ∙ same_names between.marks.items ended.frames.globals between.vars.items ∙ ap names m.vars ∙
    same_names old.marks.items old.values.items old.vars.items ∙ n t u

module _ (c : Sealed) (fs : List TreeFunc) (gs : List Global) (sealed : IsSealed c.decls c.asked c.entries fs gs) (id : ℕ) (args : List rules.Value) (call : (t : Tests) → Suits t → IsCallable t c id args)
    (old between new : Memory) (begun ended : Run) (a : arranged c old) (h : held c old) (m : Moved old between new begun ended) (told told1 : Option (List ℕ)) (result : Result (Option Value) Stop)
    (number : ℕ) (same : number ≡ id) (is_open : Bool) (opened : new.text_open ≡ is_open)
    (ran : RanNoted (λ own. Runs (option_map value_of) result fs most_open (tree_call (program_of fs) number args) begun (Some []) ended own) told told1 is_open) where
  own : Runs (option_map value_of) result fs most_open (tree_call (program_of fs) id args) begun (Some []) ended ran.own
  own = subst (λ n. Runs (option_map value_of) result fs most_open (tree_call (program_of fs) n args) begun (Some []) ended ran.own) same ran.met

  roomy_before : (t : Tests) → Suits t → length (map value_of (storage_of old)) ≡ length (initial_of t c)
  roomy_before t u = room t u c old.marks.items old.values.items old.vars.items a

  abbrev OwnMeets : Tests → Type 0
  OwnMeets t = CallMeets result (globals_with t c (storage_of new)) (meter_of ended ran.own) (run_over t c id args (storage_of old) begun.steps (Some []))
      (GivenUp (text_over t c id args (storage_of old) (Some [])) (Some []) ran.own begun.steps (begun.steps - ended.steps))

  own_meets : (t : Tests) → Suits t → OwnMeets t
  own_meets t u =
      call_meets t u c fs gs sealed id args (storage_of old) h (call t u) (roomy_before t u) begun ended m.begins (storage_of new)
      (storage_is old between new begun ended m) (Some []) ran.own result own

  -- where the sink holds what was told of it
  module _ (now : Option (List ℕ)) (is_told : now ≡ told1) where
    pub memory_meets : (t : Tests) → Suits t →
        CallMeets result (globals_with t c (storage_of new)) (record { steps = new.steps; told = now; text_open = new.text_open }) (run_over t c id args (storage_of old) old.steps told)
        (GivenUp (text_over t c id args (storage_of old) told) told now old.steps (old.steps - new.steps))
    memory_meets t u =
        let env = environment t c.decls in
        let before = globals_with t c (storage_of old) in
        rw (m.steps_back, opened, is_told, ← m.steps)
        (meets_behind env id args before told begun.steps (globals_with t c (storage_of new)) (meter_of ended ran.own) told1 is_open ran.noted result _ _
        (given_up_behind env id args before told ran.own told1 begun.steps (begun.steps - ended.steps) (noted_behind ran.own told told1 is_open ran.noted))
        (own_meets t u))

    pub memory_took : (t : Tests) → Suits t → Took (text_over t c id args (storage_of old) (Some []) old.steps) told now new.text_open
    memory_took t u =
        rw (opened, is_told, ← m.steps)
        (took (environment t c.decls) id args (globals_with t c (storage_of old)) told begun.steps (globals_with t c (storage_of new)) (meter_of ended ran.own)
        told1 is_open ran.noted result (begun.steps - ended.steps) (own_meets t u))

  pub memory_stepped : (t : Tests) → Suits t → Stepped old.steps new.steps (final (run_over t c id args (storage_of old) old.steps told))
  memory_stepped t u =
      let s = call_steps t u c fs gs sealed id args (storage_of old) h (call t u) (roomy_before t u) begun ended m.begins (Some []) ran.own result own in
      let e = steps_behind (environment t c.decls) id args (globals_with t c (storage_of old)) told begun.steps in
      rw (m.steps_back, ← m.steps) (record { fewer = s.fewer; no_more = subst (λ n. n ≤ ended.steps) (sym e) s.no_more })

  pub memory_named : named c new
  memory_named = named_is c old between new begun ended m (arranged_named c old.marks.items old.values.items old.vars.items a)

  pub memory_held : OnOk result (held c new)
  memory_held = returned_held c fs gs sealed id args (storage_of old) (storage_of new) h call old.steps told _ _ result (memory_meets told1 refl)

  roomy : (t : Tests) → Suits t → IfRan result (length (map value_of ended.frames.globals) ≡ length (initial_of t c))
  roomy t u = room_after t u c fs gs sealed id args (storage_of old) h (call t u) (roomy_before t u) begun ended m.begins (Some []) ran.own result own

  pub memory_arranged : IfRan result (arranged c new)
  memory_arranged = by result roomy
    where
      by : (r : Result (Option Value) Stop) → ((t : Tests) → Suits t → IfRan r (length (map value_of ended.frames.globals) ≡ length (initial_of t c))) → IfRan r (arranged c new)
      by (Ok x) n = arranged_is c old between new begun ended m n a
      by (Err stop.NoMemory) n = tt
      by (Err stop.SinkFault) n = tt
      by (Err (stop.Thrown x)) n = arranged_is c old between new begun ended m n a
      by (Err (stop.Fault code span)) n = arranged_is c old between new begun ended m n a
      by (Err (stop.Stuck mistake span)) n = arranged_is c old between new begun ended m n a
