-- What is known of a call over no text is known of it over the text that the sink held, with the noted bytes behind that.
use Rattle.std.proofs.Common.{◌≡◌, ℕ, ◌-◌, Bool, false, List, [], Option, Some, Result, Ok, Err, refl, sym, ap, ◌∙◌, subst}
use Rattle.std.specs.Prelude.{option_map}
use Rattle.asl_rules.specs.declarations.Programs.{Environment}
use Rattle.asl_rules.specs.runs.Machines.{GivenUp, run_of, text_of_run}
use Rattle.asl_rules.specs.runs.Plans.{Meter, starting, Outcome, Done, Thrown, Halt, Faulted, final}
use Rattle.asl_rules.specs.runs.States.{Binding, Core, resting}
use Rattle.asl_rules.specs.runs.Told.{open_after, Begins}
use Rattle.asl_rules.specs.values.Values as rules
use Rattle.asl_rules.proofs.basics.Tests.{some_same}
use Rattle.asl_laws.proofs.runs.Budget.{same_text}
use Rattle.asl_laws.proofs.runs.Shift.{OwnText, own_text, retold, retold_end, behind, behind_commutes, behind_nothing, behind_own, run_behind}
use Rattle.asl_value.specs.View.{value_of}
use Rattle.asl_value.specs.declared.value.Value.{Value}
use Rattle.asl_branches.specs.declared.stop.Stop.{Stop}
use Rattle.asl_branches.specs.declared.stop.Stop.TheVariants as stop
use Rattle.asl_noting.specs.Noted.{Noted}
use Rattle.asl_machine.specs.Stages.{CallMeets}
use Rattle.asl_machine.specs.Took.{Took}

-- ---- texts

begins_behind : (old a b : Option (List ℕ)) → Begins a b → Begins (behind old a) (behind old b)
begins_behind old a b w = record { rest = w.rest; is = ap (behind old) w.is ∙ behind_commutes old a w.rest }

told_behind : (old : Option (List ℕ)) (r : Outcome Core (Option rules.Value)) → (final (retold_end (behind old) r)).told ≡ behind old (final r).told
told_behind old (Done x c h) = refl
told_behind old (Thrown x c h) = refl
told_behind old (Halt e c h) = refl

pub noted_behind : (told old new : Option (List ℕ)) (is_open : Bool) → Noted told old new is_open → behind old told ≡ new
noted_behind told old new is_open n = ap (behind old) n.told_are ∙ behind_own old n.bytes ∙ sym n.written

-- the meter over no text, over the one that was held
meter_behind : (h : Meter) (old new : Option (List ℕ)) (is_open : Bool) → OwnText h → Noted h.told old new is_open →
    retold (behind old) h ≡ record { steps = h.steps; told = new; text_open = is_open }
meter_behind h old new is_open own n =
    let same : own.text ≡ n.bytes = some_same own.text n.bytes (sym own.told ∙ n.told_are) in
    let opened : h.text_open ≡ is_open = own.text_open ∙ ap (open_after false) same ∙ sym n.open_is in
    ap (λ t. record { steps = h.steps; told = t; text_open = h.text_open }) (noted_behind h.told old new is_open n) ∙
    ap (λ b. record { steps = h.steps; told = new; text_open = b }) opened

module _ (env : Environment) (id : ℕ) (args : List rules.Value) (globals : List Binding) (old : Option (List ℕ)) where
  text_behind : (budget : ℕ) → text_of_run env id args globals old budget ≡ behind old (text_of_run env id args globals (Some []) budget)
  text_behind budget =
      ap (λ r. (final r).told) (run_behind env id args globals budget old) ∙ told_behind old (run_of env id args globals (starting budget (Some [])))

  pub given_up_behind : (told new : Option (List ℕ)) (budget n : ℕ) → behind old told ≡ new →
      GivenUp (text_of_run env id args globals (Some [])) (Some []) told budget n → GivenUp (text_of_run env id args globals old) old new budget n
  given_up_behind told new budget n e g =
      let own : ℕ → Option (List ℕ) = text_of_run env id args globals (Some []) in
      let up : (k : ℕ) → Begins told (own k) → Begins new (text_of_run env id args globals old k) =
      λ k w. subst (λ t. Begins t (text_of_run env id args globals old k)) e
      (subst (Begins (behind old told)) (sym (text_behind k)) (begins_behind old told (own k) w)) in
      let down : (k : ℕ) → Begins (own k) told → Begins (text_of_run env id args globals old k) new =
      λ k w. subst (Begins (text_of_run env id args globals old k)) e
      (subst (λ t. Begins t (behind old told)) (sym (text_behind k)) (begins_behind old (own k) told w)) in
      record {
        whole = up budget g.whole;
        begins = up n g.begins;
        last = λ some. down (n - 1) (g.last some);
        none = λ zero. sym e ∙ ap (behind old) (g.none zero) ∙ behind_nothing old;
      }

  same_steps : (r : Outcome Core (Option rules.Value)) → (final (retold_end (behind old) r)).steps ≡ (final r).steps
  same_steps (Done x c h) = refl
  same_steps (Thrown x c h) = refl
  same_steps (Halt e c h) = refl

  pub steps_behind : (steps : ℕ) →
      (final (run_of env id args globals (starting steps old))).steps ≡ (final (run_of env id args globals (starting steps (Some [])))).steps
  steps_behind steps = ap (λ r. (final r).steps) (run_behind env id args globals steps old) ∙ same_steps (run_of env id args globals (starting steps (Some [])))

  -- ---- answers

  module _ (steps : ℕ) (after : List Binding) (h : Meter) (new : Option (List ℕ)) (is_open : Bool) (noted : Noted h.told old new is_open) where
    abbrev own : Outcome Core (Option rules.Value)
    own = run_of env id args globals (starting steps (Some []))

    ends : (r : Outcome Core (Option rules.Value)) → final r ≡ h → own ≡ r → run_of env id args globals (starting steps old) ≡ retold_end (behind old) r
    ends r e is = run_behind env id args globals steps old ∙ ap (retold_end (behind old)) is

    metered : (r : Outcome Core (Option rules.Value)) → final r ≡ h → own ≡ r → retold (behind old) h ≡ record { steps = h.steps; told = new; text_open = is_open }
    metered r e is = meter_behind h old new is_open (subst OwnText e (subst (λ z. OwnText (final z)) is (own_text env id args globals steps))) noted

    pub meets_behind : (result : Result (Option Value) Stop) (P Q : Type 0) → (P → Q) → CallMeets result after h own P →
        CallMeets result after (record { steps = h.steps; told = new; text_open = is_open }) (run_of env id args globals (starting steps old)) Q
    meets_behind (Ok x) P Q k e =
        let r = Done (option_map value_of x) (resting after) h in
        ends r refl e ∙ ap (Done (option_map value_of x) (resting after)) (metered r refl e)
    meets_behind (Err stop.NoMemory) P Q k p = k p
    meets_behind (Err stop.SinkFault) P Q k p = k p
    meets_behind (Err (stop.Thrown x)) P Q k e =
        let r : Outcome Core (Option rules.Value) = Thrown (value_of x) (resting after) h in
        ends r refl e ∙ ap (λ u. Thrown (value_of x) (resting after) u) (metered r refl e)
    meets_behind (Err (stop.Fault code span)) P Q k e =
        let r : Outcome Core (Option rules.Value) = Halt (Faulted code span) e.core h in
        record {
          core = e.core;
          globals_are = e.globals_are;
          is = ends r refl e.is ∙ ap (λ u. Halt (Faulted code span) e.core u) (metered r refl e.is);
        }
    meets_behind (Err (stop.Stuck mistake span)) P Q k e = absurd e

    begins_own : (r : Outcome Core (Option rules.Value)) → final r ≡ h → own ≡ r → Begins h.told (final own).told
    begins_own r e is = subst (λ z. Begins h.told (final z).told) (sym is) (subst (λ u. Begins h.told u.told) (sym e) (same_text h.told))

    begun : (result : Result (Option Value) Stop) (n : ℕ) →
        CallMeets result after h own (GivenUp (text_of_run env id args globals (Some [])) (Some []) h.told steps n) → Begins h.told (final own).told
    begun (Ok x) n e = begins_own (Done (option_map value_of x) (resting after) h) refl e
    begun (Err stop.NoMemory) n g = g.whole
    begun (Err stop.SinkFault) n g = g.whole
    begun (Err (stop.Thrown x)) n e = begins_own (Thrown (value_of x) (resting after) h) refl e
    begun (Err (stop.Fault code span)) n e = begins_own (Halt (Faulted code span) e.core h) refl e.is
    begun (Err (stop.Stuck mistake span)) n e = absurd e

    -- the noted bytes are those that it took of its text
    pub took : (result : Result (Option Value) Stop) (n : ℕ) →
        CallMeets result after h own (GivenUp (text_of_run env id args globals (Some [])) (Some []) h.told steps n) →
        Took (text_of_run env id args globals (Some []) steps) old new is_open
    took result n e = record {
      bytes = noted.bytes;
      begins = subst (λ t. Begins t (text_of_run env id args globals (Some []) steps)) noted.told_are (begun result n e);
      written = noted.written;
      open_is = noted.open_is;
    }
