-- What a call says of the run that begins with no text: it ended so too, and the sink holds its text behind what it held before.
use Rattle.std.proofs.Common.{◌≡◌, ℕ, zero, suc, ◌-◌, ◌<◌, Bool, false, List, [], ◌∷◌, ◌++◌, Option, Some, None, refl, sym, ap, ◌∙◌, subst, arith}
use Rattle.asl_rules.specs.runs.Told.{appended, open_after, Begins, Part}
use Rattle.asl_rules.specs.values.Values as rules
use Rattle.asl_rules.specs.runs.States.{Binding, Core, resting}
use Rattle.asl_rules.specs.declarations.Programs.{Environment}
use Rattle.asl_rules.specs.runs.Plans.{Meter, starting, Outcome, Done, Thrown, Halt, final, meanings}
use Rattle.asl_rules.specs.runs.Machines.{GivenUp, most_open, run_of, text_of_run}
use Rattle.asl_rules.specs.runs.Evaluation.{nodes, call_of}
use Rattle.asl_rules.proofs.basics.Pieces.{appended_twice}
use Rattle.asl_laws.proofs.runs.Budget.{run_after, grows, longer, same_text}
use Rattle.asl_laws.proofs.runs.Shift.{OwnText, own_text, retold, retold_end, behind, behind_own, run_behind}
use Rattle.asl_machine.specs.declared.stage.Stage.{Stage}
use Rattle.asl_machine.specs.declared.stage.Stage.TheVariants as stage
use Rattle.asl_machine.specs.Stages.{Ends, OnRefused}

-- a run that began with no text ended so, with this text of its own
pub record OwnEnd (s : Stage) (globals : List Binding) (steps : ℕ) (text_open : Bool) (old new : Option (List ℕ)) (r : Outcome Core (Option rules.Value)) : Type 0 where
  pub text : List ℕ
  pub written : new ≡ appended old text
  pub is_open : text_open ≡ open_after false text
  pub ends : Ends s globals (record { steps = steps; told = Some text; text_open = text_open }) r

-- what two equal meters say, of which one had another text before it
record Meters (h : Meter) (steps : ℕ) (text_open : Bool) (old new : Option (List ℕ)) (text : List ℕ) : Type 0 where
  same : h ≡ record { steps = steps; told = Some text; text_open = text_open }
  written : new ≡ appended old text
  is_open : text_open ≡ open_after false text

meters : (h : Meter) (steps : ℕ) (text_open : Bool) (old new : Option (List ℕ)) (own : OwnText h) → retold (behind old) h ≡ record { steps = steps; told = new; text_open = text_open } → Meters h steps text_open old new own.text
meters h steps text_open old new own e = record {
  same =
      ap (λ n. record { steps = n; told = h.told; text_open = h.text_open }) (ap (λ k. k.steps) e) ∙
      ap (λ t. record { steps = steps; told = t; text_open = h.text_open }) own.told ∙
      ap (λ b. record { steps = steps; told = Some own.text; text_open = b }) (ap (λ k. k.text_open) e);
  written = sym (ap (λ k. k.told) e) ∙ ap (behind old) own.told ∙ behind_own old own.text;
  is_open = sym (ap (λ k. k.text_open) e) ∙ own.text_open;
}

own_end : (s : Stage) (globals : List Binding) (steps : ℕ) (text_open : Bool) (old new : Option (List ℕ)) (r : Outcome Core (Option rules.Value)) → OwnText (final r) → OnRefused s ⊥ →
    Ends s globals (record { steps = steps; told = new; text_open = text_open }) (retold_end (behind old) r) → OwnEnd s globals steps text_open old new r
own_end (stage.Ready x) globals steps text_open old new (Done y c h) own went e =
    let m = meters h steps text_open old new own (ap final e) in
    let same = m.same in
    record { text = own.text; written = m.written; is_open = m.is_open; ends = cc }
own_end (stage.Ready x) globals steps text_open old new (Thrown y c h) own went e = cc
own_end (stage.Ready x) globals steps text_open old new (Halt y c h) own went e = cc
own_end (stage.Uncaught x) globals steps text_open old new (Done y c h) own went e = cc
own_end (stage.Uncaught x) globals steps text_open old new (Thrown y c h) own went e =
    let m = meters h steps text_open old new own (ap final e) in
    let same = m.same in
    record { text = own.text; written = m.written; is_open = m.is_open; ends = cc }
own_end (stage.Uncaught x) globals steps text_open old new (Halt y c h) own went e = cc
own_end (stage.Fault code span) globals steps text_open old new (Done y c h) own went e = let is = e.is in cc
own_end (stage.Fault code span) globals steps text_open old new (Thrown y c h) own went e = let is = e.is in cc
own_end (stage.Fault code span) globals steps text_open old new (Halt y c h) own went e =
    let m = meters h steps text_open old new own (ap final e.is) in
    let same = m.same in
    let is = e.is in
    record { text = own.text; written = m.written; is_open = m.is_open; ends = record { core = e.core; globals_are = e.globals_are; is = cc } }
own_end (stage.Refused x) globals steps text_open old new r own went e = absurd went

pub own_run : (env : Environment) (id : ℕ) (args : List rules.Value) (globals after : List Binding) (steps : ℕ) (s : Stage) (left : ℕ) (text_open : Bool) (old new : Option (List ℕ)) → OnRefused s ⊥ →
    Ends s after (record { steps = left; told = new; text_open = text_open }) (run_of env id args globals (starting steps old)) →
    OwnEnd s after left text_open old new (run_of env id args globals (starting steps (Some [])))
own_run env id args globals after steps s left text_open old new went e =
    own_end s after left text_open old new (run_of env id args globals (starting steps (Some []))) (own_text env id args globals steps) went
    (subst (λ r. Ends s after (record { steps = left; told = new; text_open = text_open }) r) (run_behind env id args globals steps old) e)

-- a call's text begins with what the sink held
text_grows : (env : Environment) (id : ℕ) (args : List rules.Value) (globals : List Binding) (old : Option (List ℕ)) (steps : ℕ) → Begins old (text_of_run env id args globals old steps)
unfolding run_of
text_grows env id args globals old steps =
    (run_after (meanings (nodes env) most_open) (grows (nodes env) most_open) (call_of env id args (resting globals)) (starting steps old)).told

-- where a run was given up, what was written stands behind what the sink held
held_first : (env : Environment) (id : ℕ) (args : List rules.Value) (globals : List Binding) (old new : Option (List ℕ)) (steps n : ℕ) → GivenUp (text_of_run env id args globals old) old new steps n → Begins old new
held_first env id args globals old new steps zero g = subst (λ t. Begins old t) (sym (g.none refl)) (same_text old)
held_first env id args globals old new steps (suc n) g =
    let some : 0 < suc n = omega arith in
    let before : suc n - 1 ≡ n = omega arith in
    longer (text_grows env id args globals old n) (subst (λ k. Begins (text_of_run env id args globals old k) new) before (g.last some))

same_behind : (xs ys zs : List ℕ) → xs ++ ys ≡ xs ++ zs → ys ≡ zs
same_behind [] ys zs e = e
same_behind (x ∷ xs) ys zs e = same_behind xs ys zs (cc)

-- so of the run's own text a part was written
part_of : (old new all : Option (List ℕ)) (own : List ℕ) → Begins old new → Begins new all → all ≡ appended old own → Part old new own
part_of None new all own b w e = record { taken = []; rest = own; is = b.is; whole = refl }
part_of (Some old) new all own b w e =
    let both : Some (old ++ (b.rest ++ w.rest)) ≡ Some (old ++ own) = sym (appended_twice (Some old) b.rest w.rest) ∙ ap (λ t. appended t w.rest) (sym b.is) ∙ sym w.is ∙ e in
    record { taken = b.rest; rest = w.rest; is = b.is; whole = same_behind old own (b.rest ++ w.rest) (cc) }

pub own_part : (env : Environment) (id : ℕ) (args : List rules.Value) (globals : List Binding) (steps n : ℕ) (old new : Option (List ℕ)) → GivenUp (text_of_run env id args globals old) old new steps n →
    Part old new (own_text env id args globals steps).text
own_part env id args globals steps n old new g =
    part_of old new (text_of_run env id args globals old steps) (own_text env id args globals steps).text (held_first env id args globals old new steps n g) g.whole
    (ap (λ r. (final r).told) (run_behind env id args globals steps old) ∙ told_behind old (run_of env id args globals (starting steps (Some []))) ∙
    ap (behind old) (own_text env id args globals steps).told ∙ behind_own old (own_text env id args globals steps).text)
  where
    told_behind : (o : Option (List ℕ)) (r : Outcome Core (Option rules.Value)) → (final (retold_end (behind o) r)).told ≡ behind o (final r).told
    told_behind o (Done x c h) = refl
    told_behind o (Thrown x c h) = refl
    told_behind o (Halt e c h) = refl
