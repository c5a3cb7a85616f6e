use Rattle.std.proofs.Common.{◌≡◌, ◌-◌, ◌≤◌, List, [], Some, map, subst, rules}
use Rattle.asl_rules.specs.runs.Machines.{GivenUp}
use Rattle.asl_rules.specs.runs.Plans.{final}
use Rattle.asl_tree.proofs.Asked.{some_suits}
use Rattle.asl_value.specs.View.{value_of}
use Rattle.asl_value.specs.declared.value.Value.{Value}
use Rattle.asl_machine.specs.private.Memory.{storage_of}
use Rattle.asl_machine.specs.Took.{Took}
use Rattle.asl_machine.specs.Work.{Work, run_over, run_with, text_over, text_with}
use Rattle.asl_machine.proofs.Answered.{given_up, on_ready}
use Rattle.asl_machine.proofs.machine.Machine.call.Goals as goal

pub returns-clause-given_up : goal.returns-clause-given_up
returns-clause-given_up g c t suits =
    let told = g.K.Sink.written c.args.sink.now in
    let new = g.K.Sink.written c.run_checked.new.sink in
    let left = c.run_checked.new.memory.steps in
    let m = c.self.inside.memory in
    let same : c.as_slice-args.result.now ≡ c.args.args.items = search rules in
    given_up c.args.self.now.stage c.run_checked.result c.answer-2.result _ _ c.answer-2.ensures
    (λ p. subst (λ (w : Work). GivenUp (text_with t w c.args.sub (map value_of c.args.args.items) told) told new w.steps (w.steps - left)) c.self.view_is
    (subst (λ (xs : List Value). GivenUp (text_over t c.self.inside.checked c.args.sub (map value_of xs) (storage_of m) told) told new m.steps (m.steps - left)) same p))
    (c.run_checked.ensures.given_up t suits)

pub returns-clause-text_open : goal.returns-clause-text_open
returns-clause-text_open g c t suits =
    let told = g.K.Sink.written c.args.sink.now in
    let new = g.K.Sink.written c.run_checked.new.sink in
    let opened = c.run_checked.new.memory.text_open in
    let m = c.self.inside.memory in
    let same : c.as_slice-args.result.now ≡ c.args.args.items = search rules in
    on_ready c.args.self.now.stage _
    (subst (λ (w : Work). Took (text_with t w c.args.sub (map value_of c.args.args.items) (Some []) w.steps) told new opened) c.self.view_is
    (subst (λ (xs : List Value). Took (text_over t c.self.inside.checked c.args.sub (map value_of xs) (storage_of m) (Some []) m.steps) told new opened) same
    (c.run_checked.ensures.took t suits)))

pub returns-clause-fewer : goal.returns-clause-fewer
returns-clause-fewer g c =
    subst (λ (w : Work). c.run_checked.new.memory.steps ≤ w.steps) c.self.view_is (c.run_checked.ensures.stepped some_suits.0 some_suits.1).fewer

pub returns-clause-no_more : goal.returns-clause-no_more
returns-clause-no_more g c t suits =
    let told = g.K.Sink.written c.args.sink.now in
    let left = c.run_checked.new.memory.steps in
    let m = c.self.inside.memory in
    let same : c.as_slice-args.result.now ≡ c.args.args.items = search rules in
    on_ready c.args.self.now.stage _
    (subst (λ (w : Work). (final (run_with t w c.args.sub (map value_of c.args.args.items) told)).steps ≤ left) c.self.view_is
    (subst (λ (xs : List Value). (final (run_over t c.self.inside.checked c.args.sub (map value_of xs) (storage_of m) m.steps told)).steps ≤ left) same
    (c.run_checked.ensures.stepped t suits).no_more))
