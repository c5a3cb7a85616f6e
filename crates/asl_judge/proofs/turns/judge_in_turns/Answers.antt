use Rattle.std.proofs.Common.{◌+◌, ◌<◌, [], subst, ap, ◌∙◌}
use Rattle.std.proofs.lemmas.List.{length-map}
use Rattle.asl_rules.specs.declarations.Names.{all_declared}
use Rattle.asl_rules.proofs.verdict.Distinct.{distinct_of}
use Rattle.asl_turns.specs.Turns.{waits}
use Rattle.asl_judge.specs.private.Outcomes.{judged_of, all_judged}
use Rattle.asl_judge.proofs.Steps.{first_judged, first_state, first_turns, within_decls, within_judged, turn_at, may_settle, next_state}
use Rattle.asl_judge.proofs.Steps.{next_left, end_judged, end_names}
use Rattle.asl_judge.proofs.turns.judge_in_turns.Goals as goal

pub loop-node-init : goal.loop-node-init
loop-node-init c =
    let ds = c.args.decls.now in
    let js = all_judged c.in_ok-progress.progress.outcomes in
    let names = c.in_ok-progress.progress.names in
    let judged = first_judged ds js c.in_ok-progress.ensures.outcomes in
    let state =
    first_state ds js names c.graph.inside.items.items c.in_ok-who_wait.field-0 c.in_ok-turns.turns judged c.in_ok-progress.ensures.names
    (c.graph.view_is ∙ c.requires.graph) c.in_ok-who_wait.ensures c.in_ok-turns.ensures in
    record { state = state; left = λ t s. first_turns t ds js names c.in_ok-turns.turns judged state }

pub decl_at-requires : goal.decl_at-requires
decl_at-requires c =
    let ds = c.args.decls.now in
    within_decls ds (distinct_of (all_declared ds) [] c.requires.names) (all_judged c.loop-node.progress.outcomes) c.loop-node.progress.names
    c.loop-node.turns c.loop-node.invariant.state c.in-Some.node c.in-Some.ensures.turn

pub keep-requires-clause-place : goal.keep-requires-clause-place
keep-requires-clause-place c =
    let ds = c.args.decls.now in
    subst (λ n. c.in-Some.node < n) (length-map c.loop-node.progress.outcomes judged_of)
    (within_judged ds (distinct_of (all_declared ds) [] c.requires.names) (all_judged c.loop-node.progress.outcomes)
    c.loop-node.progress.names c.loop-node.turns c.loop-node.invariant.state c.in-Some.node c.in-Some.ensures.turn)

pub keep-requires-clause-names : goal.keep-requires-clause-names
keep-requires-clause-names c =
    let ds = c.args.decls.now in
    let distinct = distinct_of (all_declared ds) [] c.requires.names in
    let js = all_judged c.loop-node.progress.outcomes in
    let names = c.loop-node.progress.names in
    let state = c.loop-node.invariant.state in
    may_settle ds distinct js names c.loop-node.turns state c.in-Some.node c.decl_at.result.now
    (turn_at ds distinct js names c.loop-node.turns state c.in-Some.node c.decl_at.result.now c.in-Some.ensures.turn c.decl_at.ensures)
    (judged_of c.in_ok-outcome.outcome) c.in_ok-outcome.ensures.came

pub loop-node-preserved : goal.loop-node-preserved
loop-node-preserved c =
    let ds = c.args.decls.now in
    let distinct = distinct_of (all_declared ds) [] c.requires.names in
    let js = all_judged c.loop-node.progress.outcomes in
    let names = c.loop-node.progress.names in
    let state = c.loop-node.invariant.state in
    let n = c.in-Some.node in
    let d = c.decl_at.result.now in
    let j = judged_of c.in_ok-outcome.outcome in
    let turn = turn_at ds distinct js names c.loop-node.turns state n d c.in-Some.ensures.turn c.decl_at.ensures in
    let more = all_judged c.keep.new.progress.outcomes in
    record {
      state =
          next_state ds distinct js names c.loop-node.turns state n d turn j c.in_ok-outcome.ensures.came more c.keep.new.progress.names
          c.is_fine-is_fine.result _ c.in_ok-turns-2.turns c.in_ok-keep.ensures.outcomes c.in_ok-keep.ensures.names c.is_fine-is_fine.ensures
          c.in-Some.ensures.after c.in_ok-turns-2.ensures.settled;
      left = λ t s.
          next_left ds distinct js names c.loop-node.turns state t n d j more (waits c.loop-node.turns.waiting) (waits c.in_ok-turns-2.turns.waiting)
          (c.loop-node.invariant.left t s) c.in-Some.ensures.turn turn (c.in_ok-outcome.ensures.judged t s) c.in_ok-keep.ensures.outcomes
          (ap (λ ws. 1 + waits ws) c.in_ok-turns-2.ensures.waiting ∙ c.in-Some.ensures.fewer);
    }

pub returns-clause-outcomes : goal.returns-clause-outcomes
returns-clause-outcomes c t s =
    let ds = c.args.decls.now in
    end_judged ds (distinct_of (all_declared ds) [] c.requires.names) (all_judged c.loop-node.progress.outcomes) c.loop-node.progress.names
    c.loop-node.turns c.loop-node.invariant.state t (waits c.loop-node.turns.waiting) (c.loop-node.invariant.left t s) c.in_default.ensures.turn

pub returns-clause-names : goal.returns-clause-names
returns-clause-names c t s =
    let ds = c.args.decls.now in
    end_names ds (distinct_of (all_declared ds) [] c.requires.names) (all_judged c.loop-node.progress.outcomes) c.loop-node.progress.names
    c.loop-node.turns c.loop-node.invariant.state t (waits c.loop-node.turns.waiting) (c.loop-node.invariant.left t s) c.in_default.ensures.turn
