use Rattle.std.proofs.Common.{rules}
use Rattle.asl_machine.proofs.MemoryCalls.{Moved, memory_meets, memory_took, memory_stepped, memory_named, memory_held, memory_arranged}
use Rattle.asl_machine.proofs.runs.run_trees.Given
use Rattle.asl_machine.proofs.runs.run_trees.Goals as goal

moved : (g : Given.Over) (c : goal.After-drop-run-7 g) → Moved c.args.memory.now c.enter-run.new.memory c.leave.new.memory c.enter-run.result c.call_noted-answer.new.run
moved g c = record {
  begins = record {
    globals = c.enter-run.ensures.globals;
    frame = c.enter-run.ensures.frame;
    handled = c.enter-run.ensures.handled;
    callers = c.enter-run.ensures.callers;
    live = c.enter-run.ensures.live;
    text = c.enter-run.ensures.text;
  };
  steps = c.enter-run.ensures.steps;
  marks = c.enter-run.ensures.marks;
  vars = c.enter-run.ensures.vars;
  marks_back = c.leave.ensures.marks;
  values_back = c.leave.ensures.values;
  vars_back = c.leave.ensures.vars;
  steps_back = c.leave.ensures.steps;
}

pub returns-clause-meets : goal.returns-clause-meets
returns-clause-meets g c =
    memory_meets c.args.checked.now _ _ c.parts-parts.ensures.sealed _ _ c.requires.callable _ _ _ _ _ c.requires.arranged c.requires.held (moved g c) _ _
    c.call_noted-answer.result.0 c.number.result c.number.ensures _ c.leave.ensures.text c.call_noted-answer.ensures.meets
    _ (search rules)

pub returns-clause-took : goal.returns-clause-took
returns-clause-took g c =
    memory_took c.args.checked.now _ _ c.parts-parts.ensures.sealed _ _ c.requires.callable _ _ _ _ _ c.requires.arranged c.requires.held (moved g c) _ _
    c.call_noted-answer.result.0 c.number.result c.number.ensures _ c.leave.ensures.text c.call_noted-answer.ensures.meets
    _ (search rules)

pub returns-clause-stepped : goal.returns-clause-stepped
returns-clause-stepped g c =
    memory_stepped c.args.checked.now _ _ c.parts-parts.ensures.sealed _ _ c.requires.callable _ _ _ _ _ c.requires.arranged c.requires.held (moved g c) _ _
    c.call_noted-answer.result.0 c.number.result c.number.ensures _ c.leave.ensures.text c.call_noted-answer.ensures.meets

pub returns-clause-named : goal.returns-clause-named
returns-clause-named g c =
    memory_named c.args.checked.now _ _ c.parts-parts.ensures.sealed _ _ c.requires.callable _ _ _ _ _ c.requires.arranged c.requires.held (moved g c) _ _
    c.call_noted-answer.result.0 c.number.result c.number.ensures _ c.leave.ensures.text c.call_noted-answer.ensures.meets

pub returns-clause-arranged : goal.returns-clause-arranged
returns-clause-arranged g c =
    memory_arranged c.args.checked.now _ _ c.parts-parts.ensures.sealed _ _ c.requires.callable _ _ _ _ _ c.requires.arranged c.requires.held (moved g c) _ _
    c.call_noted-answer.result.0 c.number.result c.number.ensures _ c.leave.ensures.text c.call_noted-answer.ensures.meets

pub returns-clause-held : goal.returns-clause-held
returns-clause-held g c =
    memory_held c.args.checked.now _ _ c.parts-parts.ensures.sealed _ _ c.requires.callable _ _ _ _ _ c.requires.arranged c.requires.held (moved g c) _ _
    c.call_noted-answer.result.0 c.number.result c.number.ensures _ c.leave.ensures.text c.call_noted-answer.ensures.meets
