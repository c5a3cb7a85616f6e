use Rattle.std.proofs.Common.{rules, Ok, ap, ◌∙◌}
use Rattle.std.proofs.lemmas.Result.{err_from_is_err_and}
use Rattle.asl_words.proofs.Stepping.{end_fault, end_uncaught, ends_there, goes_on, prefix_there, refused_there, returned_ready}
use Rattle.asl_words.proofs.running.exec.Goals as goal

pub returns-in_err-exec_word-clause-prefix : goal.returns-in_err-exec_word-clause-prefix
returns-in_err-exec_word-clause-prefix g c =
    let p = err_from_is_err_and c.from_residual.result c.from_residual.ensures.1 in
    let i = c.loop-word.invariant in
    rw p.1 (prefix_there c.args.machine.now c.loop-word.machine i.checked (g.K.Sink.written c.args.sink.now) (g.K.Sink.written c.loop-word.sink) c.args.words.now c.loop-word.word-index c.loop-word-test.true c.word-item.result c.word-item.is i.ready i.leaves
    (g.K.Sink.written c.exec_word.new.sink) c.in_err-exec_word.ensures.prefix)

pub returns-in_err-exec_word-clause-refused : goal.returns-in_err-exec_word-clause-refused
returns-in_err-exec_word-clause-refused g c =
    let p = err_from_is_err_and c.from_residual.result c.from_residual.ensures.1 in
    let i = c.loop-word.invariant in
    rw (p.1, p.2) (refused_there c.args.machine.now c.loop-word.machine i.checked (g.K.Sink.written c.args.sink.now) (g.K.Sink.written c.loop-word.sink) c.args.words.now c.loop-word.word-index c.loop-word-test.true c.word-item.result c.word-item.is i.ready i.leaves
    _ c.exec_word.new.machine (g.K.Sink.written c.exec_word.new.sink) c.in_err-exec_word.ensures.refused)

pub returns-in-Uncaught-clause-outcome : goal.returns-in-Uncaught-clause-outcome
returns-in-Uncaught-clause-outcome g c =
    let i = c.loop-word.invariant in
    ends_there c.args.machine.now c.loop-word.machine i.checked (g.K.Sink.written c.args.sink.now) (g.K.Sink.written c.loop-word.sink) c.args.words.now c.loop-word.word-index c.loop-word-test.true c.word-item.result c.word-item.is i.ready i.leaves
    c.exec_word.new.machine (g.K.Sink.written c.exec_word.new.sink) (end_uncaught 0 c.exec_word.new.machine.stage (c.in_ok-exec_word.ensures.answer ∙ ap Ok c.in-Uncaught.is)).1 c.in_ok-exec_word.ensures.outcome

pub returns-in-Fault-clause-outcome : goal.returns-in-Fault-clause-outcome
returns-in-Fault-clause-outcome g c =
    let i = c.loop-word.invariant in
    ends_there c.args.machine.now c.loop-word.machine i.checked (g.K.Sink.written c.args.sink.now) (g.K.Sink.written c.loop-word.sink) c.args.words.now c.loop-word.word-index c.loop-word-test.true c.word-item.result c.word-item.is i.ready i.leaves
    c.exec_word.new.machine (g.K.Sink.written c.exec_word.new.sink) (end_fault 0 c.exec_word.new.machine.stage c.in-Fault.code c.in-Fault.span (c.in_ok-exec_word.ensures.answer ∙ ap Ok c.in-Fault.is)).1 c.in_ok-exec_word.ensures.outcome

pub loop-word-preserved : goal.loop-word-preserved
loop-word-preserved g c =
    let i = c.loop-word.invariant in
    record {
      ready = returned_ready c.exec_word.new.machine.stage (c.in_ok-exec_word.ensures.answer ∙ ap Ok c.in-Returned.is);
      checked = search rules;
      leaves = goes_on c.args.machine.now c.loop-word.machine i.checked (g.K.Sink.written c.args.sink.now) (g.K.Sink.written c.loop-word.sink) c.args.words.now c.loop-word.word-index c.loop-word-test.true c.word-item.result c.word-item.is i.ready i.leaves
          c.exec_word.new.machine (g.K.Sink.written c.exec_word.new.sink) c.in_ok-exec_word.ensures.outcome;
      count = search rules;
      full = search rules;
    }
