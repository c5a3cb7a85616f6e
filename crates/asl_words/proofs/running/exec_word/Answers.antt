use Rattle.std.proofs.Common.{◌≡◌, Some, inr, refl, subst}
use Rattle.asl_io.specs.Told.{Takes, TakesPrefix}
use Rattle.asl_rules.specs.runs.Words.{entry_for, word_line}
use Rattle.asl_tree.specs.Sealed.{Sealed}
use Rattle.asl_words.proofs.Stepping.{call_ended, call_refused, no_line, none_taken, part_taken, refused_line}
use Rattle.asl_words.proofs.running.exec_word.Goals as goal

pub returns-in_default-clause-prefix : goal.returns-in_default-clause-prefix
returns-in_default-clause-prefix g c = λ t u. no_line t c.args.machine.now c.args.word (g.K.Sink.written c.args.sink.now)

pub returns-in_default-put_line-clause-prefix : goal.returns-in_default-put_line-clause-prefix
returns-in_default-put_line-clause-prefix g c = λ t u.
    refused_line t c.args.machine.now c.args.word (g.K.Sink.written c.args.sink.now) (g.K.Sink.written c.put_line.new.sink)
    (subst (λ b. TakesPrefix (g.K.Sink.written c.args.sink.now) (g.K.Sink.written c.put_line.new.sink) (word_line b c.args.word)) c.text_open.ensures c.in_default-put_line.ensures.text)

pub returns-clause-outcome : goal.returns-clause-outcome
returns-clause-outcome g c =
    call_ended c.call.result c.args.machine.now c.call.new.self c.entry_of-entry.result c.args.word (subst (λ (x : Sealed). entry_for x.entries c.args.word ≡ Some c.entry_of-entry.result) c.checked.ensures c.entry_of-entry.ensures) c.requires.ready _ c.in-Ok.ensures.word.0 c.in-Ok.ensures.word.1 c.in-Ok.ensures.word.2 (g.K.Sink.written c.args.sink.now) (g.K.Sink.written c.put_line.new.sink) (g.K.Sink.written c.call.new.sink)
    (subst (λ b. Takes (g.K.Sink.written c.args.sink.now) (g.K.Sink.written c.put_line.new.sink) (word_line b c.args.word)) c.text_open.ensures c.in-Ok-put_line.ensures.text) c.call.ensures.outcome

pub returns-clause-prefix : goal.returns-clause-prefix
returns-clause-prefix g c =
    call_refused c.call.result c.args.machine.now c.entry_of-entry.result c.args.word (subst (λ (x : Sealed). entry_for x.entries c.args.word ≡ Some c.entry_of-entry.result) c.checked.ensures c.entry_of-entry.ensures) c.requires.ready _ c.in-Ok.ensures.word.0 c.in-Ok.ensures.word.1 c.in-Ok.ensures.word.2 (g.K.Sink.written c.args.sink.now) (g.K.Sink.written c.put_line.new.sink) (g.K.Sink.written c.call.new.sink)
    (subst (λ b. Takes (g.K.Sink.written c.args.sink.now) (g.K.Sink.written c.put_line.new.sink) (word_line b c.args.word)) c.text_open.ensures c.in-Ok-put_line.ensures.text) _ c.call.ensures.given_up

pub returns-in_default-clause-refused : goal.returns-in_default-clause-refused
returns-in_default-clause-refused g c = inr (refl, none_taken (g.K.Sink.written c.args.sink.now) (word_line c.args.machine.now.text_open c.args.word))

pub returns-in_default-put_line-clause-refused : goal.returns-in_default-put_line-clause-refused
returns-in_default-put_line-clause-refused g c =
    let took = subst (λ b. TakesPrefix (g.K.Sink.written c.args.sink.now) (g.K.Sink.written c.put_line.new.sink) (word_line b c.args.word)) c.text_open.ensures c.in_default-put_line.ensures.text in
    inr (refl, part_taken (g.K.Sink.written c.args.sink.now) (g.K.Sink.written c.put_line.new.sink) (word_line c.args.machine.now.text_open c.args.word) took)
