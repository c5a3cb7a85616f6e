use Rattle.std.proofs.Common.{map}
use Rattle.asl_answer.specs.private.Model.{file_of}
use Rattle.asl_answer.proofs.WordLemmas.{asks_named, stands_ready, ended, were_given_up}
use Rattle.asl_answer.proofs.running.exec_program.Goals as goal

pub exec-requires-clause-ready : goal.exec-requires-clause-ready
exec-requires-clause-ready g c = stands_ready c.args.checked _ _ c.in_ok-machine.ensures

pub exec-requires-clause-named : goal.exec-requires-clause-named
exec-requires-clause-named g c = asks_named c.args.checked _ _ c.args.words.now c.in_ok-machine.ensures c.requires.named

pub returns-in-Ok-clause-answer : goal.returns-in-Ok-clause-answer
returns-in-Ok-clause-answer g c = λ t u.
    ended t u (map file_of c.args.sources.now) c.args.checked _ c.args.steps _ c.args.words.now c.in_ok-machine.ensures c.from.ensures
    _ _ _ c.exec.new.machine _ _ c.in-Ok.ensures.answer (c.in-Ok.ensures.outcome t u) (c.finish_words.ensures.answer t u)

pub returns-in-Err-SinkFault-clause-answer : goal.returns-in-Err-SinkFault-clause-answer
returns-in-Err-SinkFault-clause-answer g c = λ t u.
    were_given_up t u (map file_of c.args.sources.now) c.args.checked _ c.args.steps _ c.args.words.now c.in_ok-machine.ensures c.from.ensures
    _ _ (c.in-Err-SinkFault.ensures.prefix t u)

pub returns-clause-answer : goal.returns-clause-answer
returns-clause-answer g c = λ t u.
    were_given_up t u (map file_of c.args.sources.now) c.args.checked _ c.args.steps _ c.args.words.now c.in_ok-machine.ensures c.from.ensures
    _ _ (c.in-Err-NoMemory.ensures.prefix t u)
