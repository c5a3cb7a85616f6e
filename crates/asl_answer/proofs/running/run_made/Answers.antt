use Rattle.std.proofs.Common.{rules, [], map}
use Rattle.asl_syn.specs.Command.{default_steps}
use Rattle.asl_answer.specs.private.Model.{file_of}
use Rattle.asl_rules.specs.report.Report.{made_answer}
use Rattle.asl_answer.specs.private.Ends.{made_line}
use Rattle.asl_answer.proofs.RunLemmas.{made_ending, callable, ended, was_given_up, refused_fault, refused_memory}
use Rattle.asl_answer.proofs.running.run_made.Goals as goal

pub call-requires : goal.call-requires
call-requires g c = λ t u. callable t u (made_answer [] []) (λ s globals. made_line [] [] s) (made_ending [] []) c.args.checked c.in-Some.main _ default_steps _ _ c.in_ok-machine.ensures c.from.ensures c.new-2.ensures.items c.in-Some.ensures.main (c.requires.accepted t u)

pub returns-in-Ok-clause-answer : goal.returns-in-Ok-clause-answer
returns-in-Ok-clause-answer g c = λ t u.
    ended t u (made_answer c.args.words.now (map file_of c.args.sources.now)) (λ s globals. made_line c.args.words.now (map file_of c.args.sources.now) s) (made_ending c.args.words.now (map file_of c.args.sources.now)) c.args.checked c.in-Some.main _ default_steps _ c.new-2.result.items c.in_ok-machine.ensures c.from.ensures c.new-2.ensures.items c.in-Some.ensures.main
    _ _ _ c.call.new.self _ _ c.in-Ok.ensures.answer (c.in-Ok.ensures.outcome t u) (c.finish_made.ensures.answer)

pub returns-in-Err-SinkFault-clause-answer : goal.returns-in-Err-SinkFault-clause-answer
returns-in-Err-SinkFault-clause-answer g c = λ t u.
    was_given_up t u (made_answer c.args.words.now (map file_of c.args.sources.now)) (λ s globals. made_line c.args.words.now (map file_of c.args.sources.now) s) (made_ending c.args.words.now (map file_of c.args.sources.now)) c.args.checked c.in-Some.main _ default_steps _ c.new-2.result.items c.in_ok-machine.ensures c.from.ensures c.new-2.ensures.items c.in-Some.ensures.main
    _ _ _ (c.in-Err-SinkFault.ensures.given_up t u)

pub returns-clause-answer : goal.returns-clause-answer
returns-clause-answer g c = λ t u.
    was_given_up t u (made_answer c.args.words.now (map file_of c.args.sources.now)) (λ s globals. made_line c.args.words.now (map file_of c.args.sources.now) s) (made_ending c.args.words.now (map file_of c.args.sources.now)) c.args.checked c.in-Some.main _ default_steps _ c.new-2.result.items c.in_ok-machine.ensures c.from.ensures c.new-2.ensures.items c.in-Some.ensures.main
    _ _ _ (c.in-Err-NoMemory.ensures.given_up t u)

pub returns-in-Err-SinkFault-clause-cause : goal.returns-in-Err-SinkFault-clause-cause
returns-in-Err-SinkFault-clause-cause g c =
    refused_fault c.args.checked _ _ c.call.new.self.stage _ _ _ c.in_ok-machine.ensures c.in-Err-SinkFault.ensures.answer c.in-Err-SinkFault.ensures.counts (search rules)

pub returns-clause-cause : goal.returns-clause-cause
returns-clause-cause g c =
    refused_memory c.args.checked _ _ c.call.new.self.stage _ _ _ c.in_ok-machine.ensures c.in-Err-NoMemory.ensures.answer c.in-Err-NoMemory.ensures.counts (search rules)
