use Rattle.std.proofs.Common.{map, sym, ap, subst}
use Rattle.asl_line.specs.private.Model.{meaning_of}
use Rattle.asl_answer.specs.private.Model.{file_of}
use Rattle.asl_answer.specs.private.Report.{answer_on_files, list_answer}
use Rattle.asl_answer.specs.private.Writes.{Answers}
use Rattle.asl_answer.proofs.answer.answer_files.Goals as goal

pub returns-in-Check-clause-answer : goal.returns-in-Check-clause-answer
unfolding answer_on_files
returns-in-Check-clause-answer g c = λ t u read is.
    subst (λ command. Answers c.check_files.result (g.K.Sink.written c.args.out.now) (g.K.Sink.written c.check_files.new.out) (answer_on_files t read command (map file_of c.args.sources.now) c.args.list.now))
    (sym (ap meaning_of c.in-Check.is)) (c.check_files.ensures.answer t u read is)

pub returns-in-Run-clause-answer : goal.returns-in-Run-clause-answer
unfolding answer_on_files
returns-in-Run-clause-answer g c = λ t u read is.
    subst (λ command. Answers c.run_files.result (g.K.Sink.written c.args.out.now) (g.K.Sink.written c.run_files.new.out) (answer_on_files t read command (map file_of c.args.sources.now) c.args.list.now))
    (sym (ap meaning_of c.in-Run.is)) (c.run_files.ensures.answer t u read is)

pub returns-in-Exec-clause-answer : goal.returns-in-Exec-clause-answer
unfolding answer_on_files
returns-in-Exec-clause-answer g c = λ t u read is.
    subst (λ command. Answers c.exec_list.result (g.K.Sink.written c.args.out.now) (g.K.Sink.written c.exec_list.new.out) (answer_on_files t read command (map file_of c.args.sources.now) c.args.list.now))
    (sym (ap meaning_of c.in-Exec.is))
    (subst (λ name. Answers c.exec_list.result (g.K.Sink.written c.args.out.now) (g.K.Sink.written c.exec_list.new.out) (list_answer t read c.in-Exec.steps name (map file_of c.args.sources.now) c.args.list.now)) c.as_str.ensures.value
    (c.exec_list.ensures.answer t u read is))

pub returns-in-Generate-clause-answer : goal.returns-in-Generate-clause-answer
unfolding answer_on_files
returns-in-Generate-clause-answer g c = λ t u read is.
    subst (λ command. Answers c.make_and_run.result (g.K.Sink.written c.args.out.now) (g.K.Sink.written c.make_and_run.new.out) (answer_on_files t read command (map file_of c.args.sources.now) c.args.list.now))
    (sym (ap meaning_of c.in-Generate.is)) (c.make_and_run.ensures.answer t u read is)

pub returns-in-Masks-clause-answer : goal.returns-in-Masks-clause-answer
unfolding answer_on_files
returns-in-Masks-clause-answer g c = λ t u read is.
    subst (λ command. Answers c.masks_files.result (g.K.Sink.written c.args.out.now) (g.K.Sink.written c.masks_files.new.out) (answer_on_files t read command (map file_of c.args.sources.now) c.args.list.now))
    (sym (ap meaning_of c.in-Masks.is)) (c.masks_files.ensures.answer t u read is)
