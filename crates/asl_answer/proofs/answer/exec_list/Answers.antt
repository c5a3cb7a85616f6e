use Rattle.std.proofs.Common.{◌∙◌, [], map, refl, sym, ap, subst}
use Rattle.std.proofs.lemmas.Result.{err_from_is_err_and}
use Rattle.asl_io.proofs.ToldLemmas.{Takes-none}
use Rattle.asl_rules.specs.report.Report.{answer, on_words_read}
use Rattle.asl_rules.specs.report.WordList.{words_read}
use Rattle.asl_answer.specs.private.Model.{file_of}
use Rattle.asl_answer.specs.private.Report.{exec_answer}
use Rattle.asl_answer.specs.private.Writes.{Answers}
use Rattle.asl_answer.proofs.answer.exec_list.Goals as goal

pub returns-in-Ok-clause-answer : goal.returns-in-Ok-clause-answer
returns-in-Ok-clause-answer g c = λ t u read is.
    let files = map file_of c.args.sources.now in
    subst (λ r. Answers c.exec_files.result (g.K.Sink.written c.args.out.now) (g.K.Sink.written c.exec_files.new.out) (on_words_read c.args.list.now r (λ words. exec_answer t read c.args.steps words files))) (sym c.in-Ok.ensures.words)
    (subst (λ words. Answers c.exec_files.result (g.K.Sink.written c.args.out.now) (g.K.Sink.written c.exec_files.new.out) (exec_answer t read c.args.steps words files)) c.as_slice.ensures.value
    (c.exec_files.ensures.answer t u read is))

pub returns-in_err-text-in-Err-clause-answer : goal.returns-in_err-text-in-Err-clause-answer
returns-in_err-text-in-Err-clause-answer g c = λ t u read is.
    let p = err_from_is_err_and c.from_residual.result c.from_residual.ensures.1 in
    rw p.1 ([], _, refl, Takes-none _)

pub returns-in_ok-text-in-Err-clause-answer : goal.returns-in_ok-text-in-Err-clause-answer
returns-in_ok-text-in-Err-clause-answer g c = λ t u read is.
    let files = map file_of c.args.sources.now in
    subst (Answers c.say.result (g.K.Sink.written c.args.out.now) (g.K.Sink.written c.say.new.out))
    (ap (λ text. answer text 1) c.as_bytes.ensures.value ∙ sym (c.in_ok-text-in-Err.ensures (words_read c.args.bytes.now) c.in-Err.ensures.fault (λ words. exec_answer t read c.args.steps words files)))
    c.say.ensures.answer
