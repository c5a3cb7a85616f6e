use Rattle.std.proofs.Common.{map, Ok, Err, sym, ap, subst}
use Rattle.asl_rules.specs.report.Report.{on_reading, on_masks}
use Rattle.asl_answer.specs.private.Model.{file_of}
use Rattle.asl_answer.specs.private.Writes.{Answers}
use Rattle.asl_answer.proofs.Programs.{read_as}
use Rattle.asl_answer.proofs.answer.masks_files.Goals as goal

pub returns-in-Ok-clause-answer : goal.returns-in-Ok-clause-answer
returns-in-Ok-clause-answer g c = λ t u read is.
    let files = map file_of c.args.sources.now in
    subst (λ r. Answers c.check_and_show.result (g.K.Sink.written c.args.out.now) (g.K.Sink.written c.check_and_show.new.out) (on_reading files (on_masks t c.args.budget (map file_of c.args.sources.now)) r))
    (sym (read_as files (Ok c.in-Ok.program.decls) c.in-Ok.ensures.program read is)) (c.check_and_show.ensures.answer t u)

pub returns-in-Err-At-clause-answer : goal.returns-in-Err-At-clause-answer
returns-in-Err-At-clause-answer g c = λ t u read is.
    let files = map file_of c.args.sources.now in
    subst (λ r. Answers c.refuse.result (g.K.Sink.written c.args.out.now) (g.K.Sink.written c.refuse.new.out) (on_reading files (on_masks t c.args.budget (map file_of c.args.sources.now)) r))
    (sym (read_as files (Err c.in-Err-At.fault) (c.in-Err-At.ensures.fault c.in-Err-At.fault (ap (λ z. Err z) c.in-Err-At.field-0-is)) read is)) c.refuse.ensures.answer
