use Rattle.std.proofs.Common.{◌∙◌, ap, map, subst}
use Rattle.asl_rules.specs.report.Report.{answer}
use Rattle.asl_rules.specs.report.MaskTables.{masks_text}
use Rattle.asl_rules.specs.declared.entry.Entry.TheVariants.{None}
use Rattle.asl_table.specs.View.{table_view}
use Rattle.asl_answer.specs.private.Model.{file_of}
use Rattle.asl_answer.specs.private.Writes.{Answers}
use Rattle.asl_answer.proofs.MaskLines.{masks_written}
use Rattle.asl_answer.proofs.Programs.{answered}
use Rattle.asl_answer.proofs.answer.check_and_show.Goals as goal

pub returns-in-Ok-clause-answer : goal.returns-in-Ok-clause-answer
returns-in-Ok-clause-answer g c = λ t u.
    let files = map file_of c.args.sources.now in
    let made = ap (map table_view) c.as_slice.ensures.value ∙ c.in_ok-tables.ensures.is in
    let lines = masks_text files c.args.budget c.args.program.decls in
    answered t None files c.args.program.decls c.in-Ok.field-0 (λ ds found. answer lines 0) c.say_tables.result _ _ (c.in-Ok.ensures t u)
    (subst (λ text. Answers c.say_tables.result (g.K.Sink.written c.args.out.now) (g.K.Sink.written c.say_tables.new.out) (answer text 0))
    (masks_written files c.args.budget c.as_slice.result.now c.args.program.decls made) c.say_tables.ensures.answer)
