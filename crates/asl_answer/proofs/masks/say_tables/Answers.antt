use Rattle.std.proofs.Common.{◌∙◌, ◌++◌, map, subst}
use Rattle.std.proofs.lemmas.Result.{err_from_is_err_and}
use Rattle.asl_io.proofs.ToldLemmas.{TakesPrefix-more}
use Rattle.asl_rules.specs.report.MaskTables.{tables_text}
use Rattle.asl_rules.specs.report.Report.{answer}
use Rattle.asl_table.specs.View.{table_view}
use Rattle.asl_answer.specs.private.Model.{file_of}
use Rattle.asl_answer.specs.private.Writes.{Answers}
use Rattle.asl_answer.proofs.Answering.{Answers-after}
use Rattle.asl_answer.proofs.masks.say_tables.Goals as goal

pub returns-in_err-put_tables-clause-answer : goal.returns-in_err-put_tables-clause-answer
returns-in_err-put_tables-clause-answer g c =
    let p = err_from_is_err_and c.from_residual.result c.from_residual.ensures.1 in
    rw p.1 (TakesPrefix-more _ _ _ _ c.in_err-put_tables.ensures.text)

pub returns-clause-answer : goal.returns-clause-answer
returns-clause-answer g c =
    let lines = tables_text (map file_of c.args.sources.now) c.args.budget (map table_view c.args.tables.now) in
    subst (λ last. Answers c.say.result (g.K.Sink.written c.args.out.now) (g.K.Sink.written c.say.new.out) (answer (lines ++ last) 0))
    (c.as_bytes.ensures.value ∙ c.in_ok-text.ensures)
    (Answers-after _ _ _ _ _ _ _ c.in_ok-put_tables.ensures.text c.say.ensures.answer)
