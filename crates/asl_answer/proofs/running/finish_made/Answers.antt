use Rattle.std.proofs.Common.{map}
use Rattle.std.proofs.lemmas.Result.{err_from_is_err_and}
use Rattle.asl_io.proofs.ToldLemmas.{TakesPrefix-after, TakesPrefix-more}
use Rattle.asl_answer.specs.private.Model.{file_of}
use Rattle.asl_answer.proofs.Answering.{Answers-after}
use Rattle.asl_answer.proofs.RunLemmas.{made_line_is}
use Rattle.asl_answer.proofs.running.finish_made.Goals as goal

pub returns-in_err-close-clause-answer : goal.returns-in_err-close-clause-answer
returns-in_err-close-clause-answer g c =
    let p = err_from_is_err_and c.from_residual.result c.from_residual.ensures.1 in
    rw (p.1, ← c.text_open.ensures) (TakesPrefix-more _ _ _ _ c.in_err-close.ensures.text)

pub returns-in_err-put_where_returned-clause-answer : goal.returns-in_err-put_where_returned-clause-answer
returns-in_err-put_where_returned-clause-answer g c =
    let p = err_from_is_err_and c.from_residual-in_err-put_where_returned.result c.from_residual-in_err-put_where_returned.ensures.1 in
    let line = made_line_is c.args.words.now (map file_of c.args.sources.now) c.args.machine.now.stage c.args.outcome c.requires.ended in
    rw (p.1, ← c.text_open.ensures, line) (TakesPrefix-after _ _ _ _ _ c.in_ok-close.ensures.text (TakesPrefix-more _ _ _ _ c.in_err-put_where_returned.ensures.text))

pub returns-clause-answer : goal.returns-clause-answer
returns-clause-answer g c =
    let line = made_line_is c.args.words.now (map file_of c.args.sources.now) c.args.machine.now.stage c.args.outcome c.requires.ended in
    rw (← c.text_open.ensures, line)
    (Answers-after c.say_end.result _ _ _ _ _ _ c.in_ok-close.ensures.text (Answers-after c.say_end.result _ _ _ _ _ _ c.in_ok-put_where_returned.ensures.text c.say_end.ensures.answer))
