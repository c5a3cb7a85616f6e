use Rattle.std.proofs.lemmas.Result.{err_from_is_err_and}
use Rattle.asl_io.proofs.ToldLemmas.{TakesPrefix-after, TakesPrefix-more}
use Rattle.asl_answer.proofs.Answering.{Answers-after}
use Rattle.asl_answer.proofs.running.say_value.Goals as goal

pub returns-in_err-put-clause-answer : goal.returns-in_err-put-clause-answer
returns-in_err-put-clause-answer g c =
    let p = err_from_is_err_and c.from_residual.result c.from_residual.ensures.1 in
    rw p.1 (TakesPrefix-more _ _ _ _ c.in_err-put.ensures.text)

pub returns-in_err-put_value-clause-answer : goal.returns-in_err-put_value-clause-answer
returns-in_err-put_value-clause-answer g c =
    let p = err_from_is_err_and c.from_residual-in_err-put_value.result c.from_residual-in_err-put_value.ensures.1 in
    rw p.1 (TakesPrefix-after _ _ _ _ _ c.in_ok-put.ensures.text (TakesPrefix-more _ _ _ _ c.in_err-put_value.ensures.text))

pub returns-clause-answer : goal.returns-clause-answer
returns-clause-answer g c = Answers-after _ _ _ _ _ _ _ c.in_ok-put.ensures.text (Answers-after _ _ _ _ _ _ _ c.in_ok-put_value.ensures.text c.say.ensures.answer)
