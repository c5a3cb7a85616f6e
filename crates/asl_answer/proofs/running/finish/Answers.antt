use Rattle.std.proofs.lemmas.Result.{err_from_is_err_and}
use Rattle.asl_io.proofs.ToldLemmas.{TakesPrefix-more}
use Rattle.asl_answer.proofs.Answering.{Answers-after}
use Rattle.asl_answer.proofs.running.finish.Goals as goal

pub returns-in_err-close-clause-answer : goal.returns-in_err-close-clause-answer
returns-in_err-close-clause-answer g c = λ t u.
    let p = err_from_is_err_and c.from_residual.result c.from_residual.ensures.1 in
    rw (p.1, ← c.text_open.ensures) (TakesPrefix-more _ _ _ _ c.in_err-close.ensures.text)

pub returns-clause-answer : goal.returns-clause-answer
returns-clause-answer g c = λ t u. rw (← c.text_open.ensures) (Answers-after c.say_ending.result _ _ _ _ _ _ c.in_ok-close.ensures.text (c.say_ending.ensures.answer t u))
