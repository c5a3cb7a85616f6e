use Rattle.std.proofs.lemmas.Result.{err_from_is_err_and}
use Rattle.asl_io.proofs.ToldLemmas.{TakesPrefix-after, TakesPrefix-more}
use Rattle.asl_answer.proofs.Answering.{Writes-after}
use Rattle.asl_answer.proofs.running.put_global.Goals as goal

pub returns-in_err-put-clause-text : goal.returns-in_err-put-clause-text
returns-in_err-put-clause-text g c =
    let p = err_from_is_err_and c.from_residual.result c.from_residual.ensures.1 in
    rw (p.1, ← c.name_of.ensures) (TakesPrefix-more _ _ _ _ c.in_err-put.ensures.text)

pub returns-in_err-put-2-clause-text : goal.returns-in_err-put-2-clause-text
returns-in_err-put-2-clause-text g c =
    let p = err_from_is_err_and c.from_residual-in_err-put-2.result c.from_residual-in_err-put-2.ensures.1 in
    rw (p.1, ← c.name_of.ensures) (TakesPrefix-after _ _ _ _ _ c.in_ok-put.ensures.text (TakesPrefix-more _ _ _ _ c.in_err-put-2.ensures.text))

pub returns-in_err-put_value-clause-text : goal.returns-in_err-put_value-clause-text
returns-in_err-put_value-clause-text g c =
    let p = err_from_is_err_and c.from_residual-in_err-put_value.result c.from_residual-in_err-put_value.ensures.1 in
    rw (p.1, ← c.name_of.ensures) (TakesPrefix-after _ _ _ _ _ c.in_ok-put.ensures.text (TakesPrefix-after _ _ _ _ _ c.in_ok-put-2.ensures.text (TakesPrefix-more _ _ _ _ c.in_err-put_value.ensures.text)))

pub returns-clause-text : goal.returns-clause-text
returns-clause-text g c =
    rw (← c.name_of.ensures)
    (Writes-after _ _ _ _ _ _ c.in_ok-put.ensures.text (Writes-after _ _ _ _ _ _ c.in_ok-put-2.ensures.text (Writes-after _ _ _ _ _ _ c.in_ok-put_value.ensures.text c.put-3.ensures.text)))
