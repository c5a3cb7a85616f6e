use Rattle.std.proofs.lemmas.Result.{err_from_is_err_and}
use Rattle.asl_io.proofs.ToldLemmas.{TakesPrefix-after, TakesPrefix-more}
use Rattle.asl_answer.proofs.Answering.{Writes-after}
use Rattle.asl_answer.proofs.masks.put_table.Goals as goal

pub returns-in_err-put_head-clause-text : goal.returns-in_err-put_head-clause-text
returns-in_err-put_head-clause-text g c =
    let p = err_from_is_err_and c.from_residual.result c.from_residual.ensures.1 in
    rw p.1 (TakesPrefix-more _ _ _ _ c.in_err-put_head.ensures.text)

pub returns-in_err-put_pairs-clause-text : goal.returns-in_err-put_pairs-clause-text
returns-in_err-put_pairs-clause-text g c =
    let p = err_from_is_err_and c.from_residual-in_err-put_pairs.result c.from_residual-in_err-put_pairs.ensures.1 in
    rw p.1 (TakesPrefix-after _ _ _ _ _ c.in_ok-put_head.ensures.text (TakesPrefix-more _ _ _ _ c.in_err-put_pairs.ensures.text))

pub returns-clause-text : goal.returns-clause-text
returns-clause-text g c =
    Writes-after _ _ _ _ _ _ c.in_ok-put_head.ensures.text (Writes-after _ _ _ _ _ _ c.in_ok-put_pairs.ensures.text c.put_cover.ensures.text)
