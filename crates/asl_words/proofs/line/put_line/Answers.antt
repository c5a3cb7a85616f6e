use Rattle.std.proofs.lemmas.Result.{err_from_is_err_and}
use Rattle.asl_io.proofs.ToldLemmas.{TakesPrefix-more}
use Rattle.asl_words.proofs.Writing.{written_behind}
use Rattle.asl_words.proofs.line.put_line.Goals as goal

pub returns-in_err-close-clause-text : goal.returns-in_err-close-clause-text
returns-in_err-close-clause-text g c =
    let p = err_from_is_err_and c.from_residual.result c.from_residual.ensures.1 in
    rw p.1 (TakesPrefix-more _ _ _ _ c.in_err-close.ensures.text)

pub returns-clause-text : goal.returns-clause-text
returns-clause-text g c = written_behind c.put_word.result _ _ _ _ _ c.in_ok-close.ensures.text c.put_word.ensures.text
