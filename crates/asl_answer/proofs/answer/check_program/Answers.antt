use Rattle.std.proofs.Common.{[], refl}
use Rattle.std.proofs.lemmas.Result.{err_from_is_err_and}
use Rattle.asl_io.proofs.ToldLemmas.{Takes-none}
use Rattle.asl_answer.proofs.answer.check_program.Goals as goal

pub returns-in_err-text-in-Ok-clause-answer : goal.returns-in_err-text-in-Ok-clause-answer
returns-in_err-text-in-Ok-clause-answer g c = λ t u.
    let p = err_from_is_err_and c.from_residual.result c.from_residual.ensures.1 in
    rw p.1 ([], _, refl, Takes-none _)
