use Rattle.std.proofs.Common.{map}
use Rattle.std.proofs.lemmas.Result.{err_from_is_err_and}
use Rattle.asl_io.proofs.ToldLemmas.{Takes-join, TakesPrefix-after, TakesPrefix-more}
use Rattle.asl_machine.specs.Storage.{var_of}
use Rattle.asl_machine.specs.Work.{globals_of}
use Rattle.asl_answer.proofs.GlobalLines.{shown}
use Rattle.asl_answer.proofs.running.say_ending.Goals as goal

pub returns-in_err-status-clause-answer : goal.returns-in_err-status-clause-answer
returns-in_err-status-clause-answer g c = λ t u.
    let p = err_from_is_err_and c.from_residual.result c.from_residual.ensures.1 in
    rw p.1 (TakesPrefix-more _ _ _ _ c.in_err-status.ensures.answer)

pub returns-in_err-put_globals-clause-answer : goal.returns-in_err-put_globals-clause-answer
returns-in_err-put_globals-clause-answer g c = λ t u.
    let p = err_from_is_err_and c.from_residual-in_err-put_globals.result c.from_residual-in_err-put_globals.ensures.1 in
    let before = c.in_ok-status.ensures.answer in
    let lines = shown c.args.machine.now.stage c.args.outcome (map var_of c.globals.result.now) (globals_of t c.args.machine.now) c.requires.ended (c.globals.ensures.values t u) in
    rw (p.1, ← lines) (TakesPrefix-after _ _ _ _ _ before.0 c.in_err-put_globals.ensures.text)

pub returns-clause-answer : goal.returns-clause-answer
returns-clause-answer g c = λ t u.
    let before = c.in_ok-status.ensures.answer in
    let lines = shown c.args.machine.now.stage c.args.outcome (map var_of c.globals.result.now) (globals_of t c.args.machine.now) c.requires.ended (c.globals.ensures.values t u) in
    rw (← lines) (Takes-join _ _ _ _ _ before.0 c.in_ok-put_globals.ensures.text, before.1)
