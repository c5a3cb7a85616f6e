use Rattle.std.proofs.Common.{rules, arith}
use Rattle.std.proofs.lemmas.Result.{err_from_is_err_and}
use Rattle.asl_answer.proofs.GlobalLines.{line_written, line_refused}
use Rattle.asl_answer.proofs.running.put_globals.Goals as goal

pub returns-in_err-put_global-clause-text : goal.returns-in_err-put_global-clause-text
returns-in_err-put_global-clause-text g c =
    let p = err_from_is_err_and c.from_residual.result c.from_residual.ensures.1 in
    rw p.1 (line_refused _ _ _ c.args.globals.now c.loop-global.global-index c.global-item.result
    (omega (arith, c.loop-global-test.true)) c.global-item.is c.loop-global.invariant.lines c.in_err-put_global.ensures.text)

pub loop-global-preserved : goal.loop-global-preserved
loop-global-preserved g c = record {
  lines = line_written _ _ _ c.args.globals.now c.loop-global.global-index c.global-item.result
      (omega (arith, c.loop-global-test.true)) c.global-item.is c.loop-global.invariant.lines c.in_ok-put_global.ensures.text;
  count = search rules;
  full = search rules;
}
