use Rattle.std.proofs.Common.{◌<◌, ap, arith, length, rules}
use Rattle.std.proofs.lemmas.Result.{err_from_is_err_and}
use Rattle.asl_words.proofs.Lines.{answer_from-start, length-after_first, says_fault, read_more}
use Rattle.asl_words.proofs.read_words.Goals as goal

pub returns-in_err-read_line-clause-fault : goal.returns-in_err-read_line-clause-fault
returns-in_err-read_line-clause-fault c =
    let p = err_from_is_err_and c.from_residual.result c.from_residual.ensures.1 in
    rw (p.1, p.2) (says_fault c.args.bytes.now c.loop-rest.rest.now _ _ _ _ _ c.loop-rest.invariant.answer c.first_line.ensures.line c.without_end.ensures c.in_err-read_line.ensures.fault)

pub loop-rest-init : goal.loop-rest-init
loop-rest-init c =
    let none = c.new-words.ensures.items in
    record {
      counted = omega arith;
      answer = rw none (answer_from-start c.args.bytes.now);
      shapes = search rules;
      few = search rules;
    }

pub loop-rest-preserved : goal.loop-rest-preserved
loop-rest-preserved c =
    let rest = c.loop-rest.rest.now in
    let some : 0 < length rest = search rules in
    record {
      counted = omega (arith, length-after_first rest some, ap length c.first_line.ensures.rest);
      answer = read_more c.args.bytes.now rest _ _ _ _ _ _ c.loop-rest.invariant.answer c.first_line.ensures.line c.first_line.ensures.rest c.without_end.ensures c.in_ok-read_line.ensures.read;
      shapes = c.in_ok-read_line.ensures.shapes c.loop-rest.invariant.shapes;
      few = c.in_ok-read_line.ensures.few c.loop-rest.invariant.few;
    }
