use Rattle.std.proofs.Common.{rules, length, suc}
use Rattle.std.proofs.lemmas.Result.{err_from_is_err_and}
use Rattle.asl_table.specs.Pairs.{mask_at}
use Rattle.asl_value.proofs.Fronts.{piece_cut, piece_taken}
use Rattle.asl_answer.proofs.MaskLines.{next_is, no_pair}
use Rattle.asl_answer.proofs.masks.put_pairs_with.Goals as goal

pub loop-other-init : goal.loop-other-init
loop-other-init g c =
    let a = mask_at c.args.masks.now c.args.at in
    record { lines = no_pair (g.K.Sink.written c.args.out.now) (length a.1) c.args.at a c.args.masks.now; count = search rules; full = search rules }

pub returns-in_err-put_pair-clause-text : goal.returns-in_err-put_pair-clause-text
returns-in_err-put_pair-clause-text g c =
    let a = mask_at c.args.masks.now c.args.at in
    let p = err_from_is_err_and c.from_residual.result c.from_residual.ensures.1 in
    let next = next_is (length a.1) c.args.at a c.args.masks.now c.loop-other.from c.in-Some.other c.in-Some.word (c.in-Some.ensures (suc c.args.at)) in
    rw p.1 (piece_cut _ _ _ _ _ _ _ c.loop-other.invariant.lines next c.in_err-put_pair.ensures.text)

pub loop-other-preserved : goal.loop-other-preserved
loop-other-preserved g c =
    let a = mask_at c.args.masks.now c.args.at in
    let next = next_is (length a.1) c.args.at a c.args.masks.now c.loop-other.from c.in-Some.other c.in-Some.word (c.in-Some.ensures (suc c.args.at)) in
    record {
      lines = piece_taken _ _ _ _ _ _ _ c.loop-other.invariant.lines next c.in_ok-put_pair.ensures.text;
      count = search rules;
      full = search rules;
    }
