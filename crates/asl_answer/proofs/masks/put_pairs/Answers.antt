use Rattle.std.proofs.Common.{rules, ◌<◌, suc, drop, length, subst, sym}
use Rattle.std.proofs.lemmas.Result.{err_from_is_err_and}
use Rattle.asl_io.specs.Told.{Takes, TakesPrefix}
use Rattle.asl_rules.specs.report.MaskTables.{digits_in, pairs_with}
use Rattle.asl_table.specs.Pairs.{mask_at}
use Rattle.asl_table.specs.Widths.{AreWide}
use Rattle.asl_value.proofs.Fronts.{piece_cut, piece_taken}
use Rattle.asl_answer.proofs.MaskLines.{pairs_at, wide_as}
use Rattle.asl_answer.proofs.masks.put_pairs.Goals as goal

pub put_pairs_with-requires-clause-wide : goal.put_pairs_with-requires-clause-wide
put_pairs_with-requires-clause-wide g c =
    let same = c.as_slice-masks.ensures.value in
    let within = subst (λ ms. c.loop-at.at < length ms) same c.loop-at-test.true in
    subst (λ ms. AreWide (length (mask_at ms c.loop-at.at).1) (digits_in ms)) (sym same)
    (wide_as c.args.table.now.width c.args.table.now.masks.items c.loop-at.at c.requires.1 within)

pub returns-in_err-put_pairs_with-clause-text : goal.returns-in_err-put_pairs_with-clause-text
returns-in_err-put_pairs_with-clause-text g c =
    let p = err_from_is_err_and c.from_residual-in_err-put_pairs_with.result c.from_residual-in_err-put_pairs_with.ensures.1 in
    let same = c.as_slice-masks.ensures.value in
    let i = c.loop-at.at in
    let within = subst (λ ms. i < length ms) same c.loop-at-test.true in
    let text = subst
    (λ ms. TakesPrefix (g.K.Sink.written c.loop-at.out) (g.K.Sink.written c.put_pairs_with.new.out) (pairs_with (length (mask_at ms i).1) (suc i) (suc (suc i)) (mask_at ms i) (drop (suc i) ms)))
    same c.in_err-put_pairs_with.ensures.text in
    rw p.1
    (piece_cut _ _ _ _ _ _ _ c.loop-at.invariant.lines
    (pairs_at c.args.table.now.width c.args.table.now.masks.items i c.requires.1 within) text)

pub loop-at-preserved : goal.loop-at-preserved
loop-at-preserved g c =
    let same = c.as_slice-masks.ensures.value in
    let i = c.loop-at.at in
    let within = subst (λ ms. i < length ms) same c.loop-at-test.true in
    let text = subst
    (λ ms. Takes (g.K.Sink.written c.loop-at.out) (g.K.Sink.written c.put_pairs_with.new.out) (pairs_with (length (mask_at ms i).1) (suc i) (suc (suc i)) (mask_at ms i) (drop (suc i) ms)))
    same c.in_ok-put_pairs_with.ensures.text in
    record {
      lines = piece_taken _ _ _ _ _ _ _ c.loop-at.invariant.lines
          (pairs_at c.args.table.now.width c.args.table.now.masks.items i c.requires.1 within) text;
      count = search rules;
      full = search rules;
    }
