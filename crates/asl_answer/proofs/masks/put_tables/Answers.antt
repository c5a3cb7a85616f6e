use Rattle.std.proofs.Common.{rules, map, arith}
use Rattle.std.proofs.lemmas.Result.{err_from_is_err_and}
use Rattle.asl_rules.specs.report.Texts.{bytes_of}
use Rattle.asl_value.proofs.Fronts.{none_taken, piece_cut, piece_taken}
use Rattle.asl_answer.specs.private.Model.{file_of}
use Rattle.asl_answer.proofs.MaskLines.{tables_at}
use Rattle.asl_answer.proofs.masks.put_tables.Goals as goal

pub loop-table-init : goal.loop-table-init
loop-table-init g c = record {
  lines = none_taken _ _;
  place = c.beginning-place.ensures.place (bytes_of (map file_of c.args.sources.now) c.beginning-place.result.file);
  count = search rules;
  full = search rules;
}

pub returns-in_err-put_table-clause-text : goal.returns-in_err-put_table-clause-text
returns-in_err-put_table-clause-text g c =
    let p = err_from_is_err_and c.from_residual.result c.from_residual.ensures.1 in
    let here = tables_at (map file_of c.args.sources.now) c.args.budget c.args.tables.now c.loop-table.table-index c.table-item.result
    (omega (arith, c.loop-table-test.true)) c.table-item.is in
    rw p.1 (piece_cut _ _ _ _ _ _ _ c.loop-table.invariant.lines here c.in_err-put_table.ensures.text)

pub loop-table-preserved : goal.loop-table-preserved
loop-table-preserved g c =
    let here = tables_at (map file_of c.args.sources.now) c.args.budget c.args.tables.now c.loop-table.table-index c.table-item.result
    (omega (arith, c.loop-table-test.true)) c.table-item.is in
    record {
      lines = piece_taken _ _ _ _ _ _ _ c.loop-table.invariant.lines here c.in_ok-put_table.ensures.text;
      place = c.place_of-place.ensures.place;
      count = search rules;
      full = search rules;
    }
