use Rattle.std.proofs.Common.{◌≡◌, drop, map}
use Rattle.asl_rules.specs.report.MaskTables.{tables_text}
use Rattle.asl_table.specs.View.{table_view}
use Rattle.asl_value.proofs.Fronts.{TakesFront}
use Rattle.asl_answer.specs.private.Model.{file_of}
use Rattle.asl_answer.specs.private.Places.{IsPlace}
use Rattle.asl_answer.proofs.masks.put_tables.Given as goal

-- the lines of the tables so far were written, and the place is that of the last
abbrev pub invariant-loop-table : goal.invariant-loop-table
invariant-loop-table g l = record {
  lines : TakesFront (g.K.Sink.written l.fn.out) (g.K.Sink.written l.out) (tables_text (map file_of l.sources) l.budget (map table_view l.tables))
      (tables_text (map file_of l.sources) l.budget (map table_view (drop l.table-index l.tables)));
  place : IsPlace l.sources l.place;
  count : g.K.Sink.faults l.out ≡ g.K.Sink.faults l.fn.out;
  full : g.K.Sink.full l.out ≡ g.K.Sink.full l.fn.out;
}
