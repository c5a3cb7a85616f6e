-- What a table of the code represents.
use Rattle.std.specs.Prelude.{◌≤◌}
use Rattle.asl_bits.specs.declared.TheConstants.{WIDTH_LIMIT}
use Rattle.asl_rules.specs.report.MaskTables as rules
use Rattle.asl_table.specs.declared.table.MaskTable.{MaskTable}
use Rattle.asl_table.specs.Widths.{AreWide}

abbrev pub table_view : MaskTable → rules.MaskTable
table_view t = record { span = t.span; width = t.width; masks = t.masks.items }

abbrev pub HasWidth : MaskTable → Type 0
HasWidth t = (t.width ≤ WIDTH_LIMIT) × AreWide t.width (rules.digits_in t.masks.items)
