use Rattle.std.proofs.Common.{◌≡◌, ◌≤◌, ℕ, List, length, map, drop, Some, string_bytes}
use Rattle.asl_rules.specs.report.Report.{read_by}
use Rattle.asl_cmd.proofs.ReadingLemmas.{prepend}
use Rattle.asl_answer.specs.private.Model.{file_of, AreShort}
use Rattle.asl_cmd.proofs.reading.read_all.Given as goal

-- the files so far, and then what the others come to, are what all come to
abbrev pub invariant-loop-name : goal.invariant-loop-name
invariant-loop-name g l = record {
  reading : (held : List ℕ → List ℕ) → g.F.Files.held l.fn.files ≡ Some held → prepend (map file_of l.sources.items) (read_by held (map string_bytes (drop l.name-index l.names))) ≡ read_by held (map string_bytes l.names);
  short : AreShort l.sources.items;
  few : length l.sources.items ≤ l.name-index;
  within : l.name-index ≤ length l.names;
  count : g.F.Files.faults l.files ≡ g.F.Files.faults l.fn.files;
  held : g.F.Files.held l.files ≡ g.F.Files.held l.fn.files;
  sure : g.F.Files.sure l.files ≡ g.F.Files.sure l.fn.files;
}
