-- What the values of the reading stand for.
use Rattle.std.specs.Prelude.{◌≡◌, ◌≤◌, ◌<◌, ⊤, length, map, string_bytes}
use Rattle.asl_rules.specs.report.Texts.{Text}
use Rattle.asl_rules.specs.report.Report.{Reading as Files, all, long}
use Rattle.asl_answer.specs.private.Model.{file_of, AreShort}
use Rattle.asl_cmd.specs.declared.reading.One.{One}
use Rattle.asl_cmd.specs.declared.reading.One.TheVariants as one
use Rattle.asl_cmd.specs.declared.reading.Sources.{Sources}
use Rattle.asl_cmd.specs.declared.reading.Sources.TheVariants as sources

-- what came of the source files
abbrev pub reading_of : Sources → Files
reading_of (sources.Whole files) = all (map file_of files.items)
reading_of (sources.Long name) = long (string_bytes name)

-- the source files that were read are few and short
abbrev pub AreShortSources : Sources → Type 0
AreShortSources (sources.Whole files) = (length files.items ≤ 64) × AreShort files.items
AreShortSources (sources.Long name) = ⊤

-- what came of one file with this name and these bytes
abbrev pub IsOne : Text → Text → One → Type 0
IsOne name bytes (one.File s) = (file_of s ≡ (name, bytes)) × (length bytes ≤ 1048576)
IsOne name bytes (one.TooLong n) = (string_bytes n ≡ name) × (1048576 < length bytes)

-- a file that was read is short
abbrev pub IsShortOne : One → Type 0
IsShortOne (one.File s) = length s.bytes.items ≤ 1048576
IsShortOne (one.TooLong n) = ⊤
