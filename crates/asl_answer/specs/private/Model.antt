-- What the values that are answered stand for.
use Rattle.std.specs.Prelude.{◌≤◌, ⊤, All, List, length, map, string_bytes}
use Rattle.asl_syn.specs.declared.place.Source.{Source}
pub use Rattle.asl_grammar.specs.Reading.{file_of}
use Rattle.asl_answer.specs.private.Report.{Came, whole, too_long, too_many}
use Rattle.asl_answer.specs.declared.reading.Reading.{Reading}
use Rattle.asl_answer.specs.declared.reading.Reading.TheVariants as reading

-- each file has at most 1,048,576 bytes
abbrev pub AreShort : List Source → Type 0
AreShort sources = All (λ s. length s.bytes.items ≤ 1048576) sources

-- what came of the reading
abbrev pub came_in : Reading → Came
came_in (reading.All sources list) = whole (map file_of sources.items) list.items
came_in (reading.Long name) = too_long (string_bytes name)
came_in reading.Many = too_many

-- the source files that were read are few and short
abbrev pub IsShort : Reading → Type 0
IsShort (reading.All sources list) = (length sources.items ≤ 64) × AreShort sources.items
IsShort (reading.Long name) = ⊤
IsShort reading.Many = ⊤
