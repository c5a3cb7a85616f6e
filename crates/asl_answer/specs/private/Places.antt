-- Places in files, by the bytes that stand before them.
use Rattle.std.specs.Prelude.{◌≡◌, ◌≤◌, ◌+◌, List, length, map, take}
use Rattle.asl_syn.specs.Place.{line_of, column_of}
use Rattle.asl_syn.specs.declared.place.Source.{Source}
use Rattle.asl_syn.specs.declared.token.Span.{Span}
use Rattle.asl_rules.specs.report.Texts.{Text, bytes_of}
use Rattle.asl_answer.specs.private.Model.{file_of}
use Rattle.asl_answer.specs.declared.places.Place.{Place}

-- the place stands in these bytes, and its line and column are those of the bytes before it
abbrev pub IsIn : Text → Place → Type 0
IsIn bytes p =
    (p.start ≤ length bytes) × (p.line ≤ 1 + p.start) × (p.column ≤ 1 + p.start)
    × (p.line ≡ line_of (take p.start bytes)) × (p.column ≡ column_of (take p.start bytes))

-- it does so in its file
abbrev pub IsPlace : List Source → Place → Type 0
IsPlace sources p = IsIn (bytes_of (map file_of sources) p.file) p

-- it is where a span begins
abbrev pub Begins : List Source → Place → Span → Type 0
Begins sources p span =
    (p.line ≡ line_of (take span.start (bytes_of (map file_of sources) span.file)))
    × (p.column ≡ column_of (take span.start (bytes_of (map file_of sources) span.file)))
