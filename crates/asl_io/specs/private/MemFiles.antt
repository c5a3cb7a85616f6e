-- What contracts see of `MemFiles` besides the trait's words.
use Rattle.std.specs.Prelude.{ℕ, List}
use Rattle.asl_io.specs.declared.mem_files.MemFiles.{MemFiles}

-- the numbers of the calls that fail
abbrev pub failing_calls : MemFiles → List ℕ
failing_calls f = f.fails.items

-- how many calls there have been
abbrev pub call_count : MemFiles → ℕ
call_count f = f.calls

-- the most bytes that one call gives
abbrev pub piece_of : MemFiles → ℕ
piece_of f = f.piece
