-- What contracts see of `MemSink` besides the trait's words.
use Rattle.std.specs.Prelude.{ℕ, List}
use Rattle.asl_io.specs.declared.mem_sink.MemSink.{MemSink}

-- the numbers of the calls that fail
abbrev pub failing_calls : MemSink → List ℕ
failing_calls s = s.fails.items

-- how many calls there have been
abbrev pub call_count : MemSink → ℕ
call_count s = s.calls

-- the most bytes that one call takes
abbrev pub piece_of : MemSink → ℕ
piece_of s = s.piece

-- the most bytes that all calls take
abbrev pub room_of : MemSink → ℕ
room_of s = s.room
