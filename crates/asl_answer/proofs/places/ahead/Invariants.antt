use Rattle.std.proofs.Common.{◌≡◌, ◌≤◌, ◌+◌, take}
use Rattle.asl_syn.specs.Place.{line_of, column_of}
use Rattle.asl_answer.proofs.places.ahead.Given as goal

abbrev pub invariant-loop-at : goal.invariant-loop-at
invariant-loop-at l =
    (l.line ≤ 1 + l.at) × (l.column ≤ 1 + l.at) × (l.line ≡ line_of (take l.at l.bytes)) × (l.column ≡ column_of (take l.at l.bytes))
