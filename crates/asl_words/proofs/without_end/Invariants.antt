use Rattle.std.proofs.Common.{◌≡◌, ◌+◌, ◌≤◌, length, take}
use Rattle.std.specs.List.{suffix_len}
use Rattle.asl_rules.specs.report.WordList.{is_dropped}
use Rattle.asl_words.proofs.without_end.Given as goal

abbrev pub invariant-loop-end : goal.invariant-loop-end
invariant-loop-end l =
    (l.end ≤ length l.line) × (l.end + suffix_len is_dropped l.line ≡ length l.line + suffix_len is_dropped (take l.end l.line))

abbrev pub decreases-loop-end : goal.decreases-loop-end
decreases-loop-end l = l.end
