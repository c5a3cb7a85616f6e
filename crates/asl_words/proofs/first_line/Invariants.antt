use Rattle.std.proofs.Common.{◌≡◌, ℕ, ◌<◌, false, get_or}
use Rattle.asl_rules.specs.report.WordList.{is_line_end}
use Rattle.asl_words.proofs.first_line.Given as goal

abbrev pub invariant-loop-i : goal.invariant-loop-i
invariant-loop-i l = (k : ℕ) → k < l.i → is_line_end (get_or l.text k 0) ≡ false
