use Rattle.std.proofs.Common.{◌≡◌, ◌+◌, ◌≤◌, length, vec_len}
use Rattle.std.specs.List.{All, slice_split}
use Rattle.asl_words.specs.declared.TheConstants.{MOST_WORDS}
use Rattle.asl_rules.specs.report.WordList.{is_line_end, words_read}
use Rattle.asl_words.specs.Shapes.{HasShape}
use Rattle.asl_words.proofs.Lines.{answer_from}
use Rattle.asl_words.proofs.read_words.Given as goal

abbrev pub invariant-loop-rest : goal.invariant-loop-rest
invariant-loop-rest l = record {
  counted : l.number + length l.rest ≤ length l.bytes;
  answer : words_read l.bytes ≡ answer_from l.words.items (l.number + 1) (slice_split is_line_end l.rest);
  shapes : All HasShape l.words.items;
  few : vec_len l.words ≤ MOST_WORDS;
}

abbrev pub decreases-loop-rest : goal.decreases-loop-rest
decreases-loop-rest l = length l.rest
