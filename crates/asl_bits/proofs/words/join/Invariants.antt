use Rattle.std.proofs.Common.{◌≡◌, ℕ, ◌*◌, ◌/◌, ◌%◌, ◌<◌, ◌^◌, get_or}
use Rattle.std.specs.Prelude.{bit_or, slice_index}
use Rattle.asl_bits.specs.Words.{words_value}
use Rattle.asl_bits.proofs.words.join.Given as goal

abbrev pub invariant-loop-i : goal.invariant-loop-i
invariant-loop-i l = (k : ℕ) → k < l.i → get_or l.out k 0 ≡ bit_or (words_value l.high * 2 ^ l.by / 2 ^ (128 * k) % 2 ^ 128) (slice_index l.low k)
