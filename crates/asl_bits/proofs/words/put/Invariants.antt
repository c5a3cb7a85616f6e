use Rattle.std.proofs.Common.{◌≡◌, ℕ, ◌-◌, ◌*◌, ◌/◌, ◌%◌, ◌<◌, ◌^◌, get_or}
use Rattle.std.specs.Prelude.{bit_or}
use Rattle.asl_bits.specs.Words.{words_value}
use Rattle.asl_bits.proofs.words.put.Given as goal

abbrev pub invariant-loop-i : goal.invariant-loop-i
invariant-loop-i l = (k : ℕ) → k < l.i → get_or l.out k 0 ≡ bit_or (get_or l.words k 0 / 2 ^ (l.end - 128 * k) * 2 ^ (l.end - 128 * k)) (bit_or (words_value l.part * 2 ^ l.by / 2 ^ (128 * k) % 2 ^ 128) (get_or l.words k 0 % 2 ^ (l.by - 128 * k)))
