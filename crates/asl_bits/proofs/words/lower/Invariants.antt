use Rattle.std.proofs.Common.{◌≡◌, ℕ, ◌+◌, ◌-◌, ◌*◌, ◌/◌, ◌%◌, ◌<◌, ◌^◌, get_or}
use Rattle.asl_bits.specs.Words.{words_value}
use Rattle.asl_bits.proofs.words.lower.Given as goal

abbrev pub invariant-loop-i : goal.invariant-loop-i
invariant-loop-i l = (k : ℕ) → k < l.i → get_or l.out k 0 ≡ words_value l.words / 2 ^ (l.by + 128 * k) % 2 ^ 128 % 2 ^ (l.width - 128 * k)
