use Rattle.std.proofs.Common.{◌≡◌, ◌-◌, ◌++◌, length, take, codes, string_bytes}
use Rattle.asl_answer.proofs.MaskLines.{digits_of}
use Rattle.asl_answer.proofs.masks.word_text.Given as goal

-- all digits stand there but the lower ones
abbrev pub invariant-loop-i : goal.invariant-loop-i
invariant-loop-i l = string_bytes l.text ++ digits_of (take (length l.word - l.i) l.word) ≡ codes "'" ++ digits_of l.word
