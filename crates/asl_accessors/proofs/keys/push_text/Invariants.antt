use Rattle.std.proofs.Common.{◌≡◌, ◌++◌, drop}
use Rattle.asl_rules.specs.declarations.Keys.{text_key}
use Rattle.asl_accessors.proofs.keys.push_text.Given as goal

abbrev pub invariant-loop-byte : goal.invariant-loop-byte
invariant-loop-byte l = l.key.items ++ drop l.byte-index l.text ≡ l.fn.key.items ++ text_key l.text
