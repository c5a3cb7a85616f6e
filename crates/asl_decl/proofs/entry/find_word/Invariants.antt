use Rattle.std.proofs.Common.{◌≡◌, drop}
use Rattle.asl_rules.specs.declarations.Programs.{entry_from, takes_word}
use Rattle.asl_decl.proofs.entry.find_word.Given as goal

abbrev pub invariant-loop-number : goal.invariant-loop-number
invariant-loop-number l = entry_from (takes_word l.name l.wide) l.number (drop l.number l.signatures) ≡ entry_from (takes_word l.name l.wide) 0 l.signatures
