use Rattle.asl_grammar.specs.lexemes.Tokens.{scan_of}
use Rattle.asl_grammar.proofs.lexemes.OneReading.{one_tokens, one_break, never_both, some_reading}
use Rattle.asl_grammar.proofs.reading.one_reading.Goals as goal

pub returns : goal.returns
returns c = record {
  tokens = λ limit file bytes ts us a b. one_tokens (scan_of limit file bytes) ts us a b;
  fault = λ limit file bytes f g a b. one_break (scan_of limit file bytes) f g a b;
  not_both = λ limit file bytes ts f a b. never_both (scan_of limit file bytes) ts f a b;
  some = λ limit file bytes. some_reading (scan_of limit file bytes);
}
