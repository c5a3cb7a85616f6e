use Rattle.asl_grammar.proofs.lexemes.OneReadingOfFiles.{one_all_tokens, one_first_fault, never_both_of_files, some_reading_of_files}
use Rattle.asl_grammar.proofs.reading.one_reading_of_files.Goals as goal

pub returns : goal.returns
returns c = record {
  tokens = one_all_tokens;
  fault = one_first_fault;
  not_both = never_both_of_files;
  some = some_reading_of_files;
}
