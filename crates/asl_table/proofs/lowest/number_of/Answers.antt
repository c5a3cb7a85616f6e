use Rattle.asl_table.proofs.LowWords.{number_short}
use Rattle.asl_table.proofs.lowest.number_of.Goals as goal

pub returns-then-width-lt-WORD : goal.returns-then-width-lt-WORD
returns-then-width-lt-WORD c = number_short _ _ _ _ c.width-width.ensures.value c.if-width-lt-WORD.true c.part.ensures c.word.ensures
