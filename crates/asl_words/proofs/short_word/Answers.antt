use Rattle.std.proofs.Common.{◌∙◌}
use Rattle.asl_words.proofs.Words.{four, short_read, word_of-digit, word_of-many}
use Rattle.asl_words.proofs.short_word.Goals as goal

pub returns-in_default-clause-fault : goal.returns-in_default-clause-fault
returns-in_default-clause-fault c = word_of-digit c.args.line.now 2 _ _ _ c.requires (four c.args.line.now c.requires) c.in_default.ensures

pub returns-then-before-ge-MOST_WORDS-clause-fault : goal.returns-then-before-ge-MOST_WORDS-clause-fault
returns-then-before-ge-MOST_WORDS-clause-fault c =
    word_of-many c.args.line.now _ 2 _ _ c.requires (four c.args.line.now c.requires) c.in-Ok.ensures c.if-before-ge-MOST_WORDS.true

pub returns-clause-word : goal.returns-clause-word
returns-clause-word c =
    short_read c.args.line.now _ _ _ _ c.requires c.in-Ok.ensures c.if-before-ge-MOST_WORDS.false (c.from.ensures ∙ c.from_be_bytes.ensures)
