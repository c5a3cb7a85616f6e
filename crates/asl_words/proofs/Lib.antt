-- Of lists: `word_of` cites Words; `first_line` and `read_words` Lines, where `answer_from` says what is left to answer. The other
-- functions need no lemma, and `without_end` an invariant.
-- Of runs: `put_line` cites Writing, and `word_value` WordBits; `entry_of` and `argument` Decoding, where the entry can be called with a
-- word, over Formals, which speaks of the rules alone; `exec_word` and `exec` Stepping, where calls make up a run over words, over
-- WordTexts, which speaks of the text of such a run by the rules alone.
pub mod Lines
pub mod Named
pub mod Words
pub mod Writing
pub mod WordBits
pub mod WordTexts
pub mod Formals
pub mod Decoding
pub mod Stepping
