-- The tables: each entry is found by its own spelling, so no two have one spelling.
use Rattle.std.proofs.Common.{◌≡◌, Some, true, length, nat_le, refl}
use Rattle.asl_syn.specs.declared.token.Word.{Word}
use Rattle.asl_syn.specs.declared.token.Word.TheVariants.{BitAnd}
use Rattle.asl_syn.specs.declared.token.Mark.{Mark}
use Rattle.asl_syn.specs.declared.token.Mark.TheVariants.{OpenParen}
use Rattle.asl_grammar.specs.lexemes.Words.{word_spelling, word_of}
use Rattle.asl_grammar.specs.lexemes.Marks.{mark_spelling, mark_of}
use Rattle.asl_grammar.proofs.lexemes.Heads.{head_of, mark}
use Rattle.asl_grammar.specs.lexemes.Lexemes.{is_name}

pub word_of_spelling : (w : Word) → word_of (word_spelling w) ≡ Some w
unfolding word_of
word_of_spelling BitAnd = refl
word_of_spelling _ = refl

pub mark_of_spelling : (m : Mark) → mark_of (mark_spelling m) ≡ Some m
unfolding mark_of
mark_of_spelling OpenParen = refl
mark_of_spelling _ = refl

pub word_is_name : (w : Word) → is_name (word_spelling w) ≡ true
word_is_name BitAnd = refl
word_is_name _ = refl

pub mark_head : (m : Mark) → head_of (mark_spelling m) ≡ Some mark
mark_head OpenParen = refl
mark_head _ = refl

pub mark_short : (m : Mark) → nat_le (length (mark_spelling m)) 3 ≡ true
mark_short OpenParen = refl
mark_short _ = refl
