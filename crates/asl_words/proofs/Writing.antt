-- A text that is written behind another, and the line of a word of 32 bits.
use Rattle.std.proofs.Common.{◌≡◌, ℕ, Bool, false, cond, List, ◌++◌, Option, Result, Ok, Err, sym, ap, ◌∙◌}
use Rattle.std.specs.Prelude.{MatchResult, codes}
use Rattle.asl_rules.specs.report.Texts.{line_feed}
use Rattle.asl_rules.specs.report.WordList.{Word}
use Rattle.asl_rules.specs.runs.Words.{digits_text, is_short, word_digits}
use Rattle.asl_io.specs.Told.{Takes, TakesPrefix}
use Rattle.asl_io.proofs.ToldLemmas.{TakesPrefix-after, Takes-join}

pub written_behind : {T E : Type 0} (r : Result T E) (a b c : Option (List ℕ)) (x y : List ℕ) → Takes a b x
    → MatchResult r (λ _. Takes b c y) (λ _. TakesPrefix b c y) → MatchResult r (λ _. Takes a c (x ++ y)) (λ _. TakesPrefix a c (x ++ y))
written_behind (Ok s) a b c x y h k = Takes-join a b c x y h k
written_behind (Err e) a b c x y h k = TakesPrefix-after a b c x y h k

-- the line of a word of 32 bits
pub long_line : (w : Word) (n : ℕ) → is_short w ≡ false → w.bits ≡ n → codes "word " ++ (digits_text 8 n ++ line_feed) ≡ codes "word " ++ (word_digits w ++ line_feed)
long_line w n long same =
    ap (λ m. codes "word " ++ (digits_text 8 m ++ line_feed)) (sym same)
    ∙ ap (λ (b : Bool). codes "word " ++ (cond b (digits_text 4 w.bits) (digits_text 8 w.bits) ++ line_feed)) (sym long)
