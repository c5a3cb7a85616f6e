-- The sort of a lexeme, by its first byte.
use Rattle.std.specs.Prelude.{ℕ, ◌==◌, ◌||◌, List, [], ◌∷◌, Option, Some, None, if◌then◌else◌}
use Rattle.std.specs.Char.{is_ascii_digit}
use Rattle.asl_syn.specs.declared.token.TokenKind.{TokenKind}
use Rattle.asl_syn.specs.declared.token.TokenKind.TheVariants as kinds
use Rattle.asl_grammar.specs.lexemes.Bytes.{is_name_start}

pub data Head : Type 0 where
  name : Head
  number : Head
  quote : Head
  mark : Head

abbrev pub head_of_byte : ℕ → Head
head_of_byte b =
    if is_name_start b then name
    else (if is_ascii_digit b then number
    else (if (b == 39) || (b == 34) then quote else mark))

abbrev pub head_of : List ℕ → Option Head
head_of [] = None
head_of (b ∷ bs) = Some (head_of_byte b)

abbrev pub class_of : TokenKind → Head
class_of kinds.Name = name
class_of (kinds.Int n) = number
class_of kinds.Bits = quote
class_of kinds.Mask = quote
class_of kinds.Text = quote
class_of (kinds.Word w) = name
class_of (kinds.Mark m) = mark
