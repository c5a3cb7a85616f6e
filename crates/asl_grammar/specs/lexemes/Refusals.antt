-- Lexemes that are refused where they stand: a name that begins with two underscores (L05); an integer above 2^127 - 1, and
-- bits or a mask of more digits than the width limit (L04); and any lexeme that 200,000 others of its file stand before
-- (M03), unless it has another fault.
use Rattle.std.specs.Prelude.{ℕ, ◌^◌, ◌==◌, Bool, false, ◌&&◌, List, [], ◌∷◌, Option, Some, None, if◌then◌else◌, nat_le}
use Rattle.asl_syn.specs.declared.code.StaticCode.{StaticCode}
use Rattle.asl_syn.specs.declared.code.StaticCode.TheVariants.{L04, L05, M03}
use Rattle.asl_syn.specs.declared.token.TokenKind.{TokenKind}
use Rattle.asl_syn.specs.declared.token.TokenKind.TheVariants as kinds
use Rattle.asl_quote.specs.Bytes.{digit_count}

-- the most lexemes of a file
abbrev pub max_lexemes : ℕ
max_lexemes = 200000

-- the width limit of the program; definitions take the limit as a number
abbrev pub max_width : ℕ
max_width = 2048

-- whether the text begins with two underscores
abbrev pub is_reserved : List ℕ → Bool
is_reserved [] = false
is_reserved (a ∷ []) = false
is_reserved (a ∷ b ∷ rest) = (a == 95) && (b == 95)

abbrev pub too_many : ℕ → Option StaticCode
too_many given = if nat_le max_lexemes given then Some M03 else None

-- why a lexeme of this kind and text is refused, where so many stand before it
abbrev pub refusal : ℕ → TokenKind → List ℕ → ℕ → Option StaticCode
refusal width_limit kinds.Name text given = if is_reserved text then Some L05 else too_many given
refusal width_limit (kinds.Int n) text given = if nat_le (2 ^ 127) n then Some L04 else too_many given
refusal width_limit kinds.Bits text given = if nat_le (digit_count text) width_limit then too_many given else Some L04
refusal width_limit kinds.Mask text given = if nat_le (digit_count text) width_limit then too_many given else Some L04
refusal width_limit kinds.Text text given = too_many given
refusal width_limit (kinds.Word w) text given = too_many given
refusal width_limit (kinds.Mark m) text given = too_many given
