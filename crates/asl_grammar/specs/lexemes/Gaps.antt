-- What stands between lexemes. A gap is a run of pieces: a tab, a line feed, a carriage return, a space, `//` up to the next
-- line feed or the end, and `/*` up to the next `*/` behind it. Such comments don't nest, and may hold any bytes. A gap is
-- taken whole: it ends where no piece begins.
use Rattle.std.specs.Prelude.{◌≡◌, ℕ, ◌==◌, Bool, false, ◌&&◌, not, List, [], ◌∷◌, Option, Some, None, if◌then◌else◌, drop}
use Rattle.std.specs.List.{prefix_len}
use Rattle.std.proofs.Common.{zero, suc}
use Rattle.asl_grammar.specs.lexemes.Bytes.{is_blank}

-- what is left behind the next `*/`
abbrev pub after_block : List ℕ → Option (List ℕ)
after_block [] = None
after_block (a ∷ []) = None
after_block (a ∷ b ∷ rest) = if (a == 42) && (b == 47) then Some rest else after_block (b ∷ rest)

-- what is left at the next line feed, or at the end
abbrev pub after_line : List ℕ → List ℕ
after_line bytes = drop (prefix_len (λ b. not (b == 10)) bytes) bytes

-- whether `/*` stands here
abbrev pub opens_block : List ℕ → Bool
opens_block [] = false
opens_block (a ∷ []) = false
opens_block (a ∷ b ∷ rest) = (a == 47) && (b == 42)

-- what is left behind the piece that begins here
abbrev pub after_piece : List ℕ → Option (List ℕ)
after_piece [] = None
after_piece (a ∷ []) = if is_blank a then Some [] else None
after_piece (a ∷ b ∷ rest) =
    if is_blank a then Some (b ∷ rest)
    else (if (a == 47) && (b == 47) then Some (after_line rest)
    else (if (a == 47) && (b == 42) then after_block rest
    else None))

-- this many pieces, one behind the other, lead from the first bytes to the second
abbrev pub Pieces : ℕ → List ℕ → List ℕ → Type 0
Pieces zero bytes rest = bytes ≡ rest
Pieces (suc n) bytes rest = (next : List ℕ) × (after_piece bytes ≡ Some next) × Pieces n next rest

-- the gap at the front of the bytes leaves the rest; it may be empty
pub record Gap (bytes rest : List ℕ) : Type 0 where
  pub count : ℕ
  pub pieces : Pieces count bytes rest
  pub ends : after_piece rest ≡ None
