-- Gaps get shorter, and one place has one gap.
use Rattle.std.proofs.Common.{◌≡◌, ℕ, zero, suc, ◌≤◌, ◌<◌, ◌==◌, ◌&&◌, Bool, true, false, not, List, [], ◌∷◌, Option, Some, None, length, refl, ap, subst, arith, cond}
use Rattle.std.proofs.lemmas.List.{length-drop}
use Rattle.std.specs.List.{prefix_len}
use Rattle.asl_grammar.specs.lexemes.Bytes.{is_blank}
use Rattle.asl_grammar.specs.lexemes.Gaps.{after_block, after_line, after_piece, Pieces, Gap}

pub after_block_short : (bytes : List ℕ) → length bytes < 2 → after_block bytes ≡ None
after_block_short [] h = refl
after_block_short (a ∷ []) h = refl
after_block_short (a ∷ b ∷ rest) h = absurd (omega arith)

after_block_step : (a b : ℕ) (rest left : List ℕ) (c : Bool) →
    (after_block (b ∷ rest) ≡ Some left → length left < length (b ∷ rest)) →
    cond c (Some rest) (after_block (b ∷ rest)) ≡ Some left → length left < length (a ∷ b ∷ rest)
after_block_step a b rest left true below h = let e : rest ≡ left = cc in subst (λ z. length z < length (a ∷ b ∷ rest)) e (omega arith)
after_block_step a b rest left false below h = let l = below h in omega arith

pub after_block_shorter : (bytes left : List ℕ) → after_block bytes ≡ Some left → length left < length bytes
after_block_shorter [] left h = absurd cc
after_block_shorter (a ∷ []) left h = absurd cc
after_block_shorter (a ∷ b ∷ rest) left h =
    after_block_step a b rest left ((a == 42) && (b == 47)) (after_block_shorter (b ∷ rest) left) h

after_line_le : (bytes : List ℕ) → length (after_line bytes) ≤ length bytes
after_line_le bytes = omega (arith, length-drop (prefix_len (λ b. not (b == 10)) bytes) bytes)

piece_cases : (a b : ℕ) (rest left : List ℕ) (x y z : Bool) →
    cond x (Some (b ∷ rest)) (cond y (Some (after_line rest)) (cond z (after_block rest) None)) ≡ Some left → length left < length (a ∷ b ∷ rest)
piece_cases a b rest left true y z h = let e : (b ∷ rest) ≡ left = cc in subst (λ t. length t < length (a ∷ b ∷ rest)) e (omega arith)
piece_cases a b rest left false true z h =
    let e : after_line rest ≡ left = cc in
    let le : length (after_line rest) ≤ length rest = after_line_le rest in
    subst (λ t. length t < length (a ∷ b ∷ rest)) e (omega arith)
piece_cases a b rest left false false true h = let l = after_block_shorter rest left h in omega arith
piece_cases a b rest left false false false h = absurd cc

piece_one : (a : ℕ) (left : List ℕ) (x : Bool) → cond x (Some []) None ≡ Some left → length left < 1
piece_one a left true h = let e : [] ≡ left = cc in subst (λ (t : List ℕ). length t < 1) e (omega arith)
piece_one a left false h = absurd cc

pub piece_shorter : (bytes left : List ℕ) → after_piece bytes ≡ Some left → length left < length bytes
piece_shorter [] left h = absurd cc
piece_shorter (a ∷ []) left h = piece_one a left (is_blank a) h
piece_shorter (a ∷ b ∷ rest) left h = piece_cases a b rest left (is_blank a) ((a == 47) && (b == 47)) ((a == 47) && (b == 42)) h

pub Pieces_le : (n : ℕ) (bytes rest : List ℕ) → Pieces n bytes rest → length rest ≤ length bytes
Pieces_le zero bytes rest h = omega (arith, ap length h)
Pieces_le (suc n) bytes rest (next, one, more) =
    let a = piece_shorter bytes next one in let b = Pieces_le n next rest more in omega arith

pub Gap_le : (bytes rest : List ℕ) → Gap bytes rest → length rest ≤ length bytes
Gap_le bytes rest g = Pieces_le g.count bytes rest g.pieces

-- a gap that begins with one more piece
pub Gap_more : (bytes next rest : List ℕ) → after_piece bytes ≡ Some next → Gap next rest → Gap bytes rest
Gap_more bytes next rest h g = record { count = suc g.count; pieces = (next, h, g.pieces); ends = g.ends }

pub Gap_none : (bytes : List ℕ) → after_piece bytes ≡ None → Gap bytes bytes
Gap_none bytes h = record { count = 0; pieces = refl; ends = h }

one_pieces : (m n : ℕ) (bytes a b : List ℕ) → Pieces m bytes a → Pieces n bytes b → after_piece a ≡ None → after_piece b ≡ None → a ≡ b
one_pieces zero zero bytes a b s t ea eb = cc
one_pieces zero (suc n) bytes a b s (next, one, more) ea eb = let e : after_piece bytes ≡ after_piece a = ap after_piece s in absurd cc
one_pieces (suc m) zero bytes a b (next, one, more) t ea eb = let e : after_piece bytes ≡ after_piece b = ap after_piece t in absurd cc
one_pieces (suc m) (suc n) bytes a b (u, one, more) (v, two, others) ea eb =
    let same : v ≡ u = cc in
    one_pieces m n u a b more (subst (λ z. Pieces n z b) same others) ea eb

pub one_gap : (bytes a b : List ℕ) → Gap bytes a → Gap bytes b → a ≡ b
one_gap bytes a b g h = one_pieces g.count h.count bytes a b g.pieces h.pieces g.ends h.ends

gap_within : (fuel : ℕ) (bytes : List ℕ) (o : Option (List ℕ)) → after_piece bytes ≡ o → length bytes ≤ fuel → (rest : List ℕ) × Gap bytes rest
gap_within fuel bytes None e h = (bytes, Gap_none bytes e)
gap_within zero bytes (Some next) e h = absurd (let s = piece_shorter bytes next e in omega arith)
gap_within (suc fuel) bytes (Some next) e h =
    let s = piece_shorter bytes next e in
    let g = gap_within fuel next (after_piece next) refl (omega arith) in
    (g.0, Gap_more bytes next g.0 e g.1)

-- each place has a gap
pub some_gap : (bytes : List ℕ) → (rest : List ℕ) × Gap bytes rest
some_gap bytes = gap_within (length bytes) bytes (after_piece bytes) refl (omega arith)
