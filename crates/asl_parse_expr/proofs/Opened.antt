-- A token that opens a level has one of the kinds that were asked for.
use Rattle.std.proofs.Common.{◌≡◌, ℕ, zero, suc, Bool, true, false, List, [], ◌∷◌, Ok, refl, ap, sym, ◌∙◌}
use Rattle.asl_grammar.specs.grammar.Kinds.{kind_of}
use Rattle.asl_grammar.specs.grammar.Cursor.{Lexeme, Cursor, Kinds, among}
use Rattle.asl_grammar.specs.grammar.Reader.{Outcome, covers, pick, refused, open_at, run_opens}
use Rattle.asl_grammar.proofs.grammar.Facts.{within_covers}
use Rattle.asl_grammar.proofs.grammar.Reading.{ok_same}

same_token : (t : Lexeme) (ts : List Lexeme) (left : ℕ) (u : Lexeme) (m : Cursor) → open_at t ts left ≡ Ok (u, m) → t ≡ u
same_token t ts zero u m h = cc
same_token t ts (suc l) u m h = ap (λ (r : Lexeme × Cursor). r.0) (ok_same h)

among_picked : (b : Bool) (o : Outcome Lexeme) (ts : List Lexeme) (u : Lexeme) (m : Cursor) → pick b o (refused ts) ≡ Ok (u, m) → (b ≡ true) × (o ≡ Ok (u, m))
among_picked true o ts u m h = (refl, h)
among_picked false o ts u m h = cc

asked : (cs : Kinds) (left : ℕ) (ts : List Lexeme) (u : Lexeme) (m : Cursor) → run_opens cs left ts ≡ Ok (u, m) → among cs (kind_of u.kind) ≡ true
asked cs left [] u m h = cc
asked cs left (t ∷ ts) u m h =
    let k = among_picked (among cs (kind_of t.kind)) (open_at t ts left) (t ∷ ts) u m h in
    ap (λ (x : Lexeme). among cs (kind_of x.kind)) (sym (same_token t ts left u m k.1)) ∙ k.0

pub is_operator : (ds cs : Kinds) (left : ℕ) (ts : List Lexeme) (u : Lexeme) (m : Cursor) → covers ds cs ≡ true → run_opens cs left ts ≡ Ok (u, m) → among ds (kind_of u.kind) ≡ true
is_operator ds cs left ts u m c h = within_covers ds cs c (kind_of u.kind) (asked cs left ts u m h)
