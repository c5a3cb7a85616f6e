-- What an `if` expression gives back at its end was taken at its beginning.
use Rattle.std.proofs.Common.{◌≡◌, ℕ, zero, suc, ◌+◌, ◌≤◌, Bool, true, false, List, [], ◌∷◌, Ok, ap, arith}
use Rattle.asl_syn.specs.declared.tree.Expr.{Expr}
use Rattle.asl_grammar.specs.grammar.Kinds.{kind_of}
use Rattle.asl_grammar.specs.grammar.Cursor.{Lexeme, Cursor, Kinds, among}
use Rattle.asl_grammar.specs.grammar.Reader.{Outcome, pick, refused, open_at, run_opens}
use Rattle.asl_grammar.specs.grammar.Rules.{Sym, Val, IfParts, rule, after}
use Rattle.asl_grammar.proofs.grammar.Reading.{ok_same}
use Rattle.asl_grammar.proofs.grammar.Symbols.{sound_n, lowers_n}
use Rattle.asl_grammar.proofs.grammar.Checked.{each, covered}
use Rattle.asl_parse_expr.specs.private.Code.{symbol}

opened_at : (t : Lexeme) (ts : List Lexeme) (left : ℕ) (u : Lexeme) (m : Cursor) → open_at t ts left ≡ Ok (u, m) → left ≡ suc m.left
opened_at t ts zero u m h = cc
opened_at t ts (suc l) u m h = ap (λ (r : Lexeme × Cursor). suc r.1.left) (ok_same h)

picked : (b : Bool) (o : Outcome Lexeme) (ts : List Lexeme) (u : Lexeme) (m : Cursor) → pick b o (refused ts) ≡ Ok (u, m) → o ≡ Ok (u, m)
picked true o ts u m h = h
picked false o ts u m h = cc

opened : (cs : Kinds) (left : ℕ) (ts : List Lexeme) (u : Lexeme) (m : Cursor) → run_opens cs left ts ≡ Ok (u, m) → left ≡ suc m.left
opened cs left [] u m h = cc
opened cs left (t ∷ ts) u m h = opened_at t ts left u m (picked (among cs (kind_of t.kind)) (open_at t ts left) (t ∷ ts) u m h)

pub if_room : (cs : Kinds) (left : ℕ) (ts : List Lexeme) (u : Lexeme) (m : Cursor) (d : ℕ) (x : Expr × Expr × Expr) (end : Cursor) → run_opens cs left ts ≡ Ok (u, m) → symbol d IfParts m ≡ Ok (x, end) → end.left + 1 ≤ left
if_room cs left ts u m d x end h k =
    let e : left ≡ suc m.left = opened cs left ts u m h in
    let l : end.left ≤ m.left = lowers_n Sym Val rule after each covered d IfParts m x end (sound_n Sym Val rule after each covered d IfParts m x end k) in
    omega (arith, e, l)
