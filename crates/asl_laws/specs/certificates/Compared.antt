-- Lines compared as they come: what is answered by a function that compares the lines of a part with the bytes at hand, and goes on with
-- what the part gives.
use Rattle.std.specs.Prelude.{◌≡◌, Result, Ok, Err}
use Rattle.asl_laws.specs.certificates.Texts.{Place, Line, place_text, line_text}
use Rattle.asl_laws.specs.certificates.Lines.{Lined, Failure, at_next, at_last, gives, one_line, fails, ◌into◌}
use Rattle.asl_laws.specs.certificates.Certificates.{Cursor, V03, Stop, no, failing, next, step, all_next, against}

-- what comes of lines, with the bytes behind them
abbrev pub compared_by : {A : Type 0} → Result A Failure → Cursor → Result (A × Cursor) Stop
compared_by (Ok x) c = Ok (x, c)
compared_by (Err (at_next p)) c = failing (place_text p) c
compared_by (Err at_last) c = Err (no c.taken V03)

abbrev pub compared : {A : Type 0} → Lined A → Cursor → Result (A × Cursor) Stop
compared l c = step (all_next l.lines c) (compared_by l.outcome)

-- a part behind a part is compared behind it; a line by itself; and the verdict asks no more
pub record ComparedLaw (c : Cursor) : Type 1 where
  pub behind : {A B : Type 0} (l : Lined A) (f : A → Lined B) → compared (l into f) c ≡ step (compared l c) (λ p. compared (f p.0) p.1)
  pub of_gives : {A : Type 0} (x : A) → compared (gives x) c ≡ Ok (x, c)
  pub of_line : {A : Type 0} (l : Line) (x : A) →
      compared (one_line l x) c ≡ step (next (place_text l.place) (line_text l) c) (λ d. Ok (x, d))
  pub of_failure : {A : Type 0} (p : Place) → compared (let l : Lined A = fails (at_next p) in l) c ≡ failing (place_text p) c
  pub in_verdicts : (l : Lined (Unit {0})) → against l c ≡ step (compared l c) (λ p. Ok p.1)
