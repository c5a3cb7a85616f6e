-- Lines compared as they come: a part behind a part is compared behind it. It speaks of all types, so no clause says it.
use Rattle.std.proofs.Common.{◌≡◌, List, Result, Ok, Err, refl, sym, ap, ◌∙◌}
use Rattle.asl_laws.specs.certificates.Texts.{Line, place_text, line_text}
use Rattle.asl_laws.specs.certificates.Lines.{Lined, Failure, at_next, at_last, after}
use Rattle.asl_laws.specs.certificates.Certificates.{Cursor, next, step, all_next, behind_lines}
use Rattle.asl_laws.specs.certificates.Compared.{compared_by, compared, ComparedLaw}
use Rattle.asl_laws.proofs.certificates.Verdicts.{step_by, step_same, next_append}

behind_by : {A B : Type 0} (ls : List Line) (o : Result A Failure) (f : A → Lined B) (c : Cursor) →
    step (all_next (after ls o f).lines c) (compared_by (after ls o f).outcome)
    ≡ step (step (all_next ls c) (compared_by o)) (λ p. compared (f p.0) p.1)
behind_by ls (Ok x) f c =
    ap (λ r. step r (compared_by (f x).outcome)) (next_append ls (f x).lines c) ∙
    (step_by (all_next ls c) (all_next (f x).lines) (compared_by (f x).outcome)
    ∙ sym (step_by (all_next ls c) (compared_by (Ok x)) (λ p. compared (f p.0) p.1)))
behind_by ls (Err (at_next q)) f c = step_same (all_next ls c) _ _ (λ d e. refl)
    ∙ sym (step_by (all_next ls c) (compared_by (Err (at_next q))) (λ p. compared (f p.0) p.1))
behind_by ls (Err at_last) f c = step_same (all_next ls c) _ _ (λ d e. refl)
    ∙ sym (step_by (all_next ls c) (compared_by (Err at_last)) (λ p. compared (f p.0) p.1))

against_by : (ls : List Line) (o : Result (Unit {0}) Failure) (c : Cursor) →
    step (all_next ls c) (behind_lines o) ≡ step (step (all_next ls c) (compared_by o)) (λ p. Ok p.1)
against_by ls (Ok x) c = sym (step_by (all_next ls c) (compared_by (Ok x)) (λ p. Ok p.1))
against_by ls (Err (at_next q)) c =
    sym (step_by (all_next ls c) (compared_by (let r : Result (Unit {0}) Failure = Err (at_next q) in r)) (λ p. Ok p.1))
against_by ls (Err at_last) c = sym (step_by (all_next ls c) (compared_by (let r : Result (Unit {0}) Failure = Err at_last in r))
    (λ p. Ok p.1))

pub compared_law : (c : Cursor) → ComparedLaw c
compared_law c = record {
  behind = λ l f. behind_by l.lines l.outcome f c;
  of_gives = λ x. refl;
  of_line = λ l x. step_by (next (place_text l.place) (line_text l) c) (λ d. Ok d) (compared_by (Ok x));
  of_failure = λ p. refl;
  in_verdicts = λ l. against_by l.lines l.outcome c;
}
