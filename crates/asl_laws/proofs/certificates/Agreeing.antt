-- A certificate of programs that are well formed, with a no at a line, agrees with their certificate up to the line before.
use Rattle.std.proofs.Common.{◌≡◌, inl, inr, ℕ, List, [], ◌∷◌, ◌++◌, Err, refl, sym, ap, ◌∙◌}
use Rattle.asl_syn.specs.declared.tree.Decl.{Decl}
use Rattle.asl_rules.specs.report.Texts.{Text}
use Rattle.asl_rules.specs.Tests.{Tests}
use Rattle.asl_laws.specs.certificates.Lines.{Failure}
use Rattle.asl_laws.specs.certificates.Certificates.{certificate_of, Stage, lines_in, Mistake, no, verified, certificate, stages, AllGo}
use Rattle.asl_laws.specs.certificates.Certificates.{AllWell}
use Rattle.asl_laws.specs.certificates.Verdicts.{all_right, failed, wanted, fed, NoAt, Agrees}
use Rattle.asl_laws.proofs.certificates.Verdicts.{verdicts}
use Rattle.asl_laws.proofs.certificates.Wanted.{wanted_law, fed_append}
use Rattle.asl_laws.proofs.certificates.Programs.{all_go}

right_isnt : (f : Failure) → all_right ≡ failed f → ⊥
right_isnt f h = cc

append_nil : (t : Text) → t ++ [] ≡ t
append_nil [] = refl
append_nil (b ∷ t) = ap (λ z. b ∷ z) (append_nil t)

no_agrees : (ss : List Stage) (bytes : Text) (n : ℕ) (m : Mistake) → AllGo ss → NoAt ss bytes n m →
    Agrees (certificate_of (lines_in ss)) bytes n
no_agrees ss bytes n m g (inl o) =
    let w = wanted_law ss g in
    record {
      before = o.before;
      after = fed (o.line ∷ o.after);
      rest = o.rest;
      whole_is = sym w.text_is ∙ (ap fed o.wants ∙ fed_append o.before (o.line ∷ o.after));
      bytes_are = o.bytes_are;
      number = o.number;
    }
no_agrees ss bytes n m g (inr (inl c)) = absurd (right_isnt _ (sym (wanted_law ss g).ends ∙ c.ends))
no_agrees ss bytes n m g (inr (inr (inl l))) = absurd (right_isnt _ (sym (wanted_law ss g).ends ∙ l.ends))
no_agrees ss bytes n m g (inr (inr (inr b))) =
    record {
      before = wanted ss;
      after = [];
      rest = b.first ∷ b.rest;
      whole_is = sym (wanted_law ss g).text_is ∙ sym (append_nil (fed (wanted ss)));
      bytes_are = b.bytes_are;
      number = b.number;
    }

pub certificates_agree : (t : Tests) (programs : List (List Decl)) (bytes : Text) (n : ℕ) (m : Mistake) → AllWell t programs →
    verified t programs bytes ≡ Err (no n m) → Agrees (certificate t programs) bytes n
unfolding verified
certificates_agree t programs bytes n m w h = no_agrees (stages t programs) bytes n m (all_go t programs w)
    (((verdicts (stages t programs) bytes).says_no n m).0 h)
