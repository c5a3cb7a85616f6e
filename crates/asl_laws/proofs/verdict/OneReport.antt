-- The report is the same, whichever right tests of one width limit are taken, and by whatever files are read.
use Rattle.std.proofs.Common.{◌≡◌, ℕ, ap₂}
use Rattle.asl_syn.specs.Command.{Command}
use Rattle.asl_grammar.specs.Reading.{Reader, IsReadingAt}
use Rattle.asl_grammar.proofs.OneProgram.{one_answer_at}
use Rattle.asl_rules.specs.Tests.{Tests, IsRight}
use Rattle.asl_rules.specs.report.Texts.{Text}
use Rattle.asl_rules.specs.report.Report.{report_of}
use Rattle.asl_laws.proofs.verdict.OneVerdict.{one_test}

one_reader : (limit : ℕ) (read seen : Reader) → IsReadingAt limit read → IsReadingAt limit seen → read ≡ seen
one_reader limit read seen a b = λ i files. one_answer_at limit files (read files) (seen files) (a files) (b files) i

pub one_report : (t u : Tests) → IsRight t → IsRight u → t.limit ≡ u.limit → (limit : ℕ) (read seen : Reader) → IsReadingAt limit read → IsReadingAt limit seen
    → (command : Command) (held : Text → Text) → report_of t read command held ≡ report_of u seen command held
one_report t u p q l limit read seen a b command held = ap₂ (λ v r. report_of v r command held) (one_test t u p q l) (one_reader limit read seen a b)
