-- Answers and texts that are written after a text.
use Rattle.std.proofs.Common.{ℕ, List, ◌++◌, Option, Result, Ok, Err}
use Rattle.asl_io.specs.Told.{Takes}
use Rattle.asl_io.proofs.ToldLemmas.{TakesPrefix-after, Takes-join}
use Rattle.asl_rules.specs.report.Report.{answer}
use Rattle.asl_answer.specs.declared.status.Stop.{Stop}
use Rattle.asl_answer.specs.declared.status.Status.{Status}
use Rattle.asl_answer.specs.private.Writes.{Writes, Answers}

-- an answer whose text begins with what was taken before
pub Answers-after : (r : Result Status Stop) (a b c : Option (List ℕ)) (x y : List ℕ) (n : ℕ) → Takes a b x → Answers r b c (answer y n) → Answers r a c (answer (x ++ y) n)
Answers-after (Ok s) a b c x y n h k = (Takes-join a b c x y h k.0, k.1)
Answers-after (Err e) a b c x y n h k = TakesPrefix-after a b c x y h k

-- a text after what was taken before
pub Writes-after : (r : Result (Unit {0}) Stop) (a b c : Option (List ℕ)) (x y : List ℕ) → Takes a b x → Writes r b c y → Writes r a c (x ++ y)
Writes-after (Ok s) a b c x y h k = Takes-join a b c x y h k
Writes-after (Err e) a b c x y h k = TakesPrefix-after a b c x y h k
