-- What a call that reads or writes did, and why it stopped.
use Rattle.std.specs.Prelude.{◌≡◌, ◌≤◌, ℕ, List, ◌++◌, Option, Result, Ok, Err, MatchResult}
use Rattle.asl_io.specs.Faults.{Rises}
use Rattle.asl_io.specs.Told.{Takes, TakesPrefix}
use Rattle.asl_rules.specs.report.Report.{Answer}
use Rattle.asl_answer.specs.declared.status.Stop.{Stop}
use Rattle.asl_answer.specs.declared.status.Stop.TheVariants.{Fault, NoMemory}
use Rattle.asl_answer.specs.declared.status.Status.{Status}
use Rattle.asl_answer.specs.Statuses.{code_of}

-- all of the text was taken, or a prefix
abbrev pub Writes : {T : Type 0} → Result T Stop → Option (List ℕ) → Option (List ℕ) → List ℕ → Type 0
Writes r old new text = MatchResult r (λ _. Takes old new text) (λ _. TakesPrefix old new text)

-- all of the text was taken but for the rest
pub record TakesFront (old new : Option (List ℕ)) (text rest : List ℕ) : Type 0 where
  pub front : List ℕ
  pub is : text ≡ front ++ rest
  pub taken : Takes old new front

-- a fault comes only where the count rose, and the count changes only at a fault
abbrev pub HasCause : {T : Type 0} → Result T Stop → ℕ → ℕ → Type 0
HasCause (Ok x) before after = after ≡ before
HasCause (Err Fault) before after = (before ≤ after) × Rises before after
HasCause (Err NoMemory) before after = after ≡ before

-- an answer was written whole, and its status is given; or a prefix of it was written
abbrev pub Answers : Result Status Stop → Option (List ℕ) → Option (List ℕ) → Answer → Type 0
Answers r old new a = MatchResult r (λ s. Takes old new a.text × (code_of s ≡ a.status)) (λ _. TakesPrefix old new a.text)
