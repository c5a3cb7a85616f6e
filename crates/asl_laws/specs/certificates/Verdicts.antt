-- The verdict on bytes as a statement: which lines have to come, and at which of them, and why, the bytes fail.
use Rattle.std.specs.Prelude.{◌≡◌, ◌⊎◌, ℕ, suc, List, [], ◌∷◌, ◌++◌, length, map, Result, Ok, Err, codes, ◌==◌, if◌then◌else◌}
use Rattle.asl_syn.specs.declared.code.Fault.{Fault}
use Rattle.asl_rules.specs.report.Texts.{Text}
use Rattle.asl_laws.specs.certificates.Texts.{Place, Line, place_text, line_text, first_line, last_line}
use Rattle.asl_laws.specs.certificates.Lines.{Failure, at_next, at_last}
use Rattle.asl_laws.specs.certificates.Certificates.{with_feed, certificate_of, lines_in, Stage, asks, says, ended, given_line, Mistake}
use Rattle.asl_laws.specs.certificates.Certificates.{V03, refused, no, mistake_at, verified_by}

-- ---- which lines have to come

-- a line that has to come: what it is about, and its text
pub record Want : Type 0 where
  pub place : Text
  pub text : Text

abbrev pub want : Line → Want
want l = record { place = place_text l.place; text = line_text l }

abbrev pub until : {A : Type 0} → Result A Failure → List Line → List Line
until (Ok x) ls = ls
until (Err f) ls = []

-- the lines before the first stage that doesn't go well, and its own
abbrev pub lines_until : List Stage → List Line
lines_until [] = []
lines_until (asks (Ok x) ∷ ss) = lines_until ss
lines_until (asks (Err f) ∷ ss) = []
lines_until (says l ∷ ss) = l.lines ++ until l.outcome (lines_until ss)

-- what comes behind them: the last line, a fault of rules, or a failure at a line
pub data Ending : Type 0 where
  all_right : Ending
  refused_by : Fault → Ending
  failed : Failure → Ending

abbrev pub ending_by : {A : Type 0} → Result A Failure → Ending → Ending
ending_by (Ok x) e = e
ending_by (Err f) e = failed f

abbrev pub ending : List Stage → Ending
ending [] = all_right
ending (asks (Ok x) ∷ ss) = ending ss
ending (asks (Err f) ∷ ss) = refused_by f
ending (says l ∷ ss) = ending_by l.outcome (ending ss)

abbrev pub first_want : Want
first_want = record { place = first_line; text = first_line }

abbrev pub last_want : ℕ → Want
last_want n = record { place = codes "end"; text = last_line n }

abbrev pub closing : Ending → ℕ → List Want
closing all_right n = last_want n ∷ []
closing (refused_by f) n = []
closing (failed f) n = []

-- all lines that have to come
abbrev pub wanted : List Stage → List Want
wanted ss = first_want ∷ (map want (lines_until ss) ++ closing (ending ss) (length (lines_until ss)))

-- lines with their line feeds
abbrev pub fed : List Want → Text
fed [] = []
fed (w ∷ ws) = with_feed w.text ++ fed ws

-- ---- the verdicts

-- yes: the bytes are the lines that have to come
pub record Right (ss : List Stage) (bytes : Text) (k : ℕ) : Type 0 where
  pub ends : ending ss ≡ all_right
  pub bytes_are : bytes ≡ fed (wanted ss)
  pub count : k ≡ length (lines_until ss)

-- a fault of rules: they begin with those that have to come before it
pub record RefusedBy (ss : List Stage) (bytes : Text) (f : Fault) : Type 0 where
  pub rest : Text
  pub ends : ending ss ≡ refused_by f
  pub bytes_are : bytes ≡ fed (wanted ss) ++ rest

-- no, at a line that isn't there as it has to be: all lines before it are
pub record OtherLine (ss : List Stage) (bytes : Text) (n : ℕ) (m : Mistake) : Type 0 where
  pub before : List Want
  pub line : Want
  pub after : List Want
  pub rest : Text
  pub wants : wanted ss ≡ before ++ (line ∷ after)
  pub bytes_are : bytes ≡ fed before ++ rest
  pub other : (more : Text) → rest ≡ with_feed line.text ++ more → ⊥
  pub number : n ≡ suc (length before)
  pub mistake : m ≡ mistake_at line.place (given_line rest)

-- no, where a condition of the rules fails at the line that comes next: all lines before it are right
pub record Condition (ss : List Stage) (bytes : Text) (n : ℕ) (m : Mistake) : Type 0 where
  pub place : Place
  pub rest : Text
  pub ends : ending ss ≡ failed (at_next place)
  pub bytes_are : bytes ≡ fed (wanted ss) ++ rest
  pub number : n ≡ suc (length (wanted ss))
  pub mistake : m ≡ mistake_at (place_text place) (given_line rest)

-- no, where the end of a function can be reached: at its last line, which is right like all before it
pub record LastLine (ss : List Stage) (bytes : Text) (n : ℕ) (m : Mistake) : Type 0 where
  pub rest : Text
  pub ends : ending ss ≡ failed at_last
  pub bytes_are : bytes ≡ fed (wanted ss) ++ rest
  pub number : n ≡ length (wanted ss)
  pub mistake : m ≡ V03

-- no, where something stands behind the last line
pub record Behind (ss : List Stage) (bytes : Text) (n : ℕ) (m : Mistake) : Type 0 where
  pub first : ℕ
  pub rest : Text
  pub ends : ending ss ≡ all_right
  pub bytes_are : bytes ≡ fed (wanted ss) ++ (first ∷ rest)
  pub number : n ≡ suc (length (wanted ss))
  pub mistake : m ≡ mistake_at [] (given_line (first ∷ rest))

abbrev pub NoAt : List Stage → Text → ℕ → Mistake → Type 0
NoAt ss bytes n m = OtherLine ss bytes n m ⊎ (Condition ss bytes n m ⊎ (LastLine ss bytes n m ⊎ Behind ss bytes n m))

-- each verdict comes exactly where its statement holds
pub record VerdictsLaw (ss : List Stage) (bytes : Text) : Type 0 where
  pub yes : (k : ℕ) → (verified_by ss bytes ≡ Ok k → Right ss bytes k) × (Right ss bytes k → verified_by ss bytes ≡ Ok k)
  pub refuses : (f : Fault) → (verified_by ss bytes ≡ Err (refused f) → RefusedBy ss bytes f) ×
      (RefusedBy ss bytes f → verified_by ss bytes ≡ Err (refused f))
  pub says_no : (n : ℕ) (m : Mistake) → (verified_by ss bytes ≡ Err (no n m) → NoAt ss bytes n m) ×
      (NoAt ss bytes n m → verified_by ss bytes ≡ Err (no n m))

-- where all stages go well, the lines that have to come are those of the certificate
pub record WantedLaw (ss : List Stage) : Type 0 where
  pub ends : ending ss ≡ all_right
  pub lines_are : lines_until ss ≡ lines_in ss
  pub text_is : fed (wanted ss) ≡ certificate_of (lines_in ss)

-- ---- lines of bytes

-- no line feed stands in the text
abbrev pub FeedFree : Text → Type 0
FeedFree [] = Unit {0}
FeedFree (b ∷ bs) = ((b ≡ 10) → ⊥) × FeedFree bs

-- how many line feeds stand in a text
abbrev pub feeds : Text → ℕ
feeds [] = 0
feeds (b ∷ bs) = if b == 10 then suc (feeds bs) else feeds bs

abbrev pub AllFeedFree : List Want → Type 0
AllFeedFree [] = Unit {0}
AllFeedFree (w ∷ ws) = FeedFree w.text × AllFeedFree ws

-- a text without line feeds is what the first line of bytes says exactly where they begin with it and its line feed
pub record FirstLine (text bytes : Text) : Type 0 where
  pub begins : (rest : Text) → FeedFree text → bytes ≡ with_feed text ++ rest → given_line bytes ≡ ended text
  pub is : given_line bytes ≡ ended text → FeedFree text × ((rest : Text) × (bytes ≡ with_feed text ++ rest))

-- a certificate with a no at a line agrees with the certificate up to the line before
pub record Agrees (whole bytes : Text) (n : ℕ) : Type 0 where
  pub before : List Want
  pub after : Text
  pub rest : Text
  pub whole_is : whole ≡ fed before ++ after
  pub bytes_are : bytes ≡ fed before ++ rest
  pub number : n ≡ suc (length before)
