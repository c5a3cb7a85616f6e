-- The certificate of programs, and what is found of bytes that are given as one: the first line that fails, and why.
use Rattle.std.specs.Prelude.{◌≡◌, ℕ, zero, suc, ◌==◌, if◌then◌else◌, List, [], ◌∷◌, ◌++◌, length, Option, Some, None, Result, Ok, Err}
use Rattle.std.specs.Prelude.{codes}
use Rattle.std.specs.Str.{bytes_eq}
use Rattle.asl_syn.specs.declared.code.Fault.{Fault}
use Rattle.asl_syn.specs.declared.tree.Decl.{Decl}
use Rattle.asl_rules.specs.declared.entry.Entry.TheVariants as entry
use Rattle.asl_rules.specs.report.Texts.{Text, line_feed}
use Rattle.asl_rules.specs.Tests.{Tests}
use Rattle.asl_rules.specs.declarations.Names.{names_rule, all_declared}
use Rattle.asl_rules.specs.declarations.Uses.{cycles_rule}
use Rattle.asl_rules.specs.declarations.Turns.{globals_rule}
use Rattle.asl_rules.specs.declarations.Programs.{Accepted, Head, funcs_of, signatures, signatures_rule, overloads_rule, verdict, ProgramOk}
use Rattle.asl_rules.specs.Faults.{◌>>=◌, ◌>>◌}
use Rattle.asl_laws.specs.certificates.Texts.{Line, place_text, line_text, first_line, last_line}
use Rattle.asl_laws.specs.certificates.Lines.{Lined, Failure, at_next, at_last, bodies_lines}
use Rattle.asl_laws.specs.certificates.Format.{is_line, about}

-- ---- the certificate

abbrev pub with_feed : Text → Text
with_feed t = t ++ line_feed

abbrev pub all_lines : List Line → Text
all_lines [] = []
all_lines (l ∷ ls) = with_feed (line_text l) ++ all_lines ls

-- the subprograms of declarations with their signatures, where nothing but bodies can have a fault
abbrev pub heads_of : Tests → List Decl → Result (List Head) Fault
heads_of t ds =
    names_rule [] (all_declared ds) >> cycles_rule ds ds >> globals_rule t ds >>= λ names.
    signatures_rule t names (funcs_of ds) >>= λ hs. overloads_rule [] hs >> Ok hs

-- ---- what is asked of programs, in order

-- whether rules that have no lines have a fault, or the lines of bodies
pub data Stage : Type 0 where
  asks : Result (Unit {0}) Fault → Stage
  says : Lined (Unit {0}) → Stage

abbrev pub stages_of_heads : Tests → Result (List Head) Fault → List Stage
stages_of_heads t (Err f) = asks (Err f) ∷ []
stages_of_heads t (Ok hs) = says (bodies_lines t (signatures hs) hs) ∷ []

abbrev pub stages_of : Tests → List Decl → List Stage
stages_of t ds = stages_of_heads t (heads_of t ds)

-- what is asked of programs, one after another
abbrev pub stages : Tests → List (List Decl) → List Stage
stages t [] = []
stages t (ds ∷ more) = stages_of t ds ++ stages t more

abbrev pub lines_in : List Stage → List Line
lines_in [] = []
lines_in (asks r ∷ ss) = lines_in ss
lines_in (says l ∷ ss) = l.lines ++ lines_in ss

-- all lines between the first and the last
abbrev pub lines_of : Tests → List (List Decl) → List Line
lines_of t programs = lines_in (stages t programs)

abbrev pub certificate_of : List Line → Text
certificate_of ls = with_feed first_line ++ (all_lines ls ++ with_feed (last_line (length ls)))

-- the certificate of programs: their lines, one program after another, between the first line and the last, which counts them
abbrev pub certificate : Tests → List (List Decl) → Text
certificate t programs = certificate_of (lines_of t programs)

-- ---- the bytes that are given

-- how many lines were right, and the bytes behind them
pub record Cursor : Type 0 where
  pub taken : ℕ
  pub rest : Text

-- the first line of bytes without its line feed; where there is no line feed, all bytes; or none
pub data Given : Type 0 where
  none_given : Given
  ended : Text → Given
  open_end : Text → Given

abbrev pub given_first : ℕ → Given → Given
given_first b none_given = open_end (b ∷ [])
given_first b (ended t) = ended (b ∷ t)
given_first b (open_end t) = open_end (b ∷ t)

-- the first line of bytes
abbrev pub given_line : Text → Given
given_line [] = none_given
given_line (b ∷ bs) = if b == 10 then ended [] else given_first b (given_line bs)

-- what stands behind this text, where the other begins with it
abbrev pub behind_text : Text → Text → Option Text
behind_text [] t = Some t
behind_text (a ∷ more) [] = None
behind_text (a ∷ more) (b ∷ bs) = if a == b then behind_text more bs else None

-- ---- why a line fails

-- it isn't of the format, or isn't there; it is about something else than comes next; or it isn't what the rules give there
pub data Mistake : Type 0 where
  V01 : Mistake
  V02 : Mistake
  V03 : Mistake

-- no yes: a fault of rules that have no lines, or the number of the first line that fails, and why
pub data Stop : Type 0 where
  refused : Fault → Stop
  no : ℕ → Mistake → Stop

abbrev pub mistake_about : Text → Text → Mistake
mistake_about t place = if is_line t then (if bytes_eq (about t) place then V03 else V02) else V01

abbrev pub mistake_at : Text → Given → Mistake
mistake_at place none_given = V01
mistake_at place (open_end t) = V01
mistake_at place (ended t) = mistake_about t place

-- the line that comes next fails, where one about this place has to come
abbrev pub failing : {A : Type 0} → Text → Cursor → Result A Stop
failing place c = Err (no (suc c.taken) (mistake_at place (given_line c.rest)))

abbrev pub next_by : Text → Cursor → Option Text → Result Cursor Stop
next_by place c None = failing place c
next_by place c (Some rest) = Ok (record { taken = suc c.taken; rest = rest })

-- the next line, which has to be this one with its line feed
abbrev pub next : Text → Text → Cursor → Result Cursor Stop
next place text c = next_by place c (behind_text (with_feed text) c.rest)

abbrev pub step : {A B : Type 0} → Result A Stop → (A → Result B Stop) → Result B Stop
step (Ok x) go = go x
step (Err s) go = Err s

abbrev pub all_next : List Line → Cursor → Result Cursor Stop
all_next [] c = Ok c
all_next (l ∷ ls) c = step (next (place_text l.place) (line_text l) c) (λ d. all_next ls d)

abbrev pub behind_lines : {A : Type 0} → Result A Failure → Cursor → Result Cursor Stop
behind_lines (Ok x) c = Ok c
behind_lines (Err (at_next p)) c = failing (place_text p) c
behind_lines (Err at_last) c = Err (no c.taken V03)

-- what comes of lines: whether they are the next ones, and whether a condition fails behind them
abbrev pub against : {A : Type 0} → Lined A → Cursor → Result Cursor Stop
against l c = step (all_next l.lines c) (behind_lines l.outcome)

-- ---- stages

abbrev pub unless_refused : {A : Type 0} → Result A Fault → Cursor → Result Cursor Stop
unless_refused (Ok x) c = Ok c
unless_refused (Err f) c = Err (refused f)

abbrev pub stage_against : Stage → Cursor → Result Cursor Stop
stage_against (asks r) c = unless_refused r c
stage_against (says l) c = against l c

abbrev pub stages_against : List Stage → Cursor → Result Cursor Stop
stages_against [] c = Ok c
stages_against (s ∷ ss) c = step (stage_against s c) (stages_against ss)

-- how many lines were right behind the first
abbrev pub lines_between : ℕ → ℕ
lines_between zero = 0
lines_between (suc n) = n

-- nothing stands behind the last line: a line there is about nothing that could come
abbrev pub nothing_in : ℕ → Cursor → Text → Result ℕ Stop
nothing_in k c [] = Ok k
nothing_in k c (b ∷ bs) = failing [] c

abbrev pub nothing_behind : ℕ → Cursor → Result ℕ Stop
nothing_behind k c = nothing_in k c c.rest

abbrev pub ended_by : Cursor → Result ℕ Stop
ended_by c = step (next (codes "end") (last_line (lines_between c.taken)) c) (nothing_behind (lines_between c.taken))

abbrev pub begun : Text → Cursor
begun bytes = record { taken = 0; rest = bytes }

abbrev pub verified_by : List Stage → Text → Result ℕ Stop
verified_by ss bytes = step (next first_line first_line (begun bytes)) (λ c. step (stages_against ss c) ended_by)

-- the number of lines between the first and the last, where the bytes are the certificate; else the fault of the declarations, or the first
-- line that fails
unfoldable pub verified : Tests → List (List Decl) → Text → Result ℕ Stop
verified t programs bytes = verified_by (stages t programs) bytes

-- ---- the law

-- all stages go well
abbrev pub AllGo : List Stage → Type 0
AllGo [] = Unit {0}
AllGo (asks r ∷ ss) = (r ≡ Ok tt) × AllGo ss
AllGo (says l ∷ ss) = (l.outcome ≡ Ok tt) × AllGo ss

-- of what is asked in stages, yes comes exactly of their certificate, where all go well
pub record StagesLaw (ss : List Stage) (bytes : Text) (k : ℕ) : Type 0 where
  pub sound : verified_by ss bytes ≡ Ok k → AllGo ss × ((bytes ≡ certificate_of (lines_in ss)) × (k ≡ length (lines_in ss)))
  pub complete : AllGo ss → bytes ≡ certificate_of (lines_in ss) → verified_by ss bytes ≡ Ok (length (lines_in ss))

-- each program is well formed, with no entry
abbrev pub AllWell : Tests → List (List Decl) → Type 0
AllWell t [] = Unit {0}
AllWell t (ds ∷ more) = ((a : Accepted) × (verdict entry.None ds t ≡ Ok a)) × AllWell t more

-- yes comes exactly of the certificate of programs that are well formed
pub record CertificateLaw (t : Tests) (programs : List (List Decl)) (bytes : Text) (k : ℕ) : Type 0 where
  pub sound : verified t programs bytes ≡ Ok k →
      AllWell t programs × ((bytes ≡ certificate t programs) × (k ≡ length (lines_of t programs)))
  pub complete : AllWell t programs → bytes ≡ certificate t programs → verified t programs bytes ≡ Ok (length (lines_of t programs))

-- the same, whichever right tests found them well formed
abbrev pub AllOk : ℕ → List (List Decl) → Type 0
AllOk limit [] = Unit {0}
AllOk limit (ds ∷ more) = ((a : Accepted) × ProgramOk limit entry.None ds a) × AllOk limit more

pub record CertificateOk (t : Tests) (programs : List (List Decl)) (bytes : Text) (k : ℕ) : Type 0 where
  pub sound : verified t programs bytes ≡ Ok k →
      AllOk t.limit programs × ((bytes ≡ certificate t programs) × (k ≡ length (lines_of t programs)))
  pub complete : AllOk t.limit programs → bytes ≡ certificate t programs → verified t programs bytes ≡ Ok (length (lines_of t programs))

-- certificate and verdict are the same by all right tests of one width limit
pub record OneCertificate (t u : Tests) (programs : List (List Decl)) (bytes : Text) : Type 0 where
  pub one : certificate t programs ≡ certificate u programs
  pub verdict_is : verified t programs bytes ≡ verified u programs bytes
