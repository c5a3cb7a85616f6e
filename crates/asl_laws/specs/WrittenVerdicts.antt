-- The verdict on what is read by those on the programs that come of it, written out.
use Rattle.std.specs.Prelude.{◌≡◌, ◌⊎◌, ℕ, List, length, Ok, Err}
use Rattle.asl_syn.specs.declared.code.Fault.{Fault}
use Rattle.asl_syn.specs.declared.read.ReadDecl.{ReadDecl}
use Rattle.asl_rules.specs.declared.entry.Entry.{Entry}
use Rattle.asl_rules.specs.declared.entry.Entry.TheVariants as entry
use Rattle.asl_rules.specs.Tests.{Tests}
use Rattle.asl_rules.specs.declarations.Programs.{Accepted, ProgramOk, FaultOf, default_decls, environment, final_decls, read_verdict}
use Rattle.asl_rules.specs.declarations.Replacing.{bodies_matched}
use Rattle.asl_rules.specs.report.Report.{answer, on_check, on_run, on_words, started, worked}
use Rattle.asl_rules.specs.report.Texts.{File, accepted_line}
use Rattle.asl_rules.specs.report.WordList.{Word}
use Rattle.asl_rules.specs.runs.Words.{wanted}

-- no body that replaces another has a fault, and both programs are well formed, the second as this one
pub record BothOk (limit : ℕ) (e : Entry) (ds : List ReadDecl) (a : Accepted) : Type 0 where
  pub bodies : bodies_matched ds ≡ Ok tt
  pub with_defaults : Accepted
  pub default_ok : ProgramOk limit e (default_decls ds) with_defaults
  pub final_ok : ProgramOk limit e (final_decls ds) a

-- the fault of a body that replaces another; else that of the program with the bodies that may be replaced; else that of the program with those that replace them
abbrev pub FirstFault : ℕ → Entry → List ReadDecl → Fault → Type 0
FirstFault limit e ds f =
    (bodies_matched ds ≡ Err f) ⊎
    ((bodies_matched ds ≡ Ok tt) ×
    (FaultOf limit e (default_decls ds) f ⊎ ((a : Accepted) × ProgramOk limit e (default_decls ds) a × FaultOf limit e (final_decls ds) f)))

-- what a report tells of an accepted program: of all declarations their number, and else of the program with the bodies that replace others
pub record ReportsFinal (t : Tests) (files : List File) (ds : List ReadDecl) : Type 0 where
  pub check : (a : Accepted) → read_verdict entry.None ds t ≡ Ok a → on_check t files ds ≡ answer (accepted_line (length ds)) 0
  pub run : (a : Accepted) (steps : ℕ) → read_verdict entry.Main ds t ≡ Ok a → on_run t steps files ds ≡ started files (environment t (final_decls ds)) steps a.entries
  pub words : (a : Accepted) (steps : ℕ) (words : List Word) → read_verdict (wanted words) ds t ≡ Ok a →
      on_words t steps words files ds ≡ worked files (environment t (final_decls ds)) steps words a.entries
