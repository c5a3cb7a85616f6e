-- The outcome for all tokens of a file.
use Rattle.std.specs.Prelude.{◌≡◌, ◌≢◌, List, Result, Ok, Err}
use Rattle.asl_syn.specs.declared.read.ReadDecl.{ReadDecl}
use Rattle.asl_grammar.specs.declared.error.ParseError.{ParseError}
use Rattle.asl_grammar.specs.declared.error.ParseError.TheVariants.{OutOfMemory}
use Rattle.asl_grammar.specs.grammar.Cursor.{Cursor}
use Rattle.asl_grammar.specs.grammar.Reader.{Outcome}

-- the outcome is this tree, or this error; want of memory says nothing
abbrev pub IsOutcome : Outcome (List ReadDecl) → Result (List ReadDecl) ParseError → Type 0
IsOutcome o (Ok v) = (end : Cursor) × (o ≡ Ok (v, end))
IsOutcome o (Err e) = e ≢ OutOfMemory → o ≡ Err e
