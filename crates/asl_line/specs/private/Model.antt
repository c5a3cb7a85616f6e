-- What a `Line` says: the command that it stands for, and that its size is one of a text that can be made.
use Rattle.std.specs.Prelude.{◌≤◌, ⊤, map, string_bytes}
use Rattle.asl_syn.specs.Command.{Command, usage, check, run, exec, self, masks}
use Rattle.asl_line.specs.declared.words.Line.{Line}
use Rattle.asl_line.specs.declared.words.Line.TheVariants.{Usage, Check, Run, Exec, Generate, Masks}

abbrev pub meaning_of : Line → Command
meaning_of Usage = usage
meaning_of (Check files) = check (map string_bytes files.items)
meaning_of (Run steps files) = run steps (map string_bytes files.items)
meaning_of (Exec steps list files) = exec steps (string_bytes list) (map string_bytes files.items)
meaning_of (Generate number size) = self number size
meaning_of (Masks budget files) = masks budget (map string_bytes files.items)

abbrev pub HasSize : Line → Type 0
HasSize Usage = ⊤
HasSize (Check files) = ⊤
HasSize (Run steps files) = ⊤
HasSize (Exec steps list files) = ⊤
HasSize (Generate number size) = (1 ≤ size) × (size ≤ 2000)
HasSize (Masks budget files) = ⊤
