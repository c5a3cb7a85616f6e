-- What the words of a command line ask for, as the matches that clap's contracts state give it.
use Rattle.std.specs.Prelude.{ℕ, Bool, true, ◌&&◌, ◌^◌, ◌-◌, pos, List, [], ◌∷◌, length, nat_lt, nat_le, Option, Some, None, codes, if◌then◌else◌, unwrap_or, option_and_then}
use Rattle.std.specs.List.{list_all}
use Rattle.std.specs.Char.{digit_value}
use Rattle.std.specs.Str.{bytes_eq}
use Rattle.std.specs.Str.Parse.{digits_value, without_leading_plus}
use Rattle.clap.specs.Words.{App, Row, Rule, Text, all_of, fault_of, first_of, new_app, new_rule, subcommand_of, with_rule, with_subcommand, Kinds}
use Rattle.clap.specs.Walk.{one_of}
use Rattle.clap.specs.declared.builder.ValueParser.TheVariants as vp
use Rattle.clap.specs.declared.builder.ArgAction.TheVariants.{Set}
use Rattle.asl_syn.specs.Command.{Command, usage, check, run, exec, self, masks, default_steps, default_budget}

-- the names of the files, at least one
abbrev pub files_rule : Rule
files_rule = record (new_rule (codes "file")) { required = true; range = Some (record { start_inclusive = 1; end_inclusive = 2 ^ 64 - 1 }) }

-- the steps of a run, 1 to 1,000,000,000
abbrev pub steps_rule : Rule
steps_rule = record (new_rule (codes "steps")) { long = Some (codes "steps"); action = Some Set; parser = Some (vp.Signed (pos 1) (pos 1000000000)) }

-- the splits of masks, 1 to 1,000,000,000
abbrev pub budget_rule : Rule
budget_rule = record (new_rule (codes "budget")) { long = Some (codes "budget"); action = Some Set; parser = Some (vp.Signed (pos 1) (pos 1000000000)) }

-- the name of the word list
abbrev pub words_rule : Rule
words_rule = record (new_rule (codes "words")) { long = Some (codes "words"); action = Some Set; required = true }

-- the number of a text that is made, 0 to 4,294,967,295, and its size, 1 to 2,000
abbrev pub number_rule : Rule
number_rule = record (new_rule (codes "number")) { required = true; parser = Some (vp.Signed (pos 0) (pos 4294967295)) }

abbrev pub size_rule : Rule
size_rule = record (new_rule (codes "size")) { required = true; parser = Some (vp.Signed (pos 1) (pos 2000)) }

-- the commands, as clap sees them
abbrev pub check_app : App
check_app = with_rule (new_app (codes "check")) files_rule

abbrev pub run_app : App
run_app = with_rule (with_rule (new_app (codes "run")) steps_rule) files_rule

abbrev pub exec_app : App
exec_app = with_rule (with_rule (with_rule (new_app (codes "exec")) steps_rule) words_rule) files_rule

abbrev pub self_app : App
self_app = with_rule (with_rule (new_app (codes "self")) number_rule) size_rule

abbrev pub masks_app : App
masks_app = with_rule (with_rule (new_app (codes "masks")) budget_rule) files_rule

abbrev pub bare_app : App
bare_app = record (new_app (codes "asl")) { top = record (new_app (codes "asl")).top { subcommand_required = true; disable_help_subcommand = true } }

abbrev pub asl_app : App
asl_app =
    with_subcommand
    (with_subcommand (with_subcommand (with_subcommand (with_subcommand bare_app check_app.top) run_app.top) exec_app.top) self_app.top)
    masks_app.top

-- the text is a decimal number below 2^32, and a plus may stand before it
abbrev pub is_number : Text → Bool
is_number t = let ds = without_leading_plus t in
    nat_lt 0 (length ds) && (list_all (λ d. nat_lt (digit_value d) 10) ds && nat_lt (digits_value 10 ds) 4294967296)

-- the number that a text writes
abbrev pub number_in : Text → Option ℕ
number_in t = if is_number t then Some (digits_value 10 (without_leading_plus t)) else None

-- the number where it is within the bounds, and otherwise `other`
abbrev pub within_or : Option ℕ → ℕ → ℕ → ℕ → ℕ
within_or None low high other = other
within_or (Some n) low high other = if nat_le low n && nat_le n high then n else other

-- the number that a text writes, where it is within the bounds, and otherwise `other`
abbrev pub number_or : Option Text → ℕ → ℕ → ℕ → ℕ
number_or t = within_or (option_and_then number_in t)

-- the steps that were given, or else the default
abbrev pub steps_in : List Row → ℕ
steps_in rows = number_or (one_of (codes "steps") rows) 1 1000000000 default_steps

-- the splits that were given, or else the default
abbrev pub budget_in : List Row → ℕ
budget_in rows = number_or (one_of (codes "budget") rows) 1 1000000000 default_budget

-- the names of files that were given
abbrev pub files_in : List Row → List Text
files_in rows = unwrap_or (all_of (codes "file") rows) []

-- the name of the word list, the number and the size that were given; clap has seen to it that they are there, and within their bounds
abbrev pub words_in : List Row → Text
words_in rows = unwrap_or (first_of (codes "words") rows) []

abbrev pub number_of : List Row → ℕ
number_of rows = number_or (one_of (codes "number") rows) 0 4294967295 0

abbrev pub size_of : List Row → ℕ
size_of rows = number_or (one_of (codes "size") rows) 1 2000 1

-- the command of a subcommand and its rows
abbrev pub command_from : Option (Text × List Row) → Command
command_from None = usage
command_from (Some (name, rows)) =
    if bytes_eq name (codes "check") then check (files_in rows)
    else (if bytes_eq name (codes "run") then run (steps_in rows) (files_in rows)
    else (if bytes_eq name (codes "exec") then exec (steps_in rows) (words_in rows) (files_in rows)
    else (if bytes_eq name (codes "self") then self (number_of rows) (size_of rows)
    else masks (budget_in rows) (files_in rows))))

abbrev pub command_unless : Kinds → Option (Text × List Row) → Command
command_unless [] found = command_from found
command_unless (k ∷ ks) found = usage

-- usage where clap refuses the words for any other reason than memory, and otherwise the command that they match
unfoldable pub line_of : List Text → Command
line_of words = command_unless (fault_of asl_app words) (subcommand_of asl_app words)
