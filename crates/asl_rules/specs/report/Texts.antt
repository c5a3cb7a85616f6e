-- The exact texts: values, fault lines, and the lines that end an answer.
use Rattle.std.specs.Prelude.{ℕ, ◌+◌, ℤ, pos, negsuc, Bool, false, if◌then◌else◌, List, [], ◌∷◌, ◌++◌, map, reverse, take, slice_get, codes, true}
use Rattle.std.specs.Option.{option_map_or}
use Rattle.std.specs.Fmt.{decimal}
use Rattle.asl_syn.specs.declared.token.Span.{Span}
use Rattle.asl_syn.specs.declared.code.Fault.{Fault}
use Rattle.asl_syn.specs.declared.code.DynCode.{DynCode}
use Rattle.asl_syn.specs.Codes.{static_text, dynamic_text}
use Rattle.asl_syn.specs.Place.{line_of, column_of}
pub use Rattle.asl_grammar.specs.Reading.{Text, File}
use Rattle.asl_rules.specs.runs.Told.{open_after}
use Rattle.asl_rules.specs.report.WordList.{ListFault}
use Rattle.asl_rules.specs.values.Values.{Value, FieldValues, Values, int, bool, bits_with, label, record_with, exception_with, tuple_with, array_with, no_value_of, value_of_field, no_value, value}

abbrev pub line_feed : Text
line_feed = 10 ∷ []

-- an integer in decimal digits, with `-` where it is below 0
abbrev pub integer_text : ℤ → Text
integer_text (pos n) = decimal n
integer_text (negsuc n) = 45 ∷ decimal (n + 1)

-- with commas between
abbrev pub behind_comma : Text → Text
behind_comma [] = []
behind_comma (b ∷ bs) = codes ", " ++ (b ∷ bs)

abbrev pub digit : Bool → ℕ
digit b = if b then 49 else 48

-- bits in quotes, the highest first
abbrev pub bits_text : List Bool → Text
bits_text bs = codes "'" ++ (map digit (reverse bs) ++ codes "'")

-- labels by their names; records by the name of the type that writes them, exceptions by that of their own
abbrev mutual
  pub value_text : Value → Text
  value_text (int z) = integer_text z
  value_text (bool true) = codes "TRUE"
  value_text (bool false) = codes "FALSE"
  value_text (bits_with bs v) = bits_text bs
  value_text (label name l) = l
  value_text (record_with name xs) = name ++ (codes "{" ++ (field_texts xs ++ codes "}"))
  value_text (exception_with own supers name xs) = own ++ (codes "{" ++ (field_texts xs ++ codes "}"))
  value_text (tuple_with xs) = codes "(" ++ (value_texts xs ++ codes ")")
  value_text (array_with k xs) = codes "[" ++ (value_texts xs ++ codes "]")

  pub field_texts : FieldValues → Text
  field_texts no_value_of = []
  field_texts (value_of_field f x xs) = f ++ (codes "=" ++ (value_text x ++ behind_comma (field_texts xs)))

  pub value_texts : Values → Text
  value_texts no_value = []
  value_texts (value x xs) = value_text x ++ behind_comma (value_texts xs)

-- the place of a fault, and its code
abbrev pub placed : Text → ℕ → ℕ → ℕ → Text → Text
placed name line column len code =
    name ++ (codes ":" ++ (decimal line ++ (codes ":" ++ (decimal column ++ (codes "+" ++ (decimal len ++ (codes ": " ++ (code ++ line_feed))))))))

abbrev pub name_of : List File → ℕ → Text
name_of files n = option_map_or (λ f. f.0) (slice_get files n) []

abbrev pub bytes_of : List File → ℕ → Text
bytes_of files n = option_map_or (λ f. f.1) (slice_get files n) []

abbrev pub line_at : List File → Span → Text → Text
line_at files span code = let before = take span.start (bytes_of files span.file) in
    placed (name_of files span.file) (line_of before) (column_of before) span.len code

-- the code of a fault, with the code of the evaluation where a constant faults
abbrev pub code_text : Fault → Text
code_text f = static_text f.code ++ option_map_or (λ d. codes " " ++ dynamic_text d) f.inner []

abbrev pub fault_line : List File → Fault → Text
fault_line files f = line_at files f.span (code_text f)

abbrev pub dynamic_line : List File → DynCode → Span → Text
dynamic_line files code span = line_at files span (dynamic_text code)

abbrev pub usage_line : Text
usage_line = codes "usage: asl check FILE.. | asl run [--steps N] FILE.. | asl exec [--steps N] --words W FILE.. | asl self NUMBER SIZE | asl masks [--budget N] FILE.." ++ line_feed

abbrev pub long_line : Text → Text
long_line name = name ++ (codes ":1:1+0: M01" ++ line_feed)

-- a fault of a word list stands at the beginning of its line
abbrev pub list_fault_line : Text → ListFault → Text
list_fault_line name f = placed name f.line 1 0 (static_text f.code)

abbrev pub many_line : Text
many_line = codes "M02" ++ line_feed

abbrev pub accepted_line : ℕ → Text
accepted_line n = codes "ok " ++ (decimal n ++ (codes " declarations" ++ line_feed))

abbrev pub returned_line : Value → Text
returned_line x = codes "returned " ++ (value_text x ++ line_feed)

abbrev pub uncaught_line : Value → Text
uncaught_line x = codes "uncaught " ++ (value_text x ++ line_feed)

-- what a made text came to, before the value that it returned: its number and size, how many bytes it has, and how many declarations
abbrev pub made_words : ℕ → ℕ → ℕ → ℕ → Text
made_words number size bytes declarations =
    codes "self " ++ (decimal number ++ (codes " " ++ (decimal size ++ (codes ": " ++ (decimal bytes ++ (codes " bytes, " ++ (decimal declarations ++ codes " declarations, ")))))))

abbrev pub done_line : ℕ → Text
done_line n = codes "done " ++ (decimal n ++ line_feed)

-- printed text that isn't empty and doesn't end in a line feed is open
abbrev pub is_open : Text → Bool
is_open text = open_after false text

-- a line of the product begins on a line of its own
abbrev pub closing : Text → Text
closing text = if is_open text then line_feed else []

-- a global after the run
abbrev pub global_line : Text → Value → Text
global_line name x = name ++ (codes " = " ++ (value_text x ++ line_feed))
