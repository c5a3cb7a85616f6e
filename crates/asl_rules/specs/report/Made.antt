-- The text that is made of a number and a size: for each place from 1 to the size a subprogram and a global, and a `main` that calls each subprogram.
use Rattle.std.specs.Prelude.{ℕ, suc, zero, ◌+◌, ◌-◌, ◌*◌, ◌/◌, ◌%◌, ◌^◌, [], ◌++◌, codes}
use Rattle.std.specs.Fmt.{decimal}
use Rattle.asl_grammar.specs.Reading.{Text}

-- the numbers that are drawn: the 0th is `number` modulo 2^31, and each other comes of the last one
abbrev pub next : ℕ → ℕ
next last = (1103515245 * last + 12345) % 2 ^ 31

unfoldable pub drawn : ℕ → ℕ → ℕ
drawn number zero = number % 2 ^ 31
drawn number (suc j) = next (drawn number j)

-- by how many bits the result of a subprogram is wider than its argument, 1 to 8: by the number that was drawn for it, and by its place,
-- which counts from 1
abbrev pub widening_in : ℕ → ℕ
widening_in x = 1 + (x / 65536) % 8

abbrev pub widening : ℕ → ℕ → ℕ
widening number place = widening_in (drawn number (2 * place - 1))

-- the first value of a global, 0 to 99, likewise
abbrev pub value_in : ℕ → ℕ
value_in x = (x / 65536) % 100

abbrev pub first_value : ℕ → ℕ → ℕ
first_value number place = value_in (drawn number (2 * place))

-- the lines, each with the LF that ends it
unfoldable pub function_line : ℕ → ℕ → Text
function_line place wider =
    codes "pure func f" ++ decimal place ++ codes "{N}(x: bits(N)) => bits(N+" ++ decimal wider ++ codes ") begin return x :: Ones{" ++ decimal wider ++ codes "}(); end;\n"

unfoldable pub global_line : ℕ → ℕ → Text
global_line place value = codes "var g" ++ decimal place ++ codes ": integer = " ++ decimal value ++ codes ";\n"

unfoldable pub call_line : ℕ → ℕ → Text
call_line place wider =
    codes "g" ++ decimal place ++ codes " = g" ++ decimal place ++ codes " + UInt(f" ++ decimal place ++ codes "{" ++ decimal wider ++ codes "}(Zeros{" ++ decimal wider ++ codes "}()));\n"

unfoldable pub sum_line : ℕ → Text
sum_line place = codes "s = s + g" ++ decimal place ++ codes ";\n"

-- the lines for each place from 1 to n, in this order
unfoldable pub declarations : ℕ → ℕ → Text
declarations number zero = []
declarations number (suc n) =
    declarations number n ++ function_line (suc n) (widening number (suc n)) ++ global_line (suc n) (first_value number (suc n))

unfoldable pub statements : ℕ → ℕ → Text
statements number zero = []
statements number (suc n) =
    statements number n ++ call_line (suc n) (widening number (suc n)) ++ sum_line (suc n)

-- the whole text
unfoldable pub made_text : ℕ → ℕ → Text
made_text number size =
    declarations number size ++ codes "func main() => integer begin\nvar s = 0;\n" ++ statements number size ++ codes "return s;\nend;\n"
