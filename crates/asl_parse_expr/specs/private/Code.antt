-- What a function that reads a rule ensures: the reader's outcome, unless memory fails.
use Rattle.std.specs.Prelude.{◌≡◌, ◌≢◌, ℕ, zero, suc, Bool, List, map, length, Result, Ok, Err}
use Rattle.asl_syn.specs.declared.token.Span.{Span}
use Rattle.asl_syn.specs.declared.token.Token.{Token}
use Rattle.asl_syn.specs.declared.tree.BinaryOperator.{BinaryOperator}
use Rattle.asl_syn.specs.declared.tree.UnaryOperator.{UnaryOperator}
use Rattle.asl_grammar.specs.declared.error.ParseError.{ParseError}
use Rattle.asl_grammar.specs.declared.error.ParseError.TheVariants.{OutOfMemory, TooDeep}
use Rattle.asl_grammar.specs.grammar.Cursor.{Lexeme, Cursor, Kinds, starts, with_text, span_to}
use Rattle.asl_grammar.specs.grammar.Kinds.{kind_of}
use Rattle.asl_grammar.specs.grammar.Operators.{binary_of, unary_of}
use Rattle.asl_grammar.specs.grammar.Reader.{Outcome, refused, bind, pick, run, run_opens, parse}
use Rattle.asl_grammar.specs.grammar.Rules.{Sym, Val, Rule, rule}
use Rattle.asl_parse_expr.specs.declared.tokens.Tokens.{Tokens}

abbrev pub cursor_of : Tokens → Cursor
cursor_of t = record { toks = map (with_text t.bytes.now) t.toks.now; left = t.left; last = t.last }

abbrev pub Met : {A : Type 0} → Outcome A → Result A ParseError → Cursor → Type 0
Met o (Ok a) new = o ≡ Ok (a, new)
Met o (Err e) new = e ≢ OutOfMemory → o ≡ Err e

-- the same for a token, whose text stands in the file
abbrev pub MetToken : Outcome Lexeme → List ℕ → Result Token ParseError → Cursor → Type 0
MetToken o bytes (Ok t) new = o ≡ Ok (with_text bytes t, new)
MetToken o bytes (Err e) new = e ≢ OutOfMemory → o ≡ Err e

-- what a rule reads where symbols nest no deeper than this
abbrev pub reading : ℕ → {A : Type 0} → Rule A → Cursor → Outcome A
reading depth g st = run (parse Sym Val rule depth) g st

abbrev pub symbol : ℕ → (s : Sym) → Cursor → Outcome (Val s)
symbol depth s st = parse Sym Val rule depth s st

-- what becomes of what was read
unfoldable pub then : {A B : Type 0} → (A → B) → Outcome A → Outcome B
then f o = bind o (λ x end. Ok (f x, end))

-- the same, given the span from a token on to where it ends
unfoldable pub ending : {A B : Type 0} → Span → (Span → A → B) → Outcome A → Outcome B
ending from f o = bind o (λ x end. Ok (f (span_to from end.last) x, end))

-- a level more
abbrev pub charged : Bool → Cursor → ℕ → Outcome (Unit {0})
charged late st zero = Err (TooDeep (length st.toks) late)
charged late st (suc l) = Ok (tt, record st { left = l })

-- a level more at one of these tokens
abbrev pub charge : Kinds → Bool → Cursor → Outcome (Unit {0})
charge cs late st = pick (starts cs st.toks) (charged late st st.left) (refused st.toks)

-- an operator before its operand
unfoldable pub prefix_at : Kinds → Cursor → Outcome UnaryOperator
prefix_at kinds st = bind (run_opens kinds st.left st.toks) (λ t m. Ok (unary_of (kind_of t.kind), m))

-- an operator between its operands
unfoldable pub operator_at : Kinds → Cursor → Outcome BinaryOperator
operator_at kinds st = bind (run_opens kinds st.left st.toks) (λ t m. Ok (binary_of (kind_of t.kind), m))
