-- A level below, in which what nests deeper is read.
use Rattle.std.specs.Prelude.{ℕ, zero, suc, Ok}
use Rattle.asl_grammar.specs.grammar.Cursor.{Cursor, Kinds}
use Rattle.asl_grammar.specs.grammar.Reader.{Outcome, bind, run_opens, too_deep}

-- how deep things may nest in it
abbrev pub inside : ℕ → Cursor → Outcome ℕ
inside zero st = too_deep st.toks
inside (suc depth) st = Ok (depth, st)

-- the same behind a token of these kinds, which opens it
unfoldable pub nested : ℕ → Kinds → Cursor → Outcome ℕ
nested depth kinds st = bind (run_opens kinds st.left st.toks) (λ t m. inside depth m)
