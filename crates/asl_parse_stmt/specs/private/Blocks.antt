-- A function value that reads a block, where things may nest so deep in it.
use Rattle.std.specs.Prelude.{ℕ, List, Result}
use Rattle.std.specs.declared.alloc.Global.{Global}
use denote.Ref.{MutBor}
use Rattle.asl_syn.specs.declared.read.ReadStmt.{ReadStmt}
use Rattle.asl_grammar.specs.declared.error.ParseError.{ParseError}
use Rattle.asl_grammar.specs.grammar.Rules.{block}
use Rattle.asl_parse_expr.specs.declared.tokens.Tokens.{Tokens}
use Rattle.asl_parse_expr.specs.private.Code.{cursor_of, Met, reading}

pub record Nests (depth : ℕ) (pre : Global → MutBor Tokens → ℕ → Type 0)
    (post : Global → MutBor Tokens → ℕ → Result (List ReadStmt) ParseError → MutBor Tokens → Type 0) : Type 0 where
  pub callable : (alloc : Global) (old : MutBor Tokens) → pre alloc old depth
  pub reads : (alloc : Global) (old new : MutBor Tokens) (r : Result (List ReadStmt) ParseError) → post alloc old depth r new
      → Met (reading depth block (cursor_of old.now)) r (cursor_of new.now)
