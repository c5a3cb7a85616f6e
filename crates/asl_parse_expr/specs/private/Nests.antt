-- A function value that reads what is nested, to a depth.
use Rattle.std.specs.Prelude.{◌≡◌, ◌≢◌, ℕ, List, Result, Ok, Err}
use Rattle.std.specs.declared.alloc.Global.{Global}
use denote.Ref.{MutBor}
use Rattle.asl_syn.specs.declared.tree.Bitfield.{Bitfield}
use Rattle.asl_syn.specs.declared.tree.ConstraintPart.{ConstraintPart}
use Rattle.asl_syn.specs.declared.tree.Expr.{Expr}
use Rattle.asl_syn.specs.declared.tree.Pattern.{Pattern}
use Rattle.asl_syn.specs.declared.tree.Suffix.{Suffix}
use Rattle.asl_syn.specs.declared.tree.TypeExpr.{TypeExpr}
use Rattle.asl_grammar.specs.declared.parts.Braces.{Braces}
use Rattle.asl_grammar.specs.declared.error.ParseError.{ParseError}
use Rattle.asl_grammar.specs.declared.error.ParseError.TheVariants.{OutOfMemory}
use Rattle.asl_grammar.specs.grammar.Cursor.{Cursor}
use Rattle.asl_grammar.specs.grammar.Reader.{Outcome}
use Rattle.asl_grammar.specs.grammar.Rules.{Parenthesized, Arguments, Braced, Operand, IfParts, Bracketed, Width, SetParts, PatternParts, ConstraintParts, Bitfields, TypeParts, ArrayParts}
use Rattle.asl_parse_expr.specs.declared.grammar.Symbol.{Symbol}
use Rattle.asl_parse_expr.specs.declared.grammar.Symbol.TheVariants as what
use Rattle.asl_parse_expr.specs.declared.grammar.Value.{Value}
use Rattle.asl_parse_expr.specs.declared.grammar.Value.TheVariants as value
use Rattle.asl_parse_expr.specs.declared.tokens.Tokens.{Tokens}
use Rattle.asl_parse_expr.specs.private.Code.{cursor_of, symbol}

abbrev MetExpressions : Outcome (List Expr) → Result Value ParseError → Cursor → Type 0
MetExpressions o (Ok (value.Expressions x)) new = o ≡ Ok (x, new)
MetExpressions o (Ok _) new = ⊥
MetExpressions o (Err e) new = e ≢ OutOfMemory → o ≡ Err e

abbrev MetBraces : Outcome (Braces) → Result Value ParseError → Cursor → Type 0
MetBraces o (Ok (value.Braces x)) new = o ≡ Ok (x, new)
MetBraces o (Ok _) new = ⊥
MetBraces o (Err e) new = e ≢ OutOfMemory → o ≡ Err e

abbrev MetExpr : Outcome (Expr) → Result Value ParseError → Cursor → Type 0
MetExpr o (Ok (value.Expr x)) new = o ≡ Ok (x, new)
MetExpr o (Ok _) new = ⊥
MetExpr o (Err e) new = e ≢ OutOfMemory → o ≡ Err e

abbrev MetBranches : Outcome (Expr × Expr × Expr) → Result Value ParseError → Cursor → Type 0
MetBranches o (Ok (value.Branches x y z)) new = o ≡ Ok ((x, y, z), new)
MetBranches o (Ok _) new = ⊥
MetBranches o (Err e) new = e ≢ OutOfMemory → o ≡ Err e

abbrev MetSuffix : Outcome (Suffix) → Result Value ParseError → Cursor → Type 0
MetSuffix o (Ok (value.Suffix x)) new = o ≡ Ok (x, new)
MetSuffix o (Ok _) new = ⊥
MetSuffix o (Err e) new = e ≢ OutOfMemory → o ≡ Err e

abbrev MetPatterns : Outcome (List Pattern) → Result Value ParseError → Cursor → Type 0
MetPatterns o (Ok (value.Patterns x)) new = o ≡ Ok (x, new)
MetPatterns o (Ok _) new = ⊥
MetPatterns o (Err e) new = e ≢ OutOfMemory → o ≡ Err e

abbrev MetConstraint : Outcome (List ConstraintPart) → Result Value ParseError → Cursor → Type 0
MetConstraint o (Ok (value.Constraint x)) new = o ≡ Ok (x, new)
MetConstraint o (Ok _) new = ⊥
MetConstraint o (Err e) new = e ≢ OutOfMemory → o ≡ Err e

abbrev MetBitfields : Outcome (List Bitfield) → Result Value ParseError → Cursor → Type 0
MetBitfields o (Ok (value.Bitfields x)) new = o ≡ Ok (x, new)
MetBitfields o (Ok _) new = ⊥
MetBitfields o (Err e) new = e ≢ OutOfMemory → o ≡ Err e

abbrev MetTypes : Outcome (List TypeExpr) → Result Value ParseError → Cursor → Type 0
MetTypes o (Ok (value.Types x)) new = o ≡ Ok (x, new)
MetTypes o (Ok _) new = ⊥
MetTypes o (Err e) new = e ≢ OutOfMemory → o ≡ Err e

abbrev MetArray : Outcome (Expr × TypeExpr) → Result Value ParseError → Cursor → Type 0
MetArray o (Ok (value.Array x y)) new = o ≡ Ok ((x, y), new)
MetArray o (Ok _) new = ⊥
MetArray o (Err e) new = e ≢ OutOfMemory → o ≡ Err e

-- the value is that of the symbol, unless memory fails
abbrev pub MetValue : Symbol → ℕ → Cursor → Result Value ParseError → Cursor → Type 0
MetValue what.Parenthesized depth old r new = MetExpressions (symbol depth Parenthesized old) r new
MetValue what.Arguments depth old r new = MetExpressions (symbol depth Arguments old) r new
MetValue what.Braced depth old r new = MetBraces (symbol depth Braced old) r new
MetValue what.Operand depth old r new = MetExpr (symbol depth Operand old) r new
MetValue what.IfParts depth old r new = MetBranches (symbol depth IfParts old) r new
MetValue what.Bracketed depth old r new = MetSuffix (symbol depth Bracketed old) r new
MetValue what.Width depth old r new = MetExpr (symbol depth Width old) r new
MetValue what.SetParts depth old r new = MetPatterns (symbol depth SetParts old) r new
MetValue what.PatternParts depth old r new = MetPatterns (symbol depth PatternParts old) r new
MetValue what.ConstraintParts depth old r new = MetConstraint (symbol depth ConstraintParts old) r new
MetValue what.Bitfields depth old r new = MetBitfields (symbol depth Bitfields old) r new
MetValue what.TypeParts depth old r new = MetTypes (symbol depth TypeParts old) r new
MetValue what.ArrayParts depth old r new = MetArray (symbol depth ArrayParts old) r new

pub record Nests (depth : ℕ) (pre : Global → MutBor Tokens → ℕ → Symbol → Type 0)
    (post : Global → MutBor Tokens → ℕ → Symbol → Result Value ParseError → MutBor Tokens → Type 0) : Type 0 where
  pub callable : (alloc : Global) (old : MutBor Tokens) (what : Symbol) → pre alloc old depth what
  pub reads : (alloc : Global) (old new : MutBor Tokens) (what : Symbol) (r : Result Value ParseError) → post alloc old depth what r new
      → MetValue what depth (cursor_of old.now) r (cursor_of new.now)
