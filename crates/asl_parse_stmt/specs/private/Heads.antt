-- The heads of three long rules, which functions of their own read.
use Rattle.std.specs.Prelude.{ℕ, List, [], ◌∷◌, Option, Ok}
use Rattle.asl_syn.specs.declared.tree.Direction.{Direction}
use Rattle.asl_syn.specs.declared.tree.Expr.{Expr}
use Rattle.asl_syn.specs.declared.tree.Formal.{Formal}
use Rattle.asl_syn.specs.declared.tree.Ident.{Ident}
use Rattle.asl_syn.specs.declared.tree.Param.{Param}
use Rattle.asl_syn.specs.declared.tree.Qualifier.{Qualifier}
use Rattle.asl_syn.specs.declared.tree.TypeExpr.{TypeExpr}
use Rattle.asl_grammar.specs.declared.kinds.Kind.TheVariants as kind
use Rattle.asl_grammar.specs.grammar.Cursor.{Cursor}
use Rattle.asl_grammar.specs.grammar.Reader.{Outcome, bind, run_tok}
use Rattle.asl_grammar.specs.grammar.Rules.{name, expression, direction, qualifier, maybe_params, formal, formals, result_type}
use Rattle.asl_parse_expr.specs.private.Code.{reading}

-- the index of a `for`, from where and which way it counts, and up to where
unfoldable pub for_head : ℕ → Cursor → Outcome (Ident × Expr × Direction × Expr)
for_head d st = bind (reading d name st) (λ i m. bind (run_tok (kind.Assign ∷ []) m m.toks) (λ t m1. bind (reading d expression m1) (λ x m2. bind (reading d direction m2) (λ y m3. bind (reading d expression m3) (λ z m4. Ok ((i, x, y, z), m4))))))

-- a subprogram up to its result
unfoldable pub function_head : ℕ → Cursor → Outcome (Qualifier × Ident × List Param × List Formal × Option TypeExpr)
function_head d st = bind (reading d qualifier st) (λ q m. bind (run_tok (kind.Func ∷ []) m m.toks) (λ t m1. bind (reading d name m1) (λ i m2. bind (reading d maybe_params m2) (λ x m3. bind (reading d formals m3) (λ y m4. bind (reading d result_type m4) (λ z m5. Ok ((q, i, x, y, z), m5)))))))

-- an accessor up to its value
unfoldable pub accessor_head : ℕ → Cursor → Outcome (Ident × List Param × List Formal × Formal)
accessor_head d st = bind (run_tok (kind.Accessor ∷ []) st st.toks) (λ t m. bind (reading d name m) (λ i m1. bind (reading d maybe_params m1) (λ x m2. bind (reading d formals m2) (λ y m3. bind (run_tok (kind.Access ∷ []) m3 m3.toks) (λ t1 m4. bind (reading d formal m4) (λ z m5. Ok ((i, x, y, z), m5)))))))
