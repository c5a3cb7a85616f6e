use Rattle.std.proofs.Common.{◌≡◌, ◌-◌, ◌∷◌, []}
use Rattle.asl_grammar.specs.grammar.Build.{chained}
use Rattle.asl_grammar.specs.grammar.Rules.{equality, links_by}
use Rattle.asl_parse_expr.specs.private.Code.{cursor_of, reading, then}
use Rattle.asl_parse_expr.proofs.Loops.{run_chain}
use Rattle.asl_parse_expr.proofs.grammar.Grammar.links_by.Given as goal

abbrev pub invariant-loop-turn : goal.invariant-loop-turn
invariant-loop-turn g l = then (chained l.from l.fn.left) (reading l.self.depth (links_by l.kind) (cursor_of l.fn.tokens)) ≡ run_chain (reading l.self.depth equality) (l.kind ∷ []) (l.kind ∷ []) l.from (l._turn-end - l._turn) l.left (cursor_of l.tokens)
