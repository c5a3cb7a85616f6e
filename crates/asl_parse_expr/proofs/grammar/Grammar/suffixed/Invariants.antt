use Rattle.std.proofs.Common.{◌≡◌, ◌-◌, ◌∷◌, []}
use Rattle.asl_grammar.specs.declared.kinds.Kind.TheVariants as kind
use Rattle.asl_grammar.specs.grammar.Build.{suffixed}
use Rattle.asl_grammar.specs.grammar.Rules.{suffix, suffixes}
use Rattle.asl_parse_expr.specs.private.Code.{cursor_of, reading, then}
use Rattle.asl_parse_expr.proofs.Loops.{run_suffixed}
use Rattle.asl_parse_expr.proofs.grammar.Grammar.suffixed.Given as goal

abbrev pub invariant-loop-turn : goal.invariant-loop-turn
invariant-loop-turn g l = then (suffixed l.from l.fn.left) (reading l.self.depth suffixes (cursor_of l.fn.tokens)) ≡ run_suffixed (reading l.self.depth suffix) (kind.Dot ∷ kind.OpenBracket ∷ []) l.from (l._turn-end - l._turn) l.left (cursor_of l.tokens)
