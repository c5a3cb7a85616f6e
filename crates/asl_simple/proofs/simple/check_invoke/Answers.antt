use Rattle.std.proofs.Common.{sym, ap, ◌∙◌, map, Ok}
use Rattle.asl_rules.specs.expressions.Calls.{procedure_rule}
use Rattle.asl_rules.specs.expressions.Exprs.{found}
use Rattle.asl_rules.specs.Faults.{◌>>=◌}
use Rattle.asl_rules.specs.statements.Stmts.{invoked}
use Rattle.asl_blocks.proofs.Simples.{invoked_by}
use Rattle.asl_simple.proofs.simple.check_invoke.Goals as goal

pub returns : goal.returns
returns c = λ t s.
    ap (λ r. r >>= λ x. Ok (invoked c.args.span x c.args.names.now))
    (ap (λ G. procedure_rule t c.args.span c.args.name.now (map (found t) c.args.params.now) (map (found t) c.args.arguments.now) G) (sym c.context.ensures) ∙ c.in_ok-called.ensures t s)
    ∙ ap Ok (invoked_by c.args.names.now c.args.span c.in_ok-called.called c.into_parts-effect.result c.into_parts-effect.ensures ∙ sym (c.simply.ensures c.args.names.now))
