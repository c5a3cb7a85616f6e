use Rattle.std.proofs.Common.{sym, ap, ◌∙◌, Ok}
use Rattle.asl_rules.specs.statements.Stmts.{return_rule}
use Rattle.asl_blocks.specs.private.Views.{body_of}
use Rattle.asl_simple.proofs.simple.check_return.Goals as goal

pub returns-in-None-result : goal.returns-in-None-result
returns-in-None-result c = λ t s.
    (λ i. return_rule t c.args.span (c.in-None.is i) (body_of c.args.names.now c.args.body.now).scope (c.in-None-result.is i))
    ∙ ap Ok (sym (c.simply.ensures c.args.names.now))
