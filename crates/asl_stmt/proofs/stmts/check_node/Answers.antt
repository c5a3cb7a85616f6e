use Rattle.std.proofs.Common.{Ok, sym, ap, ◌∙◌}
use Rattle.asl_blocks.specs.private.Views.{body_of}
use Rattle.asl_blocks.proofs.ActForms.{walk_pass, walk_unreachable}
use Rattle.asl_stmt.proofs.stmts.check_node.Goals as goal

pub returns-in-Pass : goal.returns-in-Pass
returns-in-Pass g c = λ t s.
    walk_pass t c.args.here.now.stmt.now c.in-Pass.span (body_of c.args.names.now c.args.body.now) c.in-Pass.is ∙ ap Ok (sym (c.simply.ensures c.args.names.now))

pub returns-in-Unreachable : goal.returns-in-Unreachable
returns-in-Unreachable g c = λ t s.
    walk_unreachable t c.args.here.now.stmt.now c.in-Unreachable.span (body_of c.args.names.now c.args.body.now) c.in-Unreachable.is ∙ ap Ok (sym (c.simply-in-Unreachable.ensures c.args.names.now))
