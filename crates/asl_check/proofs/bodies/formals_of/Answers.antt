use Rattle.std.proofs.Common.{sym, ap, ◌∙◌}
use Rattle.asl_rules.specs.declarations.Programs.{types_in}
use Rattle.asl_check.proofs.BodyTurns.{types_back}
use Rattle.asl_check.proofs.bodies.formals_of.Goals as goal

pub returns : goal.returns
returns c = c.in_ok-copies.ensures ∙ sym (types_back c.formals.result.now) ∙ ap types_in c.formals.ensures
