use Rattle.std.proofs.Common.{◌≡◌, drop}
use Rattle.asl_rules.specs.statements.Locals.{names_rule}
use Rattle.asl_simple.proofs.locals.declare_vars.Given as goal

abbrev pub invariant-loop-name : goal.invariant-loop-name
invariant-loop-name l = names_rule (drop l.name-index l.idents) l.ty l.names ≡ names_rule l.idents l.ty l.fn.names
