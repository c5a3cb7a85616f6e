-- What an expression is judged in, as the rules see it.
use Rattle.std.specs.Prelude.{List, []}
use Rattle.asl_rules.specs.declarations.Scopes as rules
use Rattle.asl_rules.specs.declared.effect.Effect.TheVariants.{Pure}
use Rattle.asl_subprograms.specs.declared.context.Context.{Context}

abbrev pub scope_of : Context → rules.Scope
scope_of c = record { names = c.names.now; subs = c.subs.now; class = c.class }

-- what a type or a width is judged in by the names alone: whatever calls there are in it are faults
abbrev pub of_names : List rules.Entry → rules.Scope
of_names names = record { names = names; subs = []; class = Pure }
