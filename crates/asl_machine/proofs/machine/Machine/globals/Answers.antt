use Rattle.std.proofs.Common.{rules, ◌≡◌}
use Rattle.asl_machine.proofs.After.{on_run, vars_are}
use Rattle.asl_machine.proofs.machine.Machine.globals.Goals as goal

pub returns-clause-names : goal.returns-clause-names
returns-clause-names c = λ t u.
    let m = c.self.inside.memory in
    let same : c.as_slice.result.now ≡ m.vars.items = search rules in
    rw (← c.self.view_is, same) (c.self.invariant.2 t u)

pub returns-clause-values : goal.returns-clause-values
returns-clause-values c = λ t u.
    let m = c.self.inside.memory in
    let same : c.as_slice.result.now ≡ m.vars.items = search rules in
    rw (← c.self.view_is, same) (on_run c.self.inside.stage _ _ (vars_are t u c.self.inside.checked m.marks.items m.values.items m.vars.items) c.self.invariant.0)
