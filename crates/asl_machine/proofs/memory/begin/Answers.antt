use Rattle.std.proofs.Common.{◌≡◌}
use Rattle.asl_machine.specs.Storage.{marks_of, values_in, vars_from}
use Rattle.asl_machine.proofs.After.{arranged_named}
use Rattle.asl_machine.proofs.Beginning.{begun_arranged, begun_held, begun_is}
use Rattle.asl_machine.proofs.memory.begin.Goals as goal

pub returns-clause-arranged : goal.returns-clause-arranged
returns-clause-arranged c =
    let marks : c.in_ok-marks.field-0.items ≡ marks_of c.as_slice-globals.result.now = c.in_ok-marks.ensures in
    let values : c.in_ok-values.field-0.items ≡ values_in c.as_slice-globals.result.now = c.in_ok-values.ensures in
    let vars : c.in_ok-vars.field-0.items ≡ vars_from c.as_slice-globals.result.now = c.in_ok-vars.ensures in
    rw (marks, values, vars) (begun_arranged c.args.checked.now c.parts-parts.result.now.subs c.as_slice-globals.result.now
    (rw (c.as_slice-globals.ensures.value) c.parts-parts.ensures.sealed))

pub returns-clause-held : goal.returns-clause-held
returns-clause-held c =
    let marks : c.in_ok-marks.field-0.items ≡ marks_of c.as_slice-globals.result.now = c.in_ok-marks.ensures in
    let values : c.in_ok-values.field-0.items ≡ values_in c.as_slice-globals.result.now = c.in_ok-values.ensures in
    let vars : c.in_ok-vars.field-0.items ≡ vars_from c.as_slice-globals.result.now = c.in_ok-vars.ensures in
    rw (marks, values, vars) (begun_held c.args.checked.now c.parts-parts.result.now.subs c.as_slice-globals.result.now
    (rw (c.as_slice-globals.ensures.value) c.parts-parts.ensures.sealed))

pub returns-clause-globals : goal.returns-clause-globals
returns-clause-globals c =
    let marks : c.in_ok-marks.field-0.items ≡ marks_of c.as_slice-globals.result.now = c.in_ok-marks.ensures in
    let values : c.in_ok-values.field-0.items ≡ values_in c.as_slice-globals.result.now = c.in_ok-values.ensures in
    let vars : c.in_ok-vars.field-0.items ≡ vars_from c.as_slice-globals.result.now = c.in_ok-vars.ensures in
    rw (marks, values, vars) (begun_is c.args.checked.now c.parts-parts.result.now.subs c.as_slice-globals.result.now
    (rw (c.as_slice-globals.ensures.value) c.parts-parts.ensures.sealed))

pub returns-clause-named : goal.returns-clause-named
returns-clause-named c =
    arranged_named c.args.checked.now c.in_ok-marks.field-0.items c.in_ok-values.field-0.items c.in_ok-vars.field-0.items (returns-clause-arranged c)
