use Rattle.std.proofs.Common.{ap, sym, ◌∙◌}
use Rattle.asl_accessors.specs.private.Parts.{all_seen}
use Rattle.asl_accessors.proofs.PartsFound.{handed_on, judged_bodies, parts_found}
use Rattle.asl_accessors.proofs.matching.match_bodies.Goals as goal

pub returns-in_err-implementations-clause-matched : goal.returns-in_err-implementations-clause-matched
returns-in_err-implementations-clause-matched c =
    handed_on c.args.decls.now c.from_residual-in_err-implementations.result c.in_err-implementations.field-0.0 _
    (judged_bodies c.args.decls.now c.in_ok-impdefs.impdefs (all_seen c.as_slice.result.now) (all_seen c.as_slice-2.result.now)
    (ap all_seen c.as_slice.ensures.value ∙ c.in_ok-headers.ensures) (ap all_seen c.as_slice-2.ensures.value ∙ c.in_ok-headers.ensures)
    c.in_ok-impdefs.ensures)
    c.in_err-implementations.ensures.judged c.from_residual-in_err-implementations.ensures.1

pub returns-clause-matched : goal.returns-clause-matched
returns-clause-matched c =
    sym (judged_bodies c.args.decls.now c.in_ok-impdefs.impdefs (all_seen c.as_slice.result.now) (all_seen c.as_slice-2.result.now)
    (ap all_seen c.as_slice.ensures.value ∙ c.in_ok-headers.ensures) (ap all_seen c.as_slice-2.ensures.value ∙ c.in_ok-headers.ensures)
    c.in_ok-impdefs.ensures)
    ∙ c.in_ok-implementations.ensures.judged

pub returns-clause-each : goal.returns-clause-each
returns-clause-each c =
    c.in_ok-parts_of.ensures
    ∙ parts_found c.args.decls.now c.in_ok-implementations.implementations c.in_ok-impdefs.impdefs
    (all_seen c.as_slice-2.result.now) (all_seen c.as_slice.result.now) (all_seen c.as_slice-3.result.now)
    (ap all_seen c.as_slice-2.ensures.value ∙ c.in_ok-headers.ensures) (ap all_seen c.as_slice.ensures.value ∙ c.in_ok-headers.ensures)
    (ap all_seen c.as_slice-3.ensures.value ∙ c.in_ok-headers.ensures) c.in_ok-implementations.ensures.kept c.in_ok-impdefs.ensures
