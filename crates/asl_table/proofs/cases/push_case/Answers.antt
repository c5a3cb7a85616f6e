use Rattle.asl_table.proofs.ReadMasks.{no_case_added}
use Rattle.asl_table.proofs.cases.push_case.Goals as goal

pub returns-else-branch : goal.returns-else-branch
returns-else-branch c =
    no_case_added c.args.tables.now c.args.span c.args.alternatives.now c.new-masks.result.items c.push_alternatives.new.masks.items
    c.in_ok-push_alternatives.field-0 c.if-branch.false c.new-masks.ensures.items c.in_ok-push_alternatives.ensures
