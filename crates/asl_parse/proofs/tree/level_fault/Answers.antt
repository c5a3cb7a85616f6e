use Rattle.asl_parse.proofs.FaultPlaces.{level_fault_at}
use Rattle.asl_parse.proofs.tree.level_fault.Goals as goal

pub returns : goal.returns
returns c = λ bytes. level_fault_at bytes c.args.toks.now c.args.left c.args.late c.opener_of.result.now c.span_at.result (c.span_at.ensures bytes) c.opener_of.ensures
