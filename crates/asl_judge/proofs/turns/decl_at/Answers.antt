use Rattle.asl_judge.proofs.Steps.{at_index}
use Rattle.asl_judge.proofs.turns.decl_at.Goals as goal

pub returns : goal.returns
returns c = at_index c.args.decls.now c.args.node c.index-decls-node.result c.requires c.index-decls-node.is
