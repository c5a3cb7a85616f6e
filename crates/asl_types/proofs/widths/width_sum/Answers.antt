use Rattle.asl_types.proofs.WidthLemmas.{sum}
use Rattle.asl_types.proofs.widths.width_sum.Goals as goal

pub returns : goal.returns
returns c = sum c.args.span c.args.p.now c.args.q.now c.add.result c.limited.result c.add.ensures.gives c.limited.ensures
