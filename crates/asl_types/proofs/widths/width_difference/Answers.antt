use Rattle.asl_types.proofs.WidthLemmas.{difference}
use Rattle.asl_types.proofs.widths.width_difference.Goals as goal

pub returns : goal.returns
returns c = difference c.args.span c.args.p.now c.args.q.now c.sub.result c.limited.result c.sub.ensures.gives c.limited.ensures
