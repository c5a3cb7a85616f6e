use Rattle.asl_types.proofs.WidthLemmas.{product}
use Rattle.asl_types.proofs.widths.width_product.Goals as goal

pub returns : goal.returns
returns c = product c.args.span c.args.p.now c.args.q.now c.mul.result c.limited.result c.mul.ensures.gives c.limited.ensures
