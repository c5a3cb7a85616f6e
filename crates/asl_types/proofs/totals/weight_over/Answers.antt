use Rattle.std.proofs.Common.{arith}
use Rattle.asl_types.proofs.TotalLemmas.{raised_light}
use Rattle.asl_types.proofs.totals.weight_over.Goals as goal

pub overflow_mul-result : goal.overflow_mul-result
overflow_mul-result c = omega (arith, raised_light c.args.weight c.args.common c.args.own c.requires.light c.requires.fine)

pub returns-clause-within : goal.returns-clause-within
returns-clause-within c = raised_light c.args.weight c.args.common c.args.own c.requires.light c.requires.fine
