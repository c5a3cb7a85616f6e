use Rattle.asl_bits.specs.declared.TheConstants.{WIDTH_LIMIT}
use Rattle.asl_rules.specs.types.Closed.{closed}
use Rattle.asl_rules.specs.types.Written.{first_value}
use Rattle.asl_judge.proofs.ValueLemmas.{first_within}
use Rattle.asl_judge.proofs.values.first_in.Goals as goal

pub returns : goal.returns
returns c t s = first_within t WIDTH_LIMIT c.evaluated.result c.args.at c.args.ty.now s.limit (c.evaluated.ensures (first_value WIDTH_LIMIT c.args.at (closed c.args.ty.now)) c.first_value-value.ensures)
