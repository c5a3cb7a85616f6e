use Rattle.asl_bits.specs.declared.TheConstants.{WIDTH_LIMIT}
use Rattle.asl_subprograms.specs.private.ContextView.{scope_of}
use Rattle.asl_judge.proofs.ValueLemmas.{known_within}
use Rattle.asl_judge.proofs.values.known.Goals as goal

pub returns : goal.returns
returns c t s = known_within t WIDTH_LIMIT c.eval_const.result c.args.e.now (scope_of c.args.context) s.limit c.eval_const.ensures
