use Rattle.std.proofs.Common.{ap, ◌∙◌}
use Rattle.std.proofs.lemmas.List.{map-set}
use Rattle.asl_judge.specs.private.Outcomes.{judged_of, all_judged}
use Rattle.asl_judge.proofs.turns.keep.Goals as goal

pub returns-clause-outcomes : goal.returns-clause-outcomes
returns-clause-outcomes c = ap all_judged c.set.ensures ∙ map-set judged_of c.args.progress.now.outcomes c.args.node c.args.outcome
