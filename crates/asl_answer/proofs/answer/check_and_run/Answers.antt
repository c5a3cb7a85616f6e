use Rattle.std.proofs.Common.{map}
use Rattle.asl_rules.specs.declarations.Programs.{environment}
use Rattle.asl_rules.specs.report.Report.{started}
use Rattle.asl_rules.specs.declared.entry.Entry.TheVariants.{Main}
use Rattle.asl_answer.specs.private.Model.{file_of}
use Rattle.asl_answer.proofs.Programs.{answered, starts}
use Rattle.asl_answer.proofs.answer.check_and_run.Goals as goal

pub returns-in-Ok-clause-answer : goal.returns-in-Ok-clause-answer
returns-in-Ok-clause-answer g c = λ t u.
    let files = map file_of c.args.sources.now in
    answered t Main files c.args.program.decls c.in-Ok.checked (λ ds. started files (environment t ds) c.args.steps) c.run_program.result _ _ (c.in-Ok.ensures t u) (c.run_program.ensures.answer t u)

pub run_program-requires-clause-accepted : goal.run_program-requires-clause-accepted
run_program-requires-clause-accepted g c = λ t u. starts t u c.args.program.decls c.in-Ok.checked c.requires.grown (c.in-Ok.ensures t u)
