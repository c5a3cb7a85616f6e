use Rattle.std.proofs.Common.{map}
use Rattle.asl_rules.specs.declarations.Programs.{environment}
use Rattle.asl_rules.specs.report.Report.{worked}
use Rattle.asl_answer.specs.private.Model.{file_of}
use Rattle.asl_answer.proofs.Grown.{some_suits}
use Rattle.asl_answer.proofs.Programs.{answered, named_by}
use Rattle.asl_answer.proofs.answer.check_and_exec.Goals as goal

pub returns-in-Ok-clause-answer : goal.returns-in-Ok-clause-answer
returns-in-Ok-clause-answer g c = λ t u.
    let files = map file_of c.args.sources.now in
    rw (← c.wanted.ensures)
    (answered t c.wanted.result files c.args.program.decls c.in-Ok.checked (λ ds. worked files (environment t ds) c.args.steps c.args.words.now) c.exec_program.result _ _ (c.in-Ok.ensures t u) (c.exec_program.ensures.answer t u))

pub exec_program-requires-clause-named : goal.exec_program-requires-clause-named
exec_program-requires-clause-named g c =
    named_by some_suits.0 c.wanted.result c.args.program.decls c.in-Ok.checked c.args.words.now (c.in-Ok.ensures some_suits.0 some_suits.1) c.wanted.ensures c.requires.shapes
