use Rattle.asl_run.proofs.finishes.finish.Goals as goal

pub returns-in-Assert-clause-acts : goal.returns-in-Assert-clause-acts
returns-in-Assert-clause-acts c = rw c.in-Assert.is (c.holds.ensures.acts c.args.run.now)

pub returns-in-Declare-clause-acts : goal.returns-in-Declare-clause-acts
returns-in-Declare-clause-acts c = rw c.in-Declare.is c.declare.ensures.acts

pub returns-in-Throw-clause-acts : goal.returns-in-Throw-clause-acts
returns-in-Throw-clause-acts c = rw c.in-Throw.is (c.throw.ensures.acts c.args.run.now)
