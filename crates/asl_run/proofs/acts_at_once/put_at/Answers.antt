use Rattle.std.proofs.Common.{Some, subst, sym}
use Rattle.asl_value.specs.View.{value_of}
use Rattle.asl_run.specs.private.AtOnce.{Puts}
use Rattle.asl_run.proofs.ActsAtOnce.{put_global, put_local}
use Rattle.asl_run.proofs.acts_at_once.put_at.Goals as goal

pub returns-in-Local-clause-puts : goal.returns-in-Local-clause-puts
returns-in-Local-clause-puts c =
    let after = record c.args.run.now { frames = c.put_local.new.frames } in
    subst (λ t. Puts c.put_local.result (Some (value_of c.args.value)) t c.args.run.now after) (sym c.in-Local.is)
    (put_local c.put_local.result c.in-Local.i (value_of c.args.value) c.args.run.now c.put_local.new.frames c.put_local.ensures.sets
    c.put_local.ensures.same)

pub returns-in-Global-clause-puts : goal.returns-in-Global-clause-puts
returns-in-Global-clause-puts c =
    let after = record c.args.run.now { frames = c.put_global.new.frames } in
    subst (λ t. Puts c.put_global.result (Some (value_of c.args.value)) t c.args.run.now after) (sym c.in-Global.is)
    (put_global c.put_global.result c.in-Global.i (value_of c.args.value) c.args.run.now c.put_global.new.frames c.put_global.ensures.sets
    c.put_global.ensures.same)
