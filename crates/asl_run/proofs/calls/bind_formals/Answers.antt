use Rattle.std.proofs.Common.{arith}
use Rattle.asl_run.proofs.Framed.{formals_more, formals_room}
use Rattle.asl_run.proofs.calls.bind_formals.Goals as goal

pub push-requires : goal.push-requires
push-requires c = record {
  room = formals_room c.args.formals.now _ c.loop-i.i c.args.run.now c.loop-i.run (omega arith) c.loop-i.invariant c.requires.room;
}

pub loop-i-preserved : goal.loop-i-preserved
loop-i-preserved c =
    formals_more c.args.formals.now c.args.args.now c.loop-i.i c.index-formals-i.result c.index-args-i.result c.in_ok-see.field-0
    c.args.run.now c.loop-i.run c.push.new.run (omega arith) (omega arith) c.index-formals-i.is c.index-args-i.is c.in_ok-see.ensures
    c.push.ensures.core c.push.ensures.height c.push.ensures.round c.loop-i.invariant
