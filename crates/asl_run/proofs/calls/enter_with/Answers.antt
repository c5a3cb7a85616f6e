use Rattle.std.proofs.Common.{◌+◌, length, map, ap, arith, subst}
use Rattle.std.specs.Prelude.{OnOk}
use Rattle.std.proofs.lemmas.List.{length-map}
use Rattle.asl_value.specs.View.{value_of}
use Rattle.asl_run.specs.private.Calling.{BoundFormals}
use Rattle.asl_run.proofs.Framed.{enters_ok, room_bound, room_entered}
use Rattle.asl_run.proofs.calls.enter_with.Goals as goal

pub bind_params-requires : goal.bind_params-requires
bind_params-requires c = record {
  room = room_entered c.args.called.id c.in_ok-slots.slots (length c.args.params.items) c.args.run.now c.enter.new.run
      c.in_ok-enter.ensures.enters (omega (arith, c.in_ok-slots.ensures));
}

pub bind_formals-requires-clause-room : goal.bind_formals-requires-clause-room
bind_formals-requires-clause-room c =
    let both = room_entered c.args.called.id c.in_ok-slots.slots (length c.args.params.items + length c.as_slice-formals.result.now)
    c.args.run.now c.enter.new.run c.in_ok-enter.ensures.enters (omega (arith, c.in_ok-slots.ensures)) in
    room_bound (map value_of c.args.params.items) (length c.as_slice-formals.result.now) c.enter.new.run c.bind_params.new.run
    c.bind_params.ensures.bound (omega (arith, both, length-map c.args.params.items value_of))

pub returns-clause-enters : goal.returns-clause-enters
returns-clause-enters c =
    enters_ok c.args.called.id c.in_ok-slots.slots c.args.called.func.now (map value_of c.args.params.items) (map value_of c.args.args.now)
    c.args.run.now c.enter.new.run c.bind_params.new.run c.bind_formals.new.run c.bind_formals.result
    (omega (
      arith,
      c.in_ok-slots.ensures,
      c.slots.ensures.slots,
      ap length c.as_slice-formals.ensures,
      length-map c.args.params.items value_of,
    ))
    c.in_ok-enter.ensures.enters c.bind_params.ensures.bound
    (subst (λ Ts. OnOk c.bind_formals.result (BoundFormals Ts (map value_of c.args.args.now) c.bind_params.new.run c.bind_formals.new.run))
    c.as_slice-formals.ensures c.bind_formals.ensures.bound)
