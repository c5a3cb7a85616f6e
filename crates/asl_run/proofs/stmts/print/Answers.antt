use Rattle.std.proofs.Common.{rules, refl, arith}
use Rattle.std.proofs.lemmas.Result.{err_from_is_err_and}
use Rattle.asl_rules.specs.runs.StatementForms.{print_items}
use Rattle.asl_rules.specs.private.TypedMeaning.{item_of}
use Rattle.asl_tree.specs.Acts.{all_items}
use Rattle.asl_value.specs.View.{value_of}
use Rattle.asl_branches.specs.View.{core_of, meter_of}
use Rattle.asl_run.proofs.Printing.{shown_failed, shown_written, string_failed, string_written, value_failed}
use Rattle.asl_run.proofs.stmts.print.Goals as goal

pub loop-item-preserved-in-Verbatim : goal.loop-item-preserved-in-Verbatim
loop-item-preserved-in-Verbatim g c = record {
  left = string_written (g.N.Nodes.setting c.args.here.now).funcs.now (g.N.Nodes.setting c.args.here.now).depth c.args.kind
      c.args.items.now c.loop-item.item-index c.item-item.result c.in-Verbatim.text c.as_slice.result.now
      (core_of c.loop-item.run) (meter_of c.loop-item.run (g.K.Sink.written c.loop-item.sink)) _ (print_items item_of c.args.kind (all_items c.args.items.now) (core_of c.args.run.now)) (meter_of c.args.run.now (g.K.Sink.written c.args.sink.now))
      (omega (arith, c.loop-item-test.true)) c.item-item.is c.in-Verbatim.is c.as_slice.ensures refl c.in_ok-put_string-in-Verbatim.ensures.writes.0 c.in_ok-put_string-in-Verbatim.ensures.writes.1 c.loop-item.invariant.left;
  count = search rules;
  full = search rules;
  round = search rules;
  height = c.loop-item.invariant.height;
}

pub loop-item-preserved : goal.loop-item-preserved
loop-item-preserved g c = record {
  left = shown_written (g.N.Nodes.setting c.args.here.now).funcs.now (g.N.Nodes.setting c.args.here.now).depth c.args.kind
      c.args.items.now c.loop-item.item-index c.item-item.result c.in-Shown.e (value_of c.in_ok-x.x)
      (core_of c.loop-item.run) (meter_of c.loop-item.run (g.K.Sink.written c.loop-item.sink)) (core_of c.eval.new.run) (meter_of c.eval.new.run (g.K.Sink.written c.eval.new.sink)) _
      (print_items item_of c.args.kind (all_items c.args.items.now) (core_of c.args.run.now)) (meter_of c.args.run.now (g.K.Sink.written c.args.sink.now))
      (omega (arith, c.loop-item-test.true)) c.item-item.is c.in-Shown.is c.in_ok-x.ensures.meets refl c.in_ok-put_value.ensures.writes.0 c.in_ok-put_value.ensures.writes.1 c.loop-item.invariant.left;
  count = search rules;
  full = search rules;
  round = search rules;
  height = omega (arith, c.loop-item.invariant.height, c.in_ok-x.ensures.grows);
}

pub returns-in_err-put_string-in-Verbatim : goal.returns-in_err-put_string-in-Verbatim
returns-in_err-put_string-in-Verbatim g c = record {
  meets =
      let p = err_from_is_err_and c.from_residual.result c.from_residual.ensures.1 in
      rw (p.1, p.2) (string_failed (g.N.Nodes.setting c.args.here.now).funcs.now (g.N.Nodes.setting c.args.here.now).depth
      c.args.kind c.args.items.now c.loop-item.item-index c.item-item.result c.in-Verbatim.text c.as_slice.result.now
      (core_of c.loop-item.run) (meter_of c.loop-item.run (g.K.Sink.written c.loop-item.sink))
      (record {
        steps = c.loop-item.run.steps;
        told = g.K.Sink.written c.put_string.new.sink;
        text_open =
            c.put_string.new.text_open;
      }) c.in_err-put_string-in-Verbatim.field-0.0
      (print_items item_of c.args.kind (all_items c.args.items.now) (core_of c.args.run.now))
      (meter_of c.args.run.now (g.K.Sink.written c.args.sink.now))
      (omega (arith, c.loop-item-test.true)) c.item-item.is c.in-Verbatim.is c.as_slice.ensures refl
      c.in_err-put_string-in-Verbatim.ensures.writes c.loop-item.invariant.left);
  counts = search rules;
  same_full = search rules;
  keeps = search rules;
  grows = search rules;
}

pub returns-in_err-x : goal.returns-in_err-x
returns-in_err-x g c = record {
  meets =
      let p = err_from_is_err_and c.from_residual-in_err-x.result c.from_residual-in_err-x.ensures.1 in
      rw (p.1, p.2) (shown_failed (g.N.Nodes.setting c.args.here.now).funcs.now (g.N.Nodes.setting c.args.here.now).depth
      c.args.kind c.args.items.now c.loop-item.item-index c.item-item.result c.in-Shown.e
      (core_of c.loop-item.run) (meter_of c.loop-item.run (g.K.Sink.written c.loop-item.sink)) c.in_err-x.field-0.0
      (core_of c.eval.new.run) (meter_of c.eval.new.run (g.K.Sink.written c.eval.new.sink))
      (print_items item_of c.args.kind (all_items c.args.items.now) (core_of c.args.run.now))
      (meter_of c.args.run.now (g.K.Sink.written c.args.sink.now))
      (omega (arith, c.loop-item-test.true)) c.item-item.is c.in-Shown.is c.in_err-x.ensures.meets c.loop-item.invariant.left);
  counts = search rules;
  same_full = search rules;
  keeps = search rules;
  grows = search rules;
}

pub returns-in_err-put_value : goal.returns-in_err-put_value
returns-in_err-put_value g c = record {
  meets =
      let p = err_from_is_err_and c.from_residual-in_err-put_value.result c.from_residual-in_err-put_value.ensures.1 in
      rw (p.1, p.2) (value_failed (g.N.Nodes.setting c.args.here.now).funcs.now (g.N.Nodes.setting c.args.here.now).depth
      c.args.kind c.args.items.now c.loop-item.item-index c.item-item.result c.in-Shown.e (value_of c.in_ok-x.x)
      (core_of c.loop-item.run) (meter_of c.loop-item.run (g.K.Sink.written c.loop-item.sink)) (core_of c.eval.new.run)
      (meter_of c.eval.new.run (g.K.Sink.written c.eval.new.sink))
      (record {
        steps = c.eval.new.run.steps;
        told = g.K.Sink.written c.put_value.new.sink;
        text_open =
            c.put_value.new.text_open;
      }) c.in_err-put_value.field-0.0
      (print_items item_of c.args.kind (all_items c.args.items.now) (core_of c.args.run.now))
      (meter_of c.args.run.now (g.K.Sink.written c.args.sink.now))
      (omega (arith, c.loop-item-test.true)) c.item-item.is c.in-Shown.is c.in_ok-x.ensures.meets refl
      c.in_err-put_value.ensures.writes c.loop-item.invariant.left);
  counts = search rules;
  same_full = search rules;
  keeps = search rules;
  grows = search rules;
}
