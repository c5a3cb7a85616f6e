use Rattle.std.proofs.Common.{◌≡◌, [], rules, arith}
use Rattle.std.specs.Prelude.{◌-ℤ◌, unsigned_abs}
use Rattle.asl_branches.specs.View.{core_of, meter_of}
use Rattle.asl_run.proofs.Counting.{empty_ended, empty_limited}
use Rattle.asl_run.proofs.loops.for_indices.Goals as goal

pub returns-then-abs_diff-it : goal.returns-then-abs_diff-it
returns-then-abs_diff-it g c = record {
  meets =
      let none : c.args.body.now ≡ [] = search rules in
      let apart : c.abs_diff.result ≡ unsigned_abs (c.args.it.last -ℤ c.args.it.first) = search rules in
      empty_ended (g.N.Nodes.setting c.args.here.now).funcs.now (g.N.Nodes.setting c.args.here.now).depth c.args.it.span
      c.args.it.direction c.args.it.last c.args.body.now c.args.it.count c.args.it.first (core_of c.args.run.now)
      (meter_of c.args.run.now (g.K.Sink.written c.args.sink.now))
      none c.requires.within (omega (arith, c.if-abs_diff-it.true, apart));
  counts = search rules;
  same_full = search rules;
  keeps = search rules;
  grows = search rules;
}

pub returns-else-abs_diff-it : goal.returns-else-abs_diff-it
returns-else-abs_diff-it g c = record {
  meets =
      let none : c.args.body.now ≡ [] = search rules in
      let apart : c.abs_diff.result ≡ unsigned_abs (c.args.it.last -ℤ c.args.it.first) = search rules in
      empty_limited (g.N.Nodes.setting c.args.here.now).funcs.now (g.N.Nodes.setting c.args.here.now).depth c.args.it.span
      c.args.it.direction c.args.it.last c.args.body.now c.args.it.count c.args.it.first (core_of c.args.run.now)
      (meter_of c.args.run.now (g.K.Sink.written c.args.sink.now))
      none c.requires.within (omega (arith, c.if-abs_diff-it.false, apart));
  counts = search rules;
  same_full = search rules;
  keeps = search rules;
  grows = search rules;
}
