use Rattle.std.proofs.Common.{rules, subst}
use Rattle.asl_run.specs.private.AtOnce.{Finds, found}
use Rattle.asl_run.proofs.Asked.{asked_at_once}
use Rattle.asl_run.proofs.asking.ask.Goals as goal

pub returns-in-Some : goal.returns-in-Some
returns-in-Some g c =
    let h = g.N.Nodes.setting c.args.here.now in
    record {
      meets = asked_at_once (found c.evaluated.result) c.in-Some.holds h.funcs.now h.depth c.args.span c.args.e.now c.args.run.now
          c.evaluated.new.left (g.K.Sink.written c.args.sink.now) (search rules)
          (subst (λ s. Finds (found c.evaluated.result) h.funcs.now s.depth c.args.e.now c.args.run.now c.args.run.now.steps
          c.evaluated.new.left) c.setting-setting.ensures (c.evaluated.ensures h.funcs.now));
      counts = search rules;
      same_full = search rules;
      keeps = search rules;
      grows = search rules;
    }
