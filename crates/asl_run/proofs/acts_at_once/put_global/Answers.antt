use Rattle.std.proofs.Common.{List, ap, map, sym, ◌∙◌, arith}
use Rattle.asl_rules.specs.runs.Plans.{Good}
use Rattle.asl_value.specs.View.{value_of}
use Rattle.asl_value.specs.declared.value.Value.{Value}
use Rattle.asl_branches.specs.Framed.{Framed}
use Rattle.asl_run.proofs.Placing.{set_good}
use Rattle.asl_run.proofs.acts_at_once.put_global.Goals as goal

pub returns : goal.returns
returns c =
    let now = ap (λ (g : Framed). g.globals) c.set_global.ensures in
    record {
      sets = λ holds span.
          set_good holds span c.args.at c.args.value c.args.frames.now.globals (omega arith) c.requires
          ∙ ap (λ (xs : List Value). Good (map value_of xs)) (sym now);
      same = c.set_global.ensures ∙ ap (λ (xs : List Value). record c.args.frames.now { globals = xs }) (sym now);
    }
