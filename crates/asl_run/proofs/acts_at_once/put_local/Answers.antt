use Rattle.std.proofs.Common.{length, length-set, List, ap, map, sym, ◌∙◌, arith}
use Rattle.asl_rules.specs.runs.Plans.{Good}
use Rattle.asl_value.specs.View.{value_of}
use Rattle.asl_value.specs.declared.value.Value.{Value}
use Rattle.asl_branches.specs.Framed.{Framed}
use Rattle.asl_run.proofs.Placing.{set_good}
use Rattle.asl_run.proofs.acts_at_once.put_local.Goals as goal

pub returns : goal.returns
returns c =
    let now = ap (λ (g : Framed). g.values) c.set.ensures in
    record {
      sets = λ holds span.
          set_good holds span c.args.at c.args.value c.args.frames.now.values (omega arith) c.requires
          ∙ ap (λ (xs : List Value). Good (map value_of xs)) (sym now);
      as_many = ap (λ (g : Framed). length g.values) c.set.ensures ∙ length-set c.args.frames.now.values c.args.at c.args.value;
      same = c.set.ensures ∙ ap (λ (xs : List Value). record c.args.frames.now { values = xs }) (sym now);
    }
