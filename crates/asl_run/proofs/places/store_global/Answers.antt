use Rattle.std.proofs.lemmas.Result.{err_from_is_err_and}
use Rattle.asl_value.specs.private.Forms.{all_steps}
use Rattle.asl_value.specs.View.{value_of}
use Rattle.asl_run.proofs.Placing.{changed_failed, changed_good}
use Rattle.asl_run.proofs.places.store_global.Goals as goal

pub returns-in_err-replace_global : goal.returns-in_err-replace_global
returns-in_err-replace_global c =
    let p = err_from_is_err_and c.from_residual.result c.from_residual.ensures.1 in
    record {
      stores = rw (p.1, p.2) (changed_failed c.in_err-replace_global.field-0.0 c.args.storing.now.holds_bits c.args.storing.now.span c.args.at
          (all_steps c.args.storing.now.steps.now) (value_of c.args.value) c.args.frames.now.globals c.replace_global.new.self.globals c.in_err-replace_global.ensures.changed);
      same = c.in_err-replace_global.ensures.same;
    }

pub returns : goal.returns
returns c = record {
  stores = changed_good c.args.storing.now.holds_bits c.args.storing.now.span c.args.at (all_steps c.args.storing.now.steps.now)
      (value_of c.args.value) c.args.frames.now.globals c.replace_global.new.self.globals _ c.in_ok-replace_global.ensures.changed;
  same = c.in_ok-replace_global.ensures.same;
}
