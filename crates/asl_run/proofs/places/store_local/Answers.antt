use Rattle.std.proofs.lemmas.Result.{err_from_is_err_and}
use Rattle.asl_value.specs.private.Forms.{all_steps}
use Rattle.asl_value.specs.View.{value_of}
use Rattle.asl_run.proofs.Placing.{changed_failed, changed_good, changed_length}
use Rattle.asl_run.proofs.places.store_local.Goals as goal

pub returns-in_err-replace : goal.returns-in_err-replace
returns-in_err-replace c =
    let p = err_from_is_err_and c.from_residual.result c.from_residual.ensures.1 in
    record {
      stores = rw (p.1, p.2) (changed_failed c.in_err-replace.field-0.0 c.args.storing.now.holds_bits c.args.storing.now.span c.args.at
          (all_steps c.args.storing.now.steps.now) (value_of c.args.value) c.args.frames.now.values c.replace.new.self.values c.in_err-replace.ensures.changed);
      as_many = changed_length _ _ c.args.at c.args.frames.now.values c.replace.new.self.values c.in_err-replace.ensures.changed;
      same = c.in_err-replace.ensures.same;
    }

pub returns : goal.returns
returns c = record {
  stores = changed_good c.args.storing.now.holds_bits c.args.storing.now.span c.args.at (all_steps c.args.storing.now.steps.now)
      (value_of c.args.value) c.args.frames.now.values c.replace.new.self.values _ c.in_ok-replace.ensures.changed;
  as_many = changed_length _ _ c.args.at c.args.frames.now.values c.replace.new.self.values c.in_ok-replace.ensures.changed;
  same = c.in_ok-replace.ensures.same;
}
