use Rattle.std.proofs.Common.{◌∙◌, ap, Err}
use Rattle.asl_written.proofs.RangeLemmas.{range_none, range_some}
use Rattle.asl_written.proofs.constraints.range_type.Goals as goal

pub returns-in-Err-At : goal.returns-in-Err-At
returns-in-Err-At c = λ t. range_none c.range.result c.in-Err-At.field-0-0 _ (c.in-Err-At.is ∙ ap (λ e. Err e) c.in-Err-At.field-0-is) (c.range.ensures t) c.integers.result c.whole.result c.whole.ensures c.integers.ensures

pub returns-in-Ok : goal.returns-in-Ok
returns-in-Ok c = λ t. range_some c.range.result c.in-Ok.written _ c.in-Ok.is (c.range.ensures t) c.integers_written.result c.integers_written.ensures
