use Rattle.std.proofs.Common.{◌≡◌, ◌++◌, map}
use Rattle.asl_value.specs.View.{value_of}
use Rattle.asl_run.specs.private.Calling.{Bound}
use Rattle.asl_run.proofs.calls.bind_params.Given as goal

-- those so far were bound, and the others are left
abbrev pub invariant-loop-x : goal.invariant-loop-x
invariant-loop-x l = record {
  bound : Bound (map value_of l.yielded) l.fn.run l.run;
  left : l.yielded ++ l.x-iterator.rest.items ≡ l.fn.params.items;
}
