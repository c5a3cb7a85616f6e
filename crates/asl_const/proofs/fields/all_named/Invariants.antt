use Rattle.std.proofs.Common.{◌≡◌, [], drop}
use Rattle.asl_const.specs.private.Finds.{named_after}
use Rattle.asl_const.proofs.fields.all_named.Given as goal

abbrev pub invariant-loop-name : goal.invariant-loop-name
invariant-loop-name l = named_after l.span l.chosen (drop l.name-index l.names) l.fields ≡ named_after l.span [] l.names l.fields
