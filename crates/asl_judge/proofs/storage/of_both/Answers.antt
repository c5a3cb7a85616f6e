use Rattle.std.proofs.Common.{sym, subst}
use Rattle.asl_rules.specs.declarations.Declarations.{is_var}
use Rattle.asl_types.specs.private.Answers.{Met}
use Rattle.asl_subprograms.specs.private.ContextView.{scope_of}
use Rattle.asl_judge.specs.private.Brought.{initial_of}
use Rattle.asl_judge.proofs.StorageLemmas.{both_is}
use Rattle.asl_judge.proofs.storage.of_both.Goals as goal

pub returns : goal.returns
returns c t s =
    subst (λ r. Met initial_of c.both_in_order.result r) (sym (both_is t c.args.d.now (is_var c.args.d.now.kind) c.args.ty.now c.args.e.now (scope_of c.args.context)))
    (c.both_in_order.ensures t s)
