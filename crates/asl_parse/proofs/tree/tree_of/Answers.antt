use Rattle.std.proofs.Common.{◌∙◌, sym, ap}
use Rattle.asl_parse.proofs.FaultPlaces.{tree_is, no_fault, given_back}
use Rattle.asl_parse.proofs.tree.tree_of.Goals as goal

pub returns-in-Ok-clause-tree : goal.returns-in-Ok-clause-tree
returns-in-Ok-clause-tree c = tree_is c.args.bytes.now c.args.toks.now c.in-Ok.found c.in-Ok.ensures

pub returns-in-Err-clause-fault : goal.returns-in-Err-clause-fault
returns-in-Err-clause-fault c = λ f e.
    let given = given_back c.refused.result f e in
    c.refused.ensures.fault f given (c.in-Err.ensures (λ is. no_fault f (sym (c.refused.ensures.memory is) ∙ given)))
