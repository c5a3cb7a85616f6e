use Rattle.std.proofs.Common.{◌≡◌, ◌∙◌, [], sym, ap, drop}
use Rattle.std.proofs.lemmas.List.{drop_all}
use Rattle.asl_cons.specs.Arithmetic.{with_each}
use Rattle.asl_cons.specs.Operator.{part_by, onto}
use Rattle.asl_cons.proofs.PartCounts.{onto_nothing}
use Rattle.asl_cons.proofs.arithmetic.add_each.Goals as goal

pub returns : goal.returns
returns c =
    let d : drop c.loop-q.q-index c.args.qs.now ≡ [] = drop_all c.loop-q.q-index c.args.qs.now c.loop-q-test.false in
    sym c.loop-q.invariant ∙ ap (λ us. onto c.loop-q.made.items (with_each (part_by c.args.op) c.args.p.now us)) d ∙ onto_nothing c.loop-q.made.items
