use Rattle.std.proofs.Common.{◌≡◌, ◌∙◌, [], sym, ap, drop, arith}
use Rattle.std.specs.Prelude.{Some}
use Rattle.std.proofs.lemmas.List.{drop_all}
use Rattle.asl_cons.specs.Arithmetic.{each_part, modulo_part}
use Rattle.asl_cons.specs.Operator.{onto}
use Rattle.asl_cons.proofs.PartCounts.{onto_nothing, one_length, limited_all}
use Rattle.asl_cons.proofs.arithmetic.by_moduli.Goals as goal

pub returns : goal.returns
returns c =
    let d : drop c.loop-q.q-index c.args.qs.now ≡ [] = drop_all c.loop-q.q-index c.args.qs.now c.loop-q-test.false in
    let e : each_part modulo_part c.args.qs.now ≡ Some c.loop-q.made.items =
    sym c.loop-q.invariant ∙ ap (λ us. onto c.loop-q.made.items (each_part modulo_part us)) d ∙ onto_nothing c.loop-q.made.items in
    limited_all (each_part modulo_part c.args.qs.now) c.loop-q.made.items e (omega (arith, one_length modulo_part c.args.qs.now c.loop-q.made.items e, c.requires))
