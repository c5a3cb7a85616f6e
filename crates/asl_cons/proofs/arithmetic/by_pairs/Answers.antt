use Rattle.std.proofs.Common.{◌≡◌, ◌∙◌, [], sym, ap, drop, arith}
use Rattle.std.specs.Prelude.{Some}
use Rattle.std.proofs.lemmas.List.{drop_all}
use Rattle.asl_cons.specs.Arithmetic.{all_pairs}
use Rattle.asl_cons.specs.Operator.{part_by, onto}
use Rattle.asl_cons.proofs.PartCounts.{onto_nothing, pairs_length, limited_all, limited_many}
use Rattle.asl_cons.proofs.arithmetic.by_pairs.Goals as goal

pub returns : goal.returns
returns c =
    let d : drop c.loop-p.p-index c.args.ps.now ≡ [] = drop_all c.loop-p.p-index c.args.ps.now c.loop-p-test.false in
    let e : all_pairs (part_by c.args.op) c.args.ps.now c.args.qs.now ≡ Some c.loop-p.made.items =
    sym c.loop-p.invariant ∙ ap (λ us. onto c.loop-p.made.items (all_pairs (part_by c.args.op) us c.args.qs.now)) d ∙ onto_nothing c.loop-p.made.items in
    limited_all (all_pairs (part_by c.args.op) c.args.ps.now c.args.qs.now) c.loop-p.made.items e (omega (arith, pairs_length (part_by c.args.op) c.args.ps.now c.args.qs.now c.loop-p.made.items e, c.if-ps-qs-gt-MOST_PARTS.false))

pub returns-then-ps-qs-gt-MOST_PARTS : goal.returns-then-ps-qs-gt-MOST_PARTS
returns-then-ps-qs-gt-MOST_PARTS c =
    c.new-made.ensures.items ∙ limited_many (all_pairs (part_by c.args.op) c.args.ps.now c.args.qs.now) (λ us e. omega (arith, pairs_length (part_by c.args.op) c.args.ps.now c.args.qs.now us e, c.if-ps-qs-gt-MOST_PARTS.true))
