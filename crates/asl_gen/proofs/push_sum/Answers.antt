use Rattle.std.proofs.Common.{ℕ, List, codes, decimal}
use Rattle.asl_rules.specs.report.Made.{sum_line}
use Rattle.asl_gen.proofs.Pieces.{last, more, one}
use Rattle.asl_gen.proofs.push_sum.Goals as goal

pub returns : goal.returns
unfolding sum_line
returns c =
    let t : List ℕ = c.args.text.now.items in
    let p1 = one t _ (codes "s = s + g") c.in_ok-extend_from_slice.ensures.items in
    let p2 = more t _ _ _ (decimal c.args.place) p1 c.in_ok-push_number.ensures in
    last c.extend_from_slice-2.result t _ _ _ (codes ";\n") p2 c.extend_from_slice-2.ensures.items
