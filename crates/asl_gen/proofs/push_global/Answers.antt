use Rattle.std.proofs.Common.{ℕ, List, codes, decimal}
use Rattle.asl_rules.specs.report.Made.{global_line}
use Rattle.asl_gen.proofs.Pieces.{last, more, one}
use Rattle.asl_gen.proofs.push_global.Goals as goal

pub returns : goal.returns
unfolding global_line
returns c =
    let t : List ℕ = c.args.text.now.items in
    let p1 = one t _ (codes "var g") c.in_ok-extend_from_slice.ensures.items in
    let p2 = more t _ _ _ (decimal c.args.place) p1 c.in_ok-push_number.ensures in
    let p3 = more t _ _ _ (codes ": integer = ") p2 c.in_ok-extend_from_slice-2.ensures.items in
    let p4 = more t _ _ _ (decimal c.args.value) p3 c.in_ok-push_number-2.ensures in
    last c.extend_from_slice-3.result t _ _ _ (codes ";\n") p4 c.extend_from_slice-3.ensures.items
