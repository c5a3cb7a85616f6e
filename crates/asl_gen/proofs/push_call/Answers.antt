use Rattle.std.proofs.Common.{ℕ, List, codes, decimal}
use Rattle.asl_rules.specs.report.Made.{call_line}
use Rattle.asl_gen.proofs.Pieces.{last, more, one}
use Rattle.asl_gen.proofs.push_call.Goals as goal

pub returns : goal.returns
unfolding call_line
returns c =
    let t : List ℕ = c.args.text.now.items in
    let p1 = one t _ (codes "g") c.in_ok-extend_from_slice.ensures.items in
    let p2 = more t _ _ _ (decimal c.args.place) p1 c.in_ok-push_number.ensures in
    let p3 = more t _ _ _ (codes " = g") p2 c.in_ok-extend_from_slice-2.ensures.items in
    let p4 = more t _ _ _ (decimal c.args.place) p3 c.in_ok-push_number-2.ensures in
    let p5 = more t _ _ _ (codes " + UInt(f") p4 c.in_ok-extend_from_slice-3.ensures.items in
    let p6 = more t _ _ _ (decimal c.args.place) p5 c.in_ok-push_number-3.ensures in
    let p7 = more t _ _ _ (codes "{") p6 c.in_ok-extend_from_slice-4.ensures.items in
    let p8 = more t _ _ _ (decimal c.args.wider) p7 c.in_ok-push_number-4.ensures in
    let p9 = more t _ _ _ (codes "}(Zeros{") p8 c.in_ok-extend_from_slice-5.ensures.items in
    let p10 = more t _ _ _ (decimal c.args.wider) p9 c.in_ok-push_number-5.ensures in
    last c.extend_from_slice-6.result t _ _ _ (codes "}()));\n") p10 c.extend_from_slice-6.ensures.items
