use Rattle.std.proofs.Common.{ℕ, List, codes, decimal}
use Rattle.asl_rules.specs.report.Made.{function_line}
use Rattle.asl_gen.proofs.Pieces.{last, more, one}
use Rattle.asl_gen.proofs.push_function.Goals as goal

pub returns : goal.returns
unfolding function_line
returns c =
    let t : List ℕ = c.args.text.now.items in
    let p1 = one t _ (codes "pure func f") c.in_ok-extend_from_slice.ensures.items in
    let p2 = more t _ _ _ (decimal c.args.place) p1 c.in_ok-push_number.ensures in
    let p3 = more t _ _ _ (codes "{N}(x: bits(N)) => bits(N+") p2 c.in_ok-extend_from_slice-2.ensures.items in
    let p4 = more t _ _ _ (decimal c.args.wider) p3 c.in_ok-push_number-2.ensures in
    let p5 = more t _ _ _ (codes ") begin return x :: Ones{") p4 c.in_ok-extend_from_slice-3.ensures.items in
    let p6 = more t _ _ _ (decimal c.args.wider) p5 c.in_ok-push_number-3.ensures in
    last c.extend_from_slice-4.result t _ _ _ (codes "}(); end;\n") p6 c.extend_from_slice-4.ensures.items
