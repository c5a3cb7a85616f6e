use Rattle.std.proofs.Common.{◌≡◌, ◌<◌, ◌≤◌, ◌∷◌, [], ◌++◌, ◌∙◌, None, ap, arith, length, sym}
use Rattle.asl_accessors.specs.private.Holes.{filled}
use Rattle.asl_accessors.proofs.OthersInPlace.{filled_all, filled_more}
use Rattle.asl_accessors.proofs.holes.fill_up.Goals as goal

pub loop-others-preserved : goal.loop-others-preserved
loop-others-preserved c =
    let os = c.loop-others.others in
    let pushed : c.push.new.self ≡ os ++ None ∷ [] = c.in_ok-push.ensures.ok in
    let below : length os < c.args.count = omega (arith, c.len.ensures, c.loop-others-test.true) in
    ap (filled c.args.count) pushed ∙ filled_more os c.args.count below ∙ c.loop-others.invariant

pub returns : goal.returns
returns c =
    let all : c.args.count ≤ length c.loop-others.others = omega (arith, c.len.ensures, c.loop-others-test.false) in
    sym (filled_all c.loop-others.others c.args.count all) ∙ c.loop-others.invariant
