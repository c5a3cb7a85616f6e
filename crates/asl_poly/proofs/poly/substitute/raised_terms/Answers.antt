use Rattle.std.proofs.Common.{◌≤◌, arith, unsigned_abs}
use Rattle.asl_poly.specs.Limits.{weight}
use Rattle.asl_poly.specs.Substitute.{raised_term, raised_terms}
use Rattle.asl_poly.proofs.TermPlaces.{weight_at}
use Rattle.asl_poly.proofs.Substitution.{length_at}
use Rattle.asl_poly.proofs.PushLoops.{pushed, all_pushed, raised_each}
use Rattle.asl_poly.proofs.poly.substitute.raised_terms.Goals as goal

pub raised_term-requires-clause-short : goal.raised_term-requires-clause-short
raised_term-requires-clause-short c =
    omega (arith, length_at c.args.ts.now c.loop-t.t-index c.t-item.result (omega arith) c.t-item.is, c.requires.low)

pub raised_term-requires-clause-light : goal.raised_term-requires-clause-light
raised_term-requires-clause-light c =
    let w : unsigned_abs c.t-item.result.coefficient ≤ weight c.args.ts.now =
    rw (← c.t-item.is) at (weight_at c.args.ts.now c.loop-t.t-index c.t-item.result (omega arith)) in
    omega (arith, w, c.requires.light)

pub loop-t-preserved : goal.loop-t-preserved
loop-t-preserved c =
    pushed (raised_terms c.args.by.now c.args.n) (raised_term c.args.by.now c.args.n)
    (raised_each c.args.by.now c.args.n) c.args.ts.now c.loop-t.terms.items c.push.new.self.items c.t-item.result c.in_ok-u.u
    c.loop-t.t-index (raised_terms c.args.by.now c.args.n c.args.ts.now)
    (omega arith) c.t-item.is c.in_ok-u.ensures c.in_ok-push.ensures.items c.loop-t.invariant

pub returns : goal.returns
returns c =
    all_pushed (raised_terms c.args.by.now c.args.n) (raised_term c.args.by.now c.args.n)
    (raised_each c.args.by.now c.args.n) c.args.ts.now c.loop-t.terms.items c.loop-t.t-index
    (raised_terms c.args.by.now c.args.n c.args.ts.now) (omega arith) c.loop-t.invariant
