use Rattle.std.proofs.Common.{arith, ap, sym, ◌∙◌, Ok}
use Rattle.asl_rules.specs.Faults.{◌>>=◌}
use Rattle.asl_choices.specs.private.PatternViews.{patterns_of}
use Rattle.asl_blocks.specs.private.Views.{body_of}
use Rattle.asl_blocks.specs.private.Walks.{pattern_step, with_pattern}
use Rattle.asl_blocks.proofs.Chains.{after_one}
use Rattle.asl_choices.proofs.cases.check_patterns.Goals as goal

pub loop-pattern-preserved : goal.loop-pattern-preserved
loop-pattern-preserved c = λ t s.
    after_one (pattern_step t c.args.ty.now (body_of c.args.names.now c.args.body.now).scope) c.args.patterns.now c.loop-pattern.pattern-index c.pattern-item.result (patterns_of c.loop-pattern.so_far) (patterns_of c.push.new.self) _
    (omega (arith, c.loop-pattern-test.true)) c.pattern-item.is
    (ap (λ r. r >>= λ m. Ok (with_pattern (patterns_of c.loop-pattern.so_far) m)) (c.in_ok-matched.ensures t s) ∙ ap Ok (sym c.in_ok-push.ensures))
    (c.loop-pattern.invariant t s)
