use Rattle.asl_run.proofs.ActsAtOnce.{assigned_part}
use Rattle.asl_run.proofs.acts_at_once.assign_slice.Goals as goal

pub returns-then-put_part-clause-meets : goal.returns-then-put_part-clause-meets
returns-then-put_part-clause-meets c = λ fs holds at span.
    assigned_part fs _ c.in-Bits.part holds at span _ _ _ _ _ _ _ _ _ _ (c.in-Bits.ensures fs) (c.in-Some.ensures fs)
    c.if-put_part.ensures.puts c.put_part.ensures.same.text_open
