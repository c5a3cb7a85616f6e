use Rattle.std.proofs.Common.{◌+◌, ◌∙◌, sym, take}
use Rattle.asl_lex.proofs.Finding.{quoted_closed, quoted_open, quote_small}
use Rattle.asl_lex.proofs.lexeme.quoted_at.Goals as goal

pub returns-in-Closed : goal.returns-in-Closed
returns-in-Closed c =
    let end = rw c.after_first.ensures.after at c.quote_reach-reach.ensures.end in
    let len = rw c.after_first.ensures.after at c.quote_reach-reach.ensures.len in
    let found = quoted_closed c.args.state c.args.bytes.now (sym end ∙ c.in-Closed.is) in
    let small = quote_small c.args.state (take (1 + c.quote_reach-reach.result.0) c.args.bytes.now) in
    let kind = c.kind_of_quote.ensures in
    (rw (kind, len) found, rw kind small)

pub returns-in_default : goal.returns-in_default
returns-in_default c = quoted_open c.args.state c.args.bytes.now
    (λ e. let end = rw c.after_first.ensures.after at c.quote_reach-reach.ensures.end in c.in_default.not-Closed (end ∙ e))
