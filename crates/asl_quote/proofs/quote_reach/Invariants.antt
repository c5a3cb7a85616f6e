use Rattle.std.proofs.Common.{◌≡◌, ◌+◌, ◌≤◌, length}
use Rattle.asl_quote.specs.Quotes.{quote_len, quote_end}
use Rattle.asl_quote.proofs.quote_reach.Given as goal

abbrev pub invariant-loop-rest : goal.invariant-loop-rest
invariant-loop-rest l = record {
  fits : length l.rest ≤ length l.bytes;
  len : length l.bytes + quote_len l.state l.rest ≡ length l.rest + quote_len l.fn.start l.bytes;
  end : quote_end l.state l.rest ≡ quote_end l.fn.start l.bytes;
}

abbrev pub decreases-loop-rest : goal.decreases-loop-rest
decreases-loop-rest l = length l.rest
