-- The tests that the checker takes: right ones, with the width limit of its bits.
use Rattle.std.specs.Prelude.{◌≡◌}
use Rattle.asl_bits.specs.declared.TheConstants.{WIDTH_LIMIT}
use Rattle.asl_rules.specs.Tests.{Tests, IsRight}

pub record Suits (t : Tests) : Type 0 where
  pub right : IsRight t
  pub limit : t.limit ≡ WIDTH_LIMIT
