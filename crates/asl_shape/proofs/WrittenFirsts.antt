-- What a variable of a written type begins with, with the values of its expressions.
use Rattle.std.proofs.Common.{◌≡◌, ℕ, List, Some, None, sym, ap, ◌∙◌}
use Rattle.std.specs.Prelude.{option_map}
use Rattle.asl_syn.specs.declared.token.Span.{Span}
use Rattle.asl_rules.specs.types.Shapes.{TypeShape}
use Rattle.asl_rules.specs.values.Values.{Value}
use Rattle.asl_rules.specs.runs.Plans.{Stuck, UnknownType, Bad}
use Rattle.asl_rules.specs.runs.Pures.{◌>>=◌, found_type}
use Rattle.asl_shape.specs.private.Filled.{Filled, first_filled}
use Rattle.asl_shape.specs.private.Filling.{Taken, filling}
use Rattle.asl_shape.specs.private.First.{first_written}
use Rattle.asl_shape.proofs.FilledBy.{type_is, filled_is}

pub first_is : (limit : ℕ) (span whole : Span) (T : TypeShape) (zs : List Value) (t : Taken Filled) → Some t ≡ filling T zs → first_written limit span whole T zs ≡ first_filled limit whole t.made
first_is limit span whole T zs t h = ap (λ o. found_type span o >>= λ s. s.first) (filled_is limit whole T zs ∙ ap (option_map (type_is limit whole)) (sym h))

pub no_first : (limit : ℕ) (span whole : Span) (T : TypeShape) (zs : List Value) → None ≡ filling T zs → first_written limit span whole T zs ≡ Bad (Stuck UnknownType span)
no_first limit span whole T zs h = ap (λ o. found_type span o >>= λ s. s.first) (filled_is limit whole T zs ∙ ap (option_map (type_is limit whole)) (sym h))
