-- A value that is converted to a written type, with the values of the expressions in the type.
use Rattle.std.proofs.Common.{◌≡◌, ℕ, List, Some, None, sym, ap, ◌∙◌}
use Rattle.std.specs.Prelude.{option_map}
use Rattle.asl_syn.specs.declared.token.Span.{Span}
use Rattle.asl_rules.specs.types.Shapes.{TypeShape}
use Rattle.asl_rules.specs.values.Values.{Value}
use Rattle.asl_rules.specs.types.Written.{converted, type_of_sized, of_kind_of}
use Rattle.asl_rules.specs.runs.Plans.{Stuck, UnknownType, Bad}
use Rattle.asl_rules.specs.runs.Pures.{◌>>=◌, found_type}
use Rattle.asl_shape.specs.private.Filled.{Filled, closed_of}
use Rattle.asl_shape.specs.private.Filling.{Taken, filling}
use Rattle.asl_shape.proofs.FilledBy.{type_is, filled_is}

pub converted_is : (limit : ℕ) (span : Span) (T : TypeShape) (zs : List Value) (x : Value) (t : Taken Filled) → Some t ≡ filling T zs → converted limit span (Some T) zs x ≡ of_kind_of span (closed_of t.made) x
converted_is limit span T zs x t h = ap (λ o. found_type span (type_of_sized o) >>= λ U. of_kind_of span U x) (filled_is limit span T zs ∙ ap (option_map (type_is limit span)) (sym h))

pub no_type : (limit : ℕ) (span : Span) (T : TypeShape) (zs : List Value) (x : Value) → None ≡ filling T zs → converted limit span (Some T) zs x ≡ Bad (Stuck UnknownType span)
no_type limit span T zs x h = ap (λ o. found_type span (type_of_sized o) >>= λ U. of_kind_of span U x) (filled_is limit span T zs ∙ ap (option_map (type_is limit span)) (sym h))
