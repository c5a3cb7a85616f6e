-- The written types with numbers that those of the code stand for.
use Rattle.std.specs.Prelude.{ℕ, zero, suc, List, [], ◌∷◌, map}
use Rattle.asl_rules.specs.types.Closed.{closed}
use Rattle.asl_rules.specs.values.Values.{Value}
use Rattle.asl_rules.specs.types.Views.{viewed}
use Rattle.asl_shape.specs.private.Filled as rules
use Rattle.asl_shape.specs.declared.filled.Filled.{Filled}
use Rattle.asl_shape.specs.declared.filled.Filled.TheOpen as f
use Rattle.asl_shape.specs.declared.filled.Filled.TheFolds.{fold-Filled}

abbrev pub fills_from : List rules.Filled → rules.Fills
fills_from [] = rules.no_fill
fills_from (t ∷ ts) = rules.fill_and t (fills_from ts)

abbrev pub filled_rule : f.Filled-F rules.Filled → rules.Filled
filled_rule (f.Integer ps) = rules.integer_of ps
filled_rule f.Boolean = rules.boolean
filled_rule (f.Bits span w u) = rules.bits_of span w u
filled_rule (f.Known T) = rules.known (closed T)
filled_rule (f.Tuple ts) = rules.tuple_of (fills_from ts)
filled_rule (f.Array n t) = rules.array_of n t

abbrev pub filled_of : Filled → rules.Filled
filled_of = fold-Filled rules.Filled filled_rule

abbrev pub all_fills : List Filled → rules.Fills
all_fills ts = fills_from (map filled_of ts)

-- a value as it goes through the type in its place, where there is one
abbrev pub part_viewed : ℕ → List Filled → Value → Value
part_viewed i [] x = x
part_viewed zero (t ∷ ts) x = viewed (rules.closed_of (filled_of t)) x
part_viewed (suc i) (t ∷ ts) x = part_viewed i ts x
