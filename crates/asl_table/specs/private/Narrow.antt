-- Masks within the width limit, and those that are read of patterns one behind another.
use Rattle.std.specs.Prelude.{Bool, true, false, ◌&&◌, if◌then◌else◌, [], ◌∷◌, ◌++◌, length, nat_le, Option, Some, None, option_map}
use Rattle.asl_bits.specs.declared.TheConstants.{WIDTH_LIMIT}
use Rattle.asl_mask.specs.Covers.{Digits}
use Rattle.asl_rules.specs.report.MaskTables.{Masks}

abbrev pub fits : Digits → Bool
fits m = nat_le (length m) WIDTH_LIMIT

abbrev pub narrow : Digits → Option Digits
narrow m = if fits m then Some m else None

abbrev pub all_narrow : Masks → Bool
all_narrow [] = true
all_narrow ((n, m) ∷ ms) = fits m && all_narrow ms

-- none where one of them is past the width limit
abbrev pub narrowed : Option Masks → Option Masks
narrowed None = None
narrowed (Some ms) = if all_narrow ms then Some ms else None

-- these, where all were read
abbrev pub kept : Bool → Masks → Option Masks
kept false ms = None
kept true ms = Some ms

-- with these in front
abbrev pub behind : Masks → Option Masks → Option Masks
behind ms o = option_map (λ more. ms ++ more) o
