-- What the search finds within a budget.
use Rattle.std.specs.Prelude.{ℕ, ◌-◌, nat_le, List, Bool, Option, Some, None, if◌then◌else◌}
use Rattle.asl_table.specs.declared.search.Finding.{Finding}
use Rattle.asl_table.specs.declared.search.Finding.TheVariants.{Budget, Total, Free}
use Rattle.asl_mask.specs.Covers.{Digits, splits, least_free}

-- with so many splits left behind
abbrev pub found : ℕ → Option (List Bool) → Finding
found n None = Total n
found n (Some v) = Free v

abbrev pub result_of : ℕ → ℕ → Option (List Bool) → Finding
result_of n left o = if nat_le n left then found (left - n) o else Budget

abbrev pub search_of : ℕ → ℕ → List Digits → Finding
search_of w left ms = result_of (splits w ms) left (least_free w ms)
