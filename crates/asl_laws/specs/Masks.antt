-- What the lines of `asl masks` say of words. A word is the digits of a bitvector, lowest first.
use Rattle.std.specs.Prelude.{◌≡◌, ℕ, ◌<◌, List, length, Bool, not, ◌&&◌}
use Rattle.std.specs.List.{All, list_any}
use Rattle.asl_bits.specs.Lists.{bits_value}
use Rattle.asl_mask.specs.Digits.{mask_matches}
use Rattle.asl_mask.specs.Covers.{Digits}
use Rattle.asl_rules.specs.report.MaskTables.{MaskCase, MaskTable}

-- the test says so of v, which has w digits, and the contrary of each word of w digits whose number is less
pub record LeastWord (w : ℕ) (test : List Bool → Bool) (said : Bool) (v : List Bool) : Type 0 where
  pub digits : length v ≡ w
  pub says : test v ≡ said
  pub before : (u : List Bool) → length u ≡ w → bits_value u < bits_value v → test u ≡ not said

-- it says so of each word of w digits
abbrev pub EachWord : ℕ → (List Bool → Bool) → Bool → Type 0
EachWord w test said = (u : List Bool) → length u ≡ w → test u ≡ said

-- two masks both match a word
abbrev pub both_match : Digits → Digits → List Bool → Bool
both_match m n u = mask_matches m u && mask_matches n u

-- one of the masks matches a word
abbrev pub one_matches : List Digits → List Bool → Bool
one_matches ms u = list_any (λ m. mask_matches m u) ms

-- all masks have w digits
abbrev pub AllWide : ℕ → List Digits → Type 0
AllWide w ms = All (λ m. length m ≡ w) ms

-- the `case` of a table
abbrev pub case_of_table : MaskTable → MaskCase
case_of_table x = record { span = x.span; masks = x.masks }
