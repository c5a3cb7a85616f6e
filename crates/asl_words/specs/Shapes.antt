-- The shapes that words have, and which entries a program has to be checked with for a word.
use Rattle.std.specs.Prelude.{◌≡◌, ◌<◌, ◌^◌, ◌⊎◌}
use Rattle.asl_rules.specs.declared.entry.Entry.{Entry}
use Rattle.asl_rules.specs.declared.entry.Entry.TheVariants.{Decode, Decode16, Both}
use Rattle.asl_rules.specs.report.WordList.{Word}

-- a word has 8 digits, or 4 and is below 65,536
abbrev pub HasShape : Word → Type 0
HasShape w = (w.digits ≡ 8) ⊎ ((w.digits ≡ 4) × (w.bits < 2 ^ 16))

-- and what was asked for names its entry
abbrev pub IsNamed : Entry → Word → Type 0
IsNamed asked w =
    ((w.digits ≡ 8) × ((asked ≡ Decode) ⊎ (asked ≡ Both))) ⊎ (((w.digits ≡ 4) × (w.bits < 2 ^ 16)) × ((asked ≡ Decode16) ⊎ (asked ≡ Both)))
