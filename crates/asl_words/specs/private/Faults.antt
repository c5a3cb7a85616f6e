-- What a fault of the reading says of what the rules give.
use Rattle.std.specs.Prelude.{◌≡◌, ⊤, Result, Err}
use Rattle.asl_syn.specs.declared.code.StaticCode.TheVariants.{N01, N02, N03}
use Rattle.asl_rules.specs.report.WordList.{ListFault}
use Rattle.asl_words.specs.declared.WordFault.{WordFault}
use Rattle.asl_words.specs.declared.WordFault.TheVariants.{Length, Digit, TooMany, NoMemory}

-- they give this fault; or there was no memory, which says nothing
abbrev pub Says : {T : Type 0} → WordFault → Result T ListFault → Type 0
Says (Length line) r = r ≡ Err (record { code = N01; line = line })
Says (Digit line) r = r ≡ Err (record { code = N02; line = line })
Says (TooMany line) r = r ≡ Err (record { code = N03; line = line })
Says NoMemory r = ⊤
