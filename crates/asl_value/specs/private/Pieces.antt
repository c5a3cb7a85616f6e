-- The pieces that the text of a value is written in.
use Rattle.std.specs.Prelude.{Bool, true, false, List, [], ◌∷◌, ◌++◌, map, reverse, codes}
use Rattle.asl_rules.specs.report.Texts.{Text, value_text, digit}
use Rattle.asl_value.specs.View.{Of}

-- the comma behind an item, where there is more behind it
abbrev pub comma : Bool → Text
comma true = codes ", "
comma false = []

-- there is some text
abbrev pub is_some_text : Text → Bool
is_some_text [] = false
is_some_text (b ∷ bs) = true

-- a field, with the comma behind it where there is more
abbrev pub field_text : Of → Bool → Text
field_text x more = x.name ++ (codes "=" ++ (value_text x.value ++ comma more))

-- bits as digits, the highest first
abbrev pub digits : List Bool → Text
digits bs = map digit (reverse bs)
