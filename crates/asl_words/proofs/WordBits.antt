-- The bits of a word.
use Rattle.std.proofs.Common.{◌≡◌, ℕ, ℤ, pos, Bool, List, [], ap, ◌∙◌}
use Rattle.asl_bits.specs.Lists.{int_bits}
use Rattle.asl_bits.proofs.Lists.{low_bits}
use Rattle.asl_rules.specs.values.Values.{bits_with}
use Rattle.asl_rules.specs.report.WordList.{Word}
use Rattle.asl_rules.specs.runs.Words as rules
use Rattle.asl_rules.specs.runs.Words.{word_width}
use Rattle.asl_value.specs.View.{value_of}
use Rattle.asl_value.specs.declared.value.Value.{Value}

pub value_made : (x : Value) (w : Word) (width : ℕ) (z : ℤ) (bs : List Bool) → width ≡ word_width w → z ≡ pos w.bits →
    bs ≡ int_bits width z → value_of x ≡ bits_with bs [] → value_of x ≡ rules.word_value w
value_made x w width z bs wide is made view =
    view ∙ ap (λ cs. bits_with cs [])
    (made ∙ ap (λ n. int_bits n z) wide ∙ ap (int_bits (word_width w)) is ∙ low_bits (word_width w) w.bits)
