-- One slice of bits and of an integer, and what is asked of the library, at once.
use Rattle.std.proofs.Common.{◌≡◌, ℕ, ◌+◌, ◌^◌, ◌≤◌, ◌==◌, Bool, true, false, cond, List, [], ◌∷◌, length, Option, Some, None, Result, Ok, refl, sym, ap, ◌∙◌, arith}
use Rattle.std.proofs.lemmas.Bool.{le-leb}
use Rattle.std.proofs.lemmas.Bool.Decides.{nat_tests}
use Rattle.std.specs.Prelude.{ℤ, pos, ◌+ℤ◌, ◌-ℤ◌, ◌*ℤ◌, nat_le, replicate}
use Rattle.asl_bits.specs.Answers.{IsInt, OfWidth}
use Rattle.asl_bits.specs.Lists.{int_bits, slice_of, with_slice}
use Rattle.asl_bits.specs.declared.BitsRefused.{BitsRefused}
use Rattle.asl_bits.specs.declared.TheConstants.{WIDTH_LIMIT}
use Rattle.asl_num.specs.Exact.{floor_div}
use Rattle.asl_shape.specs.private.Bits.{kept, number_of}
use Rattle.asl_shape.proofs.LibraryBits.{copied_is, copies_are, number_is}
use Rattle.asl_syn.specs.declared.token.Span.{Span}
use Rattle.asl_syn.specs.declared.tree.BinaryOperator.{BinaryOperator}
use Rattle.asl_syn.specs.declared.tree.BinaryOperator.TheVariants as binary
use Rattle.asl_rules.specs.runs.Plans.{Stuck, WrongKind, Good, Bad}
use Rattle.asl_rules.specs.types.Shapes as shapes
use Rattle.asl_rules.specs.types.Shapes.{SliceShape}
use Rattle.asl_rules.specs.types.Types.{View}
use Rattle.asl_rules.specs.types.Views.{adopting}
use Rattle.asl_rules.specs.values.Library.{copies}
use Rattle.asl_rules.specs.values.Operators.{in_range, integer_of, of_bits, of_one_width, plain_bits}
use Rattle.asl_rules.specs.values.Values.{Value, bits_with, int}
use Rattle.asl_rules.specs.values.Vectors.{ends_within, fill, slicings, slices_of, tested, with_places}
use Rattle.asl_run.specs.declared.bits.Cut.{Cut}
use Rattle.asl_run.specs.private.AtOnce.{Cuts, Gives}

-- ---- operators

-- each but `::` wants bits of one width
pub of_widths_is : (span : Span) (o : BinaryOperator) (a b : List Bool) (x : Option Value) → (o ≡ binary.Concatenate → ⊥) →
    Gives x (cond (length a == length b) (of_one_width span o a b) (Bad (Stuck WrongKind span))) →
    Gives x (of_bits WIDTH_LIMIT span o a b)
of_widths_is span binary.Concatenate a b x other h = absurd (other refl)
of_widths_is span o a b x other h = h

-- ---- the places of a slice

pub bit_cut : (i : ℤ) (cut : Cut) → pos cut.low ≡ i → cut.width ≡ 1 → Cuts shapes.at_bit (int i ∷ []) cut
bit_cut i cut low width = record { read = rw (low, width); within = omega (arith, width) }

pub ends_cut : (high low : ℤ) (cut : Cut) → pos cut.low ≡ low → pos cut.width ≡ high -ℤ low +ℤ pos 1 → cut.width ≤ WIDTH_LIMIT →
    Cuts shapes.high_low (int high ∷ int low ∷ []) cut
ends_cut high low cut l w within = record { read = rw (l, w); within = within }

pub low_cut : (low width : ℤ) (cut : Cut) → pos cut.low ≡ low → pos cut.width ≡ width → cut.width ≤ WIDTH_LIMIT →
    Cuts shapes.low_width (int low ∷ int width ∷ []) cut
low_cut low width cut l w within = record { read = rw (l, w); within = within }

pub factor_cut : (factor width : ℤ) (cut : Cut) → pos cut.low ≡ factor *ℤ width → pos cut.width ≡ width → cut.width ≤ WIDTH_LIMIT →
    Cuts shapes.factor_width (int factor ∷ int width ∷ []) cut
factor_cut factor width cut l w within = record { read = rw (l, w); within = within }

-- ---- what is read there

-- one slice whose width is within the limit, and which lies within its value, has its places
one_place : (span : Span) (top : Option ℕ) (l w : ℕ) → w ≤ WIDTH_LIMIT → ends_within top (l + w) ≡ true →
    tested WIDTH_LIMIT span top (Some (record { low = pos l; width = pos w } ∷ [])) ≡ Good (record { low = l; width = w } ∷ [])
one_place span top l w h inside =
    let is_integer : in_range (pos w) ≡ true = grind (arith, nat_tests) in
    let whole : nat_le (w + 0) WIDTH_LIMIT ≡ true = grind (arith, nat_tests) in
    rw (is_integer, le-leb w WIDTH_LIMIT h, inside, whole)

pub places_found : (span : Span) (shape : SliceShape) (given : List Value) (cut : Cut) (bits : List Bool) →
    Cuts shape given cut → cut.low + cut.width ≤ length bits →
    tested WIDTH_LIMIT span (Some (length bits)) (slicings (shape ∷ []) given) ≡ Good (record { low = cut.low; width = cut.width } ∷ [])
places_found span shape given cut bits c inside =
    rw c.read (one_place span (Some (length bits)) cut.low cut.width c.within (le-leb (cut.low + cut.width) (length bits) inside))

pub bits_cut : (span : Span) (shape : SliceShape) (given : List Value) (cut : Cut) (bits part : List Bool) →
    Cuts shape given cut → cut.low + cut.width ≤ length bits → part ≡ slice_of bits cut.low cut.width →
    slices_of WIDTH_LIMIT span (shape ∷ []) given (plain_bits bits) ≡ Good (plain_bits part)
bits_cut span shape given cut bits part c inside is = rw (places_found span shape given cut bits c inside, is)

pub integer_cut : (span : Span) (shape : SliceShape) (given : List Value) (cut : Cut) (z : ℤ) (part : List Bool) →
    Cuts shape given cut → part ≡ int_bits cut.width (floor_div z (2 ^ cut.low)) →
    slices_of WIDTH_LIMIT span (shape ∷ []) given (int z) ≡ Good (plain_bits part)
integer_cut span shape given cut z part c is = rw (c.read, one_place span None cut.low cut.width c.within refl, is)

-- ---- what is written there

pub adopts_nothing : (holds : Bool) (old part : List Bool) → adopting holds (plain_bits old) (plain_bits part) ≡ plain_bits part
adopts_nothing true old part = refl
adopts_nothing false old part = refl

pub one_filled : (span : Span) (cut : Cut) (part bits : List Bool) (view : View) →
    length part ≡ cut.width → cut.low + cut.width ≤ length bits →
    with_places span (record { low = cut.low; width = cut.width } ∷ []) (plain_bits part) (bits_with bits view) ≡
    Good (bits_with (with_slice bits cut.low part) view)
one_filled span cut part bits view fills inside =
    let filled : fill (length part) (record { low = cut.low; width = cut.width } ∷ []) (length bits) ≡ true = grind (arith, nat_tests) in
    rw filled

-- ---- the library

pub number_found : (span : Span) (r : Result ℤ BitsRefused) (z w : ℤ) → r ≡ Ok w → IsInt r z → integer_of span z ≡ Good (int w)
number_found span r z w is h = sym (number_is span r z h) ∙ ap (λ q. number_of span q) is

pub copies_found : (span : Span) (r : Result (List Bool) BitsRefused) (w : ℤ) (b : Bool) (bits : List Bool) → r ≡ Ok bits →
    OfWidth r w (λ n. r ≡ Ok (replicate n b)) → copies WIDTH_LIMIT span b w ≡ Good (plain_bits bits)
copies_found span r w b bits is h = copies_are WIDTH_LIMIT span b w bits (sym (ap kept is) ∙ copied_is r w b h)
