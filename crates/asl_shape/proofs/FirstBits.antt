-- First values of bits and arrays.
use Rattle.std.proofs.Common.{◌≡◌, ◌≢◌, ℕ, zero, suc, Bool, true, false, cond, List, replicate, Some, None, refl, ap, ◌∙◌, arith}
use Rattle.std.specs.Prelude.{ℤ, pos, negsuc, nat_le}
use Rattle.asl_syn.specs.declared.token.Span.{Span}
use Rattle.asl_syn.specs.declared.code.DynCode.TheVariants.{D14}
use Rattle.asl_rules.specs.types.Types.{View, Kind}
use Rattle.asl_rules.specs.values.Values.{Value, bits_with, array_with, no_value, repeated}
use Rattle.asl_rules.specs.types.Written.{first_bits, first_elements}
use Rattle.asl_rules.specs.runs.Plans.{Faulted, Pure, Good, Bad}
use Rattle.asl_rules.specs.runs.Pures.{◌>>=◌}
use Rattle.asl_shape.specs.private.Bits.{copied}

pub first_bits_are : (limit : ℕ) (span : Span) (w : ℤ) (u : View) (bs : List Bool) → Some bs ≡ copied limit false w → first_bits limit span w u ≡ Good (bits_with bs u)
first_bits_are limit span (pos n) u bs h = by (nat_le n limit) refl
  where
    by : (t : Bool) → nat_le n limit ≡ t → first_bits limit span (pos n) u ≡ Good (bits_with bs u)
    by true e = let f : Some bs ≡ Some (replicate n false) = h ∙ ap (λ t. cond t (Some (replicate n false)) None) e in let g : replicate n false ≡ bs = cc in rw e (ap (λ l. Good (bits_with l u)) g)
    by false e = let f : Some bs ≡ None = h ∙ ap (λ t. cond t (Some (replicate n false)) None) e in cc
first_bits_are limit span (negsuc n) u bs h = cc

pub no_first_bits : (limit : ℕ) (span : Span) (w : ℤ) (u : View) → None ≡ copied limit false w → first_bits limit span w u ≡ Bad (Faulted D14 span)
no_first_bits limit span (pos n) u h = by (nat_le n limit) refl
  where
    by : (t : Bool) → nat_le n limit ≡ t → first_bits limit span (pos n) u ≡ Bad (Faulted D14 span)
    by true e = let f : None ≡ Some (replicate n false) = h ∙ ap (λ t. cond t (Some (replicate n false)) None) e in cc
    by false e = rw e refl
no_first_bits limit span (negsuc n) u h = refl

pub no_elements : (n : ℕ) (k : Kind) (r : Pure Value) → n ≡ 0 → first_elements n k r ≡ Good (array_with k no_value)
no_elements zero k r h = refl
no_elements (suc n) k r h = absurd (omega (arith, h))

pub some_elements : (n : ℕ) (k : Kind) (r : Pure Value) → n ≢ 0 → first_elements n k r ≡ (r >>= λ x. Good (array_with k (repeated n x)))
some_elements zero k r h = absurd (h refl)
some_elements (suc n) k r h = refl
