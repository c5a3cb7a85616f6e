-- Written types with numbers in place of their expressions: what type each is, and what a variable of it begins with.
use Rattle.std.specs.Prelude.{ℕ, ℤ, pos, false, List}
use Rattle.asl_syn.specs.declared.token.Span.{Span}
use Rattle.asl_cons.specs.declared.Part.{Part}
use Rattle.asl_rules.specs.types.Closed as cl
use Rattle.asl_rules.specs.types.Closed.{Closed, ClosedParts, constraint_at, first_in, kind_at, closed}
use Rattle.asl_rules.specs.types.Types.{View}
use Rattle.asl_rules.specs.runs.Plans.{Pure, Good}
use Rattle.asl_rules.specs.runs.Pures.{◌>>=◌}
use Rattle.asl_rules.specs.values.Values.{Value, Values, bool, tuple_with, no_value, value}
use Rattle.asl_rules.specs.types.Written.{Sized, SizedParts, first_integer, first_bits, first_elements, first_value}

-- bits have the place of their faults
mutual
  pub data Filled : Type 0 where
    integer_of : List Part → Filled
    boolean : Filled
    bits_of : Span → ℤ → View → Filled
    known : Closed → Filled
    tuple_of : Fills → Filled
    array_of : ℕ → Filled → Filled

  pub data Fills : Type 0 where
    no_fill : Fills
    fill_and : Filled → Fills → Fills

-- what type it is
abbrev mutual
  pub closed_of : Filled → Closed
  closed_of (integer_of ps) = cl.integer_in (constraint_at ps (λ n. pos 0))
  closed_of boolean = cl.boolean
  closed_of (bits_of span w u) = cl.bits_of w u
  closed_of (known T) = T
  closed_of (tuple_of ts) = cl.tuple_of (closed_parts ts)
  closed_of (array_of n t) = cl.array_of n (kind_at (closed_of t)) (closed_of t)

  pub closed_parts : Fills → ClosedParts
  closed_parts no_fill = cl.no_part
  closed_parts (fill_and t ts) = cl.part (closed_of t) (closed_parts ts)

-- what a variable of it begins with
abbrev mutual
  pub first_filled : ℕ → Span → Filled → Pure Value
  first_filled limit whole (integer_of ps) = first_integer whole (first_in (constraint_at ps (λ n. pos 0)))
  first_filled limit whole boolean = Good (bool false)
  first_filled limit whole (bits_of span w u) = first_bits limit span w u
  first_filled limit whole (known T) = first_value limit whole T
  first_filled limit whole (tuple_of ts) = first_fills limit whole ts >>= λ xs. Good (tuple_with xs)
  first_filled limit whole (array_of n t) = first_elements n (kind_at (closed_of t)) (first_filled limit whole t)

  pub first_fills : ℕ → Span → Fills → Pure Values
  first_fills limit whole no_fill = Good no_value
  first_fills limit whole (fill_and t ts) = first_filled limit whole t >>= λ x. first_fills limit whole ts >>= λ xs. Good (value x xs)

-- with the values that are left
abbrev pub sized_as : ℕ → Span → Filled → List Value → Sized
sized_as limit whole t zs = record { type_is = closed_of t; first = first_filled limit whole t; left = zs }

abbrev pub sized_parts : ℕ → Span → Fills → List Value → SizedParts
sized_parts limit whole ts zs = record { parts = closed_parts ts; first = first_fills limit whole ts; left = zs }
