-- What values carry through places: the bitfields of bits, and which values a place without a written type takes.
use Rattle.std.specs.Prelude.{◌==◌, Bool, true, false, ◌&&◌, [], length}
use Rattle.asl_rules.specs.types.Types.{kind_eq}
use Rattle.asl_rules.specs.types.Closed as cl
use Rattle.asl_rules.specs.types.Closed.{Closed, ClosedParts}
use Rattle.asl_rules.specs.values.Values.{Value, Values, bits_with, tuple_with, array_with, no_value, value, kind_of}

-- a value as it goes through a type: its bits carry the bitfields that are written there; bits in fields keep theirs
abbrev mutual
  pub viewed : Closed → Value → Value
  viewed (cl.named name supers T) x = viewed T x
  viewed (cl.bits_of w u) (bits_with bs v) = bits_with bs u
  viewed (cl.tuple_of ts) (tuple_with xs) = tuple_with (parts_viewed ts xs)
  viewed (cl.array_of n k T) (array_with l xs) = array_with l (all_viewed T xs)
  viewed T x = x

  pub parts_viewed : ClosedParts → Values → Values
  parts_viewed (cl.part T ts) (value x xs) = value (viewed T x) (parts_viewed ts xs)
  parts_viewed ts xs = xs

  pub all_viewed : Closed → Values → Values
  all_viewed T no_value = no_value
  all_viewed T (value x xs) = value (viewed T x) (all_viewed T xs)

-- the widths of values of one kind are the same, part by part
abbrev mutual
  pub same_widths : Value → Value → Bool
  same_widths (bits_with bs u) (bits_with cs v) = length bs == length cs
  same_widths (tuple_with xs) (tuple_with ys) = all_same_widths xs ys
  same_widths (array_with k xs) (array_with l ys) = all_same_widths xs ys
  same_widths x y = true

  pub all_same_widths : Values → Values → Bool
  all_same_widths (value x xs) (value y ys) = same_widths x y && all_same_widths xs ys
  all_same_widths xs ys = true

-- a value of the kind and the widths of another
abbrev pub alike : Value → Value → Bool
alike x y = kind_eq (kind_of x) (kind_of y) && same_widths x y

-- a value that is stored over another: its bits carry the bitfields of that, part by part
abbrev mutual
  pub adopted : Value → Value → Value
  adopted (bits_with bs u) (bits_with cs v) = bits_with cs u
  adopted (tuple_with xs) (tuple_with ys) = tuple_with (all_adopted xs ys)
  adopted (array_with k xs) (array_with l ys) = array_with l (all_adopted xs ys)
  adopted x y = y

  pub all_adopted : Values → Values → Values
  all_adopted (value x xs) (value y ys) = value (adopted x y) (all_adopted xs ys)
  all_adopted xs ys = ys

-- and one of whose type it is known whether bits occur in it: where none do, nothing is looked at
abbrev pub adopting : Bool → Value → Value → Value
adopting true x y = adopted x y
adopting false x y = y

-- a value without bitfields; bits in fields keep theirs
abbrev mutual
  pub stripped : Value → Value
  stripped (bits_with bs v) = bits_with bs []
  stripped (tuple_with xs) = tuple_with (all_stripped xs)
  stripped (array_with k xs) = array_with k (all_stripped xs)
  stripped x = x

  pub all_stripped : Values → Values
  all_stripped no_value = no_value
  all_stripped (value x xs) = value (stripped x) (all_stripped xs)

-- and one of whose type it is known whether bits occur in it
abbrev pub stripping : Bool → Value → Value
stripping true x = stripped x
stripping false x = x
