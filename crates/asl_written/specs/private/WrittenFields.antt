-- The bitfields of written types in order: what the code gathers of them, and the places that they have.
use Rattle.std.specs.Prelude.{ℕ, ℤ, Bool, List, [], ◌∷◌, ◌++◌, map, Option, Result, Ok}
use Rattle.asl_syn.specs.declared.token.Span.{Span}
use Rattle.asl_syn.specs.declared.code.Fault.{Fault}
use Rattle.asl_syn.specs.declared.code.StaticCode.TheVariants.{T15, T16, T19, T20}
use Rattle.asl_syn.specs.declared.tree.Bitfield.{Bitfield}
use Rattle.asl_syn.specs.declared.tree.Bitfield.TheFolds.{fold-Bitfield}
use Rattle.asl_poly.specs.Terms.{Polynomial}
use Rattle.asl_poly.specs.Poly.{constant_value}
use Rattle.asl_rules.specs.Faults.{◌>>=◌, ◌>>◌, need, found_or}
use Rattle.asl_rules.specs.Tests.{Tests}
use Rattle.asl_rules.specs.types.Types.{View, bits_of}
use Rattle.asl_rules.specs.types.Shapes as shape
use Rattle.asl_rules.specs.runs.Trees.{Tree}
use Rattle.asl_rules.specs.expressions.Typing.{Found}
use Rattle.asl_rules.specs.expressions.Slicing.{FoundSlice}
use Rattle.asl_rules.specs.expressions.Patterns.{FoundPattern}
use Rattle.asl_rules.specs.types.Writing.{FoundPart, FoundBitfield, FoundType, Written, WrittenField, WrittenEnd, Numbered, written_as, all_placed, names_once, within_limits, field_shapes, field_trees}
use Rattle.asl_rules.specs.expressions.Exprs.{FoundField, bitfield_rule, part_rule, expr_rule, given_rule, pattern_rule, slice_rule, type_rule}
use Rattle.asl_shape.specs.View.{bitfield_of, all_bitfields}
use Rattle.asl_tree.specs.View.{tree_of}
use Rattle.asl_written.specs.declared.written_fields.EndNumber.{EndNumber}
use Rattle.asl_written.specs.declared.written_fields.FieldEnds.{FieldEnds}
use Rattle.asl_written.specs.declared.written_fields.FieldNumbers.{FieldNumbers}
use Rattle.asl_written.specs.declared.written_fields.FieldWritten.{FieldWritten}
use Rattle.asl_written.specs.declared.written_fields.FieldsWritten.{FieldsWritten}

abbrev pub found_bitfield : Tests → Bitfield → FoundBitfield
found_bitfield t = fold-Bitfield FoundBitfield FoundPart Found FoundField FoundPattern FoundSlice FoundType bitfield_rule part_rule (expr_rule t) given_rule (pattern_rule t) slice_rule (type_rule t)

abbrev pub found_bitfields : Tests → List Bitfield → List FoundBitfield
found_bitfields t fs = map (found_bitfield t) fs

-- ---- one bitfield: its name and its ends as numbers, where they are some, its shape and its trees

pub record FieldSeen : Type 0 where
  pub ends : FieldEnds
  pub shape : shape.BitfieldShape
  pub trees : List Tree

abbrev pub end_seen : WrittenEnd → EndNumber
end_seen e = record { span = e.span; number = constant_value e.width }

abbrev pub ends_seen : WrittenField → FieldEnds
ends_seen f = record { name = f.name; high = end_seen f.high; low = end_seen f.low }

abbrev pub field_seen : WrittenField → FieldSeen
field_seen f = record { ends = ends_seen f; shape = f.shape; trees = f.trees }

abbrev pub field_view : FieldWritten → FieldSeen
field_view f = record { ends = f.ends; shape = bitfield_of f.shape; trees = map tree_of f.trees }

-- ---- several

pub record FieldsSeen : Type 0 where
  pub ends : List FieldEnds
  pub shapes : List shape.BitfieldShape
  pub trees : List Tree

abbrev pub fields_view : FieldsWritten → FieldsSeen
fields_view g = record { ends = g.ends; shapes = all_bitfields g.shapes; trees = map tree_of g.trees }

abbrev pub no_fields : FieldsSeen
no_fields = record { ends = []; shapes = []; trees = [] }

-- one more
abbrev pub with_field : FieldsSeen → FieldSeen → FieldsSeen
with_field g f = record { ends = g.ends ++ f.ends ∷ []; shapes = g.shapes ++ f.shape ∷ []; trees = g.trees ++ f.trees }

abbrev pub fields_seen : List WrittenField → FieldsSeen
fields_seen fs = record { ends = map ends_seen fs; shapes = field_shapes fs; trees = field_trees fs }

-- these behind those
abbrev pub with_fields : FieldsSeen → List WrittenField → FieldsSeen
with_fields g fs = record { ends = g.ends ++ map ends_seen fs; shapes = g.shapes ++ field_shapes fs; trees = g.trees ++ field_trees fs }

abbrev pub behind_fields : FieldsSeen → Result (List WrittenField) Fault → Result FieldsSeen Fault
behind_fields g r = r >>= λ fs. Ok (with_fields g fs)

-- ---- their places

abbrev pub numbered_as : FieldNumbers → Numbered
numbered_as f = record { name = f.name; high = f.high; low = f.low }

abbrev pub all_numbers : List FieldNumbers → List Numbered
all_numbers fs = map numbered_as fs

abbrev pub end_number : EndNumber → Result ℤ Fault
end_number e = found_or e.number T19 e.span

abbrev pub ends_numbered : FieldEnds → Result Numbered Fault
ends_numbered f = end_number f.high >>= λ h. end_number f.low >>= λ l. Ok (record { name = f.name; high = h; low = l })

abbrev pub numbered_from : List FieldEnds → Result (List Numbered) Fault
numbered_from [] = Ok []
numbered_from (f ∷ fs) = ends_numbered f >>= λ n. numbered_from fs >>= λ ns. Ok (n ∷ ns)

abbrev pub behind_numbers : List Numbered → Result (List Numbered) Fault → Result (List Numbered) Fault
behind_numbers ms r = r >>= λ ns. Ok (ms ++ ns)

abbrev pub behind_places : View → Result View Fault → Result View Fault
behind_places ms r = r >>= λ ns. Ok (ms ++ ns)

abbrev pub placed_all : Span → Option ℤ → List Numbered → Result View Fault
placed_all span w ns = found_or w T16 span >>= λ z. all_placed span z ns >>= λ view. need (names_once view []) T15 span >> Ok view

abbrev pub view_from : Span → Option ℤ → List FieldEnds → Result View Fault
view_from span w [] = Ok []
view_from span w (f ∷ fs) = numbered_from (f ∷ fs) >>= λ ns. placed_all span w ns

-- ---- bits of a width with bitfields that were gathered

abbrev pub bits_from : ℕ → Bool → Span → Polynomial → Tree → FieldsSeen → Result Written Fault
bits_from limit outside span w width g =
    view_from span (constant_value w) g.ends >>= λ view.
    need (within_limits limit outside w) T20 span >>
    Ok (written_as (bits_of w view) (shape.bits_of span g.shapes) (width ∷ g.trees))
