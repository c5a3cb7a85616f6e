-- Parts of types by their names, as the rules see them, and bitfields behind others.
use Rattle.std.specs.Prelude.{◌≤◌, ◌^◌, List, [], ◌∷◌, ◌++◌, Result, Ok}
use Rattle.asl_syn.specs.declared.code.Fault.{Fault}
use Rattle.asl_syn.specs.declared.code.StaticCode.TheVariants.{T20}
use Rattle.asl_syn.specs.declared.tree.Ident.{Ident}
use Rattle.asl_rules.specs.Faults.{◌>>=◌, ◌>>◌, need}
use Rattle.asl_rules.specs.values.Members as rules
use Rattle.asl_rules.specs.types.Types.{BitField, bitfield_width}
use Rattle.asl_typing.specs.declared.members.Found.{Found}
use Rattle.asl_typing.specs.declared.members.Found.TheVariants as found

abbrev pub found_view : Found → rules.Member
found_view (found.Field place ty) = rules.a_field place ty
found_view (found.Bitfield f) = rules.a_bitfield f

-- a bitfield has no more places than the limit of widths
abbrev pub IsNarrow : rules.Member → Type 0
IsNarrow (rules.a_field n T) = Unit {0}
IsNarrow (rules.a_bitfield f) = bitfield_width f ≤ 2 ^ 62

-- a bitfield as a part: T20 at its name where it has more places than the limit of widths
abbrev pub bitfield_part : Ident → BitField → Result rules.Member Fault
bitfield_part i f = need (rules.has_room (rules.a_bitfield f)) T20 i.span >> Ok (rules.a_bitfield f)

-- the bitfields that come after these, where there are such
abbrev pub behind_bitfields : List BitField → Result (List BitField) Fault → Result (List BitField) Fault
behind_bitfields fs r = r >>= λ gs. Ok (fs ++ gs)
