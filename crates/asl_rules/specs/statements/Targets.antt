-- Assignments: the places that are written, each with the way into its value.
use Rattle.std.specs.Prelude.{ℕ, zero, suc, ◌-◌, Bool, true, false, ◌&&◌, List, [], ◌∷◌, ◌++◌, map, Option, Some, None, Result, Ok}
use Rattle.asl_syn.specs.declared.token.Span.{Span}
use Rattle.asl_syn.specs.declared.code.Fault.{Fault}
use Rattle.asl_syn.specs.declared.code.StaticCode.TheVariants.{T02, T05, T08, T14}
use Rattle.asl_syn.specs.declared.tree.Expr.{Expr}
use Rattle.asl_syn.specs.declared.tree.Slice.{Slice}
use Rattle.asl_syn.specs.declared.tree.Ident.{Ident}
use Rattle.asl_syn.specs.declared.tree.PlacedSuffix.{PlacedSuffix}
use Rattle.asl_syn.specs.declared.tree.Suffix.{Suffix}
use Rattle.asl_syn.specs.declared.tree.Suffix.TheVariants.{FieldOf, FieldsOf, SlicesOf, ElementOf}
use Rattle.asl_syn.specs.declared.tree.Target.{Target, fold-Target}
use Rattle.asl_syn.specs.declared.tree.Target.TheOpen as tg
use Rattle.asl_rules.specs.declared.effect.Effect.{Effect}
use Rattle.asl_rules.specs.declared.effect.Effect.TheVariants.{Pure}
use Rattle.asl_rules.specs.Faults.{◌>>=◌, ◌>>◌, need, found_or, fitted}
use Rattle.asl_rules.specs.Tests.{Tests}
use Rattle.asl_rules.specs.types.Types.{Ty, Parts, bits_of, no_part, part, is_bits, tuple_parts, bits_wide, misfit}
use Rattle.asl_rules.specs.runs.Trees as tree
use Rattle.asl_rules.specs.runs.Trees.{TreeStep, TreePlace, into_bitfields, into_slices, into_element}
use Rattle.asl_rules.specs.types.Effects.{greater, all_together, greatest}
use Rattle.asl_rules.specs.declarations.Scopes.{Scope, Entry, Storage, storage_of, writing}
use Rattle.asl_rules.specs.declarations.Layouts.{slot_of, layout_of}
use Rattle.asl_rules.specs.expressions.Typing.{Typed, Operand, effects_of, trees_of}
use Rattle.asl_rules.specs.values.Members.{member_named, member_type, member_step, bitfields_named, all_wide, indexed}
use Rattle.asl_rules.specs.expressions.Slicing.{FoundSlice, all_operands, all_integers, sliced_width, shapes_of}
use Rattle.asl_rules.specs.expressions.Exprs.{found_slice, typed}
use Rattle.asl_rules.specs.statements.Acting.{Done, ended, operand_of}

-- ---- suffixes

-- a suffix whose expressions are typed, with the span of the target up to it
pub data TypedSuffix : Type 0 where
  by_field : Span → Ident → TypedSuffix
  by_bitfields : Span → List Ident → TypedSuffix
  by_slices : Span → List FoundSlice → List Operand → TypedSuffix
  by_element : Span → Typed → TypedSuffix

-- the span of a target up to this place
abbrev pub up_to : Ident → ℕ → Span
up_to i end = record { file = i.span.file; start = i.span.start; len = end - i.span.start }

abbrev pub found_slices : Tests → List Slice → List FoundSlice
found_slices t ss = map (found_slice t) ss

abbrev pub typed_suffix : Tests → Span → Suffix → Scope → Result TypedSuffix Fault
typed_suffix t at (FieldOf f) G = Ok (by_field at f)
typed_suffix t at (FieldsOf fs) G = Ok (by_bitfields at fs)
typed_suffix t at (SlicesOf ss) G = all_operands (found_slices t ss) G >>= λ os. Ok (by_slices at (found_slices t ss) os)
typed_suffix t at (ElementOf e) G = typed t e G >>= λ I. Ok (by_element at I)

abbrev pub typed_suffixes : Tests → Ident → List PlacedSuffix → Scope → Result (List TypedSuffix) Fault
typed_suffixes t i [] G = Ok []
typed_suffixes t i (x ∷ xs) G = typed_suffix t (up_to i x.end) x.suffix G >>= λ y. typed_suffixes t i xs G >>= λ ys. Ok (y ∷ ys)

abbrev pub suffix_effects : TypedSuffix → List Effect
suffix_effects (by_field at f) = []
suffix_effects (by_bitfields at fs) = []
suffix_effects (by_slices at ss os) = effects_of os
suffix_effects (by_element at I) = I.effect ∷ []

abbrev pub all_suffix_effects : List TypedSuffix → List Effect
all_suffix_effects [] = []
all_suffix_effects (x ∷ xs) = suffix_effects x ++ all_suffix_effects xs

-- what lies behind a suffix: its type, and the step to it
pub record Behind : Type 0 where
  pub ty : Ty
  pub step : TreeStep

abbrev pub behind : Ty → TreeStep → Behind
behind T s = record { ty = T; step = s }

-- faults stand at the target up to the suffix, or at the name of a field
abbrev pub behind_suffix : TypedSuffix → Ty → Scope → Result Behind Fault
behind_suffix (by_field at f) T G = member_named f T >>= λ m. Ok (behind (member_type m) (member_step at m))
behind_suffix (by_bitfields at fs) T G = bitfields_named at fs T >>= λ bs. Ok (behind (bits_wide (all_wide bs)) (into_bitfields at bs))
behind_suffix (by_slices at ss os) T G =
    need (is_bits T && all_integers os) T08 at >>
    sliced_width at ss G >>= λ w. Ok (behind (bits_of w []) (into_slices at (shapes_of ss) (trees_of os)))
behind_suffix (by_element at I) T G = indexed at T I.ty >>= λ U. Ok (behind U (into_element at I.tree))

-- what lies behind all
pub record Reached : Type 0 where
  pub ty : Ty
  pub steps : List TreeStep

abbrev pub reached : Ty → List TreeStep → Reached
reached T ss = record { ty = T; steps = ss }

abbrev pub behind_suffixes : List TypedSuffix → Ty → Scope → Result Reached Fault
behind_suffixes [] T G = Ok (reached T [])
behind_suffixes (x ∷ xs) T G = behind_suffix x T G >>= λ b. behind_suffixes xs b.ty G >>= λ r. Ok (reached r.ty (b.step ∷ r.steps))

-- ---- targets

-- a place whose operands are typed, with the way to the part of the value that it takes
pub record TypedPlace : Type 0 where
  pub way : List ℕ
  pub name : Ident
  pub suffixes : List TypedSuffix

-- what is found at a target: its places from left to right, and whether a type has as many parts
pub record FoundTarget : Type 0 where
  pub places : Scope → Result (List TypedPlace) Fault
  pub counts : Ty → Bool

-- the places inside a part of this number
abbrev pub inside : ℕ → List TypedPlace → List TypedPlace
inside n [] = []
inside n (p ∷ ps) = record p { way = n ∷ p.way } ∷ inside n ps

abbrev pub all_places : ℕ → List FoundTarget → Scope → Result (List TypedPlace) Fault
all_places n [] G = Ok []
all_places n (t ∷ ts) G = t.places G >>= λ ps. all_places (suc n) ts G >>= λ qs. Ok (inside n ps ++ qs)

abbrev pub parts_count : List FoundTarget → Parts → Bool
parts_count [] no_part = true
parts_count [] (part S Ss) = false
parts_count (t ∷ ts) no_part = false
parts_count (t ∷ ts) (part S Ss) = t.counts S && parts_count ts Ss

abbrev pub all_count : List FoundTarget → Option Parts → Bool
all_count ts None = false
all_count ts (Some Ss) = parts_count ts Ss

abbrev pub one_place : Tests → Ident → List PlacedSuffix → Scope → Result (List TypedPlace) Fault
one_place t i xs G = typed_suffixes t i xs G >>= λ ys. Ok (record { way = []; name = i; suffixes = ys } ∷ [])

abbrev pub target_layer : Tests → tg.Target-F FoundTarget → FoundTarget
target_layer t (tg.Discarded at) = record { places = λ G. Ok []; counts = λ S. true }
target_layer t (tg.Place at i xs) = record { places = one_place t i xs; counts = λ S. true }
target_layer t (tg.Targets at ts) = record { places = all_places 0 ts; counts = λ S. all_count ts (tuple_parts S) }

abbrev pub found_target : Tests → Target → FoundTarget
found_target t = fold-Target FoundTarget (target_layer t)

abbrev pub place_effects : List TypedPlace → List Effect
place_effects [] = []
place_effects (p ∷ ps) = all_suffix_effects p.suffixes ++ place_effects ps

-- ---- places

-- a place with the type of what it holds, and the effect of a store there
pub record Placed : Type 0 where
  pub ty : Ty
  pub effect : Effect
  pub place : TreePlace

-- storage that can be assigned
abbrev pub assignable : Ident → Scope → Result Storage Fault
assignable i G = found_or (storage_of i.text G.names) T02 i.span >>= λ s. need s.is_mutable T14 i.span >> Ok s

abbrev pub placed_at : TypedPlace → Storage → Reached → List Entry → Placed
placed_at p s r names = record {
  ty = r.ty;
  effect = writing s;
  place = record { span = p.name.span; way = p.way; slot = slot_of p.name.text (layout_of names); steps = r.steps };
}

abbrev pub placed : TypedPlace → Scope → Result Placed Fault
placed p G = assignable p.name G >>= λ s. behind_suffixes p.suffixes s.ty G >>= λ r. Ok (placed_at p s r G.names)

abbrev pub all_placed : List TypedPlace → Scope → Result (List Placed) Fault
all_placed [] G = Ok []
all_placed (p ∷ ps) G = placed p G >>= λ q. all_placed ps G >>= λ qs. Ok (q ∷ qs)

abbrev pub writings : List Placed → Effect
writings [] = Pure
writings (p ∷ ps) = greater p.effect (writings ps)

abbrev pub tree_places : List Placed → List TreePlace
tree_places [] = []
tree_places (p ∷ ps) = p.place ∷ tree_places ps

-- ---- what is assigned

abbrev pub part_number : ℕ → Parts → Option Ty
part_number n no_part = None
part_number zero (part T Ts) = Some T
part_number (suc n) (part T Ts) = part_number n Ts

abbrev pub part_behind : Option Parts → ℕ → Option Ty
part_behind None n = None
part_behind (Some Ts) n = part_number n Ts

-- the type of the part at the end of a way, where there is that part
abbrev pub part_of : List ℕ → Option Ty → Option Ty
part_of ns None = None
part_of [] (Some T) = Some T
part_of (n ∷ ns) (Some T) = part_of ns (part_behind (tuple_parts T) n)

abbrev pub part_fits : Tests → Option Ty → Ty → Span → Result (Unit {0}) Fault
part_fits t None T at = Ok tt
part_fits t (Some S) T at = fitted (misfit t S T) at

-- the parts that there are fit, whatever the count
abbrev pub all_parts_fit : Tests → List Placed → Operand → Result (Unit {0}) Fault
all_parts_fit t [] o = Ok tt
all_parts_fit t (p ∷ ps) o = part_fits t (part_of p.place.way (Some o.typed.ty)) p.ty o.span >> all_parts_fit t ps o

abbrev pub assignment : Effect → Span → List Effect → List Placed → Typed → List Entry → Result Done Fault
assignment class span ks ps S names =
    ended class span (all_together Pure (ks ++ S.effect ∷ [])) (greater (greatest Pure (ks ++ S.effect ∷ [])) (writings ps)) names
    (tree.Assign span (tree_places ps) S.tree)

-- an assignment: the operands and the right side, then each target in turn, then the fits, then the counts
abbrev pub assign_rule : Tests → Span → FoundTarget → Expr → Scope → Result Done Fault
assign_rule t span target e G =
    target.places G >>= λ ps. operand_of t e G >>= λ o.
    all_placed ps G >>= λ qs.
    all_parts_fit t qs o >>
    need (target.counts o.typed.ty) T05 span >>
    assignment G.class span (place_effects ps) qs o.typed G.names
