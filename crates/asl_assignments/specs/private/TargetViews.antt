-- Targets whose expressions were typed, as the rules see them.
use Rattle.std.specs.Prelude.{map}
use Rattle.asl_rules.specs.statements.Targets as rules
use Rattle.asl_rules.specs.Tests.{Tests}
use Rattle.asl_tree.specs.View.{typed_of, all_operands}
use Rattle.asl_tree.specs.Acts.{step_of, all_places}
use Rattle.asl_assignments.specs.declared.suffixes.TypedSuffix.{TypedSuffix}
use Rattle.asl_assignments.specs.declared.suffixes.TypedSuffix.TheVariants as suffix
use Rattle.asl_assignments.specs.declared.suffixes.Behind.{Behind}
use Rattle.asl_assignments.specs.declared.suffixes.Reached.{Reached}
use Rattle.asl_assignments.specs.declared.targets.TypedPlace.{TypedPlace}
use Rattle.asl_assignments.specs.declared.stores.Stores.{Stores}
use Rattle.asl_blocks.specs.private.Walks as walks

abbrev pub suffix_of : Tests → TypedSuffix → rules.TypedSuffix
suffix_of t (suffix.Field at f) = rules.by_field at f.now
suffix_of t (suffix.Bitfields at fs) = rules.by_bitfields at fs.now
suffix_of t (suffix.Slices at ss es) = rules.by_slices at (rules.found_slices t ss.now) (all_operands es)
suffix_of t (suffix.Element at i) = rules.by_element at (typed_of i)

abbrev pub behind_of : Behind → rules.Behind
behind_of b = rules.behind b.ty (step_of b.step)

abbrev pub reached_of : Reached → rules.Reached
reached_of r = rules.reached r.ty (map step_of r.steps)

abbrev pub place_of : Tests → TypedPlace → rules.TypedPlace
place_of t p = record { way = p.way; name = p.name.now; suffixes = map (suffix_of t) p.suffixes.items }

abbrev pub stores_of : Stores → walks.Stores
stores_of s = walks.stores (all_places s.places) s.types s.effect
