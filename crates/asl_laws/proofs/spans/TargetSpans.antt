-- Assignments: their faults stand at spans of the target, up to one of its suffixes, or at those of what is assigned, and have other codes than T04.
use Rattle.std.proofs.Common.{◌≡◌, ℕ, suc, List, [], ◌∷◌, ◌++◌, map, Option, Some, None, sym, subst}
use Rattle.asl_syn.specs.declared.token.Span.{Span}
use Rattle.asl_syn.specs.declared.code.Fault.{Fault}
use Rattle.asl_syn.specs.declared.tree.Expr.{Expr}
use Rattle.asl_syn.specs.declared.tree.Ident.{Ident}
use Rattle.asl_syn.specs.declared.tree.Slice.{Slice}
use Rattle.asl_syn.specs.declared.tree.PlacedSuffix.{PlacedSuffix}
use Rattle.asl_syn.specs.declared.tree.Suffix.{Suffix}
use Rattle.asl_syn.specs.declared.tree.Suffix.TheVariants.{FieldOf, FieldsOf, SlicesOf, ElementOf}
use Rattle.asl_syn.specs.declared.tree.Target.{Target, roll-Target, fold-roll-Target, map-Target, ind-Target}
use Rattle.asl_syn.specs.declared.tree.Target.TheOpen as tg
use Rattle.asl_rules.specs.Tests.{Tests}
use Rattle.asl_rules.specs.types.Types.{Ty}
use Rattle.asl_rules.specs.declarations.Scopes.{Scope}
use Rattle.asl_rules.specs.expressions.Typing.{Operand}
use Rattle.asl_rules.specs.expressions.Slicing.{all_operands}
use Rattle.asl_rules.specs.expressions.Exprs.{found_slice, typed}
use Rattle.asl_rules.specs.statements.Targets.{TypedSuffix, by_field, by_bitfields, by_slices, by_element, typed_suffix, typed_suffixes, behind_suffix, behind_suffixes, FoundTarget, TypedPlace, inside, all_places, one_place, target_layer, found_target, Placed, placed, all_placed, part_of, part_fits, all_parts_fit, assign_rule}
use Rattle.asl_laws.proofs.basics.Lists.{AllOf}
use Rattle.asl_laws.specs.Spans.{Spans, Each, all_of, up_to, slice_spans, suffix_spans, placed_spans, in_target, target_spans}
use Rattle.asl_laws.proofs.spans.SpanLayers.{all_parts, all_there}
use Rattle.asl_laws.proofs.spans.Standing.{names_there, At, Answers, Stands, then_with, then_stands, bound, next, steps, SliceStands, NamesStand, Marked}
use Rattle.asl_laws.proofs.spans.ExprRows.{bitfields_stand, slices_stand, adds_stand}
use Rattle.asl_laws.proofs.spans.ExprSpans.{expr_there, slice_there}
use Rattle.asl_laws.proofs.spans.StmtRows.{There, Put, operand_there}

module _ (t : Tests) (P : Fault → Type 0) where
  -- ---- suffixes

  slices_there : (ss : List Slice) → Each (Marked P t) (all_of slice_spans ss) → AllOf (SliceStands P) (map (found_slice t) ss)
  slices_there = all_there (Marked P t) slice_spans (found_slice t) (SliceStands P) (slice_there t P)

  abbrev pub SuffixStands : TypedSuffix → Type 0
  SuffixStands (by_field at f) = At P at × At P f.span
  SuffixStands (by_bitfields at fs) = At P at × NamesStand P fs
  SuffixStands (by_slices at ss os) = At P at × AllOf (SliceStands P) ss
  SuffixStands (by_element at I) = At P at

  suffix_stands : (at : Span) (x : Suffix) (G : Scope) → At P at → Each (Marked P t) (suffix_spans x) → Answers P SuffixStands (typed_suffix t at x G)
  suffix_stands at (FieldOf f) G p h = (p, h)
  suffix_stands at (FieldsOf fs) G p h = (p, names_there P t fs h)
  suffix_stands at (SlicesOf ss) G p h =
      let k = slices_there ss h in
      then_with P (λ os. Unit {0}) SuffixStands (all_operands (map (found_slice t) ss) G) _ (slices_stand t P (map (found_slice t) ss) G k) (λ os u. (p, k))
  suffix_stands at (ElementOf e) G p h = then_with P (λ I. Unit {0}) SuffixStands (typed t e G) _ ((expr_there t P e h).typed_at G) (λ I u. p)

  suffixes_stand : (i : Ident) (xs : List PlacedSuffix) (G : Scope) → Each (Marked P t) (all_of (placed_spans i) xs) → Answers P (AllOf SuffixStands) (typed_suffixes t i xs G)
  suffixes_stand i [] G h = tt
  suffixes_stand i (x ∷ xs) G h =
      then_with P SuffixStands (AllOf SuffixStands) (typed_suffix t (up_to i x.end) x.suffix G) _ (suffix_stands (up_to i x.end) x.suffix G h.0.0 h.0.1) (λ y k.
      then_with P (AllOf SuffixStands) (AllOf SuffixStands) (typed_suffixes t i xs G) _ (suffixes_stand i xs G h.1) (λ ys l. (k, l)))

  behind_stands : (y : TypedSuffix) (T : Ty) (G : Scope) → SuffixStands y → Stands P (behind_suffix y T G)
  behind_stands (by_field at f) T G h = search steps depth 10
  behind_stands (by_bitfields at fs) T G h = search (steps, bitfields_stand t P) depth 10
  behind_stands (by_slices at ss os) T G h = search (steps, adds_stand t P) depth 10
  behind_stands (by_element at I) T G h = search steps depth 10

  all_behind : (ys : List TypedSuffix) (T : Ty) (G : Scope) → AllOf SuffixStands ys → Stands P (behind_suffixes ys T G)
  all_behind [] T G h = tt
  all_behind (y ∷ ys) T G h = bound P (behind_suffix y T G) _ (behind_stands y T G h.0) (λ b. bound P (behind_suffixes ys _ G) _ (all_behind ys _ G h.1) (λ r. tt))

  -- ---- places

  pub record PlaceStands (p : TypedPlace) : Type 0 where
    pub name_at : At P p.name.span
    pub suffixes_at : AllOf SuffixStands p.suffixes

  pub record TargetStands (x : FoundTarget) : Type 0 where
    pub places_at : (G : Scope) → Answers P (AllOf PlaceStands) (x.places G)

  inside_stand : (n : ℕ) (ps : List TypedPlace) → AllOf PlaceStands ps → AllOf PlaceStands (inside n ps)
  inside_stand n [] h = tt
  inside_stand n (p ∷ ps) h = (record { name_at = h.0.name_at; suffixes_at = h.0.suffixes_at }, inside_stand n ps h.1)

  both_stand : (ps qs : List TypedPlace) → AllOf PlaceStands ps → AllOf PlaceStands qs → AllOf PlaceStands (ps ++ qs)
  both_stand [] qs h k = k
  both_stand (p ∷ ps) qs h k = (h.0, both_stand ps qs h.1 k)

  places_stand : (n : ℕ) (xs : List FoundTarget) (G : Scope) → AllOf TargetStands xs → Answers P (AllOf PlaceStands) (all_places n xs G)
  places_stand n [] G h = tt
  places_stand n (x ∷ xs) G h =
      then_with P (AllOf PlaceStands) (AllOf PlaceStands) (x.places G) _ (h.0.places_at G) (λ ps k.
      then_with P (AllOf PlaceStands) (AllOf PlaceStands) (all_places (suc n) xs G) _ (places_stand (suc n) xs G h.1) (λ qs l. both_stand (inside n ps) qs (inside_stand n ps k) l))

  one_stands : (i : Ident) (xs : List PlacedSuffix) (G : Scope) → At P i.span → Each (Marked P t) (all_of (placed_spans i) xs) → Answers P (AllOf PlaceStands) (one_place t i xs G)
  one_stands i xs G p h = then_with P (AllOf SuffixStands) (AllOf PlaceStands) (typed_suffixes t i xs G) _ (suffixes_stand i xs G h) (λ ys k. (record { name_at = p; suffixes_at = k }, tt))

  abbrev pub TargetGood : Target → Type 0
  TargetGood x = Each (Marked P t) (target_spans x) → TargetStands (found_target t x)

  abbrev target_trees : tg.Target-F ((x : Target) × TargetGood x) → tg.Target-F Target
  target_trees = map-Target ((x : Target) × TargetGood x) Target (λ x. x.0)

  layer_stands : (y : tg.Target-F ((x : Target) × TargetGood x)) → Each (Marked P t) (in_target (map-Target Target Spans target_spans (target_trees y))) → TargetStands (target_layer t (map-Target Target FoundTarget (found_target t) (target_trees y)))
  layer_stands (tg.Discarded at) h = record { places_at = λ G. tt }
  layer_stands (tg.Place at i xs) h = record { places_at = λ G. one_stands i xs G h.1.0 h.1.1 }
  layer_stands (tg.Targets at ts) h = record { places_at = λ G. places_stand 0 (map (found_target t) (map (λ x. x.0) ts)) G (all_parts (Marked P t) target_spans (found_target t) TargetStands ts h.1) }

  target_step : (x : tg.Target-F Target) (y : tg.Target-F ((x : Target) × TargetGood x)) → target_trees y ≡ x → TargetGood (roll-Target x)
  target_step x y is h =
      subst TargetStands (sym (fold-roll-Target FoundTarget (target_layer t) x)) (subst (λ z. TargetStands (target_layer t (map-Target Target FoundTarget (found_target t) z))) is (layer_stands y
      (subst (λ z. Each (Marked P t) (in_target (map-Target Target Spans target_spans z))) (sym is) (subst (Each (Marked P t)) (fold-roll-Target Spans in_target x) h))))

  -- what is found at a target stands at its spans
  pub target_there : (x : Target) → TargetGood x
  target_there = ind-Target TargetGood target_step

  -- ---- stores

  placed_stands : (p : TypedPlace) (G : Scope) → PlaceStands p → Stands P (placed p G)
  placed_stands p G h = search (steps, all_behind, h.name_at, h.suffixes_at) depth 10

  all_placed_stand : (ps : List TypedPlace) (G : Scope) → AllOf PlaceStands ps → Stands P (all_placed ps G)
  all_placed_stand [] G h = tt
  all_placed_stand (p ∷ ps) G h = bound P (placed p G) _ (placed_stands p G h.0) (λ q. bound P (all_placed ps G) _ (all_placed_stand ps G h.1) (λ qs. tt))

  part_stands : (o : Option Ty) (T : Ty) (at : Span) → At P at → Stands P (part_fits t o T at)
  part_stands None T at p = tt
  part_stands (Some S) T at p = search steps

  parts_stand : (ps : List Placed) (o : Operand) → Put t P o → Stands P (all_parts_fit t ps o)
  parts_stand [] o h = tt
  parts_stand (p ∷ ps) o h = next P (part_fits t (part_of p.place.way (Some o.typed.ty)) p.ty o.span) (all_parts_fit t ps o) (part_stands _ p.ty o.span h) (parts_stand ps o h)

  pub assign_stands : (span : Span) (target : Target) (e : Expr) (G : Scope) → At P span → Each (Marked P t) (target_spans target) → There t P e → Stands P (assign_rule t span (found_target t target) e G)
  assign_stands span target e G p h k =
      then_stands P (AllOf PlaceStands) ((found_target t target).places G) _ ((target_there target h).places_at G) (λ ps l. search (steps, operand_there t P, all_placed_stand, parts_stand) depth 20)
