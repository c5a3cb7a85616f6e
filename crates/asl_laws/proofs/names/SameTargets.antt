-- What is found at targets depends on the names that they use alone, and so do the places that are made of it.
use Rattle.std.proofs.Common.{◌≡◌, ℕ, suc, List, [], ◌∷◌, ◌++◌, map, Ok, Err, refl, sym, subst}
use Rattle.std.specs.Prelude.{Result, ◌&&◌}
use Rattle.asl_syn.specs.declared.token.Span.{Span}
use Rattle.asl_syn.specs.declared.code.Fault.{Fault}
use Rattle.asl_syn.specs.declared.code.StaticCode.TheVariants.{T02, T08, T14}
use Rattle.asl_syn.specs.declared.tree.Ident.{Ident}
use Rattle.asl_syn.specs.declared.tree.Slice.{Slice}
use Rattle.asl_syn.specs.declared.tree.PlacedSuffix.{PlacedSuffix}
use Rattle.asl_syn.specs.declared.tree.Suffix.{Suffix}
use Rattle.asl_syn.specs.declared.tree.Suffix.TheVariants.{FieldOf, FieldsOf, SlicesOf, ElementOf}
use Rattle.asl_syn.specs.declared.tree.Target.{Target, roll-Target, fold-roll-Target, map-Target, ind-Target}
use Rattle.asl_syn.specs.declared.tree.Target.TheOpen as tg
use Rattle.asl_rules.specs.declared.effect.Effect.{Effect}
use Rattle.asl_rules.specs.Faults.{◌>>=◌, ◌>>◌, need, found_or}
use Rattle.asl_rules.specs.Tests.{Tests}
use Rattle.asl_rules.specs.types.Types.{Ty, bits_of, is_bits}
use Rattle.asl_rules.specs.runs.Trees.{into_slices}
use Rattle.asl_rules.specs.declarations.Scopes.{Scope, Entry, Signature, storage_in, writing}
use Rattle.asl_rules.specs.expressions.Typing.{trees_of}
use Rattle.asl_rules.specs.expressions.Slicing.{FoundSlice, all_operands, all_integers, all_add, no_width, shapes_of}
use Rattle.asl_rules.specs.types.Widths.{Total, totalled}
use Rattle.asl_rules.specs.expressions.Exprs.{found, found_slice}
use Rattle.asl_rules.specs.declarations.UsedNames.{Uses, of_value, Each, joined, slice_uses}
use Rattle.asl_rules.specs.statements.Targets.{TypedSuffix, by_slices, by_element, up_to, found_slices, typed_suffix, typed_suffixes}
use Rattle.asl_rules.specs.statements.Targets.{behind, behind_suffix, reached, behind_suffixes, TypedPlace, FoundTarget, inside, all_places}
use Rattle.asl_rules.specs.statements.Targets.{one_place, target_layer, found_target, placed, all_placed}
use Rattle.asl_rules.proofs.basics.Answering.{OfAnswer, behind as each_behind}
use Rattle.asl_laws.specs.StmtUses.{suffix_uses, suffixes_uses, in_target, target_uses}
use Rattle.asl_laws.proofs.names.ByUses.{each_first, each_second, found_list, kept_list}
use Rattle.asl_laws.proofs.names.SameExprs.{SameAt, scope_at, SliceSame, slices_same, adds_same, expr_same, slice_same}

-- it holds of each
abbrev pub All : {X : Type 0} → (X → Type 0) → List X → Type 0
All P [] = Unit {0}
All P (x ∷ xs) = P x × All P xs

pub all_append : {X : Type 0} (P : X → Type 0) (xs ys : List X) → All P xs → All P ys → All P (xs ++ ys)
all_append P [] ys h k = k
all_append P (x ∷ xs) ys h k = (h.0, all_append P xs ys h.1 k)

module _ (t : Tests) (A B : List Entry) (ss rs : List Signature) where
  abbrev first : Effect → Scope
  first k = scope_at A ss k

  abbrev second : Effect → Scope
  second k = scope_at B rs k

  -- ---- suffixes

  abbrev SlicesGood : List FoundSlice → Type 0
  SlicesGood xs = ((k : Effect) → all_operands xs (first k) ≡ all_operands xs (second k)) ×
      ((k : Effect) (w : Total) → all_add xs w (first k) ≡ all_add xs w (second k))

  slices_good : (xs : List Slice) → Each (SameAt A B ss rs) (joined (map slice_uses xs)) → SlicesGood (found_slices t xs)
  slices_good xs g =
      let ks = found_list (SameAt A B ss rs) slice_uses (found_slice t) (SliceSame t A B ss rs) (slice_same t A B ss rs) xs g in
      subst SlicesGood ks.is (slices_same t A B ss rs ks.list, adds_same t A B ss rs ks.list)

  -- what lies behind it is the same
  abbrev SuffixGood : TypedSuffix → Type 0
  SuffixGood x = (T : Ty) (k : Effect) → behind_suffix x T (first k) ≡ behind_suffix x T (second k)

  abbrev SuffixSame : Span → Suffix → Type 0
  SuffixSame at s = (k : Effect) → (typed_suffix t at s (first k) ≡ typed_suffix t at s (second k)) ×
      OfAnswer SuffixGood (typed_suffix t at s (first k))

  suffix_same : (at : Span) (s : Suffix) → Each (SameAt A B ss rs) (suffix_uses s) → SuffixSame at s
  suffix_same at (FieldOf f) g k = (refl, λ T k. refl)
  suffix_same at (FieldsOf fs) g k = (refl, λ T k. refl)
  suffix_same at (SlicesOf xs) g k =
      let h = slices_good xs g in (
        λ i. h.0 k i >>= λ os. Ok (by_slices at (found_slices t xs) os),
        each_behind SuffixGood (all_operands (found_slices t xs) (first k)) _ (λ os T k i.
            need (is_bits T && all_integers os) T08 at >>
            (h.1 k no_width i >>= λ x. totalled at x) >>= λ w.
            Ok (behind (bits_of w []) (into_slices at (shapes_of (found_slices t xs)) (trees_of os)))),
      )
  suffix_same at (ElementOf e) g k = (
    λ i. (expr_same t A B ss rs e g i).typed (first k) >>= λ I. Ok (by_element at I),
    each_behind SuffixGood ((found t e).typed (first k)) _ (λ I T k. refl),
  )

  behind_same : (xs : List TypedSuffix) → All SuffixGood xs → (T : Ty) (k : Effect) →
      behind_suffixes xs T (first k) ≡ behind_suffixes xs T (second k)
  behind_same [] g T k = refl
  behind_same (x ∷ xs) g T k = λ i. g.0 T k i >>= λ b. behind_same xs g.1 b.ty k i >>= λ r. Ok (reached r.ty (b.step ∷ r.steps))

  abbrev SuffixesSame : Ident → List PlacedSuffix → Type 0
  SuffixesSame n xs = (k : Effect) → (typed_suffixes t n xs (first k) ≡ typed_suffixes t n xs (second k)) ×
      OfAnswer (All SuffixGood) (typed_suffixes t n xs (first k))

  -- one answer behind another, with what holds of both
  both_behind : {X Y Z : Type 0} (P : X → Type 0) (Q : Y → Type 0) (R : Z → Type 0) (r : Result X Fault) (s : Result Y Fault)
      (f : X → Y → Z) → OfAnswer P r → OfAnswer Q s → ((x : X) (y : Y) → P x → Q y → R (f x y)) →
      OfAnswer R (r >>= λ x. s >>= λ y. Ok (f x y))
  both_behind P Q R (Ok x) (Ok y) f p q h = h x y p q
  both_behind P Q R (Ok x) (Err e) f p q h = tt
  both_behind P Q R (Err e) s f p q h = tt

  suffixes_same : (n : Ident) (xs : List PlacedSuffix) → Each (SameAt A B ss rs) (suffixes_uses xs) → SuffixesSame n xs
  suffixes_same n [] g k = (refl, tt)
  suffixes_same n (x ∷ xs) g k =
      let h = suffix_same (up_to n x.end) x.suffix (each_first (SameAt A B ss rs) (suffix_uses x.suffix) (suffixes_uses xs) g) k in
      let r = suffixes_same n xs (each_second (SameAt A B ss rs) (suffix_uses x.suffix) (suffixes_uses xs) g) k in (
        λ i. h.0 i >>= λ y. r.0 i >>= λ ys. Ok (y ∷ ys),
        both_behind SuffixGood (All SuffixGood) (All SuffixGood) (typed_suffix t (up_to n x.end) x.suffix (first k))
            (typed_suffixes t n xs (first k)) (λ y ys. y ∷ ys) h.1 r.1 (λ y ys p q. (p, q)),
      )

  -- ---- places

  -- the place is the same, whatever the way to the part of the value that it takes
  abbrev pub PlaceGood : TypedPlace → Type 0
  PlaceGood p = (way : List ℕ) (k : Effect) → placed (record p { way = way }) (first k) ≡ placed (record p { way = way }) (second k)

  pub all_placed_same : (ps : List TypedPlace) → All PlaceGood ps → (k : Effect) → all_placed ps (first k) ≡ all_placed ps (second k)
  all_placed_same [] g k = refl
  all_placed_same (p ∷ ps) g k = λ i. g.0 p.way k i >>= λ q. all_placed_same ps g.1 k i >>= λ qs. Ok (q ∷ qs)

  place_good : (n : Ident) (ys : List TypedSuffix) → SameAt A B ss rs (of_value n.span n.text) → All SuffixGood ys →
      PlaceGood (record { way = []; name = n; suffixes = ys })
  place_good n ys own g way k = λ i.
      (found_or (storage_in (own.0 i)) T02 n.span >>= λ s. need s.is_mutable T14 n.span >> Ok s) >>= λ s. behind_same ys g s.ty k i >>= λ r.
      Ok (record { ty = r.ty; effect = writing s; place = record { span = n.span; way = way; slot = own.1 i; steps = r.steps } })

  -- ---- targets

  abbrev pub TargetSame : FoundTarget → Type 0
  TargetSame x = (k : Effect) → (x.places (first k) ≡ x.places (second k)) × OfAnswer (All PlaceGood) (x.places (first k))

  inside_good : (n : ℕ) (ps : List TypedPlace) → All PlaceGood ps → All PlaceGood (inside n ps)
  inside_good n [] g = tt
  inside_good n (p ∷ ps) g = (g.0, inside_good n ps g.1)

  all_places_same : (n : ℕ) (xs : List ((x : FoundTarget) × TargetSame x)) (k : Effect) →
      (all_places n (map (λ x. x.0) xs) (first k) ≡ all_places n (map (λ x. x.0) xs) (second k)) ×
      OfAnswer (All PlaceGood) (all_places n (map (λ x. x.0) xs) (first k))
  all_places_same n [] k = (refl, tt)
  all_places_same n (x ∷ xs) k =
      let h = x.1 k in
      let r = all_places_same (suc n) xs k in (
        λ i. h.0 i >>= λ ps. r.0 i >>= λ qs. Ok (inside n ps ++ qs),
        both_behind (All PlaceGood) (All PlaceGood) (All PlaceGood) (x.0.places (first k))
            (all_places (suc n) (map (λ x. x.0) xs) (first k)) (λ ps qs. inside n ps ++ qs) h.1 r.1
            (λ ps qs p q. all_append PlaceGood (inside n ps) qs (inside_good n ps p) q),
      )

  place_same : (n : Ident) (xs : List PlacedSuffix) → SameAt A B ss rs (of_value n.span n.text) →
      Each (SameAt A B ss rs) (suffixes_uses xs) → (k : Effect) →
      (one_place t n xs (first k) ≡ one_place t n xs (second k)) × OfAnswer (All PlaceGood) (one_place t n xs (first k))
  place_same n xs own g k =
      let h = suffixes_same n xs g k in
      (λ i. h.0 i >>= λ ys. Ok (record { way = []; name = n; suffixes = ys } ∷ []), by (typed_suffixes t n xs (first k)) h.1)
    where
      by : (r : Result (List TypedSuffix) Fault) → OfAnswer (All SuffixGood) r →
          OfAnswer (All PlaceGood) (r >>= λ ys. Ok (record { way = []; name = n; suffixes = ys } ∷ []))
      by (Ok ys) q = (place_good n ys own q, tt)
      by (Err e) q = tt

  abbrev TargetHas : Target → Type 0
  TargetHas x = Each (SameAt A B ss rs) (target_uses x) → TargetSame (found_target t x)

  abbrev Below : Type 0
  Below = (x : Target) × TargetHas x

  target_layer_same : (y : tg.Target-F Below) → Each (SameAt A B ss rs)
      (in_target (map-Target Target Uses target_uses (map-Target Below Target (λ x. x.0) y))) →
      TargetSame (target_layer t (map-Target Target FoundTarget (found_target t) (map-Target Below Target (λ x. x.0) y)))
  target_layer_same (tg.Discarded at) g k = (refl, tt)
  target_layer_same (tg.Place at n xs) g k = place_same n xs g.0 g.1 k
  target_layer_same (tg.Targets at xs) g k =
      let ks = kept_list (SameAt A B ss rs) target_uses (found_target t) TargetSame xs g in
      subst (λ l. TargetSame (target_layer t (tg.Targets at l))) ks.is (all_places_same 0 ks.list) k

  target_step : (x : tg.Target-F Target) (y : tg.Target-F Below) → map-Target Below Target (λ z. z.0) y ≡ x → TargetHas (roll-Target x)
  target_step x y is = subst (λ z. TargetHas (roll-Target z)) is (λ g.
      subst TargetSame (sym (fold-roll-Target FoundTarget (target_layer t) (map-Target Below Target (λ z. z.0) y)))
      (target_layer_same y (subst (Each (SameAt A B ss rs)) (fold-roll-Target Uses in_target (map-Target Below Target (λ z. z.0) y)) g)))

  pub target_same : (x : Target) → TargetHas x
  target_same = ind-Target TargetHas target_step
