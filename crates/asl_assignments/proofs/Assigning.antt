-- Assignments, place by place: what the rules find of all places is what is found at one after the other.
use Rattle.std.proofs.Common.{◌≡◌, ℕ, ◌+◌, ◌<◌, suc, length, get_or, drop, Bool, ◌&&◌, List, [], ◌∷◌, ◌++◌, map, Option, Some, None, Result, Ok, Err, refl, sym, ap, ◌∙◌, append_assoc, arith}
use Rattle.asl_syn.specs.declared.code.Fault.{Fault}
use Rattle.asl_syn.specs.declared.code.StaticCode.TheVariants.{T05}
use Rattle.asl_syn.specs.declared.token.Span.{Span}
use Rattle.asl_syn.specs.declared.tree.Expr.{Expr}
use Rattle.asl_syn.specs.declared.tree.Ident.{Ident}
use Rattle.asl_syn.specs.declared.tree.PlacedSuffix.{PlacedSuffix}
use Rattle.asl_syn.specs.declared.tree.Target.{Target, fold-Target, roll-Target, fold-roll-Target, map-Target, ind-Target}
use Rattle.asl_syn.specs.declared.tree.Target.TheOpen as tg
use Rattle.asl_rules.specs.declared.effect.Effect.{Effect}
use Rattle.asl_rules.specs.declared.effect.Effect.TheVariants.{Pure}
use Rattle.asl_rules.specs.Faults.{◌>>=◌, ◌>>◌, need}
use Rattle.asl_rules.specs.Tests.{Tests}
use Rattle.asl_rules.specs.types.Types.{Ty, Parts, no_part, part, tuple_parts}
use Rattle.asl_rules.specs.runs.Trees.{TreePlace}
use Rattle.asl_rules.specs.types.Effects.{greater}
use Rattle.asl_rules.specs.declarations.Scopes.{Scope}
use Rattle.asl_rules.specs.expressions.Typing.{Operand}
use Rattle.asl_rules.specs.statements.Acting.{Done, operand_of}
use Rattle.asl_rules.specs.statements.Targets.{TypedSuffix, TypedPlace, FoundTarget, Reached, Placed, behind_suffix, behind_suffixes, reached, assignable, placed_at, placed, all_placed, writings, tree_places, place_effects, part_of, part_fits, all_parts_fit, assignment, assign_rule, all_places, inside, target_layer, parts_count, all_count, found_target}
use Rattle.asl_rules.proofs.basics.Inversions.{ok_ok, err_ok}
use Rattle.asl_blocks.specs.private.Walks.{after, led, reach_step, placed_walk, Stores, stores, with_store, store_step, stores_walk, stores_fit, assigned, counts_parts, counts_all, count_layer, counts_in, assign_walk}
use Rattle.asl_blocks.proofs.Chains.{then_same, then_then, then_itself, append_nothing, next_of}
use Rattle.asl_blocks.proofs.Gathering.{greater_on, greater_pure}

-- ---- suffixes

reached_by : (G : Scope) (xs : List TypedSuffix) (r : Reached) → (behind_suffixes xs r.ty G >>= λ q. Ok (reached q.ty (r.steps ++ q.steps))) ≡ after (reach_step G) xs r
reached_by G [] r = ap (λ ss. Ok (reached r.ty ss)) (append_nothing r.steps)
reached_by G (x ∷ xs) r =
    then_then (behind_suffix x r.ty G) _ _
    ∙ then_same (behind_suffix x r.ty G) _ _ (λ b.
    then_then (behind_suffixes xs b.ty G) _ _
    ∙ then_same (behind_suffixes xs b.ty G) _ _ (λ q. ap (λ ss. Ok (reached q.ty ss)) (sym (append_assoc r.steps (b.step ∷ []) q.steps)))
    ∙ reached_by G xs (reached b.ty (r.steps ++ b.step ∷ [])))
    ∙ sym (then_then (behind_suffix x r.ty G) _ _)

behind_is : (G : Scope) (xs : List TypedSuffix) (T : Ty) → behind_suffixes xs T G ≡ after (reach_step G) xs (reached T [])
behind_is G xs T = sym (then_itself (behind_suffixes xs T G)) ∙ reached_by G xs (reached T [])

placed_is : (p : TypedPlace) (G : Scope) → placed p G ≡ placed_walk p G
placed_is p G = then_same (assignable p.name G) _ _ (λ s. ap (λ r. r >>= λ q. Ok (placed_at p s q G.names)) (behind_is G p.suffixes s.ty))

-- ---- places

abbrev place_types : List Placed → List Ty
place_types [] = []
place_types (p ∷ ps) = p.ty ∷ place_types ps

fit_is : (t : Tests) (qs : List Placed) (o : Operand) → all_parts_fit t qs o ≡ stores_fit t (tree_places qs) (place_types qs) o
fit_is t [] o = refl
fit_is t (q ∷ qs) o = ap (λ r. part_fits t (part_of q.place.way (Some o.typed.ty)) q.ty o.span >> r) (fit_is t qs o)

stored_by : {D : Type 0} (G : Scope) (K : List TreePlace → List Ty → Effect → Result D Fault) (ps : List TypedPlace) (s : Stores) →
    (all_placed ps G >>= λ qs. K (s.places ++ tree_places qs) (s.types ++ place_types qs) (greater s.effect (writings qs))) ≡ (after (store_step G) ps s >>= λ x. K x.places x.types x.effect)
stored_by G K [] s = λ i. K (append_nothing s.places i) (append_nothing s.types i) (greater_pure s.effect i)
stored_by G K (p ∷ ps) s =
    then_then (placed p G) _ _
    ∙ then_same (placed p G) _ _ (λ q.
    then_then (all_placed ps G) _ _
    ∙ then_same (all_placed ps G) _ _ (λ qs. λ i.
    K (sym (append_assoc s.places (q.place ∷ []) (tree_places qs)) i) (sym (append_assoc s.types (q.ty ∷ []) (place_types qs)) i) (greater_on s.effect q.effect (writings qs) i))
    ∙ stored_by G K ps (with_store s q))
    ∙ ap (λ r. r >>= λ q. after (store_step G) ps (with_store s q) >>= λ x. K x.places x.types x.effect) (placed_is p G)
    ∙ sym (ap (λ r. r >>= λ x. K x.places x.types x.effect) (then_then (placed_walk p G) _ _) ∙ then_then (placed_walk p G) _ _)

abbrev ending : Tests → Span → FoundTarget → List Effect → Operand → Scope → List TreePlace → List Ty → Effect → Result Done Fault
ending t span target ks o G ps Ts k = stores_fit t ps Ts o >> (need (target.counts o.typed.ty) T05 span >> assigned G.class span ks (stores ps Ts k) o.typed G.names)

-- ---- counts

abbrev Counted : Tests → Target → Type 0
Counted t x = (S : Ty) → (found_target t x).counts S ≡ counts_in x S

abbrev Below : Tests → Type 0
Below t = tg.Target-F ((x : Target) × Counted t x)

abbrev firsts : (t : Tests) → List ((x : Target) × Counted t x) → List Target
firsts t ts = map (λ x. x.0) ts

parts_counted : (t : Tests) (ts : List ((x : Target) × Counted t x)) (Ss : Parts) → parts_count (map (found_target t) (firsts t ts)) Ss ≡ counts_parts (map counts_in (firsts t ts)) Ss
parts_counted t [] no_part = refl
parts_counted t [] (part S Ss) = refl
parts_counted t (x ∷ ts) no_part = refl
parts_counted t (x ∷ ts) (part S Ss) = λ i. x.1 S i && parts_counted t ts Ss i

all_counted : (t : Tests) (ts : List ((x : Target) × Counted t x)) (o : Option Parts) → all_count (map (found_target t) (firsts t ts)) o ≡ counts_all (map counts_in (firsts t ts)) o
all_counted t ts None = refl
all_counted t ts (Some Ss) = parts_counted t ts Ss

layer_counted : (t : Tests) (y : Below t) (S : Ty) → (target_layer t (map-Target Target FoundTarget (found_target t) (map-Target ((x : Target) × Counted t x) Target (λ x. x.0) y))).counts S ≡
    count_layer (map-Target Target (Ty → Bool) counts_in (map-Target ((x : Target) × Counted t x) Target (λ x. x.0) y)) S
layer_counted t (tg.Discarded at) S = refl
layer_counted t (tg.Place at i xs) S = refl
layer_counted t (tg.Targets at ts) S = all_counted t ts (tuple_parts S)

target_counted : (t : Tests) (l : tg.Target-F Target) (y : Below t) → map-Target ((x : Target) × Counted t x) Target (λ x. x.0) y ≡ l → Counted t (roll-Target l)
target_counted t l y is S =
    ap (λ (z : FoundTarget). z.counts S) (fold-roll-Target FoundTarget (target_layer t) l)
    ∙ ap (λ z. (target_layer t (map-Target Target FoundTarget (found_target t) z)).counts S) (sym is)
    ∙ layer_counted t y S
    ∙ ap (λ z. count_layer (map-Target Target (Ty → Bool) counts_in z) S) is
    ∙ sym (ap (λ (f : Ty → Bool). f S) (fold-roll-Target (Ty → Bool) count_layer l))

pub same_counts : (t : Tests) (x : Target) → Counted t x
same_counts t = ind-Target (Counted t) (target_counted t)

pub assign_is : (t : Tests) (span : Span) (x : Target) (e : Expr) (G : Scope) → assign_rule t span (found_target t x) e G ≡ assign_walk t span x e G
assign_is t span x e G =
    then_same ((found_target t x).places G) _ _ (λ ps. then_same (operand_of t e G) _ _ (λ o.
    then_same (all_placed ps G) _ _ (λ qs. ap (λ r. r >> (need ((found_target t x).counts o.typed.ty) T05 span >> assignment G.class span (place_effects ps) qs o.typed G.names)) (fit_is t qs o))
    ∙ stored_by G (ending t span (found_target t x) (place_effects ps ++ o.typed.effect ∷ []) o G) ps (stores [] [] Pure)
    ∙ then_same (stores_walk ps G) _ _ (λ s. ap (λ b. stores_fit t s.places s.types o >> (need b T05 span >> assigned G.class span (place_effects ps ++ o.typed.effect ∷ []) s o.typed G.names)) (same_counts t x o.typed.ty))))

-- ---- ways

led_on : (way : List ℕ) (n : ℕ) (ps : List TypedPlace) → led way (inside n ps) ≡ led (way ++ n ∷ []) ps
led_on way n [] = refl
led_on way n (p ∷ ps) = λ i. record p { way = sym (append_assoc way (n ∷ []) p.way) i } ∷ led_on way n ps i

led_both : (way : List ℕ) (ps qs : List TypedPlace) → led way (ps ++ qs) ≡ led way ps ++ led way qs
led_both way [] qs = refl
led_both way (p ∷ ps) qs = ap (λ l. record p { way = way ++ p.way } ∷ l) (led_both way ps qs)

-- one target more
one_more : (t : FoundTarget) (ts : List FoundTarget) (n : ℕ) (way inner : List ℕ) (before after1 : List TypedPlace) (G : Scope) → inner ≡ way ++ n ∷ [] →
    (t.places G >>= λ ps. Ok (before ++ led inner ps)) ≡ Ok after1 →
    (all_places n (t ∷ ts) G >>= λ ps. Ok (before ++ led way ps)) ≡ (all_places (suc n) ts G >>= λ qs. Ok (after1 ++ led way qs))
one_more t ts n way inner before after1 G w h = by (t.places G) h
  where
    by : (r : Result (List TypedPlace) Fault) → (r >>= λ ps. Ok (before ++ led inner ps)) ≡ Ok after1 →
        ((r >>= λ ps. all_places (suc n) ts G >>= λ qs. Ok (inside n ps ++ qs)) >>= λ ps. Ok (before ++ led way ps)) ≡ (all_places (suc n) ts G >>= λ qs. Ok (after1 ++ led way qs))
    by (Err f) h = err_ok f after1 h
    by (Ok ps) h =
        then_then (all_places (suc n) ts G) _ _
        ∙ then_same (all_places (suc n) ts G) _ _ (λ qs. ap Ok (
        ap (λ l. before ++ l) (led_both way (inside n ps) qs ∙ ap (λ l. l ++ led way qs) (led_on way n ps ∙ ap (λ v. led v ps) (sym w)))
        ∙ sym (append_assoc before (led inner ps) (led way qs))
        ∙ ap (λ l. l ++ led way qs) (ok_ok (before ++ led inner ps) after1 h)))

pub targets_loop : (t : Tests) (targets : List Target) (k : ℕ) (target : Target) (way inner : List ℕ) (before after1 : List TypedPlace) (G : Scope) (all : Result (List TypedPlace) Fault) →
    k < length targets → target ≡ get_or targets k target → inner ≡ way ++ k ∷ [] →
    ((found_target t target).places G >>= λ ps. Ok (before ++ led inner ps)) ≡ Ok after1 →
    (all_places k (map (found_target t) (drop k targets)) G >>= λ ps. Ok (before ++ led way ps)) ≡ all →
    (all_places (k + 1) (map (found_target t) (drop (k + 1) targets)) G >>= λ ps. Ok (after1 ++ led way ps)) ≡ all
targets_loop t targets k target way inner before after1 G all within here w h inv =
    let up : k + 1 ≡ suc k = omega arith in
    ap (λ n. all_places n (map (found_target t) (drop (k + 1) targets)) G >>= λ ps. Ok (after1 ++ led way ps)) up
    ∙ sym (one_more (found_target t target) (map (found_target t) (drop (k + 1) targets)) k way inner before after1 G w h)
    ∙ ap (λ rest. all_places k (map (found_target t) rest) G >>= λ ps. Ok (before ++ led way ps)) (sym (next_of targets k target within here))
    ∙ inv

-- the places of no way more
pub led_whole : (ps : List TypedPlace) → led [] ps ≡ ps
led_whole [] = refl
led_whole (p ∷ ps) = ap (λ l. p ∷ l) (led_whole ps)
