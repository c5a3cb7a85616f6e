-- Patterns in order, one by one.
use Rattle.std.proofs.Common.{◌≡◌, ℕ, suc, ◌+◌, ◌<◌, ◌≤◌, Bool, true, false, length, get_or, drop, map, List, [], ◌∷◌, ◌++◌, Result, Ok, Err, refl, sym, ap, ◌∙◌, append_assoc}
use Rattle.std.proofs.lemmas.List.{drop_all}
use Rattle.std.proofs.Common.{◌^◌, cond, arith, Option, Some, None, Bor}
use Rattle.std.proofs.lemmas.Bool.Decides.{nat_tests}
use Rattle.std.specs.Prelude.{◌==◌, pos, option_map}
use Rattle.asl_syn.specs.declared.token.Span.{Span}
use Rattle.asl_syn.specs.declared.code.StaticCode.TheVariants.{T23}
use Rattle.asl_poly.specs.Terms.{Polynomial}
use Rattle.asl_poly.specs.Limits.{weight}
use Rattle.asl_poly.specs.Operations.{constant_term}
use Rattle.asl_poly.specs.Poly.{ConstantFits, constant_map}
use Rattle.asl_types.specs.Suits.{Suits}
use Rattle.asl_syn.specs.declared.code.Fault.{Fault}
use Rattle.asl_syn.specs.declared.tree.Pattern.{Pattern}
use Rattle.asl_rules.specs.expressions.Exprs.{found_pattern}
use Rattle.asl_rules.specs.Faults.{◌>>=◌, ◌>>◌, need, found_or, fault}
use Rattle.asl_rules.specs.expressions.Patterns.{FoundPattern, Matched, matched, all_match, parts_match, as_many, pattern_shapes, pattern_trees, set_matched}
use Rattle.asl_rules.specs.declarations.Scopes.{Scope}
use Rattle.asl_rules.specs.types.Shapes as shapes
use Rattle.asl_rules.specs.Tests.{Tests, IsRight}
use Rattle.asl_rules.specs.types.Types.{Ty, Parts, part, tuple_parts}
use Rattle.asl_types.proofs.Rest.{at_next}
use Rattle.asl_types.specs.View.{parts_of}
use Rattle.asl_shape.specs.View.{patterns_from}
use Rattle.asl_written.proofs.ConstraintLemmas.{append_none}
use Rattle.asl_expr.specs.PatternViews.{found_patterns, Seen, no_matches, with_match, all_shapes, with_matches, behind_matches, set_from, tuple_from, parts_for}

abbrev Found : Type 0
Found = Result (List Matched) Fault

one_more : (s u : Seen) (m : Matched) (r : Found) → u ≡ with_match s m → behind_matches s (r >>= λ ms. Ok (m ∷ ms)) ≡ behind_matches u r
one_more s u m (Err e) more = refl
one_more s u m (Ok ms) more =
    ap (λ (x : Seen). let a : Result Seen Fault = Ok x in a) joined
    ∙ ap (λ (x : Seen). behind_matches x (Ok ms)) (sym more)
  where
    joined : with_matches s (m ∷ ms) ≡ with_matches (with_match s m) ms
    joined i = record {
      shapes = sym (append_assoc s.shapes (m.shape ∷ []) (all_shapes ms)) i;
      trees = sym (append_assoc s.trees m.trees (pattern_trees ms)) i;
    }

whole : (s : Seen) → with_matches s [] ≡ s
whole s j = record { shapes = append_none s.shapes j; trees = append_none s.trees j }

-- ---- each against one type

pub matches_next : (t : Tests) (all : Result Seen Fault) (ps : List Pattern) (i : ℕ) (p : Pattern) (s u : Seen) (m : Matched) (T : Ty) (G : Scope) →
    i < length ps → p ≡ get_or ps i p → found_pattern t p T G ≡ Ok m → u ≡ with_match s m →
    all ≡ behind_matches s (all_match (found_patterns t (drop i ps)) T G) → all ≡ behind_matches u (all_match (found_patterns t (drop (i + 1) ps)) T G)
matches_next t all ps i p s u m T G within here w more before =
    before
    ∙ ap (λ xs. behind_matches s (all_match (found_patterns t xs) T G)) (at_next ps i p within here)
    ∙ ap (λ r. behind_matches s (r >>= λ x. all_match (found_patterns t (drop (i + 1) ps)) T G >>= λ xs. Ok (x ∷ xs))) w
    ∙ one_more s u m (all_match (found_patterns t (drop (i + 1) ps)) T G) more

pub matches_stop : (t : Tests) (all : Result Seen Fault) (ps : List Pattern) (i : ℕ) (p : Pattern) (s : Seen) (f : Fault) (T : Ty) (G : Scope) →
    i < length ps → p ≡ get_or ps i p → found_pattern t p T G ≡ Err f →
    all ≡ behind_matches s (all_match (found_patterns t (drop i ps)) T G) → all ≡ Err f
matches_stop t all ps i p s f T G within here w before =
    before
    ∙ ap (λ xs. behind_matches s (all_match (found_patterns t xs) T G)) (at_next ps i p within here)
    ∙ ap (λ r. behind_matches s (r >>= λ x. all_match (found_patterns t (drop (i + 1) ps)) T G >>= λ xs. Ok (x ∷ xs))) w

pub matches_last : (t : Tests) (all : Result Seen Fault) (ps : List Pattern) (i : ℕ) (s : Seen) (T : Ty) (G : Scope) → length ps ≤ i →
    all ≡ behind_matches s (all_match (found_patterns t (drop i ps)) T G) → all ≡ Ok s
matches_last t all ps i s T G past before =
    before
    ∙ ap (λ xs. behind_matches s (all_match (found_patterns t xs) T G)) (drop_all i ps past)
    ∙ ap (λ (x : Seen). let a : Result Seen Fault = Ok x in a) (whole s)

-- ---- each against a part

pub parts_next : (t : Tests) (all : Result Seen Fault) (ps : List Pattern) (Ts : List Ty) (i : ℕ) (p : Pattern) (T : Ty) (s u : Seen) (m : Matched) (G : Scope) →
    i < length ps → i < length Ts → p ≡ get_or ps i p → T ≡ get_or Ts i T → found_pattern t p T G ≡ Ok m → u ≡ with_match s m →
    all ≡ behind_matches s (parts_match (found_patterns t (drop i ps)) (parts_of (drop i Ts)) G) →
    all ≡ behind_matches u (parts_match (found_patterns t (drop (i + 1) ps)) (parts_of (drop (i + 1) Ts)) G)
parts_next t all ps Ts i p T s u m G within inside here there w more before =
    before
    ∙ ap (λ xs. behind_matches s (parts_match (found_patterns t xs) (parts_of (drop i Ts)) G)) (at_next ps i p within here)
    ∙ ap (λ Us. behind_matches s (parts_match (found_patterns t (p ∷ drop (i + 1) ps)) (parts_of Us) G)) (at_next Ts i T inside there)
    ∙ ap (λ r. behind_matches s (r >>= λ x. parts_match (found_patterns t (drop (i + 1) ps)) (parts_of (drop (i + 1) Ts)) G >>= λ xs. Ok (x ∷ xs))) w
    ∙ one_more s u m (parts_match (found_patterns t (drop (i + 1) ps)) (parts_of (drop (i + 1) Ts)) G) more

pub parts_stop : (t : Tests) (all : Result Seen Fault) (ps : List Pattern) (Ts : List Ty) (i : ℕ) (p : Pattern) (T : Ty) (s : Seen) (f : Fault) (G : Scope) →
    i < length ps → i < length Ts → p ≡ get_or ps i p → T ≡ get_or Ts i T → found_pattern t p T G ≡ Err f →
    all ≡ behind_matches s (parts_match (found_patterns t (drop i ps)) (parts_of (drop i Ts)) G) → all ≡ Err f
parts_stop t all ps Ts i p T s f G within inside here there w before =
    before
    ∙ ap (λ xs. behind_matches s (parts_match (found_patterns t xs) (parts_of (drop i Ts)) G)) (at_next ps i p within here)
    ∙ ap (λ Us. behind_matches s (parts_match (found_patterns t (p ∷ drop (i + 1) ps)) (parts_of Us) G)) (at_next Ts i T inside there)
    ∙ ap (λ r. behind_matches s (r >>= λ x. parts_match (found_patterns t (drop (i + 1) ps)) (parts_of (drop (i + 1) Ts)) G >>= λ xs. Ok (x ∷ xs))) w

pub parts_last : (t : Tests) (all : Result Seen Fault) (ps : List Pattern) (Ts : Parts) (i : ℕ) (s : Seen) (G : Scope) → length ps ≤ i →
    all ≡ behind_matches s (parts_match (found_patterns t (drop i ps)) Ts G) → all ≡ Ok s
parts_last t all ps Ts i s G past before =
    before
    ∙ ap (λ xs. behind_matches s (parts_match (found_patterns t xs) Ts G)) (drop_all i ps past)
    ∙ ap (λ (x : Seen). let a : Result Seen Fault = Ok x in a) (whole s)

pub matches_first : (r : Found) → (r >>= λ ms. Ok (with_matches no_matches ms)) ≡ behind_matches no_matches r
matches_first (Ok ms) = refl
matches_first (Err e) = refl

-- ---- as many

pub many : (t : Tests) (ps : List Pattern) (Ts : List Ty) → length Ts ≡ length ps → as_many (found_patterns t ps) (parts_of Ts) ≡ true
many t [] [] e = refl
many t [] (T ∷ Ts) e = absurd (cc e)
many t (p ∷ ps) [] e = absurd (cc e)
many t (p ∷ ps) (T ∷ Ts) e = many t ps Ts (cc e)

pub not_many : (t : Tests) (ps : List Pattern) (Ts : List Ty) → (length Ts ≡ length ps → ⊥) → as_many (found_patterns t ps) (parts_of Ts) ≡ false
not_many t [] [] h = absurd (h refl)
not_many t [] (T ∷ Ts) h = refl
not_many t (p ∷ ps) [] h = refl
not_many t (p ∷ ps) (T ∷ Ts) h = not_many t ps Ts (λ e. h (ap (λ n. suc n) e))

-- ---- sets and tuples

same_shapes : (ms : List Matched) → patterns_from (all_shapes ms) ≡ pattern_shapes ms
same_shapes [] = refl
same_shapes (m ∷ ms) = ap (λ ss. shapes.pattern_and m.shape ss) (same_shapes ms)

pub set_gathered : (b : Bool) (ms : List Matched) → set_from b (with_matches no_matches ms) ≡ set_matched b ms
set_gathered b ms = ap (λ ss. matched (shapes.one_of b ss) (pattern_trees ms)) (same_shapes ms)

pub tuple_gathered : (span : Span) (ms : List Matched) → tuple_from span (with_matches no_matches ms) ≡ matched (shapes.in_parts span (pattern_shapes ms)) (pattern_trees ms)
tuple_gathered span ms = ap (λ ss. matched (shapes.in_parts span ss) (pattern_trees ms)) (same_shapes ms)

pub parts_fit : (t : Tests) (span : Span) (ps : List Pattern) (T : Ty) (o : Option (Bor (List Ty))) (Ts : Bor (List Ty)) → option_map (λ ts. parts_of ts.now) o ≡ tuple_parts T → o ≡ Some Ts →
    length Ts.now ≡ length ps → parts_for span (found_patterns t ps) T ≡ Ok (parts_of Ts.now)
parts_fit t span ps T o Ts is there e =
    ap (λ x. found_or x T23 span >>= λ Us. need (as_many (found_patterns t ps) Us) T23 span >> Ok Us) (sym is ∙ ap (λ x. option_map (λ (ts : Bor (List Ty)). parts_of ts.now) x) there)
    ∙ ap (λ b. need b T23 span >> Ok (parts_of Ts.now)) (many t ps Ts.now e)

pub parts_apart : (t : Tests) (span : Span) (ps : List Pattern) (T : Ty) (o : Option (Bor (List Ty))) (Ts : Bor (List Ty)) → option_map (λ ts. parts_of ts.now) o ≡ tuple_parts T → o ≡ Some Ts →
    (length Ts.now ≡ length ps → ⊥) → parts_for span (found_patterns t ps) T ≡ fault T23 span
parts_apart t span ps T o Ts is there e =
    ap (λ x. found_or x T23 span >>= λ Us. need (as_many (found_patterns t ps) Us) T23 span >> Ok Us) (sym is ∙ ap (λ x. option_map (λ (ts : Bor (List Ty)). parts_of ts.now) x) there)
    ∙ ap (λ b. need b T23 span >> Ok (parts_of Ts.now)) (not_many t ps Ts.now e)

-- ---- widths that are numbers

weighs : (n : ℕ) → weight (constant_map (pos n)).terms ≡ n
unfolding constant_map
weighs n = by (n == 0) refl
  where
    by : (b : Bool) → (n == 0) ≡ b → weight (cond b [] (constant_term (pos n) ∷ [])) ≡ n
    by true e = grind (arith, nat_tests, e)
    by false e = omega arith

pub too_large : (t : Tests) (r : Suits t) (p : Polynomial) (n : ℕ) → (ConstantFits (pos n) → ⊥) → false ≡ t.same p (constant_map (pos n))
too_large t r p n h = by (t.same p (constant_map (pos n))) refl
  where
    by : (b : Bool) → t.same p (constant_map (pos n)) ≡ b → false ≡ b
    by false e = refl
    by true e = absurd (h (record { light = omega (arith, (r.right.same_yes p (constant_map (pos n)) e).right.map.light, weighs n) }))
