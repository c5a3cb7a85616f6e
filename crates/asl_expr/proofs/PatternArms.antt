-- Patterns whose parts are in lists.
use Rattle.std.proofs.Common.{◌≡◌, Bool, true, false, List, Option, Some, None, Result, Ok, Err, refl, sym, ap, subst, ◌∙◌}
use Rattle.asl_syn.specs.declared.code.Fault.{Fault}
use Rattle.asl_syn.specs.declared.code.StaticCode.TheVariants.{T23}
use Rattle.asl_syn.specs.declared.token.Span.{Span}
use Rattle.asl_syn.specs.declared.tree.Pattern.{Pattern}
use Rattle.asl_syn.specs.declared.tree.Pattern.TheVariants as pv
use Rattle.asl_syn.specs.declared.tree.Bitfield.TheOpen as ex
use Rattle.asl_syn.specs.declared.tree.Bitfield.TheFolds.{fold-roll-Pattern}
use Rattle.asl_syn.specs.declared.tree.Expr.{Expr}
use Rattle.asl_rules.specs.expressions.Exprs.{FoundField, found, found_pattern, bitfield_rule, part_rule, expr_rule, given_rule, pattern_rule, slice_rule, type_rule}
use Rattle.asl_rules.specs.Faults.{◌>>=◌, ◌>>◌, need, found_or}
use Rattle.asl_rules.specs.expressions.Patterns.{pure_typed, range_matched, FoundPattern, Matched, matched, all_match, parts_match, as_many, set_matched, tuple_pattern_rule, pattern_shapes, pattern_trees}
use Rattle.asl_rules.specs.declarations.Scopes.{Scope}
use Rattle.asl_rules.specs.types.Shapes as shapes
use Rattle.asl_rules.specs.expressions.Slicing.{FoundSlice}
use Rattle.asl_rules.specs.Tests.{Tests}
use Rattle.asl_rules.specs.types.Types.{Ty, Parts, tuple_parts}
use Rattle.asl_rules.specs.expressions.Typing.{Found}
use Rattle.asl_rules.specs.types.Writing.{FoundPart, FoundBitfield, FoundType}
use Rattle.asl_syn.specs.declared.code.Refused.{Refused}
use Rattle.asl_syn.specs.declared.code.Refused.TheVariants.{At, NoMemory}
use Rattle.asl_types.specs.private.Answers.{Met}
use Rattle.asl_expr.specs.declared.patterns.Matched as code
use Rattle.asl_expr.specs.PatternViews.{matched_of, matches_view, found_patterns, Seen, no_matches, with_matches, set_from, tuple_from, parts_for}
use Rattle.asl_expr.proofs.Collecting.{collected, failed}
use Rattle.asl_expr.proofs.PatternLemmas.{set_gathered, tuple_gathered}

abbrev Answer : Type 0
Answer = Result Matched Fault

-- ---- sets

-- patterns that were gathered, as a set
pub set_is : (ps : List FoundPattern) (b : Bool) (s : Seen) (m : Matched) (T : Ty) (G : Scope) →
    (all_match ps T G >>= λ ms. Ok (with_matches no_matches ms)) ≡ Ok s → m ≡ set_from b s → (all_match ps T G >>= λ ms. Ok (set_matched b ms)) ≡ Ok m
set_is ps b s m T G all made =
    collected (all_match ps T G) (λ ms. with_matches no_matches ms) s (λ ms. Ok (set_matched b ms)) (λ x. let a : Answer = Ok (set_from b x) in a) (λ ms. ap (λ (x : Matched). let a : Answer = Ok x in a) (set_gathered b ms)) all
    ∙ ap (λ (x : Matched). let a : Answer = Ok x in a) (sym made)

pub set_stops : (ps : List FoundPattern) (b : Bool) (f : Fault) (T : Ty) (G : Scope) →
    (all_match ps T G >>= λ ms. Ok (with_matches no_matches ms)) ≡ Err f → (all_match ps T G >>= λ ms. Ok (set_matched b ms)) ≡ Err f
set_stops ps b f T G stops = failed (all_match ps T G) (λ ms. with_matches no_matches ms) f (λ ms. Ok (set_matched b ms)) stops

set_rolled : (t : Tests) (p : Pattern) (span : Span) (b : Bool) (ps qs : List Pattern) (T : Ty) (G : Scope) → p ≡ pv.SetPattern span b ps → qs ≡ ps →
    found_pattern t p T G ≡ (all_match (found_patterns t qs) T G >>= λ ms. Ok (set_matched b ms))
set_rolled t p span b ps qs T G is same =
    ap (λ u. found_pattern t u T G) (is ∙ sym (pv.rolls-SetPattern span b ps))
    ∙ ap (λ (f : FoundPattern). f T G) (fold-roll-Pattern FoundBitfield FoundPart Found FoundField FoundPattern FoundSlice FoundType bitfield_rule part_rule (expr_rule t) given_rule (pattern_rule t) slice_rule (type_rule t) (ex.SetPattern span b ps))
    ∙ ap (λ xs. all_match (found_patterns t xs) T G >>= λ ms. Ok (set_matched b ms)) (sym same)

pub set_met : (t : Tests) (p : Pattern) (span : Span) (b : Bool) (ps qs : List Pattern) (T : Ty) (G : Scope) (r : Result code.Matched Refused) → p ≡ pv.SetPattern span b ps → qs ≡ ps →
    Met matched_of r (all_match (found_patterns t qs) T G >>= λ ms. Ok (set_matched b ms)) → Met matched_of r (found_pattern t p T G)
set_met t p span b ps qs T G r is same h = subst (λ (z : Answer). Met matched_of r z) (sym (set_rolled t p span b ps qs T G is same)) h

-- ---- tuples

by_parts : (ps : List FoundPattern) (span : Span) (o : Option Parts) (f : Parts → Answer) →
    (found_or o T23 span >>= λ Ts. need (as_many ps Ts) T23 span >> f Ts) ≡ ((found_or o T23 span >>= λ Ts. need (as_many ps Ts) T23 span >> Ok Ts) >>= f)
by_parts ps span None f = refl
by_parts ps span (Some Ts) f = by (as_many ps Ts)
  where
    by : (b : Bool) → (need b T23 span >> f Ts) ≡ ((need b T23 span >> Ok Ts) >>= f)
    by true = refl
    by false = refl

abbrev of_parts : Span → List FoundPattern → Scope → Parts → Answer
of_parts span ps G Ts = parts_match ps Ts G >>= λ ms. Ok (matched (shapes.in_parts span (pattern_shapes ms)) (pattern_trees ms))

pub tuple_is : (span : Span) (ps : List FoundPattern) (Ts : Parts) (s : Seen) (m : Matched) (T : Ty) (G : Scope) → parts_for span ps T ≡ Ok Ts →
    (parts_match ps Ts G >>= λ ms. Ok (with_matches no_matches ms)) ≡ Ok s → m ≡ tuple_from span s → tuple_pattern_rule span ps T G ≡ Ok m
tuple_is span ps Ts s m T G fits all made =
    by_parts ps span (tuple_parts T) (of_parts span ps G)
    ∙ ap (λ r. r >>= of_parts span ps G) fits
    ∙ collected (parts_match ps Ts G) (λ ms. with_matches no_matches ms) s (λ ms. Ok (matched (shapes.in_parts span (pattern_shapes ms)) (pattern_trees ms))) (λ x. let a : Answer = Ok (tuple_from span x) in a)
    (λ ms. ap (λ (x : Matched). let a : Answer = Ok x in a) (tuple_gathered span ms)) all
    ∙ ap (λ (x : Matched). let a : Answer = Ok x in a) (sym made)

pub tuple_apart : (span : Span) (ps : List FoundPattern) (f : Fault) (T : Ty) (G : Scope) → parts_for span ps T ≡ Err f → tuple_pattern_rule span ps T G ≡ Err f
tuple_apart span ps f T G apart = by_parts ps span (tuple_parts T) (of_parts span ps G) ∙ ap (λ r. r >>= of_parts span ps G) apart

pub tuple_stops : (span : Span) (ps : List FoundPattern) (Ts : Parts) (f : Fault) (T : Ty) (G : Scope) → parts_for span ps T ≡ Ok Ts →
    (parts_match ps Ts G >>= λ ms. Ok (with_matches no_matches ms)) ≡ Err f → tuple_pattern_rule span ps T G ≡ Err f
tuple_stops span ps Ts f T G fits stops =
    by_parts ps span (tuple_parts T) (of_parts span ps G)
    ∙ ap (λ r. r >>= of_parts span ps G) fits
    ∙ failed (parts_match ps Ts G) (λ ms. with_matches no_matches ms) f (λ ms. Ok (matched (shapes.in_parts span (pattern_shapes ms)) (pattern_trees ms))) stops

-- ---- refusals

pub parts_refused : {A : Type 0} (view : A → Parts) (r : Result A Refused) (q : Result Parts Fault) (f : Fault) → r ≡ Err (At f) → q ≡ Err f → Met view r q
parts_refused view r q f is e = subst (λ x. Met view x q) (sym is) e

pub tuple_refused : {A : Type 0} (view : A → Parts) (span : Span) (ps : List FoundPattern) (T : Ty) (G : Scope) (e : Refused) (r : Result code.Matched Refused) → r ≡ Err e →
    Met view (Err e) (parts_for span ps T) → Met matched_of r (tuple_pattern_rule span ps T G)
tuple_refused view span ps T G (At f) r is h = subst (λ (x : Result code.Matched Refused). Met matched_of x (tuple_pattern_rule span ps T G)) (sym is) (tuple_apart span ps f T G h)
tuple_refused view span ps T G NoMemory r is h = subst (λ (x : Result code.Matched Refused). Met matched_of x (tuple_pattern_rule span ps T G)) (sym is) tt

pub tuple_stopped : (span : Span) (ps : List FoundPattern) (Ts : Parts) (T : Ty) (G : Scope) (e : Refused) (r : Result code.Matched Refused) → r ≡ Err e → parts_for span ps T ≡ Ok Ts →
    Met matches_view (Err e) (parts_match ps Ts G >>= λ ms. Ok (with_matches no_matches ms)) → Met matched_of r (tuple_pattern_rule span ps T G)
tuple_stopped span ps Ts T G (At f) r is fits h = subst (λ (x : Result code.Matched Refused). Met matched_of x (tuple_pattern_rule span ps T G)) (sym is) (tuple_stops span ps Ts f T G fits h)
tuple_stopped span ps Ts T G NoMemory r is fits h = subst (λ (x : Result code.Matched Refused). Met matched_of x (tuple_pattern_rule span ps T G)) (sym is) tt

tuple_rolled : (t : Tests) (p : Pattern) (span : Span) (ps qs : List Pattern) (T : Ty) (G : Scope) → p ≡ pv.TuplePattern span ps → qs ≡ ps →
    found_pattern t p T G ≡ tuple_pattern_rule span (found_patterns t qs) T G
tuple_rolled t p span ps qs T G is same =
    ap (λ u. found_pattern t u T G) (is ∙ sym (pv.rolls-TuplePattern span ps))
    ∙ ap (λ (f : FoundPattern). f T G) (fold-roll-Pattern FoundBitfield FoundPart Found FoundField FoundPattern FoundSlice FoundType bitfield_rule part_rule (expr_rule t) given_rule (pattern_rule t) slice_rule (type_rule t) (ex.TuplePattern span ps))
    ∙ ap (λ xs. tuple_pattern_rule span (found_patterns t xs) T G) (sym same)

pub tuple_met : (t : Tests) (p : Pattern) (span : Span) (ps qs : List Pattern) (T : Ty) (G : Scope) (r : Result code.Matched Refused) → p ≡ pv.TuplePattern span ps → qs ≡ ps →
    Met matched_of r (tuple_pattern_rule span (found_patterns t qs) T G) → Met matched_of r (found_pattern t p T G)
tuple_met t p span ps qs T G r is same h = subst (λ (z : Answer). Met matched_of r z) (sym (tuple_rolled t p span ps qs T G is same)) h

-- ---- ranges

range_rolled : (t : Tests) (p : Pattern) (span : Span) (a b : Expr) (T : Ty) (G : Scope) → p ≡ pv.RangePattern span a b →
    found_pattern t p T G ≡ (pure_typed (found t a) G >>= λ S. pure_typed (found t b) G >>= λ U. range_matched span T S U)
range_rolled t p span a b T G is =
    ap (λ u. found_pattern t u T G) (is ∙ sym (pv.rolls-RangePattern span a b))
    ∙ ap (λ (f : FoundPattern). f T G) (fold-roll-Pattern FoundBitfield FoundPart Found FoundField FoundPattern FoundSlice FoundType bitfield_rule part_rule (expr_rule t) given_rule (pattern_rule t) slice_rule (type_rule t) (ex.RangePattern span a b))

pub range_met : (t : Tests) (p : Pattern) (span : Span) (a b : Expr) (T : Ty) (G : Scope) (r : Result code.Matched Refused) → p ≡ pv.RangePattern span a b →
    Met matched_of r (pure_typed (found t a) G >>= λ S. pure_typed (found t b) G >>= λ U. range_matched span T S U) → Met matched_of r (found_pattern t p T G)
range_met t p span a b T G r is h = subst (λ (z : Answer). Met matched_of r z) (sym (range_rolled t p span a b T G is)) h
