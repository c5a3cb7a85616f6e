-- The rules of expressions, patterns and written types stay under a wider limit, where they do so for the parts.
use Rattle.std.proofs.Common.{◌≡◌, ℕ, suc, ◌≤◌, Bool, true, false, cond, ◌||◌, List, [], ◌∷◌, length, Option, Some, None, Ok, Err, refl}
use Rattle.std.proofs.Common.{sym, ap, ap₂, subst, ◌∙◌}
use Rattle.std.specs.Prelude.{Result, ◌==◌, nat_le, ℤ, pos, negsuc}
use Rattle.asl_syn.specs.declared.token.Span.{Span}
use Rattle.asl_syn.specs.declared.code.Fault.{Fault}
use Rattle.asl_syn.specs.declared.code.StaticCode.TheVariants.{S03, T05, T06, T11, T18, T19, T20, T23}
use Rattle.asl_syn.specs.declared.tree.Ident.{Ident}
use Rattle.asl_syn.specs.declared.tree.BinaryOperator.{BinaryOperator}
use Rattle.asl_syn.specs.declared.tree.BinaryOperator.TheVariants as binary
use Rattle.asl_poly.specs.Terms.{Polynomial}
use Rattle.asl_poly.specs.Poly.{constant_value, constant_map}
use Rattle.asl_rules.specs.declared.effect.Effect.{Effect}
use Rattle.asl_rules.specs.declared.effect.Effect.TheVariants.{Pure}
use Rattle.asl_rules.specs.Faults.{◌>>=◌, ◌>>◌, need, found_or, fitted}
use Rattle.asl_rules.specs.Tests.{Tests}
use Rattle.asl_rules.specs.types.Types as ty
use Rattle.asl_rules.specs.types.Types.{Ty, Parts, Widths, no_part, part, tuple_parts, misfit, misfit_inside, misfit_of_parts}
use Rattle.asl_rules.specs.types.Types.{or_else, by_names, joined, join, same_kind, integer_of, boolean, bits_of, enumeration_of, record_of}
use Rattle.asl_rules.specs.types.Types.{exception_of, tuple_of, array_of, named, parts_of, element_of, width_of, is_bits}
use Rattle.asl_rules.specs.types.Types.{is_boolean, substitute, only_width}
use Rattle.asl_rules.specs.types.Effects.{together, greater, all_together, greatest}
use Rattle.asl_rules.specs.declarations.Routines.{Routine, routine_named}
use Rattle.asl_rules.specs.runs.Trees as tree
use Rattle.asl_rules.specs.declarations.Scopes.{Scope, Signature, Param, Chosen, type_of_name, with_class}
use Rattle.asl_rules.specs.types.Widths.{Total, plus, totalled, width_combined, width_divided, number_combined, number_divided}
use Rattle.asl_rules.specs.declared.joining.Joining.{Joining}
use Rattle.asl_rules.specs.declared.joining.Joining.TheVariants.{Combines, Divides, JoinsNothing}
use Rattle.asl_rules.specs.types.Arithmetic.{reading_of_two}
use Rattle.asl_rules.specs.expressions.Typing.{Found, Typed, Width, Number, Operand, width_as, number_as, operand, operands, finish}
use Rattle.asl_rules.specs.expressions.Operations.{operation_of_two, binary_rule}
use Rattle.asl_rules.specs.values.Members.{element_at, construction, constructed, given_once, all_fit}
use Rattle.asl_rules.specs.expressions.Slicing.{FoundSlice, all_operands, all_add, no_width, sliced_width, sliceable, slices_behind}
use Rattle.asl_rules.specs.expressions.Slicing.{slices_rule, shapes_of, high_low_found}
use Rattle.asl_rules.specs.types.Writing.{FoundPart, FoundBitfield, FoundType, range_of_widths, range_of_numbers, range_rule, one_width}
use Rattle.asl_rules.specs.types.Writing.{one_number, only_rule, all_parts, integer_written, integer_rule, end_rule, one_bit_rule}
use Rattle.asl_rules.specs.types.Writing.{bit_range_rule, all_fields, view_rule, width_is_held, within_limits, bits_rule, types_in_order}
use Rattle.asl_rules.specs.types.Writing.{tuple_written, array_rule, as_rule}
use Rattle.asl_rules.specs.expressions.Patterns.{FoundPattern, all_match, as_many, parts_match, mask_matched, pure_typed}
use Rattle.asl_rules.specs.expressions.Patterns.{tuple_pattern_rule, in_rule}
use Rattle.asl_rules.specs.expressions.Calls.{Given, Replacing, given, written_first, widths_given, widths_rule, replaced_by, fits_replaced}
use Rattle.asl_rules.specs.expressions.Calls.{fits_written, params_fit, arguments_fit, both_fit, call_begun, chosen, routine_params}
use Rattle.asl_rules.specs.expressions.Calls.{routine_taken, routine_called, function_called, function_of, function_rule, procedure_called}
use Rattle.asl_rules.specs.expressions.Calls.{procedure_of, procedure_rule}
use Rattle.asl_rules.specs.expressions.Exprs.{FoundField, bits_rule_of, apart, conditional_of, conditional_rule, operation_rule_of_two}
use Rattle.asl_rules.specs.expressions.Exprs.{tuple_rule, values_given, names_given, construct_rule, element_rule, width_of as read_width, number_of, names_atom}
use Rattle.asl_rules.specs.expressions.Exprs.{combined_tree, divided_tree}
use Rattle.asl_rules.specs.values.Vectors.{literal_digits, literal_of}
use Rattle.asl_laws.proofs.wider.Steps.{within_both}
use Rattle.asl_laws.proofs.wider.Stays.{Stays, stays_same, stays_equal, stays_bind, stays_step, stays_then, stays_after, stays_need}
use Rattle.asl_laws.proofs.wider.Stays.{stays_found, Pairs}

-- ---- what is found at parts

-- the type stays, and what it is as a width is the same
pub record FoundStays (e f : Found) : Type 0 where
  pub span_same : f.span ≡ e.span
  pub typed_stays : (G : Scope) → Stays (e.typed G) (f.typed G)
  pub width_same : (G : Scope) → f.width G ≡ e.width G
  pub number_same : (G : Scope) → f.number G ≡ e.number G
  pub atom_same : (G : Scope) → f.has_atom G ≡ e.has_atom G
  pub divisor_same : f.divisor ≡ e.divisor

-- ---- operations in widths

-- a divisor, and where it stands
abbrev divisor_of : Found → Option ℕ × Span
divisor_of f = (f.divisor, f.span)

divisors_same : (e f : Found) → FoundStays e f → divisor_of f ≡ divisor_of e
divisors_same e f s = ap₂ (λ d span. (d, span)) s.divisor_same s.span_same

pub two_width : (span : Span) (j : Joining) (e f g h : Found) (G : Scope) → FoundStays e g → FoundStays f h →
    read_width span (reading_of_two j g h) G ≡ read_width span (reading_of_two j e f) G
two_width span (Combines o) e f g h G s t =
    ap₂ (λ (x y : Result Width Fault). x >>= λ p. y >>= λ q. width_combined span o p.poly q.poly >>= λ r. Ok
    (width_as r (combined_tree span o p.tree q.tree)))
    (s.width_same G) (t.width_same G)
two_width span Divides e f g h G s t =
    ap₂ (λ (x : Result Width Fault) (d : Option ℕ × Span). x >>= λ p. found_or d.0 T19 span >>= λ k. width_divided span p.poly k >>= λ r. Ok
    (width_as r (divided_tree span p.tree d.1 k)))
    (s.width_same G) (divisors_same f h t)
two_width span JoinsNothing e f g h G s t = refl

pub two_number : (span : Span) (j : Joining) (e f g h : Found) (G : Scope) → FoundStays e g → FoundStays f h →
    number_of span (reading_of_two j g h) G ≡ number_of span (reading_of_two j e f) G
two_number span (Combines o) e f g h G s t =
    ap₂ (λ (x y : Result Number Fault). x >>= λ p. y >>= λ q. number_combined span o p.number q.number >>= λ n. Ok
    (number_as n (combined_tree span o p.tree q.tree)))
    (s.number_same G) (t.number_same G)
two_number span Divides e f g h G s t =
    ap₂ (λ (x : Result Number Fault) (d : Option ℕ × Span). x >>= λ p. found_or d.0 T19 span >>= λ k. number_divided span p.number k
    >>= λ n. Ok (number_as n (divided_tree span p.tree d.1 k)))
    (s.number_same G) (divisors_same f h t)
two_number span JoinsNothing e f g h G s t = refl

pub two_atom : (j : Joining) (e f g h : Found) (G : Scope) → FoundStays e g → FoundStays f h →
    names_atom (reading_of_two j g h) G ≡ names_atom (reading_of_two j e f) G
two_atom (Combines o) e f g h G s t = ap₂ (λ x y. x || y) (s.atom_same G) (t.atom_same G)
two_atom Divides e f g h G s t = ap₂ (λ x y. x || y) (s.atom_same G) (t.atom_same G)
two_atom JoinsNothing e f g h G s t = refl

pub record SliceStays (s q : FoundSlice) : Type 0 where
  pub operands_stay : (G : Scope) → Stays (s.operands G) (q.operands G)
  pub adds_same : (x : Total) (G : Scope) → q.adds x G ≡ s.adds x G
  pub shape_same : q.shape ≡ s.shape

pub record GivenStays (g h : FoundField) : Type 0 where
  pub name_same : h.name ≡ g.name
  pub value_stays : FoundStays g.value h.value

pub record TypeStays (w v : FoundType) : Type 0 where
  pub span_same : v.span ≡ w.span
  pub ty_stays : (outside : Bool) (G : Scope) → Stays (w.ty outside G) (v.ty outside G)

abbrev pub PatternStays : FoundPattern → FoundPattern → Type 0
PatternStays p q = (T : Ty) (G : Scope) → Stays (p T G) (q T G)

abbrev pub PartSame : FoundPart → FoundPart → Type 0
PartSame p q = (G : Scope) → q G ≡ p G

abbrev pub BitfieldSame : FoundBitfield → FoundBitfield → Type 0
BitfieldSame f g = (G : Scope) → g G ≡ f G

-- ---- operands

pub operands_stay : (es fs : List Found) (G : Scope) → Pairs FoundStays es fs → Stays (operands es G) (operands fs G)
operands_stay [] [] G h = stays_same _
operands_stay [] (f ∷ fs) G h = absurd h
operands_stay (e ∷ es) [] G h = absurd h
operands_stay (e ∷ es) (f ∷ fs) G h =
    subst (λ span. Stays (operands (e ∷ es) G) (f.typed G >>= λ S. operands fs G >>= λ os. Ok (operand span S ∷ os))) (sym h.0.span_same)
    (stays_bind (e.typed G) (f.typed G) _ _ (h.0.typed_stays G)
    (λ S. stays_bind (operands es G) (operands fs G) _ _ (operands_stay es fs G h.1) (λ os. stays_same _)))

pub all_operands_stay : (ss qs : List FoundSlice) (G : Scope) → Pairs SliceStays ss qs → Stays (all_operands ss G) (all_operands qs G)
all_operands_stay [] [] G h = stays_same _
all_operands_stay [] (q ∷ qs) G h = absurd h
all_operands_stay (s ∷ ss) [] G h = absurd h
all_operands_stay (s ∷ ss) (q ∷ qs) G h = stays_bind (s.operands G) (q.operands G) _ _ (h.0.operands_stay G)
    (λ os. stays_bind (all_operands ss G) (all_operands qs G) _ _ (all_operands_stay ss qs G h.1) (λ ps. stays_same _))

-- answers that are the same
pub bind_same : {X Y : Type 0} (r s : Result X Fault) (f g : X → Result Y Fault) → s ≡ r → ((x : X) → g x ≡ f x) → (s >>= g) ≡ (r >>= f)
bind_same r s f g e k = ap (λ z. z >>= g) e ∙ on r
  where
    on : (z : Result _ Fault) → (z >>= g) ≡ (z >>= f)
    on (Ok x) = k x
    on (Err d) = refl

first_same : {X Y : Type 0} (r s : Result X Fault) (f : X → Result Y Fault) → s ≡ r → (s >>= f) ≡ (r >>= f)
first_same r s f e = ap (λ z. z >>= f) e

then_same : {Y : Type 0} (r s : Result (Unit {0}) Fault) (x : Result Y Fault) → s ≡ r → (s >> x) ≡ (r >> x)
then_same r s x e = ap (λ z. z >> x) e

adds_same : (ss qs : List FoundSlice) (x : Total) (G : Scope) → Pairs SliceStays ss qs → all_add qs x G ≡ all_add ss x G
adds_same [] [] x G h = refl
adds_same [] (q ∷ qs) x G h = absurd h
adds_same (s ∷ ss) [] x G h = absurd h
adds_same (s ∷ ss) (q ∷ qs) x G h = bind_same (s.adds x G) (q.adds x G) (λ y. all_add ss y G) (λ y. all_add qs y G) (h.0.adds_same x G)
    (λ y. adds_same ss qs y G h.1)

pub sliced_same : (span : Span) (ss qs : List FoundSlice) (G : Scope) → Pairs SliceStays ss qs →
    sliced_width span qs G ≡ sliced_width span ss G
sliced_same span ss qs G h = ap (λ r. r >>= λ x. totalled span x) (adds_same ss qs no_width G h)

pub shapes_same : (ss qs : List FoundSlice) → Pairs SliceStays ss qs → shapes_of qs ≡ shapes_of ss
shapes_same [] [] h = refl
shapes_same [] (q ∷ qs) h = absurd h
shapes_same (s ∷ ss) [] h = absurd h
shapes_same (s ∷ ss) (q ∷ qs) h = ap₂ (λ x xs. x ∷ xs) h.0.shape_same (shapes_same ss qs h.1)

lengths_same : (es fs : List Found) → Pairs FoundStays es fs → length fs ≡ length es
lengths_same [] [] h = refl
lengths_same [] (f ∷ fs) h = absurd h
lengths_same (e ∷ es) [] h = absurd h
lengths_same (e ∷ es) (f ∷ fs) h = ap suc (lengths_same es fs h.1)

widths_same : (es fs : List Found) (G : Scope) → Pairs FoundStays es fs → widths_given fs G ≡ widths_given es G
widths_same [] [] G h = refl
widths_same [] (f ∷ fs) G h = absurd h
widths_same (e ∷ es) [] G h = absurd h
widths_same (e ∷ es) (f ∷ fs) G h =
    ap (λ span. f.width G >>= λ w. widths_given fs G >>= λ r. Ok (written_first (given w.poly span) w.tree r)) h.0.span_same
    ∙ ap₂ (λ p q. p >>= λ w. q >>= λ r. Ok (written_first (given w.poly e.span) w.tree r)) (h.0.width_same G) (widths_same es fs G h.1)

rule_same : (span : Span) (s : Signature) (es fs : List Found) (os : List Operand) (G : Scope) → Pairs FoundStays es fs →
    widths_rule span s fs os G ≡ widths_rule span s es os G
rule_same span s [] [] os G h = refl
rule_same span s [] (f ∷ fs) os G h = absurd h
rule_same span s (e ∷ es) [] os G h = absurd h
rule_same span s (e ∷ es) (f ∷ fs) os G h = ap₂ (λ n r. need (n == length s.params) T11 span >> r) (lengths_same (e ∷ es) (f ∷ fs) h)
    (widths_same (e ∷ es) (f ∷ fs) G h)

-- ---- ends of constraints and of bitfields

pub range_same : (a b c d : Found) (G : Scope) → FoundStays a c → FoundStays b d → range_rule c d G ≡ range_rule a b G
range_same a b c d G h i =
    ap₂ (λ x y. cond (x || y) (range_of_widths c d G) (range_of_numbers c d G)) (h.atom_same G) (i.atom_same G)
    ∙ ap₂ (λ p q. cond (a.has_atom G || b.has_atom G) p q) wide numbers
  where
    wide : range_of_widths c d G ≡ range_of_widths a b G
    wide = bind_same (a.width G) (c.width G) _ _ (h.width_same G) (λ p. first_same (b.width G) (d.width G) _ (i.width_same G))

    numbers : range_of_numbers c d G ≡ range_of_numbers a b G
    numbers = bind_same (a.number G) (c.number G) _ _ (h.number_same G) (λ p. first_same (b.number G) (d.number G) _ (i.number_same G))

pub only_same : (e f : Found) (G : Scope) → FoundStays e f → only_rule f G ≡ only_rule e G
only_same e f G h = ap (λ b. cond b (one_width f G) (one_number f G)) (h.atom_same G) ∙ ap₂ (λ p q. cond (e.has_atom G) p q) wide number
  where
    wide : one_width f G ≡ one_width e G
    wide = first_same (e.width G) (f.width G) _ (h.width_same G)

    number : one_number f G ≡ one_number e G
    number = first_same (e.number G) (f.number G) _ (h.number_same G)

end_same : (e f : Found) (G : Scope) → FoundStays e f → end_rule f G ≡ end_rule e G
end_same e f G h = ap₂ (λ r span. r >>= λ (p : Width). Ok (record { span = span; width = p.poly; tree = p.tree })) (h.width_same G)
    h.span_same

pub one_bit_same : (e f : Found) (i : Ident) (G : Scope) → FoundStays e f → one_bit_rule f i G ≡ one_bit_rule e i G
one_bit_same e f i G h = first_same (end_rule e G) (end_rule f G) _ (end_same e f G h)

pub bit_range_same : (a b c d : Found) (i : Ident) (G : Scope) → FoundStays a c → FoundStays b d →
    bit_range_rule c d i G ≡ bit_range_rule a b i G
bit_range_same a b c d i G h k = bind_same (end_rule a G) (end_rule c G) _ _ (end_same a c G h)
    (λ x. first_same (end_rule b G) (end_rule d G) _ (end_same b d G k))

pub parts_same : (ps qs : List FoundPart) (G : Scope) → Pairs PartSame ps qs → all_parts qs G ≡ all_parts ps G
parts_same [] [] G h = refl
parts_same [] (q ∷ qs) G h = absurd h
parts_same (p ∷ ps) [] G h = absurd h
parts_same (p ∷ ps) (q ∷ qs) G h = bind_same (p G) (q G) _ _ (h.0 G) (λ x. ap (λ r. r >>= λ xs. Ok (x ∷ xs)) (parts_same ps qs G h.1))

fields_same : (fs gs : List FoundBitfield) (G : Scope) → Pairs BitfieldSame fs gs → all_fields gs G ≡ all_fields fs G
fields_same [] [] G h = refl
fields_same [] (g ∷ gs) G h = absurd h
fields_same (f ∷ fs) [] G h = absurd h
fields_same (f ∷ fs) (g ∷ gs) G h = bind_same (f G) (g G) _ _ (h.0 G) (λ x. ap (λ r. r >>= λ xs. Ok (x ∷ xs)) (fields_same fs gs G h.1))

-- ---- slices

pub high_low_adds : (a b c d : Found) (x : Total) (G : Scope) → FoundStays a c → FoundStays b d →
    (high_low_found c d).adds x G ≡ (high_low_found a b).adds x G
high_low_adds a b c d x G h i = bind_same (a.width G) (c.width G) _ _ (h.width_same G)
    (λ p. first_same (b.width G) (d.width G) _ (i.width_same G))

pub second_adds : (b d : Found) (x : Total) (G : Scope) → FoundStays b d →
    (d.width G >>= λ p. Ok (plus x p.poly)) ≡ (b.width G >>= λ p. Ok (plus x p.poly))
second_adds b d x G h = ap (λ r. r >>= λ (p : Width). Ok (plus x p.poly)) (h.width_same G)

pub slices_stay : (span : Span) (a b : Found) (ss qs : List FoundSlice) (G : Scope) → FoundStays a b → Pairs SliceStays ss qs →
    Stays (slices_rule span a ss G) (slices_rule span b qs G)
slices_stay span a b ss qs G h i =
    stays_bind (a.typed G) (b.typed G) _ _ (h.typed_stays G)
    (λ S. stays_bind (all_operands ss G) (all_operands qs G) _ _ (all_operands_stay ss qs G i) (λ os.
    stays_after (sliceable span S.ty os) _ _
    (stays_equal _ _ (ap₂ (λ r hs. r >>= λ w. slices_behind G.class span S hs os w) (sliced_same span ss qs G i) (shapes_same ss qs i)))))

-- ---- patterns

pub all_match_stay : (ps qs : List FoundPattern) (T : Ty) (G : Scope) → Pairs PatternStays ps qs →
    Stays (all_match ps T G) (all_match qs T G)
all_match_stay [] [] T G h = stays_same _
all_match_stay [] (q ∷ qs) T G h = absurd h
all_match_stay (p ∷ ps) [] T G h = absurd h
all_match_stay (p ∷ ps) (q ∷ qs) T G h = stays_bind (p T G) (q T G) _ _ (h.0 T G)
    (λ n. stays_bind (all_match ps T G) (all_match qs T G) _ _ (all_match_stay ps qs T G h.1) (λ ns. stays_same _))

many_same : (ps qs : List FoundPattern) (Ts : Parts) → Pairs PatternStays ps qs → as_many qs Ts ≡ as_many ps Ts
many_same [] [] Ts h = refl
many_same [] (q ∷ qs) Ts h = absurd h
many_same (p ∷ ps) [] Ts h = absurd h
many_same (p ∷ ps) (q ∷ qs) no_part h = refl
many_same (p ∷ ps) (q ∷ qs) (part T Ts) h = many_same ps qs Ts h.1

parts_match_stay : (ps qs : List FoundPattern) (Ts : Parts) (G : Scope) → Pairs PatternStays ps qs →
    Stays (parts_match ps Ts G) (parts_match qs Ts G)
parts_match_stay [] [] Ts G h = stays_same _
parts_match_stay [] (q ∷ qs) Ts G h = absurd h
parts_match_stay (p ∷ ps) [] Ts G h = absurd h
parts_match_stay (p ∷ ps) (q ∷ qs) no_part G h = stays_same _
parts_match_stay (p ∷ ps) (q ∷ qs) (part T Ts) G h =
    stays_bind (p T G) (q T G) _ _ (h.0 T G)
    (λ n. stays_bind (parts_match ps Ts G) (parts_match qs Ts G) _ _ (parts_match_stay ps qs Ts G h.1) (λ ns. stays_same _))

pub tuple_pattern_stays : (span : Span) (ps qs : List FoundPattern) (T : Ty) (G : Scope) → Pairs PatternStays ps qs →
    Stays (tuple_pattern_rule span ps T G) (tuple_pattern_rule span qs T G)
tuple_pattern_stays span ps qs T G h =
    stays_step (found_or (tuple_parts T) T23 span) _ _ (λ Ts.
    stays_then (need (as_many ps Ts) T23 span) (need (as_many qs Ts) T23 span) _ _
    (stays_equal _ _ (ap (λ b. need b T23 span) (many_same ps qs Ts h)))
    (stays_bind (parts_match ps Ts G) (parts_match qs Ts G) _ _ (parts_match_stay ps qs Ts G h) (λ ms. stays_same _)))

pub pure_stays : (e f : Found) (G : Scope) → FoundStays e f → Stays (pure_typed e G) (pure_typed f G)
pure_stays e f G h = h.typed_stays (with_class G Pure)

pub in_stays : (span : Span) (a b : Found) (p q : FoundPattern) (G : Scope) → FoundStays a b → PatternStays p q →
    Stays (in_rule span a p G) (in_rule span b q G)
in_stays span a b p q G h i = stays_bind (a.typed G) (b.typed G) _ _ (h.typed_stays G)
    (λ S. stays_bind (p S.ty (with_class G Pure)) (q S.ty (with_class G Pure)) _ _ (i S.ty (with_class G Pure)) (λ n. stays_same _))

-- ---- written types

types_stay : (outside : Bool) (ws vs : List FoundType) (G : Scope) → Pairs TypeStays ws vs →
    Stays (types_in_order outside ws G) (types_in_order outside vs G)
types_stay outside [] [] G h = stays_same _
types_stay outside [] (v ∷ vs) G h = absurd h
types_stay outside (w ∷ ws) [] G h = absurd h
types_stay outside (w ∷ ws) (v ∷ vs) G h = stays_bind (w.ty outside G) (v.ty outside G) _ _ (h.0.ty_stays outside G)
    (λ W. stays_bind (types_in_order outside ws G) (types_in_order outside vs G) _ _ (types_stay outside ws vs G h.1) (λ Ws. stays_same _))

pub tuple_type_stays : (outside : Bool) (span : Span) (ws vs : List FoundType) (G : Scope) → Pairs TypeStays ws vs →
    Stays (types_in_order outside ws G >>= λ Ws. tuple_written span Ws) (types_in_order outside vs G >>= λ Ws. tuple_written span Ws)
tuple_type_stays outside span ws vs G h = stays_bind (types_in_order outside ws G) (types_in_order outside vs G) _ _
    (types_stay outside ws vs G h) (λ Ws. stays_same _)

pub array_stays : (outside : Bool) (span : Span) (e f : Found) (w v : FoundType) (G : Scope) → FoundStays e f → TypeStays w v →
    Stays (array_rule outside span e w G) (array_rule outside span f v G)
array_stays outside span e f w v G h i = stays_bind (e.width G) (f.width G) _ _ (stays_equal _ _ (h.width_same G))
    (λ p. stays_bind (w.ty outside G) (v.ty outside G) _ _ (i.ty_stays outside G) (λ W. stays_same _))

pub as_stays : (span : Span) (a b : Found) (w v : FoundType) (G : Scope) → FoundStays a b → TypeStays w v →
    Stays (as_rule span a w G) (as_rule span b v G)
as_stays span a b w v G h i = stays_bind (a.typed G) (b.typed G) _ _ (h.typed_stays G)
    (λ S. stays_bind (w.ty false G) (v.ty false G) _ _ (i.ty_stays false G) (λ W. stays_same _))

pub integer_stays : (span : Span) (ps qs : List FoundPart) (G : Scope) → Pairs PartSame ps qs →
    Stays (integer_rule span ps G) (integer_rule span qs G)
integer_stays span ps qs G h = stays_equal _ _ (ap (λ r. r >>= λ xs. integer_written span xs) (parts_same ps qs G h))

-- ---- simple rows

pub unary_stays : {Y : Type 0} (a b : Found) (G : Scope) (f : Typed → Result Y Fault) → FoundStays a b →
    Stays (a.typed G >>= f) (b.typed G >>= f)
unary_stays a b G f h = stays_bind (a.typed G) (b.typed G) f f (h.typed_stays G) (λ S. stays_same (f S))

pub element_stays : (span : Span) (a b i j : Found) (G : Scope) → FoundStays a b → FoundStays i j →
    Stays (element_rule span a i G) (element_rule span b j G)
element_stays span a b i j G h k = stays_bind (a.typed G) (b.typed G) _ _ (h.typed_stays G)
    (λ S. unary_stays i j G (λ I. element_at G.class span S I) k)

pub tuple_stays : (span : Span) (es fs : List Found) (G : Scope) → Pairs FoundStays es fs →
    Stays (tuple_rule span es G) (tuple_rule span fs G)
tuple_stays span es fs G h = stays_bind (operands es G) (operands fs G) _ _ (operands_stay es fs G h) (λ os. stays_same _)

begun_stays : (i : Ident) (es fs : List Found) (G : Scope) → Pairs FoundStays es fs → Stays (call_begun i es G) (call_begun i fs G)
begun_stays i es fs G h = stays_bind (operands es G) (operands fs G) _ _ (operands_stay es fs G h) (λ os. stays_same _)

values_pairs : (gs hs : List FoundField) → Pairs GivenStays gs hs → Pairs FoundStays (values_given gs) (values_given hs)
values_pairs [] [] h = tt
values_pairs [] (g ∷ gs) h = absurd h
values_pairs (g ∷ gs) [] h = absurd h
values_pairs (g ∷ gs) (k ∷ ks) h = (h.0.value_stays, values_pairs gs ks h.1)

names_same : (gs hs : List FoundField) → Pairs GivenStays gs hs → names_given hs ≡ names_given gs
names_same [] [] h = refl
names_same [] (g ∷ gs) h = absurd h
names_same (g ∷ gs) [] h = absurd h
names_same (g ∷ gs) (k ∷ ks) h = ap₂ (λ i is. i ∷ is) h.0.name_same (names_same gs ks h.1)

-- ---- the two tests of one program: the second has the wider limit

module _ (t : Tests) (m : ℕ) (le : t.limit ≤ m) where
  abbrev pub wide_tests : Tests
  wide_tests = record t { limit = m }

  -- what doesn't ask for the limit
  mutual
    inside_same : (S T : Ty) → misfit_inside wide_tests S T ≡ misfit_inside t S T
    inside_same (integer_of ps) T = refl
    inside_same boolean T = refl
    inside_same (bits_of w view) T = refl
    inside_same (enumeration_of name ls) T = refl
    inside_same (record_of name fs) T = refl
    inside_same (exception_of name fs) T = refl
    inside_same (tuple_of ss) T = parts_inside_same ss (parts_of T)
    inside_same (array_of n S) T = inside_same S (element_of T)
    inside_same (named name supers S) T = ap (by_names name supers T) (inside_same S T)

    parts_inside_same : (Ss Ts : Parts) → misfit_of_parts wide_tests Ss Ts ≡ misfit_of_parts t Ss Ts
    parts_inside_same no_part Ts = refl
    parts_inside_same (part S Ss) no_part = refl
    parts_inside_same (part S Ss) (part T Ts) = ap₂ or_else (inside_same S T) (parts_inside_same Ss Ts)

  pub misfit_same : (S T : Ty) → misfit wide_tests S T ≡ misfit t S T
  misfit_same S T = ap (λ o. cond (same_kind S T) o (Some T05)) (inside_same S T)

  pub join_same : (S T : Ty) → join wide_tests S T ≡ join t S T
  join_same S T = ap₂ (λ a b. joined a b S T) (misfit_same S T) (misfit_same T S)

  pub fit_same : (S T : Ty) (span : Span) → fitted (misfit wide_tests S T) span ≡ fitted (misfit t S T) span
  fit_same S T span = ap (λ o. fitted o span) (misfit_same S T)

  binary_same : (span : Span) (o : BinaryOperator) (S T : Ty) → binary_rule wide_tests span o S T ≡ binary_rule t span o S T
  binary_same span binary.LogicalAnd S T = refl
  binary_same span o S T = refl

  all_fit_same : (os : List Operand) (Ts : List Ty) → all_fit wide_tests os Ts ≡ all_fit t os Ts
  all_fit_same [] Ts = refl
  all_fit_same (o ∷ os) [] = refl
  all_fit_same (o ∷ os) (T ∷ Ts) = ap₂ (λ r s. r >> s) (fit_same o.typed.ty T o.span) (all_fit_same os Ts)

  replaced_same : (span : Span) (by : Widths) (S T : Ty) (at : Span) →
      fits_replaced wide_tests span by S T at ≡ fits_replaced t span by S T at
  replaced_same span by S T at = bind_same (found_or (substitute by T) T20 span) (found_or (substitute by T) T20 span)
      (λ U. fitted (misfit t S U) at) (λ U. fitted (misfit wide_tests S U) at) refl (λ U. fit_same S U at)

  written_same : (span : Span) (by : Widths) (T : Option Ty) (g : Given) → fits_written wide_tests span by T g ≡ fits_written t span by T g
  written_same span by None g = refl
  written_same span by (Some T) g = replaced_same span by (integer_of (only_width g.width)) T g.span

  params_same : (span : Span) (by : Widths) (ps : List Param) (gs : List Given) →
      params_fit wide_tests span by ps gs ≡ params_fit t span by ps gs
  params_same span by [] gs = refl
  params_same span by (p ∷ ps) [] = refl
  params_same span by (p ∷ ps) (g ∷ gs) = ap₂ (λ r s. r >> s) (written_same span by p.ty g) (params_same span by ps gs)

  arguments_same : (span : Span) (by : Widths) (Ts : Parts) (os : List Operand) →
      arguments_fit wide_tests span by Ts os ≡ arguments_fit t span by Ts os
  arguments_same span by no_part os = refl
  arguments_same span by (part T Ts) [] = refl
  arguments_same span by (part T Ts) (o ∷ os) = ap₂ (λ r s. r >> s) (replaced_same span by o.typed.ty T o.span)
      (arguments_same span by Ts os)

  both_same : (span : Span) (f : Signature) (gs : List Given) (os : List Operand) (by : Widths) →
      both_fit wide_tests span f gs os by ≡ both_fit t span f gs os by
  both_same span f gs os by = ap₂ (λ r s. r >> s) (params_same span by f.params gs) (arguments_same span by f.formals os)

  -- ---- rows

  -- a literal that is within the limit is within the wider one
  pub bits_stays : (class : Effect) (span : Span) (text : List ℕ) →
      Stays (bits_rule_of class span (literal_of t.limit text)) (bits_rule_of class span (literal_of m text))
  bits_stays class span text =
      stays_bind (found_or (literal_of t.limit text) S03 span) (found_or (literal_of m text) S03 span) _ _
      (stays_found (nat_le (length (literal_digits text)) t.limit) (nat_le (length (literal_digits text)) m) _ S03 span
      (within_both t.limit m le (length (literal_digits text))))
      (λ bs. stays_same _)

  pub binary_stays : (span : Span) (o : BinaryOperator) (a b c d : Found) (G : Scope) → FoundStays a c → FoundStays b d →
      Stays (operation_rule_of_two t span o a b G) (operation_rule_of_two wide_tests span o c d G)
  binary_stays span o a b c d G h i =
      stays_bind (a.typed G) (c.typed G) _ _ (h.typed_stays G) (λ S. stays_bind (b.typed G) (d.typed G) _ _ (i.typed_stays G) (λ T.
      stays_equal (operation_of_two t G.class span o S T) (operation_of_two wide_tests G.class span o S T)
      (ap (λ r. r >>= λ U. finish G.class span (together S.effect T.effect) (greater S.effect T.effect) U
      (λ n. tree.Binary n o S.tree T.tree)) (binary_same span o S.ty T.ty))))

  conditional_same : (class : Effect) (span at : Span) (C S T : Typed) →
      conditional_of wide_tests class span at C S T ≡ conditional_of t class span at C S T
  conditional_same class span at C S T =
      ap (λ o. need (is_boolean C.ty) T05 at >> (found_or o (apart S.ty T.ty) span >>= λ U.
      finish class span (all_together Pure (C.effect ∷ S.effect ∷ T.effect ∷ [])) (greatest Pure (C.effect ∷ S.effect ∷ T.effect ∷ []))
      (ty.bare U) (λ n. tree.Conditional n C.tree S.tree T.tree))) (join_same S.ty T.ty)

  pub conditional_stays : (span : Span) (e f a b c d : Found) (G : Scope) → FoundStays e f → FoundStays a c → FoundStays b d →
      Stays (conditional_rule t span e a b G) (conditional_rule wide_tests span f c d G)
  conditional_stays span e f a b c d G h i j =
      stays_bind (e.typed G) (f.typed G) _ _ (h.typed_stays G)
      (λ C. stays_bind (a.typed G) (c.typed G) _ _ (i.typed_stays G) (λ S. stays_bind (b.typed G) (d.typed G) _ _ (j.typed_stays G) (λ T.
      stays_equal _ _ (ap (λ at. conditional_of wide_tests G.class span at C S T) h.span_same
      ∙ conditional_same G.class span e.span C S T))))

  construction_same : (class : Effect) (span : Span) (i : Ident) (o : Option Ty) (is : List Ident) (os : List Operand) →
      construction wide_tests class span i o is os ≡ construction t class span i o is os
  construction_same class span i o is os =
      bind_same (constructed i o) (constructed i o) _ _ refl
      (λ c. bind_same (given_once is [] c.fields) (given_once is [] c.fields) _ _ refl (λ Ts.
      then_same (all_fit t os Ts) (all_fit wide_tests os Ts) _ (all_fit_same os Ts)))

  pub construct_stays : (span : Span) (i : Ident) (gs hs : List FoundField) (G : Scope) → Pairs GivenStays gs hs →
      Stays (construct_rule t span i gs G) (construct_rule wide_tests span i hs G)
  construct_stays span i gs hs G h =
      stays_bind (operands (values_given gs) G) (operands (values_given hs) G) _ _
      (operands_stay (values_given gs) (values_given hs) G (values_pairs gs hs h)) (λ os.
      stays_equal _ _ (ap (λ is. construction wide_tests G.class span i (type_of_name i.text G.names) is os) (names_same gs hs h)
      ∙ construction_same G.class span i (type_of_name i.text G.names) (names_given gs) os))

  function_same : (class : Effect) (span : Span) (f : Chosen) (T : Ty) (w : Replacing) (os : List Operand) →
      function_called wide_tests class span f T w os ≡ function_called t class span f T w os
  function_same class span f T w os = then_same (both_fit t span f.signature w.given os (replaced_by f.signature.params w.given))
      (both_fit wide_tests span f.signature w.given os (replaced_by f.signature.params w.given)) _
      (both_same span f.signature w.given os (replaced_by f.signature.params w.given))

  of_stays : (span : Span) (i : Ident) (ps qs : List Found) (os : List Operand) (G : Scope) (r : Option Routine) → Pairs FoundStays ps qs →
      Stays (function_of t span i ps os G r) (function_of wide_tests span i qs os G r)
  of_stays span i ps qs os G (Some r) h = stays_equal _ _
      (ap₂ (λ n z. routine_taken span r os >> (need (n == routine_params r) T11 span >> (z >>= λ w. routine_called G.class span r w os)))
      (lengths_same ps qs h) (widths_same ps qs G h))
  of_stays span i ps qs os G None h =
      stays_step (chosen span i os G.subs) _ _ (λ f. stays_step (found_or f.signature.result T18 span) _ _ (λ T.
      stays_bind (widths_rule span f.signature ps os G) (widths_rule span f.signature qs os G) _ _
      (stays_equal _ _ (rule_same span f.signature ps qs os G h)) (λ w. stays_equal _ _ (function_same G.class span f T w os))))

  pub call_stays : (span : Span) (i : Ident) (ps qs es fs : List Found) (G : Scope) → Pairs FoundStays ps qs → Pairs FoundStays es fs →
      Stays (function_rule t span i ps es G) (function_rule wide_tests span i qs fs G)
  call_stays span i ps qs es fs G h k = stays_bind (call_begun i es G) (call_begun i fs G) _ _ (begun_stays i es fs G k)
      (λ os. of_stays span i ps qs os G (routine_named i.text) h)

  procedure_same : (class : Effect) (span : Span) (f : Chosen) (w : Replacing) (os : List Operand) →
      procedure_called wide_tests class span f w os ≡ procedure_called t class span f w os
  procedure_same class span f w os = then_same (both_fit t span f.signature w.given os (replaced_by f.signature.params w.given))
      (both_fit wide_tests span f.signature w.given os (replaced_by f.signature.params w.given)) _
      (both_same span f.signature w.given os (replaced_by f.signature.params w.given))

  procedure_of_stays : (span : Span) (i : Ident) (ps qs : List Found) (os : List Operand) (G : Scope) (r : Option Routine) →
      Pairs FoundStays ps qs → Stays (procedure_of t span i ps os G r) (procedure_of wide_tests span i qs os G r)
  procedure_of_stays span i ps qs os G (Some r) h = stays_same _
  procedure_of_stays span i ps qs os G None h =
      stays_step (chosen span i os G.subs) _ _ (λ f. stays_after (need _ T18 span) _ _
      (stays_bind (widths_rule span f.signature ps os G) (widths_rule span f.signature qs os G) _ _
      (stays_equal _ _ (rule_same span f.signature ps qs os G h)) (λ w. stays_equal _ _ (procedure_same G.class span f w os))))

  pub procedure_stays : (span : Span) (i : Ident) (ps qs es fs : List Found) (G : Scope) → Pairs FoundStays ps qs → Pairs FoundStays es fs →
      Stays (procedure_rule t span i ps es G) (procedure_rule wide_tests span i qs fs G)
  procedure_stays span i ps qs es fs G h k = stays_bind (call_begun i es G) (call_begun i fs G) _ _ (begun_stays i es fs G k)
      (λ os. procedure_of_stays span i ps qs os G (routine_named i.text) h)

  -- ---- patterns and types

  pub mask_stays : (span : Span) (digits : List (Option Bool)) (T : Ty) →
      Stays (mask_matched t span digits T) (mask_matched wide_tests span digits T)
  mask_stays span digits T =
      stays_after (need (is_bits T) T23 span) _ _
      (stays_after (need (t.same (width_of T) (constant_map (pos (length digits)))) T06 span) _ _
      (stays_then (need (nat_le (length digits) t.limit) T20 span) (need (nat_le (length digits) m) T20 span) _ _
      (stays_need _ _ T20 span (within_both t.limit m le (length digits))) (stays_same _)))

  held_both : (o : Option ℤ) → width_is_held t.limit o ≡ true → width_is_held m o ≡ true
  held_both None h = refl
  held_both (Some (pos n)) h = within_both t.limit m le n h
  held_both (Some (negsuc n)) h = h

  limits_both : (outside : Bool) (w : Polynomial) → within_limits t.limit outside w ≡ true → within_limits m outside w ≡ true
  limits_both false w h = refl
  limits_both true w h = held_both (constant_value w) h

  pub bits_type_stays : (outside : Bool) (span : Span) (e f : Found) (fs gs : List FoundBitfield) (G : Scope) → FoundStays e f →
      Pairs BitfieldSame fs gs → Stays (bits_rule t.limit outside span e fs G) (bits_rule m outside span f gs G)
  bits_type_stays outside span e f fs gs G h k =
      stays_bind (e.width G) (f.width G) _ _ (stays_equal _ _ (h.width_same G))
      (λ w. stays_bind (all_fields fs G) (all_fields gs G) _ _ (stays_equal _ _ (fields_same fs gs G k)) (λ xs.
      stays_step (view_rule span w.poly xs) _ _
      (λ v. stays_then (need (within_limits t.limit outside w.poly) T20 span) (need (within_limits m outside w.poly) T20 span) _ _
      (stays_need _ _ T20 span (limits_both outside w.poly)) (stays_same _))))
