-- The values of some forms of expression, by those of their parts.
use Rattle.std.proofs.Common.{◌≡◌, ℕ, Bool, true, false, List, [], map, Result, refl, sym, ap, subst, ◌∙◌}
use Rattle.std.specs.Borrow.{Bor}
use Rattle.asl_bits.specs.declared.TheConstants.{WIDTH_LIMIT}
use Rattle.asl_syn.specs.declared.token.Span.{Span}
use Rattle.asl_syn.specs.declared.tree.Bitfield.TheOpen as ex
use Rattle.asl_syn.specs.declared.tree.Bitfield.TheFolds.{fold-roll-Expr}
use Rattle.asl_syn.specs.declared.tree.Expr.{Expr, roll-Expr}
use Rattle.asl_syn.specs.declared.tree.Expr.TheVariants as ev
use Rattle.asl_syn.specs.declared.tree.FieldValue.{FieldValue}
use Rattle.asl_syn.specs.declared.tree.Ident.{Ident}
use Rattle.asl_syn.specs.declared.tree.Pattern.{Pattern}
use Rattle.asl_syn.specs.declared.tree.Slice.{Slice}
use Rattle.asl_syn.specs.Layers.{ExprLayer}
use Rattle.asl_rules.specs.runs.ByNames.{types_among, matched_in}
use Rattle.asl_rules.specs.declarations.Constants.{Known, constant, constant_layer, settled}
use Rattle.asl_rules.specs.runs.Forms.{behind, branch_value}
use Rattle.asl_rules.specs.values.Operators.{truth}
use Rattle.asl_rules.specs.runs.Plans.{Pure, Good, Bad, Stuck, CallBarred, choose, lift}
use Rattle.asl_rules.specs.runs.Pures.{◌>>=◌}
use Rattle.asl_rules.specs.declarations.Scopes.{Entry}
use Rattle.asl_rules.specs.types.Shaped.{Shaped, TypeOver, itself, exprs_in, shapes_in, bitfield_layer, part_layer, given_layer, pattern_layer, slice_layer, type_layer}
use Rattle.asl_rules.specs.types.Shapes.{SliceShape, PatternShape, PartShape, BitfieldShape}
use Rattle.asl_rules.specs.values.Structures.{constructed, element_of}
use Rattle.asl_rules.specs.values.Values.{Value}
use Rattle.asl_rules.specs.values.Vectors.{slices_of}
use Rattle.asl_rules.specs.types.Views.{stripped}
use Rattle.asl_rules.proofs.constants.KnownParts.{known_layer}
use Rattle.asl_value.specs.declared.value.Value as code
use Rattle.asl_value.specs.View.{value_of}
use Rattle.asl_const.specs.declared.failure.Unknown.{Unknown}
use Rattle.asl_const.specs.private.Finds.{Finds, known_after, known_given, known_pattern, known_slice, with_all}
use Rattle.asl_const.specs.private.Gathered.{constants}
use Rattle.asl_const.proofs.Calling.{call_is}

abbrev at_limit : Expr → Known
at_limit e = constant WIDTH_LIMIT e

opened : (e : Expr) (layer : ExprLayer) (names : List Entry) → e ≡ roll-Expr layer → at_limit e names ≡ constant_layer WIDTH_LIMIT (known_layer WIDTH_LIMIT layer) names
opened e layer names is =
    ap (λ u. at_limit u names) is
    ∙ ap (λ f. f names) (fold-roll-Expr (Shaped BitfieldShape Known) (Shaped PartShape Known) Known (Shaped (List ℕ) Known) (Shaped PatternShape Known) (Shaped SliceShape Known) (Shaped TypeOver Known)
    (bitfield_layer itself) (part_layer itself) (constant_layer WIDTH_LIMIT) (given_layer itself) (pattern_layer itself itself) (slice_layer itself) (type_layer itself itself itself itself) layer)

-- an answer is that of an equal rule
met : (r : Result code.Value Unknown) (p q : Pure Value) → p ≡ q → Finds value_of r q → Finds value_of r p
met r p q h f = subst (λ (s : Pure Value). Finds value_of r s) (sym h) f

-- the values of expressions behind references, which are those of a list
pub gathered : (r : Result (List code.Value) Unknown) (rs qs : List (Bor Expr)) (es : List Known) (names : List Entry) →
    rs ≡ qs → constants qs ≡ es → Finds (map value_of) r (known_after [] (constants rs) names) → Finds (map value_of) r (known_after [] es names)
gathered r rs qs es names same h f = subst (λ (us : List Known). Finds (map value_of) r (known_after [] us names)) (ap constants same ∙ h) f

-- ---- lists

pub construct_met : (e : Expr) (span : Span) (i : Ident) (n : List ℕ) (fs gs : List FieldValue) (names : List Entry) (r : Result code.Value Unknown) → e ≡ ev.Construct span i fs → n ≡ i.text → gs ≡ fs →
    Finds value_of r (with_all span (exprs_in itself (map known_given gs)) names (λ xs. constructed span (types_among names n) (shapes_in itself (map known_given gs)) xs)) → Finds value_of r (at_limit e names)
construct_met e span i n fs gs names r is named same =
    met r (at_limit e names) _ (opened e (ex.Construct span i fs) names (is ∙ sym (ev.rolls-Construct span i fs))
    ∙ (ap (λ m. with_all span (exprs_in itself (map known_given fs)) names (λ xs. constructed span (types_among names m) (shapes_in itself (map known_given fs)) xs)) (sym named)
    ∙ ap (λ us. with_all span (exprs_in itself (map known_given us)) names (λ xs. constructed span (types_among names n) (shapes_in itself (map known_given us)) xs)) (sym same)))

pub call_met : (e : Expr) (span : Span) (i : Ident) (ps qs xs ys : List Expr) (names : List Entry) (r : Result code.Value Unknown) → e ≡ ev.Call span i ps xs → qs ≡ ps → ys ≡ xs →
    Finds value_of r (known_after [] (map at_limit qs) names >>= λ us. known_after [] (map at_limit ys) names >>= λ vs. Bad (Stuck CallBarred span)) → Finds value_of r (at_limit e names)
call_met e span i ps qs xs ys names r is one two =
    met r (at_limit e names) _ (opened e (ex.Call span i ps xs) names (is ∙ sym (ev.rolls-Call span i ps xs))
    ∙ (call_is WIDTH_LIMIT span i.text (map at_limit ps) (map at_limit xs) names
    ∙ (ap (λ zs. known_after [] (map at_limit zs) names >>= λ us. known_after [] (map at_limit xs) names >>= λ vs. Bad (Stuck CallBarred span)) (sym one)
    ∙ ap (λ zs. known_after [] (map at_limit qs) names >>= λ us. known_after [] (map at_limit zs) names >>= λ vs. Bad (Stuck CallBarred span)) (sym two))))

-- ---- one operand, and those inside what is done with it

pub slices_met : (e a b : Expr) (span : Span) (ss ts : List Slice) (names : List Entry) (x : Value) (r : Result code.Value Unknown) → e ≡ ev.Slices span a ss → b ≡ a → ts ≡ ss → at_limit b names ≡ Good x →
    Finds value_of r (with_all span (exprs_in itself (map known_slice ts)) names (λ zs. slices_of WIDTH_LIMIT span (shapes_in itself (map known_slice ts)) zs x)) → Finds value_of r (at_limit e names)
slices_met e a b span ss ts names x r is one same h =
    met r (at_limit e names) _ (opened e (ex.Slices span a ss) names (is ∙ sym (ev.rolls-Slices span a ss))
    ∙ (ap (λ u. at_limit u names >>= λ y. with_all span (exprs_in itself (map known_slice ss)) names (λ zs. slices_of WIDTH_LIMIT span (shapes_in itself (map known_slice ss)) zs y)) (sym one)
    ∙ (ap (λ p. p >>= λ y. with_all span (exprs_in itself (map known_slice ss)) names (λ zs. slices_of WIDTH_LIMIT span (shapes_in itself (map known_slice ss)) zs y)) h
    ∙ ap (λ us. with_all span (exprs_in itself (map known_slice us)) names (λ zs. slices_of WIDTH_LIMIT span (shapes_in itself (map known_slice us)) zs x)) (sym same))))

pub in_met : (e a b : Expr) (span : Span) (p q : Pattern) (names : List Entry) (x : Value) (r : Result code.Value Unknown) → e ≡ ev.In span a p → b ≡ a → q ≡ p → at_limit b names ≡ Good x →
    Finds value_of r (with_all span ((known_pattern q).exprs) names (λ zs. matched_in WIDTH_LIMIT (known_pattern q).shape zs x)) → Finds value_of r (at_limit e names)
in_met e a b span p q names x r is one same h =
    met r (at_limit e names) _ (opened e (ex.In span a p) names (is ∙ sym (ev.rolls-In span a p))
    ∙ (ap (λ v. at_limit v names >>= λ y. with_all span ((known_pattern p).exprs) names (λ zs. matched_in WIDTH_LIMIT (known_pattern p).shape zs y)) (sym one)
    ∙ (ap (λ o. o >>= λ y. with_all span ((known_pattern p).exprs) names (λ zs. matched_in WIDTH_LIMIT (known_pattern p).shape zs y)) h
    ∙ ap (λ v. with_all span ((known_pattern v).exprs) names (λ zs. matched_in WIDTH_LIMIT (known_pattern v).shape zs x)) (sym same))))

-- ---- operands in order

pub element_met : (e a b i j : Expr) (span : Span) (names : List Entry) (x : Value) (r : Result code.Value Unknown) → e ≡ ev.Element span a i → b ≡ a → j ≡ i → at_limit b names ≡ Good x →
    Finds value_of r (settled span names (behind (at_limit j) names (element_of span x))) → Finds value_of r (at_limit e names)
element_met e a b i j span names x r is one same h =
    met r (at_limit e names) _ (opened e (ex.Element span a i) names (is ∙ sym (ev.rolls-Element span a i))
    ∙ (ap (λ v. at_limit v names >>= λ y. settled span names (behind (at_limit i) names (element_of span y))) (sym one)
    ∙ (ap (λ o. o >>= λ y. settled span names (behind (at_limit i) names (element_of span y))) h
    ∙ ap (λ v. settled span names (behind (at_limit v) names (element_of span x))) (sym same))))

-- the branch that is taken
abbrev branch_of : Span → List Entry → Expr → Expr → Bool → Pure Value
branch_of span names a b true = at_limit a names >>= λ y. Good (stripped y)
branch_of span names a b false = at_limit b names >>= λ y. Good (stripped y)

taken : (span : Span) (names : List Entry) (a b : Expr) (p : Pure Bool) (q : Bool) → p ≡ Good q →
    settled span names (lift p names (λ t. choose t (branch_value stripped (at_limit a) names) (branch_value stripped (at_limit b) names))) ≡ branch_of span names a b q
taken span names a b p q h = ap (λ o. settled span names (lift o names (λ t. choose t (branch_value stripped (at_limit a) names) (branch_value stripped (at_limit b) names)))) h ∙ by q
  where
    by : (t : Bool) → settled span names (choose t (branch_value stripped (at_limit a) names) (branch_value stripped (at_limit b) names)) ≡ branch_of span names a b t
    by true = refl
    by false = refl

chosen : (e c d a b : Expr) (span : Span) (names : List Entry) (x : Value) (q : Bool) → e ≡ ev.Conditional span c a b → d ≡ c → at_limit d names ≡ Good x → truth span x ≡ Good q →
    at_limit e names ≡ branch_of span names a b q
chosen e c d a b span names x q is one h t =
    opened e (ex.Conditional span c a b) names (is ∙ sym (ev.rolls-Conditional span c a b))
    ∙ (ap (λ v. at_limit v names >>= λ y. settled span names (lift (truth span y) names (λ t. choose t (branch_value stripped (at_limit a) names) (branch_value stripped (at_limit b) names)))) (sym one)
    ∙ (ap (λ o. o >>= λ y. settled span names (lift (truth span y) names (λ t. choose t (branch_value stripped (at_limit a) names) (branch_value stripped (at_limit b) names)))) h
    ∙ taken span names a b (truth span x) q t))

pub then_met : (e c d a f b : Expr) (span : Span) (names : List Entry) (x : Value) (r : Result code.Value Unknown) → e ≡ ev.Conditional span c a b → d ≡ c → at_limit d names ≡ Good x → truth span x ≡ Good true → f ≡ a →
    Finds value_of r (at_limit f names >>= λ y. Good (stripped y)) → Finds value_of r (at_limit e names)
then_met e c d a f b span names x r is one h t same =
    met r (at_limit e names) _ (chosen e c d a b span names x true is one h t ∙ ap (λ v. at_limit v names >>= λ y. Good (stripped y)) (sym same))

pub else_met : (e c d a b f : Expr) (span : Span) (names : List Entry) (x : Value) (r : Result code.Value Unknown) → e ≡ ev.Conditional span c a b → d ≡ c → at_limit d names ≡ Good x → truth span x ≡ Good false → f ≡ b →
    Finds value_of r (at_limit f names >>= λ y. Good (stripped y)) → Finds value_of r (at_limit e names)
else_met e c d a b f span names x r is one h t same =
    met r (at_limit e names) _ (chosen e c d a b span names x false is one h t ∙ ap (λ v. at_limit v names >>= λ y. Good (stripped y)) (sym same))
