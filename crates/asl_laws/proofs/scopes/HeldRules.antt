-- What rules make of widths is within the limits, where what the names count as is: ends of written constraints, the sum of the widths of
-- slices, and what stands for parameters.
use Rattle.std.proofs.Common.{◌≡◌, ℕ, suc, ◌==◌, Bool, true, false, List, [], ◌∷◌, length, map, Option, Some, Ok, sym, ap, ◌∙◌, subst}
use Rattle.std.specs.Prelude.{if◌then◌else◌, ◌||◌}
use Rattle.asl_syn.specs.declared.token.Span.{Span}
use Rattle.asl_syn.specs.declared.code.StaticCode.TheVariants.{T11}
use Rattle.asl_syn.specs.declared.tree.Bitfield.{Bitfield}
use Rattle.asl_syn.specs.declared.tree.ConstraintPart.{ConstraintPart, out-ConstraintPart}
use Rattle.asl_syn.specs.declared.tree.Expr.{Expr}
use Rattle.asl_syn.specs.declared.tree.FieldValue.{FieldValue}
use Rattle.asl_syn.specs.declared.tree.Pattern.{Pattern}
use Rattle.asl_syn.specs.declared.tree.Slice.{Slice, out-Slice}
use Rattle.asl_syn.specs.declared.tree.TypeExpr.{TypeExpr}
use Rattle.asl_syn.specs.declared.tree.Bitfield.TheOpen as ex
use Rattle.asl_syn.specs.declared.tree.Bitfield.TheFolds.{fold_out-Slice, fold_out-ConstraintPart, map-Slice, map-ConstraintPart}
use Rattle.asl_poly.specs.Terms.{Polynomial}
use Rattle.asl_poly.specs.Poly.{IsPolynomial}
use Rattle.asl_cons.specs.Constraint.{IsEnd, AllEnds}
use Rattle.asl_cons.proofs.KeptEnds.{shown_end}
use Rattle.asl_rules.specs.Faults.{need, found_or}
use Rattle.asl_rules.specs.Tests.{Tests}
use Rattle.asl_rules.specs.types.Types.{Ty, Parts, no_part, part, only_width, width_of}
use Rattle.asl_rules.specs.types.Widths.{Total, plus, minus, plus_number}
use Rattle.asl_rules.specs.types.Writing.{FoundPart, FoundBitfield, FoundType, WrittenPart, one_width, one_number, range_of_widths, range_of_numbers, all_parts, parts_written}
use Rattle.asl_rules.specs.declarations.Scopes.{Scope, Param, Signature}
use Rattle.asl_rules.specs.expressions.Typing.{Found, Operand, types_of}
use Rattle.asl_rules.specs.expressions.Slicing.{FoundSlice, all_add, no_width, sliced_width}
use Rattle.asl_rules.specs.expressions.Patterns.{FoundPattern}
use Rattle.asl_rules.specs.expressions.Exprs.{FoundField, found, found_slice, found_pattern, found_type, width, expr_rule, given_rule, slice_rule, part_rule, bitfield_rule, type_rule, pattern_rule}
use Rattle.asl_rules.specs.expressions.Calls.{Given, given, Replacing, Giving, written_first, argument_first, polys, widths_given, widths_omitted, widths_rule, given_by_argument, is_width_alone, replaced_by}
use Rattle.asl_rules.specs.private.WellFormed.{Shaped, ShapedParts}
use Rattle.asl_rules.proofs.basics.Inversions.{ok_ok, bind_ok, then_ok, found_ok}
use Rattle.asl_rules.proofs.basics.Opening.{found_part, found_bitfield, found_field}
use Rattle.asl_rules.proofs.basics.Tests.{some_same, none_some}
use Rattle.asl_rules.proofs.expressions.OperatorForms.{within_width}
use Rattle.asl_rules.proofs.widths.Totals.{Step, step_plus, step_minus, step_number, step_none, step_then, begun, ended}
use Rattle.asl_rules.proofs.widths.WidthsHeld.{CountsHeld, width_is_held}
use Rattle.asl_laws.proofs.widths.Substituting.{AllWithin}

abbrev SliceLayer : Type 0
SliceLayer = ex.Slice-F Bitfield ConstraintPart Expr FieldValue Pattern Slice TypeExpr

abbrev PartLayer : Type 0
PartLayer = ex.ConstraintPart-F Bitfield ConstraintPart Expr FieldValue Pattern Slice TypeExpr

-- a width is its own constraint
pub only_ends : (p : Polynomial) → IsPolynomial p → AllEnds (only_width p)
only_ends p i = let e = shown_end p i in ((e, e), tt)

-- what stands for each parameter is within the limits
abbrev pub AllHeld : List Polynomial → Type 0
AllHeld [] = Unit {0}
AllHeld (p ∷ ps) = IsPolynomial p × AllHeld ps

pub replaced_within : (ps : List Param) (gs : List Given) → AllHeld (polys gs) → AllWithin (replaced_by ps gs)
replaced_within [] gs h = tt
replaced_within (p ∷ ps) [] h = tt
replaced_within (p ∷ ps) (g ∷ gs) h = (h.0, replaced_within ps gs h.1)

module _ (tests : Tests) where
  -- ---- constraints

  abbrev PartHeld : WrittenPart → Type 0
  PartHeld r = IsEnd r.part.low × IsEnd r.part.high

  abbrev part_opened : PartLayer → ex.ConstraintPart-F FoundBitfield FoundPart Found FoundField FoundPattern FoundSlice FoundType
  part_opened =
      map-ConstraintPart Bitfield ConstraintPart Expr FieldValue Pattern Slice TypeExpr FoundBitfield FoundPart Found FoundField FoundPattern FoundSlice FoundType
      (found_bitfield tests) (found_part tests) (found tests) (found_field tests) (found_pattern tests) (found_slice tests)
      (found_type tests)

  one_by : (b : Bool) (e : Expr) (G : Scope) (r : WrittenPart) → CountsHeld G.names →
      (if b then one_width (found tests e) G else one_number (found tests e) G) ≡ Ok r → PartHeld r
  one_by true e G r c h =
      let u = bind_ok (width tests e G) _ r h in
      let k = shown_end u.value.poly (width_is_held tests e G c u.value u.first) in
      subst PartHeld (ok_ok _ r u.then) (k, k)
  one_by false e G r c h =
      let u = bind_ok ((found tests e).number G) _ r h in
      subst PartHeld (ok_ok _ r u.then) (tt, tt)

  pub range_by : (b : Bool) (e f : Expr) (G : Scope) (r : WrittenPart) → CountsHeld G.names →
      (if b then range_of_widths (found tests e) (found tests f) G else range_of_numbers (found tests e) (found tests f) G) ≡ Ok r →
      PartHeld r
  range_by true e f G r c h =
      let u = bind_ok (width tests e G) _ r h in
      let v = bind_ok (width tests f G) _ r u.then in
      subst PartHeld (ok_ok _ r v.then)
      (shown_end u.value.poly (width_is_held tests e G c u.value u.first), shown_end v.value.poly (width_is_held tests f G c v.value v.first))
  range_by false e f G r c h =
      let u = bind_ok ((found tests e).number G) _ r h in
      let v = bind_ok ((found tests f).number G) _ r u.then in
      subst PartHeld (ok_ok _ r v.then) (tt, tt)

  part_layer : (x : PartLayer) (G : Scope) (r : WrittenPart) → CountsHeld G.names → part_rule (part_opened x) G ≡ Ok r → PartHeld r
  part_layer (ex.Only e) G r c h = one_by ((found tests e).has_atom G) e G r c h
  part_layer (ex.FromTo e f) G r c h = range_by ((found tests e).has_atom G || (found tests f).has_atom G) e f G r c h

  part_held : (p : ConstraintPart) (G : Scope) (r : WrittenPart) → CountsHeld G.names → found_part tests p G ≡ Ok r → PartHeld r
  part_held p G r c h =
      part_layer (out-ConstraintPart p) G r c
      (sym (ap (λ (f : FoundPart). f G) (fold_out-ConstraintPart FoundBitfield FoundPart Found FoundField FoundPattern FoundSlice FoundType bitfield_rule part_rule (expr_rule tests) given_rule (pattern_rule tests) slice_rule (type_rule tests) p)) ∙ h)

  pub parts_held : (ps : List ConstraintPart) (G : Scope) (rs : List WrittenPart) → CountsHeld G.names →
      all_parts (map (found_part tests) ps) G ≡ Ok rs → AllEnds (parts_written rs)
  parts_held [] G rs c h = subst (λ z. AllEnds (parts_written z)) (ok_ok [] rs h) tt
  parts_held (p ∷ ps) G rs c h =
      let u = bind_ok (found_part tests p G) _ rs h in
      let v = bind_ok (all_parts (map (found_part tests) ps) G) _ rs u.then in
      subst (λ z. AllEnds (parts_written z)) (ok_ok (u.value ∷ v.value) rs v.then)
      (part_held p G u.value c u.first, parts_held ps G v.value c v.first)

  -- ---- slices

  abbrev slice_opened : SliceLayer → ex.Slice-F FoundBitfield FoundPart Found FoundField FoundPattern FoundSlice FoundType
  slice_opened =
      map-Slice Bitfield ConstraintPart Expr FieldValue Pattern Slice TypeExpr FoundBitfield FoundPart Found FoundField FoundPattern FoundSlice FoundType
      (found_bitfield tests) (found_part tests) (found tests) (found_field tests) (found_pattern tests) (found_slice tests)
      (found_type tests)

  slice_layer : (x : SliceLayer) (G : Scope) (y z : Total) → CountsHeld G.names → (slice_rule (slice_opened x)).adds y G ≡ Ok z → Step y z
  slice_layer (ex.BitAt e) G y z c h = subst (Step y) (ok_ok (plus_number y 1) z h) (step_number y 1)
  slice_layer (ex.HighLow a b) G y z c h =
      let p = bind_ok (width tests a G) _ z h in
      let q = bind_ok (width tests b G) _ z p.then in
      let i = width_is_held tests a G c p.value p.first in
      let j = width_is_held tests b G c q.value q.first in
      let u = plus y p.value.poly in
      let v = minus u q.value.poly in
      subst (Step y) (ok_ok (plus_number v 1) z q.then)
      (step_then y u (plus_number v 1) (step_plus y p.value.poly i)
      (step_then u v (plus_number v 1) (step_minus u q.value.poly j) (step_number v 1)))
  slice_layer (ex.LowWidth a b) G y z c h =
      let p = bind_ok (width tests b G) _ z h in
      subst (Step y) (ok_ok (plus y p.value.poly) z p.then) (step_plus y p.value.poly (width_is_held tests b G c p.value p.first))
  slice_layer (ex.FactorWidth a b) G y z c h =
      let p = bind_ok (width tests b G) _ z h in
      subst (Step y) (ok_ok (plus y p.value.poly) z p.then) (step_plus y p.value.poly (width_is_held tests b G c p.value p.first))

  pub slice_step : (s : Slice) (G : Scope) (y z : Total) → CountsHeld G.names → (found_slice tests s).adds y G ≡ Ok z → Step y z
  slice_step s G y z c h =
      slice_layer (out-Slice s) G y z c
      (sym (ap (λ (f : FoundSlice). f.adds y G) (fold_out-Slice FoundBitfield FoundPart Found FoundField FoundPattern FoundSlice FoundType bitfield_rule part_rule (expr_rule tests) given_rule (pattern_rule tests) slice_rule (type_rule tests) s)) ∙ h)

  pub all_add_step : (ss : List Slice) (G : Scope) (y z : Total) → CountsHeld G.names → all_add (map (found_slice tests) ss) y G ≡ Ok z →
      Step y z
  all_add_step [] G y z c h = subst (Step y) (ok_ok y z h) (step_none y)
  all_add_step (s ∷ ss) G y z c h =
      let u = bind_ok ((found_slice tests s).adds y G) _ z h in
      step_then y u.value z (slice_step s G y u.value c u.first) (all_add_step ss G u.value z c u.then)

  pub sliced_held : (span : Span) (ss : List Slice) (G : Scope) (w : Polynomial) → CountsHeld G.names →
      sliced_width span (map (found_slice tests) ss) G ≡ Ok w → IsPolynomial w
  sliced_held span ss G w c h =
      let u = bind_ok (all_add (map (found_slice tests) ss) no_width G) _ w h in
      ended span no_width u.value w begun (all_add_step ss G no_width u.value c u.first) u.then

  -- ---- calls

  pub given_held : (ps : List Expr) (G : Scope) (r : Replacing) → CountsHeld G.names → widths_given (map (found tests) ps) G ≡ Ok r →
      AllHeld (polys r.given)
  given_held [] G r c h = subst (λ (z : Replacing). AllHeld (polys z.given)) (ok_ok _ r h) tt
  given_held (e ∷ es) G r c h =
      let u = bind_ok (width tests e G) _ r h in
      let v = bind_ok (widths_given (map (found tests) es) G) _ r u.then in
      subst (λ (z : Replacing). AllHeld (polys z.given))
      (ok_ok (written_first (given u.value.poly (found tests e).span) u.value.tree v.value) r v.then)
      (width_is_held tests e G c u.value u.first, given_held es G v.value c v.first)

  module _ (d : List ℕ → Option Ty) where
    giving_by : (b : Bool) (n : ℕ) (o : Operand) (p : Option Giving) (g : Giving) → Shaped d o.typed.ty →
        (p ≡ Some g → IsPolynomial g.given.width) →
        (if b then Some (record { place = n; given = given (width_of o.typed.ty) o.span }) else p) ≡ Some g → IsPolynomial g.given.width
    giving_by true n o p g a next h =
        subst (λ (z : Giving). IsPolynomial z.given.width)
        (some_same (record { place = n; given = given (width_of o.typed.ty) o.span }) g h) (within_width d o.typed.ty a)
    giving_by false n o p g a next h = next h

    giving_held : (atom n : ℕ) (Ts : Parts) (os : List Operand) (g : Giving) → ShapedParts d (types_of os) →
        given_by_argument atom n Ts os ≡ Some g → IsPolynomial g.given.width
    giving_held atom n no_part os g a h = none_some g h
    giving_held atom n (part T Ts) [] g a h = none_some g h
    giving_held atom n (part T Ts) (o ∷ os) g a h =
        giving_by (is_width_alone atom T) n o (given_by_argument atom (suc n) Ts os) g a.1 (λ k. giving_held atom (suc n) Ts os g a.2 k) h

    omitted_held : (span : Span) (ps : List Param) (Ts : Parts) (os : List Operand) (r : Replacing) → ShapedParts d (types_of os) →
        widths_omitted span ps Ts os ≡ Ok r → AllHeld (polys r.given)
    omitted_held span [] Ts os r a h = subst (λ (z : Replacing). AllHeld (polys z.given)) (ok_ok _ r h) tt
    omitted_held span (p ∷ ps) Ts os r a h =
        let u = bind_ok (found_or (given_by_argument p.atom 0 Ts os) T11 span) _ r h in
        let v = bind_ok (widths_omitted span ps Ts os) _ r u.then in
        subst (λ (z : Replacing). AllHeld (polys z.given)) (ok_ok (argument_first u.value.given u.value.place v.value) r v.then)
        (giving_held p.atom 0 Ts os u.value a (found_ok (given_by_argument p.atom 0 Ts os) T11 span u.value u.first), omitted_held span ps Ts os v.value a v.first)

    pub widths_held : (span : Span) (f : Signature) (ps : List Expr) (os : List Operand) (G : Scope) (r : Replacing) → CountsHeld G.names →
        ShapedParts d (types_of os) →
        widths_rule span f (map (found tests) ps) os G ≡ Ok r → AllHeld (polys r.given)
    widths_held span f [] os G r c a h = omitted_held span f.params f.formals os r a h
    widths_held span f (e ∷ es) os G r c a h =
        let u =
        then_ok (need (length (map (found tests) (e ∷ es)) == length f.params) T11 span)
        (widths_given (map (found tests) (e ∷ es)) G) r h in
        given_held (e ∷ es) G r c u.then
