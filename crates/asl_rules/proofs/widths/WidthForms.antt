-- What holds of each width expression with its polynomial, and of each end with its number, where it holds by their forms.
use Rattle.std.proofs.Common.{◌≡◌, ℕ, zero, suc, ℤ, pos, List, Some, Result, Ok, refl, sym, ap, ◌∙◌, subst}
use Rattle.std.specs.Prelude.{◌-ℤ◌}
use Rattle.asl_syn.specs.declared.token.Span.{Span}
use Rattle.asl_syn.specs.declared.code.Fault.{Fault}
use Rattle.asl_syn.specs.declared.code.StaticCode.TheVariants.{T19, T20}
use Rattle.asl_syn.specs.declared.tree.Expr.{Expr, roll-Expr}
use Rattle.asl_syn.specs.declared.tree.Bitfield.{Bitfield}
use Rattle.asl_syn.specs.declared.tree.ConstraintPart.{ConstraintPart}
use Rattle.asl_syn.specs.declared.tree.FieldValue.{FieldValue}
use Rattle.asl_syn.specs.declared.tree.Pattern.{Pattern}
use Rattle.asl_syn.specs.declared.tree.Slice.{Slice}
use Rattle.asl_syn.specs.declared.tree.TypeExpr.{TypeExpr}
use Rattle.asl_syn.specs.declared.tree.Bitfield.TheOpen as ex
use Rattle.asl_syn.specs.declared.tree.Bitfield.TheFolds.{fold-roll-Expr, map-Expr, ind-Expr}
use Rattle.asl_syn.specs.declared.tree.UnaryOperator.{UnaryOperator}
use Rattle.asl_syn.specs.declared.tree.UnaryOperator.TheVariants as unary
use Rattle.asl_syn.specs.declared.tree.BinaryOperator.{BinaryOperator}
use Rattle.asl_syn.specs.declared.tree.BinaryOperator.TheVariants as binary
use Rattle.asl_rules.specs.declared.joining.Combination.{Combination}
use Rattle.asl_rules.specs.declared.joining.Combination.TheVariants.{Sum, Difference, Product}
use Rattle.asl_rules.specs.declared.joining.Joining.{Joining}
use Rattle.asl_rules.specs.declared.joining.Joining.TheVariants.{Combines, Divides, JoinsNothing}
use Rattle.asl_syn.specs.Layers.{ExprLayer}
use Rattle.asl_poly.specs.Terms.{Polynomial}
use Rattle.asl_poly.specs.Poly.{constant_map}
use Rattle.asl_cons.specs.Arithmetic.{fits}
use Rattle.asl_rules.specs.Faults.{◌>>=◌, need, found_or, fault_of}
use Rattle.asl_rules.specs.Tests.{Tests}
use Rattle.asl_rules.specs.runs.Trees as tree
use Rattle.asl_rules.specs.runs.Trees.{Tree}
use Rattle.asl_rules.specs.declarations.Scopes.{Scope, standing_of}
use Rattle.asl_rules.specs.types.Arithmetic.{operator, joining, combined, divided, reading_of_one, reading_of_two, arithmetic, divisor}
use Rattle.asl_rules.specs.types.Widths.{width_of_number, width_of_standing, width_difference, width_combined, width_divided, number_of_standing, number_combined, number_divided, held}
use Rattle.asl_rules.specs.expressions.Typing.{Found, Width, Number, width_as, number_as, width_note}
use Rattle.asl_rules.specs.expressions.Slicing.{FoundSlice}
use Rattle.asl_rules.specs.types.Writing.{FoundPart, FoundBitfield, FoundType}
use Rattle.asl_rules.specs.expressions.Patterns.{FoundPattern}
use Rattle.asl_rules.specs.expressions.Exprs.{FoundField, found, width, width_of, number_of, width_rule, number_rule, name_read, negative_tree, combined_tree, divided_tree, span_of, expr_rule, given_rule, slice_rule, type_rule, part_rule, bitfield_rule, pattern_rule}
use Rattle.asl_rules.proofs.basics.Inversions.{ok_ok, err_ok, bind_ok, then_ok, found_ok}
use Rattle.asl_rules.proofs.basics.Opening.{opened}
use Rattle.asl_rules.proofs.basics.Tests.{none_some, some_same}
use Rattle.asl_rules.proofs.widths.WorthForms.{IsWritten}

-- what holds by the forms of width expressions
pub record WidthForms (P : Expr → Scope → Polynomial → Type 0) : Type 0 where
  pub whole : (span : Span) (n : ℕ) (G : Scope) (p : Polynomial) → width_of_number span (pos n) ≡ Ok p → P (roll-Expr (ex.Int span n)) G p
  pub name : (span : Span) (name : List ℕ) (G : Scope) (p : Polynomial) → width_of_standing span (standing_of name G.names) ≡ Ok p → P (roll-Expr (ex.Name span name)) G p
  pub negated : (span : Span) (e : Expr) (G : Scope) (p q : Polynomial) → P e G p → width_difference span (constant_map (pos 0)) p ≡ Ok q → P (roll-Expr (ex.Unary span unary.Negate e)) G q
  pub combined : (span : Span) (o : Combination) (e f : Expr) (G : Scope) (p q r : Polynomial) → P e G p → P f G q →
      width_combined span o p q ≡ Ok r → P (roll-Expr (ex.Binary span (operator o) e f)) G r
  pub divided : (span : Span) (e f : Expr) (k : ℕ) (G : Scope) (p q : Polynomial) → P e G p → IsWritten f k →
      width_divided span p k ≡ Ok q → P (roll-Expr (ex.Binary span binary.DivideExact e f)) G q

-- and of ends
pub record NumberForms (P : Expr → Scope → ℤ → Type 0) : Type 0 where
  pub whole : (span : Span) (n : ℕ) (G : Scope) → P (roll-Expr (ex.Int span n)) G (pos n)
  pub name : (span : Span) (name : List ℕ) (G : Scope) (z : ℤ) → number_of_standing span (standing_of name G.names) ≡ Ok z → P (roll-Expr (ex.Name span name)) G z
  pub negated : (span : Span) (e : Expr) (G : Scope) (y z : ℤ) → P e G y → held span (pos 0 -ℤ y) ≡ Ok z → P (roll-Expr (ex.Unary span unary.Negate e)) G z
  pub combined : (span : Span) (o : Combination) (e f : Expr) (G : Scope) (x y z : ℤ) → P e G x → P f G y →
      number_combined span o x y ≡ Ok z → P (roll-Expr (ex.Binary span (operator o) e f)) G z
  pub divided : (span : Span) (e f : Expr) (k : ℕ) (G : Scope) (y z : ℤ) → P e G y → IsWritten f k → number_divided span y k ≡ Ok z →
      P (roll-Expr (ex.Binary span binary.DivideExact e f)) G z

width_made : (r : Result Polynomial Fault) (x : Tree) (w : Width) (Q : Polynomial → Type 0) → ((p : Polynomial) → r ≡ Ok p → Q p) → (r >>= λ p. Ok (width_as p x)) ≡ Ok w → Q w.poly
width_made r x w Q f h =
    let u = bind_ok r (λ p. Ok (width_as p x)) w h in
    subst Q (ap (λ (v : Width). v.poly) (ok_ok (width_as u.value x) w u.then)) (f u.value u.first)

number_made : (r : Result ℤ Fault) (x : Tree) (w : Number) (Q : ℤ → Type 0) → ((z : ℤ) → r ≡ Ok z → Q z) → (r >>= λ z. Ok (number_as z x)) ≡ Ok w → Q w.number
number_made r x w Q f h =
    let u = bind_ok r (λ z. Ok (number_as z x)) w h in
    subst Q (ap (λ (v : Number). v.number) (ok_ok (number_as u.value x) w u.then)) (f u.value u.first)

module _ (t : Tests) where
  -- what is found at a node is found by its rule
  pub found_roll : (x : ExprLayer) → found t (roll-Expr x) ≡ expr_rule t (opened t x)
  found_roll x = fold-roll-Expr FoundBitfield FoundPart Found FoundField FoundPattern FoundSlice FoundType bitfield_rule part_rule (expr_rule t) given_rule (pattern_rule t) slice_rule (type_rule t) x

abbrev Any : {A : Type 0} → A → Type 0
Any x = Unit {0}

-- ---- the number that is written

-- an operation isn't a number that is written
none_of_one : {E A : Type 0} (o : UnaryOperator) (a : E) (k : ℕ) → divisor (reading_of_one o a) ≡ Some k → A
none_of_one unary.Negate a k h = none_some k h
none_of_one unary.Not a k h = none_some k h
none_of_one unary.Complement a k h = none_some k h

none_of_two : {E A : Type 0} (j : Joining) (a b : E) (k : ℕ) → divisor (reading_of_two j a b) ≡ Some k → A
none_of_two (Combines o) a b k h = none_some k h
none_of_two Divides a b k h = none_some k h
none_of_two JoinsNothing a b k h = none_some k h

module _ (t : Tests) where
  number_written : (f : Expr) (span : Span) (n k : ℕ) → f ≡ roll-Expr (ex.Int span n) →
      divisor (arithmetic (opened t (ex.Int span n))) ≡ Some k → IsWritten f k
  number_written f span zero k e h = none_some k h
  number_written f span (suc n) k e h =
      let same = some_same (suc n) k h in
      record { span = span; less = n; above_0 = sym same; is = e ∙ ap (λ m. roll-Expr (ex.Int span m)) same }

  layer_written : (f : Expr) (x : ExprLayer) (k : ℕ) → f ≡ roll-Expr x → divisor (arithmetic (opened t x)) ≡ Some k → IsWritten f k
  layer_written f (ex.Int span n) k e h = number_written f span n k e h
  layer_written f (ex.Unary span o a) k e h = none_of_one o (found t a) k h
  layer_written f (ex.Binary span o a b) k e h = none_of_two (joining o) (found t a) (found t b) k h
  layer_written f x k e h = none_some k h

  Written : Expr → Type 0
  Written f = (k : ℕ) → (found t f).divisor ≡ Some k → IsWritten f k

  roll_written : (x : ExprLayer) → Written (roll-Expr x)
  unfolding Written
  roll_written x k h = layer_written (roll-Expr x) x k refl (sym (ap (λ (z : Found). z.divisor) (found_roll t x)) ∙ h)

  written : (f : Expr) → Written f
  written =
      ind-Expr Any Any Written Any Any Any Any (λ x y is. tt) (λ x y is. tt) (λ x y is. roll_written x) (λ x y is. tt) (λ x y is. tt)
      (λ x y is. tt) (λ x y is. tt)

  -- an expression with a divisor is that number, as it is written
  pub is_written : (f : Expr) (k : ℕ) → (found t f).divisor ≡ Some k → IsWritten f k
  unfolding Written
  is_written f k h = written f k h

-- ---- widths

module _ (t : Tests) (P : Expr → Scope → Polynomial → Type 0) (forms : WidthForms P) where
  Holds : Expr → Type 0
  Holds e = (G : Scope) (w : Width) → width t e G ≡ Ok w → P e G w.poly

  abbrev Below : Type 0
  Below = ex.Expr-F ((b : Bitfield) × Any b) ((p : ConstraintPart) × Any p) ((e : Expr) × Holds e) ((f : FieldValue) × Any f) ((p : Pattern) × Any p) ((s : Slice) × Any s) ((t : TypeExpr) × Any t)

  abbrev trees : Below → ExprLayer
  trees = map-Expr ((b : Bitfield) × Any b) ((p : ConstraintPart) × Any p) ((e : Expr) × Holds e) ((f : FieldValue) × Any f) ((p : Pattern) × Any p) ((s : Slice) × Any s) ((t : TypeExpr) × Any t)
      Bitfield ConstraintPart Expr FieldValue Pattern Slice TypeExpr (λ b. b.0) (λ p. p.0) (λ e. e.0) (λ f. f.0) (λ p. p.0) (λ s. s.0) (λ t. t.0)

  negation : (span : Span) (o : UnaryOperator) (e : (e : Expr) × Holds e) (G : Scope) (w : Width) →
      width_of span (reading_of_one o (found t e.0)) G ≡ Ok w → P (roll-Expr (ex.Unary span o e.0)) G w.poly
  unfolding Holds
  negation span unary.Negate e G w h =
      let u = bind_ok (width t e.0 G) _ w h in
      width_made (width_difference span (constant_map (pos 0)) u.value.poly) (negative_tree span u.value.tree) w
      (P (roll-Expr (ex.Unary span unary.Negate e.0)) G)
      (λ q f. forms.negated span e.0 G u.value.poly q (e.1 G u.value u.first) f) u.then
  negation span unary.Not e G w h = err_ok (fault_of T19 span) w h
  negation span unary.Complement e G w h = err_ok (fault_of T19 span) w h

  operation : (span : Span) (o : Combination) (e f : (e : Expr) × Holds e) (G : Scope) (w : Width) →
      width_of span (combined o (found t e.0) (found t f.0)) G ≡ Ok w → P (roll-Expr (ex.Binary span (operator o) e.0 f.0)) G w.poly
  unfolding Holds
  operation span o e f G w h =
      let u = bind_ok (width t e.0 G) _ w h in
      let v = bind_ok (width t f.0 G) _ w u.then in
      width_made (width_combined span o u.value.poly v.value.poly) (combined_tree span o u.value.tree v.value.tree) w
      (P (roll-Expr (ex.Binary span (operator o) e.0 f.0)) G)
      (λ r g. forms.combined span o e.0 f.0 G u.value.poly v.value.poly r (e.1 G u.value u.first) (f.1 G v.value v.first) g) v.then

  division : (span : Span) (e f : (e : Expr) × Holds e) (G : Scope) (w : Width) →
      width_of span (divided (found t e.0) (found t f.0)) G ≡ Ok w → P (roll-Expr (ex.Binary span binary.DivideExact e.0 f.0)) G w.poly
  unfolding Holds
  division span e f G w h =
      let u = bind_ok (width t e.0 G) _ w h in
      let k = bind_ok (found_or (found t f.0).divisor T19 span) _ w u.then in
      width_made (width_divided span u.value.poly k.value) (divided_tree span u.value.tree (found t f.0).span k.value) w
      (P (roll-Expr (ex.Binary span binary.DivideExact e.0 f.0)) G)
      (λ r g. forms.divided span e.0 f.0 k.value G u.value.poly r (e.1 G u.value u.first)
      (is_written t f.0 k.value (found_ok (found t f.0).divisor T19 span k.value k.first)) g) k.then

  both : (span : Span) (o : BinaryOperator) (e f : (e : Expr) × Holds e) (G : Scope) (w : Width) →
      width_of span (reading_of_two (joining o) (found t e.0) (found t f.0)) G ≡ Ok w → P (roll-Expr (ex.Binary span o e.0 f.0)) G w.poly
  both span binary.Add e f G w h = operation span Sum e f G w h
  both span binary.Subtract e f G w h = operation span Difference e f G w h
  both span binary.Multiply e f G w h = operation span Product e f G w h
  both span binary.DivideExact e f G w h = division span e f G w h
  both span o e f G w h = err_ok (fault_of T19 span) w h

  layer : (y : Below) (G : Scope) (w : Width) → width_rule (opened t (trees y)) G ≡ Ok w → P (roll-Expr (trees y)) G w.poly
  layer (ex.Int span n) G w h = width_made (width_of_number span (pos n)) (tree.Int (width_note span) n) w (P (roll-Expr (ex.Int span n)) G) (λ p e. forms.whole span n G p e) h
  layer (ex.Name span name) G w h =
      width_made (width_of_standing span (standing_of name G.names)) (name_read span name G) w (P (roll-Expr (ex.Name span name)) G) (λ p e. forms.name span name G p e) h
  layer (ex.Unary span o e) G w h = negation span o e G w h
  layer (ex.Binary span o e f) G w h = both span o e f G w h
  layer y G w h = err_ok (fault_of T19 (span_of (opened t (trees y)))) w h

  step : (x : ExprLayer) (y : Below) → trees y ≡ x → Holds (roll-Expr x)
  unfolding Holds
  step x y is G w h =
      subst (λ z. P (roll-Expr z) G w.poly) is (layer y G w (ap (λ z. width_rule (opened t z) G) is ∙ sym (ap (λ (f : Found). f.width G) (found_roll t x)) ∙ h))

  holds : (e : Expr) → Holds e
  holds = ind-Expr Any Any Holds Any Any Any Any (λ x y is. tt) (λ x y is. tt) step (λ x y is. tt) (λ x y is. tt) (λ x y is. tt) (λ x y is. tt)

  pub by_width_forms : (e : Expr) (G : Scope) (w : Width) → width t e G ≡ Ok w → P e G w.poly
  unfolding Holds
  by_width_forms e G w h = holds e G w h

-- ---- ends

module _ (t : Tests) (P : Expr → Scope → ℤ → Type 0) (forms : NumberForms P) where
  Counts : Expr → Type 0
  Counts e = (G : Scope) (w : Number) → (found t e).number G ≡ Ok w → P e G w.number

  abbrev Under : Type 0
  Under = ex.Expr-F ((b : Bitfield) × Any b) ((p : ConstraintPart) × Any p) ((e : Expr) × Counts e) ((f : FieldValue) × Any f) ((p : Pattern) × Any p) ((s : Slice) × Any s) ((t : TypeExpr) × Any t)

  abbrev parts : Under → ExprLayer
  parts = map-Expr ((b : Bitfield) × Any b) ((p : ConstraintPart) × Any p) ((e : Expr) × Counts e) ((f : FieldValue) × Any f) ((p : Pattern) × Any p) ((s : Slice) × Any s) ((t : TypeExpr) × Any t)
      Bitfield ConstraintPart Expr FieldValue Pattern Slice TypeExpr (λ b. b.0) (λ p. p.0) (λ e. e.0) (λ f. f.0) (λ p. p.0) (λ s. s.0) (λ t. t.0)

  number_negation : (span : Span) (o : UnaryOperator) (e : (e : Expr) × Counts e) (G : Scope) (w : Number) →
      number_of span (reading_of_one o (found t e.0)) G ≡ Ok w → P (roll-Expr (ex.Unary span o e.0)) G w.number
  unfolding Counts
  number_negation span unary.Negate e G w h =
      let u = bind_ok ((found t e.0).number G) _ w h in
      number_made (held span (pos 0 -ℤ u.value.number)) (negative_tree span u.value.tree) w
      (P (roll-Expr (ex.Unary span unary.Negate e.0)) G)
      (λ z f. forms.negated span e.0 G u.value.number z (e.1 G u.value u.first) f) u.then
  number_negation span unary.Not e G w h = err_ok (fault_of T19 span) w h
  number_negation span unary.Complement e G w h = err_ok (fault_of T19 span) w h

  number_operation : (span : Span) (o : Combination) (e f : (e : Expr) × Counts e) (G : Scope) (w : Number) →
      number_of span (combined o (found t e.0) (found t f.0)) G ≡ Ok w → P (roll-Expr (ex.Binary span (operator o) e.0 f.0)) G w.number
  unfolding Counts
  number_operation span o e f G w h =
      let u = bind_ok ((found t e.0).number G) _ w h in
      let v = bind_ok ((found t f.0).number G) _ w u.then in
      number_made (number_combined span o u.value.number v.value.number) (combined_tree span o u.value.tree v.value.tree) w
      (P (roll-Expr (ex.Binary span (operator o) e.0 f.0)) G)
      (λ z g. forms.combined span o e.0 f.0 G u.value.number v.value.number z (e.1 G u.value u.first) (f.1 G v.value v.first) g) v.then

  number_division : (span : Span) (e f : (e : Expr) × Counts e) (G : Scope) (w : Number) →
      number_of span (divided (found t e.0) (found t f.0)) G ≡ Ok w → P (roll-Expr (ex.Binary span binary.DivideExact e.0 f.0)) G w.number
  unfolding Counts
  number_division span e f G w h =
      let u = bind_ok ((found t e.0).number G) _ w h in
      let k = bind_ok (found_or (found t f.0).divisor T19 span) _ w u.then in
      number_made (number_divided span u.value.number k.value) (divided_tree span u.value.tree (found t f.0).span k.value) w
      (P (roll-Expr (ex.Binary span binary.DivideExact e.0 f.0)) G)
      (λ z g. forms.divided span e.0 f.0 k.value G u.value.number z (e.1 G u.value u.first)
      (is_written t f.0 k.value (found_ok (found t f.0).divisor T19 span k.value k.first)) g) k.then

  number_both : (span : Span) (o : BinaryOperator) (e f : (e : Expr) × Counts e) (G : Scope) (w : Number) →
      number_of span (reading_of_two (joining o) (found t e.0) (found t f.0)) G ≡ Ok w → P (roll-Expr (ex.Binary span o e.0 f.0)) G w.number
  number_both span binary.Add e f G w h = number_operation span Sum e f G w h
  number_both span binary.Subtract e f G w h = number_operation span Difference e f G w h
  number_both span binary.Multiply e f G w h = number_operation span Product e f G w h
  number_both span binary.DivideExact e f G w h = number_division span e f G w h
  number_both span o e f G w h = err_ok (fault_of T19 span) w h

  number_at : (y : Under) (G : Scope) (w : Number) → number_rule (opened t (parts y)) G ≡ Ok w → P (roll-Expr (parts y)) G w.number
  number_at (ex.Int span n) G w h = subst (P (roll-Expr (ex.Int span n)) G) (ap (λ (v : Number). v.number) (ok_ok (number_as (pos n) (tree.Int (width_note span) n)) w (then_ok (need (fits (pos n)) T20 span) _ w h).then)) (forms.whole span n G)
  number_at (ex.Name span name) G w h =
      number_made (number_of_standing span (standing_of name G.names)) (name_read span name G) w (P (roll-Expr (ex.Name span name)) G) (λ z e. forms.name span name G z e) h
  number_at (ex.Unary span o e) G w h = number_negation span o e G w h
  number_at (ex.Binary span o e f) G w h = number_both span o e f G w h
  number_at y G w h = err_ok (fault_of T19 (span_of (opened t (parts y)))) w h

  number_step : (x : ExprLayer) (y : Under) → parts y ≡ x → Counts (roll-Expr x)
  unfolding Counts
  number_step x y is G w h =
      subst (λ z. P (roll-Expr z) G w.number) is (number_at y G w (ap (λ z. number_rule (opened t z) G) is ∙ sym (ap (λ (f : Found). f.number G) (found_roll t x)) ∙ h))

  counts : (e : Expr) → Counts e
  counts = ind-Expr Any Any Counts Any Any Any Any (λ x y is. tt) (λ x y is. tt) number_step (λ x y is. tt) (λ x y is. tt) (λ x y is. tt) (λ x y is. tt)

  pub by_number_forms : (e : Expr) (G : Scope) (w : Number) → (found t e).number G ≡ Ok w → P e G w.number
  unfolding Counts
  by_number_forms e G w h = counts e G w h
