-- Width expressions with their typed trees, those of widths and those of types: both do the same, and give the integer of the width, or
-- D01, or D03.
use Rattle.std.proofs.Common.{◌≡◌, ℕ, ◌<◌, ◌==◌, ℤ, pos, cond, Bool, true, false, List, Option, Some, None, Ok, refl, sym, ap, ◌∙◌, subst, arith}
use Rattle.std.specs.Prelude.{nat_lt, ◌-ℤ◌}
use Rattle.std.proofs.lemmas.Bool.Decides.{nat_tests}
use Rattle.asl_syn.specs.declared.token.Span.{Span}
use Rattle.asl_syn.specs.declared.code.StaticCode.TheVariants.{T02, T05, T19, T20}
use Rattle.asl_syn.specs.declared.code.DynCode.{DynCode}
use Rattle.asl_syn.specs.declared.code.DynCode.TheVariants.{D01, D02, D03}
use Rattle.asl_syn.specs.declared.tree.Expr.{Expr, out-Expr, out-roll-Expr}
use Rattle.asl_syn.specs.declared.tree.Bitfield.TheOpen as ex
use Rattle.asl_syn.specs.declared.tree.Decl.{Decl}
use Rattle.asl_syn.specs.declared.tree.UnaryOperator.{UnaryOperator}
use Rattle.asl_syn.specs.declared.tree.UnaryOperator.TheVariants as unary
use Rattle.asl_syn.specs.declared.tree.BinaryOperator.{BinaryOperator}
use Rattle.asl_syn.specs.declared.tree.BinaryOperator.TheVariants as binary
use Rattle.asl_syn.specs.Layers.{ExprLayer}
use Rattle.asl_num.specs.Exact.{floor_div, floor_mod}
use Rattle.asl_poly.specs.Terms.{Polynomial}
use Rattle.asl_poly.specs.Poly.{constant_map, constant_value, is_multiple}
use Rattle.asl_cons.proofs.Results.{constant_is}
use Rattle.asl_rules.specs.declared.joining.Combination.{Combination}
use Rattle.asl_rules.specs.declared.joining.Combination.TheVariants.{Sum, Difference, Product}
use Rattle.asl_rules.specs.Faults.{◌>>=◌, need, found_or, fault_of}
use Rattle.asl_rules.specs.Tests.{Tests, IsRight}
use Rattle.asl_rules.specs.types.Types.{Ty, is_integer}
use Rattle.asl_rules.specs.types.Closed.{Assignment, width_at}
use Rattle.asl_rules.specs.types.Arithmetic.{operator, joining, combined, divided, reading_of_one, reading_of_two}
use Rattle.asl_rules.specs.declarations.Scopes.{Scope, Entry, Signature, Counted, Storage, Standing, Stored, Subprogram, TypeName, Label, standing_of, known_value, reading}
use Rattle.asl_rules.specs.types.Widths.{width_of_number, width_of_known, width_of_standing, width_of_counted, width_difference, width_combined, width_divided, number_of_standing, number_of_counted, number_combined, number_divided, exact_quotient, held}
use Rattle.asl_rules.specs.declared.effect.Effect.{Effect}
use Rattle.asl_rules.specs.declared.effect.Effect.TheVariants.{Pure}
use Rattle.asl_rules.specs.declarations.Layouts.{slot_of, layout_of}
use Rattle.asl_rules.specs.runs.Trees as tree
use Rattle.asl_rules.specs.runs.Trees.{Tree, Note, TreeFunc, tree_at}
use Rattle.asl_rules.specs.types.Effects.{together, greater}
use Rattle.asl_rules.specs.expressions.Operations.{binary_rule, unary_rule}
use Rattle.asl_rules.specs.expressions.Typing.{Found, Typed, Width, Number, typed_as, in_class, width_as, number_as, width_note}
use Rattle.asl_cons.specs.Arithmetic.{fits}
use Rattle.asl_rules.specs.expressions.Exprs as rules
use Rattle.asl_rules.specs.expressions.Exprs.{literal_type, found, typed, width, typed_rule, width_rule, number_rule, name_read, negative_tree, combined_tree, divided_tree, name_of_standing, operation_rule, operation_rule_of_two, span_of}
use Rattle.asl_rules.specs.values.Values.{Value, int}
use Rattle.asl_rules.specs.runs.States.{Core}
use Rattle.asl_rules.specs.private.Agreement.{types_in, IsKnown, CountsAs}
use Rattle.asl_rules.specs.runs.Plans.{Faulted, Eval, Good, Bad}
use Rattle.asl_rules.specs.runs.Pures.{known}
use Rattle.asl_rules.specs.values.Operators.{in_range, integer_of as integer_value, quotient, binary_value, unary_value}
use Rattle.asl_rules.specs.runs.Forms.{at_once, behind}
use Rattle.asl_rules.specs.runs.Evaluation.{Does, value_of, or_value, label_in, expr_node}
use Rattle.asl_rules.specs.private.TypedMeaning.{BareCore, Runs, value_at, tree_node}
use Rattle.asl_rules.specs.private.Erasure.{erased}
use Rattle.asl_rules.proofs.basics.Inversions.{ok_ok, err_ok, bind_ok, then_ok, need_ok, found_ok}
use Rattle.asl_rules.proofs.basics.Tests.{some_same}
use Rattle.asl_rules.proofs.expressions.OperatorForms.{is_int}
use Rattle.asl_rules.proofs.values.Rounded.{constant_width}
use Rattle.asl_rules.proofs.widths.WorthForms.{IsWritten}
use Rattle.asl_rules.proofs.widths.WidthForms.{found_roll, is_written}
use Rattle.asl_rules.proofs.widths.WidthsHeld.{number_held, difference_held, combined_held, divided_held, above_0, zero_held}
use Rattle.asl_laws.proofs.widths.NumbersWorth as numbers
use Rattle.asl_laws.proofs.widths.NumbersWorth.{number_by}
use Rattle.asl_laws.proofs.widths.WholeWidths.{number_width, combined_width, negated_width, divided_width, width_value}
use Rattle.asl_rules.proofs.scopes.Lookups.{Finds, finds}
use Rattle.asl_rules.proofs.scopes.Naming.{WellNamed}
use Rattle.asl_rules.proofs.scopes.Slots.{has_names, slot_is}
use Rattle.asl_rules.proofs.basics.Opening.{opened, unrolled, in_class_is, finish_is}
use Rattle.asl_rules.proofs.widths.Known.{integer_of_width}
use Rattle.asl_laws.proofs.runs.Several.{one}
use Rattle.asl_laws.proofs.expressions.Claims.{Here, Asked, of_width, of_number, of_known, of_divisor, tree_asked, Answers, IsWidth, GivesAsked, At}
use Rattle.asl_laws.proofs.expressions.TreePlans.{Same, operand_also}
use Rattle.asl_laws.proofs.expressions.ExprForms.{env, program, or_further}

integer_in : Value → ℤ
integer_in (int z) = z
integer_in x = pos 0

pub int_same : (y z : ℤ) → int y ≡ int z → y ≡ z
unfolding integer_in
int_same y z h = ap integer_in h

-- storage that holds an integer
pub record IntAt (av : Assignment) (s : Storage) (o : Option Value) : Type 0 where
  pub one : ℤ
  pub is : o ≡ Some (int one)
  pub known : (z : ℤ) → known_value s ≡ Some (int z) → one ≡ z
  pub counts : CountsAs av s.counted (int one)

is_known : (o : Option Value) (y z : ℤ) → IsKnown o (int y) → o ≡ Some (int z) → y ≡ z
is_known (Some x) y z k e = int_same y z (k ∙ some_same x (int z) e)
is_known None y z k e = absurd cc

-- ---- names

known_width : (av : Assignment) (span : Span) (o : Option Value) (p : Polynomial) (y : ℤ) → ((z : ℤ) → o ≡ Some (int z) → y ≡ z) →
    width_of_known span o ≡ Ok p → IsWidth av p (int y)
known_width av span o p y k h =
    let w = integer_of_width span o p h in
    subst (λ v. IsWidth av p (int v)) (sym (k w.number w.is))
    (width_value av p w.number (number_held span w.number p w.made) (number_width av span w.number p w.made))

-- the integer of a name in a width, and in an end that names no atom
pub counted_width : (av : Assignment) (span : Span) (o : Option Counted) (v : Option Value) (p : Polynomial) (y : ℤ) →
    ((z : ℤ) → v ≡ Some (int z) → y ≡ z) → CountsAs av o (int y) →
    width_of_counted span o v ≡ Ok p → IsWidth av p (int y)
counted_width av span None v p y k c h = known_width av span v p y k h
counted_width av span (Some b) v p y k c h = subst (λ q. IsWidth av q (int y)) (ok_ok b.poly p h) c

pub counted_number : (av : Assignment) (span : Span) (o : Option Counted) (v : Option Value) (y z : ℤ) →
    ((x : ℤ) → v ≡ Some (int x) → y ≡ x) → CountsAs av o (int y) →
    number_of_counted span o v ≡ Ok z → y ≡ z
counted_number av span None v y z k c h = numbers.known_is span v y z k h
counted_number av span (Some b) v y z k c h =
    int_same y (width_at b.poly av) c.0 ∙ constant_width av b.poly z
    (constant_is av b.poly z (found_ok (constant_value b.poly) T19 span z h))

-- ---- divisors

is_zero_nat : (n : ℕ) → (n == 0) ≡ true → n ≡ 0
is_zero_nat n h = grind (arith, nat_tests)

some_is_nat : (n : ℕ) → 0 < n → nat_lt 0 n ≡ true
some_is_nat n h = grind (arith, nat_tests)

-- division by a number above 0
pub divides : (limit : ℕ) (span : Span) (y : ℤ) (k : ℕ) → 0 < k →
    binary_value limit span binary.DivideExact (int y) (int (pos k)) ≡ quotient span y k
divides limit span y k l = ap (λ b. cond b (quotient span y k) (Bad (Faulted D02 span))) (some_is_nat k l)

-- what combines two integers
pub combines : (limit : ℕ) (span : Span) (o : Combination) (y v : ℤ) →
    binary_value limit span (operator o) (int y) (int v) ≡ integer_value span (number_by o y v)
combines limit span Sum y v = refl
combines limit span Difference y v = refl
combines limit span Product y v = refl

pub number_is_by : (span : Span) (o : Combination) (x y z : ℤ) → number_combined span o x y ≡ Ok z → number_by o x y ≡ z
number_is_by span Sum x y z h = numbers.held_is span _ z h
number_is_by span Difference x y z h = numbers.held_is span _ z h
number_is_by span Product x y z h = numbers.held_is span _ z h

-- the number of an end that is divided
pub quotient_is : (span : Span) (y z : ℤ) (k : ℕ) → number_divided span y k ≡ Ok z → floor_div y k ≡ z
quotient_is span y z k h =
    let u = then_ok (need (is_multiple k (Some y)) T19 span) (Ok (exact_quotient y k)) z h in ok_ok (exact_quotient y k) z u.then

module _ (tests : Tests) where
  -- a divisor stands where its literal does
  pub divisor_span : (f : Expr) (k : ℕ) (w : IsWritten f k) → (found tests f).span ≡ w.span
  divisor_span f k w = ap (λ e. (found tests e).span) w.is ∙ ap (λ (x : Found). x.span) (found_roll tests (ex.Int w.span k))

  pub divisor_out : (f : Expr) (k : ℕ) (w : IsWritten f k) → out-Expr f ≡ ex.Int w.span k
  divisor_out f k w = ap out-Expr w.is ∙ out-roll-Expr (ex.Int w.span k)

  -- and has a type in each scope
  abbrev pub divisor_as : Span → ℕ → Typed
  divisor_as span k = typed_as span (literal_type k) Pure (λ m. tree.Int m k)

  pub divisor_typed : (f : Expr) (k : ℕ) (w : IsWritten f k) (G : Scope) → typed tests f G ≡ Ok (divisor_as w.span k)
  divisor_typed f k w G = ap (λ e. typed tests e G) w.is ∙ ap (λ (x : Found). x.typed G) (found_roll tests (ex.Int w.span k))

module _ (tests : Tests) (right : IsRight tests) (ds : List Decl) (base : List Entry) (subs : List Signature) (loose : Bool) (funcs : List TreeFunc) (w : WellNamed base) where
  pub int_at : (av : Assignment) (s : Storage) (o : Option Value) → Finds av (types_in base) s o → is_integer s.ty ≡ true → IntAt av s o
  int_at av s None f i = absurd f
  int_at av s (Some x) f i =
      let z = is_int (types_in base) av tests right s.ty x i f.0 in
      record { one = z.0; is = ap Some z.1; known = λ y e. is_known (known_value s) z.0 y (subst (IsKnown (known_value s)) z.1 f.1) e; counts = subst (CountsAs av s.counted) z.1 f.2 }

  -- both give one value, of which P holds
  abbrev pub Out : Here → (Value → Type 0) → Value → Value → Core → Type 0
  Out H P x y c = (x ≡ y) × (P x × At tests base subs loose H c)

  abbrev Both : (H : Here) (P : Value → Type 0) → Does Value → Runs Value → Type 0
  Both H P p q = Same tests right base subs loose H (Out H P) p q

  made_same : (b : Bool) (H : Here) (P : Value → Type 0) (x : Value) (code : DynCode) (span : Span) (c : Core) → (b ≡ true → P x) →
      At tests base subs loose H c →
      Both H P (at_once (cond b (Good x) (Bad (Faulted code span))) c) (at_once (cond b (Good x) (Bad (Faulted code span))) (erased c))
  made_same true H P x code span c p a = (refl, (refl, (p refl, a)))
  made_same false H P x code span c p a = (refl, refl, a.agrees.globals)

  integer_same : (H : Here) (P : Value → Type 0) (y : ℤ) (span : Span) (c : Core) → P (int y) → At tests base subs loose H c →
      Both H P (at_once (integer_value span y) c) (at_once (integer_value span y) (erased c))
  integer_same H P y span c p a = made_same (in_range y) H P (int y) D01 span c (λ _. p) a

  quotient_same : (H : Here) (P : Value → Type 0) (y : ℤ) (k : ℕ) (span : Span) (c : Core) → (floor_mod y k ≡ 0 → P (int (floor_div y k))) →
      At tests base subs loose H c →
      Both H P (at_once (quotient span y k) c) (at_once (quotient span y k) (erased c))
  quotient_same H P y k span c p a =
      made_same (floor_mod y k == 0) H P (int (floor_div y k)) D03 span c (λ e. p (is_zero_nat (floor_mod y k) e)) a

  name_same : (H : Here) (P : Value → Type 0) (span : Span) (name : List ℕ) (s : Storage) (c : Core) →
      standing_of name H.scope.names ≡ Some (Stored s) → is_integer s.ty ≡ true →
      ((y : ℤ) → ((v : ℤ) → known_value s ≡ Some (int v) → y ≡ v) → CountsAs H.present s.counted (int y) → P (int y)) →
      At tests base subs loose H c →
      Both H P (at_once (known span (or_value (value_of name c.frame)
      (or_value (value_of name c.globals) (label_in (standing_of name base))))) c)
      (at_once (known span (value_at (slot_of name (layout_of H.scope.names)) (erased c))) (erased c))
  name_same H P span name s c q i k a =
      let u = value_of name c.frame in
      let v = value_of name c.globals in
      let l = label_in (standing_of name base) in
      let slot = slot_of name (layout_of H.scope.names) in
      let f = int_at H.present s (or_value u v) (finds H.present base H.scope.names c name s a.agrees q) i in
      let e : or_value u (or_value v l) ≡ Some (int f.one) = or_further (int f.one) u v l f.is in
      let r : value_at slot (erased c) ≡ Some (int f.one) = slot_is (int f.one) name H.scope.names c (has_names H.present base H.scope.names c w.outside a.agrees) f.is in
      subst (λ o. Both H P (at_once (known span o) c) (at_once (known span (value_at slot (erased c))) (erased c))) (sym e)
      (subst (λ o. Both H P (at_once (known span (Some (int f.one))) c) (at_once (known span o) (erased c))) (sym r)
      (refl, (refl, (k f.one f.known f.counts, a))))

  -- an operand of a width, and what follows it
  asked_same : (H : Here) (P : Value → Type 0) (q : Asked) (e : Expr) (c : Core) (k : Value → Core → Does Value)
      (l : Value → BareCore → Runs Value) → Answers tests q e H.scope → At tests base subs loose H c →
      ((x : Value) (c1 : Core) → GivesAsked (types_in base) H.present q x → At tests base subs loose H c1 → Both H P (k x c1)
      (l x (erased c1))) → Both H P (Eval e c k) (Eval (tree_asked q) (erased c) l)
  asked_same H P q e c k l h a next =
      (one (H, q), record { answers = h; is_tree = refl; at = a }, refl, λ x c1 v. next x c1 v.0 v.1, λ x c1 v. v)

  -- what is asked of a node, as an integer
  pub record Widened (H : Here) (q : Asked) (layer : ExprLayer) (c : Core) : Type 0 where
    pub at : span_of layer ≡ tree_at (tree_asked q)
    pub does : Same tests right base subs loose H (λ x y c1. (x ≡ y) × (GivesAsked (types_in base) H.present q x × At tests base subs loose H c1)) (expr_node (env tests right ds base subs loose funcs w) layer c) (tree_node (program tests right ds base subs loose funcs w) (tree_asked q) (erased c))

  -- ---- operations

  -- an operand that is negated
  negated_same : (H : Here) (P : Value → Type 0) (span : Span) (e : Expr) (q : Asked) (y : ℤ) (c : Core) → Answers tests q e H.scope →
      ((x : Value) → GivesAsked (types_in base) H.present q x → (x ≡ int y) × P (int (pos 0 -ℤ y))) → At tests base subs loose H c →
      Both H P (behind e c (unary_value span unary.Negate)) (behind (tree_asked q) (erased c) (unary_value span unary.Negate))
  negated_same H P span e q y c h k a =
      asked_same H P q e c (λ x c1. at_once (unary_value span unary.Negate x) c1) (λ x c1. at_once (unary_value span unary.Negate x) c1) h a
      (λ x c1 g a1. subst (λ v. Both H P (at_once (unary_value span unary.Negate v) c1) (at_once (unary_value span unary.Negate v) (erased c1))) (sym (k x g).0)
      (integer_same H P (pos 0 -ℤ y) span c1 (k x g).1 a1))

  -- `+`, `-` and `*`
  combined_same : (H : Here) (P : Value → Type 0) (span : Span) (o : Combination) (e f : Expr) (p q : Asked) (y v : ℤ) (c : Core) →
      Answers tests p e H.scope → Answers tests q f H.scope →
      ((x : Value) → GivesAsked (types_in base) H.present p x → x ≡ int y) →
      ((x : Value) → GivesAsked (types_in base) H.present q x → x ≡ int v) →
      ((x u : Value) → GivesAsked (types_in base) H.present p x → GivesAsked (types_in base) H.present q u → P (int (number_by o y v))) →
      At tests base subs loose H c →
      Both H P (Eval e c (λ x c1. behind f c1 (binary_value tests.limit span (operator o) x)))
      (Eval (tree_asked p) (erased c) (λ x c1. behind (tree_asked q) c1 (binary_value tests.limit span (operator o) x)))
  combined_same H P span o e f p q y v c h k i j g a =
      asked_same H P p e c (λ x c1. behind f c1 (binary_value tests.limit span (operator o) x))
      (λ x c1. behind (tree_asked q) c1 (binary_value tests.limit span (operator o) x)) h a (λ x c1 m a1.
      asked_same H P q f c1 (λ u c2. at_once (binary_value tests.limit span (operator o) x u) c2)
      (λ u c2. at_once (binary_value tests.limit span (operator o) x u) c2) k a1 (λ u c2 n a2.
      subst (λ r. Both H P (at_once r c2) (at_once r (erased c2)))
      (sym (ap (λ t. binary_value tests.limit span (operator o) t u) (i x m) ∙ ap (binary_value tests.limit span (operator o) (int y))
      (j u n) ∙ combines tests.limit span o y v))
      (integer_same H P (number_by o y v) span c2 (g x u m n) a2)))

  -- the literal of a divisor, and what follows it
  abbrev IsDivisor : (H : Here) (P : Value → Type 0) (f : Expr) (t : Tree) (k : ℕ) → Type 1
  IsDivisor H P f t k = (c : Core) (g : Value → Core → Does Value) (l : Value → BareCore → Runs Value) → At tests base subs loose H c →
      ((x : Value) (c1 : Core) → x ≡ int (pos k) → At tests base subs loose H c1 → Both H P (g x c1) (l x (erased c1))) → Both H P
      (Eval f c g) (Eval t (erased c) l)

  -- `DIV`
  divided_same : (H : Here) (P : Value → Type 0) (span : Span) (e f : Expr) (p : Asked) (t : Tree) (y : ℤ) (k : ℕ) (c : Core) →
      Answers tests p e H.scope → IsDivisor H P f t k → 0 < k →
      ((x : Value) → GivesAsked (types_in base) H.present p x → (x ≡ int y) × (floor_mod y k ≡ 0 → P (int (floor_div y k)))) →
      At tests base subs loose H c →
      Both H P (Eval e c (λ x c1. behind f c1 (binary_value tests.limit span binary.DivideExact x)))
      (Eval (tree_asked p) (erased c) (λ x c1. behind t c1 (binary_value tests.limit span binary.DivideExact x)))
  divided_same H P span e f p t y k c h d l i a =
      asked_same H P p e c (λ x c1. behind f c1 (binary_value tests.limit span binary.DivideExact x))
      (λ x c1. behind t c1 (binary_value tests.limit span binary.DivideExact x)) h a (λ x c1 m a1.
      d c1 (λ u c2. at_once (binary_value tests.limit span binary.DivideExact x u) c2)
      (λ u c2. at_once (binary_value tests.limit span binary.DivideExact x u) c2) a1 (λ u c2 n a2.
      subst (λ r. Both H P (at_once r c2) (at_once r (erased c2)))
      (sym (ap (λ v. binary_value tests.limit span binary.DivideExact v u) (i x m).0 ∙ ap
      (binary_value tests.limit span binary.DivideExact (int y)) n ∙ divides tests.limit span y k l))
      (quotient_same H P y k span c2 (i x m).1 a2)))

  literal_divisor : (H : Here) (P : Value → Type 0) (f : Expr) (k : ℕ) → (found tests f).divisor ≡ Some k →
      IsDivisor H P f (tree.Int (width_note (found tests f).span) k) k
  literal_divisor H P f k h c g l a n = asked_same H P (of_divisor (found tests f).span k) f c g l (h, refl) a n

  typed_divisor : (H : Here) (P : Value → Type 0) (f : Expr) (Q : Typed) (k : ℕ) → typed tests f H.scope ≡ Ok Q →
      (found tests f).divisor ≡ Some k → IsDivisor H P f Q.tree k
  typed_divisor H P f Q k q h c g l a n =
      operand_also tests right base subs loose H (Out H P) f Q (of_divisor (found tests f).span k) c g l q (h, refl) a
      (λ x c1 i m a1. n x c1 m a1)

  -- ---- widths

  combined_widths : (H : Here) (span : Span) (o : Combination) (e f : Expr) (p q : Asked) (v w r : Polynomial) (c : Core) →
      width_combined span o v w ≡ Ok r → Answers tests p e H.scope → Answers tests q f H.scope →
      ((x : Value) → GivesAsked (types_in base) H.present p x → IsWidth H.present v x) →
      ((x : Value) → GivesAsked (types_in base) H.present q x → IsWidth H.present w x) → At tests base subs loose H c →
      Both H (IsWidth H.present r) (Eval e c (λ x c1. behind f c1 (binary_value tests.limit span (operator o) x)))
      (Eval (tree_asked p) (erased c) (λ x c1. behind (tree_asked q) c1 (binary_value tests.limit span (operator o) x)))
  combined_widths H span o e f p q v w r c g h k i j a =
      let y = width_at v H.present in
      let z = width_at w H.present in
      combined_same H (IsWidth H.present r) span o e f p q y z c h k (λ x m. (i x m).0) (λ x m. (j x m).0)
      (λ x u m n.
      let s = i x m in
      let t = j u n in
      width_value H.present r (number_by o y z) (combined_held span o v w r s.2 t.2 g)
      (combined_width H.present span o v w r y z s.2 t.2 s.1 t.1 g)) a

  divided_widths : (H : Here) (span : Span) (e f : Expr) (p : Asked) (t : Tree) (v r : Polynomial) (k : ℕ) (c : Core) →
      width_divided span v k ≡ Ok r → 0 < k → Answers tests p e H.scope → IsDivisor H (IsWidth H.present r) f t k →
      ((x : Value) → GivesAsked (types_in base) H.present p x → IsWidth H.present v x) → At tests base subs loose H c →
      Both H (IsWidth H.present r) (Eval e c (λ x c1. behind f c1 (binary_value tests.limit span binary.DivideExact x)))
      (Eval (tree_asked p) (erased c) (λ x c1. behind t c1 (binary_value tests.limit span binary.DivideExact x)))
  divided_widths H span e f p t v r k c g l h d i a =
      let y = width_at v H.present in
      divided_same H (IsWidth H.present r) span e f p t y k c h d l
      (λ x m.
      let s = i x m in
      (s.0, λ n. width_value H.present r (floor_div y k) (divided_held span v r k s.2 l g) (divided_width H.present span v r k y s.2 l s.1 n g))) a

  negated_widths : (H : Here) (span : Span) (e : Expr) (p : Asked) (v r : Polynomial) (c : Core) →
      width_difference span (constant_map (pos 0)) v ≡ Ok r → Answers tests p e H.scope →
      ((x : Value) → GivesAsked (types_in base) H.present p x → IsWidth H.present v x) → At tests base subs loose H c →
      Both H (IsWidth H.present r) (behind e c (unary_value span unary.Negate))
      (behind (tree_asked p) (erased c) (unary_value span unary.Negate))
  negated_widths H span e p v r c g h i a =
      let y = width_at v H.present in
      negated_same H (IsWidth H.present r) span e p y c h
      (λ x m.
      let s = i x m in
      (s.0, width_value H.present r (pos 0 -ℤ y) (difference_held span (constant_map (pos 0)) v r zero_held s.2 g) (negated_width H.present span v r y s.2 s.1 g))) a

  width_made : (H : Here) (W : Width) (layer : ExprLayer) (c : Core) (p : Polynomial) (t : Tree) → width_as p t ≡ W →
      span_of layer ≡ tree_at t →
      Both H (IsWidth H.present p) (expr_node (env tests right ds base subs loose funcs w) layer c)
      (tree_node (program tests right ds base subs loose funcs w) t (erased c)) → Widened H (of_width W) layer c
  width_made H W layer c p t e at d = subst (λ (z : Width). Widened H (of_width z) layer c) e (record { at = at; does = d })

  width_literal : (H : Here) (span : Span) (n : ℕ) (p : Polynomial) (c : Core) → width_of_number span (pos n) ≡ Ok p →
      At tests base subs loose H c →
      Both H (IsWidth H.present p) (at_once (integer_value span (pos n)) c) (at_once (integer_value span (pos n)) (erased c))
  width_literal H span n p c h a =
      integer_same H (IsWidth H.present p) (pos n) span c
      (width_value H.present p (pos n) (number_held span (pos n) p h) (number_width H.present span (pos n) p h)) a

  width_int : (H : Here) (W : Width) (span : Span) (n : ℕ) (c : Core) → (width_of_number span (pos n) >>= λ p. Ok (width_as p (tree.Int (width_note span) n))) ≡ Ok W → At tests base subs loose H c → Widened H (of_width W) (ex.Int span n) c
  width_int H W span n c h a =
      let u = bind_ok (width_of_number span (pos n)) _ W h in
      width_made H W (ex.Int span n) c u.value (tree.Int (width_note span) n)
      (ok_ok (width_as u.value (tree.Int (width_note span) n)) W u.then) refl (width_literal H span n u.value c u.first a)

  width_by : (H : Here) (span : Span) (name : List ℕ) (o : Option Standing) (p : Polynomial) (c : Core) → standing_of name H.scope.names ≡ o → width_of_standing span o ≡ Ok p → At tests base subs loose H c →
      Both H (IsWidth H.present p) (at_once (known span
      (or_value (value_of name c.frame) (or_value (value_of name c.globals) (label_in (standing_of name base))))) c)
      (at_once (known span (value_at (slot_of name (layout_of H.scope.names)) (erased c))) (erased c))
  width_by H span name (Some (Stored s)) p c q h a =
      let u = then_ok (need (is_integer s.ty) T05 span) (width_of_counted span s.counted (known_value s)) p h in
      name_same H (IsWidth H.present p) span name s c q (need_ok (is_integer s.ty) T05 span tt u.first)
      (λ y k l. counted_width H.present span s.counted (known_value s) p y k l u.then) a
  width_by H span name (Some (Label T x)) p c q h a = err_ok (fault_of T05 span) p h
  width_by H span name (Some Subprogram) p c q h a = err_ok (fault_of T02 span) p h
  width_by H span name (Some (TypeName T)) p c q h a = err_ok (fault_of T02 span) p h
  width_by H span name None p c q h a = err_ok (fault_of T02 span) p h

  width_name : (H : Here) (W : Width) (span : Span) (name : List ℕ) (c : Core) → (width_of_standing span (standing_of name H.scope.names) >>= λ p. Ok (width_as p (name_read span name H.scope))) ≡ Ok W → At tests base subs loose H c → Widened H (of_width W) (ex.Name span name) c
  width_name H W span name c h a =
      let u = bind_ok (width_of_standing span (standing_of name H.scope.names)) _ W h in
      width_made H W (ex.Name span name) c u.value (name_read span name H.scope)
      (ok_ok (width_as u.value (name_read span name H.scope)) W u.then) refl
      (width_by H span name (standing_of name H.scope.names) u.value c refl u.first a)

  width_one : (H : Here) (W : Width) (span : Span) (o : UnaryOperator) (e : Expr) (c : Core) →
      rules.width_of span (reading_of_one o (found tests e)) H.scope ≡ Ok W → At tests base subs loose H c →
      Widened H (of_width W) (ex.Unary span o e) c
  width_one H W span unary.Negate e c h a =
      let t = bind_ok (width tests e H.scope) _ W h in
      let u = bind_ok (width_difference span (constant_map (pos 0)) t.value.poly) _ W t.then in
      width_made H W (ex.Unary span unary.Negate e) c u.value (negative_tree span t.value.tree)
      (ok_ok (width_as u.value (negative_tree span t.value.tree)) W u.then) refl
      (negated_widths H span e (of_width t.value) t.value.poly u.value c u.first t.first (λ x g. g) a)
  width_one H W span unary.Not e c h a = err_ok (fault_of T19 span) W h
  width_one H W span unary.Complement e c h a = err_ok (fault_of T19 span) W h

  -- both operands of a width, and what they are combined to
  record Combined (H : Here) (span : Span) (o : Combination) (e f : Expr) (W : Width) : Type 0 where
    left : Width
    is_left : width tests e H.scope ≡ Ok left
    right_one : Width
    is_right : width tests f H.scope ≡ Ok right_one
    poly : Polynomial
    is_poly : width_combined span o left.poly right_one.poly ≡ Ok poly
    is : width_as poly (combined_tree span o left.tree right_one.tree) ≡ W

  combined_of : (H : Here) (W : Width) (span : Span) (o : Combination) (e f : Expr) →
      rules.width_of span (combined o (found tests e) (found tests f)) H.scope ≡ Ok W → Combined H span o e f W
  combined_of H W span o e f h =
      let t = bind_ok (width tests e H.scope) _ W h in
      let u = bind_ok (width tests f H.scope) _ W t.then in
      let v = bind_ok (width_combined span o t.value.poly u.value.poly) _ W u.then in
      record {
        left = t.value;
        is_left = t.first;
        right_one = u.value;
        is_right = u.first;
        poly = v.value;
        is_poly = v.first;
        is = ok_ok (width_as v.value (combined_tree span o t.value.tree u.value.tree)) W v.then;
      }

  -- the operand of a division in a width, the divisor, and the quotient
  record Divided (H : Here) (span : Span) (e f : Expr) (W : Width) : Type 0 where
    left : Width
    is_left : width tests e H.scope ≡ Ok left
    by : ℕ
    is_by : (found tests f).divisor ≡ Some by
    some_by : 0 < by
    poly : Polynomial
    is_poly : width_divided span left.poly by ≡ Ok poly
    is : width_as poly (divided_tree span left.tree (found tests f).span by) ≡ W

  divided_of : (H : Here) (W : Width) (span : Span) (e f : Expr) →
      rules.width_of span (divided (found tests e) (found tests f)) H.scope ≡ Ok W → Divided H span e f W
  divided_of H W span e f h =
      let t = bind_ok (width tests e H.scope) _ W h in
      let k = bind_ok (found_or (found tests f).divisor T19 span) _ W t.then in
      let v = bind_ok (width_divided span t.value.poly k.value) _ W k.then in
      let d = found_ok (found tests f).divisor T19 span k.value k.first in
      record {
        left = t.value;
        is_left = t.first;
        by = k.value;
        is_by = d;
        some_by = above_0 f k.value (is_written tests f k.value d);
        poly = v.value;
        is_poly = v.first;
        is = ok_ok (width_as v.value (divided_tree span t.value.tree (found tests f).span k.value)) W v.then;
      }

  -- a node of an operator that combines evaluates both operands, as its tree does
  combined_node : (H : Here) (P : Value → Type 0) (span : Span) (o : Combination) (e f : Expr) (T : Ty) (k : Effect) (t u : Tree) (c : Core) →
      Both H P (Eval e c (λ x c1. behind f c1 (binary_value tests.limit span (operator o) x)))
      (Eval t (erased c) (λ x c1. behind u c1 (binary_value tests.limit span (operator o) x))) →
      Both H P (expr_node (env tests right ds base subs loose funcs w) (ex.Binary span (operator o) e f) c)
      (tree_node (program tests right ds base subs loose funcs w)
      (tree.Binary (record { span = span; ty = T; effect = k }) (operator o) t u) (erased c))
  combined_node H P span Sum e f T k t u c d = d
  combined_node H P span Difference e f T k t u c d = d
  combined_node H P span Product e f T k t u c d = d

  width_combined_node : (H : Here) (W : Width) (span : Span) (o : Combination) (e f : Expr) (c : Core) → Combined H span o e f W →
      At tests base subs loose H c → Widened H (of_width W) (ex.Binary span (operator o) e f) c
  width_combined_node H W span o e f c m a =
      width_made H W (ex.Binary span (operator o) e f) c m.poly (combined_tree span o m.left.tree m.right_one.tree) m.is refl
      (combined_node H (IsWidth H.present m.poly) span o e f (width_note span).ty (width_note span).effect m.left.tree m.right_one.tree c
      (combined_widths H span o e f (of_width m.left) (of_width m.right_one)
      m.left.poly m.right_one.poly m.poly c m.is_poly m.is_left m.is_right (λ x g. g) (λ x g. g) a))

  width_quotient : (H : Here) (W : Width) (span : Span) (e f : Expr) (c : Core) → Divided H span e f W → At tests base subs loose H c →
      Widened H (of_width W) (ex.Binary span binary.DivideExact e f) c
  width_quotient H W span e f c m a =
      let t = tree.Int (width_note (found tests f).span) m.by in
      width_made H W (ex.Binary span binary.DivideExact e f) c m.poly (divided_tree span m.left.tree (found tests f).span m.by) m.is refl
      (divided_widths H span e f (of_width m.left) t m.left.poly m.poly m.by c m.is_poly m.some_by m.is_left
      (literal_divisor H (IsWidth H.present m.poly) f m.by m.is_by) (λ x g. g) a)

  width_two : (H : Here) (W : Width) (span : Span) (o : BinaryOperator) (e f : Expr) (c : Core) →
      rules.width_of span (reading_of_two (joining o) (found tests e) (found tests f)) H.scope ≡ Ok W → At tests base subs loose H c →
      Widened H (of_width W) (ex.Binary span o e f) c
  width_two H W span binary.Add e f c h a = width_combined_node H W span Sum e f c (combined_of H W span Sum e f h) a
  width_two H W span binary.Subtract e f c h a = width_combined_node H W span Difference e f c (combined_of H W span Difference e f h) a
  width_two H W span binary.Multiply e f c h a = width_combined_node H W span Product e f c (combined_of H W span Product e f h) a
  width_two H W span binary.DivideExact e f c h a = width_quotient H W span e f c (divided_of H W span e f h) a
  -- no other operator has a place in a width
  width_two H W span o e f c h a = err_ok (fault_of T19 span) W h

  width_layer : (H : Here) (W : Width) (layer : ExprLayer) (c : Core) → width_rule (opened tests layer) H.scope ≡ Ok W → At tests base subs loose H c → Widened H (of_width W) layer c
  width_layer H W (ex.Int span n) c h a = width_int H W span n c h a
  width_layer H W (ex.Name span name) c h a = width_name H W span name c h a
  width_layer H W (ex.Unary span o e) c h a = width_one H W span o e c h a
  width_layer H W (ex.Binary span o e f) c h a = width_two H W span o e f c h a
  -- no other form is a width
  width_layer H W layer c h a = err_ok (fault_of T19 _) W h

  -- ---- numbers

  abbrev Is : ℤ → Value → Type 0
  Is z x = x ≡ int z

  number_made : (H : Here) (N : Number) (layer : ExprLayer) (c : Core) (z : ℤ) (t : Tree) → number_as z t ≡ N → span_of layer ≡ tree_at t →
      Both H (Is z) (expr_node (env tests right ds base subs loose funcs w) layer c)
      (tree_node (program tests right ds base subs loose funcs w) t (erased c)) → Widened H (of_number N) layer c
  number_made H N layer c z t e at d = subst (λ (n : Number). Widened H (of_number n) layer c) e (record { at = at; does = d })

  number_name_by : (H : Here) (span : Span) (name : List ℕ) (o : Option Standing) (z : ℤ) (c : Core) → standing_of name H.scope.names ≡ o →
      number_of_standing span o ≡ Ok z → At tests base subs loose H c →
      Both H (Is z) (at_once (known span (or_value (value_of name c.frame)
      (or_value (value_of name c.globals) (label_in (standing_of name base))))) c)
      (at_once (known span (value_at (slot_of name (layout_of H.scope.names)) (erased c))) (erased c))
  number_name_by H span name (Some (Stored s)) z c q h a =
      let u = then_ok (need (is_integer s.ty) T05 span) (number_of_counted span s.counted (known_value s)) z h in
      name_same H (Is z) span name s c q (need_ok (is_integer s.ty) T05 span tt u.first)
      (λ y k l. ap int (counted_number H.present span s.counted (known_value s) y z k l u.then)) a
  number_name_by H span name (Some (Label T x)) z c q h a = err_ok (fault_of T05 span) z h
  number_name_by H span name (Some Subprogram) z c q h a = err_ok (fault_of T02 span) z h
  number_name_by H span name (Some (TypeName T)) z c q h a = err_ok (fault_of T02 span) z h
  number_name_by H span name None z c q h a = err_ok (fault_of T02 span) z h

  number_one : (H : Here) (N : Number) (span : Span) (o : UnaryOperator) (e : Expr) (c : Core) →
      rules.number_of span (reading_of_one o (found tests e)) H.scope ≡ Ok N → At tests base subs loose H c →
      Widened H (of_number N) (ex.Unary span o e) c
  number_one H N span unary.Negate e c h a =
      let t = bind_ok ((found tests e).number H.scope) _ N h in
      let u = bind_ok (held span (pos 0 -ℤ t.value.number)) _ N t.then in
      number_made H N (ex.Unary span unary.Negate e) c u.value (negative_tree span t.value.tree)
      (ok_ok (number_as u.value (negative_tree span t.value.tree)) N u.then) refl
      (negated_same H (Is u.value) span e (of_number t.value) t.value.number c t.first
      (λ x g. (g, ap int (numbers.held_is span (pos 0 -ℤ t.value.number) u.value u.first))) a)
  number_one H N span unary.Not e c h a = err_ok (fault_of T19 span) N h
  number_one H N span unary.Complement e c h a = err_ok (fault_of T19 span) N h

  -- both operands of a number, and what they are combined to
  record CombinedNumbers (H : Here) (span : Span) (o : Combination) (e f : Expr) (N : Number) : Type 0 where
    left : Number
    is_left : (found tests e).number H.scope ≡ Ok left
    right_one : Number
    is_right : (found tests f).number H.scope ≡ Ok right_one
    number : ℤ
    is_number : number_by o left.number right_one.number ≡ number
    is : number_as number (combined_tree span o left.tree right_one.tree) ≡ N

  numbers_of : (H : Here) (N : Number) (span : Span) (o : Combination) (e f : Expr) →
      rules.number_of span (combined o (found tests e) (found tests f)) H.scope ≡ Ok N → CombinedNumbers H span o e f N
  numbers_of H N span o e f h =
      let t = bind_ok ((found tests e).number H.scope) _ N h in
      let u = bind_ok ((found tests f).number H.scope) _ N t.then in
      let v = bind_ok (number_combined span o t.value.number u.value.number) _ N u.then in
      record {
        left = t.value;
        is_left = t.first;
        right_one = u.value;
        is_right = u.first;
        number = v.value;
        is_number = number_is_by span o t.value.number u.value.number v.value v.first;
        is = ok_ok (number_as v.value (combined_tree span o t.value.tree u.value.tree)) N v.then;
      }

  combined_numbers : (H : Here) (span : Span) (o : Combination) (e f : Expr) (N : Number) (m : CombinedNumbers H span o e f N) (c : Core) →
      At tests base subs loose H c →
      Both H (Is m.number) (Eval e c (λ x c1. behind f c1 (binary_value tests.limit span (operator o) x)))
      (Eval m.left.tree (erased c) (λ x c1. behind m.right_one.tree c1 (binary_value tests.limit span (operator o) x)))
  combined_numbers H span o e f N m c a =
      combined_same H (Is m.number) span o e f (of_number m.left) (of_number m.right_one)
      m.left.number m.right_one.number c m.is_left m.is_right (λ x g. g) (λ x g. g) (λ x u g k. ap int m.is_number) a

  number_quotient : (H : Here) (N : Number) (span : Span) (e f : Expr) (c : Core) →
      rules.number_of span (divided (found tests e) (found tests f)) H.scope ≡ Ok N → At tests base subs loose H c →
      Widened H (of_number N) (ex.Binary span binary.DivideExact e f) c
  number_quotient H N span e f c h a =
      let t = bind_ok ((found tests e).number H.scope) _ N h in
      let k = bind_ok (found_or (found tests f).divisor T19 span) _ N t.then in
      let v = bind_ok (number_divided span t.value.number k.value) _ N k.then in
      let d = found_ok (found tests f).divisor T19 span k.value k.first in
      let at = (found tests f).span in
      number_made H N (ex.Binary span binary.DivideExact e f) c v.value (divided_tree span t.value.tree at k.value)
      (ok_ok (number_as v.value (divided_tree span t.value.tree at k.value)) N v.then) refl
      (divided_same H (Is v.value) span e f (of_number t.value) (tree.Int (width_note at) k.value) t.value.number k.value c t.first (literal_divisor H (Is v.value) f k.value d) (above_0 f k.value (is_written tests f k.value d))
      (λ x g. (g, λ n. ap int (quotient_is span t.value.number v.value k.value v.first))) a)

  number_combined_node : (H : Here) (N : Number) (span : Span) (o : Combination) (e f : Expr) (c : Core) → CombinedNumbers H span o e f N →
      At tests base subs loose H c → Widened H (of_number N) (ex.Binary span (operator o) e f) c
  number_combined_node H N span o e f c m a =
      number_made H N (ex.Binary span (operator o) e f) c m.number (combined_tree span o m.left.tree m.right_one.tree) m.is refl
      (combined_node H (Is m.number) span o e f (width_note span).ty (width_note span).effect m.left.tree m.right_one.tree c (combined_numbers H span o e f N m c a))

  number_two : (H : Here) (N : Number) (span : Span) (o : BinaryOperator) (e f : Expr) (c : Core) →
      rules.number_of span (reading_of_two (joining o) (found tests e) (found tests f)) H.scope ≡ Ok N → At tests base subs loose H c →
      Widened H (of_number N) (ex.Binary span o e f) c
  number_two H N span binary.Add e f c h a = number_combined_node H N span Sum e f c (numbers_of H N span Sum e f h) a
  number_two H N span binary.Subtract e f c h a = number_combined_node H N span Difference e f c (numbers_of H N span Difference e f h) a
  number_two H N span binary.Multiply e f c h a = number_combined_node H N span Product e f c (numbers_of H N span Product e f h) a
  number_two H N span binary.DivideExact e f c h a = number_quotient H N span e f c h a
  -- no other operator has a place in a number
  number_two H N span o e f c h a = err_ok (fault_of T19 span) N h

  number_layer : (H : Here) (N : Number) (layer : ExprLayer) (c : Core) → number_rule (opened tests layer) H.scope ≡ Ok N → At tests base subs loose H c → Widened H (of_number N) layer c
  number_layer H N (ex.Int span n) c h a =
      number_made H N (ex.Int span n) c (pos n) (tree.Int (width_note span) n)
      (ok_ok (number_as (pos n) (tree.Int (width_note span) n)) N (then_ok (need (fits (pos n)) T20 span) _ N h).then) refl
      (integer_same H (Is (pos n)) (pos n) span c refl a)
  number_layer H N (ex.Name span name) c h a =
      let u = bind_ok (number_of_standing span (standing_of name H.scope.names)) _ N h in
      number_made H N (ex.Name span name) c u.value (name_read span name H.scope)
      (ok_ok (number_as u.value (name_read span name H.scope)) N u.then) refl
      (number_name_by H span name (standing_of name H.scope.names) u.value c refl u.first a)
  number_layer H N (ex.Unary span o e) c h a = number_one H N span o e c h a
  number_layer H N (ex.Binary span o e f) c h a = number_two H N span o e f c h a
  -- no other form is a width
  number_layer H N layer c h a = err_ok (fault_of T19 _) N h

  -- what is asked of an expression as a width or a number
  pub width_formed : (H : Here) (W : Width) (e : Expr) (c : Core) → width tests e H.scope ≡ Ok W → At tests base subs loose H c → Widened H (of_width W) (out-Expr e) c
  width_formed H W e c h a = width_layer H W (out-Expr e) c (sym (ap (λ (f : Found). f.width H.scope) (unrolled tests e)) ∙ h) a

  pub number_formed : (H : Here) (N : Number) (e : Expr) (c : Core) → (found tests e).number H.scope ≡ Ok N → At tests base subs loose H c → Widened H (of_number N) (out-Expr e) c
  number_formed H N e c h a = number_layer H N (out-Expr e) c (sym (ap (λ (f : Found). f.number H.scope) (unrolled tests e)) ∙ h) a

  -- and of a divisor
  pub divisor_formed : (H : Here) (span : Span) (k : ℕ) (e : Expr) (c : Core) → (found tests e).divisor ≡ Some k →
      (found tests e).span ≡ span → At tests base subs loose H c → Widened H (of_divisor span k) (out-Expr e) c
  divisor_formed H span k e c h s a =
      let i = is_written tests e k h in
      let at : i.span ≡ span = sym (divisor_span tests e k i) ∙ s in
      subst (λ l. Widened H (of_divisor span k) l c) (sym (divisor_out tests e k i ∙ ap (λ z. ex.Int z k) at))
      (record { at = refl; does = integer_same H (Is (pos k)) (pos k) span c refl a })

  -- ---- the trees of types, where the width is known

  known_made : (H : Here) (S : Typed) (W : Width) (layer : ExprLayer) (c : Core) (span : Span) (U : Ty) (k : Effect) (make : Note → Tree)
      (p : Polynomial) (t : Tree) → typed_as span U k make ≡ S → width_as p t ≡ W → span_of layer ≡ tree_at (typed_as span U k make).tree →
      Both H (IsWidth H.present p) (expr_node (env tests right ds base subs loose funcs w) layer c)
      (tree_node (program tests right ds base subs loose funcs w) (typed_as span U k make).tree (erased c)) → Widened H (of_known S W)
      layer c
  known_made H S W layer c span U k make p t e f at d =
      subst (λ (z : Width). Widened H (of_known S z) layer c) f
      (subst (λ (z : Typed). Widened H (of_known z (width_as p t)) layer c) e (record { at = at; does = d }))

  known_int : (H : Here) (S : Typed) (W : Width) (span : Span) (n : ℕ) (c : Core) → in_class H.scope.class span Pure (literal_type n) (λ m. tree.Int m n) ≡ Ok S → (width_of_number span (pos n) >>= λ p. Ok (width_as p (tree.Int (width_note span) n))) ≡ Ok W → At tests base subs loose H c → Widened H (of_known S W) (ex.Int span n) c
  known_int H S W span n c h k a =
      let u = bind_ok (width_of_number span (pos n)) _ W k in
      known_made H S W (ex.Int span n) c span (literal_type n) Pure (λ m. tree.Int m n) u.value (tree.Int (width_note span) n)
      (in_class_is H.scope.class span Pure (literal_type n) (λ m. tree.Int m n) S h)
      (ok_ok (width_as u.value (tree.Int (width_note span) n)) W u.then) refl
      (width_literal H span n u.value c u.first a)

  known_by : (H : Here) (S : Typed) (W : Width) (span : Span) (name : List ℕ) (o : Option Standing) (p : Polynomial) (c : Core) → standing_of name H.scope.names ≡ o → name_of_standing span name o H.scope ≡ Ok S → width_of_standing span o ≡ Ok p → width_as p (name_read span name H.scope) ≡ W → At tests base subs loose H c → Widened H (of_known S W) (ex.Name span name) c
  known_by H S W span name (Some (Stored s)) p c q h k e a =
      let slot = slot_of name (layout_of H.scope.names) in
      known_made H S W (ex.Name span name) c span s.ty (reading s) (λ n. tree.Read n slot) p (name_read span name H.scope)
      (in_class_is H.scope.class span (reading s) s.ty (λ n. tree.Read n slot) S h) e refl
      (width_by H span name (Some (Stored s)) p c q k a)
  known_by H S W span name (Some (Label T x)) p c q h k e a = err_ok (fault_of T05 span) p k
  known_by H S W span name (Some Subprogram) p c q h k e a = err_ok (fault_of T02 span) p k
  known_by H S W span name (Some (TypeName T)) p c q h k e a = err_ok (fault_of T02 span) p k
  known_by H S W span name None p c q h k e a = err_ok (fault_of T02 span) p k

  known_one : (H : Here) (S : Typed) (W : Width) (span : Span) (o : UnaryOperator) (e : Expr) (c : Core) →
      operation_rule span o (found tests e) H.scope ≡ Ok S → rules.width_of span (reading_of_one o (found tests e)) H.scope ≡ Ok W →
      At tests base subs loose H c → Widened H (of_known S W) (ex.Unary span o e) c
  known_one H S W span unary.Negate e c h k a =
      let m = bind_ok (typed tests e H.scope) _ S h in
      let n = bind_ok (unary_rule span unary.Negate m.value.ty) _ S m.then in
      let t = bind_ok (width tests e H.scope) _ W k in
      let u = bind_ok (width_difference span (constant_map (pos 0)) t.value.poly) _ W t.then in
      let make : Note → Tree = λ j. tree.Unary j unary.Negate m.value.tree in
      known_made H S W (ex.Unary span unary.Negate e) c span n.value m.value.effect make u.value (negative_tree span t.value.tree)
      (in_class_is H.scope.class span m.value.effect n.value make S n.then)
      (ok_ok (width_as u.value (negative_tree span t.value.tree)) W u.then) refl
      (negated_widths H span e (of_known m.value t.value) t.value.poly u.value c u.first (m.first, t.first) (λ x g. g) a)
  known_one H S W span unary.Not e c h k a = err_ok (fault_of T19 span) W k
  known_one H S W span unary.Complement e c h k a = err_ok (fault_of T19 span) W k

  -- the types of both operands, and the end of the row
  record BothTyped (H : Here) (S : Typed) (span : Span) (o : BinaryOperator) (e f : Expr) : Type 0 where
    left : Typed
    is_left : typed tests e H.scope ≡ Ok left
    right_one : Typed
    is_right : typed tests f H.scope ≡ Ok right_one
    ty : Ty
    effect : Effect
    is : typed_as span ty effect (λ n. tree.Binary n o left.tree right_one.tree) ≡ S

  typed_of : (H : Here) (S : Typed) (span : Span) (o : BinaryOperator) (e f : Expr) →
      operation_rule_of_two tests span o (found tests e) (found tests f) H.scope ≡ Ok S → BothTyped H S span o e f
  typed_of H S span o e f h =
      let m = bind_ok (typed tests e H.scope) _ S h in
      let n = bind_ok (typed tests f H.scope) _ S m.then in
      let j = bind_ok (binary_rule tests span o m.value.ty n.value.ty) _ S n.then in
      let i = greater m.value.effect n.value.effect in
      record {
        left = m.value;
        is_left = m.first;
        right_one = n.value;
        is_right = n.first;
        ty = j.value;
        effect = i;
        is =
            finish_is H.scope.class span (together m.value.effect n.value.effect) i j.value (λ v. tree.Binary v o m.value.tree n.value.tree)
            S j.then;
      }

  known_quotient : (H : Here) (S : Typed) (W : Width) (span : Span) (e f : Expr) (c : Core) → BothTyped H S span binary.DivideExact e f →
      Divided H span e f W → At tests base subs loose H c → Widened H (of_known S W) (ex.Binary span binary.DivideExact e f) c
  known_quotient H S W span e f c t m a =
      known_made H S W (ex.Binary span binary.DivideExact e f) c span t.ty t.effect
      (λ n. tree.Binary n binary.DivideExact t.left.tree t.right_one.tree) m.poly (divided_tree span m.left.tree (found tests f).span m.by)
      t.is m.is refl
      (divided_widths H span e f (of_known t.left m.left) t.right_one.tree m.left.poly m.poly m.by c m.is_poly m.some_by
      (t.is_left, m.is_left) (typed_divisor H (IsWidth H.present m.poly) f t.right_one m.by t.is_right m.is_by) (λ x g. g) a)

  known_combined : (H : Here) (S : Typed) (W : Width) (span : Span) (o : Combination) (e f : Expr) (c : Core) →
      BothTyped H S span (operator o) e f → Combined H span o e f W → At tests base subs loose H c →
      Widened H (of_known S W) (ex.Binary span (operator o) e f) c
  known_combined H S W span o e f c t m a =
      known_made H S W (ex.Binary span (operator o) e f) c span t.ty t.effect
      (λ n. tree.Binary n (operator o) t.left.tree t.right_one.tree) m.poly (combined_tree span o m.left.tree m.right_one.tree) t.is m.is refl
      (combined_node H (IsWidth H.present m.poly) span o e f t.ty t.effect t.left.tree t.right_one.tree c
      (combined_widths H span o e f (of_known t.left m.left) (of_known t.right_one m.right_one)
      m.left.poly m.right_one.poly m.poly c m.is_poly (t.is_left, m.is_left) (t.is_right, m.is_right) (λ x g. g) (λ x g. g) a))

  known_two : (H : Here) (S : Typed) (W : Width) (span : Span) (o : BinaryOperator) (e f : Expr) (c : Core) → BothTyped H S span o e f →
      rules.width_of span (reading_of_two (joining o) (found tests e) (found tests f)) H.scope ≡ Ok W → At tests base subs loose H c →
      Widened H (of_known S W) (ex.Binary span o e f) c
  known_two H S W span binary.Add e f c t h a = known_combined H S W span Sum e f c t (combined_of H W span Sum e f h) a
  known_two H S W span binary.Subtract e f c t h a = known_combined H S W span Difference e f c t (combined_of H W span Difference e f h) a
  known_two H S W span binary.Multiply e f c t h a = known_combined H S W span Product e f c t (combined_of H W span Product e f h) a
  known_two H S W span binary.DivideExact e f c t h a = known_quotient H S W span e f c t (divided_of H W span e f h) a
  -- no other operator has a place in a width
  known_two H S W span o e f c t h a = err_ok (fault_of T19 span) W h

  known_layer : (H : Here) (S : Typed) (W : Width) (layer : ExprLayer) (c : Core) → typed_rule tests (opened tests layer) H.scope ≡ Ok S → width_rule (opened tests layer) H.scope ≡ Ok W → At tests base subs loose H c → Widened H (of_known S W) layer c
  known_layer H S W (ex.Int span n) c h k a = known_int H S W span n c h k a
  known_layer H S W (ex.Name span name) c h k a =
      let u = bind_ok (width_of_standing span (standing_of name H.scope.names)) _ W k in
      known_by H S W span name (standing_of name H.scope.names) u.value c refl h u.first (ok_ok (width_as u.value (name_read span name H.scope)) W u.then) a
  known_layer H S W (ex.Unary span o e) c h k a = known_one H S W span o e c h k a
  known_layer H S W (ex.Binary span o e f) c h k a = known_two H S W span o e f c (typed_of H S span o e f h) k a
  -- no other form is a width
  known_layer H S W layer c h k a = err_ok (fault_of T19 _) W k

  -- what is asked of an expression of a type, whose width is known
  pub known_formed : (H : Here) (S : Typed) (W : Width) (e : Expr) (c : Core) → typed tests e H.scope ≡ Ok S → width tests e H.scope ≡ Ok W → At tests base subs loose H c → Widened H (of_known S W) (out-Expr e) c
  known_formed H S W e c h k a = known_layer H S W (out-Expr e) c (sym (ap (λ (f : Found). f.typed H.scope) (unrolled tests e)) ∙ h) (sym (ap (λ (f : Found). f.width H.scope) (unrolled tests e)) ∙ k) a
