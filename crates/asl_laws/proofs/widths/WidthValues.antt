-- Width expressions that are evaluated: each gives the integer of its polynomial, and an end its number, or one of the faults of
-- widths, and leaves the state as it was.
use Rattle.std.proofs.Common.{◌≡◌, ℕ, zero, suc, ◌-◌, ◌==◌, ℤ, pos, cond, inl, inr, Bool, true, false}
use Rattle.std.proofs.Common.{List, [], ◌∷◌, Option, Some, None, Ok, refl, sym, ap, ◌∙◌, subst, arith}
use Rattle.std.specs.Prelude.{◌-ℤ◌}
use Rattle.std.proofs.lemmas.Bool.Decides.{nat_tests}
use Rattle.std.specs.Str.{bytes_eq}
use Rattle.asl_syn.specs.declared.token.Span.{Span}
use Rattle.asl_syn.specs.declared.code.StaticCode.TheVariants.{T02, T05}
use Rattle.asl_syn.specs.declared.code.DynCode.TheVariants.{D01, D03, D12, D13}
use Rattle.asl_syn.specs.declared.tree.Expr.{Expr, roll-Expr, out-roll-Expr}
use Rattle.asl_syn.specs.declared.tree.Stmt.{Stmt}
use Rattle.asl_syn.specs.declared.tree.Decl.{Decl}
use Rattle.asl_syn.specs.declared.tree.Bitfield.TheOpen as ex
use Rattle.asl_syn.specs.declared.tree.UnaryOperator.TheVariants as unary
use Rattle.asl_syn.specs.declared.tree.BinaryOperator.TheVariants as binary
use Rattle.asl_syn.specs.Layers.{ExprLayer}
use Rattle.asl_num.specs.Exact.{floor_div, floor_mod}
use Rattle.asl_poly.specs.Terms.{Polynomial}
use Rattle.asl_poly.specs.Fractions.{whole, fraction_at}
use Rattle.asl_poly.specs.Poly.{IsPolynomial, HasWidth, constant_map}
use Rattle.asl_rules.specs.declared.joining.Combination.{Combination}
use Rattle.asl_rules.specs.declared.joining.Combination.TheVariants.{Sum, Difference, Product}
use Rattle.asl_rules.specs.Faults.{need, fault_of}
use Rattle.asl_rules.specs.Tests.{Tests, IsRight}
use Rattle.asl_rules.specs.types.Types.{is_integer}
use Rattle.asl_rules.specs.types.Closed.{Assignment, width_at}
use Rattle.asl_rules.specs.types.Arithmetic.{operator}
use Rattle.asl_rules.specs.types.Numbers.{IsWhole, present}
use Rattle.asl_rules.specs.types.Widths.{width_of_counted, width_of_standing}
use Rattle.asl_rules.specs.types.Widths.{number_of_counted, number_of_standing}
use Rattle.asl_rules.specs.declarations.Scopes.{Scope, Entry, Signature, Counted, Storage}
use Rattle.asl_rules.specs.declarations.Scopes.{Standing, Stored, Subprogram, TypeName, Label, standing_of, known_value}
use Rattle.asl_rules.specs.expressions.Typing.{Width, Number}
use Rattle.asl_rules.specs.expressions.Exprs.{found, width, expr_span}
use Rattle.asl_rules.specs.values.Values.{Value, int}
use Rattle.asl_rules.specs.declarations.Programs.{Environment}
use Rattle.asl_rules.specs.runs.States.{Core}
use Rattle.asl_rules.specs.runs.Trees.{TreeFunc}
use Rattle.asl_rules.specs.private.Agreement.{IsPlain, AllPlain, CountsAs, Agrees}
use Rattle.asl_rules.specs.runs.Plans.{Meter, Outcome, Done, Thrown, Halt, Faulted, Stuck, Good, Bad, Eval, Meaning, handle, run}
use Rattle.asl_rules.specs.runs.Pures.{known}
use Rattle.asl_rules.specs.values.Operators.{in_range, integer_of, quotient, unary_value, binary_value}
use Rattle.asl_rules.specs.runs.Forms.{at_once, behind as with_operand}
use Rattle.asl_rules.specs.runs.Evaluation.{meaning, value_of, or_value, label_in, value_or_label, expr_node}
use Rattle.asl_laws.specs.WidthValues.{GivesInteger, HasNumber}
use Rattle.asl_rules.proofs.basics.Inversions.{err_ok, then_ok, need_ok}
use Rattle.asl_rules.proofs.basics.Tests.{some_same, none_some}
use Rattle.asl_rules.proofs.widths.WidthForms.{WidthForms, NumberForms, by_width_forms, by_number_forms}
use Rattle.asl_rules.proofs.widths.WorthForms.{IsWritten}
use Rattle.asl_rules.proofs.widths.WidthsHeld.{number_held, difference_held, combined_held, divided_held, above_0, zero_held}
use Rattle.asl_rules.proofs.widths.Ratios.{same_trans, width_whole}
use Rattle.asl_rules.proofs.scopes.Lookups.{finds, before_is, behind}
use Rattle.asl_rules.proofs.scopes.Naming.{WellNamed}
use Rattle.asl_laws.proofs.widths.NumbersWorth as numbers
use Rattle.asl_laws.proofs.widths.NumbersWorth.{number_by}
use Rattle.asl_laws.proofs.widths.PresentNumbers.{CountedFixed, NumbersAgree, width_has, number_has, present_agree, counts_held}
use Rattle.asl_laws.proofs.widths.WholeWidths.{number_width, combined_width, negated_width, divided_width}
use Rattle.asl_laws.proofs.expressions.Claims.{IsWidth}
use Rattle.asl_laws.proofs.expressions.ExprForms.{env, or_further}
use Rattle.asl_laws.proofs.expressions.WidthTrees.{int_same, int_at, counted_width, counted_number, divides, combines, number_is_by, quotient_is}
use Rattle.asl_laws.proofs.calls.OwnParams.{counted_outside}

-- ---- what counts in widths can't be assigned

plain_at : (es : List Entry) (name : List ℕ) (s : Storage) → AllPlain es → standing_of name es ≡ Some (Stored s) → IsPlain (Stored s)
plain_at [] name s p h = none_some (Stored s) h
plain_at (e ∷ es) name s p h = by (bytes_eq e.name name) h (plain_at es name s p.1)
  where
    by : (b : Bool) → cond b (Some e.standing) (standing_of name es) ≡ Some (Stored s) →
        (standing_of name es ≡ Some (Stored s) → IsPlain (Stored s)) → IsPlain (Stored s)
    by true q next = subst IsPlain (some_same e.standing (Stored s) q) p.0
    by false q next = next q

unassigned : (b : Bool) (o : Option Counted) (k : Counted) → (b ≡ true → o ≡ None) → o ≡ Some k → b ≡ false
unassigned true o k f q = none_some k (sym (f refl) ∙ q)
unassigned false o k f q = refl

counted_fixed : (base names : List Entry) (av : Assignment) (c : Core) → Agrees base names av c → CountedFixed names
counted_fixed base names av c a n s k e q = by (standing_of n base) refl
  where
    by : (o : Option Standing) → standing_of n base ≡ o → s.is_mutable ≡ false
    by None i =
        let f = sym (behind base a.locals n i) ∙ ap (standing_of n) (sym a.names_are) ∙ e in
        unassigned s.is_mutable s.counted k (plain_at a.locals n s a.plain f).2 q
    by (Some st) i =
        let f = i ∙ sym (before_is base a.locals n st i) ∙ ap (standing_of n) (sym a.names_are) ∙ e in
        counted_outside base c.globals a.globals n s k f q

-- ---- outcomes

pub gives_more : (c : Core) (P Q : ℤ → Type 0) (r : Outcome Core Value) → ((z : ℤ) → P z → Q z) → GivesInteger c P r → GivesInteger c Q r
gives_more c P Q (Done x c1 h) f g = ((g.0.0, g.0.1, f g.0.0 g.0.2), g.1)
gives_more c P Q (Thrown x c1 h) f g = g
gives_more c P Q (Halt (Faulted code span) c1 h) f g = g
gives_more c P Q (Halt (Stuck mistake span) c1 h) f g = g

-- what comes behind an operand
behind_operand : (c : Core) (P Q : ℤ → Type 0) (r : Outcome Core Value) (k : Value → Core → Meter → Outcome Core Value) →
    GivesInteger c P r → ((z : ℤ) (h : Meter) → P z → GivesInteger c Q (k (int z) c h)) → GivesInteger c Q (handle r k Thrown)
behind_operand c P Q (Done x c1 h) k g f =
    subst (λ d. GivesInteger c Q (k x d h)) (sym g.1) (subst (λ v. GivesInteger c Q (k v c h)) (sym g.0.1) (f g.0.0 h g.0.2))
behind_operand c P Q (Thrown x c1 h) k g f = absurd g
behind_operand c P Q (Halt (Faulted code span) c1 h) k g f = g
behind_operand c P Q (Halt (Stuck mistake span) c1 h) k g f = absurd g

-- the entry into a node
entered : (c : Core) (P : ℤ → Type 0) (span : Span) (deep : Bool) (h : Meter) (go : Meter → Outcome Core Value) →
    ((h1 : Meter) → GivesInteger c P (go h1)) → (b : Bool) →
    GivesInteger c P (cond b (Halt (Faulted D13 span) c h)
    (cond deep (Halt (Faulted D12 span) c h) (go (record h { steps = h.steps - 1 }))))
entered c P span deep h go k true = (inr (inr (inr refl)), refl)
entered c P span true h go k false = (inr (inr (inl refl)), refl)
entered c P span false h go k false = k (record h { steps = h.steps - 1 })

-- an integer that is made, where it is in range
made : (m : Meaning Core Expr Stmt) (c : Core) (h : Meter) (P : ℤ → Type 0) (span : Span) (z : ℤ) → P z →
    GivesInteger c P (run m (at_once (integer_of span z) c) h)
made m c h P span z p = by (in_range z)
  where
    by : (b : Bool) → GivesInteger c P (run m (at_once (cond b (Good (int z)) (Bad (Faulted D01 span))) c) h)
    by true = ((z, refl, p), refl)
    by false = (inl refl, refl)

is_zero_nat : (n : ℕ) → (n == 0) ≡ true → n ≡ 0
is_zero_nat n h = grind (arith, nat_tests)

-- a quotient, where there is no remainder
made_quotient : (m : Meaning Core Expr Stmt) (c : Core) (h : Meter) (P : ℤ → Type 0) (span : Span) (y : ℤ) (k : ℕ) →
    (floor_mod y k ≡ 0 → P (floor_div y k)) → GivesInteger c P (run m (at_once (quotient span y k) c) h)
made_quotient m c h P span y k p = by (floor_mod y k == 0) refl
  where
    by : (b : Bool) → (floor_mod y k == 0) ≡ b →
        GivesInteger c P (run m (at_once (cond b (Good (int (floor_div y k))) (Bad (Faulted D03 span))) c) h)
    by true e = ((floor_div y k, refl, p (is_zero_nat (floor_mod y k) e)), refl)
    by false e = (inr (inl refl), refl)

-- the polynomial is this integer, and within the limits
abbrev Has : Polynomial → Assignment → ℤ → Type 0
Has p av z = HasWidth p av z × IsPolynomial p

has_of : (av : Assignment) (p : Polynomial) (y : ℤ) → IsWidth av p (int y) → Has p av y
has_of av p y w = (subst (HasWidth p av) (sym (int_same y (width_at p av) w.0)) w.1, w.2)

module _ (tests : Tests) (right : IsRight tests) (ds : List Decl) (base : List Entry) (subs : List Signature) (funcs : List TreeFunc)
    (w : WellNamed base) where
  abbrev ours : Environment
  ours = env tests right ds base subs true funcs w

  abbrev nodes_at : ℕ → Meaning Core Expr Stmt
  nodes_at d = meaning ours d

  abbrev there : Span → List ℕ → Core → ℕ → Meter → Outcome Core Value
  there span name c d h = run (nodes_at d) (at_once (value_or_label ours span name c) c) h

  -- a node gives what its plan does over the nodes below it
  node : (x : ExprLayer) (c : Core) (P : ℤ → Type 0) → ((d : ℕ) (h : Meter) → GivesInteger c P (run (nodes_at d) (expr_node ours x c) h)) →
      (d : ℕ) (h : Meter) → GivesInteger c P ((nodes_at d).expr (roll-Expr x) c h)
  node x c P k zero h =
      let span = expr_span (roll-Expr x) in
      entered c P span true h (λ h1. Halt (Faulted D12 span) c h1) (λ h1. (inr (inr (inl refl)), refl)) (h.steps == 0)
  node x c P k (suc d) h =
      let span = expr_span (roll-Expr x) in
      let go : ExprLayer → Meter → Outcome Core Value = λ l h1. run (nodes_at d) (expr_node ours l c) h1 in
      subst (λ l. GivesInteger c P (cond (h.steps == 0) (Halt (Faulted D13 span) c h) (go l (record h { steps = h.steps - 1 }))))
      (sym (out-roll-Expr x)) (entered c P span false h (go x) (k d) (h.steps == 0))

  -- a name of storage that holds an integer
  name_gives : (G : Scope) (av : Assignment) (c : Core) (span : Span) (name : List ℕ) (s : Storage) (P : ℤ → Type 0) (d : ℕ) (h : Meter) →
      Agrees base G.names av c → standing_of name G.names ≡ Some (Stored s) → is_integer s.ty ≡ true →
      ((y : ℤ) → ((v : ℤ) → known_value s ≡ Some (int v) → y ≡ v) → CountsAs av s.counted (int y) → P y) →
      GivesInteger c P (there span name c d h)
  name_gives G av c span name s P d h a q i k =
      let u = value_of name c.frame in
      let v = value_of name c.globals in
      let l = label_in (standing_of name base) in
      let f = int_at tests right ds base subs true funcs w av s (or_value u v) (finds av base G.names c name s a q) i in
      subst (λ o. GivesInteger c P (run (nodes_at d) (at_once (known span o) c) h)) (sym (or_further (int f.one) u v l f.is))
      ((f.one, refl, k f.one f.known f.counts), refl)

  -- two operands that are combined
  combined : (c : Core) (P Q R : ℤ → Type 0) (span : Span) (o : Combination) (e f : Expr) →
      ((d : ℕ) (h : Meter) → GivesInteger c P ((nodes_at d).expr e c h)) →
      ((d : ℕ) (h : Meter) → GivesInteger c Q ((nodes_at d).expr f c h)) →
      ((y v : ℤ) → P y → Q v → R (number_by o y v)) → (d : ℕ) (h : Meter) →
      GivesInteger c R (run (nodes_at d) (Eval e c (λ x c1. with_operand f c1 (binary_value tests.limit span (operator o) x))) h)
  combined c P Q R span o e f g k r d h =
      let last : Value → Value → Core → Meter → Outcome Core Value =
      λ x y c1 h1. run (nodes_at d) (at_once (binary_value tests.limit span (operator o) x y) c1) h1 in
      behind_operand c P R ((nodes_at d).expr e c h)
      (λ x c1 h1. handle ((nodes_at d).expr f c1 h1) (λ y c2 h2. last x y c2 h2) Thrown) (g d h)
      (λ y h1 p. behind_operand c Q R ((nodes_at d).expr f c h1) (λ v c2 h2. last (int y) v c2 h2) (k d h1)
      (λ v h2 q. subst (λ t. GivesInteger c R (run (nodes_at d) (at_once t c) h2)) (sym (combines tests.limit span o y v))
      (made (nodes_at d) c h2 R span (number_by o y v) (r y v p q))))

  -- a node of two operands
  combined_node : (c : Core) (P Q R : ℤ → Type 0) (span : Span) (o : Combination) (e f : Expr) →
      ((d : ℕ) (h : Meter) → GivesInteger c P ((nodes_at d).expr e c h)) →
      ((d : ℕ) (h : Meter) → GivesInteger c Q ((nodes_at d).expr f c h)) →
      ((y v : ℤ) → P y → Q v → R (number_by o y v)) → (d : ℕ) (h : Meter) →
      GivesInteger c R ((nodes_at d).expr (roll-Expr (ex.Binary span (operator o) e f)) c h)
  combined_node c P Q R span Sum e f g k r d h = node (ex.Binary span binary.Add e f) c R (combined c P Q R span Sum e f g k r) d h
  combined_node c P Q R span Difference e f g k r d h =
      node (ex.Binary span binary.Subtract e f) c R (combined c P Q R span Difference e f g k r) d h
  combined_node c P Q R span Product e f g k r d h =
      node (ex.Binary span binary.Multiply e f) c R (combined c P Q R span Product e f g k r) d h

  -- a divisor that is written
  literal_gives : (c : Core) (f : Expr) (k : ℕ) → IsWritten f k → (d : ℕ) (h : Meter) →
      GivesInteger c (λ y. y ≡ pos k) ((nodes_at d).expr f c h)
  literal_gives c f k i d h =
      subst (λ e. GivesInteger c (λ y. y ≡ pos k) ((nodes_at d).expr e c h)) (sym i.is)
      (node (ex.Int i.span k) c (λ y. y ≡ pos k) (λ d1 h1. made (nodes_at d1) c h1 (λ y. y ≡ pos k) i.span (pos k) refl) d h)

  -- an operand that is divided
  divided_node : (c : Core) (P R : ℤ → Type 0) (span : Span) (e f : Expr) (k : ℕ) → IsWritten f k →
      ((d : ℕ) (h : Meter) → GivesInteger c P ((nodes_at d).expr e c h)) →
      ((y : ℤ) → P y → floor_mod y k ≡ 0 → R (floor_div y k)) → (d : ℕ) (h : Meter) →
      GivesInteger c R ((nodes_at d).expr (roll-Expr (ex.Binary span binary.DivideExact e f)) c h)
  divided_node c P R span e f k i g r d h =
      node (ex.Binary span binary.DivideExact e f) c R
      (λ d1 h1.
      let last : Value → Value → Core → Meter → Outcome Core Value =
      λ x y c1 h2. run (nodes_at d1) (at_once (binary_value tests.limit span binary.DivideExact x y) c1) h2 in
      behind_operand c P R ((nodes_at d1).expr e c h1)
      (λ x c1 h2. handle ((nodes_at d1).expr f c1 h2) (λ y c2 h3. last x y c2 h3) Thrown) (g d1 h1)
      (λ y h2 p. behind_operand c (λ v. v ≡ pos k) R ((nodes_at d1).expr f c h2) (λ v c2 h3. last (int y) v c2 h3) (literal_gives c f k i d1 h2)
      (λ v h3 q. subst (λ t. GivesInteger c R (run (nodes_at d1) (at_once t c) h3))
      (sym (ap (λ z. binary_value tests.limit span binary.DivideExact (int y) (int z)) q ∙ divides tests.limit span y k (above_0 f k i)))
      (made_quotient (nodes_at d1) c h3 R span y k (r y p))))) d h

  -- one that is negated
  negated : (c : Core) (P R : ℤ → Type 0) (span : Span) (e : Expr) → ((d : ℕ) (h : Meter) → GivesInteger c P ((nodes_at d).expr e c h)) →
      ((z : ℤ) → P z → R (pos 0 -ℤ z)) → (d : ℕ) (h : Meter) →
      GivesInteger c R (run (nodes_at d) (with_operand e c (unary_value span unary.Negate)) h)
  negated c P R span e g r d h =
      behind_operand c P R ((nodes_at d).expr e c h) (λ x c1 h1. run (nodes_at d) (at_once (unary_value span unary.Negate x) c1) h1) (g d h)
      (λ z h1 p. made (nodes_at d) c h1 R span (pos 0 -ℤ z) (r z p))

  -- ---- widths

  Wide : Expr → Scope → Polynomial → Type 0
  Wide e G p = (av : Assignment) (c : Core) (d : ℕ) (h : Meter) → Agrees base G.names av c →
      GivesInteger c (Has p av) ((nodes_at d).expr e c h)

  wide_name : (G : Scope) (av : Assignment) (c : Core) (span : Span) (name : List ℕ) (p : Polynomial) (o : Option Standing) →
      (d : ℕ) (h : Meter) → Agrees base G.names av c → standing_of name G.names ≡ o → width_of_standing span o ≡ Ok p →
      GivesInteger c (Has p av) (there span name c d h)
  wide_name G av c span name p (Some (Stored s)) d h a q k =
      let u = then_ok (need (is_integer s.ty) T05 span) (width_of_counted span s.counted (known_value s)) p k in
      name_gives G av c span name s (Has p av) d h a q (need_ok (is_integer s.ty) T05 span tt u.first)
      (λ y i j. has_of av p y (counted_width av span s.counted (known_value s) p y i j u.then))
  wide_name G av c span name p (Some (Label T x)) d h a q k = err_ok (fault_of T05 span) p k
  wide_name G av c span name p (Some Subprogram) d h a q k = err_ok (fault_of T02 span) p k
  wide_name G av c span name p (Some (TypeName T)) d h a q k = err_ok (fault_of T02 span) p k
  wide_name G av c span name p None d h a q k = err_ok (fault_of T02 span) p k

  wide_forms : WidthForms Wide
  unfolding Wide
  wide_forms = record {
    whole = λ span n G p k av c d h a. node (ex.Int span n) c (Has p av)
        (λ d1 h1. made (nodes_at d1) c h1 (Has p av) span (pos n) (number_width av span (pos n) p k, number_held span (pos n) p k)) d h;
    name = λ span name G p k av c d h a. node (ex.Name span name) c (Has p av)
        (λ d1 h1. wide_name G av c span name p (standing_of name G.names) d1 h1 a refl k) d h;
    negated = λ span e G p q u k av c d h a. node (ex.Unary span unary.Negate e) c (Has q av)
        (negated c (Has p av) (Has q av) span e (λ d1 h1. u av c d1 h1 a)
        (λ z i. (negated_width av span p q z i.1 i.0 k, difference_held span (constant_map (pos 0)) p q zero_held i.1 k))) d h;
    combined = λ span o e f G p q r u v k av c d h a. combined_node c (Has p av) (Has q av) (Has r av) span o e f
        (λ d1 h1. u av c d1 h1 a) (λ d1 h1. v av c d1 h1 a)
        (λ y z i j. (combined_width av span o p q r y z i.1 j.1 i.0 j.0 k, combined_held span o p q r i.1 j.1 k)) d h;
    divided = λ span e f m G p q u i k av c d h a. divided_node c (Has p av) (Has q av) span e f m i (λ d1 h1. u av c d1 h1 a)
        (λ y j n. (divided_width av span p q m y j.1 (above_0 f m i) j.0 n k, divided_held span p q m j.1 (above_0 f m i) k)) d h;
  }

  -- ---- ends of constraints

  Whole : Expr → Scope → ℤ → Type 0
  Whole e G z = (av : Assignment) (c : Core) (d : ℕ) (h : Meter) → Agrees base G.names av c →
      GivesInteger c (λ y. y ≡ z) ((nodes_at d).expr e c h)

  whole_name : (G : Scope) (av : Assignment) (c : Core) (span : Span) (name : List ℕ) (z : ℤ) (o : Option Standing) →
      (d : ℕ) (h : Meter) → Agrees base G.names av c → standing_of name G.names ≡ o → number_of_standing span o ≡ Ok z →
      GivesInteger c (λ y. y ≡ z) (there span name c d h)
  whole_name G av c span name z (Some (Stored s)) d h a q k =
      let u = then_ok (need (is_integer s.ty) T05 span) (number_of_counted span s.counted (known_value s)) z k in
      name_gives G av c span name s (λ y. y ≡ z) d h a q (need_ok (is_integer s.ty) T05 span tt u.first)
      (λ y i j. counted_number av span s.counted (known_value s) y z i j u.then)
  whole_name G av c span name z (Some (Label T x)) d h a q k = err_ok (fault_of T05 span) z k
  whole_name G av c span name z (Some Subprogram) d h a q k = err_ok (fault_of T02 span) z k
  whole_name G av c span name z (Some (TypeName T)) d h a q k = err_ok (fault_of T02 span) z k
  whole_name G av c span name z None d h a q k = err_ok (fault_of T02 span) z k

  operands_are : (o : Combination) (x y z p q : ℤ) → p ≡ x → q ≡ y → number_by o x y ≡ z → number_by o p q ≡ z
  operands_are o x y z p q i j k = ap (λ n. number_by o n q) i ∙ ap (number_by o x) j ∙ k

  whole_forms : NumberForms Whole
  unfolding Whole
  whole_forms = record {
    whole = λ span n G av c d h a. node (ex.Int span n) c (λ y. y ≡ pos n)
        (λ d1 h1. made (nodes_at d1) c h1 (λ y. y ≡ pos n) span (pos n) refl) d h;
    name = λ span name G z k av c d h a. node (ex.Name span name) c (λ y. y ≡ z)
        (λ d1 h1. whole_name G av c span name z (standing_of name G.names) d1 h1 a refl k) d h;
    negated = λ span e G y z u k av c d h a. node (ex.Unary span unary.Negate e) c (λ n. n ≡ z)
        (negated c (λ n. n ≡ y) (λ n. n ≡ z) span e (λ d1 h1. u av c d1 h1 a)
        (λ x i. ap (λ n. pos 0 -ℤ n) i ∙ numbers.held_is span (pos 0 -ℤ y) z k)) d h;
    combined = λ span o e f G x y z u v k av c d h a. combined_node c (λ n. n ≡ x) (λ n. n ≡ y) (λ n. n ≡ z) span o e f
        (λ d1 h1. u av c d1 h1 a) (λ d1 h1. v av c d1 h1 a)
        (λ p q i j. operands_are o x y z p q i j (number_is_by span o x y z k)) d h;
    divided = λ span e f m G y z u i k av c d h a. divided_node c (λ n. n ≡ y) (λ n. n ≡ z) span e f m i (λ d1 h1. u av c d1 h1 a)
        (λ x j n. ap (λ v. floor_div v m) j ∙ quotient_is span y z m k) d h;
  }

  -- ---- both are what the expressions are over fractions

  names_agree : (G : Scope) (av : Assignment) (c : Core) → Agrees base G.names av c → NumbersAgree (present c) av G
  names_agree G av c a = present_agree av base G c (counted_fixed base G.names av c a) a

  pub width_gives : (d : ℕ) (e : Expr) (G : Scope) (W : Width) (av : Assignment) (c : Core) (h : Meter) →
      width tests e G ≡ Ok W → Agrees base G.names av c →
      GivesInteger c (λ z. HasWidth W.poly av z × HasNumber e c z) ((nodes_at d).expr e c h)
  unfolding Wide
  width_gives d e G W av c h k a =
      let x = width_has (present c) av tests e G W (names_agree G av c a) (counts_held av base G.names c a) k in
      gives_more c (Has W.poly av) (λ z. HasWidth W.poly av z × HasNumber e c z) ((nodes_at d).expr e c h)
      (λ z i. (i.0, (x.number, x.is, same_trans x.number (fraction_at av W.poly) (whole z) x.held.lowest.positive x.same (width_whole av W.poly z i.0))))
      (by_width_forms tests Wide wide_forms e G W k av c d h a)

  pub number_gives : (d : ℕ) (e : Expr) (G : Scope) (N : Number) (av : Assignment) (c : Core) (h : Meter) →
      (found tests e).number G ≡ Ok N → Agrees base G.names av c →
      GivesInteger c (λ z. (z ≡ N.number) × HasNumber e c z) ((nodes_at d).expr e c h)
  unfolding Whole
  number_gives d e G N av c h k a =
      let x = number_has (present c) av tests e G N (names_agree G av c a) k in
      gives_more c (λ z. z ≡ N.number) (λ z. (z ≡ N.number) × HasNumber e c z) ((nodes_at d).expr e c h)
      (λ z i. (i, (x.number, x.is, subst (λ y. IsWhole y x.number) (sym i) x.same)))
      (by_number_forms tests Whole whole_forms e G N k av c d h a)
