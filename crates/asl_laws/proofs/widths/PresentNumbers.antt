-- In a state that agrees with a scope, a width expression has the number of its polynomial, and a number its own: what a run takes for the expressions of a type that
-- is written at a place.
use Rattle.std.proofs.Common.{◌≡◌, ℕ, ℤ, pos, Bool, true, false, cond, List, [], ◌∷◌, Option, Some, None, Ok, refl, sym, ap, ◌∙◌, subst, arith}
use Rattle.std.specs.Prelude.{nat_le, option_map}
use Rattle.asl_poly.specs.WidthLimits.{heaviest}
use Rattle.std.specs.Str.{bytes_eq}
use Rattle.asl_syn.specs.declared.token.Span.{Span}
use Rattle.asl_syn.specs.declared.code.StaticCode.TheVariants.{T02, T05, T19, T20}
use Rattle.asl_syn.specs.declared.tree.Expr.{Expr}
use Rattle.asl_syn.specs.declared.tree.Bitfield.TheOpen as ex
use Rattle.asl_syn.specs.declared.tree.UnaryOperator.TheVariants as unary
use Rattle.asl_syn.specs.declared.tree.BinaryOperator.TheVariants as binary
use Rattle.asl_poly.specs.Terms.{Polynomial, value}
use Rattle.asl_poly.specs.Fractions.{Fraction, SameFraction, whole, fraction_at}
use Rattle.asl_poly.specs.Poly.{IsPolynomial, HasWidth, constant_map, constant_value}
use Rattle.asl_poly.proofs.Ring.{mul-one}
use Rattle.asl_cons.proofs.Covering.{int_end}
use Rattle.asl_rules.specs.Faults.{need, fault_of}
use Rattle.asl_rules.specs.Tests.{Tests}
use Rattle.asl_rules.specs.types.Types.{Ty, is_integer}
use Rattle.asl_rules.specs.types.Closed.{Assignment, width_at}
use Rattle.asl_rules.specs.values.Values.{Value, int}
use Rattle.asl_rules.specs.declarations.Scopes.{Counted, Scope, Entry, Storage, Standing, Stored, Subprogram, TypeName, Label, standing_of, known_value}
use Rattle.asl_rules.specs.types.Widths.{weight_of, width_of_counted, width_of_standing, number_of_counted, number_of_standing}
use Rattle.asl_rules.specs.expressions.Typing.{Width, Number}
use Rattle.asl_rules.specs.expressions.Exprs.{found, width}
use Rattle.asl_rules.specs.types.Numbers.{Numbers, less, parted, fractions, fraction, wholes, IsWhole, integer_of_value, fixed_number, number_among, or_number, present}
use Rattle.asl_rules.specs.runs.States.{Binding, Core}
use Rattle.asl_rules.specs.private.Agreement.{types_in, IsKnown, CountsAs, global_matches, AllMatch, local_matches, FrameMatches, GlobalsMatch, Agrees}
use Rattle.asl_rules.specs.runs.Evaluation.{value_of, or_value}
use Rattle.asl_rules.proofs.basics.Inversions.{ok_ok, err_ok, then_ok, found_ok}
use Rattle.asl_rules.proofs.basics.Tests.{some_same, some_none, none_some}
use Rattle.asl_rules.proofs.widths.Counting.{stored_of}
use Rattle.asl_rules.proofs.widths.WidthForms.{WidthForms, NumberForms, by_width_forms, by_number_forms}
use Rattle.asl_rules.specs.types.Arithmetic.{of_two}
use Rattle.asl_rules.proofs.widths.WorthForms.{worth_roll, worth_of_one, worth_of_operator, worth_of_two, worth_of_quotient, written_divisor}
use Rattle.asl_rules.proofs.widths.Ratios.{Proper, some_both, some_parted, constant_same}
use Rattle.asl_rules.proofs.widths.WidthsHeld.{CountsHeld, number_held, name_held, difference_held, combined_held, divided_held, above_0, zero_held}
use Rattle.asl_rules.proofs.widths.WidthsWorth.{number_is, difference_is, combined_is, divided_is, some_of_two}
use Rattle.asl_rules.proofs.values.Rounded.{constant_width, constant_at}
use Rattle.asl_cons.proofs.Results.{constant_is}
use Rattle.asl_laws.proofs.widths.NumbersWorth as numbers
use Rattle.asl_rules.proofs.scopes.Lookups.{Finds, stored_same, before_is, behind, absent_value, finds}
use Rattle.asl_rules.proofs.widths.Known.{integer_of_width, integer_of_number}

-- ---- expressions, where the names of a scope have their numbers

-- the polynomial is whole at these integers
abbrev pub IsWholeAt : Assignment → Polynomial → Type 0
IsWholeAt av p = HasWidth p av (width_at p av)

module _ (f : Numbers) (av : Assignment) where
  -- a name in a width stands for the integer of its polynomial, which is whole, and one in a number for that number
  pub record NumbersAgree (G : Scope) : Type 0 where
    pub widths : (span : Span) (name : List ℕ) (p : Polynomial) → width_of_standing span (standing_of name G.names) ≡ Ok p →
        (f name ≡ Some (width_at p av)) × IsWholeAt av p
    pub numbers : (span : Span) (name : List ℕ) (z : ℤ) → number_of_standing span (standing_of name G.names) ≡ Ok z → f name ≡ Some z

  -- the fraction of an expression, which the polynomial is
  pub record HasFraction (e : Expr) (p : Polynomial) : Type 0 where
    pub held : IsPolynomial p
    pub number : Fraction
    pub proper : Proper number
    pub is : fraction e (wholes f) ≡ Some number
    pub same : SameFraction number (fraction_at av p)

  Wide : Expr → Scope → Polynomial → Type 0
  Wide e G p = NumbersAgree G → CountsHeld G.names → HasFraction e p

  wide_forms : WidthForms Wide
  unfolding Wide
  wide_forms = record {
    whole = λ span n G p h g w. record {
      held = number_held span (pos n) p h;
      number = whole (pos n);
      proper = omega arith;
      is = worth_roll fractions (ex.Int span n) (wholes f);
      same = number_is av span (pos n) p h;
    };
    name = λ span name G p h g w.
        let k = g.widths span name p h in
        record {
          held = name_held G.names w span name (standing_of name G.names) p refl h;
          number = whole (width_at p av);
          proper = omega arith;
          is = worth_roll fractions (ex.Name span name) (wholes f) ∙ ap (option_map whole) k.0;
          same = sym (mul-one (value av p.terms) ∙ k.1);
        };
    negated = λ span e G p q v h g w.
        let x = v g w in
        record {
          held = difference_held span (constant_map (pos 0)) p q zero_held x.held h;
          number = less (whole (pos 0)) x.number;
          proper = some_both (whole (pos 0)) x.number (omega arith) x.proper;
          is =
              worth_roll fractions (ex.Unary span unary.Negate e) (wholes f) ∙ worth_of_one fractions (fraction e (wholes f)) x.number x.is;
          same =
              difference_is av span (constant_map (pos 0)) p q (whole (pos 0)) x.number zero_held x.held (sym (constant_same av (pos 0)))
              x.same h;
        };
    combined = λ span o e d G p q r v w h g k.
        let x = v g k in
        let y = w g k in
        record {
          held = combined_held span o p q r x.held y.held h;
          number = of_two fractions o x.number y.number;
          proper = some_of_two o x.number y.number x.proper y.proper;
          is = worth_of_operator fractions o span e d (wholes f)
              ∙ worth_of_two fractions o (fraction e (wholes f)) (fraction d (wholes f)) x.number y.number x.is y.is;
          same = combined_is av span o p q r x.number y.number x.held y.held x.same y.same h;
        };
    divided = λ span e d k G p q v i h g w.
        let x = v g w in
        record {
          held = divided_held span p q k x.held (above_0 d k i) h;
          number = parted x.number k;
          proper = some_parted x.number k x.proper (above_0 d k i);
          is = worth_roll fractions (ex.Binary span binary.DivideExact e d) (wholes f)
              ∙ worth_of_quotient fractions _ (fraction e (wholes f)) k x.number (written_divisor fractions d k i) x.is;
          same = divided_is av span p q k x.number x.held (above_0 d k i) x.same h;
        };
  }

  -- the fraction of an expression, which is this integer
  pub record IsNumber (e : Expr) (z : ℤ) : Type 0 where
    pub number : Fraction
    pub proper : Proper number
    pub is : fraction e (wholes f) ≡ Some number
    pub same : IsWhole z number

  Counted_so : Expr → Scope → ℤ → Type 0
  Counted_so e G z = NumbersAgree G → IsNumber e z

  number_forms : NumberForms Counted_so
  unfolding Counted_so
  number_forms = record {
    whole =
        λ span n G g. record { number = whole (pos n); proper = omega arith; is = worth_roll fractions (ex.Int span n) (wholes f); same = refl };
    name = λ span name G z h g. record {
      number = whole z;
      proper = omega arith;
      is = worth_roll fractions (ex.Name span name) (wholes f) ∙ ap (option_map whole) (g.numbers span name z h);
      same = refl;
    };
    negated = λ span e G y z v h g.
        let x = v g in
        record {
          number = less (whole (pos 0)) x.number;
          proper = some_both (whole (pos 0)) x.number (omega arith) x.proper;
          is =
              worth_roll fractions (ex.Unary span unary.Negate e) (wholes f) ∙ worth_of_one fractions (fraction e (wholes f)) x.number x.is;
          same = numbers.negated_whole span x.number y z x.same h;
        };
    combined = λ span o e d G x y z v w h g.
        let r = v g in
        let s = w g in
        record {
          number = of_two fractions o r.number s.number;
          proper = some_of_two o r.number s.number r.proper s.proper;
          is = worth_of_operator fractions o span e d (wholes f)
              ∙ worth_of_two fractions o (fraction e (wholes f)) (fraction d (wholes f)) r.number s.number r.is s.is;
          same = numbers.combined_whole span o r.number s.number x y z r.same s.same h;
        };
    divided = λ span e d k G y z v i h g.
        let r = v g in
        record {
          number = parted r.number k;
          proper = some_parted r.number k r.proper (above_0 d k i);
          is = worth_roll fractions (ex.Binary span binary.DivideExact e d) (wholes f)
              ∙ worth_of_quotient fractions _ (fraction e (wholes f)) k r.number (written_divisor fractions d k i) r.is;
          same = numbers.divided_whole span r.number y z k (above_0 d k i) r.same h;
        };
  }

  pub width_has : (t : Tests) (e : Expr) (G : Scope) (w : Width) → NumbersAgree G → CountsHeld G.names → width t e G ≡ Ok w →
      HasFraction e w.poly
  unfolding Wide
  width_has t e G w g k h = by_width_forms t Wide wide_forms e G w h g k

  pub number_has : (t : Tests) (e : Expr) (G : Scope) (w : Number) → NumbersAgree G → (found t e).number G ≡ Ok w → IsNumber e w.number
  unfolding Counted_so
  number_has t e G w g h = by_number_forms t Counted_so number_forms e G w h g

-- ---- names in a state

-- storage that counts in widths can't be assigned
abbrev pub CountedFixed : List Entry → Type 0
CountedFixed names = (name : List ℕ) (s : Storage) (c : Counted) → standing_of name names ≡ Some (Stored s) → s.counted ≡ Some c → s.is_mutable ≡ false

-- the integer of a binding that can't be assigned
binding_number : (b : Binding) (z : ℤ) → b.is_mutable ≡ false → b.value ≡ int z → fixed_number b ≡ Some z
binding_number b z m e = ap (λ t. cond t None (integer_of_value b.value)) m ∙ ap integer_of_value e

module _ (av : Assignment) where
  -- what a binding must give
  abbrev Says : Storage → ℤ → Binding → Type 0
  Says s z b = b.is_mutable ≡ s.is_mutable → IsKnown (known_value s) b.value → CountsAs av s.counted b.value → fixed_number b ≡ Some z

  number_by : (m : Bool) (name n : List ℕ) (s u : Storage) (z : ℤ) (b : Binding) (o : Option Standing) (rest : Option ℤ) → bytes_eq n name ≡ m → b.name ≡ n → b.is_mutable ≡ u.is_mutable → IsKnown (known_value u) b.value → CountsAs av u.counted b.value →
      cond m (Some (Stored u)) o ≡ Some (Stored s) → Says s z b → (o ≡ Some (Stored s) → rest ≡ Some z) → cond (bytes_eq b.name name) (fixed_number b) rest ≡ Some z
  number_by true name n s u z b o rest q e i k l h f next =
      ap (λ t. cond t (fixed_number b) rest) (ap (λ m. bytes_eq m name) e ∙ q)
      ∙ subst (λ (v : Storage). b.is_mutable ≡ v.is_mutable → IsKnown (known_value v) b.value → CountsAs av v.counted b.value → fixed_number b ≡ Some z) (sym (stored_same u s (some_same (Stored u) (Stored s) h))) f i k l
  number_by false name n s u z b o rest q e i k l h f next = ap (λ t. cond t (fixed_number b) rest) (ap (λ m. bytes_eq m name) e ∙ q) ∙ next h

  frame_step : (d : List ℕ → Option Ty) (name n : List ℕ) (st : Standing) (es : List Entry) (b : Binding) (bs : List Binding) (s : Storage) (z : ℤ) → local_matches d av n st b → cond (bytes_eq n name) (Some st) (standing_of name es) ≡ Some (Stored s) → ((b : Binding) → Says s z b) →
      (standing_of name es ≡ Some (Stored s) → number_among name bs ≡ Some z) → number_among name (b ∷ bs) ≡ Some z
  frame_step d name n Subprogram es b bs s z m h f next = absurd m
  frame_step d name n (TypeName T) es b bs s z m h f next = absurd m
  frame_step d name n (Label T x) es b bs s z m h f next = absurd m
  frame_step d name n (Stored u) es b bs s z m h f next = number_by (bytes_eq n name) name n s u z b (standing_of name es) (number_among name bs) refl m.name_is m.mutable_is m.known m.counts h (f b) next

  frame_number : (d : List ℕ → Option Ty) (es : List Entry) (name : List ℕ) (s : Storage) (z : ℤ) (bs : List Binding) → FrameMatches d av es bs → standing_of name es ≡ Some (Stored s) → ((b : Binding) → Says s z b) → number_among name bs ≡ Some z
  frame_number d [] name s z bs m h f = none_some (Stored s) h
  frame_number d (e ∷ es) name s z [] m h f = absurd m
  frame_number d (e ∷ es) name s z (b ∷ bs) m h f = frame_step d name e.name e.standing es b bs s z m.0 h f (λ k. frame_number d es name s z bs m.1 k f)

  skip : (m : Bool) (st : Standing) (o : Option Standing) (s : Storage) → ((u : Storage) → st ≡ Stored u → ⊥) → cond m (Some st) o ≡ Some (Stored s) → o ≡ Some (Stored s)
  skip true st o s n h = absurd (n s (some_same st (Stored s) h))
  skip false st o s n h = h

  storage_or : Storage → Standing → Option Storage
  storage_or u (Stored s) = Some s
  storage_or u Subprogram = None
  storage_or u (TypeName T) = None
  storage_or u (Label T x) = None

  global_step : (d : List ℕ → Option Ty) (name n : List ℕ) (st : Standing) (es : List Entry) (bs : List Binding) (s : Storage) (z : ℤ) → global_matches d n st bs (AllMatch d es) → cond (bytes_eq n name) (Some st) (standing_of name es) ≡ Some (Stored s) → ((b : Binding) → Says s z b) →
      ((cs : List Binding) → AllMatch d es cs → standing_of name es ≡ Some (Stored s) → number_among name cs ≡ Some z) → number_among name bs ≡ Some z
  unfolding storage_or
  global_step d name n Subprogram es bs s z m h f next = next bs m (skip (bytes_eq n name) Subprogram (standing_of name es) s (λ u e. none_some u (ap (storage_or u) e)) h)
  global_step d name n (TypeName T) es bs s z m h f next = next bs m (skip (bytes_eq n name) (TypeName T) (standing_of name es) s (λ u e. none_some u (ap (storage_or u) e)) h)
  global_step d name n (Label T x) es bs s z m h f next = next bs m (skip (bytes_eq n name) (Label T x) (standing_of name es) s (λ u e. none_some u (ap (storage_or u) e)) h)
  global_step d name n (Stored u) es [] s z m h f next = absurd m
  global_step d name n (Stored u) es (b ∷ bs) s z m h f next =
      number_by (bytes_eq n name) name n s u z b (standing_of name es) (number_among name bs) refl m.0.holds.name_is m.0.holds.mutable_is m.0.holds.known (subst (λ o. CountsAs av o b.value) (sym m.0.no_atom) tt) h (f b) (next bs m.1)

  global_number : (d : List ℕ → Option Ty) (es : List Entry) (name : List ℕ) (s : Storage) (z : ℤ) (bs : List Binding) → AllMatch d es bs → standing_of name es ≡ Some (Stored s) → ((b : Binding) → Says s z b) → number_among name bs ≡ Some z
  global_number d [] name s z bs m h f = none_some (Stored s) h
  global_number d (e ∷ es) name s z bs m h f = global_step d name e.name e.standing es bs s z m h f (λ cs n k. global_number d es name s z cs n k f)

  -- a name without a value has no number
  none_by : (t : Bool) (b : Binding) (v : Option Value) (rest : Option ℤ) → cond t (Some b.value) v ≡ None → (v ≡ None → rest ≡ None) → cond t (fixed_number b) rest ≡ None
  none_by true b v rest h f = some_none b.value h
  none_by false b v rest h f = f h

  no_number : (name : List ℕ) (bs : List Binding) → value_of name bs ≡ None → number_among name bs ≡ None
  no_number name [] h = refl
  no_number name (b ∷ bs) h = none_by (bytes_eq b.name name) b (value_of name bs) (number_among name bs) h (no_number name bs)

  -- storage that stands for an integer
  by_base : (base names : List Entry) (c : Core) (name : List ℕ) (s : Storage) (z : ℤ) (o : Option Standing) → standing_of name base ≡ o → (k : Agrees base names av c) → standing_of name names ≡ Some (Stored s) → ((b : Binding) → Says s z b) → present c name ≡ Some z
  by_base base names c name s z None q k h f =
      let e : standing_of name k.locals ≡ Some (Stored s) = sym (ap (standing_of name) k.names_are ∙ behind base k.locals name q) ∙ h in
      ap (λ o. or_number o (number_among name c.globals)) (frame_number (types_in base) k.locals name s z c.frame k.frame e f)
  by_base base names c name s z (Some st) q k h f =
      let e : standing_of name base ≡ Some (Stored s) = q ∙ sym (ap (standing_of name) k.names_are ∙ before_is base k.locals name st q) ∙ h in
      ap (λ o. or_number o (number_among name c.globals)) (no_number name c.frame (absent_value av (types_in base) base k.locals name st c.frame k.frame k.fresh q))
      ∙ global_number (types_in base) base name s z c.globals k.globals e f

  storage_number : (base names : List Entry) (c : Core) (name : List ℕ) (s : Storage) (z : ℤ) → Agrees base names av c → standing_of name names ≡ Some (Stored s) → ((b : Binding) → Says s z b) → present c name ≡ Some z
  storage_number base names c name s z k h f = by_base base names c name s z (standing_of name base) refl k h f

  -- a value that is known before any run is that of storage which can't be assigned
  known_fixed : (m : Bool) (i : Option Value) (x : Value) → cond m None i ≡ Some x → m ≡ false
  known_fixed true i x h = none_some x h
  known_fixed false i x h = refl

  known_says : (s : Storage) (y : ℤ) (b : Binding) → known_value s ≡ Some (int y) → Says s y b
  known_says s y b e i k l = binding_number b y (i ∙ known_fixed s.is_mutable s.initial (int y) e) (subst (λ o. IsKnown o b.value) e k)

  counted_says : (s : Storage) (c : Counted) (b : Binding) → s.is_mutable ≡ false → s.counted ≡ Some c → Says s (width_at c.poly av) b
  counted_says s c b f e i k l = binding_number b (width_at c.poly av) (i ∙ f) (subst (λ o. CountsAs av o b.value) e l).0

  -- what counts in widths is whole
  counted_whole : (base names : List Entry) (c : Core) (name : List ℕ) (s : Storage) (k : Counted) → Agrees base names av c →
      standing_of name names ≡ Some (Stored s) → s.counted ≡ Some k → IsWholeAt av k.poly
  counted_whole base names c name s k a h e =
      counted_in (or_value (value_of name c.frame) (value_of name c.globals)) (finds av base names c name s a h)
    where
      counted_in : (o : Option Value) → Finds av (types_in base) s o → IsWholeAt av k.poly
      counted_in None f = absurd f
      counted_in (Some x) f = (subst (λ m. CountsAs av m x) e f.2).1

  -- and within the limits
  pub counts_held : (base names : List Entry) (c : Core) → Agrees base names av c → CountsHeld names
  counts_held base names c a name s k h e =
      counted_in (or_value (value_of name c.frame) (value_of name c.globals))
      (finds av base names c name s a (stored_of (standing_of name names) s h))
    where
      counted_in : (o : Option Value) → Finds av (types_in base) s o → IsPolynomial k.poly
      counted_in None f = absurd f
      counted_in (Some x) f = (subst (λ m. CountsAs av m x) e f.2).2

  -- a name of storage in a width
  stored_width : (base names : List Entry) (c : Core) (span : Span) (name : List ℕ) (s : Storage) (p : Polynomial) (o : Option Counted) (v : Option Value) → s.counted ≡ o → known_value s ≡ v → CountedFixed names → Agrees base names av c → standing_of name names ≡ Some (Stored s) →
      width_of_counted span o v ≡ Ok p → (present c name ≡ Some (width_at p av)) × IsWholeAt av p
  stored_width base names c span name s p (Some k) v eo ev g a h w =
      let same : k.poly ≡ p = ok_ok k.poly p w in (
        storage_number base names c name s (width_at k.poly av) a h (λ b. counted_says s k b (g name s k h eo) eo) ∙ ap Some
            (ap (λ q. width_at q av) same),
        subst (IsWholeAt av) same (counted_whole base names c name s k a h eo),
      )
  stored_width base names c span name s p None v eo ev g a h w =
      let k = integer_of_width span v p w in
      let y = k.number in
      let u = then_ok (need (nat_le (weight_of y) heaviest) T20 span) (Ok (constant_map y)) p k.made in
      let same : constant_map y ≡ p = ok_ok (constant_map y) p u.then in (
        storage_number base names c name s y a h (λ b. known_says s y b (ev ∙ k.is)) ∙ ap Some
            (sym (constant_at av y) ∙ ap (λ q. width_at q av) same),
        subst (IsWholeAt av) same (subst (λ z. HasWidth (constant_map y) av z) (sym (constant_at av y)) (int_end y av)),
      )

  -- and in a number
  stored_number : (base names : List Entry) (c : Core) (span : Span) (name : List ℕ) (s : Storage) (z : ℤ) (o : Option Counted) (v : Option Value) → s.counted ≡ o → known_value s ≡ v → CountedFixed names → Agrees base names av c → standing_of name names ≡ Some (Stored s) →
      number_of_counted span o v ≡ Ok z → present c name ≡ Some z
  stored_number base names c span name s z (Some k) v eo ev g a h w =
      storage_number base names c name s (width_at k.poly av) a h (λ b. counted_says s k b (g name s k h eo) eo)
      ∙ ap Some (constant_width av k.poly z (constant_is av k.poly z (found_ok (constant_value k.poly) T19 span z w)))
  stored_number base names c span name s z None v eo ev g a h w =
      storage_number base names c name s z a h (λ b. known_says s z b (ev ∙ integer_of_number span v z w))

  width_name : (base names : List Entry) (c : Core) (span : Span) (name : List ℕ) (p : Polynomial) (o : Option Standing) →
      standing_of name names ≡ o → CountedFixed names → Agrees base names av c → width_of_standing span o ≡ Ok p →
      (present c name ≡ Some (width_at p av)) × IsWholeAt av p
  width_name base names c span name p (Some (Stored s)) e g a h =
      let u = then_ok (need (is_integer s.ty) T05 span) (width_of_counted span s.counted (known_value s)) p h in
      stored_width base names c span name s p s.counted (known_value s) refl refl g a e u.then
  width_name base names c span name p (Some (Label T x)) e g a h = err_ok (fault_of T05 span) p h
  width_name base names c span name p (Some Subprogram) e g a h = err_ok (fault_of T02 span) p h
  width_name base names c span name p (Some (TypeName T)) e g a h = err_ok (fault_of T02 span) p h
  width_name base names c span name p None e g a h = err_ok (fault_of T02 span) p h

  number_name : (base names : List Entry) (c : Core) (span : Span) (name : List ℕ) (z : ℤ) (o : Option Standing) → standing_of name names ≡ o → CountedFixed names → Agrees base names av c → number_of_standing span o ≡ Ok z → present c name ≡ Some z
  number_name base names c span name z (Some (Stored s)) e g a h =
      let u = then_ok (need (is_integer s.ty) T05 span) (number_of_counted span s.counted (known_value s)) z h in
      stored_number base names c span name s z s.counted (known_value s) refl refl g a e u.then
  number_name base names c span name z (Some (Label T x)) e g a h = err_ok (fault_of T05 span) z h
  number_name base names c span name z (Some Subprogram) e g a h = err_ok (fault_of T02 span) z h
  number_name base names c span name z (Some (TypeName T)) e g a h = err_ok (fault_of T02 span) z h
  number_name base names c span name z None e g a h = err_ok (fault_of T02 span) z h

  -- the integers of a state that agrees with a scope
  pub present_agree : (base : List Entry) (G : Scope) (c : Core) → CountedFixed G.names → Agrees base G.names av c → NumbersAgree (present c) av G
  present_agree base G c g a = record {
    widths = λ span name p h. width_name base G.names c span name p (standing_of name G.names) refl g a h;
    numbers = λ span name z h. number_name base G.names c span name z (standing_of name G.names) refl g a h;
  }

  -- the integer of a global that is known before any run
  pub outside_known : (base : List Entry) (bs : List Binding) (name : List ℕ) (s : Storage) (y : ℤ) → GlobalsMatch base bs → standing_of name base ≡ Some (Stored s) → known_value s ≡ Some (int y) → number_among name bs ≡ Some y
  outside_known base bs name s y m h e = global_number (types_in base) base name s y bs m h (λ b. known_says s y b e)
