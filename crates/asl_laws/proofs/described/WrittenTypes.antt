-- Outside bodies a written type is the type that was judged, at the integers of the names that can't be assigned.
use Rattle.std.proofs.Common.{◌≡◌, ℕ, ◌==◌, ℤ, Bool, true, false, cond, List, [], ◌∷◌, Option, Some, None, option_map, Ok, refl, sym, ap, ◌∙◌, subst}
use Rattle.std.specs.Prelude.{option_and_then, if◌then◌else◌}
use Rattle.asl_syn.specs.declared.token.Span.{Span}
use Rattle.asl_syn.specs.declared.code.StaticCode.TheVariants.{T02, T05}
use Rattle.asl_syn.specs.declared.tree.Expr.{Expr}
use Rattle.asl_syn.specs.declared.tree.TypeExpr.{TypeExpr}
use Rattle.asl_syn.specs.declared.tree.Decl.{Decl}
use Rattle.asl_poly.specs.Terms.{Polynomial}
use Rattle.asl_poly.specs.Fractions.{Fraction, whole, fraction_at}
use Rattle.asl_poly.specs.Poly.{HasWidth}
use Rattle.asl_rules.specs.Faults.{need, fault_of}
use Rattle.asl_rules.specs.Tests.{Tests, IsRight}
use Rattle.asl_rules.specs.types.Types.{is_integer}
use Rattle.asl_rules.specs.types.Closed.{Closed, floor, width_at, closed}
use Rattle.asl_rules.specs.values.Values.{Value, int}
use Rattle.asl_rules.specs.declarations.Names.{all_declared}
use Rattle.asl_rules.specs.declarations.Scopes.{Entry, Standing, Stored, Subprogram, TypeName, Label, Storage, standing_of, storage_in, known_value}
use Rattle.asl_rules.specs.types.Widths.{width_of_known, width_of_counted, width_of_standing, number_of_known, number_of_counted, number_of_standing}
use Rattle.asl_rules.specs.types.Writing.{Written}
use Rattle.asl_rules.specs.expressions.Exprs.{written}
use Rattle.asl_rules.specs.types.Numbers.{IsWhole, integer_of_value}
use Rattle.asl_rules.specs.types.Shapes.{TypeShape}
use Rattle.asl_rules.specs.types.Shaped.{shape_of, type_parts}
use Rattle.asl_rules.specs.runs.Trees.{Tree}
use Rattle.asl_rules.specs.runs.States.{resting}
use Rattle.asl_rules.specs.private.Agreement.{no_atoms, types_in, Agrees}
use Rattle.asl_rules.specs.declarations.Declarations.{in_names}
use Rattle.asl_rules.specs.declarations.Turns.{takes_turn, names_of_program}
use Rattle.asl_rules.specs.declarations.Programs.{Environment, environment}
use Rattle.asl_rules.specs.types.Written.{Sized, sized, filled, type_span}
use Rattle.asl_rules.specs.runs.Evaluation.{types_of, sized_at, initial_globals}
use Rattle.asl_laws.specs.Described.{fixed_storage, known_numbers, written_type, whole_value, whole_values, sized_known}
use Rattle.asl_rules.proofs.basics.Inversions.{err_ok, then_ok}
use Rattle.asl_rules.proofs.basics.Tests.{none_some, some_none}
use Rattle.asl_rules.proofs.values.Rounded.{none_of_whole, width_at_is}
use Rattle.asl_rules.proofs.widths.Counting.{stored_of}
use Rattle.asl_rules.proofs.widths.Ratios.{Proper, same_trans, width_whole}
use Rattle.asl_rules.proofs.widths.WidthsHeld.{number_held}
use Rattle.asl_rules.proofs.scopes.Naming.{WellNamed, type_fixed}
use Rattle.asl_laws.proofs.values.PresentTypes.{type_by, numbered}
use Rattle.asl_laws.proofs.expressions.AskedFractions.{AllRatios}
use Rattle.asl_laws.proofs.expressions.SizeForms.{type_says}
use Rattle.asl_laws.proofs.expressions.TreePlans.{AllAsked, AllGive, append_nil}
use Rattle.asl_laws.proofs.widths.OutsideWidths.{NoneCounted, outside_whole}
use Rattle.asl_laws.proofs.widths.WholeWidths.{number_width, width_value}
use Rattle.asl_rules.proofs.verdict.Distinct.{Distinct, In}
use Rattle.asl_laws.proofs.names.Turned.{Brought}
use Rattle.asl_rules.proofs.widths.Known.{integer_of_width, integer_of_number}
use Rattle.asl_laws.proofs.widths.PresentNumbers.{NumbersAgree}
use Rattle.asl_laws.proofs.described.FirstFilled.{Begins, filled_begins}
use Rattle.asl_laws.proofs.described.Forms.{formed}
use Rattle.asl_laws.proofs.expressions.Claims.{Here, Asked, of_type, of_pure, of_width, of_number, of_known, of_divisor, nothing_around}

-- what a well-formed program has outside its bodies
pub record Outside (t : Tests) (ds : List Decl) : Type 0 where
  pub right : IsRight t
  pub distinct : Distinct (all_declared ds)
  pub brings : (d : Decl) → In d ds → takes_turn d ≡ true → Brought t ds d
  pub named : WellNamed (names_of_program t ds)
  pub agrees : Agrees (names_of_program t ds) (names_of_program t ds) no_atoms (resting (initial_globals (environment t ds)))

-- ---- integers

fixed_by : (m : Bool) (i : Option Value) (y : ℤ) → cond m None i ≡ Some (int y) → cond m None (option_and_then integer_of_value i) ≡ Some y
fixed_by true i y h = none_some (int y) h
fixed_by false i y h = ap (option_and_then integer_of_value) h

-- the storage has the integer of the polynomial, which is whole
abbrev IsFixed : Option ℤ → Polynomial → Type 0
IsFixed o p = (o ≡ Some (width_at p no_atoms)) × HasWidth p no_atoms (width_at p no_atoms)

known_width : (span : Span) (s : Storage) (p : Polynomial) (v : Option Value) → known_value s ≡ v → width_of_known span v ≡ Ok p →
    IsFixed (fixed_storage s) p
known_width span s p v e h =
    let k = integer_of_width span v p h in
    let w = number_width no_atoms span k.number p k.made in
    let is : width_at p no_atoms ≡ k.number = width_at_is no_atoms p k.number (number_held span k.number p k.made) w in
    (fixed_by s.is_mutable s.initial k.number (e ∙ k.is) ∙ ap Some (sym is), subst (HasWidth p no_atoms) (sym is) w)

known_number : (span : Span) (s : Storage) (z : ℤ) (v : Option Value) → known_value s ≡ v → number_of_known span v ≡ Ok z → fixed_storage s ≡ Some z
known_number span s z v e h = fixed_by s.is_mutable s.initial z (e ∙ integer_of_number span v z h)

module _ (t : Tests) (ds : List Decl) (g : Outside t ds) where
  abbrev names : List Entry
  names = names_of_program t ds

  abbrev env : Environment
  env = environment t ds

  width_of_name : (span : Span) (name : List ℕ) (p : Polynomial) (o : Option Standing) → standing_of name names ≡ o →
      width_of_standing span o ≡ Ok p → IsFixed (known_numbers env name) p
  width_of_name span name p (Some (Stored s)) e h =
      let u = then_ok (need (is_integer s.ty) T05 span) (width_of_counted span s.counted (known_value s)) p h in
      let k : s.counted ≡ None = formed t ds name (Stored s) e in
      let w : width_of_known span (known_value s) ≡ Ok p = subst (λ c. width_of_counted span c (known_value s) ≡ Ok p) k u.then in
      let x = known_width span s p (known_value s) refl w in
      (ap (λ o. option_and_then fixed_storage (storage_in o)) e ∙ x.0, x.1)
  width_of_name span name p (Some (Label T x)) e h = err_ok (fault_of T05 span) p h
  width_of_name span name p (Some Subprogram) e h = err_ok (fault_of T02 span) p h
  width_of_name span name p (Some (TypeName T)) e h = err_ok (fault_of T02 span) p h
  width_of_name span name p None e h = err_ok (fault_of T02 span) p h

  number_of_name : (span : Span) (name : List ℕ) (z : ℤ) (o : Option Standing) → standing_of name names ≡ o → number_of_standing span o ≡ Ok z → known_numbers env name ≡ Some z
  number_of_name span name z (Some (Stored s)) e h =
      let u = then_ok (need (is_integer s.ty) T05 span) (number_of_counted span s.counted (known_value s)) z h in
      let k : s.counted ≡ None = formed t ds name (Stored s) e in
      let w : number_of_known span (known_value s) ≡ Ok z = subst (λ c. number_of_counted span c (known_value s) ≡ Ok z) k u.then in
      ap (λ o. option_and_then fixed_storage (storage_in o)) e ∙ known_number span s z (known_value s) refl w
  number_of_name span name z (Some (Label T x)) e h = err_ok (fault_of T05 span) z h
  number_of_name span name z (Some Subprogram) e h = err_ok (fault_of T02 span) z h
  number_of_name span name z (Some (TypeName T)) e h = err_ok (fault_of T02 span) z h
  number_of_name span name z None e h = err_ok (fault_of T02 span) z h

  numbers_agree : NumbersAgree (known_numbers env) no_atoms (in_names names)
  numbers_agree = record {
    widths = λ span name p h. width_of_name span name p (standing_of name names) refl h;
    numbers = λ span name z h. number_of_name span name z (standing_of name names) refl h;
  }

  -- ---- types

  -- a written type that is well formed evaluates to the type that it was judged as
  pub written_is : (ty : TypeExpr) (outside : Bool) (W : Written) → written t ty outside (in_names names) ≡ Ok W → written_type env ty ≡ Some (closed W.ty)
  written_is ty outside W h =
      type_by t g.right ds names [] true [] g.named (record { scope = in_names names; present = no_atoms; around = nothing_around }) (known_numbers env) (resting (initial_globals env)) ty outside W numbers_agree g.agrees h

  -- what such a type begins with
  pub record Begun (ty : TypeExpr) (T : Closed) : Type 0 where
    pub sized : Sized
    pub is : sized_known env ty ≡ Some sized
    pub type_is : sized.type_is ≡ T
    pub begins : Begins t.limit (type_span ty) sized.type_is sized.first

  filled_by : (ty : TypeExpr) (zs : List Value) (s : Sized) (o : Option TypeShape) → sized t.limit (type_span ty) zs o ≡ Some s → Begins t.limit (type_span ty) s.type_is s.first
  filled_by ty zs s None h = none_some s h
  filled_by ty zs s (Some shape) h = filled_begins t.limit (type_span ty) shape zs s h

  none_counted : NoneCounted names
  none_counted name s e = formed t ds name (Stored s) e

  at_names : Here
  at_names = record { scope = in_names names; present = no_atoms; around = nothing_around }

  -- fractions that are whole are the values that are asked for
  record Valued (qs : List Asked) (rs : List Fraction) : Type 0 where
    values : List Value
    are : whole_values rs ≡ Some values
    give : AllGive t g.right names [] true at_names qs values

  one_value : (r : Fraction) (z : ℤ) → Proper r → IsWhole z r → whole_value r ≡ Some (int z)
  one_value r z h w =
      let n = none_of_whole r z h w in
      ap (λ m. if m == 0 then Some (int (floor r)) else None) n.1 ∙ ap (λ y. Some (int y)) n.0

  one_more : (r : Fraction) (rs : List Fraction) (z : ℤ) (xs : List Value) → whole_value r ≡ Some (int z) → whole_values rs ≡ Some xs →
      whole_values (r ∷ rs) ≡ Some (int z ∷ xs)
  one_more r rs z xs e f = ap (option_and_then (λ x. option_map (λ ys. x ∷ ys) (whole_values rs))) e ∙ ap (option_map (λ ys. int z ∷ ys)) f

  valued : (es : List Expr) (ts : List Tree) (qs : List Asked) (rs : List Fraction) →
      AllAsked t g.right names [] true (in_names names) es ts qs → AllRatios no_atoms qs rs → Valued qs rs
  unfolding at_names
  valued [] [] [] [] h i = record { values = []; are = refl; give = tt }
  valued (e ∷ es) (u ∷ ts) (of_width W ∷ qs) (r ∷ rs) h i =
      let x = outside_whole t e (in_names names) W none_counted h.0 in
      let rest = valued es ts qs rs h.2 i.1 in
      let w : IsWhole x.number r =
      same_trans r (fraction_at no_atoms W.poly) (whole x.number) i.0.0.lowest.positive i.0.2
      (width_whole no_atoms W.poly x.number x.is) in
      record { values = int x.number ∷ rest.values; are = one_more r rs x.number rest.values (one_value r x.number i.0.1 w) rest.are; give = (width_value no_atoms W.poly x.number x.held x.is, rest.give) }
  valued (e ∷ es) (u ∷ ts) (of_number N ∷ qs) (r ∷ rs) h i =
      let rest = valued es ts qs rs h.2 i.1 in
      record { values = int N.number ∷ rest.values; are = one_more r rs N.number rest.values (one_value r N.number i.0.0 i.0.1) rest.are; give = (refl, rest.give) }
  valued es ts (of_type S ∷ qs) (r ∷ rs) h i = absurd i.0
  valued es ts (of_pure S ∷ qs) (r ∷ rs) h i = absurd i.0
  valued es ts (of_known S W ∷ qs) (r ∷ rs) h i = absurd i.0
  valued es ts (of_divisor span k ∷ qs) (r ∷ rs) h i = absurd i.0
  valued es ts (q ∷ qs) [] h i = absurd i
  valued es ts [] (r ∷ rs) h i = absurd i
  valued [] [] (of_width W ∷ qs) (r ∷ rs) h i = absurd h
  valued [] [] (of_number N ∷ qs) (r ∷ rs) h i = absurd h
  valued [] (u ∷ ts) qs rs h i = absurd h
  valued (e ∷ es) [] qs rs h i = absurd h
  valued (e ∷ es) (u ∷ ts) [] rs h i = absurd h

  pub begun : (ty : TypeExpr) (outside : Bool) (W : Written) → written t ty outside (in_names names) ≡ Ok W → Begun ty (closed W.ty)
  unfolding at_names
  begun ty outside W h =
      let q =
      type_says t g.right names [] true at_names (λ name T o. type_fixed (types_in names) names name g.named.good T o)
      (λ name. refl) ty outside W h in
      let v =
      numbered t g.right names [] true at_names (known_numbers env) numbers_agree
      (λ name s c e k. some_none c (sym k ∙ none_counted name s (stored_of (standing_of name names) s e)))
      (type_parts ty).exprs W.sizes q.asked q.asks q.numeric in
      let x = valued (type_parts ty).exprs W.sizes q.asked v.values q.asks v.ratios in
      let k = q.fills (type_span ty) x.values [] x.give in
      let is : sized t.limit (type_span ty) x.values (shape_of (types_of env) ty) ≡ Some k.one =
      ap (sized t.limit (type_span ty) x.values) q.shape_is ∙ ap (λ l. filled t.limit (type_span ty) W.shape l) (sym (append_nil x.values))
      ∙ k.is in
      record {
        sized = k.one;
        is =
            ap (λ o. option_and_then (sized_at env ty) (option_and_then whole_values o)) v.are ∙ ap (option_and_then (sized_at env ty))
            x.are ∙ is;
        type_is = k.type_is;
        begins = filled_by ty x.values k.one (shape_of (types_of env) ty) is;
      }
