-- The frame of a call: its parameters and its formals, each a value of its type at the integers of the frame, which are those of the values themselves.
use Rattle.std.proofs.Common.{◌≡◌, ℕ, zero, suc, ◌+◌, ℤ, pos, Bool, true, false, cond, not, ◌&&◌, List, [], ◌∷◌, ◌++◌, Option, Some, None, Ok, refl, sym, ap, ◌∙◌, subst, arith, append_assoc}
use Rattle.std.specs.Prelude.{if◌then◌else◌}
use Rattle.std.specs.Str.{bytes_eq}
use Rattle.asl_syn.specs.declared.token.Span.{Span}
use Rattle.asl_syn.specs.declared.code.StaticCode.TheVariants.{T01}
use Rattle.asl_syn.specs.declared.tree.Decl.{Decl}
use Rattle.asl_syn.specs.declared.tree.Formal.{Formal}
use Rattle.asl_rules.specs.Faults.{need}
use Rattle.asl_rules.specs.Tests.{Tests, IsRight}
use Rattle.asl_rules.specs.types.Types.{Ty, Parts, no_part, part, kind, integers, is_integer}
use Rattle.asl_rules.specs.types.Closed as cl
use Rattle.asl_rules.specs.types.Closed.{Assignment, Closed, type_with}
use Rattle.asl_rules.specs.values.Values.{Value, int, bool, bits_with, label, record_with, exception_with, tuple_with, array_with}
use Rattle.asl_rules.specs.types.Views.{viewed}
use Rattle.asl_rules.specs.declarations.Scopes.{Counted, Entry, Signature, Standing, fixed, atom_at, next_atom, standing_of, is_free, is_absent}
use Rattle.asl_rules.specs.private.WellFormed.{WellFormed, Built}
use Rattle.asl_rules.specs.runs.Trees.{TreeFunc}
use Rattle.asl_rules.specs.values.Members.{has_name}
use Rattle.asl_rules.specs.statements.Locals.{itself}
use Rattle.asl_rules.specs.types.Writing.{Written}
use Rattle.asl_rules.specs.expressions.Exprs.{written}
use Rattle.asl_rules.specs.declarations.Declarations.{in_names}
use Rattle.asl_rules.specs.declarations.Programs.{formals_free, formals_rule, with_formals, types_in as list_types}
use Rattle.asl_rules.specs.types.Numbers.{Numbers}
use Rattle.asl_rules.specs.runs.States.{of_type, Core}
use Rattle.asl_rules.specs.private.Belonging.{has_type}
use Rattle.asl_rules.specs.private.Agreement.{types_in, CountsAs, Agrees}
use Rattle.asl_rules.specs.runs.Plans.{Pure as PureOf, Good}
use Rattle.asl_rules.specs.runs.Pures as pures
use Rattle.asl_rules.specs.runs.Pures.{there}
use Rattle.asl_rules.specs.private.ByPlace.{seen_as}
use Rattle.asl_rules.specs.runs.Evaluation.{declare, declared, type_at, type_under, formals_bound}
use Rattle.asl_rules.specs.private.TypedMeaning.{with_next, formals_seen}
use Rattle.asl_rules.specs.private.Erasure.{erased}
use Rattle.asl_rules.proofs.basics.Inversions.{ok_ok, bind_ok, then_ok, need_ok}
use Rattle.asl_rules.proofs.basics.Tests.{no, both}
use Rattle.asl_rules.proofs.values.SameKind.{equal_kinds}
use Rattle.asl_laws.proofs.values.OfType.{of_integers}
use Rattle.asl_rules.proofs.values.Viewing.{viewed_has, viewed_twice}
use Rattle.asl_rules.proofs.values.Bare.{viewed_built}
use Rattle.asl_rules.proofs.values.Constructs.{seen_is}
use Rattle.asl_laws.proofs.widths.WholeWidths.{atom_counts}
use Rattle.asl_laws.proofs.widths.Omitted.{atoms_last, none_snoc}
use Rattle.asl_rules.proofs.widths.Counting.{absent_is}
use Rattle.asl_laws.proofs.scopes.Agreeing.{declared_agrees, erased_declared}
use Rattle.asl_rules.proofs.scopes.Naming.{WellNamed, well_declared, scope_good}
use Rattle.asl_laws.proofs.scopes.WellTyped.{written_formed}
use Rattle.asl_laws.proofs.expressions.ExprForms.{env}
use Rattle.asl_laws.proofs.widths.PresentNumbers.{NumbersAgree}
use Rattle.asl_laws.proofs.values.PresentTypes.{type_by}
use Rattle.asl_laws.proofs.expressions.Claims.{around_of, nothing_around}

-- ---- the integers of a frame

abbrev pub whole : Value → ℤ
whole (int z) = z
whole (bool b) = pos 0
whole (bits_with bs v) = pos 0
whole (label n l) = pos 0
whole (record_with n xs) = pos 0
whole (exception_with own s n xs) = pos 0
whole (tuple_with xs) = pos 0
whole (array_with k xs) = pos 0

-- the values of a frame in order: their atoms are the even numbers
abbrev pub integers_of : List Value → Assignment
integers_of [] n = pos 0
integers_of (x ∷ xs) zero = whole x
integers_of (x ∷ xs) (suc zero) = pos 0
integers_of (x ∷ xs) (suc (suc n)) = integers_of xs n

-- integers among these values have theirs at the atoms from m
abbrev pub Follows : Assignment → ℕ → List Value → Type 0
Follows a m [] = Unit {0}
Follows a m (x ∷ xs) = ((z : ℤ) → x ≡ int z → a m ≡ z) × Follows a (m + 2) xs

two_on : (n m : ℕ) → n + (m + 2) ≡ suc (suc n) + m
two_on n m = omega arith

zero_on : (m : ℕ) → 0 + m ≡ m
zero_on m = omega arith

pub follows : (a : Assignment) (m : ℕ) (xs : List Value) → ((n : ℕ) → a (n + m) ≡ integers_of xs n) → Follows a m xs
follows a m [] h = tt
follows a m (x ∷ xs) h = (λ z e. sym (ap a (zero_on m)) ∙ h 0 ∙ ap whole e, follows a (m + 2) xs (λ n. ap a (two_on n m) ∙ h (suc (suc n))))

pub viewed_int : (C : Closed) (z : ℤ) → viewed C (int z) ≡ int z
viewed_int (cl.named name supers T) z = viewed_int T z
viewed_int (cl.integer_in c) z = refl
viewed_int cl.boolean z = refl
viewed_int (cl.bits_of w u) z = refl
viewed_int (cl.enumeration_of name labels) z = refl
viewed_int (cl.record_of name fs) z = refl
viewed_int (cl.exception_of name fs) z = refl
viewed_int (cl.tuple_of ts) z = refl
viewed_int (cl.array_of n k T) z = refl

-- ---- new names

free_from : (o : Option Standing) → o ≡ None → is_absent o ≡ true
free_from None h = refl
free_from (Some s) h = absurd cc

-- the names among these are free but for those that were taken
abbrev pub Taken : List Entry → List Entry → List (List ℕ) → Type 0
Taken base names before = (name : List ℕ) → is_free name base ≡ true → has_name name before ≡ false → is_free name names ≡ true

taken_apart : (m n : List ℕ) (ns : List (List ℕ)) → has_name n (ns ++ m ∷ []) ≡ false → (has_name n ns ≡ false) × (bytes_eq m n ≡ false)
taken_apart m n [] h = (refl, last (bytes_eq m n) h)
  where
    last : (b : Bool) → cond b true false ≡ false → b ≡ false
    last true h = h
    last false h = refl
taken_apart m n (k ∷ ns) h = by (bytes_eq k n) h (taken_apart m n ns)
  where
    by : (b : Bool) → cond b true (has_name n (ns ++ m ∷ [])) ≡ false → (has_name n (ns ++ m ∷ []) ≡ false → (has_name n ns ≡ false) × (bytes_eq m n ≡ false)) → (cond b true (has_name n ns) ≡ false) × (bytes_eq m n ≡ false)
    by true h f = no (sym h)
    by false h f = f h

pub taken_more : (base names : List Entry) (before : List (List ℕ)) (e : Entry) → Taken base names before → Taken base (names ++ e ∷ []) (before ++ e.name ∷ [])
taken_more base names before e t name f h =
    let p = taken_apart e.name name before h in
    free_from (standing_of name (names ++ e ∷ [])) (none_snoc names e name (absent_is (standing_of name names) (t name f p.0)) p.1)

module _ (tests : Tests) (right : IsRight tests) (ds : List Decl) (base : List Entry) (subs : List Signature) (loose : Bool) (funcs : List TreeFunc) (w : WellNamed base) where
  -- ---- one more name

  pub record Next (names : List Entry) (av : Assignment) (c : Core) (name : List ℕ) (T : Ty) (k : Option Counted) (y : Value) (r : PureOf Core) : Type 0 where
    pub state : Core
    pub is : r ≡ Good state
    pub agrees : Agrees base (names ++ fixed name T k ∷ []) av state
    pub erased_so : erased state ≡ with_next (y ∷ []) (erased c)
    pub around_is : around_of state ≡ around_of c

  pub declare_next : (span : Span) (name : List ℕ) (names : List Entry) (av : Assignment) (c : Core) (T : Ty) (k : Option Counted) (x : Value) → Agrees base names av c → is_free name names ≡ true → WellFormed (types_in base) T → has_type av x T ≡ true → Built (types_in base) x → CountsAs av k (viewed (type_with T av) x) →
      Next names av c name T k (seen_as T x) (declare span name false (Some (of_type (type_with T av))) x c)
  declare_next span name names av c T k x a f wf h b q =
      let C = type_with T av in
      record {
        state = declared name (viewed C x) (of_type C) false c;
        is = ap (λ t. pures.◌>>=◌ (there span (if t then Some (viewed C x) else None)) (λ y. Good (declared name y (of_type C) false c))) h;
        agrees = declared_agrees base names av c (fixed name T k) (viewed C x) (of_type C) false a f (refl, refl, λ m. no m)
            (record { name_is = refl; under_is = refl; mutable_is = refl; well_formed = wf; belongs = (viewed_has C x h, viewed_built (types_in base) C x b, viewed_twice C x); known = tt; counts = q });
        erased_so = erased_declared name (viewed C x) (of_type C) false c ∙ ap (λ y. with_next (y ∷ []) (erased c)) (sym (seen_is av T x));
        around_is = refl;
      }

  -- an integer stands for itself
  counts_by : (av : Assignment) (n : ℕ) (T : Ty) (x : Value) (b : Bool) → is_integer T ≡ b → has_type av x T ≡ true → ((z : ℤ) → x ≡ int z → av n ≡ z) → CountsAs av (if b then Some (atom_at n) else None) (viewed (type_with T av) x)
  counts_by av n T x false e h f = tt
  counts_by av n T x true e h f =
      let z = of_integers av T x h (equal_kinds (kind T) integers e) in
      atom_counts av n (viewed (type_with T av) x) z.0 (ap (viewed (type_with T av)) z.1 ∙ viewed_int (type_with T av) z.0) (f z.0 z.1)

  -- ---- formals

  -- arguments of the types of the formals
  abbrev pub HasAll : Assignment → Parts → List Value → Type 0
  HasAll av no_part [] = Unit {0}
  HasAll av no_part (x ∷ xs) = ⊥
  HasAll av (part T Ts) [] = ⊥
  HasAll av (part T Ts) (x ∷ xs) = (has_type av x T ≡ true) × Built (types_in base) x × HasAll av Ts xs

  pub record Bound (span : Span) (fs : List Formal) (Ts : Parts) (xs : List Value) (names : List Entry) (av : Assignment) (c : Core) (r : PureOf Core) : Type 0 where
    pub state : Core
    pub is : r ≡ Good state
    pub agrees : Agrees base (with_formals fs Ts names) av state
    pub seen : List Value
    pub seen_are : formals_seen span (list_types Ts) xs ≡ Good seen
    pub erased_so : erased state ≡ with_next seen (erased c)
    pub around_is : around_of state ≡ around_of c

  none_next : (xs : List Value) → xs ++ [] ≡ xs
  none_next [] = refl
  none_next (x ∷ xs) = ap (λ l. x ∷ l) (none_next xs)

  -- where the types of the formals are those over the parameters
  module _ (span : Span) (over : List Entry) (f : Numbers) (av : Assignment) (c0 : Core) (g : NumbersAgree f av (in_names over)) (a0 : Agrees base over av c0) where
    pub formals_good : (fs : List Formal) (Ts : Parts) (xs : List Value) (names : List Entry) (before : List (List ℕ)) (c : Core) → formals_rule tests fs over ≡ Ok Ts → formals_free fs before base ≡ Ok tt → Taken base names before → Follows av (next_atom names) xs → HasAll av Ts xs → Agrees base names av c →
        Bound span fs Ts xs names av c (formals_bound (env tests right ds base subs loose funcs w) span f fs xs c)
    formals_good [] Ts xs names before c h k t v i a = none_bound Ts xs (ok_ok no_part Ts h) i
      where
        none_bound : (Ts : Parts) (xs : List Value) → no_part ≡ Ts → HasAll av Ts xs → Bound span [] Ts xs names av c (formals_bound (env tests right ds base subs loose funcs w) span f [] xs c)
        none_bound no_part [] e i = record { state = c; is = refl; agrees = a; seen = []; seen_are = refl; erased_so = ap (λ xs. record (erased c) { frame = xs }) (sym (none_next (erased c).frame)); around_is = refl }
        none_bound no_part (x ∷ xs) e i = absurd i
        none_bound (part T Ts) xs e i = absurd cc
    formals_good (d ∷ fs) Ts xs names before c h k t v i a =
        let W = bind_ok (written tests d.ty false (in_names over)) _ Ts h in
        let R = bind_ok (formals_rule tests fs over) _ Ts W.then in
        subst (λ Us. HasAll av Us xs → Bound span (d ∷ fs) Us xs names av c (formals_bound (env tests right ds base subs loose funcs w) span f (d ∷ fs) xs c)) (ok_ok (part W.value.ty R.value) Ts R.then)
        (λ j. one_bound (λ Us ys ns bs c1 h1 k1 t1 v1 i1 a1. formals_good fs Us ys ns bs c1 h1 k1 t1 v1 i1 a1) W.value R.value xs W.first R.first v j) i
      where
        one_bound : ((Us : Parts) (ys : List Value) (ns : List Entry) (bs : List (List ℕ)) (c1 : Core) → formals_rule tests fs over ≡ Ok Us → formals_free fs bs base ≡ Ok tt → Taken base ns bs → Follows av (next_atom ns) ys → HasAll av Us ys → Agrees base ns av c1 → Bound span fs Us ys ns av c1 (formals_bound (env tests right ds base subs loose funcs w) span f fs ys c1)) →
            (W : Written) (Us : Parts) (xs : List Value) → written tests d.ty false (in_names over) ≡ Ok W → formals_rule tests fs over ≡ Ok Us → Follows av (next_atom names) xs → HasAll av (part W.ty Us) xs →
            Bound span (d ∷ fs) (part W.ty Us) xs names av c (formals_bound (env tests right ds base subs loose funcs w) span f (d ∷ fs) xs c)
        one_bound again W Us [] h1 h2 v j = absurd j
        one_bound again W Us (x ∷ xs) h1 h2 v j =
            let E = env tests right ds base subs loose funcs w in
            let u = then_ok (need (is_free d.name.text base && not (has_name d.name.text before)) T01 d.name.span) (formals_free fs (before ++ d.name.text ∷ []) base) tt k in
            let p = both (is_free d.name.text base) (not (has_name d.name.text before)) (need_ok (is_free d.name.text base && not (has_name d.name.text before)) T01 d.name.span tt u.first) in
            let free = t d.name.text p.0 (not_true (has_name d.name.text before) p.1) in
            let wf = written_formed tests right (types_in base) (well_declared base w) d.ty false (in_names over) W (scope_good av base over c0 w a0) h1 in
            let e : type_under (type_at E f d.ty) ≡ Some (of_type (type_with W.ty av)) = ap type_under (type_by tests right ds base subs loose funcs w (record { scope = in_names over; present = av; around = nothing_around }) f c0 d.ty false W g a0 h1) in
            let T = W.ty in
            let n = declare_next span d.name.text names av c T (itself T names) x a free wf j.0 j.1 (counts_by av (next_atom names) T x (is_integer T) refl j.0 v.0) in
            let next = fixed d.name.text T (itself T names) in
            let m = again Us xs (names ++ next ∷ []) (before ++ d.name.text ∷ []) n.state h2 u.then (taken_more base names before next t) (subst (λ q. Follows av q xs) (sym (atoms_last names next refl)) v.1) j.2 n.agrees in
            record {
              state = m.state;
              is = ap (λ o. pures.◌>>=◌ (declare span d.name.text false o x c) (λ c1. formals_bound E span f fs xs c1)) e ∙ ap (λ r. pures.◌>>=◌ r (λ c1. formals_bound E span f fs xs c1)) n.is ∙ m.is;
              agrees = m.agrees;
              seen = seen_as T x ∷ m.seen;
              seen_are = ap (λ r. pures.◌>>=◌ r (λ ys. Good (seen_as T x ∷ ys))) m.seen_are;
              erased_so = m.erased_so ∙ ap (with_next m.seen) n.erased_so ∙ ap (λ xs. record (erased c) { frame = xs }) (append_assoc (erased c).frame (seen_as T x ∷ []) m.seen);
              around_is = m.around_is ∙ n.around_is;
            }
          where
            not_true : (b : Bool) → not b ≡ true → b ≡ false
            not_true true h = no h
            not_true false h = refl
