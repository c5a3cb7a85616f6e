-- A call enters a frame that agrees with the names of the body: the parameters, each over those before it, the formals behind them, and the result over the parameters.
use Rattle.std.proofs.Common.{◌≡◌, ℕ, ◌+◌, ℤ, Bool, true, false, cond, not, ◌&&◌, List, [], ◌∷◌, ◌++◌, Option, Some, None, Ok, refl, sym, ap, ◌∙◌, subst, arith, append_assoc}
use Rattle.std.specs.Str.{bytes_eq}
use Rattle.asl_syn.specs.declared.token.Span.{Span}
use Rattle.asl_syn.specs.declared.code.StaticCode.TheVariants.{T01}
use Rattle.asl_syn.specs.declared.tree.Decl.{Decl}
use Rattle.asl_syn.specs.declared.tree.Func.{Func}
use Rattle.asl_syn.specs.declared.tree.TypeExpr.{TypeExpr}
use Rattle.asl_syn.specs.declared.tree.Param.{Param as WrittenParam}
use Rattle.asl_poly.specs.Poly.{atom_map}
use Rattle.asl_rules.specs.Faults.{need}
use Rattle.asl_rules.specs.Tests.{Tests, IsRight}
use Rattle.asl_rules.specs.types.Types.{Ty, Parts, only_width}
use Rattle.asl_rules.specs.types.Closed.{Assignment, type_with}
use Rattle.asl_rules.specs.types.Views.{viewed}
use Rattle.asl_rules.specs.values.Values.{Value, int}
use Rattle.asl_rules.specs.declarations.Scopes.{Counted, Entry, Signature, Param, Storage, Standing, Stored, Subprogram, TypeName, Label, fixed, atom_at, next_atom, standing_of, is_free}
use Rattle.asl_rules.specs.private.WellFormed.{WellFormed}
use Rattle.asl_rules.specs.runs.Trees.{TreeFunc}
use Rattle.asl_rules.specs.values.Members.{has_name}
use Rattle.asl_rules.specs.expressions.Exprs.{written}
use Rattle.asl_rules.specs.declarations.Declarations.{in_names}
use Rattle.asl_rules.specs.declarations.Programs.{formals_free, formals_rule, with_formals, types_in as list_types, param_written, type_or_itself, param_entry, params_rule, params_free, result_rule}
use Rattle.asl_rules.specs.types.Numbers.{present}
use Rattle.asl_rules.specs.runs.States.{of_type, of_value, Core, entered}
use Rattle.asl_rules.specs.private.Belonging.{InType, has_type}
use Rattle.asl_rules.specs.private.Agreement.{types_in, Agrees, GlobalsMatch, AllMatch, global_matches}
use Rattle.asl_rules.specs.runs.Plans.{Pure as PureOf, Good}
use Rattle.asl_rules.specs.runs.Pures as pures
use Rattle.asl_rules.specs.runs.Evaluation.{declare, declared, type_under, param_value, param_under, params_bound, formals_bound, Entering, entering, under_written, result_at as keeps_at}
use Rattle.asl_rules.specs.private.TypedMeaning as bare
use Rattle.asl_rules.specs.private.TypedMeaning.{with_next, formals_seen}
use Rattle.asl_rules.specs.private.Erasure.{erased}
use Rattle.asl_rules.proofs.basics.Inversions.{ok_ok, bind_ok, then_ok, need_ok}
use Rattle.asl_rules.proofs.basics.Tests.{no, both, some_same, none_some}
use Rattle.asl_rules.proofs.values.Constructs.{seen_is}
use Rattle.asl_laws.proofs.scopes.HeldRules.{only_ends}
use Rattle.asl_laws.proofs.widths.WholeWidths.{atom_width, atom_counts}
use Rattle.asl_rules.proofs.widths.WidthsHeld.{atom_is_polynomial}
use Rattle.asl_laws.proofs.widths.Omitted.{atoms_last}
use Rattle.asl_rules.proofs.scopes.Lookups.{before_is, behind}
use Rattle.asl_laws.proofs.scopes.Agreeing.{declared_agrees, erased_declared}
use Rattle.asl_rules.proofs.scopes.Naming.{WellNamed, well_declared, scope_good}
use Rattle.asl_laws.proofs.scopes.WellTyped.{written_formed, integer_formed}
use Rattle.asl_laws.proofs.values.Routines.{length_gives}
use Rattle.asl_laws.proofs.expressions.TreePlans.{append_nil}
use Rattle.asl_laws.proofs.expressions.ExprForms.{env}
use Rattle.asl_laws.proofs.widths.PresentNumbers.{CountedFixed, present_agree}
use Rattle.asl_laws.proofs.values.PresentTypes.{type_present}
use Rattle.asl_laws.proofs.calls.OwnCalls.{seen_by}
use Rattle.asl_laws.proofs.calls.OwnFrames.{integers_of, Follows, follows, viewed_int, Taken, taken_more, Next, declare_next, HasAll, formals_good}
use Rattle.asl_laws.proofs.expressions.Claims.{around_of}

-- ---- names that count in widths can't be assigned

storage_in_it : Storage → Standing → Storage
storage_in_it u (Stored s) = s
storage_in_it u Subprogram = u
storage_in_it u (TypeName T) = u
storage_in_it u (Label T x) = u

pub counted_more : (names : List Entry) (name : List ℕ) (T : Ty) (k : Option Counted) → CountedFixed names → CountedFixed (names ++ fixed name T k ∷ [])
unfolding storage_in_it
counted_more names name T k h n s c e q = by (standing_of n names) refl
  where
    last : (b : Bool) → cond b (Some (fixed name T k).standing) None ≡ Some (Stored s) → s.is_mutable ≡ false
    last true e = ap (λ (u : Storage). u.is_mutable) (sym (ap (storage_in_it s) (some_same (fixed name T k).standing (Stored s) e)))
    last false e = none_some (Stored s) e

    by : (o : Option Standing) → standing_of n names ≡ o → s.is_mutable ≡ false
    by None o = last (bytes_eq name n) (sym (behind names (fixed name T k ∷ []) n o) ∙ e)
    by (Some st) o = h n s c (o ∙ sym (before_is names (fixed name T k ∷ []) n st o) ∙ e) q

pub none_counted : (d : List ℕ → Option Ty) (es : List Entry) (n : List ℕ) (s : Storage) (bs : List _) → AllMatch d es bs → standing_of n es ≡ Some (Stored s) → s.counted ≡ None
unfolding storage_in_it
none_counted d [] n s bs m h = none_some (Stored s) h
none_counted d (e ∷ es) n s bs m h = by e.standing (bytes_eq e.name n) bs m h (λ cs k l. none_counted d es n s cs k l)
  where
    by : (st : Standing) (b : Bool) (bs : List _) → global_matches d e.name st bs (AllMatch d es) → cond b (Some st) (standing_of n es) ≡ Some (Stored s) → ((cs : List _) → AllMatch d es cs → standing_of n es ≡ Some (Stored s) → s.counted ≡ None) → s.counted ≡ None
    by (Stored u) b [] m h next = absurd m
    by (Stored u) true (x ∷ bs) m h next = ap (λ (v : Storage). v.counted) (sym (ap (storage_in_it s) (some_same (Stored u) (Stored s) h))) ∙ m.0.no_atom
    by (Stored u) false (x ∷ bs) m h next = next bs m.1 h
    by Subprogram true bs m h next = absurd cc
    by Subprogram false bs m h next = next bs m h
    by (TypeName T) true bs m h next = absurd cc
    by (TypeName T) false bs m h next = next bs m h
    by (Label T x) true bs m h next = absurd cc
    by (Label T x) false bs m h next = next bs m h

pub counted_outside : (base : List Entry) (bs : List _) → GlobalsMatch base bs → CountedFixed base
counted_outside base bs m n s c e q = none_some c (sym (none_counted (types_in base) base n s bs m e) ∙ q)

split_follows : (a : Assignment) (m : ℕ) (x : Value) (xs ys : List Value) → Follows a m ((x ∷ xs) ++ ys) → Follows a (m + 2) (xs ++ ys)
split_follows a m x xs ys h = h.1

module _ (tests : Tests) (right : IsRight tests) (ds : List Decl) (base : List Entry) (subs : List Signature) (loose : Bool) (funcs : List TreeFunc) (w : WellNamed base) where
  abbrev pub HasOption : Assignment → Option Ty → Value → Type 0
  HasOption av None x = Unit {0}
  HasOption av (Some T) x = has_type av x T ≡ true

  -- values of parameters: integers, of the types that are written
  abbrev pub HasParams : Assignment → List WrittenParam → List Entry → List Value → Type 0
  HasParams av [] names [] = Unit {0}
  HasParams av [] names (x ∷ xs) = ⊥
  HasParams av (p ∷ ps) names [] = ⊥
  HasParams av (p ∷ ps) names (x ∷ xs) = ((z : ℤ) × (x ≡ int z)) × ((T : Option Ty) → param_written tests p.ty names ≡ Ok T → HasOption av T x × HasParams av ps (names ++ param_entry p.name.text T (next_atom names) ∷ []) xs)

  -- each parameter takes an integer
  takes_integer : (ty : Option TypeExpr) (z : ℤ) → param_value ty (int z) ≡ Some (int z)
  takes_integer None z = refl
  takes_integer (Some t) z = refl

  -- one parameter
  itself_next : (span : Span) (name : List ℕ) (names : List Entry) (av : Assignment) (c : Core) (z : ℤ) → Agrees base names av c → is_free name names ≡ true → av (next_atom names) ≡ z →
      Next tests right ds base subs loose funcs w names av c name (type_or_itself None (next_atom names)) (Some (atom_at (next_atom names))) (int z) (declare span name false (Some (of_value (int z))) (int z) c)
  itself_next span name names av c z a f e =
      let n = next_atom names in
      let T = type_or_itself None n in
      let held = atom_is_polynomial n in
      let belongs : InType (types_in base) av (int z) T =
      (length_gives (types_in base) av tests right (atom_map n) z held (atom_width av n z e), tt, refl) in
      record {
        state = declared name (int z) (of_value (int z)) false c;
        is = refl;
        agrees = declared_agrees base names av c (fixed name T (Some (atom_at n))) (int z) (of_value (int z)) false a f (refl, refl, λ m. no m)
            (record { name_is = refl; under_is = belongs; mutable_is = refl; well_formed = integer_formed tests right (types_in base) (well_declared base w) (only_width (atom_map n)) (only_ends (atom_map n) held); belongs = belongs; known = tt; counts = atom_counts av n (int z) z refl e });
        erased_so = erased_declared name (int z) (of_value (int z)) false c;
        around_is = refl;
      }

  typed_next : (span : Span) (name : List ℕ) (names : List Entry) (av : Assignment) (c : Core) (T : Ty) (z : ℤ) → Agrees base names av c → is_free name names ≡ true → WellFormed (types_in base) T → has_type av (int z) T ≡ true → av (next_atom names) ≡ z →
      Next tests right ds base subs loose funcs w names av c name T (Some (atom_at (next_atom names))) (int z) (declare span name false (Some (of_type (type_with T av))) (int z) c)
  typed_next span name names av c T z a f wf h e =
      let n = next_atom names in
      subst (λ y. Next tests right ds base subs loose funcs w names av c name T (Some (atom_at n)) y (declare span name false (Some (of_type (type_with T av))) (int z) c)) (seen_is av T (int z) ∙ viewed_int (type_with T av) z)
      (declare_next tests right ds base subs loose funcs w span name names av c T (Some (atom_at n)) (int z) a f wf h tt
      (atom_counts av n (viewed (type_with T av) (int z)) z (viewed_int (type_with T av) z) e))

  param_next : (span : Span) (name : List ℕ) (names : List Entry) (av : Assignment) (c : Core) (ty : Option TypeExpr) (T : Option Ty) (z : ℤ) → Agrees base names av c → CountedFixed names → is_free name names ≡ true → param_written tests ty names ≡ Ok T → HasOption av T (int z) → av (next_atom names) ≡ z →
      Next tests right ds base subs loose funcs w names av c name (type_or_itself T (next_atom names)) (Some (atom_at (next_atom names))) (int z) (declare span name false (param_under (env tests right ds base subs loose funcs w) c ty (int z)) (int z) c)
  param_next span name names av c None T z a k f h i e =
      subst (λ U. Next tests right ds base subs loose funcs w names av c name (type_or_itself U (next_atom names)) (Some (atom_at (next_atom names))) (int z) (declare span name false (Some (of_value (int z))) (int z) c)) (ok_ok None T h) (itself_next span name names av c z a f e)
  param_next span name names av c (Some ty) T z a k f h i e =
      let W = bind_ok (written tests ty false (in_names names)) _ T h in
      let q = ok_ok (Some W.value.ty) T W.then in
      let wf = written_formed tests right (types_in base) (well_declared base w) ty false (in_names names) W.value (scope_good av base names c w a) W.first in
      subst (λ U. Next tests right ds base subs loose funcs w names av c name (type_or_itself U (next_atom names)) (Some (atom_at (next_atom names))) (int z) (declare span name false (param_under (env tests right ds base subs loose funcs w) c (Some ty) (int z)) (int z) c)) q
      (subst (λ u. Next tests right ds base subs loose funcs w names av c name W.value.ty (Some (atom_at (next_atom names))) (int z) (declare span name false (type_under u) (int z) c)) (sym (type_present tests right ds base subs loose funcs w (in_names names) av c ty false W.value k a W.first))
      (typed_next span name names av c W.value.ty z a f wf (subst (λ U. HasOption av U (int z)) (sym q) i) e))

  pub record ParamsBound (names : List Entry) (after : List (List ℕ)) (av : Assignment) (xs ys : List Value) (c : Core) (r : PureOf Core) : Type 0 where
    pub state : Core
    pub is : r ≡ Good state
    pub agrees : Agrees base names av state
    pub counted : CountedFixed names
    pub taken : Taken base names after
    pub follows_on : Follows av (next_atom names) ys
    pub erased_so : erased state ≡ with_next xs (erased c)
    pub around_is : around_of state ≡ around_of c

  not_so : (b : Bool) → not b ≡ true → b ≡ false
  not_so true h = no h
  not_so false h = refl

  pub params_good : (span : Span) (av : Assignment) (ys : List Value) (ps : List WrittenParam) (pre : List Param) (names : List Entry) (before after : List (List ℕ)) (r : List Param × List Entry) (xs : List Value) (c : Core) → params_rule tests ps pre names ≡ Ok r → params_free ps before base ≡ Ok after → Taken base names before → CountedFixed names →
      Follows av (next_atom names) (xs ++ ys) → HasParams av ps names xs → Agrees base names av c → ParamsBound r.1 after av xs ys c (params_bound (env tests right ds base subs loose funcs w) span ps xs c)
  params_good span av ys [] pre names before after r (x ∷ xs) c h k t g v i a = absurd i
  params_good span av ys [] pre names before after r [] c h k t g v i a =
      subst (λ (z : List Param × List Entry). ParamsBound z.1 after av [] ys c (Good c)) (ok_ok (pre, names) r h)
      (record { state = c; is = refl; agrees = a; counted = g; taken = subst (Taken base names) (ok_ok before after k) t; follows_on = v; erased_so = ap (λ xs. record (erased c) { frame = xs }) (sym (append_nil (erased c).frame)); around_is = refl })
  params_good span av ys (p ∷ ps) pre names before after r [] c h k t g v i a = absurd i
  params_good span av ys (p ∷ ps) pre names before after r (x ∷ xs) c h k t g v i a =
      let E = env tests right ds base subs loose funcs w in
      let T = bind_ok (param_written tests p.ty names) _ r h in
      let z = i.0.0 in
      let j = i.1 T.value T.first in
      let u = then_ok (need (is_free p.name.text base && not (has_name p.name.text before)) T01 p.name.span) (params_free ps (before ++ p.name.text ∷ []) base) after k in
      let q = both (is_free p.name.text base) (not (has_name p.name.text before)) (need_ok (is_free p.name.text base && not (has_name p.name.text before)) T01 p.name.span tt u.first) in
      let n = param_next span p.name.text names av c p.ty T.value z a g (t p.name.text q.0 (not_so (has_name p.name.text before) q.1)) T.first (subst (HasOption av T.value) i.0.1 j.0) (v.0 z i.0.1) in
      let e = param_entry p.name.text T.value (next_atom names) in
      let m = params_good span av ys ps _ (names ++ e ∷ []) (before ++ p.name.text ∷ []) after r xs n.state T.then u.then (taken_more base names before e t) (counted_more names p.name.text (type_or_itself T.value (next_atom names)) (Some (atom_at (next_atom names))) g)
      (subst (λ l. Follows av l (xs ++ ys)) (sym (atoms_last names e refl)) v.1) j.1 n.agrees in
      subst (λ y. ParamsBound r.1 after av (y ∷ xs) ys c (params_bound E span (p ∷ ps) (y ∷ xs) c)) (sym i.0.1)
      (record {
        state = m.state;
        is = ap (λ o. pures.◌>>=◌ (pures.there span o) (λ y. pures.◌>>=◌ (declare span p.name.text false (param_under E c p.ty y) y c) (λ c1. params_bound E span ps xs c1))) (takes_integer p.ty z)
            ∙ ap (λ s. pures.◌>>=◌ s (λ c1. params_bound E span ps xs c1)) n.is ∙ m.is;
        agrees = m.agrees;
        counted = m.counted;
        taken = m.taken;
        follows_on = m.follows_on;
        erased_so = m.erased_so ∙ ap (with_next xs) n.erased_so ∙ ap (λ l. record (erased c) { frame = l }) (append_assoc (erased c).frame (int z ∷ []) xs);
        around_is = m.around_is ∙ n.around_is;
      })

  -- ---- a whole frame

  -- the frame of a caller waits
  pub entered_agrees : (id : ℕ) (names : List Entry) (present later : Assignment) (c : Core) → Agrees base names present c → Agrees base base later (entered id c)
  entered_agrees id names present later c a = record {
    locals = [];
    names_are = sym (append_nil base);
    fresh = tt;
    plain = tt;
    frame = tt;
    globals = a.globals;
    handled = tt;
    callers = (record { locals = a.locals; present = present; fresh = a.fresh; plain = a.plain; frame = a.frame; handled = a.handled }, a.callers);
  }

  -- what a frame of these parameters and formals is
  pub record Frames (span at : Span) (id : ℕ) (f : Func) (Ts : Parts) (T : Option Ty) (names : List Entry) (av : Assignment) (qs ys : List Value) (c : Core) : Type 0 where
    pub states : Entering
    pub is : entering (env tests right ds base subs loose funcs w) span id f qs ys c ≡ Good states
    pub agrees : Agrees base names av states.inner
    pub around_is : around_of states.inner ≡ around_of (entered id c)
    pub formals : List Value
    pub formals_are : formals_seen span (list_types Ts) ys ≡ Good formals
    pub erased_so : erased states.inner ≡ bare.entered id (qs ++ formals) (erased c)
    pub keeps_are : keeps_at (env tests right ds base subs loose funcs w) at (present states.params) f.result ≡ seen_by at av T

  result_by : (at : Span) (ty : Option TypeExpr) (T : Option Ty) (names : List Entry) (av : Assignment) (c : Core) → result_rule tests ty names ≡ Ok T → CountedFixed names → Agrees base names av c → keeps_at (env tests right ds base subs loose funcs w) at (present c) ty ≡ seen_by at av T
  result_by at None T names av c h k a = ap (seen_by at av) (ok_ok None T h)
  result_by at (Some ty) T names av c h k a =
      let W = bind_ok (written tests ty false (in_names names)) _ T h in
      ap (λ o. Some (under_written at o)) (type_present tests right ds base subs loose funcs w (in_names names) av c ty false W.value k a W.first) ∙ ap (seen_by at av) (ok_ok (Some W.value.ty) T W.then)

  pub frames_good : (span at : Span) (id : ℕ) (f : Func) (after : List (List ℕ)) (r : List Param × List Entry) (Ts : Parts) (T : Option Ty) (names : List Entry) (present : Assignment) (qs ys : List Value) (c : Core) → next_atom base ≡ 0 → params_free f.params [] base ≡ Ok after → formals_free f.formals after base ≡ Ok tt →
      params_rule tests f.params [] base ≡ Ok r → formals_rule tests f.formals r.1 ≡ Ok Ts → result_rule tests f.result r.1 ≡ Ok T → HasParams (integers_of (qs ++ ys)) f.params base qs → HasAll tests right ds base subs loose funcs w (integers_of (qs ++ ys)) Ts ys → Agrees base names present c →
      Frames span at id f Ts T (with_formals f.formals Ts r.1) (integers_of (qs ++ ys)) qs ys c
  frames_good span at id f after r Ts T names now qs ys c zero_so pf ff pr fr rr i j a =
      let E = env tests right ds base subs loose funcs w in
      let av = integers_of (qs ++ ys) in
      let m = params_good span av ys f.params [] base [] after r qs (entered id c) pr pf (λ name g h. g) (counted_outside base c.globals a.globals)
      (subst (λ l. Follows av l (qs ++ ys)) (sym zero_so) (follows av 0 (qs ++ ys) (λ n. ap av (nothing_more n)))) i (entered_agrees id names now av c a) in
      let n = formals_good tests right ds base subs loose funcs w span r.1 (present m.state) av m.state (present_agree av base (in_names r.1) m.state m.counted m.agrees) m.agrees f.formals Ts ys r.1 after m.state fr ff m.taken m.follows_on j m.agrees in
      record {
        states = record { params = m.state; inner = n.state };
        is = ap (λ s. pures.◌>>=◌ s (λ c1. pures.◌>>=◌ (formals_bound E span (present c1) f.formals ys c1) (λ c2. Good (record { params = c1; inner = c2 })))) m.is ∙ ap (λ s. pures.◌>>=◌ s (λ c2. Good (record { params = m.state; inner = c2 }))) n.is;
        agrees = n.agrees;
        around_is = n.around_is ∙ m.around_is;
        formals = n.seen;
        formals_are = n.seen_are;
        erased_so = n.erased_so ∙ ap (with_next n.seen) m.erased_so;
        keeps_are = result_by at f.result T r.1 av m.state rr m.counted m.agrees;
      }
    where
      nothing_more : (n : ℕ) → n + 0 ≡ n
      nothing_more n = omega arith
