-- What is given to the parameters of a call is of the types that are written there, and the types of formals and operands are well formed.
use Rattle.std.proofs.Common.{◌≡◌, Bool, inl, inr, ℕ, ◌+◌, false, List, [], ◌∷◌, ◌++◌, Option, Some, None, Ok, refl, sym, ap, ◌∙◌, subst, arith, map, append_assoc}
use Rattle.asl_syn.specs.declared.token.Span.{Span}
use Rattle.asl_syn.specs.declared.tree.Decl.{Decl}
use Rattle.asl_syn.specs.declared.tree.Expr.{Expr}
use Rattle.asl_syn.specs.declared.tree.Formal.{Formal}
use Rattle.asl_syn.specs.declared.tree.TypeExpr.{TypeExpr}
use Rattle.asl_syn.specs.declared.tree.Param.{Param as WrittenParam}
use Rattle.asl_poly.specs.Poly.{IsPolynomial, HasWidth, atom_map}
use Rattle.asl_rules.specs.Tests.{Tests, IsRight}
use Rattle.asl_rules.specs.types.Types.{Ty, Parts, no_part, part, only_width, integer_of}
use Rattle.asl_rules.specs.types.Closed.{Assignment, width_at}
use Rattle.asl_rules.specs.values.Values.{Value, int}
use Rattle.asl_rules.specs.declarations.Scopes.{Counted, Scope, Entry, Signature, Param, fixed, atom_at, next_atom}
use Rattle.asl_rules.specs.private.WellFormed.{WellFormed}
use Rattle.asl_rules.specs.private.Worth.{IsHeld}
use Rattle.asl_rules.specs.runs.Trees.{TreeFunc}
use Rattle.asl_rules.specs.expressions.Typing.{Operand, operand, operands, types_of}
use Rattle.asl_rules.specs.expressions.Exprs.{found, typed, written}
use Rattle.asl_rules.specs.expressions.Calls.{Given, polys, replaced_by, fits_written, params_fit}
use Rattle.asl_rules.specs.declarations.Declarations.{in_names}
use Rattle.asl_rules.specs.declarations.Programs.{formals_rule, param_written, type_or_itself, param_entry, params_rule}
use Rattle.asl_rules.specs.private.Agreement.{types_in}
use Rattle.asl_rules.proofs.basics.Inversions.{ok_ok, bind_ok, then_ok}
use Rattle.asl_rules.proofs.basics.Tests.{some_same, none_some}
use Rattle.asl_rules.proofs.widths.Counting.{standing_back}
use Rattle.asl_rules.proofs.scopes.Naming.{GoodStanding, GoodNames, WellNamed, well_declared}
use Rattle.asl_laws.proofs.scopes.WellTyped.{FormedSubs, typed_formed, written_formed, integer_formed}
use Rattle.asl_laws.proofs.values.Routines.{AllWide, length_gives}
use Rattle.asl_laws.proofs.widths.TypesOver.{Over}
use Rattle.asl_laws.proofs.scopes.OverScope.{IsAtomOf, NamesOver}
use Rattle.asl_laws.proofs.scopes.NamesOutside.{NamesOutside, outside_over}
use Rattle.asl_laws.proofs.scopes.BodiesOver.{added_over, counted_in, itself_in, param_over}
use Rattle.asl_laws.proofs.expressions.TreePlans.{append_nil}
use Rattle.asl_laws.proofs.calls.OwnFrames.{integers_of, follows}
use Rattle.asl_laws.proofs.calls.OwnParams.{HasOption, HasParams}
use Rattle.asl_laws.proofs.calls.OwnArguments.{Paired, AllFit, all_fit, AllFormed, same_at, fits_in}
use Rattle.asl_laws.proofs.values.Replacing.{behind}
use Rattle.asl_laws.proofs.scopes.HeldRules.{only_ends}
use Rattle.asl_rules.proofs.widths.WidthsHeld.{atom_is_polynomial}
use Rattle.asl_laws.proofs.calls.OwnBodies.{params_atoms}

-- one name more
pub named_good : (d : List ℕ → Option Ty) (names : List Entry) (name : List ℕ) (T : Ty) (k : Option Counted) → GoodNames d names →
    WellFormed d T → IsHeld k → GoodNames d (names ++ fixed name T k ∷ [])
named_good d names name T k g f c n st h = elim (standing_back n names (fixed name T k) st h) [
  | inl e ↦ g n st e
  | inr e ↦ subst (GoodStanding d) e (f, c)
]

module _ (tests : Tests) where
  -- the parameters that the rules find at those that are written
  abbrev pub Along : List WrittenParam → List Entry → List Param → Type 0
  Along [] names [] = Unit {0}
  Along [] names (q ∷ qs) = ⊥
  Along (p ∷ ps) names [] = ⊥
  Along (p ∷ ps) names (q ∷ qs) = (param_written tests p.ty names ≡ Ok q.ty) × (q.atom ≡ next_atom names) × Along ps (names ++ param_entry p.name.text q.ty (next_atom names) ∷ []) qs

  pub along_rule : (ps : List WrittenParam) (pre : List Param) (names : List Entry) (r : List Param × List Entry) → params_rule tests ps pre names ≡ Ok r → (rest : List Param) × (pre ++ rest ≡ r.0) × Along ps names rest
  along_rule [] pre names r h = ([], append_nil pre ∙ ap (λ (z : List Param × List Entry). z.0) (ok_ok (pre, names) r h), tt)
  along_rule (p ∷ ps) pre names r h =
      let v = bind_ok (param_written tests p.ty names) _ r h in
      let q : Param = record { atom = next_atom names; ty = v.value } in
      let k = along_rule ps (pre ++ q ∷ []) (names ++ param_entry p.name.text v.value (next_atom names) ∷ []) r v.then in
      (q ∷ k.0, sym (append_assoc pre (q ∷ []) k.0) ∙ k.1, (v.first, refl, k.2))

  pub along_all : (ps : List WrittenParam) (names : List Entry) (r : List Param × List Entry) → params_rule tests ps [] names ≡ Ok r → Along ps names r.0
  along_all ps names r h = let k = along_rule ps [] names r h in subst (Along ps names) k.1 k.2

nothing_more : (n : ℕ) → n + 0 ≡ n
nothing_more n = omega arith

module _ (tests : Tests) (right : IsRight tests) (ds : List Decl) (base : List Entry) (subs : List Signature) (loose : Bool) (funcs : List TreeFunc) (w : WellNamed base) where
  -- ---- well-formed types

  written_good : (o : Option TypeExpr) (names : List Entry) (T : Ty) → GoodNames (types_in base) names → param_written tests o names ≡ Ok (Some T) → WellFormed (types_in base) T
  written_good None names T g h = none_some T (ok_ok None (Some T) h)
  written_good (Some ty) names T g h =
      let u = bind_ok (written tests ty false (in_names names)) _ (Some T) h in
      subst (WellFormed (types_in base)) (some_same u.value.ty T (ok_ok (Some u.value.ty) (Some T) u.then)) (written_formed tests right (types_in base) (well_declared base w) ty false (in_names names) u.value g u.first)

  itself_good : (o : Option TypeExpr) (names : List Entry) (T : Option Ty) (n : ℕ) → GoodNames (types_in base) names → param_written tests o names ≡ Ok T → WellFormed (types_in base) (type_or_itself T n)
  itself_good o names None n g h =
      integer_formed tests right (types_in base) (well_declared base w) (only_width (atom_map n))
      (only_ends (atom_map n) (atom_is_polynomial n))
  itself_good o names (Some T) n g h = written_good o names T g h

  pub params_names : (ps : List WrittenParam) (pre : List Param) (names : List Entry) (r : List Param × List Entry) → GoodNames (types_in base) names → params_rule tests ps pre names ≡ Ok r → GoodNames (types_in base) r.1
  params_names [] pre names r g h = subst (λ (z : List Param × List Entry). GoodNames (types_in base) z.1) (ok_ok (pre, names) r h) g
  params_names (p ∷ ps) pre names r g h =
      let v = bind_ok (param_written tests p.ty names) _ r h in
      let n = next_atom names in
      params_names ps (pre ++ record { atom = n; ty = v.value } ∷ []) (names ++ param_entry p.name.text v.value n ∷ []) r
      (named_good (types_in base) names p.name.text (type_or_itself v.value n) (Some (atom_at n)) g
      (itself_good p.ty names v.value n g v.first) (atom_is_polynomial n)) v.then

  formals_good : (fs : List Formal) (names : List Entry) (Ts : Parts) → GoodNames (types_in base) names → formals_rule tests fs names ≡ Ok Ts → AllFormed tests right ds base subs loose funcs w Ts
  formals_good [] names Ts g h = subst (AllFormed tests right ds base subs loose funcs w) (ok_ok no_part Ts h) tt
  formals_good (f ∷ fs) names Ts g h =
      let u = bind_ok (written tests f.ty false (in_names names)) _ Ts h in
      let v = bind_ok (formals_rule tests fs names) _ Ts u.then in
      subst (AllFormed tests right ds base subs loose funcs w) (ok_ok (part u.value.ty v.value) Ts v.then)
      (written_formed tests right (types_in base) (well_declared base w) f.ty false (in_names names) u.value g u.first, formals_good fs names v.value g v.first)

  -- the types of formals
  pub formals_formed : (ps : List WrittenParam) (r : List Param × List Entry) (fs : List Formal) (Ts : Parts) → params_rule tests ps [] base ≡ Ok r → formals_rule tests fs r.1 ≡ Ok Ts → AllFormed tests right ds base subs loose funcs w Ts
  formals_formed ps r fs Ts h k = formals_good fs r.1 Ts (params_names ps [] base r w.good h) k

  -- the types of operands
  pub operands_formed : (es : List Expr) (G : Scope) (os : List Operand) → GoodNames (types_in base) G.names → FormedSubs tests right (types_in base) (well_declared base w) G.subs → operands (map (found tests) es) G ≡ Ok os → AllFormed tests right ds base subs loose funcs w (types_of os)
  operands_formed [] G os g s h = subst (λ l. AllFormed tests right ds base subs loose funcs w (types_of l)) (ok_ok [] os h) tt
  operands_formed (e ∷ es) G os g s h =
      let u = bind_ok (typed tests e G) _ os h in
      let v = bind_ok (operands (map (found tests) es) G) _ os u.then in
      subst (λ l. AllFormed tests right ds base subs loose funcs w (types_of l)) (ok_ok (operand (found tests e).span u.value ∷ v.value) os v.then)
      (typed_formed tests right (types_in base) (well_declared base w) e G u.value g s u.first, operands_formed es G v.value g s v.first)

  -- ---- values of parameters

  option_has : (a av : Assignment) (span : Span) (all : List Param) (gs : List Given) (g : Given) (o : Option TypeExpr) (T : Option Ty)
      (names : List Entry) (n : ℕ) → AllFit a gs → HasWidth g.width a (width_at g.width a) × IsPolynomial g.width →
      ((m : ℕ) → IsAtomOf all m → behind (replaced_by all gs) a m ≡ av m) → param_written tests o names ≡ Ok T →
      Over (IsAtomOf all) (type_or_itself T n) →
      GoodNames (types_in base) names → fits_written tests span (replaced_by all gs) T g ≡ Ok tt → HasOption tests right ds base subs loose funcs w av T (int (width_at g.width a))
  option_has a av span all gs g o None names n fit own same h over good f = tt
  option_has a av span all gs g o (Some T) names n fit own same h over good f =
      fits_in tests right ds base subs loose funcs w a av span g.span all gs (integer_of (only_width g.width)) T (int (width_at g.width a))
      fit same over (integer_formed tests right (types_in base) (well_declared base w) (only_width g.width) (only_ends g.width own.1))
      (written_good o names T good h) f
      (length_gives (types_in base) a tests right g.width (width_at g.width a) own.1 own.0) tt

  params_by : (a av : Assignment) (span : Span) (all : List Param) (given : List Given) → AllFit a given →
      ((m : ℕ) → IsAtomOf all m → behind (replaced_by all given) a m ≡ av m) →
      (ps : List WrittenParam) (qs : List Param) (gs : List Given) (names : List Entry) (xs : List Value) → Along tests ps names qs →
      ((m : ℕ) → IsAtomOf qs m → IsAtomOf all m) →
      NamesOver (IsAtomOf all) names → GoodNames (types_in base) names → Paired qs gs → AllWide a (polys gs) xs → params_fit tests span (replaced_by all given) qs gs ≡ Ok tt → HasParams tests right ds base subs loose funcs w av ps names xs
  params_by a av span all given fit same [] [] [] names [] l i over good c k f = tt
  params_by a av span all given fit same [] [] [] names (x ∷ xs) l i over good c k f = absurd k
  params_by a av span all given fit same [] [] (g ∷ gs) names xs l i over good c k f = absurd c
  params_by a av span all given fit same [] (q ∷ qs) gs names xs l i over good c k f = absurd l
  params_by a av span all given fit same (p ∷ ps) [] gs names xs l i over good c k f = absurd l
  params_by a av span all given fit same (p ∷ ps) (q ∷ qs) [] names xs l i over good c k f = absurd c
  params_by a av span all given fit same (p ∷ ps) (q ∷ qs) (g ∷ gs) names [] l i over good c k f = absurd k
  params_by a av span all given fit same (p ∷ ps) (q ∷ qs) (g ∷ gs) names (x ∷ xs) l i over good c k f =
      let A : ℕ → Type 0 = IsAtomOf all in
      let n = next_atom names in
      let at : A n = i n (inl (sym l.1)) in
      let u = then_ok (fits_written tests span (replaced_by all given) q.ty g) (params_fit tests span (replaced_by all given) qs gs) tt f in
      let T = type_or_itself q.ty n in
      let o = param_over tests A p.ty names q.ty n over at l.0 in
      let here =
      subst (HasOption tests right ds base subs loose funcs w av q.ty) (sym k.0.0)
      (option_has a av span all given g p.ty q.ty names n fit (k.0.1, k.0.2) same l.0 o good u.first) in
      let next = params_by a av span all given fit same ps qs gs (names ++ param_entry p.name.text q.ty n ∷ []) xs l.2 (λ m j. i m (inr j))
      (added_over A names (param_entry p.name.text q.ty n) over o (counted_in A p.name.text T (Some (atom_at n)) (λ c h. itself_in A n c at h)))
      (named_good (types_in base) names p.name.text T (Some (atom_at n)) good (itself_good p.ty names q.ty n good l.0)
      (atom_is_polynomial n)) c k.1 u.then in
      ((width_at g.width a, k.0.0), λ S h. subst (λ V. HasOption tests right ds base subs loose funcs w av V x × HasParams tests right ds base subs loose funcs w av ps (names ++ param_entry p.name.text V n ∷ []) xs) (ok_ok q.ty S (sym l.0 ∙ h)) (here, next))

  -- the atoms of the parameters stand in the frame for what replaces them at the caller
  pub given_at : (a : Assignment) (ps : List WrittenParam) (r : List Param × List Entry) (gs : List Given) (xs ys : List Value) →
      next_atom base ≡ 0 → params_rule tests ps [] base ≡ Ok r → Paired r.0 gs → AllWide a (polys gs) xs → (n : ℕ) → IsAtomOf r.0 n →
      behind (replaced_by r.0 gs) a n ≡ integers_of (xs ++ ys) n
  given_at a ps r gs xs ys zero h c k =
      let av = integers_of (xs ++ ys) in
      same_at a av 0 r.0 gs xs ys (params_atoms tests ps base r zero h) c k (follows av 0 (xs ++ ys) (λ n. ap av (nothing_more n)))

  -- what is given to parameters is of the types that are written there
  pub params_have : (a av : Assignment) (span : Span) (ps : List WrittenParam) (r : List Param × List Entry) (gs : List Given)
      (xs : List Value) → NamesOutside base → params_rule tests ps [] base ≡ Ok r →
      ((n : ℕ) → IsAtomOf r.0 n → behind (replaced_by r.0 gs) a n ≡ av n) → Paired r.0 gs → AllWide a (polys gs) xs →
      params_fit tests span (replaced_by r.0 gs) r.0 gs ≡ Ok tt → HasParams tests right ds base subs loose funcs w av ps base xs
  params_have a av span ps r gs xs out h same c k f =
      params_by a av span r.0 gs (all_fit a gs xs k) same ps r.0 gs base xs (along_all tests ps base r h) (λ m i. i)
      (outside_over base out (IsAtomOf r.0)) w.good c k f
