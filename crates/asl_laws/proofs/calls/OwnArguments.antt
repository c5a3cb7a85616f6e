-- The types of a subprogram in the frame of a call: with the parameters replaced they are for the caller what they are at the integers of the frame. So arguments that
-- fit belong to the formals, and what a function gives belongs to the type of its call.
use Rattle.std.proofs.Common.{◌≡◌, ◌⊎◌, inl, inr, ℕ, ℤ, ◌+◌, Bool, true, false, cond, List, [], ◌∷◌, ◌++◌, Option, Some, Ok, refl, sym, ap, ◌∙◌, subst}
use Rattle.std.specs.Prelude.{◌==◌}
use Rattle.asl_syn.specs.declared.token.Span.{Span}
use Rattle.asl_syn.specs.declared.code.StaticCode.TheVariants.{T20}
use Rattle.asl_poly.specs.Poly.{IsPolynomial, HasWidth}
use Rattle.asl_rules.specs.Faults.{found_or}
use Rattle.asl_rules.specs.Tests.{Tests, IsRight}
use Rattle.asl_rules.specs.types.Types.{Ty, Parts, no_part, part, kinds, kinds_eq, kind_eq, kind, substitute, misfit}
use Rattle.asl_rules.specs.types.Closed.{Assignment, type_with, width_at}
use Rattle.asl_rules.specs.values.Values.{Value, has}
use Rattle.asl_rules.specs.types.Views.{viewed}
use Rattle.asl_rules.specs.declarations.Scopes.{Entry, Param, Signature}
use Rattle.asl_rules.specs.private.WellFormed.{WellFormed, Shaped, Built}
use Rattle.asl_rules.specs.runs.Trees.{TreeFunc}
use Rattle.asl_rules.specs.expressions.Typing.{Operand, types_of}
use Rattle.asl_rules.specs.expressions.Calls.{Given, polys, replaced_by, fits_replaced, arguments_fit}
use Rattle.asl_rules.specs.private.Belonging.{InType, has_type}
use Rattle.asl_rules.specs.private.Agreement.{types_in}
use Rattle.asl_syn.specs.declared.tree.Decl.{Decl}
use Rattle.asl_rules.proofs.basics.Inversions.{bind_ok, then_ok, found_ok, fitted_ok}
use Rattle.asl_rules.proofs.basics.Tests.{no, both}
use Rattle.asl_rules.proofs.values.SameKind.{same_number, number_is}
use Rattle.asl_rules.proofs.values.Keeping.{satisfying_keeps}
use Rattle.asl_rules.proofs.scopes.Naming.{WellNamed, well_declared}
use Rattle.asl_laws.proofs.scopes.WellTyped.{substitute_formed}
use Rattle.asl_laws.proofs.values.Routines.{AllWide, AllIn}
use Rattle.asl_laws.proofs.widths.TypesOver.{Over, AllOver}
use Rattle.asl_laws.proofs.scopes.OverScope.{IsAtomOf}
use Rattle.asl_laws.proofs.scopes.ScopesOver.{type_moved}
use Rattle.asl_laws.proofs.scopes.HeldRules.{AllHeld, replaced_within}
use Rattle.asl_laws.proofs.widths.Substituting.{AllWithin}
use Rattle.asl_laws.proofs.values.Replacing.{behind, AllWhole, type_replaced}
use Rattle.asl_laws.proofs.calls.OwnFrames.{Follows, HasAll}

-- parameters have the atoms from m, two by two
abbrev pub AtomsFrom : ℕ → List Param → Type 0
AtomsFrom m [] = Unit {0}
AtomsFrom m (p ∷ ps) = (p.atom ≡ m) × AtomsFrom (m + 2) ps

-- each parameter has a width
abbrev pub Paired : List Param → List Given → Type 0
Paired [] [] = Unit {0}
Paired [] (g ∷ gs) = ⊥
Paired (p ∷ ps) [] = ⊥
Paired (p ∷ ps) (g ∷ gs) = Paired ps gs

-- the atoms of the parameters stand for their values
same_by : (b : Bool) (a av : Assignment) (n : ℕ) (p : Param) (ps : List Param) (g : Given) (rest : ℤ) → (n == p.atom) ≡ b →
    av p.atom ≡ width_at g.width a → ((n ≡ p.atom) ⊎ IsAtomOf ps n) → (IsAtomOf ps n → rest ≡ av n) →
    cond b (width_at g.width a) rest ≡ av n
same_by true a av n p ps g rest q e i next = sym e ∙ ap av (sym (same_number n p.atom q))
same_by false a av n p ps g rest q e (inl k) next = no (sym q ∙ subst (λ m. (n == m) ≡ true) k (number_is n))
same_by false a av n p ps g rest q e (inr k) next = next k

pub same_at : (a av : Assignment) (m : ℕ) (ps : List Param) (gs : List Given) (xs ys : List Value) → AtomsFrom m ps → Paired ps gs →
    AllWide a (polys gs) xs → Follows av m (xs ++ ys) → (n : ℕ) → IsAtomOf ps n → behind (replaced_by ps gs) a n ≡ av n
same_at a av m [] gs xs ys f c w v n i = absurd i
same_at a av m (p ∷ ps) [] xs ys f c w v n i = absurd c
same_at a av m (p ∷ ps) (g ∷ gs) [] ys f c w v n i = absurd w
same_at a av m (p ∷ ps) (g ∷ gs) (x ∷ xs) ys f c w v n i =
    same_by (n == p.atom) a av n p ps g (behind (replaced_by ps gs) a n) refl (ap av f.0 ∙ v.0 (width_at g.width a) w.0.0) i
    (λ k. same_at a av (m + 2) ps gs xs ys f.1 c w.1 v.1 n k)

-- what is given is within the limits, and whole for the caller
abbrev pub AllFit : Assignment → List Given → Type 0
AllFit a [] = Unit {0}
AllFit a (g ∷ gs) = (HasWidth g.width a (width_at g.width a) × IsPolynomial g.width) × AllFit a gs

pub all_fit : (a : Assignment) (gs : List Given) (xs : List Value) → AllWide a (polys gs) xs → AllFit a gs
all_fit a [] xs w = tt
all_fit a (g ∷ gs) [] w = absurd w
all_fit a (g ∷ gs) (x ∷ xs) w = ((w.0.1, w.0.2), all_fit a gs xs w.1)

pub fit_held : (a : Assignment) (gs : List Given) → AllFit a gs → AllHeld (polys gs)
fit_held a [] f = tt
fit_held a (g ∷ gs) f = (f.0.1, fit_held a gs f.1)

fit_within : (a : Assignment) (ps : List Param) (gs : List Given) → AllFit a gs → AllWithin (replaced_by ps gs)
fit_within a ps gs f = replaced_within ps gs (fit_held a gs f)

fit_whole : (a : Assignment) (ps : List Param) (gs : List Given) → AllFit a gs → AllWhole (replaced_by ps gs) a
fit_whole a [] gs f = tt
fit_whole a (p ∷ ps) [] f = tt
fit_whole a (p ∷ ps) (g ∷ gs) f = (f.0.0, fit_whole a ps gs f.1)

-- for the caller a type with its parameters replaced is what it is in the frame
pub in_frame : (d : List ℕ → Option Ty) (a av : Assignment) (ps : List Param) (gs : List Given) → AllFit a gs →
    ((n : ℕ) → IsAtomOf ps n → behind (replaced_by ps gs) a n ≡ av n) → (T U : Ty) → Over (IsAtomOf ps) T → Shaped d T →
    substitute (replaced_by ps gs) T ≡ Some U → type_with U a ≡ type_with T av
in_frame d a av ps gs fit same T U o s k =
    type_replaced (replaced_by ps gs) a (fit_within a ps gs fit) (fit_whole a ps gs fit) d (IsAtomOf ps) T U o s k ∙ type_moved
    (IsAtomOf ps) (behind (replaced_by ps gs) a) av same T o

-- what a function gives belongs to the type of the call
pub result_in : (d : List ℕ → Option Ty) (a av : Assignment) (T U : Ty) (x : Value) → type_with U a ≡ type_with T av → InType d av x T → InType d a x U
result_in d a av T U x e i = (subst (λ C. has x C ≡ true) (sym e) i.0, i.1, subst (λ C. viewed C x ≡ x) (sym e) i.2)

module _ (tests : Tests) (right : IsRight tests) (ds : List Decl) (base : List Entry) (subs : List Signature) (loose : Bool) (funcs : List TreeFunc) (w : WellNamed base) where
  abbrev pub AllFormed : Parts → Type 0
  AllFormed no_part = Unit {0}
  AllFormed (part T Ts) = WellFormed (types_in base) T × AllFormed Ts

  -- a value of a type that fits
  pub fits_in : (a av : Assignment) (span at : Span) (ps : List Param) (gs : List Given) (S T : Ty) (x : Value) → AllFit a gs →
      ((n : ℕ) → IsAtomOf ps n → behind (replaced_by ps gs) a n ≡ av n) → Over (IsAtomOf ps) T → WellFormed (types_in base) S →
      WellFormed (types_in base) T → fits_replaced tests span (replaced_by ps gs) S T at ≡ Ok tt →
      has_type a x S ≡ true → Built (types_in base) x → has_type av x T ≡ true
  fits_in a av span at ps gs S T x fit same o s t f h b =
      let U = bind_ok (found_or (substitute (replaced_by ps gs) T) T20 span) _ tt f in
      let k = found_ok (substitute (replaced_by ps gs) T) T20 span U.value U.first in
      let u =
      substitute_formed tests right (types_in base) (well_declared base w) (replaced_by ps gs) T U.value (fit_within a ps gs fit) t k in
      subst (λ C. has x C ≡ true) (in_frame (types_in base) a av ps gs fit same T U.value o t.shaped k)
      (satisfying_keeps a tests right (types_in base) (well_declared base w) S U.value x s u b (fitted_ok (misfit tests S U.value) at tt U.then) h)

  -- arguments that fit belong to the formals
  pub arguments_in : (a av : Assignment) (span : Span) (ps : List Param) (gs : List Given) → AllFit a gs →
      ((n : ℕ) → IsAtomOf ps n → behind (replaced_by ps gs) a n ≡ av n) → (Ts : Parts) (os : List Operand) (xs : List Value) →
      kinds_eq (kinds Ts) (kinds (types_of os)) ≡ true → AllOver (IsAtomOf ps) Ts → AllFormed (types_of os) → AllFormed Ts →
      arguments_fit tests span (replaced_by ps gs) Ts os ≡ Ok tt → AllIn (types_in base) a (types_of os) xs → HasAll tests right ds base subs loose funcs w av Ts xs
  arguments_in a av span ps gs fit same no_part [] [] k o s t f i = tt
  arguments_in a av span ps gs fit same no_part [] (x ∷ xs) k o s t f i = absurd i
  arguments_in a av span ps gs fit same no_part (e ∷ os) xs k o s t f i = no k
  arguments_in a av span ps gs fit same (part T Ts) [] xs k o s t f i = no k
  arguments_in a av span ps gs fit same (part T Ts) (e ∷ os) [] k o s t f i = absurd i
  arguments_in a av span ps gs fit same (part T Ts) (e ∷ os) (x ∷ xs) k o s t f i =
      let u = then_ok (fits_replaced tests span (replaced_by ps gs) e.typed.ty T e.span) (arguments_fit tests span (replaced_by ps gs) Ts os) tt f in
      let q = both (kind_eq (kind T) (kind e.typed.ty)) (kinds_eq (kinds Ts) (kinds (types_of os))) k in
      (fits_in a av span e.span ps gs e.typed.ty T x fit same o.0 s.0 t.0 u.first i.0.0 i.0.1, i.0.1, arguments_in a av span ps gs fit same Ts os xs q.1 o.1 s.1 t.1 u.then i.1)
