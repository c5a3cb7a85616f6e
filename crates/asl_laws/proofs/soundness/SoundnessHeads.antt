-- The results of a program's subprograms are well formed.
use Rattle.std.proofs.Common.{◌≡◌, ℕ, inl, inr, false, List, [], ◌∷◌, ◌++◌, Option, Some, None, Ok, subst}
use Rattle.asl_syn.specs.declared.tree.Param.{Param as WrittenParam}
use Rattle.asl_syn.specs.declared.tree.TypeExpr.{TypeExpr}
use Rattle.asl_syn.specs.declared.tree.Func.{Func}
use Rattle.asl_rules.specs.Tests.{Tests, IsRight}
use Rattle.asl_poly.specs.Poly.{atom_map}
use Rattle.asl_rules.specs.types.Types.{Ty, only_width}
use Rattle.asl_rules.specs.declarations.Scopes.{Entry, Param, next_atom}
use Rattle.asl_rules.specs.expressions.Exprs.{written}
use Rattle.asl_rules.specs.declarations.Declarations.{in_names}
use Rattle.asl_rules.specs.declarations.Programs.{Head, params_free, formals_free, type_or_itself, param_entry, param_written, params_rule, formals_rule, result_rule, limit_typed, params_are_integers, limit_rule, signature_rule, signatures_rule, signatures}
use Rattle.asl_rules.specs.private.WellFormed.{WellFormed, WellDeclared}
use Rattle.asl_rules.proofs.basics.Inversions.{ok_ok, bind_ok, then_ok}
use Rattle.asl_rules.proofs.widths.Counting.{standing_back}
use Rattle.asl_rules.proofs.widths.WidthsHeld.{atom_is_polynomial}
use Rattle.asl_rules.proofs.scopes.Naming.{GoodStanding, GoodNames}
use Rattle.asl_laws.proofs.scopes.HeldRules.{only_ends}
use Rattle.asl_laws.proofs.scopes.WellTyped.{FormedResult, FormedSubs, integer_formed, written_formed}

-- ---- results are well formed

good_snoc : (d : List ℕ → Option Ty) (names : List Entry) (e : Entry) → GoodNames d names → GoodStanding d e.standing → GoodNames d (names ++ e ∷ [])
good_snoc d names e g s name st h = elim (standing_back name names e st h) [ inl k ↦ g name st k | inr k ↦ subst (GoodStanding d) k s ]

module _ (tests : Tests) (right : IsRight tests) (d : List ℕ → Option Ty) (declared : WellDeclared d) where
  param_formed : (o : Option TypeExpr) (T : Option Ty) (n : ℕ) (names : List Entry) → GoodNames d names → param_written tests o names ≡ Ok T → WellFormed d (type_or_itself T n)
  param_formed None T n names g h =
      subst (λ z. WellFormed d (type_or_itself z n)) (ok_ok None T h)
      (integer_formed tests right d declared (only_width (atom_map n)) (only_ends (atom_map n) (atom_is_polynomial n)))
  param_formed (Some ty) T n names g h =
      let v = bind_ok (written tests ty false (in_names names)) _ T h in
      subst (λ z. WellFormed d (type_or_itself z n)) (ok_ok (Some v.value.ty) T v.then) (written_formed tests right d declared ty false (in_names names) v.value g v.first)

  pub params_good : (ps : List WrittenParam) (before : List Param) (names : List Entry) (r : List Param × List Entry) → GoodNames d names → params_rule tests ps before names ≡ Ok r → GoodNames d r.1
  params_good [] before names r g h = subst (λ (z : List Param × List Entry). GoodNames d z.1) (ok_ok (before, names) r h) g
  params_good (p ∷ ps) before names r g h =
      let v = bind_ok (param_written tests p.ty names) _ r h in
      params_good ps (before ++ record { atom = next_atom names; ty = v.value } ∷ []) (names ++ param_entry p.name.text v.value (next_atom names) ∷ []) r
      (good_snoc d names (param_entry p.name.text v.value (next_atom names)) g
      (param_formed p.ty v.value (next_atom names) names g v.first, atom_is_polynomial (next_atom names))) v.then

  pub result_formed : (o : Option TypeExpr) (T : Option Ty) (names : List Entry) → GoodNames d names → result_rule tests o names ≡ Ok T → FormedResult tests right d declared T
  result_formed None T names g h = subst (FormedResult tests right d declared) (ok_ok None T h) tt
  result_formed (Some ty) T names g h =
      let v = bind_ok (written tests ty false (in_names names)) _ T h in
      subst (FormedResult tests right d declared) (ok_ok (Some v.value.ty) T v.then) (written_formed tests right d declared ty false (in_names names) v.value g v.first)

  pub head_formed : (base : List Entry) (f : Func) (h : Head) → GoodNames d base → signature_rule tests base f ≡ Ok h → FormedResult tests right d declared h.signature.result
  head_formed base f h g k =
      let a = bind_ok (params_free f.params [] base) _ h k in
      let b = then_ok (formals_free f.formals a.value base) _ h a.then in
      let c = bind_ok (params_rule tests f.params [] base) _ h b.then in
      let e = bind_ok (formals_rule tests f.formals c.value.1) _ h c.then in
      let r = bind_ok (result_rule tests f.result c.value.1) _ h e.then in
      let l = bind_ok (limit_typed tests f.limit base) _ h r.then in
      let i = then_ok (params_are_integers tests f.params c.value.0) _ h l.then in
      let m = bind_ok (limit_rule tests f.limit l.value base) _ h i.then in
      subst (λ (z : Head). FormedResult tests right d declared z.signature.result) (ok_ok _ h m.then)
      (result_formed f.result r.value c.value.1 (params_good f.params [] base c.value g c.first) r.first)

  pub heads_formed : (base : List Entry) (fs : List Func) (hs : List Head) → GoodNames d base → signatures_rule tests base fs ≡ Ok hs → FormedSubs tests right d declared (signatures hs)
  heads_formed base [] hs g h = subst (λ z. FormedSubs tests right d declared (signatures z)) (ok_ok [] hs h) tt
  heads_formed base (f ∷ fs) hs g h =
      let u = bind_ok (signature_rule tests base f) _ hs h in
      let v = bind_ok (signatures_rule tests base fs) _ hs u.then in
      subst (λ z. FormedSubs tests right d declared (signatures z)) (ok_ok (u.value ∷ v.value) hs v.then)
      (head_formed base f u.value g u.first, heads_formed base fs v.value g v.first)
