-- The types of declarations and of signatures agree with what is declared, in each turn in which a declaration is judged and in
-- the scope of all signatures, whether the program is accepted or refused.
use Rattle.std.proofs.Common.{true, ◌≡◌, ℕ, false, List, [], ◌∷◌, ◌++◌, Option, Some, None, Ok, subst}
use Rattle.asl_syn.specs.declared.tree.Decl.{Decl}
use Rattle.asl_syn.specs.declared.tree.Formal.{Formal}
use Rattle.asl_syn.specs.declared.tree.Func.{Func}
use Rattle.asl_syn.specs.declared.tree.Param.{Param as WrittenParam}
use Rattle.asl_syn.specs.declared.tree.TypeExpr.{TypeExpr}
use Rattle.asl_grammar.specs.Reading.{File}
use Rattle.asl_laws.specs.Answers.{AreJudged}
use Rattle.asl_rules.specs.Tests.{Tests, IsRight}
use Rattle.asl_poly.specs.Poly.{atom_map}
use Rattle.asl_rules.specs.types.Types.{Ty, Parts, no_part, part, only_width}
use Rattle.asl_rules.specs.declarations.Names.{names_rule, all_declared}
use Rattle.asl_rules.specs.declarations.Scopes.{Entry, Param, fixed, next_atom}
use Rattle.asl_rules.specs.expressions.Exprs.{written}
use Rattle.asl_rules.specs.statements.Locals.{itself}
use Rattle.asl_rules.specs.declarations.Declarations.{in_names}
use Rattle.asl_rules.specs.declarations.Turns.{names_of_program}
use Rattle.asl_rules.specs.declarations.Programs.{Head, funcs_of, signatures, params_free, formals_free, type_or_itself, param_entry, param_written, params_rule, formals_rule, result_rule, limit_typed, params_are_integers, limit_rule, with_formals, signature_rule, signatures_rule}
use Rattle.asl_rules.specs.private.Agreement.{types_in}
use Rattle.asl_rules.specs.private.Grown.{AreGrown}
use Rattle.asl_rules.specs.private.WellFormed.{WellFormed, WellDeclared, ShapedParts}
use Rattle.asl_rules.proofs.basics.Inversions.{ok_ok, bind_ok, then_ok}
use Rattle.asl_rules.proofs.widths.WidthsHeld.{atom_is_polynomial}
use Rattle.asl_rules.proofs.scopes.Naming.{WellNamed, well_declared}
use Rattle.asl_rules.proofs.verdict.Distinct.{Distinct, distinct_of}
use Rattle.asl_laws.specs.AgreeingTypes.{NamesFormed, MaybeFormed, ResultsFormed, NamesAgree, ParamsFormed, HeadFormed, HeadsFormed, DeclarationsAgree}
use Rattle.asl_laws.specs.Evaluated.{names_after}
use Rattle.asl_laws.proofs.scopes.FormedScopes.{added, itself_held}
use Rattle.asl_laws.proofs.scopes.HeldRules.{only_ends}
use Rattle.asl_laws.proofs.scopes.Globals.{AllBelong, grown_labels, names_good, turn_named}
use Rattle.asl_laws.proofs.scopes.GrownTexts.{judged_grown}
use Rattle.asl_laws.proofs.scopes.WellTyped.{integer_formed, written_in_formed, good_formed}
use Rattle.asl_laws.proofs.soundness.GivenTypes.{belong_by_forms}
use Rattle.asl_laws.proofs.soundness.Soundness.{others_of}
use Rattle.asl_laws.proofs.soundness.SoundnessEnds.{no_calls, no_procedures}

-- ---- signatures

params_snoc : (d : List ℕ → Option Ty) (ps : List Param) (p : Param) → ParamsFormed d ps → MaybeFormed d p.ty →
    ParamsFormed d (ps ++ p ∷ [])
params_snoc d [] p g h = (h, tt)
params_snoc d (q ∷ ps) p g h = (g.0, params_snoc d ps p g.1 h)

module _ (t : Tests) (right : IsRight t) (d : List ℕ → Option Ty) (known : WellDeclared d) where
  maybe_written : (o : Option TypeExpr) (T : Option Ty) (names : List Entry) → NamesFormed d names → param_written t o names ≡ Ok T →
      MaybeFormed d T
  maybe_written None T names g h = subst (MaybeFormed d) (ok_ok None T h) tt
  maybe_written (Some ty) T names g h =
      let v = bind_ok (written t ty false (in_names names)) _ T h in
      subst (MaybeFormed d) (ok_ok (Some v.value.ty) T v.then)
      (written_in_formed t right d known ty false (in_names names) v.value g v.first)

  own_type : (T : Option Ty) (n : ℕ) → MaybeFormed d T → WellFormed d (type_or_itself T n)
  own_type None n g = integer_formed t right d known (only_width (atom_map n)) (only_ends (atom_map n) (atom_is_polynomial n))
  own_type (Some T) n g = g

  params_formed : (ps : List WrittenParam) (before : List Param) (names : List Entry) (r : List Param × List Entry) →
      NamesFormed d names → ParamsFormed d before → params_rule t ps before names ≡ Ok r →
      ParamsFormed d r.0 × NamesFormed d r.1
  params_formed [] before names r g b h =
      subst (λ (z : List Param × List Entry). ParamsFormed d z.0 × NamesFormed d z.1) (ok_ok (before, names) r h) (b, g)
  params_formed (p ∷ ps) before names r g b h =
      let v = bind_ok (param_written t p.ty names) _ r h in
      let w = maybe_written p.ty v.value names g v.first in
      params_formed ps (before ++ record { atom = next_atom names; ty = v.value } ∷ [])
      (names ++ param_entry p.name.text v.value (next_atom names) ∷ []) r
      (added d names (param_entry p.name.text v.value (next_atom names)) g
      (own_type v.value (next_atom names) w, atom_is_polynomial (next_atom names)))
      (params_snoc d before (record { atom = next_atom names; ty = v.value }) b w) v.then

  formals_formed : (fs : List Formal) (names : List Entry) (Ts : Parts) → NamesFormed d names → formals_rule t fs names ≡ Ok Ts →
      ShapedParts d Ts
  formals_formed [] names Ts g h = subst (ShapedParts d) (ok_ok no_part Ts h) tt
  formals_formed (f ∷ fs) names Ts g h =
      let u = bind_ok (written t f.ty false (in_names names)) _ Ts h in
      let v = bind_ok (formals_rule t fs names) _ Ts u.then in
      let w = written_in_formed t right d known f.ty false (in_names names) u.value g u.first in
      subst (ShapedParts d) (ok_ok (part u.value.ty v.value) Ts v.then) (w.has_name, w.shaped, formals_formed fs names v.value g v.first)

  with_formals_formed : (fs : List Formal) (Ts : Parts) (names : List Entry) → NamesFormed d names → ShapedParts d Ts →
      NamesFormed d (with_formals fs Ts names)
  with_formals_formed [] Ts names g h = g
  with_formals_formed (f ∷ fs) no_part names g h = g
  with_formals_formed (f ∷ fs) (part T Ts) names g h =
      with_formals_formed fs Ts (names ++ fixed f.name.text T (itself T names) ∷ [])
      (added d names (fixed f.name.text T (itself T names)) g (record { shaped = h.1; has_name = h.0 }, itself_held T names)) h.2

  result_formed : (o : Option TypeExpr) (T : Option Ty) (names : List Entry) → NamesFormed d names → result_rule t o names ≡ Ok T →
      MaybeFormed d T
  result_formed None T names g h = subst (MaybeFormed d) (ok_ok None T h) tt
  result_formed (Some ty) T names g h =
      let v = bind_ok (written t ty false (in_names names)) _ T h in
      subst (MaybeFormed d) (ok_ok (Some v.value.ty) T v.then)
      (written_in_formed t right d known ty false (in_names names) v.value g v.first)

  head_formed : (base : List Entry) (f : Func) (h : Head) → NamesFormed d base → signature_rule t base f ≡ Ok h → HeadFormed d h
  head_formed base f h g k =
      let a = bind_ok (params_free f.params [] base) _ h k in
      let b = then_ok (formals_free f.formals a.value base) _ h a.then in
      let c = bind_ok (params_rule t f.params [] base) _ h b.then in
      let e = bind_ok (formals_rule t f.formals c.value.1) _ h c.then in
      let r = bind_ok (result_rule t f.result c.value.1) _ h e.then in
      let l = bind_ok (limit_typed t f.limit base) _ h r.then in
      let i = then_ok (params_are_integers t f.params c.value.0) _ h l.then in
      let m = bind_ok (limit_rule t f.limit l.value base) _ h i.then in
      let p = params_formed f.params [] base c.value g tt c.first in
      let s = formals_formed f.formals c.value.1 e.value p.1 e.first in
      subst (HeadFormed d) (ok_ok _ h m.then) (record {
        params = p.0;
        formals = s;
        result = result_formed f.result r.value c.value.1 p.1 r.first;
        names = with_formals_formed f.formals e.value c.value.1 p.1 s;
      })

  heads_formed : (base : List Entry) (fs : List Func) (hs : List Head) → NamesFormed d base → signatures_rule t base fs ≡ Ok hs →
      HeadsFormed d hs × ResultsFormed d (signatures hs)
  heads_formed base [] hs g h = subst (λ z. HeadsFormed d z × ResultsFormed d (signatures z)) (ok_ok [] hs h) (tt, tt)
  heads_formed base (f ∷ fs) hs g h =
      let u = bind_ok (signature_rule t base f) _ hs h in
      let v = bind_ok (signatures_rule t base fs) _ hs u.then in
      let x = head_formed base f u.value g u.first in
      let xs = heads_formed base fs v.value g v.first in
      subst (λ z. HeadsFormed d z × ResultsFormed d (signatures z)) (ok_ok (u.value ∷ v.value) hs v.then) ((x, xs.0), (x.result, xs.1))

-- ---- declarations

names_agree : (base : List Entry) → WellNamed base → NamesAgree base
names_agree base w = record { declared = well_declared base w; formed = good_formed (types_in base) base w.good }

declarations_agree : (t : Tests) → IsRight t → (ds : List Decl) → AreGrown ds → names_rule [] (all_declared ds) ≡ Ok tt →
    DeclarationsAgree t ds
declarations_agree t right ds grown apart =
    let distinct : Distinct (all_declared ds) = distinct_of (all_declared ds) [] apart in
    let labels = grown_labels ds grown in
    let belong : AllBelong t ds = belong_by_forms t right ds
    (λ b w. (no_calls t right ds b w, others_of t right ds b [] true [] w (no_procedures t right ds b w))) in
    let base = names_of_program t ds in
    let all : NamesAgree base = names_agree base (names_good t right ds distinct labels belong) in
    record {
      each_turn = λ n. names_agree (names_after t n ds) (turn_named t right ds distinct labels belong n);
      all = all;
      heads = λ hs h. heads_formed t right (types_in base) all.declared base (funcs_of ds) hs all.formed h;
    }

-- of what is read from files
pub read_agree : (t : Tests) → IsRight t → (files : List File) (ds : List Decl) → AreJudged t.limit files ds →
    names_rule [] (all_declared ds) ≡ Ok tt → DeclarationsAgree t ds
read_agree t right files ds r apart = declarations_agree t right ds (judged_grown t.limit files ds r) apart
