-- The parameters of a call, in braces or omitted: a run and the typed tree have the same values, which are the widths that the rules take.
use Rattle.std.proofs.Common.{◌≡◌, ℕ, suc, ◌+◌, Bool, true, false, cond, ◌&&◌, List, [], ◌∷◌, ◌++◌, length, Option, Some, Ok, refl, sym, ap, ◌∙◌, subst, arith, map, append_assoc}
use Rattle.std.specs.Prelude.{◌==◌}
use Rattle.std.specs.Str.{bytes_eq}
use Rattle.asl_syn.specs.declared.token.Span.{Span}
use Rattle.asl_syn.specs.declared.code.StaticCode.TheVariants.{T11}
use Rattle.asl_syn.specs.declared.tree.Expr.{Expr}
use Rattle.asl_syn.specs.declared.tree.Func.{Func}
use Rattle.asl_syn.specs.declared.tree.Param.{Param as WrittenParam}
use Rattle.asl_poly.specs.Terms.{Polynomial}
use Rattle.asl_rules.specs.Faults.{need, found_or}
use Rattle.asl_rules.specs.Tests.{Tests, IsRight}
use Rattle.asl_rules.specs.types.Types.{Parts, kinds, kinds_eq, same_kinds}
use Rattle.asl_rules.specs.types.Closed.{Assignment}
use Rattle.asl_rules.specs.values.Values.{Value}
use Rattle.asl_rules.specs.declarations.Scopes.{Entry, Signature, Param, Chosen, next_atom, choose_from}
use Rattle.asl_rules.specs.types.Alone.{polynomial}
use Rattle.asl_rules.specs.expressions.Typing.{Operand, types_of}
use Rattle.asl_rules.specs.expressions.Calls.{Given, Replacing, replacing, argument_first, given_by_argument, widths_given, widths_omitted, widths_rule, polys, replaced_by}
use Rattle.asl_rules.specs.expressions.Exprs.{found}
use Rattle.asl_rules.specs.declarations.Programs.{Head, param_written, param_entry, params_rule}
use Rattle.asl_rules.specs.types.Numbers.{Numbers, outside}
use Rattle.asl_rules.specs.runs.States.{Core}
use Rattle.asl_rules.specs.private.Agreement.{types_in, GlobalsMatch}
use Rattle.asl_rules.specs.runs.Plans.{Good}
use Rattle.asl_rules.specs.runs.Evaluation.{width_over, params_of}
use Rattle.asl_rules.specs.private.TypedMeaning as bare
use Rattle.asl_rules.proofs.basics.Inversions.{ok_ok, bind_ok, then_ok, need_ok}
use Rattle.asl_rules.proofs.basics.Tests.{both, some_same, none_some}
use Rattle.asl_rules.proofs.values.SameKind.{same_number}
use Rattle.asl_laws.proofs.expressions.Claims.{Here, Asked}
use Rattle.asl_laws.proofs.expressions.TreePlans.{AllAsked, AllGive, append_nil}
use Rattle.asl_rules.specs.private.WellFormed.{ShapedParts}
use Rattle.asl_laws.proofs.values.Routines.{AllIn, AllWide}
use Rattle.asl_laws.proofs.values.Replacing.{behind}
use Rattle.asl_laws.proofs.widths.TypesOver.{Never}
use Rattle.asl_laws.proofs.scopes.OverScope.{IsAtomOf, NamesOver, type_over}
use Rattle.asl_laws.proofs.widths.Omitted.{formal_width}
use Rattle.asl_laws.proofs.expressions.CallForms.{widths_asked}
use Rattle.asl_laws.proofs.calls.OwnFrames.{integers_of, follows}
use Rattle.asl_laws.proofs.calls.OwnArguments.{AtomsFrom, Paired, same_at}
use Rattle.asl_laws.proofs.calls.OwnBodies.{params_atoms}
use Rattle.asl_laws.proofs.calls.OwnChosen.{HeadIs, outside_is, types_back}
use Rattle.asl_laws.proofs.calls.OwnOmitted.{AsMany, omitted_same}

-- ---- the written parameters are as many as those of the signature

record Behind (ps : List WrittenParam) (pre all : List Param) : Type 0 where
  pub rest : List Param
  pub is : pre ++ rest ≡ all
  pub many : AsMany ps rest

params_behind : (t : Tests) (ps : List WrittenParam) (pre : List Param) (names : List Entry) (r : List Param × List Entry) → params_rule t ps pre names ≡ Ok r → Behind ps pre r.0
params_behind t [] pre names r h = record { rest = []; is = append_nil pre ∙ ap (λ (z : List Param × List Entry). z.0) (ok_ok (pre, names) r h); many = tt }
params_behind t (p ∷ ps) pre names r h =
    let v = bind_ok (param_written t p.ty names) _ r h in
    let q : Param = record { atom = next_atom names; ty = v.value } in
    let k = params_behind t ps (pre ++ q ∷ []) (names ++ param_entry p.name.text v.value (next_atom names) ∷ []) r v.then in
    record { rest = q ∷ k.rest; is = sym (append_assoc pre (q ∷ []) k.rest) ∙ k.is; many = k.many }

pub params_many : (t : Tests) (ps : List WrittenParam) (base : List Entry) (r : List Param × List Entry) → params_rule t ps [] base ≡ Ok r → AsMany ps r.0
params_many t ps base r h = let k = params_behind t ps [] base r h in subst (AsMany ps) k.is k.many

-- ---- each parameter has a width

some_more : (n : ℕ) → suc n ≡ 0 → ⊥
some_more n h = omega (arith, h)

one_less : (m n : ℕ) → suc m ≡ suc n → m ≡ n
one_less m n h = omega (arith, h)

pub paired_by : (qs : List Param) (gs : List Given) → length (polys gs) ≡ length qs → Paired qs gs
paired_by [] [] h = tt
paired_by [] (g ∷ gs) h = absurd (some_more (length (polys gs)) h)
paired_by (q ∷ qs) [] h = absurd (some_more (length qs) (sym h))
paired_by (q ∷ qs) (g ∷ gs) h = paired_by qs gs (one_less (length (polys gs)) (length qs) h)

record IsOmitted (qs : List Param) (r : Replacing) : Type 0 where
  pub paired : Paired qs r.given
  pub no_trees : r.trees ≡ []

is_omitted : (span : Span) (qs : List Param) (Ts : Parts) (os : List Operand) (r : Replacing) → widths_omitted span qs Ts os ≡ Ok r → IsOmitted qs r
is_omitted span [] Ts os r h = subst (IsOmitted []) (ok_ok (replacing [] [] []) r h) (record { paired = tt; no_trees = refl })
is_omitted span (q ∷ qs) Ts os r h =
    let u = bind_ok (found_or (given_by_argument q.atom 0 Ts os) T11 span) _ r h in
    let s = bind_ok (widths_omitted span qs Ts os) _ r u.then in
    let k = is_omitted span qs Ts os s.value s.first in
    subst (IsOmitted (q ∷ qs)) (ok_ok (argument_first u.value.given u.value.place s.value) r s.then) (record { paired = k.paired; no_trees = k.no_trees })

-- widths in braces stand for themselves
record InBraces (span : Span) (o : Numbers) (f : Func) (places : List ℕ) (ys xs : List Value) : Type 0 where
  pub run_is : params_of span o f ys xs ≡ Good ys
  pub tree_is : bare.params_of span places ys xs ≡ Good ys

in_braces : (a : Assignment) (span : Span) (o : Numbers) (f : Func) (places : List ℕ) (ps : List Polynomial) (ys xs : List Value) (n : ℕ) → AllWide a ps ys → length ps ≡ suc n → InBraces span o f places ys xs
in_braces a span o f places [] [] xs n w h = absurd (some_more n (sym h))
in_braces a span o f places [] (y ∷ ys) xs n w h = absurd w
in_braces a span o f places (p ∷ ps) [] xs n w h = absurd w
in_braces a span o f places (p ∷ ps) (y ∷ ys) xs n w h = record { run_is = refl; tree_is = refl }

-- the subprogram that is chosen has formals of the kinds of the arguments
same_by : (b d : Bool) (n : ℕ) (f : Signature) (Ts : Parts) (o : Option Chosen) (c : Chosen) → (d && same_kinds f.formals Ts) ≡ b → (o ≡ Some c → same_kinds c.signature.formals Ts ≡ true) → cond b (Some (record { number = n; signature = f })) o ≡ Some c → same_kinds c.signature.formals Ts ≡ true
same_by true d n f Ts o c e next h = subst (λ (z : Chosen). same_kinds z.signature.formals Ts ≡ true) (some_same (record { number = n; signature = f }) c h) (both d (same_kinds f.formals Ts) e).1
same_by false d n f Ts o c e next h = next h

pub chosen_same : (n : ℕ) (name : List ℕ) (Ts : Parts) (fs : List Signature) (c : Chosen) → choose_from n name Ts fs ≡ Some c → same_kinds c.signature.formals Ts ≡ true
chosen_same n name Ts [] c h = none_some c h
chosen_same n name Ts (f ∷ fs) c h = same_by (bytes_eq f.name name && same_kinds f.formals Ts) (bytes_eq f.name name) n f Ts (choose_from (suc n) name Ts fs) c refl (λ k. chosen_same (suc n) name Ts fs c k) h

-- the parameters of a call: for a run, for its typed tree, and at the integers of the frame
pub record ParamsSo (a : Assignment) (span : Span) (f : Func) (qs : List Param) (r : Replacing) (ys xs : List Value) (c : Core) : Type 0 where
  pub params : List Value
  pub params_are : params_of span (outside c) f ys xs ≡ Good params
  pub widths_are : bare.params_of span r.places ys xs ≡ Good params
  pub wide : AllWide a (polys r.given) params
  pub same : (n : ℕ) → IsAtomOf qs n → behind (replaced_by qs r.given) a n ≡ integers_of (params ++ xs) n

frame_at : (a : Assignment) (qs : List Param) (gs : List Given) (ps xs : List Value) → AtomsFrom 0 qs → Paired qs gs →
    AllWide a (polys gs) ps → (n : ℕ) → IsAtomOf qs n → behind (replaced_by qs gs) a n ≡ integers_of (ps ++ xs) n
frame_at a qs gs ps xs t p w n i = same_at a (integers_of (ps ++ xs)) 0 qs gs ps xs t p w (follows (integers_of (ps ++ xs)) 0 (ps ++ xs) (λ m. ap (integers_of (ps ++ xs)) (nothing_more m))) n i
  where
    nothing_more : (m : ℕ) → m + 0 ≡ m
    nothing_more m = omega arith

module _ (tests : Tests) (right : IsRight tests) (base : List Entry) (subs : List Signature) (loose : Bool) where
  -- the head of a signature
  signature_of : (f : Func) (h : Head) (s : Signature) (i : HeadIs tests base f h) → h.signature ≡ s → (i.params.0 ≡ s.params) × (i.formals ≡ s.formals)
  signature_of f h s i e = (ap (λ (z : Head). z.signature.params) i.is ∙ ap (λ (z : Signature). z.params) e, ap (λ (z : Head). z.signature.formals) i.is ∙ ap (λ (z : Signature). z.formals) e)

  atoms_of : (f : Func) (h : Head) (s : Signature) → next_atom base ≡ 0 → HeadIs tests base f h → h.signature ≡ s → AtomsFrom 0 s.params
  atoms_of f h s z i e = subst (AtomsFrom 0) (signature_of f h s i e).0 (params_atoms tests f.params base i.params z i.params_are)

  -- parameters of a call, asked for where they are in braces; and what they are where the arguments have their types
  pub record ParamsAsked (H : Here) (span : Span) (s : Signature) (es : List Expr) (os : List Operand) (r : Replacing) : Type 0 where
    pub asked : List Asked
    pub asks : AllAsked tests right base subs loose H.scope es r.trees asked
    pub paired : Paired s.params r.given
    pub gives : (f : Func) (h : Head) (ys xs : List Value) (c : Core) → HeadIs tests base f h → h.signature ≡ s → GlobalsMatch base c.globals → AllGive tests right base subs loose H asked ys → AllIn (types_in base) H.present (types_of os) xs → ParamsSo H.present span f s.params r ys xs c

  omitted_params : (H : Here) (span : Span) (s : Signature) (os : List Operand) (r : Replacing) → next_atom base ≡ 0 →
      NamesOver Never base → kinds_eq (kinds s.formals) (kinds (types_of os)) ≡ true → ShapedParts (types_in base) (types_of os) →
      widths_omitted span s.params s.formals os ≡ Ok r →
      (f : Func) (h : Head) (ys xs : List Value) (c : Core) → HeadIs tests base f h → h.signature ≡ s → GlobalsMatch base c.globals → AllGive tests right base subs loose H [] ys → AllIn (types_in base) H.present (types_of os) xs → ParamsSo H.present span f s.params r ys xs c
  omitted_params H span s os r z g k t o f h (y ∷ ys) xs c i e m v x = absurd v
  omitted_params H span s os r z g k t o f h [] xs c i e m v x =
      let p = width_over (outside c) f.params 0 in
      let q = signature_of f h s i e in
      let d = omitted_same tests right (types_in base) H.present p i.params.1
      (λ b w j. subst (λ n. polynomial b (λ name. width_over (outside c) f.params n name) ≡ Some w.poly) z (formal_width tests (outside c) f.params base i.before i.params b w (outside_is tests base c m) i.params_new i.params_are j))
      (λ name T j. type_over Never tests base name T g (types_back tests f.params [] base i.params name T i.params_are j))
      span 0 f.params i.params.0 f.formals i.formals os xs r (params_many tests f.params base i.params i.params_are) (params_atoms tests f.params base i.params z i.params_are) i.formals_are
      (subst (λ Ts. kinds_eq (kinds Ts) (kinds (types_of os)) ≡ true) (sym q.1) k) x t
      (subst (λ Ts. widths_omitted span i.params.0 Ts os ≡ Ok r) (sym q.1) (subst (λ ps. widths_omitted span ps s.formals os ≡ Ok r) (sym q.0) o)) in
      record { params = d.values; params_are = d.run_is; widths_are = d.tree_is; wide = d.wide; same = frame_at H.present s.params r.given d.values xs (atoms_of f h s z i e) (subst (λ ps. Paired ps r.given) q.0 d.paired) d.wide }

  pub params_asked : (H : Here) (span : Span) (s : Signature) (es : List Expr) (os : List Operand) (r : Replacing) → next_atom base ≡ 0 →
      NamesOver Never base → kinds_eq (kinds s.formals) (kinds (types_of os)) ≡ true → ShapedParts (types_in base) (types_of os) →
      widths_rule span s (map (found tests) es) os H.scope ≡ Ok r → ParamsAsked H span s es os r
  params_asked H span s [] os r z g k t h =
      let o = is_omitted span s.params s.formals os r h in
      record { asked = []; asks = subst (λ ts. AllAsked tests right base subs loose H.scope [] ts []) (sym o.no_trees) tt; paired = o.paired; gives = omitted_params H span s os r z g k t h }
  params_asked H span s (b ∷ es) os r z g k t h =
      let u = then_ok (need (length (map (found tests) (b ∷ es)) == length s.params) T11 span) (widths_given (map (found tests) (b ∷ es)) H.scope) r h in
      let q = widths_asked tests right base subs loose H (b ∷ es) r u.then in
      let n = same_number (length (map (found tests) (b ∷ es))) (length s.params) (need_ok (length (map (found tests) (b ∷ es)) == length s.params) T11 span tt u.first) in
      let p = paired_by s.params r.given (q.as_many ∙ n) in
      record {
        asked = q.asked;
        asks = q.asks;
        paired = p;
        gives = λ f d ys xs c i e m v x.
            let wide = q.wide ys v in
            let y = in_braces H.present span (outside c) f r.places (polys r.given) ys xs (length (map (found tests) es)) wide q.as_many in
            record { params = ys; params_are = y.run_is; widths_are = y.tree_is; wide = wide; same = frame_at H.present s.params r.given ys xs (atoms_of f d s z i e) p wide };
      }
