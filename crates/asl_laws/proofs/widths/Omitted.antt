-- In the width of a formal, a run sees the polynomial that the rules see: parameters stand for themselves by the same atoms. So omitted parameters are found alike.
use Rattle.std.proofs.Common.{◌≡◌, ℕ, suc, ◌+◌, Bool, true, false, ◌&&◌, List, [], ◌∷◌, ◌++◌, Option, Some, None, option_map, Ok, refl, sym, ap, ◌∙◌, subst, arith}
use Rattle.std.specs.Prelude.{if◌then◌else◌, not}
use Rattle.std.specs.Str.{bytes_eq}
use Rattle.asl_syn.specs.declared.token.Span.{Span}
use Rattle.asl_syn.specs.declared.code.StaticCode.TheVariants.{T01, T02, T05}
use Rattle.asl_syn.specs.declared.tree.Expr.{Expr}
use Rattle.asl_syn.specs.declared.tree.Param.{Param as WrittenParam}
use Rattle.asl_poly.specs.Terms.{Polynomial}
use Rattle.asl_poly.specs.Poly.{constant_map, atom_map}
use Rattle.asl_rules.specs.Faults.{◌>>◌, need, fault_of}
use Rattle.asl_rules.specs.Tests.{Tests}
use Rattle.asl_rules.specs.types.Types.{Ty, is_integer}
use Rattle.asl_rules.specs.declarations.Scopes.{Entry, Param, Standing, is_local, next_atom, atom_at, standing_of, is_free}
use Rattle.asl_rules.specs.types.Widths.{width_of_standing, width_of_counted}
use Rattle.asl_rules.specs.expressions.Typing.{Width}
use Rattle.asl_rules.specs.values.Members.{has_name}
use Rattle.asl_rules.specs.expressions.Exprs.{width}
use Rattle.asl_rules.specs.types.Alone.{polynomial}
use Rattle.asl_rules.specs.types.Numbers.{Numbers}
use Rattle.asl_rules.specs.runs.Evaluation.{width_over}
use Rattle.asl_rules.specs.declarations.Declarations.{in_names}
use Rattle.asl_rules.specs.declarations.Programs.{params_free, param_written, param_entry, type_or_itself, params_rule}
use Rattle.asl_rules.proofs.basics.Inversions.{ok_ok, err_ok, bind_ok, then_ok, need_ok}
use Rattle.asl_rules.proofs.basics.Tests.{no, some_none, none_some, both, same_name}
use Rattle.asl_rules.proofs.widths.Counting.{standing_kept, standing_new, absent_is}
use Rattle.asl_laws.proofs.widths.PolynomialOf.{AgreesOn, polynomial_is}

-- ---- the names with one more

one_more : (b : Bool) (x y : ℕ) → x ≡ y + 2 → (if b then suc (suc x) else x) ≡ (if b then suc (suc y) else y) + 2
one_more true x y h = omega (arith, h)
one_more false x y h = h

last_one : (b : Bool) → b ≡ true → (if b then suc (suc 0) else 0) ≡ 2
last_one true h = refl
last_one false h = no h

pub atoms_last : (names : List Entry) (e : Entry) → is_local e.standing ≡ true → next_atom (names ++ e ∷ []) ≡ next_atom names + 2
atoms_last [] e l = last_one (is_local e.standing) l
atoms_last (d ∷ ds) e l = one_more (is_local d.standing) (next_atom (ds ++ e ∷ [])) (next_atom ds) (atoms_last ds e l)

none_if : (b : Bool) (x : Standing) (o p : Option Standing) → (if b then Some x else o) ≡ None → (o ≡ None → p ≡ None) → (if b then Some x else p) ≡ None
none_if true x o p h f = some_none x h
none_if false x o p h f = f h

only_none : (b : Bool) (x : Standing) → b ≡ false → (if b then Some x else None) ≡ None
only_none true x h = no (sym h)
only_none false x h = refl

pub none_snoc : (names : List Entry) (e : Entry) (name : List ℕ) → standing_of name names ≡ None → bytes_eq e.name name ≡ false → standing_of name (names ++ e ∷ []) ≡ None
none_snoc [] e name n h = only_none (bytes_eq e.name name) e.standing h
none_snoc (d ∷ ds) e name n h = none_if (bytes_eq d.name name) d.standing (standing_of name ds) (standing_of name (ds ++ e ∷ [])) n (λ k. none_snoc ds e name k h)

module _ (t : Tests) where
  -- a name stands behind parameters for what it stood for before them
  params_kept : (ps : List WrittenParam) (pre : List Param) (names : List Entry) (r : List Param × List Entry) (name : List ℕ) (x : Standing) → standing_of name names ≡ Some x → params_rule t ps pre names ≡ Ok r →
      standing_of name r.1 ≡ Some x
  params_kept [] pre names r name x h k = subst (λ (z : List Param × List Entry). standing_of name z.1 ≡ Some x) (ok_ok (pre, names) r k) h
  params_kept (p ∷ ps) pre names r name x h k =
      let v = bind_ok (param_written t p.ty names) _ r k in
      params_kept ps _ (names ++ param_entry p.name.text v.value (next_atom names) ∷ []) r name x (standing_kept name names (param_entry p.name.text v.value (next_atom names) ∷ []) x h) v.then

  module _ (f : Numbers) where
    -- a parameter
    own_atom : (span : Span) (T : Ty) (n : ℕ) (p : Polynomial) → (need (is_integer T) T05 span >> width_of_counted span (Some (atom_at n)) None) ≡ Ok p → atom_map n ≡ p
    own_atom span T n p h =
        let u = then_ok (need (is_integer T) T05 span) (width_of_counted span (Some (atom_at n)) None) p h in
        ok_ok (atom_map n) p u.then

    params_look : (ps : List WrittenParam) (pre : List Param) (names : List Entry) (r : List Param × List Entry) (span : Span) (name : List ℕ) (p : Polynomial) → standing_of name names ≡ None →
        params_rule t ps pre names ≡ Ok r → width_of_standing span (standing_of name r.1) ≡ Ok p → width_over f ps (next_atom names) name ≡ Some p
    params_look [] pre names r span name p n k h =
        let e : standing_of name r.1 ≡ None = subst (λ (z : List Param × List Entry). standing_of name z.1 ≡ None) (ok_ok (pre, names) r k) n in
        err_ok (fault_of T02 span) p (sym (ap (width_of_standing span) e) ∙ h)
    params_look (q ∷ ps) pre names r span name p n k h = by (bytes_eq q.name.text name) refl (λ more later m l. params_look ps more later r span name p m l h)
      where
        by : (b : Bool) → bytes_eq q.name.text name ≡ b →
            ((more : List Param) (later : List Entry) → standing_of name later ≡ None → params_rule t ps more later ≡ Ok r → width_over f ps (next_atom later) name ≡ Some p) → (if b then Some (atom_map (next_atom names)) else width_over f ps (next_atom names + 2) name) ≡ Some p
        by true e again =
            let v = bind_ok (param_written t q.ty names) _ r k in
            let x : Entry = param_entry q.name.text v.value (next_atom names) in
            let s : q.name.text ≡ name = same_name q.name.text name e in
            let m : standing_of q.name.text (names ++ x ∷ []) ≡ Some x.standing = standing_new names x (subst (λ z. standing_of z names ≡ None) (sym s) n) in
            let l : standing_of name r.1 ≡ Some x.standing = params_kept ps _ (names ++ x ∷ []) r name x.standing (subst (λ z. standing_of z (names ++ x ∷ []) ≡ Some x.standing) s m) v.then in
            ap Some (own_atom span (type_or_itself v.value (next_atom names)) (next_atom names) p (sym (ap (width_of_standing span) l) ∙ h))
        by false e again =
            let v = bind_ok (param_written t q.ty names) _ r k in
            let x : Entry = param_entry q.name.text v.value (next_atom names) in
            subst (λ m. width_over f ps m name ≡ Some p) (atoms_last names x refl)
            (again _ (names ++ x ∷ []) (none_snoc names x name n e) v.then)

    -- a name outside the subprogram
    not_param : (ps : List WrittenParam) (before after : List (List ℕ)) (base : List Entry) (n : ℕ) (name : List ℕ) (x : Standing) → params_free ps before base ≡ Ok after → standing_of name base ≡ Some x →
        width_over f ps n name ≡ option_map constant_map (f name)
    not_param [] before after base n name x h k = refl
    not_param (q ∷ ps) before after base n name x h k = by (bytes_eq q.name.text name) refl (λ more l. not_param ps more after base (n + 2) name x l k)
      where
        by : (b : Bool) → bytes_eq q.name.text name ≡ b → ((more : List (List ℕ)) → params_free ps more base ≡ Ok after → width_over f ps (n + 2) name ≡ option_map constant_map (f name)) → (if b then Some (atom_map n) else width_over f ps (n + 2) name) ≡ option_map constant_map (f name)
        by true e again =
            let u = then_ok (need (is_free q.name.text base && not (has_name q.name.text before)) T01 q.name.span) (params_free ps (before ++ q.name.text ∷ []) base) after h in
            let p = both (is_free q.name.text base) (not (has_name q.name.text before)) (need_ok (is_free q.name.text base && not (has_name q.name.text before)) T01 q.name.span tt u.first) in
            let m : standing_of q.name.text base ≡ None = absent_is (standing_of q.name.text base) p.0 in
            none_some x (sym (subst (λ z. standing_of z base ≡ None) (same_name q.name.text name e) m) ∙ k)
        by false e again =
            let u = then_ok (need (is_free q.name.text base && not (has_name q.name.text before)) T01 q.name.span) (params_free ps (before ++ q.name.text ∷ []) base) after h in
            again (before ++ q.name.text ∷ []) u.then

    -- what is outside bodies has its number
    abbrev pub Outside : List Entry → Type 0
    Outside base = (span : Span) (name : List ℕ) (p : Polynomial) → width_of_standing span (standing_of name base) ≡ Ok p → option_map constant_map (f name) ≡ Some p

    seen_alike : (ps : List WrittenParam) (base : List Entry) (after : List (List ℕ)) (r : List Param × List Entry) → Outside base → params_free ps [] base ≡ Ok after → params_rule t ps [] base ≡ Ok r →
        AgreesOn (λ name. width_over f ps (next_atom base) name) (in_names r.1)
    seen_alike ps base after r o h k span name p w = by (standing_of name base) refl
      where
        by : (s : Option Standing) → standing_of name base ≡ s → width_over f ps (next_atom base) name ≡ Some p
        by None e = params_look ps [] base r span name p e k w
        by (Some x) e =
            not_param ps [] after base (next_atom base) name x h e
            ∙ o span name p (ap (width_of_standing span) (e ∙ sym (params_kept ps [] base r name x e k)) ∙ w)

    -- the width of a formal
    pub formal_width : (ps : List WrittenParam) (base : List Entry) (after : List (List ℕ)) (r : List Param × List Entry) (e : Expr) (w : Width) → Outside base → params_free ps [] base ≡ Ok after → params_rule t ps [] base ≡ Ok r →
        width t e (in_names r.1) ≡ Ok w → polynomial e (λ name. width_over f ps (next_atom base) name) ≡ Some w.poly
    formal_width ps base after r e w o h k q = polynomial_is t (λ name. width_over f ps (next_atom base) name) e (in_names r.1) w (seen_alike ps base after r o h k) q
