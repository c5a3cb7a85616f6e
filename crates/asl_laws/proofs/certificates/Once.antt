-- An expression that is judged once as a whole has the lines of its sites; and bodies of which each list is gone through once.
use Rattle.std.proofs.Common.{◌≡◌, Bool, true, false, List, [], ◌∷◌, ◌++◌, Result, Ok, Err, refl, sym, ap, ◌∙◌}
use Rattle.asl_syn.specs.declared.code.Fault.{Fault}
use Rattle.asl_syn.specs.declared.code.StaticCode.TheVariants.{T17}
use Rattle.asl_syn.specs.declared.tree.Expr.{Expr}
use Rattle.asl_syn.specs.declared.tree.Stmt.{Stmt}
use Rattle.asl_rules.specs.declared.effect.Effect.TheVariants.{Pure}
use Rattle.asl_rules.specs.Faults.{◌>>=◌, ◌>>◌, need}
use Rattle.asl_rules.specs.Tests.{Tests}
use Rattle.asl_rules.specs.declarations.Scopes.{Scope, Body, Signature}
use Rattle.asl_rules.specs.expressions.Typing.{Typed}
use Rattle.asl_rules.specs.expressions.Exprs.{typed, expr_span}
use Rattle.asl_rules.specs.statements.Acting.{FoundStmt, in_order}
use Rattle.asl_rules.specs.declarations.Programs.{Head, body_of, may_end, tree_func, body_rule}
use Rattle.asl_laws.proofs.basics.Lists.{AllOf}
use Rattle.asl_laws.specs.certificates.Texts.{Line, of_expr, body_line}
use Rattle.asl_laws.specs.certificates.Lines.{Lined, Failure, lined, gives, fails, at_next, one_line, after, ◌into◌, ◌and◌, site}
use Rattle.asl_laws.specs.certificates.Lines.{inside_expr, expr_sites, site_lines, list_lines, with_inside, ends}
use Rattle.asl_laws.specs.certificates.TreeLines.{expr_lines, expr_by, OnceLaw}
use Rattle.asl_laws.specs.certificates.Walks.{list_walk, with_walk, body_walk, StmtWalkLaw, ListWalkLaw, BodyWalkLaw}
use Rattle.asl_laws.proofs.certificates.Lines.{err_isnt, ok_is}
use Rattle.asl_laws.proofs.certificates.Sites.{Goes, expr_sites_go}
use Rattle.asl_laws.proofs.certificates.Statements.{into_ok, sites_go, sites_ok}
use Rattle.asl_laws.proofs.certificates.TreeLines.{read_lines}
use Rattle.asl_laws.proofs.certificates.Walks.{into_into, into_gives, into_same, one_walk, one_walk_found, one_list_walk, one_list_found}

append_none : {A : Type 0} (xs : List A) → xs ++ [] ≡ xs
append_none [] = refl
append_none (x ∷ xs) = ap (λ z. x ∷ z) (append_none xs)

after_never : (ls : List Line) (o : Result (Unit {0}) Failure) (f : Unit {0} → Lined (Unit {0})) → (o ≡ Ok tt → ⊥) →
    after ls o f ≡ lined ls o
after_never ls (Ok x) f n = absurd (n refl)
after_never ls (Err e) f n = refl

after_fails : {A : Type 0} (ls : List Line) (o : Result (Unit {0}) Failure) (p : Failure) (x : A) →
    (after ls o (λ u. let l : Lined A = fails p in l)).outcome ≡ Ok x → ⊥
after_fails ls (Ok u) p x h = err_isnt p x h
after_fails ls (Err e) p x h = err_isnt e x h

last_of : {X : Type 0} (P : X → Type 0) (xs : List X) (y : X) → AllOf P (xs ++ y ∷ []) → P y
last_of P [] y h = h.0
last_of P (x ∷ xs) y h = last_of P xs y h.1

module _ (t : Tests) (e : Expr) (G : Scope) where
  -- where the rule of the expression fails, so do its sites
  sites_fail : (f : Fault) → typed t e G ≡ Err f → (site_lines t (expr_sites e) G).outcome ≡ Ok tt → ⊥
  sites_fail f h k = let g = last_of (Goes t G) (inside_expr e) (site e) (sites_ok t (expr_sites e) G k) in
      err_isnt f g.gives (sym h ∙ g.is)

  lines_by : (r : Result Typed Fault) → typed t e G ≡ r → (expr_by t e G r into (λ S. gives tt)) ≡ site_lines t (expr_sites e) G
  lines_by (Ok S) h =
      let p : expr_lines t e S.tree G ++ [] ≡ (site_lines t (expr_sites e) G).lines =
      append_none (expr_lines t e S.tree G) ∙ sym (read_lines t e G S h) in
      let q : Ok tt ≡ (site_lines t (expr_sites e) G).outcome = sym (sites_go t (expr_sites e) G (expr_sites_go t e G S h)) in
      λ i. lined (p i) (q i)
  lines_by (Err f) h =
      into_into (site_lines t (expr_sites e) G) (λ u. let l : Lined Typed = fails (at_next (of_expr (expr_span e))) in l) (λ S. gives tt) ∙
      after_never (site_lines t (expr_sites e) G).lines (site_lines t (expr_sites e) G).outcome
      (λ u. (let l : Lined Typed = fails (at_next (of_expr (expr_span e))) in l) into (λ S. gives tt)) (sites_fail f h)

  gives_by : (r : Result Typed Fault) (S : Typed) →
      ((expr_by t e G r).outcome ≡ Ok S → r ≡ Ok S) × (r ≡ Ok S → (expr_by t e G r).outcome ≡ Ok S)
  gives_by (Ok T) S = (λ h. ap Ok (ok_is T S h), λ h. ap Ok (ok_is T S h))
  gives_by (Err f) S = (
    λ h.
        absurd (after_fails (site_lines t (expr_sites e) G).lines (site_lines t (expr_sites e) G).outcome
        (at_next (of_expr (expr_span e))) S
        h),
    λ h. err_isnt f S h,
  )

  pub once : OnceLaw t e G
  once = record { lines_are = lines_by (typed t e G) refl; gives_are = λ S. gives_by (typed t e G) S }

pub stmt_walks : (t : Tests) (s : Stmt) (B : Body) → StmtWalkLaw t s B
stmt_walks t s B = record { lines_are = one_walk t s B; finds = one_walk_found t s B }

pub list_walks : (t : Tests) (ss : List Stmt) (B : Body) → ListWalkLaw t ss B
list_walks t ss B = record { lines_are = one_list_walk t ss B; finds = one_list_found t ss B }

module _ (t : Tests) (subs : List Signature) (h : Head) where
  ends_ok : (b : Bool) → (ends b).outcome ≡ Ok tt → b ≡ true
  ends_ok true k = refl
  ends_ok false k = err_isnt _ tt k

  abbrev walk_in : Lined (List FoundStmt)
  walk_in = list_walk t (with_walk t h.func.body) (body_of subs h)

  abbrev end_in : Lined (Unit {0})
  end_in = ends (may_end h.signature.result h.func)

  abbrev begin_in : Lined (Unit {0})
  begin_in = one_line (body_line h.func.name.text) tt

  abbrev rest_in : Lined (List FoundStmt)
  rest_in = walk_in into (λ zs. end_in and gives zs)

  rest_lines : (rest_in into (λ (zs : List FoundStmt). gives tt)) ≡ (list_lines t (with_inside t h.func.body) (body_of subs h) and end_in)
  rest_lines =
      into_into walk_in (λ zs. end_in and gives zs) (λ zs. gives tt) ∙
      (into_same walk_in (λ zs. (end_in and gives zs) into (λ (ys : List FoundStmt). gives tt)) (λ zs. end_in)
      (λ zs e. into_into end_in (λ _. gives zs) (λ ys. gives tt) ∙ into_gives end_in) ∙
      (sym (into_into walk_in (λ zs. gives tt) (λ _. end_in)) ∙ ap (λ l. l and end_in) (one_list_walk t h.func.body (body_of subs h))))

  body_finds : (zs : List FoundStmt) → (body_walk t subs h).outcome ≡ Ok zs →
      body_rule t subs h ≡ (in_order zs Pure (body_of subs h) >>= λ l. Ok (tree_func h l.acts))
  body_finds zs k =
      let a = into_ok begin_in (λ _. rest_in) zs k in
      let b = into_ok walk_in (λ zs. end_in and gives zs) zs a.then in
      let c = into_ok end_in (λ _. gives b.value) zs b.then in
      let same : b.value ≡ zs = ok_is b.value zs c.then in
      ap (λ r. r >>= λ l. need (may_end h.signature.result h.func) T17 h.func.name.span >> Ok (tree_func h l.acts))
      (sym (one_list_found t h.func.body (body_of subs h) b.value Pure b.first)) ∙
      (ap (λ ys. in_order ys Pure (body_of subs h) >>= λ l. need (may_end h.signature.result h.func) T17 h.func.name.span
      >> Ok (tree_func h l.acts)) same ∙
      ap (λ x. in_order zs Pure (body_of subs h) >>= λ l. need x T17 h.func.name.span >> Ok (tree_func h l.acts))
      (ends_ok (may_end h.signature.result h.func) c.first))

  pub body_walks : BodyWalkLaw t subs h
  body_walks = record {
    lines_are = into_into begin_in (λ _. rest_in) (λ zs. gives tt) ∙ ap (λ l. begin_in and l) rest_lines;
    finds = body_finds;
  }
