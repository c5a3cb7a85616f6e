-- The lines of a program go well exactly where it is well formed with no entry; so the law of certificates.
use Rattle.std.proofs.Common.{◌≡◌, ℕ, Bool, true, false, List, [], ◌∷◌, ◌++◌, map, None, Result, Ok, Err, refl, sym, ap, ◌∙◌, subst}
use Rattle.asl_syn.specs.declared.code.Fault.{Fault}
use Rattle.asl_syn.specs.declared.code.StaticCode.TheVariants.{T17}
use Rattle.asl_syn.specs.declared.tree.Decl.{Decl}
use Rattle.asl_rules.specs.declared.effect.Effect.TheVariants.{Pure}
use Rattle.asl_rules.specs.declared.entry.Entry.TheVariants as entry
use Rattle.asl_rules.specs.Faults.{◌>>=◌, ◌>>◌, need}
use Rattle.asl_rules.specs.report.Texts.{Text}
use Rattle.asl_rules.specs.Tests.{Tests, IsRight}
use Rattle.asl_rules.specs.runs.Trees.{TreeFunc}
use Rattle.asl_rules.specs.declarations.Names.{names_rule, all_declared}
use Rattle.asl_rules.specs.declarations.Uses.{cycles_rule}
use Rattle.asl_rules.specs.declarations.Scopes.{Signature}
use Rattle.asl_rules.specs.declarations.Turns.{globals_rule}
use Rattle.asl_rules.specs.statements.Acting.{in_order}
use Rattle.asl_rules.specs.statements.Stmts.{found_stmt}
use Rattle.asl_rules.specs.declarations.Programs.{Accepted, Head, accepted, entries, funcs_of, signatures, signatures_rule, overloads_rule, may_end}
use Rattle.asl_rules.specs.declarations.Programs.{body_of, tree_func, body_rule, bodies_rule, entry_rule, verdict}
use Rattle.asl_rules.proofs.basics.Inversions.{bind_ok, then_ok, need_ok, ok_ok}
use Rattle.asl_laws.proofs.verdict.OneVerdict.{one_test}
use Rattle.asl_laws.specs.certificates.Texts.{body_line}
use Rattle.asl_laws.specs.certificates.Lines.{Lined, ◌and◌, one_line, list_lines, with_inside, ends, body_lines, bodies_lines}
use Rattle.asl_laws.specs.certificates.Certificates.{Stage, asks, says, heads_of, stages_of_heads, stages_of, stages, certificate, verified}
use Rattle.asl_laws.specs.certificates.Certificates.{AllGo, AllWell, CertificateLaw, AllOk, CertificateOk, OneCertificate}
use Rattle.asl_laws.proofs.certificates.Lines.{err_isnt, verified_ok, verified_is}
use Rattle.asl_laws.proofs.certificates.Statements.{and_goes, into_ok, list_goes_well, list_is_well}

module _ (t : Tests) where
  -- ---- bodies

  ends_ok : (b : Bool) → (ends b).outcome ≡ Ok tt → b ≡ true
  ends_ok true h = refl
  ends_ok false h = err_isnt _ tt h

  abbrev first_of : Head → Lined (Unit {0})
  first_of h = one_line (body_line h.func.name.text) tt

  abbrev rest_of : List Signature → Head → Lined (Unit {0})
  rest_of subs h = list_lines t (with_inside t h.func.body) (body_of subs h) and ends (may_end h.signature.result h.func)

  body_goes : (subs : List Signature) (h : Head) (f : TreeFunc) → body_rule t subs h ≡ Ok f → (body_lines t subs h).outcome ≡ Ok tt
  body_goes subs h f e =
      let l = bind_ok (in_order (map (found_stmt t) h.func.body) Pure (body_of subs h)) _ f e in
      let n = then_ok (need (may_end h.signature.result h.func) T17 h.func.name.span) _ f l.then in
      and_goes (first_of h) (rest_of subs h) tt refl
      (and_goes (list_lines t (with_inside t h.func.body) (body_of subs h)) (ends (may_end h.signature.result h.func)) tt
      (list_goes_well t h.func.body Pure (body_of subs h) l.value l.first)
      (ap (λ b. (ends b).outcome) (need_ok (may_end h.signature.result h.func) T17 h.func.name.span tt n.first)))

  body_is_well : (subs : List Signature) (h : Head) → (body_lines t subs h).outcome ≡ Ok tt → (f : TreeFunc) × (body_rule t subs h ≡ Ok f)
  body_is_well subs h e =
      let a = into_ok (first_of h) (λ _. rest_of subs h) tt e in
      let b = into_ok (list_lines t (with_inside t h.func.body) (body_of subs h)) (λ _. ends (may_end h.signature.result h.func)) tt
      a.then in
      let l = list_is_well t h.func.body Pure (body_of subs h) b.first in (
        tree_func h l.0.acts,
        ap (λ r. r >>= λ l. need (may_end h.signature.result h.func) T17 h.func.name.span >> Ok (tree_func h l.acts)) l.1 ∙
            ap (λ c. need c T17 h.func.name.span >> Ok (tree_func h l.0.acts)) (ends_ok (may_end h.signature.result h.func) b.then),
      )

  bodies_go : (subs : List Signature) (hs : List Head) (fs : List TreeFunc) → bodies_rule t subs hs ≡ Ok fs →
      (bodies_lines t subs hs).outcome ≡ Ok tt
  bodies_go subs [] fs e = refl
  bodies_go subs (h ∷ hs) fs e =
      let a = bind_ok (body_rule t subs h) _ fs e in
      let b = bind_ok (bodies_rule t subs hs) _ fs a.then in
      and_goes (body_lines t subs h) _ tt (body_goes subs h a.value a.first) (bodies_go subs hs b.value b.first)

  bodies_are_well : (subs : List Signature) (hs : List Head) → (bodies_lines t subs hs).outcome ≡ Ok tt →
      (fs : List TreeFunc) × (bodies_rule t subs hs ≡ Ok fs)
  bodies_are_well subs [] e = ([], refl)
  bodies_are_well subs (h ∷ hs) e =
      let a = into_ok (body_lines t subs h) (λ _. bodies_lines t subs hs) tt e in
      let b = body_is_well subs h a.first in
      let c = bodies_are_well subs hs a.then in
      (b.0 ∷ c.0, ap (λ r. r >>= λ f. bodies_rule t subs hs >>= λ fs. Ok (f ∷ fs)) b.1 ∙ ap (λ r. r >>= λ fs. Ok (b.0 ∷ fs)) c.1)

  -- ---- programs

  pub well_goes : (ds : List Decl) (a : Accepted) → verdict entry.None ds t ≡ Ok a → AllGo (stages_of t ds)
  unfolding verdict
  well_goes ds a h =
      let n = then_ok (names_rule [] (all_declared ds)) _ a h in
      let c = then_ok (cycles_rule ds ds) _ a n.then in
      let g = bind_ok (globals_rule t ds) _ a c.then in
      let s = bind_ok (signatures_rule t g.value (funcs_of ds)) _ a g.then in
      let o = then_ok (overloads_rule [] s.value) _ a s.then in
      let b = bind_ok (bodies_rule t (signatures s.value) s.value) _ a o.then in
      let k : heads_of t ds ≡ Ok s.value =
      ap (λ r. r >> cycles_rule ds ds >> globals_rule t ds >>= λ names. signatures_rule t names (funcs_of ds) >>= λ hs. overloads_rule [] hs
      >> Ok hs) n.first ∙
      (ap (λ r. r >> globals_rule t ds >>= λ names. signatures_rule t names (funcs_of ds) >>= λ hs. overloads_rule [] hs >> Ok hs) c.first ∙
      (ap (λ r. r >>= λ names. signatures_rule t names (funcs_of ds) >>= λ hs. overloads_rule [] hs >> Ok hs) g.first ∙
      (ap (λ r. r >>= λ hs. overloads_rule [] hs >> Ok hs) s.first ∙ ap (λ r. r >> Ok s.value) o.first))) in
      subst (λ r. AllGo (stages_of_heads t r)) (sym k) (bodies_go (signatures s.value) s.value b.value b.first, tt)

  abbrev Heads : List Decl → Type 0
  Heads ds = (hs : List Head) × ((heads_of t ds ≡ Ok hs) × ((bodies_lines t (signatures hs) hs).outcome ≡ Ok tt))

  heads_go : (ds : List Decl) (r : Result (List Head) Fault) → heads_of t ds ≡ r → AllGo (stages_of_heads t r) → Heads ds
  heads_go ds (Err f) e g = err_isnt f tt g.0
  heads_go ds (Ok hs) e g = (hs, (e, g.0))

  pub goes_well : (ds : List Decl) → AllGo (stages_of t ds) → (a : Accepted) × (verdict entry.None ds t ≡ Ok a)
  unfolding verdict
  goes_well ds g =
      let q = heads_go ds (heads_of t ds) refl g in
      let hs = q.0 in
      let n = then_ok (names_rule [] (all_declared ds)) _ hs q.1.0 in
      let c = then_ok (cycles_rule ds ds) _ hs n.then in
      let g = bind_ok (globals_rule t ds) _ hs c.then in
      let s = bind_ok (signatures_rule t g.value (funcs_of ds)) _ hs g.then in
      let o = then_ok (overloads_rule [] s.value) (Ok s.value) hs s.then in
      let same : s.value ≡ hs = ok_ok s.value hs o.then in
      let b = bodies_are_well (signatures s.value) s.value
      (subst (λ (hs : List Head). (bodies_lines t (signatures hs) hs).outcome ≡ Ok tt) (sym same) q.1.1) in (
        accepted entry.None (entries None None) (signatures s.value) b.0 g.value,
        ap (λ r. r >> cycles_rule ds ds >> globals_rule t ds >>= λ names. signatures_rule t names (funcs_of ds)
            >>= λ hs. overloads_rule [] hs >> bodies_rule t (signatures hs) hs >>= λ trees. entry_rule entry.None (signatures hs)
            >>= λ main. Ok (accepted entry.None main (signatures hs) trees names)) n.first ∙
            (ap (λ r. r >> globals_rule t ds >>= λ names. signatures_rule t names (funcs_of ds) >>= λ hs. overloads_rule [] hs
            >> bodies_rule t (signatures hs) hs >>= λ trees. entry_rule entry.None (signatures hs)
            >>= λ main. Ok (accepted entry.None main (signatures hs) trees names)) c.first ∙
            (ap (λ r. r >>= λ names. signatures_rule t names (funcs_of ds) >>= λ hs. overloads_rule [] hs
            >> bodies_rule t (signatures hs) hs >>= λ trees. entry_rule entry.None (signatures hs)
            >>= λ main. Ok (accepted entry.None main (signatures hs) trees names)) g.first ∙
            (ap (λ r. r >>= λ hs. overloads_rule [] hs >> bodies_rule t (signatures hs) hs
            >>= λ trees. entry_rule entry.None (signatures hs) >>= λ main. Ok (accepted entry.None main (signatures hs) trees g.value))
            s.first ∙
            (ap (λ r. r >> bodies_rule t (signatures s.value) s.value >>= λ trees. entry_rule entry.None (signatures s.value)
            >>= λ main. Ok (accepted entry.None main (signatures s.value) trees g.value)) o.first ∙
            ap (λ r. r >>= λ trees. entry_rule entry.None (signatures s.value)
            >>= λ main. Ok (accepted entry.None main (signatures s.value) trees g.value)) b.1)))),
      )

  both_go : (ss ms : List Stage) → AllGo ss → AllGo ms → AllGo (ss ++ ms)
  both_go [] ms g h = h
  both_go (asks r ∷ ss) ms g h = (g.0, both_go ss ms g.1 h)
  both_go (says l ∷ ss) ms g h = (g.0, both_go ss ms g.1 h)

  each_goes : (ss ms : List Stage) → AllGo (ss ++ ms) → AllGo ss × AllGo ms
  each_goes [] ms g = (tt, g)
  each_goes (asks r ∷ ss) ms g = let k = each_goes ss ms g.1 in ((g.0, k.0), k.1)
  each_goes (says l ∷ ss) ms g = let k = each_goes ss ms g.1 in ((g.0, k.0), k.1)

  pub all_go : (programs : List (List Decl)) → AllWell t programs → AllGo (stages t programs)
  all_go [] w = tt
  all_go (ds ∷ more) w = both_go (stages_of t ds) (stages t more) (well_goes ds w.0.0 w.0.1) (all_go more w.1)

  all_well : (programs : List (List Decl)) → AllGo (stages t programs) → AllWell t programs
  all_well [] g = tt
  all_well (ds ∷ more) g = let k = each_goes (stages_of t ds) (stages t more) g in (goes_well ds k.0, all_well more k.1)

  pub certificates : (programs : List (List Decl)) (bytes : Text) (k : ℕ) → CertificateLaw t programs bytes k
  unfolding verified
  certificates programs bytes k = record {
    sound = λ h. let p = verified_ok (stages t programs) bytes k h in (all_well programs p.0, p.1);
    complete = λ w h. verified_is (stages t programs) bytes (all_go programs w) h;
  }

-- ---- right tests

module _ (t : Tests) (right : IsRight t) where
  are_ok : (programs : List (List Decl)) → AllWell t programs → AllOk t.limit programs
  are_ok [] w = tt
  are_ok (ds ∷ more) w = ((w.0.0, record { tests = t; right = right; within = refl; is = w.0.1 }), are_ok more w.1)

  are_well : (programs : List (List Decl)) → AllOk t.limit programs → AllWell t programs
  are_well [] w = tt
  are_well (ds ∷ more) w = let p = w.0.1 in
      ((w.0.0, subst (λ u. verdict entry.None ds u ≡ Ok w.0.0) (one_test p.tests t p.right right p.within) p.is), are_well more w.1)

  pub certificates_ok : (programs : List (List Decl)) (bytes : Text) (k : ℕ) → CertificateOk t programs bytes k
  certificates_ok programs bytes k =
      let c = certificates t programs bytes k in
      record { sound = λ h. let p = c.sound h in (are_ok programs p.0, p.1); complete = λ w h. c.complete (are_well programs w) h }

pub one_certificate : (t u : Tests) → IsRight t → IsRight u → t.limit ≡ u.limit → (programs : List (List Decl)) (bytes : Text) →
    OneCertificate t u programs bytes
one_certificate t u p q l programs bytes = let e = one_test t u p q l in
    record { one = ap (λ v. certificate v programs) e; verdict_is = ap (λ v. verified v programs bytes) e }
