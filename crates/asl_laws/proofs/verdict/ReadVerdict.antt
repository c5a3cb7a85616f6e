-- The verdict on what is read goes step by step: the bodies that replace others, the program with those that may be replaced, and the one with those that
-- replace them.
use Rattle.std.proofs.Common.{◌≡◌, ◌⊎◌, inl, inr, Bool, true, false, not, if◌then◌else◌, List, [], ◌∷◌, ◌++◌, Option, Some, None, Result, Ok, Err, refl, ap, ◌∙◌, subst}
use Rattle.asl_syn.specs.declared.token.Span.{Span}
use Rattle.asl_syn.specs.declared.code.Fault.{Fault}
use Rattle.asl_syn.specs.declared.code.StaticCode.{StaticCode}
use Rattle.asl_syn.specs.declared.code.StaticCode.TheVariants.{T26, T27}
use Rattle.asl_syn.specs.declared.read.ReadDecl.{ReadDecl}
use Rattle.asl_rules.specs.declared.entry.Entry.{Entry}
use Rattle.asl_rules.specs.Faults.{◌>>=◌, ◌>>◌, need}
use Rattle.asl_rules.specs.Tests.{Tests}
use Rattle.asl_rules.specs.declarations.Programs.{Accepted, verdict, read_verdict, default_decls, final_decls}
use Rattle.asl_rules.specs.declarations.Replacing.{Header, header_of, is_impdef, is_implementation, some_with, header_matched, headers_matched, bodies_matched}
use Rattle.asl_laws.proofs.basics.Lists.{AllOf}

err_is : {A B : Type 0} (f g : Fault) → (let r : Result A Fault = Err f in r) ≡ Err g → (let r : Result B Fault = Err f in r) ≡ Err g
err_is f g h = ap Err (same f g h)
  where
    same : {A : Type 0} (f g : Fault) → (let r : Result A Fault = Err f in r) ≡ Err g → f ≡ g
    same f g h = cc

ok_no_err : {A : Type 0} (x : A) (f : Fault) → (let r : Result A Fault = Err f in r) ≡ Ok x → ⊥
ok_no_err x f h = cc

-- ---- one step before others

behind_err : {A : Type 0} (r : Result (Unit {0}) Fault) (s : Result A Fault) (f : Fault) → (r >> s) ≡ Err f → (r ≡ Err f) ⊎ ((r ≡ Ok tt) × (s ≡ Err f))
behind_err (Ok x) s f h = inr (refl, h)
behind_err (Err g) s f h = inl (err_is g f h)

behind_ok : {A : Type 0} (r : Result (Unit {0}) Fault) (s : Result A Fault) (x : A) → (r >> s) ≡ Ok x → (r ≡ Ok tt) × (s ≡ Ok x)
behind_ok (Ok u) s x h = (refl, h)
behind_ok (Err g) s x h = absurd (ok_no_err x g h)

after_err : {A B : Type 0} (r : Result A Fault) (s : Result B Fault) (f : Fault) → (r >>= λ x. s) ≡ Err f → (r ≡ Err f) ⊎ ((x : A) × (r ≡ Ok x) × (s ≡ Err f))
after_err (Ok x) s f h = inr (x, refl, h)
after_err (Err g) s f h = inl (err_is g f h)

after_ok : {A B : Type 0} (r : Result A Fault) (s : Result B Fault) (y : B) → (r >>= λ x. s) ≡ Ok y → (x : A) × (r ≡ Ok x) × (s ≡ Ok y)
after_ok (Ok x) s y h = (x, refl, h)
after_ok (Err g) s y h = absurd (ok_no_err y g h)

-- ---- the verdict

-- a program that is accepted: so are both that come of it
pub record Steps (e : Entry) (ds : List ReadDecl) (t : Tests) (a : Accepted) : Type 0 where
  pub matched : bodies_matched ds ≡ Ok tt
  pub first : Accepted
  pub default_is : verdict e (default_decls ds) t ≡ Ok first
  pub final_is : verdict e (final_decls ds) t ≡ Ok a

pub steps_of : (e : Entry) (ds : List ReadDecl) (t : Tests) (a : Accepted) → read_verdict e ds t ≡ Ok a → Steps e ds t a
unfolding read_verdict
steps_of e ds t a h =
    let m = behind_ok (bodies_matched ds) _ a h in
    let d = after_ok (verdict e (default_decls ds) t) (verdict e (final_decls ds) t) a m.1 in
    record { matched = m.0; first = d.0; default_is = d.1; final_is = d.2 }

pub of_steps : (e : Entry) (ds : List ReadDecl) (t : Tests) (a : Accepted) → Steps e ds t a → read_verdict e ds t ≡ Ok a
unfolding read_verdict
of_steps e ds t a s =
    ap (λ r. r >> (verdict e (default_decls ds) t >>= λ x. verdict e (final_decls ds) t)) s.matched
    ∙ ap (λ r. r >>= λ x. verdict e (final_decls ds) t) s.default_is
    ∙ s.final_is

-- once the first of the two programs is accepted, the verdict is that on the second
pub read_both : (e : Entry) (ds : List ReadDecl) (t : Tests) (a : Accepted) → bodies_matched ds ≡ Ok tt → verdict e (default_decls ds) t ≡ Ok a →
    read_verdict e ds t ≡ verdict e (final_decls ds) t
unfolding read_verdict
read_both e ds t a m d =
    ap (λ r. r >> (verdict e (default_decls ds) t >>= λ x. verdict e (final_decls ds) t)) m
    ∙ ap (λ r. r >>= λ x. verdict e (final_decls ds) t) d

twice : {A : Type 0} (r : Result A Fault) → (r >>= λ x. r) ≡ r
twice (Ok x) = refl
twice (Err f) = refl

-- and where they are one program, it is that on this one
pub read_same : (e : Entry) (ds : List ReadDecl) (t : Tests) → bodies_matched ds ≡ Ok tt → default_decls ds ≡ final_decls ds →
    read_verdict e ds t ≡ verdict e (final_decls ds) t
unfolding read_verdict
read_same e ds t m s =
    ap (λ r. r >> (verdict e (default_decls ds) t >>= λ x. verdict e (final_decls ds) t)) m
    ∙ ap (λ es. verdict e es t >>= λ x. verdict e (final_decls ds) t) s
    ∙ twice (verdict e (final_decls ds) t)

-- a program with a fault: that of the bodies that replace others, else that of the program without them, else that of the program with them
abbrev pub Faulty : Entry → List ReadDecl → Tests → Fault → Type 0
Faulty e ds t f =
    (bodies_matched ds ≡ Err f) ⊎
    ((bodies_matched ds ≡ Ok tt) × ((verdict e (default_decls ds) t ≡ Err f) ⊎ ((a : Accepted) × (verdict e (default_decls ds) t ≡ Ok a) × (verdict e (final_decls ds) t ≡ Err f))))

pub fault_of_steps : (e : Entry) (ds : List ReadDecl) (t : Tests) (f : Fault) → read_verdict e ds t ≡ Err f → Faulty e ds t f
unfolding read_verdict
fault_of_steps e ds t f h = by (behind_err (bodies_matched ds) _ f h)
  where
    by : (bodies_matched ds ≡ Err f) ⊎ ((bodies_matched ds ≡ Ok tt) × ((verdict e (default_decls ds) t >>= λ x. verdict e (final_decls ds) t) ≡ Err f)) → Faulty e ds t f
    by (inl m) = inl m
    by (inr m) = inr (m.0, after_err (verdict e (default_decls ds) t) (verdict e (final_decls ds) t) f m.1)

pub of_fault : (e : Entry) (ds : List ReadDecl) (t : Tests) (f : Fault) → Faulty e ds t f → read_verdict e ds t ≡ Err f
unfolding read_verdict
of_fault e ds t f (inl m) = ap (λ r. r >> (verdict e (default_decls ds) t >>= λ x. verdict e (final_decls ds) t)) m
of_fault e ds t f (inr (m, inl d)) =
    ap (λ r. r >> (verdict e (default_decls ds) t >>= λ x. verdict e (final_decls ds) t)) m
    ∙ ap (λ r. r >>= λ x. verdict e (final_decls ds) t) d
of_fault e ds t f (inr (m, inr (a, d, g))) =
    ap (λ r. r >> (verdict e (default_decls ds) t >>= λ x. verdict e (final_decls ds) t)) m
    ∙ ap (λ r. r >>= λ x. verdict e (final_decls ds) t) d
    ∙ g

-- ---- the fault of a body that replaces another: its code, and where it stands

-- this holds of the fault of a header, if of anything of these codes at its name
abbrev pub HeaderSays : (Fault → Type 0) → Option Header → Type 0
HeaderSays Q None = Unit {0}
HeaderSays Q (Some h) = Q (record { code = T26; inner = None; span = h.at }) × Q (record { code = T27; inner = None; span = h.at })

no_ok : {A : Type 0} (x : A) (f : Fault) → (let r : Result A Fault = Ok x in r) ≡ Err f → ⊥
no_ok x f h = cc

same_fault : (g f : Fault) → (let r : Result (Unit {0}) Fault = Err g in r) ≡ Err f → g ≡ f
same_fault g f h = cc

module _ (Q : Fault → Type 0) (f : Fault) where
  needed : (b : Bool) (code : StaticCode) (at : Span) → need b code at ≡ Err f → Q (record { code = code; inner = None; span = at }) → Q f
  needed true code at h q = absurd (no_ok tt f h)
  needed false code at h q = subst Q (same_fault _ f h) q

  both_needed : (b c : Bool) (at : Span) → Q (record { code = T26; inner = None; span = at }) → Q (record { code = T27; inner = None; span = at }) →
      (need b T26 at >> need c T27 at) ≡ Err f → Q f
  both_needed b c at p q h = by (behind_err (need b T26 at) (need c T27 at) f h)
    where
      by : (need b T26 at ≡ Err f) ⊎ ((need b T26 at ≡ Ok tt) × (need c T27 at ≡ Err f)) → Q f
      by (inl m) = needed b T26 at m p
      by (inr m) = needed c T27 at m.1 q

  where_so : (b : Bool) (r : Result (Unit {0}) Fault) → (if b then r else Ok tt) ≡ Err f → r ≡ Err f
  where_so true r h = h
  where_so false r h = absurd (no_ok tt f h)

  header_says : (all before : List ReadDecl) (o : Option Header) → HeaderSays Q o → header_matched all before o ≡ Err f → Q f
  header_says all before None s h = absurd (no_ok tt f h)
  header_says all before (Some x) s h =
      both_needed (some_with is_impdef x.key all) (not (some_with is_implementation x.key before)) x.at s.0 s.1
      (where_so (is_implementation x.word) (need (some_with is_impdef x.key all) T26 x.at >> need (not (some_with is_implementation x.key before)) T27 x.at) h)

  headers_say : (all before ds : List ReadDecl) → AllOf (λ d. HeaderSays Q (header_of d)) ds → headers_matched all before ds ≡ Err f → Q f
  headers_say all before [] s h = absurd (no_ok tt f h)
  headers_say all before (d ∷ ds) s h = by (headers_say all (before ++ d ∷ []) ds s.1) (behind_err (header_matched all before (header_of d)) (headers_matched all (before ++ d ∷ []) ds) f h)
    where
      by : (headers_matched all (before ++ d ∷ []) ds ≡ Err f → Q f) →
          (header_matched all before (header_of d) ≡ Err f) ⊎ ((header_matched all before (header_of d) ≡ Ok tt) × (headers_matched all (before ++ d ∷ []) ds ≡ Err f)) → Q f
      by more (inl m) = header_says all before (header_of d) s.0 m
      by more (inr m) = more m.1

  pub bodies_say : (ds : List ReadDecl) → AllOf (λ d. HeaderSays Q (header_of d)) ds → bodies_matched ds ≡ Err f → Q f
  unfolding bodies_matched
  bodies_say ds s h = headers_say ds [] ds s h
