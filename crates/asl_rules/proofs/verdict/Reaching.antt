-- Declarations that reach others through the names that are used: paths need no more steps than there are declarations.
use Rattle.std.proofs.Common.{◌≡◌, ℕ, zero, suc, ◌+◌, ◌≤◌, inl, inr, Bool, true, false, not, ◌&&◌, ◌||◌, List, [], ◌∷◌, length, refl, sym, ap, ◌∙◌, subst, arith}
use Rattle.asl_syn.specs.declared.code.StaticCode.TheVariants.{T03}
use Rattle.asl_syn.specs.declared.tree.Decl.{Decl}
use Rattle.asl_syn.specs.declared.tree.Decl.TheVariants as dc
use Rattle.asl_rules.specs.Faults.{◌>>◌, need}
use Rattle.asl_rules.specs.declarations.Uses.{uses_one_of, leads_by, leads_to, reaches_itself, cycles_rule}
use Rattle.asl_rules.proofs.basics.Tests.{no, both, and_true, either, or_first, or_second}
use Rattle.asl_rules.proofs.verdict.Distinct.{In}
use Rattle.asl_rules.proofs.verdict.Settling.{settled}

-- ---- one step, and the rest

-- one of these that the first uses, from which the rest goes on
pub record Step (on : Decl → Bool) (d : Decl) (ms : List Decl) : Type 0 where
  pub by : Decl
  pub is_in : In by ms
  pub is_used : uses_one_of d by ≡ true
  pub goes_on : on by ≡ true

pub step_of : (on : Decl → Bool) (d : Decl) (ms : List Decl) → leads_by on d ms ≡ true → Step on d ms
step_of on d [] h = no h
step_of on d (m ∷ ms) h =
    either (uses_one_of d m && on m) (leads_by on d ms) h
    (λ k. let p = both (uses_one_of d m) (on m) k in record { by = m; is_in = inl refl; is_used = p.0; goes_on = p.1 })
    (λ k. let s = step_of on d ms k in record { by = s.by; is_in = inr s.is_in; is_used = s.is_used; goes_on = s.goes_on })

pub leads_step : (on : Decl → Bool) (d m : Decl) (ms : List Decl) → In m ms → uses_one_of d m ≡ true → on m ≡ true → leads_by on d ms ≡ true
leads_step on d m [] i u h = absurd i
leads_step on d m (x ∷ ms) (inl q) u h =
    or_first (uses_one_of d x && on x) (leads_by on d ms) (subst (λ z. (uses_one_of d z && on z) ≡ true) (sym q) (and_true (uses_one_of d m) (on m) u h))
leads_step on d m (x ∷ ms) (inr i) u h = or_second (uses_one_of d x && on x) (leads_by on d ms) (leads_step on d m ms i u h)

by_same : (on off : Decl → Bool) (d : Decl) (ms : List Decl) → ((m : Decl) → In m ms → on m ≡ off m) → leads_by on d ms ≡ leads_by off d ms
by_same on off d [] h = refl
by_same on off d (m ∷ ms) h =
    ap (λ b. (uses_one_of d m && b) || leads_by on d ms) (h m (inl refl)) ∙ ap (λ b. (uses_one_of d m && off m) || b) (by_same on off d ms (λ x i. h x (inr i)))

module _ (ds : List Decl) where
  -- the first reaches the second, by however many declarations between them
  abbrev pub Reaches : Decl → Decl → Type 0
  Reaches d e = (n : ℕ) × (leads_to n ds d e ≡ true)

  pub leads_more : (n : ℕ) (d e : Decl) → leads_to n ds d e ≡ true → leads_to (suc n) ds d e ≡ true
  leads_more zero d e h = or_first (uses_one_of d e) (leads_by (λ m. uses_one_of m e) d ds) h
  leads_more (suc n) d e h =
      either (uses_one_of d e) (leads_by (λ m. leads_to n ds m e) d ds) h
      (λ k. or_first (uses_one_of d e) (leads_by (λ m. leads_to (suc n) ds m e) d ds) k)
      (λ k. let s = step_of (λ m. leads_to n ds m e) d ds k in
      or_second (uses_one_of d e) (leads_by (λ m. leads_to (suc n) ds m e) d ds) (leads_step (λ m. leads_to (suc n) ds m e) d s.by ds s.is_in s.is_used (leads_more n s.by e s.goes_on)))

  pub one_step : (n : ℕ) (d e : Decl) → uses_one_of d e ≡ true → leads_to n ds d e ≡ true
  one_step zero d e h = h
  one_step (suc n) d e h = or_first (uses_one_of d e) (leads_by (λ m. leads_to n ds m e) d ds) h

  pub then_one : (n : ℕ) (d e f : Decl) → In e ds → leads_to n ds d e ≡ true → uses_one_of e f ≡ true → leads_to (suc n) ds d f ≡ true
  then_one zero d e f i h u = or_second (uses_one_of d f) (leads_by (λ m. leads_to 0 ds m f) d ds) (leads_step (λ m. leads_to 0 ds m f) d e ds i h u)
  then_one (suc n) d e f i h u =
      either (uses_one_of d e) (leads_by (λ m. leads_to n ds m e) d ds) h
      (λ k. or_second (uses_one_of d f) (leads_by (λ m. leads_to (suc n) ds m f) d ds) (leads_step (λ m. leads_to (suc n) ds m f) d e ds i k (one_step (suc n) e f u)))
      (λ k. let s = step_of (λ m. leads_to n ds m e) d ds k in
      or_second (uses_one_of d f) (leads_by (λ m. leads_to (suc n) ds m f) d ds) (leads_step (λ m. leads_to (suc n) ds m f) d s.by ds s.is_in s.is_used (then_one n s.by e f i s.goes_on u)))

  -- ---- paths need no more steps than there are declarations

  goes_on : (e : Decl) (n : ℕ) → ((d : Decl) → In d ds → leads_to (suc n) ds d e ≡ leads_to n ds d e) → (d : Decl) → In d ds → leads_to (suc (suc n)) ds d e ≡ leads_to (suc n) ds d e
  goes_on e n h d i = ap (λ b. uses_one_of d e || b) (by_same (λ m. leads_to (suc n) ds m e) (λ m. leads_to n ds m e) d ds h)

  enough : (n : ℕ) (d e : Decl) → length ds ≤ n → In d ds → leads_to (suc n) ds d e ≡ leads_to n ds d e
  enough n d e l i = settled (λ n d. leads_to n ds d e) ds (λ n d i. leads_more n d e) (goes_on e) n l d i

  more_by : (k n : ℕ) (d e : Decl) → leads_to n ds d e ≡ true → leads_to (k + n) ds d e ≡ true
  more_by zero n d e h = let q : n ≡ zero + n = omega arith in subst (λ z. leads_to z ds d e ≡ true) q h
  more_by (suc k) n d e h = let q : suc (k + n) ≡ suc k + n = omega arith in subst (λ z. leads_to z ds d e ≡ true) q (leads_more (k + n) d e (more_by k n d e h))

  less_by : (k : ℕ) (d e : Decl) → In d ds → leads_to (k + length ds) ds d e ≡ true → leads_to (length ds) ds d e ≡ true
  less_by zero d e i h = let q : zero + length ds ≡ length ds = omega arith in subst (λ z. leads_to z ds d e ≡ true) q h
  less_by (suc k) d e i h =
      let q : suc k + length ds ≡ suc (k + length ds) = omega arith in
      less_by k d e i (sym (enough (k + length ds) d e (omega arith) i) ∙ subst (λ z. leads_to z ds d e ≡ true) q h)

  pub short : (d e : Decl) → In d ds → Reaches d e → leads_to (length ds) ds d e ≡ true
  short d e i r = less_by r.0 d e i (let q : length ds + r.0 ≡ r.0 + length ds = omega arith in subst (λ z. leads_to z ds d e ≡ true) q (more_by (length ds) r.0 d e r.1))

  pub then_on : (n k : ℕ) (d m e : Decl) → In m ds → leads_to n ds d m ≡ true → leads_to k ds m e ≡ true → Reaches d e
  then_on n zero d m e i h g = (suc n, then_one n d m e i h g)
  then_on n (suc k) d m e i h g =
      either (uses_one_of m e) (leads_by (λ x. leads_to k ds x e) m ds) g
      (λ u. (suc n, then_one n d m e i h u))
      (λ b. let s = step_of (λ x. leads_to k ds x e) m ds b in then_on (suc n) k d s.by e s.is_in (then_one n d m s.by i h s.is_used) s.goes_on)

-- ---- the rule

pub cycles_pass : (all : List Decl) (d : Decl) (ds : List Decl) → reaches_itself all d ≡ false → cycles_rule all (d ∷ ds) ≡ cycles_rule all ds
cycles_pass all (dc.Type d) ds h = ap (λ b. need (not b) T03 d.name.span >> cycles_rule all ds) h
cycles_pass all (dc.Storage d) ds h = ap (λ b. need (not b) T03 d.name.span >> cycles_rule all ds) h
cycles_pass all (dc.Func f) ds h = refl
