-- The loops that push what they make of each term.
use Rattle.std.proofs.Common.{◌≡◌, ℕ, ◌+◌, ◌<◌, ◌≤◌, ◌^◌, arith, List, [], ◌∷◌, ◌++◌, length, drop, refl, ◌∙◌, sym, ap, slice_index_or}
use Rattle.std.specs.Prelude.{pos, int_div, unsigned_abs, Bool, true, false, ◌&&◌, IsTrue, ◌↔◌}
use Rattle.asl_poly.specs.Limits.{weight}
use Rattle.std.proofs.lemmas.List.{append-nil, append_assoc, drop_all}
use Rattle.asl_poly.specs.Terms.{Summand, Polynomial}
use Rattle.asl_poly.specs.Operations.{times, constant_term, with_coefficient}
use Rattle.asl_poly.specs.Denominators.{multiples, divided}
use Rattle.asl_poly.specs.Substitute.{raised_term, raised_terms}
use Rattle.asl_poly.proofs.ProductLoops.{next}

-- f is g term by term
pub record Each (f : List Summand → List Summand) (g : Summand → Summand) : Type 0 where
  pub none : f [] ≡ []
  pub more : (t : Summand) (ts : List Summand) → f (t ∷ ts) ≡ g t ∷ f ts

pub pushed : (f : List Summand → List Summand) (g : Summand → Summand) → Each f g
    → (ts made now : List Summand) (t u : Summand) (i : ℕ) (all : List Summand) → i < length ts → t ≡ slice_index_or ts i t → u ≡ g t
    → now ≡ made ++ u ∷ []
    → made ++ f (drop i ts) ≡ all → now ++ f (drop (i + 1) ts) ≡ all
pushed f g e ts made now t u i all h is m n k =
    let d : drop i ts ≡ t ∷ drop (i + 1) ts = next ts i t h is in
    let a : f (drop i ts) ≡ g t ∷ f (drop (i + 1) ts) = ap f d ∙ e.more t (drop (i + 1) ts) in
    rw (n, m) (append_assoc made (g t ∷ []) (f (drop (i + 1) ts)) ∙ ap (λ xs. made ++ xs) (sym a) ∙ k)

pub all_pushed : (f : List Summand → List Summand) (g : Summand → Summand) → Each f g
    → (ts made : List Summand) (i : ℕ) (all : List Summand) → length ts ≤ i → made ++ f (drop i ts) ≡ all → made ≡ all
all_pushed f g e ts made i all h k =
    let d : f (drop i ts) ≡ [] = ap f (drop_all i ts h) ∙ e.none in
    sym (append-nil made) ∙ ap (λ xs. made ++ xs) (sym d) ∙ k

pub multiples_each : (k : ℕ) → Each (multiples k) (times (constant_term (pos k)))
multiples_each k = record { none = refl; more = λ t ts. refl }

pub divided_each : (k : ℕ) → Each (divided k) (λ t. with_coefficient (int_div t.coefficient (pos k)) t)
divided_each k = record { none = refl; more = λ t ts. refl }

pub raised_each : (by : List (ℕ × Polynomial)) (n : ℕ) → Each (raised_terms by n) (raised_term by n)
raised_each by n = record { none = refl; more = λ t ts. refl }

-- ---- two lists of terms, first by first

pub weight_first : (p : List Summand) (s : Summand) (rest : List Summand) → p ≡ s ∷ rest → weight p ≤ 2 ^ 62
    → (unsigned_abs s.coefficient ≤ 2 ^ 100) × (weight rest ≤ 2 ^ 62)
weight_first p s rest e l = let w : weight p ≡ unsigned_abs s.coefficient + weight rest = ap weight e in (omega arith, omega arith)

head_of : (t u : Summand) (ts us : List Summand) → t ∷ ts ≡ u ∷ us → t ≡ u
head_of t u ts us e = cc

tail_of : (t u : Summand) (ts us : List Summand) → t ∷ ts ≡ u ∷ us → ts ≡ us
tail_of t u ts us e = cc

both_true : (a b : Bool) → (a && b) ≡ true → (a ≡ true) × (b ≡ true)
both_true true true e = (refl, refl)
both_true true false e = cc
both_true false b e = cc

pub same_firsts : (k l : ℕ) (s t : Summand) (p q : List Summand) (a b : Bool)
    → IsTrue a ↔ (times (constant_term (pos k)) s ≡ times (constant_term (pos l)) t) → IsTrue b ↔ (multiples k p ≡ multiples l q)
    → IsTrue (a && b) ↔ (multiples k (s ∷ p) ≡ multiples l (t ∷ q))
same_firsts k l s t p q a b i j = (
  λ h. let x = both_true a b h in let e : times (constant_term (pos k)) s ≡ times (constant_term (pos l)) t = i.0 x.0 in
      let f : multiples k p ≡ multiples l q = j.0 x.1 in cc,
  λ h.
      let e : times (constant_term (pos k)) s ≡ times (constant_term (pos l)) t =
      head_of (times (constant_term (pos k)) s) (times (constant_term (pos l)) t) (multiples k p) (multiples l q) h in
      let f : multiples k p ≡ multiples l q = tail_of (times (constant_term (pos k)) s) (times (constant_term (pos l)) t) (multiples k p)
      (multiples l q) h in
      let x : a ≡ true = i.1 e in
      let y : b ≡ true = j.1 f in
      rw (x, y) refl,
)
