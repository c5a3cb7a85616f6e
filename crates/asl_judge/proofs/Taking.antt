-- The turns that are left lead to what comes of each declaration after all of them.
use Rattle.std.proofs.Common.{◌≡◌, ℕ, zero, suc, ◌+◌, ◌≤◌, List, [], ◌∷◌, length, set, Some, None, sym, ap, ◌∙◌, arith}
use Rattle.asl_syn.specs.declared.tree.Decl.{Decl}
use Rattle.asl_rules.specs.Tests.{Tests}
use Rattle.asl_rules.specs.declarations.Scopes.{Entry}
use Rattle.asl_rules.specs.declarations.Turns.{Judged, SoFar, names_so_far, next_turn, decl_judged, judged_at, one_turn, turns, all_waiting}
use Rattle.asl_rules.specs.declarations.Turns.{final}
use Rattle.asl_rules.proofs.basics.Tests.{some_same, none_some}
use Rattle.asl_names.proofs.Bridge.{At}

-- where so many wait, as many turns or more lead to the end
pub record Left (t : Tests) (ds : List Decl) (js : SoFar) (wait : ℕ) : Type 0 where
  pub count : ℕ
  pub enough : wait ≤ count
  pub leads : turns t count ds js ≡ final t ds

-- the one at a place is judged
judged_here : (t : Tests) (n : ℕ) (ds : List Decl) (js : SoFar) (d : Decl) (i : Judged) (names : List Entry) → At ds n d → At js n i →
    judged_at t n ds js names ≡ set js n (decl_judged t d names)
judged_here t n [] js d i names a b = none_some d a
judged_here t n (e ∷ ds) [] d i names a b = none_some i b
judged_here t zero (e ∷ ds) (j ∷ js) d i names a b = ap (λ z. decl_judged t z names ∷ js) (some_same e d a)
judged_here t (suc n) (e ∷ ds) (j ∷ js) d i names a b = ap (λ l. j ∷ l) (judged_here t n ds js d i names a b)

pub first_left : (t : Tests) (ds : List Decl) (js : SoFar) (w : ℕ) → js ≡ all_waiting ds → w ≤ length ds → Left t ds js w
first_left t ds js w e h = record { count = length ds; enough = h; leads = ap (turns t (length ds) ds) e }

pub one_left : (t : Tests) (ds : List Decl) (js : SoFar) (n : ℕ) (d : Decl) (i k : Judged) (v w : ℕ) → next_turn ds js ≡ Some n →
    At ds n d → At js n i → k ≡ decl_judged t d (names_so_far ds js) → 1 + v ≡ w → Left t ds js w → Left t ds (set js n k) v
one_left t ds js n d i k v w h a b e q l = by l.count l.enough l.leads
  where
    by : (c : ℕ) → w ≤ c → turns t c ds js ≡ final t ds → Left t ds (set js n k) v
    by zero m r = absurd (omega (arith, q, m))
    by (suc c) m r = record {
      count = c;
      enough = omega (arith, q, m);
      leads =
          ap (turns t c ds) (ap (set js n) e ∙ sym (judged_here t n ds js d i (names_so_far ds js) a b))
          ∙ sym (ap (one_turn t ds js (turns t c ds)) h) ∙ r;
    }

-- where no one is ready, it is the end
pub none_left : (t : Tests) (ds : List Decl) (js : SoFar) (w : ℕ) → next_turn ds js ≡ None → Left t ds js w → js ≡ final t ds
none_left t ds js w h l = by l.count l.leads
  where
    by : (c : ℕ) → turns t c ds js ≡ final t ds → js ≡ final t ds
    by zero r = r
    by (suc c) r = sym (ap (one_turn t ds js (turns t c ds)) h) ∙ r
