-- A part within a plan, and what goes on with what it gives.
use Rattle.std.proofs.Common.{◌≡◌, ℕ, inl, inr, List, refl, sym, subst}
use Rattle.asl_rules.specs.runs.Cuts.{rest, cuts}
use Rattle.asl_rules.specs.runs.Plans.{Meter, Outcome, Done, Thrown, Halt, Raise, Within, follow, run, ◌>>=◌, handle}
use Rattle.asl_rules.specs.private.TypedMeaning.{BareCore, Runs}
use Rattle.asl_rules.specs.values.Values as rules
use Rattle.asl_tree.specs.declared.act.TreeFunc.{TreeFunc}
use Rattle.asl_branches.specs.View.{meaning_of, cutting_of}
use Rattle.asl_branches.proofs.Turns.{Goes}

-- ---- a part within a plan

-- what is given up in the part is in the whole
within_cut : {A B : Type 0} (fs : List TreeFunc) (d : ℕ) (q : Runs B) (f : B → BareCore → Runs A) (g : rules.Value → BareCore → Runs A) (h u : Meter) →
    cuts (meaning_of fs d) (cutting_of fs d) q h u → cuts (meaning_of fs d) (cutting_of fs d) (Within q f g) h u
within_cut fs d q f g h u (inl e) = inl e
within_cut fs d q f g h u (inr w) = inr (inl w)

-- and what is given up behind it
done_cut : {A B : Type 0} (fs : List TreeFunc) (d : ℕ) (q : Runs B) (f : B → BareCore → Runs A) (g : rules.Value → BareCore → Runs A) (h u : Meter) (x : B) (c1 : BareCore) (h1 : Meter) → run (meaning_of fs d) q h ≡ Done x c1 h1 →
    cuts (meaning_of fs d) (cutting_of fs d) (f x c1) h1 u → cuts (meaning_of fs d) (cutting_of fs d) (Within q f g) h u
done_cut fs d q f g h u x c1 h1 e w =
    inr (inr (subst (λ r. rest r (λ y c2 h2. cuts (meaning_of fs d) (cutting_of fs d) (f y c2) h2 u) (λ y c2 h2. cuts (meaning_of fs d) (cutting_of fs d) (g y c2) h2 u)) (sym e) w))

-- ---- a part whose throws are those of the whole

pub goes_follow : {A B : Type 0} (fs : List TreeFunc) (d : ℕ) (q : Runs B) (k : B → BareCore → Runs A) → Goes fs d q (follow q k) k
goes_follow {A} {B} fs d q k = record {
  same = λ h. same (run (meaning_of fs d) q h);
  cut = λ h u w. within_cut fs d q k Raise h u w;
  later = λ h u x c1 h1 e w. done_cut fs d q k Raise h u x c1 h1 e w;
}
  where
    same : (r : Outcome BareCore B) → handle r (λ x c1 h1. run (meaning_of fs d) (k x c1) h1) (λ x c1 h1. run (meaning_of fs d) (Raise x c1) h1) ≡ r >>= λ x c1 h1. run (meaning_of fs d) (k x c1) h1
    same (Done x c1 h1) = refl
    same (Thrown x c1 h1) = refl
    same (Halt e c1 h1) = refl
