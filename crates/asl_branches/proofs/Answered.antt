-- Answers of parts, as answers of the whole: all that they say at once.
use Rattle.std.proofs.Common.{◌≡◌, ◌+◌, ◌≤◌, ℕ, inl, inr, List, Option, None, Some, Result, Ok, Err, refl, ap, ◌∙◌, subst, arith}
use Rattle.asl_rules.specs.runs.Cuts.{cuts}
use Rattle.asl_rules.specs.runs.Forms.{at_once}
use Rattle.asl_rules.specs.runs.Plans.{Meter, Done, Ret, Eval, Pure, lift, run, ◌>>=◌}
use Rattle.asl_rules.specs.runs.Trees.{Tree}
use Rattle.asl_rules.specs.private.TypedMeaning.{BareCore, Runs}
use Rattle.asl_rules.specs.values.Values as rules
use Rattle.asl_tree.specs.declared.act.TreeFunc.{TreeFunc}
use Rattle.asl_value.specs.declared.value.Value.{Value}
use Rattle.asl_value.specs.View.{value_of}
use Rattle.asl_branches.specs.declared.run.Run.{Run}
use Rattle.asl_branches.specs.declared.setting.Setting.{Setting}
use Rattle.asl_branches.specs.declared.stop.Exit.{Exit}
use Rattle.asl_branches.specs.declared.stop.Stop.{Stop as Stopped}
use Rattle.asl_branches.specs.declared.stop.Stop.TheVariants as stop
use Rattle.asl_branches.specs.Meets.{Acts, Answers, At, Counts, Grows, Is, Keeps, Left, Meets, NoneRefused, Ran, RanBy, SameRound, Underway}
use Rattle.asl_branches.specs.View.{core_of, exit_of, height_of, meter_of, meaning_of, cutting_of}
use Rattle.asl_branches.proofs.Turns.{
  Goes,
  at_once_meets,
  goes_failed,
  goes_met,
  goes_on,
  left_left,
  lift_meets,
  meets_left,
  one_evaluated,
}

-- ---- where nothing is answered

counts_err : (A B : Type 0) (e : Stopped) (n m : ℕ) → Counts {A = A} (Err e) n m → Counts {A = B} (Err e) n m
counts_err A B stop.NoMemory n m c = c
counts_err A B stop.SinkFault n m c = c
counts_err A B (stop.Thrown x) n m c = c
counts_err A B (stop.Fault code span) n m c = c
counts_err A B (stop.Stuck mistake span) n m c = c

keeps_err : (A B : Type 0) (e : Stopped) (s s1 : Run) → Keeps {A = A} (Err e) s s1 → Keeps {A = B} (Err e) s s1
keeps_err A B stop.NoMemory s s1 k = k
keeps_err A B stop.SinkFault s s1 k = k
keeps_err A B (stop.Thrown x) s s1 k = k
keeps_err A B (stop.Fault code span) s s1 k = k
keeps_err A B (stop.Stuck mistake span) s s1 k = k

-- ---- one behind another

pub rounds : (s s1 s2 : Run) → SameRound s s1 → SameRound s1 s2 → SameRound s s2
rounds s s1 s2 a b = record { handled = b.handled ∙ a.handled; callers = b.callers ∙ a.callers; slots = b.slots ∙ a.slots; live = b.live ∙ a.live }

pub keeps_behind : {A : Type 0} (r : Result A Stopped) (s s1 s2 : Run) → SameRound s s1 → Keeps r s1 s2 → Keeps r s s2
keeps_behind (Ok x) s s1 s2 a k = rounds s s1 s2 a k
keeps_behind (Err stop.NoMemory) s s1 s2 a k = k
keeps_behind (Err stop.SinkFault) s s1 s2 a k = k
keeps_behind (Err (stop.Thrown x)) s s1 s2 a k = rounds s s1 s2 a k
keeps_behind (Err (stop.Fault code span)) s s1 s2 a k = k
keeps_behind (Err (stop.Stuck mistake span)) s s1 s2 a k = k

grows_err : (B : Type 0) (n : Option ℕ) (e : Stopped) (s s1 : Run) → Grows {A = B} n (Err e) s s1
grows_err B None e s s1 = tt
grows_err B (Some n) e s s1 = tt

-- a frame to which nothing was added before grows by so many at most
grows_behind : {A : Type 0} (n : Option ℕ) (r : Result A Stopped) (s s1 s2 : Run) → height_of s1 ≤ 0 + height_of s → Grows n r s1 s2 →
    Grows n r s s2
grows_behind None r s s1 s2 p g = tt
grows_behind (Some n) (Ok x) s s1 s2 p g = omega (arith, p, g)
grows_behind (Some n) (Err e) s s1 s2 p g = tt

none_more : (s s1 : Run) → height_of s1 ≤ height_of s → height_of s1 ≤ 0 + height_of s
none_more s s1 p = omega (arith, p)

lower : (s s1 s2 : Run) → height_of s1 ≤ height_of s → height_of s2 ≤ 0 + height_of s1 → height_of s2 ≤ height_of s
lower s s1 s2 p q = omega (arith, p, q)

-- where nothing was added
grows_none : {A : Type 0} (n : Option ℕ) (r : Result A Stopped) (s : Run) → Grows n r s s
grows_none None r s = tt
grows_none (Some n) (Ok x) s = omega arith
grows_none (Some n) (Err e) s = tt

-- ---- parts

-- where the part stops, the whole does
pub failed : {A B C D : Type 0} {m n : Option ℕ} (v : C → A) (w : D → B) (fs : List TreeFunc) (d : ℕ) (g : Runs A) (f : Runs B)
    (k : A → BareCore → Runs B) → Goes fs d g f k → (h : Meter) (e : Stopped) (a a1 : At) →
    Answers m v (Err e) (run (meaning_of fs d) g h) (cuts (meaning_of fs d) (cutting_of fs d) g h) a a1 →
    Answers n w (Err e) (run (meaning_of fs d) f h) (cuts (meaning_of fs d) (cutting_of fs d) f h) a a1
failed {A} {B} {C} {D} {m} {n} v w fs d g f k goes h e a a1 r = record {
  meets = goes_failed v w fs d g f k goes h e (core_of a1.run) (meter_of a1.run a1.told) r.meets;
  counts = counts_err C D e a.faults a1.faults r.counts;
  same_full = r.same_full;
  keeps = keeps_err C D e a.run a1.run r.keeps;
  grows = grows_err D n e a.run a1.run;
}

-- where it is done, what goes on answers for the whole
pub met : {A B C D : Type 0} {n : Option ℕ} (v : C → A) (w : D → B) (fs : List TreeFunc) (d : ℕ) (g : Runs A) (f : Runs B)
    (k : A → BareCore → Runs B) → Goes fs d g f k → (h : Meter) (x : C) (r : Result D Stopped) (a a1 a2 : At) →
    Answers (Some 0) v (Ok x) (run (meaning_of fs d) g h) (cuts (meaning_of fs d) (cutting_of fs d) g h) a a1 →
    Answers n w r (run (meaning_of fs d) (k (v x) (core_of a1.run)) (meter_of a1.run a1.told))
    (cuts (meaning_of fs d) (cutting_of fs d) (k (v x) (core_of a1.run)) (meter_of a1.run a1.told)) a1 a2 →
    Answers n w r (run (meaning_of fs d) f h) (cuts (meaning_of fs d) (cutting_of fs d) f h) a a2
met {n = n} v w fs d g f k goes h x r a a1 a2 p q = record {
  meets = goes_met w fs d g f k goes h (v x) (core_of a1.run) (meter_of a1.run a1.told) p.meets r (core_of a2.run)
      (meter_of a2.run a2.told) q.meets;
  counts = subst (λ n. Counts r n a2.faults) p.counts q.counts;
  same_full = q.same_full ∙ p.same_full;
  keeps = keeps_behind r a.run a1.run a2.run p.keeps q.keeps;
  grows = grows_behind n r a.run a1.run a2.run p.grows q.grows;
}

-- the value of an expression, and what goes on with it
pub met_eval : {B D : Type 0} {n : Option ℕ} (w : D → B) (fs : List TreeFunc) (d : ℕ) (e : Tree) (k : rules.Value → BareCore → Runs B)
    (x : Value) (r : Result D Stopped) (a a1 a2 : At) →
    Answers (Some 0) value_of (Ok x) ((meaning_of fs d).expr e (core_of a.run) (meter_of a.run a.told))
    ((cutting_of fs d).expr e (core_of a.run) (meter_of a.run a.told)) a a1 →
    Answers n w r (run (meaning_of fs d) (k (value_of x) (core_of a1.run)) (meter_of a1.run a1.told))
    (cuts (meaning_of fs d) (cutting_of fs d) (k (value_of x) (core_of a1.run)) (meter_of a1.run a1.told)) a1 a2 →
    Answers n w r (run (meaning_of fs d) (Eval e (core_of a.run) k) (meter_of a.run a.told))
    (cuts (meaning_of fs d) (cutting_of fs d) (Eval e (core_of a.run) k) (meter_of a.run a.told)) a a2
met_eval {n = n} w fs d e k x r a a1 a2 p q = record {
  meets = goes_met w fs d (Eval e (core_of a.run) (λ y c2. Ret y c2)) (Eval e (core_of a.run) k) k
      (one_evaluated fs d e (core_of a.run) k) (meter_of a.run a.told) (value_of x) (core_of a1.run) (meter_of a1.run a1.told)
      (ap (λ r. r >>= λ y c2 h3. Done y c2 h3) p.meets) r (core_of a2.run) (meter_of a2.run a2.told) q.meets;
  counts = subst (λ n. Counts r n a2.faults) p.counts q.counts;
  same_full = q.same_full ∙ p.same_full;
  keeps = keeps_behind r a.run a1.run a2.run p.keeps q.keeps;
  grows = grows_behind n r a.run a1.run a2.run p.grows q.grows;
}

-- ---- what needs no node below

counts_given : {A B : Type 0} (w : A → B) (r : Result A Stopped) (p : Pure B) (n : ℕ) → Is w r p → Counts r n n
counts_given w (Ok x) p n e = refl
counts_given w (Err stop.NoMemory) p n e = refl
counts_given w (Err stop.SinkFault) p n e = absurd e
counts_given w (Err (stop.Thrown x)) p n e = absurd e
counts_given w (Err (stop.Fault code span)) p n e = refl
counts_given w (Err (stop.Stuck mistake span)) p n e = refl

keeps_given : {A B : Type 0} (w : A → B) (r : Result A Stopped) (p : Pure B) (s : Run) → Is w r p → Keeps r s s
keeps_given w (Ok x) p s e = record { handled = refl; callers = refl; slots = refl; live = refl }
keeps_given w (Err stop.NoMemory) p s e = tt
keeps_given w (Err stop.SinkFault) p s e = absurd e
keeps_given w (Err (stop.Thrown x)) p s e = absurd e
keeps_given w (Err (stop.Fault code span)) p s e = tt
keeps_given w (Err (stop.Stuck mistake span)) p s e = tt

-- an operation on values
pub given : {A B : Type 0} (w : A → B) (h : Setting) (r : Result A Stopped) (p : Pure B) (a : At) → Is w r p →
    Ran w r h (λ c. at_once p c) a a
given w h r p a e = record {
  meets = at_once_meets w h.funcs.now h.depth r p (core_of a.run) (meter_of a.run a.told) e;
  counts = counts_given w r p a.faults e;
  same_full = refl;
  keeps = keeps_given w r p a.run e;
  grows = grows_none (Some 0) r a.run;
}

-- where it gives nothing, the run stops
pub lift_failed : {A B C D : Type 0} {n : Option ℕ} (v : C → D) (w : A → B) (h : Setting) (e : Stopped) (p : Pure D) (k : BareCore → D → Runs B)
    (a : At) → Is v (Err e) p → RanBy n w (Err e) h (λ c. lift p c (k c)) a a
lift_failed {A} {B} {C} {D} {n} v w h e p k a is = record {
  meets = lift_meets v w h.funcs.now h.depth e p is (core_of a.run) (meter_of a.run a.told) (k (core_of a.run));
  counts = counts_err C A e a.faults a.faults (counts_given v (Err e) p a.faults is);
  same_full = refl;
  keeps = keeps_err C A e a.run a.run (keeps_given v (Err e) p a.run is);
  grows = grows_err A n e a.run a.run;
}

counts_unrefused : {A : Type 0} (r : Result A Stopped) (n : ℕ) → NoneRefused r → Counts r n n
counts_unrefused (Ok x) n e = refl
counts_unrefused (Err stop.NoMemory) n e = refl
counts_unrefused (Err stop.SinkFault) n e = absurd e
counts_unrefused (Err (stop.Thrown x)) n e = refl
counts_unrefused (Err (stop.Fault code span)) n e = refl
counts_unrefused (Err (stop.Stuck mistake span)) n e = refl

-- a plan that enters no node and writes nothing
pub acted : {n : Option ℕ} (h : Setting) (r : Result Exit Stopped) (q : BareCore → Runs rules.Exit) (a : At) (s : Run) → Acts r q a.run s →
    NoneRefused r → Keeps r a.run s → Grows n r a.run s → RanBy n exit_of r h q a (record a { run = s })
acted h r q a s m u k g = record {
  meets = m h.funcs.now h.depth a.told;
  counts = counts_unrefused r a.faults u;
  same_full = refl;
  keeps = k;
  grows = g;
}

-- ---- loops

-- what is left is the same plan
pub same_plan : {A : Type 0} (h : Setting) (p p1 q : BareCore → Runs A) (a0 a : At) → p (core_of a.run) ≡ p1 (core_of a.run) →
    Underway h p a q a0 → Underway h p1 a q a0
same_plan h p p1 q a0 a e u = record {
  left = subst (λ r. Left h.funcs.now h.depth r (meter_of a.run a.told) (q (core_of a0.run)) (meter_of a0.run a0.told)) e u.left;
  count = u.count;
  full = u.full;
  round = u.round;
  height = u.height;
}

-- an answer of what is left is one of the whole
pub ended : {A B : Type 0} {g : Option ℕ} (w : A → B) (h : Setting) (p q : BareCore → Runs B) (a0 a1 a2 : At) (r : Result A Stopped) →
    Underway h p a1 q a0 → RanBy g w r h p a1 a2 → RanBy g w r h q a0 a2
ended {g = g} w h p q a0 a1 a2 r u n = record {
  meets = meets_left w h.funcs.now h.depth (p (core_of a1.run)) (q (core_of a0.run)) (meter_of a0.run a0.told)
      (meter_of a1.run a1.told) u.left r (core_of a2.run) (meter_of a2.run a2.told) n.meets;
  counts = subst (λ m. Counts r m a2.faults) u.count n.counts;
  same_full = n.same_full ∙ u.full;
  keeps = keeps_behind r a0.run a1.run a2.run u.round n.keeps;
  grows = grows_behind g r a0.run a1.run a2.run (none_more a0.run a1.run u.height) n.grows;
}

-- nothing is left to do
pub all_done : {A B : Type 0} (w : A → B) (h : Setting) (x : A) (q : BareCore → Runs B) (a0 a : At) →
    Underway h (λ c. Ret (w x) c) a q a0 → Ran w (Ok x) h q a0 a
all_done w h x q a0 a u = ended w h (λ c. Ret (w x) c) q a0 a a (Ok x) u
    (record { meets = refl; counts = refl; same_full = refl; keeps = record { handled = refl; callers = refl; slots = refl; live = refl }; grows = grows_none (Some 0) (Ok x) a.run })

-- memory is wanting
pub out_of_memory : {A B : Type 0} (w : A → B) (h : Setting) (p q : BareCore → Runs B) (a0 a : At) →
    Underway h p a q a0 → Ran w (Err stop.NoMemory) h q a0 a
out_of_memory w h p q a0 a u = record {
  meets = u.left.given_up (meter_of a.run a.told) (inl refl);
  counts = u.count;
  same_full = u.full;
  keeps = tt;
  grows = tt;
}

-- a part is done, and what goes on with what it gave is left
pub turned : {A B C : Type 0} (v : C → A) (h : Setting) (g : BareCore → Runs A) (p q : BareCore → Runs B)
    (k : A → BareCore → Runs B) (a0 a1 a2 : At) (x : C) → Goes h.funcs.now h.depth (g (core_of a1.run)) (p (core_of a1.run)) k →
    Ran v (Ok x) h g a1 a2 → Underway h p a1 q a0 → Underway h (k (v x)) a2 q a0
turned v h g p q k a0 a1 a2 x goes n u = record {
  left = left_left h.funcs.now h.depth (k (v x) (core_of a2.run)) (p (core_of a1.run)) (q (core_of a0.run))
      (meter_of a1.run a1.told) (meter_of a2.run a2.told) (meter_of a0.run a0.told)
      (goes_on h.funcs.now h.depth (g (core_of a1.run)) (p (core_of a1.run)) k goes (meter_of a1.run a1.told) (v x)
      (core_of a2.run) (meter_of a2.run a2.told) n.meets) u.left;
  count = n.counts ∙ u.count;
  full = n.same_full ∙ u.full;
  round = rounds a0.run a1.run a2.run u.round n.keeps;
  height = lower a0.run a1.run a2.run u.height n.grows;
}

-- it stops the whole
pub turn_failed : {A B C D : Type 0} (v : C → A) (w : D → B) (h : Setting) (g : BareCore → Runs A) (p q : BareCore → Runs B)
    (k : A → BareCore → Runs B) (a0 a1 a2 : At) (e : Stopped) →
    Goes h.funcs.now h.depth (g (core_of a1.run)) (p (core_of a1.run)) k → Ran v (Err e) h g a1 a2 → Underway h p a1 q a0 →
    Ran w (Err e) h q a0 a2
turn_failed v w h g p q k a0 a1 a2 e goes n u = ended w h p q a0 a1 a2 (Err e) u
    (failed v w h.funcs.now h.depth (g (core_of a1.run)) (p (core_of a1.run)) k goes (meter_of a1.run a1.told) e a1 a2 n)

-- ---- an expression in a loop

-- an answer of an expression of the rules
abbrev pub Valued : Result Value Stopped → Setting → Tree → At → At → Type 0
Valued r h e a a1 =
    Answers (Some 0) value_of r ((meaning_of h.funcs.now h.depth).expr e (core_of a.run) (meter_of a.run a.told))
    ((cutting_of h.funcs.now h.depth).expr e (core_of a.run) (meter_of a.run a.told)) a a1

-- its value is there
pub turned_eval : {B : Type 0} (h : Setting) (e : Tree) (k : rules.Value → BareCore → Runs B) (q : BareCore → Runs B)
    (a0 a1 a2 : At) (x : Value) → Valued (Ok x) h e a1 a2 → Underway h (λ c. Eval e c k) a1 q a0 →
    Underway h (k (value_of x)) a2 q a0
turned_eval h e k q a0 a1 a2 x n u = record {
  left = left_left h.funcs.now h.depth (k (value_of x) (core_of a2.run)) (Eval e (core_of a1.run) k) (q (core_of a0.run))
      (meter_of a1.run a1.told) (meter_of a2.run a2.told) (meter_of a0.run a0.told)
      (goes_on h.funcs.now h.depth (Eval e (core_of a1.run) (λ y c2. Ret y c2)) (Eval e (core_of a1.run) k) k
      (one_evaluated h.funcs.now h.depth e (core_of a1.run) k) (meter_of a1.run a1.told) (value_of x) (core_of a2.run)
      (meter_of a2.run a2.told) (ap (λ r. r >>= λ y c2 h3. Done y c2 h3) n.meets)) u.left;
  count = n.counts ∙ u.count;
  full = n.same_full ∙ u.full;
  round = rounds a0.run a1.run a2.run u.round n.keeps;
  height = lower a0.run a1.run a2.run u.height n.grows;
}

-- where an expression stops, what goes on with its value does
pub eval_failed : {A B : Type 0} (w : A → B) (fs : List TreeFunc) (d : ℕ) (e : Tree) (c : BareCore)
    (k : rules.Value → BareCore → Runs B) (h : Meter) (r : Stopped) (c1 : BareCore) (h1 : Meter) →
    Meets value_of (Err r) c1 h1 ((meaning_of fs d).expr e c h) ((cutting_of fs d).expr e c h) →
    Meets w (Err r) c1 h1 (run (meaning_of fs d) (Eval e c k) h) (cuts (meaning_of fs d) (cutting_of fs d) (Eval e c k) h)
eval_failed w fs d e c k h stop.NoMemory c1 h1 m = inr (inl m)
eval_failed w fs d e c k h stop.SinkFault c1 h1 m = inr (inl m)
eval_failed w fs d e c k h (stop.Thrown x) c1 h1 m = ap (λ r. r >>= λ x c1 h1. run (meaning_of fs d) (k x c1) h1) m
eval_failed w fs d e c k h (stop.Fault code span) c1 h1 m = ap (λ r. r >>= λ x c1 h1. run (meaning_of fs d) (k x c1) h1) m
eval_failed w fs d e c k h (stop.Stuck mistake span) c1 h1 m = ap (λ r. r >>= λ x c1 h1. run (meaning_of fs d) (k x c1) h1) m

pub turn_eval_failed : {A B : Type 0} (w : A → B) (h : Setting) (e : Tree) (k : rules.Value → BareCore → Runs B)
    (q : BareCore → Runs B) (a0 a1 a2 : At) (r : Stopped) → Valued (Err r) h e a1 a2 → Underway h (λ c. Eval e c k) a1 q a0 →
    Ran w (Err r) h q a0 a2
turn_eval_failed {A} {B} w h e k q a0 a1 a2 r n u = ended w h (λ c. Eval e c k) q a0 a1 a2 (Err r) u (record {
  meets = eval_failed w h.funcs.now h.depth e (core_of a1.run) k (meter_of a1.run a1.told) r (core_of a2.run)
      (meter_of a2.run a2.told) n.meets;
  counts = counts_err Value A r a1.faults a2.faults n.counts;
  same_full = n.same_full;
  keeps = keeps_err Value A r a1.run a2.run n.keeps;
  grows = grows_err A (Some 0) r a1.run a2.run;
})
