-- A part of a plan, and what goes on behind it: the whole gives what goes on gives where the part is done.
use Rattle.std.proofs.Common.{◌≡◌, ℕ, ◌⊎◌, inl, inr, List, [], ◌∷◌, ◌++◌, Result, Ok, Err, refl, sym, ap, ◌∙◌, subst}
use Rattle.asl_rules.specs.runs.Cuts.{rest, cuts}
use Rattle.asl_rules.specs.runs.Forms.{eval_all, at_once}
use Rattle.asl_rules.specs.runs.Plans.{Meter, Outcome, Done, Thrown, Halt, Ret, Eval, Pure, Good, Bad, lift, run, ◌>>=◌}
use Rattle.asl_rules.specs.runs.StatementForms.{Ahead, ready, by_one, by_all, eval_step, eval_steps, Store, store_each}
use Rattle.asl_rules.specs.runs.Trees.{Tree}
use Rattle.asl_rules.specs.private.TypedMeaning.{BareCore, Runs}
use Rattle.asl_rules.specs.values.Values.{Value, Exit, Normal}
use Rattle.asl_tree.specs.declared.act.TreeFunc.{TreeFunc}
use Rattle.asl_branches.specs.declared.stop.Stop.{Stop as Stopped}
use Rattle.asl_branches.specs.declared.stop.Stop.TheVariants as stop
use Rattle.asl_branches.specs.Meets.{Is, Meets, Left}
use Rattle.asl_branches.specs.View.{meaning_of, cutting_of}

-- a whole is a part, and then what goes on with what the part gives
pub record Goes {A B : Type 0} (fs : List TreeFunc) (d : ℕ) (g : Runs A) (f : Runs B) (k : A → BareCore → Runs B) : Type 0 where
  pub same : (h : Meter) → run (meaning_of fs d) f h ≡ run (meaning_of fs d) g h >>= λ x c1 h1. run (meaning_of fs d) (k x c1) h1
  pub cut : (h u : Meter) → cuts (meaning_of fs d) (cutting_of fs d) g h u → cuts (meaning_of fs d) (cutting_of fs d) f h u
  pub later : (h u : Meter) (x : A) (c1 : BareCore) (h1 : Meter) → run (meaning_of fs d) g h ≡ Done x c1 h1 → cuts (meaning_of fs d) (cutting_of fs d) (k x c1) h1 u → cuts (meaning_of fs d) (cutting_of fs d) f h u

-- ---- what is left

-- an answer of what is left is one of the whole
pub meets_left : {A B : Type 0} (w : A → B) (fs : List TreeFunc) (d : ℕ) (p q : Runs B) (h0 h : Meter) → Left fs d p h q h0 → (r : Result A Stopped) (c1 : BareCore) (h1 : Meter) →
    Meets w r c1 h1 (run (meaning_of fs d) p h) (cuts (meaning_of fs d) (cutting_of fs d) p h) → Meets w r c1 h1 (run (meaning_of fs d) q h0) (cuts (meaning_of fs d) (cutting_of fs d) q h0)
meets_left w fs d p q h0 h l (Ok x) c1 h1 m = sym l.same ∙ m
meets_left w fs d p q h0 h l (Err stop.NoMemory) c1 h1 m = l.given_up h1 m
meets_left w fs d p q h0 h l (Err stop.SinkFault) c1 h1 m = l.given_up h1 m
meets_left w fs d p q h0 h l (Err (stop.Thrown x)) c1 h1 m = sym l.same ∙ m
meets_left w fs d p q h0 h l (Err (stop.Fault code span)) c1 h1 m = sym l.same ∙ m
meets_left w fs d p q h0 h l (Err (stop.Stuck mistake span)) c1 h1 m = sym l.same ∙ m

pub left_left : {A : Type 0} (fs : List TreeFunc) (d : ℕ) (p q q0 : Runs A) (h h1 h0 : Meter) → Left fs d p h1 q h → Left fs d q h q0 h0 → Left fs d p h1 q0 h0
left_left fs d p q q0 h h1 h0 a b = record { same = a.same ∙ b.same; given_up = λ u w. b.given_up u (a.given_up u w) }

-- what an operation on values gives, the run does
pub at_once_meets : {A B : Type 0} (w : A → B) (fs : List TreeFunc) (d : ℕ) (r : Result A Stopped) (p : Pure B) (c : BareCore) (h : Meter) → Is w r p →
    Meets w r c h (run (meaning_of fs d) (at_once p c) h) (cuts (meaning_of fs d) (cutting_of fs d) (at_once p c) h)
at_once_meets w fs d (Ok x) p c h e = ap (λ q. run (meaning_of fs d) (at_once q c) h) e
at_once_meets w fs d (Err stop.NoMemory) p c h e = inl refl
at_once_meets w fs d (Err stop.SinkFault) p c h e = absurd e
at_once_meets w fs d (Err (stop.Thrown x)) p c h e = absurd e
at_once_meets w fs d (Err (stop.Fault code span)) p c h e = ap (λ q. run (meaning_of fs d) (at_once q c) h) e
at_once_meets w fs d (Err (stop.Stuck mistake span)) p c h e = ap (λ q. run (meaning_of fs d) (at_once q c) h) e

-- where an operation on values gives none, the run stops
pub lift_meets : {A B C D : Type 0} (v : C → D) (w : A → B) (fs : List TreeFunc) (d : ℕ) (e : Stopped) (p : Pure D) → Is v (Err e) p → (c : BareCore) (h : Meter) (k : D → Runs B) →
    Meets w (Err e) c h (run (meaning_of fs d) (lift p c k) h) (cuts (meaning_of fs d) (cutting_of fs d) (lift p c k) h)
lift_meets v w fs d stop.NoMemory p e c h k = inl refl
lift_meets v w fs d stop.SinkFault p e c h k = absurd e
lift_meets v w fs d (stop.Thrown x) p e c h k = absurd e
lift_meets v w fs d (stop.Fault code span) p e c h k = ap (λ q. run (meaning_of fs d) (lift q c k) h) e
lift_meets v w fs d (stop.Stuck mistake span) p e c h k = ap (λ q. run (meaning_of fs d) (lift q c k) h) e

-- ---- what follows from it

-- where the part stops, the whole does
pub goes_failed : {A B C D : Type 0} (v : C → A) (w : D → B) (fs : List TreeFunc) (d : ℕ) (g : Runs A) (f : Runs B) (k : A → BareCore → Runs B) → Goes fs d g f k → (h : Meter) (e : Stopped) (c1 : BareCore) (h1 : Meter) →
    Meets v (Err e) c1 h1 (run (meaning_of fs d) g h) (cuts (meaning_of fs d) (cutting_of fs d) g h) → Meets w (Err e) c1 h1 (run (meaning_of fs d) f h) (cuts (meaning_of fs d) (cutting_of fs d) f h)
goes_failed v w fs d g f k goes h stop.NoMemory c1 h1 m = goes.cut h h1 m
goes_failed v w fs d g f k goes h stop.SinkFault c1 h1 m = goes.cut h h1 m
goes_failed v w fs d g f k goes h (stop.Thrown x) c1 h1 m = goes.same h ∙ ap (λ r. r >>= λ x c1 h1. run (meaning_of fs d) (k x c1) h1) m
goes_failed v w fs d g f k goes h (stop.Fault code span) c1 h1 m = goes.same h ∙ ap (λ r. r >>= λ x c1 h1. run (meaning_of fs d) (k x c1) h1) m
goes_failed v w fs d g f k goes h (stop.Stuck mistake span) c1 h1 m = goes.same h ∙ ap (λ r. r >>= λ x c1 h1. run (meaning_of fs d) (k x c1) h1) m

-- where it is done, what goes on is left
pub goes_on : {A B : Type 0} (fs : List TreeFunc) (d : ℕ) (g : Runs A) (f : Runs B) (k : A → BareCore → Runs B) → Goes fs d g f k → (h : Meter) (x : A) (c1 : BareCore) (h1 : Meter) → run (meaning_of fs d) g h ≡ Done x c1 h1 → Left fs d (k x c1) h1 f h
goes_on fs d g f k goes h x c1 h1 e = record {
  same = sym (goes.same h ∙ ap (λ r. r >>= λ x c1 h1. run (meaning_of fs d) (k x c1) h1) e);
  given_up = λ u w. goes.later h u x c1 h1 e w;
}

-- and an answer of it is one of the whole
pub goes_met : {A B D : Type 0} (w : D → B) (fs : List TreeFunc) (d : ℕ) (g : Runs A) (f : Runs B) (k : A → BareCore → Runs B) → Goes fs d g f k → (h : Meter) (x : A) (c1 : BareCore) (h1 : Meter) → run (meaning_of fs d) g h ≡ Done x c1 h1 →
    (r : Result D Stopped) (c2 : BareCore) (h2 : Meter) → Meets w r c2 h2 (run (meaning_of fs d) (k x c1) h1) (cuts (meaning_of fs d) (cutting_of fs d) (k x c1) h1) →
    Meets w r c2 h2 (run (meaning_of fs d) f h) (cuts (meaning_of fs d) (cutting_of fs d) f h)
goes_met w fs d g f k goes h x c1 h1 e r c2 h2 m = meets_left w fs d (k x c1) f h h1 (goes_on fs d g f k goes h x c1 h1 e) r c2 h2 m

-- ---- parts

pub goes_ret : {A B : Type 0} (fs : List TreeFunc) (d : ℕ) (x : A) (c : BareCore) (k : A → BareCore → Runs B) → Goes fs d (Ret x c) (k x c) k
goes_ret fs d x c k = record {
  same = λ h. refl;
  cut = λ h u w. not_within h u w;
  later = λ h u y c1 h1 e w. moved h u y c1 h1 e w;
}
  where
    not_within : (h u : Meter) → (u ≡ h) ⊎ ⊥ → cuts (meaning_of fs d) (cutting_of fs d) (k x c) h u
    not_within h u (inl e) = inl e
    not_within h u (inr w) = absurd w

    moved : (h u : Meter) (y : _) (c1 : BareCore) (h1 : Meter) → Done x c h ≡ Done y c1 h1 → cuts (meaning_of fs d) (cutting_of fs d) (k y c1) h1 u → cuts (meaning_of fs d) (cutting_of fs d) (k x c) h u
    moved h u y c1 h1 e w =
        let one : x ≡ y = cc in
        let two : c ≡ c1 = cc in
        let three : h ≡ h1 = cc in
        subst (λ z. cuts (meaning_of fs d) (cutting_of fs d) (k z c) h u) (sym one)
        (subst (λ z. cuts (meaning_of fs d) (cutting_of fs d) (k y z) h u) (sym two)
        (subst (λ z. cuts (meaning_of fs d) (cutting_of fs d) (k y c1) z u) (sym three) w))

pub goes_lift : {A B C : Type 0} (fs : List TreeFunc) (d : ℕ) (p : Pure C) (c : BareCore) (g : C → Runs A) (f : C → Runs B) (k : A → BareCore → Runs B) → ((x : C) → Goes fs d (g x) (f x) k) → Goes fs d (lift p c g) (lift p c f) k
goes_lift fs d (Good x) c g f k goes = goes x
goes_lift fs d (Bad e) c g f k goes = record {
  same = λ h. refl;
  cut = λ h u w. w;
  later = λ h u x c1 h1 e w. cc;
}

pub goes_eval : {A B : Type 0} (fs : List TreeFunc) (d : ℕ) (e : Tree) (c : BareCore) (g : Value → BareCore → Runs A) (f : Value → BareCore → Runs B) (k : A → BareCore → Runs B) →
    ((x : Value) (c1 : BareCore) → Goes fs d (g x c1) (f x c1) k) → Goes fs d (Eval e c g) (Eval e c f) k
goes_eval {A} {B} fs d e c g f k goes = record {
  same = λ h. same ((meaning_of fs d).expr e c h);
  cut = λ h u w. cut h u w;
  later = λ h u x c1 h1 is w. inr (inr (later ((meaning_of fs d).expr e c h) u x c1 h1 is w));
}
  where
    same : (r : Outcome BareCore Value) → (r >>= λ x c1 h1. run (meaning_of fs d) (f x c1) h1) ≡ (r >>= λ x c1 h1. run (meaning_of fs d) (g x c1) h1) >>= λ x c1 h1. run (meaning_of fs d) (k x c1) h1
    same (Done x c1 h1) = (goes x c1).same h1
    same (Thrown x c1 h1) = refl
    same (Halt x c1 h1) = refl

    further : (r : Outcome BareCore Value) (u : Meter) → rest r (λ x c1 h1. cuts (meaning_of fs d) (cutting_of fs d) (g x c1) h1 u) (λ x c1 h1. ⊥) → rest r (λ x c1 h1. cuts (meaning_of fs d) (cutting_of fs d) (f x c1) h1 u) (λ x c1 h1. ⊥)
    further (Done x c1 h1) u w = (goes x c1).cut h1 u w
    further (Thrown x c1 h1) u w = w
    further (Halt x c1 h1) u w = w

    cut : (h u : Meter) → cuts (meaning_of fs d) (cutting_of fs d) (Eval e c g) h u → cuts (meaning_of fs d) (cutting_of fs d) (Eval e c f) h u
    cut h u (inl is) = inl is
    cut h u (inr (inl w)) = inr (inl w)
    cut h u (inr (inr w)) = inr (inr (further ((meaning_of fs d).expr e c h) u w))

    later : (r : Outcome BareCore Value) (u : Meter) (x : A) (c1 : BareCore) (h1 : Meter) → (r >>= λ y c2 h2. run (meaning_of fs d) (g y c2) h2) ≡ Done x c1 h1 → cuts (meaning_of fs d) (cutting_of fs d) (k x c1) h1 u →
        rest r (λ y c2 h2. cuts (meaning_of fs d) (cutting_of fs d) (f y c2) h2 u) (λ y c2 h2. ⊥)
    later (Done y c2 h2) u x c1 h1 is w = (goes y c2).later h2 u x c1 h1 is w
    later (Thrown y c2 h2) u x c1 h1 is w = cc
    later (Halt y c2 h2) u x c1 h1 is w = cc

-- ---- expressions in order

pub all_goes : {A B : Type 0} (fs : List TreeFunc) (d : ℕ) (es : List Tree) (xs : List Value) (c : BareCore) (g : List Value → BareCore → Runs A) (f : List Value → BareCore → Runs B) (k : A → BareCore → Runs B) →
    ((ys : List Value) (c1 : BareCore) → Goes fs d (g ys c1) (f ys c1) k) → Goes fs d (eval_all es xs c g) (eval_all es xs c f) k
all_goes fs d [] xs c g f k goes = goes xs c
all_goes fs d (e ∷ es) xs c g f k goes = goes_eval fs d e c (λ x c1. eval_all es (xs ++ x ∷ []) c1 g) (λ x c1. eval_all es (xs ++ x ∷ []) c1 f) k (λ x c1. all_goes fs d es (xs ++ x ∷ []) c1 g f k goes)

-- expressions in order, and what comes with their values
pub all_evaluated : {B : Type 0} (fs : List TreeFunc) (d : ℕ) (es : List Tree) (c : BareCore) (k : List Value → BareCore → Runs B) → Goes fs d (eval_all es [] c (λ xs c1. Ret xs c1)) (eval_all es [] c k) k
all_evaluated fs d es c k = all_goes fs d es [] c (λ xs c1. Ret xs c1) k k (λ ys c1. goes_ret fs d ys c1 k)

-- an expression, and what comes with its value
pub one_evaluated : {B : Type 0} (fs : List TreeFunc) (d : ℕ) (e : Tree) (c : BareCore) (k : Value → BareCore → Runs B) → Goes fs d (Eval e c (λ x c1. Ret x c1)) (Eval e c k) k
one_evaluated fs d e c k = goes_eval fs d e c (λ x c1. Ret x c1) k k (λ x c1. goes_ret fs d x c1 k)

-- ---- steps

pub step_goes : {N A B : Type 0} (fs : List TreeFunc) (d : ℕ) (s : Ahead Tree N) (c : BareCore) (g : N → BareCore → Runs A) (f : N → BareCore → Runs B) (k : A → BareCore → Runs B) →
    ((n : N) (c1 : BareCore) → Goes fs d (g n c1) (f n c1) k) → Goes fs d (eval_step s c g) (eval_step s c f) k
step_goes fs d (ready n) c g f k goes = goes n c
step_goes fs d (by_one e m) c g f k goes = goes_eval fs d e c (λ x c1. g (m x) c1) (λ x c1. f (m x) c1) k (λ x c1. goes (m x) c1)
step_goes fs d (by_all es m) c g f k goes = all_goes fs d es [] c (λ xs c1. g (m xs) c1) (λ xs c1. f (m xs) c1) k (λ xs c1. goes (m xs) c1)

-- a step, and what comes with it
pub one_stepped : {N B : Type 0} (fs : List TreeFunc) (d : ℕ) (s : Ahead Tree N) (c : BareCore) (k : N → BareCore → Runs B) → Goes fs d (eval_step s c (λ n c1. Ret n c1)) (eval_step s c k) k
one_stepped fs d s c k = step_goes fs d s c (λ n c1. Ret n c1) k k (λ n c1. goes_ret fs d n c1 k)

pub steps_goes : {N A B : Type 0} (fs : List TreeFunc) (d : ℕ) (ss : List (Ahead Tree N)) (ns : List N) (c : BareCore) (g : List N → BareCore → Runs A) (f : List N → BareCore → Runs B) (k : A → BareCore → Runs B) →
    ((ms : List N) (c1 : BareCore) → Goes fs d (g ms c1) (f ms c1) k) → Goes fs d (eval_steps ss ns c g) (eval_steps ss ns c f) k
steps_goes fs d [] ns c g f k goes = goes ns c
steps_goes fs d (s ∷ ss) ns c g f k goes = step_goes fs d s c (λ n c1. eval_steps ss (ns ++ n ∷ []) c1 g) (λ n c1. eval_steps ss (ns ++ n ∷ []) c1 f) k (λ n c1. steps_goes fs d ss (ns ++ n ∷ []) c1 g f k goes)

-- steps, and what comes with them
pub all_stepped : {N B : Type 0} (fs : List TreeFunc) (d : ℕ) (ss : List (Ahead Tree N)) (ns : List N) (c : BareCore) (k : List N → BareCore → Runs B) → Goes fs d (eval_steps ss ns c (λ ms c1. Ret ms c1)) (eval_steps ss ns c k) k
all_stepped fs d ss ns c k = steps_goes fs d ss ns c (λ ms c1. Ret ms c1) k k (λ ms c1. goes_ret fs d ms c1 k)

-- ---- stores

-- a store, and then the others
pub one_stored : {N : Type 0} (fs : List TreeFunc) (d : ℕ) (s : Store BareCore Tree N) (ss : List (Store BareCore Tree N)) (c : BareCore) → Goes fs d (store_each (s ∷ []) c) (store_each (s ∷ ss) c) (λ x c1. store_each ss c1)
one_stored {N} fs d s ss c =
    let none : BareCore → Runs Exit = store_each {N = N} [] in
    let others : BareCore → Runs Exit = store_each {N = N} ss in
    let k : Exit → BareCore → Runs Exit = λ x c1. others c1 in
    steps_goes fs d s.steps [] c (λ ns c1. lift (s.put ns c1) c1 none) (λ ns c1. lift (s.put ns c1) c1 others) k
    (λ ns c1. goes_lift fs d (s.put ns c1) c1 none others k (λ c2. goes_ret fs d Normal c2 k))
