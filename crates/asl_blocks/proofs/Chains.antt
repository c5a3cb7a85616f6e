-- Steps one after another.
use Rattle.std.proofs.Common.{[], ◌++◌, map, append_assoc, ◌≡◌, ℕ, ◌+◌, ◌<◌, suc, length, get_or, drop, List, ◌∷◌, Result, Ok, Err, refl, sym, ap, ◌∙◌, arith}
use Rattle.std.proofs.Math.Seq.{drop-cons}
use Rattle.asl_syn.specs.declared.code.Fault.{Fault}
use Rattle.asl_rules.specs.Faults.{◌>>=◌, ◌>>◌}
use Rattle.asl_blocks.specs.private.Walks.{after}

-- two steps whose second is the same
pub then_same : {A B : Type 0} (r : Result A Fault) (f g : A → Result B Fault) → ((x : A) → f x ≡ g x) → (r >>= f) ≡ (r >>= g)
then_same (Ok x) f g h = h x
then_same (Err e) f g h = refl

pub then_then : {A B C : Type 0} (r : Result A Fault) (f : A → Result B Fault) (g : B → Result C Fault) → ((r >>= f) >>= g) ≡ (r >>= λ x. f x >>= g)
then_then (Ok x) f g = refl
then_then (Err e) f g = refl

-- a condition before two steps
pub need_then : {A B : Type 0} (c : Result (Unit {0}) Fault) (r : Result A Fault) (f : A → Result B Fault) → (c >> (r >>= f)) ≡ ((c >> r) >>= f)
need_then (Ok x) r f = refl
need_then (Err e) r f = refl

pub need_need : {A : Type 0} (c d : Result (Unit {0}) Fault) (r : Result A Fault) → (c >> (d >> r)) ≡ ((c >> d) >> r)
need_need (Ok x) d r = refl
need_need (Err e) d r = refl

-- a condition before nothing
pub need_last : (c : Result (Unit {0}) Fault) → (c >> Ok tt) ≡ c
need_last (Ok x) = refl
need_last (Err e) = refl

-- the rest of a list at a place in it
pub next_of : {A : Type 0} (ss : List A) (k : ℕ) (s : A) → k < length ss → s ≡ get_or ss k s → drop k ss ≡ s ∷ drop (k + 1) ss
next_of ss k s within here =
    let up : suc k ≡ k + 1 = omega arith in
    drop-cons ss k s within ∙ ap (λ n. get_or ss k s ∷ drop n ss) up ∙ ap (λ z. z ∷ drop (k + 1) ss) (sym here)

-- ---- steps, each from where the one before it came

-- one more step of a loop over what is made of a list
pub after_mapped : {X Y S : Type 0} (f : Y → S → Result S Fault) (g : X → Y) (xs : List X) (k : ℕ) (x : X) (s s1 : S) (all : Result S Fault) → k < length xs → x ≡ get_or xs k x →
    f (g x) s ≡ Ok s1 → after f (map g (drop k xs)) s ≡ all → after f (map g (drop (k + 1) xs)) s1 ≡ all
after_mapped f g xs k x s s1 all within here h inv =
    sym (ap (λ r. r >>= λ s2. after f (map g (drop (k + 1) xs)) s2) h)
    ∙ ap (λ rest. after f (map g rest) s) (sym (next_of xs k x within here))
    ∙ inv

-- and over a list
pub after_one : {X S : Type 0} (f : X → S → Result S Fault) (xs : List X) (k : ℕ) (x : X) (s s1 : S) (all : Result S Fault) → k < length xs → x ≡ get_or xs k x →
    f x s ≡ Ok s1 → after f (drop k xs) s ≡ all → after f (drop (k + 1) xs) s1 ≡ all
after_one f xs k x s s1 all within here h inv =
    sym (ap (λ r. r >>= λ s2. after f (drop (k + 1) xs) s2) h)
    ∙ ap (λ rest. after f rest s) (sym (next_of xs k x within here))
    ∙ inv

-- ---- each by itself

-- one more of a list, each of which is found by itself
pub each_one : {X Y : Type 0} (R : List X → Result (List Y) Fault) (r : X → Result Y Fault) → ((x : X) (xs : List X) → R (x ∷ xs) ≡ (r x >>= λ y. R xs >>= λ ys. Ok (y ∷ ys))) →
    (xs : List X) (k : ℕ) (x : X) (y : Y) (before more : List Y) (all : Result (List Y) Fault) → k < length xs → x ≡ get_or xs k x → r x ≡ Ok y → more ≡ before ++ y ∷ [] →
    (R (drop k xs) >>= λ ys. Ok (before ++ ys)) ≡ all → (R (drop (k + 1) xs) >>= λ ys. Ok (more ++ ys)) ≡ all
each_one R r each xs k x y before more all within here h m inv =
    ap (λ l. R (drop (k + 1) xs) >>= λ ys. Ok (l ++ ys)) m
    ∙ then_same (R (drop (k + 1) xs)) _ _ (λ ys. ap Ok (append_assoc before (y ∷ []) ys))
    ∙ sym (then_then (R (drop (k + 1) xs)) (λ ys. Ok (y ∷ ys)) (λ ys. Ok (before ++ ys)))
    ∙ sym (ap (λ q. (q >>= λ y. R (drop (k + 1) xs) >>= λ ys. Ok (y ∷ ys)) >>= λ ys. Ok (before ++ ys)) h)
    ∙ ap (λ q. q >>= λ ys. Ok (before ++ ys)) (sym (each x (drop (k + 1) xs)))
    ∙ ap (λ rest. R rest >>= λ ys. Ok (before ++ ys)) (sym (next_of xs k x within here))
    ∙ inv

pub then_itself : {A : Type 0} (r : Result A Fault) → (r >>= λ x. Ok x) ≡ r
then_itself (Ok x) = refl
then_itself (Err e) = refl

pub append_nothing : {A : Type 0} (xs : List A) → xs ++ [] ≡ xs
append_nothing [] = refl
append_nothing (x ∷ xs) = ap (λ l. x ∷ l) (append_nothing xs)
