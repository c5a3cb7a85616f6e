-- One place and one variable, exchanged.
use Rattle.std.proofs.Common.{◌≡◌, ℕ, zero, suc, ◌+◌, ◌<◌, ◌≤◌, Bool, true, false, List, [], ◌∷◌, ◌++◌, length, get_or, take, drop, set, refl, sym, ap, ◌∙◌, arith, append_assoc}
use Rattle.std.proofs.Math.Seq.{drop-cons}
use Rattle.std.proofs.lemmas.List.{take_more_set, drop-set-lt}
use Rattle.asl_value.specs.declared.value.Value.{Value}
use Rattle.asl_machine.specs.Storage.{given_one, given, taken_one, taken, vars_from}
use Rattle.asl_machine.specs.declared.memory.GlobalVar.{GlobalVar}
use Rattle.asl_tree.specs.declared.checked.Global.{Global}

pub open_at : {A : Type 0} (xs : List A) (k : ℕ) (x : A) → k < length xs → x ≡ get_or xs k x → drop k xs ≡ x ∷ drop (k + 1) xs
open_at xs k x within here =
    let up : suc k ≡ k + 1 = omega arith in
    drop-cons xs k x within ∙ ap (λ n. get_or xs k x ∷ drop n xs) up ∙ ap (λ z. z ∷ drop (k + 1) xs) (sym here)

get_twice : {A : Type 0} (xs : List A) (k : ℕ) (d : A) → get_or xs k d ≡ get_or xs k (get_or xs k d)
get_twice [] k d = refl
get_twice (x ∷ xs) zero d = refl
get_twice (x ∷ xs) (suc k) d = get_twice xs k d

-- ---- a place that isn't marked

pub passed_given : (m : Bool) (x : Value) (vs : List GlobalVar) (k : ℕ) (rest : List GlobalVar → List Value) → m ≡ false → given_one m x (drop k vs) rest ≡ x ∷ rest (drop k vs)
passed_given m x vs k rest e = rw e refl

pub passed_taken : (m : Bool) (x : Value) (vs : List GlobalVar) (k : ℕ) (rest : List GlobalVar → List GlobalVar) → m ≡ false → take k vs ++ taken_one m x (drop k vs) rest ≡ take k vs ++ rest (drop k vs)
passed_taken m x vs k rest e = rw e refl

-- ---- no variable is left

none_left : {A : Type 0} (vs : List A) (k : ℕ) → length vs ≤ k → drop k vs ≡ []
none_left [] zero h = refl
none_left [] (suc k) h = refl
none_left (v ∷ vs) zero h = absurd (omega (arith, h))
none_left (v ∷ vs) (suc k) h = none_left vs k (omega (arith, h))

pub ended_given : (m : Bool) (x : Value) (vs : List GlobalVar) (k : ℕ) (rest : List GlobalVar → List Value) → length vs ≤ k → given_one m x (drop k vs) rest ≡ x ∷ rest (drop k vs)
ended_given true x vs k rest h = rw (none_left vs k h) refl
ended_given false x vs k rest h = refl

pub ended_taken : (m : Bool) (x : Value) (vs : List GlobalVar) (k : ℕ) (rest : List GlobalVar → List GlobalVar) → length vs ≤ k → take k vs ++ taken_one m x (drop k vs) rest ≡ take k vs ++ rest (drop k vs)
ended_taken true x vs k rest h = rw (none_left vs k h) refl
ended_taken false x vs k rest h = refl

-- ---- they are exchanged

pub swapped_given : (m : Bool) (x : Value) (vs ws : List GlobalVar) (k : ℕ) (v : GlobalVar) (rest : List GlobalVar → List Value) → m ≡ true → k < length vs → v ≡ get_or vs k v → ws ≡ set vs k (record v { value = x }) →
    given_one m x (drop k vs) rest ≡ v.value ∷ rest (drop (k + 1) ws)
swapped_given m x vs ws k v rest e within here same =
    rw (e, open_at vs k v within here, same) (ap (λ z. v.value ∷ rest z) (sym (drop-set-lt (k + 1) vs k (record v { value = x }) (omega arith))))

pub swapped_taken : (m : Bool) (x : Value) (vs ws : List GlobalVar) (k : ℕ) (v : GlobalVar) (rest : List GlobalVar → List GlobalVar) → m ≡ true → k < length vs → v ≡ get_or vs k v → ws ≡ set vs k (record v { value = x }) →
    take k vs ++ taken_one m x (drop k vs) rest ≡ take (k + 1) ws ++ rest (drop (k + 1) ws)
swapped_taken m x vs ws k v rest e within here same =
    rw (e, open_at vs k v within here, same)
    (sym (append_assoc (take k vs) (record v { value = x } ∷ []) (rest (drop (k + 1) vs))) ∙
    ap (λ z. z ++ rest (drop (k + 1) vs)) (sym (take_more_set vs k (record v { value = x }) within)) ∙
    ap (λ z. take (k + 1) (set vs k (record v { value = x })) ++ rest z) (sym (drop-set-lt (k + 1) vs k (record v { value = x }) (omega arith))))

-- ---- a place more in a loop

pub next_given : (ms : List Bool) (xs ys all : List Value) (vs ws : List GlobalVar) (i k n : ℕ) (x y : Value) → i < length ms → i < length xs → x ≡ get_or xs i x → ys ≡ set xs i y →
    ((rest : List GlobalVar → List Value) → given_one (get_or ms i false) x (drop k vs) rest ≡ y ∷ rest (drop n ws)) →
    take i xs ++ given (drop i ms) (drop i xs) (drop k vs) ≡ all → take (i + 1) ys ++ given (drop (i + 1) ms) (drop (i + 1) ys) (drop n ws) ≡ all
next_given ms xs ys all vs ws i k n x y p q there same step e =
    rw same
    (ap (λ z. z ++ given (drop (i + 1) ms) (drop (i + 1) (set xs i y)) (drop n ws)) (take_more_set xs i y q) ∙
    ap (λ z. (take i xs ++ y ∷ []) ++ given (drop (i + 1) ms) z (drop n ws)) (drop-set-lt (i + 1) xs i y (omega arith)) ∙
    append_assoc (take i xs) (y ∷ []) (given (drop (i + 1) ms) (drop (i + 1) xs) (drop n ws)) ∙
    ap (λ z. take i xs ++ z) (sym (step (given (drop (i + 1) ms) (drop (i + 1) xs)))) ∙
    ap (λ z. take i xs ++ z) (sym (ap (λ zs. given zs (drop i xs) (drop k vs)) (open_at ms i (get_or ms i false) p (get_twice ms i false)) ∙ ap (λ zs. given (get_or ms i false ∷ drop (i + 1) ms) zs (drop k vs)) (open_at xs i x q there))) ∙ e)

pub next_taken : (ms : List Bool) (xs ys : List Value) (vs ws all : List GlobalVar) (i k n : ℕ) (x y : Value) → i < length ms → i < length xs → x ≡ get_or xs i x → ys ≡ set xs i y →
    ((rest : List GlobalVar → List GlobalVar) → take k vs ++ taken_one (get_or ms i false) x (drop k vs) rest ≡ take n ws ++ rest (drop n ws)) →
    take k vs ++ taken (drop i ms) (drop i xs) (drop k vs) ≡ all → take n ws ++ taken (drop (i + 1) ms) (drop (i + 1) ys) (drop n ws) ≡ all
next_taken ms xs ys vs ws all i k n x y p q there same step e =
    rw same
    (ap (λ z. take n ws ++ taken (drop (i + 1) ms) z (drop n ws)) (drop-set-lt (i + 1) xs i y (omega arith)) ∙
    sym (step (taken (drop (i + 1) ms) (drop (i + 1) xs))) ∙
    ap (λ z. take k vs ++ z) (sym (ap (λ zs. taken zs (drop i xs) (drop k vs)) (open_at ms i (get_or ms i false) p (get_twice ms i false)) ∙ ap (λ zs. taken (get_or ms i false ∷ drop (i + 1) ms) zs (drop k vs)) (open_at xs i x q there))) ∙ e)

-- ---- the variables before the first call

kept_first : (g : Global) (gs : List Global) (b : Bool) → b ≡ g.is_mutable → vars_from (g ∷ gs) ≡ vars_from (g ∷ []) ++ vars_from gs
kept_first g gs true e = rw (sym e) refl
kept_first g gs false e = rw (sym e) refl

pub vars_next : (gs : List Global) (k : ℕ) (g : Global) (vs more all : List GlobalVar) → k < length gs → g ≡ get_or gs k g → more ≡ vs ++ vars_from (g ∷ []) → vs ++ vars_from (drop k gs) ≡ all → more ++ vars_from (drop (k + 1) gs) ≡ all
vars_next gs k g vs more all within here grown e =
    ap (λ z. z ++ vars_from (drop (k + 1) gs)) grown ∙ append_assoc vs (vars_from (g ∷ [])) (vars_from (drop (k + 1) gs)) ∙
    ap (λ z. vs ++ z) (sym (ap vars_from (open_at gs k g within here) ∙ kept_first g (drop (k + 1) gs) g.is_mutable refl)) ∙ e
