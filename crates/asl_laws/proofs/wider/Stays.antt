-- Answers that stay: where the first is a value, the second is the same value. A fault may go, or be another.
use Rattle.std.proofs.Common.{◌≡◌, Bool, true, false, cond, List, [], ◌∷◌, map, Option, None, Ok, Err, refl, sym, ap, subst}
use Rattle.std.specs.Prelude.{Result}
use Rattle.asl_syn.specs.declared.token.Span.{Span}
use Rattle.asl_syn.specs.declared.code.Fault.{Fault}
use Rattle.asl_syn.specs.declared.code.StaticCode.{StaticCode}
use Rattle.asl_rules.specs.Faults.{◌>>=◌, ◌>>◌, need, found_or}

unfoldable pub Stays : {X : Type 0} → Result X Fault → Result X Fault → Type 0
Stays (Ok x) s = s ≡ Ok x
Stays (Err e) s = Unit {0}

pub stays_same : {X : Type 0} (r : Result X Fault) → Stays r r
unfolding Stays
stays_same (Ok x) = refl
stays_same (Err e) = tt

pub stays_equal : {X : Type 0} (r s : Result X Fault) → s ≡ r → Stays r s
stays_equal r s e = subst (λ z. Stays r z) (sym e) (stays_same r)

pub stays_err : {X : Type 0} (e : Fault) (s : Result X Fault) → Stays (Err e) s
unfolding Stays
stays_err e s = tt

-- the value that stays
pub stays_ok : {X : Type 0} (r s : Result X Fault) (x : X) → Stays r s → r ≡ Ok x → s ≡ Ok x
unfolding Stays
stays_ok (Ok y) s x h e = subst (λ z. s ≡ z) e h
stays_ok (Err f) s x h e = elim (err_ok e) [ ]
  where
    err_ok : {X : Type 0} {f : Fault} {x : X} → (let r : Result X Fault = Err f in r) ≡ Ok x → ⊥
    err_ok h = cc

pub stays_bind : {X Y : Type 0} (r s : Result X Fault) (f g : X → Result Y Fault) → Stays r s → ((x : X) → Stays (f x) (g x)) →
    Stays (r >>= f) (s >>= g)
unfolding Stays
stays_bind (Ok x) s f g h k = subst (λ z. Stays (f x) (z >>= g)) (sym h) (k x)
stays_bind (Err e) s f g h k = tt

-- one answer, and what follows it on both sides
pub stays_step : {X Y : Type 0} (r : Result X Fault) (f g : X → Result Y Fault) → ((x : X) → Stays (f x) (g x)) → Stays (r >>= f) (r >>= g)
stays_step r f g k = stays_bind r r f g (stays_same r) k

pub stays_then : {Y : Type 0} (r s : Result (Unit {0}) Fault) (x y : Result Y Fault) → Stays r s → Stays x y → Stays (r >> x) (s >> y)
unfolding Stays
stays_then (Ok v) s x y h k = subst (λ z. Stays x (z >> y)) (sym h) k
stays_then (Err e) s x y h k = tt

pub stays_after : {Y : Type 0} (r : Result (Unit {0}) Fault) (x y : Result Y Fault) → Stays x y → Stays (r >> x) (r >> y)
stays_after r x y k = stays_then r r x y (stays_same r) k

-- a condition that holds stays
pub stays_need : (b c : Bool) (code : StaticCode) (span : Span) → (b ≡ true → c ≡ true) → Stays (need b code span) (need c code span)
stays_need true c code span h = stays_equal (need true code span) (need c code span) (ap (λ d. need d code span) (h refl))
stays_need false c code span h = stays_err _ (need c code span)

-- something that is there where the first test holds is there where the second does
pub stays_found : {X : Type 0} (b c : Bool) (o : Option X) (code : StaticCode) (span : Span) → (b ≡ true → c ≡ true) →
    Stays (found_or (cond b o None) code span) (found_or (cond c o None) code span)
stays_found true c o code span h = stays_equal _ _ (ap (λ d. found_or (cond d o None) code span) (h refl))
stays_found false c o code span h = stays_err _ (found_or (cond c o None) code span)

-- ---- values that stand in a relation

unfoldable pub StaysBy : {X : Type 0} → (X → X → Type 0) → Result X Fault → Result X Fault → Type 0
StaysBy R (Ok x) (Ok y) = R x y
StaysBy R (Ok x) (Err f) = ⊥
StaysBy R (Err e) s = Unit {0}

pub by_ok : {X : Type 0} (R : X → X → Type 0) (x y : X) → R x y → StaysBy R (Ok x) (Ok y)
unfolding StaysBy
by_ok R x y h = h

pub by_bind : {X Y : Type 0} (R : X → X → Type 0) (S : Y → Y → Type 0) (r s : Result X Fault) (f g : X → Result Y Fault) → StaysBy R r s →
    ((x y : X) → R x y → StaysBy S (f x) (g y)) → StaysBy S (r >>= f) (s >>= g)
unfolding StaysBy
by_bind R S (Ok x) (Ok y) f g h k = k x y h
by_bind R S (Ok x) (Err e) f g h k = absurd h
by_bind R S (Err e) s f g h k = tt

-- from a relation to what is the same, and back
pub from_by : {X Y : Type 0} (R : X → X → Type 0) (r s : Result X Fault) (f g : X → Result Y Fault) → StaysBy R r s →
    ((x y : X) → R x y → Stays (f x) (g y)) → Stays (r >>= f) (s >>= g)
unfolding StaysBy Stays
from_by R (Ok x) (Ok y) f g h k = k x y h
from_by R (Ok x) (Err e) f g h k = absurd h
from_by R (Err e) s f g h k = tt

pub to_by : {X Y : Type 0} (S : Y → Y → Type 0) (r s : Result X Fault) (f g : X → Result Y Fault) → Stays r s →
    ((x : X) → StaysBy S (f x) (g x)) → StaysBy S (r >>= f) (s >>= g)
unfolding StaysBy Stays
to_by S (Ok x) s f g h k = subst (λ z. StaysBy S (f x) (z >>= g)) (sym h) (k x)
to_by S (Err e) s f g h k = tt

-- ---- lists

abbrev pub Pairs : {X : Type 0} → (X → X → Type 0) → List X → List X → Type 0
Pairs R [] [] = Unit {0}
Pairs R [] (y ∷ ys) = ⊥
Pairs R (x ∷ xs) [] = ⊥
Pairs R (x ∷ xs) (y ∷ ys) = R x y × Pairs R xs ys

pub pairs_of : {A X : Type 0} (R : X → X → Type 0) (g h : A → X) (xs : List ((a : A) × R (g a) (h a))) →
    Pairs R (map g (map (λ x. x.0) xs)) (map h (map (λ x. x.0) xs))
pairs_of R g h [] = tt
pairs_of R g h (x ∷ xs) = (x.1, pairs_of R g h xs)

pub all_pairs : {A X : Type 0} (R : X → X → Type 0) (g h : A → X) (xs : List A) → ((a : A) → R (g a) (h a)) → Pairs R (map g xs) (map h xs)
all_pairs R g h [] k = tt
all_pairs R g h (x ∷ xs) k = (k x, all_pairs R g h xs k)
