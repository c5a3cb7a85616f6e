-- Stores among values and in places.
use Rattle.std.proofs.Common.{◌≡◌, ℕ, zero, suc, ◌<◌, inl, Bool, true, false, List, [], ◌∷◌, length, get_or, map, Option, Some, None, Result, Ok, Err, refl, sym, ap, ◌∙◌, subst, arith, length-set}
use Rattle.std.proofs.lemmas.List.{get_or_default}
use Rattle.std.proofs.lemmas.Option.{get_or_from_slice_get, slice_get_within}
use Rattle.std.specs.Prelude.{option_map, slice_get, slice_set}
use Rattle.asl_bits.specs.declared.TheConstants.{WIDTH_LIMIT}
use Rattle.asl_syn.specs.declared.token.Span.{Span}
use Rattle.asl_rules.specs.private.ByPlace.{Step, updated}
use Rattle.asl_rules.specs.runs.Cuts.{cuts}
use Rattle.asl_rules.specs.runs.Plans.{Meter, End, Faulted, Stuck, Halt, Pure, Good, Bad, lift, run}
use Rattle.asl_rules.specs.runs.Pures.{◌>>=◌, known}
use Rattle.asl_rules.specs.values.Values as rules
use Rattle.asl_rules.specs.types.Views.{adopted, adopting}
use Rattle.asl_rules.specs.declared.slot.Slot.TheVariants.{Local, Global}
use Rattle.asl_rules.specs.private.TypedMeaning.{BareCore, Runs, set_at, stored}
use Rattle.asl_tree.specs.declared.act.TreeFunc.{TreeFunc}
use Rattle.asl_value.specs.declared.failure.Failure.{Failure}
use Rattle.asl_value.specs.declared.failure.Failure.TheVariants as failure
use Rattle.asl_value.specs.declared.value.Value.{Value}
use Rattle.asl_value.specs.private.Answers.{Changes}
use Rattle.asl_value.specs.View.{value_of}
use Rattle.asl_branches.specs.declared.stop.Stop.{Stop}
use Rattle.asl_branches.specs.declared.stop.Stop.TheVariants as stop
use Rattle.asl_branches.specs.Framed.{Changed}
use Rattle.asl_branches.specs.Meets.{Meets, Stores}
use Rattle.asl_branches.specs.View.{exit_of, mistake_of, stop_of, meaning_of, cutting_of}
use Rattle.asl_run.specs.private.Storing.{stored_in}
use Rattle.asl_run.proofs.Slots.{set_within}

-- ---- among values

-- a value that takes nothing of the one that it replaces
pub takes_nothing : (holds : Bool) (x y : rules.Value) → adopted x y ≡ y → adopting holds x y ≡ y
takes_nothing true x y h = h
takes_nothing false x y h = refl

read_there : (xs : List Value) (i : ℕ) (x : Value) → i < length xs → x ≡ get_or xs i x → slice_get (map value_of xs) i ≡ Some (value_of x)
read_there [] i x h e = absurd (omega (arith, h))
read_there (y ∷ ys) zero x h e = ap (λ z. Some (value_of z)) (sym e)
read_there (y ∷ ys) (suc i) x h e = read_there ys i x (omega (arith, h)) e

same_set : (xs : List Value) (i : ℕ) (x : Value) → x ≡ get_or xs i x → slice_set xs i x ≡ xs
same_set [] i x e = refl
same_set (y ∷ ys) zero x e = ap (λ z. z ∷ ys) e
same_set (y ∷ ys) (suc i) x e = ap (λ zs. y ∷ zs) (same_set ys i x e)

stored_as : (holds : Bool) (span : Span) (i : ℕ) (ss : List Step) (y : rules.Value) (xs : List Value) (x : Value) → i < length xs → x ≡ get_or xs i x →
    stored_in holds span i ss y (map value_of xs) ≡ (updated WIDTH_LIMIT holds ss y (value_of x) >>= λ z. known span (set_at i z (map value_of xs)))
stored_as holds span i ss y xs x h e = ap (λ o. known span o >>= λ q. updated WIDTH_LIMIT holds ss y q >>= λ z. known span (set_at i z (map value_of xs))) (read_there xs i x h e)

pub stored_good : (holds : Bool) (span : Span) (i : ℕ) (ss : List Step) (y : rules.Value) (xs : List Value) (x z : Value) → i < length xs → x ≡ get_or xs i x → updated WIDTH_LIMIT holds ss y (value_of x) ≡ Good (value_of z) →
    stored_in holds span i ss y (map value_of xs) ≡ Good (map value_of (slice_set xs i z))
stored_good holds span i ss y xs x z h e u =
    stored_as holds span i ss y xs x h e ∙ ap (λ r. r >>= λ q. known span (set_at i q (map value_of xs))) u ∙ ap (known span) (set_within xs i z h)

stored_bad : (holds : Bool) (span : Span) (i : ℕ) (ss : List Step) (y : rules.Value) (xs : List Value) (x : Value) (end : End) → i < length xs → x ≡ get_or xs i x → updated WIDTH_LIMIT holds ss y (value_of x) ≡ Bad end →
    stored_in holds span i ss y (map value_of xs) ≡ Bad end
stored_bad holds span i ss y xs x end h e u = stored_as holds span i ss y xs x h e ∙ ap (λ r. r >>= λ q. known span (set_at i q (map value_of xs))) u

-- a value that stayed the same leaves them the same
pub stores_failed : (f : Failure) (holds : Bool) (span : Span) (i : ℕ) (ss : List Step) (y : rules.Value) (xs : List Value) (x z : Value) → i < length xs → x ≡ get_or xs i x → Changes (Err f) (updated WIDTH_LIMIT holds ss y (value_of x)) x z →
    Stores (Err (stop_of f)) (stored_in holds span i ss y (map value_of xs)) xs (slice_set xs i z)
stores_failed (failure.Fault code at) holds span i ss y xs x z h e u = (stored_bad holds span i ss y xs x _ h e u.0, ap (slice_set xs i) u.1 ∙ same_set xs i x e)
stores_failed (failure.WrongKind at) holds span i ss y xs x z h e u = (stored_bad holds span i ss y xs x _ h e u.0, ap (slice_set xs i) u.1 ∙ same_set xs i x e)
stores_failed (failure.UnknownType at) holds span i ss y xs x z h e u = (stored_bad holds span i ss y xs x _ h e u.0, ap (slice_set xs i) u.1 ∙ same_set xs i x e)
stores_failed failure.NoMemory holds span i ss y xs x z h e u = tt

-- a store in place gives what the rules give
pub changed_good : (holds : Bool) (span : Span) (i : ℕ) (ss : List Step) (y : rules.Value) (xs zs : List Value) (u : Unit {0}) →
    Changed (Ok u) (updated WIDTH_LIMIT holds ss y) i xs zs → stored_in holds span i ss y (map value_of xs) ≡ Good (map value_of zs)
changed_good holds span i ss y xs zs u t =
    stored_good holds span i ss y xs t.old t.new (slice_get_within xs i t.old t.was) (sym (get_or_from_slice_get xs i t.old t.old t.was)) t.changes
    ∙ ap (λ (l : List Value). Good (map value_of l)) (sym t.now_is)

pub changed_failed : (f : Failure) (holds : Bool) (span : Span) (i : ℕ) (ss : List Step) (y : rules.Value) (xs zs : List Value) →
    Changed (Err f) (updated WIDTH_LIMIT holds ss y) i xs zs → Stores (Err (stop_of f)) (stored_in holds span i ss y (map value_of xs)) xs zs
changed_failed f holds span i ss y xs zs t =
    subst (λ (l : List Value). Stores (Err (stop_of f)) (stored_in holds span i ss y (map value_of xs)) xs l) (sym t.now_is)
    (stores_failed f holds span i ss y xs t.old t.new (slice_get_within xs i t.old t.was) (sym (get_or_from_slice_get xs i t.old t.old t.was)) t.changes)

pub changed_length : (r : Result (Unit {0}) Failure) (f : rules.Value → Pure rules.Value) (i : ℕ) (xs zs : List Value) → Changed r f i xs zs →
    length zs ≡ length xs
changed_length r f i xs zs t = ap length t.now_is ∙ length-set xs i t.new

-- a value that takes nothing of the one that it replaces
pub set_good : (holds : Bool) (span : Span) (i : ℕ) (y : Value) (xs : List Value) → i < length xs →
    ((x : rules.Value) → slice_get (map value_of xs) i ≡ Some x → adopted x (value_of y) ≡ value_of y) → stored_in holds span i [] (value_of y) (map value_of xs) ≡ Good (map value_of (slice_set xs i y))
set_good holds span i y xs h free =
    let x = get_or xs i y in
    let here = get_or_default xs i y x h in
    stored_good holds span i [] (value_of y) xs x y h here
    (ap Good (takes_nothing holds (value_of x) (value_of y) (free (value_of x) (read_there xs i x h here))))

-- ---- in places

-- what a store among values makes of a state
abbrev made : (List rules.Value → BareCore) → Pure (List rules.Value) → Pure BareCore
made f r = r >>= λ xs. Good (f xs)

made_known : (span : Span) (f : List rules.Value → BareCore) (o : Option (List rules.Value)) → made f (known span o) ≡ known span (option_map f o)
made_known span f None = refl
made_known span f (Some xs) = refl

behind_steps : (span : Span) (i : ℕ) (xs : List rules.Value) (f : List rules.Value → BareCore) (r : Pure rules.Value) → made f (r >>= λ z. known span (set_at i z xs)) ≡ (r >>= λ z. known span (option_map f (set_at i z xs)))
behind_steps span i xs f (Good z) = made_known span f (set_at i z xs)
behind_steps span i xs f (Bad e) = refl

behind_value : (holds : Bool) (span : Span) (i : ℕ) (ss : List Step) (y : rules.Value) (xs : List rules.Value) (f : List rules.Value → BareCore) (o : Option rules.Value) →
    made f (known span o >>= λ x. updated WIDTH_LIMIT holds ss y x >>= λ z. known span (set_at i z xs)) ≡ (known span o >>= λ x. updated WIDTH_LIMIT holds ss y x >>= λ z. known span (option_map f (set_at i z xs)))
behind_value holds span i ss y xs f (Some x) = behind_steps span i xs f (updated WIDTH_LIMIT holds ss y x)
behind_value holds span i ss y xs f None = refl

pub local_put : (holds : Bool) (span : Span) (i : ℕ) (ss : List Step) (y : rules.Value) (c : BareCore) → stored WIDTH_LIMIT holds span (Local i) y ss c ≡ (stored_in holds span i ss y c.frame >>= λ xs. Good (record c { frame = xs }))
local_put holds span i ss y c = sym (behind_value holds span i ss y c.frame (λ xs. record c { frame = xs }) (slice_get c.frame i))

pub global_put : (holds : Bool) (span : Span) (i : ℕ) (ss : List Step) (y : rules.Value) (c : BareCore) → stored WIDTH_LIMIT holds span (Global i) y ss c ≡ (stored_in holds span i ss y c.globals >>= λ xs. Good (record c { globals = xs }))
global_put holds span i ss y c = sym (behind_value holds span i ss y c.globals (λ xs. record c { globals = xs }) (slice_get c.globals i))

-- a store that failed leaves the state as it was
failed : (fs : List TreeFunc) (d : ℕ) (f : List rules.Value → BareCore) (old new : List Value) (r : Pure (List rules.Value)) (p : Pure BareCore) (k : BareCore → Runs rules.Exit) (h : Meter) (e : Stop) → p ≡ made f r → Stores (Err e) r old new →
    Meets exit_of (Err e) (f (map value_of new)) h (run (meaning_of fs d) (lift p (f (map value_of old)) k) h) (cuts (meaning_of fs d) (cutting_of fs d) (lift p (f (map value_of old)) k) h)
failed fs d f old new r p k h stop.NoMemory e s = inl refl
failed fs d f old new r p k h stop.SinkFault e s = absurd s
failed fs d f old new r p k h (stop.Thrown x) e s = absurd s
failed fs d f old new r p k h (stop.Fault code span) e s =
    ap (λ q. run (meaning_of fs d) (lift q (f (map value_of old)) k) h) (e ∙ ap (made f) s.0) ∙ ap (λ (c : BareCore). Halt (Faulted code span) c h) (ap (λ xs. f (map value_of xs)) (sym s.1))
failed fs d f old new r p k h (stop.Stuck mistake span) e s =
    ap (λ q. run (meaning_of fs d) (lift q (f (map value_of old)) k) h) (e ∙ ap (made f) s.0) ∙ ap (λ (c : BareCore). Halt (Stuck (mistake_of mistake) span) c h) (ap (λ xs. f (map value_of xs)) (sym s.1))

pub local_failed : (fs : List TreeFunc) (d : ℕ) (holds : Bool) (span : Span) (i : ℕ) (ss : List Step) (y : rules.Value) (c : BareCore) (frame new : List Value) (k : BareCore → Runs rules.Exit) (h : Meter) (e : Stop) →
    Stores (Err e) (stored_in holds span i ss y (map value_of frame)) frame new →
    Meets exit_of (Err e) (record c { frame = map value_of new }) h
    (run (meaning_of fs d) (lift (stored WIDTH_LIMIT holds span (Local i) y ss (record c { frame = map value_of frame })) (record c { frame = map value_of frame }) k) h)
    (cuts (meaning_of fs d) (cutting_of fs d) (lift (stored WIDTH_LIMIT holds span (Local i) y ss (record c { frame = map value_of frame })) (record c { frame = map value_of frame }) k) h)
local_failed fs d holds span i ss y c frame new k h e s =
    failed fs d (λ xs. record c { frame = xs }) frame new (stored_in holds span i ss y (map value_of frame)) _ k h e (local_put holds span i ss y (record c { frame = map value_of frame })) s

pub global_failed : (fs : List TreeFunc) (d : ℕ) (holds : Bool) (span : Span) (i : ℕ) (ss : List Step) (y : rules.Value) (c : BareCore) (globals new : List Value) (k : BareCore → Runs rules.Exit) (h : Meter) (e : Stop) →
    Stores (Err e) (stored_in holds span i ss y (map value_of globals)) globals new →
    Meets exit_of (Err e) (record c { globals = map value_of new }) h
    (run (meaning_of fs d) (lift (stored WIDTH_LIMIT holds span (Global i) y ss (record c { globals = map value_of globals })) (record c { globals = map value_of globals }) k) h)
    (cuts (meaning_of fs d) (cutting_of fs d) (lift (stored WIDTH_LIMIT holds span (Global i) y ss (record c { globals = map value_of globals })) (record c { globals = map value_of globals }) k) h)
global_failed fs d holds span i ss y c globals new k h e s =
    failed fs d (λ xs. record c { globals = xs }) globals new (stored_in holds span i ss y (map value_of globals)) _ k h e (global_put holds span i ss y (record c { globals = map value_of globals })) s
