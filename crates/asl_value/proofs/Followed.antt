-- Ways into values that can be followed.
use Rattle.std.proofs.Common.{◌≡◌, ℕ, zero, suc, Bool, true, List, ◌∷◌, Option, Some, None, refl, sym, ap, ◌∙◌, subst}
use Rattle.std.specs.Prelude.{pos, negsuc, option_map, Result, Ok, Err}
use Rattle.std.specs.Option.{is_some}
use Rattle.asl_syn.specs.declared.token.Span.{Span}
use Rattle.asl_rules.specs.values.Values as rules
use Rattle.asl_rules.specs.values.Values.{Value, Values, FieldValues, no_value_of, value_of_field, no_value, value}
use Rattle.asl_rules.specs.runs.Pures.{◌>>=◌, there}
use Rattle.asl_rules.specs.values.Structures.{value_at, with_value_at, with_element, inside}
use Rattle.asl_rules.specs.runs.Plans.{Pure, Good, Bad}
use Rattle.asl_value.specs.declared.value.Value as code
use Rattle.asl_value.specs.declared.failure.Failure.{Failure}
use Rattle.asl_value.specs.declared.failure.Failure.TheVariants as failure
use Rattle.asl_value.specs.private.Answers.{Is, Changes}
use Rattle.asl_rules.specs.private.ByPlace.{Step, field_at, with_field_at, with_field_in, updated}
use Rattle.asl_rules.specs.private.ByPlace.{into_field, into_slices, into_element, field_in}
use Rattle.asl_rules.specs.values.Structures.{element_of}
use Rattle.asl_rules.specs.types.Shapes.{SliceShape}
use Rattle.asl_rules.specs.values.Vectors.{Places, slice_places, bits_at, with_places, with_slices}
use Rattle.asl_value.specs.private.Reaching.{is_good, Reaches}
use Rattle.asl_value.specs.View.{value_of}

there_good : (span : Span) (o : Option Value) (p : Option FieldValues) (f : FieldValues → Value) (q : Value) → is_some o ≡ is_some p → there span o ≡ Good q → is_good (there span (option_map f p)) ≡ true
there_good span None p f q e h = cc
there_good span (Some x) None f q e h = sym e
there_good span (Some x) (Some y) f q e h = refl

inside_good : (span : Span) (o : Option Value) (p : Option Values) (f : Values → Value) (q : Value) → is_some o ≡ is_some p → inside span o ≡ Good q → is_good (inside span (option_map f p)) ≡ true
inside_good span None p f q e h = cc
inside_good span (Some x) None f q e h = sym e
inside_good span (Some x) (Some y) f q e h = refl

kept : {A B : Type 0} (f : A → B) (o : Option A) → is_some o ≡ is_some (option_map f o)
kept f None = refl
kept f (Some x) = refl

same_fields : (i : ℕ) (r : Value) (xs : FieldValues) → is_some (field_at i xs) ≡ is_some (with_field_at i r xs)
same_fields i r no_value_of = refl
same_fields zero r (value_of_field f x xs) = refl
same_fields (suc i) r (value_of_field f x xs) = same_fields i r xs ∙ kept (value_of_field f x) (with_field_at i r xs)

same_values : (i : ℕ) (r : Value) (xs : Values) → is_some (value_at i xs) ≡ is_some (with_value_at i r xs)
same_values i r no_value = refl
same_values zero r (value x xs) = refl
same_values (suc i) r (value x xs) = same_values i r xs ∙ kept (value x) (with_value_at i r xs)

good_field : (span : Span) (i : ℕ) (x q r : Value) → field_in span i x ≡ Good q → is_good (with_field_in span i r x) ≡ true
good_field span i (rules.int z) q r h = cc
good_field span i (rules.bool b) q r h = cc
good_field span i (rules.bits_with bs u) q r h = cc
good_field span i (rules.label n l) q r h = cc
good_field span i (rules.record_with n xs) q r h = there_good span (field_at i xs) (with_field_at i r xs) (rules.record_with n) q (same_fields i r xs) h
good_field span i (rules.exception_with o s n xs) q r h = there_good span (field_at i xs) (with_field_at i r xs) (rules.exception_with o s n) q (same_fields i r xs) h
good_field span i (rules.tuple_with xs) q r h = cc
good_field span i (rules.array_with k xs) q r h = cc

good_element : (span : Span) (z x q r : Value) → element_of span x z ≡ Good q → is_good (with_element span r x z) ≡ true
good_element span z (rules.int i) q r h = cc
good_element span z (rules.bool b) q r h = cc
good_element span z (rules.bits_with bs u) q r h = cc
good_element span z (rules.label n l) q r h = cc
good_element span z (rules.record_with n xs) q r h = cc
good_element span z (rules.exception_with o s n xs) q r h = cc
good_element span z (rules.tuple_with xs) q r h = cc
good_element span (rules.int (pos i)) (rules.array_with k xs) q r h = inside_good span (value_at i xs) (with_value_at i r xs) (rules.array_with k) q (same_values i r xs) h
good_element span (rules.int (negsuc i)) (rules.array_with k xs) q r h = cc
good_element span (rules.bool b) (rules.array_with k xs) q r h = cc
good_element span (rules.bits_with bs u) (rules.array_with k xs) q r h = cc
good_element span (rules.label n l) (rules.array_with k xs) q r h = cc
good_element span (rules.record_with n ys) (rules.array_with k xs) q r h = cc
good_element span (rules.exception_with o s n ys) (rules.array_with k xs) q r h = cc
good_element span (rules.tuple_with ys) (rules.array_with k xs) q r h = cc
good_element span (rules.array_with l ys) (rules.array_with k xs) q r h = cc

good_then : (p : Pure Value) (f : Value → Pure Value) → is_good p ≡ true → ((r : Value) → is_good (f r) ≡ true) → is_good (p >>= f) ≡ true
good_then (Good r) f h k = k r
good_then (Bad e) f h k = h

-- what is behind a part decides, where that can be put back
behind : (result : Result (Unit {0}) Failure) (p : Pure Value) (f : Value → Pure Value) → ((r : Value) → is_good (f r) ≡ true) → Reaches result p → Reaches result (p >>= f)
behind (Ok u) p f g k = good_then p f k g
behind (Err (failure.Fault code span)) p f g k = ap (λ q. q >>= f) k
behind (Err (failure.WrongKind span)) p f g k = ap (λ q. q >>= f) k
behind (Err (failure.UnknownType span)) p f g k = ap (λ q. q >>= f) k
behind (Err failure.NoMemory) p f g k = tt

pub field_on : (limit : ℕ) (holds : Bool) (result : Result (Unit {0}) Failure) (span : Span) (i : ℕ) (ss : List Step) (y x q : Value) → field_in span i x ≡ Good q → Reaches result (updated limit holds ss y q) → Reaches result (updated limit holds (into_field span i ∷ ss) y x)
field_on limit holds result span i ss y x q h k = subst (Reaches result) (sym (ap (λ p. p >>= λ a. updated limit holds ss y a >>= λ r. with_field_in span i r x) h)) (behind result (updated limit holds ss y q) (λ r. with_field_in span i r x) (λ r. good_field span i x q r h) k)

pub element_on : (limit : ℕ) (holds : Bool) (result : Result (Unit {0}) Failure) (span : Span) (z : Value) (ss : List Step) (y x q : Value) → element_of span x z ≡ Good q → Reaches result (updated limit holds ss y q) → Reaches result (updated limit holds (into_element span z ∷ ss) y x)
element_on limit holds result span z ss y x q h k = subst (Reaches result) (sym (ap (λ p. p >>= λ a. updated limit holds ss y a >>= λ r. with_element span r x z) h)) (behind result (updated limit holds ss y q) (λ r. with_element span r x z) (λ r. good_element span z x q r h) k)

-- a failure is one of what it is behind
off : {A B : Type 0} (view : A → B) (e : Failure) (p : Pure B) (f : B → Pure Value) → Is view (Err e) p → Reaches (Err e) (p >>= f)
off view (failure.Fault code span) p f h = ap (λ q. q >>= f) h
off view (failure.WrongKind span) p f h = ap (λ q. q >>= f) h
off view (failure.UnknownType span) p f h = ap (λ q. q >>= f) h
off view failure.NoMemory p f h = tt

pub field_off : (limit : ℕ) (holds : Bool) (e : Failure) (span : Span) (i : ℕ) (ss : List Step) (y x : Value) → Is value_of (Err e) (field_in span i x) → Reaches (Err e) (updated limit holds (into_field span i ∷ ss) y x)
field_off limit holds e span i ss y x h = off value_of e (field_in span i x) (λ a. updated limit holds ss y a >>= λ r. with_field_in span i r x) h

pub element_off : (limit : ℕ) (holds : Bool) (e : Failure) (span : Span) (z : Value) (ss : List Step) (y x : Value) → Is value_of (Err e) (element_of span x z) → Reaches (Err e) (updated limit holds (into_element span z ∷ ss) y x)
element_off limit holds e span z ss y x h = off value_of e (element_of span x z) (λ a. updated limit holds ss y a >>= λ r. with_element span r x z) h

pub made_off : (e : Failure) (p : Pure Value) → Is value_of (Err e) p → Reaches (Err e) p
made_off (failure.Fault code span) p h = h
made_off (failure.WrongKind span) p h = h
made_off (failure.UnknownType span) p h = h
made_off failure.NoMemory p h = tt

-- what fails changes nothing
pub unchanged : (e : Failure) (p : Pure Value) (old : code.Value) → Reaches (Err e) p → Changes (Err e) p old old
unchanged (failure.Fault code span) p old h = (h, refl)
unchanged (failure.WrongKind span) p old h = (h, refl)
unchanged (failure.UnknownType span) p old h = (h, refl)
unchanged failure.NoMemory p old h = tt

pub unchanged_is : (e : Failure) (p : Pure Value) (old : code.Value) → Is value_of (Err e) p → Changes (Err e) p old old
unchanged_is e p old h = unchanged e p old (made_off e p h)

-- ---- slices

pub slices_put : (limit : ℕ) (holds : Bool) (result : Result code.Value Failure) (span : Span) (shapes : List SliceShape) (zs : List Value) (ss : List Step) (y x q r : Value) (ps : List Places) → slice_places limit span shapes zs x ≡ Good ps → bits_at span ps x ≡ Good q → updated limit holds ss y q ≡ Good r → Is value_of result (with_places span ps r x) → Is value_of result (updated limit holds (into_slices span shapes zs ∷ ss) y x)
slices_put limit holds result span shapes zs ss y x q r ps a b c h = subst (Is value_of result) (sym (
    ap (λ p. p >>= λ ps1. bits_at span ps1 x >>= λ q1. updated limit holds ss y q1 >>= λ r1. with_slices limit span shapes zs r1 x) a ∙
    ap (λ p. p >>= λ q1. updated limit holds ss y q1 >>= λ r1. with_slices limit span shapes zs r1 x) b ∙
    ap (λ p. p >>= λ r1. with_slices limit span shapes zs r1 x) c ∙
    ap (λ p. p >>= λ ps1. with_places span ps1 r x) a)) h

fails : {A B : Type 0} (view : A → B) (e : Failure) (p : Pure B) (f : B → Pure Value) → Is view (Err e) p → Is {A = code.Value} value_of (Err e) (p >>= f)
fails view (failure.Fault code span) p f h = ap (λ q. q >>= f) h
fails view (failure.WrongKind span) p f h = ap (λ q. q >>= f) h
fails view (failure.UnknownType span) p f h = ap (λ q. q >>= f) h
fails view failure.NoMemory p f h = tt

pub slices_off : (limit : ℕ) (holds : Bool) (e : Failure) (span : Span) (shapes : List SliceShape) (zs : List Value) (ss : List Step) (y x : Value) → Is {A = List Places} (λ ps. ps) (Err e) (slice_places limit span shapes zs x) → Is {A = code.Value} value_of (Err e) (updated limit holds (into_slices span shapes zs ∷ ss) y x)
slices_off limit holds e span shapes zs ss y x h = fails (λ ps. ps) e (slice_places limit span shapes zs x) (λ ps. bits_at span ps x >>= λ q. updated limit holds ss y q >>= λ r. with_slices limit span shapes zs r x) h

pub read_off : (limit : ℕ) (holds : Bool) (e : Failure) (span : Span) (shapes : List SliceShape) (zs : List Value) (ss : List Step) (y x : Value) (ps : List Places) → slice_places limit span shapes zs x ≡ Good ps → Is {A = code.Value} value_of (Err e) (bits_at span ps x) → Is {A = code.Value} value_of (Err e) (updated limit holds (into_slices span shapes zs ∷ ss) y x)
read_off limit holds e span shapes zs ss y x ps a h = subst (Is value_of (Err e)) (sym (ap (λ p. p >>= λ ps1. bits_at span ps1 x >>= λ q1. updated limit holds ss y q1 >>= λ r1. with_slices limit span shapes zs r1 x) a))
    (fails value_of e (bits_at span ps x) (λ q. updated limit holds ss y q >>= λ r. with_slices limit span shapes zs r x) h)

pub part_off : (limit : ℕ) (holds : Bool) (e : Failure) (span : Span) (shapes : List SliceShape) (zs : List Value) (ss : List Step) (y x q : Value) (ps : List Places) → slice_places limit span shapes zs x ≡ Good ps → bits_at span ps x ≡ Good q → Is {A = code.Value} value_of (Err e) (updated limit holds ss y q) → Is {A = code.Value} value_of (Err e) (updated limit holds (into_slices span shapes zs ∷ ss) y x)
part_off limit holds e span shapes zs ss y x q ps a b h = subst (Is value_of (Err e)) (sym (
    ap (λ p. p >>= λ ps1. bits_at span ps1 x >>= λ q1. updated limit holds ss y q1 >>= λ r1. with_slices limit span shapes zs r1 x) a ∙
    ap (λ p. p >>= λ q1. updated limit holds ss y q1 >>= λ r1. with_slices limit span shapes zs r1 x) b))
    (fails value_of e (updated limit holds ss y q) (λ r. with_slices limit span shapes zs r x) h)
