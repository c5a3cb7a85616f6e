-- The first values of parts that are all one type.
use Rattle.std.proofs.Common.{◌≡◌, ℕ, zero, suc, List, [], ◌∷◌, length, Err, refl, sym, ap, ap₂, ◌∙◌, subst}
use Rattle.asl_syn.specs.declared.token.Span.{Span}
use Rattle.asl_rules.specs.types.Closed as cl
use Rattle.asl_rules.specs.types.Closed.{closed}
use Rattle.asl_rules.specs.types.Types.{Ty}
use Rattle.asl_rules.specs.values.Values as rules
use Rattle.asl_rules.specs.values.Values.{Values, value, no_value, tuple_with}
use Rattle.asl_rules.specs.types.Written.{first_value}
use Rattle.asl_rules.specs.runs.Plans.{End, Faulted, Stuck, WrongKind, UnknownType, Pure, Good, Bad}
use Rattle.asl_rules.specs.runs.Pures.{◌>>=◌}
use Rattle.asl_types.specs.private.Alike.{AllAre, Alike}
use Rattle.asl_types.specs.View.{parts_of}
use Rattle.asl_value.specs.private.Answers.{Is}
use Rattle.asl_value.specs.declared.failure.Failure.{Failure}
use Rattle.asl_value.specs.declared.failure.Failure.TheVariants as failure
use Rattle.asl_value.specs.declared.value.Value.{Value}
use Rattle.asl_value.specs.View.{value_of, all_values}
use Rattle.asl_shape.proofs.FirstFields.{parts_first}

-- a tuple of these
abbrev pub tuple_first : ℕ → Span → List Ty → Pure rules.Value
tuple_first limit span Ts = parts_first limit span Ts >>= λ xs. Good (tuple_with xs)

pub none_first : (limit : ℕ) (span : Span) (Ts : List Ty) (made : List Value) → Ts ≡ [] → made ≡ [] → tuple_first limit span Ts ≡ Good (tuple_with (all_values made))
none_first limit span Ts made is none = ap (tuple_first limit span) is ∙ ap (λ l. Good (tuple_with (all_values l))) (sym none)

times_first : (limit : ℕ) (span : Span) (T : Ty) (x : rules.Value) (Ts : List Ty) → AllAre T (parts_of Ts) → first_value limit span (closed T) ≡ Good x → parts_first limit span Ts ≡ Good (rules.repeated (length Ts) x)
times_first limit span T x [] h e = refl
times_first limit span T x (U ∷ Us) h e =
    ap₂ (λ r rs. r >>= λ y. rs >>= λ ys. Good (value y ys)) (ap (λ V. first_value limit span (closed V)) h.0 ∙ e) (times_first limit span T x Us h.1 e)

pub all_first : (limit : ℕ) (span : Span) (T : Ty) (Ts Us : List Ty) (x : Value) (made : List Value) → Us ≡ T ∷ Ts → Alike (parts_of Us) → first_value limit span (closed T) ≡ Good (value_of x) → all_values made ≡ rules.repeated (length Us) (value_of x)
    → tuple_first limit span Us ≡ Good (tuple_with (all_values made))
all_first limit span T Ts Us x made is h e m =
    let k : AllAre T (parts_of (T ∷ Ts)) = (refl, subst (λ Vs. Alike (parts_of Vs)) is h) in
    ap (tuple_first limit span) is
    ∙ ap (λ r. r >>= λ xs. Good (tuple_with xs)) (times_first limit span T (value_of x) (T ∷ Ts) k e)
    ∙ ap (λ xs. Good (tuple_with xs)) (ap (λ Vs. rules.repeated (length Vs) (value_of x)) (sym is) ∙ sym m)

front_fails : (limit : ℕ) (span : Span) (T : Ty) (Ts Us : List Ty) (e : End) → Us ≡ T ∷ Ts → first_value limit span (closed T) ≡ Bad e → tuple_first limit span Us ≡ Bad e
front_fails limit span T Ts Us e is h =
    ap (tuple_first limit span) is ∙ ap (λ r. (r >>= λ y. parts_first limit span Ts >>= λ ys. Good (value y ys)) >>= λ xs. Good (tuple_with xs)) h

pub first_fails : (limit : ℕ) (span : Span) (T : Ty) (Ts Us : List Ty) (e : Failure) → Us ≡ T ∷ Ts → Is value_of (Err e) (first_value limit span (closed T)) → Is value_of (Err e) (tuple_first limit span Us)
first_fails limit span T Ts Us (failure.Fault code at) is h = front_fails limit span T Ts Us (Faulted code at) is h
first_fails limit span T Ts Us (failure.WrongKind at) is h = front_fails limit span T Ts Us (Stuck WrongKind at) is h
first_fails limit span T Ts Us (failure.UnknownType at) is h = front_fails limit span T Ts Us (Stuck UnknownType at) is h
first_fails limit span T Ts Us failure.NoMemory is h = tt
