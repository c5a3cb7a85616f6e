-- The fields of a type with the values that are given, one by one.
use Rattle.std.proofs.Common.{◌≡◌, ℕ, true, false, cond, List, [], ◌∷◌, ◌++◌, Option, Some, None, refl, sym, ap, ◌∙◌}
use Rattle.std.specs.Prelude.{pos, option_map, option_and_then}
use Rattle.asl_syn.specs.declared.token.Span.{Span}
use Rattle.asl_rules.specs.private.ByPlace.{seen_as}
use Rattle.asl_rules.specs.types.Closed.{closed, fields_with}
use Rattle.asl_rules.specs.runs.Plans.{End, Pure, Good, Bad}
use Rattle.asl_rules.specs.runs.Pures.{◌>>=◌, there}
use Rattle.asl_rules.specs.values.Structures.{given_value, with_given, fields_given}
use Rattle.asl_rules.specs.types.Types.{Ty}
use Rattle.asl_rules.specs.values.Values as rules
use Rattle.asl_rules.specs.values.Values.{FieldValues, value_of_field, has}
use Rattle.asl_rules.specs.types.Views.{viewed}
use Rattle.asl_rules.proofs.values.Constructs.{seen_is}
use Rattle.asl_value.specs.View.{Of, fields_of}
use Rattle.asl_types.specs.declared.ty.FieldType.{FieldType}
use Rattle.asl_types.specs.declared.ty.FieldType.TheVariants as f
use Rattle.asl_types.specs.View as types
use Rattle.asl_const.specs.private.Giving.{of_value, kept_in, filled_after}

pub kept_there : (T : Ty) (x y : rules.Value) → has x (closed T) ≡ true → y ≡ seen_as T x → Some y ≡ kept_in T x
kept_there T x y h e = ap Some (e ∙ seen_is (λ n. pos 0) T x) ∙ sym (ap (λ b. cond b (Some (viewed (closed T) x)) None) h)

pub kept_none : (T : Ty) (x : rules.Value) → has x (closed T) ≡ false → None ≡ kept_in T x
kept_none T x h = sym (ap (λ b. cond b (Some (viewed (closed T) x)) None) h)

abbrev before : List Of → FieldValues → FieldValues
before [] ys = ys
before (x ∷ xs) ys = value_of_field x.name x.value (before xs ys)

before_none : (xs : List Of) → fields_of xs ≡ before xs (fields_of [])
before_none [] = refl
before_none (x ∷ xs) = ap (value_of_field x.name x.value) (before_none xs)

before_one : (xs : List Of) (x : Of) (ys : FieldValues) → before (xs ++ x ∷ []) ys ≡ before xs (value_of_field x.name x.value ys)
before_one [] x ys = refl
before_one (z ∷ xs) x ys = ap (value_of_field z.name z.value) (before_one xs x ys)

abbrev made : {A : Type 0} → (FieldValues → A) → List Of → Pure A
made W xs = Good (W (fields_of xs))

abbrev behind : {A : Type 0} → Span → (FieldValues → A) → List Of → Option FieldValues → Pure A
behind span W xs o = there span (option_map (λ ys. W (before xs ys)) o)

step : {A : Type 0} (span : Span) (W : FieldValues → A) (xs : List Of) (n : List ℕ) (x : rules.Value) (o : Option FieldValues) →
    behind span W (xs ++ of_value n x ∷ []) o ≡ behind span W xs (with_given n (Some x) o)
step span W xs n x None = refl
step span W xs n x (Some ys) = ap (λ zs. Good (W zs)) (before_one xs (of_value n x) ys)

abbrev given_for : List FieldType → List (List ℕ) → List rules.Value → Option FieldValues
given_for fs gs ys = fields_given (fields_with (types.fields_of fs) (λ n. pos 0)) gs ys

by_value : {A : Type 0} (span : Span) (W : FieldValues → A) (xs : List Of) (n : List ℕ) (o : Option rules.Value) (fs : List FieldType) (gs : List (List ℕ)) (ys : List rules.Value) →
    ((x : Of) → (filled_after span (xs ++ x ∷ []) fs gs ys >>= made W) ≡ behind span W (xs ++ x ∷ []) (given_for fs gs ys)) →
    ((there span (option_map (of_value n) o) >>= λ x. filled_after span (xs ++ x ∷ []) fs gs ys) >>= made W) ≡ behind span W xs (with_given n o (given_for fs gs ys))
by_value span W xs n None fs gs ys h = refl
by_value span W xs n (Some x) fs gs ys h = h (of_value n x) ∙ step span W xs n x (given_for fs gs ys)

filled_behind : {A : Type 0} (span : Span) (W : FieldValues → A) (fs : List FieldType) (xs : List Of) (gs : List (List ℕ)) (ys : List rules.Value) →
    (filled_after span xs fs gs ys >>= made W) ≡ behind span W xs (given_for fs gs ys)
filled_behind span W [] xs gs ys = ap (λ zs. Good (W zs)) (before_none xs)
filled_behind span W (f.Field n T ∷ fs) xs gs ys = by_value span W xs n (option_and_then (kept_in T) (given_value n gs ys)) fs gs ys (λ x. filled_behind span W fs (xs ++ x ∷ []) gs ys)

same_option : {A : Type 0} (span : Span) (W : FieldValues → A) (o : Option FieldValues) → behind span W [] o ≡ there span (option_map W o)
same_option span W None = refl
same_option span W (Some ys) = refl

type_is : {A : Type 0} (span : Span) (W : FieldValues → A) (fs : List FieldType) (gs : List (List ℕ)) (ys : List rules.Value) →
    there span (option_map W (given_for fs gs ys)) ≡ (filled_after span [] fs gs ys >>= made W)
type_is span W fs gs ys = sym (filled_behind span W fs [] gs ys ∙ same_option span W (given_for fs gs ys))

-- what is made of the fields of a type, by its fields one by one
pub type_good : {A : Type 0} (span : Span) (W : FieldValues → A) (fs : List FieldType) (gs : List (List ℕ)) (ys : List rules.Value) (xs : List Of) → filled_after span [] fs gs ys ≡ Good xs →
    there span (option_map W (fields_given (fields_with (types.fields_of fs) (λ n. pos 0)) gs ys)) ≡ Good (W (fields_of xs))
type_good span W fs gs ys xs h = type_is span W fs gs ys ∙ ap (λ p. p >>= made W) h

pub type_bad : {A : Type 0} (span : Span) (W : FieldValues → A) (fs : List FieldType) (gs : List (List ℕ)) (ys : List rules.Value) (e : End) → filled_after span [] fs gs ys ≡ Bad e →
    there span (option_map W (fields_given (fields_with (types.fields_of fs) (λ n. pos 0)) gs ys)) ≡ Bad e
type_bad span W fs gs ys e h = type_is span W fs gs ys ∙ ap (λ p. p >>= made W) h
