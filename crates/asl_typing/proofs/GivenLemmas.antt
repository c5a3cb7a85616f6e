-- What the first places of names say of the fields of a type and of those that are given.
use Rattle.std.proofs.Common.{◌≡◌, ℕ, zero, suc, nat_lt, Bool, true, false, cond, take, List, [], ◌∷◌, Option, Some, None, option_map, slice_get, refl, sym, ap, ◌∙◌, arith}
use Rattle.std.specs.Str.{bytes_eq}
use Rattle.asl_rules.specs.declarations.Layouts.{place_of}
use Rattle.asl_rules.specs.values.Members.{has_name, numbered, one_further}
use Rattle.asl_rules.specs.types.Types.{Ty}
use Rattle.asl_types.specs.declared.ty.FieldType.{FieldType}
use Rattle.asl_types.specs.declared.ty.FieldType.TheVariants as f
use Rattle.asl_types.specs.View.{fields_of}
use Rattle.asl_names.specs.private.Firsts.{Places, first_place, placed}
use Rattle.asl_typing.specs.private.Constructs.{field_ty, field_names}
use Rattle.asl_names.proofs.FirstLemmas.{place_is}

pub place_known : (f : List ℕ) (ns : List (List ℕ)) (ps : Places) (o : Option ℕ) → ps ≡ placed ns 0 [] → o ≡ first_place f ps → o ≡ place_of f ns
place_known f ns ps o h e = e ∙ (ap (first_place f) h ∙ place_is f ns)

-- ---- names that stood before

abbrev before : Option ℕ → ℕ → Bool
before None i = false
before (Some p) i = nat_lt p i

none_before : (o : Option ℕ) → false ≡ before o 0
none_before None = refl
none_before (Some p) = grind arith

one_later : (o : Option ℕ) (i : ℕ) → before o i ≡ before (option_map (λ p. suc p) o) (suc i)
one_later None i = refl
one_later (Some p) i = grind arith

step : (b c : Bool) (o : Option ℕ) (i : ℕ) → c ≡ before o i → cond b true c ≡ before (cond b (Some 0) (option_map (λ p. suc p) o)) (suc i)
step true c o i h = grind arith
step false c o i h = h ∙ one_later o i

repeated : (f : List ℕ) (ns : List (List ℕ)) (i : ℕ) → has_name f (take i ns) ≡ before (place_of f ns) i
repeated f [] zero = refl
repeated f [] (suc i) = refl
repeated f (n ∷ ns) zero = none_before (place_of f (n ∷ ns))
repeated f (n ∷ ns) (suc i) = step (bytes_eq n f) (has_name f (take i ns)) (place_of f ns) i (repeated f ns i)

pub repeated_none : (f : List ℕ) (ns : List (List ℕ)) (i : ℕ) → place_of f ns ≡ None → false ≡ has_name f (take i ns)
repeated_none f ns i h = sym (repeated f ns i ∙ ap (λ o. before o i) h)

pub repeated_some : (f : List ℕ) (ns : List (List ℕ)) (i p : ℕ) → place_of f ns ≡ Some p → nat_lt p i ≡ has_name f (take i ns)
repeated_some f ns i p h = sym (repeated f ns i ∙ ap (λ o. before o i) h)

-- ---- the types of fields

abbrev type_in : Option (ℕ × Ty) → Option Ty
type_in o = option_map (λ p. p.1) o

abbrev at_place : List FieldType → Option ℕ → Option Ty
at_place fs None = None
at_place fs (Some p) = option_map (λ x. field_ty x) (slice_get fs p)

later_place : (x : FieldType) (fs : List FieldType) (o : Option ℕ) → at_place fs o ≡ at_place (x ∷ fs) (option_map (λ p. suc p) o)
later_place x fs None = refl
later_place x fs (Some p) = refl

further : (o : Option (ℕ × Ty)) → type_in (one_further o) ≡ type_in o
further None = refl
further (Some p) = refl

type_step : (b : Bool) (g : List ℕ) (T : Ty) (fs : List FieldType) (o : Option (ℕ × Ty)) (q : Option ℕ) → type_in o ≡ at_place fs q →
    type_in (cond b (Some (0, T)) (one_further o)) ≡ at_place (f.Field g T ∷ fs) (cond b (Some 0) (option_map (λ p. suc p) q))
type_step true g T fs o q h = refl
type_step false g T fs o q h = further o ∙ h ∙ later_place (f.Field g T) fs q

found_type : (i : List ℕ) (fs : List FieldType) → type_in (numbered i (fields_of fs)) ≡ at_place fs (place_of i (field_names fs))
found_type i [] = refl
found_type i (f.Field g T ∷ fs) = type_step (bytes_eq g i) g T fs (numbered i (fields_of fs)) (place_of i (field_names fs)) (found_type i fs)

pub type_missing : (i : List ℕ) (fs : List FieldType) → place_of i (field_names fs) ≡ None → None ≡ option_map (λ p. p.1) (numbered i (fields_of fs))
type_missing i fs h = sym (found_type i fs ∙ ap (at_place fs) h)

pub type_there : (i : List ℕ) (fs : List FieldType) (p : ℕ) → place_of i (field_names fs) ≡ Some p → option_map (λ x. field_ty x) (slice_get fs p) ≡ option_map (λ q. q.1) (numbered i (fields_of fs))
type_there i fs p h = sym (found_type i fs ∙ ap (at_place fs) h)
