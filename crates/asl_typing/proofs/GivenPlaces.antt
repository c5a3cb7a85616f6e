-- The fields of a type with the places of their values, one by one.
use Rattle.std.proofs.Common.{◌≡◌, ℕ, ◌+◌, ◌<◌, ◌≤◌, length, get_or, drop, map, List, [], ◌∷◌, ◌++◌, Option, Some, None, option_map, refl, sym, ap, ◌∙◌, append_assoc}
use Rattle.std.proofs.lemmas.List.{drop_all, append-nil, map-append}
use Rattle.asl_rules.specs.declarations.Layouts.{place_of}
use Rattle.asl_rules.specs.values.Members.{places_given, with_place}
use Rattle.asl_rules.specs.runs.Trees.{FieldGiven}
use Rattle.asl_rules.specs.types.Types.{Ty}
use Rattle.asl_shape.specs.declared.shapes.FieldGiven as code
use Rattle.asl_shape.specs.View.{given_view, all_given}
use Rattle.asl_types.specs.declared.ty.FieldType.{FieldType}
use Rattle.asl_types.specs.declared.ty.FieldType.TheVariants as f
use Rattle.asl_types.specs.View.{fields_of}
use Rattle.asl_types.proofs.Rest.{at_next}
use Rattle.asl_typing.specs.private.Constructs.{field_name, field_ty, behind_given}

abbrev Given : Type 0
Given = Option (List FieldGiven)

pub places_first : (o : Given) → behind_given (all_given []) o ≡ o
places_first None = refl
places_first (Some gs) = refl

abbrev placed_as : List ℕ → Ty → ℕ → FieldGiven
placed_as n T i = record { name = n; ty = T; place = i }

-- the field in front, by the place of its value
at_field : (x : FieldType) (fs : List FieldType) (names : List (List ℕ)) → places_given (fields_of (x ∷ fs)) names ≡ with_place (field_name x) (field_ty x) (place_of (field_name x) names) (places_given (fields_of fs) names)
at_field (f.Field n T) fs names = refl

opened : (fs : List FieldType) (i : ℕ) (x : FieldType) (names : List (List ℕ)) → i < length fs → x ≡ get_or fs i x →
    places_given (fields_of (drop i fs)) names ≡ with_place (field_name x) (field_ty x) (place_of (field_name x) names) (places_given (fields_of (drop (i + 1) fs)) names)
opened fs i x names within here = ap (λ gs. places_given (fields_of gs) names) (at_next fs i x within here) ∙ at_field x (drop (i + 1) fs) names

one_more : (gs : List FieldGiven) (n : List ℕ) (T : Ty) (i : ℕ) (o : Given) → behind_given gs (with_place n T (Some i) o) ≡ behind_given (gs ++ placed_as n T i ∷ []) o
one_more gs n T i None = refl
one_more gs n T i (Some hs) = ap Some (sym (append_assoc gs (placed_as n T i ∷ []) hs))

pub places_next : (fs : List FieldType) (i : ℕ) (x : FieldType) (names : List (List ℕ)) (p : ℕ) (gs hs : List code.FieldGiven) (g : code.FieldGiven) (all : Given) → i < length fs → x ≡ get_or fs i x →
    Some p ≡ place_of (field_name x) names → given_view g ≡ placed_as (field_name x) (field_ty x) p → hs ≡ gs ++ g ∷ [] →
    behind_given (all_given gs) (places_given (fields_of (drop i fs)) names) ≡ all → behind_given (all_given hs) (places_given (fields_of (drop (i + 1) fs)) names) ≡ all
places_next fs i x names p gs hs g all within here there is more inv =
    let rest : Given = places_given (fields_of (drop (i + 1) fs)) names in
    ap (λ ks. behind_given (all_given ks) rest) more
    ∙ ap (λ ks. behind_given ks rest) (map-append given_view gs (g ∷ []))
    ∙ ap (λ k. behind_given (all_given gs ++ k ∷ []) rest) is
    ∙ sym (one_more (all_given gs) (field_name x) (field_ty x) p rest)
    ∙ ap (λ o. behind_given (all_given gs) (with_place (field_name x) (field_ty x) o rest)) there
    ∙ sym (ap (behind_given (all_given gs)) (opened fs i x names within here))
    ∙ inv

pub places_missing : (fs : List FieldType) (i : ℕ) (x : FieldType) (names : List (List ℕ)) (gs : List code.FieldGiven) (all : Given) → i < length fs → x ≡ get_or fs i x → None ≡ place_of (field_name x) names →
    behind_given (all_given gs) (places_given (fields_of (drop i fs)) names) ≡ all → None ≡ all
places_missing fs i x names gs all within here none inv =
    let rest : Given = places_given (fields_of (drop (i + 1) fs)) names in
    ap (λ o. behind_given (all_given gs) (with_place (field_name x) (field_ty x) o rest)) none
    ∙ sym (ap (behind_given (all_given gs)) (opened fs i x names within here))
    ∙ inv

pub places_last : (fs : List FieldType) (i : ℕ) (names : List (List ℕ)) (gs : List code.FieldGiven) (all : Given) → length fs ≤ i →
    behind_given (all_given gs) (places_given (fields_of (drop i fs)) names) ≡ all → Some (all_given gs) ≡ all
places_last fs i names gs all end inv =
    ap Some (sym (append-nil (all_given gs)))
    ∙ ap (λ hs. behind_given (all_given gs) (places_given (fields_of hs) names)) (sym (drop_all i fs end))
    ∙ inv
