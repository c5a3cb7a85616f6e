-- The conditions of a construction, in order.
use Rattle.std.proofs.Common.{◌≡◌, ℕ, List, [], Option, Some, None, Result, Ok, Err, refl, sym, ap, ◌∙◌}
use Rattle.std.specs.Prelude.{option_map}
use Rattle.asl_syn.specs.declared.token.Span.{Span}
use Rattle.asl_syn.specs.declared.code.Fault.{Fault}
use Rattle.asl_syn.specs.declared.code.StaticCode.TheVariants.{T02, T05, T15}
use Rattle.asl_syn.specs.declared.tree.Ident.{Ident}
use Rattle.asl_rules.specs.declared.effect.Effect.{Effect}
use Rattle.asl_rules.specs.declared.effect.Effect.TheVariants.{Pure}
use Rattle.asl_rules.specs.Faults.{◌>>=◌, ◌>>◌, fault, found_or}
use Rattle.asl_rules.specs.values.Members.{Constructed, constructed_as, constructed_of, constructed, given_once, all_fit, texts_of, places_given, construction}
use Rattle.asl_rules.specs.Tests.{Tests}
use Rattle.asl_rules.specs.runs.Trees as tree
use Rattle.asl_rules.specs.runs.Trees.{FieldGiven}
use Rattle.asl_rules.specs.types.Types.{Ty, integer_of, boolean, bits_of, enumeration_of, record_of, exception_of, tuple_of, array_of, named}
use Rattle.asl_rules.specs.expressions.Typing.{Typed, Operand, finish_all, trees_of}
use Rattle.asl_typing.specs.private.Constructs.{Making, made_as, made_of, given_fit, construction_of}

-- a type with what is built of it
abbrev with_type : Ty → Option Making → Option Constructed
with_type T o = option_map (λ m. record { ty = T; shell = m.shell; fields = m.fields }) o

made_is : (T : Ty) (own : List ℕ) (supers : List (List ℕ)) (U : Ty) → constructed_as T own supers U ≡ with_type T (made_as own supers U)
made_is T own supers (integer_of ps) = refl
made_is T own supers boolean = refl
made_is T own supers (bits_of w view) = refl
made_is T own supers (enumeration_of n ls) = refl
made_is T own supers (record_of n fs) = refl
made_is T own supers (exception_of n fs) = refl
made_is T own supers (tuple_of Ts) = refl
made_is T own supers (array_of n U) = refl
made_is T own supers (named n ns U) = made_is T own supers U

made_by : (T : Ty) → constructed_of T ≡ with_type T (made_of T)
made_by (integer_of ps) = refl
made_by boolean = refl
made_by (bits_of w view) = refl
made_by (enumeration_of n ls) = refl
made_by (record_of n fs) = refl
made_by (exception_of n fs) = refl
made_by (tuple_of Ts) = refl
made_by (array_of n U) = refl
made_by (named n ns U) = made_is (named n ns U) n ns U

fit_by : (Ts : Result (List Ty) Fault) (fit : List Ty → Result (Unit {0}) Fault) (r : Result (List FieldGiven) Fault) (k : List FieldGiven → Result Typed Fault) →
    (Ts >>= λ Us. fit Us >> r >>= k) ≡ ((Ts >>= λ Us. fit Us >> r) >>= k)
fit_by (Err e) fit r k = refl
fit_by (Ok Us) fit r k = by (fit Us)
  where
    by : (u : Result (Unit {0}) Fault) → (u >> (r >>= k)) ≡ ((u >> r) >>= k)
    by (Ok v) = refl
    by (Err e) = refl

pub row_of : (t : Tests) (class : Effect) (span : Span) (i : Ident) (T : Ty) (is : List Ident) (os : List Operand) → construction t class span i (Some T) is os ≡ construction_of t class span i T is os
row_of t class span i T is os =
    ap (λ o. found_or o T05 i.span >>= λ c. given_once is [] c.fields >>= λ Ts. all_fit t os Ts >> found_or (places_given c.fields (texts_of is)) T15 span >>= λ gs. finish_all class span os Pure c.ty (λ n. tree.Construct n c.shell gs (trees_of os))) (made_by T)
    ∙ by (made_of T)
  where
    by : (o : Option Making) →
        (found_or (with_type T o) T05 i.span >>= λ c. given_once is [] c.fields >>= λ Ts. all_fit t os Ts >> found_or (places_given c.fields (texts_of is)) T15 span >>= λ gs. finish_all class span os Pure c.ty (λ n. tree.Construct n c.shell gs (trees_of os)))
        ≡ (found_or o T05 i.span >>= λ m. given_fit t span is os m.fields >>= λ gs. finish_all class span os Pure T (λ n. tree.Construct n m.shell gs (trees_of os)))
    by None = refl
    by (Some m) = fit_by (given_once is [] m.fields) (all_fit t os) (found_or (places_given m.fields (texts_of is)) T15 span) (λ gs. finish_all class span os Pure T (λ n. tree.Construct n m.shell gs (trees_of os)))

pub row_missing : (t : Tests) (class : Effect) (span : Span) (i : Ident) (is : List Ident) (os : List Operand) → construction t class span i None is os ≡ (let r : Result Typed Fault = fault T02 i.span in r)
row_missing t class span i is os = refl
