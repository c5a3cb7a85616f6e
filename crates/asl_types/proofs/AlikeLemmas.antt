-- What holds of parts that are all one type, by the first of them.
use Rattle.std.proofs.Common.{◌≡◌, ◌≢◌, ℕ, zero, suc, Bool, true, false, ◌&&◌, List, [], ◌∷◌, length, Option, Some, None, refl, sym, ap, ap₂, ◌∙◌, subst, arith}
use Rattle.std.specs.Prelude.{replicate}
use Rattle.asl_syn.specs.declared.code.StaticCode.{StaticCode}
use Rattle.asl_rules.proofs.basics.Tests.{some_none, some_same}
use Rattle.asl_rules.specs.Tests.{Tests}
use Rattle.asl_rules.specs.types.Types as rules
use Rattle.asl_rules.specs.types.Types.{Ty, Parts, Kinds, no_kind, part, integer_of, boolean, bits_of, enumeration_of, record_of, exception_of, tuple_of, array_of, named, tuple_parts, kind, kinds, one_more, same_kind, same_kinds, misfit_inside, misfit_of_parts, or_else, bare, bare_parts, widened, widened_parts}
use Rattle.asl_value.specs.declared.value.Kind.{Kind}
use Rattle.asl_value.specs.View.{kind_of, all_kinds}
use Rattle.asl_types.specs.declared.ty.Form.{Form}
use Rattle.asl_types.specs.declared.ty.Form.TheVariants as t
use Rattle.asl_types.specs.private.Alike.{AllAre, Alike, IsAlike, own_parts}
use Rattle.asl_types.specs.View.{form_view, parts_of}

-- so many times a type are alike
all_times : (T : Ty) (n : ℕ) → AllAre T (parts_of (replicate n T))
all_times T zero = tt
all_times T (suc n) = (refl, all_times T n)

pub times_alike : (T : Ty) (n : ℕ) → Alike (parts_of (replicate n T))
times_alike T zero = tt
times_alike T (suc n) = all_times T n

-- ---- marks

-- the mark of a tuple is one of its parts
pub mark_of : (b : Bool) (f : Form) (T : Ty) (Ts Us : List Ty) → form_view f ≡ T → f ≡ t.Tuple Ts → Us ≡ Ts → IsAlike b (own_parts T) → IsAlike b (parts_of Us)
mark_of b f T Ts Us seen is same h =
    let e : own_parts T ≡ parts_of Us = ap own_parts (sym seen ∙ ap form_view is) ∙ ap parts_of (sym same) in
    subst (IsAlike b) e h

pub marked : (b : Bool) (ts : Parts) → true ≡ b → IsAlike b ts → Alike ts
marked b ts e h = subst (λ c. IsAlike c ts) (sym e) h

-- the parts that are found are those of the type
pub alike_there : (b : Bool) (T : Ty) (ts : Parts) → Some ts ≡ tuple_parts T → true ≡ b → IsAlike b (rules.parts_of T) → Alike ts
alike_there b T ts found e h = marked b ts e (subst (IsAlike b) (here T ts found) h)
  where
    here : (T : Ty) (ts : Parts) → Some ts ≡ tuple_parts T → rules.parts_of T ≡ ts
    here (tuple_of us) ts h = sym (some_same ts us h)
    here (named name supers U) ts h = here U ts h
    here (integer_of ps) ts h = some_none ts h
    here boolean ts h = some_none ts h
    here (bits_of w view) ts h = some_none ts h
    here (enumeration_of name labels) ts h = some_none ts h
    here (record_of name fs) ts h = some_none ts h
    here (exception_of name fs) ts h = some_none ts h
    here (array_of n U) ts h = some_none ts h

-- ---- without names, and in no constraint

bare_times : (T : Ty) (Ts : List Ty) → AllAre T (parts_of Ts) → parts_of (replicate (length Ts) (bare T)) ≡ bare_parts (parts_of Ts)
bare_times T [] h = refl
bare_times T (U ∷ Us) h = ap₂ (λ V ts. part (bare V) ts) (sym h.0) (bare_times T Us h.1)

pub bare_first : (T : Ty) (Ts Us : List Ty) → Us ≡ T ∷ Ts → Alike (parts_of Us) → tuple_of (parts_of (replicate (length Us) (bare T))) ≡ bare (tuple_of (parts_of Us))
bare_first T Ts Us is h =
    let k : AllAre T (parts_of Ts) = subst (λ Vs. Alike (parts_of Vs)) is h in
    subst (λ Vs. tuple_of (parts_of (replicate (length Vs) (bare T))) ≡ bare (tuple_of (parts_of Vs))) (sym is) (ap (λ ts. tuple_of (part (bare T) ts)) (bare_times T Ts k))

widened_times : (T : Ty) (Ts : List Ty) → AllAre T (parts_of Ts) → parts_of (replicate (length Ts) (widened T)) ≡ widened_parts (parts_of Ts)
widened_times T [] h = refl
widened_times T (U ∷ Us) h = ap₂ (λ V ts. part (widened V) ts) (sym h.0) (widened_times T Us h.1)

pub widened_first : (T : Ty) (Ts Us : List Ty) → Us ≡ T ∷ Ts → Alike (parts_of Us) → tuple_of (parts_of (replicate (length Us) (widened T))) ≡ widened (tuple_of (parts_of Us))
widened_first T Ts Us is h =
    let k : AllAre T (parts_of Ts) = subst (λ Vs. Alike (parts_of Vs)) is h in
    subst (λ Vs. tuple_of (parts_of (replicate (length Vs) (widened T))) ≡ widened (tuple_of (parts_of Vs))) (sym is) (ap (λ ts. tuple_of (part (widened T) ts)) (widened_times T Ts k))

-- ---- kinds

kind_times : (T : Ty) (k : Kind) (Ts : List Ty) → kind_of k ≡ kind T → AllAre T (parts_of Ts) → all_kinds (replicate (length Ts) k) ≡ kinds (parts_of Ts)
kind_times T k [] e h = refl
kind_times T k (U ∷ Us) e h = ap₂ one_more (e ∙ ap kind (sym h.0)) (kind_times T k Us e h.1)

pub kinds_first : (T : Ty) (k : Kind) (Ts Us : List Ty) → kind_of k ≡ kind T → Us ≡ T ∷ Ts → Alike (parts_of Us) → all_kinds (replicate (length Us) k) ≡ kinds (parts_of Us)
kinds_first T k Ts Us e is h =
    let a : AllAre T (parts_of Ts) = subst (λ Vs. Alike (parts_of Vs)) is h in
    subst (λ Vs. all_kinds (replicate (length Vs) k) ≡ kinds (parts_of Vs)) (sym is) (ap₂ one_more e (kind_times T k Ts e a))

-- ---- whether kinds are the same

and_self : (b : Bool) → (b && b) ≡ b
and_self true = refl
and_self false = refl

and_true : (b : Bool) → (b && true) ≡ b
and_true true = refl
and_true false = refl

same_times : (T U : Ty) (Ts Us : List Ty) → AllAre T (parts_of Ts) → AllAre U (parts_of Us) → length Ts ≡ length Us → (same_kind T U && same_kinds (parts_of Ts) (parts_of Us)) ≡ same_kind T U
same_times T U [] [] h k e = and_true (same_kind T U)
same_times T U [] (V ∷ Us) h k e = absurd (omega (arith, e))
same_times T U (S ∷ Ts) [] h k e = absurd (omega (arith, e))
same_times T U (S ∷ Ts) (V ∷ Us) h k e =
    ap₂ (λ A B. same_kind T U && (same_kind A B && same_kinds (parts_of Ts) (parts_of Us))) h.0 k.0
    ∙ ap (λ b. same_kind T U && b) (same_times T U Ts Us h.1 k.1 (omega (arith, e)))
    ∙ and_self (same_kind T U)

pub same_by_first : (b : Bool) (T U : Ty) (Ts Us Vs Ws : List Ty) → b ≡ same_kind T U → Vs ≡ T ∷ Ts → Ws ≡ U ∷ Us → Alike (parts_of Vs) → Alike (parts_of Ws) → length Vs ≡ length Ws → b ≡ same_kinds (parts_of Vs) (parts_of Ws)
same_by_first b T U Ts Us Vs Ws e is so h k l =
    let g : AllAre T (parts_of Ts) = subst (λ Xs. Alike (parts_of Xs)) is h in
    let j : AllAre U (parts_of Us) = subst (λ Xs. Alike (parts_of Xs)) so k in
    let same : length (T ∷ Ts) ≡ length (U ∷ Us) = ap length (sym is) ∙ l ∙ ap length so in
    e ∙ sym (same_times T U Ts Us g j (omega (arith, same)))
    ∙ ap₂ (λ Xs Ys. same_kinds (parts_of Xs) (parts_of Ys)) (sym is) (sym so)

-- as many parts as none are none
pub same_none : (Vs Ws : List Ty) → Vs ≡ [] → length Vs ≡ length Ws → true ≡ same_kinds (parts_of Vs) (parts_of Ws)
same_none Vs [] is l = ap (λ Xs. same_kinds (parts_of Xs) (parts_of [])) (sym is)
same_none Vs (W ∷ Ws) is l = let none : length Vs ≡ 0 = ap length is in absurd (omega (arith, none, l))

pub same_nothing : (Vs Ws : List Ty) → Ws ≡ [] → length Vs ≡ length Ws → true ≡ same_kinds (parts_of Vs) (parts_of Ws)
same_nothing [] Ws is l = ap (λ Xs. same_kinds (parts_of []) (parts_of Xs)) (sym is)
same_nothing (V ∷ Vs) Ws is l = let none : length Ws ≡ 0 = ap length is in absurd (omega (arith, none, l))

-- other numbers of parts are never the same
pub same_apart : (Vs Ws : List Ty) → length Vs ≢ length Ws → false ≡ same_kinds (parts_of Vs) (parts_of Ws)
same_apart [] [] l = absurd (l refl)
same_apart [] (W ∷ Ws) l = refl
same_apart (V ∷ Vs) [] l = refl
same_apart (V ∷ Vs) (W ∷ Ws) l = by (same_kind V W) (same_apart Vs Ws (λ e. l (ap suc e)))
  where
    by : (b : Bool) → false ≡ same_kinds (parts_of Vs) (parts_of Ws) → false ≡ (b && same_kinds (parts_of Vs) (parts_of Ws))
    by true h = h
    by false h = refl

-- ---- misfits

or_self : (o : Option StaticCode) → or_else o o ≡ o
or_self None = refl
or_self (Some c) = refl

or_none : (o : Option StaticCode) → or_else o None ≡ o
or_none None = refl
or_none (Some c) = refl

misfit_times : (t : Tests) (T U : Ty) (Ts Us : List Ty) → AllAre T (parts_of Ts) → AllAre U (parts_of Us) → or_else (misfit_inside t T U) (misfit_of_parts t (parts_of Ts) (parts_of Us)) ≡ misfit_inside t T U
misfit_times t T U [] Us h k = or_none (misfit_inside t T U)
misfit_times t T U (S ∷ Ts) [] h k = or_none (misfit_inside t T U)
misfit_times t T U (S ∷ Ts) (V ∷ Us) h k =
    ap₂ (λ A B. or_else (misfit_inside t T U) (or_else (misfit_inside t A B) (misfit_of_parts t (parts_of Ts) (parts_of Us)))) h.0 k.0
    ∙ ap (or_else (misfit_inside t T U)) (misfit_times t T U Ts Us h.1 k.1)
    ∙ or_self (misfit_inside t T U)

pub misfit_by_first : (t : Tests) (o : Option StaticCode) (T U : Ty) (Ts Us Vs Ws : List Ty) → o ≡ misfit_inside t T U → Vs ≡ T ∷ Ts → Ws ≡ U ∷ Us → Alike (parts_of Vs) → Alike (parts_of Ws) → o ≡ misfit_of_parts t (parts_of Vs) (parts_of Ws)
misfit_by_first t o T U Ts Us Vs Ws e is so h k =
    let g : AllAre T (parts_of Ts) = subst (λ Xs. Alike (parts_of Xs)) is h in
    let j : AllAre U (parts_of Us) = subst (λ Xs. Alike (parts_of Xs)) so k in
    e ∙ sym (misfit_times t T U Ts Us g j) ∙ ap₂ (λ Xs Ys. misfit_of_parts t (parts_of Xs) (parts_of Ys)) (sym is) (sym so)

pub misfit_none : (t : Tests) (Vs Ws : List Ty) → Vs ≡ [] → None ≡ misfit_of_parts t (parts_of Vs) (parts_of Ws)
misfit_none t Vs Ws is = ap (λ Xs. misfit_of_parts t (parts_of Xs) (parts_of Ws)) (sym is)

pub misfit_nothing : (t : Tests) (Vs Ws : List Ty) → Ws ≡ [] → None ≡ misfit_of_parts t (parts_of Vs) (parts_of Ws)
misfit_nothing t [] Ws is = refl
misfit_nothing t (V ∷ Vs) Ws is = ap (λ Xs. misfit_of_parts t (parts_of (V ∷ Vs)) (parts_of Xs)) (sym is)
