-- Places: the place of a name holds what stands under the name.
use Rattle.std.proofs.Common.{◌≡◌, ℕ, suc, Bool, true, false, cond, List, [], ◌∷◌, ◌++◌, Option, Some, None, option_map, refl, sym, ap, ◌∙◌}
use Rattle.std.specs.Prelude.{slice_get}
use Rattle.std.specs.Str.{bytes_eq}
use Rattle.asl_rules.specs.declarations.Layouts.{place_of, number_before, slot_among, slot_of, local_name, global_name, local_names, global_names, layout_of}
use Rattle.asl_rules.specs.types.Types.{Ty}
use Rattle.asl_rules.specs.types.Closed.{Assignment}
use Rattle.asl_rules.specs.declarations.Scopes.{Entry, Standing, Stored, Subprogram, TypeName, Label, entry_names}
use Rattle.asl_rules.specs.values.Values.{Value}
use Rattle.asl_rules.specs.runs.States.{Binding, Core}
use Rattle.asl_rules.specs.private.Agreement.{IsPlain, AllPlain, AllMatch, global_matches, local_matches, FrameMatches, types_in, Agrees}
use Rattle.asl_rules.specs.runs.Evaluation.{value_of, or_value}
use Rattle.asl_rules.specs.private.TypedMeaning.{BareCore, value_at}
use Rattle.asl_rules.specs.private.Erasure.{values_of, erased}

unfoldable pub binding_names : List Binding → List (List ℕ)
binding_names [] = []
binding_names (b ∷ bs) = b.name ∷ binding_names bs

-- ---- reading

-- a place, where there is one, holds this value, and there is none where there is no value
abbrev pub PlaceHolds : List Value → Option ℕ → Option Value → Type 0
PlaceHolds xs None None = Unit {0}
PlaceHolds xs None (Some x) = ⊥
PlaceHolds xs (Some i) None = ⊥
PlaceHolds xs (Some i) (Some x) = slice_get xs i ≡ Some x

holds_later : (y : Value) (xs : List Value) (o : Option ℕ) (v : Option Value) → PlaceHolds xs o v → PlaceHolds (y ∷ xs) (option_map (λ i. suc i) o) v
holds_later y xs None None h = tt
holds_later y xs None (Some x) h = absurd h
holds_later y xs (Some i) None h = absurd h
holds_later y xs (Some i) (Some x) h = h

holds_one : (d : Bool) (x : Value) (xs : List Value) (o : Option ℕ) (v : Option Value) → PlaceHolds xs o v → PlaceHolds (x ∷ xs) (cond d (Some 0) (option_map (λ i. suc i) o)) (cond d (Some x) v)
holds_one true x xs o v h = refl
holds_one false x xs o v h = holds_later x xs o v h

place_holds : (name : List ℕ) (bs : List Binding) → PlaceHolds (values_of bs) (place_of name (binding_names bs)) (value_of name bs)
unfolding binding_names
place_holds name [] = tt
place_holds name (b ∷ bs) = holds_one (bytes_eq b.name name) b.value (values_of bs) (place_of name (binding_names bs)) (value_of name bs) (place_holds name bs)

-- the place after so many holds this value, where there is one
abbrev pub NumberHolds : List Value → ℕ → Option Value → Type 0
NumberHolds xs i None = Unit {0}
NumberHolds xs i (Some x) = slice_get xs i ≡ Some x

number_one : (d : Bool) (x : Value) (xs : List Value) (n : ℕ) (v : Option Value) → NumberHolds xs n v → NumberHolds (x ∷ xs) (cond d 0 (suc n)) (cond d (Some x) v)
number_one true x xs n v h = refl
number_one false x xs n None h = tt
number_one false x xs n (Some y) h = h

number_holds : (name : List ℕ) (bs : List Binding) → NumberHolds (values_of bs) (number_before name (binding_names bs)) (value_of name bs)
unfolding binding_names
number_holds name [] = tt
number_holds name (b ∷ bs) = number_one (bytes_eq b.name name) b.value (values_of bs) (number_before name (binding_names bs)) (value_of name bs) (number_holds name bs)

slot_holds : (x : Value) (c : BareCore) (o : Option ℕ) (name : List ℕ) (names : List (List ℕ)) (u v : Option Value) → PlaceHolds c.frame o u → NumberHolds c.globals (number_before name names) v → or_value u v ≡ Some x → value_at (slot_among o name names) c ≡ Some x
slot_holds x c (Some i) name names (Some y) v h k e = h ∙ e
slot_holds x c (Some i) name names None v h k e = absurd h
slot_holds x c None name names (Some y) v h k e = absurd h
slot_holds x c None name names None (Some y) h k e = k ∙ e
slot_holds x c None name names None None h k e = absurd cc

-- ---- the names of the places

matched_name : (a : Assignment) (d : List ℕ → Option Ty) (n : List ℕ) (st : Standing) (b : Binding) → local_matches d a n st b → b.name ≡ n
matched_name a d n (Stored s) b m = m.name_is
matched_name a d n Subprogram b m = absurd m
matched_name a d n (TypeName T) b m = absurd m
matched_name a d n (Label T x) b m = absurd m

frame_names : (a : Assignment) (d : List ℕ → Option Ty) (es : List Entry) (bs : List Binding) → FrameMatches d a es bs → entry_names es ≡ binding_names bs
unfolding binding_names
frame_names a d [] [] m = refl
frame_names a d [] (b ∷ bs) m = absurd m
frame_names a d (e ∷ es) [] m = absurd m
frame_names a d (e ∷ es) (b ∷ bs) m = ap (λ n. n ∷ entry_names es) (sym (matched_name a d e.name e.standing b m.0)) ∙ ap (λ ns. b.name ∷ ns) (frame_names a d es bs m.1)

-- the names outside bodies stand for global storage
abbrev pub IsOutside : Standing → Type 0
IsOutside (Stored s) = s.is_global ≡ true
IsOutside Subprogram = Unit {0}
IsOutside (TypeName T) = Unit {0}
IsOutside (Label T x) = Unit {0}

abbrev pub AllOutside : List Entry → Type 0
AllOutside [] = Unit {0}
AllOutside (e ∷ es) = IsOutside e.standing × AllOutside es

global_by : (d : List ℕ → Option Ty) (n : List ℕ) (st : Standing) (es : List Entry) (bs : List Binding) → IsOutside st → global_matches d n st bs (AllMatch d es) → ((cs : List Binding) → AllMatch d es cs → global_names es ≡ binding_names cs) →
    global_name n st (global_names es) ≡ binding_names bs
unfolding binding_names
global_by d n Subprogram es bs o m next = next bs m
global_by d n (TypeName T) es bs o m next = next bs m
global_by d n (Label T x) es bs o m next = next bs m
global_by d n (Stored s) es [] o m next = absurd m
global_by d n (Stored s) es (b ∷ bs) o m next =
    ap (λ g. cond g (n ∷ global_names es) (global_names es)) o ∙ ap (λ l. l ∷ global_names es) (sym m.0.holds.name_is) ∙ ap (λ ns. b.name ∷ ns) (next bs m.1)

globals_are : (d : List ℕ → Option Ty) (es : List Entry) (bs : List Binding) → AllOutside es → AllMatch d es bs → global_names es ≡ binding_names bs
unfolding binding_names
globals_are d [] [] o m = refl
globals_are d [] (b ∷ bs) o m = absurd m
globals_are d (e ∷ es) bs o m = global_by d e.name e.standing es bs o.0 m (λ cs k. globals_are d es cs o.1 k)

-- the places of a state that agrees with a scope have the names of the layout
pub record HasNames (names : List Entry) (c : Core) : Type 0 where
  pub frame : local_names names ≡ binding_names c.frame
  pub globals : global_names names ≡ binding_names c.globals

no_local : (name : List ℕ) (st : Standing) (ns : List (List ℕ)) → IsOutside st → local_name name st ns ≡ ns
no_local name (Stored s) ns h = ap (λ b. cond b ns (name ∷ ns)) h
no_local name Subprogram ns h = refl
no_local name (TypeName T) ns h = refl
no_local name (Label T x) ns h = refl

locals_behind : (es fs : List Entry) → AllOutside es → local_names (es ++ fs) ≡ local_names fs
locals_behind [] fs h = refl
locals_behind (e ∷ es) fs h = no_local e.name e.standing (local_names (es ++ fs)) h.0 ∙ locals_behind es fs h.1

globals_behind : (es fs : List Entry) → global_names fs ≡ [] → global_names (es ++ fs) ≡ global_names es
globals_behind [] fs n = n
globals_behind (e ∷ es) fs n = ap (global_name e.name e.standing) (globals_behind es fs n)

is_local : (a : Assignment) (d : List ℕ → Option Ty) (n : List ℕ) (st : Standing) (b : Binding) (ns : List (List ℕ)) → local_matches d a n st b → IsPlain st → local_name n st ns ≡ n ∷ ns
is_local a d n (Stored s) b ns m h = ap (λ g. cond g ns (n ∷ ns)) h.1
is_local a d n Subprogram b ns m h = absurd m
is_local a d n (TypeName T) b ns m h = absurd m
is_local a d n (Label T x) b ns m h = absurd m

not_global : (a : Assignment) (d : List ℕ → Option Ty) (n : List ℕ) (st : Standing) (b : Binding) (ns : List (List ℕ)) → local_matches d a n st b → IsPlain st → global_name n st ns ≡ ns
not_global a d n (Stored s) b ns m h = ap (λ g. cond g (n ∷ ns) ns) h.1
not_global a d n Subprogram b ns m h = absurd m
not_global a d n (TypeName T) b ns m h = absurd m
not_global a d n (Label T x) b ns m h = absurd m

all_local : (a : Assignment) (d : List ℕ → Option Ty) (es : List Entry) (bs : List Binding) → FrameMatches d a es bs → AllPlain es → local_names es ≡ entry_names es
all_local a d [] [] m h = refl
all_local a d [] (b ∷ bs) m h = absurd m
all_local a d (e ∷ es) [] m h = absurd m
all_local a d (e ∷ es) (b ∷ bs) m h = is_local a d e.name e.standing b (local_names es) m.0 h.0 ∙ ap (λ ns. e.name ∷ ns) (all_local a d es bs m.1 h.1)

none_global : (a : Assignment) (d : List ℕ → Option Ty) (es : List Entry) (bs : List Binding) → FrameMatches d a es bs → AllPlain es → global_names es ≡ []
none_global a d [] [] m h = refl
none_global a d [] (b ∷ bs) m h = absurd m
none_global a d (e ∷ es) [] m h = absurd m
none_global a d (e ∷ es) (b ∷ bs) m h = not_global a d e.name e.standing b (global_names es) m.0 h.0 ∙ none_global a d es bs m.1 h.1

pub has_names : (a : Assignment) (base names : List Entry) (c : Core) → AllOutside base → Agrees base names a c → HasNames names c
has_names a base names c o g = record {
  frame = ap local_names g.names_are ∙ locals_behind base g.locals o ∙ all_local a (types_in base) g.locals c.frame g.frame g.plain ∙ frame_names a (types_in base) g.locals c.frame g.frame;
  globals = ap global_names g.names_are ∙ globals_behind base g.locals (none_global a (types_in base) g.locals c.frame g.frame g.plain) ∙ globals_are (types_in base) base c.globals o g.globals;
}

-- ---- in a state

-- the slot of a name holds its value
pub slot_is : (x : Value) (name : List ℕ) (names : List Entry) (c : Core) → HasNames names c → or_value (value_of name c.frame) (value_of name c.globals) ≡ Some x → value_at (slot_of name (layout_of names)) (erased c) ≡ Some x
slot_is x name names c n e =
    ap (λ ns. value_at (slot_among (place_of name ns) name (global_names names)) (erased c)) n.frame
    ∙ ap (λ ns. value_at (slot_among (place_of name (binding_names c.frame)) name ns) (erased c)) n.globals
    ∙ slot_holds x (erased c) (place_of name (binding_names c.frame)) name (binding_names c.globals) (value_of name c.frame) (value_of name c.globals) (place_holds name c.frame) (number_holds name c.globals) e
