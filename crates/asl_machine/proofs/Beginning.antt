-- The memory of a machine before its first call.
use Rattle.std.proofs.Common.{◌≡◌, ℕ, suc, Bool, true, false, cond, List, [], ◌∷◌, length, map, refl, sym, ap, ◌∙◌, subst}
use Rattle.std.proofs.Math.Logic.{∥∥₁_elim, ∥∥₁_map}
use Rattle.asl_rules.specs.private.Agreement.{GlobalsMatch}
use Rattle.asl_rules.specs.runs.States.{Binding}
use Rattle.asl_rules.specs.Tests.{Tests}
use Rattle.asl_rules.specs.values.Values as rules
use Rattle.asl_laws.proofs.soundness.Soundness.{soundness}
use Rattle.asl_laws.proofs.soundness.SoundnessFacts.{facts_of}
use Rattle.asl_tree.specs.Sealed.{Sealed, Cell, cells_in, cells_of, IsSealed}
use Rattle.asl_tree.specs.declared.act.TreeFunc.{TreeFunc}
use Rattle.asl_tree.specs.declared.checked.Global.{Global}
use Rattle.asl_value.specs.View.{value_of}
use Rattle.asl_machine.specs.Storage.{given, marks_of, values_in, vars_from, with_values}
use Rattle.asl_machine.specs.Work.{initial_of, names_of_vars, Arranged, HoldStorage, IsInitial}
use Rattle.asl_machine.proofs.Exchange.{names}
use Rattle.asl_machine.proofs.Sets.{values_set}

-- ---- as the storage stands

-- the values of the variables are those in their places
given_first : (g : Global) (gs : List Global) → given (marks_of gs) (values_in gs) (vars_from gs) ≡ values_in gs → (b : Bool) → b ≡ g.is_mutable → given (marks_of (g ∷ gs)) (values_in (g ∷ gs)) (vars_from (g ∷ gs)) ≡ values_in (g ∷ gs)
given_first g gs r true e = rw (sym e) (ap (λ z. g.value ∷ z) r)
given_first g gs r false e = rw (sym e) (ap (λ z. g.value ∷ z) r)

given_begun : (gs : List Global) → given (marks_of gs) (values_in gs) (vars_from gs) ≡ values_in gs
given_begun [] = refl
given_begun (g ∷ gs) = given_first g gs (given_begun gs) g.is_mutable refl

-- ---- as bindings

marks_in : List Cell → List Bool
marks_in cs = map (λ (c : Cell). c.is_mutable) cs

values_at : List Cell → List rules.Value
values_at cs = map (λ (c : Cell). c.value) cs

names_at : List Cell → List (List ℕ)
names_at [] = []
names_at (c ∷ cs) = cond c.is_mutable (c.name ∷ names_at cs) (names_at cs)

marks_by : (gs : List Global) → marks_of gs ≡ marks_in (cells_of gs)
unfolding marks_in
marks_by [] = refl
marks_by (g ∷ gs) = ap (λ z. g.is_mutable ∷ z) (marks_by gs)

marks_bound : (bs : List Binding) → marks_in (cells_in bs) ≡ map (λ (b : Binding). b.is_mutable) bs
unfolding marks_in
marks_bound [] = refl
marks_bound (b ∷ bs) = ap (λ z. b.is_mutable ∷ z) (marks_bound bs)

values_by : (gs : List Global) → map value_of (values_in gs) ≡ values_at (cells_of gs)
unfolding values_at
values_by [] = refl
values_by (g ∷ gs) = ap (λ z. value_of g.value ∷ z) (values_by gs)

-- bindings with their own values
with_bound : (bs : List Binding) → with_values bs (values_at (cells_in bs)) ≡ bs
unfolding values_at
with_bound [] = refl
with_bound (b ∷ bs) = ap (λ z. b ∷ z) (with_bound bs)

name_first : (g : Global) (gs : List Global) → names (vars_from gs) ≡ names_at (cells_of gs) → (b : Bool) → b ≡ g.is_mutable → names (vars_from (g ∷ gs)) ≡ names_at (cells_of (g ∷ gs))
unfolding names_at
name_first g gs r true e = rw (sym e) (ap (λ z. g.name ∷ z) r)
name_first g gs r false e = rw (sym e) r

names_by : (gs : List Global) → names (vars_from gs) ≡ names_at (cells_of gs)
unfolding names_at
names_by [] = refl
names_by (g ∷ gs) = name_first g gs (names_by gs) g.is_mutable refl

name_bound : (b : Binding) (bs : List Binding) → names_at (cells_in bs) ≡ names_of_vars bs → (m : Bool) → m ≡ b.is_mutable → names_at (cells_in (b ∷ bs)) ≡ names_of_vars (b ∷ bs)
unfolding names_at
name_bound b bs r true e = rw (sym e) (ap (λ z. b.name ∷ z) r)
name_bound b bs r false e = rw (sym e) r

names_bound : (bs : List Binding) → names_at (cells_in bs) ≡ names_of_vars bs
unfolding names_at
names_bound [] = refl
names_bound (b ∷ bs) = name_bound b bs (names_bound bs) b.is_mutable refl

room_begun : (gs : List Global) → length (values_in gs) ≡ length (marks_of gs)
room_begun [] = refl
room_begun (g ∷ gs) = ap (λ n. suc n) (room_begun gs)

-- ---- what a sealed program gives

values_begun : (t : Tests) (c : Sealed) (gs : List Global) → cells_of gs ≡ cells_in (initial_of t c) → map value_of (given (marks_of gs) (values_in gs) (vars_from gs)) ≡ values_at (cells_in (initial_of t c))
values_begun t c gs e = ap (λ xs. map value_of xs) (given_begun gs) ∙ values_by gs ∙ ap values_at e

pub begun_is : (c : Sealed) (fs : List TreeFunc) (gs : List Global) → IsSealed c.decls c.asked c.entries fs gs → IsInitial c (given (marks_of gs) (values_in gs) (vars_from gs))
begun_is c fs gs s = λ t r. ap (λ xs. with_values (initial_of t c) xs) (∥∥₁_elim (s t r) (values_set _ _) (λ m. values_begun t c gs m.begins)) ∙ with_bound (initial_of t c)

pub begun_arranged : (c : Sealed) (fs : List TreeFunc) (gs : List Global) → IsSealed c.decls c.asked c.entries fs gs → Arranged c (marks_of gs) (values_in gs) (vars_from gs)
begun_arranged c fs gs s = λ t r. ∥∥₁_map (s t r) (λ m. record {
  marks_are = marks_by gs ∙ ap marks_in m.begins ∙ marks_bound (initial_of t c);
  names_are = names_by gs ∙ ap names_at m.begins ∙ names_bound (initial_of t c);
  room = room_begun gs;
})

pub begun_held : (c : Sealed) (fs : List TreeFunc) (gs : List Global) → IsSealed c.decls c.asked c.entries fs gs → HoldStorage c (given (marks_of gs) (values_in gs) (vars_from gs))
begun_held c fs gs s = λ t r. ∥∥₁_map (s t r) (λ m.
    let sound = soundness t r.right c.decls _ (facts_of t c.asked c.decls _ m.accepts) m.grown in
    record { accepted = _; is = m.accepts; match = subst (λ bs. GlobalsMatch m.names bs) (sym (begun_is c fs gs s t r)) sound.0.initial })
