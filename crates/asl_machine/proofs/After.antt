-- The memory of a machine between calls: marks, values and variables that are those of the program's globals.
use Rattle.std.proofs.Common.{◌≡◌, ℕ, suc, Bool, true, false, List, [], ◌∷◌, length, map, refl, sym, ap, ◌∙◌, arith}
use Rattle.std.proofs.Math.Logic.{∥∥₁_elim, ∥∥₁_map}
use Rattle.std.specs.Coded.{Coded-set, coded_list, coded_ℕ}
use Rattle.asl_rules.specs.runs.States.{Binding}
use Rattle.asl_rules.specs.Tests.{Tests}
use Rattle.asl_tree.specs.Sealed.{Sealed}
use Rattle.asl_types.specs.Suits.{Suits}
use Rattle.asl_value.specs.View.{value_of}
use Rattle.asl_value.specs.declared.value.Value.{Value}
use Rattle.asl_machine.specs.Stages.{OnRun}
use Rattle.asl_machine.specs.declared.stage.Stage.{Stage}
use Rattle.asl_machine.specs.declared.stage.Stage.TheVariants as stage
use Rattle.asl_machine.specs.Storage.{given, taken, Var, var_of, vars_in, with_values}
use Rattle.asl_machine.specs.Work.{initial_of, globals_with, names_of_vars, AreNamed, IsOf, Arranged}
use Rattle.asl_machine.specs.declared.memory.GlobalVar.{GlobalVar}
use Rattle.asl_machine.proofs.Exchange.{same_names, same_room}
use Rattle.asl_machine.proofs.Sets.{vars_set}

same_length : {A B : Type 0} (f : A → B) (xs : List A) → length (map f xs) ≡ length xs
same_length f [] = refl
same_length f (x ∷ xs) = ap suc (same_length f xs)

-- as many values as there are bindings
room_of : (bs : List Binding) (ms : List Bool) (xs : List Value) (vs : List GlobalVar) → IsOf bs ms xs vs → length (map value_of (given ms xs vs)) ≡ length bs
room_of bs ms xs vs w = same_length value_of (given ms xs vs) ∙ same_room ms xs vs ∙ w.room ∙ ap length w.marks_are ∙ same_length (λ (b : Binding). b.is_mutable) bs

pub room : (t : Tests) → Suits t → (c : Sealed) (ms : List Bool) (xs : List Value) (vs : List GlobalVar) → Arranged c ms xs vs → length (map value_of (given ms xs vs)) ≡ length (initial_of t c)
room t r c ms xs vs a = ∥∥₁_elim (a t r) (Coded-set coded_ℕ _ _) (room_of (initial_of t c) ms xs vs)

-- after values were taken and others given back
again : (bs : List Binding) (ms : List Bool) (xs ys : List Value) (vs : List GlobalVar) → length (map value_of ys) ≡ length bs → IsOf bs ms xs vs → IsOf bs ms (given ms ys (taken ms xs vs)) (taken ms ys (taken ms xs vs))
again bs ms xs ys vs n w = record {
  marks_are = w.marks_are;
  names_are = same_names ms ys (taken ms xs vs) ∙ same_names ms xs vs ∙ w.names_are;
  room = same_room ms ys (taken ms xs vs) ∙ sym (same_length value_of ys) ∙ n ∙ sym (same_length (λ (b : Binding). b.is_mutable) bs) ∙ ap length (sym w.marks_are);
}

pub arranged_after : (c : Sealed) (ms : List Bool) (xs ys : List Value) (vs : List GlobalVar) → ((t : Tests) → Suits t → length (map value_of ys) ≡ length (initial_of t c)) → Arranged c ms xs vs →
    Arranged c ms (given ms ys (taken ms xs vs)) (taken ms ys (taken ms xs vs))
arranged_after c ms xs ys vs n a = λ t r. ∥∥₁_map (a t r) (again (initial_of t c) ms xs ys vs (n t r))

-- ---- the variables are those among the bindings

abbrev names : List GlobalVar → List (List ℕ)
names vs = map (λ (v : GlobalVar). v.name) vs

a_name : (b : Binding) (bs : List Binding) → true ≡ b.is_mutable → names_of_vars (b ∷ bs) ≡ b.name ∷ names_of_vars bs
a_name b bs e = rw (sym e) refl

no_name : (b : Binding) (bs : List Binding) → false ≡ b.is_mutable → names_of_vars (b ∷ bs) ≡ names_of_vars bs
no_name b bs e = rw (sym e) refl

a_var : (b : Binding) (bs : List Binding) (ms : List Bool) (x : Value) (xs : List Value) (v : GlobalVar) (vs : List GlobalVar) → true ≡ b.is_mutable → v.name ≡ b.name → map var_of vs ≡ vars_in (with_values bs (map value_of (given ms xs vs))) →
    map var_of (v ∷ vs) ≡ vars_in (with_values (b ∷ bs) (map value_of (given (true ∷ ms) (x ∷ xs) (v ∷ vs))))
a_var b bs ms x xs v vs e n r = rw (sym e) (ap (λ (name : List ℕ). (let z : Var = record { name = name; value = value_of v.value } in z) ∷ map var_of vs) n ∙ ap (λ zs. (let z : Var = record { name = b.name; value = value_of v.value } in z) ∷ zs) r)

no_var : (b : Binding) (bs : List Binding) (ms : List Bool) (x : Value) (xs : List Value) (vs : List GlobalVar) → false ≡ b.is_mutable → map var_of vs ≡ vars_in (with_values bs (map value_of (given ms xs vs))) →
    map var_of vs ≡ vars_in (with_values (b ∷ bs) (map value_of (given (false ∷ ms) (x ∷ xs) vs)))
no_var b bs ms x xs vs e r = rw (sym e) r

vars_of_bindings : (bs : List Binding) (ms : List Bool) (xs : List Value) (vs : List GlobalVar) → IsOf bs ms xs vs → map var_of vs ≡ vars_in (with_values bs (map value_of (given ms xs vs)))
vars_of_bindings [] ms xs [] w = refl
vars_of_bindings [] ms xs (v ∷ vs) w = let e = w.names_are in cc
vars_of_bindings (b ∷ bs) [] xs vs w = let e = w.marks_are in cc
vars_of_bindings (b ∷ bs) (m ∷ ms) [] vs w = absurd (omega (arith, w.room))
vars_of_bindings (b ∷ bs) (true ∷ ms) (x ∷ xs) [] w = let e : true ≡ b.is_mutable = (let z = w.marks_are in cc) in let n = w.names_are ∙ a_name b bs e in cc
vars_of_bindings (b ∷ bs) (true ∷ ms) (x ∷ xs) (v ∷ vs) w =
    let marks = w.marks_are in
    let e : true ≡ b.is_mutable = cc in
    let rest : ms ≡ map (λ (z : Binding). z.is_mutable) bs = cc in
    let n : v.name ∷ names vs ≡ b.name ∷ names_of_vars bs = w.names_are ∙ a_name b bs e in
    let first : v.name ≡ b.name = cc in
    let others : names vs ≡ names_of_vars bs = cc in
    a_var b bs ms x xs v vs e first (vars_of_bindings bs ms xs vs (record { marks_are = rest; names_are = others; room = omega (arith, w.room) }))
vars_of_bindings (b ∷ bs) (false ∷ ms) (x ∷ xs) vs w =
    let marks = w.marks_are in
    let e : false ≡ b.is_mutable = cc in
    let rest : ms ≡ map (λ (z : Binding). z.is_mutable) bs = cc in
    no_var b bs ms x xs vs e (vars_of_bindings bs ms xs vs (record { marks_are = rest; names_are = w.names_are ∙ no_name b bs e; room = omega (arith, w.room) }))

pub vars_are : (t : Tests) → Suits t → (c : Sealed) (ms : List Bool) (xs : List Value) (vs : List GlobalVar) → Arranged c ms xs vs → map var_of vs ≡ vars_in (globals_with t c (given ms xs vs))
vars_are t r c ms xs vs a = ∥∥₁_elim (a t r) (vars_set _ _) (vars_of_bindings (initial_of t c) ms xs vs)

-- their names are known however a call ended
pub arranged_named : (c : Sealed) (ms : List Bool) (xs : List Value) (vs : List GlobalVar) → Arranged c ms xs vs → AreNamed c vs
arranged_named c ms xs vs a t r = ∥∥₁_elim (a t r) (Coded-set (coded_list (coded_list coded_ℕ)) _ _) (λ w. w.names_are)

-- what is known where no run was given up
pub on_run : (s : Stage) (P Q : Type 0) → (P → Q) → OnRun s P → OnRun s Q
on_run (stage.Ready x) P Q f p = f p
on_run (stage.Uncaught x) P Q f p = f p
on_run (stage.Fault code span) P Q f p = f p
on_run (stage.Refused e) P Q f p = tt
