-- A value as it goes through a type that its own satisfies, and the type of what may be either of two.
use Rattle.std.proofs.Common.{◌≡◌, ℕ, ◌⊎◌, ⊎_elim, true, List, Option, Some, None, refl, subst}
use Rattle.asl_syn.specs.declared.code.StaticCode.{StaticCode}
use Rattle.asl_cons.specs.declared.Part.{Part}
use Rattle.asl_cons.specs.Arithmetic.{union_parts}
use Rattle.asl_cons.specs.Constraint.{AllEnds}
use Rattle.asl_cons.proofs.KeptEnds.{union_keeps}
use Rattle.asl_cons.proofs.Results.{union_left, union_right}
use Rattle.asl_rules.specs.Tests.{Tests, IsRight}
use Rattle.asl_rules.specs.types.Types.{Ty, integer_of, misfit, either, joined, join, bare}
use Rattle.asl_rules.specs.types.Closed.{Assignment, type_with}
use Rattle.asl_rules.specs.values.Values.{Value, int}
use Rattle.asl_rules.specs.types.Views.{viewed, stripped}
use Rattle.asl_rules.specs.private.WellFormed.{Built, Shaped, WellDeclared, WellFormed}
use Rattle.asl_rules.specs.private.Belonging.{has_type, InType}
use Rattle.asl_rules.proofs.basics.Tests.{no, some_same, none_some}
use Rattle.asl_rules.proofs.values.Viewing.{viewed_has, viewed_twice}
use Rattle.asl_rules.proofs.values.Constrained.{is_in_in, in_is_in}
use Rattle.asl_rules.proofs.values.Keeping.{satisfying_keeps}
use Rattle.asl_rules.proofs.values.Bare.{bare_has, stripped_has, stripped_built, stripped_viewed, viewed_built}

module _ (av : Assignment) (tests : Tests) (right : IsRight tests) (d : List ℕ → Option Ty) (w : WellDeclared d) where
  -- a value that fits a type belongs to it as it goes through it
  pub through_type : (S T : Ty) (x : Value) → WellFormed d S → WellFormed d T → misfit tests S T ≡ None → InType d av x S → InType d av (viewed (type_with T av) x) T
  through_type S T x s t m i =
      let h = satisfying_keeps av tests right d w S T x s t i.1 m i.0 in
      (viewed_has (type_with T av) x h, viewed_built d (type_with T av) x i.1, viewed_twice (type_with T av) x)

  left_either : (ps qs : List Part) (x : Value) → AllEnds ps → AllEnds qs → has_type av x (integer_of ps) ≡ true →
      has_type av x (integer_of (union_parts ps qs)) ≡ true
  left_either ps qs (int z) a b h = in_is_in (union_parts ps qs) av z (union_keeps ps qs a b) (union_left av ps qs z (is_in_in ps av z a h))
  left_either ps qs x a b h = no h

  right_either : (ps qs : List Part) (x : Value) → AllEnds ps → AllEnds qs → has_type av x (integer_of qs) ≡ true →
      has_type av x (integer_of (union_parts ps qs)) ≡ true
  right_either ps qs (int z) a b h =
      in_is_in (union_parts ps qs) av z (union_keeps ps qs a b) (union_right av ps qs z (is_in_in qs av z b h))
  right_either ps qs x a b h = no h

  either_has : (S T U : Ty) (x : Value) → Shaped d S → Shaped d T → either S T ≡ Some U →
      (has_type av x S ≡ true) ⊎ (has_type av x T ≡ true) → has_type av x U ≡ true
  either_has (integer_of ps) (integer_of qs) U x a b e k =
      subst (λ V. has_type av x V ≡ true) (some_same (integer_of (union_parts ps qs)) U e)
      (⊎_elim (left_either ps qs x a b) (right_either ps qs x a b) k)
  either_has S T U x a b e k = none_some U e

  join_by : (o p : Option StaticCode) (S T U : Ty) (x : Value) → WellFormed d S → WellFormed d T → Built d x → misfit tests S T ≡ o → misfit tests T S ≡ p → joined o p S T ≡ Some U → (has_type av x S ≡ true) ⊎ (has_type av x T ≡ true) → has_type av x U ≡ true
  join_by None p S T U x s t b g h e k =
      subst (λ V. has_type av x V ≡ true) (some_same T U e) (⊎_elim (satisfying_keeps av tests right d w S T x s t b g) (λ q. q) k)
  join_by (Some c) None S T U x s t b g h e k =
      subst (λ V. has_type av x V ≡ true) (some_same S U e) (⊎_elim (λ q. q) (satisfying_keeps av tests right d w T S x t s b h) k)
  join_by (Some c) (Some f) S T U x s t b g h e k = either_has S T U x s.shaped t.shaped e k

  pub join_has : (S T U : Ty) (x : Value) → WellFormed d S → WellFormed d T → Built d x → join tests S T ≡ Some U → (has_type av x S ≡ true) ⊎ (has_type av x T ≡ true) → has_type av x U ≡ true
  join_has S T U x s t b e k = join_by (misfit tests S T) (misfit tests T S) S T U x s t b refl refl e k

  -- what a conditional expression gives
  pub bare_join : (S T U : Ty) (x : Value) → WellFormed d S → WellFormed d T → Built d x → join tests S T ≡ Some U → (has_type av x S ≡ true) ⊎ (has_type av x T ≡ true) → InType d av (stripped x) (bare U)
  bare_join S T U x s t b e k =
      let h = join_has S T U x s t b e k in
      (bare_has av U (stripped x) (stripped_has (type_with U av) x h), stripped_built d x b, stripped_viewed av U x h)

  either_formed : (S T U : Ty) → Shaped d S → Shaped d T → either S T ≡ Some U → WellFormed d U
  either_formed (integer_of ps) (integer_of qs) U a b e =
      subst (WellFormed d) (some_same (integer_of (union_parts ps qs)) U e) (record { shaped = union_keeps ps qs a b; has_name = refl })
  either_formed S T U a b e = none_some U e

  join_formed_by : (o p : Option StaticCode) (S T U : Ty) → WellFormed d S → WellFormed d T → joined o p S T ≡ Some U → WellFormed d U
  join_formed_by None p S T U s t e = subst (WellFormed d) (some_same T U e) t
  join_formed_by (Some c) None S T U s t e = subst (WellFormed d) (some_same S U e) s
  join_formed_by (Some c) (Some f) S T U s t e = either_formed S T U s.shaped t.shaped e

  pub join_is_well_formed : (S T U : Ty) → WellFormed d S → WellFormed d T → join tests S T ≡ Some U → WellFormed d U
  join_is_well_formed S T U s t e = join_formed_by (misfit tests S T) (misfit tests T S) S T U s t e
