-- The elements of arrays.
use Rattle.std.proofs.Common.{◌≡◌, ℕ, zero, suc, ◌&&◌, true, ℤ, pos, negsuc, List, Option, Some, None, ap, sym, ◌∙◌, subst}
use Rattle.std.specs.Prelude.{◌==◌}
use Rattle.asl_syn.specs.declared.token.Span.{Span}
use Rattle.asl_rules.specs.types.Types.{Ty, Kind, arrays, array_of, named, kind, kind_eq, is_integer}
use Rattle.asl_rules.specs.types.Closed.{Assignment, Closed, type_with}
use Rattle.asl_rules.specs.Tests.{Tests, IsRight}
use Rattle.asl_rules.specs.values.Values.{Value, Values, int, array_with, no_value, value, count, has, all_in}
use Rattle.asl_rules.specs.types.Views.{viewed, all_viewed}
use Rattle.asl_rules.specs.private.WellFormed.{Built, BuiltAll}
use Rattle.asl_rules.specs.private.Belonging.{has_type, all_have, InType}
use Rattle.asl_rules.specs.values.Structures.{value_at, inside, element_of}
use Rattle.asl_rules.proofs.basics.Tests.{both, some_same, none_some}
use Rattle.asl_rules.proofs.values.Viewing.{array_same, same_first, same_rest}
use Rattle.asl_rules.proofs.values.Shapes.{named_parts, array_is}
use Rattle.asl_rules.proofs.values.KindOf.{has_kind}
use Rattle.asl_rules.proofs.expressions.OperatorForms.{Gives, is_int}
use Rattle.asl_rules.specs.values.Members.{element_in}

-- a value in its place
record Placed (d : List ℕ → Option Ty) (T : Closed) (x : Value) : Type 0 where
  pub has_it : has x T ≡ true
  pub built : Built d x
  pub view_is : viewed T x ≡ x

at_place : (d : List ℕ → Option Ty) (T : Closed) (xs : Values) (i : ℕ) (x : Value) → all_in xs T ≡ true → BuiltAll d xs → all_viewed T xs ≡ xs → value_at i xs ≡ Some x → Placed d T x
at_place d T no_value i x h b v e = none_some x e
at_place d T (value y ys) zero x h b v e =
    subst (Placed d T) (some_same y x e) (record { has_it = (both (has y T) (all_in ys T) h).0; built = b.0; view_is = same_first (viewed T y) y (all_viewed T ys) ys v })
at_place d T (value y ys) (suc i) x h b v e = at_place d T ys i x (both (has y T) (all_in ys T) h).1 b.1 (same_rest (viewed T y) y (all_viewed T ys) ys v) e

module _ (d : List ℕ → Option Ty) (av : Assignment) (tests : Tests) (right : IsRight tests) where
  -- an array's elements
  record Elements (T : Ty) (xs : Values) : Type 0 where
    pub have : all_have av xs T ≡ true
    pub seen : all_viewed (type_with T av) xs ≡ xs

  elements : (S T : Ty) (l : Kind) (xs : Values) → element_in S ≡ Some T → has_type av (array_with l xs) S ≡ true → viewed (type_with S av) (array_with l xs) ≡ array_with l xs → Elements T xs
  elements (array_of n U) T l xs e h v =
      subst (λ V. Elements V xs) (some_same U T e) (record { have = (both (kind_eq l (kind U) && (count xs == n)) (all_have av xs U) h).1; seen = array_same l l (all_viewed (type_with U av) xs) xs v })
  elements (named n supers S) T l xs e h v = elements S T l xs e (named_parts av (array_with l xs) n supers S h).1 v
  elements S T l xs e h v = none_some T e

  -- the kind of a type with elements
  record Array (S : Ty) : Type 0 where
    pub size : ℕ
    pub of : Kind
    pub is : kind S ≡ arrays size of

  array_kind : (S T : Ty) → element_in S ≡ Some T → Array S
  array_kind (array_of n U) T e = record { size = n; of = kind U; is = ap (arrays n) (ap kind (refl_of U)) }
    where
      refl_of : (U : Ty) → U ≡ U
      refl_of U = λ i. U
  array_kind (named n supers S) T e = let a = array_kind S T e in record { size = a.size; of = a.of; is = a.is }
  array_kind S T e = none_some T e

  inside_gives : (span : Span) (T : Ty) (xs : Values) (i : ℕ) (o : Option Value) → Elements T xs → BuiltAll d xs → value_at i xs ≡ o → Gives d av T (inside span o)
  inside_gives span T xs i None h b e = tt
  inside_gives span T xs i (Some x) h b e = let p = at_place d (type_with T av) xs i x h.have b h.seen e in (p.has_it, p.built, p.view_is)

  index_gives : (span : Span) (T : Ty) (l : Kind) (xs : Values) (z : ℤ) → Elements T xs → BuiltAll d xs → Gives d av T (element_of span (array_with l xs) (int z))
  index_gives span T l xs (pos i) h b = inside_gives span T xs i (value_at i xs) h b (λ j. value_at i xs)
  index_gives span T l xs (negsuc i) h b = tt

  pub element_gives : (span : Span) (S I T : Ty) (x y : Value) → element_in S ≡ Some T → is_integer I ≡ true → InType d av x S → InType d av y I → Gives d av T (element_of span x y)
  element_gives span S I T x y e k i j =
      let a = array_kind S T e in
      let r = array_is a.size a.of x (has_kind av S x i.0 ∙ a.is) in
      let n = is_int d av tests right I y k j in
      subst (λ w. Gives d av T (element_of span w y)) (sym r.1) (subst (λ w. Gives d av T (element_of span (array_with a.of r.0) w)) (sym n.1)
      (index_gives span T a.of r.0 n.0 (elements S T a.of r.0 e (subst (λ w. has_type av w S ≡ true) r.1 i.0) (subst (λ w. viewed (type_with S av) w ≡ w) r.1 i.2)) (subst (Built d) r.1 i.1)))
