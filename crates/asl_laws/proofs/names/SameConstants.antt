-- What the plans of the forms of expression give before any run is the same in two lists of names, where it is so for the parts.
use Rattle.std.proofs.Common.{◌≡◌, ℕ, Bool, true, false, List, [], ◌∷◌, ◌++◌, refl, ap, ap₂, ◌∙◌}
use Rattle.asl_syn.specs.declared.token.Span.{Span}
use Rattle.asl_syn.specs.declared.tree.BinaryOperator.{BinaryOperator}
use Rattle.asl_rules.specs.types.Shaped.{Shaped, TypeOver, itself, exprs_in, shapes_in, type_shapes, first_shape}
use Rattle.asl_rules.specs.types.Views.{stripped}
use Rattle.asl_rules.specs.values.Values.{Value}
use Rattle.asl_rules.specs.values.Operators.{Decided, Already, ByRight, Strictness, Strict, Lazy, binary_value, truth}
use Rattle.asl_rules.specs.declarations.Scopes.{Entry}
use Rattle.asl_rules.specs.runs.Plans.{Plan, Pure, Good, Bad, choose, lift}
use Rattle.asl_rules.specs.runs.Pures.{◌>>=◌}
use Rattle.asl_rules.specs.runs.Forms as forms
use Rattle.asl_rules.specs.runs.Forms.{at_once, behind, behind_all, behind_more, eval_all, unless_decided, behind_left}
use Rattle.asl_rules.specs.runs.ByNames.{types_among}
use Rattle.asl_rules.specs.declarations.Constants.{Known, settled}
use Rattle.asl_laws.proofs.basics.Lists.{AllOf}

pure_on : {X Y : Type 0} (r : Pure X) (f g : X → Pure Y) → ((x : X) → f x ≡ g x) → (r >>= f) ≡ (r >>= g)
pure_on (Good x) f g h = h x
pure_on (Bad e) f g h = refl

pub pure_same : {X Y : Type 0} (r s : Pure X) (f g : X → Pure Y) → r ≡ s → ((x : X) → f x ≡ g x) → (r >>= f) ≡ (s >>= g)
pure_same r s f g e h = ap (λ z. z >>= f) e ∙ pure_on s f g h

module _ (limit : ℕ) (A B : List Entry) where
  abbrev pub KnownSame : Known → Type 0
  KnownSame e = e A ≡ e B

  abbrev pub ExprsSame : {X : Type 0} → Shaped X Known → Type 0
  ExprsSame s = AllOf KnownSame s.exprs

  pub record ShapeSame (w : Shaped TypeOver Known) : Type 0 where
    pub exprs_are : AllOf KnownSame w.exprs
    pub shape_is : w.shape (types_among A) ≡ w.shape (types_among B)

  -- ---- plans

  abbrev Of : Type 0 → Type 1
  Of X = Plan (List Entry) Known Known X

  pub once_same : {X : Type 0} (at : Span) (r : Pure X) → settled at A (at_once r A) ≡ settled at B (at_once r B)
  once_same at (Good x) = refl
  once_same at (Bad e) = refl

  pub behind_same : {X : Type 0} (at : Span) (a : Known) (f : Value → Pure X) → KnownSame a → settled at A (behind a A f) ≡ settled at B (behind a B f)
  behind_same at a f h = pure_same (a A) (a B) _ _ h (λ x. once_same at (f x))

  pub eval_all_same : {X : Type 0} (at : Span) (es : List Known) (xs : List Value) (k l : List Value → List Entry → Of X) → AllOf KnownSame es → ((ys : List Value) → settled at A (k ys A) ≡ settled at B (l ys B)) → settled at A (eval_all es xs A k) ≡ settled at B (eval_all es xs B l)
  eval_all_same at [] xs k l h i = i xs
  eval_all_same at (e ∷ es) xs k l h i = pure_same (e A) (e B) _ _ h.0 (λ x. eval_all_same at es (xs ++ x ∷ []) k l h.1 i)

  pub behind_all_same : {X : Type 0} (at : Span) (es : List Known) (f : List Value → Pure X) → AllOf KnownSame es → settled at A (behind_all es A f) ≡ settled at B (behind_all es B f)
  behind_all_same at es f h = eval_all_same at es [] (λ xs c1. at_once (f xs) c1) (λ xs c1. at_once (f xs) c1) h (λ xs. once_same at (f xs))

  pub behind_more_same : {X : Type 0} (at : Span) (a : Known) (es : List Known) (f : Value → List Value → Pure X) → KnownSame a → AllOf KnownSame es → settled at A (behind_more a es A f) ≡ settled at B (behind_more a es B f)
  behind_more_same at a es f h i = pure_same (a A) (a B) _ _ h (λ x. behind_all_same at es (f x) i)

  decided_same : (at : Span) (span : Span) (o : BinaryOperator) (b : Known) (x : Value) (d : Decided) → KnownSame b → settled at A (unless_decided limit span o b x A d) ≡ settled at B (unless_decided limit span o b x B d)
  decided_same at span o b x (Already r) h = refl
  decided_same at span o b x ByRight h = behind_same at b (binary_value limit span o x) h

  truly : (at : Span) (span : Span) (o : BinaryOperator) (b : Known) (x : Value) (f : Bool → Decided) (r : Pure Bool) → KnownSame b → settled at A (lift r A (λ p. unless_decided limit span o b x A (f p))) ≡ settled at B (lift r B (λ p. unless_decided limit span o b x B (f p)))
  truly at span o b x f (Good p) h = decided_same at span o b x (f p) h
  truly at span o b x f (Bad e) h = refl

  pub behind_left_same : (at : Span) (span : Span) (o : BinaryOperator) (b : Known) (x : Value) (s : Strictness) → KnownSame b → settled at A (behind_left limit span o b x s A) ≡ settled at B (behind_left limit span o b x s B)
  behind_left_same at span o b x Strict h = behind_same at b (binary_value limit span o x) h
  behind_left_same at span o b x (Lazy f) h = truly at span o b x f (truth span x) h

  branch_same : (at : Span) (a b : Known) (p : Bool) → KnownSame a → KnownSame b → settled at A (choose p (forms.branch_value stripped a A) (forms.branch_value stripped b A)) ≡ settled at B (choose p (forms.branch_value stripped a B) (forms.branch_value stripped b B))
  branch_same at a b true h i = pure_same (a A) (a B) _ _ h (λ y. refl)
  branch_same at a b false h i = pure_same (b A) (b B) _ _ i (λ y. refl)

  pub taken_same : (at : Span) (a b : Known) (r : Pure Bool) → KnownSame a → KnownSame b → settled at A (lift r A (λ p. choose p (forms.branch_value stripped a A) (forms.branch_value stripped b A))) ≡ settled at B (lift r B (λ p. choose p (forms.branch_value stripped a B) (forms.branch_value stripped b B)))
  taken_same at a b (Good p) h i = branch_same at a b p h i
  taken_same at a b (Bad e) h i = refl

  -- ---- parts of parts

  append_same : (es fs : List Known) → AllOf KnownSame es → AllOf KnownSame fs → AllOf KnownSame (es ++ fs)
  append_same [] fs h i = i
  append_same (e ∷ es) fs h i = (h.0, append_same es fs h.1 i)

  pub exprs_same : {X : Type 0} (ss : List (Shaped X Known)) → AllOf ExprsSame ss → AllOf KnownSame (exprs_in itself ss)
  exprs_same [] h = tt
  exprs_same (s ∷ ss) h = append_same s.exprs (exprs_in itself ss) h.0 (exprs_same ss h.1)

  pub written_exprs : (ws : List (Shaped TypeOver Known)) → AllOf ShapeSame ws → AllOf KnownSame (exprs_in itself ws)
  written_exprs [] h = tt
  written_exprs (w ∷ ws) h = append_same w.exprs (exprs_in itself ws) h.0.exprs_are (written_exprs ws h.1)

  pub shapes_same : (ws : List (Shaped TypeOver Known)) → AllOf ShapeSame ws → type_shapes (types_among A) (shapes_in itself ws) ≡ type_shapes (types_among B) (shapes_in itself ws)
  shapes_same [] h = refl
  shapes_same (w ∷ ws) h = ap₂ first_shape h.0.shape_is (shapes_same ws h.1)
