-- Pairs of plans, of an untyped and of a typed tree, by the words that plans are made of: an operand, several operands, and what their values give.
use Rattle.std.proofs.Common.{◌≡◌, Bool, true, List, [], ◌∷◌, ◌++◌, Ok, refl, sym, ap, subst, map, append_assoc}
use Rattle.asl_syn.specs.declared.token.Span.{Span}
use Rattle.asl_syn.specs.declared.tree.Expr.{Expr}
use Rattle.asl_rules.specs.Tests.{Tests, IsRight}
use Rattle.asl_rules.specs.types.Types.{Ty, is_boolean}
use Rattle.asl_rules.specs.declarations.Scopes.{Scope, Entry, Signature}
use Rattle.asl_rules.specs.runs.Trees.{Tree}
use Rattle.asl_rules.specs.expressions.Typing.{Typed, Operand, operand as operand_at, operands, trees_in, trees_from}
use Rattle.asl_rules.specs.expressions.Exprs.{found, typed}
use Rattle.asl_rules.specs.values.Values.{Value}
use Rattle.asl_rules.specs.runs.States.{Core}
use Rattle.asl_rules.specs.private.Belonging.{InType}
use Rattle.asl_rules.specs.private.Agreement.{types_in}
use Rattle.asl_rules.specs.runs.Plans.{Faulted, Stuck, Eval, Pure as PureOf, Good, Bad, lift}
use Rattle.asl_rules.specs.values.Operators.{truth}
use Rattle.asl_rules.specs.runs.Forms.{at_once, behind, behind_all, behind_more, eval_all}
use Rattle.asl_rules.specs.runs.Evaluation.{Does}
use Rattle.asl_rules.specs.private.TypedMeaning.{BareCore, Runs, list_of}
use Rattle.asl_rules.specs.private.Erasure.{erased}
use Rattle.asl_rules.proofs.basics.Inversions.{ok_ok, bind_ok}
use Rattle.asl_rules.proofs.expressions.OperatorForms.{Gives, is_bool}
use Rattle.asl_laws.proofs.expressions.Twins.{Twins}
use Rattle.asl_laws.proofs.runs.Several.{one, two}
use Rattle.asl_laws.proofs.expressions.Claims.{Here, Asked, of_type, tree_asked, Answers, GivesAsked, At, Over, our}

pub append_nil : {A : Type 0} (xs : List A) → xs ++ [] ≡ xs
append_nil [] = refl
append_nil (x ∷ xs) = ap (λ l. x ∷ l) (append_nil xs)

pub list_from : (ts : List Tree) → list_of (trees_from ts) ≡ ts
list_from [] = refl
list_from (t ∷ ts) = ap (λ l. t ∷ l) (list_from ts)

module _ (tests : Tests) (right : IsRight tests) (base : List Entry) (subs : List Signature) (loose : Bool) where
  abbrev pub Out : Here → Ty → Value → Value → Core → Type 0
  Out H U x y c = (x ≡ y) × (InType (types_in base) H.present x U × At tests base subs loose H c)

  abbrev pub Throws : Here → Value → Core → Type 0
  Throws H x c = Over tests base subs loose H.scope.class H.scope.names H.present H.around x c

  abbrev pub Same : {A B : Type 0} → Here → (A → B → Core → Type 0) → Does A → Runs B → Type 0
  Same H Q p q = Twins (our tests base subs loose) Q (Throws H) p q

  -- an operand, and what follows it
  pub operand : {A B : Type 0} (H : Here) (Q : A → B → Core → Type 0) (e : Expr) (S : Typed) (c : Core) (k : Value → Core → Does A) (l : Value → BareCore → Runs B) → typed tests e H.scope ≡ Ok S → At tests base subs loose H c →
      ((x : Value) (c1 : Core) → InType (types_in base) H.present x S.ty → At tests base subs loose H c1 → Same H Q (k x c1) (l x (erased c1))) → Same H Q (Eval e c k) (Eval S.tree (erased c) l)
  operand H Q e S c k l h a next = (one (H, of_type S), record { answers = h; is_tree = refl; at = a }, refl, λ x c1 v. next x c1 v.0 v.1, λ x c1 v. v)

  -- an operand that is judged in another scope, and what follows it in this one
  pub operand_in : {A B : Type 0} (H K : Here) (Q : A → B → Core → Type 0) (e : Expr) (S : Typed) (c : Core) (k : Value → Core → Does A)
      (l : Value → BareCore → Runs B) → typed tests e K.scope ≡ Ok S → At tests base subs loose K c →
      ((x : Value) (c1 : Core) → Throws K x c1 → Throws H x c1) →
      ((x : Value) (c1 : Core) → InType (types_in base) K.present x S.ty → At tests base subs loose K c1 →
      Same H Q (k x c1) (l x (erased c1))) → Same H Q (Eval e c k) (Eval S.tree (erased c) l)
  operand_in H K Q e S c k l h a out next =
      (one (K, of_type S), record { answers = h; is_tree = refl; at = a }, refl, λ x c1 v. next x c1 v.0 v.1, λ x c1 v. out x c1 v)

  -- an operand of which more is known, and what follows it
  pub operand_also : {A B : Type 0} (H : Here) (Q : A → B → Core → Type 0) (e : Expr) (S : Typed) (q : Asked) (c : Core) (k : Value → Core → Does A) (l : Value → BareCore → Runs B) → typed tests e H.scope ≡ Ok S → Answers tests q e H.scope → At tests base subs loose H c →
      ((x : Value) (c1 : Core) → InType (types_in base) H.present x S.ty → GivesAsked (types_in base) H.present q x → At tests base subs loose H c1 → Same H Q (k x c1) (l x (erased c1))) → Same H Q (Eval e c k) (Eval S.tree (erased c) l)
  operand_also H Q e S q c k l h g a next =
      (two (one (H, of_type S)) (one (H, q)), (record { answers = h; is_tree = refl; at = a }, (tree_asked q, record { answers = g; is_tree = refl; at = a })), refl, λ x c1 v. next x c1 v.0.0 v.1.0 v.0.1, λ x c1 v. v.0)

  pub at_once_same : (H : Here) (U : Ty) (r : PureOf Value) (c : Core) → Gives (types_in base) H.present U r → At tests base subs loose H c → Same H (Out H U) (at_once r c) (at_once r (erased c))
  at_once_same H U (Good x) c g a = (refl, (refl, (g, a)))
  at_once_same H U (Bad (Faulted code span)) c g a = (refl, refl, a.agrees.globals)
  at_once_same H U (Bad (Stuck mistake span)) c g a = absurd g

  -- where the two give the same
  pub at_once_both : (H : Here) (U : Ty) (r q : PureOf Value) (c : Core) → r ≡ q → Gives (types_in base) H.present U r → At tests base subs loose H c → Same H (Out H U) (at_once r c) (at_once q (erased c))
  at_once_both H U r q c e g a = subst (λ z. Same H (Out H U) (at_once r c) (at_once z (erased c))) e (at_once_same H U r c g a)

  -- one operand, and what its value gives
  pub behind_same : (H : Here) (U : Ty) (e : Expr) (S : Typed) (c : Core) (f g : Value → PureOf Value) → typed tests e H.scope ≡ Ok S → At tests base subs loose H c →
      ((x : Value) → InType (types_in base) H.present x S.ty → (f x ≡ g x) × Gives (types_in base) H.present U (f x)) → Same H (Out H U) (behind e c f) (behind S.tree (erased c) g)
  behind_same H U e S c f g h a k =
      operand H (Out H U) e S c (λ x c1. at_once (f x) c1) (λ x c1. at_once (g x) c1) h a (λ x c1 i a1. let v = k x i in at_once_both H U (f x) (g x) c1 v.0 v.1 a1)

  -- a condition
  pub truth_same : {A B : Type 0} (H : Here) (Q : A → B → Core → Type 0) (span : Span) (x : Value) (U : Ty) (c : Core) (k : Bool → Does A) (l : Bool → Runs B) → is_boolean U ≡ true → InType (types_in base) H.present x U → ((b : Bool) → Same H Q (k b) (l b)) →
      Same H Q (lift (truth span x) c k) (lift (truth span x) (erased c) l)
  truth_same H Q span x U c k l h i s =
      let b = is_bool (types_in base) H.present tests right U x h i in
      subst (λ y. Same H Q (lift (truth span y) c k) (lift (truth span y) (erased c) l)) (sym b.1) (s b.0)

  -- ---- several operands

  -- each expression answers what it is asked for, with its tree
  abbrev pub AllAsked : Scope → List Expr → List Tree → List Asked → Type 0
  AllAsked G [] [] [] = Unit {0}
  AllAsked G (e ∷ es) (t ∷ ts) (q ∷ qs) = Answers tests q e G × (tree_asked q ≡ t) × AllAsked G es ts qs
  AllAsked G es ts qs = ⊥

  abbrev pub AllGive : Here → List Asked → List Value → Type 0
  AllGive H [] [] = Unit {0}
  AllGive H (q ∷ qs) (x ∷ xs) = GivesAsked (types_in base) H.present q x × AllGive H qs xs
  AllGive H qs xs = ⊥

  pub all_same : {A B : Type 0} (H : Here) (Q : A → B → Core → Type 0) (es : List Expr) (ts : List Tree) (qs : List Asked) (before : List Value) (c : Core) (k : List Value → Core → Does A) (l : List Value → BareCore → Runs B) →
      AllAsked H.scope es ts qs → At tests base subs loose H c → ((xs : List Value) (c1 : Core) → AllGive H qs xs → At tests base subs loose H c1 → Same H Q (k (before ++ xs) c1) (l (before ++ xs) (erased c1))) →
      Same H Q (eval_all es before c k) (eval_all ts before (erased c) l)
  all_same H Q [] [] [] before c k l h a next = subst (λ z. Same H Q (k z c) (l z (erased c))) (append_nil before) (next [] c tt a)
  all_same H Q (e ∷ es) (t ∷ ts) (q ∷ qs) before c k l h a next = (
    one (H, q),
    record { answers = h.0; is_tree = h.1; at = a },
    refl,
    λ x c1 v. all_same H Q es ts qs (before ++ x ∷ []) c1 k l h.2 v.1 (λ xs c2 g a2. subst (λ z. Same H Q (k z c2) (l z (erased c2))) (sym (append_assoc before (x ∷ []) xs)) (next (x ∷ xs) c2 (v.0, g) a2)),
    λ x c1 v. v,
  )
  all_same H Q [] [] (q ∷ qs) before c k l h a next = absurd h
  all_same H Q [] (t ∷ ts) qs before c k l h a next = absurd h
  all_same H Q (e ∷ es) [] qs before c k l h a next = absurd h
  all_same H Q (e ∷ es) (t ∷ ts) [] before c k l h a next = absurd h

  pub behind_all_same : (H : Here) (U : Ty) (es : List Expr) (ts : List Tree) (qs : List Asked) (c : Core) (f g : List Value → PureOf Value) → AllAsked H.scope es ts qs → At tests base subs loose H c →
      ((xs : List Value) → AllGive H qs xs → (f xs ≡ g xs) × Gives (types_in base) H.present U (f xs)) → Same H (Out H U) (behind_all es c f) (behind_all ts (erased c) g)
  behind_all_same H U es ts qs c f g h a k =
      all_same H (Out H U) es ts qs [] c (λ xs c1. at_once (f xs) c1) (λ xs c1. at_once (g xs) c1) h a (λ xs c1 v a1. let r = k xs v in at_once_both H U (f xs) (g xs) c1 r.0 r.1 a1)

  pub behind_more_same : (H : Here) (U : Ty) (e : Expr) (S : Typed) (es : List Expr) (ts : List Tree) (qs : List Asked) (c : Core) (f g : Value → List Value → PureOf Value) → typed tests e H.scope ≡ Ok S → AllAsked H.scope es ts qs → At tests base subs loose H c →
      ((x : Value) (xs : List Value) → InType (types_in base) H.present x S.ty → AllGive H qs xs → (f x xs ≡ g x xs) × Gives (types_in base) H.present U (f x xs)) → Same H (Out H U) (behind_more e es c f) (behind_more S.tree ts (erased c) g)
  behind_more_same H U e S es ts qs c f g h b a k =
      operand H (Out H U) e S c (λ x c1. behind_all es c1 (f x)) (λ x c1. behind_all ts c1 (g x)) h a (λ x c1 i a1. behind_all_same H U es ts qs c1 (f x) (g x) b a1 (λ xs v. k x xs i v))

  -- ---- operands that were typed

  abbrev pub asked_of : List Operand → List Asked
  asked_of [] = []
  asked_of (o ∷ os) = of_type o.typed ∷ asked_of os

  pub operands_asked : (G : Scope) (es : List Expr) (os : List Operand) → operands (map (found tests) es) G ≡ Ok os → AllAsked G es (trees_in os) (asked_of os)
  operands_asked G [] os h = subst (λ z. AllAsked G [] (trees_in z) (asked_of z)) (ok_ok [] os h) tt
  operands_asked G (e ∷ es) os h =
      let t = bind_ok (typed tests e G) _ os h in
      let r = bind_ok (operands (map (found tests) es) G) _ os t.then in
      subst (λ z. AllAsked G (e ∷ es) (trees_in z) (asked_of z)) (ok_ok (operand_at (found tests e).span t.value ∷ r.value) os r.then) (t.first, refl, operands_asked G es r.value r.first)
