-- Answers that are alike: the same fault, or two values that stand in a relation. Typed expressions are the same but for their trees.
use Rattle.std.proofs.Common.{◌≡◌, Bool, true, false, cond, List, [], ◌∷◌, Ok, Err, refl, sym, ap, ap₂, subst}
use Rattle.std.specs.Prelude.{Result}
use Rattle.asl_syn.specs.declared.token.Span.{Span}
use Rattle.asl_syn.specs.declared.code.Fault.{Fault}
use Rattle.asl_syn.specs.declared.code.StaticCode.TheVariants.{T12, T13}
use Rattle.asl_rules.specs.declared.effect.Effect.{Effect}
use Rattle.asl_rules.specs.declared.effect.Effect.TheVariants.{Pure}
use Rattle.asl_rules.specs.Faults.{◌>>=◌, ◌>>◌, need}
use Rattle.asl_rules.specs.types.Types.{Ty, part}
use Rattle.asl_rules.specs.runs.Trees.{Tree, Note}
use Rattle.asl_rules.specs.types.Effects.{greater, at_most, all_together, greatest}
use Rattle.asl_rules.specs.expressions.Typing.{Typed, Operand, operand, typed_as, in_class, finish, finish_all, effects_of, types_of}

-- ---- answers

unfoldable pub Alike : {X : Type 0} → (X → X → Type 0) → Result X Fault → Result X Fault → Type 0
Alike R (Ok x) (Ok y) = R x y
Alike R (Ok x) (Err f) = ⊥
Alike R (Err e) (Ok y) = ⊥
Alike R (Err e) (Err f) = e ≡ f

pub alike_ok : {X : Type 0} (R : X → X → Type 0) (x y : X) → R x y → Alike R (Ok x) (Ok y)
unfolding Alike
alike_ok R x y h = h

pub alike_err : {X : Type 0} (R : X → X → Type 0) (e : Fault) → Alike R (Err e) (Err e)
unfolding Alike
alike_err R e = refl

-- one answer, whose values are in relation to themselves
pub alike_self : {X : Type 0} (R : X → X → Type 0) → ((x : X) → R x x) → (r : Result X Fault) → Alike R r r
alike_self R h (Ok x) = alike_ok R x x (h x)
alike_self R h (Err e) = alike_err R e

-- answers that are alike, and what follows each
pub steps : {X Y : Type 0} (R : X → X → Type 0) (S : Y → Y → Type 0) (r s : Result X Fault) (f g : X → Result Y Fault) → Alike R r s → ((x y : X) → R x y → Alike S (f x) (g y)) → Alike S (r >>= f) (s >>= g)
unfolding Alike
steps R S (Ok x) (Ok y) f g h k = k x y h
steps R S (Ok x) (Err e) f g h k = absurd h
steps R S (Err d) (Ok y) f g h k = absurd h
steps R S (Err d) (Err e) f g h k = h

-- one answer, and what follows it on both sides
pub step : {X Y : Type 0} (S : Y → Y → Type 0) (r : Result X Fault) (f g : X → Result Y Fault) → ((x : X) → Alike S (f x) (g x)) → Alike S (r >>= f) (r >>= g)
step S (Ok x) f g k = k x
step S (Err e) f g k = alike_err S e

-- a condition before both
pub after : {Y : Type 0} (S : Y → Y → Type 0) (r : Result (Unit {0}) Fault) (x y : Result Y Fault) → Alike S x y → Alike S (r >> x) (r >> y)
after S (Ok u) x y k = k
after S (Err e) x y k = alike_err S e

pub alike_cond : {X : Type 0} (R : X → X → Type 0) (b c : Bool) (x y z w : Result X Fault) → b ≡ c → Alike R x y → Alike R z w → Alike R (cond b x z) (cond c y w)
alike_cond R b c x y z w e h k = subst (λ d. Alike R (cond b x z) (cond d y w)) e (one b)
  where
    one : (b : Bool) → Alike R (cond b x z) (cond b y w)
    one true = h
    one false = k

-- the same value on both sides, and nothing asked of it
abbrev pub Equal : {X : Type 0} → X → X → Type 0
Equal x y = y ≡ x

abbrev pub Both : {X : Type 0} → X → X → Type 0
Both x y = Unit {0}

pub alike_equal : {X : Type 0} (r s : Result X Fault) → s ≡ r → Alike Equal r s
alike_equal r s e = subst (λ z. Alike Equal r z) (sym e) (alike_self Equal (λ x. refl) r)

pub equal_alike : {X : Type 0} (r s : Result X Fault) → Alike Equal r s → s ≡ r
unfolding Alike
equal_alike (Ok x) (Ok y) h = ap Ok h
equal_alike (Ok x) (Err f) h = absurd h
equal_alike (Err e) (Ok y) h = absurd h
equal_alike (Err e) (Err f) h = ap Err (sym h)

-- ---- typed expressions

-- the second is the first but for its tree
abbrev pub Same : Typed → Typed → Type 0
Same S T = T ≡ record S { tree = T.tree }

pub in_class_alike : (class : Effect) (span : Span) (k : Effect) (T : Ty) (make other : Note → Tree) → Alike Same (in_class class span k T make) (in_class class span k T other)
in_class_alike class span k T make other =
    after Same (need (at_most k class) T12 span) (Ok (typed_as span T k make)) (Ok (typed_as span T k other)) (alike_ok Same (typed_as span T k make) (typed_as span T k other) refl)

pub finish_alike : (class : Effect) (span : Span) (ok : Bool) (k : Effect) (T : Ty) (make other : Note → Tree) → Alike Same (finish class span ok k T make) (finish class span ok k T other)
finish_alike class span ok k T make other =
    after Same (need ok T13 span) (in_class class span k T make) (in_class class span k T other) (in_class_alike class span k T make other)

-- what is done with typed expressions gives answers that are alike, where it does so for other trees
pub by_tree : {Y : Type 0} (R : Y → Y → Type 0) (f g : Typed → Result Y Fault) → ((S : Typed) (u : Tree) → Alike R (f S) (g (record S { tree = u }))) → (S T : Typed) → Same S T → Alike R (f S) (g T)
by_tree R f g h S T i = subst (λ Z. Alike R (f S) (g Z)) (sym i) (h S T.tree)

-- ---- several operands

abbrev pub SameOperand : Operand → Operand → Type 0
SameOperand o p = p ≡ record o { typed = record o.typed { tree = p.typed.tree } }

abbrev pub SameOperands : List Operand → List Operand → Type 0
SameOperands [] [] = Unit {0}
SameOperands [] (p ∷ ps) = ⊥
SameOperands (o ∷ os) [] = ⊥
SameOperands (o ∷ os) (p ∷ ps) = SameOperand o p × SameOperands os ps

pub operand_same : (span : Span) (S T : Typed) → Same S T → SameOperand (operand span S) (operand span T)
operand_same span S T i = ap (operand span) i

pub effects_same : (os ps : List Operand) → SameOperands os ps → effects_of ps ≡ effects_of os
effects_same [] [] h = refl
effects_same [] (p ∷ ps) h = absurd h
effects_same (o ∷ os) [] h = absurd h
effects_same (o ∷ os) (p ∷ ps) h = ap₂ (λ k ks. k ∷ ks) (ap (λ (z : Operand). z.typed.effect) h.0) (effects_same os ps h.1)

pub types_same : (os ps : List Operand) → SameOperands os ps → types_of ps ≡ types_of os
types_same [] [] h = refl
types_same [] (p ∷ ps) h = absurd h
types_same (o ∷ os) [] h = absurd h
types_same (o ∷ os) (p ∷ ps) h = ap₂ (λ T Ts. part T Ts) (ap (λ (z : Operand). z.typed.ty) h.0) (types_same os ps h.1)

pub finish_all_alike : (class : Effect) (span : Span) (os ps : List Operand) (own : Effect) (T : Ty) (make other : Note → Tree) → SameOperands os ps → Alike Same (finish_all class span os own T make) (finish_all class span ps own T other)
finish_all_alike class span os ps own T make other h =
    subst (λ ks. Alike Same (finish_all class span os own T make) (finish class span (all_together Pure ks) (greater (greatest Pure ks) own) T other)) (sym (effects_same os ps h))
    (finish_alike class span (all_together Pure (effects_of os)) (greater (greatest Pure (effects_of os)) own) T make other)
