-- What is gathered of branches, alternatives and catchers one by one is what the rules find of all.
use Rattle.std.proofs.Common.{◌≡◌, Bool, true, false, List, [], ◌∷◌, ◌++◌, Option, Some, None, Result, Ok, Err, refl, sym, ap, ◌∙◌}
use Rattle.asl_syn.specs.declared.token.Span.{Span}
use Rattle.asl_syn.specs.declared.code.Fault.{Fault}
use Rattle.asl_syn.specs.declared.code.StaticCode.TheVariants.{T05}
use Rattle.asl_rules.specs.declared.effect.Effect.{Effect}
use Rattle.asl_rules.specs.declared.effect.Effect.TheVariants.{Pure, Readonly, Writes}
use Rattle.asl_rules.specs.Faults.{◌>>=◌, ◌>>◌, need, none_at}
use Rattle.asl_rules.specs.types.Effects.{greater}
use Rattle.asl_rules.specs.types.Types.{is_boolean}
use Rattle.asl_rules.specs.expressions.Typing.{Operand}
use Rattle.asl_rules.specs.statements.Acting.{condition}
use Rattle.asl_rules.specs.statements.Branches.{where_condition}
use Rattle.asl_blocks.specs.private.Walks.{after, Gathered, gathered, unless_boolean, misplaced, where_misplaced}
use Rattle.asl_blocks.proofs.Chains.{then_same, then_then, need_need, need_last}

pub greater_pure : (k : Effect) → greater k Pure ≡ k
greater_pure Pure = refl
greater_pure Readonly = refl
greater_pure Writes = refl

pub greater_on : (j k l : Effect) → greater j (greater k l) ≡ greater (greater j k) l
greater_on Pure k l = refl
greater_on Writes k l = refl
greater_on Readonly Pure l = refl
greater_on Readonly Readonly Pure = refl
greater_on Readonly Readonly Readonly = refl
greater_on Readonly Readonly Writes = refl
greater_on Readonly Writes l = refl

-- trees in front of others
abbrev pub onto : {T : Type 0} → List (T → T) → T → T
onto [] x = x
onto (f ∷ fs) x = f (onto fs x)

onto_last : {T : Type 0} (fs : List (T → T)) (f : T → T) (x : T) → onto (fs ++ f ∷ []) x ≡ onto fs (f x)
onto_last [] f x = refl
onto_last (g ∷ fs) f x = ap g (onto_last fs f x)

-- ---- conditions

boolean_at : (b : Bool) (at : Span) → need b T05 at ≡ none_at T05 (unless_boolean b at)
boolean_at true at = refl
boolean_at false at = refl

pub condition_is : (o : Operand) → condition o ≡ none_at T05 (misplaced None o)
condition_is o = boolean_at (is_boolean o.typed.ty) o.span

pub misplaced_is : (at : Option Span) (o : Operand) → (none_at T05 at >> condition o) ≡ none_at T05 (misplaced at o)
misplaced_is None o = condition_is o
misplaced_is (Some at) o = refl

pub where_is : (at : Option Span) (w : Option Operand) → (none_at T05 at >> where_condition w) ≡ none_at T05 (where_misplaced at w)
where_is at None = need_last (none_at T05 at)
where_is at (Some o) = misplaced_is at o

-- ---- all of them

-- what is found at each, the place of a condition after it, its effect, and its tree
pub record Parts (X Y T : Type 0) : Type 0 where
  pub rule : X → Result Y Fault
  pub condition : Y → Result (Unit {0}) Fault
  pub misplaced : Option Span → Y → Option Span
  pub effect : Y → Effect
  pub tree : Y → T → T

abbrev pub gathered_with : {X Y T : Type 0} → Parts X Y T → Gathered T → Y → Gathered T
gathered_with P s y = gathered (P.misplaced s.misplaced y) (greater s.effect (P.effect y)) (s.parts ++ P.tree y ∷ [])

abbrev pub all_rule : {X Y T : Type 0} → Parts X Y T → List X → Result (List Y) Fault
all_rule P [] = Ok []
all_rule P (x ∷ xs) = P.rule x >>= λ y. all_rule P xs >>= λ ys. Ok (y ∷ ys)

abbrev pub all_conditions : {X Y T : Type 0} → Parts X Y T → List Y → Result (Unit {0}) Fault
all_conditions P [] = Ok tt
all_conditions P (y ∷ ys) = P.condition y >> all_conditions P ys

abbrev pub all_effects : {X Y T : Type 0} → Parts X Y T → List Y → Effect
all_effects P [] = Pure
all_effects P (y ∷ ys) = greater (P.effect y) (all_effects P ys)

abbrev pub all_trees : {X Y T : Type 0} → Parts X Y T → T → List Y → T
all_trees P end [] = end
all_trees P end (y ∷ ys) = P.tree y (all_trees P end ys)

pub gathering : {X Y T D : Type 0} (P : Parts X Y T) (end : T) (E : Result (Unit {0}) Fault → Effect → T → Result D Fault) (step : X → Gathered T → Result (Gathered T) Fault) →
    ((at : Option Span) (y : Y) → (none_at T05 at >> P.condition y) ≡ none_at T05 (P.misplaced at y)) →
    ((x : X) (s : Gathered T) → step x s ≡ (P.rule x >>= λ y. Ok (gathered_with P s y))) →
    (xs : List X) (s : Gathered T) →
    (all_rule P xs >>= λ ys. E (none_at T05 s.misplaced >> all_conditions P ys) (greater s.effect (all_effects P ys)) (onto s.parts (all_trees P end ys))) ≡
    (after step xs s >>= λ g. E (none_at T05 g.misplaced) g.effect (onto g.parts end))
gathering P end E step m h [] s = λ i. E (need_last (none_at T05 s.misplaced) i) (greater_pure s.effect i) (onto s.parts end)
gathering P end E step m h (x ∷ xs) s =
    then_then (P.rule x) (λ y. all_rule P xs >>= λ ys. Ok (y ∷ ys)) _
    ∙ then_same (P.rule x) _ _ (λ y.
    then_then (all_rule P xs) (λ ys. Ok (y ∷ ys)) _
    ∙ then_same (all_rule P xs) _ _ (λ ys. λ i.
    E ((need_need (none_at T05 s.misplaced) (P.condition y) (all_conditions P ys) ∙ ap (λ q. q >> all_conditions P ys) (m s.misplaced y)) i)
    (greater_on s.effect (P.effect y) (all_effects P ys) i)
    (sym (onto_last s.parts (P.tree y) (all_trees P end ys)) i))
    ∙ gathering P end E step m h xs (gathered_with P s y))
    ∙ sym (ap (λ q. (q >>= λ s1. after step xs s1) >>= λ g. E (none_at T05 g.misplaced) g.effect (onto g.parts end)) (h x s)
    ∙ ap (λ q. q >>= λ g. E (none_at T05 g.misplaced) g.effect (onto g.parts end)) (then_then (P.rule x) (λ y. Ok (gathered_with P s y)) (λ s1. after step xs s1))
    ∙ then_then (P.rule x) (λ y. after step xs (gathered_with P s y)) _)
