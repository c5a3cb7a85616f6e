-- How an operation goes on behind its left operand, by what that decides.
use Rattle.std.proofs.Common.{◌≡◌, Bool, List, Result, Ok, Err, refl, ap, ◌∙◌}
use Rattle.asl_bits.specs.declared.TheConstants.{WIDTH_LIMIT}
use Rattle.asl_syn.specs.declared.token.Span.{Span}
use Rattle.asl_syn.specs.declared.tree.BinaryOperator.{BinaryOperator}
use Rattle.asl_rules.specs.declarations.Constants.{Known, settled}
use Rattle.asl_rules.specs.runs.Forms.{behind, behind_left, unless_decided, at_once, ask_right}
use Rattle.asl_rules.specs.values.Operators.{binary_value, truth, Decided, Already, ByRight, Strictness, Strict, Lazy}
use Rattle.asl_rules.specs.runs.Plans.{End, Pure, Good, Bad, lift}
use Rattle.asl_rules.specs.runs.Pures.{◌>>=◌}
use Rattle.asl_rules.specs.declarations.Scopes.{Entry}
use Rattle.asl_rules.specs.values.Structures.{element_of}
use Rattle.asl_rules.specs.values.Values.{Value, bool}
use Rattle.asl_const.specs.private.Finds.{as_decided, decided_by}

-- what is given at once is itself
pub given_at_once : {A : Type 0} (span : Span) (names : List Entry) (r : Pure A) → settled span names (at_once r names) ≡ r
given_at_once span names (Good x) = refl
given_at_once span names (Bad e) = refl

-- what a decision goes on with
abbrev go : Span → BinaryOperator → Known → List Entry → Result Bool Value → Pure Value
go span o b names (Ok r) = Good (bool r)
go span o b names (Err x) = b names >>= λ y. binary_value WIDTH_LIMIT span o x y

asked_right : (span : Span) (o : BinaryOperator) (x : Value) (b : Known) (names : List Entry) →
    settled span names (ask_right WIDTH_LIMIT span o b x names) ≡ go span o b names (Err x)
asked_right span o x b names = by (b names)
  where
    by : (r : Pure Value) → (r >>= λ y. settled span names (at_once (binary_value WIDTH_LIMIT span o x y) names)) ≡ (r >>= λ y. binary_value WIDTH_LIMIT span o x y)
    by (Good y) = given_at_once span names (binary_value WIDTH_LIMIT span o x y)
    by (Bad e) = refl

by_decided : (span : Span) (o : BinaryOperator) (x : Value) (b : Known) (names : List Entry) (d : Decided) →
    settled span names (unless_decided WIDTH_LIMIT span o b x names d) ≡ go span o b names (as_decided x d)
by_decided span o x b names (Already r) = refl
by_decided span o x b names ByRight = asked_right span o x b names

lazily : (span : Span) (o : BinaryOperator) (x : Value) (b : Known) (names : List Entry) (f : Bool → Decided) (p : Pure Bool) →
    settled span names (lift p names (λ q. unless_decided WIDTH_LIMIT span o b x names (f q))) ≡ ((p >>= λ q. Good (as_decided x (f q))) >>= go span o b names)
lazily span o x b names f (Good q) = by_decided span o x b names (f q)
lazily span o x b names f (Bad e) = refl

pub behind_is : (span : Span) (o : BinaryOperator) (x : Value) (b : Known) (names : List Entry) (s : Strictness) →
    settled span names (behind_left WIDTH_LIMIT span o b x s names) ≡ (decided_by span x s >>= go span o b names)
behind_is span o x b names Strict = asked_right span o x b names
behind_is span o x b names (Lazy f) = lazily span o x b names f (truth span x)

asked : (span : Span) (o : BinaryOperator) (x : Value) (b : Known) (names : List Entry) (s : Strictness) (y : Value) →
    decided_by span x s ≡ Good (Err y) → settled span names (behind_left WIDTH_LIMIT span o b x s names) ≡ (b names >>= λ z. binary_value WIDTH_LIMIT span o y z)
asked span o x b names s y h = behind_is span o x b names s ∙ ap (λ p. p >>= go span o b names) h

pub asked_good : (span : Span) (o : BinaryOperator) (x : Value) (b : Known) (names : List Entry) (s : Strictness) (y z : Value) (r : Pure Value) →
    decided_by span x s ≡ Good (Err y) → b names ≡ Good z → binary_value WIDTH_LIMIT span o y z ≡ r → settled span names (behind_left WIDTH_LIMIT span o b x s names) ≡ r
asked_good span o x b names s y z r h g e = asked span o x b names s y h ∙ (ap (λ p. p >>= λ w. binary_value WIDTH_LIMIT span o y w) g ∙ e)

pub asked_bad : (span : Span) (o : BinaryOperator) (x : Value) (b : Known) (names : List Entry) (s : Strictness) (y : Value) (e : End) →
    decided_by span x s ≡ Good (Err y) → b names ≡ Bad e → settled span names (behind_left WIDTH_LIMIT span o b x s names) ≡ Bad e
asked_bad span o x b names s y e h g = asked span o x b names s y h ∙ ap (λ p. p >>= λ w. binary_value WIDTH_LIMIT span o y w) g

-- ---- the element at an index

pub element_good : (span : Span) (names : List Entry) (e : Known) (x i : Value) (r : Pure Value) → e names ≡ Good i → element_of span x i ≡ r → settled span names (behind e names (element_of span x)) ≡ r
element_good span names e x i r h k = ap (λ p. p >>= λ y. settled span names (at_once (element_of span x y) names)) h ∙ (given_at_once span names (element_of span x i) ∙ k)

pub element_bad : (span : Span) (names : List Entry) (e : Known) (x : Value) (end : End) → e names ≡ Bad end → settled span names (behind e names (element_of span x)) ≡ Bad end
element_bad span names e x end h = ap (λ p. p >>= λ y. settled span names (at_once (element_of span x y) names)) h
