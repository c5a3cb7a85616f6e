-- Expressions in order, and what comes with their values.
use Rattle.std.proofs.Common.{◌≡◌, List, [], ◌∷◌, ◌++◌, refl, ap, ◌∙◌}
use Rattle.asl_syn.specs.declared.token.Span.{Span}
use Rattle.asl_rules.specs.declarations.Constants.{Known, settled}
use Rattle.asl_rules.specs.runs.Forms.{eval_all, at_once}
use Rattle.asl_rules.specs.runs.Plans.{End, Pure, Good, Bad}
use Rattle.asl_rules.specs.runs.Pures.{◌>>=◌}
use Rattle.asl_rules.specs.declarations.Scopes.{Entry}
use Rattle.asl_rules.specs.values.Values.{Value}
use Rattle.asl_const.specs.private.Finds.{known_after, with_all}
use Rattle.asl_const.proofs.Deciding.{given_at_once}

settled_all : {A : Type 0} (span : Span) (es : List Known) (xs : List Value) (names : List Entry) (f : List Value → Pure A) →
    settled span names (eval_all es xs names (λ ys c. at_once (f ys) c)) ≡ (known_after xs es names >>= f)
settled_all span [] xs names f = given_at_once span names (f xs)
settled_all span (e ∷ es) xs names f = by (e names) (λ x. settled_all span es (xs ++ x ∷ []) names f)
  where
    by : (r : Pure Value) → ((x : Value) → settled span names (eval_all es (xs ++ x ∷ []) names (λ ys c. at_once (f ys) c)) ≡ (known_after (xs ++ x ∷ []) es names >>= f)) →
        (r >>= λ x. settled span names (eval_all es (xs ++ x ∷ []) names (λ ys c. at_once (f ys) c))) ≡ ((r >>= λ x. known_after (xs ++ x ∷ []) es names) >>= f)
    by (Good x) h = h x
    by (Bad end) h = refl

pub all_good : {A : Type 0} (span : Span) (es : List Known) (names : List Entry) (f : List Value → Pure A) (xs : List Value) →
    known_after [] es names ≡ Good xs → with_all span es names f ≡ f xs
all_good span es names f xs h = settled_all span es [] names f ∙ ap (λ p. p >>= f) h

pub all_bad : {A : Type 0} (span : Span) (es : List Known) (names : List Entry) (f : List Value → Pure A) (e : End) →
    known_after [] es names ≡ Bad e → with_all span es names f ≡ Bad e
all_bad span es names f e h = settled_all span es [] names f ∙ ap (λ p. p >>= f) h
