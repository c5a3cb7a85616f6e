-- Calls, which have no value before any run.
use Rattle.std.proofs.Common.{◌≡◌, ℕ, List, [], ◌∷◌, ◌++◌, refl, ◌∙◌}
use Rattle.asl_syn.specs.declared.token.Span.{Span}
use Rattle.asl_rules.specs.declarations.Constants.{Known, settled, before_runs}
use Rattle.asl_rules.specs.runs.Forms.{eval_all, call, function_gives}
use Rattle.asl_rules.specs.runs.Plans.{Stuck, CallBarred, Pure, Good, Bad, Plan, Within, Raise}
use Rattle.asl_rules.specs.runs.Pures.{◌>>=◌}
use Rattle.asl_rules.specs.declarations.Scopes.{Entry}
use Rattle.asl_rules.specs.values.Values.{Value}
use Rattle.asl_const.specs.private.Finds.{known_after}

after_all : {A : Type 0} (span : Span) (es : List Known) (xs : List Value) (names : List Entry) (k : List Value → List Entry → Plan (List Entry) Known Known A) →
    settled span names (eval_all es xs names k) ≡ (known_after xs es names >>= λ ys. settled span names (k ys names))
after_all span [] xs names k = refl
after_all span (e ∷ es) xs names k = by (e names) (λ x. after_all span es (xs ++ x ∷ []) names k)
  where
    by : (r : Pure Value) → ((x : Value) → settled span names (eval_all es (xs ++ x ∷ []) names k) ≡ (known_after (xs ++ x ∷ []) es names >>= λ ys. settled span names (k ys names))) →
        (r >>= λ x. settled span names (eval_all es (xs ++ x ∷ []) names k)) ≡ ((r >>= λ x. known_after (xs ++ x ∷ []) es names) >>= λ ys. settled span names (k ys names))
    by (Good x) h = h x
    by (Bad end) h = refl

abbrev barred : List Known → List Entry → Span → Pure Value
barred es names span = known_after [] es names >>= λ xs. Bad (Stuck CallBarred span)

pub call_is : (limit : ℕ) (span : Span) (name : List ℕ) (ps es : List Known) (names : List Entry) →
    settled span names (call ps es names ((before_runs limit).call span name) (function_gives span)) ≡ (known_after [] ps names >>= λ ys. barred es names span)
call_is limit span name ps es names = after_all span ps [] names _ ∙ by (known_after [] ps names)
  where
    by : (r : Pure (List Value)) →
        (r >>= λ ys. settled span names (eval_all es [] names (λ xs c2. Within ((before_runs limit).call span name ys xs c2) (function_gives span) Raise))) ≡ (r >>= λ ys. barred es names span)
    by (Good ys) = after_all span es [] names _
    by (Bad e) = refl
