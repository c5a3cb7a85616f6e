-- What an answer reports of a rule is also what one that begins or ends with it reports.
use Rattle.std.proofs.Common.{◌≡◌, Result, Ok, Err, ap, ◌∙◌}
use Rattle.asl_syn.specs.declared.code.Fault.{Fault}
use Rattle.asl_syn.specs.declared.code.Refused.{Refused}
use Rattle.asl_syn.specs.declared.code.Refused.TheVariants.{At, NoMemory}
use Rattle.asl_rules.specs.Faults.{◌>>=◌}
use Rattle.asl_types.specs.private.Answers.{Met}

-- what is found is seen otherwise
pub met_on : {A B C : Type 0} (v : A → B) (w : A → C) (f : B → C) (r : Result A Refused) (x : Result B Fault) (y : Result C Fault) →
    ((a : A) → f (v a) ≡ w a) → y ≡ (x >>= λ b. Ok (f b)) → Met v r x → Met w r y
met_on v w f (Ok a) x y same is h = is ∙ ap (λ q. q >>= λ b. Ok (f b)) h ∙ ap Ok (same a)
met_on v w f (Err (At e)) x y same is h = is ∙ ap (λ q. q >>= λ b. Ok (f b)) h
met_on v w f (Err NoMemory) x y same is h = tt
