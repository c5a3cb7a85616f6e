-- How many bytes `read_file` has taken where a piece ends it: what was read so far and the piece together, or an answer that tells why there is none.
use Rattle.std.proofs.Common.{◌≡◌, ◌≤◌, ◌+◌, ◌⊎◌, ◌++◌, ℕ, List, Option, Some, None, inl, inr, refl, ap, sym, subst, ◌∙◌, append_assoc, length}
use Rattle.std.proofs.lemmas.List.{length-append}
use Rattle.std.specs.Prelude.{Result, Ok, Err, IsErr, IsErrAnd, IsErrOf}
use Rattle.asl_io.specs.Told.{Gives, GivesMany}
use Rattle.asl_io.specs.declared.files.ReadAnswer.{ReadAnswer}
use Rattle.asl_io.specs.declared.files.ReadAnswer.TheVariants.{Fault, TooLong, NoMemory}

pub gives_both : (a b c : Option (List ℕ)) (xs ys : List ℕ) → Gives a b xs → Gives b c ys → Gives a c (xs ++ ys)
gives_both a b None xs ys h k = rw (h, k) refl
gives_both a b (Some z) xs ys h k = rw (h, k) (ap Some (sym (append_assoc xs ys z)))

-- what was read so far, and then so many more
pub many_more : (a b c : Option (List ℕ)) (xs : List ℕ) (n : ℕ) → Gives a b xs → GivesMany b c n → GivesMany a c (length xs + n)
many_more a b c xs n h k = (xs ++ k.0, length-append xs k.0 ∙ ap (λ m. length xs + m) k.1, gives_both a b c xs k.0 h k.2)

-- an answer that is none of the others is a fault, or memory was refused
of_answer : {T U : Type 0} (e : ReadAnswer) (P : Type 0) → (IsErrOf {T = T} (Err e) TooLong → ⊥) → (IsErrOf {T = T} (Err e) NoMemory → P) → IsErrOf {T = U} (Err e) Fault ⊎ P
of_answer Fault P h k = inl refl
of_answer TooLong P h k = absurd (h refl)
of_answer NoMemory P h k = inr (k refl)

-- so is the result that hands it on
pub by_answer : {T U : Type 0} (e : ReadAnswer) (r : Result U ReadAnswer) (P : Type 0) → IsErr r → IsErrAnd r (λ x. x ≡ e) →
    (IsErrOf {T = T} (Err e) TooLong → ⊥) → (IsErrOf {T = T} (Err e) NoMemory → P) → IsErrOf r Fault ⊎ P
by_answer {T} {U} e (Ok x) P i s h k = absurd s
by_answer {T} {U} e (Err x) P i s h k = subst (λ y. IsErrOf {T = U} (Err y) Fault ⊎ P) (sym s) (of_answer e P h k)
