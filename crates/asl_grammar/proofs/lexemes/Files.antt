-- The tokens of files: one more file behind others, and one file of them.
use Rattle.std.proofs.Common.{◌≡◌, ℕ, zero, suc, ◌+◌, inl, inr, List, [], ◌∷◌, ◌++◌, Some, length, slice_get, refl, ap, subst, arith, add-zero}
use Rattle.asl_syn.specs.declared.token.Token.{Token}
use Rattle.asl_syn.specs.declared.code.Fault.{Fault}
use Rattle.asl_grammar.specs.lexemes.Tokens.{Tokens, LexFault}
use Rattle.asl_grammar.specs.lexemes.Files.{AllTokens, FirstLexFault}

pub AllTokens_more : (limit n : ℕ) (files : List (List ℕ)) (tss : List (List Token)) (bytes : List ℕ) (ts : List Token) →
    AllTokens limit n files tss → Tokens limit (n + length files) bytes ts → AllTokens limit n (files ++ bytes ∷ []) (tss ++ ts ∷ [])
AllTokens_more limit n [] [] bytes ts a t = let e : n + 0 ≡ n = add-zero n in (subst (λ z. Tokens limit z bytes ts) e t, tt)
AllTokens_more limit n [] (us ∷ tss) bytes ts a t = absurd a
AllTokens_more limit n (b ∷ files) [] bytes ts a t = absurd a
AllTokens_more limit n (b ∷ files) (us ∷ tss) bytes ts a t =
    let e : n + suc (length files) ≡ (n + 1) + length files = omega arith in
    (a.0, AllTokens_more limit (n + 1) files tss bytes ts a.1 (subst (λ z. Tokens limit z bytes ts) e t))

pub fault_behind : (limit n : ℕ) (files others : List (List ℕ)) (tss : List (List Token)) (bytes : List ℕ) (f : Fault) →
    AllTokens limit n files tss → LexFault limit (n + length files) bytes f → FirstLexFault limit n (files ++ bytes ∷ others) f
fault_behind limit n [] others [] bytes f a l = let e : n + 0 ≡ n = add-zero n in inl (subst (λ z. LexFault limit z bytes f) e l)
fault_behind limit n [] others (us ∷ tss) bytes f a l = absurd a
fault_behind limit n (b ∷ files) others [] bytes f a l = absurd a
fault_behind limit n (b ∷ files) others (us ∷ tss) bytes f a l =
    let e : n + suc (length files) ≡ (n + 1) + length files = omega arith in
    inr (us, a.0, fault_behind limit (n + 1) files others tss bytes f a.1 (subst (λ z. LexFault limit z bytes f) e l))

pub length-AllTokens : (limit n : ℕ) (files : List (List ℕ)) (tss : List (List Token)) → AllTokens limit n files tss → length tss ≡ length files
length-AllTokens limit n [] [] a = refl
length-AllTokens limit n [] (ts ∷ tss) a = absurd a
length-AllTokens limit n (bytes ∷ files) [] a = absurd a
length-AllTokens limit n (bytes ∷ files) (ts ∷ tss) a = ap suc (length-AllTokens limit (n + 1) files tss a.1)

-- the tokens of one of the files
pub tokens_at : (limit n i : ℕ) (files : List (List ℕ)) (tss : List (List Token)) (bytes : List ℕ) (ts : List Token) → AllTokens limit n files tss →
    slice_get files i ≡ Some bytes → slice_get tss i ≡ Some ts → Tokens limit (n + i) bytes ts
tokens_at limit n i [] tss bytes ts a e f = absurd cc
tokens_at limit n i (b ∷ files) [] bytes ts a e f = absurd a
tokens_at limit n zero (b ∷ files) (us ∷ tss) bytes ts a e f =
    let same : b ≡ bytes = cc in
    let tokens : us ≡ ts = cc in
    let first : n ≡ n + 0 = omega arith in
    subst (λ z. Tokens limit z bytes ts) first (subst (λ z. Tokens limit n bytes z) tokens (subst (λ z. Tokens limit n z us) same a.0))
tokens_at limit n (suc i) (b ∷ files) (us ∷ tss) bytes ts a e f =
    let count : n + 1 + i ≡ n + suc i = omega arith in
    subst (λ z. Tokens limit z bytes ts) count (tokens_at limit (n + 1) i files tss bytes ts a.1 e f)
