-- A list of texts has one reading.
use Rattle.std.proofs.Common.{◌≡◌, ℕ, ◌+◌, ◌⊎◌, inl, inr, List, [], ◌∷◌, refl}
use Rattle.asl_syn.specs.declared.token.Token.{Token}
use Rattle.asl_syn.specs.declared.code.Fault.{Fault}
use Rattle.asl_grammar.specs.lexemes.Tokens.{scan_of}
use Rattle.asl_grammar.specs.lexemes.Files.{AllTokens, FirstLexFault}
use Rattle.asl_grammar.proofs.lexemes.OneReading.{Reading, one_tokens, one_break, never_both, some_reading}

pub one_all_tokens : (limit n : ℕ) (files : List (List ℕ)) (tss uss : List (List Token)) → AllTokens limit n files tss → AllTokens limit n files uss → tss ≡ uss
one_all_tokens limit n [] [] [] a b = refl
one_all_tokens limit n [] [] (us ∷ uss) a b = absurd b
one_all_tokens limit n [] (ts ∷ tss) uss a b = absurd a
one_all_tokens limit n (bytes ∷ files) [] uss a b = absurd a
one_all_tokens limit n (bytes ∷ files) (ts ∷ tss) [] a b = absurd b
one_all_tokens limit n (bytes ∷ files) (ts ∷ tss) (us ∷ uss) a b =
    let head : ts ≡ us = one_tokens (scan_of limit n bytes) ts us a.0 b.0 in
    let tail : tss ≡ uss = one_all_tokens limit (n + 1) files tss uss a.1 b.1 in cc

pub one_first_fault : (limit n : ℕ) (files : List (List ℕ)) (f g : Fault) → FirstLexFault limit n files f → FirstLexFault limit n files g → f ≡ g
one_first_fault limit n [] f g a b = absurd a
one_first_fault limit n (bytes ∷ files) f g (inl a) (inl b) = one_break (scan_of limit n bytes) f g a b
one_first_fault limit n (bytes ∷ files) f g (inl a) (inr (us, u, b)) = absurd (never_both (scan_of limit n bytes) us f u a)
one_first_fault limit n (bytes ∷ files) f g (inr (ts, t, a)) (inl b) = absurd (never_both (scan_of limit n bytes) ts g t b)
one_first_fault limit n (bytes ∷ files) f g (inr (ts, t, a)) (inr (us, u, b)) = one_first_fault limit (n + 1) files f g a b

pub never_both_of_files : (limit n : ℕ) (files : List (List ℕ)) (tss : List (List Token)) (f : Fault) → AllTokens limit n files tss → FirstLexFault limit n files f → ⊥
never_both_of_files limit n [] tss f a b = absurd b
never_both_of_files limit n (bytes ∷ files) [] f a b = absurd a
never_both_of_files limit n (bytes ∷ files) (ts ∷ tss) f a (inl b) = never_both (scan_of limit n bytes) ts f a.0 b
never_both_of_files limit n (bytes ∷ files) (ts ∷ tss) f a (inr (us, u, b)) = never_both_of_files limit (n + 1) files tss f a.1 b

-- the tokens of all texts, or the first fault
abbrev pub ReadingOfFiles : ℕ → ℕ → List (List ℕ) → Type 0
ReadingOfFiles limit n files = ((tss : List (List Token)) × AllTokens limit n files tss) ⊎ ((f : Fault) × FirstLexFault limit n files f)

with_file : (limit n : ℕ) (bytes : List ℕ) (files : List (List ℕ)) → Reading (scan_of limit n bytes) → ReadingOfFiles limit (n + 1) files → ReadingOfFiles limit n (bytes ∷ files)
with_file limit n bytes files (inl (ts, t)) (inl (tss, all)) = inl (ts ∷ tss, (t, all))
with_file limit n bytes files (inl (ts, t)) (inr (f, first)) = inr (f, inr (ts, t, first))
with_file limit n bytes files (inr (f, here)) more = inr (f, inl here)

pub some_reading_of_files : (limit n : ℕ) (files : List (List ℕ)) → ReadingOfFiles limit n files
some_reading_of_files limit n [] = inl ([], tt)
some_reading_of_files limit n (bytes ∷ files) =
    with_file limit n bytes files (some_reading (scan_of limit n bytes)) (some_reading_of_files limit (n + 1) files)
