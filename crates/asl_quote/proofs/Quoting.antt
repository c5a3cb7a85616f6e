-- Where a literal stops: the state that `quote_reach` ends in, and why no whole literal is the front of another.
use Rattle.std.proofs.Common.{◌≡◌, ℕ, ◌+◌, ◌≤◌, zero, suc, List, [], ◌∷◌, length, Option, Some, None, take, refl, one-add, arith}
use Rattle.std.specs.Prelude.{option_and_then}
use Rattle.std.specs.Option.{option_map_or}
use Rattle.asl_quote.specs.declared.QuoteState.{QuoteState}
use Rattle.asl_quote.specs.declared.QuoteState.TheVariants as at
use Rattle.asl_quote.specs.Quotes.{quote_step, quote_run, quote_len, quote_end}

end_step : (b : ℕ) (bs : List ℕ) (s : QuoteState) (o : Option QuoteState) → quote_step s b ≡ o →
    ((next : QuoteState) → quote_run next (take (quote_len next bs) bs) ≡ Some (quote_end next bs)) →
    quote_run s (take (option_map_or (λ next. 1 + quote_len next bs) o 0) (b ∷ bs)) ≡ Some (option_map_or (λ next. quote_end next bs) o s)
end_step b bs s None e more = refl
end_step b bs s (Some next) e more = rw one-add (rw e (more next))

-- `quote_end` is the state that the bytes counted by `quote_len` lead to
pub quote_run-end : (s : QuoteState) (bs : List ℕ) → quote_run s (take (quote_len s bs) bs) ≡ Some (quote_end s bs)
quote_run-end s [] = refl
quote_run-end s (b ∷ bs) = end_step b bs s (quote_step s b) refl (λ next. quote_run-end next bs)

len_step : (bs : List ℕ) (o : Option QuoteState) → ((next : QuoteState) → quote_len next bs ≤ length bs) →
    option_map_or (λ next. 1 + quote_len next bs) o 0 ≤ suc (length bs)
len_step bs None more = omega arith
len_step bs (Some next) more = let e = more next in omega arith

pub quote_len-le : (state : QuoteState) (bs : List ℕ) → quote_len state bs ≤ length bs
quote_len-le state [] = omega arith
quote_len-le state (b ∷ bs) = len_step bs (quote_step state b) (λ next. quote_len-le next bs)

stops_step : (bs : List ℕ) (m : ℕ) (o : Option QuoteState) →
    ((next : QuoteState) → quote_run next (take m bs) ≡ Some at.Closed → m ≡ quote_len next bs) →
    option_and_then (λ next. quote_run next (take m bs)) o ≡ Some at.Closed → suc m ≡ option_map_or (λ next. 1 + quote_len next bs) o 0
stops_step bs m None more h = absurd cc
stops_step bs m (Some next) more h = let e = more next h in omega arith

-- a whole literal has all the bytes that belong to it, so none is the front of another
pub quote_stops : (state : QuoteState) (bs : List ℕ) (m : ℕ) → m ≤ length bs → quote_run state (take m bs) ≡ Some at.Closed → m ≡ quote_len state bs
quote_stops state [] zero fits h = refl
quote_stops state [] (suc m) fits h = absurd (omega arith)
quote_stops state (b ∷ bs) zero fits h = let e : state ≡ at.Closed = cc in rw e refl
quote_stops state (b ∷ bs) (suc m) fits h = stops_step bs m (quote_step state b) (λ next r. quote_stops next bs m (omega arith) r) h
