-- A fault stands in its file.
use Rattle.std.proofs.Common.{◌≡◌, ℕ, suc, ◌+◌, ◌-◌, ◌≤◌, ◌<◌, inl, inr, List, [], ◌∷◌, Some, length, drop, map, refl, ap, sym, ◌∙◌, subst, arith, All, vec_len}
use Rattle.std.proofs.lemmas.List.{length-drop}
use Rattle.asl_syn.specs.declared.code.Fault.{Fault}
use Rattle.asl_syn.specs.declared.code.StaticCode.{StaticCode}
use Rattle.asl_syn.specs.declared.place.Source.{Source}
use Rattle.asl_syn.specs.declared.token.Span.{Span}
use Rattle.asl_syn.specs.declared.token.Token.{Token}
use Rattle.asl_syn.specs.Place.{IsPlaced, bytes_of}
use Rattle.asl_quote.specs.declared.QuoteState.{QuoteState}
use Rattle.asl_quote.specs.Quotes.{opens_quote, quote_len}
use Rattle.asl_quote.proofs.Quoting.{quote_len-le}
use Rattle.asl_grammar.specs.lexemes.Tokens.{Scan, scan_of, behind_gap, FaultAt, unclosed, malformed, stray, refused, Fails, Front, LexFault}
use Rattle.asl_grammar.specs.lexemes.Files.{FirstLexFault}
use Rattle.asl_grammar.specs.lexemes.Texts.{LiesIn}
use Rattle.asl_grammar.proofs.lexemes.Placing.{Pieces_suffix, Stands, token_stands, file_same}

quote_fits : (bytes : List ℕ) (state : QuoteState) → opens_quote bytes ≡ Some state → 1 + quote_len state (drop 1 bytes) ≤ length bytes
quote_fits [] state h = absurd cc
quote_fits (b ∷ bs) state h = let le : quote_len state bs ≤ length bs = quote_len-le state bs in omega arith

fault_fits : (scan : Scan) (code : StaticCode) (len : ℕ) → FaultAt scan code len → len ≤ length scan.rest
fault_fits scan code len (unclosed h) = omega arith
fault_fits scan code len (malformed {state} apart quote none) = quote_fits scan.rest state quote
fault_fits scan code len (stray some apart plain none) = omega arith
fault_fits scan code len (refused k longest why) = longest.here.fits

fails_fits : (bytes : List ℕ) (s : Scan) (f : Fault) → Stands bytes s → Fails s f → f.span.start + f.span.len ≤ length bytes
fails_fits bytes s f st b =
    let suf = Pieces_suffix b.gap.count s.rest b.bytes b.gap.pieces in
    let left : length b.bytes ≡ length s.rest - suf.n = ap length suf.is ∙ length-drop suf.n s.rest in
    let all : length s.rest ≡ length bytes - s.place = ap length st.rest ∙ length-drop s.place bytes in
    let start : f.span.start ≡ s.place + (length s.rest - length b.bytes) = b.fault.start_is in
    let len : f.span.len ≤ length b.bytes = fault_fits (behind_gap s b.bytes) f.code f.span.len b.fault.fault in
    let fits = suf.fits in let inside = st.fits in omega arith

front_fault : (file : ℕ) (bytes : List ℕ) (s x : Scan) (ts : List Token) (f : Fault) → s.file ≡ file → Stands bytes s → Front s ts x → Fails x f →
    (f.span.file ≡ file) × (f.span.start + f.span.len ≤ length bytes)
front_fault file bytes s x [] f is st e b =
    let here : Fails s f = subst (λ z. Fails z f) (sym e) b in (here.fault.file_is ∙ is, fails_fits bytes s f st here)
front_fault file bytes s x (t ∷ ts) f is st (n, y, fr) b = front_fault file bytes n x ts f (file_same s n t y ∙ is) (token_stands bytes s n t st y).1 fr b

-- the fault of a file stands in it
pub fault_stands : (limit file : ℕ) (bytes : List ℕ) (f : Fault) → LexFault limit file bytes f → (f.span.file ≡ file) × (f.span.start + f.span.len ≤ length bytes)
fault_stands limit file bytes f (ts, last, fr, b) =
    front_fault file bytes (scan_of limit file bytes) last ts f refl (record { rest = refl; fits = omega arith }) fr b

-- the fault of files stands in one of them
pub first_fault_stands : (limit n : ℕ) (files : List (List ℕ)) (f : Fault) → FirstLexFault limit n files f → LiesIn n files f.span
first_fault_stands limit n [] f h = absurd h
first_fault_stands limit n (bytes ∷ files) f (inl here) = inl (fault_stands limit n bytes f here)
first_fault_stands limit n (bytes ∷ files) f (inr (ts, t, first)) = inr (first_fault_stands limit (n + 1) files f first)

abbrev content : Source → List ℕ
content source = source.bytes.items

-- where a span lies that is placed in files numbered from n on
record PlacedFrom (n : ℕ) (sources : List Source) (span : Span) : Type 0 where
  index : ℕ
  file : span.file ≡ n + index
  within : index < length sources
  inside : span.start + span.len ≤ length (bytes_of sources index)
  small : length (bytes_of sources index) ≤ 1048576

placed_from : (n : ℕ) (sources : List Source) (span : Span) → All (λ (s : Source). vec_len s.bytes ≤ 1048576) sources → LiesIn n (map content sources) span → PlacedFrom n sources span
placed_from n [] span small h = absurd h
placed_from n (s ∷ sources) span small (inl h) =
    record { index = 0; file = h.0 ∙ omega arith; within = omega arith; inside = h.1; small = subst (λ k. k ≤ 1048576) s.bytes.ok.0 (small 0 s (omega arith)) }
placed_from n (s ∷ sources) span small (inr h) =
    let p = placed_from (n + 1) sources span (λ k d within. small (suc k) d (omega arith)) h in
    let is = p.file in let within = p.within in
    record { index = suc p.index; file = omega arith; within = omega arith; inside = p.inside; small = p.small }

-- a span that lies in files has a line and a column there
pub placed : (sources : List Source) (span : Span) → All (λ (s : Source). vec_len s.bytes ≤ 1048576) sources → LiesIn 0 (map content sources) span → IsPlaced sources span
placed sources span small h =
    let p = placed_from 0 sources span small h in
    let same : p.index ≡ span.file = let is = p.file in omega arith in
    record {
      file = subst (λ k. k < length sources) same p.within;
      inside = subst (λ k. span.start + span.len ≤ length (bytes_of sources k)) same p.inside;
      small = subst (λ k. length (bytes_of sources k) ≤ 1048576) same p.small;
    }

pub first_fault_placed : (limit : ℕ) (sources : List Source) (f : Fault) → All (λ (s : Source). vec_len s.bytes ≤ 1048576) sources →
    FirstLexFault limit 0 (map content sources) f → IsPlaced sources f.span
first_fault_placed limit sources f small h = placed sources f.span small (first_fault_stands limit 0 (map content sources) f h)
