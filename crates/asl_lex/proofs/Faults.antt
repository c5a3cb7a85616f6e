-- Each fault that the lexer makes is one that the definitions allow there.
use Rattle.std.proofs.Common.{◌≡◌, ℕ, ◌+◌, ◌<◌, ◌≤◌, ◌^◌, true, false, length, take, drop, Some, None, refl, sym, subst}
use Rattle.asl_syn.specs.declared.code.Fault.{Fault}
use Rattle.asl_syn.specs.declared.code.StaticCode.{StaticCode}
use Rattle.asl_syn.specs.declared.code.StaticCode.TheVariants.{L01, L02, L03, L04}
use Rattle.asl_syn.specs.declared.token.TokenKind.{TokenKind}
use Rattle.asl_syn.specs.declared.token.TokenKind.TheVariants as kinds
use Rattle.asl_quote.specs.declared.QuoteState.{QuoteState}
use Rattle.asl_quote.specs.Quotes.{opens_quote, quote_len}
use Rattle.asl_grammar.specs.lexemes.Gaps.{opens_block}
use Rattle.asl_grammar.specs.lexemes.Lexemes.{Longest}
use Rattle.asl_grammar.specs.lexemes.Refusals.{refusal}
use Rattle.asl_grammar.specs.lexemes.Tokens.{Scan, NoLexeme, FaultAt, unclosed, malformed, stray, refused, IsFaultAt}
use Rattle.asl_grammar.proofs.lexemes.Reading.{large_refused}

-- what the fields say, what the lexer is seen as, and the fault
module _ (fields lexer : Scan) (is : fields ≡ lexer) (f : Fault) where
  -- the fault has this code and length, and stands first in what is left
  abbrev pub Has : StaticCode → ℕ → Type 0
  Has code len = f ≡ record { code = code; inner = None; span = record { file = lexer.file; start = lexer.place; len = len } }

  fault_here : (code : StaticCode) (len : ℕ) → Has code len → FaultAt fields code len → IsFaultAt lexer f
  fault_here code len parts fault =
      rw parts (record { fault = subst (λ z. FaultAt z code len) is fault; inner_is = refl; file_is = refl; start_is = refl })

  pub unclosed_here : Has L02 (length fields.rest) → opens_block fields.rest ≡ true → IsFaultAt lexer f
  unclosed_here parts opened = fault_here L02 (length fields.rest) parts (unclosed opened)

  pub large_here : (len v : ℕ) → Has L04 len → Longest fields.rest len (kinds.Int v) → 2 ^ 127 ≤ v → IsFaultAt lexer f
  large_here len v parts longest large =
      fault_here L04 len parts (refused (kinds.Int v) longest (large_refused fields.width_limit v (take len fields.rest) fields.given large))

  pub refused_here : (code : StaticCode) (len : ℕ) (k : TokenKind) → Has code len → Longest fields.rest len k →
      refusal fields.width_limit k (take len fields.rest) fields.given ≡ Some code → IsFaultAt lexer f
  refused_here code len k parts longest why = fault_here code len parts (refused k longest why)

  pub malformed_here : (state : QuoteState) → Has L03 (1 + quote_len state (drop 1 fields.rest)) → opens_quote fields.rest ≡ Some state →
      opens_block lexer.rest ≡ false → NoLexeme lexer.rest → IsFaultAt lexer f
  malformed_here state parts quote apart none =
      fault_here L03 (1 + quote_len state (drop 1 fields.rest)) parts
      (malformed (subst (λ (z : Scan). opens_block z.rest ≡ false) (sym is) apart) quote (subst (λ (z : Scan). NoLexeme z.rest) (sym is) none))

  pub stray_here : Has L01 1 → opens_quote fields.rest ≡ None → 0 < length lexer.rest → opens_block lexer.rest ≡ false → NoLexeme lexer.rest → IsFaultAt lexer f
  stray_here parts quote some apart none =
      fault_here L01 1 parts
      (stray (subst (λ (z : Scan). 0 < length z.rest) (sym is) some) (subst (λ (z : Scan). opens_block z.rest ≡ false) (sym is) apart) quote (subst (λ (z : Scan). NoLexeme z.rest) (sym is) none))
