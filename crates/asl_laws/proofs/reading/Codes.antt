-- A fault that is met as files are read has a code of lexemes or of syntax.
use Rattle.std.proofs.Common.{ℕ, ◌+◌, inl, inr, Bool, true, false, cond, List, [], ◌∷◌, map, Some, None, Option, Err, refl, sym, subst}
use Rattle.asl_syn.specs.declared.code.Fault.{Fault}
use Rattle.asl_syn.specs.declared.code.StaticCode.{StaticCode}
use Rattle.asl_syn.specs.declared.code.StaticCode.TheVariants.{L04, L05, M03, S01, S03}
use Rattle.asl_syn.specs.declared.token.Token.{Token}
use Rattle.asl_syn.specs.declared.token.TokenKind.{TokenKind}
use Rattle.asl_syn.specs.declared.token.TokenKind.TheVariants as kinds
use Rattle.asl_grammar.specs.lexemes.Files.{FirstLexFault}
use Rattle.asl_grammar.specs.lexemes.Refusals.{refusal, too_many}
use Rattle.asl_grammar.specs.lexemes.Tokens.{Scan, FaultAt, unclosed, malformed, stray, refused}
use Rattle.asl_grammar.specs.grammar.Cursor.{Lexeme}
use Rattle.asl_grammar.specs.grammar.Faults.{SyntaxFault, refusal_code}
use Rattle.asl_grammar.specs.Reading.{Text, File, FirstSyntaxFault, ReadsAt}
use Rattle.asl_laws.specs.Codes.{IsOfReading, HasReadingCode}

-- ---- lexemes

-- a code that is given
abbrev MaybeOfReading : Option StaticCode → Type 0
MaybeOfReading None = Unit {0}
MaybeOfReading (Some code) = IsOfReading code

many_code : (n : ℕ) → MaybeOfReading (too_many n)
many_code n = by _
  where
    by : (b : Bool) → MaybeOfReading (cond b (Some M03) None)
    by true = tt
    by false = tt

either_code : (b : Bool) (o p : Option StaticCode) → MaybeOfReading o → MaybeOfReading p → MaybeOfReading (cond b o p)
either_code true o p h k = h
either_code false o p h k = k

refusal_is : (limit : ℕ) (k : TokenKind) (text : Text) (n : ℕ) → MaybeOfReading (refusal limit k text n)
refusal_is limit kinds.Name text n = either_code _ (Some L05) (too_many n) tt (many_code n)
refusal_is limit (kinds.Int i) text n = either_code _ (Some L04) (too_many n) tt (many_code n)
refusal_is limit kinds.Bits text n = either_code _ (too_many n) (Some L04) (many_code n) tt
refusal_is limit kinds.Mask text n = either_code _ (too_many n) (Some L04) (many_code n) tt
refusal_is limit kinds.Text text n = many_code n
refusal_is limit (kinds.Word w) text n = many_code n
refusal_is limit (kinds.Mark m) text n = many_code n

fault_code : (s : Scan) (code : StaticCode) (len : ℕ) → FaultAt s code len → IsOfReading code
fault_code s code len (unclosed h) = tt
fault_code s code len (malformed h k l) = tt
fault_code s code len (stray h k l m) = tt
fault_code s code len (refused k h r) = subst MaybeOfReading r (refusal_is s.width_limit k _ s.given)

lexeme_code : (limit n : ℕ) (texts : List Text) (f : Fault) → FirstLexFault limit n texts f → HasReadingCode f
lexeme_code limit n [] f h = absurd h
lexeme_code limit n (text ∷ texts) f (inl (ts, last, front, b)) =
    record { code = fault_code _ f.code f.span.len b.fault.fault; inner = b.fault.inner_is }
lexeme_code limit n (text ∷ texts) f (inr (ts, t, first)) = lexeme_code limit (n + 1) texts f first

-- ---- syntax

refused_code : (rest : List Lexeme) → IsOfReading (refusal_code rest)
refused_code [] = tt
refused_code (t ∷ ts) = by _
  where
    by : (b : Bool) → IsOfReading (cond b S03 S01)
    by true = tt
    by false = tt

syntax_code : (n : ℕ) (text : Text) (ts : List Token) (f : Fault) → SyntaxFault n text ts f → HasReadingCode f
syntax_code n text ts f (inl x) = subst HasReadingCode (sym x.says) (record { code = refused_code x.rest; inner = refl })
syntax_code n text ts f (inr x) = subst HasReadingCode (sym x.says) (record { code = tt; inner = refl })

first_syntax_code : (n : ℕ) (texts : List Text) (tss : List (List Token)) (f : Fault) → FirstSyntaxFault n texts tss f → HasReadingCode f
first_syntax_code n [] tss f h = absurd h
first_syntax_code n (text ∷ texts) [] f h = absurd h
first_syntax_code n (text ∷ texts) (ts ∷ tss) f (inl h) = syntax_code n text ts f h
first_syntax_code n (text ∷ texts) (ts ∷ tss) f (inr (v, p, h)) = first_syntax_code (n + 1) texts tss f h

-- of files
pub reading_code : (limit : ℕ) (files : List File) (f : Fault) → ReadsAt limit files (Err f) → HasReadingCode f
reading_code limit files f (inl h) = lexeme_code limit 0 (map (λ g. g.1) files) f h
reading_code limit files f (inr h) = first_syntax_code 0 (map (λ g. g.1) files) h.tokens f h.fault
