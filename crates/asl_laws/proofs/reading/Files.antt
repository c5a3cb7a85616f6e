-- The trees of a file hold what is asked of them, where each rule of the grammar makes this of parts that lie inside the file.
use Rattle.std.proofs.Common.{◌≡◌, ℕ, zero, suc, true, List, [], ◌∷◌, None, length, map, arith}
use Rattle.std.specs.List.{AllByRecursion}
use Rattle.asl_syn.specs.declared.token.Mark.{Mark}
use Rattle.asl_syn.specs.declared.token.Mark.TheVariants as mark
use Rattle.asl_syn.specs.declared.token.TokenKind.{TokenKind}
use Rattle.asl_syn.specs.declared.token.TokenKind.TheVariants as kinds
use Rattle.asl_syn.specs.declared.token.Word.{Word}
use Rattle.asl_syn.specs.declared.token.Word.TheVariants as word
use Rattle.asl_syn.specs.declared.token.Token.{Token}
use Rattle.asl_syn.specs.declared.read.ReadDecl.{ReadDecl}
use Rattle.asl_grammar.specs.lexemes.Tokens.{Tokens}
use Rattle.asl_grammar.specs.lexemes.Lexemes.{IsLexeme}
use Rattle.asl_grammar.specs.lexemes.Refusals.{refusal}
use Rattle.asl_grammar.specs.lexemes.Texts.{HasText, text_at}
use Rattle.asl_grammar.specs.declared.kinds.Kind.TheVariants as kind
use Rattle.asl_grammar.specs.grammar.Kinds.{kind_of, kind_of_word, kind_of_mark, same_kind}
use Rattle.asl_grammar.specs.grammar.Cursor.{Cursor, with_text}
use Rattle.asl_grammar.specs.grammar.Combinators.{Reads}
use Rattle.asl_grammar.specs.grammar.Faults.{max_levels, Parses, lexemes}
use Rattle.asl_grammar.specs.grammar.Rules.{Sym, Val, rule, after, Program}
use Rattle.asl_grammar.specs.grammar.Syntax.{start}
use Rattle.asl_grammar.specs.Reading.{Text}
use Rattle.asl_grammar.proofs.grammar.Checked.{each, covered}
use Rattle.asl_grammar.proofs.grammar.Symbols.{short_n}
use Rattle.asl_grammar.proofs.lexemes.Placing.{tokens_stand}
use Rattle.asl_laws.proofs.reading.Inside.{AheadIn, CurIn, Inside, inside}
use Rattle.asl_laws.proofs.basics.Lists.{AllOf}
use Rattle.asl_laws.proofs.reading.Literals.{IsLiteral, token_literal}

-- ---- the tokens of a file

no_word : (w : Word) → same_kind kind.BitsLiteral (kind_of_word w) ≡ true → ⊥
no_word word.Bits h = cc
no_word w h = cc

no_mark : (m : Mark) → same_kind kind.BitsLiteral (kind_of_mark m) ≡ true → ⊥
no_mark mark.OpenParen h = cc
no_mark m h = cc

-- a token of the kind of bits is one of bits
literal_kind : (limit : ℕ) (text : Text) (k : TokenKind) → IsLexeme text k → refusal limit k text 0 ≡ None →
    same_kind kind.BitsLiteral (kind_of k) ≡ true → IsLiteral limit text
literal_kind limit text kinds.Bits h r e = token_literal limit text h r
literal_kind limit text kinds.Name h r e = absurd cc
literal_kind limit text (kinds.Int n) h r e = absurd cc
literal_kind limit text kinds.Mask h r e = absurd cc
literal_kind limit text kinds.Text h r e = absurd cc
literal_kind limit text (kinds.Word w) h r e = absurd (no_word w e)
literal_kind limit text (kinds.Mark m) h r e = absurd (no_mark m e)

ahead_in : (limit n : ℕ) (text : Text) (ts : List Token) → AllByRecursion (HasText limit n text) ts →
    AllOf (AheadIn n (length text) limit) (map (with_text text) ts)
ahead_in limit n text [] h = tt
ahead_in limit n text (t ∷ ts) h =
    (((h.0.file_is, h.0.fits), literal_kind limit (text_at text t.span) t.kind h.0.lexeme h.0.taken), ahead_in limit n text ts h.1)

-- ---- the trees

module _ (n : ℕ) (text : Text) (limit : ℕ) (Q : (s : Sym) → Val s → Type 0)
    (made : (s : Sym) (v : Val s) → Inside Sym Val after n (length text) limit Q (rule s) v → Q s v) where
  keeps : (m : ℕ) (s : Sym) (st : Cursor) (v : Val s) (end : Cursor) → Reads Sym Val rule m s st v end → CurIn n (length text) limit st →
      Q s v × CurIn n (length text) limit end
  keeps zero s st v end r c = absurd r
  keeps (suc m) s st v end r c =
      let h = inside Sym Val after n (length text) limit Q (Reads Sym Val rule m) (short_n Sym Val rule after each covered m) (keeps m)
      (rule s) (each s) st v end r c in
      (made s v h.0, h.1)

  -- what is asked of a whole text holds of each tree that it has
  pub program_in : (ts : List Token) (v : List ReadDecl) → Tokens limit n text ts → Parses text ts v → Q Program v
  program_in ts v k (m, end, r, e) =
      (keeps m Program (start max_levels (lexemes text ts)) v end r
      (record { toks_in = ahead_in limit n text ts (tokens_stand limit n text ts k); last_in = omega arith })).0
