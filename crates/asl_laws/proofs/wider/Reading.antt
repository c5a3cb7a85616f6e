-- What files are read to stays under a wider limit: a lexeme that is taken is taken. A text that is refused may be read, or be refused
-- elsewhere.
use Rattle.std.proofs.Common.{◌≡◌, ℕ, ◌+◌, ◌≤◌, Bool, true, false, cond, List, [], ◌∷◌, map, Option, Some, None, Ok, refl, sym, ap, subst}
use Rattle.asl_syn.specs.declared.code.StaticCode.{StaticCode}
use Rattle.asl_syn.specs.declared.code.StaticCode.TheVariants.{L04}
use Rattle.asl_syn.specs.declared.token.Token.{Token}
use Rattle.asl_syn.specs.declared.token.TokenKind.{TokenKind}
use Rattle.asl_syn.specs.declared.token.TokenKind.TheVariants as kinds
use Rattle.asl_syn.specs.declared.read.ReadDecl.{ReadDecl}
use Rattle.asl_grammar.specs.lexemes.Refusals.{refusal, too_many}
use Rattle.asl_grammar.specs.lexemes.Tokens.{Scan, scan_of, behind_gap, IsTokenAt, Yields, Front, Completes}
use Rattle.asl_grammar.specs.lexemes.Files.{AllTokens}
use Rattle.asl_grammar.specs.Reading.{File, Reader, ReadsAt, IsReadingAt}
use Rattle.asl_grammar.proofs.OneProgram.{one_answer_at}
use Rattle.asl_laws.proofs.wider.Steps.{within_both}

taken_by : (b c : Bool) (o : Option StaticCode) → (b ≡ true → c ≡ true) → cond b o (Some L04) ≡ None → cond c o (Some L04) ≡ None
taken_by true c o h e = subst (λ d. cond d o (Some L04) ≡ None) (sym (h refl)) e
taken_by false c o h e = elim (some_none e) [ ]
  where
    some_none : (let r : Option StaticCode = Some L04 in r) ≡ None → ⊥
    some_none h = cc

module _ (m : ℕ) where
  abbrev wide : Scan → Scan
  wide s = record s { width_limit = m }

  refusal_stays : (l : ℕ) → l ≤ m → (k : TokenKind) (text : List ℕ) (n : ℕ) → refusal l k text n ≡ None → refusal m k text n ≡ None
  refusal_stays l le kinds.Name text n e = e
  refusal_stays l le (kinds.Int i) text n e = e
  refusal_stays l le kinds.Bits text n e = taken_by _ _ (too_many n) (within_both l m le _) e
  refusal_stays l le kinds.Mask text n e = taken_by _ _ (too_many n) (within_both l m le _) e
  refusal_stays l le kinds.Text text n e = e
  refusal_stays l le (kinds.Word w) text n e = e
  refusal_stays l le (kinds.Mark w) text n e = e

  token_stays : (s : Scan) (t : Token) → s.width_limit ≤ m → IsTokenAt s t → IsTokenAt (wide s) t
  token_stays s t le h = record {
    longest = h.longest;
    taken = refusal_stays s.width_limit le t.kind _ s.given h.taken;
    file_is = h.file_is;
    start_is = h.start_is;
  }

  yields_stay : (old new : Scan) (t : Token) → old.width_limit ≤ m → Yields old t new → Yields (wide old) t (wide new)
  yields_stay old new t le y = record {
    bytes = y.bytes;
    gap = y.gap;
    token = token_stays (behind_gap old y.bytes) t le y.token;
    next = ap wide y.next;
  }

  front_stays : (ts : List Token) (old new : Scan) → old.width_limit ≤ m → Front old ts new → Front (wide old) ts (wide new)
  front_stays [] old new le e = ap wide e
  front_stays (t ∷ ts) old new le (next, y, f) =
      (wide next, yields_stay old next t le y, front_stays ts next new (subst (λ (s : Scan). s.width_limit ≤ m) (sym y.next) le) f)

  completes_stay : (s : Scan) (ts : List Token) → s.width_limit ≤ m → Completes s ts → Completes (wide s) ts
  completes_stay s ts le (last, f, e) = (wide last, front_stays ts s last le f, e)

  tokens_stay : (l : ℕ) → l ≤ m → (n : ℕ) (texts : List (List ℕ)) (tss : List (List Token)) → AllTokens l n texts tss →
      AllTokens m n texts tss
  tokens_stay l le n [] [] h = tt
  tokens_stay l le n [] (ts ∷ tss) h = absurd h
  tokens_stay l le n (text ∷ texts) [] h = absurd h
  tokens_stay l le n (text ∷ texts) (ts ∷ tss) h = (completes_stay (scan_of l n text) ts le h.0, tokens_stay l le (n + 1) texts tss h.1)

  pub reads_stay : (l : ℕ) → l ≤ m → (files : List File) (ds : List ReadDecl) → ReadsAt l files (Ok ds) → ReadsAt m files (Ok ds)
  reads_stay l le files ds h = record {
    tokens = h.tokens;
    lexemes = tokens_stay l le 0 (map (λ f. f.1) files) h.tokens h.lexemes;
    trees = h.trees;
  }

  pub read_same : (l : ℕ) → l ≤ m → (read other : Reader) → IsReadingAt l read → IsReadingAt m other →
      (files : List File) (ds : List ReadDecl) → read files ≡ Ok ds → other files ≡ Ok ds
  read_same l le read other a b files ds e = one_answer_at m files (other files) (Ok ds) (b files)
      (reads_stay l le files ds (subst (λ r. ReadsAt l files r) e (a files)))
