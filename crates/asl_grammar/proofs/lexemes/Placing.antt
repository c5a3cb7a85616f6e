-- The text of each token stands at its span.
use Rattle.std.proofs.Common.{◌≡◌, ℕ, zero, suc, ◌+◌, ◌-◌, ◌^◌, ◌≤◌, ◌==◌, ◌&&◌, Bool, true, false, not, List, [], ◌∷◌, Some, None, length, take, drop, refl, ap, sym, ◌∙◌, subst, arith, cond, nat_le}
use Rattle.std.proofs.lemmas.Grind.{common_steps}
use Rattle.std.proofs.lemmas.List.{length-drop, drop-drop}
use Rattle.std.proofs.lemmas.List.Sums.{prefix_len-le-length}
use Rattle.std.specs.List.{prefix_len, AllByRecursion}
use Rattle.asl_syn.specs.declared.token.Token.{Token}
use Rattle.asl_syn.specs.declared.token.TokenKind.{TokenKind}
use Rattle.asl_syn.specs.declared.token.TokenKind.TheVariants as kinds
use Rattle.asl_syn.specs.declared.code.StaticCode.TheVariants.{L04, L05}
use Rattle.asl_grammar.specs.lexemes.Bytes.{is_blank}
use Rattle.asl_grammar.specs.lexemes.Gaps.{after_block, after_line, after_piece, Pieces}
use Rattle.asl_grammar.specs.lexemes.Lexemes.{IsLexeme}
use Rattle.asl_grammar.specs.lexemes.Refusals.{refusal, too_many, is_reserved}
use Rattle.asl_grammar.specs.lexemes.Tokens.{Scan, scan_of, Yields, Front, Tokens}
use Rattle.asl_quote.specs.Bytes.{digit_count}
use Rattle.asl_grammar.specs.lexemes.Texts.{HasText}

drop_drop_is : (m n : ℕ) (a : List ℕ) → drop n (drop m a) ≡ drop (m + n) a
drop_drop_is m n a = grind (arith, common_steps, drop-drop)

-- b is what is left of a behind n bytes
pub record Suffix (a b : List ℕ) : Type 0 where
  pub n : ℕ
  pub fits : n ≤ length a
  pub is : b ≡ drop n a

Suffix_self : (a : List ℕ) → Suffix a a
Suffix_self a = record { n = 0; fits = omega arith; is = refl }

Suffix_behind : (x : ℕ) (a b : List ℕ) → Suffix a b → Suffix (x ∷ a) b
Suffix_behind x a b s = record { n = suc s.n; fits = let f = s.fits in omega arith; is = s.is }

Suffix_more : (a b c : List ℕ) → Suffix a b → Suffix b c → Suffix a c
Suffix_more a b c s t =
    let f = s.fits in let g = t.fits in let e = s.is in
    record {
      n = s.n + t.n;
      fits = omega (arith, ap length e, length-drop s.n a);
      is = t.is ∙ ap (drop t.n) e ∙ drop_drop_is s.n t.n a;
    }

Suffix_is : (a b c : List ℕ) → b ≡ c → Suffix a b → Suffix a c
Suffix_is a b c e s = subst (Suffix a) e s

block_cases : (b : ℕ) (rest left : List ℕ) (c : Bool) → (after_block (b ∷ rest) ≡ Some left → Suffix (b ∷ rest) left) →
    cond c (Some rest) (after_block (b ∷ rest)) ≡ Some left → Suffix (b ∷ rest) left
block_cases b rest left true more h = Suffix_is (b ∷ rest) rest left (cc) (Suffix_behind b rest rest (Suffix_self rest))
block_cases b rest left false more h = more h

after_block_suffix : (bytes left : List ℕ) → after_block bytes ≡ Some left → Suffix bytes left
after_block_suffix [] left h = absurd cc
after_block_suffix (a ∷ []) left h = absurd cc
after_block_suffix (a ∷ b ∷ rest) left h =
    Suffix_behind a (b ∷ rest) left (block_cases b rest left ((a == 42) && (b == 47)) (after_block_suffix (b ∷ rest) left) h)

after_line_suffix : (bytes : List ℕ) → Suffix bytes (after_line bytes)
after_line_suffix bytes = record { n = prefix_len (λ b. not (b == 10)) bytes; fits = prefix_len-le-length (λ b. not (b == 10)) bytes; is = refl }

piece_cases : (a b : ℕ) (rest left : List ℕ) (x y z : Bool) →
    cond x (Some (b ∷ rest)) (cond y (Some (after_line rest)) (cond z (after_block rest) None)) ≡ Some left → Suffix (a ∷ b ∷ rest) left
piece_cases a b rest left true y z h = Suffix_is (a ∷ b ∷ rest) (b ∷ rest) left (cc) (Suffix_behind a (b ∷ rest) (b ∷ rest) (Suffix_self (b ∷ rest)))
piece_cases a b rest left false true z h =
    Suffix_is (a ∷ b ∷ rest) (after_line rest) left (cc) (Suffix_behind a (b ∷ rest) (after_line rest) (Suffix_behind b rest (after_line rest) (after_line_suffix rest)))
piece_cases a b rest left false false true h = Suffix_behind a (b ∷ rest) left (Suffix_behind b rest left (after_block_suffix rest left h))
piece_cases a b rest left false false false h = absurd cc

piece_one : (a : ℕ) (left : List ℕ) (x : Bool) → cond x (Some []) None ≡ Some left → Suffix (a ∷ []) left
piece_one a left true h = Suffix_is (a ∷ []) [] left (cc) (Suffix_behind a [] [] (Suffix_self []))
piece_one a left false h = absurd cc

piece_suffix : (bytes left : List ℕ) → after_piece bytes ≡ Some left → Suffix bytes left
piece_suffix [] left h = absurd cc
piece_suffix (a ∷ []) left h = piece_one a left (is_blank a) h
piece_suffix (a ∷ b ∷ rest) left h = piece_cases a b rest left (is_blank a) ((a == 47) && (b == 47)) ((a == 47) && (b == 42)) h

pub Pieces_suffix : (n : ℕ) (bytes rest : List ℕ) → Pieces n bytes rest → Suffix bytes rest
Pieces_suffix zero bytes rest h = Suffix_is bytes bytes rest h (Suffix_self bytes)
Pieces_suffix (suc n) bytes rest (next, one, more) = Suffix_more bytes next rest (piece_suffix bytes next one) (Pieces_suffix n next rest more)

-- the scan stands in the bytes
pub record Stands (bytes : List ℕ) (s : Scan) : Type 0 where
  pub rest : s.rest ≡ drop s.place bytes
  pub fits : s.place ≤ length bytes

name_before : (b : Bool) (given : ℕ) → cond b (Some L05) (too_many given) ≡ None → cond b (Some L05) (too_many 0) ≡ None
name_before true given h = absurd cc
name_before false given h = refl

int_before : (b : Bool) (given : ℕ) → cond b (Some L04) (too_many given) ≡ None → cond b (Some L04) (too_many 0) ≡ None
int_before true given h = absurd cc
int_before false given h = refl

width_before : (b : Bool) (given : ℕ) → cond b (too_many given) (Some L04) ≡ None → cond b (too_many 0) (Some L04) ≡ None
width_before true given h = refl
width_before false given h = absurd cc

taken_before : (limit : ℕ) (k : TokenKind) (text : List ℕ) (given : ℕ) → refusal limit k text given ≡ None → refusal limit k text 0 ≡ None
taken_before limit kinds.Name text given h = name_before (is_reserved text) given h
taken_before limit (kinds.Int n) text given h = int_before (nat_le (2 ^ 127) n) given h
taken_before limit kinds.Bits text given h = width_before (nat_le (digit_count text) limit) given h
taken_before limit kinds.Mask text given h = width_before (nat_le (digit_count text) limit) given h
taken_before limit kinds.Text text given h = refl
taken_before limit (kinds.Word w) text given h = refl
taken_before limit (kinds.Mark m) text given h = refl

pub token_stands : (bytes : List ℕ) (s x : Scan) (t : Token) → Stands bytes s → Yields s t x → HasText s.width_limit s.file bytes t × Stands bytes x
token_stands bytes s x t st y =
    let suf = Pieces_suffix y.gap.count s.rest y.bytes y.gap.pieces in
    let size : length y.bytes ≡ length s.rest - suf.n = ap length suf.is ∙ length-drop suf.n s.rest in
    let fits = suf.fits in let inside = st.fits in
    let all : length s.rest ≡ length bytes - s.place = ap length st.rest ∙ length-drop s.place bytes in
    let where_is : t.span.start ≡ s.place + suf.n = y.token.start_is ∙ omega arith in
    let here : y.bytes ≡ drop t.span.start bytes =
    suf.is ∙ ap (drop suf.n) st.rest ∙ drop_drop_is s.place suf.n bytes ∙ ap (λ n. drop n bytes) (sym where_is) in
    let long : t.span.len ≤ length y.bytes = y.token.longest.here.fits in
    let place : x.place ≡ t.span.start + t.span.len = ap (λ (z : Scan). z.place) y.next ∙ ap (λ n. n + t.span.len) (sym y.token.start_is) in
    let left : x.rest ≡ drop t.span.len y.bytes = ap (λ (z : Scan). z.rest) y.next in (
      record {
        file_is = y.token.file_is;
        fits = omega arith;
        lexeme = subst (λ b. IsLexeme (take t.span.len b) t.kind) here y.token.longest.here.lexeme;
        taken = subst (λ b. refusal s.width_limit t.kind (take t.span.len b) 0 ≡ None) here (taken_before s.width_limit t.kind (take t.span.len y.bytes) s.given y.token.taken);
      },
      record {
        rest = left ∙ ap (drop t.span.len) here ∙ drop_drop_is t.span.start t.span.len bytes ∙ ap (λ n. drop n bytes) (sym place);
        fits = omega arith;
      },
    )

pub file_same : (s x : Scan) (t : Token) → Yields s t x → x.file ≡ s.file
file_same s x t y = ap (λ (z : Scan). z.file) y.next

limit_same : (s x : Scan) (t : Token) → Yields s t x → x.width_limit ≡ s.width_limit
limit_same s x t y = ap (λ (z : Scan). z.width_limit) y.next

front_stands : (limit file : ℕ) (bytes : List ℕ) (s x : Scan) (ts : List Token) → s.width_limit ≡ limit → s.file ≡ file → Stands bytes s →
    Front s ts x → AllByRecursion (HasText limit file bytes) ts
front_stands limit file bytes s x [] l f st fr = tt
front_stands limit file bytes s x (t ∷ ts) l f st (n, y, fr) =
    let one = token_stands bytes s n t st y in
    let here : HasText limit file bytes t = subst (λ z. HasText limit z bytes t) f (subst (λ z. HasText z s.file bytes t) l one.0) in
    (here, front_stands limit file bytes n x ts (limit_same s n t y ∙ l) (file_same s n t y ∙ f) one.1 fr)

pub tokens_stand : (limit file : ℕ) (bytes : List ℕ) (ts : List Token) → Tokens limit file bytes ts → AllByRecursion (HasText limit file bytes) ts
tokens_stand limit file bytes ts (last, fr, e) =
    front_stands limit file bytes (scan_of limit file bytes) last ts refl refl (record { rest = refl; fits = omega arith }) fr
