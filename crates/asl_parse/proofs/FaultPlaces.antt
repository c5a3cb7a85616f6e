-- From slices of tokens to the fault that the grammar says.
use Rattle.std.proofs.Common.{◌≡◌, ◌≢◌, ℕ, zero, suc, ◌-◌, Bool, inl, inr, List, [], ◌∷◌, map, drop, length, Result, Ok, Err, None, refl, ap, sym, ◌∙◌, subst}
use Rattle.std.proofs.lemmas.List.{length-map}
use Rattle.asl_syn.specs.declared.token.Token.{Token}
use Rattle.asl_syn.specs.declared.token.Span.{Span}
use Rattle.asl_syn.specs.declared.read.ReadDecl.{ReadDecl}
use Rattle.asl_syn.specs.declared.code.Fault.{Fault}
use Rattle.asl_syn.specs.declared.code.Refused.{Refused}
use Rattle.asl_syn.specs.declared.code.Refused.TheVariants.{At, NoMemory}
use Rattle.asl_grammar.specs.declared.error.ParseError.{ParseError}
use Rattle.asl_grammar.specs.declared.error.ParseError.TheVariants.{OutOfMemory, Syntax, TooDeep}
use Rattle.asl_grammar.specs.grammar.Cursor.{Lexeme, Cursor, with_text}
use Rattle.asl_grammar.specs.grammar.Reader.{Outcome, bind, parse}
use Rattle.asl_grammar.specs.grammar.Rules.{Sym, Val, rule, after, Program}
use Rattle.asl_grammar.specs.grammar.Syntax.{start, finish}
use Rattle.std.specs.Prelude.{IsErrAnd}
use Rattle.asl_grammar.specs.grammar.Language.{outcome}
use Rattle.asl_grammar.specs.grammar.Faults.{max_levels, lexemes, Parses, SyntaxFault, NotAllowed, refusal, place_of, before, level_fault, too_many_at}
use Rattle.asl_grammar.proofs.grammar.Symbols.{parsed_tree}
use Rattle.asl_grammar.proofs.grammar.Checked.{each, covered}
use Rattle.asl_grammar.proofs.grammar.Placed.{level_says, not_allowed_at, too_many_levels_at}
use Rattle.asl_parse.specs.private.Outcomes.{IsOutcome}

drop_map : {A B : Type 0} (f : A → B) (n : ℕ) (xs : List A) → drop n (map f xs) ≡ map f (drop n xs)
drop_map f zero xs = refl
drop_map f (suc n) [] = refl
drop_map f (suc n) (x ∷ xs) = drop_map f n xs

pub ahead_at : (bytes : List ℕ) (toks : List Token) (left : ℕ) → lexemes bytes (drop (length toks - left) toks) ≡ drop (length (lexemes bytes toks) - left) (lexemes bytes toks)
ahead_at bytes toks left =
    let len : length (lexemes bytes toks) ≡ length toks = length-map toks (with_text bytes) in
    sym (ap (λ n. drop (n - left) (lexemes bytes toks)) len ∙ drop_map (with_text bytes) (length toks - left) toks)

pub opener_at : (bytes : List ℕ) (toks : List Token) (left : ℕ) (late : Bool) → lexemes bytes (drop (before late (length toks - left)) toks) ≡ drop (before late (length (lexemes bytes toks) - left)) (lexemes bytes toks)
opener_at bytes toks left late =
    let len : length (lexemes bytes toks) ≡ length toks = length-map toks (with_text bytes) in
    sym (ap (λ n. drop (before late (n - left)) (lexemes bytes toks)) len ∙ drop_map (with_text bytes) (before late (length toks - left)) toks)

pub not_allowed : (file : ℕ) (bytes : List ℕ) (toks : List Token) (left : ℕ) → outcome max_levels (lexemes bytes toks) ≡ Err (Syntax left)
    → SyntaxFault file bytes toks (refusal file (length bytes) (lexemes bytes (drop (length toks - left) toks)))
not_allowed file bytes toks left h =
    inl (subst (λ ts. NotAllowed file (length bytes) (lexemes bytes toks) (refusal file (length bytes) ts)) (sym (ahead_at bytes toks left)) (not_allowed_at file (length bytes) (lexemes bytes toks) left h))

pub too_deep : (file : ℕ) (bytes : List ℕ) (toks : List Token) (left : ℕ) (late : Bool) → outcome max_levels (lexemes bytes toks) ≡ Err (TooDeep left late) → SyntaxFault file bytes toks (level_fault (lexemes bytes toks) left late)
too_deep file bytes toks left late h = inr (too_many_levels_at (lexemes bytes toks) left late h)

pub level_fault_at : (bytes : List ℕ) (toks : List Token) (left : ℕ) (late : Bool) (ahead : List Token) (span : Span) → span ≡ place_of 0 0 (lexemes bytes ahead) → ahead ≡ drop (before late (length toks - left)) toks
    → level_says span ≡ level_fault (lexemes bytes toks) left late
level_fault_at bytes toks left late ahead span h a = ap level_says (h ∙ ap (place_of 0 0) (ap (lexemes bytes) a ∙ opener_at bytes toks left late))

pub same_fault : (f g : Fault) → At f ≡ At g → f ≡ g
same_fault f g h = cc

pub no_fault : (f : Fault) → NoMemory ≡ At f → ⊥
no_fault f h = cc

-- ---- the outcome for all tokens

abbrev pub read : List ℕ → List Token → Outcome (List ReadDecl)
read bytes toks = parse Sym Val rule (suc max_levels) Program (start max_levels (lexemes bytes toks))

abbrev ended : Outcome (List ReadDecl) → Outcome (List ReadDecl)
ended o = bind o (λ v end. finish v end end.toks)

pub failed : (bytes : List ℕ) (toks : List Token) (r : Result (List ReadDecl) ParseError) (e : ParseError) → (e ≢ OutOfMemory → read bytes toks ≡ Err e) → IsErrAnd r (λ x. x ≡ e) → IsOutcome (outcome max_levels (lexemes bytes toks)) r
failed bytes toks (Ok a) e h same = absurd same
failed bytes toks (Err x) e h same = λ no. ap ended (h (λ is. no (same ∙ is))) ∙ ap Err (sym same)

none_left : (v : List ReadDecl) (end : Cursor) (ts : List Lexeme) → length ts ≡ 0 → finish v end ts ≡ Ok (v, end)
none_left v end [] l = refl
none_left v end (t ∷ ts) l = absurd cc

pub finished : (bytes : List ℕ) (toks : List Token) (v : List ReadDecl) (end : Cursor) → read bytes toks ≡ Ok (v, end) → length end.toks ≡ 0 → IsOutcome (outcome max_levels (lexemes bytes toks)) (Ok v)
finished bytes toks v end h l = (end, ap ended h ∙ none_left v end end.toks l)

some_left : (v : List ReadDecl) (end : Cursor) (ts : List Lexeme) → (length ts ≡ 0 → ⊥) → finish v end ts ≡ Err (Syntax (length ts))
some_left v end [] l = absurd (l refl)
some_left v end (t ∷ ts) l = refl

pub unfinished : (bytes : List ℕ) (toks : List Token) (v : List ReadDecl) (end : Cursor) (n : ℕ) → read bytes toks ≡ Ok (v, end) → n ≡ length end.toks → (n ≡ 0 → ⊥) → IsOutcome (outcome max_levels (lexemes bytes toks)) (Err (Syntax n))
unfinished bytes toks v end n h l more = λ no. ap ended h ∙ some_left v end end.toks (λ z. more (l ∙ z)) ∙ ap (λ k. Err (Syntax k)) (sym l)

pub tree_is : (bytes : List ℕ) (toks : List Token) (v : List ReadDecl) → IsOutcome (outcome max_levels (lexemes bytes toks)) (Ok v) → Parses bytes toks v
tree_is bytes toks v (end, h) = parsed_tree Sym Val rule after each covered Program max_levels (lexemes bytes toks) v end h

pub given_back : (x : Refused) (f : Fault) → (let r : Result (List ReadDecl) Refused = Err x in r) ≡ Err (At f) → x ≡ At f
given_back x f h = cc
