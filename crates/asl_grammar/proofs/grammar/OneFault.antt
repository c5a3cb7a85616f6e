-- A text has at most one syntax fault, and none where it has a tree.
use Rattle.std.proofs.Common.{◌≡◌, ℕ, suc, ◌+◌, ◌≤◌, inl, inr, List, [], ◌∷◌, ◌++◌, length, drop, Ok, Err, refl, ap, sym, ◌∙◌, arith, append_assoc, length-append}
use Rattle.asl_syn.specs.declared.code.Fault.{Fault}
use Rattle.asl_syn.specs.declared.token.Token.{Token}
use Rattle.asl_syn.specs.declared.read.ReadDecl.{ReadDecl}
use Rattle.asl_grammar.specs.declared.error.ParseError.TheVariants.{TooDeep}
use Rattle.asl_grammar.specs.grammar.Cursor.{Lexeme}
use Rattle.asl_grammar.specs.grammar.Reader.{parse}
use Rattle.asl_grammar.specs.grammar.Rules.{Sym, Val, rule, after, Program}
use Rattle.asl_grammar.specs.grammar.Syntax.{start}
use Rattle.asl_grammar.specs.grammar.Language.{Tree, Opener, outcome}
use Rattle.asl_grammar.specs.grammar.Faults.{max_levels, lexemes, Parses, NotAllowed, TooManyLevels, SyntaxFault, refusal, opener}
use Rattle.asl_grammar.proofs.grammar.Reading.{place}
use Rattle.asl_grammar.proofs.grammar.Symbols.{one_tree, tree_parsed, stops_behind, same_split}
use Rattle.asl_grammar.proofs.grammar.Checked.{each, covered}
use Rattle.asl_grammar.proofs.grammar.Answered.{opener_stops, one_opener_is}
use Rattle.asl_grammar.proofs.grammar.Placed.{drop_front, first_or, level_says}

rest_is : (ts front rest : List Lexeme) → ts ≡ front ++ rest → rest ≡ drop (length front) ts
rest_is ts front rest e = sym (drop_front front rest) ∙ ap (drop (length front)) (sym e)

-- two longest fronts end at one place
one_refusal : (file size : ℕ) (ts : List Lexeme) (f g : Fault) → NotAllowed file size ts f → NotAllowed file size ts g → f ≡ g
one_refusal file size ts f g a b =
    let p : length a.front ≤ length b.front = b.no_longer a.front a.rest a.is max_levels a.goes_on in
    let q : length b.front ≤ length a.front = a.no_longer b.front b.rest b.is max_levels b.goes_on in
    let k : length a.front ≡ length b.front = omega arith in
    let r : a.rest ≡ b.rest = rest_is ts a.front a.rest a.is ∙ ap (λ n. drop n ts) k ∙ sym (rest_is ts b.front b.rest b.is) in
    a.says ∙ ap (refusal file size) r ∙ sym b.says

opener_of : (ts : List Lexeme) (f : Fault) (a : TooManyLevels ts f) → Opener max_levels ts (length (a.token ∷ a.rest)) a.late
opener_of ts f a = (a.front, a.token, a.rest, a.is, refl, a.opens)

one_level_fault : (ts : List Lexeme) (f g : Fault) → TooManyLevels ts f → TooManyLevels ts g → f ≡ g
one_level_fault ts f g a b =
    let k = one_opener_is max_levels ts (length (a.token ∷ a.rest)) (length (b.token ∷ b.rest)) a.late b.late (opener_of ts f a) (opener_of ts g b) in
    let fronts : a.front ≡ b.front = same_split ts a.front b.front (a.token ∷ a.rest) (b.token ∷ b.rest) a.is b.is k.0 in
    let rests : a.token ∷ a.rest ≡ b.token ∷ b.rest = rest_is ts a.front (a.token ∷ a.rest) a.is ∙ ap (λ z. drop (length z) ts) fronts ∙ sym (rest_is ts b.front (b.token ∷ b.rest) b.is) in
    let tokens : a.token ≡ b.token = ap (first_or a.token) rests in
    let openers : opener a.front a.token a.late ≡ opener b.front b.token b.late = ap (λ z. opener z a.token a.late) fronts ∙ ap (λ z. opener b.front z a.late) tokens ∙ ap (λ z. opener b.front b.token z) k.1 in
    a.says ∙ ap (λ x. level_says x.span) openers ∙ sym b.says

-- where the longest front goes on with the levels that are allowed, none is wanting
not_both : (file size : ℕ) (ts : List Lexeme) (f g : Fault) → NotAllowed file size ts f → TooManyLevels ts g → ⊥
not_both file size ts f g a b =
    let split : ts ≡ (b.front ++ b.token ∷ []) ++ b.rest = b.is ∙ sym (append_assoc b.front (b.token ∷ []) b.rest) in
    let p : length (b.front ++ b.token ∷ []) ≤ length a.front = a.no_longer (b.front ++ b.token ∷ []) b.rest split b.allowed.0 b.allowed.1 in
    let q : place (parse Sym Val rule (suc max_levels) Program (start max_levels ts)) ≤ length a.rest = stops_behind Sym Val rule after each covered Program max_levels max_levels ts a.front a.rest a.is a.goes_on in
    let r : place (parse Sym Val rule (suc max_levels) Program (start max_levels ts)) ≡ length (b.token ∷ b.rest) = ap place (opener_stops max_levels ts (length (b.token ∷ b.rest)) b.late (opener_of ts g b)) in
    let m : length a.front + length a.rest ≡ length (b.front ++ b.token ∷ []) + length b.rest = sym (ap length a.is ∙ length-append a.front a.rest) ∙ (ap length split ∙ length-append (b.front ++ b.token ∷ []) b.rest) in
    let n : length (b.token ∷ b.rest) ≡ suc (length b.rest) = refl in
    omega (arith, p, q, r, m, n)

pub one_syntax_fault : (file : ℕ) (bytes : List ℕ) (tokens : List Token) (f g : Fault) → SyntaxFault file bytes tokens f → SyntaxFault file bytes tokens g → f ≡ g
one_syntax_fault file bytes tokens f g (inl a) (inl b) = one_refusal file (length bytes) (lexemes bytes tokens) f g a b
one_syntax_fault file bytes tokens f g (inl a) (inr b) = absurd (not_both file (length bytes) (lexemes bytes tokens) f g a b)
one_syntax_fault file bytes tokens f g (inr a) (inl b) = absurd (not_both file (length bytes) (lexemes bytes tokens) g f b a)
one_syntax_fault file bytes tokens f g (inr a) (inr b) = one_level_fault (lexemes bytes tokens) f g a b

level_no_tree : (ts : List Lexeme) (f : Fault) → TooManyLevels ts f → (v : List ReadDecl) → Tree max_levels ts v → ⊥
level_no_tree ts f a v t =
    let p : outcome max_levels ts ≡ Ok (v, t.1) = tree_parsed Sym Val rule after each covered Program max_levels ts v t in
    let q : parse Sym Val rule (suc max_levels) Program (start max_levels ts) ≡ Err (TooDeep (length (a.token ∷ a.rest)) a.late) = opener_stops max_levels ts (length (a.token ∷ a.rest)) a.late (opener_of ts f a) in
    cc

pub no_tree_where_fault : (file : ℕ) (bytes : List ℕ) (tokens : List Token) (f : Fault) (v : List ReadDecl) → SyntaxFault file bytes tokens f → Parses bytes tokens v → ⊥
no_tree_where_fault file bytes tokens f v (inl a) t = a.no_tree v t
no_tree_where_fault file bytes tokens f v (inr a) t = level_no_tree (lexemes bytes tokens) f a v t

pub one_parse : (bytes : List ℕ) (tokens : List Token) (v w : List ReadDecl) → Parses bytes tokens v → Parses bytes tokens w → v ≡ w
one_parse bytes tokens v w p q = one_tree Sym Val rule after each covered Program max_levels (lexemes bytes tokens) v w p q
