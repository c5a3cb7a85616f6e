-- From the number of tokens that are left where the reader stops, to the syntax fault.
use Rattle.std.proofs.Common.{◌≡◌, ℕ, suc, ◌+◌, ◌-◌, Bool, true, false, List, [], ◌∷◌, ◌++◌, length, drop, None, Err, refl, ap, sym, ◌∙◌, subst, arith, length-append}
use Rattle.asl_syn.specs.declared.code.StaticCode.TheVariants.{S02}
use Rattle.asl_syn.specs.declared.code.Fault.{Fault}
use Rattle.asl_syn.specs.declared.token.Span.{Span}
use Rattle.asl_grammar.specs.declared.error.ParseError.{ParseError}
use Rattle.asl_grammar.specs.declared.error.ParseError.TheVariants.{Syntax, TooDeep}
use Rattle.asl_grammar.specs.grammar.Cursor.{Lexeme}
use Rattle.asl_grammar.specs.grammar.Language.{Answers, Stops, without_end, outcome}
use Rattle.asl_grammar.specs.grammar.Rules.{Sym, Val, rule, Program}
use Rattle.asl_grammar.specs.grammar.Syntax.{start}
use Rattle.asl_grammar.specs.grammar.Opening.{Full}
use Rattle.asl_grammar.specs.grammar.Faults.{max_levels, NotAllowed, TooManyLevels, refusal, place_of, last_or, opener, before, level_fault}
use Rattle.asl_grammar.proofs.grammar.Symbols.{same_split}
use Rattle.asl_grammar.proofs.grammar.Answered.{answered}

pub drop_front : (front rest : List Lexeme) → drop (length front) (front ++ rest) ≡ rest
drop_front [] rest = refl
drop_front (t ∷ front) rest = drop_front front rest

drop_is : (ts front rest : List Lexeme) (n : ℕ) → ts ≡ front ++ rest → length rest ≡ n → drop (length ts - n) ts ≡ rest
drop_is ts front rest n e l =
    let q : length ts ≡ length front + length rest = ap length e ∙ length-append front rest in
    let k : length ts - n ≡ length front = omega arith in
    ap (λ m. drop m ts) k ∙ ap (drop (length front)) e ∙ drop_front front rest

last_dropped : (front : List Lexeme) (t : Lexeme) (rest : List Lexeme) → place_of 0 0 (drop (length front - 1) (front ++ (t ∷ rest))) ≡ (last_or t front).span
last_dropped [] t rest = refl
last_dropped (x ∷ []) t rest = refl
last_dropped (x ∷ y ∷ front) t rest =
    let e : length (x ∷ y ∷ front) - 1 ≡ suc (length (y ∷ front) - 1) = omega arith in
    ap (λ m. place_of 0 0 (drop m (x ∷ y ∷ (front ++ (t ∷ rest))))) e ∙ last_dropped (y ∷ front) t rest

level_at : (ts front : List Lexeme) (token : Lexeme) (rest : List Lexeme) (n : ℕ) (late : Bool) → ts ≡ front ++ (token ∷ rest) → length (token ∷ rest) ≡ n → place_of 0 0 (drop (before late (length ts - n)) ts) ≡ (opener front token late).span
level_at ts front token rest n false e l = ap (place_of 0 0) (drop_is ts front (token ∷ rest) n e l)
level_at ts front token rest n true e l =
    let q : length ts ≡ length front + length (token ∷ rest) = ap length e ∙ length-append front (token ∷ rest) in
    let k : length ts - n ≡ length front = omega arith in
    ap (λ m. place_of 0 0 (drop (m - 1) ts)) k ∙ ap (λ us. place_of 0 0 (drop (length front - 1) us)) e ∙ last_dropped front token rest

abbrev pub first_or : Lexeme → List Lexeme → Lexeme
first_or t [] = t
first_or t (x ∷ xs) = x

abbrev pub level_says : Span → Fault
level_says s = record { code = S02; inner = None; span = s }

stops_at : (ts : List Lexeme) (e : ParseError) → outcome max_levels ts ≡ Err e → Stops max_levels ts e
stops_at ts e h = subst (λ o. Answers max_levels ts (without_end o)) h (answered max_levels ts)

pub not_allowed_at : (file size : ℕ) (ts : List Lexeme) (n : ℕ) → outcome max_levels ts ≡ Err (Syntax n) → NotAllowed file size ts (refusal file size (drop (length ts - n) ts))
not_allowed_at file size ts n h = let s = stops_at ts (Syntax n) h in
    record { front = s.0.front; rest = s.0.rest; is = s.0.is; goes_on = s.0.goes_on; no_longer = s.0.no_longer; no_tree = s.1; says = ap (refusal file size) (drop_is ts s.0.front s.0.rest n s.0.is s.0.there) }

pub too_many_levels_at : (ts : List Lexeme) (n : ℕ) (late : Bool) → outcome max_levels ts ≡ Err (TooDeep n late) → TooManyLevels ts (level_fault ts n late)
too_many_levels_at ts n late h = go (stops_at ts (TooDeep n late) h)
  where
    go : Stops max_levels ts (TooDeep n late) → TooManyLevels ts (level_fault ts n late)
    go (x, o, _) =
        let front_same : o.0 ≡ x.front = same_split ts o.0 x.front (o.1 ∷ o.2) (x.token ∷ x.rest) o.3 x.is (o.4 ∙ sym x.there) in
        let rest_same : o.1 ∷ o.2 ≡ x.token ∷ x.rest = sym (drop_is ts o.0 (o.1 ∷ o.2) n o.3 o.4) ∙ drop_is ts x.front (x.token ∷ x.rest) n x.is x.there in
        let token_same : o.1 ≡ x.token = ap (first_or o.1) rest_same in
        record {
          front = x.front;
          token = x.token;
          rest = x.rest;
          late = late;
          is = x.is;
          goes_on = x.goes_on;
          allowed = x.opens;
          too_many = x.too_many;
          opens = (o.5.0, subst (λ t. Full Sym Val rule o.5.0 late Program (start max_levels x.front) t) token_same (subst (λ f. Full Sym Val rule o.5.0 late Program (start max_levels f) o.1) front_same o.5.1));
          says = ap level_says (level_at ts x.front x.token x.rest n late x.is x.there);
        }
