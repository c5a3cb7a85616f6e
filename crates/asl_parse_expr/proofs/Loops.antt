-- The loops of functions that read lists, and the reading of the combinators as steps.
use Rattle.std.proofs.Common.{◌≡◌, ℕ, zero, suc, ◌+◌, ◌-◌, ◌<◌, Bool, true, false, List, [], ◌∷◌, ◌++◌, length, Option, Some, None, Ok, Err, refl, ap, sym, ◌∙◌, arith, append_assoc}
use Rattle.asl_syn.specs.declared.token.Span.{Span}
use Rattle.asl_syn.specs.declared.tree.Expr.{Expr}
use Rattle.asl_syn.specs.declared.tree.Expr.TheVariants as ex
use Rattle.asl_syn.specs.declared.tree.TypeExpr.{TypeExpr}
use Rattle.asl_syn.specs.declared.tree.PlacedSuffix.{PlacedSuffix}
use Rattle.asl_grammar.specs.declared.kinds.Kind.TheVariants as kind
use Rattle.asl_grammar.specs.grammar.Kinds.{kind_of}
use Rattle.asl_grammar.specs.grammar.Operators.{binary_of}
use Rattle.asl_grammar.specs.grammar.Cursor.{Lexeme, Cursor, Kinds, Extent, starts, extent, span_to}
use Rattle.asl_grammar.specs.grammar.Combinators.{opens, tok, seq, either, opt, many, by, spanned, trail, costs}
use Rattle.asl_grammar.specs.grammar.Reader.{first, pick, Outcome, refused, bind, run_tok, run_opens, run_many, run_item, run_trail, run_costs}
use Rattle.asl_grammar.specs.grammar.Build.{seconds, Link, linked, chained, as_chained, suffix_on, suffixed}
use Rattle.asl_grammar.specs.grammar.Rules.{Rule}
use Rattle.asl_parse_expr.specs.private.Code.{reading, charge, charged, operator_at}

pub bind_bind : {A B C : Type 0} (o : Outcome A) (f : A → Cursor → Outcome B) (g : B → Cursor → Outcome C) → bind (bind o f) g ≡ bind o (λ a mid. bind (f a mid) g)
bind_bind (Ok r) f g = refl
bind_bind (Err e) f g = refl

pub bind_same : {A B : Type 0} (o : Outcome A) (f g : A → Cursor → Outcome B) → ((a : A) (mid : Cursor) → f a mid ≡ g a mid) → bind o f ≡ bind o g
bind_same (Ok r) f g h = h r.0 r.1
bind_same (Err e) f g h = refl

pub bind_done : {A : Type 0} (o : Outcome A) → bind o (λ x end. Ok (x, end)) ≡ o
bind_done (Ok r) = refl
bind_done (Err e) = refl

pub one_more : {X : Type 0} {x : X} (f : ℕ → X) (n at : ℕ) → at < n → x ≡ f (n - at) → x ≡ f (suc (n - (at + 1)))
one_more f n at below e = let turn : n - at ≡ suc (n - (at + 1)) = omega arith in e ∙ ap f turn

-- ---- what may be left out, and choices

optional_at : {A B : Type 0} (b : Bool) (o : Outcome A) (st : Cursor) (k : Option A → Cursor → Outcome B) (X : Outcome B) → bind o (λ x end. k (Some x) end) ≡ X → bind (pick b (bind o (λ x end. Ok (Some x, end))) (Ok (None, st))) k ≡ pick b X (k None st)
optional_at true (Ok r) st k X h = h
optional_at true (Err e) st k X h = h
optional_at false o st k X h = refl

pub optional_as : {A B : Type 0} (d : ℕ) (p : Rule A) (st : Cursor) (k : Option A → Cursor → Outcome B) (X : Outcome B) → bind (reading d p st) (λ x end. k (Some x) end) ≡ X
    → bind (reading d (opt p) st) k ≡ pick (starts (first p) st.toks) X (k None st)
optional_as d p st k X h = optional_at (starts (first p) st.toks) (reading d p st) st k X h

pub optional_plain : {A : Type 0} (d : ℕ) (p : Rule A) (st : Cursor) (X : Outcome (Option A)) → bind (reading d p st) (λ x end. Ok (Some x, end)) ≡ X
    → reading d (opt p) st ≡ pick (starts (first p) st.toks) X (Ok (None, st))
optional_plain d p st X h = ap (λ o. pick (starts (first p) st.toks) o (Ok (None, st))) h

choice_at : {A B : Type 0} (b : Bool) (x y : Outcome A) (k : A → Cursor → Outcome B) (X Y : Outcome B) → bind x k ≡ X → bind y k ≡ Y → bind (pick b x y) k ≡ pick b X Y
choice_at true x y k X Y h i = h
choice_at false x y k X Y h i = i

pub choice_as : {A B : Type 0} (d : ℕ) (p q : Rule A) (st : Cursor) (k : A → Cursor → Outcome B) (X Y : Outcome B) → bind (reading d p st) k ≡ X → bind (reading d q st) k ≡ Y
    → bind (reading d (either p q) st) k ≡ pick (starts (first p) st.toks) X Y
choice_as d p q st k X Y h i = choice_at (starts (first p) st.toks) (reading d p st) (reading d q st) k X Y h i

-- ---- items one after the other

abbrev pub run_items : {A : Type 0} → (Cursor → Outcome A) → Kinds → ℕ → List A → Cursor → Outcome (List A)
run_items p F zero found st = Ok (found, st)
run_items p F (suc n) found st = pick (starts F st.toks) (bind (p st) (λ x end. run_items p F n (found ++ x ∷ []) end)) (Ok (found, st))

nil_behind : {A : Type 0} (xs : List A) → xs ++ [] ≡ xs
nil_behind [] = refl
nil_behind (x ∷ xs) = ap (λ ys. x ∷ ys) (nil_behind xs)

grown : {A : Type 0} (found : List A) (x : A) (o : Outcome (List A)) → bind (bind o (λ xs end. Ok (x ∷ xs, end))) (λ xs end. Ok (found ++ xs, end)) ≡ bind o (λ xs end. Ok ((found ++ x ∷ []) ++ xs, end))
grown found x (Ok r) = ap (λ ys. Ok (ys, r.1)) (sym (append_assoc found (x ∷ []) r.0))
grown found x (Err e) = refl

items_step : {A : Type 0} (found : List A) (st : Cursor) (b : Bool) (o : Outcome A) (rest : Cursor → Outcome (List A)) (next : List A → Cursor → Outcome (List A)) → ((found : List A) (c : Cursor) → bind (rest c) (λ xs end. Ok (found ++ xs, end)) ≡ next found c)
    → bind (pick b (bind o (λ x mid. bind (rest mid) (λ xs end. Ok (x ∷ xs, end)))) (Ok ([], st))) (λ xs end. Ok (found ++ xs, end)) ≡ pick b (bind o (λ x end. next (found ++ x ∷ []) end)) (Ok (found, st))
items_step found st false o rest next ih = ap (λ xs. Ok (xs, st)) (nil_behind found)
items_step found st true (Err e) rest next ih = refl
items_step found st true (Ok r) rest next ih = grown found r.0 (rest r.1) ∙ ih (found ++ r.0 ∷ []) r.1

items_from : {A : Type 0} (p : Cursor → Outcome A) (F : Kinds) (n : ℕ) (found : List A) (st : Cursor) → bind (run_many p F n st) (λ xs end. Ok (found ++ xs, end)) ≡ run_items p F n found st
items_from p F zero found st = ap (λ xs. Ok (xs, st)) (nil_behind found)
items_from p F (suc n) found st = items_step found st (starts F st.toks) (p st) (run_many p F n) (run_items p F n) (items_from p F n)

pub items_are : {A : Type 0} (d : ℕ) (p : Rule A) (st : Cursor) → reading d (many p) st ≡ run_items (reading d p) (first p) (length st.toks) [] st
items_are d p st = sym (bind_done (reading d (many p) st)) ∙ items_from (reading d p) (first p) (length st.toks) [] st

-- ---- suffixes, put on an expression

abbrev pub run_suffixed : (Cursor → Outcome PlacedSuffix) → Kinds → Span → ℕ → Expr → Cursor → Outcome Expr
run_suffixed p F from zero left st = Ok (left, st)
run_suffixed p F from (suc n) left st = pick (starts F st.toks) (bind (p st) (λ x end. run_suffixed p F from n (suffix_on (span_to from x.end) left x.suffix) end)) (Ok (left, st))

suffixed_step : (from : Span) (left : Expr) (st : Cursor) (b : Bool) (o : Outcome PlacedSuffix) (rest : Cursor → Outcome (List PlacedSuffix)) (next : Expr → Cursor → Outcome Expr) → ((left : Expr) (c : Cursor) → bind (rest c) (λ xs end. Ok (suffixed from left xs, end)) ≡ next left c)
    → bind (pick b (bind o (λ x mid. bind (rest mid) (λ xs end. Ok (x ∷ xs, end)))) (Ok ([], st))) (λ xs end. Ok (suffixed from left xs, end)) ≡ pick b (bind o (λ x end. next (suffix_on (span_to from x.end) left x.suffix) end)) (Ok (left, st))
suffixed_step from left st false o rest next ih = refl
suffixed_step from left st true (Err e) rest next ih = refl
suffixed_step from left st true (Ok r) rest next ih = bind_bind (rest r.1) (λ xs end. Ok (r.0 ∷ xs, end)) (λ xs end. Ok (suffixed from left xs, end)) ∙ ih (suffix_on (span_to from r.0.end) left r.0.suffix) r.1

pub suffixed_are : (p : Cursor → Outcome PlacedSuffix) (F : Kinds) (from : Span) (n : ℕ) (left : Expr) (st : Cursor) → bind (run_many p F n st) (λ xs end. Ok (suffixed from left xs, end)) ≡ run_suffixed p F from n left st
suffixed_are p F from zero left st = refl
suffixed_are p F from (suc n) left st = suffixed_step from left st (starts F st.toks) (p st) (run_many p F n) (run_suffixed p F from n) (suffixed_are p F from n)

-- ---- chains of operators

abbrev pub run_chain : (Cursor → Outcome Expr) → Kinds → Kinds → Span → ℕ → Expr → Cursor → Outcome Expr
run_chain p ops F from zero left st = Ok (left, st)
run_chain p ops F from (suc n) left st = pick (starts F st.toks)
    (bind (operator_at ops st) (λ o m. bind (p m) (λ e end. run_chain p ops F from n (ex.Binary (span_to from end.last) o left e) end)))
    (Ok (left, st))

abbrev link_at : (Cursor → Outcome Expr) → Kinds → Cursor → Outcome Link
link_at p ops st = bind (run_opens ops st.left st.toks) (λ a mid. bind (bind (p mid) (λ x end. Ok ((x, extent mid.toks end.last), end))) (λ b end. Ok ((a, b), end)))

chain_operand : (from : Span) (left : Expr) (t : Lexeme) (m : Cursor) (o : Outcome Expr) (rest : Cursor → Outcome (List Link)) (next : Expr → Cursor → Outcome Expr) → ((left : Expr) (c : Cursor) → bind (rest c) (λ xs end. Ok (chained from left xs, end)) ≡ next left c)
    → bind (bind (bind {B = Link} (bind o (λ x end. Ok ((x, extent m.toks end.last), end))) (λ b end. Ok ((t, b), end))) (λ x mid. bind (rest mid) (λ xs end. Ok (x ∷ xs, end)))) (λ xs end. Ok (chained from left xs, end)) ≡ bind o (λ e end. next (linked from left (t, (e, extent m.toks end.last))) end)
chain_operand from left t m (Err e) rest next ih = refl
chain_operand from left t m (Ok r) rest next ih = bind_bind (rest r.1) (λ xs end. Ok ((t, (r.0, extent m.toks r.1.last)) ∷ xs, end)) (λ xs end. Ok (chained from left xs, end)) ∙ ih (linked from left (t, (r.0, extent m.toks r.1.last))) r.1

chain_step : (p : Cursor → Outcome Expr) (from : Span) (left : Expr) (st : Cursor) (b : Bool) (o : Outcome Lexeme) (rest : Cursor → Outcome (List Link)) (next : Expr → Cursor → Outcome Expr) → ((left : Expr) (c : Cursor) → bind (rest c) (λ xs end. Ok (chained from left xs, end)) ≡ next left c)
    → bind (pick b (bind (bind {B = Link} o (λ a mid. bind (bind (p mid) (λ x end. Ok ((x, extent mid.toks end.last), end))) (λ b end. Ok ((a, b), end)))) (λ x mid. bind (rest mid) (λ xs end. Ok (x ∷ xs, end)))) (Ok ([], st))) (λ xs end. Ok (chained from left xs, end))
    ≡ pick b (bind (bind o (λ t m. Ok (binary_of (kind_of t.kind), m))) (λ o m. bind (p m) (λ e end. next (ex.Binary (span_to from end.last) o left e) end))) (Ok (left, st))
chain_step p from left st false o rest next ih = refl
chain_step p from left st true (Err e) rest next ih = refl
chain_step p from left st true (Ok r) rest next ih = chain_operand from left r.0 r.1 (p r.1) rest next ih

chain_from : (p : Cursor → Outcome Expr) (ops F : Kinds) (from : Span) (n : ℕ) (left : Expr) (st : Cursor) → bind (run_many (link_at p ops) F n st) (λ xs end. Ok (chained from left xs, end)) ≡ run_chain p ops F from n left st
unfolding operator_at
chain_from p ops F from zero left st = refl
chain_from p ops F from (suc n) left st = chain_step p from left st (starts F st.toks) (run_opens ops st.left st.toks) (run_many (link_at p ops) F n) (run_chain p ops F from n) (chain_from p ops F from n)

pub chain_is : (d : ℕ) (p : Rule Expr) (ops : Kinds) (from : Span) (left : Expr) (st : Cursor) → bind (reading d (many (seq (opens ops) (spanned p))) st) (λ x end. Ok (chained from left x, end)) ≡ run_chain (reading d p) ops (ops ++ []) from (length st.toks) left st
chain_is d p ops from left st = chain_from (reading d p) ops (ops ++ []) from (length st.toks) left st

-- ---- chains of `as`

abbrev pub run_as_chain : (Cursor → Outcome TypeExpr) → Span → ℕ → Expr → Cursor → Outcome Expr
run_as_chain p from zero left st = Ok (left, st)
run_as_chain p from (suc n) left st = pick (starts (kind.As ∷ []) st.toks)
    (bind (run_opens (kind.As ∷ []) st.left st.toks) (λ t m. bind (p m) (λ e end. run_as_chain p from n (ex.As (span_to from end.last) left e) end)))
    (Ok (left, st))

abbrev as_link_at : (Cursor → Outcome TypeExpr) → Cursor → Outcome (TypeExpr × Extent)
as_link_at p st = bind {A = Lexeme × (TypeExpr × Extent)} (bind (run_opens (kind.As ∷ []) st.left st.toks) (λ a mid. bind (bind (p mid) (λ x end. Ok ((x, extent mid.toks end.last), end))) (λ b end. Ok ((a, b), end)))) (λ r end. Ok (r.1, end))

as_operand : (from : Span) (left : Expr) (t : Lexeme) (m : Cursor) (o : Outcome TypeExpr) (rest : Cursor → Outcome (List (TypeExpr × Extent))) (next : Expr → Cursor → Outcome Expr) → ((left : Expr) (c : Cursor) → bind (rest c) (λ xs end. Ok (as_chained from left xs, end)) ≡ next left c)
    → bind (bind (bind {A = Lexeme × (TypeExpr × Extent)} (bind (bind o (λ x end. Ok ((x, extent m.toks end.last), end))) (λ b end. Ok ((t, b), end))) (λ r end. Ok (r.1, end))) (λ x mid. bind (rest mid) (λ xs end. Ok (x ∷ xs, end)))) (λ xs end. Ok (as_chained from left xs, end)) ≡ bind o (λ e end. next (ex.As (span_to from end.last) left e) end)
as_operand from left t m (Err e) rest next ih = refl
as_operand from left t m (Ok r) rest next ih = bind_bind (rest r.1) (λ xs end. Ok ((r.0, extent m.toks r.1.last) ∷ xs, end)) (λ xs end. Ok (as_chained from left xs, end)) ∙ ih (ex.As (span_to from r.1.last) left r.0) r.1

as_step : (p : Cursor → Outcome TypeExpr) (from : Span) (left : Expr) (st : Cursor) (b : Bool) (o : Outcome Lexeme) (rest : Cursor → Outcome (List (TypeExpr × Extent))) (next : Expr → Cursor → Outcome Expr) → ((left : Expr) (c : Cursor) → bind (rest c) (λ xs end. Ok (as_chained from left xs, end)) ≡ next left c)
    → bind (pick b (bind (bind {A = Lexeme × (TypeExpr × Extent)} (bind o (λ a mid. bind (bind (p mid) (λ x end. Ok ((x, extent mid.toks end.last), end))) (λ b end. Ok ((a, b), end)))) (λ r end. Ok (r.1, end))) (λ x mid. bind (rest mid) (λ xs end. Ok (x ∷ xs, end)))) (Ok ([], st))) (λ xs end. Ok (as_chained from left xs, end))
    ≡ pick b (bind o (λ t m. bind (p m) (λ e end. next (ex.As (span_to from end.last) left e) end))) (Ok (left, st))
as_step p from left st false o rest next ih = refl
as_step p from left st true (Err e) rest next ih = refl
as_step p from left st true (Ok r) rest next ih = as_operand from left r.0 r.1 (p r.1) rest next ih

as_from : (p : Cursor → Outcome TypeExpr) (from : Span) (n : ℕ) (left : Expr) (st : Cursor) → bind (run_many (as_link_at p) (kind.As ∷ []) n st) (λ xs end. Ok (as_chained from left xs, end)) ≡ run_as_chain p from n left st
as_from p from zero left st = refl
as_from p from (suc n) left st = as_step p from left st (starts (kind.As ∷ []) st.toks) (run_opens (kind.As ∷ []) st.left st.toks) (run_many (as_link_at p) (kind.As ∷ []) n) (run_as_chain p from n) (as_from p from n)

pub as_chain_are : (d : ℕ) (p : Rule TypeExpr) (from : Span) (left : Expr) (st : Cursor) → bind (reading d (many (by (λ r. r.1) (seq (opens (kind.As ∷ [])) (spanned p)))) st) (λ x end. Ok (as_chained from left x, end)) ≡ run_as_chain (reading d p) from (length st.toks) left st
as_chain_are d p from left st = as_from (reading d p) from (length st.toks) left st

-- ---- items behind commas

abbrev pub run_more : {A : Type 0} → (Cursor → Outcome A) → ℕ → List A → Cursor → Outcome (List A)
run_more p zero found st = Ok (found, st)
run_more p (suc n) found st = pick (starts (kind.Comma ∷ []) st.toks) (bind (run_tok (kind.Comma ∷ []) st st.toks) (λ t mid. bind (p mid) (λ x end. run_more p n (found ++ x ∷ []) end))) (Ok (found, st))

abbrev comma_at : {A : Type 0} → (Cursor → Outcome A) → Cursor → Outcome (Lexeme × A)
comma_at p st = bind (run_tok (kind.Comma ∷ []) st st.toks) (λ a mid. bind (p mid) (λ b end. Ok ((a, b), end)))

more_item : {A : Type 0} (found : List A) (t : Lexeme) (o : Outcome A) (rest : Cursor → Outcome (List (Lexeme × A))) (next : List A → Cursor → Outcome (List A)) → ((found : List A) (c : Cursor) → bind (rest c) (λ xs end. Ok (found ++ seconds xs, end)) ≡ next found c)
    → bind (bind (bind {B = Lexeme × A} o (λ b end. Ok ((t, b), end))) (λ x mid. bind (rest mid) (λ xs end. Ok (x ∷ xs, end)))) (λ xs end. Ok (found ++ seconds xs, end)) ≡ bind o (λ x end. next (found ++ x ∷ []) end)
more_item found t (Err e) rest next ih = refl
more_item found t (Ok q) rest next ih =
    bind_bind (rest q.1) (λ xs end. Ok ((t, q.0) ∷ xs, end)) (λ xs end. Ok (found ++ seconds xs, end))
    ∙ bind_same (rest q.1) _ _ (λ xs end. ap (λ ys. Ok (ys, end)) (sym (append_assoc found (q.0 ∷ []) (seconds xs))))
    ∙ ih (found ++ q.0 ∷ []) q.1

more_step : {A : Type 0} (p : Cursor → Outcome A) (found : List A) (st : Cursor) (b : Bool) (o : Outcome Lexeme) (rest : Cursor → Outcome (List (Lexeme × A))) (next : List A → Cursor → Outcome (List A)) → ((found : List A) (c : Cursor) → bind (rest c) (λ xs end. Ok (found ++ seconds xs, end)) ≡ next found c)
    → bind (pick b (bind (bind {B = Lexeme × A} o (λ a mid. bind (p mid) (λ b end. Ok ((a, b), end)))) (λ x mid. bind (rest mid) (λ xs end. Ok (x ∷ xs, end)))) (Ok ([], st))) (λ xs end. Ok (found ++ seconds xs, end)) ≡ pick b (bind o (λ t mid. bind (p mid) (λ x end. next (found ++ x ∷ []) end))) (Ok (found, st))
more_step p found st false o rest next ih = ap (λ xs. Ok (xs, st)) (nil_behind found)
more_step p found st true (Err e) rest next ih = refl
more_step p found st true (Ok r) rest next ih = more_item found r.0 (p r.1) rest next ih

more_from : {A : Type 0} (p : Cursor → Outcome A) (n : ℕ) (found : List A) (st : Cursor) → bind (run_many (comma_at p) (kind.Comma ∷ []) n st) (λ xs end. Ok (found ++ seconds xs, end)) ≡ run_more p n found st
more_from p zero found st = ap (λ xs. Ok (xs, st)) (nil_behind found)
more_from p (suc n) found st = more_step p found st (starts (kind.Comma ∷ []) st.toks) (run_tok (kind.Comma ∷ []) st st.toks) (run_many (comma_at p) (kind.Comma ∷ []) n) (run_more p n) (more_from p n)

pub more_are : {A : Type 0} (d : ℕ) (p : Rule A) (found : List A) (st : Cursor) → bind (reading d (by seconds (many (seq (tok (kind.Comma ∷ [])) p))) st) (λ xs end. Ok (found ++ xs, end)) ≡ run_more (reading d p) (length st.toks) found st
more_are d p found st = bind_bind (reading d (many (seq (tok (kind.Comma ∷ [])) p)) st) _ _ ∙ more_from (reading d p) (length st.toks) found st

commas_from : {A : Type 0} (o : Outcome A) (rest : ℕ → Cursor → Outcome (List (Lexeme × A))) (next : ℕ → List A → Cursor → Outcome (List A))
    → ((n : ℕ) (found : List A) (st : Cursor) → bind (rest n st) (λ xs end. Ok (found ++ seconds xs, end)) ≡ next n found st)
    → bind {A = A × List (Lexeme × A)} (bind o (λ a mid. bind (rest (length mid.toks) mid) (λ b end. Ok ((a, b), end)))) (λ r end. Ok (r.0 ∷ seconds r.1, end)) ≡ bind o (λ a mid. next (length mid.toks) (a ∷ []) mid)
commas_from (Err e) rest next ih = refl
commas_from (Ok q) rest next ih = bind_bind (rest (length q.1.toks) q.1) (λ b end. Ok ((q.0, b), end)) _ ∙ ih (length q.1.toks) (q.0 ∷ []) q.1

pub commas_are : {A : Type 0} (d : ℕ) (p : Rule A) (st : Cursor) → reading d (by (λ r. r.0 ∷ seconds r.1) (seq p (many (seq (tok (kind.Comma ∷ [])) p)))) st ≡ bind (reading d p st) (λ x mid. run_more (reading d p) (length mid.toks) (x ∷ []) mid)
commas_are d p st = commas_from (reading d p st) (run_many (comma_at (reading d p)) (kind.Comma ∷ [])) (run_more (reading d p)) (more_from (reading d p))

-- ---- a list with separators and maybe one more

abbrev pub run_listed : {A : Type 0} → (Cursor → Outcome A) → Kinds → Kinds → ℕ → List A → Cursor → Outcome (List A)
run_listed p cs F zero found st = Ok (found, st)
run_listed p cs F (suc n) found st = pick (starts cs st.toks)
    (bind (run_tok cs st st.toks) (λ t mid. pick (starts F mid.toks) (bind (p mid) (λ x end. run_listed p cs F n (found ++ x ∷ []) end)) (Ok (found, mid))))
    (Ok (found, st))

abbrev Rest : Type 0 → Type 0
Rest A = List (Lexeme × A) × Option Lexeme

listed_item : {A : Type 0} (found : List A) (t : Lexeme) (o : Outcome A) (rest : Cursor → Outcome (Rest A)) (next : List A → Cursor → Outcome (List A)) → ((found : List A) (st : Cursor) → bind (rest st) (λ r end. Ok (found ++ seconds r.0, end)) ≡ next found st)
    → bind (bind {B = Rest A} o (λ x m. bind (rest m) (λ r end. Ok (((t, x) ∷ r.0, r.1), end)))) (λ r end. Ok (found ++ seconds r.0, end)) ≡ bind o (λ x end. next (found ++ x ∷ []) end)
listed_item found t (Err e) rest next ih = refl
listed_item found t (Ok q) rest next ih =
    bind_bind (rest q.1) (λ r end. Ok (((t, q.0) ∷ r.0, r.1), end)) (λ r end. Ok (found ++ seconds r.0, end))
    ∙ bind_same (rest q.1) _ _ (λ r end. ap (λ ys. Ok (ys, end)) (sym (append_assoc found (q.0 ∷ []) (seconds r.0))))
    ∙ ih (found ++ q.0 ∷ []) q.1

listed_pick : {A : Type 0} (found : List A) (s : Option Lexeme) (st : Cursor) (b : Bool) (x : Outcome (Rest A)) (y : Outcome (List A)) → bind x (λ r end. Ok (found ++ seconds r.0, end)) ≡ y → bind (pick b x (Ok (([], s), st))) (λ r end. Ok (found ++ seconds r.0, end)) ≡ pick b y (Ok (found, st))
listed_pick found s st true x y h = h
listed_pick found s st false x y h = ap (λ xs. Ok (xs, st)) (nil_behind found)

listed_sep : {A : Type 0} (found : List A) (o : Outcome Lexeme) (f : Lexeme → Cursor → Outcome (Rest A)) (g : Lexeme → Cursor → Outcome (List A)) → ((t : Lexeme) (mid : Cursor) → bind (f t mid) (λ r end. Ok (found ++ seconds r.0, end)) ≡ g t mid)
    → bind (bind o f) (λ r end. Ok (found ++ seconds r.0, end)) ≡ bind o g
listed_sep found (Ok r) f g h = h r.0 r.1
listed_sep found (Err e) f g h = refl

trail_are : {A : Type 0} (p : Cursor → Outcome A) (cs F : Kinds) (n : ℕ) (found : List A) (st : Cursor) → bind (run_trail cs p F n st) (λ r end. Ok (found ++ seconds r.0, end)) ≡ run_listed p cs F n found st
trail_are p cs F zero found st = ap (λ xs. Ok (xs, st)) (nil_behind found)
trail_are p cs F (suc n) found st = listed_pick found None st (starts cs st.toks) _ _
    (listed_sep found (run_tok cs st st.toks) (λ t mid. run_item p F (run_trail cs p F n) t mid) _
    (λ t mid. listed_pick found (Some t) mid (starts F mid.toks) _ _ (listed_item found t (p mid) (run_trail cs p F n) (run_listed p cs F n) (trail_are p cs F n))))

listed_from : {A : Type 0} (o : Outcome A) (rest : ℕ → Cursor → Outcome (Rest A)) (next : ℕ → List A → Cursor → Outcome (List A))
    → ((n : ℕ) (found : List A) (st : Cursor) → bind (rest n st) (λ r end. Ok (found ++ seconds r.0, end)) ≡ next n found st)
    → bind {A = A × Rest A} (bind o (λ a mid. bind (rest (length mid.toks) mid) (λ b end. Ok ((a, b), end)))) (λ r end. Ok (r.0 ∷ seconds r.1.0, end)) ≡ bind o (λ a mid. next (length mid.toks) (a ∷ []) mid)
listed_from (Err e) rest next ih = refl
listed_from (Ok q) rest next ih = bind_bind (rest (length q.1.toks) q.1) (λ b end. Ok ((q.0, b), end)) _ ∙ ih (length q.1.toks) (q.0 ∷ []) q.1

pub listed_are : {A : Type 0} (d : ℕ) (p : Rule A) (cs : Kinds) (st : Cursor) → reading d (by (λ r. r.0 ∷ seconds r.1.0) (seq p (trail cs p))) st ≡ bind (reading d p st) (λ x mid. run_listed (reading d p) cs (first p) (length mid.toks) (x ∷ []) mid)
listed_are d p cs st = listed_from (reading d p st) (run_trail cs (reading d p) (first p)) (run_listed (reading d p) cs (first p)) (λ n. trail_are (reading d p) cs (first p) n)

-- ---- a level more

costs_at : {A : Type 0} (late : Bool) (p : Cursor → Outcome A) (st : Cursor) (left : ℕ) → run_costs late p st left ≡ bind (charged late st left) (λ u mid. p mid)
costs_at late p st zero = refl
costs_at late p st (suc l) = refl

costs_pick : {A : Type 0} (b : Bool) (x : Outcome A) (o : Outcome (Unit {0})) (ts : List Lexeme) (f : Unit {0} → Cursor → Outcome A) → x ≡ bind o f → pick b x (refused ts) ≡ bind (pick b o (refused ts)) f
costs_pick true x o ts f h = h
costs_pick false x o ts f h = refl

pub costs_is : {A : Type 0} (d : ℕ) (late : Bool) (p : Rule A) (st : Cursor) → reading d (costs late p) st ≡ bind (charge (first p) late st) (λ u mid. reading d p mid)
costs_is d late p st = costs_pick (starts (first p) st.toks) _ _ st.toks _ (costs_at late (reading d p) st st.left)
