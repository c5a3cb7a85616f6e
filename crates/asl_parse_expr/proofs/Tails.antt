-- Rules whose functions take what was read before, as the steps of these functions.
use Rattle.std.proofs.Common.{◌≡◌, ◌≢◌, ℕ, ◌⊎◌, inl, inr, Bool, true, false, List, [], ◌∷◌, ◌++◌, length, Option, Some, None, Result, Ok, Err, refl, ap, sym, ◌∙◌}
use Rattle.asl_syn.specs.declared.token.Span.{Span}
use Rattle.asl_syn.specs.declared.tree.UnaryOperator.{UnaryOperator}
use Rattle.asl_syn.specs.declared.tree.UnaryOperator.TheVariants as un
use Rattle.asl_syn.specs.declared.tree.Expr.{Expr}
use Rattle.asl_syn.specs.declared.tree.Expr.TheVariants as ex
use Rattle.asl_syn.specs.declared.tree.Ident.{Ident}
use Rattle.asl_syn.specs.declared.tree.FieldValue.{FieldValue}
use Rattle.asl_syn.specs.declared.tree.FieldValue.TheVariants as fv
use Rattle.asl_syn.specs.declared.tree.Pattern.TheVariants as pa
use Rattle.asl_syn.specs.declared.tree.Suffix.{Suffix}
use Rattle.asl_grammar.specs.declared.parts.AfterName.{AfterName}
use Rattle.asl_grammar.specs.declared.parts.AfterName.TheVariants as an
use Rattle.asl_grammar.specs.declared.parts.Braces.{Braces}
use Rattle.asl_grammar.specs.declared.parts.Braces.TheVariants as br
use Rattle.asl_grammar.specs.declared.kinds.Kind.{Kind}
use Rattle.asl_grammar.specs.declared.kinds.Kind.TheVariants as kind
use Rattle.asl_grammar.specs.grammar.Cursor.{Lexeme, Extent, Cursor, Kinds, starts, ahead, span_to, extent}
use Rattle.asl_grammar.specs.grammar.Combinators.{into, opens, seq, either, by, scope, spanned, costs}
use Rattle.asl_grammar.specs.grammar.Reader.{Outcome, bind, pick, first, run_tok, run_opens, run_follows}
use Rattle.asl_grammar.specs.grammar.Build.{Link, Links, behind, linked, chained, compared, logically, as_chained, one_link, or_nil, joined, finished, suffixed, in_on, posted, named_of, after_name_of, prefixed_at, late_of, late_sum_of, late_range_of, pattern_of, minus_pattern_of, bang_pattern_of, braced, parameters_or, empty_or, parameters_from_minus, parameters_from_name, fields_from_name, minus_in_braces_of, name_in_braces_of}
use Rattle.asl_grammar.specs.grammar.Rules.{Rule, Bracketed, Operand, sum, name, literal, integer_literal, bits_literal, boolean_literal, parenthesized, arguments, braces, braces_called, after_braces, maybe_after_name, named, bracket, suffix, suffix_part, dot, suffixes, set_braces, in_clause, post_rest, post_literal, post_parenthesized, post_named, prefixed_by, unary, power_rest, product_rest, sum_rest, comparison_rest, equality, equality_rest, links_by, some_links_by, logic_links, logic_rest, as_rest, rest, more_expressions, late_expression, expression_after_name, other_expression, more_field_values, field_values_after_name, more_parameters, expression, parameters_after_minus, parameters_after_name, minus_alone, after_minus, after_first_name, other_in_braces, sum_rests, late_sum, range_end, late_range, maybe_late_range, minus_pattern, after_bang, bang_pattern}
use Rattle.asl_grammar.specs.declared.error.ParseError.{ParseError}
use Rattle.asl_grammar.specs.declared.error.ParseError.TheVariants.{OutOfMemory}
use Rattle.std.specs.Result.{IsErrAnd}
use Rattle.asl_parse_expr.specs.private.Code.{Met, reading, symbol, charge, operator_at, prefix_at, then, ending}
use Rattle.asl_parse_expr.proofs.Loops.{bind_bind, bind_same, costs_is, run_suffixed, suffixed_are, optional_as, choice_as}

-- ---- brackets and braces

pub bracket_is : (d : ℕ) (st : Cursor) → reading d bracket st ≡ bind (charge (kind.OpenBracket ∷ []) false st) (λ u m. bind (run_opens (kind.OpenBracket ∷ []) m.left m.toks) (λ t m1. bind (symbol d Bracketed m1) (λ x end. Ok (x, record end { left = m.left }))))
unfolding bracket
bracket_is d st = ap (λ (o : Outcome (Lexeme × Suffix)). bind o (λ r end. Ok (r.1, end))) (costs_is d false (scope (into (kind.OpenBracket ∷ []) Bracketed)) st) ∙ simp bind_bind

-- what stands in the braces says what follows them
abbrev pub after_braces_go : (Cursor → Outcome (List Expr)) → Braces → Cursor → Outcome AfterName
after_braces_go p br.Empty mid = pick (starts (kind.OpenParen ∷ []) mid.toks) (bind (p mid) (λ xs end. Ok (an.Called [] xs, end))) (Ok (an.Built [], mid))
after_braces_go p (br.Fields fs) mid = Ok (an.Built fs, mid)
after_braces_go p (br.Parameters ps) mid = bind (p mid) (λ xs end. Ok (an.Called ps xs, end))

abbrev run_maybe : (Cursor → Outcome (List Expr)) → Cursor → Outcome (Option (List Expr))
run_maybe p mid = pick (starts (kind.OpenParen ∷ []) mid.toks) (bind (p mid) (λ x end. Ok (Some x, end))) (Ok (None, mid))

empty_braces : (b : Bool) (o : Outcome (List Expr)) (mid : Cursor) → bind (bind {B = AfterName ⊎ (List FieldValue × Option (List Expr))} (pick b (bind o (λ x end. Ok (Some x, end))) (Ok (None, mid))) (λ c end. Ok (inr ([], c), end))) (λ x end. Ok (braced x, end)) ≡ pick b (bind o (λ xs end. Ok (an.Called [] xs, end))) (Ok (an.Built [], mid))
empty_braces true (Ok r) mid = refl
empty_braces true (Err e) mid = refl
empty_braces false o mid = refl

with_parameters : (ps : List Expr) (o : Outcome (List Expr)) (p : Cursor → Outcome (Option (List Expr))) → bind {A = AfterName ⊎ (List FieldValue × Option (List Expr))} (bind (bind (bind {B = Option (List FieldValue) ⊎ (List Expr × List Expr)} o (λ c end. Ok (inr (ps, c), end))) (λ x end. Ok (empty_or x, end))) (λ x mid. run_follows p x mid)) (λ x end. Ok (braced x, end)) ≡ bind o (λ xs end. Ok (an.Called ps xs, end))
with_parameters ps (Ok r) p = refl
with_parameters ps (Err e) p = refl

one_braces : (p : Cursor → Outcome (List Expr)) (x : Braces) (mid : Cursor) → bind {A = AfterName ⊎ (List FieldValue × Option (List Expr))} (bind (bind (run_follows p (parameters_or x) mid) (λ x end. Ok (empty_or x, end))) (λ x mid. run_follows (run_maybe p) x mid)) (λ x end. Ok (braced x, end)) ≡ after_braces_go p x mid
one_braces p br.Empty mid = empty_braces (starts (kind.OpenParen ∷ []) mid.toks) (p mid) mid
one_braces p (br.Fields fs) mid = refl
one_braces p (br.Parameters ps) mid = with_parameters ps (p mid) (run_maybe p)

braces_at : (p : Cursor → Outcome (List Expr)) (o : Outcome Braces) → bind {A = AfterName ⊎ (List FieldValue × Option (List Expr))} (bind (bind (bind (bind o (λ x end. Ok (parameters_or x, end))) (λ x mid. run_follows p x mid)) (λ x end. Ok (empty_or x, end))) (λ x mid. run_follows (run_maybe p) x mid)) (λ x end. Ok (braced x, end)) ≡ bind o (after_braces_go p)
braces_at p (Ok r) = one_braces p r.0 r.1
braces_at p (Err e) = refl

pub after_braces_is : (d : ℕ) (st : Cursor) → reading d after_braces st ≡ bind (reading d braces st) (after_braces_go (reading d arguments))
unfolding after_braces braces_called arguments
after_braces_is d st = braces_at (reading d arguments) (reading d braces st)

-- ---- chains

chained_more : (from : Span) (e : Expr) (xs ys : Links) → chained from e (xs ++ ys) ≡ chained from (chained from e xs) ys
chained_more from e [] ys = refl
chained_more from e (x ∷ xs) ys = chained_more from (linked from e x) xs ys

one_compared : (from : Span) (e : Expr) (x : Option Link) (ys : Links) → chained from e (one_link x ++ ys) ≡ chained from (compared from e x) ys
one_compared from e None ys = refl
one_compared from e (Some x) ys = refl

some_logically : (from : Span) (e : Expr) (x : Option Links) → chained from e (or_nil x) ≡ logically from e x
some_logically from e None = refl
some_logically from e (Some xs) = refl

pub some_links_by_is : (d : ℕ) (operator : Kind) (from : Span) (left : Expr) (st : Cursor) → then (chained from left) (reading d (some_links_by operator) st)
    ≡ bind (operator_at (operator ∷ []) st) (λ o m. bind (reading d equality m) (λ e m1. then (chained from (ex.Binary (span_to from m1.last) o left e)) (reading d (links_by operator) m1)))
unfolding some_links_by then operator_at
some_links_by_is d operator from left st = simp bind_bind

pub prefixed_by_is : (d : ℕ) (operators : Kinds) (st : Cursor) → reading d (prefixed_by operators) st
    ≡ bind (prefix_at operators st) (λ o m. bind (symbol d Operand m) (λ x m1. Ok (ex.Unary (span_to (ahead st.toks) m1.last) o x, m1)))
unfolding prefixed_by prefix_at
prefixed_by_is d operators st = simp bind_bind

pub comparison_rest_is : (d : ℕ) (from : Span) (left : Expr) (st : Cursor) → then (compared from left) (reading d comparison_rest st)
    ≡ pick (starts (kind.Less ∷ kind.LessEqual ∷ kind.Greater ∷ kind.GreaterEqual ∷ []) st.toks)
    (bind (operator_at (kind.Less ∷ kind.LessEqual ∷ kind.Greater ∷ kind.GreaterEqual ∷ []) st) (λ o m. bind (reading d sum m) (λ e m1. Ok (ex.Binary (span_to from m1.last) o left e, m1)))) (Ok (left, st))
unfolding comparison_rest then operator_at
comparison_rest_is d from left st = optional_as d (seq (opens (kind.Less ∷ kind.LessEqual ∷ kind.Greater ∷ kind.GreaterEqual ∷ [])) (spanned sum)) st (λ x end. Ok (compared from left x, end)) _ (simp bind_bind)

pub logic_links_is : (d : ℕ) (from : Span) (left : Expr) (st : Cursor) → then (chained from left) (reading d logic_links st)
    ≡ pick (starts (kind.AndAnd ∷ []) st.toks) (then (chained from left) (reading d (some_links_by kind.AndAnd) st))
    (pick (starts (kind.OrOr ∷ []) st.toks) (then (chained from left) (reading d (some_links_by kind.OrOr) st))
    (pick (starts (kind.Implies ∷ []) st.toks) (then (chained from left) (reading d (some_links_by kind.Implies) st))
    (then (chained from left) (reading d (some_links_by kind.Iff) st))))
unfolding logic_links some_links_by then
logic_links_is d from left st = choice_as d (some_links_by kind.AndAnd) (either (some_links_by kind.OrOr) (either (some_links_by kind.Implies) (some_links_by kind.Iff))) st (λ x end. Ok (chained from left x, end)) _ _ refl
    (choice_as d (some_links_by kind.OrOr) (either (some_links_by kind.Implies) (some_links_by kind.Iff)) st (λ x end. Ok (chained from left x, end)) _ _ refl
    (choice_as d (some_links_by kind.Implies) (some_links_by kind.Iff) st (λ x end. Ok (chained from left x, end)) _ _ refl refl))

-- what was read becomes something before the next part is read
fold_first : {A D E : Type 0} (o : Outcome A) (g : A → D) (F : A → Cursor → Outcome E) (G : D → Cursor → Outcome E) → ((a : A) (m : Cursor) → F a m ≡ G (g a) m) → bind o F ≡ bind (then g o) G
unfolding then
fold_first (Ok r) g F G h = h r.0 r.1
fold_first (Err e) g F G h = refl

chained_three : (from : Span) (left : Expr) (a b c : Links) → chained from left (a ++ (b ++ c)) ≡ chained from (chained from (chained from left a) b) c
chained_three from left a b c = chained_more from left a (b ++ c) ∙ chained_more from (chained from left a) b c

sum_rests_straight : (d : ℕ) (from : Span) (left : Expr) (st : Cursor) → then (chained from left) (reading d sum_rests st)
    ≡ bind (reading d power_rest st) (λ a m. bind (reading d product_rest m) (λ b m1. bind (reading d sum_rest m1) (λ c end. Ok (chained from left (a ++ (b ++ c)), end))))
unfolding sum_rests then
sum_rests_straight d from left st = simp bind_bind

pub sum_rests_is : (d : ℕ) (from : Span) (left : Expr) (st : Cursor) → then (chained from left) (reading d sum_rests st)
    ≡ bind (then (chained from left) (reading d power_rest st)) (λ e m. bind (then (chained from e) (reading d product_rest m)) (λ e1 m1. then (chained from e1) (reading d sum_rest m1)))
unfolding then
sum_rests_is d from left st = sum_rests_straight d from left st
    ∙ fold_first (reading d power_rest st) (chained from left) _ (λ e m. bind (then (chained from e) (reading d product_rest m)) (λ e1 m1. then (chained from e1) (reading d sum_rest m1)))
    (λ a m. fold_first (reading d product_rest m) (chained from (chained from left a)) _ (λ e1 m1. then (chained from e1) (reading d sum_rest m1))
    (λ b m1. bind_same (reading d sum_rest m1) _ _ (λ c end. ap (λ e. Ok (e, end)) (chained_three from left a b c))))

joined_is : (from : Span) (left : Expr) (a b c : Links) (x : Option Link) (e : Links) (f : Option Links) → chained from left (joined a b c x e f) ≡ logically from (chained from (compared from (chained from (chained from (chained from left a) b) c) x) e) f
joined_is from left a b c x e f =
    chained_more from left a (b ++ (c ++ (one_link x ++ (e ++ or_nil f))))
    ∙ chained_more from (chained from left a) b (c ++ (one_link x ++ (e ++ or_nil f)))
    ∙ chained_more from (chained from (chained from left a) b) c (one_link x ++ (e ++ or_nil f))
    ∙ one_compared from (chained from (chained from (chained from left a) b) c) x (e ++ or_nil f)
    ∙ chained_more from (compared from (chained from (chained from (chained from left a) b) c) x) e (or_nil f)
    ∙ some_logically from (chained from (compared from (chained from (chained from (chained from left a) b) c) x) e) f

rest_straight : (d : ℕ) (from : Span) (left : Expr) (st : Cursor) → then (finished from left) (reading d rest st)
    ≡ bind (reading d power_rest st) (λ a m. bind (reading d product_rest m) (λ b m1. bind (reading d sum_rest m1) (λ c m2. bind (reading d comparison_rest m2) (λ x m3. bind (reading d equality_rest m3) (λ e m4. bind (reading d logic_rest m4) (λ f m5. bind (reading d as_rest m5) (λ g end. Ok (as_chained from (chained from left (joined a b c x e f)) g, end))))))))
unfolding rest then
rest_straight d from left st = simp bind_bind

abbrev rest_as : ℕ → Span → Expr → Cursor → Outcome Expr
rest_as d from e m = then (as_chained from e) (reading d as_rest m)

abbrev rest_logic : ℕ → Span → Expr → Cursor → Outcome Expr
rest_logic d from e m = bind (then (logically from e) (reading d logic_rest m)) (rest_as d from)

abbrev rest_equality : ℕ → Span → Expr → Cursor → Outcome Expr
rest_equality d from e m = bind (then (chained from e) (reading d equality_rest m)) (rest_logic d from)

abbrev rest_comparison : ℕ → Span → Expr → Cursor → Outcome Expr
rest_comparison d from e m = bind (then (compared from e) (reading d comparison_rest m)) (rest_equality d from)

abbrev rest_sum : ℕ → Span → Expr → Cursor → Outcome Expr
rest_sum d from e m = bind (then (chained from e) (reading d sum_rest m)) (rest_comparison d from)

abbrev rest_product : ℕ → Span → Expr → Cursor → Outcome Expr
rest_product d from e m = bind (then (chained from e) (reading d product_rest m)) (rest_sum d from)

pub rest_is : (d : ℕ) (from : Span) (left : Expr) (st : Cursor) → then (finished from left) (reading d rest st) ≡ bind (then (chained from left) (reading d power_rest st)) (rest_product d from)
unfolding then
rest_is d from left st = rest_straight d from left st
    ∙ fold_first (reading d power_rest st) (chained from left) _ (rest_product d from)
    (λ a m. fold_first (reading d product_rest m) (chained from (chained from left a)) _ (rest_sum d from)
    (λ b m1. fold_first (reading d sum_rest m1) (chained from (chained from (chained from left a) b)) _ (rest_comparison d from)
    (λ c m2. fold_first (reading d comparison_rest m2) (compared from (chained from (chained from (chained from left a) b) c)) _ (rest_equality d from)
    (λ x m3. fold_first (reading d equality_rest m3) (chained from (compared from (chained from (chained from (chained from left a) b) c) x)) _ (rest_logic d from)
    (λ e m4. fold_first (reading d logic_rest m4) (logically from (chained from (compared from (chained from (chained from (chained from left a) b) c) x) e)) _ (rest_as d from)
    (λ f m5. bind_same (reading d as_rest m5) _ _ (λ g end. ap (λ y. Ok (as_chained from y g, end)) (joined_is from left a b c x e f))))))))

-- ---- suffixes and `IN`

pub suffixed_is : (d : ℕ) (from : Span) (left : Expr) (st : Cursor) → then (suffixed from left) (reading d suffixes st) ≡ run_suffixed (reading d suffix) (kind.Dot ∷ kind.OpenBracket ∷ []) from (length st.toks) left st
unfolding then suffixes suffix suffix_part dot bracket
suffixed_is d from left st = suffixed_are (reading d suffix) (kind.Dot ∷ kind.OpenBracket ∷ []) from (length st.toks) left st

pub post_rest_is : (d : ℕ) (from : Span) (left : Expr) (st : Cursor) → then (posted from left) (reading d post_rest st) ≡ bind (then (suffixed from left) (reading d suffixes st)) (λ e m. then (in_on from e) (reading d in_clause m))
unfolding post_rest then
post_rest_is d from left st = bind_bind (reading d suffixes st) _ _ ∙ fold_first (reading d suffixes st) (suffixed from left) _ (λ e m. then (in_on from e) (reading d in_clause m))
    (λ a m. bind_bind (reading d in_clause m) _ _)

-- ---- behind a prefix operator or a name that was read

late_first : {A : Type 0} (p : Rule A) → first (seq (spanned unary) p) ≡ kind.Minus ∷ kind.Bang ∷ kind.Not ∷ kind.IntegerLiteral ∷ kind.BitsLiteral ∷ kind.True ∷ kind.False ∷ kind.OpenParen ∷ kind.Name ∷ kind.Getter ∷ kind.Setter ∷ []
unfolding unary prefixed_by post_literal post_parenthesized post_named literal integer_literal bits_literal boolean_literal parenthesized named name
late_first p = refl

late_costs : {A B : Type 0} (d : ℕ) (p : Rule A) (f : (Expr × Extent) × A → B) (st : Cursor) → then f (reading d (scope (costs true (seq (spanned unary) p))) st)
    ≡ bind (bind (bind (charge (first (seq (spanned unary) p)) true st) (λ u m. reading d (seq (spanned unary) p) m)) (λ x end. Ok (x, record end { left = st.left }))) (λ x end. Ok (f x, end))
unfolding then
late_costs {A} {B} d p f st = ap (λ (o : Outcome ((Expr × Extent) × A)). bind (bind o (λ x end. Ok (x, record end { left = st.left }))) (λ x end. Ok (f x, end))) (costs_is d true (seq (spanned unary) p) st)

late_straight : {A B : Type 0} (d : ℕ) (p : Rule A) (f : (Expr × Extent) × A → B) (st : Cursor) → then f (reading d (scope (costs true (seq (spanned unary) p))) st)
    ≡ bind (charge (first (seq (spanned unary) p)) true st) (λ u m. bind (reading d unary m) (λ e m1. bind (reading d p m1) (λ r end. Ok (f ((e, extent m.toks m1.last), r), record end { left = st.left }))))
late_straight {A} {B} d p f st = late_costs d p f st ∙ simp bind_bind

abbrev late_go : {A : Type 0} → ℕ → Rule A → (Expr × Extent → A → Expr) → ℕ → Unit {0} → Cursor → Outcome Expr
late_go d p f left u m = bind (reading d unary m) (λ e m1. bind (then (f (e, extent m.toks m1.last)) (reading d p m1)) (λ x end. Ok (x, record end { left = left })))

late_folded : {A : Type 0} (d : ℕ) (p : Rule A) (f : Expr × Extent → A → Expr) (st : Cursor) → then {A = (Expr × Extent) × A} (λ r. f r.0 r.1) (reading d (scope (costs true (seq (spanned unary) p))) st)
    ≡ bind (charge (kind.Minus ∷ kind.Bang ∷ kind.Not ∷ kind.IntegerLiteral ∷ kind.BitsLiteral ∷ kind.True ∷ kind.False ∷ kind.OpenParen ∷ kind.Name ∷ kind.Getter ∷ kind.Setter ∷ []) true st) (late_go d p f st.left)
late_folded {A} d p f st = late_straight d p (λ r. f r.0 r.1) st
    ∙ ap (λ cs. bind (charge cs true st) (λ u m. bind (reading d unary m) (λ e m1. bind (reading d p m1) (λ r end. Ok (f (e, extent m.toks m1.last) r, record end { left = st.left }))))) (late_first p)
    ∙ bind_same (charge (kind.Minus ∷ kind.Bang ∷ kind.Not ∷ kind.IntegerLiteral ∷ kind.BitsLiteral ∷ kind.True ∷ kind.False ∷ kind.OpenParen ∷ kind.Name ∷ kind.Getter ∷ kind.Setter ∷ []) true st) _ (late_go d p f st.left)
    (λ u m. bind_same (reading d unary m) _ _ (λ e m1. fold_first (reading d p m1) (f (e, extent m.toks m1.last)) _ (λ x end. Ok (x, record end { left = st.left })) (λ r end. refl)))

pub late_expression_is : (d : ℕ) (from : Span) (operator : UnaryOperator) (st : Cursor) → then (late_of from operator) (reading d late_expression st)
    ≡ bind (charge (kind.Minus ∷ kind.Bang ∷ kind.Not ∷ kind.IntegerLiteral ∷ kind.BitsLiteral ∷ kind.True ∷ kind.False ∷ kind.OpenParen ∷ kind.Name ∷ kind.Getter ∷ kind.Setter ∷ []) true st) (λ u m. bind (reading d unary m) (λ e m1. bind (then (finished from (prefixed_at from operator (e, extent m.toks m1.last))) (reading d rest m1)) (λ x end. Ok (x, record end { left = st.left }))))
unfolding late_expression
late_expression_is d from operator st = late_folded d rest (λ x r. finished from (prefixed_at from operator x) r) st

pub late_sum_is : (d : ℕ) (from : Span) (operator : UnaryOperator) (st : Cursor) → then (late_sum_of from operator) (reading d late_sum st)
    ≡ bind (charge (kind.Minus ∷ kind.Bang ∷ kind.Not ∷ kind.IntegerLiteral ∷ kind.BitsLiteral ∷ kind.True ∷ kind.False ∷ kind.OpenParen ∷ kind.Name ∷ kind.Getter ∷ kind.Setter ∷ []) true st) (λ u m. bind (reading d unary m) (λ e m1. bind (then (chained from (prefixed_at from operator (e, extent m.toks m1.last))) (reading d sum_rests m1)) (λ x end. Ok (x, record end { left = st.left }))))
unfolding late_sum
late_sum_is d from operator st = late_folded d sum_rests (λ x r. chained from (prefixed_at from operator x) r) st

-- behind its operand
pub late_sum_rest : (d : ℕ) (from : Span) (operator : UnaryOperator) (st m m1 : Cursor) (operand : Expr) → charge (kind.Minus ∷ kind.Bang ∷ kind.Not ∷ kind.IntegerLiteral ∷ kind.BitsLiteral ∷ kind.True ∷ kind.False ∷ kind.OpenParen ∷ kind.Name ∷ kind.Getter ∷ kind.Setter ∷ []) true st ≡ Ok (tt, m) → reading d unary m ≡ Ok (operand, m1)
    → then (late_sum_of from operator) (reading d late_sum st) ≡ bind (then (chained from (ex.Unary (span_to from m1.last) operator operand)) (reading d sum_rests m1)) (λ x end. Ok (x, record end { left = st.left }))
late_sum_rest d from operator st m m1 operand h k = let e = late_sum_is d from operator st in rw (e, h, k) refl

-- a failure of what is read first is one of the whole
pub stopped : (o inner : Outcome Expr) (k : Expr → Cursor → Outcome Expr) (r : Result Expr ParseError) (e : ParseError) (new : Cursor) → (e ≢ OutOfMemory → inner ≡ Err e) → IsErrAnd r (λ x. x ≡ e) → o ≡ bind inner k → Met o r new
stopped o inner k (Ok a) e new h same is = absurd same
stopped o inner k (Err x) e new h same is = λ no. is ∙ ap (λ y. bind y k) (h (λ z. no (same ∙ z))) ∙ ap Err (sym same)

after_name_straight : (d : ℕ) (i : Ident) (st : Cursor) → then (after_name_of i) (reading d expression_after_name st)
    ≡ bind (reading d maybe_after_name st) (λ a m. bind (reading d post_rest m) (λ b m1. bind (reading d rest m1) (λ c end. Ok (finished i.span (posted i.span (named_of i a) b) c, record end { left = st.left }))))
unfolding expression_after_name then
after_name_straight d i st = simp bind_bind

pub expression_after_name_is : (d : ℕ) (i : Ident) (st : Cursor) → then (after_name_of i) (reading d expression_after_name st)
    ≡ bind (then (named_of i) (reading d maybe_after_name st)) (λ e m. bind (then (posted i.span e) (reading d post_rest m)) (λ e1 m1. bind (then (finished i.span e1) (reading d rest m1)) (λ x end. Ok (x, record end { left = st.left }))))
expression_after_name_is d i st = after_name_straight d i st
    ∙ fold_first (reading d maybe_after_name st) (named_of i) _ (λ e m. bind (then (posted i.span e) (reading d post_rest m)) (λ e1 m1. bind (then (finished i.span e1) (reading d rest m1)) (λ x end. Ok (x, record end { left = st.left }))))
    (λ a m. fold_first (reading d post_rest m) (posted i.span (named_of i a)) _ (λ e1 m1. bind (then (finished i.span e1) (reading d rest m1)) (λ x end. Ok (x, record end { left = st.left })))
    (λ b m1. fold_first (reading d rest m1) (finished i.span (posted i.span (named_of i a) b)) _ (λ x end. Ok (x, record end { left = st.left })) (λ c end. refl)))

-- ---- fields and parameters in braces

more_parameters_straight : (d : ℕ) (found : List Expr) (st : Cursor) → then (behind found) (reading d more_parameters st) ≡ bind (reading d more_expressions st) (λ xs m. bind (run_tok (kind.CloseBrace ∷ []) m m.toks) (λ t end. Ok (behind found xs, end)))
unfolding more_parameters then
more_parameters_straight d found st = simp bind_bind

pub more_parameters_is : (d : ℕ) (found : List Expr) (st : Cursor) → then (behind found) (reading d more_parameters st) ≡ bind (then (behind found) (reading d more_expressions st)) (λ xs m. bind (run_tok (kind.CloseBrace ∷ []) m m.toks) (λ t end. Ok (xs, end)))
more_parameters_is d found st = more_parameters_straight d found st ∙ fold_first (reading d more_expressions st) (behind found) _ (λ xs m. bind (run_tok (kind.CloseBrace ∷ []) m m.toks) (λ t end. Ok (xs, end))) (λ xs m. refl)

pub parameters_after_minus_is : (d : ℕ) (minus : Span) (st : Cursor) → then (parameters_from_minus minus) (reading d parameters_after_minus st) ≡ bind (then (late_of minus un.Negate) (reading d late_expression st)) (λ e m. then (behind (e ∷ [])) (reading d more_parameters m))
unfolding parameters_after_minus then behind
parameters_after_minus_is d minus st = bind_bind (reading d late_expression st) _ _ ∙ fold_first (reading d late_expression st) (late_of minus un.Negate) _ (λ e m. then (behind (e ∷ [])) (reading d more_parameters m)) (λ a m. bind_bind (reading d more_parameters m) _ _)

pub parameters_after_name_is : (d : ℕ) (i : Ident) (st : Cursor) → then (parameters_from_name i) (reading d parameters_after_name st) ≡ bind (then (after_name_of i) (reading d expression_after_name st)) (λ e m. then (behind (e ∷ [])) (reading d more_parameters m))
unfolding parameters_after_name then behind
parameters_after_name_is d i st = bind_bind (reading d expression_after_name st) _ _ ∙ fold_first (reading d expression_after_name st) (after_name_of i) _ (λ e m. then (behind (e ∷ [])) (reading d more_parameters m)) (λ a m. bind_bind (reading d more_parameters m) _ _)

fields_straight : (d : ℕ) (i : Ident) (st : Cursor) → then (fields_from_name i) (reading d field_values_after_name st)
    ≡ bind (run_tok (kind.Assign ∷ []) st st.toks) (λ t m. bind (reading d expression m) (λ e m1. bind (reading d more_field_values m1) (λ fs m2. bind (run_tok (kind.CloseBrace ∷ []) m2 m2.toks) (λ t1 end. Ok (behind (fv.Given i e ∷ []) fs, end)))))
unfolding field_values_after_name then behind
fields_straight d i st = simp bind_bind

pub field_values_after_name_is : (d : ℕ) (i : Ident) (st : Cursor) → then (fields_from_name i) (reading d field_values_after_name st)
    ≡ bind (run_tok (kind.Assign ∷ []) st st.toks) (λ t m. bind (reading d expression m) (λ e m1. bind (then (behind (fv.Given i e ∷ [])) (reading d more_field_values m1)) (λ fs m2. bind (run_tok (kind.CloseBrace ∷ []) m2 m2.toks) (λ t1 end. Ok (fs, end)))))
field_values_after_name_is d i st = fields_straight d i st ∙ bind_same (run_tok (kind.Assign ∷ []) st st.toks) _ _ (λ t m. bind_same (reading d expression m) _ _
    (λ e m1. fold_first (reading d more_field_values m1) (behind (fv.Given i e ∷ [])) _ (λ fs m2. bind (run_tok (kind.CloseBrace ∷ []) m2 m2.toks) (λ t1 end. Ok (fs, end))) (λ fs m2. refl)))

pub after_minus_is : (d : ℕ) (minus : Span) (st : Cursor) → then (minus_in_braces_of minus) (reading d after_minus st)
    ≡ pick (starts (kind.CloseBrace ∷ []) st.toks) (bind (run_tok (kind.CloseBrace ∷ []) st st.toks) (λ t m. Ok (br.Fields [], m))) (bind (then (parameters_from_minus minus) (reading d parameters_after_minus st)) (λ ps m. Ok (br.Parameters ps, m)))
unfolding after_minus minus_alone then
after_minus_is d minus st = choice_as d minus_alone (by Some parameters_after_minus) st (λ x end. Ok (minus_in_braces_of minus x, end)) (bind (run_tok (kind.CloseBrace ∷ []) st st.toks) (λ t m. Ok (br.Fields [], m))) (bind (then (parameters_from_minus minus) (reading d parameters_after_minus st)) (λ ps m. Ok (br.Parameters ps, m))) (simp bind_bind) (simp bind_bind)

pub after_first_name_is : (d : ℕ) (i : Ident) (st : Cursor) → then (name_in_braces_of i) (reading d after_first_name st)
    ≡ pick (starts (kind.Assign ∷ []) st.toks) (bind (then (fields_from_name i) (reading d field_values_after_name st)) (λ fs m. Ok (br.Fields fs, m))) (bind (then (parameters_from_name i) (reading d parameters_after_name st)) (λ ps m. Ok (br.Parameters ps, m)))
unfolding after_first_name field_values_after_name then
after_first_name_is d i st = choice_as d (by inl field_values_after_name) (by inr parameters_after_name) st (λ x end. Ok (name_in_braces_of i x, end)) (bind (then (fields_from_name i) (reading d field_values_after_name st)) (λ fs m. Ok (br.Fields fs, m))) (bind (then (parameters_from_name i) (reading d parameters_after_name st)) (λ ps m. Ok (br.Parameters ps, m))) (simp bind_bind) (simp bind_bind)

other_straight : (d : ℕ) (st : Cursor) → reading d other_in_braces st ≡ bind (reading d other_expression st) (λ e m. bind (reading d more_parameters m) (λ xs end. Ok (br.Parameters (behind (e ∷ []) xs), end)))
unfolding other_in_braces behind
other_straight d st = simp bind_bind

pub other_in_braces_is : (d : ℕ) (st : Cursor) → reading d other_in_braces st ≡ bind (reading d other_expression st) (λ e m. bind (then (behind (e ∷ [])) (reading d more_parameters m)) (λ xs end. Ok (br.Parameters xs, end)))
other_in_braces_is d st = other_straight d st ∙ bind_same (reading d other_expression st) _ _ (λ e m. fold_first (reading d more_parameters m) (behind (e ∷ [])) _ (λ xs end. Ok (br.Parameters xs, end)) (λ xs end. refl))

-- ---- patterns that begin with `-` or `!`

pub late_range_ends : (d : ℕ) (from : Span) (operator : UnaryOperator) (st : Cursor) → ending from (late_range_of from operator) (reading d late_range st) ≡ bind (then (late_sum_of from operator) (reading d late_sum st)) (λ e m. ending from (pattern_of e) (reading d range_end m))
unfolding late_range ending
late_range_ends d from operator st = bind_bind (reading d late_sum st) _ _ ∙ fold_first (reading d late_sum st) (late_sum_of from operator) _ (λ e m. ending from (pattern_of e) (reading d range_end m)) (λ a m. bind_bind (reading d range_end m) _ _)

minus_straight : (d : ℕ) (st : Cursor) → reading d minus_pattern st ≡ bind (run_tok (kind.Minus ∷ []) st st.toks) (λ t m. bind (reading d maybe_late_range m) (λ x end. Ok (minus_pattern_of (ahead st.toks) (span_to (ahead st.toks) end.last) x, end)))
unfolding minus_pattern
minus_straight d st = simp bind_bind

late_range_at : (d : ℕ) (from : Span) (st : Cursor) → bind (reading d maybe_late_range st) (λ x end. Ok (minus_pattern_of from (span_to from end.last) x, end))
    ≡ pick (starts (kind.Minus ∷ kind.Bang ∷ kind.Not ∷ kind.IntegerLiteral ∷ kind.BitsLiteral ∷ kind.True ∷ kind.False ∷ kind.OpenParen ∷ kind.Name ∷ kind.Getter ∷ kind.Setter ∷ []) st.toks) (ending from (late_range_of from un.Negate) (reading d late_range st)) (Ok (pa.AnyPattern (span_to from st.last), st))
unfolding maybe_late_range late_range late_sum ending unary prefixed_by post_literal post_parenthesized post_named literal integer_literal bits_literal boolean_literal parenthesized named name
late_range_at d from st = optional_as d late_range st (λ x end. Ok (minus_pattern_of from (span_to from end.last) x, end)) (ending from (late_range_of from un.Negate) (reading d late_range st)) refl

pub minus_pattern_is : (d : ℕ) (st : Cursor) → reading d minus_pattern st ≡ bind (run_tok (kind.Minus ∷ []) st st.toks) (λ t m. pick (starts (kind.Minus ∷ kind.Bang ∷ kind.Not ∷ kind.IntegerLiteral ∷ kind.BitsLiteral ∷ kind.True ∷ kind.False ∷ kind.OpenParen ∷ kind.Name ∷ kind.Getter ∷ kind.Setter ∷ []) m.toks)
    (ending (ahead st.toks) (late_range_of (ahead st.toks) un.Negate) (reading d late_range m)) (Ok (pa.AnyPattern (span_to (ahead st.toks) m.last), m)))
minus_pattern_is d st = minus_straight d st ∙ bind_same (run_tok (kind.Minus ∷ []) st st.toks) _ _ (λ t m. late_range_at d (ahead st.toks) m)

bang_straight : (d : ℕ) (st : Cursor) → reading d bang_pattern st ≡ bind (run_tok (kind.Bang ∷ []) st st.toks) (λ t m. bind (reading d after_bang m) (λ x end. Ok (bang_pattern_of (ahead st.toks) (span_to (ahead st.toks) end.last) x, end)))
unfolding bang_pattern
bang_straight d st = simp bind_bind

after_bang_at : (d : ℕ) (from : Span) (st : Cursor) → bind (reading d after_bang st) (λ x end. Ok (bang_pattern_of from (span_to from end.last) x, end))
    ≡ pick (starts (kind.OpenBrace ∷ []) st.toks) (bind (reading d set_braces st) (λ ps end. Ok (pa.SetPattern (span_to from end.last) true ps, end))) (ending from (late_range_of from un.Not) (reading d late_range st))
unfolding after_bang set_braces ending
after_bang_at d from st = choice_as d (by inl set_braces) (by inr late_range) st (λ x end. Ok (bang_pattern_of from (span_to from end.last) x, end)) (bind (reading d set_braces st) (λ ps end. Ok (pa.SetPattern (span_to from end.last) true ps, end))) (ending from (late_range_of from un.Not) (reading d late_range st)) (simp bind_bind) (simp bind_bind)

pub bang_pattern_is : (d : ℕ) (st : Cursor) → reading d bang_pattern st ≡ bind (run_tok (kind.Bang ∷ []) st st.toks) (λ t m. pick (starts (kind.OpenBrace ∷ []) m.toks)
    (bind (reading d set_braces m) (λ ps end. Ok (pa.SetPattern (span_to (ahead st.toks) end.last) true ps, end))) (ending (ahead st.toks) (late_range_of (ahead st.toks) un.Not) (reading d late_range m)))
bang_pattern_is d st = bang_straight d st ∙ bind_same (run_tok (kind.Bang ∷ []) st st.toks) _ _ (λ t m. after_bang_at d (ahead st.toks) m)

pub logic_rest_on : (d : ℕ) (from : Span) (left : Expr) (st : Cursor) → then (logically from left) (reading d logic_rest st)
    ≡ pick (starts (kind.AndAnd ∷ kind.OrOr ∷ kind.Implies ∷ kind.Iff ∷ []) st.toks) (then (chained from left) (reading d logic_links st)) (Ok (left, st))
unfolding logic_rest logic_links some_links_by then
logic_rest_on d from left st = optional_as d logic_links st (λ x end. Ok (logically from left x, end)) (then (chained from left) (reading d logic_links st)) refl
