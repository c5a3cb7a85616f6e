-- Slices and their operands, one by one.
use Rattle.std.proofs.Common.{◌≡◌, ℕ, ◌+◌, ◌<◌, ◌≤◌, Bool, true, false, ◌&&◌, length, get_or, take, drop, map, List, [], ◌∷◌, ◌++◌, Result, Ok, Err, refl, sym, ap, subst, ◌∙◌, append_assoc}
use Rattle.std.proofs.lemmas.List.{drop_all, take_all, take_more}
use Rattle.asl_syn.specs.declared.tree.Slice.{Slice}
use Rattle.asl_syn.specs.declared.code.Fault.{Fault}
use Rattle.asl_syn.specs.declared.tree.Expr.{Expr}
use Rattle.asl_rules.specs.statements.Acting as acting
use Rattle.asl_rules.specs.expressions.Exprs.{found, typed, found_slice}
use Rattle.asl_rules.specs.Faults.{◌>>=◌}
use Rattle.asl_rules.specs.declarations.Scopes.{Scope}
use Rattle.asl_rules.specs.expressions.Typing.{Typed, Operand, operand, operands}
use Rattle.asl_rules.specs.types.Shapes as shapes
use Rattle.asl_rules.specs.expressions.Slicing.{all_integers, shapes_of, all_operands as slice_operands, all_add}
use Rattle.asl_rules.specs.statements.Targets.{found_slices}
use Rattle.asl_rules.specs.Tests.{Tests}
use Rattle.asl_rules.specs.types.Types.{is_integer}
use Rattle.asl_rules.specs.types.Widths.{Total, totalled}
use Rattle.asl_poly.specs.Terms.{Polynomial}
use Rattle.asl_syn.specs.declared.token.Span.{Span}
use Rattle.asl_syn.specs.declared.code.Refused.{Refused}
use Rattle.asl_syn.specs.declared.code.Refused.TheVariants.{At, NoMemory}
use Rattle.asl_types.specs.private.Answers.{Met}
use Rattle.asl_types.specs.private.Totals.{IsTotal}
use Rattle.asl_types.specs.declared.totals.Total as code
use Rattle.asl_expr.specs.private.SliceViews.{Sums}
use Rattle.asl_types.proofs.Rest.{at_next}
use Rattle.asl_value.specs.declared.slices.SliceShape.{SliceShape}
use Rattle.asl_value.specs.View.{slice_of, all_slices}
use Rattle.asl_tree.specs.declared.tree.Tree.{Tree}
use Rattle.asl_tree.specs.View.{operand_of, typed_of, all_operands}
use Rattle.asl_written.proofs.ConstraintLemmas.{append_none}

-- ---- integers

pub integers_next : (os : List Tree) (i : ℕ) (o : Tree) → i < length os → o ≡ get_or os i o → is_integer (typed_of o).ty ≡ true →
    all_integers (all_operands (drop i os)) ≡ all_integers (all_operands os) → all_integers (all_operands (drop (i + 1) os)) ≡ all_integers (all_operands os)
integers_next os i o within here does before =
    ap (λ b. b && all_integers (all_operands (drop (i + 1) os))) (sym does)
    ∙ ap (λ xs. all_integers (all_operands xs)) (sym (at_next os i o within here))
    ∙ before

pub integers_not : (os : List Tree) (i : ℕ) (o : Tree) → i < length os → o ≡ get_or os i o → is_integer (typed_of o).ty ≡ false →
    all_integers (all_operands (drop i os)) ≡ all_integers (all_operands os) → false ≡ all_integers (all_operands os)
integers_not os i o within here not_so before =
    ap (λ b. b && all_integers (all_operands (drop (i + 1) os))) (sym not_so)
    ∙ ap (λ xs. all_integers (all_operands xs)) (sym (at_next os i o within here))
    ∙ before

pub integers_last : (os : List Tree) (i : ℕ) → length os ≤ i → all_integers (all_operands (drop i os)) ≡ all_integers (all_operands os) → true ≡ all_integers (all_operands os)
integers_last os i past before = ap (λ xs. all_integers (all_operands xs)) (sym (drop_all i os past)) ∙ before

-- ---- shapes

push_shape : (ss : List SliceShape) (s : SliceShape) → all_slices (ss ++ s ∷ []) ≡ all_slices ss ++ slice_of s ∷ []
push_shape [] s = refl
push_shape (x ∷ ss) s = ap (λ ys. slice_of x ∷ ys) (push_shape ss s)

pub shapes_next : (t : Tests) (all : List shapes.SliceShape) (xs : List Slice) (i : ℕ) (x : Slice) (ss us : List SliceShape) (s : SliceShape) →
    i < length xs → x ≡ get_or xs i x → slice_of s ≡ (found_slice t x).shape → us ≡ ss ++ s ∷ [] →
    all_slices ss ++ shapes_of (found_slices t (drop i xs)) ≡ all → all_slices us ++ shapes_of (found_slices t (drop (i + 1) xs)) ≡ all
shapes_next t all xs i x ss us s within here this more before =
    ap (λ ys. all_slices ys ++ shapes_of (found_slices t (drop (i + 1) xs))) more
    ∙ ap (λ ys. ys ++ shapes_of (found_slices t (drop (i + 1) xs))) (push_shape ss s)
    ∙ append_assoc (all_slices ss) (slice_of s ∷ []) (shapes_of (found_slices t (drop (i + 1) xs)))
    ∙ ap (λ y. all_slices ss ++ y ∷ shapes_of (found_slices t (drop (i + 1) xs))) this
    ∙ ap (λ ys. all_slices ss ++ shapes_of (found_slices t ys)) (sym (at_next xs i x within here))
    ∙ before

pub shapes_last : (t : Tests) (all : List shapes.SliceShape) (xs : List Slice) (i : ℕ) (ss : List SliceShape) → length xs ≤ i →
    all_slices ss ++ shapes_of (found_slices t (drop i xs)) ≡ all → all_slices ss ≡ all
shapes_last t all xs i ss past before =
    sym (append_none (all_slices ss)) ∙ ap (λ ys. all_slices ss ++ shapes_of (found_slices t ys)) (sym (drop_all i xs past)) ∙ before

-- ---- operands

abbrev Found : Type 0
Found = Result (List Operand) Fault

one_found : (r : Result Typed Fault) (span : _) (o : Operand) → (r >>= λ S. let q : Result Operand Fault = Ok (operand span S) in q) ≡ Ok o → (rest : Found) →
    (r >>= λ S. rest >>= λ os. Ok (operand span S ∷ os)) ≡ (rest >>= λ os. Ok (o ∷ os))
one_found (Err e) span o is rest = absurd (cc is)
one_found (Ok S) span o is rest = ap (λ x. rest >>= λ os. Ok (x ∷ os)) (let e : operand span S ≡ o = cc is in e)

one_failed : (r : Result Typed Fault) (span : _) (f : Fault) → (r >>= λ S. let q : Result Operand Fault = Ok (operand span S) in q) ≡ Err f → (rest : Found) →
    (r >>= λ S. rest >>= λ os. Ok (operand span S ∷ os)) ≡ Err f
one_failed (Ok S) span f is rest = absurd (cc is)
one_failed (Err e) span f is rest = ap (λ x. let q : Found = Err x in q) (let s : e ≡ f = cc is in s)

pub one_operand : (t : Tests) (e : Expr) (o : Tree) (G : Scope) → acting.operand_of t e G ≡ Ok (operand_of o) → operands (found t e ∷ []) G ≡ Ok (all_operands (o ∷ []))
one_operand t e o G is = one_found (typed t e G) (found t e).span (operand_of o) is (Ok [])

pub two_operands : (t : Tests) (e f : Expr) (o p : Tree) (G : Scope) → acting.operand_of t e G ≡ Ok (operand_of o) → acting.operand_of t f G ≡ Ok (operand_of p) →
    operands (found t e ∷ found t f ∷ []) G ≡ Ok (all_operands (o ∷ p ∷ []))
two_operands t e f o p G is also =
    one_found (typed t e G) (found t e).span (operand_of o) is (operands (found t f ∷ []) G)
    ∙ ap (λ r. r >>= λ os. Ok (operand_of o ∷ os)) (one_operand t f p G also)

pub first_failed : (t : Tests) (e f : Expr) (x : Fault) (G : Scope) → acting.operand_of t e G ≡ Err x → operands (found t e ∷ found t f ∷ []) G ≡ Err x
first_failed t e f x G is = one_failed (typed t e G) (found t e).span x is (operands (found t f ∷ []) G)

pub only_failed : (t : Tests) (e : Expr) (x : Fault) (G : Scope) → acting.operand_of t e G ≡ Err x → operands (found t e ∷ []) G ≡ Err x
only_failed t e x G is = one_failed (typed t e G) (found t e).span x is (Ok [])

pub second_failed : (t : Tests) (e f : Expr) (o : Tree) (x : Fault) (G : Scope) → acting.operand_of t e G ≡ Ok (operand_of o) → acting.operand_of t f G ≡ Err x →
    operands (found t e ∷ found t f ∷ []) G ≡ Err x
second_failed t e f o x G is also =
    one_found (typed t e G) (found t e).span (operand_of o) is (operands (found t f ∷ []) G)
    ∙ ap (λ r. r >>= λ os. Ok (operand_of o ∷ os)) (only_failed t f x G also)

-- ---- of several slices

abbrev pub behind : List Tree → Found → Found
behind ts r = r >>= λ os. Ok (all_operands ts ++ os)

append_all : (ts us : List Tree) → all_operands (ts ++ us) ≡ all_operands ts ++ all_operands us
append_all [] us = refl
append_all (t ∷ ts) us = ap (λ os. operand_of t ∷ os) (append_all ts us)

one_more : (ts us more : List Tree) (r : Found) → us ≡ ts ++ more → behind ts (r >>= λ ps. Ok (all_operands more ++ ps)) ≡ behind us r
one_more ts us more (Err e) grown = refl
one_more ts us more (Ok ps) grown =
    ap (λ (x : List Operand). let q : Found = Ok x in q)
    (sym (append_assoc (all_operands ts) (all_operands more) ps) ∙ ap (λ x. x ++ ps) (sym (append_all ts more) ∙ ap all_operands (sym grown)))

pub operands_next : (t : Tests) (all : Found) (xs : List Slice) (i : ℕ) (x : Slice) (ts us more : List Tree) (G : Scope) →
    i < length xs → x ≡ get_or xs i x → (found_slice t x).operands G ≡ Ok (all_operands more) → us ≡ ts ++ more →
    all ≡ behind ts (slice_operands (found_slices t (drop i xs)) G) → all ≡ behind us (slice_operands (found_slices t (drop (i + 1) xs)) G)
operands_next t all xs i x ts us more G within here this grown before =
    before
    ∙ ap (λ ys. behind ts (slice_operands (found_slices t ys) G)) (at_next xs i x within here)
    ∙ ap (λ r. behind ts (r >>= λ os. slice_operands (found_slices t (drop (i + 1) xs)) G >>= λ ps. Ok (os ++ ps))) this
    ∙ one_more ts us more (slice_operands (found_slices t (drop (i + 1) xs)) G) grown

pub operands_stop : (t : Tests) (all : Found) (xs : List Slice) (i : ℕ) (x : Slice) (ts : List Tree) (f : Fault) (G : Scope) →
    i < length xs → x ≡ get_or xs i x → (found_slice t x).operands G ≡ Err f →
    all ≡ behind ts (slice_operands (found_slices t (drop i xs)) G) → all ≡ Err f
operands_stop t all xs i x ts f G within here this before =
    before
    ∙ ap (λ ys. behind ts (slice_operands (found_slices t ys) G)) (at_next xs i x within here)
    ∙ ap (λ r. behind ts (r >>= λ os. slice_operands (found_slices t (drop (i + 1) xs)) G >>= λ ps. Ok (os ++ ps))) this

pub operands_last : (t : Tests) (all : Found) (xs : List Slice) (i : ℕ) (ts : List Tree) (G : Scope) → length xs ≤ i →
    all ≡ behind ts (slice_operands (found_slices t (drop i xs)) G) → all ≡ Ok (all_operands ts)
operands_last t all xs i ts G past before =
    before
    ∙ ap (λ ys. behind ts (slice_operands (found_slices t ys) G)) (drop_all i xs past)
    ∙ ap (λ (x : List Operand). let q : Found = Ok x in q) (append_none (all_operands ts))

pub operands_first : (r : Found) → r ≡ behind [] r
operands_first (Ok os) = refl
operands_first (Err e) = refl

-- ---- the sum of their widths

pub sum_next : (t : Tests) (all : Result Total Fault) (xs : List Slice) (i : ℕ) (x : Slice) (y z : Total) (G : Scope) →
    i < length xs → x ≡ get_or xs i x → (found_slice t x).adds y G ≡ Ok z →
    all ≡ all_add (found_slices t (drop i xs)) y G → all ≡ all_add (found_slices t (drop (i + 1) xs)) z G
sum_next t all xs i x y z G within here this before =
    before
    ∙ ap (λ ys. all_add (found_slices t ys) y G) (at_next xs i x within here)
    ∙ ap (λ r. r >>= λ w. all_add (found_slices t (drop (i + 1) xs)) w G) this

pub sum_stop : (t : Tests) (all : Result Total Fault) (xs : List Slice) (i : ℕ) (x : Slice) (y : Total) (f : Fault) (G : Scope) →
    i < length xs → x ≡ get_or xs i x → (found_slice t x).adds y G ≡ Err f →
    all ≡ all_add (found_slices t (drop i xs)) y G → all ≡ Err f
sum_stop t all xs i x y f G within here this before =
    before
    ∙ ap (λ ys. all_add (found_slices t ys) y G) (at_next xs i x within here)
    ∙ ap (λ r. r >>= λ w. all_add (found_slices t (drop (i + 1) xs)) w G) this

pub sum_last : (t : Tests) (all : Result Total Fault) (xs : List Slice) (i : ℕ) (y : Total) (G : Scope) → length xs ≤ i →
    all ≡ all_add (found_slices t (drop i xs)) y G → all ≡ Ok y
sum_last t all xs i y G past before = before ∙ ap (λ ys. all_add (found_slices t ys) y G) (drop_all i xs past)

pub sum_goes : (t : Tests) (all : Result Total Fault) (xs : List Slice) (i : ℕ) (x : Slice) (y : Total) (s : code.Total) (G : Scope) →
    i < length xs → x ≡ get_or xs i x → Sums (Ok s) ((found_slice t x).adds y G) → all ≡ all_add (found_slices t (drop i xs)) y G →
    (z : Total) × ((all ≡ all_add (found_slices t (drop (i + 1) xs)) z G) × IsTotal s z)
sum_goes t all xs i x y s G within here sums before = (sums.0, (sum_next t all xs i x y sums.0 G within here sums.1.0 before, sums.1.1))

pub sum_refused : (t : Tests) (span : Span) (all : Result Total Fault) (xs : List Slice) (i : ℕ) (x : Slice) (y : Total) (e : Refused) (r : Result Polynomial Refused) (G : Scope) →
    i < length xs → x ≡ get_or xs i x → r ≡ Err e → Sums (Err e) ((found_slice t x).adds y G) → all ≡ all_add (found_slices t (drop i xs)) y G →
    Met (λ (p : Polynomial). p) r (all >>= λ w. totalled span w)
sum_refused t span all xs i x y (At f) r G within here is h before =
    subst (λ (q : Result Polynomial Refused). Met (λ (p : Polynomial). p) q (all >>= λ w. totalled span w)) (sym is) (ap (λ q. q >>= λ w. totalled span w) (sum_stop t all xs i x y f G within here h before))
sum_refused t span all xs i x y NoMemory r G within here is h before =
    subst (λ (q : Result Polynomial Refused). Met (λ (p : Polynomial). p) q (all >>= λ w. totalled span w)) (sym is) tt

pub sum_whole : (t : Tests) (span : Span) (all : Result Total Fault) (xs : List Slice) (i : ℕ) (y : Total) (r : Result Polynomial Refused) (G : Scope) → length xs ≤ i →
    all ≡ all_add (found_slices t (drop i xs)) y G → Met (λ (p : Polynomial). p) r (totalled span y) → Met (λ (p : Polynomial). p) r (all >>= λ w. totalled span w)
sum_whole t span all xs i y r G past before h =
    subst (λ (q : Result Polynomial Fault). Met (λ (p : Polynomial). p) r q) (sym (ap (λ q. q >>= λ w. totalled span w) (sum_last t all xs i y G past before))) h
