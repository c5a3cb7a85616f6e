-- What is evaluated and executed at once.
use Rattle.std.proofs.Common.{◌≡◌, ℕ, ◌-◌, ◌<◌, ◌==◌, Bool, true, false, cond, List, [], ◌∷◌, ◌++◌, length, get_or}
use Rattle.std.proofs.Common.{Option, Some, None, Result, Ok, IfSome, append-nil, append_assoc, refl, sym, ap, ◌∙◌, subst, arith}
use Rattle.std.proofs.lemmas.Int.{ints}
use Rattle.std.specs.Prelude.{ℤ, pos, negsuc, ◌≤ℤ◌, ◌<ℤ◌, nat_lt, option_map}
use Rattle.asl_bits.specs.declared.TheConstants.{WIDTH_LIMIT}
use Rattle.asl_num.specs.declared.NumFault.{NumFault}
use Rattle.asl_num.specs.Exact.{IsExact, Divides, Raises}
use Rattle.asl_syn.specs.declared.code.DynCode.TheVariants.{D02}
use Rattle.asl_syn.specs.declared.token.Span.{Span}
use Rattle.asl_syn.specs.declared.tree.BinaryOperator.{BinaryOperator}
use Rattle.asl_syn.specs.declared.tree.BinaryOperator.TheVariants as binary
use Rattle.asl_rules.specs.declarations.Routines.{Routine}
use Rattle.asl_rules.specs.declared.slot.Slot.{Slot}
use Rattle.asl_rules.specs.runs.Forms.{at_once, ask_right, behind, behind_all, behind_left, behind_more, branch_value, conditional}
use Rattle.asl_rules.specs.runs.Forms.{element, eval_all, function_gives, give, operation, routine_gives, unless_decided}
use Rattle.asl_rules.specs.values.Library.{routine_value}
use Rattle.asl_rules.specs.values.Operators.{Strictness, Strict, Lazy, strictness, ByRight, binary_value, divided}
use Rattle.asl_rules.specs.values.Operators.{integer_of, of_bits, of_bits_and_integer, of_booleans, of_integers, raised, truth}
use Rattle.asl_rules.specs.values.Vectors.{slices_of}
use Rattle.asl_rules.specs.runs.Plans.{Meter, Faulted, Stuck, WrongKind, Pure, Good, Bad, Done, Thrown, Outcome}
use Rattle.asl_rules.specs.runs.Plans.{choose, follow, handle, lift, run}
use Rattle.asl_rules.specs.runs.Pures.{known}
use Rattle.asl_rules.specs.values.Structures.{element_of}
use Rattle.asl_rules.specs.runs.Trees.{Note, Read, Tree}
use Rattle.asl_rules.specs.types.Shapes.{SliceShape}
use Rattle.asl_rules.specs.types.Views.{stripping}
use Rattle.asl_rules.specs.private.TypedMeaning.{BareCore, Runs as Plans, list_of, tree_node, value_at}
use Rattle.asl_rules.specs.values.Values.{Value, bool, int}
use Rattle.asl_tree.specs.declared.act.TreeFunc.{TreeFunc}
use Rattle.asl_tree.specs.declared.tree.Tree.{Tree as TypedTree}
use Rattle.asl_tree.specs.View.{all_trees, tree_of}
use Rattle.asl_value.specs.declared.value.FieldValue.TheFolds.{fold-roll-Value}
use Rattle.asl_value.specs.declared.value.FieldValue.TheOpen as layers
use Rattle.asl_value.specs.declared.value.Value.TheVariants as variants
use Rattle.asl_value.specs.private.Numbers.{answer_of}
use Rattle.asl_value.specs.View as view
use Rattle.asl_value.specs.View.{all_slices, slice_of, value_of}
use Rattle.asl_value.specs.declared.slices.SliceShape.{SliceShape as Shape}
use Rattle.asl_value.proofs.Integers.{exact}
use Rattle.asl_branches.specs.declared.run.Run.{Run}
use Rattle.asl_branches.specs.View.{core_of, meter_of, program_of, meaning_of}
use Rattle.asl_run.specs.declared.at_once.AtOnce.{AtOnce}
use Rattle.asl_run.specs.declared.at_once.AtOnce.TheVariants as variants_of
use Rattle.asl_run.specs.declared.bits.Cut.{Cut}
use Rattle.asl_run.specs.private.AtOnce.{CutBy, Cuts, CutsAt, decision, Ends, Finds, found, Gives, library_call, Listed, meter_at}
use Rattle.asl_run.proofs.Entries.{expr_done}

-- ---- integers

none_above : (n : ℕ) → nat_lt 0 n ≡ false → pos n ≤ℤ pos 0
none_above n h = grind (arith, ints)

below_none : (n : ℕ) → negsuc n ≤ℤ pos 0
below_none n = grind (arith, ints)

-- a divisor above 0 or not
pub divides : (span : Span) (r : Result ℤ NumFault) (b : ℤ) (f : ℕ → ℤ) → Divides b r (λ n. r ≡ Ok (f n)) →
    answer_of span r ≡ divided span b (λ n. Good (int (f n)))
divides span r (negsuc n) f h = ap (answer_of span) (h.0 (below_none n))
divides span r (pos n) f h = by (nat_lt 0 n) refl
  where
    by : (t : Bool) → nat_lt 0 n ≡ t → answer_of span r ≡ cond t (Good (int (f n))) (Bad (Faulted D02 span))
    by true e = ap (answer_of span) (h.1 n refl (grind arith))
    by false e = ap (answer_of span) (h.0 (none_above n e))

below : (n : ℕ) → negsuc n <ℤ pos 0
below n = grind (arith, ints)

-- a right operand of at least 0 or not
pub raises : (span : Span) (r : Result ℤ NumFault) (b : ℤ) (f : ℕ → ℤ) → Raises b r (λ n. r ≡ Ok (f n)) →
    answer_of span r ≡ raised span b (λ n. Good (int (f n)))
raises span r (pos n) f h = ap (answer_of span) (h.1 n refl)
raises span r (negsuc n) f h = ap (answer_of span) (h.0 (below n))

pub raises_exactly : (span : Span) (r : Result ℤ NumFault) (b : ℤ) (f : ℕ → ℤ) → Raises b r (λ n. IsExact r (f n)) →
    answer_of span r ≡ raised span b (λ n. integer_of span (f n))
raises_exactly span r (pos n) f h = exact span r (f n) (h.1 n refl)
raises_exactly span r (negsuc n) f h = ap (answer_of span) (h.0 (below n))

-- ---- plans of values

module _ (fs : List TreeFunc) (d : ℕ) (s : Run) where
  -- what comes with the value of an expression
  after : {A : Type 0} {r : Outcome BareCore Value} {x : Value} {c : BareCore} {h : Meter} (k : Value → BareCore → Plans A) →
      r ≡ Done x c h → handle r (λ y c1 h1. run (meaning_of fs d) (k y c1) h1) Thrown ≡ run (meaning_of fs d) (k x c) h
  after k e = ap (λ (t : Outcome BareCore Value). handle t (λ y c1 h1. run (meaning_of fs d) (k y c1) h1) Thrown) e

  -- what an operation on values gives
  given_there : {r : Pure Value} {x : Value} (n : ℕ) (told : Option (List ℕ)) → r ≡ Good x →
      run (meaning_of fs d) (at_once r (core_of s)) (meter_at n told s) ≡ Done x (core_of s) (meter_at n told s)
  given_there n told e = ap (λ (t : Pure Value). run (meaning_of fs d) (at_once t (core_of s)) (meter_at n told s)) e

  -- a plan that is nothing else gives it
  pub settled : (o : Option Value) (r : Pure Value) (n : ℕ) → Gives o r → Ends o fs d (at_once r) s n n
  settled None r n g = record {}
  settled (Some x) r n g = λ told. given_there n told g

  -- an operand, and what its value gives
  pub behind_found : (o : Option Value) (f : Value → Pure Value) (a : TypedTree) (x : Value) (n n1 : ℕ) → Finds (Some x) fs d a s n n1 →
      Gives o (f x) → Ends o fs d (λ c. behind (tree_of a) c f) s n n1
  behind_found None f a x n n1 e g = record {}
  behind_found (Some z) f a x n n1 e g = λ told. after (λ y c. at_once (f y) c) (e told) ∙ given_there n1 told g

  -- ---- operators

  -- the left operand, and what comes behind it
  pub left_found : (o : Option Value) (span : Span) (op : BinaryOperator) (a b : TypedTree) (x : Value) (n n1 n2 : ℕ) →
      Finds (Some x) fs d a s n n1 → Ends o fs d (behind_left WIDTH_LIMIT span op (tree_of b) x (strictness op)) s n1 n2 →
      Ends o fs d (operation WIDTH_LIMIT span op (tree_of a) (tree_of b)) s n n2
  left_found None span op a b x n n1 n2 f e = record {}
  left_found (Some z) span op a b x n n1 n2 f e = λ told.
      after (λ y c. behind_left WIDTH_LIMIT span op (tree_of b) y (strictness op) c) (f told) ∙ e told

  -- the right operand is asked, and what the operator gives of both
  right_asked : (span : Span) (op : BinaryOperator) (b : TypedTree) (x y z : Value) (n n1 : ℕ) (told : Option (List ℕ)) →
      Finds (Some y) fs d b s n n1 → binary_value WIDTH_LIMIT span op x y ≡ Good z →
      run (meaning_of fs d) (ask_right WIDTH_LIMIT span op (tree_of b) x (core_of s)) (meter_at n told s) ≡
      Done z (core_of s) (meter_at n1 told s)
  right_asked span op b x y z n n1 told f g =
      after (λ v c. at_once (binary_value WIDTH_LIMIT span op x v) c) (f told) ∙ given_there n1 told g

  -- so it is behind a left operand with which the operator only has a value where it asks both
  pub right_found : (o : Option Value) (span : Span) (op : BinaryOperator) (b : TypedTree) (x y : Value) (n n1 : ℕ) →
      ((z : Value) → binary_value WIDTH_LIMIT span op x y ≡ Good z → strictness op ≡ Strict) → Finds (Some y) fs d b s n n1 →
      Gives o (binary_value WIDTH_LIMIT span op x y) → Ends o fs d (behind_left WIDTH_LIMIT span op (tree_of b) x (strictness op)) s n n1
  right_found None span op b x y n n1 strict f g = record {}
  right_found (Some z) span op b x y n n1 strict f g = λ told.
      ap (λ (t : Strictness). run (meaning_of fs d) (behind_left WIDTH_LIMIT span op (tree_of b) x t (core_of s)) (meter_at n told s))
      (strict z g) ∙ right_asked span op b x y z n n1 told f g

  -- behind a boolean it is asked where that doesn't decide
  behind_bool : (span : Span) (op : BinaryOperator) (b : TypedTree) (x : Bool) (h : Meter) (t : Strictness) →
      run (meaning_of fs d) (behind_left WIDTH_LIMIT span op (tree_of b) (bool x) t (core_of s)) h ≡
      run (meaning_of fs d) (unless_decided WIDTH_LIMIT span op (tree_of b) (bool x) (core_of s) (decision t x)) h
  behind_bool span op b x h Strict = refl
  behind_bool span op b x h (Lazy f) = refl

  pub right_truth : (o : Option Value) (span : Span) (op : BinaryOperator) (b : TypedTree) (x y : Bool) (n n1 : ℕ) →
      decision (strictness op) x ≡ ByRight → Finds (Some (bool y)) fs d b s n n1 → Gives o (of_booleans span op x y) →
      Ends o fs d (behind_left WIDTH_LIMIT span op (tree_of b) (bool x) (strictness op)) s n n1
  right_truth None span op b x y n n1 more f g = record {}
  right_truth (Some z) span op b x y n n1 more f g = λ told.
      behind_bool span op b x (meter_at n told s) (strictness op) ∙
      ap (λ t. run (meaning_of fs d) (unless_decided WIDTH_LIMIT span op (tree_of b) (bool x) (core_of s) t) (meter_at n told s)) more ∙
      right_asked span op b (bool x) (bool y) z n n1 told f g

  -- ---- what is reached in a place

  -- what a place holds
  pub read_found : (o : Option Value) (note : Note) (slot : Slot) (n : ℕ) → o ≡ value_at slot (core_of s) →
      Ends o fs d (tree_node (program_of fs) (Read note slot)) s n n
  read_found None note slot n e = record {}
  read_found (Some x) note slot n e = λ told. given_there n told (ap (known note.span) (sym e))

  -- an array that is reached and an index, and the element there
  pub picked : (o : Option Value) (span : Span) (a i : TypedTree) (x : Value) (z : ℤ) (n n1 n2 : ℕ) → Finds (Some x) fs d a s n n1 →
      Finds (Some (int z)) fs d i s n1 n2 → Gives o (element_of span x (int z)) → Ends o fs d (element span (tree_of a) (tree_of i)) s n n2
  picked None span a i x z n n1 n2 e f g = record {}
  picked (Some v) span a i x z n n1 n2 e f g = λ told.
      after (λ y c. behind (tree_of i) c (element_of span y)) (e told) ∙ after (λ y c. at_once (element_of span x y) c) (f told) ∙
      given_there n2 told g

  -- what stands there is what a node gives, as far as it is found
  pub seen_there : (o p : Option Value) (e : TypedTree) (n n1 : ℕ) → ((r : Pure Value) → Gives p r → Gives o r) →
      Ends p fs d (tree_node (program_of fs) (tree_of e)) s n n1 → Ends o fs d (tree_node (program_of fs) (tree_of e)) s n n1
  seen_there None p e n n1 g h = record {}
  seen_there (Some x) None e n n1 g h = let t = g (Good (bool true)) (record {}) in let f = g (Good (bool false)) (record {}) in cc
  seen_there (Some x) (Some y) e n n1 g h = λ told.
      let same : ◌≡◌ {A = Pure Value} (Good y) (Good x) = g (Good y) refl in
      let one : y ≡ x = cc in
      h told ∙ ap (λ (z : Value). Done z (core_of s) (meter_at n1 told s)) one

  -- ---- conditionals

  -- the branch that a condition takes
  pub taken : (o : Option Value) (strip : Value → Value) (p : Bool) (span : Span) (e a b : TypedTree) (n n1 n2 : ℕ) →
      Finds (Some (bool p)) fs d e s n n1 → Finds o fs d (cond p a b) s n1 n2 →
      Ends (option_map strip o) fs d (conditional strip span (tree_of e) (tree_of a) (tree_of b)) s n n2
  taken None strip p span e a b n n1 n2 f g = record {}
  taken (Some x) strip true span e a b n n1 n2 f g = λ told.
      after (λ y c. lift (truth span y) c (λ t. choose t (branch_value strip (tree_of a) c) (branch_value strip (tree_of b) c))) (f told) ∙
      after (λ y c. give c (strip y)) (g told)
  taken (Some x) strip false span e a b n n1 n2 f g = λ told.
      after (λ y c. lift (truth span y) c (λ t. choose t (branch_value strip (tree_of a) c) (branch_value strip (tree_of b) c))) (f told) ∙
      after (λ y c. give c (strip y)) (g told)

  -- ---- lists of expressions

  -- expressions in order, and what comes with their values
  pub listed_then : {A : Type 0} (es : List Tree) (xs before : List Value) (n n1 : ℕ) (told : Option (List ℕ))
      (k : List Value → BareCore → Plans A) → Listed fs d es xs s n n1 →
      run (meaning_of fs d) (eval_all es before (core_of s) k) (meter_at n told s) ≡
      run (meaning_of fs d) (k (before ++ xs) (core_of s)) (meter_at n1 told s)
  listed_then [] [] before n n1 told k v =
      ap (λ m. run (meaning_of fs d) (k before (core_of s)) (meter_at m told s)) (sym v) ∙
      ap (λ l. run (meaning_of fs d) (k l (core_of s)) (meter_at n1 told s)) (sym (append-nil before))
  listed_then [] (x ∷ xs) before n n1 told k v = absurd v
  listed_then (e ∷ es) [] before n n1 told k v = absurd v
  listed_then (e ∷ es) (x ∷ xs) before n n1 told k v =
      after (λ y c. eval_all es (before ++ y ∷ []) c k) (v.1.0 told) ∙ listed_then es xs (before ++ x ∷ []) v.0 n1 told k v.1.1 ∙
      ap (λ l. run (meaning_of fs d) (k l (core_of s)) (meter_at n1 told s)) (append_assoc before (x ∷ []) xs)

  -- one expression of a slice, and two
  pub cut_by_one : (o : Option Cut) (shape : SliceShape) (e : TypedTree) (z : ℤ) (n n1 : ℕ) → Finds (Some (int z)) fs d e s n n1 →
      IfSome o (Cuts shape (int z ∷ [])) → CutsAt o shape fs d (tree_of e ∷ []) s n n1
  cut_by_one None shape e z n n1 f c = record {}
  cut_by_one (Some cut) shape e z n n1 f c = record { given = int z ∷ []; cuts = c; listed = (n1, (f, refl)) }

  pub cut_by_two : (o : Option Cut) (shape : SliceShape) (a b : TypedTree) (y z : ℤ) (n n1 n2 : ℕ) → Finds (Some (int y)) fs d a s n n1 →
      Finds (Some (int z)) fs d b s n1 n2 → IfSome o (Cuts shape (int y ∷ int z ∷ [])) →
      CutsAt o shape fs d (tree_of a ∷ tree_of b ∷ []) s n n2
  cut_by_two None shape a b y z n n1 n2 e f c = record {}
  cut_by_two (Some cut) shape a b y z n n1 n2 e f c = record {
    given = int y ∷ int z ∷ [];
    cuts = c;
    listed = (n1, (e, (n2, (f, refl))));
  }

  -- the operand, and then the expressions of its slice
  pub cut_found : (o : Option Value) (span : Span) (a : TypedTree) (shape : SliceShape) (cut : Cut) (es : List Tree) (x : Value)
      (n n1 n2 : ℕ) → Finds (Some x) fs d a s n n1 → CutBy cut shape fs d es s n1 n2 →
      ((given : List Value) → Cuts shape given cut → Gives o (slices_of WIDTH_LIMIT span (shape ∷ []) given x)) →
      Ends o fs d (λ c. behind_more (tree_of a) es c (λ y zs. slices_of WIDTH_LIMIT span (shape ∷ []) zs y)) s n n2
  cut_found None span a shape cut es x n n1 n2 e f g = record {}
  cut_found (Some v) span a shape cut es x n n1 n2 e f g = λ told.
      after (λ y c. behind_all es c (λ zs. slices_of WIDTH_LIMIT span (shape ∷ []) zs y)) (e told) ∙
      listed_then es f.given [] n1 n2 told (λ zs c. at_once (slices_of WIDTH_LIMIT span (shape ∷ []) zs x) c) f.listed ∙
      given_there n2 told (g f.given f.cuts)

  -- the parameters and the arguments of a subprogram of the library, and what it gives
  pub called : (o : Option Value) (span : Span) (r : Routine) (ps es : List Tree) (ys xs : List Value) (n n1 n2 : ℕ) →
      Listed fs d ps ys s n n1 → Listed fs d es xs s n1 n2 → Gives o (routine_value WIDTH_LIMIT span r ys xs) →
      Ends o fs d (library_call span r ps es) s n n2
  called None span r ps es ys xs n n1 n2 a b g = record {}
  called (Some z) span r ps es ys xs n n1 n2 a b g = λ told.
      listed_then ps ys [] n n1 told
      (λ us c. eval_all es [] c (λ vs c1. follow (routine_gives (routine_value WIDTH_LIMIT span r us vs) c1) (function_gives span))) a ∙
      listed_then es xs [] n1 n2 told (λ vs c. follow (routine_gives (routine_value WIDTH_LIMIT span r ys vs) c) (function_gives span)) b ∙
      ap (λ (t : Pure Value). run (meaning_of fs d) (follow (routine_gives t (core_of s)) (function_gives span)) (meter_at n2 told s)) g

  -- ---- the entry

  -- an expression gives what its plan gives one step and one level below
  pub begun : (o : Option Value) (e : TypedTree) (n n1 : ℕ) → 0 < n → 0 < d →
      Ends o fs (d - 1) (tree_node (program_of fs) (tree_of e)) s (n - 1) n1 → Finds o fs d e s n n1
  begun None e n n1 has deep p = record {}
  begun (Some x) e n n1 has deep p = λ told.
      expr_done fs d (tree_of e) x (core_of s) (core_of s) (meter_at n told s) (meter_at n1 told s) deep has (p told)

-- ---- values

-- an operator on integers, on bits, or on both that gives a value asks both operands
pub strict_integers : (span : Span) (op : BinaryOperator) (x y : ℤ) (z : Value) → of_integers span op x y ≡ Good z → strictness op ≡ Strict
strict_integers span binary.LogicalAnd x y z e = cc
strict_integers span binary.LogicalOr x y z e = cc
strict_integers span binary.Implies x y z e = cc
strict_integers span op x y z e = refl

stuck_either : (b : Bool) (span : Span) (z : Value) → cond b (Bad (Stuck WrongKind span)) (Bad (Stuck WrongKind span)) ≡ Good z → ⊥
stuck_either true span z e = cc
stuck_either false span z e = cc

pub strict_bits : (span : Span) (op : BinaryOperator) (x y : List Bool) (z : Value) → of_bits WIDTH_LIMIT span op x y ≡ Good z →
    strictness op ≡ Strict
strict_bits span binary.LogicalAnd x y z e = absurd (stuck_either (length x == length y) span z e)
strict_bits span binary.LogicalOr x y z e = absurd (stuck_either (length x == length y) span z e)
strict_bits span binary.Implies x y z e = absurd (stuck_either (length x == length y) span z e)
strict_bits span op x y z e = refl

pub strict_mixed : (span : Span) (op : BinaryOperator) (x : List Bool) (y : ℤ) (z : Value) → of_bits_and_integer span op x y ≡ Good z →
    strictness op ≡ Strict
strict_mixed span binary.LogicalAnd x y z e = cc
strict_mixed span binary.LogicalOr x y z e = cc
strict_mixed span binary.Implies x y z e = cc
strict_mixed span op x y z e = refl

-- what is found has no bitfields to lose
pub strips_nothing : (r : AtOnce) (holds : Bool) → option_map (stripping holds) (found r) ≡ found r
strips_nothing (variants_of.Integer z) true = refl
strips_nothing (variants_of.Truth b) true = refl
strips_nothing (variants_of.Bits bs) true = refl
strips_nothing r holds = refl

-- one shape
pub one_shape : (ss : List Shape) (s : Shape) → length ss ≡ 1 → all_slices ss ≡ slice_of (get_or ss 0 s) ∷ []
one_shape [] s h = absurd (omega (arith, h))
one_shape (x ∷ []) s h = refl
one_shape (x ∷ y ∷ ss) s h = absurd (omega (arith, h))

-- lists of no tree, of one and of two
pub no_tree : (ts : List TypedTree) → length ts ≡ 0 → list_of (all_trees ts) ≡ []
no_tree [] h = refl
no_tree (x ∷ ts) h = absurd (omega (arith, h))

pub one_tree : (ts : List TypedTree) (t : TypedTree) → length ts ≡ 1 → t ≡ get_or ts 0 t → list_of (all_trees ts) ≡ tree_of t ∷ []
one_tree [] t h e = absurd (omega (arith, h))
one_tree (x ∷ []) t h e = ap (λ u. tree_of u ∷ []) (sym e)
one_tree (x ∷ y ∷ ts) t h e = absurd (omega (arith, h))

pub two_trees : (ts : List TypedTree) (t u : TypedTree) → length ts ≡ 2 → t ≡ get_or ts 0 t → u ≡ get_or ts 1 u →
    list_of (all_trees ts) ≡ tree_of t ∷ tree_of u ∷ []
two_trees [] t u h e f = absurd (omega (arith, h))
two_trees (x ∷ []) t u h e f = absurd (omega (arith, h))
two_trees (x ∷ y ∷ []) t u h e f = ap (λ w. tree_of w ∷ tree_of y ∷ []) (sym e) ∙ ap (λ w. tree_of t ∷ tree_of w ∷ []) (sym f)
two_trees (x ∷ y ∷ z ∷ ts) t u h e f = absurd (omega (arith, h))

-- ---- answers

pub truth_there : (b : Bool) → value_of (variants.Bool b) ≡ bool b
truth_there b = ap value_of (sym (variants.rolls-Bool b)) ∙ fold-roll-Value view.Of Value view.field_rule view.value_rule (layers.Bool b)

-- what was found is the answer, and the steps that it takes are gone
pub answered : (r : AtOnce) (x y : Value) (fs : List TreeFunc) (d : ℕ) (e : TypedTree) (s : Run) (n1 : ℕ) (told : Option (List ℕ)) →
    found r ≡ Some x → y ≡ x → ((gs : List TreeFunc) → Finds (found r) gs d e s s.steps n1) →
    (meaning_of fs d).expr (tree_of e) (core_of s) (meter_of s told) ≡ Done y (core_of s) (meter_at n1 told s)
answered r x y fs d e s n1 told is same f =
    subst (λ (o : Option Value). Finds o fs d e s s.steps n1) is (f fs) told ∙
    ap (λ (z : Value). Done z (core_of s) (meter_at n1 told s)) (sym same)
