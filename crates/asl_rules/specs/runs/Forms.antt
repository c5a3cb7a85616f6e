-- The plans of the forms of expression, over any kind of state and of trees: runs over untyped trees, constants, and runs over
-- typed trees are uses of them.
use Rattle.std.specs.Prelude.{ℕ, ◌+◌, ◌==◌, ℤ, pos, if◌then◌else◌, List, [], ◌∷◌, ◌++◌, Option, Some, None}
use Rattle.asl_syn.specs.declared.token.Span.{Span}
use Rattle.asl_syn.specs.declared.code.DynCode.TheVariants.{D11}
use Rattle.asl_syn.specs.declared.tree.BinaryOperator.{BinaryOperator}
use Rattle.asl_rules.specs.values.Values.{Value, bool, tuple_with}
use Rattle.asl_rules.specs.runs.Plans.{Faulted, Stuck, WrongKind, EndReached, Plan, Ret, Raise, Stop, Eval, Within, choose, follow, Pure, Good, Bad, lift}
use Rattle.asl_rules.specs.runs.Pures.{◌>>=◌}
use Rattle.asl_rules.specs.values.Operators.{integer_of, binary_value, truth, less, Decided, Already, ByRight, Strictness, Strict, Lazy, strictness}
use Rattle.asl_rules.specs.values.Structures.{element_of, values_of}
use Rattle.asl_rules.specs.values.Values.{Exit, Normal, Returned}

abbrev pub give : {C E S A : Type 0} → C → A → Plan C E S A
give c x = Ret x c

-- what is given without a node below
abbrev pub at_once : {C E S A : Type 0} → Pure A → C → Plan C E S A
at_once r c = lift r c (give c)

-- an integer literal stands for its number
abbrev pub literal : Span → ℕ → Pure Value
literal span n = integer_of span (pos n)

-- an operand, and what its value gives
abbrev pub behind : {C E S A : Type 0} → E → C → (Value → Pure A) → Plan C E S A
behind a c f = Eval a c (λ x c1. at_once (f x) c1)

-- two operands in order
abbrev pub behind_two : {C E S A : Type 0} → E → E → C → (Value → Value → Pure A) → Plan C E S A
behind_two a b c f = Eval a c (λ x c1. behind b c1 (f x))

-- expressions in order, and what comes with their values
abbrev pub eval_all : {C E S A : Type 0} → List E → List Value → C → (List Value → C → Plan C E S A) → Plan C E S A
eval_all [] xs c k = k xs c
eval_all (e ∷ es) xs c k = Eval e c (λ x c1. eval_all es (xs ++ x ∷ []) c1 k)

-- operands in order, and what their values give
abbrev pub behind_all : {C E S A : Type 0} → List E → C → (List Value → Pure A) → Plan C E S A
behind_all es c f = eval_all es [] c (λ xs c1. at_once (f xs) c1)

-- one operand, and then those of what is done with it
abbrev pub behind_more : {C E S A : Type 0} → E → List E → C → (Value → List Value → Pure A) → Plan C E S A
behind_more a es c f = Eval a c (λ x c1. behind_all es c1 (f x))

-- ---- operators

-- the right operand, where the left one doesn't decide
abbrev pub ask_right : {C E S : Type 0} → ℕ → Span → BinaryOperator → E → Value → C → Plan C E S Value
ask_right limit span o b x c = behind b c (binary_value limit span o x)

abbrev pub unless_decided : {C E S : Type 0} → ℕ → Span → BinaryOperator → E → Value → C → Decided → Plan C E S Value
unless_decided limit span o b x c (Already r) = Ret (bool r) c
unless_decided limit span o b x c ByRight = ask_right limit span o b x c

abbrev pub behind_left : {C E S : Type 0} → ℕ → Span → BinaryOperator → E → Value → Strictness → C → Plan C E S Value
behind_left limit span o b x Strict c = ask_right limit span o b x c
behind_left limit span o b x (Lazy f) c = lift (truth span x) c (λ p. unless_decided limit span o b x c (f p))

abbrev pub operation : {C E S : Type 0} → ℕ → Span → BinaryOperator → E → E → C → Plan C E S Value
operation limit span o a b c = Eval a c (λ x c1. behind_left limit span o b x (strictness o) c1)

-- ---- conditionals, elements and tuples

-- the branch that is taken, whose bits lose their bitfields by this function
abbrev pub branch_value : {C E S : Type 0} → (Value → Value) → E → C → Plan C E S Value
branch_value strip a c = Eval a c (λ y c1. Ret (strip y) c1)

abbrev pub conditional : {C E S : Type 0} → (Value → Value) → Span → E → E → E → C → Plan C E S Value
conditional strip span e a b c = Eval e c (λ x c1. lift (truth span x) c1 (λ p. choose p (branch_value strip a c1) (branch_value strip b c1)))

abbrev pub element : {C E S : Type 0} → Span → E → E → C → Plan C E S Value
element span a i c = behind_two a i c (element_of span)

abbrev pub tuple : {C E S : Type 0} → List E → C → Plan C E S Value
tuple es c = behind_all es c (λ xs. Good (tuple_with (values_of xs)))

-- ---- calls

-- the parameters and then the arguments, what is called with their values, and what comes with what it gives
abbrev pub call : {C E S A : Type 0} → List E → List E → C → (List Value → List Value → C → Plan C E S (Option Value)) → (Option Value → C → Plan C E S A) → Plan C E S A
call ps es c f k = eval_all ps [] c (λ ys c1. eval_all es [] c1 (λ xs c2. follow (f ys xs c2) k))

-- a function gives a value, a procedure none
abbrev pub function_gives : {C E S : Type 0} → Span → Option Value → C → Plan C E S Value
function_gives span None c = Stop (Stuck WrongKind span) c
function_gives span (Some x) c = Ret x c

abbrev pub procedure_gives : {C E S : Type 0} → Span → Option Value → C → Plan C E S Exit
procedure_gives span None c = Ret Normal c
procedure_gives span (Some x) c = Stop (Stuck WrongKind span) c

-- what a subprogram of the library gives, without a frame
abbrev pub routine_gives : {C E S : Type 0} → Pure Value → C → Plan C E S (Option Value)
routine_gives r c = lift r c (λ x. Ret (Some x) c)

-- how often a subprogram is active
abbrev pub activations : ℕ → List ℕ → ℕ
activations id [] = 0
activations id (n ∷ ns) = if n == id then activations id ns + 1 else activations id ns

-- D11 where a subprogram is as often active as it may be
abbrev pub unless_full : {C E S A : Type 0} → Span → ℕ → List ℕ → ℤ → Plan C E S A → C → Plan C E S A
unless_full span id live limit q c = choose (less (pos (activations id live)) limit) q (Stop (Faulted D11 span) c)

-- what a body gives: in a function a value, as the type of the result keeps it, and none in a procedure
abbrev pub Keeps : Type 0
Keeps = Option (Value → Pure Value)

abbrev pub returned : Span → Keeps → Option Value → Pure (Option Value)
returned span None None = Good None
returned span None (Some x) = Bad (Stuck WrongKind span)
returned span (Some f) None = Bad (Stuck WrongKind span)
returned span (Some f) (Some x) = f x >>= λ y. Good (Some y)

-- the end of a body: a function gives the value that it returned, and a procedure ends; the caller has its own frame again
abbrev pub at_end : {C E S : Type 0} → Span → Keeps → (C → C) → Exit → C → Plan C E S (Option Value)
at_end span r back (Returned o) c = lift (returned span r o) c (λ x. Ret x (back c))
at_end span None back Normal c = Ret None (back c)
at_end span (Some f) back Normal c = Stop (Stuck EndReached span) c

-- a body, in a frame of its own
abbrev pub in_frame : {C E S : Type 0} → Span → Keeps → (C → C) → Plan C E S Exit → Plan C E S (Option Value)
in_frame span r back body = Within body (at_end span r back) (λ x c. Raise x (back c))
