-- The plans of the forms of statement, over any kind of state and of trees.
use Rattle.std.specs.Prelude.{ℕ, zero, suc, ℤ, pos, negsuc, ◌+ℤ◌, ◌-ℤ◌, Bool, false, List, [], ◌∷◌, ◌++◌, Option, Some, None}
use Rattle.asl_syn.specs.declared.token.Span.{Span}
use Rattle.asl_syn.specs.declared.code.DynCode.TheVariants.{D08, D09, D10}
use Rattle.asl_syn.specs.declared.tree.Direction.{Direction}
use Rattle.asl_syn.specs.declared.tree.Direction.TheVariants.{Up, Down}
use Rattle.asl_syn.specs.declared.tree.PrintKind.{PrintKind}
use Rattle.asl_syn.specs.declared.tree.PrintKind.TheVariants.{Print, PrintLine}
use Rattle.asl_rules.specs.types.Types.{reaches}
use Rattle.asl_rules.specs.runs.Limits.{most_turns}
use Rattle.asl_rules.specs.values.Values.{Value, int, exception_with, Exit, Normal, Returned}
use Rattle.asl_rules.specs.report.Texts.{value_text, line_feed}
use Rattle.asl_rules.specs.runs.Plans.{Faulted, Stuck, WrongKind, NothingCaught, Plan, Ret, Raise, Stop, Eval, Exec, Put, Within, choose, follow, Pure, Good, Bad, lift}
use Rattle.asl_rules.specs.values.Operators.{truth, less}
use Rattle.asl_rules.specs.runs.Forms.{eval_all}

-- how a state keeps its frame: its height, what it is when it is cut to a height, and the exceptions that are being handled in it,
-- the innermost first
pub record Frames (C : Type 0) : Type 0 where
  pub height : C → ℕ
  pub cut : ℕ → C → C
  pub handled : C → List Value
  pub with_handled : List Value → C → C

abbrev pub done_normal : {C E S : Type 0} → C → Plan C E S Exit
done_normal c = Ret Normal c

-- ---- lists of statements

-- statements in order, up to one that returns
abbrev pub go_on : {C E S : Type 0} → Exit → C → (C → Plan C E S Exit) → Plan C E S Exit
go_on Normal c go = go c
go_on (Returned x) c go = Ret (Returned x) c

abbrev pub in_order : {C E S : Type 0} → List S → C → Plan C E S Exit
in_order [] c = Ret Normal c
in_order (s ∷ ss) c = Exec s c (λ x c1. go_on x c1 (in_order ss))

-- a list in a scope that ends at this height
abbrev pub leave : {C E S : Type 0} → Frames C → ℕ → Exit → C → Plan C E S Exit
leave f n x c = Ret x (f.cut n c)

abbrev pub scope_from : {C E S : Type 0} → Frames C → ℕ → List S → C → Plan C E S Exit
scope_from f n ss c = follow (in_order ss c) (leave f n)

-- a list with a scope of its own
abbrev pub scope : {C E S : Type 0} → Frames C → List S → C → Plan C E S Exit
scope f ss c = scope_from f (f.height c) ss c

-- a list in whose scope a name stands before it
abbrev pub scope_with : {C E S : Type 0} → Frames C → (C → Pure C) → List S → C → Plan C E S Exit
scope_with f named ss c = lift (named c) c (λ c1. scope_from f (f.height c) ss c1)

-- ---- conditions

-- a condition, and what comes where it holds and where it doesn't
abbrev pub asked : {C E S A : Type 0} → Span → E → C → (C → Plan C E S A) → (C → Plan C E S A) → Plan C E S A
asked span e c first second = Eval e c (λ x c1. lift (truth span x) c1 (λ b. choose b (first c1) (second c1)))

-- a list whose condition is asked, and what comes where it is FALSE
abbrev pub branch : {C E S : Type 0} → Frames C → Span → E → List S → (C → Plan C E S Exit) → C → Plan C E S Exit
branch f span e ss rest c = asked span e c (scope f ss) rest

-- a condition with its list
pub record Branch (E S : Type 0) : Type 0 where
  pub condition : E
  pub body : List S

abbrev pub branches : {C E S B : Type 0} → Frames C → (B → Branch E S) → Span → List B → List S → C → Plan C E S Exit
branches f view span [] last c = scope f last c
branches f view span (b ∷ bs) last c = branch f span (view b).condition (view b).body (branches f view span bs last) c

abbrev pub asserted : {C E S : Type 0} → Span → C → Plan C E S Exit
asserted span c = Stop (Faulted D08 span) c

abbrev pub assertion : {C E S : Type 0} → Span → E → C → Plan C E S Exit
assertion span e c = asked span e c done_normal (asserted span)

-- ---- declarations, assignments and ends of bodies

-- an expression, and what is done with its value
abbrev pub with_value : {C E S : Type 0} → E → (Value → C → Pure C) → C → Plan C E S Exit
with_value e f c = Eval e c (λ x c1. lift (f x c1) c1 done_normal)

-- expressions in order, and what is done with their values
abbrev pub with_values : {C E S : Type 0} → List E → (List Value → C → Pure C) → C → Plan C E S Exit
with_values es f c = eval_all es [] c (λ xs c1. lift (f xs c1) c1 done_normal)

-- a step from a place into its value: it needs the value of no expression, of one, or of several
pub data Ahead (E N : Type 0) : Type 0 where
  ready : N → Ahead E N
  by_one : E → (Value → N) → Ahead E N
  by_all : List E → (List Value → N) → Ahead E N

abbrev pub eval_step : {C E S N A : Type 0} → Ahead E N → C → (N → C → Plan C E S A) → Plan C E S A
eval_step (ready n) c k = k n c
eval_step (by_one e f) c k = Eval e c (λ x c1. k (f x) c1)
eval_step (by_all es f) c k = eval_all es [] c (λ xs c1. k (f xs) c1)

abbrev pub eval_steps : {C E S N A : Type 0} → List (Ahead E N) → List N → C → (List N → C → Plan C E S A) → Plan C E S A
eval_steps [] ns c k = k ns c
eval_steps (s ∷ ss) ns c k = eval_step s c (λ n c1. eval_steps ss (ns ++ n ∷ []) c1 k)

-- a store: the way to a place, and what the store makes of a state
pub record Store (C E N : Type 0) : Type 0 where
  pub steps : List (Ahead E N)
  pub put : List N → C → Pure C

-- stores in turn, each its operands first
abbrev pub store_each : {C E S N : Type 0} → List (Store C E N) → C → Plan C E S Exit
store_each [] c = Ret Normal c
store_each (s ∷ ss) c = eval_steps s.steps [] c (λ ns c1. lift (s.put ns c1) c1 (store_each ss))

-- an expression, and the stores of its value
abbrev pub assignment : {C E S N : Type 0} → E → (Value → Pure (List (Store C E N))) → C → Plan C E S Exit
assignment e f c = Eval e c (λ x c1. lift (f x) c1 (λ ss. store_each ss c1))

abbrev pub return_value : {C E S : Type 0} → Option E → C → Plan C E S Exit
return_value None c = Ret (Returned None) c
return_value (Some e) c = Eval e c (λ x c1. Ret (Returned (Some x)) c1)

-- ---- printing

-- one thing that is printed: bytes, or an expression
pub data Item (E : Type 0) : Type 0 where
  Written : List ℕ → Item E
  Valued : E → Item E

abbrev pub print_item : {C E S : Type 0} → Item E → C → (C → Plan C E S Exit) → Plan C E S Exit
print_item (Written bytes) c go = Put bytes (go c)
print_item (Valued e) c go = Eval e c (λ x c1. Put (value_text x) (go c1))

abbrev pub end_print : {C E S : Type 0} → PrintKind → C → Plan C E S Exit
end_print Print c = Ret Normal c
end_print PrintLine c = Put line_feed (Ret Normal c)

-- items, each written when it is evaluated
abbrev pub print_items : {C E S I : Type 0} → (I → Item E) → PrintKind → List I → C → Plan C E S Exit
print_items view kind [] c = end_print kind c
print_items view kind (i ∷ is) c = print_item (view i) c (print_items view kind is)

-- ---- `case`

-- an alternative: the expressions in its patterns, whether a value matches where these have their values, its condition, and its list
pub record Choice (E S : Type 0) : Type 0 where
  pub exprs : List E
  pub matches : List Value → Value → Pure Bool
  pub condition : Option E
  pub body : List S

-- the condition is asked after a match
abbrev pub guarded : {C E S : Type 0} → Frames C → Span → Option E → List S → (C → Plan C E S Exit) → C → Plan C E S Exit
guarded f span None ss rest c = scope f ss c
guarded f span (Some e) ss rest c = branch f span e ss rest c

-- all expressions of an alternative's patterns, and then whether one matches
abbrev pub alternative : {C E S : Type 0} → Frames C → Span → Value → Choice E S → (C → Plan C E S Exit) → C → Plan C E S Exit
alternative f span x a rest c = eval_all a.exprs [] c (λ zs c1. lift (a.matches zs x) c1 (λ b. choose b (guarded f span a.condition a.body rest c1) (rest c1)))

abbrev pub no_match : {C E S : Type 0} → Frames C → Span → Option (List S) → C → Plan C E S Exit
no_match f span None c = Stop (Faulted D09 span) c
no_match f span (Some ss) c = scope f ss c

-- the first alternative that matches and whose condition holds
abbrev pub alternatives : {C E S A : Type 0} → Frames C → (A → Choice E S) → Span → Value → List A → Option (List S) → C → Plan C E S Exit
alternatives f view span x [] last c = no_match f span last c
alternatives f view span x (a ∷ others) last c = alternative f span x (view a) (alternatives f view span x others last) c

abbrev pub case_of : {C E S A : Type 0} → Frames C → (A → Choice E S) → Span → E → List A → Option (List S) → C → Plan C E S Exit
case_of f view span e others last c = Eval e c (λ x c1. alternatives f view span x others last c1)

-- ---- loops

-- how many turns a limit lets through
abbrev pub turns_in : ℤ → ℕ
turns_in (pos n) = n
turns_in (negsuc n) = 0

abbrev pub whole_number : Span → Value → Pure ℤ
whole_number span (int z) = Good z
whole_number span x = Bad (Stuck WrongKind span)

-- the limit is evaluated once
abbrev pub limited : {C E S A : Type 0} → Span → Option E → C → (ℕ → C → Plan C E S A) → Plan C E S A
limited span None c k = k most_turns c
limited span (Some e) c k = Eval e c (λ x c1. lift (whole_number span x) c1 (λ z. k (turns_in z) c1))

-- the index is past its last value
abbrev pub is_past : Direction → ℤ → ℤ → Bool
is_past Up last i = less last i
is_past Down last i = less i last

abbrev pub next_index : Direction → ℤ → ℤ
next_index Up i = i +ℤ pos 1
next_index Down i = i -ℤ pos 1

-- a turn with its index, where the limit lets one through (D10), and those behind it
abbrev pub index_turn : {C E S : Type 0} → Frames C → (Value → C → Pure C) → Span → Direction → ℤ → List S → ℕ → ℤ → C → Plan C E S Exit
index_turn f index span d last ss zero i c = Stop (Faulted D10 span) c
index_turn f index span d last ss (suc n) i c =
    follow (scope_with f (index (int i)) ss c) (λ x c1. go_on x c1 (λ c2.
    choose (is_past d last (next_index d i)) (Ret Normal c2) (index_turn f index span d last ss n (next_index d i) c2)))

abbrev pub index_turns : {C E S : Type 0} → Frames C → (Value → C → Pure C) → Span → Direction → ℤ → List S → ℕ → ℤ → C → Plan C E S Exit
index_turns f index span d last ss n i c = choose (is_past d last i) (Ret Normal c) (index_turn f index span d last ss n i c)

-- the bounds and then the limit, once
abbrev pub for_loop : {C E S : Type 0} → Frames C → (Value → C → Pure C) → Span → E → Direction → E → Option E → List S → C → Plan C E S Exit
for_loop f index span a d b l ss c =
    Eval a c (λ x c1. Eval b c1 (λ y c2. limited span l c2 (λ n c3.
    lift (whole_number span x) c3 (λ first. lift (whole_number span y) c3 (λ last. index_turns f index span d last ss n first c3)))))

abbrev pub while_turn : {C E S : Type 0} → Frames C → Span → E → List S → ℕ → C → Plan C E S Exit
while_turn f span e ss zero c = Stop (Faulted D10 span) c
while_turn f span e ss (suc n) c = follow (scope f ss c) (λ x c1. go_on x c1 (λ c2. asked span e c2 (while_turn f span e ss n) done_normal))

abbrev pub while_loop : {C E S : Type 0} → Frames C → Span → E → Option E → List S → C → Plan C E S Exit
while_loop f span e l ss c = limited span l c (λ n c1. asked span e c1 (while_turn f span e ss n) done_normal)

abbrev pub repeat_turn : {C E S : Type 0} → Frames C → Span → E → List S → ℕ → C → Plan C E S Exit
repeat_turn f span e ss zero c = Stop (Faulted D10 span) c
repeat_turn f span e ss (suc n) c = follow (scope f ss c) (λ x c1. go_on x c1 (λ c2. asked span e c2 done_normal (repeat_turn f span e ss n)))

abbrev pub repeat_loop : {C E S : Type 0} → Frames C → Span → List S → E → Option E → C → Plan C E S Exit
repeat_loop f span ss e l c = limited span l c (repeat_turn f span e ss)

-- ---- throwing and catching

abbrev pub thrown : {C E S : Type 0} → Span → Value → C → Plan C E S Exit
thrown span (exception_with own supers name xs) c = Raise (exception_with own supers name xs) c
thrown span x c = Stop (Stuck WrongKind span) c

-- what the innermost catcher caught is thrown again
abbrev pub thrown_again : {C E S : Type 0} → Span → List Value → C → Plan C E S Exit
thrown_again span [] c = Stop (Stuck NothingCaught span) c
thrown_again span (x ∷ xs) c = Raise x c

abbrev pub throw : {C E S : Type 0} → Frames C → Span → Option E → C → Plan C E S Exit
throw f span None c = thrown_again span (f.handled c) c
throw f span (Some e) c = Eval e c (thrown span)

-- what runs while an exception is being handled
abbrev pub handling : {C E S : Type 0} → Frames C → Value → (C → Plan C E S Exit) → C → Plan C E S Exit
handling f x q c = Within (q (f.with_handled (x ∷ f.handled c) c)) (λ e c1. Ret e (f.with_handled (f.handled c) c1)) (λ y c1. Raise y (f.with_handled (f.handled c) c1))

-- a catcher: the name of its type, how the exception gets its name, where it has one, and its list
pub record Catch (C S : Type 0) : Type 0 where
  pub caught : List ℕ
  pub named : Option (Value → C → Pure C)
  pub body : List S

-- the exception is of a catcher's type
abbrev pub is_caught : List ℕ → Value → Bool
is_caught name (exception_with own supers n xs) = reaches own supers name
is_caught name x = false

abbrev pub catch_list : {C E S : Type 0} → Frames C → Option (Value → C → Pure C) → Value → List S → C → Plan C E S Exit
catch_list f None x ss c = scope f ss c
catch_list f (Some named) x ss c = scope_with f (named x) ss c

abbrev pub catcher : {C E S : Type 0} → Frames C → Value → Catch C S → (C → Plan C E S Exit) → C → Plan C E S Exit
catcher f x h rest c = choose (is_caught h.caught x) (handling f x (catch_list f h.named x h.body) c) (rest c)

-- where no catcher takes it, `otherwise` does, or else it is thrown on
abbrev pub uncaught : {C E S : Type 0} → Frames C → Value → Option (List S) → C → Plan C E S Exit
uncaught f x None c = Raise x c
uncaught f x (Some ss) c = handling f x (scope f ss) c

abbrev pub catchers : {C E S H : Type 0} → Frames C → (H → Catch C S) → Value → List H → Option (List S) → C → Plan C E S Exit
catchers f view x [] last c = uncaught f x last c
catchers f view x (h ∷ hs) last c = catcher f x (view h) (catchers f view x hs last) c

-- a list, and the catchers of what it throws, in the frame before it
abbrev pub try_list : {C E S H : Type 0} → Frames C → (H → Catch C S) → List S → List H → Option (List S) → C → Plan C E S Exit
try_list f view ss hs last c = Within (scope f ss c) (λ x c1. Ret x c1) (λ x c1. catchers f view x hs last (f.cut (f.height c) c1))
