-- What typed trees do, over a state of bare values: a name and a field are places, and nothing is asked of types or of what can be assigned. The plans are those
-- of the untyped trees, but for names, fields, constructions and places; a value that goes into a place with a written type takes the bitfields that are written
-- there. Where no bits occur in the type of a value, its bitfields aren't looked for.
use Rattle.std.specs.Prelude.{ℕ, zero, suc, Bool, true, false, List, [], ◌∷◌, ◌++◌, length, map, take, replicate, slice_get, Option, Some, None, option_map, option_and_then}
use Rattle.asl_syn.specs.declared.token.Span.{Span}
use Rattle.asl_syn.specs.declared.code.DynCode.TheVariants.{D15}
use Rattle.asl_rules.specs.declared.slot.Slot.{Slot}
use Rattle.asl_rules.specs.declared.slot.Slot.TheVariants.{Local, Global}
use Rattle.asl_rules.specs.types.Types.{Ty}
use Rattle.asl_rules.specs.runs.Trees as tree
use Rattle.asl_rules.specs.runs.Trees.{Tree, Trees, no_tree, tree_and, tree_at, tree_type, Act, Acts, no_act, act_and, act_at, Branches, no_branch, branch_and, Alternatives, no_alternative, alternative_and, Catchers, no_catcher, catcher_and, Last, none_last, otherwise, TreeStep, TreePlace, TreeItem, Taken, Callee, own, of_library, TreeFunc}
use Rattle.asl_rules.specs.private.ByPlace as places
use Rattle.asl_rules.specs.private.ByPlace.{Step, seen_as, seen_where, part_in}
use Rattle.asl_rules.specs.values.Values.{Value, Exit}
use Rattle.asl_rules.specs.types.Views.{stripping}
use Rattle.asl_rules.specs.private.HoldsBits.{holds_bits}
use Rattle.asl_rules.specs.values.Vectors.{slices_of, bitfield_of, bitfields_of}
use Rattle.asl_rules.specs.values.Matching.{is_matched}
use Rattle.asl_rules.specs.types.Written.{Sized, filled, converted}
use Rattle.asl_rules.specs.values.Library.{routine_value}
use Rattle.asl_rules.specs.declarations.Programs.{origin}
use Rattle.asl_rules.specs.runs.Evaluation.{width_of_bits}
use Rattle.asl_rules.specs.values.Structures.{parts}
use Rattle.asl_rules.specs.values.Strings.{string_text}
use Rattle.asl_rules.specs.values.Operators.{unary_value}
use Rattle.asl_rules.specs.runs.Plans.{Faulted, Stuck, UnknownName, WrongKind, Plan, Ret, Stop, Pure, Good, Bad, lift, Meaning, Nodes, meanings}
use Rattle.asl_rules.specs.runs.Pures.{◌>>=◌, there, known, found_type}
use Rattle.asl_rules.specs.runs.ByNames.{matched_in}
use Rattle.asl_rules.specs.runs.Forms.{at_once, literal, behind, behind_all, behind_more, operation, conditional, element, tuple, call, function_gives, procedure_gives, routine_gives, unless_full, Keeps, in_frame}
use Rattle.asl_rules.specs.runs.StatementForms.{Frames, done_normal, in_order, Branch, branch, branches, assertion, with_value, with_values, Ahead, ready, by_one, by_all, Store, assignment, return_value, Item, Written, Valued, print_items, Choice, case_of, for_loop, while_loop, repeat_loop, throw, Catch, try_list}

-- ---- states

-- a frame that waits for a call: its values in the order of their declarations, and the exceptions that are being handled in it, the innermost first
pub record BareFrame : Type 0 where
  pub values : List Value
  pub handled : List Value

-- the globals and the present frame, each place with its value, the exceptions that are being handled in this frame, the frames of the callers, and the numbers
-- of the subprograms that are active, of these three the innermost first
pub record BareCore : Type 0 where
  pub globals : List Value
  pub frame : List Value
  pub handled : List Value
  pub callers : List BareFrame
  pub live : List ℕ

-- what a run needs of a program: its subprograms in source order, and the width limit
pub record TreeProgram : Type 0 where
  pub funcs : List TreeFunc
  pub limit : ℕ

abbrev pub Runs : Type 0 → Type 1
Runs A = Plan BareCore Tree Act A

abbrev pub in_bare : Frames BareCore
in_bare = record {
  height = λ c. length c.frame;
  cut = λ n c. record c { frame = take n c.frame };
  handled = λ c. c.handled;
  with_handled = λ xs c. record c { handled = xs };
}

-- a call enters a frame with these values, in which nothing is handled, and one active subprogram more
abbrev pub entered : ℕ → List Value → BareCore → BareCore
entered id xs c = record { globals = c.globals; frame = xs; handled = []; callers = record { values = c.frame; handled = c.handled } ∷ c.callers; live = id ∷ c.live }

-- the end of a call: all is the caller's again but the globals
abbrev pub restored : BareCore → BareCore → BareCore
restored c c1 = record c { globals = c1.globals }

-- ---- places

abbrev pub value_at : Slot → BareCore → Option Value
value_at (Local i) c = slice_get c.frame i
value_at (Global i) c = slice_get c.globals i

-- these values with another in a place, where there is that place
abbrev pub set_at : ℕ → Value → List Value → Option (List Value)
set_at i x [] = None
set_at zero x (y ∷ ys) = Some (x ∷ ys)
set_at (suc i) x (y ∷ ys) = option_map (λ zs. y ∷ zs) (set_at i x ys)

-- a store in a place
abbrev pub put : Span → Slot → Value → BareCore → Pure BareCore
put span (Local i) x c = known span (option_map (λ xs. record c { frame = xs }) (set_at i x c.frame))
put span (Global i) x c = known span (option_map (λ xs. record c { globals = xs }) (set_at i x c.globals))

-- values in the next places of the frame
abbrev pub with_next : List Value → BareCore → BareCore
with_next xs c = record c { frame = c.frame ++ xs }

-- ---- lists of trees

abbrev pub list_of : Trees → List Tree
list_of no_tree = []
list_of (tree_and t ts) = t ∷ list_of ts

abbrev pub acts_of : Acts → List Act
acts_of no_act = []
acts_of (act_and s ss) = s ∷ acts_of ss

abbrev pub branches_of : Branches → List (Branch Tree Act)
branches_of no_branch = []
branches_of (branch_and e ss bs) = record { condition = e; body = acts_of ss } ∷ branches_of bs

abbrev pub choices_of : ℕ → Alternatives → List (Choice Tree Act)
choices_of limit no_alternative = []
choices_of limit (alternative_and ps es e ss others) = record { exprs = list_of es; matches = is_matched limit ps; condition = e; body = acts_of ss } ∷ choices_of limit others

-- an exception gets its name in the next place
abbrev pub caught_as : Bool → Option (Value → BareCore → Pure BareCore)
caught_as true = Some (λ x c. Good (with_next (x ∷ []) c))
caught_as false = None

abbrev pub catches_of : Catchers → List (Catch BareCore Act)
catches_of no_catcher = []
catches_of (catcher_and is_named name ss hs) = record { caught = name; named = caught_as is_named; body = acts_of ss } ∷ catches_of hs

abbrev pub last_of : Last → Option (List Act)
last_of none_last = None
last_of (otherwise ss) = Some (acts_of ss)

abbrev pub itself : {A : Type 0} → A → A
itself x = x

-- ---- calls

-- formals in order, each with the bitfields of its type
abbrev pub formals_seen : Span → List Ty → List Value → Pure (List Value)
formals_seen span [] [] = Good []
formals_seen span [] (x ∷ xs) = Bad (Stuck WrongKind span)
formals_seen span (T ∷ Ts) [] = Bad (Stuck WrongKind span)
formals_seen span (T ∷ Ts) (x ∷ xs) = formals_seen span Ts xs >>= λ ys. Good (seen_as T x ∷ ys)

-- what a function returns has the bitfields of its result
abbrev pub result_seen : Option Ty → Keeps
result_seen T = option_map (λ U x. Good (seen_as U x)) T

-- the body of a subprogram, with its parameters and its formals in the first places of its frame
abbrev pub run_with : Span → ℕ → TreeFunc → List Value → List Value → BareCore → Runs (Option Value)
run_with span id f ps xs c = lift (formals_seen span f.formals xs) c (λ ys. in_frame f.span (result_seen f.result) (restored c) (in_order (acts_of f.body) (entered id (ps ++ ys) c)))

-- the widths of the arguments in these places
abbrev pub widths_of : Span → List ℕ → List Value → Pure (List Value)
widths_of span [] xs = Good []
widths_of span (i ∷ is) xs = there span (option_and_then width_of_bits (slice_get xs i)) >>= λ y. widths_of span is xs >>= λ ys. Good (y ∷ ys)

-- the parameters: those in braces, or else the widths of arguments
abbrev pub params_of : Span → List ℕ → List Value → List Value → Pure (List Value)
params_of span is [] xs = widths_of span is xs
params_of span is (p ∷ ps) xs = Good (p ∷ ps)

abbrev pub called : Span → ℕ → List ℕ → List Value → List Value → BareCore → Option TreeFunc → Runs (Option Value)
called span id is ps xs c None = Stop (Stuck UnknownName span) c
called span id is ps xs c (Some f) = unless_full span id c.live f.limit (lift (params_of span is ps xs) c (λ qs. run_with span id f qs xs c)) c

abbrev pub call_of : TreeProgram → Span → Callee → List ℕ → List Value → List Value → BareCore → Runs (Option Value)
call_of p span (own id) is ps xs c = called span id is ps xs c (slice_get p.funcs id)
call_of p span (of_library r) is ps xs c = routine_gives (routine_value p.limit span r ps xs) c

-- ---- expressions

abbrev pub tree_node : TreeProgram → Tree → BareCore → Runs Value
tree_node p (tree.Int n z) c = at_once (literal n.span z) c
tree_node p (tree.Constant n x) c = Ret x c
tree_node p (tree.Read n s) c = at_once (known n.span (value_at s c)) c
tree_node p (tree.Unary n o a) c = behind a c (unary_value n.span o)
tree_node p (tree.Binary n o a b) c = operation p.limit n.span o a b c
tree_node p (tree.Conditional n e a b) c = conditional (stripping (holds_bits n.ty)) n.span e a b c
tree_node p (tree.Tuple n es) c = tuple (list_of es) c
tree_node p (tree.Construct n s gs es) c = behind_all (list_of es) c (places.constructed n.span s gs)
tree_node p (tree.Call n s is ps es) c = call (list_of ps) (list_of es) c (call_of p n.span s is) (function_gives n.span)
tree_node p (tree.Field n a i) c = behind a c (places.field_in n.span i)
tree_node p (tree.Bitfield n a f) c = behind a c (bitfield_of n.span f)
tree_node p (tree.Bitfields n a fs) c = behind a c (bitfields_of p.limit n.span fs)
tree_node p (tree.Slices n a ss es) c = behind_more a (list_of es) c (λ x zs. slices_of p.limit n.span ss zs x)
tree_node p (tree.Element n a i) c = element n.span a i c
tree_node p (tree.As n a t es) c = behind_more a (list_of es) c (λ x zs. converted p.limit n.span (Some t) zs x)
tree_node p (tree.In n a s es) c = behind_more a (list_of es) c (λ x zs. matched_in p.limit s zs x)

-- ---- declarations

-- those parts of a tuple that have a name
abbrev pub parts_taken : Span → List Bool → List Value → Pure (List Value)
parts_taken span [] [] = Good []
parts_taken span [] (x ∷ xs) = Bad (Stuck WrongKind span)
parts_taken span (b ∷ bs) [] = Bad (Stuck WrongKind span)
parts_taken span (true ∷ bs) (x ∷ xs) = parts_taken span bs xs >>= λ ys. Good (x ∷ ys)
parts_taken span (false ∷ bs) (x ∷ xs) = parts_taken span bs xs

abbrev pub taken : Span → Taken → Value → Pure (List Value)
taken span tree.nothing x = Good []
taken span tree.whole x = Good (x ∷ [])
taken span (tree.in_parts bs) x = parts span x >>= λ xs. parts_taken span bs xs

abbrev pub declared : Span → Option Ty → Taken → Value → BareCore → Pure BareCore
declared span T b x c = taken span b (seen_where T x) >>= λ xs. Good (with_next xs c)

-- so many names, each with the first value of the type
abbrev pub declared_first : Span → ℕ → Option Sized → BareCore → Pure BareCore
declared_first span n o c = found_type span o >>= λ s. s.first >>= λ x. Good (with_next (replicate n x) c)

-- ---- assignments

abbrev pub step_ahead : TreeStep → Ahead Tree Step
step_ahead (tree.into_field span i) = ready (places.into_field span i)
step_ahead (tree.into_bitfield span f) = ready (places.into_bitfield span f)
step_ahead (tree.into_bitfields span fs) = ready (places.into_bitfields span fs)
step_ahead (tree.into_slices span shapes es) = by_all (list_of es) (places.into_slices span shapes)
step_ahead (tree.into_element span e) = by_one e (places.into_element span)

-- a store at the end of these steps
abbrev pub stored : ℕ → Bool → Span → Slot → Value → List Step → BareCore → Pure BareCore
stored limit holds span s y ss c = known span (value_at s c) >>= λ x. places.updated limit holds ss y x >>= λ z. put span s z c

-- the stores of an assignment, each of its part of the value
abbrev pub stores : ℕ → Bool → List TreePlace → Value → Pure (List (Store BareCore Tree Step))
stores limit holds [] x = Good []
stores limit holds (p ∷ ps) x = part_in p.span p.way x >>= λ y. stores limit holds ps x >>= λ ss. Good (record { steps = map step_ahead p.steps; put = stored limit holds p.span p.slot y } ∷ ss)

-- ---- statements

abbrev pub item_of : TreeItem → Item Tree
item_of (tree.Verbatim t) = Written (string_text t)
item_of (tree.Shown e) = Valued e

-- the index of a loop is in the next place
abbrev pub indexed : Value → BareCore → Pure BareCore
indexed x c = Good (with_next (x ∷ []) c)

abbrev pub act_node : TreeProgram → Act → BareCore → Runs Exit
act_node p (tree.Pass span) c = done_normal c
act_node p (tree.Unreachable span) c = Stop (Faulted D15 span) c
act_node p (tree.Assert span e) c = assertion span e c
act_node p (tree.Declare span T b e) c = with_value e (declared span T b) c
act_node p (tree.DeclareFirst span n at t es) c = with_values (list_of es) (λ zs. declared_first span n (filled p.limit at t zs)) c
act_node p (tree.Assign span ps e) c = assignment e (stores p.limit (holds_bits (tree_type e)) ps) c
act_node p (tree.Invoke span s is ps es) c = call (list_of ps) (list_of es) c (call_of p span s is) (procedure_gives span)
act_node p (tree.If span e first others last) c = branch in_bare span e (acts_of first) (branches in_bare itself span (branches_of others) (acts_of last)) c
act_node p (tree.Case span e others last) c = case_of in_bare itself span e (choices_of p.limit others) (last_of last) c
act_node p (tree.For span a d b l ss) c = for_loop in_bare indexed span a d b l (acts_of ss) c
act_node p (tree.While span e l ss) c = while_loop in_bare span e l (acts_of ss) c
act_node p (tree.Repeat span ss e l) c = repeat_loop in_bare span (acts_of ss) e l c
act_node p (tree.Return span o) c = return_value o c
act_node p (tree.Throw span o) c = throw in_bare span o c
act_node p (tree.Try span ss hs last) c = try_list in_bare itself (acts_of ss) (catches_of hs) (last_of last) c
act_node p (tree.Print span kind is) c = print_items item_of kind is c

-- what the nodes of typed trees do, and what they mean where at most d more may be open
abbrev pub tree_nodes : TreeProgram → Nodes BareCore Tree Act
tree_nodes p = record { expr_at = tree_at; stmt_at = act_at; expr = tree_node p; stmt = act_node p }

abbrev pub tree_meaning : TreeProgram → ℕ → Meaning BareCore Tree Act
tree_meaning p d = meanings (tree_nodes p) d

-- ---- calls from outside

abbrev pub call_func : ℕ → Option TreeFunc → List Value → BareCore → Runs (Option Value)
call_func id None args c = Stop (Stuck UnknownName origin) c
call_func id (Some f) args c = run_with f.span id f [] args c

-- of a subprogram without parameters, which no limit refuses
abbrev pub tree_call : TreeProgram → ℕ → List Value → BareCore → Runs (Option Value)
tree_call p id args c = call_func id (slice_get p.funcs id) args c
