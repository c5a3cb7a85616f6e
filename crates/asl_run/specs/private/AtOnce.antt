-- What is evaluated and executed at once.
use Rattle.std.specs.Prelude.{◌≡◌, ◌+◌, ◌≤◌, ℕ, pos, Bool, true, false, List, [], ◌∷◌, length, map, Option, Some, None}
use Rattle.asl_bits.specs.declared.TheConstants.{WIDTH_LIMIT}
use Rattle.asl_bits.specs.Lists.{with_slice}
use Rattle.asl_syn.specs.declared.token.Span.{Span}
use Rattle.asl_rules.specs.declared.slot.Slot.{Slot}
use Rattle.asl_rules.specs.values.Operators.{Strictness, Strict, Lazy, Decided, Already, ByRight}
use Rattle.asl_rules.specs.declarations.Routines.{Routine}
use Rattle.asl_rules.specs.runs.Forms.{call, function_gives, routine_gives}
use Rattle.asl_rules.specs.runs.Plans.{Meter, Pure, Good, Done, run}
use Rattle.asl_rules.specs.runs.StatementForms.{assignment}
use Rattle.asl_rules.specs.runs.Trees.{Tree as RuleTree, TreePlace, TreeStep}
use Rattle.asl_rules.specs.private.TypedMeaning.{BareCore, Runs as Plans, put, stored, stores, value_at}
use Rattle.asl_rules.specs.types.Shapes.{SliceShape}
use Rattle.asl_rules.specs.types.Types.{View}
use Rattle.asl_rules.specs.types.Views.{adopted}
use Rattle.asl_rules.specs.values.Library.{routine_value}
use Rattle.asl_rules.specs.values.Operators.{plain_bits}
use Rattle.asl_rules.specs.values.Vectors.{slicings}
use Rattle.asl_rules.specs.values.Values as rules
use Rattle.asl_tree.specs.Acts.{act_of}
use Rattle.asl_tree.specs.View.{tree_of}
use Rattle.asl_tree.specs.declared.act.Act.{Act}
use Rattle.asl_tree.specs.declared.act.TreeFunc.{TreeFunc}
use Rattle.asl_tree.specs.declared.tree.Tree.{Tree}
use Rattle.asl_branches.specs.declared.run.Run.{Run}
use Rattle.asl_branches.specs.View.{core_of, meter_of, meaning_of}
use Rattle.asl_run.specs.declared.at_once.AtOnce.{AtOnce}
use Rattle.asl_run.specs.declared.at_once.AtOnce.TheVariants.{Integer, Truth, Bits, Neither}
use Rattle.asl_run.specs.declared.bits.Cut.{Cut}
use Rattle.asl_run.specs.private.Storing.{stored_in}
use Rattle.asl_value.specs.declared.value.Value.{Value}
use Rattle.asl_value.specs.View.{value_of}

-- the value that was found
abbrev pub found : AtOnce → Option rules.Value
found (Integer z) = Some (rules.int z)
found (Truth b) = Some (rules.bool b)
found (Bits bs) = Some (plain_bits bs)
found Neither = None

-- an operation on values gives it
abbrev pub Gives : Option rules.Value → Pure rules.Value → Type 0
Gives None r = Unit {0}
Gives (Some x) r = r ≡ Good x

-- where so many steps are left
abbrev pub meter_at : ℕ → Option (List ℕ) → Run → Meter
meter_at n told s = record { steps = n; told = told; text_open = s.text_open }

-- a plan gives it and leaves the state as it is, where so many steps are left before it and so many after it
abbrev pub Ends : Option rules.Value → List TreeFunc → ℕ → (BareCore → Plans rules.Value) → Run → ℕ → ℕ → Type 0
Ends None fs d q s n n1 = Unit {0}
Ends (Some x) fs d q s n n1 = (told : Option (List ℕ)) →
    run (meaning_of fs d) (q (core_of s)) (meter_at n told s) ≡ Done x (core_of s) (meter_at n1 told s)

-- an expression does
abbrev pub Finds : Option rules.Value → List TreeFunc → ℕ → Tree → Run → ℕ → ℕ → Type 0
Finds None fs d e s n n1 = Unit {0}
Finds (Some x) fs d e s n n1 = (told : Option (List ℕ)) →
    (meaning_of fs d).expr (tree_of e) (core_of s) (meter_at n told s) ≡ Done x (core_of s) (meter_at n1 told s)

-- ---- slices

-- a slice with these values has these places
pub record Cuts (shape : SliceShape) (given : List rules.Value) (cut : Cut) : Type 0 where
  pub read : slicings (shape ∷ []) given ≡ Some (record { low = pos cut.low; width = pos cut.width } ∷ [])
  pub within : cut.width ≤ WIDTH_LIMIT

-- expressions in order give these values and leave the state as it is, where so many steps are left before them and so many after
abbrev pub Listed : List TreeFunc → ℕ → List RuleTree → List rules.Value → Run → ℕ → ℕ → Type 0
Listed fs d [] [] s n n1 = n1 ≡ n
Listed fs d [] (x ∷ xs) s n n1 = ⊥
Listed fs d (e ∷ es) [] s n n1 = ⊥
Listed fs d (e ∷ es) (x ∷ xs) s n n1 =
    (m : ℕ) ×
    (((told : Option (List ℕ)) → (meaning_of fs d).expr e (core_of s) (meter_at n told s) ≡ Done x (core_of s) (meter_at m told s)) ×
    Listed fs d es xs s m n1)

-- those of a slice have values with which it has these places
pub record CutBy (cut : Cut) (shape : SliceShape) (fs : List TreeFunc) (d : ℕ) (es : List RuleTree) (s : Run) (n n1 : ℕ) : Type 0 where
  pub given : List rules.Value
  pub cuts : Cuts shape given cut
  pub listed : Listed fs d es given s n n1

abbrev pub CutsAt : Option Cut → SliceShape → List TreeFunc → ℕ → List RuleTree → Run → ℕ → ℕ → Type 0
CutsAt None shape fs d es s n n1 = Unit {0}
CutsAt (Some cut) shape fs d es s n n1 = CutBy cut shape fs d es s n n1

-- ---- calls

-- a call of a subprogram of the library, with its parameters and its arguments
abbrev pub library_call : Span → Routine → List RuleTree → List RuleTree → BareCore → Plans rules.Value
library_call span r ps es c = call ps es c (λ ys xs c1. routine_gives (routine_value WIDTH_LIMIT span r ys xs) c1) (function_gives span)

-- ---- operators that their left operand may decide

abbrev pub decision : Strictness → Bool → Decided
decision Strict a = ByRight
decision (Lazy f) a = f a

abbrev pub decided_as : Option Bool → Decided
decided_as None = ByRight
decided_as (Some r) = Already r

-- ---- stores

-- a value takes nothing of what stands in a place
abbrev pub TakesNothing : Option rules.Value → rules.Value → Type 0
TakesNothing o y = (x : rules.Value) → o ≡ Some x → adopted x y ≡ y

-- a value was stored among values, or they are the same
abbrev pub Sets : Bool → ℕ → rules.Value → List Value → List Value → Type 0
Sets false i x old new = new ≡ old
Sets true i x old new = (holds : Bool) (span : Span) → stored_in holds span i [] x (map value_of old) ≡ Good (map value_of new)

-- what was found was stored in a place, or the state is the same
abbrev pub Puts : Bool → Option rules.Value → Slot → Run → Run → Type 0
Puts false o slot s s1 = s1 ≡ s
Puts true None slot s s1 = ⊥
Puts true (Some x) slot s s1 = (holds : Bool) (span : Span) → stored WIDTH_LIMIT holds span slot x [] (core_of s) ≡ Good (core_of s1)

-- what was there is bits, and this is the same bits with a part in these places, of which there are as many
pub record Parted (z : Value) (cut : Cut) (part : List Bool) (there : Option rules.Value) : Type 0 where
  pub bits : List Bool
  pub view : View
  pub was : there ≡ Some (rules.bits_with bits view)
  pub fills : length part ≡ cut.width
  pub inside : cut.low + cut.width ≤ length bits
  pub is : value_of z ≡ rules.bits_with (with_slice bits cut.low part) view

abbrev pub WithPart : Option Value → Cut → List Bool → Option rules.Value → Type 0
WithPart None cut part there = Unit {0}
WithPart (Some z) cut part there = Parted z cut part there

-- a part was stored in these places of the bits that a place holds, or the state is the same
pub record PutPart (part : List Bool) (cut : Cut) (slot : Slot) (s s1 : Run) : Type 0 where
  pub bits : List Bool
  pub view : View
  pub was : value_at slot (core_of s) ≡ Some (rules.bits_with bits view)
  pub fills : length part ≡ cut.width
  pub inside : cut.low + cut.width ≤ length bits
  pub now_is : (span : Span) → put span slot (rules.bits_with (with_slice bits cut.low part) view) (core_of s) ≡ Good (core_of s1)

abbrev pub PutsPart : Bool → List Bool → Cut → Slot → Run → Run → Type 0
PutsPart false part cut slot s s1 = s1 ≡ s
PutsPart true part cut slot s s1 = PutPart part cut slot s s1

-- ---- statements

-- the normal end of what was executed
abbrev pub did : Bool → Option rules.Exit
did false = None
did true = Some rules.Normal

-- a plan was executed and ended so, where so many steps are left before it, or the state is the same
abbrev pub Executed : Option rules.Exit → List TreeFunc → ℕ → (BareCore → Plans rules.Exit) → Run → ℕ → Run → Type 0
Executed None fs d q s n s1 = s1 ≡ s
Executed (Some x) fs d q s n s1 = (told : Option (List ℕ)) →
    run (meaning_of fs d) (q (core_of s)) (meter_at n told s) ≡ Done x (core_of s1) (meter_of s1 told)

-- a statement was
abbrev pub Did : Option rules.Exit → List TreeFunc → ℕ → Act → Run → Run → Type 0
Did None fs d t s s1 = s1 ≡ s
Did (Some x) fs d t s s1 = (told : Option (List ℕ)) →
    (meaning_of fs d).stmt (act_of t) (core_of s) (meter_of s told) ≡ Done x (core_of s1) (meter_of s1 told)

-- ---- assignments

-- a place that takes the whole value, at the end of these steps
abbrev pub whole_at : Span → Slot → List TreeStep → TreePlace
whole_at span slot steps = record { span = span; way = []; slot = slot; steps = steps }

-- an expression, and the stores of its value; it is known whether bits occur in its type
abbrev pub assigns : Bool → List TreePlace → RuleTree → BareCore → Plans rules.Exit
assigns holds ps e = assignment e (stores WIDTH_LIMIT holds ps)
