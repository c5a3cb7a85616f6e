-- How the rules see what a run works on.
use Rattle.std.specs.Prelude.{ℕ, ◌-◌, ◌≤◌, Bool, true, false, List, Option, length, map, option_map, reverse}
use Rattle.asl_bits.specs.declared.TheConstants.{WIDTH_LIMIT}
use Rattle.asl_rules.specs.values.Values as rules
use Rattle.asl_rules.specs.runs.Plans.{Meter, Meaning, meanings}
use Rattle.asl_rules.specs.runs.Plans as plans
use Rattle.asl_rules.specs.runs.Cuts.{Cutting, cuttings}
use Rattle.asl_rules.specs.runs.Trees.{Tree, Act, Acts}
use Rattle.asl_rules.specs.private.TypedMeaning.{BareCore, BareFrame, TreeProgram, tree_nodes}
use Rattle.asl_tree.specs.declared.act.TreeFunc.{TreeFunc}
use Rattle.asl_tree.specs.Funcs.{all_funcs}
use Rattle.asl_tree.specs.private.Room.{FitsList}
use Rattle.asl_value.specs.View.{value_of}
use Rattle.asl_value.specs.declared.failure.Failure.{Failure}
use Rattle.asl_value.specs.declared.failure.Failure.TheVariants as failure
use Rattle.asl_branches.specs.Framed.{Kept}
use Rattle.asl_branches.specs.declared.run.Run.{Run}
use Rattle.asl_branches.specs.declared.stop.Exit.{Exit}
use Rattle.asl_branches.specs.declared.stop.Exit.TheVariants as exit
use Rattle.asl_branches.specs.declared.stop.Mistake.{Mistake}
use Rattle.asl_branches.specs.declared.stop.Mistake.TheVariants as mistake
use Rattle.asl_branches.specs.declared.stop.Stop.{Stop}
use Rattle.asl_branches.specs.declared.stop.Stop.TheVariants as stop

abbrev pub exit_of : Exit → rules.Exit
exit_of exit.Normal = rules.Normal
exit_of (exit.Returned x) = rules.Returned (option_map value_of x)

abbrev pub mistake_of : Mistake → plans.Mistake
mistake_of mistake.UnknownName = plans.UnknownName
mistake_of mistake.WrongKind = plans.WrongKind
mistake_of mistake.EndReached = plans.EndReached
mistake_of mistake.UnknownType = plans.UnknownType
mistake_of mistake.NothingCaught = plans.NothingCaught

-- why a run stops where an operation on values gives none
abbrev pub stop_of : Failure → Stop
stop_of (failure.Fault code span) = stop.Fault code span
stop_of (failure.WrongKind span) = stop.Stuck mistake.WrongKind span
stop_of (failure.UnknownType span) = stop.Stuck mistake.UnknownType span
stop_of failure.NoMemory = stop.NoMemory

-- ---- states

abbrev pub caller_of : Kept → BareFrame
caller_of f = record { values = map value_of f.values; handled = reverse (map value_of f.handled) }

abbrev pub core_of : Run → BareCore
core_of r = record {
  globals = map value_of r.frames.globals;
  frame = map value_of r.frames.values;
  handled = reverse (map value_of r.handled.items);
  callers = reverse (map caller_of r.frames.callers);
  live = reverse r.live.items;
}

abbrev pub meter_of : Run → Option (List ℕ) → Meter
meter_of r told = record { steps = r.steps; told = told; text_open = r.text_open }

-- how many values the present frame has, and how many more it has room for
abbrev pub height_of : Run → ℕ
height_of r = length r.frames.values

abbrev pub room_of : Run → ℕ
room_of r = r.frames.slots - length r.frames.values

-- so many free places are enough for a list, and for a name in front of it where there is one
abbrev pub FitsNamed : Bool → ℕ → Acts → Type 0
FitsNamed true r ss = (1 ≤ r) × FitsList (r - 1) ss
FitsNamed false r ss = FitsList r ss

-- ---- programs

abbrev pub program_of : List TreeFunc → TreeProgram
program_of fs = record { funcs = all_funcs fs; limit = WIDTH_LIMIT }

-- what nodes mean where at most d more may be open, and where they may be given up
abbrev pub meaning_of : List TreeFunc → ℕ → Meaning BareCore Tree Act
meaning_of fs d = meanings (tree_nodes (program_of fs)) d

abbrev pub cutting_of : List TreeFunc → ℕ → Cutting BareCore Tree Act
cutting_of fs d = cuttings (tree_nodes (program_of fs)) d
