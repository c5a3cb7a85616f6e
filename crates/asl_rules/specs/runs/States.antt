-- The states of a run.
use Rattle.std.specs.Prelude.{ℕ, Bool, List, [], ◌∷◌, if◌then◌else◌, Option, Some, None}
use Rattle.asl_rules.specs.types.Closed.{Closed}
use Rattle.asl_rules.specs.values.Values.{Value, has}
use Rattle.asl_rules.specs.types.Views.{viewed, alike, adopted}

-- what a place holds: values of the type that is written there, as it was evaluated at the declaration; or, where none is
-- written, values of the kind and the widths of the one that it was declared with
pub data Under : Type 0 where
  of_type : Closed → Under
  of_value : Value → Under

-- what a place keeps of a value: the value with the place's bitfields, where it belongs there
abbrev pub kept : Under → Value → Option Value
kept (of_type T) x = if has x T then Some (viewed T x) else None
kept (of_value y) x = if alike y x then Some (adopted y x) else None

-- a name with its value, what the value is stored under, and whether it can be assigned
pub record Binding : Type 0 where
  pub name : List ℕ
  pub value : Value
  pub under : Under
  pub is_mutable : Bool

-- the frame of a caller: its names in the order of their declarations, and the exceptions that are being handled in it, the
-- innermost first
pub record Frame : Type 0 where
  pub names : List Binding
  pub handled : List Value

-- the state that nodes read and change: the globals and the present frame in the order of their declarations, the exceptions
-- that are being handled in this frame, the frames of the callers, and the numbers of the subprograms that are active, of
-- these three the innermost first
pub record Core : Type 0 where
  pub globals : List Binding
  pub frame : List Binding
  pub handled : List Value
  pub callers : List Frame
  pub live : List ℕ

-- between two calls there is no frame, and no subprogram is active
abbrev pub resting : List Binding → Core
resting globals = record { globals = globals; frame = []; handled = []; callers = []; live = [] }

-- a call enters a frame without names, in which nothing is handled, and one active subprogram more
abbrev pub entered : ℕ → Core → Core
entered id c = record { globals = c.globals; frame = []; handled = []; callers = record { names = c.frame; handled = c.handled } ∷ c.callers; live = id ∷ c.live }

-- the end of a call: all is the caller's again but the globals
abbrev pub restored : Core → Core → Core
restored c c1 = record c { globals = c1.globals }
