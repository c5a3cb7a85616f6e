-- States without names and types, and what it is that typed trees do as the untyped trees do.
use Rattle.std.specs.Prelude.{List, [], ◌∷◌}
use Rattle.asl_rules.specs.runs.States.{Binding, Frame, Core}
use Rattle.asl_rules.specs.values.Values.{Value}
use Rattle.asl_rules.specs.runs.Plans.{Outcome, Done, Thrown, Halt}
use Rattle.asl_rules.specs.private.TypedMeaning.{BareFrame, BareCore}

-- the values alone
abbrev pub values_of : List Binding → List Value
values_of [] = []
values_of (b ∷ bs) = b.value ∷ values_of bs

abbrev pub erased_frames : List Frame → List BareFrame
erased_frames [] = []
erased_frames (f ∷ fs) = record { values = values_of f.names; handled = f.handled } ∷ erased_frames fs

abbrev pub erased : Core → BareCore
erased c = record {
  globals = values_of c.globals;
  frame = values_of c.frame;
  handled = c.handled;
  callers = erased_frames c.callers;
  live = c.live;
}

-- the same value, exit, fault and meter, in the state without names and types
abbrev pub erased_outcome : {A : Type 0} → Outcome Core A → Outcome BareCore A
erased_outcome (Done x c h) = Done x (erased c) h
erased_outcome (Thrown x c h) = Thrown x (erased c) h
erased_outcome (Halt e c h) = Halt e (erased c) h
