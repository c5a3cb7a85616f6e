-- How the interpreter's answers are related to the rules.
use Rattle.std.specs.Prelude.{◌≡◌, ◌≤◌, ◌+◌, ℕ, Bool, List, ◌++◌, map, Option, None, Some, Result, Ok, Err}
use Rattle.asl_io.specs.Faults.{Rises}
use Rattle.asl_io.specs.declared.sink.Sink.{Ghosts}
use Rattle.asl_rules.specs.runs.Plans.{Meter, Faulted, Stuck, Outcome, Done, Thrown, Halt, run, Pure, Good, Bad}
use Rattle.asl_rules.specs.runs.Cuts.{cuts}
use Rattle.asl_rules.specs.runs.Told.{appended, open_after, Part}
use Rattle.asl_rules.specs.private.TypedMeaning.{BareCore, Runs as Plans}
use Rattle.asl_rules.specs.values.Values as rules
use Rattle.asl_tree.specs.Acts.{act_of}
use Rattle.asl_tree.specs.private.Room.{declared}
use Rattle.asl_tree.specs.View.{tree_of}
use Rattle.asl_tree.specs.declared.act.Act.{Act}
use Rattle.asl_tree.specs.declared.act.TreeFunc.{TreeFunc}
use Rattle.asl_tree.specs.declared.tree.Tree.{Tree}
use Rattle.asl_value.specs.declared.value.Value.{Value}
use Rattle.asl_value.specs.View.{value_of}
use Rattle.asl_branches.specs.declared.run.Run.{Run}
use Rattle.asl_branches.specs.declared.setting.Setting.{Setting}
use Rattle.asl_branches.specs.declared.stop.Exit.{Exit}
use Rattle.asl_branches.specs.declared.stop.Stop.{Stop}
use Rattle.asl_branches.specs.declared.stop.Stop.TheVariants as stop
use Rattle.asl_branches.specs.View.{exit_of, mistake_of, core_of, meter_of, meaning_of, cutting_of, height_of}

-- an answer, with what stands after it, is what the rules give; or the run was given up at one of these meters
abbrev pub Meets : {A B : Type 0} → (A → B) → Result A Stop → BareCore → Meter → Outcome BareCore B → (Meter → Type 0) → Type 0
Meets view (Ok x) c h r C = r ≡ Done (view x) c h
Meets view (Err stop.NoMemory) c h r C = C h
Meets view (Err stop.SinkFault) c h r C = C h
Meets view (Err (stop.Thrown x)) c h r C = r ≡ Thrown (value_of x) c h
Meets view (Err (stop.Fault code span)) c h r C = r ≡ Halt (Faulted code span) c h
Meets view (Err (stop.Stuck mistake span)) c h r C = r ≡ Halt (Stuck (mistake_of mistake) span) c h

-- from the state and told text before to those after, an answer is that of a plan, where d nodes more may be open
abbrev pub Runs : {A B : Type 0} → (A → B) → Result A Stop → List TreeFunc → ℕ → (BareCore → Plans B) → Run → Option (List ℕ) → Run → Option (List ℕ) → Type 0
Runs view result fs d q s told s1 told1 =
    Meets view result (core_of s1) (meter_of s1 told1) (run (meaning_of fs d) (q (core_of s)) (meter_of s told)) (cuts (meaning_of fs d) (cutting_of fs d) (q (core_of s)) (meter_of s told))

-- an answer is that of a plan which enters no node and writes nothing
abbrev pub Acts : Result Exit Stop → (BareCore → Plans rules.Exit) → Run → Run → Type 0
Acts result q s s1 = (fs : List TreeFunc) (d : ℕ) (told : Option (List ℕ)) → Runs exit_of result fs d q s told s1 told

-- an operator's answer, or want of memory
abbrev pub Is : {A B : Type 0} → (A → B) → Result A Stop → Pure B → Type 0
Is view (Ok x) r = r ≡ Good (view x)
Is view (Err stop.NoMemory) r = Unit {0}
Is view (Err stop.SinkFault) r = ⊥
Is view (Err (stop.Thrown x)) r = ⊥
Is view (Err (stop.Fault code span)) r = r ≡ Bad (Faulted code span)
Is view (Err (stop.Stuck mistake span)) r = r ≡ Bad (Stuck (mistake_of mistake) span)

-- values were changed into what the rules give, or they give none and the values are the same, or memory was wanting
abbrev pub Stores : Result (Unit {0}) Stop → Pure (List rules.Value) → List Value → List Value → Type 0
Stores (Ok x) r old new = r ≡ Good (map value_of new)
Stores (Err stop.NoMemory) r old new = Unit {0}
Stores (Err stop.SinkFault) r old new = ⊥
Stores (Err (stop.Thrown x)) r old new = ⊥
Stores (Err (stop.Fault code span)) r old new = (r ≡ Bad (Faulted code span)) × (new ≡ old)
Stores (Err (stop.Stuck mistake span)) r old new = (r ≡ Bad (Stuck (mistake_of mistake) span)) × (new ≡ old)

-- bytes were written, or where the sink refused them some of them; from whether text is open, and told text, to the same
abbrev pub Writes : Result (Unit {0}) Stop → List ℕ → Bool → Option (List ℕ) → Bool → Option (List ℕ) → Type 0
Writes (Ok x) bytes o told o1 told1 = (told1 ≡ appended told bytes) × (o1 ≡ open_after o bytes)
Writes (Err stop.NoMemory) bytes o told o1 told1 = ⊥
Writes (Err stop.SinkFault) bytes o told o1 told1 = Part told told1 bytes
Writes (Err (stop.Thrown x)) bytes o told o1 told1 = ⊥
Writes (Err (stop.Fault code span)) bytes o told o1 told1 = ⊥
Writes (Err (stop.Stuck mistake span)) bytes o told o1 told1 = ⊥

-- bytes were written but for the rest
pub record WroteFront (bytes rest : List ℕ) (o : Bool) (told : Option (List ℕ)) (o1 : Bool) (told1 : Option (List ℕ)) : Type 0 where
  pub front : List ℕ
  pub whole : bytes ≡ front ++ rest
  pub told_is : told1 ≡ appended told front
  pub open_is : o1 ≡ open_after o front

-- the sink's count of faults rose where it refused a write, and is as it was elsewhere
abbrev pub Counts : {A : Type 0} → Result A Stop → ℕ → ℕ → Type 0
Counts (Ok x) before after = after ≡ before
Counts (Err stop.NoMemory) before after = after ≡ before
Counts (Err stop.SinkFault) before after = (before ≤ after) × Rises before after
Counts (Err (stop.Thrown x)) before after = after ≡ before
Counts (Err (stop.Fault code span)) before after = after ≡ before
Counts (Err (stop.Stuck mistake span)) before after = after ≡ before

-- what stands round the present frame is the same
pub record SameRound (s s1 : Run) : Type 0 where
  pub handled : s1.handled.items ≡ s.handled.items
  pub callers : s1.frames.callers ≡ s.frames.callers
  pub slots : s1.frames.slots ≡ s.frames.slots
  pub live : s1.live.items ≡ s.live.items

-- all is the same but the values in places
pub record SameBut (s s1 : Run) : Type 0 where
  pub handled : s1.handled.items ≡ s.handled.items
  pub callers : s1.frames.callers ≡ s.frames.callers
  pub slots : s1.frames.slots ≡ s.frames.slots
  pub live : s1.live.items ≡ s.live.items
  pub steps : s1.steps ≡ s.steps
  pub text_open : s1.text_open ≡ s.text_open

-- it is after an answer or a throw
abbrev pub Keeps : {A : Type 0} → Result A Stop → Run → Run → Type 0
Keeps (Ok x) s s1 = SameRound s s1
Keeps (Err stop.NoMemory) s s1 = Unit {0}
Keeps (Err stop.SinkFault) s s1 = Unit {0}
Keeps (Err (stop.Thrown x)) s s1 = SameRound s s1
Keeps (Err (stop.Fault code span)) s s1 = Unit {0}
Keeps (Err (stop.Stuck mistake span)) s s1 = Unit {0}

-- ---- the height of the present frame

-- so many values are added to the frame at most, where nothing stops; with no number nothing is said
abbrev pub Grows : {A : Type 0} → Option ℕ → Result A Stop → Run → Run → Type 0
Grows None r s s1 = Unit {0}
Grows (Some n) (Ok x) s s1 = height_of s1 ≤ n + height_of s
Grows (Some n) (Err e) s s1 = Unit {0}

-- ---- all that an answer says

-- a state with its sink: what the sink was told, how many writes it refused, and whether it is full
pub record At : Type 0 where
  pub run : Run
  pub told : Option (List ℕ)
  pub faults : ℕ
  pub full : Option ℕ

abbrev pub at : {K : Type 0} → Ghosts K → Run → K → At
at sink s k = record { run = s; told = sink.written k; faults = sink.faults k; full = sink.full k }

-- between these, an answer is what the rules give, or the run was given up where it may be; the sink counts its faults, is as
-- full as it was, what stands round the frame is kept, and the frame grows by so many values at most
pub record Answers {A B : Type 0} (n : Option ℕ) (view : A → B) (result : Result A Stop) (r : Outcome BareCore B) (C : Meter → Type 0)
    (a a1 : At) : Type 0 where
  pub meets : Meets view result (core_of a1.run) (meter_of a1.run a1.told) r C
  pub counts : Counts result a.faults a1.faults
  pub same_full : a1.full ≡ a.full
  pub keeps : Keeps result a.run a1.run
  pub grows : Grows n result a.run a1.run

-- that of a plan, where the nodes below are run in this setting
abbrev pub RanBy : {A B : Type 0} → Option ℕ → (A → B) → Result A Stop → Setting → (BareCore → Plans B) → At → At → Type 0
RanBy n view result h q a a1 =
    Answers n view result (run (meaning_of h.funcs.now h.depth) (q (core_of a.run)) (meter_of a.run a.told))
    (cuts (meaning_of h.funcs.now h.depth) (cutting_of h.funcs.now h.depth) (q (core_of a.run)) (meter_of a.run a.told)) a a1

-- that of one that leaves no more values in the frame than there were
abbrev pub Ran : {A B : Type 0} → (A → B) → Result A Stop → Setting → (BareCore → Plans B) → At → At → Type 0
Ran view result h q a a1 = RanBy (Some 0) view result h q a a1

-- that of an expression
abbrev pub Evaluates : Result Value Stop → Setting → Tree → At → At → Type 0
Evaluates result h e a a1 =
    Answers (Some 0) value_of result ((meaning_of h.funcs.now h.depth).expr (tree_of e) (core_of a.run) (meter_of a.run a.told))
    ((cutting_of h.funcs.now h.depth).expr (tree_of e) (core_of a.run) (meter_of a.run a.told)) a a1

-- that of a statement, whose names stay in the frame
abbrev pub Executes : Result Exit Stop → Setting → Act → At → At → Type 0
Executes result h t a a1 =
    Answers (Some (declared (act_of t))) exit_of result ((meaning_of h.funcs.now h.depth).stmt (act_of t) (core_of a.run) (meter_of a.run a.told))
    ((cutting_of h.funcs.now h.depth).stmt (act_of t) (core_of a.run) (meter_of a.run a.told)) a a1

-- ---- parts

-- what is left to do has the result of what there was to do at first, and is given up where that may be
pub record Left {A : Type 0} (fs : List TreeFunc) (d : ℕ) (q : Plans A) (h : Meter) (q0 : Plans A) (h0 : Meter) : Type 0 where
  pub same : run (meaning_of fs d) q h ≡ run (meaning_of fs d) q0 h0
  pub given_up : (u : Meter) → cuts (meaning_of fs d) (cutting_of fs d) q h u → cuts (meaning_of fs d) (cutting_of fs d) q0 h0 u

-- between two turns of a loop: what is left to do is left of what there was to do at first, and all else that an answer says
-- has held so far
pub record Underway {A : Type 0} (h : Setting) (p : BareCore → Plans A) (a : At) (q : BareCore → Plans A) (a0 : At) : Type 0 where
  pub left : Left h.funcs.now h.depth (p (core_of a.run)) (meter_of a.run a.told) (q (core_of a0.run)) (meter_of a0.run a0.told)
  pub count : a.faults ≡ a0.faults
  pub full : a.full ≡ a0.full
  pub round : SameRound a0.run a.run
  pub height : height_of a.run ≤ height_of a0.run

-- the same between two statements of a list, of whose names nothing is said
pub record InTurn {A : Type 0} (h : Setting) (p : BareCore → Plans A) (a : At) (q : BareCore → Plans A) (a0 : At) : Type 0 where
  pub left : Left h.funcs.now h.depth (p (core_of a.run)) (meter_of a.run a.told) (q (core_of a0.run)) (meter_of a0.run a0.told)
  pub count : a.faults ≡ a0.faults
  pub full : a.full ≡ a0.full
  pub round : SameRound a0.run a.run

-- no write was refused
abbrev pub NoneRefused : {A : Type 0} → Result A Stop → Type 0
NoneRefused (Ok x) = Unit {0}
NoneRefused (Err stop.NoMemory) = Unit {0}
NoneRefused (Err stop.SinkFault) = ⊥
NoneRefused (Err (stop.Thrown x)) = Unit {0}
NoneRefused (Err (stop.Fault code span)) = Unit {0}
NoneRefused (Err (stop.Stuck mistake span)) = Unit {0}
