-- Calls as parts of a run.
use Rattle.std.specs.Prelude.{◌≡◌, ℕ, ◌+◌, ◌≤◌, List, [], ◌∷◌, ◌++◌, Option, None, Some, Result, length, option_map}
use Rattle.asl_syn.specs.declared.token.Span.{Span}
use Rattle.asl_rules.specs.runs.Forms as forms
use Rattle.asl_rules.specs.runs.Forms.{Keeps}
use Rattle.asl_rules.specs.runs.Plans.{Stuck, EndReached, Pure, Good, Bad, run}
use Rattle.asl_rules.specs.runs.Cuts.{cuts}
use Rattle.asl_rules.specs.runs.StatementForms.{in_order}
use Rattle.asl_rules.specs.private.TypedMeaning as rules
use Rattle.asl_rules.specs.types.Types.{Ty}
use Rattle.asl_rules.specs.private.TypedMeaning.{BareCore, Runs, list_of, acts_of}
use Rattle.asl_rules.specs.values.Values.{Value, Exit, Normal, Returned}
use Rattle.asl_tree.specs.Acts.{all_acts}
use Rattle.asl_tree.specs.View.{all_trees, callee_of}
use Rattle.asl_tree.specs.declared.act.TreeFunc.{TreeFunc}
use Rattle.asl_value.specs.declared.value.Value.{Value as Stored}
use Rattle.asl_value.specs.View.{value_of}
use Rattle.asl_branches.specs.Framed.{Kept}
use Rattle.asl_branches.specs.declared.run.Run.{Run}
use Rattle.asl_branches.specs.declared.setting.Setting.{Setting}
use Rattle.asl_branches.specs.declared.stop.Stop.{Stop}
use Rattle.asl_branches.specs.Meets.{Answers, At, SameBut}
use Rattle.asl_branches.specs.View.{core_of, cutting_of, height_of, meaning_of, meter_of, program_of, room_of}
use Rattle.asl_run.specs.declared.calls.Call.{Call}

-- ---- bodies

-- what the callee does with the values of the parameters and of the arguments
abbrev pub body_of : List TreeFunc → Call → List Value → List Value → BareCore → Runs (Option Value)
body_of fs a ps xs c = rules.call_of (program_of fs) a.span (callee_of a.callee) a.widths.now ps xs c

-- the parameters in braces, the arguments, and what the callee does with their values
abbrev pub call_given : List TreeFunc → Call → BareCore → Runs (Option Value)
call_given fs a c = forms.eval_all (list_of (all_trees a.params.now)) [] c (λ ys c1. forms.eval_all (list_of (all_trees a.args.now)) [] c1 (body_of fs a ys))

-- what a body gives that ended so
abbrev pub ended : Span → Keeps → Exit → Pure (Option Value)
ended span r (Returned o) = forms.returned span r o
ended span None Normal = Good None
ended span (Some f) Normal = Bad (Stuck EndReached span)

-- ---- frames

-- the present frame, as it waits for a call
abbrev pub waiting : Run → Kept
waiting s = record { values = s.frames.values; slots = s.frames.slots; handled = s.handled.items }

-- a call enters a frame of the callee, of so many slots
pub record Enters (s s1 : Run) (id : ℕ) (slots : ℕ) : Type 0 where
  pub frames_are : s1.frames ≡ record { globals = s.frames.globals; values = []; slots = slots; callers = s.frames.callers ++ waiting s ∷ [] }
  pub live_are : s1.live.items ≡ s.live.items ++ id ∷ []
  pub nothing_handled : s1.handled.items ≡ []

-- the next places of the frame took these values
pub record Bound (xs : List Value) (s s1 : Run) : Type 0 where
  pub core_is : core_of s1 ≡ rules.with_next xs (core_of s)
  pub height_is : height_of s1 ≡ length xs + height_of s
  pub same : SameBut s s1

-- they took formals, each with the bitfields of its type
pub record BoundFormals (Ts : List Ty) (xs : List Value) (s s1 : Run) : Type 0 where
  pub ys : List Value
  pub seen : (span : Span) → rules.formals_seen span Ts xs ≡ Good ys
  pub bound : Bound ys s s1

-- the frame of a subprogram was entered, with parameters and formals in its first places and room for the names of its body
pub record EntersWith (id : ℕ) (f : TreeFunc) (ps xs : List Value) (s s1 : Run) : Type 0 where
  pub ys : List Value
  pub seen : (span : Span) → rules.formals_seen span f.formals xs ≡ Good ys
  pub core_is : core_of s1 ≡ rules.entered id (ps ++ ys) (core_of s)
  pub callers_are : s1.frames.callers ≡ s.frames.callers ++ waiting s ∷ []
  pub live_are : s1.live.items ≡ s.live.items ++ id ∷ []
  pub room : f.body.slots ≤ room_of s1

-- a frame was left: the state is that of a caller before the call, but for the globals
pub record Leaves (s s1 : Run) : Type 0 where
  pub frames_are : s.frames.callers ≡ s1.frames.callers ++ waiting s1 ∷ []
  pub live_are : (ids : List ℕ) (id : ℕ) → s.live.items ≡ ids ++ id ∷ [] → s1.live.items ≡ ids
  pub same_globals : s1.frames.globals ≡ s.frames.globals
  pub same_steps : s1.steps ≡ s.steps
  pub same_text : s1.text_open ≡ s.text_open

-- a body in its frame, which was entered from a state
abbrev pub body_in : TreeFunc → BareCore → BareCore → Runs (Option Value)
body_in f c0 c = forms.in_frame f.span (rules.result_seen f.result) (rules.restored c0) (in_order (acts_of (all_acts f.body.list)) c)

-- it was run, and its frame left: the state is that from which it was entered, but for the globals
abbrev pub RanFrom : Run → Result (Option Stored) Stop → Setting → TreeFunc → At → At → Type 0
RanFrom s0 r h f a a1 =
    Answers (Some 0) (option_map value_of) r
    (run (meaning_of h.funcs.now h.depth) (body_in f (core_of s0) (core_of a.run)) (meter_of a.run a.told))
    (cuts (meaning_of h.funcs.now h.depth) (cutting_of h.funcs.now h.depth) (body_in f (core_of s0) (core_of a.run)) (meter_of a.run a.told))
    (record a { run = s0 }) a1

-- whatever state it was entered from
abbrev pub RanBody : Result (Option Stored) Stop → Setting → TreeFunc → At → At → Type 0
RanBody r h f a a1 = (s0 : Run) (id : ℕ) → a.run.frames.callers ≡ s0.frames.callers ++ waiting s0 ∷ [] →
    a.run.live.items ≡ s0.live.items ++ id ∷ [] → RanFrom s0 r h f a a1
