-- What soundness says: a run of a well-formed program is never stuck, each node that it visits was judged, with the program's own subprograms and in the body of
-- the one that was called last, in a scope with which the state agrees, the frame of each caller agrees with the scope of the call that it waits for, an expression
-- with a type gives values of that type, and typed trees do what the untyped trees do.
use Rattle.std.specs.Prelude.{◌≡◌, ℕ, ℤ, true, ◌⊎◌, List, [], ◌∷◌, Option, Some, Ok, slice_get}
use Rattle.asl_syn.specs.declared.tree.Decl.{Decl}
use Rattle.asl_syn.specs.declared.tree.Expr.{Expr}
use Rattle.asl_syn.specs.declared.tree.Stmt.{Stmt}
use Rattle.asl_syn.specs.declared.token.Span.{Span}
use Rattle.asl_rules.specs.declared.effect.Effect.{Effect}
use Rattle.asl_poly.specs.Poly.{HasWidth}
use Rattle.asl_rules.specs.Tests.{Tests}
use Rattle.asl_rules.specs.types.Types.{Ty}
use Rattle.asl_rules.specs.types.Closed.{Assignment}
use Rattle.asl_rules.specs.declarations.Scopes.{Scope, Body, Signature, Entry}
use Rattle.asl_rules.specs.types.Effects.{at_most}
use Rattle.asl_rules.specs.runs.Trees.{Note, Tree, Trees, Call, own, Act, Invoke}
use Rattle.asl_rules.specs.expressions.Typing.{Typed, Width, Number}
use Rattle.asl_rules.specs.expressions.Exprs.{found, typed, width}
use Rattle.asl_rules.specs.statements.Acting.{Done as StmtDone}
use Rattle.asl_rules.specs.statements.Stmts.{found_stmt}
use Rattle.asl_rules.specs.declarations.Programs.{Accepted, Environment, environment}
use Rattle.asl_rules.specs.values.Values.{Value}
use Rattle.asl_rules.specs.runs.States.{Binding, Frame, Core, resting}
use Rattle.asl_rules.specs.private.Belonging.{InType, Belong, Sound}
use Rattle.asl_rules.specs.private.Agreement.{types_in, no_atoms, GlobalsMatch, Raised, Agrees}
use Rattle.asl_rules.specs.private.Worth.{WellCounted}
use Rattle.asl_laws.specs.ScopeRules.{KeepsRules}
use Rattle.asl_rules.specs.runs.Plans.{Meter, Outcome, Done, Thrown, Halt, Faulted, Stuck, run}
use Rattle.asl_rules.specs.runs.Evaluation.{meaning, initial_globals}
use Rattle.asl_rules.specs.runs.Machines.{most_open, run_of, visits_of}
use Rattle.asl_rules.specs.runs.Visits.{Entered, AtExpr, AtStmt, Visit}
use Rattle.asl_rules.specs.private.TypedMeaning.{BareCore, TreeProgram, tree_meaning, tree_call}
use Rattle.asl_rules.specs.private.Erasure.{erased, erased_outcome}
use Rattle.asl_laws.specs.WidthValues.{GivesInteger, HasNumber, WidthValues}

abbrev pub NotStuck : {A : Type 0} → Outcome Core A → Type 0
NotStuck (Done x c h) = Unit {0}
NotStuck (Thrown x c h) = Unit {0}
NotStuck (Halt (Faulted code span) c h) = Unit {0}
NotStuck (Halt (Stuck mistake span) c h) = ⊥

-- a value of the type in a state that agrees with the scope, or an exception, or a halt; in each the globals hold the program's storage
abbrev pub GivesType : List Entry → List Entry → Assignment → Ty → Outcome Core Value → Type 0
GivesType base names a T (Done x c h) = InType (types_in base) a x T × Agrees base names a c
GivesType base names a T (Thrown x c h) = Raised (types_in base) x × GlobalsMatch base c.globals
GivesType base names a T (Halt e c h) = GlobalsMatch base c.globals

-- ---- the nodes that are visited

-- from the state on an expression gives values of the type, however many nodes may be open and whatever the meter is
abbrev pub ValuesIn : Environment → Accepted → Expr → Scope → Assignment → Ty → Core → Type 0
ValuesIn env a e G present T c = (d : ℕ) (h : Meter) → NotStuck ((meaning env d).expr e c h) × GivesType a.names G.names present T ((meaning env d).expr e c h)

-- and a width, or a number that is written in a type, an integer of which P says which one it is
abbrev pub IntegersIn : Environment → Expr → (ℤ → Type 0) → Core → Type 0
IntegersIn env e P c = (d : ℕ) (h : Meter) → GivesInteger c P ((meaning env d).expr e c h)

-- an expression has a type, and gives values of it, or is a width or a number that is written in a type, and gives its integer
abbrev pub IsJudged : Tests → Environment → Accepted → Expr → Scope → Assignment → Core → Type 0
IsJudged t env a e G present c =
    ((S : Typed) × (typed t e G ≡ Ok S) × ValuesIn env a e G present S.ty c) ⊎
    (((W : Width) × (width t e G ≡ Ok W) × IntegersIn env e (λ z. HasWidth W.poly present z × HasNumber e c z) c) ⊎
    ((N : Number) × ((found t e).number G ≡ Ok N) × IntegersIn env e (λ z. (z ≡ N.number) × HasNumber e c z) c))

-- a node that was judged in this class stands in the body of the subprogram that was called last, whose class is at least that
abbrev pub StandsIn : List Signature → Effect → List ℕ → Type 0
StandsIn subs class [] = ⊥
StandsIn subs class (id ∷ ids) = (s : Signature) × (slice_get subs id ≡ Some s) × (at_most class s.class ≡ true)

-- a body is that of the subprogram that was called last
abbrev pub IsBodyOf : List Signature → Body → List ℕ → Type 0
IsBodyOf subs b [] = ⊥
IsBodyOf subs b (id ∷ ids) = (s : Signature) × (slice_get subs id ≡ Some s) × (b.scope.class ≡ s.class) × (b.result ≡ s.result)

-- the expression was judged with the program's own subprograms, in the body of the one that was called last, in a scope in which each `let` counts as names
-- that stand for themselves, and which keeps the rules of scopes; a condition of a statement and a pattern may be judged in a lesser class than the body
pub record ExprVisited (t : Tests) (env : Environment) (a : Accepted) (e : Expr) (c : Core) : Type 0 where
  pub scope : Scope
  pub present : Assignment
  pub subs_are : scope.subs ≡ a.signatures
  pub stands : StandsIn a.signatures scope.class c.live
  pub counted : WellCounted scope.names
  pub rules : KeepsRules scope
  pub judged : IsJudged t env a e scope present c
  pub agrees : Agrees a.names scope.names present c

-- so was the statement, in the class and with the result of that subprogram
pub record StmtVisited (t : Tests) (a : Accepted) (s : Stmt) (c : Core) : Type 0 where
  pub body : Body
  pub done : StmtDone
  pub present : Assignment
  pub subs_are : body.scope.subs ≡ a.signatures
  pub stands : IsBodyOf a.signatures body c.live
  pub counted : WellCounted body.scope.names
  pub rules : KeepsRules body.scope
  pub judged : found_stmt t s body ≡ Ok done
  pub agrees : Agrees a.names body.scope.names present c

abbrev pub NodeVisited : Tests → Environment → Accepted → Entered Expr Stmt → Core → Type 0
NodeVisited t env a (AtExpr e) c = ExprVisited t env a e c
NodeVisited t env a (AtStmt s) c = StmtVisited t a s c

-- ---- the frames of the callers

-- a typed tree calls the subprogram of this number
abbrev pub TreeCalls : Tree → ℕ → Type 0
TreeCalls tree id = (n : Note) × (places : List ℕ) × (ps : Trees) × (es : Trees) × (tree ≡ Call n (own id) places ps es)

abbrev pub ActCalls : Act → ℕ → Type 0
ActCalls act id = (span : Span) × (places : List ℕ) × (ps : Trees) × (es : Trees) × (act ≡ Invoke span (own id) places ps es)

-- the state in which a caller's frame waits, with the globals as they are now
abbrev pub waiting : List Binding → Frame → List Frame → List ℕ → Core
waiting globals f fs ids = record { globals = globals; frame = f.names; handled = f.handled; callers = fs; live = ids }

-- a call that a frame waits for: in this state, with the globals as they are now, it was judged as a visited expression is, and its typed tree calls the
-- subprogram of this number
pub record ExprWaits (t : Tests) (env : Environment) (a : Accepted) (id : ℕ) (c : Core) : Type 0 where
  pub node : Expr
  pub visited : ExprVisited t env a node c
  pub typing : Typed
  pub is_typed : typed t node visited.scope ≡ Ok typing
  pub calls : TreeCalls typing.tree id

-- so a statement
pub record StmtWaits (t : Tests) (a : Accepted) (id : ℕ) (c : Core) : Type 0 where
  pub node : Stmt
  pub visited : StmtVisited t a node c
  pub calls : ActCalls visited.done.act id

-- the outermost frame is what there is between two calls from outside; each other agrees with the scope of a call that it waits for, and whose subprogram is the
-- next that is active
abbrev pub CallersWait : Tests → Environment → Accepted → List Binding → List Frame → List ℕ → Type 0
CallersWait t env a globals [] ids = ⊥
CallersWait t env a globals (f ∷ fs) [] = ⊥
CallersWait t env a globals (f ∷ []) (id ∷ ids) = (f ≡ record { names = []; handled = [] }) × (ids ≡ [])
CallersWait t env a globals (f ∷ g ∷ fs) (id ∷ ids) =
    (ExprWaits t env a id (waiting globals f (g ∷ fs) ids) ⊎ StmtWaits t a id (waiting globals f (g ∷ fs) ids)) × CallersWait t env a globals (g ∷ fs) ids

-- each visit of a run
abbrev pub AllVisited : Tests → Environment → Accepted → List (Visit Core Expr Stmt) → Type 0
AllVisited t env a [] = Unit {0}
AllVisited t env a (v ∷ vs) = Sound v.state × NodeVisited t env a v.node v.state × CallersWait t env a v.state.globals v.state.callers v.state.live × AllVisited t env a vs

-- ---- calls from outside

-- of a subprogram without parameters, with arguments in the types of its formals, over globals that hold the program's storage
pub record IsCall (a : Accepted) (id : ℕ) (args : List Value) (globals : List Binding) : Type 0 where
  pub signature : Signature
  pub is : slice_get a.signatures id ≡ Some signature
  pub no_params : signature.params ≡ []
  pub args_belong : Belong (types_in a.names) no_atoms args signature.formals
  pub globals_match : GlobalsMatch a.names globals

-- however a call ends, also where it halts at a dynamic fault, the globals hold the program's storage again
abbrev pub KeepsGlobals : {A : Type 0} → List Entry → Outcome Core A → Type 0
KeepsGlobals names (Done x c h) = GlobalsMatch names c.globals
KeepsGlobals names (Thrown x c h) = GlobalsMatch names c.globals
KeepsGlobals names (Halt e c h) = GlobalsMatch names c.globals

pub record SoundRuns (t : Tests) (env : Environment) (a : Accepted) : Type 0 where
  pub initial : GlobalsMatch a.names (initial_globals env)
  pub never_stuck : (id : ℕ) (args : List Value) (globals : List Binding) (h : Meter) → IsCall a id args globals → NotStuck (run_of env id args globals h)
  pub keeps_globals : (id : ℕ) (args : List Value) (globals : List Binding) (h : Meter) → IsCall a id args globals → KeepsGlobals a.names (run_of env id args globals h)
  pub visited : (id : ℕ) (args : List Value) (globals : List Binding) (h : Meter) → IsCall a id args globals → AllVisited t env a (visits_of env id args globals h)
  pub typed_values : (d : ℕ) (e : Expr) (G : Scope) (S : Typed) (p : Assignment) (c : Core) (h : Meter) → typed t e G ≡ Ok S → G.subs ≡ a.signatures → Agrees a.names G.names p c →
      NotStuck ((meaning env d).expr e c h) × GivesType a.names G.names p S.ty ((meaning env d).expr e c h)
  pub width_values : WidthValues t env a

-- of a program
abbrev pub Soundness : Tests → List Decl → Accepted → Type 0
Soundness t ds a = SoundRuns t (environment t ds) a

-- ---- typed trees

abbrev pub trees_of : Tests → Accepted → TreeProgram
trees_of t a = record { funcs = a.funcs; limit = t.limit }

abbrev pub tree_run : TreeProgram → ℕ → List Value → BareCore → Meter → Outcome BareCore (Option Value)
tree_run p id args c h = run (tree_meaning p most_open) (tree_call p id args c) h

-- the typed tree of an expression that the rules accept does what the expression does, in states that agree with its scope; and so does a call
pub record SameRuns (t : Tests) (env : Environment) (a : Accepted) : Type 0 where
  pub expr : (d : ℕ) (e : Expr) (G : Scope) (S : Typed) (p : Assignment) (c : Core) (h : Meter) → typed t e G ≡ Ok S → G.subs ≡ a.signatures → Agrees a.names G.names p c →
      (tree_meaning (trees_of t a) d).expr S.tree (erased c) h ≡ erased_outcome ((meaning env d).expr e c h)
  pub call : (id : ℕ) (args : List Value) (globals : List Binding) (h : Meter) → IsCall a id args globals →
      tree_run (trees_of t a) id args (erased (resting globals)) h ≡ erased_outcome (run_of env id args globals h)

abbrev pub SameMeaning : Tests → List Decl → Accepted → Type 0
SameMeaning t ds a = SameRuns t (environment t ds) a
