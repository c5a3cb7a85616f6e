-- What is claimed of expressions and statements with their typed trees, in a program with these names outside bodies and these subprograms, at an assignment of
-- integers to the atoms that is fixed for a frame.
use Rattle.std.proofs.Common.{◌≡◌, ◌⊎◌, ℕ, pos, Bool, true, List, [], ◌∷◌, ◌++◌, Option, Some, None, Ok}
use Rattle.asl_syn.specs.declared.token.Span.{Span}
use Rattle.asl_syn.specs.declared.tree.Expr.{Expr}
use Rattle.asl_syn.specs.declared.tree.Stmt.{Stmt}
use Rattle.asl_poly.specs.Terms.{Polynomial}
use Rattle.asl_poly.specs.Poly.{IsPolynomial, HasWidth}
use Rattle.asl_rules.specs.Tests.{Tests}
use Rattle.asl_rules.specs.types.Types.{Ty}
use Rattle.asl_rules.specs.types.Closed.{Assignment, Closed, type_with, width_at}
use Rattle.asl_rules.specs.declarations.Scopes.{Scope, Body, Entry, Signature, with_class}
use Rattle.asl_rules.specs.declared.effect.Effect.{Effect}
use Rattle.asl_rules.specs.declared.effect.Effect.TheVariants.{Pure, Writes}
use Rattle.asl_rules.specs.types.Effects.{at_most}
use Rattle.asl_rules.specs.private.WellFormed.{WellFormed, Built}
use Rattle.asl_rules.specs.runs.Trees.{Tree, Act}
use Rattle.asl_rules.specs.runs.Trees as tree
use Rattle.asl_rules.specs.expressions.Typing.{Typed, Width, Number, width_note}
use Rattle.asl_rules.specs.expressions.Exprs.{found, typed, width}
use Rattle.asl_rules.specs.statements.Acting.{Done}
use Rattle.asl_rules.specs.statements.Stmts.{found_stmt}
use Rattle.asl_rules.specs.statements.Falling.{falls}
use Rattle.asl_rules.specs.values.Values.{Value, int, Exit, Normal, Returned}
use Rattle.asl_rules.specs.runs.States.{Binding, Frame, Core}
use Rattle.asl_rules.specs.private.Belonging.{has_type, InType}
use Rattle.asl_rules.specs.private.Agreement.{types_in, GlobalsMatch, Raised, Agrees, SameOn}
use Rattle.asl_rules.specs.private.TypedMeaning.{BareCore}
use Rattle.asl_rules.specs.private.Erasure.{erased}
use Rattle.asl_laws.specs.Soundness.{StandsIn, IsBodyOf, TreeCalls, ActCalls, waiting}
use Rattle.asl_laws.proofs.expressions.Twins.{Claims}
use Rattle.asl_laws.proofs.runs.Several.{several}
use Rattle.asl_laws.proofs.scopes.ScopesKept.{GoodScope, Ruled}

-- what nodes leave as it is, but for what a catcher handles: what is being handled, the frames of the callers, and the active subprograms
pub record Around : Type 0 where
  pub handled : List Value
  pub callers : List Frame
  pub live : List ℕ

abbrev pub around_of : Core → Around
around_of c = record { handled = c.handled; callers = c.callers; live = c.live }

abbrev pub nothing_around : Around
nothing_around = record { handled = []; callers = []; live = [] }

-- where a node stands: its scope, the integers of the atoms, and what is around its frame
pub record Here : Type 0 where
  pub scope : Scope
  pub present : Assignment
  pub around : Around

-- what an expression is asked for: its type, in the class of the scope or as one that is Pure, what it is as a width or a number, its type
-- where its width is known, or the number above 0 that it is written as, where a width is divided by it
pub data Asked : Type 0 where
  of_type : Typed → Asked
  of_pure : Typed → Asked
  of_width : Width → Asked
  of_number : Number → Asked
  of_known : Typed → Width → Asked
  of_divisor : Span → ℕ → Asked

abbrev pub tree_asked : Asked → Tree
tree_asked (of_type S) = S.tree
tree_asked (of_pure S) = S.tree
tree_asked (of_width W) = W.tree
tree_asked (of_number N) = N.tree
tree_asked (of_known S W) = S.tree
tree_asked (of_divisor span k) = tree.Int (width_note span) k

abbrev pub Answers : Tests → Asked → Expr → Scope → Type 0
Answers t (of_type S) e G = typed t e G ≡ Ok S
Answers t (of_pure S) e G = typed t e (with_class G Pure) ≡ Ok S
Answers t (of_width W) e G = width t e G ≡ Ok W
Answers t (of_number N) e G = (found t e).number G ≡ Ok N
Answers t (of_known S W) e G = (typed t e G ≡ Ok S) × (width t e G ≡ Ok W)
Answers t (of_divisor span k) e G = ((found t e).divisor ≡ Some k) × ((found t e).span ≡ span)

-- the integer of a width that is evaluated: it is whole there, and within the limits
abbrev pub IsWidth : Assignment → Polynomial → Value → Type 0
IsWidth a p x = (x ≡ int (width_at p a)) × HasWidth p a (width_at p a) × IsPolynomial p

abbrev pub GivesAsked : (List ℕ → Option Ty) → Assignment → Asked → Value → Type 0
GivesAsked d a (of_type S) x = InType d a x S.ty
GivesAsked d a (of_pure S) x = InType d a x S.ty
GivesAsked d a (of_width W) x = IsWidth a W.poly x
GivesAsked d a (of_number N) x = x ≡ int N.number
GivesAsked d a (of_known S W) x = IsWidth a W.poly x
GivesAsked d a (of_divisor span k) x = x ≡ int (pos k)

-- a result, where the body has one, at the parameters of the body; its bits get the bitfields of the result where the body ends
abbrev pub GivesResult : (List ℕ → Option Ty) → Assignment → Option Ty → Option Value → Type 0
GivesResult d a None None = Unit {0}
GivesResult d a None (Some x) = ⊥
GivesResult d a (Some T) None = ⊥
GivesResult d a (Some T) (Some x) = (has_type a x T ≡ true) × Built d x

abbrev pub FormedResult : (List ℕ → Option Ty) → Option Ty → Type 0
FormedResult d None = Unit {0}
FormedResult d (Some T) = WellFormed d T

-- an exception is being handled
abbrev pub Handles : List Value → Type 0
Handles [] = ⊥
Handles (x ∷ xs) = Unit {0}

abbrev pub result_at : Assignment → Option Ty → Option Closed
result_at a None = None
result_at a (Some T) = Some (type_with T a)

-- a statement in a body, whose result is taken at the parameters
pub record StmtClaim : Type 0 where
  pub body : Body
  pub done : Done
  pub present : Assignment
  pub params : Assignment
  pub around : Around

-- a call that opens a frame, as it was judged: an expression with its type, or a statement
pub data Caller : Type 0 where
  by_expr : Here → Expr → Typed → Caller
  by_stmt : StmtClaim → Stmt → Caller

abbrev pub caller_at : Caller → Here
caller_at (by_expr H e S) = H
caller_at (by_stmt j s) = record { scope = j.body.scope; present = j.present; around = j.around }

-- the frame that waits for a call from outside
abbrev pub IsOutermost : Frame → List Frame → List ℕ → Type 0
IsOutermost f fs ids = (f ≡ record { names = []; handled = [] }) × (fs ≡ []) × (ids ≡ [])

module _ (tests : Tests) (base : List Entry) (subs : List Signature) (loose : Bool) where
  -- what is known of the body that a node stands in, where one may stand outside bodies too
  abbrev pub Bound : Type 0 → Type 0
  Bound P = (loose ≡ true) ⊎ P

  -- a call of the subprogram of this number
  abbrev pub IsCaller : Caller → ℕ → Type 0
  IsCaller (by_expr H e S) id = (typed tests e H.scope ≡ Ok S) × TreeCalls S.tree id
  IsCaller (by_stmt j s) id = (found_stmt tests s j.body ≡ Ok j.done) × ActCalls j.done.act id × Bound (IsBodyOf subs j.body j.around.live)

  -- a frame waits for a call, with whose scope it agrees
  pub record Waiting (f : Frame) (fs : List Frame) (id : ℕ) (ids : List ℕ) : Type 0 where
    pub caller : Caller
    pub is_caller : IsCaller caller id
    pub globals : List Binding
    pub agrees : Agrees base (caller_at caller).scope.names (caller_at caller).present (waiting globals f fs ids)
    pub subs_are : (caller_at caller).scope.subs ≡ subs
    pub counted : Bound (Ruled (caller_at caller).scope.names (caller_at caller).scope.subs)
    pub around_is : around_of (waiting globals f fs ids) ≡ (caller_at caller).around

  -- a node of this class stands in the body of the subprogram that was called last, and each caller's frame waits
  abbrev pub StandsOver : Effect → List Frame → List ℕ → Type 0
  StandsOver k [] ids = ⊥
  StandsOver k (f ∷ fs) [] = ⊥
  StandsOver k (f ∷ fs) (id ∷ ids) = StandsIn subs k (id ∷ ids) × (IsOutermost f fs ids ⊎ ((q : Waiting f fs id ids) × Bound (StandsOver (caller_at q.caller).scope.class fs ids)))

  abbrev pub Stands : Effect → Around → Type 0
  Stands k r = Bound (StandsOver k r.callers r.live)

  -- the state agrees with the scope, whose subprograms are those of the program, and of which the rules of scopes hold, and what is
  -- around its frame is what was there
  pub record At (H : Here) (c : Core) : Type 0 where
    pub agrees : Agrees base H.scope.names H.present c
    pub subs_are : H.scope.subs ≡ subs
    pub around_is : around_of c ≡ H.around
    pub stands : Stands H.scope.class H.around
    pub counted : Bound (Ruled H.scope.names H.scope.subs)

  -- where an exception comes out: the class of the scope is that of what writes, and the state agrees with these names, and maybe with more
  -- behind them, at an assignment that is the same on them
  pub record Over (class : Effect) (names : List Entry) (a : Assignment) (around : Around) (x : Value) (c : Core) : Type 0 where
    pub raised : Raised (types_in base) x
    pub writes : at_most Writes class ≡ true
    pub more : List Entry
    pub later : Assignment
    pub same : SameOn names a later
    pub agrees : Agrees base (names ++ more) later c
    pub around_is : around_of c ≡ around

  -- an expression with its typed tree
  pub record ExprIn (H : Here) (q : Asked) (e : Expr) (t : Tree) (c : Core) : Type 0 where
    pub answers : Answers tests q e H.scope
    pub is_tree : tree_asked q ≡ t
    pub at : At H c

  -- a statement with its typed tree; its result is the same type at all later assignments
  pub record StmtIn (j : StmtClaim) (s : Stmt) (t : Act) (c : Core) : Type 0 where
    pub is_found : found_stmt tests s j.body ≡ Ok j.done
    pub is_tree : j.done.act ≡ t
    pub at : At (record { scope = j.body.scope; present = j.present; around = j.around }) c
    pub body_is : Bound (IsBodyOf subs j.body j.around.live)
    pub formed : FormedResult (types_in base) j.body.result
    pub result_is : (b : Assignment) → SameOn j.body.scope.names j.present b → result_at b j.body.result ≡ result_at j.params j.body.result
    pub handles : j.body.handles ≡ true → Handles j.around.handled
    pub scope_good : GoodScope tests j.body.scope

  -- a statement that ends: its end can be reached, and what is visible after it agrees
  pub record Ended (j : StmtClaim) (falls : Bool) (c : Core) : Type 0 where
    pub reached : falls ≡ true
    pub later : Assignment
    pub same : SameOn j.body.scope.names j.present later
    pub agrees : Agrees base j.done.names later c
    pub around_is : around_of c ≡ j.around

  -- one that returns
  pub record Left (j : StmtClaim) (o : Option Value) (c : Core) : Type 0 where
    pub gives : GivesResult (types_in base) j.params j.body.result o
    pub more : List Entry
    pub later : Assignment
    pub agrees : Agrees base (j.body.scope.names ++ more) later c
    pub around_is : around_of c ≡ j.around

  abbrev pub Ends : StmtClaim → Bool → Exit → Core → Type 0
  Ends j b Normal c = Ended j b c
  Ends j b (Returned o) c = Left j o c

  abbrev pub our_each : Claims Core BareCore Expr Tree Stmt Act
  our_each = record {
    seen = erased;
    I = Here × Asked;
    J = StmtClaim × Bool;
    expr_in = λ i e t c. ExprIn i.0 i.1 e t c;
    expr_out = λ i x c. GivesAsked (types_in base) i.0.present i.1 x × At i.0 c;
    expr_thrown = λ i x c. Over i.0.scope.class i.0.scope.names i.0.present i.0.around x c;
    stmt_in = λ j s t c. StmtIn j.0 s t c × (j.1 ≡ falls s);
    stmt_out = λ j x c. Ends j.0 j.1 x c;
    stmt_thrown = λ j x c. Over j.0.body.scope.class j.0.body.scope.names j.0.present j.0.around x c;
    halted = λ c. GlobalsMatch base c.globals;
  }

  -- and several of them at once
  abbrev pub our : Claims Core BareCore Expr Tree Stmt Act
  our = several our_each
