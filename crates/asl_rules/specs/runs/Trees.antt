-- Typed trees: what a run needs of a body that is well formed. A name of storage is a slot, a label is its value, a field is its number among the fields of its
-- type, a bitfield its places, a call has the number of the subprogram that was chosen, and no part of a tree is found by a name.
use Rattle.std.specs.Prelude.{ℕ, ℤ, Bool, List, Option}
use Rattle.asl_syn.specs.declared.token.Span.{Span}
use Rattle.asl_syn.specs.declared.tree.UnaryOperator.{UnaryOperator}
use Rattle.asl_syn.specs.declared.tree.BinaryOperator.{BinaryOperator}
use Rattle.asl_syn.specs.declared.tree.Direction.{Direction}
use Rattle.asl_syn.specs.declared.tree.PrintKind.{PrintKind}
use Rattle.asl_rules.specs.declared.effect.Effect.{Effect}
use Rattle.asl_rules.specs.declared.slot.Slot.{Slot}
use Rattle.asl_rules.specs.types.Types.{Ty, BitField}
use Rattle.asl_rules.specs.values.Values.{Value}
use Rattle.asl_rules.specs.declarations.Routines.{Routine}
use Rattle.asl_rules.specs.types.Shapes.{SliceShape, PatternShape, PatternShapes, TypeShape}

-- where an expression stands, its type and its effect
pub record Note : Type 0 where
  pub span : Span
  pub ty : Ty
  pub effect : Effect

-- what a construction makes: a record by the name of the declaration that writes its type, and an exception also by the name that it is built with and those
-- that this reaches
pub data Shell : Type 0 where
  record_shell : List ℕ → Shell
  exception_shell : List ℕ → List (List ℕ) → List ℕ → Shell

-- a field of a construction: its name, its type, and the place of its value among those that are given
pub record FieldGiven : Type 0 where
  pub name : List ℕ
  pub ty : Ty
  pub place : ℕ

-- what is called: a subprogram of the program by its number, or one of the library
pub data Callee : Type 0 where
  own : ℕ → Callee
  of_library : Routine → Callee

-- ---- expressions

-- a call has the places of the arguments whose widths stand for parameters that are omitted, the parameters in braces, and the arguments
mutual
  pub data Tree : Type 0 where
    Int : Note → ℕ → Tree
    Constant : Note → Value → Tree
    Read : Note → Slot → Tree
    Unary : Note → UnaryOperator → Tree → Tree
    Binary : Note → BinaryOperator → Tree → Tree → Tree
    Conditional : Note → Tree → Tree → Tree → Tree
    Tuple : Note → Trees → Tree
    Construct : Note → Shell → List FieldGiven → Trees → Tree
    Call : Note → Callee → List ℕ → Trees → Trees → Tree
    Field : Note → Tree → ℕ → Tree
    Bitfield : Note → Tree → BitField → Tree
    Bitfields : Note → Tree → List BitField → Tree
    Slices : Note → Tree → List SliceShape → Trees → Tree
    Element : Note → Tree → Tree → Tree
    As : Note → Tree → TypeShape → Trees → Tree
    In : Note → Tree → PatternShape → Trees → Tree

  pub data Trees : Type 0 where
    no_tree : Trees
    tree_and : Tree → Trees → Trees

abbrev pub note_of : Tree → Note
note_of (Int n z) = n
note_of (Constant n x) = n
note_of (Read n s) = n
note_of (Unary n o a) = n
note_of (Binary n o a b) = n
note_of (Conditional n e a b) = n
note_of (Tuple n es) = n
note_of (Construct n s gs es) = n
note_of (Call n s gs ps es) = n
note_of (Field n a i) = n
note_of (Bitfield n a f) = n
note_of (Bitfields n a fs) = n
note_of (Slices n a ss es) = n
note_of (Element n a i) = n
note_of (As n a t es) = n
note_of (In n a p es) = n

-- where a tree stands
abbrev pub tree_at : Tree → Span
tree_at t = (note_of t).span

-- the type of its value
abbrev pub tree_type : Tree → Ty
tree_type t = (note_of t).ty

-- ---- places

-- a step from a place into its value, with the place of its faults
pub data TreeStep : Type 0 where
  into_field : Span → ℕ → TreeStep
  into_bitfield : Span → BitField → TreeStep
  into_bitfields : Span → List BitField → TreeStep
  into_slices : Span → List SliceShape → Trees → TreeStep
  into_element : Span → Tree → TreeStep

-- a place of an assignment: where its name stands, which part of the value it takes (the number of a part of the tuple, and so on into that part), where the
-- name is held, and the way into its value
pub record TreePlace : Type 0 where
  pub span : Span
  pub way : List ℕ
  pub slot : Slot
  pub steps : List TreeStep

-- ---- statements

-- what a declaration takes of its value, each in the next place of the frame: nothing, all, or these parts
pub data Taken : Type 0 where
  nothing : Taken
  whole : Taken
  in_parts : List Bool → Taken

-- one thing that is printed: the text of a string with its quotes, or an expression
pub data TreeItem : Type 0 where
  Verbatim : List ℕ → TreeItem
  Shown : Tree → TreeItem

-- a declaration has the type that is written, where one is; one without an initialiser has how many names it declares, and where its type is written
mutual
  pub data Act : Type 0 where
    Pass : Span → Act
    Unreachable : Span → Act
    Assert : Span → Tree → Act
    Declare : Span → Option Ty → Taken → Tree → Act
    DeclareFirst : Span → ℕ → Span → TypeShape → Trees → Act
    Assign : Span → List TreePlace → Tree → Act
    Invoke : Span → Callee → List ℕ → Trees → Trees → Act
    If : Span → Tree → Acts → Branches → Acts → Act
    Case : Span → Tree → Alternatives → Last → Act
    For : Span → Tree → Direction → Tree → Option Tree → Acts → Act
    While : Span → Tree → Option Tree → Acts → Act
    Repeat : Span → Acts → Tree → Option Tree → Act
    Return : Span → Option Tree → Act
    Throw : Span → Option Tree → Act
    Try : Span → Acts → Catchers → Last → Act
    Print : Span → PrintKind → List TreeItem → Act

  pub data Acts : Type 0 where
    no_act : Acts
    act_and : Act → Acts → Acts

  -- `elsif`: a condition and a list
  pub data Branches : Type 0 where
    no_branch : Branches
    branch_and : Tree → Acts → Branches → Branches

  -- `when`: patterns, the expressions in them, a condition and a list
  pub data Alternatives : Type 0 where
    no_alternative : Alternatives
    alternative_and : PatternShapes → Trees → Option Tree → Acts → Alternatives → Alternatives

  -- `when` of a `try`: whether the exception has a name there, the name of the type, and a list
  pub data Catchers : Type 0 where
    no_catcher : Catchers
    catcher_and : Bool → List ℕ → Acts → Catchers → Catchers

  -- `otherwise`
  pub data Last : Type 0 where
    none_last : Last
    otherwise : Acts → Last

abbrev pub act_at : Act → Span
act_at (Pass span) = span
act_at (Unreachable span) = span
act_at (Assert span e) = span
act_at (Declare span t b e) = span
act_at (DeclareFirst span n at t es) = span
act_at (Assign span ps e) = span
act_at (Invoke span s gs ps es) = span
act_at (If span e first others last) = span
act_at (Case span e alternatives last) = span
act_at (For span a d b l body) = span
act_at (While span e l body) = span
act_at (Repeat span body e l) = span
act_at (Return span e) = span
act_at (Throw span e) = span
act_at (Try span body cs last) = span
act_at (Print span kind is) = span

-- a subprogram: where its name stands, the types of its parameters, where they are written, and of its formals, its result, none in a procedure, how often it may
-- be active at one time, and its body
pub record TreeFunc : Type 0 where
  pub span : Span
  pub params : List (Option Ty)
  pub formals : List Ty
  pub result : Option Ty
  pub limit : ℤ
  pub body : Acts
