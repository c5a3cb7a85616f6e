-- States that agree with scopes at an assignment of integers to the atoms, which is fixed for a frame: each name that stands for storage has a value there
-- that belongs to its type, and where it counts in widths, its integer; each caller's frame holds the names of some scope at an assignment of its own; and
-- what is being handled are exceptions.
use Rattle.std.specs.Prelude.{◌≡◌, ℕ, ◌<◌, pos, true, false, List, [], ◌∷◌, ◌++◌, Option, Some, None}
use Rattle.asl_poly.specs.Poly.{IsPolynomial, HasWidth}
use Rattle.asl_rules.specs.types.Types.{Ty, kind, exceptions}
use Rattle.asl_rules.specs.types.Closed.{Assignment, type_with, width_at}
use Rattle.asl_rules.specs.values.Values.{Value, int}
use Rattle.asl_rules.specs.declarations.Scopes.{Counted, Entry, Standing, Stored, Subprogram, TypeName, Label, Storage, standing_of, type_of_name, known_value, next_atom}
use Rattle.asl_rules.specs.private.WellFormed.{WellFormed, Fixed}
use Rattle.asl_rules.specs.runs.States.{Under, of_type, of_value, Binding, Frame, Core}
use Rattle.asl_rules.specs.private.Belonging.{InType}

-- what the names outside bodies say of types
abbrev pub types_in : List Entry → List ℕ → Option Ty
types_in base name = type_of_name name base

-- what a place of this type may be stored under: the type, or a value that belongs to it
abbrev pub IsUnder : (List ℕ → Option Ty) → Assignment → Under → Ty → Type 0
IsUnder declared a (of_type U) T = U ≡ type_with T a
IsUnder declared a (of_value y) T = InType declared a y T

-- a value that is known before any run
abbrev pub IsKnown : Option Value → Value → Type 0
IsKnown None x = Unit {0}
IsKnown (Some y) x = x ≡ y

-- what counts in widths is the integer of its polynomial, which is whole and within the limits
abbrev pub CountsAs : Assignment → Option Counted → Value → Type 0
CountsAs a None x = Unit {0}
CountsAs a (Some c) x = (x ≡ int (width_at c.poly a)) × HasWidth c.poly a (width_at c.poly a) × IsPolynomial c.poly

-- a binding holds the storage of this name, whose type is well formed
pub record Holds (declared : List ℕ → Option Ty) (a : Assignment) (name : List ℕ) (s : Storage) (b : Binding) : Type 0 where
  pub name_is : b.name ≡ name
  pub under_is : IsUnder declared a b.under s.ty
  pub mutable_is : b.is_mutable ≡ s.is_mutable
  pub well_formed : WellFormed declared s.ty
  pub belongs : InType declared a b.value s.ty
  pub known : IsKnown (known_value s) b.value
  pub counts : CountsAs a s.counted b.value

-- outside bodies nothing has atoms
abbrev pub no_atoms : Assignment
no_atoms n = pos 0

pub record HoldsGlobal (declared : List ℕ → Option Ty) (name : List ℕ) (s : Storage) (b : Binding) : Type 0 where
  pub holds : Holds declared no_atoms name s b
  pub fixed : Fixed s.ty
  pub no_atom : s.counted ≡ None

-- storage has the next binding, and other names none
abbrev pub global_matches : (List ℕ → Option Ty) → List ℕ → Standing → List Binding → (List Binding → Type 0) → Type 0
global_matches declared name (Stored s) [] rest = ⊥
global_matches declared name (Stored s) (b ∷ bs) rest = HoldsGlobal declared name s b × rest bs
global_matches declared name Subprogram bs rest = rest bs
global_matches declared name (TypeName T) bs rest = rest bs
global_matches declared name (Label T x) bs rest = rest bs

abbrev pub AllMatch : (List ℕ → Option Ty) → List Entry → List Binding → Type 0
AllMatch declared [] [] = Unit {0}
AllMatch declared [] (b ∷ bs) = ⊥
AllMatch declared (e ∷ es) bs = global_matches declared e.name e.standing bs (AllMatch declared es)

-- the globals hold the storage that is declared outside bodies, in the same order
abbrev pub GlobalsMatch : List Entry → List Binding → Type 0
GlobalsMatch base bs = AllMatch (types_in base) base bs

abbrev pub local_matches : (List ℕ → Option Ty) → Assignment → List ℕ → Standing → Binding → Type 0
local_matches declared a name (Stored s) b = Holds declared a name s b
local_matches declared a name Subprogram b = ⊥
local_matches declared a name (TypeName T) b = ⊥
local_matches declared a name (Label T x) b = ⊥

-- a frame holds the local storage, in the same order
abbrev pub FrameMatches : (List ℕ → Option Ty) → Assignment → List Entry → List Binding → Type 0
FrameMatches declared a [] [] = Unit {0}
FrameMatches declared a [] (b ∷ bs) = ⊥
FrameMatches declared a (e ∷ es) [] = ⊥
FrameMatches declared a (e ∷ es) (b ∷ bs) = local_matches declared a e.name e.standing b × FrameMatches declared a es bs

abbrev pub IsPlain : Standing → Type 0
IsPlain (Stored s) = (s.initial ≡ None) × (s.is_global ≡ false) × (s.is_mutable ≡ true → s.counted ≡ None)
IsPlain Subprogram = Unit {0}
IsPlain (TypeName T) = Unit {0}
IsPlain (Label T x) = Unit {0}

-- local storage is not global, has no value that is known before any run, and counts in widths only where it can't be assigned
abbrev pub AllPlain : List Entry → Type 0
AllPlain [] = Unit {0}
AllPlain (e ∷ es) = IsPlain e.standing × AllPlain es

-- no local name is one of those outside
abbrev pub AllFresh : List Entry → List Entry → Type 0
AllFresh base [] = Unit {0}
AllFresh base (e ∷ es) = (standing_of e.name base ≡ None) × AllFresh base es

-- ---- exceptions

-- an exception that a program can throw belongs to a type of exceptions, which have no atoms
pub record Raised (declared : List ℕ → Option Ty) (x : Value) : Type 0 where
  pub ty : Ty
  pub name : List ℕ
  pub well_formed : WellFormed declared ty
  pub kind_is : kind ty ≡ exceptions name
  pub belongs : InType declared no_atoms x ty

abbrev pub AllRaised : (List ℕ → Option Ty) → List Value → Type 0
AllRaised declared [] = Unit {0}
AllRaised declared (x ∷ xs) = Raised declared x × AllRaised declared xs

-- ---- states

-- a caller's frame holds local storage, at an assignment of its own
pub record Waits (base : List Entry) (f : Frame) : Type 0 where
  pub locals : List Entry
  pub present : Assignment
  pub fresh : AllFresh base locals
  pub plain : AllPlain locals
  pub frame : FrameMatches (types_in base) present locals f.names
  pub handled : AllRaised (types_in base) f.handled

abbrev pub AllWait : List Entry → List Frame → Type 0
AllWait base [] = Unit {0}
AllWait base (f ∷ fs) = Waits base f × AllWait base fs

-- the state agrees with these visible names, of which the base stands outside bodies
pub record Agrees (base names : List Entry) (a : Assignment) (c : Core) : Type 0 where
  pub locals : List Entry
  pub names_are : names ≡ base ++ locals
  pub fresh : AllFresh base locals
  pub plain : AllPlain locals
  pub frame : FrameMatches (types_in base) a locals c.frame
  pub globals : GlobalsMatch base c.globals
  pub handled : AllRaised (types_in base) c.handled
  pub callers : AllWait base c.callers

-- two assignments give the atoms of these names the same integers
abbrev pub SameOn : List Entry → Assignment → Assignment → Type 0
SameOn names a b = (n : ℕ) → n < next_atom names → a n ≡ b n
